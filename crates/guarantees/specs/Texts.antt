-- Text is UTF-8 (document 02, W-202), over files.
--
--   NotUtf8 mode s inner q
--                         at q of the region s, as an item if `inner`, is a whole text whose bytes are not UTF-8
--   TextsUtf8 mode file vs
--                         each text among the values vs of the file and their items is UTF-8, and the body query hands it back
use Rattle.std.specs.Prelude.{ℕ, ◌/◌, ◌≡◌, Bool, List}
use Rattle.utf8.specs.Utf8.{Utf8}
use Rattle.token.specs.Token.{Token}
use Rattle.values.specs.Values.{Value}
use Rattle.reader_body.specs.Body.{body_of}
use Rattle.guarantees_faults.specs.Faults.{Whole}
use Rattle.guarantees.specs.Places.{TokenAt}
use Rattle.leb128.specs.declared.Mode.{Mode}

pub record NotUtf8 (mode : Mode) (s : List ℕ) (inner : Bool) (q : ℕ) : Type 0 where
  pub header : ℕ
  pub number : ℕ
  pub body : List ℕ
  pub whole : Whole mode s inner q header number body
  pub text : header / 16 ≡ 4
  pub not : Utf8 body → ⊥

abbrev pub TextsUtf8 : Mode → List ℕ → List Value → Type 0
TextsUtf8 mode file vs = (j q : ℕ) (t : Token) → TokenAt vs j q t → t.kind ≡ 4 → Utf8 t.body × (body_of mode file q ≡ t.body)
