-- What is well formed in the strict mode is well formed in either, with the same values: a token, a value, a file (`well_formed_of_strict`).
use mathlib.Core.List.{List}
use Prim.Native.Nat.{ℕ}
use Rattle.leb128.specs.declared.Mode.{Mode}
use Rattle.leb128.specs.declared.Mode.TheVariants.{Strict}
use Rattle.token.specs.Token.{Token}
use Rattle.token.proofs.Laws.{spelled_of_strict}
use Rattle.values.specs.Values.{Value, Sound, Item, Formed, Values, WellFormed}
use Rattle.values.proofs.Members.{each_imp}

module _ (mode : Mode) where
  sound_of_strict : (t : Token) → Sound Strict t → Sound mode t
  sound_of_strict t s = record { allowed = s.allowed; spelled = spelled_of_strict mode t s.spelled; text = s.text }

  item_of_strict : (t : Token) → Item Strict t → Item mode t
  item_of_strict t i = record { sound = sound_of_strict t i.sound; immediate = i.immediate }

  formed_of_strict : (v : Value) → Formed Strict v → Formed mode v
  formed_of_strict v f = record {
    head = sound_of_strict v.head f.head;
    items = each_imp (Item Strict) (Item mode) item_of_strict v.items f.items;
    count = f.count;
  }

  values_of_strict : (vs : List Value) → Values Strict vs → Values mode vs
  values_of_strict vs v = record { formed = each_imp (Formed Strict) (Formed mode) formed_of_strict vs v.formed; targets = v.targets }

  pub well_formed_of_strict : {file : List ℕ} {vs : List Value} {entry : ℕ} → WellFormed Strict file vs entry → WellFormed mode file vs entry
  well_formed_of_strict {vs = vs} w = record {
    short = w.short;
    values = values_of_strict vs w.values;
    delta = w.delta;
    same = w.same;
    named = w.named;
    start = w.start;
  }
