-- The value of a part is what reading must return for the call that asked for it.
use mathlib.Core.Path.{◌≡◌, refl}
use mathlib.Core.List.{List, []}
use Prim.Native.Nat.{ℕ, ◌-◌}
use native.Mathlib.Omega.{arith}
use lib.Dec.{ltb}
use lib.IntN.{pos, negsuc}
use lib.ListN.{length}
use Rattle.prelude.specs.Each.{Each}
use Rattle.prelude.proofs.Tests.{pick_elim}
use Rattle.little_endian.proofs.Laws.{value_little}
use Rattle.token.specs.Token.{token}
use Rattle.token.proofs.Laws.{length_emit}
use Rattle.writer.specs.Call.{Call, scalar, integer, float32, float64, text, bytes, variant, reference, pointer, open_array, open_map, open_tag, open_variant1}
use Rattle.writer.specs.Call.{open_variant_n, close}
use Rattle.writer.specs.Given.{Given}
use Rattle.writer.specs.declared.Scalar.TheVariants.{False, True, Null}
use Rattle.guarantees.specs.TokenValues.{token_end, value_of_token}
use Rattle.guarantees_writer.specs.Model.{Part, Request, adds, ends, request_of, form_of}
use Rattle.guarantees_writer.specs.AcceptedParts.{parts_added}
use Rattle.guarantees.specs.ReadsBack.{value_of_part}
use Rattle.guarantees.specs.CallValues.{first, value_of_call, body_of_call}
use Rattle.guarantees.proofs.Invariant.{added_by}

-- where the body starts
body_first : (q k n a : ℕ) (b : List ℕ) → token_end q (token k n a b) - length b ≡ first q k n a
body_first q k n a b = omega (arith, length_emit k n a b, length_emit k n a [])

call_value : (c : Call) → Given c → (q : ℕ) → let p = added_by (request_of c) in (value_of_part q p ≡ value_of_call q c) × (p.body ≡ body_of_call c)
unfolding value_of_part value_of_token form_of
call_value (scalar False) g q = (refl, refl)
call_value (scalar True) g q = (refl, refl)
call_value (scalar Null) g q = (refl, refl)
call_value (integer (pos n)) g q = (refl, refl)
call_value (integer (negsuc n)) g q = (refl, refl)
call_value (float32 b) g q = (rw (value_little 4 b g), refl)
call_value (float64 b) g q = (rw (value_little 8 b g), refl)
call_value (text s) g q = (rw (body_first q 4 (length s) 0 s), refl)
call_value (bytes s) g q = (rw (body_first q 5 (length s) 0 s), refl)
call_value (open_array n) g q = (refl, refl)
call_value (open_map n) g q = (refl, refl)
call_value (open_tag n) g q = (refl, refl)
call_value (variant i) g q = (refl, refl)
call_value (open_variant1 i) g q = (refl, refl)
call_value (open_variant_n i n) g q = (refl, refl)
call_value (reference x) g q = (refl, refl)
call_value (pointer x) g q = (refl, refl)
call_value (close e) g q = (refl, refl)

-- each part that an accepted request adds is the one that it asks for
added_parts : (P : Part → Type 0) (l : Request) (w : ℕ) → P (added_by l) → Each P (parts_added l w)
added_parts P (adds p) w own = (own, tt)
added_parts P (ends e) w own = pick_elim (Each P) (ltb 255 (w - e - 1)) (λ _. (own, tt)) (λ _. tt)

pub part_of_call : (c : Call) → Given c → (w q : ℕ)
    → Each (λ p. (value_of_part q p ≡ value_of_call q c) × (p.body ≡ body_of_call c)) (parts_added (request_of c) w)
part_of_call c g w q = added_parts (λ p. (value_of_part q p ≡ value_of_call q c) × (p.body ≡ body_of_call c)) (request_of c) w (call_value c g q)
