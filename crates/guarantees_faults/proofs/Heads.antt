-- `scan` refuses a token exactly as `RefusedHead` says: one proof over all kinds.
--
-- In order: `scan` goes on as far as the rows say that it does; a token that it reads (`scan_at_whole`), and where the body is (`whole_body`); so it
-- answers each row (`error_of_head`); what it answers is a row, or a token that is read (`scan_at_scans`); both ways (`head_refused_exactly`).
use mathlib.Core.Path.{◌≡◌, refl, sym, ap, ◌∙◌, subst}
use mathlib.Core.Logic.{◌↔◌}
use Prim.Native.Nat.{ℕ, ◌+◌, ◌-◌, ◌/◌, ◌%◌, ◌≤◌}
use mathlib.Core.Bool.{Bool, not}
use mathlib.Core.List.{List, [], ◌∷◌}
use native.Mathlib.Omega.{arith}
use borrow.Author.Tests.{le-leb, lt-leb, lt-ltb, le-ltb, not-true, not-false}
use lib.Dec.{leb}
use lib.ListN.{length, take, drop, take-append-drop, drop_of_length-le, length-drop, length-append}
use lib.Seq.{drop-append_seam, length-take-le}
use Rattle.prelude.specs.Answer.{Answer, ok, error, Res, got, bad, guard, need, ◌>>◌, ◌>>=◌}
use Rattle.prelude.proofs.Tests.{and_l, and_r, unless, unless_by, facts}
use Rattle.error.specs.Error.{Fault, fault, RANGE}
use Rattle.leb128.specs.declared.Mode.{Mode}
use Rattle.kind.specs.Kind as kinds
use Rattle.kind.specs.Kind.{rule, size, counted, immediate}
use Rattle.token.specs.Token.{Token}
use Rattle.token.specs.Scan.{Spelling, number, made, body, scan_kind, scan}
use Rattle.scan.specs.Answers.{head_of, scan_at, body_on}
use Rattle.scan.specs.declared.Head.{Head}
use Rattle.guarantees_faults.specs.Faults as faults
use Rattle.guarantees_faults.specs.Faults.{Header, Usable, Numbered, Counted, Whole, RefusedHead}
use Rattle.guarantees_faults.proofs.Readers.{guard_elim, need_elim, need_fails, need_on, bind_fails, bind_on}
use Rattle.guarantees_faults.proofs.Numbers.{read, number_is, number_none, number_fails, number_elim, EndOf, end_trans, number_end}
use Rattle.guarantees_faults.proofs.Shortages.{shortage_by, float_need, float_shortage, exceeds_need, exceeds_shortage}

module _ (mode : Mode) (s : List ℕ) (inner : Bool) (q : ℕ) where
  -- what scan reads after a header h: from its number on, and from its second number on
  abbrev from_number : ℕ → List ℕ → Res Fault Token
  from_number h =
      number mode q (leb 15 (h % 16)) >>= (λ v.
      need (leb (h % 16 + v.value) (rule (h / 16)).most) (fault RANGE q)
      >> (number mode q (rule (h / 16)).args >>= body q (length s) (h / 16) (rule (h / 16)) (h % 16 + v.value) v))

  abbrev from_count : ℕ → ℕ → Spelling → List ℕ → Res Fault Token
  from_count h n v = number mode q (rule (h / 16)).args >>= body q (length s) (h / 16) (rule (h / 16)) n v

  abbrev scanned : Res Fault Token
  scanned = scan mode inner q (drop q s)

  -- the number after the header, with its bytes
  abbrev first_of : {h n a : ℕ} {m : List ℕ} → Counted mode s inner q h n a m → Spelling
  first_of c = read c.numbered.more c.numbered.after c.after

  -- ---- scan goes on

  header_end : {h : ℕ} {m : List ℕ} → Header mode s inner q h m → q + length (h ∷ m) ≡ length s
  header_end x = omega (arith, length-drop q s, ap length x)

  module _ {h : ℕ} {x : Res Fault Token} where
    usable_on : {m : List ℕ} → Usable mode s inner q h m → from_number h m ≡ x → scanned ≡ x
    unfolding scan scan_kind
    usable_on u e =
        rw (u.header, header_end u.header)
        (need_on _ _ _ (lt-ltb _ _ u.used) (need_on _ _ _ (ap not (unless inner (immediate (rule (h / 16))) u.flat)) e))

    numbered_on : {n : ℕ} {m : List ℕ} (r : Numbered mode s inner q h n m) → from_count h n (read r.more r.after m) m ≡ x → scanned ≡ x
    numbered_on r e =
        let bound : h % 16 + r.more ≤ (rule (h / 16)).most = omega (arith, r.sum, r.most) in
        usable_on r.usable (bind_on _ _ _ (number_is q r.number) (need_on _ _ _ (le-leb _ _ bound) (rw r.sum at e)))

    counted_on : {n a : ℕ} {m : List ℕ} (c : Counted mode s inner q h n a m)
        → body q (length s) (h / 16) (rule (h / 16)) n (first_of c) (read a c.after m) m ≡ x → scanned ≡ x
    counted_on c e = numbered_on c.numbered (bind_on _ _ _ (number_is q c.count) e)

  -- ---- a token that scan reads

  -- its head, by the bytes m after its numbers
  abbrev pub head_on : ℕ → ℕ → ℕ → List ℕ → Head
  head_on h n a m = record {
    kind = h / 16;
    n = n;
    items = kinds.pending (rule (h / 16)) n a;
    first = length s - length (drop (size (rule (h / 16)) n) m) - length (take (size (rule (h / 16)) n) m);
    end = length s - length (drop (size (rule (h / 16)) n) m);
  }

  abbrev pub head_of_whole : {h n : ℕ} {b : List ℕ} → Whole mode s inner q h n b → Head
  head_of_whole {h} {n} w = head_on h n w.args w.after

  -- these are an end of the region
  counted_end : {h n a : ℕ} {m : List ℕ} → Counted mode s inner q h n a m → EndOf s m
  counted_end {h} c =
      let all : EndOf s (drop q s) = record { front = take q s; same = sym (take-append-drop q s) } in
      let header : EndOf (drop q s) c.numbered.after = record { front = h ∷ []; same = c.numbered.usable.header } in
      end_trans all (end_trans header (end_trans (number_end c.numbered.number) (number_end c.count)))

  counted_le : {h n a : ℕ} {m : List ℕ} → Counted mode s inner q h n a m → length m ≤ length s
  counted_le {m = m} c = let end = counted_end c in omega (arith, ap length end.same, length-append end.front m)

  -- the body is where the head says
  body_shown : (h n a : ℕ) (m : List ℕ) → size (rule (h / 16)) n ≤ length m → EndOf s m → body_on s (head_on h n a m) ≡ take (size (rule (h / 16)) n) m
  body_shown h n a m room end =
      let p = end.front in
      let z = size (rule (h / 16)) n in
      let long : length s ≡ length p + length m = ap length end.same ∙ length-append p m in
      let left : length (drop z m) ≡ length m - z = length-drop z m in
      let own : length (take z m) ≡ z = length-take-le z m room in
      let first : (head_on h n a m).first ≡ length p = omega arith in
      let size : (head_on h n a m).end - (head_on h n a m).first ≡ z = omega arith in
      rw (size, first) (ap (λ x. take z (drop (length p) x)) end.same ∙ rw (drop-append_seam p m))

  module _ {h n : ℕ} {b : List ℕ} (w : Whole mode s inner q h n b) where
    taken : length (take (size (rule (h / 16)) n) w.after) ≡ size (rule (h / 16)) n
    taken = length-take-le (size (rule (h / 16)) n) w.after (omega (arith, w.room))

    pub whole_body : body_on s (head_of_whole w) ≡ b
    whole_body = body_shown h n w.args w.after (omega (arith, w.room)) (counted_end w.numbers) ∙ sym w.body

    -- the head's offsets: the one after the numbers, and the one after the body
    pub whole_first : (head_of_whole w).first ≡ length s - length w.after
    whole_first = omega (arith, w.room, counted_le w.numbers, taken, length-drop (size (rule (h / 16)) n) w.after)

    pub whole_end : (head_of_whole w).end ≡ length s - length w.after + size (rule (h / 16)) n
    whole_end = omega (arith, w.room, counted_le w.numbers, length-drop (size (rule (h / 16)) n) w.after)

    pub whole_size : length b ≡ size (rule (h / 16)) n
    whole_size = ap length w.body ∙ taken

    pub scan_at_whole : scan_at mode inner s q ≡ ok (head_of_whole w)
    unfolding scan_at head_of body guard
    scan_at_whole =
        let z = size (rule (h / 16)) n in
        let room : z + counted (rule (h / 16)) n w.args ≤ length w.after = omega (arith, w.room) in
        let second = read w.args w.numbers.after w.after in
        let whole : scanned ≡ got (made (h / 16) n (first_of w.numbers) second (take z w.after)) (drop z w.after) =
        counted_on w.numbers (rw (le-leb _ _ room)) in
        rw whole

  -- ---- what scan answers to each row

  scanned_bad : {f : Fault} → RefusedHead mode s inner q f → scanned ≡ bad f
  unfolding scan scan_kind body guard
  scanned_bad (faults.ended l) = rw (drop_of_length-le s l)
  scanned_bad (faults.reserved x low) = rw x (need_fails _ _ _ (le-ltb _ _ low))
  scanned_bad (faults.nested {h} x low item deep) =
      rw x (need_on _ _ _ (lt-ltb (h % 16) (rule (h / 16)).lows (omega arith)) (need_fails _ _ _ (rw (item, deep))))
  scanned_bad (faults.number u low x) = usable_on u (bind_fails _ _ _ (number_fails q (le-leb _ _ low) x))
  scanned_bad (faults.over u v high) = usable_on u (bind_on _ _ _ (number_is q v) (need_fails _ _ _ (lt-leb _ _ high)))
  scanned_bad (faults.second r two x) = numbered_on r (bind_fails _ _ _ (number_fails q two x))
  scanned_bad (faults.float {h} {n} {a} {m} c three l) =
      counted_on c (rw (lt-leb _ _ (float_need n a three l), float_shortage q (length s - length m) three))
  scanned_bad (faults.exceeds {p = p} {m} c x at) =
      let here : p ≡ length s - length m = omega arith in
      counted_on c (rw (lt-leb _ _ (exceeds_need x), exceeds_shortage q (length s - length m) x, here))

  pub error_of_head : {f : Fault} → RefusedHead mode s inner q f → scan_at mode inner s q ≡ error f
  unfolding scan_at head_of
  error_of_head x = rw (scanned_bad x)

  -- ---- what scan answers is a row, or a token that is read

  pub record Reads (x : Head) : Type 0 where
    pub h : ℕ
    pub n : ℕ
    pub b : List ℕ
    pub whole : Whole mode s inner q h n b
    pub same : x ≡ head_of_whole whole

  abbrev pub Scans : Answer Fault Head → Type 0
  Scans (ok x) = Reads x
  Scans (error f) = RefusedHead mode s inner q f

  abbrev ScansTo : Res Fault Token → Type 0
  ScansTo r = Scans (head_of (length s) r)

  header_scans : (h : ℕ) (m : List ℕ) → Header mode s inner q h m → ScansTo (scan_kind mode inner q (length s) (h / 16) (rule (h / 16)) (h % 16) m)
  unfolding scan_kind body head_of
  header_scans h m x =
      need_elim ScansTo _ _ m (λ e. faults.reserved x (omega facts)) (λ low.
      need_elim ScansTo _ _ m (λ e.
      let deep = not-false _ e in
      faults.nested x (omega facts) (and_l inner _ deep) (not-true _ (and_r inner _ deep))) (λ flat.
      let u : Usable mode s inner q h m = record { header = x; used = omega facts; flat = unless_by inner _ (not-true _ flat) } in
      number_elim mode q ScansTo _ _ m (λ e w bad. faults.number u (omega facts) bad) (λ v m₁ first.
      need_elim ScansTo _ _ m₁ (λ e. faults.over u first (omega facts)) (λ most.
      let r : Numbered mode s inner q h (h % 16 + v) m₁ = record { after = m; usable = u; more = v; number = first; sum = refl; most = omega facts } in
      number_elim mode q ScansTo _ _ m₁ (λ e w bad. faults.second r w bad) (λ a m₂ second.
      let c : Counted mode s inner q h (h % 16 + v) a m₂ = record { after = m₁; numbered = r; count = second } in
      guard_elim ScansTo _ _ _
      (λ e. shortage_by _ _ a (length m₂) (number_none second) (RefusedHead mode s inner q) q (length s - length m₂) (omega facts)
      (λ three l. faults.float c three l) (λ e x. faults.exceeds c x (omega (arith, counted_le c)))) (λ room.
      let w : Whole mode s inner q h (h % 16 + v) (take (size (rule (h / 16)) (h % 16 + v)) m₂) = record {
        args = a;
        after = m₂;
        numbers = c;
        room = omega facts;
        body = refl;
      } in
      record { h = h; n = h % 16 + v; b = _; whole = w; same = refl }))))))

  pub scan_at_scans : Scans (scan_at mode inner s q)
  unfolding scan_at scan head_of
  scan_at_scans = by_cases (drop q s) refl
    where
      by_cases : (r : List ℕ) → drop q s ≡ r → ScansTo (scan mode inner q r)
      by_cases [] e = faults.ended (omega (arith, length-drop q s, ap length e))
      by_cases (h ∷ m) e = rw (header_end e) (header_scans h m e)

  -- ---- both ways

  pub head_refused_exactly : (f : Fault) → (scan_at mode inner s q ≡ error f) ↔ RefusedHead mode s inner q f
  head_refused_exactly f = (λ e. subst Scans e scan_at_scans, error_of_head)
