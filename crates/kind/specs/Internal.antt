-- The code's packed form of a rule, and what code relies on to compute with one. No contract of a function for users cites this file.
--
--   bound c     the greatest n, for a code c below 8: c itself below 3; the greatest of 32, 63 and 64 bits for 3, 4 and 5
--   unpack c    the rule of the packed form c, which has sixteen bits
--   Row r       r can be computed with in 64 bits; `rule_row` of proofs/Laws.antt: each rule of the table can
use Rattle.std.specs.Prelude.{◌≡◌, true, ℕ, ◌+◌, ◌-◌, ◌*◌, ◌/◌, ◌%◌, ◌^◌, ◌≤◌, ◌<◌, min, eqb}
use Rattle.prelude.specs.Pick.{pick}
use Rattle.kind.specs.declared.Rule.{Rule}

unfoldable pub bound : ℕ → ℕ
bound c = pick (eqb c 5) (2 ^ 64 - 1) (pick (eqb c 4) (2 ^ 63 - 1) (pick (eqb c 3) (2 ^ 32 - 1) c))

unfoldable pub unpack : ℕ → Rule
unpack c = record {
  lows = c % 32;
  most = bound (c / 32 % 8);
  fixed = c / 1024 % 2 * 4;
  scale = c / 256 % 8;
  single = c / 2048 % 2;
  each = c / 4096 % 4;
  args = eqb (c / 16384 % 2) 1;
  immediate = eqb (c / 32768) 1;
}

pub record Row (r : Rule) : Type 0 where
  -- a low nibble in use is within the bound
  pub lows : r.lows ≤ r.most + 1
  pub single : r.single ≤ 1
  pub unit : r.scale + r.each ≤ 4
  pub need : r.fixed + (r.scale + r.each) * min r.most (2 ^ 63 - 1) < 2 ^ 64
  -- fixed bytes only beside bytes for each n
  pub fixed : r.fixed ≤ 4 * r.scale
  -- if a second number counts the items, there is nothing else
  pub many : r.args ≡ true → r.scale + r.single + r.each ≡ 0
