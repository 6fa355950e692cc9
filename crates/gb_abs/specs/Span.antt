-- The addresses that an access may meet (own: those of a pair run from both least bytes to both greatest).
use Rattle.std.specs.Prelude.{ℕ, ◌≤◌, Bool, ◌&&◌, ◌==◌, nat_le}
use Rattle.gb_ops.specs.Cartridge.{is_within}
use Rattle.gb_ops.specs.Pairs.{word}
use Rattle.gb_domain.specs.declared.types.Val.{Val}
use Rattle.gb_domain.specs.LowBits.{no_low_bits, are_congruent}
use Rattle.gb_domain.specs.Meaning.{Has}
use Rattle.gb_abs.specs.declared.span.Span.{Span}

-- an address alone
abbrev pub one : ℕ → Span
one a = record { first = a; last = a; low = no_low_bits }

-- the addresses in a pair of registers, of whose low bits nothing is asked
unfoldable pub pair_span : Val → Val → Span
pair_span high low = record { first = word high.lo low.lo; last = word high.hi low.hi; low = no_low_bits }

abbrev pub is_one : Span → Bool
is_one s = s.first == s.last

-- all of them lie from first to last
abbrev pub is_inside : ℕ → ℕ → Span → Bool
is_inside first last s = nat_le first s.first && nat_le s.last last

-- one of them may lie from first to last
abbrev pub may_meet : ℕ → ℕ → Span → Bool
may_meet first last s = nat_le s.first last && nat_le first s.last

-- an address counts: it is one of them, and has the low bits
abbrev pub counts : Span → ℕ → Bool
counts s a = is_within s.first s.last a && are_congruent s.low.count a s.low.bits

-- an address is one of them, and has the low bits
pub record IsIn (s : Span) (a : ℕ) : Type 0 where
  pub first : s.first ≤ a
  pub last : a ≤ s.last
  pub low : Has s.low a
