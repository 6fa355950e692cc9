-- Intervals of words, and the bounds of pairs and of what links read (abstract interpretation: the interval domain; own).
use Rattle.std.specs.Prelude.{Bool, ◌==◌, nat_lt, Option, Some, None}
use Rattle.gb_ops.specs.declared.op.Register.{Register}
use Rattle.gb_ops.specs.declared.op.Register.TheVariants.{B, C, D, E, H, L}
use Rattle.gb_ops.specs.Registers.{get}
use Rattle.gb_ops.specs.Pairs.{word}
use Rattle.gb_domain.specs.declared.types.Val.{Val}
use Rattle.gb_domain.specs.declared.pairs.WordPair.{WordPair}
use Rattle.gb_domain.specs.declared.pairs.WordPair.TheVariants as pair
use Rattle.gb_domain.specs.declared.pairs.Bounds.{Bounds}
use Rattle.gb_domain.specs.declared.pairs.Other.{Other}
use Rattle.gb_domain.specs.declared.pairs.Other.TheVariants as other
use Rattle.gb_domain.specs.declared.pairs.PairBounds.{PairBounds}
use Rattle.gb_domain.specs.Pairs.{facts_of, bounds_in}
use Rattle.gb_vals.specs.Logic.{smaller, larger}
use Rattle.gb_pairs.specs.declared.values.Values.{Values}

-- what is in both
abbrev pub cut : Bounds → Bounds → Bounds
cut x y = record { first = larger x.first y.first; last = smaller x.last y.last }

abbrev pub is_empty : Bounds → Bool
is_empty b = nat_lt b.last b.first

abbrev pub is_one : Bounds → Bool
is_one b = b.first == b.last

abbrev pub high_of : WordPair → Register
high_of pair.Bc = B
high_of pair.De = D
high_of pair.Hl = H

abbrev pub low_of : WordPair → Register
low_of pair.Bc = C
low_of pair.De = E
low_of pair.Hl = L

-- the words whose bytes are among those of two values
abbrev pub box : Val → Val → Bounds
box high low = record { first = word high.lo low.lo; last = word high.hi low.hi }

-- the bounds of a pair: the box of its bytes, cut to its own bounds
unfoldable pub bounds_of : WordPair → Values → Bounds
bounds_of p v = cut (box (get (high_of p) v.registers) (get (low_of p) v.registers)) (facts_of p v.pairs).bounds

-- 0 alone
abbrev pub zero_alone : Bounds
zero_alone = record { first = 0; last = 0 }

-- a register's bounds
abbrev pub bounds_of_val : Val → Bounds
bounds_of_val v = record { first = v.lo; last = v.hi }

-- the bounds of what a link reads, where it reads memory within b
unfoldable pub bounds_of_other : Bounds → Other → Values → Bounds
bounds_of_other b (other.Register r) v = bounds_of_val (get r v.registers)
bounds_of_other b (other.Pair p) v = bounds_of p v
bounds_of_other b (other.Cell a) v = b
bounds_of_other b other.Nothing v = zero_alone

-- the bounds of a link's base, where those of the pairs at entry are known
abbrev pub bounds_of_base : Option WordPair → PairBounds → Bounds
bounds_of_base None entered = zero_alone
bounds_of_base (Some p) entered = bounds_in p entered
