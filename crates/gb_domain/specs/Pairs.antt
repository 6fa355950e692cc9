-- Register pairs of which nothing is known, and which links there are (own format).
use Rattle.std.specs.Prelude.{◌≡◌, ℕ, ◌<◌, Bool, true, ◌&&◌, ◌||◌, nat_le, None, IfSome}
use Rattle.gb_domain.specs.declared.pairs.WordPair.{WordPair}
use Rattle.gb_domain.specs.declared.pairs.WordPair.TheVariants as pair
use Rattle.gb_domain.specs.declared.pairs.Bounds.{Bounds}
use Rattle.gb_domain.specs.declared.pairs.PairBounds.{PairBounds}
use Rattle.gb_domain.specs.declared.pairs.Other.{Other}
use Rattle.gb_domain.specs.declared.pairs.Other.TheVariants as other
use Rattle.gb_domain.specs.declared.pairs.Link.{Link}
use Rattle.gb_domain.specs.declared.pairs.PairFacts.{PairFacts}
use Rattle.gb_domain.specs.declared.pairs.Pairs.{Pairs}

-- any word
abbrev pub any_bounds : Bounds
any_bounds = record { first = 0; last = 0xFFFF }

abbrev pub any_pairs : PairBounds
any_pairs = record { bc = any_bounds; de = any_bounds; hl = any_bounds }

abbrev pub nothing_known : PairFacts
nothing_known = record { bounds = any_bounds; link = None }

abbrev pub no_pairs : Pairs
no_pairs = record { bc = nothing_known; de = nothing_known; hl = nothing_known }

-- what is known of a pair
abbrev pub facts_of : WordPair → Pairs → PairFacts
facts_of pair.Bc s = s.bc
facts_of pair.De s = s.de
facts_of pair.Hl s = s.hl

-- the bounds of one of them
abbrev pub bounds_in : WordPair → PairBounds → Bounds
bounds_in pair.Bc b = b.bc
bounds_in pair.De b = b.de
bounds_in pair.Hl b = b.hl

-- a factor from -128 to 127, but not 0, modulo 65,536
abbrev pub is_factor : ℕ → Bool
is_factor n = nat_le 1 n && nat_le n 127 || nat_le 65408 n && nat_le n 65535

-- what is read of memory stands at an address where a link may read
abbrev pub IsReadAt : (ℕ → Bool) → Other → Type 0
IsReadAt may_be (other.Cell a) = may_be a ≡ true
IsReadAt may_be _ = Unit {0}

pub record IsLink (may_be : ℕ → Bool) (l : Link) : Type 0 where
  pub other : IsReadAt may_be l.other
  pub factor : is_factor l.factor ≡ true
  pub sum : l.sum < 65536
  pub width : l.width < 65536

pub record IsPairFacts (may_be : ℕ → Bool) (f : PairFacts) : Type 0 where
  pub last : f.bounds.last < 65536
  pub link : IfSome f.link (IsLink may_be)

-- what may be known of pairs, where links may read memory at such addresses
pub record ArePairs (may_be : ℕ → Bool) (s : Pairs) : Type 0 where
  pub each : (p : WordPair) → IsPairFacts may_be (facts_of p s)
