-- Covering: what is known of pairs holds of all that values stand for (abstract interpretation: inclusion; own).
use Rattle.std.specs.Prelude.{ℕ, ◌+◌, ◌-◌, ◌*◌, ◌%◌, Bool, true, false, ◌&&◌, ◌||◌, ◌==◌, if◌then◌else◌, nat_le, nat_lt, Option, Some, None, is_none}
use Rattle.gb_ops.specs.declared.op.Register.{Register}
use Rattle.gb_ops.specs.declared.op.Register.TheVariants as register
use Rattle.gb_ops.specs.Registers.{get}
use Rattle.gb_domain.specs.declared.pairs.WordPair.{WordPair}
use Rattle.gb_domain.specs.declared.pairs.WordPair.TheVariants as pair
use Rattle.gb_domain.specs.declared.pairs.Bounds.{Bounds}
use Rattle.gb_domain.specs.declared.pairs.Other.{Other}
use Rattle.gb_domain.specs.declared.pairs.Other.TheVariants as other
use Rattle.gb_domain.specs.declared.pairs.Link.{Link}
use Rattle.gb_domain.specs.declared.pairs.PairFacts.{PairFacts}
use Rattle.gb_domain.specs.declared.pairs.PairBounds.{PairBounds}
use Rattle.gb_domain.specs.declared.pairs.Pairs.{Pairs}
use Rattle.gb_domain.specs.declared.places.OneByte.{OneByte}
use Rattle.gb_domain.specs.declared.types.Origin.{Origin}
use Rattle.gb_domain.specs.declared.types.Origin.TheVariants as origin
use Rattle.gb_domain.specs.Pairs.{facts_of}
use Rattle.gb_domain.specs.Places.{is_same_register}
use Rattle.gb_pairs.specs.declared.covering.Arc.{Arc}
use Rattle.gb_pairs.specs.declared.values.Values.{Values}
use Rattle.gb_pairs.specs.Bounds.{is_one, high_of, low_of, bounds_of, bounds_of_other}
use Rattle.gb_pairs.specs.Reduced.{is_rising, size, pairs_at, pairs_width}
use Rattle.gb_pairs.specs.Written.{is_same_pair}

-- it is the address
abbrev pub is_some_address : ℕ → Option ℕ → Bool
is_some_address a None = false
is_some_address a (Some b) = a == b

abbrev pub is_same_other : Other → Other → Bool
is_same_other (other.Register r) (other.Register s) = is_same_register r s
is_same_other (other.Pair p) (other.Pair q) = is_same_pair p q
is_same_other (other.Cell a) (other.Cell b) = a == b
is_same_other other.Nothing other.Nothing = true
is_same_other _ _ = false

-- both have this base, or neither has one
abbrev pub is_same_base : Option WordPair → Option WordPair → Bool
is_same_base None None = true
is_same_base (Some p) (Some q) = is_same_pair p q
is_same_base _ _ = false

abbrev pub is_same_link : Option Link → Link → Bool
is_same_link None t = false
is_same_link (Some s) t =
    is_same_other s.other t.other && (s.factor == t.factor) && is_same_base s.base t.base && (s.sum == t.sum) && (s.width == t.width)

-- the pair and the other are known, and meet the link, which has no base
abbrev pub meets_link : Bounds → Bounds → Link → Bool
meets_link b o l = is_none l.base && is_one b && is_one o && ((b.first + l.factor * o.first) % 65536 == l.sum)

-- ---- words that stand one after another, modulo 65536

abbrev pub arc : ℕ → ℕ → Arc
arc first width = record { first = first; width = width }

-- not all words, where the link's factor is a word
abbrev pub arc_by : Link → ℕ → ℕ → Option Arc
arc_by l first width = if nat_lt l.factor 65536 && nat_le width 65535 then Some (arc first width) else None

-- the inner one lies in the outer one
abbrev pub is_arc_in : Arc → Arc → Bool
is_arc_in a b = nat_le ((a.first + (65536 - b.first % 65536)) % 65536 + a.width) b.width

-- of a pair: its bounds
abbrev pub arc_of_bounds : Bounds → Arc
arc_of_bounds b = arc b.first (b.last - b.first)

-- of a pair: what its link leaves, where what the link reads is in o
abbrev pub arc_of_link : Link → Bounds → Option Arc
arc_of_link l o = arc_by l (pairs_at l o).first (pairs_width l o)

-- the sums of a link
abbrev pub arc_of_sums : Link → Arc
arc_of_sums l = arc l.sum l.width

-- the sums of a pair that is on an arc, and of the other, which is in o, times the link's factor
abbrev pub arc_of_both : Link → Bounds → Arc → Option Arc
arc_of_both l o a =
    arc_by l ((a.first + l.factor * (if is_rising l then o.first else o.last)) % 65536) (a.width + size l * (o.last - o.first))

-- ---- a link

-- what is read is the one byte
abbrev pub is_byte : OneByte → Other → Bool
is_byte b (other.Register r) = get r b.registers
is_byte b (other.Cell a) = is_some_address a b.address
is_byte b _ = false

-- both are places of the one byte
abbrev pub are_one_byte : OneByte → Other → Other → Bool
are_one_byte b o p = is_byte b o && is_byte b p

-- a link follows from another one of the pair
abbrev pub follows : OneByte → Option Link → Link → Bool
follows b None t = false
follows b (Some s) t =
    is_same_base s.base t.base
    && (is_same_other s.other t.other || are_one_byte b s.other t.other)
    && (s.factor == t.factor)
    && is_arc_in (arc_of_sums s) (arc_of_sums t)

abbrev pub has_sums : Link → Option Arc → Bool
has_sums l None = false
has_sums l (Some a) = is_arc_in a (arc_of_sums l)

-- or from where the pair is, less the link's base, what the link reads being in o
abbrev pub follows_on : Bounds → Link → Option Arc → Bool
follows_on o l None = false
follows_on o l (Some a) = has_sums l (arc_of_both l o a)

-- which another link of it says, that has the base, where it reads memory within m
abbrev pub arc_by_link : Values → Bounds → Option WordPair → Option Link → Option Arc
arc_by_link s m base None = None
arc_by_link s m base (Some k) = if is_same_base k.base base then arc_of_link k (bounds_of_other m k.other s) else None

-- it is what the register held as the procedure was entered
abbrev pub is_copy_of : Register → Option Origin → Bool
is_copy_of register.A (Some origin.A) = true
is_copy_of register.B (Some origin.B) = true
is_copy_of register.C (Some origin.C) = true
is_copy_of register.D (Some origin.D) = true
is_copy_of register.E (Some origin.E) = true
is_copy_of register.H (Some origin.H) = true
is_copy_of register.L (Some origin.L) = true
is_copy_of _ _ = false

-- p's bytes are those that q held as the procedure was entered
abbrev pub is_as_entered : WordPair → WordPair → Values → Bool
is_as_entered p q s =
    is_copy_of (high_of q) (get (high_of p) s.registers).origin && is_copy_of (low_of q) (get (low_of p) s.registers).origin

-- by itself the pair is in its bounds; less what it held as the procedure was entered, where its bytes are that, it is 0
abbrev pub arc_by_itself : Values → Option WordPair → WordPair → Option Arc
arc_by_itself s None p = Some (arc_of_bounds (bounds_of p s))
arc_by_itself s (Some q) p = if is_as_entered p q s then Some (arc 0 0) else None

-- a link of p holds that reads memory within n, where p's own link reads it within m
unfoldable pub holds_link : OneByte → WordPair → Values → Bounds → Bounds → Link → Bool
holds_link one p s m n l =
    follows one (facts_of p s.pairs).link l
    || follows_on (bounds_of_other n l.other s) l (arc_by_itself s l.base p)
    || follows_on (bounds_of_other n l.other s) l (arc_by_link s m l.base (facts_of p s.pairs).link)

-- by the rules of versions 1 to 3: it is the pair's link, or pair and other are known and meet it
unfoldable pub holds_link_plainly : WordPair → Values → Bounds → Link → Bool
holds_link_plainly p s n l = is_same_link (facts_of p s.pairs).link l || meets_link (bounds_of p s) (bounds_of_other n l.other s) l

-- ---- pairs

-- a link is asked for only where there is one; by the rules of version 4 what holds one byte counts too
abbrev pub covers_link : Option OneByte → WordPair → Values → Bounds → Bounds → Option Link → Bool
covers_link by p s m n None = true
covers_link None p s m n (Some l) = holds_link_plainly p s n l
covers_link (Some one) p s m n (Some l) = holds_link one p s m n l

abbrev pub covers_bounds : Bounds → Bounds → Bool
covers_bounds s t = nat_le t.first s.first && nat_le s.last t.last

abbrev pub covers_pair : Option OneByte → WordPair → Values → Bounds → Bounds → PairFacts → Bool
covers_pair by p s m n t = covers_bounds (bounds_of p s) t.bounds && covers_link by p s m n t.link

-- by the rules of version 4 where it is told which places hold one byte; the links of s read memory within one set of bounds, those
-- of t within another
unfoldable pub covers_pairs : Option OneByte → Values → PairBounds → PairBounds → Pairs → Bool
covers_pairs by s m n t =
    covers_pair by pair.Bc s m.bc n.bc t.bc && covers_pair by pair.De s m.de n.de t.de && covers_pair by pair.Hl s m.hl n.hl t.hl
