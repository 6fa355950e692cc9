-- Reducing: values are cut to what their pairs and links leave (abstract interpretation: a reduced product; own). Interval
-- arithmetic is used only where it doesn't go round at 65536.
use Rattle.std.specs.Prelude.{ℕ, ◌+◌, ◌-◌, ◌*◌, ◌/◌, ◌%◌, Bool, true, false, ◌&&◌, ◌||◌, ◌==◌, if◌then◌else◌, nat_lt, Option, Some, None, option_map, option_and_then}
use Rattle.std.specs.Int.{div_ceil}
use Rattle.gb_ops.specs.declared.op.Register.{Register}
use Rattle.gb_ops.specs.declared.registers.Registers.{Registers}
use Rattle.gb_ops.specs.Registers.{get, set}
use Rattle.gb_domain.specs.declared.types.Val.{Val}
use Rattle.gb_domain.specs.declared.interval.StridedInterval.{StridedInterval}
use Rattle.gb_domain.specs.declared.pairs.WordPair.{WordPair}
use Rattle.gb_domain.specs.declared.pairs.WordPair.TheVariants as pair
use Rattle.gb_domain.specs.declared.pairs.Bounds.{Bounds}
use Rattle.gb_domain.specs.declared.pairs.Other.{Other}
use Rattle.gb_domain.specs.declared.pairs.Other.TheVariants as other
use Rattle.gb_domain.specs.declared.pairs.PairBounds.{PairBounds}
use Rattle.gb_domain.specs.declared.pairs.Link.{Link}
use Rattle.gb_domain.specs.declared.pairs.PairFacts.{PairFacts}
use Rattle.gb_domain.specs.declared.pairs.Pairs.{Pairs}
use Rattle.gb_domain.specs.Interval.{with_low_bits}
use Rattle.gb_domain.specs.LowBits.{low_bits}
use Rattle.gb_domain.specs.Pairs.{facts_of, bounds_in}
use Rattle.gb_vals.specs.Logic.{smaller, larger}
use Rattle.gb_pairs.specs.declared.values.Values.{Values}
use Rattle.gb_pairs.specs.Bounds.{cut, is_empty, high_of, low_of, bounds_of, bounds_of_other, bounds_of_base}

-- registers, and what is known of their pairs
abbrev pub values_of : Registers Val → Pairs → Values
values_of registers pairs = record { registers = registers; pairs = pairs }

-- values, where they stand for something
abbrev pub values_if : Bool → Values → Option Values
values_if false v = None
values_if true v = Some v

-- ---- what a link says of its pair

-- the factor is above 0
abbrev pub is_rising : Link → Bool
is_rising l = nat_lt l.factor 128

-- the factor without its sign
abbrev pub size : Link → ℕ
size l = if is_rising l then l.factor else 65536 - l.factor

-- the first of the pair's words where the other is o
abbrev pub pair_at : Link → ℕ → ℕ
pair_at l o = (l.sum + (65536 - l.factor) * o) % 65536

-- and the last of them
abbrev pub last_pair_at : Link → ℕ → ℕ
last_pair_at l o = (pair_at l o + l.width) % 65536

-- the pair from one end of the other to its other end; they stand in order unless they go round
abbrev pub pairs_at : Link → Bounds → Bounds
pairs_at l o =
    if is_rising l
    then record { first = pair_at l o.last; last = last_pair_at l o.first }
    else record { first = pair_at l o.first; last = last_pair_at l o.last }

-- from the first to the last of them
abbrev pub pairs_width : Link → Bounds → ℕ
pairs_width l o = size l * (o.last - o.first) + l.width

-- b, cut to what the link leaves where the other is in o
unfoldable pub cut_by_other : Link → Bounds → Bounds → Bounds
cut_by_other l o b =
    if nat_lt 65535 (pairs_width l o) || is_empty (pairs_at l o) then b else cut b (pairs_at l o)

-- ---- a link's base

-- a link as it is where its base lies within b: none where b is empty, or it would say nothing
unfoldable pub without_base : Bounds → Link → Option Link
without_base b l =
    if is_empty b || nat_lt 65535 (l.width + (b.last - b.first)) then None
    else Some (record l { base = None; sum = (l.sum + b.first) % 65536; width = l.width + (b.last - b.first) })

-- where the pairs lay in these bounds as the procedure was entered
abbrev pub unbased : PairBounds → Option Link → Option Link
unbased entered None = None
unbased entered (Some l) = without_base (bounds_of_base l.base entered) l

-- ---- what a link says of its other

-- size times the other where the pair is w, and pair and other have this sum
abbrev pub multiple_at : Link → ℕ → ℕ → ℕ
multiple_at l sum w = if is_rising l then (sum + (65536 - w)) % 65536 else (w + (65536 - sum)) % 65536

-- the greatest of the sums
abbrev pub last_sum : Link → ℕ
last_sum l = (l.sum + l.width) % 65536

-- size times the other, from one end of the pair to its other end
abbrev pub multiples_at : Link → Bounds → Bounds
multiples_at l b =
    if is_rising l
    then record { first = multiple_at l l.sum b.last; last = multiple_at l (last_sum l) b.first }
    else record { first = multiple_at l (last_sum l) b.first; last = multiple_at l l.sum b.last }

-- the numbers whose multiples lie in d
abbrev pub divided : ℕ → Bounds → Bounds
divided m d = record { first = div_ceil d.first m; last = d.last / m }

-- what a link leaves of the other, which is in o, where the pair is in b; none where that goes round, or the factor is 0
unfoldable pub others_at : Link → Bounds → Bounds → Option Bounds
others_at l o b =
    if nat_lt 65535 (l.width + (b.last - b.first)) || is_empty (multiples_at l b) then None
    else if size l == 1 then Some (multiples_at l b)
    else if size l == 0 || nat_lt 65535 (size l * o.last) then None
    else Some (divided (size l) (multiples_at l b))

-- ---- cutting

-- an interval in place of a value's
abbrev pub left_of : Val → StridedInterval → Val
left_of v i = record v { lo = i.lo; hi = i.hi; low_bits = i.count }

-- the values of v from lo to hi, with its low bits: all where these are its bounds, none where none is left
unfoldable pub values_within : ℕ → ℕ → Val → Option Val
values_within lo hi v =
    if lo == v.lo && hi == v.hi
    then Some v
    else option_map (left_of v) (with_low_bits lo hi (low_bits v.low_bits v.lo))

-- what of a value is in d; none where that is empty
unfoldable pub cut_val : Val → Bounds → Option Val
cut_val v d =
    let lo = larger v.lo d.first in
    let hi = smaller v.hi d.last in
    if nat_lt hi lo then None else values_within lo hi v

abbrev pub with_facts : WordPair → PairFacts → Pairs → Pairs
with_facts pair.Bc f s = record s { bc = f }
with_facts pair.De f s = record s { de = f }
with_facts pair.Hl f s = record s { hl = f }

abbrev pub with_register : Register → Val → Values → Values
with_register r x v = record v { registers = set r x v.registers }

abbrev pub with_bounds : WordPair → Bounds → Values → Values
with_bounds p b v = record v { pairs = with_facts p (record (facts_of p v.pairs) { bounds = b }) v.pairs }

-- a register is cut to a value, if one is left
abbrev pub with_register_if : Register → Option Val → Values → Option Values
with_register_if r None v = None
with_register_if r (Some x) v = Some (with_register r x v)

abbrev pub with_bounds_if : WordPair → Bounds → Values → Option Values
with_bounds_if p b v = if is_empty b then None else Some (with_bounds p b v)

-- what a link reads is cut: a register's value, or a pair's own bounds, if it reads one of these
unfoldable pub cut_other : Other → Bounds → Values → Option Values
cut_other (other.Register r) d v = with_register_if r (cut_val (get r v.registers) d) v
cut_other (other.Pair p) d v = with_bounds_if p (cut (facts_of p v.pairs).bounds d) v
cut_other (other.Cell a) d v = Some v
cut_other other.Nothing d v = Some v

abbrev pub cut_other_if : Other → Option Bounds → Values → Option Values
cut_other_if o None v = Some v
cut_other_if o (Some d) v = cut_other o d v

abbrev pub high_bounds : Bounds → Bounds
high_bounds b = record { first = b.first / 256; last = b.last / 256 }

-- the low byte is cut where the high one is known
abbrev pub low_bounds : Bounds → Bounds
low_bounds b =
    if b.first / 256 == b.last / 256
    then record { first = b.first % 256; last = b.last % 256 }
    else record { first = 0; last = 255 }

-- both bytes of a pair are cut to values, if some are left
abbrev pub with_bytes_if : WordPair → Option Val → Option Val → Values → Option Values
with_bytes_if p None low v = None
with_bytes_if p (Some high) low v = with_register_if (low_of p) low (with_register (high_of p) high v)

-- a pair's bounds become its own, and its bytes are cut to them
unfoldable pub settled : WordPair → Bounds → Values → Option Values
settled p b v =
    let high = cut_val (get (high_of p) v.registers) (high_bounds b) in
    let low = cut_val (get (low_of p) v.registers) (low_bounds b) in
    with_bytes_if p high low (with_bounds p b v)

-- ---- reducing

-- the pair is in b, its other in o
unfoldable pub reduced_by_link : WordPair → Link → Bounds → Bounds → Values → Option Values
reduced_by_link p l o b v =
    let c = cut_by_other l o b in
    if is_empty o || is_empty c then None
    else option_and_then (settled p c) (cut_other_if l.other (others_at l o c) v)

-- where its link reads memory within m
abbrev pub reduced_within : WordPair → Option Link → Bounds → Bounds → Values → Option Values
reduced_within p None m b v = settled p b v
reduced_within p (Some l) m b v = reduced_by_link p l (bounds_of_other m l.other v) b v

-- one pair, by its bounds and its link, where the pairs lay in some bounds as the procedure was entered, and the bytes of memory that
-- their links read lie in others
unfoldable pub reduced_pair : PairBounds → PairBounds → WordPair → Values → Option Values
reduced_pair entered read p v =
    if is_empty (bounds_of p v) then None
    else reduced_within p (unbased entered (facts_of p v.pairs).link) (bounds_in p read) (bounds_of p v) v

-- each pair once
unfoldable pub reduced_once : PairBounds → PairBounds → Values → Option Values
reduced_once entered read v =
    option_and_then (reduced_pair entered read pair.Hl)
    (option_and_then (reduced_pair entered read pair.De) (reduced_pair entered read pair.Bc v))

-- the same values, cut: none where they stand for nothing
unfoldable pub reduced : PairBounds → PairBounds → Values → Option Values
reduced entered read v = option_and_then (reduced_once entered read) (reduced_once entered read v)

-- ---- a pair within bounds

-- the same values, where the pair lies within bounds too, and what is left becomes its own: none where nothing is
unfoldable pub restricted : WordPair → Bounds → Values → Option Values
restricted p within v = with_bounds_if p (cut (bounds_of p v) within) v
