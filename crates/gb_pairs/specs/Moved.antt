-- Steps: registers that move by a known amount move the bounds of their pairs, and the sums of links (abstract interpretation:
-- invertible assignments; CPU instruction set: INC, DEC, ADD HL; own).
use Rattle.std.specs.Prelude.{ℕ, ◌+◌, ◌-◌, ◌*◌, ◌%◌, Bool, true, false, not, ◌&&◌, ◌||◌, if◌then◌else◌, nat_lt, nat_le, Option, Some, None}
use Rattle.gb_ops.specs.declared.op.Register.{Register}
use Rattle.gb_ops.specs.declared.op.Register.TheVariants.{B, C, D, E, H, L}
use Rattle.gb_ops.specs.Registers.{get}
use Rattle.gb_domain.specs.declared.pairs.WordPair.{WordPair}
use Rattle.gb_domain.specs.declared.pairs.WordPair.TheVariants as pair
use Rattle.gb_domain.specs.declared.pairs.Bounds.{Bounds}
use Rattle.gb_domain.specs.declared.pairs.Other.{Other}
use Rattle.gb_domain.specs.declared.pairs.Other.TheVariants as other
use Rattle.gb_domain.specs.declared.pairs.Link.{Link}
use Rattle.gb_domain.specs.declared.pairs.PairFacts.{PairFacts}
use Rattle.gb_domain.specs.declared.pairs.Pairs.{Pairs}
use Rattle.gb_domain.specs.Pairs.{any_bounds, facts_of}
use Rattle.gb_domain.specs.Places.{is_same_register}
use Rattle.gb_vals.specs.Logic.{smaller, larger}
use Rattle.gb_pairs.specs.declared.values.Values.{Values}
use Rattle.gb_pairs.specs.declared.moved.HlSum.{HlSum}
use Rattle.gb_pairs.specs.Bounds.{bounds_of, is_one}
use Rattle.gb_pairs.specs.Copied.{link_copied}
use Rattle.gb_pairs.specs.Written.{is_half, is_same_pair, without_register}

-- ---- amounts, modulo 65536

-- the pair moved by a, its other by b
abbrev pub moved_link : ℕ → ℕ → Link → Link
moved_link a b l = record l { sum = (l.sum + a + l.factor * b) % 65536 }

-- the amount, where it is the one that moved
abbrev pub by_if : Bool → ℕ → ℕ
by_if true a = a
by_if false a = 0

-- n more, where neither end goes round
unfoldable pub bounds_up : ℕ → Bounds → Bounds
bounds_up n b =
    if nat_lt (larger b.first b.last + n) 65536
    then record { first = b.first + n; last = b.last + n }
    else any_bounds

-- n less, where neither end goes round
unfoldable pub bounds_down : ℕ → Bounds → Bounds
bounds_down n b =
    if nat_le n (smaller b.first b.last)
    then record { first = b.first - n; last = b.last - n }
    else any_bounds

-- ---- a pair's step

-- one of the pair's two bytes alone is read
abbrev pub reads_half : WordPair → Other → Bool
reads_half p (other.Register r) = is_half r p
reads_half p _ = false

abbrev pub reads_pair : WordPair → Other → Bool
reads_pair p (other.Pair q) = is_same_pair p q
reads_pair p _ = false

-- p moved by a: a link of q goes on, but where it reads one of p's bytes, or p is linked with itself
abbrev pub link_of_step : WordPair → ℕ → WordPair → Option Link → Option Link
link_of_step p a q None = None
link_of_step p a q (Some l) =
    if reads_half p l.other || (is_same_pair p q && reads_pair p l.other) then None
    else Some (moved_link (by_if (is_same_pair p q) a) (by_if (reads_pair p l.other) a) l)

-- p has new bounds where it moved
abbrev pub facts_of_step : WordPair → ℕ → Bounds → WordPair → PairFacts → PairFacts
facts_of_step p a b q f =
    record { bounds = if is_same_pair p q then b else f.bounds; link = link_of_step p a q f.link }

unfoldable pub stepped : WordPair → ℕ → Bounds → Pairs → Pairs
stepped p a b s =
    record {
      bc = facts_of_step p a b pair.Bc s.bc;
      de = facts_of_step p a b pair.De s.de;
      hl = facts_of_step p a b pair.Hl s.hl;
    }

-- INC rr
unfoldable pub incremented : WordPair → Values → Pairs
incremented p v = stepped p 1 (bounds_up 1 (bounds_of p v)) v.pairs

-- DEC rr
unfoldable pub decremented : WordPair → Values → Pairs
decremented p v = stepped p 65535 (bounds_down 1 (bounds_of p v)) v.pairs

-- ---- a byte's step

-- how far a pair moves with one of its bytes
abbrev pub by_byte : Register → WordPair → ℕ → ℕ → ℕ
by_byte B pair.Bc low high = high
by_byte C pair.Bc low high = low
by_byte D pair.De low high = high
by_byte E pair.De low high = low
by_byte H pair.Hl low high = high
by_byte L pair.Hl low high = low
by_byte _ _ low high = 0

abbrev pub other_by_byte : Register → Other → ℕ → ℕ → ℕ
other_by_byte r (other.Register s) low high = by_if (is_same_register r s) low
other_by_byte r (other.Pair p) low high = by_byte r p low high
other_by_byte r (other.Cell a) low high = 0
other_by_byte r other.Nothing low high = 0

abbrev pub link_of_byte : Register → ℕ → ℕ → WordPair → Option Link → Option Link
link_of_byte r low high q None = None
link_of_byte r low high q (Some l) = Some (moved_link (by_byte r q low high) (other_by_byte r l.other low high) l)

-- how many words of its pair one of a register is
abbrev pub weight : Register → ℕ
weight B = 256
weight D = 256
weight H = 256
weight _ = 1

abbrev pub facts_of_byte_up : Register → Values → WordPair → PairFacts
facts_of_byte_up r v q =
    let f = facts_of q v.pairs in
    record {
      bounds = if is_half r q then bounds_up (weight r) (bounds_of q v) else f.bounds;
      link = link_of_byte r 1 256 q f.link;
    }

abbrev pub facts_of_byte_down : Register → Values → WordPair → PairFacts
facts_of_byte_down r v q =
    let f = facts_of q v.pairs in
    record {
      bounds = if is_half r q then bounds_down (weight r) (bounds_of q v) else f.bounds;
      link = link_of_byte r 65535 65280 q f.link;
    }

-- INC r: where it may go round all is forgotten that reads it
unfoldable pub byte_incremented : Register → Values → Pairs
byte_incremented r v =
    if nat_lt (get r v.registers).hi 255
    then record { bc = facts_of_byte_up r v pair.Bc; de = facts_of_byte_up r v pair.De; hl = facts_of_byte_up r v pair.Hl }
    else without_register r v.pairs

-- DEC r
unfoldable pub byte_decremented : Register → Values → Pairs
byte_decremented r v =
    if nat_lt 0 (get r v.registers).lo
    then record { bc = facts_of_byte_down r v pair.Bc; de = facts_of_byte_down r v pair.De; hl = facts_of_byte_down r v pair.Hl }
    else without_register r v.pairs

-- ---- ADD HL

abbrev pub goes_round : ℕ → ℕ → Bool
goes_round x y = nat_lt 65535 (x + y)

abbrev pub if_alike : Bool → Bool → Option Bool
if_alike true true = Some true
if_alike false false = Some false
if_alike _ _ = None

-- the carry of a sum of words from these bounds, where it is known
unfoldable pub carry_of : Bounds → Bounds → Option Bool
carry_of x y = if_alike (goes_round x.first y.first) (goes_round x.last y.last)

-- the sums, modulo 65536, where all go round or none does
abbrev pub sums : Option Bool → Bounds → Bounds → Bounds
sums None x y = any_bounds
sums (Some carry) x y = record { first = (x.first + y.first) % 65536; last = (x.last + y.last) % 65536 }

-- HL is another word, with this link: links that read it or its bytes are forgotten
abbrev pub with_hl : Bounds → Option Link → Pairs → Pairs
with_hl b l s =
    let t = without_register H (without_register L s) in
    record t { hl = record { bounds = b; link = l } }

-- HL's link where another pair's word is added to a known one
abbrev pub link_of_sum : Option WordPair → Values → Option Link
link_of_sum None v = None
link_of_sum (Some p) v =
    if is_one (bounds_of pair.Hl v) && not (is_same_pair pair.Hl p)
    then Some (moved_link (bounds_of pair.Hl v).first 0 (link_copied pair.Hl p (facts_of p v.pairs).link))
    else None

-- HL and a word in y are added; a known word but HL itself is a step. By the rules of version 4 it is told which pair holds the word.
unfoldable pub added : Bounds → Bool → Option WordPair → Values → HlSum
added y is_hl from v =
    let x = bounds_of pair.Hl v in
    let carry = carry_of x y in
    let b = sums carry x y in
    record {
      pairs = if is_one y && not is_hl then stepped pair.Hl y.first b v.pairs else with_hl b (link_of_sum from v) v.pairs;
      carry = carry;
    }
