-- What is known together of a caller's states behind a call: of what was known as it called, and of what the callee's exit says
-- (own rules: calls, versions 3 and 4).
use Rattle.std.specs.Prelude.{◌≡◌, ℕ, ◌+◌, ◌%◌, Bool, true, false, ◌&&◌, ◌||◌, nat_le, if◌then◌else◌, Option, Some, None}
use Rattle.gb_ops.specs.declared.op.Register.{Register}
use Rattle.gb_ops.specs.declared.registers.Registers.{Registers}
use Rattle.gb_ops.specs.declared.registers.Flags.{Flags}
use Rattle.gb_ops.specs.Registers.{get}
use Rattle.gb_domain.specs.declared.pairs.WordPair.{WordPair}
use Rattle.gb_domain.specs.declared.pairs.WordPair.TheVariants as pair
use Rattle.gb_domain.specs.declared.pairs.Other.{Other}
use Rattle.gb_domain.specs.declared.pairs.Other.TheVariants as other
use Rattle.gb_domain.specs.declared.pairs.Link.{Link}
use Rattle.gb_domain.specs.declared.pairs.PairFacts.{PairFacts}
use Rattle.gb_domain.specs.declared.places.OneByte.{OneByte}
use Rattle.gb_domain.specs.declared.relations.Relations.{Relations}
use Rattle.gb_domain.specs.declared.pairs.Bounds.{Bounds}
use Rattle.gb_domain.specs.declared.types.Val.{Val}
use Rattle.gb_domain.specs.Pairs.{facts_of}
use Rattle.gb_pairs.specs.Below.gb_vals.Meaning.{In}
use Rattle.gb_pairs.specs.declared.values.Values.{Values}
use Rattle.gb_pairs.specs.Bounds.{cut, high_of, low_of, bounds_of}
use Rattle.gb_pairs.specs.Covering.{is_as_entered}
use Rattle.gb_pairs.specs.Meaning.{AreBytes}
use Rattle.gb_pairs.specs.Reduced.{values_of, last_sum, without_base}
use Rattle.gb_pairs.specs.Sound.{AreCopies}
use Rattle.gb_copies.specs.Places.{has_place, of_places, without_test}
use Rattle.gb_relations.specs.declared.returned.Kept.{Kept}
use Rattle.gb_relations.specs.Meaning.{HoldRelations}

-- both bytes of a pair are kept
abbrev pub is_pair_kept : WordPair → Kept → Bool
is_pair_kept p k = get (high_of p) k.registers && get (low_of p) k.registers

-- the byte of memory that a pair's link reads is kept
abbrev pub is_read_kept : WordPair → Kept → Bool
is_read_kept pair.Bc k = k.read.bc
is_read_kept pair.De k = k.read.de
is_read_kept pair.Hl k = k.read.hl

-- what p's link reads is kept
abbrev pub is_other_kept : WordPair → Other → Kept → Bool
is_other_kept p (other.Register r) k = get r k.registers
is_other_kept p (other.Pair q) k = is_pair_kept q k
is_other_kept p (other.Cell a) k = is_read_kept p k
is_other_kept p other.Nothing k = true

abbrev pub both : Registers Bool → Registers Bool → Registers Bool
both r s = record { a = r.a && s.a; b = r.b && s.b; c = r.c && s.c; d = r.d && s.d; e = r.e && s.e; h = r.h && s.h; l = r.l && s.l }

-- the places that are kept
unfoldable pub kept_places : Kept → OneByte → OneByte
kept_places k b = of_places (record b { registers = both b.registers k.registers; address = if k.address then b.address else None })

-- where the flags are kept, the caller's byte; else the exit's, or if it has none the caller's without what the flags said of it
unfoldable pub byte_returned : Kept → OneByte → OneByte → OneByte
byte_returned k s x =
    if k.flags then kept_places k s else if has_place x then x else without_test (kept_places k s)

abbrev pub pair_if_kept : Kept → Option WordPair → Option WordPair
pair_if_kept k None = None
pair_if_kept k (Some p) = if is_pair_kept p k then Some p else None

-- the flags say whether a pair is 0, where both are kept, or as the exit says
unfoldable pub zero_returned : Kept → Option WordPair → Option WordPair → Option WordPair
zero_returned k s x = if k.flags then pair_if_kept k s else x

abbrev pub link_if_kept : WordPair → Kept → Option Link → Option Link
link_if_kept p k None = None
link_if_kept p k (Some l) = if is_pair_kept p k && is_other_kept p l.other k then Some l else None

-- ---- the base of an exit's link, which is what the caller's pair was as it called

abbrev pub is_nothing : Other → Bool
is_nothing other.Nothing = true
is_nothing _ = false

abbrev pub either : Option Link → Option Link → Option Link
either (Some l) other = Some l
either None other = other

-- what the base is by the caller's link g of its pair, put into l; at most one of both reads something
abbrev pub with_sums : Link → Link → Link
with_sums l g =
    record {
      other = if is_nothing l.other then g.other else l.other;
      factor = if is_nothing l.other then g.factor else l.factor;
      base = g.base;
      sum = (l.sum + g.sum) % 65536;
      width = l.width + g.width;
    }

-- what b's link g reads is kept, not both read something, and not all sums are some
abbrev pub is_fit : Kept → WordPair → Link → Link → Bool
is_fit k b l g = is_other_kept b g.other k && (is_nothing l.other || is_nothing g.other) && nat_le (l.width + g.width) 65535

abbrev pub told_by_link : Kept → WordPair → Link → Option Link → Option Link
told_by_link k b l None = None
told_by_link k b l (Some g) = if is_fit k b l g then Some (with_sums l g) else None

-- which pair's word as the caller was entered p's is
abbrev pub pair_entered : WordPair → Values → Option WordPair
pair_entered p v =
    if is_as_entered p pair.Bc v then Some pair.Bc
    else if is_as_entered p pair.De v then Some pair.De
    else if is_as_entered p pair.Hl v then Some pair.Hl
    else None

-- the base is a word that the caller's pair had as the caller was entered
abbrev pub told_by_entry : Link → Option WordPair → Option Link
told_by_entry l None = None
told_by_entry l (Some q) = Some (record l { base = Some q })

-- the base lies within the bounds of the caller's pair
abbrev pub told_by_bounds : Link → Bounds → Option Link
told_by_bounds l b = if is_nothing l.other then None else without_base b l

-- a link of the exit, with what the caller, whose values are v, says of its base
abbrev pub told_link : Kept → Values → Link → Option WordPair → Option Link
told_link k v l None = Some l
told_link k v l (Some b) =
    either (told_by_link k b l (facts_of b v.pairs).link) (either (told_by_entry l (pair_entered b v)) (told_by_bounds l (bounds_of b v)))

-- the exit's link, or if it has none the caller's where all that it reads is kept
abbrev pub link_returned : WordPair → Kept → Values → Option Link → Option Link
link_returned p k v (Some l) = told_link k v l l.base
link_returned p k v None = link_if_kept p k (facts_of p v.pairs).link

-- a pair's bounds, where its link reads nothing and has no base: its sums, where they stand in order
abbrev pub cut_to_sums : Option Link → Bounds → Bounds
cut_to_sums None b = b
cut_to_sums (Some l) b =
    if is_nothing l.other && nat_le l.sum (last_sum l) then cut b (record { first = l.sum; last = last_sum l }) else b

-- bounds, cut by a link of the exit whose base lies within those of the caller's pair
abbrev pub cut_by_base : Values → Link → Option WordPair → Bounds → Bounds
cut_by_base v l None b = b
cut_by_base v l (Some p) b = cut_to_sums (without_base (bounds_of p v) l) b

abbrev pub cut_by_exit : Values → Option Link → Bounds → Bounds
cut_by_exit v None b = b
cut_by_exit v (Some l) b = cut_by_base v l l.base b

-- the caller's bounds, where both bytes are kept, else the exit's, cut to what the exit's link says
unfoldable pub facts_returned : WordPair → Kept → Values → PairFacts → PairFacts
facts_returned p k v x =
    record {
      bounds = cut_by_exit v x.link (if is_pair_kept p k then (facts_of p v.pairs).bounds else x.bounds);
      link = link_returned p k v x.link;
    }

-- the caller had these registers
unfoldable pub returned : Kept → Registers Val → Relations → Relations → Relations
returned k registers s x =
    let v = values_of registers s.pairs in
    record {
      byte = byte_returned k s.byte x.byte;
      zero = zero_returned k s.zero x.zero;
      pairs = record {
        bc = facts_returned pair.Bc k v x.pairs.bc;
        de = facts_returned pair.De k v x.pairs.de;
        hl = facts_returned pair.Hl k v x.pairs.hl;
      };
    }

abbrev pub IsOtherSame : Other → (ℕ → ℕ) → (ℕ → ℕ) → Type 0
IsOtherSame (other.Cell a) before after = after a ≡ before a
IsOtherSame _ before after = Unit {0}

-- the byte of memory that a link reads is as it was
abbrev pub IsReadSame : Option Link → (ℕ → ℕ) → (ℕ → ℕ) → Type 0
IsReadSame None before after = Unit {0}
IsReadSame (Some l) before after = IsOtherSame l.other before after

-- from registers x, memory and flags f to others: what is kept of what s speaks of is as it was
pub record IsKept (k : Kept) (s : Relations) (x y : Registers ℕ) (before after : ℕ → ℕ) (f g : Flags) : Type 0 where
  pub registers : (r : Register) → get r k.registers ≡ true → get r y ≡ get r x
  pub memory : k.address ≡ true → (a : ℕ) → s.byte.address ≡ Some a → after a ≡ before a
  pub read : (p : WordPair) → is_read_kept p k ≡ true → IsReadSame (facts_of p s.pairs).link before after
  pub flags : k.flags ≡ true → g ≡ f

-- registers are among the values, and are copies where these say so of what they were as the procedure was entered
pub record AreAmong (registers : Registers Val) (was p : Registers ℕ) : Type 0 where
  pub within : (r : Register) → In (get r registers) (get r p)
  pub copies : AreCopies registers was p

-- what holds as the procedure is called, with registers p, and what its exit says, holds together behind the call
pub record IsSoundReturn (k : Kept) (registers : Registers Val) (s x after : Relations) : Type 0 where
  pub gives :
      (was p q : Registers ℕ) (old new : ℕ → ℕ) (f g : Flags)
      → IsKept k s p q old new f g → AreBytes q → AreAmong registers was p
      → HoldRelations s was p old f → HoldRelations x p q new g
      → HoldRelations after was q new g
