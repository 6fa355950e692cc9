-- Where nothing is known together, all states have that.
use Rattle.std.proofs.Common.{◌≡◌, ℕ, ◌<◌, Bool, true, false, not, ◌&&◌, ◌||◌, ◌==◌, nat_le, List, Option, Some, None, is_some, is_none, refl, arith}
use Rattle.std.proofs.lemmas.Bool.{and_parts, or_parts, eqb-true, not-true}
use Rattle.std.proofs.lemmas.Bool.Decides.{nat_tests}
use Rattle.gb_ops.specs.declared.registers.Registers.{Registers}
use Rattle.gb_domain.specs.declared.pairs.WordPair.{WordPair}
use Rattle.gb_domain.specs.declared.pairs.WordPair.TheVariants as pair
use Rattle.gb_domain.specs.declared.pairs.Bounds.{Bounds}
use Rattle.gb_domain.specs.declared.pairs.Link.{Link}
use Rattle.gb_domain.specs.declared.pairs.PairFacts.{PairFacts}
use Rattle.gb_domain.specs.declared.places.Test.{Test}
use Rattle.gb_domain.specs.declared.places.OneByte.{OneByte}
use Rattle.gb_domain.specs.declared.relations.Relations.{Relations}
use Rattle.gb_domain.specs.declared.types.Cell.{Cell}
use Rattle.gb_domain.specs.declared.types.Val.{Val}
use Rattle.gb_domain.specs.Summaries.{SummaryParts, Program}
use Rattle.gb_domain.specs.Pairs.{facts_of}
use Rattle.gb_domain.specs.RelationRules.{is_some_register, has_address, has_place, is_known}
use Rattle.gb_summaries.specs.Below.gb_pairs.declared.values.Values.{Values}
use Rattle.gb_summaries.specs.Below.gb_pairs.Bounds.{bounds_of}
use Rattle.gb_summaries.specs.Below.gb_pairs.Covering.{covers_link, covers_bounds, covers_pair, covers_pairs}
use Rattle.gb_summaries.specs.Below.gb_copies.Covering.{covers_registers, covers_address, covers_test, covers_byte}
use Rattle.gb_summaries.proofs.Below.gb_pairs_laws.CutLaws.{IsPart-bounds_of}
use Rattle.gb_summaries.specs.Below.gb_relations.Transfer.{values_of}
use Rattle.gb_product.specs.Covering.{covers_zero, places_by, is_nothing, covers_relations}

both : (a b : Bool) → a ≡ true → b ≡ true → (a && b) ≡ true
both true b h k = k
both false b h k = h

-- ---- a byte without places

none_implied :
    (a b c d e h l : Bool) (s : Registers Bool) → (a || b || c || d || e || h || l) ≡ false
    → covers_registers s (record { a = a; b = b; c = c; d = d; e = e; h = h; l = l }) ≡ true
none_implied false false false false false false false s k = refl
none_implied true b c d e h l s k = cc
none_implied false true c d e h l s k = cc
none_implied false false true d e h l s k = cc
none_implied false false false true e h l s k = cc
none_implied false false false false true h l s k = cc
none_implied false false false false false true l s k = cc
none_implied false false false false false false true s k = cc

address_covered : (s t : Option ℕ) → is_some t ≡ false → covers_address s t ≡ true
address_covered None None h = refl
address_covered (Some a) None h = refl
address_covered s (Some b) h = cc

test_covered : (s t : Option Test) → is_none t ≡ true → covers_test s t ≡ true
test_covered None None h = refl
test_covered (Some a) None h = refl
test_covered s (Some b) h = cc

byte_covered : (s t : OneByte) → not (has_place t) ≡ true → is_none t.test ≡ true → covers_byte s t ≡ true
unfolding covers_byte
byte_covered s t h k =
    let none = or_parts (has_address t) (is_some_register t.registers) (not-true _ h) in
    let r = t.registers in
    both _ _
    (both _ _ (none_implied r.a r.b r.c r.d r.e r.h r.l s.registers none.1) (address_covered s.address t.address none.0))
    (test_covered s.test t.test k)

zero_covered : (s t : Option WordPair) → is_none t ≡ true → covers_zero s t ≡ true
zero_covered None None h = refl
zero_covered (Some p) None h = refl
zero_covered s (Some q) h = cc

-- ---- pairs of which nothing is known

link_covered : (by : Option OneByte) (p : WordPair) (v : Values) (m n : Bounds) (l : Option Link) → is_some l ≡ false → covers_link by p v m n l ≡ true
link_covered by p v m n None h = refl
link_covered by p v m n (Some l) h = cc

bounds_covered : (s t : Bounds) → (t.first == 0 && t.last == 0xFFFF) ≡ true → s.last < 65536 → covers_bounds s t ≡ true
bounds_covered s t h k =
    let ends = and_parts _ _ h in
    let first : t.first ≡ 0 = eqb-true _ _ ends.0 in
    let last : t.last ≡ 65535 = eqb-true _ _ ends.1 in
    both (nat_le t.first s.first) (nat_le s.last t.last) (grind (arith, nat_tests)) (grind (arith, nat_tests))

is_true : (b : Bool) → not b ≡ false → b ≡ true
is_true true h = refl
is_true false h = cc

pair_covered :
    (by : Option OneByte) (p : WordPair) (v : Values) (m n : Bounds) (f : PairFacts)
    → (facts_of p v.pairs).bounds.last < 65536 → not (is_known f) ≡ true → covers_pair by p v m n f ≡ true
pair_covered by p v m n f below h =
    let parts = or_parts (is_some f.link) (not (f.bounds.first == 0 && f.bounds.last == 0xFFFF)) (not-true _ h) in
    let most = (IsPart-bounds_of p v).last in
    both _ _ (bounds_covered (bounds_of p v) f.bounds (is_true _ parts.1) (omega arith)) (link_covered by p v m n f.link parts.0)

pub nothing_covered :
    (program : Program) (registers : Registers Val) (cells : List Cell) (m : SummaryParts) (s t : Relations)
    → is_nothing t ≡ true → s.pairs.bc.bounds.last < 65536 → s.pairs.de.bounds.last < 65536 → s.pairs.hl.bounds.last < 65536
    → covers_relations program registers cells m s t ≡ true
unfolding covers_relations covers_pairs
nothing_covered program registers cells m s t h bc de hl =
    let by = places_by program.is_whole s in
    let v = values_of registers s.pairs in
    let pairs = and_parts _ _ h in
    let zero = and_parts _ _ pairs.0 in
    let byte = and_parts _ _ zero.0 in
    let first = and_parts _ _ pairs.1 in
    let others = and_parts _ _ first.1 in
    both _ _ (both _ _ (byte_covered s.byte t.byte byte.0 byte.1) (zero_covered s.zero t.zero zero.1))
    (both _ _ (both _ _ (pair_covered by pair.Bc v _ _ t.pairs.bc bc first.0) (pair_covered by pair.De v _ _ t.pairs.de de others.0)) (pair_covered by pair.Hl v _ _ t.pairs.hl hl others.1))
