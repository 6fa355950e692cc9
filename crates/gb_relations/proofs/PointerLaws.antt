-- Where an instruction reads and writes by a pair, and the carry of ADD HL.
use Rattle.std.proofs.Common.{◌≡◌, ℕ, ◌+◌, ◌<◌, ◌≤◌, Bool, Option, Some, None, IfSome, nat_lt, refl, sym, subst}
use Rattle.gb_ops.specs.declared.op.Pointer.{Pointer}
use Rattle.gb_ops.specs.declared.op.Pointer.TheVariants as at
use Rattle.gb_ops.specs.declared.op.Pair.{Pair}
use Rattle.gb_ops.specs.declared.op.Op.{Op}
use Rattle.gb_ops.specs.declared.op.Op.TheVariants as op
use Rattle.gb_ops.specs.declared.registers.Registers.{Registers}
use Rattle.gb_ops.specs.declared.registers.Processor.{Processor}
use Rattle.gb_ops.specs.declared.machine.Read.{Read}
use Rattle.gb_ops.specs.declared.machine.Read.TheVariants as read
use Rattle.gb_ops.specs.declared.machine.Write.{Write}
use Rattle.gb_ops.specs.declared.machine.Write.TheVariants as write
use Rattle.gb_ops.specs.Pairs.{pair_value}
use Rattle.gb_ops.specs.Arithmetic.{word_sum_flags}
use Rattle.gb_ops.specs.Effects as Effects
use Rattle.gb_ops.specs.Effects.{hl, read_of, effect_of}
use Rattle.gb_ops.specs.Pointers as Pointers
use Rattle.gb_ops.specs.Pointers.{pointed, high_register, low_register, byte_or_page, ReadsAt, WritesAt}
use Rattle.gb_ops.proofs.PointerLaws.{follows}
use Rattle.gb_domain.specs.declared.types.Val.{Val}
use Rattle.gb_domain.specs.declared.pairs.WordPair.{WordPair}
use Rattle.gb_domain.specs.declared.pairs.WordPair.TheVariants as words
use Rattle.gb_domain.specs.declared.pairs.Bounds.{Bounds}
use Rattle.gb_domain.specs.declared.pairs.Pairs.{Pairs}
use Rattle.gb_domain.specs.declared.rules.Rules.{Rules}
use Rattle.gb_domain.specs.declared.rules.Rules.TheVariants.{Simple, Extended}
use Rattle.gb_pairs.specs.declared.values.Values.{Values}
use Rattle.gb_pairs.specs.Meaning.{Beside, AreBytes, Holds}
use Rattle.gb_pairs.specs.Moved.{added}
use Rattle.gb_pairs.specs.Sound.{IsCarry}
use Rattle.gb_pairs.proofs.BoundsLaws.{Within-bounds_of}
use Rattle.gb_pairs.proofs.SumLaws.{added_sound}
use Rattle.gb_relations.specs.Pairs.{addend, is_hl}
use Rattle.gb_relations.specs.Transfer.{values_of}
use Rattle.gb_relations.specs.Pointers.{pair_at, pair_pointed, pointer_of, bounds_if, pointer_bounds, carry_after, known_carry, WithinIf, ReadsWithin, WritesWithin, PointsWithin, IsSoundPointer, IsIfKnown, IsSoundCarry}
use Rattle.gb_relations.proofs.PairLaws.{AreWords, bounds-below, Within-addend, addend-below}
use Rattle.gb_relations.proofs.TransferLaws.{are_words}

-- ---- addresses

-- the pair of a pointer holds the address that it points to
Within-pointed : (q : Pointer) (v : Values) (was : Beside) (p : Processor) → Holds v was p.registers → WithinIf (bounds_if (pair_at q) v) (pointed p q)
unfolding pointed high_register low_register byte_or_page
Within-pointed at.Bc v was p m = Within-bounds_of words.Bc v was p.registers m
Within-pointed at.De v was p m = Within-bounds_of words.De v was p.registers m
Within-pointed at.Hl v was p m = Within-bounds_of words.Hl v was p.registers m
Within-pointed at.HighC v was p m = tt

-- where nothing is known

points-anywhere : (o : Option WordPair) (x : Registers ℕ) → PointsWithin None o x
points-anywhere None x = tt
points-anywhere (Some p) x = tt

reads-anywhere : (r : Read) → ReadsWithin None r
reads-anywhere (read.Byte a) = tt
reads-anywhere r = tt

writes-anywhere : (w : Write) → WritesWithin None w
writes-anywhere (write.Byte a n) = tt
writes-anywhere w = tt

-- and where a pair is known

PointsWithin-bounds_if : (o : Option WordPair) (v : Values) (was : Beside) (x : Registers ℕ) → Holds v was x → PointsWithin (bounds_if o v) o x
PointsWithin-bounds_if None v was x m = tt
PointsWithin-bounds_if (Some p) v was x m = Within-bounds_of p v was x m

ReadsWithin-at : (b : Option Bounds) (a : ℕ) (r : Read) → ReadsAt a r → WithinIf b a → ReadsWithin b r
unfolding ReadsAt
ReadsWithin-at b a (read.Byte at) e w = subst (λ n. WithinIf b n) (sym e) w
ReadsWithin-at b a r e w = tt

WritesWithin-at : (b : Option Bounds) (a : ℕ) (w : Write) → WritesAt a w → WithinIf b a → WritesWithin b w
unfolding WritesAt
WritesWithin-at b a (write.Byte at n) e within = subst (λ n. WithinIf b n) (sym e) within
WritesWithin-at b a w e within = tt

-- what a byte's pointer says of its access
abbrev Follows : Option Pointer → Processor → Read → Write → Type 0
Follows q p r w = IfSome q (λ pointer. ReadsAt (pointed p pointer) r × WritesAt (pointed p pointer) w)

ReadsWithin-followed :
    (q : Option Pointer) (v : Values) (was : Beside) (p : Processor) (r : Read) (w : Write)
    → Holds v was p.registers → Follows q p r w → ReadsWithin (bounds_if (pair_pointed q) v) r
ReadsWithin-followed None v was p r w m h = reads-anywhere r
ReadsWithin-followed (Some q) v was p r w m h = ReadsWithin-at _ _ r h.0 (Within-pointed q v was p m)

WritesWithin-followed :
    (q : Option Pointer) (v : Values) (was : Beside) (p : Processor) (r : Read) (w : Write)
    → Holds v was p.registers → Follows q p r w → WritesWithin (bounds_if (pair_pointed q) v) w
WritesWithin-followed None v was p r w m h = writes-anywhere w
WritesWithin-followed (Some q) v was p r w m h = WritesWithin-at _ _ w h.1 (Within-pointed q v was p m)

ReadsWithin-pointer : (o : Op) (v : Values) (was : Beside) (p : Processor) → Holds v was p.registers → ReadsWithin (bounds_if (pointer_of o) v) (read_of o p)
unfolding pointer_of read_of
ReadsWithin-pointer op.JumpHl v was p m = tt
ReadsWithin-pointer op.LoadSpHl v was p m = tt
ReadsWithin-pointer o v was p m = ReadsWithin-followed (Pointers.pointer_of o) v was p (read_of o p) (effect_of o p 0 0).write m (follows o p 0 0)

WritesWithin-pointer :
    (o : Op) (v : Values) (was : Beside) (p : Processor) (l h : ℕ) → Holds v was p.registers → WritesWithin (bounds_if (pointer_of o) v) (effect_of o p l h).write
unfolding pointer_of effect_of Effects.jump
WritesWithin-pointer op.JumpHl v was p l h m = tt
WritesWithin-pointer op.LoadSpHl v was p l h m = tt
WritesWithin-pointer o v was p l h m = WritesWithin-followed (Pointers.pointer_of o) v was p (read_of o p) (effect_of o p l h).write m (follows o p l h)

IsSoundPointer-pointer_bounds : (rules : Rules) (o : Op) (registers : Registers Val) (s : Pairs) → IsSoundPointer o registers s (pointer_bounds rules o registers s)
unfolding pointer_bounds
IsSoundPointer-pointer_bounds Simple o registers s =
    record { word = λ was x m. points-anywhere (pointer_of o) x; reads = λ was p m. reads-anywhere (read_of o p); writes = λ was p l h m. writes-anywhere (effect_of o p l h).write }
IsSoundPointer-pointer_bounds Extended o registers s =
    let v = values_of registers s in
    record {
      word = λ was x m. PointsWithin-bounds_if (pointer_of o) v was x m;
      reads = λ was p m. ReadsWithin-pointer o v was p m;
      writes = λ was p l h m. WritesWithin-pointer o v was p l h m;
    }

pub pointer_bounds_sound :
    (rules : Rules) (o : Op) (registers : Registers Val) (s : Pairs) (b : Option Bounds)
    → b ≡ pointer_bounds rules o registers s → IsSoundPointer o registers s b
pointer_bounds_sound rules o registers s b e = subst (λ c. IsSoundPointer o registers s c) (sym e) (IsSoundPointer-pointer_bounds rules o registers s)

-- ---- the carry

IsIfKnown-carry : (c : Option Bool) (n : ℕ) → IsCarry c n → IsIfKnown c (nat_lt 65535 n)
IsIfKnown-carry None n h = tt
IsIfKnown-carry (Some known) n h = h

-- the carry of a sum of HL and a word
IsCarry-added :
    (which : Pair) (sp : Bounds) (v : Values) (was : Beside) (p : Processor)
    → sp.last < 65536 → AreWords v.pairs → AreBytes p.registers → Holds v was p.registers → sp.first ≤ p.sp → p.sp ≤ sp.last
    → IsCarry (added (addend which sp v) (is_hl which) None v).carry (hl p + pair_value p which)
unfolding pair_value
IsCarry-added which sp v was p small are bytes m low high =
    let in_it = Within-addend which sp v was p low high m in
    (added_sound (addend which sp v) (is_hl which) None v _ refl (bounds-below words.Hl v are) (addend-below which sp v small are)).carry
    was p.registers (pair_value p which) bytes m in_it.least in_it.most

IsIfKnown-after :
    (o : Op) (sp : Bounds) (v : Values) (was : Beside) (p : Processor) (l h : ℕ)
    → sp.last < 65536 → AreWords v.pairs → AreBytes p.registers → Holds v was p.registers → sp.first ≤ p.sp → p.sp ≤ sp.last
    → IsIfKnown (carry_after o sp v) (effect_of o p l h).processor.flags.carry
unfolding effect_of word_sum_flags
IsIfKnown-after (op.AddHl which) sp v was p l h small are bytes m low high =
    IsIfKnown-carry _ (hl p + pair_value p which) (IsCarry-added which sp v was p small are bytes m low high)
IsIfKnown-after o sp v was p l h small are bytes m low high = tt

IsSoundCarry-known_carry :
    (rules : Rules) (o : Op) (sp : Bounds) (registers : Registers Val) (s : Pairs)
    → sp.last < 65536 → AreWords s → IsSoundCarry o sp registers s (known_carry rules o sp registers s)
unfolding known_carry
IsSoundCarry-known_carry Simple o sp registers s small are = record { gives = λ was p l h bytes m low high. tt }
IsSoundCarry-known_carry Extended o sp registers s small are =
    record { gives = λ was p l h bytes m low high. IsIfKnown-after o sp (values_of registers s) was p l h small are bytes m low high }

pub known_carry_sound :
    (rules : Rules) (o : Op) (sp : Bounds) (registers : Registers Val) (s : Pairs) (c : Option Bool)
    → c ≡ known_carry rules o sp registers s → sp.last < 65536
    → s.bc.bounds.last < 65536 → s.de.bounds.last < 65536 → s.hl.bounds.last < 65536 → IsSoundCarry o sp registers s c
known_carry_sound rules o sp registers s c e small bc de hl =
    subst (λ k. IsSoundCarry o sp registers s k) (sym e) (IsSoundCarry-known_carry rules o sp registers s small (are_words s bc de hl))
