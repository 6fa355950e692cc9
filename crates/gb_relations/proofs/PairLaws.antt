-- What each instruction leaves of the pairs holds of the registers that it makes.
use Rattle.std.proofs.Common.{ℕ, ◌+◌, ◌%◌, ◌<◌, ◌≤◌, Bool, true, false, List, [], Option, ◌∷◌, refl, sym, subst, arith}
use Rattle.gb_ops.specs.declared.op.Register.{Register}
use Rattle.gb_ops.specs.declared.op.Register.TheVariants.{A}
use Rattle.gb_ops.specs.declared.op.Operand.TheVariants as operand
use Rattle.gb_ops.specs.declared.op.Indirect.{Indirect}
use Rattle.gb_ops.specs.declared.op.Indirect.TheVariants as indirect
use Rattle.gb_ops.specs.declared.op.Pair.{Pair}
use Rattle.gb_ops.specs.declared.op.Pair.TheVariants as pair
use Rattle.gb_ops.specs.declared.op.Op.{Op}
use Rattle.gb_ops.specs.declared.op.Op.TheVariants as op
use Rattle.gb_ops.specs.declared.registers.Registers.{Registers}
use Rattle.gb_ops.specs.declared.registers.Processor.{Processor}
use Rattle.gb_ops.specs.Registers.{get, set}
use Rattle.gb_ops.specs.Pairs.{pair_value, with_pair}
use Rattle.gb_ops.specs.Arithmetic.{incremented, decremented}
use Rattle.gb_ops.specs.Effects.{hl, with_indirect, operand_value, store_operand, update_operand, effect_of}
use Rattle.gb_domain.specs.declared.pairs.WordPair.{WordPair}
use Rattle.gb_domain.specs.declared.pairs.WordPair.TheVariants as words
use Rattle.gb_domain.specs.declared.pairs.Bounds.{Bounds}
use Rattle.gb_domain.specs.declared.pairs.Pairs.{Pairs}
use Rattle.gb_domain.specs.Pairs.{facts_of, ArePairs}
use Rattle.gb_pairs.specs.declared.values.Values.{Values}
use Rattle.gb_pairs.specs.Bounds.{bounds_of}
use Rattle.gb_pairs.specs.Meaning.{Beside, HoldPairs, AreBytes, Holds}
use Rattle.gb_pairs.specs.Written.{without_register}
use Rattle.gb_pairs.specs.Moved as moved
use Rattle.gb_pairs.specs.Sound.{Within, IsWordOf}
use Rattle.gb_pairs.proofs.RegisterLaws.{AreBytes-set}
use Rattle.gb_pairs.proofs.BoundsLaws.{bounds_of_sound}
use Rattle.gb_pairs.proofs.WrittenLaws.{HoldPairs-without}
use Rattle.gb_pairs.proofs.StepLaws.{incremented_sound, decremented_sound}
use Rattle.gb_pairs.proofs.ByteLaws.{byte_incremented_sound, byte_decremented_sound}
use Rattle.gb_pairs.proofs.SumLaws.{added_sound}
use Rattle.gb_pairs.proofs.CutLaws.{IsPart-bounds_of}
use Rattle.gb_pairs.proofs.KeptLaws.{without_register_kept, incremented_kept, decremented_kept, byte_incremented_kept, byte_decremented_kept, added_kept}
use Rattle.gb_relations.specs.Written.{written}
use Rattle.gb_relations.specs.Pairs.{without_registers, pair_of, after_increment, after_decrement, after_indirect, addend, is_hl, added_pair, pairs_after}
use Rattle.gb_relations.specs.Sound.{HasBytes}
use Rattle.gb_relations.proofs.MachineLaws.{Overwrites, overwritten, AreBytes-indirect, effect_of-registers, effect_of-bytes}

-- ---- forgetting

HoldPairs-overwritten :
    (rs : List Register) (s : Pairs) (was : Beside) (x y : Registers ℕ)
    → AreBytes x → AreBytes y → HoldPairs s was x → HoldPairs (without_registers rs s) was (overwritten rs x y)
HoldPairs-overwritten [] s was x y p q h = h
HoldPairs-overwritten (r ∷ rest) s was x y p q h =
    let small : get r y < 256 = q.each r in
    HoldPairs-overwritten rest (without_register r s) was (set r (get r y) x) y (AreBytes-set r (get r y) x small p) q
    (HoldPairs-without r s (get r y) was x (omega arith) p h)

HoldPairs-left :
    (rs : List Register) (s : Pairs) (was : Beside) (x y : Registers ℕ)
    → Overwrites rs x y → AreBytes x → AreBytes y → HoldPairs s was x → HoldPairs (without_registers rs s) was y
HoldPairs-left rs s was x y over p q h =
    subst (λ z. HoldPairs (without_registers rs s) was z) (sym over) (HoldPairs-overwritten rs s was x y p q h)

-- ---- steps

HoldPairs-incremented :
    (which : Pair) (v : Values) (was : Beside) (p : Processor)
    → AreBytes p.registers → Holds v was p.registers
    → HoldPairs (after_increment (pair_of which) v) was (with_pair p which ((pair_value p which + 1) % 65536)).registers
unfolding with_pair pair_value
HoldPairs-incremented pair.Bc v was p bytes h = (incremented_sound words.Bc v _ refl).gives was p.registers bytes h
HoldPairs-incremented pair.De v was p bytes h = (incremented_sound words.De v _ refl).gives was p.registers bytes h
HoldPairs-incremented pair.Hl v was p bytes h = (incremented_sound words.Hl v _ refl).gives was p.registers bytes h
HoldPairs-incremented pair.Sp v was p bytes h = h.pairs

HoldPairs-decremented :
    (which : Pair) (v : Values) (was : Beside) (p : Processor)
    → AreBytes p.registers → Holds v was p.registers
    → HoldPairs (after_decrement (pair_of which) v) was (with_pair p which ((pair_value p which + 65535) % 65536)).registers
unfolding with_pair pair_value
HoldPairs-decremented pair.Bc v was p bytes h = (decremented_sound words.Bc v _ refl).gives was p.registers bytes h
HoldPairs-decremented pair.De v was p bytes h = (decremented_sound words.De v _ refl).gives was p.registers bytes h
HoldPairs-decremented pair.Hl v was p bytes h = (decremented_sound words.Hl v _ refl).gives was p.registers bytes h
HoldPairs-decremented pair.Sp v was p bytes h = h.pairs

HoldPairs-indirect :
    (which : Indirect) (v : Values) (was : Beside) (p : Processor)
    → AreBytes p.registers → Holds v was p.registers → HoldPairs (after_indirect which v) was (with_indirect p which).registers
unfolding with_indirect
HoldPairs-indirect indirect.Bc v was p bytes h = h.pairs
HoldPairs-indirect indirect.De v was p bytes h = h.pairs
HoldPairs-indirect indirect.HlIncrement v was p bytes h = HoldPairs-incremented pair.Hl v was p bytes h
HoldPairs-indirect indirect.HlDecrement v was p bytes h = HoldPairs-decremented pair.Hl v was p bytes h

-- ---- sums

-- the bounds of pairs are words
pub record AreWords (s : Pairs) : Type 0 where
  pub each : (p : WordPair) → (facts_of p s).bounds.last < 65536

pub bounds-below : (p : WordPair) (v : Values) → AreWords v.pairs → (bounds_of p v).last < 65536
bounds-below p v h =
    let own = h.each p in
    let part = (IsPart-bounds_of p v).last in
    omega arith

pub Within-addend :
    (which : Pair) (sp : Bounds) (v : Values) (was : Beside) (p : Processor)
    → sp.first ≤ p.sp → p.sp ≤ sp.last → Holds v was p.registers → Within (addend which sp v) (pair_value p which)
unfolding pair_value
Within-addend pair.Bc sp v was p low high h = (bounds_of_sound words.Bc v _ refl).gives was p.registers h
Within-addend pair.De sp v was p low high h = (bounds_of_sound words.De v _ refl).gives was p.registers h
Within-addend pair.Hl sp v was p low high h = (bounds_of_sound words.Hl v _ refl).gives was p.registers h
Within-addend pair.Sp sp v was p low high h = record { least = low; most = high }

pub addend-below : (which : Pair) (sp : Bounds) (v : Values) → sp.last < 65536 → AreWords v.pairs → (addend which sp v).last < 65536
addend-below pair.Bc sp v small h = bounds-below words.Bc v h
addend-below pair.De sp v small h = bounds-below words.De v h
addend-below pair.Hl sp v small h = bounds-below words.Hl v h
addend-below pair.Sp sp v small h = small

HoldPairs-added_word :
    (y : Bounds) (itself : Bool) (from : Option WordPair) (n : ℕ) (v : Values) (was : Beside) (p : Processor)
    → Within y n → y.last < 65536 → AreWords v.pairs → AreBytes p.registers → Holds v was p.registers → IsWordOf from n p.registers
    → HoldPairs (moved.added y itself from v).pairs was (with_pair p pair.Hl ((hl p + n) % 65536)).registers
unfolding with_pair pair_value
HoldPairs-added_word y itself from n v was p in_it small are bytes h is =
    (added_sound y itself from v _ refl (bounds-below words.Hl v are) small).pairs was p.registers n bytes h in_it.least in_it.most is

IsWordOf-added : (is_whole : Bool) (which : Pair) (p : Processor) → IsWordOf (added_pair is_whole which) (pair_value p which) p.registers
unfolding pair_value
IsWordOf-added false which p = tt
IsWordOf-added true pair.Bc p = refl
IsWordOf-added true pair.De p = refl
IsWordOf-added true pair.Hl p = refl
IsWordOf-added true pair.Sp p = tt

HoldPairs-added :
    (is_whole : Bool) (which : Pair) (sp : Bounds) (v : Values) (was : Beside) (p : Processor)
    → sp.first ≤ p.sp → p.sp ≤ sp.last → sp.last < 65536 → AreWords v.pairs → AreBytes p.registers → Holds v was p.registers
    → HoldPairs (moved.added (addend which sp v) (is_hl which) (added_pair is_whole which) v).pairs was (with_pair p pair.Hl ((hl p + pair_value p which) % 65536)).registers
HoldPairs-added is_whole which sp v was p low high small are bytes h =
    let in_it = Within-addend which sp v was p low high h in
    HoldPairs-added_word (addend which sp v) (is_hl which) (added_pair is_whole which) (pair_value p which) v was p in_it (addend-below which sp v small are) are bytes h
    (IsWordOf-added is_whole which p)

-- ---- instructions

HoldPairs-stored :
    (to : Indirect) (v : Values) (was : Beside) (p : Processor) (l h : ℕ)
    → AreBytes p.registers → Holds v was p.registers → HoldPairs (after_indirect to v) was (effect_of (op.StoreA to) p l h).processor.registers
unfolding effect_of
HoldPairs-stored to v was p l h bytes m = HoldPairs-indirect to v was p bytes m

HoldPairs-loaded :
    (from : Indirect) (v : Values) (was : Beside) (p : Processor) (l h : ℕ)
    → l < 256 → AreBytes p.registers → Holds v was p.registers
    → HoldPairs (without_registers (A ∷ []) (after_indirect from v)) was (effect_of (op.LoadA from) p l h).processor.registers
unfolding effect_of
HoldPairs-loaded from v was p l h small bytes m =
    HoldPairs-without A (after_indirect from v) l was (with_indirect p from).registers (omega arith) (AreBytes-indirect from p bytes) (HoldPairs-indirect from v was p bytes m)

HoldPairs-increment_pair :
    (which : Pair) (v : Values) (was : Beside) (p : Processor) (l h : ℕ)
    → AreBytes p.registers → Holds v was p.registers → HoldPairs (after_increment (pair_of which) v) was (effect_of (op.IncrementPair which) p l h).processor.registers
unfolding effect_of
HoldPairs-increment_pair which v was p l h bytes m = HoldPairs-incremented which v was p bytes m

HoldPairs-decrement_pair :
    (which : Pair) (v : Values) (was : Beside) (p : Processor) (l h : ℕ)
    → AreBytes p.registers → Holds v was p.registers → HoldPairs (after_decrement (pair_of which) v) was (effect_of (op.DecrementPair which) p l h).processor.registers
unfolding effect_of
HoldPairs-decrement_pair which v was p l h bytes m = HoldPairs-decremented which v was p bytes m

HoldPairs-increment :
    (r : Register) (v : Values) (was : Beside) (p : Processor) (l h : ℕ)
    → AreBytes p.registers → Holds v was p.registers → HoldPairs (moved.byte_incremented r v) was (effect_of (op.Increment (operand.Register r)) p l h).processor.registers
unfolding effect_of update_operand store_operand operand_value incremented
HoldPairs-increment r v was p l h bytes m = (byte_incremented_sound r v _ refl).gives was p.registers bytes m

HoldPairs-decrement :
    (r : Register) (v : Values) (was : Beside) (p : Processor) (l h : ℕ)
    → AreBytes p.registers → Holds v was p.registers → HoldPairs (moved.byte_decremented r v) was (effect_of (op.Decrement (operand.Register r)) p l h).processor.registers
unfolding effect_of update_operand store_operand operand_value decremented
HoldPairs-decrement r v was p l h bytes m = (byte_decremented_sound r v _ refl).gives was p.registers bytes m

HoldPairs-add_hl :
    (is_whole : Bool) (which : Pair) (sp : Bounds) (v : Values) (was : Beside) (p : Processor) (l h : ℕ)
    → sp.first ≤ p.sp → p.sp ≤ sp.last → sp.last < 65536 → AreWords v.pairs → AreBytes p.registers → Holds v was p.registers
    → HoldPairs (moved.added (addend which sp v) (is_hl which) (added_pair is_whole which) v).pairs was (effect_of (op.AddHl which) p l h).processor.registers
unfolding effect_of
HoldPairs-add_hl is_whole which sp v was p l h low high small are bytes m = HoldPairs-added is_whole which sp v was p low high small are bytes m

pub HoldPairs-pairs_after :
    (is_whole : Bool) (o : Op) (sp : Bounds) (v : Values) (was : Beside) (p : Processor) (l h : ℕ)
    → HasBytes o → sp.first ≤ p.sp → p.sp ≤ sp.last → sp.last < 65536 → AreWords v.pairs → l < 256 → h < 256
    → AreBytes p.registers → Holds v was p.registers
    → HoldPairs (pairs_after is_whole o sp v) was (effect_of o p l h).processor.registers
unfolding pairs_after
HoldPairs-pairs_after is_whole (op.StoreA to) sp v was p l h has low high small are q r bytes m = HoldPairs-stored to v was p l h bytes m
HoldPairs-pairs_after is_whole (op.LoadA from) sp v was p l h has low high small are q r bytes m = HoldPairs-loaded from v was p l h q bytes m
HoldPairs-pairs_after is_whole (op.IncrementPair which) sp v was p l h has low high small are q r bytes m = HoldPairs-increment_pair which v was p l h bytes m
HoldPairs-pairs_after is_whole (op.DecrementPair which) sp v was p l h has low high small are q r bytes m = HoldPairs-decrement_pair which v was p l h bytes m
HoldPairs-pairs_after is_whole (op.Increment (operand.Register which)) sp v was p l h has low high small are q r bytes m = HoldPairs-increment which v was p l h bytes m
HoldPairs-pairs_after is_whole (op.Decrement (operand.Register which)) sp v was p l h has low high small are q r bytes m = HoldPairs-decrement which v was p l h bytes m
HoldPairs-pairs_after is_whole (op.AddHl which) sp v was p l h has low high small are q r bytes m = HoldPairs-add_hl is_whole which sp v was p l h low high small are bytes m
HoldPairs-pairs_after is_whole o sp v was p l h has low high small are q r bytes m =
    HoldPairs-left (written o) v.pairs was p.registers (effect_of o p l h).processor.registers (effect_of-registers o p l h) bytes (effect_of-bytes o p l h has q r bytes) m.pairs

-- ---- what may be known of pairs

without_registers-kept : (may_be : ℕ → Bool) (rs : List Register) (s : Pairs) → ArePairs may_be s → ArePairs may_be (without_registers rs s)
without_registers-kept may_be [] s h = h
without_registers-kept may_be (r ∷ rest) s h = without_registers-kept may_be rest _ (without_register_kept may_be r s _ refl h)

after_increment-kept : (may_be : ℕ → Bool) (which : Pair) (v : Values) → ArePairs may_be v.pairs → ArePairs may_be (after_increment (pair_of which) v)
after_increment-kept may_be pair.Bc v h = incremented_kept may_be words.Bc v _ refl h
after_increment-kept may_be pair.De v h = incremented_kept may_be words.De v _ refl h
after_increment-kept may_be pair.Hl v h = incremented_kept may_be words.Hl v _ refl h
after_increment-kept may_be pair.Sp v h = h

after_decrement-kept : (may_be : ℕ → Bool) (which : Pair) (v : Values) → ArePairs may_be v.pairs → ArePairs may_be (after_decrement (pair_of which) v)
after_decrement-kept may_be pair.Bc v h = decremented_kept may_be words.Bc v _ refl h
after_decrement-kept may_be pair.De v h = decremented_kept may_be words.De v _ refl h
after_decrement-kept may_be pair.Hl v h = decremented_kept may_be words.Hl v _ refl h
after_decrement-kept may_be pair.Sp v h = h

after_indirect-kept : (may_be : ℕ → Bool) (which : Indirect) (v : Values) → ArePairs may_be v.pairs → ArePairs may_be (after_indirect which v)
after_indirect-kept may_be indirect.Bc v h = h
after_indirect-kept may_be indirect.De v h = h
after_indirect-kept may_be indirect.HlIncrement v h = incremented_kept may_be words.Hl v _ refl h
after_indirect-kept may_be indirect.HlDecrement v h = decremented_kept may_be words.Hl v _ refl h

pub pairs_after-kept : (may_be : ℕ → Bool) (is_whole : Bool) (o : Op) (sp : Bounds) (v : Values) → ArePairs may_be v.pairs → ArePairs may_be (pairs_after is_whole o sp v)
unfolding pairs_after
pairs_after-kept may_be is_whole (op.StoreA to) sp v h = after_indirect-kept may_be to v h
pairs_after-kept may_be is_whole (op.LoadA from) sp v h = without_registers-kept may_be (A ∷ []) (after_indirect from v) (after_indirect-kept may_be from v h)
pairs_after-kept may_be is_whole (op.IncrementPair which) sp v h = after_increment-kept may_be which v h
pairs_after-kept may_be is_whole (op.DecrementPair which) sp v h = after_decrement-kept may_be which v h
pairs_after-kept may_be is_whole (op.Increment (operand.Register r)) sp v h = byte_incremented_kept may_be r v _ refl h
pairs_after-kept may_be is_whole (op.Decrement (operand.Register r)) sp v h = byte_decremented_kept may_be r v _ refl h
pairs_after-kept may_be is_whole (op.AddHl which) sp v h = added_kept may_be (addend which sp v) (is_hl which) (added_pair is_whole which) v _ refl h
pairs_after-kept may_be is_whole o sp v h = without_registers-kept may_be (written o) v.pairs h
