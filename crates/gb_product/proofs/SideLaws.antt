-- The side by the machine's own condition is possible, and means what the core means.
use Rattle.std.proofs.Common.{◌≡◌, ℕ, ◌≤◌, ◌<◌, Bool, true, false, not, ◌==◌, ◌&&◌, cond, nat_le, Option, Some, None, refl, sym, ◌∙◌, subst, arith}
use Rattle.std.specs.Prelude.{IfSome}
use Rattle.std.proofs.lemmas.Bool.{and_parts, eqb-true, not-true}
use Rattle.std.proofs.lemmas.Bool.Decides.{nat_tests}
use Rattle.gb_ops.specs.declared.op.Condition.{Condition}
use Rattle.gb_ops.specs.declared.op.Condition.TheVariants as condition
use Rattle.gb_ops.specs.declared.op.Op.{Op}
use Rattle.gb_ops.specs.declared.machine.Region.{Region}
use Rattle.gb_ops.specs.declared.registers.Registers.{Registers}
use Rattle.gb_ops.specs.declared.registers.Flags.{Flags}
use Rattle.gb_ops.specs.Registers.{get}
use Rattle.gb_ops.specs.Flags.{is_met}
use Rattle.gb_ops.specs.Effects.{effect_of}
use Rattle.gb_ops.specs.Play.{MState}
use Rattle.gb_domain.specs.declared.pairs.WordPair.{WordPair}
use Rattle.gb_domain.specs.declared.places.OneByte.{OneByte}
use Rattle.gb_domain.specs.declared.relations.Relations.{Relations}
use Rattle.gb_domain.specs.declared.types.Val.{Val}
use Rattle.gb_domain.specs.declared.types.Flg.{Flg}
use Rattle.gb_domain.specs.declared.types.Core.{Core}
use Rattle.gb_domain.specs.declared.types.Cell.{Cell}
use Rattle.gb_domain.specs.Pairs.{ArePairs}
use Rattle.gb_domain.specs.Rules.{IsVal, IsCore}
use Rattle.gb_abs_effects.specs.Below.gb_vals.Meaning.{In}
use Rattle.gb_abs_effects.specs.Below.gb_vals.Tests.{side, IsKept}
use Rattle.gb_abs_effects.proofs.Below.gb_vals_laws.BranchLaws.{side_kept}
use Rattle.gb_product.specs.Meaning.{beside, AreRelated}
use Rattle.gb_abs_effects.specs.Below.gb_abs.Meaning.{Activation, Holds, MeansCore}
use Rattle.gb_abs_effects.specs.Below.gb_abs.Storage.{peek}
use Rattle.gb_abs_effects.specs.Sides as Flags
use Rattle.gb_abs_effects.specs.Sound.{side_by, IsMeant}
use Rattle.gb_abs_effects.proofs.CoreLaws.{In-from}
use Rattle.gb_abs_effects.proofs.SideLaws as flag_sides
use Rattle.gb_summaries.specs.Below.gb_pairs.declared.values.Values.{Values}
use Rattle.gb_summaries.specs.Below.gb_pairs.Meaning.{Beside, word_of}
use Rattle.gb_summaries.specs.Below.gb_pairs.Meaning as pairs
use Rattle.gb_summaries.specs.Below.gb_pairs.Reduced.{restricted}
use Rattle.gb_summaries.specs.Below.gb_pairs.Sound.{HoldsIn}
use Rattle.gb_summaries.specs.Below.gb_pairs.Sound as pair_sound
use Rattle.gb_summaries.proofs.Below.gb_pairs_laws.CutLaws.{restricted_cuts, IsCut-itself}
use Rattle.gb_summaries.proofs.Below.gb_pairs_laws.KeptLaws.{ArePairs-cut}
use Rattle.gb_summaries.proofs.Below.gb_pairs_laws.ReducedLaws.{restricted_sound}
use Rattle.gb_summaries.specs.Below.gb_copies.declared.sides.PlaceContents.{PlaceContents}
use Rattle.gb_summaries.specs.Below.gb_copies.Sound.{HoldContents, HoldContentsIn, IsCutVal, IsCut}
use Rattle.gb_summaries.proofs.Below.gb_copies_laws.SideLaws.{narrowed_sound, narrowed_cuts}
use Rattle.gb_summaries.specs.Below.gb_relations.Meaning.{IsZero}
use Rattle.gb_summaries.specs.Below.gb_relations.Places.{is_ram, is_free}
use Rattle.gb_domain.specs.declared.places.StackBytes.{StackBytes}
use Rattle.gb_domain.specs.Areas.{is_place_at}
use Rattle.gb_summaries.specs.Below.gb_relations.Sound.{IsBytePlaced}
use Rattle.gb_abs_effects.specs.Below.gb_abs.Cells.{IsPlaced}
use Rattle.gb_summaries.specs.Below.gb_relations.Transfer.{values_of}
use Rattle.gb_product.specs.declared.parts.Branch.{Branch}
use Rattle.gb_product.specs.declared.parts.Branches.{Branches}
use Rattle.gb_product.specs.Sides.{contents_of, is_any, known_cell, without_others, with_values_if, with_contents_if, narrowed_side, side_where, taken_side, opposite_of, not_taken_side, sides_of}
use Rattle.gb_product.specs.Sound.{IsKnown, HoldsCell, IsMeantBranch, IsSoundSide, AreSoundSides, IsCutCore, IsSideOf, AreSidesOf}
use Rattle.gb_product.proofs.CutLaws.{AreCut, AreCut-trans, IsCutCore-registers, IsCutCore-flags, IsCutCore-itself, IsCutCore-trans, IsCore-cut, IsCutTogether-pairs}
use Rattle.gb_product.proofs.MeaningLaws.{MeansCore-cut, AreRelated-cut, AreWords, AreWords-pairs, are_words}
use Rattle.gb_product.proofs.ReducedLaws.{AreCut-values}

-- ---- a pair of which Z says whether it is 0

HoldsIn-restricted :
    (p : WordPair) (first last : ℕ) (v : Values) (was : Beside) (x : Registers ℕ)
    → first ≤ word_of p x → word_of p x ≤ last → pairs.Holds v was x → HoldsIn (restricted p (record { first = first; last = last }) v) was x
HoldsIn-restricted p first last v was x least most h = (restricted_sound p _ v _ refl).gives was x (record { least = least; most = most }) h

is_zero : (w : ℕ) (b : Bool) → b ≡ true → b ≡ (w == 0) → w ≤ 0
is_zero w b h e = let z : w ≡ 0 = eqb-true w 0 (sym e ∙ h) in omega arith

is_above_zero : (w : ℕ) (b : Bool) → not b ≡ true → b ≡ (w == 0) → 1 ≤ w
is_above_zero w b h e = grind (arith, nat_tests)

HoldsIn-without_others :
    (z : Option WordPair) (k : Condition) (v : Values) (was : Beside) (x : Registers ℕ) (f : Flags)
    → AreWords v.pairs → is_met k f ≡ true → IsZero z x f → pairs.Holds v was x → HoldsIn (without_others z k v) was x
unfolding is_met
HoldsIn-without_others None k v was x f are met zero h = h
HoldsIn-without_others (Some p) condition.Zero v was x f are met zero h =
    HoldsIn-restricted p 0 0 v was x (omega arith) (is_zero (word_of p x) f.zero met zero) h
HoldsIn-without_others (Some p) condition.NotZero v was x f are met zero h =
    let below = are.each p in
    let last = (h.pairs.each p).last in
    HoldsIn-restricted p 1 0xFFFF v was x (is_above_zero (word_of p x) f.zero met zero) (omega arith) h
HoldsIn-without_others (Some p) condition.Carry v was x f are met zero h = h
HoldsIn-without_others (Some p) condition.NotCarry v was x f are met zero h = h

without_others_cuts : (z : Option WordPair) (k : Condition) (v : Values) → IfSome (without_others z k v) (pair_sound.IsCut v)
without_others_cuts None k v = IsCut-itself v
without_others_cuts (Some p) condition.Zero v = restricted_cuts p _ v _ refl
without_others_cuts (Some p) condition.NotZero v = restricted_cuts p _ v _ refl
without_others_cuts (Some p) condition.Carry v = IsCut-itself v
without_others_cuts (Some p) condition.NotCarry v = IsCut-itself v

-- ---- the byte in memory

Holds-cut : (old new : Val) (entry : Activation) (n : ℕ) → IsCutVal old new → In new n → Holds old entry n → Holds new entry n
Holds-cut old new entry n cut in_new h =
    record { least = in_new.least; most = in_new.most; low = in_new.low; origin = λ o e. h.origin o (sym cut.origin ∙ e) }

known_cell_holds :
    (address : Option ℕ) (v : Val) (entry : Activation) (x : MState)
    → ((a : ℕ) → address ≡ Some a → Holds v entry (peek x.storage a)) → IfSome (known_cell address v) (λ c. HoldsCell entry x c)
known_cell_holds None v entry x h = tt
known_cell_holds (Some a) v entry x h = choose (is_any v)
  where
    choose : (b : Bool) → IfSome (cond b None (Some (record { address = a; val = v }))) (λ c. HoldsCell entry x c)
    choose true = tt
    choose false = h a refl

known_cell_at : (address : Option ℕ) (v : Val) → IfSome (known_cell address v) (λ c. address ≡ Some c.address)
known_cell_at None v = tt
known_cell_at (Some a) v = choose (is_any v)
  where
    choose : (b : Bool) → IfSome (cond b None (Some (record { address = a; val = v }))) (λ (c : Cell). Some a ≡ Some c.address)
    choose true = tt
    choose false = refl

known_cell_val : (address : Option ℕ) (v : Val) → IsVal v → IfSome (known_cell address v) (λ c. IsVal c.val)
known_cell_val None v h = tt
known_cell_val (Some a) v h = choose (is_any v)
  where
    choose : (b : Bool) → IfSome (cond b None (Some (record { address = a; val = v }))) (λ (c : Cell). IsVal c.val)
    choose true = tt
    choose false = h

IsVal-cut : (old new : Val) → IsCutVal old new → IsVal old → IsVal new
IsVal-cut old new cut is =
    let most = cut.most in
    let hi = is.hi in
    record { order = cut.order is.order; hi = omega arith; strided = cut.strided is.strided }

-- ---- a side where a condition is met

AreCut-contents : (b : OneByte) (c left : PlaceContents) → IsCut b c left → AreCut c.registers left.registers
AreCut-contents b c left h =
    record {
      least = λ r. (h.registers r).least;
      most = λ r. (h.registers r).most;
      order = λ r. (h.registers r).order;
      strided = λ r. (h.registers r).strided;
      origin = λ r. (h.registers r).origin;
    }

IsMeantBranch-with_values :
    (core : Core) (r : Relations) (vals : Registers Val) (cell : Option Cell) (o : Option Values) (entry : Activation) (x : MState)
    → HoldsIn o (beside entry x) x.processor.registers → AreCut core.registers vals → IfSome o (pair_sound.IsCut (values_of vals r.pairs))
    → MeansCore core entry x → AreRelated r entry x → IfSome cell (λ c. HoldsCell entry x c)
    → IsMeantBranch (with_values_if core r cell o) entry x
IsMeantBranch-with_values core r vals cell None entry x holds byte cut m n held = holds
IsMeantBranch-with_values core r vals cell (Some v) entry x holds byte cut m n held =
    record {
      core = MeansCore-cut core v.registers entry x holds.registers (AreCut-trans core.registers vals v.registers byte (AreCut-values _ v cut)).origin m;
      related = AreRelated-cut r v.pairs entry x holds.pairs n;
      cell = held;
    }

IsMeantBranch-with_contents :
    (k : Condition) (memory : Val) (core : Core) (r : Relations) (o : Option PlaceContents) (entry : Activation) (x : MState)
    → AreWords r.pairs → is_met k x.processor.flags ≡ true → IsKnown memory r entry x → MeansCore core entry x
    → HoldContentsIn r.byte o x.processor.registers (peek x.storage) → IfSome o (IsCut r.byte (contents_of core memory))
    → IsMeantBranch (with_contents_if k core r o) entry x
IsMeantBranch-with_contents k memory core r None entry x are met known m in_o cut = in_o
IsMeantBranch-with_contents k memory core r (Some left) entry x are met known m in_o cut =
    let v = values_of left.registers r.pairs in
    IsMeantBranch-with_values core r left.registers (known_cell r.byte.address left.memory) (without_others r.zero k v) entry x
    (HoldsIn-without_others r.zero k v (beside entry x) x.processor.registers x.processor.flags are met known.related.zero
    (record { registers = in_o.0; pairs = known.related.pairs }))
    (AreCut-contents r.byte (contents_of core memory) left cut)
    (without_others_cuts r.zero k v) m known.related
    (known_cell_holds r.byte.address left.memory entry x
    (λ a e. Holds-cut _ left.memory entry _ cut.memory (in_o.1 a e) (known.byte a e)))

IsMeantBranch-narrowed_side :
    (k : Condition) (memory : Val) (r : Relations) (core : Core) (entry : Activation) (x : MState)
    → AreWords r.pairs → is_met k x.processor.flags ≡ true → IsKnown memory r entry x → MeansCore core entry x
    → IsMeantBranch (narrowed_side k memory r core) entry x
unfolding narrowed_side
IsMeantBranch-narrowed_side k memory r core entry x are met known m =
    let c = contents_of core memory in
    let holds : HoldContents r.byte c x.processor.registers (peek x.storage) = (
      λ q. In-from (get q core.registers) entry (get q x.processor.registers) (m.registers q),
      λ a e. In-from _ entry _ (known.byte a e),
    ) in
    IsMeantBranch-with_contents k memory core r _ entry x are met known m
    ((narrowed_sound r.byte k c _ refl).gives x.processor.registers (peek x.storage) x.processor.flags holds known.related.byte met)
    (narrowed_cuts r.byte k c _ refl)

-- the condition is met, if there is one
IsMetIf : Option Condition → Flags → Type 0
IsMetIf None f = Unit {0}
IsMetIf (Some k) f = is_met k f ≡ true

IsMeantBranch-side_where :
    (k : Option Condition) (memory : Val) (r : Relations) (o : Option Core) (entry : Activation) (x : MState)
    → AreWords r.pairs → IsMetIf k x.processor.flags → IsKnown memory r entry x → IsMeant o entry x
    → IsMeantBranch (side_where k memory r o) entry x
unfolding IsMetIf
IsMeantBranch-side_where None memory r None entry x are met known m = m
IsMeantBranch-side_where (Some k) memory r None entry x are met known m = m
IsMeantBranch-side_where None memory r (Some core) entry x are met known m = record { core = m; related = known.related; cell = tt }
IsMeantBranch-side_where (Some k) memory r (Some core) entry x are met known m = IsMeantBranch-narrowed_side k memory r core entry x are met known m

-- ---- the sides of an instruction

flags_meant :
    (o : Op) (core : Core) (entry : Activation) (x : MState) (l h : ℕ) (b : Bool)
    → MeansCore core entry x → (effect_of o x.processor l h).is_taken ≡ b → IsMeant (side_by b (Flags.sides_of o core)) entry x
flags_meant o core entry x l h b m e =
    subst (λ t. IsMeant (side_by t (Flags.sides_of o core)) entry x) e ((flag_sides.sides_of_sound o core _ refl).gives entry x l h m)

met_where_taken : (o : Op) (x : MState) (l h : ℕ) → (effect_of o x.processor l h).is_taken ≡ true → IsMetIf (Flags.condition_of o) x.processor.flags
unfolding IsMetIf
met_where_taken o x l h e = choose (Flags.condition_of o) refl
  where
    choose : (k : Option Condition) → Flags.condition_of o ≡ k → IsMetIf k x.processor.flags
    choose None f = tt
    choose (Some k) f = sym (flag_sides.is_taken-with o k x.processor l h f) ∙ e

met_where_not_taken :
    (o : Op) (x : MState) (l h : ℕ) → (effect_of o x.processor l h).is_taken ≡ false → IsMetIf (opposite_of (Flags.condition_of o)) x.processor.flags
unfolding IsMetIf
met_where_not_taken o x l h e = choose (Flags.condition_of o) refl
  where
    choose : (k : Option Condition) → Flags.condition_of o ≡ k → IsMetIf (opposite_of k) x.processor.flags
    choose None f = tt
    choose (Some k) f = flag_sides.met-opposite k x.processor.flags (sym (flag_sides.is_taken-with o k x.processor l h f) ∙ e)

IsSoundSide-taken : (o : Op) (memory : Val) (core : Core) (r : Relations) → AreWords r.pairs → IsSoundSide true o memory core r (taken_side o memory core r)
unfolding taken_side
IsSoundSide-taken o memory core r are =
    record {
      gives = λ entry x l h known m e.
          IsMeantBranch-side_where (Flags.condition_of o) memory r _ entry x are (met_where_taken o x l h e) known (flags_meant o core entry x l h true m e);
    }

IsSoundSide-not_taken : (o : Op) (memory : Val) (core : Core) (r : Relations) → AreWords r.pairs → IsSoundSide false o memory core r (not_taken_side o memory core r)
unfolding not_taken_side
IsSoundSide-not_taken o memory core r are =
    record {
      gives = λ entry x l h known m e.
          IsMeantBranch-side_where (opposite_of (Flags.condition_of o)) memory r _ entry x are (met_where_not_taken o x l h e) known
          (flags_meant o core entry x l h false m e);
    }

AreSoundSides-sides_of : (o : Op) (memory : Val) (core : Core) (r : Relations) → AreWords r.pairs → AreSoundSides o memory core r (sides_of o memory core r)
unfolding sides_of
AreSoundSides-sides_of o memory core r are = record { taken = IsSoundSide-taken o memory core r are; not_taken = IsSoundSide-not_taken o memory core r are }

pub taken_side_sound :
    (may_be : ℕ → Bool) (o : Op) (memory : Val) (core : Core) (r : Relations) (side : Option Branch)
    → side ≡ taken_side o memory core r → ArePairs may_be r.pairs → IsSoundSide true o memory core r side
taken_side_sound may_be o memory core r side e are =
    subst (λ s. IsSoundSide true o memory core r s) (sym e) (IsSoundSide-taken o memory core r (AreWords-pairs may_be r.pairs are))

pub not_taken_side_sound :
    (may_be : ℕ → Bool) (o : Op) (memory : Val) (core : Core) (r : Relations) (side : Option Branch)
    → side ≡ not_taken_side o memory core r → ArePairs may_be r.pairs → IsSoundSide false o memory core r side
not_taken_side_sound may_be o memory core r side e are =
    subst (λ s. IsSoundSide false o memory core r s) (sym e) (IsSoundSide-not_taken o memory core r (AreWords-pairs may_be r.pairs are))

pub sides_of_sound :
    (may_be : ℕ → Bool) (o : Op) (memory : Val) (core : Core) (r : Relations) (sides : Branches)
    → sides ≡ sides_of o memory core r → ArePairs may_be r.pairs → AreSoundSides o memory core r sides
sides_of_sound may_be o memory core r sides e are =
    subst (λ s. AreSoundSides o memory core r s) (sym e) (AreSoundSides-sides_of o memory core r (AreWords-pairs may_be r.pairs are))

-- where no side is possible, no machine state is meant
pub no_side :
    (may_be : ℕ → Bool) (o : Op) (memory : Val) (core : Core) (r : Relations) (entry : Activation) (x : MState)
    → ArePairs may_be r.pairs → taken_side o memory core r ≡ None → not_taken_side o memory core r ≡ None
    → IsKnown memory r entry x → MeansCore core entry x → ⊥
no_side may_be o memory core r entry x are e f known m = choose (effect_of o x.processor 0 0).is_taken refl
  where
    choose : (b : Bool) → (effect_of o x.processor 0 0).is_taken ≡ b → ⊥
    choose true is = (taken_side_sound may_be o memory core r None (sym e) are).gives entry x 0 0 known m is
    choose false is = (not_taken_side_sound may_be o memory core r None (sym f) are).gives entry x 0 0 known m is

-- the clauses of functions, whose types say that bounds are words
pub taken_side_sound_of_words :
    (o : Op) (memory : Val) (core : Core) (r : Relations) (side : Option Branch)
    → side ≡ taken_side o memory core r → r.pairs.bc.bounds.last < 65536 → r.pairs.de.bounds.last < 65536 → r.pairs.hl.bounds.last < 65536
    → IsSoundSide true o memory core r side
taken_side_sound_of_words o memory core r side e bc de hl =
    subst (λ s. IsSoundSide true o memory core r s) (sym e) (IsSoundSide-taken o memory core r (are_words r.pairs bc de hl))

pub not_taken_side_sound_of_words :
    (o : Op) (memory : Val) (core : Core) (r : Relations) (side : Option Branch)
    → side ≡ not_taken_side o memory core r → r.pairs.bc.bounds.last < 65536 → r.pairs.de.bounds.last < 65536
    → r.pairs.hl.bounds.last < 65536 → IsSoundSide false o memory core r side
not_taken_side_sound_of_words o memory core r side e bc de hl =
    subst (λ s. IsSoundSide false o memory core r s) (sym e) (IsSoundSide-not_taken o memory core r (are_words r.pairs bc de hl))

pub sides_of_sound_of_words :
    (o : Op) (memory : Val) (core : Core) (r : Relations) (sides : Branches)
    → sides ≡ sides_of o memory core r → r.pairs.bc.bounds.last < 65536 → r.pairs.de.bounds.last < 65536
    → r.pairs.hl.bounds.last < 65536 → AreSoundSides o memory core r sides
sides_of_sound_of_words o memory core r sides e bc de hl =
    subst (λ s. AreSoundSides o memory core r s) (sym e) (AreSoundSides-sides_of o memory core r (are_words r.pairs bc de hl))

-- ---- what is cut

IsSideOf-with_values :
    (memory : Val) (core : Core) (r : Relations) (left : PlaceContents) (o : Option Values)
    → IsCut r.byte (contents_of core memory) left → IfSome o (pair_sound.IsCut (values_of left.registers r.pairs))
    → IfSome (with_values_if core r (known_cell r.byte.address left.memory) o) (IsSideOf memory core r)
IsSideOf-with_values memory core r left None byte cut = tt
IsSideOf-with_values memory core r left (Some v) byte cut =
    let registers : AreCut core.registers v.registers =
    AreCut-trans core.registers left.registers v.registers (AreCut-contents r.byte (contents_of core memory) left byte)
    (AreCut-values (values_of left.registers r.pairs) v cut) in
    record {
      core = IsCutCore-registers core v.registers registers;
      relations = IsCutTogether-pairs r v.pairs (λ may_be. ArePairs-cut may_be (values_of left.registers r.pairs) v cut);
      inhabited = IsCore-cut core v.registers registers;
      address = known_cell_at r.byte.address left.memory;
      val = λ h. known_cell_val r.byte.address left.memory (IsVal-cut _ left.memory byte.memory h);
    }

IsSideOf-with_contents :
    (k : Condition) (memory : Val) (core : Core) (r : Relations) (o : Option PlaceContents)
    → IfSome o (IsCut r.byte (contents_of core memory)) → IfSome (with_contents_if k core r o) (IsSideOf memory core r)
IsSideOf-with_contents k memory core r None cut = tt
IsSideOf-with_contents k memory core r (Some left) cut =
    IsSideOf-with_values memory core r left _ cut (without_others_cuts r.zero k (values_of left.registers r.pairs))

IsSideOf-narrowed_side : (k : Condition) (memory : Val) (r : Relations) (core : Core) → IfSome (narrowed_side k memory r core) (IsSideOf memory core r)
unfolding narrowed_side
IsSideOf-narrowed_side k memory r core = IsSideOf-with_contents k memory core r _ (narrowed_cuts r.byte k (contents_of core memory) _ refl)

-- a core that the flags cut, and what its ranges are
record IsByFlags (s t : Core) : Type 0 where
  core : IsCutCore s t
  inhabited : IsCore s → IsCore t

IsSideOf-by_flags : (memory : Val) (s t : Core) (r : Relations) (o : Option Branch) → IsByFlags s t → IfSome o (IsSideOf memory t r) → IfSome o (IsSideOf memory s r)
IsSideOf-by_flags memory s t r None h k = tt
IsSideOf-by_flags memory s t r (Some b) h k =
    record {
      core = IsCutCore-trans s t b.core h.core k.core;
      relations = k.relations;
      inhabited = λ is. k.inhabited (h.inhabited is);
      address = k.address;
      val = k.val;
    }

IsSideOf-side_where :
    (k : Option Condition) (memory : Val) (core : Core) (r : Relations) (o : Option Core)
    → IfSome o (IsByFlags core) → IfSome (side_where k memory r o) (IsSideOf memory core r)
IsSideOf-side_where None memory core r None h = tt
IsSideOf-side_where (Some k) memory core r None h = tt
IsSideOf-side_where None memory core r (Some t) h =
    record {
      core = h.core;
      relations = IsCutTogether-pairs r r.pairs (λ may_be are. are);
      inhabited = h.inhabited;
      address = tt;
      val = λ are. tt;
    }
IsSideOf-side_where (Some k) memory core r (Some t) h = IsSideOf-by_flags memory core t r _ h (IsSideOf-narrowed_side k memory r t)

IsByFlags-both : (core : Core) (o : Option Core) → IfSome o (IsCutCore core) → (IsCore core → IfSome o IsCore) → IfSome o (IsByFlags core)
IsByFlags-both core None h k = tt
IsByFlags-both core (Some t) h k = record { core = h; inhabited = k }

IsCutCore-with_flags_if : (core : Core) (f : Option Flg) → IsKept core.flags f → IfSome (Flags.with_flags_if core f) (IsCutCore core)
IsCutCore-with_flags_if core None h = tt
IsCutCore-with_flags_if core (Some f) h = IsCutCore-flags core f h

IsCutCore-side_of : (k : Condition) (core : Core) → IfSome (Flags.side_of k core) (IsCutCore core)
unfolding Flags.side_of
IsCutCore-side_of k core = IsCutCore-with_flags_if core (side k core.flags) (side_kept k core.flags _ refl)

IsCutCore-taken : (o : Op) (core : Core) → IfSome (Flags.sides_of o core).taken (IsCutCore core)
unfolding Flags.sides_of
IsCutCore-taken o core = choose (Flags.condition_of o)
  where
    choose : (k : Option Condition) → IfSome (Flags.sides_by k core).taken (IsCutCore core)
    choose None = IsCutCore-itself core
    choose (Some k) = IsCutCore-side_of k core

IsCutCore-not_taken : (o : Op) (core : Core) → IfSome (Flags.sides_of o core).not_taken (IsCutCore core)
unfolding Flags.sides_of
IsCutCore-not_taken o core = choose (Flags.condition_of o)
  where
    choose : (k : Option Condition) → IfSome (Flags.sides_by k core).not_taken (IsCutCore core)
    choose None = tt
    choose (Some k) = IsCutCore-side_of (Flags.opposite k) core

IsSideOf-taken : (o : Op) (memory : Val) (core : Core) (r : Relations) → IfSome (taken_side o memory core r) (IsSideOf memory core r)
unfolding taken_side
IsSideOf-taken o memory core r =
    IsSideOf-side_where (Flags.condition_of o) memory core r _
    (IsByFlags-both core _ (IsCutCore-taken o core) (λ is. (flag_sides.sides_of_inhabited o core _ refl is).taken))

IsSideOf-not_taken : (o : Op) (memory : Val) (core : Core) (r : Relations) → IfSome (not_taken_side o memory core r) (IsSideOf memory core r)
unfolding not_taken_side
IsSideOf-not_taken o memory core r =
    IsSideOf-side_where (opposite_of (Flags.condition_of o)) memory core r _
    (IsByFlags-both core _ (IsCutCore-not_taken o core) (λ is. (flag_sides.sides_of_inhabited o core _ refl is).not_taken))

pub taken_side_cuts :
    (o : Op) (memory : Val) (core : Core) (r : Relations) (side : Option Branch)
    → side ≡ taken_side o memory core r → IfSome side (IsSideOf memory core r)
taken_side_cuts o memory core r side e = subst (λ s. IfSome s (IsSideOf memory core r)) (sym e) (IsSideOf-taken o memory core r)

pub not_taken_side_cuts :
    (o : Op) (memory : Val) (core : Core) (r : Relations) (side : Option Branch)
    → side ≡ not_taken_side o memory core r → IfSome side (IsSideOf memory core r)
not_taken_side_cuts o memory core r side e = subst (λ s. IfSome s (IsSideOf memory core r)) (sym e) (IsSideOf-not_taken o memory core r)

pub sides_of_cuts :
    (o : Op) (memory : Val) (core : Core) (r : Relations) (sides : Branches)
    → sides ≡ sides_of o memory core r → AreSidesOf memory core r sides
unfolding sides_of
sides_of_cuts o memory core r sides e =
    subst (λ s. AreSidesOf memory core r s) (sym e)
    (record { taken = IsSideOf-taken o memory core r; not_taken = IsSideOf-not_taken o memory core r })

-- ---- where a side's cell lies

pub IsPlaced-free : (region : Region) (c : Cell) → is_free region c.address ≡ true → IsPlaced region c
IsPlaced-free region c h =
    let parts = and_parts _ _ h in
    record { area = itself c.address (is_ram c.address) parts.0; apart = not-true _ parts.1 }
  where
    itself : (a : ℕ) (b : Bool) → b ≡ true → (nat_le a a && b) ≡ true
    itself a b h = grind (arith, nat_tests)

placed_if :
    (stack : StackBytes) (address : Option ℕ) (cell : Option Cell)
    → IsBytePlaced stack address → IfSome cell (λ c. address ≡ Some c.address) → IfSome cell (λ c. is_place_at stack c.address ≡ true)
placed_if stack address None h e = tt
placed_if stack address (Some c) h e = subst (λ a. IsBytePlaced stack a) e h

-- where a byte may be a place, as the address among the places is
pub side_placed :
    (stack : StackBytes) (memory : Val) (core : Core) (r : Relations) (b : Branch)
    → IsBytePlaced stack r.byte.address → IsSideOf memory core r b → IfSome b.cell (λ c. is_place_at stack c.address ≡ true)
side_placed stack memory core r b h is = placed_if stack r.byte.address b.cell h is.address
