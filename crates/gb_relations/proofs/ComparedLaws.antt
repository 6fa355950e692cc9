-- A comparison of A holds until A or the flags are written.
use Rattle.std.proofs.Common.{◌≡◌, ℕ, ◌<◌, Bool, true, false, ◌||◌, cond, List, [], ◌∷◌, Option, Some, None, refl, sym, ◌∙◌, ap, subst, arith}
use Rattle.std.specs.List.{list_any}
use Rattle.std.proofs.lemmas.Bool.{or_parts}
use Rattle.std.specs.Int.Bits.{and_self, or_self}
use Rattle.gb_ops.specs.declared.op.Register.{Register}
use Rattle.gb_ops.specs.declared.op.Register.TheVariants.{A, B, C, D, E, H, L}
use Rattle.gb_ops.specs.declared.op.AluOp.TheVariants as alu
use Rattle.gb_ops.specs.declared.op.Operand.TheVariants as operand
use Rattle.gb_ops.specs.declared.op.Op.{Op}
use Rattle.gb_ops.specs.declared.op.Op.TheVariants as op
use Rattle.gb_domain.specs.declared.places.StackBytes.{StackBytes}
use Rattle.gb_ops.specs.declared.registers.Registers.{Registers}
use Rattle.gb_ops.specs.declared.registers.Flags.{Flags}
use Rattle.gb_ops.specs.declared.registers.Processor.{Processor}
use Rattle.gb_ops.specs.Registers.{get, set}
use Rattle.gb_ops.specs.Arithmetic.{alu_result, subtracted, logical}
use Rattle.gb_ops.specs.Effects.{effect_of, update_a, operand_value}
use Rattle.gb_domain.specs.declared.places.Place.TheVariants as place
use Rattle.gb_domain.specs.declared.places.Test.TheVariants as test
use Rattle.gb_domain.specs.declared.places.OneByte.{OneByte}
use Rattle.gb_domain.specs.Places.{no_byte, no_place}
use Rattle.gb_pairs.specs.Meaning.{AreBytes}
use Rattle.gb_domain.specs.Places.{is_same_register}
use Rattle.gb_copies.specs.Meaning.{HoldOneByte}
use Rattle.gb_copies.specs.Places.{byte_at, with_place}
use Rattle.gb_copies.proofs.PlaceLaws.{only_tested_sound}
use Rattle.gb_relations.specs.Written.{written, writes_flags}
use Rattle.gb_relations.specs.Compared.{comparison_of, writes_a, only_of_a, compared_by, compared_after}
use Rattle.gb_relations.specs.Sound.{HasBytes, IsBytePlaced}
use Rattle.gb_relations.proofs.ResultLaws.{compared-zero, compared-carry, below_zero}
use Rattle.gb_relations.proofs.MachineLaws.{overwritten, not_so, effect_of-registers, effect_of-flags}

-- ---- nothing

pub HoldOneByte-nothing : (x : Registers ℕ) (memory : ℕ → ℕ) (f : Flags) → HoldOneByte no_byte x memory f
HoldOneByte-nothing x memory f =
    record { byte = 0; small = omega arith; registers = λ r e. absurd_register r e; address = λ a e. cc; test = tt }
  where
    absurd_register : (r : Register) → get r no_place ≡ true → get r x ≡ 0
    absurd_register A e = cc
    absurd_register B e = cc
    absurd_register C e = cc
    absurd_register D e = cc
    absurd_register E e = cc
    absurd_register H e = cc
    absurd_register L e = cc

-- ---- A alone

only_a : (b : OneByte) (x y : Registers ℕ) (memory after : ℕ → ℕ) (f : Flags) → b.registers.a ≡ true → y.a ≡ x.a → HoldOneByte b x memory f
    → HoldOneByte (record (byte_at (place.Register A)) { test = b.test }) y after f
unfolding with_place
only_a b x y memory after f is same h =
    record { byte = h.byte; small = h.small; registers = λ r e. held r e; address = λ a e. cc; test = h.test }
  where
    held : (r : Register) → get r (set A true no_place) ≡ true → get r y ≡ h.byte
    held A e = same ∙ h.registers A is
    held B e = cc
    held C e = cc
    held D e = cc
    held E e = cc
    held H e = cc
    held L e = cc

-- nothing is said of A: whatever is written, nothing is known behind it
pub without_a : (is_written : Bool) (b : OneByte) → b.registers.a ≡ false → cond is_written no_byte (only_of_a b) ≡ no_byte
unfolding only_of_a
without_a true b h = refl
without_a false b h = ap (λ is. cond is (record (byte_at (place.Register A)) { test = b.test }) no_byte) h

-- where A stays, and the flags
pub HoldOneByte-only_of_a : (b : OneByte) (x y : Registers ℕ) (memory after : ℕ → ℕ) (f g : Flags) → y.a ≡ x.a → g ≡ f → HoldOneByte b x memory f → HoldOneByte (only_of_a b) y after g
unfolding only_of_a
HoldOneByte-only_of_a b x y memory after f g same flags h = subst (λ k. HoldOneByte (only_of_a b) y after k) (sym flags) (choose b.registers.a refl)
  where
    choose : (is : Bool) → b.registers.a ≡ is → HoldOneByte (cond is (record (byte_at (place.Register A)) { test = b.test }) no_byte) y after f
    choose true is = only_a b x y memory after f is same h
    choose false is = HoldOneByte-nothing y after f

-- ---- registers that aren't A

other_kept : (r : Register) (n : ℕ) (x : Registers ℕ) → is_same_register A r ≡ false → (set r n x).a ≡ x.a
other_kept A n x h = not_so h
other_kept B n x h = refl
other_kept C n x h = refl
other_kept D n x h = refl
other_kept E n x h = refl
other_kept H n x h = refl
other_kept L n x h = refl

a_kept : (rs : List Register) (x y : Registers ℕ) → list_any (is_same_register A) rs ≡ false → (overwritten rs x y).a ≡ x.a
a_kept [] x y h = refl
a_kept (r ∷ rs) x y h = let p = or_parts _ _ h in a_kept rs (set r (get r y) x) y p.1 ∙ other_kept r (get r y) x p.0

written_none : (o : Op) → writes_a o ≡ false → list_any (is_same_register A) (written o) ≡ false
unfolding writes_a
written_none (op.Load (operand.Register A) from) h = not_so h
written_none o h = h

stays : (o : Op) (b : OneByte) (p : Processor) (memory after : ℕ → ℕ) (l h : ℕ) → HoldOneByte b p.registers memory p.flags
    → HoldOneByte (compared_by None o b) (effect_of o p l h).processor.registers after (effect_of o p l h).processor.flags
stays o b p memory after l h holds = choose (writes_flags o) (writes_a o) refl refl
  where
    choose : (flags a : Bool) → writes_flags o ≡ flags → writes_a o ≡ a
        → HoldOneByte (cond (flags || a) no_byte (only_of_a b)) (effect_of o p l h).processor.registers after (effect_of o p l h).processor.flags
    choose true a e d = HoldOneByte-nothing _ after _
    choose false true e d = HoldOneByte-nothing _ after _
    choose false false e d =
        HoldOneByte-only_of_a b p.registers _ memory after p.flags _
        (ap (λ (x : Registers ℕ). x.a) (effect_of-registers o p l h) ∙ a_kept (written o) p.registers _ (written_none o d))
        (effect_of-flags o p l h e) holds

-- ---- comparisons

pub HoldOneByte-compared_after : (o : Op) (b : OneByte) (p : Processor) (memory after : ℕ → ℕ) (l h : ℕ) → HasBytes o → AreBytes p.registers → HoldOneByte b p.registers memory p.flags
    → HoldOneByte (compared_after o b) (effect_of o p l h).processor.registers after (effect_of o p l h).processor.flags
unfolding compared_after comparison_of effect_of update_a operand_value alu_result subtracted logical
HoldOneByte-compared_after (op.AluImmediate alu.Cp n) b p memory after l h has bytes holds =
    (only_tested_sound (place.Register A) (test.Compare n) _ refl).gives _ after _ (bytes.each A) (compared-zero p.registers.a n (bytes.each A) has, compared-carry p.registers.a n)
HoldOneByte-compared_after (op.Alu alu.And (operand.Register A)) b p memory after l h has bytes holds =
    (only_tested_sound (place.Register A) (test.Compare 0) _ refl).gives _ after _ (subst (λ n. n < 256) (sym (and_self p.registers.a)) (bytes.each A)) (refl, below_zero _)
HoldOneByte-compared_after (op.Alu alu.Or (operand.Register A)) b p memory after l h has bytes holds =
    (only_tested_sound (place.Register A) (test.Compare 0) _ refl).gives _ after _ (subst (λ n. n < 256) (sym (or_self p.registers.a)) (bytes.each A)) (refl, below_zero _)
HoldOneByte-compared_after o b p memory after l h has bytes holds = stays o b p memory after l h holds

-- A has no address
only_of_a-placed : (stack : StackBytes) (b : OneByte) → IsBytePlaced stack (only_of_a b).address
unfolding only_of_a with_place
only_of_a-placed stack b = by b.registers.a
  where
    by : (is : Bool) → IsBytePlaced stack (cond is (record (byte_at (place.Register A)) { test = b.test }) no_byte).address
    by true = tt
    by false = tt

compared_by-placed : (stack : StackBytes) (k : Option ℕ) (o : Op) (b : OneByte) → IsBytePlaced stack (compared_by k o b).address
unfolding with_place
compared_by-placed stack (Some n) o b = tt
compared_by-placed stack None o b = by (writes_flags o || writes_a o)
  where
    by : (c : Bool) → IsBytePlaced stack (cond c no_byte (only_of_a b)).address
    by true = tt
    by false = only_of_a-placed stack b

pub compared_after-placed : (stack : StackBytes) (o : Op) (b : OneByte) → IsBytePlaced stack (compared_after o b).address
unfolding compared_after
compared_after-placed stack o b = compared_by-placed stack (comparison_of o) o b
