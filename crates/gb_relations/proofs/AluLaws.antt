-- What operations of A leave of the places, and what their flags then say.
use Rattle.std.proofs.Common.{◌≡◌, ℕ, ◌<◌, Bool, true, false, ◌==◌, cond, bit_and, bit_or, Option, Some, None, refl, sym, subst, arith}
use Rattle.std.specs.Int.Bits.{and_self, or_self}
use Rattle.gb_ops.specs.declared.op.Register.{Register}
use Rattle.gb_ops.specs.declared.op.Register.TheVariants.{A, B, C, D, E, H, L}
use Rattle.gb_ops.specs.declared.op.AluOp.{AluOp}
use Rattle.gb_ops.specs.declared.op.AluOp.TheVariants as alu
use Rattle.gb_ops.specs.declared.op.Operand.{Operand}
use Rattle.gb_ops.specs.declared.op.Operand.TheVariants as operand
use Rattle.gb_ops.specs.declared.registers.Registers.{Registers}
use Rattle.gb_ops.specs.declared.registers.Flags.{Flags}
use Rattle.gb_ops.specs.declared.registers.Processor.{Processor}
use Rattle.gb_ops.specs.Registers.{get, set}
use Rattle.gb_ops.specs.Arithmetic.{alu_result, added, subtracted, logical}
use Rattle.gb_ops.specs.Effects.{operand_value}
use Rattle.gb_domain.specs.declared.types.Val.{Val}
use Rattle.gb_domain.specs.declared.places.Place.TheVariants as place
use Rattle.gb_domain.specs.declared.places.Test.TheVariants as test
use Rattle.gb_domain.specs.declared.places.OneByte.{OneByte}
use Rattle.gb_pairs.specs.Below.gb_vals.Vals.{is_single}
use Rattle.gb_pairs.specs.Below.gb_vals.Meaning.{In}
use Rattle.gb_pairs.proofs.Below.gb_vals_laws.MeaningLaws.{single-is}
use Rattle.gb_pairs.specs.declared.values.Values.{Values}
use Rattle.gb_pairs.specs.Meaning.{AreBytes}
use Rattle.gb_copies.specs.Meaning.{HoldOneByte}
use Rattle.gb_copies.specs.Places.{only_tested, tested, tested_before_a}
use Rattle.gb_copies.proofs.PlaceLaws.{without_test_sound, tested_sound, tested_before_a_sound}
use Rattle.gb_relations.specs.Bytes as bytes
use Rattle.gb_relations.proofs.ResultLaws.{and-byte, alu-byte, compared-zero, compared-carry, below_zero}
use Rattle.gb_relations.proofs.ByteLaws.{HoldOneByte-zero_register}

-- an operand that is known is this one
abbrev pub IsKnown : Option ℕ → ℕ → Type 0
IsKnown None n = Unit {0}
IsKnown (Some m) n = n ≡ m

pub IsKnown-known : (v : Val) (n : ℕ) → In v n → IsKnown (bytes.known v) n
IsKnown-known v n h = choose (is_single v) refl
  where
    choose : (b : Bool) → is_single v ≡ b → IsKnown (cond b (Some v.lo) None) n
    choose true e = single-is v n e h
    choose false e = tt

-- CP and SUB with n
HoldOneByte-compared :
    (n : ℕ) (b : OneByte) (x : Registers ℕ) (memory : ℕ → ℕ) (f : Flags)
    → n < 256 → AreBytes x → HoldOneByte b x memory f
    → HoldOneByte (tested (place.Register A) (test.Compare n) b) x memory (subtracted x.a n 0).flags
unfolding subtracted
HoldOneByte-compared n b x memory f small byte h =
    (tested_sound (place.Register A) (test.Compare n) b _ refl).gives x memory f _ (byte.each A) (compared-zero x.a n (byte.each A) small, compared-carry x.a n) h

HoldOneByte-subtracted :
    (n : ℕ) (b : OneByte) (x : Registers ℕ) (memory : ℕ → ℕ) (f : Flags)
    → n < 256 → AreBytes x → HoldOneByte b x memory f
    → HoldOneByte (tested_before_a (test.Compare n) b) (set A (subtracted x.a n 0).value x) memory (subtracted x.a n 0).flags
unfolding subtracted
HoldOneByte-subtracted n b x memory f small byte h =
    (tested_before_a_sound (test.Compare n) b _ refl).gives x memory f _ _ (byte.each A) (omega arith) (compared-zero x.a n (byte.each A) small, compared-carry x.a n) refl h

-- AND with n
HoldOneByte-masked :
    (n : ℕ) (b : OneByte) (x : Registers ℕ) (memory : ℕ → ℕ) (f : Flags)
    → bit_and x.a n < 256 → AreBytes x → HoldOneByte b x memory f
    → HoldOneByte (tested_before_a (test.Bits n) b) (set A (logical (bit_and x.a n) true).value x) memory (logical (bit_and x.a n) true).flags
unfolding logical
HoldOneByte-masked n b x memory f small byte h =
    (tested_before_a_sound (test.Bits n) b _ refl).gives x memory f _ _ (byte.each A) small refl refl h

-- of an operation that writes A, Z says whether A is 0
alu-zero : (how : AluOp) (a n : ℕ) (f : Flags) → (how ≡ alu.Cp → ⊥) → (alu_result how a n f).flags.zero ≡ ((alu_result how a n f).value == 0)
unfolding alu_result added subtracted logical
alu-zero alu.Add a n f other = refl
alu-zero alu.Adc a n f other = refl
alu-zero alu.Sub a n f other = refl
alu-zero alu.Sbc a n f other = refl
alu-zero alu.And a n f other = refl
alu-zero alu.Xor a n f other = refl
alu-zero alu.Or a n f other = refl
alu-zero alu.Cp a n f other = absurd (other refl)

HoldOneByte-result :
    (how : AluOp) (n : ℕ) (x : Registers ℕ) (memory : ℕ → ℕ) (f : Flags)
    → (how ≡ alu.Cp → ⊥) → n < 256 → AreBytes x
    → HoldOneByte (only_tested (place.Register A) bytes.is_zero_test) (set A (alu_result how x.a n f).value x) memory (alu_result how x.a n f).flags
HoldOneByte-result how n x memory f other small byte =
    HoldOneByte-zero_register A (alu_result how x.a n f).value x memory (alu_result how x.a n f).flags (alu-byte how x.a n f (byte.each A) small) (alu-zero how x.a n f other)

pub HoldOneByte-of_a :
    (how : AluOp) (k : Option ℕ) (n : ℕ) (b : OneByte) (x : Registers ℕ) (memory : ℕ → ℕ) (f : Flags)
    → IsKnown k n → n < 256 → AreBytes x → HoldOneByte b x memory f
    → HoldOneByte (bytes.of_a how k b) (set A (alu_result how x.a n f).value x) memory (alu_result how x.a n f).flags
unfolding alu_result
HoldOneByte-of_a alu.Cp (Some m) n b x memory f e small byte h =
    subst (λ k. HoldOneByte (tested (place.Register A) (test.Compare k) b) x memory (subtracted x.a n 0).flags) e
    (HoldOneByte-compared n b x memory f small byte h)
HoldOneByte-of_a alu.Cp None n b x memory f e small byte h = (without_test_sound b _ refl).gives x memory f _ h
HoldOneByte-of_a alu.Sub (Some m) n b x memory f e small byte h =
    subst (λ k. HoldOneByte (tested_before_a (test.Compare k) b) (set A (subtracted x.a n 0).value x) memory (subtracted x.a n 0).flags) e
    (HoldOneByte-subtracted n b x memory f small byte h)
HoldOneByte-of_a alu.And (Some m) n b x memory f e small byte h =
    subst (λ k. HoldOneByte (tested_before_a (test.Bits k) b) (set A (logical (bit_and x.a n) true).value x) memory (logical (bit_and x.a n) true).flags) e
    (HoldOneByte-masked n b x memory f (and-byte x.a n (byte.each A)) byte h)
HoldOneByte-of_a alu.Sub None n b x memory f e small byte h = HoldOneByte-result alu.Sub n x memory f (λ s. cc) small byte
HoldOneByte-of_a alu.And None n b x memory f e small byte h = HoldOneByte-result alu.And n x memory f (λ s. cc) small byte
HoldOneByte-of_a alu.Add k n b x memory f e small byte h = HoldOneByte-result alu.Add n x memory f (λ s. cc) small byte
HoldOneByte-of_a alu.Adc k n b x memory f e small byte h = HoldOneByte-result alu.Adc n x memory f (λ s. cc) small byte
HoldOneByte-of_a alu.Sbc k n b x memory f e small byte h = HoldOneByte-result alu.Sbc n x memory f (λ s. cc) small byte
HoldOneByte-of_a alu.Xor k n b x memory f e small byte h = HoldOneByte-result alu.Xor n x memory f (λ s. cc) small byte
HoldOneByte-of_a alu.Or k n b x memory f e small byte h = HoldOneByte-result alu.Or n x memory f (λ s. cc) small byte

-- AND and OR of A with itself
HoldOneByte-itself :
    (m : ℕ) (half : Bool) (b : OneByte) (x : Registers ℕ) (memory : ℕ → ℕ) (f : Flags)
    → m ≡ x.a → AreBytes x → HoldOneByte b x memory f
    → HoldOneByte (tested (place.Register A) (test.Compare 0) b) (set A (logical m half).value x) memory (logical m half).flags
unfolding logical
HoldOneByte-itself m half b x memory f e byte h =
    subst (λ k. HoldOneByte (tested (place.Register A) (test.Compare 0) b) (set A (logical k half).value x) memory (logical k half).flags) (sym e)
    ((tested_sound (place.Register A) (test.Compare 0) b _ refl).gives x memory f _ (byte.each A) (refl, below_zero x.a) h)

HoldOneByte-of_a_itself :
    (how : AluOp) (b : OneByte) (x : Registers ℕ) (memory : ℕ → ℕ) (f : Flags)
    → AreBytes x → HoldOneByte b x memory f
    → HoldOneByte (bytes.of_a_itself how b) (set A (alu_result how x.a x.a f).value x) memory (alu_result how x.a x.a f).flags
unfolding alu_result
HoldOneByte-of_a_itself alu.And b x memory f byte h = HoldOneByte-itself (bit_and x.a x.a) true b x memory f (and_self x.a) byte h
HoldOneByte-of_a_itself alu.Or b x memory f byte h = HoldOneByte-itself (bit_or x.a x.a) false b x memory f (or_self x.a) byte h
HoldOneByte-of_a_itself alu.Cp b x memory f byte h = (without_test_sound b _ refl).gives x memory f _ h
HoldOneByte-of_a_itself alu.Add b x memory f byte h = HoldOneByte-result alu.Add x.a x memory f (λ s. cc) (byte.each A) byte
HoldOneByte-of_a_itself alu.Adc b x memory f byte h = HoldOneByte-result alu.Adc x.a x memory f (λ s. cc) (byte.each A) byte
HoldOneByte-of_a_itself alu.Sub b x memory f byte h = HoldOneByte-result alu.Sub x.a x memory f (λ s. cc) (byte.each A) byte
HoldOneByte-of_a_itself alu.Sbc b x memory f byte h = HoldOneByte-result alu.Sbc x.a x memory f (λ s. cc) (byte.each A) byte
HoldOneByte-of_a_itself alu.Xor b x memory f byte h = HoldOneByte-result alu.Xor x.a x memory f (λ s. cc) (byte.each A) byte

HoldOneByte-of_register :
    (how : AluOp) (r : Register) (v : Values) (b : OneByte) (x : Registers ℕ) (memory : ℕ → ℕ) (f : Flags)
    → In (get r v.registers) (get r x) → AreBytes x → HoldOneByte b x memory f
    → HoldOneByte (bytes.of_a how (bytes.known (get r v.registers)) b) (set A (alu_result how x.a (get r x) f).value x) memory (alu_result how x.a (get r x) f).flags
HoldOneByte-of_register how r v b x memory f m byte h =
    HoldOneByte-of_a how (bytes.known (get r v.registers)) (get r x) b x memory f (IsKnown-known (get r v.registers) (get r x) m) (byte.each r) byte h

pub HoldOneByte-of_a_with :
    (how : AluOp) (from : Operand) (v : Values) (low : Val) (l : ℕ) (b : OneByte) (p : Processor) (memory : ℕ → ℕ)
    → ((q : Register) → In (get q v.registers) (get q p.registers)) → In low l → l < 256 → AreBytes p.registers
    → HoldOneByte b p.registers memory p.flags
    → HoldOneByte (bytes.of_a_with how from v low b) (set A (alu_result how p.registers.a (operand_value p from l) p.flags).value p.registers) memory (alu_result how p.registers.a (operand_value p from l) p.flags).flags
unfolding operand_value
HoldOneByte-of_a_with how (operand.Register A) v low l b p memory m read small byte h = HoldOneByte-of_a_itself how b p.registers memory p.flags byte h
HoldOneByte-of_a_with how (operand.Register B) v low l b p memory m read small byte h = HoldOneByte-of_register how B v b p.registers memory p.flags (m B) byte h
HoldOneByte-of_a_with how (operand.Register C) v low l b p memory m read small byte h = HoldOneByte-of_register how C v b p.registers memory p.flags (m C) byte h
HoldOneByte-of_a_with how (operand.Register D) v low l b p memory m read small byte h = HoldOneByte-of_register how D v b p.registers memory p.flags (m D) byte h
HoldOneByte-of_a_with how (operand.Register E) v low l b p memory m read small byte h = HoldOneByte-of_register how E v b p.registers memory p.flags (m E) byte h
HoldOneByte-of_a_with how (operand.Register H) v low l b p memory m read small byte h = HoldOneByte-of_register how H v b p.registers memory p.flags (m H) byte h
HoldOneByte-of_a_with how (operand.Register L) v low l b p memory m read small byte h = HoldOneByte-of_register how L v b p.registers memory p.flags (m L) byte h
HoldOneByte-of_a_with how operand.AtHl v low l b p memory m read small byte h =
    HoldOneByte-of_a how (bytes.known low) l b p.registers memory p.flags (IsKnown-known low l read) small byte h
