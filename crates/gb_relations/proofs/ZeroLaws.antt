-- Z still says whether the pair is 0.
use Rattle.std.proofs.Common.{◌≡◌, ℕ, Bool, true, false, ◌==◌, ◌&&◌, cond, bit_or, List, [], ◌∷◌, Option, Some, None, refl, sym, ◌∙◌, subst}
use Rattle.std.proofs.lemmas.Bool.{and_parts}
use Rattle.gb_ops.specs.declared.op.Register.{Register}
use Rattle.gb_ops.specs.declared.op.Register.TheVariants.{A, B, C, D, E, H, L}
use Rattle.gb_ops.specs.declared.op.AluOp.TheVariants as alu
use Rattle.gb_ops.specs.declared.op.Operand.TheVariants as operand
use Rattle.gb_ops.specs.declared.op.Op.{Op}
use Rattle.gb_ops.specs.declared.op.Op.TheVariants as op
use Rattle.gb_ops.specs.declared.registers.Registers.{Registers}
use Rattle.gb_ops.specs.declared.registers.Flags.{Flags}
use Rattle.gb_ops.specs.declared.registers.Processor.{Processor}
use Rattle.gb_ops.specs.Registers.{get, set}
use Rattle.gb_ops.specs.Pairs.{word}
use Rattle.gb_ops.specs.Arithmetic.{alu_result, logical}
use Rattle.gb_ops.specs.Effects.{operand_value, update_a, effect_of}
use Rattle.gb_domain.specs.declared.pairs.WordPair.{WordPair}
use Rattle.gb_domain.specs.declared.pairs.WordPair.TheVariants as words
use Rattle.gb_domain.specs.declared.places.OneByte.{OneByte}
use Rattle.gb_pairs.specs.Written.{is_half}
use Rattle.gb_pairs.proofs.RegisterLaws.{word_other}
use Rattle.gb_copies.specs.Meaning.{HoldOneByte}
use Rattle.gb_relations.specs.Meaning.{IsZero}
use Rattle.gb_relations.specs.Written.{written, writes_flags}
use Rattle.gb_relations.specs.Pairs.{other_half}
use Rattle.gb_relations.specs.Transfer.{zero_without, zero_without_registers, zero_by, zero_after}
use Rattle.gb_relations.proofs.ResultLaws.{or-high, or-low}
use Rattle.gb_relations.proofs.MachineLaws.{Overwrites, overwritten, effect_of-registers, effect_of-flags}

-- ---- forgetting

IsZero-without :
    (r : Register) (n : ℕ) (zero : Option WordPair) (x : Registers ℕ) (f : Flags)
    → IsZero zero x f → IsZero (zero_without r zero) (set r n x) f
IsZero-without r n None x f h = tt
IsZero-without r n (Some p) x f h = choose (is_half r p) refl
  where
    choose : (b : Bool) → is_half r p ≡ b → IsZero (cond b None (Some p)) (set r n x) f
    choose true e = tt
    choose false e = subst (λ w. f.zero ≡ (w == 0)) (sym (word_other r p n x e)) h

IsZero-overwritten :
    (rs : List Register) (zero : Option WordPair) (x y : Registers ℕ) (f : Flags)
    → IsZero zero x f → IsZero (zero_without_registers rs zero) (overwritten rs x y) f
IsZero-overwritten [] zero x y f h = h
IsZero-overwritten (r ∷ rest) zero x y f h =
    IsZero-overwritten rest (zero_without r zero) (set r (get r y) x) y f (IsZero-without r (get r y) zero x f h)

IsZero-left :
    (writes : Bool) (rs : List Register) (zero : Option WordPair) (x y : Registers ℕ) (f g : Flags)
    → Overwrites rs x y → (writes ≡ false → g ≡ f) → IsZero zero x f → IsZero (cond writes None (zero_without_registers rs zero)) y g
IsZero-left true rs zero x y f g over same h = tt
IsZero-left false rs zero x y f g over same h =
    subst (λ z. IsZero (zero_without_registers rs zero) z g) (sym over)
    (subst (λ k. IsZero (zero_without_registers rs zero) (overwritten rs x y) k) (sym (same refl)) (IsZero-overwritten rs zero x y f h))

-- ---- OR

-- a place of the byte and A hold the same
both-hold :
    (q : Register) (b : OneByte) (x : Registers ℕ) (memory : ℕ → ℕ) (f : Flags)
    → HoldOneByte b x memory f → (b.registers.a && get q b.registers) ≡ true → get q x ≡ x.a
both-hold q b x memory f h e =
    let p = and_parts b.registers.a (get q b.registers) e in
    h.registers q p.1 ∙ sym (h.registers A p.0)

-- the operand is a pair's high byte, and A holds its low one; or the other way round
IsZero-half :
    (p : WordPair) (q : Register) (n : ℕ) (b : OneByte) (x : Registers ℕ) (memory : ℕ → ℕ) (f : Flags) (y : Registers ℕ) (g : Flags)
    → HoldOneByte b x memory f → (get q x ≡ x.a → g.zero ≡ (n == 0)) → IsZero (Some p) y (record g { zero = (n == 0) })
    → IsZero (zero_by (Some (q, p)) b) y g
IsZero-half p q n b x memory f y g h or is = choose (b.registers.a && get q b.registers) refl
  where
    choose : (c : Bool) → (b.registers.a && get q b.registers) ≡ c → IsZero (cond c (Some p) None) y g
    choose true e = or (both-hold q b x memory f h e) ∙ is
    choose false e = tt

high_with : (a high low : ℕ) → low ≡ a → (bit_or a high == 0) ≡ (word high low == 0)
high_with a high low e = subst (λ k. (bit_or k high == 0) ≡ (word high low == 0)) e (or-high high low)

low_with : (a high low : ℕ) → high ≡ a → (bit_or a low == 0) ≡ (word high low == 0)
low_with a high low e = subst (λ k. (bit_or k low == 0) ≡ (word high low == 0)) e (or-low high low)

IsZero-or :
    (r : Register) (b : OneByte) (x : Registers ℕ) (memory : ℕ → ℕ) (f : Flags)
    → HoldOneByte b x memory f
    → IsZero (zero_by (other_half r) b) (set A (bit_or x.a (get r x)) x) (logical (bit_or x.a (get r x)) false).flags
unfolding logical
IsZero-or A b x memory f h = tt
IsZero-or B b x memory f h = IsZero-half words.Bc C (word x.b x.c) b x memory f _ _ h (λ e. high_with x.a x.b x.c e) refl
IsZero-or C b x memory f h = IsZero-half words.Bc B (word x.b x.c) b x memory f _ _ h (λ e. low_with x.a x.b x.c e) refl
IsZero-or D b x memory f h = IsZero-half words.De E (word x.d x.e) b x memory f _ _ h (λ e. high_with x.a x.d x.e e) refl
IsZero-or E b x memory f h = IsZero-half words.De D (word x.d x.e) b x memory f _ _ h (λ e. low_with x.a x.d x.e e) refl
IsZero-or H b x memory f h = IsZero-half words.Hl L (word x.h x.l) b x memory f _ _ h (λ e. high_with x.a x.h x.l e) refl
IsZero-or L b x memory f h = IsZero-half words.Hl H (word x.h x.l) b x memory f _ _ h (λ e. low_with x.a x.h x.l e) refl

IsZero-or_register :
    (r : Register) (b : OneByte) (p : Processor) (memory : ℕ → ℕ) (l h : ℕ)
    → HoldOneByte b p.registers memory p.flags
    → IsZero (zero_by (other_half r) b) (effect_of (op.Alu alu.Or (operand.Register r)) p l h).processor.registers (effect_of (op.Alu alu.Or (operand.Register r)) p l h).processor.flags
unfolding effect_of update_a operand_value alu_result logical
IsZero-or_register r b p memory l h byte = IsZero-or r b p.registers memory p.flags byte

pub IsZero-zero_after :
    (o : Op) (b : OneByte) (zero : Option WordPair) (p : Processor) (memory : ℕ → ℕ) (l h : ℕ)
    → HoldOneByte b p.registers memory p.flags → IsZero zero p.registers p.flags
    → IsZero (zero_after o b zero) (effect_of o p l h).processor.registers (effect_of o p l h).processor.flags
unfolding zero_after
IsZero-zero_after (op.Alu alu.Or (operand.Register r)) b zero p memory l h byte is = IsZero-or_register r b p memory l h byte
IsZero-zero_after o b zero p memory l h byte is =
    IsZero-left (writes_flags o) (written o) zero p.registers (effect_of o p l h).processor.registers p.flags (effect_of o p l h).processor.flags (effect_of-registers o p l h) (effect_of-flags o p l h) is
