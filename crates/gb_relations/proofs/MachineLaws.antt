-- Which registers, flags and memory the machine's effects leave as they were, and that registers stay bytes.
use Rattle.std.proofs.Common.{◌≡◌, ℕ, ◌+◌, ◌/◌, ◌%◌, ◌<◌, ◌-◌, Bool, true, false, cond, List, [], ◌∷◌, Option, Some, refl, sym, ◌∙◌, ap, subst, arith}
use Rattle.gb_ops.specs.declared.op.Register.{Register}
use Rattle.gb_ops.specs.declared.op.Register.TheVariants.{A, B, C, D, E, H, L}
use Rattle.gb_ops.specs.declared.op.AluOp.{AluOp}
use Rattle.gb_ops.specs.declared.op.AluOp.TheVariants as alu
use Rattle.gb_ops.specs.declared.op.Shift.{Shift}
use Rattle.gb_ops.specs.declared.op.Operand.{Operand}
use Rattle.gb_ops.specs.declared.op.Operand.TheVariants as operand
use Rattle.gb_ops.specs.declared.op.Indirect.{Indirect}
use Rattle.gb_ops.specs.declared.op.Indirect.TheVariants as indirect
use Rattle.gb_ops.specs.declared.op.Pair.{Pair}
use Rattle.gb_ops.specs.declared.op.Pair.TheVariants as pair
use Rattle.gb_ops.specs.declared.op.StackPair.{StackPair}
use Rattle.gb_ops.specs.declared.op.StackPair.TheVariants as stack
use Rattle.gb_ops.specs.declared.op.Op.{Op}
use Rattle.gb_ops.specs.declared.op.Op.TheVariants as op
use Rattle.gb_ops.specs.declared.machine.Computed.{Computed}
use Rattle.gb_ops.specs.declared.machine.Effect.{Effect}
use Rattle.gb_domain.specs.declared.places.StackBytes.{StackBytes}
use Rattle.gb_ops.specs.declared.machine.Write.{Write}
use Rattle.gb_ops.specs.declared.machine.Write.TheVariants as write
use Rattle.gb_ops.specs.declared.registers.Registers.{Registers}
use Rattle.gb_ops.specs.declared.registers.Flags.{Flags}
use Rattle.gb_ops.specs.declared.registers.Processor.{Processor}
use Rattle.gb_ops.specs.Registers.{get, set}
use Rattle.gb_ops.specs.Flags.{is_met}
use Rattle.gb_ops.specs.Pairs.{pair_value, with_pair, with_stack_pair}
use Rattle.gb_ops.specs.Arithmetic.{alu_result, incremented, decremented, shifted, displaced}
use Rattle.gb_ops.specs.Effects.{hl, with_indirect, operand_value, store_operand, update_operand, update_a, jump, push, call, return_to, only_if, effect_of}
use Rattle.gb_pairs.specs.Meaning.{AreBytes}
use Rattle.gb_domain.specs.Places.{is_same_register}
use Rattle.gb_domain.proofs.RegisterLaws.{same_register}
use Rattle.gb_pairs.proofs.RegisterLaws.{AreBytes-set}
use Rattle.gb_relations.specs.Written.{halves, stack_halves, counted, operand_register, moved_register, alu_register, written, is_af, writes_flags}
use Rattle.gb_relations.specs.Sound.{HasBytes, Writes, IsBytePlaced}
use Rattle.gb_relations.proofs.ResultLaws.{shifted-byte, adjusted-byte, reset-byte, set-byte, alu-byte}

-- ---- registers

-- some registers become those of y
abbrev pub overwritten : List Register → Registers ℕ → Registers ℕ → Registers ℕ
overwritten [] x y = x
overwritten (r ∷ rest) x y = overwritten rest (set r (get r y) x) y

-- a record's register set to what it holds
set-one : (r : Register) (n : ℕ) (x : Registers ℕ) → set r n x ≡ set r (get r (set r n x)) x
set-one A n x = refl
set-one B n x = refl
set-one C n x = refl
set-one D n x = refl
set-one E n x = refl
set-one H n x = refl
set-one L n x = refl

set-same : (r : Register) (x : Registers ℕ) → set r (get r x) x ≡ x
set-same A x = refl
set-same B x = refl
set-same C x = refl
set-same D x = refl
set-same E x = refl
set-same H x = refl
set-same L x = refl

abbrev registers_of : Effect → Registers ℕ
registers_of e = e.processor.registers

-- only these registers are written
abbrev pub Overwrites : List Register → Registers ℕ → Registers ℕ → Type 0
Overwrites rs x y = y ≡ overwritten rs x y

Overwrites-pair : (which : Pair) (p : Processor) (w : ℕ) → Overwrites (halves which) p.registers (with_pair p which w).registers
unfolding with_pair
Overwrites-pair pair.Bc p w = refl
Overwrites-pair pair.De p w = refl
Overwrites-pair pair.Hl p w = refl
Overwrites-pair pair.Sp p w = refl

Overwrites-stack_pair : (which : StackPair) (p : Processor) (l h : ℕ) → Overwrites (stack_halves which) p.registers (with_stack_pair p which l h).registers
unfolding with_stack_pair
Overwrites-stack_pair stack.Bc p l h = refl
Overwrites-stack_pair stack.De p l h = refl
Overwrites-stack_pair stack.Hl p l h = refl
Overwrites-stack_pair stack.Af p l h = refl

pub Overwrites-indirect : (which : Indirect) (p : Processor) → Overwrites (counted which) p.registers (with_indirect p which).registers
unfolding with_indirect with_pair
Overwrites-indirect indirect.Bc p = refl
Overwrites-indirect indirect.De p = refl
Overwrites-indirect indirect.HlIncrement p = refl
Overwrites-indirect indirect.HlDecrement p = refl

Overwrites-loaded : (which : Indirect) (p : Processor) (l : ℕ) → Overwrites (A ∷ counted which) p.registers (record (with_indirect p which).registers { a = l })
unfolding with_indirect with_pair
Overwrites-loaded indirect.Bc p l = refl
Overwrites-loaded indirect.De p l = refl
Overwrites-loaded indirect.HlIncrement p l = refl
Overwrites-loaded indirect.HlDecrement p l = refl

Overwrites-operand : (which : Operand) (p : Processor) (n : ℕ) → Overwrites (operand_register which) p.registers (registers_of (store_operand p which n))
unfolding store_operand
Overwrites-operand (operand.Register r) p n = set-one r n p.registers
Overwrites-operand operand.AtHl p n = refl

Overwrites-updated : (which : Operand) (p : Processor) (c : Computed) → Overwrites (operand_register which) p.registers (registers_of (update_operand p which c))
unfolding update_operand store_operand
Overwrites-updated (operand.Register r) p c = set-one r c.value p.registers
Overwrites-updated operand.AtHl p c = refl

Overwrites-moved : (to from : Operand) (p : Processor) (l : ℕ) → Overwrites (moved_register to from) p.registers (registers_of (store_operand p to (operand_value p from l)))
unfolding store_operand operand_value
Overwrites-moved (operand.Register to) (operand.Register from) p l = choose (is_same_register to from) refl
  where
    choose :
        (b : Bool) → is_same_register to from ≡ b
        → Overwrites (cond b [] (to ∷ [])) p.registers (set to (get from p.registers) p.registers)
    choose true e = ap (λ q. set to (get q p.registers) p.registers) (sym (same_register to from e)) ∙ set-same to p.registers
    choose false e = set-one to (get from p.registers) p.registers
Overwrites-moved (operand.Register to) operand.AtHl p l = set-one to l p.registers
Overwrites-moved operand.AtHl (operand.Register from) p l = refl
Overwrites-moved operand.AtHl operand.AtHl p l = refl

Overwrites-a : (p : Processor) (c : Computed) → Overwrites (A ∷ []) p.registers (registers_of (update_a p c))
unfolding update_a
Overwrites-a p c = refl

Overwrites-alu : (how : AluOp) (p : Processor) (v : ℕ) → Overwrites (alu_register how) p.registers (registers_of (update_a p (alu_result how p.registers.a v p.flags)))
unfolding update_a alu_result
Overwrites-alu alu.Add p v = refl
Overwrites-alu alu.Adc p v = refl
Overwrites-alu alu.Sub p v = refl
Overwrites-alu alu.Sbc p v = refl
Overwrites-alu alu.And p v = refl
Overwrites-alu alu.Xor p v = refl
Overwrites-alu alu.Or p v = refl
Overwrites-alu alu.Cp p v = refl

-- an instruction that isn't taken leaves all registers too
only_if-registers : (b : Bool) (e : Effect) (p : Processor) → registers_of e ≡ p.registers → registers_of (only_if b e p) ≡ p.registers
unfolding only_if
only_if-registers true e p h = h
only_if-registers false e p h = refl

pub effect_of-registers : (o : Op) (p : Processor) (l h : ℕ) → Overwrites (written o) p.registers (registers_of (effect_of o p l h))
unfolding effect_of written jump push call return_to
effect_of-registers (op.LoadPair to w) p l h = Overwrites-pair to p w
effect_of-registers (op.StoreA to) p l h = Overwrites-indirect to p
effect_of-registers (op.LoadA from) p l h = Overwrites-loaded from p l
effect_of-registers (op.IncrementPair which) p l h = Overwrites-pair which p _
effect_of-registers (op.DecrementPair which) p l h = Overwrites-pair which p _
effect_of-registers (op.Increment which) p l h = Overwrites-updated which p _
effect_of-registers (op.Decrement which) p l h = Overwrites-updated which p _
effect_of-registers (op.LoadImmediate to v) p l h = Overwrites-operand to p v
effect_of-registers (op.RotateA how) p l h = Overwrites-a p _
effect_of-registers (op.AddHl which) p l h = Overwrites-pair pair.Hl p _
effect_of-registers (op.JumpRelativeIf c e8) p l h = only_if-registers (is_met c p.flags) _ p refl
effect_of-registers op.DecimalAdjust p l h = Overwrites-a p _
effect_of-registers (op.Load to from) p l h = Overwrites-moved to from p l
effect_of-registers (op.Alu how from) p l h = Overwrites-alu how p _
effect_of-registers (op.AluImmediate how v) p l h = Overwrites-alu how p v
effect_of-registers (op.ReturnIf c) p l h = only_if-registers (is_met c p.flags) _ p refl
effect_of-registers (op.Pop to) p l h = Overwrites-stack_pair to p l h
effect_of-registers (op.JumpIf c w) p l h = only_if-registers (is_met c p.flags) _ p refl
effect_of-registers (op.CallIf c w) p l h = only_if-registers (is_met c p.flags) _ p refl
effect_of-registers (op.LoadHlSp e8) p l h = Overwrites-pair pair.Hl p _
effect_of-registers (op.Shift how which) p l h = Overwrites-updated which p _
effect_of-registers (op.Reset n which) p l h = Overwrites-operand which p _
effect_of-registers (op.Set n which) p l h = Overwrites-operand which p _
effect_of-registers o p l h = refl

-- ---- flags

only_if-flags : (b : Bool) (e : Effect) (p : Processor) → e.processor.flags ≡ p.flags → (only_if b e p).processor.flags ≡ p.flags
unfolding only_if
only_if-flags true e p h = h
only_if-flags false e p h = refl

with_pair-flags : (which : Pair) (p : Processor) (w : ℕ) → (with_pair p which w).flags ≡ p.flags
unfolding with_pair
with_pair-flags pair.Bc p w = refl
with_pair-flags pair.De p w = refl
with_pair-flags pair.Hl p w = refl
with_pair-flags pair.Sp p w = refl

pub with_indirect-flags : (which : Indirect) (p : Processor) → (with_indirect p which).flags ≡ p.flags
unfolding with_indirect with_pair
with_indirect-flags indirect.Bc p = refl
with_indirect-flags indirect.De p = refl
with_indirect-flags indirect.HlIncrement p = refl
with_indirect-flags indirect.HlDecrement p = refl

with_stack_pair-flags : (which : StackPair) (p : Processor) (l h : ℕ) → is_af which ≡ false → (with_stack_pair p which l h).flags ≡ p.flags
unfolding with_stack_pair
with_stack_pair-flags stack.Bc p l h e = refl
with_stack_pair-flags stack.De p l h e = refl
with_stack_pair-flags stack.Hl p l h e = refl
with_stack_pair-flags stack.Af p l h e = cc

store_operand-flags : (which : Operand) (p : Processor) (n : ℕ) → (store_operand p which n).processor.flags ≡ p.flags
unfolding store_operand
store_operand-flags (operand.Register r) p n = refl
store_operand-flags operand.AtHl p n = refl

pub not_so : {X : Type 0} → true ≡ false → X
not_so h = cc

pub effect_of-flags : (o : Op) (p : Processor) (l h : ℕ) → writes_flags o ≡ false → (effect_of o p l h).processor.flags ≡ p.flags
unfolding effect_of writes_flags jump push call return_to
effect_of-flags (op.LoadPair to w) p l h e = with_pair-flags to p w
effect_of-flags (op.StoreA to) p l h e = with_indirect-flags to p
effect_of-flags (op.LoadA from) p l h e = with_indirect-flags from p
effect_of-flags (op.IncrementPair which) p l h e = with_pair-flags which p _
effect_of-flags (op.DecrementPair which) p l h e = with_pair-flags which p _
effect_of-flags (op.Increment which) p l h e = not_so e
effect_of-flags (op.Decrement which) p l h e = not_so e
effect_of-flags (op.LoadImmediate to v) p l h e = store_operand-flags to p v
effect_of-flags (op.RotateA how) p l h e = not_so e
effect_of-flags (op.AddHl which) p l h e = not_so e
effect_of-flags (op.JumpRelativeIf c e8) p l h e = only_if-flags (is_met c p.flags) _ p refl
effect_of-flags op.DecimalAdjust p l h e = not_so e
effect_of-flags op.Complement p l h e = not_so e
effect_of-flags op.SetCarry p l h e = not_so e
effect_of-flags op.ComplementCarry p l h e = not_so e
effect_of-flags (op.Load to from) p l h e = store_operand-flags to p _
effect_of-flags (op.Alu how from) p l h e = not_so e
effect_of-flags (op.AluImmediate how v) p l h e = not_so e
effect_of-flags (op.ReturnIf c) p l h e = only_if-flags (is_met c p.flags) _ p refl
effect_of-flags (op.Pop to) p l h e = with_stack_pair-flags to p l h e
effect_of-flags (op.JumpIf c w) p l h e = only_if-flags (is_met c p.flags) _ p refl
effect_of-flags (op.CallIf c w) p l h e = only_if-flags (is_met c p.flags) _ p refl
effect_of-flags (op.AddSp e8) p l h e = not_so e
effect_of-flags (op.LoadHlSp e8) p l h e = not_so e
effect_of-flags (op.Shift how which) p l h e = not_so e
effect_of-flags (op.Bit n which) p l h e = not_so e
effect_of-flags (op.Reset n which) p l h e = store_operand-flags which p _
effect_of-flags (op.Set n which) p l h e = store_operand-flags which p _
effect_of-flags o p l h e = refl

-- ---- memory

-- it stores nowhere but on the stack
abbrev pub is_outside : Write → Bool
is_outside write.Nothing = true
is_outside (write.Byte a n) = false
is_outside (write.Word a w) = false
is_outside (write.Push sp w) = true

abbrev is_at_hl : Operand → Bool
is_at_hl (operand.Register r) = false
is_at_hl operand.AtHl = true

-- it may store at an address
abbrev pub stores : Op → Bool
stores (op.StoreA to) = true
stores (op.Increment which) = is_at_hl which
stores (op.Decrement which) = is_at_hl which
stores (op.LoadImmediate to v) = is_at_hl to
stores (op.StoreSp w) = true
stores (op.Load to from) = is_at_hl to
stores (op.StoreHigh b) = true
stores op.StoreHighC = true
stores (op.StoreAbsolute w) = true
stores (op.Shift how which) = is_at_hl which
stores (op.Reset n which) = is_at_hl which
stores (op.Set n which) = is_at_hl which
stores _ = false

store_operand-outside : (which : Operand) (p : Processor) (n : ℕ) → is_at_hl which ≡ false → is_outside (store_operand p which n).write ≡ true
unfolding store_operand
store_operand-outside (operand.Register r) p n e = refl
store_operand-outside operand.AtHl p n e = not_so e

update_operand-outside : (which : Operand) (p : Processor) (c : Computed) → is_at_hl which ≡ false → is_outside (update_operand p which c).write ≡ true
unfolding update_operand store_operand
update_operand-outside (operand.Register r) p c e = refl
update_operand-outside operand.AtHl p c e = not_so e

only_if-outside : (b : Bool) (e : Effect) (p : Processor) → is_outside e.write ≡ true → is_outside (only_if b e p).write ≡ true
unfolding only_if
only_if-outside true e p h = h
only_if-outside false e p h = refl

pub effect_of-outside : (o : Op) (p : Processor) (l h : ℕ) → stores o ≡ false → is_outside (effect_of o p l h).write ≡ true
unfolding effect_of jump push call return_to update_a
effect_of-outside (op.StoreA to) p l h e = not_so e
effect_of-outside (op.Increment which) p l h e = update_operand-outside which p _ e
effect_of-outside (op.Decrement which) p l h e = update_operand-outside which p _ e
effect_of-outside (op.LoadImmediate to v) p l h e = store_operand-outside to p v e
effect_of-outside (op.StoreSp w) p l h e = not_so e
effect_of-outside (op.JumpRelativeIf c e8) p l h e = only_if-outside (is_met c p.flags) _ p refl
effect_of-outside (op.Load to from) p l h e = store_operand-outside to p _ e
effect_of-outside (op.ReturnIf c) p l h e = only_if-outside (is_met c p.flags) _ p refl
effect_of-outside (op.JumpIf c w) p l h e = only_if-outside (is_met c p.flags) _ p refl
effect_of-outside (op.CallIf c w) p l h e = only_if-outside (is_met c p.flags) _ p refl
effect_of-outside (op.StoreHigh b) p l h e = not_so e
effect_of-outside op.StoreHighC p l h e = not_so e
effect_of-outside (op.StoreAbsolute w) p l h e = not_so e
effect_of-outside (op.Shift how which) p l h e = update_operand-outside which p _ e
effect_of-outside (op.Reset n which) p l h e = store_operand-outside which p _ e
effect_of-outside (op.Set n which) p l h e = store_operand-outside which p _ e
effect_of-outside o p l h e = refl

-- the address among the places stays as it was, where an instruction stores nowhere but on the stack
pub places-stay :
    (held : StackBytes) (w : Write) (address : Option ℕ) (memory after : ℕ → ℕ)
    → is_outside w ≡ true → Writes held w memory after → IsBytePlaced held address
    → (a : ℕ) → address ≡ Some a → after a ≡ memory a
places-stay held write.Nothing address memory after e w placed a is = w a
places-stay held (write.Byte b n) address memory after e w placed a is = not_so (sym e)
places-stay held (write.Word b n) address memory after e w placed a is = not_so (sym e)
places-stay held (write.Push sp n) address memory after e w placed a is = w a (subst (λ o. IsBytePlaced held o) is placed)

-- ---- bytes

AreBytes-two :
    (q r : Register) (m n : ℕ) (x : Registers ℕ) → m < 256 → n < 256 → AreBytes x → AreBytes (set r n (set q m x))
AreBytes-two q r m n x p s bytes = AreBytes-set r n (set q m x) s (AreBytes-set q m x p bytes)

AreBytes-pair : (which : Pair) (p : Processor) (w : ℕ) → w < 65536 → AreBytes p.registers → AreBytes (with_pair p which w).registers
unfolding with_pair
AreBytes-pair pair.Bc p w small bytes = AreBytes-two B C (w / 256) (w % 256) p.registers (omega arith) (omega arith) bytes
AreBytes-pair pair.De p w small bytes = AreBytes-two D E (w / 256) (w % 256) p.registers (omega arith) (omega arith) bytes
AreBytes-pair pair.Hl p w small bytes = AreBytes-two H L (w / 256) (w % 256) p.registers (omega arith) (omega arith) bytes
AreBytes-pair pair.Sp p w small bytes = bytes

AreBytes-stack_pair :
    (which : StackPair) (p : Processor) (l h : ℕ) → l < 256 → h < 256 → AreBytes p.registers → AreBytes (with_stack_pair p which l h).registers
unfolding with_stack_pair
AreBytes-stack_pair stack.Bc p l h q r bytes = AreBytes-two B C h l p.registers r q bytes
AreBytes-stack_pair stack.De p l h q r bytes = AreBytes-two D E h l p.registers r q bytes
AreBytes-stack_pair stack.Hl p l h q r bytes = AreBytes-two H L h l p.registers r q bytes
AreBytes-stack_pair stack.Af p l h q r bytes = AreBytes-set A h p.registers r bytes

pub AreBytes-indirect : (which : Indirect) (p : Processor) → AreBytes p.registers → AreBytes (with_indirect p which).registers
unfolding with_indirect
AreBytes-indirect indirect.Bc p bytes = bytes
AreBytes-indirect indirect.De p bytes = bytes
AreBytes-indirect indirect.HlIncrement p bytes = AreBytes-pair pair.Hl p ((hl p + 1) % 65536) (omega arith) bytes
AreBytes-indirect indirect.HlDecrement p bytes = AreBytes-pair pair.Hl p ((hl p + 65535) % 65536) (omega arith) bytes

AreBytes-operand : (which : Operand) (p : Processor) (n : ℕ) → n < 256 → AreBytes p.registers → AreBytes (registers_of (store_operand p which n))
unfolding store_operand
AreBytes-operand (operand.Register r) p n small bytes = AreBytes-set r n p.registers small bytes
AreBytes-operand operand.AtHl p n small bytes = bytes

AreBytes-updated : (which : Operand) (p : Processor) (c : Computed) → c.value < 256 → AreBytes p.registers → AreBytes (registers_of (update_operand p which c))
unfolding update_operand store_operand
AreBytes-updated (operand.Register r) p c small bytes = AreBytes-set r c.value p.registers small bytes
AreBytes-updated operand.AtHl p c small bytes = bytes

AreBytes-a : (p : Processor) (c : Computed) → c.value < 256 → AreBytes p.registers → AreBytes (registers_of (update_a p c))
unfolding update_a
AreBytes-a p c small bytes = AreBytes-set A c.value p.registers small bytes

AreBytes-only_if : (b : Bool) (e : Effect) (p : Processor) → registers_of e ≡ p.registers → AreBytes p.registers → AreBytes (registers_of (only_if b e p))
AreBytes-only_if b e p h bytes = subst (λ x. AreBytes x) (sym (only_if-registers b e p h)) bytes

pub operand-byte : (which : Operand) (p : Processor) (l : ℕ) → l < 256 → AreBytes p.registers → operand_value p which l < 256
unfolding operand_value
operand-byte (operand.Register r) p l small bytes = bytes.each r
operand-byte operand.AtHl p l small bytes = small

pub incremented-byte : (v : ℕ) (f : Flags) → (incremented v f).value < 256
unfolding incremented
incremented-byte v f = omega arith

pub decremented-byte : (v : ℕ) (f : Flags) → (decremented v f).value < 256
unfolding decremented
decremented-byte v f = omega arith

displaced-word : (from e8 : ℕ) → displaced from e8 < 65536
unfolding displaced
displaced-word from e8 = omega arith

pub shift-byte : (how : Shift) (v : ℕ) (c : Bool) → v < 256 → (shifted how v c).value < 256
unfolding shifted
shift-byte how v c h = shifted-byte how v c h

pub effect_of-bytes :
    (o : Op) (p : Processor) (l h : ℕ)
    → HasBytes o → l < 256 → h < 256 → AreBytes p.registers → AreBytes (registers_of (effect_of o p l h))
unfolding effect_of jump push call return_to
effect_of-bytes (op.LoadPair to w) p l h small q r bytes = AreBytes-pair to p w small bytes
effect_of-bytes (op.StoreA to) p l h small q r bytes = AreBytes-indirect to p bytes
effect_of-bytes (op.LoadA from) p l h small q r bytes = AreBytes-set A l _ q (AreBytes-indirect from p bytes)
effect_of-bytes (op.IncrementPair which) p l h small q r bytes = AreBytes-pair which p _ (omega arith) bytes
effect_of-bytes (op.DecrementPair which) p l h small q r bytes = AreBytes-pair which p _ (omega arith) bytes
effect_of-bytes (op.Increment which) p l h small q r bytes = AreBytes-updated which p _ (incremented-byte _ _) bytes
effect_of-bytes (op.Decrement which) p l h small q r bytes = AreBytes-updated which p _ (decremented-byte _ _) bytes
effect_of-bytes (op.LoadImmediate to v) p l h small q r bytes = AreBytes-operand to p v small bytes
effect_of-bytes (op.RotateA how) p l h small q r bytes = AreBytes-a p _ (shift-byte how p.registers.a p.flags.carry (bytes.each A)) bytes
effect_of-bytes (op.AddHl which) p l h small q r bytes = AreBytes-pair pair.Hl p ((hl p + pair_value p which) % 65536) (omega arith) bytes
effect_of-bytes (op.JumpRelativeIf c e8) p l h small q r bytes = AreBytes-only_if (is_met c p.flags) _ p refl bytes
effect_of-bytes op.DecimalAdjust p l h small q r bytes = AreBytes-a p _ (adjusted-byte p.registers.a p.flags) bytes
effect_of-bytes op.Complement p l h small q r bytes = AreBytes-set A (255 - p.registers.a) p.registers (omega arith) bytes
effect_of-bytes (op.Load to from) p l h small q r bytes = AreBytes-operand to p _ (operand-byte from p l q bytes) bytes
effect_of-bytes (op.Alu how from) p l h small q r bytes =
    AreBytes-a p _ (alu-byte how p.registers.a (operand_value p from l) p.flags (bytes.each A) (operand-byte from p l q bytes)) bytes
effect_of-bytes (op.AluImmediate how v) p l h small q r bytes =
    AreBytes-a p _ (alu-byte how p.registers.a v p.flags (bytes.each A) small) bytes
effect_of-bytes (op.ReturnIf c) p l h small q r bytes = AreBytes-only_if (is_met c p.flags) _ p refl bytes
effect_of-bytes (op.Pop to) p l h small q r bytes = AreBytes-stack_pair to p l h q r bytes
effect_of-bytes (op.JumpIf c w) p l h small q r bytes = AreBytes-only_if (is_met c p.flags) _ p refl bytes
effect_of-bytes (op.CallIf c w) p l h small q r bytes = AreBytes-only_if (is_met c p.flags) _ p refl bytes
effect_of-bytes (op.LoadHigh b) p l h small q r bytes = AreBytes-set A l p.registers q bytes
effect_of-bytes op.LoadHighC p l h small q r bytes = AreBytes-set A l p.registers q bytes
effect_of-bytes (op.LoadAbsolute w) p l h small q r bytes = AreBytes-set A l p.registers q bytes
effect_of-bytes (op.LoadHlSp e8) p l h small q r bytes = AreBytes-pair pair.Hl p (displaced p.sp e8) (displaced-word p.sp e8) bytes
effect_of-bytes (op.Shift how which) p l h small q r bytes =
    AreBytes-updated which p _ (shift-byte how (operand_value p which l) p.flags.carry (operand-byte which p l q bytes)) bytes
effect_of-bytes (op.Reset n which) p l h small q r bytes = AreBytes-operand which p _ (reset-byte n _ (operand-byte which p l q bytes)) bytes
effect_of-bytes (op.Set n which) p l h small q r bytes = AreBytes-operand which p _ (set-byte n _ (operand-byte which p l q bytes)) bytes
effect_of-bytes o p l h small q r bytes = bytes
