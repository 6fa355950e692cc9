-- What each instruction leaves of the places still makes one byte.
use Rattle.std.proofs.Common.{◌≡◌, ℕ, ◌+◌, ◌%◌, ◌<◌, ◌≤◌, Bool, true, false, ◌==◌, cond, Option, Some, None, refl, sym, subst, arith}
use Rattle.std.proofs.lemmas.Bool.{eqb-true}
use Rattle.std.proofs.lemmas.Bool.Decides.{nat_tests}
use Rattle.gb_ops.specs.declared.op.Register.TheVariants.{A, C}
use Rattle.gb_ops.specs.declared.op.Shift.{Shift}
use Rattle.gb_ops.specs.declared.op.Operand.TheVariants as operand
use Rattle.gb_ops.specs.declared.op.Indirect.{Indirect}
use Rattle.gb_ops.specs.declared.op.Indirect.TheVariants as indirect
use Rattle.gb_ops.specs.declared.op.Op.{Op}
use Rattle.gb_ops.specs.declared.op.Op.TheVariants as op
use Rattle.gb_domain.specs.declared.places.StackBytes.{StackBytes}
use Rattle.gb_ops.specs.declared.machine.Read.TheVariants as read
use Rattle.gb_ops.specs.declared.machine.Write.TheVariants as write
use Rattle.gb_ops.specs.declared.registers.Registers.{Registers}
use Rattle.gb_ops.specs.declared.registers.Flags.{Flags}
use Rattle.gb_ops.specs.declared.registers.Processor.{Processor}
use Rattle.gb_ops.specs.Registers.{set}
use Rattle.gb_ops.specs.Pairs.{pair_value, with_pair}
use Rattle.gb_ops.specs.Arithmetic.{incremented, decremented, shifted}
use Rattle.gb_ops.specs.Effects.{hl, indirect_address, with_indirect, operand_value, store_operand, update_a, read_of, effect_of}
use Rattle.gb_domain.specs.declared.types.Val.{Val}
use Rattle.gb_domain.specs.declared.low_bits.LowBits.{LowBits}
use Rattle.gb_domain.specs.declared.pairs.Bounds.{Bounds}
use Rattle.gb_domain.specs.declared.pairs.WordPair.TheVariants as words
use Rattle.gb_domain.specs.declared.places.OneByte.{OneByte}
use Rattle.gb_domain.specs.declared.relations.Relations.{Relations}
use Rattle.gb_pairs.specs.Below.gb_vals.Meaning.{In}
use Rattle.gb_pairs.specs.declared.values.Values.{Values}
use Rattle.gb_pairs.specs.Meaning.{Beside, AreBytes, Holds}
use Rattle.gb_pairs.specs.Sound.{Within}
use Rattle.gb_pairs.proofs.BoundsLaws.{bounds_of_sound}
use Rattle.gb_copies.specs.Meaning.{HoldOneByte}
use Rattle.gb_relations.specs.Written.{counted, written, writes_flags}
use Rattle.gb_relations.specs.Places.{stored_at, behind_echo, loaded_at}
use Rattle.gb_relations.specs.PointedBits.{HasIf, WritesHas}
use Rattle.gb_relations.specs.Bytes as bytes
use Rattle.gb_relations.specs.Transfer.{values_of}
use Rattle.gb_relations.specs.Sound.{HasBytes, IsKeptBut, Writes, Reads, Begins}
use Rattle.gb_relations.proofs.MachineLaws.{Overwrites, Overwrites-indirect, with_indirect-flags, operand-byte, incremented-byte, decremented-byte, shift-byte, effect_of-registers, effect_of-flags, effect_of-outside, places-stay}
use Rattle.gb_relations.proofs.AddressLaws.{IsAt-stored_at, IsAt-loaded_at}
use Rattle.gb_relations.proofs.ByteLaws.{HoldOneByte-elsewhere, HoldOneByte-left, HoldOneByte-registers, HoldOneByte-without_all, HoldOneByte-loaded, HoldOneByte-stored, HoldOneByte-moved, HoldOneByte-computed, HoldOneByte-bit}
use Rattle.gb_relations.proofs.AluLaws.{HoldOneByte-of_a, HoldOneByte-of_a_with}

-- ---- addresses

pub Holds-begun :
    {stack : StackBytes} {o : Op} {sp : Bounds} {vals : Registers Val} {low : Val} {r : Relations} {was : Registers ℕ} {p : Processor} {memory : ℕ → ℕ} {l h : ℕ}
    → Begins stack o sp vals low r was p memory l h → Holds (values_of vals r.pairs) (record { entered = was; memory = memory }) p.registers
Holds-begun b = record { registers = b.registers; pairs = b.relations.pairs }

pub Within-hl : (v : Values) (was : Beside) (p : Processor) → Holds v was p.registers → Within (bytes.at_hl v) (hl p)
unfolding pair_value
Within-hl v was p m = (bounds_of_sound words.Hl v _ refl).gives was p.registers m

pub Within-indirect : (which : Indirect) (v : Values) (was : Beside) (p : Processor) → Holds v was p.registers → Within (bytes.at_indirect which v) (indirect_address p which)
unfolding indirect_address pair_value
Within-indirect indirect.Bc v was p m = (bounds_of_sound words.Bc v _ refl).gives was p.registers m
Within-indirect indirect.De v was p m = (bounds_of_sound words.De v _ refl).gives was p.registers m
Within-indirect indirect.HlIncrement v was p m = (bounds_of_sound words.Hl v _ refl).gives was p.registers m
Within-indirect indirect.HlDecrement v was p m = (bounds_of_sound words.Hl v _ refl).gives was p.registers m

pub Within-one : (a : ℕ) → Within (bytes.one a) a
Within-one a = record { least = omega arith; most = omega arith }

pub Within-high : (v : Values) (c : ℕ) → In v.registers.c c → Within (bytes.at_high v) (0xFF00 + c)
Within-high v c m =
    let low : v.registers.c.lo ≤ c = m.least in
    let high : c ≤ v.registers.c.hi = m.most in
    record { least = omega arith; most = omega arith }

-- ---- loads and stores of A

HoldOneByte-stored_a :
    (bits : Option LowBits) (stack : StackBytes) (addresses : Bounds) (a : ℕ) (b : OneByte) (p : Processor) (memory after : ℕ → ℕ)
    → HasIf bits a → Within addresses a → AreBytes p.registers → Writes stack (write.Byte a p.registers.a) memory after
    → HoldOneByte b p.registers memory p.flags → HoldOneByte (bytes.stored_a bits stack addresses b) p.registers after p.flags
HoldOneByte-stored_a bits stack addresses a b p memory after has in_it small w h =
    HoldOneByte-stored bits A stack addresses a (stored_at stack addresses) b p.registers memory after p.flags has (IsAt-stored_at stack addresses a in_it.least in_it.most) in_it (small.each A) w.0 w.1 h

HoldOneByte-loaded_a :
    (stack : StackBytes) (addresses : Bounds) (a l : ℕ) (b : OneByte) (p : Processor) (memory after : ℕ → ℕ)
    → Within addresses a → l < 256 → Reads (read.Byte a) memory l → Writes stack write.Nothing memory after
    → HoldOneByte b p.registers memory p.flags → HoldOneByte (bytes.loaded_a stack addresses b) (set A l p.registers) after p.flags
HoldOneByte-loaded_a stack addresses a l b p memory after in_it small reads w h =
    HoldOneByte-elsewhere _ _ memory after p.flags (λ c e. w c)
    (HoldOneByte-loaded A stack (behind_echo a) l (loaded_at stack addresses) b p.registers memory p.flags (IsAt-loaded_at stack addresses a in_it.least in_it.most) small reads h)

-- HL counts
HoldOneByte-counted :
    (which : Indirect) (b : OneByte) (p : Processor) (memory : ℕ → ℕ)
    → HoldOneByte b p.registers memory p.flags
    → HoldOneByte (bytes.without_registers (counted which) b) (with_indirect p which).registers memory (with_indirect p which).flags
HoldOneByte-counted which b p memory h =
    subst (λ f. HoldOneByte (bytes.without_registers (counted which) b) (with_indirect p which).registers memory f) (sym (with_indirect-flags which p))
    (HoldOneByte-registers (counted which) b p.registers (with_indirect p which).registers memory p.flags (Overwrites-indirect which p) h)

pub Overwrites-beside_a : (which : Indirect) (p : Processor) (l : ℕ) → Overwrites (counted which) (set A l p.registers) (record (with_indirect p which).registers { a = l })
unfolding with_indirect with_pair
Overwrites-beside_a indirect.Bc p l = refl
Overwrites-beside_a indirect.De p l = refl
Overwrites-beside_a indirect.HlIncrement p l = refl
Overwrites-beside_a indirect.HlDecrement p l = refl

HoldOneByte-counted_beside_a :
    (which : Indirect) (l : ℕ) (b : OneByte) (p : Processor) (memory : ℕ → ℕ)
    → HoldOneByte b (set A l p.registers) memory p.flags
    → HoldOneByte (bytes.without_registers (counted which) b) (record (with_indirect p which).registers { a = l }) memory (with_indirect p which).flags
HoldOneByte-counted_beside_a which l b p memory h =
    subst (λ f. HoldOneByte (bytes.without_registers (counted which) b) (record (with_indirect p which).registers { a = l }) memory f) (sym (with_indirect-flags which p))
    (HoldOneByte-registers (counted which) b (set A l p.registers) (record (with_indirect p which).registers { a = l }) memory p.flags (Overwrites-beside_a which p l) h)

-- ---- two bytes

-- memory with the first byte of a word written
pub first_written : ℕ → (ℕ → ℕ) → (ℕ → ℕ) → ℕ → ℕ
first_written a memory after b = cond (b == a) (after b) (memory b)

pub first-kept : (a : ℕ) (memory after : ℕ → ℕ) → IsKeptBut a memory (first_written a memory after)
unfolding first_written
first-kept a memory after b other = choose (b == a) refl
  where
    choose : (is : Bool) → (b == a) ≡ is → cond is (after b) (memory b) ≡ memory b
    choose true e = absurd (other (eqb-true b a e))
    choose false e = refl

unlike : (b a : ℕ) → (b == a) ≡ false → b ≡ a → ⊥
unlike b a e same = grind (arith, nat_tests)

pub second-kept :
    (a c : ℕ) (memory after : ℕ → ℕ)
    → ((b : ℕ) → (b ≡ a → ⊥) → (b ≡ c → ⊥) → after b ≡ memory b) → IsKeptBut c (first_written a memory after) after
unfolding first_written
second-kept a c memory after kept b other = choose (b == a) refl
  where
    choose : (is : Bool) → (b == a) ≡ is → after b ≡ cond is (after b) (memory b)
    choose true e = refl
    choose false e = kept b (unlike b a e) other

HoldOneByte-word :
    (w : ℕ) (b : OneByte) (x : Registers ℕ) (memory after : ℕ → ℕ) (f : Flags)
    → ((c : ℕ) → (c ≡ w → ⊥) → (c ≡ (w + 1) % 65536 → ⊥) → after c ≡ memory c)
    → HoldOneByte b x memory f
    → HoldOneByte (bytes.without_all None (bytes.one ((w + 1) % 65536)) (bytes.without_all None (bytes.one w) b)) x after f
HoldOneByte-word w b x memory after f kept h =
    HoldOneByte-without_all None (bytes.one ((w + 1) % 65536)) ((w + 1) % 65536) _ x (first_written w memory after) after f tt (Within-one ((w + 1) % 65536)) (second-kept w ((w + 1) % 65536) memory after kept)
    (HoldOneByte-without_all None (bytes.one w) w b x memory (first_written w memory after) f tt (Within-one w) (first-kept w memory after) h)

-- ---- instructions

incremented-zero : (v : ℕ) (f : Flags) → (incremented v f).flags.zero ≡ ((incremented v f).value == 0)
unfolding incremented
incremented-zero v f = refl

decremented-zero : (v : ℕ) (f : Flags) → (decremented v f).flags.zero ≡ ((decremented v f).value == 0)
unfolding decremented
decremented-zero v f = refl

shifted-zero : (how : Shift) (v : ℕ) (c : Bool) → (shifted how v c).flags.zero ≡ ((shifted how v c).value == 0)
unfolding shifted
shifted-zero how v c = refl

-- instructions that store nowhere but on the stack
HoldOneByte-forgotten :
    (stack : StackBytes) (o : Op) (b : OneByte) (p : Processor) (memory after : ℕ → ℕ) (l h : ℕ)
    → ((a : ℕ) → b.address ≡ Some a → after a ≡ memory a) → HoldOneByte b p.registers memory p.flags
    → HoldOneByte (bytes.without_test_if (writes_flags o) (bytes.without_registers (written o) b)) (effect_of o p l h).processor.registers after (effect_of o p l h).processor.flags
HoldOneByte-forgotten stack o b p memory after l h same m =
    HoldOneByte-left (writes_flags o) (written o) b p.registers (effect_of o p l h).processor.registers after p.flags (effect_of o p l h).processor.flags (effect_of-registers o p l h) (effect_of-flags o p l h)
    (HoldOneByte-elsewhere b p.registers memory after p.flags same m)

pub HoldOneByte-byte_after :
    (bits : Option LowBits) (stack : StackBytes) (o : Op) (sp : Bounds) (vals : Registers Val) (low : Val) (r : Relations) (was : Registers ℕ) (p : Processor) (memory after : ℕ → ℕ) (l h : ℕ)
    → WritesHas bits (effect_of o p l h).write → HasBytes o → Begins stack o sp vals low r was p memory l h → Writes stack (effect_of o p l h).write memory after
    → HoldOneByte (bytes.byte_after bits stack o (values_of vals r.pairs) low r.byte) (effect_of o p l h).processor.registers after (effect_of o p l h).processor.flags
unfolding bytes.byte_after effect_of read_of store_operand update_a
HoldOneByte-byte_after bits stack (op.StoreA to) sp vals low r was p memory after l h at has b w =
    HoldOneByte-counted to _ p after
    (HoldOneByte-stored_a bits stack (bytes.at_indirect to (values_of vals r.pairs)) (indirect_address p to) r.byte p memory after at (Within-indirect to _ _ p (Holds-begun b)) b.bytes w b.relations.byte)
HoldOneByte-byte_after bits stack (op.LoadA from) sp vals low r was p memory after l h at has b w =
    HoldOneByte-counted_beside_a from l _ p after
    (HoldOneByte-loaded_a stack (bytes.at_indirect from (values_of vals r.pairs)) (indirect_address p from) l r.byte p memory after (Within-indirect from _ _ p (Holds-begun b)) b.low_small b.reads w b.relations.byte)
HoldOneByte-byte_after bits stack (op.Increment which) sp vals low r was p memory after l h at has b w =
    HoldOneByte-computed bits stack which (values_of vals r.pairs) r.byte p (incremented (operand_value p which l) p.flags) memory after at (Within-hl _ _ p (Holds-begun b)) (incremented-byte _ _) (incremented-zero _ _) w b.relations.byte
HoldOneByte-byte_after bits stack (op.Decrement which) sp vals low r was p memory after l h at has b w =
    HoldOneByte-computed bits stack which (values_of vals r.pairs) r.byte p (decremented (operand_value p which l) p.flags) memory after at (Within-hl _ _ p (Holds-begun b)) (decremented-byte _ _) (decremented-zero _ _) w b.relations.byte
HoldOneByte-byte_after bits stack (op.LoadImmediate operand.AtHl n) sp vals low r was p memory after l h at has b w =
    HoldOneByte-without_all bits (bytes.at_hl (values_of vals r.pairs)) (hl p) r.byte p.registers memory after p.flags at (Within-hl _ _ p (Holds-begun b)) w.1 b.relations.byte
HoldOneByte-byte_after bits stack (op.StoreSp n) sp vals low r was p memory after l h at has b w =
    HoldOneByte-word n r.byte p.registers memory after p.flags w b.relations.byte
HoldOneByte-byte_after bits stack (op.Load to from) sp vals low r was p memory after l h at has b w =
    HoldOneByte-moved bits stack to from (values_of vals r.pairs) r.byte p memory after l at (Within-hl _ _ p (Holds-begun b)) b.bytes b.low_small b.reads w b.relations.byte
HoldOneByte-byte_after bits stack (op.Alu how from) sp vals low r was p memory after l h at has b w =
    HoldOneByte-elsewhere _ _ memory after _ (λ a e. w a)
    (HoldOneByte-of_a_with how from (values_of vals r.pairs) low l r.byte p memory b.registers b.low_read b.low_small b.bytes b.relations.byte)
HoldOneByte-byte_after bits stack (op.AluImmediate how n) sp vals low r was p memory after l h at has b w =
    HoldOneByte-elsewhere _ _ memory after _ (λ a e. w a)
    (HoldOneByte-of_a how (Some n) n r.byte p.registers memory p.flags refl has b.bytes b.relations.byte)
HoldOneByte-byte_after bits stack (op.StoreHigh n) sp vals low r was p memory after l h at has b w =
    HoldOneByte-stored_a None stack (bytes.one (0xFF00 + n)) (0xFF00 + n) r.byte p memory after tt (Within-one _) b.bytes w b.relations.byte
HoldOneByte-byte_after bits stack (op.LoadHigh n) sp vals low r was p memory after l h at has b w =
    HoldOneByte-loaded_a stack (bytes.one (0xFF00 + n)) (0xFF00 + n) l r.byte p memory after (Within-one _) b.low_small b.reads w b.relations.byte
HoldOneByte-byte_after bits stack op.StoreHighC sp vals low r was p memory after l h at has b w =
    HoldOneByte-stored_a bits stack (bytes.at_high (values_of vals r.pairs)) (0xFF00 + p.registers.c) r.byte p memory after at (Within-high (values_of vals r.pairs) p.registers.c (b.registers C)) b.bytes w b.relations.byte
HoldOneByte-byte_after bits stack op.LoadHighC sp vals low r was p memory after l h at has b w =
    HoldOneByte-loaded_a stack (bytes.at_high (values_of vals r.pairs)) (0xFF00 + p.registers.c) l r.byte p memory after (Within-high (values_of vals r.pairs) p.registers.c (b.registers C)) b.low_small b.reads w b.relations.byte
HoldOneByte-byte_after bits stack (op.StoreAbsolute n) sp vals low r was p memory after l h at has b w =
    HoldOneByte-stored_a None stack (bytes.one n) n r.byte p memory after tt (Within-one n) b.bytes w b.relations.byte
HoldOneByte-byte_after bits stack (op.LoadAbsolute n) sp vals low r was p memory after l h at has b w =
    HoldOneByte-loaded_a stack (bytes.one n) n l r.byte p memory after (Within-one n) b.low_small b.reads w b.relations.byte
HoldOneByte-byte_after bits stack (op.Shift how which) sp vals low r was p memory after l h at has b w =
    HoldOneByte-computed bits stack which (values_of vals r.pairs) r.byte p (shifted how (operand_value p which l) p.flags.carry) memory after at (Within-hl _ _ p (Holds-begun b)) (shift-byte how _ _ (operand-byte which p l b.low_small b.bytes)) (shifted-zero how _ _) w b.relations.byte
HoldOneByte-byte_after bits stack (op.Bit n which) sp vals low r was p memory after l h at has b w =
    HoldOneByte-elsewhere _ _ memory after _ (λ a e. w a)
    (HoldOneByte-bit stack n which (values_of vals r.pairs) r.byte p memory l (Within-hl _ _ p (Holds-begun b)) b.bytes b.low_small b.reads b.relations.byte)
HoldOneByte-byte_after bits stack (op.Reset n operand.AtHl) sp vals low r was p memory after l h at has b w =
    HoldOneByte-without_all bits (bytes.at_hl (values_of vals r.pairs)) (hl p) r.byte p.registers memory after p.flags at (Within-hl _ _ p (Holds-begun b)) w.1 b.relations.byte
HoldOneByte-byte_after bits stack (op.Set n operand.AtHl) sp vals low r was p memory after l h at has b w =
    HoldOneByte-without_all bits (bytes.at_hl (values_of vals r.pairs)) (hl p) r.byte p.registers memory after p.flags at (Within-hl _ _ p (Holds-begun b)) w.1 b.relations.byte
HoldOneByte-byte_after bits stack o sp vals low r was p memory after l h at has b w =
    HoldOneByte-forgotten stack o r.byte p memory after l h
    (places-stay stack (effect_of o p l h).write r.byte.address memory after (effect_of-outside o p l h refl) w b.placed) b.relations.byte
