-- What instructions read and write, by where they touch memory.
use Rattle.std.proofs.Common.{◌≡◌, ℕ, ◌+◌, ◌%◌, Bool, true, false, refl}
use Rattle.gb_ops.specs.declared.machine.Read.TheVariants as read
use Rattle.gb_ops.specs.declared.machine.Effect.{Effect}
use Rattle.gb_ops.specs.declared.machine.Write.TheVariants as write
use Rattle.gb_ops.specs.declared.machine.Region.{Region}
use Rattle.gb_ops.specs.declared.op.Op.{Op}
use Rattle.gb_ops.specs.declared.op.Op.TheVariants as op
use Rattle.gb_ops.specs.declared.op.Operand.{Operand}
use Rattle.gb_ops.specs.declared.op.Operand.TheVariants as operand
use Rattle.gb_ops.specs.declared.op.Indirect.{Indirect}
use Rattle.gb_ops.specs.declared.op.Indirect.TheVariants as indirect
use Rattle.gb_ops.specs.declared.op.Pair.TheVariants as pair
use Rattle.gb_ops.specs.declared.registers.Processor.{Processor}
use Rattle.gb_ops.specs.Effects.{read_of, effect_of, operand_read, read_if, store_operand, update_operand, update_a, only_if, indirect_address, jump, push, call, return_to}
use Rattle.gb_ops.specs.Faults.{no_faults, either_faults, load_faults, store_faults, access_faults}
use Rattle.gb_ops.specs.Flags.{is_met}
use Rattle.gb_ops.specs.Memory.{View}
use Rattle.gb_ops.specs.Pairs.{pair_value}
use Rattle.gb_faults.specs.Quiet.{IsQuietTouch}
use Rattle.gb_faults.specs.Touch.{touch_of, touch_operand, touch_either, touch_indirect}
use Rattle.gb_faults.proofs.Quiet.{quiet_high_load, quiet_high_store}

-- an instruction whose reads and writes have no fault
pub record IsQuietOp (region : Region) (m : View) (p : Processor) (o : Op) : Type 0 where
  pub loads : load_faults m (read_of o p) ≡ no_faults
  pub stores : (low high : ℕ) → store_faults region m (effect_of o p low high).write ≡ no_faults

-- the address that an instruction has in its bytes; w stands for those without
abbrev pub word_of : Op → ℕ → ℕ
word_of (op.StoreAbsolute v) w = v
word_of (op.LoadAbsolute v) w = v
word_of _ w = w

-- ---- parts

operand_loads : (region : Region) (m : View) (p : Processor) (w : ℕ) (which : Operand) → IsQuietTouch region m p w (touch_operand which) → load_faults m (operand_read p which) ≡ no_faults
unfolding operand_read load_faults
operand_loads region m p w (operand.Register which) h = refl
operand_loads region m p w operand.AtHl h = h.reads

operand_stores : (region : Region) (m : View) (p q : Processor) (w v : ℕ) (which : Operand) → pair_value q pair.Hl ≡ pair_value p pair.Hl → IsQuietTouch region m p w (touch_operand which) → store_faults region m (store_operand q which v).write ≡ no_faults
unfolding store_operand store_faults
operand_stores region m p q w v (operand.Register which) same h = refl
operand_stores region m p q w v operand.AtHl same h = rw same (h.writes v)

either_loads : (region : Region) (m : View) (p : Processor) (w : ℕ) (to from : Operand) → IsQuietTouch region m p w (touch_either to from) → load_faults m (operand_read p from) ≡ no_faults
unfolding operand_read load_faults
either_loads region m p w (operand.Register which) from h = operand_loads region m p w from h
either_loads region m p w operand.AtHl (operand.Register which) h = refl
either_loads region m p w operand.AtHl operand.AtHl h = h.reads

either_stores : (region : Region) (m : View) (p : Processor) (w v : ℕ) (to from : Operand) → IsQuietTouch region m p w (touch_either to from) → store_faults region m (store_operand p to v).write ≡ no_faults
unfolding store_operand store_faults
either_stores region m p w v (operand.Register which) from h = refl
either_stores region m p w v operand.AtHl from h = h.writes v

indirect_loads : (region : Region) (m : View) (p : Processor) (w : ℕ) (from : Indirect) → IsQuietTouch region m p w (touch_indirect from) → access_faults m (indirect_address p from) ≡ no_faults
unfolding indirect_address
indirect_loads region m p w indirect.Bc h = h.reads
indirect_loads region m p w indirect.De h = h.reads
indirect_loads region m p w indirect.HlIncrement h = h.reads
indirect_loads region m p w indirect.HlDecrement h = h.reads

indirect_stores : (region : Region) (m : View) (p : Processor) (w v : ℕ) (to : Indirect) → IsQuietTouch region m p w (touch_indirect to) → store_faults region m (write.Byte (indirect_address p to) v) ≡ no_faults
unfolding indirect_address store_faults
indirect_stores region m p w v indirect.Bc h = h.writes v
indirect_stores region m p w v indirect.De h = h.writes v
indirect_stores region m p w v indirect.HlIncrement h = h.writes v
indirect_stores region m p w v indirect.HlDecrement h = h.writes v

pop_loads : (m : View) (sp : ℕ) → (access_faults m sp ≡ no_faults) × (access_faults m ((sp + 1) % 65536) ≡ no_faults) → load_faults m (read.Word sp) ≡ no_faults
unfolding load_faults either_faults
pop_loads m sp h = rw (h.0, h.1) refl

if_loads : (b : Bool) (m : View) (sp : ℕ) → (access_faults m sp ≡ no_faults) × (access_faults m ((sp + 1) % 65536) ≡ no_faults) → load_faults m (read_if b (read.Word sp)) ≡ no_faults
unfolding read_if load_faults
if_loads true m sp h = pop_loads m sp h
if_loads false m sp h = refl

only_stores : (b : Bool) (region : Region) (m : View) (e : Effect) (p : Processor) → store_faults region m e.write ≡ no_faults → store_faults region m (only_if b e p).write ≡ no_faults
unfolding only_if store_faults
only_stores true region m e p h = h
only_stores false region m e p h = refl

nothing_stored : (region : Region) (m : View) → store_faults region m write.Nothing ≡ no_faults
unfolding store_faults
nothing_stored region m = refl

-- ---- any instruction

pub quiet_op : (region : Region) (m : View) (p : Processor) (w : ℕ) (o : Op) → m.storage.count ≡ 0 → IsQuietTouch region m p (word_of o w) (touch_of o) → IsQuietOp region m p o
unfolding read_of effect_of load_faults store_faults update_operand update_a jump return_to push call pair_value
quiet_op region m p w (op.StoreA to) none h = record { loads = refl; stores = λ low high. indirect_stores region m p w p.registers.a to h }
quiet_op region m p w (op.LoadA from) none h = record { loads = indirect_loads region m p w from h; stores = λ low high. refl }
quiet_op region m p w (op.Increment which) none h = record { loads = operand_loads region m p w which h; stores = λ low high. operand_stores region m p _ w _ which refl h }
quiet_op region m p w (op.Decrement which) none h = record { loads = operand_loads region m p w which h; stores = λ low high. operand_stores region m p _ w _ which refl h }
quiet_op region m p w (op.LoadImmediate to v) none h = record { loads = refl; stores = λ low high. operand_stores region m p p w v to refl h }
quiet_op region m p w (op.StoreSp v) none h = absurd h
quiet_op region m p w (op.Load to from) none h = record { loads = either_loads region m p w to from h; stores = λ low high. either_stores region m p w _ to from h }
quiet_op region m p w (op.Alu how from) none h = record { loads = operand_loads region m p w from h; stores = λ low high. refl }
quiet_op region m p w (op.ReturnIf condition) none h = record { loads = if_loads (is_met condition p.flags) m p.sp h; stores = λ low high. only_stores (is_met condition p.flags) region m _ p refl }
quiet_op region m p w op.Return none h = record { loads = pop_loads m p.sp h; stores = λ low high. refl }
quiet_op region m p w op.ReturnFromInterrupt none h = record { loads = pop_loads m p.sp h; stores = λ low high. refl }
quiet_op region m p w (op.Pop to) none h = record { loads = pop_loads m p.sp h; stores = λ low high. refl }
quiet_op region m p w (op.Push from) none h = record { loads = refl; stores = λ low high. h _ }
quiet_op region m p w (op.JumpIf condition v) none h = record { loads = refl; stores = λ low high. only_stores (is_met condition p.flags) region m _ p refl }
quiet_op region m p w (op.JumpRelativeIf condition v) none h = record { loads = refl; stores = λ low high. only_stores (is_met condition p.flags) region m _ p refl }
quiet_op region m p w (op.CallIf condition v) none h = record { loads = refl; stores = λ low high. only_stores (is_met condition p.flags) region m _ p (h _) }
quiet_op region m p w (op.Call v) none h = record { loads = refl; stores = λ low high. h _ }
quiet_op region m p w (op.Restart v) none h = record { loads = refl; stores = λ low high. h _ }
quiet_op region m p w (op.StoreHigh b) none h = record { loads = refl; stores = λ low high. quiet_high_store m b p.registers.a none h }
quiet_op region m p w (op.LoadHigh b) none h = record { loads = quiet_high_load m b none; stores = λ low high. refl }
quiet_op region m p w op.StoreHighC none h = record { loads = refl; stores = λ low high. quiet_high_store m p.registers.c p.registers.a none h }
quiet_op region m p w op.LoadHighC none h = record { loads = quiet_high_load m p.registers.c none; stores = λ low high. refl }
quiet_op region m p w (op.StoreAbsolute v) none h = record { loads = refl; stores = λ low high. h.writes p.registers.a }
quiet_op region m p w (op.LoadAbsolute v) none h = record { loads = h.reads; stores = λ low high. refl }
quiet_op region m p w (op.Shift how which) none h = record { loads = operand_loads region m p w which h; stores = λ low high. operand_stores region m p _ w _ which refl h }
quiet_op region m p w (op.Bit n which) none h = record { loads = operand_loads region m p w which h; stores = λ low high. refl }
quiet_op region m p w (op.Reset n which) none h = record { loads = operand_loads region m p w which h; stores = λ low high. operand_stores region m p p w _ which refl h }
quiet_op region m p w (op.Set n which) none h = record { loads = operand_loads region m p w which h; stores = λ low high. operand_stores region m p p w _ which refl h }
quiet_op region m p w _ none h = record { loads = refl; stores = λ low high. refl }
