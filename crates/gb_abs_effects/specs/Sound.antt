-- What it means that abstract reads, sides and effects follow the machine's (abstract interpretation:
-- soundness; own).
use Rattle.std.specs.Prelude.{◌≡◌, ℕ, ◌/◌, ◌%◌, ◌≤◌, ◌<◌, Bool, true, false, Option, Some, None, IfSome}
use Rattle.gb_ops.specs.declared.op.Op.{Op}
use Rattle.gb_ops.specs.declared.op.Op.TheVariants as op
use Rattle.gb_ops.specs.declared.registers.Processor.{Processor}
use Rattle.gb_ops.specs.declared.machine.Read.{Read}
use Rattle.gb_ops.specs.declared.machine.Read.TheVariants as machine_read
use Rattle.gb_ops.specs.declared.machine.Write.{Write}
use Rattle.gb_ops.specs.declared.machine.Write.TheVariants as machine_write
use Rattle.gb_ops.specs.declared.machine.Effect.{Effect}
use Rattle.gb_ops.specs.Effects as Effects
use Rattle.gb_ops.specs.Play.{MState}
use Rattle.gb_domain.specs.declared.types.Val.{Val}
use Rattle.gb_domain.specs.declared.types.Core.{Core}
use Rattle.gb_domain.specs.declared.types.Halves.{Halves}
use Rattle.gb_domain.specs.Rules.{IsVal, IsCore}
use Rattle.gb_abs.specs.Span.{IsIn}
use Rattle.gb_abs.specs.Meaning.{Activation, Holds, MeansCore}
use Rattle.gb_abs_effects.specs.declared.reads.AbsRead.{AbsRead}
use Rattle.gb_abs_effects.specs.declared.reads.AbsRead.TheVariants as read
use Rattle.gb_abs_effects.specs.declared.sides.Sides.{Sides}
use Rattle.gb_abs_effects.specs.declared.targets.Target.{Target}
use Rattle.gb_abs_effects.specs.declared.targets.Target.TheVariants as target
use Rattle.gb_abs_effects.specs.declared.writes.AbsWrite.{AbsWrite}
use Rattle.gb_abs_effects.specs.declared.writes.AbsWrite.TheVariants as write
use Rattle.gb_abs_effects.specs.declared.writes.AbsEffect.{AbsEffect}

-- the numbers that an instruction puts into a core, computes with or takes for an address are bytes and words
abbrev pub HasBytes : Op → Type 0
HasBytes (op.LoadPair to w) = w < 65536
HasBytes (op.LoadImmediate to v) = v < 256
HasBytes (op.StoreSp w) = w < 65536
HasBytes (op.JumpRelative e8) = e8 < 256
HasBytes (op.JumpRelativeIf condition e8) = e8 < 256
HasBytes (op.AluImmediate how v) = v < 256
HasBytes (op.JumpIf condition w) = w < 65536
HasBytes (op.Jump w) = w < 65536
HasBytes (op.CallIf condition w) = w < 65536
HasBytes (op.Call w) = w < 65536
HasBytes (op.Restart w) = w < 256
HasBytes (op.StoreHigh b) = b < 256
HasBytes (op.LoadHigh b) = b < 256
HasBytes (op.StoreAbsolute w) = w < 65536
HasBytes (op.LoadAbsolute w) = w < 65536
HasBytes (op.AddSp e8) = e8 < 256
HasBytes (op.LoadHlSp e8) = e8 < 256
HasBytes _ = Unit {0}

-- ---- reads

-- the machine, with its stack pointer at sp, reads one of the addresses, the word on top of the stack, or a word at one of the addresses
abbrev pub HoldsRead : AbsRead → ℕ → Read → Type 0
HoldsRead read.Nothing sp machine_read.Nothing = Unit {0}
HoldsRead (read.Byte span) sp (machine_read.Byte a) = IsIn span a
HoldsRead read.Top sp (machine_read.Word a) = a ≡ sp
HoldsRead (read.Word span) sp (machine_read.Word a) = IsIn span a
HoldsRead _ sp _ = ⊥

-- where the instruction is taken, the machine reads what is said
pub record IsSoundRead (o : Op) (s : Core) (what : AbsRead) : Type 0 where
  pub gives :
      (entry : Activation) (x : MState) (l h : ℕ)
      → MeansCore s entry x → (Effects.effect_of o x.processor l h).is_taken ≡ true
      → HoldsRead what x.processor.sp (Effects.read_of o x.processor)

-- what is read lies at addresses
abbrev pub IsReadAt : AbsRead → Type 0
IsReadAt (read.Byte span) = span.last < 65536
IsReadAt (read.Word span) = span.last < 65536
IsReadAt _ = Unit {0}

-- ---- sides

abbrev pub side_by : Bool → Sides → Option Core
side_by true sides = sides.taken
side_by false sides = sides.not_taken

-- the side is possible, and means the state
abbrev pub IsMeant : Option Core → Activation → MState → Type 0
IsMeant None entry x = ⊥
IsMeant (Some s) entry x = MeansCore s entry x

-- the side by the machine's own condition means each state that the core means
pub record AreSoundSides (o : Op) (s : Core) (sides : Sides) : Type 0 where
  pub gives :
      (entry : Activation) (x : MState) (l h : ℕ)
      → MeansCore s entry x → IsMeant (side_by (Effects.effect_of o x.processor l h).is_taken sides) entry x

pub record AreSides (sides : Sides) : Type 0 where
  pub taken : IfSome sides.taken IsCore
  pub not_taken : IfSome sides.not_taken IsCore

-- ---- effects

-- the machine, with its stack pointer at sp, writes what is said, where it is said
abbrev pub HoldsWrite : AbsWrite → Activation → ℕ → Write → Type 0
HoldsWrite write.Nothing entry sp machine_write.Nothing = Unit {0}
HoldsWrite (write.Byte span v) entry sp (machine_write.Byte a n) = IsIn span a × Holds v entry n × (n ≤ 255)
HoldsWrite (write.Word a low high) entry sp (machine_write.Word b w) =
    (b ≡ a) × Holds low entry (w % 256) × Holds high entry (w / 256)
HoldsWrite (write.Push high low) entry sp (machine_write.Push a w) =
    (a ≡ sp) × Holds high entry (w / 256) × Holds low entry (w % 256)
HoldsWrite _ entry sp _ = ⊥

-- an effect on the machine state x is followed
pub record Follows (t : AbsEffect) (entry : Activation) (x : MState) (e : Effect) : Type 0 where
  pub core : MeansCore t.core entry (record x { processor = e.processor })
  pub write : HoldsWrite t.write entry x.processor.sp e.write

-- the machine as a taken instruction begins its work: its bytes are fetched, its reads gave l and h, and SP is known as a pair
pub record Begins (o : Op) (next : ℕ) (sp_halves : Halves) (s : Core) (low high : Val) (entry : Activation) (x : MState) (l h : ℕ) : Type 0 where
  pub core : MeansCore s entry x
  pub low_read : Holds low entry l
  pub high_read : Holds high entry h
  pub pc : x.processor.pc ≡ next
  pub sp : x.processor.sp < 65536
  pub sp_high : Holds sp_halves.high entry (x.processor.sp / 256)
  pub sp_low : Holds sp_halves.low entry (x.processor.sp % 256)
  pub taken : (Effects.effect_of o x.processor l h).is_taken ≡ true

-- each effect of the instruction but STOP is followed, and SP stays an address
pub record IsSoundTransfer (o : Op) (next : ℕ) (sp_halves : Halves) (s : Core) (low high : Val) (t : AbsEffect) : Type 0 where
  pub gives :
      (entry : Activation) (x : MState) (l h : ℕ)
      → (o ≡ op.Stop → ⊥) → Begins o next sp_halves s low high entry x l h → Follows t entry x (Effects.effect_of o x.processor l h)
  pub sp :
      (entry : Activation) (x : MState) (l h : ℕ)
      → Begins o next sp_halves s low high entry x l h → (Effects.effect_of o x.processor l h).processor.sp < 65536

-- each effect of an instruction that isn't taken is followed: it reads nothing but its own bytes, and leaves
-- the processor as it is, PC behind it
pub record IsSoundUntaken (s : Core) (t : AbsEffect) : Type 0 where
  pub gives :
      (o : Op) (entry : Activation) (x : MState) (l h : ℕ)
      → MeansCore s entry x → (Effects.effect_of o x.processor l h).is_taken ≡ false
      → Follows t entry x (Effects.effect_of o x.processor l h)
  pub reads :
      (o : Op) (p : Processor) (l h : ℕ)
      → (Effects.effect_of o p l h).is_taken ≡ false → Effects.read_of o p ≡ machine_read.Nothing
  pub stays :
      (o : Op) (p : Processor) (l h : ℕ)
      → (Effects.effect_of o p l h).is_taken ≡ false → (Effects.effect_of o p l h).processor ≡ p

-- ---- targets

-- the machine's PC is there; of a return, and of a jump to somewhere, nothing is said
abbrev pub HoldsTarget : Target → ℕ → Type 0
HoldsTarget (target.At a) pc = pc ≡ a
HoldsTarget (target.Call a) pc = pc ≡ a
HoldsTarget (target.Main a) pc = pc ≡ a
HoldsTarget _ pc = Unit {0}

-- where the instruction is taken, PC being behind it, the machine goes on there
pub record IsSoundTarget (o : Op) (next : ℕ) (s : Core) (t : Target) : Type 0 where
  pub gives :
      (entry : Activation) (x : MState) (l h : ℕ)
      → MeansCore s entry x → x.processor.pc ≡ next → (Effects.effect_of o x.processor l h).is_taken ≡ true
      → HoldsTarget t (Effects.effect_of o x.processor l h).processor.pc

-- a target that is known is an address
abbrev pub IsTargetAt : Target → Type 0
IsTargetAt (target.At a) = a < 65536
IsTargetAt (target.Call a) = a < 65536
IsTargetAt (target.Main a) = a < 65536
IsTargetAt _ = Unit {0}

-- ---- ranges

-- what is written are bytes
abbrev pub IsWrite : AbsWrite → Type 0
IsWrite write.Nothing = Unit {0}
IsWrite (write.Byte span v) = IsVal v
IsWrite (write.Word a low high) = IsVal low × IsVal high
IsWrite (write.Push high low) = IsVal high × IsVal low

-- what is written lies at addresses
abbrev pub IsWrittenAt : AbsWrite → Type 0
IsWrittenAt (write.Byte span v) = span.last < 65536
IsWrittenAt (write.Word a low high) = a < 65536
IsWrittenAt _ = Unit {0}

pub record IsAbsEffect (t : AbsEffect) : Type 0 where
  pub core : IsCore t.core
  pub write : IsWrite t.write
  pub at : IsWrittenAt t.write
