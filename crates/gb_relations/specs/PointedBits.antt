-- The low bits of the address that an instruction stores at by a pointer (abstract interpretation: congruences; own rules: low bits,
-- version 4).
use Rattle.std.specs.Prelude.{ℕ, Bool, true, Option, Some, None, if◌then◌else◌}
use Rattle.gb_ops.specs.declared.machine.Write.{Write}
use Rattle.gb_ops.specs.declared.machine.Write.TheVariants as write
use Rattle.gb_ops.specs.declared.op.Op.{Op}
use Rattle.gb_ops.specs.declared.op.Pointer.{Pointer}
use Rattle.gb_ops.specs.declared.op.Register.{Register}
use Rattle.gb_ops.specs.declared.registers.Processor.{Processor}
use Rattle.gb_ops.specs.declared.registers.Registers.{Registers}
use Rattle.gb_ops.specs.Effects as Effects
use Rattle.gb_ops.specs.Pointers.{pointer_of, low_register}
use Rattle.gb_ops.specs.Registers.{get}
use Rattle.gb_domain.specs.declared.low_bits.LowBits.{LowBits}
use Rattle.gb_domain.specs.declared.rules.Rules.{Rules}
use Rattle.gb_domain.specs.declared.rules.Rules.TheVariants.{Simple, Extended}
use Rattle.gb_domain.specs.declared.types.Val.{Val}
use Rattle.gb_domain.specs.Interval.{low_bits_of}
use Rattle.gb_domain.specs.LowBits.{no_low_bits, are_congruent}
use Rattle.gb_domain.specs.Meaning.{Has}
use Rattle.gb_domain.specs.Values.{interval_of}
use Rattle.gb_pairs.specs.Meaning.{AreBytes}
use Rattle.gb_pairs.specs.Below.gb_vals.Meaning.{In}

-- what is known of the low bits of an address that goes by a pointer: those of its low byte
abbrev pub pointed_bits : Option Pointer → Registers Val → LowBits
pointed_bits None registers = no_low_bits
pointed_bits (Some pointer) registers = low_bits_of (interval_of (get (low_register pointer) registers))

-- what is known of those of the address of an instruction's byte; the rules of versions 1 to 3 don't ask
unfoldable pub known_bits : Rules → Bool → Op → Registers Val → Option LowBits
known_bits Simple whole o registers = None
known_bits Extended whole o registers = if whole then Some (pointed_bits (pointer_of o) registers) else None

-- an address may be the one, as far as its low bits say
abbrev pub may_be_at : Option LowBits → ℕ → Bool
may_be_at None a = true
may_be_at (Some k) a = are_congruent k.count a k.bits

-- ---- what that promises

abbrev pub HasIf : Option LowBits → ℕ → Type 0
HasIf None a = Unit {0}
HasIf (Some k) a = Has k a

-- a byte that is written stands at an address with these low bits
abbrev pub WritesHas : Option LowBits → Write → Type 0
WritesHas k (write.Byte a n) = HasIf k a
WritesHas k _ = Unit {0}

-- where registers hold, the instruction writes its byte at an address with these low bits
pub record AreSoundBits (o : Op) (registers : Registers Val) (k : Option LowBits) : Type 0 where
  pub writes :
      (p : Processor) (l h : ℕ)
      → AreBytes p.registers → ((q : Register) → In (get q registers) (get q p.registers)) → WritesHas k (Effects.effect_of o p l h).write
