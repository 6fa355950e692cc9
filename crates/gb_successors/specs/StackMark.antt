-- The mark at which a procedure puts its stack aside, as instructions take SP's address (own: version 4).
use Rattle.std.specs.Prelude.{ℕ, ◌+◌, ◌-◌, ◌==◌, Bool, true, false, ◌&&◌, if◌then◌else◌, nat_lt, length}
use Rattle.gb_ops.specs.declared.op.Pair.TheVariants as pair
use Rattle.gb_ops.specs.declared.op.Op.{Op}
use Rattle.gb_ops.specs.declared.op.Op.TheVariants as op
use Rattle.gb_ops.specs.declared.registers.Registers.{Registers}
use Rattle.gb_domain.specs.declared.rules.Rules.{Rules}
use Rattle.gb_domain.specs.declared.rules.Rules.TheVariants.{Simple, Extended}
use Rattle.gb_domain.specs.declared.types.Core.{Core}
use Rattle.gb_domain.specs.declared.types.Origin.TheVariants.{MarkHigh, MarkLow}
use Rattle.gb_domain.specs.declared.types.Val.{Val}
use Rattle.gb_domain.specs.Types.{AbsState}
use Rattle.gb_product.specs.Below.gb_abs.Meaning.{is_located}
use Rattle.gb_product.specs.Below.gb_abs.Origins.{own}
use Rattle.gb_product.specs.Below.gb_abs_effects.declared.writes.AbsEffect.{AbsEffect}
use Rattle.gb_product.specs.Below.gb_abs_effects.declared.writes.AbsWrite.{AbsWrite}
use Rattle.gb_product.specs.Below.gb_abs_effects.declared.writes.AbsWrite.TheVariants as write
use Rattle.gb_successors.specs.declared.stacks.Stack.{Stack}

-- with so many bytes held, a signed number from SP is the address so many bytes below the base
abbrev pub is_moved_to : ℕ → ℕ → ℕ → Bool
is_moved_to e8 held mark = if nat_lt e8 128 then held == mark + e8 else held + (256 - e8) == mark

-- with so many bytes held, an instruction takes that address
abbrev pub takes_mark : Op → Registers Val → ℕ → ℕ → Bool
takes_mark (op.LoadHlSp e8) vals held mark = is_moved_to e8 held mark
takes_mark (op.AddHl pair.Sp) vals held mark = held == mark && (vals.h.hi == 0 && vals.l.hi == 0)
takes_mark (op.StoreSp w) vals held mark = held == mark
takes_mark _ vals held mark = false

-- version 4
abbrev pub is_whole_by : Rules → Bool → Bool
is_whole_by Simple whole = false
is_whole_by Extended whole = whole

-- SP stands where the items end, by the rules of version 4
abbrev pub is_known : Stack → AbsState → Bool
is_known k s = is_whole_by k.setting.rules k.setting.is_whole && is_located s

-- an instruction takes the address of the procedure's mark
unfoldable pub marks : Stack → Op → AbsState → Core → Bool
marks k o s core = takes_mark o core.registers (length s.items) k.mark && is_known k s

-- a word that is stored is that address
abbrev pub marked_write : AbsWrite → Bool → AbsWrite
marked_write (write.Word a low high) true = write.Word a (own MarkLow low) (own MarkHigh high)
marked_write w b = w

-- HL is, where nothing is stored
abbrev pub marked_core : Op → Bool → Core → Core
marked_core (op.StoreSp w) b core = core
marked_core o true core = record core { registers = record core.registers { h = own MarkHigh core.registers.h; l = own MarkLow core.registers.l } }
marked_core o false core = core

-- what an instruction does, where it takes that address or doesn't
unfoldable pub marked : Bool → Op → AbsEffect → AbsEffect
marked b o e = record { core = marked_core o b e.core; write = marked_write e.write b }
