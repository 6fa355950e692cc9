-- What the states behind an instruction say of the whole program (abstract interpretation: transfer functions; own).
use Rattle.std.specs.Prelude.{Bool, true, false, not, ◌&&◌, List, Option, Some, None}
use Rattle.gb_ops.specs.declared.machine.Kind.{Kind}
use Rattle.gb_ops.specs.declared.machine.Kind.TheVariants as kind
use Rattle.gb_ops.specs.declared.op.Op.{Op}
use Rattle.gb_ops.specs.declared.op.Op.TheVariants as op
use Rattle.gb_ops.specs.declared.registers.Registers.{Registers}
use Rattle.gb_ops.specs.Pointers.{pointer_of}
use Rattle.gb_domain.specs.declared.rules.Rules.{Rules}
use Rattle.gb_domain.specs.declared.rules.Rules.TheVariants.{Simple, Extended}
use Rattle.gb_domain.specs.declared.types.Cell.{Cell}
use Rattle.gb_domain.specs.declared.types.Val.{Val}
use Rattle.gb_domain.specs.Silent.{is_silent, is_level_alone}
use Rattle.gb_domain.specs.Summaries.{SummaryParts, Program, no_summary}
use Rattle.gb_domain.specs.Types.{AbsState}
use Rattle.gb_domain.specs.Values.{interval_of}
use Rattle.gb_product.specs.Below.gb_summaries.declared.instruction.InstructionStore.{InstructionStore}
use Rattle.gb_product.specs.Below.gb_summaries.declared.instruction.InstructionStore.TheVariants as stored
use Rattle.gb_product.specs.Below.gb_summaries.Instruction.{summary_after}
use Rattle.gb_product.specs.Below.gb_abs.Located.{sp_bounds}
use Rattle.gb_product.specs.Below.gb_abs_effects.declared.writes.AbsWrite.{AbsWrite}
use Rattle.gb_product.specs.Below.gb_abs_effects.declared.writes.AbsWrite.TheVariants as write
use Rattle.gb_product.specs.Below.gb_relations.Items.{places_outside}
use Rattle.gb_product.specs.Below.gb_relations.Transfer.{values_of}
pub use Rattle.gb_product.specs.Below.gb_relations.PointedBits.{pointed_bits}
use Rattle.gb_product.specs.declared.parts.Product.{Product}
use Rattle.gb_successors.specs.declared.stacks.Stack.{Stack}
use Rattle.gb_successors.specs.declared.stacks.StackMove.{StackMove}
use Rattle.gb_successors.specs.declared.stacks.StackMove.TheVariants as move
use Rattle.gb_domain.specs.declared.pairs.Bounds.{Bounds}
use Rattle.gb_successors.specs.Loads.{addresses_of}

-- ---- what an instruction stores

-- what it stores, and where it may; the registers are those before it
unfoldable pub stored_by : Op → Registers Val → AbsWrite → InstructionStore
stored_by o registers (write.Byte span v) =
    stored.Byte (addresses_of span (pointed_bits (pointer_of o) registers)) (interval_of v)
stored_by o registers (write.Word a low high) = stored.Word a (interval_of low) (interval_of high)
stored_by o registers _ = stored.Nothing

-- ---- SP aside

-- EI
abbrev pub enables_interrupts : Op → Bool
enables_interrupts op.EnableInterrupts = true
enables_interrupts _ = false

-- where SP is put aside behind the stack's move
abbrev pub aside_behind : StackMove → Option Bounds → Option Bounds
aside_behind (move.Aside b) aside = Some b
aside_behind (move.Set n) aside = None
aside_behind (move.Restart n) aside = None
aside_behind m aside = aside

abbrev pub with_aside : Option Bounds → SummaryParts → SummaryParts
with_aside b s = record s { aside = b }

-- ---- behind it

-- what is said where it is taken, by what is known before it, the stack's move, what it writes, and the cells that are there then; an
-- item is no place of the controller; by the rules of versions 1 and 2 nothing is said
unfoldable pub summary_by : Rules → Stack → Program → Op → AbsState → Product → StackMove → AbsWrite → List Cell → SummaryParts
summary_by Simple k program o s p m what cells = no_summary
summary_by Extended k program o s p m what cells =
    with_aside (aside_behind m s.summary.aside)
    (summary_after program k.region cells o (sp_bounds k.setting s) (values_of p.core.registers p.relations.pairs) (places_outside k.region p.relations.byte)
    (stored_by o p.core.registers what) (with_aside None s.summary))

-- ---- silence

abbrev pub puts_aside : StackMove → Bool
puts_aside (move.Aside b) = true
puts_aside m = false

-- without a controller no store tells of its registers
abbrev pub tells_nothing : Rules → Kind → Bool
tells_nothing Simple k = true
tells_nothing Extended kind.Rom = true
tells_nothing Extended k = false

-- nothing was said, and nothing will be
unfoldable pub stays_silent : Rules → Program → StackMove → SummaryParts → Bool
stays_silent rules program m s = tells_nothing rules program.kind && (not (puts_aside m) && is_silent s)

-- nothing is stored but on the stack
abbrev pub stores_nothing : AbsWrite → Bool
stores_nothing (write.Byte span v) = false
stores_nothing (write.Word a low high) = false
stores_nothing what = true

-- By the rules of versions 3 and 4: nothing was said but how many facts hold, and as many do behind the instruction.
unfoldable pub keeps_level : Rules → StackMove → AbsWrite → SummaryParts → Bool
keeps_level Simple m what s = false
keeps_level Extended m what s = stores_nothing what && (not (puts_aside m) && is_level_alone s)
