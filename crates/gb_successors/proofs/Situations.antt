-- An instruction that is taken by the rules of version 3, and what is known as it begins its work.
use Rattle.std.proofs.Common.{◌≡◌, ℕ, ◌+◌, ◌%◌, ◌≤◌, ◌<◌, Bool, true, false, List, length, slice_index, Option, None, refl, sym, ◌∙◌, arith}
use Rattle.gb_ops.specs.declared.machine.Effect.{Effect}
use Rattle.gb_ops.specs.declared.machine.Loaded.{Loaded}
use Rattle.gb_ops.specs.declared.op.Op.TheVariants as op
use Rattle.gb_ops.specs.declared.op.Row.{Row}
use Rattle.gb_ops.specs.Effects as Effects
use Rattle.gb_ops.specs.Machine.{advanced}
use Rattle.gb_ops.specs.Play.{MState}
use Rattle.gb_domain.specs.declared.pairs.Bounds.{Bounds}
use Rattle.gb_domain.specs.declared.rules.Rules.TheVariants.{Extended}
use Rattle.gb_domain.specs.declared.types.Halves.{Halves}
use Rattle.gb_domain.specs.declared.types.Range.{Range}
use Rattle.gb_domain.specs.Types.{AbsState}
use Rattle.gb_domain.specs.Pairs.{any_pairs, ArePairs}
use Rattle.gb_domain.specs.Rules.{IsCore}
use Rattle.gb_product.specs.Below.gb_abs.Located.{sp_halves, sp_bounds}
use Rattle.gb_product.specs.Below.gb_abs.Meaning.{Activation, MeansCore, MeansParts}
use Rattle.gb_product.specs.Below.gb_abs.Operations.{with_core}
use Rattle.gb_product.proofs.Below.gb_abs_laws.StackLaws.{MeansParts-with_core}
use Rattle.gb_product.specs.Below.gb_abs_effects.declared.reads.AbsRead.{AbsRead}
use Rattle.gb_product.specs.Below.gb_abs_effects.declared.writes.AbsEffect.{AbsEffect}
use Rattle.gb_product.specs.Below.gb_abs_effects.Sound.{HasBytes}
use Rattle.gb_product.specs.Below.gb_abs_effects.Transfer.{transfer}
use Rattle.gb_product.specs.declared.parts.Product.{Product}
use Rattle.gb_product.specs.Meaning.{AreRelated}
use Rattle.gb_product.specs.Below.gb_relations.Pointers.{known_carry}
use Rattle.gb_product.specs.Below.gb_relations.Sound.{IsBytePlaced}
use Rattle.gb_product.specs.Held.{stack_held}
use Rattle.gb_domain.specs.declared.places.StackBytes.{StackBytes}
use Rattle.gb_successors.specs.declared.stacks.Stack.{Stack}
use Rattle.gb_successors.specs.declared.stacks.StackMove.{StackMove}
use Rattle.gb_product.specs.Reduced.{reduced}
use Rattle.gb_domain.specs.declared.relations.Relations.{Relations}
use Rattle.std.specs.Prelude.{is_some}
use Rattle.gb_successors.specs.Successors.{pointer_in, bits_in, read_in, word_in, effect_in, taken_move, taken_parts, relations_behind}
use Rattle.gb_domain.specs.declared.low_bits.LowBits.{LowBits}
use Rattle.gb_domain.specs.Areas.{is_free_byte}
use Rattle.gb_ops.specs.Pointers.{pointer_of}
use Rattle.gb_successors.specs.Summaries.{pointed_bits}
use Rattle.gb_successors.specs.Sound.{Stands, IsReady}
use Rattle.gb_successors.specs.StackMark.{marks}
use Rattle.gb_successors.specs.Stacks.{address_below}
use Rattle.gb_successors.specs.Way.{Successor}
use Rattle.gb_successors.proofs.PlainLaws.{Keeps}
use Rattle.gb_successors.proofs.SimpleLaws.{behind_row}
use Rattle.gb_successors.proofs.SuccessorLaws.{begun, begun_sp, given, effect, left_by}

-- a state before an instruction, what is known of the side where it is taken, and the machine there
pub record Situation : Type 0 where
  pub stack : Stack
  pub rom : List ℕ
  pub ranges : List Range
  pub row : Row
  pub address : ℕ
  pub state : AbsState
  pub product : Product
  pub entry : Activation
  pub base : ℕ
  pub machine : MState
  pub reads : List ℕ

-- ---- what is known

abbrev pub next_at : Situation → ℕ
next_at c = behind_row c.address c.row

abbrev pub pointer_at : Situation → Option Bounds
pointer_at c = pointer_in c.stack c.row.op c.product

abbrev pub read_at : Situation → AbsRead
read_at c = read_in c.stack c.row.op c.state c.product

-- what is known of the low bits of its pointer
abbrev pub bits_at : Situation → LowBits
bits_at c = pointed_bits (pointer_of c.row.op) c.product.core.registers

-- the same, where its store asks
abbrev pub known_at : Situation → Option LowBits
known_at c = bits_in c.stack c.row.op c.product

abbrev pub word_at : Situation → Halves
word_at c = word_in c.stack c.entry.program c.rom c.row.op c.state c.product

-- what its registers alone say of its effect, and what pairs say beside them
abbrev pub transferred : Situation → AbsEffect
transferred c = transfer c.stack.setting.is_whole c.row.op (next_at c) (sp_halves c.stack.setting c.state) c.product.core (word_at c).low (word_at c).high

abbrev pub effect_at : Situation → AbsEffect
effect_at c = effect_in c.stack c.entry.program c.rom c.row.op (next_at c) c.state c.product

abbrev pub carry_at : Situation → Option Bool
carry_at c = known_carry c.stack.setting.rules c.row.op (sp_bounds c.stack.setting c.state) c.product.core.registers c.product.relations.pairs

-- whether it takes the address of its procedure's mark
abbrev pub marks_at : Situation → Bool
marks_at c = marks c.stack c.row.op c.state c.product.core

abbrev pub move_at : Situation → StackMove
move_at c = taken_move c.stack c.entry.program c.rom c.row (next_at c) c.state c.product

abbrev pub parts_at : Situation → Successor
parts_at c = taken_parts c.stack c.entry.program c.rom c.row (next_at c) c.state c.product None

-- ---- the machine

abbrev pub begun_at : Situation → MState
begun_at c = begun c.row c.machine

-- what its reads give, its effect by that, and by other bytes
abbrev pub given_at : Situation → Loaded
given_at c = given c.rom c.row c.machine c.reads

abbrev pub effect_by : Situation → ℕ → ℕ → Effect
effect_by c l h = Effects.effect_of c.row.op (advanced c.machine.processor c.row) l h

abbrev pub acted_at : Situation → Effect
acted_at c = effect c.rom c.row c.machine c.reads

-- the machine behind it
abbrev pub left_at : Situation → MState
left_at c = left_by c.rom c.machine (acted_at c) c.row.cycles

-- ---- the instruction is taken

-- what is known together behind it
abbrev pub related_at : Situation → Relations
related_at c = relations_behind c.stack c.entry.program c.rom c.row.op c.state c.product

-- something is meant behind it
abbrev pub is_meant : Situation → Bool
is_meant c = is_some (reduced c.stack.setting.rules c.stack.setting.entered any_pairs (parts_at c).state.core (related_at c))

-- the stack with the items before it
abbrev pub held_at : Situation → StackBytes
held_at c = stack_held c.stack.setting c.stack.region (length c.state.items)

pub record IsTakenIn (c : Situation) : Type 0 where
  pub stands : Stands c.stack.setting c.rom c.stack.region c.row c.address c.state c.entry c.base c.machine
  pub extended : c.stack.setting.rules ≡ Extended
  pub operands : HasBytes c.row.op
  pub runs : c.row.op ≡ op.Stop → ⊥
  pub marked : c.entry.mark ≡ address_below c.base c.stack.mark
  pub ready : is_meant c ≡ true → IsReady c.stack c.row.op (move_at c) c.state c.base
  pub mark : c.machine.processor.halt_mark ≡ false
  pub byte : slice_index c.reads 0 ≤ 255
  pub second : slice_index c.reads 1 ≤ 255
  pub keeps : Keeps c.state.core c.product.core
  pub means : MeansCore c.product.core c.entry (begun_at c)
  pub related : AreRelated c.product.relations c.entry (begun_at c)
  pub core : IsCore c.product.core
  pub pairs : ArePairs (is_free_byte c.stack.region) c.product.relations.pairs
  pub place : IsBytePlaced (held_at c) c.product.relations.byte.address
  pub taken : (acted_at c).is_taken ≡ true

-- the state before its reads
pub means_begun : (c : Situation) → IsTakenIn c → MeansParts (with_core c.state c.product.core) c.entry c.base (begun_at c)
means_begun c k =
    MeansParts-with_core c.state c.product.core c.entry c.base c.machine (begun_at c) k.stands.means.parts k.means refl refl (begun_sp c.row c.machine) (λ set. sym k.keeps.stack ∙ set)

-- the next address is one
pub next_small : (c : Situation) → next_at c < 65536
next_small c = wrapped (c.address + c.row.length)
  where
    wrapped : (n : ℕ) → n % 65536 < 65536
    wrapped n = omega arith
