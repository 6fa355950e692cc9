-- Which machine states a whole abstract state means (abstract interpretation: the concretization of a product).
use Rattle.std.specs.Prelude.{ℕ, length}
use Rattle.gb_ops.specs.declared.machine.Region.{Region}
use Rattle.gb_ops.specs.declared.registers.Registers.{Registers}
use Rattle.gb_ops.specs.Play.{MState}
use Rattle.gb_domain.specs.declared.relations.Relations.{Relations}
use Rattle.gb_domain.specs.declared.setting.Setting.{Setting}
use Rattle.gb_domain.specs.Areas.{is_free_byte}
use Rattle.gb_domain.specs.Pairs.{ArePairs}
use Rattle.gb_domain.specs.Types.{AbsState}
use Rattle.gb_abs_effects.specs.Below.gb_abs.Cells.{ArePlaced}
use Rattle.gb_abs_effects.specs.Below.gb_abs.Meaning.{Activation, MeansParts}
use Rattle.gb_abs_effects.specs.Below.gb_abs.Storage.{peek}
use Rattle.gb_summaries.specs.Elsewhere.{IsFree}
use Rattle.gb_summaries.specs.Meaning.{HoldSummary}
use Rattle.gb_summaries.specs.Below.gb_pairs.Meaning.{Beside}
use Rattle.gb_summaries.specs.Below.gb_relations.Meaning.{HoldRelations}
use Rattle.gb_summaries.specs.Below.gb_relations.Sound.{IsBytePlaced}
use Rattle.gb_product.specs.Held.{stack_held}

-- the registers as a procedure was entered
abbrev pub entered_with : Activation → Registers ℕ
entered_with entry = entry.entered.processor.registers

-- what links speak of besides the registers of a machine state
abbrev pub beside : Activation → MState → Beside
beside entry x = record { entered = entered_with entry; memory = peek x.storage }

-- what is known together holds of a machine state, in a procedure that was entered so
abbrev pub AreRelated : Relations → Activation → MState → Type 0
AreRelated r entry x = HoldRelations r (entered_with entry) x.processor.registers (peek x.storage) x.processor.flags

-- what is said of the whole program holds of a machine state, in a procedure that is part of it
abbrev pub IsSummarized : AbsState → Activation → MState → Type 0
IsSummarized abs entry x = HoldSummary entry.program abs.cells abs.summary x.processor (peek x.storage) x.storage.banks

-- x is one of the states that abs means, in a procedure that was entered in the state entry, with base the address above its items
pub record Means (abs : AbsState) (entry : Activation) (base : ℕ) (x : MState) : Type 0 where
  pub parts : MeansParts abs entry base x
  pub related : AreRelated abs.relations entry x
  pub summary : IsSummarized abs entry x

-- what a state of a procedure that a run reaches knows of memory lies in RAM outside the stack region, and what links read; a byte's
-- address may be an item's
pub record IsApart (z : Setting) (region : Region) (abs : AbsState) : Type 0 where
  pub cells : ArePlaced region abs.cells
  pub byte : IsBytePlaced (stack_held z region (length abs.items)) abs.relations.byte.address
  pub links : ArePairs (is_free_byte region) abs.relations.pairs
  pub summary : IsFree region abs.summary
