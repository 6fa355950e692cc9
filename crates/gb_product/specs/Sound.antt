-- What operations on whole states promise of the machine (abstract interpretation: soundness; own).
use Rattle.std.specs.Prelude.{◌≡◌, ℕ, ◌≤◌, ◌<◌, Bool, true, false, List, Option, Some, None, IfSome}
use Rattle.gb_ops.specs.declared.op.Op.{Op}
use Rattle.gb_ops.specs.declared.op.Register.{Register}
use Rattle.gb_ops.specs.declared.machine.Banks.{Banks}
use Rattle.gb_ops.specs.declared.registers.Processor.{Processor}
use Rattle.gb_ops.specs.Effects as Effects
use Rattle.gb_ops.specs.Play.{MState}
use Rattle.gb_ops.specs.Registers.{get}
use Rattle.gb_domain.specs.declared.relations.Relations.{Relations}
use Rattle.gb_domain.specs.declared.types.Cell.{Cell}
use Rattle.gb_domain.specs.declared.types.Core.{Core}
use Rattle.gb_domain.specs.declared.types.Ctl.{Ctl}
use Rattle.gb_domain.specs.declared.types.Val.{Val}
use Rattle.gb_domain.specs.Pairs.{ArePairs}
use Rattle.gb_domain.specs.Rules.{IsVal, IsCore}
use Rattle.gb_domain.specs.Summaries.{Program, SummaryParts}
use Rattle.gb_domain.specs.Types.{AbsState}
use Rattle.gb_domain.specs.Values.{is_strided}
use Rattle.gb_abs_effects.specs.Below.gb_abs.Meaning.{Activation, Holds, HoldsController, MeansCore}
use Rattle.gb_abs_effects.specs.Below.gb_abs.Storage.{peek}
use Rattle.gb_summaries.specs.Below.gb_pairs.declared.values.Values.{Values}
use Rattle.gb_summaries.specs.Below.gb_pairs.Meaning.{Beside, AreBytes, AreReadIn, Holds as HoldValues}
use Rattle.gb_summaries.specs.Below.gb_pairs.Sound.{AreWithin}
use Rattle.gb_summaries.specs.Below.gb_ram_bounds.Meaning.{HoldCells}
use Rattle.gb_summaries.specs.Meaning.{HoldSummary}
use Rattle.gb_product.specs.declared.parts.Branch.{Branch}
use Rattle.gb_product.specs.declared.parts.Branches.{Branches}
use Rattle.gb_product.specs.declared.parts.Product.{Product}
use Rattle.gb_domain.specs.declared.pairs.PairBounds.{PairBounds}
use Rattle.gb_product.specs.Meaning.{entered_with, Means, AreRelated}

-- in procedures of this program t means each machine state that s means
pub record IsPartOf (program : Program) (s t : AbsState) : Type 0 where
  pub gives :
      (entry : Activation) (base : ℕ) (x : MState)
      → entry.program ≡ program → Means s entry base x → Means t entry base x

-- ---- what is cut

-- registers are cut or stay, in order; what each and the flags are copies of stays, and all else but the flags
pub record IsCutCore (s t : Core) : Type 0 where
  pub least : (r : Register) → (get r s.registers).lo ≤ (get r t.registers).lo
  pub most : (r : Register) → (get r t.registers).hi ≤ (get r s.registers).hi
  pub order : (r : Register) → (get r s.registers).lo ≤ (get r s.registers).hi → (get r t.registers).lo ≤ (get r t.registers).hi
  pub strided : (r : Register) → is_strided (get r s.registers) ≡ true → is_strided (get r t.registers) ≡ true
  pub origin : (r : Register) → (get r t.registers).origin ≡ (get r s.registers).origin
  pub own : t.flags.is_own ≡ s.flags.is_own
  pub ime : t.ime ≡ s.ime
  pub bound : t.bound ≡ s.bound
  pub stack_set : t.stack_set ≡ s.stack_set
  pub ctl : t.ctl ≡ s.ctl
  pub ie : t.ie ≡ s.ie

-- of what is known together pairs alone change
pub record IsCutTogether (s t : Relations) : Type 0 where
  pub byte : t.byte ≡ s.byte
  pub zero : t.zero ≡ s.zero
  pub pairs : (may_be : ℕ → Bool) → ArePairs may_be s.pairs → ArePairs may_be t.pairs

-- ---- reducing

-- x is one of the states that both parts mean
pub record MeansProduct (p : Product) (entry : Activation) (x : MState) : Type 0 where
  pub core : MeansCore p.core entry x
  pub related : AreRelated p.relations entry x

abbrev pub IsMeantProduct : Option Product → Activation → MState → Type 0
IsMeantProduct None entry x = ⊥
IsMeantProduct (Some p) entry x = MeansProduct p entry x

-- no machine state is lost, where the pairs lay in these bounds as the procedure was entered, and links read memory within others
pub record IsSoundReducing (entered read : PairBounds) (core : Core) (r : Relations) (o : Option Product) : Type 0 where
  pub gives :
      (entry : Activation) (x : MState)
      → AreWithin entered (entered_with entry) → AreReadIn r.pairs read (peek x.storage) → AreBytes x.processor.registers → MeansCore core entry x
      → AreRelated r entry x → IsMeantProduct o entry x

-- nothing but bounds changes
pub record IsReduced (s : Core) (r : Relations) (p : Product) : Type 0 where
  pub core : IsCutCore s p.core
  pub flags : p.core.flags ≡ s.flags
  pub relations : IsCutTogether r p.relations
  pub inhabited : IsCore s → IsCore p.core

-- ---- the controller

abbrev pub HoldsControllerIf : Option Ctl → Activation → Banks → Type 0
HoldsControllerIf None entry r = ⊥
HoldsControllerIf (Some c) entry r = HoldsController c entry r

-- where what a state knows holds, its controller is cut to one that holds too
pub record IsSoundController (program : Program) (v : Values) (cells : List Cell) (s : SummaryParts) (c : Ctl) (o : Option Ctl) : Type 0 where
  pub gives :
      (entry : Activation) (was : Beside) (p : Processor) (memory : ℕ → ℕ) (r : Banks)
      → entry.program ≡ program → AreBytes p.registers → HoldValues v was p.registers → ((a : ℕ) → memory a < 256) → HoldCells cells memory
      → HoldSummary program cells s p memory r → HoldsController c entry r → HoldsControllerIf o entry r

-- where what is known of memory and of the whole program holds too, no machine state is lost
pub record IsSoundWhole (program : Program) (entered : PairBounds) (cells : List Cell) (s : SummaryParts) (core : Core) (r : Relations) (o : Option Product) : Type 0 where
  pub gives :
      (entry : Activation) (x : MState)
      → entry.program ≡ program → AreWithin entered (entered_with entry) → AreBytes x.processor.registers → ((a : ℕ) → peek x.storage a < 256) → HoldCells cells (peek x.storage)
      → HoldSummary program cells s x.processor (peek x.storage) x.storage.banks → MeansCore core entry x → AreRelated r entry x → IsMeantProduct o entry x

-- ---- sides

-- what is said of a cell's byte holds of x
abbrev pub HoldsCell : Activation → MState → Cell → Type 0
HoldsCell entry x c = Holds c.val entry (peek x.storage c.address)

-- what is known of the byte at the address among the places, and of several parts together, holds of x
pub record IsKnown (memory : Val) (r : Relations) (entry : Activation) (x : MState) : Type 0 where
  pub byte : (a : ℕ) → r.byte.address ≡ Some a → Holds memory entry (peek x.storage a)
  pub related : AreRelated r entry x

-- x is one of the states that a side means
pub record MeansBranch (b : Branch) (entry : Activation) (x : MState) : Type 0 where
  pub core : MeansCore b.core entry x
  pub related : AreRelated b.relations entry x
  pub cell : IfSome b.cell (λ c. HoldsCell entry x c)

-- the side is possible, and means x
abbrev pub IsMeantBranch : Option Branch → Activation → MState → Type 0
IsMeantBranch None entry x = ⊥
IsMeantBranch (Some b) entry x = MeansBranch b entry x

-- the side where an instruction is taken, or where it isn't, means each state of the core in which the machine goes there
pub record IsSoundSide (is_taken : Bool) (o : Op) (memory : Val) (core : Core) (r : Relations) (side : Option Branch) : Type 0 where
  pub gives :
      (entry : Activation) (x : MState) (l h : ℕ)
      → IsKnown memory r entry x → MeansCore core entry x → (Effects.effect_of o x.processor l h).is_taken ≡ is_taken
      → IsMeantBranch side entry x

pub record AreSoundSides (o : Op) (memory : Val) (core : Core) (r : Relations) (sides : Branches) : Type 0 where
  pub taken : IsSoundSide true o memory core r sides.taken
  pub not_taken : IsSoundSide false o memory core r sides.not_taken

-- registers and pairs are cut, and the cell, if there is one, is that of the address among the places
pub record IsSideOf (memory : Val) (s : Core) (r : Relations) (b : Branch) : Type 0 where
  pub core : IsCutCore s b.core
  pub relations : IsCutTogether r b.relations
  pub inhabited : IsCore s → IsCore b.core
  pub address : IfSome b.cell (λ c. r.byte.address ≡ Some c.address)
  pub val : IsVal memory → IfSome b.cell (λ c. IsVal c.val)

pub record AreSidesOf (memory : Val) (s : Core) (r : Relations) (sides : Branches) : Type 0 where
  pub taken : IfSome sides.taken (IsSideOf memory s r)
  pub not_taken : IfSome sides.not_taken (IsSideOf memory s r)
