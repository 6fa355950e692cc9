-- What entering and resuming promise of the machine (abstract interpretation: soundness; own rules: calls).
use Rattle.std.specs.Prelude.{◌≡◌, ℕ, ◌+◌, ◌≤◌, ◌<◌, true, false, List, [], length, Option, Some, None}
use Rattle.std.specs.List.{AllByRecursion}
use Rattle.gb_ops.specs.declared.machine.Kind.TheVariants as kind
use Rattle.gb_ops.specs.declared.machine.Region.{Region}
use Rattle.gb_ops.specs.Effects.{with_sp}
use Rattle.gb_ops.specs.Play.{MState}
use Rattle.gb_domain.specs.declared.rules.Rules.{Rules}
use Rattle.gb_domain.specs.declared.rules.Rules.TheVariants.{Simple, Extended}
use Rattle.gb_domain.specs.declared.setting.Setting.{Setting}
use Rattle.gb_domain.specs.declared.types.Range.{Range}
use Rattle.gb_domain.specs.declared.types.Val.{Val}
use Rattle.gb_domain.specs.Settings.{IsBase}
use Rattle.gb_domain.specs.Summaries.{Program}
use Rattle.gb_domain.specs.Types.{AbsState}
use Rattle.gb_domain.specs.Areas.{IsRegion, meets}
use Rattle.gb_domain.specs.Rules.{IsCore}
use Rattle.gb_product.specs.Below.gb_pairs.Reduced.{reduced}
use Rattle.gb_product.specs.Below.gb_pairs.Sound.{AreWithin, IsSoundReducing}
use Rattle.gb_product.specs.Below.gb_relations.Transfer.{values_of}
use Rattle.gb_product.specs.Below.gb_abs.Cells.{ArePlaced}
use Rattle.gb_product.specs.Covering.{read_in}
use Rattle.gb_domain.specs.declared.pairs.PairBounds.{PairBounds}
use Rattle.gb_product.specs.Meaning.{entered_with, Means, IsApart}
use Rattle.gb_product.specs.Below.gb_summaries.Elsewhere.{AreFreeFacts, IsFree}
use Rattle.gb_product.specs.Below.gb_abs.Meaning.{Activation, is_located}
use Rattle.gb_product.specs.Below.gb_abs.Stack.{AreInRegion}
use Rattle.gb_product.specs.Below.gb_abs.Storage.{peek}
use Rattle.gb_abs_memory.specs.Kept.{keeps, IsKept}
use Rattle.gb_calls.specs.declared.resuming.Resumed.{Resumed}
use Rattle.gb_calls.specs.declared.resuming.Resumed.TheVariants.{Nothing, States, TooDeep}
use Rattle.gb_calls.specs.TakenOver.{base_below}

-- ---- entering

-- the machine with the return word taken off the stack again
abbrev pub without_word : MState → MState
without_word x = record x { processor = with_sp x.processor (x.processor.sp + 2) }

-- s was left by a call, the return word being two of its items, and the callee takes k of them over
pub record IsCalled (k : ℕ) (s : AbsState) (entry : Activation) (base : ℕ) (x : MState) : Type 0 where
  pub few : k ≤ length s.items
  pub located : is_located s ≡ true
  pub caller : Means s entry base x

-- x is the machine as a callee begins, whose caller is in s but for the return word at SP, or, by the rules of version 3, with it
abbrev pub Begins : Rules → ℕ → AbsState → Activation → ℕ → MState → Type 0
Begins Simple k s entry base x = Means s entry base (without_word x) × (x.processor.sp < 65536)
Begins Extended k s entry base x = IsCalled k s entry base x

-- the callee's base: SP, or the address above the items that it takes over
abbrev pub callee_base : Rules → ℕ → List Val → ℕ → MState → ℕ
callee_base Simple k items base x = x.processor.sp
callee_base Extended k items base x = base_below k items base

-- Of each state of the program in which s was left by a call: the callee that has these kept addresses, entered in just that state with
-- its return word at SP, begins with what is said, wherever its mark is.
pub record IsSoundEntering (program : Program) (region : Region) (rules : Rules) (k : ℕ) (kept : List ℕ) (s after : AbsState) : Type 0 where
  pub gives :
      (entry : Activation) (base : ℕ) (begun : Activation)
      → entry.program ≡ program → begun.program ≡ program → begun.kept ≡ kept → Begins rules k s entry base begun.entered
      → Means after begun (callee_base rules k s.items base begun.entered) begun.entered

-- ---- resuming

-- By the rules of versions 1 and 2, which know no controller: a procedure was left in s by a call, and the callee, which stands in a setting of its own and was
-- entered in the state called, has come back: x is what its exit means, and what it keeps is as it was.
pub record ComesBack (region : Region) (ranges : List Range) (s exit : AbsState) (entry : Activation) (base : ℕ) (called : Activation) (x : MState) : Type 0 where
  pub is_region : IsRegion region
  pub apart : AllByRecursion (λ r. meets region r.first r.last ≡ false) ranges
  pub placed : ArePlaced region s.cells
  pub room : AreInRegion region base (length s.items + 2)
  pub located : is_located s ≡ true
  pub caller : Means s entry base (without_word called.entered)
  pub exit_located : is_located exit ≡ true
  pub exit_items : exit.items ≡ []
  pub exit_core : IsCore exit.core
  pub exits : Means exit called (called.entered.processor.sp + 2) x
  pub caller_unknown : entry.program.kind ≡ kind.Rom
  pub callee_unknown : called.program.kind ≡ kind.Rom
  pub callee : Setting
  pub keeps : keeps callee ≡ true
  pub kept : (b : ℕ) → IsKept callee region ranges called.entered.processor.sp b → peek x.storage b ≡ peek called.entered.storage b

-- By those of version 3: the callee took over k items of the caller's, the return word among them, and leaves as many as its exit
-- has. It stands in a setting of its own, in which it keeps what isn't its own to write; z is the caller's, whose pairs lay where it says as it was entered. The addresses are those that
-- it names to be kept.
pub record HandsBack (program : Program) (z : Setting) (k : ℕ) (region : Region) (ranges : List Range) (addresses : List ℕ) (s exit : AbsState) (entry : Activation) (base : ℕ) (called : Activation) (x : MState) : Type 0 where
  pub is_region : IsRegion region
  pub apart : AllByRecursion (λ r. meets region r.first r.last ≡ false) ranges
  pub placed : IsApart z region s
  pub based : IsBase z base
  pub within : AreWithin z.entered (entered_with entry)
  pub room : AreInRegion region base (length s.items)
  pub begins : IsCalled k s entry base called.entered
  pub callee : Setting
  pub keeps : keeps callee ≡ true
  pub callee_base : IsBase callee (base_below k s.items base)
  pub exit_located : is_located exit ≡ true
  pub exit_core : IsCore exit.core
  pub exits : Means exit called (base_below k s.items base) x
  pub caller_program : entry.program ≡ program
  pub callee_program : called.program ≡ program
  pub names : called.kept ≡ addresses
  pub facts : AreFreeFacts region program.facts
  pub exit_free : IsFree region exit.summary
  pub kept : (b : ℕ) → IsKept callee region ranges (base_below k s.items base) b → peek x.storage b ≡ peek called.entered.storage b

abbrev pub ComesBackBy :
    Program → Rules → Setting → ℕ → Region → List Range → List ℕ → AbsState → AbsState → Activation → ℕ → Activation → MState → Type 0
ComesBackBy program Simple z k region ranges addresses s exit entry base called x = ComesBack region ranges s exit entry base called x
ComesBackBy program Extended z k region ranges addresses s exit entry base called x =
    HandsBack program z k region ranges addresses s exit entry base called x

-- x is one of the states, of which there are some
abbrev pub MeansIf : Option AbsState → Activation → ℕ → MState → Type 0
MeansIf None entry base x = ⊥
MeansIf (Some s) entry base x = Means s entry base x

-- the same of what was computed; of what is too deep nothing is said
abbrev pub MeansResumed : Resumed → Activation → ℕ → MState → Type 0
MeansResumed Nothing entry base x = ⊥
MeansResumed (States s) entry base x = Means s entry base x
MeansResumed TooDeep entry base x = Unit {0}

-- cutting to what registers and pairs leave each other, where the pairs lay in these bounds as the procedure was entered, loses none of
-- these states
abbrev pub ReducesSoundly : Program → PairBounds → AbsState → Type 0
ReducesSoundly program entered s =
    IsSoundReducing entered (read_in program s) (values_of s.core.registers s.relations.pairs)
    (reduced entered (read_in program s) (values_of s.core.registers s.relations.pairs))

-- whatever the callee did in the program, what is said of the caller's state holds
pub record IsSoundResuming (program : Program) (z : Setting) (region : Region) (k : ℕ) (ranges : List Range) (kept : List ℕ) (s exit : AbsState) (after : Resumed) : Type 0 where
  pub gives :
      (entry : Activation) (base : ℕ) (called : Activation) (x : MState)
      → ComesBackBy program z.rules z k region ranges kept s exit entry base called x → MeansResumed after entry base x
