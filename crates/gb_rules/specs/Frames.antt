-- The procedures that wait for one another. Nothing keeps a list of them: what is said of each is what held as the
-- procedure above it was entered (own; abstract interpretation: calls by summary).
use Rattle.std.specs.Prelude.{◌≡◌, ℕ, ◌+◌, ◌≤◌, ◌<◌, List, [], ◌∷◌}
use Rattle.gb_ops.specs.Play.{MState}
use Rattle.gb_successors.specs.Below.gb_domain.declared.rules.Rules.{Rules}
use Rattle.gb_successors.specs.Below.gb_domain.declared.rules.Rules.TheVariants.{Simple, Extended}
use Rattle.gb_successors.specs.Below.gb_domain.Certificate.{Certificate}
use Rattle.gb_successors.specs.Below.gb_domain.Limits.{rules_of}
use Rattle.gb_successors.specs.Below.gb_domain.Settings.{IsBase}
use Rattle.gb_successors.specs.Below.gb_abs.Meaning.{Activation}
use Rattle.gb_successors.specs.Below.gb_abs.Stack.{AreInRegion}
use Rattle.gb_successors.specs.Below.gb_abs.Storage.{peek}
use Rattle.gb_successors.specs.Below.gb_abs_memory.Kept.{IsKept}
use Rattle.gb_successors.specs.Below.gb_pairs.Sound.{AreWithin}
use Rattle.gb_successors.specs.Below.gb_product.Meaning.{entered_with}
use Rattle.gb_calls.specs.TakenOver.{base_below}
use Rattle.gb_rules.specs.Procedures.{ranges_of, need_of, entered_of, setting_of, taken_by}
use Rattle.gb_rules.specs.Safety.{Declares, IsMeant, Calls, HandsOver}

-- from s to t each byte stays that a procedure with this base has to keep
pub record Keeps (cert : Certificate) (procedure base : ℕ) (s t : MState) : Type 0 where
  pub byte : (b : ℕ) → IsKept (setting_of cert procedure) cert.region (ranges_of cert procedure) base b → peek t.storage b ≡ peek s.storage b

-- a procedure that waits for the one that it called: its number, how it was entered, and its base
pub record Frame : Type 0 where
  pub procedure : ℕ
  pub entry : Activation
  pub base : ℕ

-- By the rules of versions 1 and 2 the procedure of the frame waits for another one above it, which was entered
-- with its return word at base: it called that one, both are part of one program, it names what the certificate says, the bytes that it
-- may need lie in the region, and it had kept what it has to keep.
pub record IsWaiting (cert : Certificate) (f : Frame) (procedure : ℕ) (above : Activation) (base : ℕ) : Type 0 where
  pub calls : Calls cert f.procedure f.entry f.base above.entered
  pub program : f.entry.program ≡ above.program
  pub names : Declares cert f.procedure f.base f.entry
  pub callee : calls.node.procedure ≡ procedure
  pub base_is : base ≡ above.entered.processor.sp
  pub main : f.procedure ≡ 0 → f.base ≡ cert.region.last + 1
  pub within : AreWithin (entered_of cert f.procedure) (entered_with f.entry)
  pub return_word : 0 < f.procedure → f.base + 2 ≤ cert.region.last + 1
  pub room : AreInRegion cert.region f.base (need_of cert f.procedure)
  pub keeps : Keeps cert f.procedure f.base f.entry.entered above.entered

-- By those of version 3 it handed items over, and base is the address above them; its own base is as the certificate says it.
pub record IsWaitingAbove (cert : Certificate) (f : Frame) (procedure : ℕ) (above : Activation) (base : ℕ) : Type 0 where
  pub calls : HandsOver cert f.procedure f.entry f.base above.entered
  pub program : f.entry.program ≡ above.program
  pub names : Declares cert f.procedure f.base f.entry
  pub callee : calls.node.procedure ≡ procedure
  pub base_is : base ≡ base_below (taken_by cert procedure) calls.state.items f.base
  pub main : f.procedure ≡ 0 → f.base ≡ cert.region.last + 1
  pub within : AreWithin (entered_of cert f.procedure) (entered_with f.entry)
  pub based : IsBase (setting_of cert f.procedure) f.base
  pub room : AreInRegion cert.region f.base (need_of cert f.procedure)
  pub keeps : Keeps cert f.procedure f.base f.entry.entered above.entered

abbrev pub IsWaitingBy : Rules → Certificate → Frame → ℕ → Activation → ℕ → Type 0
IsWaitingBy Simple cert f procedure above base = IsWaiting cert f procedure above base
IsWaitingBy Extended cert f procedure above base = IsWaitingAbove cert f procedure above base

-- the procedures that wait below one, the youngest first; the last one is main, which nothing waits for
abbrev pub AreWaiting : Rules → Certificate → List Frame → ℕ → Activation → ℕ → Type 0
AreWaiting rules cert [] procedure entry base = procedure ≡ 0
AreWaiting rules cert (f ∷ rest) procedure entry base =
    IsWaitingBy rules cert f procedure entry base × AreWaiting rules cert rest f.procedure f.entry f.base

-- the machine stands at a node of a procedure, others wait below it, and it has kept what it has to keep
pub record Stands (rom : List ℕ) (cert : Certificate) (frames : List Frame) (procedure : ℕ) (entry : Activation) (base : ℕ) (s : MState) : Type 0 where
  pub meant : IsMeant rom cert procedure entry base s
  pub waiting : AreWaiting (rules_of cert.version) cert frames procedure entry base
  pub keeps : Keeps cert procedure base entry.entered s

-- the machine stands at a node of some procedure, whichever wait below it
pub record IsStanding (rom : List ℕ) (cert : Certificate) (s : MState) : Type 0 where
  pub frames : List Frame
  pub procedure : ℕ
  pub entry : Activation
  pub base : ℕ
  pub stands : Stands rom cert frames procedure entry base s
