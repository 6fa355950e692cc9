-- What a certificate's nodes promise of one event.
use Rattle.std.specs.Prelude.{◌≡◌, ℕ, ◌+◌, ◌-◌, ◌≤◌, ◌<◌, ◌⊎◌, true, false, List, Some, IfSome, length, slice_get}
use Rattle.std.specs.List.{All, Contains}
use Rattle.gb_ops.specs.declared.machine.Event.{Event}
use Rattle.gb_ops.specs.declared.machine.Event.TheVariants as event
use Rattle.gb_ops.specs.Pairs.{word}
use Rattle.gb_ops.specs.Faults.{no_faults}
use Rattle.gb_ops.specs.declared.registers.Registers.{Registers}
use Rattle.gb_ops.specs.Play.{MState, next, faults, places}
use Rattle.gb_successors.specs.Below.gb_domain.Types.{AbsState, Node}
use Rattle.gb_successors.specs.Below.gb_domain.declared.rules.Rules.{Rules}
use Rattle.gb_successors.specs.Below.gb_domain.declared.rules.Rules.TheVariants.{Simple, Extended}
use Rattle.gb_successors.specs.Below.gb_domain.declared.types.Origin.TheVariants.{ReturnHigh, ReturnLow}
use Rattle.gb_successors.specs.Below.gb_domain.Areas.{is_free_byte}
use Rattle.gb_successors.specs.Below.gb_domain.Pairs.{ArePairs}
use Rattle.gb_successors.specs.Below.gb_domain.Settings.{IsBase}
use Rattle.gb_successors.specs.Below.gb_domain.Summaries.{no_summary}
use Rattle.gb_ops.specs.declared.machine.Region.{Region}
use Rattle.gb_successors.specs.Below.gb_abs.Meaning.{Activation, is_located, origin_value}
use Rattle.gb_calls.specs.TakenOver.{base_below}
use Rattle.gb_successors.specs.Below.gb_domain.Certificate.{Certificate}
use Rattle.gb_successors.specs.Below.gb_domain.Limits.{rules_of}
use Rattle.gb_successors.specs.Below.gb_abs.Cells.{ArePlaced}
use Rattle.gb_successors.specs.Below.gb_product.Covering.{covers}
use Rattle.gb_successors.specs.Below.gb_product.Held.{stack_held}
use Rattle.gb_successors.specs.Below.gb_abs.Mark.{IsMarkHarmless}
use Rattle.gb_successors.specs.Below.gb_pairs.Sound.{AreWithin}
use Rattle.gb_successors.specs.Below.gb_product.Meaning.{entered_with, Means, IsApart}
use Rattle.gb_successors.specs.Below.gb_abs.Stack.{AreInRegion, pushed}
use Rattle.gb_successors.specs.Below.gb_relations.Sound.{IsBytePlaced}
use Rattle.gb_successors.specs.Below.gb_abs.Storage.{peek}
use Rattle.gb_successors.specs.Below.gb_abs_memory.Kept.{IsKept}
use Rattle.gb_calls.specs.Calls.{entered_by, are_ranges_inside}
use Rattle.gb_calls.specs.Resuming.{resumed}
use Rattle.gb_successors.specs.Places.{IsCertified}
use Rattle.gb_successors.specs.Stacks.{address_below}
use Rattle.gb_successors.specs.Below.gb_abs_effects.Pairs.{known_word}
use Rattle.gb_rules.specs.Covered.{covered_at}
use Rattle.gb_rules.specs.Procedures.{ranges_of, kept_of, mark_of, need_of, pairs_at, pairs_in, entered_of, setting_of, program_of, exit_of, taken_by}
use Rattle.gb_rules.specs.Rules.{setting_by}

-- ---- where the machine stands

-- by the rules of versions 1 and 2 the return word of a procedure but main stands at its base, inside the region; by those of
-- version 3 it is among what the procedure holds
abbrev pub HasReturnWord : Rules → Region → ℕ → ℕ → Type 0
HasReturnWord Simple region procedure base = 0 < procedure → base + 2 ≤ region.last + 1
HasReturnWord Extended region procedure base = Unit {0}

-- as it runs, a procedure names what the certificate says: the addresses whose bytes it keeps, and a mark, which lies so many bytes
-- below its base
pub record Declares (cert : Certificate) (procedure base : ℕ) (entry : Activation) : Type 0 where
  pub kept : entry.kept ≡ kept_of cert procedure
  pub mark : entry.mark ≡ address_below base (mark_of cert procedure)

-- the machine stands at a node, in a state that the node means: entry says how its procedure was entered, what that keeps, and which
-- program it is part of, and base is the address above its items (main's is the one behind the region); those, and the bytes that it may need,
-- lie in the region, and the one byte's place, if it is there, is one of those
pub record IsAt (rom : List ℕ) (cert : Certificate) (n : Node) (entry : Activation) (base : ℕ) (s : MState) : Type 0 where
  pub address : s.processor.pc ≡ n.address
  pub program : entry.program ≡ program_of rom cert
  pub names : Declares cert n.procedure base entry
  pub means : Means n.state entry base s
  pub mark : IsMarkHarmless rom s
  pub main : n.procedure ≡ 0 → base ≡ cert.region.last + 1
  pub based : IsBase (setting_of cert n.procedure) base
  pub within : AreWithin (entered_of cert n.procedure) (entered_with entry)
  pub return_word : HasReturnWord (rules_of cert.version) cert.region n.procedure base
  pub room : AreInRegion cert.region base (need_of cert n.procedure)
  pub held : AreInRegion cert.region base (length n.state.items)
  pub place : IsBytePlaced (stack_held (setting_of cert n.procedure) cert.region (length n.state.items)) n.state.relations.byte.address

-- some node of the procedure stands where the machine is, and means its state
pub record IsMeant (rom : List ℕ) (cert : Certificate) (procedure : ℕ) (entry : Activation) (base : ℕ) (s : MState) : Type 0 where
  pub node : Node
  pub is_node : Contains cert.nodes node
  pub procedure_is : node.procedure ≡ procedure
  pub at : IsAt rom cert node entry base s

-- ---- what an event leaves

-- By the rules of versions 1 and 2 the machine has called: the procedure waits in a state, with the word of the address where
-- it will go on on the stack, and the callee stands at its entry. The callee's ranges and bytes lie inside the procedure's,
-- and where it returns, the procedure goes on at a node.
pub record Calls (cert : Certificate) (procedure : ℕ) (entry : Activation) (base : ℕ) (s : MState) : Type 0 where
  pub state : AbsState
  pub back : ℕ
  pub back_small : back < 65536
  pub means : Means (pushed (known_word back) state) entry base s
  pub quiet : state.summary ≡ no_summary
  pub stack_set : state.core.stack_set ≡ true
  pub placed : ArePlaced cert.region state.cells
  pub node : Node
  pub is_node : Contains cert.nodes node
  pub not_main : 0 < node.procedure
  pub address : s.processor.pc ≡ node.address
  pub enters : pairs_in cert (slice_get cert.procedures node.procedure) ≡ pairs_at (Some node)
  pub begins : covers entry.program (entered_by entry.program cert.region Simple (length node.state.items) (kept_of cert node.procedure) state) node.state ≡ true
  pub mark : s.processor.halt_mark ≡ false
  pub depth : length state.items + 2 + need_of cert node.procedure ≤ need_of cert procedure
  pub inside : are_ranges_inside (ranges_of cert node.procedure) (ranges_of cert procedure) ≡ true
  pub resumes :
      (exit : AbsState) → exit_of cert node.procedure ≡ Some exit
      → IfSome (resumed entry.program (setting_by Simple cert procedure) cert.region (taken_by cert node.procedure) (ranges_of cert node.procedure) (kept_of cert node.procedure) state exit)
      (λ after. covered_at entry.program Simple cert procedure back after ≡ true)

-- By those of version 3: the word of the address where the procedure will go on is among its items, of which the callee takes
-- the newest over. The others wait; they and the callee's need lie inside the procedure's need, and the callee's ranges inside
-- the procedure's, unless that is main. Where the callee returns, the procedure goes on at a node.
pub record HandsOver (cert : Certificate) (procedure : ℕ) (entry : Activation) (base : ℕ) (s : MState) : Type 0 where
  pub state : AbsState
  pub back : ℕ
  pub back_small : back < 65536
  pub means : Means state entry base s
  pub return_word : word (peek s.storage (s.processor.sp + 1)) (peek s.storage s.processor.sp) ≡ back
  pub located : is_located state ≡ true
  pub placed : IsApart (setting_of cert procedure) cert.region state
  pub pairs : ArePairs (is_free_byte cert.region) state.relations.pairs
  pub held : AreInRegion cert.region base (length state.items)
  pub node : Node
  pub is_node : Contains cert.nodes node
  pub not_main : 0 < node.procedure
  pub address : s.processor.pc ≡ node.address
  pub few : taken_by cert node.procedure ≤ length state.items
  pub based : IsBase (setting_of cert node.procedure) (base_below (taken_by cert node.procedure) state.items base)
  pub enters : pairs_in cert (slice_get cert.procedures node.procedure) ≡ pairs_at (Some node)
  pub begins : covers entry.program (entered_by entry.program cert.region Extended (taken_by cert node.procedure) (kept_of cert node.procedure) state) node.state ≡ true
  pub mark : s.processor.halt_mark ≡ false
  pub depth : (length state.items - taken_by cert node.procedure) + need_of cert node.procedure ≤ need_of cert procedure
  pub inside : 0 < procedure → are_ranges_inside (ranges_of cert node.procedure) (ranges_of cert procedure) ≡ true
  pub resumes :
      (exit : AbsState) → exit_of cert node.procedure ≡ Some exit
      → IfSome (resumed entry.program (setting_by Extended cert procedure) cert.region (taken_by cert node.procedure) (ranges_of cert node.procedure) (kept_of cert node.procedure) state exit)
      (λ after. covered_at entry.program Extended cert procedure back after ≡ true)

abbrev pub CallsBy : Rules → Certificate → ℕ → Activation → ℕ → MState → Type 0
CallsBy Simple cert procedure entry base s = Calls cert procedure entry base s
CallsBy Extended cert procedure entry base s = HandsOver cert procedure entry base s

-- By the rules of versions 1 and 2 the machine has returned from s to t: to the word at the base, in a state that the
-- procedure's exit means.
pub record Returns (cert : Certificate) (procedure : ℕ) (entry : Activation) (base : ℕ) (s t : MState) : Type 0 where
  pub not_main : 0 < procedure
  pub exit : AbsState
  pub is_exit : exit_of cert procedure ≡ Some exit
  pub means : Means exit entry (base + 2) t
  pub address : t.processor.pc ≡ word (peek s.storage (base + 1)) (peek s.storage base)
  pub mark : t.processor.halt_mark ≡ false

-- By those of version 3: to the word with which the procedure was entered; what the exit holds is left on the stack.
pub record GoesBack (cert : Certificate) (procedure : ℕ) (entry : Activation) (base : ℕ) (t : MState) : Type 0 where
  pub not_main : 0 < procedure
  pub exit : AbsState
  pub is_exit : exit_of cert procedure ≡ Some exit
  pub means : Means exit entry base t
  pub held : AreInRegion cert.region base (length exit.items)
  pub address : t.processor.pc ≡ word (origin_value ReturnHigh entry) (origin_value ReturnLow entry)
  pub mark : t.processor.halt_mark ≡ false

abbrev pub ReturnsBy : Rules → Certificate → ℕ → Activation → ℕ → MState → MState → Type 0
ReturnsBy Simple cert procedure entry base s t = Returns cert procedure entry base s t
ReturnsBy Extended cert procedure entry base s t = GoesBack cert procedure entry base t

-- a procedure that begins in this state, with this base
abbrev pub begun : List ℕ → Certificate → ℕ → ℕ → MState → Activation
begun rom cert procedure base s = record { entered = s; kept = kept_of cert procedure; mark = address_below base (mark_of cert procedure); program = program_of rom cert }

-- main as if it were entered now, but with the registers that it was entered with
abbrev pub begun_anew : List ℕ → Certificate → Registers ℕ → MState → Activation
begun_anew rom cert was t =
    begun rom cert 0 (cert.region.last + 1) (record t { processor = record t.processor { registers = was } })

-- By the rules of version 3 the machine may have begun anew: it stands in main, however that was entered.
abbrev pub RestartsBy : Rules → List ℕ → Certificate → MState → Type 0
RestartsBy Simple rom cert t = ⊥
RestartsBy Extended rom cert t =
    (was : Registers ℕ) → AreWithin (entered_of cert 0) was → IsMeant rom cert 0 (begun_anew rom cert was t) (cert.region.last + 1) t

-- from s to t the machine stays in the procedure, calls, returns or begins anew
abbrev pub LeadsBy : Rules → List ℕ → Certificate → ℕ → Activation → ℕ → MState → MState → Type 0
LeadsBy rules rom cert procedure entry base s t =
    IsMeant rom cert procedure entry base t
    ⊎ (CallsBy rules cert procedure entry base t ⊎ (ReturnsBy rules cert procedure entry base s t ⊎ RestartsBy rules rom cert t))

-- so it does by the rules of the certificate
abbrev pub Leads : List ℕ → Certificate → ℕ → Activation → ℕ → MState → MState → Type 0
Leads rom cert procedure entry base s t = LeadsBy (rules_of cert.version) rom cert procedure entry base s t

-- an event has no fault, fetches certified places, leaves a state that the certificate means, and changes nothing that
-- the procedure keeps
pub record IsSafeEvent (rom : List ℕ) (cert : Certificate) (procedure : ℕ) (entry : Activation) (base : ℕ) (s : MState) (e : Event) : Type 0 where
  pub faults : faults rom cert.region s e ≡ no_faults
  pub places : All (IsCertified rom cert) (places rom s e)
  pub leads : Leads rom cert procedure entry base s (next rom s e)
  pub kept : (b : ℕ) → IsKept (setting_of cert procedure) cert.region (ranges_of cert procedure) base b → peek (next rom s e).storage b ≡ peek s.storage b

-- an event is no interrupt's dispatch
abbrev pub IsNoDispatch : Event → Type 0
IsNoDispatch (event.Irq i) = ⊥
IsNoDispatch _ = Unit {0}

-- each event but a dispatch, from each state that the node means, however its procedure was entered
abbrev pub IsSafeNode : List ℕ → Certificate → Node → Type 0
IsSafeNode rom cert n =
    (entry : Activation) (base : ℕ) (s : MState) (e : Event) → IsNoDispatch e → IsAt rom cert n entry base s
    → IsSafeEvent rom cert n.procedure entry base s e

-- the promise of the node with a number
abbrev pub IsSafeAt : List ℕ → Certificate → ℕ → Type 0
IsSafeAt rom cert i = (n : Node) → slice_get cert.nodes i ≡ Some n → IsSafeNode rom cert n

-- each event, a dispatch among them
abbrev pub IsWhollySafeNode : List ℕ → Certificate → Node → Type 0
IsWhollySafeNode rom cert n =
    (entry : Activation) (base : ℕ) (s : MState) (e : Event) → IsAt rom cert n entry base s → IsSafeEvent rom cert n.procedure entry base s e

-- that promise of the node with a number
abbrev pub IsWhollySafeAt : List ℕ → Certificate → ℕ → Type 0
IsWhollySafeAt rom cert i = (n : Node) → slice_get cert.nodes i ≡ Some n → IsWhollySafeNode rom cert n
