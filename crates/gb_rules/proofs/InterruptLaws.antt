-- Every event, an interrupt's dispatch among them, from a state of a node that nothing is against.
use Rattle.std.proofs.Common.{◌≡◌, ℕ, Bool, true, false, List, None, Result, Ok, Err, refl, sym, ◌∙◌, ap, subst}
use Rattle.std.specs.Prelude.{option_and_then}
use Rattle.std.specs.Result.{MatchResult, OnOk}
use Rattle.std.specs.List.{Contains}
use Rattle.gb_ops.specs.declared.machine.Event.{Event}
use Rattle.gb_ops.specs.declared.machine.Event.TheVariants as event
use Rattle.gb_ops.specs.Machine.{is_possible}
use Rattle.gb_ops.specs.Play.{MState, within}
use Rattle.gb_successors.specs.Below.gb_abs.Meaning.{Activation}
use Rattle.gb_successors.specs.Below.gb_domain.declared.rules.Rules.{Rules}
use Rattle.gb_successors.specs.Below.gb_domain.declared.rules.Rules.TheVariants.{Simple, Extended}
use Rattle.gb_successors.specs.Below.gb_domain.Limits.{rules_of}
use Rattle.gb_successors.specs.Below.gb_domain.Types.{Node}
use Rattle.gb_successors.specs.Below.gb_domain.Certificate.{Certificate}
use Rattle.gb_calls.specs.Below.gb_states.WholeRules.{IsCertificate}
use Rattle.gb_successors.specs.Below.gb_abs.declared.reason.Reason.{Reason}
use Rattle.gb_successors.specs.Below.gb_abs.declared.reason.Reason.TheVariants as reasons
use Rattle.gb_successors.specs.Below.gb_abs_memory.Sound.{IsRom}
use Rattle.gb_successors.proofs.AccessLaws.{clear_stack}
use Rattle.gb_rules.specs.Procedures.{program_of}
use Rattle.gb_rules.specs.Rules.{reason_of, reason_at, lacks_handler, lacks_in, lacks_handler_at}
use Rattle.gb_rules.specs.Safety.{IsAt, IsSafeEvent, IsWhollySafeAt}
use Rattle.gb_rules.proofs.SearchLaws.{Contains-slice_get}
use Rattle.gb_rules.proofs.NodeLaws.{IsNodeState-node, Passes, Passes-from, shallow, unlimited, IsProvided, IsProvided-passed}
use Rattle.gb_rules.proofs.EventLaws.{IsSafeNode-right, IsSafeEvent-where}
use Rattle.gb_rules.proofs.DispatchLaws.{IsSafeEvent-dispatch, may_come-possible}
use Rattle.gb_rules.proofs.HandlerLaws.{is_possible-meant, IsSafeEvent-dispatched}

-- an interrupt's dispatch, where it is possible or not
interrupt_safe : (rom : List ℕ) (cert : Certificate) (n : Node) (entry : Activation) (base : ℕ) (s : MState) (i : ℕ) → IsCertificate cert → Contains cert.nodes n → reason_of rom cert n ≡ None
    → lacks_handler (program_of rom cert) cert n ≡ false → IsAt rom cert n entry base s → (b : Bool) → is_possible (within rom s) (event.Irq i) ≡ b → IsSafeEvent rom cert n.procedure entry base s (event.Irq i)
interrupt_safe rom cert n entry base s i certificate is_node right handled at true possible = by (rules_of cert.version) refl
  where
    p : Passes rom cert n
    p = Passes-from rom cert n right

    by : (r : Rules) → rules_of cert.version ≡ r → IsSafeEvent rom cert n.procedure entry base s (event.Irq i)
    by Simple simple =
        let may = may_come-possible rom cert n entry base s i at possible in
        let k = subst (λ q. IsProvided q cert n i) (sym at.program) (IsProvided-passed rom cert n p i simple handled may.1 may.0) in
        IsSafeEvent-dispatch rom cert n entry base s i k.handler at is_node certificate simple possible k.stack_set (clear_stack cert.region n.state.core k.clear) k.is_handler k.inside k.depth k.resumes
    by Extended extended =
        let meant = is_possible-meant rom cert n entry base s at.program (IsNodeState-node cert n certificate is_node) at.within at.means in
        IsSafeEvent-dispatched rom cert n entry base s i extended certificate is_node ((shallow rom cert n p).handles meant) ((unlimited rom cert n p).dispatches meant) handled at possible
interrupt_safe rom cert n entry base s i certificate is_node right handled at false impossible =
    IsSafeEvent-where rom cert n.procedure entry base s (event.Irq i) false impossible (record { node = n; is_node = is_node; procedure_is = refl; at = at }) (λ h. absurd (different h))
  where
    different : false ≡ true → ⊥
    different h = cc

-- a node that no reason is against and that has its handlers
pub IsSafeEvent-handled : (rom : List ℕ) (cert : Certificate) (n : Node) → IsRom rom → IsCertificate cert → Contains cert.nodes n → reason_of rom cert n ≡ None → lacks_handler (program_of rom cert) cert n ≡ false
    → (entry : Activation) (base : ℕ) (s : MState) (e : Event) → IsAt rom cert n entry base s → IsSafeEvent rom cert n.procedure entry base s e
IsSafeEvent-handled rom cert n cartridge certificate is_node right handled entry base s (event.Run fetch reads) at =
    IsSafeNode-right rom cert n cartridge certificate is_node right entry base s (event.Run fetch reads) tt at
IsSafeEvent-handled rom cert n cartridge certificate is_node right handled entry base s event.HaltStay at = IsSafeNode-right rom cert n cartridge certificate is_node right entry base s event.HaltStay tt at
IsSafeEvent-handled rom cert n cartridge certificate is_node right handled entry base s event.HaltBug at = IsSafeNode-right rom cert n cartridge certificate is_node right entry base s event.HaltBug tt at
IsSafeEvent-handled rom cert n cartridge certificate is_node right handled entry base s (event.Irq i) at =
    interrupt_safe rom cert n entry base s i certificate is_node right handled at (is_possible (within rom s) (event.Irq i)) refl
IsSafeEvent-handled rom cert n cartridge certificate is_node right handled entry base s (event.Wait cycles) at =
    IsSafeNode-right rom cert n cartridge certificate is_node right entry base s (event.Wait cycles) tt at

-- what an answer of check_irqs promises
pub check_irqs_safe : {X : Type 0} (rom : List ℕ) (cert : Certificate) (i : ℕ) (r : Result X Reason) → IsRom rom → IsCertificate cert
    → MatchResult r (λ _. lacks_handler_at rom cert i ≡ false) (λ reason. (lacks_handler_at rom cert i ≡ true) × (reason ≡ reasons.Interrupt)) → reason_at rom cert i ≡ None → OnOk r (IsWhollySafeAt rom cert i)
check_irqs_safe rom cert i (Ok u) cartridge certificate h right = λ n is entry base s e at.
    IsSafeEvent-handled rom cert n cartridge certificate (Contains-slice_get cert.nodes i n is) (ap (option_and_then (reason_of rom cert)) (sym is) ∙ right) (ap (lacks_in (program_of rom cert) cert) (sym is) ∙ h) entry base s e at
check_irqs_safe rom cert i (Err reason) cartridge certificate h right = tt
