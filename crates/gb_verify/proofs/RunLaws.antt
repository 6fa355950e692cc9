-- A right certificate is safe: each event, and so every list of events.
use Rattle.std.proofs.Common.{◌≡◌, ℕ, Bool, true, false, List, Option, Some, None, refl, subst}
use Rattle.std.proofs.lemmas.List.Elements.{All-contains}
use Rattle.gb_ops.specs.declared.machine.Event.{Event}
use Rattle.gb_ops.specs.Play.{MState}
use Rattle.gb_rules.specs.Below.gb_abs.Meaning.{Activation}
use Rattle.gb_rules.specs.Below.gb_domain.Types.{Node}
use Rattle.gb_rules.specs.Below.gb_domain.Certificate.{Certificate}
use Rattle.gb_rules.specs.Below.gb_states.WholeRules.{IsCertificate}
use Rattle.gb_rules.specs.Below.gb_abs.declared.reason.Reason.{Reason}
use Rattle.gb_rules.specs.Below.gb_abs_memory.Sound.{IsRom}
use Rattle.gb_rules.specs.Procedures.{program_of}
use Rattle.gb_rules.specs.Rules.{reason_of, lacks_handler}
use Rattle.gb_rules.specs.Safety.{IsMeant, IsSafeEvent}
use Rattle.gb_rules.proofs.InterruptLaws.{IsSafeEvent-handled}
use Rattle.gb_verify.specs.Verdict.{IsRight, IsVerdict, or_interrupt, reason_against}
use Rattle.gb_verify.specs.Headline.{IsSafe, IfAccepted}
use Rattle.gb_verify.specs.declared.verdict.Verdict.{Verdict}
use Rattle.gb_verify.specs.declared.verdict.Verdict.TheVariants.{Accepted, Refused}
use Rattle.gb_verify.proofs.SafetyLaws.{IsSafe-events}

right_reason : (o : Option Reason) (unhandled : Bool) → or_interrupt o unhandled ≡ None → (o ≡ None) × (unhandled ≡ false)
right_reason (Some r) unhandled h = cc
right_reason None true h = cc
right_reason None false h = (refl, refl)

right_node : (rom : List ℕ) (cert : Certificate) (n : Node) → reason_against rom cert n ≡ None → (reason_of rom cert n ≡ None) × (lacks_handler (program_of rom cert) cert n ≡ false)
unfolding reason_against
right_node rom cert n h = right_reason (reason_of rom cert n) (lacks_handler (program_of rom cert) cert n) h

-- one event, from a state that a node of a right certificate means
pub IsSafeEvent-right : (rom : List ℕ) (cert : Certificate) (procedure : ℕ) (entry : Activation) (base : ℕ) (s : MState) (e : Event) → IsRom rom → IsCertificate cert → IsRight rom cert
    → IsMeant rom cert procedure entry base s → IsSafeEvent rom cert procedure entry base s e
IsSafeEvent-right rom cert procedure entry base s e cartridge certificate right m =
    let p = right_node rom cert m.node (All-contains (λ n. reason_against rom cert n ≡ None) cert.nodes m.node right.nodes m.is_node) in
    subst (λ q. IsSafeEvent rom cert q entry base s e) m.procedure_is (IsSafeEvent-handled rom cert m.node cartridge certificate m.is_node p.0 p.1 entry base s e m.at)

-- ---- runs

pub IsSafe-right : (rom : List ℕ) (cert : Certificate) → IsRom rom → IsCertificate cert → IsRight rom cert → IsSafe rom cert
IsSafe-right rom cert cartridge certificate right =
    IsSafe-events rom cert certificate right.entry (record { gives = λ procedure entry base s e m. IsSafeEvent-right rom cert procedure entry base s e cartridge certificate right m })

-- what the verdict says is what is promised
pub check_safe : (rom : List ℕ) (cert : Certificate) (v : Verdict) → IsRom rom → IsCertificate cert → IsVerdict rom cert v → IfAccepted v (IsSafe rom cert)
check_safe rom cert (Accepted nodes procedures) cartridge certificate h = IsSafe-right rom cert cartridge certificate h.0
check_safe rom cert (Refused i r) cartridge certificate h = tt
