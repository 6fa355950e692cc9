-- What the states of a certificate may speak of beside themselves: in version 4 the cartridge's controller, and the certificate's facts.
use Rattle.std.proofs.Common.{◌≡◌, ℕ, ◌==◌, Bool, true, false, ◌⊎◌, List, inl, inr, refl, ap}
use Rattle.gb_ops.specs.declared.machine.Kind.{Kind}
use Rattle.gb_ops.specs.declared.machine.Kind.TheVariants as kind
use Rattle.gb_ops.specs.Cartridge.{kind_of}
use Rattle.gb_successors.specs.Below.gb_domain.declared.rules.Rules.TheVariants.{Simple}
use Rattle.gb_successors.specs.Below.gb_domain.Certificate.{Certificate}
use Rattle.gb_successors.specs.Below.gb_domain.Limits.{rules_of}
use Rattle.gb_calls.specs.Below.gb_states.WholeRules.{IsCertificate}
use Rattle.gb_successors.specs.Sound.{IsProgram}
use Rattle.gb_successors.specs.Below.gb_abs_memory.Windows.{known_kind}
use Rattle.gb_rules.specs.Procedures.{is_fourth, program_of}
use Rattle.gb_rules.proofs.CertificateLaws.{not_fourth, facts_free}

-- by the rules of versions 1 and 2 they know no controller
pub no_controller : (rom : List ℕ) (cert : Certificate) → rules_of cert.version ≡ Simple → (program_of rom cert).kind ≡ kind.Rom
unfolding program_of
no_controller rom cert simple = ap (λ b. known_kind b (kind_of rom)) (not_fourth cert.version simple)

known_or_not : (whole : Bool) (k : Kind) → (known_kind whole k ≡ kind.Rom) ⊎ (known_kind whole k ≡ k)
known_or_not true k = inr refl
known_or_not false k = inl refl

pub is_program : (rom : List ℕ) (cert : Certificate) → IsCertificate cert → IsProgram rom cert.region (program_of rom cert)
unfolding program_of
is_program rom cert c = record {
  controller = known_or_not (is_fourth cert) (kind_of rom);
  facts = facts_free (cert.version == 4) cert.region cert.facts c.facts;
}
