-- A certificate's file in version 4.
use Rattle.std.proofs.Common.{◌≡◌, ℕ, Bool, true, false, ◌==◌, List, Option, Ok, Err, inl, inr, refl, sym, ◌∙◌, ap, subst, arith}
use Rattle.std.proofs.lemmas.Bool.Decides.{nat_tests}
use Rattle.gb_domain.specs.Certificate.{Certificate}
use Rattle.gb_domain.specs.Limits.{rules_of}
use Rattle.gb_domain.specs.declared.rules.Rules.{Rules}
use Rattle.gb_domain.specs.declared.rules.Rules.TheVariants.{Extended}
use Rattle.gb_command_line.specs.Below.gb_fields.declared.fault.CertFault.{CertFault}
use Rattle.gb_command_line.specs.Below.gb_fields.declared.fault.CertFault.TheVariants as fault
use Rattle.gb_command_line.specs.Below.gb_fields.Format.{GivesUnlessMemory}
use Rattle.gb_command_line.specs.Below.gb_verify.Below.gb_states.WholeReading.{read_certificate}
use Rattle.gb_command_line.specs.Below.gb_verify.Below.gb_states.WholeSpelling.{Spells, spelling}
use Rattle.gb_events.specs.Sinks.{Gains}
use Rattle.gb_events.specs.Sinks.{GainsBeginning}
use Rattle.gb_command_line.specs.Below.gb_verify.Text.{certificate_text}
use Rattle.gb_command_line.specs.Below.gb_verify.CertificateFile.{text_of, HasBeginning}
use Rattle.gb_command_line.specs.Below.gb_verify.Upgrade.{fault_outcome}
use Rattle.gb_command_line.specs.Below.gb_verify.declared.upgrade.Upgraded.TheVariants as upgrade
use Rattle.gb_command_line.specs.Below.gb_verify.Widened.{widened, widened_by}
use Rattle.gb_program.specs.Fourth.{fourth, fourth_by, fourth_text}
use Rattle.gb_program.specs.FourthFile.{written}
use Rattle.gb_events.proofs.Below.gb_verify_laws.FileLaws.{certificate_begins, certificate_written, memory_or_other, text_of-fault}

is_fourth : (version : ℕ) → version ≡ 4 → rules_of version ≡ Extended
unfolding rules_of
is_fourth version e = rw e refl

test_fourth : (version : ℕ) → version ≡ 4 → (version == 4) ≡ true
test_fourth version e = rw e refl

-- one of version 4 stays what it is
stays : (c : Certificate) → c.version ≡ 4 → fourth (widened c) ≡ c
stays c e =
    ap (λ (rules : Rules). fourth (widened_by rules c)) (is_fourth c.version e)
    ∙ ap (λ (b : Bool). fourth_by b c) (test_fourth c.version e)

pub same_text : (c : Certificate) (bytes : List ℕ) → Spells bytes c → c.version ≡ 4 → bytes ≡ fourth_text c
same_text c bytes s e = s.is_spelling ∙ sym (ap spelling (stays c e))

pub fourth_written : (old new : Option (List ℕ)) (bytes : List ℕ) (c : Certificate) → read_certificate bytes ≡ Ok c → Gains old (fourth_text c) new → Gains old (text_of fourth_text bytes) new
fourth_written old new bytes c h g = certificate_written fourth_text old new bytes c h g

pub fourth_begins : (old new : Option (List ℕ)) (bytes : List ℕ) (c : Certificate) → read_certificate bytes ≡ Ok c → GainsBeginning old (fourth_text c) new → HasBeginning fourth_text old bytes new
fourth_begins old new bytes c h g = certificate_begins fourth_text old new bytes c h g

same_ok : (a b : Certificate) → GivesUnlessMemory {X = Certificate} (λ c. c) (Ok b) (Ok a) → a ≡ b
same_ok a b h = cc

pub fourth_same : (old new : Option (List ℕ)) (bytes : List ℕ) (c other : Certificate) → Spells bytes other → GivesUnlessMemory {X = Certificate} (λ d. d) (Ok c) (Ok other) → other.version ≡ 4 → Gains old (fourth_text c) new
    → Gains old bytes new
fourth_same old new bytes c other s e version g =
    subst (λ (t : List ℕ). Gains old t new) (sym (same_text other bytes s version)) (subst (λ (d : Certificate). Gains old (fourth_text d) new) (sym (same_ok other c e)) g)

other_is_unreadable : (f : CertFault) → (f ≡ fault.Memory → ⊥) → fault_outcome f ≡ upgrade.Unreadable
other_is_unreadable fault.Memory other = absurd (other refl)
other_is_unreadable _ other = refl

pub fault_written : (bytes : List ℕ) (f : CertFault) → ((f ≡ fault.Memory → ⊥) → read_certificate bytes ≡ Err f) → certificate_text f ≡ written (fault_outcome f) bytes
fault_written bytes f h = elim (memory_or_other f) [
  | inl memory ↦ subst (λ (e : CertFault). certificate_text e ≡ written (fault_outcome e) bytes) (sym memory) refl
  | inr other ↦ text_of-fault fourth_text bytes f (h other) ∙ ap (λ o. written o bytes) (sym (other_is_unreadable f other))
]
