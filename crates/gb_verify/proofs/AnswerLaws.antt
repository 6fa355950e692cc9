-- From the parts' contracts to the answer of two files.
use Rattle.std.proofs.Common.{◌≡◌, ℕ, List, Option, Some, None, Result, Ok, Err, inl, inr, refl, sym, ◌∙◌, ap, subst}
use Rattle.std.specs.Result.{IsOk}
use Rattle.gb_text.specs.Below.gb_header.declared.fault.HeaderFault.{HeaderFault}
use Rattle.gb_text.specs.Below.gb_header.Header as Header
use Rattle.gb_rules.specs.Below.gb_fields.declared.fault.CertFault.{CertFault}
use Rattle.gb_rules.specs.Below.gb_fields.declared.fault.CertFault.TheVariants as fault
use Rattle.gb_rules.specs.Below.gb_domain.Certificate.{Certificate}
use Rattle.gb_rules.specs.Below.gb_states.WholeReading.{read_certificate}
use Rattle.gb_rules.specs.Below.gb_states.WholeSpelling.{Spells}
use Rattle.gb_text.specs.Text.{GainsBeginning}
use Rattle.gb_verify.specs.Verdict.{verdict_of, IsVerdict, IsRight}
use Rattle.gb_verify.specs.Headline.{IsSafe, IfAccepted}
use Rattle.gb_verify.specs.declared.verify.Answer.{Answer}
use Rattle.gb_verify.specs.Text.{answer_of, answered, judged, answer_text, outcome_of, written, IsAnswer, IsOutcome, IsVerified, IfVerified, IfAcceptedAnswer, HasBeginning}
use Rattle.gb_verify.specs.declared.verdict.Verdict.{Verdict}
use Rattle.gb_verify.specs.declared.verdict.Verdict.TheVariants.{Accepted, Refused}
use Rattle.gb_verify.specs.declared.verify.Answer.TheVariants as answer

pub IsAnswer-header_fault : (rom cert : List ℕ) (f : HeaderFault) → Err f ≡ Header.parsed rom → IsAnswer rom cert (answer.Cartridge f)
unfolding answer_of
IsAnswer-header_fault rom cert f h = inl (ap (λ r. answered r cert) h)

read_fault : (rom cert parsed : List ℕ) (f : CertFault) → Ok parsed ≡ Header.parsed rom → read_certificate cert ≡ Err f → answer.Certificate f ≡ answer_of rom cert
unfolding answer_of
read_fault rom cert parsed f h e = sym (ap (judged parsed) e) ∙ ap (λ r. answered r cert) h

IsAnswer-memory : (rom cert parsed : List ℕ) → Ok parsed ≡ Header.parsed rom → IsAnswer rom cert (answer.Certificate fault.Memory)
IsAnswer-memory rom cert parsed h = inr (refl, subst IsOk h refl)

pub IsAnswer-certificate_fault : (rom cert parsed : List ℕ) (f : CertFault) → Ok parsed ≡ Header.parsed rom → ((f ≡ fault.Memory → ⊥) → read_certificate cert ≡ Err f)
    → IsAnswer rom cert (answer.Certificate f)
IsAnswer-certificate_fault rom cert parsed fault.Memory h e = IsAnswer-memory rom cert parsed h
IsAnswer-certificate_fault rom cert parsed fault.CutShort h e = inl (read_fault rom cert parsed _ h (e (λ m. cc)))
IsAnswer-certificate_fault rom cert parsed fault.Magic h e = inl (read_fault rom cert parsed _ h (e (λ m. cc)))
IsAnswer-certificate_fault rom cert parsed fault.Version h e = inl (read_fault rom cert parsed _ h (e (λ m. cc)))
IsAnswer-certificate_fault rom cert parsed fault.Count h e = inl (read_fault rom cert parsed _ h (e (λ m. cc)))
IsAnswer-certificate_fault rom cert parsed fault.Field h e = inl (read_fault rom cert parsed _ h (e (λ m. cc)))
IsAnswer-certificate_fault rom cert parsed fault.Order h e = inl (read_fault rom cert parsed _ h (e (λ m. cc)))
IsAnswer-certificate_fault rom cert parsed fault.Region h e = inl (read_fault rom cert parsed _ h (e (λ m. cc)))
IsAnswer-certificate_fault rom cert parsed fault.LeftOver h e = inl (read_fault rom cert parsed _ h (e (λ m. cc)))

pub IsAnswer-verdict : (rom cert parsed : List ℕ) (c : Certificate) (v : Verdict) → Ok parsed ≡ Header.parsed rom → read_certificate cert ≡ Ok c → v ≡ verdict_of parsed c
    → IsAnswer rom cert (answer.Judged v)
unfolding answer_of
IsAnswer-verdict rom cert parsed c v h e k = inl (ap answer.Judged k ∙ (sym (ap (judged parsed) e) ∙ ap (λ r. answered r cert) h))

taken_same : (o : Option HeaderFault) (bytes parsed : List ℕ) → Ok parsed ≡ Header.taken_or o bytes → parsed ≡ bytes
taken_same None bytes parsed h = cc
taken_same (Some f) bytes parsed h = cc

-- what is parsed is the file
pub parsed_same : (rom parsed : List ℕ) → Ok parsed ≡ Header.parsed rom → parsed ≡ rom
unfolding Header.parsed
parsed_same rom parsed h = taken_same (Header.fault_of rom) rom parsed h

-- an accepting verdict on what both files spell
pub IsVerified-accepted : (rom bytes parsed : List ℕ) (c : Certificate) (v : Verdict) → parsed ≡ rom → Header.IsCartridge rom → Spells bytes c → IsVerdict parsed c v → IfAccepted v (IsSafe parsed c)
    → IfAcceptedAnswer (answer.Judged v) (IsVerified rom bytes)
IsVerified-accepted rom bytes parsed c (Accepted nodes procedures) same cartridge spelled exact safe =
    record {
      cartridge = cartridge;
      certificate = c;
      spelled = spelled;
      right = subst (λ r. IsRight r c) same exact.0;
      safe = subst (λ r. IsSafe r c) same safe;
    }
IsVerified-accepted rom bytes parsed c (Refused i r) same cartridge spelled exact safe = tt

-- ---- what the answer says

of_files : (rom cert : List ℕ) (a : Answer) → IsAnswer rom cert a → (a ≡ answer.Certificate fault.Memory → ⊥) → a ≡ answer_of rom cert
of_files rom cert a (inl e) other = e
of_files rom cert a (inr m) other = absurd (other m.0)

pub verify_bytes_line : (rom cert : List ℕ) (a : Answer) → IsAnswer rom cert a → written (outcome_of a) rom cert ≡ answer_text a
verify_bytes_line rom cert (answer.Cartridge f) h = ap answer_text (sym (of_files rom cert _ h (λ m. cc)))
verify_bytes_line rom cert (answer.Certificate fault.Memory) h = refl
verify_bytes_line rom cert (answer.Certificate fault.CutShort) h = ap answer_text (sym (of_files rom cert _ h (λ m. cc)))
verify_bytes_line rom cert (answer.Certificate fault.Magic) h = ap answer_text (sym (of_files rom cert _ h (λ m. cc)))
verify_bytes_line rom cert (answer.Certificate fault.Version) h = ap answer_text (sym (of_files rom cert _ h (λ m. cc)))
verify_bytes_line rom cert (answer.Certificate fault.Count) h = ap answer_text (sym (of_files rom cert _ h (λ m. cc)))
verify_bytes_line rom cert (answer.Certificate fault.Field) h = ap answer_text (sym (of_files rom cert _ h (λ m. cc)))
verify_bytes_line rom cert (answer.Certificate fault.Order) h = ap answer_text (sym (of_files rom cert _ h (λ m. cc)))
verify_bytes_line rom cert (answer.Certificate fault.Region) h = ap answer_text (sym (of_files rom cert _ h (λ m. cc)))
verify_bytes_line rom cert (answer.Certificate fault.LeftOver) h = ap answer_text (sym (of_files rom cert _ h (λ m. cc)))
verify_bytes_line rom cert (answer.Judged (Accepted nodes procedures)) h = ap answer_text (sym (of_files rom cert _ h (λ m. cc)))
verify_bytes_line rom cert (answer.Judged (Refused i r)) h = ap answer_text (sym (of_files rom cert _ h (λ m. cc)))

readable : (cert : List ℕ) (f : CertFault) (r : Result (List ℕ) HeaderFault) → answer.Certificate f ≡ answered r cert → IsOk r
readable cert f (Ok rom) e = refl
readable cert f (Err fault) e = cc

memory_readable : (rom cert : List ℕ) → IsAnswer rom cert (answer.Certificate fault.Memory) → IsOk (Header.parsed rom)
unfolding answer_of
memory_readable rom cert (inl e) = readable cert fault.Memory (Header.parsed rom) e
memory_readable rom cert (inr m) = m.1

pub verify_bytes_outcome : (rom cert : List ℕ) (a : Answer) → IsAnswer rom cert a → IsOutcome (outcome_of a) rom cert
verify_bytes_outcome rom cert (answer.Cartridge f) h = ap outcome_of (of_files rom cert _ h (λ m. cc))
verify_bytes_outcome rom cert (answer.Certificate fault.Memory) h = memory_readable rom cert h
verify_bytes_outcome rom cert (answer.Certificate fault.CutShort) h = ap outcome_of (of_files rom cert _ h (λ m. cc))
verify_bytes_outcome rom cert (answer.Certificate fault.Magic) h = ap outcome_of (of_files rom cert _ h (λ m. cc))
verify_bytes_outcome rom cert (answer.Certificate fault.Version) h = ap outcome_of (of_files rom cert _ h (λ m. cc))
verify_bytes_outcome rom cert (answer.Certificate fault.Count) h = ap outcome_of (of_files rom cert _ h (λ m. cc))
verify_bytes_outcome rom cert (answer.Certificate fault.Field) h = ap outcome_of (of_files rom cert _ h (λ m. cc))
verify_bytes_outcome rom cert (answer.Certificate fault.Order) h = ap outcome_of (of_files rom cert _ h (λ m. cc))
verify_bytes_outcome rom cert (answer.Certificate fault.Region) h = ap outcome_of (of_files rom cert _ h (λ m. cc))
verify_bytes_outcome rom cert (answer.Certificate fault.LeftOver) h = ap outcome_of (of_files rom cert _ h (λ m. cc))
verify_bytes_outcome rom cert (answer.Judged (Accepted nodes procedures)) h = ap outcome_of (of_files rom cert _ h (λ m. cc))
verify_bytes_outcome rom cert (answer.Judged (Refused i r)) h = ap outcome_of (of_files rom cert _ h (λ m. cc))

pub verify_bytes_beginning : (old new : Option (List ℕ)) (rom cert : List ℕ) (a : Answer) → IsAnswer rom cert a → GainsBeginning old (answer_text a) new → HasBeginning old rom cert new
verify_bytes_beginning old new rom cert a (inl e) g = inl (subst (λ b. GainsBeginning old (answer_text b) new) e g)
verify_bytes_beginning old new rom cert a (inr m) g = inr (m.1, subst (λ b. GainsBeginning old (answer_text b) new) m.0 g)

pub verify_bytes_accepted : (P : Type 0) (a : Answer) → IfAcceptedAnswer a P → IfVerified (outcome_of a) P
verify_bytes_accepted P (answer.Cartridge f) h = tt
verify_bytes_accepted P (answer.Certificate fault.Memory) h = tt
verify_bytes_accepted P (answer.Certificate _) h = tt
verify_bytes_accepted P (answer.Judged (Accepted nodes procedures)) h = h
verify_bytes_accepted P (answer.Judged (Refused i r)) h = tt
