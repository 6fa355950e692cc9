-- What is written of a certificate's file: the certificate's text, or the line of a fault.
use Rattle.std.proofs.Common.{◌≡◌, ℕ, List, Option, Result, Ok, Err, ◌⊎◌, inl, inr, refl, sym, ap, subst}
use Rattle.std.specs.Result.{OnOk, OnErr}
use Rattle.gb_rules.specs.Below.gb_fields.declared.fault.CertFault.{CertFault}
use Rattle.gb_rules.specs.Below.gb_fields.declared.fault.CertFault.TheVariants as fault
use Rattle.gb_rules.specs.Below.gb_domain.Certificate.{Certificate}
use Rattle.gb_rules.specs.Below.gb_states.WholeReading.{read_certificate}
use Rattle.gb_text.specs.Sink.{Gains}
use Rattle.gb_text.specs.Text.{GainsBeginning}
use Rattle.gb_verify.specs.Text.{certificate_text}
use Rattle.gb_verify.specs.CertificateFile.{text_or_fault, text_of, HasBeginning}

-- where there is an error, P
pub on_err : {T E P : Type 0} (r : Result T E) → P → OnErr r P
on_err (Ok x) p = tt
on_err (Err e) p = p

-- what follows from that
pub when_ok : {T E P Q : Type 0} (r : Result T E) → (P → Q) → OnOk r P → OnOk r Q
when_ok (Ok x) f p = f p
when_ok (Err e) f p = tt

pub when_err : {T E P Q : Type 0} (r : Result T E) → (P → Q) → OnErr r P → OnErr r Q
when_err (Ok x) f p = tt
when_err (Err e) f p = f p

pub text_of-certificate : (text : Certificate → List ℕ) (bytes : List ℕ) (c : Certificate) → read_certificate bytes ≡ Ok c → text c ≡ text_of text bytes
unfolding text_of
text_of-certificate text bytes c h = ap (text_or_fault text) (sym h)

pub text_of-fault : (text : Certificate → List ℕ) (bytes : List ℕ) (f : CertFault) → read_certificate bytes ≡ Err f → certificate_text f ≡ text_of text bytes
unfolding text_of
text_of-fault text bytes f h = ap (text_or_fault text) (sym h)

-- memory ran out, or another fault was met
pub memory_or_other : (f : CertFault) → (f ≡ fault.Memory) ⊎ (f ≡ fault.Memory → ⊥)
memory_or_other fault.CutShort = inr (λ m. cc)
memory_or_other fault.Magic = inr (λ m. cc)
memory_or_other fault.Version = inr (λ m. cc)
memory_or_other fault.Count = inr (λ m. cc)
memory_or_other fault.Field = inr (λ m. cc)
memory_or_other fault.Order = inr (λ m. cc)
memory_or_other fault.Region = inr (λ m. cc)
memory_or_other fault.LeftOver = inr (λ m. cc)
memory_or_other fault.Memory = inl refl

pub fault_begins : (text : Certificate → List ℕ) (old new : Option (List ℕ)) (bytes : List ℕ) (f : CertFault) → ((f ≡ fault.Memory → ⊥) → read_certificate bytes ≡ Err f)
    → GainsBeginning old (certificate_text f) new → HasBeginning text old bytes new
fault_begins text old new bytes f h g = elim (memory_or_other f) [
  | inl memory ↦ inr (subst (λ e. GainsBeginning old (certificate_text e) new) memory g)
  | inr other ↦ inl (subst (λ t. GainsBeginning old t new) (text_of-fault text bytes f (h other)) g)
]

pub certificate_written : (text : Certificate → List ℕ) (old new : Option (List ℕ)) (bytes : List ℕ) (c : Certificate) → read_certificate bytes ≡ Ok c → Gains old (text c) new
    → Gains old (text_of text bytes) new
certificate_written text old new bytes c h g = subst (λ t. Gains old t new) (text_of-certificate text bytes c h) g

pub certificate_begins : (text : Certificate → List ℕ) (old new : Option (List ℕ)) (bytes : List ℕ) (c : Certificate) → read_certificate bytes ≡ Ok c → GainsBeginning old (text c) new
    → HasBeginning text old bytes new
certificate_begins text old new bytes c h g = inl (subst (λ t. GainsBeginning old t new) (text_of-certificate text bytes c h) g)
