-- An upgrade, from its parts.
use Rattle.std.proofs.Common.{◌≡◌, ℕ, ◌+◌, Bool, true, false, nat_lt, ◌==◌, List, ◌++◌, drop, slice_get, Option, Some, Ok, Err, inl, inr, refl, sym, ◌∙◌, ap, subst, arith}
use Rattle.std.proofs.lemmas.Bool.Decides.{nat_tests}
use Rattle.std.specs.List.{flat_map}
use Rattle.std.proofs.lemmas.List.{drop_more}
use Rattle.std.proofs.lemmas.Option.{slice_get_within, get_or_from_slice_get}
use Rattle.gb_rules.specs.Below.gb_fields.declared.fault.CertFault.{CertFault}
use Rattle.gb_rules.specs.Below.gb_fields.declared.fault.CertFault.TheVariants as fault
use Rattle.gb_rules.specs.Below.gb_fields.Format.{GivesUnlessMemory}
use Rattle.gb_rules.specs.Below.gb_domain.Types.{ProcedureParts}
use Rattle.gb_rules.specs.Below.gb_domain.Certificate.{Certificate}
use Rattle.gb_rules.specs.Below.gb_domain.Limits.{rules_of}
use Rattle.gb_rules.specs.Below.gb_domain.declared.rules.Rules.{Rules}
use Rattle.gb_rules.specs.Below.gb_domain.declared.rules.Rules.TheVariants.{Simple, Extended}
use Rattle.gb_rules.specs.Below.gb_fields.Rules.{is_any_version}
use Rattle.gb_rules.specs.Below.gb_states.Rules as older
use Rattle.gb_rules.specs.Below.gb_states.WholeRules.{form_in, procedure_forms, IsCertificate}
use Rattle.gb_rules.specs.Below.gb_states.WholeSpelling as whole
use Rattle.gb_rules.specs.Below.gb_states.WholeReading.{read_certificate}
use Rattle.gb_rules.specs.Below.gb_states.Spelling as spelled
use Rattle.gb_rules.specs.Below.gb_states.WholeSpelling.{Spells}
use Rattle.gb_rules.specs.Below.gb_cert.Places.{upgraded_version}
use Rattle.gb_rules.proofs.Below.gb_cert_laws.OlderBodies.{upgraded as is_upgraded}
use Rattle.gb_rules.proofs.Below.gb_cert_laws.OlderLaws.{any_certificate, older_certificate, spelled_older}
use Rattle.gb_text.specs.Sink.{Gains}
use Rattle.gb_text.specs.Text.{GainsBeginning}
use Rattle.gb_text.proofs.Gained.{gains_both, begins_first, begins_second}
use Rattle.gb_text.proofs.Remaining.{Remains, remains_less, remains_cut}
use Rattle.gb_verify.specs.Text.{certificate_text}
use Rattle.gb_verify.specs.CertificateFile.{text_of, HasBeginning}
use Rattle.gb_verify.specs.Upgrade.{is_before, text_in, upgraded, upgraded_text, upgraded_to, written, fault_outcome, GainsUpgrade}
use Rattle.gb_verify.specs.Widened.{widened, widened_by}
use Rattle.gb_verify.specs.declared.upgrade.UpgradeTo.{UpgradeTo}
use Rattle.gb_verify.specs.declared.upgrade.UpgradeTo.TheVariants.{Two, Three}
use Rattle.gb_verify.proofs.WidenedLaws.{is_widened}
use Rattle.gb_verify.specs.declared.upgrade.Upgraded.TheVariants as upgrade
use Rattle.gb_verify.proofs.FileLaws.{text_of-fault, memory_or_other, certificate_written, certificate_begins}

-- ---- procedures, one after another

procedures_left : (version : ℕ) (ps : List ProcedureParts) (i : ℕ) (p : ProcedureParts) → slice_get ps i ≡ Some p
    → flat_map (spelled.procedure version) (drop i ps) ≡ spelled.procedure version p ++ flat_map (spelled.procedure version) (drop (i + 1) ps)
procedures_left version ps i p h =
    ap (flat_map (spelled.procedure version)) (drop_more ps i p (slice_get_within ps i p h))
    ∙ ap (λ q. spelled.procedure version q ++ flat_map (spelled.procedure version) (drop (i + 1) ps)) (get_or_from_slice_get ps i p p h)

pub procedure_taken : (version : ℕ) (old mid new : Option (List ℕ)) (text : List ℕ) (ps : List ProcedureParts) (i : ℕ) (p : ProcedureParts) → slice_get ps i ≡ Some p
    → Remains old text mid (flat_map (spelled.procedure version) (drop i ps)) → Gains mid (spelled.procedure version p) new → Remains old text new (flat_map (spelled.procedure version) (drop (i + 1) ps))
procedure_taken version old mid new text ps i p h r g = remains_less old mid new text _ _ (subst (λ t. Remains old text mid t) (procedures_left version ps i p h) r) g

pub procedure_cut : (version : ℕ) (old mid new : Option (List ℕ)) (text : List ℕ) (ps : List ProcedureParts) (i : ℕ) (p : ProcedureParts) → slice_get ps i ≡ Some p
    → Remains old text mid (flat_map (spelled.procedure version) (drop i ps)) → GainsBeginning mid (spelled.procedure version p) new → GainsBeginning old text new
procedure_cut version old mid new text ps i p h r g = remains_cut old mid new text _ _ (subst (λ t. Remains old text mid t) (procedures_left version ps i p h) r) g

-- ---- what an upgrade changes: the version, and how numbers of nodes are spelled

upgraded_rules : (version : ℕ) → rules_of (upgraded_version version) ≡ rules_of version
unfolding upgraded_version rules_of
upgraded_rules version = grind (arith, nat_tests)

upgraded_is : (version : ℕ) → (upgraded_version version == 1) ≡ false
unfolding upgraded_version
upgraded_is version = grind (arith, nat_tests)

-- a procedure in its two parts
procedure_parts : (version : ℕ) (p : ProcedureParts) (body : List ℕ) → body ≡ spelled.body (rules_of version) p
    → spelled.node_number 2 p.entry ++ body ≡ spelled.procedure (upgraded_version version) p
unfolding spelled.procedure spelled.node_number
procedure_parts version p body h =
    ap (λ b. spelled.node_number 2 p.entry ++ b) (h ∙ ap (λ rules. spelled.body rules p) (sym (upgraded_rules version)))
    ∙ ap (λ b. spelled.node_number_by b p.entry ++ spelled.body (rules_of (upgraded_version version)) p) (sym (upgraded_is version))

pub procedure_whole : (version : ℕ) (p : ProcedureParts) (entry body : List ℕ) (old mid new : Option (List ℕ)) → entry ≡ spelled.node_number 2 p.entry → body ≡ spelled.body (rules_of version) p
    → Gains old entry mid → Gains mid body new → Gains old (spelled.procedure (upgraded_version version) p) new
procedure_whole version p entry body old mid new e h f g = subst (λ t. Gains old t new) (ap (λ b. b ++ body) e ∙ procedure_parts version p body h) (gains_both old mid new entry body f g)

pub procedure_begun : (version : ℕ) (p : ProcedureParts) (entry body : List ℕ) (old new : Option (List ℕ)) → entry ≡ spelled.node_number 2 p.entry → body ≡ spelled.body (rules_of version) p
    → GainsBeginning old entry new → GainsBeginning old (spelled.procedure (upgraded_version version) p) new
procedure_begun version p entry body old new e h f = subst (λ t. GainsBeginning old t new) (ap (λ b. b ++ body) e ∙ procedure_parts version p body h) (begins_first old new entry body f)

pub procedure_entered : (version : ℕ) (p : ProcedureParts) (entry body : List ℕ) (old mid new : Option (List ℕ)) → entry ≡ spelled.node_number 2 p.entry → body ≡ spelled.body (rules_of version) p
    → Gains old entry mid → GainsBeginning mid body new → GainsBeginning old (spelled.procedure (upgraded_version version) p) new
procedure_entered version p entry body old mid new e h f g = subst (λ t. GainsBeginning old t new) (ap (λ b. b ++ body) e ∙ procedure_parts version p body h) (begins_second old mid new entry body f g)

-- all procedures of the upgraded certificate
abbrev procedures_text : Certificate → List ℕ
procedures_text c = flat_map (spelled.procedure (upgraded_version c.version)) c.procedures

-- all nodes, which an upgrade leaves as they are
abbrev nodes_text : Certificate → List ℕ
nodes_text c = whole.nodes c.version c.region c.procedures c.nodes

-- the rules of versions 1 and 2 aren't those of version 4
pub not_fourth : (version : ℕ) → rules_of version ≡ Simple → (version == 4) ≡ false
unfolding rules_of
not_fourth version simple = grind (arith, nat_tests)

upgraded_not_fourth : (version : ℕ) → (version == 4) ≡ false → (upgraded_version version == 4) ≡ false
unfolding upgraded_version
upgraded_not_fourth version h = grind (arith, nat_tests)

-- a certificate of version 1, 2 or 3 in its three parts
certificate_parts : (c : Certificate) (head nodes : List ℕ) → (c.version == 4) ≡ false → head ≡ spelled.head (upgraded c) → nodes ≡ nodes_text c → head ++ (procedures_text c ++ nodes) ≡ upgraded_text c
unfolding spelled.spelling
certificate_parts c head nodes older e h =
    ap (λ b. b ++ (procedures_text c ++ nodes)) e
    ∙ ap (λ b. spelled.head (upgraded c) ++ (procedures_text c ++ b))
    (h ∙ (ap (λ (b : Bool). flat_map (whole.node_by b c.version c.region (form_in (procedure_forms c.procedures))) c.nodes) older ∙ ap (λ rules. flat_map (spelled.node rules) c.nodes) (sym (upgraded_rules c.version))))
    ∙ sym (spelled_older (upgraded c) (upgraded_not_fourth c.version older))

pub certificate_whole : (c : Certificate) (head nodes : List ℕ) (old first mid new : Option (List ℕ)) → (c.version == 4) ≡ false → head ≡ spelled.head (upgraded c) → nodes ≡ nodes_text c
    → Gains old head first → Gains first (procedures_text c) mid → Gains mid nodes new → Gains old (upgraded_text c) new
certificate_whole c head nodes old first mid new older e h f g i =
    subst (λ t. Gains old t new) (certificate_parts c head nodes older e h) (gains_both old first new head (procedures_text c ++ nodes) f (gains_both first mid new (procedures_text c) nodes g i))

pub certificate_begun : (c : Certificate) (head : List ℕ) (old new : Option (List ℕ)) → (c.version == 4) ≡ false → head ≡ spelled.head (upgraded c) → GainsBeginning old head new → GainsBeginning old (upgraded_text c) new
certificate_begun c head old new older e f =
    subst (λ t. GainsBeginning old t new) (certificate_parts c head (nodes_text c) older e refl) (begins_first old new head (procedures_text c ++ nodes_text c) f)

pub certificate_headed : (c : Certificate) (head : List ℕ) (old first new : Option (List ℕ)) → (c.version == 4) ≡ false → head ≡ spelled.head (upgraded c)
    → Gains old head first → GainsBeginning first (procedures_text c) new → GainsBeginning old (upgraded_text c) new
certificate_headed c head old first new older e f g =
    subst (λ t. GainsBeginning old t new) (certificate_parts c head (nodes_text c) older e refl)
    (begins_second old first new head (procedures_text c ++ nodes_text c) f (begins_first first new (procedures_text c) (nodes_text c) g))

pub certificate_numbered : (c : Certificate) (head nodes : List ℕ) (old first mid new : Option (List ℕ)) → (c.version == 4) ≡ false → head ≡ spelled.head (upgraded c) → nodes ≡ nodes_text c
    → Gains old head first → Gains first (procedures_text c) mid → GainsBeginning mid nodes new → GainsBeginning old (upgraded_text c) new
certificate_numbered c head nodes old first mid new older e h f g i =
    subst (λ t. GainsBeginning old t new) (certificate_parts c head nodes older e h)
    (begins_second old first new head (procedures_text c ++ nodes) f (begins_second first mid new (procedures_text c) nodes g i))

-- ---- a certificate in the version that is asked for

not_first : (version : ℕ) → rules_of version ≡ Extended → (version == 1) ≡ false
unfolding rules_of
not_first version later = grind (arith, nat_tests)

fourth_extended : (version : ℕ) → (version == 4) ≡ true → rules_of version ≡ Extended
unfolding rules_of
fourth_extended version h = grind (arith, nat_tests)

later_stays : (version : ℕ) → rules_of version ≡ Extended → upgraded_version version ≡ version
unfolding upgraded_version
later_stays version later = rw (not_first version later) refl

-- one of version 3 or 4 stays what it is
kept_as_it_is : (to : UpgradeTo) (c : Certificate) → rules_of c.version ≡ Extended → text_in to c ≡ whole.spelling c
kept_as_it_is Two c later = ap (λ version. whole.spelling (record c { version = version })) (later_stays c.version later)
kept_as_it_is Three c later = sym (ap (λ rules. whole.spelling (widened_by rules c)) (sym later))

pub same_written : (to : UpgradeTo) (c : Certificate) (bytes : List ℕ) (old new : Option (List ℕ)) → rules_of c.version ≡ Extended → Spells bytes c → Gains old bytes new → Gains old (text_in to c) new
same_written to c bytes old new later s g = subst (λ t. Gains old t new) (s.is_spelling ∙ sym (kept_as_it_is to c later)) g

pub same_begun : (to : UpgradeTo) (c : Certificate) (bytes : List ℕ) (old new : Option (List ℕ)) → rules_of c.version ≡ Extended → Spells bytes c → GainsBeginning old bytes new → GainsBeginning old (text_in to c) new
same_begun to c bytes old new later s g = subst (λ t. GainsBeginning old t new) (s.is_spelling ∙ sym (kept_as_it_is to c later)) g

-- one of version 1 or 2 is widened
pub widened_is : (c : Certificate) → rules_of c.version ≡ Simple → spelled.spelling (widened c) ≡ text_in Three c
widened_is c simple =
    ap (λ rules. spelled.spelling (widened_by rules c)) simple
    ∙ (sym (spelled_older (widened_by Simple c) refl) ∙ ap (λ rules. whole.spelling (widened_by rules c)) (sym simple))

pub widened_written : (c : Certificate) (old new : Option (List ℕ)) → rules_of c.version ≡ Simple → Gains old (spelled.spelling (widened c)) new → Gains old (text_in Three c) new
widened_written c old new simple g = subst (λ t. Gains old t new) (widened_is c simple) g

pub widened_begun : (c : Certificate) (old new : Option (List ℕ)) → rules_of c.version ≡ Simple → GainsBeginning old (spelled.spelling (widened c)) new → GainsBeginning old (text_in Three c) new
widened_begun c old new simple g = subst (λ t. GainsBeginning old t new) (widened_is c simple) g

-- its rules are those of versions 1 to 3
pub older_of : (c : Certificate) → IsCertificate c → rules_of c.version ≡ Simple → older.IsCertificate c
older_of c h simple = older_certificate c h (not_fourth c.version simple)

-- ---- an upgrade

pub upgrade_written : (to : UpgradeTo) (old new : Option (List ℕ)) (bytes : List ℕ) (c : Certificate) → read_certificate bytes ≡ Ok c → Gains old (text_in to c) new
    → Gains old (text_of (text_in to) bytes) new
upgrade_written to old new bytes c h g = certificate_written (text_in to) old new bytes c h g

pub upgrade_begins : (to : UpgradeTo) (old new : Option (List ℕ)) (bytes : List ℕ) (c : Certificate) → read_certificate bytes ≡ Ok c → GainsBeginning old (text_in to c) new
    → HasBeginning (text_in to) old bytes new
upgrade_begins to old new bytes c h g = certificate_begins (text_in to) old new bytes c h g

-- an upgrade is a certificate
is_upgraded_any : (c : Certificate) → IsCertificate c → IsCertificate (upgraded c)
is_upgraded_any c h = by (c.version == 4) refl
  where
    by : (b : Bool) → (c.version == 4) ≡ b → IsCertificate (upgraded c)
    by true e = subst (λ version. IsCertificate (record c { version = version })) (sym (later_stays c.version (fourth_extended c.version e))) h
    by false e = is_upgraded c h e

is_upgrade : (to : UpgradeTo) (c : Certificate) → IsCertificate c → IsCertificate (upgraded_to to c)
is_upgrade Two c h = is_upgraded_any c h
is_upgrade Three c h = by (rules_of c.version) refl
  where
    by : (rules : Rules) → rules_of c.version ≡ rules → IsCertificate (widened_by (rules_of c.version) c)
    by Simple e = any_certificate (widened c) (is_widened c (older_of c h e))
    by Extended e = subst (λ rules. IsCertificate (widened_by rules c)) (sym e) h

pub upgrade_gained : (to : UpgradeTo) (old new : Option (List ℕ)) (bytes : List ℕ) (c : Certificate) → Spells bytes c → Gains old (text_in to c) new → GainsUpgrade to old bytes new
upgrade_gained to old new bytes c h g = record {
  text = text_in to c;
  is_upgrade = record {
    certificate = c;
    before = h;
    after = record { is_certificate = is_upgrade to c h.is_certificate; is_spelling = refl };
  };
  gained = g;
}

-- ---- one that isn't of an earlier version

not_1 : (version : ℕ) → nat_lt version 2 ≡ false → (version == 1) ≡ false
not_1 version h = grind (arith, nat_tests)

kept_version : (version : ℕ) → nat_lt version 2 ≡ false → upgraded_version version ≡ version
unfolding upgraded_version
kept_version version h = rw (not_1 version h) refl

is_later : (version : ℕ) → is_any_version version ≡ true → nat_lt version 3 ≡ false → rules_of version ≡ Extended
unfolding rules_of
is_later version h later = grind (arith, nat_tests)

kept_text : (to : UpgradeTo) (c : Certificate) → IsCertificate c → is_before to c.version ≡ false → text_in to c ≡ whole.spelling c
kept_text Two c h later =
    let with : ℕ → Certificate = λ version. record c { version = version } in
    ap (λ version. whole.spelling (with version)) (kept_version c.version later)
kept_text Three c h later = kept_as_it_is Three c (is_later c.version h.version later)

same_ok : (a b : Certificate) → GivesUnlessMemory {X = Certificate} (λ c. c) (Ok b) (Ok a) → a ≡ b
same_ok a b h = cc

pub upgrade_same : (to : UpgradeTo) (old new : Option (List ℕ)) (bytes : List ℕ) (c other : Certificate) → Spells bytes other → GivesUnlessMemory {X = Certificate} (λ d. d) (Ok c) (Ok other) → is_before to other.version ≡ false
    → Gains old (text_in to c) new → Gains old bytes new
upgrade_same to old new bytes c other s e later g =
    subst (λ t. Gains old t new) (sym s.is_spelling) (subst (λ t. Gains old t new) (kept_text to other s.is_certificate later) (subst (λ d. Gains old (text_in to d) new) (sym (same_ok other c e)) g))

-- ---- no certificate

other_is_unreadable : (f : CertFault) → (f ≡ fault.Memory → ⊥) → fault_outcome f ≡ upgrade.Unreadable
other_is_unreadable fault.Memory other = absurd (other refl)
other_is_unreadable _ other = refl

pub fault_written : (to : UpgradeTo) (bytes : List ℕ) (f : CertFault) → ((f ≡ fault.Memory → ⊥) → read_certificate bytes ≡ Err f) → certificate_text f ≡ written to (fault_outcome f) bytes
fault_written to bytes f h = elim (memory_or_other f) [
  | inl memory ↦ subst (λ e. certificate_text e ≡ written to (fault_outcome e) bytes) (sym memory) refl
  | inr other ↦ text_of-fault (text_in to) bytes f (h other) ∙ ap (λ o. written to o bytes) (sym (other_is_unreadable f other))
]
