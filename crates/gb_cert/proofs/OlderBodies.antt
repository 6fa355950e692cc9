-- What is written of a certificate of versions 1 to 3 in a later one: the bodies of its procedures.
use Rattle.std.proofs.Common.{◌≡◌, ℕ, ◌+◌, ◌-◌, ◌≤◌, ◌<◌, Bool, true, false, ◌==◌, List, ◌++◌, length, get_or, take, drop, Option, Some, Result, Ok, Err, sym, ap, ◌∙◌, subst, append_assoc, length-append, arith}
use Rattle.std.specs.Prelude.{slice_get, IfSome}
use Rattle.std.proofs.lemmas.Bool.Decides.{nat_tests}
use Rattle.std.proofs.Math.Seq.{take-append_seam}
use Rattle.gb_ops.specs.declared.machine.Region.{Region}
use Rattle.gb_domain.specs.declared.summary.Fact.{Fact}
use Rattle.gb_domain.specs.Limits.{rules_of}
use Rattle.gb_domain.specs.Rules.{IsChain}
use Rattle.gb_domain.specs.Types.{ProcedureParts}
use Rattle.gb_domain.specs.Certificate.{Certificate}
use Rattle.gb_states.specs.declared.form.ProcedureForm.{ProcedureForm}
use Rattle.gb_states.specs.Below.gb_fields.declared.fault.CertFault.{CertFault}
use Rattle.gb_states.specs.Below.gb_fields.Format.{go_on}
use Rattle.gb_states.specs.Below.gb_fields.Limits.{node_limit}
use Rattle.gb_states.specs.Below.gb_fields.Reading.{node_number}
use Rattle.gb_states.specs.Reading.{Body, body_at}
use Rattle.gb_states.specs.Rules as rules
use Rattle.gb_states.specs.Rules.{is_version, is_after, key, IsProcedure, IsNode}
use Rattle.gb_states.specs.WholeRules.{IsProcedureBy, IsCertificate}
use Rattle.gb_states.specs.Spelling as spelled
use Rattle.gb_states.specs.WholeSpelling as whole
use Rattle.gb_cert.specs.Skipping.{skipped}
use Rattle.gb_cert.specs.Places.{IsLaid, upgraded_version}
use Rattle.gb_states.proofs.Formats.{same_pair}
use Rattle.gb_states.proofs.FieldLaws.{last_small, IsFormat-node_number}
use Rattle.gb_states.proofs.StateLaws.{IsFormat-body, body-is, number_small, limit_bound}
use Rattle.gb_cert.proofs.Placing.{at-each}
use Rattle.gb_cert.proofs.Lending.{some-at}
use Rattle.gb_cert.proofs.OlderLaws.{any_certificate, older_certificate}
use Rattle.gb_cert.proofs.ProcedureLending.{is-first, chain-first}

abbrev body_of : ProcedureParts → Body
body_of p = (p.base, (p.need, (p.ranges, p.exit)))

-- The entry of a procedure is read, and its other parts stand behind it.
record BodyStands (version : ℕ) (is_main : Bool) (region : Region) (bytes : List ℕ) (p : ProcedureParts) : Type 0 where
  pub tail : List ℕ
  pub entry : node_number version bytes ≡ Ok (p.entry, spelled.body (rules_of version) p ++ tail)
  pub body : body_at (rules_of version) is_main region (spelled.body (rules_of version) p ++ tail) ≡ Ok (body_of p, tail)

record IsThere (version : ℕ) (region : Region) (place : List ℕ) (c : Certificate) (i : ℕ) : Type 0 where
  pub p : ProcedureParts
  pub at : slice_get c.procedures i ≡ Some p
  pub stands : BodyStands version (i == 0) region place p

body-there : (bytes : List ℕ) (version : ℕ) (region : Region) (facts : List Fact) (forms : List ProcedureForm) (procedures nodes : List ℕ) (c : Certificate) (i : ℕ) → IsLaid bytes version region facts forms procedures nodes c → (c.version == 4) ≡ false → i < length c.procedures → IsThere version region (drop (get_or procedures i 0) bytes) c i
unfolding spelled.procedure spelled.body
body-there bytes version region facts forms procedures nodes c i laid older lt =
    let s = some-at c.procedures i lt in
    let p = s.0 in
    let whole_rules = laid.spells.is_certificate in
    let at = at-each (whole.procedure_by (c.version == 4) c.version c.region) bytes (whole.nodes c.version c.region c.procedures c.nodes) procedures c.procedures i p laid.procedures_at s.1 in
    let first = chain-first (c.version == 4) c.version (length c.facts) c.region (length c.nodes) true c.procedures i p whole_rules.procedures s.1 in
    let any = subst (λ (m : Bool). IsProcedureBy (c.version == 4) c.version (length c.facts) c.region (length c.nodes) m p) (is-first i) first in
    let is : IsProcedure (rules_of c.version) c.region (length c.nodes) (i == 0) p = subst (λ (b : Bool). IsProcedureBy b c.version (length c.facts) c.region (length c.nodes) (i == 0) p) older any in
    let few : p.entry ≤ length c.nodes = omega (arith, is.entry) in
    let number = number_small c.version p.entry (omega (arith, few, whole_rules.node_count)) in
    let small = last_small c.region.first c.region.last whole_rules.region.area in
    let body : List ℕ = spelled.body (rules_of c.version) p in
    let parts : drop (get_or procedures i 0) bytes ≡ spelled.procedure c.version p ++ at.tail = at.parts ∙ ap (λ (b : Bool). whole.procedure_by b c.version c.region p ++ at.tail) older in
    let made : BodyStands c.version (i == 0) c.region (drop (get_or procedures i 0) bytes) p = record {
      tail = at.tail;
      entry = ap (node_number c.version) (parts ∙ append_assoc (spelled.node_number c.version p.entry) body at.tail) ∙ (IsFormat-node_number c.version).again p.entry (body ++ at.tail) number;
      body = (IsFormat-body (rules_of c.version) (i == 0) c.region small).again (body_of p) at.tail (body-is (rules_of c.version) c.region (length c.nodes) (i == 0) p is);
    } in
    let versioned = subst (λ v. BodyStands v (i == 0) c.region (drop (get_or procedures i 0) bytes) p) (sym laid.version_is) made in
    record { p = p; at = s.1; stands = subst (λ r. BodyStands version (i == 0) r (drop (get_or procedures i 0) bytes) p) (sym laid.region_is) versioned }

left_is : (a b : List ℕ) → (let r : Result (List ℕ) CertFault = Ok a in r) ≡ Ok b → a ≡ b
left_is a b e = cc

no-error : {r : Result (List ℕ) CertFault} (rest : List ℕ) (e : CertFault) → r ≡ Ok rest → r ≡ Err e → ⊥
no-error rest e f g = cc

-- The body that was found is passed over up to the tail.
record IsPassed (version : ℕ) (is_main : Bool) (region : Region) (body : List ℕ) (p : ProcedureParts) : Type 0 where
  pub tail : List ℕ
  pub parts : body ≡ spelled.body (rules_of version) p ++ tail
  pub passed : skipped (body_at (rules_of version) is_main region) body ≡ Ok tail

body-passes : (version : ℕ) (is_main : Bool) (region : Region) (place body : List ℕ) (entry : ℕ) (p : ProcedureParts) → BodyStands version is_main region place p → node_number version place ≡ Ok (entry, body) → IsPassed version is_main region body p
body-passes version is_main region place body entry p h right =
    let rest : List ℕ = spelled.body (rules_of version) p ++ h.tail in
    let q = same_pair p.entry entry rest body (sym h.entry ∙ right) in
    let passed : skipped (body_at (rules_of version) is_main region) (spelled.body (rules_of version) p ++ h.tail) ≡ Ok h.tail = ap (λ (r : Result (Body × List ℕ) CertFault). go_on r (λ x rest. (let o : Result (List ℕ) CertFault = Ok rest in o))) h.body in
    record { tail = h.tail; parts = sym q.1; passed = ap (skipped (body_at (rules_of version) is_main region)) (sym q.1) ∙ passed }

-- where a procedure's body stands it is before what is left behind it
pub body-lent :
    (bytes : List ℕ) (version : ℕ) (region : Region) (facts : List Fact) (forms : List ProcedureForm) (procedures nodes : List ℕ) (c : Certificate) (i entry : ℕ) (body behind : List ℕ) → IsLaid bytes version region facts forms procedures nodes c → (c.version == 4) ≡ false → i < length c.procedures
    → node_number version (drop (get_or procedures i 0) bytes) ≡ Ok (entry, body) → skipped (body_at (rules_of version) (i == 0) region) body ≡ Ok behind
    → (length behind ≤ length body) × IfSome (slice_get c.procedures i) (λ p. take (length body - length behind) body ≡ spelled.body (rules_of version) p)
body-lent bytes version region facts forms procedures nodes c i entry body behind laid older lt right e =
    let s = body-there bytes version region facts forms procedures nodes c i laid older lt in
    let p = s.p in
    let k = body-passes version (i == 0) region (drop (get_or procedures i 0) bytes) body entry p s.stands right in
    let same : k.tail ≡ behind = left_is k.tail behind (sym k.passed ∙ e) in
    let spelling : List ℕ = spelled.body (rules_of version) p in
    let long : length body ≡ length (spelled.body (rules_of version) p) + length behind = ap length k.parts ∙ length-append (spelled.body (rules_of version) p) k.tail ∙ ap (λ (t : List ℕ). length (spelled.body (rules_of version) p) + length t) same in
    let front : length body - length behind ≡ length (spelled.body (rules_of version) p) = omega (arith, long) in
    let is : take (length body - length behind) body ≡ spelled.body (rules_of version) p =
    ap (λ (n : ℕ). take n body) front ∙ ap (λ (b : List ℕ). take (length (spelled.body (rules_of version) p)) b) k.parts ∙ take-append_seam (spelled.body (rules_of version) p) k.tail in
    (omega (arith, long), subst (λ (o : Option ProcedureParts). IfSome o (λ p. take (length body - length behind) body ≡ spelled.body (rules_of version) p)) (sym s.at) is)

pub body-passed :
    (bytes : List ℕ) (version : ℕ) (region : Region) (facts : List Fact) (forms : List ProcedureForm) (procedures nodes : List ℕ) (c : Certificate) (i entry : ℕ) (body : List ℕ) (e : CertFault) → IsLaid bytes version region facts forms procedures nodes c → (c.version == 4) ≡ false → i < length c.procedures
    → node_number version (drop (get_or procedures i 0) bytes) ≡ Ok (entry, body) → skipped (body_at (rules_of version) (i == 0) region) body ≡ Err e → ⊥
body-passed bytes version region facts forms procedures nodes c i entry body e laid older lt right wrong =
    let s = body-there bytes version region facts forms procedures nodes c i laid older lt in
    let k = body-passes version (i == 0) region (drop (get_or procedures i 0) bytes) body entry s.p s.stands right in
    no-error k.tail e k.passed wrong

-- ---- the head

-- a version's rules stay
upgraded_rules : (version : ℕ) → is_version version ≡ true → (rules_of (upgraded_version version) ≡ rules_of version) × (is_version (upgraded_version version) ≡ true)
unfolding upgraded_version rules_of
upgraded_rules version h = grind (arith, nat_tests)

upgraded-not : (version : ℕ) → (upgraded_version version == 1) ≡ false
unfolding upgraded_version
upgraded-not version = grind (arith, nat_tests)

upgraded_limit : (version n : ℕ) → n ≤ node_limit version → n ≤ node_limit (upgraded_version version)
unfolding node_limit
upgraded_limit version n h = rw (upgraded-not version) (limit_bound version n h)

older-upgraded : (c : Certificate) → rules.IsCertificate c → rules.IsCertificate (record c { version = upgraded_version c.version })
older-upgraded c h =
    let r = upgraded_rules c.version h.version in
    record {
      version = r.1;
      region = h.region;
      whole = rw r.0 h.whole;
      some_procedure = h.some_procedure;
      procedure_count = h.procedure_count;
      some_node = h.some_node;
      node_count = upgraded_limit c.version (length c.nodes) h.node_count;
      procedures = subst (λ rules. IsChain (IsProcedure rules c.region (length c.nodes)) is_after true c.procedures) (sym r.0) h.procedures;
      nodes = subst (λ rules. IsChain (IsNode rules c.region (length c.procedures)) key (0, 0) c.nodes) (sym r.0) h.nodes;
      entries = h.entries;
      facts = h.facts;
    }

-- a certificate that isn't of version 1 any more
pub upgraded : (c : Certificate) → IsCertificate c → (c.version == 4) ≡ false → IsCertificate (record c { version = upgraded_version c.version })
upgraded c h older = any_certificate (record c { version = upgraded_version c.version }) (older-upgraded c (older_certificate c h older))
