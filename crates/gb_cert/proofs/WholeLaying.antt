-- What walking over a certificate of any version finds is the certificate that reading gives.
use Rattle.std.proofs.Common.{◌≡◌, ℕ, suc, ◌<◌, Bool, true, false, ◌==◌, List, [], ◌∷◌, ◌++◌, length, Option, Some, None, Result, Ok, Err, refl, sym, ap, ◌∙◌, subst, arith, append-nil}
use Rattle.std.specs.List.{flat_map}
use Rattle.std.proofs.lemmas.Bool.Decides.{nat_tests}
use Rattle.gb_states.specs.Below.gb_fields.declared.fault.CertFault.{CertFault}
use Rattle.gb_states.specs.Below.gb_fields.declared.fault.CertFault.TheVariants as fault
use Rattle.gb_states.specs.Below.gb_fields.declared.head.Head.{Head}
use Rattle.gb_states.specs.Below.gb_fields.Format.{Read, go_on, if_faultless, several, ended}
use Rattle.gb_states.specs.Below.gb_fields.Limits.{node_limit}
use Rattle.gb_states.specs.Below.gb_fields.Reading.{any_head_at}
use Rattle.gb_ops.specs.declared.machine.Region.{Region}
use Rattle.gb_states.specs.declared.form.ProcedureForm.{ProcedureForm}
use Rattle.gb_states.specs.Rules.{key}
use Rattle.gb_domain.specs.declared.summary.Fact.{Fact}
use Rattle.gb_domain.specs.Types.{ProcedureParts, Node}
use Rattle.gb_domain.specs.Certificate.{Certificate}
use Rattle.gb_states.specs.WholeRules.{procedure_forms, form_in}
use Rattle.gb_states.specs.WholeReading.{facts_by, node_by, procedures_at, nodes_at, entries_fault, Parts, to_certificate, certificate_at, read_certificate}
use Rattle.gb_states.specs.WholeSpelling as spelled
use Rattle.gb_cert.specs.Places.{IsLeft, AreAt, ArePlaced, ok_or, no_certificate}
use Rattle.gb_cert.specs.Places.{forms_if, AreFormed, certificate_in, IsLaid, IsFound}
use Rattle.gb_cert.specs.Entries.{entries_fault_at}
use Rattle.gb_states.proofs.Formats.{IsBytes}
use Rattle.gb_cert.proofs.EntryLaws.{AreFound, entries-of, entries-few, keys-few}
use Rattle.gb_cert.proofs.Placing.{left-behind, bytes-left}
use Rattle.gb_cert.proofs.WholeCertificateLaws.{spelled_head, IsHead, IsFormat-head, IsFormat-facts_by, facts-few, last-of, IsFormat-procedures, AreFew, few-forms, IsFormat-nodes, found}

pub is-head : (bytes : List ℕ) (h : Head) (rest : List ℕ) → IsBytes bytes → any_head_at bytes ≡ Ok (h, rest) → IsHead h
is-head bytes h rest fit e = (IsFormat-head.takes bytes h rest fit e).is_good

pub head-left : (bytes : List ℕ) (h : Head) (rest : List ℕ) → IsBytes bytes → any_head_at bytes ≡ Ok (h, rest) → IsLeft bytes rest
head-left bytes h rest fit e = record { front = spelled_head h; parts = (IsFormat-head.takes bytes h rest fit e).parts }

pub last-small : (bytes : List ℕ) (h : Head) (rest : List ℕ) → IsBytes bytes → any_head_at bytes ≡ Ok (h, rest) → h.region.last < 65535
last-small bytes h rest fit e = last-of h (is-head bytes h rest fit e)

-- the facts are few, and bytes are left behind them
pub few-facts : (bytes : List ℕ) (h : Head) (first : List ℕ) (facts : List Fact) (second : List ℕ) → IsBytes bytes → any_head_at bytes ≡ Ok (h, first) → facts_by (h.version == 4) h.region first ≡ Ok (facts, second) → length facts < 65536
few-facts bytes h first facts second fit e g =
    facts-few (h.version == 4) h.region facts ((IsFormat-facts_by (h.version == 4) h.region).takes first facts second (bytes-left bytes first (head-left bytes h first fit e) fit) g).is_good

pub facts-left : (bytes : List ℕ) (h : Head) (first : List ℕ) (facts : List Fact) (second : List ℕ) → IsBytes bytes → any_head_at bytes ≡ Ok (h, first) → facts_by (h.version == 4) h.region first ≡ Ok (facts, second) → IsLeft bytes second
facts-left bytes h first facts second fit e g =
    let left = head-left bytes h first fit e in
    left-behind bytes first (spelled.facts_by (h.version == 4) facts) second ((IsFormat-facts_by (h.version == 4) h.region).takes first facts second (bytes-left bytes first left fit) g).parts left

pub no-head : (bytes : List ℕ) (e : CertFault) → any_head_at bytes ≡ Err e → read_certificate bytes ≡ Err e
unfolding certificate_at read_certificate
no-head bytes e h = rw h refl

pub no-facts : (bytes : List ℕ) (h : Head) (first : List ℕ) (e : CertFault) → any_head_at bytes ≡ Ok (h, first) → facts_by (h.version == 4) h.region first ≡ Err e → read_certificate bytes ≡ Err e
unfolding certificate_at read_certificate
no-facts bytes h first e g f = rw (g, f) refl

pub no-procedures : (bytes : List ℕ) (h : Head) (first : List ℕ) (facts : List Fact) (second : List ℕ) (e : CertFault) → any_head_at bytes ≡ Ok (h, first) → facts_by (h.version == 4) h.region first ≡ Ok (facts, second) → procedures_at h (length facts) second ≡ Err e → read_certificate bytes ≡ Err e
unfolding certificate_at read_certificate
no-procedures bytes h first facts second e g f k = rw (g, f, k) refl

no-nodes-of : (bytes : List ℕ) (h : Head) (first : List ℕ) (facts : List Fact) (second : List ℕ) (ps : List ProcedureParts) (third : List ℕ) (e : CertFault) → any_head_at bytes ≡ Ok (h, first) → facts_by (h.version == 4) h.region first ≡ Ok (facts, second) → procedures_at h (length facts) second ≡ Ok (ps, third)
    → nodes_at h (length facts) (procedure_forms ps) third ≡ Err e → read_certificate bytes ≡ Err e
unfolding certificate_at read_certificate
no-nodes-of bytes h first facts second ps third e g f k m = rw (g, f, k, m) refl

-- Versions 1 to 3 read nodes by no form.
nodes-of : (h : Head) (facts : ℕ) (ps : List ProcedureParts) → nodes_at h facts (forms_if (h.version == 4) ps) ≡ nodes_at h facts (procedure_forms ps)
unfolding nodes_at
nodes-of h facts ps = by (h.version == 4)
  where
    by : (b : Bool) → several (node_by b h.version facts (form_in (forms_if b ps)) h.region h.procedures) key (0, 0) h.nodes ≡ several (node_by b h.version facts (form_in (procedure_forms ps)) h.region h.procedures) key (0, 0) h.nodes
    by true = refl
    by false = refl

-- And they spell them by none.
node-of : (version : ℕ) (region : Region) (ps : List ProcedureParts) → spelled.node_by (version == 4) version region (form_in (forms_if (version == 4) ps)) ≡ spelled.node_by (version == 4) version region (form_in (procedure_forms ps))
node-of version region ps = by (version == 4)
  where
    by : (b : Bool) → spelled.node_by b version region (form_in (forms_if b ps)) ≡ spelled.node_by b version region (form_in (procedure_forms ps))
    by true = refl
    by false = refl

pub no-nodes : (bytes : List ℕ) (h : Head) (first : List ℕ) (facts : List Fact) (second procedures : List ℕ) (forms : List ProcedureForm) (third : List ℕ) (e : CertFault) → any_head_at bytes ≡ Ok (h, first) → facts_by (h.version == 4) h.region first ≡ Ok (facts, second)
    → AreFormed (h.version == 4) (spelled.procedure_by (h.version == 4) h.version h.region) bytes (procedures_at h (length facts) second) procedures forms third → nodes_at h (length facts) forms third ≡ Err e → read_certificate bytes ≡ Err e
no-nodes bytes h first facts second procedures forms third e g f a m =
    no-nodes-of bytes h first facts second a.placed.items third e g f a.placed.is_read (ap (λ (r : Read (List Node)). r third) (sym (nodes-of h (length facts) a.placed.items)) ∙ subst (λ (fs : List ProcedureForm). nodes_at h (length facts) fs third ≡ Err e) a.forms_are m)

-- each procedure names few addresses to be kept
pub forms-few : (bytes : List ℕ) (h : Head) (first : List ℕ) (facts : List Fact) (second procedures : List ℕ) (forms : List ProcedureForm) (third : List ℕ) → IsBytes bytes → any_head_at bytes ≡ Ok (h, first) → facts_by (h.version == 4) h.region first ≡ Ok (facts, second)
    → AreFormed (h.version == 4) (spelled.procedure_by (h.version == 4) h.version h.region) bytes (procedures_at h (length facts) second) procedures forms third → AreFew (h.version == 4) forms
forms-few bytes h first facts second procedures forms third fit g f a =
    let is = is-head bytes h first fit g in
    let small = few-facts bytes h first facts second fit g f in
    let taken = (IsFormat-procedures h (length facts) is small).takes second a.placed.items third (bytes-left bytes second (facts-left bytes h first facts second fit g f) fit) a.placed.is_read in
    subst (λ (fs : List ProcedureForm). AreFew (h.version == 4) fs) (sym a.forms_are) (formed (h.version == 4) a.placed.items (few-forms h (length facts) a.placed.items taken.is_good))
  where
    formed : (b : Bool) (ps : List ProcedureParts) → AreFew b (procedure_forms ps) → AreFew b (forms_if b ps)
    formed true ps few = few
    formed false ps few = λ p e. cc

-- ---- the end

end_by : Option CertFault → Certificate → List ℕ → Result Certificate CertFault
end_by None c rest = ended c rest
end_by (Some e) c rest = Err e

abbrev made : Head → List Fact → List ProcedureParts → List Node → Certificate
made h fs ps ns = to_certificate (h, (fs, (ps, ns)))

the-end : (bytes : List ℕ) (h : Head) (first : List ℕ) (fs : List Fact) (second : List ℕ) (ps : List ProcedureParts) (third : List ℕ) (ns : List Node) (fourth : List ℕ) → any_head_at bytes ≡ Ok (h, first) → facts_by (h.version == 4) h.region first ≡ Ok (fs, second) → procedures_at h (length fs) second ≡ Ok (ps, third)
    → nodes_at h (length fs) (procedure_forms ps) third ≡ Ok (ns, fourth) → read_certificate bytes ≡ end_by (entries_fault (h.version == 4) ps ns 0 ps) (made h fs ps ns) fourth
unfolding certificate_at read_certificate end_by
the-end bytes h first fs second ps third ns fourth g f k m = rw (g, f, k, m) (by (entries_fault (h.version == 4) ps ns 0 ps))
  where
    by : (o : Option CertFault) → go_on (go_on (if_faultless o (let x : Parts = (h, (fs, (ps, ns))) in x) fourth) (λ x rest. (let r : Result (Certificate × List ℕ) CertFault = Ok (to_certificate x, rest) in r))) ended ≡ end_by o (made h fs ps ns) fourth
    by None = refl
    by (Some e) = refl

-- what was found: the head, the facts, and the procedures and the nodes with their places
pub record IsWalked (bytes : List ℕ) (h : Head) (first : List ℕ) (facts : List Fact) (second procedures : List ℕ) (forms : List ProcedureForm) (third nodes fourth : List ℕ) : Type 0 where
  pub are_bytes : IsBytes bytes
  pub head : any_head_at bytes ≡ Ok (h, first)
  pub facts_read : facts_by (h.version == 4) h.region first ≡ Ok (facts, second)
  pub of_procedures : AreFormed (h.version == 4) (spelled.procedure_by (h.version == 4) h.version h.region) bytes (procedures_at h (length facts) second) procedures forms third
  pub of_nodes : ArePlaced (spelled.node_by (h.version == 4) h.version h.region (form_in forms)) bytes (nodes_at h (length facts) forms third) nodes fourth

-- where the facts were counted, and the procedures' forms found
pub walked : (bytes : List ℕ) (h : Head) (first : List ℕ) (facts : List Fact) (second procedures : List ℕ) (forms : List ProcedureForm) (third nodes fourth : List ℕ) (n : ℕ) (fs : List ProcedureForm) → n ≡ length facts → fs ≡ forms → IsBytes bytes → any_head_at bytes ≡ Ok (h, first) → facts_by (h.version == 4) h.region first ≡ Ok (facts, second)
    → AreFormed (h.version == 4) (spelled.procedure_by (h.version == 4) h.version h.region) bytes (procedures_at h n second) procedures forms third → ArePlaced (spelled.node_by (h.version == 4) h.version h.region (form_in fs)) bytes (nodes_at h n fs third) nodes fourth → IsWalked bytes h first facts second procedures forms third nodes fourth
walked bytes h first facts second procedures forms third nodes fourth n fs e f fit head read ps ns = record {
  are_bytes = fit;
  head = head;
  facts_read = read;
  of_procedures = subst (λ (m : ℕ). AreFormed (h.version == 4) (spelled.procedure_by (h.version == 4) h.version h.region) bytes (procedures_at h m second) procedures forms third) e ps;
  of_nodes = subst (λ (gs : List ProcedureForm). ArePlaced (spelled.node_by (h.version == 4) h.version h.region (form_in gs)) bytes (nodes_at h (length facts) gs third) nodes fourth) f (subst (λ (m : ℕ). ArePlaced (spelled.node_by (h.version == 4) h.version h.region (form_in fs)) bytes (nodes_at h m fs third) nodes fourth) e ns);
}

are-found : (bytes : List ℕ) (h : Head) (first : List ℕ) (facts : List Fact) (second procedures : List ℕ) (forms : List ProcedureForm) (third nodes fourth : List ℕ) (w : IsWalked bytes h first facts second procedures forms third nodes fourth)
    → AreFound h.version h.region (form_in forms) bytes third fourth procedures nodes w.of_procedures.placed.items w.of_nodes.items
are-found bytes h first facts second procedures forms third nodes fourth w =
    let is = is-head bytes h first w.are_bytes w.head in
    let small = few-facts bytes h first facts second w.are_bytes w.head w.facts_read in
    let few = forms-few bytes h first facts second procedures forms third w.are_bytes w.head w.facts_read w.of_procedures in
    let ps = (IsFormat-procedures h (length facts) is small).takes second w.of_procedures.placed.items third (bytes-left bytes second (facts-left bytes h first facts second w.are_bytes w.head w.facts_read) w.are_bytes) w.of_procedures.placed.is_read in
    let ns = (IsFormat-nodes h (length facts) forms is small few).takes third w.of_nodes.items fourth (bytes-left bytes third w.of_procedures.placed.is_left w.are_bytes) w.of_nodes.is_read in
    record {
      entries = entries-few (h.version == 4) h.version (length facts) h.region h.nodes (node_limit h.version) true w.of_procedures.placed.items is.few_nodes ps.is_good.1;
      keys = keys-few (h.version == 4) h.version (length facts) (form_in forms) h.region h.procedures (0, 0) w.of_nodes.items is.few_procedures ns.is_good.1;
      procedures_at = w.of_procedures.placed.are_at;
      nodes_at = w.of_nodes.are_at;
    }

nodes-read : (bytes : List ℕ) (h : Head) (first : List ℕ) (facts : List Fact) (second procedures : List ℕ) (forms : List ProcedureForm) (third nodes fourth : List ℕ) (w : IsWalked bytes h first facts second procedures forms third nodes fourth) → nodes_at h (length facts) (procedure_forms w.of_procedures.placed.items) third ≡ Ok (w.of_nodes.items, fourth)
nodes-read bytes h first facts second procedures forms third nodes fourth w =
    ap (λ (r : Read (List Node)). r third) (sym (nodes-of h (length facts) w.of_procedures.placed.items)) ∙ subst (λ (fs : List ProcedureForm). nodes_at h (length facts) fs third ≡ Ok (w.of_nodes.items, fourth)) w.of_procedures.forms_are w.of_nodes.is_read

ends : (bytes : List ℕ) (h : Head) (first : List ℕ) (facts : List Fact) (second procedures : List ℕ) (forms : List ProcedureForm) (third nodes fourth : List ℕ) (w : IsWalked bytes h first facts second procedures forms third nodes fourth)
    → read_certificate bytes ≡ end_by (entries_fault_at h.version bytes nodes procedures 0 procedures) (made h facts w.of_procedures.placed.items w.of_nodes.items) fourth
ends bytes h first facts second procedures forms third nodes fourth w =
    the-end bytes h first facts second w.of_procedures.placed.items third w.of_nodes.items fourth w.head w.facts_read w.of_procedures.placed.is_read (nodes-read bytes h first facts second procedures forms third nodes fourth w)
    ∙ ap (λ o. end_by o (made h facts w.of_procedures.placed.items w.of_nodes.items) fourth) (sym (entries-of h.version h.region (form_in forms) bytes third fourth procedures nodes w.of_procedures.placed.items w.of_nodes.items (are-found bytes h first facts second procedures forms third nodes fourth w)))

left-over : (c : Certificate) (rest : List ℕ) → (length rest == 0) ≡ false → ended c rest ≡ Err fault.LeftOver
left-over c [] e = cc
left-over c (b ∷ rest) e = refl

nothing-left : (rest : List ℕ) → (length rest == 0) ≡ true → rest ≡ []
nothing-left [] e = refl
nothing-left (b ∷ rest) e = absurd (none (length rest) e)
  where
    none : (n : ℕ) → (suc n == 0) ≡ true → ⊥
    none n e = grind (arith, nat_tests)

pub no-entries : (bytes : List ℕ) (h : Head) (first : List ℕ) (facts : List Fact) (second procedures : List ℕ) (forms : List ProcedureForm) (third nodes fourth : List ℕ) (e : CertFault) → IsWalked bytes h first facts second procedures forms third nodes fourth → entries_fault_at h.version bytes nodes procedures 0 procedures ≡ Some e → read_certificate bytes ≡ Err e
unfolding end_by
no-entries bytes h first facts second procedures forms third nodes fourth e w g = ends bytes h first facts second procedures forms third nodes fourth w ∙ rw g refl

pub some-left : (bytes : List ℕ) (h : Head) (first : List ℕ) (facts : List Fact) (second procedures : List ℕ) (forms : List ProcedureForm) (third nodes fourth : List ℕ) → IsWalked bytes h first facts second procedures forms third nodes fourth → entries_fault_at h.version bytes nodes procedures 0 procedures ≡ None → (length fourth == 0) ≡ false
    → read_certificate bytes ≡ Err fault.LeftOver
unfolding end_by
some-left bytes h first facts second procedures forms third nodes fourth w g l = ends bytes h first facts second procedures forms third nodes fourth w ∙ rw g (left-over (made h facts w.of_procedures.placed.items w.of_nodes.items) fourth l)

all-read : (bytes : List ℕ) (h : Head) (first : List ℕ) (facts : List Fact) (second procedures : List ℕ) (forms : List ProcedureForm) (third nodes fourth : List ℕ) (w : IsWalked bytes h first facts second procedures forms third nodes fourth) → entries_fault_at h.version bytes nodes procedures 0 procedures ≡ None → fourth ≡ []
    → read_certificate bytes ≡ Ok (made h facts w.of_procedures.placed.items w.of_nodes.items)
unfolding end_by
all-read bytes h first facts second procedures forms third nodes fourth w g l = ends bytes h first facts second procedures forms third nodes fourth w ∙ rw (g, l) refl

in-bytes : (bytes : List ℕ) (c : Certificate) → read_certificate bytes ≡ Ok c → certificate_in bytes ≡ c
in-bytes bytes c e = ap (ok_or no_certificate) e

pub is-found : (bytes : List ℕ) (h : Head) (first : List ℕ) (facts : List Fact) (second procedures : List ℕ) (forms : List ProcedureForm) (third nodes fourth : List ℕ) → IsWalked bytes h first facts second procedures forms third nodes fourth → entries_fault_at h.version bytes nodes procedures 0 procedures ≡ None → (length fourth == 0) ≡ true
    → IsFound bytes h.version h.region facts forms procedures nodes
is-found bytes h first facts second procedures forms third nodes fourth w g l =
    let none = nothing-left fourth l in
    let ps = w.of_procedures.placed.items in
    let ns = w.of_nodes.items in
    let node : Node → List ℕ = spelled.node_by (h.version == 4) h.version h.region (form_in forms) in
    let same : node ≡ spelled.node_by (h.version == 4) h.version h.region (form_in (procedure_forms ps)) = ap (λ (fs : List ProcedureForm). spelled.node_by (h.version == 4) h.version h.region (form_in fs)) w.of_procedures.forms_are ∙ node-of h.version h.region ps in
    let r = all-read bytes h first facts second procedures forms third nodes fourth w g none in
    let is = is-head bytes h first w.are_bytes w.head in
    let small = few-facts bytes h first facts second w.are_bytes w.head w.facts_read in
    let few = forms-few bytes h first facts second procedures forms third w.are_bytes w.head w.facts_read w.of_procedures in
    let taken = (IsFormat-nodes h (length facts) forms is small few).takes third ns fourth (bytes-left bytes third w.of_procedures.placed.is_left w.are_bytes) w.of_nodes.is_read in
    let behind : third ≡ flat_map node ns = taken.parts ∙ ap (λ (z : List ℕ). flat_map node ns ++ z) none ∙ append-nil (flat_map node ns) in
    let laid : IsLaid bytes h.version h.region facts forms procedures nodes (made h facts ps ns) = record {
      spells = found bytes (made h facts ps ns) w.are_bytes r;
      version_is = refl;
      region_is = refl;
      facts_are = refl;
      forms_are = w.of_procedures.forms_are;
      procedures_at = subst (λ z. AreAt (spelled.procedure_by (h.version == 4) h.version h.region) bytes z procedures ps) (behind ∙ ap (λ (write : Node → List ℕ). flat_map write ns) same) w.of_procedures.placed.are_at;
      nodes_at = subst (λ (write : Node → List ℕ). AreAt write bytes [] nodes ns) same (subst (λ z. AreAt node bytes z nodes ns) none w.of_nodes.are_at);
    } in
    record {
      is_read = r ∙ ap (λ (c : Certificate). Ok c) (sym (in-bytes bytes (made h facts ps ns) r));
      is_laid = subst (λ c. IsLaid bytes h.version h.region facts forms procedures nodes c) (sym (in-bytes bytes (made h facts ps ns) r)) laid;
    }

pub none_of : (o : Option CertFault) → ((e : CertFault) → o ≡ Some e → ⊥) → o ≡ None
none_of None h = refl
none_of (Some e) h = absurd (h e refl)
