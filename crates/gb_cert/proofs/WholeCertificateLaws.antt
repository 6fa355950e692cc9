-- Certificates of any version: what is read is spelled so, what is spelled so is read, and there is one spelling; and versions 1 to 3 are read as they
-- are without version 4.
use Rattle.std.proofs.Common.{◌≡◌, ℕ, zero, suc, ◌+◌, ◌<◌, ◌≤◌, Bool, true, false, ◌&&◌, ◌||◌, ◌==◌, inl, inr, List, [], ◌∷◌, ◌++◌, length, Option, Some, None, Ok, refl, sym, ◌∙◌, ap, subst, arith, append-nil}
use Rattle.std.specs.Prelude.{slice_get}
use Rattle.std.specs.List.{flat_map}
use Rattle.gb_ops.specs.declared.machine.Region.{Region}
use Rattle.gb_states.specs.Below.gb_fields.declared.fault.CertFault.{CertFault}
use Rattle.gb_states.specs.Below.gb_fields.declared.fault.CertFault.TheVariants as fault
use Rattle.gb_states.specs.Below.gb_fields.declared.head.Head.{Head}
use Rattle.gb_states.specs.Below.gb_fields.Limits.{procedure_limit, procedure_limit_by, node_limit}
use Rattle.gb_domain.specs.Types.{ProcedureParts, Node}
use Rattle.gb_domain.specs.Certificate.{Certificate}
use Rattle.gb_states.specs.declared.form.ProcedureForm.{ProcedureForm}
use Rattle.gb_domain.specs.declared.summary.Fact.{Fact}
use Rattle.gb_states.specs.Below.gb_fields.Format.{Read, both, checked, faultless, followed, byte}
use Rattle.gb_domain.specs.declared.rules.Rules.{Rules}
use Rattle.gb_domain.specs.declared.rules.Rules.TheVariants.{Simple, Extended}
use Rattle.gb_domain.specs.Limits.{rules_of}
use Rattle.gb_domain.specs.Rules.{IsChain}
use Rattle.gb_states.specs.Below.gb_fields.Rules.{is_any_version, is_any_version_of, any_rules_of}
use Rattle.gb_states.specs.Below.gb_fields.Reading.{word, magic_at, is_any, to_head, region_at, node_count_at, any_version_at, procedure_count_by, procedure_count_at, any_head_at}
use Rattle.gb_states.specs.Rules.{is_after, key, is_of, have_entries}
use Rattle.gb_states.specs.WholeRules.{is_in_order, is_uncrowded, are_in_order, in_order_by, procedure_forms, form_in, AreKept, AreFactsBy, IsProcedureBy, IsNodeBy, IsCertificate}
use Rattle.gb_states.specs.WholeReading.{facts_by, procedure_by, node_by, procedures_at, nodes_at, fault_by, entry_fault, or_else, entries_fault, Parts, entries_fault_in, to_certificate, behind_facts, behind_head, certificate_at, read_certificate}
use Rattle.gb_states.specs.Spelling as simple
use Rattle.gb_states.specs.WholeSpelling as spelled
use Rattle.gb_states.specs.WholeSpelling.{Spells}
use Rattle.gb_states.proofs.Formats.{IsBytes, IsFormat, AreSoMany, ok_is, IsFormat-byte, IsFormat-both, IsFormat-followed, IsFormat-checked, IsFormat-faultless, IsFormat-onto, IsFormat-mapped, IsFormat-as, IsFormat-nothing, IsFormat-several}
use Rattle.gb_states.proofs.FieldLaws.{and_both, both_and, same, last_small, spelled_byte, IsFormat-word, IsFormat-count_within}
use Rattle.gb_states.proofs.StateLaws.{lt_is, is_lt, IsFormat-procedure, IsFormat-node}
use Rattle.gb_states.proofs.WholeSummaryLaws.{IsFormat-facts}
use Rattle.gb_states.proofs.WholeNodeLaws as whole
use Rattle.gb_cert.proofs.HeadLaws.{IsRegionFor, IsFormat-region, spelled_magic, IsFormat-magic, or_either, IsFormat-node_count, whole_is}

-- ---- the version

abbrev Versions : Type 0
Versions = Rules × ℕ

abbrev IsVersionPair : Versions → Type 0
IsVersionPair p = Unit {0} × ((p.1 < 256) × (is_any_version_of p.0 p.1 ≡ true))

version-kind : (rules : Rules) (v : ℕ) → is_any_version_of rules v ≡ true → (any_rules_of v ≡ rules) × (is_any_version v ≡ true)
unfolding rules_of
version-kind Simple v h = elim (or_either (v == 1) (v == 2) h) [
  | inl e ↦ (let f = same v 1 e in rw f (refl, refl))
  | inr e ↦ (let f = same v 2 e in rw f (refl, refl))
]
version-kind Extended v h = elim (or_either (v == 3) (v == 4) h) [
  | inl e ↦ (let f = same v 3 e in rw f (refl, refl))
  | inr e ↦ (let f = same v 4 e in rw f (refl, refl))
]

kind-version : (v : ℕ) → is_any_version v ≡ true → (v < 256) × (is_any_version_of (any_rules_of v) v ≡ true)
unfolding rules_of
kind-version v h = elim (or_either (v == 1 || (v == 2 || v == 3)) (v == 4) h) [
  | inl g ↦ elim (or_either (v == 1) (v == 2 || v == 3) g) [
    | inl e ↦ (let f = same v 1 e in rw f (omega arith, refl))
    | inr g ↦ elim (or_either (v == 2) (v == 3) g) [
      | inl e ↦ (let f = same v 2 e in rw f (omega arith, refl))
      | inr e ↦ (let f = same v 3 e in rw f (omega arith, refl))
    ]
  ]
  | inr e ↦ (let f = same v 4 e in rw f (omega arith, refl))
]

version-there : (p : Versions) → IsVersionPair p → ((let q : Versions = (any_rules_of p.1, p.1) in q) ≡ p) × (is_any_version p.1 ≡ true)
version-there p h = let k = version-kind p.0 p.1 h.1.1 in (ap (λ (r : Rules). (let q : Versions = (r, p.1) in q)) k.0, k.1)

version-again : (v : ℕ) → is_any_version v ≡ true → IsVersionPair (any_rules_of v, v) × (v ≡ v)
version-again v h = ((tt, kind-version v h), refl)

abbrev pub spelled_version : ℕ → List ℕ
spelled_version v = spelled_magic (any_rules_of v) ++ spelled_byte v

IsFormat-version : IsFormat any_version_at spelled_version (λ v. is_any_version v ≡ true)
unfolding any_version_at
IsFormat-version =
    IsFormat-onto (λ (p : Versions). p.1) (λ v. (any_rules_of v, v)) (followed magic_at (λ rules. checked fault.Version (is_any_version_of rules) byte)) (λ p. spelled_magic p.0 ++ spelled_byte p.1) IsVersionPair (λ v. is_any_version v ≡ true) version-there version-again
    (IsFormat-followed magic_at (λ rules. checked fault.Version (is_any_version_of rules) byte) spelled_magic (λ rules. spelled_byte) (λ rules. Unit {0}) (λ rules v. (v < 256) × (is_any_version_of rules v ≡ true)) IsFormat-magic
    (λ rules h. IsFormat-checked fault.Version (is_any_version_of rules) byte spelled_byte (λ b. b < 256) IsFormat-byte))

-- ---- what is behind it

IsFormat-count_by : (b : Bool) → IsFormat (procedure_count_by b) (spelled.procedure_count_by b) (λ n. n ≤ procedure_limit_by b)
IsFormat-count_by true = IsFormat-as word simple.word (λ n. n < 65536) (λ n. n ≤ 65535) (λ n h. omega arith) (λ n h. omega arith) IsFormat-word
IsFormat-count_by false = IsFormat-count_within procedure_limit (omega arith)

IsFormat-count : (version : ℕ) → IsFormat (procedure_count_at version) (spelled.procedure_count_by (version == 4)) (λ n. (n ≤ procedure_limit_by (version == 4)) × (is_any n ≡ true))
unfolding procedure_count_at
IsFormat-count version = IsFormat-checked fault.Field is_any (procedure_count_by (version == 4)) (spelled.procedure_count_by (version == 4)) (λ n. n ≤ procedure_limit_by (version == 4)) (IsFormat-count_by (version == 4))

abbrev pub HeadParts : Type 0
HeadParts = ℕ × (Region × (ℕ × ℕ))

pub from_head : Head → HeadParts
from_head h = (h.version, (h.region, (h.procedures, h.nodes)))

abbrev pub Counts : Type 0
Counts = Region × (ℕ × ℕ)

abbrev AreCounts : ℕ → Counts → Type 0
AreCounts v p = IsRegionFor (any_rules_of v) p.0 × (((p.1.0 ≤ procedure_limit_by (v == 4)) × (is_any p.1.0 ≡ true)) × ((p.1.1 ≤ node_limit v) × (0 < p.1.1)))

abbrev AreHeadParts : HeadParts → Type 0
AreHeadParts p = (is_any_version p.0 ≡ true) × AreCounts p.0 p.1

abbrev pub spelled_counts : ℕ → Counts → List ℕ
spelled_counts v p = (simple.word p.0.first ++ simple.word p.0.last) ++ (spelled.procedure_count_by (v == 4) p.1.0 ++ simple.node_number v p.1.1)

abbrev pub spelled_parts : HeadParts → List ℕ
spelled_parts p = spelled_version p.0 ++ spelled_counts p.0 p.1

pub record IsHead (h : Head) : Type 0 where
  pub version : is_any_version h.version ≡ true
  pub region : IsRegionFor (any_rules_of h.version) h.region
  pub some_procedure : 0 < h.procedures
  pub few_procedures : h.procedures ≤ procedure_limit_by (h.version == 4)
  pub some_node : 0 < h.nodes
  pub few_nodes : h.nodes ≤ node_limit h.version

head-is : (h : Head) → AreHeadParts (from_head h) → IsHead h
unfolding from_head
head-is h a = record { version = a.0; region = a.1.0; some_procedure = lt_is 0 h.procedures a.1.1.0.1; few_procedures = a.1.1.0.0; some_node = a.1.1.1.1; few_nodes = a.1.1.1.0 }

is-head : (h : Head) → IsHead h → AreHeadParts (from_head h)
unfolding from_head
is-head h a = (a.version, (a.region, ((a.few_procedures, is_lt 0 h.procedures a.some_procedure), (a.few_nodes, a.some_node))))

abbrev pub spelled_head : Head → List ℕ
spelled_head h = spelled_parts (from_head h)

abbrev counts_at : ℕ → Read Counts
counts_at v = both (region_at (any_rules_of v)) (both (procedure_count_at v) (node_count_at v))

pub IsFormat-head : IsFormat any_head_at spelled_head IsHead
unfolding any_head_at from_head
IsFormat-head =
    IsFormat-as any_head_at spelled_head (λ h. AreHeadParts (from_head h)) IsHead head-is is-head
    (IsFormat-mapped to_head from_head (followed any_version_at counts_at) spelled_parts AreHeadParts (λ p a. refl) (λ h a. refl)
    (IsFormat-followed any_version_at counts_at spelled_version spelled_counts (λ v. is_any_version v ≡ true) AreCounts IsFormat-version
    (λ v h. IsFormat-both _ _ _ _ _ _ (IsFormat-region (any_rules_of v)) (IsFormat-both _ _ _ _ _ _ (IsFormat-count v) (IsFormat-node_count v)))))

-- ---- the facts, the procedures and the nodes

pub IsFormat-facts_by : (b : Bool) (region : Region) → IsFormat (facts_by b region) (spelled.facts_by b) (AreFactsBy b region)
IsFormat-facts_by true region = IsFormat-facts region
IsFormat-facts_by false region = IsFormat-nothing [] (λ fs. []) refl

pub facts-few : (b : Bool) (region : Region) (facts : List Fact) → AreFactsBy b region facts → length facts < 65536
facts-few true region facts h = let few = h.few in omega (arith, few)
facts-few false region facts h = rw h (omega arith)

pub IsFormat-procedure_by : (b : Bool) (version facts : ℕ) (region : Region) (nodes : ℕ) (is_main : Bool) → (version == 4) ≡ b → facts < 65536 → nodes ≤ node_limit version → region.last < 65535
    → IsFormat (procedure_by b version facts region nodes is_main) (spelled.procedure_by b version region) (IsProcedureBy b version facts region nodes is_main)
IsFormat-procedure_by true version facts region nodes is_main e small few last =
    whole.IsFormat-procedure facts region nodes is_main small (subst (λ v. nodes ≤ node_limit v) (same version 4 e) few) last
IsFormat-procedure_by false version facts region nodes is_main e small few last = IsFormat-procedure version region nodes is_main few last

pub IsFormat-node_by : (b : Bool) (version facts : ℕ) (form_of : ℕ → ProcedureForm) (region : Region) (procedures : ℕ) (before : ℕ × ℕ) → facts < 65536 → ((p : ℕ) → (b ≡ true) → (form_of p).kept ≤ 16) → procedures ≤ procedure_limit_by b
    → IsFormat (node_by b version facts form_of region procedures before) (spelled.node_by b version region form_of) (IsNodeBy b version facts form_of region procedures before)
IsFormat-node_by true version facts form_of region procedures before small few many = let le : procedures ≤ 65536 = omega (arith, many) in whole.IsFormat-node facts form_of region procedures before small (λ p. few p refl) le
IsFormat-node_by false version facts form_of region procedures before small few many = let le : procedures ≤ 256 = omega (arith, many) in IsFormat-node (rules_of version) region procedures before le

abbrev pub AreProcedures : Head → ℕ → List ProcedureParts → Type 0
AreProcedures h facts = AreSoMany (IsProcedureBy (h.version == 4) h.version facts h.region h.nodes) is_after true h.procedures

abbrev pub AreNodes : Head → ℕ → List ProcedureForm → List Node → Type 0
AreNodes h facts forms = AreSoMany (IsNodeBy (h.version == 4) h.version facts (form_in forms) h.region h.procedures) key (0, 0) h.nodes

pub last-of : (h : Head) → IsHead h → h.region.last < 65535
last-of h is = last_small h.region.first h.region.last is.region.area

pub IsFormat-procedures : (h : Head) (facts : ℕ) → IsHead h → facts < 65536 → IsFormat (procedures_at h facts) (flat_map (spelled.procedure_by (h.version == 4) h.version h.region)) (AreProcedures h facts)
unfolding procedures_at
IsFormat-procedures h facts is small =
    IsFormat-several (procedure_by (h.version == 4) h.version facts h.region h.nodes) is_after (spelled.procedure_by (h.version == 4) h.version h.region) (IsProcedureBy (h.version == 4) h.version facts h.region h.nodes) true h.procedures
    (λ is_main. IsFormat-procedure_by (h.version == 4) h.version facts h.region h.nodes is_main refl small is.few_nodes (last-of h is))

-- a procedure names at most 16 addresses to be kept
pub room_few : (is_main : Bool) (region : Region) (addresses : List ℕ) → AreKept is_main region addresses → length addresses ≤ 16
room_few true region addresses h = let few = h.few in omega (arith, few)
room_few false region addresses h = h.few

pub few-kept : (b : Bool) (version facts : ℕ) (region : Region) (nodes : ℕ) (is_main : Bool) (ps : List ProcedureParts) → IsChain (IsProcedureBy b version facts region nodes) is_after is_main ps → (p : ℕ) → b ≡ true → (form_in (procedure_forms ps) p).kept ≤ 16
few-kept true version facts region nodes is_main [] h p e = omega arith
few-kept true version facts region nodes is_main (x ∷ xs) h zero e = room_few is_main region x.kept h.0.kept
few-kept true version facts region nodes is_main (x ∷ xs) h (suc p) e = few-kept true version facts region nodes false xs h.1 p e
few-kept false version facts region nodes is_main ps h p e = cc

-- so it is of these forms
abbrev pub AreFew : Bool → List ProcedureForm → Type 0
AreFew b forms = (p : ℕ) → b ≡ true → (form_in forms p).kept ≤ 16

pub few-forms : (h : Head) (facts : ℕ) (ps : List ProcedureParts) → AreProcedures h facts ps → AreFew (h.version == 4) (procedure_forms ps)
few-forms h facts ps are = few-kept (h.version == 4) h.version facts h.region h.nodes true ps are.1

pub IsFormat-nodes : (h : Head) (facts : ℕ) (forms : List ProcedureForm) → IsHead h → facts < 65536 → AreFew (h.version == 4) forms → IsFormat (nodes_at h facts forms) (flat_map (spelled.node_by (h.version == 4) h.version h.region (form_in forms))) (AreNodes h facts forms)
unfolding nodes_at
IsFormat-nodes h facts forms is small few =
    IsFormat-several (node_by (h.version == 4) h.version facts (form_in forms) h.region h.procedures) key (spelled.node_by (h.version == 4) h.version h.region (form_in forms)) (IsNodeBy (h.version == 4) h.version facts (form_in forms) h.region h.procedures) (0, 0) h.nodes
    (λ before. IsFormat-node_by (h.version == 4) h.version facts (form_in forms) h.region h.procedures before small few is.few_procedures)

abbrev Body : Type 0
Body = List Fact × (List ProcedureParts × List Node)

abbrev AreBody : Head → Body → Type 0
AreBody h b = AreFactsBy (h.version == 4) h.region b.0 × (AreProcedures h (length b.0) b.1.0 × AreNodes h (length b.0) (procedure_forms b.1.0) b.1.1)

abbrev spelled_lists : ℕ → Region → List ProcedureParts × List Node → List ℕ
spelled_lists version region b = flat_map (spelled.procedure_by (version == 4) version region) b.0 ++ spelled.nodes version region b.0 b.1

abbrev spelled_body : ℕ → Region → Body → List ℕ
spelled_body version region b = spelled.facts_by (version == 4) b.0 ++ spelled_lists version region b.1

IsFormat-lists : (h : Head) (facts : ℕ) → IsHead h → facts < 65536 → IsFormat (behind_facts h facts) (spelled_lists h.version h.region) (λ b. AreProcedures h facts b.0 × AreNodes h facts (procedure_forms b.0) b.1)
IsFormat-lists h facts is small =
    IsFormat-followed (procedures_at h facts) (λ ps. nodes_at h facts (procedure_forms ps)) (flat_map (spelled.procedure_by (h.version == 4) h.version h.region)) (λ ps. spelled.nodes h.version h.region ps) (AreProcedures h facts) (λ ps. AreNodes h facts (procedure_forms ps)) (IsFormat-procedures h facts is small) (λ ps are. IsFormat-nodes h facts (procedure_forms ps) is small (few-forms h facts ps are))

IsFormat-body : (h : Head) → IsHead h → IsFormat (behind_head h) (spelled_body h.version h.region) (AreBody h)
IsFormat-body h is =
    IsFormat-followed (facts_by (h.version == 4) h.region) (λ fs. behind_facts h (length fs)) (spelled.facts_by (h.version == 4)) (λ fs. spelled_lists h.version h.region) (AreFactsBy (h.version == 4) h.region) (λ fs b. AreProcedures h (length fs) b.0 × AreNodes h (length fs) (procedure_forms b.0) b.1)
    (IsFormat-facts_by (h.version == 4) h.region) (λ fs are. IsFormat-lists h (length fs) is (facts-few (h.version == 4) h.region fs are))

-- ---- the entries

none-else : (o p : Option CertFault) → or_else o p ≡ None → (o ≡ None) × (p ≡ None)
none-else None p e = (refl, e)
none-else (Some f) p e = cc

else-none : (o p : Option CertFault) → o ≡ None → p ≡ None → or_else o p ≡ None
else-none o p e f = rw (e, f) refl

none-wrong : (a b c : Bool) → fault_by a b c ≡ None → (a ≡ true) × ((b ≡ true) × (c ≡ true))
none-wrong false b c e = cc
none-wrong true false c e = cc
none-wrong true true false e = cc
none-wrong true true true e = (refl, (refl, refl))

wrong-none : (a b c : Bool) → a ≡ true → b ≡ true → c ≡ true → fault_by a b c ≡ None
wrong-none a b c e f g = rw (e, f, g) refl

-- nothing is wrong with the entries where each is its procedure's own, and where order is asked they are in order
entries-are : (all : List ProcedureParts) (nodes : List Node) (number : ℕ) (ps : List ProcedureParts) → entries_fault true all nodes number ps ≡ None → (have_entries number ps nodes ≡ true) × (are_in_order all nodes number (length ps) ≡ true)
unfolding entries_fault have_entries are_in_order
entries-are all nodes number [] h = (refl, refl)
entries-are all nodes number (p ∷ ps) h =
    let t = none-else (entry_fault true all nodes number p) (entries_fault true all nodes (number + 1) ps) h in
    let one = none-wrong (is_uncrowded all nodes number) (is_of number (slice_get nodes p.entry)) (is_in_order all nodes number) t.0 in
    let rest = entries-are all nodes (number + 1) ps t.1 in
    (both_and _ _ one.1.0 rest.0, both_and _ _ one.0 (both_and _ _ one.1.1 rest.1))

are-entries : (all : List ProcedureParts) (nodes : List Node) (number : ℕ) (ps : List ProcedureParts) → have_entries number ps nodes ≡ true → are_in_order all nodes number (length ps) ≡ true → entries_fault true all nodes number ps ≡ None
unfolding entries_fault have_entries are_in_order
are-entries all nodes number [] h i = refl
are-entries all nodes number (p ∷ ps) h i =
    let a = and_both (is_of number (slice_get nodes p.entry)) (have_entries (number + 1) ps nodes) h in
    let b = and_both (is_uncrowded all nodes number) (is_in_order all nodes number && are_in_order all nodes (number + 1) (length ps)) i in
    let c = and_both (is_in_order all nodes number) (are_in_order all nodes (number + 1) (length ps)) b.1 in
    else-none (entry_fault true all nodes number p) (entries_fault true all nodes (number + 1) ps) (wrong-none _ _ _ b.0 a.0 c.0) (are-entries all nodes (number + 1) ps a.1 c.1)

-- without order it is the fault of a field where an entry isn't its procedure's own
abbrev pub unless : Bool → Option CertFault
unless true = None
unless false = Some fault.Field

pub unordered : (all : List ProcedureParts) (nodes : List Node) (number : ℕ) (ps : List ProcedureParts) → entries_fault false all nodes number ps ≡ unless (have_entries number ps nodes)
unfolding entries_fault have_entries
unordered all nodes number [] = refl
unordered all nodes number (p ∷ ps) = by (is_of number (slice_get nodes p.entry)) (have_entries (number + 1) ps nodes) (entries_fault false all nodes (number + 1) ps) (unordered all nodes (number + 1) ps)
  where
    by : (a b : Bool) (o : Option CertFault) → o ≡ unless b → or_else (fault_by true a true) o ≡ unless (a && b)
    by true b o e = e
    by false b o e = refl

unless-none : (b : Bool) → unless b ≡ None → b ≡ true
unless-none true e = refl
unless-none false e = cc

abbrev AreEntries : Bool → List ProcedureParts → List Node → Type 0
AreEntries ordered ps nodes = (have_entries 0 ps nodes ≡ true) × (in_order_by ordered ps nodes ≡ true)

faultless-are : (ordered : Bool) (ps : List ProcedureParts) (nodes : List Node) → entries_fault ordered ps nodes 0 ps ≡ None → AreEntries ordered ps nodes
faultless-are true ps nodes h = entries-are ps nodes 0 ps h
faultless-are false ps nodes h = (unless-none (have_entries 0 ps nodes) (sym (unordered ps nodes 0 ps) ∙ h), refl)

are-faultless : (ordered : Bool) (ps : List ProcedureParts) (nodes : List Node) → AreEntries ordered ps nodes → entries_fault ordered ps nodes 0 ps ≡ None
are-faultless true ps nodes h = are-entries ps nodes 0 ps h.0 h.1
are-faultless false ps nodes h = unordered ps nodes 0 ps ∙ ap unless h.0

-- ---- certificates

head_of : Certificate → Head
head_of c = record { version = c.version; region = c.region; procedures = length c.procedures; nodes = length c.nodes }

from_certificate : Certificate → Parts
from_certificate c = (head_of c, (c.facts, (c.procedures, c.nodes)))

abbrev AreParts : Parts → Type 0
AreParts p = (IsHead p.0 × AreBody p.0 p.1) × (entries_fault_in p ≡ None)

certificate-there : (p : Parts) → AreParts p → from_certificate (to_certificate p) ≡ p
unfolding from_certificate head_of
certificate-there p a = counts p.0.procedures p.0.nodes a.0.1.1.0.0 a.0.1.1.1.0
  where
    made : ℕ → ℕ → Parts
    made i j = (record { version = p.0.version; region = p.0.region; procedures = i; nodes = j }, p.1)

    counts : (i j : ℕ) → length p.1.1.0 ≡ i → length p.1.1.1 ≡ j → made (length p.1.1.0) (length p.1.1.1) ≡ made i j
    counts i j e f = rw (e, f) refl

certificate-is : (c : Certificate) → AreParts (from_certificate c) → IsCertificate c
unfolding from_certificate head_of
certificate-is c a = let right = faultless-are (c.version == 4) c.procedures c.nodes a.1 in record {
  version = a.0.0.version;
  region = record { area = a.0.0.region.area };
  whole = a.0.0.region.whole;
  some_procedure = a.0.0.some_procedure;
  procedure_count = a.0.0.few_procedures;
  some_node = a.0.0.some_node;
  node_count = a.0.0.few_nodes;
  facts = a.0.1.0;
  procedures = a.0.1.1.0.1;
  nodes = a.0.1.1.1.1;
  entries = right.0;
  order = right.1;
}

-- what is read is a certificate
read-is : (p : Parts) → AreParts p → IsCertificate (to_certificate p)
read-is p a = certificate-is (to_certificate p) (subst AreParts (sym (certificate-there p a)) a)

is-certificate : (c : Certificate) → IsCertificate c → AreParts (from_certificate c)
unfolding from_certificate head_of
is-certificate c a = (
  (
    record { version = a.version; region = record { area = a.region.area; whole = a.whole }; some_procedure = a.some_procedure; few_procedures = a.procedure_count; some_node = a.some_node; few_nodes = a.node_count },
    (a.facts, ((refl, a.procedures), (refl, a.nodes))),
  ),
  are-faultless (c.version == 4) c.procedures c.nodes (a.entries, a.order),
)

IsFormat-certificate : IsFormat certificate_at spelled.spelling IsCertificate
unfolding certificate_at from_certificate head_of from_head spelled.spelling spelled.head
IsFormat-certificate =
    IsFormat-onto to_certificate from_certificate (faultless entries_fault_in (followed any_head_at behind_head)) (λ p. spelled_head p.0 ++ spelled_body p.0.version p.0.region p.1) AreParts IsCertificate (λ p a. (certificate-there p a, read-is p a)) (λ c h. (is-certificate c h, refl))
    (IsFormat-faultless entries_fault_in (followed any_head_at behind_head) (λ p. spelled_head p.0 ++ spelled_body p.0.version p.0.region p.1) (λ p. IsHead p.0 × AreBody p.0 p.1)
    (IsFormat-followed any_head_at behind_head spelled_head (λ h. spelled_body h.version h.region) IsHead AreBody IsFormat-head IsFormat-body))

-- ---- all of the bytes

pub found : (bytes : List ℕ) (c : Certificate) → IsBytes bytes → read_certificate bytes ≡ Ok c → Spells bytes c
unfolding read_certificate
found bytes c fit e =
    let t = IsFormat-certificate.takes bytes c [] fit (whole_is (certificate_at bytes) c e) in
    record { is_certificate = t.is_good; is_spelling = t.parts ∙ append-nil (spelled.spelling c) }

pub again : (bytes : List ℕ) (c : Certificate) → Spells bytes c → read_certificate bytes ≡ Ok c
unfolding read_certificate
again bytes c s =
    let all : certificate_at bytes ≡ Ok (c, []) = ap certificate_at (s.is_spelling ∙ sym (append-nil (spelled.spelling c))) ∙ IsFormat-certificate.again c [] s.is_certificate in
    rw all refl

-- one spelling, and bytes spell one certificate
pub one_spelling : (a b : List ℕ) (c : Certificate) → Spells a c → Spells b c → a ≡ b
one_spelling a b c s t = s.is_spelling ∙ sym t.is_spelling

pub one_certificate : (bytes : List ℕ) (c d : Certificate) → Spells bytes c → Spells bytes d → c ≡ d
one_certificate bytes c d s t = ok_is c d (sym (again bytes c s) ∙ again bytes d t)
