-- Certificates of versions 1 to 3 are the same whether or not there is a version 4: they are read and spelled as ever, and keep the same rules.
use Rattle.std.proofs.Common.{◌≡◌, ℕ, Bool, true, false, ◌||◌, ◌==◌, ◌≤◌, inl, inr, List, [], ◌∷◌, ◌++◌, length, Option, Result, Ok, Err, refl, sym, ◌∙◌, ap, subst}
use Rattle.gb_states.specs.Below.gb_fields.declared.fault.CertFault.{CertFault}
use Rattle.gb_states.specs.Below.gb_fields.declared.fault.CertFault.TheVariants as fault
use Rattle.gb_states.specs.Below.gb_fields.declared.head.Head.{Head}
use Rattle.gb_domain.specs.Types.{ProcedureParts, Node}
use Rattle.gb_domain.specs.Certificate.{Certificate}
use Rattle.gb_domain.specs.declared.rules.Rules.{Rules}
use Rattle.gb_domain.specs.declared.rules.Rules.TheVariants.{Simple, Extended}
use Rattle.gb_domain.specs.Limits.{rules_of}
use Rattle.gb_states.specs.Below.gb_fields.Format.{Read, go_on, if_passes, if_faultless, checked, both, several, ended, byte}
use Rattle.gb_states.specs.Below.gb_fields.Rules.{is_version_of, is_any_version, is_any_version_of, any_rules_by, any_rules_of}
use Rattle.gb_states.specs.Below.gb_fields.Limits.{procedure_limit, procedure_limit_by}
use Rattle.gb_ops.specs.declared.machine.Region.{Region}
use Rattle.gb_domain.specs.declared.summary.Fact.{Fact}
use Rattle.gb_states.specs.Below.gb_fields.Reading.{count_within, is_any, magic_at, version_at, region_at, node_count_at, to_head, head_at, any_version_at, procedure_count_by, procedure_count_at, any_head_at}
use Rattle.gb_states.specs.Rules.{size, is_whole, is_version, is_after, key, have_entries}
use Rattle.gb_states.specs.Rules as rules
use Rattle.gb_domain.specs.Rules.{IsChain}
use Rattle.gb_states.specs.Spelling as simple_spelled
use Rattle.gb_states.specs.WholeSpelling as spelled
use Rattle.std.specs.List.{flat_map}
use Rattle.gb_states.specs.Reading as simple
use Rattle.gb_states.specs.Reading.{have_entries_in}
use Rattle.gb_states.specs.WholeRules.{procedure_forms, form_in, in_order_by, AreFactsBy, IsProcedureBy, IsNodeBy, IsCertificate}
use Rattle.gb_states.specs.WholeReading.{facts_by, procedure_by, node_by, behind_facts, Parts, procedures_at, nodes_at, entries_fault, entries_fault_in, to_certificate, behind_head, certificate_at, read_certificate, is_fourth, begins_fourth}
use Rattle.gb_states.proofs.FieldLaws.{same}
use Rattle.gb_cert.proofs.HeadLaws.{or_either}
use Rattle.gb_cert.proofs.WholeCertificateLaws.{HeadParts, unless, unordered}

abbrev Lists : Type 0
Lists = List ProcedureParts × List Node

abbrev spelled_by : Bool → Certificate → List ℕ
spelled_by b c =
    ((0x47 ∷ 0x42 ∷ 0x42 ∷ simple_spelled.letter (any_rules_by b c.version) ∷ c.version ∷ []) ++ (simple_spelled.word c.region.first ++ (simple_spelled.word c.region.last ++ (spelled.procedure_count_by b (length c.procedures) ++ simple_spelled.node_number c.version (length c.nodes)))))
    ++ (spelled.facts_by b c.facts ++ (flat_map (spelled.procedure_by b c.version c.region) c.procedures ++ flat_map (spelled.node_by b c.version c.region (form_in (procedure_forms c.procedures))) c.nodes))

abbrev Older : Type 0
Older = Head × Lists

-- ---- the version

abbrev behind_letters : (Rules → ℕ → Bool) → Result (Rules × List ℕ) CertFault → Result (ℕ × List ℕ) CertFault
behind_letters test r = go_on {X = Rules × ℕ} (go_on r (λ rules rest. go_on (checked fault.Version (test rules) byte rest) (λ v end. Ok ((rules, v), end)))) (λ p rest. Ok (p.1, rest))

abbrev one_version : Bool → Rules → ℕ → List ℕ → Result (ℕ × List ℕ) CertFault
one_version b rules v rest = go_on {X = Rules × ℕ} (go_on {X = ℕ} (if_passes fault.Version b v rest) (λ v end. Ok ((rules, v), end))) (λ p rest. Ok (p.1, rest))

one-same : (rules : Rules) (a b : Bool) (v : ℕ) (rest : List ℕ) → is_fourth (one_version (a || b) rules v rest) ≡ false → (b ≡ (v == 4)) → one_version (a || b) rules v rest ≡ one_version a rules v rest
one-same rules true b v rest h e = refl
one-same rules false false v rest h e = refl
one-same rules false true v rest h e = absurd (let f = e ∙ h in not_so f)
  where
    not_so : true ≡ false → ⊥
    not_so e = cc

version-same : (r : Result (Rules × List ℕ) CertFault) → is_fourth (behind_letters is_any_version_of r) ≡ false → behind_letters is_any_version_of r ≡ behind_letters is_version_of r
version-same (Err e) h = refl
version-same (Ok (rules, [])) h = refl
version-same (Ok (Simple, v ∷ rest)) h = refl
version-same (Ok (Extended, v ∷ rest)) h = one-same Extended (v == 3) (v == 4) v rest h refl

older-version : (bytes : List ℕ) → begins_fourth bytes ≡ false → any_version_at bytes ≡ version_at bytes
unfolding any_version_at version_at
older-version bytes h = version-same (magic_at bytes) h

-- ---- what is behind it

abbrev Rest : Type 0 → Type 0
Rest X = Result (X × List ℕ) CertFault

abbrev any_entries : Rest Parts → Rest Certificate
any_entries r = go_on (go_on r (λ x rest. if_faultless (entries_fault_in x) x rest)) (λ x rest. Ok (to_certificate x, rest))

abbrev older_entries : Rest Older → Rest Certificate
older_entries r = go_on (go_on r (λ x rest. if_passes fault.Field (have_entries_in x) x rest)) (λ x rest. Ok (simple.to_certificate x, rest))

judged-same : (h : Head) (ps : List ProcedureParts) (ns : List Node) (rest : List ℕ) (b : Bool) → go_on {X = Parts} {Y = Certificate × List ℕ} (if_faultless (unless b) (h, ([], (ps, ns))) rest) (λ x rest. Ok (to_certificate x, rest)) ≡ go_on {X = Older} {Y = Certificate × List ℕ} (if_passes fault.Field b (h, (ps, ns)) rest) (λ x rest. Ok (simple.to_certificate x, rest))
judged-same h ps ns rest true = refl
judged-same h ps ns rest false = refl

entries-same : (h : Head) (ps : List ProcedureParts) (r : Rest (List Node)) → (h.version == 4) ≡ false
    → any_entries (go_on {X = List Fact × Lists} (go_on {X = Lists} (go_on r (λ ns end. Ok ((ps, ns), end))) (λ y end. Ok (([], y), end))) (λ y end. Ok ((h, y), end))) ≡ older_entries (go_on {X = Lists} (go_on r (λ ns end. Ok ((ps, ns), end))) (λ y end. Ok ((h, y), end)))
entries-same h ps (Err e) k = refl
entries-same h ps (Ok (ns, rest)) k = ap (λ (o : Option CertFault). go_on {X = Parts} (if_faultless o (h, ([], (ps, ns))) rest) (λ x rest. (let q : Rest Certificate = Ok (to_certificate x, rest) in q))) (ap (λ (b : Bool). entries_fault b ps ns 0 ps) k ∙ unordered ps ns 0 ps) ∙ judged-same h ps ns rest (have_entries 0 ps ns)

nodes-same : (h : Head) (ps : List ProcedureParts) (rest : List ℕ) → (h.version == 4) ≡ false → nodes_at h 0 (procedure_forms ps) rest ≡ simple.nodes_at (rules_of h.version) h.region h.procedures h.nodes rest
unfolding nodes_at simple.nodes_at
nodes-same h ps rest k = ap (λ (b : Bool). several (node_by b h.version 0 (form_in (procedure_forms ps)) h.region h.procedures) key (0, 0) h.nodes rest) k

procedures-same : (h : Head) (rest : List ℕ) → (h.version == 4) ≡ false → procedures_at h 0 rest ≡ simple.procedures_at h.version h.region h.nodes h.procedures rest
unfolding procedures_at simple.procedures_at
procedures-same h rest k = ap (λ (b : Bool). several (procedure_by b h.version 0 h.region h.nodes) is_after true h.procedures rest) k

abbrev any_lists : Head → Rest (List ProcedureParts) → Rest Certificate
any_lists h r = any_entries (go_on {X = List Fact × Lists} (go_on {X = Lists} (go_on r (λ ps rest. go_on (nodes_at h 0 (procedure_forms ps) rest) (λ ns end. Ok ((ps, ns), end)))) (λ y end. Ok (([], y), end))) (λ y end. Ok ((h, y), end)))

abbrev older_lists : Head → Rest (List ProcedureParts) → Rest Certificate
older_lists h r = older_entries (go_on {X = Lists} (go_on r (λ ps rest. go_on (simple.nodes_at (rules_of h.version) h.region h.procedures h.nodes rest) (λ ns end. Ok ((ps, ns), end)))) (λ y end. Ok ((h, y), end)))

lists-same : (h : Head) (r : Rest (List ProcedureParts)) → (h.version == 4) ≡ false → any_lists h r ≡ older_lists h r
lists-same h (Err e) k = refl
lists-same h (Ok (ps, rest)) k =
    ap (λ (r : Rest (List Node)). any_entries (go_on {X = List Fact × Lists} (go_on {X = Lists} (go_on r (λ ns end. Ok ((ps, ns), end))) (λ y end. Ok (([], y), end))) (λ y end. Ok ((h, y), end)))) (nodes-same h ps rest k)
    ∙ entries-same h ps (simple.nodes_at (rules_of h.version) h.region h.procedures h.nodes rest) k

any_facts : Head → Rest (List Fact) → Rest Certificate
any_facts h r = any_entries (go_on {X = List Fact × Lists} (go_on r (λ fs rest. go_on (behind_facts h (length fs) rest) (λ y end. Ok ((fs, y), end)))) (λ y end. Ok ((h, y), end)))

behind-same : (h : Head) (rest : List ℕ) → (h.version == 4) ≡ false → any_facts h (facts_by (h.version == 4) h.region rest) ≡ older_lists h (simple.procedures_at h.version h.region h.nodes h.procedures rest)
unfolding any_facts
behind-same h rest k = ap (λ (b : Bool). any_facts h (facts_by b h.region rest)) k ∙ (ap (any_lists h) (procedures-same h rest k) ∙ lists-same h (simple.procedures_at h.version h.region h.nodes h.procedures rest) k)

-- ---- the head

abbrev Counts : Type 0
Counts = Region × (ℕ × ℕ)

abbrev any_counts : ℕ → Read Counts
any_counts v = both (region_at (any_rules_of v)) (both (procedure_count_at v) (node_count_at v))

abbrev older_counts : ℕ → Read Counts
older_counts v = both (region_at (rules_of v)) (both (checked fault.Field is_any (count_within procedure_limit)) (node_count_at v))

counts-same : (v : ℕ) (rest : List ℕ) → (v == 4) ≡ false → any_counts v rest ≡ older_counts v rest
unfolding procedure_count_at
counts-same v rest k = ap (λ (b : Bool). both (region_at (any_rules_by b v)) (both (checked fault.Field is_any (procedure_count_by b)) (node_count_at v)) rest) k

abbrev any_behind : Rest Head → Rest Certificate
any_behind r = any_entries (go_on r (λ h rest. go_on (behind_head h rest) (λ y end. Ok ((h, y), end))))

abbrev older_behind : Rest Head → Rest Certificate
older_behind r = older_entries (go_on r (λ h rest. go_on (both (simple.procedures_at h.version h.region h.nodes h.procedures) (simple.nodes_at (rules_of h.version) h.region h.procedures h.nodes) rest) (λ y end. Ok ((h, y), end))))

abbrev headed : ℕ → Rest Counts → Rest Head
headed v r = go_on {X = HeadParts} (go_on r (λ y end. Ok ((v, y), end))) (λ x rest. Ok (to_head x, rest))

headed-same : (v : ℕ) (r : Rest Counts) → (v == 4) ≡ false → any_behind (headed v r) ≡ older_behind (headed v r)
unfolding any_facts
headed-same v (Err e) k = refl
headed-same v (Ok (p, rest)) k = behind-same (to_head (v, p)) rest k

versioned-same : (r : Rest ℕ) → is_fourth r ≡ false
    → any_behind (go_on {X = HeadParts} (go_on r (λ v rest. go_on (any_counts v rest) (λ y end. Ok ((v, y), end)))) (λ x rest. Ok (to_head x, rest))) ≡ older_behind (go_on {X = HeadParts} (go_on r (λ v rest. go_on (older_counts v rest) (λ y end. Ok ((v, y), end)))) (λ x rest. Ok (to_head x, rest)))
versioned-same (Err e) h = refl
versioned-same (Ok (v, rest)) h = ap (λ (r : Rest Counts). any_behind (headed v r)) (counts-same v rest h) ∙ headed-same v (older_counts v rest) h

-- Where the version isn't 4 nothing else is read than before there was one.
pub reads_older : (bytes : List ℕ) → begins_fourth bytes ≡ false → read_certificate bytes ≡ simple.read_certificate bytes
unfolding read_certificate certificate_at any_head_at simple.read_certificate simple.certificate_at head_at
reads_older bytes h = ap (λ (r : Rest Certificate). go_on r ended) (versioned-same (any_version_at bytes) h ∙ ap (λ (r : Rest ℕ). older_behind (go_on {X = HeadParts} (go_on r (λ v rest. go_on (older_counts v rest) (λ y end. Ok ((v, y), end)))) (λ x rest. Ok (to_head x, rest)))) (older-version bytes h))

-- ---- rules and spelling

pub not-fourth : (v : ℕ) → is_version v ≡ true → (v == 4) ≡ false
not-fourth v h = elim (or_either (v == 1) (v == 2 || v == 3) h) [
  | inl e ↦ (let f = same v 1 e in rw f refl)
  | inr g ↦ elim (or_either (v == 2) (v == 3) g) [
    | inl e ↦ (let f = same v 2 e in rw f refl)
    | inr e ↦ (let f = same v 3 e in rw f refl)
  ]
]

any-version : (v : ℕ) → is_version v ≡ true → is_any_version v ≡ true
any-version v h = rw h refl

older-one : (v : ℕ) → is_any_version v ≡ true → (v == 4) ≡ false → is_version v ≡ true
older-one v h k = by (is_version v) (v == 4) h k
  where
    by : (a b : Bool) → (a || b) ≡ true → b ≡ false → a ≡ true
    by true b h k = refl
    by false true h k = cc
    by false false h k = cc

-- A certificate of versions 1 to 3 is one of any version.
pub any_certificate : (c : Certificate) → rules.IsCertificate c → IsCertificate c
any_certificate c h =
    let k = sym (not-fourth c.version h.version) in
    record {
      version = any-version c.version h.version;
      region = h.region;
      whole = subst (λ (b : Bool). is_whole (any_rules_by b c.version) (size c.region) ≡ true) k h.whole;
      some_procedure = h.some_procedure;
      procedure_count = subst (λ (b : Bool). length c.procedures ≤ procedure_limit_by b) k h.procedure_count;
      some_node = h.some_node;
      node_count = h.node_count;
      facts = subst (λ (b : Bool). AreFactsBy b c.region c.facts) k h.facts;
      procedures = subst (λ (b : Bool). IsChain (IsProcedureBy b c.version (length c.facts) c.region (length c.nodes)) is_after true c.procedures) k h.procedures;
      nodes = subst (λ (b : Bool). IsChain (IsNodeBy b c.version (length c.facts) (form_in (procedure_forms c.procedures)) c.region (length c.procedures)) key (0, 0) c.nodes) k h.nodes;
      entries = h.entries;
      order = subst (λ (b : Bool). in_order_by b c.procedures c.nodes ≡ true) k refl;
    }

-- One of any version but 4 is one of versions 1 to 3.
pub older_certificate : (c : Certificate) → IsCertificate c → (c.version == 4) ≡ false → rules.IsCertificate c
older_certificate c h k = record {
  version = older-one c.version h.version k;
  region = h.region;
  whole = subst (λ (b : Bool). is_whole (any_rules_by b c.version) (size c.region) ≡ true) k h.whole;
  some_procedure = h.some_procedure;
  procedure_count = subst (λ (b : Bool). length c.procedures ≤ procedure_limit_by b) k h.procedure_count;
  some_node = h.some_node;
  node_count = h.node_count;
  procedures = subst (λ (b : Bool). IsChain (IsProcedureBy b c.version (length c.facts) c.region (length c.nodes)) is_after true c.procedures) k h.procedures;
  nodes = subst (λ (b : Bool). IsChain (IsNodeBy b c.version (length c.facts) (form_in (procedure_forms c.procedures)) c.region (length c.procedures)) key (0, 0) c.nodes) k h.nodes;
  entries = h.entries;
  facts = subst (λ (b : Bool). AreFactsBy b c.region c.facts) k h.facts;
}

-- It has the same spelling.
pub spelled_older : (c : Certificate) → (c.version == 4) ≡ false → spelled.spelling c ≡ simple_spelled.spelling c
unfolding spelled.spelling spelled.head simple_spelled.spelling simple_spelled.head
spelled_older c k = ap (λ (b : Bool). spelled_by b c) k

pub any_spells : (bytes : List ℕ) (c : Certificate) → simple_spelled.Spells bytes c → spelled.Spells bytes c
any_spells bytes c h = record { is_certificate = any_certificate c h.is_certificate; is_spelling = h.is_spelling ∙ sym (spelled_older c (not-fourth c.version h.is_certificate.version)) }

pub older_spells : (bytes : List ℕ) (c : Certificate) → spelled.Spells bytes c → (c.version == 4) ≡ false → simple_spelled.Spells bytes c
older_spells bytes c h k = record { is_certificate = older_certificate c h.is_certificate k; is_spelling = h.is_spelling ∙ spelled_older c k }
