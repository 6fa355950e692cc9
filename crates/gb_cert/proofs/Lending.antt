-- What stands at the places of a certificate is lent: its nodes; and these are in order.
use Rattle.std.proofs.Common.{◌≡◌, ℕ, zero, suc, ◌≤◌, ◌<◌, Bool, true, false, ◌==◌, List, [], ◌∷◌, ◌++◌, length, get_or, drop, Some, Result, Ok, Err, refl, sym, ap, ◌∙◌, subst, append-nil, map, arith}
use Rattle.std.specs.Prelude.{slice_get}
use Rattle.std.specs.List.{flat_map}
use Rattle.std.proofs.lemmas.Bool.Decides.{nat_tests}
use Rattle.gb_ops.specs.declared.machine.Region.{Region}
use Rattle.gb_domain.specs.declared.summary.Fact.{Fact}
use Rattle.gb_domain.specs.Types.{AbsState, ProcedureParts, Node, state_of}
use Rattle.gb_domain.specs.Certificate.{Certificate}
use Rattle.gb_domain.specs.Limits.{rules_of}
use Rattle.gb_domain.specs.Rules.{IsChain}
use Rattle.gb_states.specs.declared.form.ProcedureForm.{ProcedureForm}
use Rattle.gb_states.specs.declared.form.Form.{Form}
use Rattle.gb_states.specs.Below.gb_fields.declared.fault.CertFault.{CertFault}
use Rattle.gb_states.specs.Below.gb_fields.Format.{both, byte}
use Rattle.gb_states.specs.Below.gb_fields.Limits.{procedure_limit_by}
use Rattle.gb_states.specs.Below.gb_fields.Reading.{word}
use Rattle.gb_states.specs.Rules.{is_from, key, role_of}
use Rattle.gb_states.specs.Forms.{form_by}
use Rattle.gb_states.specs.WholeRules.{procedure_forms, form_in, IsNodeBy, IsCertificate}
use Rattle.gb_states.specs.WholeReading.{number_by}
use Rattle.gb_states.specs.Spelling as simple
use Rattle.gb_states.specs.WholeSpelling as spelled
use Rattle.gb_rows.specs.Rows.{is_before, AreInOrder}
use Rattle.gb_cert.specs.Places.{AreAt, forms_if, IsLaid}
use Rattle.gb_cert.specs.Borrowed.{read_or, any_core, state_in, StateStands}
use Rattle.gb_states.proofs.Formats.{IsFormat-byte, IsFormat-both, same_pair}
use Rattle.gb_states.proofs.FieldLaws.{last_small, spelled_byte, IsFormat-word}
use Rattle.gb_states.proofs.StateLaws.{IsFormat-state}
use Rattle.gb_states.proofs.WholeStateLaws as whole
use Rattle.gb_cert.proofs.Placing.{at-each}
use Rattle.gb_cert.proofs.WholeCertificateLaws.{facts-few, few-kept}

pub some-at : {X : Type 0} (xs : List X) (i : ℕ) → i < length xs → (x : X) × (slice_get xs i ≡ Some x)
some-at [] i h = absurd (omega arith)
some-at (x ∷ xs) zero h = (x, refl)
some-at (x ∷ xs) (suc i) h = some-at xs i (omega arith)

pub chain-each : {S X : Type 0} (good : S → X → Type 0) (next : X → S) (s : S) (xs : List X) (i : ℕ) (x : X) → IsChain good next s xs → slice_get xs i ≡ Some x → (t : S) × good t x
chain-each good next s [] i x h e = cc
chain-each good next s (y ∷ ys) zero x h e = let same : y ≡ x = cc in (s, subst (good s) same h.0)
chain-each good next s (y ∷ ys) (suc i) x h e = chain-each good next (next y) ys i x h.1 e

pub no-error : {X : Type 0} (read : Result X CertFault) (x : X) (e : CertFault) → read ≡ Ok x → read ≡ Err e → ⊥
no-error read x e f g = cc

pub limit-most : (b : Bool) (n : ℕ) → n ≤ procedure_limit_by b → n ≤ 65535
limit-most true n h = h
limit-most false n h = omega (arith, h)

-- ---- what a certificate says

pub few-facts : (bytes : List ℕ) (version : ℕ) (region : Region) (facts : List Fact) (forms : List ProcedureForm) (procedures nodes : List ℕ) (c : Certificate) → IsLaid bytes version region facts forms procedures nodes c → length facts < 65536
few-facts bytes version region facts forms procedures nodes c laid = subst (λ (fs : List Fact). length fs < 65536) (sym laid.facts_are) (facts-few (c.version == 4) c.region c.facts laid.spells.is_certificate.facts)

pub small-last : (bytes : List ℕ) (version : ℕ) (region : Region) (facts : List Fact) (forms : List ProcedureForm) (procedures nodes : List ℕ) (c : Certificate) → IsLaid bytes version region facts forms procedures nodes c → region.last < 65535
small-last bytes version region facts forms procedures nodes c laid = subst (λ (r : Region). r.last < 65535) (sym laid.region_is) (last_small c.region.first c.region.last laid.spells.is_certificate.region.area)

-- ---- nodes

abbrev Front : Type 0
Front = ℕ × (ℕ × ℕ)

abbrev front_of : Node → Front
front_of n = (n.procedure, (n.address, n.bank))

-- the node that is lent
abbrev lent_node : Form → Region → Front → List ℕ → Node
lent_node form region front state = record { procedure = front.0; address = front.1.0; bank = front.1.1; state = state_in form (role_of front.0) region state }

record NodeStands (b : Bool) (version facts : ℕ) (forms : List ProcedureForm) (region : Region) (bytes : List ℕ) (n : Node) : Type 0 where
  pub rest : List ℕ
  pub front : both (number_by b) (both word word) bytes ≡ Ok (front_of n, rest)
  pub state : StateStands (form_by b version facts (form_in forms n.procedure)) (role_of n.procedure) region rest n.state

node-by : (b : Bool) (version facts : ℕ) (forms : List ProcedureForm) (region : Region) (procedures : ℕ) (before : ℕ × ℕ) (n : Node) (tail : List ℕ) → facts < 65536 → ((p : ℕ) → b ≡ true → (form_in forms p).kept ≤ 16) → procedures ≤ procedure_limit_by b
    → IsNodeBy b version facts (form_in forms) region procedures before n → NodeStands b version facts forms region (spelled.node_by b version region (form_in forms) n ++ tail) n
unfolding spelled.node simple.node
node-by true version facts forms region procedures before n tail small few many h =
    let p = h.procedure in
    let bank = h.bank in
    let rest : List ℕ = spelled.state region (form_in forms n.procedure).base n.state ++ tail in
    record {
      rest = rest;
      front = (IsFormat-both word (both word word) _ _ _ _ IsFormat-word (IsFormat-both word word _ _ _ _ IsFormat-word IsFormat-word)).again (front_of n) rest (omega (arith, p, many), (h.address, omega (arith, bank)));
      state = record {
        tail = tail;
        fit = (small, few n.procedure refl);
        parts = refl;
        is_state = h.state;
        is_read = (whole.IsFormat-state facts (form_in forms n.procedure) (role_of n.procedure) region small (few n.procedure refl)).again n.state tail h.state;
      };
    }
node-by false version facts forms region procedures before n tail small few many h =
    let p = h.procedure in
    let bank = h.bank in
    let rest : List ℕ = simple.state (rules_of version) n.state ++ tail in
    record {
      rest = rest;
      front = (IsFormat-both byte (both word word) spelled_byte _ _ _ IsFormat-byte (IsFormat-both word word _ _ _ _ IsFormat-word IsFormat-word)).again (front_of n) rest (omega (arith, p, many), (h.address, omega (arith, bank)));
      state = record { tail = tail; fit = tt; parts = refl; is_state = h.state; is_read = (IsFormat-state (rules_of version) (role_of n.procedure) region).again n.state tail h.state };
    }

-- Versions 1 to 3 need no form.
formed : (b : Bool) (version facts : ℕ) (ps : List ProcedureParts) (region : Region) (bytes : List ℕ) (n : Node) → NodeStands b version facts (procedure_forms ps) region bytes n → NodeStands b version facts (forms_if b ps) region bytes n
formed true version facts ps region bytes n h = record { rest = h.rest; front = h.front; state = h.state }
formed false version facts ps region bytes n h = record { rest = h.rest; front = h.front; state = h.state }

-- the node with this number stands at its place
node-stands : (bytes : List ℕ) (version : ℕ) (region : Region) (facts : List Fact) (forms : List ProcedureForm) (procedures nodes : List ℕ) (c : Certificate) (i : ℕ) → IsLaid bytes version region facts forms procedures nodes c → i < length c.nodes
    → (n : Node) × (slice_get c.nodes i ≡ Some n) × NodeStands (version == 4) version (length facts) forms region (drop (get_or nodes i 0) bytes) n
node-stands bytes version region facts forms procedures nodes c i laid lt =
    let one = some-at c.nodes i lt in
    let n = one.0 in
    let is = laid.spells.is_certificate in
    let at = at-each (spelled.node_by (c.version == 4) c.version c.region (form_in (procedure_forms c.procedures))) bytes [] nodes c.nodes i n laid.nodes_at one.1 in
    let good = chain-each (IsNodeBy (c.version == 4) c.version (length c.facts) (form_in (procedure_forms c.procedures)) c.region (length c.procedures)) key (0, 0) c.nodes i n is.nodes one.1 in
    let small = facts-few (c.version == 4) c.region c.facts is.facts in
    let few = few-kept (c.version == 4) c.version (length c.facts) c.region (length c.nodes) true c.procedures is.procedures in
    let made = node-by (c.version == 4) c.version (length c.facts) (procedure_forms c.procedures) c.region (length c.procedures) good.0 n at.tail small few is.procedure_count good.1 in
    let placed = subst (λ (b : List ℕ). NodeStands (c.version == 4) c.version (length c.facts) (procedure_forms c.procedures) c.region b n) (sym at.parts) made in
    let versioned = subst (λ (v : ℕ). NodeStands (v == 4) v (length c.facts) (procedure_forms c.procedures) c.region (drop (get_or nodes i 0) bytes) n) (sym laid.version_is) placed in
    let regioned = subst (λ (r : Region). NodeStands (version == 4) version (length c.facts) (procedure_forms c.procedures) r (drop (get_or nodes i 0) bytes) n) (sym laid.region_is) versioned in
    let unformed = formed (version == 4) version (length c.facts) c.procedures region (drop (get_or nodes i 0) bytes) n regioned in
    let by_version = subst (λ (v : ℕ). NodeStands (version == 4) version (length c.facts) (forms_if (v == 4) c.procedures) region (drop (get_or nodes i 0) bytes) n) laid.version_is unformed in
    let counted = subst (λ (fs : List ProcedureForm). NodeStands (version == 4) version (length c.facts) fs region (drop (get_or nodes i 0) bytes) n) (sym laid.forms_are) by_version in
    (n, one.1, subst (λ (fs : List Fact). NodeStands (version == 4) version (length fs) forms region (drop (get_or nodes i 0) bytes) n) (sym laid.facts_are) counted)

pub node-front : (bytes : List ℕ) (version : ℕ) (region : Region) (facts : List Fact) (forms : List ProcedureForm) (procedures nodes : List ℕ) (c : Certificate) (i : ℕ) (e : CertFault) → IsLaid bytes version region facts forms procedures nodes c → i < length c.nodes
    → both (number_by (version == 4)) (both word word) (drop (get_or nodes i 0) bytes) ≡ Err e → ⊥
node-front bytes version region facts forms procedures nodes c i e laid lt wrong =
    let s = node-stands bytes version region facts forms procedures nodes c i laid lt in
    no-error _ _ _ s.2.front wrong

-- The node that is lent is the certificate's, and its state stands.
abbrev pub IsLent : Certificate → ℕ → Form → Region → Front → List ℕ → Type 0
IsLent c i form region front state = StateStands form (role_of front.0) region state (state_in form (role_of front.0) region state) × (slice_get c.nodes i ≡ Some (lent_node form region front state))

pub node-lent : (bytes : List ℕ) (version : ℕ) (region : Region) (facts : List Fact) (forms : List ProcedureForm) (procedures nodes : List ℕ) (c : Certificate) (i : ℕ) (front : Front) (state : List ℕ) → IsLaid bytes version region facts forms procedures nodes c → i < length c.nodes
    → both (number_by (version == 4)) (both word word) (drop (get_or nodes i 0) bytes) ≡ Ok (front, state) → IsLent c i (form_by (version == 4) version (length facts) (form_in forms front.0)) region front state
node-lent bytes version region facts forms procedures nodes c i front state laid lt right =
    let s = node-stands bytes version region facts forms procedures nodes c i laid lt in
    let n = s.0 in
    let stands = s.2 in
    let form : ℕ → Form = λ p. form_by (version == 4) version (length facts) (form_in forms p) in
    let p = same_pair (front_of n) front stands.rest state (sym stands.front ∙ right) in
    let of_rest : state_in (form n.procedure) (role_of n.procedure) region stands.rest ≡ n.state = ap (read_or (state_of any_core)) stands.state.is_read in
    let there : StateStands (form n.procedure) (role_of n.procedure) region stands.rest (state_in (form n.procedure) (role_of n.procedure) region stands.rest) = subst (λ z. StateStands (form n.procedure) (role_of n.procedure) region stands.rest z) (sym of_rest) stands.state in
    let same : slice_get c.nodes i ≡ Some (lent_node (form n.procedure) region (front_of n) stands.rest) = s.1 ∙ ap (λ (z : AbsState). (let m : Node = record { procedure = n.procedure; address = n.address; bank = n.bank; state = z } in Some m)) (sym of_rest) in
    subst (λ (f : Front). IsLent c i (form f.0) region f state) p.0 (subst (λ r. IsLent c i (form n.procedure) region (front_of n) r) p.1 (there, same))

-- ---- all nodes

pub nodes-lent : (bytes : List ℕ) (version : ℕ) (region : Region) (facts : List Fact) (forms : List ProcedureForm) (procedures nodes : List ℕ) (c : Certificate) → IsLaid bytes version region facts forms procedures nodes c → drop (get_or nodes 0 0) bytes ≡ spelled.nodes c.version c.region c.procedures c.nodes
nodes-lent bytes version region facts forms procedures nodes c laid = by (spelled.node_by (c.version == 4) c.version c.region (form_in (procedure_forms c.procedures))) nodes c.nodes laid.spells.is_certificate.some_node laid.nodes_at
  where
    by : (write : Node → List ℕ) (ps : List ℕ) (xs : List Node) → 0 < length xs → AreAt write bytes [] ps xs → drop (get_or ps 0 0) bytes ≡ flat_map write xs
    by write [] [] some h = absurd (omega arith)
    by write (p ∷ ps) (x ∷ xs) some h = h.0 ∙ append-nil (flat_map write (x ∷ xs))
    by write [] (x ∷ xs) some h = absurd h
    by write (p ∷ ps) [] some h = absurd h

-- ---- the order of the nodes

from-trans : (a b c : ℕ × ℕ) → is_from a b ≡ true → is_from b c ≡ true → is_from a c ≡ true
from-trans a b c g h = grind (arith, nat_tests)

from-not : (a b : ℕ × ℕ) → is_from a b ≡ true → is_before b a ≡ false
from-not a b h = grind (arith, nat_tests)

self-not : (a b : ℕ × ℕ) → a ≡ b → is_before b a ≡ false
self-not a b e = rw e (same b.0 b.1)
  where
    same : (m n : ℕ) → is_before (m, n) (m, n) ≡ false
    same m n = grind (arith, nat_tests)

order_of : (b : Bool) (version facts : ℕ) (form_of : ℕ → ProcedureForm) (region : Region) (procedures : ℕ) (before : ℕ × ℕ) (n : Node) → IsNodeBy b version facts form_of region procedures before n → is_from before (key n) ≡ true
order_of true version facts form_of region procedures before n h = h.order
order_of false version facts form_of region procedures before n h = h.order

chain-from : (good : ℕ × ℕ → Node → Type 0) (before : ℕ × ℕ) (nodes : List Node) (i : ℕ) (k : ℕ × ℕ) → ((s : ℕ × ℕ) (n : Node) → good s n → is_from s (key n) ≡ true) → IsChain good key before nodes → slice_get (map key nodes) i ≡ Some k → is_from before k ≡ true
chain-from good before [] i k each h e = cc
chain-from good before (n ∷ ns) zero k each h e = let same : key n ≡ k = cc in subst (λ z. is_from before z ≡ true) same (each before n h.0)
chain-from good before (n ∷ ns) (suc i) k each h e = from-trans before (key n) k (each before n h.0) (chain-from good (key n) ns i k each h.1 e)

in-order : (good : ℕ × ℕ → Node → Type 0) (before : ℕ × ℕ) (nodes : List Node) → ((s : ℕ × ℕ) (n : Node) → good s n → is_from s (key n) ≡ true) → IsChain good key before nodes → AreInOrder (map key nodes)
in-order good before [] each h i j a b le e f = cc
in-order good before (n ∷ ns) each h zero zero a b le e f = let same : a ≡ b = cc in self-not a b same
in-order good before (n ∷ ns) each h zero (suc j) a b le e f = let same : key n ≡ a = cc in from-not a b (subst (λ z. is_from z b ≡ true) same (chain-from good (key n) ns j b each h.1 f))
in-order good before (n ∷ ns) each h (suc i) zero a b le e f = absurd (omega arith)
in-order good before (n ∷ ns) each h (suc i) (suc j) a b le e f = in-order good (key n) ns each h.1 i j a b (omega arith) e f

pub keys-in-order : (c : Certificate) → IsCertificate c → AreInOrder (map key c.nodes)
keys-in-order c h =
    in-order (IsNodeBy (c.version == 4) c.version (length c.facts) (form_in (procedure_forms c.procedures)) c.region (length c.procedures)) (0, 0) c.nodes
    (order_of (c.version == 4) c.version (length c.facts) (form_in (procedure_forms c.procedures)) c.region (length c.procedures)) h.nodes

pub key-at : (nodes : List Node) (i : ℕ) (n : Node) → slice_get nodes i ≡ Some n → slice_get (map key nodes) i ≡ Some (key n)
key-at [] i n e = cc
key-at (m ∷ ms) zero n e = let same : m ≡ n = cc in ap (λ (z : Node). Some (key z)) same
key-at (m ∷ ms) (suc i) n e = key-at ms i n e
