-- What stands at the places of a certificate is lent: its procedures.
use Rattle.std.proofs.Common.{◌≡◌, ℕ, zero, suc, ◌≤◌, ◌<◌, Bool, true, false, ◌&&◌, ◌==◌, List, [], ◌∷◌, length, get_or, drop, Option, Some, None, Result, Ok, Err, refl, sym, ap, ◌∙◌, subst, arith}
use Rattle.std.specs.Prelude.{slice_get, is_ok}
use Rattle.std.proofs.lemmas.Bool.Decides.{nat_tests}
use Rattle.gb_ops.specs.declared.machine.Region.{Region}
use Rattle.gb_domain.specs.declared.summary.Fact.{Fact}
use Rattle.gb_domain.specs.declared.rules.Rules.{Rules}
use Rattle.gb_domain.specs.declared.rules.Rules.TheVariants.{Simple}
use Rattle.gb_domain.specs.Limits.{rules_of}
use Rattle.gb_domain.specs.Rules.{IsChain}
use Rattle.gb_domain.specs.Types.{AbsState, ProcedureParts, state_of}
use Rattle.gb_domain.specs.Certificate.{Certificate}
use Rattle.gb_states.specs.declared.form.ProcedureForm.{ProcedureForm}
use Rattle.gb_states.specs.declared.form.Form.{Form}
use Rattle.gb_states.specs.declared.form.Form.TheVariants.{Older, Fourth}
use Rattle.gb_states.specs.declared.role.Role.TheVariants as role
use Rattle.gb_states.specs.Below.gb_fields.declared.fault.CertFault.{CertFault}
use Rattle.gb_states.specs.Below.gb_fields.declared.fault.CertFault.TheVariants as fault
use Rattle.gb_states.specs.Below.gb_fields.Format.{Read, go_on, if_passes, followed, both, mapped, checked, optional}
use Rattle.gb_states.specs.Below.gb_fields.Reading.{base_at, need_at, node_number, entry_at, is_below, may_return, returns_at, yes_no}
use Rattle.gb_states.specs.Below.gb_fields.Rules.{usual_base}
use Rattle.gb_states.specs.Rules.{is_after}
use Rattle.gb_states.specs.Forms.{IsFit, IsStateBy, spelled_by, state_by}
use Rattle.gb_states.specs.Reading as simple
use Rattle.gb_states.specs.Reading.{ranges_at}
use Rattle.gb_states.specs.WholeRules.{IsProcedureBy}
use Rattle.gb_states.specs.WholeReading as whole
use Rattle.gb_states.specs.WholeReading.{procedure_by, to_procedure}
use Rattle.gb_states.specs.WholeSpelling as spelled
use Rattle.gb_cert.specs.Skipping.{skipped}
use Rattle.gb_cert.specs.Places.{IsLaid}
use Rattle.gb_cert.specs.Borrowed.{read_or, any_core, any_body, state_in, exit_by, exit_in, front_at, names_by, exit_form, named_by, Named, needed_by, Body, body_by, body_of, procedure_in, StateStands, BodyStands}
use Rattle.gb_states.proofs.Formats.{IsBytes, IsFormat, IsFormat-checked, went_on, same_pair}
use Rattle.gb_states.proofs.FieldLaws.{same, last_small, spelled_flag, IsFormat-yes_no}
use Rattle.gb_states.proofs.StateLaws.{IsFormat-state}
use Rattle.gb_states.proofs.WholeStateLaws as fourth
use Rattle.gb_states.proofs.WholeNodeLaws.{room_few}
use Rattle.gb_cert.proofs.Placing.{at-each}
use Rattle.gb_cert.proofs.WholeCertificateLaws.{facts-few, IsFormat-procedure_by}
use Rattle.gb_cert.proofs.Lending.{some-at, no-error, few-facts, small-last}

-- ---- what is read one behind the other

followed_parts : {X Y : Type 0} (r : Read X) (t : X → Read Y) (bytes : List ℕ) (x : X) (y : Y) (tail : List ℕ) → followed r t bytes ≡ Ok ((x, y), tail) → (mid : List ℕ) × (r bytes ≡ Ok (x, mid)) × (t x mid ≡ Ok (y, tail))
followed_parts {X} {Y} r t bytes x y tail e =
    let c = went_on (r bytes) (λ x rest. go_on (t x rest) (λ y end. Ok ((x, y), end))) ((x, y), tail) e in
    let d = went_on (t c.0 c.1) (λ y end. Ok ((c.0, y), end)) ((x, y), tail) c.3 in
    let p = same_pair (c.0, d.0) (x, y) d.1 tail d.3 in
    let fx : c.0 ≡ x = ap (λ (q : X × Y). q.0) p.0 in
    let fy : d.0 ≡ y = ap (λ (q : X × Y). q.1) p.0 in
    let behind = subst (λ (z : X). t z c.1 ≡ Ok (d.0, d.1)) fx d.2 in
    (c.1, c.2 ∙ ap (λ (z : X). (let q : Result (X × List ℕ) CertFault = Ok (z, c.1) in q)) fx, behind ∙ ap (λ (z : Y). (let q : Result (Y × List ℕ) CertFault = Ok (z, d.1) in q)) fy ∙ ap (λ (z : List ℕ). (let q : Result (Y × List ℕ) CertFault = Ok (y, z) in q)) p.1)

both_parts : {X Y : Type 0} (r : Read X) (t : Read Y) (bytes : List ℕ) (x : X) (y : Y) (tail : List ℕ) → both r t bytes ≡ Ok ((x, y), tail) → (mid : List ℕ) × (r bytes ≡ Ok (x, mid)) × (t mid ≡ Ok (y, tail))
both_parts {X} {Y} r t bytes x y tail e = followed_parts r (λ (z : X). t) bytes x y tail e

mapped_parts : {X Y : Type 0} (f : X → Y) (r : Result (X × List ℕ) CertFault) (y : Y) (tail : List ℕ) → go_on r (λ x rest. (let q : Result (Y × List ℕ) CertFault = Ok (f x, rest) in q)) ≡ Ok (y, tail) → (x : X) × (r ≡ Ok (x, tail)) × (f x ≡ y)
mapped_parts {X} {Y} f r y tail e =
    let c = went_on r (λ x rest. (let q : Result (Y × List ℕ) CertFault = Ok (f x, rest) in q)) (y, tail) e in
    let p = same_pair (f c.0) y c.1 tail c.3 in
    (c.0, c.2 ∙ ap (λ (z : List ℕ). (let q : Result (X × List ℕ) CertFault = Ok (c.0, z) in q)) p.1, p.0)

passed : {X : Type 0} (d : CertFault) (b : Bool) (x y : X) (rest tail : List ℕ) → if_passes d b x rest ≡ Ok (y, tail) → (let q : Result (X × List ℕ) CertFault = Ok (x, rest) in q) ≡ Ok (y, tail)
passed d true x y rest tail e = e
passed d false x y rest tail e = cc

checked_parts : {X : Type 0} (d : CertFault) (p : X → Bool) (r : Read X) (bytes : List ℕ) (x : X) (tail : List ℕ) → checked d p r bytes ≡ Ok (x, tail) → r bytes ≡ Ok (x, tail)
checked_parts {X} d p r bytes x tail e =
    let c = went_on (r bytes) (λ x rest. if_passes d (p x) x rest) (x, tail) e in
    c.2 ∙ passed d (p c.0) c.0 x c.1 tail c.3

-- ---- procedures

-- The entry of a procedure is read, and its other parts stand behind it.
record ProcedureStands (b : Bool) (version facts : ℕ) (is_main : Bool) (region : Region) (bytes : List ℕ) (p : ProcedureParts) : Type 0 where
  pub rest : List ℕ
  pub tail : List ℕ
  pub entry : node_number version bytes ≡ Ok (p.entry, rest)
  pub body : body_by b version facts is_main region rest ≡ Ok (body_of p, tail)

abbrev older_body : simple.Body → Body
older_body b = (b.0, (b.1.0, (b.1.1.0, (([], 0), b.1.1.1))))

-- the parts of a body that versions 1 to 3 have
older-body : (version facts : ℕ) (is_main : Bool) (region : Region) (bytes : List ℕ) (b : simple.Body) (tail : List ℕ) → simple.body_at (rules_of version) is_main region bytes ≡ Ok (b, tail) → body_by false version facts is_main region bytes ≡ Ok (older_body b, tail)
unfolding exit_by simple.exit_at
older-body version facts is_main region bytes b tail e =
    let one = both_parts (base_at (rules_of version) is_main region) (simple.needed_at (rules_of version) is_main region) bytes b.0 b.1 tail e in
    let two = both_parts (need_at (rules_of version) is_main region) (both (ranges_at (rules_of version) is_main region) (simple.exit_at (rules_of version) is_main region)) one.0 b.1.0 b.1.1 tail one.2 in
    let three = both_parts (ranges_at (rules_of version) is_main region) (simple.exit_at (rules_of version) is_main region) two.0 b.1.1.0 b.1.1.1 tail two.2 in
    rw (one.1, two.1, three.1, three.2) refl

older-stands : (version facts : ℕ) (region : Region) (nodes : ℕ) (is_main : Bool) (bytes : List ℕ) (p : ProcedureParts) (tail : List ℕ) → simple.procedure_at version region nodes is_main bytes ≡ Ok (p, tail) → ProcedureStands false version facts is_main region bytes p
unfolding simple.procedure_at entry_at
older-stands version facts region nodes is_main bytes p tail e =
    let m = mapped_parts simple.to_procedure (both (entry_at version nodes) (simple.body_at (rules_of version) is_main region) bytes) p tail e in
    let x : ℕ × simple.Body = m.0 in
    let a = both_parts (entry_at version nodes) (simple.body_at (rules_of version) is_main region) bytes m.0.0 m.0.1 tail m.1 in
    let made : ProcedureStands false version facts is_main region bytes (simple.to_procedure m.0) = record {
      rest = a.0;
      tail = tail;
      entry = checked_parts fault.Field (is_below nodes) (node_number version) bytes m.0.0 a.0 a.1;
      body = older-body version facts is_main region a.0 m.0.1 tail a.2;
    } in
    subst (λ (q : ProcedureParts). ProcedureStands false version facts is_main region bytes q) m.2 made

fourth-stands : (facts : ℕ) (region : Region) (nodes : ℕ) (is_main : Bool) (bytes : List ℕ) (p : ProcedureParts) (tail : List ℕ) → whole.procedure_at facts region nodes is_main bytes ≡ Ok (p, tail) → ProcedureStands true 4 facts is_main region bytes p
unfolding whole.procedure_at whole.named_at whole.exit_at exit_by entry_at rules_of
fourth-stands facts region nodes is_main bytes p tail e =
    let m = mapped_parts to_procedure (both (entry_at 4 nodes) (body_by true 4 facts is_main region) bytes) p tail e in
    let a = both_parts (entry_at 4 nodes) (body_by true 4 facts is_main region) bytes m.0.0 m.0.1 tail m.1 in
    let made : ProcedureStands true 4 facts is_main region bytes (to_procedure m.0) = record {
      rest = a.0;
      tail = tail;
      entry = checked_parts fault.Field (is_below nodes) (node_number 4) bytes m.0.0 a.0 a.1;
      body = a.2;
    } in
    subst (λ (q : ProcedureParts). ProcedureStands true 4 facts is_main region bytes q) m.2 made

stands-by : (b : Bool) (version facts : ℕ) (region : Region) (nodes : ℕ) (is_main : Bool) (bytes : List ℕ) (p : ProcedureParts) (tail : List ℕ) → (b ≡ true → version ≡ 4) → procedure_by b version facts region nodes is_main bytes ≡ Ok (p, tail) → ProcedureStands b version facts is_main region bytes p
stands-by true version facts region nodes is_main bytes p tail four e = subst (λ (v : ℕ). ProcedureStands true v facts is_main region bytes p) (sym (four refl)) (fourth-stands facts region nodes is_main bytes p tail e)
stands-by false version facts region nodes is_main bytes p tail four e = older-stands version facts region nodes is_main bytes p tail e

pub first_is : ℕ → Bool
first_is zero = true
first_is (suc i) = false

pub is-first : (i : ℕ) → first_is i ≡ (i == 0)
unfolding first_is
is-first zero = refl
is-first (suc i) = grind (arith, nat_tests)

pub chain-first : (b : Bool) (version facts : ℕ) (region : Region) (nodes : ℕ) (s : Bool) (ps : List ProcedureParts) (i : ℕ) (p : ProcedureParts) → IsChain (IsProcedureBy b version facts region nodes) is_after s ps → slice_get ps i ≡ Some p → IsProcedureBy b version facts region nodes (s && first_is i) p
unfolding first_is
chain-first b version facts region nodes s [] i p h e = cc
chain-first b version facts region nodes true (q ∷ qs) zero p h e = let same : q ≡ p = cc in subst (IsProcedureBy b version facts region nodes true) same h.0
chain-first b version facts region nodes false (q ∷ qs) zero p h e = let same : q ≡ p = cc in subst (IsProcedureBy b version facts region nodes false) same h.0
chain-first b version facts region nodes true (q ∷ qs) (suc i) p h e = chain-first b version facts region nodes false qs i p h.1 e
chain-first b version facts region nodes false (q ∷ qs) (suc i) p h e = chain-first b version facts region nodes false qs i p h.1 e

kept-few : (b : Bool) (version facts : ℕ) (region : Region) (nodes : ℕ) (is_main : Bool) (p : ProcedureParts) → IsProcedureBy b version facts region nodes is_main p → length p.kept ≤ 16
kept-few true version facts region nodes is_main p h = room_few is_main region p.kept h.kept
kept-few false version facts region nodes is_main p h = let none : length p.kept ≡ 0 = ap (λ (a : List ℕ). length a) h.kept in omega (arith, none)

-- the procedure with this number stands at its place
record IsThere (version : ℕ) (region : Region) (facts : ℕ) (place : List ℕ) (c : Certificate) (i : ℕ) : Type 0 where
  pub p : ProcedureParts
  pub at : slice_get c.procedures i ≡ Some p
  pub few : length p.kept ≤ 16
  pub stands : ProcedureStands (version == 4) version facts (i == 0) region place p

procedure-there : (bytes : List ℕ) (version : ℕ) (region : Region) (facts : List Fact) (forms : List ProcedureForm) (procedures nodes : List ℕ) (c : Certificate) (i : ℕ) → IsLaid bytes version region facts forms procedures nodes c → i < length c.procedures → IsThere version region (length facts) (drop (get_or procedures i 0) bytes) c i
procedure-there bytes version region facts forms procedures nodes c i laid lt =
    let one = some-at c.procedures i lt in
    let p = one.0 in
    let is = laid.spells.is_certificate in
    let at = at-each (spelled.procedure_by (c.version == 4) c.version c.region) bytes (spelled.nodes c.version c.region c.procedures c.nodes) procedures c.procedures i p laid.procedures_at one.1 in
    let first = chain-first (c.version == 4) c.version (length c.facts) c.region (length c.nodes) true c.procedures i p is.procedures one.1 in
    let good = subst (λ (m : Bool). IsProcedureBy (c.version == 4) c.version (length c.facts) c.region (length c.nodes) m p) (is-first i) first in
    let small = facts-few (c.version == 4) c.region c.facts is.facts in
    let last = last_small c.region.first c.region.last is.region.area in
    let read : procedure_by (c.version == 4) c.version (length c.facts) c.region (length c.nodes) (i == 0) (drop (get_or procedures i 0) bytes) ≡ Ok (p, at.tail) =
    ap (procedure_by (c.version == 4) c.version (length c.facts) c.region (length c.nodes) (i == 0)) at.parts ∙ (IsFormat-procedure_by (c.version == 4) c.version (length c.facts) c.region (length c.nodes) (i == 0) refl small is.node_count last).again p at.tail good in
    let stands = stands-by (c.version == 4) c.version (length c.facts) c.region (length c.nodes) (i == 0) (drop (get_or procedures i 0) bytes) p at.tail (λ e. same c.version 4 e) read in
    let versioned = subst (λ (v : ℕ). ProcedureStands (v == 4) v (length c.facts) (i == 0) c.region (drop (get_or procedures i 0) bytes) p) (sym laid.version_is) stands in
    let regioned = subst (λ (r : Region). ProcedureStands (version == 4) version (length c.facts) (i == 0) r (drop (get_or procedures i 0) bytes) p) (sym laid.region_is) versioned in
    record {
      p = p;
      at = one.1;
      few = kept-few (c.version == 4) c.version (length c.facts) c.region (length c.nodes) (i == 0) p good;
      stands = subst (λ (fs : List Fact). ProcedureStands (version == 4) version (length fs) (i == 0) region (drop (get_or procedures i 0) bytes) p) (sym laid.facts_are) regioned;
    }

pub procedure-entry : (bytes : List ℕ) (version : ℕ) (region : Region) (facts : List Fact) (forms : List ProcedureForm) (procedures nodes : List ℕ) (c : Certificate) (i : ℕ) (e : CertFault) → IsLaid bytes version region facts forms procedures nodes c → i < length c.procedures
    → node_number version (drop (get_or procedures i 0) bytes) ≡ Err e → ⊥
procedure-entry bytes version region facts forms procedures nodes c i e laid lt wrong =
    let s = procedure-there bytes version region facts forms procedures nodes c i laid lt in
    no-error _ _ _ s.stands.entry wrong

-- The procedure that is lent is the certificate's, and all but its entry stands.
abbrev pub IsLent : Certificate → ℕ → ℕ → ℕ → Region → ℕ → List ℕ → Type 0
IsLent c i version facts region entry body =
    BodyStands (version == 4) version facts (i == 0) region body (procedure_in (version == 4) version facts (i == 0) entry region body)
    × (slice_get c.procedures i ≡ Some (procedure_in (version == 4) version facts (i == 0) entry region body))

pub procedure-lent : (bytes : List ℕ) (version : ℕ) (region : Region) (facts : List Fact) (forms : List ProcedureForm) (procedures nodes : List ℕ) (c : Certificate) (i entry : ℕ) (body : List ℕ) → IsLaid bytes version region facts forms procedures nodes c → i < length c.procedures
    → node_number version (drop (get_or procedures i 0) bytes) ≡ Ok (entry, body) → IsLent c i version (length facts) region entry body
procedure-lent bytes version region facts forms procedures nodes c i entry body laid lt right =
    let s = procedure-there bytes version region facts forms procedures nodes c i laid lt in
    let p = s.p in
    let n = s.stands in
    let q = same_pair p.entry entry n.rest body (sym n.entry ∙ right) in
    let of_rest : procedure_in (version == 4) version (length facts) (i == 0) p.entry region n.rest ≡ p = ap (λ (r : Result (Body × List ℕ) CertFault). to_procedure (p.entry, read_or any_body r)) n.body in
    let made : BodyStands (version == 4) version (length facts) (i == 0) region n.rest p = record {
      tail = n.tail;
      facts_few = few-facts bytes version region facts forms procedures nodes c laid;
      kept_few = s.few;
      last = small-last bytes version region facts forms procedures nodes c laid;
      is_read = n.body;
    } in
    let there = subst (λ z. BodyStands (version == 4) version (length facts) (i == 0) region n.rest z) (sym of_rest) made in
    let at : slice_get c.procedures i ≡ Some (procedure_in (version == 4) version (length facts) (i == 0) p.entry region n.rest) = s.at ∙ ap (λ (z : ProcedureParts). Some z) (sym of_rest) in
    subst (λ f. IsLent c i version (length facts) region f body) q.0 (subst (λ r. IsLent c i version (length facts) region p.entry r) q.1 (there, at))

-- ---- the parts of a body, one behind the other

-- what is read first, passed over
left_is : (a b : List ℕ) → (let r : Result (List ℕ) CertFault = Ok a in r) ≡ Ok b → a ≡ b
left_is a b e = cc

record IsBehind (b : Bool) (version facts : ℕ) (is_main : Bool) (region : Region) (bytes : List ℕ) (p : ProcedureParts) (tail : List ℕ) : Type 0 where
  pub rest : List ℕ
  pub front : skipped (front_at (rules_of version) is_main region) bytes ≡ Ok rest
  pub named : named_by b version facts is_main region p.base rest ≡ Ok (((p.kept, p.mark), p.exit), tail)

behind-front : (b : Bool) (version facts : ℕ) (is_main : Bool) (region : Region) (bytes : List ℕ) (p : ProcedureParts) (h : BodyStands b version facts is_main region bytes p) → IsBehind b version facts is_main region bytes p h.tail
behind-front b version facts is_main region bytes p h =
    let named : Read Named = named_by b version facts is_main region p.base in
    let one = followed_parts (base_at (rules_of version) is_main region) (needed_by b version facts is_main region) bytes p.base (p.need, (p.ranges, ((p.kept, p.mark), p.exit))) h.tail h.is_read in
    let two = both_parts (need_at (rules_of version) is_main region) (both (ranges_at (rules_of version) is_main region) named) one.0 p.need (p.ranges, ((p.kept, p.mark), p.exit)) h.tail one.2 in
    let three = both_parts (ranges_at (rules_of version) is_main region) named two.0 p.ranges ((p.kept, p.mark), p.exit) h.tail two.2 in
    record { rest = three.0; front = rw (one.1, two.1, three.1) refl; named = three.2 }

-- the base that versions 1 and 2 don't say
pub usual-base : (b : Bool) (version facts : ℕ) (is_main : Bool) (region : Region) (bytes : List ℕ) (p : ProcedureParts) → BodyStands b version facts is_main region bytes p → rules_of version ≡ Simple → usual_base is_main region ≡ p.base
unfolding base_at
usual-base b version facts is_main region bytes p h simple =
    let one = followed_parts (base_at (rules_of version) is_main region) (needed_by b version facts is_main region) bytes p.base (p.need, (p.ranges, ((p.kept, p.mark), p.exit))) h.tail h.is_read in
    (same_pair (usual_base is_main region) p.base bytes one.0 (ap (λ (r : Rules). base_at r is_main region bytes) (sym simple) ∙ one.1)).0

pub front-right : (b : Bool) (version facts : ℕ) (is_main : Bool) (region : Region) (bytes : List ℕ) (p : ProcedureParts) (e : CertFault) → BodyStands b version facts is_main region bytes p → skipped (front_at (rules_of version) is_main region) bytes ≡ Err e → ⊥
front-right b version facts is_main region bytes p e h wrong = no-error _ _ _ (behind-front b version facts is_main region bytes p h).front wrong

-- What is read of the names is what the procedure says, and its exit stands behind them.
pub record AreNames (b : Bool) (version facts : ℕ) (is_main : Bool) (region : Region) (rest : List ℕ) (p : ProcedureParts) : Type 0 where
  pub behind : List ℕ
  pub names : names_by b is_main region rest ≡ Ok ((p.kept, p.mark), behind)
  pub fit : IsFit (exit_form b version facts p.base (p.kept, p.mark))
  pub right : is_ok (exit_by (exit_form b version facts p.base (p.kept, p.mark)) is_main region behind) ≡ true
  pub exit : exit_in (exit_form b version facts p.base (p.kept, p.mark)) is_main region behind ≡ p.exit

fit-by : (b : Bool) (version facts base : ℕ) (d : List ℕ × ℕ) → facts < 65536 → length d.0 ≤ 16 → IsFit (exit_form b version facts base d)
fit-by true version facts base d small few = (small, few)
fit-by false version facts base d small few = tt

names-behind : (b : Bool) (version facts : ℕ) (is_main : Bool) (region : Region) (bytes rest : List ℕ) (p : ProcedureParts) → BodyStands b version facts is_main region bytes p → skipped (front_at (rules_of version) is_main region) bytes ≡ Ok rest → AreNames b version facts is_main region rest p
names-behind b version facts is_main region bytes rest p h e =
    let k = behind-front b version facts is_main region bytes p h in
    let at : k.rest ≡ rest = left_is k.rest rest (sym k.front ∙ e) in
    let read = ap (named_by b version facts is_main region p.base) (sym at) ∙ k.named in
    let parts = followed_parts (names_by b is_main region) (λ d. exit_by (exit_form b version facts p.base d) is_main region) rest (p.kept, p.mark) p.exit h.tail read in
    record { behind = parts.0; names = parts.1; fit = fit-by b version facts p.base (p.kept, p.mark) h.facts_few h.kept_few; right = ap is_ok parts.2; exit = ap (read_or None) parts.2 }

pub names-right : (b : Bool) (version facts : ℕ) (is_main : Bool) (region : Region) (bytes rest : List ℕ) (p : ProcedureParts) (e : CertFault) → BodyStands b version facts is_main region bytes p → skipped (front_at (rules_of version) is_main region) bytes ≡ Ok rest → names_by b is_main region rest ≡ Err e → ⊥
names-right b version facts is_main region bytes rest p e h front wrong = no-error _ _ _ (names-behind b version facts is_main region bytes rest p h front).names wrong

-- what was read of them
pub record AreRead (form : Form) (is_main : Bool) (region : Region) (behind : List ℕ) (p : ProcedureParts) (kept : List ℕ) (mark : ℕ) : Type 0 where
  pub kept_is : kept ≡ p.kept
  pub mark_is : mark ≡ p.mark
  pub few : length kept ≤ 16
  pub fit : IsFit form
  pub right : is_ok (exit_by form is_main region behind) ≡ true
  pub exit : exit_in form is_main region behind ≡ p.exit

pub names-read : (b : Bool) (version facts : ℕ) (is_main : Bool) (region : Region) (bytes rest : List ℕ) (p : ProcedureParts) (kept : List ℕ) (mark : ℕ) (behind : List ℕ) → BodyStands b version facts is_main region bytes p → skipped (front_at (rules_of version) is_main region) bytes ≡ Ok rest
    → names_by b is_main region rest ≡ Ok ((kept, mark), behind) → AreRead (exit_form b version facts p.base (kept, mark)) is_main region behind p kept mark
names-read b version facts is_main region bytes rest p kept mark behind h front read =
    let n = names-behind b version facts is_main region bytes rest p h front in
    let q = same_pair (p.kept, p.mark) (kept, mark) n.behind behind (sym n.names ∙ read) in
    let k : p.kept ≡ kept = ap (λ (x : List ℕ × ℕ). x.0) q.0 in
    let m : p.mark ≡ mark = ap (λ (x : List ℕ × ℕ). x.1) q.0 in
    let form : List ℕ × ℕ → Form = λ d. exit_form b version facts p.base d in
    record {
      kept_is = sym k;
      mark_is = sym m;
      few = subst (λ (a : List ℕ). length a ≤ 16) k h.kept_few;
      fit = subst (λ (d : List ℕ × ℕ). IsFit (form d)) q.0 n.fit;
      right = subst (λ (d : List ℕ × ℕ). is_ok (exit_by (form d) is_main region behind) ≡ true) q.0 (ap (λ (z : List ℕ). is_ok (exit_by (form (p.kept, p.mark)) is_main region z)) (sym q.1) ∙ n.right);
      exit = subst (λ (d : List ℕ × ℕ). exit_in (form d) is_main region behind ≡ p.exit) q.0 (ap (λ (z : List ℕ). exit_in (form (p.kept, p.mark)) is_main region z) (sym q.1) ∙ n.exit);
    }

-- The exit's form was found, and its bytes.
pub record IsExit (form : Form) (is_main : Bool) (region : Region) (behind : List ℕ) (p : ProcedureParts) : Type 0 where
  pub fit : IsFit form
  pub right : is_ok (exit_by form is_main region behind) ≡ true
  pub exit : exit_in form is_main region behind ≡ p.exit

-- how the exit's state is spelled, behind the names
abbrev pub form_at : Bool → ℕ → ℕ → ℕ → Bool → Region → Read Form
form_at b version facts base is_main region = mapped (exit_form b version facts base) (names_by b is_main region)

pub exit-found : (b : Bool) (version facts : ℕ) (is_main : Bool) (region : Region) (bytes rest : List ℕ) (p : ProcedureParts) (form : Form) (behind : List ℕ) → BodyStands b version facts is_main region bytes p → skipped (front_at (rules_of version) is_main region) bytes ≡ Ok rest
    → form_at b version facts p.base is_main region rest ≡ Ok (form, behind) → IsExit form is_main region behind p
exit-found b version facts is_main region bytes rest p form behind h front read =
    let m = mapped_parts (λ (d : List ℕ × ℕ). exit_form b version facts p.base d) (names_by b is_main region rest) form behind read in
    let n = names-read b version facts is_main region bytes rest p m.0.0 m.0.1 behind h front m.1 in
    let made : IsExit (exit_form b version facts p.base m.0) is_main region behind p = record { fit = n.fit; right = n.right; exit = n.exit } in
    subst (λ (f : Form). IsExit f is_main region behind p) m.2 made

pub exit-right : (b : Bool) (version facts : ℕ) (is_main : Bool) (region : Region) (bytes rest : List ℕ) (p : ProcedureParts) (e : CertFault) → BodyStands b version facts is_main region bytes p → skipped (front_at (rules_of version) is_main region) bytes ≡ Ok rest → form_at b version facts p.base is_main region rest ≡ Err e → ⊥
exit-right b version facts is_main region bytes rest p e h front wrong = no-error _ _ _ (ap (λ (r : Result ((List ℕ × ℕ) × List ℕ) CertFault). go_on r (λ d rest. (let q : Result (Form × List ℕ) CertFault = Ok (exit_form b version facts p.base d, rest) in q))) (names-behind b version facts is_main region bytes rest p h front).names) wrong

pub unequal : (n : ℕ) → (n ≡ 4 → ⊥) → (n == 4) ≡ false
unequal n h = by (n == 4) (λ e. h (same n 4 e))
  where
    by : (b : Bool) → (b ≡ true → ⊥) → b ≡ false
    by true h = absurd (h refl)
    by false h = refl

-- Versions 1 to 3 name none.
pub older-names : (version facts : ℕ) (is_main : Bool) (region : Region) (bytes : List ℕ) (p : ProcedureParts) → BodyStands false version facts is_main region bytes p → p.kept ≡ []
older-names version facts is_main region bytes p h =
    let k = behind-front false version facts is_main region bytes p h in
    let n = names-behind false version facts is_main region bytes k.rest p h k.front in
    let q = same_pair ([], 0) (p.kept, p.mark) k.rest n.behind n.names in
    sym (ap (λ (x : List ℕ × ℕ). x.0) q.0)

-- ---- exits

-- by whether the procedure returns
abbrev exit_from : Form → Region → Result (Bool × List ℕ) CertFault → Result (Option AbsState × List ℕ) CertFault
exit_from form region read = go_on {X = Bool × Option AbsState} (go_on read (λ returns rest. go_on (optional returns (state_by form role.Exit region) rest) (λ y end. Ok ((returns, y), end)))) (λ x rest. Ok (x.1, rest))

exit-from : (form : Form) (is_main : Bool) (region : Region) (bytes rest : List ℕ) (returns : Bool) → returns_at is_main bytes ≡ Ok (returns, rest) → exit_by form is_main region bytes ≡ exit_from form region (Ok (returns, rest))
unfolding exit_by
exit-from form is_main region bytes rest returns h = ap (exit_from form region) h

-- where the procedure returns
abbrev exit_of : Result (AbsState × List ℕ) CertFault → Result (Option AbsState × List ℕ) CertFault
exit_of read = go_on {X = Bool × Option AbsState} (go_on {X = Option AbsState} (go_on read (λ x rest. Ok (Some x, rest))) (λ y end. Ok ((true, y), end))) (λ x rest. Ok (x.1, rest))

read_exit : (read : Result (AbsState × List ℕ) CertFault) → is_ok (exit_of read) ≡ true → (s : AbsState) × (tail : List ℕ) × (read ≡ Ok (s, tail)) × (exit_of read ≡ Ok (Some s, tail))
read_exit (Ok p) h = (p.0, p.1, refl, refl)
read_exit (Err e) h = cc

behind-flag : (is_main : Bool) (bytes rest : List ℕ) (returns : Bool) → IsBytes bytes → returns_at is_main bytes ≡ Ok (returns, rest) → IsBytes rest
unfolding returns_at
behind-flag is_main bytes rest returns i h = ((IsFormat-checked fault.Field (may_return is_main) yes_no spelled_flag (λ b. Unit {0}) IsFormat-yes_no).takes bytes returns rest i h).are_bytes

IsFormat-state_by : (form : Form) (region : Region) → IsFit form → IsFormat (state_by form role.Exit region) (spelled_by form region) (IsStateBy form role.Exit region)
IsFormat-state_by (Older rules) region fit = IsFormat-state rules role.Exit region
IsFormat-state_by (Fourth facts form) region fit = fourth.IsFormat-state facts form role.Exit region fit.0 fit.1

-- What stands behind the byte that says whether a procedure returns.
abbrev pub ExitIs : Form → Bool → Region → List ℕ → List ℕ → Bool → Type 0
ExitIs form is_main region bytes rest true = StateStands form role.Exit region rest (state_in form role.Exit region rest) × (Some (state_in form role.Exit region rest) ≡ exit_in form is_main region bytes)
ExitIs form is_main region bytes rest false = None ≡ exit_in form is_main region bytes

pub exit-is : (form : Form) (is_main : Bool) (region : Region) (bytes rest : List ℕ) (returns : Bool) → IsFit form → IsBytes bytes → is_ok (exit_by form is_main region bytes) ≡ true → returns_at is_main bytes ≡ Ok (returns, rest) → ExitIs form is_main region bytes rest returns
exit-is form is_main region bytes rest false fit i ok h = sym (ap (read_or None) (exit-from form is_main region bytes rest false h))
exit-is form is_main region bytes rest true fit i ok h =
    let e = exit-from form is_main region bytes rest true h in
    let s = read_exit (state_by form role.Exit region rest) (ap is_ok (sym e) ∙ ok) in
    let taken = (IsFormat-state_by form region fit).takes rest s.0 s.1 (behind-flag is_main bytes rest true i h) s.2 in
    let same : state_in form role.Exit region rest ≡ s.0 = ap (read_or (state_of any_core)) s.2 in
    let stands : StateStands form role.Exit region rest s.0 = record { tail = s.1; fit = fit; parts = taken.parts; is_state = taken.is_good; is_read = s.2 } in
    (subst (StateStands form role.Exit region rest) (sym same) stands, ap (λ (z : AbsState). Some z) same ∙ sym (ap (read_or None) (e ∙ s.3)))

no-flag : (read : Result (Bool × List ℕ) CertFault) (form : Form) (region : Region) (e : CertFault) → is_ok (exit_from form region read) ≡ true → read ≡ Err e → ⊥
no-flag (Ok p) form region e ok h = cc
no-flag (Err d) form region e ok h = cc

pub exit-read : (form : Form) (is_main : Bool) (region : Region) (bytes : List ℕ) (e : CertFault) → is_ok (exit_by form is_main region bytes) ≡ true → returns_at is_main bytes ≡ Err e → ⊥
unfolding exit_by
exit-read form is_main region bytes e ok h = no-flag (returns_at is_main bytes) form region e ok h
