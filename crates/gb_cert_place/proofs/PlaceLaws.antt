-- Where reading a certificate stops, by its parts.
use Rattle.std.proofs.Common.{◌≡◌, ℕ, ◌+◌, ◌-◌, ◌<◌, ◌==◌, not, ◌||◌, Bool, true, false, List, [], ◌∷◌, ◌++◌, length, take, slice_get, Option, Some, None, Result, Ok, Err, refl, sym, ◌∙◌, ap, subst, arith}
use Rattle.std.proofs.lemmas.List.{length-append, append-nil}
use Rattle.std.proofs.Math.Seq.{take-append_seam}
use Rattle.gb_fields.specs.declared.fault.CertFault.{CertFault}
use Rattle.gb_fields.specs.declared.fault.CertFault.TheVariants as fault
use Rattle.gb_fields.specs.declared.head.Head.{Head}
use Rattle.gb_domain.specs.declared.summary.Fact.{Fact}
use Rattle.gb_domain.specs.Types.{ProcedureParts, Node}
use Rattle.gb_domain.specs.Certificate.{Certificate}
use Rattle.gb_fields.specs.Format.{Read, go_on, mapped, if_faultless, several, ended}
use Rattle.gb_fields.specs.Reading.{any_head_at}
use Rattle.gb_states.specs.declared.form.ProcedureForm.{ProcedureForm}
use Rattle.gb_states.specs.Rules.{is_of, key}
use Rattle.gb_states.specs.WholeRules.{procedure_forms, form_in, is_uncrowded, is_in_order}
use Rattle.gb_states.specs.WholeReading.{facts_by, node_by, procedures_at, nodes_at, behind_facts, behind_head, fault_by, entry_fault, or_else, entries_fault, entries_fault_in, Parts, to_certificate, certificate_at, read_certificate}
use Rattle.gb_cert.specs.Places.{forms_if}
use Rattle.gb_cert.specs.Skipping.{skipped}
use Rattle.gb_cert.proofs.Skipping.{skipped-followed}
use Rattle.gb_cert_place.specs.declared.block.Stop.{Stop}
use Rattle.gb_cert_place.specs.declared.block.Part.{Part}
use Rattle.gb_cert_place.specs.declared.block.Block.{Block}
use Rattle.gb_cert_place.specs.declared.block.Block.TheVariants as block
use Rattle.gb_cert_place.specs.Blocks.{read_block}
use Rattle.gb_cert_place.specs.Standing.{InProcedures, InNodes, InCertificate, BehindFacts, BehindProcedures}
use Rattle.gb_cert_place.specs.Stops.{Stopped, IsFaultAt, Decided, Behind, is_missing, parts_at}
use Rattle.gb_cert_place.specs.Places.{is_memory, behind, IsFound, AtEnd}
use Rattle.gb_cert_place.proofs.Locality.{failed, same_fault}
use Rattle.gb_cert_place.proofs.WholeFieldsAreLocal.{IsLocal-any_head, IsLocal-facts_by, IsLocal-procedures, IsLocal-parts}
use Rattle.gb_cert_place.proofs.Stopping.{StopsAt-mapped, StopsAt-faultless, tight}
use Rattle.gb_cert_place.proofs.BlockLaws.{no_head}
use Rattle.gb_cert_place.proofs.WalkLaws.{Stopped-first, Stopped-unmapped, Stopped-block, Stopped-then, was_read, was_mapped}

-- ---- the walk

-- what is behind the facts
abbrev behind_some : Head → List Fact → Read (List ProcedureParts × List Node)
behind_some h fs = behind_facts h (length fs)

-- what is behind the procedures
abbrev behind_procedures : Head → ℕ → List ProcedureParts → Read (List Node)
behind_procedures h facts ps = nodes_at h facts (procedure_forms ps)

-- Versions 1 to 3 read nodes by no form.
nodes_of : (h : Head) (facts : ℕ) (ps : List ProcedureParts) → nodes_at h facts (forms_if (h.version == 4) ps) ≡ nodes_at h facts (procedure_forms ps)
unfolding nodes_at
nodes_of h facts ps = by (h.version == 4)
  where
    by : (b : Bool) → several (node_by b h.version facts (form_in (forms_if b ps)) h.region h.procedures) key (0, 0) h.nodes ≡ several (node_by b h.version facts (form_in (procedure_forms ps)) h.region h.procedures) key (0, 0) h.nodes
    by true = refl
    by false = refl

pub stop_in_head : (version : ℕ) (bytes : List ℕ) (s : Stop) → Stopped (read_block (block.Head version)) bytes s → Stopped parts_at bytes s
unfolding read_block parts_at
stop_in_head version bytes s p = Stopped-first any_head_at behind_head bytes s (Stopped-block any_head_at bytes s p)

pub stop_in_certificate_facts : (bytes : List ℕ) (h : Head) (first : List ℕ) (s : Stop) → any_head_at bytes ≡ Ok (h, first) → Stopped (mapped length (facts_by (h.version == 4) h.region)) first s → Stopped parts_at bytes s
unfolding parts_at
stop_in_certificate_facts bytes h first s e p =
    Stopped-then any_head_at behind_head IsLocal-any_head bytes h first s e
    (Stopped-first (facts_by (h.version == 4) h.region) (behind_some h) first s (Stopped-unmapped length (facts_by (h.version == 4) h.region) first s p))

pub stop_in_procedures : (bytes : List ℕ) (h : Head) (first : List ℕ) (facts : ℕ) (second : List ℕ) (s : Stop) → any_head_at bytes ≡ Ok (h, first) → mapped length (facts_by (h.version == 4) h.region) first ≡ Ok (facts, second)
    → Stopped (mapped (forms_if (h.version == 4)) (procedures_at h facts)) second s → Stopped parts_at bytes s
unfolding parts_at
stop_in_procedures bytes h first facts second s e f p =
    let fs = was_mapped length (facts_by (h.version == 4) h.region) first facts second f in
    let q = subst (λ (n : ℕ). Stopped (mapped (forms_if (h.version == 4)) (procedures_at h n)) second s) (sym fs.2) p in
    Stopped-then any_head_at behind_head IsLocal-any_head bytes h first s e
    (Stopped-then (facts_by (h.version == 4) h.region) (behind_some h) (IsLocal-facts_by (h.version == 4) h.region) first fs.0 second s fs.1
    (Stopped-first (procedures_at h (length fs.0)) (behind_procedures h (length fs.0)) second s (Stopped-unmapped (forms_if (h.version == 4)) (procedures_at h (length fs.0)) second s q)))

pub stop_in_nodes : (bytes : List ℕ) (h : Head) (first : List ℕ) (facts : ℕ) (second : List ℕ) (forms : List ProcedureForm) (third : List ℕ) (s : Stop) → any_head_at bytes ≡ Ok (h, first) → mapped length (facts_by (h.version == 4) h.region) first ≡ Ok (facts, second)
    → mapped (forms_if (h.version == 4)) (procedures_at h facts) second ≡ Ok (forms, third) → Stopped (nodes_at h facts forms) third s → Stopped parts_at bytes s
unfolding parts_at
stop_in_nodes bytes h first facts second forms third s e f g p =
    let fs = was_mapped length (facts_by (h.version == 4) h.region) first facts second f in
    let ps = was_mapped (forms_if (h.version == 4)) (procedures_at h (length fs.0)) second forms third (subst (λ (n : ℕ). mapped (forms_if (h.version == 4)) (procedures_at h n) second ≡ Ok (forms, third)) (sym fs.2) g) in
    let of = subst (λ (n : ℕ). Stopped (nodes_at h n (forms_if (h.version == 4) ps.0)) third s) (sym fs.2) (subst (λ (c : List ProcedureForm). Stopped (nodes_at h facts c) third s) (sym ps.2) p) in
    let q = subst (λ (r : Read (List Node)). Stopped r third s) (nodes_of h (length fs.0) ps.0) of in
    Stopped-then any_head_at behind_head IsLocal-any_head bytes h first s e
    (Stopped-then (facts_by (h.version == 4) h.region) (behind_some h) (IsLocal-facts_by (h.version == 4) h.region) first fs.0 second s fs.1
    (Stopped-then (procedures_at h (length fs.0)) (behind_procedures h (length fs.0)) (IsLocal-procedures h (length fs.0)) second ps.0 third s ps.1 q))

pub parts_passed : (bytes : List ℕ) (h : Head) (first : List ℕ) (facts : ℕ) (second : List ℕ) (forms : List ProcedureForm) (third end : List ℕ) → any_head_at bytes ≡ Ok (h, first) → mapped length (facts_by (h.version == 4) h.region) first ≡ Ok (facts, second)
    → mapped (forms_if (h.version == 4)) (procedures_at h facts) second ≡ Ok (forms, third) → skipped (nodes_at h facts forms) third ≡ Ok end → skipped parts_at bytes ≡ Ok end
unfolding parts_at
parts_passed bytes h first facts second forms third end e f g k =
    let fs = was_mapped length (facts_by (h.version == 4) h.region) first facts second f in
    let ps = was_mapped (forms_if (h.version == 4)) (procedures_at h (length fs.0)) second forms third (subst (λ (n : ℕ). mapped (forms_if (h.version == 4)) (procedures_at h n) second ≡ Ok (forms, third)) (sym fs.2) g) in
    let of = subst (λ (n : ℕ). skipped (nodes_at h n (forms_if (h.version == 4) ps.0)) third ≡ Ok end) (sym fs.2) (subst (λ (c : List ProcedureForm). skipped (nodes_at h facts c) third ≡ Ok end) (sym ps.2) k) in
    let q = subst (λ (r : Read (List Node)). skipped r third ≡ Ok end) (nodes_of h (length fs.0) ps.0) of in
    skipped-followed any_head_at behind_head bytes h first e
    ∙ skipped-followed (facts_by (h.version == 4) h.region) (behind_some h) first fs.0 second fs.1
    ∙ skipped-followed (procedures_at h (length fs.0)) (behind_procedures h (length fs.0)) second ps.0 third ps.1 ∙ q

-- where the blocks stand, by how many facts there are and the procedures' forms
pub behind_facts_in : (bytes : List ℕ) (h : Head) (first : List ℕ) (facts : ℕ) (second : List ℕ) (p : Part) (b : Block) (rest : List ℕ) → any_head_at bytes ≡ Ok (h, first) → mapped length (facts_by (h.version == 4) h.region) first ≡ Ok (facts, second)
    → InProcedures h facts second p b rest → InCertificate bytes p b rest
behind_facts_in bytes h first facts second p b rest e f a =
    let fs = was_mapped length (facts_by (h.version == 4) h.region) first facts second f in
    BehindFacts e fs.1 (subst (λ (n : ℕ). InProcedures h n second p b rest) (sym fs.2) a)

pub behind_procedures_in : (bytes : List ℕ) (h : Head) (first : List ℕ) (facts : ℕ) (second : List ℕ) (forms : List ProcedureForm) (third : List ℕ) (p : Part) (b : Block) (rest : List ℕ) → any_head_at bytes ≡ Ok (h, first) → mapped length (facts_by (h.version == 4) h.region) first ≡ Ok (facts, second)
    → mapped (forms_if (h.version == 4)) (procedures_at h facts) second ≡ Ok (forms, third) → InNodes h facts forms third p b rest → InCertificate bytes p b rest
behind_procedures_in bytes h first facts second forms third p b rest e f g a =
    let fs = was_mapped length (facts_by (h.version == 4) h.region) first facts second f in
    let ps = was_mapped (forms_if (h.version == 4)) (procedures_at h (length fs.0)) second forms third (subst (λ (n : ℕ). mapped (forms_if (h.version == 4)) (procedures_at h n) second ≡ Ok (forms, third)) (sym fs.2) g) in
    BehindProcedures e fs.1 ps.1 (subst (λ (n : ℕ). InNodes h n (forms_if (h.version == 4) ps.0) third p b rest) (sym fs.2) (subst (λ (c : List ProcedureForm). InNodes h facts c third p b rest) (sym ps.2) a))

pub ruleset walk_parts = (no_head, stop_in_head, stop_in_certificate_facts, stop_in_procedures, stop_in_nodes, parts_passed)

-- ---- certificates

-- a fault of the parts is the certificate's
pub of_parts : (bytes : List ℕ) (s : Stop) → Stopped parts_at bytes s → IsFaultAt bytes s.fault (length bytes - s.left)
unfolding read_certificate certificate_at parts_at
of_parts bytes s p =
    let q = StopsAt-mapped to_certificate _ bytes s.fault (length bytes - s.left) (StopsAt-faultless entries_fault_in parts_at bytes s.fault (length bytes - s.left) p.stops) in
    Decided (record { meets = rw q.meets refl; within = q.within; before = λ j lt. rw (q.before j lt) refl; decided = λ more m. rw (q.decided more m) refl; cut = q.cut })

-- what reading says behind all parts
abbrev judged : Option CertFault → Parts → List ℕ → Result Certificate CertFault
judged wrong p rest = go_on (go_on {Y = Certificate × List ℕ} (if_faultless wrong p rest) (λ x rest. Ok (to_certificate x, rest))) ended

read_is : (bytes : List ℕ) (p : Parts) (rest : List ℕ) → parts_at bytes ≡ Ok (p, rest) → read_certificate bytes ≡ judged (entries_fault_in p) p rest
unfolding read_certificate certificate_at parts_at
read_is bytes p rest h = rw h refl

not_read : (bytes : List ℕ) → parts_at bytes ≡ Err fault.CutShort → read_certificate bytes ≡ Err fault.CutShort
unfolding read_certificate certificate_at parts_at
not_read bytes h = rw h refl

abbrev missing_in : Option CertFault → Bool
missing_in (Some e) = is_missing e
missing_in None = false

-- what is wrong with an entry is not that bytes are missing
not_missing_by : (few own ordered : Bool) (e : CertFault) → fault_by few own ordered ≡ Some e → is_missing e ≡ false
not_missing_by false own ordered e h = sym (ap missing_in h)
not_missing_by true false ordered e h = sym (ap missing_in h)
not_missing_by true true false e h = sym (ap missing_in h)
not_missing_by true true true e h = cc

not_missing : (ordered : Bool) (procedures : List ProcedureParts) (nodes : List Node) (number : ℕ) (ps : List ProcedureParts) (e : CertFault) → entries_fault ordered procedures nodes number ps ≡ Some e → is_missing e ≡ false
unfolding entries_fault
not_missing ordered procedures nodes number [] e h = cc
not_missing ordered procedures nodes number (p ∷ ps) e h = by (entry_fault ordered procedures nodes number p) refl (not_missing ordered procedures nodes (number + 1) ps e) h
  where
    by : (first : Option CertFault) → entry_fault ordered procedures nodes number p ≡ first → (entries_fault ordered procedures nodes (number + 1) ps ≡ Some e → is_missing e ≡ false) → or_else first (entries_fault ordered procedures nodes (number + 1) ps) ≡ Some e → is_missing e ≡ false
    by (Some d) g behind k = not_missing_by (not ordered || is_uncrowded procedures nodes number) (is_of number (slice_get nodes p.entry)) (not ordered || is_in_order procedures nodes number) e (g ∙ k)
    by None g behind k = behind k

-- a fault behind all parts
behind_front : (front rest : List ℕ) (p : Parts) → ((more : List ℕ) → parts_at (front ++ more) ≡ Ok (p, more)) → (e : CertFault) → read_certificate (front ++ rest) ≡ Err e → IsFaultAt (front ++ rest) e (length front)
behind_front front rest p again e g = by (entries_fault_in p) refl rest (sym (read_is (front ++ rest) p rest (again rest)) ∙ g) g
  where
    fewer : (rest : List ℕ) (j : ℕ) → j < length front → read_certificate (take j (front ++ rest)) ≡ Err fault.CutShort
    fewer rest j lt =
        let l : length (front ++ rest) ≡ length front + length rest = length-append front rest in
        let m : j + length rest < length (front ++ rest) = omega arith in
        not_read (take j (front ++ rest)) (tight parts_at IsLocal-parts (front ++ rest) p rest (again rest) j m)

    entries : (rest : List ℕ) (d : CertFault) → entries_fault_in p ≡ Some d → read_certificate (front ++ rest) ≡ Err d → IsFaultAt (front ++ rest) d (length front)
    entries rest d w g = Decided (record {
      meets = g;
      within = let l : length (front ++ rest) ≡ length front + length rest = length-append front rest in omega arith;
      before = fewer rest;
      decided = λ more n. ap (λ b. read_certificate (b ++ more)) (take-append_seam front rest) ∙ read_is (front ++ more) p more (again more) ∙ ap (λ o. judged o p more) w;
      cut = λ c. (let k : is_missing d ≡ false = not_missing (p.0.version == 4) p.1.1.0 p.1.1.1 0 p.1.1.0 d w in let m : is_missing d ≡ true = ap is_missing c in absurd cc);
    })

    by : (wrong : Option CertFault) → entries_fault_in p ≡ wrong → (rest : List ℕ) → judged (entries_fault_in p) p rest ≡ Err e → read_certificate (front ++ rest) ≡ Err e → IsFaultAt (front ++ rest) e (length front)
    by (Some d) w rest h g =
        let k : judged (Some d) p rest ≡ Err e = ap (λ o. judged o p rest) (sym w) ∙ h in
        let s : d ≡ e = same_fault {A = Certificate} d e k in
        subst (λ d. IsFaultAt (front ++ rest) d (length front)) s (entries rest d w (g ∙ ap (λ d. failed {A = Certificate} d) (sym s)))
    by None w [] h g = let k : judged None p [] ≡ Err e = ap (λ o. judged o p []) (sym w) ∙ h in absurd cc
    by None w (b ∷ bs) h g =
        let k : judged None p (b ∷ bs) ≡ Err e = ap (λ o. judged o p (b ∷ bs)) (sym w) ∙ h in
        let s : fault.LeftOver ≡ e = same_fault {A = Certificate} fault.LeftOver e k in
        let l : length (front ++ b ∷ bs) ≡ length front + length (b ∷ bs) = length-append front (b ∷ bs) in
        let lt : length front < length (front ++ b ∷ bs) = omega arith in
        let whole : read_certificate (take (length front) (front ++ b ∷ bs)) ≡ Ok (to_certificate p) =
        ap read_certificate (take-append_seam front (b ∷ bs) ∙ sym (append-nil front)) ∙ read_is (front ++ []) p [] (again []) ∙ ap (λ o. judged o p []) w in
        subst (λ d. IsFaultAt (front ++ b ∷ bs) d (length front)) s (Behind (g ∙ ap (λ d. failed {A = Certificate} d) (sym s)) lt (to_certificate p) whole (fewer (b ∷ bs)))

pub behind_parts : (bytes rest : List ℕ) (e : CertFault) → skipped parts_at bytes ≡ Ok rest → read_certificate bytes ≡ Err e → IsFaultAt bytes e (length bytes - length rest) × IsFound bytes (behind (length bytes - length rest) e)
behind_parts bytes rest e h g =
    let r = was_read parts_at bytes rest h in
    let w = IsLocal-parts.taken bytes r.0 rest r.1 in
    let l : length bytes ≡ length w.front + length rest = ap length w.parts ∙ length-append w.front rest in
    let n : length bytes - length rest ≡ length w.front = omega arith in
    let k = behind_front w.front rest r.0 w.again e (ap read_certificate (sym w.parts) ∙ g) in
    (subst (λ m. IsFaultAt bytes e m) (sym n) (subst (λ b. IsFaultAt b e (length w.front)) (sym w.parts) k), AtEnd rest e h)

pub is_other : (e : CertFault) → is_memory e ≡ false → e ≡ fault.Memory → ⊥
is_other e h c = let k : is_memory e ≡ true = ap is_memory c in absurd cc
