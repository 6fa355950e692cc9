-- The places at which procedures and nodes of any version were found give the entries that they have.
use Rattle.std.proofs.Common.{◌≡◌, ℕ, zero, suc, ◌+◌, ◌-◌, ◌<◌, ◌≤◌, ◌/◌, Bool, true, false, ◌==◌, List, [], ◌∷◌, ◌++◌, drop, Option, Some, None, Ok, refl, sym, ap, ◌∙◌, append_assoc, arith}
use Rattle.std.specs.Prelude.{slice_get}
use Rattle.std.specs.List.{flat_map, AllByRecursion}
use Rattle.std.proofs.lemmas.List.Concat.{flat_map-cons}
use Rattle.gb_ops.specs.declared.machine.Region.{Region}
use Rattle.gb_domain.specs.declared.rules.Rules.TheVariants.{Extended}
use Rattle.gb_domain.specs.Limits.{rules_of}
use Rattle.gb_domain.specs.Rules.{IsChain}
use Rattle.gb_domain.specs.Types.{ProcedureParts, Node}
use Rattle.gb_states.specs.declared.form.ProcedureForm.{ProcedureForm}
use Rattle.gb_states.specs.Below.gb_fields.Format.{both, byte}
use Rattle.gb_states.specs.Below.gb_fields.Limits.{procedure_limit_by, node_limit, namesake_limit, unit}
use Rattle.gb_states.specs.Below.gb_fields.Reading.{word, node_number}
use Rattle.gb_states.specs.Rules.{is_after, key, is_of}
use Rattle.gb_states.specs.WholeRules.{address_in, entry_in, is_in_order, is_uncrowded, IsProcedureBy, IsNodeBy}
use Rattle.gb_states.specs.WholeReading.{number_by, or_else, entry_fault, entries_fault}
use Rattle.gb_states.specs.Spelling as simple
use Rattle.gb_states.specs.WholeSpelling as spelled
use Rattle.gb_cert.specs.Places.{AreAt}
use Rattle.gb_cert.specs.Entries.{Key, key_found, key_at_place, entry_found, entry_key, address_of, is_of_number, entry_address, is_in_order_at, is_uncrowded_at, entry_fault_at, entries_fault_at}
use Rattle.gb_states.proofs.Formats.{IsFormat-byte, IsFormat-both}
use Rattle.gb_states.proofs.FieldLaws.{same, spelled_byte, IsFormat-word, IsFormat-node_number}
use Rattle.gb_states.proofs.StateLaws.{number_small}

-- ---- keys

abbrev number_room : Bool → ℕ
number_room true = 65536
number_room false = 256

-- A node's key can be spelled.
abbrev pub IsKeyed : Bool → Node → Type 0
IsKeyed b n = (n.procedure < number_room b) × (n.address < 65536)

abbrev key_of : Option Node → Option Key
key_of None = None
key_of (Some n) = Some (key n)

key-again : (b : Bool) (version : ℕ) (region : Region) (form_of : ℕ → ProcedureForm) (n : Node) (tail : List ℕ) → IsKeyed b n → key_found (both (number_by b) word (spelled.node_by b version region form_of n ++ tail)) ≡ Some (key n)
unfolding spelled.node simple.node
key-again true version region form_of n tail h =
    let behind : List ℕ = simple.word n.bank ++ spelled.state region (form_of n.procedure).base n.state in
    ap (λ (bytes : List ℕ). key_found (both word word bytes)) (append_assoc (simple.word n.procedure ++ simple.word n.address) behind tail)
    ∙ ap key_found ((IsFormat-both word word _ _ _ _ IsFormat-word IsFormat-word).again (key n) (behind ++ tail) h)
key-again false version region form_of n tail h =
    let behind : List ℕ = simple.word n.bank ++ simple.state (rules_of version) n.state in
    ap (λ (bytes : List ℕ). key_found (both byte word bytes)) (append_assoc (n.procedure ∷ simple.word n.address) behind tail)
    ∙ ap key_found ((IsFormat-both byte word spelled_byte _ _ _ IsFormat-byte IsFormat-word).again (key n) (behind ++ tail) h)

place-key : (b : Bool) (version : ℕ) (region : Region) (form_of : ℕ → ProcedureForm) (bytes rest ns : List ℕ) (nodes : List Node) (i : ℕ) → AllByRecursion (IsKeyed b) nodes → AreAt (spelled.node_by b version region form_of) bytes rest ns nodes → key_at_place b bytes (slice_get ns i) ≡ key_of (slice_get nodes i)
place-key b version region form_of bytes rest [] [] i k h = refl
place-key b version region form_of bytes rest (q ∷ qs) (y ∷ ys) zero k h =
    let at : drop q bytes ≡ spelled.node_by b version region form_of y ++ (flat_map (spelled.node_by b version region form_of) ys ++ rest) = h.0 ∙ ap (λ (z : List ℕ). z ++ rest) (flat_map-cons (spelled.node_by b version region form_of) y ys) ∙ append_assoc (spelled.node_by b version region form_of y) (flat_map (spelled.node_by b version region form_of) ys) rest in
    ap (λ (bytes : List ℕ). key_found (both (number_by b) word bytes)) at ∙ key-again b version region form_of y (flat_map (spelled.node_by b version region form_of) ys ++ rest) k.0
place-key b version region form_of bytes rest (q ∷ qs) (y ∷ ys) (suc i) k h = place-key b version region form_of bytes rest qs ys i k.1 h.1
place-key b version region form_of bytes rest [] (y ∷ ys) i k h = absurd h
place-key b version region form_of bytes rest (q ∷ qs) [] i k h = absurd h

-- ---- entries

number-read : (b : Bool) (version : ℕ) (region : Region) (p : ProcedureParts) (tail : List ℕ) → (version == 4) ≡ b → p.entry ≤ node_limit version → (behind : List ℕ) × (node_number version (spelled.procedure_by b version region p ++ tail) ≡ Ok (p.entry, behind))
unfolding spelled.procedure simple.procedure
number-read true version region p tail e few =
    let four : 4 ≡ version = sym (same version 4 e) in
    let behind : List ℕ = simple.base Extended p.base ++ (simple.word (p.need / unit Extended) ++ (simple.counted simple.range p.ranges ++ ((spelled.kept_addresses p.kept ++ (p.mark ∷ [])) ++ spelled.exit region p.base p.exit))) in (
      behind ++ tail,
      ap (λ (v : ℕ). node_number version ((simple.node_number v p.entry ++ behind) ++ tail)) four
          ∙ ap (node_number version) (append_assoc (simple.node_number version p.entry) behind tail)
          ∙ (IsFormat-node_number version).again p.entry (behind ++ tail) (number_small version p.entry few),
    )
number-read false version region p tail e few =
    let behind : List ℕ = simple.body (rules_of version) p in
    (behind ++ tail, ap (node_number version) (append_assoc (simple.node_number version p.entry) behind tail) ∙ (IsFormat-node_number version).again p.entry (behind ++ tail) (number_small version p.entry few))

entry-of : (version : ℕ) (region : Region) (form_of : ℕ → ProcedureForm) (bytes rest ns : List ℕ) (nodes : List Node) (place : ℕ) (p : ProcedureParts) (tail : List ℕ) → p.entry ≤ node_limit version → drop place bytes ≡ spelled.procedure_by (version == 4) version region p ++ tail → AllByRecursion (IsKeyed (version == 4)) nodes
    → AreAt (spelled.node_by (version == 4) version region form_of) bytes rest ns nodes → entry_key version bytes ns place ≡ key_of (slice_get nodes p.entry)
unfolding entry_key
entry-of version region form_of bytes rest ns nodes place p tail few e k h =
    let r = number-read (version == 4) version region p tail refl few in
    ap (entry_found (version == 4) bytes ns) (ap (node_number version) e ∙ r.1) ∙ place-key (version == 4) version region form_of bytes rest ns nodes p.entry k h

-- what was found of a certificate, and is in range
pub record AreFound (version : ℕ) (region : Region) (form_of : ℕ → ProcedureForm) (bytes behind rest places ns : List ℕ) (procedures : List ProcedureParts) (nodes : List Node) : Type 0 where
  pub entries : AllByRecursion (λ p. p.entry ≤ node_limit version) procedures
  pub keys : AllByRecursion (IsKeyed (version == 4)) nodes
  pub procedures_at : AreAt (spelled.procedure_by (version == 4) version region) bytes behind places procedures
  pub nodes_at : AreAt (spelled.node_by (version == 4) version region form_of) bytes rest ns nodes

one-place : (version : ℕ) (region : Region) (bytes behind q : List ℕ) (place : ℕ) (y : ProcedureParts) (ys : List ProcedureParts) → drop place bytes ≡ flat_map (spelled.procedure_by (version == 4) version region) (y ∷ ys) ++ behind → drop place bytes ≡ spelled.procedure_by (version == 4) version region y ++ (flat_map (spelled.procedure_by (version == 4) version region) ys ++ behind)
one-place version region bytes behind q place y ys e =
    e ∙ ap (λ (z : List ℕ). z ++ behind) (flat_map-cons (spelled.procedure_by (version == 4) version region) y ys) ∙ append_assoc (spelled.procedure_by (version == 4) version region y) (flat_map (spelled.procedure_by (version == 4) version region) ys) behind

entry-address : (o : Option Node) → address_of (key_of o) ≡ address_in o
entry-address None = refl
entry-address (Some n) = refl

entry-number : (number : ℕ) (o : Option Node) → is_of_number number (key_of o) ≡ is_of number o
entry-number number None = refl
entry-number number (Some n) = refl

address-of : (version : ℕ) (region : Region) (form_of : ℕ → ProcedureForm) (bytes behind rest places ns : List ℕ) (procedures : List ProcedureParts) (nodes : List Node) (i : ℕ) → AllByRecursion (λ p. p.entry ≤ node_limit version) procedures → AllByRecursion (IsKeyed (version == 4)) nodes
    → AreAt (spelled.procedure_by (version == 4) version region) bytes behind places procedures → AreAt (spelled.node_by (version == 4) version region form_of) bytes rest ns nodes → entry_address version bytes ns (slice_get places i) ≡ entry_in nodes (slice_get procedures i)
address-of version region form_of bytes behind rest [] ns [] nodes i few k h g = refl
address-of version region form_of bytes behind rest (q ∷ qs) ns (y ∷ ys) nodes zero few k h g =
    ap address_of (entry-of version region form_of bytes rest ns nodes q y (flat_map (spelled.procedure_by (version == 4) version region) ys ++ behind) few.0 (one-place version region bytes behind [] q y ys h.0) k g) ∙ entry-address (slice_get nodes y.entry)
address-of version region form_of bytes behind rest (q ∷ qs) ns (y ∷ ys) nodes (suc i) few k h g = address-of version region form_of bytes behind rest qs ns ys nodes i few.1 k h.1 g
address-of version region form_of bytes behind rest [] ns (y ∷ ys) nodes i few k h g = absurd h
address-of version region form_of bytes behind rest (q ∷ qs) ns [] nodes i few k h g = absurd h

order-of : (version : ℕ) (region : Region) (form_of : ℕ → ProcedureForm) (bytes behind rest places ns : List ℕ) (procedures : List ProcedureParts) (nodes : List Node) (number : ℕ) → AreFound version region form_of bytes behind rest places ns procedures nodes → is_in_order_at version bytes ns places number ≡ is_in_order procedures nodes number
unfolding is_in_order_at
order-of version region form_of bytes behind rest places ns procedures nodes number f =
    let one = address-of version region form_of bytes behind rest places ns procedures nodes (number - 1) f.entries f.keys f.procedures_at f.nodes_at in
    let two = address-of version region form_of bytes behind rest places ns procedures nodes number f.entries f.keys f.procedures_at f.nodes_at in
    rw (one, two) refl

room-of : (version : ℕ) (region : Region) (form_of : ℕ → ProcedureForm) (bytes behind rest places ns : List ℕ) (procedures : List ProcedureParts) (nodes : List Node) (number : ℕ) → AreFound version region form_of bytes behind rest places ns procedures nodes → is_uncrowded_at version bytes ns places number ≡ is_uncrowded procedures nodes number
unfolding is_uncrowded_at
room-of version region form_of bytes behind rest places ns procedures nodes number f =
    let one = address-of version region form_of bytes behind rest places ns procedures nodes (number - namesake_limit) f.entries f.keys f.procedures_at f.nodes_at in
    let two = address-of version region form_of bytes behind rest places ns procedures nodes number f.entries f.keys f.procedures_at f.nodes_at in
    rw (one, two) refl

fault-of : (version : ℕ) (region : Region) (form_of : ℕ → ProcedureForm) (bytes behind rest places ns : List ℕ) (procedures : List ProcedureParts) (nodes : List Node) (number place : ℕ) (p : ProcedureParts) (tail : List ℕ) → AreFound version region form_of bytes behind rest places ns procedures nodes → p.entry ≤ node_limit version
    → drop place bytes ≡ spelled.procedure_by (version == 4) version region p ++ tail → entry_fault_at version bytes ns places number place ≡ entry_fault (version == 4) procedures nodes number p
unfolding entry_fault_at
fault-of version region form_of bytes behind rest places ns procedures nodes number place p tail f few e =
    let own : is_of_number number (entry_key version bytes ns place) ≡ is_of number (slice_get nodes p.entry) = ap (is_of_number number) (entry-of version region form_of bytes rest ns nodes place p tail few e f.keys f.nodes_at) ∙ entry-number number (slice_get nodes p.entry) in
    rw (own, order-of version region form_of bytes behind rest places ns procedures nodes number f, room-of version region form_of bytes behind rest places ns procedures nodes number f) refl

faults-of : (version : ℕ) (region : Region) (form_of : ℕ → ProcedureForm) (bytes behind rest places ns : List ℕ) (procedures : List ProcedureParts) (nodes : List Node) (qs : List ℕ) (ps : List ProcedureParts) (number : ℕ) → AreFound version region form_of bytes behind rest places ns procedures nodes → AllByRecursion (λ p. p.entry ≤ node_limit version) ps
    → AreAt (spelled.procedure_by (version == 4) version region) bytes behind qs ps → entries_fault_at version bytes ns places number qs ≡ entries_fault (version == 4) procedures nodes number ps
unfolding entries_fault_at entries_fault
faults-of version region form_of bytes behind rest places ns procedures nodes [] [] number f few h = refl
faults-of version region form_of bytes behind rest places ns procedures nodes (q ∷ qs) (y ∷ ys) number f few h =
    let one = fault-of version region form_of bytes behind rest places ns procedures nodes number q y (flat_map (spelled.procedure_by (version == 4) version region) ys ++ behind) f few.0 (one-place version region bytes behind [] q y ys h.0) in
    let others = faults-of version region form_of bytes behind rest places ns procedures nodes qs ys (number + 1) f few.1 h.1 in
    ap (λ o. or_else o (entries_fault_at version bytes ns places (number + 1) qs)) one ∙ ap (or_else (entry_fault (version == 4) procedures nodes number y)) others
faults-of version region form_of bytes behind rest places ns procedures nodes [] (y ∷ ys) number f few h = absurd h
faults-of version region form_of bytes behind rest places ns procedures nodes (q ∷ qs) [] number f few h = absurd h

-- What is wrong with the entries by the places is what is wrong with the certificate's.
pub entries-of : (version : ℕ) (region : Region) (form_of : ℕ → ProcedureForm) (bytes behind rest places ns : List ℕ) (procedures : List ProcedureParts) (nodes : List Node) → AreFound version region form_of bytes behind rest places ns procedures nodes → entries_fault_at version bytes ns places 0 places ≡ entries_fault (version == 4) procedures nodes 0 procedures
entries-of version region form_of bytes behind rest places ns procedures nodes f = faults-of version region form_of bytes behind rest places ns procedures nodes places procedures 0 f f.entries f.procedures_at

-- ---- they are in range

entry-few : (b : Bool) (version facts : ℕ) (region : Region) (nodes limit : ℕ) (s : Bool) (p : ProcedureParts) → nodes ≤ limit → IsProcedureBy b version facts region nodes s p → p.entry ≤ limit
entry-few true version facts region nodes limit s p le h = omega (arith, h.entry)
entry-few false version facts region nodes limit s p le h = omega (arith, h.entry)

pub entries-few : (b : Bool) (version facts : ℕ) (region : Region) (nodes limit : ℕ) (s : Bool) (ps : List ProcedureParts) → nodes ≤ limit → IsChain (IsProcedureBy b version facts region nodes) is_after s ps → AllByRecursion (λ p. p.entry ≤ limit) ps
entries-few b version facts region nodes limit s [] le h = tt
entries-few b version facts region nodes limit s (p ∷ ps) le h = (entry-few b version facts region nodes limit s p le h.0, entries-few b version facts region nodes limit false ps le h.1)

key-few : (b : Bool) (version facts : ℕ) (form_of : ℕ → ProcedureForm) (region : Region) (procedures : ℕ) (before : ℕ × ℕ) (n : Node) → procedures ≤ procedure_limit_by b → IsNodeBy b version facts form_of region procedures before n → IsKeyed b n
key-few true version facts form_of region procedures before n le h = let p = h.procedure in (omega (arith, p, le), h.address)
key-few false version facts form_of region procedures before n le h = let p = h.procedure in (omega (arith, p, le), h.address)

pub keys-few : (b : Bool) (version facts : ℕ) (form_of : ℕ → ProcedureForm) (region : Region) (procedures : ℕ) (before : ℕ × ℕ) (ns : List Node) → procedures ≤ procedure_limit_by b → IsChain (IsNodeBy b version facts form_of region procedures) key before ns → AllByRecursion (IsKeyed b) ns
keys-few b version facts form_of region procedures before [] le h = tt
keys-few b version facts form_of region procedures before (n ∷ ns) le h = (key-few b version facts form_of region procedures before n le h.0, keys-few b version facts form_of region procedures (key n) ns le h.1)
