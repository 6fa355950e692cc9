-- Readers go from left to right: bytes behind those that decided change nothing of what a reader answers.
use Rattle.std.proofs.Common.{◌≡◌, ℕ, zero, suc, Bool, true, false, List, [], ◌∷◌, ◌++◌, Some, None, Result, Ok, Err, refl, sym, ◌∙◌, ap, subst, append_assoc}
use Rattle.gb_fields.specs.declared.fault.CertFault.{CertFault}
use Rattle.gb_fields.specs.declared.fault.CertFault.TheVariants as fault
use Rattle.gb_fields.specs.Format.{Read, go_on, followed, both, mapped, if_passes, checked, optional, several, counted, byte}
use Rattle.gb_states.proofs.Formats.{went_on, same_pair}

-- what a reader takes: a front of the bytes, which it reads alike before any others
pub record Taken {X : Type 0} (r : Read X) (bytes : List ℕ) (x : X) (rest : List ℕ) : Type 0 where
  pub front : List ℕ
  pub parts : bytes ≡ front ++ rest
  pub again : (more : List ℕ) → r (front ++ more) ≡ Ok (x, more)

-- What was read, and each fault but that the bytes end, stays so with more bytes behind.
pub record IsLocal {X : Type 0} (r : Read X) : Type 0 where
  pub taken : (bytes : List ℕ) (x : X) (rest : List ℕ) → r bytes ≡ Ok (x, rest) → Taken r bytes x rest
  pub refused : (bytes more : List ℕ) (e : CertFault) → r bytes ≡ Err e → (e ≡ fault.CutShort → ⊥) → r (bytes ++ more) ≡ Err e

abbrev pub failed : {A : Type 0} → CertFault → Result A CertFault
failed e = Err e

pub same_fault : {A : Type 0} (d e : CertFault) → failed {A = A} d ≡ failed {A = A} e → d ≡ e
same_fault d e h = cc

-- what was taken is what is asked for
moved : {X : Type 0} (r : Read X) (bytes : List ℕ) (x y : X) (a b : List ℕ) → (x ≡ y) → (a ≡ b) → Taken r bytes x a → Taken r bytes y b
moved r bytes x y a b e f t = subst (λ q. Taken r bytes q b) e (subst (λ q. Taken r bytes x q) f t)

-- what was read, with more bytes behind
pub grown : {X : Type 0} (r : Read X) → IsLocal r → (bytes more : List ℕ) (x : X) (rest : List ℕ) → r bytes ≡ Ok (x, rest) → r (bytes ++ more) ≡ Ok (x, rest ++ more)
grown r a bytes more x rest e =
    let t = a.taken bytes x rest e in
    ap (λ b. r (b ++ more)) t.parts ∙ ap r (append_assoc t.front rest more) ∙ t.again (rest ++ more)

pub IsLocal-byte : IsLocal byte
IsLocal-byte = record { taken = taken; refused = refused }
  where
    taken : (bytes : List ℕ) (x : ℕ) (rest : List ℕ) → byte bytes ≡ Ok (x, rest) → Taken byte bytes x rest
    taken [] x rest e = cc
    taken (b ∷ bs) x rest e =
        let p = same_pair b x bs rest e in
        record { front = x ∷ []; parts = ap (λ y. y ∷ bs) p.0 ∙ ap (λ y. x ∷ y) p.1; again = λ more. refl }

    refused : (bytes more : List ℕ) (e : CertFault) → byte bytes ≡ Err e → (e ≡ fault.CutShort → ⊥) → byte (bytes ++ more) ≡ Err e
    refused [] more e h n = absurd (n (sym (same_fault {A = ℕ × List ℕ} fault.CutShort e h)))
    refused (b ∷ bs) more e h n = cc

parted : (bytes a mid b rest : List ℕ) → bytes ≡ a ++ mid → mid ≡ b ++ rest → bytes ≡ (a ++ b) ++ rest
parted bytes a mid b rest e f = e ∙ ap (λ (y : List ℕ). a ++ y) f ∙ sym (append_assoc a b rest)

pub IsLocal-followed : {X Y : Type 0} (r : Read X) (t : X → Read Y) → IsLocal r → ((x : X) → IsLocal (t x)) → IsLocal (followed r t)
IsLocal-followed {X} {Y} r t a b = record {
  taken = λ bytes p rest e.
      let c = went_on (r bytes) (λ x rest. go_on (t x rest) (λ y end. Ok ((x, y), end))) (p, rest) e in
      let d = went_on (t c.0 c.1) (λ y end. Ok ((c.0, y), end)) (p, rest) c.3 in
      let first = a.taken bytes c.0 c.1 c.2 in
      let second = (b c.0).taken c.1 d.0 d.1 d.2 in
      let s = same_pair (c.0, d.0) p d.1 rest d.3 in
      let made : Taken (followed r t) bytes (c.0, d.0) d.1 = record {
        front = first.front ++ second.front;
        parts = parted bytes first.front c.1 second.front d.1 first.parts second.parts;
        again = λ more. ap (followed r t) (append_assoc first.front second.front more) ∙ rw (first.again (second.front ++ more), second.again more) refl;
      } in
      moved (followed r t) bytes (c.0, d.0) p d.1 rest s.0 s.1 made;
  refused = λ bytes more e h n. first bytes more e n (r bytes) refl h;
}
  where
    second : (bytes more : List ℕ) (e : CertFault) → (e ≡ fault.CutShort → ⊥) → (x : X) (rest : List ℕ) → r bytes ≡ Ok (x, rest) → (read : Result (Y × List ℕ) CertFault) → t x rest ≡ read
        → go_on {Y = (X × Y) × List ℕ} read (λ y end. Ok ((x, y), end)) ≡ Err e → followed r t (bytes ++ more) ≡ Err e
    second bytes more e n x rest g (Ok q) k h = cc
    second bytes more e n x rest g (Err d) k h =
        let s = same_fault {A = (X × Y) × List ℕ} d e h in
        rw (grown r a bytes more x rest g, (b x).refused rest more e (k ∙ ap (λ f. failed f) s) n) refl

    first : (bytes more : List ℕ) (e : CertFault) → (e ≡ fault.CutShort → ⊥) → (read : Result (X × List ℕ) CertFault) → r bytes ≡ read
        → go_on {Y = (X × Y) × List ℕ} read (λ x rest. go_on (t x rest) (λ y end. Ok ((x, y), end))) ≡ Err e → followed r t (bytes ++ more) ≡ Err e
    first bytes more e n (Ok p) g h = second bytes more e n p.0 p.1 g (t p.0 p.1) refl h
    first bytes more e n (Err d) g h =
        let s = same_fault {A = (X × Y) × List ℕ} d e h in
        rw (a.refused bytes more e (g ∙ ap (λ f. failed f) s) n) refl

pub IsLocal-both : {X Y : Type 0} (r : Read X) (t : Read Y) → IsLocal r → IsLocal t → IsLocal (both r t)
IsLocal-both r t a b = IsLocal-followed r (λ x. t) a (λ x. b)

pub IsLocal-mapped : {X Y : Type 0} (f : X → Y) (r : Read X) → IsLocal r → IsLocal (mapped f r)
IsLocal-mapped {X} {Y} f r a = record {
  taken = λ bytes y rest e.
      let c = went_on (r bytes) (λ x rest. Ok (f x, rest)) (y, rest) e in
      let s = same_pair (f c.0) y c.1 rest c.3 in
      let first = a.taken bytes c.0 c.1 c.2 in
      let made : Taken (mapped f r) bytes (f c.0) c.1 = record { front = first.front; parts = first.parts; again = λ more. rw (first.again more) refl } in
      moved (mapped f r) bytes (f c.0) y c.1 rest s.0 s.1 made;
  refused = λ bytes more e h n. by bytes more e n (r bytes) refl h;
}
  where
    by : (bytes more : List ℕ) (e : CertFault) → (e ≡ fault.CutShort → ⊥) → (read : Result (X × List ℕ) CertFault) → r bytes ≡ read → go_on {Y = Y × List ℕ} read (λ x rest. Ok (f x, rest)) ≡ Err e → mapped f r (bytes ++ more) ≡ Err e
    by bytes more e n (Ok p) g h = cc
    by bytes more e n (Err d) g h =
        let s = same_fault {A = Y × List ℕ} d e h in
        rw (a.refused bytes more e (g ∙ ap (λ f. failed f) s) n) refl

pub passed : {X : Type 0} (d : CertFault) (b : Bool) (x y : X) (rest end : List ℕ) → if_passes d b x rest ≡ Ok (y, end) → (b ≡ true) × (x ≡ y) × (rest ≡ end)
passed d true x y rest end e = let p = same_pair x y rest end e in (refl, p.0, p.1)
passed d false x y rest end e = cc

-- what lies behind plays no part in a test
stays_wrong : {X : Type 0} (d e : CertFault) (b : Bool) (x : X) (rest other : List ℕ) → if_passes d b x rest ≡ Err e → if_passes d b x other ≡ Err e
stays_wrong d e true x rest other h = cc
stays_wrong {X} d e false x rest other h = ap (λ f. failed {A = X × List ℕ} f) (same_fault {A = X × List ℕ} d e h)

pub IsLocal-checked : {X : Type 0} (d : CertFault) (p : X → Bool) (r : Read X) → IsLocal r → IsLocal (checked d p r)
IsLocal-checked {X} d p r a = record {
  taken = λ bytes x rest e.
      let c = went_on (r bytes) (λ x rest. if_passes d (p x) x rest) (x, rest) e in
      let t = passed d (p c.0) c.0 x c.1 rest c.3 in
      let first = a.taken bytes c.0 c.1 c.2 in
      let made : Taken (checked d p r) bytes c.0 c.1 = record { front = first.front; parts = first.parts; again = λ more. rw (first.again more, t.0) refl } in
      moved (checked d p r) bytes c.0 x c.1 rest t.1 t.2 made;
  refused = λ bytes more e h n. by bytes more e n (r bytes) refl h;
}
  where
    by : (bytes more : List ℕ) (e : CertFault) → (e ≡ fault.CutShort → ⊥) → (read : Result (X × List ℕ) CertFault) → r bytes ≡ read → go_on read (λ x rest. if_passes d (p x) x rest) ≡ Err e → checked d p r (bytes ++ more) ≡ Err e
    by bytes more e n (Ok q) g h = rw (grown r a bytes more q.0 q.1 g) (stays_wrong d e (p q.0) q.0 q.1 (q.1 ++ more) h)
    by bytes more e n (Err c) g h =
        let s = same_fault {A = X × List ℕ} c e h in
        rw (a.refused bytes more e (g ∙ ap (λ f. failed f) s) n) refl

pub IsLocal-optional : {X : Type 0} (there : Bool) (r : Read X) → IsLocal r → IsLocal (optional there r)
IsLocal-optional true r a = IsLocal-mapped Some r a
IsLocal-optional {X} false r a = record {
  taken = λ bytes o rest e.
      let s = same_pair None o bytes rest e in
      let made : Taken (optional {X = X} false r) bytes None bytes = record { front = []; parts = refl; again = λ more. refl } in
      moved (optional {X = X} false r) bytes None o bytes rest s.0 s.1 made;
  refused = λ bytes more e h n. cc;
}

-- the same reader in other words
pub IsLocal-as : {X : Type 0} (r t : Read X) → ((bytes : List ℕ) → r bytes ≡ t bytes) → IsLocal r → IsLocal t
IsLocal-as {X} r t same a = record {
  taken = λ bytes x rest e.
      let first = a.taken bytes x rest (same bytes ∙ e) in
      record { front = first.front; parts = first.parts; again = λ more. sym (same (first.front ++ more)) ∙ first.again more };
  refused = λ bytes more e h n. sym (same (bytes ++ more)) ∙ a.refused bytes more e (same bytes ∙ h) n;
}

abbrev pub front_of : {X : Type 0} → X × List X → List X
front_of p = p.0 ∷ p.1

-- one more of so many is one, and so many
pub one_more : {S X : Type 0} (step : S → Read X) (next : X → S) (n : ℕ) (s : S) (bytes : List ℕ) → mapped front_of (followed (step s) (λ x. several step next (next x) n)) bytes ≡ several step next s (suc n) bytes
unfolding several
one_more {S} {X} step next n s bytes = first (step s bytes)
  where
    second : (x : X) (read : Result (List X × List ℕ) CertFault) → go_on {X = X × List X} {Y = List X × List ℕ} (go_on read (λ y end. Ok ((x, y), end))) (λ p rest. Ok (front_of p, rest)) ≡ go_on {Y = List X × List ℕ} read (λ xs end. Ok (x ∷ xs, end))
    second x (Ok p) = refl
    second x (Err e) = refl

    first : (read : Result (X × List ℕ) CertFault)
        → go_on {X = X × List X} {Y = List X × List ℕ} (go_on read (λ x rest. go_on (several step next (next x) n rest) (λ y end. Ok ((x, y), end)))) (λ p rest. Ok (front_of p, rest)) ≡ go_on {Y = List X × List ℕ} read (λ x rest. go_on (several step next (next x) n rest) (λ xs end. Ok (x ∷ xs, end)))
    first (Ok p) = second p.0 (several step next (next p.0) n p.1)
    first (Err e) = refl

pub IsLocal-several : {S X : Type 0} (step : S → Read X) (next : X → S) → ((s : S) → IsLocal (step s)) → (n : ℕ) (s : S) → IsLocal (several step next s n)
unfolding several
IsLocal-several {S} {X} step next a zero s = record {
  taken = λ bytes xs rest e.
      let p = same_pair [] xs bytes rest e in
      let made : Taken (several step next s 0) bytes [] bytes = record { front = []; parts = refl; again = λ more. refl } in
      moved (several step next s 0) bytes [] xs bytes rest p.0 p.1 made;
  refused = λ bytes more e h n. cc;
}
IsLocal-several {S} {X} step next a (suc n) s =
    IsLocal-as (mapped front_of (followed (step s) (λ x. several step next (next x) n))) (several step next s (suc n)) (one_more step next n s)
    (IsLocal-mapped front_of (followed (step s) (λ x. several step next (next x) n)) (IsLocal-followed (step s) (λ x. several step next (next x) n) (a s) (λ x. IsLocal-several step next a n (next x))))

pub IsLocal-counted : {S X : Type 0} (count : Read ℕ) (step : S → Read X) (next : X → S) (s : S) → IsLocal count → ((s : S) → IsLocal (step s)) → IsLocal (counted count step next s)
IsLocal-counted {S} {X} count step next s a b = IsLocal-mapped (λ p. p.1) (followed count (several step next s)) (IsLocal-followed count (several step next s) a (λ n. IsLocal-several step next b n s))
