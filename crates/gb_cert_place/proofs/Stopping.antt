-- Where the readers of a certificate's parts stop, by the parts of a format.
use Rattle.std.proofs.Common.{◌≡◌, ℕ, ◌+◌, ◌-◌, ◌≤◌, ◌<◌, true, false, List, ◌++◌, length, take, drop, Option, Result, Ok, Err, refl, sym, ◌∙◌, ap, subst, append_assoc, arith, ◌⊎◌, inl, inr}
use Rattle.std.proofs.lemmas.List.{take-append-drop, take_all, length-append, length-drop}
use Rattle.std.proofs.Math.Seq.{take-append-add}
use Rattle.std.proofs.lemmas.Bool.{cases_lt}
use Rattle.gb_fields.specs.declared.fault.CertFault.{CertFault}
use Rattle.gb_fields.specs.declared.fault.CertFault.TheVariants as fault
use Rattle.gb_fields.specs.Format.{Read, go_on, followed, mapped, faultless}
use Rattle.gb_cert_place.specs.Stops.{StopsAt, is_missing}
use Rattle.gb_states.proofs.Formats.{same_pair}
use Rattle.gb_cert_place.proofs.Locality.{IsLocal, grown, failed, same_fault}

-- a fault is that bytes are missing, or another
pub data IsCut : CertFault → Type 0 where
  Cut : IsCut fault.CutShort
  Other : {e : CertFault} → (e ≡ fault.CutShort → ⊥) → IsCut e

pub is_cut : (e : CertFault) → IsCut e
is_cut fault.CutShort = Cut
is_cut fault.Magic = Other (λ h. cc)
is_cut fault.Version = Other (λ h. cc)
is_cut fault.Count = Other (λ h. cc)
is_cut fault.Field = Other (λ h. cc)
is_cut fault.Order = Other (λ h. cc)
is_cut fault.Region = Other (λ h. cc)
is_cut fault.LeftOver = Other (λ h. cc)
is_cut fault.Memory = Other (λ h. cc)

-- Fewer bytes than are taken are missing bytes.
pub tight : {X : Type 0} (r : Read X) → IsLocal r → (bytes : List ℕ) (x : X) (rest : List ℕ) → r bytes ≡ Ok (x, rest) → (j : ℕ) → j + length rest < length bytes → r (take j bytes) ≡ Err fault.CutShort
tight {X} r a bytes x rest e j lt = by (r (take j bytes)) refl
  where
    refused : (d : CertFault) → r (take j bytes) ≡ Err d → IsCut d → r (take j bytes) ≡ Err fault.CutShort
    refused d h Cut = h
    refused d h (Other n) =
        let k : r bytes ≡ Err d = ap r (sym (take-append-drop j bytes)) ∙ a.refused (take j bytes) (drop j bytes) d h n in
        absurd cc

    by : (read : Result (X × List ℕ) CertFault) → r (take j bytes) ≡ read → r (take j bytes) ≡ Err fault.CutShort
    by (Err d) h = refused d h (is_cut d)
    by (Ok p) h =
        let k : r bytes ≡ Ok (p.0, p.1 ++ drop j bytes) = ap r (sym (take-append-drop j bytes)) ∙ grown r a (take j bytes) (drop j bytes) p.0 p.1 h in
        let q : rest ≡ p.1 ++ drop j bytes = (same_pair x p.0 rest (p.1 ++ drop j bytes) (sym e ∙ k)).1 in
        let m : length rest ≡ length p.1 + (length bytes - j) = ap length q ∙ length-append p.1 (drop j bytes) ∙ ap (λ n. length p.1 + n) (length-drop j bytes) in
        absurd (omega arith)

pub StopsAt-first : {X Y : Type 0} (r : Read X) (t : X → Read Y) (bytes : List ℕ) (e : CertFault) (k : ℕ) → StopsAt r bytes e k → StopsAt (followed r t) bytes e k
StopsAt-first r t bytes e k s = record {
  meets = rw s.meets refl;
  within = s.within;
  before = λ j lt. rw (s.before j lt) refl;
  decided = λ more n. rw (s.decided more n) refl;
  cut = s.cut;
}

pub StopsAt-mapped : {X Y : Type 0} (f : X → Y) (r : Read X) (bytes : List ℕ) (e : CertFault) (k : ℕ) → StopsAt r bytes e k → StopsAt (mapped f r) bytes e k
StopsAt-mapped f r bytes e k s = record {
  meets = rw s.meets refl;
  within = s.within;
  before = λ j lt. rw (s.before j lt) refl;
  decided = λ more n. rw (s.decided more n) refl;
  cut = s.cut;
}

pub StopsAt-faultless : {X : Type 0} (fault_of : X → Option CertFault) (r : Read X) (bytes : List ℕ) (e : CertFault) (k : ℕ) → StopsAt r bytes e k → StopsAt (faultless fault_of r) bytes e k
StopsAt-faultless fault_of r bytes e k s = record {
  meets = rw s.meets refl;
  within = s.within;
  before = λ j lt. rw (s.before j lt) refl;
  decided = λ more n. rw (s.decided more n) refl;
  cut = s.cut;
}

behind_front : {X Y : Type 0} (r : Read X) (t : X → Read Y) (front rest : List ℕ) (x : X) → ((more : List ℕ) → r (front ++ more) ≡ Ok (x, more)) → IsLocal r
    → (e : CertFault) (k : ℕ) → StopsAt (t x) rest e k → StopsAt (followed r t) (front ++ rest) e (length front + k)
behind_front r t front rest x again a e k s = record {
  meets = rw (again rest, s.meets) refl;
  within = let l = length-append front rest in let w : k ≤ length rest = s.within in omega (arith, l, w);
  before = λ j lt. by j lt (cases_lt j (length front));
  decided = λ more n. ap (λ b. followed r t (b ++ more)) (take-append-add front rest k) ∙ ap (followed r t) (append_assoc front (take k rest) more) ∙ rw (again (take k rest ++ more), s.decided more n) refl;
  cut = λ h. ap (λ n. length front + n) (s.cut h) ∙ sym (length-append front rest);
}
  where
    by : (j : ℕ) → j < length front + k → (j < length front) ⊎ (length front ≤ j) → followed r t (take j (front ++ rest)) ≡ Err fault.CutShort
    by j lt (inl low) =
        let l : length (front ++ rest) ≡ length front + length rest = length-append front rest in
        let m : j + length rest < length (front ++ rest) = omega arith in
        rw (tight r a (front ++ rest) x rest (again rest) j m) refl
    by j lt (inr high) =
        let i : j ≡ length front + (j - length front) = omega arith in
        let l : j - length front < k = omega arith in
        let f : take j (front ++ rest) ≡ front ++ take (j - length front) rest = ap (λ n. take n (front ++ rest)) i ∙ take-append-add front rest (j - length front) in
        ap (followed r t) f ∙ rw (again (take (j - length front) rest), s.before (j - length front) l) refl

pub StopsAt-then : {X Y : Type 0} (r : Read X) (t : X → Read Y) → IsLocal r → (bytes : List ℕ) (x : X) (rest : List ℕ) → r bytes ≡ Ok (x, rest) → (e : CertFault) (left : ℕ) → left ≤ length rest
    → StopsAt (t x) rest e (length rest - left) → StopsAt (followed r t) bytes e (length bytes - left)
StopsAt-then r t a bytes x rest h e left few s =
    let w = a.taken bytes x rest h in
    let l : length bytes ≡ length w.front + length rest = ap length w.parts ∙ length-append w.front rest in
    let n : length bytes - left ≡ length w.front + (length rest - left) = omega arith in
    let k = behind_front r t w.front rest x w.again a e (length rest - left) s in
    subst (λ m. StopsAt (followed r t) bytes e m) (sym n) (subst (λ b. StopsAt (followed r t) b e (length w.front + (length rest - left))) (sym w.parts) k)

pub is_cut_short : (c : CertFault) → is_missing c ≡ true → c ≡ fault.CutShort
is_cut_short fault.CutShort h = refl
is_cut_short fault.Magic h = absurd cc
is_cut_short fault.Version h = absurd cc
is_cut_short fault.Count h = absurd cc
is_cut_short fault.Field h = absurd cc
is_cut_short fault.Order h = absurd cc
is_cut_short fault.Region h = absurd cc
is_cut_short fault.LeftOver h = absurd cc
is_cut_short fault.Memory h = absurd cc

-- Fewer than i bytes are missing bytes.
abbrev pub IsShort : {X : Type 0} → Read X → List ℕ → ℕ → Type 0
IsShort r bytes i = (j : ℕ) → j < i → r (take j bytes) ≡ Err fault.CutShort

pub short_on : {X : Type 0} (r : Read X) (bytes : List ℕ) (i : ℕ) (d : CertFault) → IsShort r bytes i → r (take i bytes) ≡ Err d → is_missing d ≡ true → IsShort r bytes (i + 1)
short_on r bytes i d short g m j lt = by (cases_lt j i)
  where
    by : (j < i) ⊎ (i ≤ j) → r (take j bytes) ≡ Err fault.CutShort
    by (inl low) = short j low
    by (inr high) = let k : j ≡ i = omega arith in ap (λ n. r (take n bytes)) k ∙ g ∙ ap (λ c. Err c) (is_cut_short d m)

-- Where a beginning can be read, so can all.
pub reads_on : {X : Type 0} (r : Read X) → IsLocal r → (bytes : List ℕ) (i : ℕ) (x : X) (rest : List ℕ) → r (take i bytes) ≡ Ok (x, rest) → r bytes ≡ Ok (x, rest ++ drop i bytes)
reads_on r a bytes i x rest g = ap r (sym (take-append-drop i bytes)) ∙ grown r a (take i bytes) (drop i bytes) x rest g

-- The first beginning with another fault than that bytes are missing decides.
pub stops_here : {X : Type 0} (r : Read X) → IsLocal r → (bytes : List ℕ) (e d : CertFault) (i : ℕ) → r bytes ≡ Err e → i < length bytes → IsShort r bytes i → r (take i bytes) ≡ Err d → is_missing d ≡ false → StopsAt r bytes e i
stops_here {X} r a bytes e d i h lt short g m =
    let n : d ≡ fault.CutShort → ⊥ = λ c. differ d m c in
    let k : r bytes ≡ Err d = ap r (sym (take-append-drop i bytes)) ∙ a.refused (take i bytes) (drop i bytes) d g n in
    let s : d ≡ e = same_fault {A = X × List ℕ} d e (sym k ∙ h) in
    record {
      meets = h;
      within = omega arith;
      before = short;
      decided = λ more c. a.refused (take i bytes) more e (g ∙ ap (λ f. failed {A = X × List ℕ} f) s) c;
      cut = λ c. absurd (n (s ∙ c));
    }
  where
    differ : (d : CertFault) → is_missing d ≡ false → d ≡ fault.CutShort → ⊥
    differ d m c = let k : is_missing d ≡ true = ap is_missing c in absurd cc

-- Where each beginning is short, all of the bytes decide.
pub stops_at_end : {X : Type 0} (r : Read X) → IsLocal r → (bytes : List ℕ) (e : CertFault) → r bytes ≡ Err e → IsShort r bytes (length bytes) → StopsAt r bytes e (length bytes)
stops_at_end r a bytes e h short = record {
  meets = h;
  within = omega arith;
  before = short;
  decided = λ more n. ap (λ b. r (b ++ more)) (take_all (length bytes) bytes (omega arith)) ∙ a.refused bytes more e h n;
  cut = λ m. refl;
}

-- What a field stands for plays no part.
pub StopsAt-unmapped : {X Y : Type 0} (f : X → Y) (r : Read X) (bytes : List ℕ) (e : CertFault) (k : ℕ) → StopsAt (mapped f r) bytes e k → StopsAt r bytes e k
StopsAt-unmapped {X} {Y} f r bytes e k s = record {
  meets = by (r bytes) e s.meets;
  within = s.within;
  before = λ j lt. by (r (take j bytes)) fault.CutShort (s.before j lt);
  decided = λ more n. by (r (take k bytes ++ more)) e (s.decided more n);
  cut = s.cut;
}
  where
    by : (read : Result (X × List ℕ) CertFault) (d : CertFault) → go_on {Y = Y × List ℕ} read (λ x rest. Ok (f x, rest)) ≡ Err d → read ≡ Err d
    by (Ok p) d h = cc
    by (Err c) d h = ap (λ f. failed {A = X × List ℕ} f) (same_fault {A = Y × List ℕ} c d h)
