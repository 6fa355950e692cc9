-- Reading fields one after the other, as a loop does.
use Rattle.std.proofs.Common.{◌≡◌, ℕ, suc, ◌-◌, ◌+◌, ◌≤◌, ◌<◌, List, [], ◌∷◌, ◌++◌, Result, Ok, Err, refl, sym, ap, ◌∙◌, append_assoc, arith}
use Rattle.std.proofs.lemmas.List.{append-nil}
use Rattle.gb_fields.specs.declared.fault.CertFault.{CertFault}
use Rattle.gb_fields.specs.Format.{Read, go_on, several}

-- what was read before, and what is still read
abbrev pub with_front : {X : Type 0} → List X → Result (List X × List ℕ) CertFault → Result (List X × List ℕ) CertFault
with_front front read = go_on read (λ xs rest. Ok (front ++ xs, rest))

regroup : {X : Type 0} (front : List X) (x : X) (read : Result (List X × List ℕ) CertFault) → with_front front (go_on read (λ xs rest. Ok (x ∷ xs, rest))) ≡ with_front (front ++ x ∷ []) read
regroup {X} front x (Ok p) = ap (λ (xs : List X). Ok (xs, p.1)) (simp append_assoc)
regroup front x (Err e) = refl

pub goes_on : {S X : Type 0} (step : S → Read X) (next : X → S) (front : List X) (s : S) (count i : ℕ) (bytes : List ℕ) (x : X) (after : List ℕ) (total : Result (List X × List ℕ) CertFault) → i < count → step s bytes ≡ Ok (x, after)
    → with_front front (several step next s (count - i) bytes) ≡ total → with_front (front ++ x ∷ []) (several step next (next x) (count - (i + 1)) after) ≡ total
unfolding several
goes_on step next front s count i bytes x after total lt h so_far =
    let k : count - i ≡ suc (count - (i + 1)) = omega arith in
    let one : with_front front (several step next s (count - i) bytes) ≡ with_front (front ++ x ∷ []) (several step next (next x) (count - (i + 1)) after) = rw (k, h) (regroup front x (several step next (next x) (count - (i + 1)) after)) in
    sym one ∙ so_far

pub ends : {S X : Type 0} (step : S → Read X) (next : X → S) (front : List X) (s : S) (count i : ℕ) (bytes : List ℕ) (e : CertFault) (total : Result (List X × List ℕ) CertFault) → i < count → step s bytes ≡ Err e
    → with_front front (several step next s (count - i) bytes) ≡ total → total ≡ Err e
unfolding several
ends step next front s count i bytes e total lt h so_far =
    let k : count - i ≡ suc (count - (i + 1)) = omega arith in
    let one : with_front front (several step next s (count - i) bytes) ≡ Err e = rw (k, h) refl in
    sym so_far ∙ one

pub is_done : {S X : Type 0} (step : S → Read X) (next : X → S) (front : List X) (s : S) (count i : ℕ) (bytes : List ℕ) (total : Result (List X × List ℕ) CertFault) → count ≤ i
    → with_front front (several step next s (count - i) bytes) ≡ total → total ≡ Ok (front, bytes)
unfolding several
is_done {S} {X} step next front s count i bytes total le so_far =
    let k : count - i ≡ 0 = omega arith in
    let one : with_front front (several step next s (count - i) bytes) ≡ Ok (front, bytes) = rw k (ap (λ (xs : List X). Ok (xs, bytes)) (append-nil front)) in
    sym so_far ∙ one
