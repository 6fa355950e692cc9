-- Where items stand in bytes, as a loop finds them.
use Rattle.std.proofs.Common.{◌≡◌, ℕ, zero, suc, ◌+◌, ◌-◌, ◌≤◌, ◌<◌, List, [], ◌∷◌, ◌++◌, length, get_or, drop, Some, Result, Ok, Err, refl, sym, ap, ◌∙◌, subst, append_assoc, length-append, arith}
use Rattle.std.specs.Prelude.{slice_get}
use Rattle.std.specs.List.{flat_map}
use Rattle.std.proofs.lemmas.List.Concat.{flat_map-cons}
use Rattle.std.proofs.Math.Seq.{drop-append_seam}
use Rattle.gb_states.specs.Below.gb_fields.declared.fault.CertFault.{CertFault}
use Rattle.gb_states.specs.Below.gb_fields.Format.{Read, go_on, mapped, several}
use Rattle.gb_cert.specs.Places.{IsLeft, AreAt, StandsAt, ArePlaced}
use Rattle.gb_cert.specs.Skipping.{skipped}
use Rattle.gb_states.proofs.Formats.{IsBytes, IsFormat, went_on, same_pair}
use Rattle.gb_states.proofs.Several.{with_front, goes_on, ends, is_done}

-- ---- what is left

pub left-all : (bytes : List ℕ) → IsLeft bytes bytes
left-all bytes = record { front = []; parts = refl }

pub left-short : (bytes rest : List ℕ) → IsLeft bytes rest → length rest ≤ length bytes
left-short bytes rest h = omega (arith, ap length h.parts, length-append h.front rest)

pub left-behind : (bytes left front rest : List ℕ) → left ≡ front ++ rest → IsLeft bytes left → IsLeft bytes rest
left-behind bytes left front rest e h = record {
  front = h.front ++ front;
  parts = h.parts ∙ ap (λ (y : List ℕ). h.front ++ y) e ∙ sym (append_assoc h.front front rest);
}

pub drop-left : (bytes rest : List ℕ) → IsLeft bytes rest → drop (length bytes - length rest) bytes ≡ rest
drop-left bytes rest h =
    let k : length bytes - length rest ≡ length h.front = omega (arith, ap length h.parts, length-append h.front rest) in
    ap (λ (n : ℕ). drop n bytes) k ∙ ap (λ (y : List ℕ). drop (length h.front) y) h.parts ∙ drop-append_seam h.front rest

bytes-behind : (front rest : List ℕ) → IsBytes (front ++ rest) → IsBytes rest
bytes-behind [] rest h = h
bytes-behind (b ∷ front) rest h = bytes-behind front rest (λ i. h (suc i))

pub bytes-left : (bytes rest : List ℕ) → IsLeft bytes rest → IsBytes bytes → IsBytes rest
bytes-left bytes rest h fit = bytes-behind h.front rest (subst IsBytes h.parts fit)

-- ---- items at places

flat-more : {X : Type 0} (w : X → List ℕ) (xs : List X) (x : X) (after : List ℕ) → flat_map w (xs ++ x ∷ []) ++ after ≡ flat_map w xs ++ (w x ++ after)
flat-more w [] x after = ap (λ (y : List ℕ). y ++ after) (flat_map-cons w x []) ∙ append_assoc (w x) [] after
flat-more w (y ∷ ys) x after =
    ap (λ (z : List ℕ). z ++ after) (flat_map-cons w y (ys ++ x ∷ []))
    ∙ append_assoc (w y) (flat_map w (ys ++ x ∷ [])) after
    ∙ ap (λ (z : List ℕ). w y ++ z) (flat-more w ys x after)
    ∙ sym (append_assoc (w y) (flat_map w ys) (w x ++ after))
    ∙ ap (λ (z : List ℕ). z ++ (w x ++ after)) (sym (flat_map-cons w y ys))

pub at-more : {X : Type 0} (w : X → List ℕ) (bytes left after ps : List ℕ) (xs : List X) (p : ℕ) (x : X) → drop p bytes ≡ left → left ≡ w x ++ after → AreAt w bytes left ps xs → AreAt w bytes after (ps ++ p ∷ []) (xs ++ x ∷ [])
at-more w bytes left after [] [] p x d e h = (d ∙ e ∙ sym (flat-more w [] x after), tt)
at-more w bytes left after (q ∷ qs) (y ∷ ys) p x d e h = (h.0 ∙ ap (λ (z : List ℕ). flat_map w (y ∷ ys) ++ z) e ∙ sym (flat-more w (y ∷ ys) x after), at-more w bytes left after qs ys p x d e h.1)
at-more w bytes left after [] (y ∷ ys) p x d e h = absurd h
at-more w bytes left after (q ∷ qs) [] p x d e h = absurd h

pub at-length : {X : Type 0} (w : X → List ℕ) (bytes left ps : List ℕ) (xs : List X) → AreAt w bytes left ps xs → length ps ≡ length xs
at-length w bytes left [] [] h = refl
at-length w bytes left (q ∷ qs) (y ∷ ys) h = ap suc (at-length w bytes left qs ys h.1)
at-length w bytes left [] (y ∷ ys) h = absurd h
at-length w bytes left (q ∷ qs) [] h = absurd h

pub at-each : {X : Type 0} (w : X → List ℕ) (bytes left ps : List ℕ) (xs : List X) (i : ℕ) (x : X) → AreAt w bytes left ps xs → slice_get xs i ≡ Some x → StandsAt w bytes (get_or ps i 0) x
at-each w bytes left [] [] i x h e = cc
at-each w bytes left (q ∷ qs) (y ∷ ys) zero x h e =
    let same : y ≡ x = cc in
    record { tail = flat_map w ys ++ left; parts = subst (λ z. drop q bytes ≡ w z ++ (flat_map w ys ++ left)) same (h.0 ∙ ap (λ (z : List ℕ). z ++ left) (flat_map-cons w y ys) ∙ append_assoc (w y) (flat_map w ys) left) }
at-each w bytes left (q ∷ qs) (y ∷ ys) (suc i) x h e = at-each w bytes left qs ys i x h.1 e
at-each w bytes left [] (y ∷ ys) i x h e = absurd h
at-each w bytes left (q ∷ qs) [] i x h e = absurd h

-- ---- a loop

-- So many items were passed from the start on, and s is what the last of them leaves.
pub record UnderWay {S X : Type 0} (step : S → Read X) (next : X → S) (w : X → List ℕ) (bytes : List ℕ) (first : S) (count : ℕ) (start : List ℕ) (s : S) (i : ℕ) (left places : List ℕ) : Type 0 where
  pub items : List X
  pub read : with_front items (several step next s (count - i) left) ≡ several step next first count start
  pub are_at : AreAt w bytes left places items
  pub is_left : IsLeft bytes left

unfoldable pub way-begins : {S X : Type 0} (step : S → Read X) (next : X → S) (w : X → List ℕ) (bytes : List ℕ) (first : S) (count : ℕ) (start : List ℕ) → IsLeft bytes start → UnderWay step next w bytes first count start first 0 start []
way-begins {S} {X} step next w bytes first count start h = record { items = []; read = ap (λ (n : ℕ). with_front [] (several step next first n start)) all ∙ by (several step next first count start); are_at = tt; is_left = h }
  where
    all : count - 0 ≡ count
    all = omega arith

    by : (read : Result (List X × List ℕ) CertFault) → with_front [] read ≡ read
    by (Ok p) = refl
    by (Err e) = refl

pub way-on : {S X : Type 0} (step : S → Read X) (next : X → S) (w : X → List ℕ) (good : S → X → Type 0) (bytes : List ℕ) (first : S) (count : ℕ) (start : List ℕ) (s t : S) (i : ℕ) (left after places : List ℕ)
    → IsFormat (step s) w (good s) → IsBytes bytes → i < count → mapped next (step s) left ≡ Ok (t, after)
    → UnderWay step next w bytes first count start s i left places → UnderWay step next w bytes first count start t (i + 1) after (places ++ (length bytes - length left) ∷ [])
way-on {S} {X} step next w good bytes first count start s t i left after places f fit lt e way =
    let c = went_on (step s left) (λ x rest. Ok (next x, rest)) (t, after) e in
    let p = same_pair (next c.0) t c.1 after c.3 in
    let taken = f.takes left c.0 c.1 (bytes-left bytes left way.is_left fit) c.2 in
    let made : UnderWay step next w bytes first count start (next c.0) (i + 1) c.1 (places ++ (length bytes - length left) ∷ []) = record {
      items = way.items ++ c.0 ∷ [];
      read = goes_on step next way.items s count i left c.0 c.1 (several step next first count start) lt c.2 way.read;
      are_at = at-more w bytes left c.1 places way.items (length bytes - length left) c.0 (drop-left bytes left way.is_left) taken.parts way.are_at;
      is_left = left-behind bytes left (w c.0) c.1 taken.parts way.is_left;
    } in
    subst (λ u. UnderWay step next w bytes first count start u (i + 1) after (places ++ (length bytes - length left) ∷ [])) p.0 (subst (λ r. UnderWay step next w bytes first count start (next c.0) (i + 1) r (places ++ (length bytes - length left) ∷ [])) p.1 made)

pub mapped_wrong : {X Y : Type 0} (f : X → Y) (read : Result (X × List ℕ) CertFault) (e : CertFault) → go_on read (λ x rest. (let r : Result (Y × List ℕ) CertFault = Ok (f x, rest) in r)) ≡ Err e → read ≡ Err e
mapped_wrong f (Ok p) e h = absurd cc
mapped_wrong f (Err d) e h = cc

pub way-ends : {S X : Type 0} (step : S → Read X) (next : X → S) (w : X → List ℕ) (bytes : List ℕ) (first : S) (count : ℕ) (start : List ℕ) (s : S) (i : ℕ) (left places : List ℕ) (e : CertFault) → i < count → mapped next (step s) left ≡ Err e
    → UnderWay step next w bytes first count start s i left places → several step next first count start ≡ Err e
way-ends step next w bytes first count start s i left places e lt h way = ends step next way.items s count i left e (several step next first count start) lt (mapped_wrong next (step s left) e h) way.read

unfoldable pub way-done : {S X : Type 0} (step : S → Read X) (next : X → S) (w : X → List ℕ) (bytes : List ℕ) (first : S) (count : ℕ) (start : List ℕ) (s : S) (i : ℕ) (left places : List ℕ) → count ≤ i
    → UnderWay step next w bytes first count start s i left places → ArePlaced w bytes (several step next first count start) places left
way-done step next w bytes first count start s i left places le way = record {
  items = way.items;
  is_read = is_done step next way.items s count i left (several step next first count start) le way.read;
  are_at = way.are_at;
  is_left = way.is_left;
}

-- a reader whose value doesn't matter
pub mapped_all : {S X : Type 0} (next : X → S) (t : S) (r : Read X) (left after : List ℕ) → ((x : X) → next x ≡ t) → skipped r left ≡ Ok after → mapped next r left ≡ Ok (t, after)
mapped_all {S} {X} next t r left after same e = by (r left) e
  where
    by : (read : Result (X × List ℕ) CertFault) → go_on read (λ x rest. (let r : Result (List ℕ) CertFault = Ok rest in r)) ≡ Ok after → go_on read (λ x rest. (let r : Result (S × List ℕ) CertFault = Ok (next x, rest) in r)) ≡ Ok (t, after)
    by (Ok p) e = let f : p.1 ≡ after = cc in rw (same p.0, f) refl
    by (Err d) e = absurd cc

pub mapped_none : {S X : Type 0} (next : X → S) (r : Read X) (left : List ℕ) (e : CertFault) → skipped r left ≡ Err e → mapped next r left ≡ Err e
mapped_none {S} {X} next r left e h = by (r left) h
  where
    by : (read : Result (X × List ℕ) CertFault) → go_on read (λ x rest. (let r : Result (List ℕ) CertFault = Ok rest in r)) ≡ Err e → go_on read (λ x rest. (let r : Result (S × List ℕ) CertFault = Ok (next x, rest) in r)) ≡ Err e
    by (Ok p) h = absurd cc
    by (Err d) h = cc
