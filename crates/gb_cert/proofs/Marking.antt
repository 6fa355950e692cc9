-- Where items stand in bytes, and a mark of each, as a loop finds them.
use Rattle.std.proofs.Common.{◌≡◌, ℕ, ◌+◌, ◌-◌, ◌≤◌, ◌<◌, Bool, List, [], ◌∷◌, ◌++◌, length, map, Ok, Err, refl, ap, ◌∙◌, subst}
use Rattle.gb_domain.specs.Types.{ProcedureParts}
use Rattle.gb_states.specs.Below.gb_fields.declared.fault.CertFault.{CertFault}
use Rattle.gb_states.specs.Below.gb_fields.Format.{Read, mapped, several}
use Rattle.gb_states.specs.declared.form.ProcedureForm.{ProcedureForm}
use Rattle.gb_states.proofs.Formats.{IsBytes, IsFormat, went_on, same_pair}
use Rattle.gb_states.proofs.Several.{goes_on, ends}
use Rattle.gb_cert.specs.Places.{IsLeft}
use Rattle.gb_cert.specs.Places.{form_if, AreFormed}
use Rattle.gb_cert.proofs.Placing.{left-behind, drop-left, bytes-left, at-more, UnderWay, way-begins, way-done, mapped_wrong}

map-more : {X Y : Type 0} (f : X → Y) (xs : List X) (x : X) → map f xs ++ f x ∷ [] ≡ map f (xs ++ x ∷ [])
map-more f [] x = refl
map-more f (y ∷ ys) x = ap (λ zs. f y ∷ zs) (map-more f ys x)

-- So many items were passed, and of each its mark was found.
pub record MarkedWay {S X M : Type 0} (step : S → Read X) (next : X → S) (mark : X → M) (w : X → List ℕ) (bytes : List ℕ) (first : S) (count : ℕ) (start : List ℕ) (s : S) (i : ℕ) (left places : List ℕ) (marks : List M) : Type 0 where
  pub way : UnderWay step next w bytes first count start s i left places
  pub marks_are : marks ≡ map mark way.items

pub marked-begins : {S X M : Type 0} (step : S → Read X) (next : X → S) (mark : X → M) (w : X → List ℕ) (bytes : List ℕ) (first : S) (count : ℕ) (start : List ℕ) → IsLeft bytes start → MarkedWay step next mark w bytes first count start first 0 start [] []
unfolding way-begins
marked-begins step next mark w bytes first count start h = record { way = way-begins step next w bytes first count start h; marks_are = refl }

pub marked-on : {S X M : Type 0} (step : S → Read X) (next : X → S) (mark : X → M) (w : X → List ℕ) (good : S → X → Type 0) (bytes : List ℕ) (first : S) (count : ℕ) (start : List ℕ) (s t : S) (i : ℕ) (m : M) (left after places : List ℕ) (marks : List M)
    → IsFormat (step s) w (good s) → IsBytes bytes → i < count → ((x : X) → next x ≡ t) → mapped mark (step s) left ≡ Ok (m, after)
    → MarkedWay step next mark w bytes first count start s i left places marks → MarkedWay step next mark w bytes first count start t (i + 1) after (places ++ (length bytes - length left) ∷ []) (marks ++ m ∷ [])
marked-on {S} {X} {M} step next mark w good bytes first count start s t i m left after places marks f fit lt same e marked =
    let way = marked.way in
    let c = went_on (step s left) (λ x rest. Ok (mark x, rest)) (m, after) e in
    let p = same_pair (mark c.0) m c.1 after c.3 in
    let taken = f.takes left c.0 c.1 (bytes-left bytes left way.is_left fit) c.2 in
    let made : MarkedWay step next mark w bytes first count start (next c.0) (i + 1) c.1 (places ++ (length bytes - length left) ∷ []) (marks ++ mark c.0 ∷ []) = record {
      way = record {
        items = way.items ++ c.0 ∷ [];
        read = goes_on step next way.items s count i left c.0 c.1 (several step next first count start) lt c.2 way.read;
        are_at = at-more w bytes left c.1 places way.items (length bytes - length left) c.0 (drop-left bytes left way.is_left) taken.parts way.are_at;
        is_left = left-behind bytes left (w c.0) c.1 taken.parts way.is_left;
      };
      marks_are = ap (λ (ms : List M). ms ++ mark c.0 ∷ []) marked.marks_are ∙ map-more mark way.items c.0;
    } in
    subst (λ n. MarkedWay step next mark w bytes first count start t (i + 1) after (places ++ (length bytes - length left) ∷ []) (marks ++ n ∷ [])) p.0
    (subst (λ r. MarkedWay step next mark w bytes first count start t (i + 1) r (places ++ (length bytes - length left) ∷ []) (marks ++ mark c.0 ∷ [])) p.1
    (subst (λ u. MarkedWay step next mark w bytes first count start u (i + 1) c.1 (places ++ (length bytes - length left) ∷ []) (marks ++ mark c.0 ∷ [])) (same c.0) made))

pub marked-ends : {S X M : Type 0} (step : S → Read X) (next : X → S) (mark : X → M) (w : X → List ℕ) (bytes : List ℕ) (first : S) (count : ℕ) (start : List ℕ) (s : S) (i : ℕ) (left places : List ℕ) (marks : List M) (e : CertFault) → i < count → mapped mark (step s) left ≡ Err e
    → MarkedWay step next mark w bytes first count start s i left places marks → several step next first count start ≡ Err e
marked-ends step next mark w bytes first count start s i left places marks e lt h marked = ends step next marked.way.items s count i left e (several step next first count start) lt (mapped_wrong mark (step s left) e h) marked.way.read

pub marked-done : (fourth : Bool) {S : Type 0} (step : S → Read ProcedureParts) (next : ProcedureParts → S) (w : ProcedureParts → List ℕ) (bytes : List ℕ) (first : S) (count : ℕ) (start : List ℕ) (s : S) (i : ℕ) (left places : List ℕ) (forms : List ProcedureForm) → count ≤ i
    → MarkedWay step next (form_if fourth) w bytes first count start s i left places forms → AreFormed fourth w bytes (several step next first count start) places forms left
unfolding way-done
marked-done fourth step next w bytes first count start s i left places forms le marked = record { placed = way-done step next w bytes first count start s i left places le marked.way; forms_are = marked.marks_are }
