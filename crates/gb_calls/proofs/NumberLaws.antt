-- A callee is among the procedures that begin at the address: the others needn't be looked at.
use Rattle.std.proofs.Common.{◌≡◌, ℕ, zero, suc, ◌+◌, ◌≤◌, ◌<◌, Bool, true, false, ◌&&◌, ◌==◌, List, [], ◌∷◌, length, drop, slice_get, Option, Some, None, refl, sym, ◌∙◌, ap, arith}
use Rattle.std.proofs.lemmas.Bool.{eqb-true}
use Rattle.gb_domain.specs.declared.setting.Setting.{Setting}
use Rattle.gb_domain.specs.Summaries.{Program}
use Rattle.gb_domain.specs.Types.{AbsState, ProcedureParts, Node}
use Rattle.gb_domain.specs.Certificate.{Certificate}
use Rattle.gb_cert.specs.Below.gb_states.WholeRules.{address_in, entry_in}
use Rattle.gb_cert.specs.Namesakes.{AreAmong}
use Rattle.gb_calls.specs.Calls.{may_begin, is_entry_node, is_entry, or_later, entry_from, entry_behind_main}

apart : (b c : Bool) → (b ≡ true → ⊥) → (b && c) ≡ false
apart true c other = absurd (other refl)
apart false c other = refl

-- it doesn't begin so if it begins at another address
entry-elsewhere : (program : Program) (cert : Certificate) (z : Setting) (a : ℕ) (s : AbsState) (p : ProcedureParts) → (entry_in cert.nodes (Some p) ≡ a → ⊥) → is_entry program cert z a s p ≡ false
unfolding is_entry
entry-elsewhere program cert z a s p other = by (slice_get cert.nodes p.entry) other
  where
    by : (o : Option Node) → (address_in o ≡ a → ⊥) → is_entry_node program cert.region z a s p.base p.kept o ≡ false
    by None other = refl
    by (Some n) other = apart (n.address == a) (may_begin program cert.region z s p.base p.kept n.state) (λ e. other (eqb-true n.address a e))

none-from :
    (program : Program) (cert : Certificate) (z : Setting) (a : ℕ) (s : AbsState) (i : ℕ) (ps : List ProcedureParts)
    → ((j : ℕ) (p : ProcedureParts) → slice_get ps j ≡ Some p → is_entry program cert z a s p ≡ false) → entry_from program cert z a s i ps ≡ None
none-from program cert z a s i [] h = refl
none-from program cert z a s i (p ∷ ps) h =
    ap (λ b. or_later b i (entry_from program cert z a s (i + 1) ps)) (h 0 p refl) ∙ none-from program cert z a s (i + 1) ps (λ j q e. h (suc j) q e)

from-behind :
    (program : Program) (cert : Certificate) (z : Setting) (a : ℕ) (s : AbsState) (i n : ℕ) (ps : List ProcedureParts)
    → ((j : ℕ) (p : ProcedureParts) → j < n → slice_get ps j ≡ Some p → is_entry program cert z a s p ≡ false)
    → entry_from program cert z a s i ps ≡ entry_from program cert z a s (i + n) (drop n ps)
from-behind program cert z a s i zero ps h = let same : i ≡ i + 0 = omega arith in ap (λ (k : ℕ). entry_from program cert z a s k ps) same
from-behind program cert z a s i (suc n) [] h = refl
from-behind program cert z a s i (suc n) (p ∷ ps) h =
    let same : (i + 1) + n ≡ i + suc n = omega arith in
    ap (λ b. or_later b i (entry_from program cert z a s (i + 1) ps)) (h 0 p (omega arith) refl)
    ∙ (from-behind program cert z a s (i + 1) n ps (λ j q lt e. h (suc j) q (omega arith) e) ∙ ap (λ (k : ℕ). entry_from program cert z a s k (drop n ps)) same)

at-drop : (ps : List ProcedureParts) (i j : ℕ) → slice_get (drop i ps) j ≡ slice_get ps (i + j)
at-drop ps zero j = let same : j ≡ 0 + j = omega arith in ap (slice_get ps) same
at-drop [] (suc i) j = refl
at-drop (p ∷ ps) (suc i) j = let same : suc (i + j) ≡ suc i + j = omega arith in at-drop ps i j ∙ ap (slice_get (p ∷ ps)) same

below : (ps : List ProcedureParts) (i : ℕ) (p : ProcedureParts) → slice_get ps i ≡ Some p → i < length ps
below [] i p e = absurd (cc)
below (q ∷ ps) zero p e = omega arith
below (q ∷ ps) (suc i) p e = omega (arith, below ps i p e)

-- they are among all procedures behind main
pub among-all : (cert : Certificate) (a after : ℕ) → after ≡ length cert.procedures → AreAmong cert a 1 after
among-all cert a after same = record {
  behind_main = omega arith;
  within = omega arith;
  all = λ i p some at e. (some, omega (arith, below cert.procedures i p at));
}

-- before the first there is no callee
pub callee-first :
    (program : Program) (cert : Certificate) (z : Setting) (a : ℕ) (s : AbsState) (first after : ℕ) → AreAmong cert a first after
    → entry_from program cert z a s first (drop first cert.procedures) ≡ entry_behind_main program cert z a s cert.procedures
callee-first program cert z a s first after h =
    by first cert.procedures h.behind_main (λ i p some lt at. entry-elsewhere program cert z a s p (λ e. before i some lt (h.all i p some at e).0))
  where
    before : (i : ℕ) → 0 < i → i < first → first ≤ i → ⊥
    before i some lt le = omega arith

    by :
        (n : ℕ) (ps : List ProcedureParts) → 0 < n → ((i : ℕ) (p : ProcedureParts) → 0 < i → i < n → slice_get ps i ≡ Some p → is_entry program cert z a s p ≡ false)
        → entry_from program cert z a s n (drop n ps) ≡ entry_behind_main program cert z a s ps
    by zero ps some apart = absurd (omega arith)
    by (suc n) [] some apart = refl
    by (suc n) (main ∷ ps) some apart =
        let same : 1 + n ≡ suc n = omega arith in
        ap (λ (k : ℕ). entry_from program cert z a s k (drop n ps)) (sym same) ∙ sym (from-behind program cert z a s 1 n ps (λ j p lt at. apart (suc j) p (omega arith) (omega arith) at))

-- nor behind the last
pub callee-last :
    (program : Program) (cert : Certificate) (z : Setting) (a : ℕ) (s : AbsState) (first after i : ℕ) → AreAmong cert a first after → first ≤ i → after ≤ i
    → entry_from program cert z a s i (drop i cert.procedures) ≡ None
callee-last program cert z a s first after i h from last =
    none-from program cert z a s i (drop i cert.procedures) (λ j p at. entry-elsewhere program cert z a s p (λ e. behind j (h.all (i + j) p (some j) (sym (at-drop cert.procedures i j) ∙ at) e).1))
  where
    some : (j : ℕ) → 0 < i + j
    some j = let front = h.behind_main in omega arith

    behind : (j : ℕ) → i + j < after → ⊥
    behind j lt = omega arith
