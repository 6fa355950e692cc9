-- What a certificate promises of its procedures.
use Rattle.std.proofs.Common.{◌≡◌, ℕ, zero, suc, ◌+◌, ◌≤◌, Bool, true, false, if◌then◌else◌, ◌==◌, ◌||◌, List, [], ◌∷◌, length, slice_get, Option, Some, None, refl, sym, ◌∙◌, ap, subst, ◌<◌, arith}
use Rattle.std.proofs.lemmas.Bool.{eqb-true, leb-true}
use Rattle.std.proofs.lemmas.Bool.Decides.{nat_tests}
use Rattle.std.proofs.lemmas.Option.{same_Some}
use Rattle.std.specs.Prelude.{IfSome}
use Rattle.std.specs.List.{AllByRecursion, list_any}
use Rattle.gb_ops.specs.declared.machine.Region.{Region}
use Rattle.gb_successors.specs.Below.gb_domain.declared.types.Range.{Range}
use Rattle.gb_successors.specs.Below.gb_domain.declared.types.Val.{Val}
use Rattle.gb_calls.specs.Below.gb_states.declared.role.Role.TheVariants as role
use Rattle.gb_successors.specs.Below.gb_domain.Types.{AbsState, ProcedureParts}
use Rattle.gb_successors.specs.Below.gb_domain.Certificate.{Certificate}
use Rattle.gb_successors.specs.Below.gb_domain.Areas.{IsRegion, meets}
use Rattle.gb_successors.specs.Below.gb_domain.Rules.{IsChain}
use Rattle.gb_successors.specs.Below.gb_domain.declared.rules.Rules.{Rules}
use Rattle.gb_successors.specs.Below.gb_domain.declared.rules.Rules.TheVariants.{Simple, Extended}
use Rattle.gb_successors.specs.Below.gb_domain.Limits.{rules_of}
use Rattle.gb_successors.specs.Below.gb_domain.Settings.{known_base, IsBase}
use Rattle.gb_calls.specs.Below.gb_states.Rules.{is_base_of, IsRange, after_range, is_after, size}
use Rattle.gb_calls.specs.Below.gb_states.WholeRules.{IsCertificate}
use Rattle.gb_successors.specs.Below.gb_abs.Span.{one}
use Rattle.gb_successors.specs.Below.gb_abs.Stack.{AreInRegion}
use Rattle.gb_successors.specs.Below.gb_abs_memory.Access.{is_range}
use Rattle.gb_successors.proofs.Below.gb_abs_laws.LocationLaws.{is_located-of}
use Rattle.gb_successors.specs.Below.gb_abs.Meaning.{is_located}
use Rattle.gb_rules.proofs.CertificateLaws.{HasStateParts, HasProcedureParts, procedures_have}
use Rattle.gb_rules.specs.Safety.{HasReturnWord}
use Rattle.gb_rules.specs.Procedures.{ranges_in, kept_in, need_in, base_in, exit_in, ranges_of, kept_of, need_of, setting_of, exit_of}

-- ---- the procedure with a number

-- the addresses that it names to be kept
pub kept_is : (cert : Certificate) (q : ℕ) (p : ProcedureParts) → slice_get cert.procedures q ≡ Some p → kept_of cert q ≡ p.kept
unfolding kept_of
kept_is cert q p at = ap kept_in at

-- one of a certificate's procedures, main or not
record IsOneProcedure (rules : Rules) (region : Region) (p : ProcedureParts) : Type 0 where
  is_main : Bool
  parts : HasProcedureParts rules region is_main p

one_procedure : (rules : Rules) (region : Region) (is_main : Bool) (ps : List ProcedureParts) (i : ℕ) (p : ProcedureParts) → IsChain (HasProcedureParts rules region) is_after is_main ps
    → slice_get ps i ≡ Some p → IsOneProcedure rules region p
one_procedure rules region is_main [] i p h at = cc
one_procedure rules region is_main (q ∷ ps) zero p h at = record { is_main = is_main; parts = subst (λ r. HasProcedureParts rules region is_main r) (same_Some _ _ at) h.0 }
one_procedure rules region is_main (q ∷ ps) (suc i) p h at = one_procedure rules region false ps i p h.1 at

procedure_at : (cert : Certificate) (i : ℕ) (p : ProcedureParts) → IsCertificate cert → slice_get cert.procedures i ≡ Some p → IsOneProcedure (rules_of cert.version) cert.region p
procedure_at cert i p certificate at = one_procedure (rules_of cert.version) cert.region true cert.procedures i p (procedures_have cert certificate) at

-- ---- its need

-- the bytes that main may need lie in the region
main_fits : (rules : Rules) (region : Region) (ps : List ProcedureParts) → IsRegion region → IsChain (HasProcedureParts rules region) is_after true ps
    → AreInRegion region (region.last + 1) (need_in (slice_get ps 0))
main_fits rules region [] r h =
    let area = r.area in
    let order : region.first ≤ region.last = grind (arith, nat_tests) in
    record { first = omega arith; last = omega arith }
main_fits rules region (p ∷ ps) r h =
    let area = r.area in
    let order : region.first ≤ region.last = grind (arith, nat_tests) in
    let fitting : p.need ≤ size region = leb-true p.need (size region) h.0.room in
    record { first = omega arith; last = omega arith }

-- main's base is the address behind the region
pub main_room : (cert : Certificate) → IsCertificate cert → AreInRegion cert.region (cert.region.last + 1) (need_of cert 0)
unfolding need_of
main_room cert certificate = main_fits (rules_of cert.version) cert.region cert.procedures certificate.region (procedures_have cert certificate)

-- ---- its base

some_base : (n b : ℕ) → (if n == 0 then None else Some n) ≡ Some b → n ≡ b
some_base n b e = by (n == 0) e
  where
    by : (t : Bool) → (if t then None else Some n) ≡ Some b → n ≡ b
    by true h = cc
    by false h = same_Some _ _ h

no_base : (n b : ℕ) → n ≡ 0 → (if n == 0 then None else Some n) ≡ Some b → ⊥
no_base n b none e = let bad : None ≡ Some b = subst (λ (k : ℕ). (if k == 0 then None else Some k) ≡ Some b) none e in cc

-- by the rules of versions 1 and 2 main's is the address behind the region, and no other procedure says one
usual_is : (region : Region) (is_main : Bool) (ps : List ProcedureParts) (i b base : ℕ) → IsChain (HasProcedureParts Simple region) is_after is_main ps
    → (is_main ≡ true → i ≡ 0 → base ≡ region.last + 1) → (if base_in (slice_get ps i) == 0 then None else Some (base_in (slice_get ps i))) ≡ Some b → b ≡ base
usual_is region is_main [] i b base h main e = absurd (no_base 0 b refl e)
usual_is region true (p ∷ ps) zero b base h main e =
    let is : p.base ≡ region.last + 1 = eqb-true _ _ h.0.base in
    let at : p.base ≡ b = some_base p.base b e in
    let top : base ≡ region.last + 1 = main refl refl in
    omega arith
usual_is region false (p ∷ ps) zero b base h main e = absurd (no_base p.base b (eqb-true _ _ h.0.base) e)
usual_is region is_main (p ∷ ps) (suc i) b base h main e = usual_is region false ps i b base h.1 (λ f z. absurd (let bad : false ≡ true = f in cc)) e

pub based_setting : (cert : Certificate) (i base : ℕ) → IsCertificate cert → rules_of cert.version ≡ Simple → (i ≡ 0 → base ≡ cert.region.last + 1) → IsBase (setting_of cert i) base
unfolding setting_of known_base
based_setting cert i base certificate simple main b e =
    usual_is cert.region true cert.procedures i b base
    (subst (λ r. IsChain (HasProcedureParts r cert.region) is_after true cert.procedures) simple (procedures_have cert certificate)) (λ t. main) e

-- by either rules main's is the address behind the region
said_of_main : (rules : Rules) (region : Region) (p : ProcedureParts) → is_base_of rules true region p.base ≡ true → p.base ≡ region.last + 1
said_of_main Simple region p h = eqb-true _ _ h
said_of_main Extended region p h = eqb-true _ _ h

main_said : (rules : Rules) (region : Region) (ps : List ProcedureParts) (b : ℕ) → IsChain (HasProcedureParts rules region) is_after true ps
    → (if base_in (slice_get ps 0) == 0 then None else Some (base_in (slice_get ps 0))) ≡ Some b → b ≡ region.last + 1
main_said rules region [] b h e = absurd (no_base 0 b refl e)
main_said rules region (p ∷ ps) b h e = sym (some_base p.base b e) ∙ said_of_main rules region p h.0.base

pub main_based : (cert : Certificate) → IsCertificate cert → IsBase (setting_of cert 0) (cert.region.last + 1)
unfolding setting_of known_base
main_based cert certificate b e = main_said (rules_of cert.version) cert.region cert.procedures b (procedures_have cert certificate) e

-- ---- its return word

-- main has none
pub HasReturnWord-main : (rules : Rules) (region : Region) (procedure base : ℕ) → procedure ≡ 0 → HasReturnWord rules region procedure base
HasReturnWord-main Simple region procedure base is = λ some. absurd (omega arith)
HasReturnWord-main Extended region procedure base is = tt

-- by the rules of versions 1 and 2 it stands at the base
pub return_word_of : (rules : Rules) (region : Region) (procedure base : ℕ) → rules ≡ Simple → HasReturnWord rules region procedure base → 0 < procedure → base + 2 ≤ region.last + 1
return_word_of rules region procedure base simple h = subst (λ r. HasReturnWord r region procedure base) simple h

pub HasReturnWord-simply : (rules : Rules) (region : Region) (procedure base : ℕ) → rules ≡ Simple → (0 < procedure → base + 2 ≤ region.last + 1) → HasReturnWord rules region procedure base
HasReturnWord-simply rules region procedure base simple h = subst (λ r. HasReturnWord r region procedure base) (sym simple) h

-- by those of version 3 nothing is asked
pub HasReturnWord-widely : (rules : Rules) (region : Region) (procedure base : ℕ) → rules ≡ Extended → HasReturnWord rules region procedure base
HasReturnWord-widely rules region procedure base extended = subst (λ r. HasReturnWord r region procedure base) (sym extended) tt

-- ---- its ranges

-- ranges lie outside the stack region
abbrev pub AreApart : Region → List Range → Type 0
AreApart region ranges = AllByRecursion (λ r. meets region r.first r.last ≡ false) ranges

chain_apart : (region : Region) (least : ℕ) (ranges : List Range) → IsChain (IsRange region) after_range least ranges → AreApart region ranges
chain_apart region least [] h = tt
chain_apart region least (r ∷ ranges) h = (h.0.apart, chain_apart region (after_range r) ranges h.1)

-- a certificate's ranges do
pub ranges_apart : (cert : Certificate) (i : ℕ) → IsCertificate cert → AreApart cert.region (ranges_of cert i)
unfolding ranges_of
ranges_apart cert i certificate = by (slice_get cert.procedures i) refl
  where
    by : (o : Option ProcedureParts) → slice_get cert.procedures i ≡ o → AreApart cert.region (ranges_in o)
    by None e = tt
    by (Some p) e = chain_apart cert.region 0 p.ranges (procedure_at cert i p certificate e).parts.ranges

-- an address of the region is in none of them
pub apart_outside : (region : Region) (ranges : List Range) (b : ℕ) → AreApart region ranges → region.first ≤ b → b ≤ region.last → list_any (is_range (one b)) ranges ≡ false
apart_outside region [] b h low high = refl
apart_outside region (r ∷ ranges) b h low high = rw (not_in r h.0, apart_outside region ranges b h.1 low high) refl
  where
    not_in : (r : Range) → meets region r.first r.last ≡ false → is_range (one b) r ≡ false
    not_in r h = grind (arith, nat_tests)

-- ---- its exit

-- it is a state such as a procedure returns with
pub exit_state : (cert : Certificate) (i : ℕ) (exit : AbsState) → IsCertificate cert → exit_of cert i ≡ Some exit → HasStateParts (rules_of cert.version) role.Exit cert.region exit
unfolding exit_of
exit_state cert i exit certificate is = by (slice_get cert.procedures i) refl is
  where
    by : (o : Option ProcedureParts) → slice_get cert.procedures i ≡ o → exit_in o ≡ Some exit → HasStateParts (rules_of cert.version) role.Exit cert.region exit
    by None e is = cc
    by (Some p) e is = subst (λ o. IfSome o (HasStateParts (rules_of cert.version) role.Exit cert.region)) is (procedure_at cert i p certificate e).parts.exit

-- a procedure returns with its stack set
pub exit_set : (rules : Rules) (region : Region) (exit : AbsState) → HasStateParts rules role.Exit region exit → exit.core.stack_set ≡ true
exit_set rules region exit k = by exit.core.stack_set k.stack
  where
    by : (b : Bool) → (b || false) ≡ true → b ≡ true
    by true h = refl
    by false h = h

-- and not put aside
pub exit_located : (rules : Rules) (region : Region) (exit : AbsState) → HasStateParts rules role.Exit region exit → is_located exit ≡ true
exit_located rules region exit k = is_located-of exit.summary.aside exit.core.stack_set (k.left refl) (exit_set rules region exit k)

-- and with nothing pushed
pub exit_items : (region : Region) (exit : AbsState) → HasStateParts Simple role.Exit region exit → exit.items ≡ []
exit_items region exit k = none exit.items (eqb-true _ _ k.pushed)
  where
    none : (items : List Val) → length items ≡ 0 → items ≡ []
    none [] h = refl
    none (i ∷ items) h = cc
