-- Which procedure is called, and how it is found.
use Rattle.std.proofs.Common.{◌≡◌, ℕ, zero, suc, ◌+◌, ◌-◌, ◌≤◌, ◌<◌, Bool, true, false, ◌&&◌, ◌||◌, ◌==◌, nat_le, cond, List, [], ◌∷◌, length, drop, slice_get, Option, Some, None, refl, sym, ◌∙◌, ap, subst, arith}
use Rattle.std.proofs.lemmas.Bool.{and_parts, eqb-true, leb-true}
use Rattle.std.proofs.lemmas.Option.{same_Some}
use Rattle.gb_domain.specs.declared.rules.Rules.{Rules}
use Rattle.gb_domain.specs.declared.rules.Rules.TheVariants.{Extended}
use Rattle.gb_domain.specs.declared.setting.Setting.{Setting}
use Rattle.gb_domain.specs.declared.types.Val.{Val}
use Rattle.gb_domain.specs.Settings.{known_base, IsBase}
use Rattle.gb_domain.specs.Summaries.{Program}
use Rattle.gb_domain.specs.Types.{AbsState, ProcedureParts, Node}
use Rattle.gb_domain.specs.Certificate.{Certificate}
use Rattle.gb_product.specs.Covering.{covers}
use Rattle.gb_calls.specs.Calls.{entered_by, fits_by, is_base_below, fits, may_begin, is_entry_node, is_entry, or_later, entry_from, entry_behind_main, callee_of}
use Rattle.gb_calls.specs.TakenOver.{base_below}

-- ---- a base that is said

said_base : (q : Setting) (b : ℕ) → known_base q ≡ Some b → ((q.base == 0) ≡ false) × (q.base ≡ b)
unfolding known_base
said_base q b h = choose (q.base == 0) refl h
  where
    choose : (c : Bool) → (q.base == 0) ≡ c → cond c None (Some q.base) ≡ Some b → ((q.base == 0) ≡ false) × (q.base ≡ b)
    choose true e is = absurd (cc)
    choose false e is = (e, same_Some q.base b is)

-- ---- what is found

-- one of these procedures begins so, the first of which has the number i
record IsFrom (program : Program) (cert : Certificate) (z : Setting) (a : ℕ) (s : AbsState) (i : ℕ) (ps : List ProcedureParts) (q : ℕ) : Type 0 where
  behind : ℕ
  number : q ≡ i + behind
  procedure : ProcedureParts
  is_procedure : slice_get ps behind ≡ Some procedure
  begins : is_entry program cert z a s procedure ≡ true

IsFrom-found :
    (program : Program) (cert : Certificate) (z : Setting) (a : ℕ) (s : AbsState) (i : ℕ) (ps : List ProcedureParts) (q : ℕ) → entry_from program cert z a s i ps ≡ Some q → IsFrom program cert z a s i ps q
IsFrom-found program cert z a s i [] q h = absurd (cc)
IsFrom-found program cert z a s i (p ∷ ps) q h = choose (is_entry program cert z a s p) refl h (IsFrom-found program cert z a s (i + 1) ps q)
  where
    later : IsFrom program cert z a s (i + 1) ps q → IsFrom program cert z a s i (p ∷ ps) q
    later f =
        record {
          behind = suc f.behind;
          number = let e = f.number in omega arith;
          procedure = f.procedure;
          is_procedure = f.is_procedure;
          begins = f.begins;
        }

    choose :
        (b : Bool) → is_entry program cert z a s p ≡ b → or_later b i (entry_from program cert z a s (i + 1) ps) ≡ Some q
        → (entry_from program cert z a s (i + 1) ps ≡ Some q → IsFrom program cert z a s (i + 1) ps q) → IsFrom program cert z a s i (p ∷ ps) q
    choose true e is rest =
        record {
          behind = 0;
          number = let same : i ≡ q = cc in omega arith;
          procedure = p;
          is_procedure = refl;
          begins = e;
        }
    choose false e is rest = later (rest is)

-- what is known of a callee: it isn't main, and its entry node has the address and stands for what it begins with
pub record IsCallee (program : Program) (cert : Certificate) (z : Setting) (a : ℕ) (s : AbsState) (q : ℕ) : Type 0 where
  pub not_main : 0 < q
  pub procedure : ProcedureParts
  pub is_procedure : slice_get cert.procedures q ≡ Some procedure
  pub begins : is_entry program cert z a s procedure ≡ true

-- the callee that is found is one
pub IsCallee-found : (program : Program) (cert : Certificate) (z : Setting) (a : ℕ) (s : AbsState) (q : ℕ) → callee_of program cert z a s ≡ Some q → IsCallee program cert z a s q
unfolding callee_of
IsCallee-found program cert z a s q h =
    let f = behind cert.procedures h in
    record { not_main = f.0; procedure = f.1; is_procedure = f.2; begins = f.3 }
  where
    behind :
        (ps : List ProcedureParts) → entry_behind_main program cert z a s ps ≡ Some q
        → (0 < q) × (p : ProcedureParts) × (slice_get ps q ≡ Some p) × (is_entry program cert z a s p ≡ true)
    behind [] e = absurd (cc)
    behind (main ∷ ps) e =
        let f = IsFrom-found program cert z a s 1 ps q e in
        let at : q ≡ suc f.behind = (let n = f.number in omega arith) in
        (omega arith, f.procedure, subst (λ n. slice_get (main ∷ ps) n ≡ Some f.procedure) (sym at) f.is_procedure, f.begins)

-- the node at which a procedure begins
pub record IsEntryNode (program : Program) (cert : Certificate) (z : Setting) (a : ℕ) (s : AbsState) (p : ProcedureParts) : Type 0 where
  pub node : Node
  pub is_node : slice_get cert.nodes p.entry ≡ Some node
  pub address : node.address ≡ a
  pub fitting : fits z p.base (length node.state.items) (length s.items) ≡ true
  pub covering : covers program (entered_by program cert.region z.rules (length node.state.items) p.kept s) node.state ≡ true

pub IsEntryNode-entry : (program : Program) (cert : Certificate) (z : Setting) (a : ℕ) (s : AbsState) (p : ProcedureParts) → is_entry program cert z a s p ≡ true → IsEntryNode program cert z a s p
unfolding is_entry may_begin
IsEntryNode-entry program cert z a s p h = choose (slice_get cert.nodes p.entry) refl h
  where
    choose : (o : Option Node) → slice_get cert.nodes p.entry ≡ o → is_entry_node program cert.region z a s p.base p.kept o ≡ true → IsEntryNode program cert z a s p
    choose None e is = absurd (cc)
    choose (Some n) e is =
        let k = length n.state.items in
        let parts = and_parts (n.address == a) (fits z p.base k (length s.items) && covers program (entered_by program cert.region z.rules k p.kept s) n.state) is in
        let begins = and_parts (fits z p.base k (length s.items)) (covers program (entered_by program cert.region z.rules k p.kept s) n.state) parts.1 in
        record { node = n; is_node = e; address = eqb-true n.address a parts.0; fitting = begins.0; covering = begins.1 }

-- ---- what a callee takes over

second : (a c : Bool) → a ≡ false → (a || c) ≡ true → c ≡ true
second true c none h = absurd (cc)
second false c none h = h

-- by the rules of version 3 the caller has the items
pub fits-few : (z : Setting) (base k n : ℕ) → z.rules ≡ Extended → fits z base k n ≡ true → k ≤ n
unfolding fits
fits-few z base k n e h = let by = subst (λ (r : Rules). fits_by r (known_base z) base k n ≡ true) e h in leb-true k n (and_parts (nat_le k n) (is_base_below (known_base z) base (n - k)) by).0

-- and the callee's base is right, as its certificate says it
pub fits-base :
    (z q : Setting) (k : ℕ) (items : List Val) (base : ℕ)
    → z.rules ≡ Extended → fits z q.base k (length items) ≡ true → IsBase z base → IsBase q (base_below k items base)
unfolding fits
fits-base z q k items base e h is b known =
    let by = subst (λ (r : Rules). fits_by r (known_base z) q.base k (length items) ≡ true) e h in
    let below = (and_parts (nat_le k (length items)) (is_base_below (known_base z) q.base (length items - k)) by).1 in
    let said = said_base q b known in
    choose (known_base z) refl below said.0 said.1
  where
    choose :
        (o : Option ℕ) → known_base z ≡ o → is_base_below o q.base (length items - k) ≡ true → (q.base == 0) ≡ false → q.base ≡ b
        → b ≡ base_below k items base
    choose None e below some same = absurd (cc)
    choose (Some caller) e below some same =
        let right : caller ≡ base = is caller e in
        let sum : q.base + (length items - k) ≡ caller = eqb-true _ _ (second (q.base == 0) (q.base + (length items - k) == caller) some below) in
        omega arith

-- ---- one after the other

next : {X : Type 0} (xs : List X) (i : ℕ) (x : X) → slice_get xs i ≡ Some x → drop i xs ≡ x ∷ drop (i + 1) xs
next [] i x h = cc
next (y ∷ ys) zero x h = let e : y ≡ x = cc in ap (λ z. z ∷ ys) e
next (y ∷ ys) (suc i) x h = let e : suc i + 1 ≡ suc (i + 1) = omega arith in rw e (next ys i x h)

-- one procedure more
callee-next :
    (program : Program) (cert : Certificate) (z : Setting) (a : ℕ) (s : AbsState) (i : ℕ) (p : ProcedureParts) → slice_get cert.procedures i ≡ Some p
    → entry_from program cert z a s i (drop i cert.procedures) ≡ or_later (is_entry program cert z a s p) i (entry_from program cert z a s (i + 1) (drop (i + 1) cert.procedures))
callee-next program cert z a s i p at = rw (next cert.procedures i p at) refl

-- which begins so, and is the callee
pub callee-taken :
    (program : Program) (cert : Certificate) (z : Setting) (a : ℕ) (s : AbsState) (i : ℕ) (p : ProcedureParts) → slice_get cert.procedures i ≡ Some p → is_entry program cert z a s p ≡ true
    → entry_from program cert z a s i (drop i cert.procedures) ≡ Some i
callee-taken program cert z a s i p at e =
    callee-next program cert z a s i p at ∙ ap (λ b. or_later b i (entry_from program cert z a s (i + 1) (drop (i + 1) cert.procedures))) e

-- or doesn't
pub callee-passed :
    (program : Program) (cert : Certificate) (z : Setting) (a : ℕ) (s : AbsState) (i : ℕ) (p : ProcedureParts) → slice_get cert.procedures i ≡ Some p → is_entry program cert z a s p ≡ false
    → entry_from program cert z a s i (drop i cert.procedures) ≡ entry_from program cert z a s (i + 1) (drop (i + 1) cert.procedures)
callee-passed program cert z a s i p at e =
    callee-next program cert z a s i p at ∙ ap (λ b. or_later b i (entry_from program cert z a s (i + 1) (drop (i + 1) cert.procedures))) e
