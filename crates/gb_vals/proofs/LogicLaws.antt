-- Bitwise operations stand for those of the machine.
use Rattle.std.proofs.Common.{◌≡◌, ℕ, ◌+◌, ◌*◌, ◌<◌, ◌≤◌, Bool, true, false, ◌&&◌, cond, bit_and, bit_or, refl, sym, subst, arith}
use Rattle.std.proofs.lemmas.Bool.{and_parts}
use Rattle.std.specs.Prelude.{bit_xor}
use Rattle.std.proofs.lemmas.Bool.Decides.{nat_tests}
use Rattle.std.proofs.lemmas.Nat.{and_le_l, and_le_r, le_or_l, le_or_r, or_lt}
use Rattle.std.specs.Int.Bits.{or_add_and, xor_add_and}
use Rattle.gb_ops.specs.declared.registers.Flags.{Flags}
use Rattle.gb_ops.specs.Arithmetic as machine
use Rattle.gb_domain.specs.declared.types.Val.{Val}
use Rattle.gb_domain.specs.declared.types.Flg.{Flg}
use Rattle.gb_domain.specs.Rules.{IsVal, IsFlg}
use Rattle.gb_vals.specs.declared.outcome.AbsComputed.{AbsComputed}
use Rattle.gb_vals.specs.Vals.{between, any_val, is_single}
use Rattle.gb_vals.specs.Outcomes.{exact}
use Rattle.gb_vals.specs.Meaning.{In, FlagsIn, Gives, IsSound, IsOutcome}
use Rattle.gb_vals.specs.Logic.{smaller, larger, logical, conjunction, disjunction, exclusion, of_itself, complement_result, complement}
use Rattle.gb_vals.proofs.MeaningLaws.{known-may_be, single-is, zero_by-may_be, In-any, Gives-exact, IsOutcome-sound}
use Rattle.gb_domain.specs.Values.{is_strided}
use Rattle.gb_vals.proofs.StrideLaws.{complement-strided}

-- ---- bounds of bits

or-byte : (x y : ℕ) → x < 256 → y < 256 → bit_or x y < 256
or-byte x y p q = or_lt 8 x y p q

xor-byte : (x y : ℕ) → x < 256 → y < 256 → bit_xor x y < 256
xor-byte x y p q =
    let or : bit_or x y < 256 = or-byte x y p q in
    let sum : bit_or x y + bit_and x y ≡ x + y = or_add_and x y in
    let twice : bit_xor x y + bit_and x y * 2 ≡ x + y = xor_add_and x y in
    omega arith

smaller-holds : (x y p q : ℕ) → p ≤ x → p ≤ y → p ≤ smaller x y
smaller-holds x y p q low high = grind (arith, nat_tests)

and-holds : (x y p q : ℕ) → p ≤ x → q ≤ y → bit_and p q ≤ smaller x y
and-holds x y p q low high =
    let left : bit_and p q ≤ p = and_le_l p q in
    let right : bit_and p q ≤ q = and_le_r p q in
    smaller-holds x y (bit_and p q) 0 (omega arith) (omega arith)

larger-holds : (x y p : ℕ) → x ≤ p → y ≤ p → larger x y ≤ p
larger-holds x y p low high = grind (arith, nat_tests)

or-holds : (x y p q : ℕ) → x ≤ p → y ≤ q → larger x y ≤ bit_or p q
or-holds x y p q low high =
    let left : p ≤ bit_or p q = le_or_l p q in
    let right : q ≤ bit_or p q = le_or_r p q in
    larger-holds x y (bit_or p q) (omega arith) (omega arith)

-- ---- AND, OR and XOR

Gives-logical : (v : Val) (x : ℕ) (half : Bool) → In v x → Gives (logical v half) (machine.logical x half)
unfolding machine.logical
Gives-logical v x half m =
    record {
      value = m;
      flags = record { zero = zero_by-may_be v x m; subtract = refl; half_carry = known-may_be half; carry = refl };
    }

pub Gives-conjunction : (a v : Val) (x y : ℕ) → In a x → In v y → Gives (conjunction a v) (machine.logical (bit_and x y) true)
unfolding conjunction
Gives-conjunction a v x y m n = choose (is_single a && is_single v) refl
  where
    choose :
        (b : Bool) → (is_single a && is_single v) ≡ b
        → Gives (cond b (exact (machine.logical (bit_and a.lo v.lo) true)) (logical (between 0 (smaller a.hi v.hi)) true)) (machine.logical (bit_and x y) true)
    choose true e =
        let singles = and_parts _ _ e in
        let p : x ≡ a.lo = single-is a x singles.0 m in
        let q : y ≡ v.lo = single-is v y singles.1 n in
        let same : machine.logical (bit_and x y) true ≡ machine.logical (bit_and a.lo v.lo) true = cc in
        Gives-exact (machine.logical (bit_and a.lo v.lo) true) (machine.logical (bit_and x y) true) same
    choose false e =
        Gives-logical (between 0 (smaller a.hi v.hi)) (bit_and x y) true
        (record { least = omega arith; most = and-holds a.hi v.hi x y m.most n.most; low = refl })

pub Gives-disjunction :
    (a v : Val) (x y : ℕ) → a.hi < 256 → v.hi < 256 → In a x → In v y → Gives (disjunction a v) (machine.logical (bit_or x y) false)
unfolding disjunction
Gives-disjunction a v x y p q m n = choose (is_single a && is_single v) refl
  where
    choose :
        (b : Bool) → (is_single a && is_single v) ≡ b
        → Gives (cond b (exact (machine.logical (bit_or a.lo v.lo) false)) (logical (between (larger a.lo v.lo) 255) false)) (machine.logical (bit_or x y) false)
    choose true e =
        let singles = and_parts _ _ e in
        let p : x ≡ a.lo = single-is a x singles.0 m in
        let q : y ≡ v.lo = single-is v y singles.1 n in
        let same : machine.logical (bit_or x y) false ≡ machine.logical (bit_or a.lo v.lo) false = cc in
        Gives-exact (machine.logical (bit_or a.lo v.lo) false) (machine.logical (bit_or x y) false) same
    choose false e =
        let byte : bit_or x y < 256 = or-byte x y (omega arith) (omega arith) in
        Gives-logical (between (larger a.lo v.lo) 255) (bit_or x y) false
        (record { least = or-holds a.lo v.lo x y m.least n.least; most = omega arith; low = refl })

pub Gives-exclusion :
    (a v : Val) (x y : ℕ) → a.hi < 256 → v.hi < 256 → In a x → In v y → Gives (exclusion a v) (machine.logical (bit_xor x y) false)
unfolding exclusion
Gives-exclusion a v x y p q m n = choose (is_single a && is_single v) refl
  where
    choose :
        (b : Bool) → (is_single a && is_single v) ≡ b
        → Gives (cond b (exact (machine.logical (bit_xor a.lo v.lo) false)) (logical any_val false)) (machine.logical (bit_xor x y) false)
    choose true e =
        let singles = and_parts _ _ e in
        let p : x ≡ a.lo = single-is a x singles.0 m in
        let q : y ≡ v.lo = single-is v y singles.1 n in
        let same : machine.logical (bit_xor x y) false ≡ machine.logical (bit_xor a.lo v.lo) false = cc in
        Gives-exact (machine.logical (bit_xor a.lo v.lo) false) (machine.logical (bit_xor x y) false) same
    choose false e = Gives-logical any_val (bit_xor x y) false (In-any (bit_xor x y) (xor-byte x y (omega arith) (omega arith)))

pub Gives-of_itself : (a : Val) (x : ℕ) (half : Bool) → In a x → Gives (of_itself a half) (machine.logical x half)
unfolding of_itself
Gives-of_itself a x half m = choose (is_single a) refl
  where
    choose : (b : Bool) → is_single a ≡ b → Gives (cond b (exact (machine.logical a.lo half)) (logical a half)) (machine.logical x half)
    choose true e =
        let p : x ≡ a.lo = single-is a x e m in
        let same : machine.logical x half ≡ machine.logical a.lo half = cc in
        Gives-exact (machine.logical a.lo half) (machine.logical x half) same
    choose false e = Gives-logical a x half m

-- ---- CPL

Gives-complement : (a : Val) (f : Flg) (x : ℕ) (g : Flags) → In a x → FlagsIn f g → Gives (complement a f) (complement_result x g)
unfolding complement
Gives-complement a f x g m h =
    record {
      value = record { least = omega arith; most = omega arith; low = refl };
      flags = record { zero = h.zero; subtract = refl; half_carry = refl; carry = h.carry };
    }

pub complement_sound : (a : Val) (f : Flg) (o : AbsComputed) → o ≡ complement a f → IsSound complement_result a f o
complement_sound a f o e = subst (λ r. IsSound complement_result a f r) (sym e) (record { gives = Gives-complement a f })

complement-byte : (a : Val) (f : Flg) → (complement a f).val.hi < 256
unfolding complement
complement-byte a f = omega arith

pub complement_inhabited : (a : Val) (f : Flg) (o : AbsComputed) → o ≡ complement a f → IsVal a → IsFlg f → IsOutcome o
complement_inhabited a f o e val flags =
    IsOutcome-sound complement_result a f o (complement_sound a f o e) val flags (subst (λ r. r.val.hi < 256) (sym e) (complement-byte a f))
    (subst (λ r. is_strided r.val ≡ true) (sym e) (complement-strided a f))

-- ---- results are bytes

smaller-below : (x y : ℕ) → smaller x y ≤ x
smaller-below x y = grind (arith, nat_tests)

pub conjunction-byte : (a v : Val) → a.lo < 256 → a.hi < 256 → (conjunction a v).val.hi < 256
unfolding conjunction machine.logical
conjunction-byte a v p q = choose (is_single a && is_single v)
  where
    choose : (b : Bool) → (cond b (exact (machine.logical (bit_and a.lo v.lo) true)) (logical (between 0 (smaller a.hi v.hi)) true)).val.hi < 256
    choose true = let left : bit_and a.lo v.lo ≤ a.lo = and_le_l a.lo v.lo in omega arith
    choose false = let left : smaller a.hi v.hi ≤ a.hi = smaller-below a.hi v.hi in omega arith

pub disjunction-byte : (a v : Val) → a.lo < 256 → v.lo < 256 → (disjunction a v).val.hi < 256
unfolding disjunction machine.logical
disjunction-byte a v p q = choose (is_single a && is_single v)
  where
    choose : (b : Bool) → (cond b (exact (machine.logical (bit_or a.lo v.lo) false)) (logical (between (larger a.lo v.lo) 255) false)).val.hi < 256
    choose true = or-byte a.lo v.lo p q
    choose false = omega arith

pub exclusion-byte : (a v : Val) → a.lo < 256 → v.lo < 256 → (exclusion a v).val.hi < 256
unfolding exclusion machine.logical
exclusion-byte a v p q = choose (is_single a && is_single v)
  where
    choose : (b : Bool) → (cond b (exact (machine.logical (bit_xor a.lo v.lo) false)) (logical any_val false)).val.hi < 256
    choose true = xor-byte a.lo v.lo p q
    choose false = omega arith

pub of_itself-byte : (a : Val) (half : Bool) → a.lo < 256 → a.hi < 256 → (of_itself a half).val.hi < 256
unfolding of_itself machine.logical
of_itself-byte a half p q = choose (is_single a)
  where
    choose : (b : Bool) → (cond b (exact (machine.logical a.lo half)) (logical a half)).val.hi < 256
    choose true = p
    choose false = q
