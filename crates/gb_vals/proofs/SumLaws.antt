-- Sums and differences stand for those of the machine.
use Rattle.std.proofs.Common.{◌≡◌, ℕ, ◌+◌, ◌-◌, ◌/◌, ◌%◌, ◌<◌, ◌≤◌, Bool, true, false, ◌&&◌, ◌==◌, cond, nat_lt, nat_le, refl, sym, subst, arith}
use Rattle.std.proofs.lemmas.Bool.{and_parts}
use Rattle.std.proofs.lemmas.Bool.Decides.{nat_tests}
use Rattle.gb_ops.specs.declared.registers.Flags.{Flags}
use Rattle.gb_domain.specs.declared.types.Val.{Val}
use Rattle.gb_domain.specs.declared.types.May.{May}
use Rattle.gb_domain.specs.declared.types.Flg.{Flg}
use Rattle.gb_ops.specs.Flags.{bit_of}
use Rattle.gb_ops.specs.Arithmetic.{added, subtracted, incremented, decremented}
use Rattle.gb_vals.specs.declared.outcome.AbsComputed.{AbsComputed}
use Rattle.gb_vals.specs.Vals.{between, any_val, is_single}
use Rattle.gb_vals.specs.Flags.{is_known, greatest_flags}
use Rattle.gb_vals.specs.Outcomes.{exact}
use Rattle.gb_vals.specs.Meaning.{In, FlagsIn, may_be, Gives, IsSound, IsOutcome}
use Rattle.gb_domain.specs.Rules.{IsVal, IsFlg}
use Rattle.gb_vals.specs.Sums.{cut, zero_of, sum_of, difference_of, least_bit, greatest_bit, are_known, sum, difference, counted, keeping_carry, next_val, previous_val, increment, decrement}
use Rattle.gb_vals.proofs.MeaningLaws.{In-any, bit-least, bit-greatest, IsOutcome-sound, known-may_be, either-may_be, may_be-by, known-is, single-is, In-single, zero_by-may_be, Gives-exact}
use Rattle.gb_domain.specs.Values.{is_strided}
use Rattle.gb_vals.proofs.StrideLaws.{increment-strided, decrement-strided}

-- ---- whole numbers from least to most

In-cut : (least most x : ℕ) → least ≤ x → x ≤ most → In (cut least most) (x % 256)
In-cut least most x low high = choose (least / 256 == most / 256) refl
  where
    choose : (b : Bool) → (least / 256 == most / 256) ≡ b → In (cond b (between (least % 256) (most % 256)) any_val) (x % 256)
    choose true e =
        let same : least / 256 ≡ most / 256 = grind (arith, nat_tests) in
        record { least = omega arith; most = omega arith; low = refl }
    choose false e = In-any (x % 256) (omega arith)

zero_of-may_be : (least most x : ℕ) → least ≤ x → x ≤ most → may_be (zero_of least most) (x % 256 == 0) ≡ true
zero_of-may_be least most x low high =
    may_be-by (zero_of least most) (x % 256 == 0) (λ e. grind (arith, nat_tests)) (λ e. grind (arith, nat_tests))

Gives-sum_of : (least most a v c : ℕ) → least ≤ a + v + c → a + v + c ≤ most → Gives (sum_of least most) (added a v c)
unfolding sum_of added
Gives-sum_of least most a v c low high =
    record {
      value = In-cut least most (a + v + c) low high;
      flags = record {
        zero = zero_of-may_be least most (a + v + c) low high;
        subtract = refl;
        half_carry = either-may_be _;
        carry = may_be-by (record { clear = nat_le least 255; set = nat_lt 255 most }) (nat_lt 255 (a + v + c)) (λ e. grind (arith, nat_tests)) (λ e. grind (arith, nat_tests));
      };
    }

Gives-difference_of : (least most a v b : ℕ) → least ≤ a + 256 - (v + b) → a + 256 - (v + b) ≤ most → Gives (difference_of least most) (subtracted a v b)
unfolding difference_of subtracted
Gives-difference_of least most a v b low high =
    record {
      value = In-cut least most (a + 256 - (v + b)) low high;
      flags = record {
        zero = zero_of-may_be least most (a + 256 - (v + b)) low high;
        subtract = refl;
        half_carry = either-may_be _;
        carry = may_be-by (record { clear = nat_lt 255 most; set = nat_le least 255 }) (nat_lt a (v + b)) (λ e. grind (arith, nat_tests)) (λ e. grind (arith, nat_tests));
      };
    }

-- ---- ADD, ADC, SUB, SBC

pub Gives-sum :
    (a v : Val) (carry : May) (x y : ℕ) (c : Bool)
    → In a x → In v y → may_be carry c ≡ true → Gives (sum a v carry) (added x y (bit_of c 1))
unfolding sum are_known
Gives-sum a v carry x y c in_a in_v may = choose (is_single a && is_single v && is_known carry) refl
  where
    choose :
        (b : Bool) → (is_single a && is_single v && is_known carry) ≡ b
        → Gives (cond b (exact (added a.lo v.lo (greatest_bit carry))) (sum_of (a.lo + v.lo + least_bit carry) (a.hi + v.hi + greatest_bit carry))) (added x y (bit_of c 1))
    choose true e =
        let both = and_parts _ _ e in
        let singles = and_parts _ _ both.0 in
        let p : x ≡ a.lo = single-is a x singles.0 in_a in
        let q : y ≡ v.lo = single-is v y singles.1 in_v in
        let r : c ≡ carry.set = known-is carry c both.1 may in
        let same : added x y (bit_of c 1) ≡ added a.lo v.lo (greatest_bit carry) = cc in
        Gives-exact (added a.lo v.lo (greatest_bit carry)) (added x y (bit_of c 1)) same
    choose false e =
        let low : least_bit carry ≤ bit_of c 1 = bit-least carry c 1 may in
        let high : bit_of c 1 ≤ greatest_bit carry = bit-greatest carry c 1 may in
        Gives-sum_of _ _ x y (bit_of c 1) (omega arith) (omega arith)

pub Gives-difference :
    (a v : Val) (borrow : May) (x y : ℕ) (c : Bool)
    → In a x → In v y → may_be borrow c ≡ true → Gives (difference a v borrow) (subtracted x y (bit_of c 1))
unfolding difference are_known
Gives-difference a v borrow x y c in_a in_v may = choose (is_single a && is_single v && is_known borrow) refl
  where
    choose :
        (b : Bool) → (is_single a && is_single v && is_known borrow) ≡ b
        → Gives (cond b (exact (subtracted a.lo v.lo (greatest_bit borrow))) (difference_of (a.lo + 256 - (v.hi + greatest_bit borrow)) (a.hi + 256 - (v.lo + least_bit borrow)))) (subtracted x y (bit_of c 1))
    choose true e =
        let both = and_parts _ _ e in
        let singles = and_parts _ _ both.0 in
        let p : x ≡ a.lo = single-is a x singles.0 in_a in
        let q : y ≡ v.lo = single-is v y singles.1 in_v in
        let r : c ≡ borrow.set = known-is borrow c both.1 may in
        let same : subtracted x y (bit_of c 1) ≡ subtracted a.lo v.lo (greatest_bit borrow) = cc in
        Gives-exact (subtracted a.lo v.lo (greatest_bit borrow)) (subtracted x y (bit_of c 1)) same
    choose false e =
        let low : least_bit borrow ≤ bit_of c 1 = bit-least borrow c 1 may in
        let high : bit_of c 1 ≤ greatest_bit borrow = bit-greatest borrow c 1 may in
        Gives-difference_of _ _ x y (bit_of c 1) (omega arith) (omega arith)

-- ---- INC and DEC

In-next : (v : Val) (x : ℕ) → In v x → In (next_val v) ((x + 1) % 256)
In-next v x m = choose (nat_lt v.hi 255) refl
  where
    choose : (b : Bool) → nat_lt v.hi 255 ≡ b → In (cond b (between ((v.lo + 1) % 256) (v.hi + 1)) any_val) ((x + 1) % 256)
    choose true e =
        let small : v.hi < 255 = grind (arith, nat_tests) in
        record { least = omega arith; most = omega arith; low = refl }
    choose false e = In-any _ (omega arith)

In-previous : (v : Val) (x : ℕ) → x < 256 → In v x → In (previous_val v) ((x + 255) % 256)
In-previous v x byte m = choose (nat_lt 0 v.lo) refl
  where
    choose : (b : Bool) → nat_lt 0 v.lo ≡ b → In (cond b (between (v.lo - 1) (v.hi - 1)) any_val) ((x + 255) % 256)
    choose true e =
        let large : 0 < v.lo = grind (arith, nat_tests) in
        record { least = omega arith; most = omega arith; low = refl }
    choose false e = In-any _ (omega arith)

-- the outcome of a known operand, C as it was
kept : (n : ℕ) (zero subtract half : Bool) (carry : May) (c lost : Bool) → may_be carry c ≡ true
    → Gives (keeping_carry carry (exact (record { value = n; flags = record { zero = zero; subtract = subtract; half_carry = half; carry = lost } }))) (record { value = n; flags = record { zero = zero; subtract = subtract; half_carry = half; carry = c } })
kept n zero subtract half carry c lost h =
    record {
      value = In-single n;
      flags = record { zero = known-may_be zero; subtract = known-may_be subtract; half_carry = known-may_be half; carry = h };
    }

-- the outcome of an operand that isn't known
unsure : (v : Val) (n : ℕ) (subtract half : Bool) (carry : May) (c : Bool) → In v n → may_be carry c ≡ true
    → Gives (counted v subtract carry) (record { value = n; flags = record { zero = n == 0; subtract = subtract; half_carry = half; carry = c } })
unsure v n subtract half carry c m h =
    record {
      value = m;
      flags = record { zero = zero_by-may_be v n m; subtract = known-may_be subtract; half_carry = either-may_be half; carry = h };
    }

Gives-increment : (v : Val) (f : Flg) (x : ℕ) (g : Flags) → In v x → FlagsIn f g → Gives (increment v f) (incremented x g)
unfolding increment incremented
Gives-increment v f x g m h = choose (is_single v) refl
  where
    choose : (b : Bool) → is_single v ≡ b → Gives (cond b (keeping_carry f.carry (exact (incremented v.lo (greatest_flags f)))) (counted (next_val v) false f.carry)) (incremented x g)
    choose true e =
        subst (λ n. Gives (keeping_carry f.carry (exact (incremented n (greatest_flags f)))) (incremented x g)) (single-is v x e m)
        (kept ((x + 1) % 256) ((x + 1) % 256 == 0) false ((x + 1) % 16 == 0) f.carry g.carry f.carry.set h.carry)
    choose false e = unsure (next_val v) ((x + 1) % 256) false ((x + 1) % 16 == 0) f.carry g.carry (In-next v x m) h.carry

Gives-decrement : (v : Val) (f : Flg) (x : ℕ) (g : Flags) → v.hi < 256 → In v x → FlagsIn f g → Gives (decrement v f) (decremented x g)
unfolding decrement decremented
Gives-decrement v f x g byte m h = choose (is_single v) refl
  where
    choose : (b : Bool) → is_single v ≡ b → Gives (cond b (keeping_carry f.carry (exact (decremented v.lo (greatest_flags f)))) (counted (previous_val v) true f.carry)) (decremented x g)
    choose true e =
        subst (λ n. Gives (keeping_carry f.carry (exact (decremented n (greatest_flags f)))) (decremented x g)) (single-is v x e m)
        (kept ((x + 255) % 256) ((x + 255) % 256 == 0) true ((x + 255) % 16 == 15) f.carry g.carry f.carry.set h.carry)
    choose false e = unsure (previous_val v) ((x + 255) % 256) true ((x + 255) % 16 == 15) f.carry g.carry (In-previous v x (omega arith) m) h.carry

pub increment_sound : (v : Val) (f : Flg) (o : AbsComputed) → o ≡ increment v f → IsSound incremented v f o
increment_sound v f o e = subst (λ r. IsSound incremented v f r) (sym e) (record { gives = Gives-increment v f })

pub decrement_sound : (v : Val) (f : Flg) (o : AbsComputed) → o ≡ decrement v f → v.hi < 256 → IsSound decremented v f o
decrement_sound v f o e byte =
    subst (λ r. IsSound decremented v f r) (sym e) (record { gives = λ x g. Gives-decrement v f x g byte })

-- ---- results are bytes

cut-byte : (least most : ℕ) → (cut least most).hi < 256
cut-byte least most = choose (least / 256 == most / 256)
  where
    choose : (b : Bool) → (cond b (between (least % 256) (most % 256)) any_val).hi < 256
    choose true = omega arith
    choose false = omega arith

pub sum-byte : (a v : Val) (carry : May) → (sum a v carry).val.hi < 256
unfolding sum sum_of added
sum-byte a v carry = choose (are_known a v carry)
  where
    choose : (b : Bool) → (cond b (exact (added a.lo v.lo (greatest_bit carry))) (sum_of (a.lo + v.lo + least_bit carry) (a.hi + v.hi + greatest_bit carry))).val.hi < 256
    choose true = omega arith
    choose false = cut-byte (a.lo + v.lo + least_bit carry) (a.hi + v.hi + greatest_bit carry)

pub difference-byte : (a v : Val) (borrow : May) → (difference a v borrow).val.hi < 256
unfolding difference difference_of subtracted
difference-byte a v borrow = choose (are_known a v borrow)
  where
    choose : (b : Bool) → (cond b (exact (subtracted a.lo v.lo (greatest_bit borrow))) (difference_of (a.lo + 256 - (v.hi + greatest_bit borrow)) (a.hi + 256 - (v.lo + least_bit borrow)))).val.hi < 256
    choose true = omega arith
    choose false = cut-byte (a.lo + 256 - (v.hi + greatest_bit borrow)) (a.hi + 256 - (v.lo + least_bit borrow))

next-byte : (v : Val) → (next_val v).hi < 256
next-byte v = choose (nat_lt v.hi 255) refl
  where
    choose : (b : Bool) → nat_lt v.hi 255 ≡ b → (cond b (between ((v.lo + 1) % 256) (v.hi + 1)) any_val).hi < 256
    choose true e = grind (arith, nat_tests)
    choose false e = omega arith

previous-byte : (v : Val) → v.hi < 256 → (previous_val v).hi < 256
previous-byte v byte = choose (nat_lt 0 v.lo)
  where
    choose : (b : Bool) → (cond b (between (v.lo - 1) (v.hi - 1)) any_val).hi < 256
    choose true = omega arith
    choose false = omega arith

increment-byte : (v : Val) (f : Flg) → (increment v f).val.hi < 256
unfolding increment incremented
increment-byte v f = choose (is_single v)
  where
    choose : (b : Bool) → (cond b (keeping_carry f.carry (exact (incremented v.lo (greatest_flags f)))) (counted (next_val v) false f.carry)).val.hi < 256
    choose true = omega arith
    choose false = next-byte v

decrement-byte : (v : Val) (f : Flg) → v.hi < 256 → (decrement v f).val.hi < 256
unfolding decrement decremented
decrement-byte v f byte = choose (is_single v)
  where
    choose : (b : Bool) → (cond b (keeping_carry f.carry (exact (decremented v.lo (greatest_flags f)))) (counted (previous_val v) true f.carry)).val.hi < 256
    choose true = omega arith
    choose false = previous-byte v byte

pub increment_inhabited : (v : Val) (f : Flg) (o : AbsComputed) → o ≡ increment v f → IsVal v → IsFlg f → IsOutcome o
increment_inhabited v f o e val flags =
    IsOutcome-sound incremented v f o (increment_sound v f o e) val flags (subst (λ r. r.val.hi < 256) (sym e) (increment-byte v f))
    (subst (λ r. is_strided r.val ≡ true) (sym e) (increment-strided v f))

pub decrement_inhabited : (v : Val) (f : Flg) (o : AbsComputed) → o ≡ decrement v f → IsVal v → IsFlg f → IsOutcome o
decrement_inhabited v f o e val flags =
    IsOutcome-sound decremented v f o (decrement_sound v f o e val.hi) val flags (subst (λ r. r.val.hi < 256) (sym e) (decrement-byte v f val.hi))
    (subst (λ r. is_strided r.val ≡ true) (sym e) (decrement-strided v f))
