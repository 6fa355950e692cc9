-- BIT, RES and SET stand for those of the machine, and a value may have a bit where one within the bounds has it.
use Rattle.std.proofs.Common.{◌≡◌, ℕ, zero, suc, ◌+◌, ◌-◌, ◌*◌, ◌/◌, ◌%◌, ◌^◌, ◌<◌, ◌≤◌, Bool, true, false, not, ◌||◌, ◌==◌, nat_lt, cond, bit_and, refl, sym, ◌∙◌, subst, arith}
use Rattle.std.proofs.lemmas.Bool.Decides.{nat_tests}
use Rattle.std.proofs.lemmas.Nat.{and_le_l, le_or_l, or_lt}
use Rattle.std.proofs.Math.Pow.{pow-lt}
use Rattle.gb_ops.specs.declared.registers.Flags.{Flags}
use Rattle.gb_ops.specs.Arithmetic as machine
use Rattle.gb_domain.specs.declared.types.Val.{Val}
use Rattle.gb_domain.specs.declared.types.Flg.{Flg}
use Rattle.gb_domain.specs.Rules.{IsVal, IsFlg}
use Rattle.gb_vals.specs.Vals.{between, single, is_single}
use Rattle.gb_vals.specs.Flags.{known, greatest_flags}
use Rattle.gb_vals.specs.Meaning.{In, FlagsIn, may_be, IsSoundOfVal, IsSoundOfTest, IsSoundAnswer, HasOne}
use Rattle.gb_vals.specs.Bits.{tested, tested_any, test_bit, reset_bit, set_bit, has_bit, may_have_bit, enables, may_enable}
use Rattle.gb_vals.proofs.MeaningLaws.{known-may_be, either-may_be, single-is, In-single, In-least, IsVal-from, IsFlg-from, FlagsIn-greatest}
use Rattle.gb_vals.proofs.StrideLaws.{reset_bit-strided, set_bit-strided}

-- ---- BIT

FlagsIn-test_bit : (n : ℕ) (v : Val) (f : Flg) (x : ℕ) (g : Flags) → In v x → FlagsIn f g → FlagsIn (test_bit n v f) (machine.bit_tested n x g)
unfolding test_bit machine.bit_tested
FlagsIn-test_bit n v f x g m h = choose (is_single v) refl
  where
    choose :
        (b : Bool) → is_single v ≡ b
        → FlagsIn (cond b (tested n v.lo f) (tested_any f.carry)) (machine.bit_tested n x g)
    choose true e =
        let same : bit_and x (machine.mask_of n) ≡ bit_and v.lo (machine.mask_of n) = subst (λ k. bit_and x (machine.mask_of n) ≡ bit_and k (machine.mask_of n)) (single-is v x e m) refl in
        record {
          zero = subst (λ k. may_be (known (k == 0)) (bit_and x (machine.mask_of n) == 0) ≡ true) same (known-may_be (bit_and x (machine.mask_of n) == 0));
          subtract = refl;
          half_carry = refl;
          carry = h.carry;
        }
    choose false e = record { zero = either-may_be _; subtract = refl; half_carry = refl; carry = h.carry }

pub test_bit_sound : (n : ℕ) (v : Val) (f o : Flg) → o ≡ test_bit n v f → IsSoundOfTest (machine.bit_tested n) v f o
test_bit_sound n v f o e =
    subst (λ r. IsSoundOfTest (machine.bit_tested n) v f r) (sym e) (record { gives = FlagsIn-test_bit n v f })

pub test_bit_inhabited : (n : ℕ) (v : Val) (f o : Flg) → o ≡ test_bit n v f → IsVal v → IsFlg f → IsFlg o
test_bit_inhabited n v f o e p q =
    subst (λ r. IsFlg r) (sym e) (IsFlg-from (test_bit n v f) _ (FlagsIn-test_bit n v f v.lo (greatest_flags f) (In-least v p) (FlagsIn-greatest f q)))

-- ---- RES and SET

mask-byte : (n : ℕ) → machine.mask_of n < 256
unfolding machine.mask_of
mask-byte n = let small : n % 8 < 8 = omega arith in pow-lt small

reset-below : (n x : ℕ) → machine.bit_reset n x ≤ x
unfolding machine.bit_reset
reset-below n x = and_le_l x (255 - machine.mask_of n)

set-above : (n x : ℕ) → x ≤ machine.bit_set n x
unfolding machine.bit_set
set-above n x = le_or_l x (machine.mask_of n)

set-byte : (n x : ℕ) → x < 256 → machine.bit_set n x < 256
unfolding machine.bit_set
set-byte n x h = or_lt 8 x (machine.mask_of n) h (mask-byte n)

In-reset_bit : (n : ℕ) (v : Val) (x : ℕ) → In v x → In (reset_bit n v) (machine.bit_reset n x)
unfolding reset_bit
In-reset_bit n v x m = choose (is_single v) refl
  where
    choose : (b : Bool) → is_single v ≡ b → In (cond b (single (machine.bit_reset n v.lo)) (between 0 v.hi)) (machine.bit_reset n x)
    choose true e = subst (λ k. In (single (machine.bit_reset n k)) (machine.bit_reset n x)) (single-is v x e m) (In-single _)
    choose false e =
        let below : machine.bit_reset n x ≤ x = reset-below n x in
        record { least = omega arith; most = omega arith; low = refl }

In-set_bit : (n : ℕ) (v : Val) (x : ℕ) → v.hi < 256 → In v x → In (set_bit n v) (machine.bit_set n x)
unfolding set_bit
In-set_bit n v x byte m = choose (is_single v) refl
  where
    choose : (b : Bool) → is_single v ≡ b → In (cond b (single (machine.bit_set n v.lo)) (between v.lo 255)) (machine.bit_set n x)
    choose true e = subst (λ k. In (single (machine.bit_set n k)) (machine.bit_set n x)) (single-is v x e m) (In-single _)
    choose false e =
        let above : x ≤ machine.bit_set n x = set-above n x in
        let below : machine.bit_set n x < 256 = set-byte n x (omega arith) in
        record { least = omega arith; most = omega arith; low = refl }

reset_bit-byte : (n : ℕ) (v : Val) → IsVal v → (reset_bit n v).hi < 256
unfolding reset_bit
reset_bit-byte n v h = choose (is_single v)
  where
    choose : (b : Bool) → (cond b (single (machine.bit_reset n v.lo)) (between 0 v.hi)).hi < 256
    choose true = let below : machine.bit_reset n v.lo ≤ v.lo = reset-below n v.lo in omega arith
    choose false = h.hi

set_bit-byte : (n : ℕ) (v : Val) → IsVal v → (set_bit n v).hi < 256
unfolding set_bit
set_bit-byte n v h = choose (is_single v)
  where
    choose : (b : Bool) → (cond b (single (machine.bit_set n v.lo)) (between v.lo 255)).hi < 256
    choose true = set-byte n v.lo (omega arith)
    choose false = omega arith

pub reset_bit_sound : (n : ℕ) (v o : Val) → o ≡ reset_bit n v → IsSoundOfVal (machine.bit_reset n) v o
reset_bit_sound n v o e = subst (λ r. IsSoundOfVal (machine.bit_reset n) v r) (sym e) (record { gives = In-reset_bit n v })

pub set_bit_sound : (n : ℕ) (v o : Val) → o ≡ set_bit n v → v.hi < 256 → IsSoundOfVal (machine.bit_set n) v o
set_bit_sound n v o e byte =
    subst (λ r. IsSoundOfVal (machine.bit_set n) v r) (sym e) (record { gives = λ x. In-set_bit n v x byte })

pub reset_bit_inhabited : (n : ℕ) (v o : Val) → o ≡ reset_bit n v → IsVal v → IsVal o
reset_bit_inhabited n v o e h =
    subst (λ r. IsVal r) (sym e) (IsVal-from (reset_bit n v) _ (In-reset_bit n v v.lo (In-least v h)) (reset_bit-byte n v h) (reset_bit-strided n v))

pub set_bit_inhabited : (n : ℕ) (v o : Val) → o ≡ set_bit n v → IsVal v → IsVal o
set_bit_inhabited n v o e h =
    subst (λ r. IsVal r) (sym e) (IsVal-from (set_bit n v) _ (In-set_bit n v v.lo h.hi (In-least v h)) (set_bit-byte n v h) (set_bit-strided n v))

-- ---- a bit that a value may have

-- a fact about the weight of each bit of a byte
each_weight : (P : ℕ → Type 0) → P 1 → P 2 → P 4 → P 8 → P 16 → P 32 → P 64 → P 128 → (i : ℕ) → i < 8 → P (2 ^ i)
each_weight P a b c d e f g h zero lt = a
each_weight P a b c d e f g h (suc zero) lt = b
each_weight P a b c d e f g h (suc (suc zero)) lt = c
each_weight P a b c d e f g h (suc (suc (suc zero))) lt = d
each_weight P a b c d e f g h (suc (suc (suc (suc zero)))) lt = e
each_weight P a b c d e f g h (suc (suc (suc (suc (suc zero))))) lt = f
each_weight P a b c d e f g h (suc (suc (suc (suc (suc (suc zero)))))) lt = g
each_weight P a b c d e f g h (suc (suc (suc (suc (suc (suc (suc zero))))))) lt = h
each_weight P a b c d e f g h (suc (suc (suc (suc (suc (suc (suc (suc i)))))))) lt = absurd (omega arith)

-- the bits from this weight on keep the order
abbrev KeepsOrder : ℕ → Type 0
KeepsOrder w = (a b : ℕ) → a ≤ b → a / w ≤ b / w

keeps-order : (i : ℕ) → i < 8 → KeepsOrder (2 ^ i)
keeps-order =
    each_weight KeepsOrder (λ a b h. omega arith) (λ a b h. omega arith) (λ a b h. omega arith) (λ a b h. omega arith)
    (λ a b h. omega arith) (λ a b h. omega arith) (λ a b h. omega arith) (λ a b h. omega arith)

-- an odd number between two others
odd_between : (a b y : ℕ) → a ≤ y → y ≤ b → (y % 2 == 1) ≡ true → ((a % 2 == 1) || (b % 2 == 1) || nat_lt (a / 2) (b / 2)) ≡ true
odd_between a b y low high odd = grind (arith, nat_tests)

pub may_have_bit_sound : (i : ℕ) (v : Val) (o : Bool) → o ≡ may_have_bit v i → i < 8 → IsSoundAnswer (has_bit i) v o
unfolding may_have_bit
may_have_bit_sound i v o e lt =
    subst (λ b. IsSoundAnswer (has_bit i) v b) (sym e)
    (record { gives = λ x m h. odd_between (v.lo / 2 ^ i) (v.hi / 2 ^ i) (x / 2 ^ i) (keeps-order i lt v.lo x m.least) (keeps-order i lt x v.hi m.most) h })

-- the next number with the bit, where the bits above it change
record IsNext (w lo hi : ℕ) : Type 0 where
  least : lo ≤ w * (lo / w + 1)
  most : w * (lo / w + 1) ≤ hi
  odd : (w * (lo / w + 1) / w % 2 == 1) ≡ true

abbrev HasNext : ℕ → Type 0
HasNext w = (lo hi : ℕ) → (lo / w % 2 == 1) ≡ false → nat_lt (lo / w / 2) (hi / w / 2) ≡ true → IsNext w lo hi

even : (n : ℕ) → (n % 2 == 1) ≡ false → n % 2 ≡ 0
even n h = grind (arith, nat_tests)

below : (a b : ℕ) → nat_lt a b ≡ true → a < b
below a b h = grind (arith, nat_tests)

odd-is : (n : ℕ) → n % 2 ≡ 1 → (n % 2 == 1) ≡ true
odd-is n h = grind (arith, nat_tests)

has-next : (i : ℕ) → i < 8 → HasNext (2 ^ i)
has-next =
    each_weight HasNext
    (λ lo hi e l.
    let n : lo / 1 % 2 ≡ 0 = even (lo / 1) e in
    let m : lo / 1 / 2 < hi / 1 / 2 = below (lo / 1 / 2) (hi / 1 / 2) l in
    record { least = omega arith; most = omega arith; odd = odd-is (1 * (lo / 1 + 1) / 1) (omega arith) })
    (λ lo hi e l.
    let n : lo / 2 % 2 ≡ 0 = even (lo / 2) e in
    let m : lo / 2 / 2 < hi / 2 / 2 = below (lo / 2 / 2) (hi / 2 / 2) l in
    record { least = omega arith; most = omega arith; odd = odd-is (2 * (lo / 2 + 1) / 2) (omega arith) })
    (λ lo hi e l.
    let n : lo / 4 % 2 ≡ 0 = even (lo / 4) e in
    let m : lo / 4 / 2 < hi / 4 / 2 = below (lo / 4 / 2) (hi / 4 / 2) l in
    record { least = omega arith; most = omega arith; odd = odd-is (4 * (lo / 4 + 1) / 4) (omega arith) })
    (λ lo hi e l.
    let n : lo / 8 % 2 ≡ 0 = even (lo / 8) e in
    let m : lo / 8 / 2 < hi / 8 / 2 = below (lo / 8 / 2) (hi / 8 / 2) l in
    record { least = omega arith; most = omega arith; odd = odd-is (8 * (lo / 8 + 1) / 8) (omega arith) })
    (λ lo hi e l.
    let n : lo / 16 % 2 ≡ 0 = even (lo / 16) e in
    let m : lo / 16 / 2 < hi / 16 / 2 = below (lo / 16 / 2) (hi / 16 / 2) l in
    record { least = omega arith; most = omega arith; odd = odd-is (16 * (lo / 16 + 1) / 16) (omega arith) })
    (λ lo hi e l.
    let n : lo / 32 % 2 ≡ 0 = even (lo / 32) e in
    let m : lo / 32 / 2 < hi / 32 / 2 = below (lo / 32 / 2) (hi / 32 / 2) l in
    record { least = omega arith; most = omega arith; odd = odd-is (32 * (lo / 32 + 1) / 32) (omega arith) })
    (λ lo hi e l.
    let n : lo / 64 % 2 ≡ 0 = even (lo / 64) e in
    let m : lo / 64 / 2 < hi / 64 / 2 = below (lo / 64 / 2) (hi / 64 / 2) l in
    record { least = omega arith; most = omega arith; odd = odd-is (64 * (lo / 64 + 1) / 64) (omega arith) })
    (λ lo hi e l.
    let n : lo / 128 % 2 ≡ 0 = even (lo / 128) e in
    let m : lo / 128 / 2 < hi / 128 / 2 = below (lo / 128 / 2) (hi / 128 / 2) l in
    record { least = omega arith; most = omega arith; odd = odd-is (128 * (lo / 128 + 1) / 128) (omega arith) })

HasOne-bit : (i : ℕ) (v : Val) → i < 8 → IsVal v → may_have_bit v i ≡ true → HasOne (has_bit i) v
unfolding may_have_bit
HasOne-bit i v lt is h = choose (has_bit i v.lo) refl (has_bit i v.hi) refl h
  where
    choose :
        (b : Bool) → has_bit i v.lo ≡ b → (c : Bool) → has_bit i v.hi ≡ c
        → (b || c || nat_lt (v.lo / 2 ^ i / 2) (v.hi / 2 ^ i / 2)) ≡ true → HasOne (has_bit i) v
    choose true e c f h = record { value = v.lo; within = record { least = omega arith; most = is.order }; holds = e }
    choose false e true f h = record { value = v.hi; within = record { least = is.order; most = omega arith }; holds = f }
    choose false e false f h =
        let n = has-next i lt v.lo v.hi e h in
        record { value = 2 ^ i * (v.lo / 2 ^ i + 1); within = record { least = n.least; most = n.most }; holds = n.odd }

pub may_have_bit_complete : (i : ℕ) (v : Val) (o : Bool) → o ≡ may_have_bit v i → i < 8 → o ≡ true → IsVal v → HasOne (has_bit i) v
may_have_bit_complete i v o e lt h is = HasOne-bit i v lt is (sym e ∙ h)

-- ---- IE

pub may_enable_sound : (v : Val) (o : Bool) → o ≡ may_enable v → IsSoundAnswer enables v o
unfolding may_enable
may_enable_sound v o e =
    subst (λ b. IsSoundAnswer enables v b) (sym e) (record { gives = λ x m h. one_of v.lo v.hi x m.least m.most h })
  where
    one_of : (lo hi x : ℕ) → lo ≤ x → x ≤ hi → not (x % 32 == 0) ≡ true → (nat_lt lo hi || not (lo % 32 == 0)) ≡ true
    one_of lo hi x low high h = grind (arith, nat_tests)

pub may_enable_complete : (v : Val) (o : Bool) → o ≡ may_enable v → o ≡ true → IsVal v → HasOne enables v
unfolding may_enable
may_enable_complete v o e h is = choose (enables v.lo) refl (sym e ∙ h)
  where
    next : (lo hi : ℕ) → not (lo % 32 == 0) ≡ false → (nat_lt lo hi || false) ≡ true → (lo + 1 ≤ hi) × (not ((lo + 1) % 32 == 0) ≡ true)
    next lo hi e h = (grind (arith, nat_tests), grind (arith, nat_tests))

    choose : (b : Bool) → enables v.lo ≡ b → (nat_lt v.lo v.hi || b) ≡ true → HasOne enables v
    choose true e h = record { value = v.lo; within = record { least = omega arith; most = is.order }; holds = e }
    choose false e h =
        let n = next v.lo v.hi e h in
        record { value = v.lo + 1; within = record { least = omega arith; most = n.0 }; holds = n.1 }
