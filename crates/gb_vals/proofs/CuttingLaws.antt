-- Where a plain result stands for what the machine computes, and the low bits hold of it too, the cut result stands for it.
use Rattle.std.proofs.Common.{◌≡◌, ℕ, zero, suc, ◌+◌, ◌-◌, ◌*◌, ◌/◌, ◌%◌, ◌<◌, ◌≤◌, Bool, true, false, ◌&&◌, ◌||◌, ◌==◌, nat_lt, nat_le, cond, Option, Some, None, refl, sym, ◌∙◌, ap, subst, arith}
use Rattle.std.proofs.lemmas.Bool.Decides.{nat_tests}
use Rattle.std.proofs.lemmas.Bool.{eqb-true}
use Rattle.std.proofs.lemmas.Nat.{mod_below}
use Rattle.std.specs.Prelude.{IfSome}
use Rattle.gb_ops.specs.declared.op.AluOp.{AluOp}
use Rattle.gb_ops.specs.declared.op.AluOp.TheVariants as op
use Rattle.gb_ops.specs.declared.op.Shift.{Shift}
use Rattle.gb_ops.specs.declared.op.Shift.TheVariants as shift
use Rattle.gb_ops.specs.declared.registers.Flags.{Flags}
use Rattle.gb_ops.specs.declared.machine.Computed.{Computed}
use Rattle.gb_ops.specs.Flags.{bit_of}
use Rattle.gb_ops.specs.Arithmetic as machine
use Rattle.gb_domain.specs.declared.types.Val.{Val}
use Rattle.gb_domain.specs.declared.types.May.{May}
use Rattle.gb_domain.specs.declared.types.Flg.{Flg}
use Rattle.gb_domain.specs.declared.low_bits.LowBits.{LowBits}
use Rattle.gb_domain.specs.declared.interval.StridedInterval.{StridedInterval}
use Rattle.gb_domain.specs.Interval.{low_bits_of, with_low_bits}
use Rattle.gb_domain.specs.LowBits.{modulus, low_bits, all_of}
use Rattle.gb_domain.specs.Meaning.{Has, InSome, IsWithin, IsStrided}
use Rattle.gb_domain.specs.Rules.{IsVal, IsFlg}
use Rattle.gb_domain.specs.Values.{interval_of, have_same}
use Rattle.gb_domain.proofs.IntervalLaws.{In-Has, with_low_bits_leaves, with_low_bits_strided}
use Rattle.gb_domain.proofs.ModulusLaws.{modulus_positive, modulus_bound}
use Rattle.gb_domain.proofs.ValueLaws.{Has-same, same-Has}
use Rattle.gb_vals.specs.declared.outcome.AbsComputed.{AbsComputed}
use Rattle.gb_vals.specs.Vals.{between}
use Rattle.gb_vals.specs.Flags.{is_known}
use Rattle.gb_vals.specs.Meaning.{In, FlagsIn, may_be, Gives, IsSound, IsSoundOfTwo, IsSoundOfVal, IsOutcome, IsComputed}
use Rattle.gb_vals.specs.Congruence.{MayBe, with_digits_swapped}
use Rattle.gb_vals.specs.LowLogic as LowLogic
use Rattle.gb_vals.specs.LowShifts as LowShifts
use Rattle.gb_vals.specs.LowSums as LowSums
use Rattle.gb_vals.specs.LowSums.{one_if}
use Rattle.gb_vals.specs.Alu as Alu
use Rattle.gb_vals.specs.Alu.{alu_origin, itself_origin, result_with_itself}
use Rattle.gb_vals.specs.Bits as Bits
use Rattle.gb_vals.specs.Logic as Logic
use Rattle.gb_vals.specs.Shifts as Shifts
use Rattle.gb_vals.specs.Sums as Sums
use Rattle.gb_vals.specs.Strided.{low_of, left_of, cut_to, cutting, known_bit, alu_low_bits, alu, itself_low_bits, alu_itself, complement, increment, decrement, shift_low_bits, swapped, swap, shift_of, reset_bit, set_bit}
use Rattle.gb_vals.proofs.MeaningLaws.{known-is}
use Rattle.gb_vals.proofs.AluLaws as plain_alu
use Rattle.gb_vals.proofs.BitLaws as plain_bits
use Rattle.gb_vals.proofs.LogicLaws as plain_logic
use Rattle.gb_vals.proofs.ShiftLaws as plain_shift
use Rattle.gb_vals.proofs.SumLaws as plain_sum
use Rattle.gb_vals.proofs.OriginLaws as plain_origin
use Rattle.gb_vals.proofs.LowLogicLaws as low_logic
use Rattle.gb_vals.proofs.LowShiftLaws as low_shift
use Rattle.gb_vals.proofs.LowSumLaws as low_sum

-- ---- values

pub Has-low_of : (v : Val) (x : ℕ) → In v x → Has (low_of v) x
Has-low_of v x m =
    In-Has (interval_of v) x (record { least = m.least; most = m.most; low = Has-same v.low_bits x v.lo m.low })

In-left_of : (v : Val) (o : Option StridedInterval) (x : ℕ) → InSome o x → In (left_of v o) x
In-left_of v None x m = absurd m
In-left_of v (Some i) x m = record { least = m.least; most = m.most; low = same-Has i.count x i.lo m.low }

pub In-cut_to : (k : LowBits) (v : Val) (x : ℕ) → In v x → Has k x → In (cut_to k v) x
unfolding cut_to
In-cut_to k v x m h =
    In-left_of v (with_low_bits v.lo v.hi k) x
    ((with_low_bits_leaves v.lo v.hi k (with_low_bits v.lo v.hi k) refl).keeps x (record { least = m.least; most = m.most; low = h }))

-- a count that is known, of two ends that differ
strided-by : (n lo hi : ℕ) → n < 8 → lo ≤ hi → (lo ≡ hi → n ≡ 0) → have_same n hi lo ≡ true → (n == 0 || nat_le n 7 && (nat_lt lo hi && have_same n hi lo)) ≡ true
strided-by zero lo hi few order one same = refl
strided-by (suc n) lo hi few order one same = rw same (tests (suc n) lo hi few order (λ e. some n (one e)))
  where
    some : (n : ℕ) → suc n ≡ 0 → ⊥
    some n e = omega arith

    tests : (n lo hi : ℕ) → n < 8 → lo ≤ hi → (lo ≡ hi → ⊥) → (n == 0 || nat_le n 7 && (nat_lt lo hi && true)) ≡ true
    tests n lo hi few order other = grind (arith, nat_tests)

IsVal-left_of :
    (v : Val) (o : Option StridedInterval) (lo hi : ℕ) (k : LowBits)
    → hi < 256 → IsVal v → IfSome o IsStrided → ((x : ℕ) → InSome o x → IsWithin lo hi k x) → IsVal (left_of v o)
IsVal-left_of v None lo hi k byte is strided only = is
IsVal-left_of v (Some i) lo hi k byte is strided only =
    let within : IsWithin lo hi k i.hi = only i.hi strided.greatest in
    let top : i.hi ≤ hi = within.most in
    record {
      order = strided.least.most;
      hi = omega arith;
      strided = strided-by i.count i.lo i.hi strided.count strided.least.most strided.one (same-Has i.count i.hi i.lo strided.greatest.low);
    }

pub IsVal-cut_to : (k : LowBits) (v : Val) → IsVal v → IsVal (cut_to k v)
unfolding cut_to
IsVal-cut_to k v is =
    let o = with_low_bits v.lo v.hi k in
    IsVal-left_of v o v.lo v.hi k is.hi is (with_low_bits_strided v.lo v.hi k o refl is.hi) (with_low_bits_leaves v.lo v.hi k o refl).only

pub cut_to-origin : (k : LowBits) (v : Val) → (cut_to k v).origin ≡ v.origin
unfolding cut_to
cut_to-origin k v = choose (with_low_bits v.lo v.hi k)
  where
    choose : (o : Option StridedInterval) → (left_of v o).origin ≡ v.origin
    choose None = refl
    choose (Some i) = refl

pub cut_to_keeps : (k : LowBits) (v o : Val) → o ≡ cut_to k v → (x : ℕ) → In v x → Has k x → In o x
cut_to_keeps k v o e x m h = subst (λ r. In r x) (sym e) (In-cut_to k v x m h)

pub cut_to_inhabited : (k : LowBits) (v o : Val) → o ≡ cut_to k v → IsVal v → IsVal o
cut_to_inhabited k v o e is = subst (λ r. IsVal r) (sym e) (IsVal-cut_to k v is)

pub cut_to_origin : (k : LowBits) (v o : Val) → o ≡ cut_to k v → o.origin ≡ v.origin
cut_to_origin k v o e = subst (λ r. r.origin ≡ v.origin) (sym e) (cut_to-origin k v)

-- ---- outcomes

-- what is cut has the low bits
abbrev pub MayHave : Option LowBits → ℕ → Type 0
MayHave None x = Unit {0}
MayHave (Some k) x = Has k x

pub Gives-cutting : (k : Option LowBits) (o : AbsComputed) (c : Computed) → Gives o c → MayHave k c.value → Gives (cutting k o) c
Gives-cutting None o c g h = g
Gives-cutting (Some k) o c g h = record { value = In-cut_to k o.val c.value g.value h; flags = g.flags }

pub IsOutcome-cutting : (k : Option LowBits) (o : AbsComputed) → IsOutcome o → IsOutcome (cutting k o)
IsOutcome-cutting None o is = is
IsOutcome-cutting (Some k) o is = record { val = IsVal-cut_to k o.val is.val; flags = is.flags }

pub cutting-origin : (k : Option LowBits) (o : AbsComputed) → (cutting k o).val.origin ≡ o.val.origin
cutting-origin None o = refl
cutting-origin (Some k) o = cut_to-origin k o.val

pub cutting-own : (k : Option LowBits) (o : AbsComputed) → (cutting k o).flags.is_own ≡ o.flags.is_own
cutting-own None o = refl
cutting-own (Some k) o = refl

pub IsComputed-cutting : (k : Option LowBits) (o : AbsComputed) → IsComputed o → IsComputed (cutting k o)
IsComputed-cutting k o is = record { origin = cutting-origin k o ∙ is.origin; own = cutting-own k o ∙ is.own }

IsSound-cutting :
    (computes : ℕ → Flags → Computed) (v : Val) (f : Flg) (k : Option LowBits) (o : AbsComputed)
    → IsSound computes v f o → ((x : ℕ) (g : Flags) → In v x → FlagsIn f g → MayHave k (computes x g).value)
    → IsSound computes v f (cutting k o)
IsSound-cutting computes v f k o sound has =
    record { gives = λ x g m h. Gives-cutting k o (computes x g) (sound.gives x g m h) (has x g m h) }

-- ---- operations of A

MayBe-known_bit : (m : May) (c : Bool) → may_be m c ≡ true → MayBe (known_bit m) c
MayBe-known_bit m c h = choose (is_known m) refl
  where
    choose : (b : Bool) → is_known m ≡ b → MayBe (cond b (Some m.set) None) c
    choose true e = known-is m c e h
    choose false e = tt

bit-one : (c : Bool) → bit_of c 1 ≡ one_if c
unfolding bit_of
bit-one true = refl
bit-one false = refl

-- a difference, 256 more or not
same-difference : (x y b : ℕ) → y < 256 → b ≤ 1 → (x + 512 - (y + b)) % 256 ≡ (x + 256 - (y + b)) % 256
same-difference x y b small one = omega arith

small-bit : (c : Bool) → one_if c ≤ 1
small-bit true = omega arith
small-bit false = omega arith

Has-sum :
    (a v : Val) (carry : Option Bool) (x y : ℕ) (c : Bool)
    → x < 256 → y < 256 → In a x → In v y → MayBe carry c → Has (LowSums.sum (low_of a) (low_of v) carry) (machine.added x y (bit_of c 1)).value
unfolding machine.added
Has-sum a v carry x y c s t m n h =
    subst (λ b. Has (LowSums.sum (low_of a) (low_of v) carry) ((x + y + b) % 256)) (sym (bit-one c))
    ((low_sum.sum_sound (low_of a) (low_of v) carry _ refl).gives x y c s t h (Has-low_of a x m) (Has-low_of v y n))

Has-difference :
    (a v : Val) (borrow : Option Bool) (x y : ℕ) (c : Bool)
    → (low_of v).bits < 256 → x < 256 → y < 256 → In a x → In v y → MayBe borrow c
    → Has (LowSums.difference (low_of a) (low_of v) borrow) (machine.subtracted x y (bit_of c 1)).value
unfolding machine.subtracted
Has-difference a v borrow x y c byte s t m n h =
    let k = LowSums.difference (low_of a) (low_of v) borrow in
    subst (λ b. Has k ((x + 256 - (y + b)) % 256)) (sym (bit-one c))
    (subst (λ d. Has k d) (same-difference x y (one_if c) t (small-bit c))
    ((low_sum.difference_sound (low_of a) (low_of v) borrow k refl byte).gives x y c s t h (Has-low_of a x m) (Has-low_of v y n)))

low_of-byte : (v : Val) → (low_of v).bits < 256
unfolding low_bits_of low_bits all_of
low_of-byte v = choose (v.lo == v.hi)
  where
    small : (n x : ℕ) → x % modulus n < 256
    small n x =
        let most : modulus n ≤ 256 = modulus_bound n in
        let below : x % modulus n < modulus n = mod_below x (modulus n) (modulus_positive n) in
        omega arith

    choose : (b : Bool) → (cond b (all_of v.lo) (low_bits v.low_bits v.lo)).bits < 256
    choose true = small 8 v.lo
    choose false = small v.low_bits v.lo

MayHave-alu :
    (how : AluOp) (a v : Val) (f : Flg) (x y : ℕ) (g : Flags)
    → a.hi < 256 → v.hi < 256 → In a x → In v y → FlagsIn f g
    → MayHave (alu_low_bits how (low_of a) (low_of v) f.carry) (machine.alu_result how x y g).value
unfolding machine.alu_result machine.logical bit_of
MayHave-alu op.Add a v f x y g s t m n h = Has-sum a v (Some false) x y false (omega arith) (omega arith) m n refl
MayHave-alu op.Adc a v f x y g s t m n h =
    Has-sum a v (known_bit f.carry) x y g.carry (omega arith) (omega arith) m n (MayBe-known_bit f.carry g.carry h.carry)
MayHave-alu op.Sub a v f x y g s t m n h =
    Has-difference a v (Some false) x y false (low_of-byte v) (omega arith) (omega arith) m n refl
MayHave-alu op.Sbc a v f x y g s t m n h =
    Has-difference a v (known_bit f.carry) x y g.carry (low_of-byte v) (omega arith) (omega arith) m n (MayBe-known_bit f.carry g.carry h.carry)
MayHave-alu op.And a v f x y g s t m n h =
    (low_logic.conjunction_sound (low_of a) (low_of v) _ refl).gives x y (omega arith) (omega arith) (Has-low_of a x m) (Has-low_of v y n)
MayHave-alu op.Xor a v f x y g s t m n h =
    (low_logic.exclusion_sound (low_of a) (low_of v) _ refl).gives x y (omega arith) (omega arith) (Has-low_of a x m) (Has-low_of v y n)
MayHave-alu op.Or a v f x y g s t m n h =
    (low_logic.disjunction_sound (low_of a) (low_of v) _ refl).gives x y (omega arith) (omega arith) (Has-low_of a x m) (Has-low_of v y n)
MayHave-alu op.Cp a v f x y g s t m n h = tt

alu-sound : (how : AluOp) (a v : Val) (f : Flg) → a.hi < 256 → v.hi < 256 → IsSoundOfTwo (machine.alu_result how) a v f (alu how a v f)
unfolding alu
alu-sound how a v f s t =
    let k = alu_low_bits how (low_of a) (low_of v) f.carry in
    let plain = plain_alu.alu_sound how a v f (Alu.alu how a v f) refl s t in
    record {
      gives = λ x y g m n h. Gives-cutting k (Alu.alu how a v f) (machine.alu_result how x y g) (plain.gives x y g m n h) (MayHave-alu how a v f x y g s t m n h);
    }

pub alu_sound :
    (how : AluOp) (a v : Val) (f : Flg) (o : AbsComputed)
    → o ≡ alu how a v f → a.hi < 256 → v.hi < 256 → IsSoundOfTwo (machine.alu_result how) a v f o
alu_sound how a v f o e s t = subst (λ r. IsSoundOfTwo (machine.alu_result how) a v f r) (sym e) (alu-sound how a v f s t)

pub alu_inhabited :
    (how : AluOp) (a v : Val) (f : Flg) (o : AbsComputed) → o ≡ alu how a v f → IsVal a → IsVal v → IsFlg f → IsOutcome o
unfolding alu
alu_inhabited how a v f o e p q flags =
    subst (λ r. IsOutcome r) (sym e)
    (IsOutcome-cutting (alu_low_bits how (low_of a) (low_of v) f.carry) (Alu.alu how a v f) (plain_alu.alu_inhabited how a v f (Alu.alu how a v f) refl p q flags))

pub alu_kept : (how : AluOp) (a v : Val) (f : Flg) (o : AbsComputed) → o ≡ alu how a v f → o.val.origin ≡ alu_origin how a
unfolding alu
alu_kept how a v f o e =
    subst (λ r. r.val.origin ≡ alu_origin how a) (sym e)
    (cutting-origin (alu_low_bits how (low_of a) (low_of v) f.carry) (Alu.alu how a v f) ∙ plain_origin.alu_kept how a v f (Alu.alu how a v f) refl)

pub alu_written : (how : AluOp) (a v : Val) (f : Flg) (o : AbsComputed) → o ≡ alu how a v f → o.flags.is_own ≡ false
unfolding alu
alu_written how a v f o e =
    subst (λ r. r.flags.is_own ≡ false) (sym e)
    (cutting-own (alu_low_bits how (low_of a) (low_of v) f.carry) (Alu.alu how a v f) ∙ plain_origin.alu_written how a v f (Alu.alu how a v f) refl)

-- ---- A with A

Has-doubled : (a : Val) (x : ℕ) → x < 256 → In a x → Has (LowShifts.doubled (low_of a)) (x * 2 % 256)
Has-doubled a x small m = (low_shift.doubled_sound (low_of a) _ refl).gives x small (Has-low_of a x m)

twice : (x : ℕ) → x * 2 % 256 ≡ (x + x + 0) % 256
twice x = let e : x * 2 ≡ x + x + 0 = omega arith in ap (λ y. y % 256) e

MayHave-itself :
    (how : AluOp) (a : Val) (f : Flg) (x : ℕ) (g : Flags)
    → a.hi < 256 → In a x → MayHave (itself_low_bits how (low_of a)) (result_with_itself how x g).value
unfolding machine.alu_result machine.added
MayHave-itself op.Add a f x g s m =
    subst (λ z. Has (LowShifts.doubled (low_of a)) z) (twice x) (Has-doubled a x (omega arith) m)
MayHave-itself op.Adc a f x g s m = tt
MayHave-itself op.Sub a f x g s m = tt
MayHave-itself op.Sbc a f x g s m = tt
MayHave-itself op.And a f x g s m = tt
MayHave-itself op.Xor a f x g s m = tt
MayHave-itself op.Or a f x g s m = tt
MayHave-itself op.Cp a f x g s m = tt

pub alu_itself_sound :
    (how : AluOp) (a : Val) (f : Flg) (o : AbsComputed) → o ≡ alu_itself how a f → a.hi < 256 → IsSound (result_with_itself how) a f o
unfolding alu_itself
alu_itself_sound how a f o e s =
    let plain = Alu.alu_itself how a f in
    subst (λ r. IsSound (result_with_itself how) a f r) (sym e)
    (IsSound-cutting (result_with_itself how) a f (itself_low_bits how (low_of a)) plain (plain_alu.alu_itself_sound how a f plain refl) (λ x g m h. MayHave-itself how a f x g s m))

pub alu_itself_inhabited : (how : AluOp) (a : Val) (f : Flg) (o : AbsComputed) → o ≡ alu_itself how a f → IsVal a → IsFlg f → IsOutcome o
unfolding alu_itself
alu_itself_inhabited how a f o e p flags =
    let plain = Alu.alu_itself how a f in
    subst (λ r. IsOutcome r) (sym e)
    (IsOutcome-cutting (itself_low_bits how (low_of a)) plain (plain_alu.alu_itself_inhabited how a f plain refl p flags))

pub alu_itself_kept : (how : AluOp) (a : Val) (f : Flg) (o : AbsComputed) → o ≡ alu_itself how a f → o.val.origin ≡ itself_origin how a
unfolding alu_itself
alu_itself_kept how a f o e =
    subst (λ r. r.val.origin ≡ itself_origin how a) (sym e)
    (cutting-origin (itself_low_bits how (low_of a)) (Alu.alu_itself how a f) ∙ plain_origin.alu_itself_kept how a f (Alu.alu_itself how a f) refl)

pub alu_itself_written : (how : AluOp) (a : Val) (f : Flg) (o : AbsComputed) → o ≡ alu_itself how a f → o.flags.is_own ≡ false
unfolding alu_itself
alu_itself_written how a f o e =
    subst (λ r. r.flags.is_own ≡ false) (sym e)
    (cutting-own (itself_low_bits how (low_of a)) (Alu.alu_itself how a f) ∙ plain_origin.alu_itself_written how a f (Alu.alu_itself how a f) refl)

-- ---- INC, DEC and CPL

byte : (v : Val) (x : ℕ) → v.hi < 256 → In v x → x < 256
byte v x s m = omega arith

-- what is computed stays so, and has a value, where it is cut
some-computed : (k : LowBits) (plain o : AbsComputed) → o ≡ cutting (Some k) plain → IsComputed plain → IsComputed o
some-computed k plain o e is = subst (λ r. IsComputed r) (sym e) (IsComputed-cutting (Some k) plain is)

some-outcome : (k : LowBits) (plain o : AbsComputed) → o ≡ cutting (Some k) plain → IsOutcome plain → IsOutcome o
some-outcome k plain o e is = subst (λ r. IsOutcome r) (sym e) (IsOutcome-cutting (Some k) plain is)

pub increment_sound : (v : Val) (f : Flg) (o : AbsComputed) → o ≡ increment v f → v.hi < 256 → IsSound machine.incremented v f o
unfolding increment machine.incremented
increment_sound v f o e s =
    let k = LowSums.incremented (low_of v) in
    let plain = Sums.increment v f in
    subst (λ r. IsSound machine.incremented v f r) (sym e)
    (IsSound-cutting machine.incremented v f (Some k) plain (plain_sum.increment_sound v f plain refl)
    (λ x g m h. (low_sum.incremented_sound (low_of v) k refl).gives x (byte v x s m) (Has-low_of v x m)))

pub decrement_sound : (v : Val) (f : Flg) (o : AbsComputed) → o ≡ decrement v f → v.hi < 256 → IsSound machine.decremented v f o
unfolding decrement machine.decremented
decrement_sound v f o e s =
    let k = LowSums.decremented (low_of v) in
    let plain = Sums.decrement v f in
    subst (λ r. IsSound machine.decremented v f r) (sym e)
    (IsSound-cutting machine.decremented v f (Some k) plain (plain_sum.decrement_sound v f plain refl s)
    (λ x g m h. (low_sum.decremented_sound (low_of v) k refl).gives x (byte v x s m) (Has-low_of v x m)))

pub complement_sound : (a : Val) (f : Flg) (o : AbsComputed) → o ≡ complement a f → a.hi < 256 → IsSound Logic.complement_result a f o
unfolding complement
complement_sound a f o e s =
    let k = LowLogic.complement (low_of a) in
    let plain = Logic.complement a f in
    subst (λ r. IsSound Logic.complement_result a f r) (sym e)
    (IsSound-cutting Logic.complement_result a f (Some k) plain (plain_logic.complement_sound a f plain refl)
    (λ x g m h. (low_logic.complement_sound (low_of a) k refl (low_of-byte a)).gives x (byte a x s m) (Has-low_of a x m)))

pub increment_inhabited : (v : Val) (f : Flg) (o : AbsComputed) → o ≡ increment v f → IsVal v → IsFlg f → IsOutcome o
unfolding increment
increment_inhabited v f o e val flags =
    some-outcome (LowSums.incremented (low_of v)) (Sums.increment v f) o e (plain_sum.increment_inhabited v f (Sums.increment v f) refl val flags)

pub increment_computed : (v : Val) (f : Flg) (o : AbsComputed) → o ≡ increment v f → IsComputed o
unfolding increment
increment_computed v f o e =
    some-computed (LowSums.incremented (low_of v)) (Sums.increment v f) o e (plain_origin.increment_computed v f (Sums.increment v f) refl)

pub decrement_inhabited : (v : Val) (f : Flg) (o : AbsComputed) → o ≡ decrement v f → IsVal v → IsFlg f → IsOutcome o
unfolding decrement
decrement_inhabited v f o e val flags =
    some-outcome (LowSums.decremented (low_of v)) (Sums.decrement v f) o e (plain_sum.decrement_inhabited v f (Sums.decrement v f) refl val flags)

pub decrement_computed : (v : Val) (f : Flg) (o : AbsComputed) → o ≡ decrement v f → IsComputed o
unfolding decrement
decrement_computed v f o e =
    some-computed (LowSums.decremented (low_of v)) (Sums.decrement v f) o e (plain_origin.decrement_computed v f (Sums.decrement v f) refl)

pub complement_inhabited : (a : Val) (f : Flg) (o : AbsComputed) → o ≡ complement a f → IsVal a → IsFlg f → IsOutcome o
unfolding complement
complement_inhabited a f o e val flags =
    some-outcome (LowLogic.complement (low_of a)) (Logic.complement a f) o e (plain_logic.complement_inhabited a f (Logic.complement a f) refl val flags)

pub complement_computed : (a : Val) (f : Flg) (o : AbsComputed) → o ≡ complement a f → IsComputed o
unfolding complement
complement_computed a f o e =
    some-computed (LowLogic.complement (low_of a)) (Logic.complement a f) o e (plain_origin.complement_computed a f (Logic.complement a f) refl)

-- ---- RES and SET

pub reset_bit_sound : (n : ℕ) (v o : Val) → o ≡ reset_bit n v → v.hi < 256 → IsSoundOfVal (machine.bit_reset n) v o
unfolding reset_bit machine.bit_reset machine.mask_of LowLogic.mask_of
reset_bit_sound n v o e s =
    let k = LowLogic.reset_bit n (low_of v) in
    let plain = Bits.reset_bit n v in
    subst (λ r. IsSoundOfVal (machine.bit_reset n) v r) (sym e)
    (record {
      gives = λ x m. In-cut_to k plain (machine.bit_reset n x) ((plain_bits.reset_bit_sound n v plain refl).gives x m) ((low_logic.reset_bit_sound n (low_of v) k refl).gives x (byte v x s m) (Has-low_of v x m));
    })

pub set_bit_sound : (n : ℕ) (v o : Val) → o ≡ set_bit n v → v.hi < 256 → IsSoundOfVal (machine.bit_set n) v o
unfolding set_bit machine.bit_set machine.mask_of LowLogic.mask_of
set_bit_sound n v o e s =
    let k = LowLogic.set_bit n (low_of v) in
    let plain = Bits.set_bit n v in
    subst (λ r. IsSoundOfVal (machine.bit_set n) v r) (sym e)
    (record {
      gives = λ x m. In-cut_to k plain (machine.bit_set n x) ((plain_bits.set_bit_sound n v plain refl s).gives x m) ((low_logic.set_bit_sound n (low_of v) k refl).gives x (byte v x s m) (Has-low_of v x m));
    })

pub reset_bit_inhabited : (n : ℕ) (v o : Val) → o ≡ reset_bit n v → IsVal v → IsVal o
unfolding reset_bit
reset_bit_inhabited n v o e is =
    cut_to_inhabited (LowLogic.reset_bit n (low_of v)) (Bits.reset_bit n v) o e (plain_bits.reset_bit_inhabited n v (Bits.reset_bit n v) refl is)

pub set_bit_inhabited : (n : ℕ) (v o : Val) → o ≡ set_bit n v → IsVal v → IsVal o
unfolding set_bit
set_bit_inhabited n v o e is =
    cut_to_inhabited (LowLogic.set_bit n (low_of v)) (Bits.set_bit n v) o e (plain_bits.set_bit_inhabited n v (Bits.set_bit n v) refl is)

pub reset_bit_computed : (n : ℕ) (v o : Val) → o ≡ reset_bit n v → o.origin ≡ None
unfolding reset_bit
reset_bit_computed n v o e =
    cut_to_origin (LowLogic.reset_bit n (low_of v)) (Bits.reset_bit n v) o e ∙ plain_origin.reset_bit_computed n v (Bits.reset_bit n v) refl

pub set_bit_computed : (n : ℕ) (v o : Val) → o ≡ set_bit n v → o.origin ≡ None
unfolding set_bit
set_bit_computed n v o e =
    cut_to_origin (LowLogic.set_bit n (low_of v)) (Bits.set_bit n v) o e ∙ plain_origin.set_bit_computed n v (Bits.set_bit n v) refl

-- ---- shifts

-- bytes between two that have one high digit have it too
between-digits : (lo hi x : ℕ) → lo / 16 ≡ hi / 16 → lo ≤ x → x ≤ hi → (x / 16 ≡ lo / 16) × (lo % 16 ≤ x % 16) × (x % 16 ≤ hi % 16)
between-digits lo hi x e low high = (omega arith, omega arith, omega arith)

In-between_swapped : (v : Val) (x : ℕ) → v.lo / 16 ≡ v.hi / 16 → In v x → In (between (with_digits_swapped v.lo) (with_digits_swapped v.hi)) (with_digits_swapped x)
In-between_swapped v x e m =
    let d = between-digits v.lo v.hi x e m.least m.most in
    let p : x / 16 ≡ v.lo / 16 = d.0 in
    let q : v.lo % 16 ≤ x % 16 = d.1 in
    let r : x % 16 ≤ v.hi % 16 = d.2 in
    record { least = omega arith; most = omega arith; low = refl }

one-digit : (lo hi : ℕ) → hi < 256 → lo / 16 ≡ hi / 16 → lo / 16 % 16 ≡ lo / 16
one-digit lo hi s e = omega arith

In-swapped : (v : Val) (x : ℕ) → v.hi < 256 → v.lo / 16 ≡ v.hi / 16 → In v x → In (swapped v) (with_digits_swapped x)
unfolding swapped
In-swapped v x s e m =
    let k = LowShifts.swapped (v.lo / 16) (low_of v) in
    let d = between-digits v.lo v.hi x e m.least m.most in
    let digit : x / 16 ≡ v.lo / 16 % 16 = d.0 ∙ sym (one-digit v.lo v.hi s e) in
    In-cut_to k (between (with_digits_swapped v.lo) (with_digits_swapped v.hi)) (with_digits_swapped x) (In-between_swapped v x e m)
    ((low_shift.swapped_sound (v.lo / 16) (low_of v) k refl).gives x (byte v x s m) digit (Has-low_of v x m))

IsVal-swapped : (v : Val) → v.lo / 16 ≡ v.hi / 16 → IsVal v → IsVal (swapped v)
unfolding swapped
IsVal-swapped v e is =
    let order : v.lo ≤ v.hi = is.order in
    let byte : v.hi < 256 = is.hi in
    let d = between-digits v.lo v.hi v.hi e is.order (same v.hi) in
    let q : v.lo % 16 ≤ v.hi % 16 = d.1 in
    IsVal-cut_to (LowShifts.swapped (v.lo / 16) (low_of v)) (between (with_digits_swapped v.lo) (with_digits_swapped v.hi))
    (record { order = omega arith; hi = omega arith; strided = refl })
  where
    same : (n : ℕ) → n ≤ n
    same n = omega arith

swaps : (x : ℕ) (c : Bool) → machine.shifted_value shift.Swap x c ≡ with_digits_swapped x
unfolding machine.shifted_value
swaps x c = omega arith

Gives-swap :
    (v : Val) (o : AbsComputed) (x : ℕ) (c : Bool)
    → v.hi < 256 → In v x → Gives o (machine.shifted shift.Swap x c) → Gives (swap v o) (machine.shifted shift.Swap x c)
unfolding swap machine.shifted
Gives-swap v o x c s m g = choose (v.lo / 16 == v.hi / 16) refl
  where
    choose : (b : Bool) → (v.lo / 16 == v.hi / 16) ≡ b → Gives (cond b (Alu.with_val (swapped v) o) o) (machine.shifted shift.Swap x c)
    choose true e =
        let digits : v.lo / 16 ≡ v.hi / 16 = eqb-true (v.lo / 16) (v.hi / 16) e in
        record { value = subst (λ n. In (swapped v) n) (sym (swaps x c)) (In-swapped v x s digits m); flags = g.flags }
    choose false e = g

IsOutcome-swap : (v : Val) (o : AbsComputed) → IsVal v → IsOutcome o → IsOutcome (swap v o)
unfolding swap
IsOutcome-swap v o is out = choose (v.lo / 16 == v.hi / 16) refl
  where
    choose : (b : Bool) → (v.lo / 16 == v.hi / 16) ≡ b → IsOutcome (cond b (Alu.with_val (swapped v) o) o)
    choose true e = record { val = IsVal-swapped v (eqb-true (v.lo / 16) (v.hi / 16) e) is; flags = out.flags }
    choose false e = out

pub swap_inhabited : (v : Val) (plain o : AbsComputed) → o ≡ swap v plain → IsVal v → IsOutcome plain → IsOutcome o
swap_inhabited v plain o e is out = subst (λ r. IsOutcome r) (sym e) (IsOutcome-swap v plain is out)

swapped-origin : (v : Val) → (swapped v).origin ≡ None
unfolding swapped
swapped-origin v =
    cut_to-origin (LowShifts.swapped (v.lo / 16) (low_of v)) (between (with_digits_swapped v.lo) (with_digits_swapped v.hi))

IsComputed-swap : (v : Val) (o : AbsComputed) → IsComputed o → IsComputed (swap v o)
unfolding swap
IsComputed-swap v o is = choose (v.lo / 16 == v.hi / 16)
  where
    choose : (b : Bool) → IsComputed (cond b (Alu.with_val (swapped v) o) o)
    choose true = record { origin = swapped-origin v; own = is.own }
    choose false = is

MayHave-shift :
    (how : Shift) (v : Val) (x : ℕ) (c : Bool)
    → v.hi < 256 → In v x → MayHave (shift_low_bits how (low_of v)) (machine.shifted how x c).value
unfolding machine.shifted machine.shifted_value
MayHave-shift shift.Sla v x c s m = (low_shift.doubled_sound (low_of v) _ refl).gives x (byte v x s m) (Has-low_of v x m)
MayHave-shift shift.Srl v x c s m = (low_shift.halved_sound (low_of v) _ refl).gives x (byte v x s m) (Has-low_of v x m)
MayHave-shift shift.Rlc v x c s m = tt
MayHave-shift shift.Rrc v x c s m = tt
MayHave-shift shift.Rl v x c s m = tt
MayHave-shift shift.Rr v x c s m = tt
MayHave-shift shift.Sra v x c s m = tt
MayHave-shift shift.Swap v x c s m = tt

-- a shift by its kind: SWAP, and the others
each_shift : (P : Shift → Type 0) → P shift.Swap → P shift.Rlc → P shift.Rrc → P shift.Rl → P shift.Rr → P shift.Sla → P shift.Sra → P shift.Srl → (how : Shift) → P how
each_shift P swap rlc rrc rl rr sla sra srl shift.Swap = swap
each_shift P swap rlc rrc rl rr sla sra srl shift.Rlc = rlc
each_shift P swap rlc rrc rl rr sla sra srl shift.Rrc = rrc
each_shift P swap rlc rrc rl rr sla sra srl shift.Rl = rl
each_shift P swap rlc rrc rl rr sla sra srl shift.Rr = rr
each_shift P swap rlc rrc rl rr sla sra srl shift.Sla = sla
each_shift P swap rlc rrc rl rr sla sra srl shift.Sra = sra
each_shift P swap rlc rrc rl rr sla sra srl shift.Srl = srl

abbrev cut_shift : Shift → Val → Flg → AbsComputed
cut_shift how v f = cutting (shift_low_bits how (low_of v)) (Shifts.shift_of how v f)

-- what holds of both is true of each
by_kind :
    (P : Shift → AbsComputed → Type 0) (v : Val) (f : Flg)
    → P shift.Swap (swap v (Shifts.shift_of shift.Swap v f)) → ((how : Shift) → P how (cut_shift how v f)) → (how : Shift) → P how (shift_of how v f)
unfolding shift_of
by_kind P v f swapping others =
    each_shift (λ how. P how (shift_of how v f)) swapping (others shift.Rlc) (others shift.Rrc) (others shift.Rl) (others shift.Rr)
    (others shift.Sla) (others shift.Sra) (others shift.Srl)

shift-sound : (how : Shift) (v : Val) (f : Flg) → v.hi < 256 → IsSound (Shifts.shift_result how) v f (shift_of how v f)
shift-sound how v f s =
    by_kind (λ h o. IsSound (Shifts.shift_result h) v f o) v f
    (let plain = Shifts.shift_of shift.Swap v f in
    let sound = plain_shift.shift_sound shift.Swap v f plain refl s in
    record { gives = λ x g m h. Gives-swap v plain x g.carry s m (sound.gives x g m h) })
    (λ h.
    IsSound-cutting (Shifts.shift_result h) v f (shift_low_bits h (low_of v)) (Shifts.shift_of h v f) (plain_shift.shift_sound h v f (Shifts.shift_of h v f) refl s)
    (λ x g m i. MayHave-shift h v x g.carry s m))
    how

pub shift_sound : (how : Shift) (v : Val) (f : Flg) (o : AbsComputed) → o ≡ shift_of how v f → v.hi < 256 → IsSound (Shifts.shift_result how) v f o
shift_sound how v f o e s = subst (λ r. IsSound (Shifts.shift_result how) v f r) (sym e) (shift-sound how v f s)

pub shift_inhabited : (how : Shift) (v : Val) (f : Flg) (o : AbsComputed) → o ≡ shift_of how v f → IsVal v → IsFlg f → IsOutcome o
shift_inhabited how v f o e val flags =
    subst (λ r. IsOutcome r) (sym e)
    (by_kind (λ h r. IsOutcome r) v f
    (IsOutcome-swap v (Shifts.shift_of shift.Swap v f) val (plain_shift.shift_inhabited shift.Swap v f (Shifts.shift_of shift.Swap v f) refl val flags))
    (λ h. IsOutcome-cutting (shift_low_bits h (low_of v)) (Shifts.shift_of h v f) (plain_shift.shift_inhabited h v f (Shifts.shift_of h v f) refl val flags))
    how)

pub shift_computed : (how : Shift) (v : Val) (f : Flg) (o : AbsComputed) → o ≡ shift_of how v f → IsComputed o
shift_computed how v f o e =
    subst (λ r. IsComputed r) (sym e)
    (by_kind (λ h r. IsComputed r) v f
    (IsComputed-swap v (Shifts.shift_of shift.Swap v f) (plain_origin.shift_computed shift.Swap v f (Shifts.shift_of shift.Swap v f) refl))
    (λ h. IsComputed-cutting (shift_low_bits h (low_of v)) (Shifts.shift_of h v f) (plain_origin.shift_computed h v f (Shifts.shift_of h v f) refl))
    how)
