-- Words whose bytes are intervals, and the pairs of the machine.
use Rattle.std.proofs.Common.{◌≡◌, ℕ, ◌+◌, ◌-◌, ◌*◌, ◌/◌, ◌%◌, ◌≤◌, ◌<◌, Bool, true, false, cond, nat_lt, List, length, slice_index_or, Option, Some, None, refl, sym, ◌∙◌, ap, subst, arith}
use Rattle.std.proofs.lemmas.Bool.{and_parts}
use Rattle.std.proofs.lemmas.Bool.Decides.{nat_tests}
use Rattle.gb_ops.specs.declared.op.Register.{Register}
use Rattle.gb_ops.specs.declared.op.Register.TheVariants.{A, B, C, D, E, H, L}
use Rattle.gb_ops.specs.declared.op.Pair.{Pair}
use Rattle.gb_ops.specs.declared.op.Pair.TheVariants as pair
use Rattle.gb_ops.specs.declared.op.StackPair.{StackPair}
use Rattle.gb_ops.specs.declared.op.StackPair.TheVariants as stack
use Rattle.gb_ops.specs.declared.registers.Flags.{Flags}
use Rattle.gb_ops.specs.Registers.{get}
use Rattle.gb_ops.specs.Flags.{bit_of, flags_byte, flags_of}
use Rattle.gb_ops.specs.Arithmetic as arithmetic
use Rattle.gb_ops.specs.Pairs as machine
use Rattle.gb_ops.specs.Pairs.{word}
use Rattle.gb_ops.specs.Play.{MState}
use Rattle.gb_domain.specs.declared.types.Origin.{Origin}
use Rattle.gb_domain.specs.declared.types.Origin.TheVariants as origin
use Rattle.gb_domain.specs.declared.types.Val.{Val}
use Rattle.gb_domain.specs.declared.types.Flg.{Flg}
use Rattle.gb_domain.specs.declared.types.Core.{Core}
use Rattle.gb_domain.specs.Rules.{IsCore}
use Rattle.gb_domain.specs.Types.{AbsState}
use Rattle.gb_abs.specs.Below.gb_vals.Vals.{between, any_val, is_single}
use Rattle.gb_abs.specs.Below.gb_vals.Flags.{any_flags, with_own, known_flags, own_origin, is_own_origin, flags_val, flags_of_val}
use Rattle.gb_abs.specs.Below.gb_vals.Meaning.{In, FlagsIn}
use Rattle.gb_abs.proofs.Below.gb_vals_laws.MeaningLaws.{single-is, In-single, In-any, known-may_be, either-may_be, FlagsIn-known, bit-weight}
use Rattle.gb_abs.proofs.Below.gb_vals_laws.FlagLaws.{flags_val_sound, flags_of_val_sound}
use Rattle.gb_abs.specs.Stack.{youngest, last_word}
use Rattle.gb_abs.proofs.StackLaws.{youngest_is}
use Rattle.gb_abs.specs.Meaning.{Activation, Holds, HoldsFlags, MeansCore, origin_value}
use Rattle.gb_abs.specs.Operations.{core_set_register}
use Rattle.gb_abs.proofs.OperationLaws.{MeansCore-set_register, register_set}
use Rattle.gb_domain.specs.declared.types.Halves.{Halves}
use Rattle.gb_abs_effects.specs.Pairs.{known_word, any_word, word_or_any, is_word_known, least_word, raised, lowered, next_word, previous_word, are_words_known, word_sum, word_sum_flags, sum_flags_any, sum_flags_known, displaced_word, displaced_flags_any, displaced_flags, pair_halves, pair_or_sp, with_pair, stack_pair_halves, with_stack_pair}
use Rattle.gb_abs_effects.proofs.CoreLaws.{In-from, FlagsIn-from, Holds-computed, byte-of, some-is, MeansCore-at, MeansCore-a}

-- the bytes of a word are what the intervals stand for
pub record HoldsWord (w : Halves) (entry : Activation) (n : ℕ) : Type 0 where
  pub high : Holds w.high entry (n / 256)
  pub low : Holds w.low entry (n % 256)

-- intervals without an origin
record IsFresh (w : Halves) : Type 0 where
  high : w.high.origin ≡ None
  low : w.low.origin ≡ None

HoldsWord-fresh : (w : Halves) (entry : Activation) (n : ℕ) → In w.high (n / 256) → In w.low (n % 256) → IsFresh w → HoldsWord w entry n
HoldsWord-fresh w entry n h l f =
    record { high = Holds-computed w.high entry (n / 256) h f.high; low = Holds-computed w.low entry (n % 256) l f.low }

pub HoldsWord-known : (entry : Activation) (n : ℕ) → HoldsWord (known_word n) entry n
HoldsWord-known entry n = HoldsWord-fresh (known_word n) entry n (In-single (n / 256)) (In-single (n % 256)) (record { high = refl; low = refl })

pub HoldsWord-any : (entry : Activation) (n : ℕ) → n < 65536 → HoldsWord any_word entry n
HoldsWord-any entry n h =
    HoldsWord-fresh any_word entry n (In-any (n / 256) (omega arith)) (In-any (n % 256) (omega arith)) (record { high = refl; low = refl })

-- a known word is its least
least_word-is : (w : Halves) (entry : Activation) (n : ℕ) → is_word_known w ≡ true → HoldsWord w entry n → least_word w ≡ n
least_word-is w entry n k h =
    let both = and_parts (is_single w.high) (is_single w.low) k in
    let p : n / 256 ≡ w.high.lo = single-is w.high (n / 256) both.0 (In-from w.high entry (n / 256) h.high) in
    let q : n % 256 ≡ w.low.lo = single-is w.low (n % 256) both.1 (In-from w.low entry (n % 256) h.low) in
    omega arith

-- ---- INC and DEC

In-raised : (v : Val) (n : ℕ) → n < 65536 → In v (n / 256) → In (raised v) ((n + 1) % 65536 / 256)
In-raised v n small m = choose (nat_lt v.hi 255) refl
  where
    choose : (b : Bool) → nat_lt v.hi 255 ≡ b → In (cond b (between v.lo (v.hi + 1)) any_val) ((n + 1) % 65536 / 256)
    choose true e =
        let below : v.hi < 255 = grind (arith, nat_tests) in
        let p : v.lo ≤ n / 256 = m.least in
        let q : n / 256 ≤ v.hi = m.most in
        record { least = omega arith; most = omega arith; low = refl }
    choose false e = In-any ((n + 1) % 65536 / 256) (omega arith)

In-lowered : (v : Val) (n : ℕ) → n < 65536 → In v (n / 256) → In (lowered v) ((n + 65535) % 65536 / 256)
In-lowered v n small m = choose (nat_lt 0 v.lo) refl
  where
    choose : (b : Bool) → nat_lt 0 v.lo ≡ b → In (cond b (between (v.lo - 1) v.hi) any_val) ((n + 65535) % 65536 / 256)
    choose true e =
        let above : 0 < v.lo = grind (arith, nat_tests) in
        let p : v.lo ≤ n / 256 = m.least in
        let q : n / 256 ≤ v.hi = m.most in
        record { least = omega arith; most = omega arith; low = refl }
    choose false e = In-any ((n + 65535) % 65536 / 256) (omega arith)

-- the word where the low byte moves alone
abbrev pub moved_up : Halves → Halves
moved_up w = record { high = between w.high.lo w.high.hi; low = between ((w.low.lo + 1) % 256) (w.low.hi + 1) }

abbrev pub moved_down : Halves → Halves
moved_down w = record { high = between w.high.lo w.high.hi; low = between (w.low.lo - 1) (w.low.hi - 1) }

-- a word whose low byte may wrap
abbrev pub carried : Halves → Halves
carried w = record { high = raised w.high; low = any_val }

abbrev pub borrowed : Halves → Halves
borrowed w = record { high = lowered w.high; low = any_val }

HoldsWord-moved_up : (w : Halves) (entry : Activation) (n : ℕ) → n < 65536 → w.low.hi < 255 → HoldsWord w entry n → HoldsWord (moved_up w) entry ((n + 1) % 65536)
HoldsWord-moved_up w entry n small below h =
    let p : w.high.lo ≤ n / 256 = h.high.least in
    let q : n / 256 ≤ w.high.hi = h.high.most in
    let r : w.low.lo ≤ n % 256 = h.low.least in
    let s : n % 256 ≤ w.low.hi = h.low.most in
    let same : (n + 1) % 65536 / 256 ≡ n / 256 = omega arith in
    let next : (n + 1) % 65536 % 256 ≡ n % 256 + 1 = omega arith in
    HoldsWord-fresh (moved_up w) entry ((n + 1) % 65536) (record { least = omega arith; most = omega arith; low = refl }) (record { least = omega arith; most = omega arith; low = refl }) (record { high = refl; low = refl })

HoldsWord-moved_down : (w : Halves) (entry : Activation) (n : ℕ) → n < 65536 → 0 < w.low.lo → HoldsWord w entry n → HoldsWord (moved_down w) entry ((n + 65535) % 65536)
HoldsWord-moved_down w entry n small above h =
    let p : w.high.lo ≤ n / 256 = h.high.least in
    let q : n / 256 ≤ w.high.hi = h.high.most in
    let r : w.low.lo ≤ n % 256 = h.low.least in
    let s : n % 256 ≤ w.low.hi = h.low.most in
    let same : (n + 65535) % 65536 / 256 ≡ n / 256 = omega arith in
    let less : (n + 65535) % 65536 % 256 ≡ n % 256 - 1 = omega arith in
    HoldsWord-fresh (moved_down w) entry ((n + 65535) % 65536) (record { least = omega arith; most = omega arith; low = refl }) (record { least = omega arith; most = omega arith; low = refl }) (record { high = refl; low = refl })

raised-fresh : (v : Val) → (raised v).origin ≡ None
raised-fresh v = choose (nat_lt v.hi 255)
  where
    choose : (b : Bool) → (cond b (between v.lo (v.hi + 1)) any_val).origin ≡ None
    choose true = refl
    choose false = refl

lowered-fresh : (v : Val) → (lowered v).origin ≡ None
lowered-fresh v = choose (nat_lt 0 v.lo)
  where
    choose : (b : Bool) → (cond b (between (v.lo - 1) v.hi) any_val).origin ≡ None
    choose true = refl
    choose false = refl

pub HoldsWord-next : (w : Halves) (entry : Activation) (n : ℕ) → n < 65536 → HoldsWord w entry n → HoldsWord (next_word w) entry ((n + 1) % 65536)
unfolding next_word
HoldsWord-next w entry n small h = choose (is_word_known w) (nat_lt w.low.hi 255) refl refl
  where
    choose :
        (b c : Bool) → is_word_known w ≡ b → nat_lt w.low.hi 255 ≡ c
        → HoldsWord (cond b (known_word ((least_word w + 1) % 65536)) (cond c (moved_up w) (carried w))) entry ((n + 1) % 65536)
    choose true c e f = subst (λ k. HoldsWord (known_word ((k + 1) % 65536)) entry ((n + 1) % 65536)) (sym (least_word-is w entry n e h)) (HoldsWord-known entry ((n + 1) % 65536))
    choose false true e f = HoldsWord-moved_up w entry n small (grind (arith, nat_tests)) h
    choose false false e f =
        HoldsWord-fresh (carried w) entry ((n + 1) % 65536) (In-raised w.high n small (In-from w.high entry (n / 256) h.high)) (In-any ((n + 1) % 65536 % 256) (omega arith)) (record { high = raised-fresh w.high; low = refl })

pub HoldsWord-previous : (w : Halves) (entry : Activation) (n : ℕ) → n < 65536 → HoldsWord w entry n → HoldsWord (previous_word w) entry ((n + 65535) % 65536)
unfolding previous_word
HoldsWord-previous w entry n small h = choose (is_word_known w) (nat_lt 0 w.low.lo) refl refl
  where
    choose :
        (b c : Bool) → is_word_known w ≡ b → nat_lt 0 w.low.lo ≡ c
        → HoldsWord (cond b (known_word ((least_word w + 65535) % 65536)) (cond c (moved_down w) (borrowed w))) entry ((n + 65535) % 65536)
    choose true c e f = subst (λ k. HoldsWord (known_word ((k + 65535) % 65536)) entry ((n + 65535) % 65536)) (sym (least_word-is w entry n e h)) (HoldsWord-known entry ((n + 65535) % 65536))
    choose false true e f = HoldsWord-moved_down w entry n small (grind (arith, nat_tests)) h
    choose false false e f =
        HoldsWord-fresh (borrowed w) entry ((n + 65535) % 65536) (In-lowered w.high n small (In-from w.high entry (n / 256) h.high)) (In-any ((n + 65535) % 65536 % 256) (omega arith)) (record { high = lowered-fresh w.high; low = refl })

-- ---- a word and a displacement

displaced-small : (from e8 : ℕ) → arithmetic.displaced from e8 < 65536
unfolding arithmetic.displaced
displaced-small from e8 = omega arith

pub HoldsWord-displaced : (w : Halves) (entry : Activation) (n e8 : ℕ) → HoldsWord w entry n → HoldsWord (displaced_word w e8) entry (arithmetic.displaced n e8)
unfolding displaced_word
HoldsWord-displaced w entry n e8 h = choose (is_word_known w) refl
  where
    choose :
        (b : Bool) → is_word_known w ≡ b
        → HoldsWord (cond b (known_word (arithmetic.displaced (least_word w) e8)) any_word) entry (arithmetic.displaced n e8)
    choose true e =
        subst (λ k. HoldsWord (known_word (arithmetic.displaced k e8)) entry (arithmetic.displaced n e8)) (sym (least_word-is w entry n e h)) (HoldsWord-known entry (arithmetic.displaced n e8))
    choose false e = HoldsWord-any entry (arithmetic.displaced n e8) (displaced-small n e8)

FlagsIn-displaced_any : (n e8 : ℕ) → FlagsIn displaced_flags_any (arithmetic.sp_sum_flags n e8)
unfolding arithmetic.sp_sum_flags
FlagsIn-displaced_any n e8 = record { zero = refl; subtract = refl; half_carry = either-may_be _; carry = either-may_be _ }

pub FlagsIn-displaced : (w : Halves) (entry : Activation) (n e8 : ℕ) → HoldsWord w entry n → FlagsIn (displaced_flags w e8) (arithmetic.sp_sum_flags n e8)
unfolding displaced_flags
FlagsIn-displaced w entry n e8 h = choose (is_word_known w) refl
  where
    choose :
        (b : Bool) → is_word_known w ≡ b
        → FlagsIn (cond b (known_flags (arithmetic.sp_sum_flags (least_word w) e8)) displaced_flags_any) (arithmetic.sp_sum_flags n e8)
    choose true e =
        subst (λ k. FlagsIn (known_flags (arithmetic.sp_sum_flags k e8)) (arithmetic.sp_sum_flags n e8)) (sym (least_word-is w entry n e h)) (FlagsIn-known (arithmetic.sp_sum_flags n e8))
    choose false e = FlagsIn-displaced_any n e8

pub displaced_flags-written : (w : Halves) (e8 : ℕ) → (displaced_flags w e8).is_own ≡ false
unfolding displaced_flags
displaced_flags-written w e8 = choose (is_word_known w)
  where
    choose : (b : Bool) → (cond b (known_flags (arithmetic.sp_sum_flags (least_word w) e8)) displaced_flags_any).is_own ≡ false
    choose true = refl
    choose false = refl

-- ---- ADD HL

pub HoldsWord-sum :
    (v w : Halves) (entry : Activation) (m n : ℕ)
    → HoldsWord v entry m → HoldsWord w entry n → HoldsWord (word_sum v w) entry ((m + n) % 65536)
unfolding word_sum
HoldsWord-sum v w entry m n h k = choose (are_words_known v w) refl
  where
    choose :
        (b : Bool) → are_words_known v w ≡ b
        → HoldsWord (cond b (known_word ((least_word v + least_word w) % 65536)) any_word) entry ((m + n) % 65536)
    choose true e =
        let both = and_parts (is_word_known v) (is_word_known w) e in
        let p : least_word v ≡ m = least_word-is v entry m both.0 h in
        let q : least_word w ≡ n = least_word-is w entry n both.1 k in
        subst (λ j. HoldsWord (known_word ((least_word v + j) % 65536)) entry ((m + n) % 65536)) (sym q)
        (subst (λ j. HoldsWord (known_word ((j + n) % 65536)) entry ((m + n) % 65536)) (sym p) (HoldsWord-known entry ((m + n) % 65536)))
    choose false e = HoldsWord-any entry ((m + n) % 65536) (omega arith)

FlagsIn-sum_flags_known : (f : Flg) (g : Flags) (m n : ℕ) → FlagsIn f g → FlagsIn (sum_flags_known m n f) (arithmetic.word_sum_flags m n g)
unfolding arithmetic.word_sum_flags
FlagsIn-sum_flags_known f g m n h =
    record { zero = h.zero; subtract = refl; half_carry = known-may_be (nat_lt 4095 (m % 4096 + n % 4096)); carry = known-may_be (nat_lt 65535 (m + n)) }

pub FlagsIn-word_sum_flags :
    (v w : Halves) (entry : Activation) (m n : ℕ) (f : Flg) (g : Flags)
    → HoldsWord v entry m → HoldsWord w entry n → FlagsIn f g
    → FlagsIn (word_sum_flags v w f) (arithmetic.word_sum_flags m n g)
unfolding word_sum_flags arithmetic.word_sum_flags
FlagsIn-word_sum_flags v w entry m n f g h k flags = choose (are_words_known v w) refl
  where
    choose :
        (b : Bool) → are_words_known v w ≡ b
        → FlagsIn (cond b (sum_flags_known (least_word v) (least_word w) f) (sum_flags_any f)) (arithmetic.word_sum_flags m n g)
    choose true e =
        let both = and_parts (is_word_known v) (is_word_known w) e in
        let p : least_word v ≡ m = least_word-is v entry m both.0 h in
        let q : least_word w ≡ n = least_word-is w entry n both.1 k in
        subst (λ j. FlagsIn (sum_flags_known (least_word v) j f) (arithmetic.word_sum_flags m n g)) (sym q)
        (subst (λ j. FlagsIn (sum_flags_known j n f) (arithmetic.word_sum_flags m n g)) (sym p) (FlagsIn-sum_flags_known f g m n flags))
    choose false e =
        record { zero = flags.zero; subtract = refl; half_carry = either-may_be _; carry = either-may_be _ }

pub word_sum_flags-written : (v w : Halves) (f : Flg) → (word_sum_flags v w f).is_own ≡ false
unfolding word_sum_flags
word_sum_flags-written v w f = choose (are_words_known v w)
  where
    choose : (b : Bool) → (cond b (sum_flags_known (least_word v) (least_word w) f) (sum_flags_any f)).is_own ≡ false
    choose true = refl
    choose false = refl

-- ---- the pairs of a core

HoldsWord-of : (high low : Val) (entry : Activation) (a b : ℕ) → Holds high entry a → Holds low entry b → b < 256 → HoldsWord (record { high = high; low = low }) entry (word a b)
HoldsWord-of high low entry a b h l byte =
    let p : (256 * a + b) / 256 ≡ a = omega arith in
    let q : (256 * a + b) % 256 ≡ b = omega arith in
    record { high = subst (λ k. Holds high entry k) (sym p) h; low = subst (λ k. Holds low entry k) (sym q) l }

byte : (s : Core) (entry : Activation) (x : MState) (r : Register) → IsCore s → MeansCore s entry x → get r x.processor.registers < 256
byte s entry x r is m =
    let p : get r x.processor.registers ≤ 255 = byte-of (get r s.registers) entry (get r x.processor.registers) (is.registers r) (m.registers r) in
    omega arith

pub HoldsWord-pair :
    (which : Pair) (s : Core) (entry : Activation) (x : MState)
    → x.processor.sp < 65536 → IsCore s → MeansCore s entry x
    → HoldsWord (pair_halves which s) entry (machine.pair_value x.processor which)
unfolding pair_halves machine.pair_value
HoldsWord-pair pair.Bc s entry x sp is m = HoldsWord-of s.registers.b s.registers.c entry _ _ (m.registers B) (m.registers C) (byte s entry x C is m)
HoldsWord-pair pair.De s entry x sp is m = HoldsWord-of s.registers.d s.registers.e entry _ _ (m.registers D) (m.registers E) (byte s entry x E is m)
HoldsWord-pair pair.Hl s entry x sp is m = HoldsWord-of s.registers.h s.registers.l entry _ _ (m.registers H) (m.registers L) (byte s entry x L is m)
HoldsWord-pair pair.Sp s entry x sp is m = HoldsWord-any entry x.processor.sp sp

pub HoldsWord-pair_or_sp :
    (which : Pair) (halves : Halves) (s : Core) (entry : Activation) (x : MState)
    → x.processor.sp < 65536 → HoldsWord halves entry x.processor.sp → IsCore s → MeansCore s entry x
    → HoldsWord (pair_or_sp which halves s) entry (machine.pair_value x.processor which)
unfolding pair_or_sp machine.pair_value
HoldsWord-pair_or_sp pair.Bc halves s entry x sp h is m = HoldsWord-pair pair.Bc s entry x sp is m
HoldsWord-pair_or_sp pair.De halves s entry x sp h is m = HoldsWord-pair pair.De s entry x sp is m
HoldsWord-pair_or_sp pair.Hl halves s entry x sp h is m = HoldsWord-pair pair.Hl s entry x sp is m
HoldsWord-pair_or_sp pair.Sp halves s entry x sp h is m = h

pub pair-small :
    (which : Pair) (s : Core) (entry : Activation) (x : MState)
    → x.processor.sp < 65536 → IsCore s → MeansCore s entry x → machine.pair_value x.processor which < 65536
unfolding machine.pair_value
pair-small pair.Bc s entry x sp is m = let p = byte s entry x B is m in let q = byte s entry x C is m in omega arith
pair-small pair.De s entry x sp is m = let p = byte s entry x D is m in let q = byte s entry x E is m in omega arith
pair-small pair.Hl s entry x sp is m = let p = byte s entry x H is m in let q = byte s entry x L is m in omega arith
pair-small pair.Sp s entry x sp is m = sp

-- two registers get a word
MeansCore-set_two :
    (q r : Register) (s : Core) (entry : Activation) (x : MState) (w : Halves) (n : ℕ)
    → HoldsWord w entry n → MeansCore s entry x
    → MeansCore (core_set_register r w.low (core_set_register q w.high s)) entry (register_set r (n % 256) (register_set q (n / 256) x))
MeansCore-set_two q r s entry x w n h m =
    MeansCore-set_register (core_set_register q w.high s) entry (register_set q (n / 256) x) r w.low (n % 256) h.low (MeansCore-set_register s entry x q w.high (n / 256) h.high m)

pub MeansCore-with_pair :
    (which : Pair) (s : Core) (entry : Activation) (x : MState) (w : Halves) (n : ℕ)
    → HoldsWord w entry n → MeansCore s entry x
    → MeansCore (with_pair which w s) entry (record x { processor = machine.with_pair x.processor which n })
unfolding with_pair machine.with_pair core_set_register
MeansCore-with_pair pair.Bc s entry x w n h m = MeansCore-set_two B C s entry x w n h m
MeansCore-with_pair pair.De s entry x w n h m = MeansCore-set_two D E s entry x w n h m
MeansCore-with_pair pair.Hl s entry x w n h m = MeansCore-set_two H L s entry x w n h m
MeansCore-with_pair pair.Sp s entry x w n h m = MeansCore-at s entry x n x.processor.pc m

-- ---- POP and PUSH

MeansCore-set_read :
    (q r : Register) (s : Core) (entry : Activation) (x : MState) (w : Halves) (l h : ℕ)
    → Holds w.low entry l → Holds w.high entry h → MeansCore s entry x
    → MeansCore (core_set_register r w.low (core_set_register q w.high s)) entry (register_set r l (register_set q h x))
MeansCore-set_read q r s entry x w l h low high m =
    MeansCore-set_register (core_set_register q w.high s) entry (register_set q h x) r w.low l low (MeansCore-set_register s entry x q w.high h high m)

-- F is what it was, where its byte is
flags-again : (f : Flags) → flags_of (flags_byte f) ≡ f
unfolding flags_of flags_byte bit_of
flags-again f = again f.zero f.subtract f.half_carry f.carry
  where
    again : (z n h c : Bool) → flags_of (flags_byte (record { zero = z; subtract = n; half_carry = h; carry = c })) ≡ record { zero = z; subtract = n; half_carry = h; carry = c }
    again true true true true = refl
    again true true true false = refl
    again true true false true = refl
    again true true false false = refl
    again true false true true = refl
    again true false true false = refl
    again true false false true = refl
    again true false false false = refl
    again false true true true = refl
    again false true true false = refl
    again false true false true = refl
    again false true false false = refl
    again false false true true = refl
    again false false true false = refl
    again false false false true = refl
    again false false false false = refl

own-origin : (o : Option Origin) → is_own_origin o ≡ true → o ≡ Some origin.F
own-origin None e = cc
own-origin (Some origin.A) e = cc
own-origin (Some origin.F) e = refl
own-origin (Some origin.B) e = cc
own-origin (Some origin.C) e = cc
own-origin (Some origin.D) e = cc
own-origin (Some origin.E) e = cc
own-origin (Some origin.H) e = cc
own-origin (Some origin.L) e = cc
own-origin (Some origin.Ie) e = cc
own-origin (Some origin.ReturnHigh) e = cc
own-origin (Some origin.ReturnLow) e = cc
own-origin (Some (origin.Kept i)) e = cc
own-origin (Some origin.MarkHigh) e = cc
own-origin (Some origin.MarkLow) e = cc

flags_of_val-own : (v : Val) → (flags_of_val v).is_own ≡ is_own_origin v.origin
unfolding flags_of_val
flags_of_val-own v = choose (is_single v)
  where
    choose : (b : Bool) → (cond b (with_own (is_own_origin v.origin) (known_flags (flags_of v.lo))) (any_flags (is_own_origin v.origin))).is_own ≡ is_own_origin v.origin
    choose true = refl
    choose false = refl

-- POP AF: the flags of a byte are F's own only where the byte was
HoldsFlags-popped : (v : Val) (entry : Activation) (l : ℕ) → Holds v entry l → HoldsFlags (flags_of_val v) entry (flags_of l)
HoldsFlags-popped v entry l h =
    let k : FlagsIn (flags_of_val v) (flags_of l) = flags_of_val_sound v (flags_of_val v) l refl (In-from v entry l h) in
    record {
      zero = k.zero;
      subtract = k.subtract;
      half_carry = k.half_carry;
      carry = k.carry;
      own = λ e. ap flags_of (h.origin origin.F (own-origin v.origin (sym (flags_of_val-own v) ∙ e))) ∙ flags-again entry.entered.processor.flags;
    }

pub MeansCore-with_stack_pair :
    (which : StackPair) (s : Core) (entry : Activation) (x : MState) (w : Halves) (l h : ℕ)
    → Holds w.low entry l → Holds w.high entry h → MeansCore s entry x
    → MeansCore (with_stack_pair which w s) entry (record x { processor = machine.with_stack_pair x.processor which l h })
unfolding with_stack_pair machine.with_stack_pair with_pair core_set_register
MeansCore-with_stack_pair stack.Bc s entry x w l h low high m = MeansCore-set_read B C s entry x w l h low high m
MeansCore-with_stack_pair stack.De s entry x w l h low high m = MeansCore-set_read D E s entry x w l h low high m
MeansCore-with_stack_pair stack.Hl s entry x w l h low high m = MeansCore-set_read H L s entry x w l h low high m
MeansCore-with_stack_pair stack.Af s entry x w l h low high m =
    MeansCore-a s entry x w.high (flags_of_val w.low) h (flags_of l) high (HoldsFlags-popped w.low entry l low) m

-- PUSH AF: F's byte is a copy of F where F is its own
pub Holds-pushed : (f : Flg) (entry : Activation) (g : Flags) → HoldsFlags f entry g → Holds (flags_val f) entry (flags_byte g)
unfolding flags_val
Holds-pushed f entry g h =
    let k : In (flags_val f) (flags_byte g) = flags_val_sound f (flags_val f) g refl (FlagsIn-from f entry g h) in
    record { least = k.least; most = k.most; low = k.low; origin = λ o e. origins f.is_own o refl e }
  where
    origins : (b : Bool) (o : Origin) → f.is_own ≡ b → own_origin b ≡ Some o → flags_byte g ≡ origin_value o entry
    origins true o own e = subst (λ k. flags_byte g ≡ origin_value k entry) (some-is origin.F o e) (ap flags_byte (h.own own))
    origins false o own e = cc

flags-small : (g : Flags) → flags_byte g < 256
unfolding flags_byte
flags-small g =
    let z : bit_of g.zero 128 ≤ 128 = bit-weight g.zero 128 in
    let n : bit_of g.subtract 64 ≤ 64 = bit-weight g.subtract 64 in
    let d : bit_of g.half_carry 32 ≤ 32 = bit-weight g.half_carry 32 in
    let c : bit_of g.carry 16 ≤ 16 = bit-weight g.carry 16 in
    omega arith

pub HoldsWord-stack_pair :
    (which : StackPair) (s : Core) (entry : Activation) (x : MState)
    → IsCore s → MeansCore s entry x
    → HoldsWord (stack_pair_halves which s) entry (machine.stack_pair_value x.processor which)
unfolding stack_pair_halves machine.stack_pair_value
HoldsWord-stack_pair stack.Bc s entry x is m = HoldsWord-of s.registers.b s.registers.c entry _ _ (m.registers B) (m.registers C) (byte s entry x C is m)
HoldsWord-stack_pair stack.De s entry x is m = HoldsWord-of s.registers.d s.registers.e entry _ _ (m.registers D) (m.registers E) (byte s entry x E is m)
HoldsWord-stack_pair stack.Hl s entry x is m = HoldsWord-of s.registers.h s.registers.l entry _ _ (m.registers H) (m.registers L) (byte s entry x L is m)
HoldsWord-stack_pair stack.Af s entry x is m =
    HoldsWord-of s.registers.a (flags_val s.flags) entry x.processor.registers.a (flags_byte x.processor.flags) (m.registers A) (Holds-pushed s.flags entry x.processor.flags m.flags) (flags-small x.processor.flags)

-- ---- what is known of the word that was pushed last

pub top_word_is :
    (s : AbsState) (items : List Val) (d : Val) → items ≡ s.items → 2 ≤ length items
    → record { high = slice_index_or items (length items - 2) d; low = slice_index_or items (length items - 1) d } ≡ word_or_any (youngest s)
top_word_is s items d same some = sym (ap word_or_any (youngest_is s items d same some))

pub no_word_is : (s : AbsState) (items : List Val) → items ≡ s.items → (2 ≤ length items → ⊥) → any_word ≡ word_or_any (youngest s)
unfolding youngest
no_word_is s items same few = sym (ap (λ xs. word_or_any (last_word xs)) (sym same) ∙ none)
  where
    short : nat_lt (length items) 2 ≡ true
    short = grind (arith, nat_tests)

    none : word_or_any (last_word items) ≡ any_word
    none = rw short refl
