-- The fields of a state: what is read is spelled so, and what is spelled so is read.
use Rattle.std.proofs.Common.{◌≡◌, ℕ, zero, suc, ◌+◌, ◌*◌, ◌/◌, ◌%◌, ◌<◌, ◌≤◌, Bool, true, false, ◌&&◌, ◌||◌, not, ◌==◌, nat_le, List, [], ◌∷◌, ◌++◌, ◌⊎◌, inl, inr, Option, Some, None, refl, sym, ap, arith}
use Rattle.std.specs.Prelude.{IfSome}
use Rattle.std.proofs.lemmas.Bool.Decides.{nat_tests}
use Rattle.gb_ops.specs.declared.op.Register.{Register}
use Rattle.gb_ops.specs.declared.op.Register.TheVariants.{A, B, C, D, E, H, L}
use Rattle.gb_ops.specs.declared.registers.Registers.{Registers}
use Rattle.gb_ops.specs.Registers.{get}
use Rattle.gb_fields.specs.declared.fault.CertFault.TheVariants as fault
use Rattle.gb_domain.specs.declared.types.Origin.{Origin}
use Rattle.gb_domain.specs.declared.types.Origin.TheVariants as origin
use Rattle.gb_domain.specs.declared.types.Val.{Val}
use Rattle.gb_domain.specs.declared.types.May.{May}
use Rattle.gb_domain.specs.declared.types.Flg.{Flg}
use Rattle.gb_domain.specs.declared.types.ImeSet.{ImeSet}
use Rattle.gb_domain.specs.declared.types.Ctl.{Ctl}
use Rattle.gb_domain.specs.declared.types.KeptBanks.{KeptBanks}
use Rattle.gb_domain.specs.Types.{all_or_none, are_all_kept}
use Rattle.gb_states.specs.declared.role.Role.{Role}
use Rattle.gb_fields.specs.Format.{Read, both, mapped, checked, byte}
use Rattle.gb_domain.specs.declared.rules.Rules.{Rules}
use Rattle.gb_domain.specs.declared.rules.Rules.TheVariants.{Simple, Extended}
use Rattle.gb_domain.specs.Areas.{is_area}
use Rattle.gb_domain.specs.Rules.{has_value, IsVal, IsFlg, IsCtl, may_be_any, IsCore}
use Rattle.gb_fields.specs.Limits.{origin_limit}
use Rattle.gb_states.specs.Rules.{is_return_origin, is_declared_origin, may_be_of, is_sayable, are_sayable, is_all_or_none, is_core_sayable}
use Rattle.gb_fields.specs.Reading.{is_between, is_ordered, word_of, word, quad_of, quad, node_number_by, node_number, byte_between, word_between, count_within, is_one, yes_no}
use Rattle.gb_states.specs.Reading.{origin_of, origin_at, to_val, val_at, to_may, may_at, to_ime, ime_at, is_test, to_test, test_at, to_flags, have_values, is_own_number, is_two, to_flg, flg_at, to_ctl_by, ctl_by, ctl_at, to_vals, vals_at, Tested, to_core, is_stack_right, core_at}
use Rattle.gb_states.specs.Spelling as spelled
use Rattle.gb_states.proofs.Formats.{IsFormat, IsFormat-byte, IsFormat-both, IsFormat-checked, IsFormat-mapped, IsFormat-onto, IsFormat-as, IsFormat-spelled}

-- ---- tests

pub le_is : (a b : ℕ) → nat_le a b ≡ true → a ≤ b
le_is a b h = grind (arith, nat_tests)

pub is_le : (a b : ℕ) → a ≤ b → nat_le a b ≡ true
is_le a b h = grind (arith, nat_tests)

pub and_both : (a b : Bool) → (a && b) ≡ true → (a ≡ true) × (b ≡ true)
and_both true b h = (refl, h)
and_both false b h = cc

pub both_and : (a b : Bool) → a ≡ true → b ≡ true → (a && b) ≡ true
both_and a b g h = rw (g, h) refl

pub within : (limit n : ℕ) → is_between 0 limit n ≡ true → n ≤ limit
within limit n h = grind (arith, nat_tests)

pub is_within : (limit n : ℕ) → n ≤ limit → is_between 0 limit n ≡ true
is_within limit n h = grind (arith, nat_tests)

-- a test of all numbers below one
unfoldable pub all_below : ℕ → (ℕ → Bool) → Bool
all_below zero p = true
all_below (suc n) p = p n && all_below n p

pub below : (n : ℕ) (p : ℕ → Bool) → all_below n p ≡ true → (b : ℕ) → b < n → p b ≡ true
unfolding all_below
below zero p h b l = absurd (omega arith)
below (suc n) p h b l =
    let q = and_both (p n) (all_below n p) h in
    elim (below-cases b n l) [ inl e ↦ rw e q.0 | inr m ↦ below n p q.1 b m ]
  where
    below-cases : (b n : ℕ) → b < suc n → (b ≡ n) ⊎ (b < n)
    below-cases b n l = grind arith

pub same : (a b : ℕ) → (a == b) ≡ true → a ≡ b
same a b h = grind (arith, nat_tests)

pub is_same : (a b : ℕ) → a ≡ b → (a == b) ≡ true
is_same a b h = grind (arith, nat_tests)

-- an area's addresses are words
pub area_small : (first last : ℕ) → is_area first last ≡ true → (first < 65536) × (last < 65536)
area_small first last h = (low, high)
  where
    low : first < 65536
    low = grind (arith, nat_tests)

    high : last < 65536
    high = grind (arith, nat_tests)

pub last_small : (first last : ℕ) → is_area first last ≡ true → last < 65535
last_small first last h = grind (arith, nat_tests)

-- ---- numbers

split_word : ℕ → ℕ × ℕ
split_word w = (w % 256, w / 256)

split-word : (p : ℕ × ℕ) → (p.0 < 256) × (p.1 < 256) → split_word (word_of p) ≡ p
unfolding split_word
split-word p h = pair _ _ _ _ (low p.0 p.1 h.0) (top p.0 p.1 h.0)
  where
    pair : (a b c d : ℕ) → a ≡ c → b ≡ d → (let q : ℕ × ℕ = (a, b) in q) ≡ (c, d)
    pair a b c d e f = cc

    low : (a b : ℕ) → a < 256 → (a + 256 * b) % 256 ≡ a
    low a b h = omega arith

    top : (a b : ℕ) → a < 256 → (a + 256 * b) / 256 ≡ b
    top a b h = omega arith

word-split : (w : ℕ) → word_of (split_word w) ≡ w
unfolding split_word
word-split w = omega arith

pub IsFormat-word : IsFormat word spelled.word (λ w. w < 65536)
unfolding word split_word
IsFormat-word =
    IsFormat-as (mapped word_of (both byte byte)) spelled.word (λ w. (w % 256 < 256) × (w / 256 < 256)) (λ w. w < 65536) (λ w h. omega arith) (λ w h. (omega arith, omega arith))
    (IsFormat-mapped word_of split_word (both byte byte) _ (λ p. (p.0 < 256) × (p.1 < 256)) split-word (λ w h. word-split w) (IsFormat-both byte byte _ _ _ _ IsFormat-byte IsFormat-byte))

split_quad : ℕ → ℕ × ℕ
split_quad q = (q % 65536, q / 65536)

split-quad : (p : ℕ × ℕ) → (p.0 < 65536) × (p.1 < 65536) → split_quad (quad_of p) ≡ p
unfolding split_quad
split-quad p h = pair _ _ _ _ (low p.0 p.1 h.0) (top p.0 p.1 h.0)
  where
    pair : (a b c d : ℕ) → a ≡ c → b ≡ d → (let q : ℕ × ℕ = (a, b) in q) ≡ (c, d)
    pair a b c d e f = cc

    low : (a b : ℕ) → a < 65536 → (a + 65536 * b) % 65536 ≡ a
    low a b h = omega arith

    top : (a b : ℕ) → a < 65536 → (a + 65536 * b) / 65536 ≡ b
    top a b h = omega arith

quad-split : (q : ℕ) → quad_of (split_quad q) ≡ q
unfolding split_quad
quad-split q = omega arith

IsFormat-quad : IsFormat quad spelled.quad (λ q. q < 4294967296)
unfolding quad split_quad
IsFormat-quad =
    IsFormat-as (mapped quad_of (both word word)) spelled.quad (λ q. (q % 65536 < 65536) × (q / 65536 < 65536)) (λ q. q < 4294967296) (λ q h. omega arith) (λ q h. (omega arith, omega arith))
    (IsFormat-mapped quad_of split_quad (both word word) _ (λ p. (p.0 < 65536) × (p.1 < 65536)) split-quad (λ q h. quad-split q) (IsFormat-both word word _ _ _ _ IsFormat-word IsFormat-word))

-- numbers of nodes: how many there are, in version 1 or not
abbrev pub node_numbers : Bool → ℕ
node_numbers true = 65536
node_numbers false = 4294967296

IsFormat-node_number_by : (b : Bool) → IsFormat (node_number_by b) (spelled.node_number_by b) (λ n. n < node_numbers b)
IsFormat-node_number_by true = IsFormat-word
IsFormat-node_number_by false = IsFormat-quad

pub IsFormat-node_number : (version : ℕ) → IsFormat (node_number version) (spelled.node_number version) (λ n. n < node_numbers (version == 1))
unfolding node_number spelled.node_number
IsFormat-node_number version = IsFormat-node_number_by (version == 1)

abbrev pub spelled_byte : ℕ → List ℕ
spelled_byte b = b ∷ []

pub IsFormat-byte_between : (low high : ℕ) → IsFormat (byte_between low high) spelled_byte (λ b. (b < 256) × (is_between low high b ≡ true))
IsFormat-byte_between low high = IsFormat-checked fault.Field (is_between low high) byte spelled_byte (λ b. b < 256) IsFormat-byte

pub IsFormat-word_between : (low high : ℕ) → IsFormat (word_between low high) spelled.word (λ b. (b < 65536) × (is_between low high b ≡ true))
IsFormat-word_between low high = IsFormat-checked fault.Field (is_between low high) word spelled.word (λ b. b < 65536) IsFormat-word

pub IsFormat-count_within : (limit : ℕ) → limit < 256 → IsFormat (count_within limit) spelled_byte (λ n. n ≤ limit)
IsFormat-count_within limit small =
    IsFormat-as (count_within limit) spelled_byte (λ b. (b < 256) × (is_between 0 limit b ≡ true)) (λ n. n ≤ limit) (λ n h. within limit n h.1) (λ n h. (omega arith, is_within limit n h))
    (IsFormat-checked fault.Count (is_between 0 limit) byte spelled_byte (λ b. b < 256) IsFormat-byte)

-- ---- values

flag-of : (b : ℕ) → (b < 256) × (is_between 0 1 b ≡ true) → spelled.flag (is_one b) ≡ b
unfolding all_below
flag-of b h = same _ _ (below 2 (λ c. spelled.flag (is_one c) == c) refl b (high b h.1))
  where
    high : (b : ℕ) → is_between 0 1 b ≡ true → b < 2
    high b h = grind (arith, nat_tests)

pub of-flag : (b : Bool) → is_one (spelled.flag b) ≡ b
of-flag true = refl
of-flag false = refl

flag_fits : (b : Bool) → (spelled.flag b < 256) × (is_between 0 1 (spelled.flag b) ≡ true)
flag_fits true = (omega arith, refl)
flag_fits false = (omega arith, refl)

abbrev pub spelled_flag : Bool → List ℕ
spelled_flag b = spelled.flag b ∷ []

pub IsFormat-yes_no : IsFormat yes_no spelled_flag (λ b. Unit {0})
unfolding yes_no
IsFormat-yes_no =
    IsFormat-as yes_no spelled_flag (λ b. (spelled.flag b < 256) × (is_between 0 1 (spelled.flag b) ≡ true)) (λ b. Unit {0}) (λ b h. tt) (λ b h. flag_fits b)
    (IsFormat-mapped is_one spelled.flag (byte_between 0 1) spelled_byte _ flag-of (λ b h. of-flag b) (IsFormat-byte_between 0 1))

-- an origin that may be there by these rules has a number
pub not-declared : (rules : Rules) (o : Option Origin) → may_be_of rules o ≡ true → is_declared_origin o ≡ false
not-declared Simple o h = neither (is_return_origin o) (is_declared_origin o) h
  where
    neither : (a b : Bool) → not (a || b) ≡ true → b ≡ false
    neither true b h = absurd cc
    neither false true h = absurd cc
    neither false false h = refl
not-declared Extended o h = by (is_declared_origin o) h
  where
    by : (b : Bool) → not b ≡ true → b ≡ false
    by true h = absurd cc
    by false h = refl

number-again : (o : Option Origin) → is_declared_origin o ≡ false → origin_of (spelled.origin_number o) ≡ o
number-again None h = refl
number-again (Some origin.A) h = refl
number-again (Some origin.F) h = refl
number-again (Some origin.B) h = refl
number-again (Some origin.C) h = refl
number-again (Some origin.D) h = refl
number-again (Some origin.E) h = refl
number-again (Some origin.H) h = refl
number-again (Some origin.L) h = refl
number-again (Some origin.Ie) h = refl
number-again (Some origin.ReturnHigh) h = refl
number-again (Some origin.ReturnLow) h = refl
number-again (Some (origin.Kept i)) h = absurd cc
number-again (Some origin.MarkHigh) h = absurd cc
number-again (Some origin.MarkLow) h = absurd cc

pub origin_of-number : (rules : Rules) (o : Option Origin) → may_be_of rules o ≡ true → origin_of (spelled.origin_number o) ≡ o
origin_of-number rules o h = number-again o (not-declared rules o h)

-- so small a number stands for an origin
abbrev IsOriginNumber : Rules → ℕ → Type 0
IsOriginNumber rules n = (n < 256) × (is_between 0 (origin_limit rules) n ≡ true)

origin_below : (rules : Rules) (n : ℕ) → is_between 0 (origin_limit rules) n ≡ true → n < 12
unfolding origin_limit
origin_below Simple n h = grind (arith, nat_tests)
origin_below Extended n h = grind (arith, nat_tests)

number-origin_of : (rules : Rules) (n : ℕ) → IsOriginNumber rules n → spelled.origin_number (origin_of n) ≡ n
unfolding all_below
number-origin_of rules n h = same _ _ (below 12 (λ c. spelled.origin_number (origin_of c) == c) refl n (origin_below rules n h.1))

origin_fits : (rules : Rules) (o : Option Origin) → may_be_of rules o ≡ true → IsOriginNumber rules (spelled.origin_number o)
unfolding origin_limit
origin_fits Simple None h = (omega arith, refl)
origin_fits Simple (Some origin.A) h = (omega arith, refl)
origin_fits Simple (Some origin.F) h = (omega arith, refl)
origin_fits Simple (Some origin.B) h = (omega arith, refl)
origin_fits Simple (Some origin.C) h = (omega arith, refl)
origin_fits Simple (Some origin.D) h = (omega arith, refl)
origin_fits Simple (Some origin.E) h = (omega arith, refl)
origin_fits Simple (Some origin.H) h = (omega arith, refl)
origin_fits Simple (Some origin.L) h = (omega arith, refl)
origin_fits Simple (Some origin.Ie) h = (omega arith, refl)
origin_fits Simple (Some origin.ReturnHigh) h = absurd cc
origin_fits Simple (Some origin.ReturnLow) h = absurd cc
origin_fits Simple (Some (origin.Kept i)) h = absurd cc
origin_fits Simple (Some origin.MarkHigh) h = absurd cc
origin_fits Simple (Some origin.MarkLow) h = absurd cc
origin_fits Extended None h = (omega arith, refl)
origin_fits Extended (Some origin.A) h = (omega arith, refl)
origin_fits Extended (Some origin.F) h = (omega arith, refl)
origin_fits Extended (Some origin.B) h = (omega arith, refl)
origin_fits Extended (Some origin.C) h = (omega arith, refl)
origin_fits Extended (Some origin.D) h = (omega arith, refl)
origin_fits Extended (Some origin.E) h = (omega arith, refl)
origin_fits Extended (Some origin.H) h = (omega arith, refl)
origin_fits Extended (Some origin.L) h = (omega arith, refl)
origin_fits Extended (Some origin.Ie) h = (omega arith, refl)
origin_fits Extended (Some origin.ReturnHigh) h = (omega arith, refl)
origin_fits Extended (Some origin.ReturnLow) h = (omega arith, refl)
origin_fits Extended (Some (origin.Kept i)) h = absurd cc
origin_fits Extended (Some origin.MarkHigh) h = absurd cc
origin_fits Extended (Some origin.MarkLow) h = absurd cc

fits_origin : (rules : Rules) (o : Option Origin) → IsOriginNumber rules (spelled.origin_number o) → may_be_of rules o ≡ true
unfolding origin_limit
fits_origin Simple None h = refl
fits_origin Simple (Some origin.A) h = refl
fits_origin Simple (Some origin.F) h = refl
fits_origin Simple (Some origin.B) h = refl
fits_origin Simple (Some origin.C) h = refl
fits_origin Simple (Some origin.D) h = refl
fits_origin Simple (Some origin.E) h = refl
fits_origin Simple (Some origin.H) h = refl
fits_origin Simple (Some origin.L) h = refl
fits_origin Simple (Some origin.Ie) h = refl
fits_origin Simple (Some origin.ReturnHigh) h = absurd cc
fits_origin Simple (Some origin.ReturnLow) h = absurd cc
fits_origin Simple (Some (origin.Kept i)) h = absurd cc
fits_origin Simple (Some origin.MarkHigh) h = absurd cc
fits_origin Simple (Some origin.MarkLow) h = absurd cc
fits_origin Extended None h = refl
fits_origin Extended (Some origin.A) h = refl
fits_origin Extended (Some origin.F) h = refl
fits_origin Extended (Some origin.B) h = refl
fits_origin Extended (Some origin.C) h = refl
fits_origin Extended (Some origin.D) h = refl
fits_origin Extended (Some origin.E) h = refl
fits_origin Extended (Some origin.H) h = refl
fits_origin Extended (Some origin.L) h = refl
fits_origin Extended (Some origin.Ie) h = refl
fits_origin Extended (Some origin.ReturnHigh) h = refl
fits_origin Extended (Some origin.ReturnLow) h = refl
fits_origin Extended (Some (origin.Kept i)) h = absurd cc
fits_origin Extended (Some origin.MarkHigh) h = absurd cc
fits_origin Extended (Some origin.MarkLow) h = absurd cc

abbrev spelled_origin : Option Origin → List ℕ
spelled_origin o = spelled.origin_number o ∷ []

IsFormat-origin : (rules : Rules) → IsFormat (origin_at rules) spelled_origin (λ o. may_be_of rules o ≡ true)
unfolding origin_at
IsFormat-origin rules =
    IsFormat-as (origin_at rules) spelled_origin (λ o. IsOriginNumber rules (spelled.origin_number o)) (λ o. may_be_of rules o ≡ true) (fits_origin rules) (origin_fits rules)
    (IsFormat-mapped origin_of spelled.origin_number (byte_between 0 (origin_limit rules)) spelled_byte (IsOriginNumber rules) (number-origin_of rules) (λ o h. origin_of-number rules o (fits_origin rules o h)) (IsFormat-byte_between 0 (origin_limit rules)))

from_val : Val → (ℕ × ℕ) × Option Origin
from_val v = ((v.lo, v.hi), v.origin)

-- two bytes in order
abbrev AreOrdered : ℕ → ℕ → Type 0
AreOrdered lo hi = ((lo < 256) × (hi < 256)) × (nat_le lo hi ≡ true)

are_ordered : (lo hi : ℕ) → lo ≤ hi → hi < 256 → AreOrdered lo hi
are_ordered lo hi order small = ((omega arith, small), is_le lo hi order)

-- a value, of what there is by these rules
abbrev pub IsValFor : Rules → Val → Type 0
IsValFor rules v = IsVal v × (is_sayable rules v ≡ true)

abbrev IsReadVal : Rules → (ℕ × ℕ) × Option Origin → Type 0
IsReadVal rules p = AreOrdered p.0.0 p.0.1 × (may_be_of rules p.1 ≡ true)

val-there : (rules : Rules) (p : (ℕ × ℕ) × Option Origin) → IsReadVal rules p → (from_val (to_val p) ≡ p) × IsValFor rules (to_val p)
unfolding from_val
val-there rules p h = (refl, (record { order = le_is p.0.0 p.0.1 h.0.1; hi = h.0.0.1; strided = refl }, both_and _ _ h.1 refl))

-- what can be said knows no low bits
val-again : (rules : Rules) (v : Val) → IsValFor rules v → IsReadVal rules (from_val v) × (to_val (from_val v) ≡ v)
unfolding from_val
val-again rules v h =
    let s = and_both (may_be_of rules v.origin) (v.low_bits == 0) h.1 in
    let none : 0 ≡ v.low_bits = sym (same v.low_bits 0 s.1) in
    ((are_ordered v.lo v.hi h.0.order h.0.hi, s.0), ap (λ (n : ℕ). (let w : Val = record { lo = v.lo; hi = v.hi; low_bits = n; origin = v.origin } in w)) none)

pub IsFormat-val : (rules : Rules) → IsFormat (val_at rules) spelled.val (IsValFor rules)
unfolding val_at from_val spelled.val
IsFormat-val rules =
    IsFormat-onto to_val from_val _ _ (IsReadVal rules) (IsValFor rules) (val-there rules) (val-again rules)
    (IsFormat-both _ _ _ _ _ _ (IsFormat-checked fault.Field is_ordered _ _ _ (IsFormat-both byte byte _ _ _ _ IsFormat-byte IsFormat-byte)) (IsFormat-origin rules))

number-may : (b : ℕ) → (b < 256) × (is_between 1 3 b ≡ true) → spelled.may_number (to_may b) ≡ b
unfolding all_below
number-may b h = same _ _ (below 4 (λ c. spelled.may_number (to_may c) == c) refl b (high b h.1))
  where
    high : (b : ℕ) → is_between 1 3 b ≡ true → b < 4
    high b h = grind (arith, nat_tests)

pub may-number : (m : May) → to_may (spelled.may_number m) ≡ m
may-number m = by m.clear m.set
  where
    by : (c s : Bool) → to_may (2 * spelled.flag s + spelled.flag c) ≡ record { clear = c; set = s }
    by true true = refl
    by true false = refl
    by false true = refl
    by false false = refl

abbrev IsMayNumber : May → Type 0
IsMayNumber m = (spelled.may_number m < 256) × (is_between 1 3 (spelled.may_number m) ≡ true)

may_is : (m : May) → IsMayNumber m → has_value m ≡ true
may_is m h = by m.clear m.set h.1
  where
    by : (c s : Bool) → is_between 1 3 (2 * spelled.flag s + spelled.flag c) ≡ true → (c || s) ≡ true
    by true s h = refl
    by false true h = refl
    by false false h = h

is_may : (m : May) → has_value m ≡ true → IsMayNumber m
is_may m h = by m.clear m.set h
  where
    by : (c s : Bool) → (c || s) ≡ true → (2 * spelled.flag s + spelled.flag c < 256) × (is_between 1 3 (2 * spelled.flag s + spelled.flag c) ≡ true)
    by true true h = (omega arith, refl)
    by true false h = (omega arith, refl)
    by false true h = (omega arith, refl)
    by false false h = absurd cc

abbrev spelled_may : May → List ℕ
spelled_may m = spelled.may_number m ∷ []

pub IsFormat-may : IsFormat may_at spelled_may (λ m. has_value m ≡ true)
unfolding may_at
IsFormat-may =
    IsFormat-as may_at spelled_may IsMayNumber (λ m. has_value m ≡ true) may_is is_may
    (IsFormat-mapped to_may spelled.may_number (byte_between 1 3) spelled_byte _ number-may (λ m h. may-number m) (IsFormat-byte_between 1 3))

number-ime : (b : ℕ) → (b < 256) × (is_between 1 7 b ≡ true) → spelled.ime_number (to_ime b) ≡ b
unfolding all_below
number-ime b h = same _ _ (below 8 (λ c. spelled.ime_number (to_ime c) == c) refl b (high b h.1))
  where
    high : (b : ℕ) → is_between 1 7 b ≡ true → b < 8
    high b h = grind (arith, nat_tests)

pub ime-number : (m : ImeSet) → to_ime (spelled.ime_number m) ≡ m
ime-number m = by m.off m.pending m.on
  where
    by : (c s t : Bool) → to_ime (4 * spelled.flag t + 2 * spelled.flag s + spelled.flag c) ≡ record { off = c; pending = s; on = t }
    by true true true = refl
    by true true false = refl
    by true false true = refl
    by true false false = refl
    by false true true = refl
    by false true false = refl
    by false false true = refl
    by false false false = refl

abbrev IsImeNumber : ImeSet → Type 0
IsImeNumber m = (spelled.ime_number m < 256) × (is_between 1 7 (spelled.ime_number m) ≡ true)

ime_is : (m : ImeSet) → IsImeNumber m → may_be_any m ≡ true
ime_is m h = by m.off m.pending m.on h.1
  where
    by : (c s t : Bool) → is_between 1 7 (4 * spelled.flag t + 2 * spelled.flag s + spelled.flag c) ≡ true → (c || s || t) ≡ true
    by true s t h = refl
    by false true t h = refl
    by false false true h = refl
    by false false false h = h

is_ime : (m : ImeSet) → may_be_any m ≡ true → IsImeNumber m
is_ime m h = by m.off m.pending m.on h
  where
    by : (c s t : Bool) → (c || s || t) ≡ true → (4 * spelled.flag t + 2 * spelled.flag s + spelled.flag c < 256) × (is_between 1 7 (4 * spelled.flag t + 2 * spelled.flag s + spelled.flag c) ≡ true)
    by true true true h = (omega arith, refl)
    by true true false h = (omega arith, refl)
    by true false true h = (omega arith, refl)
    by true false false h = (omega arith, refl)
    by false true true h = (omega arith, refl)
    by false true false h = (omega arith, refl)
    by false false true h = (omega arith, refl)
    by false false false h = absurd cc

abbrev pub spelled_ime : ImeSet → List ℕ
spelled_ime m = spelled.ime_number m ∷ []

pub IsFormat-ime : IsFormat ime_at spelled_ime (λ m. may_be_any m ≡ true)
unfolding ime_at
IsFormat-ime =
    IsFormat-as ime_at spelled_ime IsImeNumber (λ m. may_be_any m ≡ true) ime_is is_ime
    (IsFormat-mapped to_ime spelled.ime_number (byte_between 1 7) spelled_byte _ number-ime (λ m h. ime-number m) (IsFormat-byte_between 1 7))

-- ---- the test

from_test : Option ℕ → Bool × ℕ
from_test None = (false, 0)
from_test (Some a) = (true, a)

abbrev IsTestPair : Bool × ℕ → Type 0
IsTestPair p = (Unit {0} × (p.1 < 256)) × (is_test p ≡ true)

test-there : (p : Bool × ℕ) → IsTestPair p → from_test (to_test p) ≡ p
unfolding from_test
test-there p h = by p.0 p.1 h.1
  where
    by : (b : Bool) (n : ℕ) → is_test (b, n) ≡ true → from_test (to_test (b, n)) ≡ (b, n)
    by true n h = refl
    by false n h = let e = same n 0 h in rw e refl

test-again : (o : Option ℕ) → to_test (from_test o) ≡ o
unfolding from_test
test-again None = refl
test-again (Some a) = refl

test-is : (o : Option ℕ) → IsTestPair (from_test o) → IfSome o (λ a. a < 256)
unfolding from_test
test-is None h = tt
test-is (Some a) h = h.0.1

is-test : (o : Option ℕ) → IfSome o (λ a. a < 256) → IsTestPair (from_test o)
unfolding from_test
is-test None h = ((tt, omega arith), refl)
is-test (Some a) h = ((tt, h), refl)

test-spelled : (o : Option ℕ) → spelled.flag (from_test o).0 ∷ (from_test o).1 ∷ [] ≡ spelled.test o
unfolding from_test
test-spelled None = refl
test-spelled (Some a) = refl

pub IsFormat-test : IsFormat test_at spelled.test (λ o. IfSome o (λ a. a < 256))
unfolding test_at
IsFormat-test =
    IsFormat-spelled test_at (λ o. spelled.flag (from_test o).0 ∷ (from_test o).1 ∷ []) spelled.test (λ o. IfSome o (λ a. a < 256)) (λ o h. test-spelled o)
    (IsFormat-as test_at (λ o. spelled.flag (from_test o).0 ∷ (from_test o).1 ∷ []) (λ o. IsTestPair (from_test o)) (λ o. IfSome o (λ a. a < 256)) test-is is-test
    (IsFormat-mapped to_test from_test _ _ IsTestPair test-there (λ o h. test-again o)
    (IsFormat-checked fault.Field is_test _ _ _ (IsFormat-both yes_no byte _ _ _ _ IsFormat-yes_no IsFormat-byte))))

-- ---- flags

abbrev pub Flags : Type 0
Flags = May × (May × (May × May))

abbrev pub number_of : Flags → ℕ
number_of p = spelled.flags_number p.0 p.1.0 p.1.1.0 p.1.1.1

number-flags : (b : ℕ) → b < 256 → number_of (to_flags b) ≡ b
unfolding all_below
number-flags b h = same _ _ (below 256 (λ c. number_of (to_flags c) == c) refl b h)

pub flag_small : (b : Bool) → spelled.flag b ≤ 1
flag_small true = omega arith
flag_small false = omega arith

abbrev all_flags : Bool → Bool → Bool → Bool → Bool → Bool → Bool → Bool → Flags
all_flags a b c d e f g h = (record { clear = e; set = a }, (record { clear = f; set = b }, (record { clear = g; set = c }, record { clear = h; set = d })))

bits-number : (a b c d e f g h : ℕ) → a ≤ 1 → b ≤ 1 → c ≤ 1 → d ≤ 1 → e ≤ 1 → f ≤ 1 → g ≤ 1 → h ≤ 1 → (n : ℕ) → n ≡ 128 * a + 64 * b + 32 * c + 16 * d + 8 * e + 4 * f + 2 * g + h
    → (n / 128 ≡ a) × (n / 64 % 2 ≡ b) × (n / 32 % 2 ≡ c) × (n / 16 % 2 ≡ d) × (n / 8 % 2 ≡ e) × (n / 4 % 2 ≡ f) × (n / 2 % 2 ≡ g) × (n % 2 ≡ h)
bits-number a b c d e f g h a1 b1 c1 d1 e1 f1 g1 h1 n e0 = (omega arith, omega arith, omega arith, omega arith, omega arith, omega arith, omega arith, omega arith)

pub one-flag : (n : ℕ) (b : Bool) → n ≡ spelled.flag b → (n == 1) ≡ b
one-flag n b e = rw e (of-flag b)

flags-same : (a b c d e f g h a2 b2 c2 d2 e2 f2 g2 h2 : Bool) → a ≡ a2 → b ≡ b2 → c ≡ c2 → d ≡ d2 → e ≡ e2 → f ≡ f2 → g ≡ g2 → h ≡ h2 → all_flags a b c d e f g h ≡ all_flags a2 b2 c2 d2 e2 f2 g2 h2
flags-same a b c d e f g h a2 b2 c2 d2 e2 f2 g2 h2 ea eb ec ed ee ef eg eh = rw (ea, eb, ec, ed, ee, ef, eg, eh) refl

pub flags-number : (p : Flags) → to_flags (number_of p) ≡ p
flags-number p = by p.0.set p.1.0.set p.1.1.0.set p.1.1.1.set p.0.clear p.1.0.clear p.1.1.0.clear p.1.1.1.clear
  where
    by : (a b c d e f g h : Bool) → to_flags (number_of (all_flags a b c d e f g h)) ≡ all_flags a b c d e f g h
    by a b c d e f g h =
        let n : ℕ = number_of (all_flags a b c d e f g h) in
        let k = bits-number (spelled.flag a) (spelled.flag b) (spelled.flag c) (spelled.flag d) (spelled.flag e) (spelled.flag f) (spelled.flag g) (spelled.flag h) (flag_small a) (flag_small b) (flag_small c) (flag_small d) (flag_small e) (flag_small f) (flag_small g) (flag_small h) n refl in
        flags-same (n / 128 == 1) (n / 64 % 2 == 1) (n / 32 % 2 == 1) (n / 16 % 2 == 1) (n / 8 % 2 == 1) (n / 4 % 2 == 1) (n / 2 % 2 == 1) (n % 2 == 1) a b c d e f g h
        (one-flag _ a k.0) (one-flag _ b k.1) (one-flag _ c k.2) (one-flag _ d k.3) (one-flag _ e k.4) (one-flag _ f k.5) (one-flag _ g k.6) (one-flag _ h k.7)

flags_small : (p : Flags) → number_of p < 256
flags_small p = omega (arith, flag_small p.0.set, flag_small p.1.0.set, flag_small p.1.1.0.set, flag_small p.1.1.1.set, flag_small p.0.clear, flag_small p.1.0.clear, flag_small p.1.1.0.clear, flag_small p.1.1.1.clear)

own-there : (n : ℕ) → (n < 256) × (is_own_number n ≡ true) → spelled.own_number (is_two n) ≡ n
own-there n h = grind (arith, nat_tests)

pub own-again : (b : Bool) → is_two (spelled.own_number b) ≡ b
own-again true = refl
own-again false = refl

own-fits : (b : Bool) → (spelled.own_number b < 256) × (is_own_number (spelled.own_number b) ≡ true)
own-fits true = (omega arith, refl)
own-fits false = (omega arith, refl)

from_flg : Flg → Flags × Bool
from_flg f = ((f.zero, (f.subtract, (f.half_carry, f.carry))), f.is_own)

abbrev IsFlgPair : Flags × Bool → Type 0
IsFlgPair p = ((number_of p.0 < 256) × (have_values p.0 ≡ true)) × ((spelled.own_number p.1 < 256) × (is_own_number (spelled.own_number p.1) ≡ true))

flg-is : (f : Flg) → IsFlgPair (from_flg f) → IsFlg f
unfolding from_flg
flg-is f h =
    let a = and_both (has_value f.zero) (has_value f.subtract && (has_value f.half_carry && has_value f.carry)) h.0.1 in
    let b = and_both (has_value f.subtract) (has_value f.half_carry && has_value f.carry) a.1 in
    let c = and_both (has_value f.half_carry) (has_value f.carry) b.1 in
    record { zero = a.0; subtract = b.0; half_carry = c.0; carry = c.1 }

is-flg : (f : Flg) → IsFlg f → IsFlgPair (from_flg f)
unfolding from_flg
is-flg f h = ((flags_small (f.zero, (f.subtract, (f.half_carry, f.carry))), both_and _ _ h.zero (both_and _ _ h.subtract (both_and _ _ h.half_carry h.carry))), own-fits f.is_own)

pub IsFormat-flg : IsFormat flg_at spelled.flg IsFlg
unfolding flg_at from_flg spelled.flg
IsFormat-flg =
    IsFormat-as flg_at spelled.flg (λ f. IsFlgPair (from_flg f)) IsFlg flg-is is-flg
    (IsFormat-mapped to_flg from_flg _ _ IsFlgPair (λ x h. refl) (λ y h. refl)
    (IsFormat-both _ _ _ _ _ _
    (IsFormat-checked fault.Field have_values _ _ _ (IsFormat-mapped to_flags number_of byte spelled_byte (λ b. b < 256) number-flags (λ p h. flags-number p) IsFormat-byte))
    (IsFormat-mapped is_two spelled.own_number (checked fault.Field is_own_number byte) spelled_byte _ own-there (λ b h. own-again b) (IsFormat-checked fault.Field is_own_number byte spelled_byte (λ b. b < 256) IsFormat-byte))))

-- ---- the controller and the registers

abbrev CtlParts : Type 0 → Type 0
CtlParts K = (ℕ × ℕ) × ((ℕ × ℕ) × (May × (May × K)))

from_ctl : {K : Type 0} → (KeptBanks → K) → Ctl → CtlParts K
from_ctl back c = ((c.bank_lo, c.bank_hi), ((c.second_lo, c.second_hi), (c.gate, (c.mode, back c.kept))))

abbrev IsBank : ℕ → Type 0
IsBank n = (n < 65536) × (is_between 0 511 n ≡ true)

is_bank : (n : ℕ) → n ≤ 511 → IsBank n
is_bank n h = (omega arith, is_within 511 n h)

abbrev AreCtl : {K : Type 0} → (K → Type 0) → CtlParts K → Type 0
AreCtl g p = ((IsBank p.0.0 × IsBank p.0.1) × (nat_le p.0.0 p.0.1 ≡ true)) × (AreOrdered p.1.0.0 p.1.0.1 × ((has_value p.1.1.0 ≡ true) × ((has_value p.1.1.1.0 ≡ true) × g p.1.1.1.1)))

-- a controller of which all is kept or nothing
abbrev pub IsCtlFor : Ctl → Type 0
IsCtlFor c = IsCtl c × (is_all_or_none c.kept ≡ true)

all-kept : (b : Bool) → are_all_kept (all_or_none b) ≡ b
all-kept true = refl
all-kept false = refl

kept_by-all : (b : Bool) → is_all_or_none (all_or_none b) ≡ true
kept_by-all true = refl
kept_by-all false = refl

abbrev kept_each : Bool → Bool → Bool → Bool → Bool → KeptBanks
kept_each b s g m t = record { bank = b; second = s; gate = g; mode = m; high_bank = t }

pub kept-again : (k : KeptBanks) → is_all_or_none k ≡ true → all_or_none (are_all_kept k) ≡ k
kept-again k h = by k.bank k.second k.gate k.mode k.high_bank h
  where
    by : (b s g m t : Bool) → is_all_or_none (kept_each b s g m t) ≡ true → all_or_none (are_all_kept (kept_each b s g m t)) ≡ kept_each b s g m t
    by true true true true true h = refl
    by true true true true false h = absurd cc
    by true true true false t h = absurd cc
    by true true false m t h = absurd cc
    by true false g m t h = absurd cc
    by false true g m t h = absurd cc
    by false false true m t h = absurd cc
    by false false false true t h = absurd cc
    by false false false false true h = absurd cc
    by false false false false false h = refl

-- a controller of which this is kept
abbrev pub IsCtlBy : (KeptBanks → Type 0) → Ctl → Type 0
IsCtlBy h c = IsCtl c × h c.kept

pub IsFormat-ctl_by : {K : Type 0} (f : K → KeptBanks) (back : KeptBanks → K) (r : Read K) (number : KeptBanks → ℕ) (g : K → Type 0) (h : KeptBanks → Type 0) → ((x : K) → g x → (back (f x) ≡ x) × h (f x)) → ((k : KeptBanks) → h k → g (back k) × (f (back k) ≡ k))
    → (w : K → List ℕ) → ((k : KeptBanks) → w (back k) ≡ number k ∷ []) → IsFormat r w g → IsFormat (ctl_by f r) (spelled.ctl_by number) (IsCtlBy h)
unfolding from_ctl
IsFormat-ctl_by {K} f back r number g h there again w told a =
    IsFormat-spelled (ctl_by f r) (λ c. spelled_parts (from_ctl back c)) (spelled.ctl_by number) (IsCtlBy h) (λ c k. ap (λ (b : List ℕ). spelled.word c.bank_lo ++ (spelled.word c.bank_hi ++ (c.second_lo ∷ c.second_hi ∷ spelled.may_number c.gate ∷ spelled.may_number c.mode ∷ b))) (told c.kept))
    (IsFormat-onto (to_ctl_by f) (from_ctl back) _ spelled_parts (AreCtl g) (IsCtlBy h) ctl-there ctl-again
    (IsFormat-both _ _ _ _ _ _ (IsFormat-checked fault.Field is_ordered _ _ _ (IsFormat-both _ _ _ _ _ _ (IsFormat-word_between 0 511) (IsFormat-word_between 0 511)))
    (IsFormat-both _ _ _ _ _ _ (IsFormat-checked fault.Field is_ordered _ _ _ (IsFormat-both byte byte _ _ _ _ IsFormat-byte IsFormat-byte))
    (IsFormat-both _ _ _ _ _ _ IsFormat-may (IsFormat-both _ _ _ _ _ _ IsFormat-may a)))))
  where
    spelled_parts : CtlParts K → List ℕ
    spelled_parts p = (spelled.word p.0.0 ++ spelled.word p.0.1) ++ ((p.1.0.0 ∷ p.1.0.1 ∷ []) ++ ((spelled.may_number p.1.1.0 ∷ []) ++ ((spelled.may_number p.1.1.1.0 ∷ []) ++ w p.1.1.1.1)))

    ctl-there : (p : CtlParts K) → AreCtl g p → (from_ctl back (to_ctl_by f p) ≡ p) × IsCtlBy h (to_ctl_by f p)
    ctl-there p k =
        let t = there p.1.1.1.1 k.1.1.1.1 in (
          ap (λ (b : K). (let q : CtlParts K = (p.0, (p.1.0, (p.1.1.0, (p.1.1.1.0, b)))) in q)) t.0,
          (
            record {
              bank = le_is p.0.0 p.0.1 k.0.1;
              bank_hi = within 511 p.0.1 k.0.0.1.1;
              second = le_is p.1.0.0 p.1.0.1 k.1.0.1;
              second_hi = k.1.0.0.1;
              gate = k.1.1.0;
              mode = k.1.1.1.0;
            },
            t.1,
          ),
        )

    ctl-again : (c : Ctl) → IsCtlBy h c → AreCtl g (from_ctl back c) × (to_ctl_by f (from_ctl back c) ≡ c)
    ctl-again c k =
        let low : c.bank_lo ≤ 511 = omega (arith, k.0.bank, k.0.bank_hi) in
        let t = again c.kept k.1 in (
          (((is_bank c.bank_lo low, is_bank c.bank_hi k.0.bank_hi), is_le c.bank_lo c.bank_hi k.0.bank), (are_ordered c.second_lo c.second_hi k.0.second k.0.second_hi, (k.0.gate, (k.0.mode, t.0)))),
          ap (λ (b : KeptBanks). record c { kept = b }) t.1,
        )

IsFormat-ctl : IsFormat ctl_at spelled.ctl IsCtlFor
unfolding ctl_at spelled.ctl
IsFormat-ctl =
    IsFormat-ctl_by all_or_none are_all_kept yes_no spelled.all_number (λ b. Unit {0}) (λ k. is_all_or_none k ≡ true) (λ b h. (all-kept b, kept_by-all b)) (λ k h. (tt, kept-again k h)) spelled_flag (λ k. refl) IsFormat-yes_no

unfoldable pub from_vals : Registers Val → Val × (Val × (Val × (Val × (Val × (Val × Val)))))
from_vals r = (r.a, (r.b, (r.c, (r.d, (r.e, (r.h, r.l))))))

abbrev AreVals : Rules → Registers Val → Type 0
AreVals rules r = IsValFor rules r.a × (IsValFor rules r.b × (IsValFor rules r.c × (IsValFor rules r.d × (IsValFor rules r.e × (IsValFor rules r.h × IsValFor rules r.l)))))

-- values, of what there is by these rules
abbrev pub AreValsFor : Rules → Registers Val → Type 0
AreValsFor rules s = ((r : Register) → IsVal (get r s)) × (are_sayable rules s ≡ true)

vals-each : (rules : Rules) (s : Registers Val) → AreVals rules s → (r : Register) → IsVal (get r s)
vals-each rules s h A = h.0.0
vals-each rules s h B = h.1.0.0
vals-each rules s h C = h.1.1.0.0
vals-each rules s h D = h.1.1.1.0.0
vals-each rules s h E = h.1.1.1.1.0.0
vals-each rules s h H = h.1.1.1.1.1.0.0
vals-each rules s h L = h.1.1.1.1.1.1.0

vals-are : (rules : Rules) (s : Registers Val) → AreVals rules s → AreValsFor rules s
vals-are rules s h = (vals-each rules s h, both_and _ _ h.0.1 (both_and _ _ h.1.0.1 (both_and _ _ h.1.1.0.1 (both_and _ _ h.1.1.1.0.1 (both_and _ _ h.1.1.1.1.0.1 (both_and _ _ h.1.1.1.1.1.0.1 h.1.1.1.1.1.1.1))))))

are-vals : (rules : Rules) (s : Registers Val) → AreValsFor rules s → AreVals rules s
are-vals rules s h =
    let of : Val → Bool = is_sayable rules in
    let a = and_both (of s.a) (of s.b && (of s.c && (of s.d && (of s.e && (of s.h && of s.l))))) h.1 in
    let b = and_both (of s.b) (of s.c && (of s.d && (of s.e && (of s.h && of s.l)))) a.1 in
    let c = and_both (of s.c) (of s.d && (of s.e && (of s.h && of s.l))) b.1 in
    let d = and_both (of s.d) (of s.e && (of s.h && of s.l)) c.1 in
    let e = and_both (of s.e) (of s.h && of s.l) d.1 in
    let l = and_both (of s.h) (of s.l) e.1 in
    ((h.0 A, a.0), ((h.0 B, b.0), ((h.0 C, c.0), ((h.0 D, d.0), ((h.0 E, e.0), ((h.0 H, l.0), (h.0 L, l.1)))))))

IsFormat-vals : (rules : Rules) → IsFormat (vals_at rules) spelled.vals (AreValsFor rules)
unfolding vals_at from_vals spelled.vals
IsFormat-vals rules =
    let val = IsFormat-val rules in
    IsFormat-as (vals_at rules) spelled.vals (AreVals rules) (AreValsFor rules) (vals-are rules) (are-vals rules)
    (IsFormat-mapped to_vals from_vals _ _ _ (λ x h. refl) (λ y h. refl)
    (IsFormat-both _ _ _ _ _ _ val (IsFormat-both _ _ _ _ _ _ val (IsFormat-both _ _ _ _ _ _ val
    (IsFormat-both _ _ _ _ _ _ val (IsFormat-both _ _ _ _ _ _ val (IsFormat-both _ _ _ _ _ _ val val)))))))

unfoldable pub from_core : Tested → ImeSet × (ℕ × (Bool × (Option ℕ × (Ctl × (Flg × (Val × Registers Val))))))
from_core k = let c = k.0 in (c.ime, (c.bound, (c.stack_set, (k.1, (c.ctl, (c.flags, (c.ie, c.registers)))))))

abbrev IsTest : Option ℕ → Type 0
IsTest o = IfSome o (λ a. a < 256)

abbrev AreCore : Rules → Role → Tested → Type 0
AreCore rules role k = (may_be_any k.0.ime ≡ true) × (((k.0.bound < 256) × (is_between 0 161 k.0.bound ≡ true)) × ((Unit {0} × (is_stack_right role k.0.stack_set ≡ true)) × (IsTest k.1 × (IsCtlFor k.0.ctl × (IsFlg k.0.flags × (IsValFor rules k.0.ie × AreValsFor rules k.0.registers))))))

-- a core that may stand in a state for this, and its test
pub record IsCoreFor (rules : Rules) (role : Role) (k : Tested) : Type 0 where
  pub core : IsCore k.0
  pub stack : is_stack_right role k.0.stack_set ≡ true
  pub sayable : is_core_sayable rules k.0 ≡ true
  pub test : IfSome k.1 (λ a. a < 256)

core-is : (rules : Rules) (role : Role) (k : Tested) → AreCore rules role k → IsCoreFor rules role k
core-is rules role k h = record {
  core = record {
    ime = h.0;
    bound = within 161 k.0.bound h.1.0.1;
    ctl = h.1.1.1.1.0.0;
    flags = h.1.1.1.1.1.0;
    ie = h.1.1.1.1.1.1.0.0;
    registers = h.1.1.1.1.1.1.1.0;
  };
  stack = h.1.1.0.1;
  sayable = both_and _ _ h.1.1.1.1.0.1 (both_and _ _ h.1.1.1.1.1.1.0.1 h.1.1.1.1.1.1.1.1);
  test = h.1.1.1.0;
}

is-core : (rules : Rules) (role : Role) (k : Tested) → IsCoreFor rules role k → AreCore rules role k
is-core rules role k h =
    let small : k.0.bound < 256 = omega (arith, h.core.bound) in
    let s = and_both (is_all_or_none k.0.ctl.kept) (is_sayable rules k.0.ie && are_sayable rules k.0.registers) h.sayable in
    let t = and_both (is_sayable rules k.0.ie) (are_sayable rules k.0.registers) s.1 in
    (h.core.ime, ((small, is_within 161 k.0.bound h.core.bound), ((tt, h.stack), (h.test, ((h.core.ctl, s.0), (h.core.flags, ((h.core.ie, t.0), (h.core.registers, t.1))))))))

-- a core behind its test
abbrev pub spelled_core : Tested → List ℕ
spelled_core k = spelled.core k.0 k.1

pub IsFormat-core : (rules : Rules) (role : Role) → IsFormat (core_at rules role) spelled_core (IsCoreFor rules role)
unfolding core_at from_core spelled.core
IsFormat-core rules role =
    IsFormat-as (core_at rules role) spelled_core (AreCore rules role) (IsCoreFor rules role) (core-is rules role) (is-core rules role)
    (IsFormat-mapped to_core from_core _ _ _ (λ x h. refl) (λ y h. refl)
    (IsFormat-both _ _ _ _ _ _ IsFormat-ime (IsFormat-both _ _ _ _ _ _ (IsFormat-byte_between 0 161)
    (IsFormat-both _ _ _ _ _ _ (IsFormat-checked fault.Field (is_stack_right role) _ _ _ IsFormat-yes_no)
    (IsFormat-both _ _ _ _ _ _ IsFormat-test (IsFormat-both _ _ _ _ _ _ IsFormat-ctl (IsFormat-both _ _ _ _ _ _ IsFormat-flg (IsFormat-both _ _ _ _ _ _ (IsFormat-val rules) (IsFormat-vals rules)))))))))
