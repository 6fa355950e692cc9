-- What the machine computes of bytes are bytes, and what its flags say of them.
use Rattle.std.proofs.Common.{◌≡◌, ℕ, ◌+◌, ◌-◌, ◌*◌, ◌%◌, ◌<◌, ◌≤◌, Bool, true, false, ◌==◌, nat_lt, cond, bit_and, bit_or, Some, refl, sym, subst, arith}
use Rattle.std.specs.Prelude.{bit_xor}
use Rattle.std.proofs.lemmas.Bool.Decides.{nat_tests}
use Rattle.std.proofs.lemmas.Grind.{and_numeral}
use Rattle.std.proofs.lemmas.Nat.{and_le_l, le_or_l, le_or_r, or_lt}
use Rattle.std.proofs.Math.Pow.{pow-lt}
use Rattle.std.specs.Int.Bits.{or_add_and, xor_add_and}
use Rattle.gb_ops.specs.declared.op.Shift.{Shift}
use Rattle.gb_ops.specs.declared.op.Shift.TheVariants as shift
use Rattle.gb_ops.specs.declared.op.AluOp.{AluOp}
use Rattle.gb_ops.specs.declared.op.AluOp.TheVariants as alu
use Rattle.gb_ops.specs.declared.registers.Flags.{Flags}
use Rattle.gb_ops.specs.Flags.{bit_of}
use Rattle.gb_ops.specs.Pairs.{word}
use Rattle.gb_ops.specs.Arithmetic.{alu_result, added, subtracted, logical, shifted_value, adjusted, mask_of, bit_reset, bit_set}
use Rattle.gb_pairs.proofs.Below.gb_vals_laws.MeaningLaws.{bit-weight}
use Rattle.gb_copies.specs.Meaning.{IsTested}
use Rattle.gb_relations.specs.Bytes.{is_zero_test}

-- ---- bytes

pub shifted-byte : (how : Shift) (v : ℕ) (carry : Bool) → v < 256 → shifted_value how v carry < 256
unfolding shifted_value
shifted-byte shift.Rlc v c h = omega arith
shifted-byte shift.Rrc v c h = omega arith
shifted-byte shift.Rl v c h = let one : bit_of c 1 ≤ 1 = bit-weight c 1 in omega arith
shifted-byte shift.Rr v c h = let most : bit_of c 128 ≤ 128 = bit-weight c 128 in omega arith
shifted-byte shift.Sla v c h = omega arith
shifted-byte shift.Sra v c h = omega arith
shifted-byte shift.Swap v c h = omega arith
shifted-byte shift.Srl v c h = omega arith

pub adjusted-byte : (a : ℕ) (f : Flags) → (adjusted a f).value < 256
unfolding adjusted
adjusted-byte a f = choose f.subtract _ _
  where
    choose : (b : Bool) (p q : ℕ) → cond b (p % 256) (q % 256) < 256
    choose true p q = omega arith
    choose false p q = omega arith

mask-byte : (n : ℕ) → mask_of n < 256
unfolding mask_of
mask-byte n = let small : n % 8 < 8 = omega arith in pow-lt small

pub reset-byte : (n v : ℕ) → v < 256 → bit_reset n v < 256
unfolding bit_reset
reset-byte n v h = let less : bit_and v (255 - mask_of n) ≤ v = and_le_l v (255 - mask_of n) in omega arith

pub set-byte : (n v : ℕ) → v < 256 → bit_set n v < 256
unfolding bit_set
set-byte n v h = or_lt 8 v (mask_of n) h (mask-byte n)

pub and-byte : (x y : ℕ) → x < 256 → bit_and x y < 256
and-byte x y p = let less : bit_and x y ≤ x = and_le_l x y in omega arith

xor-byte : (x y : ℕ) → x < 256 → y < 256 → bit_xor x y < 256
xor-byte x y p q =
    let or : bit_or x y < 256 = or_lt 8 x y p q in
    let sum : bit_or x y + bit_and x y ≡ x + y = or_add_and x y in
    let twice : bit_xor x y + bit_and x y * 2 ≡ x + y = xor_add_and x y in
    omega arith

pub alu-byte : (how : AluOp) (a v : ℕ) (f : Flags) → a < 256 → v < 256 → (alu_result how a v f).value < 256
unfolding alu_result added subtracted logical
alu-byte alu.Add a v f p q = omega arith
alu-byte alu.Adc a v f p q = omega arith
alu-byte alu.Sub a v f p q = omega arith
alu-byte alu.Sbc a v f p q = omega arith
alu-byte alu.And a v f p q = and-byte a v p
alu-byte alu.Xor a v f p q = xor-byte a v p q
alu-byte alu.Or a v f p q = or_lt 8 a v p q
alu-byte alu.Cp a v f p q = p

-- ---- tests

-- all bits of a byte
all_bits : (n : ℕ) → n < 256 → bit_and n 255 ≡ n
all_bits n small =
    let e : bit_and n 255 ≡ n % 256 = and_numeral n 254 refl in
    omega arith

-- Z says whether a byte is 0
pub IsTested-zero : (v : ℕ) (f : Flags) → v < 256 → f.zero ≡ (v == 0) → IsTested (Some is_zero_test) v f
IsTested-zero v f small e = subst (λ m. f.zero ≡ (m == 0)) (sym (all_bits v small)) e

pub compared-zero : (a n : ℕ) → a < 256 → n < 256 → ((a + 256 - (n + 0)) % 256 == 0) ≡ (a == n)
compared-zero a n p q = grind (arith, nat_tests)

pub compared-carry : (a n : ℕ) → nat_lt a (n + 0) ≡ nat_lt a n
compared-carry a n = grind (arith, nat_tests)

pub below_zero : (a : ℕ) → false ≡ nat_lt a 0
below_zero a = grind (arith, nat_tests)

-- ---- OR of a pair's bytes

is_zero-same : (m n : ℕ) → (m ≡ 0 → n ≡ 0) → (n ≡ 0 → m ≡ 0) → (m == 0) ≡ (n == 0)
is_zero-same m n to back = grind (arith, nat_tests)

-- the high byte with the low one
pub or-high : (high low : ℕ) → (bit_or low high == 0) ≡ (word high low == 0)
or-high high low =
    let left : low ≤ bit_or low high = le_or_l low high in
    let right : high ≤ bit_or low high = le_or_r low high in
    let sum : bit_or low high + bit_and low high ≡ low + high = or_add_and low high in
    is_zero-same (bit_or low high) (word high low) (λ e. omega arith) (λ e. omega arith)

-- the low byte with the high one
pub or-low : (high low : ℕ) → (bit_or high low == 0) ≡ (word high low == 0)
or-low high low =
    let left : high ≤ bit_or high low = le_or_l high low in
    let right : low ≤ bit_or high low = le_or_r high low in
    let sum : bit_or high low + bit_and high low ≡ high + low = or_add_and high low in
    is_zero-same (bit_or high low) (word high low) (λ e. omega arith) (λ e. omega arith)
