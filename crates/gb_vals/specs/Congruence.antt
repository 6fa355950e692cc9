-- What the machine makes of bytes that have low bits (abstract interpretation: soundness; own).
use Rattle.std.specs.Prelude.{◌≡◌, ℕ, ◌+◌, ◌-◌, ◌*◌, ◌/◌, ◌%◌, ◌<◌, ◌≤◌, Bool, Option, Some, None}
use Rattle.gb_domain.specs.declared.low_bits.LowBits.{LowBits}
use Rattle.gb_domain.specs.Meaning.{Has}
use Rattle.gb_vals.specs.LowSums.{one_if}

-- ---- low bits

-- what the machine makes of each byte with k's low bits has o's
pub record IsSound (machine : ℕ → ℕ) (k o : LowBits) : Type 0 where
  pub gives : (x : ℕ) → x < 256 → Has k x → Has o (machine x)

-- what it makes of each two bytes with j's and k's low bits has o's
pub record IsSoundOfTwo (machine : ℕ → ℕ → ℕ) (j k o : LowBits) : Type 0 where
  pub gives : (x y : ℕ) → x < 256 → y < 256 → Has j x → Has k y → Has o (machine x y)

-- a carry that isn't known is either one
abbrev pub MayBe : Option Bool → Bool → Type 0
MayBe None c = Unit {0}
MayBe (Some d) c = c ≡ d

-- the same, with a carry
pub record IsSoundOfSum (machine : ℕ → ℕ → ℕ → ℕ) (j k : LowBits) (carry : Option Bool) (o : LowBits) : Type 0 where
  pub gives :
      (x y : ℕ) (c : Bool) → x < 256 → y < 256 → MayBe carry c → Has j x → Has k y → Has o (machine x y (one_if c))

-- what it makes of the high byte of each pair whose low byte is within bounds
pub record IsSoundOfHigh (machine : ℕ → ℕ) (least most : ℕ) (k o : LowBits) : Type 0 where
  pub gives :
      (high low : ℕ)
      → high < 256 → least ≤ low → low ≤ most → Has k high → Has o (machine (high * 256 + low) / 256)

-- what it makes of each byte with this high digit
pub record IsSoundOfDigit (machine : ℕ → ℕ) (high : ℕ) (k o : LowBits) : Type 0 where
  pub gives : (x : ℕ) → x < 256 → x / 16 ≡ high % 16 → Has k x → Has o (machine x)

-- ---- what the machine computes

-- a sum of two bytes and a carry
abbrev pub added : ℕ → ℕ → ℕ → ℕ
added x y c = (x + y + c) % 256

-- a difference of two bytes and a borrow
abbrev pub subtracted : ℕ → ℕ → ℕ → ℕ
subtracted x y c = (x + 512 - (y + c)) % 256

abbrev pub next_byte : ℕ → ℕ
next_byte x = (x + 1) % 256

abbrev pub previous_byte : ℕ → ℕ
previous_byte x = (x + 255) % 256

abbrev pub next_word : ℕ → ℕ
next_word x = (x + 1) % 65536

abbrev pub previous_word : ℕ → ℕ
previous_word x = (x + 65535) % 65536

abbrev pub shifted_left : ℕ → ℕ
shifted_left x = x * 2 % 256

abbrev pub shifted_right : ℕ → ℕ
shifted_right x = x / 2

abbrev pub with_digits_swapped : ℕ → ℕ
with_digits_swapped x = x % 16 * 16 + x / 16
