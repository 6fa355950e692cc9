-- What operations on pairs promise of the registers (abstract interpretation: soundness; own).
use Rattle.std.specs.Prelude.{◌≡◌, ℕ, ◌+◌, ◌/◌, ◌%◌, ◌≤◌, ◌<◌, Bool, true, false, nat_lt, Option, Some, None}
use Rattle.gb_ops.specs.declared.op.Register.{Register}
use Rattle.gb_ops.specs.declared.registers.Registers.{Registers}
use Rattle.gb_ops.specs.Registers.{get, set}
use Rattle.gb_domain.specs.declared.pairs.WordPair.{WordPair}
use Rattle.gb_domain.specs.declared.pairs.WordPair.TheVariants as pair
use Rattle.gb_domain.specs.declared.pairs.Bounds.{Bounds}
use Rattle.gb_domain.specs.declared.pairs.PairBounds.{PairBounds}
use Rattle.gb_domain.specs.declared.pairs.Other.{Other}
use Rattle.gb_domain.specs.declared.pairs.Link.{Link}
use Rattle.gb_domain.specs.declared.places.OneByte.{OneByte}
use Rattle.gb_domain.specs.declared.pairs.Pairs.{Pairs}
use Rattle.gb_domain.specs.declared.types.Val.{Val}
use Rattle.gb_domain.specs.Pairs.{facts_of, bounds_in}
use Rattle.gb_domain.specs.Types.{origin_of_register}
use Rattle.gb_domain.specs.Values.{is_strided}
use Rattle.gb_pairs.specs.declared.values.Values.{Values}
use Rattle.gb_pairs.specs.declared.moved.HlSum.{HlSum}
use Rattle.gb_pairs.specs.Bounds.{high_of, low_of}
use Rattle.gb_pairs.specs.Written.{is_half, is_same_pair}
use Rattle.gb_pairs.specs.Covering.{is_byte}
pub use Rattle.gb_pairs.specs.Meaning.{Within}
use Rattle.gb_pairs.specs.Meaning.{Beside, word_of, other_of, AreLinked, IsLinked, IsOtherIn, AreReadIn, HoldPairs, AreBytes, Holds}

-- ---- bounds

-- the pair lies in the bounds
pub record IsSoundBounds (p : WordPair) (v : Values) (b : Bounds) : Type 0 where
  pub gives : (was : Beside) (x : Registers ℕ) → Holds v was x → Within b (word_of p x)

-- what a link reads lies in the bounds, where it reads memory within m
pub record IsSoundOther (m : Bounds) (o : Other) (v : Values) (b : Bounds) : Type 0 where
  pub gives : (was : Beside) (x : Registers ℕ) → IsOtherIn o m was.memory → Holds v was x → Within b (other_of o was x)

-- each pair lies in its bounds
pub record AreWithin (b : PairBounds) (was : Registers ℕ) : Type 0 where
  pub each : (p : WordPair) → Within (bounds_in p b) (word_of p was)

-- ---- reducing

abbrev pub HoldsIn : Option Values → Beside → Registers ℕ → Type 0
HoldsIn None was x = ⊥
HoldsIn (Some w) was x = Holds w was x

-- so is the word that the link is about without its base, if that lay in the bounds
pub record IsSoundWithoutBase (b : Bounds) (l : Link) (o : Option Link) : Type 0 where
  pub gives : (k : Link) (base w n : ℕ) → o ≡ Some k → Within b base → AreLinked l base w n → AreLinked k 0 w n

-- no registers are lost, where the pairs lay in these bounds as the procedure was entered, and links read memory within others
pub record IsSoundReducing (entered read : PairBounds) (v : Values) (o : Option Values) : Type 0 where
  pub gives :
      (was : Beside) (x : Registers ℕ)
      → AreWithin entered was.entered → AreReadIn v.pairs read was.memory → AreBytes x → Holds v was x → HoldsIn o was x

-- nor where a pair is in b, and what its link, which has no base, reads in o
pub record IsSoundByLink (p : WordPair) (l : Link) (o b : Bounds) (v : Values) (r : Option Values) : Type 0 where
  pub gives :
      (was : Beside) (x : Registers ℕ) → AreBytes x → other_of l.other was x < 65536 → Within o (other_of l.other was x) → Within b (word_of p x)
      → AreLinked l 0 (word_of p x) (other_of l.other was x) → Holds v was x
      → HoldsIn r was x

-- no registers are lost whose pair lies within the bounds
pub record IsSoundRestriction (p : WordPair) (within : Bounds) (v : Values) (o : Option Values) : Type 0 where
  pub gives : (was : Beside) (x : Registers ℕ) → Within within (word_of p x) → Holds v was x → HoldsIn o was x

-- each value and each pair's own bounds are cut or stay, a value's in order and with ends that have its low bits; origins and links
-- stay
pub record IsCut (v w : Values) : Type 0 where
  pub least : (r : Register) → (get r v.registers).lo ≤ (get r w.registers).lo
  pub most : (r : Register) → (get r w.registers).hi ≤ (get r v.registers).hi
  pub order : (r : Register) → (get r v.registers).lo ≤ (get r v.registers).hi → (get r w.registers).lo ≤ (get r w.registers).hi
  pub strided : (r : Register) → is_strided (get r v.registers) ≡ true → is_strided (get r w.registers) ≡ true
  pub origin : (r : Register) → (get r w.registers).origin ≡ (get r v.registers).origin
  pub first : (p : WordPair) → (facts_of p v.pairs).bounds.first ≤ (facts_of p w.pairs).bounds.first
  pub last : (p : WordPair) → (facts_of p w.pairs).bounds.last ≤ (facts_of p v.pairs).bounds.last
  pub link : (p : WordPair) → (facts_of p w.pairs).link ≡ (facts_of p v.pairs).link

-- ---- forgetting

-- whatever the register becomes
pub record IsSoundForgetting (r : Register) (s after : Pairs) : Type 0 where
  pub gives : (was : Beside) (x : Registers ℕ) (n : ℕ) → n ≤ 255 → AreBytes x → HoldPairs s was x → HoldPairs after was (set r n x)

-- however another procedure was entered
pub record IsSoundWithoutBases (s after : Pairs) : Type 0 where
  pub gives : (was : Beside) (entered x : Registers ℕ) → HoldPairs s was x → HoldPairs after (record was { entered = entered }) x

-- ---- copies

-- wherever p becomes what q is, and no other register changes
pub record IsSoundCopy (p q : WordPair) (k : Option Link) (l : Link) : Type 0 where
  pub gives :
      (was : Beside) (x y : Registers ℕ)
      → is_same_pair p q ≡ false → word_of p y ≡ word_of q x → ((r : Register) → is_half r p ≡ false → get r y ≡ get r x)
      → IsLinked k q was x → IsLinked (Some l) p was y

-- ---- steps

-- a pair becomes a word
abbrev pub with_word : WordPair → ℕ → Registers ℕ → Registers ℕ
with_word p w x = set (low_of p) (w % 256) (set (high_of p) (w / 256) x)

-- a pair moves by an amount, modulo 65536
pub record IsSoundStep (p : WordPair) (amount : ℕ) (v : Values) (after : Pairs) : Type 0 where
  pub gives :
      (was : Beside) (x : Registers ℕ) → AreBytes x → Holds v was x → HoldPairs after was (with_word p ((word_of p x + amount) % 65536) x)

-- a register moves by an amount, modulo 256
pub record IsSoundByteStep (r : Register) (amount : ℕ) (v : Values) (after : Pairs) : Type 0 where
  pub gives :
      (was : Beside) (x : Registers ℕ) → AreBytes x → Holds v was x → HoldPairs after was (set r ((get r x + amount) % 256) x)

-- the carry is as it is known
abbrev pub IsCarry : Option Bool → ℕ → Type 0
IsCarry None sum = Unit {0}
IsCarry (Some carry) sum = nat_lt 65535 sum ≡ carry

-- it is the pair's word, where it is told which
abbrev pub IsWordOf : Option WordPair → ℕ → Registers ℕ → Type 0
IsWordOf None n x = Unit {0}
IsWordOf (Some p) n x = n ≡ word_of p x

-- to HL a word from the bounds is added, which a pair may hold
pub record IsSoundSum (y : Bounds) (from : Option WordPair) (v : Values) (a : HlSum) : Type 0 where
  pub pairs :
      (was : Beside) (x : Registers ℕ) (n : ℕ) → AreBytes x → Holds v was x → y.first ≤ n → n ≤ y.last → IsWordOf from n x
      → HoldPairs a.pairs was (with_word pair.Hl ((word_of pair.Hl x + n) % 65536) x)
  pub carry :
      (was : Beside) (x : Registers ℕ) (n : ℕ) → AreBytes x → Holds v was x → y.first ≤ n → n ≤ y.last
      → IsCarry a.carry (word_of pair.Hl x + n)

-- ---- covering

-- some places hold one byte, where it is told which
abbrev pub AreOneByte : Option OneByte → Beside → Registers ℕ → Type 0
AreOneByte None was x = Unit {0}
AreOneByte (Some b) was x = (o p : Other) → is_byte b o ≡ true → is_byte b p ≡ true → other_of o was x ≡ other_of p was x

-- a register whose value is a copy of what one held as the procedure was entered holds that
pub record AreCopies (v : Registers Val) (was x : Registers ℕ) : Type 0 where
  pub each : (r s : Register) → (get r v).origin ≡ Some (origin_of_register s) → get r x ≡ get s was

-- what is known of pairs holds of all that the values stand for, where the links of s and of t read memory within bounds
pub record ArePartOf (by : Option OneByte) (s : Values) (m n : PairBounds) (t : Pairs) : Type 0 where
  pub gives :
      (was : Beside) (x : Registers ℕ)
      → AreOneByte by was x → AreCopies s.registers was.entered x → AreReadIn s.pairs m was.memory → AreReadIn t n was.memory
      → Holds s was x → HoldPairs t was x
