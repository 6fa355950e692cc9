-- What is known of registers and their pairs, and which registers, entries and memories it stands for (abstract interpretation:
-- concretization; own).
use Rattle.std.specs.Prelude.{◌≡◌, ℕ, ◌+◌, ◌*◌, ◌%◌, ◌≤◌, ◌<◌, Option, Some, None}
use Rattle.gb_ops.specs.declared.op.Register.{Register}
use Rattle.gb_ops.specs.declared.registers.Registers.{Registers}
use Rattle.gb_ops.specs.Registers.{get}
use Rattle.gb_ops.specs.Pairs.{word}
use Rattle.gb_domain.specs.declared.pairs.WordPair.{WordPair}
use Rattle.gb_domain.specs.declared.pairs.WordPair.TheVariants as pair
use Rattle.gb_domain.specs.declared.pairs.Other.{Other}
use Rattle.gb_domain.specs.declared.pairs.Other.TheVariants as other
use Rattle.gb_domain.specs.declared.pairs.Link.{Link}
use Rattle.gb_domain.specs.declared.pairs.Bounds.{Bounds}
use Rattle.gb_domain.specs.declared.pairs.PairBounds.{PairBounds}
use Rattle.gb_domain.specs.declared.pairs.PairFacts.{PairFacts}
use Rattle.gb_domain.specs.declared.pairs.Pairs.{Pairs}
use Rattle.gb_domain.specs.Pairs.{facts_of, bounds_in}
use Rattle.gb_vals.specs.Meaning.{In}
use Rattle.gb_pairs.specs.declared.values.Values.{Values}

-- the word that a pair holds
abbrev pub word_of : WordPair → Registers ℕ → ℕ
word_of pair.Bc x = word x.b x.c
word_of pair.De x = word x.d x.e
word_of pair.Hl x = word x.h x.l

-- what links speak of besides the registers: those as the procedure was entered, and memory by address
pub record Beside : Type 0 where
  pub entered : Registers ℕ
  pub memory : ℕ → ℕ

-- what a link reads beside its pair
abbrev pub other_of : Other → Beside → Registers ℕ → ℕ
other_of (other.Register r) was x = get r x
other_of (other.Pair p) was x = word_of p x
other_of (other.Cell a) was x = was.memory a
other_of other.Nothing was x = 0

-- a link's base: what a pair held as the procedure was entered
abbrev pub base_of : Option WordPair → Registers ℕ → ℕ
base_of None was = 0
base_of (Some p) was = word_of p was

-- of a word, another and a base: word + factor * other = base + sum + more, modulo 65536, and more is up to the width
pub record AreLinked (l : Link) (b w n : ℕ) : Type 0 where
  pub more : ℕ
  pub most : more ≤ l.width
  pub sum : (w + l.factor * n) % 65536 ≡ (b + l.sum + more) % 65536

-- a pair and what its link reads
abbrev pub IsLinked : Option Link → WordPair → Beside → Registers ℕ → Type 0
IsLinked None p was x = Unit {0}
IsLinked (Some l) p was x = AreLinked l (base_of l.base was.entered) (word_of p x) (other_of l.other was x)

pub record HoldsPair (f : PairFacts) (p : WordPair) (was : Beside) (x : Registers ℕ) : Type 0 where
  pub first : f.bounds.first ≤ word_of p x
  pub last : word_of p x ≤ f.bounds.last
  pub link : IsLinked f.link p was x

pub record HoldPairs (s : Pairs) (was : Beside) (x : Registers ℕ) : Type 0 where
  pub each : (p : WordPair) → HoldsPair (facts_of p s) p was x

-- each register holds a byte
pub record AreBytes (x : Registers ℕ) : Type 0 where
  pub each : (r : Register) → get r x < 256

-- the registers are some that the values stand for
pub record Holds (v : Values) (was : Beside) (x : Registers ℕ) : Type 0 where
  pub registers : (r : Register) → In (get r v.registers) (get r x)
  pub pairs : HoldPairs v.pairs was x

-- a word lies in bounds
pub record Within (b : Bounds) (w : ℕ) : Type 0 where
  pub least : b.first ≤ w
  pub most : w ≤ b.last

-- so does a byte
pub record IsByteIn (b : Bounds) (n : ℕ) : Type 0 where
  pub within : Within b n
  pub small : n < 256

-- what is read of memory is a byte in bounds
abbrev pub IsOtherIn : Other → Bounds → (ℕ → ℕ) → Type 0
IsOtherIn (other.Cell a) b memory = IsByteIn b (memory a)
IsOtherIn _ b memory = Unit {0}

abbrev pub IsReadIn : Option Link → Bounds → (ℕ → ℕ) → Type 0
IsReadIn None b memory = Unit {0}
IsReadIn (Some l) b memory = IsOtherIn l.other b memory

-- so do those that pairs' links read
pub record AreReadIn (s : Pairs) (b : PairBounds) (memory : ℕ → ℕ) : Type 0 where
  pub each : (p : WordPair) → IsReadIn (facts_of p s).link (bounds_in p b) memory
