-- Which registers, memory and flags stand behind what is known of several of them together (abstract interpretation:
-- concretization; own).
use Rattle.std.specs.Prelude.{◌≡◌, ℕ, ◌==◌, Option, Some, None}
use Rattle.gb_ops.specs.declared.registers.Registers.{Registers}
use Rattle.gb_ops.specs.declared.registers.Flags.{Flags}
use Rattle.gb_domain.specs.declared.pairs.WordPair.{WordPair}
use Rattle.gb_domain.specs.declared.relations.Relations.{Relations}
use Rattle.gb_pairs.specs.Meaning.{word_of, HoldPairs}
use Rattle.gb_copies.specs.Meaning.{HoldOneByte}

-- Z is set exactly where the pair is 0
abbrev pub IsZero : Option WordPair → Registers ℕ → Flags → Type 0
IsZero None x f = Unit {0}
IsZero (Some p) x f = f.zero ≡ (word_of p x == 0)

-- in a procedure that was entered with these registers; memory by address
pub record HoldRelations (r : Relations) (was x : Registers ℕ) (memory : ℕ → ℕ) (f : Flags) : Type 0 where
  pub byte : HoldOneByte r.byte x memory f
  pub zero : IsZero r.zero x f
  pub pairs : HoldPairs r.pairs (record { entered = was; memory = memory }) x
