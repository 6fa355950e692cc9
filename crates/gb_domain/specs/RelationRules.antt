-- What may be known of several parts of a state together (own format).
use Rattle.std.specs.Prelude.{◌≡◌, ℕ, ◌≤◌, ◌<◌, Bool, true, false, not, ◌&&◌, ◌||◌, ◌==◌, Option, Some, None, IfSome, is_some, is_none}
use Rattle.gb_ops.specs.declared.registers.Registers.{Registers}
use Rattle.gb_domain.specs.declared.pairs.WordPair.{WordPair}
use Rattle.gb_domain.specs.declared.pairs.PairFacts.{PairFacts}
use Rattle.gb_domain.specs.declared.pairs.Pairs.{Pairs}
use Rattle.gb_domain.specs.declared.places.Test.{Test}
use Rattle.gb_domain.specs.declared.places.Test.TheVariants.{Compare, Bits}
use Rattle.gb_domain.specs.declared.places.OneByte.{OneByte}
use Rattle.gb_domain.specs.declared.relations.Relations.{Relations}
use Rattle.gb_domain.specs.Pairs.{facts_of, no_pairs, ArePairs}
use Rattle.gb_domain.specs.Places.{no_place, no_byte}

-- ---- places that hold one byte

abbrev pub is_some_register : Registers Bool → Bool
is_some_register s = s.a || s.b || s.c || s.d || s.e || s.h || s.l

-- there is an address among the places
abbrev pub has_address : OneByte → Bool
has_address b = is_some b.address

-- there is a place
abbrev pub has_place : OneByte → Bool
has_place b = has_address b || is_some_register b.registers

-- the byte that a test compares with, or its bits
abbrev pub operand : Test → ℕ
operand (Compare n) = n
operand (Bits m) = m

-- what a test compares with, where it compares
abbrev pub compared : Option Test → Option ℕ
compared (Some (Compare n)) = Some n
compared _ = None

-- the bits of a test, where it has some
abbrev pub bits_of : Option Test → Option ℕ
bits_of (Some (Bits m)) = Some m
bits_of _ = None

-- An address is one at which a byte may be a place. There is no test without a place, and it is of a byte.
pub record IsOneByte (may_be : ℕ → Bool) (b : OneByte) : Type 0 where
  pub address : IfSome b.address (λ a. may_be a ≡ true)
  pub place : (has_place b || is_none b.test) ≡ true
  pub test : IfSome b.test (λ t. operand t < 256)

-- ---- pairs

-- not any word, or linked
abbrev pub is_known : PairFacts → Bool
is_known f = is_some f.link || not (f.bounds.first == 0 && f.bounds.last == 0xFFFF)

-- ---- all of them

-- The byte, whose address may be such, and the pairs, whose links may read memory at such addresses, are such, and each pair's bounds
-- are in order.
pub record IsRelations (may_be may_read : ℕ → Bool) (r : Relations) : Type 0 where
  pub byte : IsOneByte may_be r.byte
  pub pairs : ArePairs may_read r.pairs
  pub order : (p : WordPair) → (facts_of p r.pairs).bounds.first ≤ (facts_of p r.pairs).bounds.last

-- ---- a test of A alone, as versions 1 and 2 know it

-- A's byte, compared with one
abbrev pub compared_a : ℕ → OneByte
compared_a n = record { registers = record no_place { a = true }; address = None; test = Some (Compare n) }

abbrev pub test_byte : Option ℕ → OneByte
test_byte None = no_byte
test_byte (Some n) = compared_a n

-- what a state that has this test, and nothing else, knows of several parts together
abbrev pub test_alone : Option ℕ → Relations
test_alone test = record { byte = test_byte test; zero = None; pairs = no_pairs }

-- A alone
abbrev pub is_a_alone : Registers Bool → Bool
is_a_alone s = s.a && not (s.b || s.c || s.d || s.e || s.h || s.l)

-- no place, or A's byte compared with one
abbrev pub is_test_byte : Option Test → OneByte → Bool
is_test_byte None b = not (has_place b)
is_test_byte (Some (Compare n)) b = not (has_address b) && is_a_alone b.registers
is_test_byte (Some (Bits m)) b = false

abbrev pub are_unknown : Pairs → Bool
are_unknown s = not (is_known s.bc) && (not (is_known s.de) && not (is_known s.hl))

-- nothing is known but a test of A
abbrev pub is_test_alone : Relations → Bool
is_test_alone r = is_test_byte r.byte.test r.byte && (is_none r.zero && are_unknown r.pairs)
