-- The one spelling of what a state says of several of its parts together, in bytes (own format). Words have their low byte first.
use Rattle.std.specs.Prelude.{ℕ, ◌+◌, ◌*◌, ◌%◌, Bool, true, false, not, ◌==◌, List, [], ◌∷◌, ◌++◌, Option, Some, None, is_some}
use Rattle.gb_ops.specs.declared.op.Register.TheVariants.{A, B, C, D, E, H, L}
use Rattle.gb_ops.specs.declared.registers.Registers.{Registers}
use Rattle.gb_domain.specs.declared.pairs.WordPair.{WordPair}
use Rattle.gb_domain.specs.declared.pairs.WordPair.TheVariants.{Bc, De, Hl}
use Rattle.gb_domain.specs.declared.pairs.Bounds.{Bounds}
use Rattle.gb_domain.specs.declared.pairs.Other.{Other}
use Rattle.gb_domain.specs.declared.pairs.Other.TheVariants.{Register as Of, Pair, Cell, Nothing}
use Rattle.gb_domain.specs.declared.pairs.Link.{Link}
use Rattle.gb_domain.specs.declared.pairs.PairFacts.{PairFacts}
use Rattle.gb_domain.specs.declared.pairs.Pairs.{Pairs}
use Rattle.gb_domain.specs.declared.places.OneByte.{OneByte}
use Rattle.gb_domain.specs.declared.relations.Relations.{Relations}
use Rattle.gb_domain.specs.declared.rules.Rules.{Rules}
use Rattle.gb_domain.specs.declared.rules.Rules.TheVariants.{Simple, Extended}
use Rattle.gb_states.specs.declared.relations.Present.{Present}
use Rattle.gb_domain.specs.RelationRules.{has_place, bits_of, is_known}
use Rattle.gb_states.specs.Links.{reads_other}
use Rattle.gb_states.specs.Numbers.{word, flag}

-- bytes that are there or not
abbrev pub where_there : Bool → List ℕ → List ℕ
where_there true bytes = bytes
where_there false bytes = []

-- a field that is there or not
abbrev pub optional : {X : Type 0} → (X → List ℕ) → Option X → List ℕ
optional spell None = []
optional spell (Some x) = spell x

-- one byte
abbrev pub byte : ℕ → List ℕ
byte n = n ∷ []

-- ---- which parts there are

-- There is one byte exactly where there is a place for it, and a pair exactly where something is known of it; whether an address stands
-- there depends on the version.
abbrev pub present_by : Bool → Relations → Present
present_by address r = record { byte = has_place r.byte; address = address; bits = is_some (bits_of r.byte.test); zero = is_some r.zero; bc = is_known r.pairs.bc; de = is_known r.pairs.de; hl = is_known r.pairs.hl }

-- In versions 1 to 3 each place in memory is an address.
abbrev pub present_in : Relations → Present
present_in r = present_by (is_some r.byte.address) r

-- bit 0: one byte; 1: its address; 2: bits; 3: what is zero; 4, 5 and 6: the pairs BC, DE and HL
abbrev pub present_number : Present → ℕ
present_number p = 64 * flag p.hl + 32 * flag p.de + 16 * flag p.bc + 8 * flag p.zero + 4 * flag p.bits + 2 * flag p.address + flag p.byte

-- ---- places that hold one byte

-- bits 0 to 6: A, B, C, D, E, H and L are among them
abbrev pub registers_number : Registers Bool → ℕ
registers_number s = 64 * flag s.l + 32 * flag s.h + 16 * flag s.e + 8 * flag s.d + 4 * flag s.c + 2 * flag s.b + flag s.a

-- These bytes spell the place in memory. What a test compares with stands elsewhere in the state.
unfoldable pub places_by : List ℕ → OneByte → List ℕ
places_by memory b = registers_number b.registers ∷ (memory ++ optional byte (bits_of b.test))

-- ---- pairs

abbrev pub pair_number : WordPair → ℕ
pair_number Bc = 0
pair_number De = 1
pair_number Hl = 2

abbrev pub pair : WordPair → List ℕ
pair p = byte (pair_number p)

abbrev pub other_number : Other → ℕ
other_number (Of A) = 0
other_number (Of B) = 1
other_number (Of C) = 2
other_number (Of D) = 3
other_number (Of E) = 4
other_number (Of H) = 5
other_number (Of L) = 6
other_number (Pair p) = 7 + pair_number p
other_number (Cell a) = 10
other_number Nothing = 12

-- the address of a byte of RAM
abbrev pub argument : Other → List ℕ
argument (Cell a) = word a
argument _ = []

-- The factor, in two's complement. Of what reads nothing else it is 1, and isn't spelled.
abbrev pub factor : Other → ℕ → List ℕ
factor other n = where_there (reads_other other) (byte (n % 256))

-- A width of 0 isn't spelled: there is one sum.
abbrev pub has_width : ℕ → Bool
has_width width = not (width == 0)

abbrev pub width : ℕ → List ℕ
width n = where_there (has_width n) (word n)

-- what else a link reads; 64 more where it has a base, and 128 more where it has a width
abbrev pub form_number : Link → ℕ
form_number l = 128 * flag (has_width l.width) + (64 * flag (is_some l.base) + (1 + other_number l.other))

-- 0, or the form, the address, the factor, the base, the sum and the width
abbrev pub link : Option Link → List ℕ
link None = 0 ∷ []
link (Some l) = form_number l ∷ (argument l.other ++ (factor l.other l.factor ++ (optional pair l.base ++ (word l.sum ++ width l.width))))

abbrev pub bounds : Bounds → List ℕ
bounds b = word b.first ++ word b.last

unfoldable pub facts : PairFacts → List ℕ
facts f = bounds f.bounds ++ link f.link

-- of a pair, where something is known
abbrev pub known_facts : PairFacts → List ℕ
known_facts f = where_there (is_known f) (facts f)

unfoldable pub pairs : Pairs → List ℕ
pairs s = known_facts s.bc ++ (known_facts s.de ++ known_facts s.hl)

-- ---- all of them

-- those that there are, by the bytes of the one byte's place in memory
abbrev pub parts_by : List ℕ → Relations → List ℕ
parts_by memory r = where_there (has_place r.byte) (places_by memory r.byte) ++ (optional pair r.zero ++ pairs r.pairs)

-- In versions 1 to 3 that is an address.
abbrev pub parts : Relations → List ℕ
parts r = parts_by (optional word r.byte.address) r

unfoldable pub relations : Relations → List ℕ
relations r = present_number (present_in r) ∷ parts r

-- Versions 1 and 2 spell no more of them than the test, which stands elsewhere in the state.
abbrev pub relations_by : Rules → Relations → List ℕ
relations_by Simple r = []
relations_by Extended r = relations r
