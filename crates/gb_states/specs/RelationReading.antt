-- Reading what a state says of several of its parts together, field by field (own format). A test of two fields is made behind the later one.
use Rattle.std.specs.Prelude.{ℕ, ◌+◌, ◌-◌, ◌/◌, ◌%◌, Bool, true, false, not, ◌&&◌, ◌||◌, ◌==◌, nat_lt, nat_le, Option, Some, None, is_some, if◌then◌else◌}
use Rattle.gb_ops.specs.declared.machine.Region.{Region}
use Rattle.gb_ops.specs.declared.op.Register.TheVariants.{A, B, C, D, E, H, L}
use Rattle.gb_ops.specs.declared.registers.Registers.{Registers}
use Rattle.gb_fields.specs.declared.fault.CertFault.TheVariants as fault
use Rattle.gb_domain.specs.declared.pairs.WordPair.{WordPair}
use Rattle.gb_domain.specs.declared.pairs.WordPair.TheVariants.{Bc, De, Hl}
use Rattle.gb_domain.specs.declared.pairs.Bounds.{Bounds}
use Rattle.gb_domain.specs.declared.pairs.Other.{Other}
use Rattle.gb_domain.specs.declared.pairs.Other.TheVariants.{Register as Of, Pair, Cell, Nothing}
use Rattle.gb_domain.specs.declared.pairs.Link.{Link}
use Rattle.gb_domain.specs.declared.pairs.PairFacts.{PairFacts}
use Rattle.gb_domain.specs.declared.pairs.Pairs.{Pairs}
use Rattle.gb_domain.specs.declared.places.Test.{Test}
use Rattle.gb_domain.specs.declared.places.Test.TheVariants.{Compare, Bits}
use Rattle.gb_domain.specs.declared.places.OneByte.{OneByte}
use Rattle.gb_domain.specs.declared.places.StackBytes.{StackBytes}
use Rattle.gb_domain.specs.declared.relations.Relations.{Relations}
use Rattle.gb_domain.specs.declared.rules.Rules.{Rules}
use Rattle.gb_domain.specs.declared.rules.Rules.TheVariants.{Simple, Extended}
use Rattle.gb_domain.specs.Pairs.{nothing_known}
use Rattle.gb_domain.specs.Places.{no_byte}
use Rattle.gb_states.specs.declared.relations.Present.{Present}
use Rattle.gb_states.specs.declared.relations.LinkForm.{LinkForm}
use Rattle.gb_states.specs.declared.relations.InMemory.{InMemory}
use Rattle.gb_states.specs.declared.relations.InMemory.TheVariants.{Nowhere, Address, Item}
use Rattle.gb_fields.specs.Format.{Read, followed, both, mapped, checked, optional, byte}
use Rattle.gb_fields.specs.Reading.{is_between, is_ordered, word, byte_between, word_between, nothing}
use Rattle.gb_domain.specs.Areas.{is_area, meets, is_free_byte}
use Rattle.gb_domain.specs.RelationRules.{is_some_register, is_known, test_alone}
use Rattle.gb_states.specs.Links.{reads_other}

-- a field, or what stands for it where it isn't there
abbrev pub defaulted : {X : Type 0} → X → Bool → Read X → Read X
defaulted x true r = r
defaulted x false r = nothing x

-- ---- which parts there are

-- bit 0: one byte; 1: its address; 2: bits; 3: what is zero; 4, 5 and 6: the pairs BC, DE and HL
abbrev pub to_present : ℕ → Present
to_present n = record { byte = n % 2 == 1; address = n / 2 % 2 == 1; bits = n / 4 % 2 == 1; zero = n / 8 % 2 == 1; bc = n / 16 % 2 == 1; de = n / 32 % 2 == 1; hl = n / 64 == 1 }

-- An address and a test, which either compares or has bits, are of one byte.
abbrev pub is_present : Option ℕ → Present → Bool
is_present test p = (p.byte || not (p.address || is_some test || p.bits)) && not (is_some test && p.bits)

unfoldable pub present_at : Option ℕ → Read Present
present_at test = checked fault.Field (is_present test) (mapped to_present (byte_between 0 127))

-- ---- places that hold one byte

-- bits 0 to 6: A, B, C, D, E, H and L are among them
abbrev pub to_registers : ℕ → Registers Bool
to_registers n = record { a = n % 2 == 1; b = n / 2 % 2 == 1; c = n / 4 % 2 == 1; d = n / 8 % 2 == 1; e = n / 16 % 2 == 1; h = n / 32 % 2 == 1; l = n / 64 == 1 }

-- there is a place, be it in memory or a register
abbrev pub have_place : Bool → Registers Bool → Bool
have_place in_memory registers = in_memory || is_some_register registers

unfoldable pub registers_at : Bool → Read (Registers Bool)
registers_at in_memory = checked fault.Field (have_place in_memory) (mapped to_registers (byte_between 0 127))

unfoldable pub address_at : Region → Read ℕ
address_at region = checked fault.Field (is_free_byte region) word

-- The address lies in RAM and in the region.
abbrev pub is_stack_byte : Region → ℕ → Bool
is_stack_byte region address = is_area address address && meets region address address

-- where the item with this number lies; the oldest has the number 0, and lies right below the base
abbrev pub item_address : ℕ → ℕ → ℕ
item_address base number = base - 1 - number

-- There is an item with this number, and it lies in the region.
abbrev pub is_item_number : StackBytes → ℕ → Bool
is_item_number k number = nat_lt number k.count && is_stack_byte k.region (item_address k.base number)

-- the address of an item, by its number
unfoldable pub item_at : StackBytes → Read ℕ
item_at k = mapped (item_address k.base) (checked fault.Field (is_item_number k) byte)

-- There is a place in memory.
abbrev pub is_somewhere : InMemory → Bool
is_somewhere Nowhere = false
is_somewhere Address = true
is_somewhere Item = true

-- the place in memory, by which bits are set: that of an item, and that of an address
abbrev pub place_by : Bool → Bool → InMemory
place_by true address = Item
place_by false true = Address
place_by false false = Nowhere

-- the address of the place in memory, where there is one
abbrev pub memory_at : StackBytes → InMemory → Read (Option ℕ)
memory_at k Nowhere = nothing None
memory_at k Address = mapped Some (address_at k.region)
memory_at k Item = mapped Some (item_at k)

-- A state's test compares; where it has none there may be bits.
abbrev pub test_of : Option ℕ → Option ℕ → Option Test
test_of (Some n) bits = Some (Compare n)
test_of None (Some m) = Some (Bits m)
test_of None None = None

abbrev pub to_byte : Option ℕ → Registers Bool × (Option ℕ × Option ℕ) → OneByte
to_byte test p = record { registers = p.0; address = p.1.0; test = test_of test p.1.1 }

unfoldable pub byte_at : StackBytes → Option ℕ → InMemory → Bool → Read OneByte
byte_at k test place bits = mapped (to_byte test) (both (registers_at (is_somewhere place)) (both (memory_at k place) (optional bits byte)))

-- ---- pairs

abbrev pub pair_of : ℕ → WordPair
pair_of n =
    if n == 0 then Bc
    else if n == 1 then De
    else Hl

unfoldable pub pair_at : Read WordPair
pair_at = mapped pair_of (byte_between 0 2)

abbrev pub to_bounds : ℕ × ℕ → Bounds
to_bounds p = record { first = p.0; last = p.1 }

unfoldable pub bounds_at : Read Bounds
bounds_at = mapped to_bounds (checked fault.Field is_ordered (both word word))

-- of what has no address
abbrev pub other_of : ℕ → Option Other
other_of n =
    if n == 0 then None
    else if n == 1 then Some (Of A)
    else if n == 2 then Some (Of B)
    else if n == 3 then Some (Of C)
    else if n == 4 then Some (Of D)
    else if n == 5 then Some (Of E)
    else if n == 6 then Some (Of H)
    else if n == 7 then Some (Of L)
    else if n == 8 then Some (Pair Bc)
    else if n == 9 then Some (Pair De)
    else if n == 10 then Some (Pair Hl)
    else Some Nothing

-- In version 4 a link may have a base and a width, and may read a byte of RAM. What reads nothing else has a base.
abbrev pub is_wide_form : ℕ → Bool
is_wide_form n = is_between 1 11 (n % 64) || n % 64 == 13 && n / 64 % 2 == 1

-- 0 where there is no link. In versions 1 to 3 a form says only what else one reads.
abbrev pub is_form : Bool → ℕ → Bool
is_form wide n = is_between 0 10 n || wide && is_wide_form n

-- The address of a byte of RAM comes after the form: in RAM and outside the region.
abbrev pub to_cell : ℕ → Option Other
to_cell address = Some (Cell address)

abbrev pub other_if : Region → Bool → ℕ → Read (Option Other)
other_if region true n = mapped to_cell (address_at region)
other_if region false n = nothing (other_of n)

-- what else a link reads, by bits 0 to 4 of its form
abbrev pub other_at : Region → ℕ → Read (Option Other)
other_at region n = other_if region (n == 11) n

-- bits 0 to 4: what else the link reads; 6: it has a base; 7: it has a width
abbrev pub to_form : ℕ × Option Other → LinkForm
to_form p = record { other = p.1; has_base = p.0 / 64 % 2 == 1; has_width = nat_le 128 p.0 }

unfoldable pub form_at : Bool → Region → Read LinkForm
form_at wide region = mapped to_form (followed (checked fault.Field (is_form wide) byte) (λ n. other_at region (n % 64)))

-- a byte in two's complement as a word
abbrev pub to_factor : ℕ → ℕ
to_factor n = if nat_lt n 128 then n else n + 65280

unfoldable pub factor_at : Read ℕ
factor_at = mapped to_factor (byte_between 1 255)

-- a width that is spelled
unfoldable pub width_at : Read ℕ
width_at = word_between 1 65535

-- The factor of what reads nothing else isn't spelled.
abbrev pub factor_of : Other → Read ℕ
factor_of other = defaulted 1 (reads_other other) factor_at

abbrev pub to_link : Other → ℕ × (Option WordPair × (ℕ × ℕ)) → Option Link
to_link other p = Some (record { other = other; factor = p.0; base = p.1.0; sum = p.1.1.0; width = p.1.1.1 })

-- no link, or the factor, the base, the sum and the width of one
abbrev pub link_of : Option Other → Bool → Bool → Read (Option Link)
link_of None has_base has_width = nothing None
link_of (Some other) has_base has_width = mapped (to_link other) (both (factor_of other) (both (optional has_base pair_at) (both word (defaulted 0 has_width width_at))))

-- a link, which may have a base and a width or may not
unfoldable pub link_at : Bool → Region → Read (Option Link)
link_at wide region = mapped (λ p. p.1) (followed (form_at wide region) (λ f. link_of f.other f.has_base f.has_width))

abbrev pub to_facts : Bounds × Option Link → PairFacts
to_facts p = record { bounds = p.0; link = p.1 }

-- what is known of a pair, which is something
unfoldable pub facts_at : Bool → Region → Read PairFacts
facts_at wide region = checked fault.Field is_known (mapped to_facts (both bounds_at (link_at wide region)))

abbrev pub to_pairs : PairFacts × (PairFacts × PairFacts) → Pairs
to_pairs p = record { bc = p.0; de = p.1.0; hl = p.1.1 }

unfoldable pub pairs_at : Bool → Region → Present → Read Pairs
pairs_at wide region p = mapped to_pairs (both (defaulted nothing_known p.bc (facts_at wide region)) (both (defaulted nothing_known p.de (facts_at wide region)) (defaulted nothing_known p.hl (facts_at wide region))))

-- ---- all of them

abbrev pub to_relations : Present × (OneByte × (Option WordPair × Pairs)) → Relations
to_relations p = record { byte = p.1.0; zero = p.1.1.0; pairs = p.1.1.1 }

-- those that there are; links may have a base and a width or may not, the test is the state's, and the one byte's place in memory is this
abbrev pub parts_at : Bool → StackBytes → Option ℕ → InMemory → Present → Read (OneByte × (Option WordPair × Pairs))
parts_at wide k test place p = both (defaulted no_byte p.byte (byte_at k test place p.bits)) (both (optional p.zero pair_at) (pairs_at wide k.region p))

-- Versions 1 to 3 name no items.
abbrev pub no_items : Region → StackBytes
no_items region = record { region = region; base = 0; count = 0 }

-- which there are, and these
unfoldable pub relations_at : Region → Option ℕ → Read Relations
relations_at region test = mapped to_relations (followed (present_at test) (λ p. parts_at false (no_items region) test (place_by false p.address) p))

-- Versions 1 and 2 say nothing but the test, which is of A.
abbrev pub relations_by : Rules → Region → Option ℕ → Read Relations
relations_by Simple region test = nothing (test_alone test)
relations_by Extended region test = relations_at region test
