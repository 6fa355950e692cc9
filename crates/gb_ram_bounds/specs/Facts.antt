-- Facts: what a certificate says of bytes of RAM for the whole program, where no cell says it (own).
use Rattle.std.specs.Prelude.{ℕ, suc, ◌-◌, ◌%◌, Bool, not, ◌&&◌, ◌||◌, ◌==◌, nat_le, nat_lt, min, max, if◌then◌else◌, List, [], ◌∷◌, length, Option, Some, None}
use Rattle.std.specs.List.{list_all}
use Rattle.gb_domain.specs.declared.interval.StridedInterval.{StridedInterval}
use Rattle.gb_domain.specs.LowBits.{are_congruent}
use Rattle.gb_domain.specs.Interval.{cut, lies_in}
use Rattle.gb_domain.specs.Values.{interval_of}
use Rattle.gb_domain.specs.declared.types.Cell.{Cell}
use Rattle.gb_ram_bounds.specs.declared.addresses.AddressSet.{AddressSet}
use Rattle.gb_domain.specs.declared.summary.Fact.{Fact}
use Rattle.gb_ram_bounds.specs.Cells.{has_cell}
use Rattle.gb_ram_bounds.specs.Addresses.{is_in, is_one, some_between}

-- first, first + step, and so on to last
unfoldable pub has_address : Fact → ℕ → Bool
has_address f a = nat_le f.first a && nat_le a f.last && nat_lt 0 f.step && (a - f.first) % f.step == 0

-- ---- the byte at an address

abbrev pub or_same : StridedInterval → Option StridedInterval → StridedInterval
or_same v None = v
or_same v (Some w) = w

-- v cut to w; where nothing would be left, v
unfoldable pub cut_or_same : StridedInterval → StridedInterval → StridedInterval
cut_or_same v w = or_same v (cut v w)

unfoldable pub cut_by_fact : Fact → ℕ → StridedInterval → StridedInterval
cut_by_fact f a v = if has_address f a then cut_or_same v f.value else v

-- cut in turn to each fact that has the address
abbrev pub cut_by_facts : List Fact → ℕ → StridedInterval → StridedInterval
cut_by_facts [] a v = v
cut_by_facts (f ∷ facts) a v = cut_by_facts facts a (cut_by_fact f a v)

-- ---- a store

unfoldable pub is_met_at : Fact → AddressSet → ℕ → Bool
is_met_at f s a = has_address f a && is_in s a

-- some address is the fact's and one of these
unfoldable pub meets : Fact → AddressSet → Bool
meets f s = some_between (max f.first s.first) (min f.last s.last) (is_met_at f s)

-- all of the fact's addresses have low bits in common, and these have others
unfoldable pub is_apart : Fact → AddressSet → Bool
is_apart f s = are_congruent s.low.count f.step 0 && not (are_congruent s.low.count f.first s.low.bits)

-- the store may leave there what the fact doesn't allow
unfoldable pub is_broken : AddressSet → StridedInterval → Fact → Bool
is_broken s v f = meets f s && not (lies_in v f.value)

-- how many facts there are before the first that the store breaks
abbrev pub unbroken : AddressSet → StridedInterval → List Fact → ℕ
unbroken s v [] = 0
unbroken s v (f ∷ facts) = if is_broken s v f then 0 else suc (unbroken s v facts)

-- the store is to one address, which has a cell now
unfoldable pub is_to_cell : List Cell → AddressSet → Bool
is_to_cell cells s = is_one s && has_cell cells s.first

-- how many of the facts hold after a store; the cells are those after it
unfoldable pub level_after : List Fact → List Cell → AddressSet → StridedInterval → ℕ
level_after facts cells s v = if is_to_cell cells s then length facts else unbroken s v facts

-- ---- cells that go

-- the fact has another address, or the cell's value lies in the fact's
unfoldable pub allows : Cell → Fact → Bool
allows c f = not (has_address f c.address) || lies_in (interval_of c.val) f.value

abbrev pub all_allow : List Fact → Cell → Bool
all_allow facts c = list_all (allows c) facts

-- the cell is kept, or each fact allows what it says
unfoldable pub is_given_back : List Fact → List Cell → Cell → Bool
is_given_back facts kept c = has_cell kept c.address || all_allow facts c

-- with fewer cells all facts still hold
unfoldable pub keeps_facts : List Fact → List Cell → List Cell → Bool
keeps_facts facts cells kept = list_all (is_given_back facts kept) cells
