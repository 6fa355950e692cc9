-- The one spelling of the fields of version 4, and of each certificate of any version, in bytes (own format). Words have their low byte first.
use Rattle.std.specs.Prelude.{◌≡◌, ℕ, Bool, true, false, ◌==◌, ◌+◌, ◌-◌, ◌*◌, ◌/◌, ◌%◌, List, [], ◌∷◌, ◌++◌, Option, Some, None, length, not, ◌&&◌, is_some}
use Rattle.std.specs.List.{flat_map}
use Rattle.gb_ops.specs.declared.machine.Region.{Region}
use Rattle.gb_ops.specs.declared.registers.Registers.{Registers}
use Rattle.gb_ops.specs.declared.op.Pointer.{Pointer}
use Rattle.gb_ops.specs.declared.op.Pointer.TheVariants as pointer
use Rattle.gb_domain.specs.declared.types.Origin.{Origin}
use Rattle.gb_domain.specs.declared.types.Origin.TheVariants.{Kept, MarkHigh, MarkLow}
use Rattle.gb_domain.specs.declared.types.KeptBanks.{KeptBanks}
use Rattle.gb_domain.specs.declared.types.Val.{Val}
use Rattle.gb_domain.specs.declared.types.Ctl.{Ctl}
use Rattle.gb_domain.specs.declared.types.Core.{Core}
use Rattle.gb_domain.specs.declared.types.Cell.{Cell}
use Rattle.gb_domain.specs.declared.relations.Relations.{Relations}
use Rattle.gb_domain.specs.Areas.{meets}
use Rattle.gb_domain.specs.RelationRules.{compared}
use Rattle.gb_domain.specs.declared.rules.Rules.TheVariants.{Extended}
use Rattle.gb_fields.specs.Limits.{unit}
use Rattle.gb_domain.specs.Limits.{rules_of}
use Rattle.gb_fields.specs.Rules.{any_rules_of}
use Rattle.gb_domain.specs.Certificate.{Certificate}
use Rattle.gb_domain.specs.Types.{AbsState, ProcedureParts, Node}
use Rattle.gb_domain.specs.declared.summary.Fact.{Fact}
use Rattle.gb_domain.specs.declared.summary.Fill.{Fill}
use Rattle.gb_domain.specs.declared.summary.FillEnd.{FillEnd}
use Rattle.gb_domain.specs.declared.summary.Reach.{Reach}
use Rattle.gb_domain.specs.declared.summary.Reach.TheVariants.{Below, Above}
use Rattle.gb_domain.specs.declared.summary.Shadows.{Shadows}
use Rattle.gb_domain.specs.declared.summary.BankShadows.{BankShadows}
use Rattle.gb_domain.specs.Summaries.{SummaryParts}
use Rattle.gb_fields.specs.Reading.{turned}
use Rattle.gb_states.specs.declared.whole.Declared.{Declared}
use Rattle.gb_states.specs.declared.form.ProcedureForm.{ProcedureForm}
use Rattle.gb_states.specs.declared.relations.InMemory.{InMemory}
use Rattle.gb_states.specs.declared.relations.InMemory.TheVariants.{Nowhere, Address, Item}
use Rattle.gb_states.specs.Rules.{is_unshadowed}
use Rattle.gb_states.specs.WholeRules.{item_base, is_said, procedure_forms, form_in, IsCertificate}
use Rattle.gb_states.specs.Numbers.{word, flag}
use Rattle.gb_states.specs.Spelling as simple
use Rattle.gb_states.specs.RelationSpelling.{where_there, optional, bounds, registers_number, present_by, present_number, parts_by}

-- ---- values

-- as in versions 1 to 3, then the bytes that are kept, and the mark's
abbrev pub origin_number : Option Origin → ℕ
origin_number (Some (Kept i)) = 12 + i
origin_number (Some MarkHigh) = 28
origin_number (Some MarkLow) = 29
origin_number o = simple.origin_number o

-- bits 0 to 4: the origin; bits 5 to 7: how many low bits are known
abbrev pub tag : Val → ℕ
tag v = 32 * v.low_bits + origin_number v.origin

unfoldable pub val : Val → List ℕ
val v = v.lo ∷ v.hi ∷ tag v ∷ []

-- bit 0: the bank's low byte is kept; 1: the second register; 2: the gate; 3: the mode; 4: the bank's ninth bit
abbrev pub kept_number : KeptBanks → ℕ
kept_number k = 16 * flag k.high_bank + 8 * flag k.mode + 4 * flag k.gate + 2 * flag k.second + flag k.bank

-- ---- facts and fills

unfoldable pub stretch : ℕ → ℕ → List ℕ
stretch first last = word first ++ word last

unfoldable pub fact : Fact → List ℕ
fact f = (stretch f.first f.last ++ (f.step ∷ [])) ++ ((f.value.lo ∷ f.value.hi ∷ []) ++ (f.value.count ∷ []))

abbrev pub pointer_number : Pointer → ℕ
pointer_number pointer.Bc = 1
pointer_number pointer.De = 2
pointer_number pointer.Hl = 3
pointer_number pointer.HighC = 4

-- 1 to 4 for those below their end, 5 to 8 for those above
abbrev pub reach_number : Reach → ℕ
reach_number Below = 0
reach_number Above = 4

abbrev pub end_number : FillEnd → ℕ
end_number e = reach_number e.reach + pointer_number e.pointer

-- 0, or what the end is and its distance
abbrev pub fill_end : Option FillEnd → List ℕ
fill_end None = 0 ∷ []
fill_end (Some e) = end_number e ∷ word (turned e.offset)

unfoldable pub fill : Fill → List ℕ
fill f = stretch f.first f.last ++ (fill_end f.end ++ (f.lo ∷ f.hi ∷ []))

-- how many facts hold, and the fills behind their count
unfoldable pub levels : ℕ × List Fill → List ℕ
levels p = word p.0 ++ simple.counted fill p.1

-- ---- shadows

-- bits 0 to 6: A, B, C, D, E, H and L are among the places; bit 7: so is an address
abbrev pub shadows_number : Shadows → ℕ
shadows_number s = 128 * flag (is_some s.address) + registers_number s.registers

unfoldable pub shadows : Shadows → List ℕ
shadows s = shadows_number s ∷ optional word s.address

-- those of the first window, then those of the second
unfoldable pub bank_shadows : BankShadows → List ℕ
bank_shadows b = shadows b.first ++ shadows b.second

-- ---- what a state says that is about the whole program

-- There are shadows, a level or fills exactly where they say something; whether the one byte has an item is known.
abbrev pub declared_in : Bool → SummaryParts → Declared
declared_in item s = record { shadows = not (is_unshadowed s.shadows.first && is_unshadowed s.shadows.second); levels = is_said s.level (length s.fills); aside = is_some s.aside; item = item }

-- bit 0: shadows; 1: the level and the fills; 2: where SP points while the stack is put aside; 3: the one byte's item
abbrev pub declared_number : Declared → ℕ
declared_number d = 8 * flag d.item + 4 * flag d.aside + 2 * flag d.levels + flag d.shadows

-- the parts that there are, behind the number that says which
unfoldable pub summary : SummaryParts → List ℕ
summary s =
    where_there (not (is_unshadowed s.shadows.first && is_unshadowed s.shadows.second)) (bank_shadows s.shadows)
    ++ (where_there (is_said s.level (length s.fills)) (levels (s.level, s.fills)) ++ optional bounds s.aside)

-- ---- what a procedure names

-- addresses to be kept, behind their count
unfoldable pub kept_addresses : List ℕ → List ℕ
kept_addresses addresses = simple.counted word addresses

-- ---- what a certificate says

-- facts behind their count
unfoldable pub facts : List Fact → List ℕ
facts fs = word (length fs) ++ flat_map fact fs

-- ---- states

unfoldable pub ctl : Ctl → List ℕ
ctl c = simple.ctl_by kept_number c

unfoldable pub vals : Registers Val → List ℕ
vals r = simple.vals_by val r

-- a core, and the test that stands in it
unfoldable pub core : Core → Option ℕ → List ℕ
core c t = simple.core_by ctl val vals c t

unfoldable pub cell : Cell → List ℕ
cell c = word c.address ++ val c.val

-- In the region lie items, outside it other bytes.
abbrev pub place_if : Bool → InMemory
place_if true = Item
place_if false = Address

-- where the one byte's place in memory lies
abbrev pub place_in : Region → Option ℕ → InMemory
place_in region None = Nowhere
place_in region (Some address) = place_if (meets region address address)

abbrev pub is_address : InMemory → Bool
is_address Nowhere = false
is_address Address = true
is_address Item = false

abbrev pub is_item : InMemory → Bool
is_item Nowhere = false
is_item Address = false
is_item Item = true

-- the number of the item that lies there, in one byte
abbrev pub item_number : ℕ → ℕ → ℕ
item_number base address = (base - 1 - address) % 256

abbrev pub memory_if : Bool → ℕ → ℕ → List ℕ
memory_if true base address = item_number base address ∷ []
memory_if false base address = word address

-- the one byte's place in memory: an item's number, or an address
abbrev pub memory : Region → ℕ → Option ℕ → List ℕ
memory region base None = []
memory region base (Some address) = memory_if (meets region address address) base address

-- which parts there are of both, and then these, where the one byte's place in memory lies there and these bytes spell it
abbrev pub told_by : InMemory → List ℕ → Relations × SummaryParts → List ℕ
told_by place bytes p = present_number (present_by (is_address place) p.0) ∷ declared_number (declared_in (is_item place) p.1) ∷ (parts_by bytes p.0 ++ summary p.1)

-- what is known of several parts together and what is said of the whole program, where items are counted from this base
unfoldable pub told : Region → ℕ → Relations × SummaryParts → List ℕ
told region base p = told_by (place_in region p.0.byte.address) (memory region base p.0.byte.address) p

-- a core with its test, items, what is known and said, and cells, in a procedure with this base
unfoldable pub state : Region → ℕ → AbsState → List ℕ
state region base s = core s.core (compared s.relations.byte.test) ++ (simple.counted val s.items ++ (told region (item_base base region) (s.relations, s.summary) ++ simple.counted cell s.cells))

-- ---- procedures and nodes

-- whether it returns, and in what state
unfoldable pub exit : Region → ℕ → Option AbsState → List ℕ
exit region base None = 0 ∷ []
exit region base (Some s) = 1 ∷ state region base s

unfoldable pub procedure : Region → ProcedureParts → List ℕ
procedure region p =
    simple.node_number 4 p.entry
    ++ (simple.base Extended p.base ++ (word (p.need / unit Extended) ++ (simple.counted simple.range p.ranges ++ ((kept_addresses p.kept ++ (p.mark ∷ [])) ++ exit region p.base p.exit))))

-- of procedures that have such forms
unfoldable pub node : Region → (ℕ → ProcedureForm) → Node → List ℕ
node region form_of n = (word n.procedure ++ word n.address) ++ (word n.bank ++ state region (form_of n.procedure).base n.state)

-- ---- certificates of any version

abbrev pub procedure_count_by : Bool → ℕ → List ℕ
procedure_count_by true n = word n
procedure_count_by false n = n ∷ []

-- the letters, the version, the stack region, how many procedures and nodes there are
unfoldable pub head : Certificate → List ℕ
head c =
    (0x47 ∷ 0x42 ∷ 0x42 ∷ simple.letter (any_rules_of c.version) ∷ c.version ∷ [])
    ++ (word c.region.first ++ (word c.region.last ++ (procedure_count_by (c.version == 4) (length c.procedures) ++ simple.node_number c.version (length c.nodes))))

-- Versions 1 to 3 have no facts.
abbrev pub facts_by : Bool → List Fact → List ℕ
facts_by true fs = facts fs
facts_by false fs = []

abbrev pub procedure_by : Bool → ℕ → Region → ProcedureParts → List ℕ
procedure_by true version region p = procedure region p
procedure_by false version region p = simple.procedure version p

abbrev pub node_by : Bool → ℕ → Region → (ℕ → ProcedureForm) → Node → List ℕ
node_by true version region form_of n = node region form_of n
node_by false version region form_of n = simple.node (rules_of version) n

-- all nodes, of these procedures
abbrev pub nodes : ℕ → Region → List ProcedureParts → List Node → List ℕ
nodes version region procedures ns = flat_map (node_by (version == 4) version region (form_in (procedure_forms procedures))) ns

unfoldable pub spelling : Certificate → List ℕ
spelling c = head c ++ (facts_by (c.version == 4) c.facts ++ (flat_map (procedure_by (c.version == 4) c.version c.region) c.procedures ++ nodes c.version c.region c.procedures c.nodes))

-- The bytes are a certificate of version 1, 2, 3 or 4, and this one.
pub record Spells (bytes : List ℕ) (c : Certificate) : Type 0 where
  pub is_certificate : IsCertificate c
  pub is_spelling : bytes ≡ spelling c
