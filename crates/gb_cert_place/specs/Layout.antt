-- The fields of a block, each with its bytes, in their order (own format).
use Rattle.std.specs.Prelude.{◌≡◌, ℕ, ◌+◌, ◌/◌, ◌%◌, ◌==◌, ◌≤◌, ◌<◌, nat_lt, Bool, true, false, List, [], ◌∷◌, ◌++◌}
use Rattle.gb_ops.specs.declared.op.Register.TheVariants.{A, B, C, D, E, H, L}
use Rattle.gb_domain.specs.declared.rules.Rules.{Rules}
use Rattle.gb_domain.specs.declared.rules.Rules.TheVariants.{Simple, Extended}
use Rattle.gb_states.specs.declared.form.Form.{Form}
use Rattle.gb_states.specs.declared.form.Form.TheVariants.{Older, Fourth}
use Rattle.gb_cert_place.specs.Forms.{rules_in}
use Rattle.gb_cert_place.specs.declared.block.Block.{Block}
use Rattle.gb_cert_place.specs.declared.block.Block.TheVariants as block
use Rattle.gb_cert_place.specs.declared.field.Field.{Field}
use Rattle.gb_cert_place.specs.declared.field.Field.TheVariants as field
use Rattle.gb_cert_place.specs.declared.field.Owner.{Owner}
use Rattle.gb_cert_place.specs.declared.field.Owner.TheVariants as owner

abbrev pub Layout : Type 0
Layout = List (Field × ℕ)

abbrev pub number_width_by : Bool → ℕ
number_width_by true = 2
number_width_by false = 4

-- a node's number: two bytes in version 1, else four
abbrev pub number_width : ℕ → ℕ
number_width version = number_width_by (version == 1)

abbrev pub procedure_width_by : Bool → ℕ
procedure_width_by true = 2
procedure_width_by false = 1

-- a procedure's number: two bytes in version 4, else one
abbrev pub procedure_width : ℕ → ℕ
procedure_width version = procedure_width_by (version == 4)

abbrev pub head_layout : ℕ → Layout
head_layout version = (field.Magic, 4) ∷ (field.Version, 1) ∷ (field.RegionFirst, 2) ∷ (field.RegionLast, 2) ∷ (field.ProcedureCount, procedure_width version) ∷ (field.NodeCount, number_width version) ∷ []

abbrev pub fact_layout : Layout
fact_layout = (field.FactFirst, 2) ∷ (field.FactLast, 2) ∷ (field.FactStep, 1) ∷ (field.FactLeast, 1) ∷ (field.FactGreatest, 1) ∷ (field.FactLowBits, 1) ∷ []

abbrev pub entry_layout : ℕ → Layout
entry_layout version = (field.Entry, number_width version) ∷ []

abbrev pub range_layout : ℕ → Layout
range_layout index = (field.RangeFirst index, 2) ∷ (field.RangeLast index, 2) ∷ []

-- the last byte of a value: its origin, in version 4 with its low bits
abbrev pub origin_field : Form → Owner → Field
origin_field (Older rules) o = field.ValueOrigin o
origin_field (Fourth facts form) o = field.ValueTag o

-- a value, and what is behind it
abbrev pub value_then : Form → Owner → Layout → Layout
value_then form o rest = (field.ValueLeast o, 1) ∷ (field.ValueGreatest o, 1) ∷ (origin_field form o, 1) ∷ rest

abbrev pub values_layout : Form → Layout
values_layout form =
    value_then form owner.Ie
    (value_then form (owner.Register A) (value_then form (owner.Register B) (value_then form (owner.Register C) (value_then form (owner.Register D) (value_then form (owner.Register E) (value_then form (owner.Register H) (value_then form (owner.Register L) [])))))))

abbrev pub flags_then : Layout → Layout
flags_then rest = (field.Flags, 1) ∷ (field.FlagsOrigin, 1) ∷ rest

abbrev pub controller_then : Layout → Layout
controller_then rest = (field.BankLeast, 2) ∷ (field.BankGreatest, 2) ∷ (field.SecondLeast, 1) ∷ (field.SecondGreatest, 1) ∷ (field.GateSet, 1) ∷ (field.ModeSet, 1) ∷ (field.Kept, 1) ∷ rest

abbrev pub core_layout : Form → Layout
core_layout form = (field.ImeSet, 1) ∷ (field.TransferBound, 1) ∷ (field.StackSet, 1) ∷ (field.Test, 1) ∷ (field.TestValue, 1) ∷ controller_then (flags_then (values_layout form))

abbrev pub byte_of_word : Bool → ℕ → Owner
byte_of_word true word = owner.ItemHigh word
byte_of_word false word = owner.ItemLow word

-- in versions 1 and 2 which byte of which word the item with this number is: a word's high byte comes first
abbrev pub item_owner : Rules → ℕ → Owner
item_owner Simple index = byte_of_word (index % 2 == 0) (index / 2)
item_owner Extended index = owner.Item index

abbrev pub item_layout : Form → ℕ → Layout
item_layout form index = value_then form (item_owner (rules_in form) index) []

-- what is known of several parts together, which has 30 bytes at most
abbrev pub told_layout : Layout
told_layout = (field.Told, 30) ∷ []

-- the same in version 4 with what is said of the whole program: 131 bytes at most, of which eight fills are 72
abbrev pub told_whole_layout : Layout
told_whole_layout = (field.ToldWhole, 131) ∷ []

abbrev pub cell_layout : Form → ℕ → Layout
cell_layout form index = (field.CellAddress index, 2) ∷ value_then form (owner.Cell index) []

abbrev pub key_layout : ℕ → Layout
key_layout version = (field.Procedure, procedure_width version) ∷ (field.Address, 2) ∷ []

unfoldable pub layout : Block → Layout
layout (block.Head version) = head_layout version
layout block.FactCount = (field.FactCount, 2) ∷ []
layout (block.Fact region) = fact_layout
layout (block.Entry version nodes) = entry_layout version
layout (block.Base is_main region) = (field.Base, 2) ∷ []
layout (block.Need rules is_main region) = (field.Need, 2) ∷ []
layout (block.RangeCount rules is_main) = (field.RangeCount, 1) ∷ []
layout (block.Range index region least) = range_layout index
layout (block.KeptCount is_main) = (field.KeptCount, 1) ∷ []
layout (block.KeptAddress index region least) = (field.KeptAddress index, 2) ∷ []
layout block.Mark = (field.Mark, 1) ∷ []
layout (block.Returns is_main) = (field.Returns, 1) ∷ []
layout (block.Core form role) = core_layout form
layout (block.ItemCount rules role stack_set) = (field.ItemCount, 1) ∷ []
layout (block.Item form index) = item_layout form index
layout (block.Told region test) = told_layout
layout (block.ToldWhole facts k may_be_aside test) = told_whole_layout
layout (block.CellCount rules) = (field.CellCount, 1) ∷ []
layout (block.Cell form index region least) = cell_layout form index
layout (block.Key version procedures before) = key_layout version
layout block.Bank = (field.Bank, 2) ∷ []

-- the bytes of all fields
abbrev pub width_of : Layout → ℕ
width_of [] = 0
width_of (f ∷ fs) = f.1 + width_of fs

-- The byte is one of the field's, which begins there and has so many.
pub record Contains (fields : Layout) (byte : ℕ) (field : Field) (first width : ℕ) : Type 0 where
  pub front : Layout
  pub behind : Layout
  pub parts : fields ≡ front ++ (field, width) ∷ behind
  pub begins : first ≡ width_of front
  pub from : first ≤ byte
  pub to : byte < first + width

abbrev pub choose : {X : Type 0} → Bool → X → X → X
choose true x y = x
choose false x y = y

-- the field that contains the byte, and where it begins; the one before where there is none more
unfoldable pub lookup : Field × ℕ → ℕ → Layout → ℕ → Field × ℕ
lookup found start [] byte = found
lookup found start (f ∷ fs) byte = choose (nat_lt byte (start + f.1)) (f.0, start) (lookup (f.0, start) (start + f.1) fs byte)

-- the field of a block that contains a byte of the block, and where in the block it begins
abbrev pub field_at : Block → ℕ → Field × ℕ
field_at b byte = lookup (field.Magic, 0) 0 (layout b) byte
