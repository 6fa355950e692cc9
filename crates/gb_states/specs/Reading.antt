-- Reading a certificate, field by field (own format). A test of two fields is made behind the later one.
use Rattle.std.specs.Prelude.{ℕ, ◌/◌, ◌%◌, Bool, true, ◌&&◌, ◌||◌, not, ◌==◌, nat_le, List, [], Option, Some, None, Result, if◌then◌else◌}
use Rattle.gb_ops.specs.declared.machine.Region.{Region}
use Rattle.gb_ops.specs.declared.registers.Registers.{Registers}
use Rattle.gb_fields.specs.declared.fault.CertFault.{CertFault}
use Rattle.gb_fields.specs.declared.fault.CertFault.TheVariants as fault
use Rattle.gb_domain.specs.declared.types.Origin.{Origin}
use Rattle.gb_domain.specs.declared.types.Origin.TheVariants.{A, F, B, C, D, E, H, L, Ie, ReturnHigh, ReturnLow}
use Rattle.gb_domain.specs.declared.types.Val.{Val}
use Rattle.gb_domain.specs.declared.types.May.{May}
use Rattle.gb_domain.specs.declared.types.Flg.{Flg}
use Rattle.gb_domain.specs.declared.types.ImeSet.{ImeSet}
use Rattle.gb_domain.specs.declared.types.KeptBanks.{KeptBanks}
use Rattle.gb_domain.specs.declared.types.Ctl.{Ctl}
use Rattle.gb_domain.specs.declared.types.Core.{Core}
use Rattle.gb_domain.specs.declared.types.Cell.{Cell}
use Rattle.gb_domain.specs.declared.types.Range.{Range}
use Rattle.gb_states.specs.declared.role.Role.{Role}
use Rattle.gb_states.specs.declared.role.Role.TheVariants as role
use Rattle.gb_fields.specs.declared.head.Head.{Head}
use Rattle.gb_domain.specs.declared.rules.Rules.{Rules}
use Rattle.gb_domain.specs.declared.relations.Relations.{Relations}
use Rattle.gb_domain.specs.Limits.{rules_of, cell_room}
use Rattle.gb_fields.specs.Limits.{range_room, unit, item_limit, origin_limit}
use Rattle.gb_domain.specs.Types.{AbsState, ProcedureParts, Node, all_or_none}
use Rattle.gb_domain.specs.Certificate.{Certificate}
use Rattle.gb_domain.specs.Summaries.{no_summary}
use Rattle.gb_fields.specs.Format.{Read, followed, both, mapped, checked, optional, several, counted, whole, byte}
use Rattle.gb_fields.specs.Reading.{is_ordered, word, byte_between, word_between, count_within, yes_no, returns_at, entry_at, base_at, times, need_at, key_at, head_at}
use Rattle.gb_domain.specs.Areas.{is_area, meets, is_free_byte}
use Rattle.gb_domain.specs.Rules.{has_value, after_cell}
use Rattle.gb_states.specs.RelationReading.{relations_by}
use Rattle.gb_states.specs.Rules.{after_range, role_of, needs_stack, may_be_pushed, is_after, key, have_entries}

-- ---- values

abbrev pub origin_of : ℕ → Option Origin
origin_of n =
    if n == 0 then None
    else if n == 1 then Some A
    else if n == 2 then Some F
    else if n == 3 then Some B
    else if n == 4 then Some C
    else if n == 5 then Some D
    else if n == 6 then Some E
    else if n == 7 then Some H
    else if n == 8 then Some L
    else if n == 9 then Some Ie
    else if n == 10 then Some ReturnHigh
    else Some ReturnLow

unfoldable pub origin_at : Rules → Read (Option Origin)
origin_at rules = mapped origin_of (byte_between 0 (origin_limit rules))

abbrev pub to_val : (ℕ × ℕ) × Option Origin → Val
to_val p = record { lo = p.0.0; hi = p.0.1; low_bits = 0; origin = p.1 }

unfoldable pub val_at : Rules → Read Val
val_at rules = mapped to_val (both (checked fault.Field is_ordered (both byte byte)) (origin_at rules))

-- bit 0: the bit may be clear; bit 1: it may be set
abbrev pub to_may : ℕ → May
to_may n = record { clear = n % 2 == 1; set = n / 2 == 1 }

unfoldable pub may_at : Read May
may_at = mapped to_may (byte_between 1 3)

-- bits 0, 1 and 2: it may be off, pending, on
abbrev pub to_ime : ℕ → ImeSet
to_ime n = record { off = n % 2 == 1; pending = n / 2 % 2 == 1; on = n / 4 == 1 }

unfoldable pub ime_at : Read ImeSet
ime_at = mapped to_ime (byte_between 1 7)

abbrev pub is_test : Bool × ℕ → Bool
is_test p = p.0 || p.1 == 0

abbrev pub to_test : Bool × ℕ → Option ℕ
to_test p = if p.0 then Some p.1 else None

-- whether there is a test, and its value, which is 0 where there is none
unfoldable pub test_at : Read (Option ℕ)
test_at = mapped to_test (checked fault.Field is_test (both yes_no byte))

-- bits 7 to 4: Z, N, H and C may be set; bits 3 to 0: they may be clear
abbrev pub to_flags : ℕ → May × (May × (May × May))
to_flags n = (
  record { clear = n / 8 % 2 == 1; set = n / 128 == 1 },
  (
    record { clear = n / 4 % 2 == 1; set = n / 64 % 2 == 1 },
    (
      record { clear = n / 2 % 2 == 1; set = n / 32 % 2 == 1 },
      record { clear = n % 2 == 1; set = n / 16 % 2 == 1 },
    ),
  ),
)

abbrev pub have_values : May × (May × (May × May)) → Bool
have_values p = has_value p.0 && (has_value p.1.0 && (has_value p.1.1.0 && has_value p.1.1.1))

-- 0: F is no copy; 2: it is what it was as the procedure was entered
abbrev pub is_own_number : ℕ → Bool
is_own_number n = n == 0 || n == 2

abbrev pub is_two : ℕ → Bool
is_two n = n == 2

abbrev pub to_flg : (May × (May × (May × May))) × Bool → Flg
to_flg p = record { zero = p.0.0; subtract = p.0.1.0; half_carry = p.0.1.1.0; carry = p.0.1.1.1; is_own = p.1 }

unfoldable pub flg_at : Read Flg
flg_at = mapped to_flg (both (checked fault.Field have_values (mapped to_flags byte)) (mapped is_two (checked fault.Field is_own_number byte)))

-- by what the last field says of what is kept
abbrev pub to_ctl_by : {K : Type 0} → (K → KeptBanks) → (ℕ × ℕ) × ((ℕ × ℕ) × (May × (May × K))) → Ctl
to_ctl_by kept_by p = record { bank_lo = p.0.0; bank_hi = p.0.1; second_lo = p.1.0.0; second_hi = p.1.0.1; gate = p.1.1.0; mode = p.1.1.1.0; kept = kept_by p.1.1.1.1 }

abbrev pub ctl_by : {K : Type 0} → (K → KeptBanks) → Read K → Read Ctl
ctl_by kept_by kept = mapped (to_ctl_by kept_by) (both (checked fault.Field is_ordered (both (word_between 0 511) (word_between 0 511))) (both (checked fault.Field is_ordered (both byte byte)) (both may_at (both may_at kept))))

unfoldable pub ctl_at : Read Ctl
ctl_at = ctl_by all_or_none yes_no

abbrev pub to_vals : Val × (Val × (Val × (Val × (Val × (Val × Val))))) → Registers Val
to_vals p = record { a = p.0; b = p.1.0; c = p.1.1.0; d = p.1.1.1.0; e = p.1.1.1.1.0; h = p.1.1.1.1.1.0; l = p.1.1.1.1.1.1 }

abbrev pub vals_by : Read Val → Read (Registers Val)
vals_by val = mapped to_vals (both val (both val (both val (both val (both val (both val val))))))

unfoldable pub vals_at : Rules → Read (Registers Val)
vals_at rules = vals_by (val_at rules)

-- ---- states

-- a core, and the test that stands in it
abbrev pub Tested : Type 0
Tested = Core × Option ℕ

abbrev pub to_core : ImeSet × (ℕ × (Bool × (Option ℕ × (Ctl × (Flg × (Val × Registers Val)))))) → Tested
to_core p = (record { ime = p.0; bound = p.1.0; stack_set = p.1.1.0; ctl = p.1.1.1.1.0; flags = p.1.1.1.1.1.0; ie = p.1.1.1.1.1.1.0; registers = p.1.1.1.1.1.1.1 }, p.1.1.1.0)

abbrev pub is_stack_right : Role → Bool → Bool
is_stack_right role stack_set = stack_set || not (needs_stack role)

abbrev pub core_by : Role → Read Ctl → Read Val → Read (Registers Val) → Read Tested
core_by role ctl val vals = mapped to_core (both ime_at (both (byte_between 0 161) (both (checked fault.Field (is_stack_right role) yes_no) (both test_at (both ctl (both flg_at (both val vals)))))))

unfoldable pub core_at : Rules → Role → Read Tested
core_at rules role = core_by role ctl_at (val_at rules) (vals_at rules)

-- of a core that is passed over: whether the stack is set, and the test
abbrev pub passed : Tested → Bool × Option ℕ
passed k = (k.0.stack_set, k.1)

-- so many bytes of the stack
abbrev pub vals_of : Rules → ℕ → Read (List Val)
vals_of rules count = several {S = Unit {0}} (λ s. val_at rules) (λ v. tt) tt count

-- how many words, or in version 3 bytes, a state's items are
unfoldable pub item_count_at : Rules → Role → Bool → Read ℕ
item_count_at rules role stack_set = checked fault.Field (may_be_pushed rules role stack_set) (count_within (item_limit rules))

-- that number, and the bytes, the oldest first
unfoldable pub items_at : Rules → Role → Bool → Read (List Val)
items_at rules role stack_set = mapped (λ p. p.1) (followed (item_count_at rules role stack_set) (λ count. vals_of rules (times (unit rules) count)))

-- A cell's address lies in RAM and outside the region.
abbrev pub is_free : Region → ℕ × ℕ → Bool
is_free region p = is_area p.0 p.1 && not (meets region p.0 p.1)

abbrev pub to_cell : ℕ × Val → Cell
to_cell p = record { address = p.0; val = p.1 }

unfoldable pub cell_at : Rules → Region → ℕ → Read Cell
cell_at rules region least = mapped to_cell (both (checked fault.Order (nat_le least) (checked fault.Field (is_free_byte region) word)) (val_at rules))

unfoldable pub cells_at : Rules → Region → Read (List Cell)
cells_at rules region = counted (count_within (cell_room rules)) (cell_at rules region) after_cell 0

-- what is said of the whole program stands in none of them
abbrev pub to_state : Tested × (List Val × (Relations × List Cell)) → AbsState
to_state p = record { core = p.0.0; items = p.1.0; cells = p.1.1.1; relations = p.1.1.0; summary = no_summary }

-- a core with its test, items, what is known of several parts together, and cells
unfoldable pub state_at : Rules → Role → Region → Read AbsState
state_at rules role region = mapped to_state (followed (core_at rules role) (λ k. both (items_at rules role k.0.stack_set) (both (relations_by rules region k.1) (cells_at rules region))))

-- ---- procedures

abbrev pub to_range : ℕ × ℕ → Range
to_range p = record { first = p.0; last = p.1 }

unfoldable pub range_at : Region → ℕ → Read Range
range_at region least = mapped to_range (checked fault.Field (is_free region) (both (checked fault.Order (nat_le least) word) word))

unfoldable pub ranges_at : Rules → Bool → Region → Read (List Range)
ranges_at rules is_main region = counted (count_within (range_room rules is_main)) (range_at region) after_range 0

-- in what state it returns, if it does
unfoldable pub exit_at : Rules → Bool → Region → Read (Option AbsState)
exit_at rules is_main region = mapped (λ p. p.1) (followed (returns_at is_main) (λ returns. optional returns (state_at rules role.Exit region)))

-- a base, a need, ranges and an exit
abbrev pub Body : Type 0
Body = ℕ × (ℕ × (List Range × Option AbsState))

-- a need, ranges and an exit
abbrev pub needed_at : Rules → Bool → Region → Read (ℕ × (List Range × Option AbsState))
needed_at rules is_main region = both (need_at rules is_main region) (both (ranges_at rules is_main region) (exit_at rules is_main region))

-- all of a procedure but its entry
abbrev pub body_at : Rules → Bool → Region → Read Body
body_at rules is_main region = both (base_at rules is_main region) (needed_at rules is_main region)

abbrev pub to_procedure : ℕ × Body → ProcedureParts
to_procedure p = record { entry = p.0; base = p.1.0; need = p.1.1.0; ranges = p.1.1.1.0; kept = []; mark = 0; exit = p.1.1.1.1 }

unfoldable pub procedure_at : ℕ → Region → ℕ → Bool → Read ProcedureParts
procedure_at version region nodes is_main = mapped to_procedure (both (entry_at version nodes) (body_at (rules_of version) is_main region))

-- ---- nodes

abbrev pub to_node : (ℕ × ℕ) × (ℕ × AbsState) → Node
to_node p = record { procedure = p.0.0; address = p.0.1; bank = p.1.0; state = p.1.1 }

unfoldable pub node_at : Rules → Region → ℕ → ℕ × ℕ → Read Node
node_at rules region procedures before = mapped to_node (followed (key_at procedures before) (λ k. both (word_between 0 511) (state_at rules (role_of k.0) region)))

-- ---- certificates

unfoldable pub procedures_at : ℕ → Region → ℕ → ℕ → Read (List ProcedureParts)
procedures_at version region nodes count = several (procedure_at version region nodes) is_after true count

unfoldable pub nodes_at : Rules → Region → ℕ → ℕ → Read (List Node)
nodes_at rules region procedures count = several (node_at rules region procedures) key (0, 0) count

abbrev pub have_entries_in : Head × (List ProcedureParts × List Node) → Bool
have_entries_in p = have_entries 0 p.1.0 p.1.1

abbrev pub to_certificate : Head × (List ProcedureParts × List Node) → Certificate
to_certificate p = record { version = p.0.version; procedures = p.1.0; nodes = p.1.1; region = p.0.region; facts = [] }

-- the head, the procedures and the nodes; then each entry must be a node of its procedure
unfoldable pub certificate_at : Read Certificate
certificate_at = mapped to_certificate (checked fault.Field have_entries_in (followed head_at (λ h. both (procedures_at h.version h.region h.nodes h.procedures) (nodes_at (rules_of h.version) h.region h.procedures h.nodes))))

-- a certificate that is all of the bytes
unfoldable pub read_certificate : List ℕ → Result Certificate CertFault
read_certificate = whole certificate_at
