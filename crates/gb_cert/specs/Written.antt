-- Certificates that are to be written, and the limits that they may not keep.
use Rattle.std.specs.Prelude.{◌≡◌, ◌≤◌, ◌<◌, ◌/◌, ◌&&◌, ◌||◌, ◌==◌, ℕ, Bool, true, false, not, nat_le, nat_lt, List, [], ◌∷◌, length, map, Option, Some, None}
use Rattle.std.specs.Borrow.{Bor}
use Rattle.std.specs.List.{list_all, list_any}
use Rattle.gb_ops.specs.declared.machine.Region.{Region}
use Rattle.gb_ops.specs.declared.registers.Registers.{Registers}
use Rattle.gb_domain.specs.declared.rules.Rules.{Rules}
use Rattle.gb_domain.specs.declared.rules.Rules.TheVariants.{Simple, Extended}
use Rattle.gb_domain.specs.declared.types.Val.{Val}
use Rattle.gb_domain.specs.declared.types.KeptBanks.{KeptBanks}
use Rattle.gb_domain.specs.declared.types.Core.{Core}
use Rattle.gb_domain.specs.declared.types.Cell.{Cell}
use Rattle.gb_domain.specs.declared.relations.Relations.{Relations}
use Rattle.gb_domain.specs.Limits.{item_room, cell_room}
use Rattle.gb_domain.specs.Summaries.{SummaryParts}
use Rattle.gb_domain.specs.Types.{AbsState, ProcedureParts, Node}
use Rattle.gb_domain.specs.Certificate.{Certificate}
use Rattle.gb_states.specs.Below.gb_fields.Limits.{procedure_limit_by, node_limit, range_limit, fact_limit, kept_limit, unit}
use Rattle.gb_states.specs.Below.gb_fields.Rules.{any_rules_of, usual_base}
use Rattle.gb_states.specs.Links.{are_linked}
use Rattle.gb_states.specs.Rules.{is_whole, is_silent, may_be_known, is_sayable, is_all_or_none}
use Rattle.gb_states.specs.declared.form.ProcedureForm.{ProcedureForm}
use Rattle.gb_states.specs.WholeRules.{is_origin_in, procedure_forms, form_in}
use Rattle.gb_cert.specs.declared.writer.Version.{Version}
use Rattle.gb_cert.specs.declared.writer.Version.TheVariants as version
use Rattle.gb_cert.specs.declared.writer.ProcedurePlan.{ProcedurePlan}
use Rattle.gb_cert.specs.declared.writer.NodePlan.{NodePlan}
use Rattle.gb_cert.specs.declared.writer.CertificatePlan.{CertificatePlan}
use Rattle.gb_cert.specs.declared.writer.WriteFault.{WriteFault}
use Rattle.gb_cert.specs.declared.writer.WriteFault.TheVariants as fault

abbrev pub number_of : Version → ℕ
number_of version.One = 1
number_of version.Two = 2
number_of version.Three = 3
number_of version.Four = 4

-- It has fields of its own.
abbrev pub is_fourth : Version → Bool
is_fourth v = number_of v == 4

-- the rules of its states; what versions 3 and 4 have in common they spell alike
abbrev pub rules_in : Version → Rules
rules_in v = any_rules_of (number_of v)

-- how many words, or in versions 3 and 4 bytes, so many bytes are
abbrev pub units : Rules → ℕ → ℕ
units rules n = n / unit rules

abbrev pub exit_of : Option (Bor AbsState) → Option AbsState
exit_of None = None
exit_of (Some s) = Some s.now

abbrev pub procedure_of : ProcedurePlan → ProcedureParts
procedure_of p = record { entry = p.entry; base = p.base; need = p.need; ranges = p.ranges.now; kept = p.kept.now; mark = p.mark; exit = exit_of p.exit }

-- what the spelling of a state of the procedure with this number depends on
abbrev pub form_of : List ProcedurePlan → ℕ → ProcedureForm
form_of procedures number = form_in (procedure_forms (map procedure_of procedures)) number

abbrev pub node_of : NodePlan → Node
node_of n = record { procedure = n.procedure; address = n.address; bank = n.bank; state = n.state.now }

-- the certificate of these parts
abbrev pub certificate_of : CertificatePlan → Certificate
certificate_of plan = record {
  version = number_of plan.version;
  procedures = map procedure_of plan.procedures.now;
  nodes = map node_of plan.nodes.now;
  region = plan.region;
  facts = plan.facts.now;
}

-- it declares more ranges than there may be
abbrev pub is_wide : ProcedurePlan → Bool
is_wide p = nat_lt range_limit (length p.ranges.now)

-- it needs more bytes of stack than may be needed
abbrev pub is_deep : ProcedurePlan → Bool
is_deep p = nat_lt 8192 p.need

-- it begins at none of so many nodes
abbrev pub has_no_entry : ℕ → ProcedurePlan → Bool
has_no_entry nodes p = nat_le nodes p.entry

-- it belongs to none of so many procedures
abbrev pub has_no_owner : ℕ → NodePlan → Bool
has_no_owner procedures n = nat_le procedures n.procedure

-- ---- what version 4 alone can say

-- facts: versions 1 to 3 have none
abbrev pub fact_room_by : Bool → ℕ
fact_room_by true = fact_limit
fact_room_by false = 0

-- addresses that a procedure names to be kept: versions 1 to 3 have none
abbrev pub kept_room_by : Bool → ℕ
kept_room_by true = kept_limit
kept_room_by false = 0

-- it names more addresses to be kept than there may be
abbrev pub names_many : Version → ProcedurePlan → Bool
names_many v p = nat_lt (kept_room_by (is_fourth v)) (length p.kept.now)

-- Versions 1 to 3 have no mark.
abbrev pub is_mark_by : Bool → ℕ → Bool
is_mark_by true mark = true
is_mark_by false mark = mark == 0

-- it has a mark that the version has no field for
abbrev pub has_mark : Version → ProcedurePlan → Bool
has_mark v p = not (is_mark_by (is_fourth v) p.mark)

-- Version 4 has three bits for the number of low bits, and numbers for the origins of sixteen kept bytes.
abbrev pub is_tagged : Val → Bool
is_tagged v = nat_lt v.low_bits 8 && is_origin_in kept_limit v.origin

abbrev pub says_by : Bool → Rules → Val → Bool
says_by true rules v = is_tagged v
says_by false rules v = is_sayable rules v

-- The version has a spelling for the value.
abbrev pub says : Version → Val → Bool
says version v = says_by (is_fourth version) (rules_in version) v

abbrev pub says_registers : Version → Registers Val → Bool
says_registers version s = says version s.a && (says version s.b && (says version s.c && (says version s.d && (says version s.e && (says version s.h && says version s.l)))))

-- Versions 1 to 3 have one byte for what is kept of the controller.
abbrev pub says_kept_by : Bool → KeptBanks → Bool
says_kept_by true k = true
says_kept_by false k = is_all_or_none k

abbrev pub says_core : Version → Core → Bool
says_core version c = says_kept_by (is_fourth version) c.ctl.kept && (says version c.ie && says_registers version c.registers)

abbrev pub says_cell : Version → Cell → Bool
says_cell version c = says version c.val

-- Versions 1 to 3 say nothing that is about the whole program.
abbrev pub says_summary_by : Bool → SummaryParts → Bool
says_summary_by true s = true
says_summary_by false s = is_silent s

-- The version has a spelling for each value and for what is kept and said.
abbrev pub says_state : Version → AbsState → Bool
says_state version s = says_core version s.core && (list_all (says version) s.items && (list_all (says_cell version) s.cells && says_summary_by (is_fourth version) s.summary))

-- ---- what is known of a state that a version can say

pub record AreRegistersSaid (version : Version) (s : Registers Val) : Type 0 where
  pub a : says version s.a ≡ true
  pub b : says version s.b ≡ true
  pub c : says version s.c ≡ true
  pub d : says version s.d ≡ true
  pub e : says version s.e ≡ true
  pub h : says version s.h ≡ true
  pub l : says version s.l ≡ true

-- each value of a core
pub record IsCoreSaid (version : Version) (c : Core) : Type 0 where
  pub ie : says version c.ie ≡ true
  pub registers : AreRegistersSaid version c.registers

-- each value of a state
pub record IsStateSaid (version : Version) (s : AbsState) : Type 0 where
  pub core : IsCoreSaid version s.core
  pub items : list_all (says version) s.items ≡ true
  pub cells : list_all (says_cell version) s.cells ≡ true

-- ---- what states of a version can't say

-- an odd number of bytes is no number of words
abbrev pub is_odd : Rules → ℕ → Bool
is_odd rules n = not (is_whole rules n)

abbrev pub is_half : Rules → AbsState → Bool
is_half rules s = is_odd rules (length s.items)

abbrev pub has_many_items : Rules → AbsState → Bool
has_many_items rules s = nat_lt (item_room rules) (length s.items)

abbrev pub has_many_cells : Rules → AbsState → Bool
has_many_cells rules s = nat_lt (cell_room rules) (length s.cells)

-- Version 4 has a field for all that is known of several parts together, but not for each link.
abbrev pub says_relations_by : Bool → Rules → Relations → Bool
says_relations_by true rules r = are_linked true r.pairs
says_relations_by false rules r = may_be_known rules r

abbrev pub says_relations : Version → Relations → Bool
says_relations version r = says_relations_by (is_fourth version) (rules_in version) r

-- more is known of several parts together than a test of A, in versions 1 and 2, or a link has a base or a width, in version 3, or one
-- that reads nothing else has no base, or a factor other than 1
abbrev pub is_related : Version → AbsState → Bool
is_related version s = not (says_relations version s.relations)

-- a value is a copy of the return word's bytes, in versions 1 and 2, or in versions 1 to 3 of what a procedure declares, or has low bits
-- that are known; or some of the controller's registers are kept there, and not all; or something is said there of the whole program
abbrev pub has_unsayable : Version → AbsState → Bool
has_unsayable version s = not (says_state version s)

-- one of them
abbrev pub is_unspellable : Version → AbsState → Bool
is_unspellable version s = is_half (rules_in version) s || (has_many_items (rules_in version) s || (has_many_cells (rules_in version) s || (is_related version s || has_unsayable version s)))

-- The state can't be said for the reason with this name.
abbrev pub state_has : Version → WriteFault → AbsState → Bool
state_has version fault.HalfWord s = is_half (rules_in version) s
state_has version fault.Items s = has_many_items (rules_in version) s
state_has version fault.Cells s = has_many_cells (rules_in version) s
state_has version fault.Relations s = is_related version s
state_has version fault.Values s = has_unsayable version s
state_has version _ s = false

abbrev pub exit_has : (AbsState → Bool) → Option AbsState → Bool
exit_has p None = false
exit_has p (Some s) = p s

abbrev pub returns_with : (AbsState → Bool) → ProcedurePlan → Bool
returns_with p plan = exit_has p (exit_of plan.exit)

abbrev pub stands_with : (AbsState → Bool) → NodePlan → Bool
stands_with p plan = p plan.state.now

-- one of the states is such
abbrev pub have_states : (AbsState → Bool) → List ProcedurePlan → List NodePlan → Bool
have_states p procedures nodes = list_any (returns_with p) procedures || list_any (stands_with p) nodes

-- ---- what procedures of a version can't say

abbrev pub has_half_need : Rules → ProcedurePlan → Bool
has_half_need rules p = is_odd rules p.need

-- one of them has an odd number of bytes of stack
abbrev pub have_half_words : Rules → List ProcedurePlan → List NodePlan → Bool
have_half_words rules procedures nodes = list_any (has_half_need rules) procedures || have_states (is_half rules) procedures nodes

-- it has another base than versions 1 and 2 mean
abbrev pub says_base : Rules → Bool → Region → ProcedurePlan → Bool
says_base Simple is_main region p = not (p.base == usual_base is_main region)
says_base Extended is_main region p = false

-- one of them has; the first is main
abbrev pub say_base : Rules → Region → List ProcedurePlan → Bool
say_base rules region [] = false
say_base rules region (p ∷ ps) = says_base rules true region p || list_any (says_base rules false region) ps

-- One of the procedures doesn't keep the limit with this name, where there are so many nodes.
abbrev pub IsProcedureFault : Version → ℕ → List ProcedurePlan → WriteFault → Type 0
IsProcedureFault version nodes procedures fault.Memory = Unit {0}
IsProcedureFault version nodes procedures fault.Ranges = list_any is_wide procedures ≡ true
IsProcedureFault version nodes procedures fault.Need = list_any is_deep procedures ≡ true
IsProcedureFault version nodes procedures fault.Entry = list_any (has_no_entry nodes) procedures ≡ true
IsProcedureFault version nodes procedures fault.Kept = list_any (names_many version) procedures ≡ true
IsProcedureFault version nodes procedures fault.Mark = list_any (has_mark version) procedures ≡ true
IsProcedureFault version nodes procedures _ = ⊥

-- The procedures keep these limits, where there are so many nodes.
pub record ProceduresKeepLimits (version : Version) (nodes : ℕ) (procedures : List ProcedurePlan) : Type 0 where
  pub ranges : list_any is_wide procedures ≡ false
  pub needs : list_any is_deep procedures ≡ false
  pub entries : list_any (has_no_entry nodes) procedures ≡ false
  pub kept : list_any (names_many version) procedures ≡ false
  pub marks : list_any (has_mark version) procedures ≡ false

-- One of the nodes belongs to none of so many procedures.
abbrev pub IsNodeFault : ℕ → List NodePlan → WriteFault → Type 0
IsNodeFault procedures nodes fault.Memory = Unit {0}
IsNodeFault procedures nodes fault.Owner = list_any (has_no_owner procedures) nodes ≡ true
IsNodeFault procedures nodes _ = ⊥

-- A version can say these parts: bytes of stack are whole words in versions 1 and 2, where states also have no more than 16 words and
-- 32 cells, know nothing of several parts together but a test of A, and have no copy of the return word, and where bases are the usual
-- ones. In versions 1 to 3 links have no base and no width, no low bits of values are known, nothing is said of the whole program, and
-- of the controller all is kept or nothing.
pub record AreSpellable (plan : CertificatePlan) : Type 0 where
  pub words : have_half_words (rules_in plan.version) plan.procedures.now plan.nodes.now ≡ false
  pub items : have_states (has_many_items (rules_in plan.version)) plan.procedures.now plan.nodes.now ≡ false
  pub cells : have_states (has_many_cells (rules_in plan.version)) plan.procedures.now plan.nodes.now ≡ false
  pub relations : have_states (is_related plan.version) plan.procedures.now plan.nodes.now ≡ false
  pub values : have_states (has_unsayable plan.version) plan.procedures.now plan.nodes.now ≡ false
  pub bases : say_base (rules_in plan.version) plan.region plan.procedures.now ≡ false

-- There are no more facts, procedures and nodes than the version takes, it can say them, no procedure declares too many ranges, needs
-- too many bytes, or names what the version has no field for, each begins at a node, and each node belongs to one of them.
pub record KeepsLimits (plan : CertificatePlan) : Type 0 where
  pub fact_count : length plan.facts.now ≤ fact_room_by (is_fourth plan.version)
  pub procedure_count : length plan.procedures.now ≤ procedure_limit_by (is_fourth plan.version)
  pub node_count : length plan.nodes.now ≤ node_limit (number_of plan.version)
  pub spellable : AreSpellable plan
  pub procedures : ProceduresKeepLimits plan.version (length plan.nodes.now) plan.procedures.now
  pub owners : list_any (has_no_owner (length plan.procedures.now)) plan.nodes.now ≡ false

-- The limit with this name is not kept, or memory ran out.
abbrev pub IsWriteFault : CertificatePlan → WriteFault → Type 0
IsWriteFault plan fault.Memory = Unit {0}
IsWriteFault plan fault.Facts = fact_room_by (is_fourth plan.version) < length plan.facts.now
IsWriteFault plan fault.Procedures = procedure_limit_by (is_fourth plan.version) < length plan.procedures.now
IsWriteFault plan fault.Nodes = node_limit (number_of plan.version) < length plan.nodes.now
IsWriteFault plan fault.HalfWord = have_half_words (rules_in plan.version) plan.procedures.now plan.nodes.now ≡ true
IsWriteFault plan fault.Items = have_states (has_many_items (rules_in plan.version)) plan.procedures.now plan.nodes.now ≡ true
IsWriteFault plan fault.Cells = have_states (has_many_cells (rules_in plan.version)) plan.procedures.now plan.nodes.now ≡ true
IsWriteFault plan fault.Relations = have_states (is_related plan.version) plan.procedures.now plan.nodes.now ≡ true
IsWriteFault plan fault.Values = have_states (has_unsayable plan.version) plan.procedures.now plan.nodes.now ≡ true
IsWriteFault plan fault.Base = say_base (rules_in plan.version) plan.region plan.procedures.now ≡ true
IsWriteFault plan fault.Ranges = list_any is_wide plan.procedures.now ≡ true
IsWriteFault plan fault.Need = list_any is_deep plan.procedures.now ≡ true
IsWriteFault plan fault.Entry = list_any (has_no_entry (length plan.nodes.now)) plan.procedures.now ≡ true
IsWriteFault plan fault.Kept = list_any (names_many plan.version) plan.procedures.now ≡ true
IsWriteFault plan fault.Mark = list_any (has_mark plan.version) plan.procedures.now ≡ true
IsWriteFault plan fault.Owner = list_any (has_no_owner (length plan.procedures.now)) plan.nodes.now ≡ true
