-- How each version spells the parts of a certificate: versions 1 to 3 as without version 4, and this with the fields that it alone has (own format).
use Rattle.std.specs.Prelude.{ℕ, Bool, true, false, ◌/◌, List, [], ◌∷◌, ◌++◌, Option, Some, None, length}
use Rattle.std.specs.List.{flat_map}
use Rattle.gb_ops.specs.declared.machine.Region.{Region}
use Rattle.gb_ops.specs.declared.registers.Registers.{Registers}
use Rattle.gb_domain.specs.declared.types.Val.{Val}
use Rattle.gb_domain.specs.declared.types.KeptBanks.{KeptBanks}
use Rattle.gb_domain.specs.declared.types.Ctl.{Ctl}
use Rattle.gb_domain.specs.declared.types.Core.{Core}
use Rattle.gb_domain.specs.declared.types.Cell.{Cell}
use Rattle.gb_domain.specs.declared.rules.Rules.{Rules}
use Rattle.gb_domain.specs.declared.relations.Relations.{Relations}
use Rattle.gb_domain.specs.RelationRules.{compared}
use Rattle.gb_domain.specs.Summaries.{SummaryParts}
use Rattle.gb_domain.specs.Types.{AbsState, ProcedureParts, Node}
use Rattle.gb_states.specs.Below.gb_fields.Limits.{unit}
use Rattle.gb_states.specs.Numbers.{word, node_number}
use Rattle.gb_states.specs.RelationSpelling.{relations_by}
use Rattle.gb_states.specs.declared.form.ProcedureForm.{ProcedureForm}
use Rattle.gb_states.specs.Spelling as older
use Rattle.gb_states.specs.WholeRules.{item_base}
use Rattle.gb_states.specs.WholeSpelling as whole
use Rattle.gb_cert.specs.declared.writer.Version.{Version}
use Rattle.gb_cert.specs.Written.{number_of, is_fourth, rules_in}

-- ---- values

-- an origin's number; in version 4 above it how many low bits are known
abbrev pub tag_by : Bool → Val → ℕ
tag_by true v = whole.tag v
tag_by false v = older.origin_number v.origin

unfoldable pub val : Version → Val → List ℕ
val version v = v.lo ∷ v.hi ∷ tag_by (is_fourth version) v ∷ []

-- which registers of the controller are kept, or in versions 1 to 3 whether all are
abbrev pub kept_by : Bool → KeptBanks → ℕ
kept_by true k = whole.kept_number k
kept_by false k = older.all_number k

-- ---- states

unfoldable pub ctl : Version → Ctl → List ℕ
ctl version c = older.ctl_by (kept_by (is_fourth version)) c

unfoldable pub vals : Version → Registers Val → List ℕ
vals version r = older.vals_by (val version) r

-- a core, and the test that stands in it
unfoldable pub core : Version → Core → Option ℕ → List ℕ
core version c t = older.core_by (ctl version) (val version) (vals version) c t

unfoldable pub cell : Version → Cell → List ℕ
cell version c = word c.address ++ val version c.val

-- bytes of the stack, the oldest first, behind the number of words, or in versions 3 and 4 of bytes, that they are
abbrev pub items : Version → List Val → List ℕ
items version vs = length vs / unit (rules_in version) ∷ flat_map (val version) vs

-- what is known of several parts together, and in version 4 what is said of the whole program
abbrev pub told_by : Bool → Rules → Region → ℕ → Relations × SummaryParts → List ℕ
told_by true rules region base p = whole.told region (item_base base region) p
told_by false rules region base p = relations_by rules p.0

-- a core with its test, items, what is known and said, and cells, in a procedure with this base
unfoldable pub state : Version → Region → ℕ → AbsState → List ℕ
state version region base s =
    core version s.core (compared s.relations.byte.test)
    ++ (items version s.items ++ (told_by (is_fourth version) (rules_in version) region base (s.relations, s.summary) ++ older.counted (cell version) s.cells))

-- ---- procedures and nodes

-- whether it returns, and in what state
unfoldable pub exit : Version → Region → ℕ → Option AbsState → List ℕ
exit version region base None = 0 ∷ []
exit version region base (Some s) = 1 ∷ state version region base s

-- the addresses to be kept, and the mark, which versions 1 to 3 have no field for
abbrev pub named_by : Bool → ProcedureParts → List ℕ
named_by true p = whole.kept_addresses p.kept ++ (p.mark ∷ [])
named_by false p = []

-- all of a procedure but its entry
unfoldable pub body : Version → Region → ProcedureParts → List ℕ
body version region p =
    older.base (rules_in version) p.base
    ++ (word (p.need / unit (rules_in version)) ++ (older.counted older.range p.ranges ++ (named_by (is_fourth version) p ++ exit version region p.base p.exit)))

unfoldable pub procedure : Version → Region → ProcedureParts → List ℕ
procedure version region p = node_number (number_of version) p.entry ++ body version region p

-- The number of a procedure has two bytes in version 4, like the number of all of them.
unfoldable pub node : Version → Region → (ℕ → ProcedureForm) → Node → List ℕ
node version region form_of n = (whole.procedure_count_by (is_fourth version) n.procedure ++ word n.address) ++ (word n.bank ++ state version region (form_of n.procedure).base n.state)
