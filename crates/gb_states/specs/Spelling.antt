-- The one spelling of each certificate, in bytes (own format). Words have their low byte first.
use Rattle.std.specs.Prelude.{◌≡◌, ℕ, ◌+◌, ◌*◌, ◌/◌, Bool, true, false, List, [], ◌∷◌, ◌++◌, length, Option, Some, None}
use Rattle.std.specs.List.{flat_map}
use Rattle.gb_ops.specs.declared.registers.Registers.{Registers}
use Rattle.gb_domain.specs.declared.types.Origin.{Origin}
use Rattle.gb_domain.specs.declared.types.Origin.TheVariants.{A, F, B, C, D, E, H, L, Ie, ReturnHigh, ReturnLow, Kept, MarkHigh, MarkLow}
use Rattle.gb_domain.specs.declared.types.Val.{Val}
use Rattle.gb_domain.specs.declared.types.May.{May}
use Rattle.gb_domain.specs.declared.types.Flg.{Flg}
use Rattle.gb_domain.specs.declared.types.ImeSet.{ImeSet}
use Rattle.gb_domain.specs.declared.types.KeptBanks.{KeptBanks}
use Rattle.gb_domain.specs.declared.types.Ctl.{Ctl}
use Rattle.gb_domain.specs.declared.types.Core.{Core}
use Rattle.gb_domain.specs.declared.types.Cell.{Cell}
use Rattle.gb_domain.specs.declared.types.Range.{Range}
use Rattle.gb_domain.specs.Types.{AbsState, ProcedureParts, Node, are_all_kept}
use Rattle.gb_domain.specs.Certificate.{Certificate}
use Rattle.gb_domain.specs.declared.rules.Rules.{Rules}
use Rattle.gb_domain.specs.declared.rules.Rules.TheVariants.{Simple, Extended}
use Rattle.gb_domain.specs.Limits.{rules_of}
use Rattle.gb_domain.specs.RelationRules.{compared}
use Rattle.gb_fields.specs.Limits.{unit}
unfoldable pub use Rattle.gb_states.specs.Numbers.{word, quad, node_number_by, node_number, flag}
use Rattle.gb_states.specs.RelationSpelling.{relations_by}
use Rattle.gb_states.specs.Rules.{IsCertificate}

-- 255 where these versions have no number: nobody reads it
abbrev pub origin_number : Option Origin → ℕ
origin_number None = 0
origin_number (Some A) = 1
origin_number (Some F) = 2
origin_number (Some B) = 3
origin_number (Some C) = 4
origin_number (Some D) = 5
origin_number (Some E) = 6
origin_number (Some H) = 7
origin_number (Some L) = 8
origin_number (Some Ie) = 9
origin_number (Some ReturnHigh) = 10
origin_number (Some ReturnLow) = 11
origin_number (Some (Kept i)) = 255
origin_number (Some MarkHigh) = 255
origin_number (Some MarkLow) = 255

unfoldable pub val : Val → List ℕ
val v = v.lo ∷ v.hi ∷ origin_number v.origin ∷ []

-- bit 0: the bit may be clear; bit 1: it may be set
abbrev pub may_number : May → ℕ
may_number m = 2 * flag m.set + flag m.clear

-- bits 0, 1 and 2: it may be off, pending, on
abbrev pub ime_number : ImeSet → ℕ
ime_number i = 4 * flag i.on + 2 * flag i.pending + flag i.off

-- whether there is a test, and its value
abbrev pub test : Option ℕ → List ℕ
test None = 0 ∷ 0 ∷ []
test (Some a) = 1 ∷ a ∷ []

-- bits 7 to 4: Z, N, H and C may be set; bits 3 to 0: they may be clear
abbrev pub flags_number : May → May → May → May → ℕ
flags_number z n h c = 128 * flag z.set + 64 * flag n.set + 32 * flag h.set + 16 * flag c.set + 8 * flag z.clear + 4 * flag n.clear + 2 * flag h.clear + flag c.clear

-- F's own origin is 2
abbrev pub own_number : Bool → ℕ
own_number true = 2
own_number false = 0

unfoldable pub flg : Flg → List ℕ
flg f = flags_number f.zero f.subtract f.half_carry f.carry ∷ own_number f.is_own ∷ []

-- by a number for what is kept
abbrev pub ctl_by : (KeptBanks → ℕ) → Ctl → List ℕ
ctl_by kept c = word c.bank_lo ++ (word c.bank_hi ++ (c.second_lo ∷ c.second_hi ∷ may_number c.gate ∷ may_number c.mode ∷ kept c.kept ∷ []))

abbrev pub all_number : KeptBanks → ℕ
all_number k = flag (are_all_kept k)

unfoldable pub ctl : Ctl → List ℕ
ctl c = ctl_by all_number c

abbrev pub vals_by : (Val → List ℕ) → Registers Val → List ℕ
vals_by spell r = spell r.a ++ (spell r.b ++ (spell r.c ++ (spell r.d ++ (spell r.e ++ (spell r.h ++ spell r.l)))))

unfoldable pub vals : Registers Val → List ℕ
vals r = vals_by val r

-- a core, and the test that stands in it
abbrev pub core_by : (Ctl → List ℕ) → (Val → List ℕ) → (Registers Val → List ℕ) → Core → Option ℕ → List ℕ
core_by spell_ctl spell_val spell_vals c t = (ime_number c.ime ∷ c.bound ∷ flag c.stack_set ∷ []) ++ (test t ++ (spell_ctl c.ctl ++ (flg c.flags ++ (spell_val c.ie ++ spell_vals c.registers))))

unfoldable pub core : Core → Option ℕ → List ℕ
core c t = core_by ctl val vals c t

unfoldable pub cell : Cell → List ℕ
cell c = word c.address ++ val c.val

-- a list behind its count
abbrev pub counted : {X : Type 0} → (X → List ℕ) → List X → List ℕ
counted spell xs = length xs ∷ flat_map spell xs

-- bytes of the stack, the oldest first, behind the number of words, or in version 3 of bytes, that they are
abbrev pub items : Rules → List Val → List ℕ
items rules vs = length vs / unit rules ∷ flat_map val vs

-- a state: its core with the test, its items, what is known of several parts together, and its cells
unfoldable pub state : Rules → AbsState → List ℕ
state rules s = core s.core (compared s.relations.byte.test) ++ (items rules s.items ++ (relations_by rules s.relations ++ counted cell s.cells))

unfoldable pub range : Range → List ℕ
range r = word r.first ++ word r.last

-- whether it returns, and in what state
unfoldable pub exit : Rules → Option AbsState → List ℕ
exit rules None = 0 ∷ []
exit rules (Some s) = 1 ∷ state rules s

-- the address above a procedure's items, which versions 1 and 2 don't say
abbrev pub base : Rules → ℕ → List ℕ
base Simple b = []
base Extended b = word b

-- all of a procedure but its entry
unfoldable pub body : Rules → ProcedureParts → List ℕ
body rules p = base rules p.base ++ (word (p.need / unit rules) ++ (counted range p.ranges ++ exit rules p.exit))

unfoldable pub procedure : ℕ → ProcedureParts → List ℕ
procedure version p = node_number version p.entry ++ body (rules_of version) p

unfoldable pub node : Rules → Node → List ℕ
node rules n = (n.procedure ∷ word n.address) ++ (word n.bank ++ state rules n.state)

-- the last of the letters: C in versions 1 and 2, X in version 3
abbrev pub letter : Rules → ℕ
letter Simple = 0x43
letter Extended = 0x58

-- the letters, the version, the stack region, how many procedures and nodes there are
unfoldable pub head : Certificate → List ℕ
head c = (0x47 ∷ 0x42 ∷ 0x42 ∷ letter (rules_of c.version) ∷ c.version ∷ []) ++ (word c.region.first ++ (word c.region.last ++ (length c.procedures ∷ node_number c.version (length c.nodes))))

unfoldable pub spelling : Certificate → List ℕ
spelling c = head c ++ (flat_map (procedure c.version) c.procedures ++ flat_map (node (rules_of c.version)) c.nodes)

-- The bytes are a certificate, and this one.
pub record Spells (bytes : List ℕ) (c : Certificate) : Type 0 where
  pub is_certificate : IsCertificate c
  pub is_spelling : bytes ≡ spelling c
