-- The lines of a certificate (own texts).
use Rattle.std.specs.Prelude.{ℕ, ◌+◌, ◌/◌, ◌||◌, nat_lt, cond, List, [], ◌∷◌, ◌++◌, length, drop, flat_map, codes, decimal, is_some}
use Rattle.gb_watch.specs.Below.gb_console.Below.gb_domain.declared.rules.Rules.{Rules}
use Rattle.gb_watch.specs.Below.gb_console.Below.gb_domain.declared.rules.Rules.TheVariants.{Simple, Extended}
use Rattle.gb_watch.specs.Below.gb_console.Below.gb_domain.Limits.{rules_of}
use Rattle.gb_watch.specs.Below.gb_console.Below.gb_domain.Types.{ProcedureParts, Node}
use Rattle.gb_watch.specs.Below.gb_console.Below.gb_domain.Certificate.{Certificate}
use Rattle.gb_watch.specs.Below.gb_console.Below.gb_domain.declared.summary.Fact.{Fact}
use Rattle.gb_text.specs.Text.{line_feed, hex_byte, hex_word}
use Rattle.gb_printed.specs.HeaderLine.{yes_or_no}

-- a bank, at most 511, in three hexadecimal digits
abbrev pub hex_bank : ℕ → List ℕ
hex_bank bank = drop 1 (hex_word bank)

-- the stack region, and how many procedures and nodes there are
unfoldable pub stack_text : Certificate → List ℕ
stack_text c =
    codes "stack " ++ hex_word c.region.first ++ codes ".." ++ hex_word c.region.last
    ++ codes " procedures " ++ decimal (length c.procedures) ++ codes " nodes " ++ decimal (length c.nodes) ++ line_feed

-- the address above a procedure's items, which certificates of versions 1 and 2 don't say
abbrev pub base_text : Rules → ℕ → List ℕ
base_text Simple base = []
base_text Extended base = codes " base " ++ hex_word base

-- a need, in words for versions 1 and 2, and in bytes for version 3
abbrev pub told_need : Rules → ℕ → ℕ
told_need Simple need = need / 2
told_need Extended need = need

-- a procedure with its number: its first node, in version 3 its base, the stack that it needs, how many ranges it declares, whether it
-- returns
unfoldable pub procedure_text : Rules → ℕ → ProcedureParts → List ℕ
procedure_text rules i p =
    codes "procedure " ++ decimal i ++ codes " entry " ++ decimal p.entry ++ base_text rules p.base ++ codes " need " ++ decimal (told_need rules p.need)
    ++ codes " ranges " ++ decimal (length p.ranges) ++ codes " returns " ++ yes_or_no (is_some p.exit) ++ line_feed

-- what a procedure names by the rules of version 4, in a line of its own: how many addresses whose bytes it keeps, and how many bytes
-- below its base it puts its stack aside
unfoldable pub names_text : ℕ → ProcedureParts → List ℕ
names_text i p = cond (nat_lt 0 (length p.kept) || nat_lt 0 p.mark)
    (codes "procedure " ++ decimal i ++ codes " keeps " ++ decimal (length p.kept) ++ codes " mark " ++ decimal p.mark ++ line_feed)
    []

-- a procedure's line, and the line of what it names, if that is anything
unfoldable pub procedure_lines : Rules → ℕ → ProcedureParts → List ℕ
procedure_lines rules i p = procedure_text rules i p ++ names_text i p

-- a fact, of certificates of version 4: its addresses with their distance, the least and the greatest of its bytes, and how many low bits
-- these have in common
unfoldable pub fact_text : Fact → List ℕ
fact_text f =
    codes "fact " ++ hex_word f.first ++ codes ".." ++ hex_word f.last ++ codes " step " ++ decimal f.step
    ++ codes " values " ++ hex_byte f.value.lo ++ codes ".." ++ hex_byte f.value.hi ++ codes " low bits " ++ decimal f.value.count ++ line_feed

-- a node with its number: its procedure, its address and its bank
unfoldable pub node_text : ℕ → Node → List ℕ
node_text i n =
    codes "node " ++ decimal i ++ codes " procedure " ++ decimal n.procedure
    ++ codes " address " ++ hex_word n.address ++ codes " bank " ++ hex_bank n.bank ++ line_feed

-- each with its number, the first of them with this one
unfoldable pub numbered : {X : Type 0} → (ℕ → X → List ℕ) → ℕ → List X → List ℕ
numbered text i [] = []
numbered text i (x ∷ xs) = text i x ++ numbered text (i + 1) xs

-- the stack's line, then the lines of each fact, each procedure and each node
unfoldable pub show_text : Certificate → List ℕ
show_text c = stack_text c ++ (flat_map fact_text c.facts ++ (numbered (procedure_lines (rules_of c.version)) 0 c.procedures ++ numbered node_text 0 c.nodes))
