-- The text of a certificate in version 4, from its parts.
use Rattle.std.proofs.Common.{◌≡◌, ℕ, ◌+◌, ◌*◌, ◌/◌, ◌%◌, ◌≤◌, Bool, true, false, not, ◌==◌, ◌&&◌, List, [], ◌∷◌, ◌++◌, length, Option, Some, None, refl, sym, ◌∙◌, ap, subst, arith, append_assoc}
use Rattle.std.specs.Prelude.{IfSome, slice_index_or, slice_set, option_map, is_none, is_some}
use Rattle.std.proofs.lemmas.List.{append-nil}
use Rattle.std.specs.List.{flat_map, list_all}
use Rattle.std.proofs.lemmas.Bool.{and_parts}
use Rattle.std.proofs.lemmas.Bool.Decides.{nat_tests}
use Rattle.gb_ops.specs.declared.machine.Region.{Region}
use Rattle.gb_ops.specs.declared.registers.Registers.{Registers}
use Rattle.gb_domain.specs.declared.types.Origin.{Origin}
use Rattle.gb_domain.specs.declared.types.Origin.TheVariants.{A, F, B, C, D, E, H, L, Ie, ReturnHigh, ReturnLow, Kept, MarkHigh, MarkLow}
use Rattle.gb_domain.specs.declared.types.Val.{Val}
use Rattle.gb_domain.specs.declared.types.Cell.{Cell}
use Rattle.gb_domain.specs.declared.types.Core.{Core}
use Rattle.gb_domain.specs.declared.types.Ctl.{Ctl}
use Rattle.gb_domain.specs.declared.rules.Rules.{Rules}
use Rattle.gb_domain.specs.declared.rules.Rules.TheVariants.{Simple, Extended}
use Rattle.gb_domain.specs.declared.relations.Relations.{Relations}
use Rattle.gb_domain.specs.Areas.{is_area, meets, is_free_byte}
use Rattle.gb_domain.specs.RelationRules.{compared}
use Rattle.gb_domain.specs.Summaries.{SummaryParts}
use Rattle.gb_domain.specs.declared.pairs.Bounds.{Bounds}
use Rattle.gb_command_line.specs.Below.gb_fields.Limits.{unit}
use Rattle.gb_domain.specs.Types.{AbsState, ProcedureParts, Node}
use Rattle.gb_command_line.specs.Below.gb_verify.Below.gb_states.declared.form.ProcedureForm.{ProcedureForm}
use Rattle.gb_command_line.specs.Below.gb_verify.Below.gb_states.Rules.{may_be_of, is_declared_origin, is_sayable, are_sayable, is_all_or_none, is_core_sayable, is_cell_sayable, is_silent, is_unshadowed}
use Rattle.gb_command_line.specs.Below.gb_verify.Below.gb_states.Numbers.{word, quad}
use Rattle.gb_command_line.specs.Below.gb_verify.Below.gb_states.RelationSpelling as told
use Rattle.gb_command_line.specs.Below.gb_verify.Below.gb_states.Spelling as spelled
use Rattle.gb_command_line.specs.Below.gb_verify.Below.gb_states.WholeRules.{item_base}
use Rattle.gb_command_line.specs.Below.gb_verify.Below.gb_states.WholeSpelling as whole
use Rattle.gb_command_line.specs.Below.gb_verify.Widened.{below_items, above_return_word, widened_node, widened_procedure}
use Rattle.gb_program.specs.Fourth.{bank_by, fourth_ctl, fourth_state, fourth_node, fourth_procedure, has_return_word, widened_node_by, widened_procedure_by, IsFree, IsOlder}

-- ---- values

-- what versions 1 to 3 can say has the same number in version 4
origin_same : (o : Option Origin) → may_be_of Extended o ≡ true → spelled.origin_number o ≡ whole.origin_number o
origin_same None h = refl
origin_same (Some A) h = refl
origin_same (Some F) h = refl
origin_same (Some B) h = refl
origin_same (Some C) h = refl
origin_same (Some D) h = refl
origin_same (Some E) h = refl
origin_same (Some H) h = refl
origin_same (Some L) h = refl
origin_same (Some Ie) h = refl
origin_same (Some ReturnHigh) h = refl
origin_same (Some ReturnLow) h = refl
origin_same (Some (Kept i)) h = cc
origin_same (Some MarkHigh) h = cc
origin_same (Some MarkLow) h = cc

is_zero : (n : ℕ) → (n == 0) ≡ true → n ≡ 0
is_zero n h = grind (arith, nat_tests)

tag_same : (k n : ℕ) → k ≡ 0 → n ≡ 32 * k + n
tag_same k n e = omega (arith, e)

-- and the same bytes
pub val_same : (v : Val) → is_sayable Extended v ≡ true → spelled.val v ≡ whole.val v
unfolding spelled.val whole.val
val_same v h =
    let p = and_parts (may_be_of Extended v.origin) (v.low_bits == 0) h in
    ap (λ (n : ℕ). v.lo ∷ v.hi ∷ n ∷ []) (origin_same v.origin p.0 ∙ tag_same v.low_bits (whole.origin_number v.origin) (is_zero v.low_bits p.1))

pub vals_same : (vs : List Val) → list_all (is_sayable Extended) vs ≡ true → flat_map spelled.val vs ≡ flat_map whole.val vs
vals_same [] h = refl
vals_same (v ∷ vs) h =
    let p = and_parts (is_sayable Extended v) (list_all (is_sayable Extended) vs) h in
    ap (λ (b : List ℕ). b ++ flat_map spelled.val vs) (val_same v p.0) ∙ ap (λ (b : List ℕ). whole.val v ++ b) (vals_same vs p.1)

pub cells_same : (cs : List Cell) → list_all (is_cell_sayable Extended) cs ≡ true → flat_map spelled.cell cs ≡ flat_map whole.cell cs
unfolding spelled.cell whole.cell
cells_same [] h = refl
cells_same (c ∷ cs) h =
    let p = and_parts (is_sayable Extended c.val) (list_all (is_cell_sayable Extended) cs) h in
    ap (λ (b : List ℕ). (word c.address ++ b) ++ flat_map spelled.cell cs) (val_same c.val p.0) ∙ ap (λ (b : List ℕ). (word c.address ++ whole.val c.val) ++ b) (cells_same cs p.1)

registers_same : (s : Registers Val) → are_sayable Extended s ≡ true → spelled.vals s ≡ whole.vals s
unfolding spelled.vals whole.vals
registers_same s h =
    let of : Val → Bool = is_sayable Extended in
    let a = and_parts (of s.a) (of s.b && (of s.c && (of s.d && (of s.e && (of s.h && of s.l))))) h in
    let b = and_parts (of s.b) (of s.c && (of s.d && (of s.e && (of s.h && of s.l)))) a.1 in
    let c = and_parts (of s.c) (of s.d && (of s.e && (of s.h && of s.l))) b.1 in
    let d = and_parts (of s.d) (of s.e && (of s.h && of s.l)) c.1 in
    let e = and_parts (of s.e) (of s.h && of s.l) d.1 in
    let l = and_parts (of s.h) (of s.l) e.1 in
    rw (val_same s.a a.0, val_same s.b b.0, val_same s.c c.0, val_same s.d d.0, val_same s.e e.0, val_same s.h l.0, val_same s.l l.1) refl

-- ---- cores

-- a core's bytes with others for the bank's bounds and for what is kept
patched : (c : Core) (t : Option ℕ) (b0 b1 b2 b3 k : ℕ)
    → slice_set (slice_set (slice_set (slice_set (slice_set (spelled.core c t) 5 b0) 6 b1) 7 b2) 8 b3) 13 k
    ≡ (spelled.ime_number c.ime ∷ c.bound ∷ spelled.flag c.stack_set ∷ [])
    ++ (spelled.test t ++ ((b0 ∷ b1 ∷ b2 ∷ b3 ∷ c.ctl.second_lo ∷ c.ctl.second_hi ∷ spelled.may_number c.ctl.gate ∷ spelled.may_number c.ctl.mode ∷ k ∷ []) ++ (spelled.flg c.flags ++ (spelled.val c.ie ++ spelled.vals c.registers))))
unfolding spelled.core spelled.ctl
patched c None b0 b1 b2 b3 k = refl
patched c (Some a) b0 b1 b2 b3 k = refl

stays : (c : Ctl) → fourth_ctl c ≡ record c { bank_lo = (fourth_ctl c).bank_lo; bank_hi = (fourth_ctl c).bank_hi }
unfolding fourth_ctl
stays c = by (c.bank_lo / 256 == c.bank_hi / 256)
  where
    by : (b : Bool) → bank_by b c ≡ record c { bank_lo = (bank_by b c).bank_lo; bank_hi = (bank_by b c).bank_hi }
    by true = refl
    by false = refl

pub core_text : (c : Core) (t : Option ℕ) (bytes : List ℕ) (first last k : ℕ) → is_core_sayable Extended c ≡ true → bytes ≡ spelled.core c t
    → first ≡ (fourth_ctl c.ctl).bank_lo → last ≡ (fourth_ctl c.ctl).bank_hi → k ≡ whole.kept_number c.ctl.kept
    → slice_set (slice_set (slice_set (slice_set (slice_set bytes 5 (first % 256)) 6 (first / 256)) 7 (last % 256)) 8 (last / 256)) 13 k ≡ whole.core (record c { ctl = fourth_ctl c.ctl }) t
unfolding whole.core whole.ctl
core_text c t bytes first last k h e f g i =
    let p = and_parts (is_all_or_none c.ctl.kept) (is_sayable Extended c.ie && are_sayable Extended c.registers) h in
    let q = and_parts (is_sayable Extended c.ie) (are_sayable Extended c.registers) p.1 in
    rw (e, patched c t (first % 256) (first / 256) (last % 256) (last / 256) k, val_same c.ie q.0, registers_same c.registers q.1, f, g, i)
    (ap (λ (d : Ctl). (spelled.ime_number c.ime ∷ c.bound ∷ spelled.flag c.stack_set ∷ []) ++ (spelled.test t ++ (whole.ctl d ++ (spelled.flg c.flags ++ (whole.val c.ie ++ whole.vals c.registers))))) (sym (stays c.ctl)))

-- ---- states

pub items_text : (is_entered : Bool) (vs : List Val) (n : ℕ) (below own : List ℕ) → list_all (is_sayable Extended) vs ≡ true → n ≡ length (below_items is_entered ++ vs) → below ≡ flat_map spelled.val (below_items is_entered) → own ≡ flat_map spelled.val vs
    → (n ∷ []) ++ (below ++ own) ≡ spelled.counted whole.val (below_items is_entered ++ vs)
unfolding spelled.val whole.val
items_text is_entered vs n below own h e f g = rw (e, f, g, vals_same vs h) (by is_entered)
  where
    by : (b : Bool) → (length (below_items b ++ vs) ∷ []) ++ (flat_map spelled.val (below_items b) ++ flat_map whole.val vs) ≡ spelled.counted whole.val (below_items b ++ vs)
    by true = refl
    by false = refl

pub cells_text : (cs : List Cell) (n : ℕ) (bytes : List ℕ) → list_all (is_cell_sayable Extended) cs ≡ true → n ≡ length cs → bytes ≡ flat_map spelled.cell cs → (n ∷ []) ++ bytes ≡ spelled.counted whole.cell cs
cells_text cs n bytes h e f = rw (e, f, cells_same cs h) refl

none_is : (o : Option Bounds) → is_none o ≡ true → o ≡ None
none_is None h = refl
none_is (Some b) h = cc

not_true : (b : Bool) → not b ≡ true → b ≡ false
not_true true h = cc
not_true false h = refl

-- where there is a place in memory it is an address
address_told : (region : Region) (base : ℕ) (s : SummaryParts) (r : Relations) (o : Option ℕ) → IfSome o (λ a. is_free_byte region a ≡ true)
    → told.present_number (told.present_by (is_some o) r) ∷ whole.declared_number (whole.declared_in false s) ∷ (told.parts_by (told.optional word o) r ++ whole.summary s)
    ≡ whole.told_by (whole.place_in region o) (whole.memory region base o) (r, s)
address_told region base s r None h = refl
address_told region base s r (Some a) h =
    sym (ap (λ (b : Bool). whole.told_by (whole.place_if b) (whole.memory_if b base a) (r, s)) (not_true (meets region a a) (and_parts (is_area a a) (not (meets region a a)) h).1))

-- what says nothing has no bytes, and its number is 0
pub silent_text : (region : Region) (base : ℕ) (s : SummaryParts) (r : Relations) → IfSome r.byte.address (λ a. is_free_byte region a ≡ true) → is_silent s ≡ true
    → (told.present_number (told.present_in r) ∷ 0 ∷ told.parts r) ≡ whole.told region base (r, s)
unfolding whole.told whole.summary
silent_text region base s r free h =
    let p = and_parts (s.level == 0) (length s.fills == 0 && (is_unshadowed s.shadows.first && (is_unshadowed s.shadows.second && is_none s.aside))) h in
    let q = and_parts (length s.fills == 0) (is_unshadowed s.shadows.first && (is_unshadowed s.shadows.second && is_none s.aside)) p.1 in
    let u = and_parts (is_unshadowed s.shadows.first) (is_unshadowed s.shadows.second && is_none s.aside) q.1 in
    let v = and_parts (is_unshadowed s.shadows.second) (is_none s.aside) u.1 in
    by (s.level == 0) (length s.fills == 0) (is_unshadowed s.shadows.first) (is_unshadowed s.shadows.second) s.aside p.0 q.0 u.0 v.0 (none_is s.aside v.1)
    ∙ address_told region base s r r.byte.address free
  where
    number : (a b c d : Bool) (o : Option Bounds) → ℕ
    number a b c d o = whole.declared_number (record { shadows = not (c && d); levels = not (a && b); aside = is_some o; item = false })

    rest : (a b c d : Bool) (o : Option Bounds) → List ℕ
    rest a b c d o = told.where_there (not (c && d)) (whole.bank_shadows s.shadows) ++ (told.where_there (not (a && b)) (whole.levels (s.level, s.fills)) ++ told.optional told.bounds o)

    by : (a b c d : Bool) (o : Option Bounds) → a ≡ true → b ≡ true → c ≡ true → d ≡ true → o ≡ None
        → (told.present_number (told.present_in r) ∷ 0 ∷ told.parts r) ≡ told.present_number (told.present_in r) ∷ number a b c d o ∷ (told.parts r ++ rest a b c d o)
    by a b c d o e f g i j = rw (e, f, g, i, j) (ap (λ (t : List ℕ). told.present_number (told.present_in r) ∷ 0 ∷ t) (sym (append-nil (told.parts r))))

pub state_text : (region : Region) (base : ℕ) (is_entered : Bool) (s : AbsState) → IsFree region s → is_silent s.summary ≡ true
    → ((whole.core (fourth_state s).core (compared s.relations.byte.test) ++ spelled.counted whole.val (below_items is_entered ++ s.items)) ++ (told.present_number (told.present_in s.relations) ∷ 0 ∷ told.parts s.relations)) ++ spelled.counted whole.cell s.cells
    ≡ whole.state region base (fourth_state (above_return_word is_entered s))
unfolding whole.state
state_text region base is_entered s free h =
    let core : List ℕ = whole.core (fourth_state s).core (compared s.relations.byte.test) in
    let items : List ℕ = spelled.counted whole.val (below_items is_entered ++ s.items) in
    let said : List ℕ = told.present_number (told.present_in s.relations) ∷ 0 ∷ told.parts s.relations in
    let cells : List ℕ = spelled.counted whole.cell s.cells in
    append_assoc (core ++ items) said cells ∙ append_assoc core items (said ++ cells) ∙ ap (λ (t : List ℕ). core ++ (items ++ (t ++ cells))) (silent_text region (item_base base region) s.summary s.relations free h)

-- ---- texts that grow

pub more : (old one two first second : List ℕ) → one ≡ old ++ first → two ≡ one ++ second → two ≡ old ++ (first ++ second)
more old one two first second e f = f ∙ ap (λ (t : List ℕ). t ++ second) e ∙ append_assoc old first second

-- ---- nodes

pub node_is : (region : Region) (form_of : ℕ → ProcedureForm) (rules : Rules) (n : Node) (number : ℕ) (front first second third : List ℕ) (s : AbsState) (is_entered : Bool) → front ≡ [] → first ≡ word number → second ≡ word n.address → third ≡ word n.bank → s ≡ n.state
    → is_entered ≡ has_return_word rules n.procedure
    → front ++ (((first ++ second) ++ third) ++ whole.state region (form_of number).base (fourth_state (above_return_word is_entered s))) ≡ whole.node region form_of (fourth_node number (widened_node_by rules n))
unfolding whole.node widened_node
node_is region form_of rules n number front first second third s is_entered e f g h i j = rw (e, f, g, h, i, j) (by rules)
  where
    by : (r : Rules)
        → ((word number ++ word n.address) ++ word n.bank) ++ whole.state region (form_of number).base (fourth_state (above_return_word (has_return_word r n.procedure) n.state))
        ≡ whole.node region form_of (fourth_node number (widened_node_by r n))
    by Simple = refl
    by Extended = refl

-- ---- procedures

one_each : (n : ℕ) → n ≡ n / unit Extended
unfolding unit
one_each n = omega arith

-- one that keeps no cell and whose mark is 0
whole_procedure : (region : Region) (p : ProcedureParts) (entry : ℕ) → p.kept ≡ [] → p.mark ≡ 0
    → quad entry ++ (word p.base ++ (word p.need ++ (spelled.counted spelled.range p.ranges ++ ((0 ∷ 0 ∷ []) ++ whole.exit region p.base (option_map fourth_state p.exit))))) ≡ whole.procedure region (fourth_procedure entry p)
unfolding whole.procedure whole.kept_addresses spelled.node_number
whole_procedure region p entry kept mark =
    let ranges : List ℕ = spelled.counted spelled.range p.ranges in
    let exit : List ℕ = whole.exit region p.base (option_map fourth_state p.exit) in
    ap (λ (n : ℕ). quad entry ++ (word p.base ++ (word n ++ (ranges ++ ((0 ∷ 0 ∷ []) ++ exit))))) (one_each p.need)
    ∙ ap (λ (k : List ℕ). quad entry ++ (word p.base ++ (word (p.need / unit Extended) ++ (ranges ++ ((spelled.counted word k ++ (0 ∷ [])) ++ exit))))) (sym kept)
    ∙ ap (λ (m : ℕ). quad entry ++ (word p.base ++ (word (p.need / unit Extended) ++ (ranges ++ ((spelled.counted word p.kept ++ (m ∷ [])) ++ exit))))) (sym mark)

pub procedure_is : (region : Region) (rules : Rules) (is_main : Bool) (p : ProcedureParts) (entry need : ℕ) (front first second third : List ℕ) → front ≡ [] → first ≡ quad entry → second ≡ word p.base → third ≡ word need
    → need ≡ (widened_procedure_by rules is_main p).need → p.kept ≡ [] → p.mark ≡ 0
    → front ++ (((((first ++ second) ++ third) ++ spelled.counted spelled.range (widened_procedure_by rules is_main p).ranges) ++ (0 ∷ 0 ∷ [])) ++ whole.exit region p.base (fourth_procedure 0 p).exit)
    ≡ whole.procedure region (fourth_procedure entry (widened_procedure_by rules is_main p))
unfolding widened_procedure
procedure_is region rules is_main p entry need front first second third e f g h i kept mark = rw (e, f, g, h, i) (by rules is_main)
  where
    front_is : (q : ProcedureParts)
        → ((((quad entry ++ word p.base) ++ word q.need) ++ spelled.counted spelled.range q.ranges) ++ (0 ∷ 0 ∷ [])) ++ whole.exit region p.base (fourth_procedure 0 p).exit
        ≡ quad entry ++ (word p.base ++ (word q.need ++ (spelled.counted spelled.range q.ranges ++ ((0 ∷ 0 ∷ []) ++ whole.exit region p.base (option_map fourth_state p.exit)))))
    front_is q = ap (λ (t : List ℕ). quad entry ++ (word p.base ++ (word q.need ++ t))) (append_assoc (spelled.counted spelled.range q.ranges) (0 ∷ 0 ∷ []) (whole.exit region p.base (option_map fourth_state p.exit)))

    by : (r : Rules) (b : Bool)
        → ((((quad entry ++ word p.base) ++ word (widened_procedure_by r b p).need) ++ spelled.counted spelled.range (widened_procedure_by r b p).ranges) ++ (0 ∷ 0 ∷ [])) ++ whole.exit region p.base (fourth_procedure 0 p).exit
        ≡ whole.procedure region (fourth_procedure entry (widened_procedure_by r b p))
    by Simple true = front_is (widened_procedure true p) ∙ whole_procedure region (widened_procedure true p) entry kept mark
    by Simple false = front_is (widened_procedure false p) ∙ whole_procedure region (widened_procedure false p) entry kept mark
    by Extended b = front_is p ∙ whole_procedure region p entry kept mark

-- ---- exits

pub exit_none : (region : Region) (base : ℕ) (o : Option AbsState) → None ≡ o → (0 ∷ []) ≡ whole.exit region base (option_map fourth_state o)
unfolding whole.exit
exit_none region base o e = ap (λ (x : Option AbsState). whole.exit region base (option_map fourth_state x)) e

pub exit_some : (region : Region) (base : ℕ) (o : Option AbsState) (s : AbsState) → Some s ≡ o → (1 ∷ []) ++ whole.state region base (fourth_state s) ≡ whole.exit region base (option_map fourth_state o)
unfolding whole.exit
exit_some region base o s e = ap (λ (x : Option AbsState). whole.exit region base (option_map fourth_state x)) e

-- ---- bytes of a number, one by one

pub two_bytes : (bytes : List ℕ) (n : ℕ) → bytes ≡ word n → (slice_index_or bytes 0 0 ∷ slice_index_or bytes 1 0 ∷ []) ≡ word n
two_bytes bytes n e = ap (λ (b : List ℕ). slice_index_or b 0 0 ∷ slice_index_or b 1 0 ∷ []) e

pub four_bytes : (bytes : List ℕ) (n : ℕ) → bytes ≡ quad n → (slice_index_or bytes 0 0 ∷ slice_index_or bytes 1 0 ∷ slice_index_or bytes 2 0 ∷ slice_index_or bytes 3 0 ∷ []) ≡ quad n
four_bytes bytes n e = ap (λ (b : List ℕ). slice_index_or b 0 0 ∷ slice_index_or b 1 0 ∷ slice_index_or b 2 0 ∷ slice_index_or b 3 0 ∷ []) e
