-- What is read again of a state that stands in bytes is what was checked.
use Rattle.std.proofs.Common.{◌≡◌, ℕ, suc, ◌+◌, ◌*◌, ◌/◌, ◌%◌, ◌≤◌, ◌<◌, Bool, true, false, ◌&&◌, ◌==◌, List, [], ◌∷◌, ◌++◌, length, take, drop, slice_index, slice_set, Option, Some, None, Result, Ok, Err, refl, sym, ap, ◌∙◌, append_assoc, length-append, arith}
use Rattle.std.specs.Prelude.{not, is_some, is_none}
use Rattle.std.specs.List.{AllByRecursion, flat_map, list_all}
use Rattle.std.proofs.lemmas.Bool.{eqb-true}
use Rattle.std.proofs.Math.Seq.{take-append_seam, drop-append_seam}
use Rattle.gb_ops.specs.declared.machine.Region.{Region}
use Rattle.gb_domain.specs.declared.types.Val.{Val}
use Rattle.gb_domain.specs.declared.types.KeptBanks.{KeptBanks}
use Rattle.gb_domain.specs.declared.types.Core.{Core}
use Rattle.gb_domain.specs.declared.types.Cell.{Cell}
use Rattle.gb_domain.specs.declared.rules.Rules.{Rules}
use Rattle.gb_domain.specs.declared.rules.Rules.TheVariants.{Simple, Extended}
use Rattle.gb_domain.specs.declared.relations.Relations.{Relations}
use Rattle.gb_domain.specs.Limits.{item_room, cell_room}
use Rattle.gb_domain.specs.RelationRules.{compared, test_alone, IsRelations}
use Rattle.gb_domain.specs.Summaries.{SummaryParts, no_summary}
use Rattle.gb_domain.specs.Types.{AbsState, state_of, are_all_kept}
use Rattle.gb_states.specs.declared.form.Form.{Form}
use Rattle.gb_states.specs.declared.form.Form.TheVariants.{Older, Fourth}
use Rattle.gb_states.specs.declared.role.Role.{Role}
use Rattle.gb_states.specs.Below.gb_fields.declared.fault.CertFault.{CertFault}
use Rattle.gb_states.specs.Below.gb_fields.Format.{go_on}
use Rattle.gb_states.specs.Below.gb_fields.Limits.{unit, item_limit}
use Rattle.gb_states.specs.RelationSpelling as told
use Rattle.gb_states.specs.Rules.{is_whole, is_sayable, are_sayable, is_all_or_none, is_core_sayable, is_cell_sayable, is_silent, is_unshadowed, is_state_sayable, IsState}
use Rattle.gb_domain.specs.declared.places.StackBytes.{StackBytes}
use Rattle.gb_states.specs.WholeReading.{told_at}
use Rattle.gb_states.specs.WholeRules.{may_be_aside, item_base, stack_bytes}
use Rattle.gb_domain.specs.Areas.{is_free_byte, is_place_at}
use Rattle.gb_states.specs.declared.form.ProcedureForm.{ProcedureForm}
use Rattle.gb_states.specs.Forms.{is_fourth, IsFit, IsStateBy, spelled_by}
use Rattle.gb_states.specs.Checked.{kept_in, core_in, test_in, begins_with_zero, begins_with_zeros, are_three_zeros, are_none, listed_items, listed_cells}
use Rattle.gb_states.specs.Spelling as simple
use Rattle.gb_states.specs.WholeSpelling as spelled
use Rattle.gb_cert.specs.Borrowed.{item_width, older_kept, told_by, StateStands}
use Rattle.gb_states.proofs.Formats.{same_pair}
use Rattle.gb_states.proofs.FieldLaws.{and_both, both_and, same}
use Rattle.gb_states.proofs.RelationLaws.{compared-small, is-alone, is-told, nothing-known, nothing-told, IsFormat-relations_by}
use Rattle.gb_states.proofs.SummaryLaws.{silent-is}
use Rattle.gb_states.proofs.WholeStateLaws.{named-few, IsFormat-told}
use Rattle.gb_states.proofs.CheckedLaws as again
use Rattle.gb_states.proofs.CheckedLaws.{IsAgain, AreAgain, IsCellAgain, core_by}

-- ---- how a state of any form is spelled

abbrev kept_number_by : Form → KeptBanks → ℕ
kept_number_by (Older rules) k = simple.all_number k
kept_number_by (Fourth facts form) k = spelled.kept_number k

-- the number that so many items are counted by
abbrev count_by : Form → ℕ → ℕ
count_by (Older rules) n = n / unit rules
count_by (Fourth facts form) n = n

-- what is known of several parts together and said of the whole program
abbrev told_of : Form → Region → AbsState → List ℕ
told_of (Older rules) region s = told.relations_by rules s.relations
told_of (Fourth facts form) region s = spelled.told region (item_base form.base region) (s.relations, s.summary)

abbrev core_of : Form → AbsState → List ℕ
core_of form s = core_by (λ k. kept_number_by form k) s.core (compared s.relations.byte.test)

-- its cells behind their number
abbrev cells_then : AbsState → List ℕ → List ℕ
cells_then s tail = length s.cells ∷ (flat_map spelled.cell s.cells ++ tail)

-- what stands behind its core
abbrev items_then : Form → Region → AbsState → List ℕ → List ℕ
items_then form region s tail = count_by form (length s.items) ∷ (flat_map spelled.val s.items ++ (told_of form region s ++ cells_then s tail))

-- Its values can be read again, and this is its spelling.
record IsReadable (form : Form) (region : Region) (s : AbsState) : Type 0 where
  pub kept : kept_in (is_fourth form) (kept_number_by form s.core.ctl.kept) ≡ s.core.ctl.kept
  pub values : AreAgain s.core
  pub items : AllByRecursion IsAgain s.items
  pub cells : AllByRecursion IsCellAgain s.cells
  pub few_items : length s.items ≤ 255
  pub few_cells : length s.cells ≤ 64
  pub counted : length (flat_map spelled.val s.items) ≡ item_width form * count_by form (length s.items)
  pub spelling : spelled_by form region s ≡ core_of form s ++ ((count_by form (length s.items) ∷ flat_map spelled.val s.items) ++ (told_of form region s ++ (length s.cells ∷ flat_map spelled.cell s.cells)))

-- the parts of what versions 1 to 3 can say
sayable-parts : (rules : Rules) (s : AbsState) → is_state_sayable rules s ≡ true → (is_core_sayable rules s.core ≡ true) × ((list_all (is_sayable rules) s.items ≡ true) × ((list_all (is_cell_sayable rules) s.cells ≡ true) × (is_silent s.summary ≡ true)))
sayable-parts rules s h =
    let p = and_both (is_core_sayable rules s.core) (list_all (is_sayable rules) s.items && (list_all (is_cell_sayable rules) s.cells && is_silent s.summary)) h in
    let q = and_both (list_all (is_sayable rules) s.items) (list_all (is_cell_sayable rules) s.cells && is_silent s.summary) p.1 in
    (p.0, (q.0, and_both (list_all (is_cell_sayable rules) s.cells) (is_silent s.summary) q.1))

-- A state of versions 1 to 3 says nothing of the whole program.
pub says-nothing : (rules : Rules) (role : Role) (region : Region) (s : AbsState) → IsState rules role region s → s.summary ≡ no_summary
says-nothing rules role region s h = silent-is s.summary (sayable-parts rules s h.sayable).1.1.1

items-long : (rules : Rules) (vs : List Val) → is_whole rules (length vs) ≡ true → length (flat_map spelled.val vs) ≡ 3 * unit rules * (length vs / unit rules)
unfolding unit
items-long Simple vs whole = let w = same (length vs % 2) 0 whole in omega (arith, again.vals-long vs, w)
items-long Extended vs whole = omega (arith, again.vals-long vs)

items-few : (rules : Rules) → item_room rules < 256
unfolding item_room
items-few Simple = omega arith
items-few Extended = omega arith

cells-few : (rules : Rules) → cell_room rules ≤ 64
unfolding cell_room
cells-few Simple = omega arith
cells-few Extended = omega arith

limit-few : item_limit Extended ≤ 255
unfolding item_limit
limit-few = omega arith

older-spelling : (rules : Rules) (s : AbsState) → is_state_sayable rules s ≡ true
    → simple.state rules s ≡ core_of (Older rules) s ++ ((length s.items / unit rules ∷ flat_map spelled.val s.items) ++ (told.relations_by rules s.relations ++ (length s.cells ∷ flat_map spelled.cell s.cells)))
unfolding simple.state
older-spelling rules s h =
    let p = sayable-parts rules s h in
    rw (again.older-core rules s.core (compared s.relations.byte.test) p.0, again.older-vals rules s.items p.1.0, again.older-cells rules s.cells p.1.1.0) refl

fourth-spelling : (facts : ℕ) (form : ProcedureForm) (region : Region) (s : AbsState) → spelled.state region form.base s ≡ core_of (Fourth facts form) s ++ ((length s.items ∷ flat_map spelled.val s.items) ++ (spelled.told region (item_base form.base region) (s.relations, s.summary) ++ (length s.cells ∷ flat_map spelled.cell s.cells)))
unfolding spelled.state
fourth-spelling facts form region s = rw (again.fourth-core s.core (compared s.relations.byte.test)) refl

readable : (form : Form) (role : Role) (region : Region) (s : AbsState) → IsFit form → IsStateBy form role region s → IsReadable form region s
readable (Older rules) role region s fit h =
    let p = sayable-parts rules s h.sayable in
    let a = items-few rules in
    let b = h.item_count in
    let c = cells-few rules in
    let d = h.cell_count in
    record {
      kept = again.older-kept rules s.core p.0;
      values = again.older-values rules s.core p.0;
      items = again.older-items-again rules s.items p.1.0;
      cells = again.older-cells-again rules s.cells p.1.1.0;
      few_items = omega (arith, a, b);
      few_cells = omega (arith, c, d);
      counted = items-long rules s.items h.whole;
      spelling = older-spelling rules s h.sayable;
    }
readable (Fourth facts form) role region s fit h =
    let a = limit-few in
    let b = h.item_count in
    let c = cells-few Extended in
    let d = h.cell_count in
    record {
      kept = again.fourth-kept s.core;
      values = again.fourth-values form.kept s.core fit.1 h.core;
      items = again.fourth-items-again form.kept s.items fit.1 h.items;
      cells = again.fourth-cells-again form.kept region 0 s.cells fit.1 h.cells;
      few_items = omega (arith, a, b);
      few_cells = omega (arith, c, d);
      counted = again.vals-long s.items;
      spelling = fourth-spelling facts form region s;
    }

of-state : (form : Form) (role : Role) (region : Region) (bytes : List ℕ) (s : AbsState) → StateStands form role region bytes s → IsReadable form region s
of-state form role region bytes s h = readable form role region s h.fit h.is_state

laid-out : (core items told cells : List ℕ) (n m : ℕ) (tail : List ℕ) → (core ++ ((n ∷ items) ++ (told ++ (m ∷ cells)))) ++ tail ≡ core ++ (n ∷ (items ++ (told ++ (m ∷ (cells ++ tail)))))
laid-out core items told cells n m tail =
    append_assoc core ((n ∷ items) ++ (told ++ (m ∷ cells))) tail
    ∙ ap (λ (b : List ℕ). core ++ b) (append_assoc (n ∷ items) (told ++ (m ∷ cells)) tail ∙ ap (λ (b : List ℕ). (n ∷ items) ++ b) (append_assoc told (m ∷ cells) tail))

front-of : (form : Form) (role : Role) (region : Region) (bytes : List ℕ) (s : AbsState) (h : StateStands form role region bytes s) → bytes ≡ core_of form s ++ items_then form region s h.tail
front-of form role region bytes s h =
    h.parts ∙ ap (λ (b : List ℕ). b ++ h.tail) (of-state form role region bytes s h).spelling ∙ laid-out (core_of form s) (flat_map spelled.val s.items) (told_of form region s) (flat_map spelled.cell s.cells) (count_by form (length s.items)) (length s.cells) h.tail

-- ---- cores

-- the core of a state that stands in bytes
pub core-stands : (form : Form) (role : Role) (region : Region) (bytes : List ℕ) (s : AbsState) → StateStands form role region bytes s → core_in (is_fourth form) bytes ≡ s.core
core-stands form role region bytes s h =
    let k = of-state form role region bytes s h in
    ap (λ (b : List ℕ). core_in (is_fourth form) b) (front-of form role region bytes s h) ∙ again.core-again (is_fourth form) (λ k. kept_number_by form k) s.core (compared s.relations.byte.test) (items_then form region s h.tail) k.kept k.values

-- and its test
pub test-stands : (form : Form) (role : Role) (region : Region) (bytes : List ℕ) (s : AbsState) → StateStands form role region bytes s → test_in bytes ≡ compared s.relations.byte.test
test-stands form role region bytes s h = ap (λ (b : List ℕ). test_in b) (front-of form role region bytes s h) ∙ again.test-again (λ k. kept_number_by form k) s.core (compared s.relations.byte.test) (items_then form region s h.tail)

core_of-long : (form : Form) (s : AbsState) → length (core_of form s) ≡ 40
core_of-long form s = again.core-long (λ k. kept_number_by form k) s.core (compared s.relations.byte.test)

-- it has 40 bytes
pub core-fits : (form : Form) (role : Role) (region : Region) (bytes : List ℕ) (s : AbsState) → StateStands form role region bytes s → 40 ≤ length bytes
core-fits form role region bytes s h =
    let e : length bytes ≡ length (core_of form s) + length (items_then form region s h.tail) = ap (λ (b : List ℕ). length b) (front-of form role region bytes s h) ∙ length-append (core_of form s) (items_then form region s h.tail) in
    omega (arith, e, core_of-long form s)

taken-core : (form : Form) (role : Role) (region : Region) (bytes : List ℕ) (s : AbsState) → StateStands form role region bytes s → take 40 bytes ≡ core_of form s
taken-core form role region bytes s h =
    ap (λ (n : ℕ). take n bytes) (sym (core_of-long form s)) ∙ ap (λ (b : List ℕ). take (length (core_of form s)) b) (front-of form role region bytes s h) ∙ take-append_seam (core_of form s) (items_then form region s h.tail)

pub core-taken : (form : Form) (role : Role) (region : Region) (bytes : List ℕ) (s : AbsState) → StateStands form role region bytes s → 40 ≡ length (take 40 bytes)
core-taken form role region bytes s h = sym (ap (λ (b : List ℕ). length b) (taken-core form role region bytes s h) ∙ core_of-long form s)

kept-set : (number : KeptBanks → ℕ) (c : Core) (t : Option ℕ) → slice_set (core_by number c t) 13 (older_kept (slice_index (core_by number c t) 13)) ≡ core_by (λ k. older_kept (number k)) c t
kept-set number c None = refl
kept-set number c (Some a) = refl

flag-again : (b : Bool) → older_kept (simple.flag b) ≡ simple.flag b
flag-again true = refl
flag-again false = refl

abbrev kept_each : Bool → Bool → Bool → Bool → Bool → KeptBanks
kept_each b s g m t = record { bank = b; second = s; gate = g; mode = m; high_bank = t }

bits-again : (k : KeptBanks) → is_all_or_none k ≡ true → older_kept (spelled.kept_number k) ≡ simple.all_number k
bits-again k h = by k.bank k.second k.gate k.mode k.high_bank h
  where
    by : (b s g m t : Bool) → is_all_or_none (kept_each b s g m t) ≡ true → older_kept (spelled.kept_number (kept_each b s g m t)) ≡ simple.all_number (kept_each b s g m t)
    by true true true true true h = refl
    by true true true true false h = absurd cc
    by true true true false t h = absurd cc
    by true true false m t h = absurd cc
    by true false g m t h = absurd cc
    by false true g m t h = absurd cc
    by false false true m t h = absurd cc
    by false false false true t h = absurd cc
    by false false false false true h = absurd cc
    by false false false false false h = refl

older-number : (form : Form) (k : KeptBanks) → is_all_or_none k ≡ true → older_kept (kept_number_by form k) ≡ simple.all_number k
older-number (Older rules) k h = flag-again (are_all_kept k)
older-number (Fourth facts form) k h = bits-again k h

-- the core as versions 1 to 3 spell it, where they can say it
pub older-core : (form : Form) (role : Role) (region : Region) (bytes : List ℕ) (s : AbsState) → StateStands form role region bytes s → is_core_sayable Extended s.core ≡ true
    → slice_set (take 40 bytes) 13 (older_kept (slice_index (take 40 bytes) 13)) ≡ simple.core s.core (compared s.relations.byte.test)
older-core form role region bytes s h said =
    let kept = (and_both (is_all_or_none s.core.ctl.kept) (is_sayable Extended s.core.ie && are_sayable Extended s.core.registers) said).0 in
    ap (λ (b : List ℕ). slice_set b 13 (older_kept (slice_index b 13))) (taken-core form role region bytes s h)
    ∙ kept-set (λ k. kept_number_by form k) s.core (compared s.relations.byte.test)
    ∙ ap (λ (n : ℕ). core_by (λ k. n) s.core (compared s.relations.byte.test)) (older-number form s.core.ctl.kept kept)
    ∙ sym (again.older-core Extended s.core (compared s.relations.byte.test) said)

-- ---- lists

-- behind a state's core: its items behind their number, what is known and said, and its cells behind their number
lists-behind : (form : Form) (role : Role) (region : Region) (bytes : List ℕ) (s : AbsState) (h : StateStands form role region bytes s) → drop 40 bytes ≡ items_then form region s h.tail
lists-behind form role region bytes s h =
    ap (λ (b : List ℕ). drop 40 b) (front-of form role region bytes s h)
    ∙ ap (λ (n : ℕ). drop n (core_of form s ++ items_then form region s h.tail)) (sym (core_of-long form s))
    ∙ drop-append_seam (core_of form s) (items_then form region s h.tail)

-- so many bytes behind their number, and what is behind them
abbrev pub CountsOff : ℕ → List ℕ → List ℕ → List ℕ → Type 0
CountsOff width from first second = (n : ℕ) (xs rest : List ℕ) → from ≡ n ∷ (xs ++ rest) → length xs ≡ width * n → (first ≡ xs) × (second ≡ rest)

pub items-lent : (form : Form) (role : Role) (region : Region) (bytes first second : List ℕ) (s : AbsState) (h : StateStands form role region bytes s) → CountsOff (item_width form) (drop 40 bytes) first second
    → (first ≡ flat_map spelled.val s.items) × (second ≡ told_of form region s ++ cells_then s h.tail)
items-lent form role region bytes first second s h f =
    f (count_by form (length s.items)) (flat_map spelled.val s.items) (told_of form region s ++ cells_then s h.tail) (lists-behind form role region bytes s h) (of-state form role region bytes s h).counted

-- What bytes that are a state's items say.
pub record AreItems (bytes : List ℕ) (vs : List Val) : Type 0 where
  pub listed : listed_items bytes ≡ vs
  pub long : length bytes ≡ 3 * length vs
  pub few : length vs ≤ 255
  pub older : list_all (is_sayable Extended) vs ≡ true → bytes ≡ flat_map simple.val vs

pub items-are : (form : Form) (role : Role) (region : Region) (bytes first second : List ℕ) (s : AbsState) → StateStands form role region bytes s → CountsOff (item_width form) (drop 40 bytes) first second → AreItems first s.items
items-are form role region bytes first second s h f =
    let e = (items-lent form role region bytes first second s h f).0 in
    let k = of-state form role region bytes s h in
    record {
      listed = ap (λ (b : List ℕ). listed_items b) e ∙ again.items-again s.items k.items;
      long = ap (λ (b : List ℕ). length b) e ∙ again.vals-long s.items;
      few = k.few_items;
      older = λ said. e ∙ sym (again.older-vals Extended s.items said);
    }

-- ---- what is known and said

told-again : (form : Form) (role : Role) (region : Region) (s : AbsState) (rest : List ℕ) → IsFit form → IsStateBy form role region s → told_by form role region (length s.items) s.core (compared s.relations.byte.test) (told_of form region s ++ rest) ≡ Ok ((s.relations, s.summary), rest)
told-again (Older rules) role region s rest fit h =
    let test : Option ℕ = compared s.relations.byte.test in
    let read = (IsFormat-relations_by rules region (compared s.relations.byte.test) (compared-small s.relations.byte.test h.relations.byte.test)).again s.relations rest (is-told rules region s.relations h.relations h.known) in
    ap (λ (r : Result (Relations × List ℕ) CertFault). go_on r (λ x rest. (let q : Result ((Relations × SummaryParts) × List ℕ) CertFault = Ok ((x, no_summary), rest) in q))) read
    ∙ ap (λ (m : SummaryParts). (let q : Result ((Relations × SummaryParts) × List ℕ) CertFault = Ok ((s.relations, m), rest) in q)) (sym (says-nothing rules role region s h))
told-again (Fourth facts form) role region s rest fit h =
    (IsFormat-told facts (stack_bytes form role region (length s.items)) (may_be_aside role s.core) (compared s.relations.byte.test) fit.0 (named-few form role region (length s.items) h.item_count) (compared-small s.relations.byte.test h.relations.byte.test)).again (s.relations, s.summary) rest (((h.relations, refl), h.linked), h.summary)

-- the number of items, by their bytes
count-lent : (form : Form) (role : Role) (region : Region) (bytes first second : List ℕ) (s : AbsState) → StateStands form role region bytes s → CountsOff (item_width form) (drop 40 bytes) first second → length first / 3 ≡ length s.items
count-lent form role region bytes first second s h f = let long = (items-are form role region bytes first second s h f).long in omega (arith, long)

told-lent : (form : Form) (role : Role) (region : Region) (bytes first second : List ℕ) (s : AbsState) (h : StateStands form role region bytes s) → CountsOff (item_width form) (drop 40 bytes) first second
    → told_by form role region (length first / 3) (core_in (is_fourth form) bytes) (test_in bytes) second ≡ Ok ((s.relations, s.summary), cells_then s h.tail)
told-lent form role region bytes first second s h f =
    ap (λ (n : ℕ). told_by form role region n (core_in (is_fourth form) bytes) (test_in bytes) second) (count-lent form role region bytes first second s h f)
    ∙ ap (λ (c : Core). told_by form role region (length s.items) c (test_in bytes) second) (core-stands form role region bytes s h)
    ∙ ap (λ (t : Option ℕ). told_by form role region (length s.items) s.core t second) (test-stands form role region bytes s h)
    ∙ ap (λ (b : List ℕ). told_by form role region (length s.items) s.core (compared s.relations.byte.test) b) (items-lent form role region bytes first second s h f).1
    ∙ told-again form role region s (cells_then s h.tail) h.fit h.is_state

-- of version 4, what is read of it
pub read-fourth :
    (form : Form) (role : Role) (region : Region) (count facts : ℕ) (p : ProcedureForm) (bytes second rest : List ℕ) (test : Option ℕ) (r : Relations) (m : SummaryParts)
    → form ≡ Fourth facts p → test ≡ test_in bytes → ((k : StackBytes) (may : Bool) → told_at facts k may test second ≡ Ok ((r, m), rest))
    → told_by form role region count (core_in (is_fourth form) bytes) (test_in bytes) second ≡ Ok ((r, m), rest)
read-fourth form role region count facts p bytes second rest test r m is same h =
    ap (λ (f : Form). told_by f role region count (core_in (is_fourth f) bytes) (test_in bytes) second) is
    ∙ (ap (λ (t : Option ℕ). told_at facts (stack_bytes p role region count) (may_be_aside role (core_in true bytes)) t second) (sym same)
    ∙ h (stack_bytes p role region count) (may_be_aside role (core_in true bytes)))

pub told-right : (form : Form) (role : Role) (region : Region) (bytes first second : List ℕ) (s : AbsState) (e : CertFault) → StateStands form role region bytes s → CountsOff (item_width form) (drop 40 bytes) first second
    → told_by form role region (length first / 3) (core_in (is_fourth form) bytes) (test_in bytes) second ≡ Err e → ⊥
told-right form role region bytes first second s e h f wrong = not_both (told_by form role region (length first / 3) (core_in (is_fourth form) bytes) (test_in bytes) second) (told-lent form role region bytes first second s h f) wrong
  where
    not_both : {X : Type 0} {x : X} (r : Result X CertFault) → r ≡ Ok x → r ≡ Err e → ⊥
    not_both r f g = cc

-- What is read behind a state's items is what it says.
pub record IsTold (s : AbsState) (r : Relations) (m : SummaryParts) (cells : List ℕ) : Type 0 where
  pub relations : r ≡ s.relations
  pub summary : m ≡ s.summary
  pub listed : listed_cells cells ≡ s.cells
  pub long : length cells ≡ 5 * length s.cells
  pub few : length s.cells ≤ 64
  pub older : list_all (is_cell_sayable Extended) s.cells ≡ true → cells ≡ flat_map simple.cell s.cells

pub told-is : (form : Form) (role : Role) (region : Region) (bytes first second behind cells after : List ℕ) (r : Relations) (m : SummaryParts) (s : AbsState) → StateStands form role region bytes s → CountsOff (item_width form) (drop 40 bytes) first second
    → told_by form role region (length first / 3) (core_in (is_fourth form) bytes) (test_in bytes) second ≡ Ok ((r, m), behind) → CountsOff 5 behind cells after → IsTold s r m cells
told-is form role region bytes first second behind cells after r m s h f e g =
    let p = same_pair (s.relations, s.summary) (r, m) (cells_then s h.tail) behind (sym (told-lent form role region bytes first second s h f) ∙ e) in
    let k = of-state form role region bytes s h in
    let are : cells ≡ flat_map spelled.cell s.cells = (g (length s.cells) (flat_map spelled.cell s.cells) h.tail (sym p.1) (again.cells-long s.cells)).0 in
    record {
      relations = sym (ap (λ (q : Relations × SummaryParts). q.0) p.0);
      summary = sym (ap (λ (q : Relations × SummaryParts). q.1) p.0);
      listed = ap (λ (b : List ℕ). listed_cells b) are ∙ again.cells-again s.cells k.cells;
      long = ap (λ (b : List ℕ). length b) are ∙ again.cells-long s.cells;
      few = k.few_cells;
      older = λ said. are ∙ sym (again.older-cells Extended s.cells said);
    }

-- of no bytes there are none
pub none-of-three : {X : Type 0} (bytes : List ℕ) (xs : List X) → length bytes ≡ 0 → length bytes ≡ 3 * length xs → xs ≡ []
none-of-three bytes [] none long = refl
none-of-three bytes (x ∷ xs) none long = absurd (omega arith)

pub none-of-five : {X : Type 0} (bytes : List ℕ) (xs : List X) → length bytes ≡ 0 → length bytes ≡ 5 * length xs → xs ≡ []
none-of-five bytes [] none long = refl
none-of-five bytes (x ∷ xs) none long = absurd (omega arith)

-- ---- plain states

-- some bytes that can be counted are some of what they are counted in
some-units : (rules : Rules) (n : ℕ) → is_whole rules (suc n) ≡ true → suc n / unit rules ≡ 0 → ⊥
unfolding unit
some-units Simple n whole none = let w = same (suc n % 2) 0 whole in omega (arith, w)
some-units Extended n whole none = omega arith

no-cells : (xs : List Cell) → (length xs == 0) ≡ true → xs ≡ []
no-cells [] h = refl
no-cells (x ∷ xs) h = absurd (omega (arith, eqb-true (length (x ∷ xs)) 0 h))

-- what stands behind the items is none
abbrev rest_none : Form → List ℕ → Bool
rest_none (Older Simple) b = begins_with_zero b
rest_none (Older Extended) b = begins_with_zeros b
rest_none (Fourth facts form) b = are_three_zeros b

none-parts : (form : Form) (n : ℕ) (rest : List ℕ) → are_none form (n ∷ rest) ≡ true → (n ≡ 0) × (rest_none form rest ≡ true)
none-parts (Older Simple) n rest h = let k = and_both (n == 0) (begins_with_zero rest) h in (eqb-true n 0 k.0, k.1)
none-parts (Older Extended) n rest h = let k = and_both (n == 0) (begins_with_zeros rest) h in (eqb-true n 0 k.0, k.1)
none-parts (Fourth facts form) n rest h = let k = and_both (n == 0) (are_three_zeros rest) h in (eqb-true n 0 k.0, k.1)

-- a number of no items
no-units : (form : Form) (role : Role) (region : Region) (s : AbsState) → IsStateBy form role region s → (n : ℕ) → length s.items ≡ suc n → count_by form (suc n) ≡ 0 → ⊥
no-units (Older rules) role region s h n long none = some-units rules n (ap (λ (m : ℕ). is_whole rules m) (sym long) ∙ h.whole) none
no-units (Fourth facts form) role region s h n long none = omega (arith, none)

counted-none : (form : Form) (xs : List Val) (behind : List ℕ) → ((n : ℕ) → length xs ≡ suc n → count_by form (suc n) ≡ 0 → ⊥) → are_none form (count_by form (length xs) ∷ (flat_map spelled.val xs ++ behind)) ≡ true → (xs ≡ []) × (rest_none form behind ≡ true)
counted-none form [] behind some e = (refl, (none-parts form (count_by form 0) behind e).1)
counted-none form (x ∷ xs) behind some e = absurd (some (length xs) refl (none-parts form (count_by form (length (x ∷ xs))) (flat_map spelled.val (x ∷ xs) ++ behind) e).0)

-- What a state without items and cells, of whose parts nothing but a test of A is known together, and which says nothing of the
-- whole program, is.
pub record IsPlain (s : AbsState) : Type 0 where
  pub items : s.items ≡ []
  pub cells : s.cells ≡ []
  pub relations : s.relations ≡ test_alone (compared s.relations.byte.test)
  pub summary : s.summary ≡ no_summary

alone : (may_be may_read : ℕ → Bool) (address : Bool) (r : Relations) → IsRelations may_be may_read r → told.present_number (told.present_by address r) ≡ 0 → r ≡ test_alone (compared r.byte.test)
alone may_be may_read address r is none =
    let nothing = nothing-known may_be may_read address r is none in
    nothing ∙ sym (ap (λ (s : Relations). test_alone (compared s.byte.test)) nothing)

no-flags : (d a b c : Bool) → 8 * simple.flag d + 4 * simple.flag a + 2 * simple.flag b + simple.flag c ≡ 0 → (a ≡ false) × ((b ≡ false) × (c ≡ false))
no-flags d true b c e = absurd (omega (arith, e))
no-flags d false true c e = absurd (omega (arith, e))
no-flags d false false true e = absurd (omega (arith, e))
no-flags d false false false e = (refl, (refl, refl))

-- What declares no part says nothing.
undeclared : (item : Bool) (s : SummaryParts) → spelled.declared_number (spelled.declared_in item s) ≡ 0 → s ≡ no_summary
undeclared item s e =
    let d = spelled.declared_in item s in
    let none = no-flags d.item d.aside d.levels d.shadows e in
    let places = and_both (is_unshadowed s.shadows.first) (is_unshadowed s.shadows.second) (not-not (is_unshadowed s.shadows.first && is_unshadowed s.shadows.second) none.1.1) in
    let levels = and_both (s.level == 0) (length s.fills == 0) (not-not (s.level == 0 && length s.fills == 0) none.1.0) in
    silent-is s (both_and _ _ levels.0 (both_and _ _ levels.1 (both_and _ _ places.0 (both_and _ _ places.1 (nowhere s.aside none.0)))))
  where
    not-not : (b : Bool) → not b ≡ false → b ≡ true
    not-not true h = refl
    not-not false h = cc

    nowhere : {X : Type 0} (o : Option X) → is_some o ≡ false → is_none o ≡ true
    nowhere None h = refl
    nowhere (Some x) h = cc

-- Where nothing is known no part is spelled.
no-parts : (region : Region) (base : ℕ) → told.parts_by (spelled.memory region base (test_alone None).byte.address) (test_alone None) ≡ []
unfolding told.pairs
no-parts region base = refl

nothing-said : spelled.summary no_summary ≡ []
unfolding spelled.summary
nothing-said = refl

told-none : (form : Form) (role : Role) (region : Region) (s : AbsState) (behind : List ℕ) → IsStateBy form role region s → rest_none form (told_of form region s ++ (length s.cells ∷ behind)) ≡ true
    → (s.cells ≡ []) × ((s.relations ≡ test_alone (compared s.relations.byte.test)) × (s.summary ≡ no_summary))
unfolding told.relations spelled.told
told-none (Older Simple) role region s behind is h = (no-cells s.cells h, (is-alone s.relations is.known, says-nothing Simple role region s is))
told-none (Older Extended) role region s behind is h =
    let r = s.relations in
    let p = told.present_number (told.present_in r) in
    let k = and_both (p == 0) (begins_with_zero (told.parts r ++ (length s.cells ∷ behind))) h in
    let none = nothing-told (is_free_byte region) (is_free_byte region) s.relations is.relations (eqb-true p 0 k.0) in
    let rest : rest_none (Older Extended) ((0 ∷ []) ++ (length s.cells ∷ behind)) ≡ true = ap (λ (b : List ℕ). rest_none (Older Extended) (b ++ (length s.cells ∷ behind))) (sym none.1) ∙ h in
    (no-cells s.cells (and_both true (length s.cells == 0) rest).1, (alone (is_free_byte region) (is_free_byte region) (is_some r.byte.address) s.relations is.relations (eqb-true p 0 k.0), says-nothing Extended role region s is))
told-none (Fourth facts form) role region s behind is h =
    let place = spelled.place_in region s.relations.byte.address in
    let may_be = is_place_at (stack_bytes form role region (length s.items)) in
    let address = spelled.is_address place in
    let p = told.present_number (told.present_by address s.relations) in
    let d = spelled.declared_number (spelled.declared_in (spelled.is_item place) s.summary) in
    let parts : List ℕ = told.parts_by (spelled.memory region (item_base form.base region) s.relations.byte.address) s.relations in
    let after : List ℕ = (parts ++ spelled.summary s.summary) ++ (length s.cells ∷ behind) in
    let k = and_both (p == 0) (begins_with_zeros (d ∷ after)) h in
    let l = and_both (d == 0) (begins_with_zero after) k.1 in
    let nothing = nothing-known may_be (is_free_byte region) address s.relations is.relations (eqb-true p 0 k.0) in
    let silent = undeclared (spelled.is_item place) s.summary (eqb-true d 0 l.0) in
    let none : parts ≡ [] = ap (λ (r : Relations). told.parts_by (spelled.memory region (item_base form.base region) r.byte.address) r) nothing ∙ no-parts region (item_base form.base region) in
    let summary : spelled.summary s.summary ≡ [] = ap spelled.summary silent ∙ nothing-said in
    let rest : begins_with_zero (length s.cells ∷ behind) ≡ true = ap (λ (b : List ℕ). begins_with_zero (b ++ (length s.cells ∷ behind))) (sym (ap (λ (b : List ℕ). b ++ spelled.summary s.summary) none ∙ summary)) ∙ l.1 in
    (no-cells s.cells rest, (alone may_be (is_free_byte region) address s.relations is.relations (eqb-true p 0 k.0), silent))

-- where zeros stand behind the core the state is plain
pub is-plain : (form : Form) (role : Role) (region : Region) (bytes : List ℕ) (s : AbsState) → StateStands form role region bytes s → are_none form (drop 40 bytes) ≡ true → IsPlain s
is-plain form role region bytes s h zeros =
    let behind : List ℕ = told_of form region s ++ cells_then s h.tail in
    let items = counted-none form s.items behind (no-units form role region s h.is_state) (sym (ap (λ (b : List ℕ). are_none form b) (lists-behind form role region bytes s h)) ∙ zeros) in
    let rest = told-none form role region s (flat_map spelled.cell s.cells ++ h.tail) h.is_state items.1 in
    record { items = items.0; cells = rest.0; relations = rest.1.0; summary = rest.1.1 }

-- a plain state is its core's, with its test
pub plain_state : (s : AbsState) → s.items ≡ [] → s.cells ≡ [] → s.relations ≡ test_alone (compared s.relations.byte.test) → s.summary ≡ no_summary → record (state_of s.core) { relations = test_alone (compared s.relations.byte.test) } ≡ s
plain_state s e f g none = by s.items s.cells (test_alone (compared s.relations.byte.test)) s.summary e f (sym g) none
  where
    by : (xs : List Val) (ys : List Cell) (r : Relations) (m : SummaryParts) → xs ≡ [] → ys ≡ [] → r ≡ s.relations → m ≡ no_summary → record (state_of s.core) { relations = r } ≡ record s { items = xs; cells = ys; summary = m }
    by xs ys r m e f g h = rw (e, f, g, h) refl
