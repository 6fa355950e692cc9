-- What is known of a node of a certificate that no reason applies to.
use Rattle.gb_rules.specs.Procedures.{entered_of}
use Rattle.std.proofs.Common.{◌≡◌, ℕ, zero, suc, ◌+◌, ◌≤◌, ◌<◌, Bool, true, false, cond, not, ◌&&◌, ◌||◌, ◌==◌, nat_lt, ◌⊎◌, inl, inr, List, [], ◌∷◌, length, slice_index, slice_get, get_or, Option, Some, None, is_none, refl, sym, ◌∙◌, ap, subst, arith}
use Rattle.std.proofs.lemmas.Bool.{or_parts, not-false, eqb-true}
use Rattle.gb_calls.specs.Below.gb_states.declared.role.Role.TheVariants as role
use Rattle.std.proofs.lemmas.Bool.Decides.{nat_tests}
use Rattle.std.proofs.lemmas.Option.{same_Some}
use Rattle.std.specs.List.{AllByRecursion, Contains, find, list_any}
use Rattle.gb_ops.specs.declared.machine.Region.{Region}
use Rattle.gb_ops.specs.declared.op.Pair.{Pair}
use Rattle.gb_ops.specs.declared.op.Pair.TheVariants as pair
use Rattle.gb_ops.specs.declared.op.Op.{Op}
use Rattle.gb_ops.specs.declared.op.Op.TheVariants as op
use Rattle.gb_ops.specs.declared.op.Row.{Row}
use Rattle.gb_ops.specs.Cartridge.{kind_of}
use Rattle.gb_ops.specs.Table.{decoded}
use Rattle.gb_ops.specs.Machine.{length_of}
use Rattle.gb_successors.specs.Below.gb_domain.declared.types.Val.{Val}
use Rattle.gb_successors.specs.Below.gb_domain.declared.rules.Rules.{Rules}
use Rattle.gb_successors.specs.Below.gb_domain.declared.rules.Rules.TheVariants.{Simple, Extended}
use Rattle.gb_successors.specs.Below.gb_domain.declared.setting.Setting.{Setting}
use Rattle.gb_successors.specs.Below.gb_domain.Limits.{rules_of, item_room}
use Rattle.gb_successors.specs.Below.gb_domain.Summaries.{Program, no_summary, SummaryParts}
use Rattle.gb_successors.specs.Below.gb_product.Below.gb_summaries.Elsewhere.{IsFree}
use Rattle.gb_successors.proofs.Below.gb_abs_laws.LocationLaws.{is_located-of}
use Rattle.gb_rules.proofs.CertificateLaws.{HasStateParts, node_parts}
use Rattle.gb_successors.specs.Below.gb_domain.Types.{AbsState, Node}
use Rattle.gb_successors.specs.Below.gb_domain.Certificate.{Certificate}
use Rattle.gb_successors.specs.Below.gb_domain.Areas.{IsRegion, is_free_byte}
use Rattle.gb_successors.specs.Below.gb_domain.Pairs.{ArePairs}
use Rattle.gb_successors.specs.Below.gb_domain.Settings.{IsBase}
use Rattle.gb_successors.specs.Below.gb_domain.Rules.{IsVal, IsChain, IsCore}
use Rattle.gb_calls.specs.Below.gb_states.Rules.{key, role_of, needs_stack}
use Rattle.gb_calls.specs.Below.gb_states.WholeRules.{form_in, procedure_forms, IsNodeBy, IsCertificate}
use Rattle.gb_successors.specs.Below.gb_abs.Cells.{ArePlaced}
use Rattle.gb_successors.specs.Below.gb_abs.Stack.{AreInRegion}
use Rattle.gb_successors.specs.Below.gb_abs_effects.declared.targets.Target.{Target}
use Rattle.gb_successors.specs.Below.gb_abs_effects.declared.targets.Target.TheVariants as target
use Rattle.gb_successors.proofs.Below.gb_abs_effects_laws.DecodingLaws.{HasBytes-decoded, length-decoded}
use Rattle.gb_successors.specs.Below.gb_abs_memory.Access.{val_at}
use Rattle.gb_successors.specs.Below.gb_abs_memory.Shown.{known_bank}
use Rattle.gb_successors.specs.Below.gb_abs_memory.Sound.{IsRom, AreVals}
use Rattle.gb_successors.proofs.Below.gb_abs_memory_laws.LoadLaws.{IsVal-val_at, IsVal-cell}
use Rattle.gb_successors.proofs.Below.gb_product_laws.ByteLaws.{IsVal-byte_in}
use Rattle.gb_successors.proofs.Below.gb_product_laws.HeldLaws.{free_held}
use Rattle.gb_successors.specs.Below.gb_product.Covering.{byte_in, values_in}
use Rattle.gb_successors.specs.Below.gb_abs.Storage.{is_ram}
use Rattle.gb_successors.specs.Code.{area_end, code_val, known_byte, known_where, single_of}
use Rattle.gb_successors.proofs.ByteLaws.{chosen}
use Rattle.gb_successors.proofs.CodeLaws.{KnownBytes, KnownBytes-known_bytes, IsKnown, end_of, bank_of, clear_of}
use Rattle.gb_successors.specs.Way.{Successor}
use Rattle.gb_successors.specs.declared.successors.Successors.{Successors}
use Rattle.gb_successors.specs.Successors.{has, any_successor, product_before}
use Rattle.gb_successors.specs.Below.gb_product.Reduced.{reduced}
use Rattle.gb_successors.specs.Below.gb_relations.Sound.{IsByteFree, IsBytePlaced}
use Rattle.gb_successors.specs.Refused.{is_unstorable, meets_closed, is_stack_limited, meets_oam_transfer, is_unknown}
use Rattle.gb_successors.specs.Sound.{IsOneOf, is_followed, IsAllowed, IsFound, IsStackKnown, IsStackRuled, IsStackFree, IsStackFit, IsPushable, IsPoppable, IsReturnable, IsRuled}
use Rattle.gb_calls.specs.Calls.{callee_of, are_ranges_inside}
use Rattle.gb_calls.specs.Resuming.{resumed}
use Rattle.gb_calls.specs.Interrupts.{left_by_dispatch, may_come, handler_of}
use Rattle.gb_rules.specs.Covered.{covered_at}
use Rattle.gb_rules.proofs.ProcedureLaws.{main_room, return_word_of}
use Rattle.gb_rules.proofs.ReadyLaws.{IsStackRuled-ready}
use Rattle.gb_rules.proofs.RegionLaws.{fewer_bytes}
use Rattle.gb_rules.proofs.TargetLaws.{way_followed}
use Rattle.gb_rules.specs.Safety.{HasReturnWord}
use Rattle.std.specs.Option.{IfSome, is_some}
use Rattle.gb_rules.specs.Procedures.{ranges_of, kept_of, need_of, setting_of, stack_of, program_of, exit_of, taken_by}
use Rattle.gb_rules.specs.Rules.{is_stop, may_read_twice, breaks_simple_stack, breaks_stack_by, breaks_stack, pushes_too_deep, moves_too_deep, is_code_limited, callee_by, callee_at, is_over, calls_too_deep, is_resumed_uncovered, is_uncovered_if, is_uncovered, is_outside_of, is_uncallable_at, is_uncallable, is_exit_missed, is_unreturnable_at, is_unreturnable, interrupts, any_interrupt, is_dispatch_deep, handles_too_deep, is_dispatch_limited, is_unhandled, lacks_handler, test_row, test_instruction, is_undefined, node_bytes, ways_of, any_of, is_possible, grows_too_deep, stores_outside, meets_ram, meets_transfer, leads_anywhere, leads_uncovered, calls_wrongly, returns_wrongly, applies_to_row, applies, reasons, reason_of}
use Rattle.gb_successors.specs.Below.gb_product.Held.{stack_held}
use Rattle.gb_rules.specs.Rules.{setting_by}

-- ---- a node of a certificate is one of its grammar

contained : {S X : Type 0} (good : S → X → Type 0) (next : X → S) (s : S) (xs : List X) (x : X) → IsChain good next s xs → Contains xs x → (t : S) × good t x
contained good next s [] x h c = absurd (let lt : c.0 < 0 = c.1 in omega arith)
contained {S} {X} good next s (y ∷ xs) x h c = choose c.0 c.1 c.2 (contained good next (next y) xs x h.1)
  where
    choose : (i : ℕ) → i < suc (length xs) → get_or (y ∷ xs) i x ≡ x → (Contains xs x → (t : S) × good t x) → (t : S) × good t x
    choose zero lt e rest = (s, subst (good s) e h.0)
    choose (suc i) lt e rest = rest (i, omega arith, e)

-- its parts
pub record IsNodeState (cert : Certificate) (n : Node) : Type 0 where
  pub is_region : IsRegion cert.region
  pub address : n.address < 65536
  pub core : IsCore n.state.core
  pub placed : ArePlaced cert.region n.state.cells
  pub vals : AreVals n.state.cells
  pub items : AllByRecursion IsVal n.state.items
  pub place : rules_of cert.version ≡ Simple → IsByteFree cert.region n.state.relations.byte.address
  pub pairs : ArePairs (is_free_byte cert.region) n.state.relations.pairs
  pub quiet : rules_of cert.version ≡ Simple → n.state.summary ≡ no_summary
  pub apart : IsFree cert.region n.state.summary
  pub stack : 0 < n.procedure → n.state.core.stack_set ≡ true
  pub unset : n.state.core.stack_set ≡ false → n.state.items ≡ []
  pub aside : IfSome n.state.summary.aside (λ b. b.last < 65536)

needs_other : (procedure : ℕ) (set : Bool) → 0 < procedure → (set || not (needs_stack (role_of procedure))) ≡ true → set ≡ true
needs_other procedure set lt h = by (procedure == 0) refl set h
  where
    by : (b : Bool) → (procedure == 0) ≡ b → (set : Bool) → (set || not (needs_stack (cond b role.Main role.Other))) ≡ true → set ≡ true
    by true e set h = let none : procedure ≡ 0 = eqb-true procedure 0 e in absurd (omega arith)
    by false e true h = refl
    by false e false h = cc

unlike : true ≡ false → ⊥
unlike h = cc

not_zero : (n : ℕ) → (suc n == 0) ≡ true → ⊥
not_zero n h = let none : suc n ≡ 0 = eqb-true (suc n) 0 h in absurd (omega arith)

-- without a stack nothing is held
none_unset : (may set : Bool) (items : List Val) → (may && set || length items == 0) ≡ true → set ≡ false → items ≡ []
none_unset may set [] h e = refl
none_unset true true (v ∷ items) h e = absurd (unlike e)
none_unset true false (v ∷ items) h e = absurd (not_zero (length items) h)
none_unset false set (v ∷ items) h e = absurd (not_zero (length items) h)

pub IsNodeState-node : (cert : Certificate) (n : Node) → IsCertificate cert → Contains cert.nodes n → IsNodeState cert n
IsNodeState-node cert n c is =
    let p = contained (IsNodeBy (cert.version == 4) cert.version (length cert.facts) (form_in (procedure_forms cert.procedures)) cert.region (length cert.procedures)) key (0, 0) cert.nodes n c.nodes is in
    let node = node_parts (cert.version == 4) cert.version (length cert.facts) (form_in (procedure_forms cert.procedures)) cert.region (length cert.procedures) p.0 n refl p.1 in
    let state : HasStateParts (rules_of cert.version) (role_of n.procedure) cert.region n.state = node.state in
    record {
      is_region = c.region;
      address = node.address;
      core = state.core;
      placed = state.placed;
      vals = state.vals;
      items = state.items;
      place = λ simple. state.place (inl simple);
      pairs = state.pairs;
      quiet = state.quiet;
      apart = state.apart;
      stack = λ other. needs_other n.procedure n.state.core.stack_set other state.stack;
      unset = none_unset _ n.state.core.stack_set n.state.items state.pushed;
      aside = state.aside;
    }

-- by the rules of versions 1 and 2 no item is a place
pub place_simply :
    (cert : Certificate) (n : Node) → IsCertificate cert → Contains cert.nodes n → rules_of cert.version ≡ Simple
    → IsBytePlaced (stack_held (setting_of cert n.procedure) cert.region (length n.state.items)) n.state.relations.byte.address
place_simply cert n c is simple = free_held (setting_of cert n.procedure) cert.region (length n.state.items) n.state.relations.byte.address ((IsNodeState-node cert n c is).place simple)

-- ---- no reason applies

none_found : {X : Type 0} (test : X → Bool) (xs : List X) → find test xs ≡ None → AllByRecursion (λ x. test x ≡ false) xs
none_found test [] h = tt
none_found {X} test (x ∷ xs) h = let p = not_chosen (test x) x (find test xs) h in (p.0, none_found test xs p.1)
  where
    not_chosen : (b : Bool) (y : X) (o : Option X) → cond b (Some y) o ≡ None → (b ≡ false) × (o ≡ None)
    not_chosen true y o h = cc
    not_chosen false y o h = (refl, h)

-- a node that passes has a known instruction, inside its area and in its bank, and nothing is against it or its successors
pub record Passes (rom : List ℕ) (cert : Certificate) (n : Node) : Type 0 where
  pub bytes : List ℕ
  pub known : KnownBytes (program_of rom cert) rom n.state n.address bytes
  pub row : Row
  pub is_row : decoded bytes ≡ Some row
  pub end : ℕ
  pub is_end : area_end n.address ≡ Some end
  pub inside : n.address + length_of known.opcode ≤ end
  pub bank : known_bank rom n.state.core.ctl n.address ≡ Some n.bank
  pub stop : is_stop row.op ≡ false
  pub halt : may_read_twice (program_of rom cert) rom n row.op ≡ false
  pub stack : breaks_stack (program_of rom cert) (stack_of cert n.procedure) n row.op ≡ false
  pub depth : grows_too_deep rom cert n row ≡ false
  pub stores : stores_outside rom cert n row ≡ false
  pub ram : meets_ram rom cert n row ≡ false
  pub oam_transfer : meets_transfer rom cert n row ≡ false
  pub jump : leads_anywhere rom cert n row ≡ false
  pub covered : leads_uncovered rom cert n row ≡ false
  pub calls : calls_wrongly rom cert n row ≡ false
  pub returns : returns_wrongly rom cert n row ≡ false

some_from : {X : Type 0} (o : Option X) → is_none o ≡ false → (x : X) × (o ≡ Some x)
some_from None h = cc
some_from (Some x) h = (x, refl)

undefined_use : (o : Option (List ℕ)) (bytes : List ℕ) → o ≡ Some bytes → is_undefined o ≡ false → is_none (decoded bytes) ≡ false
undefined_use o bytes e h = sym (ap is_undefined e) ∙ h

row_use : (test : Row → Bool) (o : Option (List ℕ)) (bytes : List ℕ) (row : Row) → o ≡ Some bytes → decoded bytes ≡ Some row → test_instruction test o ≡ false → test row ≡ false
row_use test o bytes row e f h = sym (ap (test_row test) f) ∙ (sym (ap (test_instruction test) e) ∙ h)

pub Passes-from : (rom : List ℕ) (cert : Certificate) (n : Node) → reason_of rom cert n ≡ None → Passes rom cert n
unfolding reason_of applies applies_to_row node_bytes
Passes-from rom cert n h =
    let none = none_found (applies rom cert n) reasons h in
    let bytes = some_from _ none.1.1.0 in
    let known = KnownBytes-known_bytes (program_of rom cert) rom n.state n.address bytes.0 bytes.1 in
    let row = some_from _ (undefined_use _ bytes.0 bytes.1 none.1.1.1.0) in
    let end = end_of _ _ _ _ known.is_opcode none.0 in
    record {
      bytes = bytes.0;
      known = known;
      row = row.0;
      is_row = row.1;
      end = end.0;
      is_end = end.1;
      inside = end.2;
      bank = bank_of _ _ none.1.0;
      stop = row_use _ _ bytes.0 row.0 bytes.1 row.1 none.1.1.1.1.0;
      halt = row_use _ _ bytes.0 row.0 bytes.1 row.1 none.1.1.1.1.1.0;
      stack = row_use _ _ bytes.0 row.0 bytes.1 row.1 none.1.1.1.1.1.1.0;
      depth = row_use _ _ bytes.0 row.0 bytes.1 row.1 none.1.1.1.1.1.1.1.0;
      stores = row_use _ _ bytes.0 row.0 bytes.1 row.1 none.1.1.1.1.1.1.1.1.0;
      ram = row_use _ _ bytes.0 row.0 bytes.1 row.1 none.1.1.1.1.1.1.1.1.1.0;
      oam_transfer = row_use _ _ bytes.0 row.0 bytes.1 row.1 none.1.1.1.1.1.1.1.1.1.1.0;
      jump = row_use _ _ bytes.0 row.0 bytes.1 row.1 none.1.1.1.1.1.1.1.1.1.1.1.0;
      covered = row_use _ _ bytes.0 row.0 bytes.1 row.1 none.1.1.1.1.1.1.1.1.1.1.1.1.0;
      calls = row_use _ _ bytes.0 row.0 bytes.1 row.1 none.1.1.1.1.1.1.1.1.1.1.1.1.1.0;
      returns = row_use _ _ bytes.0 row.0 bytes.1 row.1 none.1.1.1.1.1.1.1.1.1.1.1.1.1.1.0;
    }

-- ---- its bytes are bytes

single_small : (v : Val) (b : ℕ) → IsVal v → single_of v ≡ Some b → b < 256
unfolding single_of
single_small v b is h = elim (chosen (v.lo == v.hi) (Some v.lo) None (Some b) h) [
  | inl p ↦
      let low : v.lo ≡ b = same_Some v.lo b p.1 in
      let order = is.order in
      let hi = is.hi in
      omega arith
  | inr p ↦ cc
]

code_is : (program : Program) (rom : List ℕ) (s : AbsState) (a : ℕ) → IsRom rom → IsCore s.core → AreVals s.cells → IsVal (code_val program rom s a)
unfolding code_val
code_is program rom s a r c vals = by (is_ram a)
  where
    by : (b : Bool) → IsVal (cond b (byte_in program (values_in s) s.cells s.summary a) (val_at rom s a))
    by true = IsVal-byte_in program (values_in s) s.cells s.summary a (IsVal-cell s.cells a vals)
    by false = IsVal-val_at rom s a c.ie vals r.bytes

byte_small : (program : Program) (rom : List ℕ) (s : AbsState) (a b : ℕ) → IsRom rom → IsCore s.core → AreVals s.cells → known_byte program rom s a ≡ Some b → b < 256
unfolding known_byte
byte_small program rom s a b r c vals h = elim (chosen _ (single_of (code_val program rom s a)) None (Some b) h) [
  | inl p ↦ single_small (code_val program rom s a) b (code_is program rom s a r c vals) p.1
  | inr p ↦ cc
]

where_small : (wanted : Bool) (program : Program) (rom : List ℕ) (s : AbsState) (a b : ℕ) → IsRom rom → IsCore s.core → AreVals s.cells → known_where wanted program rom s a ≡ Some b → b < 256
where_small true program rom s a b r c vals h = byte_small program rom s a b r c vals h
where_small false program rom s a b r c vals h = let zero_is : 0 ≡ b = same_Some 0 b h in omega arith

-- ---- its instruction has rules

not_stop : (o : Op) → is_stop o ≡ false → o ≡ op.Stop → ⊥
not_stop o h e = let stops : is_stop o ≡ true = ap is_stop e in cc

loaded_stack : (region : Region) (n : Node) (base w : ℕ) → (n.procedure ≡ 0 → base ≡ region.last + 1) → (not (n.procedure == 0) || not (w == region.last + 1)) ≡ false → op.LoadPair pair.Sp w ≡ op.LoadPair pair.Sp base
loaded_stack region n base w main h = ap (λ v. op.LoadPair pair.Sp v) (by n.procedure main h)
  where
    by : (procedure : ℕ) → (procedure ≡ 0 → base ≡ region.last + 1) → (not (procedure == 0) || not (w == region.last + 1)) ≡ false → w ≡ base
    by procedure main h =
        let first : procedure ≡ 0 = grind (arith, nat_tests) in
        let word : w ≡ region.last + 1 = grind (arith, nat_tests) in
        let top : base ≡ region.last + 1 = main first in
        word ∙ sym top

loaded_pair : (z : Setting) (region : Region) (n : Node) (base w : ℕ) (which : Pair) → (n.procedure ≡ 0 → base ≡ region.last + 1) → breaks_simple_stack region n (op.LoadPair which w) ≡ false → IsStackKnown z region (op.LoadPair which w) n.state base
unfolding breaks_simple_stack
loaded_pair z region n base w pair.Bc main h = inl refl
loaded_pair z region n base w pair.De main h = inl refl
loaded_pair z region n base w pair.Hl main h = inl refl
loaded_pair z region n base w pair.Sp main h = inr (inl (loaded_stack region n base w main h))

simple_room : (n : ℕ) → nat_lt 32 n ≡ false → nat_lt (item_room Simple) n ≡ false
unfolding item_room
simple_room n h = h

pushable : (z : Setting) (region : Region) (need base : ℕ) (s : AbsState) → AreInRegion region base need → not s.core.stack_set ≡ false → (nat_lt need (length s.items + 2) || nat_lt 32 (length s.items + 2)) ≡ false → z.rules ≡ Simple → s.summary.aside ≡ None → IsPushable z region s base
pushable z region need base s room set h simple none = record {
  located = is_located-of s.summary.aside s.core.stack_set none (not-false _ set);
  held = subst (λ q. nat_lt (item_room q) (length s.items + 2) ≡ false) (sym simple) (few (or_parts _ _ h).1);
  room = fewer_bytes region base need (length s.items + 2) room (fits (length s.items) h);
}
  where
    fits : (n : ℕ) → (nat_lt need (n + 2) || nat_lt 32 (n + 2)) ≡ false → n + 2 ≤ need
    fits n h = grind (arith, nat_tests)

    few : nat_lt 32 (length s.items + 2) ≡ false → nat_lt (item_room Simple) (length s.items + 2) ≡ false
    few h = simple_room (length s.items + 2) h

poppable : (s : AbsState) → (not s.core.stack_set || nat_lt (length s.items) 2) ≡ false → s.summary.aside ≡ None → IsPoppable s
poppable s h none =
    let p = or_parts _ _ h in
    record { located = is_located-of s.summary.aside s.core.stack_set none (not-false _ p.0); held = enough (length s.items) p.1 }
  where
    enough : (n : ℕ) → nat_lt n 2 ≡ false → 2 ≤ n
    enough n h = grind (arith, nat_tests)

stack_known : (z : Setting) (region : Region) (need base : ℕ) (n : Node) (o : Op) → (n.procedure ≡ 0 → base ≡ region.last + 1) → AreInRegion region base need → breaks_simple_stack region n o ≡ false → pushes_too_deep need n o ≡ false → z.rules ≡ Simple → n.state.summary.aside ≡ None → IsStackKnown z region o n.state base
unfolding breaks_simple_stack pushes_too_deep item_room
stack_known z region need base n (op.LoadPair which w) main room h deep simple none = loaded_pair z region n base w which main h
stack_known z region need base n (op.Push from) main room h deep simple none = inr (inr (inl (refl, pushable z region need base n.state room h deep simple none)))
stack_known z region need base n (op.Pop to) main room h deep simple none = inr (inr (inr (inl (refl, poppable n.state h none))))
stack_known z region need base n (op.CallIf k w) main room h deep simple none = inr (inr (inr (inr (inl (refl, is_located-of n.state.summary.aside n.state.core.stack_set none (not-false _ h))))))
stack_known z region need base n (op.Call w) main room h deep simple none = inr (inr (inr (inr (inl (refl, is_located-of n.state.summary.aside n.state.core.stack_set none (not-false _ h))))))
stack_known z region need base n (op.Restart w) main room h deep simple none = inr (inr (inr (inr (inl (refl, is_located-of n.state.summary.aside n.state.core.stack_set none (not-false _ h))))))
stack_known z region need base n (op.ReturnIf k) main room h deep simple none = inr (inr (inr (inr (inr refl))))
stack_known z region need base n op.Return main room h deep simple none = inr (inr (inr (inr (inr refl))))
stack_known z region need base n op.ReturnFromInterrupt main room h deep simple none = inr (inr (inr (inr (inr refl))))
stack_known z region need base n o main room h deep simple none = inl h

-- its states stand by the certificate's rules
pub rules_at : (cert : Certificate) (procedure : ℕ) → rules_of cert.version ≡ (stack_of cert procedure).setting.rules
unfolding stack_of setting_of
rules_at cert procedure = refl

-- what is asked of its depth, each of the three by itself
pub record IsShallow (rom : List ℕ) (cert : Certificate) (n : Node) (row : Row) : Type 0 where
  pub moves : moves_too_deep (rules_of cert.version) (need_of cert n.procedure) n row.op (ways_of rom cert n row).taken ≡ false
  pub calls : any_of (calls_too_deep (program_of rom cert) cert (setting_of cert n.procedure) (need_of cert n.procedure)) rom cert n row ≡ false
  pub handles : is_possible rom cert n ≡ true → handles_too_deep (program_of rom cert) cert n ≡ false

where_possible : (a b : Bool) → (a && b) ≡ false → b ≡ true → a ≡ false
where_possible true b h e = cc
where_possible false b h e = refl

pub shallow : (rom : List ℕ) (cert : Certificate) (n : Node) (p : Passes rom cert n) → IsShallow rom cert n p.row
unfolding grows_too_deep
shallow rom cert n p =
    let parts = or_parts _ _ p.depth in
    let first = or_parts _ _ parts.0 in
    record { moves = first.0; calls = first.1; handles = where_possible (handles_too_deep (program_of rom cert) cert n) (is_possible rom cert n) parts.1 }

-- what is asked of it while an OAM transfer may run
pub record IsOpen (rom : List ℕ) (cert : Certificate) (n : Node) (row : Row) : Type 0 where
  pub accesses : any_of (λ t. is_code_limited n.state.core n.address row.length || meets_oam_transfer cert.region n.state.core t) rom cert n row ≡ false
  pub dispatches : is_possible rom cert n ≡ true → is_dispatch_limited cert.region n ≡ false

pub unlimited : (rom : List ℕ) (cert : Certificate) (n : Node) (p : Passes rom cert n) → IsOpen rom cert n p.row
unfolding meets_transfer
unlimited rom cert n p =
    let parts = or_parts _ _ p.oam_transfer in
    record { accesses = parts.0; dispatches = where_possible (is_dispatch_limited cert.region n) (is_possible rom cert n) parts.1 }

-- where its procedure's bytes lie
pub record IsHoused (cert : Certificate) (procedure base : ℕ) : Type 0 where
  pub main : procedure ≡ 0 → base ≡ cert.region.last + 1
  pub based : IsBase (setting_of cert procedure) base
  pub room : AreInRegion cert.region base (need_of cert procedure)

-- by the rules of versions 1 and 2 no stack is put aside
none_simply : (cert : Certificate) (n : Node) → IsNodeState cert n → rules_of cert.version ≡ Simple → n.state.summary.aside ≡ None
none_simply cert n state simple = ap (λ (m : SummaryParts). m.aside) (state.quiet simple)

stack_ruled : (rom : List ℕ) (cert : Certificate) (n : Node) (base : ℕ) (row : Row) → IsCertificate cert → IsNodeState cert n → IsHoused cert n.procedure base → breaks_stack (program_of rom cert) (stack_of cert n.procedure) n row.op ≡ false
    → moves_too_deep (rules_of cert.version) (need_of cert n.procedure) n row.op (ways_of rom cert n row).taken ≡ false → (r : Rules) → rules_of cert.version ≡ r
    → IsStackRuled r (stack_of cert n.procedure) (program_of rom cert) rom row n.address n.state base
unfolding stack_of setting_of ways_of
stack_ruled rom cert n base row certificate state h stack depth Simple is =
    stack_known (setting_of cert n.procedure) cert.region (need_of cert n.procedure) base n row.op h.main h.room
    (subst (λ (q : Rules). breaks_stack_by q (program_of rom cert) (stack_of cert n.procedure) n row.op ≡ false) is stack)
    (subst (λ (q : Rules). moves_too_deep q (need_of cert n.procedure) n row.op (ways_of rom cert n row).taken ≡ false) is depth) is (none_simply cert n state is)
stack_ruled rom cert n base row certificate state h stack depth Extended is =
    IsStackRuled-ready (stack_of cert n.procedure) (program_of rom cert) rom row n base
    (record { extended = is; based = h.based; room = h.room; main = main_room cert certificate })
    (subst (λ (q : Rules). breaks_stack_by q (program_of rom cert) (stack_of cert n.procedure) n row.op ≡ false) is stack)
    (subst (λ (q : Rules). moves_too_deep q (need_of cert n.procedure) n row.op (ways_of rom cert n row).taken ≡ false) is depth)

pub ruled : (rom : List ℕ) (cert : Certificate) (n : Node) (base : ℕ) (p : Passes rom cert n) → IsRom rom → IsCertificate cert → IsNodeState cert n → IsHoused cert n.procedure base
    → IsRuled (stack_of cert n.procedure) (program_of rom cert) rom p.row n.address n.state base
ruled rom cert n base p r certificate s housed =
    let second : p.known.second < 256 = where_small _ (program_of rom cert) rom n.state _ _ r s.core s.vals p.known.is_second in
    let third : p.known.third < 256 = where_small _ (program_of rom cert) rom n.state _ _ r s.core s.vals p.known.is_third in
    let at_second : slice_index p.bytes 1 ≡ p.known.second = ap (λ bytes. slice_index bytes 1) p.known.bytes_are in
    let at_third : slice_index p.bytes 2 ≡ p.known.third = ap (λ bytes. slice_index bytes 2) p.known.bytes_are in
    record {
      operands = HasBytes-decoded p.bytes p.row (subst (λ k. k < 256) (sym at_second) second) (subst (λ k. k < 256) (sym at_third) third) p.is_row;
      runs = not_stop p.row.op p.stop;
      stack = ruled_by rom cert n base p.row (stack_ruled rom cert n base p.row certificate s housed p.stack (shallow rom cert n p).moves (rules_of cert.version) refl);
    }
  where
    ruled_by : (rom : List ℕ) (cert : Certificate) (n : Node) (base : ℕ) (row : Row) → IsStackRuled (rules_of cert.version) (stack_of cert n.procedure) (program_of rom cert) rom row n.address n.state base
        → IsStackRuled (stack_of cert n.procedure).setting.rules (stack_of cert n.procedure) (program_of rom cert) rom row n.address n.state base
    ruled_by rom cert n base row h = subst (λ (q : Rules). IsStackRuled q (stack_of cert n.procedure) (program_of rom cert) rom row n.address n.state base) (rules_at cert n.procedure) h

-- ---- nothing is against a successor

none_of : (test : Successor → Bool) (ss : Successors) (t : Successor) → any_successor test ss ≡ false → IsOneOf ss t → test t ≡ false
unfolding any_successor
none_of test ss t h is = by is (parts _ _ _ h)
  where
    parts : (a b c : Bool) → (a || b || c) ≡ false → (a ≡ false) × (b ≡ false) × (c ≡ false)
    parts true b c h = cc
    parts false true c h = cc
    parts false false c h = (refl, refl, h)

    by : IsOneOf ss t → (has test ss.taken ≡ false) × (has test ss.not_taken ≡ false) × (has test ss.stays ≡ false) → test t ≡ false
    by (inl e) k = sym (ap (has test) e) ∙ k.0
    by (inr (inl e)) k = sym (ap (has test) e) ∙ k.1
    by (inr (inr e)) k = sym (ap (has test) e) ∙ k.2

-- where its states stand by the rules of versions 1 and 2
abbrev pub simple_at : Certificate → Node → Setting
simple_at cert n = record (setting_of cert n.procedure) { rules = Simple }

pub ruled_by : (rules : Rules) (cert : Certificate) (n : Node) → rules_of cert.version ≡ rules → setting_of cert n.procedure ≡ record (setting_of cert n.procedure) { rules = rules }
unfolding setting_of
ruled_by rules cert n is = ap (λ (q : Rules). record (setting_of cert n.procedure) { rules = q }) is

pub simply : (cert : Certificate) (n : Node) → rules_of cert.version ≡ Simple → setting_of cert n.procedure ≡ simple_at cert n
simply cert n simple = ruled_by Simple cert n simple

-- what a call asks for: a callee, with room for the return address
callable : (cert : Certificate) (n : Node) (t : Successor) (base a : ℕ) (o : Option ℕ) → is_outside_of (simple_at cert n) cert n.procedure o ≡ false → is_over Simple cert (need_of cert n.procedure) (length t.state.items) o ≡ false
    → AreInRegion cert.region base (need_of cert n.procedure) → AreInRegion cert.region base (length t.state.items + 2)
callable cert n t base a None outside over room = cc
callable cert n t base a (Some q) outside over room = fewer_bytes cert.region base (need_of cert n.procedure) (length t.state.items + 2) room (fits (need_of cert n.procedure) (length t.state.items) (need_of cert q) over)
  where
    fits : (need held more : ℕ) → nat_lt need (held + 2 + more) ≡ false → held + 2 ≤ need
    fits need held more h = grind (arith, nat_tests)

-- what a return asks for: an exit, with nothing held
returnable : (program : Program) (cert : Certificate) (n : Node) (t : Successor) (base : ℕ) (o : Option AbsState) → IsNodeState cert n → n.state.summary.aside ≡ None → (n.procedure == 0 || is_exit_missed program Simple t.state o) ≡ false
    → (0 < n.procedure → base + 2 ≤ cert.region.last + 1) → AreInRegion cert.region base (need_of cert n.procedure) → IsReturnable cert.region n.state t base
returnable program cert n t base o state none h word room =
    let p = or_parts _ _ h in
    let other : 0 < n.procedure = not_zero n.procedure p.0 in
    let last = word other in
    let first = room.first in
    record { located = is_located-of n.state.summary.aside n.state.core.stack_set none (state.stack other); held = no_items o t.state p.1; return_word = record { first = omega arith; last = last } }
  where
    not_zero : (m : ℕ) → (m == 0) ≡ false → 0 < m
    not_zero m h = grind (arith, nat_tests)

    empty : (items : List Val) → length items ≡ 0 → items ≡ []
    empty [] h = refl
    empty (i ∷ items) h = cc

    no_items : (o : Option AbsState) (s : AbsState) → is_exit_missed program Simple s o ≡ false → s.items ≡ []
    no_items None s h = cc
    no_items (Some exit) s h = empty s.items (eqb-true _ _ (not-false _ (or_parts _ _ h).0))

-- nothing is against it, by the certificate's rules
pub record IsUnopposed (program : Program) (rules : Rules) (cert : Certificate) (n : Node) (t : Successor) : Type 0 where
  pub found : is_unknown t.target ≡ false
  pub covered : is_uncovered program (record (setting_of cert n.procedure) { rules = rules }) cert n.procedure t ≡ false
  pub callable : is_uncallable program (record (setting_of cert n.procedure) { rules = rules }) cert n.procedure t ≡ false
  pub shallow : calls_too_deep program cert (record (setting_of cert n.procedure) { rules = rules }) (need_of cert n.procedure) t ≡ false
  pub returnable : is_unreturnable program rules cert n.procedure t ≡ false

pub unopposed : (rules : Rules) (rom : List ℕ) (cert : Certificate) (n : Node) (p : Passes rom cert n) (t : Successor) → rules_of cert.version ≡ rules → IsOneOf (ways_of rom cert n p.row) t → IsUnopposed (program_of rom cert) rules cert n t
unfolding leads_anywhere leads_uncovered calls_wrongly returns_wrongly any_of
unopposed rules rom cert n p t is one =
    let z = ruled_by rules cert n is in
    let ways = ways_of rom cert n p.row in
    let own = setting_of cert n.procedure in
    record {
      found = none_of (λ w. is_unknown w.target) ways t p.jump one;
      covered = subst (λ (q : Setting). is_uncovered (program_of rom cert) q cert n.procedure t ≡ false) z (none_of (is_uncovered (program_of rom cert) own cert n.procedure) ways t p.covered one);
      callable = subst (λ (q : Setting). is_uncallable (program_of rom cert) q cert n.procedure t ≡ false) z (none_of (is_uncallable (program_of rom cert) own cert n.procedure) ways t p.calls one);
      shallow = subst (λ (q : Setting). calls_too_deep (program_of rom cert) cert q (need_of cert n.procedure) t ≡ false) z (none_of (calls_too_deep (program_of rom cert) cert own (need_of cert n.procedure)) ways t (shallow rom cert n p).calls one);
      returnable = subst (λ (q : Rules). is_unreturnable (program_of rom cert) q cert n.procedure t ≡ false) is (none_of (is_unreturnable (program_of rom cert) (rules_of cert.version) cert n.procedure) ways t p.returns one);
    }

-- by the rules of versions 1 and 2 it goes on in the procedure, calls or returns
pub followed : (rom : List ℕ) (cert : Certificate) (n : Node) (p : Passes rom cert n) (t : Successor) → rules_of cert.version ≡ Simple → IsOneOf (ways_of rom cert n p.row) t → is_followed Simple t.target ≡ true
unfolding ways_of stack_of setting_of
followed rom cert n p t simple is = way_followed (stack_of cert n.procedure) (program_of rom cert) rom p.row n.address n.state t simple is (unopposed Simple rom cert n p t simple is).found

-- by those of version 3 it is found
pub found : (program : Program) (cert : Certificate) (n : Node) (t : Successor) → IsUnopposed program Extended cert n t → IsFound t.target
unfolding is_unreturnable
found program cert n t u = by t.target u.found u.returnable
  where
    by : (w : Target) → is_unknown w ≡ false → is_unreturnable_at program Extended cert n.procedure w t.state ≡ false → IsFound w
    by (target.At a) known returns = tt
    by (target.Call a) known returns = tt
    by target.Return known returns = tt
    by (target.Main a) known returns = tt
    by target.Unknown known returns = absurd (unlike known)
    by target.Lost known returns = absurd (unlike returns)

-- the stack has what it asks for
fit_simply : (program : Program) (rom : List ℕ) (cert : Certificate) (n : Node) (base : ℕ) (t : Successor) → is_followed Simple t.target ≡ true → IsUnopposed program Simple cert n t → IsNodeState cert n → n.state.summary.aside ≡ None
    → (0 < n.procedure → base + 2 ≤ cert.region.last + 1) → AreInRegion cert.region base (need_of cert n.procedure) → IsStackFree cert.region t.target n.state t base
unfolding is_uncallable is_unreturnable calls_too_deep callee_at
fit_simply program rom cert n base t known u state none word room = by t.target known u.callable u.shallow u.returnable
  where
    by : (w : Target) → is_followed Simple w ≡ true → is_uncallable_at program (simple_at cert n) cert n.procedure w t.state ≡ false
        → is_over Simple cert (need_of cert n.procedure) (length t.state.items) (callee_by program cert (simple_at cert n) w t.state) ≡ false
        → is_unreturnable_at program Simple cert n.procedure w t.state ≡ false → IsStackFree cert.region w n.state t base
    by (target.At a) known calls deep returns = tt
    by (target.Call a) known calls deep returns = callable cert n t base a (callee_of program cert (simple_at cert n) a t.state) calls deep room
    by target.Return known calls deep returns = returnable program cert n t base (exit_of cert n.procedure) state none returns word room
    by (target.Main a) known calls deep returns = cc
    by target.Unknown known calls deep returns = cc
    by target.Lost known calls deep returns = cc

fit : (rom : List ℕ) (cert : Certificate) (n : Node) (p : Passes rom cert n) (base : ℕ) (t : Successor) → IsOneOf (ways_of rom cert n p.row) t → IsNodeState cert n
    → HasReturnWord (rules_of cert.version) cert.region n.procedure base → AreInRegion cert.region base (need_of cert n.procedure) → (r : Rules) → rules_of cert.version ≡ r
    → IsStackFit r cert.region t.target n.state t base
fit rom cert n p base t is state word room Simple simple =
    fit_simply (program_of rom cert) rom cert n base t (followed rom cert n p t simple is) (unopposed Simple rom cert n p t simple is) state (none_simply cert n state simple) (return_word_of (rules_of cert.version) cert.region n.procedure base simple word) room
fit rom cert n p base t is state word room Extended extended = found (program_of rom cert) cert n t (unopposed Extended rom cert n p t extended is)

pub allowed : (rom : List ℕ) (cert : Certificate) (n : Node) (p : Passes rom cert n) (base : ℕ) (t : Successor) → IsOneOf (ways_of rom cert n p.row) t → IsNodeState cert n
    → HasReturnWord (rules_of cert.version) cert.region n.procedure base → AreInRegion cert.region base (need_of cert n.procedure)
    → IsAllowed (setting_of cert n.procedure) rom cert.region (ranges_of cert n.procedure) n.state base t
unfolding stores_outside meets_ram any_of setting_of
allowed rom cert n p base t is state word room =
    record {
      stores = none_of (λ w. is_unstorable (setting_of cert n.procedure) (kind_of rom) cert.region (ranges_of cert n.procedure) w.write) (ways_of rom cert n p.row) t p.stores is;
      ram = none_of (meets_closed rom n.state.core) (ways_of rom cert n p.row) t p.ram is;
      oam_transfer =
          (or_parts _ _ (none_of (λ w. is_code_limited n.state.core n.address p.row.length || meets_oam_transfer cert.region n.state.core w) (ways_of rom cert n p.row) t (unlimited rom cert n p).accesses is)).1;
      stack = fit rom cert n p base t is state word room (rules_of cert.version) refl;
    }

first_is : (bytes : List ℕ) (a b c : ℕ) → bytes ≡ a ∷ b ∷ c ∷ [] → slice_index bytes 0 ≡ a
first_is bytes a b c h = rw h refl

-- where there is a successor, no OAM transfer closes the instruction's bytes
pub known_by : (rom : List ℕ) (cert : Certificate) (n : Node) (p : Passes rom cert n) (t : Successor) → IsOneOf (ways_of rom cert n p.row) t → IsKnown (program_of rom cert) rom n p.bytes
unfolding any_of is_code_limited
known_by rom cert n p t is =
    let length : p.row.length ≡ length_of p.known.opcode = length-decoded p.bytes p.row p.is_row ∙ ap length_of (first_is p.bytes _ _ _ p.known.bytes_are) in
    let open_ = clear_of n.state.core.bound n.address p.row.length (or_parts _ _ (none_of (λ w. is_code_limited n.state.core n.address p.row.length || meets_oam_transfer cert.region n.state.core w) (ways_of rom cert n p.row) t (unlimited rom cert n p).accesses is)).0 in
    record {
      known = p.known;
      end = p.end;
      is_end = p.is_end;
      inside = p.inside;
      bank = p.bank;
      clear = subst (λ k. (n.state.core.bound ≡ 0) ⊎ ((0xFF80 ≤ n.address) × (n.address + k ≤ 0xFFFF))) length open_;
    }

-- ---- interrupts

none_in : (test : ℕ → Bool) (xs : List ℕ) (k x : ℕ) → list_any test xs ≡ false → slice_get xs k ≡ Some x → test x ≡ false
none_in test [] k x h at = cc
none_in test (y ∷ ys) zero x h at = subst (λ z. test z ≡ false) (same_Some _ _ at) (or_parts _ _ h).0
none_in test (y ∷ ys) (suc k) x h at = none_in test ys k x (or_parts _ _ h).1 at

interrupt_at : (i : ℕ) → i < 5 → slice_get interrupts i ≡ Some i
interrupt_at zero lt = refl
interrupt_at (suc zero) lt = refl
interrupt_at (suc (suc zero)) lt = refl
interrupt_at (suc (suc (suc zero))) lt = refl
interrupt_at (suc (suc (suc (suc zero)))) lt = refl
interrupt_at (suc (suc (suc (suc (suc i))))) lt = absurd (omega arith)

both_false : (a b : Bool) → a ≡ true → (a && b) ≡ false → b ≡ false
both_false true b e h = h
both_false false b e h = cc

-- an interrupt that may come passes no test that none passes
pub one_interrupt : (test : ℕ → Bool) (n : Node) (i : ℕ) → any_interrupt test n ≡ false → i < 5 → may_come i n.state.core ≡ true → test i ≡ false
one_interrupt test n i h lt may = both_false _ _ may (none_in (λ i. may_come i n.state.core && test i) interrupts i i h (interrupt_at i lt))

-- what is known of an interrupt that may come
pub record IsProvided (program : Program) (cert : Certificate) (n : Node) (i : ℕ) : Type 0 where
  pub stack_set : n.state.core.stack_set ≡ true
  pub clear : is_stack_limited cert.region n.state.core ≡ false
  pub handler : ℕ
  pub is_handler : handler_of program cert (simple_at cert n) i n.address n.state ≡ Some handler
  pub inside : are_ranges_inside (ranges_of cert handler) (ranges_of cert n.procedure) ≡ true
  pub depth : length n.state.items + 2 + need_of cert handler ≤ need_of cert n.procedure
  pub resumes :
      (exit : AbsState) → exit_of cert handler ≡ Some exit
      → IfSome (resumed program (setting_by Simple cert n.procedure) cert.region (taken_by cert handler) (ranges_of cert handler) (kept_of cert handler) (left_by_dispatch Simple n.address n.state) exit)
      (λ after. covered_at program Simple cert n.procedure n.address after ≡ true)

pub covered_if : (program : Program) (cert : Certificate) (procedure a : ℕ) (o : Option AbsState) → is_uncovered_if program Simple cert procedure a o ≡ false → IfSome o (λ s. covered_at program Simple cert procedure a s ≡ true)
covered_if program cert procedure a None h = tt
covered_if program cert procedure a (Some s) h = not-false _ (or_parts _ _ h).1

provided : (program : Program) (cert : Certificate) (n : Node) (i : ℕ) (o : Option ℕ) → handler_of program cert (simple_at cert n) i n.address n.state ≡ o → is_stack_limited cert.region n.state.core ≡ false
    → is_unhandled program (simple_at cert n) cert n i o ≡ false → is_over Simple cert (need_of cert n.procedure) (length n.state.items) o ≡ false → IsProvided program cert n i
provided program cert n i None e clear handled over = absurd (none_out (not n.state.core.stack_set) handled)
  where
    none_out : (a : Bool) → (a || true || false) ≡ false → ⊥
    none_out true h = cc
    none_out false h = cc
provided program cert n i (Some q) e clear handled over =
    let p = or_parts _ _ handled in
    let r = or_parts _ _ p.0 in
    record {
      stack_set = not-false _ r.0;
      clear = clear;
      handler = q;
      is_handler = e;
      inside = not-false _ r.1;
      depth = held (length n.state.items + 2 + need_of cert q) (need_of cert n.procedure) over;
      resumes = λ exit is.
          covered_if program cert n.procedure n.address _
          (subst (λ o. is_resumed_uncovered program Simple cert n.procedure n.address (left_by_dispatch Simple n.address n.state) q o ≡ false) is p.1);
    }
  where
    held : (m need : ℕ) → nat_lt need m ≡ false → m ≤ need
    held m need h = grind (arith, nat_tests)

some_before : (rom : List ℕ) (cert : Certificate) (n : Node) → rules_of cert.version ≡ Simple → is_possible rom cert n ≡ true
unfolding product_before reduced
some_before rom cert n simple = subst (λ (q : Rules). is_some (product_before (program_of rom cert) q (entered_of cert n.procedure) n.state) ≡ true) (sym simple) refl

pub IsProvided-passed : (rom : List ℕ) (cert : Certificate) (n : Node) (p : Passes rom cert n) (i : ℕ) → rules_of cert.version ≡ Simple → lacks_handler (program_of rom cert) cert n ≡ false → i < 5 → may_come i n.state.core ≡ true
    → IsProvided (program_of rom cert) cert n i
unfolding handles_too_deep is_dispatch_limited lacks_handler
IsProvided-passed rom cert n p i simple handled lt may =
    provided (program_of rom cert) cert n i (handler_of (program_of rom cert) cert (simple_at cert n) i n.address n.state) refl
    (one_interrupt (λ i. is_stack_limited cert.region n.state.core) n i ((unlimited rom cert n p).dispatches (some_before rom cert n simple)) lt may)
    (subst (λ (z : Setting). is_unhandled (program_of rom cert) z cert n i (handler_of (program_of rom cert) cert z i n.address n.state) ≡ false) (simply cert n simple)
    (one_interrupt (λ i. is_unhandled (program_of rom cert) (setting_of cert n.procedure) cert n i (handler_of (program_of rom cert) cert (setting_of cert n.procedure) i n.address n.state)) n i handled lt may))
    (subst (λ (z : Setting). is_dispatch_deep z cert (need_of cert n.procedure) n.state (handler_of (program_of rom cert) cert z i n.address n.state) ≡ false) (simply cert n simple)
    (one_interrupt (λ i. is_dispatch_deep (setting_of cert n.procedure) cert (need_of cert n.procedure) n.state (handler_of (program_of rom cert) cert (setting_of cert n.procedure) i n.address n.state)) n i ((shallow rom cert n p).handles (some_before rom cert n simple)) lt may))
