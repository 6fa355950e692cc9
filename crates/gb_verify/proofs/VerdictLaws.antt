-- The verdict: step by step over the nodes, and what it says.
use Rattle.std.proofs.Common.{◌≡◌, ℕ, zero, suc, ◌+◌, ◌≤◌, ◌<◌, Bool, true, false, ◌==◌, cond, not, ◌&&◌, ◌||◌, ◌⊎◌, inl, inr, List, [], ◌∷◌, Option, Some, None, length, drop, slice_get, refl, sym, ◌∙◌, ap, subst, arith}
use Rattle.std.specs.Prelude.{option_and_then, is_some, is_none}
use Rattle.std.proofs.lemmas.Option.{slice_get-get_or}
use Rattle.gb_rules.specs.Below.gb_domain.declared.rules.Rules.{Rules}
use Rattle.gb_rules.specs.Below.gb_domain.declared.rules.Rules.TheVariants.{Simple, Extended}
use Rattle.gb_rules.specs.Below.gb_domain.declared.setting.Setting.{Setting}
use Rattle.gb_rules.specs.Below.gb_domain.Limits.{rules_of}
use Rattle.gb_rules.specs.Below.gb_domain.Summaries.{Program}
use Rattle.gb_rules.specs.Below.gb_domain.Types.{AbsState, ProcedureParts, Node}
use Rattle.gb_rules.specs.Below.gb_domain.Certificate.{Certificate}
use Rattle.gb_rules.specs.Below.gb_abs.declared.reason.Reason.{Reason}
use Rattle.gb_rules.specs.Below.gb_abs.declared.reason.Reason.TheVariants as reason
use Rattle.std.specs.List.{find, list_any}
use Rattle.gb_ops.specs.Machine.{vector}
use Rattle.gb_rules.specs.Below.gb_calls.Interrupts.{left_by_dispatch, may_come, handler_of}
use Rattle.gb_ops.specs.declared.op.Row.{Row}
use Rattle.gb_ops.specs.Table.{decoded}
use Rattle.gb_ops.specs.Cartridge.{kind_of}
use Rattle.gb_rules.specs.Below.gb_product.Covering.{covers}
use Rattle.gb_rules.specs.Below.gb_abs_effects.declared.targets.Target.{Target}
use Rattle.gb_rules.specs.Below.gb_abs_effects.declared.targets.Target.TheVariants as target
use Rattle.gb_rules.specs.Below.gb_calls.Calls.{is_entry, or_later, entry_from, entry_behind_main, callee_of}
use Rattle.gb_rules.specs.Below.gb_successors.Way.{Successor}
use Rattle.gb_rules.specs.Below.gb_successors.declared.stacks.Stack.{Stack}
use Rattle.gb_rules.specs.Below.gb_successors.declared.successors.Successors.{Successors}
use Rattle.gb_rules.specs.Below.gb_successors.Successors.{product_before, has, any_successor, successors_of}
use Rattle.gb_rules.specs.Below.gb_abs_memory.Windows.{known_kind}
use Rattle.gb_rules.specs.Below.gb_calls.Resuming.{resumed}
use Rattle.gb_rules.specs.Covered.{covered_at, is_covered_by_bytes, is_covered_by_one, is_covered_by_register, registers}
use Rattle.gb_rules.specs.Below.gb_domain.declared.pairs.PairBounds.{PairBounds}
use Rattle.gb_rules.specs.Below.gb_domain.Pairs.{any_pairs}
use Rattle.gb_rules.specs.Procedures.{entered_of, pairs_in, kept_of, mark_of, ranges_of, need_of, exit_of, base_in, setting_of, stack_of, program_of, taken_by}
use Rattle.gb_rules.specs.Below.gb_successors.Refused.{is_unstorable, meets_oam_transfer}
use Rattle.gb_rules.specs.Below.gb_successors.Code.{area_end, leaves_area, known_byte}
use Rattle.gb_rules.specs.Rules.{may_read_twice, is_undefined, breaks_stack, is_code_limited, moves_too_deep, callee_by, callee_at, is_over, is_overfull, calls_too_deep, is_uncovered_if, is_resumed_uncovered, is_back_uncovered, is_inlined_uncovered, is_call_uncovered, is_uncovered_at, is_uncovered, is_outside_of, is_uncallable_at, is_uncallable, is_unreturnable_at, is_unreturnable, interrupts, is_dispatch_deep, handles_too_deep, is_unhandled, lacks_handler, test_row, test_instruction, node_bytes, ways_of, any_of, is_possible, grows_too_deep, stores_outside, meets_ram, meets_transfer, leads_anywhere, leads_uncovered, calls_wrongly, returns_wrongly, applies_to_row, applies, reasons, reason_of}
use Rattle.gb_verify.specs.declared.verdict.Verdict.TheVariants.{Refused}
use Rattle.gb_verify.specs.Verdict.{reason_against, reason_against_at, refusal_or, verdict_from, verdict_of, is_bad_node, is_bad_entry, main_entry, IsVerdict, IgnoresVersion}
use Rattle.gb_verify.specs.PowerUp.{state_at_power_up}

next : {X : Type 0} (xs : List X) (i : ℕ) (x : X) → slice_get xs i ≡ Some x → drop i xs ≡ x ∷ drop (i + 1) xs
next [] i x h = cc
next (y ∷ ys) zero x h = let e : y ≡ x = cc in ap (λ z. z ∷ ys) e
next (y ∷ ys) (suc i) x h = let e : suc i + 1 ≡ suc (i + 1) = omega arith in rw e (next ys i x h)

-- one node more
pub verdict_at : (rom : List ℕ) (cert : Certificate) (i : ℕ) → i < length cert.nodes
    → verdict_from rom cert i (drop i cert.nodes) ≡ refusal_or (reason_against_at rom cert i) i (verdict_from rom cert (i + 1) (drop (i + 1) cert.nodes))
verdict_at rom cert i lt = by (slice_get cert.nodes i) refl
  where
    by : (o : Option Node) → slice_get cert.nodes i ≡ o
        → verdict_from rom cert i (drop i cert.nodes) ≡ refusal_or (option_and_then (reason_against rom cert) o) i (verdict_from rom cert (i + 1) (drop (i + 1) cert.nodes))
    by (Some n) e = rw (next cert.nodes i n e) refl
    by None e = absurd (none cert.nodes i lt e)
      where
        none : {X : Type 0} (xs : List X) (i : ℕ) → i < length xs → slice_get xs i ≡ None → ⊥
        none [] i lt e = omega arith
        none (x ∷ xs) zero lt e = cc
        none (x ∷ xs) (suc i) lt e = none xs i (omega arith) e

-- the first of what is left
front : {X : Type 0} (xs : List X) (i : ℕ) (x : X) (rest : List X) → drop i xs ≡ x ∷ rest → (slice_get xs i ≡ Some x) × (drop (i + 1) xs ≡ rest)
front [] zero x rest h = cc
front [] (suc i) x rest h = cc
front (y ∷ ys) zero x rest h = let e : y ≡ x = cc in let f : ys ≡ rest = cc in (ap Some e, f)
front (y ∷ ys) (suc i) x rest h = let e : suc i + 1 ≡ suc (i + 1) = omega arith in rw e (front ys i x rest h)

nothing_left : {X : Type 0} (xs : List X) (i : ℕ) → drop i xs ≡ [] → length xs ≤ i
nothing_left [] i h = omega arith
nothing_left (x ∷ xs) zero h = cc
nothing_left (x ∷ xs) (suc i) h = let p = nothing_left xs i h in omega arith

one_more : (P : ℕ → Type 0) (i : ℕ) → ((j : ℕ) → j < i → P j) → P i → (j : ℕ) → j < i + 1 → P j
one_more P i h here j lt = elim (split j i lt) [ inl less ↦ h j less | inr e ↦ subst P (sym e) here ]
  where
    split : (j i : ℕ) → j < i + 1 → (j < i) ⊎ (j ≡ i)
    split j i lt = grind arith

-- what is left of the nodes, those before it being right
IsVerdict-verdict_from : (rom : List ℕ) (cert : Certificate) (i : ℕ) (xs : List Node) → is_bad_entry rom cert ≡ false → drop i cert.nodes ≡ xs
    → ((j : ℕ) → j < i → reason_against_at rom cert j ≡ None) → IsVerdict rom cert (verdict_from rom cert i xs)
IsVerdict-verdict_from rom cert i [] good left before =
    let all = nothing_left cert.nodes i left in (
      record {
        entry = good;
        nodes = λ k d h. let at = slice_get-get_or cert.nodes k d h in ap (option_and_then (reason_against rom cert)) (sym at) ∙ before k (omega arith);
      },
      refl,
      refl,
    )
IsVerdict-verdict_from rom cert i (n ∷ rest) good left before =
    let f = front cert.nodes i n rest left in
    by (reason_against rom cert n) (ap (option_and_then (reason_against rom cert)) f.0) (λ right. IsVerdict-verdict_from rom cert (i + 1) rest good f.1 (one_more (λ j. reason_against_at rom cert j ≡ None) i before right))
  where
    by : (o : Option Reason) → reason_against_at rom cert i ≡ o → (reason_against_at rom cert i ≡ None → IsVerdict rom cert (verdict_from rom cert (i + 1) rest))
        → IsVerdict rom cert (refusal_or o i (verdict_from rom cert (i + 1) rest))
    by None e later = later e
    by (Some r) e later = inr (record { entry = good; reason = e; earlier = before })

-- the verdict says what it should
pub IsVerdict-verdict_of : (rom : List ℕ) (cert : Certificate) → IsVerdict rom cert (verdict_of rom cert)
unfolding verdict_of
IsVerdict-verdict_of rom cert = by (is_bad_entry rom cert) refl
  where
    by : (b : Bool) → is_bad_entry rom cert ≡ b → IsVerdict rom cert (cond b (Refused (main_entry cert) reason.Entry) (verdict_from rom cert 0 cert.nodes))
    by true e = inl (record { entry = e; node = refl; reason = refl })
    by false e = IsVerdict-verdict_from rom cert 0 cert.nodes e refl (λ j lt. absurd (omega arith))

-- ---- the version

-- the same certificate with another version
abbrev other : Certificate → ℕ → Certificate
other cert version = record cert { version = version }

same_callee_from :
    (program : Program) (cert : Certificate) (version : ℕ) (z : Setting) (a : ℕ) (t : AbsState) (i : ℕ) (ps : List ProcedureParts)
    → entry_from program (other cert version) z a t i ps ≡ entry_from program cert z a t i ps
unfolding is_entry
same_callee_from program cert version z a t i [] = refl
same_callee_from program cert version z a t i (p ∷ ps) = ap (or_later (is_entry program cert z a t p) i) (same_callee_from program cert version z a t (i + 1) ps)

same_callee : (program : Program) (cert : Certificate) (version : ℕ) (z : Setting) (a : ℕ) (t : AbsState) → callee_of program (other cert version) z a t ≡ callee_of program cert z a t
unfolding callee_of
same_callee program cert version z a t = by cert.procedures
  where
    by : (ps : List ProcedureParts) → entry_behind_main program (other cert version) z a t ps ≡ entry_behind_main program cert z a t ps
    by [] = refl
    by (main ∷ ps) = same_callee_from program cert version z a t 1 ps

same_callee_by : (program : Program) (cert : Certificate) (version : ℕ) (z : Setting) (w : Target) (t : AbsState) → callee_by program (other cert version) z w t ≡ callee_by program cert z w t
same_callee_by program cert version z (target.Call a) t = same_callee program cert version z a t
same_callee_by program cert version z (target.At a) t = refl
same_callee_by program cert version z (target.Main a) t = refl
same_callee_by program cert version z target.Return t = refl
same_callee_by program cert version z target.Unknown t = refl
same_callee_by program cert version z target.Lost t = refl

same_over :
    (cert : Certificate) (version : ℕ) (rules : Rules) (need held : ℕ) (o : Option ℕ) → is_over rules (other cert version) need held o ≡ is_over rules cert need held o
unfolding need_of taken_by
same_over cert version rules need held None = refl
same_over cert version Simple need held (Some q) = refl
same_over cert version Extended need held (Some q) = refl

same_depth :
    (program : Program) (cert : Certificate) (version : ℕ) (z : Setting) (need : ℕ) (t : Successor) → calls_too_deep program (other cert version) z need t ≡ calls_too_deep program cert z need t
unfolding calls_too_deep callee_at
same_depth program cert version z need t =
    ap (is_over z.rules (other cert version) need (length t.state.items)) (same_callee_by program cert version z t.target t.state)
    ∙ same_over cert version z.rules need (length t.state.items) (callee_by program cert z t.target t.state)

-- two versions have the same rules, and neither is 4, or both are
record AreRuledAlike (cert : Certificate) (version : ℕ) : Type 0 where
  rules : rules_of version ≡ rules_of cert.version
  fourth : (version == 4) ≡ (cert.version == 4)

same_entered : (cert : Certificate) (version procedure : ℕ) → AreRuledAlike cert version → entered_of (other cert version) procedure ≡ entered_of cert procedure
unfolding entered_of
same_entered cert version procedure e = ap (λ b. cond b (pairs_in cert (slice_get cert.procedures procedure)) any_pairs) e.fourth

same_setting : (cert : Certificate) (version procedure : ℕ) → AreRuledAlike cert version → setting_of (other cert version) procedure ≡ setting_of cert procedure
unfolding setting_of
same_setting cert version procedure e =
    let with : Rules → Bool → PairBounds → Setting =
    λ rules whole entered. record { rules = rules; is_whole = whole; is_main = procedure == 0; base = base_in (slice_get cert.procedures procedure); entered = entered } in
    ap (λ rules. with rules (version == 4) (entered_of (other cert version) procedure)) e.rules
    ∙ ap (λ whole. with (rules_of cert.version) whole (entered_of (other cert version) procedure)) e.fourth
    ∙ ap (with (rules_of cert.version) (cert.version == 4)) (same_entered cert version procedure e)

same_covered :
    (program : Program) (cert : Certificate) (version : ℕ) (rules : Rules) (procedure a : ℕ) (t : AbsState) → AreRuledAlike cert version
    → covered_at program rules (other cert version) procedure a t ≡ covered_at program rules cert procedure a t
unfolding covered_at
same_covered program cert version rules procedure a t e =
    let apart : PairBounds → Bool → Bool =
    λ entered b.
    is_covered_by_one program cert.nodes procedure a t
    || (list_any (is_covered_by_register program rules entered cert.nodes procedure a t) registers
    || b && is_covered_by_bytes program rules entered cert.nodes procedure a t) in
    ap (λ entered. apart entered (version == 4)) (same_entered cert version procedure e) ∙ ap (apart (entered_of cert procedure)) e.fourth

same_after :
    (program : Program) (cert : Certificate) (version : ℕ) (rules : Rules) (procedure a : ℕ) (o : Option AbsState) → AreRuledAlike cert version
    → is_uncovered_if program rules (other cert version) procedure a o ≡ is_uncovered_if program rules cert procedure a o
same_after program cert version rules procedure a None e = refl
same_after program cert version rules procedure a (Some t) e = ap (λ b. is_overfull t || not b) (same_covered program cert version rules procedure a t e)

same_exit :
    (program : Program) (cert : Certificate) (version : ℕ) (rules : Rules) (procedure back : ℕ) (t : AbsState) (q : ℕ) (exit : Option AbsState) → AreRuledAlike cert version
    → is_resumed_uncovered program rules (other cert version) procedure back t q exit ≡ is_resumed_uncovered program rules cert procedure back t q exit
unfolding taken_by ranges_of kept_of
same_exit program cert version rules procedure back t q None e = refl
same_exit program cert version rules procedure back t q (Some exit) e =
    let after : Setting → Option AbsState = λ z. resumed program (record z { rules = rules }) cert.region (taken_by cert q) (ranges_of cert q) (kept_of cert q) t exit in
    ap (λ (z : Setting). is_uncovered_if program rules (other cert version) procedure back (after z)) (same_setting cert version procedure e)
    ∙ same_after program cert version rules procedure back (after (setting_of cert procedure)) e

same_back :
    (program : Program) (cert : Certificate) (version : ℕ) (rules : Rules) (procedure back : ℕ) (t : AbsState) (q : ℕ) → AreRuledAlike cert version
    → is_back_uncovered program rules (other cert version) procedure back t q ≡ is_back_uncovered program rules cert procedure back t q
unfolding exit_of
same_back program cert version rules procedure back t q e = same_exit program cert version rules procedure back t q (exit_of cert q) e

same_inlined :
    (program : Program) (cert : Certificate) (version : ℕ) (rules : Rules) (procedure a : ℕ) (t : AbsState) → AreRuledAlike cert version
    → is_inlined_uncovered program rules (other cert version) procedure a t ≡ is_inlined_uncovered program rules cert procedure a t
same_inlined program cert version Simple procedure a t e = refl
same_inlined program cert version Extended procedure a t e = ap not (same_covered program cert version Extended procedure a t e)

same_called :
    (program : Program) (cert : Certificate) (version : ℕ) (rules : Rules) (procedure a back : ℕ) (t : AbsState) (o : Option ℕ) → AreRuledAlike cert version
    → is_call_uncovered program rules (other cert version) procedure a back t o ≡ is_call_uncovered program rules cert procedure a back t o
same_called program cert version rules procedure a back t None e = same_inlined program cert version rules procedure a t e
same_called program cert version rules procedure a back t (Some q) e = same_back program cert version rules procedure back t q e

same_covering :
    (program : Program) (cert : Certificate) (version : ℕ) (z : Setting) (procedure : ℕ) (t : Successor) → AreRuledAlike cert version
    → is_uncovered program z (other cert version) procedure t ≡ is_uncovered program z cert procedure t
unfolding is_uncovered
same_covering program cert version z procedure t e = by t.target
  where
    by : (w : Target) → is_uncovered_at program z (other cert version) procedure w t.next t.state ≡ is_uncovered_at program z cert procedure w t.next t.state
    by (target.At a) = ap not (same_covered program cert version z.rules procedure a t.state e)
    by (target.Call a) =
        ap (is_call_uncovered program z.rules (other cert version) procedure a t.next t.state) (same_callee program cert version z a t.state)
        ∙ same_called program cert version z.rules procedure a t.next t.state (callee_of program cert z a t.state) e
    by (target.Main a) = ap not (same_covered program cert version z.rules 0 a t.state e)
    by target.Return = refl
    by target.Unknown = refl
    by target.Lost = refl

same_outside : (cert : Certificate) (version : ℕ) (z : Setting) (procedure : ℕ) (o : Option ℕ) → is_outside_of z (other cert version) procedure o ≡ is_outside_of z cert procedure o
unfolding ranges_of
same_outside cert version z procedure None = refl
same_outside cert version z procedure (Some q) = refl

same_call : (program : Program) (cert : Certificate) (version : ℕ) (z : Setting) (procedure : ℕ) (t : Successor) → is_uncallable program z (other cert version) procedure t ≡ is_uncallable program z cert procedure t
unfolding is_uncallable
same_call program cert version z procedure t = by t.target
  where
    by : (w : Target) → is_uncallable_at program z (other cert version) procedure w t.state ≡ is_uncallable_at program z cert procedure w t.state
    by (target.At a) = refl
    by (target.Call a) =
        ap (is_outside_of z (other cert version) procedure) (same_callee program cert version z a t.state) ∙ same_outside cert version z procedure (callee_of program cert z a t.state)
    by (target.Main a) = refl
    by target.Return = refl
    by target.Unknown = refl
    by target.Lost = refl

same_return : (program : Program) (cert : Certificate) (version : ℕ) (rules : Rules) (procedure : ℕ) (t : Successor) → is_unreturnable program rules (other cert version) procedure t ≡ is_unreturnable program rules cert procedure t
unfolding is_unreturnable exit_of
same_return program cert version rules procedure t = by t.target
  where
    by : (w : Target) → is_unreturnable_at program rules (other cert version) procedure w t.state ≡ is_unreturnable_at program rules cert procedure w t.state
    by (target.At a) = refl
    by (target.Call a) = refl
    by (target.Main a) = refl
    by target.Return = refl
    by target.Unknown = refl
    by target.Lost = refl

same_stack : (cert : Certificate) (version procedure : ℕ) → AreRuledAlike cert version → stack_of (other cert version) procedure ≡ stack_of cert procedure
unfolding stack_of need_of mark_of
same_stack cert version procedure e =
    let with : Setting → Stack = λ z. record { setting = z; region = cert.region; need = need_of cert procedure; main_need = need_of cert 0; mark = mark_of cert procedure } in
    ap with (same_setting cert version procedure e)

-- what states may speak of is the same where neither version is 4, or both are
same_program : (rom : List ℕ) (cert : Certificate) (version : ℕ) → (version == 4) ≡ (cert.version == 4) → program_of rom (other cert version) ≡ program_of rom cert
unfolding program_of
same_program rom cert version f = ap (λ b. record { is_whole = b; kind = known_kind b (kind_of rom); facts = cert.facts }) f

-- what is asked of two versions
record AreAlike (rom : List ℕ) (cert : Certificate) (version : ℕ) : Type 0 where
  ruled : AreRuledAlike cert version
  program : program_of rom (other cert version) ≡ program_of rom cert

same_ways : (rom : List ℕ) (cert : Certificate) (version : ℕ) (n : Node) (row : Row) → AreAlike rom cert version → ways_of rom (other cert version) n row ≡ ways_of rom cert n row
unfolding ways_of
same_ways rom cert version n row e =
    ap (λ k. successors_of k (program_of rom (other cert version)) rom row n.address n.state) (same_stack cert version n.procedure e.ruled)
    ∙ ap (λ p. successors_of (stack_of cert n.procedure) p rom row n.address n.state) e.program

-- tests that agree on each successor
same_any : (test also : Successor → Bool) (rom : List ℕ) (cert : Certificate) (version : ℕ) (n : Node) (row : Row) → AreAlike rom cert version
    → ((t : Successor) → test t ≡ also t) → any_of test rom (other cert version) n row ≡ any_of also rom cert n row
unfolding any_of any_successor
same_any test also rom cert version n row e same =
    let ss = ways_of rom cert n row in
    ap (any_successor test) (same_ways rom cert version n row e) ∙ rw (has_same ss.taken, has_same ss.not_taken, has_same ss.stays) refl
  where
    has_same : (o : Option Successor) → has test o ≡ has also o
    has_same None = refl
    has_same (Some t) = same t

-- tests of interrupts that agree on each
same_interrupts : (test also : ℕ → Bool) (n : Node) (is : List ℕ) → ((i : ℕ) → test i ≡ also i) → list_any (λ i. may_come i n.state.core && test i) is ≡ list_any (λ i. may_come i n.state.core && also i) is
same_interrupts test also n [] same = refl
same_interrupts test also n (i ∷ is) same = rw (same i, same_interrupts test also n is same) refl

same_handler : (program : Program) (cert : Certificate) (version : ℕ) (z : Setting) (i a : ℕ) (t : AbsState) → handler_of program (other cert version) z i a t ≡ handler_of program cert z i a t
unfolding handler_of
same_handler program cert version z i a t = same_callee program cert version z (vector i) (left_by_dispatch z.rules a t)

same_deep :
    (cert : Certificate) (version : ℕ) (z : Setting) (need : ℕ) (t : AbsState) (o : Option ℕ)
    → is_dispatch_deep z (other cert version) need t o ≡ is_dispatch_deep z cert need t o
same_deep cert version z need t o =
    rw (same_over cert version Extended need (length t.items + 2) o, same_over cert version Simple need (length t.items) o) refl

same_handled_depth : (program : Program) (cert : Certificate) (version : ℕ) (n : Node) → AreRuledAlike cert version → handles_too_deep program (other cert version) n ≡ handles_too_deep program cert n
unfolding handles_too_deep need_of
same_handled_depth program cert version n e =
    let z = setting_of cert n.procedure in
    let need = need_of cert n.procedure in
    let test : Setting → ℕ → Bool = λ k i. is_dispatch_deep k (other cert version) need n.state (handler_of program (other cert version) k i n.address n.state) in
    ap (λ k. list_any (λ i. may_come i n.state.core && test k i) interrupts) (same_setting cert version n.procedure e)
    ∙ same_interrupts (test z) (λ i. is_dispatch_deep z cert need n.state (handler_of program cert z i n.address n.state)) n interrupts (λ i.
    ap (is_dispatch_deep z (other cert version) need n.state) (same_handler program cert version z i n.address n.state)
    ∙ same_deep cert version z need n.state (handler_of program cert z i n.address n.state))

same_unhandled :
    (program : Program) (cert : Certificate) (version : ℕ) (z : Setting) (n : Node) (i : ℕ) (o : Option ℕ) → AreRuledAlike cert version
    → is_unhandled program z (other cert version) n i o ≡ is_unhandled program z cert n i o
same_unhandled program cert version z n i o e =
    rw (same_outside cert version z n.procedure o, same_called program cert version z.rules n.procedure (vector i) n.address (left_by_dispatch z.rules n.address n.state) o e) refl

same_lacking : (program : Program) (cert : Certificate) (version : ℕ) (n : Node) → AreRuledAlike cert version → lacks_handler program (other cert version) n ≡ lacks_handler program cert n
unfolding lacks_handler
same_lacking program cert version n e =
    let z = setting_of cert n.procedure in
    let test : Setting → ℕ → Bool = λ k i. is_unhandled program k (other cert version) n i (handler_of program (other cert version) k i n.address n.state) in
    ap (λ k. list_any (λ i. may_come i n.state.core && test k i) interrupts) (same_setting cert version n.procedure e)
    ∙ same_interrupts (test z) (λ i. is_unhandled program z cert n i (handler_of program cert z i n.address n.state)) n interrupts (λ i.
    ap (is_unhandled program z (other cert version) n i) (same_handler program cert version z i n.address n.state)
    ∙ same_unhandled program cert version z n i (handler_of program cert z i n.address n.state) e)

same_possible :
    (rom : List ℕ) (cert : Certificate) (version : ℕ) (n : Node) → AreAlike rom cert version → is_possible rom (other cert version) n ≡ is_possible rom cert n
same_possible rom cert version n e =
    ap (λ p. is_some (product_before p (rules_of version) (entered_of (other cert version) n.procedure) n.state)) e.program
    ∙ (ap (λ rules. is_some (product_before (program_of rom cert) rules (entered_of (other cert version) n.procedure) n.state)) e.ruled.rules
    ∙ ap (λ entered. is_some (product_before (program_of rom cert) (rules_of cert.version) entered n.state)) (same_entered cert version n.procedure e.ruled))

same_growth : (rom : List ℕ) (cert : Certificate) (version : ℕ) (n : Node) (row : Row) → AreAlike rom cert version → grows_too_deep rom (other cert version) n row ≡ grows_too_deep rom cert n row
unfolding grows_too_deep need_of
same_growth rom cert version n row e =
    let z = setting_of cert n.procedure in
    let need = need_of cert n.procedure in
    let moves : moves_too_deep (rules_of version) need n row.op (ways_of rom (other cert version) n row).taken
    ≡ moves_too_deep (rules_of cert.version) need n row.op (ways_of rom cert n row).taken =
    ap (λ rules. moves_too_deep rules need n row.op (ways_of rom (other cert version) n row).taken) e.ruled.rules
    ∙ ap (λ (ss : Successors). moves_too_deep (rules_of cert.version) need n row.op ss.taken) (same_ways rom cert version n row e) in
    let calls : any_of (calls_too_deep (program_of rom (other cert version)) (other cert version) (setting_of (other cert version) n.procedure) need) rom (other cert version) n row
    ≡ any_of (calls_too_deep (program_of rom cert) cert z need) rom cert n row =
    same_any _ _ rom cert version n row e (λ t.
    ap (λ p. calls_too_deep p (other cert version) (setting_of (other cert version) n.procedure) need t) e.program
    ∙ (ap (λ k. calls_too_deep (program_of rom cert) (other cert version) k need t) (same_setting cert version n.procedure e.ruled)
    ∙ same_depth (program_of rom cert) cert version z need t)) in
    let handles : handles_too_deep (program_of rom (other cert version)) (other cert version) n ≡ handles_too_deep (program_of rom cert) cert n =
    ap (λ p. handles_too_deep p (other cert version) n) e.program ∙ same_handled_depth (program_of rom cert) cert version n e.ruled in
    rw (moves, calls, same_possible rom cert version n e, handles) refl

same_row : (rom : List ℕ) (cert : Certificate) (version : ℕ) (n : Node) (row : Row) (r : Reason) → AreAlike rom cert version
    → applies_to_row rom (other cert version) n row r ≡ applies_to_row rom cert n row r
unfolding applies_to_row stores_outside meets_ram meets_transfer leads_anywhere leads_uncovered calls_wrongly returns_wrongly ranges_of
same_row rom cert version n row reason.Halt e = ap (λ p. may_read_twice p rom n row.op) e.program
same_row rom cert version n row reason.Stack e =
    ap (λ p. breaks_stack p (stack_of (other cert version) n.procedure) n row.op) e.program
    ∙ ap (λ k. breaks_stack (program_of rom cert) k n row.op) (same_stack cert version n.procedure e.ruled)
same_row rom cert version n row reason.Depth e = same_growth rom cert version n row e
same_row rom cert version n row reason.Store e =
    same_any _ _ rom cert version n row e (λ t. ap (λ z. is_unstorable z (kind_of rom) cert.region (ranges_of cert n.procedure) t.write) (same_setting cert version n.procedure e.ruled))
same_row rom cert version n row reason.CartridgeRam e = same_any _ _ rom cert version n row e (λ t. refl)
same_row rom cert version n row reason.OamTransfer e =
    let limited : Successor → Bool = λ t. is_code_limited n.state.core n.address row.length || meets_oam_transfer cert.region n.state.core t in
    rw (same_any limited limited rom cert version n row e (λ t. refl), same_possible rom cert version n e) refl
same_row rom cert version n row reason.JumpHl e = same_any _ _ rom cert version n row e (λ t. refl)
same_row rom cert version n row reason.Uncovered e = same_any _ _ rom cert version n row e (λ t.
    ap (λ p. is_uncovered p (setting_of (other cert version) n.procedure) (other cert version) n.procedure t) e.program
    ∙ (ap (λ z. is_uncovered (program_of rom cert) z (other cert version) n.procedure t) (same_setting cert version n.procedure e.ruled)
    ∙ same_covering (program_of rom cert) cert version (setting_of cert n.procedure) n.procedure t e.ruled))
same_row rom cert version n row reason.Callee e = same_any _ _ rom cert version n row e (λ t.
    ap (λ p. is_uncallable p (setting_of (other cert version) n.procedure) (other cert version) n.procedure t) e.program
    ∙ (ap (λ z. is_uncallable (program_of rom cert) z (other cert version) n.procedure t) (same_setting cert version n.procedure e.ruled)
    ∙ same_call (program_of rom cert) cert version (setting_of cert n.procedure) n.procedure t))
same_row rom cert version n row reason.Return e = same_any _ _ rom cert version n row e (λ t.
    ap (λ p. is_unreturnable p (rules_of version) (other cert version) n.procedure t) e.program
    ∙ (ap (λ rules. is_unreturnable (program_of rom cert) rules (other cert version) n.procedure t) e.ruled.rules
    ∙ same_return (program_of rom cert) cert version (rules_of cert.version) n.procedure t))
same_row rom cert version n row r e = refl

same_instruction : (test also : Row → Bool) (bytes : Option (List ℕ)) → ((row : Row) → test row ≡ also row) → test_instruction test bytes ≡ test_instruction also bytes
same_instruction test also None same = refl
same_instruction test also (Some bytes) same = by (decoded bytes)
  where
    by : (o : Option Row) → test_row test o ≡ test_row also o
    by None = refl
    by (Some row) = same row

same_applies : (rom : List ℕ) (cert : Certificate) (version : ℕ) (n : Node) (r : Reason) → AreAlike rom cert version
    → applies rom (other cert version) n r ≡ applies rom cert n r
unfolding applies
same_applies rom cert version n reason.Area e = ap (λ p. leaves_area n.address (known_byte p rom n.state n.address) (area_end n.address)) e.program
same_applies rom cert version n reason.Bank e = refl
same_applies rom cert version n reason.Unreadable e = ap (λ p. is_none (node_bytes p rom n)) e.program
same_applies rom cert version n reason.UndefinedOpcode e = ap (λ p. is_undefined (node_bytes p rom n)) e.program
same_applies rom cert version n r e =
    ap (λ p. test_instruction (λ row. applies_to_row rom (other cert version) n row r) (node_bytes p rom n)) e.program
    ∙ same_instruction _ _ (node_bytes (program_of rom cert) rom n) (λ row. same_row rom cert version n row r e)

same_find : {X : Type 0} (test also : X → Bool) (xs : List X) → ((x : X) → test x ≡ also x) → find test xs ≡ find also xs
same_find test also [] same = refl
same_find test also (x ∷ xs) same = rw (same x, same_find test also xs same) refl

same_lacked :
    (rom : List ℕ) (cert : Certificate) (version : ℕ) (n : Node)
    → AreAlike rom cert version → lacks_handler (program_of rom (other cert version)) (other cert version) n ≡ lacks_handler (program_of rom cert) cert n
same_lacked rom cert version n e = ap (λ p. lacks_handler p (other cert version) n) e.program ∙ same_lacking (program_of rom cert) cert version n e.ruled

same_reason : (rom : List ℕ) (cert : Certificate) (version : ℕ) (n : Node) → AreAlike rom cert version → reason_against rom (record cert { version = version }) n ≡ reason_against rom cert n
unfolding reason_against reason_of
same_reason rom cert version n e = rw (same_find (applies rom (other cert version) n) (applies rom cert n) reasons (λ r. same_applies rom cert version n r e), same_lacked rom cert version n e) refl

same_from : (rom : List ℕ) (cert : Certificate) (version i : ℕ) (xs : List Node) → AreAlike rom cert version → verdict_from rom (record cert { version = version }) i xs ≡ verdict_from rom cert i xs
same_from rom cert version i [] e = refl
same_from rom cert version i (n ∷ rest) e = rw (same_reason rom cert version n e, same_from rom cert version (i + 1) rest e) refl

same_node : (rom : List ℕ) (cert : Certificate) (version : ℕ) (o : Option Node) → AreAlike rom cert version → is_bad_node rom (other cert version) o ≡ is_bad_node rom cert o
same_node rom cert version None e = refl
same_node rom cert version (Some n) e =
    ap (λ p. not (n.address == 0x100) || not (n.bank == 0) || not (covers p (state_at_power_up rom cert.region) n.state)) e.program

same_entry : (rom : List ℕ) (cert : Certificate) (version : ℕ) → AreAlike rom cert version → is_bad_entry rom (record cert { version = version }) ≡ is_bad_entry rom cert
unfolding is_bad_entry
same_entry rom cert version e = same_node rom cert version (slice_get cert.nodes (main_entry cert)) e

-- a verdict looks at nothing of the version but its rules, and whether it is 4
pub verdict_of-versions : IgnoresVersion
unfolding verdict_of
verdict_of-versions rom cert version e f =
    let alike : AreAlike rom cert version = record { ruled = record { rules = e; fourth = f }; program = same_program rom cert version f } in
    rw (same_entry rom cert version alike, same_from rom cert version 0 cert.nodes alike) refl
