-- The procedures that wait, by the rules of versions 1 and 2: the machine stays in the one on top, calls another one, or returns.
use Rattle.gb_rules.proofs.NodeLaws.{IsNodeState-node}
use Rattle.gb_rules.proofs.EntryLaws.{AreWithin-entered}
use Rattle.gb_successors.specs.Below.gb_pairs.Sound.{AreWithin}
use Rattle.gb_successors.specs.Below.gb_product.Meaning.{entered_with}
use Rattle.gb_rules.specs.Procedures.{entered_of}
use Rattle.std.proofs.Common.{◌≡◌, ℕ, ◌+◌, ◌≤◌, ◌<◌, true, inl, List, ◌∷◌, length, Some, refl, sym, ◌∙◌, ap, subst, arith}
use Rattle.gb_ops.specs.Pairs.{word}
use Rattle.gb_ops.specs.Play.{MState}
use Rattle.gb_successors.specs.Below.gb_domain.Summaries.{Program, SummaryParts}
use Rattle.gb_successors.specs.Below.gb_domain.Types.{AbsState, Node}
use Rattle.gb_successors.specs.Below.gb_domain.Certificate.{Certificate}
use Rattle.gb_calls.specs.Below.gb_states.declared.role.Role.TheVariants as role
use Rattle.gb_successors.specs.Below.gb_domain.Limits.{rules_of}
use Rattle.gb_successors.specs.Below.gb_domain.declared.rules.Rules.{Rules}
use Rattle.gb_successors.specs.Below.gb_domain.declared.rules.Rules.TheVariants.{Simple}
use Rattle.gb_calls.specs.Below.gb_states.WholeRules.{IsCertificate}
use Rattle.gb_successors.specs.Below.gb_abs.Meaning.{Activation, is_located}
use Rattle.gb_successors.specs.Below.gb_product.Covering.{covers}
use Rattle.gb_successors.specs.Below.gb_product.Meaning.{Means}
use Rattle.gb_successors.specs.Below.gb_abs.Stack.{AreInRegion}
use Rattle.gb_successors.specs.Below.gb_abs.Storage.{peek}
use Rattle.gb_successors.proofs.Below.gb_product_laws.CoveringLaws.{Means-covered}
use Rattle.gb_successors.proofs.Below.gb_abs_laws.StorageLaws.{region_in_ram}
use Rattle.gb_successors.specs.Below.gb_abs_memory.Kept.{keeps, keeps_by, IsKept}
use Rattle.gb_calls.specs.Calls.{entered_by, are_ranges_inside}
use Rattle.gb_calls.specs.Resuming.{resumed_alone, resumed_by}
use Rattle.std.specs.Prelude.{◌==◌}
use Rattle.gb_calls.specs.Sound.{without_word, ComesBack}
use Rattle.gb_calls.proofs.EnteringLaws.{Means-entered}
use Rattle.gb_calls.proofs.RangeLaws.{IsKept-inside}
use Rattle.gb_calls.proofs.ResumingLaws.{Means-resumed_alone}
use Rattle.gb_successors.specs.Below.gb_abs_effects.Pairs.{known_word}
use Rattle.gb_ops.specs.declared.machine.Kind.TheVariants as kind
use Rattle.gb_successors.proofs.Below.gb_abs_laws.LocationLaws.{is_located-of}
use Rattle.gb_rules.proofs.CertificateLaws.{HasStateParts}
use Rattle.gb_rules.proofs.ProgramLaws.{no_controller}
use Rattle.gb_rules.specs.Covered.{covered_at}
use Rattle.gb_rules.specs.Procedures.{ranges_of, kept_of, need_of, setting_of, program_of, exit_of}
use Rattle.gb_rules.specs.Safety.{Declares, begun, IsAt, IsMeant, Calls, Returns}
use Rattle.gb_rules.specs.Frames.{Keeps, Frame, IsWaiting, AreWaiting, Stands}
use Rattle.gb_rules.proofs.CoveringLaws.{IsFoundAt, covered_items, found_at}
use Rattle.gb_rules.proofs.NodeLaws.{place_simply}
use Rattle.gb_rules.proofs.ProcedureLaws.{based_setting, HasReturnWord-simply, return_word_of, ranges_apart, apart_outside, exit_state, exit_located, exit_items}
use Rattle.gb_rules.proofs.CallLaws.{sp_pushed, Means-without_word, pushed_word, region_end}
use Rattle.gb_ops.specs.declared.machine.Region.{Region}

-- ---- what is kept

pub Keeps-none : (cert : Certificate) (procedure base : ℕ) (s : MState) → Keeps cert procedure base s s
Keeps-none cert procedure base s = record { byte = λ b k. refl }

pub Keeps-then : (cert : Certificate) (procedure base : ℕ) (s t u : MState) → Keeps cert procedure base s t → Keeps cert procedure base t u → Keeps cert procedure base s u
Keeps-then cert procedure base s t u first second = record { byte = λ b k. second.byte b k ∙ first.byte b k }

-- ---- an event in the procedure on top

-- the machine has stayed in the procedure
pub Stands-stays : (rom : List ℕ) (cert : Certificate) (frames : List Frame) (procedure : ℕ) (entry : Activation) (base : ℕ) (s t : MState) → Stands rom cert frames procedure entry base s
    → IsMeant rom cert procedure entry base t → Keeps cert procedure base s t → Stands rom cert frames procedure entry base t
Stands-stays rom cert frames procedure entry base s t stands meant keeps =
    record { meant = meant; waiting = stands.waiting; keeps = Keeps-then cert procedure base entry.entered s t stands.keeps keeps }

-- ---- where bytes stand at a call

-- the return word of a call, and the bytes above it
record IsPlacedCall (cert : Certificate) (procedure : ℕ) (entry : Activation) (base : ℕ) (t : MState) (c : Calls cert procedure entry base t) : Type 0 where
  sp : t.processor.sp + (length c.state.items + 2) ≡ base
  small : t.processor.sp + 2 < 65536
  return_word : t.processor.sp + 2 ≤ cert.region.last + 1
  room : AreInRegion cert.region base (length c.state.items + 2)
  callee_room : AreInRegion cert.region t.processor.sp (need_of cert c.node.procedure)

call_located : {cert : Certificate} {procedure : ℕ} {entry : Activation} {base : ℕ} {t : MState} (c : Calls cert procedure entry base t) → is_located c.state ≡ true
call_located c = is_located-of c.state.summary.aside c.state.core.stack_set (ap (λ (m : SummaryParts). m.aside) c.quiet) c.stack_set

placed_call : (cert : Certificate) (procedure : ℕ) (entry : Activation) (base : ℕ) (t : MState) → IsCertificate cert → AreInRegion cert.region base (need_of cert procedure)
    → (c : Calls cert procedure entry base t) → IsPlacedCall cert procedure entry base t c
placed_call cert procedure entry base t certificate room c =
    let end : cert.region.last < 0xFFFF = region_end cert.region certificate.region in
    let sp : t.processor.sp + (length c.state.items + 2) ≡ base = sp_pushed (known_word c.back) c.state entry base t c.means.parts (call_located c) in
    let first : cert.region.first + need_of cert procedure ≤ base = room.first in
    let last : base ≤ cert.region.last + 1 = room.last in
    let depth : length c.state.items + 2 + need_of cert c.node.procedure ≤ need_of cert procedure = c.depth in
    record {
      sp = sp;
      small = omega arith;
      return_word = omega arith;
      room = record { first = omega arith; last = last };
      callee_room = record { first = omega arith; last = omega arith };
    }

-- the state that waits is meant, without the return word
caller_means : (cert : Certificate) (procedure : ℕ) (entry : Activation) (base : ℕ) (t : MState) (c : Calls cert procedure entry base t) → IsPlacedCall cert procedure entry base t c
    → Means c.state entry base (without_word t)
caller_means cert procedure entry base t c p = Means-without_word (known_word c.back) c.state entry base t c.means c.quiet (call_located c) p.small

-- ---- a frame is put on

-- by the rules of versions 1 and 2 the callee begins with nothing
no_items : (program : Program) (region : Region) (k : ℕ) (kept : List ℕ) (s : AbsState) (n : Node) → covers program (entered_by program region Simple k kept s) n.state ≡ true → length n.state.items ≡ 0
unfolding entered_by
no_items program region k kept s n h = covered_items program (entered_by program region Simple k kept s) n.state h

-- the callee stands at its entry, and was entered just now
IsAt-called : (rom : List ℕ) (cert : Certificate) (procedure : ℕ) (entry : Activation) (base : ℕ) (t : MState) → IsCertificate cert → rules_of cert.version ≡ Simple → entry.program ≡ program_of rom cert
    → (c : Calls cert procedure entry base t) → IsPlacedCall cert procedure entry base t c → IsAt rom cert c.node (begun rom cert c.node.procedure t.processor.sp t) t.processor.sp t
IsAt-called rom cert procedure entry base t certificate simple program c p =
    let small : t.processor.sp < 65536 = (let h = p.small in omega arith) in
    let none = no_items entry.program cert.region (length c.node.state.items) (kept_of cert c.node.procedure) c.state c.node c.begins in
    let some = c.not_main in
    let first = p.callee_room.first in
    let last = p.callee_room.last in
    let met =
    Means-covered (entered_by (program_of rom cert) cert.region Simple (length c.node.state.items) (kept_of cert c.node.procedure) c.state) c.node.state (begun rom cert c.node.procedure t.processor.sp t) t.processor.sp t
    (subst (λ q. covers q (entered_by q cert.region Simple (length c.node.state.items) (kept_of cert c.node.procedure) c.state) c.node.state ≡ true) program c.begins)
    (Means-entered (program_of rom cert) cert.region (length c.node.state.items) (kept_of cert c.node.procedure) c.state entry base (begun rom cert c.node.procedure t.processor.sp t) program refl refl (caller_means cert procedure entry base t c p) small) in
    record {
      address = c.address;
      program = refl;
      names = record { kept = refl; mark = refl };
      means = met;
      mark = inl c.mark;
      main = λ e. absurd (omega arith);
      within = AreWithin-entered cert c.node (begun rom cert c.node.procedure t.processor.sp t) t.processor.sp t c.enters (IsNodeState-node cert c.node certificate c.is_node).core met;
      based = based_setting cert c.node.procedure t.processor.sp certificate simple (λ e. absurd (omega arith));
      return_word = HasReturnWord-simply (rules_of cert.version) cert.region c.node.procedure t.processor.sp simple (λ _. p.return_word);
      room = p.callee_room;
      held = record { first = omega arith; last = last };
      place = place_simply cert c.node certificate c.is_node simple;
    }

-- those that wait, by the rules of the certificate
pub waiting_by : (cert : Certificate) (rules : Rules) (frames : List Frame) (procedure : ℕ) (entry : Activation) (base : ℕ) → rules_of cert.version ≡ rules
    → AreWaiting (rules_of cert.version) cert frames procedure entry base → AreWaiting rules cert frames procedure entry base
waiting_by cert rules frames procedure entry base is w = subst (λ r. AreWaiting r cert frames procedure entry base) is w

pub waiting_in : (cert : Certificate) (rules : Rules) (frames : List Frame) (procedure : ℕ) (entry : Activation) (base : ℕ) → rules_of cert.version ≡ rules
    → AreWaiting rules cert frames procedure entry base → AreWaiting (rules_of cert.version) cert frames procedure entry base
waiting_in cert rules frames procedure entry base is w = subst (λ r. AreWaiting r cert frames procedure entry base) (sym is) w

-- the machine has called: the procedure waits, and the callee was entered just now
pub Stands-called : (rom : List ℕ) (cert : Certificate) (frames : List Frame) (procedure : ℕ) (entry : Activation) (base : ℕ) (s t : MState) → IsCertificate cert → rules_of cert.version ≡ Simple
    → Stands rom cert frames procedure entry base s → (c : Calls cert procedure entry base t) → Keeps cert procedure base s t
    → Stands rom cert (record { procedure = procedure; entry = entry; base = base } ∷ frames) c.node.procedure (begun rom cert c.node.procedure t.processor.sp t) t.processor.sp t
Stands-called rom cert frames procedure entry base s t certificate simple stands c keeps =
    let at = stands.meant.at in
    let same = stands.meant.procedure_is in
    let room = subst (λ n. AreInRegion cert.region base (need_of cert n)) same at.room in
    let p = placed_call cert procedure entry base t certificate room c in
    record {
      meant = record { node = c.node; is_node = c.is_node; procedure_is = refl; at = IsAt-called rom cert procedure entry base t certificate simple at.program c p };
      waiting = waiting_in cert Simple (record { procedure = procedure; entry = entry; base = base } ∷ frames) c.node.procedure (begun rom cert c.node.procedure t.processor.sp t) t.processor.sp simple (
        record {
          calls = c;
          program = at.program;
          names = subst (λ n. Declares cert n base entry) same at.names;
          callee = refl;
          base_is = refl;
          main = λ e. at.main (same ∙ e);
          within = subst (λ n. AreWithin (entered_of cert n) (entered_with entry)) same at.within;
          return_word = λ some. return_word_of (rules_of cert.version) cert.region stands.meant.node.procedure base simple at.return_word (subst (λ n. 0 < n) (sym same) some);
          room = room;
          keeps = Keeps-then cert procedure base entry.entered s t stands.keeps keeps;
        },
        waiting_by cert Simple frames procedure entry base simple stands.waiting,
      );
      keeps = Keeps-none cert c.node.procedure t.processor.sp t;
    }

-- ---- a frame is taken off

-- by the rules of versions 1 and 2 each procedure keeps some of RAM
all_keep : (cert : Certificate) (procedure : ℕ) → rules_of cert.version ≡ Simple → keeps (setting_of cert procedure) ≡ true
unfolding setting_of
all_keep cert procedure simple = ap (λ (r : Rules). keeps_by r (procedure == 0)) simple

-- what a procedure keeps, the one that it called keeps too
Keeps-callee : (cert : Certificate) (f : Frame) (procedure : ℕ) (above : Activation) (base : ℕ) (s t : MState) → IsCertificate cert → rules_of cert.version ≡ Simple → IsWaiting cert f procedure above base
    → Keeps cert procedure base s t → Keeps cert f.procedure f.base s t
Keeps-callee cert f procedure above base s t certificate simple w keeps =
    let c = w.calls in
    let p = placed_call cert f.procedure f.entry f.base above.entered certificate w.room c in
    let below : above.entered.processor.sp ≤ f.base = (let sp = p.sp in omega arith) in
    let lower : base ≤ f.base = subst (λ n. n ≤ f.base) (sym w.base_is) below in
    let inside = subst (λ n. are_ranges_inside (ranges_of cert n) (ranges_of cert f.procedure) ≡ true) w.callee c.inside in
    record { byte = λ b k. keeps.byte b (IsKept-inside (setting_of cert f.procedure) (setting_of cert procedure) cert.region (ranges_of cert procedure) (ranges_of cert f.procedure) f.base base b (all_keep cert procedure simple) inside lower k) }

-- a byte of the return word is kept
word_kept : (cert : Certificate) (procedure base b : ℕ) → IsCertificate cert → rules_of cert.version ≡ Simple → cert.region.first ≤ base → base + 2 ≤ cert.region.last + 1 → base ≤ b → b ≤ base + 1
    → IsKept (setting_of cert procedure) cert.region (ranges_of cert procedure) base b
word_kept cert procedure base b certificate simple first last low high = record {
  procedure = all_keep cert procedure simple;
  ram = region_in_ram cert.region b certificate.region (omega arith) (omega arith);
  outside = apart_outside cert.region (ranges_of cert procedure) b (ranges_apart cert procedure certificate) (omega arith) (omega arith);
  above = λ _. low;
}

-- the return word is as it was when the procedure was entered: the address where the one below goes on
back_is : (cert : Certificate) (f : Frame) (procedure : ℕ) (entry : Activation) (base : ℕ) (s : MState) → IsCertificate cert → rules_of cert.version ≡ Simple → (w : IsWaiting cert f procedure entry base)
    → Keeps cert procedure base entry.entered s → word (peek s.storage (base + 1)) (peek s.storage base) ≡ w.calls.back
back_is cert f procedure entry base s certificate simple w keeps =
    let c = w.calls in
    let p = placed_call cert f.procedure f.entry f.base entry.entered certificate w.room c in
    let e = w.base_is in
    let first : cert.region.first ≤ base = (let room = p.callee_room.first in omega arith) in
    let last : base + 2 ≤ cert.region.last + 1 = (let h = p.return_word in omega arith) in
    let low = keeps.byte base (word_kept cert procedure base base certificate simple first last (omega arith) (omega arith)) in
    let high = keeps.byte (base + 1) (word_kept cert procedure base (base + 1) certificate simple first last (omega arith) (omega arith)) in
    let found = pushed_word c.back c.state f.entry f.base entry.entered c.means.parts (call_located c) in
    ap (λ n. word n (peek s.storage base)) high ∙ (ap (λ n. word (peek entry.entered.storage (base + 1)) n) low ∙ (ap (λ n. word (peek entry.entered.storage (n + 1)) (peek entry.entered.storage n)) e ∙ found))

-- the callee has come back
comes_back : (rom : List ℕ) (cert : Certificate) (f : Frame) (procedure : ℕ) (entry : Activation) (base : ℕ) (s t : MState) → IsCertificate cert → rules_of cert.version ≡ Simple → entry.program ≡ program_of rom cert
    → (w : IsWaiting cert f procedure entry base)
    → Keeps cert procedure base entry.entered s → (r : Returns cert procedure entry base s t) → Keeps cert procedure base s t
    → ComesBack cert.region (ranges_of cert procedure) w.calls.state r.exit f.entry f.base entry t
comes_back rom cert f procedure entry base s t certificate simple program w before r keeps =
    let c = w.calls in
    let unknown : entry.program.kind ≡ kind.Rom = ap (λ p. p.kind) program ∙ no_controller rom cert simple in
    let p = placed_call cert f.procedure f.entry f.base entry.entered certificate w.room c in
    let exit = exit_state cert procedure r.exit certificate r.is_exit in
    let all = Keeps-then cert procedure base entry.entered s t before keeps in
    record {
      is_region = certificate.region;
      apart = ranges_apart cert procedure certificate;
      placed = c.placed;
      room = p.room;
      located = call_located c;
      caller = caller_means cert f.procedure f.entry f.base entry.entered c p;
      exit_located = exit_located (rules_of cert.version) cert.region r.exit exit;
      exit_items = exit_items cert.region r.exit (subst (λ q. HasStateParts q role.Exit cert.region r.exit) simple exit);
      exit_core = exit.core;
      exits = subst (λ n. Means r.exit entry (n + 2) t) w.base_is r.means;
      caller_unknown = ap (λ p. p.kind) w.program ∙ unknown;
      callee_unknown = unknown;
      callee = setting_of cert procedure;
      keeps = all_keep cert procedure simple;
      kept = λ b k. all.byte b (subst (λ n. IsKept (setting_of cert procedure) cert.region (ranges_of cert procedure) n b) (sym w.base_is) k);
    }

-- the state that the caller goes on with is covered at the address behind the call
is_resumed : (cert : Certificate) (f : Frame) (procedure : ℕ) (entry : Activation) (base : ℕ) (exit : AbsState) → (w : IsWaiting cert f procedure entry base) → exit_of cert procedure ≡ Some exit
    → covered_at f.entry.program Simple cert f.procedure w.calls.back (resumed_alone (ranges_of cert procedure) w.calls.state exit) ≡ true
unfolding resumed_by
is_resumed cert f procedure entry base exit w is =
    subst (λ n. covered_at f.entry.program Simple cert f.procedure w.calls.back (resumed_alone (ranges_of cert n) w.calls.state exit) ≡ true) w.callee
    (w.calls.resumes exit (ap (exit_of cert) w.callee ∙ is))

-- the caller's state behind the call is meant by a node
goes_on : (rom : List ℕ) (cert : Certificate) (f : Frame) (procedure : ℕ) (entry : Activation) (base : ℕ) (s t : MState) → IsCertificate cert → rules_of cert.version ≡ Simple → entry.program ≡ program_of rom cert → (w : IsWaiting cert f procedure entry base)
    → Keeps cert procedure base entry.entered s → (r : Returns cert procedure entry base s t) → Keeps cert procedure base s t
    → IsFoundAt cert f.procedure w.calls.back (length w.calls.state.items) (resumed_alone (ranges_of cert procedure) w.calls.state r.exit).relations.byte.address f.entry f.base t
unfolding resumed_alone
goes_on rom cert f procedure entry base s t certificate simple program w before r keeps =
    let ranges = ranges_of cert procedure in
    let after = resumed_alone ranges w.calls.state r.exit in
    let back = comes_back rom cert f procedure entry base s t certificate simple program w before r keeps in
    let means = Means-resumed_alone cert.region ranges w.calls.state r.exit f.entry f.base entry t back in
    found_at cert f.procedure w.calls.back after f.entry f.base t (is_resumed cert f procedure entry base r.exit w r.is_exit) means

IsMeant-returned : (rom : List ℕ) (cert : Certificate) (f : Frame) (procedure : ℕ) (entry : Activation) (base : ℕ) (s t : MState) → IsCertificate cert → rules_of cert.version ≡ Simple
    → entry.program ≡ program_of rom cert → IsWaiting cert f procedure entry base → Keeps cert procedure base entry.entered s → Returns cert procedure entry base s t → Keeps cert procedure base s t
    → IsMeant rom cert f.procedure f.entry f.base t
IsMeant-returned rom cert f procedure entry base s t certificate simple program w before r keeps =
    let g = goes_on rom cert f procedure entry base s t certificate simple program w before r keeps in
    let same = g.procedure_is in
    let room = w.room in
    let first = room.first in
    record {
      node = g.node;
      is_node = g.is_node;
      procedure_is = same;
      at = record {
        address = r.address ∙ (back_is cert f procedure entry base s certificate simple w before ∙ sym g.address);
        program = w.program ∙ program;
        names = subst (λ n. Declares cert n f.base f.entry) (sym same) w.names;
        means = g.means;
        mark = inl r.mark;
        main = λ e. w.main (sym same ∙ e);
        within = subst (λ n. AreWithin (entered_of cert n) (entered_with f.entry)) (sym same) w.within;
        based = based_setting cert g.node.procedure f.base certificate simple (λ e. w.main (sym same ∙ e));
        return_word = HasReturnWord-simply (rules_of cert.version) cert.region g.node.procedure f.base simple (λ some. w.return_word (subst (λ n. 0 < n) same some));
        room = subst (λ n. AreInRegion cert.region f.base (need_of cert n)) (sym same) w.room;
        held = record { first = let count = g.count in let depth = w.calls.depth in omega arith; last = room.last };
        place = place_simply cert g.node certificate g.is_node simple;
      };
    }

-- the callee has returned: the procedure that called it goes on, as if it had never waited
pub Stands-returned : (rom : List ℕ) (cert : Certificate) (f : Frame) (rest : List Frame) (procedure : ℕ) (entry : Activation) (base : ℕ) (s t : MState) → IsCertificate cert → rules_of cert.version ≡ Simple
    → Stands rom cert (f ∷ rest) procedure entry base s → Returns cert procedure entry base s t → Keeps cert procedure base s t
    → Stands rom cert rest f.procedure f.entry f.base t
Stands-returned rom cert f rest procedure entry base s t certificate simple stands r keeps =
    let waiting = waiting_by cert Simple (f ∷ rest) procedure entry base simple stands.waiting in
    let w = waiting.0 in
    let all = Keeps-then cert procedure base entry.entered s t stands.keeps keeps in
    record {
      meant = IsMeant-returned rom cert f procedure entry base s t certificate simple stands.meant.at.program w stands.keeps r keeps;
      waiting = waiting_in cert Simple rest f.procedure f.entry f.base simple waiting.1;
      keeps = Keeps-then cert f.procedure f.base f.entry.entered entry.entered t w.keeps (Keeps-callee cert f procedure entry base entry.entered t certificate simple w all);
    }
