-- Where the machine stands at a node that passes: its successors are sound, one of them is there, and what it leads to is meant.
use Rattle.gb_successors.specs.Below.gb_pairs.Sound.{AreWithin}
use Rattle.gb_successors.specs.Below.gb_product.Meaning.{entered_with}
use Rattle.gb_rules.specs.Procedures.{entered_of}
use Rattle.std.proofs.Common.{◌≡◌, ℕ, ◌+◌, false, List, [], length, refl, arith, ap, ◌∙◌, subst, sym, Bool, true, cond, ◌||◌, ◌==◌}
use Rattle.std.specs.List.{Contains}
use Rattle.gb_ops.specs.Play.{MState}
use Rattle.gb_successors.specs.Below.gb_abs.Meaning.{Activation}
use Rattle.gb_successors.specs.Below.gb_domain.Types.{Node}
use Rattle.gb_successors.specs.Below.gb_domain.Certificate.{Certificate}
use Rattle.gb_successors.specs.Below.gb_domain.declared.rules.Rules.TheVariants.{Simple, Extended}
use Rattle.gb_successors.specs.Below.gb_domain.Limits.{rules_of}
use Rattle.gb_successors.specs.Below.gb_domain.Settings.{IsBase}
use Rattle.gb_successors.proofs.Below.gb_product_laws.SummaryLaws.{HoldSummary-same}
use Rattle.gb_successors.specs.Below.gb_domain.Summaries.{no_summary, SummaryParts}
use Rattle.gb_successors.proofs.QuietLaws.{quiet_successor}
use Rattle.gb_successors.specs.Below.gb_domain.declared.rules.Rules.{Rules}
use Rattle.gb_rules.proofs.ProgramLaws.{no_controller, is_program}
use Rattle.gb_successors.specs.Below.gb_abs.Storage.{peek}
use Rattle.gb_successors.specs.Below.gb_product.Meaning.{Means}
use Rattle.gb_successors.specs.Below.gb_abs.Stack.{AreInRegion}
use Rattle.gb_successors.specs.Below.gb_abs_memory.Sound.{IsRom}
use Rattle.gb_successors.proofs.CodeLaws.{IsKnown, IsAt as IsAtCode}
use Rattle.gb_successors.specs.Way.{Successor}
use Rattle.gb_successors.specs.declared.stacks.Stack.{Stack}
use Rattle.gb_successors.specs.Sound.{IsOneOf, Stands, IsRuled, AreSoundSuccessors, IsProgram}
use Rattle.gb_successors.proofs.FormedLaws.{IsFormed, IsFormed-successor}
use Rattle.gb_successors.proofs.WayLaws.{successors_of_sound}
use Rattle.gb_calls.specs.Below.gb_states.WholeRules.{IsCertificate}
use Rattle.gb_ops.specs.Cartridge.{kind_of}
use Rattle.gb_successors.specs.Below.gb_abs_memory.Windows.{known_kind}
use Rattle.gb_rules.specs.Procedures.{ranges_of, mark_of, need_of, setting_of, stack_of, program_of}
use Rattle.gb_successors.specs.Below.gb_product.Held.{stack_held}
use Rattle.gb_successors.specs.Below.gb_relations.Sound.{IsBytePlaced}
use Rattle.gb_rules.specs.Rules.{ways_of}
use Rattle.gb_rules.specs.Safety.{HasReturnWord, Declares}
use Rattle.gb_rules.proofs.NodeLaws.{IsNodeState, Passes, IsHoused, ruled, known_by}

-- the machine stands at a node that passes
pub record OnNode (rom : List ℕ) (cert : Certificate) (n : Node) (entry : Activation) (base : ℕ) (x : MState) : Type 0 where
  pub cartridge : IsRom rom
  pub certificate : IsCertificate cert
  pub is_node : Contains cert.nodes n
  pub state : IsNodeState cert n
  pub passes : Passes rom cert n
  pub address : x.processor.pc ≡ n.address
  pub program : entry.program ≡ program_of rom cert
  pub names : Declares cert n.procedure base entry
  pub means : Means n.state entry base x
  pub main : n.procedure ≡ 0 → base ≡ cert.region.last + 1
  pub return_word : HasReturnWord (rules_of cert.version) cert.region n.procedure base
  pub room : AreInRegion cert.region base (need_of cert n.procedure)
  pub based : IsBase (setting_of cert n.procedure) base
  pub within : AreWithin (entered_of cert n.procedure) (entered_with entry)
  pub held : AreInRegion cert.region base (length n.state.items)
  pub place : IsBytePlaced (stack_held (setting_of cert n.procedure) cert.region (length n.state.items)) n.state.relations.byte.address

-- the controller of which states may speak
controller_known : (rom : List ℕ) (cert : Certificate) (procedure : ℕ) → (program_of rom cert).kind ≡ known_kind (setting_of cert procedure).is_whole (kind_of rom)
unfolding setting_of program_of
controller_known rom cert procedure = refl

pub stands : (rom : List ℕ) (cert : Certificate) (n : Node) (entry : Activation) (base : ℕ) (x : MState) (k : OnNode rom cert n entry base x) → Stands (setting_of cert n.procedure) rom cert.region k.passes.row n.address n.state entry base x
unfolding setting_of
stands rom cert n entry base x k = record {
  cartridge = k.cartridge;
  is_region = k.state.is_region;
  core = k.state.core;
  placed = k.state.placed;
  place = k.place;
  pairs = k.state.pairs;
  vals = k.state.vals;
  items = k.state.items;
  unset = k.state.unset;
  quiet = λ simple. ap (λ (m : SummaryParts). m.aside) (k.state.quiet simple);
  aside = k.state.aside;
  room = k.held;
  program = subst (λ p. IsProgram rom cert.region p) (sym k.program) (is_program rom cert k.certificate);
  controlled = ap (λ p. p.kind) k.program ∙ controller_known rom cert n.procedure;
  apart = k.state.apart;
  means = k.means;
  based = k.based;
  within = k.within;
  at = k.address;
}

pub housed : (rom : List ℕ) (cert : Certificate) (n : Node) (entry : Activation) (base : ℕ) (x : MState) → OnNode rom cert n entry base x → IsHoused cert n.procedure base
housed rom cert n entry base x k = record { main = k.main; based = k.based; room = k.room }

-- where its procedure's states stand, and how much it may have on the stack
abbrev pub whole_stack : Certificate → ℕ → Stack
whole_stack cert procedure = record { setting = setting_of cert procedure; region = cert.region; need = need_of cert procedure; main_need = need_of cert 0; mark = mark_of cert procedure }

pub sound_ways : (rom : List ℕ) (cert : Certificate) (n : Node) (entry : Activation) (base : ℕ) (x : MState) (k : OnNode rom cert n entry base x)
    → AreSoundSuccessors (whole_stack cert n.procedure) (program_of rom cert) rom k.passes.row n.address n.state (ways_of rom cert n k.passes.row)
unfolding ways_of stack_of
sound_ways rom cert n entry base x k = successors_of_sound (whole_stack cert n.procedure) (program_of rom cert) rom k.passes.row n.address n.state (ways_of rom cert n k.passes.row) refl

-- its instruction is one that may stand there
pub is_ruled : (rom : List ℕ) (cert : Certificate) (n : Node) (entry : Activation) (base : ℕ) (x : MState) (k : OnNode rom cert n entry base x)
    → IsRuled (whole_stack cert n.procedure) (program_of rom cert) rom k.passes.row n.address n.state base
unfolding stack_of
is_ruled rom cert n entry base x k = ruled rom cert n base k.passes k.cartridge k.certificate k.state (housed rom cert n entry base x k)

-- the states of its successors are such as states may be
pub formed : (rom : List ℕ) (cert : Certificate) (n : Node) (entry : Activation) (base : ℕ) (x : MState) (k : OnNode rom cert n entry base x) (t : Successor) → IsOneOf (ways_of rom cert n k.passes.row) t
    → IsFormed (setting_of cert n.procedure) cert.region t
unfolding ways_of stack_of
formed rom cert n entry base x k t is =
    IsFormed-successor (whole_stack cert n.procedure) (program_of rom cert) rom k.passes.row n.address n.state t entry base x (stands rom cert n entry base x k) (is_ruled rom cert n entry base x k).operands is

-- these aren't version 4's
older_simply : (cert : Certificate) → rules_of cert.version ≡ Simple → (cert.version == 4) ≡ false
unfolding rules_of
older_simply cert h = by (cert.version == 3) (cert.version == 4) h
  where
    by : (b c : Bool) → cond {A = Rules} (b || c) Extended Simple ≡ Simple → c ≡ false
    by true c e = cc
    by false true e = cc
    by false false e = refl

-- by the rules of versions 1 and 2 they say nothing of the whole program
pub quiet :
    (rom : List ℕ) (cert : Certificate) (n : Node) (entry : Activation) (base : ℕ) (x : MState) (k : OnNode rom cert n entry base x) (t : Successor)
    → rules_of cert.version ≡ Simple → IsOneOf (ways_of rom cert n k.passes.row) t → t.state.summary ≡ no_summary
unfolding ways_of stack_of setting_of
quiet rom cert n entry base x k t simple is =
    quiet_successor (whole_stack cert n.procedure) (program_of rom cert) rom k.passes.row n.address n.state t (older_simply cert simple) (no_controller rom cert simple) (k.state.quiet simple) is

-- the same machine without the HALT mark
abbrev pub unmarked : MState → MState
unmarked x = record x { processor = record x.processor { halt_mark = false } }

on_unmarked : (rom : List ℕ) (cert : Certificate) (n : Node) (entry : Activation) (base : ℕ) (x : MState) → OnNode rom cert n entry base x → OnNode rom cert n entry base (unmarked x)
on_unmarked rom cert n entry base x k = record {
  cartridge = k.cartridge;
  certificate = k.certificate;
  is_node = k.is_node;
  state = k.state;
  passes = k.passes;
  address = k.address;
  program = k.program;
  names = k.names;
  means = record {
    related = k.means.related;
    summary = HoldSummary-same entry.program n.state.cells n.state.summary x.processor (unmarked x).processor (peek x.storage) (peek x.storage) x.storage.banks x.storage.banks refl refl refl refl (λ b. refl) k.means.summary;
    parts = record {
      core = record {
        registers = k.means.parts.core.registers;
        flags = k.means.parts.core.flags;
        ie = k.means.parts.core.ie;
        ime = k.means.parts.core.ime;
        controller = k.means.parts.core.controller;
        count = k.means.parts.core.count;
        locked = k.means.parts.core.locked;
        stopped = k.means.parts.core.stopped;
      };
      memory = k.means.parts.memory;
      sp = k.means.parts.sp;
      stack = k.means.parts.stack;
      items = k.means.parts.items;
      cells = k.means.parts.cells;
    };
  };
  main = k.main;
  return_word = k.return_word;
  room = k.room;
  based = k.based;
  within = k.within;
  held = k.held;
  place = k.place;
}

-- there is a successor
pub some_way : (rom : List ℕ) (cert : Certificate) (n : Node) (entry : Activation) (base : ℕ) (x : MState) (k : OnNode rom cert n entry base x) → (t : Successor) × IsOneOf (ways_of rom cert n k.passes.row) t
unfolding on_unmarked
some_way rom cert n entry base x k =
    let u = on_unmarked rom cert n entry base x k in
    let done = (sound_ways rom cert n entry base (unmarked x) u).executes (ranges_of cert n.procedure) entry base (unmarked x) [] u.program u.names.mark (stands rom cert n entry base (unmarked x) u)
    (is_ruled rom cert n entry base x k) refl (omega arith) (omega arith) in
    (done.successor, done.is_one)

pub is_known : (rom : List ℕ) (cert : Certificate) (n : Node) (entry : Activation) (base : ℕ) (x : MState) (k : OnNode rom cert n entry base x) → IsKnown (program_of rom cert) rom n k.passes.bytes
is_known rom cert n entry base x k = let w = some_way rom cert n entry base x k in known_by rom cert n k.passes w.0 w.1

pub on_code : (rom : List ℕ) (cert : Certificate) (n : Node) (entry : Activation) (base : ℕ) (x : MState) → OnNode rom cert n entry base x → IsAtCode (program_of rom cert) rom n entry base x
on_code rom cert n entry base x k = record { cartridge = k.cartridge; program_is = k.program; means = k.means; ie = k.state.core.ie; at = k.address }
