-- The reasons against an instruction's successors, one by one: what `Rules` asks of all of them together.
use Rattle.std.specs.Prelude.{ℕ, ◌+◌, ◌%◌, Bool, false, ◌&&◌, ◌||◌, if◌then◌else◌, nat_le, List, find, Option, Some, None}
use Rattle.gb_ops.specs.declared.op.Row.{Row}
use Rattle.gb_ops.specs.Cartridge.{kind_of}
use Rattle.gb_successors.specs.Below.gb_domain.Limits.{rules_of}
use Rattle.gb_successors.specs.Below.gb_domain.Types.{Node}
use Rattle.gb_successors.specs.Below.gb_domain.Certificate.{Certificate}
use Rattle.gb_successors.specs.Below.gb_abs.declared.reason.Reason.{Reason}
use Rattle.gb_successors.specs.Below.gb_abs.declared.reason.Reason.TheVariants as reason
use Rattle.gb_successors.specs.Below.gb_abs.Reason.{reason_number}
use Rattle.gb_successors.specs.Way.{Successor}
use Rattle.gb_successors.specs.Refused.{is_unstorable, meets_closed, meets_oam_transfer, is_unknown}
use Rattle.gb_rules.specs.Procedures.{ranges_of, need_of, program_of}
use Rattle.gb_rules.specs.Rules.{is_code_limited, node_setting, calls_too_deep, handles_too_deep, is_dispatch_limited, is_possible, is_uncovered, is_uncallable, is_unreturnable, moves_alone_too_deep, taken_too_deep, way_reasons}

-- the lower one of two reasons, where there are some
abbrev pub lower : Option Reason → Option Reason → Option Reason
lower None b = b
lower (Some a) None = Some a
lower (Some a) (Some b) = if nat_le (reason_number a) (reason_number b) then Some a else Some b

-- the lowest reason against successors that passes a test
unfoldable pub lowest : (Reason → Bool) → Option Reason
lowest test = find test way_reasons

-- the address behind an instruction
abbrev pub behind : ℕ → Row → ℕ
behind a row = (a + row.length) % 65536

-- whether a reason applies to one successor of a node's instruction
unfoldable pub applies_to_way : List ℕ → Certificate → Node → Row → Successor → Reason → Bool
applies_to_way rom cert n row t reason.Depth = calls_too_deep (program_of rom cert) cert (node_setting cert n) (need_of cert n.procedure) t
applies_to_way rom cert n row t reason.Store = is_unstorable (node_setting cert n) (kind_of rom) cert.region (ranges_of cert n.procedure) t.write
applies_to_way rom cert n row t reason.CartridgeRam = meets_closed rom n.state.core t
applies_to_way rom cert n row t reason.OamTransfer = is_code_limited n.state.core n.address row.length || meets_oam_transfer cert.region n.state.core t
applies_to_way rom cert n row t reason.JumpHl = is_unknown t.target
applies_to_way rom cert n row t reason.Uncovered = is_uncovered (program_of rom cert) (node_setting cert n) cert n.procedure t
applies_to_way rom cert n row t reason.Callee = is_uncallable (program_of rom cert) (node_setting cert n) cert n.procedure t
applies_to_way rom cert n row t reason.Return = is_unreturnable (program_of rom cert) (rules_of cert.version) cert n.procedure t
applies_to_way rom cert n row t _ = false

-- the same where the instruction is taken, how far it moves the stack with it
unfoldable pub applies_to_taken : List ℕ → Certificate → Node → Row → Successor → Reason → Bool
applies_to_taken rom cert n row t reason.Depth =
    taken_too_deep (rules_of cert.version) (need_of cert n.procedure) n row.op || applies_to_way rom cert n row t reason.Depth
applies_to_taken rom cert n row t r = applies_to_way rom cert n row t r

-- the lowest that applies to a successor, where there is one
abbrev pub lowest_in : (Successor → Reason → Bool) → Option Successor → Option Reason
lowest_in test None = None
lowest_in test (Some t) = lowest (test t)

-- whether a reason applies that isn't one successor's: how far the instruction moves the stack wherever it leads, and dispatches
unfoldable pub applies_alone : List ℕ → Certificate → Node → Row → Reason → Bool
applies_alone rom cert n row reason.Depth =
    moves_alone_too_deep (rules_of cert.version) (need_of cert n.procedure) n row.op
    || (handles_too_deep (program_of rom cert) cert n && is_possible rom cert n)
applies_alone rom cert n row reason.OamTransfer = is_dispatch_limited cert.region n && is_possible rom cert n
applies_alone rom cert n row _ = false
