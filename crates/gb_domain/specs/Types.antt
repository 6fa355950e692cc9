-- What contracts see of states, procedures and nodes: plain lists.
use Rattle.std.specs.Prelude.{ℕ, Bool, ◌&&◌, ◌||◌, List, [], Option, None}
use Rattle.gb_ops.specs.declared.op.Register.{Register}
use Rattle.gb_ops.specs.declared.op.Register.TheVariants as register
use Rattle.gb_domain.specs.declared.types.Origin.{Origin}
use Rattle.gb_domain.specs.declared.types.Origin.TheVariants.{A, B, C, D, E, H, L}
use Rattle.gb_domain.specs.declared.types.Val.{Val}
use Rattle.gb_domain.specs.declared.types.KeptBanks.{KeptBanks}
use Rattle.gb_domain.specs.declared.types.Core.{Core}
use Rattle.gb_domain.specs.declared.types.Cell.{Cell}
use Rattle.gb_domain.specs.declared.types.Range.{Range}
use Rattle.gb_domain.specs.declared.relations.Relations.{Relations}
use Rattle.gb_domain.specs.Relations.{no_relations}
use Rattle.gb_domain.specs.Summaries.{SummaryParts, no_summary}

-- an abstract state; its items are the bytes that were pushed, the oldest first
pub record AbsState : Type 0 where
  pub core : Core
  pub items : List Val
  pub cells : List Cell
  pub relations : Relations
  pub summary : SummaryParts

-- the state without items and cells, of whose parts nothing is known together, and which says nothing of the whole program
abbrev pub state_of : Core → AbsState
state_of core = record { core = core; items = []; cells = []; relations = no_relations; summary = no_summary }

-- a procedure; its base is the address above its items, 0 where it isn't known, and its need is in bytes; kept are the addresses that
-- it names to be kept, and its mark says how many bytes below its base it puts its stack aside (versions 1 to 3 have neither)
pub record ProcedureParts : Type 0 where
  pub entry : ℕ
  pub base : ℕ
  pub need : ℕ
  pub ranges : List Range
  pub kept : List ℕ
  pub mark : ℕ
  pub exit : Option AbsState

-- what a certificate claims for one address of a procedure: the bank shown there, and a state
pub record Node : Type 0 where
  pub procedure : ℕ
  pub address : ℕ
  pub bank : ℕ
  pub state : AbsState

-- what a register held as the procedure was entered
abbrev pub origin_of_register : Register → Origin
origin_of_register register.A = A
origin_of_register register.B = B
origin_of_register register.C = C
origin_of_register register.D = D
origin_of_register register.E = E
origin_of_register register.H = H
origin_of_register register.L = L

-- each register of the controller is kept, or none is
abbrev pub all_or_none : Bool → KeptBanks
all_or_none k = record { bank = k; second = k; gate = k; mode = k; high_bank = k }

abbrev pub are_all_kept : KeptBanks → Bool
are_all_kept k = k.bank && k.second && k.gate && k.mode && k.high_bank

abbrev pub is_some_kept : KeptBanks → Bool
is_some_kept k = k.bank || k.second || k.gate || k.mode || k.high_bank

-- any byte
abbrev pub any_val : Val
any_val = record { lo = 0; hi = 255; low_bits = 0; origin = None }

-- A list's unused places hold defaults. Those are zeros, which are written at once.
abbrev pub zero_val : Val
zero_val = record { lo = 0; hi = 0; low_bits = 0; origin = None }

abbrev pub zero_cell : Cell
zero_cell = record { address = 0; val = zero_val }

-- the first address alone
abbrev pub least_range : Range
least_range = record { first = 0; last = 0 }
