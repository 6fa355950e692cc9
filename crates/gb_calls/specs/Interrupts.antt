-- What an interrupt's handler begins from, and which one is entered (Interrupts: interrupt handling; own rules).
use Rattle.std.specs.Prelude.{ℕ, ◌+◌, ◌/◌, ◌%◌, Bool, true, false, ◌&&◌, nat_lt, if◌then◌else◌, length, Option}
use Rattle.gb_ops.specs.Machine.{vector}
use Rattle.gb_domain.specs.declared.types.ImeSet.{ImeSet}
use Rattle.gb_domain.specs.declared.types.Core.{Core}
use Rattle.gb_domain.specs.declared.types.Halves.{Halves}
use Rattle.gb_domain.specs.declared.rules.Rules.{Rules}
use Rattle.gb_domain.specs.declared.rules.Rules.TheVariants.{Simple, Extended}
use Rattle.gb_domain.specs.declared.setting.Setting.{Setting}
use Rattle.gb_domain.specs.Limits.{item_room}
use Rattle.gb_domain.specs.Summaries.{Program}
use Rattle.gb_domain.specs.Types.{AbsState}
use Rattle.gb_domain.specs.Certificate.{Certificate}
use Rattle.gb_product.specs.Below.gb_vals.Bits.{may_have_bit}
use Rattle.gb_product.specs.Below.gb_vals.Vals.{single}
use Rattle.gb_product.specs.Below.gb_abs.Operations.{core_end}
use Rattle.gb_product.specs.Below.gb_abs.Stack.{pushed}
use Rattle.gb_calls.specs.Calls.{callee_of}

-- interrupts are off
abbrev pub only_off : ImeSet
only_off = record { off = true; pending = false; on = false }

abbrev pub dispatched_core : Core → Core
dispatched_core s = core_end false 5 (record s { ime = only_off })

-- an interrupt was dispatched: interrupts are off, and five M-cycles have passed
unfoldable pub dispatched : AbsState → AbsState
dispatched s = record s { core = dispatched_core s.core }

-- the word that stands for an address
abbrev pub address_word : ℕ → Halves
address_word a = record { high = single (a / 256); low = single (a % 256) }

-- the address a is pushed: by the rules of versions 1 and 2 it is no item of the procedure's; by those of version 3 it is, where
-- there is room for it. Where there is none, the rules refuse the dispatch, whatever is said here.
abbrev pub with_address : Rules → ℕ → AbsState → AbsState
with_address Simple a s = s
with_address Extended a s = if nat_lt (item_room Extended) (length s.items + 2) then s else pushed (address_word a) s

-- what an interrupt's dispatch at the address a leaves
unfoldable pub left_by_dispatch : Rules → ℕ → AbsState → AbsState
left_by_dispatch rules a s = with_address rules a (dispatched s)

-- the interrupt may come: interrupts may be on, and IE may have its bit
abbrev pub may_come : ℕ → Core → Bool
may_come i s = s.ime.on && may_have_bit s.ie i

-- its handler, from the address a: the callee at its vector
unfoldable pub handler_of : Program → Certificate → Setting → ℕ → ℕ → AbsState → Option ℕ
handler_of program cert z i a s = callee_of program cert z (vector i) (left_by_dispatch z.rules a s)
