-- Which machine states an abstract state means (abstract interpretation: concretization).
use Rattle.std.specs.Prelude.{◌≡◌, ℕ, ◌+◌, ◌-◌, ◌/◌, ◌%◌, ◌≤◌, ◌<◌, Bool, true, false, List, [], ◌∷◌, length, slice_index, Option, Some, None}
use Rattle.std.specs.List.{AllByRecursion}
use Rattle.gb_ops.specs.declared.op.Register.{Register}
use Rattle.gb_ops.specs.declared.registers.Flags.{Flags}
use Rattle.gb_ops.specs.declared.registers.Ime.{Ime}
use Rattle.gb_ops.specs.declared.registers.Ime.TheVariants.{Off, Pending, On}
use Rattle.gb_ops.specs.declared.machine.Banks.{Banks}
use Rattle.gb_ops.specs.declared.machine.Kind.{Kind}
use Rattle.gb_ops.specs.declared.machine.Kind.TheVariants as kind
use Rattle.gb_ops.specs.Registers.{get}
use Rattle.gb_ops.specs.Flags.{flags_byte}
use Rattle.gb_ops.specs.Memory.{Storage}
use Rattle.gb_ops.specs.Play.{MState}
use Rattle.gb_domain.specs.declared.pairs.Bounds.{Bounds}
use Rattle.gb_domain.specs.declared.types.Origin.{Origin}
use Rattle.gb_domain.specs.declared.types.Origin.TheVariants as origin
use Rattle.gb_domain.specs.declared.types.Val.{Val}
use Rattle.gb_domain.specs.declared.types.Flg.{Flg}
use Rattle.gb_domain.specs.declared.types.ImeSet.{ImeSet}
use Rattle.gb_domain.specs.declared.types.Ctl.{Ctl}
use Rattle.gb_domain.specs.declared.types.KeptBanks.{KeptBanks}
use Rattle.gb_domain.specs.declared.types.Core.{Core}
use Rattle.gb_domain.specs.Types.{AbsState}
use Rattle.gb_domain.specs.Summaries.{Program}
use Rattle.gb_domain.specs.Values.{has_low_bits}
use Rattle.gb_vals.specs.Meaning.{may_be}
use Rattle.gb_abs.specs.Storage.{peek}

-- A procedure as it runs: the machine as it was entered, the addresses that it names to be kept, the address at which it puts
-- its stack aside, and the program that it is part of.
pub record Activation : Type 0 where
  pub entered : MState
  pub kept : List ℕ
  pub mark : ℕ
  pub program : Program

-- what an origin held in the state in which a procedure was entered; the return word is on top of the stack there
abbrev pub origin_value : Origin → Activation → ℕ
origin_value origin.A a = a.entered.processor.registers.a
origin_value origin.F a = flags_byte a.entered.processor.flags
origin_value origin.B a = a.entered.processor.registers.b
origin_value origin.C a = a.entered.processor.registers.c
origin_value origin.D a = a.entered.processor.registers.d
origin_value origin.E a = a.entered.processor.registers.e
origin_value origin.H a = a.entered.processor.registers.h
origin_value origin.L a = a.entered.processor.registers.l
origin_value origin.Ie a = a.entered.storage.ie
origin_value origin.ReturnHigh a = peek a.entered.storage (a.entered.processor.sp + 1)
origin_value origin.ReturnLow a = peek a.entered.storage a.entered.processor.sp
origin_value (origin.Kept i) a = peek a.entered.storage (slice_index a.kept i)
origin_value origin.MarkHigh a = a.mark / 256
origin_value origin.MarkLow a = a.mark % 256

-- x is a value that v stands for, where entry is the state as the procedure was entered
pub record Holds (v : Val) (entry : Activation) (x : ℕ) : Type 0 where
  pub least : v.lo ≤ x
  pub most : x ≤ v.hi
  pub low : has_low_bits v x ≡ true
  pub origin : (o : Origin) → v.origin ≡ Some o → x ≡ origin_value o entry

pub record HoldsFlags (f : Flg) (entry : Activation) (x : Flags) : Type 0 where
  pub zero : may_be f.zero x.zero ≡ true
  pub subtract : may_be f.subtract x.subtract ≡ true
  pub half_carry : may_be f.half_carry x.half_carry ≡ true
  pub carry : may_be f.carry x.carry ≡ true
  pub own : f.is_own ≡ true → x ≡ entry.entered.processor.flags

abbrev pub ime_may_be : ImeSet → Ime → Bool
ime_may_be s Off = s.off
ime_may_be s Pending = s.pending
ime_may_be s On = s.on

-- two banks are equal where one register holds them, or else in their low eight bits
abbrev pub IsBankKept : Kind → ℕ → ℕ → Type 0
IsBankKept kind.Mbc1 before x = x ≡ before
IsBankKept kind.Mbc3 before x = x ≡ before
IsBankKept _ before x = x % 256 ≡ before % 256

-- where that isn't one register, they are equal in what is above these bits
abbrev pub IsHighBankKept : Kind → ℕ → ℕ → Type 0
IsHighBankKept kind.Mbc1 before x = Unit {0}
IsHighBankKept kind.Mbc3 before x = Unit {0}
IsHighBankKept _ before x = x / 256 ≡ before / 256

-- the registers that are kept are what they were
pub record KeepsBanks (kind : Kind) (k : KeptBanks) (before x : Banks) : Type 0 where
  pub bank : k.bank ≡ true → IsBankKept kind before.bank x.bank
  pub second : k.second ≡ true → x.second ≡ before.second
  pub gate : k.gate ≡ true → x.gate ≡ before.gate
  pub mode : k.mode ≡ true → x.mode ≡ before.mode
  pub high_bank : k.high_bank ≡ true → IsHighBankKept kind before.bank x.bank

-- MBC5 has the bank's low eight bits in a register of their own (MBC5): they are within those of the least and of the greatest bank
abbrev pub HoldsLowBank : Kind → Ctl → ℕ → Type 0
HoldsLowBank kind.Mbc5 c bank = (c.bank_lo % 256 ≤ bank % 256) × (bank % 256 ≤ c.bank_hi % 256)
HoldsLowBank _ c bank = Unit {0}

pub record HoldsController (c : Ctl) (entry : Activation) (x : Banks) : Type 0 where
  pub bank_least : c.bank_lo ≤ x.bank
  pub bank_most : x.bank ≤ c.bank_hi
  pub low_bank : HoldsLowBank entry.program.kind c x.bank
  pub second_least : c.second_lo ≤ x.second
  pub second_most : x.second ≤ c.second_hi
  pub gate : may_be c.gate x.gate ≡ true
  pub mode : may_be c.mode x.mode ≡ true
  pub kept : KeepsBanks entry.program.kind c.kept entry.entered.storage.banks x

-- all but the stack, the cells and the HALT mark, of which the operations say nothing
pub record MeansCore (core : Core) (entry : Activation) (s : MState) : Type 0 where
  pub registers : (r : Register) → Holds (get r core.registers) entry (get r s.processor.registers)
  pub flags : HoldsFlags core.flags entry s.processor.flags
  pub ie : Holds core.ie entry s.storage.ie
  pub ime : ime_may_be core.ime s.processor.ime ≡ true
  pub controller : HoldsController core.ctl entry s.storage.banks
  pub count : s.storage.count ≤ core.bound
  pub locked : s.processor.locked ≡ false
  pub stopped : s.processor.stopped ≡ false

-- the items are the bytes below an address, the oldest first
abbrev pub AreItems : List Val → Activation → ℕ → Storage → Type 0
AreItems [] entry top s = Unit {0}
AreItems (v ∷ rest) entry top s = Holds v entry (peek s (top - 1)) × AreItems rest entry (top - 1) s

-- memory has its size, and holds bytes
pub record IsMemory (s : Storage) : Type 0 where
  pub work : length s.work ≡ 8192
  pub high : length s.high ≡ 127
  pub bytes : (a : ℕ) → peek s a ≤ 255

-- where a stack that is set is put aside, SP isn't reckoned from the items
abbrev pub located_by : Option Bounds → Bool → Bool
located_by None set = set
located_by (Some b) set = false

-- SP stands where the items end
abbrev pub is_located : AbsState → Bool
is_located s = located_by s.summary.aside s.core.stack_set

-- s is one of the states that each part of abs means by itself, in a procedure that was entered in the state entry, with
-- base the address above its items: where its return word stands (main: the address after the region)
pub record MeansParts (abs : AbsState) (entry : Activation) (base : ℕ) (s : MState) : Type 0 where
  pub core : MeansCore abs.core entry s
  pub memory : IsMemory s.storage
  pub sp : s.processor.sp < 65536
  pub stack : is_located abs ≡ true → s.processor.sp + length abs.items ≡ base
  pub items : AreItems abs.items entry base s.storage
  pub cells : AllByRecursion (λ c. Holds c.val entry (peek s.storage c.address)) abs.cells
