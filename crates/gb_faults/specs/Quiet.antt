-- Accesses and instructions without a fault (own).
use Rattle.std.specs.Prelude.{ℕ, ◌≡◌, ◌+◌, ◌%◌, ◌<◌, ◌≤◌, ◌⊎◌, false, List}
use Rattle.gb_ops.specs.declared.machine.Region.{Region}
use Rattle.gb_ops.specs.declared.machine.Write.TheVariants as write
use Rattle.gb_ops.specs.declared.op.Pair.TheVariants as pair
use Rattle.gb_ops.specs.declared.registers.Processor.{Processor}
use Rattle.gb_ops.specs.Cartridge.{is_within, kind_of, has_ram_or_clock}
use Rattle.gb_ops.specs.Faults.{no_faults, access_faults, fetch_faults, write_faults, store_faults, run_faults}
use Rattle.gb_ops.specs.Machine.{BusState}
use Rattle.gb_ops.specs.Memory.{View}
use Rattle.gb_ops.specs.Pairs.{pair_value}
use Rattle.gb_faults.specs.declared.guard.Guard.{Guard}
use Rattle.gb_faults.specs.declared.touch.Touch.{Touch}
use Rattle.gb_faults.specs.declared.touch.Touch.TheVariants as touch

-- reading the byte at an address has no fault, nor has writing there, whatever is written
pub record IsQuietAddress (m : View) (a : ℕ) : Type 0 where
  pub reads : access_faults m a ≡ no_faults
  pub writes : (v : ℕ) → write_faults m a v ≡ no_faults

-- an instruction that touches memory so has no fault by that; w is the address in its bytes
abbrev pub IsQuietTouch : Region → View → Processor → ℕ → Touch → Type 0
IsQuietTouch region m p w touch.Nothing = Unit {0}
IsQuietTouch region m p w touch.Bc = IsQuietAddress m (pair_value p pair.Bc)
IsQuietTouch region m p w touch.De = IsQuietAddress m (pair_value p pair.De)
IsQuietTouch region m p w touch.Hl = IsQuietAddress m (pair_value p pair.Hl)
IsQuietTouch region m p w touch.Word = IsQuietAddress m w
IsQuietTouch region m p w touch.HighStore = is_within 0xA0 0xBF p.registers.a ≡ false
IsQuietTouch region m p w touch.Pop = (access_faults m p.sp ≡ no_faults) × (access_faults m ((p.sp + 1) % 65536) ≡ no_faults)
IsQuietTouch region m p w touch.Push = (v : ℕ) → store_faults region m (write.Push p.sp v) ≡ no_faults
IsQuietTouch region m p w touch.Prefixed = ⊥
IsQuietTouch region m p w touch.Other = ⊥

-- whatever free reads give, the instruction at PC has no fault, nor has HALT there
pub record IsQuiet (region : Region) (s : BusState) : Type 0 where
  pub runs : (fetch reads : List ℕ) → run_faults region s fetch reads ≡ no_faults
  pub halts : fetch_faults s.memory s.processor.pc ≡ no_faults

-- both bytes of a push lie in the region, in work RAM or in high RAM
pub record IsSafePush (region : Region) (sp : ℕ) : Type 0 where
  pub least : region.first + 2 ≤ sp
  pub most : sp ≤ region.last + 1
  pub ram : 0xC000 ≤ region.first
  pub no_register : (region.last < 0xFE00) ⊎ (0xFF80 ≤ region.first)

-- what a guard of a region knows of a cartridge and of the stack
pub record IsGuard (rom : List ℕ) (g : Guard) : Type 0 where
  pub kind : g.kind ≡ kind_of rom
  pub reachable : g.has_ram_or_clock ≡ has_ram_or_clock rom
  pub stack : (sp : ℕ) → g.least_sp ≤ sp → sp ≤ g.most_sp → IsSafePush g.region sp
