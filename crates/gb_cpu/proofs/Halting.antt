-- A fetched HALT.
use Rattle.std.proofs.Common.{◌≡◌, ℕ, Bool, true, false, ◌||◌, ◌==◌, List, [], ◌∷◌, refl, slice_index_or}
use Rattle.gb_ops.specs.declared.registers.Processor.{Processor}
use Rattle.gb_ops.specs.Table.{row_of, row_in, table}
use Rattle.gb_ops.specs.Memory.{View, is_free, byte_at}
use Rattle.gb_ops.specs.Machine.{read_by, read_at, fetched, length_of, has_halt}
use Rattle.gb_ops.specs.Accesses.{Access, fetch_log}
use Rattle.gb_ops.specs.Accesses as access
use Rattle.gb_cpu.specs.Step.{state}

by_cases : (f : Bool) (fixed : ℕ) (free : List ℕ) → (read_by f fixed free).value ≡ 0x76 → (f || (fixed == 0x76)) ≡ true
by_cases true fixed free h = refl
by_cases false fixed free h = rw h refl

pub has_halt_is : (m : View) (p : Processor) (free bytes : List ℕ) → fetched m p free ≡ bytes → slice_index_or bytes 0 0 ≡ 0x76 → has_halt (state p m) ≡ true
unfolding fetched read_at
has_halt_is m p free bytes is h =
    by_cases (is_free m p.pc) (byte_at m p.pc) free (rw (← is) at h)

pub fetch_log_halt : (p : Processor) (bytes : List ℕ) → slice_index_or bytes 0 0 ≡ 0x76 → fetch_log p bytes ≡ access.Reads p.pc 0x76 ∷ []
unfolding fetch_log length_of row_of row_in table
fetch_log_halt p bytes h = rw h refl
