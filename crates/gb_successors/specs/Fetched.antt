-- What the machine fetches where the bytes of an instruction are known (abstract interpretation: soundness; own).
use Rattle.std.specs.Prelude.{◌≡◌, ℕ, false, List, map}
use Rattle.std.specs.List.{All}
use Rattle.gb_ops.specs.Memory.{is_free, byte_at}
use Rattle.gb_ops.specs.Machine.{fetched}
use Rattle.gb_ops.specs.Faults.{no_faults, fetch_faults, all_fetch_faults, fetch_addresses, code_place}
use Rattle.gb_ops.specs.Play.{MState, within}
use Rattle.gb_abs_memory.specs.Below.gb_domain.Summaries.{Program}
use Rattle.gb_abs_memory.specs.Below.gb_domain.Types.{Node}
use Rattle.gb_successors.specs.Places.{IsCertifiedBy}

-- the byte at PC, as the machine fetches it: it is read in any case, without a fault, from a place that the node certifies
pub record FetchesFirst (program : Program) (rom : List ℕ) (n : Node) (x : MState) (opcode : ℕ) : Type 0 where
  pub fixed : is_free (within rom x).memory x.processor.pc ≡ false
  pub byte : byte_at (within rom x).memory x.processor.pc ≡ opcode
  pub faults : fetch_faults (within rom x).memory x.processor.pc ≡ no_faults
  pub place : IsCertifiedBy program rom n (code_place (within rom x).memory x.processor.pc)

-- the bytes of the instruction at PC, where the HALT mark is clear: these, whatever free reads give, without a fault,
-- from places that the node certifies
pub record FetchesAll (program : Program) (rom : List ℕ) (n : Node) (x : MState) (bytes : List ℕ) : Type 0 where
  pub gives : (free : List ℕ) → fetched (within rom x).memory x.processor free ≡ bytes
  pub faults : all_fetch_faults (within rom x).memory (fetch_addresses x.processor bytes) ≡ no_faults
  pub places : All (IsCertifiedBy program rom n) (map (code_place (within rom x).memory) (fetch_addresses x.processor bytes))
