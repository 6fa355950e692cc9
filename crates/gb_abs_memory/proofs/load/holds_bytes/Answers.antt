use Rattle.std.proofs.Common.{ℕ, ◌≤◌, slice_index, subst}
use Rattle.gb_abs_memory.proofs.LoadLaws.{IsRom-cartridge}
use Rattle.gb_abs_memory.proofs.load.holds_bytes.Goals as goal

pub returns : goal.returns
returns c = IsRom-cartridge c.args.rom.now c.bytes.ensures.cartridge (subst (λ xs. (i : ℕ) → slice_index xs i ≤ 255) c.bytes.ensures.bytes c.are_bytes.ensures)
