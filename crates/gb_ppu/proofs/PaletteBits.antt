-- A palette's two bits for a colour, taken at once.
use Rattle.std.proofs.Common.{◌≡◌, ℕ, zero, suc, ◌*◌, ◌/◌, ◌%◌, ◌^◌, ◌<◌, arith}
use Rattle.gb_ppu.specs.Control.{bit}
use Rattle.gb_ppu.specs.Tiles.{shade_of}

pub two_bits : (palette colour : ℕ) → colour < 4 → palette / 2 ^ (2 * colour) % 4 ≡ shade_of palette colour
unfolding shade_of bit
two_bits palette zero small = omega arith
two_bits palette (suc zero) small = omega arith
two_bits palette (suc (suc zero)) small = omega arith
two_bits palette (suc (suc (suc zero))) small = omega arith
two_bits palette (suc (suc (suc (suc n)))) small = absurd (omega arith)
