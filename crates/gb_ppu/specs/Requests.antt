-- The bits of requests in IF (Pan Docs: Interrupts).
use Rattle.std.specs.Prelude.{ℕ, ◌+◌, if◌then◌else◌}
use Rattle.gb_ppu.specs.declared.picture.Requests.{Requests}

-- VBlank is bit 0, STAT bit 1
abbrev pub request_bits : Requests → ℕ
request_bits r = (if r.vblank then 1 else 0) + (if r.stat then 2 else 0)
