-- Definitions of the crates below, for those above.
pub use Rattle.gb_mbc.specs.Below.gb_header as gb_header
pub use Rattle.gb_mbc.specs as gb_mbc
pub use Rattle.gb_ppu.specs as gb_ppu
pub use Rattle.gb_ppu.specs.Below.gb_timer as gb_timer
