-- Definitions of the crates below, for those above.
pub use Rattle.gb_bus.specs as gb_bus
pub use Rattle.gb_bus.specs.Below.gb_header as gb_header
pub use Rattle.gb_bus.specs.Below.gb_mbc as gb_mbc
pub use Rattle.gb_bus.specs.Below.gb_ppu as gb_ppu
pub use Rattle.gb_bus.specs.Below.gb_timer as gb_timer
