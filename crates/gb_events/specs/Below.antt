-- Definitions of the crates below, for those above.
pub use Rattle.gb_hunt.specs.Below.gb_console as gb_console
pub use Rattle.gb_hunt.specs.Below.gb_printed as gb_printed
pub use Rattle.gb_hunt.specs.Below.gb_watch as gb_watch
pub use Rattle.gb_hunt.specs.Below.gb_witness as gb_witness
