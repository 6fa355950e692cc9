-- Definitions of the crates below, for those above.
pub use Rattle.gb_printed.specs as gb_printed
pub use Rattle.gb_printed.specs.Below.gb_console as gb_console
pub use Rattle.gb_printed.specs.Below.gb_verify as gb_verify
pub use Rattle.gb_printed.specs.Below.gb_watch as gb_watch
