-- Definitions of the crates below, for those above.
pub use Rattle.gb_console.specs as gb_console
pub use Rattle.gb_console.specs.Below.gb_verify as gb_verify
