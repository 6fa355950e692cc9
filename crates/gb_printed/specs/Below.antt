-- Definitions of the crates below, for those above.
pub use Rattle.gb_watch.specs.Below.gb_console as gb_console
pub use Rattle.gb_watch.specs.Below.gb_verify as gb_verify
pub use Rattle.gb_watch.specs as gb_watch
