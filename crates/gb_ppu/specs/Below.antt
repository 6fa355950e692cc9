-- Definitions of the crates below, for those above.
pub use Rattle.gb_timer.specs as gb_timer
