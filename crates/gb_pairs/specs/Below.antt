-- Definitions of the crates below, for those above.
pub use Rattle.gb_vals.specs as gb_vals
