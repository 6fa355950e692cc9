-- Definitions of the crates below, for those above.
pub use Rattle.gb_abs.specs as gb_abs
pub use Rattle.gb_abs.specs.Below.gb_vals as gb_vals
