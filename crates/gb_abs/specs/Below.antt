-- Definitions of the crates below, for those above.
pub use Rattle.gb_domain.specs as gb_domain
pub use Rattle.gb_vals.specs as gb_vals
