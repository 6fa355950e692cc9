-- Laws of the crates below, for those above.
pub use Rattle.gb_abs.proofs.Below.gb_vals_laws as gb_vals_laws
pub use Rattle.gb_abs.proofs as gb_abs_laws
