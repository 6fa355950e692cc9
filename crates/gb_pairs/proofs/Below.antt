-- Laws of the crates below, for those above.
pub use Rattle.gb_vals.proofs as gb_vals_laws
