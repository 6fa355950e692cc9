-- Laws of the crates below, for those above.
pub use Rattle.gb_verify.proofs as gb_verify_laws
