-- Laws of the crates below, for those above.
pub use Rattle.gb_pairs.proofs as gb_pairs_laws
pub use Rattle.gb_copies.proofs as gb_copies_laws
