-- Laws of the crates below, for those above.
pub use Rattle.gb_header.proofs as gb_header_laws
