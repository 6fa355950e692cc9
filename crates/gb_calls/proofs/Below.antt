-- Laws of the crates below, for those above.
pub use Rattle.gb_cert.proofs as gb_cert_laws
pub use Rattle.gb_cert.proofs.Below.gb_states_laws as gb_states_laws
