-- Laws of the crates below, for those above.
pub use Rattle.gb_states.proofs as gb_states_laws
