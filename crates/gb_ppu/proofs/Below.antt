-- Laws of the crates below, for those above.
pub use Rattle.gb_timer.proofs as gb_timer_laws
