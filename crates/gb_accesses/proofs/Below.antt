-- Laws of the crates below, for those above.
pub use Rattle.gb_bus.proofs.Below.gb_timer_laws as gb_timer_laws
