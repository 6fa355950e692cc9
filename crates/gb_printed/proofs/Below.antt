-- Laws of the crates below, for those above.
pub use Rattle.gb_watch.proofs as gb_watch_laws
pub use Rattle.gb_watch.proofs.Below.gb_console_laws as gb_console_laws
