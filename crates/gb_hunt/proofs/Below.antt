-- Laws of the crates below, for those above.
pub use Rattle.gb_trace.proofs.Below.gb_console_laws as gb_console_laws
