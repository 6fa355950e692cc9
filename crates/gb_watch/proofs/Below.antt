-- Laws of the crates below, for those above.
pub use Rattle.gb_console.proofs.Below.gb_verify_laws as gb_verify_laws
pub use Rattle.gb_console.proofs as gb_console_laws
