-- Laws of the crates below, for those above.
pub use Rattle.gb_text.proofs as gb_text_laws
pub use Rattle.gb_hunt.proofs.Below.gb_console_laws.Below.gb_verify_laws as gb_verify_laws
