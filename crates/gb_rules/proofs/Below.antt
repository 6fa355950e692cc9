-- Laws of the crates below, for those above.
pub use Rattle.gb_successors.proofs.Below.gb_abs_laws as gb_abs_laws
pub use Rattle.gb_calls.proofs.Below.gb_cert_laws as gb_cert_laws
pub use Rattle.gb_successors.proofs.Below.gb_vals_laws as gb_vals_laws
pub use Rattle.gb_successors.proofs.Below.gb_product_laws as gb_product_laws
pub use Rattle.gb_calls.proofs.Below.gb_states_laws as gb_states_laws
