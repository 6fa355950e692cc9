-- Definitions of the crates below, for those above.
pub use Rattle.gb_successors.specs.Below.gb_abs as gb_abs
pub use Rattle.gb_successors.specs.Below.gb_abs_effects as gb_abs_effects
pub use Rattle.gb_successors.specs.Below.gb_abs_memory as gb_abs_memory
pub use Rattle.gb_calls.specs as gb_calls
pub use Rattle.gb_successors.specs as gb_successors
pub use Rattle.gb_successors.specs.Below.gb_vals as gb_vals
pub use Rattle.gb_successors.specs.Below.gb_product as gb_product
pub use Rattle.gb_calls.specs.Below.gb_cert as gb_cert
pub use Rattle.gb_calls.specs.Below.gb_states as gb_states
pub use Rattle.gb_successors.specs.Below.gb_domain as gb_domain
pub use Rattle.gb_calls.specs.Below.gb_fields as gb_fields
