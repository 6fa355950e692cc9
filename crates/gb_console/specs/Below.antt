-- Definitions of the crates below, for those above.
pub use Rattle.gb_verify.specs.Below.gb_fields as gb_fields
pub use Rattle.gb_verify.specs.Below.gb_domain as gb_domain
pub use Rattle.gb_verify.specs.Below.gb_states as gb_states
pub use Rattle.gb_cpu.specs.Below.gb_timer as gb_timer
pub use Rattle.gb_verify.specs as gb_verify
