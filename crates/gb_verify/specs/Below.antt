-- Definitions of the crates below, for those above.
pub use Rattle.gb_rules.specs.Below.gb_abs_memory as gb_abs_memory
pub use Rattle.gb_rules.specs.Below.gb_fields as gb_fields
pub use Rattle.gb_text.specs.Below.gb_header as gb_header
pub use Rattle.gb_rules.specs.Below.gb_domain as gb_domain
pub use Rattle.gb_rules.specs.Below.gb_states as gb_states
pub use Rattle.gb_rules.specs.Below.gb_product as gb_product
pub use Rattle.gb_rules.specs.Below.gb_abs as gb_abs
