-- Definitions of the crates below, for those above.
pub use Rattle.gb_cert.specs.Below.gb_rows as gb_rows
pub use Rattle.gb_cert.specs as gb_cert
pub use Rattle.gb_cert.specs.Below.gb_states as gb_states
pub use Rattle.gb_cert.specs.Below.gb_fields as gb_fields
