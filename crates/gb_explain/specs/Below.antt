-- Definitions of the crates below, for those above.
pub use Rattle.gb_verify.specs.Below.gb_fields as gb_fields
pub use Rattle.gb_verify.specs.Below.gb_header as gb_header
pub use Rattle.gb_verify.specs as gb_verify
