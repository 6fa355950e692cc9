-- Definitions of the crates below, for those above.
pub use Rattle.gb_files.specs as gb_files
pub use Rattle.gb_explain.specs.Below.gb_header as gb_header
pub use Rattle.gb_explain.specs.Below.gb_fields as gb_fields
pub use Rattle.gb_explain.specs.Below.gb_verify as gb_verify
