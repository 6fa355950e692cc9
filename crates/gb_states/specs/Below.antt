-- Definitions of the crates below, for those above.
pub use Rattle.gb_fields.specs as gb_fields
