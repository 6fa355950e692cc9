-- Definitions of the crates below, for those above.
pub use Rattle.gb_rows.specs as gb_rows
pub use Rattle.gb_states.specs as gb_states
pub use Rattle.gb_states.specs.Below.gb_fields as gb_fields
