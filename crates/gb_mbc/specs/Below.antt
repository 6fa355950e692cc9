-- Definitions of the crates below, for those above.
pub use Rattle.gb_header.specs as gb_header
