-- Definitions of the crates below, for those above.
pub use Rattle.gb_pairs.specs as gb_pairs
pub use Rattle.gb_copies.specs as gb_copies
