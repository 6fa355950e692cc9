-- Definitions of the crates below, for those above.
pub use Rattle.gb_relations.specs as gb_relations
pub use Rattle.gb_relations.specs.Below.gb_pairs as gb_pairs
pub use Rattle.gb_relations.specs.Below.gb_copies as gb_copies
pub use Rattle.gb_ram_bounds.specs as gb_ram_bounds
