-- Definitions of the crates below, for those above.
pub use Rattle.gb_summaries.specs.Below.gb_relations as gb_relations
pub use Rattle.gb_summaries.specs.Below.gb_pairs as gb_pairs
pub use Rattle.gb_summaries.specs.Below.gb_copies as gb_copies
pub use Rattle.gb_abs_effects.specs.Below.gb_abs as gb_abs
pub use Rattle.gb_abs_effects.specs.Below.gb_vals as gb_vals
pub use Rattle.gb_abs_effects.specs as gb_abs_effects
pub use Rattle.gb_summaries.specs as gb_summaries
