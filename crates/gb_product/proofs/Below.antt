-- Laws of the crates below, for those above.
pub use Rattle.gb_summaries.proofs.Below.gb_relations_laws as gb_relations_laws
pub use Rattle.gb_summaries.proofs.Below.gb_pairs_laws as gb_pairs_laws
pub use Rattle.gb_abs_effects.proofs.Below.gb_abs_laws as gb_abs_laws
pub use Rattle.gb_abs_effects.proofs as gb_abs_effects_laws
pub use Rattle.gb_summaries.proofs as gb_summaries_laws
