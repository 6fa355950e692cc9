-- Laws of the crates below, for those above.
pub use Rattle.gb_relations.proofs as gb_relations_laws
pub use Rattle.gb_relations.proofs.Below.gb_pairs_laws as gb_pairs_laws
pub use Rattle.gb_relations.proofs.Below.gb_copies_laws as gb_copies_laws
pub use Rattle.gb_ram_bounds.proofs as gb_ram_bounds_laws
