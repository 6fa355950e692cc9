-- Definitions of the crates below, for those above.
pub use Rattle.gb_cpu.specs as gb_cpu
