-- What a sink gained, for the crates above.
pub use Rattle.gb_text.specs.Sink.{Gains}
pub use Rattle.gb_text.specs.Text.{GainsBeginning}
