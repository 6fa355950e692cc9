-- What a plain sink shows.
use Rattle.std.specs.Prelude.{Bool}
use Rattle.gb_text.specs.declared.sink.Plain.{Plain}

-- whether it failed
abbrev pub has_failed : {W : Type 0} → Plain W → Bool
has_failed sink = sink.has_failed

-- the writer under it
abbrev pub writer_of : {W : Type 0} → Plain W → W
writer_of sink = sink.writer
