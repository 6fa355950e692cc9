use Rattle.gb_abs_memory.proofs.LoadLaws.{load_inhabited}
use Rattle.gb_abs_memory.proofs.load.load.Goals as goal

pub returns-clause-inhabited : goal.returns-clause-inhabited
returns-clause-inhabited c = λ ie cells items bytes. load_inhabited _ _ _ _ _ c.loaded_or_reason.ensures ie cells items bytes
