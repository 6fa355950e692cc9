use Rattle.gb_vals.proofs.FlagLaws.{flags_val_sound, flags_val_inhabited}
use Rattle.gb_vals.proofs.flags.flags_val.Goals as goal

pub returns-clause-sound : goal.returns-clause-sound
returns-clause-sound c = λ x h. flags_val_sound c.args.flags c.least_to_greatest.result x c.least_to_greatest.ensures h

pub returns-clause-inhabited : goal.returns-clause-inhabited
returns-clause-inhabited c = flags_val_inhabited c.args.flags c.least_to_greatest.result c.least_to_greatest.ensures
