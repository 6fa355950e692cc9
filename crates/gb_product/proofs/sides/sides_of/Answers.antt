use Rattle.gb_product.proofs.SideLaws.{sides_of_sound_of_words, sides_of_cuts}
use Rattle.gb_product.proofs.sides.sides_of.Goals as goal

pub returns-clause-sound : goal.returns-clause-sound
returns-clause-sound c =
    sides_of_sound_of_words _ _ _ _ _ c.both_sides.ensures c.holds_words.ensures.bc c.holds_words.ensures.de c.holds_words.ensures.hl

pub returns-clause-kept : goal.returns-clause-kept
returns-clause-kept c = sides_of_cuts _ _ _ _ _ c.both_sides.ensures
