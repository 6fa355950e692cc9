use Rattle.gb_ppu.proofs.course.+advance.Given as goal

abbrev pub decreases-advance : goal.decreases-advance
decreases-advance l = l.n
