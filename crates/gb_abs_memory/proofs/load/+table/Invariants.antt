use Rattle.gb_abs_memory.proofs.load.+table.Given as goal

abbrev pub decreases-table : goal.decreases-table
decreases-table l = l.more
