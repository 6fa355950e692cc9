use Rattle.gb_abs.proofs.bytes.+append_any.Given as goal

abbrev pub decreases-append_any : goal.decreases-append_any
decreases-append_any l = l.count
