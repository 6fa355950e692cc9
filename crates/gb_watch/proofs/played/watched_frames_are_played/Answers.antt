use Rattle.gb_watch.proofs.Playing.{faultless_frames, faulty_frames, faultless_runs, cut_runs, faulty_runs}
use Rattle.gb_watch.proofs.played.watched_frames_are_played.Goals as goal

pub returns-clause-faultless : goal.returns-clause-faultless
returns-clause-faultless c = faultless_frames

pub returns-clause-faulty : goal.returns-clause-faulty
returns-clause-faulty c = faulty_frames

pub returns-clause-faultless_runs : goal.returns-clause-faultless_runs
returns-clause-faultless_runs c = faultless_runs

pub returns-clause-cut_runs : goal.returns-clause-cut_runs
returns-clause-cut_runs c = cut_runs

pub returns-clause-runs : goal.returns-clause-runs
returns-clause-runs c = faulty_runs
