use Rattle.meaning_runs.proofs.Programs.{never_stuck}
use Rattle.meaning_runs.proofs.laws.never_stuck.Goals as goal

pub returns : goal.returns
returns c = never_stuck
