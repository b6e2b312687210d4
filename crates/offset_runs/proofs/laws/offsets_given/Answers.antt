use Rattle.offset_runs.proofs.MemberOffsets.{member_gives}
use Rattle.offset_runs.proofs.OffsetValues.{null_gives, variable_gives}
use Rattle.offset_runs.proofs.laws.offsets_given.Goals as goal

pub returns : goal.returns
returns c = record { null = null_gives; variable = variable_gives; member = member_gives }
