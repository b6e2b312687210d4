use Rattle.program_runs.proofs.Constants.{byte_stands, bytes_stand, constants_among, constants_begun}
use Rattle.program_runs.proofs.laws.constants_stand.Goals as goal

pub returns : goal.returns
returns c = record { byte = byte_stands; bytes = bytes_stand; begun = constants_begun; among = constants_among }
