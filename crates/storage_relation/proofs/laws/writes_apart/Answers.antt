use Rattle.storage_relation.proofs.Changes.{apart_holds, apart_stays}
use Rattle.storage_relation.proofs.laws.writes_apart.Goals as goal

pub returns : goal.returns
returns c = record { holds = apart_holds; stays = apart_stays }
