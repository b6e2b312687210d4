use Rattle.storage_relation.proofs.Changes.{made_holds, made_served, ended_holds, ended_served}
use Rattle.storage_relation.proofs.Changes.{variable_answered, limit_same}
use Rattle.storage_relation.proofs.Making.{begins_alone, begins_area}
use Rattle.storage_relation.proofs.laws.variables_live.Goals as goal

pub returns : goal.returns
returns c = record {
  begun = made_holds;
  gone = ended_holds;
  spelled = begins_alone;
  areas = begins_area;
  answered = variable_answered;
  limit = limit_same;
  served = made_served;
  left = ended_served;
}
