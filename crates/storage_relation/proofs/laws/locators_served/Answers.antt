use Rattle.storage_relation.proofs.Locators.{pointer_answer, offset_answer, refer_answer}
use Rattle.storage_relation.proofs.laws.locators_served.Goals as goal

pub returns : goal.returns
returns c = record { pointer = pointer_answer; offset = offset_answer; refer = refer_answer }
