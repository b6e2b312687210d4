use Rattle.activation_relation.proofs.BeginningCode.{begun_places, registers_same}
use Rattle.activation_relation.proofs.laws.code_stores.Goals as goal

pub returns : goal.returns
returns c = record { places = begun_places; registers = registers_same }
