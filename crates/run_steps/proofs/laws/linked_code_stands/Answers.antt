use Rattle.run_steps.proofs.Linking.{has_items, linked_length}
use Rattle.run_steps.proofs.laws.linked_code_stands.Goals as goal

pub returns : goal.returns
returns c = record { whole = has_items; size = linked_length }
