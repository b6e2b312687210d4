use Rattle.nested_begins.proofs.BegunVariables.{all_begun_in, known_begun_in}
use Rattle.nested_begins.proofs.FullBegins.{full_begin_ends}
use Rattle.nested_begins.proofs.laws.begun_variables.Goals as goal

pub returns : goal.returns
returns c = record { made = all_begun_in; known = known_begun_in; full = full_begin_ends }
