use Rattle.nested_begins.proofs.DeepBegins.{deep_begin_ends}
use Rattle.nested_begins.proofs.laws.deep_begins_end.Goals as goal

pub returns : goal.returns
returns c = deep_begin_ends
