-- Points at which something was read: the input changes with the act.
use Rattle.std.specs.Prelude.{List}
use Rattle.pli_meaning.specs.InputLines.{Input}
use Rattle.pli_meaning.specs.StorageState.{with_input}
use Rattle.pli_meaning.specs.World.{counted}
use Rattle.pli_serving.specs.ServiceState.{EditPlace}
use Rattle.activation_relation.specs.Changes.{with_act}
use Rattle.activation_relation.specs.Layers.{Point}
use Rattle.edit_runs.specs.Writing.{with_edits}

abbrev pub with_read : (Input → Input) → Point → Point
with_read change p = record p { state = with_input change p.state }

-- the point behind an act that reads, with these places in format lists
abbrev pub reading : (Input → Input) → List EditPlace → Point → Point
reading change edits p = with_read change (with_act counted (with_edits edits p))
