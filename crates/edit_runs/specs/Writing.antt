-- Points at which something was written, or at which another place in a format list is the newest.
use Rattle.std.specs.Prelude.{ℕ, List}
use Rattle.pli_meaning.specs.World.{written}
use Rattle.pli_serving.specs.ServiceState.{EditPlace}
use Rattle.activation_relation.specs.Changes.{with_act}
use Rattle.activation_relation.specs.Layers.{Point}

abbrev pub with_edits : List EditPlace → Point → Point
with_edits edits p = record p { control = record p.control { edits = edits } }

-- the point behind an act that writes, with these places in format lists
abbrev pub writing : (List ℕ → List ℕ) → List EditPlace → Point → Point
writing item edits p = with_act (written item) (with_edits edits p)
