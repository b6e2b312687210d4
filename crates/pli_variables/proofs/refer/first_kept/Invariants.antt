use Rattle.std.proofs.Common.{◌≡◌, drop, map}
use Rattle.std.specs.List.{flat_map}
use Rattle.pli_typing.specs.Generations.{kept_in}
use Rattle.pli_declare.specs.Shown.{held_of}
use Rattle.pli_variables.specs.Kept.{first_kept}
use Rattle.pli_variables.proofs.refer.first_kept.Given as goal

abbrev pub invariant-loop-held : goal.invariant-loop-held
invariant-loop-held l = first_kept (flat_map kept_in (map held_of (drop l.held-index l.all))) ≡ first_kept (flat_map kept_in (map held_of l.all))
