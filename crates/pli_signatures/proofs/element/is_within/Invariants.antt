use Rattle.std.proofs.Common.{◌≡◌, map, drop}
use Rattle.pli_types.specs.View.{pair_of}
use Rattle.pli_meaning.specs.Contents.{is_within}
use Rattle.pli_signatures.proofs.element.is_within.Given as goal

abbrev pub invariant-loop-place : goal.invariant-loop-place
invariant-loop-place l = is_within (map pair_of (drop l.place l.dimensions)) (drop l.place l.subscripts) ≡ is_within (map pair_of l.dimensions) l.subscripts
