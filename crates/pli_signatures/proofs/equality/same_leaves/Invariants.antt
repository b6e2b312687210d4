use Rattle.std.proofs.Common.{◌≡◌, map, drop}
use Rattle.pli_types.specs.View.{leaf_of}
use Rattle.pli_serving.specs.SignatureService.{same_open_leaves}
use Rattle.pli_signatures.proofs.equality.same_leaves.Given as goal

abbrev pub invariant-loop-place : goal.invariant-loop-place
invariant-loop-place l = same_open_leaves (map leaf_of (drop l.place l.a)) (map leaf_of (drop l.place l.b)) ≡ same_open_leaves (map leaf_of l.a) (map leaf_of l.b)
