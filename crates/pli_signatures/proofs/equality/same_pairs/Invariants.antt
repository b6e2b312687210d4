use Rattle.std.proofs.Common.{◌≡◌, map, drop}
use Rattle.pli_types.specs.View.{bounds_of}
use Rattle.pli_serving.specs.SignatureService.{same_pairs}
use Rattle.pli_signatures.proofs.equality.same_pairs.Given as goal

abbrev pub invariant-loop-place : goal.invariant-loop-place
invariant-loop-place l = same_pairs (map bounds_of (drop l.place l.a)) (map bounds_of (drop l.place l.b)) ≡ same_pairs (map bounds_of l.a) (map bounds_of l.b)
