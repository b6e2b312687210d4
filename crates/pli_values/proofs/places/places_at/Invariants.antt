use Rattle.std.proofs.Common.{◌≡◌, ◌+◌, ◌-◌, ◌*◌, ◌++◌, map}
use Rattle.pli_serving.specs.SignatureService.{places_from}
use Rattle.pli_signatures.specs.View.{place_of}
use Rattle.pli_values.proofs.places.places_at.Given as goal

abbrev pub invariant-loop-place : goal.invariant-loop-place
invariant-loop-place l =
    map place_of l.places.items ++ places_from (l.count - l.place) (l.fn.at + 4 + 8 * l.place) l.source.memory.now ≡ places_from l.count (l.fn.at + 4) l.source.memory.now
