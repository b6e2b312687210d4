use Rattle.std.proofs.Common.{◌≡◌, map, drop, Some}
use Rattle.pli_types.specs.View.{pair_of, template_of}
use Rattle.pli_serving.specs.SignatureService.{filled}
use Rattle.pli_signatures.specs.View.{place_of}
use Rattle.pli_signatures.proofs.filling.fill_all.Given as goal

abbrev pub invariant-loop-place : goal.invariant-loop-place
invariant-loop-place l =
    filled (pair_of l.given) (map place_of (drop l.place-index l.places)) (Some (template_of l.signature))
    ≡ filled (pair_of l.given) (map place_of l.places) (Some (template_of l.initial.signature))
