use Rattle.std.proofs.Common.{◌≡◌, map, drop}
use Rattle.pli_types.specs.View.{template_of}
use Rattle.pli_serving.specs.SignatureService.{number_of, number_from}
use Rattle.pli_signatures.proofs.equality.place_of.Given as goal

abbrev pub invariant-loop-place : goal.invariant-loop-place
invariant-loop-place l = number_from l.place (template_of l.signature) (map template_of (drop l.place l.list)) ≡ number_of (template_of l.signature) (map template_of l.list)
