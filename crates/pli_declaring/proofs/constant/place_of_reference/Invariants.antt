use Rattle.std.proofs.Common.{◌≡◌}
use Rattle.pli_language.specs.Declaring.{place_of_reference}
use Rattle.pli_language.specs.View.{reference_of}
use Rattle.pli_declaring.proofs.constant.place_of_reference.Given as goal

abbrev pub invariant-loop-rest : goal.invariant-loop-rest
invariant-loop-rest l = place_of_reference (reference_of l.rest) ≡ place_of_reference (reference_of l.reference)
