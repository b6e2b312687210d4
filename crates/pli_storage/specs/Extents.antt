-- Service 3, from the place on where the list of places is known.
use Rattle.std.specs.Prelude.{ℕ, List, slice_get}
use Rattle.pli_typing.specs.Signatures.{Bounds}
use Rattle.pli_serving.specs.Answers.{Answer}
use Rattle.pli_serving.specs.Finding.{Call}
use Rattle.pli_serving.specs.Outcomes.{or_bad}
use Rattle.pli_serving.specs.SignatureService.{ExtentPlace, filled, numbered}

abbrev pub extent_filled : Call → Bounds → (number : ℕ) → List ExtentPlace → Answer
extent_filled c extent number places = or_bad (filled extent places (slice_get c.services.signatures number)) (numbered c)
