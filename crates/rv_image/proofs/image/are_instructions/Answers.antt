use Rattle.std.proofs.Common.{below_more}
use Rattle.rv_image.proofs.image.are_instructions.Goals as goal

pub returns-in-None : goal.returns-in-None
returns-in-None c = (
  λ t. absurd (cc),
  λ all.
      let some = all c.loop-word.word-index c.loop-word-test.true in
      absurd (c.in-None.ensures.missed some.0 some.1 some.2),
)

pub loop-word-preserved : goal.loop-word-preserved
loop-word-preserved c =
    below_more _ _ c.loop-word.invariant (c.in-Some.field-0, c.in-Some.ensures.found.0, c.in-Some.ensures.found.1)
