use Rattle.std.proofs.Common.{◌∙◌, sym, refl, arith, below_more}
use Rattle.rv_image.proofs.Parts.{all_words, one_word}
use Rattle.rv_image.proofs.header.are_instructions.Goals as goal

pub returns-in-None : goal.returns-in-None
returns-in-None c = (
  λ t. absurd (cc),
  λ all.
      let some = one_word c.args.count c.args.bytes.now c.loop-k.k all c.loop-k-test.true in
      absurd (c.in-None.ensures.missed some.0 some.1 (some.2 ∙ sym c.word_at.ensures)),
)

pub loop-k-preserved : goal.loop-k-preserved
loop-k-preserved c =
    below_more _ _ c.loop-k.invariant (c.in-Some.field-0, c.in-Some.ensures.found.0, c.in-Some.ensures.found.1 ∙ c.word_at.ensures)

pub returns : goal.returns
returns c = (
  λ t. all_words c.args.count c.args.bytes.now (λ j h. c.loop-k.invariant j (omega (arith, c.loop-k-test.false))),
  λ t. refl,
)
