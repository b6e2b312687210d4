use Rattle.pli_aggregates.proofs.elements.LeafPlace.run_from.Goals as goal

pub returns : goal.returns
returns c = λ p n hp hn.
    record {
      at = (c.in-Some.ensures p hp).0;
      step = c.size-step.ensures;
      inside = c.ends.ensures n hn c.if-not-ends.false;
    }
