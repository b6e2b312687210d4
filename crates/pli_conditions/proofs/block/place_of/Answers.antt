use Rattle.std.proofs.Common.{◌∙◌, sym}
use Rattle.pli_conditions.proofs.Entries.{place_of-found, place_of-none, unit_for-passed}
use Rattle.pli_conditions.proofs.block.place_of.Goals as goal

pub returns-then-eq : goal.returns-then-eq
returns-then-eq c = place_of-found _ _ _ _ c.loop-place-test.true (sym c.eq.ensures ∙ c.if-eq.true) c.loop-place.invariant

pub loop-place-preserved : goal.loop-place-preserved
loop-place-preserved c = unit_for-passed _ _ _ _ c.loop-place-test.true (sym c.eq.ensures ∙ c.if-eq.false) c.loop-place.invariant

pub returns : goal.returns
returns c = place_of-none _ c.loop-place.place _ c.loop-place-test.false c.loop-place.invariant
