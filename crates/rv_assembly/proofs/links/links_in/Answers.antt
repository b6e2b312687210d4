use Rattle.std.proofs.Common.{List, map, ap, subst}
use Rattle.pli_coding.specs.Linking.{MarkedPlace}
use Rattle.pli_coding.specs.StaticData.{PlacedDatum}
use Rattle.rv_assembly.specs.Marks.{mark_of}
use Rattle.rv_assembly.specs.Placed.{placed_of}
use Rattle.rv_assembly.specs.Found.{FindsMarks, FindsData}
use Rattle.rv_assembly.proofs.links.links_in.Goals as goal

pub invariant_of-result : goal.invariant_of-result
invariant_of-result c = record {
  finds_marks = ∣ subst (λ (ms : List MarkedPlace). FindsMarks c.in_ok-mark_index.mark_index ms) (ap (map mark_of) c.deref-2.ensures.value) c.in_ok-mark_index.ensures ∣₁;
  finds_data = ∣ subst (λ (ps : List PlacedDatum). FindsData c.in_ok-data_index.data_index ps) (ap (map placed_of) c.deref-3.ensures.value) c.in_ok-data_index.ensures ∣₁;
}
