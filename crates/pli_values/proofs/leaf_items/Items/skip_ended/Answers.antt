use Rattle.std.proofs.Common.{◌≡◌, ◌∙◌, Some, arith}
use Rattle.pli_serving.specs.InitialValues.{item_at}
use Rattle.pli_signatures.specs.View.{kind_of}
use Rattle.pli_values.specs.Calls.{call_of}
use Rattle.pli_values.specs.View.{item_of}
use Rattle.pli_values.proofs.Lasting.{right_next, same_next}
use Rattle.pli_values.proofs.leaf_items.Items.skip_ended.Goals as goal

pub loop-self-preserved : goal.loop-self-preserved
loop-self-preserved c =
    let old = c.loop-self.self in
    let call = call_of old.source in
    let kind = kind_of old.kind in
    let a = item_of c.in-Some.item in
    let e : Some a ≡ item_at call kind old.at = c.in-Some.ensures in
    record {
      right = right_next call kind old.left old.at c.behind_item-self.result a (omega arith) e c.behind_item-self.ensures c.loop-self.invariant.right;
      same = λ n. same_next call kind old.left old.at c.behind_item-self.result (item_of old.current) a n (omega arith) (omega arith) e c.behind_item-self.ensures c.loop-self.invariant.right ∙ c.loop-self.invariant.same n;
      kind = c.loop-self.invariant.kind;
    }
