use Rattle.std.proofs.Common.{arith, refl, take}
use Rattle.pli_values.proofs.Texts.{fitted_behind}
use Rattle.pli_values.proofs.element.put_fitted.Goals as goal

pub returns : goal.returns
returns c =
    let text = c.args.text.now in
    let kept = c.min-kept.result in
    fitted_behind c.args.most kept c.args.at text (take kept text) c.args.memory.now _ _ (omega arith) refl (omega arith) c.put_bytes.ensures c.fill.ensures
