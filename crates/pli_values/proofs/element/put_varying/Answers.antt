use Rattle.std.proofs.Common.{ℕ, ◌≡◌, ◌∙◌, ◌+◌, ap, arith, refl, take}
use Rattle.pli_meaning.specs.Texts.{fitted}
use Rattle.pli_serving.specs.Bytes.{with_bytes}
use Rattle.pli_values.proofs.Texts.{varying_behind}
use Rattle.pli_values.proofs.element.put_varying.Goals as goal

pub returns : goal.returns
returns c =
    let text = c.args.text.now in
    let kept = c.min-kept.result in
    let most : c.from-2.result ≡ c.args.most = omega arith in
    let behind = c.put_fitted.ensures ∙ ap (λ (k : ℕ). with_bytes (fitted k (take kept text)) (c.args.at + 2) c.put_half.new.memory) most in
    varying_behind c.args.most kept c.args.at text (take kept text) c.args.memory.now _ _ (omega arith) refl (omega arith) c.put_half.ensures behind
