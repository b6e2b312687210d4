use Rattle.std.proofs.Common.{◌≡◌, ◌+◌, ◌-◌, ◌∷◌, ◌++◌, ap, sym, ◌∙◌, length, take, drop, replicate, arith}
use Rattle.pli_meaning.specs.Texts.{fitted}
use Rattle.pli_text.proofs.Cuts.{length-pieces, top-seen, changed-seen, start-within}
use Rattle.pli_text.proofs.Fitting.{front-kept, end-fitted}
use Rattle.pli_text.proofs.stack.TextStack.fit.Goals as goal

pub returns : goal.returns
returns c =
    let ss = c.self.inside.starts.items in
    let bytes = c.self.inside.bytes.items in
    let x = c.index-start.result.now in
    let n = c.args.count in
    let count = length-pieces ss bytes in
    let newest : (c.len.result - 1) + 1 ≡ length ss = omega (arith, c.requires, ap length c.self.view_is) in
    let top = top-seen ss bytes c.args.self.now c.self.view_is c.self.invariant.0 _ _ newest c.index-start.ensures in
    let within = start-within ss bytes c.args.self.now c.self.view_is c.self.invariant.0 _ _ newest c.index-start.ensures in
    let padded : c.resize.new.self.items ≡ take (x + n) bytes ++ replicate (x + n - length bytes) 32 = c.in_ok-resize.ensures.items ∙ ap (λ k. take (x + n) bytes ++ replicate (x + n - k) 32) (omega arith) in
    let front : take x c.resize.new.self.items ≡ take x bytes = ap (take x) padded ∙ front-kept x n bytes _ within in
    let end : drop x c.resize.new.self.items ≡ fitted n (drop x bytes) = ap (drop x) padded ∙ end-fitted x n bytes within in
    changed-seen ss bytes c.args.self.now c.self.view_is c.self.invariant.0 _ _ newest c.index-start.ensures c.resize.new.self.items front
    ∙ ap (λ t. t ∷ drop 1 c.args.self.now) (end ∙ ap (fitted n) (sym top))
