use Rattle.std.proofs.Common.{◌≡◌, ◌+◌, ◌-◌, ◌∷◌, ap, sym, ◌∙◌, length, take, drop, arith}
use Rattle.std.proofs.lemmas.List.{drop-take}
use Rattle.pli_text.proofs.Cuts.{length-pieces, top-seen, changed-seen}
use Rattle.pli_text.proofs.Fitting.{front-shortened}
use Rattle.pli_text.proofs.stack.TextStack.shorten.Goals as goal

pub returns : goal.returns
returns c =
    let ss = c.self.inside.starts.items in
    let bytes = c.self.inside.bytes.items in
    let x = c.index-start.result.now in
    let most = c.args.most in
    let count = length-pieces ss bytes in
    let newest : (c.len.result - 1) + 1 ≡ length ss = omega (arith, c.requires, ap length c.self.view_is) in
    let top = top-seen ss bytes c.args.self.now c.self.view_is c.self.invariant.0 _ _ newest c.index-start.ensures in
    let front : take x c.truncate.new.self.items ≡ take x bytes = ap (take x) c.truncate.ensures.items ∙ front-shortened x most bytes in
    let end : drop x c.truncate.new.self.items ≡ take most (drop x bytes) = ap (drop x) c.truncate.ensures.items ∙ drop-take x most bytes in
    changed-seen ss bytes c.args.self.now c.self.view_is c.self.invariant.0 _ _ newest c.index-start.ensures c.truncate.new.self.items front
    ∙ ap (λ t. t ∷ drop 1 c.args.self.now) (end ∙ ap (take most) (sym top))
