use Rattle.std.proofs.Common.{◌≡◌, ◌<◌, ◌-◌, ◌∙◌, ap, get_or, length, sym, arith}
use Rattle.pli_typing.specs.Signatures.{Leaf}
use Rattle.pli_allocation.specs.Referring.{first_lower}
use Rattle.pli_allocation.proofs.Members.{last_is, none_last}
use Rattle.pli_allocation.proofs.told.last_lower.Goals as goal

pub returns-then-count-eq0 : goal.returns-then-count-eq0
returns-then-count-eq0 c = none_last c.args.signature.now.leaves.items (omega arith)

pub returns : goal.returns
returns c =
    let leaves = c.args.signature.now.leaves.items in
    let leaf = c.index.result.now in
    let some : 0 < length leaves = omega arith in
    let count : c.len-count.result - 1 ≡ length leaves - 1 = omega arith in
    c.first_lower.ensures ∙ ap (λ (l : Leaf). first_lower l.bounds) (sym (last_is leaves leaf some (c.index.ensures ∙ ap (λ n. get_or leaves n leaf) count)))
