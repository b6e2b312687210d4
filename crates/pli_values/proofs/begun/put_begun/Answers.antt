use Rattle.std.proofs.Common.{◌≡◌, ◌∙◌, ◌+◌, ◌&&◌, ◌==◌, ap, arith, false, length, sym}
use Rattle.pli_serving.specs.Bytes.{with_bytes}
use Rattle.pli_signatures.specs.View.{kind_of}
use Rattle.pli_values.specs.Beginnings.{is_same, leaf_of}
use Rattle.pli_values.specs.Items.{items_left}
use Rattle.pli_values.proofs.Beginnings.{fresh_within, fresh_written}
use Rattle.pli_values.proofs.begun.put_begun.Goals as goal

pub returns-clause-written : goal.returns-clause-written
returns-clause-written c =
    let b = c.args.begun.now in
    let k = c.args.leaf in
    let plain : (is_same k b.member && length (leaf_of b k).bounds == 0) ≡ false = sym c.keeps_extent.ensures ∙ c.if-keeps_extent.false in
    c.put_leaf.ensures.written (leaf_of b k).bounds (sym c.count.ensures)
    ∙ ap (λ xs. with_bytes xs c.args.at c.args.memory.now) (fresh_written b k (kind_of c.items.result.kind) (items_left c.items.result) c.requires.there c.requires.right c.items.ensures.kind plain c.items.ensures.values)

pub returns-clause-behind : goal.returns-clause-behind
returns-clause-behind c =
    let b = c.args.begun.now in
    let k = c.args.leaf in
    let plain : (is_same k b.member && length (leaf_of b k).bounds == 0) ≡ false = sym c.keeps_extent.ensures ∙ c.if-keeps_extent.false in
    c.put_leaf.ensures.behind (leaf_of b k).bounds (sym c.count.ensures)
    ∙ ap (λ xs. c.args.at + length xs) (fresh_written b k (kind_of c.items.result.kind) (items_left c.items.result) c.requires.there c.requires.right c.items.ensures.kind plain c.items.ensures.values)

pub returns-clause-within : goal.returns-clause-within
returns-clause-within c =
    let l = leaf_of c.args.begun.now c.args.leaf in
    let behind = c.put_leaf.ensures.behind l.bounds (sym c.count.ensures) in
    let within = fresh_within (kind_of c.items.result.kind) l (items_left c.items.result) c.items.ensures.kind in
    omega (arith, behind, within)
