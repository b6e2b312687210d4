use Rattle.std.proofs.Common.{◌<◌, ◌≤◌, ◌∙◌, ◌*◌, ◌^◌, arith, length, rules, sym}
use Rattle.pli_typing.specs.Signatures.{element_count}
use Rattle.pli_serving.specs.Values.{element_size}
use Rattle.pli_signatures.specs.View.{kind_of}
use Rattle.pli_values.specs.Items.{items_left}
use Rattle.pli_values.proofs.LeafData.{empty_behind, empty_leaf, whole_behind, whole_count, whole_leaf}
use Rattle.pli_values.proofs.generation.put_leaf.Goals as goal

pub returns-then-element_size-eq0-clause-written : goal.returns-then-element_size-eq0-clause-written
returns-then-element_size-eq0-clause-written c =
    λ bounds e. empty_leaf (kind_of c.args.items.kind) bounds (items_left c.args.items) c.args.at c.args.memory.now (sym c.element_size.ensures ∙ c.if-element_size-eq0.true)

pub returns-then-element_size-eq0-clause-behind : goal.returns-then-element_size-eq0-clause-behind
returns-then-element_size-eq0-clause-behind c =
    λ bounds e. empty_behind (kind_of c.args.items.kind) bounds (items_left c.args.items) c.args.at (sym c.element_size.ensures ∙ c.if-element_size-eq0.true)

pub returns-clause-written : goal.returns-clause-written
returns-clause-written c =
    let kind = kind_of c.args.items.kind in
    let bytes = length c.args.memory.now in
    let bound : length c.args.memory.now < 2 ^ 64 = search rules in
    let inside : element_size kind * c.args.count ≤ bytes = omega (arith, c.requires.inside) in
    λ bounds e. whole_leaf kind bounds (items_left c.args.items) c.args.count c.args.at c.args.memory.now _ (whole_count kind c.element_size.result (element_count bounds) c.args.count bytes c.element_size.ensures c.if-element_size-eq0.false inside bound e) c.put_run.ensures.written

pub returns-clause-behind : goal.returns-clause-behind
returns-clause-behind c =
    let kind = kind_of c.args.items.kind in
    let bytes = length c.args.memory.now in
    let bound : length c.args.memory.now < 2 ^ 64 = search rules in
    let inside : element_size kind * c.args.count ≤ bytes = omega (arith, c.requires.inside) in
    λ bounds e. whole_behind kind bounds (items_left c.args.items) c.args.count c.args.at c.put_run.result (whole_count kind c.element_size.result (element_count bounds) c.args.count bytes c.element_size.ensures c.if-element_size-eq0.false inside bound e) c.put_run.ensures.behind
