use Rattle.std.proofs.Common.{◌≡◌, ◌∷◌, ◌+◌, map, drop, ap}
use Rattle.pli_language.specs.View.{declare_item_of}
use Rattle.pli_declare.proofs.Chains.{drop_here}
use Rattle.pli_listing.proofs.Declared.{declared_more}
use Rattle.pli_listing.proofs.mention_declaration.push_declare.Goals as goal

pub loop-item-preserved : goal.loop-item-preserved
loop-item-preserved c =
    let i = c.loop-item.item-index in
    let items = c.args.items.now in
    let rest :
    map declare_item_of (drop i items)
    ≡ declare_item_of c.item-item.result ∷ map declare_item_of (drop (i + 1) items) =
    ap (map declare_item_of) (drop_here items i c.item-item.result c.loop-item-test.true c.item-item.is) in
    declared_more _ _ _ _ _ _ (declare_item_of c.item-item.result) _ _ rest c.loop-item.invariant
    c.outermost_up_to-structure.ensures c.in_ok-push_item_declared.ensures
