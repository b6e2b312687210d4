use Rattle.std.proofs.Common.{◌≡◌, ◌∙◌, List, Option, None, Some, ap, arith, length, option_map, subst, sym, ℕ}
use Rattle.std.specs.Prelude.{Vec}
use Rattle.std.specs.declared.alloc.Global.{Global}
use Rattle.pli_serving.specs.Aggregates.{subscripts_given}
use Rattle.pli_serving.specs.Templates.{shape_at}
use Rattle.pli_shapes.specs.declared.part.Part.{Part}
use Rattle.pli_shapes.proofs.Nests.{nest_of_parts}
use Rattle.pli_order.specs.Orders.{IsOrder}
use Rattle.pli_order.proofs.Finding.{leaves_of_parts}
use Rattle.pli_signatures.specs.declared.element.LeafInForce.{LeafInForce}
use Rattle.pli_aggregates.specs.Records.{record_shown}
use Rattle.pli_elements.specs.Items.{IsLeavesIf}
use Rattle.pli_elements.proofs.Kept.{is_item, no_leaves, not_given}
use Rattle.pli_elements.proofs.item.item_of.Goals as goal

pub returns-in_default : goal.returns-in_default
returns-in_default c = λ c' s e.
    let i = c.args.shape.now in
    let none : None ≡ subscripts_given (record_shown c.args.aggregate s) i.first i.given = ap (option_map (λ given. given.items)) (sym c.in_default.is) ∙ c.in_ok-given.ensures s e in
    not_given c' (record_shown c.args.aggregate s) i.given i.first i.parts.items none

pub returns-in_default-2 : goal.returns-in_default-2
returns-in_default-2 c = λ c' s e.
    let a = c.args.aggregate in
    let i = c.args.shape.now in
    let o = c.in_ok-order.order in
    let n = c.len.result in
    let order : IsOrder i.parts.items n o = subst (λ (ps : List Part). IsOrder ps n o) c.as_slice.ensures.value c.in_ok-order.ensures in
    let missing = subst (λ (v : Option (Vec LeafInForce Global)). IsLeavesIf (shape_at c.args.held.now.signatures a.signature) a.extent i.first o.leaves v) c.in_default-2.is c.in_ok-leaves.ensures in
    no_leaves c' (record_shown a s) i.given i.first o.leaves i.parts.items (shape_at c.args.held.now.signatures a.signature) (nest_of_parts i.parts.items) e (leaves_of_parts i.parts.items n o order) missing

pub returns : goal.returns
returns c = λ c' s e.
    let a = c.args.aggregate in
    let i = c.args.shape.now in
    let o = c.in_ok-order.order in
    let given = c.in-Some.given.items in
    let many : c.len.result ≡ length given = omega (arith, c.len.ensures) in
    let order : IsOrder i.parts.items (length given) o = subst (λ (n : ℕ). IsOrder i.parts.items n o) many (subst (λ (ps : List Part). IsOrder ps c.len.result o) c.as_slice.ensures.value c.in_ok-order.ensures) in
    let leaves = subst (λ (v : Option (Vec LeafInForce Global)). IsLeavesIf (shape_at c.args.held.now.signatures a.signature) a.extent i.first o.leaves v) c.in-Some-2.is c.in_ok-leaves.ensures in
    let asked : Some given ≡ subscripts_given (record_shown a s) i.first i.given = ap (option_map (λ given. given.items)) (sym c.in-Some.is) ∙ c.in_ok-given.ensures s e in
    is_item c' (record_shown a s) i.given i.parts.items _ (shape_at c.args.held.now.signatures a.signature) (nest_of_parts i.parts.items) e (omega (arith, leaves.2, leaves.0)) leaves.2 leaves.1 asked order
