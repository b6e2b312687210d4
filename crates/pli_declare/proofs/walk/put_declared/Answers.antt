use Rattle.std.proofs.Common.{◌≡◌, ◌++◌, ◌∷◌, [], ◌+◌, List, map, drop, sym, ap, ◌∙◌, append-nil}
use Rattle.std.proofs.lemmas.List.{drop_all}
use Rattle.std.specs.List.{flat_map}
use Rattle.pli_language.specs.View.{declare_item_of}
use Rattle.pli_language.specs.Tree.{DeclareItem}
use Rattle.pli_language.specs.Declarations.{Declaration, variables_of, variable_declared, held}
use Rattle.pli_declare.specs.Shown.{above_of, declaration_of}
use Rattle.pli_declare.proofs.Chains.{drop_here, put_item_names}
use Rattle.pli_declare.proofs.walk.put_declared.Goals as goal

pub loop-item-preserved : goal.loop-item-preserved
loop-item-preserved c =
    let i = c.loop-item.item-index in
    let items = c.args.items.now in
    let rest : map declare_item_of (drop i items) ≡ declare_item_of c.item-item.result ∷ map declare_item_of (drop (i + 1) items) = ap (map declare_item_of) (drop_here items i c.item-item.result c.loop-item-test.true c.item-item.is) in
    put_item_names _ _ _ (above_of c.loop-item.chain) _ (declare_item_of c.item-item.result) _ _ rest c.loop-item.invariant c.in_ok-put_names.ensures.put c.in_ok-put_names.ensures.chain

pub returns : goal.returns
unfolding held
returns c =
    let o : List Declaration = map declaration_of c.loop-item.out.items in
    let left : List DeclareItem → List Declaration = λ u. o ++ map variable_declared (held (above_of c.loop-item.chain) (flat_map variables_of u)) in
    let none : map declare_item_of (drop c.loop-item.item-index c.args.items.now) ≡ [] = ap (map declare_item_of) (drop_all c.loop-item.item-index c.args.items.now c.loop-item-test.false) in
    sym (append-nil o) ∙ ap left (sym none) ∙ c.loop-item.invariant
