use Rattle.std.proofs.Common.{rules, tests, refl, ap, ◌∙◌, Bool}
use Rattle.std.specs.Prelude.{not, ◌&&◌}
use Rattle.std.proofs.lemmas.Iterator.{YieldsList-from_slice, YieldsList-from_zip}
use Rattle.std.proofs.lemmas.Iterator.Search.{any_from_yields_List}
use Rattle.pli_typing.specs.Calls.{bounds_pass, leaves_pass, type_passes}
use Rattle.pli_typing.specs.TypedTree.{Leaf}
use Rattle.pli_typing.specs.TypedView.{leaf_of}
use Rattle.pli_operand.specs.Shown.{leaf_behind}
use Rattle.pli_transfer.proofs.Pairs.{each_pair, unequal}
use Rattle.pli_transfer.proofs.matching.all_pass.Goals as goal

abbrev passes : Leaf → Leaf → Bool
passes a b = type_passes a.type b.type && bounds_pass a.bounds b.bounds

pub returns-then-parameter-argument : goal.returns-then-parameter-argument
returns-then-parameter-argument c =
    ap not (any_from_yields_List (λ p. not (passes (leaf_behind c.args.behind (leaf_of p.0)) (leaf_behind c.args.dropped (leaf_of p.1)))) c.any.new.self _ _ c.any.ensures.ran (YieldsList-from_zip (YieldsList-from_slice c.args.parameter.now cc) (YieldsList-from_slice c.args.argument.now cc)) (λ x b q k. search (rules, tests)))
    ∙ each_pair leaves_pass passes refl (λ a b as' bs. refl) (λ l. leaf_behind c.args.behind (leaf_of l)) (λ l. leaf_behind c.args.dropped (leaf_of l)) c.args.parameter.now c.args.argument.now c.if-parameter-argument.true

pub returns-else-parameter-argument : goal.returns-else-parameter-argument
returns-else-parameter-argument c =
    let w = unequal leaves_pass passes (λ b bs. refl) (λ a as'. refl) (λ a b as' bs. refl) (λ l. leaf_behind c.args.behind (leaf_of l)) (λ l. leaf_behind c.args.dropped (leaf_of l)) c.args.parameter.now c.args.argument.now c.if-parameter-argument.false in
    let n = c.if-parameter-argument.false in
    search (rules, tests) ∙ w
