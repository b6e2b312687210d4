use Rattle.std.proofs.Common.{rules, tests, refl, ap, ◌∙◌, Bool}
use Rattle.std.specs.Prelude.{not, ◌&&◌, ◌==◌, length}
use Rattle.std.proofs.lemmas.Iterator.{YieldsList-from_slice, YieldsList-from_zip}
use Rattle.std.proofs.lemmas.Iterator.Search.{any_from_yields_List}
use Rattle.pli_typing.specs.Assigning.{leaves_match, same_type}
use Rattle.pli_typing.specs.TypedTree.{Leaf}
use Rattle.pli_typing.specs.TypedView.{leaf_of}
use Rattle.pli_operand.specs.Shown.{leaf_behind}
use Rattle.pli_transfer.proofs.Pairs.{each_pair, unequal}
use Rattle.pli_transfer.proofs.matching.all_match.Goals as goal

abbrev matches : Leaf → Leaf → Bool
matches a b = same_type a.type b.type && (length a.bounds == length b.bounds)

pub returns-then-target-source : goal.returns-then-target-source
returns-then-target-source c =
    ap not (any_from_yields_List (λ p. not (matches (leaf_behind c.args.behind (leaf_of p.0)) (leaf_behind c.args.dropped (leaf_of p.1)))) c.any.new.self _ _ c.any.ensures.ran (YieldsList-from_zip (YieldsList-from_slice c.args.target.now cc) (YieldsList-from_slice c.args.source.now cc)) (λ x b q k. search (rules, tests)))
    ∙ each_pair leaves_match matches refl (λ a b as' bs. refl) (λ l. leaf_behind c.args.behind (leaf_of l)) (λ l. leaf_behind c.args.dropped (leaf_of l)) c.args.target.now c.args.source.now c.if-target-source.true

pub returns-else-target-source : goal.returns-else-target-source
returns-else-target-source c =
    let w = unequal leaves_match matches (λ b bs. refl) (λ a as'. refl) (λ a b as' bs. refl) (λ l. leaf_behind c.args.behind (leaf_of l)) (λ l. leaf_behind c.args.dropped (leaf_of l)) c.args.target.now c.args.source.now c.if-target-source.false in
    let n = c.if-target-source.false in
    search (rules, tests) ∙ w
