use Rattle.std.proofs.Common.{rules, tests, ap, ◌∙◌, Bool}
use Rattle.std.specs.Prelude.{not}
use Rattle.std.proofs.lemmas.Iterator.{YieldsList-from_slice}
use Rattle.std.proofs.lemmas.Iterator.Search.{any_from_yields_List}
use Rattle.pli_typing.specs.Assigning.{is_read}
use Rattle.pli_typing.specs.TypedTree.{Leaf}
use Rattle.pli_typing.specs.TypedView.{leaf_of}
use Rattle.pli_operand.specs.Shown.{leaf_behind}
use Rattle.pli_declaring.proofs.Shown.{any_mapped}
use Rattle.pli_transfer.proofs.reading.all_read.Goals as goal

pub returns : goal.returns
returns c =
    let test : Leaf → Bool = λ l. not (is_read c.args.has_fixed l.type) in
    ap not (any_from_yields_List (λ x. test (leaf_behind c.args.designated.now.subscripted (leaf_of x))) _ _ _ c.any.ensures.ran (YieldsList-from_slice c.args.designated.now.leaves.now cc) (λ x b q k. search (rules, tests)) ∙ any_mapped test (λ l. leaf_behind c.args.designated.now.subscripted (leaf_of l)) c.args.designated.now.leaves.now)
