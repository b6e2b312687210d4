use Rattle.std.proofs.Common.{◌+◌, map, drop, get_or, sym, ap, ◌∙◌}
use Rattle.std.proofs.lemmas.List.{drop_all}
use Rattle.pli_language.specs.Means.{means_from}
use Rattle.pli_declare.specs.Among.{letters_of}
use Rattle.pli_declare.specs.ShownBlocks.{block_of}
use Rattle.pli_language.specs.declared.scope.Found.TheVariants as F
use Rattle.pli_declare.proofs.Choices.{around_found, around_ended, number_here}
use Rattle.pli_declare.proofs.scopes.found_around.Goals as goal

pub returns-in-One : goal.returns-in-One
returns-in-One c =
    let i = c.loop-block.block-index in
    let around = c.args.around.now in
    around_found (map block_of c.args.blocks.now) (get_or around i 0) (drop i around) (drop (i + 1) around) (letters_of c.args.qualifiers.now) c.args.last.now _ (F.One c.in-One.declaration) (number_here around i c.loop-block-test.true) c.loop-block.invariant c.in-One.ensures

pub returns-in-Ambiguous : goal.returns-in-Ambiguous
returns-in-Ambiguous c =
    let i = c.loop-block.block-index in
    let around = c.args.around.now in
    around_found (map block_of c.args.blocks.now) (get_or around i 0) (drop i around) (drop (i + 1) around) (letters_of c.args.qualifiers.now) c.args.last.now _ F.Ambiguous (number_here around i c.loop-block-test.true) c.loop-block.invariant c.in-Ambiguous.ensures

pub loop-block-preserved : goal.loop-block-preserved
loop-block-preserved c =
    let i = c.loop-block.block-index in
    let around = c.args.around.now in
    around_found (map block_of c.args.blocks.now) (get_or around i 0) (drop i around) (drop (i + 1) around) (letters_of c.args.qualifiers.now) c.args.last.now _ F.None (number_here around i c.loop-block-test.true) c.loop-block.invariant c.in-None.ensures

pub returns : goal.returns
returns c = around_ended (map block_of c.args.blocks.now) (letters_of c.args.qualifiers.now) c.args.last.now ∙ ap (λ u. means_from (map block_of c.args.blocks.now) u (letters_of c.args.qualifiers.now) c.args.last.now) (sym (drop_all c.loop-block.block-index c.args.around.now c.loop-block-test.false)) ∙ c.loop-block.invariant
