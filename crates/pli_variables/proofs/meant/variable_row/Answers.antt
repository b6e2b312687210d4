use Rattle.std.proofs.Common.{◌≡◌, map, subst, sym, List, Option, IfOk, refl, arith}
use Rattle.pli_typing.specs.TypedTree as Y
use Rattle.pli_declare.specs.ShownBlocks.{block_of}
use Rattle.pli_declare.proofs.Choices.{got, got_none}
use Rattle.pli_variables.specs.Rows.{row_shown}
use Rattle.pli_variables.proofs.Tabled.{row_here, row_past}
use Rattle.pli_variables.proofs.meant.variable_row.Goals as goal

pub returns-in-Some : goal.returns-in-Some
returns-in-Some c =
    let blocks = c.args.blocks.now in
    let n = c.args.number in
    let block = c.in-Some.block.now in
    subst (λ (u : List (Option Y.Variable)). IfOk c.row_of_block.result (λ v. row_shown v.items ≡ u)) (row_here (map block_of blocks) n (block_of block) (sym (got block_of blocks blocks n block refl c.in-Some.ensures.lookup.3.0 c.in-Some.ensures.lookup.1))) c.row_of_block.ensures

pub returns-in-None : goal.returns-in-None
returns-in-None c =
    let blocks = c.args.blocks.now in
    let n = c.args.number in
    grind (arith, c.new.ensures, row_past (map block_of blocks) n (sym (got_none block_of blocks blocks n refl c.in-None.ensures.lookup.3)))
