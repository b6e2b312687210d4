use Rattle.std.proofs.Common.{ap, arith}
use Rattle.pli_declare.proofs.Walks.{blocks}
use Rattle.pli_declare.proofs.Grown.{grown}
use Rattle.pli_declare.proofs.Weights.{items_weight}
use Rattle.pli_declare.specs.ShownBlocks.{block_of}
use Rattle.pli_declare.proofs.blocks.+blocks.Goals as goal

pub put_blocks-loop-rest-preserved : goal.put_blocks-loop-rest-preserved
put_blocks-loop-rest-preserved t c =
    let n = grown block_of c.loop-rest.out.items c.put_item_blocks.new.out.items _ c.in_ok-put_item_blocks.ensures in
    record {
      no_larger = omega (arith, c.loop-rest.invariant.no_larger, ap items_weight c.in-More.is, ap items_weight c.deref-rest.ensures);
      put = grind (arith, blocks, c.loop-rest.invariant.put, c.in_ok-put_item_blocks.ensures, c.in-More.is, c.deref.ensures, c.deref-rest.ensures, n);
    }

pub put_item_blocks-returns-in_ok-put_block-in-Procedure : goal.put_item_blocks-returns-in_ok-put_block-in-Procedure
put_item_blocks-returns-in_ok-put_block-in-Procedure t c =
    let n = grown block_of c.args.out.now.items c.put_block.new.out.items _ c.in_ok-put_block-in-Procedure.ensures in
    grind (arith, blocks, n)

pub put_stmt_blocks-returns-in_ok-put_block-in-Begin : goal.put_stmt_blocks-returns-in_ok-put_block-in-Begin
put_stmt_blocks-returns-in_ok-put_block-in-Begin t c =
    let n = grown block_of c.args.out.now.items c.put_block.new.out.items _ c.in_ok-put_block-in-Begin.ensures in
    grind (arith, blocks, n)

pub put_stmt_blocks-returns-in_ok-put_stmt_blocks-in-IfElse : goal.put_stmt_blocks-returns-in_ok-put_stmt_blocks-in-IfElse
put_stmt_blocks-returns-in_ok-put_stmt_blocks-in-IfElse t c =
    let n = grown block_of c.args.out.now.items c.put_stmt_blocks-in-IfElse.new.out.items _ c.in_ok-put_stmt_blocks-in-IfElse.ensures in
    grind (arith, blocks, n)
