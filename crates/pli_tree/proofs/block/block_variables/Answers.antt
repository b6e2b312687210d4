use Rattle.std.proofs.Common.{◌≡◌, ◌+◌, ◌∙◌, ◌∷◌, map, drop, ap, arith}
use Rattle.pli_typing.specs.Resolving.{head_demanded}
use Rattle.pli_language.specs.Refusals.{soonest}
use Rattle.pli_typing.specs.TypedStatementView.{declared_variable_of}
use Rattle.pli_declare.proofs.Chains.{drop_here}
use Rattle.pli_declare.specs.ShownBlocks.{block_of}
use Rattle.pli_variables.specs.Rows.{blocks_shown}
use Rattle.pli_tree.proofs.Blocks.{found_on, value_on}
use Rattle.pli_tree.proofs.block.block_variables.Goals as goal

pub loop-block-preserved : goal.loop-block-preserved
loop-block-preserved c =
    let l = c.loop-block in
    let all = c.args.tables.now.scopes.now.blocks.items in
    let blocks = blocks_shown c.args.tables.now.scopes.now in
    let x = c.index.result.now in
    let here = ap (map block_of) (drop_here all l.block x (omega (arith, c.loop-block-test.true, c.len-block-end.ensures)) c.index.ensures) in
    record {
      faults = found_on blocks l.block l.found c.head_demanded.result c.declared_variables.new.found (block_of x) (map block_of (drop (l.block + 1) all)) (map block_of (drop l.block all)) here c.head_demanded.ensures c.in_ok-variables.ensures.faults ∙ l.invariant.faults;
      value = value_on (λ v. map declared_variable_of v.items) blocks l.block l.out.items c.push.new.self.items c.in_ok-variables.variables (block_of x) (map block_of (drop (l.block + 1) all)) (map block_of (drop l.block all)) here c.in_ok-push.ensures.items c.in_ok-variables.ensures.value ∙ l.invariant.value;
    }
