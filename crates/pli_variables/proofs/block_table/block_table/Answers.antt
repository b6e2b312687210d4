use Rattle.std.proofs.Common.{◌≡◌, Option, ℕ, List, [], map, subst, IfOk, ◌∙◌, ap}
use Rattle.pli_declare.specs.ShownBlocks.{block_of}
use Rattle.pli_declare.proofs.Choices.{got, got_none}
use Rattle.pli_variables.specs.BlockTables.{BlockTable, table_of}
use Rattle.pli_variables.specs.ShownShapes.{shapes_shown}
use Rattle.pli_variables.proofs.Shaped.{table_here, table_past, with_shapes}
use Rattle.pli_variables.proofs.block_table.block_table.Goals as goal

pub returns-in-Some : goal.returns-in-Some
returns-in-Some c =
    let held = c.args.meant.now.scopes.now.blocks.items in
    let block = c.in-Some.block.now in
    subst (λ (u : BlockTable). IfOk c.table_of_block.result (λ t. table_of t ≡ u)) (table_here (map block_of held) c.args.number (block_of block) (got block_of c.deref.result.now held c.args.number block c.deref.ensures.value c.in-Some.ensures.lookup.3.0 c.in-Some.ensures.lookup.1)) c.table_of_block.ensures

pub returns-in-None : goal.returns-in-None
returns-in-None c =
    let held = c.args.meant.now.scopes.now.blocks.items in
    ap (λ u. with_shapes c.new-in-None-3.result.items c.new-in-None-2.result.items (shapes_shown u) (shapes_shown c.new-in-None.result.items)) c.new.ensures.items
    ∙ ap (λ u. with_shapes c.new-in-None-3.result.items c.new-in-None-2.result.items [] (shapes_shown u)) c.new-in-None.ensures.items
    ∙ ap (λ (u : List ℕ). with_shapes c.new-in-None-3.result.items u [] []) c.new-in-None-2.ensures.items
    ∙ ap (λ (u : List (Option ℕ)). with_shapes u [] [] []) c.new-in-None-3.ensures.items
    ∙ table_past (map block_of held) c.args.number (got_none block_of c.deref.result.now held c.args.number c.deref.ensures.value c.in-None.ensures.lookup.3)
