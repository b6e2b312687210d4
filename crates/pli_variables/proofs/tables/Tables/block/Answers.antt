use Rattle.std.proofs.Common.{map, length, ap, ◌∙◌}
use Rattle.std.proofs.lemmas.Option.{slice_get_past}
use Rattle.pli_variables.specs.BlockTables.{block_table, table_of}
use Rattle.pli_variables.specs.Rows.{blocks_shown}
use Rattle.pli_variables.proofs.Tabled.{row_found, count_found}
use Rattle.pli_variables.proofs.Shaped.{tables_truly, table_past}
use Rattle.pli_variables.proofs.tables.Tables.block.Goals as goal

pub returns-in-Some : goal.returns-in-Some
returns-in-Some c =
    let blocks = blocks_shown c.args.self.now.scopes.now in
    row_found table_of c.deref.result.now (block_table blocks) (length blocks) c.args.block c.in-Some.table.now (ap (map table_of) c.deref.ensures.value ∙ tables_truly _ _ c.args.self.now.exact_blocks) c.in-Some.ensures.lookup.3.0 c.in-Some.ensures.lookup.1

pub returns-in-None : goal.returns-in-None
returns-in-None c =
    let blocks = blocks_shown c.args.self.now.scopes.now in
    table_past blocks c.args.block (slice_get_past blocks c.args.block (count_found table_of c.deref.result.now (block_table blocks) (length blocks) c.args.block (ap (map table_of) c.deref.ensures.value ∙ tables_truly _ _ c.args.self.now.exact_blocks) c.in-None.ensures.lookup.3))
