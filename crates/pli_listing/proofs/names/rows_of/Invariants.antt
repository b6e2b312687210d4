use Rattle.std.proofs.Common.{◌≡◌, ◌++◌, map, drop}
use Rattle.pli_declare.specs.ShownBlocks.{block_of}
use Rattle.pli_listing.specs.Names.{rows, rows_from, row_of}
use Rattle.pli_listing.proofs.names.rows_of.Given as goal

abbrev pub invariant-loop-block : goal.invariant-loop-block
invariant-loop-block l = record {
  whole :
      map row_of l.rows.items ++ rows_from l.uses l.number (map block_of (drop l.block-index l.blocks))
      ≡ rows l.uses (map block_of l.blocks);
  counted : l.number ≡ l.block-index;
}
