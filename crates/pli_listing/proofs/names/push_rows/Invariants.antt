use Rattle.std.proofs.Common.{◌≡◌, ◌++◌, map, drop}
use Rattle.pli_declare.specs.Shown.{declaration_of}
use Rattle.pli_listing.specs.Names.{declared_rows, row_of}
use Rattle.pli_listing.proofs.names.push_rows.Given as goal

abbrev pub invariant-loop-declaration : goal.invariant-loop-declaration
invariant-loop-declaration l = record {
  whole :
      map row_of l.rows.items
      ++ declared_rows l.uses l.block l.index (map declaration_of (drop l.declaration-index l.declarations))
      ≡ map row_of l.initial.rows.items ++ declared_rows l.uses l.block 0 (map declaration_of l.declarations);
  counted : l.index ≡ l.declaration-index;
}
