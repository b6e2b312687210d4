use Rattle.std.proofs.Common.{◌≡◌, ◌+◌, map, drop}
use Rattle.rv_address.specs.Rows.{items_of, place_in}
use Rattle.rv_address.proofs.known.place_in.Given as goal

abbrev pub invariant-loop-one : goal.invariant-loop-one
invariant-loop-one l = record {
  count : l.place ≡ l.one-index;
  sum : l.place + place_in l.words (map items_of (drop l.one-index l.table)) ≡ place_in l.words (map items_of l.table);
}
