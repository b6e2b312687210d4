use Rattle.std.proofs.Common.{◌≡◌, ◌++◌, map, drop}
use Rattle.rv_address.specs.Rows.{items_of}
use Rattle.rv_program.specs.Joined.{joined}
use Rattle.rv_program.proofs.table.joined.Given as goal

abbrev pub invariant-loop-signature : goal.invariant-loop-signature
invariant-loop-signature l = l.words.items ++ joined (map items_of (drop l.signature-index l.table)) ≡ joined (map items_of l.table)
