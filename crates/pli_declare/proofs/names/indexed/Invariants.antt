use Rattle.std.proofs.Common.{map, take}
use Rattle.pli_declare.specs.Index.{IsIndex}
use Rattle.pli_declare.specs.Shown.{declaration_of}
use Rattle.pli_declare.proofs.names.indexed.Given as goal

abbrev pub invariant-loop-i : goal.invariant-loop-i
invariant-loop-i l = IsIndex l.places (map declaration_of (take l.i l.declaration-items))
