use Rattle.std.proofs.Common.{◌≡◌, map, drop}
use Rattle.pli_typing.specs.Signatures.{capped}
use Rattle.pli_types.specs.View.{pair_of}
use Rattle.pli_meaning.specs.Contents.{element_place}
use Rattle.pli_signatures.proofs.Capping.{left_over}
use Rattle.pli_signatures.proofs.element.place_of.Given as goal

abbrev pub invariant-loop-dimension : goal.invariant-loop-dimension
invariant-loop-dimension l = record {
  fits : l.place ≡ capped l.place;
  sum : left_over l.place (drop l.dimension l.dimensions) (drop l.dimension l.subscripts) ≡ capped (element_place (map pair_of l.dimensions) l.subscripts);
}
