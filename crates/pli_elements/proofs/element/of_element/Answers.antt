use Rattle.std.proofs.Common.{◌∙◌, ap, option_map, sym}
use Rattle.pli_signatures.specs.View.{leaf_in_force}
use Rattle.pli_elements.proofs.element.of_element.Goals as goal

pub described-requires-clause-known : goal.described-requires-clause-known
described-requires-clause-known g c = ap (option_map leaf_in_force) (sym c.in-Some.is) ∙ c.in_ok-found.ensures
