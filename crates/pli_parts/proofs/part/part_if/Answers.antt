use Rattle.std.proofs.Common.{◌∙◌, ap, option_map, sym}
use Rattle.pli_storage.specs.Findings.{found_of}
use Rattle.pli_values.specs.View.{name_of}
use Rattle.pli_aggregates.proofs.Parting.{named_so}
use Rattle.pli_parts.proofs.Asked.{none_named}
use Rattle.pli_parts.proofs.part.part_if.Goals as goal

pub returns-in-Some : goal.returns-in-Some
returns-in-Some c = λ c' s t e h. c.part_found.ensures c' s e (named_so c' (name_of c.args.aggregate.name) c.args.aggregate.signature (found_of c.in-Some.found) (ap (option_map found_of) (sym c.in-Some.is) ∙ h))

pub returns-in-None : goal.returns-in-None
returns-in-None c = λ c' s t e h. none_named c' c.args.held.now.signatures c.args.aggregate s c.args.asked.first c.args.asked.leaves c.args.asked.given t e (ap (option_map found_of) (sym c.in-None.is) ∙ h)
