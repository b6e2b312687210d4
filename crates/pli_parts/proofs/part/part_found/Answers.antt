use Rattle.std.proofs.Common.{◌∙◌, sym}
use Rattle.pli_storage.specs.Findings.{found_of}
use Rattle.pli_aggregates.specs.Records.{record_shown}
use Rattle.pli_parts.proofs.Asked.{part_past}
use Rattle.pli_parts.proofs.part.part_found.Goals as goal

pub returns-then-has_leaves : goal.returns-then-has_leaves
returns-then-has_leaves c = λ c' s e n. c.part_behind.ensures c' s e n (sym (c.has_leaves.ensures s e) ∙ c.if-has_leaves.true)

pub returns-else-has_leaves : goal.returns-else-has_leaves
returns-else-has_leaves c = λ c' s e n. part_past c' (record_shown c.args.aggregate s) (found_of c.args.found) c.args.asked.first c.args.asked.leaves c.args.asked.given n (sym (c.has_leaves.ensures s e) ∙ c.if-has_leaves.false)
