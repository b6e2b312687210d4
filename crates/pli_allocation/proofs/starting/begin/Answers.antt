use Rattle.std.proofs.Common.{rules, SFits, w32}
use Rattle.std.proofs.lemmas.Int.{to_z-of_z}
use Rattle.pli_signatures.specs.Whole.{shape_so_far}
use Rattle.pli_types.specs.View.{template_of}
use Rattle.pli_allocation.proofs.Starts.{begins_so}
use Rattle.pli_allocation.proofs.starting.begin.Goals as goal

pub returns-else-is_some : goal.returns-else-is_some
returns-else-is_some c = λ k c'.
    let fits : SFits w32 c.extent_given-given.result = search (rules, c.extent_given-given.type_inv) in
    begins_so k c.args.held.now c.args.memory.now c' c.args.signature c.args.extent c.args.initial (shape_so_far (template_of c.in-Some.found.now)) c.extent_given-given.result c.new-source.result c.begin_with.result c.in-Some.ensures c.extent_given-given.ensures c.new-source.ensures.layout c.new-source.ensures.memory (simp to_z-of_z at c.begin_with.ensures)
