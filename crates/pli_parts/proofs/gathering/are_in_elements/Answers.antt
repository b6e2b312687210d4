use Rattle.std.proofs.Common.{◌∙◌, length, sym}
use Rattle.pli_signatures.specs.View.{kind_of}
use Rattle.pli_aggregates.specs.Runs.{standing}
use Rattle.pli_parts.proofs.Elements.{all_in, lengths_within, short_so}
use Rattle.pli_parts.proofs.gathering.are_in_elements.Goals as goal

pub are_short-requires : goal.are_short-requires
are_short-requires c =
    let run = c.args.run in
    lengths_within (kind_of c.args.kind) c.in-Some.most (length c.args.memory.now)
    (standing run.at run.step run.count) c.in-Some.ensures c.requires

pub returns-in-Some : goal.returns-in-Some
returns-in-Some c =
    let run = c.args.run in
    c.are_short.ensures ∙ short_so (kind_of c.args.kind) c.in-Some.most c.args.memory.now
    (standing run.at run.step run.count) c.in-Some.ensures

pub returns-in-None : goal.returns-in-None
returns-in-None c =
    let run = c.args.run in
    sym (all_in (kind_of c.args.kind) c.args.memory.now (standing run.at run.step run.count) c.in-None.ensures)
