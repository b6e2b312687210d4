use Rattle.std.proofs.Common.{ap, ◌∙◌}
use Rattle.pli_transmission.specs.Transmitting.{places_of}
use Rattle.pli_transmission.proofs.Newest.{places_kept}
use Rattle.pli_transmission.proofs.streams.Streams.truncate.Goals as goal

pub returns-clause-edits : goal.returns-clause-edits
returns-clause-edits g c = ap places_of c.truncate.ensures.items ∙ places_kept c.args.height
    c.args.self.now.edits.items c.requires
