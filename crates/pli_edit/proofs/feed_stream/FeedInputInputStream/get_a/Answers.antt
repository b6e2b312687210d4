use Rattle.pli_meaning.specs.InputLines.{has_character}
use Rattle.pli_edit.specs.Fields.{TakesText}
use Rattle.pli_edit.specs.Streams.{wants_field}
use Rattle.pli_edit.proofs.StreamCalls.{tells_follows}
use Rattle.pli_edit.proofs.feed_stream.FeedInputInputStream.get_a.Goals as goal

pub returns-clause-follows : goal.returns-clause-follows
returns-clause-follows g c =
    tells_follows (wants_field c.args.width)
    (λ i j. TakesText c.args.width i (has_character i.marks) c.get_a.result j) c.get_a.result c.args.self.now
    c.get_a.new.self c.get_a.ensures
