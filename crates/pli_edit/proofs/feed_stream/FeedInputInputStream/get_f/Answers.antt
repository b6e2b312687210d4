use Rattle.pli_meaning.specs.InputLines.{has_character}
use Rattle.pli_edit.specs.Fields.{TakesNumber}
use Rattle.pli_edit.specs.Streams.{wants_field}
use Rattle.pli_edit.proofs.StreamCalls.{tells_follows}
use Rattle.pli_edit.proofs.feed_stream.FeedInputInputStream.get_f.Goals as goal

pub returns-clause-follows : goal.returns-clause-follows
returns-clause-follows g c =
    tells_follows (wants_field c.args.width)
    (λ i j. TakesNumber c.args.width i (has_character i.marks) c.get_f.result j) c.get_f.result c.args.self.now
    c.get_f.new.self c.get_f.ensures
