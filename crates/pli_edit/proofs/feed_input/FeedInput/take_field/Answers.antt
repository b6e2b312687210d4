use Rattle.pli_edit.proofs.Begun.{tells_begun}
use Rattle.pli_edit.proofs.feed_input.FeedInput.take_field.Goals as goal

pub returns : goal.returns
returns g c =
    tells_begun c.args.width c.fill.result c.args.self.now c.begin_line.new.self c.fill.new.self c.requires
    c.begin_line.ensures c.fill.ensures
