use Rattle.std.proofs.Common.{◌≡◌}
use Rattle.pli_meaning.specs.InputLines.{has_character}
use Rattle.pli_edit.specs.KnownMarks.{wants_characters}
use Rattle.pli_edit.proofs.StreamCalls.{matched_follows}
use Rattle.pli_edit.proofs.feed_stream.FeedInputInputStream.has_character.Goals as goal

pub returns-clause-follows : goal.returns-clause-follows
returns-clause-follows g c =
    matched_follows (wants_characters 1) (λ is_left i j. (j ≡ i) × (has_character i.marks ≡ is_left))
    c.has_character.result c.args.self.now c.has_character.new.self c.has_character.ensures
