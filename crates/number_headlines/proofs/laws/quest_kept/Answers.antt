use Rattle.number_headlines.specs.QuestRows.{quest_program}
use Rattle.number_headlines.proofs.QuestRows.{quest_ends, quest_fits, quest_program_is}
use Rattle.number_headlines.proofs.laws.quest_kept.Goals as goal

pub returns : goal.returns
returns c =
    record {
      headline = c.number_headlines_kept.ensures quest_program quest_program_is quest_fits;
      ends = quest_ends;
    }
