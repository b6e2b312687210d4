use Rattle.pli_lex.proofs.Words.{spells-other_length}
use Rattle.pli_lex.proofs.word.spells.Goals as goal

pub returns-then-name-word : goal.returns-then-name-word
returns-then-name-word c = spells-other_length _ _ c.if-name-word.true
