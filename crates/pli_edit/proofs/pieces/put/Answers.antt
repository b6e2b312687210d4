use Rattle.pli_edit.proofs.FormatPieces.{put_left, put_weight}
use Rattle.pli_edit.proofs.pieces.put.Goals as goal

pub returns-then-not-is_spent-clause-left : goal.returns-then-not-is_spent-clause-left
returns-then-not-is_spent-clause-left c = λ nodes. put_left nodes _ _ c.args.piece c.push_reserved.ensures.items

pub returns-then-not-is_spent-clause-lighter : goal.returns-then-not-is_spent-clause-lighter
returns-then-not-is_spent-clause-lighter c = λ nodes. put_weight nodes _ _ c.args.piece c.push_reserved.ensures.items
