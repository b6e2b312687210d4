use Rattle.std.proofs.Common.{sym, ◌∙◌}
use Rattle.pli_lex.proofs.Comments.{blank_at}
use Rattle.pli_lex.proofs.piece.next_piece.Goals as goal

pub returns-then-is_blank : goal.returns-then-is_blank
returns-then-is_blank c = blank_at c.args.bytes.now c.requires (sym c.is_blank.ensures ∙ c.if-is_blank.true)
