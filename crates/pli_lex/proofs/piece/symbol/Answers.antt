use Rattle.std.proofs.Common.{sym}
use Rattle.pli_lex.proofs.Pieces.{single_token, bad_byte_at}
use Rattle.pli_lex.proofs.piece.symbol.Goals as goal

pub returns-in-Some-single : goal.returns-in-Some-single
returns-in-Some-single c = let h = c.in_default.ensures in single_token c.args.bytes.now _ c.requires h (sym c.in-Some-single.ensures)

pub returns-in-None : goal.returns-in-None
returns-in-None c = let h = c.in_default.ensures in bad_byte_at c.args.bytes.now c.requires h (sym c.in-None.ensures)
