use Rattle.pli_lex.proofs.Pieces.{digits_pass, number_token, number_over}
use Rattle.pli_lex.proofs.piece.number.Goals as goal

pub number_value-requires : goal.number_value-requires
number_value-requires c = digits_pass c.args.bytes.now _ c.digits_len-len.ensures

pub returns-in-Some : goal.returns-in-Some
returns-in-Some c = number_token c.args.bytes.now _ _ c.requires.some c.requires.begins c.digits_len-len.ensures c.in-Some.ensures.1 c.in-Some.ensures.0

pub returns-in-None : goal.returns-in-None
returns-in-None c = number_over c.args.bytes.now _ c.requires.some c.requires.begins c.digits_len-len.ensures c.in-None.ensures
