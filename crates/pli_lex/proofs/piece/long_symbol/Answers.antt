use Rattle.std.proofs.Common.{sym, ◌∙◌}
use Rattle.pli_lex.proofs.Pieces.{power_at, pair_token}
use Rattle.pli_lex.proofs.piece.long_symbol.Goals as goal

pub returns-then-bytes-eq42-2 : goal.returns-then-bytes-eq42-2
returns-then-bytes-eq42-2 c = power_at c.args.bytes.now c.requires c.if-bytes-lt2.false c.if-bytes-eq42.true c.if-bytes-eq42-2.true

pub returns : goal.returns
returns c = pair_token c.args.bytes.now _ c.requires c.if-bytes-lt2.false (sym c.pair.ensures ∙ c.in_ok-symbol.was)
