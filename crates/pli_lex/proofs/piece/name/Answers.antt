use Rattle.std.proofs.Common.{sym, subst}
use Rattle.pli_language.specs.declared.token.Kind.TheVariants as K
use Rattle.pli_lex.specs.Pieces.{IsTokenOf}
use Rattle.pli_lex.proofs.Pieces.{name_token, name_over}
use Rattle.pli_lex.proofs.piece.name.Goals as goal

pub returns-then-len-gt-MOST_NAME : goal.returns-then-len-gt-MOST_NAME
returns-then-len-gt-MOST_NAME c = name_over c.args.bytes.now _ c.requires.some c.requires.begins c.name_len-len.ensures c.if-len-gt-MOST_NAME.true

pub returns : goal.returns
returns c =
    let s = c.args.bytes.now in
    subst (λ w. IsTokenOf s (K.Name w) c.name_len-len.result) (sym c.word_of.ensures) (name_token s _ c.requires.some c.requires.begins c.name_len-len.ensures c.if-len-gt-MOST_NAME.false)
