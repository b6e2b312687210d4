use Rattle.std.proofs.Common.{sym, subst}
use Rattle.std.proofs.lemmas.Result.{err_from_is_err_and}
use Rattle.pli_language.specs.Tokens.{Tokens}
use Rattle.pli_compile.proofs.Compiled.{tree_refused}
use Rattle.pli_compile.proofs.parsed.parse_source.Goals as goal

pub returns-in_err-tree : goal.returns-in_err-tree
returns-in_err-tree c =
    let p = err_from_is_err_and c.from_residual-in_err-tree.result c.from_residual-in_err-tree.ensures.1 in
    let tokens : Tokens c.args.source.now c.deref.result.now = subst (λ u. Tokens c.args.source.now u) (sym c.deref.ensures.value) c.in_ok-tokens.ensures.read in
    rw (p.1, p.2) (tree_refused tokens c.in_err-tree.ensures.refused)
