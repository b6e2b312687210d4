use Rattle.std.proofs.Common.{ap, map, ◌∙◌}
use Rattle.std.proofs.lemmas.Result.{err_from_is_err_and}
use Rattle.pli_declare.specs.ShownBlocks.{block_of}
use Rattle.pli_compile.proofs.Compiled.{declarations_refused, types_refused}
use Rattle.pli_compile.proofs.Names.{named}
use Rattle.pli_compile.proofs.named.named_code.Goals as goal

pub returns-in_err-scopes : goal.returns-in_err-scopes
returns-in_err-scopes c =
    let p = err_from_is_err_and c.from_residual-in_err-scopes.result c.from_residual-in_err-scopes.ensures.1 in
    let q = c.in_ok-parsed.ensures in
    rw (p.1, p.2) (declarations_refused q.read q.spelled c.in_err-scopes.ensures.refused)

pub returns-in_err-code : goal.returns-in_err-code
returns-in_err-code c =
    let p = err_from_is_err_and c.from_residual-in_err-code.result c.from_residual-in_err-code.ensures.1 in
    let q = c.in_ok-parsed.ensures in
    rw (p.1, p.2) (types_refused q.read q.spelled c.in_ok-scopes.ensures.accepted c.in_err-code.ensures)

pub returns-in-Ok : goal.returns-in-Ok
returns-in-Ok c =
    named c.in_ok-parsed.ensures c.in_ok-scopes.ensures.accepted c.in_ok-code.ensures (ap (map block_of) c.deref.ensures.value ∙ c.in_ok-scopes.ensures.scopes) c.in-Ok.ensures
