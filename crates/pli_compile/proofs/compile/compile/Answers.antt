use Rattle.std.proofs.lemmas.Result.{err_from_is_err_and}
use Rattle.pli_compile.proofs.Compiled.{compiled, declarations_refused, types_refused}
use Rattle.pli_compile.proofs.compile.compile.Goals as goal

pub returns-in_err-scopes : goal.returns-in_err-scopes
returns-in_err-scopes c =
    let p = err_from_is_err_and c.from_residual-in_err-scopes.result c.from_residual-in_err-scopes.ensures.1 in
    let q = c.in_ok-parsed.ensures in
    rw (p.1, p.2) (declarations_refused q.read q.spelled c.in_err-scopes.ensures.refused)

pub returns-in_err-coded : goal.returns-in_err-coded
returns-in_err-coded c =
    let p = err_from_is_err_and c.from_residual-in_err-coded.result c.from_residual-in_err-coded.ensures.1 in
    let q = c.in_ok-parsed.ensures in
    rw (p.1, p.2) (types_refused q.read q.spelled c.in_ok-scopes.ensures.accepted c.in_err-coded.ensures)

pub returns : goal.returns
returns c =
    let q = c.in_ok-parsed.ensures in
    compiled
    (record {
      so_far = c.headline_so_far.ensures;
      numbers = c.number_headlines_kept.ensures;
      units = c.unit_number_headlines_kept.ensures;
      first_path = c.first_path_proved.ensures;
      small = c.accepted_small.ensures;
      well_formed = c.accepted_well_formed.ensures;
    })
    q c.in_ok-scopes.ensures.accepted c.in_ok-coded.ensures c.in_ok-image.ensures
