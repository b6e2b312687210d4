-- A call by its list of arguments.
use Rattle.std.proofs.Common.{◌≡◌, ℕ, ◌++◌, sym, ap, ◌∙◌, append_assoc}
use Rattle.pli_typing.specs.TypedTree as Y
use Rattle.pli_coding.specs.Assembly.{Code}
use Rattle.pli_coding.specs.Environments.{Environment, Taken, with_words}
use Rattle.pli_coding.specs.Expressions.{ArgumentList, arguments_code, call_code, list_at}
use Rattle.rv_operation.specs.Pieces.{arguments_entered}
use Rattle.rv_expr.proofs.Walks.{call-is}

pub call_made : (code given after : Code) (e : Environment) (t behind : Taken) (l : ArgumentList) (procedure level : ℕ) (xs : Y.Arguments) → l ≡ list_at t xs → behind ≡ with_words l.words t → given ≡ code ++ arguments_code e behind l 0 xs → after ≡ given ++ arguments_entered e l procedure level xs → after ≡ code ++ call_code e t (Y.Calling procedure level xs)
call_made code given after e t behind l procedure level xs listed waits g a =
    a ∙ ap (λ u. u ++ arguments_entered e l procedure level xs) g
    ∙ append_assoc code (arguments_code e behind l 0 xs) (arguments_entered e l procedure level xs)
    ∙ ap (λ (s : Taken). code ++ (arguments_code e s l 0 xs ++ arguments_entered e l procedure level xs)) waits
    ∙ ap (λ (m : ArgumentList). code ++ (arguments_code e (with_words m.words t) m 0 xs ++ arguments_entered e m procedure level xs)) listed
    ∙ ap (λ u. code ++ u) (sym (call-is e t procedure level xs))
