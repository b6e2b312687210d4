use Rattle.std.proofs.Common.{◌++◌, ◌∙◌, ap, None}
use Rattle.pli_coding.specs.Statements.{passed_by}
use Rattle.pli_frames.specs.TakenView.{taken_of}
use Rattle.rv_statement.specs.Pieces.{flag_tested, limit_compared}
use Rattle.rv_statement.proofs.Counted.{limit_is}
use Rattle.rv_statement.proofs.Placing.{comes_along, comes_behind, written_behind}
use Rattle.rv_statement.proofs.tested.passed_by_word.Goals as goal

pub returns-clause-written : goal.returns-clause-written
returns-clause-written c =
    let old = c.args.code.now in
    let t = taken_of c.args.taken in
    written_behind old c.limit_compared.new.code c.flag_tested.new.code (limit_compared t) (flag_tested 0)
    c.in_ok-limit_compared.ensures c.in_ok-flag_tested.ensures.written
    ∙ ap (λ u. old ++ u) (limit_is t 0)

pub returns-clause-place : goal.returns-clause-place
returns-clause-place c =
    let old = c.args.code.now in
    let t = taken_of c.args.taken in
    comes_along c.flag_tested.new.code c.in_ok-flag_tested.field-0
    (λ n. old ++ (limit_compared t ++ flag_tested n)) (λ n. old ++ passed_by t None n)
    (λ n. ap (λ u. old ++ u) (limit_is t n))
    (comes_behind old c.limit_compared.new.code c.flag_tested.new.code (limit_compared t) c.in_ok-flag_tested.field-0
    (λ n. flag_tested n) c.in_ok-limit_compared.ensures c.in_ok-flag_tested.ensures.place)
