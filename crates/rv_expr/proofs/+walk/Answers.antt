use Rattle.std.proofs.lemmas.Result.{on_ok_weaker}
use Rattle.pli_typing.specs.TypedView.{arguments_of}
use Rattle.pli_frames.specs.TakenView.{taken_of}
use Rattle.rv_address.specs.Around.{environment_of}
use Rattle.rv_operation.specs.Asked.{list_of}
use Rattle.rv_expr.proofs.Called.{call_made}
use Rattle.rv_expr.proofs.+walk.Goals as goal

pub expression::call_code-returns : goal.expression::call_code-returns
expression::call_code-returns t c =
    on_ok_weaker c.arguments_entered.result
    (call_made c.args.code.now c.arguments_code.new.code c.arguments_entered.new.code
    (environment_of c.args.environment.now) (taken_of c.args.taken) (taken_of c.in_ok-behind.behind)
    (list_of c.in_ok-list.list) c.args.callee.procedure c.args.callee.level (arguments_of c.args.arguments.now)
    c.in_ok-list.ensures c.in_ok-behind.ensures c.in_ok-arguments_code.ensures)
    c.arguments_entered.ensures
