use Rattle.pli_typing.specs.TypedStatementView.{block_head_of}
use Rattle.rv_address.specs.Around.{environment_of}
use Rattle.rv_procedure.proofs.Steps.{begun}
use Rattle.rv_procedure.proofs.procedure.procedure_begun.Goals as goal

pub returns : goal.returns
returns c =
    begun (environment_of c.args.environment.now) (block_head_of c.args.head) c.args.words c.args.held
    c.args.parameters.now _ _ _ _ _ _ _ _ _ c.in_ok-frame_begun.ensures c.in_ok-list_taken.ensures
    c.in_ok-list_kept.ensures c.in_ok-texts_counted.ensures c.in_ok-block_entered.ensures
    c.in_ok-arguments_copied.ensures c.in_ok-variables_code.ensures c.in_ok-act_code.ensures
