use Rattle.std.proofs.Common.{map, arith}
use Rattle.std.proofs.lemmas.List.{length-map}
use Rattle.std.specs.Prelude.{Vec}
use Rattle.std.specs.declared.alloc.Global.{Global}
use Rattle.pli_typing.specs.declared.typed.DeclaredVariable.{DeclaredVariable}
use Rattle.pli_typing.specs.TypedStatementView.{declared_variable_of}
use Rattle.rv_address.specs.Around.{environment_of}
use Rattle.rv_start.proofs.Steps.{next_block}
use Rattle.rv_start.proofs.statics.statics_code.Goals as goal

pub loop-block-preserved : goal.loop-block-preserved
loop-block-preserved c =
    let all = c.args.environment.now.known.now.typed.now.variables in
    let many = length-map all.items (λ (b : Vec DeclaredVariable Global). map declared_variable_of b.items) in
    next_block (environment_of c.args.environment.now) c.loop-block.block _ _ _ (omega (arith, many, c.len-block-end.ensures, all.ok.0, c.loop-block-test.true)) c.in_ok-statics_of_block.ensures c.loop-block.invariant
