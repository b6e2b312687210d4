use Rattle.std.proofs.Common.{ap, ◌∙◌}
use Rattle.std.specs.Prelude.{unwrap_or}
use Rattle.pli_typing.specs.TypedStatementView.{program_of}
use Rattle.pli_frames.proofs.Framing.{parameters_are}
use Rattle.pli_frames.proofs.plan.parameters_of.Goals as goal

pub returns-in-Some : goal.returns-in-Some
returns-in-Some c =
    ap (λ o. unwrap_or o 0) (c.in-Some.ensures.value ∙ c.requires c.args.number) ∙ parameters_are c.args.number (program_of c.args.typed.now).procedures

pub returns-in-None : goal.returns-in-None
returns-in-None c =
    ap (λ o. unwrap_or o 0) (c.in-None.ensures.value ∙ c.requires c.args.number) ∙ parameters_are c.args.number (program_of c.args.typed.now).procedures
