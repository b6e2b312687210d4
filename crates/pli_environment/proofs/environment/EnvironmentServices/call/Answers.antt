use Rattle.std.proofs.Common.{ap, length, sym, ◌∙◌}
use Rattle.pli_environment.proofs.Told.{none_some, refilled, serves_lent, told_whole}
use Rattle.pli_environment.proofs.environment.EnvironmentServices.call.Goals as goal

pub returns-clause-meaning : goal.returns-clause-meaning
returns-clause-meaning g c =
    serves_lent _ c.args.self.now _ _ _ _ _ _ _ _ c.serve-reply.result _ c.self.view_is
    c.as_mut_slice-memory.ensures.value
    (refilled c.args.storage.now.bytes c.serve-reply.new.memory (c.serve-reply.auto.memory
    ∙ ap length c.as_mut_slice-memory.ensures.value))
    c.serve-reply.ensures.served c.serve-reply.ensures.kept c.serve-reply.ensures.layout
    c.serve-reply.ensures.unread c.serve-reply.ensures.follows c.serve-reply.ensures.grows
    (told_whole _ _ _ _ _ (sym c.stream_fault.ensures ∙ none_some _ c.if-is_some.ensures) c.told.ensures.told)
