use Rattle.pli_storage.proofs.Serials.{rise_entered}
use Rattle.pli_storage.proofs.variables.Variables.enter.Goals as goal

pub invariant_of-self : goal.invariant_of-self
invariant_of-self c = rise_entered _ _ _ _ c.enter_owned.ensures c.self.invariant
