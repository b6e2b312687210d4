use Rattle.pli_storage.proofs.Serials.{rise_left}
use Rattle.pli_storage.proofs.variables.Variables.leave_above.Goals as goal

pub invariant_of-self : goal.invariant_of-self
invariant_of-self c = rise_left _ _ _ c.leave_above.ensures c.self.invariant
