use Rattle.pli_frames.specs.TakenView.{taken_of}
use Rattle.rv_address.specs.Around.{environment_of}
use Rattle.rv_address.specs.Places.{name_of}
use Rattle.rv_allocation.proofs.Walks.{target_pointer}
use Rattle.rv_allocation.proofs.allocation.name_target.Goals as goal

pub returns-in_ok-name_there-in-Pointer : goal.returns-in_ok-name_there-in-Pointer
returns-in_ok-name_there-in-Pointer c =
    target_pointer (environment_of c.args.environment.now) (taken_of c.args.taken) c.args.target.now _ _
    (name_of c.in_ok-name_there-in-Pointer.field-0)
    c.in-Pointer.is c.in_ok-standing-in-Pointer.ensures c.in_ok-name_there-in-Pointer.ensures
