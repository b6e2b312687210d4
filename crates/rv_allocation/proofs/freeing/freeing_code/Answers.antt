use Rattle.pli_frames.specs.TakenView.{taken_of}
use Rattle.rv_address.specs.Around.{environment_of}
use Rattle.rv_allocation.proofs.Walks.{freed_based, freed_controlled}
use Rattle.rv_allocation.proofs.freeing.freeing_code.Goals as goal

pub returns-in_ok-located_freed-in-Based : goal.returns-in_ok-located_freed-in-Based
returns-in_ok-located_freed-in-Based c =
    freed_based (environment_of c.args.environment.now) (taken_of c.args.taken) c.args.freeing.now c.in-Based.variable
    _ c.in-Based.area _
    c.args.code.now c.located_freed.new.code c.in-Based.is c.in_ok-standing-in-Based.ensures
    c.in_ok-located_freed-in-Based.ensures

pub returns-in_ok-newest_freed-in-Controlled : goal.returns-in_ok-newest_freed-in-Controlled
returns-in_ok-newest_freed-in-Controlled c =
    freed_controlled (environment_of c.args.environment.now) (taken_of c.args.taken) c.args.freeing.now
    c.in-Controlled.variable
    c.args.code.now c.newest_freed.new.code c.in-Controlled.is c.in_ok-newest_freed-in-Controlled.ensures
