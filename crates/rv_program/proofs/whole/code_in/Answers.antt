use Rattle.rv_address.specs.Around.{environment_of}
use Rattle.rv_program.proofs.Steps.{whole}
use Rattle.rv_program.proofs.whole.code_in.Goals as goal

pub returns : goal.returns
returns c =
    whole (environment_of c.args.environment.now) c.args.code.now c.start_code.new.code c.raise_code.new.code c.routines_code.new.code c.procedures_code.new.code c.in_ok-start_code.ensures c.in_ok-raise_code.ensures
    c.in_ok-routines_code.ensures (rw c.deref.ensures.value at c.in_ok-procedures_code.ensures)
