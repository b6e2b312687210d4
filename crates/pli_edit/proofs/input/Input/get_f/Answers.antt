use Rattle.pli_edit.proofs.Taking.{number-refused, number-taken, number-there}
use Rattle.pli_edit.proofs.input.Input.get_f.Goals as goal

pub returns-in-Some : goal.returns-in-Some
returns-in-Some c =
    number-there _ _ _ _ c.in-Some.field.now _ c.in-Some.ensures.1 c.in-Some.ensures c.pass_line_field.ensures c.number_told-told.ensures

pub returns-in-Ok : goal.returns-in-Ok
returns-in-Ok c = number-taken _ _ _ _ c.in-Ok.field _ c.in-Ok.ensures (rw c.deref.ensures.value at c.number_told.ensures)

pub returns-in-Err : goal.returns-in-Err
returns-in-Err c = number-refused _ _ _ _ _ c.in-Err.ensures
