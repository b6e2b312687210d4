-- Where the routines of raises stand in the code of a program.
use Rattle.std.proofs.Common.{ℕ, ◌+◌, ◌*◌, ◌≡◌, arith}
use Rattle.pli_typing.specs.TypedTree as Y
use Rattle.pli_coding.specs.Images.{linked_code}
use Rattle.code_marks.specs.CodeMarks.{MarkedOnce}
use Rattle.program_places.specs.Programs.{IsLoadable, code_for, links_for}
use Rattle.program_places.proofs.Procedures.{end_place, raise_routines, routines_at}
use Rattle.number_headlines.proofs.Puts.{error_routine}
use Rattle.error_units.specs.Errors.{ErrorRoutines}

pub error_routines :
    MarkedOnce → (program : Y.Program) → IsLoadable program →
    ErrorRoutines (links_for program) (linked_code (code_for program))
error_routines once program h =
    let at = routines_at once program h in
    let end = end_place once program h in
    record {
      routines = raise_routines once program h;
      error = error_routine once program h;
      end = omega (arith, at, end);
    }
