-- The exit status and the line that a run is told by.
use Rattle.std.specs.Prelude.{ℕ, Bool, true, false, Option, Some, None, Result, Ok, Err}
use Rattle.pli_meaning.specs.declared.outcome.Outcome.{Outcome}
use Rattle.pli_meaning.specs.declared.outcome.End.{End}
use Rattle.pli_meaning.specs.declared.outcome.End.TheVariants as E
use Rattle.pli_language.specs.declared.fault.SourceFault.{SourceFault}
use Rattle.pli_language.specs.declared.fault.SourceKind.{SourceKind}
use Rattle.pli_language.specs.declared.fault.SourceKind.TheVariants as K
use Rattle.rv_meaning.specs.declared.image.ImageFault.{ImageFault}
use Rattle.rv_meaning.specs.declared.image.ImageFault.TheVariants as I
use Rattle.pli_run.specs.declared.run.RunFault.{RunFault}
use Rattle.pli_run.specs.declared.run.RunFault.TheVariants as F
use Rattle.pli_run.specs.declared.report.Line.{Line}
use Rattle.pli_run.specs.declared.report.Line.TheVariants as L

abbrev pub end_status : End → ℕ
end_status E.Finished = 0
end_status E.Stopped = 0
end_status (E.Error code line) = 1
end_status E.Running = 3
end_status (E.Limit limit) = 5

abbrev pub end_line : End → Option Line
end_line E.Finished = None
end_line E.Stopped = None
end_line (E.Error code line) = Some (L.Error code line)
end_line E.Running = Some L.Bound
end_line (E.Limit limit) = Some (L.Limit limit)

-- want of memory is no fault of the source
abbrev pub refusal_status : SourceKind → ℕ
refusal_status K.Memory = 4
refusal_status _ = 2

abbrev pub refusal_line : SourceFault → SourceKind → Line
refusal_line fault K.Memory = L.Memory
refusal_line fault _ = L.Source fault

abbrev pub image_line : ImageFault → Line
image_line I.Memory = L.Memory
image_line fault = L.Image fault

abbrev pub status_of : Result Outcome RunFault → ℕ
status_of (Ok o) = end_status o.end
status_of (Err (F.Source fault)) = refusal_status fault.kind
status_of (Err _) = 4

-- with what is told of an input that can't be read, and of an output that can't be written
abbrev pub line_of : (unread unwritten : Line) → Result Outcome RunFault → Option Line
line_of unread unwritten (Ok o) = end_line o.end
line_of unread unwritten (Err (F.Source fault)) = Some (refusal_line fault fault.kind)
line_of unread unwritten (Err (F.Memory acts output)) = Some L.Memory
line_of unread unwritten (Err F.BadBase) = Some L.Base
line_of unread unwritten (Err (F.Read acts output)) = Some unread
line_of unread unwritten (Err (F.Write acts output)) = Some unwritten
line_of unread unwritten (Err (F.Machine fault acts output)) = Some (L.Machine fault)

-- an error, behind which blocks may be told
abbrev pub is_error_end : End → Bool
is_error_end (E.Error code line) = true
is_error_end E.Finished = false
is_error_end E.Stopped = false
is_error_end E.Running = false
is_error_end (E.Limit limit) = false

abbrev pub is_error : Result Outcome RunFault → Bool
is_error (Ok o) = is_error_end o.end
is_error (Err f) = false
