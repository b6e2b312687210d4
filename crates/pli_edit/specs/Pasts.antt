-- What the calls of a feed or of a drain came to, where no code keeps it.
use Rattle.std.specs.Prelude.{length}
use Rattle.pli_edit.specs.Histories.{History}
use Rattle.pli_edit.specs.declared.past.Past.{Past}

abbrev pub history_of : Past → History
history_of p = record { failures = length p.failures.numbers; answers = p.answers.numbers; bytes = p.bytes.numbers }
