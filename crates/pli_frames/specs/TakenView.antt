-- The temporaries in use, as the emitters hold them.
use Rattle.pli_coding.specs.Environments as E
use Rattle.pli_frames.specs.declared.taken.Taken.{Taken}

abbrev pub taken_of : Taken → E.Taken
taken_of t = record { registers = t.registers; words = t.words }
