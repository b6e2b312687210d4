-- What a DO takes, by what it says of its turns.
use Rattle.pli_typing.specs.SingleStatements.{Turns, OneTurn, CountedTurns}
use Rattle.pli_coding.specs.Environments.{Taken, most_taken}
use Rattle.pli_coding.specs.Storing.{assigned_takes}
use Rattle.pli_coding.specs.Statements.{before_turns, in_turns, begun_takes, turn_takes, bit_if_takes}

-- the temporaries in use behind which the body begins
abbrev pub behind_turns : Turns → Taken → Taken
behind_turns (OneTurn variable start condition) t = t
behind_turns (CountedTurns counter start limit step condition) t = in_turns t

abbrev pub turns_take : Taken → Turns → (body : Taken) → Taken
turns_take t (OneTurn variable start condition) body =
    most_taken (assigned_takes t variable start) (most_taken (bit_if_takes t condition) body)
turns_take t (CountedTurns counter start limit step condition) body =
    most_taken (begun_takes (before_turns t) start limit step) (turn_takes (in_turns t) counter condition body)
