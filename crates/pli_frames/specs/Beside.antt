-- What is taken beside the most so far.
use Rattle.pli_coding.specs.Environments.{Taken, most_taken}

-- a name of its own for the most of both: whoever walks over the forms sees the name alone
unfoldable pub beside : Taken → Taken → Taken
beside now more = most_taken now more
