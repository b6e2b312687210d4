use Rattle.std.proofs.Common.{◌≡◌, ◌++◌, drop}
use Rattle.rv_meaning.specs.Memory.{bytes_of_words}
use Rattle.rv_data.specs.Places.{words_of}
use Rattle.rv_data.proofs.places.put_places.Given as goal

abbrev pub invariant-loop-place : goal.invariant-loop-place
invariant-loop-place l = l.bytes.items ++ bytes_of_words (words_of (drop l.place-index l.places)) ≡ l.initial.bytes.items ++ bytes_of_words (words_of l.places)
