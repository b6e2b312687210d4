use Rattle.std.proofs.Common.{◌≡◌, ◌≤◌, ◌+◌, ◌*◌, drop, length}
use Rattle.rv_meaning.specs.Memory.{bytes_of_words}
use Rattle.pli_serving.specs.Bytes.{with_bytes}
use Rattle.pli_values.proofs.word.put_words.Given as goal

abbrev pub invariant-loop-word : goal.invariant-loop-word
invariant-loop-word l = record {
  inside : l.here + 4 * length (drop l.word-index l.words) ≤ length l.memory;
  written : with_bytes (bytes_of_words (drop l.word-index l.words)) l.here l.memory ≡ with_bytes (bytes_of_words l.words) l.fn.at l.fn.memory;
}
