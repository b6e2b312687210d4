use Rattle.std.proofs.Common.{◌≡◌, length}
use Rattle.pli_phrase.specs.Tokens.{closed_text, text_of}
use Rattle.pli_phrase.proofs.Texts.{text_with}
use Rattle.pli_phrase.proofs.text.text.Given as goal

abbrev pub invariant-loop-byte : goal.invariant-loop-byte
invariant-loop-byte l = text_of l.bytes ≡ text_with l.text.items (closed_text l.rest)

abbrev pub decreases-loop-byte : goal.decreases-loop-byte
decreases-loop-byte l = length l.rest
