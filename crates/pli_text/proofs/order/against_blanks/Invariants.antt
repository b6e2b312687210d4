use Rattle.std.proofs.Common.{◌≡◌, [], drop}
use Rattle.pli_meaning.specs.Texts.{text_order}
use Rattle.pli_text.proofs.order.against_blanks.Given as goal

abbrev pub invariant-loop-byte : goal.invariant-loop-byte
invariant-loop-byte l = text_order l.text [] ≡ text_order (drop l.byte-index l.text) []
