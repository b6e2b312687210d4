use Rattle.std.proofs.Common.{◌≡◌, ◌+◌, drop}
use Rattle.pli_meaning.specs.Texts.{strange_from, verify_of}
use Rattle.pli_text.proofs.place.verify_of.Given as goal

abbrev pub invariant-loop-before : goal.invariant-loop-before
invariant-loop-before l = verify_of l.text l.allowed ≡ strange_from (l.before + 1) (drop l.before l.text) l.allowed
