use Rattle.std.proofs.Common.{◌≡◌, drop}
use Rattle.pli_language.specs.Keywords.{in_upper_case, same_bytes}
use Rattle.pli_lex.proofs.word.spells.Given as goal

abbrev pub invariant-loop-i : goal.invariant-loop-i
invariant-loop-i l = same_bytes (in_upper_case (drop l.i l.name)) (drop l.i l.word) ≡ same_bytes (in_upper_case l.name) l.word
