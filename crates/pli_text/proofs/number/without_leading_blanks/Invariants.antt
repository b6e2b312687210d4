use Rattle.std.proofs.Common.{◌≡◌, ◌≤◌, ◌-◌, length, drop}
use Rattle.pli_meaning.specs.Texts.{without_leading_blanks}
use Rattle.pli_text.proofs.number.without_leading_blanks.Given as goal

abbrev pub invariant-loop-blanks : goal.invariant-loop-blanks
invariant-loop-blanks l = record {
  within : l.blanks ≤ length l.text;
  same : without_leading_blanks l.text ≡ without_leading_blanks (drop l.blanks l.text);
}

abbrev pub decreases-loop-blanks : goal.decreases-loop-blanks
decreases-loop-blanks l = length l.text - l.blanks
