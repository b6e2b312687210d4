use Rattle.std.proofs.Common.{◌≡◌, ◌≤◌, drop}
use Rattle.pli_language.specs.Marks.{parentheses_marks}
use Rattle.pli_phrase.specs.View.{marks_of}
use Rattle.pli_parse.proofs.parentheses.parentheses.Given as goal

abbrev pub invariant-loop-token : goal.invariant-loop-token
invariant-loop-token l =
    (l.opened ≤ l.token-index) × (parentheses_marks l.opened (drop l.token-index l.tokens) (marks_of l.marks) ≡ parentheses_marks 0 l.tokens (marks_of l.fn.marks))
