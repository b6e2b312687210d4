use Rattle.std.proofs.Common.{◌≡◌, ◌+◌, ◌^◌, ◌<◌, length}
use Rattle.pli_meaning.specs.InputLines.{behind_lines}
use Rattle.pli_edit.proofs.input.Input.skip.Given as goal

abbrev pub invariant-loop-left : goal.invariant-loop-left
invariant-loop-left l = record {
  reached : behind_lines l.left (record { marks = l.self-inside.marks; column = l.self-inside.column }) ≡ behind_lines l.fn.count l.fn.self;
  room : l.self-inside.column + length l.self-inside.marks < 2 ^ 64;
}

abbrev pub decreases-loop-left : goal.decreases-loop-left
decreases-loop-left l = l.left
