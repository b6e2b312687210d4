use Rattle.std.proofs.Common.{◌≡◌, ◌≤◌, ◌++◌, length, drop}
use Rattle.pli_meaning.specs.DeclaredShapes.{variables_of_block}
use Rattle.pli_coding.specs.Entries.{copied_parameters, texts_filled}
use Rattle.rv_address.specs.Around.{environment_of}
use Rattle.rv_entry.proofs.text.texts_filled.Given as goal

abbrev pub invariant-loop-left : goal.invariant-loop-left
invariant-loop-left l =
    let e = environment_of l.environment in
    record {
      few : l.left ≤ length l.parameters;
      filled : l.code ≡ l.fn.code ++ texts_filled (copied_parameters (variables_of_block e.program e.block) l.left (drop l.left l.parameters));
    }

abbrev pub decreases-loop-left : goal.decreases-loop-left
decreases-loop-left l = l.left
