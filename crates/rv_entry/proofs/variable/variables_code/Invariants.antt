use Rattle.std.proofs.Common.{◌≡◌, ◌++◌, drop}
use Rattle.pli_meaning.specs.DeclaredShapes.{variables_of_block}
use Rattle.pli_coding.specs.Entries.{variables_made}
use Rattle.rv_address.specs.Around.{environment_of}
use Rattle.rv_entry.proofs.variable.variables_code.Given as goal

abbrev pub invariant-loop-index : goal.invariant-loop-index
invariant-loop-index l =
    let e = environment_of l.environment in
    l.code ++ variables_made e l.line l.index (drop l.index (variables_of_block e.program e.block)) ≡ l.fn.code ++ variables_made e l.line 0 (variables_of_block e.program e.block)
