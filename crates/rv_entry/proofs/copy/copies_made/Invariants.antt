use Rattle.std.proofs.Common.{◌≡◌, ◌++◌, drop}
use Rattle.pli_meaning.specs.DeclaredShapes.{variables_of_block}
use Rattle.pli_coding.specs.Entries.{copied_parameters, copies_made}
use Rattle.rv_address.specs.Around.{environment_of}
use Rattle.rv_entry.proofs.copy.copies_made.Given as goal

abbrev pub invariant-loop-n : goal.invariant-loop-n
invariant-loop-n l =
    let e = environment_of l.environment in
    l.code ++ copies_made e (copied_parameters (variables_of_block e.program e.block) l.n (drop l.n l.parameters)) ≡ l.fn.code ++ copies_made e (copied_parameters (variables_of_block e.program e.block) 0 l.parameters)
