use Rattle.std.proofs.Common.{◌≡◌, ◌+◌, drop}
use Rattle.rv_address.specs.Rows.{all_controlled, rows_of}
use Rattle.rv_address.proofs.controlled.all_controlled.Given as goal

abbrev pub invariant-loop-variables : goal.invariant-loop-variables
invariant-loop-variables l = l.number + all_controlled (rows_of (drop l.variables-index l.blocks)) ≡ all_controlled (rows_of l.blocks)
