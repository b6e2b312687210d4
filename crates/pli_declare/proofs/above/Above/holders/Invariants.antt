use Rattle.std.proofs.Common.{◌≡◌}
use Rattle.pli_language.specs.Declarations.{holders_at}
use Rattle.pli_declare.specs.Levels.{levels_of, variable_of, IsKept}
use Rattle.pli_declare.proofs.above.Above.holders.Given as goal

abbrev pub invariant-loop-structure : goal.invariant-loop-structure
invariant-loop-structure l = record {
  kept : ∥ IsKept (variable_of l.first) l.rest.value ∥₁;
  held : holders_at (levels_of (variable_of l.first) l.rest.value) l.level ≡ holders_at (levels_of (variable_of l.first) l.self.levels.value) l.level;
}
