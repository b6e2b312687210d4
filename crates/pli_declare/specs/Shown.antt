-- The pure declarations and blocks that a program's values show.
use Rattle.std.specs.Prelude.{List}
use Rattle.pli_declare.specs.declared.above.Above.{Above as AboveHeld}
use Rattle.pli_declare.specs.declared.scope.Held.{Held as HeldHeld}
use Rattle.pli_declare.specs.declared.scope.What.{What as WhatHeld}
use Rattle.pli_declare.specs.declared.scope.What.TheVariants as W
use Rattle.pli_declare.specs.declared.scope.Declaration.{Declaration as DeclarationHeld}
use Rattle.pli_language.specs.View.{name_of, procedure_head_of}
use Rattle.pli_language.specs.Declarations.{Variable, Held, What, Variable', Label, ProcedureName, Declaration}
pub use Rattle.pli_declare.specs.Levels.{variable_of, levels_of, chain_of}

abbrev pub above_of : AboveHeld → List Variable
above_of a = chain_of a.outermost a.levels.value

abbrev pub held_of : HeldHeld → Held
held_of h = record { variable = variable_of h.variable; above = above_of h.above }

abbrev pub what_of : WhatHeld → What
what_of (W.Variable h) = Variable' (held_of h)
what_of W.Label = Label
what_of (W.Procedure head) = ProcedureName (procedure_head_of head.now)

abbrev pub declaration_of : DeclarationHeld → Declaration
declaration_of d = record { name = name_of d.name.now; what = what_of d.what }
