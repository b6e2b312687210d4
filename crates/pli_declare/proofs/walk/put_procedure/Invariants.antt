use Rattle.std.proofs.Common.{◌≡◌, ◌++◌, map, take}
use Rattle.pli_language.specs.Declarations.{ProcedureName}
use Rattle.pli_language.specs.View.{name_of, procedure_head_of}
use Rattle.pli_declare.specs.Shown.{declaration_of}
use Rattle.pli_declare.proofs.walk.put_procedure.Given as goal

abbrev pub invariant-loop-name : goal.invariant-loop-name
invariant-loop-name l = map declaration_of l.out.items ≡ map declaration_of l.initial.out.items ++ map (λ n. record { name = n; what = ProcedureName (procedure_head_of l.head) }) (map name_of (take l.name-index l.head.labels.items))
