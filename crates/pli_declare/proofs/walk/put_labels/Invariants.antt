use Rattle.std.proofs.Common.{◌≡◌, ◌++◌, map, take}
use Rattle.pli_language.specs.Declarations.{labels_declared}
use Rattle.pli_language.specs.View.{name_of}
use Rattle.pli_declare.specs.Shown.{declaration_of}
use Rattle.pli_declare.proofs.walk.put_labels.Given as goal

abbrev pub invariant-loop-name : goal.invariant-loop-name
invariant-loop-name l = map declaration_of l.out.items ≡ map declaration_of l.initial.out.items ++ labels_declared (map name_of (take l.name-index l.labels))
