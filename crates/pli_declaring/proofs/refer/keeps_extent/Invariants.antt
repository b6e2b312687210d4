use Rattle.std.proofs.Common.{◌≡◌, drop, map}
use Rattle.pli_declare.specs.Shown.{declaration_of, held_of}
use Rattle.pli_declaring.specs.declared.refer.Kept.TheVariants as K
use Rattle.pli_declaring.specs.Members.{answer, variables_in}
use Rattle.pli_declaring.proofs.refer.keeps_extent.Given as goal

abbrev pub invariant-loop-i : goal.invariant-loop-i
invariant-loop-i l = answer l.kept l.refer.member.letters.items (variables_in (map declaration_of (drop l.i l.earlier))) (held_of l.held) ≡ answer K.Nothing l.refer.member.letters.items (variables_in (map declaration_of l.earlier)) (held_of l.held)
