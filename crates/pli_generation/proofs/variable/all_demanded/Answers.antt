use Rattle.std.proofs.Common.{◌+◌, ◌∙◌, map, drop, ap}
use Rattle.pli_language.specs.Declaring.{own_attributes}
use Rattle.pli_typing.specs.Generations.{names_demanded}
use Rattle.pli_declare.proofs.Chains.{drop_here}
use Rattle.pli_declare.specs.Shown.{held_of}
use Rattle.pli_operand.specs.Notes.{noted}
use Rattle.pli_operand.specs.Shown.{notes_of}
use Rattle.pli_variables.specs.Rows.{blocks_shown}
use Rattle.pli_generation.proofs.Extents.{noted_here}
use Rattle.pli_generation.proofs.variable.all_demanded.Goals as goal

pub loop-held-preserved : goal.loop-held-preserved
loop-held-preserved c =
    let l = c.loop-held in
    let all = c.args.all.now in
    let x = c.held-item.result in
    let blocks = blocks_shown c.args.tables.now.scopes.now in
    noted_here (λ h. names_demanded blocks c.args.block (own_attributes h)) (notes_of l.notes) (notes_of c.names_demanded.new.notes) (held_of x) (map held_of (drop (l.held-index + 1) all)) (map held_of (drop l.held-index all)) (c.names_demanded.ensures ∙ ap (λ as'. noted (notes_of l.notes) (names_demanded blocks c.args.block as')) c.own_attributes.ensures) (ap (map held_of) (drop_here all l.held-index x c.loop-held-test.true c.held-item.is)) ∙ l.invariant
