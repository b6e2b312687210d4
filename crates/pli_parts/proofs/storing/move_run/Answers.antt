use Rattle.std.proofs.Common.{◌+◌, ◌∙◌, ap, arith, sym}
use Rattle.pli_typing.specs.Signatures.{LeafKind}
use Rattle.pli_aggregates.specs.Runs.{standing}
use Rattle.pli_parts.specs.Putting.{elements_put}
use Rattle.pli_parts.proofs.Moving.{all_moved}
use Rattle.pli_parts.proofs.storing.move_run.Goals as goal

pub returns : goal.returns
returns c = λ target source moves.
    let run = c.args.run in
    let bytes = c.args.bytes.now in
    c.put_bytes.ensures
    ∙ all_moved target bytes run.at run.step run.count c.args.memory.now moves.0 moves.2
    (λ i h. omega (arith, c.type_inv.bytes (0 + i))) c.requires.whole c.requires.within
    ∙ ap (λ (k : LeafKind). elements_put target k bytes 0 (standing run.at run.step run.count) c.args.memory.now)
    (sym moves.1)
