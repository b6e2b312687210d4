use Rattle.std.proofs.Common.{ap}
use Rattle.pli_typing.specs.Signatures.{Leaf}
use Rattle.pli_serving.specs.Templates.{shape_at}
use Rattle.pli_signatures.specs.View.{kind_of}
use Rattle.pli_storage.specs.Held.{with_held}
use Rattle.pli_aggregates.specs.Records.{record_shown}
use Rattle.pli_elements.proofs.Placing.{leaf_known}
use Rattle.pli_elements.proofs.Replying.{refused, written_so}
use Rattle.pli_elements.proofs.element.written.Goals as goal

pub returns-in-Ok : goal.returns-in-Ok
returns-in-Ok g c = λ c' s e.
    let C = with_held g.K.AreaKeeper.keeper c.args.held.now c.args.memory.now c' in
    let a = c.args.aggregate in
    let k = ap (λ (l : Leaf). l.kind) (leaf_known s a.extent c.args.leaf (shape_at c.args.held.now.signatures a.signature) c.args.in_force.now e c.requires.known) in
    written_so C c.args.register c.args.buffer c.args.leaf (record_shown a s) c.args.subscripts.now (kind_of c.args.in_force.now.kind) c.in-Ok.outcome c.kind_words.result c.put_words.new.memory c.requires.there k c.kind_words.ensures c.put_words.ensures (c.in-Ok.ensures c' s e)

pub returns-in-Err : goal.returns-in-Err
returns-in-Err g c = λ c' s e.
    let C = with_held g.K.AreaKeeper.keeper c.args.held.now c.args.memory.now c' in
    refused C c.args.register c.args.buffer c.args.leaf (record_shown c.args.aggregate s) c.args.subscripts.now c.in-Err.refusal c.requires.there (c.in-Err.ensures c' s e)
