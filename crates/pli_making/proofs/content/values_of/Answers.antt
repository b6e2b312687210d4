use Rattle.std.proofs.Common.{◌∙◌, ap, sym}
use Rattle.pli_typing.specs.Signatures.{leaves_size}
use Rattle.pli_serving.specs.Values.{generation_bytes}
use Rattle.pli_storage.specs.Held.{with_held}
use Rattle.pli_values.specs.Beginnings.{shape_of}
use Rattle.pli_values.specs.View.{layout_of}
use Rattle.pli_making.specs.Making.{entered_with, fresh_of}
use Rattle.pli_making.proofs.Fittings.{misplaced, name_inside, well_placed}
use Rattle.pli_making.proofs.content.values_of.Goals as goal

pub returns-then-not-are_data_up_to-clause-answer : goal.returns-then-not-are_data_up_to-clause-answer
returns-then-not-are_data_up_to-clause-answer c = λ k m c' owner.
    let b = c.args.begun.now in
    let size = leaves_size (shape_of b).signature.leaves in
    misplaced (with_held k c.args.held.now m c') c.args.wanted owner size (generation_bytes (fresh_of b)) (sym c.if-not-are_data_up_to.true ∙ c.are_data_up_to.ensures size c.size_of.ensures)

pub returns-clause-answer : goal.returns-clause-answer
returns-clause-answer c = λ k m c' owner.
    let b = c.args.begun.now in
    let C = with_held k c.args.held.now m c' in
    let size = leaves_size (shape_of b).signature.leaves in
    well_placed C c.args.wanted owner size (generation_bytes (fresh_of b)) (sym c.if-not-are_data_up_to.false ∙ c.are_data_up_to.ensures size c.size_of.ensures)
    ∙ ap (entered_with C c.args.wanted owner) (sym (c.in_ok-fresh.ensures.bytes k m))

pub returns-clause-ready : goal.returns-clause-ready
returns-clause-ready c = λ k.
    let w = c.args.wanted in
    let size = leaves_size (shape_of c.args.begun.now).signature.leaves in
    record {
      content = c.in_ok-fresh.ensures.fits k;
      name = name_inside (layout_of c.args.held.now.layout) w.place size w.name (sym c.if-not-are_data_up_to.false ∙ c.are_data_up_to.ensures size c.size_of.ensures);
    }
