use Rattle.std.proofs.lemmas.Result.{on_ok_weaker}
use Rattle.pli_typing.specs.TypedView.{reference_of}
use Rattle.pli_frames.specs.TakenView.{taken_of}
use Rattle.rv_address.specs.Around.{environment_of}
use Rattle.rv_item.specs.Elements.{elements_shown}
use Rattle.rv_item.specs.Lists.{formats_in}
use Rattle.rv_stream.proofs.Storing.{element_is_got}
use Rattle.rv_stream.proofs.get.element_got.Goals as goal

pub returns : goal.returns
returns c =
    on_ok_weaker c.element_moved.result
    (element_is_got (environment_of c.args.environment.now) (elements_shown c.args.elements) (taken_of c.in_ok-free.free) (formats_in c.args.fields.now) (reference_of c.args.reference.now)
    c.args.code.now c.element_field_taken.new.code c.element_found.new.code c.element_moved.new.code
    c.in_ok-free.ensures c.in_ok-element_field_taken.ensures c.in_ok-element_found.ensures)
    c.element_moved.ensures
