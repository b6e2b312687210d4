use Rattle.std.proofs.Common.{◌*◌, refl, ap}
use Rattle.pli_meaning.specs.Contents.{initial_at}
use Rattle.pli_signatures.specs.View.{kind_of}
use Rattle.pli_values.specs.Items.{items_left}
use Rattle.pli_values.proofs.Zeros.{run_filled}
use Rattle.pli_values.proofs.generation.put_run.Goals as goal

pub returns-then-begins_as_zeros-clause-written : goal.returns-then-begins_as_zeros-clause-written
returns-then-begins_as_zeros-clause-written c =
    run_filled (kind_of c.args.items.kind) (initial_at (items_left c.args.items)) c.args.at _ c.args.count c.args.memory.now c.fill.new.memory
    (c.if-have_ended.ensures refl) (c.if-begins_as_zeros.ensures.zeros refl) (ap (λ k. k * c.args.count) c.element_size.ensures) c.fill.ensures
