use Rattle.std.proofs.Common.{◌≡◌, ◌<◌, ◌∙◌, ap, arith}
use Rattle.pli_typing.specs.Signatures.{leaf_bytes}
use Rattle.pli_serving.specs.Stored.{kept_bytes}
use Rattle.pli_signatures.specs.View.{kind_of}
use Rattle.pli_values.specs.View.{value_of}
use Rattle.pli_aggregates.specs.Runs.{standing}
use Rattle.pli_aggregates.specs.Storing.{written_at}
use Rattle.pli_aggregates.proofs.Running.{none_stored}
use Rattle.pli_aggregates.proofs.storing.store_all.Goals as goal

pub returns-else-value_bytes-gt0 : goal.returns-else-value_bytes-gt0
returns-else-value_bytes-gt0 c = λ n h.
    let none : leaf_bytes (kind_of c.args.kind) ≡ 0 = omega (arith, c.value_bytes.ensures, c.if-value_bytes-gt0.false) in
    none_stored (kind_of c.args.kind) (value_of c.args.value) (standing c.args.run.at c.args.run.step n) c.args.memory.now none

pub returns-then-value_bytes-gt0 : goal.returns-then-value_bytes-gt0
returns-then-value_bytes-gt0 c = λ n h.
    let some : 0 < leaf_bytes (kind_of c.args.kind) = omega (arith, c.value_bytes.ensures, c.if-value_bytes-gt0.true) in
    c.store_each.ensures
    ∙ ap (λ k. written_at (kept_bytes (kind_of c.args.kind) (value_of c.args.value)) (standing c.args.run.at c.args.run.step k) c.args.memory.now) (h some)
