use Rattle.std.proofs.Common.{◌-◌, arith}
use Rattle.pli_serving.specs.Stored.{kept_value}
use Rattle.pli_signatures.specs.View.{kind_of}
use Rattle.pli_values.specs.View.{value_of}
use Rattle.pli_values.proofs.Elements.{element_behind, value_within}
use Rattle.pli_values.proofs.element.put_element.Goals as goal

pub returns-clause-written : goal.returns-clause-written
returns-clause-written c =
    let kind = kind_of c.args.kind in
    let within = value_within kind in
    element_behind kind (kept_value kind (value_of c.args.value)) c.args.at c.stored_bytes.result (c.element_size.result - c.value_bytes.result) c.args.memory.now _ _ c.stored_bytes.ensures (omega arith) (omega arith) c.put_value.ensures c.fill.ensures
