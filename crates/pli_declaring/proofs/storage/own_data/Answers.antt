use Rattle.std.proofs.Common.{◌*◌, ap, ◌∙◌, List}
use Rattle.std.specs.Prelude.{if◌then◌else◌, Bool}
use Rattle.pli_language.specs.Tree.{Attribute}
use Rattle.pli_language.specs.Declarations.{dimensions_of}
use Rattle.pli_language.specs.Declaring.{elements_above, leaf_bytes, own_attributes, spans, up_to}
use Rattle.pli_declare.specs.Shown.{held_of}
use Rattle.pli_declaring.specs.Bytes.{capped}
use Rattle.pli_declaring.proofs.Bytes.{data_by}
use Rattle.pli_declaring.proofs.storage.own_data.Goals as goal

pub returns : goal.returns
returns c =
    let h = held_of c.args.held.now in
    let leaf = leaf_bytes (own_attributes h) in
    let above = elements_above h.above in
    let own = spans (dimensions_of h.variable) in
    data_by _ _ _ _ _ _ leaf above own c.times.ensures c.in_words.ensures
    (c.leaf_bytes.ensures ∙ ap (λ (u : List Attribute). capped (leaf_bytes u)) c.own_attributes.ensures) c.times-elements.ensures
    c.elements_above.ensures c.variable_spans.ensures
    ∙ ap (λ (t : Bool). capped (if t then 0 else up_to 4 leaf * (above * own))) c.if-has_members.ensures
