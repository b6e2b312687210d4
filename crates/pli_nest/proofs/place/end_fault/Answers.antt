use Rattle.std.proofs.Common.{map, [], ◌∷◌, ap, sym, ◌∙◌}
use Rattle.std.specs.Prelude.{if◌then◌else◌}
use Rattle.pli_language.specs.declared.fault.SourceKind.TheVariants.{EndName}
use Rattle.pli_language.specs.Marks.{fault_at}
use Rattle.pli_language.specs.View.{name_of}
use Rattle.pli_nest.proofs.EndNames.{end_fault_among}
use Rattle.pli_nest.proofs.place.end_fault.Goals as goal

pub returns-then-is_among : goal.returns-then-is_among
returns-then-is_among c =
    let n = name_of c.args.name.now in
    sym (end_fault_among n (map name_of c.args.labels.now) ∙ ap (λ b. if b then [] else fault_at n.place EndName ∷ []) (sym c.is_among.ensures ∙ c.if-is_among.true))

pub returns-else-is_among : goal.returns-else-is_among
returns-else-is_among c =
    let n = name_of c.args.name.now in
    ap (λ f. f ∷ []) c.fault_at.ensures ∙ sym (end_fault_among n (map name_of c.args.labels.now) ∙ ap (λ b. if b then [] else fault_at n.place EndName ∷ []) (sym c.is_among.ensures ∙ c.if-is_among.false))
