use Rattle.std.proofs.Common.{◌∙◌, ap, [], ◌∷◌, ◌++◌, rules, w32, FitsSigned}
use Rattle.std.proofs.lemmas.Int.{to_z-of_z}
use Rattle.rv_meaning.specs.declared.instr.Instr.TheVariants as I
use Rattle.pli_coding.specs.Assembly.{Plain}
use Rattle.pli_coding.specs.Instructions as form
use Rattle.rv_assembly.proofs.code.Code.store.Goals as goal

pub returns : goal.returns
returns c =
    let fits : FitsSigned w32 c.in_ok-rs1.offset = search rules in
    c.in_ok-plain.ensures
    ∙ ap (λ z. c.displaced.new.self ++ Plain (I.Store c.args.kind c.in_ok-rs1.rs1 c.args.value z) ∷ []) (to_z-of_z w32 c.in_ok-rs1.offset fits)
    ∙ c.in_ok-rs1.ensures.placed (λ r d. I.Store c.args.kind r c.args.value d)
    ∙ ap (λ z. c.args.self.now ++ form.displaced (λ r d. I.Store c.args.kind r c.args.value d) c.args.rs z) (to_z-of_z w32 c.args.displacement c.ranges.displacement)
