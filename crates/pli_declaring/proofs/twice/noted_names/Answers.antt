use Rattle.std.proofs.Common.{ap, ◌∙◌, List, ℕ, map, take}
use Rattle.std.specs.List.{list_any}
use Rattle.pli_language.specs.Keywords.{same_bytes}
use Rattle.pli_language.specs.View.{name_of}
use Rattle.pli_declaring.proofs.Repeats.{names_on}
use Rattle.pli_declaring.proofs.twice.noted_names.Goals as goal

pub loop-i-preserved : goal.loop-i-preserved
loop-i-preserved c =
    let ns = c.args.names.now in
    let i = c.loop-i.i in
    names_on c.loop-i.found c.noted-found.result _ ns i c.index-names-i.result c.is_among-broken.result c.loop-i-test.true c.index-names-i.is c.loop-i.invariant
    (c.is_among-broken.ensures ∙ ap (λ (u : List ℕ). list_any (λ b. same_bytes b.letters u) (map name_of (take i ns))) c.deref.ensures.value) c.noted-found.ensures
