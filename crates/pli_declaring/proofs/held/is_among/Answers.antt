use Rattle.std.proofs.Common.{rules, tests, ◌∙◌}
use Rattle.std.proofs.lemmas.Iterator.{YieldsList-from_slice}
use Rattle.std.proofs.lemmas.Iterator.Search.{any_from_yields_List}
use Rattle.pli_language.specs.Keywords.{same_bytes}
use Rattle.pli_language.specs.View.{name_of}
use Rattle.pli_declaring.proofs.Shown.{any_mapped}
use Rattle.pli_declaring.proofs.held.is_among.Goals as goal

pub returns : goal.returns
returns c =
    any_from_yields_List (λ n. same_bytes n.letters.items c.args.letters.now) _ _ _ c.any.ensures.ran (YieldsList-from_slice c.args.names.now cc) (λ x b q k. search (rules, tests))
    ∙ any_mapped (λ n. same_bytes n.letters c.args.letters.now) name_of c.args.names.now
