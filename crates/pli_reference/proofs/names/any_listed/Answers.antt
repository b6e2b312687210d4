use Rattle.std.proofs.Common.{rules, tests, ◌∙◌}
use Rattle.std.proofs.lemmas.Iterator.{YieldsList-from_slice}
use Rattle.std.proofs.lemmas.Iterator.Search.{any_from_yields_List}
use Rattle.pli_typing.specs.References.{is_listed}
use Rattle.pli_declaring.proofs.Shown.{any_mapped}
use Rattle.pli_reference.specs.Shown.{named_of}
use Rattle.pli_reference.proofs.names.any_listed.Goals as goal

pub returns : goal.returns
returns c =
    any_from_yields_List (λ n. is_listed (named_of n)) _ _ _ c.any.ensures.ran (YieldsList-from_slice c.args.names.now cc) (λ x b q k. search (rules, tests))
    ∙ any_mapped is_listed named_of c.args.names.now
