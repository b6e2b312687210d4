use Rattle.std.proofs.Common.{rules, tests, ℕ, Bool, map}
use Rattle.std.specs.Prelude.{◌&&◌, nat_lt}
use Rattle.std.proofs.lemmas.Iterator.{YieldsList-from_slice}
use Rattle.std.proofs.lemmas.Iterator.Search.{any_from_yields_List}
use Rattle.pli_declare.specs.Shown.{declaration_of, what_of}
use Rattle.pli_declaring.specs.Rivals.{rival_at}
use Rattle.pli_declaring.proofs.twice.has_rival.Goals as goal

pub returns : goal.returns
returns c =
    let test : ℕ → Bool = λ p. nat_lt p c.args.index && rival_at (map declaration_of c.args.declarations.now) (what_of c.args.what.now) p in
    any_from_yields_List test _ _ _ c.any.ensures.ran (YieldsList-from_slice c.args.places.now cc) (λ x b q k. search (rules, tests))
