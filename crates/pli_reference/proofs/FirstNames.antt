-- What names mean, by the first of them.
use Rattle.std.proofs.Common.{◌≡◌, List, [], ◌∷◌, Some, None, map, refl, sym, ap, true≢false}
use Rattle.std.specs.Prelude.{is_some, unwrap_or}
use Rattle.pli_typing.specs.Judging.{Scope, fine}
use Rattle.pli_language.specs.Means.{names_mean}
use Rattle.pli_typing.specs.References.{Named, found_referent, names_referent}
use Rattle.pli_typing.specs.Converting.{NotKnown}
use Rattle.pli_language.specs.Tree.{Name}
use Rattle.pli_typing.specs.TypedTree as Y
use Rattle.pli_reference.specs.Firsts.{first_name}

pub names_none : (scope : Scope) (located : Y.Locator) (names : List Named) → None ≡ first_name names → names_referent scope located names ≡ fine NotKnown
names_none scope located [] e = refl
names_none scope located (n ∷ ns) e = absurd (true≢false (sym (ap is_some e)))

pub names_some : (scope : Scope) (located : Y.Locator) (names : List Named) (first : Name) → Some first ≡ first_name names → names_referent scope located names ≡ found_referent scope first (names_mean scope.blocks scope.block (map (λ m. m.name.letters) names)) located names
names_some scope located [] first e = absurd (true≢false (ap is_some e))
names_some scope located (n ∷ ns) first e = ap (λ f. found_referent scope (unwrap_or f first) (names_mean scope.blocks scope.block (map (λ m. m.name.letters) (n ∷ ns))) located (n ∷ ns)) (sym e)
