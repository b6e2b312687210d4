-- What is found in lists of refusals, part by part.
use Rattle.std.proofs.Common.{◌≡◌, List, [], ◌∷◌, ◌++◌, map, Option, None, refl, sym, ap, ◌∙◌, true≢false}
use Rattle.std.specs.Prelude.{is_some, slice_get}
use Rattle.pli_language.specs.declared.expr.Name.{Name as NameHeld}
use Rattle.pli_language.specs.declared.expr.Place.{Place}
use Rattle.pli_language.specs.View.{name_of}
use Rattle.pli_language.specs.Declaring.{at_first}
use Rattle.std.specs.List.{flat_map}
use Rattle.std.proofs.lemmas.List.{drop_all}
use Rattle.std.proofs.lemmas.List.Concat.{flat_map-append}
use Rattle.std.proofs.lemmas.List.{map-append}
use Rattle.pli_language.specs.declared.fault.SourceFault.{SourceFault}
use Rattle.pli_language.specs.Refusals.{soonest}
use Rattle.pli_language.proofs.Least.{soonest-append}
use Rattle.pli_declare.proofs.Chains.{drop_here}

pub soonest_none : (found : Option SourceFault) → soonest found [] ≡ found
unfolding soonest
soonest_none found = refl

pub ruleset faults = (soonest-append, soonest_none, flat_map-append, map-append)

-- a loop over a list
pub ruleset steps = (drop_here, drop_all, soonest-append, soonest_none)

-- what is found in two mapped lists and behind them
pub found_in_parts : {X : Type 0} (found a b r : Option SourceFault) (f : X → List SourceFault) (xs ys : List X) (zs : List SourceFault) → a ≡ soonest found (flat_map f xs) → b ≡ soonest a (flat_map f ys) → r ≡ soonest b zs → r ≡ soonest found (flat_map f (xs ++ ys) ++ zs)
found_in_parts found a b r f xs ys zs p q s =
    s ∙ ap (λ o. soonest o zs) (q ∙ ap (λ o. soonest o (flat_map f ys)) p ∙ sym (soonest-append found (flat_map f xs) (flat_map f ys)) ∙ ap (soonest found) (sym (flat_map-append f xs ys)))
    ∙ sym (soonest-append found (flat_map f (xs ++ ys)) zs)

-- no label, no place
pub none_at_first : (found : Option SourceFault) (labels : List NameHeld) (f : Place → List SourceFault) → None ≡ slice_get labels 0 → found ≡ soonest found (at_first (map name_of labels) f)
none_at_first found [] f h = sym (soonest_none found)
none_at_first found (n ∷ ns) f h = absurd (true≢false (sym (ap is_some h)))
