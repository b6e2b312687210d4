use Rattle.std.proofs.Common.{◌≡◌, ◌<◌, ap, ◌∙◌, List, ℕ, map, length, get_or, subst, nat_eq}
use Rattle.std.specs.Prelude.{◌&&◌, nat_lt}
use Rattle.std.specs.List.{list_any}
use Rattle.std.specs.Cmp.Lexicographic.{pointwise}
use Rattle.pli_language.specs.Means.{places}
use Rattle.pli_declare.specs.declared.scope.Declaration.{Declaration as DeclarationHeld}
use Rattle.pli_declare.specs.Shown.{declaration_of, what_of}
use Rattle.pli_declaring.specs.Rivals.{rival_at}
use Rattle.pli_declaring.proofs.Repeats.{twice_on}
use Rattle.pli_declaring.proofs.twice.noted_twice.Goals as goal

pub loop-i-preserved : goal.loop-i-preserved
loop-i-preserved c =
    let ds = c.args.names.now.declarations.items in
    let i = c.loop-i.i in
    let d = c.declaration-item.result in
    let items = c.deref-declaration-items.ensures.value in
    let below : i < length ds = subst (λ (xs : List DeclarationHeld). i < length xs) items c.loop-i-test.true in
    let at : d ≡ get_or ds i d = c.declaration-item.is ∙ ap (λ (xs : List DeclarationHeld). get_or xs i d) items in
    let broken : c.has_rival-broken.result ≡ list_any (λ p. nat_lt p i && rival_at (map declaration_of ds) (what_of d.what) p) (places (λ e. pointwise nat_eq d.name.now.letters.items e.name.letters) 0 (map declaration_of ds)) =
    c.has_rival-broken.ensures
    ∙ ap (λ (xs : List DeclarationHeld). list_any (λ p. nat_lt p i && rival_at (map declaration_of xs) (what_of d.what) p) c.places_of-places.result.now) c.deref-in-loop-i.ensures.value
    ∙ ap (λ (ps : List ℕ). list_any (λ p. nat_lt p i && rival_at (map declaration_of ds) (what_of d.what) p) ps) (c.places_of-places.ensures ∙ ap (λ (q : List ℕ). places (λ e. pointwise nat_eq q e.name.letters) 0 (map declaration_of ds)) c.deref.ensures.value) in
    twice_on c.loop-i.found c.noted-found.result _ ds i d c.has_rival-broken.result below at c.loop-i.invariant broken c.noted-found.ensures
