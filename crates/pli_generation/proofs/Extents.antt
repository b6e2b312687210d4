-- Parts that are judged one after the other, by what they break.
use Rattle.std.proofs.Common.{◌≡◌, ◌∙◌, ◌<◌, ℕ, zero, suc, get_or, arith, Bool, false, List, [], ◌∷◌, ◌++◌, Option, Some, None, map, length, slice_get, append_assoc, append-nil, refl, sym, ap, ap₂}
use Rattle.std.specs.Prelude.{not}
use Rattle.std.specs.List.{list_any}
use Rattle.pli_language.specs.declared.fault.SourceFault.{SourceFault}
use Rattle.pli_language.specs.declared.fault.SourceKind.TheVariants.{BadExtent}
use Rattle.pli_language.specs.Declarations.{Held}
use Rattle.pli_language.specs.Declaring.{own_attributes, place_of_expr}
use Rattle.pli_typing.specs.Generations.{declared_variable, declared_with, extent_demanded, is_forbidden, names_demanded}
use Rattle.pli_typing.specs.Judging.{Judged, Scope, demand, each}
use Rattle.pli_language.specs.Refusals.{soonest}
use Rattle.pli_language.specs.Tree as T
use Rattle.pli_typing.specs.TypedTree as Y
use Rattle.pli_language.proofs.Least.{soonest-append}
use Rattle.std.proofs.lemmas.List.{drop_all, map-append}
use Rattle.pli_declare.proofs.Chains.{drop_here}
use Rattle.pli_operand.specs.Notes.{Noted, noted, with_lists}
use Rattle.pli_operand.proofs.Noting.{noted_append, noted_none}
use Rattle.pli_generation.specs.Shown.{evaluations_of, own_at}

abbrev before : Option SourceFault → Noted
before found = record { found = found; own = None; forbidden = false }

-- what is found of what is judged outside an extent
pub found_is : {X : Type 0} (found : Option SourceFault) (n : Noted) (j : Judged X) → n ≡ noted (before found) j → n.found ≡ soonest found j.faults
unfolding with_lists
found_is found n j e = ap (λ m. m.found) e

-- an extent is judged, and then what it mentions
pub extent_found : (found : Option SourceFault) (own : Y.Variable) (e : T.Expr) (j : Judged Y.Number) (m n : Noted) → m ≡ noted (record { found = found; own = Some own; forbidden = false }) j → n ≡ noted m (demand (not m.forbidden) (place_of_expr e) BadExtent) → n.found ≡ soonest found (extent_demanded own e j).faults
unfolding with_lists
extent_found found own e j m n h k =
    ap (λ x. x.found) k
    ∙ ap (λ x. soonest x.found (demand (not x.forbidden) (place_of_expr e) BadExtent).faults) h
    ∙ sym (soonest-append found j.faults (demand (not (list_any (is_forbidden own) j.mentions)) (place_of_expr e) BadExtent).faults)
    ∙ ap (λ fs. soonest found (j.faults ++ fs)) (sym (append-nil (demand (not (list_any (is_forbidden own) j.mentions)) (place_of_expr e) BadExtent).faults))

each_faults : {X Z : Type 0} (judge : X → Judged Z) (x : X) (xs : List X) → (each judge (x ∷ xs)).faults ≡ (judge x).faults ++ (each judge xs).faults
each_faults judge x xs = ap (λ fs. (judge x).faults ++ fs) (append-nil (each judge xs).faults)

-- what is found with one more, and with the last
pub each_here : {X Z : Type 0} (judge : X → Judged Z) (s n : Option SourceFault) (x : X) (xs ys : List X) → n ≡ soonest s (judge x).faults → ys ≡ x ∷ xs → soonest n (each judge xs).faults ≡ soonest s (each judge ys).faults
each_here judge s n x xs ys e here =
    ap (λ m. soonest m (each judge xs).faults) e
    ∙ sym (soonest-append s (judge x).faults (each judge xs).faults)
    ∙ ap (λ fs. soonest s fs) (sym (each_faults judge x xs))
    ∙ ap (λ zs. soonest s (each judge zs).faults) (sym here)

pub each_end : {X Z : Type 0} (judge : X → Judged Z) (s : Option SourceFault) (ys : List X) → ys ≡ [] → s ≡ soonest s (each judge ys).faults
unfolding soonest
each_end judge s ys none = ap (λ zs. soonest s (each judge zs).faults) (sym none)

pushed : {W Z : Type 0} (view : W → Z) (ws : List W) (w : W) (z : Z) (zs : List Z) → view w ≡ z → map view (ws ++ w ∷ []) ++ zs ≡ map view ws ++ z ∷ zs
pushed view [] w z zs e = ap (λ y. y ∷ zs) e
pushed view (v ∷ ws) w z zs e = ap (λ ys. view v ∷ ys) (pushed view ws w z zs e)

-- the values with one more
pub each_value : {X Z W : Type 0} (judge : X → Judged Z) (view : W → Z) (ws vs : List W) (w : W) (x : X) (xs ys : List X) → vs ≡ ws ++ w ∷ [] → view w ≡ (judge x).value → ys ≡ x ∷ xs → map view vs ++ (each judge xs).value ≡ map view ws ++ (each judge ys).value
each_value judge view ws vs w x xs ys more e here =
    ap (λ us. map view us ++ (each judge xs).value) more
    ∙ pushed view ws w (judge x).value (each judge xs).value e
    ∙ ap (λ zs. map view ws ++ (each judge zs).value) (sym here)

-- what is noted with one more
pub noted_here : {X Z : Type 0} (judge : X → Judged Z) (s n : Noted) (x : X) (xs ys : List X) → n ≡ noted s (judge x) → ys ≡ x ∷ xs → noted n (each judge xs) ≡ noted s (each judge ys)
noted_here judge s n x xs ys e here =
    ap (λ m. noted m (each judge xs)) e
    ∙ sym (noted_none (noted (noted s (judge x)) (each judge xs)))
    ∙ sym (noted_append (noted s (judge x)) (each judge xs).faults [] (each judge xs).mentions [])
    ∙ sym (noted_append s (judge x).faults ((each judge xs).faults ++ []) (judge x).mentions ((each judge xs).mentions ++ []))
    ∙ ap (λ zs. noted s (each judge zs)) (sym here)

pub noted_end : {X Z : Type 0} (judge : X → Judged Z) (s : Noted) (ys : List X) → ys ≡ [] → s ≡ noted s (each judge ys)
noted_end judge s ys none = sym (noted_none s) ∙ ap (λ zs. noted s (each judge zs)) (sym none)

-- what the names of a variable and its extents break
pub declared_found : (scope : Scope) (own : Y.Variable) (all : List Held) (s n o : Option SourceFault) → n ≡ soonest s (each (λ h. names_demanded scope.blocks scope.block (own_attributes h)) all).faults → o ≡ soonest n (evaluations_of scope own all).faults → o ≡ soonest s (declared_with scope own all).faults
declared_found scope own all s n o e f =
    f
    ∙ ap (λ m. soonest m (evaluations_of scope own all).faults) e
    ∙ sym (soonest-append s (each (λ h. names_demanded scope.blocks scope.block (own_attributes h)) all).faults (evaluations_of scope own all).faults)
    ∙ ap (λ fs. soonest s ((each (λ h. names_demanded scope.blocks scope.block (own_attributes h)) all).faults ++ fs)) (sym (append-nil (evaluations_of scope own all).faults))

-- a variable of level 1 by what stands first in it
pub declared_is : (scope : Scope) (all : List Held) → declared_variable scope all ≡ declared_with scope (own_at scope.blocks scope.block (Some all)) all
declared_is scope [] = refl
declared_is scope (h ∷ members) = refl

-- one of a list, as another list shows it
pub got : {X Y : Type 0} (f : X → Y) (xs : List X) (i : ℕ) (x : X) → i < length xs → x ≡ get_or xs i x → slice_get (map f xs) i ≡ Some (f x)
got f [] i x h e = absurd (omega (arith, h))
got f (y ∷ ys) zero x h e = ap (λ z. Some (f z)) (sym e)
got f (y ∷ ys) (suc i) x h e = got f ys i x (omega (arith, h)) e

-- ---- members

pub ruleset members = (drop_here, drop_all, append_assoc, append-nil, map-append)
