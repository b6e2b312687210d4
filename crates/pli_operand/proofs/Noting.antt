-- What judgements one after the other come to.
use Rattle.std.proofs.Common.{◌≡◌, ◌∙◌, Bool, true, false, List, [], ◌∷◌, ◌++◌, Option, Some, None, refl, sym, ap, ap₂}
use Rattle.std.specs.Prelude.{◌||◌}
use Rattle.std.specs.List.{list_any}
use Rattle.pli_language.specs.declared.fault.SourceFault.{SourceFault}
use Rattle.pli_typing.specs.declared.typed.Variable.{Variable}
use Rattle.pli_typing.specs.Judging.{Mention}
use Rattle.pli_typing.specs.Generations.{is_forbidden}
use Rattle.pli_typing.specs.TypedTree as Y
use Rattle.pli_typing.specs.TypedView.{area_of, variable_of}
use Rattle.pli_language.proofs.Least.{soonest-append}
use Rattle.pli_language.specs.Refusals.{soonest}
use Rattle.pli_operand.specs.declared.notes.Notes.{Notes}
use Rattle.pli_operand.specs.Shown.{notes_of}
use Rattle.pli_operand.specs.Notes.{Noted, any_forbidden, with_lists, with_fault, with_mention}

any_append : {X : Type 0} (test : X → Bool) (xs ys : List X) → list_any test (xs ++ ys) ≡ (list_any test xs || list_any test ys)
any_append test [] ys = refl
any_append test (x ∷ xs) ys = elim (test x) as (λ t. (t || list_any test (xs ++ ys)) ≡ ((t || list_any test xs) || list_any test ys)) [ true ↦ refl | false ↦ any_append test xs ys ]

or_assoc : (a b c : Bool) → (a || (b || c)) ≡ ((a || b) || c)
or_assoc true b c = refl
or_assoc false b c = refl

or_false : (a : Bool) → (a || false) ≡ a
or_false true = refl
or_false false = refl

forbidden_append : (own : Option Y.Variable) (xs ys : List Mention) → any_forbidden own (xs ++ ys) ≡ (any_forbidden own xs || any_forbidden own ys)
forbidden_append None xs ys = refl
forbidden_append (Some own) xs ys = any_append (is_forbidden own) xs ys

forbidden_none : (own : Option Y.Variable) → any_forbidden own [] ≡ false
forbidden_none None = refl
forbidden_none (Some own) = refl

abbrev made : Noted → Option SourceFault → Bool → Noted
made n o b = record { found = o; own = n.own; forbidden = b }

pub noted_none : (n : Noted) → with_lists n [] [] ≡ n
unfolding with_lists soonest
noted_none n = ap (made n n.found) (ap (λ b. n.forbidden || b) (forbidden_none n.own) ∙ or_false n.forbidden)

pub noted_append : (n : Noted) (fs gs : List SourceFault) (ms ks : List Mention) → with_lists n (fs ++ gs) (ms ++ ks) ≡ with_lists (with_lists n fs ms) gs ks
unfolding with_lists
noted_append n fs gs ms ks = ap₂ (made n) (soonest-append n.found fs gs) (ap (λ b. n.forbidden || b) (forbidden_append n.own ms ks) ∙ or_assoc n.forbidden (any_forbidden n.own ms) (any_forbidden n.own ks))

pub noted_fault : (n : Noted) (f : SourceFault) (fs : List SourceFault) (ms : List Mention) → with_lists n (f ∷ fs) ms ≡ with_lists (with_fault n f) fs ms
unfolding with_lists soonest
noted_fault n f fs ms = refl

pub noted_mention : (n : Noted) (m : Mention) (fs : List SourceFault) (ms : List Mention) → with_lists n fs (m ∷ ms) ≡ with_lists (with_mention n m) fs ms
unfolding with_lists
noted_mention n m fs ms = ap (made n (soonest n.found fs)) (ap (λ b. n.forbidden || b) (forbidden_append n.own (m ∷ []) ms) ∙ or_assoc n.forbidden (any_forbidden n.own (m ∷ [])) (any_forbidden n.own ms))

-- a mention where no extent is judged, and where one is
pub mentioned_free : (n : Notes) (m : Mention) → n.own ≡ None → notes_of n ≡ with_mention (notes_of n) m
mentioned_free n m e = ap (made (notes_of n) n.found) (sym (ap (λ o. n.forbidden || any_forbidden o (m ∷ [])) (ap area_of e) ∙ or_false n.forbidden))

pub mentioned : (n : Notes) (m : Mention) (own : Variable) (b : Bool) → n.own ≡ Some own → b ≡ is_forbidden (variable_of own) m → notes_of (record { found = n.found; own = n.own; forbidden = n.forbidden || b }) ≡ with_mention (notes_of n) m
mentioned n m own b e f = ap (made (notes_of n) n.found) (ap (λ c. n.forbidden || c) (f ∙ sym (or_false (is_forbidden (variable_of own) m))) ∙ sym (ap (λ o. n.forbidden || any_forbidden o (m ∷ [])) (ap area_of e)))

-- what is judged in turn
pub ruleset noting = (noted_none, noted_append, noted_fault, noted_mention)
