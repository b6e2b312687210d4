-- The least of a list of refusals is its least, and there is no other.
use Rattle.std.proofs.Common.{◌≡◌, suc, ◌<◌, ◌⊎◌, inl, inr, Bool, true, false, List, [], ◌∷◌, ◌++◌, length, Option, Some, refl, sym, ap, ◌∙◌, subst, arith, true≢false}
use Rattle.std.specs.Prelude.{Contains, MatchOption, if◌then◌else◌}
use Rattle.std.proofs.lemmas.Bool.Decides.{nat_tests}
use Rattle.std.proofs.lemmas.List.Elements.{Contains-append_left, Contains-append_right, Contains-append_cases, Contains-push, Contains-push_cases}
use Rattle.pli_language.specs.declared.fault.SourceFault.{SourceFault}
use Rattle.pli_language.specs.Refusals.{IsBefore, earlier_line, earlier_column, smaller_number, IsLeast, is_before, sooner, soonest, LeastFound}

-- ---- the order

-- the test and the relation agree
pub is_before-true : (f g : SourceFault) → IsBefore f g → is_before f g ≡ true
unfolding is_before
is_before-true f g (earlier_line h) = grind (arith, nat_tests)
is_before-true f g (earlier_column e h) = grind (arith, nat_tests)
is_before-true f g (smaller_number e e' h) = grind (arith, nat_tests)

-- what doesn't stand before y, which doesn't stand before z, doesn't stand before z
later_through : (x y z : SourceFault) → is_before x y ≡ false → is_before y z ≡ false → is_before x z ≡ false
unfolding is_before
later_through x y z p q = grind (arith, nat_tests)

not_both : (x y : SourceFault) → is_before x y ≡ true → is_before y x ≡ false
unfolding is_before
not_both x y p = grind (arith, nat_tests)

not_itself : (x : SourceFault) → is_before x x ≡ false
unfolding is_before
not_itself x = grind (arith, nat_tests)

-- ---- elements

length_cons : (y : SourceFault) (ys : List SourceFault) → length (y ∷ ys) ≡ suc (length ys)
length_cons y ys = refl

among_head : (x : SourceFault) (xs : List SourceFault) → Contains (x ∷ xs) x
among_head x xs = Contains-append_left (x ∷ []) xs x (Contains-push [] x)

among_tail : (x y : SourceFault) (ys : List SourceFault) → Contains ys x → Contains (y ∷ ys) x
among_tail x y ys h = Contains-append_right (y ∷ []) ys x h

pub none_among : (x : SourceFault) → Contains [] x → ⊥
none_among x h = let below : h.0 < 0 = h.1 in omega arith

among_one : (x y : SourceFault) → Contains (y ∷ []) x → y ≡ x
among_one x y h = elim (Contains-push_cases [] y x h) [ inl none ↦ absurd (none_among x none) | inr same ↦ same ]

among_cases : (x y : SourceFault) (ys : List SourceFault) → Contains (y ∷ ys) x → (y ≡ x) ⊎ Contains ys x
among_cases x y ys h = elim (Contains-append_cases (y ∷ []) ys x h) [ inl one ↦ inl (among_one x y one) | inr more ↦ inr more ]

-- ---- the least

-- none of these stands before f
NoneBefore : List SourceFault → SourceFault → Type 0
NoneBefore fs f = (g : SourceFault) → Contains fs g → is_before g f ≡ false

least_by : (fs : List SourceFault) (f : SourceFault) → Contains fs f → NoneBefore fs f → IsLeast fs f
unfolding NoneBefore
least_by fs f among none = record {
  among = among;
  first = λ g h before. absurd (true≢false (sym (is_before-true g f before) ∙ none g h));
}

-- what one of two left out leaves, when the other was kept
kept_first : (f g m : SourceFault) (gs : List SourceFault) → is_before g f ≡ false → NoneBefore (f ∷ gs) m → NoneBefore (f ∷ g ∷ gs) m
unfolding NoneBefore
kept_first f g m gs later none x h =
    elim (among_cases x f (g ∷ gs) h) [
      | inl e ↦ subst (λ (y : SourceFault). is_before y m ≡ false) e (none f (among_head f gs))
      | inr among ↦ elim (among_cases x g gs among) [
        | inl e ↦ subst (λ (y : SourceFault). is_before y m ≡ false) e (later_through g f m later (none f (among_head f gs)))
        | inr rest ↦ none x (among_tail x f gs rest)
      ]
    ]

kept_second : (f g m : SourceFault) (gs : List SourceFault) → is_before g f ≡ true → NoneBefore (g ∷ gs) m → NoneBefore (f ∷ g ∷ gs) m
unfolding NoneBefore
kept_second f g m gs earlier none x h =
    elim (among_cases x f (g ∷ gs) h) [
      | inl e ↦ subst (λ (y : SourceFault). is_before y m ≡ false) e (later_through f g m (not_both g f earlier) (none g (among_head g gs)))
      | inr among ↦ none x among
    ]

skips_second : (f g m : SourceFault) (gs : List SourceFault) → Contains (f ∷ gs) m → Contains (f ∷ g ∷ gs) m
skips_second f g m gs h =
    elim (among_cases m f gs h) [
      | inl e ↦ subst (λ (y : SourceFault). Contains (f ∷ g ∷ gs) y) e (among_head f (g ∷ gs))
      | inr rest ↦ among_tail m f (g ∷ gs) (among_tail m g gs rest)
    ]

-- the least of f and these
record IsFirst (fs : List SourceFault) (m : SourceFault) : Type 0 where
  among : Contains fs m
  none : NoneBefore fs m

at_test : (f g m : SourceFault) (gs : List SourceFault) (t : Bool) → is_before g f ≡ t → IsFirst ((if t then g else f) ∷ gs) m → IsFirst (f ∷ g ∷ gs) m
at_test f g m gs true e h = record { among = among_tail m f (g ∷ gs) h.among; none = kept_second f g m gs e h.none }
at_test f g m gs false e h = record { among = skips_second f g m gs h.among; none = kept_first f g m gs e h.none }

sooner_is : (f g : SourceFault) → sooner (Some f) g ≡ Some (if is_before g f then g else f)
unfolding sooner
sooner_is f g = elim (is_before g f) as (λ t. (if t then Some g else Some f) ≡ Some (if t then g else f)) [ true ↦ refl | false ↦ refl ]

only_itself : (f : SourceFault) → IsFirst (f ∷ []) f
unfolding NoneBefore
only_itself f = record {
  among = among_head f [];
  none = λ g h. subst (λ (y : SourceFault). is_before y f ≡ false) (among_one g f h) (not_itself f);
}

first_of_more : (f : SourceFault) (fs : List SourceFault) → (m : SourceFault) × (soonest (Some f) fs ≡ Some m) × IsFirst (f ∷ fs) m
unfolding soonest
first_of_more f [] = (f, refl, only_itself f)
first_of_more f (g ∷ gs) =
    let kept : SourceFault = if is_before g f then g else f in
    let more : (m : SourceFault) × (soonest (Some kept) gs ≡ Some m) × IsFirst (kept ∷ gs) m = first_of_more (if is_before g f then g else f) gs in
    (more.0, ap (λ o. soonest o gs) (sooner_is f g) ∙ more.1, at_test f g more.0 gs (is_before g f) refl more.2)

at_found : (fs : List SourceFault) (o : Option SourceFault) (m : SourceFault) → o ≡ Some m → IsFirst fs m → MatchOption o (fs ≡ []) (IsLeast fs)
at_found fs o m e h = subst (λ (p : Option SourceFault). MatchOption p (fs ≡ []) (IsLeast fs)) (sym e) (least_by fs m h.among h.none)

pub least_found : LeastFound
unfolding soonest sooner
least_found [] = refl
least_found (f ∷ fs) = let found = first_of_more f fs in at_found (f ∷ fs) (soonest (Some f) fs) found.0 found.1 found.2

-- ---- what is found in two lists

pub soonest-append : (found : Option SourceFault) (xs ys : List SourceFault) → soonest found (xs ++ ys) ≡ soonest (soonest found xs) ys
unfolding soonest
soonest-append found [] ys = refl
soonest-append found (x ∷ xs) ys = soonest-append (sooner found x) xs ys
