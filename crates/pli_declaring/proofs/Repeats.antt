-- Names that stand twice, place by place.
use Rattle.std.proofs.Common.{◌≡◌, ◌<◌, ◌≤◌, ℕ, zero, suc, ◌+◌, ◌-◌, Bool, true, false, List, [], ◌∷◌, ◌++◌, length, take, drop, get_or, map, Option, Some, refl, sym, ap, ◌∙◌, arith, nat_eq, eqb, add-zero, inl, inr, ◌⊎◌}
use Rattle.std.specs.Prelude.{if◌then◌else◌, ◌&&◌, ◌||◌, nat_lt, reverse, slice_get}
use Rattle.std.specs.List.{list_any}
use Rattle.std.specs.Option.{option_map_or}
use Rattle.std.specs.Cmp.Lexicographic.{pointwise}
use Rattle.std.proofs.lemmas.Bool.Decides.{nat_tests}
use Rattle.std.proofs.lemmas.List.{reverse-append, map-append}
use Rattle.std.proofs.lemmas.List.Folds.{list_any-append}
use Rattle.pli_language.specs.declared.expr.Name.{Name as NameHeld}
use Rattle.pli_language.specs.declared.expr.Place.{Place}
use Rattle.pli_language.specs.declared.fault.SourceFault.{SourceFault}
use Rattle.pli_language.specs.declared.fault.SourceKind.TheVariants.{DeclaredTwice}
use Rattle.pli_language.specs.Keywords.{same_bytes}
use Rattle.pli_language.specs.Tree.{Name}
use Rattle.pli_language.specs.View.{name_of}
use Rattle.pli_language.specs.Declarations.{Variable, What, Declaration}
use Rattle.pli_language.specs.Means.{places}
use Rattle.pli_language.specs.Declaring.{are_rivals, names_twice, same_place, same_places, twice_faults, when}
use Rattle.pli_language.specs.Refusals.{fault, soonest}
use Rattle.pli_language.proofs.Least.{soonest-append}
use Rattle.pli_declare.specs.declared.scope.Declaration.{Declaration as DeclarationHeld}
use Rattle.pli_declare.specs.declared.scope.Variable.{Variable as VariableHeld}
use Rattle.pli_declare.specs.declared.above.Levels.{Levels as LevelsHeld}
use Rattle.pli_declare.specs.declared.above.Levels as L
use Rattle.std.specs.declared.rc.Rc.{Rc}
use Rattle.std.specs.declared.alloc.Global.{Global}
use Rattle.pli_declare.specs.Shown.{declaration_of, levels_of, variable_of, what_of}
use Rattle.pli_declare.proofs.Chains.{drop_here, take_here}
use Rattle.pli_declaring.specs.Rivals.{places_above, rival_at}

-- ---- lists from their ends

or_swap : (a b : Bool) → (a || (b || false)) ≡ (b || a)
or_swap true true = refl
or_swap true false = refl
or_swap false true = refl
or_swap false false = refl

any_reversed : {X : Type 0} (p : X → Bool) (xs : List X) → list_any p (reverse xs) ≡ list_any p xs
any_reversed p [] = refl
any_reversed p (x ∷ xs) =
    ap (list_any p) (reverse-append (x ∷ []) xs) ∙ list_any-append p (reverse xs) (x ∷ []) ∙ or_swap (list_any p (reverse xs)) (p x)
    ∙ ap (λ t. p x || t) (any_reversed p xs)

reversed_more : {X Y : Type 0} (f : X → Y) (xs : List X) (i : ℕ) (x : X) → i < length xs → x ≡ get_or xs i x → reverse (map f (take (i + 1) xs)) ≡ f x ∷ reverse (map f (take i xs))
reversed_more f xs i x h e = ap reverse (take_here f xs i x h e) ∙ reverse-append (map f (take i xs)) (f x ∷ [])

-- ---- names

pub names_on : (found next target : Option SourceFault) (ns : List NameHeld) (i : ℕ) (n : NameHeld) (broken : Bool) → i < length ns → n ≡ get_or ns i n → soonest found (names_twice (reverse (map name_of (take i ns))) (map name_of (drop i ns))) ≡ target → broken ≡ list_any (λ b. same_bytes b.letters n.letters.items) (map name_of (take i ns)) → next ≡ soonest found (when broken (fault n.place DeclaredTwice)) → soonest next (names_twice (reverse (map name_of (take (i + 1) ns))) (map name_of (drop (i + 1) ns))) ≡ target
names_on found next target ns i n broken h e inv b m =
    let test : Name → Bool = λ a. same_bytes a.letters n.letters.items in
    let sofar : List Name = map name_of (take i ns) in
    let rest : List Name = map name_of (drop (i + 1) ns) in
    let here : Bool → List SourceFault = λ t. when t (fault n.place DeclaredTwice) in
    let more : List SourceFault = names_twice (name_of n ∷ reverse sofar) rest in
    let step : names_twice (reverse sofar) (map name_of (drop i ns)) ≡ here broken ++ more =
    ap (λ u. names_twice (reverse sofar) (map name_of u)) (drop_here ns i n h e) ∙ ap (λ t. here t ++ more) (any_reversed test sofar ∙ sym b) in
    ap (λ u. soonest next (names_twice u rest)) (reversed_more name_of ns i n h e) ∙ ap (λ o. soonest o more) m ∙ sym (soonest-append found (here broken) more) ∙ ap (soonest found) (sym step) ∙ inv

-- ---- places of a name

equal_swapped : (x y : ℕ) → eqb x y ≡ eqb y x
equal_swapped x y = grind (arith, nat_tests)

flipped : (q b : List ℕ) → pointwise nat_eq q b ≡ same_bytes b q
flipped [] [] = refl
flipped [] (y ∷ ys) = refl
flipped (x ∷ xs) [] = refl
flipped (x ∷ xs) (y ∷ ys) = ap (λ t. t && pointwise nat_eq xs ys) (equal_swapped x y) ∙ ap (λ t. eqb y x && t) (flipped xs ys)

not_below : (i n : ℕ) → i ≤ n → nat_lt n i ≡ false
not_below i n h = grind (arith, nat_tests)

is_below : (i n : ℕ) → n < i → nat_lt n i ≡ true
is_below i n h = grind (arith, nat_tests)

still_past : (i n : ℕ) → i ≤ n → i ≤ n + 1
still_past i n h = omega arith

-- no place from i on is before i
none_past : (i from : ℕ) (t : Declaration → Bool) (r : ℕ → Bool) (ds : List Declaration) → i ≤ from → list_any (λ p. nat_lt p i && r p) (places t from ds) ≡ false
none_past i from t r [] h = refl
none_past i from t r (d ∷ ds) h = go (t d) (none_past i (from + 1) t r ds (still_past i from h))
  where
    go : (b : Bool) → list_any (λ p. nat_lt p i && r p) (places t (from + 1) ds) ≡ false → list_any (λ p. nat_lt p i && r p) (if b then from ∷ places t (from + 1) ds else places t (from + 1) ds) ≡ false
    go true e = ap (λ c. c && r from || list_any (λ p. nat_lt p i && r p) (places t (from + 1) ds)) (not_below i from h) ∙ e
    go false e = e

take_none : {X : Type 0} (n : ℕ) → take {A = X} n [] ≡ []
take_none zero = refl
take_none (suc n) = refl

zero_left : (i from : ℕ) → i ≤ from → i - from ≡ 0
zero_left i from h = omega arith

one_left : (i from : ℕ) → from < i → i - from ≡ suc (i - (from + 1))
one_left i from h = omega arith

shifted : (n k : ℕ) → n + 1 + k ≡ n + suc k
shifted n k = omega arith

below_or_past : (i from : ℕ) → (from < i) ⊎ (i ≤ from)
below_or_past i from = go (nat_lt from i) refl
  where
    go : (t : Bool) → nat_lt from i ≡ t → (from < i) ⊎ (i ≤ from)
    go true e = inl (grind (arith, nat_tests))
    go false e = inr (grind (arith, nat_tests))

pub any_places : (i from : ℕ) (t m : Declaration → Bool) (r : ℕ → Bool) (ds : List Declaration) → ((k : ℕ) (d : Declaration) → slice_get ds k ≡ Some d → r (from + k) ≡ m d) → list_any (λ p. nat_lt p i && r p) (places t from ds) ≡ list_any (λ d. t d && m d) (take (i - from) ds)
any_places i from t m r [] h = ap (list_any (λ d. t d && m d)) (sym (take_none (i - from)))
any_places i from t m r (d ∷ ds) h = go (any_places i (from + 1) t m r ds (λ k e f. ap r (shifted from k) ∙ h (suc k) e f)) (below_or_past i from)
  where
    here : (b : Bool) → t d ≡ b → from < i → list_any (λ p. nat_lt p i && r p) (if b then from ∷ places t (from + 1) ds else places t (from + 1) ds) ≡ (t d && m d || list_any (λ p. nat_lt p i && r p) (places t (from + 1) ds))
    here true e lt =
        ap (λ c. c && r from || list_any (λ p. nat_lt p i && r p) (places t (from + 1) ds)) (is_below i from lt)
        ∙ ap (λ c. c || list_any (λ p. nat_lt p i && r p) (places t (from + 1) ds)) (ap r (sym (add-zero from)) ∙ h 0 d refl ∙ ap (λ c. c && m d) (sym e))
    here false e lt = ap (λ c. c && m d || list_any (λ p. nat_lt p i && r p) (places t (from + 1) ds)) (sym e)

    go : list_any (λ p. nat_lt p i && r p) (places t (from + 1) ds) ≡ list_any (λ e. t e && m e) (take (i - (from + 1)) ds) → (from < i) ⊎ (i ≤ from) → list_any (λ p. nat_lt p i && r p) (places t from (d ∷ ds)) ≡ list_any (λ e. t e && m e) (take (i - from) (d ∷ ds))
    go more (inl lt) =
        here (t d) refl lt
        ∙ ap (λ c. t d && m d || c) more
        ∙ ap (λ n. list_any (λ e. t e && m e) (take n (d ∷ ds))) (sym (one_left i from lt))
    go more (inr le) =
        none_past i from t r (d ∷ ds) le
        ∙ ap (λ n. list_any (λ e. t e && m e) (take n (d ∷ ds))) (sym (zero_left i from le))

from_nought : (k : ℕ) → 0 + k ≡ k
from_nought k = omega arith

less_nought : (i : ℕ) → i - 0 ≡ i
less_nought i = omega arith

any_alike : {X : Type 0} (p q : X → Bool) (xs : List X) → ((x : X) → p x ≡ q x) → list_any p xs ≡ list_any q xs
any_alike p q [] h = refl
any_alike p q (x ∷ xs) h = ap (λ t. t || list_any p xs) (h x) ∙ ap (λ t. q x || t) (any_alike p q xs h)

-- the places of a name before i, and the declarations before i
earlier_rivals : (all : List Declaration) (q : List ℕ) (w : What) (i : ℕ) → list_any (λ p. nat_lt p i && rival_at all w p) (places (λ d. pointwise nat_eq q d.name.letters) 0 all) ≡ list_any (λ b. same_bytes b.name.letters q && are_rivals b.what w) (take i all)
earlier_rivals all q w i =
    any_places i 0 (λ d. pointwise nat_eq q d.name.letters) (λ b. are_rivals b.what w) (rival_at all w) all (λ k d e. ap (rival_at all w) (from_nought k) ∙ ap (λ o. option_map_or (λ b. are_rivals b.what w) o false) e)
    ∙ ap (λ n. list_any (λ b. pointwise nat_eq q b.name.letters && are_rivals b.what w) (take n all)) (less_nought i)
    ∙ any_alike _ _ (take i all) (λ b. ap (λ t. t && are_rivals b.what w) (flipped q b.name.letters))

take_mapped : {X Y : Type 0} (f : X → Y) (n : ℕ) (xs : List X) → take n (map f xs) ≡ map f (take n xs)
take_mapped f zero xs = refl
take_mapped f (suc n) [] = refl
take_mapped f (suc n) (x ∷ xs) = ap (λ u. f x ∷ u) (take_mapped f n xs)

pub twice_on : (found next target : Option SourceFault) (ds : List DeclarationHeld) (i : ℕ) (d : DeclarationHeld) (broken : Bool) → i < length ds → d ≡ get_or ds i d → soonest found (twice_faults (reverse (map declaration_of (take i ds))) (map declaration_of (drop i ds))) ≡ target → broken ≡ list_any (λ p. nat_lt p i && rival_at (map declaration_of ds) (what_of d.what) p) (places (λ e. pointwise nat_eq d.name.now.letters.items e.name.letters) 0 (map declaration_of ds)) → next ≡ soonest found (when broken (fault d.name.now.place DeclaredTwice)) → soonest next (twice_faults (reverse (map declaration_of (take (i + 1) ds))) (map declaration_of (drop (i + 1) ds))) ≡ target
twice_on found next target ds i d broken h e inv b m =
    let test : Declaration → Bool = λ a. same_bytes a.name.letters d.name.now.letters.items && are_rivals a.what (what_of d.what) in
    let sofar : List Declaration = map declaration_of (take i ds) in
    let rest : List Declaration = map declaration_of (drop (i + 1) ds) in
    let here : Bool → List SourceFault = λ t. when t (fault d.name.now.place DeclaredTwice) in
    let more : List SourceFault = twice_faults (declaration_of d ∷ reverse sofar) rest in
    let same : list_any test (reverse sofar) ≡ broken = any_reversed test sofar ∙ sym (b ∙ earlier_rivals (map declaration_of ds) d.name.now.letters.items (what_of d.what) i ∙ ap (list_any test) (take_mapped declaration_of i ds)) in
    let step : twice_faults (reverse sofar) (map declaration_of (drop i ds)) ≡ here broken ++ more =
    ap (λ u. twice_faults (reverse sofar) (map declaration_of u)) (drop_here ds i d h e) ∙ ap (λ t. here t ++ more) same in
    ap (λ u. soonest next (twice_faults u rest)) (reversed_more declaration_of ds i d h e) ∙ ap (λ o. soonest o more) m ∙ sym (soonest-append found (here broken) more) ∙ ap (soonest found) (sym step) ∙ inv

-- ---- places of structures, from the last to the first

no_places : (ps : List Place) (p : Place) → same_places (ps ++ p ∷ []) [] ≡ false
no_places [] p = refl
no_places (q ∷ ps) p = refl

more_places : (ps : List Place) (p : Place) → same_places [] (ps ++ p ∷ []) ≡ false
more_places [] p = refl
more_places (q ∷ ps) p = refl

and_false : (t : Bool) → (t && false) ≡ false
and_false true = refl
and_false false = refl

and_swap : (s t u : Bool) → (s && (t && u)) ≡ (t && (s && u))
and_swap true true u = refl
and_swap true false u = refl
and_swap false true u = refl
and_swap false false u = refl

places_last : (ps qs : List Place) (p q : Place) → same_places (ps ++ p ∷ []) (qs ++ q ∷ []) ≡ (same_place p q && same_places ps qs)
places_last [] [] p q = refl
places_last (r ∷ ps) [] p q = ap (λ t. same_place r q && t) (no_places ps p) ∙ and_false (same_place r q) ∙ sym (and_false (same_place p q))
places_last [] (s ∷ qs) p q = ap (λ t. same_place p s && t) (more_places qs q) ∙ and_false (same_place p s) ∙ sym (and_false (same_place p q))
places_last (r ∷ ps) (s ∷ qs) p q = ap (λ t. same_place r s && t) (places_last ps qs p q) ∙ and_swap (same_place r s) (same_place p q) (same_places ps qs)

place_above : (vs : List Variable) (v : Variable) → places_above (vs ++ v ∷ []) ≡ places_above vs ++ v.declared.name.place ∷ []
place_above vs v = map-append (λ (v : Variable). v.declared.name.place) vs (v ∷ [])

-- one structure more on each side, or on one
pub places_both : (vs ws : List Variable) (v w : Variable) → same_places (places_above (vs ++ v ∷ [])) (places_above (ws ++ w ∷ [])) ≡ (same_place v.declared.name.place w.declared.name.place && same_places (places_above vs) (places_above ws))
places_both vs ws v w =
    ap (λ u. same_places u (places_above (ws ++ w ∷ []))) (place_above vs v)
    ∙ ap (same_places (places_above vs ++ v.declared.name.place ∷ [])) (place_above ws w)
    ∙ places_last (places_above vs) (places_above ws) v.declared.name.place w.declared.name.place

pub places_other : (ws : List Variable) (w : Variable) → same_places [] (places_above (ws ++ w ∷ [])) ≡ false
places_other ws w = ap (same_places []) (place_above ws w) ∙ more_places (places_above ws) w.declared.name.place

-- an outermost structure alone, and one with others inside
some_levels : (first : Variable) (l : LevelsHeld) → same_places [] (places_above (levels_of first l)) ≡ false
some_levels first L.Outermost = refl
some_levels first (L.Inside' v count dimensions a above) = places_other (levels_of first above) (variable_of v)

levels_some : (first : Variable) (l : LevelsHeld) → same_places (places_above (levels_of first l)) [] ≡ false
levels_some first L.Outermost = refl
levels_some first (L.Inside' v count dimensions a above) = ap (λ u. same_places u []) (place_above (levels_of first above) (variable_of v)) ∙ no_places (places_above (levels_of first above)) (variable_of v).declared.name.place

pub one_and_more : (f g : Variable) (l r : LevelsHeld) (v : VariableHeld) (count dimensions : ℕ) (rc : Rc LevelsHeld Global) → l ≡ L.Outermost → r ≡ L.Inside v count dimensions rc → same_places (places_above (levels_of f l)) (places_above (levels_of g r)) ≡ false
one_and_more f g l r v count dimensions rc e h =
    ap (λ (u : LevelsHeld). same_places (places_above (levels_of f u)) (places_above (levels_of g r))) e
    ∙ ap (λ (u : LevelsHeld). same_places (places_above (f ∷ [])) (places_above (levels_of g u))) h
    ∙ places_both [] (levels_of g rc.value) f (variable_of v)
    ∙ ap (λ t. same_place f.declared.name.place (variable_of v).declared.name.place && t) (some_levels g rc.value) ∙ and_false (same_place f.declared.name.place (variable_of v).declared.name.place)

pub more_and_one : (f g : Variable) (l r : LevelsHeld) (v : VariableHeld) (count dimensions : ℕ) (rc : Rc LevelsHeld Global) → l ≡ L.Inside v count dimensions rc → r ≡ L.Outermost → same_places (places_above (levels_of f l)) (places_above (levels_of g r)) ≡ false
more_and_one f g l r v count dimensions rc e h =
    ap (λ (u : LevelsHeld). same_places (places_above (levels_of f u)) (places_above (levels_of g r))) e
    ∙ ap (λ (u : LevelsHeld). same_places (places_above (levels_of f (L.Inside v count dimensions rc))) (places_above (levels_of g u))) h
    ∙ places_both (levels_of f rc.value) [] (variable_of v) g
    ∙ ap (λ t. same_place (variable_of v).declared.name.place g.declared.name.place && t) (levels_some f rc.value) ∙ and_false (same_place (variable_of v).declared.name.place g.declared.name.place)

and_true : (t : Bool) → (t && true) ≡ t
and_true true = refl
and_true false = refl

pub one_and_one : (f g : Variable) → same_places (places_above (f ∷ [])) (places_above (g ∷ [])) ≡ same_place f.declared.name.place g.declared.name.place
one_and_one f g = and_true (same_place f.declared.name.place g.declared.name.place)

pub none_and_some : (first : VariableHeld) (l : LevelsHeld) → same_places [] (places_above (levels_of (variable_of first) l)) ≡ false
none_and_some first l = some_levels (variable_of first) l

pub some_and_none : (first : VariableHeld) (l : LevelsHeld) → same_places (places_above (levels_of (variable_of first) l)) [] ≡ false
some_and_none first l = levels_some (variable_of first) l

pub ruleset places_on = (places_both, one_and_more, more_and_one, one_and_one, none_and_some, some_and_none)
