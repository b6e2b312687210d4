-- The structure that a declaration may go on with, place by place.
use Rattle.std.proofs.Common.{◌≡◌, ◌<◌, ◌≤◌, ℕ, ◌+◌, ◌-◌, Bool, true, false, List, [], ◌∷◌, ◌++◌, length, take, drop, get_or, map, Option, Some, None, refl, sym, ap, ◌∙◌, arith, length-drop}
use Rattle.std.specs.Prelude.{if◌then◌else◌, slice_range}
use Rattle.std.proofs.lemmas.List.{take_more, get_or-drop, map-append}
use Rattle.pli_declare.specs.declared.scope.Declaration.{Declaration as DeclarationHeld}
use Rattle.pli_declare.specs.Shown.{declaration_of, what_of}
use Rattle.pli_declare.proofs.Chains.{drop_here}
use Rattle.pli_language.specs.Tree.{Name}
use Rattle.pli_language.specs.Declarations.{Held, What, Variable', Label, ProcedureName, Declaration}
use Rattle.pli_language.specs.Declaring.{stands_alone, structure_after, what_faults, declarations_faults}
use Rattle.pli_declaring.specs.Next.{variable_in}
use Rattle.pli_declaring.specs.Members.{before, variables_in}
use Rattle.pli_declaring.specs.Starts.{start_of}
use Rattle.pli_language.specs.declared.fault.SourceFault.{SourceFault}
use Rattle.pli_language.specs.Refusals.{soonest}
use Rattle.pli_language.proofs.Least.{soonest-append}

before_in_two : (o : Option Held) (xs ys : List Held) → before o (xs ++ ys) ≡ before o xs ++ ys
before_in_two None xs ys = refl
before_in_two (Some h) xs ys = refl

variables_in_two : (xs ys : List Declaration) → variables_in (xs ++ ys) ≡ variables_in xs ++ variables_in ys
variables_in_two [] ys = refl
variables_in_two (d ∷ ds) ys = ap (before (variable_in d.what)) (variables_in_two ds ys) ∙ before_in_two (variable_in d.what) (variables_in ds) (variables_in ys)

one_further : (start i : ℕ) → start ≤ i → i + 1 - start ≡ i - start + 1
one_further start i h = omega arith

within : (start i n : ℕ) → start ≤ i → i < n → i - start < n - start
within start i n h k = omega arith

back : (start i : ℕ) → start ≤ i → start + (i - start) ≡ i
back start i h = omega arith

nothing_between : (i : ℕ) → i - i ≡ 0
nothing_between i = omega arith

-- one more element of a range
range_more : {X : Type 0} (xs : List X) (start i : ℕ) (x : X) → start ≤ i → i < length xs → x ≡ get_or xs i x → slice_range xs start (i + 1) ≡ slice_range xs start i ++ x ∷ []
range_more {X} xs start i x h k e =
    let below : i - start < length (drop start xs) = omega (arith, within start i (length xs) h k, length-drop start xs) in
    ap (λ n. take n (drop start xs)) (one_further start i h)
    ∙ take_more (drop start xs) (i - start) x below
    ∙ ap (λ y. take (i - start) (drop start xs) ++ y ∷ []) (get_or-drop start xs (i - start) x ∙ ap (λ n. get_or xs n x) (back start i h) ∙ sym e)

range_none : {X : Type 0} (xs : List X) (i : ℕ) → slice_range xs i i ≡ []
range_none xs i = ap (λ n. take n (drop i xs)) (nothing_between i)

-- the variables of a range
abbrev pub among : List DeclarationHeld → ℕ → ℕ → List Held
among ds start i = variables_in (map declaration_of (slice_range ds start i))

among_more : (ds : List DeclarationHeld) (start i : ℕ) (d : DeclarationHeld) → start ≤ i → i < length ds → d ≡ get_or ds i d → among ds start (i + 1) ≡ among ds start i ++ before (variable_in (what_of d.what)) []
among_more ds start i d h k e =
    ap (λ u. variables_in (map declaration_of u)) (range_more ds start i d h k e)
    ∙ ap variables_in (map-append declaration_of (slice_range ds start i) (d ∷ []))
    ∙ variables_in_two (map declaration_of (slice_range ds start i)) (declaration_of d ∷ [])

among_none : (ds : List DeclarationHeld) (i : ℕ) → among ds i i ≡ []
among_none ds i = ap (λ u. variables_in (map declaration_of u)) (range_none ds i)

itself : (i : ℕ) → i ≤ i
itself i = omega arith

at_what : (ds : List DeclarationHeld) (start i : ℕ) (d : DeclarationHeld) (w : What) → what_of d.what ≡ w → start ≤ i → i < length ds → d ≡ get_or ds i d → structure_after (among ds start i) w ≡ among ds (start_of start i (i + 1) w) (i + 1)
at_what ds start i d (Variable' h) e p q r = go (stands_alone h)
  where
    go : (t : Bool) → (if t then h ∷ [] else among ds start i ++ h ∷ []) ≡ among ds (if t then i else start) (i + 1)
    go true = ap (λ (w : What). before (variable_in w) []) (sym e) ∙ ap (λ u. u ++ before (variable_in (what_of d.what)) []) (sym (among_none ds i)) ∙ sym (among_more ds i i d (itself i) q r)
    go false = ap (λ (w : What). among ds start i ++ before (variable_in w) []) (sym e) ∙ sym (among_more ds start i d p q r)
at_what ds start i d Label e p q r = sym (among_none ds (i + 1))
at_what ds start i d (ProcedureName head) e p q r = sym (among_none ds (i + 1))

pub structure_on : (ds : List DeclarationHeld) (start i : ℕ) (d : DeclarationHeld) → start ≤ i → i < length ds → d ≡ get_or ds i d → structure_after (among ds start i) (what_of d.what) ≡ among ds (start_of start i (i + 1) (what_of d.what)) (i + 1)
structure_on ds start i d p q r = at_what ds start i d (what_of d.what) refl p q r

-- a structure begins no later than the next place
pub start_below : (start i : ℕ) (w : What) → start ≤ i → start_of start i (i + 1) w ≤ i + 1
start_below start i (Variable' h) p = go (stands_alone h)
  where
    go : (t : Bool) → (if t then i else start) ≤ i + 1
    go true = omega arith
    go false = omega arith
start_below start i Label p = omega arith
start_below start i (ProcedureName head) p = omega arith

-- the next declaration's own faults, with what is left
pub declarations_on : (found next target : Option SourceFault) (ps : List Name) (ds : List DeclarationHeld) (start i after : ℕ) (d : DeclarationHeld) → start ≤ i → i < length ds → d ≡ get_or ds i d → soonest found (declarations_faults ps (among ds start i) (map declaration_of (drop i ds))) ≡ target → next ≡ soonest found (what_faults ps (among ds start i) (what_of d.what) (map declaration_of (drop (i + 1) ds))) → after ≡ start_of start i (i + 1) (what_of d.what) → soonest next (declarations_faults ps (among ds after (i + 1)) (map declaration_of (drop (i + 1) ds))) ≡ target
declarations_on found next target ps ds start i after d h k e inv n a =
    let rest : List Declaration = map declaration_of (drop (i + 1) ds) in
    let here : List SourceFault = what_faults ps (among ds start i) (what_of d.what) rest in
    let left : List Held → List SourceFault = λ hs. declarations_faults ps hs rest in
    let step : declarations_faults ps (among ds start i) (map declaration_of (drop i ds)) ≡ here ++ left (among ds after (i + 1)) =
    ap (λ u. declarations_faults ps (among ds start i) (map declaration_of u)) (drop_here ds i d k e)
    ∙ ap (λ hs. here ++ left hs) (structure_on ds start i d h k e ∙ ap (λ m. among ds m (i + 1)) (sym a)) in
    ap (λ o. soonest o (left (among ds after (i + 1)))) n ∙ sym (soonest-append found here (left (among ds after (i + 1)))) ∙ ap (soonest found) (sym step) ∙ inv
