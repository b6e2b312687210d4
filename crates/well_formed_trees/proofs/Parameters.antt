-- Parameters are variables of their procedure's block, each another one.
use Rattle.std.proofs.Common.{◌≡◌, ℕ, suc, ◌+◌, ◌==◌, Bool, true, false, not, ◌&&◌, ◌||◌, List, [], ◌∷◌, ◌++◌, length}
use Rattle.std.proofs.Common.{Some, refl, sym, ap, ◌∙◌, subst, if◌then◌else◌, arith}
use Rattle.std.specs.Prelude.{slice_get, nat_lt}
use Rattle.std.specs.List.{list_any}
use Rattle.std.proofs.lemmas.Bool.Decides.{nat_tests}
use Rattle.pli_language.specs.declared.fault.SourceFault.{SourceFault}
use Rattle.pli_language.specs.declared.fault.SourceKind.TheVariants.{BadAttributes}
use Rattle.pli_language.specs.Keywords.{same_bytes}
use Rattle.pli_language.specs.Refusals.{fault}
use Rattle.pli_language.specs.Tree as T
use Rattle.pli_language.specs.Declarations.{level_of, Held, What, Variable', Label, ProcedureName, Declaration}
use Rattle.pli_language.specs.Declaring.{when, has, has_class, one, own_attributes, first_or, root_of, stands_alone}
use Rattle.pli_language.specs.Declaring.{held_is, is_parameter, level_is_bad, attributes_are_bad, variable_faults}
use Rattle.pli_language.specs.Declaring.{what_faults, structure_after, declarations_faults, declares}
use Rattle.pli_typing.specs.Variables.{members_first, variable_then, variables_in, index_where}
use Rattle.pli_typing.specs.Calls.{begins_named}
use Rattle.well_formed_trees.specs.Every.{Every}
use Rattle.well_formed_trees.proofs.Lists.{first_empty, second_empty, first_false, second_false}
use Rattle.well_formed_trees.proofs.Letters.{both_true, same_equal, same_self}
use Rattle.well_formed_trees.proofs.HeldAlone.{IsWell, AllWell}

pub none_when : (b : Bool) (f : SourceFault) → when b f ≡ [] → b ≡ false
none_when false f e = refl
none_when true f e = absurd (cc e)

pub not_false : (b : Bool) → not b ≡ false → b ≡ true
not_false true e = refl
not_false false e = absurd (cc e)

-- ---- what is found in lists

pub record Finds {X : Type 0} (test : X → Bool) (xs : List X) : Type 0 where
  pub element : X
  pub found : slice_get xs (index_where test xs) ≡ Some element
  pub passes : test element ≡ true

finds_by : {X : Type 0} (test : X → Bool) (x : X) (xs : List X) (b : Bool) → test x ≡ b
    → (b || list_any test xs) ≡ true → (list_any test xs ≡ true → Finds test xs) → Finds test (x ∷ xs)
finds_by test x xs true e a f =
    record
    { element = x; found = ap (λ b. slice_get (x ∷ xs) (if b then 0 else index_where test xs + 1)) e; passes = e }
finds_by test x xs false e a f =
    let k = f a in
    let next : index_where test xs + 1 ≡ suc (index_where test xs) = omega arith in
    record {
      element = k.element;
      found =
          ap (λ b. slice_get (x ∷ xs) (if b then 0 else index_where test xs + 1)) e
          ∙ (ap (slice_get (x ∷ xs)) next ∙ k.found);
      passes = k.passes;
    }

pub finds : {X : Type 0} (test : X → Bool) (xs : List X) → list_any test xs ≡ true → Finds test xs
finds test [] e = absurd (cc e)
finds test (x ∷ xs) e = finds_by test x xs (test x) refl e (finds test xs)

any_later : {X : Type 0} (test : X → Bool) (b : Bool) (xs : List X) → list_any test xs ≡ true
    → (b || list_any test xs) ≡ true
any_later test true xs e = refl
any_later test false xs e = e

pub any_middle : {X : Type 0} (test : X → Bool) (before : List X) (x : X) (xs : List X) → test x ≡ true
    → list_any test (before ++ x ∷ xs) ≡ true
any_middle test [] x xs e = ap (λ b. b || list_any test xs) e
any_middle test (y ∷ ys) x xs e = any_later test (test y) (ys ++ x ∷ xs) (any_middle test ys x xs e)

pub none_middle : {X : Type 0} (test : X → Bool) (before : List X) (x : X) (xs : List X)
    → list_any test (before ++ x ∷ xs) ≡ false → test x ≡ false
none_middle test [] x xs e = first_false (test x) (list_any test xs) e
none_middle test (y ∷ ys) x xs e =
    none_middle test ys x xs (second_false (test y) (list_any test (ys ++ x ∷ xs)) e)

-- ---- attributes that aren't bad

level_fine : (ps : List T.Name) (h : Held) (after : List Declaration) → attributes_are_bad ps h after ≡ false
    → level_is_bad h ≡ false
level_fine ps h after e =
    first_false (level_is_bad h) _ (first_false _ _ (first_false _ _ (first_false _ _ (first_false _ _
    (first_false _ _ (first_false _ _ e))))))

pub class_fine : (ps : List T.Name) (h : Held) (after : List Declaration) → attributes_are_bad ps h after ≡ false
    → (is_parameter ps h && ((stands_alone h && has_class (own_attributes h)) || has 12 (own_attributes h))) ≡ false
class_fine ps h after e = second_false _ _ (first_false _ _ e)

level_one : (level : ℕ) (alone : Bool) → ((level == 0) || (nat_lt 1 level && alone)) ≡ false → alone ≡ true
    → level ≡ 1
level_one level alone e a =
    let some = first_false (level == 0) (nat_lt 1 level && alone) e in
    let few : nat_lt 1 level ≡ false = one_of (nat_lt 1 level) alone
    (second_false (level == 0) (nat_lt 1 level && alone) e) a in
    is_one level some few where
      one_of : (a b : Bool) → (a && b) ≡ false → b ≡ true → a ≡ false
      one_of false b e f = refl
      one_of true b e f = absurd (cc (e, f))

      is_one : (level : ℕ) → (level == 0) ≡ false → nat_lt 1 level ≡ false → level ≡ 1
      is_one level e f = grind (arith, nat_tests)

not_zero : (n : ℕ) → (suc n == 0) ≡ true → ⊥
not_zero n e = grind (arith, nat_tests)

none_above : {X : Type 0} (xs : List X) → (length xs == 0) ≡ true → xs ≡ []
none_above [] e = refl
none_above (x ∷ xs) e = absurd (not_zero (length xs) e)

-- ---- the variables of level 1 of a block

-- a variable with its members: the variable is held by nothing, and of level 1
abbrev pub IsRoot : List Held → Type 0
IsRoot [] = ⊥
IsRoot (h ∷ members) = (h.above ≡ []) × (level_of h.variable ≡ 1)

pub attributes_fine : (ps : List T.Name) (earlier : List Held) (h : Held) (after : List Declaration)
    → variable_faults ps earlier h after ≡ [] → attributes_are_bad ps h after ≡ false
attributes_fine ps earlier h after e =
    none_when (attributes_are_bad ps h after) (fault h.variable.declared.name.place BadAttributes)
    (first_empty _ _ (first_empty _ _ (first_empty _ _ (first_empty _ _ e))))

root_if : (a b : Bool) (h : Held) (members : List Held) (rest : List (List Held)) → (a ≡ true → IsRoot (h ∷ members))
    → Every IsRoot rest → Every IsRoot (if a && b then (h ∷ members) ∷ rest else rest)
root_if true true h members rest k r = (k refl, r)
root_if true false h members rest k r = r
root_if false b h members rest k r = r

root_then : (ps : List T.Name) (earlier : List Held) (w : What) (after : List Declaration) (members : List Held)
    (rest : List (List Held)) → what_faults ps earlier w after ≡ [] → Every IsRoot rest
    → Every IsRoot (variable_then w members rest)
root_then ps earlier (Variable' h) after members rest e r =
    root_if (stands_alone h) (not (has 13 (own_attributes h))) h members rest
    (λ a. (
      none_above h.above a,
      level_one (level_of h.variable) (stands_alone h)
          (level_fine ps h after (attributes_fine ps earlier h after e)) a,
    )) r
root_then ps earlier Label after members rest e r = r
root_then ps earlier (ProcedureName head) after members rest e r = r

pub roots : (ps : List T.Name) (earlier : List Held) (ds : List Declaration) → declarations_faults ps earlier ds ≡ []
    → Every IsRoot (variables_in ds)
roots ps earlier [] e = tt
roots ps earlier (d ∷ ds) e =
    let own = what_faults ps earlier d.what ds in
    let others = declarations_faults ps (structure_after earlier d.what) ds in
    root_then ps earlier d.what ds (members_first ds) (variables_in ds) (first_empty own others e)
    (roots ps (structure_after earlier d.what) ds (second_empty own others e))

-- ---- a parameter's variable is one of them

abbrev pub IsOfName : List T.Name → List ℕ → Type 0
IsOfName ps letters = list_any (λ m. same_bytes m.letters letters) ps ≡ true

-- a variable of level 1 with a parameter's name is a parameter
pub parameter_is : (ps : List T.Name) (h : Held) → h.above ≡ [] → level_of h.variable ≡ 1
    → IsOfName ps h.variable.declared.name.letters → is_parameter ps h ≡ true
parameter_is ps h a l n =
    let root : root_of h ≡ h.variable = ap (λ above. first_or above h.variable) a in
    subst
    (λ v. ((level_of v == 1) && list_any (λ m. same_bytes m.letters v.declared.name.letters) ps) ≡ true) (sym root)
    (both_true (level_of h.variable == 1) (list_any (λ m. same_bytes m.letters h.variable.declared.name.letters) ps)
    (is_one (level_of h.variable) l) n) where
      is_one : (n : ℕ) → n ≡ 1 → (n == 1) ≡ true
      is_one n e = grind (arith, nat_tests)

no_class : (n : ℕ) (b : Bool) → nat_lt 0 (n + one b) ≡ false → b ≡ false
no_class n false e = refl
no_class n true e = absurd (more n e) where
  more : (n : ℕ) → nat_lt 0 (n + 1) ≡ false → ⊥
  more n e = grind (arith, nat_tests)

-- so it isn't BUILTIN
no_builtin : (ps : List T.Name) (h : Held) (after : List Declaration) → attributes_are_bad ps h after ≡ false
    → is_parameter ps h ≡ true → stands_alone h ≡ true → has 13 (own_attributes h) ≡ false
no_builtin ps h after e p a =
    let both = class_fine ps h after e in
    let class = has_class (own_attributes h) in
    let initial = has 12 (own_attributes h) in
    no_class _ (has 13 (own_attributes h))
    (none_of (is_parameter ps h) (stands_alone h) class initial both p a) where
      none_of : (p a c i : Bool) → (p && ((a && c) || i)) ≡ false → p ≡ true → a ≡ true → c ≡ false
      none_of true true false i e f g = refl
      none_of true true true i e f g = absurd (cc e)
      none_of true false c i e f g = absurd (cc g)
      none_of false a c i e f g = absurd (cc f)

any_then : (a b : Bool) (n : T.Name) (h : Held) (members : List Held) (rest : List (List Held)) → a ≡ true → b ≡ true
    → begins_named n (h ∷ members) ≡ true
    → list_any (begins_named n) (if a && b then (h ∷ members) ∷ rest else rest) ≡ true
any_then true true n h members rest e f g = ap (λ b. b || list_any (begins_named n) rest) g
any_then true false n h members rest e f g = absurd (cc f)
any_then false b n h members rest e f g = absurd (cc e)

any_kept : (w : What) (n : T.Name) (members : List Held) (rest : List (List Held))
    → list_any (begins_named n) rest ≡ true → list_any (begins_named n) (variable_then w members rest) ≡ true
any_kept (Variable' h) n members rest e =
    kept (stands_alone h && not (has 13 (own_attributes h))) where
      kept : (b : Bool) → list_any (begins_named n) (if b then (h ∷ members) ∷ rest else rest) ≡ true
      kept true = any_later (begins_named n) (begins_named n (h ∷ members)) rest e
      kept false = e
any_kept Label n members rest e = e
any_kept (ProcedureName head) n members rest e = e

own_found : (ps : List T.Name) (earlier : List Held) (name : T.Name) (w : What) (after : List Declaration) (n : T.Name)
    (members : List Held) (rest : List (List Held)) → IsWell (record { name = name; what = w })
    → what_faults ps earlier w after ≡ [] → IsOfName ps n.letters → same_bytes name.letters n.letters ≡ true
    → held_is (λ h. level_of h.variable == 1) w ≡ true
    → list_any (begins_named n) (variable_then w members rest) ≡ true
own_found ps earlier name (Variable' h) after n members rest k e p s l =
    let level = one_is (level_of h.variable) l in
    let above = k.0 (omega (arith, level)) in
    let alone : stands_alone h ≡ true = ap (λ xs. length xs == 0) above in
    let letters = same_equal name.letters n.letters s in
    let own : h.variable.declared.name.letters ≡ n.letters = ap (λ m. m.letters) (sym k.1) ∙ letters in
    let named : IsOfName ps h.variable.declared.name.letters = subst (IsOfName ps) (sym own) p in
    let builtin = no_builtin ps h after (attributes_fine ps earlier h after e) (parameter_is ps h above level named)
    alone in
    any_then (stands_alone h) (not (has 13 (own_attributes h))) n h members rest alone (ap not builtin)
    (subst (λ l. same_bytes l n.letters ≡ true) (sym own) (same_self n.letters)) where
      one_is : (n : ℕ) → (n == 1) ≡ true → n ≡ 1
      one_is n e = grind (arith, nat_tests)
own_found ps earlier name Label after n members rest k e p s l = absurd (cc l)
own_found ps earlier name (ProcedureName head) after n members rest k e p s l = absurd (cc l)

pub any_declared : (ps : List T.Name) (earlier : List Held) (ds : List Declaration) (n : T.Name) → AllWell ds
    → declarations_faults ps earlier ds ≡ [] → IsOfName ps n.letters → declares ds n ≡ true
    → list_any (begins_named n) (variables_in ds) ≡ true
any_declared ps earlier [] n k e p d = absurd (cc d)
any_declared ps earlier (x ∷ ds) n k e p d =
    let own = what_faults ps earlier x.what ds in
    let others = declarations_faults ps (structure_after earlier x.what) ds in
    by (same_bytes x.name.letters n.letters) (held_is (λ h. level_of h.variable == 1) x.what) refl refl d
    (first_empty own others e)
    (λ d. any_declared ps (structure_after earlier x.what) ds n k.1 (second_empty own others e) p d) where
      by : (a b : Bool) → same_bytes x.name.letters n.letters ≡ a → held_is (λ h. level_of h.variable == 1) x.what ≡ b
          → ((a && b) || declares ds n) ≡ true → what_faults ps earlier x.what ds ≡ []
          → (declares ds n ≡ true → list_any (begins_named n) (variables_in ds) ≡ true)
          → list_any (begins_named n) (variable_then x.what (members_first ds) (variables_in ds)) ≡ true
      by true true s l d f more =
          own_found ps earlier x.name x.what ds n (members_first ds) (variables_in ds) k.0 f p s l
      by true false s l d f more = any_kept x.what n (members_first ds) (variables_in ds) (more d)
      by false b s l d f more = any_kept x.what n (members_first ds) (variables_in ds) (more d)
