-- What is so of the attributes of each member of a variable, where declarations break no rule.
use Rattle.std.proofs.Common.{◌≡◌, ℕ, zero, suc, ◌+◌, ◌==◌, Bool, true, false, not, ◌&&◌, ◌||◌, List, [], ◌∷◌, ◌<◌}
use Rattle.std.proofs.Common.{◌++◌, length, Some, if◌then◌else◌, refl, sym, ap, ◌∙◌, subst, arith}
use Rattle.std.specs.Prelude.{slice_get, nat_lt}
use Rattle.std.specs.List.{list_any, flat_map}
use Rattle.std.proofs.lemmas.Bool.Decides.{nat_tests}
use Rattle.pli_language.specs.declared.fault.SourceKind.TheVariants.{BadAttributes, NestedArea}
use Rattle.pli_language.specs.Refusals.{fault}
use Rattle.pli_language.specs.Tree as T
use Rattle.pli_language.specs.Declarations.{Variable, Held, What, Variable', Label, ProcedureName, Declaration}
use Rattle.pli_language.specs.Declarations.{dimensions_of}
use Rattle.pli_language.specs.Declaring.{when, has, has_kind, one, own_attributes, stands_alone, has_members}
use Rattle.pli_language.specs.Declaring.{own_dimensions, attributes_clash, attributes_are_bad, area_is_nested, row_of}
use Rattle.pli_language.specs.Declaring.{variable_faults, what_faults, structure_after, declarations_faults}
use Rattle.pli_typing.specs.Variables as V
use Rattle.pli_typing.specs.Variables.{members_first, member_then, variable_then, variables_in}
use Rattle.well_formed_trees.specs.Every.{Every}
use Rattle.well_formed_trees.proofs.Lists.{first_empty, second_empty, first_false, second_false, both_false}
use Rattle.well_formed_trees.proofs.Places.{same_some, every_at}
use Rattle.well_formed_trees.proofs.Parameters.{none_when, attributes_fine}
use Rattle.well_formed_trees.proofs.Structures.{AreHeld, IsStructure, has_some}

-- ---- each member breaks no rule

pub record IsFineMember (ps : List T.Name) (m : Held) : Type 0 where
  pub earlier : List Held
  pub after : List Declaration
  pub fine : variable_faults ps earlier m after ≡ []

pub record IsFineVariable (ps : List T.Name) (all : List Held) : Type 0 where
  pub root : Held
  pub earlier : List Held
  pub after : List Declaration
  pub are : all ≡ root ∷ members_first after
  pub alone : stands_alone root ≡ true
  pub own : variable_faults ps earlier root after ≡ []
  pub more : declarations_faults ps (structure_after earlier (Variable' root)) after ≡ []

member_fine : (ps : List T.Name) (earlier : List Held) (w : What) (ds : List Declaration) → what_faults ps earlier w
    ds ≡ []
    → Every (IsFineMember ps) (members_first ds) → Every (IsFineMember ps) (member_then w (members_first ds))
member_fine ps earlier (Variable' h) ds f k = by (stands_alone h) where
  by : (b : Bool) → Every (IsFineMember ps) (if b then [] else h ∷ members_first ds)
  by true = tt
  by false = (record { earlier = earlier; after = ds; fine = f }, k)
member_fine ps earlier Label ds f k = tt
member_fine ps earlier (ProcedureName head) ds f k = tt

members_fine : (ps : List T.Name) (earlier : List Held) (ds : List Declaration) → declarations_faults ps earlier ds ≡ []
    → Every (IsFineMember ps) (members_first ds)
members_fine ps earlier [] f = tt
members_fine ps earlier (d ∷ ds) f =
    let own = what_faults ps earlier d.what ds in
    let others = declarations_faults ps (structure_after earlier d.what) ds in
    member_fine ps earlier d.what ds (first_empty own others f)
    (members_fine ps (structure_after earlier d.what) ds (second_empty own others f))

pub all_fine : (ps : List T.Name) (all : List Held) → IsFineVariable ps all → Every (IsFineMember ps) all
all_fine ps all h =
    subst (Every (IsFineMember ps)) (sym h.are) (
      record { earlier = h.earlier; after = h.after; fine = h.own },
      members_fine ps (structure_after h.earlier (Variable' h.root)) h.after h.more,
    )

variable_fine : (ps : List T.Name) (earlier : List Held) (w : What) (ds : List Declaration)
    → what_faults ps earlier w ds ≡ [] → declarations_faults ps (structure_after earlier w) ds ≡ []
    → Every (IsFineVariable ps) (variables_in ds)
    → Every (IsFineVariable ps) (variable_then w (members_first ds) (variables_in ds))
variable_fine ps earlier (Variable' h) ds f g k = by (stands_alone h) (not (has 13 (own_attributes h))) refl where
  by : (a b : Bool) → stands_alone h ≡ a
      → Every (IsFineVariable ps) (if a && b then (h ∷ members_first ds) ∷ variables_in ds else variables_in ds)
  by true true e = (
    record { root = h; earlier = earlier; after = ds; are = refl; alone = e; own = f; more = g },
    k,
  )
  by true false e = k
  by false b e = k
variable_fine ps earlier Label ds f g k = k
variable_fine ps earlier (ProcedureName head) ds f g k = k

pub variables_fine : (ps : List T.Name) (earlier : List Held) (ds : List Declaration)
    → declarations_faults ps earlier ds ≡ [] → Every (IsFineVariable ps) (variables_in ds)
variables_fine ps earlier [] f = tt
variables_fine ps earlier (d ∷ ds) f =
    let own = what_faults ps earlier d.what ds in
    let others = declarations_faults ps (structure_after earlier d.what) ds in
    variable_fine ps earlier d.what ds (first_empty own others f) (second_empty own others f)
    (variables_fine ps (structure_after earlier d.what) ds (second_empty own others f))

-- ---- what that says of attributes

pub no_clash : (ps : List T.Name) (m : Held) → IsFineMember ps m → attributes_clash (own_attributes m) ≡ false
no_clash ps m h =
    second_false _ _ (first_false _ _ (first_false _ _ (first_false _ _ (first_false _ _ (first_false _ _
    (first_false _ _ (attributes_fine ps h.earlier m h.after h.fine)))))))

pub not_nested : (ps : List T.Name) (earlier : List Held) (m : Held) (after : List Declaration)
    → variable_faults ps earlier m after ≡ [] → area_is_nested m ≡ false
not_nested ps earlier m after f =
    none_when (area_is_nested m) (fault m.variable.declared.name.place NestedArea)
    (second_empty (when (attributes_are_bad ps m after) (fault m.variable.declared.name.place BadAttributes)) _
    (first_empty _ _ (first_empty _ _ (first_empty _ _ f))))

-- what has a kind has no members
no_members : (ps : List T.Name) (earlier : List Held) (m : Held) (after : List Declaration)
    → variable_faults ps earlier m after ≡ [] → has_kind (own_attributes m) ≡ true → has_members m after ≡ false
no_members ps earlier m after f k =
    by (has_members m after) (has_kind (own_attributes m)) _ _ _
    (second_false _ _ (attributes_fine ps earlier m after f)) k where
      by : (h k v i e : Bool) → (if h then (k || v) || i else e) ≡ false → k ≡ true → h ≡ false
      by false k v i e f g = refl
      by true true v i e f g = absurd (cc f)
      by true false v i e f g = absurd (cc g)

kind_of_area : (all : List T.Attribute) → has 7 all ≡ true → has_kind all ≡ true
kind_of_area all e = by (one (has 7 all)) _ (ap one e) where
  by : (o n : ℕ) → o ≡ 1 → nat_lt 0 (n + o) ≡ true
  by o n e = grind (arith, nat_tests)

-- ---- an area is a variable by itself

pub record IsOnlyArea (all : List Held) (m : Held) : Type 0 where
  pub only : all ≡ m ∷ []
  pub alone : stands_alone m ≡ true
  pub none : V.all_dimensions m ≡ []
  pub not_controlled : has 10 (own_attributes m) ≡ false
  pub not_based : has 11 (own_attributes m) ≡ false

-- the tests of a nested area
pub record AreaTests (m : Held) : Type 0 where
  pub alone : stands_alone m ≡ true
  pub none : nat_lt 0 (own_dimensions m) ≡ false
  pub not_controlled : has 10 (own_attributes m) ≡ false
  pub not_based : has 11 (own_attributes m) ≡ false

pub area_tests : (m : Held) → area_is_nested m ≡ false → has 7 (own_attributes m) ≡ true → AreaTests m
area_tests m e a =
    let all = tests (has 7 (own_attributes m)) _ e a in
    let three = first_false _ _ all in
    let two = first_false _ _ three in
    record {
      alone = not_not (stands_alone m) (first_false _ _ two);
      none = second_false _ _ two;
      not_controlled = second_false _ _ three;
      not_based = second_false _ _ all;
    } where
      tests : (a b : Bool) → (a && b) ≡ false → a ≡ true → b ≡ false
      tests true b e f = e
      tests false b e f = absurd (cc f)

      not_not : (b : Bool) → not b ≡ false → b ≡ true
      not_not true e = refl
      not_not false e = absurd (cc e)

pub none_above : {X : Type 0} (xs : List X) → (length xs == 0) ≡ true → xs ≡ []
none_above [] e = refl
none_above (x ∷ xs) e = absurd (never (length xs) e) where
  never : (n : ℕ) → (suc n == 0) ≡ true → ⊥
  never n e = grind (arith, nat_tests)

no_more : {X : Type 0} (xs : List X) → nat_lt 0 (length xs) ≡ false → xs ≡ []
no_more [] e = refl
no_more (x ∷ xs) e = absurd (never (length xs) e) where
  never : (n : ℕ) → nat_lt 0 (suc n) ≡ false → ⊥
  never n e = grind (arith, nat_tests)

root_only : (g : Held) (after : List Declaration) → stands_alone g ≡ true → has_members g after ≡ false
    → members_first after ≡ []
root_only g after a e = by (members_first after) refl where
  by : (ms : List Held) → members_first after ≡ ms → ms ≡ []
  by [] f = refl
  by (m ∷ ms) f =
      absurd (cc (has_some g m after a (0, ap (λ l. slice_get l 0) f), e))

pub held_not_alone : (chain : List Variable) (ms : List Held) → AreHeld chain ms → Every (λ m. stands_alone m ≡ false)
    ms
held_not_alone chain [] h = tt
held_not_alone chain (m ∷ ms) h = (h.1.0, held_not_alone (m.above ++ m.variable ∷ []) ms h.1.1)

pub only_area : (ps : List T.Name) (all : List Held) → IsStructure all → IsFineVariable ps all → (place : ℕ) (m : Held)
    → slice_get all place ≡ Some m → has 7 (own_attributes m) ≡ true → IsOnlyArea all m
only_area ps [] s h place m e a = absurd s
only_area ps (g ∷ ms) s h zero m e a =
    let f = all_fine ps (g ∷ ms) h in
    let same : g ≡ m = same_some g m e in
    let roots = same_lists g h.root ms (members_first h.after) h.are in
    let tests = area_tests m
    (subst (λ x. area_is_nested x ≡ false) same (not_nested ps f.0.earlier g f.0.after f.0.fine)) a in
    let kind = kind_of_area (own_attributes m) a in
    let own : variable_faults ps h.earlier m h.after ≡ [] =
    subst (λ x. variable_faults ps h.earlier x h.after ≡ []) (sym roots.0 ∙ same) h.own in
    let none = root_only m h.after tests.alone (no_members ps h.earlier m h.after own kind) in
    record {
      only = ap (λ x. x ∷ ms) same ∙ ap (λ l. m ∷ l) (roots.1 ∙ none);
      alone = tests.alone;
      none =
          ap (λ vs. flat_map dimensions_of vs ++ dimensions_of m.variable) (none_above m.above tests.alone)
          ∙ no_more (dimensions_of m.variable) tests.none;
      not_controlled = tests.not_controlled;
      not_based = tests.not_based;
    } where
      same_lists : (g k : Held) (ms ns : List Held) → g ∷ ms ≡ k ∷ ns → (g ≡ k) × (ms ≡ ns)
      same_lists g k ms ns e = (cc e, cc e)
only_area ps (g ∷ ms) s h (suc place) m e a =
    let f = every_at (IsFineMember ps) ms place m (all_fine ps (g ∷ ms) h).1 e in
    let tests = area_tests m (not_nested ps f.earlier m f.after f.fine) a in
    let held = every_at (λ m. stands_alone m ≡ false) ms place m (held_not_alone (g.variable ∷ []) ms s.1) e in
    absurd (cc (tests.alone, held))

-- ---- each declaration

pub declared_fine : (ps : List T.Name) (earlier : List Held) (ds : List Declaration) (i : ℕ) (d : Declaration) (h :
    Held)
    → declarations_faults ps earlier ds ≡ [] → slice_get ds i ≡ Some d → d.what ≡ Variable' h → IsFineMember ps h
declared_fine ps earlier [] i d h f e w = absurd (cc e)
declared_fine ps earlier (x ∷ ds) zero d h f e w =
    let others = declarations_faults ps (structure_after earlier x.what) ds in
    let same : x.what ≡ Variable' h = ap (λ (y : Declaration). y.what) (same_some x d e) ∙ w in
    record {
      earlier = earlier;
      after = ds;
      fine =
          subst (λ w. what_faults ps earlier w ds ≡ []) same
          (first_empty (what_faults ps earlier x.what ds) others f);
    }
declared_fine ps earlier (x ∷ ds) (suc i) d h f e w =
    let own = what_faults ps earlier x.what ds in
    declared_fine ps (structure_after earlier x.what) ds i d h (second_empty own _ f) e w

-- an area isn't BUILTIN, which stands alone
other_row : (all : List T.Attribute) → has 7 all ≡ true
    → list_any (λ a. not ((row_of a == 13) || (row_of a == 16))) all ≡ true
other_row [] e = absurd (cc e)
other_row (a ∷ all) e = by (row_of a) (has 7 all) e (other_row all) where
  no_row : (n : ℕ) → (n == 7) ≡ true → ((n == 13) || (n == 16)) ≡ false
  no_row n e = both_false (n == 13) (n == 16) (is_no n 13 e (omega arith)) (is_no n 16 e (omega arith)) where
    is_no : (n m : ℕ) → (n == 7) ≡ true → 7 < m → (n == m) ≡ false
    is_no n m e h = grind (arith, nat_tests)

  by : (n : ℕ) (b : Bool) → ((n == 7) || b) ≡ true
      → (b ≡ true → list_any (λ a. not ((row_of a == 13) || (row_of a == 16))) all ≡ true)
      → (not ((n == 13) || (n == 16)) || list_any (λ a. not ((row_of a == 13) || (row_of a == 16))) all) ≡ true
  by n b e k = which (n == 7) refl e where
    which : (t : Bool) → (n == 7) ≡ t → (t || b) ≡ true
        → (not ((n == 13) || (n == 16)) || list_any (λ a. not ((row_of a == 13) || (row_of a == 16))) all) ≡ true
    which true s e =
        ap (λ t. not t || list_any (λ a. not ((row_of a == 13) || (row_of a == 16))) all) (no_row n s)
    which false s e = late (not ((n == 13) || (n == 16))) (k e) where
      late : (t : Bool) → list_any (λ a. not ((row_of a == 13) || (row_of a == 16))) all ≡ true
          → (t || list_any (λ a. not ((row_of a == 13) || (row_of a == 16))) all) ≡ true
      late true e = refl
      late false e = e

pub area_no_builtin : (ps : List T.Name) (m : Held) → IsFineMember ps m → has 7 (own_attributes m) ≡ true
    → has 13 (own_attributes m) ≡ false
area_no_builtin ps m h a =
    let all = own_attributes m in
    let clash = second_false _ _ (first_false _ _ (first_false _ _ (first_false _ _ (first_false _ _ (first_false _ _
    (attributes_fine ps h.earlier m h.after h.fine)))))) in
    alone (has 13 all) _ clash (other_row all a) where
      alone : (b o : Bool) → (b && o) ≡ false → o ≡ true → b ≡ false
      alone false o e f = refl
      alone true o e f = absurd (cc (e, f))
