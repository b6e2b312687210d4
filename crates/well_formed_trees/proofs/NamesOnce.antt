-- No two variables of level 1 of a block have one name.
use Rattle.std.proofs.Common.{◌≡◌, ℕ, ◌+◌, ◌≤◌, ◌==◌, Bool, true, false, not, ◌&&◌, ◌||◌, List, [], ◌∷◌}
use Rattle.std.proofs.Common.{if◌then◌else◌, refl, sym, ap, ◌∙◌, subst, arith}
use Rattle.std.specs.List.{list_any}
use Rattle.pli_language.specs.declared.fault.SourceKind.TheVariants.{DeclaredTwice}
use Rattle.pli_language.specs.Keywords.{same_bytes}
use Rattle.pli_language.specs.Refusals.{fault}
use Rattle.pli_language.specs.Tree as T
use Rattle.pli_language.specs.Declarations.{level_of, Held, What, Variable', Label, ProcedureName, Declaration}
use Rattle.pli_language.specs.Declaring.{has, own_attributes, stands_alone, twice_faults, are_rivals, are_siblings}
use Rattle.pli_language.specs.Declaring.{when}
use Rattle.pli_typing.specs.Variables.{members_first, variable_then, variables_in}
use Rattle.well_formed_trees.proofs.Lists.{first_empty, second_empty}
use Rattle.well_formed_trees.proofs.Letters.{same_equal, same_self, first_true, second_true}
use Rattle.well_formed_trees.proofs.Parameters.{none_when}
use Rattle.well_formed_trees.proofs.DeclaredOnce.{total}
use Rattle.well_formed_trees.proofs.Structures.{Chained, Links, chain_behind}

-- a variable of level 1 with these letters
abbrev pub is_level : List ℕ → T.Name → What → Bool
is_level letters name (Variable' h) = same_bytes name.letters letters && (level_of h.variable == 1)
is_level letters name Label = false
is_level letters name (ProcedureName head) = false

abbrev pub counted : Bool → ℕ
counted true = 1
counted false = 0

abbrev pub level_named : List ℕ → Declaration → ℕ
level_named letters d = counted (is_level letters d.name d.what)

-- two of them are rivals
rival_of : (letters : List ℕ) (b d : T.Name) (v w : What) → is_level letters b v ≡ true → is_level letters d w ≡ true
    → (same_bytes b.letters d.letters && are_rivals v w) ≡ true
rival_of letters b d (Variable' x) (Variable' y) e f =
    let s = same_equal b.letters letters (first_true (same_bytes b.letters letters) _ e) in
    let t = same_equal d.letters letters (first_true (same_bytes d.letters letters) _ f) in
    let l = second_true (same_bytes b.letters letters) _ e in
    let k = second_true (same_bytes d.letters letters) _ f in
    let same : same_bytes b.letters d.letters ≡ true =
    subst (λ l. same_bytes b.letters l ≡ true) (s ∙ sym t) (same_self b.letters) in
    ap (λ t. t && are_rivals (Variable' x) (Variable' y)) same
    ∙ (ap (λ t. (t && (level_of y.variable == 1)) || are_siblings (Variable' x) (Variable' y)) l
    ∙ ap (λ t. t || are_siblings (Variable' x) (Variable' y)) k)
rival_of letters b d (Variable' x) Label e f = absurd (cc f)
rival_of letters b d (Variable' x) (ProcedureName head) e f = absurd (cc f)
rival_of letters b d Label w e f = absurd (cc e)
rival_of letters b d (ProcedureName head) w e f = absurd (cc e)

any_rival : (letters : List ℕ) (before : List Declaration) (d : T.Name) (w : What)
    → list_any (λ b. is_level letters b.name b.what) before ≡ true → is_level letters d w ≡ true
    → list_any (λ b. same_bytes b.name.letters d.letters && are_rivals b.what w) before ≡ true
any_rival letters [] d w e f = absurd (cc e)
any_rival letters (b ∷ bs) d w e f = by (is_level letters b.name b.what) refl e (any_rival letters bs d w) where
  later : (t : Bool) → list_any (λ b. same_bytes b.name.letters d.letters && are_rivals b.what w) bs ≡ true
      → (t || list_any (λ b. same_bytes b.name.letters d.letters && are_rivals b.what w) bs) ≡ true
  later true e = refl
  later false e = e

  by : (t : Bool) → is_level letters b.name b.what ≡ t
      → (t || list_any (λ b. is_level letters b.name b.what) bs) ≡ true
      → (list_any (λ b. is_level letters b.name b.what) bs ≡ true → is_level letters d w ≡ true
      → list_any (λ b. same_bytes b.name.letters d.letters && are_rivals b.what w) bs ≡ true)
      → list_any (λ b. same_bytes b.name.letters d.letters && are_rivals b.what w) (b ∷ bs) ≡ true
  by true s e k =
      ap (λ t. t || list_any (λ b. same_bytes b.name.letters d.letters && are_rivals b.what w) bs)
      (rival_of letters b.name d b.what w s f)
  by false s e k = later (same_bytes b.name.letters d.letters && are_rivals b.what w) (k e f)

none_more : (letters : List ℕ) (before ds : List Declaration)
    → list_any (λ b. is_level letters b.name b.what) before ≡ true → twice_faults before ds ≡ []
    → total (level_named letters) ds ≡ 0
none_more letters before [] e f = refl
none_more letters before (d ∷ ds) e f =
    by (is_level letters d.name d.what) refl (none_more letters (d ∷ before) ds (late (is_level letters d.name d.what)
    e)
    (second_empty (when test (fault d.name.place DeclaredTwice)) _ f)) where
      test : Bool
      test = list_any (λ b. same_bytes b.name.letters d.name.letters && are_rivals b.what d.what) before

      late : (t : Bool) → list_any (λ b. is_level letters b.name b.what) before ≡ true
          → (t || list_any (λ b. is_level letters b.name b.what) before) ≡ true
      late true e = refl
      late false e = e

      by : (t : Bool) → is_level letters d.name d.what ≡ t → total (level_named letters) ds ≡ 0
          → counted t + total (level_named letters) ds ≡ 0
      by true s k =
          absurd (cc (
            any_rival letters before d.name d.what e s,
            none_when test (fault d.name.place DeclaredTwice)
                (first_empty (when test (fault d.name.place DeclaredTwice)) _ f),
          ))
      by false s k = omega (arith, k)

pub names_total : (letters : List ℕ) (before ds : List Declaration) → twice_faults before ds ≡ []
    → total (level_named letters) ds ≤ 1
names_total letters before [] f = omega arith
names_total letters before (d ∷ ds) f =
    let later = second_empty (when
    (list_any (λ b. same_bytes b.name.letters d.name.letters && are_rivals b.what d.what) before)
    (fault d.name.place DeclaredTwice)) _ f in
    by (is_level letters d.name d.what) refl later (names_total letters (d ∷ before) ds later) where
      by : (t : Bool) → is_level letters d.name d.what ≡ t → twice_faults (d ∷ before) ds ≡ []
          → total (level_named letters) ds ≤ 1 → counted t + total (level_named letters) ds ≤ 1
      by true s l k =
          let z = none_more letters (d ∷ before) ds
          (ap (λ t. t || list_any (λ b. is_level letters b.name b.what) before) s) l in
          omega (arith, z)
      by false s l k = omega (arith, k)

-- ---- so of the variables with their members

abbrev pub named_first : List ℕ → List Held → ℕ
named_first letters [] = 0
named_first letters (h ∷ hs) =
    counted (same_bytes h.variable.declared.name.letters letters && (level_of h.variable == 1))

pub first_total : (letters : List ℕ) (chain : _) (ds : List Declaration) → Chained chain ds
    → total (named_first letters) (variables_in ds) ≤ total (level_named letters) ds
first_total letters chain [] c = omega arith
first_total letters chain (d ∷ ds) c = by d.what c.0 (first_total letters (chain_behind d.what) ds c.1) where
  by : (w : What) → Links chain d.name w
      → total (named_first letters) (variables_in ds) ≤ total (level_named letters) ds
      → total (named_first letters) (variable_then w (members_first ds) (variables_in ds))
      ≤ counted (is_level letters d.name w) + total (level_named letters) ds
  by (Variable' h) l t =
      let s : counted (same_bytes d.name.letters letters && (level_of h.variable == 1))
      ≡ named_first letters (h ∷ members_first ds) =
      ap (λ (n : T.Name). counted (same_bytes n.letters letters && (level_of h.variable == 1))) l.1 in
      which (stands_alone h && not (has 13 (own_attributes h))) s where
        which : (b : Bool) → counted (same_bytes d.name.letters letters && (level_of h.variable == 1))
            ≡ named_first letters (h ∷ members_first ds)
            → total (named_first letters) (if b then (h ∷ members_first ds) ∷ variables_in ds else variables_in ds)
            ≤ counted (same_bytes d.name.letters letters && (level_of h.variable == 1))
            + total (level_named letters) ds
        which true s = omega (arith, s, t)
        which false s = omega (arith, t)
  by Label l t = omega (arith, t)
  by (ProcedureName head) l t = omega (arith, t)
