-- What is kept by REFER is an extent of the last member, and one number before that has the name.
use Rattle.std.proofs.Common.{◌≡◌, suc, ◌+◌, ◌<◌, ◌==◌, Bool, true, false, not, ◌&&◌, List, [], ◌∷◌}
use Rattle.std.proofs.Common.{◌++◌, length, filter, Some, if◌then◌else◌, refl, sym, ap, ◌∙◌, subst}
use Rattle.std.proofs.Common.{arith, inl, inr}
use Rattle.std.specs.Prelude.{slice_get, ◌⊎◌}
use Rattle.std.specs.List.{flat_map}
use Rattle.std.proofs.lemmas.Bool.{eqb-true}
use Rattle.std.proofs.lemmas.List.{append_assoc}
use Rattle.pli_language.specs.Tree as T
use Rattle.pli_language.specs.Declarations.{Held, What, Variable', Label, ProcedureName}
use Rattle.pli_language.specs.Declarations.{Declaration}
use Rattle.pli_language.specs.Declaring.{has, class_attributes}
use Rattle.pli_language.specs.Declaring.{stands_alone, inherited_dimensions, held_is, is_deeper}
use Rattle.pli_language.specs.Declaring.{goes_on, leaves_before}
use Rattle.pli_language.specs.Declaring.{is_scalar_number, is_only_number, is_parameter, may_refer}
use Rattle.pli_typing.specs.Generations.{Kept, kept_in}
use Rattle.pli_typing.specs.Generations.{is_named}
use Rattle.pli_typing.specs.Variables.{members_first, member_then}
use Rattle.pli_typing.specs.Variables.{leaves_in, index_where}
use Rattle.well_formed_trees.specs.Every.{Every}
use Rattle.well_formed_trees.proofs.Letters.{first_true, second_true}
use Rattle.well_formed_trees.proofs.FineVariables.{IsFineVariable}
use Rattle.well_formed_trees.proofs.ReferRules.{AllFineIn, variable_fine_in, KeepsExtent, KeepsLength, IsKeeping}
use Rattle.well_formed_trees.proofs.ReferRules.{bounds_kept, lengths_kept, member_keeps}

-- ---- the first that is kept

abbrev pub StartsWith : List Kept → Kept → Type 0
StartsWith ks k = (more : List Kept) × (ks ≡ k ∷ more)

pub starts_every : (P : Kept → Type 0) (ks : List Kept) (k : Kept) → Every P ks → StartsWith ks k → P k
starts_every P ks k h s = (subst (Every P) s.1 h).0

starts_in : (xs ys : List Kept) (k : Kept) (ks : List Kept) → xs ++ ys ≡ k ∷ ks
    → StartsWith xs k ⊎ StartsWith ys k
starts_in [] ys k ks e = inr (ks, e)
starts_in (x ∷ xs) ys k ks e = inl (xs, ap (λ y. y ∷ xs) (first_is (xs ++ ys) ks e)) where
  first_is : (xs ks : List Kept) → x ∷ xs ≡ k ∷ ks → x ≡ k
  first_is xs ks e = cc e

-- an extent of the last member
pub record LastKeeps (ps : List T.Name) (all : List Held) (k : Kept) : Type 0 where
  pub before : List Held
  pub m : Held
  pub after : List Declaration
  pub are : all ≡ before ++ m ∷ []
  pub keeping : IsKeeping ps before m after
  pub kept : StartsWith (bounds_kept m) k ⊎ StartsWith (lengths_kept m) k

pub may_of : (ps : List T.Name) (before : List Held) (m : Held) (after : List Declaration) (k : Kept)
    → IsKeeping ps before m after → StartsWith (bounds_kept m) k ⊎ StartsWith (lengths_kept m) k
    → may_refer m after ≡ true
may_of ps before m after k h (inl s) =
    (starts_every (KeepsExtent ps before m after 1) (bounds_kept m) k h.bounds s).may
may_of ps before m after k h (inr s) =
    (starts_every (KeepsLength ps before m after) (lengths_kept m) k h.lengths s).keeps.may

pub one_of : (ps : List T.Name) (before : List Held) (m : Held) (after : List Declaration) (k : Kept)
    → IsKeeping ps before m after → StartsWith (bounds_kept m) k ⊎ StartsWith (lengths_kept m) k
    → is_only_number (filter (is_named k.member) (leaves_before before m)) ≡ true
one_of ps before m after k h (inl s) =
    (starts_every (KeepsExtent ps before m after 1) (bounds_kept m) k h.bounds s).one
one_of ps before m after k h (inr s) =
    (starts_every (KeepsLength ps before m after) (lengths_kept m) k h.lengths s).keeps.one

pub no_parameter_of : (ps : List T.Name) (before : List Held) (m : Held) (after : List Declaration) (k : Kept)
    → IsKeeping ps before m after → StartsWith (bounds_kept m) k ⊎ StartsWith (lengths_kept m) k
    → is_parameter ps m ≡ false
no_parameter_of ps before m after k h (inl s) =
    (starts_every (KeepsExtent ps before m after 1) (bounds_kept m) k h.bounds s).no_parameter
no_parameter_of ps before m after k h (inr s) =
    (starts_every (KeepsLength ps before m after) (lengths_kept m) k h.lengths s).keeps.no_parameter

-- a member at the end of a BASED structure, under no dimension
pub record EndsStructure (m : Held) (after : List Declaration) : Type 0 where
  pub based : has 11 (class_attributes m) ≡ true
  pub held : not (stands_alone m) ≡ true
  pub ended : not (goes_on after) ≡ true
  pub flat : inherited_dimensions m ≡ 0

pub may_is : (m : Held) (after : List Declaration) → may_refer m after ≡ true → EndsStructure m after
may_is m after e =
    let b = has 11 (class_attributes m) in
    let h = not (stands_alone m) in
    let g = not (goes_on after) in
    let three = first_true ((b && h) && g) (inherited_dimensions m == 0) e in
    let two = first_true (b && h) g three in
    record {
      based = first_true b h two;
      held = second_true b h two;
      ended = second_true (b && h) g three;
      flat =
          eqb-true (inherited_dimensions m) 0 (second_true ((b && h) && g) (inherited_dimensions m == 0) e);
    }

-- where the structure doesn't go on, no member is behind
none_follows : (ds : List Declaration) → not (goes_on ds) ≡ true → members_first ds ≡ []
none_follows [] e = refl
none_follows (d ∷ ds) e = by d.what e where
  by : (w : What) → not (held_is (λ b. not (stands_alone b)) w) ≡ true → member_then w (members_first ds) ≡ []
  by Label e = refl
  by (ProcedureName head) e = refl
  by (Variable' h) e = which (stands_alone h) e where
    which : (b : Bool) → not (not b) ≡ true → (if b then [] else h ∷ members_first ds) ≡ []
    which true e = refl
    which false e = absurd (cc e)

find_kept : (ps : List T.Name) (all before ms : List Held) → AllFineIn ps before ms → all ≡ before ++ ms → (k : Kept)
    (ks : List Kept) → flat_map kept_in ms ≡ k ∷ ks → LastKeeps ps all k
find_kept ps all before [] f a k ks e = absurd (cc e)
find_kept ps all before (m ∷ ms) f a k ks e =
    by (kept_in m) refl e
    (find_kept ps all (before ++ m ∷ []) ms f.1 (a ∙ sym (append_assoc before (m ∷ []) ms)) k ks) where
      by : (l : List Kept) → kept_in m ≡ l → l ++ flat_map kept_in ms ≡ k ∷ ks
          → (flat_map kept_in ms ≡ k ∷ ks → LastKeeps ps all k) → LastKeeps ps all k
      by [] g e next = next e
      by (x ∷ xs) g e next =
          let keeping = member_keeps ps before m f.0.after f.0.fine in
          let same : x ∷ xs ≡ k ∷ xs = ap (λ y. y ∷ xs) (first_is (xs ++ flat_map kept_in ms) ks e) in
          let kept = starts_in (bounds_kept m) (lengths_kept m) k xs (g ∙ same) in
          let may = may_is m f.0.after (may_of ps before m f.0.after k keeping kept) in
          let none : ms ≡ [] = sym f.0.behind_are ∙ none_follows f.0.after may.ended in
          record {
            before = before;
            m = m;
            after = f.0.after;
            are = a ∙ ap (λ l. before ++ m ∷ l) none;
            keeping = keeping;
            kept = kept;
          } where
            first_is : (xs ks : List Kept) → x ∷ xs ≡ k ∷ ks → x ≡ k
            first_is xs ks e = cc e

-- a variable of level 1 keeps nothing itself
root_keeps_none : (ps : List T.Name) (before : List Held) (root : Held) (after : List Declaration)
    → stands_alone root ≡ true → IsKeeping ps before root after → kept_in root ≡ []
root_keeps_none ps before root after a h = by (kept_in root) refl where
  by : (l : List Kept) → kept_in root ≡ l → l ≡ []
  by [] g = refl
  by (x ∷ xs) g =
      let may = may_is root after
      (may_of ps before root after x h (starts_in (bounds_kept root) (lengths_kept root) x xs g)) in
      absurd (cc (ap not a, may.held))

pub last_keeps : (ps : List T.Name) (all : List Held) → IsFineVariable ps all → (k : Kept) (ks : List Kept)
    → flat_map kept_in all ≡ k ∷ ks → LastKeeps ps all k
last_keeps ps all f k ks e =
    let none = root_keeps_none ps f.earlier f.root f.after f.alone
    (member_keeps ps f.earlier f.root f.after f.own) in
    let ms = members_first f.after in
    let more : flat_map kept_in ms ≡ k ∷ ks =
    ap (λ l. l ++ flat_map kept_in ms) (sym none) ∙ (sym (ap (flat_map kept_in) f.are) ∙ e) in
    find_kept ps all (f.root ∷ []) ms (variable_fine_in ps f.root f.earlier f.after f.alone f.more) f.are k ks more

-- ---- the member that keeps it

pub leaves_end : (before : List Held) (m : Held) → leaves_in (before ++ m ∷ []) ≡ leaves_before before m ++ m ∷ []
leaves_end [] m = refl
leaves_end (a ∷ []) m = by (is_deeper a m) where
  by : (t : Bool) → (if t then leaves_in (m ∷ []) else a ∷ leaves_in (m ∷ [])) ≡ (if t then [] else a ∷ []) ++ m ∷ []
  by true = refl
  by false = refl
leaves_end (a ∷ b ∷ more) m = by (is_deeper a b) (leaves_end (b ∷ more) m) where
  by : (t : Bool) → leaves_in (b ∷ more ++ m ∷ []) ≡ leaves_before (b ∷ more) m ++ m ∷ []
      → (if t then leaves_in (b ∷ more ++ m ∷ []) else a ∷ leaves_in (b ∷ more ++ m ∷ []))
      ≡ (if t then leaves_before (b ∷ more) m else a ∷ leaves_before (b ∷ more) m) ++ m ∷ []
  by true e = e
  by false e = ap (λ l. a ∷ l) e

pub record IsNumberAmong (t : Held → Bool) (xs ys : List Held) : Type 0 where
  pub number : Held
  pub early : index_where t (xs ++ ys) < length xs
  pub found : slice_get (xs ++ ys) (index_where t (xs ++ ys)) ≡ Some number
  pub scalar : is_scalar_number number ≡ true

pub number_among : (t : Held → Bool) (xs ys : List Held) → is_only_number (filter t xs) ≡ true → IsNumberAmong t xs ys
number_among t [] ys e = absurd (cc e)
number_among t (x ∷ xs) ys e = by (t x) refl e (number_among t xs ys) where
  only : (rest : List Held) → is_only_number (x ∷ rest) ≡ true → is_scalar_number x ≡ true
  only [] e = e
  only (y ∷ rest) e = absurd (cc e)

  by : (b : Bool) → t x ≡ b → is_only_number (if b then x ∷ filter t xs else filter t xs) ≡ true
      → (is_only_number (filter t xs) ≡ true → IsNumberAmong t xs ys) → IsNumberAmong t (x ∷ xs) ys
  by true g e k = record {
    number = x;
    early = subst (λ b. (if b then 0 else index_where t (xs ++ ys) + 1) < suc (length xs)) (sym g) (omega arith);
    found = ap (λ b. slice_get (x ∷ (xs ++ ys)) (if b then 0 else index_where t (xs ++ ys) + 1)) g;
    scalar = only (filter t xs) e;
  }
  by false g e k =
      let n = k e in
      let i = index_where t (xs ++ ys) in
      let next : i + 1 ≡ suc i = omega arith in
      let early = n.early in
      record {
        number = n.number;
        early =
            subst (λ b. (if b then 0 else index_where t (xs ++ ys) + 1) < suc (length xs)) (sym g)
            (omega (arith, early));
        found =
            ap (λ b. slice_get (x ∷ (xs ++ ys)) (if b then 0 else index_where t (xs ++ ys) + 1)) g
            ∙ (ap (slice_get (x ∷ (xs ++ ys))) next ∙ n.found);
        scalar = n.scalar;
      }
