-- What the rules of REFER say of each extent that a member keeps: it is one of the last member of a BASED structure,
-- and one member before it has the name.
use Rattle.std.proofs.Common.{◌≡◌, ℕ, ◌==◌, Bool, true, false, not, ◌&&◌, ◌||◌, List, [], ◌∷◌, ◌++◌, filter}
use Rattle.std.proofs.Common.{Option, Some, None, if◌then◌else◌, refl, subst}
use Rattle.std.specs.Prelude.{is_some, ⊤}
use Rattle.std.specs.List.{flat_map}
use Rattle.std.proofs.lemmas.Bool.{eqb-true}
use Rattle.pli_language.specs.declared.fault.SourceKind.TheVariants.{BadExtent, BadRefer}
use Rattle.pli_language.specs.Refusals.{fault}
use Rattle.pli_language.specs.Tree as T
use Rattle.pli_language.specs.Declarations.{dimensions_of, Held, What, Variable', Label, ProcedureName, Declaration}
use Rattle.pli_language.specs.Declaring.{Use, Passed, when, has, own_attributes, stands_alone, own_dimensions}
use Rattle.pli_language.specs.Declaring.{is_parameter, bound_faults, attribute_extent_faults, extent_is_bad, may_refer}
use Rattle.pli_language.specs.Declaring.{keeps_extent, leaves_before, is_only_number, refer_faults, place_of_expr}
use Rattle.pli_language.specs.Declaring.{bound_refer_faults, attribute_refer_faults, variable_faults, what_faults}
use Rattle.pli_language.specs.Declaring.{structure_after, declarations_faults}
use Rattle.pli_typing.specs.Generations.{Kept, kept_with, kept_extent, kept_in_bound, kept_in_attribute}
use Rattle.pli_typing.specs.Generations.{is_named}
use Rattle.pli_typing.specs.Variables.{members_first, member_then}
use Rattle.well_formed_trees.specs.Every.{Every}
use Rattle.well_formed_trees.proofs.Lists.{first_empty, second_empty, first_false, all_empty, every_map}
use Rattle.well_formed_trees.proofs.Letters.{first_true, second_true}
use Rattle.well_formed_trees.proofs.Parameters.{none_when, not_false}
use Rattle.well_formed_trees.proofs.EvaluationsSound.{every_flat}
use Rattle.well_formed_trees.proofs.MembersFine.{extent_passed}

-- ---- members with what stands before and behind them

pub record IsFineIn (ps : List T.Name) (before : List Held) (m : Held) (behind : List Held) : Type 0 where
  pub after : List Declaration
  pub behind_are : members_first after ≡ behind
  pub fine : variable_faults ps before m after ≡ []

abbrev pub AllFineIn : List T.Name → (before : List Held) → List Held → Type 0
AllFineIn ps before [] = ⊤
AllFineIn ps before (m ∷ ms) = IsFineIn ps before m ms × AllFineIn ps (before ++ m ∷ []) ms

member_fine_in : (ps : List T.Name) (earlier : List Held) (w : What) (ds : List Declaration)
    → what_faults ps earlier w ds ≡ [] → declarations_faults ps (structure_after earlier w) ds ≡ []
    → ((e : List Held) → declarations_faults ps e ds ≡ [] → AllFineIn ps e (members_first ds))
    → AllFineIn ps earlier (member_then w (members_first ds))
member_fine_in ps earlier Label ds f g k = tt
member_fine_in ps earlier (ProcedureName head) ds f g k = tt
member_fine_in ps earlier (Variable' h) ds f g k = by (stands_alone h) g where
  by : (b : Bool) → declarations_faults ps (if b then h ∷ [] else earlier ++ h ∷ []) ds ≡ []
      → AllFineIn ps earlier (if b then [] else h ∷ members_first ds)
  by true g = tt
  by false g = (record { after = ds; behind_are = refl; fine = f }, k (earlier ++ h ∷ []) g)

members_fine_in : (ps : List T.Name) (earlier : List Held) (ds : List Declaration)
    → declarations_faults ps earlier ds ≡ [] → AllFineIn ps earlier (members_first ds)
members_fine_in ps earlier [] f = tt
members_fine_in ps earlier (d ∷ ds) f =
    let own = what_faults ps earlier d.what ds in
    let others = declarations_faults ps (structure_after earlier d.what) ds in
    member_fine_in ps earlier d.what ds (first_empty own others f) (second_empty own others f)
    (λ e g. members_fine_in ps e ds g)

-- behind a variable of level 1 stand its members
pub variable_fine_in : (ps : List T.Name) (root : Held) (earlier : List Held) (after : List Declaration)
    → stands_alone root ≡ true → declarations_faults ps (structure_after earlier (Variable' root)) after ≡ []
    → AllFineIn ps (root ∷ []) (members_first after)
variable_fine_in ps root earlier after a f =
    members_fine_in ps (root ∷ []) after
    (subst (λ b. declarations_faults ps (if b then root ∷ [] else earlier ++ root ∷ []) after ≡ []) a f)

-- ---- what is kept

-- an extent of a member that has so many dimensions
pub record KeepsExtent (ps : List T.Name) (before : List Held) (m : Held) (after : List Declaration) (many : ℕ)
    (k : Kept) : Type 0 where
  pub no_parameter : is_parameter ps m ≡ false
  pub may : may_refer m after ≡ true
  pub dimensions : own_dimensions m ≡ many
  pub one : is_only_number (filter (is_named k.member) (leaves_before before m)) ≡ true

pub record KeepsLength (ps : List T.Name) (before : List Held) (m : Held) (after : List Declaration) (k : Kept) : Type 0
  where
    pub keeps : KeepsExtent ps before m after 0 k
    pub fixed : has 3 (own_attributes m) ≡ false

-- what may be kept, by a member that is named
abbrev IsAllowedKept : Bool → (before : List Held) → Held → Kept → Type 0
IsAllowedKept allowed before m k =
    (allowed ≡ true) × (is_only_number (filter (is_named k.member) (leaves_before before m)) ≡ true)

kept_allowed : (allowed : Bool) (before : List Held) (m : Held) (e : T.Extent) (o : Option T.Refer)
    → refer_faults allowed before m o ≡ [] → Every (IsAllowedKept allowed before m) (kept_with e o)
kept_allowed allowed before m e None f = tt
kept_allowed allowed before m e (Some r) f =
    let keeps = keeps_extent before m r in
    let both = not_false (allowed && keeps) (none_when (not (allowed && keeps)) (fault r.place BadRefer) f) in
    ((first_true allowed keeps both, second_true allowed keeps both), tt)

keeps_by : (ps : List T.Name) (before : List Held) (m : Held) (after : List Declaration) (many : ℕ)
    → is_parameter ps m ≡ false → (k : Kept)
    → IsAllowedKept (may_refer m after && (own_dimensions m == many)) before m k → KeepsExtent ps before m after many k
keeps_by ps before m after many p k h = record {
  no_parameter = p;
  may = first_true (may_refer m after) (own_dimensions m == many) h.0;
  dimensions = eqb-true (own_dimensions m) many (second_true (may_refer m after) (own_dimensions m == many) h.0);
  one = h.1;
}

upper_keeps : (ps : List T.Name) (before : List Held) (m : Held) (after : List Declaration) → is_parameter ps m ≡ false
    → (u : T.Extent) → refer_faults (may_refer m after && (own_dimensions m == 1)) before m u.refer ≡ []
    → Every (KeepsExtent ps before m after 1) (kept_extent u)
upper_keeps ps before m after p u f =
    let allowed = may_refer m after && (own_dimensions m == 1) in
    every_map (IsAllowedKept allowed before m) (KeepsExtent ps before m after 1) (keeps_by ps before m after 1 p)
    (kept_extent u) (kept_allowed allowed before m u u.refer f)

bound_keeps : (ps : List T.Name) (before : List Held) (m : Held) (after : List Declaration)
    → is_parameter ps m ≡ false → (b : T.Bound) → bound_refer_faults before m after b ≡ []
    → Every (KeepsExtent ps before m after 1) (kept_in_bound b)
bound_keeps ps before m after p (T.StarBound place) f = tt
bound_keeps ps before m after p (T.Upper u) f = upper_keeps ps before m after p u f
bound_keeps ps before m after p (T.Both l u) f =
    upper_keeps ps before m after p u (second_empty (refer_faults false before m l.refer) _ f)

not_true : (b : Bool) → not b ≡ true → b ≡ false
not_true true e = absurd (cc e)
not_true false e = refl

length_keeps : (ps : List T.Name) (before : List Held) (m : Held) (after : List Declaration)
    → is_parameter ps m ≡ false → (a : T.Attribute) → attribute_refer_faults before m after a ≡ []
    → Every (KeepsLength ps before m after) (kept_in_attribute a)
length_keeps ps before m after p (T.Character (Some (T.Given e))) f =
    let own = may_refer m after && (own_dimensions m == 0) in
    let varying = has 3 (own_attributes m) in
    every_map (IsAllowedKept (own && not varying) before m) (KeepsLength ps before m after)
    (λ k h. record {
      keeps = keeps_by ps before m after 0 p k (first_true own (not varying) h.0, h.1);
      fixed = not_true varying (second_true own (not varying) h.0);
    }) (kept_extent e) (kept_allowed (own && not varying) before m e e.refer f)
length_keeps ps before m after p _ f = tt

-- of a parameter nothing is kept
none_kept : (e : T.Extent) (o : Option T.Refer) → is_some o ≡ false → kept_with e o ≡ []
none_kept e None f = refl
none_kept e (Some r) f = absurd (cc f)

passed_none : (e : T.Extent) (more : Bool) → (extent_is_bad Passed e || more) ≡ false → kept_extent e ≡ []
passed_none e more f = none_kept e e.refer (extent_passed e (first_false (extent_is_bad Passed e) more f))

passed_bound : (b : T.Bound) → bound_faults Passed b ≡ [] → kept_in_bound b ≡ []
passed_bound (T.StarBound place) f = refl
passed_bound (T.Upper u) f = passed_none u _ (none_when _ (fault (place_of_expr u.value) BadExtent) f)
passed_bound (T.Both l u) f =
    let low = when (extent_is_bad Passed l) (fault (place_of_expr l.value) BadExtent) in
    passed_none u _ (none_when _ (fault (place_of_expr u.value) BadExtent) (second_empty low _ f))

passed_length : (a : T.Attribute) → attribute_extent_faults Passed a ≡ [] → kept_in_attribute a ≡ []
passed_length (T.Character (Some (T.Given e))) f =
    passed_none e _ (none_when _ (fault (place_of_expr e.value) BadExtent) f)
passed_length (T.Character (Some (T.StarSize place))) f = refl
passed_length (T.Character None) f = refl
passed_length _ f = refl

-- ---- all that a member keeps

abbrev pub bounds_kept : Held → List Kept
bounds_kept m = flat_map kept_in_bound (dimensions_of m.variable)

abbrev pub lengths_kept : Held → List Kept
lengths_kept m = flat_map kept_in_attribute (own_attributes m)

pub record IsKeeping (ps : List T.Name) (before : List Held) (m : Held) (after : List Declaration) : Type 0 where
  pub bounds : Every (KeepsExtent ps before m after 1) (bounds_kept m)
  pub lengths : Every (KeepsLength ps before m after) (lengths_kept m)

every_none : {X : Type 0} (P : X → Type 0) (xs : List X) → xs ≡ [] → Every P xs
every_none P [] e = tt
every_none P (x ∷ xs) e = absurd (cc e)

pub member_keeps : (ps : List T.Name) (before : List Held) (m : Held) (after : List Declaration)
    → variable_faults ps before m after ≡ [] → IsKeeping ps before m after
member_keeps ps before m after f =
    by (is_parameter ps m) refl _ (second_empty _ _ (first_empty _ _ f)) (second_empty _ _ f) where
      by : (p : Bool) → is_parameter ps m ≡ p → (other : Use)
          → flat_map (bound_faults (if p then Passed else other)) (dimensions_of m.variable)
          ++ flat_map (attribute_extent_faults (if p then Passed else other)) (own_attributes m) ≡ []
          → (if p then [] else flat_map (bound_refer_faults before m after) (dimensions_of m.variable)
          ++ flat_map (attribute_refer_faults before m after) (own_attributes m)) ≡ []
          → IsKeeping ps before m after
      by true p other x r =
          let bounds = flat_map (bound_faults Passed) (dimensions_of m.variable) in
          let lengths = flat_map (attribute_extent_faults Passed) (own_attributes m) in
          record {
            bounds =
                every_flat (λ b. bound_faults Passed b ≡ []) (KeepsExtent ps before m after 1) kept_in_bound
                (λ b e. every_none (KeepsExtent ps before m after 1) (kept_in_bound b) (passed_bound b e))
                (dimensions_of m.variable)
                (all_empty (bound_faults Passed) (dimensions_of m.variable) (first_empty bounds lengths x));
            lengths =
                every_flat (λ a. attribute_extent_faults Passed a ≡ []) (KeepsLength ps before m after)
                kept_in_attribute
                (λ a e. every_none (KeepsLength ps before m after) (kept_in_attribute a) (passed_length a e))
                (own_attributes m)
                (all_empty (attribute_extent_faults Passed) (own_attributes m) (second_empty bounds lengths x));
          }
      by false p other x r =
          let bounds = flat_map (bound_refer_faults before m after) (dimensions_of m.variable) in
          let lengths = flat_map (attribute_refer_faults before m after) (own_attributes m) in
          record {
            bounds =
                every_flat (λ b. bound_refer_faults before m after b ≡ []) (KeepsExtent ps before m after 1)
                kept_in_bound (bound_keeps ps before m after p) (dimensions_of m.variable)
                (all_empty (bound_refer_faults before m after) (dimensions_of m.variable)
                (first_empty bounds lengths r));
            lengths =
                every_flat (λ a. attribute_refer_faults before m after a ≡ []) (KeepsLength ps before m after)
                kept_in_attribute (length_keeps ps before m after p) (own_attributes m)
                (all_empty (attribute_refer_faults before m after) (own_attributes m)
                (second_empty bounds lengths r));
          }
