-- What the rules of attributes say of each member of a variable: its class, REFER, and what INITIAL gives.
use Rattle.std.proofs.Common.{◌≡◌, ℕ, ◌+◌, ◌≤◌, ◌==◌, Bool, true, false, not, ◌&&◌, ◌||◌, List, [], ◌∷◌, ◌++◌, length}
use Rattle.std.proofs.Common.{Option, Some, None, refl, sym, ap, ◌∙◌, subst, if◌then◌else◌, arith}
use Rattle.std.specs.Prelude.{is_some, nat_lt}
use Rattle.std.specs.List.{list_any, flat_map}
use Rattle.std.proofs.lemmas.Bool.Decides.{nat_tests}
use Rattle.pli_language.specs.declared.fault.SourceKind.TheVariants.{BadExtent, BadRefer}
use Rattle.pli_language.specs.Keywords.{same_bytes}
use Rattle.pli_language.specs.Refusals.{fault}
use Rattle.pli_language.specs.Tree as T
use Rattle.pli_language.specs.Declarations.{Variable, level_of, dimensions_of, Held, Declaration, Block}
use Rattle.pli_language.specs.Declaring.{Use, Passed, Evaluated, Kept, when, has, has_kind, kinds_in, classes_in, one}
use Rattle.pli_language.specs.Declaring.{own_attributes, class_attributes, root_of, own_dimensions, has_members}
use Rattle.pli_language.specs.Declaring.{is_parameter, use_of, attributes_clash, value_fits}
use Rattle.pli_language.specs.Declaring.{initial_fits, fits_digits, precision_of, precisions_in, bound_faults}
use Rattle.pli_language.specs.Declaring.{attribute_extent_faults, extent_is_bad, may_refer, keeps_extent, refer_faults}
use Rattle.pli_language.specs.Declaring.{bound_refer_faults, attribute_refer_faults, place_of_expr}
use Rattle.pli_language.specs.Declaring.{variable_faults, row_of}
use Rattle.pli_typing.specs.TypedTree as Y
use Rattle.pli_typing.specs.Variables.{WrittenExtent, class_of, type_of, size_of_text, size_of_area, area_named}
use Rattle.pli_typing.specs.Variables.{area_name, initial_items}
use Rattle.well_formed_trees.specs.Every.{Every}
use Rattle.well_formed_trees.specs.Ranges.{IsLength}
use Rattle.well_formed_trees.specs.Spelled.{RangedValue, RangedInitial, RangedAttribute}
use Rattle.well_formed_trees.specs.Declarations.{IsInitial, IsInitialItem}
use Rattle.well_formed_trees.proofs.Lists.{first_empty, second_empty, first_false, second_false, all_empty, every_map}
use Rattle.well_formed_trees.proofs.Lists.{every_both}
use Rattle.well_formed_trees.proofs.Letters.{first_true, second_true}
use Rattle.well_formed_trees.proofs.Parameters.{none_when, not_false, attributes_fine}
use Rattle.well_formed_trees.proofs.KindsSound.{few, few_kinds, area_type}
use Rattle.well_formed_trees.proofs.ExtentsSound.{IsUse, BoundRefers, AttributeRefers}

-- ---- classes

abbrev is_named : List T.Name → Variable → Bool
is_named ps v = (level_of v == 1) && list_any (λ n. same_bytes n.letters v.declared.name.letters) ps

abbrev use_by : (a b d : Bool) → Use
use_by a b d = if a then Passed else (if b || d then Kept else Evaluated)

abbrev class_by : (a b c d : Bool) → Y.StorageClass
class_by a b c d =
    if a then Y.ParameterClass
    else (if b then Y.StaticClass else (if c then Y.ControlledClass
    else (if d then Y.BasedClass else Y.AutomaticClass)))

use_is : (a b c d e f : Bool) → (((one e + one b) + one c) + one d) + one f ≤ 1
    → IsUse (use_by a b d) (class_by a b c d)
use_is true b c d e f h = tt
use_is false true c d e f h = tt
use_is false false true true e f h = absurd (omega (arith, h))
use_is false false true false e f h = tt
use_is false false false true e f h = tt
use_is false false false false e f h = tt

based_is : (a b c d e f : Bool) → (((one e + one b) + one c) + one d) + one f ≤ 1 → a ≡ false → d ≡ true
    → class_by a b c d ≡ Y.BasedClass
based_is true b c d e f h k l = absurd (cc k)
based_is false b c false e f h k l = absurd (cc l)
based_is false true c true e f h k l = absurd (omega (arith, h))
based_is false false true true e f h k l = absurd (omega (arith, h))
based_is false false false true e f h k l = refl

few_classes : (all : List T.Attribute) → attributes_clash all ≡ false → classes_in all ≤ 1
few_classes all e =
    few (classes_in all) (second_false _ _ (first_false _ _ (first_false _ _ (first_false _ _ (first_false _ _ e)))))

-- of a member of the structure that a variable is
pub member_use : (ps : List T.Name) (root m : Held) → attributes_clash (own_attributes root) ≡ false
    → root_of root ≡ root.variable → root_of m ≡ root.variable
    → IsUse (use_of ps m) (class_of ps root (root_of root).item.attributes)
member_use ps root m e f g =
    let all = own_attributes root in
    let own = use_is (is_named ps root.variable) (has 9 all) (has 10 all) (has 11 all) (has 8 all) (has 13 all)
    (few_classes all e) in
    subst (λ v. IsUse (use_by (is_named ps v) (has 9 v.item.attributes) (has 11 v.item.attributes))
    (class_of ps root (root_of root).item.attributes)) (sym g)
    (subst (λ v. IsUse (use_by (is_named ps root.variable) (has 9 all) (has 11 all))
    (class_by (is_named ps v) (has 9 v.item.attributes) (has 10 v.item.attributes) (has 11 v.item.attributes)))
    (sym f) own)

pub member_based : (ps : List T.Name) (root m : Held) → attributes_clash (own_attributes root) ≡ false
    → root_of root ≡ root.variable → root_of m ≡ root.variable → is_parameter ps m ≡ false
    → has 11 (class_attributes m) ≡ true → class_of ps root (root_of root).item.attributes ≡ Y.BasedClass
member_based ps root m e f g p b =
    let all = own_attributes root in
    let named : is_named ps root.variable ≡ false = ap (is_named ps) (sym g) ∙ p in
    let based : has 11 all ≡ true = ap (λ (v : Variable). has 11 v.item.attributes) (sym g) ∙ b in
    subst (λ v. class_by (is_named ps v) (has 9 v.item.attributes) (has 10 v.item.attributes)
    (has 11 v.item.attributes) ≡ Y.BasedClass) (sym f)
    (based_is (is_named ps root.variable) (has 9 all) (has 10 all) (has 11 all) (has 8 all) (has 13 all)
    (few_classes all e) named based)

-- ---- REFER

refer_none : (earlier : List Held) (h : Held) (o : Option T.Refer) → refer_faults false earlier h o ≡ []
    → is_some o ≡ false
refer_none earlier h None f = refl
refer_none earlier h (Some r) f = absurd (cc f)

refer_allowed : (allowed : Bool) (earlier : List Held) (h : Held) (o : Option T.Refer)
    → refer_faults allowed earlier h o ≡ [] → is_some o ≡ true → allowed ≡ true
refer_allowed allowed earlier h None f e = absurd (cc e)
refer_allowed allowed earlier h (Some r) f e =
    first_true allowed (keeps_extent earlier h r)
    (not_false (allowed && keeps_extent earlier h r)
    (none_when (not (allowed && keeps_extent earlier h r)) (fault r.place BadRefer) f))

refers_based : (h : Held) (after : List Declaration) → may_refer h after ≡ true → has 11 (class_attributes h) ≡ true
refers_based h after e = first_true _ _ (first_true _ _ (first_true _ _ e))

kept_bound : (class : Y.StorageClass) (earlier : List Held) (h : Held) (after : List Declaration)
    → (has 11 (class_attributes h) ≡ true → class ≡ Y.BasedClass) → (b : T.Bound)
    → bound_refer_faults earlier h after b ≡ [] → BoundRefers class b
kept_bound class earlier h after k (T.StarBound place) f = tt
kept_bound class earlier h after k (T.Upper u) f =
    λ e. k (refers_based h after (first_true _ _
    (refer_allowed (may_refer h after && (own_dimensions h == 1)) earlier h u.refer f e)))
kept_bound class earlier h after k (T.Both l u) f =
    let high = second_empty (refer_faults false earlier h l.refer) _ f in (
      refer_none earlier h l.refer (first_empty (refer_faults false earlier h l.refer) _ f),
      λ e. k (refers_based h after (first_true _ _
          (refer_allowed (may_refer h after && (own_dimensions h == 1)) earlier h u.refer high e))),
    )

kept_attribute : (class : Y.StorageClass) (earlier : List Held) (h : Held) (after : List Declaration)
    → (has 11 (class_attributes h) ≡ true → class ≡ Y.BasedClass) → (a : T.Attribute)
    → attribute_refer_faults earlier h after a ≡ [] → AttributeRefers class (has 3 (own_attributes h)) a
kept_attribute class earlier h after k (T.Character (Some (T.Given e))) f =
    λ s. by (refer_allowed ((may_refer h after && (own_dimensions h == 0)) && not (has 3 (own_attributes h))) earlier h
    e.refer f s) where
      not_true : (b : Bool) → not b ≡ true → b ≡ false
      not_true true e = absurd (cc e)
      not_true false e = refl

      by : ((may_refer h after && (own_dimensions h == 0)) && not (has 3 (own_attributes h))) ≡ true
          → (class ≡ Y.BasedClass) × (has 3 (own_attributes h) ≡ false)
      by e = (
        k (refers_based h after (first_true (may_refer h after) (own_dimensions h == 0)
            (first_true (may_refer h after && (own_dimensions h == 0)) (not (has 3 (own_attributes h))) e))),
        not_true (has 3 (own_attributes h))
            (second_true (may_refer h after && (own_dimensions h == 0)) (not (has 3 (own_attributes h))) e),
      )
kept_attribute class earlier h after k (T.Area (Some (T.Given e))) f = refer_none earlier h e.refer f
kept_attribute class earlier h after k _ f = tt

-- what is passed has none
passed_none : (b c : Bool) → (if b then true else c) ≡ false → b ≡ false
passed_none true c e = absurd (cc e)
passed_none false c e = refl

never_both : (b : Bool) → b ≡ true → b ≡ false → ⊥
never_both b e f = cc (e, f)

pub extent_passed : (e : T.Extent) → extent_is_bad Passed e ≡ false → is_some e.refer ≡ false
extent_passed e f = passed_none (is_some e.refer) _ f

passed_bound : (class : Y.StorageClass) (b : T.Bound) → bound_faults Passed b ≡ [] → BoundRefers class b
passed_bound class (T.StarBound place) f = tt
passed_bound class (T.Upper u) f =
    let none = extent_passed u (first_false (extent_is_bad Passed u) _
    (none_when _ (fault (place_of_expr u.value) BadExtent) f)) in
    λ e. absurd (never_both (is_some u.refer) e none)
passed_bound class (T.Both l u) f =
    let low = when (extent_is_bad Passed l) (fault (place_of_expr l.value) BadExtent) in
    let none = extent_passed u (first_false (extent_is_bad Passed u) _
    (none_when _ (fault (place_of_expr u.value) BadExtent) (second_empty low _ f))) in (
      extent_passed l (none_when (extent_is_bad Passed l) (fault (place_of_expr l.value) BadExtent)
          (first_empty low _ f)),
      λ e. absurd (never_both (is_some u.refer) e none),
    )

passed_attribute : (class : Y.StorageClass) (varying : Bool) (a : T.Attribute)
    → attribute_extent_faults Passed a ≡ [] → AttributeRefers class varying a
passed_attribute class varying (T.Character (Some (T.Given e))) f =
    let none = extent_passed e (first_false (extent_is_bad Passed e) _
    (none_when _ (fault (place_of_expr e.value) BadExtent) f)) in
    λ s. absurd (never_both (is_some e.refer) s none)
passed_attribute class varying (T.Area (Some (T.Given e))) f =
    extent_passed e (first_false (extent_is_bad Passed e) _
    (none_when _ (fault (place_of_expr e.value) BadExtent) f))
passed_attribute class varying _ f = tt

pub member_refers : (ps : List T.Name) (class : Y.StorageClass) (earlier : List Held) (h : Held)
    (after : List Declaration) → variable_faults ps earlier h after ≡ []
    → (is_parameter ps h ≡ false → has 11 (class_attributes h) ≡ true → class ≡ Y.BasedClass)
    → Every (BoundRefers class) (dimensions_of h.variable)
    × Every (AttributeRefers class (has 3 (own_attributes h))) (own_attributes h)
member_refers ps class earlier h after f k =
    by (is_parameter ps h) _ (second_empty _ _ (first_empty _ _ f)) (second_empty _ _ f) k where
      by : (p : Bool) (other : Use)
          → flat_map (bound_faults (if p then Passed else other)) (dimensions_of h.variable)
          ++ flat_map (attribute_extent_faults (if p then Passed else other)) (own_attributes h) ≡ []
          → (if p then [] else flat_map (bound_refer_faults earlier h after) (dimensions_of h.variable)
          ++ flat_map (attribute_refer_faults earlier h after) (own_attributes h)) ≡ []
          → (p ≡ false → has 11 (class_attributes h) ≡ true → class ≡ Y.BasedClass)
          → Every (BoundRefers class) (dimensions_of h.variable)
          × Every (AttributeRefers class (has 3 (own_attributes h))) (own_attributes h)
      by true other x r k = (
        every_map (λ b. bound_faults Passed b ≡ []) (BoundRefers class) (passed_bound class)
            (dimensions_of h.variable) (all_empty (bound_faults Passed) (dimensions_of h.variable)
            (first_empty _ _ x)),
        every_map (λ a. attribute_extent_faults Passed a ≡ []) (AttributeRefers class (has 3 (own_attributes h)))
            (passed_attribute class (has 3 (own_attributes h))) (own_attributes h)
            (all_empty (attribute_extent_faults Passed) (own_attributes h)
            (second_empty (flat_map (bound_faults Passed) (dimensions_of h.variable)) _ x)),
      )
      by false other x r k = (
        every_map (λ b. bound_refer_faults earlier h after b ≡ []) (BoundRefers class)
            (kept_bound class earlier h after (k refl)) (dimensions_of h.variable)
            (all_empty (bound_refer_faults earlier h after) (dimensions_of h.variable) (first_empty _ _ r)),
        every_map (λ a. attribute_refer_faults earlier h after a ≡ [])
            (AttributeRefers class (has 3 (own_attributes h))) (kept_attribute class earlier h after (k refl))
            (own_attributes h) (all_empty (attribute_refer_faults earlier h after) (own_attributes h)
            (second_empty (flat_map (bound_refer_faults earlier h after) (dimensions_of h.variable)) _ r)),
      )

-- ---- INITIAL

abbrev kind_by : (two three four five six seven : Bool) (size bytes : Y.Extent) (area : Option Y.Variable) (p : ℕ)
    → Y.LeafType
kind_by two three four five six seven size bytes area p =
    if two then (if three then Y.VaryingLeaf size else Y.CharacterLeaf size)
    else (if four then Y.BitLeaf else (if five then Y.PointerLeaf
    else (if six then Y.OffsetLeaf area else (if seven then Y.AreaLeaf bytes else Y.FixedLeaf p))))

abbrev kinds_by : (digits two four five six seven : Bool) → ℕ
kinds_by digits two four five six seven =
    ((((one digits + one two) + one four) + one five) + one six) + one seven

no_kinds : (digits : Bool) (k : ℕ) → k ≤ 1 → (digits || not (nat_lt 0 k)) ≡ true → one digits ≤ k → k ≡ one digits
no_kinds true k h e l = omega (arith, h, l)
no_kinds false k h e l = none k e where
  none : (k : ℕ) → not (nat_lt 0 k) ≡ true → k ≡ 0
  none k e = grind (arith, nat_tests)

number_by : (digits two three four five six seven : Bool) (size bytes : Y.Extent) (area : Option Y.Variable) (p : ℕ)
    → kinds_by digits two four five six seven ≡ one digits
    → kind_by two three four five six seven size bytes area p ≡ Y.FixedLeaf p
number_by digits true three four five six seven size bytes area p k = absurd (omega (arith, k))
number_by digits false three true five six seven size bytes area p k = absurd (omega (arith, k))
number_by digits false three false true six seven size bytes area p k = absurd (omega (arith, k))
number_by digits false three false false true seven size bytes area p k = absurd (omega (arith, k))
number_by digits false three false false false true size bytes area p k = absurd (omega (arith, k))
number_by digits false three false false false false size bytes area p k = refl

text_by : (two three four five six seven : Bool) (size bytes : Y.Extent) (area : Option Y.Variable) (p : ℕ)
    (text : List ℕ) → two ≡ true → IsLength (length text)
    → IsInitial (kind_by two three four five six seven size bytes area p) (T.InitialText text)
text_by true true four five six seven size bytes area p text e h = h
text_by true false four five six seven size bytes area p text e h = h
text_by false three four five six seven size bytes area p text e h = absurd (cc e)

bit_by : (digits two three four five six seven : Bool) (size bytes : Y.Extent) (area : Option Y.Variable) (p : ℕ)
    (b : _) → kinds_by digits two four five six seven ≤ 1 → four ≡ true
    → IsInitial (kind_by two three four five six seven size bytes area p) (T.InitialBit b)
bit_by digits true three true five six seven size bytes area p b k e = absurd (omega (arith, k))
bit_by digits false three true five six seven size bytes area p b k e = tt
bit_by digits two three false five six seven size bytes area p b k e = absurd (cc e)

null_by : (digits two three four five six seven : Bool) (size bytes : Y.Extent) (area : Option Y.Variable) (p : ℕ)
    → kinds_by digits two four five six seven ≤ 1 → (five || six) ≡ true
    → IsInitial (kind_by two three four five six seven size bytes area p) T.InitialNull
null_by digits true three four true six seven size bytes area p k e = absurd (omega (arith, k))
null_by digits false three true true six seven size bytes area p k e = absurd (omega (arith, k))
null_by digits false three false true six seven size bytes area p k e = tt
null_by digits true three four false true seven size bytes area p k e = absurd (omega (arith, k))
null_by digits false three true false true seven size bytes area p k e = absurd (omega (arith, k))
null_by digits false three false false true seven size bytes area p k e = tt
null_by digits two three four false false seven size bytes area p k e = absurd (cc e)

skipped : (type : Y.LeafType) → IsInitial type T.InitialSkip
skipped (Y.FixedLeaf p) = tt
skipped (Y.CharacterLeaf size) = tt
skipped (Y.VaryingLeaf size) = tt
skipped Y.BitLeaf = tt
skipped Y.PointerLeaf = tt
skipped (Y.OffsetLeaf area) = tt
skipped (Y.AreaLeaf size) = tt

digits_among : (digits two four five six seven : Bool) → one digits ≤ kinds_by digits two four five six seven
digits_among digits two four five six seven = omega arith

-- a number is FIXED
pub number_type : (blocks : List Block) (b : ℕ) (written : List WrittenExtent) (all : List T.Attribute)
    → attributes_clash all ≡ false → ((has 0 all || has 1 all) || not (has_kind all)) ≡ true
    → type_of blocks b written all ≡ Y.FixedLeaf (precision_of (precisions_in all))
number_type blocks b written all c e =
    let digits = has 0 all || has 1 all in
    number_by digits (has 2 all) (has 3 all) (has 4 all) (has 5 all) (has 6 all) (has 7 all)
    (size_of_text written all) (size_of_area written all) (area_named blocks b (area_name all))
    (precision_of (precisions_in all))
    (no_kinds digits (kinds_in all) (few (kinds_in all) (few_kinds all c)) e
    (digits_among digits (has 2 all) (has 4 all) (has 5 all) (has 6 all) (has 7 all)))

value_sound : (blocks : List Block) (b : ℕ) (written : List WrittenExtent) (all : List T.Attribute)
    → attributes_clash all ≡ false → (v : T.InitialValue) → RangedValue v → value_fits all v ≡ true
    → IsInitial (type_of blocks b written all) v
value_sound blocks b written all c T.InitialSkip r f = skipped (type_of blocks b written all)
value_sound blocks b written all c (T.InitialNumber z) r f =
    let p = precision_of (precisions_in all) in
    let digits = (has 0 all || has 1 all) || not (has_kind all) in
    subst (λ t. IsInitial t (T.InitialNumber z))
    (sym (number_type blocks b written all c (first_true digits (fits_digits p z) f)))
    (second_true digits (fits_digits p z) f)
value_sound blocks b written all c (T.InitialText text) r f =
    text_by (has 2 all) (has 3 all) (has 4 all) (has 5 all) (has 6 all) (has 7 all) (size_of_text written all)
    (size_of_area written all) (area_named blocks b (area_name all)) (precision_of (precisions_in all)) text f r
value_sound blocks b written all c (T.InitialBit x) r f =
    bit_by (has 0 all || has 1 all) (has 2 all) (has 3 all) (has 4 all) (has 5 all) (has 6 all) (has 7 all)
    (size_of_text written all) (size_of_area written all) (area_named blocks b (area_name all))
    (precision_of (precisions_in all)) x (few (kinds_in all) (few_kinds all c)) f
value_sound blocks b written all c T.InitialNull r f =
    null_by (has 0 all || has 1 all) (has 2 all) (has 3 all) (has 4 all) (has 5 all) (has 6 all) (has 7 all)
    (size_of_text written all) (size_of_area written all) (area_named blocks b (area_name all))
    (precision_of (precisions_in all)) (few (kinds_in all) (few_kinds all c)) f
value_sound blocks b written all c T.InitialEmpty r f =
    subst (λ t. IsInitial t T.InitialEmpty) (sym (area_type blocks b written all c f)) tt

items_sound : (blocks : List Block) (b : ℕ) (written : List WrittenExtent) (all : List T.Attribute)
    → attributes_clash all ≡ false → (is : List T.InitialItem) → Every RangedInitial is
    → list_any (λ i. not (value_fits all i.value)) is ≡ false
    → Every (IsInitialItem (type_of blocks b written all)) is
items_sound blocks b written all c [] r f = tt
items_sound blocks b written all c (i ∷ is) r f = (
  (
    r.0.0,
    value_sound blocks b written all c i.value r.0.1
        (not_false (value_fits all i.value) (first_false (not (value_fits all i.value)) _ f)),
  ),
  items_sound blocks b written all c is r.1 (second_false (not (value_fits all i.value)) _ f),
)

given_sound : (blocks : List Block) (b : ℕ) (written : List WrittenExtent) (all : List T.Attribute)
    → attributes_clash all ≡ false → (a : T.Attribute) → RangedAttribute a → initial_fits all a ≡ true
    → Every (IsInitialItem (type_of blocks b written all)) (initial_items a)
given_sound blocks b written all c (T.Initial items) r f =
    items_sound blocks b written all c items r (not_true (list_any (λ i. not (value_fits all i.value)) items) f) where
      not_true : (b : Bool) → not b ≡ true → b ≡ false
      not_true true e = absurd (cc e)
      not_true false e = refl
given_sound blocks b written all c _ r f = tt

all_given : (blocks : List Block) (b : ℕ) (written : List WrittenExtent) (all : List T.Attribute)
    → attributes_clash all ≡ false → (some : List T.Attribute) → Every RangedAttribute some
    → list_any (λ a. not (initial_fits all a)) some ≡ false
    → Every (IsInitialItem (type_of blocks b written all)) (flat_map initial_items some)
all_given blocks b written all c [] r f = tt
all_given blocks b written all c (a ∷ some) r f =
    every_both (IsInitialItem (type_of blocks b written all)) (initial_items a) (flat_map initial_items some)
    (given_sound blocks b written all c a r.0
    (not_false (initial_fits all a) (first_false (not (initial_fits all a)) _ f)))
    (all_given blocks b written all c some r.1 (second_false (not (initial_fits all a)) _ f))

none_given : (type : Y.LeafType) (all : List T.Attribute) → has 12 all ≡ false
    → Every (IsInitialItem type) (flat_map initial_items all)
none_given type [] e = tt
none_given type (T.Initial items ∷ all) e = absurd (cc e)
none_given type (a ∷ all) e = none_given type all (second_false (row_of a == 12) (has 12 all) e)

pub initial_sound : (blocks : List Block) (b : ℕ) (written : List WrittenExtent) (ps : List T.Name)
    (earlier : List Held) (h : Held) (after : List Declaration) → variable_faults ps earlier h after ≡ []
    → attributes_clash (own_attributes h) ≡ false → Every RangedAttribute (own_attributes h)
    → Every (IsInitialItem (type_of blocks b written (own_attributes h))) (flat_map initial_items (own_attributes h))
initial_sound blocks b written ps earlier h after f c r =
    by (has_members h after) _ _ (second_false _ _ (attributes_fine ps earlier h after f)) where
      by : (m : Bool) (k n : Bool)
          → (if m then k || has 12 (own_attributes h)
          else n || list_any (λ a. not (initial_fits (own_attributes h) a)) (own_attributes h)) ≡ false
          → Every (IsInitialItem (type_of blocks b written (own_attributes h)))
          (flat_map initial_items (own_attributes h))
      by true k n e =
          none_given (type_of blocks b written (own_attributes h)) (own_attributes h) (second_false k _ e)
      by false k n e = all_given blocks b written (own_attributes h) c (own_attributes h) r (second_false n _ e)
