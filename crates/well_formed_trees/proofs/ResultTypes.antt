-- What RETURNS says is no area, and its extents are constants in range.
use Rattle.std.proofs.Common.{◌≡◌, ℕ, ◌≤◌, ◌==◌, ℤ, pos, negsuc, Bool, true, false, not, ◌&&◌, ◌||◌, List, [], ◌∷◌}
use Rattle.std.proofs.Common.{◌++◌, Option, Some, None, refl, sym, ap, ◌∙◌, subst, if◌then◌else◌, arith, length}
use Rattle.std.specs.Prelude.{is_some, nat_lt}
use Rattle.std.specs.List.{list_any, flat_map}
use Rattle.std.proofs.lemmas.Bool.Decides.{nat_tests}
use Rattle.pli_language.specs.declared.fault.SourceFault.{SourceFault}
use Rattle.pli_language.specs.declared.fault.SourceKind.TheVariants.{BadAttributes, BadExtent}
use Rattle.pli_language.specs.Refusals.{fault}
use Rattle.pli_language.specs.Tree as T
use Rattle.pli_language.specs.Declarations.{Block, blocks_of}
use Rattle.pli_language.specs.Declaring.{when, has, row_of, is_below, is_outside, longest_text, precisions_in}
use Rattle.pli_language.specs.Declaring.{precision_of, most_digits, attributes_clash, repeats, kinds_in, classes_in}
use Rattle.pli_language.specs.Declaring.{has_kind, has_class, constant, Returned, extent_is_bad, size_faults}
use Rattle.pli_language.specs.Declaring.{attribute_extent_faults, returns_are_bad, at_first, options_repeat, has_main}
use Rattle.pli_language.specs.Declaring.{option_faults, head_faults, block_head_faults, parameter_faults}
use Rattle.pli_language.specs.Declaring.{twice_faults, declarations_faults, names_of, block_faults, place_of_expr}
use Rattle.pli_typing.specs.TypedTree as Y
use Rattle.pli_typing.specs.Variables.{type_of, size_of_text, size_of_area, extent_of, evaluated, area_named}
use Rattle.pli_typing.specs.Variables.{area_name}
use Rattle.pli_typing.specs.Calls.{returns_in, type_returned}
use Rattle.pli_typing.specs.Resolving.{typed_tree}
use Rattle.well_formed_trees.specs.Every.{Every}
use Rattle.well_formed_trees.specs.Ranges.{IsPrecision}
use Rattle.well_formed_trees.specs.Declarations.{IsTextSize}
use Rattle.well_formed_trees.specs.Spelled.{IsNamed}
use Rattle.well_formed_trees.specs.WellFormed.{IsConstantExtent, IsResult, IsResultIf}
use Rattle.well_formed_trees.specs.Held.{table_of, ResultsKept}
use Rattle.well_formed_trees.proofs.Lists.{first_empty, second_empty, first_false, second_false, both_false}
use Rattle.well_formed_trees.proofs.Lists.{every_map}
use Rattle.well_formed_trees.proofs.Places.{every_at}
use Rattle.well_formed_trees.proofs.LabelsOnce.{blocks_fine}
use Rattle.well_formed_trees.proofs.HeldStatements.{IsFrom, HeldFrom, all_held}

-- ---- constants

above_by : (a b : ℕ) (t : Bool) → nat_lt a b ≡ t → is_below (pos a) (pos b) ≡ false → b ≤ a
above_by a b true f e = absurd (cc (f, e))
above_by a b false f e = grind (arith, nat_tests)

pub not_below : (a b : ℕ) → is_below (pos a) (pos b) ≡ false → b ≤ a
not_below a b e = above_by a b (nat_lt a b) refl e

pub text_size : (z : ℤ) → is_outside (pos 0) longest_text (Some z) ≡ false → IsTextSize (Y.ConstantExtent z)
text_size (pos n) e = not_below 1024 n (second_false (is_below (pos n) (pos 0)) (is_below longest_text (pos n)) e)
text_size (negsuc n) e = absurd (cc e)

-- what is written there is a constant, without REFER
extent_constant : (refer : Option T.Refer) (c : Option ℤ) (e : T.Extent) → e.refer ≡ refer → constant e.value ≡ c
    → (extent_is_bad Returned e || is_outside (pos 0) longest_text (constant e.value)) ≡ false
    → IsConstantExtent (extent_of [] e)
extent_constant (Some x) c e r k f =
    absurd (cc (f, r))
extent_constant None None e r k f =
    absurd (cc (f, r, k))
extent_constant None (Some z) e r k f =
    let a : is_outside (pos 0) longest_text (Some z) ≡ false =
    ap (is_outside (pos 0) longest_text) (sym k)
    ∙ second_false (extent_is_bad Returned e) (is_outside (pos 0) longest_text (constant e.value)) f in
    let same : extent_of [] e ≡ Y.ConstantExtent z =
    ap (λ r. if is_some r then Y.ReferExtent else evaluated [] e.value (constant e.value)) r
    ∙ ap (evaluated [] e.value) k in
    subst IsConstantExtent (sym same) (text_size z a)

-- ---- precisions

digits_by : (p : ℕ) → ((p == 0) || nat_lt most_digits p) ≡ false → IsPrecision p
digits_by p e =
    let zero = first_false (p == 0) (nat_lt most_digits p) e in
    let most = second_false (p == 0) (nat_lt most_digits p) e in
    (not_zero p zero, not_more p most) where
      not_zero : (p : ℕ) → (p == 0) ≡ false → 1 ≤ p
      not_zero p e = grind (arith, nat_tests)

      not_more : (p : ℕ) → nat_lt 31 p ≡ false → p ≤ 31
      not_more p e = grind (arith, nat_tests)

pub precision_is : (ps : List ℕ) → list_any (λ p. (p == 0) || nat_lt most_digits p) ps ≡ false
    → IsPrecision (precision_of ps)
precision_is [] e = (omega arith, omega arith)
precision_is (p ∷ ps) e =
    digits_by p (first_false ((p == 0) || nat_lt most_digits p) (list_any (λ p. (p == 0) || nat_lt most_digits p) ps) e)

-- ---- texts

none_when : (b : Bool) (f : SourceFault) → when b f ≡ [] → b ≡ false
none_when false f e = refl
none_when true f e = absurd (cc e)

given_size : (e : T.Extent) → size_faults Returned (is_outside (pos 0) longest_text) (Some (T.Given e)) ≡ []
    → IsConstantExtent (extent_of [] e)
given_size e h =
    extent_constant e.refer (constant e.value) e refl refl
    (none_when (extent_is_bad Returned e || is_outside (pos 0) longest_text (constant e.value))
    (fault (place_of_expr e.value) BadExtent) h)

text_extent : (all : List T.Attribute) → flat_map (attribute_extent_faults Returned) all ≡ []
    → IsConstantExtent (size_of_text [] all)
text_extent [] h = omega arith
text_extent (T.Character (Some (T.Given e)) ∷ all) h =
    given_size e (first_empty (attribute_extent_faults Returned (T.Character (Some (T.Given e)))) _ h)
text_extent (T.Character (Some (T.StarSize p)) ∷ all) h = absurd (cc h)
text_extent (a ∷ all) h =
    text_extent all (second_empty (attribute_extent_faults Returned a) _ h)

-- ---- no area

no_area : (a : T.Attribute)
    → has (row_of a) (T.Area None ∷ T.Initial [] ∷ T.Aligned ∷ T.Unaligned ∷ T.Internal ∷ []) ≡ false
    → (row_of a == 7) ≡ false
no_area (T.Area size) e = absurd (cc e)
no_area _ e = refl

none_area : (all : List T.Attribute)
    → list_any (λ a. has (row_of a) (T.Area None ∷ T.Initial [] ∷ T.Aligned ∷ T.Unaligned ∷ T.Internal ∷ [])) all
    ≡ false → has 7 all ≡ false
none_area [] e = refl
none_area (a ∷ all) e =
    let here = first_false (has (row_of a) (T.Area None ∷ T.Initial [] ∷ T.Aligned ∷ T.Unaligned ∷ T.Internal ∷ []))
    (list_any (λ a. has (row_of a) (T.Area None ∷ T.Initial [] ∷ T.Aligned ∷ T.Unaligned ∷ T.Internal ∷ [])) all)
    e in
    let later = second_false (has (row_of a) (T.Area None ∷ T.Initial [] ∷ T.Aligned ∷ T.Unaligned ∷ T.Internal ∷ []))
    (list_any (λ a. has (row_of a) (T.Area None ∷ T.Initial [] ∷ T.Aligned ∷ T.Unaligned ∷ T.Internal ∷ [])) all)
    e in
    both_false (row_of a == 7) (has 7 all) (no_area a here) (none_area all later)

result_by : (two three four five six seven : Bool) (size bytes : Y.Extent) (area : Option Y.Variable) (p : ℕ)
    → seven ≡ false → IsConstantExtent size → IsPrecision p
    → IsResult (if two then (if three then Y.VaryingLeaf size else Y.CharacterLeaf size)
    else (if four then Y.BitLeaf else (if five then Y.PointerLeaf
    else (if six then Y.OffsetLeaf area else (if seven then Y.AreaLeaf bytes else Y.FixedLeaf p)))))
result_by true true four five six seven size bytes area p e h k = h
result_by true false four five six seven size bytes area p e h k = h
result_by false three true five six seven size bytes area p e h k = tt
result_by false three false true six seven size bytes area p e h k = tt
result_by false three false false true seven size bytes area p e h k = tt
result_by false three false false false true size bytes area p e h k = absurd (cc e)
result_by false three false false false false size bytes area p e h k = k

-- ---- procedures

-- of what may not clash the last test is of precisions
digits_fine : (all : List T.Attribute) → attributes_clash all ≡ false
    → list_any (λ p. (p == 0) || nat_lt most_digits p) (precisions_in all) ≡ false
digits_fine all e =
    let digits = list_any (λ p. (p == 0) || nat_lt most_digits p) (precisions_in all) in
    let many = nat_lt 1 (length (precisions_in all)) in
    let aligned = has 14 all && has 15 all in
    let varying = has 3 all && not (has 2 all) in
    let classes = nat_lt 1 (classes_in all) in
    let kinds = nat_lt 1 (kinds_in all) in
    second_false (((((repeats all || kinds) || classes) || varying) || aligned) || many) digits e

result_is : (blocks : List Block) (b : ℕ) (all : List T.Attribute) → returns_are_bad all ≡ false
    → flat_map (attribute_extent_faults Returned) all ≡ [] → IsResult (type_of blocks b [] all)
result_is blocks b all e h =
    let bad = list_any
    (λ a. has (row_of a) (T.Area None ∷ T.Initial [] ∷ T.Aligned ∷ T.Unaligned ∷ T.Internal ∷ [])) all
    in
    let kind = attributes_clash all || not (has_kind all) in
    let area = second_false (kind || has_class all) bad e in
    let clash = first_false (attributes_clash all) (not (has_kind all))
    (first_false kind (has_class all) (first_false (kind || has_class all) bad e)) in
    result_by (has 2 all) (has 3 all) (has 4 all) (has 5 all) (has 6 all) (has 7 all) (size_of_text [] all)
    (size_of_area [] all) (area_named blocks b (area_name all)) (precision_of (precisions_in all)) (none_area all area)
    (text_extent all h) (precision_is (precisions_in all) (digits_fine all clash))

option_is : (blocks : List Block) (holder : ℕ) (labels : List T.Name) (os : List T.ProcedureOption) → IsNamed labels
    → flat_map (option_faults labels) os ≡ [] → IsResultIf (type_returned blocks holder (returns_in os))
option_is blocks holder labels [] n e = tt
option_is blocks holder (l ∷ ls) (T.Returns all ∷ os) n e =
    let own = when (returns_are_bad all) (fault l.place BadAttributes) in
    let extents = flat_map (attribute_extent_faults Returned) all in
    let first = first_empty (own ++ extents) (flat_map (option_faults (l ∷ ls)) os) e in
    result_is blocks holder all
    (none_when (returns_are_bad all) (fault l.place BadAttributes) (first_empty own extents first))
    (second_empty own extents first)
option_is blocks holder [] (T.Returns all ∷ os) n e = absurd n
option_is blocks holder labels (T.Main ∷ os) n e = option_is blocks holder labels os n e
option_is blocks holder labels (T.Recursive ∷ os) n e = option_is blocks holder labels os n e

pub head_result : (b : Block) (head : T.ProcedureHead) → b.head ≡ Some head → block_faults b ≡ []
    → flat_map (option_faults head.labels) head.options ≡ []
head_result b head e f =
    let twice = twice_faults [] b.declarations in
    let variables = declarations_faults (names_of b.head) [] b.declarations in
    let h = first_empty (block_head_faults b b.head) twice
    (first_empty (block_head_faults b b.head ++ twice) variables f) in
    let k : block_head_faults b (Some head) ≡ [] = subst (λ o. block_head_faults b o ≡ []) e h in
    let own = head_faults (nat_lt 2 (length b.around)) head in
    let labelled = at_first head.labels
    (λ p. when ((nat_lt 2 (length b.around) && has_main head) || options_repeat head.options)
    (fault p BadAttributes)) in
    second_empty labelled (flat_map (option_faults head.labels) head.options)
    (first_empty own (parameter_faults b.declarations head.parameters) k)

result_of : (blocks : List Block) → Every (λ b. block_faults b ≡ []) blocks → (p : Y.Procedure) → IsFrom blocks p
    → IsResultIf p.result
result_of blocks fine p h =
    let f = every_at (λ b. block_faults b ≡ []) blocks h.number h.block fine h.found in
    subst IsResultIf (sym h.result)
    (option_is blocks h.holder h.head.labels h.head.options h.named (head_result h.block h.head h.has_head f))

pub results_kept : ResultsKept
results_kept tree h ranged declared typed =
    every_map (HeldFrom (table_of tree) (blocks_of tree)) (λ p. IsResultIf p.result)
    (λ p k. result_of (blocks_of tree) (blocks_fine tree declared) p k.1) (typed_tree tree).procedures
    (all_held tree h ranged typed)
