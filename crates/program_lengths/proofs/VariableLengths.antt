-- What is made and evaluated for the variables of a block takes no more words than what is declared is given.
use Rattle.std.proofs.Common.{◌≡◌, ℕ, suc, ◌+◌, ◌*◌, ◌≤◌, Bool, true, false, not, ◌&&◌, List, [], ◌∷◌, ◌++◌}
use Rattle.std.proofs.Common.{Some, None, if◌then◌else◌, refl, ap, arith}
use Rattle.std.specs.Prelude.{◌==◌, ◌||◌, ◌-◌, length, slice_get}
use Rattle.std.proofs.lemmas.Bool.Decides.{nat_tests}
use Rattle.std.specs.List.{flat_map}
use Rattle.pli_language.specs.Tree as T
use Rattle.pli_language.specs.Declarations.{Variable, dimensions_of, Held, What, Variable', Label, ProcedureName}
use Rattle.pli_language.specs.Declarations.{Declaration}
use Rattle.pli_language.specs.Declaring.{has, own_attributes, class_attributes, first_or, names_of, is_parameter}
use Rattle.pli_language.specs.Declaring.{same_place, place_of_expr}
use Rattle.pli_typing.specs.TypedTree as Y
use Rattle.pli_typing.specs.Judging.{Scope, each}
use Rattle.pli_typing.specs.Converting.{no_variable}
use Rattle.pli_typing.specs.Generations.{evaluation, declared_with, declared_variable}
use Rattle.pli_typing.specs.Variables.{WrittenExtent, WrittenCheck, WrittenNothing, WrittenBounds, is_open}
use Rattle.pli_typing.specs.Variables.{if_open, open_in_bound}
use Rattle.pli_typing.specs.Variables.{open_in_attribute, open_in, stands_before, with_extent, in_order}
use Rattle.pli_typing.specs.Variables.{written_extents, members_first, member_then, variable_then, variables_in}
use Rattle.pli_typing.specs.Variables.{variable_meant, class_of, head_of_block}
use Rattle.pli_coding.specs.Frames.{has_constant_size, is_automatic}
use Rattle.pli_coding.specs.Locating.{needs_number_word}
use Rattle.pli_coding.specs.Procedures.{has_routine}
use Rattle.code_sizes.specs.StatementSizes.{evaluations_size, extents_size, made_size, automatic_size, variables_size}
use Rattle.code_sizes.specs.StartSizes.{routine_size, block_routines_size, class_size, static_size, block_statics_size}
use Rattle.tree_tokens.specs.TreeTokens.{expr_tokens}
use Rattle.program_lengths.specs.DeclaredLengths.{extent_words, bound_words, bounds_words, attribute_words}
use Rattle.program_lengths.specs.DeclaredLengths.{attributes_words, spare_words}
use Rattle.program_lengths.proofs.SingleLengths.{number_within}
use Rattle.program_lengths.proofs.DeclaredSums.{what_sum, declarations_sum}
use Rattle.program_lengths.proofs.DeclaredLengths.{variable_words}

abbrev open_words : Held → ℕ
open_words h = bounds_words (dimensions_of h.variable) + attributes_words (own_attributes h)

abbrev helds_words : List Held → ℕ
helds_words [] = 0
helds_words (h ∷ hs) = open_words h + helds_words hs

-- ---- extents as they are written

abbrev written_words : List WrittenExtent → ℕ
written_words [] = 0
written_words (w ∷ ws) = (104 * expr_tokens w.value + 82) + written_words ws

written_split : (ws xs : List WrittenExtent) → written_words (ws ++ xs) ≡ written_words ws + written_words xs
written_split [] xs = omega arith
written_split (w ∷ ws) xs = let more = written_split ws xs in omega (arith, more)

open_most : (e : T.Extent) (check : WrittenCheck) → written_words (if_open e.value check) ≤ extent_words e
open_most e check = by (is_open e.value) where
  by : (b : Bool) → written_words (if b then record { value = e.value; check = check } ∷ [] else [])
      ≤ (if b then 104 * expr_tokens e.value + 82 else 0)
  by true = omega arith
  by false = omega arith

bound_most : (b : T.Bound) → written_words (open_in_bound b) ≤ bound_words b
bound_most (T.StarBound place) = omega arith
bound_most (T.Upper u) = open_most u _
bound_most (T.Both l u) =
    let first = if is_open u.value then WrittenNothing else WrittenBounds (T.Both l u) in
    let last = WrittenBounds (T.Both l u) in
    let one = open_most l first in
    let other = open_most u last in
    let all = written_split (if_open l.value first) (if_open u.value last) in
    omega (arith, one, other, all)

bounds_most : (bs : List T.Bound) → written_words (flat_map open_in_bound bs) ≤ bounds_words bs
bounds_most [] = omega arith
bounds_most (b ∷ bs) =
    let one = bound_most b in
    let more = bounds_most bs in
    let all = written_split (open_in_bound b) (flat_map open_in_bound bs) in
    omega (arith, one, more, all)

attribute_most : (a : T.Attribute) → written_words (open_in_attribute a) ≤ attribute_words a
attribute_most (T.Character (Some (T.Given e))) = open_most e _
attribute_most (T.Area (Some (T.Given e))) = open_most e _
attribute_most (T.Character (Some (T.StarSize place))) = omega arith
attribute_most (T.Area (Some (T.StarSize place))) = omega arith
attribute_most (T.Character None) = omega arith
attribute_most (T.Area None) = omega arith
attribute_most _ = omega arith

attributes_most : (as' : List T.Attribute) → written_words (flat_map open_in_attribute as') ≤ attributes_words as'
attributes_most [] = omega arith
attributes_most (a ∷ as') =
    let one = attribute_most a in
    let more = attributes_most as' in
    let all = written_split (open_in_attribute a) (flat_map open_in_attribute as') in
    omega (arith, one, more, all)

helds_most : (hs : List Held) → written_words (flat_map open_in hs) ≤ helds_words hs
helds_most [] = omega arith
helds_most (h ∷ hs) =
    let bounds = bounds_most (dimensions_of h.variable) in
    let attributes = attributes_most (own_attributes h) in
    let own = written_split (flat_map open_in_bound (dimensions_of h.variable))
    (flat_map open_in_attribute (own_attributes h)) in
    let more = helds_most hs in
    let all = written_split (open_in h) (flat_map open_in hs) in
    omega (arith, bounds, attributes, own, more, all)

-- each stands once
with_most : (w : WrittenExtent) (vs : List WrittenExtent)
    → written_words (with_extent w vs) ≤ (104 * expr_tokens w.value + 82) + written_words vs
with_most w [] = omega arith
with_most w (v ∷ vs) =
    by (stands_before (place_of_expr w.value) (place_of_expr v.value))
    (same_place (place_of_expr w.value) (place_of_expr v.value)) (with_most w vs) where
      by : (b c : Bool) → written_words (with_extent w vs) ≤ (104 * expr_tokens w.value + 82) + written_words vs
          → written_words (if b then w ∷ v ∷ vs else (if c then v ∷ vs else v ∷ with_extent w vs))
          ≤ (104 * expr_tokens w.value + 82) + ((104 * expr_tokens v.value + 82) + written_words vs)
      by true c h = omega arith
      by false true h = omega arith
      by false false h = omega (arith, h)

order_most : (ws : List WrittenExtent) → written_words (in_order ws) ≤ written_words ws
order_most [] = omega arith
order_most (w ∷ ws) =
    let one = with_most w (in_order ws) in
    let more = order_most ws in
    omega (arith, one, more)

-- ---- evaluations

evaluations_most : (scope : Scope) (own : Y.Variable) (written ws : List WrittenExtent)
    → evaluations_size (each (evaluation scope own written) ws).value ≤ written_words ws
evaluations_most scope own written [] = omega arith
evaluations_most scope own written (w ∷ ws) =
    let one = number_within scope w.value in
    let more = evaluations_most scope own written ws in
    omega (arith, one, more)

with_evaluated : (scope : Scope) (own : Y.Variable) (all : List Held)
    → evaluations_size (declared_with scope own all).value.evaluations ≤ helds_words all
with_evaluated scope own all =
    let values = evaluations_most scope own (written_extents all) (written_extents all) in
    let once = order_most (flat_map open_in all) in
    let written = helds_most all in
    omega (arith, values, once, written)

evaluated_most : (scope : Scope) (all : List Held)
    → evaluations_size (declared_variable scope all).value.evaluations ≤ helds_words all
evaluated_most scope [] = with_evaluated scope no_variable []
evaluated_most scope (h ∷ hs) = with_evaluated scope (variable_meant scope.blocks scope.block h) (h ∷ hs)

-- ---- variables: as a block makes them, as routines evaluate their extents, and as the start makes them

abbrev pub whole_size : Y.DeclaredVariable → ℕ
whole_size d = automatic_size d + (routine_size 16 d d.evaluations + static_size d)

abbrev pub wholes_size : List Y.DeclaredVariable → ℕ
wholes_size ds = variables_size ds + (block_routines_size 16 ds + block_statics_size ds)

number_word : (d : Y.DeclaredVariable) → (if needs_number_word d then 16 else 0) ≤ 16
number_word d = by (needs_number_word d) where
  by : (b : Bool) → (if b then 16 else 0) ≤ 16
  by true = omega arith
  by false = omega arith

made_most : (d : Y.DeclaredVariable) → made_size d ≤ evaluations_size d.evaluations + 47
made_most d = by (has_constant_size d) where
  by : (b : Bool) → (if b then 18 else extents_size d + 27) ≤ evaluations_size d.evaluations + 47
  by true = omega arith
  by false = omega arith

routine_most : (d : Y.DeclaredVariable) (xs : List Y.Evaluation)
    → routine_size 16 d xs ≤ (if has_routine d.class then evaluations_size d.evaluations + 191 else 0)
routine_most d [] = by (has_routine d.class) where
  by : (b : Bool) → 0 ≤ (if b then evaluations_size d.evaluations + 191 else 0)
  by true = omega arith
  by false = omega arith
routine_most d (x ∷ xs) = by (has_routine d.class) where
  by : (b : Bool) → (if b then extents_size d + (6 * 16 + 75) else 0)
      ≤ (if b then evaluations_size d.evaluations + 191 else 0)
  by true = omega arith
  by false = omega arith

-- what a variable of a class takes beside its extents
abbrev class_words : Y.StorageClass → ℕ
class_words Y.AutomaticClass = 63
class_words Y.ParameterClass = 63
class_words _ = 208

-- none is made in its block and evaluated by a routine
class_most : (c : Y.StorageClass) (made words extents : ℕ) → made ≤ extents + 47 → words ≤ 16
    → (if is_automatic c then made else 0)
    + ((if has_routine c then extents + 191 else 0) + (class_size c + words))
    ≤ class_words c + extents
class_most Y.AutomaticClass made words extents h k = omega (arith, h, k)
class_most Y.ParameterClass made words extents h k = omega (arith, h, k)
class_most Y.StaticClass made words extents h k = omega (arith, h, k)
class_most Y.BasedClass made words extents h k = omega (arith, h, k)
class_most Y.ControlledClass made words extents h k = omega (arith, h, k)

whole_most : (d : Y.DeclaredVariable) → whole_size d ≤ class_words d.class + evaluations_size d.evaluations
whole_most d =
    let words : ℕ = if needs_number_word d then 16 else 0 in
    let class = class_most d.class (made_size d) words (evaluations_size d.evaluations) (made_most d) (number_word d) in
    let routine = routine_most d d.evaluations in
    omega (arith, class, routine)

-- the attributes of level 1 say the class
class_said : (parameters : List T.Name) (h : Held) (as' : List T.Attribute)
    → class_words (class_of parameters h as') ≤ 208 - spare_words as'
class_said parameters h as' = by (is_parameter parameters h) (has 9 as') (has 10 as') (has 11 as') where
  by : (p s c b : Bool)
      → class_words (if p then Y.ParameterClass else (if s then Y.StaticClass
      else (if c then Y.ControlledClass else (if b then Y.BasedClass else Y.AutomaticClass))))
      ≤ 208 - (if s || c || b then 0 else 145)
  by true true c b = omega arith
  by true false true b = omega arith
  by true false false true = omega arith
  by true false false false = omega arith
  by false true c b = omega arith
  by false false true b = omega arith
  by false false false true = omega arith
  by false false false false = omega arith

-- ---- the variables of a block

abbrev root_words : List Held → ℕ
root_words [] = 208
root_words (h ∷ hs) = 208 - spare_words (class_attributes h)

root_most : (scope : Scope) (all : List Held)
    → class_words (declared_variable scope all).value.class ≤ root_words all
root_most scope [] = omega arith
root_most scope (h ∷ hs) =
    class_said (names_of (head_of_block (slice_get scope.blocks scope.block))) h (class_attributes h)

abbrev given_words : List (List Held) → ℕ
given_words [] = 0
given_words (all ∷ vs) = (root_words all + helds_words all) + given_words vs

each_most : (scope : Scope) (vs : List (List Held))
    → wholes_size (each (declared_variable scope) vs).value ≤ given_words vs
each_most scope [] = omega arith
each_most scope (all ∷ vs) =
    let own = whole_most (declared_variable scope all).value in
    let class = root_most scope all in
    let extents = evaluated_most scope all in
    let more = each_most scope vs in
    omega (arith, own, class, extents, more)

never : (n : ℕ) → (suc n == 0) ≡ false
never n = grind (arith, nat_tests)

-- members stand behind the variable that they belong to
variable_given : (w : What) (hs : List Held) (vs : List (List Held))
    → given_words (variable_then w hs vs) + helds_words (member_then w hs)
    ≤ what_sum variable_words w + (given_words vs + helds_words hs)
variable_given (Variable' h) hs vs = by h.above refl (not (has 13 (own_attributes h))) where
  by : (above : List Variable) → h.above ≡ above → (c : Bool)
      → given_words (if (length above == 0) && c then (h ∷ hs) ∷ vs else vs)
      + helds_words (if length above == 0 then [] else h ∷ hs)
      ≤ variable_words h.variable + (given_words vs + helds_words hs)
  by [] e true =
      let same : spare_words (class_attributes h) ≡ spare_words (own_attributes h) =
      ap (λ a. spare_words (first_or a h.variable).item.attributes) e in
      omega (arith, same)
  by [] e false = omega arith
  by (a ∷ above) e c = member (length (a ∷ above) == 0) (never (length above))
    where
      member : (b : Bool) → b ≡ false
          → given_words (if b && c then (h ∷ hs) ∷ vs else vs) + helds_words (if b then [] else h ∷ hs)
          ≤ variable_words h.variable + (given_words vs + helds_words hs)
      member true k = absurd (cc k)
      member false k = omega arith
variable_given Label hs vs = omega arith
variable_given (ProcedureName head) hs vs = omega arith

all_given : (ds : List Declaration)
    → given_words (variables_in ds) + helds_words (members_first ds) ≤ declarations_sum variable_words ds
all_given [] = omega arith
all_given (d ∷ ds) =
    let one = variable_given d.what (members_first ds) (variables_in ds) in
    let more = all_given ds in
    omega (arith, one, more)

pub variables_most : (scope : Scope) (ds : List Declaration)
    → wholes_size (each (declared_variable scope) (variables_in ds)).value ≤ declarations_sum variable_words ds
variables_most scope ds =
    let each' = each_most scope (variables_in ds) in
    let all = all_given ds in
    omega (arith, each', all)
