-- What is declared takes no more words than its tokens allow, beside what names in parentheses share.
use Rattle.std.proofs.Common.{◌≡◌, ℕ, ◌+◌, ◌-◌, ◌*◌, ◌≤◌, ◌||◌, Bool, true, false, List, [], ◌∷◌, ◌++◌, map, Some}
use Rattle.std.proofs.Common.{if◌then◌else◌, arith}
use Rattle.std.specs.List.{flat_map}
use Rattle.pli_language.specs.Tree as T
use Rattle.pli_language.specs.Declarations.{Variable, dimensions_of, variables_of, blocks_in}
use Rattle.pli_language.specs.Declaring.{has}
use Rattle.pli_typing.specs.Variables.{is_open}
use Rattle.tree_tokens.specs.TreeTokens.{expr_tokens, commas_before, row_tokens, extent_tokens}
use Rattle.tree_tokens.specs.TreeTokens.{bound_tokens, dimensions_tokens, attribute_tokens, name_tokens, names_tokens}
use Rattle.tree_tokens.specs.TreeTokens.{declare_tokens}
use Rattle.program_lengths.specs.Declares.{declared_sum, declares_sum, declaring_tokens, declares_tokens}
use Rattle.program_lengths.specs.DeclaredLengths.{extent_words, bound_words, bounds_words, attribute_words}
use Rattle.program_lengths.specs.DeclaredLengths.{attributes_words, shared_words, for_each, spare_words}
use Rattle.program_lengths.specs.DeclaredLengths.{item_beside}
use Rattle.program_lengths.specs.DeclaredLengths.{declare_beside, declares_beside}
use Rattle.program_lengths.proofs.DeclaredSums.{variables_sum, blocks_sum, variables_split, list_summed}

-- ---- tokens

extent_within : (e : T.Extent) → extent_words e ≤ 104 * extent_tokens e + 82
extent_within e = by (is_open e.value) where
  by : (b : Bool) → (if b then 104 * expr_tokens e.value + 82 else 0) ≤ 104 * extent_tokens e + 82
  by true = omega arith
  by false = omega arith

bound_within : (b : T.Bound) → bound_words b ≤ 104 * bound_tokens b + 82
bound_within (T.StarBound place) = omega arith
bound_within (T.Upper u) = extent_within u
bound_within (T.Both l u) =
    let one = extent_within l in
    let other = extent_within u in
    omega (arith, one, other)

further_bounds : (bs : List T.Bound) → bounds_words bs ≤ 104 * commas_before bound_tokens bs
further_bounds [] = omega arith
further_bounds (b ∷ bs) =
    let one = bound_within b in
    let more = further_bounds bs in
    omega (arith, one, more)

bounds_within : (bs : List T.Bound) → bounds_words bs ≤ 104 * dimensions_tokens bs
bounds_within [] = omega arith
bounds_within (b ∷ bs) =
    let one = bound_within b in
    let more = further_bounds bs in
    omega (arith, one, more)

attribute_within : (a : T.Attribute) → attribute_words a ≤ 104 * attribute_tokens a
attribute_within (T.Character (Some (T.Given e))) = let one = extent_within e in omega (arith, one)
attribute_within (T.Area (Some (T.Given e))) = let one = extent_within e in omega (arith, one)
attribute_within _ = omega arith

attributes_within : (as' : List T.Attribute) → attributes_words as' ≤ 104 * row_tokens attribute_tokens as'
attributes_within [] = omega arith
attributes_within (a ∷ as') =
    let one = attribute_within a in
    let more = attributes_within as' in
    omega (arith, one, more)

-- ---- variables, each of which is given at most 208 words beside its extents

abbrev pub variable_words : Variable → ℕ
variable_words v =
    (208 - spare_words v.item.attributes) + (bounds_words (dimensions_of v) + attributes_words v.item.attributes)

spare_most : (as' : List T.Attribute) → spare_words as' ≤ 145
spare_most as' = by (has 9 as' || has 10 as' || has 11 as') where
  by : (b : Bool) → (if b then 0 else 145) ≤ 145
  by true = omega arith
  by false = omega arith

abbrev unpaid : T.DeclareItem → ℕ
unpaid item = shared_words item - spare_words item.attributes

bounds_split : (as' bs : List T.Bound) → bounds_words (as' ++ bs) ≡ bounds_words as' + bounds_words bs
bounds_split [] bs = omega arith
bounds_split (a ∷ as') bs = let more = bounds_split as' bs in omega (arith, more)

-- a name by itself, with what it shares
named_within : (item : T.DeclareItem) (d : T.DeclaredName)
    → variable_words (record { declared = d; item = item }) ≤ 104 * (1 + name_tokens d) + unpaid item
named_within item d =
    let own = bounds_within d.dimensions in
    let all = bounds_split d.dimensions item.dimensions in
    let spare = spare_most item.attributes in
    omega (arith, own, all, spare)

abbrev named : T.DeclareItem → List T.DeclaredName → List Variable
named item names = map (λ d. record { declared = d; item = item }) names

-- names with a comma before each
further_names : (item : T.DeclareItem) (ds : List T.DeclaredName)
    → variables_sum variable_words (named item ds)
    ≤ 104 * commas_before name_tokens ds + for_each (unpaid item) ds
further_names item [] = omega arith
further_names item (d ∷ ds) =
    let one = named_within item d in
    let more = further_names item ds in
    omega (arith, one, more)

names_within : (item : T.DeclareItem) (ds : List T.DeclaredName)
    → variables_sum variable_words (named item ds)
    ≤ 104 * (1 + names_tokens ds) + for_each (unpaid item) ds
names_within item [] = omega arith
names_within item (d ∷ []) = let one = named_within item d in omega (arith, one)
names_within item (d ∷ e ∷ ds) =
    let one = named_within item d in
    let more = further_names item (e ∷ ds) in
    omega (arith, one, more)

item_within : (item : T.DeclareItem)
    → variables_sum variable_words (variables_of item)
    ≤ 104 * (1 + declare_tokens item) + item_beside item
item_within item = let names = names_within item item.names in omega (arith, names)

further_items : (items : List T.DeclareItem)
    → variables_sum variable_words (flat_map variables_of items)
    ≤ 104 * commas_before declare_tokens items + declare_beside items
further_items [] = omega arith
further_items (i ∷ is) =
    let one = item_within i in
    let more = further_items is in
    let all = variables_split variable_words (variables_of i) (flat_map variables_of is) in
    omega (arith, one, more, all)

items_within : (items : List T.DeclareItem)
    → variables_sum variable_words (flat_map variables_of items)
    ≤ 104 * declaring_tokens items + declare_beside items
items_within [] = omega arith
items_within (i ∷ is) = let all = further_items (i ∷ is) in omega (arith, all)

-- ---- with what names share beside

abbrev paid : List T.DeclareItem → ℕ
paid items = 104 * declaring_tokens items + declare_beside items

mutual
  paid_stmt : (s : T.Stmt)
      → declared_sum paid s ≤ 104 * declared_sum declaring_tokens s + declared_sum declare_beside s
  paid_stmt (T.If e unit place) = paid_stmt unit
  paid_stmt (T.IfElse e unit otherwise place) =
      let one = paid_stmt unit in
      let other = paid_stmt otherwise in
      omega (arith, one, other)
  paid_stmt (T.Do body place) = paid_list body
  paid_stmt (T.DoWhile e body place) = paid_list body
  paid_stmt (T.DoCount counting body place) = paid_list body
  paid_stmt (T.Begin body place) = paid_list body
  paid_stmt (T.OnUnit on unit place) = paid_stmt unit
  paid_stmt _ = omega arith

  paid_list : (is : T.Items) → declares_sum paid is ≤ 104 * declares_tokens is + declares_beside is
  paid_list T.NoItem = omega arith
  paid_list (T.ItemThen (T.Procedure head body) is) =
      let inner = paid_list body in
      let rest = paid_list is in
      omega (arith, inner, rest)
  paid_list (T.ItemThen (T.Declare items place) is) = let rest = paid_list is in omega (arith, rest)
  paid_list (T.ItemThen (T.Statement labels s) is) =
      let one = paid_stmt s in
      let rest = paid_list is in
      omega (arith, one, rest)
  paid_list (T.ItemThen (T.EndLabels labels place) is) = paid_list is

pub blocks_paid : (around : List ℕ) (next : ℕ) (is : T.Items)
    → blocks_sum variable_words (blocks_in around next is) ≤ 104 * declares_tokens is + declares_beside is
blocks_paid around next is =
    let all = list_summed variable_words paid items_within around next is in
    let tokens = paid_list is in
    omega (arith, all, tokens)
