-- The tokens that declarations are spelled with.
use Rattle.std.proofs.Common.{◌≡◌, ℕ, zero, suc, ◌+◌, ◌≤◌, ◌==◌, ℤ, pos, negsuc, List, [], ◌∷◌, Option, Some, None}
use Rattle.std.proofs.Common.{length, Bool, true, false, arith, subst, if◌then◌else◌}
use Rattle.std.specs.Prelude.{neg_ℤ}
use Rattle.pli_language.specs.declared.token.Token.{Token}
use Rattle.pli_language.specs.Attributes as L
use Rattle.pli_language.specs.Attributes.{SpellsExtent, SpellsBound, SpellsBounds, SpellsDimensions, SpellsPrecision}
use Rattle.pli_language.specs.Attributes.{SpellsSize, SpellsOwner, SpellsBitLength, SpellsRepetition, SpellsNoArguments}
use Rattle.pli_language.specs.Attributes.{SpellsInitialValue, SpellsInitialItem, SpellsInitialItems, SpellsAttribute}
use Rattle.pli_language.specs.Attributes.{SpellsAttributes, SpellsDeclaredName, SpellsDeclaredNames, SpellsLevel}
use Rattle.pli_language.specs.Attributes.{ItemFront, SpellsFront, SpellsDeclareItem, SpellsDeclareItems}
use Rattle.pli_language.specs.Attributes.{plain_attribute}
use Rattle.pli_language.specs.declared.token.Word.{Word}
use Rattle.pli_language.specs.declared.token.Word.TheVariants as W
use Rattle.pli_language.specs.Tree as T
use Rattle.tree_tokens.specs.TreeTokens.{tokens_if, commas_before, list_tokens, row_tokens, extent_tokens, bound_tokens}
use Rattle.tree_tokens.specs.TreeTokens.{dimensions_tokens, size_tokens, number_tokens, value_tokens, item_tokens}
use Rattle.tree_tokens.specs.TreeTokens.{attribute_tokens, name_tokens, names_tokens, declare_tokens}
use Rattle.tree_tokens.proofs.Expressions.{taken, counted, expr_spelled}

-- ---- lists with commas

pub comma_most : {X : Type 0} (tokens : X → ℕ) (x : X) (xs : List X)
    → list_tokens tokens (x ∷ xs) ≤ tokens x + (1 + list_tokens tokens xs)
comma_most tokens x [] = omega arith
comma_most tokens x (y ∷ ys) = omega arith

-- ---- extents

extent_spelled : {s : List ℕ} {ts rest : List Token} {e : T.Extent} → SpellsExtent s ts e rest
    → extent_tokens e + length rest ≤ length ts
extent_spelled (L.alone ts rest e sp none) = let a = expr_spelled sp in omega (arith, a)
extent_spelled (L.referring ts mid after inside behind rest t u v w e word sp refer opened name closed) =
    let a = expr_spelled sp in
    let b = taken refer in
    let c = taken opened in
    let d = taken name in
    let f = taken closed in
    omega (arith, a, b, c, d, f)

bound_spelled : {s : List ℕ} {ts rest : List Token} {b : T.Bound} → SpellsBound s ts b rest
    → bound_tokens b + length rest ≤ length ts
bound_spelled (L.star ts rest t h) = let a = taken h in omega (arith, a)
bound_spelled (L.upper ts rest e sp none) = extent_spelled sp
bound_spelled (L.both ts mid after rest t lower above sp colon more) =
    let a = extent_spelled sp in
    let b = taken colon in
    let c = extent_spelled more in
    omega (arith, a, b, c)

bounds_spelled : {s : List ℕ} {ts rest : List Token} {bs : List T.Bound} → SpellsBounds s ts bs rest
    → list_tokens bound_tokens bs + length rest ≤ length ts
bounds_spelled (L.one_bound ts rest b sp none) = let a = bound_spelled sp in omega (arith, a)
bounds_spelled (L.further_bounds ts mid after rest t b bs sp comma more) =
    let a = bound_spelled sp in
    let c = taken comma in
    let d = bounds_spelled more in
    let e = comma_most bound_tokens b bs in
    omega (arith, a, c, d, e)

dimensions_most : (bs : List T.Bound) → dimensions_tokens bs ≤ 2 + list_tokens bound_tokens bs
dimensions_most [] = omega arith
dimensions_most (b ∷ bs) = omega arith

dimensions_spelled : {s : List ℕ} {ts rest : List Token} {bs : List T.Bound} → SpellsDimensions s ts bs rest
    → dimensions_tokens bs + length rest ≤ length ts
dimensions_spelled (L.no_dimension ts none) = omega arith
dimensions_spelled (L.dimensions ts after mid rest t u bs opened sp closed) =
    let a = taken opened in
    let b = bounds_spelled sp in
    let c = taken closed in
    let d = dimensions_most bs in
    omega (arith, a, b, c, d)

-- ---- behind an attribute's word

precision_spelled : {ts rest : List Token} {p : Option ℕ} → SpellsPrecision ts p rest
    → tokens_if (λ n. 3) p + length rest ≤ length ts
precision_spelled (L.no_precision ts none) = omega arith
precision_spelled (L.digits ts rest n h) = let a = counted h in omega (arith, a)
precision_spelled (L.digits_and_scale ts after mid behind inside rest t u v w x n opened number comma scale closed) =
    let a = taken opened in
    let b = taken number in
    let c = taken comma in
    let d = taken scale in
    let e = taken closed in
    omega (arith, a, b, c, d, e)

size_spelled : {s : List ℕ} {ts rest : List Token} {size : Option T.Size} → SpellsSize s ts size rest
    → tokens_if size_tokens size + length rest ≤ length ts
size_spelled (L.no_size ts none) = omega arith
size_spelled (L.star_size ts after mid rest t u v opened star closed) =
    let a = taken opened in
    let b = taken star in
    let c = taken closed in
    omega (arith, a, b, c)
size_spelled (L.given_size ts after mid rest t u e opened sp closed) =
    let a = taken opened in
    let b = extent_spelled sp in
    let c = taken closed in
    omega (arith, a, b, c)

owner_spelled : {s : List ℕ} {ts rest : List Token} {owner : Option T.Name} → SpellsOwner s ts owner rest
    → tokens_if (λ n. 3) owner + length rest ≤ length ts
owner_spelled (L.no_owner ts none) = omega arith
owner_spelled (L.owner ts after mid rest t u v word opened name closed) =
    let a = taken opened in
    let b = taken name in
    let c = taken closed in
    omega (arith, a, b, c)

bit_spelled : {ts rest : List Token} → SpellsBitLength ts rest → length rest ≤ length ts
bit_spelled (L.no_bit_length ts none) = omega arith
bit_spelled (L.bit_length ts rest h) = let a = counted h in omega (arith, a)

-- ---- initial values

repetition_spelled : {ts rest : List Token} {n : ℕ} → SpellsRepetition ts n rest
    → (if n == 1 then 0 else 3) + length rest ≤ length ts
repetition_spelled (L.once ts none) = omega arith
repetition_spelled (L.repeated ts rest n h) = by (n == 1)
  where
    by : (q : Bool) → (if q then 0 else 3) + length rest ≤ length ts
    by true = let a = counted h in omega (arith, a)
    by false = let a = counted h in omega (arith, a)

no_arguments_spelled : {ts rest : List Token} → SpellsNoArguments ts rest → length rest ≤ length ts
no_arguments_spelled (L.bare ts none) = omega arith
no_arguments_spelled (L.empty ts mid rest t u opened closed) =
    let a = taken opened in
    let b = taken closed in
    omega (arith, a, b)

negative_most : (n : ℕ) → number_tokens (neg_ℤ (pos n)) ≤ 2
negative_most zero = omega arith
negative_most (suc n) = omega arith

value_spelled : {s : List ℕ} {ts rest : List Token} {v : T.InitialValue} → SpellsInitialValue s ts v rest
    → value_tokens v + length rest ≤ length ts
value_spelled (L.unsigned ts rest t n h) = let a = taken h in omega (arith, a)
value_spelled (L.positive ts mid rest t u n sign h) =
    let a = taken sign in
    let b = taken h in
    omega (arith, a, b)
value_spelled (L.negative ts mid rest t u n sign h) =
    let a = taken sign in
    let b = taken h in
    let c = negative_most n in
    omega (arith, a, b, c)
value_spelled (L.text ts rest t v h is) = let a = taken h in omega (arith, a)
value_spelled (L.bit ts rest t b h) = let a = taken h in omega (arith, a)
value_spelled (L.skipped ts rest t h) = let a = taken h in omega (arith, a)
value_spelled (L.null ts mid rest t h sp) =
    let a = taken h in
    let b = no_arguments_spelled sp in
    omega (arith, a, b)
value_spelled (L.empty_area ts mid rest t h sp) =
    let a = taken h in
    let b = no_arguments_spelled sp in
    omega (arith, a, b)

item_spelled : {s : List ℕ} {ts rest : List Token} {i : T.InitialItem} → SpellsInitialItem s ts i rest
    → item_tokens i + length rest ≤ length ts
item_spelled (L.initial_item ts mid rest n v sp more) =
    let a = repetition_spelled sp in
    let b = value_spelled more in
    omega (arith, a, b)

items_spelled : {s : List ℕ} {ts rest : List Token} {is : List T.InitialItem} → SpellsInitialItems s ts is rest
    → list_tokens item_tokens is + length rest ≤ length ts
items_spelled (L.one_value ts rest i sp none) = let a = item_spelled sp in omega (arith, a)
items_spelled (L.further_values ts mid after rest t i is sp comma more) =
    let a = item_spelled sp in
    let b = taken comma in
    let c = items_spelled more in
    let d = comma_most item_tokens i is in
    omega (arith, a, b, c, d)

-- ---- attributes

-- those of one word
plain_most : (b a : T.Attribute) → Some b ≡ Some a → attribute_tokens b ≤ 1 → attribute_tokens a ≤ 1
plain_most b a h k = subst (λ x. attribute_tokens x ≤ 1) (same_attribute b a h) k
  where
    same_attribute : (b a : T.Attribute) → Some b ≡ Some a → b ≡ a
    same_attribute b a h = cc

one_word : (word : Word) (a : T.Attribute) → plain_attribute word ≡ Some a → attribute_tokens a ≤ 1
one_word W.Varying a h = plain_most T.Varying a h (omega arith)
one_word W.Pointer a h = plain_most T.Pointer a h (omega arith)
one_word W.Ptr a h = plain_most T.Pointer a h (omega arith)
one_word W.Automatic a h = plain_most T.Automatic a h (omega arith)
one_word W.Static a h = plain_most T.Static a h (omega arith)
one_word W.Controlled a h = plain_most T.Controlled a h (omega arith)
one_word W.Builtin a h = plain_most T.Builtin a h (omega arith)
one_word W.Aligned a h = plain_most T.Aligned a h (omega arith)
one_word W.Unaligned a h = plain_most T.Unaligned a h (omega arith)
one_word W.Internal a h = plain_most T.Internal a h (omega arith)
one_word _ a h = absurd (cc h)

attribute_spelled : {s : List ℕ} {ts rest : List Token} {x : T.Attribute} → SpellsAttribute s ts x rest
    → attribute_tokens x + length rest ≤ length ts
attribute_spelled (L.plain ts rest t word x h is) =
    let a = taken h in
    let b = one_word word x is in
    omega (arith, a, b)
attribute_spelled (L.fixed ts after rest t p h sp) =
    let a = taken h in
    let b = precision_spelled sp in
    omega (arith, a, b)
attribute_spelled (L.binary ts after rest t p h sp) =
    let a = taken h in
    let b = precision_spelled sp in
    omega (arith, a, b)
attribute_spelled (L.character ts after rest t n h sp) =
    let a = taken h in
    let b = size_spelled sp in
    omega (arith, a, b)
attribute_spelled (L.bit ts after rest t h sp) =
    let a = taken h in
    let b = bit_spelled sp in
    omega (arith, a, b)
attribute_spelled (L.offset ts after rest t area h sp) =
    let a = taken h in
    let b = owner_spelled sp in
    omega (arith, a, b)
attribute_spelled (L.area ts after rest t n h sp) =
    let a = taken h in
    let b = size_spelled sp in
    omega (arith, a, b)
attribute_spelled (L.based ts after rest t locator h sp) =
    let a = taken h in
    let b = owner_spelled sp in
    omega (arith, a, b)
attribute_spelled (L.initial ts after mid behind rest t u v is h opened sp closed) =
    let a = taken h in
    let b = taken opened in
    let c = items_spelled sp in
    let d = taken closed in
    omega (arith, a, b, c, d)

pub attributes_spelled : {s : List ℕ} {ts rest : List Token} {xs : List T.Attribute} → SpellsAttributes s ts xs rest
    → row_tokens attribute_tokens xs + length rest ≤ length ts
attributes_spelled (L.no_attribute ts none) = omega arith
attributes_spelled (L.attribute ts mid rest x others sp more) =
    let a = attribute_spelled sp in
    let b = attributes_spelled more in
    omega (arith, a, b)

-- ---- items of DECLARE

name_spelled : {s : List ℕ} {ts rest : List Token} {d : T.DeclaredName} → SpellsDeclaredName s ts d rest
    → name_tokens d + length rest ≤ length ts
name_spelled (L.declared_name ts after rest t word bs h sp) =
    let a = taken h in
    let b = dimensions_spelled sp in
    omega (arith, a, b)

declared_spelled : {s : List ℕ} {ts rest : List Token} {ds : List T.DeclaredName} → SpellsDeclaredNames s ts ds rest
    → list_tokens name_tokens ds + length rest ≤ length ts
declared_spelled (L.one_name ts rest d sp none) = let a = name_spelled sp in omega (arith, a)
declared_spelled (L.further_names ts mid after rest t d ds sp comma more) =
    let a = name_spelled sp in
    let b = taken comma in
    let c = declared_spelled more in
    let e = comma_most name_tokens d ds in
    omega (arith, a, b, c, e)

level_spelled : {ts rest : List Token} {n : Option ℕ} → SpellsLevel ts n rest
    → tokens_if (λ n. 1) n + length rest ≤ length ts
level_spelled (L.no_level ts none) = omega arith
level_spelled (L.level ts rest t n h) = let a = taken h in omega (arith, a)

names_most : (ds : List T.DeclaredName) → names_tokens ds ≤ 2 + list_tokens name_tokens ds
names_most [] = omega arith
names_most (d ∷ []) = omega arith
names_most (d ∷ e ∷ ds) = omega arith

front_spelled : {s : List ℕ} {ts rest : List Token} {f : ItemFront} → SpellsFront s ts f rest
    → tokens_if (λ n. 1) f.level + (names_tokens f.names + dimensions_tokens f.dimensions) + length rest ≤ length ts
front_spelled (L.single ts mid rest n d sp more) =
    let a = level_spelled sp in
    let b = name_spelled more in
    omega (arith, a, b)
front_spelled (L.factored ts mid after inside behind rest t u n ds bs sp opened names closed more) =
    let a = level_spelled sp in
    let b = taken opened in
    let c = declared_spelled names in
    let d = taken closed in
    let e = dimensions_spelled more in
    let f = names_most ds in
    omega (arith, a, b, c, d, e, f)

declare_spelled : {s : List ℕ} {ts rest : List Token} {d : T.DeclareItem} → SpellsDeclareItem s ts d rest
    → declare_tokens d + length rest ≤ length ts
declare_spelled (L.declare_item ts mid rest f attributes sp more) =
    let a = front_spelled sp in
    let b = attributes_spelled more in
    omega (arith, a, b)

pub declares_spelled : {s : List ℕ} {ts rest : List Token} {ds : List T.DeclareItem} → SpellsDeclareItems s ts ds rest
    → list_tokens declare_tokens ds + length rest ≤ length ts
declares_spelled (L.one_item ts rest d sp none) = let a = declare_spelled sp in omega (arith, a)
declares_spelled (L.further_items ts mid after rest t d ds sp comma more) =
    let a = declare_spelled sp in
    let b = taken comma in
    let c = declares_spelled more in
    let e = comma_most declare_tokens d ds in
    omega (arith, a, b, c, e)
