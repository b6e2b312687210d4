-- Declarations that fitting tokens spell are in range, and what stands behind them fits.
use Rattle.std.proofs.Common.{◌≡◌, ℕ, zero, suc, List, Option, Some, None, subst, arith}
use Rattle.std.specs.Prelude.{pos, neg_ℤ, ⊤}
use Rattle.pli_language.specs.declared.token.Token.{Token}
use Rattle.pli_language.specs.declared.token.Word.{Word}
use Rattle.pli_language.specs.declared.token.Word.TheVariants as W
use Rattle.pli_language.specs.Attributes as A
use Rattle.pli_language.specs.Attributes.{SpellsExtent, SpellsBound, SpellsBounds, SpellsDimensions, SpellsPrecision}
use Rattle.pli_language.specs.Attributes.{SpellsSize, SpellsOwner, SpellsBitLength, SpellsRepetition}
use Rattle.pli_language.specs.Attributes.{SpellsNoArguments, SpellsInitialValue, SpellsInitialItem}
use Rattle.pli_language.specs.Attributes.{SpellsInitialItems, plain_attribute, SpellsAttribute, SpellsAttributes}
use Rattle.pli_language.specs.Attributes.{SpellsDeclaredName, SpellsDeclaredNames, SpellsLevel, ItemFront}
use Rattle.pli_language.specs.Attributes.{SpellsFront, SpellsDeclareItem, SpellsDeclareItems}
use Rattle.pli_language.specs.Tree as T
use Rattle.well_formed_trees.specs.Every.{Every}
use Rattle.well_formed_trees.specs.Ranges.{IsConstant, IsInteger}
use Rattle.well_formed_trees.specs.Spelled.{RangedExtent, RangedBound, RangedSize, RangedValue, RangedInitial}
use Rattle.well_formed_trees.specs.Spelled.{RangedIf, RangedAttribute, RangedName, RangedItem}
use Rattle.well_formed_trees.proofs.TokensFit.{AllFit, behind, number_fits, text_fits}
use Rattle.well_formed_trees.proofs.SpelledExpressions.{expr_fits, count_fits}

-- ---- extents and dimensions

extent_fits : {s : List ℕ} {all ts rest : List Token} {e : T.Extent} → SpellsExtent s ts e rest
    → AllFit s all ts
    → RangedExtent e × AllFit s all rest
extent_fits (A.alone ts rest e sp none) h = expr_fits sp h
extent_fits (A.referring ts mid after inside behind_it rest t u v w e word sp refer opened named closed) h =
    let a = expr_fits sp h in
    (a.0, behind closed (behind named (behind opened (behind refer a.1))))

bound_fits : {s : List ℕ} {all ts rest : List Token} {b : T.Bound} → SpellsBound s ts b rest
    → AllFit s all ts
    → RangedBound b × AllFit s all rest
bound_fits (A.star ts rest t taken) h = (tt, behind taken h)
bound_fits (A.upper ts rest e sp none) h = extent_fits sp h
bound_fits (A.both ts mid after rest t lower above sp colon more) h =
    let a = extent_fits sp h in
    let b = extent_fits more (behind colon a.1) in
    ((a.0, b.0), b.1)

bounds_fit : {s : List ℕ} {all ts rest : List Token} {bs : List T.Bound} → SpellsBounds s ts bs rest
    → AllFit s all ts
    → Every RangedBound bs × AllFit s all rest
bounds_fit (A.one_bound ts rest b sp none) h =
    let a = bound_fits sp h in
    ((a.0, tt), a.1)
bounds_fit (A.further_bounds ts mid after rest t b bs sp comma more) h =
    let a = bound_fits sp h in
    let c = bounds_fit more (behind comma a.1) in
    ((a.0, c.0), c.1)

pub dimensions_fit : {s : List ℕ} {all ts rest : List Token} {bs : List T.Bound}
    → SpellsDimensions s ts bs rest → AllFit s all ts
    → Every RangedBound bs × AllFit s all rest
dimensions_fit (A.no_dimension ts none) h = (tt, h)
dimensions_fit (A.dimensions ts after mid rest t u bs opened sp closed) h =
    let a = bounds_fit sp (behind opened h) in
    (a.0, behind closed a.1)

-- ---- what stands in parentheses behind a word

precision_fits : {s : List ℕ} {all ts rest : List Token} {p : Option ℕ} → SpellsPrecision ts p rest
    → AllFit s all ts
    → AllFit s all rest
precision_fits (A.no_precision ts none) h = h
precision_fits (A.digits ts rest n counted) h = count_fits counted h
precision_fits (A.digits_and_scale ts after mid behind_it inside rest t u v w x n opened digits comma scale closed) h =
    behind closed (behind scale (behind comma (behind digits (behind opened h))))

size_fits : {s : List ℕ} {all ts rest : List Token} {n : Option T.Size} → SpellsSize s ts n rest
    → AllFit s all ts
    → RangedIf RangedSize n × AllFit s all rest
size_fits (A.no_size ts none) h = (tt, h)
size_fits (A.star_size ts after mid rest t u v opened star closed) h =
    (tt, behind closed (behind star (behind opened h)))
size_fits (A.given_size ts after mid rest t u e opened sp closed) h =
    let a = extent_fits sp (behind opened h) in
    (a.0, behind closed a.1)

owner_fits : {s : List ℕ} {all ts rest : List Token} {n : Option T.Name} → SpellsOwner s ts n rest
    → AllFit s all ts
    → AllFit s all rest
owner_fits (A.no_owner ts none) h = h
owner_fits (A.owner ts after mid rest t u v word opened named closed) h =
    behind closed (behind named (behind opened h))

bit_length_fits : {s : List ℕ} {all ts rest : List Token} → SpellsBitLength ts rest → AllFit s all ts
    → AllFit s all rest
bit_length_fits (A.no_bit_length ts none) h = h
bit_length_fits (A.bit_length ts rest counted) h = count_fits counted h

-- ---- initial values

repetition_fits : {s : List ℕ} {all ts rest : List Token} {n : ℕ} → SpellsRepetition ts n rest
    → AllFit s all ts
    → IsInteger (pos n) × AllFit s all rest
repetition_fits (A.once ts none) h = (omega arith, h)
repetition_fits (A.repeated ts rest n counted) h =
    (number_fits counted.counted (behind counted.opened h), count_fits counted h)

no_arguments_fit : {s : List ℕ} {all ts rest : List Token} → SpellsNoArguments ts rest → AllFit s all ts
    → AllFit s all rest
no_arguments_fit (A.bare ts none) h = h
no_arguments_fit (A.empty ts mid rest t u opened closed) h = behind closed (behind opened h)

negated : (n : ℕ) → IsConstant n → IsInteger (neg_ℤ (pos n))
negated zero h = h
negated (suc n) h = omega (arith, h)

value_fits : {s : List ℕ} {all ts rest : List Token} {v : T.InitialValue}
    → SpellsInitialValue s ts v rest → AllFit s all ts
    → RangedValue v × AllFit s all rest
value_fits (A.unsigned ts rest t n taken) h = (number_fits taken h, behind taken h)
value_fits (A.positive ts mid rest t u n sign taken) h =
    (number_fits taken (behind sign h), behind taken (behind sign h))
value_fits (A.negative ts mid rest t u n sign taken) h =
    (negated n (number_fits taken (behind sign h)), behind taken (behind sign h))
value_fits (A.text ts rest t v taken spelled) h = (text_fits taken spelled h, behind taken h)
value_fits (A.bit ts rest t b taken) h = (tt, behind taken h)
value_fits (A.skipped ts rest t taken) h = (tt, behind taken h)
value_fits (A.null ts mid rest t taken none) h = (tt, no_arguments_fit none (behind taken h))
value_fits (A.empty_area ts mid rest t taken none) h = (tt, no_arguments_fit none (behind taken h))

initial_fits : {s : List ℕ} {all ts rest : List Token} {i : T.InitialItem}
    → SpellsInitialItem s ts i rest → AllFit s all ts
    → RangedInitial i × AllFit s all rest
initial_fits (A.initial_item ts mid rest n v times sp) h =
    let a = repetition_fits times h in
    let b = value_fits sp a.1 in
    ((a.0, b.0), b.1)

initials_fit : {s : List ℕ} {all ts rest : List Token} {is : List T.InitialItem}
    → SpellsInitialItems s ts is rest
    → AllFit s all ts → Every RangedInitial is × AllFit s all rest
initials_fit (A.one_value ts rest i sp none) h =
    let a = initial_fits sp h in
    ((a.0, tt), a.1)
initials_fit (A.further_values ts mid after rest t i is sp comma more) h =
    let a = initial_fits sp h in
    let b = initials_fit more (behind comma a.1) in
    ((a.0, b.0), b.1)

-- ---- attributes

-- what an attribute of one word is
abbrev IsPlain : Option T.Attribute → Type 0
IsPlain None = ⊤
IsPlain (Some a) = RangedAttribute a

plain_word : (word : Word) → IsPlain (plain_attribute word)
plain_word W.Varying = tt
plain_word W.Pointer = tt
plain_word W.Ptr = tt
plain_word W.Automatic = tt
plain_word W.Static = tt
plain_word W.Controlled = tt
plain_word W.Builtin = tt
plain_word W.Aligned = tt
plain_word W.Unaligned = tt
plain_word W.Internal = tt
plain_word _ = tt

plain_fits : (a : T.Attribute) (word : Word) → plain_attribute word ≡ Some a → RangedAttribute a
plain_fits a word e = subst IsPlain e (plain_word word)

attribute_fits : {s : List ℕ} {all ts rest : List Token} {a : T.Attribute} → SpellsAttribute s ts a rest
    → AllFit s all ts
    → RangedAttribute a × AllFit s all rest
attribute_fits (A.plain ts rest t word a taken is) h = (plain_fits a word is, behind taken h)
attribute_fits (A.fixed ts after rest t p taken after_it) h = (tt, precision_fits after_it (behind taken h))
attribute_fits (A.binary ts after rest t p taken after_it) h = (tt, precision_fits after_it (behind taken h))
attribute_fits (A.character ts after rest t n taken size) h = size_fits size (behind taken h)
attribute_fits (A.bit ts after rest t taken one) h = (tt, bit_length_fits one (behind taken h))
attribute_fits (A.offset ts after rest t area taken after_it) h = (tt, owner_fits after_it (behind taken h))
attribute_fits (A.area ts after rest t n taken size) h = size_fits size (behind taken h)
attribute_fits (A.based ts after rest t locator taken after_it) h = (tt, owner_fits after_it (behind taken h))
attribute_fits (A.initial ts after mid behind_it rest t u v is taken opened sp closed) h =
    let a = initials_fit sp (behind opened (behind taken h)) in
    (a.0, behind closed a.1)

pub attributes_fit : {s : List ℕ} {all ts rest : List Token} {as' : List T.Attribute}
    → SpellsAttributes s ts as' rest
    → AllFit s all ts → Every RangedAttribute as' × AllFit s all rest
attributes_fit (A.no_attribute ts none) h = (tt, h)
attributes_fit (A.attribute ts mid rest a others sp more) h =
    let b = attribute_fits sp h in
    let c = attributes_fit more b.1 in
    ((b.0, c.0), c.1)

-- ---- items of DECLARE

name_fits : {s : List ℕ} {all ts rest : List Token} {d : T.DeclaredName} → SpellsDeclaredName s ts d rest
    → AllFit s all ts
    → RangedName d × AllFit s all rest
name_fits (A.declared_name ts after rest t word bs taken after_it) h = dimensions_fit after_it (behind taken h)

names_fit : {s : List ℕ} {all ts rest : List Token} {ds : List T.DeclaredName}
    → SpellsDeclaredNames s ts ds rest
    → AllFit s all ts → Every RangedName ds × AllFit s all rest
names_fit (A.one_name ts rest d sp none) h =
    let a = name_fits sp h in
    ((a.0, tt), a.1)
names_fit (A.further_names ts mid after rest t d ds sp comma more) h =
    let a = name_fits sp h in
    let b = names_fit more (behind comma a.1) in
    ((a.0, b.0), b.1)

pub level_fits : {s : List ℕ} {all ts rest : List Token} {n : Option ℕ} → SpellsLevel ts n rest
    → AllFit s all ts → AllFit s all rest
level_fits (A.no_level ts none) h = h
level_fits (A.level ts rest t n taken) h = behind taken h

abbrev RangedFront : ItemFront → Type 0
RangedFront f = Every RangedName f.names × Every RangedBound f.dimensions

front_fits : {s : List ℕ} {all ts rest : List Token} {f : ItemFront} → SpellsFront s ts f rest
    → AllFit s all ts
    → RangedFront f × AllFit s all rest
front_fits (A.single ts mid rest n d before sp) h =
    let a = name_fits sp (level_fits before h) in
    (((a.0, tt), tt), a.1)
front_fits (A.factored ts mid after inside behind_it rest t u n ds bs before opened sp closed after_it) h =
    let a = names_fit sp (behind opened (level_fits before h)) in
    let b = dimensions_fit after_it (behind closed a.1) in
    ((a.0, b.0), b.1)

item_fits : {s : List ℕ} {all ts rest : List Token} {d : T.DeclareItem} → SpellsDeclareItem s ts d rest
    → AllFit s all ts
    → RangedItem d × AllFit s all rest
item_fits (A.declare_item ts mid rest f attributes front sp) h =
    let a = front_fits front h in
    let b = attributes_fit sp a.1 in
    ((a.0, b.0), b.1)

pub items_fit : {s : List ℕ} {all ts rest : List Token} {ds : List T.DeclareItem}
    → SpellsDeclareItems s ts ds rest
    → AllFit s all ts → Every RangedItem ds × AllFit s all rest
items_fit (A.one_item ts rest d sp none) h =
    let a = item_fits sp h in
    ((a.0, tt), a.1)
items_fit (A.further_items ts mid after rest t d ds sp comma more) h =
    let a = item_fits sp h in
    let b = items_fit more (behind comma a.1) in
    ((a.0, b.0), b.1)
