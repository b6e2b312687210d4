-- How many tokens stand before what is left behind declarations: at least one for each name.
use Rattle.std.proofs.Common.{ℕ, List, length, arith}
use Rattle.pli_language.specs.declared.token.Token.{Token}
use Rattle.pli_language.specs.Tree as T
use Rattle.pli_language.specs.Attributes as A
use Rattle.pli_headline.specs.FirstPath.{declared_weight}
use Rattle.pli_compile.proofs.Eating.{Eats, take, none, both, least, some, level_eats, count_eats}

-- ---- extents and dimensions

extent_eats : {s : List ℕ} {ts rest : List Token} {e : T.Extent} → A.SpellsExtent s ts e rest → Eats ts rest 0
extent_eats (A.alone ts rest e part stop) = some (level_eats part)
extent_eats (A.referring ts mid after inside behind rest t u v w e word part a b c d) =
    some (both (both (both (both (level_eats part) (take a)) (take b)) (take c)) (take d))

bound_eats : {s : List ℕ} {ts rest : List Token} {b : T.Bound} → A.SpellsBound s ts b rest → Eats ts rest 0
bound_eats (A.star ts rest t a) = some (take a)
bound_eats (A.upper ts rest e part stop) = extent_eats part
bound_eats (A.both ts mid after rest t lower above part a others) = some (both (both (extent_eats part) (take a)) (extent_eats others))

bounds_eat : {s : List ℕ} {ts rest : List Token} {bs : List T.Bound} → A.SpellsBounds s ts bs rest → Eats ts rest 0
bounds_eat (A.one_bound ts rest b part stop) = bound_eats part
bounds_eat (A.further_bounds ts mid after rest t b bs part a others) = some (both (both (bound_eats part) (take a)) (bounds_eat others))

dimensions_eat : {s : List ℕ} {ts rest : List Token} {bs : List T.Bound} → A.SpellsDimensions s ts bs rest → Eats ts rest 0
dimensions_eat (A.no_dimension ts stop) = none
dimensions_eat (A.dimensions ts after mid rest t u bs a part b) = some (both (both (take a) (bounds_eat part)) (take b))

-- ---- what stands in parentheses behind an attribute's word

precision_eats : {ts rest : List Token} {n : _} → A.SpellsPrecision ts n rest → Eats ts rest 0
precision_eats (A.no_precision ts stop) = none
precision_eats (A.digits ts rest n c) = some (count_eats c)
precision_eats (A.digits_and_scale ts after mid behind inside rest t u v w x n a b c d e) =
    some (both (both (both (both (take a) (take b)) (take c)) (take d)) (take e))

size_eats : {s : List ℕ} {ts rest : List Token} {n : _} → A.SpellsSize s ts n rest → Eats ts rest 0
size_eats (A.no_size ts stop) = none
size_eats (A.star_size ts after mid rest t u v a b c) = some (both (both (take a) (take b)) (take c))
size_eats (A.given_size ts after mid rest t u e a part b) = some (both (both (take a) (extent_eats part)) (take b))

owner_eats : {s : List ℕ} {ts rest : List Token} {n : _} → A.SpellsOwner s ts n rest → Eats ts rest 0
owner_eats (A.no_owner ts stop) = none
owner_eats (A.owner ts after mid rest t u v word a b c) = some (both (both (take a) (take b)) (take c))

bit_length_eats : {ts rest : List Token} → A.SpellsBitLength ts rest → Eats ts rest 0
bit_length_eats (A.no_bit_length ts stop) = none
bit_length_eats (A.bit_length ts rest c) = some (count_eats c)

-- ---- initial values

repetition_eats : {ts rest : List Token} {n : ℕ} → A.SpellsRepetition ts n rest → Eats ts rest 0
repetition_eats (A.once ts stop) = none
repetition_eats (A.repeated ts rest n c) = some (count_eats c)

no_arguments_eat : {ts rest : List Token} → A.SpellsNoArguments ts rest → Eats ts rest 0
no_arguments_eat (A.bare ts stop) = none
no_arguments_eat (A.empty ts mid rest t u a b) = some (both (take a) (take b))

initial_value_eats : {s : List ℕ} {ts rest : List Token} {v : T.InitialValue} → A.SpellsInitialValue s ts v rest → Eats ts rest 0
initial_value_eats (A.unsigned ts rest t n a) = some (take a)
initial_value_eats (A.positive ts mid rest t u n a b) = some (both (take a) (take b))
initial_value_eats (A.negative ts mid rest t u n a b) = some (both (take a) (take b))
initial_value_eats (A.text ts rest t v a part) = some (take a)
initial_value_eats (A.bit ts rest t b a) = some (take a)
initial_value_eats (A.skipped ts rest t a) = some (take a)
initial_value_eats (A.null ts mid rest t a part) = some (both (take a) (no_arguments_eat part))
initial_value_eats (A.empty_area ts mid rest t a part) = some (both (take a) (no_arguments_eat part))

initial_item_eats : {s : List ℕ} {ts rest : List Token} {i : T.InitialItem} → A.SpellsInitialItem s ts i rest → Eats ts rest 0
initial_item_eats (A.initial_item ts mid rest n v part other) = both (repetition_eats part) (initial_value_eats other)

initial_items_eat : {s : List ℕ} {ts rest : List Token} {is : List T.InitialItem} → A.SpellsInitialItems s ts is rest → Eats ts rest 0
initial_items_eat (A.one_value ts rest i part stop) = initial_item_eats part
initial_items_eat (A.further_values ts mid after rest t i is part a others) =
    some (both (both (initial_item_eats part) (take a)) (initial_items_eat others))

-- ---- attributes

attribute_eats : {s : List ℕ} {ts rest : List Token} {a : T.Attribute} → A.SpellsAttribute s ts a rest → Eats ts rest 0
attribute_eats (A.plain ts rest t word x a is) = some (take a)
attribute_eats (A.fixed ts after rest t p a part) = some (both (take a) (precision_eats part))
attribute_eats (A.binary ts after rest t p a part) = some (both (take a) (precision_eats part))
attribute_eats (A.character ts after rest t n a part) = some (both (take a) (size_eats part))
attribute_eats (A.bit ts after rest t a part) = some (both (take a) (bit_length_eats part))
attribute_eats (A.offset ts after rest t n a part) = some (both (take a) (owner_eats part))
attribute_eats (A.area ts after rest t n a part) = some (both (take a) (size_eats part))
attribute_eats (A.based ts after rest t n a part) = some (both (take a) (owner_eats part))
attribute_eats (A.initial ts after mid behind rest t u v is a b part c) =
    some (both (both (both (take a) (take b)) (initial_items_eat part)) (take c))

pub attributes_eat : {s : List ℕ} {ts rest : List Token} {others : List T.Attribute} → A.SpellsAttributes s ts others rest → Eats ts rest 0
attributes_eat (A.no_attribute ts stop) = none
attributes_eat (A.attribute ts mid rest a others part behind) = both (attribute_eats part) (attributes_eat behind)

-- ---- items of DECLARE

name_eats : {s : List ℕ} {ts rest : List Token} {d : T.DeclaredName} → A.SpellsDeclaredName s ts d rest → Eats ts rest 1
name_eats (A.declared_name ts after rest t word bs a part) = both (take a) (dimensions_eat part)

names_eat : {s : List ℕ} {ts rest : List Token} {ds : List T.DeclaredName} → A.SpellsDeclaredNames s ts ds rest → Eats ts rest (length ds)
names_eat (A.one_name ts rest d part stop) = name_eats part
names_eat (A.further_names ts mid after rest t d ds part a others) =
    least (omega arith) (both (both (name_eats part) (take a)) (names_eat others))

level_number_eats : {ts rest : List Token} {n : _} → A.SpellsLevel ts n rest → Eats ts rest 0
level_number_eats (A.no_level ts stop) = none
level_number_eats (A.level ts rest t n a) = some (take a)

front_eats : {s : List ℕ} {ts rest : List Token} {f : A.ItemFront} → A.SpellsFront s ts f rest → Eats ts rest (length f.names)
front_eats (A.single ts mid rest n d before part) = least (omega arith) (both (level_number_eats before) (name_eats part))
front_eats (A.factored ts mid after inside behind rest t u n ds bs before a part b others) =
    least (omega arith) (both (both (both (both (level_number_eats before) (take a)) (names_eat part)) (take b)) (dimensions_eat others))

item_eats : {s : List ℕ} {ts rest : List Token} {d : T.DeclareItem} → A.SpellsDeclareItem s ts d rest → Eats ts rest (length d.names)
item_eats (A.declare_item ts mid rest f attributes part others) = least (omega arith) (both (front_eats part) (attributes_eat others))

pub declare_items_eat : {s : List ℕ} {ts rest : List Token} {ds : List T.DeclareItem} → A.SpellsDeclareItems s ts ds rest → Eats ts rest (declared_weight ds)
declare_items_eat (A.one_item ts rest d part stop) = least (omega arith) (item_eats part)
declare_items_eat (A.further_items ts mid after rest t d ds part a others) =
    least (omega arith) (both (both (item_eats part) (take a)) (declare_items_eat others))
