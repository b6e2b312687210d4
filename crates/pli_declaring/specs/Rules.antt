-- The rules of a variable's attributes, one by one.
use Rattle.std.specs.Prelude.{Bool, ◌&&◌, ◌||◌, not, nat_lt, List, length}
use Rattle.std.specs.List.{list_any}
use Rattle.pli_language.specs.Tree.{Name, Attribute}
use Rattle.pli_language.specs.Declarations.{Held, Declaration, level_of}
use Rattle.pli_language.specs.Declaring.{has, has_kind, has_class, has_members, is_builtin, is_number_name, is_parameter, initial_fits, own_attributes, own_dimensions, stands_alone}

abbrev pub builtin_is_bad : Held → List Declaration → Bool
builtin_is_bad h after = has 13 (own_attributes h) && (has_members h after || nat_lt 0 (own_dimensions h) || not (is_builtin h.variable.declared.name.word))

abbrev pub dimensions_are_bad : Held → Bool
dimensions_are_bad h = nat_lt 0 (length h.variable.declared.dimensions) && nat_lt 0 (length h.variable.item.dimensions)

abbrev pub class_is_bad : Held → Bool
class_is_bad h = nat_lt 1 (level_of h.variable) && has_class (own_attributes h)

abbrev pub parameter_is_bad : List Name → Held → Bool
parameter_is_bad parameters h = is_parameter parameters h && ((stands_alone h && has_class (own_attributes h)) || has 12 (own_attributes h))

abbrev pub structure_is_bad : Held → Bool
structure_is_bad h = has_kind (own_attributes h) || has 3 (own_attributes h) || has 12 (own_attributes h)

abbrev pub is_kindless : Held → Bool
is_kindless h = not (has_kind (own_attributes h)) && not (has 13 (own_attributes h)) && not (is_number_name h.variable.declared.name.letters)

abbrev pub misfits : List Attribute → Bool
misfits all = list_any (λ a. not (initial_fits all a)) all

abbrev pub leaf_is_bad : Held → Bool
leaf_is_bad h = is_kindless h || misfits (own_attributes h)
