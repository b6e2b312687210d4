-- What the rules of declarations refuse in a program: every place where one is broken, with its number.
use Rattle.std.specs.Prelude.{ℕ, ◌+◌, ◌-◌, ◌*◌, ◌/◌, Bool, true, false, not, ◌&&◌, ◌||◌, ◌==◌, nat_lt, nat_le, List, [], ◌∷◌, ◌++◌, map, filter, length, sum_by, Option, Some, None, is_some, if◌then◌else◌, ◌^◌, ℤ, pos, negsuc, ◌+ℤ◌, ◌-ℤ◌, neg_ℤ}
use Rattle.std.specs.Ordering.{is_lt, int_cmp}
use Rattle.std.specs.List.{flat_map, list_any}
use Rattle.pli_language.specs.declared.expr.Place.{Place}
use Rattle.pli_language.specs.declared.expr.PrefixOp.TheVariants as P
use Rattle.pli_language.specs.declared.token.Word.{Word}
use Rattle.pli_language.specs.declared.token.Word.TheVariants as W
use Rattle.pli_language.specs.declared.fault.SourceFault.{SourceFault}
use Rattle.pli_language.specs.declared.fault.SourceKind.TheVariants.{Undeclared, DeclaredTwice, BadAttributes, BadExtent, NestedArea, BadRefer, NoMain, TooLarge}
use Rattle.pli_language.specs.Tree.{Name, Expr, Number, Prefix, Infix, Text, Bit, Parenthesized, Refers, Reference, Plain, Located, Qualified, Last, Of, Refer, Extent, Bound, StarBound, Upper, Both, Size, StarSize, Given, InitialValue, InitialNumber, InitialText, InitialBit, InitialSkip, InitialNull, InitialEmpty, Attribute, Fixed, Binary, Character, Varying, BitOne, Pointer, Offset, Area, Automatic, Static, Controlled, Based, Initial, Builtin, Aligned, Unaligned, Internal, ProcedureOption, Main, Recursive, Returns, ProcedureHead, Procedure, Items, NoItem, ItemThen, Tree}
use Rattle.pli_language.specs.Keywords.{same_bytes}
use Rattle.pli_language.specs.Refusals.{fault, is_before}
use Rattle.pli_language.specs.Declarations.{Variable, level_of, dimensions_of, Held, What, Variable', Label, ProcedureName, Declaration, Block, blocks_of}

abbrev pub when : Bool → SourceFault → List SourceFault
when true f = f ∷ []
when false f = []

-- ---- attributes

-- the place of an attribute in the list of all attributes
abbrev pub row_of : Attribute → ℕ
row_of (Fixed p) = 0
row_of (Binary p) = 1
row_of (Character s) = 2
row_of Varying = 3
row_of BitOne = 4
row_of Pointer = 5
row_of (Offset a) = 6
row_of (Area s) = 7
row_of Automatic = 8
row_of Static = 9
row_of Controlled = 10
row_of (Based l) = 11
row_of (Initial is) = 12
row_of Builtin = 13
row_of Aligned = 14
row_of Unaligned = 15
row_of Internal = 16

-- an attribute of this row is among them
abbrev pub has : ℕ → List Attribute → Bool
has row attributes = list_any (λ a. row_of a == row) attributes

abbrev pub repeats : List Attribute → Bool
repeats [] = false
repeats (a ∷ all) = has (row_of a) all || repeats all

abbrev pub one : Bool → ℕ
one true = 1
one false = 0

-- how many kinds these attributes name: numbers, texts, BIT, POINTER, OFFSET, AREA
abbrev pub kinds_in : List Attribute → ℕ
kinds_in all = one (has 0 all || has 1 all) + one (has 2 all) + one (has 4 all) + one (has 5 all) + one (has 6 all) + one (has 7 all)

abbrev pub has_kind : List Attribute → Bool
has_kind all = nat_lt 0 (kinds_in all)

-- how many storage classes, BASED and BUILTIN among them
abbrev pub classes_in : List Attribute → ℕ
classes_in all = one (has 8 all) + one (has 9 all) + one (has 10 all) + one (has 11 all) + one (has 13 all)

abbrev pub has_class : List Attribute → Bool
has_class all = nat_lt 0 (classes_in all)

-- the precisions that are written
abbrev pub precisions_in : List Attribute → List ℕ
precisions_in [] = []
precisions_in (Fixed (Some p) ∷ all) = p ∷ precisions_in all
precisions_in (Binary (Some p) ∷ all) = p ∷ precisions_in all
precisions_in (_ ∷ all) = precisions_in all

abbrev pub most_digits : ℕ
most_digits = 31

-- a kind without a precision has 15 digits
abbrev pub precision_of : List ℕ → ℕ
precision_of [] = 15
precision_of (p ∷ ps) = p

-- attributes that can't stand together, or can't stand so
abbrev pub attributes_clash : List Attribute → Bool
attributes_clash all =
    repeats all || nat_lt 1 (kinds_in all) || nat_lt 1 (classes_in all) || (has 3 all && not (has 2 all)) || (has 14 all && has 15 all)
    || nat_lt 1 (length (precisions_in all)) || list_any (λ p. (p == 0) || nat_lt most_digits p) (precisions_in all)

-- BUILTIN stands alone, but for INTERNAL
abbrev pub builtin_clash : List Attribute → Bool
builtin_clash all = has 13 all && list_any (λ a. not ((row_of a == 13) || (row_of a == 16))) all

-- the names of built-in functions
abbrev pub is_builtin : Word → Bool
is_builtin W.Abs = true
is_builtin W.Sign = true
is_builtin W.Max = true
is_builtin W.Min = true
is_builtin W.Mod = true
is_builtin W.Divide = true
is_builtin W.Length = true
is_builtin W.Substr = true
is_builtin W.Index = true
is_builtin W.Verify = true
is_builtin W.Lbound = true
is_builtin W.Hbound = true
is_builtin W.Dim = true
is_builtin W.Allocation = true
is_builtin W.Addr = true
is_builtin W.Null = true
is_builtin W.Empty = true
is_builtin W.Pointer = true
is_builtin W.Offset = true
is_builtin W.Oncode = true
is_builtin _ = false

-- a name without a kind is a number where it begins with I to N
abbrev pub is_number_name : List ℕ → Bool
is_number_name [] = false
is_number_name (c ∷ cs) = nat_le 73 c && nat_le c 78

-- ---- what stands around a variable

abbrev pub own_attributes : Held → List Attribute
own_attributes h = h.variable.item.attributes

-- the variable of level 1 that it is, or that holds it
abbrev pub first_or : List Variable → Variable → Variable
first_or [] v = v
first_or (a ∷ all) v = a

abbrev pub root_of : Held → Variable
root_of h = first_or h.above h.variable

abbrev pub class_attributes : Held → List Attribute
class_attributes h = (root_of h).item.attributes

abbrev pub stands_alone : Held → Bool
stands_alone h = length h.above == 0

abbrev pub own_dimensions : Held → ℕ
own_dimensions h = length (dimensions_of h.variable)

abbrev pub inherited_dimensions : Held → ℕ
inherited_dimensions h = sum_by (λ v. length (dimensions_of v)) h.above

abbrev pub held_is : (Held → Bool) → What → Bool
held_is test (Variable' h) = test h
held_is test Label = false
held_is test (ProcedureName head) = false

-- b, declared next, belongs to a
abbrev pub is_deeper : Held → Held → Bool
is_deeper a b = nat_lt (length a.above) (length b.above)

-- what the test says of the variable declared next, if a variable is
abbrev pub next_is : (Held → Bool) → List Declaration → Bool
next_is test [] = false
next_is test (d ∷ ds) = held_is test d.what

abbrev pub has_members : Held → List Declaration → Bool
has_members h after = next_is (is_deeper h) after

-- the structure isn't at its end
abbrev pub goes_on : List Declaration → Bool
goes_on after = next_is (λ b. not (stands_alone b)) after

abbrev pub names_of : Option ProcedureHead → List Name
names_of None = []
names_of (Some head) = head.parameters

-- a variable of level 1 with a parameter's name, or a part of one
abbrev pub is_parameter : List Name → Held → Bool
is_parameter parameters h = (level_of (root_of h) == 1) && list_any (λ n. same_bytes n.letters (root_of h).declared.name.letters) parameters

-- ---- attributes of a variable

-- INITIAL gives values of the kind, and numbers that fit it: 2^p is above a number from 0 on, and -2^p not above a lower one
abbrev pub fits_digits : ℕ → ℤ → Bool
fits_digits p (pos n) = nat_lt n (2 ^ p)
fits_digits p (negsuc n) = nat_lt n (2 ^ p)

abbrev pub value_fits : List Attribute → InitialValue → Bool
value_fits all InitialSkip = true
value_fits all (InitialNumber z) = (has 0 all || has 1 all || not (has_kind all)) && fits_digits (precision_of (precisions_in all)) z
value_fits all (InitialText t) = has 2 all
value_fits all (InitialBit b) = has 4 all
value_fits all InitialNull = has 5 all || has 6 all
value_fits all InitialEmpty = has 7 all

abbrev pub initial_fits : List Attribute → Attribute → Bool
initial_fits all (Initial items) = not (list_any (λ i. not (value_fits all i.value)) items)
initial_fits all _ = true

-- the level is 0, or there is nothing of smaller level before it that it could belong to
abbrev pub level_is_bad : Held → Bool
level_is_bad h = (level_of h.variable == 0) || (nat_lt 1 (level_of h.variable) && stands_alone h)

abbrev pub attributes_are_bad : List Name → Held → List Declaration → Bool
attributes_are_bad parameters h after =
    level_is_bad h || attributes_clash (own_attributes h) || builtin_clash (own_attributes h)
    || (has 13 (own_attributes h) && (has_members h after || nat_lt 0 (own_dimensions h) || not (is_builtin h.variable.declared.name.word)))
    || (nat_lt 0 (length h.variable.declared.dimensions) && nat_lt 0 (length h.variable.item.dimensions))
    || (nat_lt 1 (level_of h.variable) && has_class (own_attributes h))
    || (is_parameter parameters h && ((stands_alone h && has_class (own_attributes h)) || has 12 (own_attributes h)))
    || (if has_members h after
    then has_kind (own_attributes h) || has 3 (own_attributes h) || has 12 (own_attributes h)
    else (not (has_kind (own_attributes h)) && not (has 13 (own_attributes h)) && not (is_number_name h.variable.declared.name.letters))
    || list_any (λ a. not (initial_fits (own_attributes h) a)) (own_attributes h))

-- an area is no array, no member, and neither BASED nor CONTROLLED
abbrev pub area_is_nested : Held → Bool
area_is_nested h = has 7 (own_attributes h) && (not (stands_alone h) || nat_lt 0 (own_dimensions h) || has 10 (own_attributes h) || has 11 (own_attributes h))

abbrev pub most_dimensions : ℕ
most_dimensions = 8

-- ---- extents

-- the first token
abbrev mutual
  pub place_of_expr : Expr → Place
  place_of_expr (Number v p) = p
  place_of_expr (Text t p) = p
  place_of_expr (Bit b p) = p
  place_of_expr (Parenthesized e p) = p
  place_of_expr (Prefix op e p) = p
  place_of_expr (Infix op l r) = place_of_expr l
  place_of_expr (Refers r) = place_of_reference r

  pub place_of_reference : Reference → Place
  place_of_reference (Plain q) = place_of_qualified q
  place_of_reference (Located l t) = place_of_reference l

  pub place_of_qualified : Qualified → Place
  place_of_qualified (Last n a) = n.place
  place_of_qualified (Of n a q) = n.place

-- a constant: a number after at most one sign
abbrev pub constant : Expr → Option ℤ
constant (Number v p) = Some (pos v)
constant (Prefix P.Plus (Number v q) p) = Some (pos v)
constant (Prefix P.Minus (Number v q) p) = Some (neg_ℤ (pos v))
constant _ = None

-- what an extent may be: a parameter's is constant or `*`; one that is evaluated at entry or ALLOCATE may be anything but `*`;
-- one of STATIC, BASED or RETURNS is constant
pub data Use : Type 0 where
  Passed Evaluated Kept Returned : Use

abbrev pub may_be_star : Use → Bool
may_be_star Passed = true
may_be_star _ = false

abbrev pub may_be_open : Use → Bool
may_be_open Evaluated = true
may_be_open _ = false

-- REFER is judged by its own rule where a generation keeps the extent, and is a bad extent of what is passed or returned
abbrev pub refer_is_bad_extent : Use → Bool
refer_is_bad_extent Passed = true
refer_is_bad_extent Returned = true
refer_is_bad_extent _ = false

abbrev pub use_of : List Name → Held → Use
use_of parameters h =
    if is_parameter parameters h then Passed
    else (if has 9 (class_attributes h) || has 11 (class_attributes h) then Kept else Evaluated)

abbrev pub is_below : ℤ → ℤ → Bool
is_below a b = is_lt (int_cmp a b)

abbrev pub is_outside : ℤ → ℤ → Option ℤ → Bool
is_outside low high None = false
is_outside low high (Some z) = is_below z low || is_below high z

-- an extent that must be constant isn't, or must have no REFER
abbrev pub extent_is_bad : Use → Extent → Bool
extent_is_bad way e =
    if is_some e.refer then refer_is_bad_extent way else (not (may_be_open way) && not (is_some (constant e.value)))

abbrev pub pair_is_bad : Option ℤ → Option ℤ → Bool
pair_is_bad (Some low) (Some high) = is_below high low
pair_is_bad _ _ = false

abbrev pub bound_faults : Use → Bound → List SourceFault
bound_faults way (StarBound p) = when (not (may_be_star way)) (fault p BadExtent)
bound_faults way (Upper u) = when (extent_is_bad way u || pair_is_bad (Some (pos 1)) (constant u.value)) (fault (place_of_expr u.value) BadExtent)
bound_faults way (Both l u) =
    when (extent_is_bad way l) (fault (place_of_expr l.value) BadExtent)
    ++ when (extent_is_bad way u || pair_is_bad (constant l.value) (constant u.value)) (fault (place_of_expr u.value) BadExtent)

abbrev pub longest_text : ℤ
longest_text = pos 1024

abbrev pub size_faults : Use → (Option ℤ → Bool) → Option Size → List SourceFault
size_faults way outside None = []
size_faults way outside (Some (StarSize p)) = when (not (may_be_star way)) (fault p BadExtent)
size_faults way outside (Some (Given e)) = when (extent_is_bad way e || outside (constant e.value)) (fault (place_of_expr e.value) BadExtent)

abbrev pub is_negative : Option ℤ → Bool
is_negative None = false
is_negative (Some z) = is_below z (pos 0)

abbrev pub attribute_extent_faults : Use → Attribute → List SourceFault
attribute_extent_faults way (Character size) = size_faults way (is_outside (pos 0) longest_text) size
attribute_extent_faults way (Area size) = size_faults way is_negative size
attribute_extent_faults way _ = []

abbrev pub extent_faults : List Name → Held → List SourceFault
extent_faults parameters h =
    flat_map (bound_faults (use_of parameters h)) (dimensions_of h.variable)
    ++ flat_map (attribute_extent_faults (use_of parameters h)) (own_attributes h)

-- ---- REFER

-- the variables without members among the earlier ones of a structure, h being the next after them
abbrev pub leaves_before : List Held → Held → List Held
leaves_before [] h = []
leaves_before (a ∷ []) h = if is_deeper a h then [] else a ∷ []
leaves_before (a ∷ b ∷ all) h = if is_deeper a b then leaves_before (b ∷ all) h else a ∷ leaves_before (b ∷ all) h

abbrev pub is_scalar_number : Held → Bool
is_scalar_number h = (own_dimensions h + inherited_dimensions h == 0) && (has 0 (own_attributes h) || has 1 (own_attributes h) || not (has_kind (own_attributes h)))

abbrev pub is_only_number : List Held → Bool
is_only_number (m ∷ []) = is_scalar_number m
is_only_number _ = false

-- the member is the one earlier leaf of its name, a scalar number
abbrev pub keeps_extent : List Held → Held → Refer → Bool
keeps_extent earlier h refer = is_only_number (filter (λ m. same_bytes m.variable.declared.name.letters refer.member.letters) (leaves_before earlier h))

-- h is the last leaf of a BASED structure, under no dimension
abbrev pub may_refer : Held → List Declaration → Bool
may_refer h after = has 11 (class_attributes h) && not (stands_alone h) && not (goes_on after) && (inherited_dimensions h == 0)

abbrev pub refer_faults : Bool → List Held → Held → Option Refer → List SourceFault
refer_faults allowed earlier h None = []
refer_faults allowed earlier h (Some r) = when (not (allowed && keeps_extent earlier h r)) (fault r.place BadRefer)

-- the upper bound of the only dimension may be kept in a member
abbrev pub bound_refer_faults : List Held → Held → List Declaration → Bound → List SourceFault
bound_refer_faults earlier h after (StarBound p) = []
bound_refer_faults earlier h after (Upper u) = refer_faults (may_refer h after && (own_dimensions h == 1)) earlier h u.refer
bound_refer_faults earlier h after (Both l u) =
    refer_faults false earlier h l.refer ++ refer_faults (may_refer h after && (own_dimensions h == 1)) earlier h u.refer

-- so may the length of a scalar text that isn't VARYING
abbrev pub size_refer_faults : Bool → List Held → Held → Option Size → List SourceFault
size_refer_faults allowed earlier h (Some (Given e)) = refer_faults allowed earlier h e.refer
size_refer_faults allowed earlier h _ = []

abbrev pub attribute_refer_faults : List Held → Held → List Declaration → Attribute → List SourceFault
attribute_refer_faults earlier h after (Character size) = size_refer_faults (may_refer h after && (own_dimensions h == 0) && not (has 3 (own_attributes h))) earlier h size
attribute_refer_faults earlier h after (Area size) = size_refer_faults false earlier h size
attribute_refer_faults earlier h after _ = []

abbrev pub all_refer_faults : List Name → List Held → Held → List Declaration → List SourceFault
all_refer_faults parameters earlier h after =
    if is_parameter parameters h then []
    else (flat_map (bound_refer_faults earlier h after) (dimensions_of h.variable) ++ flat_map (attribute_refer_faults earlier h after) (own_attributes h))

-- ---- the declarations of a block

abbrev pub variable_faults : List Name → List Held → Held → List Declaration → List SourceFault
variable_faults parameters earlier h after =
    when (attributes_are_bad parameters h after) (fault h.variable.declared.name.place BadAttributes)
    ++ when (area_is_nested h) (fault h.variable.declared.name.place NestedArea)
    ++ when (nat_lt most_dimensions (own_dimensions h + inherited_dimensions h)) (fault h.variable.declared.name.place TooLarge)
    ++ extent_faults parameters h
    ++ all_refer_faults parameters earlier h after

-- the variables of the structure that the next declaration may go on with
abbrev pub structure_after : List Held → What → List Held
structure_after earlier (Variable' h) = if stands_alone h then h ∷ [] else earlier ++ h ∷ []
structure_after earlier Label = []
structure_after earlier (ProcedureName head) = []

abbrev pub what_faults : List Name → List Held → What → List Declaration → List SourceFault
what_faults parameters earlier (Variable' h) after = variable_faults parameters earlier h after
what_faults parameters earlier Label after = []
what_faults parameters earlier (ProcedureName head) after = []

abbrev pub declarations_faults : List Name → List Held → List Declaration → List SourceFault
declarations_faults parameters earlier [] = []
declarations_faults parameters earlier (d ∷ ds) = what_faults parameters earlier d.what ds ++ declarations_faults parameters (structure_after earlier d.what) ds

-- ---- names declared twice

-- the declarations that a block's names are: those of level 1, labels and procedures
abbrev pub is_own : What → Bool
is_own (Variable' h) = level_of h.variable == 1
is_own Label = true
is_own (ProcedureName head) = true

abbrev pub same_place : Place → Place → Bool
same_place a b = (a.line == b.line) && (a.column == b.column)

abbrev pub same_places : List Place → List Place → Bool
same_places [] [] = true
same_places [] (q ∷ qs) = false
same_places (p ∷ ps) [] = false
same_places (p ∷ ps) (q ∷ qs) = same_place p q && same_places ps qs

-- a stands before b in the same structure, directly under the same one
abbrev pub are_siblings : What → What → Bool
are_siblings (Variable' a) (Variable' b) = not (stands_alone a) && same_places (map (λ v. v.declared.name.place) a.above) (map (λ v. v.declared.name.place) b.above)
are_siblings _ _ = false

-- two of these can't have one name
abbrev pub are_rivals : What → What → Bool
are_rivals a b = (is_own a && is_own b) || are_siblings a b

abbrev pub twice_faults : List Declaration → List Declaration → List SourceFault
twice_faults before [] = []
twice_faults before (d ∷ ds) =
    when (list_any (λ b. same_bytes b.name.letters d.name.letters && are_rivals b.what d.what) before) (fault d.name.place DeclaredTwice)
    ++ twice_faults (d ∷ before) ds

abbrev pub names_twice : List Name → List Name → List SourceFault
names_twice before [] = []
names_twice before (n ∷ ns) = when (list_any (λ b. same_bytes b.letters n.letters) before) (fault n.place DeclaredTwice) ++ names_twice (n ∷ before) ns

-- ---- procedures

abbrev pub declares : List Declaration → Name → Bool
declares ds n = list_any (λ d. same_bytes d.name.letters n.letters && held_is (λ h. level_of h.variable == 1) d.what) ds

abbrev pub parameter_faults : List Declaration → List Name → List SourceFault
parameter_faults ds parameters = flat_map (λ n. when (not (declares ds n)) (fault n.place Undeclared)) parameters ++ names_twice [] parameters

abbrev pub is_main : ProcedureOption → Bool
is_main Main = true
is_main _ = false

abbrev pub has_main : ProcedureHead → Bool
has_main head = list_any is_main head.options

-- a place to say that a procedure is wrong: its first label
abbrev pub at_first : List Name → (Place → List SourceFault) → List SourceFault
at_first [] f = []
at_first (n ∷ ns) f = f n.place

-- RETURNS has kind attributes alone, one kind and no AREA
abbrev pub returns_are_bad : List Attribute → Bool
returns_are_bad all =
    attributes_clash all || not (has_kind all) || has_class all || list_any (λ a. has (row_of a) (Area None ∷ Initial [] ∷ Aligned ∷ Unaligned ∷ Internal ∷ [])) all

abbrev pub option_row : ProcedureOption → ℕ
option_row Main = 0
option_row Recursive = 1
option_row (Returns all) = 2

abbrev pub options_repeat : List ProcedureOption → Bool
options_repeat [] = false
options_repeat (o ∷ os) = list_any (λ p. option_row p == option_row o) os || options_repeat os

abbrev pub option_faults : List Name → ProcedureOption → List SourceFault
option_faults labels (Returns all) = at_first labels (λ p. when (returns_are_bad all) (fault p BadAttributes)) ++ flat_map (attribute_extent_faults Returned) all
option_faults labels _ = []

-- MAIN stands on an outer procedure alone, and each option once
abbrev pub head_faults : Bool → ProcedureHead → List SourceFault
head_faults inner head =
    at_first head.labels (λ p. when ((inner && has_main head) || options_repeat head.options) (fault p BadAttributes))
    ++ flat_map (option_faults head.labels) head.options

abbrev pub block_head_faults : Block → Option ProcedureHead → List SourceFault
block_head_faults block None = []
block_head_faults block (Some head) = head_faults (nat_lt 2 (length block.around)) head ++ parameter_faults block.declarations head.parameters

abbrev pub block_faults : Block → List SourceFault
block_faults block =
    block_head_faults block block.head
    ++ twice_faults [] block.declarations
    ++ declarations_faults (names_of block.head) [] block.declarations

-- ---- the main procedure

abbrev pub outer_procedures : Items → List ProcedureHead
outer_procedures NoItem = []
outer_procedures (ItemThen (Procedure head body) is) = head ∷ outer_procedures is
outer_procedures (ItemThen _ is) = outer_procedures is

-- the first is main without parameters, and there is no other
abbrev pub main_faults : List ProcedureHead → List SourceFault
main_faults [] = record { line = 1; column = 1; kind = NoMain } ∷ []
main_faults (head ∷ more) =
    at_first head.labels (λ p. when (not (has_main head) || nat_lt 0 (length head.parameters)) (fault p NoMain))
    ++ flat_map (λ h. at_first h.labels (λ p. fault p NoMain ∷ [])) more

-- ---- STATIC data

abbrev pub up_to : ℕ → ℕ → ℕ
up_to unit n = (n + (unit - 1)) / unit * unit

abbrev pub positive : Option ℤ → ℕ
positive (Some (pos n)) = n
positive _ = 0

abbrev pub size_value : ℕ → Option Size → ℕ
size_value default (Some (Given e)) = positive (constant e.value)
size_value default (Some (StarSize p)) = 0
size_value default None = default

-- the bytes of a kind
abbrev pub attribute_bytes : List Attribute → Attribute → ℕ
attribute_bytes all (Character size) = size_value 1 size + (if has 3 all then 2 else 0)
attribute_bytes all BitOne = 1
attribute_bytes all Pointer = 16
attribute_bytes all (Offset area) = 4
attribute_bytes all (Area size) = size_value 1000 size / 16 * 16
attribute_bytes all _ = 0

abbrev pub leaf_bytes : List Attribute → ℕ
leaf_bytes all = if has 0 all || has 1 all || not (has_kind all) then (if nat_le (precision_of (precisions_in all)) 15 then 2 else 4) else sum_by (attribute_bytes all) all

abbrev pub span_of : Option ℤ → Option ℤ → ℕ
span_of (Some low) (Some high) = if is_below high low then 0 else positive (Some ((high -ℤ low) +ℤ pos 1))
span_of _ _ = 0

abbrev pub bound_span : Bound → ℕ
bound_span (StarBound p) = 0
bound_span (Upper u) = span_of (Some (pos 1)) (constant u.value)
bound_span (Both l u) = span_of (constant l.value) (constant u.value)

abbrev pub spans : List Bound → ℕ
spans [] = 1
spans (b ∷ bs) = bound_span b * spans bs

abbrev pub elements_above : List Variable → ℕ
elements_above [] = 1
elements_above (v ∷ vs) = spans (dimensions_of v) * elements_above vs

-- the data of a leaf: its bytes in whole words, for each element
abbrev pub own_data : Held → List Declaration → ℕ
own_data h after = if has_members h after then 0 else up_to 4 (leaf_bytes (own_attributes h)) * (elements_above h.above * spans (dimensions_of h.variable))

abbrev pub of_member : What → List Declaration → ℕ
of_member (Variable' h) after = if stands_alone h then 0 else own_data h after
of_member Label after = 0
of_member (ProcedureName head) after = 0

abbrev pub data_of_members : List Declaration → ℕ
data_of_members [] = 0
data_of_members (d ∷ ds) = of_member d.what ds + (if held_is (λ h. not (stands_alone h)) d.what then data_of_members ds else 0)

abbrev pub footprint_of : ℕ → ℕ
footprint_of data_size = 16 + up_to 16 data_size

-- the STATIC variables of level 1, each with its name's place and what it takes
abbrev pub static_at : Declaration → List Declaration → What → List (Place × ℕ)
static_at d after (Variable' h) = if stands_alone h && has 9 (own_attributes h) then (d.name.place, footprint_of (own_data h after + data_of_members after)) ∷ [] else []
static_at d after Label = []
static_at d after (ProcedureName head) = []

abbrev pub statics_in : List Declaration → List (Place × ℕ)
statics_in [] = []
statics_in (d ∷ ds) = static_at d ds d.what ++ statics_in ds

abbrev pub most_static : ℕ
most_static = 1048576

-- what those take that don't stand behind a place
abbrev pub taken_up_to : Place → List (Place × ℕ) → ℕ
taken_up_to p statics = sum_by (λ s. if is_before (fault p TooLarge) (fault s.0 TooLarge) then 0 else s.1) statics

abbrev pub static_faults : List (Place × ℕ) → List SourceFault
static_faults statics = flat_map (λ s. when (nat_lt most_static (taken_up_to s.0 statics)) (fault s.0 TooLarge)) statics

-- ---- the whole program

-- all that the declarations of a program break
abbrev pub declaring_faults : Tree → List SourceFault
declaring_faults tree =
    main_faults (outer_procedures tree.procedures)
    ++ flat_map block_faults (blocks_of tree)
    ++ static_faults (flat_map (λ b. statics_in b.declarations) (blocks_of tree))
