-- References, expressions, arguments and statements that aren't sound, one for each main rule.
use Rattle.std.proofs.Common.{◌≡◌, ℕ, zero, suc, List, [], ◌∷◌, map, length, Some, None, true, refl, sym, ap}
use Rattle.std.proofs.Common.{◌∙◌}
use Rattle.std.proofs.Common.{subst, inl, inr, arith}
use Rattle.std.specs.Prelude.{slice_get, pos, ◌^◌, ◌⊎◌}
use Rattle.pli_typing.specs.TypedTree as Y
use Rattle.pli_typing.specs.Assigning.{is_read, all_pass}
use Rattle.pli_typing.specs.Calls.{leaves_pass}
use Rattle.well_formed_trees.specs.Members.{IsMember, all_dimensions, leaves_of_part, whole}
use Rattle.well_formed_trees.specs.Surroundings.{Where, NoReturn, IsAround, IsTarget, IsDeclared, IsArea, IsStaticArea}
use Rattle.well_formed_trees.specs.Surroundings.{IsOfClass, in_list}
use Rattle.well_formed_trees.specs.References.{Designates, IsScalar, IsArray, IsDimension, IsWhole, HasName, leaf_left}
use Rattle.well_formed_trees.specs.Expressions.{Fits, Gives, GivesText, GivesOffset, GivesNumber}
use Rattle.well_formed_trees.specs.Expressions.{IsScalarParameter, TakesOffset, Passes, ArePassed, IsNamed, SoundNumber}
use Rattle.well_formed_trees.specs.Expressions.{SoundText}
use Rattle.well_formed_trees.specs.Expressions.{SoundPointer, SoundComputational}
use Rattle.well_formed_trees.specs.Statements.{IsAssigned, SoundCounter, PassesTest, SoundTarget, SoundAllocation}
use Rattle.well_formed_trees.specs.Statements.{SoundFreeing, IsUnitHead}
use Rattle.well_formed_trees.specs.Statements.{IsListedUnit}
use Rattle.well_formed_trees.proofs.Places.{same_some}
use Rattle.well_formed_trees.proofs.WellFormedRows.{table, main_entry, in_main, inner}
use Rattle.well_formed_trees.proofs.WellFormedRows.{number}

-- ---- blocks, labels and variables around

other_level : ¬ IsAround 1 1 (main_entry ∷ [])
other_level (inl h) = absurd (cc h.1)
other_level (inr h) = h

other_block : ¬ IsAround 2 0 (main_entry ∷ [])
other_block (inl h) = absurd (cc h.0)
other_block (inr h) = h

-- DO; K: ; GOTO K; END;
group_reached : IsTarget 0 (75 ∷ []) (in_list in_main ((75 ∷ []) ∷ [])).around
group_reached = inl (refl, refl)

target_elsewhere : ¬ IsTarget 1 (76 ∷ []) (main_entry ∷ [])
target_elsewhere (inl h) = absurd (cc h.0)
target_elsewhere (inr h) = h

abbrev variable : Y.StorageClass → (index : ℕ) → Y.Variable
variable class index = record { class = class; block = 1; level = 0; index = index }

of_other_class : (d : Y.DeclaredVariable) → ¬ IsDeclared in_main (variable Y.StaticClass 0) d
of_other_class d h = absurd (cc (h.found, h.same_class))

undeclared : (d : Y.DeclaredVariable) → ¬ IsDeclared in_main (variable Y.AutomaticClass 1) d
undeclared d h = absurd (cc h.found)

abbrev first_type : List Y.Leaf → Y.LeafType
first_type [] = Y.BitLeaf
first_type (l ∷ ls) = l.type

number_is_no_area : ¬ IsArea in_main (variable Y.AutomaticClass 0)
number_is_no_area h =
    let d = same_some _ h.d h.declared.found in
    let type : Y.FixedLeaf 31 ≡ Y.AreaLeaf h.size = ap (λ (d : Y.DeclaredVariable). first_type d.leaves) d
    ∙ ap first_type h.leaf in
    absurd (cc type)

automatic_is_no_static : ¬ IsStaticArea in_main (variable Y.AutomaticClass 0)
automatic_is_no_static h = absurd (cc h.class_is)

automatic_is_not_based : ¬ IsOfClass in_main Y.BasedClass (variable Y.AutomaticClass 0)
automatic_is_not_based h = absurd (cc h.class_is)

-- ---- references

-- DCL A(2) FIXED, 1 S, 2 X BIT(1), 2 Y BIT(1);
abbrev leaf : Y.LeafType → List Y.Bounds → Y.Leaf
leaf type bounds = record { type = type; bounds = bounds; initial = [] }

abbrev two : Y.Bounds
two = record { lower = Y.ConstantExtent (pos 1); upper = Y.ConstantExtent (pos 2) }

abbrev array_declared : Y.DeclaredVariable
array_declared = record {
  class = Y.AutomaticClass;
  members = record { depth = 0; dimensions = 1 } ∷ [];
  leaves = leaf (Y.FixedLeaf 15) (two ∷ []) ∷ [];
  refer = None;
  evaluations = [];
}

abbrev structure_declared : Y.DeclaredVariable
structure_declared = record {
  class = Y.AutomaticClass;
  members =
      record { depth = 0; dimensions = 0 } ∷ record { depth = 1; dimensions = 0 }
      ∷ record { depth = 1; dimensions = 0 } ∷ [];
  leaves = leaf Y.BitLeaf [] ∷ leaf Y.BitLeaf [] ∷ [];
  refer = None;
  evaluations = [];
}

abbrev here : Where
here = record {
  program = record { variables = [] ∷ (array_declared ∷ structure_declared ∷ []) ∷ []; procedures = [] };
  table = [];
  around = record { number = 1; level = 0; outermost = []; inner = [] } ∷ [];
  returning = NoReturn;
}

abbrev first : Y.Part
first = record { first = 0; count = 1 }

abbrev array : Y.Numbers → Y.Reference
array subscripts = Y.Referring (variable Y.AutomaticClass 0) Y.NotLocated first subscripts

-- it has one dimension
one_dimension : (d : Y.DeclaredVariable) (n : ℕ) → Some array_declared ≡ Some d → IsMember d first n → n ≡ 1
one_dimension d n e m =
    by m.place (subst (λ (d : Y.DeclaredVariable). slice_get (all_dimensions d.members) m.place ≡ Some n)
    (sym (same_some array_declared d e)) m.dimensions_are) where
      by : (place : ℕ) → slice_get (1 ∷ []) place ≡ Some n → n ≡ 1
      by zero e = sym (same_some 1 n e)
      by (suc place) e = absurd (cc e)

subscripted_twice : ¬ Designates here (array (Y.NumberThen (Y.NumberConstant 1) (Y.NumberThen (Y.NumberConstant 1)
    Y.NoNumber)))
subscripted_twice h =
    let one = one_dimension h.d h.dimensions h.declared.found h.member in
    by h.dimensions one h.subscripted where
      by : (n : ℕ) → n ≡ 1
          → (Y.NumberThen (Y.NumberConstant 1) (Y.NumberThen (Y.NumberConstant 1) Y.NoNumber) ≡ Y.NoNumber) ⊎ (2 ≡ n)
          → ⊥
      by n e (inl f) = cc f
      by n e (inr f) = cc (e, f)

array_leaf : (d : Y.DeclaredVariable) (l : Y.Leaf) → Some array_declared ≡ Some d → slice_get d.leaves 0 ≡ Some l
    → leaf (Y.FixedLeaf 15) (two ∷ []) ≡ l
array_leaf d l e f =
    same_some (leaf (Y.FixedLeaf 15) (two ∷ [])) l
    (ap (λ (d : Y.DeclaredVariable). slice_get d.leaves 0) (same_some array_declared d e) ∙ f)

array_is_no_scalar : ¬ IsScalar here (Y.FixedLeaf 15) (array Y.NoNumber)
array_is_no_scalar h =
    let d = h.designates in
    let l = array_leaf d.d h.leaf d.declared.found h.one.leaf_is in
    absurd (cc (ap (λ (l : Y.Leaf). length l.bounds) l ∙ sym h.many))

element_is_no_array : ¬ IsArray here (Y.FixedLeaf 15) (array (Y.NumberThen (Y.NumberConstant 1) Y.NoNumber))
element_is_no_array h = absurd (cc h.none)

scalar_is_no_array : ¬ IsArray in_main (Y.FixedLeaf 31) number
scalar_is_no_array h =
    let d = h.designates in
    let leaf : slice_get d.d.leaves 0 ≡ Some (leaf (Y.FixedLeaf 31) []) =
    ap (λ (d : Y.DeclaredVariable). slice_get d.leaves 0) (sym (same_some _ d.d d.declared.found)) in
    h.some (ap (λ (l : Y.Leaf). l.bounds) (same_some h.leaf _ (sym h.one.leaf_is ∙ leaf)))

no_dimension : (r : Y.Reference) → ¬ IsDimension here r 0
no_dimension r h = let low = h.low in absurd (omega (arith, low))

second_dimension : ¬ IsDimension here (array Y.NoNumber) 2
second_dimension h =
    let d = h.designates in
    let one = one_dimension d.d d.dimensions d.declared.found d.member in
    let high = h.high in
    absurd (omega (arith, one, high))

element_is_not_whole : ¬ IsWhole here (array (Y.NumberThen (Y.NumberConstant 1) Y.NoNumber))
element_is_not_whole h = absurd (cc h.none)

-- X of S
member_is_not_whole : ¬ IsWhole here (Y.Referring (variable Y.AutomaticClass 1) Y.NotLocated first Y.NoNumber)
member_is_not_whole h =
    let d = same_some structure_declared h.designates.d h.designates.declared.found in
    let all : first ≡ whole structure_declared = subst (λ d. first ≡ whole d) (sym d) h.all in
    let count : 1 ≡ 2 = ap (λ (p : Y.Part). p.count) all in
    absurd (omega (arith, count))

parameter_has_no_name : ¬ HasName Y.ParameterClass
parameter_has_no_name h = h

controlled_has_no_name : ¬ HasName Y.ControlledClass
controlled_has_no_name h = h

-- ---- values

other_precision : ¬ Fits (Y.FixedLeaf 15) (Y.StoredNumber 31 (Y.NumberConstant 1))
other_precision h = absurd (cc h)

nothing_given : ¬ GivesNumber None
nothing_given h = h

bit_given : ¬ GivesText (Some Y.BitLeaf)
bit_given h = h

pointer_given : ¬ GivesOffset (Some Y.PointerLeaf)
pointer_given h = h

great_constant : ¬ SoundNumber in_main (Y.NumberConstant (2 ^ 31))
great_constant h = absurd (omega (arith, h))

-- MAX(1), DIVIDE(1, 1, 32), and a number of no digits as a text
one_of_one : ¬ SoundNumber in_main (Y.Extreme Y.Greatest (Y.NumberConstant 1) Y.NoNumber)
one_of_one h = h.1.0

divided_wide : ¬ SoundNumber in_main (Y.Divided 32 (Y.NumberConstant 1) (Y.NumberConstant 1))
divided_wide h = absurd (omega (arith, h.0.1))

text_of_no_digits : ¬ SoundText in_main (Y.TextOfNumber 0 (Y.NumberConstant 1))
text_of_no_digits h = absurd (omega (arith, h.0.0))

-- POINTER(NULL, N) and ALLOCATION(N), where N is a number
pointer_into_number : ¬ SoundPointer in_main (Y.PointerInto Y.NullOffset (variable Y.AutomaticClass 0))
pointer_into_number h = number_is_no_area h.0

allocations_of_automatic : ¬ SoundNumber in_main (Y.AllocationsOf (variable Y.AutomaticClass 0))
allocations_of_automatic h = absurd (cc h.class_is)

address_of_parameter : ¬ IsNamed here (Y.Referring (variable Y.ParameterClass 0) Y.NotLocated first Y.NoNumber)
address_of_parameter h = h.named

pointer_computed : ¬ SoundComputational in_main (Y.PointerValue Y.NullPointer)
pointer_computed h = h

-- ---- arguments

argument_missing : ¬ ArePassed in_main inner (0 ∷ []) Y.NoArgument
argument_missing h = h

argument_left : ¬ ArePassed in_main inner [] (Y.ArgumentThen (Y.ByReference number) Y.NoArgument)
argument_left h = h

array_taken : ¬ IsScalarParameter array_declared (Y.FixedLeaf 15)
array_taken h = absurd (cc (h.one, h.none))

structure_taken : ¬ IsScalarParameter structure_declared Y.BitLeaf
structure_taken h = absurd (cc h.one)

-- an OFFSET of an area that the holder declares
abbrev offset_declared : Y.DeclaredVariable
offset_declared = record {
  class = Y.ParameterClass;
  members = record { depth = 0; dimensions = 0 } ∷ [];
  leaves = leaf (Y.OffsetLeaf (Some (variable Y.AutomaticClass 0))) [] ∷ [];
  refer = None;
  evaluations = [];
}

area_of_holder : ¬ TakesOffset inner offset_declared Y.AutomaticClass
area_of_holder h = absurd (cc (h.scalar.one, h.scalar.type_is, h.own))

-- N, a number, for a parameter that is a structure
number_for_structure : ¬ Passes in_main structure_declared number
number_for_structure h =
    let d = same_some _ h.given.designates.d h.given.designates.declared.found in
    let taken = subst (λ (d : Y.DeclaredVariable). leaves_pass structure_declared.leaves d.leaves ≡ true) (sym d)
    h.taken in
    absurd (cc taken)

-- ---- statements

target_of_number : ¬ SoundTarget in_main (Y.SetOffset number (variable Y.AutomaticClass 0))
target_of_number h = number_is_no_area h.1.0

automatic_allocated : ¬ SoundAllocation in_main (Y.AllocateControlled (variable Y.AutomaticClass 0))
automatic_allocated h = absurd (cc h.class_is)

automatic_freed : ¬ SoundFreeing in_main (Y.FreeBased (variable Y.AutomaticClass 0) Y.NullPointer None)
automatic_freed h = absurd (cc h.0.class_is)

abbrev head : Y.BlockKind → (number : ℕ) → Y.BlockHead
head kind number = record { kind = kind; number = number; level = 1; line = 4 }

unit_is_procedure : ¬ IsUnitHead in_main (head Y.ProcedureBlock 2) Y.ProcedureBlock
unit_is_procedure h = h

unit_of_other_block : ¬ IsUnitHead in_main (head Y.SimpleUnit 2) Y.SimpleUnit
unit_of_other_block h = absurd (cc h)

unit_not_listed : ¬ IsListedUnit table (head Y.UnitBlock 2) (main_entry ∷ []) Y.UnitBlock
unit_not_listed h = absurd (cc h)

-- N holds a number of 31 digits
number_type : (type : Y.LeafType) → IsScalar in_main type number → type ≡ Y.FixedLeaf 31
number_type type s =
    let d = s.designates in
    let leaf : slice_get d.d.leaves 0 ≡ Some (leaf (Y.FixedLeaf 31) []) =
    ap (λ (d : Y.DeclaredVariable). slice_get d.leaves 0) (sym (same_some _ d.d d.declared.found)) in
    sym s.type_is ∙ ap (λ (l : Y.Leaf). l.type) (same_some s.leaf _ (sym s.one.leaf_is ∙ leaf))

-- N = ''; DO N = .. with a text; GET EDIT (X) (F(1)); and a value of P, which returns nothing
text_assigned : ¬ IsAssigned in_main number (Y.StoredText (Y.TextConstant []))
text_assigned h = subst (λ t. Fits t (Y.StoredText (Y.TextConstant []))) (number_type h.type h.scalar) h.fits

text_counter : ¬ SoundCounter in_main (Y.TextCounter number)
text_counter h = by h.0.size h.0.scalar where
  by : (size : Y.Extent)
      → IsScalar in_main (Y.CharacterLeaf size) number ⊎ IsScalar in_main (Y.VaryingLeaf size) number → ⊥
  by size (inl s) = absurd (cc (number_type (Y.CharacterLeaf size) s))
  by size (inr s) = absurd (cc (number_type (Y.VaryingLeaf size) s))

-- X of S is BIT
read_as_number : ¬ PassesTest here (is_read true) (Y.Referring (variable Y.AutomaticClass 1) Y.NotLocated first
    Y.NoNumber)
read_as_number h =
    let d = same_some structure_declared h.0.d h.0.declared.found in
    let read = subst (λ (d : Y.DeclaredVariable). all_pass (is_read true) (map (leaf_left 0) (leaves_of_part d first))
    ≡ true) (sym d) h.1 in
    absurd (cc read)

value_of_procedure : ¬ Gives GivesNumber in_main (Y.Calling 3 0 Y.NoArgument)
value_of_procedure h = subst (λ (p : Y.Procedure). GivesNumber p.result) (sym (same_some inner h.0 h.1)) h.2
