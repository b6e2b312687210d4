-- A worked declaration with REFER and an evaluated extent; and members, extents and variables that aren't sound.
use Rattle.std.proofs.Common.{◌≡◌, ℕ, List, [], ◌∷◌, Some, None, refl, inr, arith, drop}
use Rattle.std.specs.Prelude.{slice_get, pos, negsuc}
use Rattle.pli_language.specs.Tree as T
use Rattle.pli_language.specs.Declarations.{held, chain_after, declared_in, declared_in_item, declared_in_stmt}
use Rattle.pli_language.specs.Declarations.{blocks_in, blocks_in_item, blocks_in_stmt, blocks_of}
use Rattle.pli_language.specs.Declaring.{declaring_faults}
use Rattle.pli_language.specs.Means.{means_from}
use Rattle.pli_typing.specs.TypedTree as Y
use Rattle.pli_typing.specs.References.{expression, reference, qualified, arguments, expressions}
use Rattle.pli_typing.specs.Resolving.{statement, statements, resolved, typing_faults, typed_tree}
use Rattle.pli_typing.proofs.RowTrees.{at, name, declared, dimensioned, unsubscripted, kept_extent, plain, program}
use Rattle.well_formed_trees.specs.Ranges.{IsInteger}
use Rattle.well_formed_trees.specs.Members.{leaves_among, all_dimensions, part_from, IsMember}
use Rattle.well_formed_trees.specs.Surroundings.{Where, NoReturn, variables_of_block}
use Rattle.well_formed_trees.specs.EarlyNumbers.{Early, EarlyPointer}
use Rattle.well_formed_trees.specs.Declarations.{IsAmount, AreStars, AreBounds, IsTextSize}
use Rattle.well_formed_trees.specs.Declarations.{IsAreaSize, IsLeafType, IsInitialItem, IsLeaf}
use Rattle.well_formed_trees.specs.Declarations.{IsOnlyArea, leaf_dimensions, HaveBounds, AreMembers, IsRefer}
use Rattle.well_formed_trees.specs.Declarations.{KeepsNone, KeepsNoneIf, IsCheck}

-- ---- an extent that a member keeps

-- T: PROC OPTIONS(MAIN); DCL P POINTER, N FIXED, 1 S BASED(P), 2 K FIXED, 2 A(N REFER(K)) FIXED; END;
abbrev keeping : T.Tree
keeping =
    program
    (T.Declare (
    declared None (unsubscripted (name (80 ∷ []) (at 2 5)) ∷ []) [] (T.Pointer ∷ [])
    ∷ declared None (unsubscripted (name (78 ∷ []) (at 2 16)) ∷ []) [] (T.Fixed None ∷ [])
    ∷ declared (Some 1) (unsubscripted (name (83 ∷ []) (at 2 27)) ∷ []) []
    (T.Based (Some (name (80 ∷ []) (at 2 35))) ∷ [])
    ∷ declared (Some 2) (unsubscripted (name (75 ∷ []) (at 2 41)) ∷ []) [] (T.Fixed None ∷ [])
    ∷ declared (Some 2) (dimensioned (name (65 ∷ []) (at 2 52))
    (T.Upper (kept_extent (T.Refers (plain (name (78 ∷ []) (at 2 54)))) (name (75 ∷ []) (at 2 62)) (at 2 56)) ∷ [])
    ∷ []) [] (T.Fixed None ∷ [])
    ∷ []
    ) (at 2 1) ∷ []) []

declared_well : declaring_faults keeping ≡ []
unfolding blocks_of declared_in declared_in_item declared_in_stmt blocks_in blocks_in_item blocks_in_stmt held
    chain_after
declared_well = refl

typed_well : typing_faults keeping ≡ []
unfolding resolved statement statements expression reference qualified arguments expressions means_from blocks_of
    declared_in declared_in_item declared_in_stmt blocks_in blocks_in_item blocks_in_stmt held chain_after
typed_well = refl

abbrev fixed : List Y.Bounds → Y.Leaf
fixed bounds = record { type = Y.FixedLeaf 15; bounds = bounds; initial = [] }

abbrev to : Y.Extent → Y.Bounds
to upper = record { lower = Y.ConstantExtent (pos 1); upper = upper }

abbrev number : Y.Number
number =
    Y.NumberIn (Y.Referring (record { class = Y.AutomaticClass; block = 1; level = 0; index = 1 }) Y.NotLocated
    (record { first = 0; count = 1 }) Y.NoNumber)

abbrev based : Y.StorageClass → List Y.Leaf → Y.DeclaredVariable
based class leaves = record {
  class = class;
  members =
      record { depth = 0; dimensions = 0 } ∷ record { depth = 1; dimensions = 0 }
      ∷ record { depth = 1; dimensions = 1 } ∷ [];
  leaves = leaves;
  refer = Some (record { member = 0; amount = Y.EvaluatedExtent 0 });
  evaluations = record { value = number; check = Y.BoundsCheck (to (Y.EvaluatedExtent 0)) } ∷ [];
}

abbrev structure : Y.DeclaredVariable
structure = based Y.BasedClass (fixed [] ∷ fixed (to Y.ReferExtent ∷ []) ∷ [])

typed : slice_get (variables_of_block (typed_tree keeping) 1) 2 ≡ Some structure
unfolding resolved statement statements expression reference qualified arguments expressions means_from blocks_of
    declared_in declared_in_item declared_in_stmt blocks_in blocks_in_item blocks_in_stmt held chain_after
typed = refl

refers : IsRefer structure (record { member = 0; amount = Y.EvaluatedExtent 0 })
refers = record {
  based = refl;
  before = omega arith;
  member = fixed [];
  member_is = refl;
  precision = 15;
  number = refl;
  scalar = refl;
  last = fixed (to Y.ReferExtent ∷ []);
  last_is = (1, (refl, refl));
  keeps = inr (to Y.ReferExtent, (refl, refl));
  amount = omega arith;
}

-- the last leaf itself keeps it; so does an array, and a text; the variable is AUTOMATIC; an amount isn't evaluated
abbrev by_first : Y.ReferMember
by_first = record { member = 0; amount = Y.EvaluatedExtent 0 }

kept_by_last : ¬ IsRefer structure (record { member = 1; amount = Y.EvaluatedExtent 0 })
kept_by_last h = let before = h.before in absurd (omega (arith, before))

kept_by_array : ¬ IsRefer (based Y.BasedClass (fixed (to (Y.ConstantExtent (pos 2)) ∷ []) ∷ fixed (to Y.ReferExtent
    ∷ []) ∷ [])) by_first
kept_by_array h = absurd (cc (h.member_is, h.scalar))

abbrev two_letters : Y.Leaf
two_letters = record { type = Y.CharacterLeaf (Y.ConstantExtent (pos 2)); bounds = []; initial = [] }

kept_by_text : ¬ IsRefer (based Y.BasedClass (two_letters ∷ fixed (to Y.ReferExtent ∷ []) ∷ [])) by_first
kept_by_text h = absurd (cc (h.member_is, h.number))

kept_of_automatic : ¬ IsRefer (based Y.AutomaticClass (fixed [] ∷ fixed (to Y.ReferExtent ∷ []) ∷ [])) by_first
kept_of_automatic h = absurd (cc h.based)

kept_elsewhere : ¬ IsRefer structure (record { member = 0; amount = Y.EvaluatedExtent 1 })
kept_elsewhere h = let amount = h.amount in absurd (omega (arith, amount))

-- without REFER a bound is kept, and a length
bound_kept : ¬ KeepsNone (fixed (to Y.ReferExtent ∷ []))
bound_kept h = h.1.0 refl

length_kept : ¬ KeepsNone (record { type = Y.CharacterLeaf Y.ReferExtent; bounds = []; initial = [] })
length_kept h = h.0 tt

kept_by_nothing : ¬ KeepsNoneIf structure None
kept_by_nothing h = h.1.0.1.0 refl

-- ---- what is made before

-- N is the second variable of its block: it can be named from the third on
made_before : Early 1 2 number
made_before = ((λ c b. omega arith), (tt, tt))

made_there : ¬ Early 1 1 number
made_there h = let before = h.0 refl refl in absurd (omega (arith, before))

made_around : Early 2 0 number
made_around = ((λ c b. absurd (omega (arith, b))), (tt, tt))

-- a POINTER from an OFFSET uses the area
abbrev first_variable : Y.Variable
first_variable = record { class = Y.AutomaticClass; block = 1; level = 0; index = 0 }

area_not_made : ¬ EarlyPointer 1 0 (Y.PointerInto Y.NullOffset first_variable)
area_not_made h = let before = h.1 refl refl in absurd (omega (arith, before))

-- ---- members

abbrev member : (depth dimensions : ℕ) → Y.Member
member depth dimensions = record { depth = depth; dimensions = dimensions }

-- DCL 1 S(3), 2 A, 3 X(4), 3 Y, 2 B(5, 6);
abbrev members : List Y.Member
members = member 0 1 ∷ member 1 0 ∷ member 2 1 ∷ member 2 0 ∷ member 1 2 ∷ []

members_leaves : leaves_among members ≡ 3
members_leaves = refl

members_dimensions : all_dimensions members ≡ 1 ∷ 1 ∷ 2 ∷ 1 ∷ 3 ∷ []
members_dimensions = refl

leaves_dimensions : leaf_dimensions members (all_dimensions members) ≡ 2 ∷ 1 ∷ 3 ∷ []
leaves_dimensions = refl

part_a : part_from members (drop 1 members) ≡ record { first = 0; count = 2 }
part_a = refl

part_y : part_from members (drop 3 members) ≡ record { first = 1; count = 1 }
part_y = refl

part_b : part_from members (drop 4 members) ≡ record { first = 2; count = 1 }
part_b = refl

no_leaves : (d : Y.DeclaredVariable) (n : ℕ) → ¬ IsMember d (record { first = 0; count = 0 }) n
no_leaves d n h = let some = h.some in absurd (omega (arith, some))

behind_leaves : (n : ℕ) → ¬ IsMember structure (record { first = 1; count = 2 }) n
behind_leaves n h = let within = h.within in absurd (omega (arith, within))

first_deeper : ¬ AreMembers (member 1 0 ∷ [])
first_deeper h = absurd (cc h.0)

second_outermost : ¬ AreMembers (member 0 0 ∷ member 0 0 ∷ [])
second_outermost h = let deeper = h.1.0.0 in absurd (omega (arith, deeper))

bound_missing : ¬ HaveBounds (fixed [] ∷ []) (1 ∷ [])
bound_missing h = absurd (cc h.0)

-- ---- extents

abbrev anywhere : Where
anywhere = record {
  program = record { variables = []; procedures = [] };
  table = [];
  around = [];
  returning = NoReturn;
}

integer_too_great : ¬ IsInteger (pos 2147483648)
integer_too_great h = absurd (omega (arith, h))

integer_too_small : ¬ IsInteger (negsuc 2147483648)
integer_too_small h = absurd (omega (arith, h))

star_amount : ¬ IsAmount 1 Y.StarExtent
star_amount h = h

refer_amount : ¬ IsAmount 1 Y.ReferExtent
refer_amount h = h

refer_checked : ¬ IsCheck 1 (Y.BoundsCheck (to Y.ReferExtent))
refer_checked h = h.1

star_and_constant : ¬ AreStars Y.StarExtent (Y.ConstantExtent (pos 1))
star_and_constant h = h

constant_and_star : ¬ AreStars (Y.ConstantExtent (pos 1)) Y.StarExtent
constant_and_star h = h

lower_kept : ¬ AreBounds Y.BasedClass 0 (record { lower = Y.ReferExtent; upper = Y.ReferExtent })
lower_kept h = h.1.0.1

negative_length : ¬ IsTextSize (Y.ConstantExtent (negsuc 0))
negative_length h = h

long_length : ¬ IsTextSize (Y.ConstantExtent (pos 1025))
long_length h = absurd (omega (arith, h))

negative_size : ¬ IsAreaSize (Y.ConstantExtent (negsuc 0))
negative_size h = h

-- ---- leaves

varying_kept : ¬ IsLeafType anywhere Y.BasedClass 0 (Y.VaryingLeaf Y.ReferExtent)
varying_kept h = h.1.1

area_kept : ¬ IsLeafType anywhere Y.BasedClass 0 (Y.AreaLeaf Y.ReferExtent)
area_kept h = h.1.1

length_evaluated : ¬ IsLeafType anywhere Y.StaticClass 1 (Y.CharacterLeaf (Y.EvaluatedExtent 0))
length_evaluated h = h.0

area_nowhere : ¬ IsLeafType anywhere Y.AutomaticClass 0
    (Y.OffsetLeaf (Some first_variable))
area_nowhere h = h.declared.block_around

repeated_too_often : ¬ IsInitialItem (Y.FixedLeaf 15) (record { repetition = 2147483648; value = T.InitialSkip })
repeated_too_often h = absurd (omega (arith, h.0))

abbrev one : Y.Bounds
one = to (Y.ConstantExtent (pos 1))

nine_bounds : ¬ IsLeaf anywhere Y.AutomaticClass 0
    (fixed (one ∷ one ∷ one ∷ one ∷ one ∷ one ∷ one ∷ one ∷ one ∷ []))
nine_bounds h = let few = h.few in absurd (omega (arith, few))

-- ---- areas

abbrev area : List Y.Bounds → Y.Leaf
area bounds = record { type = Y.AreaLeaf (Y.ConstantExtent (pos 64)); bounds = bounds; initial = [] }

area_of_array : ¬ IsOnlyArea Y.AutomaticClass (area (to (Y.ConstantExtent (pos 2)) ∷ []) ∷ [])
area_of_array h = absurd (cc (h.only, h.none))

area_of_based : ¬ IsOnlyArea Y.BasedClass (area [] ∷ [])
area_of_based h = h.class_holds

area_of_controlled : ¬ IsOnlyArea Y.ControlledClass (area [] ∷ [])
area_of_controlled h = h.class_holds

area_in_structure : ¬ IsOnlyArea Y.AutomaticClass (area [] ∷ fixed [] ∷ [])
area_in_structure h = absurd (cc h.only)
