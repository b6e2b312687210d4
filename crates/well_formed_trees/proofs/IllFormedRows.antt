-- Pieces of typed trees that aren't well formed, one for each main rule.
use Rattle.std.proofs.Common.{◌≡◌, ℕ, ◌≤◌, false, List, [], ◌∷◌, ◌++◌, Some, None, refl, inl, inr, arith}
use Rattle.std.specs.Prelude.{◌^◌, pos}
use Rattle.pli_language.specs.Formats.{Putting, Getting, formats_move_data, format_moves_data}
use Rattle.pli_language.specs.declared.expr.InfixOp.TheVariants as I
use Rattle.pli_language.specs.Heads as H
use Rattle.pli_language.specs.Tree as T
use Rattle.pli_typing.specs.TypedTree as Y
use Rattle.pli_typing.proofs.RowTrees.{at, name, exprs, items, procedure}
use Rattle.well_formed_trees.specs.Ranges.{IsLine, IsConstant, IsPrecision, IsLength, IsFormat, IsFormatList, IsTimes}
use Rattle.well_formed_trees.specs.Ranges.{IsTimesIf, AreFormats}
use Rattle.well_formed_trees.specs.Surroundings.{Around, Where, NoReturn, IsTarget, in_unit, in_list}
use Rattle.well_formed_trees.specs.References.{IsLocated, leaf_left}
use Rattle.well_formed_trees.specs.Expressions.{IsProcedure, Fits}
use Rattle.well_formed_trees.specs.EarlyNumbers.{Early}
use Rattle.well_formed_trees.specs.Declarations.{IsExtent, IsRising, IsInitial, AreMembers}
use Rattle.well_formed_trees.specs.Blocks.{BlockLabelsOnce}
use Rattle.well_formed_trees.specs.Statements.{SoundStmt}
use Rattle.well_formed_trees.specs.Written.{GroupsBare}
use Rattle.well_formed_trees.specs.Counted.{arguments_of, HasFew}
use Rattle.well_formed_trees.specs.Shallow.{Opens}
use Rattle.well_formed_trees.specs.Everywhere.{GoesAround}
use Rattle.well_formed_trees.specs.WellFormed.{AreNumbered, IsHeld, HasMain, IsResult, AreApart, AreNested, IsEntry}
use Rattle.well_formed_trees.proofs.WellFormedRows.{typed_program, table, main_entry, begin_entry, in_main, inner}
use Rattle.well_formed_trees.proofs.WellFormedRows.{main_head, number}

-- ---- numbers and labels of blocks

-- a number twice; a number left out
number_twice : ¬ AreNumbered 3 (1 ∷ 1 ∷ [])
number_twice h = absurd (cc (h.once 1 (omega arith) (omega arith)))

number_missing : ¬ AreNumbered 4 (1 ∷ 2 ∷ [])
number_missing h = absurd (cc (h.once 3 (omega arith) (omega arith)))

abbrev labelled : Y.Stmts → Y.Block
labelled body = Y.BlockOf main_head body

-- L: ; L: ;
label_twice : ¬ BlockLabelsOnce
    (labelled (Y.StmtThen ((76 ∷ []) ∷ []) (Y.Null 2) (Y.StmtThen ((76 ∷ []) ∷ []) (Y.Null 3)
    (Y.EndOfList []))))
label_twice h = absurd (cc h.0.0)

-- L: ; DO; L: END;
label_twice_in_group : ¬ BlockLabelsOnce (labelled (Y.StmtThen ((76 ∷ []) ∷ []) (Y.Null 2)
    (Y.StmtThen [] (Y.Do (Y.EndOfList ((76 ∷ []) ∷ [])) 3) (Y.EndOfList []))))
label_twice_in_group h = absurd (cc h.0.0)

-- the number of the whole program, and one that no block has
outermost_numbered : ¬ AreNumbered 2 (0 ∷ 1 ∷ [])
outermost_numbered h = absurd (cc h.not_outermost)

number_of_no_block : ¬ AreNumbered 2 (1 ∷ 2 ∷ [])
number_of_no_block h = absurd (cc (h.none 2 (omega arith)))

-- ---- levels and holders

-- a procedure at the level of the block that holds it
not_further_in : ¬ IsHeld table 0 (main_entry ∷ [])
not_further_in h = absurd (cc h.0)

-- a block whose level is one short
level_short : ¬ SoundStmt in_main (Y.Begin (Y.BlockOf (record { kind = Y.BeginBlock; number = 2; level = 0; line = 4 })
    (Y.EndOfList [])))
level_short h = absurd (cc h.0.1.0.level)

-- a block that the table doesn't have there
not_listed : ¬ SoundStmt in_main (Y.Begin (Y.BlockOf (record { kind = Y.BeginBlock; number = 1; level = 1; line = 4 })
    (Y.EndOfList [])))
not_listed h = absurd (cc h.0.1.1)

-- an entry that says that it stands in a block that begins behind it
not_nested : ¬ AreNested ([] ∷ (begin_entry ∷ main_entry ∷ []) ∷ [])
not_nested h =
    let behind = (h 1 begin_entry (main_entry ∷ []) refl).0 in
    absurd (omega (arith, behind))

-- one that says that it stands in a block that ended before it
abbrev at_level : (number level : ℕ) → Around
at_level number level = record { number = number; level = level; outermost = []; inner = [] }

not_the_last : ¬ AreNested ([] ∷ (at_level 1 0 ∷ []) ∷ (at_level 2 0 ∷ []) ∷ (at_level 3 1 ∷ at_level 1 0 ∷ []) ∷ [])
not_the_last h =
    let further = (h 3 (at_level 3 1) (at_level 1 0 ∷ []) refl).1 2 (at_level 2 0) [] (omega arith) (omega arith)
    refl in
    absurd (omega (arith, further))

outermost_further_in : ¬ IsHeld table 1 []
outermost_further_in h = absurd (cc h)

-- an entry of another number, and one deeper than a block may be
numbered_otherwise : ¬ IsEntry ([] ∷ (begin_entry ∷ []) ∷ []) 1
numbered_otherwise h = absurd (cc (first_of h.own h.outer h.entry, h.number_is)) where
  first_of : (own : Around) (outer : List Around) → Some (begin_entry ∷ []) ≡ Some (own ∷ outer) → 2 ≡ own.number
  first_of own outer e = cc e

sixteen_deep : ¬ IsEntry ([] ∷ (at_level 1 16 ∷ []) ∷ []) 1
sixteen_deep h =
    let shallow = h.shallow in
    let level = first_of h.own h.outer h.entry in
    absurd (omega (arith, shallow, level)) where
      first_of : (own : Around) (outer : List Around) → Some (at_level 1 16 ∷ []) ≡ Some (own ∷ outer) → 16 ≡ own.level
      first_of own outer e = cc e

-- ---- RETURN and GOTO

-- RETURN(1) where nothing is returned, and RETURN in an on-unit
value_returned : ¬ SoundStmt in_main (Y.ReturnValue (Y.FixedLeaf 31) (Y.StoredNumber 31 (Y.NumberConstant 1)) 3)
value_returned h = absurd (cc h.0)

unit_returns : ¬ SoundStmt (in_unit in_main) (Y.Return 3)
unit_returns h = absurd (cc h.0)

-- GOTO K, where no list has K
no_target : ¬ SoundStmt in_main (Y.Goto 0 (75 ∷ []) 3)
no_target h = none h.0 where
  none : ¬ IsTarget 0 (75 ∷ []) (main_entry ∷ [])
  none (inl k) = absurd (cc k.1)
  none (inr k) = k

-- DO; K: ; ON ERROR GOTO K; END; (the labels of groups around an on-unit are none of its targets)
unit_leaves_group : ¬ SoundStmt (in_unit (in_list in_main ((75 ∷ []) ∷ []))) (Y.Goto 0 (75 ∷ []) 3)
unit_leaves_group h = none h.0 where
  none : ¬ IsTarget 0 (75 ∷ []) (main_entry ∷ [])
  none (inl k) = absurd (cc k.1)
  none (inr k) = k

-- ---- calls and main procedures

-- no procedure has the number of a begin block
no_procedure : ¬ IsProcedure in_main 2 0 inner
no_procedure h = absurd (cc h.found)

-- a procedure whose holder isn't around
abbrev elsewhere : Where
elsewhere = record { program = typed_program; table = table; around = []; returning = NoReturn }

holder_not_around : ¬ IsProcedure elsewhere 3 0 inner
holder_not_around h = h.holder_around

-- a main procedure with a parameter
main_takes : ¬ HasMain
    (record { block = Y.BlockOf main_head (Y.EndOfList []); parameters = 0 ∷ []; result = None } ∷ [])
main_takes h = absurd (cc h.1.0)

-- no procedure; two that stand in no block
no_main : ¬ HasMain []
no_main h = h

abbrev outer : Y.Procedure
outer = record { block = Y.BlockOf main_head (Y.EndOfList []); parameters = []; result = None }

two_outer : ¬ HasMain (outer ∷ outer ∷ [])
two_outer h = let inside = h.1.1.0 in absurd (omega (arith, inside))

parameter_twice : ¬ AreApart (0 ∷ 0 ∷ [])
parameter_twice h = absurd (cc h.0)

area_returned : ¬ IsResult (Y.AreaLeaf (Y.ConstantExtent (pos 64)))
area_returned h = h

length_returned : ¬ IsResult (Y.CharacterLeaf Y.StarExtent)
length_returned h = h

digits_returned : ¬ IsResult (Y.FixedLeaf 32)
digits_returned h = absurd (omega (arith, h.1))

-- ---- numbers in range

line_too_great : ¬ IsLine (2 ^ 31)
line_too_great h = absurd (omega (arith, h))

constant_too_great : ¬ IsConstant (2 ^ 31)
constant_too_great h = absurd (omega (arith, h))

no_digits : ¬ IsPrecision 0
no_digits h = absurd (omega (arith, h.0))

too_many_digits : ¬ IsPrecision 32
too_many_digits h = absurd (omega (arith, h.1))

text_too_long : ¬ IsLength 1025
text_too_long h = absurd (omega (arith, h))

-- F(0), A in GET, and 1001 X(1)
no_width : ¬ IsFormat Putting (T.FixedFormat 0)
no_width h = absurd (omega (arith, h.0))

width_missing : ¬ IsFormat Getting (T.TextFormat None)
width_missing h = h

too_often : ¬ IsTimes 1001
too_often h = absurd (omega (arith, h.1))

never : ¬ IsTimesIf (Some 0)
never h = absurd (omega (arith, h.0))

-- A(1025), SKIP(0), COLUMN(0), and () in a list
too_wide : ¬ IsFormat Getting (T.TextFormat (Some 1025))
too_wide h = absurd (omega (arith, h.1))

no_skip : ¬ IsFormat Putting (T.SkipFormat 0)
no_skip h = absurd (omega (arith, h.0))

no_column : ¬ IsFormat Putting (T.ColumnFormat 0)
no_column h = absurd (omega (arith, h.0))

no_format : ¬ IsFormat Putting (T.FormatList T.NoFormat)
no_format h = h.0

format_too_often : ¬ AreFormats Putting (T.FormatThen (at 3 1) 1001 (T.FixedFormat 1) T.NoFormat)
format_too_often h = absurd (omega (arith, h.0.1))

-- (X(1)) moves no data
no_data : ¬ IsFormatList Putting (T.FormatThen (at 3 1) 1 (T.SpaceFormat 1) T.NoFormat)
unfolding formats_move_data format_moves_data
no_data h = absurd (cc h.moves_data)

-- ---- references and declarations

not_located : ¬ IsLocated Y.BasedClass Y.NotLocated
not_located h = h

located : ¬ IsLocated Y.AutomaticClass (Y.LocatedBy Y.NullPointer)
located h = h

-- a number into a text, and a value into an area
number_into_text : ¬ Fits (Y.CharacterLeaf (Y.ConstantExtent (pos 3))) (Y.StoredNumber 31 (Y.NumberConstant 1))
number_into_text h = h

value_into_area : ¬ Fits (Y.AreaLeaf (Y.ConstantExtent (pos 64))) (Y.StoredPointer Y.NullPointer)
value_into_area h = h

-- an extent that names its own variable, or calls a function
not_made_yet : ¬ Early 1 0 (Y.NumberIn number)
not_made_yet h = absurd (omega (arith, h.0 refl refl))

function_called : ¬ Early 1 0 (Y.NumberFrom (Y.Calling 3 0 Y.NoArgument))
function_called h = h

-- `*` of what is no parameter, REFER of what isn't BASED, and an evaluation that a STATIC variable has none of
star_of_automatic : ¬ IsExtent Y.AutomaticClass 0 Y.StarExtent
star_of_automatic h = h

refer_of_automatic : ¬ IsExtent Y.AutomaticClass 0 Y.ReferExtent
refer_of_automatic h = h

evaluated_static : ¬ IsExtent Y.StaticClass 1 (Y.EvaluatedExtent 0)
evaluated_static h = h

no_such_evaluation : ¬ IsExtent Y.AutomaticClass 1 (Y.EvaluatedExtent 1)
no_such_evaluation h = absurd (omega (arith, h))

falling : ¬ IsRising (Y.ConstantExtent (pos 2)) (Y.ConstantExtent (pos 1))
falling h = absurd (cc h)

-- INITIAL(8) of three digits, and of a text
number_too_wide : ¬ IsInitial (Y.FixedLeaf 3) (T.InitialNumber (pos 8))
number_too_wide h = absurd (cc h)

text_of_number : ¬ IsInitial (Y.FixedLeaf 3) (T.InitialText (56 ∷ []))
text_of_number h = h

-- a member two structures further in than the variable before it
too_deep : ¬ AreMembers (record { depth = 0; dimensions = 0 } ∷ record { depth = 2; dimensions = 0 } ∷ [])
too_deep h = absurd (omega (arith, h.1.0.1))

-- ---- where statements stand

-- a procedure in a group
procedure_in_group : ¬ GroupsBare
    (T.Do (items (procedure (name (80 ∷ []) (at 4 1) ∷ []) (at 4 4) [] [] [] ∷ [])) (at 3 1))
procedure_in_group h = h.0

-- GOTO L, where no list around has an L
label_nowhere : ¬ GoesAround (record {
  program = record { variables = []; procedures = [] };
  table = [];
  around = record { number = 1; level = 0; outermost = (77 ∷ []) ∷ []; inner = [] } ∷ [];
  returning = NoReturn;
}) (Y.Goto 0 (76 ∷ []) 4)
label_nowhere (inl h) = absurd (cc h.1)
label_nowhere (inr h) = h

-- an element of an array of one dimension has none of its bounds, and matches a scalar
element_left : leaf_left 1 (record {
  type = Y.BitLeaf;
  bounds = record { lower = Y.ConstantExtent (pos 1); upper = Y.ConstantExtent (pos 9) } ∷ [];
  initial = [];
}) ≡ record { type = Y.BitLeaf; bounds = []; initial = [] }
element_left = refl

-- ---- arguments, parameters and parentheses

abbrev called : T.Exprs → T.Expr
called es = T.Refers (T.Plain (T.Last (name (70 ∷ []) (at 3 1)) (T.Listed es)))

abbrev one : T.Expr
one = T.Number 1 (at 3 3)

-- F(1, F(1)) + F(1) has four
counted : arguments_of (T.Infix I.Add (called (exprs (one ∷ called (exprs (one ∷ [])) ∷ [])))
    (called (exprs (one ∷ [])))) ≡ 4
counted = refl

abbrev four : List T.Name
four =
    name (65 ∷ []) (at 1 9) ∷ name (66 ∷ []) (at 1 11) ∷ name (67 ∷ []) (at 1 13) ∷ name (68 ∷ []) (at 1 15) ∷ []

many_parameters : ¬ HasFew 0 0 false
    (H.ProcedureFront (at 1 4) (name (69 ∷ []) (at 1 7) ∷ (four ++ (four ++ (four ++ four)))) [])
many_parameters h =
    let few : 17 ≤ 16 = h.1 in
    absurd (omega (arith, few))

-- a parenthesis where 32 are open, and the subscripts of a name there
parenthesis_too_many : ¬ Opens 32 (T.Parenthesized one (at 3 1))
parenthesis_too_many h = absurd (omega (arith, h.0))

subscripts_too_deep : ¬ Opens 32 (called (exprs (one ∷ [])))
subscripts_too_deep h = absurd (omega (arith, h.0))
