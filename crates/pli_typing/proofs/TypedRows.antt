-- The typed trees of statements, declarations and a whole program, computed on the definition.
use Rattle.std.proofs.Common.{◌≡◌, ℕ, pos, List, [], ◌∷◌, true, false, Some, None, refl}
use Rattle.pli_language.specs.declared.expr.InfixOp.TheVariants as I
use Rattle.pli_language.specs.declared.condition.Condition.TheVariants as C
use Rattle.pli_language.specs.Tree as T
use Rattle.pli_language.specs.Tree.{Number, Parenthesized, Infix, Refers, Plain, Located, Last, Of, Absent, Listed, Upper, Both, Given, Fixed, Binary, Character, Varying, BitOne, Pointer, Offset, Area, Controlled, Based, Assign, Begin, OnUnit, Call, Goto, Allocate, Free, Item, Declare, Statement, Tree}
use Rattle.pli_language.specs.Refusals.{is_before}
use Rattle.pli_language.specs.Declarations.{held, chain_after, declared_in, declared_in_item, declared_in_stmt, blocks_in, blocks_in_item, blocks_in_stmt, blocks_of}
use Rattle.pli_language.specs.Means.{means_from}
use Rattle.pli_typing.specs.References.{expression, reference, qualified, arguments, expressions}
use Rattle.pli_typing.specs.Resolving.{statement, statements, resolved, typed_tree}
use Rattle.pli_typing.specs.TypedTree as Y
use Rattle.pli_typing.proofs.TypedPieces.{automatic, based_variable, controlled, part_of, scalar, based, constant_then, typed_rest, variables, leaf, up_to, member, variable}
use Rattle.pli_typing.proofs.RowTrees.{at, name, dimensioned, declared, kept_extent, procedure, counted, allocating, freeing, plain, extent, unsubscripted, exprs, items, program, allocation_at, null_at, empty_at}

-- DCL (N,M) FIXED BIN(31), H FIXED BIN(15), C CHAR(5), V CHAR(8) VAR, B BIT(1), (P,Q) PTR, R AREA(64), O OFFSET(R), W
-- OFFSET, L(3) FIXED BIN(31), 1 S, 2 X FIXED BIN(31), 2 Y(2) CHAR(3), 1 K(2), 2 X FIXED BIN(31), 2 Z(3,4) FIXED BIN(15);
abbrev simple : List Item → Tree
simple rest =
    program
    (
    Declare (declared None (unsubscripted (name (78 ∷ []) (at 2 6)) ∷ unsubscripted (name (77 ∷ []) (at 2 8)) ∷ [])
    [] (Fixed None ∷ Binary (Some 31) ∷ [])
    ∷ declared None (unsubscripted (name (72 ∷ []) (at 2 26)) ∷ []) [] (Fixed None ∷ Binary (Some 15) ∷ [])
    ∷ declared None (unsubscripted (name (67 ∷ []) (at 2 43)) ∷ []) [] (Character (Some (Given (extent (Number 5 (at
    2 50))))) ∷ [])
    ∷ declared None (unsubscripted (name (86 ∷ []) (at 2 54)) ∷ []) [] (Character (Some (Given (extent (Number 8 (at
    2 61))))) ∷ Varying ∷ [])
    ∷ declared None (unsubscripted (name (66 ∷ []) (at 2 69)) ∷ []) [] (BitOne ∷ [])
    ∷ declared None (unsubscripted (name (80 ∷ []) (at 2 80)) ∷ unsubscripted (name (81 ∷ []) (at 2 82)) ∷ []) []
    (Pointer ∷ [])
    ∷ declared None (unsubscripted (name (82 ∷ []) (at 2 90)) ∷ []) [] (Area (Some (Given (extent (Number 64 (at 2
    97))))) ∷ [])
    ∷ declared None (unsubscripted (name (79 ∷ []) (at 2 102)) ∷ []) [] (Offset (Some (name (82 ∷ []) (at 2 111))) ∷
    [])
    ∷ declared None (unsubscripted (name (87 ∷ []) (at 2 115)) ∷ []) [] (Offset None ∷ [])
    ∷ declared None (dimensioned (name (76 ∷ []) (at 2 125)) (Upper (extent (Number 3 (at 2 127))) ∷ []) ∷ []) []
    (Fixed None ∷ Binary (Some 31) ∷ [])
    ∷ declared (Some 1) (unsubscripted (name (83 ∷ []) (at 2 147)) ∷ []) [] []
    ∷ declared (Some 2) (unsubscripted (name (88 ∷ []) (at 2 152)) ∷ []) [] (Fixed None ∷ Binary (Some 31) ∷ [])
    ∷ declared (Some 2) (dimensioned (name (89 ∷ []) (at 2 171)) (Upper (extent (Number 2 (at 2 173))) ∷ []) ∷ []) []
    (Character (Some (Given (extent (Number 3 (at 2 181))))) ∷ [])
    ∷ declared (Some 1) (dimensioned (name (75 ∷ []) (at 2 187)) (Upper (extent (Number 2 (at 2 189))) ∷ []) ∷ []) []
    []
    ∷ declared (Some 2) (unsubscripted (name (88 ∷ []) (at 2 195)) ∷ []) [] (Fixed None ∷ Binary (Some 31) ∷ [])
    ∷ declared (Some 2) (dimensioned (name (90 ∷ []) (at 2 214)) (Upper (extent (Number 3 (at 2 216))) ∷ Upper
    (extent (Number 4 (at 2 218))) ∷ []) ∷ []) [] (Fixed None ∷ Binary (Some 15) ∷ []) ∷ []) (at 2 1) ∷
    [])
    rest

typed_statements :
    typed_rest (simple (
    -- N = C + B;
    Statement [] (Assign (plain (name (78 ∷ []) (at 3 1))) (Infix I.Add (Refers (plain (name (67 ∷ []) (at 3 5))))
    (Refers (plain (name (66 ∷ []) (at 3 9))))) (at 3 1)) ∷
    -- C = N;
    Statement [] (Assign (plain (name (67 ∷ []) (at 3 12))) (Refers (plain (name (78 ∷ []) (at 3 16)))) (at 3 12)) ∷
    -- C = (H);
    Statement [] (Assign (plain (name (67 ∷ []) (at 3 19))) (Parenthesized (Refers (plain (name (72 ∷ []) (at 3
    24)))) (at 3 23)) (at 3 19)) ∷
    -- H = K(1).Z(2,M);
    Statement [] (Assign (plain (name (72 ∷ []) (at 3 28))) (Refers (Plain (Of (name (75 ∷ []) (at 3 32)) (Listed
    (exprs ((Number 1 (at 3 34)) ∷ []))) (Last (name (90 ∷ []) (at 3 37)) (Listed (exprs ((Number 2 (at 3 39)) ∷
    (Refers (plain (name (77 ∷ []) (at 3 41)))) ∷ []))))))) (at 3 28)) ∷
    -- L = C;
    Statement [] (Assign (plain (name (76 ∷ []) (at 3 45))) (Refers (plain (name (67 ∷ []) (at 3 49)))) (at 3 45)) ∷
    -- K(1) = K(2);
    Statement [] (Assign (Plain (Last (name (75 ∷ []) (at 3 52)) (Listed (exprs ((Number 1 (at 3 54)) ∷ [])))))
    (Refers (Plain (Last (name (75 ∷ []) (at 3 59)) (Listed (exprs ((Number 2 (at 3 61)) ∷ [])))))) (at 3 52)) ∷
    -- O = P;
    Statement [] (Assign (plain (name (79 ∷ []) (at 3 65))) (Refers (plain (name (80 ∷ []) (at 3 69)))) (at 3 65)) ∷
    -- B = P = O;
    Statement [] (Assign (plain (name (66 ∷ []) (at 3 72))) (Infix I.Equal (Refers (plain (name (80 ∷ []) (at 3
    76)))) (Refers (plain (name (79 ∷ []) (at 3 80))))) (at 3 72)) ∷
    -- B = NULL ^= O;
    Statement [] (Assign (plain (name (66 ∷ []) (at 3 83))) (Infix I.NotEqual (Refers (plain (null_at (at 3 87))))
    (Refers (plain (name (79 ∷ []) (at 3 95))))) (at 3 83)) ∷
    -- R = EMPTY;
    Statement [] (Assign (plain (name (82 ∷ []) (at 3 98))) (Refers (plain (empty_at (at 3 102)))) (at 3 98)) ∷
    -- DO N = 1 TO M; END;
    Statement [] (counted (plain (name (78 ∷ []) (at 3 112))) (Number 1 (at 3 116)) (Some (Refers (plain (name (77 ∷
    []) (at 3 121))))) None None (items []) (at 3 109)) ∷
    -- DO V = N WHILE(B); END;
    Statement [] (counted (plain (name (86 ∷ []) (at 3 132))) (Refers (plain (name (78 ∷ []) (at 3 136)))) None None
    (Some (Refers (plain (name (66 ∷ []) (at 3 144))))) (items []) (at 3 129)) ∷
    -- ON ERROR GOTO E;
    Statement [] (OnUnit C.Error (Goto (name (69 ∷ []) (at 3 167)) (at 3 162)) (at 3 153)) ∷
    -- E: ;
    Statement ((name (69 ∷ []) (at 3 170)) ∷ []) (T.Null (at 3 173)) ∷
    []))
    ≡ (
    Y.Assign (scalar 0) (Y.StoredNumber 31 (Y.Calculated Y.Sum (Y.NumberOfText (Y.TextIn (scalar 3))) (Y.NumberOfBit
    (Y.BitIn (scalar 5))))) 3 ∷
    Y.Assign (scalar 3) (Y.StoredText (Y.TextOfNumber 31 (Y.NumberIn (scalar 0)))) 3 ∷
    Y.Assign (scalar 3) (Y.StoredText (Y.TextOfNumber 15 (Y.NumberIn (scalar 2)))) 3 ∷
    Y.Assign (scalar 2) (Y.StoredNumber 15 (Y.NumberIn (part_of 13 1 1 (constant_then 1 (constant_then 2
    (Y.NumberThen (Y.NumberIn (scalar 1)) Y.NoNumber)))))) 3 ∷
    Y.AssignElements (scalar 11) (Y.StoredNumber 31 (Y.NumberOfText (Y.TextIn (scalar 3)))) 3 ∷
    Y.AssignAggregate (part_of 13 0 2 (constant_then 1 Y.NoNumber)) (part_of 13 0 2 (constant_then 2 Y.NoNumber)) 3 ∷
    Y.Assign (scalar 9) (Y.StoredOffset (Y.OffsetInto (Y.PointerIn (scalar 6)) (automatic 8))) 3 ∷
    Y.Assign (scalar 5) (Y.StoredBit (Y.PointersCompared true (Y.PointerIn (scalar 6)) (Y.PointerInto (Y.OffsetIn
    (scalar 9)) (automatic 8)))) 3 ∷
    Y.Assign (scalar 5) (Y.StoredBit (Y.OffsetsCompared false Y.NullOffset (Y.OffsetIn (scalar 9)))) 3 ∷
    Y.EmptyArea (automatic 8) 3 ∷
    Y.DoCount (Y.NumberCounter 31 (scalar 0)) (Y.NumberValue 31 (Y.NumberConstant 1)) (Some (Y.NumberIn (scalar 1)))
    (Y.NumberConstant 1) None (Y.EndOfList []) 3 ∷
    Y.DoOnce (scalar 4) (Y.StoredText (Y.TextOfNumber 31 (Y.NumberIn (scalar 0)))) (Some (Y.BitIn (scalar 5)))
    (Y.EndOfList []) 3 ∷
    Y.OnUnit C.Error (Y.BlockOf (record { kind = Y.SimpleUnit; number = 1; level = 1; line = 3 }) (Y.StmtThen []
    (Y.Goto 0 (69 ∷ []) 3) (Y.EndOfList []))) 3 ∷
    Y.Null 3 ∷
    [])
unfolding resolved statement statements expression reference qualified arguments expressions means_from blocks_of declared_in declared_in_item declared_in_stmt blocks_in blocks_in_item blocks_in_stmt held chain_after is_before typed_rest
typed_statements = refl

-- DCL (P,Q) PTR, N FIXED BIN(31), R AREA(64), O OFFSET(R), W OFFSET, A FIXED BIN(31) BASED, D FIXED BIN(31) BASED(P), U
-- FIXED BIN(31) BASED(O), 1 G BASED(P), 2 J FIXED BIN(31), 2 F PTR, C FIXED BIN(31) CTL, 1 I CTL, 2 V FIXED BIN(31), X
-- FIXED BIN(31);
abbrev located : List Item → Tree
located rest =
    program
    (
    Declare (declared None (unsubscripted (name (80 ∷ []) (at 2 6)) ∷ unsubscripted (name (81 ∷ []) (at 2 8)) ∷ [])
    [] (Pointer ∷ [])
    ∷ declared None (unsubscripted (name (78 ∷ []) (at 2 16)) ∷ []) [] (Fixed None ∷ Binary (Some 31) ∷ [])
    ∷ declared None (unsubscripted (name (82 ∷ []) (at 2 33)) ∷ []) [] (Area (Some (Given (extent (Number 64 (at 2
    40))))) ∷ [])
    ∷ declared None (unsubscripted (name (79 ∷ []) (at 2 45)) ∷ []) [] (Offset (Some (name (82 ∷ []) (at 2 54))) ∷ [])
    ∷ declared None (unsubscripted (name (87 ∷ []) (at 2 58)) ∷ []) [] (Offset None ∷ [])
    ∷ declared None (unsubscripted (name (65 ∷ []) (at 2 68)) ∷ []) [] (Fixed None ∷ Binary (Some 31) ∷ Based None ∷
    [])
    ∷ declared None (unsubscripted (name (68 ∷ []) (at 2 91)) ∷ []) [] (Fixed None ∷ Binary (Some 31) ∷ Based (Some
    (name (80 ∷ []) (at 2 113))) ∷ [])
    ∷ declared None (unsubscripted (name (85 ∷ []) (at 2 117)) ∷ []) [] (Fixed None ∷ Binary (Some 31) ∷ Based (Some
    (name (79 ∷ []) (at 2 139))) ∷ [])
    ∷ declared (Some 1) (unsubscripted (name (71 ∷ []) (at 2 145)) ∷ []) [] (Based (Some (name (80 ∷ []) (at 2 153)))
    ∷ [])
    ∷ declared (Some 2) (unsubscripted (name (74 ∷ []) (at 2 159)) ∷ []) [] (Fixed None ∷ Binary (Some 31) ∷ [])
    ∷ declared (Some 2) (unsubscripted (name (70 ∷ []) (at 2 178)) ∷ []) [] (Pointer ∷ [])
    ∷ declared None (unsubscripted (name (67 ∷ []) (at 2 185)) ∷ []) [] (Fixed None ∷ Binary (Some 31) ∷ Controlled ∷
    [])
    ∷ declared (Some 1) (unsubscripted (name (73 ∷ []) (at 2 208)) ∷ []) [] (Controlled ∷ [])
    ∷ declared (Some 2) (unsubscripted (name (86 ∷ []) (at 2 217)) ∷ []) [] (Fixed None ∷ Binary (Some 31) ∷ [])
    ∷ declared None (unsubscripted (name (88 ∷ []) (at 2 234)) ∷ []) [] (Fixed None ∷ Binary (Some 31) ∷ []) ∷ []) (at 2 1) ∷
    [])
    rest

typed_locators :
    typed_rest (located (
    -- N = D;
    Statement [] (Assign (plain (name (78 ∷ []) (at 3 1))) (Refers (plain (name (68 ∷ []) (at 3 5)))) (at 3 1)) ∷
    -- N = O -> A;
    Statement [] (Assign (plain (name (78 ∷ []) (at 3 8))) (Refers (Located (plain (name (79 ∷ []) (at 3 12))) (Last
    (name (65 ∷ []) (at 3 17)) Absent))) (at 3 8)) ∷
    -- P = Q -> G.F -> G.F;
    Statement [] (Assign (plain (name (80 ∷ []) (at 3 20))) (Refers (Located (Located (plain (name (81 ∷ []) (at 3
    24))) (Of (name (71 ∷ []) (at 3 29)) Absent (Last (name (70 ∷ []) (at 3 31)) Absent))) (Of (name (71 ∷ [])
    (at 3 36)) Absent (Last (name (70 ∷ []) (at 3 38)) Absent)))) (at 3 20)) ∷
    -- C = ALLOCATION(C);
    Statement [] (Assign (plain (name (67 ∷ []) (at 3 41))) (Refers (Plain (Last (allocation_at (at 3 45)) (Listed
    (exprs ((Refers (plain (name (67 ∷ []) (at 3 56)))) ∷ [])))))) (at 3 41)) ∷
    -- ALLOCATE D, C;
    Statement [] (Allocate (allocating (name (68 ∷ []) (at 3 69)) None None ∷ allocating (name (67 ∷ []) (at 3 72))
    None None ∷ []) (at 3 60)) ∷
    -- ALLOCATE U, A IN(R) SET(Q);
    Statement [] (Allocate (allocating (name (85 ∷ []) (at 3 84)) None None ∷ allocating (name (65 ∷ []) (at 3 87))
    (Some (plain (name (82 ∷ []) (at 3 92)))) (Some (plain (name (81 ∷ []) (at 3 99)))) ∷ []) (at 3 75)) ∷
    -- FREE Q -> A IN(R), C;
    Statement [] (Free (freeing (Located (plain (name (81 ∷ []) (at 3 108))) (Last (name (65 ∷ []) (at 3 113))
    Absent)) (Some (plain (name (82 ∷ []) (at 3 118)))) ∷ freeing (plain (name (67 ∷ []) (at 3 122))) None ∷ [])
    (at 3 103)) ∷
    []))
    ≡ (
    Y.Assign (scalar 2) (Y.StoredNumber 31 (Y.NumberIn (based 7 0 (Y.PointerIn (scalar 0))))) 3 ∷
    Y.Assign (scalar 2) (Y.StoredNumber 31 (Y.NumberIn (based 6 0 (Y.PointerInto (Y.OffsetIn (scalar 4)) (automatic
    3))))) 3 ∷
    Y.Assign (scalar 0) (Y.StoredPointer (Y.PointerIn (based 9 1 (Y.PointerIn (based 9 1 (Y.PointerIn (scalar
    1))))))) 3 ∷
    Y.Assign (Y.Referring controlled Y.NotLocated (record { first = 0; count = 1 }) Y.NoNumber) (Y.StoredNumber 31
    (Y.AllocationsOf controlled)) 3 ∷
    Y.Allocate (Y.AllocateBased (based_variable 7) None (Y.SetPointer (scalar 0)) ∷ Y.AllocateControlled controlled ∷
    []) 3 ∷
    Y.Allocate (Y.AllocateBased (based_variable 8) (Some (automatic 3)) (Y.SetOffset (scalar 4) (automatic 3)) ∷
    Y.AllocateBased (based_variable 6) (Some (automatic 3)) (Y.SetPointer (scalar 1)) ∷ []) 3 ∷
    Y.Free (Y.FreeBased (based_variable 6) (Y.PointerIn (scalar 1)) (Some (automatic 3)) ∷ Y.FreeControlled
    controlled ∷ []) 3 ∷
    [])
unfolding resolved statement statements expression reference qualified arguments expressions means_from blocks_of declared_in declared_in_item declared_in_stmt blocks_in blocks_in_item blocks_in_stmt held chain_after is_before typed_rest
typed_locators = refl

-- DCL N FIXED BIN(31), P PTR, 1 A(N), 2 B(0:N + 1) CHAR(N), 2 (D,E)(3), 1 S BASED(P), 2 M, 2 T(N REFER(M)) CHAR(2);
-- Each extent as it is written is evaluated once, a lower bound of 1 isn't written, and REFER tells the extent from M.
abbrev extents : Tree
extents =
    program
    (
    Declare (declared None (unsubscripted (name (78 ∷ []) (at 2 5)) ∷ []) [] (Fixed None ∷ Binary (Some 31) ∷ [])
    ∷ declared None (unsubscripted (name (80 ∷ []) (at 2 22)) ∷ []) [] (Pointer ∷ [])
    ∷ declared (Some 1) (dimensioned (name (65 ∷ []) (at 2 31)) (Upper (extent (Refers (plain (name (78 ∷ []) (at 2
    33))))) ∷ []) ∷ []) [] []
    ∷ declared (Some 2) (dimensioned (name (66 ∷ []) (at 2 39)) (Both (extent (Number 0 (at 2 41))) (extent (Infix
    I.Add (Refers (plain (name (78 ∷ []) (at 2 43)))) (Number 1 (at 2 47)))) ∷ []) ∷ []) [] (Character (Some
    (Given (extent (Refers (plain (name (78 ∷ []) (at 2 55))))))) ∷ [])
    ∷ declared (Some 2) (unsubscripted (name (68 ∷ []) (at 2 62)) ∷ unsubscripted (name (69 ∷ []) (at 2 64)) ∷ [])
    (Upper (extent (Number 3 (at 2 67))) ∷ []) []
    ∷ declared (Some 1) (unsubscripted (name (83 ∷ []) (at 2 73)) ∷ []) [] (Based (Some (name (80 ∷ []) (at 2 81))) ∷
    [])
    ∷ declared (Some 2) (unsubscripted (name (77 ∷ []) (at 2 87)) ∷ []) [] []
    ∷ declared (Some 2) (dimensioned (name (84 ∷ []) (at 2 92)) (Upper (kept_extent (Refers (plain (name (78 ∷ [])
    (at 2 94)))) (name (77 ∷ []) (at 2 102)) (at 2 96)) ∷ []) ∷ []) [] (Character (Some (Given (extent (Number 2
    (at 2 111))))) ∷ []) ∷ []) (at 2 1) ∷
    [])
    []

extents_typed :
    variables extents
    ≡ [] ∷ (
    variable Y.AutomaticClass (leaf (Y.FixedLeaf 31) [] ∷ [])
    ∷ variable Y.AutomaticClass (leaf Y.PointerLeaf [] ∷ [])
    ∷ record {
      class = Y.AutomaticClass;
      members = member 0 1 ∷ member 1 1 ∷ member 1 1 ∷ member 1 1 ∷ [];
      leaves =
          leaf (Y.CharacterLeaf (Y.EvaluatedExtent 2)) (up_to (Y.EvaluatedExtent 0) ∷ record { lower = Y.ConstantExtent (pos 0); upper = Y.EvaluatedExtent 1 } ∷ [])
          ∷ leaf (Y.FixedLeaf 15) (up_to (Y.EvaluatedExtent 0) ∷ up_to (Y.ConstantExtent (pos 3)) ∷ [])
          ∷ leaf (Y.FixedLeaf 15) (up_to (Y.EvaluatedExtent 0) ∷ up_to (Y.ConstantExtent (pos 3)) ∷ [])
          ∷ [];
      refer = None;
      evaluations =
          record { value = Y.NumberIn (scalar 0); check = Y.BoundsCheck (up_to (Y.EvaluatedExtent 0)) }
          ∷ record { value = Y.Calculated Y.Sum (Y.NumberIn (scalar 0)) (Y.NumberConstant 1); check = Y.BoundsCheck (record { lower = Y.ConstantExtent (pos 0); upper = Y.EvaluatedExtent 1 }) }
          ∷ record { value = Y.NumberIn (scalar 0); check = Y.LengthCheck }
          ∷ [];
    }
    ∷ record {
      class = Y.BasedClass;
      members = member 0 0 ∷ member 1 0 ∷ member 1 1 ∷ [];
      leaves = leaf (Y.FixedLeaf 15) [] ∷ leaf (Y.CharacterLeaf (Y.ConstantExtent (pos 2))) (up_to Y.ReferExtent ∷ []) ∷ [];
      refer = Some (record { member = 0; amount = Y.EvaluatedExtent 0 });
      evaluations = record { value = Y.NumberIn (scalar 0); check = Y.BoundsCheck (up_to (Y.EvaluatedExtent 0)) } ∷ [];
    }
    ∷ [])
    ∷ []
unfolding resolved statement statements expression reference qualified arguments expressions means_from blocks_of declared_in declared_in_item declared_in_stmt blocks_in blocks_in_item blocks_in_stmt held chain_after is_before variables
extents_typed = refl

-- DCL I FIXED BIN(31); CALL P(I); CALL P((I)); P: PROC(K); DCL K FIXED BIN(31); K = K + 1; END;
abbrev passing : Tree
passing =
    program
    []
    (
    Declare (declared None (unsubscripted (name (73 ∷ []) (at 3 5)) ∷ []) [] (Fixed None ∷ Binary (Some 31) ∷ []) ∷
    []) (at 3 1) ∷
    Statement [] (Call (name (80 ∷ []) (at 3 27)) (Listed (exprs ((Refers (plain (name (73 ∷ []) (at 3 29)))) ∷ [])))
    (at 3 22)) ∷
    Statement [] (Call (name (80 ∷ []) (at 3 38)) (Listed (exprs ((Parenthesized (Refers (plain (name (73 ∷ []) (at 3
    41)))) (at 3 40)) ∷ []))) (at 3 33)) ∷
    procedure ((name (80 ∷ []) (at 3 46)) ∷ []) (at 3 49) ((name (75 ∷ []) (at 3 54)) ∷ []) [] (Declare (declared
    None (unsubscripted (name (75 ∷ []) (at 3 62)) ∷ []) [] (Fixed None ∷ Binary (Some 31) ∷ []) ∷ []) (at 3 58)
    ∷ Statement [] (Assign (plain (name (75 ∷ []) (at 3 79))) (Infix I.Add (Refers (plain (name (75 ∷ []) (at 3
    83)))) (Number 1 (at 3 87))) (at 3 79)) ∷ []) ∷
    [])

abbrev parameter : Y.Reference
parameter = Y.Referring (record { class = Y.ParameterClass; block = 2; level = 1; index = 0 }) Y.NotLocated (record { first = 0; count = 1 }) Y.NoNumber

abbrev calling : Y.Argument → Y.Stmt
calling a = Y.CallProcedure (Y.Calling 2 0 (Y.ArgumentThen a Y.NoArgument)) 3

passing_typed :
    typed_tree passing
    ≡ record {
      variables = [] ∷ (variable Y.AutomaticClass (leaf (Y.FixedLeaf 31) [] ∷ []) ∷ []) ∷ (variable Y.ParameterClass (leaf (Y.FixedLeaf 31) [] ∷ []) ∷ []) ∷ [];
      procedures =
          record {
            block =
                Y.BlockOf (record { kind = Y.ProcedureBlock; number = 1; level = 0; line = 1 })
                (Y.StmtThen [] (calling (Y.ByReference (scalar 0)))
                (Y.StmtThen [] (calling (Y.ByCopy (Y.FixedLeaf 31) (Y.StoredNumber 31 (Y.NumberIn (scalar 0)))))
                (Y.EndOfList [])));
            parameters = [];
            result = None;
          }
          ∷ record {
            block =
                Y.BlockOf (record { kind = Y.ProcedureBlock; number = 2; level = 1; line = 3 })
                (Y.StmtThen [] (Y.Assign parameter (Y.StoredNumber 31 (Y.Calculated Y.Sum (Y.NumberIn parameter) (Y.NumberConstant 1))) 3)
                (Y.EndOfList []));
            parameters = 0 ∷ [];
            result = None;
          }
          ∷ [];
    }
unfolding resolved statement statements expression reference qualified arguments expressions means_from blocks_of declared_in declared_in_item declared_in_stmt blocks_in blocks_in_item blocks_in_stmt held chain_after is_before
passing_typed = refl

-- E: ; BEGIN; ON ERROR BEGIN; GOTO E; END; CALL K; K: PROC; GOTO E; END; END;
abbrev nested : Tree
nested =
    program
    []
    (
    Statement ((name (69 ∷ []) (at 3 1)) ∷ []) (T.Null (at 3 4)) ∷
    Statement [] (Begin (items (Statement [] (OnUnit C.Error (Begin (items (Statement [] (Goto (name (69 ∷ []) (at 3
    34)) (at 3 29)) ∷ [])) (at 3 22)) (at 3 13)) ∷ Statement [] (Call (name (75 ∷ []) (at 3 47)) Absent (at 3
    42)) ∷ procedure ((name (75 ∷ []) (at 3 50)) ∷ []) (at 3 53) [] [] (Statement [] (Goto (name (69 ∷ []) (at 3
    64)) (at 3 59)) ∷ []) ∷ [])) (at 3 6)) ∷
    [])

unfoldable procedures_of : Tree → List Y.Procedure
procedures_of tree = (typed_tree tree).procedures

abbrev block : Y.BlockKind → (number level line : ℕ) → Y.Stmts → Y.Block
block kind number level line body = Y.BlockOf (record { kind = kind; number = number; level = level; line = line }) body

abbrev one_statement : Y.Stmt → Y.Stmts
one_statement s = Y.StmtThen [] s (Y.EndOfList [])

abbrev leaving : Y.Stmt
leaving = Y.Goto 0 (69 ∷ []) 3

nested_typed :
    procedures_of nested
    ≡ record {
      block =
          block Y.ProcedureBlock 1 0 1
          (Y.StmtThen ((69 ∷ []) ∷ []) (Y.Null 3)
          (one_statement (Y.Begin (block Y.BeginBlock 2 1 3
          (Y.StmtThen [] (Y.OnUnit C.Error (block Y.UnitBlock 3 2 3 (one_statement leaving)) 3)
          (one_statement (Y.CallProcedure (Y.Calling 4 1 Y.NoArgument) 3)))))));
      parameters = [];
      result = None;
    }
    ∷ record { block = block Y.ProcedureBlock 4 2 3 (one_statement leaving); parameters = []; result = None }
    ∷ []
unfolding resolved statement statements expression reference qualified arguments expressions means_from blocks_of declared_in declared_in_item declared_in_stmt blocks_in blocks_in_item blocks_in_stmt held chain_after is_before procedures_of
nested_typed = refl
