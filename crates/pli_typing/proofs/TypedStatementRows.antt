-- The typed trees of calls, built-ins and other statements, computed on the definition.
use Rattle.std.proofs.Common.{◌≡◌, List, [], ◌∷◌, true, Some, None, refl}
use Rattle.pli_language.specs.declared.expr.PrefixOp.TheVariants as P
use Rattle.pli_language.specs.declared.expr.InfixOp.TheVariants as I
use Rattle.pli_language.specs.declared.condition.Condition.TheVariants as C
use Rattle.pli_language.specs.Tree as T
use Rattle.pli_language.specs.Tree.{Number, Text, Bit, Prefix, Infix, Refers, Plain, Last, Of, Absent, Listed, Upper, Given, Fixed, Binary, Character, BitOne, Pointer, Offset, Area, Static, NoFormat, FormatThen, TextFormat, Returns, Assign, IfElse, DoWhile, Call, Return, Stop, Signal, Get, Put, Item, Declare, Statement, Tree}
use Rattle.pli_language.specs.Refusals.{is_before}
use Rattle.pli_language.specs.Declarations.{held, chain_after, declared_in, declared_in_item, declared_in_stmt, blocks_in, blocks_in_item, blocks_in_stmt, blocks_of}
use Rattle.pli_language.specs.Means.{means_from}
use Rattle.pli_typing.specs.References.{expression, reference, qualified, arguments, expressions}
use Rattle.pli_typing.specs.Resolving.{statement, statements, resolved}
use Rattle.pli_typing.specs.TypedTree as Y
use Rattle.pli_typing.specs.TypedTree.{Negative}
use Rattle.pli_typing.proofs.TypedPieces.{part_of, scalar, constant_then, typed_rest}
use Rattle.pli_typing.proofs.RowTrees.{at, name, dimensioned, declared, procedure, skipping, edited, plain, extent, unsubscripted, exprs, items, program, max_at, divide_at, length_at, substr_at, index_at, hbound_at, addr_at, null_at, oncode_at}

abbrev static_number : Y.Reference
static_number = Y.Referring (record { class = Y.StaticClass; block = 1; level = 0; index = 2 }) Y.NotLocated (record { first = 0; count = 1 }) Y.NoNumber

-- the area that J declares
abbrev callee_area : Y.Variable
callee_area = record { class = Y.AutomaticClass; block = 3; level = 1; index = 0 }

-- DCL R AREA(64), X PTR, N FIXED BIN(31) STATIC, 1 S, 2 Y CHAR(3), 2 Z(2) BIT(1); I: PROC(A,O); DCL A AREA(64), O
-- OFFSET(A); END; J: PROC(O); DCL B AREA(64), O OFFSET(B); END; F: PROC RETURNS(CHAR(3)); RETURN(5); END;
abbrev executed : List Item → Tree
executed rest =
    program
    (
    Declare (declared None (unsubscripted (name (82 ∷ []) (at 2 5)) ∷ []) [] (Area (Some (Given (extent (Number 64
    (at 2 12))))) ∷ [])
    ∷ declared None (unsubscripted (name (88 ∷ []) (at 2 17)) ∷ []) [] (Pointer ∷ [])
    ∷ declared None (unsubscripted (name (78 ∷ []) (at 2 24)) ∷ []) [] (Fixed None ∷ Binary (Some 31) ∷ Static ∷ [])
    ∷ declared (Some 1) (unsubscripted (name (83 ∷ []) (at 2 50)) ∷ []) [] []
    ∷ declared (Some 2) (unsubscripted (name (89 ∷ []) (at 2 55)) ∷ []) [] (Character (Some (Given (extent (Number 3
    (at 2 62))))) ∷ [])
    ∷ declared (Some 2) (dimensioned (name (90 ∷ []) (at 2 68)) (Upper (extent (Number 2 (at 2 70))) ∷ []) ∷ []) []
    (BitOne ∷ []) ∷ []) (at 2 1) ∷
    procedure ((name (73 ∷ []) (at 2 81)) ∷ []) (at 2 84) ((name (65 ∷ []) (at 2 89)) ∷ (name (79 ∷ []) (at 2 91)) ∷
    []) [] (Declare (declared None (unsubscripted (name (65 ∷ []) (at 2 99)) ∷ []) [] (Area (Some (Given (extent
    (Number 64 (at 2 106))))) ∷ []) ∷ declared None (unsubscripted (name (79 ∷ []) (at 2 111)) ∷ []) [] (Offset
    (Some (name (65 ∷ []) (at 2 120))) ∷ []) ∷ []) (at 2 95) ∷ []) ∷
    procedure ((name (74 ∷ []) (at 2 129)) ∷ []) (at 2 132) ((name (79 ∷ []) (at 2 137)) ∷ []) [] (Declare (declared
    None (unsubscripted (name (66 ∷ []) (at 2 145)) ∷ []) [] (Area (Some (Given (extent (Number 64 (at 2 152)))))
    ∷ []) ∷ declared None (unsubscripted (name (79 ∷ []) (at 2 157)) ∷ []) [] (Offset (Some (name (66 ∷ []) (at 2
    166))) ∷ []) ∷ []) (at 2 141) ∷ []) ∷
    procedure ((name (70 ∷ []) (at 2 175)) ∷ []) (at 2 178) [] (Returns (Character (Some (Given (extent (Number 3 (at
    2 196))))) ∷ []) ∷ []) (Statement [] (Return (Some (Number 5 (at 2 208))) (at 2 201)) ∷ []) ∷
    [])
    rest

typed_executions :
    typed_rest (executed (
    -- CALL I(R,X);
    Statement [] (Call (name (73 ∷ []) (at 3 6)) (Listed (exprs ((Refers (plain (name (82 ∷ []) (at 3 8)))) ∷ (Refers
    (plain (name (88 ∷ []) (at 3 10)))) ∷ []))) (at 3 1)) ∷
    -- CALL J(X);
    Statement [] (Call (name (74 ∷ []) (at 3 19)) (Listed (exprs ((Refers (plain (name (88 ∷ []) (at 3 21)))) ∷ [])))
    (at 3 14)) ∷
    -- CALL J(NULL);
    Statement [] (Call (name (74 ∷ []) (at 3 30)) (Listed (exprs ((Refers (plain (null_at (at 3 32)))) ∷ []))) (at 3
    25)) ∷
    -- N = F;
    Statement [] (Assign (plain (name (78 ∷ []) (at 3 39))) (Refers (plain (name (70 ∷ []) (at 3 43)))) (at 3 39)) ∷
    -- S.Z = '1'B;
    Statement [] (Assign (Plain (Of (name (83 ∷ []) (at 3 46)) Absent (Last (name (90 ∷ []) (at 3 48)) Absent))) (Bit
    true (at 3 52)) (at 3 46)) ∷
    -- GET SKIP(2) EDIT (S.Y,S.Z(1)) (A(3));
    Statement [] (Get (skipping 2 (at 3 62)) (edited ((Refers (Plain (Of (name (83 ∷ []) (at 3 76)) Absent (Last
    (name (89 ∷ []) (at 3 78)) Absent)))) ∷ (Refers (Plain (Of (name (83 ∷ []) (at 3 80)) Absent (Last (name (90
    ∷ []) (at 3 82)) (Listed (exprs ((Number 1 (at 3 84)) ∷ []))))))) ∷ []) (FormatThen (at 3 89) 1 (TextFormat
    (Some 3)) NoFormat) (at 3 75) ∷ []) (at 3 58)) ∷
    -- PUT EDIT (S,N) (A);
    Statement [] (Put None (edited ((Refers (plain (name (83 ∷ []) (at 3 106)))) ∷ (Refers (plain (name (78 ∷ []) (at
    3 108)))) ∷ []) (FormatThen (at 3 112) 1 (TextFormat None) NoFormat) (at 3 105) ∷ []) (at 3 96)) ∷
    -- IF S.Z(2) THEN ; ELSE STOP;
    Statement [] (IfElse (Refers (Plain (Of (name (83 ∷ []) (at 3 119)) Absent (Last (name (90 ∷ []) (at 3 121))
    (Listed (exprs ((Number 2 (at 3 123)) ∷ []))))))) (T.Null (at 3 131)) (Stop (at 3 138)) (at 3 116)) ∷
    -- DO WHILE(N < 3); SIGNAL ZERODIVIDE; END;
    Statement [] (DoWhile (Infix I.Less (Refers (plain (name (78 ∷ []) (at 3 153)))) (Number 3 (at 3 157))) (items
    (Statement [] (Signal C.ZeroDivide (at 3 161)) ∷ [])) (at 3 144)) ∷
    -- N = MAX(LENGTH(S.Y),INDEX(S.Y,'A'),2) * -N;
    Statement [] (Assign (plain (name (78 ∷ []) (at 3 185))) (Infix I.Multiply (Refers (Plain (Last (max_at (at 3
    189)) (Listed (exprs ((Refers (Plain (Last (length_at (at 3 193)) (Listed (exprs ((Refers (Plain (Of (name
    (83 ∷ []) (at 3 200)) Absent (Last (name (89 ∷ []) (at 3 202)) Absent)))) ∷ [])))))) ∷ (Refers (Plain (Last
    (index_at (at 3 205)) (Listed (exprs ((Refers (Plain (Of (name (83 ∷ []) (at 3 211)) Absent (Last (name (89 ∷
    []) (at 3 213)) Absent)))) ∷ (Text (65 ∷ []) (at 3 215)) ∷ [])))))) ∷ (Number 2 (at 3 220)) ∷ []))))))
    (Prefix P.Minus (Refers (plain (name (78 ∷ []) (at 3 226)))) (at 3 225))) (at 3 185)) ∷
    -- S.Y = SUBSTR(N || S.Y,2,DIVIDE(N,2,5));
    Statement [] (Assign (Plain (Of (name (83 ∷ []) (at 3 229)) Absent (Last (name (89 ∷ []) (at 3 231)) Absent)))
    (Refers (Plain (Last (substr_at (at 3 235)) (Listed (exprs ((Infix I.Join (Refers (plain (name (78 ∷ []) (at
    3 242)))) (Refers (Plain (Of (name (83 ∷ []) (at 3 247)) Absent (Last (name (89 ∷ []) (at 3 249)) Absent)))))
    ∷ (Number 2 (at 3 251)) ∷ (Refers (Plain (Last (divide_at (at 3 253)) (Listed (exprs ((Refers (plain (name
    (78 ∷ []) (at 3 260)))) ∷ (Number 2 (at 3 262)) ∷ (Number 5 (at 3 264)) ∷ [])))))) ∷ [])))))) (at 3 229)) ∷
    -- X = ADDR(N);
    Statement [] (Assign (plain (name (88 ∷ []) (at 3 269))) (Refers (Plain (Last (addr_at (at 3 273)) (Listed (exprs
    ((Refers (plain (name (78 ∷ []) (at 3 278)))) ∷ [])))))) (at 3 269)) ∷
    -- N = HBOUND(S.Z,1) + ONCODE();
    Statement [] (Assign (plain (name (78 ∷ []) (at 3 282))) (Infix I.Add (Refers (Plain (Last (hbound_at (at 3 286))
    (Listed (exprs ((Refers (Plain (Of (name (83 ∷ []) (at 3 293)) Absent (Last (name (90 ∷ []) (at 3 295))
    Absent)))) ∷ (Number 1 (at 3 297)) ∷ [])))))) (Refers (Plain (Last (oncode_at (at 3 302)) (Listed (exprs
    [])))))) (at 3 282)) ∷
    []))
    ≡ (
    Y.CallProcedure (Y.Calling 2 0 (Y.ArgumentThen (Y.ByReference (scalar 0)) (Y.ArgumentThen (Y.ByOffsetInParameter
    (Y.PointerIn (scalar 1)) 0) Y.NoArgument))) 3 ∷
    Y.CallProcedure (Y.Calling 3 0 (Y.ArgumentThen (Y.ByOffsetInAutomatic (Y.PointerIn (scalar 1))) Y.NoArgument)) 3 ∷
    Y.CallProcedure (Y.Calling 3 0 (Y.ArgumentThen (Y.ByCopy (Y.OffsetLeaf (Some callee_area)) (Y.StoredOffset
    Y.NullOffset)) Y.NoArgument)) 3 ∷
    Y.Assign static_number (Y.StoredNumber 31 (Y.NumberOfText (Y.TextFrom (Y.Calling 4 0 Y.NoArgument)))) 3 ∷
    Y.AssignElements (part_of 3 1 1 Y.NoNumber) (Y.StoredBit (Y.BitConstant true)) 3 ∷
    Y.Get (Some 2) (record {
      items = Y.GetScalar (part_of 3 0 1 Y.NoNumber) ∷ Y.GetScalar (part_of 3 1 1
          (constant_then 1 Y.NoNumber)) ∷ [];
      formats = (FormatThen (at 3 89) 1 (TextFormat (Some 3)) NoFormat);
    } ∷ [])
    3 ∷
    Y.Put None (record {
      items = Y.PutAggregate (part_of 3 0 2 Y.NoNumber) ∷ Y.PutValue (Y.NumberValue 31 (Y.NumberIn
          static_number)) ∷ [];
      formats = (FormatThen (at 3 112) 1 (TextFormat None) NoFormat);
    } ∷ []) 3 ∷
    Y.IfElse (Y.BitIn (part_of 3 1 1 (constant_then 2 Y.NoNumber))) (Y.Null 3) (Y.Stop 3) 3 ∷
    Y.DoWhile (Y.NumbersCompared Y.IsLess (Y.NumberIn static_number) (Y.NumberConstant 3)) (Y.StmtThen [] (Y.Signal
    C.ZeroDivide 3) (Y.EndOfList [])) 3 ∷
    Y.Assign static_number (Y.StoredNumber 31 (Y.Calculated Y.Product (Y.Extreme Y.Greatest (Y.LengthOf (Y.TextIn
    (part_of 3 0 1 Y.NoNumber))) (Y.NumberThen (Y.IndexOf (Y.TextIn (part_of 3 0 1 Y.NoNumber)) (Y.TextConstant
    (65 ∷ []))) (constant_then 2 Y.NoNumber))) (Y.Signed Negative (Y.NumberIn static_number)))) 3 ∷
    Y.Assign (part_of 3 0 1 Y.NoNumber) (Y.StoredText (Y.Substring (Y.Joined (Y.TextOfNumber 31 (Y.NumberIn
    static_number)) (Y.TextIn (part_of 3 0 1 Y.NoNumber))) (Y.NumberConstant 2) (Y.Divided 5 (Y.NumberIn
    static_number) (Y.NumberConstant 2)))) 3 ∷
    Y.Assign (scalar 1) (Y.StoredPointer (Y.AddressOf static_number)) 3 ∷
    Y.Assign static_number (Y.StoredNumber 31 (Y.Calculated Y.Sum (Y.UpperBound (part_of 3 1 1 Y.NoNumber) 1)
    Y.OnCode)) 3 ∷
    [])
unfolding resolved statement statements expression reference qualified arguments expressions means_from blocks_of declared_in declared_in_item declared_in_stmt blocks_in blocks_in_item blocks_in_stmt held chain_after is_before typed_rest
typed_executions = refl
