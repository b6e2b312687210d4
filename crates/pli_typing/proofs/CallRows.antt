-- Calls of procedures and RETURN, and what typing refuses in them, computed on the definition.
use Rattle.std.proofs.Common.{List, [], ◌∷◌, Some, None, refl}
use Rattle.pli_language.specs.declared.expr.InfixOp.TheVariants as I
use Rattle.pli_language.specs.declared.fault.SourceKind.TheVariants as K
use Rattle.pli_language.specs.Tree.{Number, Text, Parenthesized, Infix, Refers, Plain, Located, Last, Of, Absent, Listed, StarBound, Upper, StarSize, Given, Fixed, Binary, Character, Pointer, Area, Returns, Assign, Begin, Call, Return, Item, Declare, Statement, Tree}
use Rattle.pli_language.specs.Refusals.{is_before, sooner, soonest}
use Rattle.pli_language.specs.Declarations.{held, chain_after, declared_in, declared_in_item, declared_in_stmt, blocks_in, blocks_in_item, blocks_in_stmt, blocks_of}
use Rattle.pli_language.specs.Means.{means_from}
use Rattle.pli_typing.specs.References.{expression, reference, qualified, arguments, expressions}
use Rattle.pli_typing.specs.Resolving.{statement, statements, resolved}
use Rattle.pli_typing.proofs.RowTrees.{Row, row, AsSaid, accepted, refused, at, name, dimensioned, declared, procedure, plain, extent, unsubscripted, exprs, items, program, refusal, abs_at, null_at, empty_at}

-- DCL (N,X) FIXED BIN(31), H FIXED BIN(15), C CHAR(5), P PTR, (L(3),Z(4)) FIXED BIN(31), 1 S, 2 Y FIXED BIN(31), 2 B
-- CHAR(3), 1 W, 2 K, 3 Y FIXED BIN(31), 3 B CHAR(3), 1 T(2), 2 Y FIXED BIN(31), 2 B CHAR(3), R AREA(64), G AREA(70), V
-- AREA(96); E: PROC(A); DCL A FIXED BIN(31); END; F: PROC(A) RETURNS(FIXED BIN(31)); DCL A(*) FIXED BIN(31);
-- RETURN(A(1)); END; I: PROC RETURNS(PTR); RETURN(NULL); END; J: PROC(A); DCL A AREA(64); END; M: PROC(A); DCL 1 A, 2 Y
-- FIXED BIN(31), 2 B CHAR(*); END; U: PROC(A,B); DCL A(3) FIXED BIN(31), B CHAR(*); END;
abbrev procedures : List Item → Tree
procedures rest =
    program
    (
    Declare (declared None (unsubscripted (name (78 ∷ []) (at 2 6)) ∷ unsubscripted (name (88 ∷ []) (at 2 8)) ∷ [])
    [] (Fixed None ∷ Binary (Some 31) ∷ [])
    ∷ declared None (unsubscripted (name (72 ∷ []) (at 2 26)) ∷ []) [] (Fixed None ∷ Binary (Some 15) ∷ [])
    ∷ declared None (unsubscripted (name (67 ∷ []) (at 2 43)) ∷ []) [] (Character (Some (Given (extent (Number 5 (at
    2 50))))) ∷ [])
    ∷ declared None (unsubscripted (name (80 ∷ []) (at 2 54)) ∷ []) [] (Pointer ∷ [])
    ∷ declared None (dimensioned (name (76 ∷ []) (at 2 62)) (Upper (extent (Number 3 (at 2 64))) ∷ []) ∷ dimensioned
    (name (90 ∷ []) (at 2 67)) (Upper (extent (Number 4 (at 2 69))) ∷ []) ∷ []) [] (Fixed None ∷ Binary (Some 31)
    ∷ [])
    ∷ declared (Some 1) (unsubscripted (name (83 ∷ []) (at 2 90)) ∷ []) [] []
    ∷ declared (Some 2) (unsubscripted (name (89 ∷ []) (at 2 95)) ∷ []) [] (Fixed None ∷ Binary (Some 31) ∷ [])
    ∷ declared (Some 2) (unsubscripted (name (66 ∷ []) (at 2 114)) ∷ []) [] (Character (Some (Given (extent (Number 3
    (at 2 121))))) ∷ [])
    ∷ declared (Some 1) (unsubscripted (name (87 ∷ []) (at 2 127)) ∷ []) [] []
    ∷ declared (Some 2) (unsubscripted (name (75 ∷ []) (at 2 132)) ∷ []) [] []
    ∷ declared (Some 3) (unsubscripted (name (89 ∷ []) (at 2 137)) ∷ []) [] (Fixed None ∷ Binary (Some 31) ∷ [])
    ∷ declared (Some 3) (unsubscripted (name (66 ∷ []) (at 2 156)) ∷ []) [] (Character (Some (Given (extent (Number 3
    (at 2 163))))) ∷ [])
    ∷ declared (Some 1) (dimensioned (name (84 ∷ []) (at 2 169)) (Upper (extent (Number 2 (at 2 171))) ∷ []) ∷ []) []
    []
    ∷ declared (Some 2) (unsubscripted (name (89 ∷ []) (at 2 177)) ∷ []) [] (Fixed None ∷ Binary (Some 31) ∷ [])
    ∷ declared (Some 2) (unsubscripted (name (66 ∷ []) (at 2 196)) ∷ []) [] (Character (Some (Given (extent (Number 3
    (at 2 203))))) ∷ [])
    ∷ declared None (unsubscripted (name (82 ∷ []) (at 2 207)) ∷ []) [] (Area (Some (Given (extent (Number 64 (at 2
    214))))) ∷ [])
    ∷ declared None (unsubscripted (name (71 ∷ []) (at 2 219)) ∷ []) [] (Area (Some (Given (extent (Number 70 (at 2
    226))))) ∷ [])
    ∷ declared None (unsubscripted (name (86 ∷ []) (at 2 231)) ∷ []) [] (Area (Some (Given (extent (Number 96 (at 2
    238))))) ∷ []) ∷ []) (at 2 1) ∷
    procedure ((name (69 ∷ []) (at 2 243)) ∷ []) (at 2 246) ((name (65 ∷ []) (at 2 251)) ∷ []) [] (Declare (declared
    None (unsubscripted (name (65 ∷ []) (at 2 259)) ∷ []) [] (Fixed None ∷ Binary (Some 31) ∷ []) ∷ []) (at 2
    255) ∷ []) ∷
    procedure ((name (70 ∷ []) (at 2 281)) ∷ []) (at 2 284) ((name (65 ∷ []) (at 2 289)) ∷ []) (Returns (Fixed None ∷
    Binary (Some 31) ∷ []) ∷ []) (Declare (declared None (dimensioned (name (65 ∷ []) (at 2 320)) (StarBound (at
    2 322) ∷ []) ∷ []) [] (Fixed None ∷ Binary (Some 31) ∷ []) ∷ []) (at 2 316) ∷ Statement [] (Return (Some
    (Refers (Plain (Last (name (65 ∷ []) (at 2 347)) (Listed (exprs ((Number 1 (at 2 349)) ∷ []))))))) (at 2
    340)) ∷ []) ∷
    procedure ((name (73 ∷ []) (at 2 359)) ∷ []) (at 2 362) [] (Returns (Pointer ∷ []) ∷ []) (Statement [] (Return
    (Some (Refers (plain (null_at (at 2 388))))) (at 2 381)) ∷ []) ∷
    procedure ((name (74 ∷ []) (at 2 400)) ∷ []) (at 2 403) ((name (65 ∷ []) (at 2 408)) ∷ []) [] (Declare (declared
    None (unsubscripted (name (65 ∷ []) (at 2 416)) ∷ []) [] (Area (Some (Given (extent (Number 64 (at 2 423)))))
    ∷ []) ∷ []) (at 2 412) ∷ []) ∷
    procedure ((name (77 ∷ []) (at 2 433)) ∷ []) (at 2 436) ((name (65 ∷ []) (at 2 441)) ∷ []) [] (Declare (declared
    (Some 1) (unsubscripted (name (65 ∷ []) (at 2 451)) ∷ []) [] [] ∷ declared (Some 2) (unsubscripted (name (89
    ∷ []) (at 2 456)) ∷ []) [] (Fixed None ∷ Binary (Some 31) ∷ []) ∷ declared (Some 2) (unsubscripted (name (66
    ∷ []) (at 2 475)) ∷ []) [] (Character (Some (StarSize (at 2 482))) ∷ []) ∷ []) (at 2 445) ∷ []) ∷
    procedure ((name (85 ∷ []) (at 2 491)) ∷ []) (at 2 494) ((name (65 ∷ []) (at 2 499)) ∷ (name (66 ∷ []) (at 2
    501)) ∷ []) [] (Declare (declared None (dimensioned (name (65 ∷ []) (at 2 509)) (Upper (extent (Number 3 (at
    2 511))) ∷ []) ∷ []) [] (Fixed None ∷ Binary (Some 31) ∷ []) ∷ declared None (unsubscripted (name (66 ∷ [])
    (at 2 529)) ∷ []) [] (Character (Some (StarSize (at 2 536))) ∷ []) ∷ []) (at 2 505) ∷ []) ∷
    [])
    rest

abbrev arguments_of_procedures : List Row
arguments_of_procedures =
    -- CALL E(N);
    row (Statement [] (Call (name (69 ∷ []) (at 3 6)) (Listed (exprs ((Refers (plain (name (78 ∷ []) (at 3 8)))) ∷ [])))
    (at 3 1)) ∷ []) accepted
    -- CALL E(H);
    ∷ row (Statement [] (Call (name (69 ∷ []) (at 3 6)) (Listed (exprs ((Refers (plain (name (72 ∷ []) (at 3 8)))) ∷
    []))) (at 3 1)) ∷ []) accepted
    -- CALL E(C);
    ∷ row (Statement [] (Call (name (69 ∷ []) (at 3 6)) (Listed (exprs ((Refers (plain (name (67 ∷ []) (at 3 8)))) ∷
    []))) (at 3 1)) ∷ []) accepted
    -- CALL E(P);
    ∷ row (Statement [] (Call (name (69 ∷ []) (at 3 6)) (Listed (exprs ((Refers (plain (name (80 ∷ []) (at 3 8)))) ∷
    []))) (at 3 1)) ∷ []) (refused 8 K.TypeMismatch)
    -- CALL E;
    ∷ row (Statement [] (Call (name (69 ∷ []) (at 3 6)) Absent (at 3 1)) ∷ []) (refused 6 K.BadArguments)
    -- CALL E(1,2);
    ∷ row (Statement [] (Call (name (69 ∷ []) (at 3 6)) (Listed (exprs ((Number 1 (at 3 8)) ∷ (Number 2 (at 3 10)) ∷
    []))) (at 3 1)) ∷ []) (refused 6 K.BadArguments)
    -- CALL E(L);
    ∷ row (Statement [] (Call (name (69 ∷ []) (at 3 6)) (Listed (exprs ((Refers (plain (name (76 ∷ []) (at 3 8)))) ∷
    []))) (at 3 1)) ∷ []) (refused 6 K.BadArguments)
    -- CALL E((L));
    ∷ row (Statement [] (Call (name (69 ∷ []) (at 3 6)) (Listed (exprs ((Parenthesized (Refers (plain (name (76 ∷ []) (at
    3 9)))) (at 3 8)) ∷ []))) (at 3 1)) ∷ []) (refused 9 K.TypeMismatch)
    -- CALL E((N));
    ∷ row (Statement [] (Call (name (69 ∷ []) (at 3 6)) (Listed (exprs ((Parenthesized (Refers (plain (name (78 ∷ []) (at
    3 9)))) (at 3 8)) ∷ []))) (at 3 1)) ∷ []) accepted
    -- CALL F(L);
    ∷ row (Statement [] (Call (name (70 ∷ []) (at 3 6)) (Listed (exprs ((Refers (plain (name (76 ∷ []) (at 3 8)))) ∷
    []))) (at 3 1)) ∷ []) (refused 1 K.TypeMismatch)
    -- CALL N;
    ∷ row (Statement [] (Call (name (78 ∷ []) (at 3 6)) Absent (at 3 1)) ∷ []) (refused 1 K.TypeMismatch)
    -- CALL J(R);
    ∷ row (Statement [] (Call (name (74 ∷ []) (at 3 6)) (Listed (exprs ((Refers (plain (name (82 ∷ []) (at 3 8)))) ∷
    []))) (at 3 1)) ∷ []) accepted
    -- CALL J(G);
    ∷ row (Statement [] (Call (name (74 ∷ []) (at 3 6)) (Listed (exprs ((Refers (plain (name (71 ∷ []) (at 3 8)))) ∷
    []))) (at 3 1)) ∷ []) accepted
    -- CALL J(V);
    ∷ row (Statement [] (Call (name (74 ∷ []) (at 3 6)) (Listed (exprs ((Refers (plain (name (86 ∷ []) (at 3 8)))) ∷
    []))) (at 3 1)) ∷ []) (refused 6 K.BadArguments)
    -- CALL J(EMPTY());
    ∷ row (Statement [] (Call (name (74 ∷ []) (at 3 6)) (Listed (exprs ((Refers (Plain (Last (empty_at (at 3 8)) (Listed
    (exprs []))))) ∷ []))) (at 3 1)) ∷ []) (refused 8 K.TypeMismatch)
    -- CALL M(S);
    ∷ row (Statement [] (Call (name (77 ∷ []) (at 3 6)) (Listed (exprs ((Refers (plain (name (83 ∷ []) (at 3 8)))) ∷
    []))) (at 3 1)) ∷ []) accepted
    -- CALL M(L);
    ∷ row (Statement [] (Call (name (77 ∷ []) (at 3 6)) (Listed (exprs ((Refers (plain (name (76 ∷ []) (at 3 8)))) ∷
    []))) (at 3 1)) ∷ []) (refused 6 K.BadArguments)
    -- CALL M(1);
    ∷ row (Statement [] (Call (name (77 ∷ []) (at 3 6)) (Listed (exprs ((Number 1 (at 3 8)) ∷ []))) (at 3 1)) ∷ [])
    (refused 8 K.TypeMismatch)
    -- CALL M(W.K);
    ∷ row (Statement [] (Call (name (77 ∷ []) (at 3 6)) (Listed (exprs ((Refers (Plain (Of (name (87 ∷ []) (at 3 8))
    Absent (Last (name (75 ∷ []) (at 3 10)) Absent)))) ∷ []))) (at 3 1)) ∷ []) (refused 6 K.BadArguments)
    -- CALL E(W.Y);
    ∷ row (Statement [] (Call (name (69 ∷ []) (at 3 6)) (Listed (exprs ((Refers (Plain (Of (name (87 ∷ []) (at 3 8))
    Absent (Last (name (89 ∷ []) (at 3 10)) Absent)))) ∷ []))) (at 3 1)) ∷ []) accepted
    -- CALL U(L,C);
    ∷ row (Statement [] (Call (name (85 ∷ []) (at 3 6)) (Listed (exprs ((Refers (plain (name (76 ∷ []) (at 3 8)))) ∷
    (Refers (plain (name (67 ∷ []) (at 3 10)))) ∷ []))) (at 3 1)) ∷ []) accepted
    -- CALL U(L,'AB' || C);
    ∷ row (Statement [] (Call (name (85 ∷ []) (at 3 6)) (Listed (exprs ((Refers (plain (name (76 ∷ []) (at 3 8)))) ∷
    (Infix I.Join (Text (65 ∷ 66 ∷ []) (at 3 10)) (Refers (plain (name (67 ∷ []) (at 3 18))))) ∷ []))) (at 3 1)) ∷
    []) accepted
    -- CALL U(Z,C);
    ∷ row (Statement [] (Call (name (85 ∷ []) (at 3 6)) (Listed (exprs ((Refers (plain (name (90 ∷ []) (at 3 8)))) ∷
    (Refers (plain (name (67 ∷ []) (at 3 10)))) ∷ []))) (at 3 1)) ∷ []) (refused 6 K.BadArguments)
    -- CALL U(L,P);
    ∷ row (Statement [] (Call (name (85 ∷ []) (at 3 6)) (Listed (exprs ((Refers (plain (name (76 ∷ []) (at 3 8)))) ∷
    (Refers (plain (name (80 ∷ []) (at 3 10)))) ∷ []))) (at 3 1)) ∷ []) (refused 10 K.TypeMismatch)
    -- CALL ABS(N);
    ∷ row (Statement [] (Call (abs_at (at 3 6)) (Listed (exprs ((Refers (plain (name (78 ∷ []) (at 3 10)))) ∷ []))) (at 3
    1)) ∷ []) (refused 1 K.TypeMismatch)
    -- BEGIN; DCL 1 Q, 2 E FIXED; CALL E; END;
    ∷ row (Statement [] (Begin (items (Declare (declared (Some 1) (unsubscripted (name (81 ∷ []) (at 3 14)) ∷ []) [] [] ∷
    declared (Some 2) (unsubscripted (name (69 ∷ []) (at 3 19)) ∷ []) [] (Fixed None ∷ []) ∷ []) (at 3 8) ∷ Statement
    [] (Call (name (69 ∷ []) (at 3 33)) Absent (at 3 28)) ∷ [])) (at 3 1)) ∷ []) (refused 28 K.TypeMismatch)
    -- BEGIN; DCL 1 Q, 2 E FIXED, 1 T, 2 E FIXED; CALL E; END;
    ∷ row (Statement [] (Begin (items (Declare (declared (Some 1) (unsubscripted (name (81 ∷ []) (at 3 14)) ∷ []) [] [] ∷
    declared (Some 2) (unsubscripted (name (69 ∷ []) (at 3 19)) ∷ []) [] (Fixed None ∷ []) ∷ declared (Some 1)
    (unsubscripted (name (84 ∷ []) (at 3 30)) ∷ []) [] [] ∷ declared (Some 2) (unsubscripted (name (69 ∷ []) (at 3
    35)) ∷ []) [] (Fixed None ∷ []) ∷ []) (at 3 8) ∷ Statement [] (Call (name (69 ∷ []) (at 3 49)) Absent (at 3 44))
    ∷ [])) (at 3 1)) ∷ []) (refused 49 K.Ambiguous)
    -- CALL M(T(1));
    ∷ row (Statement [] (Call (name (77 ∷ []) (at 3 6)) (Listed (exprs ((Refers (Plain (Last (name (84 ∷ []) (at 3 8))
    (Listed (exprs ((Number 1 (at 3 10)) ∷ [])))))) ∷ []))) (at 3 1)) ∷ []) (refused 6 K.BadArguments)
    -- CALL M(P -> S);
    ∷ row (Statement [] (Call (name (77 ∷ []) (at 3 6)) (Listed (exprs ((Refers (Located (plain (name (80 ∷ []) (at 3
    8))) (Last (name (83 ∷ []) (at 3 13)) Absent))) ∷ []))) (at 3 1)) ∷ []) (refused 13 K.TypeMismatch)
    ∷ []

arguments_of_procedures_hold : AsSaid procedures arguments_of_procedures
unfolding refusal resolved statement statements expression reference qualified arguments expressions means_from blocks_of declared_in declared_in_item declared_in_stmt blocks_in blocks_in_item blocks_in_stmt held chain_after is_before sooner soonest
arguments_of_procedures_hold = refl

abbrev functions : List Row
functions =
    -- N = F(L);
    row (Statement [] (Assign (plain (name (78 ∷ []) (at 3 1))) (Refers (Plain (Last (name (70 ∷ []) (at 3 5)) (Listed
    (exprs ((Refers (plain (name (76 ∷ []) (at 3 7)))) ∷ [])))))) (at 3 1)) ∷ []) accepted
    -- N = F(Z);
    ∷ row (Statement [] (Assign (plain (name (78 ∷ []) (at 3 1))) (Refers (Plain (Last (name (70 ∷ []) (at 3 5)) (Listed
    (exprs ((Refers (plain (name (90 ∷ []) (at 3 7)))) ∷ [])))))) (at 3 1)) ∷ []) accepted
    -- N = F(N);
    ∷ row (Statement [] (Assign (plain (name (78 ∷ []) (at 3 1))) (Refers (Plain (Last (name (70 ∷ []) (at 3 5)) (Listed
    (exprs ((Refers (plain (name (78 ∷ []) (at 3 7)))) ∷ [])))))) (at 3 1)) ∷ []) (refused 7 K.TypeMismatch)
    -- N = F;
    ∷ row (Statement [] (Assign (plain (name (78 ∷ []) (at 3 1))) (Refers (plain (name (70 ∷ []) (at 3 5)))) (at 3 1)) ∷
    []) (refused 5 K.BadArguments)
    -- N = F();
    ∷ row (Statement [] (Assign (plain (name (78 ∷ []) (at 3 1))) (Refers (Plain (Last (name (70 ∷ []) (at 3 5)) (Listed
    (exprs []))))) (at 3 1)) ∷ []) (refused 5 K.BadArguments)
    -- P = I;
    ∷ row (Statement [] (Assign (plain (name (80 ∷ []) (at 3 1))) (Refers (plain (name (73 ∷ []) (at 3 5)))) (at 3 1)) ∷
    []) accepted
    -- P = I();
    ∷ row (Statement [] (Assign (plain (name (80 ∷ []) (at 3 1))) (Refers (Plain (Last (name (73 ∷ []) (at 3 5)) (Listed
    (exprs []))))) (at 3 1)) ∷ []) accepted
    -- P = I(1);
    ∷ row (Statement [] (Assign (plain (name (80 ∷ []) (at 3 1))) (Refers (Plain (Last (name (73 ∷ []) (at 3 5)) (Listed
    (exprs ((Number 1 (at 3 7)) ∷ [])))))) (at 3 1)) ∷ []) (refused 5 K.BadArguments)
    ∷ []

functions_hold : AsSaid procedures functions
unfolding refusal resolved statement statements expression reference qualified arguments expressions means_from blocks_of declared_in declared_in_item declared_in_stmt blocks_in blocks_in_item blocks_in_stmt held chain_after is_before sooner soonest
functions_hold = refl

abbrev functions_in_expressions : List Row
functions_in_expressions =
    -- N = 1 + I;
    row (Statement [] (Assign (plain (name (78 ∷ []) (at 3 1))) (Infix I.Add (Number 1 (at 3 5)) (Refers (plain (name (73
    ∷ []) (at 3 9))))) (at 3 1)) ∷ []) (refused 9 K.TypeMismatch)
    -- N = E(N);
    ∷ row (Statement [] (Assign (plain (name (78 ∷ []) (at 3 1))) (Refers (Plain (Last (name (69 ∷ []) (at 3 5)) (Listed
    (exprs ((Refers (plain (name (78 ∷ []) (at 3 7)))) ∷ [])))))) (at 3 1)) ∷ []) (refused 5 K.TypeMismatch)
    -- I = P;
    ∷ row (Statement [] (Assign (plain (name (73 ∷ []) (at 3 1))) (Refers (plain (name (80 ∷ []) (at 3 5)))) (at 3 1)) ∷
    []) (refused 1 K.TypeMismatch)
    -- P -> I = P;
    ∷ row (Statement [] (Assign (Located (plain (name (80 ∷ []) (at 3 1))) (Last (name (73 ∷ []) (at 3 6)) Absent))
    (Refers (plain (name (80 ∷ []) (at 3 10)))) (at 3 1)) ∷ []) (refused 1 K.TypeMismatch)
    -- N = E;
    ∷ row (Statement [] (Assign (plain (name (78 ∷ []) (at 3 1))) (Refers (plain (name (69 ∷ []) (at 3 5)))) (at 3 1)) ∷
    []) (refused 5 K.TypeMismatch)
    ∷ []

functions_in_expressions_hold : AsSaid procedures functions_in_expressions
unfolding refusal resolved statement statements expression reference qualified arguments expressions means_from blocks_of declared_in declared_in_item declared_in_stmt blocks_in blocks_in_item blocks_in_stmt held chain_after is_before sooner soonest
functions_in_expressions_hold = refl

abbrev returns : List Row
returns =
    -- RETURN;
    row (Statement [] (Return None (at 3 1)) ∷ []) accepted
    -- RETURN(1);
    ∷ row (Statement [] (Return (Some (Number 1 (at 3 8))) (at 3 1)) ∷ []) (refused 1 K.TypeMismatch)
    -- BEGIN; RETURN; END;
    ∷ row (Statement [] (Begin (items (Statement [] (Return None (at 3 8)) ∷ [])) (at 3 1)) ∷ []) accepted
    -- K: PROC; RETURN; END;
    ∷ row (procedure ((name (75 ∷ []) (at 3 1)) ∷ []) (at 3 4) [] [] (Statement [] (Return None (at 3 10)) ∷ []) ∷ [])
    accepted
    -- K: PROC; RETURN(1); END;
    ∷ row (procedure ((name (75 ∷ []) (at 3 1)) ∷ []) (at 3 4) [] [] (Statement [] (Return (Some (Number 1 (at 3 17)))
    (at 3 10)) ∷ []) ∷ []) (refused 10 K.TypeMismatch)
    -- K: PROC RETURNS(CHAR(3)); RETURN(N); END;
    ∷ row (procedure ((name (75 ∷ []) (at 3 1)) ∷ []) (at 3 4) [] (Returns (Character (Some (Given (extent (Number 3 (at
    3 22))))) ∷ []) ∷ []) (Statement [] (Return (Some (Refers (plain (name (78 ∷ []) (at 3 34))))) (at 3 27)) ∷ []) ∷
    []) accepted
    -- K: PROC RETURNS(CHAR(3)); RETURN; END;
    ∷ row (procedure ((name (75 ∷ []) (at 3 1)) ∷ []) (at 3 4) [] (Returns (Character (Some (Given (extent (Number 3 (at
    3 22))))) ∷ []) ∷ []) (Statement [] (Return None (at 3 27)) ∷ []) ∷ []) (refused 27 K.TypeMismatch)
    -- K: PROC RETURNS(FIXED); RETURN(P); END;
    ∷ row (procedure ((name (75 ∷ []) (at 3 1)) ∷ []) (at 3 4) [] (Returns (Fixed None ∷ []) ∷ []) (Statement [] (Return
    (Some (Refers (plain (name (80 ∷ []) (at 3 32))))) (at 3 25)) ∷ []) ∷ []) (refused 32 K.TypeMismatch)
    -- K: PROC RETURNS(FIXED); BEGIN; RETURN(L); END; END;
    ∷ row (procedure ((name (75 ∷ []) (at 3 1)) ∷ []) (at 3 4) [] (Returns (Fixed None ∷ []) ∷ []) (Statement [] (Begin
    (items (Statement [] (Return (Some (Refers (plain (name (76 ∷ []) (at 3 39))))) (at 3 32)) ∷ [])) (at 3 25)) ∷
    []) ∷ []) (refused 39 K.TypeMismatch)
    ∷ []

returns_hold : AsSaid procedures returns
unfolding refusal resolved statement statements expression reference qualified arguments expressions means_from blocks_of declared_in declared_in_item declared_in_stmt blocks_in blocks_in_item blocks_in_stmt held chain_after is_before sooner soonest
returns_hold = refl
