-- GOTO, DO, GET and PUT, and what typing refuses in them, computed on the definition.
use Rattle.std.proofs.Common.{List, [], ◌∷◌, Some, None, refl}
use Rattle.pli_language.specs.declared.condition.Condition.TheVariants as C
use Rattle.pli_language.specs.declared.fault.SourceKind.TheVariants as K
use Rattle.pli_language.specs.Tree as T
use Rattle.pli_language.specs.Tree.{Number, Parenthesized, Refers, Plain, Last, Of, Absent, Listed, Upper, Given, Fixed, Binary, Character, BitOne, Pointer, Area, NoFormat, FormatThen, FormatList, FixedFormat, TextFormat, Assign, Do, Begin, OnUnit, Goto, Get, Put, Item, Declare, Statement, EndLabels, Tree}
use Rattle.pli_language.specs.Refusals.{is_before, sooner, soonest}
use Rattle.pli_language.specs.Declarations.{held, chain_after, declared_in, declared_in_item, declared_in_stmt, blocks_in, blocks_in_item, blocks_in_stmt, blocks_of}
use Rattle.pli_language.specs.Means.{means_from}
use Rattle.pli_typing.specs.References.{expression, reference, qualified, arguments, expressions}
use Rattle.pli_typing.specs.Resolving.{statement, statements, resolved}
use Rattle.pli_typing.proofs.RowTrees.{Row, row, AsSaid, accepted, refused, at, name, dimensioned, declared, procedure, counted, skipping, edited, plain, extent, unsubscripted, exprs, items, program, refusal, abs_at, null_at}

-- DCL N FIXED BIN(31), C CHAR(5), B BIT(1), P PTR, L(3) FIXED BIN(31), R AREA(64), 1 S, 2 X FIXED BIN(31), 2 Y PTR, 1 K,
-- 2 U CHAR(3), 2 V BIT(1), 1 G(2), 2 W FIXED, 2 J(2) CHAR(3);
abbrev controlled_by : List Item → Tree
controlled_by rest =
    program
    (
    Declare (declared None (unsubscripted (name (78 ∷ []) (at 2 5)) ∷ []) [] (Fixed None ∷ Binary (Some 31) ∷ [])
    ∷ declared None (unsubscripted (name (67 ∷ []) (at 2 22)) ∷ []) [] (Character (Some (Given (extent (Number 5 (at
    2 29))))) ∷ [])
    ∷ declared None (unsubscripted (name (66 ∷ []) (at 2 33)) ∷ []) [] (BitOne ∷ [])
    ∷ declared None (unsubscripted (name (80 ∷ []) (at 2 43)) ∷ []) [] (Pointer ∷ [])
    ∷ declared None (dimensioned (name (76 ∷ []) (at 2 50)) (Upper (extent (Number 3 (at 2 52))) ∷ []) ∷ []) []
    (Fixed None ∷ Binary (Some 31) ∷ [])
    ∷ declared None (unsubscripted (name (82 ∷ []) (at 2 70)) ∷ []) [] (Area (Some (Given (extent (Number 64 (at 2
    77))))) ∷ [])
    ∷ declared (Some 1) (unsubscripted (name (83 ∷ []) (at 2 84)) ∷ []) [] []
    ∷ declared (Some 2) (unsubscripted (name (88 ∷ []) (at 2 89)) ∷ []) [] (Fixed None ∷ Binary (Some 31) ∷ [])
    ∷ declared (Some 2) (unsubscripted (name (89 ∷ []) (at 2 108)) ∷ []) [] (Pointer ∷ [])
    ∷ declared (Some 1) (unsubscripted (name (75 ∷ []) (at 2 117)) ∷ []) [] []
    ∷ declared (Some 2) (unsubscripted (name (85 ∷ []) (at 2 122)) ∷ []) [] (Character (Some (Given (extent (Number 3
    (at 2 129))))) ∷ [])
    ∷ declared (Some 2) (unsubscripted (name (86 ∷ []) (at 2 135)) ∷ []) [] (BitOne ∷ [])
    ∷ declared (Some 1) (dimensioned (name (71 ∷ []) (at 2 147)) (Upper (extent (Number 2 (at 2 149))) ∷ []) ∷ []) []
    []
    ∷ declared (Some 2) (unsubscripted (name (87 ∷ []) (at 2 155)) ∷ []) [] (Fixed None ∷ [])
    ∷ declared (Some 2) (dimensioned (name (74 ∷ []) (at 2 166)) (Upper (extent (Number 2 (at 2 168))) ∷ []) ∷ []) []
    (Character (Some (Given (extent (Number 3 (at 2 176))))) ∷ []) ∷ []) (at 2 1) ∷
    [])
    rest

abbrev labels : List Row
labels =
    -- GOTO L;
    row (Statement [] (Goto (name (76 ∷ []) (at 3 6)) (at 3 1)) ∷ []) (refused 6 K.BadLabel)
    -- GOTO E;
    ∷ row (Statement [] (Goto (name (69 ∷ []) (at 3 6)) (at 3 1)) ∷ []) (refused 6 K.BadLabel)
    -- GOTO T;
    ∷ row (Statement [] (Goto (name (84 ∷ []) (at 3 6)) (at 3 1)) ∷ []) (refused 6 K.BadLabel)
    -- E: ; GOTO E;
    ∷ row (Statement ((name (69 ∷ []) (at 3 1)) ∷ []) (T.Null (at 3 4)) ∷ Statement [] (Goto (name (69 ∷ []) (at 3 11))
    (at 3 6)) ∷ []) accepted
    -- GOTO E; DO; E: ; END;
    ∷ row (Statement [] (Goto (name (69 ∷ []) (at 3 6)) (at 3 1)) ∷ Statement [] (Do (items (Statement ((name (69 ∷ [])
    (at 3 13)) ∷ []) (T.Null (at 3 16)) ∷ [])) (at 3 9)) ∷ []) (refused 6 K.BadLabel)
    -- DO; GOTO E; E: ; END;
    ∷ row (Statement [] (Do (items (Statement [] (Goto (name (69 ∷ []) (at 3 10)) (at 3 5)) ∷ Statement ((name (69 ∷ [])
    (at 3 13)) ∷ []) (T.Null (at 3 16)) ∷ [])) (at 3 1)) ∷ []) accepted
    -- E: BEGIN; GOTO E; END;
    ∷ row (Statement ((name (69 ∷ []) (at 3 1)) ∷ []) (Begin (items (Statement [] (Goto (name (69 ∷ []) (at 3 16)) (at 3
    11)) ∷ [])) (at 3 4)) ∷ []) accepted
    -- BEGIN; E: ; END; GOTO E;
    ∷ row (Statement [] (Begin (items (Statement ((name (69 ∷ []) (at 3 8)) ∷ []) (T.Null (at 3 11)) ∷ [])) (at 3 1)) ∷
    Statement [] (Goto (name (69 ∷ []) (at 3 23)) (at 3 18)) ∷ []) (refused 23 K.BadLabel)
    -- DO; E: ; BEGIN; GOTO E; END; END;
    ∷ row (Statement [] (Do (items (Statement ((name (69 ∷ []) (at 3 5)) ∷ []) (T.Null (at 3 8)) ∷ Statement [] (Begin
    (items (Statement [] (Goto (name (69 ∷ []) (at 3 22)) (at 3 17)) ∷ [])) (at 3 10)) ∷ [])) (at 3 1)) ∷ []) accepted
    -- DO; GOTO E; E: END;
    ∷ row (Statement [] (Do (items (Statement [] (Goto (name (69 ∷ []) (at 3 10)) (at 3 5)) ∷ EndLabels ((name (69 ∷ [])
    (at 3 13)) ∷ []) (at 3 16) ∷ [])) (at 3 1)) ∷ []) accepted
    -- GOTO E; E: PROC; END;
    ∷ row (Statement [] (Goto (name (69 ∷ []) (at 3 6)) (at 3 1)) ∷ procedure ((name (69 ∷ []) (at 3 9)) ∷ []) (at 3 12)
    [] [] [] ∷ []) (refused 6 K.BadLabel)
    -- E: PROC; GOTO F; END; F: ;
    ∷ row (procedure ((name (69 ∷ []) (at 3 1)) ∷ []) (at 3 4) [] [] (Statement [] (Goto (name (70 ∷ []) (at 3 15)) (at 3
    10)) ∷ []) ∷ Statement ((name (70 ∷ []) (at 3 23)) ∷ []) (T.Null (at 3 26)) ∷ []) accepted
    -- GOTO ABS;
    ∷ row (Statement [] (Goto (abs_at (at 3 6)) (at 3 1)) ∷ []) (refused 6 K.BadLabel)
    -- E: ; BEGIN; DCL 1 I, 2 E FIXED; GOTO E; END;
    ∷ row (Statement ((name (69 ∷ []) (at 3 1)) ∷ []) (T.Null (at 3 4)) ∷ Statement [] (Begin (items (Declare (declared
    (Some 1) (unsubscripted (name (73 ∷ []) (at 3 19)) ∷ []) [] [] ∷ declared (Some 2) (unsubscripted (name (69 ∷ [])
    (at 3 24)) ∷ []) [] (Fixed None ∷ []) ∷ []) (at 3 13) ∷ Statement [] (Goto (name (69 ∷ []) (at 3 38)) (at 3 33))
    ∷ [])) (at 3 6)) ∷ []) (refused 38 K.BadLabel)
    -- E: ; BEGIN; DCL 1 I, 2 F FIXED; GOTO E; END;
    ∷ row (Statement ((name (69 ∷ []) (at 3 1)) ∷ []) (T.Null (at 3 4)) ∷ Statement [] (Begin (items (Declare (declared
    (Some 1) (unsubscripted (name (73 ∷ []) (at 3 19)) ∷ []) [] [] ∷ declared (Some 2) (unsubscripted (name (70 ∷ [])
    (at 3 24)) ∷ []) [] (Fixed None ∷ []) ∷ []) (at 3 13) ∷ Statement [] (Goto (name (69 ∷ []) (at 3 38)) (at 3 33))
    ∷ [])) (at 3 6)) ∷ []) accepted
    -- BEGIN; DCL 1 I, 2 E FIXED, 1 H, 2 E FIXED; GOTO E; END;
    ∷ row (Statement [] (Begin (items (Declare (declared (Some 1) (unsubscripted (name (73 ∷ []) (at 3 14)) ∷ []) [] [] ∷
    declared (Some 2) (unsubscripted (name (69 ∷ []) (at 3 19)) ∷ []) [] (Fixed None ∷ []) ∷ declared (Some 1)
    (unsubscripted (name (72 ∷ []) (at 3 30)) ∷ []) [] [] ∷ declared (Some 2) (unsubscripted (name (69 ∷ []) (at 3
    35)) ∷ []) [] (Fixed None ∷ []) ∷ []) (at 3 8) ∷ Statement [] (Goto (name (69 ∷ []) (at 3 49)) (at 3 44)) ∷ []))
    (at 3 1)) ∷ []) (refused 49 K.Ambiguous)
    ∷ []

labels_hold : AsSaid controlled_by labels
unfolding refusal resolved statement statements expression reference qualified arguments expressions means_from blocks_of declared_in declared_in_item declared_in_stmt blocks_in blocks_in_item blocks_in_stmt held chain_after is_before sooner soonest
labels_hold = refl

abbrev labels_out_of_units : List Row
labels_out_of_units =
    -- E: ; ON ERROR GOTO E;
    row (Statement ((name (69 ∷ []) (at 3 1)) ∷ []) (T.Null (at 3 4)) ∷ Statement [] (OnUnit C.Error (Goto (name (69 ∷
    []) (at 3 20)) (at 3 15)) (at 3 6)) ∷ []) accepted
    -- DO; E: ; ON ERROR GOTO E; END;
    ∷ row (Statement [] (Do (items (Statement ((name (69 ∷ []) (at 3 5)) ∷ []) (T.Null (at 3 8)) ∷ Statement [] (OnUnit
    C.Error (Goto (name (69 ∷ []) (at 3 24)) (at 3 19)) (at 3 10)) ∷ [])) (at 3 1)) ∷ []) (refused 24 K.BadLabel)
    -- DO; E: ; ON ERROR BEGIN; GOTO E; END; END;
    ∷ row (Statement [] (Do (items (Statement ((name (69 ∷ []) (at 3 5)) ∷ []) (T.Null (at 3 8)) ∷ Statement [] (OnUnit
    C.Error (Begin (items (Statement [] (Goto (name (69 ∷ []) (at 3 31)) (at 3 26)) ∷ [])) (at 3 19)) (at 3 10)) ∷
    [])) (at 3 1)) ∷ []) (refused 31 K.BadLabel)
    -- ON ERROR BEGIN; DO; E: ; GOTO E; END; END;
    ∷ row (Statement [] (OnUnit C.Error (Begin (items (Statement [] (Do (items (Statement ((name (69 ∷ []) (at 3 21)) ∷
    []) (T.Null (at 3 24)) ∷ Statement [] (Goto (name (69 ∷ []) (at 3 31)) (at 3 26)) ∷ [])) (at 3 17)) ∷ [])) (at 3
    10)) (at 3 1)) ∷ []) accepted
    -- BEGIN; DO; E: ; BEGIN; ON ERROR GOTO E; END; END; END;
    ∷ row (Statement [] (Begin (items (Statement [] (Do (items (Statement ((name (69 ∷ []) (at 3 12)) ∷ []) (T.Null (at 3
    15)) ∷ Statement [] (Begin (items (Statement [] (OnUnit C.Error (Goto (name (69 ∷ []) (at 3 38)) (at 3 33)) (at 3
    24)) ∷ [])) (at 3 17)) ∷ [])) (at 3 8)) ∷ [])) (at 3 1)) ∷ []) accepted
    -- ON ERROR BEGIN; BEGIN; GOTO E; END; END; E: ;
    ∷ row (Statement [] (OnUnit C.Error (Begin (items (Statement [] (Begin (items (Statement [] (Goto (name (69 ∷ []) (at
    3 29)) (at 3 24)) ∷ [])) (at 3 17)) ∷ [])) (at 3 10)) (at 3 1)) ∷ Statement ((name (69 ∷ []) (at 3 42)) ∷ [])
    (T.Null (at 3 45)) ∷ []) accepted
    ∷ []

labels_out_of_units_hold : AsSaid controlled_by labels_out_of_units
unfolding refusal resolved statement statements expression reference qualified arguments expressions means_from blocks_of declared_in declared_in_item declared_in_stmt blocks_in blocks_in_item blocks_in_stmt held chain_after is_before sooner soonest
labels_out_of_units_hold = refl

abbrev counted_turns : List Row
counted_turns =
    -- DO N = 1 TO 3 BY C; END;
    row (Statement [] (counted (plain (name (78 ∷ []) (at 3 4))) (Number 1 (at 3 8)) (Some (Number 3 (at 3 13))) (Some
    (Refers (plain (name (67 ∷ []) (at 3 18))))) None (items []) (at 3 1)) ∷ []) accepted
    -- DO P = NULL TO N; END;
    ∷ row (Statement [] (counted (plain (name (80 ∷ []) (at 3 4))) (Refers (plain (null_at (at 3 8)))) (Some (Refers
    (plain (name (78 ∷ []) (at 3 16))))) None None (items []) (at 3 1)) ∷ []) (refused 4 K.TypeMismatch)
    -- DO P = NULL(); END;
    ∷ row (Statement [] (counted (plain (name (80 ∷ []) (at 3 4))) (Refers (Plain (Last (null_at (at 3 8)) (Listed (exprs
    []))))) None None None (items []) (at 3 1)) ∷ []) accepted
    -- DO C = 1 TO 3; END;
    ∷ row (Statement [] (counted (plain (name (67 ∷ []) (at 3 4))) (Number 1 (at 3 8)) (Some (Number 3 (at 3 13))) None
    None (items []) (at 3 1)) ∷ []) accepted
    -- DO B = 1 TO 2; END;
    ∷ row (Statement [] (counted (plain (name (66 ∷ []) (at 3 4))) (Number 1 (at 3 8)) (Some (Number 2 (at 3 13))) None
    None (items []) (at 3 1)) ∷ []) (refused 4 K.TypeMismatch)
    -- DO B = C WHILE(B); END;
    ∷ row (Statement [] (counted (plain (name (66 ∷ []) (at 3 4))) (Refers (plain (name (67 ∷ []) (at 3 8)))) None None
    (Some (Refers (plain (name (66 ∷ []) (at 3 16))))) (items []) (at 3 1)) ∷ []) accepted
    -- DO N = P TO 3; END;
    ∷ row (Statement [] (counted (plain (name (78 ∷ []) (at 3 4))) (Refers (plain (name (80 ∷ []) (at 3 8)))) (Some
    (Number 3 (at 3 13))) None None (items []) (at 3 1)) ∷ []) (refused 8 K.TypeMismatch)
    -- DO N = 1 TO P; END;
    ∷ row (Statement [] (counted (plain (name (78 ∷ []) (at 3 4))) (Number 1 (at 3 8)) (Some (Refers (plain (name (80 ∷
    []) (at 3 13))))) None None (items []) (at 3 1)) ∷ []) (refused 13 K.TypeMismatch)
    -- DO N = 1 BY P; END;
    ∷ row (Statement [] (counted (plain (name (78 ∷ []) (at 3 4))) (Number 1 (at 3 8)) None (Some (Refers (plain (name
    (80 ∷ []) (at 3 13))))) None (items []) (at 3 1)) ∷ []) (refused 13 K.TypeMismatch)
    -- DO L = 1 TO 3; END;
    ∷ row (Statement [] (counted (plain (name (76 ∷ []) (at 3 4))) (Number 1 (at 3 8)) (Some (Number 3 (at 3 13))) None
    None (items []) (at 3 1)) ∷ []) (refused 4 K.TypeMismatch)
    -- DO N = 1 WHILE(N); END;
    ∷ row (Statement [] (counted (plain (name (78 ∷ []) (at 3 4))) (Number 1 (at 3 8)) None None (Some (Refers (plain
    (name (78 ∷ []) (at 3 16))))) (items []) (at 3 1)) ∷ []) (refused 16 K.TypeMismatch)
    -- DO R = R; END;
    ∷ row (Statement [] (counted (plain (name (82 ∷ []) (at 3 4))) (Refers (plain (name (82 ∷ []) (at 3 8)))) None None
    None (items []) (at 3 1)) ∷ []) (refused 4 K.TypeMismatch)
    -- DO ABS(N) = 1; END;
    ∷ row (Statement [] (counted (Plain (Last (abs_at (at 3 4)) (Listed (exprs ((Refers (plain (name (78 ∷ []) (at 3
    8)))) ∷ []))))) (Number 1 (at 3 13)) None None None (items []) (at 3 1)) ∷ []) (refused 4 K.TypeMismatch)
    -- DO N = 1; E = 1; END;
    ∷ row (Statement [] (counted (plain (name (78 ∷ []) (at 3 4))) (Number 1 (at 3 8)) None None None (items (Statement
    [] (Assign (plain (name (69 ∷ []) (at 3 11))) (Number 1 (at 3 15)) (at 3 11)) ∷ [])) (at 3 1)) ∷ []) (refused 11
    K.Undeclared)
    ∷ []

counted_turns_hold : AsSaid controlled_by counted_turns
unfolding refusal resolved statement statements expression reference qualified arguments expressions means_from blocks_of declared_in declared_in_item declared_in_stmt blocks_in blocks_in_item blocks_in_stmt held chain_after is_before sooner soonest
counted_turns_hold = refl

abbrev items_of_put : List Row
items_of_put =
    -- PUT EDIT (N,C,B) (F(5));
    row (Statement [] (Put None (edited ((Refers (plain (name (78 ∷ []) (at 3 11)))) ∷ (Refers (plain (name (67 ∷ []) (at
    3 13)))) ∷ (Refers (plain (name (66 ∷ []) (at 3 15)))) ∷ []) (FormatThen (at 3 19) 1 (FixedFormat 5) NoFormat)
    (at 3 10) ∷ []) (at 3 1)) ∷ []) accepted
    -- PUT EDIT (P) (A);
    ∷ row (Statement [] (Put None (edited ((Refers (plain (name (80 ∷ []) (at 3 11)))) ∷ []) (FormatThen (at 3 15) 1
    (TextFormat None) NoFormat) (at 3 10) ∷ []) (at 3 1)) ∷ []) (refused 11 K.TypeMismatch)
    -- PUT EDIT (L) (F(5));
    ∷ row (Statement [] (Put None (edited ((Refers (plain (name (76 ∷ []) (at 3 11)))) ∷ []) (FormatThen (at 3 15) 1
    (FixedFormat 5) NoFormat) (at 3 10) ∷ []) (at 3 1)) ∷ []) accepted
    -- PUT EDIT (N,S) (A);
    ∷ row (Statement [] (Put None (edited ((Refers (plain (name (78 ∷ []) (at 3 11)))) ∷ (Refers (plain (name (83 ∷ [])
    (at 3 13)))) ∷ []) (FormatThen (at 3 17) 1 (TextFormat None) NoFormat) (at 3 10) ∷ []) (at 3 1)) ∷ []) (refused
    13 K.TypeMismatch)
    -- PUT EDIT (R) (A);
    ∷ row (Statement [] (Put None (edited ((Refers (plain (name (82 ∷ []) (at 3 11)))) ∷ []) (FormatThen (at 3 15) 1
    (TextFormat None) NoFormat) (at 3 10) ∷ []) (at 3 1)) ∷ []) (refused 11 K.TypeMismatch)
    -- PUT EDIT (NULL) (A);
    ∷ row (Statement [] (Put None (edited ((Refers (plain (null_at (at 3 11)))) ∷ []) (FormatThen (at 3 18) 1 (TextFormat
    None) NoFormat) (at 3 10) ∷ []) (at 3 1)) ∷ []) (refused 11 K.TypeMismatch)
    -- PUT EDIT (K) (F(2));
    ∷ row (Statement [] (Put None (edited ((Refers (plain (name (75 ∷ []) (at 3 11)))) ∷ []) (FormatThen (at 3 15) 1
    (FixedFormat 2) NoFormat) (at 3 10) ∷ []) (at 3 1)) ∷ []) accepted
    -- PUT EDIT (G(1),G) (A);
    ∷ row (Statement [] (Put None (edited ((Refers (Plain (Last (name (71 ∷ []) (at 3 11)) (Listed (exprs ((Number 1 (at
    3 13)) ∷ [])))))) ∷ (Refers (plain (name (71 ∷ []) (at 3 16)))) ∷ []) (FormatThen (at 3 20) 1 (TextFormat None)
    NoFormat) (at 3 10) ∷ []) (at 3 1)) ∷ []) accepted
    -- PUT EDIT (N) (A) (E) (A);
    ∷ row (Statement [] (Put None (edited ((Refers (plain (name (78 ∷ []) (at 3 11)))) ∷ []) (FormatThen (at 3 15) 1
    (TextFormat None) NoFormat) (at 3 10) ∷ edited ((Refers (plain (name (69 ∷ []) (at 3 19)))) ∷ []) (FormatThen (at
    3 23) 1 (TextFormat None) NoFormat) (at 3 18) ∷ []) (at 3 1)) ∷ []) (refused 19 K.Undeclared)
    -- PUT SKIP;
    ∷ row (Statement [] (Put (skipping 1 (at 3 5)) [] (at 3 1)) ∷ []) accepted
    ∷ []

items_of_put_hold : AsSaid controlled_by items_of_put
unfolding refusal resolved statement statements expression reference qualified arguments expressions means_from blocks_of declared_in declared_in_item declared_in_stmt blocks_in blocks_in_item blocks_in_stmt held chain_after is_before sooner soonest
items_of_put_hold = refl

abbrev items_of_get : List Row
items_of_get =
    -- GET EDIT (N,C) (F(5));
    row (Statement [] (Get None (edited ((Refers (plain (name (78 ∷ []) (at 3 11)))) ∷ (Refers (plain (name (67 ∷ []) (at
    3 13)))) ∷ []) (FormatThen (at 3 17) 1 (FixedFormat 5) NoFormat) (at 3 10) ∷ []) (at 3 1)) ∷ []) accepted
    -- GET EDIT (B) (F(5));
    ∷ row (Statement [] (Get None (edited ((Refers (plain (name (66 ∷ []) (at 3 11)))) ∷ []) (FormatThen (at 3 15) 1
    (FixedFormat 5) NoFormat) (at 3 10) ∷ []) (at 3 1)) ∷ []) (refused 11 K.TypeMismatch)
    -- GET EDIT (B) (A(1));
    ∷ row (Statement [] (Get None (edited ((Refers (plain (name (66 ∷ []) (at 3 11)))) ∷ []) (FormatThen (at 3 15) 1
    (TextFormat (Some 1)) NoFormat) (at 3 10) ∷ []) (at 3 1)) ∷ []) accepted
    -- GET EDIT (B) (2 (A(1),F(2)));
    ∷ row (Statement [] (Get None (edited ((Refers (plain (name (66 ∷ []) (at 3 11)))) ∷ []) (FormatThen (at 3 15) 2
    (FormatList (FormatThen (at 3 18) 1 (TextFormat (Some 1)) (FormatThen (at 3 23) 1 (FixedFormat 2) NoFormat)))
    NoFormat) (at 3 10) ∷ []) (at 3 1)) ∷ []) (refused 11 K.TypeMismatch)
    -- GET EDIT (K) (F(2));
    ∷ row (Statement [] (Get None (edited ((Refers (plain (name (75 ∷ []) (at 3 11)))) ∷ []) (FormatThen (at 3 15) 1
    (FixedFormat 2) NoFormat) (at 3 10) ∷ []) (at 3 1)) ∷ []) (refused 11 K.TypeMismatch)
    -- GET EDIT (K) (A(2));
    ∷ row (Statement [] (Get None (edited ((Refers (plain (name (75 ∷ []) (at 3 11)))) ∷ []) (FormatThen (at 3 15) 1
    (TextFormat (Some 2)) NoFormat) (at 3 10) ∷ []) (at 3 1)) ∷ []) accepted
    -- GET EDIT (1) (F(5));
    ∷ row (Statement [] (Get None (edited ((Number 1 (at 3 11)) ∷ []) (FormatThen (at 3 15) 1 (FixedFormat 5) NoFormat)
    (at 3 10) ∷ []) (at 3 1)) ∷ []) (refused 11 K.TypeMismatch)
    -- GET EDIT (P) (A(4));
    ∷ row (Statement [] (Get None (edited ((Refers (plain (name (80 ∷ []) (at 3 11)))) ∷ []) (FormatThen (at 3 15) 1
    (TextFormat (Some 4)) NoFormat) (at 3 10) ∷ []) (at 3 1)) ∷ []) (refused 11 K.TypeMismatch)
    -- GET EDIT ((N)) (F(1));
    ∷ row (Statement [] (Get None (edited ((Parenthesized (Refers (plain (name (78 ∷ []) (at 3 12)))) (at 3 11)) ∷ [])
    (FormatThen (at 3 17) 1 (FixedFormat 1) NoFormat) (at 3 10) ∷ []) (at 3 1)) ∷ []) (refused 11 K.TypeMismatch)
    -- GET EDIT ((E)) (F(1));
    ∷ row (Statement [] (Get None (edited ((Parenthesized (Refers (plain (name (69 ∷ []) (at 3 12)))) (at 3 11)) ∷ [])
    (FormatThen (at 3 17) 1 (FixedFormat 1) NoFormat) (at 3 10) ∷ []) (at 3 1)) ∷ []) (refused 11 K.TypeMismatch)
    -- GET EDIT ((L)) (F(1));
    ∷ row (Statement [] (Get None (edited ((Parenthesized (Refers (plain (name (76 ∷ []) (at 3 12)))) (at 3 11)) ∷ [])
    (FormatThen (at 3 17) 1 (FixedFormat 1) NoFormat) (at 3 10) ∷ []) (at 3 1)) ∷ []) (refused 11 K.TypeMismatch)
    -- GET EDIT (L) (F(2));
    ∷ row (Statement [] (Get None (edited ((Refers (plain (name (76 ∷ []) (at 3 11)))) ∷ []) (FormatThen (at 3 15) 1
    (FixedFormat 2) NoFormat) (at 3 10) ∷ []) (at 3 1)) ∷ []) accepted
    -- GET EDIT (G(1),G.J) (F(2));
    ∷ row (Statement [] (Get None (edited ((Refers (Plain (Last (name (71 ∷ []) (at 3 11)) (Listed (exprs ((Number 1 (at
    3 13)) ∷ [])))))) ∷ (Refers (Plain (Of (name (71 ∷ []) (at 3 16)) Absent (Last (name (74 ∷ []) (at 3 18))
    Absent)))) ∷ []) (FormatThen (at 3 22) 1 (FixedFormat 2) NoFormat) (at 3 10) ∷ []) (at 3 1)) ∷ []) accepted
    -- GET EDIT (ABS(N)) (F(1));
    ∷ row (Statement [] (Get None (edited ((Refers (Plain (Last (abs_at (at 3 11)) (Listed (exprs ((Refers (plain (name
    (78 ∷ []) (at 3 15)))) ∷ [])))))) ∷ []) (FormatThen (at 3 20) 1 (FixedFormat 1) NoFormat) (at 3 10) ∷ []) (at 3
    1)) ∷ []) (refused 11 K.TypeMismatch)
    -- GET EDIT (R) (A(2));
    ∷ row (Statement [] (Get None (edited ((Refers (plain (name (82 ∷ []) (at 3 11)))) ∷ []) (FormatThen (at 3 15) 1
    (TextFormat (Some 2)) NoFormat) (at 3 10) ∷ []) (at 3 1)) ∷ []) (refused 11 K.TypeMismatch)
    ∷ []

items_of_get_hold : AsSaid controlled_by items_of_get
unfolding refusal resolved statement statements expression reference qualified arguments expressions means_from blocks_of declared_in declared_in_item declared_in_stmt blocks_in blocks_in_item blocks_in_stmt held chain_after is_before sooner soonest
items_of_get_hold = refl
