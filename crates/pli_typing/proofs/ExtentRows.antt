-- Extents and the names in attributes, and what typing refuses in them, computed on the definition.
use Rattle.std.proofs.Common.{List, [], ◌∷◌, Some, None, refl}
use Rattle.pli_language.specs.declared.expr.InfixOp.TheVariants as I
use Rattle.pli_language.specs.declared.fault.SourceKind.TheVariants as K
use Rattle.pli_language.specs.Tree.{Number, Infix, Refers, Plain, Located, Last, Of, Absent, Listed, Upper, Given, Fixed, Binary, Character, Pointer, Offset, Area, Static, Controlled, Based, Returns, Begin, Return, Item, Declare, Statement, Tree}
use Rattle.pli_language.specs.Refusals.{is_before, sooner, soonest}
use Rattle.pli_language.specs.Declarations.{held, chain_after, declared_in, declared_in_item, declared_in_stmt, blocks_in, blocks_in_item, blocks_in_stmt, blocks_of}
use Rattle.pli_language.specs.Means.{means_from}
use Rattle.pli_typing.specs.References.{expression, reference, qualified, arguments, expressions}
use Rattle.pli_typing.specs.Resolving.{statement, statements, resolved}
use Rattle.pli_typing.proofs.RowTrees.{Row, row, AsSaid, accepted, refused, at, name, dimensioned, declared, kept_extent, procedure, plain, extent, unsubscripted, exprs, items, program, refusal, abs_at, length_at, hbound_at, addr_at, null_at, empty_at}

-- DCL (N,M) FIXED BIN(31), C CHAR(5), (P,Q) PTR, R AREA(64), O OFFSET(R), W OFFSET, L(3) PTR, 1 S, 2 X PTR, 1 K, 2 X
-- PTR, D FIXED BIN(31) BASED(P); F: PROC(A) RETURNS(FIXED BIN(31)); DCL A FIXED BIN(31); RETURN(A); END;
abbrev declared_inside : List Item → Tree
declared_inside rest =
    program
    (
    Declare (declared None (unsubscripted (name (78 ∷ []) (at 2 6)) ∷ unsubscripted (name (77 ∷ []) (at 2 8)) ∷ [])
    [] (Fixed None ∷ Binary (Some 31) ∷ [])
    ∷ declared None (unsubscripted (name (67 ∷ []) (at 2 26)) ∷ []) [] (Character (Some (Given (extent (Number 5 (at
    2 33))))) ∷ [])
    ∷ declared None (unsubscripted (name (80 ∷ []) (at 2 38)) ∷ unsubscripted (name (81 ∷ []) (at 2 40)) ∷ []) []
    (Pointer ∷ [])
    ∷ declared None (unsubscripted (name (82 ∷ []) (at 2 48)) ∷ []) [] (Area (Some (Given (extent (Number 64 (at 2
    55))))) ∷ [])
    ∷ declared None (unsubscripted (name (79 ∷ []) (at 2 60)) ∷ []) [] (Offset (Some (name (82 ∷ []) (at 2 69))) ∷ [])
    ∷ declared None (unsubscripted (name (87 ∷ []) (at 2 73)) ∷ []) [] (Offset None ∷ [])
    ∷ declared None (dimensioned (name (76 ∷ []) (at 2 83)) (Upper (extent (Number 3 (at 2 85))) ∷ []) ∷ []) []
    (Pointer ∷ [])
    ∷ declared (Some 1) (unsubscripted (name (83 ∷ []) (at 2 95)) ∷ []) [] []
    ∷ declared (Some 2) (unsubscripted (name (88 ∷ []) (at 2 100)) ∷ []) [] (Pointer ∷ [])
    ∷ declared (Some 1) (unsubscripted (name (75 ∷ []) (at 2 109)) ∷ []) [] []
    ∷ declared (Some 2) (unsubscripted (name (88 ∷ []) (at 2 114)) ∷ []) [] (Pointer ∷ [])
    ∷ declared None (unsubscripted (name (68 ∷ []) (at 2 121)) ∷ []) [] (Fixed None ∷ Binary (Some 31) ∷ Based (Some
    (name (80 ∷ []) (at 2 143))) ∷ []) ∷ []) (at 2 1) ∷
    procedure ((name (70 ∷ []) (at 2 147)) ∷ []) (at 2 150) ((name (65 ∷ []) (at 2 155)) ∷ []) (Returns (Fixed None ∷
    Binary (Some 31) ∷ []) ∷ []) (Declare (declared None (unsubscripted (name (65 ∷ []) (at 2 186)) ∷ []) []
    (Fixed None ∷ Binary (Some 31) ∷ []) ∷ []) (at 2 182) ∷ Statement [] (Return (Some (Refers (plain (name (65 ∷
    []) (at 2 210))))) (at 2 203)) ∷ []) ∷
    [])
    rest

abbrev extents : List Row
extents =
    -- BEGIN; DCL A(N) CHAR(C); END;
    row (Statement [] (Begin (items (Declare (declared None (dimensioned (name (65 ∷ []) (at 3 12)) (Upper (extent
    (Refers (plain (name (78 ∷ []) (at 3 14))))) ∷ []) ∷ []) [] (Character (Some (Given (extent (Refers (plain (name
    (67 ∷ []) (at 3 22))))))) ∷ []) ∷ []) (at 3 8) ∷ [])) (at 3 1)) ∷ []) accepted
    -- BEGIN; DCL A(F(1)) FIXED; END;
    ∷ row (Statement [] (Begin (items (Declare (declared None (dimensioned (name (65 ∷ []) (at 3 12)) (Upper (extent
    (Refers (Plain (Last (name (70 ∷ []) (at 3 14)) (Listed (exprs ((Number 1 (at 3 16)) ∷ []))))))) ∷ []) ∷ []) []
    (Fixed None ∷ []) ∷ []) (at 3 8) ∷ [])) (at 3 1)) ∷ []) (refused 14 K.BadExtent)
    -- BEGIN; DCL I, A(I) FIXED; END;
    ∷ row (Statement [] (Begin (items (Declare (declared None (unsubscripted (name (73 ∷ []) (at 3 12)) ∷ []) [] [] ∷
    declared None (dimensioned (name (65 ∷ []) (at 3 15)) (Upper (extent (Refers (plain (name (73 ∷ []) (at 3 17)))))
    ∷ []) ∷ []) [] (Fixed None ∷ []) ∷ []) (at 3 8) ∷ [])) (at 3 1)) ∷ []) accepted
    -- BEGIN; DCL A(I) FIXED, I; END;
    ∷ row (Statement [] (Begin (items (Declare (declared None (dimensioned (name (65 ∷ []) (at 3 12)) (Upper (extent
    (Refers (plain (name (73 ∷ []) (at 3 14))))) ∷ []) ∷ []) [] (Fixed None ∷ []) ∷ declared None (unsubscripted
    (name (73 ∷ []) (at 3 24)) ∷ []) [] [] ∷ []) (at 3 8) ∷ [])) (at 3 1)) ∷ []) (refused 14 K.BadExtent)
    -- BEGIN; DCL A CHAR(A); END;
    ∷ row (Statement [] (Begin (items (Declare (declared None (unsubscripted (name (65 ∷ []) (at 3 12)) ∷ []) []
    (Character (Some (Given (extent (Refers (plain (name (65 ∷ []) (at 3 19))))))) ∷ []) ∷ []) (at 3 8) ∷ [])) (at 3
    1)) ∷ []) (refused 19 K.BadExtent)
    -- BEGIN; DCL A(P) FIXED; END;
    ∷ row (Statement [] (Begin (items (Declare (declared None (dimensioned (name (65 ∷ []) (at 3 12)) (Upper (extent
    (Refers (plain (name (80 ∷ []) (at 3 14))))) ∷ []) ∷ []) [] (Fixed None ∷ []) ∷ []) (at 3 8) ∷ [])) (at 3 1)) ∷
    []) (refused 14 K.TypeMismatch)
    -- BEGIN; DCL A(E) FIXED; END;
    ∷ row (Statement [] (Begin (items (Declare (declared None (dimensioned (name (65 ∷ []) (at 3 12)) (Upper (extent
    (Refers (plain (name (69 ∷ []) (at 3 14))))) ∷ []) ∷ []) [] (Fixed None ∷ []) ∷ []) (at 3 8) ∷ [])) (at 3 1)) ∷
    []) (refused 14 K.Undeclared)
    -- BEGIN; DCL A(I) FIXED, I STATIC; END;
    ∷ row (Statement [] (Begin (items (Declare (declared None (dimensioned (name (65 ∷ []) (at 3 12)) (Upper (extent
    (Refers (plain (name (73 ∷ []) (at 3 14))))) ∷ []) ∷ []) [] (Fixed None ∷ []) ∷ declared None (unsubscripted
    (name (73 ∷ []) (at 3 24)) ∷ []) [] (Static ∷ []) ∷ []) (at 3 8) ∷ [])) (at 3 1)) ∷ []) accepted
    -- BEGIN; DCL A(HBOUND(L,1)) FIXED; END;
    ∷ row (Statement [] (Begin (items (Declare (declared None (dimensioned (name (65 ∷ []) (at 3 12)) (Upper (extent
    (Refers (Plain (Last (hbound_at (at 3 14)) (Listed (exprs ((Refers (plain (name (76 ∷ []) (at 3 21)))) ∷ (Number
    1 (at 3 23)) ∷ []))))))) ∷ []) ∷ []) [] (Fixed None ∷ []) ∷ []) (at 3 8) ∷ [])) (at 3 1)) ∷ []) accepted
    -- BEGIN; DCL A(1 + I) FIXED CTL, I; END;
    ∷ row (Statement [] (Begin (items (Declare (declared None (dimensioned (name (65 ∷ []) (at 3 12)) (Upper (extent
    (Infix I.Add (Number 1 (at 3 14)) (Refers (plain (name (73 ∷ []) (at 3 18)))))) ∷ []) ∷ []) [] (Fixed None ∷
    Controlled ∷ []) ∷ declared None (unsubscripted (name (73 ∷ []) (at 3 32)) ∷ []) [] [] ∷ []) (at 3 8) ∷ [])) (at
    3 1)) ∷ []) (refused 14 K.BadExtent)
    -- BEGIN; DCL A(I) FIXED, Q PTR, I BASED(Q); END;
    ∷ row (Statement [] (Begin (items (Declare (declared None (dimensioned (name (65 ∷ []) (at 3 12)) (Upper (extent
    (Refers (plain (name (73 ∷ []) (at 3 14))))) ∷ []) ∷ []) [] (Fixed None ∷ []) ∷ declared None (unsubscripted
    (name (81 ∷ []) (at 3 24)) ∷ []) [] (Pointer ∷ []) ∷ declared None (unsubscripted (name (73 ∷ []) (at 3 31)) ∷
    []) [] (Based (Some (name (81 ∷ []) (at 3 39))) ∷ []) ∷ []) (at 3 8) ∷ [])) (at 3 1)) ∷ []) (refused 14
    K.BadExtent)
    -- BEGIN; DCL Q PTR, I BASED(Q), A(I) FIXED; END;
    ∷ row (Statement [] (Begin (items (Declare (declared None (unsubscripted (name (81 ∷ []) (at 3 12)) ∷ []) [] (Pointer
    ∷ []) ∷ declared None (unsubscripted (name (73 ∷ []) (at 3 19)) ∷ []) [] (Based (Some (name (81 ∷ []) (at 3 27)))
    ∷ []) ∷ declared None (dimensioned (name (65 ∷ []) (at 3 31)) (Upper (extent (Refers (plain (name (73 ∷ []) (at 3
    33))))) ∷ []) ∷ []) [] (Fixed None ∷ []) ∷ []) (at 3 8) ∷ [])) (at 3 1)) ∷ []) accepted
    -- BEGIN; DCL A(F(E)) FIXED; END;
    ∷ row (Statement [] (Begin (items (Declare (declared None (dimensioned (name (65 ∷ []) (at 3 12)) (Upper (extent
    (Refers (Plain (Last (name (70 ∷ []) (at 3 14)) (Listed (exprs ((Refers (plain (name (69 ∷ []) (at 3 16)))) ∷
    []))))))) ∷ []) ∷ []) [] (Fixed None ∷ []) ∷ []) (at 3 8) ∷ [])) (at 3 1)) ∷ []) (refused 14 K.BadExtent)
    -- BEGIN; DCL 1 A, 2 I, 2 J(A.I); END;
    ∷ row (Statement [] (Begin (items (Declare (declared (Some 1) (unsubscripted (name (65 ∷ []) (at 3 14)) ∷ []) [] [] ∷
    declared (Some 2) (unsubscripted (name (73 ∷ []) (at 3 19)) ∷ []) [] [] ∷ declared (Some 2) (dimensioned (name
    (74 ∷ []) (at 3 24)) (Upper (extent (Refers (Plain (Of (name (65 ∷ []) (at 3 26)) Absent (Last (name (73 ∷ [])
    (at 3 28)) Absent))))) ∷ []) ∷ []) [] [] ∷ []) (at 3 8) ∷ [])) (at 3 1)) ∷ []) (refused 26 K.BadExtent)
    -- BEGIN; DCL A(D) FIXED; END;
    ∷ row (Statement [] (Begin (items (Declare (declared None (dimensioned (name (65 ∷ []) (at 3 12)) (Upper (extent
    (Refers (plain (name (68 ∷ []) (at 3 14))))) ∷ []) ∷ []) [] (Fixed None ∷ []) ∷ []) (at 3 8) ∷ [])) (at 3 1)) ∷
    []) accepted
    -- BEGIN; DCL A(P -> D) FIXED, P PTR; END;
    ∷ row (Statement [] (Begin (items (Declare (declared None (dimensioned (name (65 ∷ []) (at 3 12)) (Upper (extent
    (Refers (Located (plain (name (80 ∷ []) (at 3 14))) (Last (name (68 ∷ []) (at 3 19)) Absent)))) ∷ []) ∷ []) []
    (Fixed None ∷ []) ∷ declared None (unsubscripted (name (80 ∷ []) (at 3 29)) ∷ []) [] (Pointer ∷ []) ∷ []) (at 3
    8) ∷ [])) (at 3 1)) ∷ []) (refused 14 K.BadExtent)
    -- BEGIN; DCL A(ABS(0 * I)) FIXED, I; END;
    ∷ row (Statement [] (Begin (items (Declare (declared None (dimensioned (name (65 ∷ []) (at 3 12)) (Upper (extent
    (Refers (Plain (Last (abs_at (at 3 14)) (Listed (exprs ((Infix I.Multiply (Number 0 (at 3 18)) (Refers (plain
    (name (73 ∷ []) (at 3 22))))) ∷ []))))))) ∷ []) ∷ []) [] (Fixed None ∷ []) ∷ declared None (unsubscripted (name
    (73 ∷ []) (at 3 33)) ∷ []) [] [] ∷ []) (at 3 8) ∷ [])) (at 3 1)) ∷ []) (refused 14 K.BadExtent)
    -- BEGIN; DCL 1 A BASED, 2 H, 2 J(I REFER(H)), I; END;
    ∷ row (Statement [] (Begin (items (Declare (declared (Some 1) (unsubscripted (name (65 ∷ []) (at 3 14)) ∷ []) []
    (Based None ∷ []) ∷ declared (Some 2) (unsubscripted (name (72 ∷ []) (at 3 25)) ∷ []) [] [] ∷ declared (Some 2)
    (dimensioned (name (74 ∷ []) (at 3 30)) (Upper (kept_extent (Refers (plain (name (73 ∷ []) (at 3 32)))) (name (72
    ∷ []) (at 3 40)) (at 3 34)) ∷ []) ∷ []) [] [] ∷ declared None (unsubscripted (name (73 ∷ []) (at 3 45)) ∷ []) []
    [] ∷ []) (at 3 8) ∷ [])) (at 3 1)) ∷ []) (refused 32 K.BadExtent)
    -- BEGIN; DCL I, 1 A BASED, 2 H, 2 J(I REFER(H)); END;
    ∷ row (Statement [] (Begin (items (Declare (declared None (unsubscripted (name (73 ∷ []) (at 3 12)) ∷ []) [] [] ∷
    declared (Some 1) (unsubscripted (name (65 ∷ []) (at 3 17)) ∷ []) [] (Based None ∷ []) ∷ declared (Some 2)
    (unsubscripted (name (72 ∷ []) (at 3 28)) ∷ []) [] [] ∷ declared (Some 2) (dimensioned (name (74 ∷ []) (at 3 33))
    (Upper (kept_extent (Refers (plain (name (73 ∷ []) (at 3 35)))) (name (72 ∷ []) (at 3 43)) (at 3 37)) ∷ []) ∷ [])
    [] [] ∷ []) (at 3 8) ∷ [])) (at 3 1)) ∷ []) accepted
    -- BEGIN; DCL A CHAR(ADDR(I) = P), I; END;
    ∷ row (Statement [] (Begin (items (Declare (declared None (unsubscripted (name (65 ∷ []) (at 3 12)) ∷ []) []
    (Character (Some (Given (extent (Infix I.Equal (Refers (Plain (Last (addr_at (at 3 19)) (Listed (exprs ((Refers
    (plain (name (73 ∷ []) (at 3 24)))) ∷ [])))))) (Refers (plain (name (80 ∷ []) (at 3 29)))))))) ∷ []) ∷ declared
    None (unsubscripted (name (73 ∷ []) (at 3 33)) ∷ []) [] [] ∷ []) (at 3 8) ∷ [])) (at 3 1)) ∷ []) (refused 19
    K.BadExtent)
    ∷ []

extents_hold : AsSaid declared_inside extents
unfolding refusal resolved statement statements expression reference qualified arguments expressions means_from blocks_of declared_in declared_in_item declared_in_stmt blocks_in blocks_in_item blocks_in_stmt held chain_after is_before sooner soonest
extents_hold = refl

abbrev areas_in_extents : List Row
areas_in_extents =
    -- BEGIN; DCL A(LENGTH(U)) FIXED, V AREA(64), U CHAR(3) BASED(O), O OFFSET(V); END;
    row (Statement [] (Begin (items (Declare (declared None (dimensioned (name (65 ∷ []) (at 3 12)) (Upper (extent
    (Refers (Plain (Last (length_at (at 3 14)) (Listed (exprs ((Refers (plain (name (85 ∷ []) (at 3 21)))) ∷
    []))))))) ∷ []) ∷ []) [] (Fixed None ∷ []) ∷ declared None (unsubscripted (name (86 ∷ []) (at 3 32)) ∷ []) []
    (Area (Some (Given (extent (Number 64 (at 3 39))))) ∷ []) ∷ declared None (unsubscripted (name (85 ∷ []) (at 3
    44)) ∷ []) [] (Character (Some (Given (extent (Number 3 (at 3 51))))) ∷ Based (Some (name (79 ∷ []) (at 3 60))) ∷
    []) ∷ declared None (unsubscripted (name (79 ∷ []) (at 3 64)) ∷ []) [] (Offset (Some (name (86 ∷ []) (at 3 73)))
    ∷ []) ∷ []) (at 3 8) ∷ [])) (at 3 1)) ∷ []) (refused 14 K.BadExtent)
    -- BEGIN; DCL O OFFSET(V) STATIC, A(LENGTH(P = O)) FIXED, V AREA(64); END;
    ∷ row (Statement [] (Begin (items (Declare (declared None (unsubscripted (name (79 ∷ []) (at 3 12)) ∷ []) [] (Offset
    (Some (name (86 ∷ []) (at 3 21))) ∷ Static ∷ []) ∷ declared None (dimensioned (name (65 ∷ []) (at 3 32)) (Upper
    (extent (Refers (Plain (Last (length_at (at 3 34)) (Listed (exprs ((Infix I.Equal (Refers (plain (name (80 ∷ [])
    (at 3 41)))) (Refers (plain (name (79 ∷ []) (at 3 45))))) ∷ []))))))) ∷ []) ∷ []) [] (Fixed None ∷ []) ∷ declared
    None (unsubscripted (name (86 ∷ []) (at 3 56)) ∷ []) [] (Area (Some (Given (extent (Number 64 (at 3 63))))) ∷ [])
    ∷ []) (at 3 8) ∷ [])) (at 3 1)) ∷ []) (refused 34 K.BadExtent)
    -- BEGIN; DCL O OFFSET(V) STATIC, A(LENGTH(NULL = O)) FIXED, V AREA(64); END;
    ∷ row (Statement [] (Begin (items (Declare (declared None (unsubscripted (name (79 ∷ []) (at 3 12)) ∷ []) [] (Offset
    (Some (name (86 ∷ []) (at 3 21))) ∷ Static ∷ []) ∷ declared None (dimensioned (name (65 ∷ []) (at 3 32)) (Upper
    (extent (Refers (Plain (Last (length_at (at 3 34)) (Listed (exprs ((Infix I.Equal (Refers (plain (null_at (at 3
    41)))) (Refers (plain (name (79 ∷ []) (at 3 48))))) ∷ []))))))) ∷ []) ∷ []) [] (Fixed None ∷ []) ∷ declared None
    (unsubscripted (name (86 ∷ []) (at 3 59)) ∷ []) [] (Area (Some (Given (extent (Number 64 (at 3 66))))) ∷ []) ∷
    []) (at 3 8) ∷ [])) (at 3 1)) ∷ []) accepted
    ∷ []

areas_in_extents_hold : AsSaid declared_inside areas_in_extents
unfolding refusal resolved statement statements expression reference qualified arguments expressions means_from blocks_of declared_in declared_in_item declared_in_stmt blocks_in blocks_in_item blocks_in_stmt held chain_after is_before sooner soonest
areas_in_extents_hold = refl

abbrev names_in_attributes : List Row
names_in_attributes =
    -- BEGIN; DCL A FIXED BASED(O); END;
    row (Statement [] (Begin (items (Declare (declared None (unsubscripted (name (65 ∷ []) (at 3 12)) ∷ []) [] (Fixed
    None ∷ Based (Some (name (79 ∷ []) (at 3 26))) ∷ []) ∷ []) (at 3 8) ∷ [])) (at 3 1)) ∷ []) accepted
    -- BEGIN; DCL A FIXED BASED(N); END;
    ∷ row (Statement [] (Begin (items (Declare (declared None (unsubscripted (name (65 ∷ []) (at 3 12)) ∷ []) [] (Fixed
    None ∷ Based (Some (name (78 ∷ []) (at 3 26))) ∷ []) ∷ []) (at 3 8) ∷ [])) (at 3 1)) ∷ []) (refused 26
    K.TypeMismatch)
    -- BEGIN; DCL A FIXED BASED(E); END;
    ∷ row (Statement [] (Begin (items (Declare (declared None (unsubscripted (name (65 ∷ []) (at 3 12)) ∷ []) [] (Fixed
    None ∷ Based (Some (name (69 ∷ []) (at 3 26))) ∷ []) ∷ []) (at 3 8) ∷ [])) (at 3 1)) ∷ []) (refused 26
    K.Undeclared)
    -- BEGIN; DCL A FIXED BASED(NULL); END;
    ∷ row (Statement [] (Begin (items (Declare (declared None (unsubscripted (name (65 ∷ []) (at 3 12)) ∷ []) [] (Fixed
    None ∷ Based (Some (null_at (at 3 26))) ∷ []) ∷ []) (at 3 8) ∷ [])) (at 3 1)) ∷ []) (refused 26 K.TypeMismatch)
    -- BEGIN; DCL A FIXED BASED(L); END;
    ∷ row (Statement [] (Begin (items (Declare (declared None (unsubscripted (name (65 ∷ []) (at 3 12)) ∷ []) [] (Fixed
    None ∷ Based (Some (name (76 ∷ []) (at 3 26))) ∷ []) ∷ []) (at 3 8) ∷ [])) (at 3 1)) ∷ []) (refused 26
    K.TypeMismatch)
    -- BEGIN; DCL A FIXED BASED(W); END;
    ∷ row (Statement [] (Begin (items (Declare (declared None (unsubscripted (name (65 ∷ []) (at 3 12)) ∷ []) [] (Fixed
    None ∷ Based (Some (name (87 ∷ []) (at 3 26))) ∷ []) ∷ []) (at 3 8) ∷ [])) (at 3 1)) ∷ []) (refused 26
    K.TypeMismatch)
    -- BEGIN; DCL A FIXED BASED(X); END;
    ∷ row (Statement [] (Begin (items (Declare (declared None (unsubscripted (name (65 ∷ []) (at 3 12)) ∷ []) [] (Fixed
    None ∷ Based (Some (name (88 ∷ []) (at 3 26))) ∷ []) ∷ []) (at 3 8) ∷ [])) (at 3 1)) ∷ []) (refused 26
    K.Ambiguous)
    -- BEGIN; DCL G PTR BASED(P), A FIXED BASED(G); END;
    ∷ row (Statement [] (Begin (items (Declare (declared None (unsubscripted (name (71 ∷ []) (at 3 12)) ∷ []) [] (Pointer
    ∷ Based (Some (name (80 ∷ []) (at 3 24))) ∷ []) ∷ declared None (unsubscripted (name (65 ∷ []) (at 3 28)) ∷ [])
    [] (Fixed None ∷ Based (Some (name (71 ∷ []) (at 3 42))) ∷ []) ∷ []) (at 3 8) ∷ [])) (at 3 1)) ∷ []) (refused 42
    K.TypeMismatch)
    -- BEGIN; DCL A OFFSET(R); END;
    ∷ row (Statement [] (Begin (items (Declare (declared None (unsubscripted (name (65 ∷ []) (at 3 12)) ∷ []) [] (Offset
    (Some (name (82 ∷ []) (at 3 21))) ∷ []) ∷ []) (at 3 8) ∷ [])) (at 3 1)) ∷ []) accepted
    -- BEGIN; DCL A OFFSET(N); END;
    ∷ row (Statement [] (Begin (items (Declare (declared None (unsubscripted (name (65 ∷ []) (at 3 12)) ∷ []) [] (Offset
    (Some (name (78 ∷ []) (at 3 21))) ∷ []) ∷ []) (at 3 8) ∷ [])) (at 3 1)) ∷ []) (refused 21 K.TypeMismatch)
    -- BEGIN; DCL A OFFSET(E); END;
    ∷ row (Statement [] (Begin (items (Declare (declared None (unsubscripted (name (65 ∷ []) (at 3 12)) ∷ []) [] (Offset
    (Some (name (69 ∷ []) (at 3 21))) ∷ []) ∷ []) (at 3 8) ∷ [])) (at 3 1)) ∷ []) (refused 21 K.Undeclared)
    -- BEGIN; DCL A OFFSET(EMPTY); END;
    ∷ row (Statement [] (Begin (items (Declare (declared None (unsubscripted (name (65 ∷ []) (at 3 12)) ∷ []) [] (Offset
    (Some (empty_at (at 3 21))) ∷ []) ∷ []) (at 3 8) ∷ [])) (at 3 1)) ∷ []) (refused 21 K.TypeMismatch)
    -- G: PROC RETURNS(OFFSET(E)); END;
    ∷ row (procedure ((name (71 ∷ []) (at 3 1)) ∷ []) (at 3 4) [] (Returns (Offset (Some (name (69 ∷ []) (at 3 24))) ∷
    []) ∷ []) [] ∷ []) (refused 24 K.Undeclared)
    -- G: PROC RETURNS(OFFSET(I)); DCL I AREA(64); RETURN(NULL); END;
    ∷ row (procedure ((name (71 ∷ []) (at 3 1)) ∷ []) (at 3 4) [] (Returns (Offset (Some (name (73 ∷ []) (at 3 24))) ∷
    []) ∷ []) (Declare (declared None (unsubscripted (name (73 ∷ []) (at 3 33)) ∷ []) [] (Area (Some (Given (extent
    (Number 64 (at 3 40))))) ∷ []) ∷ []) (at 3 29) ∷ Statement [] (Return (Some (Refers (plain (null_at (at 3 52)))))
    (at 3 45)) ∷ []) ∷ []) (refused 24 K.Undeclared)
    -- G: PROC RETURNS(OFFSET(R)); RETURN(P); END;
    ∷ row (procedure ((name (71 ∷ []) (at 3 1)) ∷ []) (at 3 4) [] (Returns (Offset (Some (name (82 ∷ []) (at 3 24))) ∷
    []) ∷ []) (Statement [] (Return (Some (Refers (plain (name (80 ∷ []) (at 3 36))))) (at 3 29)) ∷ []) ∷ []) accepted
    ∷ []

names_in_attributes_hold : AsSaid declared_inside names_in_attributes
unfolding refusal resolved statement statements expression reference qualified arguments expressions means_from blocks_of declared_in declared_in_item declared_in_stmt blocks_in blocks_in_item blocks_in_stmt held chain_after is_before sooner soonest
names_in_attributes_hold = refl
