-- Assignments, and what typing refuses in them, computed on the definition.
use Rattle.std.proofs.Common.{List, [], ◌∷◌, Some, None, refl}
use Rattle.pli_language.specs.declared.expr.PrefixOp.TheVariants as P
use Rattle.pli_language.specs.declared.expr.InfixOp.TheVariants as I
use Rattle.pli_language.specs.declared.fault.SourceKind.TheVariants as K
use Rattle.pli_language.specs.Tree.{Number, Text, Parenthesized, Prefix, Infix, Refers, Plain, Located, Last, Of, Absent, Listed, Upper, Given, Fixed, Binary, Character, Varying, BitOne, Pointer, Offset, Area, Assign, Item, Declare, Statement, Tree}
use Rattle.pli_language.specs.Refusals.{is_before, sooner, soonest}
use Rattle.pli_language.specs.Declarations.{held, chain_after, declared_in, declared_in_item, declared_in_stmt, blocks_in, blocks_in_item, blocks_in_stmt, blocks_of}
use Rattle.pli_language.specs.Means.{means_from}
use Rattle.pli_typing.specs.References.{expression, reference, qualified, arguments, expressions}
use Rattle.pli_typing.specs.Resolving.{statement, statements, resolved}
use Rattle.pli_typing.proofs.RowTrees.{Row, row, AsSaid, accepted, refused, at, name, dimensioned, declared, plain, extent, unsubscripted, exprs, program, refusal, abs_at, null_at, empty_at}

-- DCL (N,M) FIXED BIN(31), H FIXED BIN(15), C CHAR(5), V CHAR(8) VAR, B BIT(1), (P,Q) PTR, R AREA(64), O OFFSET(R), W
-- OFFSET, L(3) FIXED BIN(31), 1 S, 2 X FIXED BIN(31), 2 Y(2) CHAR(3), 1 K(2), 2 X FIXED BIN(31), 2 Z(3,4) FIXED BIN(15);
abbrev assigned : List Item → Tree
assigned rest =
    program
    (
    Declare (declared None (unsubscripted (name (78 ∷ []) (at 2 6)) ∷ unsubscripted (name (77 ∷ []) (at 2 8)) ∷ [])
    [] (Fixed None ∷ Binary (Some 31) ∷ [])
    ∷ declared None (unsubscripted (name (72 ∷ []) (at 2 26)) ∷ []) [] (Fixed None ∷ Binary (Some 15) ∷ [])
    ∷ declared None (unsubscripted (name (67 ∷ []) (at 2 43)) ∷ []) [] (Character (Some (Given (extent (Number 5 (at
    2 50))))) ∷ [])
    ∷ declared None (unsubscripted (name (86 ∷ []) (at 2 54)) ∷ []) [] (Character (Some (Given (extent (Number 8 (at
    2 61))))) ∷ Varying ∷ [])
    ∷ declared None (unsubscripted (name (66 ∷ []) (at 2 69)) ∷ []) [] (BitOne ∷ [])
    ∷ declared None (unsubscripted (name (80 ∷ []) (at 2 80)) ∷ unsubscripted (name (81 ∷ []) (at 2 82)) ∷ []) []
    (Pointer ∷ [])
    ∷ declared None (unsubscripted (name (82 ∷ []) (at 2 90)) ∷ []) [] (Area (Some (Given (extent (Number 64 (at 2
    97))))) ∷ [])
    ∷ declared None (unsubscripted (name (79 ∷ []) (at 2 102)) ∷ []) [] (Offset (Some (name (82 ∷ []) (at 2 111))) ∷
    [])
    ∷ declared None (unsubscripted (name (87 ∷ []) (at 2 115)) ∷ []) [] (Offset None ∷ [])
    ∷ declared None (dimensioned (name (76 ∷ []) (at 2 125)) (Upper (extent (Number 3 (at 2 127))) ∷ []) ∷ []) []
    (Fixed None ∷ Binary (Some 31) ∷ [])
    ∷ declared (Some 1) (unsubscripted (name (83 ∷ []) (at 2 147)) ∷ []) [] []
    ∷ declared (Some 2) (unsubscripted (name (88 ∷ []) (at 2 152)) ∷ []) [] (Fixed None ∷ Binary (Some 31) ∷ [])
    ∷ declared (Some 2) (dimensioned (name (89 ∷ []) (at 2 171)) (Upper (extent (Number 2 (at 2 173))) ∷ []) ∷ []) []
    (Character (Some (Given (extent (Number 3 (at 2 181))))) ∷ [])
    ∷ declared (Some 1) (dimensioned (name (75 ∷ []) (at 2 187)) (Upper (extent (Number 2 (at 2 189))) ∷ []) ∷ []) []
    []
    ∷ declared (Some 2) (unsubscripted (name (88 ∷ []) (at 2 195)) ∷ []) [] (Fixed None ∷ Binary (Some 31) ∷ [])
    ∷ declared (Some 2) (dimensioned (name (90 ∷ []) (at 2 214)) (Upper (extent (Number 3 (at 2 216))) ∷ Upper
    (extent (Number 4 (at 2 218))) ∷ []) ∷ []) [] (Fixed None ∷ Binary (Some 15) ∷ []) ∷ []) (at 2 1) ∷
    [])
    rest

abbrev assigned_scalars : List Row
assigned_scalars =
    -- N = P;
    row (Statement [] (Assign (plain (name (78 ∷ []) (at 3 1))) (Refers (plain (name (80 ∷ []) (at 3 5)))) (at 3 1)) ∷
    []) (refused 5 K.TypeMismatch)
    -- N = L;
    ∷ row (Statement [] (Assign (plain (name (78 ∷ []) (at 3 1))) (Refers (plain (name (76 ∷ []) (at 3 5)))) (at 3 1)) ∷
    []) (refused 5 K.TypeMismatch)
    -- P = N;
    ∷ row (Statement [] (Assign (plain (name (80 ∷ []) (at 3 1))) (Refers (plain (name (78 ∷ []) (at 3 5)))) (at 3 1)) ∷
    []) (refused 5 K.TypeMismatch)
    -- B = N;
    ∷ row (Statement [] (Assign (plain (name (66 ∷ []) (at 3 1))) (Refers (plain (name (78 ∷ []) (at 3 5)))) (at 3 1)) ∷
    []) (refused 5 K.TypeMismatch)
    -- B = C;
    ∷ row (Statement [] (Assign (plain (name (66 ∷ []) (at 3 1))) (Refers (plain (name (67 ∷ []) (at 3 5)))) (at 3 1)) ∷
    []) accepted
    -- C = N;
    ∷ row (Statement [] (Assign (plain (name (67 ∷ []) (at 3 1))) (Refers (plain (name (78 ∷ []) (at 3 5)))) (at 3 1)) ∷
    []) accepted
    -- H = V;
    ∷ row (Statement [] (Assign (plain (name (72 ∷ []) (at 3 1))) (Refers (plain (name (86 ∷ []) (at 3 5)))) (at 3 1)) ∷
    []) accepted
    -- O = P;
    ∷ row (Statement [] (Assign (plain (name (79 ∷ []) (at 3 1))) (Refers (plain (name (80 ∷ []) (at 3 5)))) (at 3 1)) ∷
    []) accepted
    -- W = P;
    ∷ row (Statement [] (Assign (plain (name (87 ∷ []) (at 3 1))) (Refers (plain (name (80 ∷ []) (at 3 5)))) (at 3 1)) ∷
    []) (refused 5 K.TypeMismatch)
    -- P = W;
    ∷ row (Statement [] (Assign (plain (name (80 ∷ []) (at 3 1))) (Refers (plain (name (87 ∷ []) (at 3 5)))) (at 3 1)) ∷
    []) (refused 5 K.TypeMismatch)
    -- P = O;
    ∷ row (Statement [] (Assign (plain (name (80 ∷ []) (at 3 1))) (Refers (plain (name (79 ∷ []) (at 3 5)))) (at 3 1)) ∷
    []) accepted
    -- W = O;
    ∷ row (Statement [] (Assign (plain (name (87 ∷ []) (at 3 1))) (Refers (plain (name (79 ∷ []) (at 3 5)))) (at 3 1)) ∷
    []) accepted
    -- W = NULL;
    ∷ row (Statement [] (Assign (plain (name (87 ∷ []) (at 3 1))) (Refers (plain (null_at (at 3 5)))) (at 3 1)) ∷ [])
    accepted
    -- ABS(N) = 1;
    ∷ row (Statement [] (Assign (Plain (Last (abs_at (at 3 1)) (Listed (exprs ((Refers (plain (name (78 ∷ []) (at 3 5))))
    ∷ []))))) (Number 1 (at 3 10)) (at 3 1)) ∷ []) (refused 1 K.TypeMismatch)
    -- P -> N = 1;
    ∷ row (Statement [] (Assign (Located (plain (name (80 ∷ []) (at 3 1))) (Last (name (78 ∷ []) (at 3 6)) Absent))
    (Number 1 (at 3 10)) (at 3 1)) ∷ []) (refused 6 K.TypeMismatch)
    -- NULL = P;
    ∷ row (Statement [] (Assign (plain (null_at (at 3 1))) (Refers (plain (name (80 ∷ []) (at 3 8)))) (at 3 1)) ∷ [])
    (refused 1 K.TypeMismatch)
    ∷ []

assigned_scalars_hold : AsSaid assigned assigned_scalars
unfolding refusal resolved statement statements expression reference qualified arguments expressions means_from blocks_of declared_in declared_in_item declared_in_stmt blocks_in blocks_in_item blocks_in_stmt held chain_after is_before sooner soonest
assigned_scalars_hold = refl

abbrev assigned_areas : List Row
assigned_areas =
    -- R = R;
    row (Statement [] (Assign (plain (name (82 ∷ []) (at 3 1))) (Refers (plain (name (82 ∷ []) (at 3 5)))) (at 3 1)) ∷
    []) accepted
    -- R = EMPTY();
    ∷ row (Statement [] (Assign (plain (name (82 ∷ []) (at 3 1))) (Refers (Plain (Last (empty_at (at 3 5)) (Listed (exprs
    []))))) (at 3 1)) ∷ []) accepted
    -- R = EMPTY;
    ∷ row (Statement [] (Assign (plain (name (82 ∷ []) (at 3 1))) (Refers (plain (empty_at (at 3 5)))) (at 3 1)) ∷ [])
    accepted
    -- R = N;
    ∷ row (Statement [] (Assign (plain (name (82 ∷ []) (at 3 1))) (Refers (plain (name (78 ∷ []) (at 3 5)))) (at 3 1)) ∷
    []) (refused 5 K.TypeMismatch)
    -- R = (R);
    ∷ row (Statement [] (Assign (plain (name (82 ∷ []) (at 3 1))) (Parenthesized (Refers (plain (name (82 ∷ []) (at 3
    6)))) (at 3 5)) (at 3 1)) ∷ []) (refused 6 K.TypeMismatch)
    -- R = NULL;
    ∷ row (Statement [] (Assign (plain (name (82 ∷ []) (at 3 1))) (Refers (plain (null_at (at 3 5)))) (at 3 1)) ∷ [])
    (refused 5 K.TypeMismatch)
    -- L = R;
    ∷ row (Statement [] (Assign (plain (name (76 ∷ []) (at 3 1))) (Refers (plain (name (82 ∷ []) (at 3 5)))) (at 3 1)) ∷
    []) (refused 5 K.TypeMismatch)
    ∷ []

assigned_areas_hold : AsSaid assigned assigned_areas
unfolding refusal resolved statement statements expression reference qualified arguments expressions means_from blocks_of declared_in declared_in_item declared_in_stmt blocks_in blocks_in_item blocks_in_stmt held chain_after is_before sooner soonest
assigned_areas_hold = refl

abbrev assigned_aggregates : List Row
assigned_aggregates =
    -- L = 0;
    row (Statement [] (Assign (plain (name (76 ∷ []) (at 3 1))) (Number 0 (at 3 5)) (at 3 1)) ∷ []) accepted
    -- L = P;
    ∷ row (Statement [] (Assign (plain (name (76 ∷ []) (at 3 1))) (Refers (plain (name (80 ∷ []) (at 3 5)))) (at 3 1)) ∷
    []) (refused 5 K.TypeMismatch)
    -- L = C;
    ∷ row (Statement [] (Assign (plain (name (76 ∷ []) (at 3 1))) (Refers (plain (name (67 ∷ []) (at 3 5)))) (at 3 1)) ∷
    []) accepted
    -- S = 1;
    ∷ row (Statement [] (Assign (plain (name (83 ∷ []) (at 3 1))) (Number 1 (at 3 5)) (at 3 1)) ∷ []) (refused 5
    K.TypeMismatch)
    -- S = K;
    ∷ row (Statement [] (Assign (plain (name (83 ∷ []) (at 3 1))) (Refers (plain (name (75 ∷ []) (at 3 5)))) (at 3 1)) ∷
    []) (refused 1 K.TypeMismatch)
    -- S = S;
    ∷ row (Statement [] (Assign (plain (name (83 ∷ []) (at 3 1))) (Refers (plain (name (83 ∷ []) (at 3 5)))) (at 3 1)) ∷
    []) accepted
    -- K = 0;
    ∷ row (Statement [] (Assign (plain (name (75 ∷ []) (at 3 1))) (Number 0 (at 3 5)) (at 3 1)) ∷ []) (refused 5
    K.TypeMismatch)
    -- L = K;
    ∷ row (Statement [] (Assign (plain (name (76 ∷ []) (at 3 1))) (Refers (plain (name (75 ∷ []) (at 3 5)))) (at 3 1)) ∷
    []) (refused 1 K.TypeMismatch)
    -- K(1) = K(2);
    ∷ row (Statement [] (Assign (Plain (Last (name (75 ∷ []) (at 3 1)) (Listed (exprs ((Number 1 (at 3 3)) ∷ [])))))
    (Refers (Plain (Last (name (75 ∷ []) (at 3 8)) (Listed (exprs ((Number 2 (at 3 10)) ∷ [])))))) (at 3 1)) ∷ [])
    accepted
    -- L = K.Z;
    ∷ row (Statement [] (Assign (plain (name (76 ∷ []) (at 3 1))) (Refers (Plain (Of (name (75 ∷ []) (at 3 5)) Absent
    (Last (name (90 ∷ []) (at 3 7)) Absent)))) (at 3 1)) ∷ []) (refused 1 K.TypeMismatch)
    -- L = EMPTY;
    ∷ row (Statement [] (Assign (plain (name (76 ∷ []) (at 3 1))) (Refers (plain (empty_at (at 3 5)))) (at 3 1)) ∷ [])
    (refused 5 K.TypeMismatch)
    -- L = S.Y;
    ∷ row (Statement [] (Assign (plain (name (76 ∷ []) (at 3 1))) (Refers (Plain (Of (name (83 ∷ []) (at 3 5)) Absent
    (Last (name (89 ∷ []) (at 3 7)) Absent)))) (at 3 1)) ∷ []) (refused 1 K.TypeMismatch)
    -- S.Y = 'A';
    ∷ row (Statement [] (Assign (Plain (Of (name (83 ∷ []) (at 3 1)) Absent (Last (name (89 ∷ []) (at 3 3)) Absent)))
    (Text (65 ∷ []) (at 3 7)) (at 3 1)) ∷ []) accepted
    ∷ []

assigned_aggregates_hold : AsSaid assigned assigned_aggregates
unfolding refusal resolved statement statements expression reference qualified arguments expressions means_from blocks_of declared_in declared_in_item declared_in_stmt blocks_in blocks_in_item blocks_in_stmt held chain_after is_before sooner soonest
assigned_aggregates_hold = refl

abbrev kinds_known_all_the_same : List Row
kinds_known_all_the_same =
    -- P = ABS(N,N);
    row (Statement [] (Assign (plain (name (80 ∷ []) (at 3 1))) (Refers (Plain (Last (abs_at (at 3 5)) (Listed (exprs
    ((Refers (plain (name (78 ∷ []) (at 3 9)))) ∷ (Refers (plain (name (78 ∷ []) (at 3 11)))) ∷ [])))))) (at 3 1)) ∷
    []) (refused 5 K.TypeMismatch)
    -- P = -P;
    ∷ row (Statement [] (Assign (plain (name (80 ∷ []) (at 3 1))) (Prefix P.Minus (Refers (plain (name (80 ∷ []) (at 3
    6)))) (at 3 5)) (at 3 1)) ∷ []) (refused 5 K.TypeMismatch)
    -- L() = 'A';
    ∷ row (Statement [] (Assign (Plain (Last (name (76 ∷ []) (at 3 1)) (Listed (exprs [])))) (Text (65 ∷ []) (at 3 7))
    (at 3 1)) ∷ []) (refused 1 K.BadArguments)
    -- P = L(1,1);
    ∷ row (Statement [] (Assign (plain (name (80 ∷ []) (at 3 1))) (Refers (Plain (Last (name (76 ∷ []) (at 3 5)) (Listed
    (exprs ((Number 1 (at 3 7)) ∷ (Number 1 (at 3 9)) ∷ [])))))) (at 3 1)) ∷ []) (refused 5 K.TypeMismatch)
    -- B = (1 + P) < Q;
    ∷ row (Statement [] (Assign (plain (name (66 ∷ []) (at 3 1))) (Infix I.Less (Parenthesized (Infix I.Add (Number 1 (at
    3 6)) (Refers (plain (name (80 ∷ []) (at 3 10))))) (at 3 5)) (Refers (plain (name (81 ∷ []) (at 3 15))))) (at 3
    1)) ∷ []) (refused 10 K.TypeMismatch)
    ∷ []

kinds_known_all_the_same_hold : AsSaid assigned kinds_known_all_the_same
unfolding refusal resolved statement statements expression reference qualified arguments expressions means_from blocks_of declared_in declared_in_item declared_in_stmt blocks_in blocks_in_item blocks_in_stmt held chain_after is_before sooner soonest
kinds_known_all_the_same_hold = refl
