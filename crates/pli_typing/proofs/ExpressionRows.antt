-- References and expressions, and what typing refuses in them, computed on the definition.
use Rattle.std.proofs.Common.{List, [], ◌∷◌, Some, None, refl}
use Rattle.pli_language.specs.declared.expr.PrefixOp.TheVariants as P
use Rattle.pli_language.specs.declared.expr.InfixOp.TheVariants as I
use Rattle.pli_language.specs.declared.fault.SourceKind.TheVariants as K
use Rattle.pli_language.specs.Tree as T
use Rattle.pli_language.specs.Tree.{Number, Parenthesized, Prefix, Infix, Refers, Plain, Located, Last, Of, Absent, Listed, Upper, Given, Fixed, Binary, Character, Varying, BitOne, Pointer, Offset, Area, Assign, If, IfElse, DoWhile, Call, Item, Declare, Statement, Tree}
use Rattle.pli_language.specs.Refusals.{is_before, sooner, soonest}
use Rattle.pli_language.specs.Declarations.{held, chain_after, declared_in, declared_in_item, declared_in_stmt, blocks_in, blocks_in_item, blocks_in_stmt, blocks_of}
use Rattle.pli_language.specs.Means.{means_from}
use Rattle.pli_typing.specs.References.{expression, reference, qualified, arguments, expressions}
use Rattle.pli_typing.specs.Resolving.{statement, statements, resolved}
use Rattle.pli_typing.proofs.RowTrees.{Row, row, AsSaid, accepted, refused, at, name, dimensioned, declared, plain, extent, unsubscripted, exprs, items, program, refusal, abs_at, null_at, empty_at}

-- DCL (N,M) FIXED BIN(31), H FIXED BIN(15), C CHAR(5), V CHAR(8) VAR, B BIT(1), (P,Q) PTR, R AREA(64), O OFFSET(R), W
-- OFFSET, L(3) FIXED BIN(31), 1 S, 2 X FIXED BIN(31), 2 Y(2) CHAR(3), 1 K(2), 2 X FIXED BIN(31), 2 Z(3,4) FIXED BIN(15);
abbrev simple : List Item → Tree
simple rest =
    program
    (
    Declare (declared None (unsubscripted (name (78 ∷ []) (at 2 6)) ∷ unsubscripted (name (77 ∷ []) (at 2 8)) ∷ [])
    [] (Fixed None ∷ Binary (Some 31) ∷ [])
    ∷ declared None (unsubscripted (name (72 ∷ []) (at 2 26)) ∷ []) [] (Fixed None ∷ Binary (Some 15) ∷ [])
    ∷ declared None (unsubscripted (name (67 ∷ []) (at 2 43)) ∷ []) [] (Character (Some (Given (extent (Number 5 (at
    2 50))))) ∷ [])
    ∷ declared None (unsubscripted (name (86 ∷ []) (at 2 54)) ∷ []) [] (Character (Some (Given (extent (Number 8 (at
    2 61))))) ∷ Varying ∷ [])
    ∷ declared None (unsubscripted (name (66 ∷ []) (at 2 69)) ∷ []) [] (BitOne ∷ [])
    ∷ declared None (unsubscripted (name (80 ∷ []) (at 2 80)) ∷ unsubscripted (name (81 ∷ []) (at 2 82)) ∷ []) []
    (Pointer ∷ [])
    ∷ declared None (unsubscripted (name (82 ∷ []) (at 2 90)) ∷ []) [] (Area (Some (Given (extent (Number 64 (at 2
    97))))) ∷ [])
    ∷ declared None (unsubscripted (name (79 ∷ []) (at 2 102)) ∷ []) [] (Offset (Some (name (82 ∷ []) (at 2 111))) ∷
    [])
    ∷ declared None (unsubscripted (name (87 ∷ []) (at 2 115)) ∷ []) [] (Offset None ∷ [])
    ∷ declared None (dimensioned (name (76 ∷ []) (at 2 125)) (Upper (extent (Number 3 (at 2 127))) ∷ []) ∷ []) []
    (Fixed None ∷ Binary (Some 31) ∷ [])
    ∷ declared (Some 1) (unsubscripted (name (83 ∷ []) (at 2 147)) ∷ []) [] []
    ∷ declared (Some 2) (unsubscripted (name (88 ∷ []) (at 2 152)) ∷ []) [] (Fixed None ∷ Binary (Some 31) ∷ [])
    ∷ declared (Some 2) (dimensioned (name (89 ∷ []) (at 2 171)) (Upper (extent (Number 2 (at 2 173))) ∷ []) ∷ []) []
    (Character (Some (Given (extent (Number 3 (at 2 181))))) ∷ [])
    ∷ declared (Some 1) (dimensioned (name (75 ∷ []) (at 2 187)) (Upper (extent (Number 2 (at 2 189))) ∷ []) ∷ []) []
    []
    ∷ declared (Some 2) (unsubscripted (name (88 ∷ []) (at 2 195)) ∷ []) [] (Fixed None ∷ Binary (Some 31) ∷ [])
    ∷ declared (Some 2) (dimensioned (name (90 ∷ []) (at 2 214)) (Upper (extent (Number 3 (at 2 216))) ∷ Upper
    (extent (Number 4 (at 2 218))) ∷ []) ∷ []) [] (Fixed None ∷ Binary (Some 15) ∷ []) ∷ []) (at 2 1) ∷
    [])
    rest

abbrev undeclared_names : List Row
undeclared_names =
    -- E = 1;
    row (Statement [] (Assign (plain (name (69 ∷ []) (at 3 1))) (Number 1 (at 3 5)) (at 3 1)) ∷ []) (refused 1
    K.Undeclared)
    -- N = 1 + E;
    ∷ row (Statement [] (Assign (plain (name (78 ∷ []) (at 3 1))) (Infix I.Add (Number 1 (at 3 5)) (Refers (plain (name
    (69 ∷ []) (at 3 9))))) (at 3 1)) ∷ []) (refused 9 K.Undeclared)
    -- N = L(E);
    ∷ row (Statement [] (Assign (plain (name (78 ∷ []) (at 3 1))) (Refers (Plain (Last (name (76 ∷ []) (at 3 5)) (Listed
    (exprs ((Refers (plain (name (69 ∷ []) (at 3 7)))) ∷ [])))))) (at 3 1)) ∷ []) (refused 7 K.Undeclared)
    -- N = E.X;
    ∷ row (Statement [] (Assign (plain (name (78 ∷ []) (at 3 1))) (Refers (Plain (Of (name (69 ∷ []) (at 3 5)) Absent
    (Last (name (88 ∷ []) (at 3 7)) Absent)))) (at 3 1)) ∷ []) (refused 5 K.Undeclared)
    -- E -> N = 1;
    ∷ row (Statement [] (Assign (Located (plain (name (69 ∷ []) (at 3 1))) (Last (name (78 ∷ []) (at 3 6)) Absent))
    (Number 1 (at 3 10)) (at 3 1)) ∷ []) (refused 1 K.Undeclared)
    -- N = ABS(E);
    ∷ row (Statement [] (Assign (plain (name (78 ∷ []) (at 3 1))) (Refers (Plain (Last (abs_at (at 3 5)) (Listed (exprs
    ((Refers (plain (name (69 ∷ []) (at 3 9)))) ∷ [])))))) (at 3 1)) ∷ []) (refused 9 K.Undeclared)
    -- CALL E;
    ∷ row (Statement [] (Call (name (69 ∷ []) (at 3 6)) Absent (at 3 1)) ∷ []) (refused 6 K.Undeclared)
    -- N = T;
    ∷ row (Statement [] (Assign (plain (name (78 ∷ []) (at 3 1))) (Refers (plain (name (84 ∷ []) (at 3 5)))) (at 3 1)) ∷
    []) (refused 5 K.Undeclared)
    -- N = M;
    ∷ row (Statement [] (Assign (plain (name (78 ∷ []) (at 3 1))) (Refers (plain (name (77 ∷ []) (at 3 5)))) (at 3 1)) ∷
    []) accepted
    ∷ []

undeclared_names_hold : AsSaid simple undeclared_names
unfolding refusal resolved statement statements expression reference qualified arguments expressions means_from blocks_of declared_in declared_in_item declared_in_stmt blocks_in blocks_in_item blocks_in_stmt held chain_after is_before sooner soonest
undeclared_names_hold = refl

abbrev ambiguous_names : List Row
ambiguous_names =
    -- N = X;
    row (Statement [] (Assign (plain (name (78 ∷ []) (at 3 1))) (Refers (plain (name (88 ∷ []) (at 3 5)))) (at 3 1)) ∷
    []) (refused 5 K.Ambiguous)
    -- X = 1;
    ∷ row (Statement [] (Assign (plain (name (88 ∷ []) (at 3 1))) (Number 1 (at 3 5)) (at 3 1)) ∷ []) (refused 1
    K.Ambiguous)
    -- N = L(X);
    ∷ row (Statement [] (Assign (plain (name (78 ∷ []) (at 3 1))) (Refers (Plain (Last (name (76 ∷ []) (at 3 5)) (Listed
    (exprs ((Refers (plain (name (88 ∷ []) (at 3 7)))) ∷ [])))))) (at 3 1)) ∷ []) (refused 7 K.Ambiguous)
    -- N = P -> X;
    ∷ row (Statement [] (Assign (plain (name (78 ∷ []) (at 3 1))) (Refers (Located (plain (name (80 ∷ []) (at 3 5)))
    (Last (name (88 ∷ []) (at 3 10)) Absent))) (at 3 1)) ∷ []) (refused 10 K.Ambiguous)
    -- N = S.X;
    ∷ row (Statement [] (Assign (plain (name (78 ∷ []) (at 3 1))) (Refers (Plain (Of (name (83 ∷ []) (at 3 5)) Absent
    (Last (name (88 ∷ []) (at 3 7)) Absent)))) (at 3 1)) ∷ []) accepted
    -- N = K.X(1);
    ∷ row (Statement [] (Assign (plain (name (78 ∷ []) (at 3 1))) (Refers (Plain (Of (name (75 ∷ []) (at 3 5)) Absent
    (Last (name (88 ∷ []) (at 3 7)) (Listed (exprs ((Number 1 (at 3 9)) ∷ []))))))) (at 3 1)) ∷ []) accepted
    ∷ []

ambiguous_names_hold : AsSaid simple ambiguous_names
unfolding refusal resolved statement statements expression reference qualified arguments expressions means_from blocks_of declared_in declared_in_item declared_in_stmt blocks_in blocks_in_item blocks_in_stmt held chain_after is_before sooner soonest
ambiguous_names_hold = refl

abbrev subscripts : List Row
subscripts =
    -- L(1) = 2;
    row (Statement [] (Assign (Plain (Last (name (76 ∷ []) (at 3 1)) (Listed (exprs ((Number 1 (at 3 3)) ∷ [])))))
    (Number 2 (at 3 8)) (at 3 1)) ∷ []) accepted
    -- L(1,2) = 2;
    ∷ row (Statement [] (Assign (Plain (Last (name (76 ∷ []) (at 3 1)) (Listed (exprs ((Number 1 (at 3 3)) ∷ (Number 2
    (at 3 5)) ∷ []))))) (Number 2 (at 3 10)) (at 3 1)) ∷ []) (refused 1 K.BadArguments)
    -- L() = 2;
    ∷ row (Statement [] (Assign (Plain (Last (name (76 ∷ []) (at 3 1)) (Listed (exprs [])))) (Number 2 (at 3 7)) (at 3
    1)) ∷ []) (refused 1 K.BadArguments)
    -- N = N(1);
    ∷ row (Statement [] (Assign (plain (name (78 ∷ []) (at 3 1))) (Refers (Plain (Last (name (78 ∷ []) (at 3 5)) (Listed
    (exprs ((Number 1 (at 3 7)) ∷ [])))))) (at 3 1)) ∷ []) (refused 5 K.BadArguments)
    -- N = N();
    ∷ row (Statement [] (Assign (plain (name (78 ∷ []) (at 3 1))) (Refers (Plain (Last (name (78 ∷ []) (at 3 5)) (Listed
    (exprs []))))) (at 3 1)) ∷ []) (refused 5 K.BadArguments)
    -- N = K().Z(1,2,3);
    ∷ row (Statement [] (Assign (plain (name (78 ∷ []) (at 3 1))) (Refers (Plain (Of (name (75 ∷ []) (at 3 5)) (Listed
    (exprs [])) (Last (name (90 ∷ []) (at 3 9)) (Listed (exprs ((Number 1 (at 3 11)) ∷ (Number 2 (at 3 13)) ∷ (Number
    3 (at 3 15)) ∷ []))))))) (at 3 1)) ∷ []) (refused 5 K.BadArguments)
    -- N = K(1).Z(2,3);
    ∷ row (Statement [] (Assign (plain (name (78 ∷ []) (at 3 1))) (Refers (Plain (Of (name (75 ∷ []) (at 3 5)) (Listed
    (exprs ((Number 1 (at 3 7)) ∷ []))) (Last (name (90 ∷ []) (at 3 10)) (Listed (exprs ((Number 2 (at 3 12)) ∷
    (Number 3 (at 3 14)) ∷ []))))))) (at 3 1)) ∷ []) accepted
    -- N = K.Z(1,2,3);
    ∷ row (Statement [] (Assign (plain (name (78 ∷ []) (at 3 1))) (Refers (Plain (Of (name (75 ∷ []) (at 3 5)) Absent
    (Last (name (90 ∷ []) (at 3 7)) (Listed (exprs ((Number 1 (at 3 9)) ∷ (Number 2 (at 3 11)) ∷ (Number 3 (at 3 13))
    ∷ []))))))) (at 3 1)) ∷ []) accepted
    -- N = K.Z(1,2);
    ∷ row (Statement [] (Assign (plain (name (78 ∷ []) (at 3 1))) (Refers (Plain (Of (name (75 ∷ []) (at 3 5)) Absent
    (Last (name (90 ∷ []) (at 3 7)) (Listed (exprs ((Number 1 (at 3 9)) ∷ (Number 2 (at 3 11)) ∷ []))))))) (at 3 1))
    ∷ []) (refused 7 K.BadArguments)
    -- N = K(1).Z(2);
    ∷ row (Statement [] (Assign (plain (name (78 ∷ []) (at 3 1))) (Refers (Plain (Of (name (75 ∷ []) (at 3 5)) (Listed
    (exprs ((Number 1 (at 3 7)) ∷ []))) (Last (name (90 ∷ []) (at 3 10)) (Listed (exprs ((Number 2 (at 3 12)) ∷
    []))))))) (at 3 1)) ∷ []) (refused 5 K.BadArguments)
    -- N = L(P);
    ∷ row (Statement [] (Assign (plain (name (78 ∷ []) (at 3 1))) (Refers (Plain (Last (name (76 ∷ []) (at 3 5)) (Listed
    (exprs ((Refers (plain (name (80 ∷ []) (at 3 7)))) ∷ [])))))) (at 3 1)) ∷ []) (refused 7 K.TypeMismatch)
    -- N = L(C);
    ∷ row (Statement [] (Assign (plain (name (78 ∷ []) (at 3 1))) (Refers (Plain (Last (name (76 ∷ []) (at 3 5)) (Listed
    (exprs ((Refers (plain (name (67 ∷ []) (at 3 7)))) ∷ [])))))) (at 3 1)) ∷ []) accepted
    -- N = L((L));
    ∷ row (Statement [] (Assign (plain (name (78 ∷ []) (at 3 1))) (Refers (Plain (Last (name (76 ∷ []) (at 3 5)) (Listed
    (exprs ((Parenthesized (Refers (plain (name (76 ∷ []) (at 3 8)))) (at 3 7)) ∷ [])))))) (at 3 1)) ∷ []) (refused 8
    K.TypeMismatch)
    ∷ []

subscripts_hold : AsSaid simple subscripts
unfolding refusal resolved statement statements expression reference qualified arguments expressions means_from blocks_of declared_in declared_in_item declared_in_stmt blocks_in blocks_in_item blocks_in_stmt held chain_after is_before sooner soonest
subscripts_hold = refl

abbrev operands_of_arithmetic : List Row
operands_of_arithmetic =
    -- N = 1 + P;
    row (Statement [] (Assign (plain (name (78 ∷ []) (at 3 1))) (Infix I.Add (Number 1 (at 3 5)) (Refers (plain (name (80
    ∷ []) (at 3 9))))) (at 3 1)) ∷ []) (refused 9 K.TypeMismatch)
    -- N = 1 + (P);
    ∷ row (Statement [] (Assign (plain (name (78 ∷ []) (at 3 1))) (Infix I.Add (Number 1 (at 3 5)) (Parenthesized (Refers
    (plain (name (80 ∷ []) (at 3 10)))) (at 3 9))) (at 3 1)) ∷ []) (refused 9 K.TypeMismatch)
    -- N = -P;
    ∷ row (Statement [] (Assign (plain (name (78 ∷ []) (at 3 1))) (Prefix P.Minus (Refers (plain (name (80 ∷ []) (at 3
    6)))) (at 3 5)) (at 3 1)) ∷ []) (refused 6 K.TypeMismatch)
    -- N = C + B;
    ∷ row (Statement [] (Assign (plain (name (78 ∷ []) (at 3 1))) (Infix I.Add (Refers (plain (name (67 ∷ []) (at 3 5))))
    (Refers (plain (name (66 ∷ []) (at 3 9))))) (at 3 1)) ∷ []) accepted
    -- N = 1 + L;
    ∷ row (Statement [] (Assign (plain (name (78 ∷ []) (at 3 1))) (Infix I.Add (Number 1 (at 3 5)) (Refers (plain (name
    (76 ∷ []) (at 3 9))))) (at 3 1)) ∷ []) (refused 9 K.TypeMismatch)
    -- N = 1 + S;
    ∷ row (Statement [] (Assign (plain (name (78 ∷ []) (at 3 1))) (Infix I.Add (Number 1 (at 3 5)) (Refers (plain (name
    (83 ∷ []) (at 3 9))))) (at 3 1)) ∷ []) (refused 9 K.TypeMismatch)
    -- N = (L);
    ∷ row (Statement [] (Assign (plain (name (78 ∷ []) (at 3 1))) (Parenthesized (Refers (plain (name (76 ∷ []) (at 3
    6)))) (at 3 5)) (at 3 1)) ∷ []) (refused 6 K.TypeMismatch)
    -- N = 1 * R;
    ∷ row (Statement [] (Assign (plain (name (78 ∷ []) (at 3 1))) (Infix I.Multiply (Number 1 (at 3 5)) (Refers (plain
    (name (82 ∷ []) (at 3 9))))) (at 3 1)) ∷ []) (refused 9 K.TypeMismatch)
    -- N = 1 / EMPTY();
    ∷ row (Statement [] (Assign (plain (name (78 ∷ []) (at 3 1))) (Infix I.Divide (Number 1 (at 3 5)) (Refers (Plain
    (Last (empty_at (at 3 9)) (Listed (exprs [])))))) (at 3 1)) ∷ []) (refused 9 K.TypeMismatch)
    ∷ []

operands_of_arithmetic_hold : AsSaid simple operands_of_arithmetic
unfolding refusal resolved statement statements expression reference qualified arguments expressions means_from blocks_of declared_in declared_in_item declared_in_stmt blocks_in blocks_in_item blocks_in_stmt held chain_after is_before sooner soonest
operands_of_arithmetic_hold = refl

abbrev operands_of_texts_and_bits : List Row
operands_of_texts_and_bits =
    -- C = C || P;
    row (Statement [] (Assign (plain (name (67 ∷ []) (at 3 1))) (Infix I.Join (Refers (plain (name (67 ∷ []) (at 3 5))))
    (Refers (plain (name (80 ∷ []) (at 3 10))))) (at 3 1)) ∷ []) (refused 10 K.TypeMismatch)
    -- C = N || B;
    ∷ row (Statement [] (Assign (plain (name (67 ∷ []) (at 3 1))) (Infix I.Join (Refers (plain (name (78 ∷ []) (at 3
    5)))) (Refers (plain (name (66 ∷ []) (at 3 10))))) (at 3 1)) ∷ []) accepted
    -- B = ^C;
    ∷ row (Statement [] (Assign (plain (name (66 ∷ []) (at 3 1))) (Prefix P.Not (Refers (plain (name (67 ∷ []) (at 3
    6)))) (at 3 5)) (at 3 1)) ∷ []) (refused 6 K.TypeMismatch)
    -- B = B & C;
    ∷ row (Statement [] (Assign (plain (name (66 ∷ []) (at 3 1))) (Infix I.And (Refers (plain (name (66 ∷ []) (at 3 5))))
    (Refers (plain (name (67 ∷ []) (at 3 9))))) (at 3 1)) ∷ []) (refused 9 K.TypeMismatch)
    -- B = N | B;
    ∷ row (Statement [] (Assign (plain (name (66 ∷ []) (at 3 1))) (Infix I.Or (Refers (plain (name (78 ∷ []) (at 3 5))))
    (Refers (plain (name (66 ∷ []) (at 3 9))))) (at 3 1)) ∷ []) (refused 5 K.TypeMismatch)
    -- B = ^B & (N = 1) | B;
    ∷ row (Statement [] (Assign (plain (name (66 ∷ []) (at 3 1))) (Infix I.Or (Infix I.And (Prefix P.Not (Refers (plain
    (name (66 ∷ []) (at 3 6)))) (at 3 5)) (Parenthesized (Infix I.Equal (Refers (plain (name (78 ∷ []) (at 3 11))))
    (Number 1 (at 3 15))) (at 3 10))) (Refers (plain (name (66 ∷ []) (at 3 20))))) (at 3 1)) ∷ []) accepted
    ∷ []

operands_of_texts_and_bits_hold : AsSaid simple operands_of_texts_and_bits
unfolding refusal resolved statement statements expression reference qualified arguments expressions means_from blocks_of declared_in declared_in_item declared_in_stmt blocks_in blocks_in_item blocks_in_stmt held chain_after is_before sooner soonest
operands_of_texts_and_bits_hold = refl

abbrev comparisons : List Row
comparisons =
    -- B = P < Q;
    row (Statement [] (Assign (plain (name (66 ∷ []) (at 3 1))) (Infix I.Less (Refers (plain (name (80 ∷ []) (at 3 5))))
    (Refers (plain (name (81 ∷ []) (at 3 9))))) (at 3 1)) ∷ []) (refused 5 K.TypeMismatch)
    -- B = P = Q;
    ∷ row (Statement [] (Assign (plain (name (66 ∷ []) (at 3 1))) (Infix I.Equal (Refers (plain (name (80 ∷ []) (at 3
    5)))) (Refers (plain (name (81 ∷ []) (at 3 9))))) (at 3 1)) ∷ []) accepted
    -- B = P = O;
    ∷ row (Statement [] (Assign (plain (name (66 ∷ []) (at 3 1))) (Infix I.Equal (Refers (plain (name (80 ∷ []) (at 3
    5)))) (Refers (plain (name (79 ∷ []) (at 3 9))))) (at 3 1)) ∷ []) accepted
    -- B = P = W;
    ∷ row (Statement [] (Assign (plain (name (66 ∷ []) (at 3 1))) (Infix I.Equal (Refers (plain (name (80 ∷ []) (at 3
    5)))) (Refers (plain (name (87 ∷ []) (at 3 9))))) (at 3 1)) ∷ []) (refused 9 K.TypeMismatch)
    -- B = O ^= W;
    ∷ row (Statement [] (Assign (plain (name (66 ∷ []) (at 3 1))) (Infix I.NotEqual (Refers (plain (name (79 ∷ []) (at 3
    5)))) (Refers (plain (name (87 ∷ []) (at 3 10))))) (at 3 1)) ∷ []) accepted
    -- B = P = N;
    ∷ row (Statement [] (Assign (plain (name (66 ∷ []) (at 3 1))) (Infix I.Equal (Refers (plain (name (80 ∷ []) (at 3
    5)))) (Refers (plain (name (78 ∷ []) (at 3 9))))) (at 3 1)) ∷ []) (refused 5 K.TypeMismatch)
    -- B = N = P;
    ∷ row (Statement [] (Assign (plain (name (66 ∷ []) (at 3 1))) (Infix I.Equal (Refers (plain (name (78 ∷ []) (at 3
    5)))) (Refers (plain (name (80 ∷ []) (at 3 9))))) (at 3 1)) ∷ []) (refused 9 K.TypeMismatch)
    -- B = B = P;
    ∷ row (Statement [] (Assign (plain (name (66 ∷ []) (at 3 1))) (Infix I.Equal (Refers (plain (name (66 ∷ []) (at 3
    5)))) (Refers (plain (name (80 ∷ []) (at 3 9))))) (at 3 1)) ∷ []) (refused 9 K.TypeMismatch)
    -- B = NULL() = NULL;
    ∷ row (Statement [] (Assign (plain (name (66 ∷ []) (at 3 1))) (Infix I.Equal (Refers (Plain (Last (null_at (at 3 5))
    (Listed (exprs []))))) (Refers (plain (null_at (at 3 14))))) (at 3 1)) ∷ []) accepted
    -- B = NULL < NULL;
    ∷ row (Statement [] (Assign (plain (name (66 ∷ []) (at 3 1))) (Infix I.Less (Refers (plain (null_at (at 3 5))))
    (Refers (plain (null_at (at 3 12))))) (at 3 1)) ∷ []) (refused 5 K.TypeMismatch)
    -- B = P ^= NULL();
    ∷ row (Statement [] (Assign (plain (name (66 ∷ []) (at 3 1))) (Infix I.NotEqual (Refers (plain (name (80 ∷ []) (at 3
    5)))) (Refers (Plain (Last (null_at (at 3 10)) (Listed (exprs [])))))) (at 3 1)) ∷ []) accepted
    -- B = C < B;
    ∷ row (Statement [] (Assign (plain (name (66 ∷ []) (at 3 1))) (Infix I.Less (Refers (plain (name (67 ∷ []) (at 3
    5)))) (Refers (plain (name (66 ∷ []) (at 3 9))))) (at 3 1)) ∷ []) accepted
    -- B = O = NULL;
    ∷ row (Statement [] (Assign (plain (name (66 ∷ []) (at 3 1))) (Infix I.Equal (Refers (plain (name (79 ∷ []) (at 3
    5)))) (Refers (plain (null_at (at 3 9))))) (at 3 1)) ∷ []) accepted
    -- B = P < E;
    ∷ row (Statement [] (Assign (plain (name (66 ∷ []) (at 3 1))) (Infix I.Less (Refers (plain (name (80 ∷ []) (at 3
    5)))) (Refers (plain (name (69 ∷ []) (at 3 9))))) (at 3 1)) ∷ []) (refused 5 K.TypeMismatch)
    ∷ []

comparisons_hold : AsSaid simple comparisons
unfolding refusal resolved statement statements expression reference qualified arguments expressions means_from blocks_of declared_in declared_in_item declared_in_stmt blocks_in blocks_in_item blocks_in_stmt held chain_after is_before sooner soonest
comparisons_hold = refl

abbrev conditions : List Row
conditions =
    -- IF N THEN ;
    row (Statement [] (If (Refers (plain (name (78 ∷ []) (at 3 4)))) (T.Null (at 3 11)) (at 3 1)) ∷ []) (refused 4
    K.TypeMismatch)
    -- IF C THEN ;
    ∷ row (Statement [] (If (Refers (plain (name (67 ∷ []) (at 3 4)))) (T.Null (at 3 11)) (at 3 1)) ∷ []) (refused 4
    K.TypeMismatch)
    -- IF (P) THEN ;
    ∷ row (Statement [] (If (Parenthesized (Refers (plain (name (80 ∷ []) (at 3 5)))) (at 3 4)) (T.Null (at 3 13)) (at 3
    1)) ∷ []) (refused 4 K.TypeMismatch)
    -- IF N = 1 THEN ; ELSE N = 2;
    ∷ row (Statement [] (IfElse (Infix I.Equal (Refers (plain (name (78 ∷ []) (at 3 4)))) (Number 1 (at 3 8))) (T.Null
    (at 3 15)) (Assign (plain (name (78 ∷ []) (at 3 22))) (Number 2 (at 3 26)) (at 3 22)) (at 3 1)) ∷ []) accepted
    -- DO WHILE(C); END;
    ∷ row (Statement [] (DoWhile (Refers (plain (name (67 ∷ []) (at 3 10)))) (items []) (at 3 1)) ∷ []) (refused 10
    K.TypeMismatch)
    -- DO WHILE(B); END;
    ∷ row (Statement [] (DoWhile (Refers (plain (name (66 ∷ []) (at 3 10)))) (items []) (at 3 1)) ∷ []) accepted
    ∷ []

conditions_hold : AsSaid simple conditions
unfolding refusal resolved statement statements expression reference qualified arguments expressions means_from blocks_of declared_in declared_in_item declared_in_stmt blocks_in blocks_in_item blocks_in_stmt held chain_after is_before sooner soonest
conditions_hold = refl
