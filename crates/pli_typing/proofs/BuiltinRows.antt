-- Built-in functions of numbers and texts with right and wrong arguments, computed on the definition.
use Rattle.std.proofs.Common.{List, [], ◌∷◌, Some, None, refl}
use Rattle.pli_language.specs.declared.fault.SourceKind.TheVariants as K
use Rattle.pli_language.specs.Tree.{Number, Text, Refers, Plain, Last, Listed, Upper, Both, Given, Fixed, Binary, Character, BitOne, Pointer, Offset, Area, Controlled, Based, Builtin, Assign, Item, Declare, Statement, Tree}
use Rattle.pli_language.specs.Refusals.{is_before, sooner, soonest}
use Rattle.pli_language.specs.Declarations.{held, chain_after, declared_in, declared_in_item, declared_in_stmt, blocks_in, blocks_in_item, blocks_in_stmt, blocks_of}
use Rattle.pli_language.specs.Means.{means_from}
use Rattle.pli_typing.specs.References.{expression, reference, qualified, arguments, expressions}
use Rattle.pli_typing.specs.Resolving.{statement, statements, resolved}
use Rattle.pli_typing.proofs.RowTrees.{Row, row, AsSaid, accepted, refused, at, name, dimensioned, declared, plain, extent, unsubscripted, exprs, program, refusal, abs_at, sign_at, max_at, min_at, mod_at, divide_at, length_at, substr_at, index_at, verify_at}

-- DCL (N,M) FIXED BIN(31), C CHAR(5), B BIT(1), P PTR, R AREA(64), O OFFSET(R), W OFFSET, L(3) FIXED BIN(31), K(2,0:4)
-- CHAR(2), X FIXED BIN(31) CTL, Y FIXED BIN(31) BASED(P), 1 S, 2 Z FIXED BIN(31), SIGN BUILTIN;
abbrev called : List Item → Tree
called rest =
    program
    (
    Declare (declared None (unsubscripted (name (78 ∷ []) (at 2 6)) ∷ unsubscripted (name (77 ∷ []) (at 2 8)) ∷ [])
    [] (Fixed None ∷ Binary (Some 31) ∷ [])
    ∷ declared None (unsubscripted (name (67 ∷ []) (at 2 26)) ∷ []) [] (Character (Some (Given (extent (Number 5 (at
    2 33))))) ∷ [])
    ∷ declared None (unsubscripted (name (66 ∷ []) (at 2 37)) ∷ []) [] (BitOne ∷ [])
    ∷ declared None (unsubscripted (name (80 ∷ []) (at 2 47)) ∷ []) [] (Pointer ∷ [])
    ∷ declared None (unsubscripted (name (82 ∷ []) (at 2 54)) ∷ []) [] (Area (Some (Given (extent (Number 64 (at 2
    61))))) ∷ [])
    ∷ declared None (unsubscripted (name (79 ∷ []) (at 2 66)) ∷ []) [] (Offset (Some (name (82 ∷ []) (at 2 75))) ∷ [])
    ∷ declared None (unsubscripted (name (87 ∷ []) (at 2 79)) ∷ []) [] (Offset None ∷ [])
    ∷ declared None (dimensioned (name (76 ∷ []) (at 2 89)) (Upper (extent (Number 3 (at 2 91))) ∷ []) ∷ []) []
    (Fixed None ∷ Binary (Some 31) ∷ [])
    ∷ declared None (dimensioned (name (75 ∷ []) (at 2 109)) (Upper (extent (Number 2 (at 2 111))) ∷ Both (extent
    (Number 0 (at 2 113))) (extent (Number 4 (at 2 115))) ∷ []) ∷ []) [] (Character (Some (Given (extent (Number
    2 (at 2 123))))) ∷ [])
    ∷ declared None (unsubscripted (name (88 ∷ []) (at 2 127)) ∷ []) [] (Fixed None ∷ Binary (Some 31) ∷ Controlled ∷
    [])
    ∷ declared None (unsubscripted (name (89 ∷ []) (at 2 148)) ∷ []) [] (Fixed None ∷ Binary (Some 31) ∷ Based (Some
    (name (80 ∷ []) (at 2 170))) ∷ [])
    ∷ declared (Some 1) (unsubscripted (name (83 ∷ []) (at 2 176)) ∷ []) [] []
    ∷ declared (Some 2) (unsubscripted (name (90 ∷ []) (at 2 181)) ∷ []) [] (Fixed None ∷ Binary (Some 31) ∷ [])
    ∷ declared None (unsubscripted (sign_at (at 2 198)) ∷ []) [] (Builtin ∷ []) ∷ []) (at 2 1) ∷
    [])
    rest

abbrev numbers_of_numbers : List Row
numbers_of_numbers =
    -- N = ABS(C);
    row (Statement [] (Assign (plain (name (78 ∷ []) (at 3 1))) (Refers (Plain (Last (abs_at (at 3 5)) (Listed (exprs
    ((Refers (plain (name (67 ∷ []) (at 3 9)))) ∷ [])))))) (at 3 1)) ∷ []) accepted
    -- N = ABS(N,N);
    ∷ row (Statement [] (Assign (plain (name (78 ∷ []) (at 3 1))) (Refers (Plain (Last (abs_at (at 3 5)) (Listed (exprs
    ((Refers (plain (name (78 ∷ []) (at 3 9)))) ∷ (Refers (plain (name (78 ∷ []) (at 3 11)))) ∷ [])))))) (at 3 1)) ∷
    []) (refused 5 K.BadArguments)
    -- N = ABS;
    ∷ row (Statement [] (Assign (plain (name (78 ∷ []) (at 3 1))) (Refers (plain (abs_at (at 3 5)))) (at 3 1)) ∷ [])
    (refused 5 K.BadArguments)
    -- N = ABS(P);
    ∷ row (Statement [] (Assign (plain (name (78 ∷ []) (at 3 1))) (Refers (Plain (Last (abs_at (at 3 5)) (Listed (exprs
    ((Refers (plain (name (80 ∷ []) (at 3 9)))) ∷ [])))))) (at 3 1)) ∷ []) (refused 9 K.TypeMismatch)
    -- N = SIGN(N);
    ∷ row (Statement [] (Assign (plain (name (78 ∷ []) (at 3 1))) (Refers (Plain (Last (sign_at (at 3 5)) (Listed (exprs
    ((Refers (plain (name (78 ∷ []) (at 3 10)))) ∷ [])))))) (at 3 1)) ∷ []) accepted
    -- N = SIGN();
    ∷ row (Statement [] (Assign (plain (name (78 ∷ []) (at 3 1))) (Refers (Plain (Last (sign_at (at 3 5)) (Listed (exprs
    []))))) (at 3 1)) ∷ []) (refused 5 K.BadArguments)
    -- N = SIGN(L);
    ∷ row (Statement [] (Assign (plain (name (78 ∷ []) (at 3 1))) (Refers (Plain (Last (sign_at (at 3 5)) (Listed (exprs
    ((Refers (plain (name (76 ∷ []) (at 3 10)))) ∷ [])))))) (at 3 1)) ∷ []) (refused 10 K.TypeMismatch)
    -- N = MAX(N,M,1);
    ∷ row (Statement [] (Assign (plain (name (78 ∷ []) (at 3 1))) (Refers (Plain (Last (max_at (at 3 5)) (Listed (exprs
    ((Refers (plain (name (78 ∷ []) (at 3 9)))) ∷ (Refers (plain (name (77 ∷ []) (at 3 11)))) ∷ (Number 1 (at 3 13))
    ∷ [])))))) (at 3 1)) ∷ []) accepted
    -- N = MAX(N);
    ∷ row (Statement [] (Assign (plain (name (78 ∷ []) (at 3 1))) (Refers (Plain (Last (max_at (at 3 5)) (Listed (exprs
    ((Refers (plain (name (78 ∷ []) (at 3 9)))) ∷ [])))))) (at 3 1)) ∷ []) (refused 5 K.BadArguments)
    -- N = MAX(N,P);
    ∷ row (Statement [] (Assign (plain (name (78 ∷ []) (at 3 1))) (Refers (Plain (Last (max_at (at 3 5)) (Listed (exprs
    ((Refers (plain (name (78 ∷ []) (at 3 9)))) ∷ (Refers (plain (name (80 ∷ []) (at 3 11)))) ∷ [])))))) (at 3 1)) ∷
    []) (refused 11 K.TypeMismatch)
    -- N = MIN(N,C);
    ∷ row (Statement [] (Assign (plain (name (78 ∷ []) (at 3 1))) (Refers (Plain (Last (min_at (at 3 5)) (Listed (exprs
    ((Refers (plain (name (78 ∷ []) (at 3 9)))) ∷ (Refers (plain (name (67 ∷ []) (at 3 11)))) ∷ [])))))) (at 3 1)) ∷
    []) accepted
    -- N = MIN(N);
    ∷ row (Statement [] (Assign (plain (name (78 ∷ []) (at 3 1))) (Refers (Plain (Last (min_at (at 3 5)) (Listed (exprs
    ((Refers (plain (name (78 ∷ []) (at 3 9)))) ∷ [])))))) (at 3 1)) ∷ []) (refused 5 K.BadArguments)
    -- N = MIN(N,1,P);
    ∷ row (Statement [] (Assign (plain (name (78 ∷ []) (at 3 1))) (Refers (Plain (Last (min_at (at 3 5)) (Listed (exprs
    ((Refers (plain (name (78 ∷ []) (at 3 9)))) ∷ (Number 1 (at 3 11)) ∷ (Refers (plain (name (80 ∷ []) (at 3 13))))
    ∷ [])))))) (at 3 1)) ∷ []) (refused 13 K.TypeMismatch)
    -- N = MOD(N,2);
    ∷ row (Statement [] (Assign (plain (name (78 ∷ []) (at 3 1))) (Refers (Plain (Last (mod_at (at 3 5)) (Listed (exprs
    ((Refers (plain (name (78 ∷ []) (at 3 9)))) ∷ (Number 2 (at 3 11)) ∷ [])))))) (at 3 1)) ∷ []) accepted
    -- N = MOD(N);
    ∷ row (Statement [] (Assign (plain (name (78 ∷ []) (at 3 1))) (Refers (Plain (Last (mod_at (at 3 5)) (Listed (exprs
    ((Refers (plain (name (78 ∷ []) (at 3 9)))) ∷ [])))))) (at 3 1)) ∷ []) (refused 5 K.BadArguments)
    -- N = MOD(P,N);
    ∷ row (Statement [] (Assign (plain (name (78 ∷ []) (at 3 1))) (Refers (Plain (Last (mod_at (at 3 5)) (Listed (exprs
    ((Refers (plain (name (80 ∷ []) (at 3 9)))) ∷ (Refers (plain (name (78 ∷ []) (at 3 11)))) ∷ [])))))) (at 3 1)) ∷
    []) (refused 9 K.TypeMismatch)
    ∷ []

numbers_of_numbers_hold : AsSaid called numbers_of_numbers
unfolding refusal resolved statement statements expression reference qualified arguments expressions means_from blocks_of declared_in declared_in_item declared_in_stmt blocks_in blocks_in_item blocks_in_stmt held chain_after is_before sooner soonest
numbers_of_numbers_hold = refl

abbrev quotients : List Row
quotients =
    -- N = DIVIDE(N,M,15);
    row (Statement [] (Assign (plain (name (78 ∷ []) (at 3 1))) (Refers (Plain (Last (divide_at (at 3 5)) (Listed (exprs
    ((Refers (plain (name (78 ∷ []) (at 3 12)))) ∷ (Refers (plain (name (77 ∷ []) (at 3 14)))) ∷ (Number 15 (at 3
    16)) ∷ [])))))) (at 3 1)) ∷ []) accepted
    -- N = DIVIDE(N,M,31,0);
    ∷ row (Statement [] (Assign (plain (name (78 ∷ []) (at 3 1))) (Refers (Plain (Last (divide_at (at 3 5)) (Listed
    (exprs ((Refers (plain (name (78 ∷ []) (at 3 12)))) ∷ (Refers (plain (name (77 ∷ []) (at 3 14)))) ∷ (Number 31
    (at 3 16)) ∷ (Number 0 (at 3 19)) ∷ [])))))) (at 3 1)) ∷ []) accepted
    -- N = DIVIDE(N,M);
    ∷ row (Statement [] (Assign (plain (name (78 ∷ []) (at 3 1))) (Refers (Plain (Last (divide_at (at 3 5)) (Listed
    (exprs ((Refers (plain (name (78 ∷ []) (at 3 12)))) ∷ (Refers (plain (name (77 ∷ []) (at 3 14)))) ∷ [])))))) (at
    3 1)) ∷ []) (refused 5 K.BadArguments)
    -- N = DIVIDE(N,M,32);
    ∷ row (Statement [] (Assign (plain (name (78 ∷ []) (at 3 1))) (Refers (Plain (Last (divide_at (at 3 5)) (Listed
    (exprs ((Refers (plain (name (78 ∷ []) (at 3 12)))) ∷ (Refers (plain (name (77 ∷ []) (at 3 14)))) ∷ (Number 32
    (at 3 16)) ∷ [])))))) (at 3 1)) ∷ []) (refused 5 K.BadArguments)
    -- N = DIVIDE(N,M,0);
    ∷ row (Statement [] (Assign (plain (name (78 ∷ []) (at 3 1))) (Refers (Plain (Last (divide_at (at 3 5)) (Listed
    (exprs ((Refers (plain (name (78 ∷ []) (at 3 12)))) ∷ (Refers (plain (name (77 ∷ []) (at 3 14)))) ∷ (Number 0 (at
    3 16)) ∷ [])))))) (at 3 1)) ∷ []) (refused 5 K.BadArguments)
    -- N = DIVIDE(N,M,N);
    ∷ row (Statement [] (Assign (plain (name (78 ∷ []) (at 3 1))) (Refers (Plain (Last (divide_at (at 3 5)) (Listed
    (exprs ((Refers (plain (name (78 ∷ []) (at 3 12)))) ∷ (Refers (plain (name (77 ∷ []) (at 3 14)))) ∷ (Refers
    (plain (name (78 ∷ []) (at 3 16)))) ∷ [])))))) (at 3 1)) ∷ []) (refused 5 K.BadArguments)
    -- N = DIVIDE(N,M,5,1);
    ∷ row (Statement [] (Assign (plain (name (78 ∷ []) (at 3 1))) (Refers (Plain (Last (divide_at (at 3 5)) (Listed
    (exprs ((Refers (plain (name (78 ∷ []) (at 3 12)))) ∷ (Refers (plain (name (77 ∷ []) (at 3 14)))) ∷ (Number 5 (at
    3 16)) ∷ (Number 1 (at 3 18)) ∷ [])))))) (at 3 1)) ∷ []) (refused 5 K.BadArguments)
    -- N = DIVIDE(N,P,5);
    ∷ row (Statement [] (Assign (plain (name (78 ∷ []) (at 3 1))) (Refers (Plain (Last (divide_at (at 3 5)) (Listed
    (exprs ((Refers (plain (name (78 ∷ []) (at 3 12)))) ∷ (Refers (plain (name (80 ∷ []) (at 3 14)))) ∷ (Number 5 (at
    3 16)) ∷ [])))))) (at 3 1)) ∷ []) (refused 14 K.TypeMismatch)
    ∷ []

quotients_hold : AsSaid called quotients
unfolding refusal resolved statement statements expression reference qualified arguments expressions means_from blocks_of declared_in declared_in_item declared_in_stmt blocks_in blocks_in_item blocks_in_stmt held chain_after is_before sooner soonest
quotients_hold = refl

abbrev numbers_of_texts : List Row
numbers_of_texts =
    -- N = LENGTH(C);
    row (Statement [] (Assign (plain (name (78 ∷ []) (at 3 1))) (Refers (Plain (Last (length_at (at 3 5)) (Listed (exprs
    ((Refers (plain (name (67 ∷ []) (at 3 12)))) ∷ [])))))) (at 3 1)) ∷ []) accepted
    -- N = LENGTH(N);
    ∷ row (Statement [] (Assign (plain (name (78 ∷ []) (at 3 1))) (Refers (Plain (Last (length_at (at 3 5)) (Listed
    (exprs ((Refers (plain (name (78 ∷ []) (at 3 12)))) ∷ [])))))) (at 3 1)) ∷ []) accepted
    -- N = LENGTH();
    ∷ row (Statement [] (Assign (plain (name (78 ∷ []) (at 3 1))) (Refers (Plain (Last (length_at (at 3 5)) (Listed
    (exprs []))))) (at 3 1)) ∷ []) (refused 5 K.BadArguments)
    -- N = LENGTH(P);
    ∷ row (Statement [] (Assign (plain (name (78 ∷ []) (at 3 1))) (Refers (Plain (Last (length_at (at 3 5)) (Listed
    (exprs ((Refers (plain (name (80 ∷ []) (at 3 12)))) ∷ [])))))) (at 3 1)) ∷ []) (refused 12 K.TypeMismatch)
    -- N = INDEX(C,B);
    ∷ row (Statement [] (Assign (plain (name (78 ∷ []) (at 3 1))) (Refers (Plain (Last (index_at (at 3 5)) (Listed (exprs
    ((Refers (plain (name (67 ∷ []) (at 3 11)))) ∷ (Refers (plain (name (66 ∷ []) (at 3 13)))) ∷ [])))))) (at 3 1)) ∷
    []) accepted
    -- N = INDEX(C);
    ∷ row (Statement [] (Assign (plain (name (78 ∷ []) (at 3 1))) (Refers (Plain (Last (index_at (at 3 5)) (Listed (exprs
    ((Refers (plain (name (67 ∷ []) (at 3 11)))) ∷ [])))))) (at 3 1)) ∷ []) (refused 5 K.BadArguments)
    -- N = INDEX(C,P);
    ∷ row (Statement [] (Assign (plain (name (78 ∷ []) (at 3 1))) (Refers (Plain (Last (index_at (at 3 5)) (Listed (exprs
    ((Refers (plain (name (67 ∷ []) (at 3 11)))) ∷ (Refers (plain (name (80 ∷ []) (at 3 13)))) ∷ [])))))) (at 3 1)) ∷
    []) (refused 13 K.TypeMismatch)
    -- N = VERIFY(C,'A');
    ∷ row (Statement [] (Assign (plain (name (78 ∷ []) (at 3 1))) (Refers (Plain (Last (verify_at (at 3 5)) (Listed
    (exprs ((Refers (plain (name (67 ∷ []) (at 3 12)))) ∷ (Text (65 ∷ []) (at 3 14)) ∷ [])))))) (at 3 1)) ∷ [])
    accepted
    -- N = VERIFY(C,C,C);
    ∷ row (Statement [] (Assign (plain (name (78 ∷ []) (at 3 1))) (Refers (Plain (Last (verify_at (at 3 5)) (Listed
    (exprs ((Refers (plain (name (67 ∷ []) (at 3 12)))) ∷ (Refers (plain (name (67 ∷ []) (at 3 14)))) ∷ (Refers
    (plain (name (67 ∷ []) (at 3 16)))) ∷ [])))))) (at 3 1)) ∷ []) (refused 5 K.BadArguments)
    -- N = VERIFY(P,C);
    ∷ row (Statement [] (Assign (plain (name (78 ∷ []) (at 3 1))) (Refers (Plain (Last (verify_at (at 3 5)) (Listed
    (exprs ((Refers (plain (name (80 ∷ []) (at 3 12)))) ∷ (Refers (plain (name (67 ∷ []) (at 3 14)))) ∷ [])))))) (at
    3 1)) ∷ []) (refused 12 K.TypeMismatch)
    ∷ []

numbers_of_texts_hold : AsSaid called numbers_of_texts
unfolding refusal resolved statement statements expression reference qualified arguments expressions means_from blocks_of declared_in declared_in_item declared_in_stmt blocks_in blocks_in_item blocks_in_stmt held chain_after is_before sooner soonest
numbers_of_texts_hold = refl

abbrev parts_of_texts : List Row
parts_of_texts =
    -- C = SUBSTR(C,1);
    row (Statement [] (Assign (plain (name (67 ∷ []) (at 3 1))) (Refers (Plain (Last (substr_at (at 3 5)) (Listed (exprs
    ((Refers (plain (name (67 ∷ []) (at 3 12)))) ∷ (Number 1 (at 3 14)) ∷ [])))))) (at 3 1)) ∷ []) accepted
    -- C = SUBSTR(N,1,C);
    ∷ row (Statement [] (Assign (plain (name (67 ∷ []) (at 3 1))) (Refers (Plain (Last (substr_at (at 3 5)) (Listed
    (exprs ((Refers (plain (name (78 ∷ []) (at 3 12)))) ∷ (Number 1 (at 3 14)) ∷ (Refers (plain (name (67 ∷ []) (at 3
    16)))) ∷ [])))))) (at 3 1)) ∷ []) accepted
    -- C = SUBSTR(C);
    ∷ row (Statement [] (Assign (plain (name (67 ∷ []) (at 3 1))) (Refers (Plain (Last (substr_at (at 3 5)) (Listed
    (exprs ((Refers (plain (name (67 ∷ []) (at 3 12)))) ∷ [])))))) (at 3 1)) ∷ []) (refused 5 K.BadArguments)
    -- C = SUBSTR(C,P);
    ∷ row (Statement [] (Assign (plain (name (67 ∷ []) (at 3 1))) (Refers (Plain (Last (substr_at (at 3 5)) (Listed
    (exprs ((Refers (plain (name (67 ∷ []) (at 3 12)))) ∷ (Refers (plain (name (80 ∷ []) (at 3 14)))) ∷ [])))))) (at
    3 1)) ∷ []) (refused 14 K.TypeMismatch)
    -- C = SUBSTR(K,1);
    ∷ row (Statement [] (Assign (plain (name (67 ∷ []) (at 3 1))) (Refers (Plain (Last (substr_at (at 3 5)) (Listed
    (exprs ((Refers (plain (name (75 ∷ []) (at 3 12)))) ∷ (Number 1 (at 3 14)) ∷ [])))))) (at 3 1)) ∷ []) (refused 12
    K.TypeMismatch)
    -- C = SUBSTR(C,1,1,1);
    ∷ row (Statement [] (Assign (plain (name (67 ∷ []) (at 3 1))) (Refers (Plain (Last (substr_at (at 3 5)) (Listed
    (exprs ((Refers (plain (name (67 ∷ []) (at 3 12)))) ∷ (Number 1 (at 3 14)) ∷ (Number 1 (at 3 16)) ∷ (Number 1 (at
    3 18)) ∷ [])))))) (at 3 1)) ∷ []) (refused 5 K.BadArguments)
    ∷ []

parts_of_texts_hold : AsSaid called parts_of_texts
unfolding refusal resolved statement statements expression reference qualified arguments expressions means_from blocks_of declared_in declared_in_item declared_in_stmt blocks_in blocks_in_item blocks_in_stmt held chain_after is_before sooner soonest
parts_of_texts_hold = refl
