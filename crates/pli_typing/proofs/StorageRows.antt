-- Built-in functions of arrays, generations and locators with right and wrong arguments, computed on the definition.
use Rattle.std.proofs.Common.{List, [], ◌∷◌, Some, None, refl}
use Rattle.pli_language.specs.declared.expr.PrefixOp.TheVariants as P
use Rattle.pli_language.specs.declared.fault.SourceKind.TheVariants as K
use Rattle.pli_language.specs.Tree.{Number, Parenthesized, Prefix, Refers, Plain, Last, Of, Absent, Listed, Upper, Both, Given, Fixed, Binary, Character, BitOne, Pointer, Offset, Area, Controlled, Based, Builtin, Assign, Item, Declare, Statement, Tree}
use Rattle.pli_language.specs.Refusals.{is_before, sooner, soonest}
use Rattle.pli_language.specs.Declarations.{held, chain_after, declared_in, declared_in_item, declared_in_stmt, blocks_in, blocks_in_item, blocks_in_stmt, blocks_of}
use Rattle.pli_language.specs.Means.{means_from}
use Rattle.pli_typing.specs.References.{expression, reference, qualified, arguments, expressions}
use Rattle.pli_typing.specs.Resolving.{statement, statements, resolved}
use Rattle.pli_typing.proofs.RowTrees.{ptr_at, Row, row, AsSaid, accepted, refused, at, name, dimensioned, declared, plain, extent, unsubscripted, exprs, program, refusal, sign_at, lbound_at, hbound_at, dim_at, allocation_at, addr_at, null_at, empty_at, pointer_at, offset_at, oncode_at}

-- DCL (N,M) FIXED BIN(31), C CHAR(5), B BIT(1), P PTR, R AREA(64), O OFFSET(R), W OFFSET, L(3) FIXED BIN(31), K(2,0:4)
-- CHAR(2), X FIXED BIN(31) CTL, Y FIXED BIN(31) BASED(P), 1 S, 2 Z FIXED BIN(31), SIGN BUILTIN;
abbrev asked : List Item → Tree
asked rest =
    program
    (
    Declare (declared None (unsubscripted (name (78 ∷ []) (at 2 6)) ∷ unsubscripted (name (77 ∷ []) (at 2 8)) ∷ [])
    [] (Fixed None ∷ Binary (Some 31) ∷ [])
    ∷ declared None (unsubscripted (name (67 ∷ []) (at 2 26)) ∷ []) [] (Character (Some (Given (extent (Number 5 (at
    2 33))))) ∷ [])
    ∷ declared None (unsubscripted (name (66 ∷ []) (at 2 37)) ∷ []) [] (BitOne ∷ [])
    ∷ declared None (unsubscripted (name (80 ∷ []) (at 2 47)) ∷ []) [] (Pointer ∷ [])
    ∷ declared None (unsubscripted (name (82 ∷ []) (at 2 54)) ∷ []) [] (Area (Some (Given (extent (Number 64 (at 2
    61))))) ∷ [])
    ∷ declared None (unsubscripted (name (79 ∷ []) (at 2 66)) ∷ []) [] (Offset (Some (name (82 ∷ []) (at 2 75))) ∷ [])
    ∷ declared None (unsubscripted (name (87 ∷ []) (at 2 79)) ∷ []) [] (Offset None ∷ [])
    ∷ declared None (dimensioned (name (76 ∷ []) (at 2 89)) (Upper (extent (Number 3 (at 2 91))) ∷ []) ∷ []) []
    (Fixed None ∷ Binary (Some 31) ∷ [])
    ∷ declared None (dimensioned (name (75 ∷ []) (at 2 109)) (Upper (extent (Number 2 (at 2 111))) ∷ Both (extent
    (Number 0 (at 2 113))) (extent (Number 4 (at 2 115))) ∷ []) ∷ []) [] (Character (Some (Given (extent (Number
    2 (at 2 123))))) ∷ [])
    ∷ declared None (unsubscripted (name (88 ∷ []) (at 2 127)) ∷ []) [] (Fixed None ∷ Binary (Some 31) ∷ Controlled ∷
    [])
    ∷ declared None (unsubscripted (name (89 ∷ []) (at 2 148)) ∷ []) [] (Fixed None ∷ Binary (Some 31) ∷ Based (Some
    (name (80 ∷ []) (at 2 170))) ∷ [])
    ∷ declared (Some 1) (unsubscripted (name (83 ∷ []) (at 2 176)) ∷ []) [] []
    ∷ declared (Some 2) (unsubscripted (name (90 ∷ []) (at 2 181)) ∷ []) [] (Fixed None ∷ Binary (Some 31) ∷ [])
    ∷ declared None (unsubscripted (sign_at (at 2 198)) ∷ []) [] (Builtin ∷ []) ∷ []) (at 2 1) ∷
    [])
    rest

abbrev bounds_of_arrays : List Row
bounds_of_arrays =
    -- N = LBOUND(L,1);
    row (Statement [] (Assign (plain (name (78 ∷ []) (at 3 1))) (Refers (Plain (Last (lbound_at (at 3 5)) (Listed (exprs
    ((Refers (plain (name (76 ∷ []) (at 3 12)))) ∷ (Number 1 (at 3 14)) ∷ [])))))) (at 3 1)) ∷ []) accepted
    -- N = LBOUND(L);
    ∷ row (Statement [] (Assign (plain (name (78 ∷ []) (at 3 1))) (Refers (Plain (Last (lbound_at (at 3 5)) (Listed
    (exprs ((Refers (plain (name (76 ∷ []) (at 3 12)))) ∷ [])))))) (at 3 1)) ∷ []) (refused 5 K.BadArguments)
    -- N = LBOUND(L,2);
    ∷ row (Statement [] (Assign (plain (name (78 ∷ []) (at 3 1))) (Refers (Plain (Last (lbound_at (at 3 5)) (Listed
    (exprs ((Refers (plain (name (76 ∷ []) (at 3 12)))) ∷ (Number 2 (at 3 14)) ∷ [])))))) (at 3 1)) ∷ []) (refused 5
    K.BadArguments)
    -- N = LBOUND(N,1);
    ∷ row (Statement [] (Assign (plain (name (78 ∷ []) (at 3 1))) (Refers (Plain (Last (lbound_at (at 3 5)) (Listed
    (exprs ((Refers (plain (name (78 ∷ []) (at 3 12)))) ∷ (Number 1 (at 3 14)) ∷ [])))))) (at 3 1)) ∷ []) (refused 5
    K.BadArguments)
    -- N = HBOUND(K,2);
    ∷ row (Statement [] (Assign (plain (name (78 ∷ []) (at 3 1))) (Refers (Plain (Last (hbound_at (at 3 5)) (Listed
    (exprs ((Refers (plain (name (75 ∷ []) (at 3 12)))) ∷ (Number 2 (at 3 14)) ∷ [])))))) (at 3 1)) ∷ []) accepted
    -- N = HBOUND(K,N);
    ∷ row (Statement [] (Assign (plain (name (78 ∷ []) (at 3 1))) (Refers (Plain (Last (hbound_at (at 3 5)) (Listed
    (exprs ((Refers (plain (name (75 ∷ []) (at 3 12)))) ∷ (Refers (plain (name (78 ∷ []) (at 3 14)))) ∷ [])))))) (at
    3 1)) ∷ []) (refused 5 K.BadArguments)
    -- N = HBOUND(K);
    ∷ row (Statement [] (Assign (plain (name (78 ∷ []) (at 3 1))) (Refers (Plain (Last (hbound_at (at 3 5)) (Listed
    (exprs ((Refers (plain (name (75 ∷ []) (at 3 12)))) ∷ [])))))) (at 3 1)) ∷ []) (refused 5 K.BadArguments)
    -- N = HBOUND(L(1),1);
    ∷ row (Statement [] (Assign (plain (name (78 ∷ []) (at 3 1))) (Refers (Plain (Last (hbound_at (at 3 5)) (Listed
    (exprs ((Refers (Plain (Last (name (76 ∷ []) (at 3 12)) (Listed (exprs ((Number 1 (at 3 14)) ∷ [])))))) ∷ (Number
    1 (at 3 17)) ∷ [])))))) (at 3 1)) ∷ []) (refused 5 K.BadArguments)
    -- N = DIM(K,+1);
    ∷ row (Statement [] (Assign (plain (name (78 ∷ []) (at 3 1))) (Refers (Plain (Last (dim_at (at 3 5)) (Listed (exprs
    ((Refers (plain (name (75 ∷ []) (at 3 9)))) ∷ (Prefix P.Plus (Number 1 (at 3 12)) (at 3 11)) ∷ [])))))) (at 3 1))
    ∷ []) accepted
    -- N = DIM(C,1);
    ∷ row (Statement [] (Assign (plain (name (78 ∷ []) (at 3 1))) (Refers (Plain (Last (dim_at (at 3 5)) (Listed (exprs
    ((Refers (plain (name (67 ∷ []) (at 3 9)))) ∷ (Number 1 (at 3 11)) ∷ [])))))) (at 3 1)) ∷ []) (refused 5
    K.BadArguments)
    -- N = DIM(L,1,1);
    ∷ row (Statement [] (Assign (plain (name (78 ∷ []) (at 3 1))) (Refers (Plain (Last (dim_at (at 3 5)) (Listed (exprs
    ((Refers (plain (name (76 ∷ []) (at 3 9)))) ∷ (Number 1 (at 3 11)) ∷ (Number 1 (at 3 13)) ∷ [])))))) (at 3 1)) ∷
    []) (refused 5 K.BadArguments)
    -- N = DIM(E,1);
    ∷ row (Statement [] (Assign (plain (name (78 ∷ []) (at 3 1))) (Refers (Plain (Last (dim_at (at 3 5)) (Listed (exprs
    ((Refers (plain (name (69 ∷ []) (at 3 9)))) ∷ (Number 1 (at 3 11)) ∷ [])))))) (at 3 1)) ∷ []) (refused 9
    K.Undeclared)
    ∷ []

bounds_of_arrays_hold : AsSaid asked bounds_of_arrays
unfolding refusal resolved statement statements expression reference qualified arguments expressions means_from blocks_of declared_in declared_in_item declared_in_stmt blocks_in blocks_in_item blocks_in_stmt held chain_after is_before sooner soonest
bounds_of_arrays_hold = refl

abbrev generations_and_names : List Row
generations_and_names =
    -- N = ALLOCATION(X);
    row (Statement [] (Assign (plain (name (78 ∷ []) (at 3 1))) (Refers (Plain (Last (allocation_at (at 3 5)) (Listed
    (exprs ((Refers (plain (name (88 ∷ []) (at 3 16)))) ∷ [])))))) (at 3 1)) ∷ []) accepted
    -- N = ALLOCATION(N);
    ∷ row (Statement [] (Assign (plain (name (78 ∷ []) (at 3 1))) (Refers (Plain (Last (allocation_at (at 3 5)) (Listed
    (exprs ((Refers (plain (name (78 ∷ []) (at 3 16)))) ∷ [])))))) (at 3 1)) ∷ []) (refused 5 K.BadArguments)
    -- N = ALLOCATION(X,X);
    ∷ row (Statement [] (Assign (plain (name (78 ∷ []) (at 3 1))) (Refers (Plain (Last (allocation_at (at 3 5)) (Listed
    (exprs ((Refers (plain (name (88 ∷ []) (at 3 16)))) ∷ (Refers (plain (name (88 ∷ []) (at 3 18)))) ∷ [])))))) (at
    3 1)) ∷ []) (refused 5 K.BadArguments)
    -- P = ADDR(N);
    ∷ row (Statement [] (Assign (plain (name (80 ∷ []) (at 3 1))) (Refers (Plain (Last (addr_at (at 3 5)) (Listed (exprs
    ((Refers (plain (name (78 ∷ []) (at 3 10)))) ∷ [])))))) (at 3 1)) ∷ []) accepted
    -- P = ADDR(L);
    ∷ row (Statement [] (Assign (plain (name (80 ∷ []) (at 3 1))) (Refers (Plain (Last (addr_at (at 3 5)) (Listed (exprs
    ((Refers (plain (name (76 ∷ []) (at 3 10)))) ∷ [])))))) (at 3 1)) ∷ []) accepted
    -- P = ADDR(S);
    ∷ row (Statement [] (Assign (plain (name (80 ∷ []) (at 3 1))) (Refers (Plain (Last (addr_at (at 3 5)) (Listed (exprs
    ((Refers (plain (name (83 ∷ []) (at 3 10)))) ∷ [])))))) (at 3 1)) ∷ []) accepted
    -- P = ADDR(Y);
    ∷ row (Statement [] (Assign (plain (name (80 ∷ []) (at 3 1))) (Refers (Plain (Last (addr_at (at 3 5)) (Listed (exprs
    ((Refers (plain (name (89 ∷ []) (at 3 10)))) ∷ [])))))) (at 3 1)) ∷ []) accepted
    -- P = ADDR(S.Z);
    ∷ row (Statement [] (Assign (plain (name (80 ∷ []) (at 3 1))) (Refers (Plain (Last (addr_at (at 3 5)) (Listed (exprs
    ((Refers (Plain (Of (name (83 ∷ []) (at 3 10)) Absent (Last (name (90 ∷ []) (at 3 12)) Absent)))) ∷ [])))))) (at
    3 1)) ∷ []) (refused 5 K.BadArguments)
    -- P = ADDR(L(1));
    ∷ row (Statement [] (Assign (plain (name (80 ∷ []) (at 3 1))) (Refers (Plain (Last (addr_at (at 3 5)) (Listed (exprs
    ((Refers (Plain (Last (name (76 ∷ []) (at 3 10)) (Listed (exprs ((Number 1 (at 3 12)) ∷ [])))))) ∷ [])))))) (at 3
    1)) ∷ []) (refused 5 K.BadArguments)
    -- P = ADDR((N));
    ∷ row (Statement [] (Assign (plain (name (80 ∷ []) (at 3 1))) (Refers (Plain (Last (addr_at (at 3 5)) (Listed (exprs
    ((Parenthesized (Refers (plain (name (78 ∷ []) (at 3 11)))) (at 3 10)) ∷ [])))))) (at 3 1)) ∷ []) (refused 5
    K.BadArguments)
    -- P = ADDR(R);
    ∷ row (Statement [] (Assign (plain (name (80 ∷ []) (at 3 1))) (Refers (Plain (Last (addr_at (at 3 5)) (Listed (exprs
    ((Refers (plain (name (82 ∷ []) (at 3 10)))) ∷ [])))))) (at 3 1)) ∷ []) (refused 5 K.BadArguments)
    -- P = ADDR(X);
    ∷ row (Statement [] (Assign (plain (name (80 ∷ []) (at 3 1))) (Refers (Plain (Last (addr_at (at 3 5)) (Listed (exprs
    ((Refers (plain (name (88 ∷ []) (at 3 10)))) ∷ [])))))) (at 3 1)) ∷ []) (refused 5 K.BadArguments)
    -- P = ADDR(N,M);
    ∷ row (Statement [] (Assign (plain (name (80 ∷ []) (at 3 1))) (Refers (Plain (Last (addr_at (at 3 5)) (Listed (exprs
    ((Refers (plain (name (78 ∷ []) (at 3 10)))) ∷ (Refers (plain (name (77 ∷ []) (at 3 12)))) ∷ [])))))) (at 3 1)) ∷
    []) (refused 5 K.BadArguments)
    -- P = ADDR(1);
    ∷ row (Statement [] (Assign (plain (name (80 ∷ []) (at 3 1))) (Refers (Plain (Last (addr_at (at 3 5)) (Listed (exprs
    ((Number 1 (at 3 10)) ∷ [])))))) (at 3 1)) ∷ []) (refused 5 K.BadArguments)
    -- N = ADDR(N);
    ∷ row (Statement [] (Assign (plain (name (78 ∷ []) (at 3 1))) (Refers (Plain (Last (addr_at (at 3 5)) (Listed (exprs
    ((Refers (plain (name (78 ∷ []) (at 3 10)))) ∷ [])))))) (at 3 1)) ∷ []) (refused 5 K.TypeMismatch)
    ∷ []

generations_and_names_hold : AsSaid asked generations_and_names
unfolding refusal resolved statement statements expression reference qualified arguments expressions means_from blocks_of declared_in declared_in_item declared_in_stmt blocks_in blocks_in_item blocks_in_stmt held chain_after is_before sooner soonest
generations_and_names_hold = refl

-- an operand in parentheses is no reference, whatever stands inside
abbrev references_in_parentheses : List Row
references_in_parentheses =
    -- P = ADDR((E));
    row (Statement [] (Assign (plain (name (80 ∷ []) (at 3 1))) (Refers (Plain (Last (addr_at (at 3 5)) (Listed (exprs ((Parenthesized (Refers (plain (name (69 ∷ []) (at 3 11)))) (at 3 10)) ∷ [])))))) (at 3 1)) ∷ []) (refused 5 K.BadArguments)
    -- P = ADDR((R));
    ∷ row (Statement [] (Assign (plain (name (80 ∷ []) (at 3 1))) (Refers (Plain (Last (addr_at (at 3 5)) (Listed (exprs ((Parenthesized (Refers (plain (name (82 ∷ []) (at 3 11)))) (at 3 10)) ∷ [])))))) (at 3 1)) ∷ []) (refused 5 K.BadArguments)
    -- P = ADDR(E);
    ∷ row (Statement [] (Assign (plain (name (80 ∷ []) (at 3 1))) (Refers (Plain (Last (addr_at (at 3 5)) (Listed (exprs ((Refers (plain (name (69 ∷ []) (at 3 10)))) ∷ [])))))) (at 3 1)) ∷ []) (refused 10 K.Undeclared)
    -- N = ALLOCATION((E));
    ∷ row (Statement [] (Assign (plain (name (78 ∷ []) (at 3 1))) (Refers (Plain (Last (allocation_at (at 3 5)) (Listed (exprs ((Parenthesized (Refers (plain (name (69 ∷ []) (at 3 17)))) (at 3 16)) ∷ [])))))) (at 3 1)) ∷ []) (refused 5 K.BadArguments)
    -- N = DIM((E),1);
    ∷ row (Statement [] (Assign (plain (name (78 ∷ []) (at 3 1))) (Refers (Plain (Last (dim_at (at 3 5)) (Listed (exprs ((Parenthesized (Refers (plain (name (69 ∷ []) (at 3 10)))) (at 3 9)) ∷ (Number 1 (at 3 13)) ∷ [])))))) (at 3 1)) ∷ []) (refused 5 K.BadArguments)
    -- N = DIM((L),1);
    ∷ row (Statement [] (Assign (plain (name (78 ∷ []) (at 3 1))) (Refers (Plain (Last (dim_at (at 3 5)) (Listed (exprs ((Parenthesized (Refers (plain (name (76 ∷ []) (at 3 10)))) (at 3 9)) ∷ (Number 1 (at 3 13)) ∷ [])))))) (at 3 1)) ∷ []) (refused 5 K.BadArguments)
    -- P = POINTER(O,(E));
    ∷ row (Statement [] (Assign (plain (name (80 ∷ []) (at 3 1))) (Refers (Plain (Last (pointer_at (at 3 5)) (Listed (exprs ((Refers (plain (name (79 ∷ []) (at 3 13)))) ∷ (Parenthesized (Refers (plain (name (69 ∷ []) (at 3 16)))) (at 3 15)) ∷ [])))))) (at 3 1)) ∷ []) (refused 15 K.TypeMismatch)
    -- P = POINTER((E),R);
    ∷ row (Statement [] (Assign (plain (name (80 ∷ []) (at 3 1))) (Refers (Plain (Last (pointer_at (at 3 5)) (Listed (exprs ((Parenthesized (Refers (plain (name (69 ∷ []) (at 3 14)))) (at 3 13)) ∷ (Refers (plain (name (82 ∷ []) (at 3 17)))) ∷ [])))))) (at 3 1)) ∷ []) (refused 14 K.Undeclared)
    -- O = OFFSET(P,(R));
    ∷ row (Statement [] (Assign (plain (name (79 ∷ []) (at 3 1))) (Refers (Plain (Last (offset_at (at 3 5)) (Listed (exprs ((Refers (plain (name (80 ∷ []) (at 3 12)))) ∷ (Parenthesized (Refers (plain (name (82 ∷ []) (at 3 15)))) (at 3 14)) ∷ [])))))) (at 3 1)) ∷ []) (refused 14 K.TypeMismatch)
    -- R = (E);
    ∷ row (Statement [] (Assign (plain (name (82 ∷ []) (at 3 1))) (Parenthesized (Refers (plain (name (69 ∷ []) (at 3 6)))) (at 3 5)) (at 3 1)) ∷ []) (refused 6 K.Undeclared)
    ∷ []

references_in_parentheses_hold : AsSaid asked references_in_parentheses
unfolding refusal resolved statement statements expression reference qualified arguments expressions means_from blocks_of declared_in declared_in_item declared_in_stmt blocks_in blocks_in_item blocks_in_stmt held chain_after is_before sooner soonest
references_in_parentheses_hold = refl

abbrev locators : List Row
locators =
    -- P = NULL;
    row (Statement [] (Assign (plain (name (80 ∷ []) (at 3 1))) (Refers (plain (null_at (at 3 5)))) (at 3 1)) ∷ [])
    accepted
    -- P = NULL();
    ∷ row (Statement [] (Assign (plain (name (80 ∷ []) (at 3 1))) (Refers (Plain (Last (null_at (at 3 5)) (Listed (exprs
    []))))) (at 3 1)) ∷ []) accepted
    -- P = NULL(1);
    ∷ row (Statement [] (Assign (plain (name (80 ∷ []) (at 3 1))) (Refers (Plain (Last (null_at (at 3 5)) (Listed (exprs
    ((Number 1 (at 3 10)) ∷ [])))))) (at 3 1)) ∷ []) (refused 5 K.BadArguments)
    -- N = NULL;
    ∷ row (Statement [] (Assign (plain (name (78 ∷ []) (at 3 1))) (Refers (plain (null_at (at 3 5)))) (at 3 1)) ∷ [])
    (refused 5 K.TypeMismatch)
    -- R = EMPTY();
    ∷ row (Statement [] (Assign (plain (name (82 ∷ []) (at 3 1))) (Refers (Plain (Last (empty_at (at 3 5)) (Listed (exprs
    []))))) (at 3 1)) ∷ []) accepted
    -- R = EMPTY(1);
    ∷ row (Statement [] (Assign (plain (name (82 ∷ []) (at 3 1))) (Refers (Plain (Last (empty_at (at 3 5)) (Listed (exprs
    ((Number 1 (at 3 11)) ∷ [])))))) (at 3 1)) ∷ []) (refused 5 K.BadArguments)
    -- P = EMPTY();
    ∷ row (Statement [] (Assign (plain (name (80 ∷ []) (at 3 1))) (Refers (Plain (Last (empty_at (at 3 5)) (Listed (exprs
    []))))) (at 3 1)) ∷ []) (refused 5 K.TypeMismatch)
    -- P = POINTER(O,R);
    ∷ row (Statement [] (Assign (plain (name (80 ∷ []) (at 3 1))) (Refers (Plain (Last (pointer_at (at 3 5)) (Listed
    (exprs ((Refers (plain (name (79 ∷ []) (at 3 13)))) ∷ (Refers (plain (name (82 ∷ []) (at 3 15)))) ∷ [])))))) (at
    3 1)) ∷ []) accepted
    -- P = POINTER(W,R);
    ∷ row (Statement [] (Assign (plain (name (80 ∷ []) (at 3 1))) (Refers (Plain (Last (pointer_at (at 3 5)) (Listed
    (exprs ((Refers (plain (name (87 ∷ []) (at 3 13)))) ∷ (Refers (plain (name (82 ∷ []) (at 3 15)))) ∷ [])))))) (at
    3 1)) ∷ []) accepted
    -- P = POINTER(NULL,R);
    ∷ row (Statement [] (Assign (plain (name (80 ∷ []) (at 3 1))) (Refers (Plain (Last (pointer_at (at 3 5)) (Listed
    (exprs ((Refers (plain (null_at (at 3 13)))) ∷ (Refers (plain (name (82 ∷ []) (at 3 18)))) ∷ [])))))) (at 3 1)) ∷
    []) accepted
    -- P = POINTER(O);
    ∷ row (Statement [] (Assign (plain (name (80 ∷ []) (at 3 1))) (Refers (Plain (Last (pointer_at (at 3 5)) (Listed
    (exprs ((Refers (plain (name (79 ∷ []) (at 3 13)))) ∷ [])))))) (at 3 1)) ∷ []) (refused 5 K.BadArguments)
    -- P = POINTER(P,R);
    ∷ row (Statement [] (Assign (plain (name (80 ∷ []) (at 3 1))) (Refers (Plain (Last (pointer_at (at 3 5)) (Listed
    (exprs ((Refers (plain (name (80 ∷ []) (at 3 13)))) ∷ (Refers (plain (name (82 ∷ []) (at 3 15)))) ∷ [])))))) (at
    3 1)) ∷ []) (refused 13 K.TypeMismatch)
    -- P = POINTER(O,N);
    ∷ row (Statement [] (Assign (plain (name (80 ∷ []) (at 3 1))) (Refers (Plain (Last (pointer_at (at 3 5)) (Listed
    (exprs ((Refers (plain (name (79 ∷ []) (at 3 13)))) ∷ (Refers (plain (name (78 ∷ []) (at 3 15)))) ∷ [])))))) (at
    3 1)) ∷ []) (refused 15 K.TypeMismatch)
    -- O = OFFSET(P,R);
    ∷ row (Statement [] (Assign (plain (name (79 ∷ []) (at 3 1))) (Refers (Plain (Last (offset_at (at 3 5)) (Listed
    (exprs ((Refers (plain (name (80 ∷ []) (at 3 12)))) ∷ (Refers (plain (name (82 ∷ []) (at 3 14)))) ∷ [])))))) (at
    3 1)) ∷ []) accepted
    -- W = OFFSET(O,R);
    ∷ row (Statement [] (Assign (plain (name (87 ∷ []) (at 3 1))) (Refers (Plain (Last (offset_at (at 3 5)) (Listed
    (exprs ((Refers (plain (name (79 ∷ []) (at 3 12)))) ∷ (Refers (plain (name (82 ∷ []) (at 3 14)))) ∷ [])))))) (at
    3 1)) ∷ []) accepted
    -- O = OFFSET(P);
    ∷ row (Statement [] (Assign (plain (name (79 ∷ []) (at 3 1))) (Refers (Plain (Last (offset_at (at 3 5)) (Listed
    (exprs ((Refers (plain (name (80 ∷ []) (at 3 12)))) ∷ [])))))) (at 3 1)) ∷ []) (refused 5 K.BadArguments)
    -- O = OFFSET(W,R);
    ∷ row (Statement [] (Assign (plain (name (79 ∷ []) (at 3 1))) (Refers (Plain (Last (offset_at (at 3 5)) (Listed
    (exprs ((Refers (plain (name (87 ∷ []) (at 3 12)))) ∷ (Refers (plain (name (82 ∷ []) (at 3 14)))) ∷ [])))))) (at
    3 1)) ∷ []) (refused 12 K.TypeMismatch)
    -- O = OFFSET(P,P);
    ∷ row (Statement [] (Assign (plain (name (79 ∷ []) (at 3 1))) (Refers (Plain (Last (offset_at (at 3 5)) (Listed
    (exprs ((Refers (plain (name (80 ∷ []) (at 3 12)))) ∷ (Refers (plain (name (80 ∷ []) (at 3 14)))) ∷ [])))))) (at
    3 1)) ∷ []) (refused 14 K.TypeMismatch)
    -- P = PTR(O,R);
    ∷ row (Statement [] (Assign (plain (name (80 ∷ []) (at 3 1))) (Refers (Plain (Last (ptr_at (at 3 5)) (Listed (exprs
    ((Refers (plain (name (79 ∷ []) (at 3 9)))) ∷ (Refers (plain (name (82 ∷ []) (at 3 11)))) ∷ [])))))) (at 3 1)) ∷
    []) (refused 5 K.Undeclared)
    -- N = ONCODE;
    ∷ row (Statement [] (Assign (plain (name (78 ∷ []) (at 3 1))) (Refers (plain (oncode_at (at 3 5)))) (at 3 1)) ∷ [])
    accepted
    -- N = ONCODE();
    ∷ row (Statement [] (Assign (plain (name (78 ∷ []) (at 3 1))) (Refers (Plain (Last (oncode_at (at 3 5)) (Listed
    (exprs []))))) (at 3 1)) ∷ []) accepted
    -- N = ONCODE(1);
    ∷ row (Statement [] (Assign (plain (name (78 ∷ []) (at 3 1))) (Refers (Plain (Last (oncode_at (at 3 5)) (Listed
    (exprs ((Number 1 (at 3 12)) ∷ [])))))) (at 3 1)) ∷ []) (refused 5 K.BadArguments)
    -- P = ONCODE();
    ∷ row (Statement [] (Assign (plain (name (80 ∷ []) (at 3 1))) (Refers (Plain (Last (oncode_at (at 3 5)) (Listed
    (exprs []))))) (at 3 1)) ∷ []) (refused 5 K.TypeMismatch)
    ∷ []

locators_hold : AsSaid asked locators
unfolding refusal resolved statement statements expression reference qualified arguments expressions means_from blocks_of declared_in declared_in_item declared_in_stmt blocks_in blocks_in_item blocks_in_stmt held chain_after is_before sooner soonest
locators_hold = refl
