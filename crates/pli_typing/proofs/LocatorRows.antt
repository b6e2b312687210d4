-- BASED variables, ALLOCATE and FREE, and what typing refuses in them, computed on the definition.
use Rattle.std.proofs.Common.{List, [], ◌∷◌, Some, None, refl}
use Rattle.pli_language.specs.declared.fault.SourceKind.TheVariants as K
use Rattle.pli_language.specs.Tree.{Number, Refers, Plain, Located, Last, Of, Absent, Listed, Given, Fixed, Binary, Pointer, Offset, Area, Controlled, Based, Assign, Allocate, Free, Item, Declare, Statement, Tree}
use Rattle.pli_language.specs.Refusals.{is_before, sooner, soonest}
use Rattle.pli_language.specs.Declarations.{held, chain_after, declared_in, declared_in_item, declared_in_stmt, blocks_in, blocks_in_item, blocks_in_stmt, blocks_of}
use Rattle.pli_language.specs.Means.{means_from}
use Rattle.pli_typing.specs.References.{expression, reference, qualified, arguments, expressions}
use Rattle.pli_typing.specs.Resolving.{statement, statements, resolved}
use Rattle.pli_typing.proofs.RowTrees.{Row, row, AsSaid, accepted, refused, at, name, declared, allocating, freeing, plain, extent, unsubscripted, exprs, program, refusal, abs_at, length_at, addr_at, null_at}

-- DCL (P,Q) PTR, N FIXED BIN(31), R AREA(64), O OFFSET(R), W OFFSET, A FIXED BIN(31) BASED, D FIXED BIN(31) BASED(P), U
-- FIXED BIN(31) BASED(O), 1 G BASED(P), 2 J FIXED BIN(31), 2 F PTR, C FIXED BIN(31) CTL, 1 I CTL, 2 V FIXED BIN(31), X
-- FIXED BIN(31);
abbrev located : List Item → Tree
located rest =
    program
    (
    Declare (declared None (unsubscripted (name (80 ∷ []) (at 2 6)) ∷ unsubscripted (name (81 ∷ []) (at 2 8)) ∷ [])
    [] (Pointer ∷ [])
    ∷ declared None (unsubscripted (name (78 ∷ []) (at 2 16)) ∷ []) [] (Fixed None ∷ Binary (Some 31) ∷ [])
    ∷ declared None (unsubscripted (name (82 ∷ []) (at 2 33)) ∷ []) [] (Area (Some (Given (extent (Number 64 (at 2
    40))))) ∷ [])
    ∷ declared None (unsubscripted (name (79 ∷ []) (at 2 45)) ∷ []) [] (Offset (Some (name (82 ∷ []) (at 2 54))) ∷ [])
    ∷ declared None (unsubscripted (name (87 ∷ []) (at 2 58)) ∷ []) [] (Offset None ∷ [])
    ∷ declared None (unsubscripted (name (65 ∷ []) (at 2 68)) ∷ []) [] (Fixed None ∷ Binary (Some 31) ∷ Based None ∷
    [])
    ∷ declared None (unsubscripted (name (68 ∷ []) (at 2 91)) ∷ []) [] (Fixed None ∷ Binary (Some 31) ∷ Based (Some
    (name (80 ∷ []) (at 2 113))) ∷ [])
    ∷ declared None (unsubscripted (name (85 ∷ []) (at 2 117)) ∷ []) [] (Fixed None ∷ Binary (Some 31) ∷ Based (Some
    (name (79 ∷ []) (at 2 139))) ∷ [])
    ∷ declared (Some 1) (unsubscripted (name (71 ∷ []) (at 2 145)) ∷ []) [] (Based (Some (name (80 ∷ []) (at 2 153)))
    ∷ [])
    ∷ declared (Some 2) (unsubscripted (name (74 ∷ []) (at 2 159)) ∷ []) [] (Fixed None ∷ Binary (Some 31) ∷ [])
    ∷ declared (Some 2) (unsubscripted (name (70 ∷ []) (at 2 178)) ∷ []) [] (Pointer ∷ [])
    ∷ declared None (unsubscripted (name (67 ∷ []) (at 2 185)) ∷ []) [] (Fixed None ∷ Binary (Some 31) ∷ Controlled ∷
    [])
    ∷ declared (Some 1) (unsubscripted (name (73 ∷ []) (at 2 208)) ∷ []) [] (Controlled ∷ [])
    ∷ declared (Some 2) (unsubscripted (name (86 ∷ []) (at 2 217)) ∷ []) [] (Fixed None ∷ Binary (Some 31) ∷ [])
    ∷ declared None (unsubscripted (name (88 ∷ []) (at 2 234)) ∷ []) [] (Fixed None ∷ Binary (Some 31) ∷ []) ∷ []) (at 2 1) ∷
    [])
    rest

abbrev based_references : List Row
based_references =
    -- N = A;
    row (Statement [] (Assign (plain (name (78 ∷ []) (at 3 1))) (Refers (plain (name (65 ∷ []) (at 3 5)))) (at 3 1)) ∷
    []) (refused 5 K.BadAttributes)
    -- N = P -> A;
    ∷ row (Statement [] (Assign (plain (name (78 ∷ []) (at 3 1))) (Refers (Located (plain (name (80 ∷ []) (at 3 5)))
    (Last (name (65 ∷ []) (at 3 10)) Absent))) (at 3 1)) ∷ []) accepted
    -- N = D;
    ∷ row (Statement [] (Assign (plain (name (78 ∷ []) (at 3 1))) (Refers (plain (name (68 ∷ []) (at 3 5)))) (at 3 1)) ∷
    []) accepted
    -- N = U;
    ∷ row (Statement [] (Assign (plain (name (78 ∷ []) (at 3 1))) (Refers (plain (name (85 ∷ []) (at 3 5)))) (at 3 1)) ∷
    []) accepted
    -- N = O -> A;
    ∷ row (Statement [] (Assign (plain (name (78 ∷ []) (at 3 1))) (Refers (Located (plain (name (79 ∷ []) (at 3 5)))
    (Last (name (65 ∷ []) (at 3 10)) Absent))) (at 3 1)) ∷ []) accepted
    -- N = W -> A;
    ∷ row (Statement [] (Assign (plain (name (78 ∷ []) (at 3 1))) (Refers (Located (plain (name (87 ∷ []) (at 3 5)))
    (Last (name (65 ∷ []) (at 3 10)) Absent))) (at 3 1)) ∷ []) (refused 5 K.TypeMismatch)
    -- N = N -> A;
    ∷ row (Statement [] (Assign (plain (name (78 ∷ []) (at 3 1))) (Refers (Located (plain (name (78 ∷ []) (at 3 5)))
    (Last (name (65 ∷ []) (at 3 10)) Absent))) (at 3 1)) ∷ []) (refused 5 K.TypeMismatch)
    -- N = P -> N;
    ∷ row (Statement [] (Assign (plain (name (78 ∷ []) (at 3 1))) (Refers (Located (plain (name (80 ∷ []) (at 3 5)))
    (Last (name (78 ∷ []) (at 3 10)) Absent))) (at 3 1)) ∷ []) (refused 10 K.TypeMismatch)
    -- N = G.F -> A;
    ∷ row (Statement [] (Assign (plain (name (78 ∷ []) (at 3 1))) (Refers (Located (Plain (Of (name (71 ∷ []) (at 3 5))
    Absent (Last (name (70 ∷ []) (at 3 7)) Absent))) (Last (name (65 ∷ []) (at 3 12)) Absent))) (at 3 1)) ∷ [])
    accepted
    -- N = P -> G.F -> A;
    ∷ row (Statement [] (Assign (plain (name (78 ∷ []) (at 3 1))) (Refers (Located (Located (plain (name (80 ∷ []) (at 3
    5))) (Of (name (71 ∷ []) (at 3 10)) Absent (Last (name (70 ∷ []) (at 3 12)) Absent))) (Last (name (65 ∷ []) (at 3
    17)) Absent))) (at 3 1)) ∷ []) accepted
    -- A = 1;
    ∷ row (Statement [] (Assign (plain (name (65 ∷ []) (at 3 1))) (Number 1 (at 3 5)) (at 3 1)) ∷ []) (refused 1
    K.BadAttributes)
    -- N = ABS(A);
    ∷ row (Statement [] (Assign (plain (name (78 ∷ []) (at 3 1))) (Refers (Plain (Last (abs_at (at 3 5)) (Listed (exprs
    ((Refers (plain (name (65 ∷ []) (at 3 9)))) ∷ [])))))) (at 3 1)) ∷ []) (refused 9 K.BadAttributes)
    -- N = ADDR(X) -> A;
    ∷ row (Statement [] (Assign (plain (name (78 ∷ []) (at 3 1))) (Refers (Located (Plain (Last (addr_at (at 3 5))
    (Listed (exprs ((Refers (plain (name (88 ∷ []) (at 3 10)))) ∷ []))))) (Last (name (65 ∷ []) (at 3 16)) Absent)))
    (at 3 1)) ∷ []) accepted
    -- N = P -> Z;
    ∷ row (Statement [] (Assign (plain (name (78 ∷ []) (at 3 1))) (Refers (Located (plain (name (80 ∷ []) (at 3 5)))
    (Last (name (90 ∷ []) (at 3 10)) Absent))) (at 3 1)) ∷ []) (refused 10 K.Undeclared)
    -- N = N -> Z;
    ∷ row (Statement [] (Assign (plain (name (78 ∷ []) (at 3 1))) (Refers (Located (plain (name (78 ∷ []) (at 3 5)))
    (Last (name (90 ∷ []) (at 3 10)) Absent))) (at 3 1)) ∷ []) (refused 5 K.TypeMismatch)
    -- N = LENGTH(A);
    ∷ row (Statement [] (Assign (plain (name (78 ∷ []) (at 3 1))) (Refers (Plain (Last (length_at (at 3 5)) (Listed
    (exprs ((Refers (plain (name (65 ∷ []) (at 3 12)))) ∷ [])))))) (at 3 1)) ∷ []) (refused 12 K.BadAttributes)
    -- P = ADDR(A);
    ∷ row (Statement [] (Assign (plain (name (80 ∷ []) (at 3 1))) (Refers (Plain (Last (addr_at (at 3 5)) (Listed (exprs
    ((Refers (plain (name (65 ∷ []) (at 3 10)))) ∷ [])))))) (at 3 1)) ∷ []) (refused 10 K.BadAttributes)
    ∷ []

based_references_hold : AsSaid located based_references
unfolding refusal resolved statement statements expression reference qualified arguments expressions means_from blocks_of declared_in declared_in_item declared_in_stmt blocks_in blocks_in_item blocks_in_stmt held chain_after is_before sooner soonest
based_references_hold = refl

abbrev allocations : List Row
allocations =
    -- ALLOCATE A SET(P);
    row (Statement [] (Allocate (allocating (name (65 ∷ []) (at 3 10)) None (Some (plain (name (80 ∷ []) (at 3 16)))) ∷
    []) (at 3 1)) ∷ []) accepted
    -- ALLOCATE A;
    ∷ row (Statement [] (Allocate (allocating (name (65 ∷ []) (at 3 10)) None None ∷ []) (at 3 1)) ∷ []) (refused 10
    K.BadAttributes)
    -- ALLOCATE D;
    ∷ row (Statement [] (Allocate (allocating (name (68 ∷ []) (at 3 10)) None None ∷ []) (at 3 1)) ∷ []) accepted
    -- ALLOCATE A IN(R) SET(O);
    ∷ row (Statement [] (Allocate (allocating (name (65 ∷ []) (at 3 10)) (Some (plain (name (82 ∷ []) (at 3 15)))) (Some
    (plain (name (79 ∷ []) (at 3 22)))) ∷ []) (at 3 1)) ∷ []) accepted
    -- ALLOCATE A IN(N) SET(P);
    ∷ row (Statement [] (Allocate (allocating (name (65 ∷ []) (at 3 10)) (Some (plain (name (78 ∷ []) (at 3 15)))) (Some
    (plain (name (80 ∷ []) (at 3 22)))) ∷ []) (at 3 1)) ∷ []) (refused 15 K.TypeMismatch)
    -- ALLOCATE A SET(N);
    ∷ row (Statement [] (Allocate (allocating (name (65 ∷ []) (at 3 10)) None (Some (plain (name (78 ∷ []) (at 3 16)))) ∷
    []) (at 3 1)) ∷ []) (refused 16 K.TypeMismatch)
    -- ALLOCATE A SET(W);
    ∷ row (Statement [] (Allocate (allocating (name (65 ∷ []) (at 3 10)) None (Some (plain (name (87 ∷ []) (at 3 16)))) ∷
    []) (at 3 1)) ∷ []) (refused 16 K.TypeMismatch)
    -- ALLOCATE C;
    ∷ row (Statement [] (Allocate (allocating (name (67 ∷ []) (at 3 10)) None None ∷ []) (at 3 1)) ∷ []) accepted
    -- ALLOCATE C SET(P);
    ∷ row (Statement [] (Allocate (allocating (name (67 ∷ []) (at 3 10)) None (Some (plain (name (80 ∷ []) (at 3 16)))) ∷
    []) (at 3 1)) ∷ []) (refused 1 K.TypeMismatch)
    -- ALLOCATE C IN(R);
    ∷ row (Statement [] (Allocate (allocating (name (67 ∷ []) (at 3 10)) (Some (plain (name (82 ∷ []) (at 3 15)))) None ∷
    []) (at 3 1)) ∷ []) (refused 1 K.TypeMismatch)
    -- ALLOCATE N;
    ∷ row (Statement [] (Allocate (allocating (name (78 ∷ []) (at 3 10)) None None ∷ []) (at 3 1)) ∷ []) (refused 1
    K.TypeMismatch)
    -- ALLOCATE J SET(P);
    ∷ row (Statement [] (Allocate (allocating (name (74 ∷ []) (at 3 10)) None (Some (plain (name (80 ∷ []) (at 3 16)))) ∷
    []) (at 3 1)) ∷ []) (refused 1 K.TypeMismatch)
    -- ALLOCATE Z SET(P);
    ∷ row (Statement [] (Allocate (allocating (name (90 ∷ []) (at 3 10)) None (Some (plain (name (80 ∷ []) (at 3 16)))) ∷
    []) (at 3 1)) ∷ []) (refused 10 K.Undeclared)
    -- ALLOCATE G, A SET(O);
    ∷ row (Statement [] (Allocate (allocating (name (71 ∷ []) (at 3 10)) None None ∷ allocating (name (65 ∷ []) (at 3
    13)) None (Some (plain (name (79 ∷ []) (at 3 19)))) ∷ []) (at 3 1)) ∷ []) accepted
    -- ALLOCATE ABS;
    ∷ row (Statement [] (Allocate (allocating (abs_at (at 3 10)) None None ∷ []) (at 3 1)) ∷ []) (refused 1
    K.TypeMismatch)
    -- ALLOCATE A SET(NULL);
    ∷ row (Statement [] (Allocate (allocating (name (65 ∷ []) (at 3 10)) None (Some (plain (null_at (at 3 16)))) ∷ [])
    (at 3 1)) ∷ []) (refused 16 K.TypeMismatch)
    ∷ []

allocations_hold : AsSaid located allocations
unfolding refusal resolved statement statements expression reference qualified arguments expressions means_from blocks_of declared_in declared_in_item declared_in_stmt blocks_in blocks_in_item blocks_in_stmt held chain_after is_before sooner soonest
allocations_hold = refl

abbrev freeings : List Row
freeings =
    -- FREE D;
    row (Statement [] (Free (freeing (plain (name (68 ∷ []) (at 3 6))) None ∷ []) (at 3 1)) ∷ []) accepted
    -- FREE P -> A;
    ∷ row (Statement [] (Free (freeing (Located (plain (name (80 ∷ []) (at 3 6))) (Last (name (65 ∷ []) (at 3 11))
    Absent)) None ∷ []) (at 3 1)) ∷ []) accepted
    -- FREE A;
    ∷ row (Statement [] (Free (freeing (plain (name (65 ∷ []) (at 3 6))) None ∷ []) (at 3 1)) ∷ []) (refused 6
    K.BadAttributes)
    -- FREE N;
    ∷ row (Statement [] (Free (freeing (plain (name (78 ∷ []) (at 3 6))) None ∷ []) (at 3 1)) ∷ []) (refused 1
    K.TypeMismatch)
    -- FREE G.J;
    ∷ row (Statement [] (Free (freeing (Plain (Of (name (71 ∷ []) (at 3 6)) Absent (Last (name (74 ∷ []) (at 3 8))
    Absent))) None ∷ []) (at 3 1)) ∷ []) (refused 6 K.TypeMismatch)
    -- FREE C;
    ∷ row (Statement [] (Free (freeing (plain (name (67 ∷ []) (at 3 6))) None ∷ []) (at 3 1)) ∷ []) accepted
    -- FREE C IN(R);
    ∷ row (Statement [] (Free (freeing (plain (name (67 ∷ []) (at 3 6))) (Some (plain (name (82 ∷ []) (at 3 11)))) ∷ [])
    (at 3 1)) ∷ []) (refused 1 K.TypeMismatch)
    -- FREE I.V;
    ∷ row (Statement [] (Free (freeing (Plain (Of (name (73 ∷ []) (at 3 6)) Absent (Last (name (86 ∷ []) (at 3 8))
    Absent))) None ∷ []) (at 3 1)) ∷ []) (refused 6 K.TypeMismatch)
    -- FREE P -> A IN(R);
    ∷ row (Statement [] (Free (freeing (Located (plain (name (80 ∷ []) (at 3 6))) (Last (name (65 ∷ []) (at 3 11))
    Absent)) (Some (plain (name (82 ∷ []) (at 3 16)))) ∷ []) (at 3 1)) ∷ []) accepted
    -- FREE P -> A IN(P);
    ∷ row (Statement [] (Free (freeing (Located (plain (name (80 ∷ []) (at 3 6))) (Last (name (65 ∷ []) (at 3 11))
    Absent)) (Some (plain (name (80 ∷ []) (at 3 16)))) ∷ []) (at 3 1)) ∷ []) (refused 16 K.TypeMismatch)
    -- FREE Z;
    ∷ row (Statement [] (Free (freeing (plain (name (90 ∷ []) (at 3 6))) None ∷ []) (at 3 1)) ∷ []) (refused 6
    K.Undeclared)
    -- FREE C, G.F;
    ∷ row (Statement [] (Free (freeing (plain (name (67 ∷ []) (at 3 6))) None ∷ freeing (Plain (Of (name (71 ∷ []) (at 3
    9)) Absent (Last (name (70 ∷ []) (at 3 11)) Absent))) None ∷ []) (at 3 1)) ∷ []) (refused 9 K.TypeMismatch)
    -- FREE ABS(N);
    ∷ row (Statement [] (Free (freeing (Plain (Last (abs_at (at 3 6)) (Listed (exprs ((Refers (plain (name (78 ∷ []) (at
    3 10)))) ∷ []))))) None ∷ []) (at 3 1)) ∷ []) (refused 1 K.TypeMismatch)
    ∷ []

freeings_hold : AsSaid located freeings
unfolding refusal resolved statement statements expression reference qualified arguments expressions means_from blocks_of declared_in declared_in_item declared_in_stmt blocks_in blocks_in_item blocks_in_stmt held chain_after is_before sooner soonest
freeings_hold = refl
