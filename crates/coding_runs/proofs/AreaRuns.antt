-- Worked programs with areas and REFER: what their images show is what the storage machine shows.
use Rattle.std.proofs.Common.{◌≡◌, true, false, pos, [], ◌∷◌, ◌++◌, Some, None, refl}
use lib.Chars.{codes}
use Rattle.pli_language.specs.declared.condition.Condition.TheVariants as C
use Rattle.pli_meaning.specs.declared.outcome.End.TheVariants as E
use Rattle.pli_language.specs.Tree as T
use Rattle.pli_typing.specs.TypedTree as Y
use Rattle.coding_runs.proofs.RowPieces.{place, automatic, based, whole, located, plain, scalar, part, bounds, initial, leaf, evaluation, refer, member, declared, head, put_pair, procedure, program}
use Rattle.coding_runs.proofs.Running.{fitted, run_of, Shows}

-- T: PROC OPTIONS(MAIN);
-- DCL P PTR, X FIXED BIN(31) BASED; BEGIN; DCL A AREA(64); ALLOCATE X IN(A) SET(P); END;
-- P->X = 1;
-- END T;
abbrev pub area_ended_with_block : Y.Program
area_ended_with_block =
    program ([] ∷ ((scalar Y.AutomaticClass Y.PointerLeaf) ∷ (scalar Y.BasedClass (Y.FixedLeaf 31)) ∷ []) ∷ ((scalar
    Y.AutomaticClass (Y.AreaLeaf (Y.ConstantExtent (pos 64)))) ∷ []) ∷ []) ((procedure (Y.BlockOf (head Y.ProcedureBlock 1 0
    1) (Y.StmtThen [] (Y.Begin (Y.BlockOf (head Y.BeginBlock 2 1 2) (Y.StmtThen [] (Y.Allocate ((Y.AllocateBased (based 1 0 1)
    (Some (automatic 2 1 0)) (Y.SetPointer (whole (automatic 1 0 0)))) ∷ []) 2) (Y.EndOfList [])))) (Y.StmtThen [] (Y.Assign
    (located (Y.PointerIn (whole (automatic 1 0 0))) (based 1 0 1)) (Y.StoredNumber 31 (Y.NumberConstant 1)) 3) (Y.EndOfList
    [])))) [] None) ∷ [])

area_ended_with_block-runs :
    run_of (fitted area_ended_with_block 1024 256) 20000 area_ended_with_block [] ≡ Shows (record { acts = 6; output = []; raised = ((C.Error, 101) ∷ []); end = (E.Error 101 3) })
area_ended_with_block-runs = refl

-- T: PROC OPTIONS(MAIN);
-- DCL A AREA(96), (P,Q,R) PTR, X CHAR(16) BASED, Y CHAR(32) BASED; ON AREA BEGIN; PUT EDIT ('FULL') (A); STOP; END; ALLOCATE
-- X IN(A) SET(P), X IN(A) SET(Q), X IN(A) SET(R); FREE P->X, R->X; ALLOCATE Y IN(A) SET(P);
-- END T;
abbrev pub area_full_in_two_gaps : Y.Program
area_full_in_two_gaps =
    program ([] ∷ ((scalar Y.AutomaticClass (Y.AreaLeaf (Y.ConstantExtent (pos 96)))) ∷ (scalar Y.AutomaticClass
    Y.PointerLeaf) ∷ (scalar Y.AutomaticClass Y.PointerLeaf) ∷ (scalar Y.AutomaticClass Y.PointerLeaf) ∷ (scalar Y.BasedClass
    (Y.CharacterLeaf (Y.ConstantExtent (pos 16)))) ∷ (scalar Y.BasedClass (Y.CharacterLeaf (Y.ConstantExtent (pos 32)))) ∷ [])
    ∷ [] ∷ []) ((procedure (Y.BlockOf (head Y.ProcedureBlock 1 0 1) (Y.StmtThen [] (Y.OnUnit C.Area (Y.BlockOf (head
    Y.UnitBlock 2 1 2) (Y.StmtThen [] (Y.Put None ((put_pair ((Y.PutValue (Y.TextValue (Y.TextConstant (codes "FULL")))) ∷ [])
    (T.FormatThen place 1 (T.TextFormat None) T.NoFormat)) ∷ []) 2) (Y.StmtThen [] (Y.Stop 2) (Y.EndOfList [])))) 2)
    (Y.StmtThen [] (Y.Allocate ((Y.AllocateBased (based 1 0 4) (Some (automatic 1 0 0)) (Y.SetPointer (whole (automatic 1 0
    1)))) ∷ (Y.AllocateBased (based 1 0 4) (Some (automatic 1 0 0)) (Y.SetPointer (whole (automatic 1 0 2)))) ∷
    (Y.AllocateBased (based 1 0 4) (Some (automatic 1 0 0)) (Y.SetPointer (whole (automatic 1 0 3)))) ∷ []) 2) (Y.StmtThen []
    (Y.Free ((Y.FreeBased (based 1 0 4) (Y.PointerIn (whole (automatic 1 0 1))) None) ∷ (Y.FreeBased (based 1 0 4)
    (Y.PointerIn (whole (automatic 1 0 3))) None) ∷ []) 2) (Y.StmtThen [] (Y.Allocate ((Y.AllocateBased (based 1 0 5) (Some
    (automatic 1 0 0)) (Y.SetPointer (whole (automatic 1 0 1)))) ∷ []) 2) (Y.EndOfList [])))))) [] None) ∷ [])

area_full_in_two_gaps-runs :
    run_of (fitted area_full_in_two_gaps 1024 256) 20000 area_full_in_two_gaps [] ≡ Shows (record {
      acts = 11;
      output = codes "FULL" ++ (10 ∷ []);
      raised = ((C.Area, 10) ∷ []);
      end =
          E.Stopped;
    })
area_full_in_two_gaps-runs = refl

-- T: PROC OPTIONS(MAIN);
-- DCL A AREA(64), (O1,O2,O3) OFFSET(A), X FIXED BIN(31) BASED; ON AREA FREE O1->X; ALLOCATE X IN(A) SET(O1), X IN(A)
-- SET(O2), X IN(A) SET(O3); O3->X = 7; IF O3 = O1 THEN PUT EDIT ('SAME',O2->X,O1->X) (A,F(3),F(3));
-- END T;
abbrev pub area_retry_after_free : Y.Program
area_retry_after_free =
    program ([] ∷ ((scalar Y.AutomaticClass (Y.AreaLeaf (Y.ConstantExtent (pos 64)))) ∷ (scalar Y.AutomaticClass (Y.OffsetLeaf
    (Some (automatic 1 0 0)))) ∷ (scalar Y.AutomaticClass (Y.OffsetLeaf (Some (automatic 1 0 0)))) ∷ (scalar Y.AutomaticClass
    (Y.OffsetLeaf (Some (automatic 1 0 0)))) ∷ (scalar Y.BasedClass (Y.FixedLeaf 31)) ∷ []) ∷ []) ((procedure (Y.BlockOf (head
    Y.ProcedureBlock 1 0 1) (Y.StmtThen [] (Y.OnUnit C.Area (Y.BlockOf (head Y.SimpleUnit 1 1 2) (Y.StmtThen [] (Y.Free
    ((Y.FreeBased (based 1 0 4) (Y.PointerInto (Y.OffsetIn (whole (automatic 1 0 1))) (automatic 1 0 0)) None) ∷ []) 2)
    (Y.EndOfList []))) 2) (Y.StmtThen [] (Y.Allocate ((Y.AllocateBased (based 1 0 4) (Some (automatic 1 0 0)) (Y.SetOffset
    (whole (automatic 1 0 1)) (automatic 1 0 0))) ∷ (Y.AllocateBased (based 1 0 4) (Some (automatic 1 0 0)) (Y.SetOffset
    (whole (automatic 1 0 2)) (automatic 1 0 0))) ∷ (Y.AllocateBased (based 1 0 4) (Some (automatic 1 0 0)) (Y.SetOffset
    (whole (automatic 1 0 3)) (automatic 1 0 0))) ∷ []) 2) (Y.StmtThen [] (Y.Assign (located (Y.PointerInto (Y.OffsetIn (whole
    (automatic 1 0 3))) (automatic 1 0 0)) (based 1 0 4)) (Y.StoredNumber 31 (Y.NumberConstant 7)) 2) (Y.StmtThen [] (Y.If
    (Y.OffsetsCompared true (Y.OffsetIn (whole (automatic 1 0 3))) (Y.OffsetIn (whole (automatic 1 0 1)))) (Y.Put None
    ((put_pair ((Y.PutValue (Y.TextValue (Y.TextConstant (codes "SAME")))) ∷ (Y.PutValue (Y.NumberValue 31 (Y.NumberIn
    (located (Y.PointerInto (Y.OffsetIn (whole (automatic 1 0 2))) (automatic 1 0 0)) (based 1 0 4))))) ∷ (Y.PutValue
    (Y.NumberValue 31 (Y.NumberIn (located (Y.PointerInto (Y.OffsetIn (whole (automatic 1 0 1))) (automatic 1 0 0)) (based 1 0
    4))))) ∷ []) (T.FormatThen place 1 (T.TextFormat None) (T.FormatThen place 1 (T.FixedFormat 3) (T.FormatThen place 1
    (T.FixedFormat 3) T.NoFormat)))) ∷ []) 2) 2) (Y.EndOfList [])))))) [] None) ∷ [])

area_retry_after_free-runs :
    run_of (fitted area_retry_after_free 1024 256) 20000 area_retry_after_free [] ≡ Shows (record {
      acts = 14;
      output = codes "SAME  0  7" ++ (10 ∷ []);
      raised = ((C.Area, 10) ∷ []);
      end = E.Finished;
    })
area_retry_after_free-runs = refl

-- T: PROC OPTIONS(MAIN);
-- DCL (A,B) AREA(64), (O1,O2) OFFSET(A), P PTR, X FIXED BIN(31) BASED; ALLOCATE X IN(A) SET(O1), X IN(A) SET(O2); O2->X = 8;
-- FREE O1->X; B = A; P = POINTER(O2,B); PUT EDIT (P->X) (F(2));
-- END T;
abbrev pub copy_keeps_offsets : Y.Program
copy_keeps_offsets =
    program ([] ∷ ((scalar Y.AutomaticClass (Y.AreaLeaf (Y.ConstantExtent (pos 64)))) ∷ (scalar Y.AutomaticClass (Y.AreaLeaf
    (Y.ConstantExtent (pos 64)))) ∷ (scalar Y.AutomaticClass (Y.OffsetLeaf (Some (automatic 1 0 0)))) ∷ (scalar
    Y.AutomaticClass (Y.OffsetLeaf (Some (automatic 1 0 0)))) ∷ (scalar Y.AutomaticClass Y.PointerLeaf) ∷ (scalar Y.BasedClass
    (Y.FixedLeaf 31)) ∷ []) ∷ []) ((procedure (Y.BlockOf (head Y.ProcedureBlock 1 0 1) (Y.StmtThen [] (Y.Allocate
    ((Y.AllocateBased (based 1 0 5) (Some (automatic 1 0 0)) (Y.SetOffset (whole (automatic 1 0 2)) (automatic 1 0 0))) ∷
    (Y.AllocateBased (based 1 0 5) (Some (automatic 1 0 0)) (Y.SetOffset (whole (automatic 1 0 3)) (automatic 1 0 0))) ∷ [])
    2) (Y.StmtThen [] (Y.Assign (located (Y.PointerInto (Y.OffsetIn (whole (automatic 1 0 3))) (automatic 1 0 0)) (based 1 0
    5)) (Y.StoredNumber 31 (Y.NumberConstant 8)) 2) (Y.StmtThen [] (Y.Free ((Y.FreeBased (based 1 0 5) (Y.PointerInto
    (Y.OffsetIn (whole (automatic 1 0 2))) (automatic 1 0 0)) None) ∷ []) 2) (Y.StmtThen [] (Y.AssignArea (automatic 1 0 1)
    (automatic 1 0 0) 2) (Y.StmtThen [] (Y.Assign (whole (automatic 1 0 4)) (Y.StoredPointer (Y.PointerInto (Y.OffsetIn (whole
    (automatic 1 0 3))) (automatic 1 0 1))) 2) (Y.StmtThen [] (Y.Put None ((put_pair ((Y.PutValue (Y.NumberValue 31
    (Y.NumberIn (located (Y.PointerIn (whole (automatic 1 0 4))) (based 1 0 5))))) ∷ []) (T.FormatThen place 1 (T.FixedFormat
    2) T.NoFormat)) ∷ []) 2) (Y.EndOfList [])))))))) [] None) ∷ [])

copy_keeps_offsets-runs :
    run_of (fitted copy_keeps_offsets 1024 256) 20000 copy_keeps_offsets [] ≡ Shows (record { acts = 9; output = codes " 8" ++ (10 ∷ []); raised = []; end = E.Finished })
copy_keeps_offsets-runs = refl

-- T: PROC OPTIONS(MAIN);
-- DCL A AREA(160), (O1,O2,O3,O4,O5) OFFSET(A), Y CHAR(48) BASED, X CHAR(16) BASED; ALLOCATE Y IN(A) SET(O1), X IN(A)
-- SET(O2), X IN(A) SET(O3), X IN(A) SET(O4); FREE O1->Y, O3->X; ALLOCATE X IN(A) SET(O5); IF O5 = O1 THEN PUT EDIT ('LEAST')
-- (A);
-- END T;
abbrev pub least_gap_taken : Y.Program
least_gap_taken =
    program ([] ∷ ((scalar Y.AutomaticClass (Y.AreaLeaf (Y.ConstantExtent (pos 160)))) ∷ (scalar Y.AutomaticClass
    (Y.OffsetLeaf (Some (automatic 1 0 0)))) ∷ (scalar Y.AutomaticClass (Y.OffsetLeaf (Some (automatic 1 0 0)))) ∷ (scalar
    Y.AutomaticClass (Y.OffsetLeaf (Some (automatic 1 0 0)))) ∷ (scalar Y.AutomaticClass (Y.OffsetLeaf (Some (automatic 1 0
    0)))) ∷ (scalar Y.AutomaticClass (Y.OffsetLeaf (Some (automatic 1 0 0)))) ∷ (scalar Y.BasedClass (Y.CharacterLeaf
    (Y.ConstantExtent (pos 48)))) ∷ (scalar Y.BasedClass (Y.CharacterLeaf (Y.ConstantExtent (pos 16)))) ∷ []) ∷ [])
    ((procedure (Y.BlockOf (head Y.ProcedureBlock 1 0 1) (Y.StmtThen [] (Y.Allocate ((Y.AllocateBased (based 1 0 6) (Some
    (automatic 1 0 0)) (Y.SetOffset (whole (automatic 1 0 1)) (automatic 1 0 0))) ∷ (Y.AllocateBased (based 1 0 7) (Some
    (automatic 1 0 0)) (Y.SetOffset (whole (automatic 1 0 2)) (automatic 1 0 0))) ∷ (Y.AllocateBased (based 1 0 7) (Some
    (automatic 1 0 0)) (Y.SetOffset (whole (automatic 1 0 3)) (automatic 1 0 0))) ∷ (Y.AllocateBased (based 1 0 7) (Some
    (automatic 1 0 0)) (Y.SetOffset (whole (automatic 1 0 4)) (automatic 1 0 0))) ∷ []) 2) (Y.StmtThen [] (Y.Free
    ((Y.FreeBased (based 1 0 6) (Y.PointerInto (Y.OffsetIn (whole (automatic 1 0 1))) (automatic 1 0 0)) None) ∷ (Y.FreeBased
    (based 1 0 7) (Y.PointerInto (Y.OffsetIn (whole (automatic 1 0 3))) (automatic 1 0 0)) None) ∷ []) 2) (Y.StmtThen []
    (Y.Allocate ((Y.AllocateBased (based 1 0 7) (Some (automatic 1 0 0)) (Y.SetOffset (whole (automatic 1 0 5)) (automatic 1 0
    0))) ∷ []) 2) (Y.StmtThen [] (Y.If (Y.OffsetsCompared true (Y.OffsetIn (whole (automatic 1 0 5))) (Y.OffsetIn (whole
    (automatic 1 0 1)))) (Y.Put None ((put_pair ((Y.PutValue (Y.TextValue (Y.TextConstant (codes "LEAST")))) ∷ [])
    (T.FormatThen place 1 (T.TextFormat None) T.NoFormat)) ∷ []) 2) 2) (Y.EndOfList [])))))) [] None) ∷ [])

least_gap_taken-runs :
    run_of (fitted least_gap_taken 1024 256) 20000 least_gap_taken [] ≡ Shows (record { acts = 8; output = codes "LEAST" ++ (10 ∷ []); raised = []; end = E.Finished })
least_gap_taken-runs = refl

-- T: PROC OPTIONS(MAIN);
-- DCL (A,B) AREA(160), (H,O) OFFSET(A), P PTR, 1 N BASED(P), 2 V FIXED BIN(31), 2 NX OFFSET(A), I FIXED BIN(31); DO I = 1 TO
-- 3; ALLOCATE N IN(A) SET(P); N.V = I; N.NX = H; H = P; END; B = A; A = EMPTY(); O = H; DO WHILE(O ^= NULL()); P =
-- POINTER(O,B); PUT EDIT (N.V) (F(3)); O = N.NX; END;
-- END T;
abbrev pub list_walked_in_a_copy : Y.Program
list_walked_in_a_copy =
    program ([] ∷ ((scalar Y.AutomaticClass (Y.AreaLeaf (Y.ConstantExtent (pos 160)))) ∷ (scalar Y.AutomaticClass (Y.AreaLeaf
    (Y.ConstantExtent (pos 160)))) ∷ (scalar Y.AutomaticClass (Y.OffsetLeaf (Some (automatic 1 0 0)))) ∷ (scalar
    Y.AutomaticClass (Y.OffsetLeaf (Some (automatic 1 0 0)))) ∷ (scalar Y.AutomaticClass Y.PointerLeaf) ∷ (declared
    Y.BasedClass ((member 0 0) ∷ (member 1 0) ∷ (member 1 0) ∷ []) ((plain (Y.FixedLeaf 31)) ∷ (plain (Y.OffsetLeaf (Some
    (automatic 1 0 0)))) ∷ []) None []) ∷ (scalar Y.AutomaticClass (Y.FixedLeaf 31)) ∷ []) ∷ []) ((procedure (Y.BlockOf (head
    Y.ProcedureBlock 1 0 1) (Y.StmtThen [] (Y.DoCount (Y.NumberCounter 31 (whole (automatic 1 0 6))) (Y.NumberValue 31
    (Y.NumberConstant 1)) (Some (Y.NumberConstant 3)) (Y.NumberConstant 1) None (Y.StmtThen [] (Y.Allocate ((Y.AllocateBased
    (based 1 0 5) (Some (automatic 1 0 0)) (Y.SetPointer (whole (automatic 1 0 4)))) ∷ []) 2) (Y.StmtThen [] (Y.Assign
    (located (Y.PointerIn (whole (automatic 1 0 4))) (based 1 0 5)) (Y.StoredNumber 31 (Y.NumberIn (whole (automatic 1 0 6))))
    2) (Y.StmtThen [] (Y.Assign (Y.Referring (based 1 0 5) (Y.LocatedBy (Y.PointerIn (whole (automatic 1 0 4)))) (part 1 1)
    Y.NoNumber) (Y.StoredOffset (Y.OffsetIn (whole (automatic 1 0 2)))) 2) (Y.StmtThen [] (Y.Assign (whole (automatic 1 0 2))
    (Y.StoredOffset (Y.OffsetInto (Y.PointerIn (whole (automatic 1 0 4))) (automatic 1 0 0))) 2) (Y.EndOfList []))))) 2)
    (Y.StmtThen [] (Y.AssignArea (automatic 1 0 1) (automatic 1 0 0) 2) (Y.StmtThen [] (Y.EmptyArea (automatic 1 0 0) 2)
    (Y.StmtThen [] (Y.Assign (whole (automatic 1 0 3)) (Y.StoredOffset (Y.OffsetIn (whole (automatic 1 0 2)))) 2) (Y.StmtThen
    [] (Y.DoWhile (Y.OffsetsCompared false (Y.OffsetIn (whole (automatic 1 0 3))) Y.NullOffset) (Y.StmtThen [] (Y.Assign
    (whole (automatic 1 0 4)) (Y.StoredPointer (Y.PointerInto (Y.OffsetIn (whole (automatic 1 0 3))) (automatic 1 0 1))) 2)
    (Y.StmtThen [] (Y.Put None ((put_pair ((Y.PutValue (Y.NumberValue 31 (Y.NumberIn (located (Y.PointerIn (whole (automatic 1
    0 4))) (based 1 0 5))))) ∷ []) (T.FormatThen place 1 (T.FixedFormat 3) T.NoFormat)) ∷ []) 2) (Y.StmtThen [] (Y.Assign
    (whole (automatic 1 0 3)) (Y.StoredOffset (Y.OffsetIn (Y.Referring (based 1 0 5) (Y.LocatedBy (Y.PointerIn (whole
    (automatic 1 0 4)))) (part 1 1) Y.NoNumber))) 2) (Y.EndOfList [])))) 2) (Y.EndOfList []))))))) [] None) ∷ [])

list_walked_in_a_copy-runs :
    run_of (fitted list_walked_in_a_copy 1024 256) 20000 list_walked_in_a_copy [] ≡ Shows (record { acts = 39; output = codes "  3  2  1" ++ (10 ∷ []); raised = []; end = E.Finished })
list_walked_in_a_copy-runs = refl

-- T: PROC OPTIONS(MAIN);
-- DCL (A,B) AREA(64), O OFFSET(A), P PTR, X FIXED BIN(31) BASED; ALLOCATE X IN(B) SET(P); O = P;
-- END T;
abbrev pub offset_into_other_area : Y.Program
offset_into_other_area =
    program ([] ∷ ((scalar Y.AutomaticClass (Y.AreaLeaf (Y.ConstantExtent (pos 64)))) ∷ (scalar Y.AutomaticClass (Y.AreaLeaf
    (Y.ConstantExtent (pos 64)))) ∷ (scalar Y.AutomaticClass (Y.OffsetLeaf (Some (automatic 1 0 0)))) ∷ (scalar
    Y.AutomaticClass Y.PointerLeaf) ∷ (scalar Y.BasedClass (Y.FixedLeaf 31)) ∷ []) ∷ []) ((procedure (Y.BlockOf (head
    Y.ProcedureBlock 1 0 1) (Y.StmtThen [] (Y.Allocate ((Y.AllocateBased (based 1 0 4) (Some (automatic 1 0 1)) (Y.SetPointer
    (whole (automatic 1 0 3)))) ∷ []) 2) (Y.StmtThen [] (Y.Assign (whole (automatic 1 0 2)) (Y.StoredOffset (Y.OffsetInto
    (Y.PointerIn (whole (automatic 1 0 3))) (automatic 1 0 0))) 2) (Y.EndOfList [])))) [] None) ∷ [])

offset_into_other_area-runs :
    run_of (fitted offset_into_other_area 1024 256) 20000 offset_into_other_area [] ≡ Shows (record { acts = 5; output = []; raised = ((C.Error, 110) ∷ []); end = (E.Error 110 2) })
offset_into_other_area-runs = refl

-- T: PROC OPTIONS(MAIN);
-- DCL K FIXED BIN(31) INIT(3), P PTR, 1 S BASED(P), 2 N FIXED BIN(31), 2 A(K REFER(N)) FIXED BIN(31); ALLOCATE S; S.N = 4;
-- PUT EDIT (S.A(1)) (F(3));
-- END T;
abbrev pub refer_member_above_extent : Y.Program
refer_member_above_extent =
    program ([] ∷ ((declared Y.AutomaticClass ((member 0 0) ∷ []) ((leaf (Y.FixedLeaf 31) [] ((initial 1 (T.InitialNumber (pos
    3))) ∷ [])) ∷ []) None []) ∷ (scalar Y.AutomaticClass Y.PointerLeaf) ∷ (declared Y.BasedClass ((member 0 0) ∷ (member 1 0)
    ∷ (member 1 1) ∷ []) ((plain (Y.FixedLeaf 31)) ∷ (leaf (Y.FixedLeaf 31) ((bounds (Y.ConstantExtent (pos 1)) Y.ReferExtent)
    ∷ []) []) ∷ []) (Some (refer 0 (Y.EvaluatedExtent 0))) ((evaluation (Y.NumberIn (whole (automatic 1 0 0))) (Y.BoundsCheck
    (bounds (Y.ConstantExtent (pos 1)) (Y.EvaluatedExtent 0)))) ∷ [])) ∷ []) ∷ []) ((procedure (Y.BlockOf (head
    Y.ProcedureBlock 1 0 1) (Y.StmtThen [] (Y.Allocate ((Y.AllocateBased (based 1 0 2) None (Y.SetPointer (whole (automatic 1
    0 1)))) ∷ []) 2) (Y.StmtThen [] (Y.Assign (located (Y.PointerIn (whole (automatic 1 0 1))) (based 1 0 2)) (Y.StoredNumber
    31 (Y.NumberConstant 4)) 2) (Y.StmtThen [] (Y.Put None ((put_pair ((Y.PutValue (Y.NumberValue 31 (Y.NumberIn (Y.Referring
    (based 1 0 2) (Y.LocatedBy (Y.PointerIn (whole (automatic 1 0 1)))) (part 1 1) (Y.NumberThen (Y.NumberConstant 1)
    Y.NoNumber))))) ∷ []) (T.FormatThen place 1 (T.FixedFormat 3) T.NoFormat)) ∷ []) 2) (Y.EndOfList []))))) [] None) ∷ [])

refer_member_above_extent-runs :
    run_of (fitted refer_member_above_extent 1024 256) 20000 refer_member_above_extent [] ≡ Shows (record { acts = 7; output = []; raised = ((C.Error, 107) ∷ []); end = (E.Error 107 2) })
refer_member_above_extent-runs = refl

-- T: PROC OPTIONS(MAIN);
-- DCL K FIXED BIN(31) INIT(3), P PTR, 1 S BASED(P), 2 N FIXED BIN(31), 2 A(K REFER(N)) FIXED BIN(31); ALLOCATE S; S.N = 2;
-- PUT EDIT (S.A(3)) (F(3));
-- END T;
abbrev pub refer_member_lowered : Y.Program
refer_member_lowered =
    program ([] ∷ ((declared Y.AutomaticClass ((member 0 0) ∷ []) ((leaf (Y.FixedLeaf 31) [] ((initial 1 (T.InitialNumber (pos
    3))) ∷ [])) ∷ []) None []) ∷ (scalar Y.AutomaticClass Y.PointerLeaf) ∷ (declared Y.BasedClass ((member 0 0) ∷ (member 1 0)
    ∷ (member 1 1) ∷ []) ((plain (Y.FixedLeaf 31)) ∷ (leaf (Y.FixedLeaf 31) ((bounds (Y.ConstantExtent (pos 1)) Y.ReferExtent)
    ∷ []) []) ∷ []) (Some (refer 0 (Y.EvaluatedExtent 0))) ((evaluation (Y.NumberIn (whole (automatic 1 0 0))) (Y.BoundsCheck
    (bounds (Y.ConstantExtent (pos 1)) (Y.EvaluatedExtent 0)))) ∷ [])) ∷ []) ∷ []) ((procedure (Y.BlockOf (head
    Y.ProcedureBlock 1 0 1) (Y.StmtThen [] (Y.Allocate ((Y.AllocateBased (based 1 0 2) None (Y.SetPointer (whole (automatic 1
    0 1)))) ∷ []) 2) (Y.StmtThen [] (Y.Assign (located (Y.PointerIn (whole (automatic 1 0 1))) (based 1 0 2)) (Y.StoredNumber
    31 (Y.NumberConstant 2)) 2) (Y.StmtThen [] (Y.Put None ((put_pair ((Y.PutValue (Y.NumberValue 31 (Y.NumberIn (Y.Referring
    (based 1 0 2) (Y.LocatedBy (Y.PointerIn (whole (automatic 1 0 1)))) (part 1 1) (Y.NumberThen (Y.NumberConstant 3)
    Y.NoNumber))))) ∷ []) (T.FormatThen place 1 (T.FixedFormat 3) T.NoFormat)) ∷ []) 2) (Y.EndOfList []))))) [] None) ∷ [])

refer_member_lowered-runs :
    run_of (fitted refer_member_lowered 1024 256) 20000 refer_member_lowered [] ≡ Shows (record { acts = 7; output = []; raised = ((C.Error, 102) ∷ []); end = (E.Error 102 2) })
refer_member_lowered-runs = refl

-- T: PROC OPTIONS(MAIN);
-- DCL A AREA(64), B AREA(32), (P,Q) PTR, X FIXED BIN(31) BASED; ON AREA PUT EDIT ('NO') (A); ALLOCATE X IN(A) SET(Q), X
-- IN(A) SET(Q), X IN(B) SET(P); P->X = 4; B = A; PUT EDIT (P->X) (F(2));
-- END T;
abbrev pub refused_area_assignment : Y.Program
refused_area_assignment =
    program ([] ∷ ((scalar Y.AutomaticClass (Y.AreaLeaf (Y.ConstantExtent (pos 64)))) ∷ (scalar Y.AutomaticClass (Y.AreaLeaf
    (Y.ConstantExtent (pos 32)))) ∷ (scalar Y.AutomaticClass Y.PointerLeaf) ∷ (scalar Y.AutomaticClass Y.PointerLeaf) ∷
    (scalar Y.BasedClass (Y.FixedLeaf 31)) ∷ []) ∷ []) ((procedure (Y.BlockOf (head Y.ProcedureBlock 1 0 1) (Y.StmtThen []
    (Y.OnUnit C.Area (Y.BlockOf (head Y.SimpleUnit 1 1 2) (Y.StmtThen [] (Y.Put None ((put_pair ((Y.PutValue (Y.TextValue
    (Y.TextConstant (codes "NO")))) ∷ []) (T.FormatThen place 1 (T.TextFormat None) T.NoFormat)) ∷ []) 2) (Y.EndOfList [])))
    2) (Y.StmtThen [] (Y.Allocate ((Y.AllocateBased (based 1 0 4) (Some (automatic 1 0 0)) (Y.SetPointer (whole (automatic 1 0
    3)))) ∷ (Y.AllocateBased (based 1 0 4) (Some (automatic 1 0 0)) (Y.SetPointer (whole (automatic 1 0 3)))) ∷
    (Y.AllocateBased (based 1 0 4) (Some (automatic 1 0 1)) (Y.SetPointer (whole (automatic 1 0 2)))) ∷ []) 2) (Y.StmtThen []
    (Y.Assign (located (Y.PointerIn (whole (automatic 1 0 2))) (based 1 0 4)) (Y.StoredNumber 31 (Y.NumberConstant 4)) 2)
    (Y.StmtThen [] (Y.AssignArea (automatic 1 0 1) (automatic 1 0 0) 2) (Y.StmtThen [] (Y.Put None ((put_pair ((Y.PutValue
    (Y.NumberValue 31 (Y.NumberIn (located (Y.PointerIn (whole (automatic 1 0 2))) (based 1 0 4))))) ∷ []) (T.FormatThen place
    1 (T.FixedFormat 2) T.NoFormat)) ∷ []) 2) (Y.EndOfList []))))))) [] None) ∷ [])

refused_area_assignment-runs :
    run_of (fitted refused_area_assignment 1024 256) 20000 refused_area_assignment [] ≡ Shows (record {
      acts = 12;
      output = codes "NO 4" ++ (10 ∷ []);
      raised = ((C.Area, 10) ∷ []);
      end =
          E.Finished;
    })
refused_area_assignment-runs = refl
