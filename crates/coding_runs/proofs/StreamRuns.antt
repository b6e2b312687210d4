-- Worked programs with texts and streams: what their images show is what the storage machine shows.
use Rattle.std.proofs.Common.{◌≡◌, ℕ, pos, [], ◌∷◌, ◌++◌, Some, None, refl}
use lib.Chars.{codes}
use Rattle.pli_language.specs.declared.condition.Condition.TheVariants as C
use Rattle.pli_meaning.specs.declared.outcome.End.TheVariants as E
use Rattle.pli_language.specs.Tree as T
use Rattle.pli_typing.specs.TypedTree as Y
use Rattle.coding_runs.proofs.RowPieces.{place, automatic, whole, scalar, part, bounds, initial, leaf, member, declared, head, get_pair, put_pair, procedure, program}
use Rattle.coding_runs.proofs.Running.{fitted, run_of, Shows}

-- T: PROC OPTIONS(MAIN);
-- DCL A FIXED BIN(31) INIT(1), IF(2) FIXED BIN(31); IF (A) = 1 THEN PUT EDIT ('Y') (A); IF (1) = 7; PUT EDIT (IF) (F(3));
-- END T;
abbrev assignment_or_if : Y.Program
assignment_or_if =
    program ([] ∷ ((declared Y.AutomaticClass ((member 0 0) ∷ []) ((leaf (Y.FixedLeaf 31) [] ((initial 1 (T.InitialNumber (pos
    1))) ∷ [])) ∷ []) None []) ∷ (declared Y.AutomaticClass ((member 0 1) ∷ []) ((leaf (Y.FixedLeaf 31) ((bounds
    (Y.ConstantExtent (pos 1)) (Y.ConstantExtent (pos 2))) ∷ []) []) ∷ []) None []) ∷ []) ∷ []) ((procedure (Y.BlockOf (head
    Y.ProcedureBlock 1 0 1) (Y.StmtThen [] (Y.If (Y.NumbersCompared Y.IsEqual (Y.NumberIn (whole (automatic 1 0 0)))
    (Y.NumberConstant 1)) (Y.Put None ((put_pair ((Y.PutValue (Y.TextValue (Y.TextConstant (codes "Y")))) ∷ []) (T.FormatThen
    place 1 (T.TextFormat None) T.NoFormat)) ∷ []) 2) 2) (Y.StmtThen [] (Y.Assign (Y.Referring (automatic 1 0 1) Y.NotLocated
    (part 0 1) (Y.NumberThen (Y.NumberConstant 1) Y.NoNumber)) (Y.StoredNumber 31 (Y.NumberConstant 7)) 2) (Y.StmtThen []
    (Y.Put None ((put_pair ((Y.PutAggregate (whole (automatic 1 0 1))) ∷ []) (T.FormatThen place 1 (T.FixedFormat 3)
    T.NoFormat)) ∷ []) 2) (Y.EndOfList []))))) [] None) ∷ [])

assignment_or_if-runs :
    run_of (fitted assignment_or_if 1024 256) 20000 assignment_or_if [] ≡ Shows (record { acts = 9; output = codes "Y  7  0" ++ (10 ∷ []); raised = []; end = E.Finished })
assignment_or_if-runs = refl

-- T: PROC OPTIONS(MAIN);
-- PUT EDIT ('A','B') (A,COLUMN(4),A);
-- END T;
abbrev column_reached : Y.Program
column_reached =
    program ([] ∷ [] ∷ []) ((procedure (Y.BlockOf (head Y.ProcedureBlock 1 0 1) (Y.StmtThen [] (Y.Put None ((put_pair
    ((Y.PutValue (Y.TextValue (Y.TextConstant (codes "A")))) ∷ (Y.PutValue (Y.TextValue (Y.TextConstant (codes "B")))) ∷ [])
    (T.FormatThen place 1 (T.TextFormat None) (T.FormatThen place 1 (T.ColumnFormat 4) (T.FormatThen place 1 (T.TextFormat
    None) T.NoFormat)))) ∷ []) 2) (Y.EndOfList []))) [] None) ∷ [])

column_reached-runs :
    run_of (fitted column_reached 1024 256) 20000 column_reached [] ≡ Shows (record { acts = 6; output = codes "A  B" ++ (10 ∷ []); raised = []; end = E.Finished })
column_reached-runs = refl

-- T: PROC OPTIONS(MAIN);
-- DCL (X,Y) FIXED BIN(31); GET EDIT (X,Y) (F(1)); PUT EDIT (X,Y) (F(2));
-- END T;
abbrev field_over_line_end : Y.Program
field_over_line_end =
    program ([] ∷ ((scalar Y.AutomaticClass (Y.FixedLeaf 31)) ∷ (scalar Y.AutomaticClass (Y.FixedLeaf 31)) ∷ []) ∷ [])
    ((procedure (Y.BlockOf (head Y.ProcedureBlock 1 0 1) (Y.StmtThen [] (Y.Get None ((get_pair ((Y.GetScalar (whole (automatic
    1 0 0))) ∷ (Y.GetScalar (whole (automatic 1 0 1))) ∷ []) (T.FormatThen place 1 (T.FixedFormat 1) T.NoFormat)) ∷ []) 2)
    (Y.StmtThen [] (Y.Put None ((put_pair ((Y.PutValue (Y.NumberValue 31 (Y.NumberIn (whole (automatic 1 0 0))))) ∷
    (Y.PutValue (Y.NumberValue 31 (Y.NumberIn (whole (automatic 1 0 1))))) ∷ []) (T.FormatThen place 1 (T.FixedFormat 2)
    T.NoFormat)) ∷ []) 2) (Y.EndOfList [])))) [] None) ∷ [])

field_over_line_end-runs :
    run_of (fitted field_over_line_end 1024 256) 20000 field_over_line_end (49 ∷ 13 ∷ 10 ∷ 50 ∷ []) ≡ Shows (record {
      acts = 8;
      output = codes " 1 2" ++ (10 ∷ []);
      raised = [];
      end
          = E.Finished;
    })
field_over_line_end-runs = refl

-- T: PROC OPTIONS(MAIN);
-- PUT EDIT (1,2,3) (F(2),X(1),SKIP);
-- END T;
abbrev format_used_again : Y.Program
format_used_again =
    program ([] ∷ [] ∷ []) ((procedure (Y.BlockOf (head Y.ProcedureBlock 1 0 1) (Y.StmtThen [] (Y.Put None ((put_pair
    ((Y.PutValue (Y.NumberValue 31 (Y.NumberConstant 1))) ∷ (Y.PutValue (Y.NumberValue 31 (Y.NumberConstant 2))) ∷ (Y.PutValue
    (Y.NumberValue 31 (Y.NumberConstant 3))) ∷ []) (T.FormatThen place 1 (T.FixedFormat 2) (T.FormatThen place 1
    (T.SpaceFormat 1) (T.FormatThen place 1 (T.SkipFormat 1) T.NoFormat)))) ∷ []) 2) (Y.EndOfList []))) [] None) ∷ [])

format_used_again-runs :
    run_of (fitted format_used_again 1024 256) 20000 format_used_again [] ≡ Shows (record {
      acts = 10;
      output = codes " 1 " ++ (10 ∷ []) ++ codes " 2 " ++ (10 ∷ []) ++ codes " 3"
          ++ (10 ∷ []);
      raised = [];
      end = E.Finished;
    })
format_used_again-runs = refl

-- T: PROC OPTIONS(MAIN);
-- DCL (X,Y) FIXED BIN(31); GET EDIT (X,Y) (F(1)); PUT EDIT (X,Y) (F(2));
-- END T;
abbrev letter_in_number_field : Y.Program
letter_in_number_field =
    program ([] ∷ ((scalar Y.AutomaticClass (Y.FixedLeaf 31)) ∷ (scalar Y.AutomaticClass (Y.FixedLeaf 31)) ∷ []) ∷ [])
    ((procedure (Y.BlockOf (head Y.ProcedureBlock 1 0 1) (Y.StmtThen [] (Y.Get None ((get_pair ((Y.GetScalar (whole (automatic
    1 0 0))) ∷ (Y.GetScalar (whole (automatic 1 0 1))) ∷ []) (T.FormatThen place 1 (T.FixedFormat 1) T.NoFormat)) ∷ []) 2)
    (Y.StmtThen [] (Y.Put None ((put_pair ((Y.PutValue (Y.NumberValue 31 (Y.NumberIn (whole (automatic 1 0 0))))) ∷
    (Y.PutValue (Y.NumberValue 31 (Y.NumberIn (whole (automatic 1 0 1))))) ∷ []) (T.FormatThen place 1 (T.FixedFormat 2)
    T.NoFormat)) ∷ []) 2) (Y.EndOfList [])))) [] None) ∷ [])

letter_in_number_field-runs :
    run_of (fitted letter_in_number_field 1024 256) 20000 letter_in_number_field (codes "A2") ≡ Shows (record {
      acts = 5;
      output = [];
      raised = ((C.Error, 104) ∷ []);
      end = (E.Error
          104 2);
    })
letter_in_number_field-runs = refl

-- T: PROC OPTIONS(MAIN);
-- DCL C CHAR(12), J FIXED BIN(15) INIT(42); C = J; PUT EDIT (C,'!') (A,A);
-- END T;
abbrev number_becomes_text : Y.Program
number_becomes_text =
    program ([] ∷ ((scalar Y.AutomaticClass (Y.CharacterLeaf (Y.ConstantExtent (pos 12)))) ∷ (declared Y.AutomaticClass
    ((member 0 0) ∷ []) ((leaf (Y.FixedLeaf 15) [] ((initial 1 (T.InitialNumber (pos 42))) ∷ [])) ∷ []) None []) ∷ []) ∷ [])
    ((procedure (Y.BlockOf (head Y.ProcedureBlock 1 0 1) (Y.StmtThen [] (Y.Assign (whole (automatic 1 0 0)) (Y.StoredText
    (Y.TextOfNumber 15 (Y.NumberIn (whole (automatic 1 0 1))))) 2) (Y.StmtThen [] (Y.Put None ((put_pair ((Y.PutValue
    (Y.TextValue (Y.TextIn (whole (automatic 1 0 0))))) ∷ (Y.PutValue (Y.TextValue (Y.TextConstant (codes "!")))) ∷ [])
    (T.FormatThen place 1 (T.TextFormat None) (T.FormatThen place 1 (T.TextFormat None) T.NoFormat))) ∷ []) 2) (Y.EndOfList
    [])))) [] None) ∷ [])

number_becomes_text-runs :
    run_of (fitted number_becomes_text 1024 256) 20000 number_becomes_text [] ≡ Shows (record {
      acts = 6;
      output = codes "       42   !" ++ (10 ∷ []);
      raised = [];
      end = E.Finished;
    })
number_becomes_text-runs = refl

-- T: PROC OPTIONS(MAIN);
-- DCL I FIXED BIN(15) INIT(32767); ON FIXEDOVERFLOW PUT EDIT ('OV') (A); I = I + 1; PUT EDIT (I) (F(7));
-- END T;
abbrev overflow_wraps : Y.Program
overflow_wraps =
    program ([] ∷ ((declared Y.AutomaticClass ((member 0 0) ∷ []) ((leaf (Y.FixedLeaf 15) [] ((initial 1 (T.InitialNumber (pos
    32767))) ∷ [])) ∷ []) None []) ∷ []) ∷ []) ((procedure (Y.BlockOf (head Y.ProcedureBlock 1 0 1) (Y.StmtThen [] (Y.OnUnit
    C.FixedOverflow (Y.BlockOf (head Y.SimpleUnit 1 1 2) (Y.StmtThen [] (Y.Put None ((put_pair ((Y.PutValue (Y.TextValue
    (Y.TextConstant (codes "OV")))) ∷ []) (T.FormatThen place 1 (T.TextFormat None) T.NoFormat)) ∷ []) 2) (Y.EndOfList [])))
    2) (Y.StmtThen [] (Y.Assign (whole (automatic 1 0 0)) (Y.StoredNumber 15 (Y.Calculated Y.Sum (Y.NumberIn (whole (automatic
    1 0 0))) (Y.NumberConstant 1))) 2) (Y.StmtThen [] (Y.Put None ((put_pair ((Y.PutValue (Y.NumberValue 15 (Y.NumberIn (whole
    (automatic 1 0 0))))) ∷ []) (T.FormatThen place 1 (T.FixedFormat 7) T.NoFormat)) ∷ []) 2) (Y.EndOfList []))))) [] None) ∷
    [])

overflow_wraps-runs :
    run_of (fitted overflow_wraps 1024 256) 20000 overflow_wraps [] ≡ Shows (record {
      acts = 10;
      output = codes "OV -32768" ++ (10 ∷ []);
      raised = ((C.FixedOverflow, 20) ∷ []);
      end = E.Finished;
    })
overflow_wraps-runs = refl

-- T: PROC OPTIONS(MAIN);
-- DCL X CHAR(5); ON ENDFILE(SYSIN) GOTO L; L2: GET EDIT (X) (A(5)); PUT EDIT (X) (A(5)); GOTO L2; L: PUT EDIT (' END') (A);
-- END T;
abbrev read_texts_until_endfile : Y.Program
read_texts_until_endfile =
    program ([] ∷ ((scalar Y.AutomaticClass (Y.CharacterLeaf (Y.ConstantExtent (pos 5)))) ∷ []) ∷ []) ((procedure (Y.BlockOf
    (head Y.ProcedureBlock 1 0 1) (Y.StmtThen [] (Y.OnUnit C.Endfile (Y.BlockOf (head Y.SimpleUnit 1 1 2) (Y.StmtThen []
    (Y.Goto 0 (codes "L") 2) (Y.EndOfList []))) 2) (Y.StmtThen ((codes "L2") ∷ []) (Y.Get None ((get_pair ((Y.GetScalar (whole
    (automatic 1 0 0))) ∷ []) (T.FormatThen place 1 (T.TextFormat (Some 5)) T.NoFormat)) ∷ []) 2) (Y.StmtThen [] (Y.Put None
    ((put_pair ((Y.PutValue (Y.TextValue (Y.TextIn (whole (automatic 1 0 0))))) ∷ []) (T.FormatThen place 1 (T.TextFormat
    (Some 5)) T.NoFormat)) ∷ []) 2) (Y.StmtThen [] (Y.Goto 0 (codes "L2") 2) (Y.StmtThen ((codes "L") ∷ []) (Y.Put None
    ((put_pair ((Y.PutValue (Y.TextValue (Y.TextConstant (codes " END")))) ∷ []) (T.FormatThen place 1 (T.TextFormat None)
    T.NoFormat)) ∷ []) 2) (Y.EndOfList []))))))) [] None) ∷ [])

read_texts_until_endfile-runs :
    run_of (fitted read_texts_until_endfile 1024 256) 20000 read_texts_until_endfile (codes "12") ≡ Shows (record {
      acts = 14;
      output = codes "12    END" ++ (10 ∷ []);
      raised =
          ((C.Endfile, 40) ∷ []);
      end = E.Finished;
    })
read_texts_until_endfile-runs = refl

-- T: PROC OPTIONS(MAIN);
-- DCL X FIXED BIN(31); ON ENDFILE(SYSIN) GOTO L; L2: GET EDIT (X) (F(5)); PUT EDIT (X) (F(4)); GOTO L2; L: PUT EDIT (' END')
-- (A);
-- END T;
abbrev read_until_endfile : Y.Program
read_until_endfile =
    program ([] ∷ ((scalar Y.AutomaticClass (Y.FixedLeaf 31)) ∷ []) ∷ []) ((procedure (Y.BlockOf (head Y.ProcedureBlock 1 0 1)
    (Y.StmtThen [] (Y.OnUnit C.Endfile (Y.BlockOf (head Y.SimpleUnit 1 1 2) (Y.StmtThen [] (Y.Goto 0 (codes "L") 2)
    (Y.EndOfList []))) 2) (Y.StmtThen ((codes "L2") ∷ []) (Y.Get None ((get_pair ((Y.GetScalar (whole (automatic 1 0 0))) ∷
    []) (T.FormatThen place 1 (T.FixedFormat 5) T.NoFormat)) ∷ []) 2) (Y.StmtThen [] (Y.Put None ((put_pair ((Y.PutValue
    (Y.NumberValue 31 (Y.NumberIn (whole (automatic 1 0 0))))) ∷ []) (T.FormatThen place 1 (T.FixedFormat 4) T.NoFormat)) ∷
    []) 2) (Y.StmtThen [] (Y.Goto 0 (codes "L2") 2) (Y.StmtThen ((codes "L") ∷ []) (Y.Put None ((put_pair ((Y.PutValue
    (Y.TextValue (Y.TextConstant (codes " END")))) ∷ []) (T.FormatThen place 1 (T.TextFormat None) T.NoFormat)) ∷ []) 2)
    (Y.EndOfList []))))))) [] None) ∷ [])

read_until_endfile-runs :
    run_of (fitted read_until_endfile 1024 256) 20000 read_until_endfile (codes "12") ≡ Shows (record {
      acts = 14;
      output = codes "  12 END" ++ (10 ∷ []);
      raised = ((C.Endfile, 40)
          ∷ []);
      end = E.Finished;
    })
read_until_endfile-runs = refl

-- T: PROC OPTIONS(MAIN);
-- DCL C CHAR(3) INIT('ABC'); PUT EDIT (SUBSTR(C,4),'!') (A,A); PUT EDIT (SUBSTR(C,5)) (A);
-- END T;
abbrev substr_at_the_end : Y.Program
substr_at_the_end =
    program ([] ∷ ((declared Y.AutomaticClass ((member 0 0) ∷ []) ((leaf (Y.CharacterLeaf (Y.ConstantExtent (pos 3))) []
    ((initial 1 (T.InitialText (codes "ABC"))) ∷ [])) ∷ []) None []) ∷ []) ∷ []) ((procedure (Y.BlockOf (head Y.ProcedureBlock
    1 0 1) (Y.StmtThen [] (Y.Put None ((put_pair ((Y.PutValue (Y.TextValue (Y.SubstringFrom (Y.TextIn (whole (automatic 1 0
    0))) (Y.NumberConstant 4)))) ∷ (Y.PutValue (Y.TextValue (Y.TextConstant (codes "!")))) ∷ []) (T.FormatThen place 1
    (T.TextFormat None) (T.FormatThen place 1 (T.TextFormat None) T.NoFormat))) ∷ []) 2) (Y.StmtThen [] (Y.Put None ((put_pair
    ((Y.PutValue (Y.TextValue (Y.SubstringFrom (Y.TextIn (whole (automatic 1 0 0))) (Y.NumberConstant 5)))) ∷ [])
    (T.FormatThen place 1 (T.TextFormat None) T.NoFormat)) ∷ []) 2) (Y.EndOfList [])))) [] None) ∷ [])

substr_at_the_end-runs :
    run_of (fitted substr_at_the_end 1024 256) 20000 substr_at_the_end [] ≡ Shows (record {
      acts = 7;
      output = codes "!" ++ (10 ∷ []);
      raised = ((C.Error, 103) ∷ []);
      end =
          (E.Error 103 2);
    })
substr_at_the_end-runs = refl

-- T: PROC OPTIONS(MAIN);
-- PUT EDIT ('A'||'B') (A);
-- END T;
abbrev texts_joined : Y.Program
texts_joined =
    program ([] ∷ [] ∷ []) ((procedure (Y.BlockOf (head Y.ProcedureBlock 1 0 1) (Y.StmtThen [] (Y.Put None ((put_pair
    ((Y.PutValue (Y.TextValue (Y.Joined (Y.TextConstant (codes "A")) (Y.TextConstant (codes "B"))))) ∷ []) (T.FormatThen place
    1 (T.TextFormat None) T.NoFormat)) ∷ []) 2) (Y.EndOfList []))) [] None) ∷ [])

texts_joined-runs :
    run_of (fitted texts_joined 1024 256) 20000 texts_joined [] ≡ Shows (record { acts = 4; output = codes "AB" ++ (10 ∷ []); raised = []; end = E.Finished })
texts_joined-runs = refl

-- T: PROC OPTIONS(MAIN);
-- ON ERROR BEGIN; PUT EDIT ('OUT') (A); STOP; END; CALL Q; P: PROC; SIGNAL ERROR; END P; Q: PROC; ON ERROR BEGIN; PUT EDIT
-- ('IN',ONCODE()) (A,F(4)); STOP; END; CALL P; END Q;
-- END T;
abbrev unit_found_dynamically : Y.Program
unit_found_dynamically =
    program ([] ∷ [] ∷ [] ∷ [] ∷ [] ∷ [] ∷ []) ((procedure (Y.BlockOf (head Y.ProcedureBlock 1 0 1) (Y.StmtThen [] (Y.OnUnit
    C.Error (Y.BlockOf (head Y.UnitBlock 2 1 2) (Y.StmtThen [] (Y.Put None ((put_pair ((Y.PutValue (Y.TextValue
    (Y.TextConstant (codes "OUT")))) ∷ []) (T.FormatThen place 1 (T.TextFormat None) T.NoFormat)) ∷ []) 2) (Y.StmtThen []
    (Y.Stop 2) (Y.EndOfList [])))) 2) (Y.StmtThen [] (Y.CallProcedure (Y.Calling 4 0 Y.NoArgument) 2) (Y.EndOfList [])))) []
    None) ∷ (procedure (Y.BlockOf (head Y.ProcedureBlock 3 1 2) (Y.StmtThen [] (Y.Signal C.Error 2) (Y.EndOfList []))) []
    None) ∷ (procedure (Y.BlockOf (head Y.ProcedureBlock 4 1 2) (Y.StmtThen [] (Y.OnUnit C.Error (Y.BlockOf (head Y.UnitBlock
    5 2 2) (Y.StmtThen [] (Y.Put None ((put_pair ((Y.PutValue (Y.TextValue (Y.TextConstant (codes "IN")))) ∷ (Y.PutValue
    (Y.NumberValue 31 Y.OnCode)) ∷ []) (T.FormatThen place 1 (T.TextFormat None) (T.FormatThen place 1 (T.FixedFormat 4)
    T.NoFormat))) ∷ []) 2) (Y.StmtThen [] (Y.Stop 2) (Y.EndOfList [])))) 2) (Y.StmtThen [] (Y.CallProcedure (Y.Calling 3 0
    Y.NoArgument) 2) (Y.EndOfList [])))) [] None) ∷ [])

unit_found_dynamically-runs :
    run_of (fitted unit_found_dynamically 1024 256) 20000 unit_found_dynamically [] ≡ Shows (record {
      acts = 15;
      output = codes "IN 199" ++ (10 ∷ []);
      raised = ((C.Error, 199) ∷ []);
      end = E.Stopped;
    })
unit_found_dynamically-runs = refl

-- T: PROC OPTIONS(MAIN);
-- DCL 1 S(2), 2 A FIXED BIN(31), 2 B CHAR(1), 1 R(2), 2 A FIXED BIN(31), 2 B CHAR(1); GET EDIT (S) (F(1),A(1)); R = S;
-- PUT EDIT (R) (F(2),A);
-- END T;
abbrev up_to_two : Y.Bounds
up_to_two = bounds (Y.ConstantExtent (pos 1)) (Y.ConstantExtent (pos 2))

abbrev structures : Y.DeclaredVariable
structures =
    declared Y.AutomaticClass (member 0 1 ∷ member 1 0 ∷ member 1 0 ∷ []) (leaf (Y.FixedLeaf 31) (up_to_two ∷ []) [] ∷ leaf (Y.CharacterLeaf (Y.ConstantExtent (pos 1))) (up_to_two ∷ []) [] ∷ []) None []

abbrev both : ℕ → Y.Reference
both index = Y.Referring (automatic 1 0 index) Y.NotLocated (part 0 2) Y.NoNumber

abbrev structures_read : Y.Program
structures_read =
    program ([] ∷ (structures ∷ structures ∷ []) ∷ []) (procedure (Y.BlockOf (head Y.ProcedureBlock 1 0 1)
    (Y.StmtThen [] (Y.Get None (get_pair (Y.GetAggregate (both 0) ∷ []) (T.FormatThen place 1 (T.FixedFormat 1) (T.FormatThen place 1 (T.TextFormat (Some 1)) T.NoFormat)) ∷ []) 2)
    (Y.StmtThen [] (Y.AssignAggregate (both 1) (both 0) 2)
    (Y.StmtThen [] (Y.Put None (put_pair (Y.PutAggregate (both 1) ∷ []) (T.FormatThen place 1 (T.FixedFormat 2) (T.FormatThen place 1 (T.TextFormat None) T.NoFormat)) ∷ []) 3)
    (Y.EndOfList []))))) [] None ∷ [])

structures_read-runs :
    run_of (fitted structures_read 1024 256) 20000 structures_read (codes "1X2Y") ≡ Shows (record { acts = 13; output = codes " 1X 2Y" ++ (10 ∷ []); raised = []; end = E.Finished })
structures_read-runs = refl

structures_cut :
    run_of (fitted structures_read 1024 256) 20000 structures_read (codes "1X2") ≡ Shows (record { acts = 8; output = []; raised = (C.Endfile, 40) ∷ (C.Error, 40) ∷ []; end = E.Error 40 2 })
structures_cut = refl
