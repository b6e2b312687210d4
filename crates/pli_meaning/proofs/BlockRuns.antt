-- Worked programs with blocks, procedures and loops, computed on the storage machine from their typed trees.
use Rattle.std.proofs.Common.{◌≡◌, pos, [], ◌∷◌, ◌++◌, Some, None, map, refl}
use lib.Chars.{codes}
use Rattle.pli_language.specs.declared.condition.Condition.TheVariants as C
use Rattle.pli_meaning.specs.declared.outcome.End.TheVariants as E
use Rattle.pli_meaning.specs.declared.outcome.Limit.TheVariants as L
use Rattle.pli_typing.specs.TypedTree.{Negative}
use Rattle.pli_language.specs.Tree as T
use Rattle.pli_typing.specs.TypedTree as Y
use Rattle.pli_meaning.proofs.RowPieces.{place, automatic, parameter, whole, plain, scalar, part, bounds, initial, leaf, evaluation, member, declared, head, put_pair, procedure, program}
use Rattle.pli_meaning.proofs.RowRuns.{run_of, run_within, running, computing}

-- T: PROC OPTIONS(MAIN);
-- CALL P(3); P: PROC(N); DCL N FIXED BIN(31), A(N) FIXED BIN(31); A = 7; A(2) = 1; PUT EDIT (A) (F(2)); END P;
-- END T;
abbrev adjustable_array : Y.Program
adjustable_array =
    program ([] ∷ [] ∷ ((scalar Y.ParameterClass (Y.FixedLeaf 31)) ∷ (declared Y.AutomaticClass ((member 0 1) ∷ []) ((leaf
    (Y.FixedLeaf 31) ((bounds (Y.ConstantExtent (pos 1)) (Y.EvaluatedExtent 0)) ∷ []) []) ∷ []) None ((evaluation (Y.NumberIn
    (whole (parameter 2 1 0))) (Y.BoundsCheck (bounds (Y.ConstantExtent (pos 1)) (Y.EvaluatedExtent 0)))) ∷ [])) ∷ []) ∷ [])
    ((procedure (Y.BlockOf (head Y.ProcedureBlock 1 0 1) (Y.StmtThen [] (Y.CallProcedure (Y.Calling 2 0 (Y.ArgumentThen
    (Y.ByCopy (Y.FixedLeaf 31) (Y.StoredNumber 31 (Y.NumberConstant 3))) Y.NoArgument)) 2) (Y.EndOfList []))) [] None) ∷
    (procedure (Y.BlockOf (head Y.ProcedureBlock 2 1 2) (Y.StmtThen [] (Y.AssignElements (whole (automatic 2 1 1))
    (Y.StoredNumber 31 (Y.NumberConstant 7)) 2) (Y.StmtThen [] (Y.Assign (Y.Referring (automatic 2 1 1) Y.NotLocated (part 0
    1) (Y.NumberThen (Y.NumberConstant 2) Y.NoNumber)) (Y.StoredNumber 31 (Y.NumberConstant 1)) 2) (Y.StmtThen [] (Y.Put None
    ((put_pair ((Y.PutAggregate (whole (automatic 2 1 1))) ∷ []) (T.FormatThen place 1 (T.FixedFormat 2) T.NoFormat)) ∷ []) 2)
    (Y.EndOfList []))))) (0 ∷ []) None) ∷ [])

adjustable_array-runs :
    run_of adjustable_array [] ≡ Some (record { acts = 11; output = codes " 7 1 7" ++ (10 ∷ []); raised = []; end = E.Finished })
unfolding computing
adjustable_array-runs = refl

-- T: PROC OPTIONS(MAIN);
-- CALL P(3); P: PROC(N); DCL N FIXED BIN(31), A(N) FIXED BIN(31); A = 7; A(4) = 1; PUT EDIT (A) (F(2)); END P;
-- END T;
abbrev adjustable_array_passed : Y.Program
adjustable_array_passed =
    program ([] ∷ [] ∷ ((scalar Y.ParameterClass (Y.FixedLeaf 31)) ∷ (declared Y.AutomaticClass ((member 0 1) ∷ []) ((leaf
    (Y.FixedLeaf 31) ((bounds (Y.ConstantExtent (pos 1)) (Y.EvaluatedExtent 0)) ∷ []) []) ∷ []) None ((evaluation (Y.NumberIn
    (whole (parameter 2 1 0))) (Y.BoundsCheck (bounds (Y.ConstantExtent (pos 1)) (Y.EvaluatedExtent 0)))) ∷ [])) ∷ []) ∷ [])
    ((procedure (Y.BlockOf (head Y.ProcedureBlock 1 0 1) (Y.StmtThen [] (Y.CallProcedure (Y.Calling 2 0 (Y.ArgumentThen
    (Y.ByCopy (Y.FixedLeaf 31) (Y.StoredNumber 31 (Y.NumberConstant 3))) Y.NoArgument)) 2) (Y.EndOfList []))) [] None) ∷
    (procedure (Y.BlockOf (head Y.ProcedureBlock 2 1 2) (Y.StmtThen [] (Y.AssignElements (whole (automatic 2 1 1))
    (Y.StoredNumber 31 (Y.NumberConstant 7)) 2) (Y.StmtThen [] (Y.Assign (Y.Referring (automatic 2 1 1) Y.NotLocated (part 0
    1) (Y.NumberThen (Y.NumberConstant 4) Y.NoNumber)) (Y.StoredNumber 31 (Y.NumberConstant 1)) 2) (Y.StmtThen [] (Y.Put None
    ((put_pair ((Y.PutAggregate (whole (automatic 2 1 1))) ∷ []) (T.FormatThen place 1 (T.FixedFormat 2) T.NoFormat)) ∷ []) 2)
    (Y.EndOfList []))))) (0 ∷ []) None) ∷ [])

adjustable_array_passed-runs :
    run_of adjustable_array_passed [] ≡ Some (record { acts = 8; output = []; raised = ((C.Error, 102) ∷ []); end = (E.Error 102 2) })
unfolding computing
adjustable_array_passed-runs = refl

-- T: PROC OPTIONS(MAIN);
-- DCL I FIXED BIN(31) INIT(1); CALL P(I); CALL P((I)); PUT EDIT (I) (F(2)); P: PROC(K); DCL K FIXED BIN(31); K = K + 1; END
-- P;
-- END T;
abbrev argument_by_reference : Y.Program
argument_by_reference =
    program ([] ∷ ((declared Y.AutomaticClass ((member 0 0) ∷ []) ((leaf (Y.FixedLeaf 31) [] ((initial 1 (T.InitialNumber (pos
    1))) ∷ [])) ∷ []) None []) ∷ []) ∷ ((scalar Y.ParameterClass (Y.FixedLeaf 31)) ∷ []) ∷ []) ((procedure (Y.BlockOf (head
    Y.ProcedureBlock 1 0 1) (Y.StmtThen [] (Y.CallProcedure (Y.Calling 2 0 (Y.ArgumentThen (Y.ByReference (whole (automatic 1
    0 0))) Y.NoArgument)) 2) (Y.StmtThen [] (Y.CallProcedure (Y.Calling 2 0 (Y.ArgumentThen (Y.ByCopy (Y.FixedLeaf 31)
    (Y.StoredNumber 31 (Y.NumberIn (whole (automatic 1 0 0))))) Y.NoArgument)) 2) (Y.StmtThen [] (Y.Put None ((put_pair
    ((Y.PutValue (Y.NumberValue 31 (Y.NumberIn (whole (automatic 1 0 0))))) ∷ []) (T.FormatThen place 1 (T.FixedFormat 2)
    T.NoFormat)) ∷ []) 2) (Y.EndOfList []))))) [] None) ∷ (procedure (Y.BlockOf (head Y.ProcedureBlock 2 1 2) (Y.StmtThen []
    (Y.Assign (whole (parameter 2 1 0)) (Y.StoredNumber 31 (Y.Calculated Y.Sum (Y.NumberIn (whole (parameter 2 1 0)))
    (Y.NumberConstant 1))) 2) (Y.EndOfList []))) (0 ∷ []) None) ∷ [])

argument_by_reference-runs :
    run_of argument_by_reference [] ≡ Some (record { acts = 10; output = codes " 2" ++ (10 ∷ []); raised = []; end = E.Finished })
unfolding computing
argument_by_reference-runs = refl

-- T: PROC OPTIONS(MAIN);
-- DCL A(262140) FIXED BIN(31);
-- END T;
abbrev automatic_just_fits : Y.Program
automatic_just_fits =
    program ([] ∷ ((declared Y.AutomaticClass ((member 0 1) ∷ []) ((leaf (Y.FixedLeaf 31) ((bounds (Y.ConstantExtent (pos 1))
    (Y.ConstantExtent (pos 262140))) ∷ []) []) ∷ []) None []) ∷ []) ∷ []) ((procedure (Y.BlockOf (head Y.ProcedureBlock 1 0 1)
    (Y.EndOfList [])) [] None) ∷ [])

automatic_just_fits-runs :
    run_of automatic_just_fits [] ≡ Some (record { acts = 2; output = []; raised = []; end = E.Finished })
unfolding computing
automatic_just_fits-runs = refl

-- T: PROC OPTIONS(MAIN);
-- DCL A(262141) FIXED BIN(31);
-- END T;
abbrev automatic_one_too_many : Y.Program
automatic_one_too_many =
    program ([] ∷ ((declared Y.AutomaticClass ((member 0 1) ∷ []) ((leaf (Y.FixedLeaf 31) ((bounds (Y.ConstantExtent (pos 1))
    (Y.ConstantExtent (pos 262141))) ∷ []) []) ∷ []) None []) ∷ []) ∷ []) ((procedure (Y.BlockOf (head Y.ProcedureBlock 1 0 1)
    (Y.EndOfList [])) [] None) ∷ [])

automatic_one_too_many-runs :
    run_of automatic_one_too_many [] ≡ Some (record { acts = 1; output = []; raised = []; end = (E.Limit L.Automatic) })
unfolding computing
automatic_one_too_many-runs = refl

-- T: PROCEDURE OPTIONS(MAIN); PUT EDIT (1+2) (F(5)); END T;
abbrev bound_of_five_steps : Y.Program
bound_of_five_steps =
    program ([] ∷ [] ∷ []) ((procedure (Y.BlockOf (head Y.ProcedureBlock 1 0 1) (Y.StmtThen [] (Y.Put None ((put_pair
    ((Y.PutValue (Y.NumberValue 31 (Y.Calculated Y.Sum (Y.NumberConstant 1) (Y.NumberConstant 2)))) ∷ []) (T.FormatThen place
    1 (T.FixedFormat 5) T.NoFormat)) ∷ []) 1) (Y.EndOfList []))) [] None) ∷ [])

bound_of_five_steps-runs :
    run_of bound_of_five_steps [] ≡ Some (record { acts = 4; output = codes "    3" ++ (10 ∷ []); raised = []; end = E.Finished })
unfolding computing
bound_of_five_steps-runs = refl

-- T: PROC OPTIONS(MAIN);
-- PUT EDIT (F(400)) (F(6)); F: PROC(N) RETURNS(FIXED BIN(31)); DCL N FIXED BIN(31); IF N = 0 THEN RETURN(0); RETURN(N +
-- F(N-1)); END F;
-- END T;
abbrev deep_recursion_in_bound : Y.Program
deep_recursion_in_bound =
    program ([] ∷ [] ∷ ((scalar Y.ParameterClass (Y.FixedLeaf 31)) ∷ []) ∷ []) ((procedure (Y.BlockOf (head Y.ProcedureBlock 1
    0 1) (Y.StmtThen [] (Y.Put None ((put_pair ((Y.PutValue (Y.NumberValue 31 (Y.NumberFrom (Y.Calling 2 0 (Y.ArgumentThen
    (Y.ByCopy (Y.FixedLeaf 31) (Y.StoredNumber 31 (Y.NumberConstant 400))) Y.NoArgument))))) ∷ []) (T.FormatThen place 1
    (T.FixedFormat 6) T.NoFormat)) ∷ []) 2) (Y.EndOfList []))) [] None) ∷ (procedure (Y.BlockOf (head Y.ProcedureBlock 2 1 2)
    (Y.StmtThen [] (Y.If (Y.NumbersCompared Y.IsEqual (Y.NumberIn (whole (parameter 2 1 0))) (Y.NumberConstant 0))
    (Y.ReturnValue (Y.FixedLeaf 31) (Y.StoredNumber 31 (Y.NumberConstant 0)) 2) 2) (Y.StmtThen [] (Y.ReturnValue (Y.FixedLeaf
    31) (Y.StoredNumber 31 (Y.Calculated Y.Sum (Y.NumberIn (whole (parameter 2 1 0))) (Y.NumberFrom (Y.Calling 2 0
    (Y.ArgumentThen (Y.ByCopy (Y.FixedLeaf 31) (Y.StoredNumber 31 (Y.Calculated Y.Difference (Y.NumberIn (whole (parameter 2 1
    0))) (Y.NumberConstant 1)))) Y.NoArgument))))) 2) (Y.EndOfList [])))) (0 ∷ []) (Some (Y.FixedLeaf 31))) ∷ [])

deep_recursion_in_bound-runs :
    run_of deep_recursion_in_bound [] ≡ Some (record { acts = 1207; output = codes " 80200" ++ (10 ∷ []); raised = []; end = E.Finished })
unfolding computing
deep_recursion_in_bound-runs = refl

-- T: PROC OPTIONS(MAIN);
-- DCL I FIXED BIN(31); DO I = 3 TO 1 BY -1; PUT EDIT (I) (F(2)); END; PUT EDIT (I) (F(2));
-- END T;
abbrev do_counts_down : Y.Program
do_counts_down =
    program ([] ∷ ((scalar Y.AutomaticClass (Y.FixedLeaf 31)) ∷ []) ∷ []) ((procedure (Y.BlockOf (head Y.ProcedureBlock 1 0 1)
    (Y.StmtThen [] (Y.DoCount (Y.NumberCounter 31 (whole (automatic 1 0 0))) (Y.NumberValue 31 (Y.NumberConstant 3)) (Some
    (Y.NumberConstant 1)) (Y.Signed Negative (Y.NumberConstant 1)) None (Y.StmtThen [] (Y.Put None ((put_pair ((Y.PutValue
    (Y.NumberValue 31 (Y.NumberIn (whole (automatic 1 0 0))))) ∷ []) (T.FormatThen place 1 (T.FixedFormat 2) T.NoFormat)) ∷
    []) 2) (Y.EndOfList [])) 2) (Y.StmtThen [] (Y.Put None ((put_pair ((Y.PutValue (Y.NumberValue 31 (Y.NumberIn (whole
    (automatic 1 0 0))))) ∷ []) (T.FormatThen place 1 (T.FixedFormat 2) T.NoFormat)) ∷ []) 2) (Y.EndOfList [])))) [] None) ∷
    [])

do_counts_down-runs :
    run_of do_counts_down [] ≡ Some (record { acts = 15; output = codes " 3 2 1 0" ++ (10 ∷ []); raised = []; end = E.Finished })
unfolding computing
do_counts_down-runs = refl

do_counts_down-goes_on :
    map (run_within do_counts_down []) (0 ∷ 4 ∷ 5 ∷ 13 ∷ 14 ∷ 15 ∷ 16 ∷ []) ≡ (
    running 0 [] [] ∷
    running 4 [] [] ∷
    running 5 (codes " 3") [] ∷
    running 13 (codes " 3 2 1") [] ∷
    running 14 (codes " 3 2 1 0") [] ∷
    Some (record { acts = 15; output = codes " 3 2 1 0" ++ (10 ∷ []); raised = []; end = E.Finished }) ∷
    Some (record { acts = 15; output = codes " 3 2 1 0" ++ (10 ∷ []); raised = []; end = E.Finished }) ∷
    [])
unfolding computing
do_counts_down-goes_on = refl

-- T: PROC OPTIONS(MAIN);
-- DCL I FIXED BIN(31); DO WHILE (I < 3); PUT EDIT (I) (F(2)); I = I + 1; END;
-- END T;
abbrev do_while_counts : Y.Program
do_while_counts =
    program ([] ∷ ((scalar Y.AutomaticClass (Y.FixedLeaf 31)) ∷ []) ∷ []) ((procedure (Y.BlockOf (head Y.ProcedureBlock 1 0 1)
    (Y.StmtThen [] (Y.DoWhile (Y.NumbersCompared Y.IsLess (Y.NumberIn (whole (automatic 1 0 0))) (Y.NumberConstant 3))
    (Y.StmtThen [] (Y.Put None ((put_pair ((Y.PutValue (Y.NumberValue 31 (Y.NumberIn (whole (automatic 1 0 0))))) ∷ [])
    (T.FormatThen place 1 (T.FixedFormat 2) T.NoFormat)) ∷ []) 2) (Y.StmtThen [] (Y.Assign (whole (automatic 1 0 0))
    (Y.StoredNumber 31 (Y.Calculated Y.Sum (Y.NumberIn (whole (automatic 1 0 0))) (Y.NumberConstant 1))) 2) (Y.EndOfList [])))
    2) (Y.EndOfList []))) [] None) ∷ [])

do_while_counts-runs :
    run_of do_while_counts [] ≡ Some (record { acts = 16; output = codes " 0 1 2" ++ (10 ∷ []); raised = []; end = E.Finished })
unfolding computing
do_while_counts-runs = refl

-- T: PROC OPTIONS(MAIN);
-- CALL R; R: PROC; CALL R; END R;
-- END T;
abbrev endless_recursion : Y.Program
endless_recursion =
    program ([] ∷ [] ∷ [] ∷ []) ((procedure (Y.BlockOf (head Y.ProcedureBlock 1 0 1) (Y.StmtThen [] (Y.CallProcedure
    (Y.Calling 2 0 Y.NoArgument) 2) (Y.EndOfList []))) [] None) ∷ (procedure (Y.BlockOf (head Y.ProcedureBlock 2 1 2)
    (Y.StmtThen [] (Y.CallProcedure (Y.Calling 2 0 Y.NoArgument) 2) (Y.EndOfList []))) [] None) ∷ [])

endless_recursion-runs :
    run_of endless_recursion [] ≡ Some (record { acts = 1001; output = []; raised = []; end = (E.Limit L.Depth) })
unfolding computing
endless_recursion-runs = refl

endless_recursion-goes_on :
    map (run_within endless_recursion []) (2 ∷ 1000 ∷ 1001 ∷ []) ≡ (
    running 2 [] [] ∷
    running 1000 [] [] ∷
    Some (record { acts = 1001; output = []; raised = []; end = E.Limit L.Depth }) ∷
    [])
unfolding computing
endless_recursion-goes_on = refl

-- T: PROC OPTIONS(MAIN); DCL 1 A, 2 I, 2 B, 3 I; A.I = 1; END;
abbrev full_match_wins : Y.Program
full_match_wins =
    program ([] ∷ ((declared Y.AutomaticClass ((member 0 0) ∷ (member 1 0) ∷ (member 1 0) ∷ (member 2 0) ∷ []) ((plain
    (Y.FixedLeaf 15)) ∷ (plain (Y.FixedLeaf 15)) ∷ []) None []) ∷ []) ∷ []) ((procedure (Y.BlockOf (head Y.ProcedureBlock 1 0
    1) (Y.StmtThen [] (Y.Assign (whole (automatic 1 0 0)) (Y.StoredNumber 15 (Y.NumberConstant 1)) 1) (Y.EndOfList []))) []
    None) ∷ [])

full_match_wins-runs :
    run_of full_match_wins [] ≡ Some (record { acts = 3; output = []; raised = []; end = E.Finished })
unfolding computing
full_match_wins-runs = refl

-- T: PROC OPTIONS(MAIN);
-- PUT EDIT (F()) (F(2));
-- F: PROC RETURNS(FIXED BIN(31)); END F;
-- END T;
abbrev function_without_value : Y.Program
function_without_value =
    program ([] ∷ [] ∷ [] ∷ []) ((procedure (Y.BlockOf (head Y.ProcedureBlock 1 0 1) (Y.StmtThen [] (Y.Put None ((put_pair
    ((Y.PutValue (Y.NumberValue 31 (Y.NumberFrom (Y.Calling 2 0 Y.NoArgument)))) ∷ []) (T.FormatThen place 1 (T.FixedFormat 2)
    T.NoFormat)) ∷ []) 2) (Y.EndOfList []))) [] None) ∷ (procedure (Y.BlockOf (head Y.ProcedureBlock 2 1 3) (Y.EndOfList []))
    [] (Some (Y.FixedLeaf 31))) ∷ [])

function_without_value-runs :
    run_of function_without_value [] ≡ Some (record { acts = 5; output = []; raised = ((C.Error, 112) ∷ []); end = (E.Error 112 3) })
unfolding computing
function_without_value-runs = refl

-- T: PROC OPTIONS(MAIN);
-- CALL P; L: PUT EDIT (1) (F(2)); STOP; P: PROC; GOTO L; PUT EDIT (2) (F(2)); END P;
-- END T;
abbrev goto_out_of_procedure : Y.Program
goto_out_of_procedure =
    program ([] ∷ [] ∷ [] ∷ []) ((procedure (Y.BlockOf (head Y.ProcedureBlock 1 0 1) (Y.StmtThen [] (Y.CallProcedure
    (Y.Calling 2 0 Y.NoArgument) 2) (Y.StmtThen ((codes "L") ∷ []) (Y.Put None ((put_pair ((Y.PutValue (Y.NumberValue 31
    (Y.NumberConstant 1))) ∷ []) (T.FormatThen place 1 (T.FixedFormat 2) T.NoFormat)) ∷ []) 2) (Y.StmtThen [] (Y.Stop 2)
    (Y.EndOfList []))))) [] None) ∷ (procedure (Y.BlockOf (head Y.ProcedureBlock 2 1 2) (Y.StmtThen [] (Y.Goto 0 (codes "L")
    2) (Y.StmtThen [] (Y.Put None ((put_pair ((Y.PutValue (Y.NumberValue 31 (Y.NumberConstant 2))) ∷ []) (T.FormatThen place 1
    (T.FixedFormat 2) T.NoFormat)) ∷ []) 2) (Y.EndOfList [])))) [] None) ∷ [])

goto_out_of_procedure-runs :
    run_of goto_out_of_procedure [] ≡ Some (record { acts = 8; output = codes " 1" ++ (10 ∷ []); raised = []; end = E.Stopped })
unfolding computing
goto_out_of_procedure-runs = refl

-- T: PROC OPTIONS(MAIN);
-- DCL (IF,THEN) FIXED BIN(31) INIT(1), ELSE FIXED BIN(31) INIT(5); IF IF = THEN THEN THEN = ELSE; ELSE ELSE = IF; PUT EDIT
-- (THEN,ELSE) (F(2));
-- END T;
abbrev names_if_then_else : Y.Program
names_if_then_else =
    program ([] ∷ ((declared Y.AutomaticClass ((member 0 0) ∷ []) ((leaf (Y.FixedLeaf 31) [] ((initial 1 (T.InitialNumber (pos
    1))) ∷ [])) ∷ []) None []) ∷ (declared Y.AutomaticClass ((member 0 0) ∷ []) ((leaf (Y.FixedLeaf 31) [] ((initial 1
    (T.InitialNumber (pos 1))) ∷ [])) ∷ []) None []) ∷ (declared Y.AutomaticClass ((member 0 0) ∷ []) ((leaf (Y.FixedLeaf 31)
    [] ((initial 1 (T.InitialNumber (pos 5))) ∷ [])) ∷ []) None []) ∷ []) ∷ []) ((procedure (Y.BlockOf (head Y.ProcedureBlock
    1 0 1) (Y.StmtThen [] (Y.IfElse (Y.NumbersCompared Y.IsEqual (Y.NumberIn (whole (automatic 1 0 0))) (Y.NumberIn (whole
    (automatic 1 0 1)))) (Y.Assign (whole (automatic 1 0 1)) (Y.StoredNumber 31 (Y.NumberIn (whole (automatic 1 0 2)))) 2)
    (Y.Assign (whole (automatic 1 0 2)) (Y.StoredNumber 31 (Y.NumberIn (whole (automatic 1 0 0)))) 2) 2) (Y.StmtThen [] (Y.Put
    None ((put_pair ((Y.PutValue (Y.NumberValue 31 (Y.NumberIn (whole (automatic 1 0 1))))) ∷ (Y.PutValue (Y.NumberValue 31
    (Y.NumberIn (whole (automatic 1 0 2))))) ∷ []) (T.FormatThen place 1 (T.FixedFormat 2) T.NoFormat)) ∷ []) 2) (Y.EndOfList
    [])))) [] None) ∷ [])

names_if_then_else-runs :
    run_of names_if_then_else [] ≡ Some (record { acts = 7; output = codes " 5 5" ++ (10 ∷ []); raised = []; end = E.Finished })
unfolding computing
names_if_then_else-runs = refl

-- T: PROC OPTIONS(MAIN);
-- PUT EDIT (12345) (F(4));
-- END T;
abbrev number_too_wide : Y.Program
number_too_wide =
    program ([] ∷ [] ∷ []) ((procedure (Y.BlockOf (head Y.ProcedureBlock 1 0 1) (Y.StmtThen [] (Y.Put None ((put_pair
    ((Y.PutValue (Y.NumberValue 31 (Y.NumberConstant 12345))) ∷ []) (T.FormatThen place 1 (T.FixedFormat 4) T.NoFormat)) ∷ [])
    2) (Y.EndOfList []))) [] None) ∷ [])

number_too_wide-runs :
    run_of number_too_wide [] ≡ Some (record { acts = 4; output = []; raised = ((C.Error, 105) ∷ []); end = (E.Error 105 2) })
unfolding computing
number_too_wide-runs = refl

-- T: PROCEDURE OPTIONS(MAIN); PUT EDIT (1+2) (F(5)); END T;
abbrev put_sum : Y.Program
put_sum =
    program ([] ∷ [] ∷ []) ((procedure (Y.BlockOf (head Y.ProcedureBlock 1 0 1) (Y.StmtThen [] (Y.Put None ((put_pair
    ((Y.PutValue (Y.NumberValue 31 (Y.Calculated Y.Sum (Y.NumberConstant 1) (Y.NumberConstant 2)))) ∷ []) (T.FormatThen place
    1 (T.FixedFormat 5) T.NoFormat)) ∷ []) 1) (Y.EndOfList []))) [] None) ∷ [])

put_sum-runs :
    run_of put_sum [] ≡ Some (record { acts = 4; output = codes "    3" ++ (10 ∷ []); raised = []; end = E.Finished })
unfolding computing
put_sum-runs = refl

put_sum-goes_on :
    map (run_within put_sum []) (0 ∷ 3 ∷ 4 ∷ []) ≡ (
    running 0 [] [] ∷
    running 3 (codes "    3") [] ∷
    Some (record { acts = 4; output = codes "    3" ++ (10 ∷ []); raised = []; end = E.Finished }) ∷
    [])
unfolding computing
put_sum-goes_on = refl

-- T: PROC OPTIONS(MAIN);
-- DCL I FIXED BIN(31); DO I = 'X' TO 1; END;
-- END T;
abbrev start_no_number : Y.Program
start_no_number =
    program ([] ∷ ((scalar Y.AutomaticClass (Y.FixedLeaf 31)) ∷ []) ∷ []) ((procedure (Y.BlockOf (head Y.ProcedureBlock 1 0 1)
    (Y.StmtThen [] (Y.DoCount (Y.NumberCounter 31 (whole (automatic 1 0 0))) (Y.TextValue (Y.TextConstant (codes "X"))) (Some
    (Y.NumberConstant 1)) (Y.NumberConstant 1) None (Y.EndOfList []) 2) (Y.EndOfList []))) [] None) ∷ [])

start_no_number-runs :
    run_of start_no_number [] ≡ Some (record { acts = 4; output = []; raised = ((C.Error, 104) ∷ []); end = (E.Error 104 2) })
unfolding computing
start_no_number-runs = refl

-- T: PROC OPTIONS(MAIN);
-- DCL I FIXED BIN(31); DO I = 'X' TO 1/0; END;
-- END T;
abbrev start_converted_behind_limit : Y.Program
start_converted_behind_limit =
    program ([] ∷ ((scalar Y.AutomaticClass (Y.FixedLeaf 31)) ∷ []) ∷ []) ((procedure (Y.BlockOf (head Y.ProcedureBlock 1 0 1)
    (Y.StmtThen [] (Y.DoCount (Y.NumberCounter 31 (whole (automatic 1 0 0))) (Y.TextValue (Y.TextConstant (codes "X"))) (Some
    (Y.Calculated Y.Quotient (Y.NumberConstant 1) (Y.NumberConstant 0))) (Y.NumberConstant 1) None (Y.EndOfList []) 2)
    (Y.EndOfList []))) [] None) ∷ [])

start_converted_behind_limit-runs :
    run_of start_converted_behind_limit [] ≡ Some (record {
      acts = 5;
      output = [];
      raised = ((C.ZeroDivide, 30) ∷ (C.Error, 30) ∷ []);
      end =
          (E.Error 30 2);
    })
unfolding computing
start_converted_behind_limit-runs = refl

-- T: PROC OPTIONS(MAIN);
-- DCL I FIXED BIN(1); DO I = 4 BY 1/0; END;
-- END T;
abbrev start_checked_behind_step : Y.Program
start_checked_behind_step =
    program ([] ∷ ((scalar Y.AutomaticClass (Y.FixedLeaf 1)) ∷ []) ∷ []) ((procedure (Y.BlockOf (head Y.ProcedureBlock 1 0 1)
    (Y.StmtThen [] (Y.DoCount (Y.NumberCounter 1 (whole (automatic 1 0 0))) (Y.NumberValue 31 (Y.NumberConstant 4)) None
    (Y.Calculated Y.Quotient (Y.NumberConstant 1) (Y.NumberConstant 0)) None (Y.EndOfList []) 2) (Y.EndOfList []))) [] None) ∷
    [])

start_checked_behind_step-runs :
    run_of start_checked_behind_step [] ≡ Some (record {
      acts = 5;
      output = [];
      raised = ((C.ZeroDivide, 30) ∷ (C.Error, 30) ∷ []);
      end =
          (E.Error 30 2);
    })
unfolding computing
start_checked_behind_step-runs = refl

-- T: PROC OPTIONS(MAIN);
-- PUT EDIT (2147483647+1) (F(9));
-- END T;
abbrev sum_too_large : Y.Program
sum_too_large =
    program ([] ∷ [] ∷ []) ((procedure (Y.BlockOf (head Y.ProcedureBlock 1 0 1) (Y.StmtThen [] (Y.Put None ((put_pair
    ((Y.PutValue (Y.NumberValue 31 (Y.Calculated Y.Sum (Y.NumberConstant 2147483647) (Y.NumberConstant 1)))) ∷ [])
    (T.FormatThen place 1 (T.FixedFormat 9) T.NoFormat)) ∷ []) 2) (Y.EndOfList []))) [] None) ∷ [])

sum_too_large-runs :
    run_of sum_too_large [] ≡ Some (record {
      acts = 5;
      output = [];
      raised = ((C.FixedOverflow, 20) ∷ (C.Error, 20) ∷ []);
      end =
          (E.Error 20 2);
    })
unfolding computing
sum_too_large-runs = refl

-- T: PROC OPTIONS(MAIN);
-- DCL X FIXED BIN(31); X = 5 / 0;
-- END T;
abbrev zero_divide_ends : Y.Program
zero_divide_ends =
    program ([] ∷ ((scalar Y.AutomaticClass (Y.FixedLeaf 31)) ∷ []) ∷ []) ((procedure (Y.BlockOf (head Y.ProcedureBlock 1 0 1)
    (Y.StmtThen [] (Y.Assign (whole (automatic 1 0 0)) (Y.StoredNumber 31 (Y.Calculated Y.Quotient (Y.NumberConstant 5)
    (Y.NumberConstant 0))) 2) (Y.EndOfList []))) [] None) ∷ [])

zero_divide_ends-runs :
    run_of zero_divide_ends [] ≡ Some (record {
      acts = 5;
      output = [];
      raised = ((C.ZeroDivide, 30) ∷ (C.Error, 30) ∷ []);
      end =
          (E.Error 30 2);
    })
unfolding computing
zero_divide_ends-runs = refl
