-- Worked programs with on-units: what their images show is what the storage machine shows.
use Rattle.std.proofs.Common.{◌≡◌, [], ◌∷◌, ◌++◌, None, refl}
use lib.Chars.{codes}
use Rattle.pli_language.specs.declared.condition.Condition.TheVariants as C
use Rattle.pli_meaning.specs.declared.outcome.End.TheVariants as E
use Rattle.pli_typing.specs.TypedTree.{Negative}
use Rattle.pli_language.specs.Tree as T
use Rattle.pli_typing.specs.TypedTree as Y
use Rattle.coding_runs.proofs.RowPieces.{place, automatic, whole, scalar, head, put_pair, procedure, program}
use Rattle.coding_runs.proofs.Running.{fitted, run_of, Shows}

-- T: PROC OPTIONS(MAIN);
-- DCL X FIXED BIN(31); ON ZERODIVIDE PUT EDIT (1) (F(2)); CALL Q; L: X = 1 / 0; STOP; Q: PROC; ON ZERODIVIDE PUT EDIT (2)
-- (F(2)); GOTO L; END Q;
-- END T;
abbrev goto_drops_units : Y.Program
goto_drops_units =
    program ([] ∷ ((scalar Y.AutomaticClass (Y.FixedLeaf 31)) ∷ []) ∷ [] ∷ []) ((procedure (Y.BlockOf (head Y.ProcedureBlock 1
    0 1) (Y.StmtThen [] (Y.OnUnit C.ZeroDivide (Y.BlockOf (head Y.SimpleUnit 1 1 2) (Y.StmtThen [] (Y.Put None ((put_pair
    ((Y.PutValue (Y.NumberValue 31 (Y.NumberConstant 1))) ∷ []) (T.FormatThen place 1 (T.FixedFormat 2) T.NoFormat)) ∷ []) 2)
    (Y.EndOfList []))) 2) (Y.StmtThen [] (Y.CallProcedure (Y.Calling 2 0 Y.NoArgument) 2) (Y.StmtThen ((codes "L") ∷ [])
    (Y.Assign (whole (automatic 1 0 0)) (Y.StoredNumber 31 (Y.Calculated Y.Quotient (Y.NumberConstant 1) (Y.NumberConstant
    0))) 2) (Y.StmtThen [] (Y.Stop 2) (Y.EndOfList [])))))) [] None) ∷ (procedure (Y.BlockOf (head Y.ProcedureBlock 2 1 2)
    (Y.StmtThen [] (Y.OnUnit C.ZeroDivide (Y.BlockOf (head Y.SimpleUnit 2 2 2) (Y.StmtThen [] (Y.Put None ((put_pair
    ((Y.PutValue (Y.NumberValue 31 (Y.NumberConstant 2))) ∷ []) (T.FormatThen place 1 (T.FixedFormat 2) T.NoFormat)) ∷ []) 2)
    (Y.EndOfList []))) 2) (Y.StmtThen [] (Y.Goto 0 (codes "L") 2) (Y.EndOfList [])))) [] None) ∷ [])

goto_drops_units-runs :
    run_of (fitted goto_drops_units 1024 256) 20000 goto_drops_units [] ≡ Shows (record {
      acts = 13;
      output = codes " 1" ++ (10 ∷ []);
      raised = ((C.ZeroDivide, 30) ∷ []);
      end =
          E.Stopped;
    })
goto_drops_units-runs = refl

-- T: PROC OPTIONS(MAIN);
-- DCL X FIXED BIN(31); ON FIXEDOVERFLOW; X = (-2147483647 - 1) / (-1); PUT EDIT (X) (F(12));
-- END T;
abbrev quotient_overflow : Y.Program
quotient_overflow =
    program ([] ∷ ((scalar Y.AutomaticClass (Y.FixedLeaf 31)) ∷ []) ∷ []) ((procedure (Y.BlockOf (head Y.ProcedureBlock 1 0 1)
    (Y.StmtThen [] (Y.OnUnit C.FixedOverflow (Y.BlockOf (head Y.SimpleUnit 1 1 2) (Y.StmtThen [] (Y.Null 2) (Y.EndOfList [])))
    2) (Y.StmtThen [] (Y.Assign (whole (automatic 1 0 0)) (Y.StoredNumber 31 (Y.Calculated Y.Quotient (Y.Calculated
    Y.Difference (Y.Signed Negative (Y.NumberConstant 2147483647)) (Y.NumberConstant 1)) (Y.Signed Negative (Y.NumberConstant
    1)))) 2) (Y.StmtThen [] (Y.Put None ((put_pair ((Y.PutValue (Y.NumberValue 31 (Y.NumberIn (whole (automatic 1 0 0))))) ∷
    []) (T.FormatThen place 1 (T.FixedFormat 12) T.NoFormat)) ∷ []) 2) (Y.EndOfList []))))) [] None) ∷ [])

quotient_overflow-runs :
    run_of (fitted quotient_overflow 1024 256) 20000 quotient_overflow [] ≡ Shows (record {
      acts = 9;
      output = codes " -2147483648" ++ (10 ∷ []);
      raised = ((C.FixedOverflow, 20) ∷
          []);
      end = E.Finished;
    })
quotient_overflow-runs = refl

-- T: PROC OPTIONS(MAIN);
-- DCL X FIXED BIN(31); ON ZERODIVIDE PUT EDIT (1) (F(2)); X = 1/0; REVERT ZERODIVIDE; X = 1/0;
-- END T;
abbrev revert_restores_system : Y.Program
revert_restores_system =
    program ([] ∷ ((scalar Y.AutomaticClass (Y.FixedLeaf 31)) ∷ []) ∷ []) ((procedure (Y.BlockOf (head Y.ProcedureBlock 1 0 1)
    (Y.StmtThen [] (Y.OnUnit C.ZeroDivide (Y.BlockOf (head Y.SimpleUnit 1 1 2) (Y.StmtThen [] (Y.Put None ((put_pair
    ((Y.PutValue (Y.NumberValue 31 (Y.NumberConstant 1))) ∷ []) (T.FormatThen place 1 (T.FixedFormat 2) T.NoFormat)) ∷ []) 2)
    (Y.EndOfList []))) 2) (Y.StmtThen [] (Y.Assign (whole (automatic 1 0 0)) (Y.StoredNumber 31 (Y.Calculated Y.Quotient
    (Y.NumberConstant 1) (Y.NumberConstant 0))) 2) (Y.StmtThen [] (Y.Revert C.ZeroDivide 2) (Y.StmtThen [] (Y.Assign (whole
    (automatic 1 0 0)) (Y.StoredNumber 31 (Y.Calculated Y.Quotient (Y.NumberConstant 1) (Y.NumberConstant 0))) 2) (Y.EndOfList
    [])))))) [] None) ∷ [])

revert_restores_system-runs :
    run_of (fitted revert_restores_system 1024 256) 20000 revert_restores_system [] ≡ Shows (record {
      acts = 12;
      output = codes " 1" ++ (10 ∷ []);
      raised = ((C.ZeroDivide, 30) ∷
          (C.ZeroDivide, 30) ∷ (C.Error, 30) ∷ []);
      end = (E.Error 30 2);
    })
revert_restores_system-runs = refl

-- T: PROC OPTIONS(MAIN);
-- ON ERROR BEGIN; PUT EDIT (1) (F(2)); STOP; END; CALL Q; P: PROC; SIGNAL ERROR; END P; Q: PROC; ON ERROR BEGIN; PUT EDIT
-- (2,ONCODE()) (F(2),F(4)); STOP; END; CALL P; END Q;
-- END T;
abbrev unit_found_by_numbers : Y.Program
unit_found_by_numbers =
    program ([] ∷ [] ∷ [] ∷ [] ∷ [] ∷ [] ∷ []) ((procedure (Y.BlockOf (head Y.ProcedureBlock 1 0 1) (Y.StmtThen [] (Y.OnUnit
    C.Error (Y.BlockOf (head Y.UnitBlock 2 1 2) (Y.StmtThen [] (Y.Put None ((put_pair ((Y.PutValue (Y.NumberValue 31
    (Y.NumberConstant 1))) ∷ []) (T.FormatThen place 1 (T.FixedFormat 2) T.NoFormat)) ∷ []) 2) (Y.StmtThen [] (Y.Stop 2)
    (Y.EndOfList [])))) 2) (Y.StmtThen [] (Y.CallProcedure (Y.Calling 4 0 Y.NoArgument) 2) (Y.EndOfList [])))) [] None) ∷
    (procedure (Y.BlockOf (head Y.ProcedureBlock 3 1 2) (Y.StmtThen [] (Y.Signal C.Error 2) (Y.EndOfList []))) [] None) ∷
    (procedure (Y.BlockOf (head Y.ProcedureBlock 4 1 2) (Y.StmtThen [] (Y.OnUnit C.Error (Y.BlockOf (head Y.UnitBlock 5 2 2)
    (Y.StmtThen [] (Y.Put None ((put_pair ((Y.PutValue (Y.NumberValue 31 (Y.NumberConstant 2))) ∷ (Y.PutValue (Y.NumberValue
    31 Y.OnCode)) ∷ []) (T.FormatThen place 1 (T.FixedFormat 2) (T.FormatThen place 1 (T.FixedFormat 4) T.NoFormat))) ∷ []) 2)
    (Y.StmtThen [] (Y.Stop 2) (Y.EndOfList [])))) 2) (Y.StmtThen [] (Y.CallProcedure (Y.Calling 3 0 Y.NoArgument) 2)
    (Y.EndOfList [])))) [] None) ∷ [])

unit_found_by_numbers-runs :
    run_of (fitted unit_found_by_numbers 1024 256) 20000 unit_found_by_numbers [] ≡ Shows (record {
      acts = 15;
      output = codes " 2 199" ++ (10 ∷ []);
      raised = ((C.Error, 199) ∷ []);
      end
          = E.Stopped;
    })
unit_found_by_numbers-runs = refl
