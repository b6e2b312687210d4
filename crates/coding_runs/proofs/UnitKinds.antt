-- A program with on-units in on-units: what its image shows is what the storage machine shows.
use Rattle.std.proofs.Common.{◌≡◌, [], ◌∷◌, None, refl}
use lib.Chars.{codes}
use Rattle.pli_language.specs.declared.condition.Condition.TheVariants as C
use Rattle.pli_language.specs.Tree as T
use Rattle.pli_typing.specs.TypedTree as Y
use Rattle.coding_runs.proofs.RowPieces.{place, automatic, part, leaf, member, declared, head, put_pair, procedure, program}
use Rattle.coding_runs.proofs.Running.{fitted, run_of}
use Rattle.coding_runs.proofs.StorageMachine.{machine_shows, computing}

-- T: PROC OPTIONS(MAIN);
-- DCL I FIXED BIN(31), X FIXED BIN(31);
-- ON ZERODIVIDE BEGIN; DCL K FIXED BIN(31); K = ONCODE(); PUT EDIT ('Z',K) (A,F(3)); BEGIN; X = 1; IF K = 0 THEN GOTO
-- L; END; END;
-- ON FIXEDOVERFLOW BEGIN; X = X + 1; I = 1 / 0; PUT EDIT ('O') (A); END;
-- ON ERROR PUT EDIT ('E',ONCODE()) (A,F(4));
-- I = (2 + 3) * (7 - 1 / 0) + 4; PUT EDIT (I) (F(4)); I = 2147483647 + X; PUT EDIT (I) (F(12)); SIGNAL ZERODIVIDE;
-- SIGNAL FIXEDOVERFLOW; ON ZERODIVIDE SYSTEM; REVERT FIXEDOVERFLOW;
-- L: SIGNAL ENDFILE(SYSIN);
-- END T;
abbrev units_in_units : Y.Program
units_in_units =
    program ([] ∷ (((declared Y.AutomaticClass ((member 0 0) ∷ []) ((leaf (Y.FixedLeaf 31) [] []) ∷ []) None []) ∷
    (declared Y.AutomaticClass ((member 0 0) ∷ []) ((leaf (Y.FixedLeaf 31) [] []) ∷ []) None []) ∷ [])) ∷ (((declared
    Y.AutomaticClass ((member 0 0) ∷ []) ((leaf (Y.FixedLeaf 31) [] []) ∷ []) None []) ∷ [])) ∷ [] ∷ [] ∷ []) ((procedure
    (Y.BlockOf (head Y.ProcedureBlock 1 0 1) (Y.StmtThen [] (Y.OnUnit C.ZeroDivide (Y.BlockOf (head Y.UnitBlock 2 1 3)
    (Y.StmtThen [] (Y.Assign (Y.Referring (automatic 2 1 0) Y.NotLocated (part 0 1) Y.NoNumber) (Y.StoredNumber 31
    Y.OnCode) 3) (Y.StmtThen [] (Y.Put None ((put_pair ((Y.PutValue (Y.TextValue (Y.TextConstant (codes "Z")))) ∷
    (Y.PutValue (Y.NumberValue 31 (Y.NumberIn (Y.Referring (automatic 2 1 0) Y.NotLocated (part 0 1) Y.NoNumber)))) ∷ [])
    (T.FormatThen place 1 (T.TextFormat None) (T.FormatThen place 1 (T.FixedFormat 3) T.NoFormat))) ∷ []) 3) (Y.StmtThen
    [] (Y.Begin (Y.BlockOf (head Y.BeginBlock 3 2 3) (Y.StmtThen [] (Y.Assign (Y.Referring (automatic 1 0 1) Y.NotLocated
    (part 0 1) Y.NoNumber) (Y.StoredNumber 31 (Y.NumberConstant 1)) 3) (Y.StmtThen [] (Y.If (Y.NumbersCompared Y.IsEqual
    (Y.NumberIn (Y.Referring (automatic 2 1 0) Y.NotLocated (part 0 1) Y.NoNumber)) (Y.NumberConstant 0)) (Y.Goto 0 (codes
    "L") 3) 3) (Y.EndOfList []))))) (Y.EndOfList []))))) 3) (Y.StmtThen [] (Y.OnUnit C.FixedOverflow (Y.BlockOf (head
    Y.UnitBlock 4 1 4) (Y.StmtThen [] (Y.Assign (Y.Referring (automatic 1 0 1) Y.NotLocated (part 0 1) Y.NoNumber)
    (Y.StoredNumber 31 (Y.Calculated Y.Sum (Y.NumberIn (Y.Referring (automatic 1 0 1) Y.NotLocated (part 0 1) Y.NoNumber))
    (Y.NumberConstant 1))) 4) (Y.StmtThen [] (Y.Assign (Y.Referring (automatic 1 0 0) Y.NotLocated (part 0 1) Y.NoNumber)
    (Y.StoredNumber 31 (Y.Calculated Y.Quotient (Y.NumberConstant 1) (Y.NumberConstant 0))) 4) (Y.StmtThen [] (Y.Put None
    ((put_pair ((Y.PutValue (Y.TextValue (Y.TextConstant (codes "O")))) ∷ []) (T.FormatThen place 1 (T.TextFormat None)
    T.NoFormat)) ∷ []) 4) (Y.EndOfList []))))) 4) (Y.StmtThen [] (Y.OnUnit C.Error (Y.BlockOf (head Y.SimpleUnit 1 1 5)
    (Y.StmtThen [] (Y.Put None ((put_pair ((Y.PutValue (Y.TextValue (Y.TextConstant (codes "E")))) ∷ (Y.PutValue
    (Y.NumberValue 31 Y.OnCode)) ∷ []) (T.FormatThen place 1 (T.TextFormat None) (T.FormatThen place 1 (T.FixedFormat 4)
    T.NoFormat))) ∷ []) 5) (Y.EndOfList []))) 5) (Y.StmtThen [] (Y.Assign (Y.Referring (automatic 1 0 0) Y.NotLocated
    (part 0 1) Y.NoNumber) (Y.StoredNumber 31 (Y.Calculated Y.Sum (Y.Calculated Y.Product (Y.Calculated Y.Sum
    (Y.NumberConstant 2) (Y.NumberConstant 3)) (Y.Calculated Y.Difference (Y.NumberConstant 7) (Y.Calculated Y.Quotient
    (Y.NumberConstant 1) (Y.NumberConstant 0)))) (Y.NumberConstant 4))) 6) (Y.StmtThen [] (Y.Put None ((put_pair
    ((Y.PutValue (Y.NumberValue 31 (Y.NumberIn (Y.Referring (automatic 1 0 0) Y.NotLocated (part 0 1) Y.NoNumber)))) ∷ [])
    (T.FormatThen place 1 (T.FixedFormat 4) T.NoFormat)) ∷ []) 6) (Y.StmtThen [] (Y.Assign (Y.Referring (automatic 1 0 0)
    Y.NotLocated (part 0 1) Y.NoNumber) (Y.StoredNumber 31 (Y.Calculated Y.Sum (Y.NumberConstant 2147483647) (Y.NumberIn
    (Y.Referring (automatic 1 0 1) Y.NotLocated (part 0 1) Y.NoNumber)))) 6) (Y.StmtThen [] (Y.Put None ((put_pair
    ((Y.PutValue (Y.NumberValue 31 (Y.NumberIn (Y.Referring (automatic 1 0 0) Y.NotLocated (part 0 1) Y.NoNumber)))) ∷ [])
    (T.FormatThen place 1 (T.FixedFormat 12) T.NoFormat)) ∷ []) 6) (Y.StmtThen [] (Y.Signal C.ZeroDivide 6) (Y.StmtThen []
    (Y.Signal C.FixedOverflow 6) (Y.StmtThen [] (Y.OnSystem C.ZeroDivide 6) (Y.StmtThen [] (Y.Revert C.FixedOverflow 6)
    (Y.StmtThen ((codes "L") ∷ []) (Y.Signal C.Endfile 7) (Y.EndOfList [])))))))))))))) [] None) ∷ [])

units_in_units_agree : run_of (fitted units_in_units 1536 1024) 20000 units_in_units [] ≡ machine_shows units_in_units []
unfolding computing
units_in_units_agree = refl
