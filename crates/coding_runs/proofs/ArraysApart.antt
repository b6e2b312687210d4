-- A program with arrays that do not match: what its image shows is what the storage machine shows.
use Rattle.std.proofs.Common.{◌≡◌, pos, [], ◌∷◌, None, refl}
use lib.Chars.{codes}
use Rattle.pli_language.specs.Tree as T
use Rattle.pli_typing.specs.TypedTree as Y
use Rattle.coding_runs.proofs.RowPieces.{place, automatic, parameter, part, bounds, initial, leaf, evaluation, member, declared, head, put_pair, procedure, program}
use Rattle.coding_runs.proofs.Running.{fitted, run_of}
use Rattle.coding_runs.proofs.StorageMachine.{machine_shows, computing}

-- T: PROC OPTIONS(MAIN);
-- DCL A(2) FIXED BIN(31), B(3) FIXED BIN(31), N FIXED BIN(31) INIT(2), D(N) FIXED BIN(31);
-- CALL S(B); PUT EDIT ('OFF') (A);
-- S: PROC(X); DCL X(*) FIXED BIN(31); D = 1; D = A; D = X; END S;
-- END T;
abbrev arrays_apart : Y.Program
arrays_apart =
    program ([] ∷ (((declared Y.AutomaticClass ((member 0 1) ∷ []) ((leaf (Y.FixedLeaf 31) ((bounds (Y.ConstantExtent (pos
    1)) (Y.ConstantExtent (pos 2))) ∷ []) []) ∷ []) None []) ∷ (declared Y.AutomaticClass ((member 0 1) ∷ []) ((leaf
    (Y.FixedLeaf 31) ((bounds (Y.ConstantExtent (pos 1)) (Y.ConstantExtent (pos 3))) ∷ []) []) ∷ []) None []) ∷ (declared
    Y.AutomaticClass ((member 0 0) ∷ []) ((leaf (Y.FixedLeaf 31) [] ((initial 1 (T.InitialNumber (pos 2))) ∷ [])) ∷ [])
    None []) ∷ (declared Y.AutomaticClass ((member 0 1) ∷ []) ((leaf (Y.FixedLeaf 31) ((bounds (Y.ConstantExtent (pos 1))
    (Y.EvaluatedExtent 0)) ∷ []) []) ∷ []) None ((evaluation (Y.NumberIn (Y.Referring (automatic 1 0 2) Y.NotLocated (part
    0 1) Y.NoNumber)) (Y.BoundsCheck (bounds (Y.ConstantExtent (pos 1)) (Y.EvaluatedExtent 0)))) ∷ [])) ∷ [])) ∷
    (((declared Y.ParameterClass ((member 0 1) ∷ []) ((leaf (Y.FixedLeaf 31) ((bounds Y.StarExtent Y.StarExtent) ∷ []) [])
    ∷ []) None []) ∷ [])) ∷ []) ((procedure (Y.BlockOf (head Y.ProcedureBlock 1 0 1) (Y.StmtThen [] (Y.CallProcedure
    (Y.Calling 2 0 (Y.ArgumentThen (Y.ByReference (Y.Referring (automatic 1 0 1) Y.NotLocated (part 0 1) Y.NoNumber))
    Y.NoArgument)) 3) (Y.StmtThen [] (Y.Put None ((put_pair ((Y.PutValue (Y.TextValue (Y.TextConstant (codes "OFF")))) ∷
    []) (T.FormatThen place 1 (T.TextFormat None) T.NoFormat)) ∷ []) 3) (Y.EndOfList [])))) [] None) ∷ (procedure
    (Y.BlockOf (head Y.ProcedureBlock 2 1 4) (Y.StmtThen [] (Y.AssignElements (Y.Referring (automatic 1 0 3) Y.NotLocated
    (part 0 1) Y.NoNumber) (Y.StoredNumber 31 (Y.NumberConstant 1)) 4) (Y.StmtThen [] (Y.AssignAggregate (Y.Referring
    (automatic 1 0 3) Y.NotLocated (part 0 1) Y.NoNumber) (Y.Referring (automatic 1 0 0) Y.NotLocated (part 0 1)
    Y.NoNumber) 4) (Y.StmtThen [] (Y.AssignAggregate (Y.Referring (automatic 1 0 3) Y.NotLocated (part 0 1) Y.NoNumber)
    (Y.Referring (parameter 2 1 0) Y.NotLocated (part 0 1) Y.NoNumber) 4) (Y.EndOfList []))))) (0 ∷ []) None) ∷ [])

arrays_apart_agree : run_of (fitted arrays_apart 1536 1024) 20000 arrays_apart [] ≡ machine_shows arrays_apart []
unfolding computing
arrays_apart_agree = refl
