-- Values wait in registers while procedures, on-units and routines of extents run, which save them: what the image
-- shows is what the storage machine shows.
use Rattle.std.proofs.Common.{◌≡◌, ℕ, List, [], ◌∷◌, Some, None, refl}
use lib.Chars.{codes}
use Rattle.pli_language.specs.declared.condition.Condition.TheVariants as C
use Rattle.pli_typing.specs.TypedTree as Y
use Rattle.coding_runs.proofs.RowPieces.{controlled, bounds, leaf, evaluation, member, declared, head, procedure}
use Rattle.coding_runs.proofs.RowPieces.{program}
use Rattle.coding_runs.proofs.FormPieces.{n, const, line, list, put_numbers, call, do_call}
use Rattle.coding_runs.proofs.Running.{fitted, run_of}
use Rattle.coding_runs.proofs.StorageMachine.{machine_shows, computing}

-- each waits while the next one is evaluated
abbrev behind : List ℕ → Y.Number → Y.Number
behind [] x = x
behind (w ∷ ws) x = Y.Calculated Y.Difference (n w) (behind ws x)

-- seven that wait in the caller, and others in what it calls
abbrev waiting : Y.Number → Y.Number
waiting = behind (1 ∷ 2 ∷ 3 ∷ 4 ∷ 5 ∷ 6 ∷ 7 ∷ [])

abbrev others : ℕ → Y.Number
others x = behind (11 ∷ 12 ∷ 13 ∷ 14 ∷ 15 ∷ 16 ∷ 17 ∷ []) (n x)

abbrev returned : Y.Number → Y.Stmt
returned x = Y.ReturnValue (Y.FixedLeaf 31) (Y.StoredNumber 31 x) line

abbrev function : (block : ℕ) → Y.Stmts → Y.Procedure
function block body = procedure (Y.BlockOf (head Y.ProcedureBlock block 1 line) body) [] (Some (Y.FixedLeaf 31))

abbrev begun : (block level : ℕ) → List Y.Stmt → Y.Stmt
begun block level statements = Y.Begin (Y.BlockOf (head Y.BeginBlock block level line) (list statements))

abbrev called : (block : ℕ) → Y.Number
called block = Y.NumberFrom (call block 0 [])

-- RETURN from a block in a block; GOTO out of a procedure to the one that called it; ALLOCATE with an extent; and a
-- unit with a block
abbrev saving : Y.Program
saving =
    program ([]
    ∷ (declared Y.ControlledClass (member 0 1 ∷ [])
    (leaf (Y.FixedLeaf 31) (bounds (const 1) (Y.EvaluatedExtent 0) ∷ []) [] ∷ []) None
    (evaluation (others 11) (Y.BoundsCheck (bounds (const 1) (Y.EvaluatedExtent 0))) ∷ []) ∷ [])
    ∷ [] ∷ [] ∷ [] ∷ [] ∷ [] ∷ [] ∷ [] ∷ [] ∷ [])
    (procedure
    (Y.BlockOf (head Y.ProcedureBlock 1 0 line)
    (list
    (Y.OnUnit C.ZeroDivide
    (Y.BlockOf (head Y.UnitBlock 7 1 line)
    (list (begun 8 2 (Y.If (Y.NumbersCompared Y.IsLess (others 2) (n 0)) (Y.Null line) line ∷ []) ∷ []))) line
    ∷ put_numbers
    (waiting (called 2) ∷ waiting (called 4) ∷ waiting (called 6) ∷ waiting (Y.Calculated Y.Quotient (n 1) (n 0)) ∷ [])
    ∷ []))) [] None
    ∷ function 2 (list (begun 3 2 (returned (others 3) ∷ []) ∷ []))
    ∷ function 4 (Y.StmtThen [] (do_call 5 1 []) (Y.StmtThen (codes "L" ∷ []) (returned (n 5)) (Y.EndOfList [])))
    ∷ procedure
    (Y.BlockOf (head Y.ProcedureBlock 5 2 line)
    (list (Y.If (Y.NumbersCompared Y.IsLess (others 2) (n 100)) (Y.Goto 1 (codes "L") line) line ∷ []))) [] None
    ∷ function 6
    (list (Y.Allocate (Y.AllocateControlled (controlled 1 0 0) ∷ []) line
    ∷ Y.Free (Y.FreeControlled (controlled 1 0 0) ∷ []) line ∷ returned (n 8) ∷ []))
    ∷ [])

saving_agrees : run_of (fitted saving 2048 256) 20000 saving [] ≡ machine_shows saving []
unfolding computing
saving_agrees = refl
