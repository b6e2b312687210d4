-- Elements by simple subscripts and by others, and what lies outside: what the images show is what the storage
-- machine shows.
use Rattle.std.proofs.Common.{◌≡◌, ℕ, ℤ, pos, negsuc, List, [], ◌∷◌, Some, None, refl}
use lib.Chars.{codes}
use Rattle.pli_language.specs.declared.condition.Condition.TheVariants as C
use Rattle.pli_typing.specs.TypedTree as Y
use Rattle.coding_runs.proofs.RowPieces.{automatic, whole, bounds, leaf, scalar, member, declared, head, procedure}
use Rattle.coding_runs.proofs.RowPieces.{program}
use Rattle.coding_runs.proofs.FormPieces.{n, minus, text, num, at, const, up_to, line, list, set, set_text, call}
use Rattle.coding_runs.proofs.FormPieces.{put_numbers, put_texts, simple_unit}
use Rattle.coding_runs.proofs.Running.{fitted, run_of}
use Rattle.coding_runs.proofs.StorageMachine.{machine_shows, computing}

abbrev between : ℤ → ℤ → Y.Bounds
between l u = bounds (Y.ConstantExtent l) (Y.ConstantExtent u)

abbrev array : Y.LeafType → List Y.Bounds → Y.DeclaredVariable
array type bs = declared Y.AutomaticClass (member 0 1 ∷ []) (leaf type bs [] ∷ []) None []

abbrev k : Y.Variable
k = automatic 1 0 0

abbrev own : (index : ℕ) → List Y.Number → Y.Reference
own index xs = at (automatic 1 0 index) 0 xs

abbrev element : (index : ℕ) → List Y.Number → Y.Number
element index xs = Y.NumberIn (own index xs)

abbrev plus : Y.Number → Y.Number → Y.Number
plus x y = Y.Calculated Y.Sum x y

-- K FIXED(31), A(0:2) FIXED(31), B(-2:1) FIXED(15), M(2,3) FIXED(31), Q(-2**31:-2**31+1) FIXED(31), T(2) CHAR(2), and
-- the function F, which sets K to 1 and gives 3
abbrev variables : List Y.DeclaredVariable
variables =
    scalar Y.AutomaticClass (Y.FixedLeaf 31)
    ∷ array (Y.FixedLeaf 31) (between (pos 0) (pos 2) ∷ [])
    ∷ array (Y.FixedLeaf 15) (between (negsuc 1) (pos 1) ∷ [])
    ∷ array (Y.FixedLeaf 31) (up_to 2 ∷ up_to 3 ∷ [])
    ∷ array (Y.FixedLeaf 31) (between (negsuc 2147483647) (negsuc 2147483646) ∷ [])
    ∷ array (Y.CharacterLeaf (const 2)) (up_to 2 ∷ []) ∷ []

abbrev with_function : List Y.Stmt → Y.Program
with_function statements =
    program ([] ∷ variables ∷ [] ∷ [])
    (procedure (Y.BlockOf (head Y.ProcedureBlock 1 0 1) (list statements)) [] None
    ∷ procedure
    (Y.BlockOf (head Y.ProcedureBlock 2 1 2)
    (list (set (whole k) 31 (n 1) ∷ Y.ReturnValue (Y.FixedLeaf 31) (Y.StoredNumber 31 (n 3)) line ∷ [])))
    [] (Some (Y.FixedLeaf 31)) ∷ [])

abbrev changed : Y.Number
changed = Y.NumberFrom (call 2 0 [])

-- a subscript before a function that changes it, too
abbrev elements_program : Y.Program
elements_program =
    with_function
    (set (whole k) 31 (n 2)
    ∷ set (own 1 (num k ∷ [])) 31 (n 5)
    ∷ set (own 3 (num k ∷ n 1 ∷ [])) 31 (plus (element 1 (num k ∷ [])) (n 1))
    ∷ set (own 3 (num k ∷ changed ∷ [])) 31 (n 7)
    ∷ set (own 3 (plus (num k) (n 1) ∷ num k ∷ [])) 31 (n 8)
    ∷ set (own 2 (num k ∷ [])) 15 (n 9)
    ∷ set (own 2 (minus (n 2) ∷ [])) 15 (element 2 (num k ∷ []))
    ∷ set (whole k) 31 (minus (n 2147483647))
    ∷ set (own 4 (num k ∷ [])) 31 (n 4)
    ∷ set_text (own 5 (n 2 ∷ [])) (text (codes "AB"))
    ∷ put_numbers
    (element 1 (n 2 ∷ []) ∷ element 2 (minus (n 2) ∷ []) ∷ element 3 (n 2 ∷ n 1 ∷ []) ∷ element 3 (n 2 ∷ n 3 ∷ [])
    ∷ element 4 (num k ∷ []) ∷ [])
    ∷ put_texts (Y.TextIn (own 5 (n 2 ∷ [])) ∷ [])
    ∷ [])

elements_agree : run_of (fitted elements_program 2048 64) 20000 elements_program [] ≡ machine_shows elements_program []
unfolding computing
elements_agree = refl

-- the value comes before the subscript, which lies below its bounds
abbrev below_program : Y.Program
below_program =
    with_function
    (set (whole k) 31 (minus (n 3))
    ∷ Y.OnUnit C.ZeroDivide (simple_unit 1 1 (put_texts (text (codes "Z") ∷ []))) line
    ∷ set (own 2 (num k ∷ [])) 15 (Y.Calculated Y.Quotient (n 1) (n 0))
    ∷ [])

below_agrees : run_of (fitted below_program 1024 64) 20000 below_program [] ≡ machine_shows below_program []
unfolding computing
below_agrees = refl
