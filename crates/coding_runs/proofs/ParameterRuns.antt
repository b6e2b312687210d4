-- Programs whose parameters are found in the list of arguments: by reference and as copies of each kind, from the
-- procedure, a block inside it and another call; what their images show is what the storage machine shows.
use Rattle.std.proofs.Common.{◌≡◌, ℕ, List, [], ◌∷◌, Some, None, refl}
use lib.Chars.{codes}
use Rattle.pli_typing.specs.TypedTree as Y
use Rattle.coding_runs.proofs.RowPieces.{automatic, parameter, based, whole, located, scalar, head, procedure, program}
use Rattle.coding_runs.proofs.FormPieces.{n, num, txt, ptr, text, const, line, list, set, set_text, set_pointer}
use Rattle.coding_runs.proofs.FormPieces.{put_numbers, put_texts, do_call}
use Rattle.coding_runs.proofs.Running.{fitted, run_of}
use Rattle.coding_runs.proofs.StorageMachine.{machine_shows, computing}

abbrev main : List Y.Stmt → Y.Procedure
main statements = procedure (Y.BlockOf (head Y.ProcedureBlock 1 0 1) (list statements)) [] None

abbrev automatic_number : Y.DeclaredVariable
automatic_number = scalar Y.AutomaticClass (Y.FixedLeaf 31)

abbrev based_number : Y.DeclaredVariable
based_number = scalar Y.BasedClass (Y.FixedLeaf 31)

abbrev reference : Y.Variable → Y.Argument
reference w = Y.ByReference (whole w)

abbrev copy_of_number : (precision : ℕ) → Y.Number → Y.Argument
copy_of_number precision y = Y.ByCopy (Y.FixedLeaf precision) (Y.StoredNumber precision y)

abbrev copy_of_text : Y.LeafType → Y.Text → Y.Argument
copy_of_text type y = Y.ByCopy type (Y.StoredText y)

abbrev plus : Y.Number → Y.Number → Y.Number
plus left right = Y.Calculated Y.Sum left right

abbrev any_text : Y.LeafType
any_text = Y.CharacterLeaf Y.StarExtent

abbrev two_at_most : Y.LeafType
two_at_most = Y.VaryingLeaf (const 2)

-- ---- a pointer and an offset

-- T: PROC OPTIONS(MAIN);
-- DCL A AREA(64), Q PTR, X FIXED BIN(31) BASED; ALLOCATE X IN(A) SET(Q); Q->X = 5; CALL R(A, Q, (Q));
-- R: PROC(B,O,L); DCL B AREA(64), O OFFSET(B), L PTR; PUT EDIT (POINTER(O,B)->X,L->X) (F(12)); L = NULL();
-- END R;
-- END T;
abbrev a : Y.Variable
a = automatic 1 0 0

abbrev q : Y.Variable
q = automatic 1 0 1

abbrev x : Y.Variable
x = based 1 0 2

abbrev b : Y.Variable
b = parameter 2 1 0

abbrev o : Y.Variable
o = parameter 2 1 1

abbrev l : Y.Variable
l = parameter 2 1 2

abbrev value_at : Y.Pointer → Y.Number
value_at locator = Y.NumberIn (located locator x)

abbrev names_program : Y.Program
names_program =
    program ([]
    ∷ (scalar Y.AutomaticClass (Y.AreaLeaf (const 64)) ∷ scalar Y.AutomaticClass Y.PointerLeaf ∷ based_number ∷ [])
    ∷ (scalar Y.ParameterClass (Y.AreaLeaf (const 64)) ∷ scalar Y.ParameterClass (Y.OffsetLeaf (Some b))
    ∷ scalar Y.ParameterClass Y.PointerLeaf ∷ [])
    ∷ [])
    (main
    (Y.Allocate (Y.AllocateBased x (Some a) (Y.SetPointer (whole q)) ∷ []) line
    ∷ set (located (ptr q) x) 31 (n 5)
    ∷ do_call 2 0
    (reference a ∷ Y.ByOffsetInParameter (ptr q) 0 ∷ Y.ByCopy Y.PointerLeaf (Y.StoredPointer (ptr q)) ∷ [])
    ∷ [])
    ∷ procedure (Y.BlockOf (head Y.ProcedureBlock 2 1 2) (list
    (put_numbers (value_at (Y.PointerInto (Y.OffsetIn (whole o)) b) ∷ value_at (ptr l) ∷ [])
    ∷ set_pointer (whole l) Y.NullPointer
    ∷ []))) (0 ∷ 1 ∷ 2 ∷ []) None ∷ [])

names_agree : run_of (fitted names_program 1536 64) 20000 names_program [] ≡ machine_shows names_program []
unfolding computing
names_agree = refl

-- ---- texts and numbers, used from a block inside

-- T: PROC OPTIONS(MAIN);
-- DCL M FIXED BIN(31); M = 7; CALL P('AB', 'CDE', M, 4); PUT EDIT (M) (F(12));
-- P: PROC(S,V,N,K); DCL S CHAR(*), V CHAR(2) VARYING, N FIXED BIN(31), K FIXED BIN(15);
-- BEGIN; N = N + K; K = K + 1; PUT EDIT (S,V) (A); V = 'F'; PUT EDIT (N,K,LENGTH(S)) (F(12)); END;
-- PUT EDIT (V) (A); END P;
-- END T;
abbrev m : Y.Variable
m = automatic 1 0 0

abbrev s : Y.Variable
s = parameter 2 1 0

abbrev v : Y.Variable
v = parameter 2 1 1

abbrev m' : Y.Variable
m' = parameter 2 1 2

abbrev k : Y.Variable
k = parameter 2 1 3

abbrev inside : Y.Stmt
inside =
    Y.Begin (Y.BlockOf (head Y.BeginBlock 3 2 line) (list
    (set (whole m') 31 (plus (num m') (num k))
    ∷ set (whole k) 15 (plus (num k) (n 1))
    ∷ put_texts (txt s ∷ txt v ∷ [])
    ∷ set_text (whole v) (text (codes "F"))
    ∷ put_numbers (num m' ∷ num k ∷ Y.LengthOf (txt s) ∷ [])
    ∷ [])))

abbrev copies_program : Y.Program
copies_program =
    program ([] ∷ (automatic_number ∷ [])
    ∷ (scalar Y.ParameterClass any_text ∷ scalar Y.ParameterClass two_at_most ∷ scalar Y.ParameterClass (Y.FixedLeaf 31)
    ∷ scalar Y.ParameterClass (Y.FixedLeaf 15) ∷ [])
    ∷ [] ∷ [])
    (main
    (set (whole m) 31 (n 7)
    ∷ do_call 2 0
    (copy_of_text any_text (text (codes "AB")) ∷ copy_of_text two_at_most (text (codes "CDE")) ∷ reference m
    ∷ copy_of_number 15 (n 4) ∷ [])
    ∷ put_numbers (num m ∷ [])
    ∷ [])
    ∷ procedure (Y.BlockOf (head Y.ProcedureBlock 2 1 2) (list (inside ∷ put_texts (txt v ∷ []) ∷ [])))
    (0 ∷ 1 ∷ 2 ∷ 3 ∷ []) None ∷ [])

copies_agree : run_of (fitted copies_program 1536 64) 20000 copies_program [] ≡ machine_shows copies_program []
unfolding computing
copies_agree = refl

-- ---- parameters that are arguments again

-- T: PROC OPTIONS(MAIN);
-- DCL M FIXED BIN(31); M = 7; CALL W(M, 4, 'A'); PUT EDIT (M) (F(12));
-- W: PROC(N,K,S) RECURSIVE; DCL N FIXED BIN(31), K FIXED BIN(15), S CHAR(*); N = N + K; K = K + 1;
-- IF K < 6 THEN CALL W(N, K, S || 'B'); PUT EDIT (S) (A); PUT EDIT (K) (F(12)); END W;
-- END T;
abbrev m2 : Y.Variable
m2 = parameter 2 1 0

abbrev k2 : Y.Variable
k2 = parameter 2 1 1

abbrev s2 : Y.Variable
s2 = parameter 2 1 2

abbrev again_program : Y.Program
again_program =
    program ([] ∷ (automatic_number ∷ [])
    ∷ (scalar Y.ParameterClass (Y.FixedLeaf 31) ∷ scalar Y.ParameterClass (Y.FixedLeaf 15)
    ∷ scalar Y.ParameterClass any_text ∷ [])
    ∷ [])
    (main
    (set (whole m) 31 (n 7)
    ∷ do_call 2 0 (reference m ∷ copy_of_number 15 (n 4) ∷ copy_of_text any_text (text (codes "A")) ∷ [])
    ∷ put_numbers (num m ∷ [])
    ∷ [])
    ∷ procedure (Y.BlockOf (head Y.ProcedureBlock 2 1 2) (list
    (set (whole m2) 31 (plus (num m2) (num k2))
    ∷ set (whole k2) 15 (plus (num k2) (n 1))
    ∷ Y.If (Y.NumbersCompared Y.IsLess (num k2) (n 6)) (do_call 2 0
    (reference m2 ∷ reference k2 ∷ copy_of_text any_text (Y.Joined (txt s2) (text (codes "B"))) ∷ [])) line
    ∷ put_texts (txt s2 ∷ [])
    ∷ put_numbers (num k2 ∷ [])
    ∷ []))) (0 ∷ 1 ∷ 2 ∷ []) None ∷ [])

again_agrees : run_of (fitted again_program 1536 64) 20000 again_program [] ≡ machine_shows again_program []
unfolding computing
again_agrees = refl
