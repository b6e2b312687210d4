-- Programs whose locators are used where they stand, and set where they stand: what their images show is what the
-- storage machine shows.
use Rattle.std.proofs.Common.{◌≡◌, ℕ, pos, true, false, List, [], ◌∷◌, Option, Some, None, refl}
use Rattle.pli_language.specs.declared.condition.Condition.TheVariants as C
use Rattle.pli_language.specs.Tree as T
use Rattle.pli_typing.specs.TypedTree as Y
use Rattle.coding_runs.proofs.RowPieces.{automatic, static, based, whole, located, plain, scalar, part, bounds}
use Rattle.coding_runs.proofs.RowPieces.{initial, leaf, evaluation, refer, member, declared, head, procedure, program}
use Rattle.coding_runs.proofs.FormPieces.{n, num, ptr, at, at_pointer, const, up_to, line, list, set, set_pointer}
use Rattle.coding_runs.proofs.FormPieces.{any, put_with, bit_item, put_numbers, simple_unit, call, do_call}
use Rattle.coding_runs.proofs.Running.{fitted, run_of}
use Rattle.coding_runs.proofs.StorageMachine.{machine_shows, computing}

abbrev main : List Y.Stmt → Y.Procedure
main statements = procedure (Y.BlockOf (head Y.ProcedureBlock 1 0 1) (list statements)) [] None

abbrev pointer : Y.DeclaredVariable
pointer = scalar Y.AutomaticClass Y.PointerLeaf

abbrev number : Y.DeclaredVariable
number = scalar Y.AutomaticClass (Y.FixedLeaf 31)

abbrev pointers : ℕ → Y.DeclaredVariable
pointers count = declared Y.AutomaticClass (member 0 1 ∷ []) (leaf Y.PointerLeaf (up_to count ∷ []) [] ∷ []) None []

abbrev area : Y.DeclaredVariable
area = scalar Y.AutomaticClass (Y.AreaLeaf (const 64))

abbrev based_number : Y.DeclaredVariable
based_number = scalar Y.BasedClass (Y.FixedLeaf 31)

abbrev into : Option Y.Variable → Y.Variable → Y.Reference → Y.Allocation
into within v target = Y.AllocateBased v within (Y.SetPointer target)

abbrev allocate : List Y.Allocation → Y.Stmt
allocate all = Y.Allocate all line

abbrev freed : Y.Variable → Y.Pointer → Y.Stmt
freed v locator = Y.Free (Y.FreeBased v locator None ∷ []) line

abbrev p : Y.Variable
p = automatic 1 0 0

abbrev q : Y.Variable
q = automatic 1 0 1

-- ---- locators of the running block: the second of two, STATIC, a member, an element

-- T: PROC OPTIONS(MAIN);
-- DCL (P,Q) PTR, R PTR STATIC, 1 S, 2 N FIXED BIN(31), 2 L PTR, E(2) PTR, X FIXED BIN(31) BASED, I FIXED BIN(31); I =
-- 2; ALLOCATE X SET(Q), X SET(R), X SET(S.L), X SET(E(I)); Q->X = 2; R->X = 3; S.L->X = 4; E(2)->X = 5; PUT EDIT
-- (Q->X,R->X,S.L->X,E(I)->X) (F(12)); END T;
abbrev r : Y.Variable
r = static 1 0 2

abbrev l : Y.Reference
l = at (automatic 1 0 3) 1 []

abbrev e : Y.Number → Y.Reference
e i = at (automatic 1 0 4) 0 (i ∷ [])

abbrev x : Y.Variable
x = based 1 0 5

abbrev i : Y.Variable
i = automatic 1 0 6

abbrev x_at : Y.Variable → Y.Reference
x_at v = located (ptr v) x

abbrev value_at : Y.Pointer → Y.Number
value_at locator = Y.NumberIn (located locator x)

abbrev pointing_variables : List Y.DeclaredVariable
pointing_variables =
    pointer ∷ pointer ∷ scalar Y.StaticClass Y.PointerLeaf
    ∷ declared Y.AutomaticClass (member 0 0 ∷ member 1 0 ∷ member 1 0 ∷ []) (plain (Y.FixedLeaf 31)
    ∷ plain Y.PointerLeaf ∷ []) None []
    ∷ pointers 2 ∷ based_number ∷ number ∷ []

abbrev standing_program : Y.Program
standing_program =
    program ([] ∷ pointing_variables ∷ [])
    (main
    (set (whole i) 31 (n 2)
    ∷ allocate (into None x (whole q) ∷ into None x (whole r) ∷ into None x l ∷ into None x (e (num i)) ∷ [])
    ∷ set (x_at q) 31 (n 2) ∷ set (x_at r) 31 (n 3)
    ∷ set (located (Y.PointerIn l) x) 31 (n 4) ∷ set (located (Y.PointerIn (e (n 2))) x) 31 (n 5)
    ∷ put_numbers (value_at (ptr q) ∷ value_at (ptr r) ∷ value_at (Y.PointerIn l) ∷ value_at (Y.PointerIn (e (num i)))
    ∷ [])
    ∷ [])
    ∷ [])

standing_agrees : run_of (fitted standing_program 896 128) 20000 standing_program [] ≡ machine_shows standing_program []
unfolding computing
standing_agrees = refl

-- ---- locators of the block around, and pointers assigned along them

-- T: PROC OPTIONS(MAIN);
-- DCL (P,Q) PTR, R PTR STATIC, X FIXED BIN(31) BASED; ALLOCATE X SET(P), X SET(R); P->X = 1; R->X = 3; CALL W;
-- PUT EDIT (P->X,R->X) (F(12));
-- W: PROC; DCL U PTR; U = R; U->X = U->X + P->X; ALLOCATE X SET(Q); Q->X = 7; FREE P->X; P = Q; U = P;
-- PUT EDIT (U->X) (F(12)); END W;
-- END T;
abbrev u : Y.Variable
u = automatic 2 1 0

abbrev around_program : Y.Program
around_program =
    program ([] ∷ pointing_variables ∷ (pointer ∷ []) ∷ [])
    (main
    (allocate (into None x (whole p) ∷ into None x (whole r) ∷ [])
    ∷ set (x_at p) 31 (n 1) ∷ set (x_at r) 31 (n 3)
    ∷ do_call 2 0 []
    ∷ put_numbers (value_at (ptr p) ∷ value_at (ptr r) ∷ [])
    ∷ [])
    ∷ procedure (Y.BlockOf (head Y.ProcedureBlock 2 1 2) (list
    (set_pointer (whole u) (ptr r)
    ∷ set (x_at u) 31 (Y.Calculated Y.Sum (value_at (ptr u)) (value_at (ptr p)))
    ∷ allocate (into None x (whole q) ∷ [])
    ∷ set (x_at q) 31 (n 7)
    ∷ freed x (ptr p)
    ∷ set_pointer (whole p) (ptr q)
    ∷ set_pointer (whole u) (ptr p)
    ∷ put_numbers (value_at (ptr u) ∷ [])
    ∷ []))) [] None ∷ [])

around_agrees : run_of (fitted around_program 1152 128) 20000 around_program [] ≡ machine_shows around_program []
unfolding computing
around_agrees = refl

-- ---- a locator that changes while the subscripts behind it are evaluated: it locates what it did before

-- T: PROC OPTIONS(MAIN);
-- DCL (P,Q) PTR, V(3) FIXED BIN(31) BASED, (I,J) FIXED BIN(31); ALLOCATE V SET(P), V SET(Q); I = 2; J = 0;
-- P->V(2) = 1; Q->V(I) = 5; P->V(3) = 8; PUT EDIT (P->V(I),P->V(G())) (F(12)); PUT EDIT (P->V(2)) (F(12));
-- ON ZERODIVIDE P = NULL(); PUT EDIT (P->V(2 + I / J)) (F(12)); PUT EDIT (P->V(I)) (F(12));
-- G: PROC RETURNS(FIXED BIN(31)); P = Q; RETURN(2); END G;
-- END T;
abbrev v : Y.Variable
v = based 1 0 2

abbrev i' : Y.Variable
i' = automatic 1 0 3

abbrev j : Y.Variable
j = automatic 1 0 4

abbrev v_at : Y.Variable → Y.Number → Y.Reference
v_at locator k = at_pointer (ptr locator) v 0 (k ∷ [])

abbrev changed_program : Y.Program
changed_program =
    program ([]
    ∷ (pointer ∷ pointer
    ∷ declared Y.BasedClass (member 0 1 ∷ []) (leaf (Y.FixedLeaf 31) (up_to 3 ∷ []) [] ∷ []) None []
    ∷ number ∷ number ∷ []) ∷ [] ∷ [])
    (main
    (allocate (into None v (whole p) ∷ into None v (whole q) ∷ [])
    ∷ set (whole i') 31 (n 2) ∷ set (whole j) 31 (n 0)
    ∷ set (v_at p (n 2)) 31 (n 1) ∷ set (v_at q (num i')) 31 (n 5) ∷ set (v_at p (n 3)) 31 (n 8)
    ∷ put_numbers (Y.NumberIn (v_at p (num i')) ∷ Y.NumberIn (v_at p (Y.NumberFrom (call 2 0 []))) ∷ [])
    ∷ put_numbers (Y.NumberIn (v_at p (n 2)) ∷ [])
    ∷ Y.OnUnit C.ZeroDivide (simple_unit 1 1 (set_pointer (whole p) Y.NullPointer)) line
    ∷ put_numbers (Y.NumberIn (v_at p (Y.Calculated Y.Sum (n 2) (Y.Calculated Y.Quotient (num i') (num j)))) ∷ [])
    ∷ put_numbers (Y.NumberIn (v_at p (num i')) ∷ [])
    ∷ [])
    ∷ procedure (Y.BlockOf (head Y.ProcedureBlock 2 1 2) (list
    (set_pointer (whole p) (ptr q) ∷ Y.ReturnValue (Y.FixedLeaf 31) (Y.StoredNumber 31 (n 2)) line ∷ []))) []
    (Some (Y.FixedLeaf 31)) ∷ [])

changed_agrees : run_of (fitted changed_program 1024 128) 20000 changed_program [] ≡ machine_shows changed_program []
unfolding computing
changed_agrees = refl

-- ---- a full area: its unit sees what the locator was before

-- T: PROC OPTIONS(MAIN);
-- DCL P PTR, E(2) PTR, (A,B) AREA(64), O OFFSET(A), X FIXED BIN(31) BASED;
-- ON AREA BEGIN; PUT EDIT (P->X,E(1)->X) (F(12)); FREE P->X; END;
-- ALLOCATE X IN(A) SET(P), X IN(A) SET(E(1)); P->X = 1; E(1)->X = 2; ALLOCATE X IN(A) SET(P); P->X = 3;
-- PUT EDIT (P->X) (F(12)); ALLOCATE X IN(A) SET(E(1)); E(1)->X = 4; O = E(1); P = POINTER(O,A); PUT EDIT (P->X)
-- (F(12)); ON ERROR PUT EDIT (POINTER(O,A)->X) (F(12)); ALLOCATE X IN(B) SET(P); O = P; END T;
abbrev e' : Y.Number → Y.Reference
e' k = at (automatic 1 0 1) 0 (k ∷ [])

abbrev a : Y.Variable
a = automatic 1 0 2

abbrev b : Y.Variable
b = automatic 1 0 3

abbrev o : Y.Variable
o = automatic 1 0 4

abbrev full_program : Y.Program
full_program =
    program ([]
    ∷ (pointer ∷ pointers 2 ∷ area ∷ area ∷ scalar Y.AutomaticClass (Y.OffsetLeaf (Some a)) ∷ based_number ∷ []) ∷ []
    ∷ [])
    (main
    (Y.OnUnit C.Area
    (Y.BlockOf (head Y.UnitBlock 2 1 2)
    (list (put_numbers (value_at (ptr p) ∷ value_at (Y.PointerIn (e' (n 1))) ∷ []) ∷ freed x (ptr p) ∷ [])))
    line
    ∷ allocate (into (Some a) x (whole p) ∷ into (Some a) x (e' (n 1)) ∷ [])
    ∷ set (x_at p) 31 (n 1) ∷ set (located (Y.PointerIn (e' (n 1))) x) 31 (n 2)
    ∷ allocate (into (Some a) x (whole p) ∷ [])
    ∷ set (x_at p) 31 (n 3)
    ∷ put_numbers (value_at (ptr p) ∷ [])
    ∷ allocate (into (Some a) x (e' (n 1)) ∷ [])
    ∷ set (located (Y.PointerIn (e' (n 1))) x) 31 (n 4)
    ∷ Y.Assign (whole o) (Y.StoredOffset (Y.OffsetInto (Y.PointerIn (e' (n 1))) a)) line
    ∷ set_pointer (whole p) (Y.PointerInto (Y.OffsetIn (whole o)) a)
    ∷ put_numbers (value_at (ptr p) ∷ [])
    ∷ Y.OnUnit C.Error (simple_unit 1 1 (put_numbers (value_at (Y.PointerInto (Y.OffsetIn (whole o)) a) ∷ []))) line
    ∷ allocate (into (Some b) x (whole p) ∷ [])
    ∷ Y.Assign (whole o) (Y.StoredOffset (Y.OffsetInto (ptr p) a)) line
    ∷ [])
    ∷ [])

full_agrees : run_of (fitted full_program 1536 64) 20000 full_program [] ≡ machine_shows full_program []
unfolding computing
full_agrees = refl

-- ---- a name that fails: the target is as it was

-- T: PROC OPTIONS(MAIN);
-- DCL (P,Q) PTR, K FIXED BIN(31) INIT(3), 1 S BASED(P), 2 N FIXED BIN(31), 2 M(K REFER(N)) FIXED BIN(31), Y FIXED
-- BIN(31), X FIXED BIN(31) BASED; ALLOCATE S SET(Q); P = ADDR(Q->S); P->S.M(2) = 6; PUT EDIT (Q->S.M(2)) (F(12)); P =
-- ADDR(Y); P->X = 9; ON ERROR PUT EDIT (P->X) (F(12)); Q->S.N = 4; P = ADDR(Q->S); END T;
abbrev s : Y.Variable
s = based 1 0 3

abbrev y : Y.Variable
y = automatic 1 0 4

abbrev all_of_s : Y.Pointer → Y.Reference
all_of_s locator = Y.Referring s (Y.LocatedBy locator) (part 0 2) Y.NoNumber

abbrev failing_program : Y.Program
failing_program =
    program ([]
    ∷ (pointer ∷ pointer
    ∷ declared Y.AutomaticClass (member 0 0 ∷ []) (leaf (Y.FixedLeaf 31) [] (initial 1 (T.InitialNumber (pos 3)) ∷ [])
    ∷ []) None []
    ∷ declared Y.BasedClass (member 0 0 ∷ member 1 0 ∷ member 1 1 ∷ [])
    (plain (Y.FixedLeaf 31) ∷ leaf (Y.FixedLeaf 31) (bounds (const 1) Y.ReferExtent ∷ []) [] ∷ [])
    (Some (refer 0 (Y.EvaluatedExtent 0)))
    (evaluation (num (automatic 1 0 2)) (Y.BoundsCheck (bounds (const 1) (Y.EvaluatedExtent 0))) ∷ [])
    ∷ number ∷ based_number ∷ []) ∷ [])
    (main
    (allocate (into None s (whole q) ∷ [])
    ∷ set_pointer (whole p) (Y.AddressOf (all_of_s (ptr q)))
    ∷ set (at_pointer (ptr p) s 1 (n 2 ∷ [])) 31 (n 6)
    ∷ put_numbers (Y.NumberIn (at_pointer (ptr q) s 1 (n 2 ∷ [])) ∷ [])
    ∷ set_pointer (whole p) (Y.AddressOf (whole y))
    ∷ set (x_at p) 31 (n 9)
    ∷ Y.OnUnit C.Error (simple_unit 1 1 (put_numbers (value_at (ptr p) ∷ []))) line
    ∷ set (at_pointer (ptr q) s 0 []) 31 (n 4)
    ∷ set_pointer (whole p) (Y.AddressOf (all_of_s (ptr q)))
    ∷ [])
    ∷ [])

failing_agrees : run_of (fitted failing_program 1024 128) 20000 failing_program [] ≡ machine_shows failing_program []
unfolding computing
failing_agrees = refl

-- ---- names that are compared where they stand, and a left one that the right one's function changes

-- T: PROC OPTIONS(MAIN);
-- DCL (P,Q) PTR, R PTR STATIC, Y FIXED BIN(31); P = ADDR(Y); Q = P; R = NULL();
-- PUT EDIT (P = Q,P ^= Q,P = NULL(),NULL() ^= P,R = NULL(),P = R,R ^= Q,P = G(),P = NULL()) (A); CALL W;
-- G: PROC RETURNS(PTR); P = NULL(); RETURN(Q); END G;
-- W: PROC; DCL U PTR; U = Q; PUT EDIT (U = Q,Q = U,P ^= U,P = NULL()) (A); END W;
-- END T;
abbrev same : Y.Pointer → Y.Pointer → Y.PutItem
same left right = bit_item (Y.PointersCompared true left right)

abbrev other : Y.Pointer → Y.Pointer → Y.PutItem
other left right = bit_item (Y.PointersCompared false left right)

abbrev compared_program : Y.Program
compared_program =
    program ([]
    ∷ (pointer ∷ pointer ∷ scalar Y.StaticClass Y.PointerLeaf ∷ number ∷ []) ∷ [] ∷ (pointer ∷ []) ∷ [])
    (main
    (set_pointer (whole p) (Y.AddressOf (whole (automatic 1 0 3)))
    ∷ set_pointer (whole q) (ptr p)
    ∷ set_pointer (whole r) Y.NullPointer
    ∷ put_with
    (same (ptr p) (ptr q) ∷ other (ptr p) (ptr q) ∷ same (ptr p) Y.NullPointer ∷ other Y.NullPointer (ptr p)
    ∷ same (ptr r) Y.NullPointer ∷ same (ptr p) (ptr r) ∷ other (ptr r) (ptr q)
    ∷ same (ptr p) (Y.PointerFrom (call 2 0 [])) ∷ same (ptr p) Y.NullPointer ∷ [])
    any
    ∷ do_call 3 0 []
    ∷ [])
    ∷ procedure (Y.BlockOf (head Y.ProcedureBlock 2 1 2) (list
    (set_pointer (whole p) Y.NullPointer ∷ Y.ReturnValue Y.PointerLeaf (Y.StoredPointer (ptr q)) line ∷ []))) []
    (Some Y.PointerLeaf)
    ∷ procedure (Y.BlockOf (head Y.ProcedureBlock 3 1 2) (list
    (set_pointer (whole (automatic 3 1 0)) (ptr q)
    ∷ put_with
    (same (ptr (automatic 3 1 0)) (ptr q) ∷ same (ptr q) (ptr (automatic 3 1 0)) ∷ other (ptr p) (ptr (automatic 3 1 0))
    ∷ same (ptr p) Y.NullPointer ∷ [])
    any
    ∷ []))) [] None
    ∷ [])

compared_agrees : run_of (fitted compared_program 1024 64) 20000 compared_program [] ≡ machine_shows compared_program []
unfolding computing
compared_agrees = refl
