-- Whole arrays in GET and PUT, by how far their elements stand behind the first: what their images show is what the
-- storage machine shows.
use Rattle.std.proofs.Common.{◌≡◌, ℕ, negsuc, List, [], ◌∷◌, ◌++◌, None, Some, refl}
use lib.Chars.{codes}
use Rattle.pli_language.specs.declared.condition.Condition.TheVariants as C
use Rattle.pli_language.specs.Tree as T
use Rattle.pli_typing.specs.TypedTree as Y
use Rattle.coding_runs.proofs.RowPieces.{automatic, static, whole, part, bounds, leaf, member, declared, head}
use Rattle.coding_runs.proofs.RowPieces.{get_pair, procedure, program}
use Rattle.coding_runs.proofs.FormPieces.{text, const, up_to, line, list, format, format_then, fixed, any, put_with}
use Rattle.coding_runs.proofs.FormPieces.{text_item, put_texts, get_with, simple_unit, do_call}
use Rattle.coding_runs.proofs.Running.{fitted, run_of}
use Rattle.coding_runs.proofs.StorageMachine.{machine_shows, computing}

abbrev main : List Y.Stmt → Y.Procedure
main statements = procedure (Y.BlockOf (head Y.ProcedureBlock 1 0 1) (list statements)) [] None

abbrev array : Y.StorageClass → Y.LeafType → List Y.Bounds → Y.DeclaredVariable
array class type [] = declared class (member 0 0 ∷ []) (leaf type [] [] ∷ []) None []
array class type (b ∷ []) = declared class (member 0 1 ∷ []) (leaf type (b ∷ []) [] ∷ []) None []
array class type (b ∷ c ∷ bs) = declared class (member 0 2 ∷ []) (leaf type (b ∷ c ∷ bs) [] ∷ []) None []

abbrev got : Y.Variable → Y.GetItem
got v = Y.GetAggregate (whole v)

abbrev shown : Y.Variable → Y.PutItem
shown v = Y.PutAggregate (whole v)

abbrev texts_of : ℕ → T.Formats
texts_of width = format (T.TextFormat (Some width))

-- ---- numbers: A(3) FIXED(31), B(-1:0,5:7) FIXED(15), O(7:7) FIXED(31); format lists end in the middle of an array

abbrev a : Y.Variable
a = automatic 1 0 0

abbrev b : Y.Variable
b = automatic 1 0 1

abbrev o : Y.Variable
o = automatic 1 0 2

abbrev numbers_program : Y.Program
numbers_program =
    program ([] ∷
    (array Y.AutomaticClass (Y.FixedLeaf 31) (up_to 3 ∷ [])
    ∷ array Y.AutomaticClass (Y.FixedLeaf 15) (bounds (Y.ConstantExtent (negsuc 0)) (const 0)
    ∷ bounds (const 5) (const 7) ∷ [])
    ∷ array Y.AutomaticClass (Y.FixedLeaf 31) (bounds (const 7) (const 7) ∷ []) ∷ []) ∷ [])
    (main
    (get_with (got a ∷ got b ∷ got o ∷ [])
    (format_then (T.FixedFormat 2)
    (format_then (T.SpaceFormat 1) (format_then (T.TextFormat (Some 3)) (format (T.SkipFormat 1)))))
    ∷ put_with (shown o ∷ shown b ∷ shown a ∷ [])
    (format_then (T.FixedFormat 3) (format_then (T.TextFormat None) (fixed 5)))
    ∷ put_with (shown a ∷ text_item (text (codes "!")) ∷ []) (format_then (T.SkipFormat 1) any)
    ∷ put_with (shown b ∷ []) (fixed 2)
    ∷ []) ∷ [])

abbrev ten_numbers : List ℕ
ten_numbers = codes "11,-22" ++ (10 ∷ []) ++ codes "33, 44" ++ (10 ∷ []) ++ codes "55,-66" ++ (10 ∷ [])
    ++ codes "77,888" ++ (10 ∷ []) ++ codes "-9,  0"

numbers_agree : run_of (fitted numbers_program 1024 64) 40000 numbers_program ten_numbers
    ≡ machine_shows numbers_program ten_numbers
unfolding computing
numbers_agree = refl

-- no field is left for the second row's last element: the unit returns, and the statement is left; then a field is
-- too narrow for -22
abbrev ended : Y.Program
ended =
    program ([] ∷ (array Y.AutomaticClass (Y.FixedLeaf 31) (bounds (const 0) (const 1) ∷ up_to 3 ∷ []) ∷ []) ∷ [] ∷ [])
    (main
    (Y.OnUnit C.Endfile (simple_unit 2 1 (put_texts (text (codes "E") ∷ []))) line
    ∷ get_with (got a ∷ got a ∷ []) (fixed 3)
    ∷ put_with (shown a ∷ []) (format_then (T.FixedFormat 4) (fixed 2))
    ∷ []) ∷ [])

ended_agrees : run_of (fitted ended 1024 64) 40000 ended (codes " 11-22 33 44 55")
    ≡ machine_shows ended (codes " 11-22 33 44 55")
unfolding computing
ended_agrees = refl

-- ---- bits, and texts of both kinds in static data: fields of numbers and of texts

abbrev kinds_program : Y.Program
kinds_program =
    program ([] ∷
    (array Y.StaticClass Y.BitLeaf (up_to 3 ∷ [])
    ∷ array Y.StaticClass (Y.VaryingLeaf (const 5)) (up_to 2 ∷ up_to 2 ∷ [])
    ∷ array Y.AutomaticClass (Y.CharacterLeaf (const 3)) (up_to 2 ∷ [])
    ∷ array Y.AutomaticClass (Y.CharacterLeaf (const 0)) (up_to 2 ∷ []) ∷ []) ∷ [])
    (main
    (get_with (got (static 1 0 0) ∷ got (static 1 0 1) ∷ []) (format_then (T.TextFormat (Some 1)) (texts_of 2))
    ∷ get_with (got (automatic 1 0 2) ∷ got (automatic 1 0 3) ∷ []) (format_then (T.FixedFormat 2) (texts_of 1))
    ∷ put_with (shown (automatic 1 0 2) ∷ shown (static 1 0 0) ∷ shown (automatic 1 0 3) ∷ shown (static 1 0 1) ∷ [])
    (format_then (T.TextFormat None) (texts_of 3))
    ∷ put_with (shown (static 1 0 0) ∷ shown (static 1 0 1) ∷ [])
    (format_then (T.FixedFormat 2) (format_then (T.SpaceFormat 1) any))
    ∷ []) ∷ [])

kinds_agree : run_of (fitted kinds_program 1024 64) 40000 kinds_program (codes "11 0ab1cd 1 2 3 ")
    ≡ machine_shows kinds_program (codes "11 0ab1cd 1 2 3 ")
unfolding computing
kinds_agree = refl

kinds_end : run_of (fitted kinds_program 1024 64) 40000 kinds_program (codes "110")
    ≡ machine_shows kinds_program (codes "110")
unfolding computing
kinds_end = refl

-- no bit
kinds_stop : run_of (fitted kinds_program 1024 64) 40000 kinds_program (codes "1 2")
    ≡ machine_shows kinds_program (codes "1 2")
unfolding computing
kinds_stop = refl

-- ---- a member of an array of structures, from a procedure in the block that declares it; a unit reads the same
-- array while a field is narrowed

abbrev inner : Y.Reference
inner = Y.Referring a Y.NotLocated (part 1 1) Y.NoNumber

abbrev nested_program : Y.Program
nested_program =
    program ([] ∷
    (declared Y.AutomaticClass (member 0 1 ∷ member 1 0 ∷ member 1 1 ∷ [])
    (leaf (Y.FixedLeaf 31) (up_to 2 ∷ []) [] ∷ leaf (Y.FixedLeaf 7) (up_to 2 ∷ up_to 2 ∷ []) [] ∷ []) None [] ∷ [])
    ∷ [] ∷ [] ∷ [])
    (procedure (Y.BlockOf (head Y.ProcedureBlock 1 0 1) (list
    (do_call 2 0 [] ∷ put_with (Y.PutAggregate (Y.Referring a Y.NotLocated (part 0 2) Y.NoNumber) ∷ []) (fixed 4)
    ∷ []))) [] None
    ∷ procedure (Y.BlockOf (head Y.ProcedureBlock 2 1 1) (list
    (Y.OnUnit C.FixedOverflow
    (simple_unit 3 2 (Y.Get None (get_pair (Y.GetAggregate inner ∷ []) (fixed 1) ∷ []) line)) line
    ∷ get_with (Y.GetAggregate inner ∷ []) (fixed 3)
    ∷ put_with (Y.PutAggregate inner ∷ []) (fixed 4)
    ∷ []))) [] None ∷ [])

nested_agrees : run_of (fitted nested_program 1536 64) 40000 nested_program (codes "  1  23001234  4  5")
    ≡ machine_shows nested_program (codes "  1  23001234  4  5")
unfolding computing
nested_agrees = refl
