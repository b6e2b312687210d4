-- Programs that have the forms one by one: what their images show is what the storage machine shows.
use Rattle.std.proofs.Common.{◌≡◌, ℕ, true, false, List, [], ◌∷◌, Some, None, refl}
use lib.Chars.{codes}
use Rattle.pli_language.specs.declared.condition.Condition.TheVariants as C
use Rattle.pli_language.specs.Tree as T
use Rattle.pli_typing.specs.TypedTree as Y
use Rattle.coding_runs.proofs.RowPieces.{automatic, static, whole, scalar, initial, leaf, member, declared, head, procedure, program}
use Rattle.coding_runs.proofs.FormPieces.{n, minus, text, num, txt, bit, numbers, const, line, list, set, set_text, set_bit, format_then, fixed, any, put_with, number_item, text_item, bit_item, put_numbers, put_texts, simple_unit}
use Rattle.coding_runs.proofs.Running.{fitted, run_of}
use Rattle.coding_runs.proofs.StorageMachine.{machine_shows, computing}

abbrev main : List Y.Stmt → Y.Procedure
main statements = procedure (Y.BlockOf (head Y.ProcedureBlock 1 0 1) (list statements)) [] None

abbrev fixed_initial : ℕ → List T.InitialItem → Y.Leaf
fixed_initial precision items = leaf (Y.FixedLeaf precision) [] items

-- ---- numbers: MOD, MAX, MIN, ABS, SIGN, DIVIDE, products, comparisons, precisions, more operands than registers

abbrev a : Y.Variable
a = automatic 1 0 0

abbrev b : Y.Variable
b = automatic 1 0 1

abbrev deep : List ℕ → Y.Number
deep [] = num a
deep (x ∷ xs) = Y.Calculated Y.Difference (n x) (deep xs)

abbrev passed_over : Y.Stmt
passed_over = Y.OnUnit C.FixedOverflow (simple_unit 1 1 (Y.Null line)) line

abbrev numbers_program : Y.Program
numbers_program =
    program ([] ∷ (scalar Y.AutomaticClass (Y.FixedLeaf 31) ∷ scalar Y.AutomaticClass (Y.FixedLeaf 7) ∷ []) ∷ [])
    (main
    (set (whole a) 31 (n 17)
    ∷ passed_over
    ∷ Y.OnUnit C.ZeroDivide (simple_unit 1 1 (put_texts (text (codes "Z") ∷ []))) line
    ∷ put_numbers
    (Y.Modulo (num a) (n 5) ∷ Y.Modulo (minus (num a)) (n 5) ∷ Y.Modulo (minus (num a)) (minus (n 5)) ∷ Y.Modulo (n 1) (n 0)
    ∷ Y.Extreme Y.Greatest (n 3) (numbers (num a ∷ minus (n 4) ∷ [])) ∷ Y.Extreme Y.Least (n 3) (numbers (num a ∷ minus (n 4) ∷ []))
    ∷ Y.Absolute (minus (num a)) ∷ Y.SignOf (minus (num a)) ∷ Y.SignOf (n 0) ∷ Y.SignOf (num a)
    ∷ Y.Divided 3 (num a) (n 2) ∷ Y.Divided 3 (num a) (n 1) ∷ Y.Divided 31 (num a) (n 0)
    ∷ Y.Calculated Y.Product (num a) (minus (n 3)) ∷ Y.Calculated Y.Product (n 70000) (n 70000)
    ∷ Y.Calculated Y.Quotient (minus (num a)) (n 5)
    ∷ deep (1 ∷ 2 ∷ 3 ∷ 4 ∷ 5 ∷ 6 ∷ 7 ∷ 8 ∷ 9 ∷ 10 ∷ [])
    ∷ [])
    ∷ set (whole b) 7 (n 200)
    ∷ put_numbers (num b ∷ [])
    ∷ put_with
    (bit_item (Y.NumbersCompared Y.IsLess (num a) (n 17)) ∷ bit_item (Y.NumbersCompared Y.IsLessOrEqual (num a) (n 17))
    ∷ bit_item (Y.NumbersCompared Y.IsGreater (n 18) (num a)) ∷ bit_item (Y.NumbersCompared Y.IsGreaterOrEqual (minus (n 18)) (num a))
    ∷ bit_item (Y.NumbersCompared Y.IsEqual (num a) (n 17)) ∷ bit_item (Y.NumbersCompared Y.IsNotEqual (num a) (n 17))
    ∷ bit_item (Y.Combined Y.Conjunction (Y.BitConstant true) (Y.Negated (Y.BitConstant true)))
    ∷ bit_item (Y.Combined Y.Disjunction (Y.BitConstant true) (Y.BitConstant false))
    ∷ bit_item (Y.BitsCompared Y.IsLess (Y.BitConstant false) (Y.BitConstant true))
    ∷ []) any
    ∷ []) ∷ [])

numbers_agree : run_of (fitted numbers_program 1024 64) 20000 numbers_program [] ≡ machine_shows numbers_program []
unfolding computing
numbers_agree = refl

-- ---- texts: STATIC VARYING with INITIAL, built-ins, conversions, comparisons, fields

abbrev s : Y.Variable
s = static 1 0 0

abbrev c : Y.Variable
c = automatic 1 0 1

abbrev texts_program : Y.Program
texts_program =
    program ([] ∷
    (declared Y.StaticClass (member 0 0 ∷ []) (leaf (Y.VaryingLeaf (const 6)) [] (initial 1 (T.InitialText (codes "ABCA")) ∷ []) ∷ []) None []
    ∷ scalar Y.AutomaticClass (Y.CharacterLeaf (const 3))
    ∷ scalar Y.AutomaticClass Y.BitLeaf ∷ []) ∷ [])
    (main
    (set_text (whole c) (Y.Joined (txt s) (text (codes "D")))
    ∷ put_texts (txt c ∷ txt s ∷ Y.Substring (txt s) (n 2) (n 2) ∷ Y.SubstringFrom (txt s) (n 3) ∷ [])
    ∷ set_text (whole s) (Y.Joined (txt s) (Y.Joined (txt s) (txt c)))
    ∷ put_texts (txt s ∷ Y.TextOfNumber 31 (minus (n 12)) ∷ Y.TextOfNumber 15 (n 12) ∷ Y.TextOfBit (bit (automatic 1 0 2)) ∷ [])
    ∷ put_numbers
    (Y.LengthOf (txt s) ∷ Y.IndexOf (txt s) (text (codes "CA")) ∷ Y.IndexOf (txt s) (text (codes "X"))
    ∷ Y.VerifyOf (txt s) (text (codes "AB")) ∷ Y.NumberOfText (text (codes " -12 ")) ∷ Y.NumberOfBit (Y.BitConstant true) ∷ [])
    ∷ set_bit (whole (automatic 1 0 2)) (Y.TextsCompared Y.IsLess (txt c) (text (codes "ABCD")))
    ∷ put_with
    (bit_item (bit (automatic 1 0 2)) ∷ bit_item (Y.TextsCompared Y.IsEqual (text (codes "A ")) (text (codes "A")))
    ∷ bit_item (Y.BitOfText (text (codes "1"))) ∷ text_item (text (codes "7")) ∷ number_item (n 8) ∷ [])
    (format_then (T.TextFormat (Some 2)) (fixed 3))
    ∷ put_texts (Y.Substring (txt s) (n 6) (n 2) ∷ [])
    ∷ []) ∷ [])

texts_agree : run_of (fitted texts_program 1024 64) 20000 texts_program [] ≡ machine_shows texts_program []
unfolding computing
texts_agree = refl

-- ---- an area that no limit lets be: its capacity is filled in first

abbrev large_area : Y.Program
large_area = program ([] ∷ (scalar Y.AutomaticClass (Y.AreaLeaf (const 2000000)) ∷ []) ∷ []) (main [] ∷ [])

large_area_agrees : run_of (fitted large_area 512 64) 20000 large_area [] ≡ machine_shows large_area []
unfolding computing
large_area_agrees = refl
