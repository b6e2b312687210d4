-- Worked weights, a program's frames, and the sums of the most that each takes.
use Rattle.std.proofs.Common.{◌≡◌, ℕ, List, [], ◌∷◌, map, None, refl}
use Rattle.pli_language.specs.declared.expr.InfixOp.TheVariants as I
use Rattle.pli_language.specs.declared.expr.PrefixOp.TheVariants as P
use Rattle.pli_language.specs.Tree as T
use Rattle.pli_language.specs.Declarations.{held, chain_after, declared_in, declared_in_item, declared_in_stmt}
use Rattle.pli_language.specs.Declarations.{blocks_in, blocks_in_item, blocks_in_stmt, blocks_of}
use Rattle.pli_language.specs.Means.{means_from}
use Rattle.pli_typing.specs.References.{expression, reference, qualified, arguments, expressions}
use Rattle.pli_typing.specs.Resolving.{statement, statements, resolved, typed_tree}
use Rattle.pli_typing.proofs.RowTrees.{at, name, declared, dimensioned, unsubscripted, extent, exprs, plain, program}
use Rattle.pli_frames.specs.Plans.{planned}
use Rattle.small_frames.specs.Weights.{weight, waiting}
use Rattle.small_frames.specs.Light.{most_expression, most_extent}
use Rattle.small_frames.specs.Small.{fixed_bytes, most_block_words, most_routine_words, most_frame_bytes}
use Rattle.small_frames.specs.Small.{most_routine_bytes}

-- ---- expressions

abbrev variable : ℕ → T.Expr
variable letter = T.Refers (plain (name (letter ∷ []) (at 1 1)))

abbrev subscripted : ℕ → List T.Expr → T.Expr
subscripted letter es = T.Refers (T.Plain (T.Last (name (letter ∷ []) (at 1 1)) (T.Listed (exprs es))))

-- A * B, A + B * C, A || B, A = B, A = B & C
operators_wait :
    map (weight 6) (
    T.Infix I.Multiply (variable 65) (variable 66)
    ∷ T.Infix I.Add (variable 65) (T.Infix I.Multiply (variable 66) (variable 67))
    ∷ T.Infix I.Join (variable 65) (variable 66)
    ∷ T.Infix I.Equal (variable 65) (variable 66)
    ∷ T.Infix I.And (T.Infix I.Equal (variable 65) (variable 66)) (variable 67)
    ∷ [])
    ≡ (6 ∷ 7 ∷ 5 ∷ 9 ∷ 9 ∷ [])
operators_wait = refl

-- A * B * C, -A, (A * B)
left_operands_wait_nowhere :
    map (weight 6) (
    T.Infix I.Multiply (T.Infix I.Multiply (variable 65) (variable 66)) (variable 67)
    ∷ T.Prefix P.Minus (variable 65) (at 1 1)
    ∷ T.Parenthesized (T.Infix I.Multiply (variable 65) (variable 66)) (at 1 1)
    ∷ [])
    ≡ (6 ∷ 5 ∷ 6 ∷ [])
left_operands_wait_nowhere = refl

-- A(B, C), A(B(C)), A(B * C), with 6 words for each argument and with 1
arguments_wait :
    map (weight 6) (
    subscripted 65 (variable 66 ∷ variable 67 ∷ [])
    ∷ subscripted 65 (subscripted 66 (variable 67 ∷ []) ∷ [])
    ∷ subscripted 65 (T.Infix I.Multiply (variable 66) (variable 67) ∷ [])
    ∷ [])
    ≡ (22 ∷ 27 ∷ 17 ∷ [])
arguments_wait = refl

subscripts_wait :
    map (weight 1) (
    subscripted 65 (variable 66 ∷ variable 67 ∷ [])
    ∷ subscripted 65 (subscripted 66 (variable 67 ∷ []) ∷ [])
    ∷ subscripted 65 (T.Infix I.Multiply (variable 66) (variable 67) ∷ [])
    ∷ [])
    ≡ (12 ∷ 17 ∷ 12 ∷ [])
subscripts_wait = refl

-- of the six levels of operators
levels_wait :
    map waiting (0 ∷ 1 ∷ 2 ∷ 3 ∷ 4 ∷ 5 ∷ 6 ∷ []) ≡ (0 ∷ 1 ∷ 2 ∷ 2 ∷ 6 ∷ 7 ∷ 8 ∷ [])
levels_wait = refl

-- ---- sums

most_words :
    (most_expression ∷ most_extent ∷ most_block_words ∷ most_routine_words ∷ [])
    ≡ (1029 ∷ 529 ∷ 1165 ∷ 533 ∷ [])
most_words = refl

most_bytes : (most_frame_bytes ∷ most_routine_bytes ∷ []) ≡ (4896 ∷ 2368 ∷ [])
most_bytes = refl

-- ---- a program

-- T: PROC OPTIONS(MAIN); DCL A(2) FIXED, I FIXED; I = A(I) + A(1) * 2; END;
abbrev summing : T.Tree
summing =
    program
    (T.Declare (
    declared None (dimensioned (name (65 ∷ []) (at 2 5)) (T.Upper (extent (T.Number 2 (at 2 7))) ∷ []) ∷ []) []
    (T.Fixed None ∷ [])
    ∷ declared None (unsubscripted (name (73 ∷ []) (at 2 17)) ∷ []) [] (T.Fixed None ∷ [])
    ∷ []
    ) (at 2 1) ∷ [])
    (T.Statement [] (T.Assign (plain (name (73 ∷ []) (at 3 1)))
    (T.Infix I.Add
    (T.Refers (T.Plain (T.Last (name (65 ∷ []) (at 3 5))
    (T.Listed (exprs (T.Refers (plain (name (73 ∷ []) (at 3 7))) ∷ []))))))
    (T.Infix I.Multiply
    (T.Refers (T.Plain (T.Last (name (65 ∷ []) (at 3 12)) (T.Listed (exprs (T.Number 1 (at 3 14) ∷ []))))))
    (T.Number 2 (at 3 19)))) (at 3 1))
    ∷ [])

-- registers hold all that waits: no word below it, and 144 bytes at level 0
its_frame : map fixed_bytes (planned (typed_tree summing)) ≡ (144 ∷ [])
unfolding resolved statement statements expression reference qualified arguments expressions means_from blocks_of
    declared_in declared_in_item declared_in_stmt blocks_in blocks_in_item blocks_in_stmt held chain_after
its_frame = refl
