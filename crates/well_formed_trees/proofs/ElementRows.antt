-- Elements of arrays of structures: what is left of their leaves' bounds behind subscripts is what is compared.
use Rattle.std.proofs.Common.{◌≡◌, [], ◌∷◌, Some, None, true, false, refl, List}
use Rattle.std.specs.Prelude.{pos}
use Rattle.pli_language.specs.Tree as T
use Rattle.pli_language.specs.Declarations.{held, chain_after, declared_in, declared_in_item, declared_in_stmt}
use Rattle.pli_language.specs.Declarations.{blocks_in, blocks_in_item, blocks_in_stmt, blocks_of}
use Rattle.pli_language.specs.Means.{means_from}
use Rattle.pli_typing.specs.TypedTree as Y
use Rattle.pli_typing.specs.Assigning.{leaves_match}
use Rattle.pli_typing.specs.References.{expression, reference, qualified, arguments, expressions}
use Rattle.pli_typing.specs.Resolving.{statement, statements, resolved, typing_faults}
use Rattle.pli_typing.proofs.RowTrees.{at, name, declared, dimensioned, unsubscripted, extent, exprs, program}
use Rattle.well_formed_trees.specs.References.{leaf_left}

-- T: PROC OPTIONS(MAIN); DCL 1 A(2), 2 X FIXED, 1 B(2, 2), 2 X FIXED; A(1) = B(1, 1); END;
abbrev elements : T.Tree
elements =
    program
    (T.Declare (
    declared (Some 1) (dimensioned (name (65 ∷ []) (at 2 7))
    (T.Upper (extent (T.Number 2 (at 2 9))) ∷ []) ∷ []) [] []
    ∷ declared (Some 2) (unsubscripted (name (88 ∷ []) (at 2 15)) ∷ []) [] (T.Fixed None ∷ [])
    ∷ declared (Some 1) (dimensioned (name (66 ∷ []) (at 2 26))
    (T.Upper (extent (T.Number 2 (at 2 28))) ∷ T.Upper (extent (T.Number 2 (at 2 31))) ∷ []) ∷ []) [] []
    ∷ declared (Some 2) (unsubscripted (name (88 ∷ []) (at 2 37)) ∷ []) [] (T.Fixed None ∷ [])
    ∷ []
    ) (at 2 1) ∷ [])
    (T.Statement [] (T.Assign (T.Plain (T.Last (name (65 ∷ []) (at 3 1)) (T.Listed (exprs (T.Number 1 (at 3 3) ∷ [])))))
    (T.Refers (T.Plain (T.Last (name (66 ∷ []) (at 3 8))
    (T.Listed (exprs (T.Number 1 (at 3 10) ∷ T.Number 1 (at 3 13) ∷ [])))))) (at 3 1))
    ∷ [])

no_fault : typing_faults elements ≡ []
unfolding resolved statement statements expression reference qualified arguments expressions means_from blocks_of
    declared_in declared_in_item declared_in_stmt blocks_in blocks_in_item blocks_in_stmt held chain_after
no_fault = refl

-- so its leaves match where subscripts stand for their bounds, and wouldn't with all bounds
abbrev bounds : Y.Bounds
bounds = record { lower = Y.ConstantExtent (pos 1); upper = Y.ConstantExtent (pos 2) }

abbrev leaf : List Y.Bounds → Y.Leaf
leaf bs = record { type = Y.FixedLeaf 15; bounds = bs; initial = [] }

alike : leaves_match (leaf_left 1 (leaf (bounds ∷ [])) ∷ []) (leaf_left 2 (leaf (bounds ∷ bounds ∷ [])) ∷ []) ≡ true
alike = refl

not_alike : leaves_match (leaf (bounds ∷ []) ∷ []) (leaf (bounds ∷ bounds ∷ []) ∷ []) ≡ false
not_alike = refl
