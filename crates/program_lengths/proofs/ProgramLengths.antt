-- A program's code has no more words than the tokens of its source allow, beside what three forms take more.
use Rattle.std.proofs.Common.{◌≡◌, ℕ, ◌+◌, ◌≤◌, List, [], ◌∷◌, ◌++◌, length, Some}
use Rattle.std.proofs.Common.{refl, sym, ap, ◌∙◌, subst, arith}
use Rattle.std.specs.Prelude.{slice_get, unwrap_or}
use Rattle.pli_language.specs.Tree as T
use Rattle.pli_language.specs.Declarations.{Block, blocks_in, blocks_of, outermost}
use Rattle.pli_language.specs.Means.{declarations_of}
use Rattle.pli_typing.specs.TypedTree as Y
use Rattle.pli_typing.specs.Judging.{Scope}
use Rattle.pli_typing.specs.Generations.{declared_variables}
use Rattle.pli_typing.specs.Variables.{declarations_at}
use Rattle.pli_typing.specs.SingleStatements.{Context}
use Rattle.pli_typing.specs.Resolving.{statements, behind_item, outermost_context, resolved}
use Rattle.pli_typing.specs.Resolving.{typed_tree}
use Rattle.pli_meaning.specs.DeclaredShapes.{variables_of_block}
use Rattle.code_sizes.specs.StartSizes.{block_statics_size, statics_size}
use Rattle.code_sizes.specs.ProgramSizes.{procedures_size}
use Rattle.code_sizes.proofs.ProgramSizes.{programs_sized}
use Rattle.tree_tokens.proofs.Nests.{trees_spelled}
use Rattle.well_formed_trees.specs.Written.{AreProcedures}
use Rattle.well_formed_trees.proofs.HeadsInRange.{ranges_kept}
use Rattle.well_formed_trees.proofs.ParameterVariables.{block_variables_are}
use Rattle.well_formed_trees.proofs.Places.{HasAt, has_end}
use Rattle.well_formed_trees.proofs.ProgramNumbers.{no_procedure, lists_kept, outermost_kept}
use Rattle.well_formed_trees.proofs.Shapes.{shape_kept}
use Rattle.program_lengths.specs.StatementLengths.{stmts_beside, procedures_beside, blocks_size}
use Rattle.program_lengths.specs.ProgramLengths.{ProgramsShort, ImagesShort, SourcesShort}
use Rattle.program_lengths.proofs.StatementLengths.{list_short}
use Rattle.program_lengths.proofs.DeclaredSums.{declarations_sum, blocks_sum}
use Rattle.program_lengths.proofs.DeclaredLengths.{variable_words, blocks_paid}
use Rattle.program_lengths.proofs.VariableLengths.{wholes_size, variables_most}
use Rattle.program_lengths.proofs.RoutineLengths.{held_routines, all_held, routine_blocks, list_routines}
use Rattle.program_lengths.proofs.LevelsFew.{levels_few}

-- ---- what blocks declare

abbrev statics_blocks : Y.Program → (next : ℕ) → List Block → ℕ
statics_blocks p next [] = 0
statics_blocks p next (b ∷ bs) = block_statics_size (variables_of_block p next) + statics_blocks p (next + 1) bs

block_declared : (tree : T.Tree) (n : ℕ) (b : Block) → slice_get (blocks_of tree) n ≡ Some b
    → wholes_size (variables_of_block (typed_tree tree) n) ≤ declarations_sum variable_words b.declarations
block_declared tree n b e =
    let scope : Scope = record { blocks = blocks_of tree; block = n } in
    let same : declarations_at (blocks_of tree) n ≡ b.declarations = ap declarations_of e in
    let most = variables_most scope (declarations_at (blocks_of tree) n) in
    subst (λ ds. wholes_size ds ≤ declarations_sum variable_words b.declarations) (sym (block_variables_are tree n b e))
    (subst (λ ds. wholes_size (declared_variables scope).value ≤ declarations_sum variable_words ds) same most)

blocks_declared : (tree : T.Tree) (n : ℕ) (bs : List Block) → HasAt (blocks_of tree) n bs
    → blocks_size (typed_tree tree) n bs
    + (routine_blocks (typed_tree tree) n bs + statics_blocks (typed_tree tree) n bs)
    ≤ blocks_sum variable_words bs
blocks_declared tree n [] h = omega arith
blocks_declared tree n (b ∷ bs) h =
    let one = block_declared tree n b h.0 in
    let more = blocks_declared tree (n + 1) bs h.1 in
    omega (arith, one, more)

-- a list of variables for each block
statics_listed : (p : Y.Program) (n : ℕ) (all : List (List Y.DeclaredVariable)) (bs : List Block)
    → HasAt p.variables n all → length all ≡ length bs → statics_size all ≤ statics_blocks p n bs
statics_listed p n [] bs h e = omega arith
statics_listed p n (ds ∷ all) [] h e = absurd (cc e)
statics_listed p n (ds ∷ all) (b ∷ bs) h e =
    let same : variables_of_block p n ≡ ds = ap (λ o. unwrap_or o []) h.0 in
    let own : block_statics_size (variables_of_block p n) ≡ block_statics_size ds = ap block_statics_size same in
    let more = statics_listed p (n + 1) all bs h.1 (omega (arith, e)) in
    omega (arith, own, more)

-- ---- programs

nothing_behind : (ps : List Y.Procedure) → ps ++ [] ≡ ps
nothing_behind [] = refl
nothing_behind (p ∷ ps) = ap (λ qs. p ∷ qs) (nothing_behind ps)

-- what blocks declare holds no procedure
same_procedures : (tree : T.Tree)
    → (typed_tree tree).procedures
    ≡ (statements (outermost_context (blocks_of tree)) 1 tree.procedures).procedures
unfolding resolved
same_procedures tree =
    let all = blocks_of tree in
    let ps = (statements (outermost_context all) 1 tree.procedures).procedures in
    ap (λ qs. ps ++ qs) (no_procedure all 0 all) ∙ nothing_behind ps

-- outer procedures come to no statement
outer_beside : (c : Context) (next : ℕ) (is : T.Items) → AreProcedures is
    → stmts_beside (statements c next is).value ≤ 0
unfolding statements
outer_beside c next T.NoItem h = omega arith
outer_beside c next (T.ItemThen (T.Procedure head body) is) h =
    outer_beside c (behind_item c next (T.Procedure head body)) is h
outer_beside c next _ h = absurd h

pub inner_blocks : (tree : T.Tree) → HasAt (blocks_of tree) 1 (blocks_in (0 ∷ []) 1 tree.procedures)
unfolding blocks_of
inner_blocks tree = has_end (blocks_of tree) (outermost ∷ []) (blocks_in (0 ∷ []) 1 tree.procedures) refl

-- the whole program declares nothing
statics_most : (tree : T.Tree)
    → statics_size (typed_tree tree).variables
    ≤ statics_blocks (typed_tree tree) 1 (blocks_in (0 ∷ []) 1 tree.procedures)
unfolding blocks_of
statics_most tree =
    let p = typed_tree tree in
    let all = statics_listed p 0 p.variables (blocks_of tree) (has_end p.variables [] p.variables refl)
    (lists_kept tree) in
    let none : block_statics_size (variables_of_block p 0) ≡ 0 = ap block_statics_size (outermost_kept tree) in
    omega (arith, all, none)

pub programs_short : ProgramsShort
programs_short s tokens tree t spelled =
    let p = typed_tree tree in
    let c = outermost_context (blocks_of tree) in
    let bs = blocks_in (0 ∷ []) 1 tree.procedures in
    let ps = (statements c 1 tree.procedures).procedures in
    let levels = levels_few tree (ranges_kept s tokens tree t spelled) in
    let statements' = list_short p c levels 1 tree.procedures in
    let routines = list_routines p c levels 1 tree.procedures in
    let declared = blocks_paid (0 ∷ []) 1 tree.procedures in
    let variables = blocks_declared tree 1 bs (inner_blocks tree) in
    let statics = statics_most tree in
    let outer = outer_beside c 1 tree.procedures (shape_kept s tokens tree spelled).outer in
    let same = same_procedures tree in
    let sizes : procedures_size p p.procedures ≡ procedures_size p ps = ap (procedures_size p) same in
    let more : procedures_beside p.procedures ≡ procedures_beside ps = ap procedures_beside same in
    let held : held_routines p p.procedures ≡ held_routines p ps = ap (held_routines p) same in
    let all = all_held p p.procedures in
    let spelling = trees_spelled s tokens tree spelled in
    omega (arith, statements', routines, declared, variables, statics, outer, sizes, more, held, all, spelling)

pub images_short : ImagesShort
images_short parts s tokens tree t spelled =
    let words = programs_short s tokens tree t spelled in
    let code = programs_sized.1 parts (typed_tree tree) in
    omega (arith, words, code)

pub sources_short : SourcesShort
sources_short parts s tokens tree t spelled few =
    let code = images_short parts s tokens tree t spelled in omega (arith, code, few)
