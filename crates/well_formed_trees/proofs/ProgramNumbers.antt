-- The numbers of the blocks of a program: from 1 on, each once; and a list of variables for each number.
use Rattle.std.proofs.Common.{◌≡◌, ℕ, zero, suc, ◌+◌, ◌≤◌, ◌<◌, List, [], ◌∷◌, ◌++◌, length, refl, ap, ◌∙◌, arith}
use Rattle.pli_language.specs.Tree as T
use Rattle.pli_language.specs.Declarations.{Block, blocks_in, blocks_of}
use Rattle.pli_typing.specs.SingleStatements.{Context}
use Rattle.pli_typing.specs.Resolving.{statements, block_variables, outermost_context, behind_item, resolved}
use Rattle.pli_typing.specs.Resolving.{typed_tree}
use Rattle.well_formed_trees.specs.Blocks.{times, procedure_numbers, numbers_among}
use Rattle.well_formed_trees.specs.Written.{AreProcedures, IsShaped}
use Rattle.well_formed_trees.specs.WellFormed.{NumbersKept, OutermostKept, ListsKept}
use Rattle.well_formed_trees.proofs.Counts.{in_row, times_procedures, row_at, row_before, row_behind}
use Rattle.well_formed_trees.proofs.BlockNumbers.{stmts_numbers}

-- what blocks declare holds no procedure, and is a list for each block
pub no_procedure : (all : List Block) (number : ℕ) (bs : List Block) → (block_variables all number bs).procedures ≡ []
no_procedure all number [] = refl
no_procedure all number (b ∷ bs) = ap (λ ps. ps ++ []) (no_procedure all (number + 1) bs)

pub variables_listed : (all : List Block) (number : ℕ) (bs : List Block)
    → length (block_variables all number bs).value ≡ length bs
variables_listed all number [] = refl
variables_listed all number (b ∷ bs) = ap suc (variables_listed all (number + 1) bs)

-- procedures come to no statement
procedures_alone : (c : Context) (next : ℕ) (is : T.Items) → AreProcedures is
    → numbers_among (statements c next is).value ≡ []
unfolding statements
procedures_alone c next T.NoItem h = refl
procedures_alone c next (T.ItemThen (T.Procedure head body) is) h =
    procedures_alone c (behind_item c next (T.Procedure head body)) is h
procedures_alone c next _ h = absurd h

in_program : (n : ℕ) (tree : T.Tree) → IsShaped tree
    → times n (procedure_numbers (typed_tree tree).procedures) ≡ in_row n 1
    (length (blocks_in (0 ∷ []) 1 tree.procedures))
unfolding resolved blocks_of
in_program n tree h =
    let c = outermost_context (blocks_of tree) in
    let r = statements c 1 tree.procedures in
    let a = stmts_numbers n c 1 tree.procedures h.ends in
    let b : times n (numbers_among r.value) ≡ 0 = ap (times n) (procedures_alone c 1 tree.procedures h.outer) in
    let d = times_procedures n r.procedures (block_variables (blocks_of tree) 0 (blocks_of tree)).procedures in
    let e : times n (procedure_numbers (block_variables (blocks_of tree) 0 (blocks_of tree)).procedures) ≡ 0 =
    ap (λ ps. times n (procedure_numbers ps)) (no_procedure (blocks_of tree) 0 (blocks_of tree)) in
    omega (arith, a, b, d, e)

many_blocks : (tree : T.Tree) → length (blocks_of tree) ≡ suc (length (blocks_in (0 ∷ []) 1 tree.procedures))
unfolding blocks_of
many_blocks tree = refl

once : (n many : ℕ) → 1 ≤ n → n < suc many → in_row n 1 many ≡ 1
once zero many low high = omega (arith, low)
once (suc m) many low high = row_at (suc m) 1 m many (omega arith) (omega (arith, high))

pub numbers_kept : NumbersKept
numbers_kept tree h =
    let many = length (blocks_in (0 ∷ []) 1 tree.procedures) in
    let e = many_blocks tree in
    record {
      once = λ n low high. in_program n tree h ∙ once n many low (omega (arith, high, e));
      none = λ n high. in_program n tree h ∙ row_behind n 1 many (omega (arith, high, e));
      not_outermost = in_program 0 tree h ∙ row_before 0 1 many (omega arith);
    }

pub outermost_kept : OutermostKept
unfolding resolved blocks_of
outermost_kept tree = refl

pub lists_kept : ListsKept
unfolding resolved
lists_kept tree = variables_listed (blocks_of tree) 0 (blocks_of tree)
