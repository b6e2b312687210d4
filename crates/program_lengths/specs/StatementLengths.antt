-- How many words the code has at most of what statements of a source come to, by the tokens that they are spelled with.
use Rattle.std.specs.Prelude.{ℕ, ◌+◌, ◌-◌, ◌*◌, ◌≤◌, min, List, [], ◌∷◌}
use Rattle.pli_language.specs.Tree as T
use Rattle.pli_language.specs.Declarations.{Block, blocks_in_stmt}
use Rattle.pli_typing.specs.TypedTree as Y
use Rattle.pli_typing.specs.Variables.{level_of_block}
use Rattle.pli_typing.specs.SingleStatements.{Context}
use Rattle.pli_typing.specs.Resolving.{statement}
use Rattle.pli_meaning.specs.DeclaredShapes.{variables_of_block}
use Rattle.code_sizes.specs.StoringSizes.{record_size}
use Rattle.code_sizes.specs.StatementSizes.{counter_size, variables_size, stmt_size}
use Rattle.code_sizes.specs.ProgramSizes.{procedures_size}
use Rattle.tree_tokens.specs.TreeTokens.{stmt_tokens}
use Rattle.source_sizes.specs.Short.{words_for_a_token}
use Rattle.program_lengths.specs.Declares.{declared_tokens}

-- ---- what no token pays for: an aggregate in GET or PUT, whose elements may be of three kinds, and a counter of DO,
-- whose code stands three times

abbrev pub get_item_beside : Y.GetItem → ℕ
get_item_beside (Y.GetScalar r) = 0
get_item_beside (Y.GetAggregate r) = min 130 (record_size r - 33)

abbrev pub get_items_beside : List Y.GetItem → ℕ
get_items_beside [] = 0
get_items_beside (i ∷ is) = get_item_beside i + get_items_beside is

-- the parentheses of a list of items, and the statement's own words, pay a part
abbrev pub get_pairs_beside : List Y.GetPair → ℕ
get_pairs_beside [] = 0
get_pairs_beside (p ∷ ps) = (get_items_beside p.items - 201) + get_pairs_beside ps

abbrev pub get_beside : List Y.GetPair → ℕ
get_beside ps = get_pairs_beside ps - 298

-- an array or a structure that is reached by no locator takes none
abbrev pub put_item_beside : Y.PutItem → ℕ
put_item_beside (Y.PutValue v) = 0
put_item_beside (Y.PutAggregate r) = min 65 (record_size r - 98)

abbrev pub put_items_beside : List Y.PutItem → ℕ
put_items_beside [] = 0
put_items_beside (i ∷ is) = put_item_beside i + put_items_beside is

abbrev pub put_pairs_beside : List Y.PutPair → ℕ
put_pairs_beside [] = 0
put_pairs_beside (p ∷ ps) = (put_items_beside p.items - 201) + put_pairs_beside ps

abbrev pub put_beside : List Y.PutPair → ℕ
put_beside ps = put_pairs_beside ps - 302

-- a counter whose code has at most 167 words takes none
abbrev pub counter_beside : Y.Counter → ℕ
counter_beside counter = 2 * counter_size counter - 334

abbrev mutual
  pub stmt_beside : Y.Stmt → ℕ
  stmt_beside (Y.If condition unit line) = stmt_beside unit
  stmt_beside (Y.IfElse condition unit otherwise line) = stmt_beside unit + stmt_beside otherwise
  stmt_beside (Y.Do body line) = stmts_beside body
  stmt_beside (Y.DoWhile condition body line) = stmts_beside body
  stmt_beside (Y.DoOnce variable start condition body line) = stmts_beside body
  stmt_beside (Y.DoCount counter start limit step condition body line) =
      counter_beside counter + stmts_beside body
  stmt_beside (Y.Begin (Y.BlockOf head body)) = stmts_beside body
  stmt_beside (Y.OnUnit c (Y.BlockOf head body) line) = stmts_beside body
  stmt_beside (Y.Get skip pairs line) = get_beside pairs
  stmt_beside (Y.Put skip pairs line) = put_beside pairs
  stmt_beside _ = 0

  pub stmts_beside : Y.Stmts → ℕ
  stmts_beside (Y.EndOfList labels) = 0
  stmts_beside (Y.StmtThen labels first rest) = stmt_beside first + stmts_beside rest

abbrev pub block_beside : Y.Block → ℕ
block_beside (Y.BlockOf head body) = stmts_beside body

abbrev pub procedures_beside : List Y.Procedure → ℕ
procedures_beside [] = 0
procedures_beside (p ∷ ps) = block_beside p.block + procedures_beside ps

-- ---- what these blocks declare, of which the first has this number
abbrev pub blocks_size : Y.Program → (next : ℕ) → List Block → ℕ
blocks_size p next [] = 0
blocks_size p next (b ∷ bs) = variables_size (variables_of_block p next) + blocks_size p (next + 1) bs

-- ---- the law, where no block stands deeper than sources may

abbrev pub LevelsFew : List Block → Type 0
LevelsFew blocks = (n : ℕ) → level_of_block blocks n ≤ 15

abbrev pub StatementsShort : Type 0
StatementsShort =
    (p : Y.Program) (c : Context) → LevelsFew c.scope.blocks → (next : ℕ) (s : T.Stmt)
    → stmt_size p (statement c next s).value
    + (procedures_size p (statement c next s).procedures + words_for_a_token * declared_tokens s)
    ≤ words_for_a_token * stmt_tokens s
    + (stmt_beside (statement c next s).value
    + (procedures_beside (statement c next s).procedures
    + blocks_size p next (blocks_in_stmt c.around next s)))
