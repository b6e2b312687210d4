-- The typed tree of a program, and all that the rules of typing refuse in it: every place where one is broken, with its
-- number. What is said here holds of programs whose declarations break none of their rules.
-- (X3.53-1976, chapter 4, translation, and chapter 6, statements, procedures and blocks.)
use Rattle.std.specs.Prelude.{ℕ, ◌≡◌, ◌+◌, List, [], ◌∷◌, ◌++◌, map, length, Option, Some, None}
use Rattle.pli_language.specs.declared.fault.SourceFault.{SourceFault}
use Rattle.pli_language.specs.Refusals.{IsLeast}
use Rattle.pli_language.specs.Tree as T
use Rattle.pli_language.specs.Declarations.{Block, blocks_in_stmt, blocks_in_item, blocks_of}
use Rattle.pli_typing.specs.Judging.{Judged, fine}
use Rattle.pli_typing.specs.TypedTree as Y
use Rattle.pli_typing.specs.Variables.{level_of_block}
use Rattle.pli_typing.specs.Calls.{result_type, returns_in, parameter_indices}
use Rattle.pli_typing.specs.Generations.{names_demanded, declared_variables}
use Rattle.pli_typing.specs.SingleStatements.{Context, in_list, in_block, in_unit, labels_in, goto_statement, call_statement, return_statement, condition, turns, do_statement, assign_statement, allocate_statement, free_statement, get_statement, put_statement}

-- ---- statements with the procedures inside them

-- what a part comes to, with all that it breaks and the procedures that stand in it, in source order
pub record Resolved (X : Type 0) : Type 0 where
  pub faults : List SourceFault
  pub procedures : List Y.Procedure
  pub value : X

abbrev pub done : {X : Type 0} → X → Resolved X
done x = record { faults = []; procedures = []; value = x }

abbrev pub of_judged : {X : Type 0} → Judged X → Resolved X
of_judged j = record { faults = j.faults; procedures = []; value = j.value }

abbrev pub behind : {X Z : Type 0} → Resolved X → Resolved Z → Resolved Z
behind r k = record { faults = r.faults ++ k.faults; procedures = r.procedures ++ k.procedures; value = k.value }

abbrev pub ◌>>=◌ : {X Z : Type 0} → Resolved X → (X → Resolved Z) → Resolved Z
r >>= next = behind r (next r.value)

infixl 20 ◌>>=◌
abbrev pub ◌>>◌ : {X Z : Type 0} → Resolved X → Resolved Z → Resolved Z
r >> k = behind r k

infixl 20 ◌>>◌
-- ---- blocks

abbrev pub block_with : Y.BlockKind → List Block → (number line : ℕ) → Y.Stmts → Y.Block
block_with kind blocks number line body =
    Y.BlockOf (record { kind = kind; number = number; level = level_of_block blocks number; line = line }) body

-- a single statement as an on-unit is one level further in, and has the line of ON
abbrev pub simple_unit : Context → ℕ → Y.Stmt → Y.Block
simple_unit c line s =
    Y.BlockOf (record { kind = Y.SimpleUnit; number = c.scope.block; level = level_of_block c.scope.blocks c.scope.block + 1; line = line })
    (Y.StmtThen [] s (Y.EndOfList []))

-- the block of an on-unit: that of its BEGIN, or one around its single statement
abbrev pub unit_of : Context → ℕ → Y.Stmt → Y.Block
unit_of c line (Y.Begin (Y.BlockOf head body)) = Y.BlockOf (record head { kind = Y.UnitBlock }) body
unit_of c line s = simple_unit c line s

abbrev pub letters_of : List T.Name → List (List ℕ)
letters_of labels = map (λ n. n.letters) labels

-- a procedure before those inside it
abbrev pub procedure_of : Context → ℕ → T.ProcedureHead → Y.Stmts → Y.Procedure
procedure_of c number head body =
    record {
      block = block_with Y.ProcedureBlock c.scope.blocks number head.place.line body;
      parameters = parameter_indices c.scope.blocks number head.parameters;
      result = result_type c.scope.blocks c.scope.block head;
    }

abbrev pub with_procedure : Context → ℕ → T.ProcedureHead → Resolved Y.Stmts → Resolved (Unit {0})
with_procedure c number head r = record { faults = r.faults; procedures = procedure_of c number head r.value ∷ r.procedures; value = tt }

-- the number of the next block behind a statement and behind an item
abbrev pub behind_stmt : Context → ℕ → T.Stmt → ℕ
behind_stmt c next s = next + length (blocks_in_stmt c.around next s)

abbrev pub behind_item : Context → ℕ → T.Item → ℕ
behind_item c next i = next + length (blocks_in_item c.around next i)

-- ---- statements

-- a statement or a list where the next block has this number
unfoldable mutual
  pub statement : Context → ℕ → T.Stmt → Resolved Y.Stmt
  statement c next (T.Null place) = done (Y.Null place.line)
  statement c next (T.Assign target source place) = of_judged (assign_statement c.scope target source place)
  statement c next (T.If e unit place) = do
    b ← of_judged (condition c.scope e)
    s ← statement c next unit
    done (Y.If b s place.line)
  statement c next (T.IfElse e unit otherwise place) = do
    b ← of_judged (condition c.scope e)
    s ← statement c next unit
    t ← statement c (behind_stmt c next unit) otherwise
    done (Y.IfElse b s t place.line)
  statement c next (T.Do body place) = do
    ss ← statements (in_list c (labels_in body)) next body
    done (Y.Do ss place.line)
  statement c next (T.DoWhile e body place) = do
    b ← of_judged (condition c.scope e)
    ss ← statements (in_list c (labels_in body)) next body
    done (Y.DoWhile b ss place.line)
  statement c next (T.DoCount counting body place) = do
    t ← of_judged (turns c.scope counting)
    ss ← statements (in_list c (labels_in body)) next body
    done (do_statement t ss place.line)
  statement c next (T.Begin body place) = do
    ss ← statements (in_block c next (labels_in body)) (next + 1) body
    done (Y.Begin (block_with Y.BeginBlock c.scope.blocks next place.line ss))
  statement c next (T.OnSystem on place) = done (Y.OnSystem on place.line)
  statement c next (T.OnUnit on unit place) = do
    s ← statement (in_unit c) next unit
    done (Y.OnUnit on (unit_of c place.line s) place.line)
  statement c next (T.Call name a place) = of_judged (call_statement c.scope name a place)
  statement c next (T.Return value place) = of_judged (return_statement c value place)
  statement c next (T.Goto label place) = of_judged (goto_statement c label place)
  statement c next (T.Stop place) = done (Y.Stop place.line)
  statement c next (T.Signal on place) = done (Y.Signal on place.line)
  statement c next (T.Revert on place) = done (Y.Revert on place.line)
  statement c next (T.Allocate allocations place) = of_judged (allocate_statement c.scope allocations place)
  statement c next (T.Free freeings place) = of_judged (free_statement c.scope freeings place)
  statement c next (T.Get skip pairs place) = of_judged (get_statement c.scope skip pairs place)
  statement c next (T.Put skip pairs place) = of_judged (put_statement c.scope skip pairs place)

  -- procedures and declarations are no statements
  pub statements : Context → ℕ → T.Items → Resolved Y.Stmts
  statements c next T.NoItem = done (Y.EndOfList [])
  statements c next (T.ItemThen (T.Procedure head body) is) = do
    with_procedure c next head (statements (in_block c next (labels_in body)) (next + 1) body)
    statements c (behind_item c next (T.Procedure head body)) is
  statements c next (T.ItemThen (T.Declare items place) is) = statements c next is
  statements c next (T.ItemThen (T.Statement labels s) is) = do
    t ← statement c next s
    ss ← statements c (behind_stmt c next s) is
    done (Y.StmtThen (letters_of labels) t ss)
  statements c next (T.ItemThen (T.EndLabels labels place) is) = done (Y.EndOfList (letters_of labels))

-- ---- what each block declares

abbrev pub holder_of : List ℕ → ℕ
holder_of (b ∷ holder ∷ around) = holder
holder_of _ = 0

-- the names in RETURNS
abbrev pub returns_demanded : List Block → ℕ → Option (List T.Attribute) → Judged (Unit {0})
returns_demanded blocks holder None = fine tt
returns_demanded blocks holder (Some attributes) = names_demanded blocks holder attributes

abbrev pub head_demanded : List Block → Block → Option T.ProcedureHead → Judged (Unit {0})
head_demanded blocks block None = fine tt
head_demanded blocks block (Some head) = returns_demanded blocks (holder_of block.around) (returns_in head.options)

-- what blocks declare, with the faults of their heads; the first of them has this number
abbrev pub block_variables : List Block → ℕ → List Block → Resolved (List (List Y.DeclaredVariable))
block_variables blocks number [] = done []
block_variables blocks number (b ∷ bs) = do
  of_judged (head_demanded blocks b b.head)
  variables ← of_judged (declared_variables (record { blocks = blocks; block = number }))
  more ← block_variables blocks (number + 1) bs
  done (variables ∷ more)

-- ---- programs

abbrev pub outermost_context : List Block → Context
outermost_context blocks = record { scope = record { blocks = blocks; block = 0 }; around = 0 ∷ []; outermost = []; inner = []; outer = [] }

abbrev pub program_resolved : List Block → T.Items → Resolved (List (List Y.DeclaredVariable))
program_resolved blocks procedures = do
  statements (outermost_context blocks) 1 procedures
  block_variables blocks 0 blocks

unfoldable pub resolved : T.Tree → Resolved (List (List Y.DeclaredVariable))
resolved tree = program_resolved (blocks_of tree) tree.procedures

-- all that a program breaks
abbrev pub typing_faults : T.Tree → List SourceFault
typing_faults tree = (resolved tree).faults

-- its typed tree, of which a program that breaks something has none
abbrev pub typed_tree : T.Tree → Y.Program
typed_tree tree = record { variables = (resolved tree).value; procedures = (resolved tree).procedures }

-- what `resolve` gives of a program: its typed tree, where it breaks nothing, or the least of what it breaks
pub data Resolves (tree : T.Tree) : Y.Program → Type 0 where
  resolves : typing_faults tree ≡ [] → Resolves tree (typed_tree tree)

abbrev pub IsMistyped : T.Tree → SourceFault → Type 0
IsMistyped tree f = IsLeast (typing_faults tree) f
