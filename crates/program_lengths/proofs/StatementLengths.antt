-- What statements come to, with the procedures in them, has no more words than their tokens allow, beside what
-- declarations and three forms take more.
use Rattle.std.proofs.Common.{◌≡◌, ℕ, suc, ◌+◌, ◌*◌, ◌≤◌, List, [], ◌∷◌, ◌++◌, map, length}
use Rattle.std.proofs.Common.{ap, subst, arith}
use Rattle.pli_language.specs.declared.condition.Condition.{Condition}
use Rattle.pli_language.specs.declared.condition.Condition.TheVariants as C
use Rattle.pli_language.specs.Tree as T
use Rattle.pli_language.specs.Declarations.{Block, blocks_in, blocks_in_item, blocks_in_stmt}
use Rattle.pli_typing.specs.TypedTree as Y
use Rattle.pli_typing.specs.Calls.{parameter_indices}
use Rattle.pli_typing.specs.SingleStatements.{Context, Turns, OneTurn, CountedTurns, in_list, in_block, in_unit}
use Rattle.pli_typing.specs.SingleStatements.{labels_in, turns, do_statement}
use Rattle.pli_typing.specs.Resolving.{statement, statements, unit_of, procedure_of, behind_stmt, behind_item}
use Rattle.pli_meaning.specs.DeclaredShapes.{variables_of_block}
use Rattle.code_sizes.specs.StatementSizes.{variables_size, stmt_size, stmts_size}
use Rattle.code_sizes.specs.ProgramSizes.{parameters_size, procedure_size, procedures_size}
use Rattle.tree_tokens.specs.TreeTokens.{counting_tokens, condition_tokens, parameters_tokens, commas_before}
use Rattle.tree_tokens.specs.TreeTokens.{procedure_tokens, stmt_tokens, items_tokens}
use Rattle.program_lengths.specs.Declares.{declared_tokens, declares_tokens}
use Rattle.program_lengths.specs.StatementLengths.{stmt_beside, stmts_beside, procedures_beside, blocks_size}
use Rattle.program_lengths.specs.StatementLengths.{LevelsFew, StatementsShort}
use Rattle.program_lengths.proofs.SingleLengths.{TurnsWithin, assign_within, call_within, return_within, goto_within}
use Rattle.program_lengths.proofs.SingleLengths.{condition_within, turns_within}
use Rattle.program_lengths.proofs.StorageLengths.{allocate_within, free_within, get_statement_within}
use Rattle.program_lengths.proofs.StorageLengths.{put_statement_within}

-- ---- sums

both_sizes : (p : Y.Program) (ps qs : List Y.Procedure)
    → procedures_size p (ps ++ qs) ≡ procedures_size p ps + procedures_size p qs
both_sizes p [] qs = omega arith
both_sizes p (x ∷ ps) qs = let more = both_sizes p ps qs in omega (arith, more)

both_beside : (ps qs : List Y.Procedure)
    → procedures_beside (ps ++ qs) ≡ procedures_beside ps + procedures_beside qs
both_beside [] qs = omega arith
both_beside (x ∷ ps) qs = let more = both_beside ps qs in omega (arith, more)

further : (next n : ℕ) → next + 1 + n ≡ next + suc n
further next n = omega arith

blocks_split : (p : Y.Program) (next : ℕ) (bs cs : List Block)
    → blocks_size p next (bs ++ cs) ≡ blocks_size p next bs + blocks_size p (next + length bs) cs
blocks_split p next [] cs = by (next + 0) (omega arith) where
  by : (n : ℕ) → next ≡ n → blocks_size p next cs ≡ 0 + blocks_size p n cs
  by n e = subst (λ n. blocks_size p next cs ≡ 0 + blocks_size p n cs) e (omega arith)
blocks_split p next (b ∷ bs) cs =
    let more = blocks_split p (next + 1) bs cs in
    let at : blocks_size p (next + 1 + length bs) cs ≡ blocks_size p (next + suc (length bs)) cs =
    ap (λ n. blocks_size p n cs) (further next (length bs)) in
    omega (arith, more, at)

-- ---- blocks and groups

condition_least : (c : Condition) → 1 ≤ condition_tokens c
condition_least C.Error = omega arith
condition_least C.Area = omega arith
condition_least C.FixedOverflow = omega arith
condition_least C.ZeroDivide = omega arith
condition_least C.Endfile = omega arith

-- an on-unit takes two tokens at least beside its statement
unit_within : (p : Y.Program) (c : Context) → LevelsFew c.scope.blocks → (line : ℕ) (on : Condition) (s : Y.Stmt)
    → stmt_size p (Y.OnUnit on (unit_of c line s) line) ≤ stmt_size p s + 208
unit_within p c v line on (Y.Begin (Y.BlockOf head body)) = omega arith
unit_within p c v line on s = let level = v c.scope.block in omega (arith, level)

unit_beside : (c : Context) (line : ℕ) (on : Condition) (s : Y.Stmt)
    → stmt_beside s ≤ stmt_beside (Y.OnUnit on (unit_of c line s) line)
unit_beside c line on (Y.Begin (Y.BlockOf head body)) = omega arith
unit_beside c line on s = omega arith

do_within : (p : Y.Program) (n : ℕ) (t : Turns) (ss : Y.Stmts) (line : ℕ) → TurnsWithin n t
    → stmt_size p (do_statement t ss line) + stmts_beside ss
    ≤ n + (stmts_size p ss + stmt_beside (do_statement t ss line))
do_within p n (OneTurn r s b) ss line h = omega (arith, h)
do_within p n (CountedTurns counter start limit step b) ss line h = omega (arith, h)

-- ---- procedures

further_parameters : (f : T.Name → ℕ) (names : List T.Name)
    → 61 * length (map f names) ≤ 104 * commas_before (λ m. 1) names
further_parameters f [] = omega arith
further_parameters f (n ∷ ns) = let more = further_parameters f ns in omega (arith, more)

mapped_within : (f : T.Name → ℕ) (names : List T.Name)
    → parameters_size (map f names) ≤ 104 * parameters_tokens names
mapped_within f [] = omega arith
mapped_within f (n ∷ ns) = let more = further_parameters f ns in omega (arith, more)

parameters_within : (blocks : List Block) (b : ℕ) (names : List T.Name)
    → parameters_size (parameter_indices blocks b names) ≤ 104 * parameters_tokens names
parameters_within blocks b names = mapped_within _ names

procedure_within : (p : Y.Program) (c : Context) → LevelsFew c.scope.blocks → (number : ℕ) (head : T.ProcedureHead)
    (ss : Y.Stmts)
    → procedure_size p (procedure_of c number head ss)
    ≤ variables_size (variables_of_block p number) + (stmts_size p ss + 104 * (procedure_tokens head + 2))
procedure_within p c v number head ss =
    let level = v number in
    let given = parameters_within c.scope.blocks number head.parameters in
    omega (arith, level, given)

-- ---- declarations have no more tokens than all items

mutual
  declared_most : (s : T.Stmt) → declared_tokens s ≤ stmt_tokens s
  declared_most (T.If e unit place) = let inner = declared_most unit in omega (arith, inner)
  declared_most (T.IfElse e unit otherwise place) =
      let one = declared_most unit in
      let other = declared_most otherwise in
      omega (arith, one, other)
  declared_most (T.Do body place) = let inner = declares_most body in omega (arith, inner)
  declared_most (T.DoWhile e body place) = let inner = declares_most body in omega (arith, inner)
  declared_most (T.DoCount counting body place) = let inner = declares_most body in omega (arith, inner)
  declared_most (T.Begin body place) = let inner = declares_most body in omega (arith, inner)
  declared_most (T.OnUnit on unit place) = let inner = declared_most unit in omega (arith, inner)
  declared_most _ = omega arith

  pub declares_most : (is : T.Items) → declares_tokens is ≤ items_tokens is
  declares_most T.NoItem = omega arith
  declares_most (T.ItemThen (T.Procedure head body) is) =
      let inner = declares_most body in
      let rest = declares_most is in
      omega (arith, inner, rest)
  declares_most (T.ItemThen (T.Declare items place) is) = let rest = declares_most is in omega (arith, rest)
  declares_most (T.ItemThen (T.Statement labels s) is) =
      let one = declared_most s in
      let rest = declares_most is in
      omega (arith, one, rest)
  declares_most (T.ItemThen (T.EndLabels labels place) is) = let rest = declares_most is in omega (arith, rest)

-- no block begins in a DECLARE
declares_none : (p : Y.Program) (around : List ℕ) (next : ℕ) (is : T.Items)
    → blocks_size p next (blocks_in around (next + 0) is) ≡ blocks_size p next (blocks_in around next is)
declares_none p around next is = ap (λ n. blocks_size p next (blocks_in around n is)) (omega arith)

-- ---- statements with all that they hold

abbrev IsShort : Y.Program → Context → (next : ℕ) → T.Stmt → Type 0
IsShort p c next s =
    stmt_size p (statement c next s).value
    + (procedures_size p (statement c next s).procedures + 104 * declared_tokens s)
    ≤ 104 * stmt_tokens s
    + (stmt_beside (statement c next s).value
    + (procedures_beside (statement c next s).procedures + blocks_size p next (blocks_in_stmt c.around next s)))

abbrev AreShort : Y.Program → Context → (next : ℕ) → T.Items → Type 0
AreShort p c next is =
    stmts_size p (statements c next is).value
    + (procedures_size p (statements c next is).procedures + 104 * declares_tokens is)
    ≤ 104 * items_tokens is
    + (stmts_beside (statements c next is).value
    + (procedures_beside (statements c next is).procedures + blocks_size p next (blocks_in c.around next is)))

mutual
  unfolding statement statements blocks_in blocks_in_item blocks_in_stmt

  stmt_short : (p : Y.Program) (c : Context) → LevelsFew c.scope.blocks → (next : ℕ) (s : T.Stmt) → IsShort p c next s
  stmt_short p c v next (T.Null place) = omega arith
  stmt_short p c v next (T.Assign target source place) =
      let own = assign_within p c.scope target source place in omega (arith, own)
  stmt_short p c v next (T.If e unit place) =
      let s = statement c next unit in
      let met = condition_within c.scope e in
      let inner = stmt_short p c v next unit in
      let sizes = both_sizes p s.procedures [] in
      let beside = both_beside s.procedures [] in
      omega (arith, met, inner, sizes, beside)
  stmt_short p c v next (T.IfElse e unit otherwise place) =
      let n = behind_stmt c next unit in
      let s = statement c next unit in
      let t = statement c n otherwise in
      let met = condition_within c.scope e in
      let one = stmt_short p c v next unit in
      let other = stmt_short p c v n otherwise in
      let sizes = both_sizes p s.procedures (t.procedures ++ []) in
      let sizes' = both_sizes p t.procedures [] in
      let beside = both_beside s.procedures (t.procedures ++ []) in
      let beside' = both_beside t.procedures [] in
      let blocks = blocks_split p next (blocks_in_stmt c.around next unit) (blocks_in_stmt c.around n otherwise) in
      omega (arith, met, one, other, sizes, sizes', beside, beside', blocks)
  stmt_short p c v next (T.Do body place) =
      let d = in_list c (labels_in body) in
      let ss = statements d next body in
      let inner = list_short p d v next body in
      let sizes = both_sizes p ss.procedures [] in
      let beside = both_beside ss.procedures [] in
      omega (arith, inner, sizes, beside)
  stmt_short p c v next (T.DoWhile e body place) =
      let d = in_list c (labels_in body) in
      let ss = statements d next body in
      let met = condition_within c.scope e in
      let inner = list_short p d v next body in
      let sizes = both_sizes p ss.procedures [] in
      let beside = both_beside ss.procedures [] in
      omega (arith, met, inner, sizes, beside)
  stmt_short p c v next (T.DoCount counting body place) =
      let d = in_list c (labels_in body) in
      let ss = statements d next body in
      let t = (turns c.scope counting).value in
      let own = do_within p (104 * (4 + counting_tokens counting)) t ss.value place.line
      (turns_within c.scope counting) in
      let inner = list_short p d v next body in
      let sizes = both_sizes p ss.procedures [] in
      let beside = both_beside ss.procedures [] in
      omega (arith, own, inner, sizes, beside)
  stmt_short p c v next (T.Begin body place) =
      let d = in_block c next (labels_in body) in
      let ss = statements d (next + 1) body in
      let level = v next in
      let inner = list_short p d v (next + 1) body in
      let sizes = both_sizes p ss.procedures [] in
      let beside = both_beside ss.procedures [] in
      omega (arith, level, inner, sizes, beside)
  stmt_short p c v next (T.OnSystem on place) = omega arith
  stmt_short p c v next (T.OnUnit on unit place) =
      let s = statement (in_unit c) next unit in
      let named = condition_least on in
      let own = unit_within p c v place.line on s.value in
      let more = unit_beside c place.line on s.value in
      let inner = stmt_short p (in_unit c) v next unit in
      let sizes = both_sizes p s.procedures [] in
      let beside = both_beside s.procedures [] in
      omega (arith, named, own, more, inner, sizes, beside)
  stmt_short p c v next (T.Call name a place) =
      let own = call_within p c.scope name a place in omega (arith, own)
  stmt_short p c v next (T.Return value place) = let own = return_within p c value place in omega (arith, own)
  stmt_short p c v next (T.Goto label place) = let own = goto_within p c label place in omega (arith, own)
  stmt_short p c v next (T.Stop place) = omega arith
  stmt_short p c v next (T.Signal on place) = omega arith
  stmt_short p c v next (T.Revert on place) = omega arith
  stmt_short p c v next (T.Allocate as' place) =
      let own = allocate_within p c.scope as' place in omega (arith, own)
  stmt_short p c v next (T.Free fs place) = let own = free_within p c.scope fs place in omega (arith, own)
  stmt_short p c v next (T.Get skip pairs place) =
      let own = get_statement_within p c.scope skip pairs place in omega (arith, own)
  stmt_short p c v next (T.Put skip pairs place) =
      let own = put_statement_within p c.scope skip pairs place in omega (arith, own)

  pub list_short : (p : Y.Program) (c : Context) → LevelsFew c.scope.blocks → (next : ℕ) (is : T.Items)
      → AreShort p c next is
  list_short p c v next T.NoItem = omega arith
  list_short p c v next (T.ItemThen (T.Procedure head body) is) =
      let d = in_block c next (labels_in body) in
      let ss = statements d (next + 1) body in
      let n = behind_item c next (T.Procedure head body) in
      let own = procedure_within p c v next head ss.value in
      let inner = list_short p d v (next + 1) body in
      let rest = list_short p c v n is in
      let others = (statements c n is).procedures in
      let sizes = both_sizes p ss.procedures others in
      let beside = both_beside ss.procedures others in
      let blocks = blocks_split p next (blocks_in_item c.around next (T.Procedure head body))
      (blocks_in c.around n is) in
      omega (arith, own, inner, rest, sizes, beside, blocks)
  list_short p c v next (T.ItemThen (T.Declare items place) is) =
      let rest = list_short p c v next is in
      let blocks = declares_none p c.around next is in
      omega (arith, rest, blocks)
  list_short p c v next (T.ItemThen (T.Statement labels s) is) =
      let n = behind_stmt c next s in
      let t = statement c next s in
      let ss = statements c n is in
      let one = stmt_short p c v next s in
      let rest = list_short p c v n is in
      let sizes = both_sizes p t.procedures (ss.procedures ++ []) in
      let sizes' = both_sizes p ss.procedures [] in
      let beside = both_beside t.procedures (ss.procedures ++ []) in
      let beside' = both_beside ss.procedures [] in
      let blocks = blocks_split p next (blocks_in_stmt c.around next s) (blocks_in c.around n is) in
      omega (arith, one, rest, sizes, sizes', beside, beside', blocks)
  list_short p c v next (T.ItemThen (T.EndLabels labels place) is) =
      let rest = declares_most is in omega (arith, rest)

pub statements_short : StatementsShort
statements_short = stmt_short
