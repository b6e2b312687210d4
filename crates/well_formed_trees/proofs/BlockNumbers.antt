-- The blocks of a typed tree have the numbers that its source's blocks have, each once.
use Rattle.std.proofs.Common.{◌≡◌, ℕ, suc, ◌+◌, List, [], ◌∷◌, ◌++◌, length, refl, sym, ap, ◌∙◌, arith}
use Rattle.pli_language.specs.Tree as T
use Rattle.pli_language.specs.Declarations.{blocks_in, blocks_in_item, blocks_in_stmt}
use Rattle.pli_typing.specs.TypedTree as Y
use Rattle.pli_typing.specs.SingleStatements.{Context, Turns, OneTurn, CountedTurns, do_statement, in_list, in_block}
use Rattle.pli_typing.specs.SingleStatements.{in_unit, labels_in, turns, assign_statement, call_statement}
use Rattle.pli_typing.specs.SingleStatements.{return_statement, goto_statement}
use Rattle.pli_typing.specs.Resolving.{Resolved, statement, statements, unit_of}
use Rattle.std.proofs.lemmas.List.{length-append}
use Rattle.well_formed_trees.specs.Written.{EndsLast, AllEndLast}
use Rattle.well_formed_trees.specs.Blocks.{times, procedure_numbers, numbers_of, numbers_in, numbers_among}
use Rattle.well_formed_trees.specs.Blocks.{own_number}
use Rattle.std.specs.Prelude.{⊤}
use Rattle.well_formed_trees.proofs.SimpleStatements.{IsSimple, assign_simple, call_simple, return_simple}
use Rattle.well_formed_trees.proofs.SimpleStatements.{goto_simple}
use Rattle.well_formed_trees.proofs.Counts.{in_row, times_then, times_append, times_procedures, row_append, row_then}

-- a simple statement holds no block
simple_numbers : (n : ℕ) (s : Y.Stmt) → IsSimple s → times n (numbers_in s) ≡ 0
simple_numbers n (Y.If condition unit line) h = absurd h
simple_numbers n (Y.IfElse condition unit otherwise line) h = absurd h
simple_numbers n (Y.Do body line) h = absurd h
simple_numbers n (Y.DoWhile condition body line) h = absurd h
simple_numbers n (Y.DoOnce target start condition body line) h = absurd h
simple_numbers n (Y.DoCount counter start limit step condition body line) h = absurd h
simple_numbers n (Y.Begin block) h = absurd h
simple_numbers n (Y.OnUnit condition block line) h = absurd h
simple_numbers n _ h = refl

done_numbers : (n from : ℕ) (s : Y.Stmt) → IsSimple s → times n (numbers_in s) + 0 ≡ in_row n from 0
done_numbers n from s h = let a = simple_numbers n s h in omega (arith, a)

do_numbers : (n : ℕ) (t : Turns) (body : Y.Stmts) (line : ℕ)
    → times n (numbers_in (do_statement t body line)) ≡ times n (numbers_among body)
do_numbers n (OneTurn r s b) body line = refl
do_numbers n (CountedTurns counter s limit step b) body line = refl

-- a BEGIN block has a number of its own
abbrev pub HasOwn : Y.Stmt → Type 0
HasOwn (Y.Begin (Y.BlockOf head body)) = head.kind ≡ Y.BeginBlock
HasOwn _ = ⊤

simple_own : (s : Y.Stmt) → IsSimple s → HasOwn s
simple_own (Y.Begin block) h = absurd h
simple_own _ h = tt

do_own : (t : Turns) (body : Y.Stmts) (line : ℕ) → HasOwn (do_statement t body line)
do_own (OneTurn r s b) body line = tt
do_own (CountedTurns counter s limit step b) body line = tt

pub has_own : (c : Context) (next : ℕ) (s : T.Stmt) → HasOwn (statement c next s).value
unfolding statement
has_own c next (T.Null place) = tt
has_own c next (T.Assign target source place) =
    simple_own (assign_statement c.scope target source place).value (assign_simple c.scope target source place)
has_own c next (T.If e unit place) = tt
has_own c next (T.IfElse e unit otherwise place) = tt
has_own c next (T.Do body place) = tt
has_own c next (T.DoWhile e body place) = tt
has_own c next (T.DoCount counting body place) =
    do_own (turns c.scope counting).value (statements (in_list c (labels_in body)) next body).value place.line
has_own c next (T.Begin body place) = refl
has_own c next (T.OnSystem on place) = tt
has_own c next (T.OnUnit on unit place) = tt
has_own c next (T.Call name a place) =
    simple_own (call_statement c.scope name a place).value (call_simple c.scope name a place)
has_own c next (T.Return value place) = simple_own (return_statement c value place).value (return_simple c value place)
has_own c next (T.Goto label place) = simple_own (goto_statement c label place).value (goto_simple c label place)
has_own c next (T.Stop place) = tt
has_own c next (T.Signal on place) = tt
has_own c next (T.Revert on place) = tt
has_own c next (T.Allocate allocations place) = tt
has_own c next (T.Free freeings place) = tt
has_own c next (T.Get skip pairs place) = tt
has_own c next (T.Put skip pairs place) = tt

-- an on-unit has the number of its BEGIN, or none of its own
same_numbers : (n : ℕ) (head : Y.BlockHead) (k : Y.BlockKind) (body : Y.Stmts) → k ≡ Y.BeginBlock
    → times n (own_number (record head { kind = Y.UnitBlock }) Y.UnitBlock ++ numbers_among body) ≡ times n
    (own_number head k ++ numbers_among body)
same_numbers n head k body e = ap (λ k. times n (own_number head k ++ numbers_among body)) (sym e)

alone_numbers : (n : ℕ) (s : Y.Stmt) → times n (numbers_in s ++ []) ≡ times n (numbers_in s)
alone_numbers n s = let a = times_append n (numbers_in s) [] in omega (arith, a)

unit_numbers : (n : ℕ) (c : Context) (line : ℕ) (s : Y.Stmt) → HasOwn s
    → times n (numbers_of (unit_of c line s)) ≡ times n (numbers_in s)
unit_numbers n c line (Y.Begin (Y.BlockOf head body)) h = same_numbers n head head.kind body h
unit_numbers n c line s h = alone_numbers n s

-- how often a number stands in what a statement comes to, and in the procedures in it
abbrev in_stmt : ℕ → Resolved Y.Stmt → ℕ
in_stmt n r = times n (numbers_in r.value) + times n (procedure_numbers r.procedures)

abbrev in_stmts : ℕ → Resolved Y.Stmts → ℕ
in_stmts n r = times n (numbers_among r.value) + times n (procedure_numbers r.procedures)

behind_all : (n : ℕ) (ps : List Y.Procedure) → times n (procedure_numbers (ps ++ [])) ≡ times n (procedure_numbers ps)
behind_all n ps = let a = times_procedures n ps [] in omega (arith, a)

behind_both : (n : ℕ) (ps qs : List Y.Procedure)
    → times n (procedure_numbers (ps ++ (qs ++ []))) ≡ times n (procedure_numbers ps) + times n (procedure_numbers qs)
behind_both n ps qs =
    let a = times_procedures n ps (qs ++ []) in
    let b = behind_all n qs in
    omega (arith, a, b)

-- a row splits where the blocks of two parts stand one behind the other
row_blocks : {B : Type 0} (n next : ℕ) (bs cs : List B)
    → in_row n next (length (bs ++ cs)) ≡ in_row n next (length bs) + in_row n (next + length bs) (length cs)
row_blocks n next bs cs =
    row_append n next (length bs) (length cs) (length (bs ++ cs)) (next + length bs) (length-append bs cs) refl

-- ---- the law for statements and lists

mutual
  unfolding statement statements blocks_in blocks_in_item blocks_in_stmt

  stmt_numbers : (n : ℕ) (c : Context) (next : ℕ) (s : T.Stmt) → EndsLast s
      → in_stmt n (statement c next s) ≡ in_row n next (length (blocks_in_stmt c.around next s))
  stmt_numbers n c next (T.Null place) l = refl
  stmt_numbers n c next (T.Assign target source place) l =
      done_numbers n next (assign_statement c.scope target source place).value
      (assign_simple c.scope target source place)
  stmt_numbers n c next (T.If e unit place) l =
      let a = stmt_numbers n c next unit l in
      let b = behind_all n (statement c next unit).procedures in
      omega (arith, a, b)
  stmt_numbers n c next (T.IfElse e unit otherwise place) l =
      let bs = blocks_in_stmt c.around next unit in
      let r = statement c next unit in
      let q = statement c (next + length bs) otherwise in
      let a = stmt_numbers n c next unit l.0 in
      let b = stmt_numbers n c (next + length bs) otherwise l.1 in
      let d = behind_both n r.procedures q.procedures in
      let f = times_append n (numbers_in r.value) (numbers_in q.value) in
      let g = row_blocks n next bs (blocks_in_stmt c.around (next + length bs) otherwise) in
      omega (arith, a, b, d, f, g)
  stmt_numbers n c next (T.Do body place) l =
      let a = stmts_numbers n (in_list c (labels_in body)) next body l in
      let b = behind_all n (statements (in_list c (labels_in body)) next body).procedures in
      omega (arith, a, b)
  stmt_numbers n c next (T.DoWhile e body place) l =
      let a = stmts_numbers n (in_list c (labels_in body)) next body l in
      let b = behind_all n (statements (in_list c (labels_in body)) next body).procedures in
      omega (arith, a, b)
  stmt_numbers n c next (T.DoCount counting body place) l =
      let r = statements (in_list c (labels_in body)) next body in
      let a = stmts_numbers n (in_list c (labels_in body)) next body l in
      let b = behind_all n r.procedures in
      let d = do_numbers n (turns c.scope counting).value r.value place.line in
      omega (arith, a, b, d)
  stmt_numbers n c next (T.Begin body place) l =
      let r = statements (in_block c next (labels_in body)) (next + 1) body in
      let many = length (blocks_in (next ∷ c.around) (next + 1) body) in
      let a = stmts_numbers n (in_block c next (labels_in body)) (next + 1) body l in
      let b = behind_all n r.procedures in
      let d = times_then n next (numbers_among r.value) in
      let f = row_then n next many (next + 1) (suc many) refl refl in
      omega (arith, a, b, d, f)
  stmt_numbers n c next (T.OnSystem on place) l = refl
  stmt_numbers n c next (T.OnUnit on unit place) l =
      let r = statement (in_unit c) next unit in
      let a = stmt_numbers n (in_unit c) next unit l.1 in
      let b = behind_all n r.procedures in
      let d = unit_numbers n c place.line r.value (has_own (in_unit c) next unit) in
      omega (arith, a, b, d)
  stmt_numbers n c next (T.Call name a place) l =
      done_numbers n next (call_statement c.scope name a place).value (call_simple c.scope name a place)
  stmt_numbers n c next (T.Return value place) l =
      done_numbers n next (return_statement c value place).value (return_simple c value place)
  stmt_numbers n c next (T.Goto label place) l =
      done_numbers n next (goto_statement c label place).value (goto_simple c label place)
  stmt_numbers n c next (T.Stop place) l = refl
  stmt_numbers n c next (T.Signal on place) l = refl
  stmt_numbers n c next (T.Revert on place) l = refl
  stmt_numbers n c next (T.Allocate allocations place) l = refl
  stmt_numbers n c next (T.Free freeings place) l = refl
  stmt_numbers n c next (T.Get skip pairs place) l = refl
  stmt_numbers n c next (T.Put skip pairs place) l = refl

  pub stmts_numbers : (n : ℕ) (c : Context) (next : ℕ) (is : T.Items) → AllEndLast is
      → in_stmts n (statements c next is) ≡ in_row n next (length (blocks_in c.around next is))
  stmts_numbers n c next T.NoItem l = refl
  stmts_numbers n c next (T.ItemThen (T.Procedure head body) is) l =
      let bs = blocks_in_item c.around next (T.Procedure head body) in
      let r = statements (in_block c next (labels_in body)) (next + 1) body in
      let q = statements c (next + length bs) is in
      let many = length (blocks_in (next ∷ c.around) (next + 1) body) in
      let a = stmts_numbers n (in_block c next (labels_in body)) (next + 1) body l.0 in
      let b = stmts_numbers n c (next + length bs) is l.1 in
      let d = times_then n next (numbers_among r.value) in
      let f = row_then n next many (next + 1) (suc many) refl refl in
      let g = row_blocks n next bs (blocks_in c.around (next + length bs) is) in
      let h = times_append n (next ∷ numbers_among r.value) (procedure_numbers (r.procedures ++ q.procedures)) in
      let k = times_procedures n r.procedures q.procedures in
      omega (arith, a, b, d, f, g, h, k)
  stmts_numbers n c next (T.ItemThen (T.Declare items place) is) l =
      let a = stmts_numbers n c next is l in
      let z : next + 0 ≡ next = omega arith in
      let e : in_row n next (length (blocks_in c.around (next + 0) is)) ≡ in_row n next
      (length (blocks_in c.around next is)) =
      ap (λ m. in_row n next (length (blocks_in c.around m is))) z in
      a ∙ sym e
  stmts_numbers n c next (T.ItemThen (T.Statement labels s) is) l =
      let bs = blocks_in_stmt c.around next s in
      let r = statement c next s in
      let q = statements c (next + length bs) is in
      let a = stmt_numbers n c next s l.0 in
      let b = stmts_numbers n c (next + length bs) is l.1 in
      let d = behind_both n r.procedures q.procedures in
      let f = times_append n (numbers_in r.value) (numbers_among q.value) in
      let g = row_blocks n next bs (blocks_in c.around (next + length bs) is) in
      omega (arith, a, b, d, f, g)
  stmts_numbers n c next (T.ItemThen (T.EndLabels labels place) is) l =
      ap (λ is. in_row n next (length (blocks_in c.around (next + 0) is))) (sym l)
