-- The routines of extents are those of the blocks of a source: each block has its number once.
use Rattle.std.proofs.Common.{◌≡◌, ℕ, suc, ◌+◌, ◌*◌, ◌≤◌, Bool, true, false, List, [], ◌∷◌, ◌++◌, length}
use Rattle.std.proofs.Common.{if◌then◌else◌, refl, ap, subst, arith}
use Rattle.std.specs.Prelude.{nat_lt}
use Rattle.pli_language.specs.declared.condition.Condition.{Condition}
use Rattle.pli_language.specs.Tree as T
use Rattle.pli_language.specs.Declarations.{Block, blocks_in, blocks_in_item, blocks_in_stmt}
use Rattle.pli_typing.specs.TypedTree as Y
use Rattle.pli_typing.specs.Variables.{level_of_block}
use Rattle.pli_typing.specs.SingleStatements.{Context, Turns, OneTurn, CountedTurns, in_list, in_block, in_unit}
use Rattle.pli_typing.specs.SingleStatements.{labels_in, turns, do_statement, goto_statement, call_statement}
use Rattle.pli_typing.specs.SingleStatements.{return_statement, assign_statement}
use Rattle.pli_typing.specs.Resolving.{statement, statements, unit_of, behind_stmt, behind_item}
use Rattle.pli_meaning.specs.DeclaredShapes.{variables_of_block}
use Rattle.pli_coding.specs.Environments.{BlockPlace}
use Rattle.pli_coding.specs.Procedures.{has_routine}
use Rattle.pli_coding.specs.Images as I
use Rattle.code_sizes.specs.StatementSizes.{extents_size}
use Rattle.code_sizes.specs.StartSizes.{routine_size, block_routines_size, routines_size}
use Rattle.well_formed_trees.proofs.SimpleStatements.{IsSimple, assign_simple, call_simple, return_simple, goto_simple}
use Rattle.program_lengths.specs.StatementLengths.{LevelsFew}

-- ---- sums

routines_split : (p : Y.Program) (bs cs : List BlockPlace)
    → routines_size p (bs ++ cs) ≡ routines_size p bs + routines_size p cs
routines_split p [] cs = omega arith
routines_split p (b ∷ bs) cs = let more = routines_split p bs cs in omega (arith, more)

-- in whatever order
with_block : (p : Y.Program) (b : BlockPlace) (cs : List BlockPlace)
    → routines_size p (I.with_block b cs) ≡ routines_size p (b ∷ cs)
with_block p b [] = refl
with_block p b (c ∷ cs) = by (nat_lt b.number c.number) (with_block p b cs) where
  by : (q : Bool) → routines_size p (I.with_block b cs) ≡ routines_size p (b ∷ cs)
      → routines_size p (if q then b ∷ c ∷ cs else c ∷ I.with_block b cs) ≡ routines_size p (b ∷ c ∷ cs)
  by true h = refl
  by false h = omega (arith, h)

with_blocks : (p : Y.Program) (bs cs : List BlockPlace)
    → routines_size p (I.with_blocks bs cs) ≡ routines_size p bs + routines_size p cs
with_blocks p [] cs = omega arith
with_blocks p (b ∷ bs) cs =
    let one = with_block p b cs in
    let more = with_blocks p bs (I.with_block b cs) in
    omega (arith, one, more)

abbrev pub held_routines : Y.Program → List Y.Procedure → ℕ
held_routines p [] = 0
held_routines p (q ∷ qs) = routines_size p (I.blocks_of_procedure q.block) + held_routines p qs

held_split : (p : Y.Program) (qs rs : List Y.Procedure)
    → held_routines p (qs ++ rs) ≡ held_routines p qs + held_routines p rs
held_split p [] rs = omega arith
held_split p (q ∷ qs) rs = let more = held_split p qs rs in omega (arith, more)

pub all_held : (p : Y.Program) (qs : List Y.Procedure) → routines_size p (I.blocks_of qs) ≡ held_routines p qs
all_held p [] = refl
all_held p (q ∷ qs) =
    let one = with_blocks p (I.blocks_of_procedure q.block) (I.blocks_of qs) in
    let more = all_held p qs in
    omega (arith, one, more)

-- ---- blocks, of which the first has this number

abbrev pub routine_blocks : Y.Program → (next : ℕ) → List Block → ℕ
routine_blocks p next [] = 0
routine_blocks p next (b ∷ bs) = block_routines_size 16 (variables_of_block p next) + routine_blocks p (next + 1) bs

blocks_split : (p : Y.Program) (next : ℕ) (bs cs : List Block)
    → routine_blocks p next (bs ++ cs) ≡ routine_blocks p next bs + routine_blocks p (next + length bs) cs
blocks_split p next [] cs = by (next + 0) (omega arith) where
  by : (n : ℕ) → next ≡ n → routine_blocks p next cs ≡ 0 + routine_blocks p n cs
  by n e = subst (λ n. routine_blocks p next cs ≡ 0 + routine_blocks p n cs) e (omega arith)
blocks_split p next (b ∷ bs) cs =
    let more = blocks_split p (next + 1) bs cs in
    let at : routine_blocks p (next + 1 + length bs) cs ≡ routine_blocks p (next + suc (length bs)) cs =
    ap (λ n. routine_blocks p n cs) (further next (length bs)) in
    omega (arith, more, at)
  where
    further : (next n : ℕ) → next + 1 + n ≡ next + suc n
    further next n = omega arith

-- a display of more levels takes more
routine_more : (level : ℕ) → level ≤ 16 → (d : Y.DeclaredVariable) (xs : List Y.Evaluation)
    → routine_size level d xs ≤ routine_size 16 d xs
routine_more level l d [] = omega arith
routine_more level l d (x ∷ xs) = by (has_routine d.class) where
  by : (b : Bool) → (if b then extents_size d + (6 * level + 75) else 0)
      ≤ (if b then extents_size d + (6 * 16 + 75) else 0)
  by true = omega (arith, l)
  by false = omega arith

block_more : (level : ℕ) → level ≤ 16 → (ds : List Y.DeclaredVariable)
    → block_routines_size level ds ≤ block_routines_size 16 ds
block_more level l [] = omega arith
block_more level l (d ∷ ds) =
    let one = routine_more level l d d.evaluations in
    let more = block_more level l ds in
    omega (arith, one, more)

-- ---- statements

simple_routines : (p : Y.Program) (s : Y.Stmt) → IsSimple s → routines_size p (I.blocks_in s) ≤ 0
simple_routines p (Y.If condition unit line) h = absurd h
simple_routines p (Y.IfElse condition unit otherwise line) h = absurd h
simple_routines p (Y.Do body line) h = absurd h
simple_routines p (Y.DoWhile condition body line) h = absurd h
simple_routines p (Y.DoOnce target start condition body line) h = absurd h
simple_routines p (Y.DoCount counter start limit step condition body line) h = absurd h
simple_routines p (Y.Begin block) h = absurd h
simple_routines p (Y.OnUnit condition block line) h = absurd h
simple_routines p _ h = omega arith

do_routines : (p : Y.Program) (t : Turns) (ss : Y.Stmts) (line : ℕ)
    → routines_size p (I.blocks_in (do_statement t ss line)) ≤ routines_size p (I.blocks_among ss)
do_routines p (OneTurn r s b) ss line = omega arith
do_routines p (CountedTurns counter start limit step b) ss line = omega arith

unit_routines : (p : Y.Program) (c : Context) (line : ℕ) (on : Condition) (s : Y.Stmt)
    → routines_size p (I.blocks_in (Y.OnUnit on (unit_of c line s) line)) ≤ routines_size p (I.blocks_in s)
unit_routines p c line on (Y.Begin (Y.BlockOf head body)) = omega arith
unit_routines p c line on s = let all = routines_split p (I.blocks_in s) [] in omega (arith, all)

abbrev RoutinesFew : Y.Program → Context → (next : ℕ) → T.Stmt → Type 0
RoutinesFew p c next s =
    routines_size p (I.blocks_in (statement c next s).value) + held_routines p (statement c next s).procedures
    ≤ routine_blocks p next (blocks_in_stmt c.around next s)

abbrev AllFew : Y.Program → Context → (next : ℕ) → T.Items → Type 0
AllFew p c next is =
    routines_size p (I.blocks_among (statements c next is).value) + held_routines p (statements c next is).procedures
    ≤ routine_blocks p next (blocks_in c.around next is)

-- no block begins here
none_begins : (p : Y.Program) (around : List ℕ) (next : ℕ) (is : T.Items)
    → routine_blocks p next (blocks_in around (next + 0) is) ≡ routine_blocks p next (blocks_in around next is)
none_begins p around next is = ap (λ n. routine_blocks p next (blocks_in around n is)) (omega arith)

mutual
  unfolding statement statements blocks_in blocks_in_item blocks_in_stmt

  stmt_routines : (p : Y.Program) (c : Context) → LevelsFew c.scope.blocks → (next : ℕ) (s : T.Stmt)
      → RoutinesFew p c next s
  stmt_routines p c v next (T.If e unit place) =
      let s = statement c next unit in
      let inner = stmt_routines p c v next unit in
      let held = held_split p s.procedures [] in
      omega (arith, inner, held)
  stmt_routines p c v next (T.IfElse e unit otherwise place) =
      let n = behind_stmt c next unit in
      let s = statement c next unit in
      let t = statement c n otherwise in
      let one = stmt_routines p c v next unit in
      let other = stmt_routines p c v n otherwise in
      let held = held_split p s.procedures (t.procedures ++ []) in
      let held' = held_split p t.procedures [] in
      let places = routines_split p (I.blocks_in s.value) (I.blocks_in t.value) in
      let blocks = blocks_split p next (blocks_in_stmt c.around next unit) (blocks_in_stmt c.around n otherwise) in
      omega (arith, one, other, held, held', places, blocks)
  stmt_routines p c v next (T.Do body place) =
      let d = in_list c (labels_in body) in
      let inner = list_routines p d v next body in
      let held = held_split p (statements d next body).procedures [] in
      omega (arith, inner, held)
  stmt_routines p c v next (T.DoWhile e body place) =
      let d = in_list c (labels_in body) in
      let inner = list_routines p d v next body in
      let held = held_split p (statements d next body).procedures [] in
      omega (arith, inner, held)
  stmt_routines p c v next (T.DoCount counting body place) =
      let d = in_list c (labels_in body) in
      let ss = statements d next body in
      let own = do_routines p (turns c.scope counting).value ss.value place.line in
      let inner = list_routines p d v next body in
      let held = held_split p ss.procedures [] in
      omega (arith, own, inner, held)
  stmt_routines p c v next (T.Begin body place) =
      let d = in_block c next (labels_in body) in
      let level = v next in
      let own = block_more (suc (level_of_block c.scope.blocks next)) (omega (arith, level))
      (variables_of_block p next) in
      let inner = list_routines p d v (next + 1) body in
      let held = held_split p (statements d (next + 1) body).procedures [] in
      omega (arith, own, inner, held)
  stmt_routines p c v next (T.OnUnit on unit place) =
      let s = statement (in_unit c) next unit in
      let own = unit_routines p c place.line on s.value in
      let inner = stmt_routines p (in_unit c) v next unit in
      let held = held_split p s.procedures [] in
      omega (arith, own, inner, held)
  stmt_routines p c v next (T.Assign target source place) =
      let own = simple_routines p (assign_statement c.scope target source place).value
      (assign_simple c.scope target source place) in
      omega (arith, own)
  stmt_routines p c v next (T.Call name a place) =
      let own = simple_routines p (call_statement c.scope name a place).value (call_simple c.scope name a place) in
      omega (arith, own)
  stmt_routines p c v next (T.Return value place) =
      let own = simple_routines p (return_statement c value place).value (return_simple c value place) in
      omega (arith, own)
  stmt_routines p c v next (T.Goto label place) =
      let own = simple_routines p (goto_statement c label place).value (goto_simple c label place) in
      omega (arith, own)
  stmt_routines p c v next _ = omega arith

  pub list_routines : (p : Y.Program) (c : Context) → LevelsFew c.scope.blocks → (next : ℕ) (is : T.Items)
      → AllFew p c next is
  list_routines p c v next T.NoItem = omega arith
  list_routines p c v next (T.ItemThen (T.Procedure head body) is) =
      let d = in_block c next (labels_in body) in
      let ss = statements d (next + 1) body in
      let n = behind_item c next (T.Procedure head body) in
      let level = v next in
      let own = block_more (suc (level_of_block c.scope.blocks next)) (omega (arith, level))
      (variables_of_block p next) in
      let inner = list_routines p d v (next + 1) body in
      let rest = list_routines p c v n is in
      let held = held_split p ss.procedures (statements c n is).procedures in
      let blocks = blocks_split p next (blocks_in_item c.around next (T.Procedure head body))
      (blocks_in c.around n is) in
      omega (arith, own, inner, rest, held, blocks)
  list_routines p c v next (T.ItemThen (T.Declare items place) is) =
      let rest = list_routines p c v next is in
      let blocks = none_begins p c.around next is in
      omega (arith, rest, blocks)
  list_routines p c v next (T.ItemThen (T.Statement labels s) is) =
      let n = behind_stmt c next s in
      let t = statement c next s in
      let ss = statements c n is in
      let one = stmt_routines p c v next s in
      let rest = list_routines p c v n is in
      let held = held_split p t.procedures (ss.procedures ++ []) in
      let held' = held_split p ss.procedures [] in
      let places = routines_split p (I.blocks_in t.value) (I.blocks_among ss.value) in
      let blocks = blocks_split p next (blocks_in_stmt c.around next s) (blocks_in c.around n is) in
      omega (arith, one, rest, held, held', places, blocks)
  list_routines p c v next (T.ItemThen (T.EndLabels labels place) is) = omega arith
