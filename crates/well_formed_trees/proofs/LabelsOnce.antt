-- The labels of each block stand once in it, where declarations break no rule.
use Rattle.std.proofs.Common.{◌≡◌, ℕ, ◌+◌, List, [], ◌∷◌, ◌++◌, length, sym, subst, arith}
use Rattle.std.specs.List.{flat_map}
use Rattle.pli_language.specs.Tree as T
use Rattle.pli_language.specs.Declarations.{Block, declared_in, blocks_in, blocks_in_item, blocks_in_stmt, blocks_of}
use Rattle.pli_language.specs.Declaring.{declaring_faults, block_faults, block_head_faults, twice_faults}
use Rattle.pli_language.specs.Declaring.{declarations_faults, names_of, main_faults, outer_procedures, static_faults}
use Rattle.pli_language.specs.Declaring.{statics_in}
use Rattle.pli_typing.specs.TypedTree as Y
use Rattle.pli_typing.specs.SingleStatements.{Context, Turns, OneTurn, CountedTurns, do_statement, in_list, in_block}
use Rattle.pli_typing.specs.SingleStatements.{in_unit, labels_in, turns, assign_statement, call_statement}
use Rattle.pli_typing.specs.SingleStatements.{return_statement, goto_statement}
use Rattle.pli_typing.specs.Resolving.{statement, statements, unit_of, block_variables, outermost_context, resolved}
use Rattle.well_formed_trees.specs.Blocks.{block_labels, IsOnce, OnceIfOwn, LabelsOnce, AllLabelsOnce}
use Rattle.well_formed_trees.specs.Blocks.{BlockLabelsOnce}
use Rattle.well_formed_trees.specs.Every.{Every}
use Rattle.well_formed_trees.specs.Written.{EndsLast, AllEndLast}
use Rattle.well_formed_trees.specs.WellFormed.{LabelsKept}
use Rattle.well_formed_trees.proofs.Lists.{first_empty, second_empty, every_first, every_second, every_both}
use Rattle.well_formed_trees.proofs.Lists.{all_empty, every_map}
use Rattle.well_formed_trees.proofs.SimpleStatements.{IsSimple, assign_simple, call_simple, return_simple}
use Rattle.well_formed_trees.proofs.SimpleStatements.{goto_simple}
use Rattle.well_formed_trees.proofs.BlockNumbers.{HasOwn, has_own}
use Rattle.well_formed_trees.proofs.ProgramNumbers.{no_procedure}
use Rattle.well_formed_trees.proofs.OwnLabels.{stmts_labels, declared_once}

-- no name of these blocks is declared twice
abbrev IsFine : Block → Type 0
IsFine b = twice_faults [] b.declarations ≡ []

abbrev AreFine : List Block → Type 0
AreFine bs = Every IsFine bs

abbrev HasOnce : Y.Procedure → Type 0
HasOnce p = BlockLabelsOnce p.block

abbrev HaveOnce : List Y.Procedure → Type 0
HaveOnce ps = Every HasOnce ps

simple_once : (s : Y.Stmt) → IsSimple s → LabelsOnce s
simple_once (Y.If condition unit line) h = absurd h
simple_once (Y.IfElse condition unit otherwise line) h = absurd h
simple_once (Y.Do body line) h = absurd h
simple_once (Y.DoWhile condition body line) h = absurd h
simple_once (Y.DoOnce target start condition body line) h = absurd h
simple_once (Y.DoCount counter start limit step condition body line) h = absurd h
simple_once (Y.Begin block) h = absurd h
simple_once (Y.OnUnit condition block line) h = absurd h
simple_once _ h = tt

do_once : (t : Turns) (body : Y.Stmts) (line : ℕ) → AllLabelsOnce body → LabelsOnce (do_statement t body line)
do_once (OneTurn r s b) body line h = h
do_once (CountedTurns counter s limit step b) body line h = h

own_once : (k : Y.BlockKind) (body : Y.Stmts) → k ≡ Y.BeginBlock → OnceIfOwn k body → IsOnce (block_labels body)
own_once k body e h = subst (λ k. OnceIfOwn k body) e h

unit_once : (c : Context) (on : _) (line : ℕ) (s : Y.Stmt) → HasOwn s → LabelsOnce s
    → LabelsOnce (Y.OnUnit on (unit_of c line s) line)
unit_once c on line (Y.Begin (Y.BlockOf head body)) e h = (own_once head.kind body e h.0, h.1)
unit_once c on line s e h = (tt, (h, tt))

-- a block whose declarations are fine
body_once : (c : Context) (next : ℕ) (is : T.Items) → AllEndLast is → twice_faults [] (declared_in is) ≡ []
    → IsOnce (block_labels (statements c next is).value)
body_once c next is l e = subst IsOnce (sym (stmts_labels c next is l)) (declared_once [] (declared_in is) e)

with_none : (ps : List Y.Procedure) → HaveOnce ps → HaveOnce (ps ++ [])
with_none ps h = every_both HasOnce ps [] h tt

both_none : (ps qs : List Y.Procedure) → HaveOnce ps → HaveOnce qs → HaveOnce (ps ++ (qs ++ []))
both_none ps qs h l = every_both HasOnce ps (qs ++ []) h (with_none qs l)

-- what a statement comes to, and the procedures in it
abbrev StmtOnce : Context → ℕ → T.Stmt → Type 0
StmtOnce c next s = LabelsOnce (statement c next s).value × HaveOnce (statement c next s).procedures

abbrev StmtsOnce : Context → ℕ → T.Items → Type 0
StmtsOnce c next is = AllLabelsOnce (statements c next is).value × HaveOnce (statements c next is).procedures

mutual
  unfolding statement statements blocks_in blocks_in_item blocks_in_stmt

  stmt_once : (c : Context) (next : ℕ) (s : T.Stmt) → EndsLast s → AreFine (blocks_in_stmt c.around next s)
      → StmtOnce c next s
  stmt_once c next (T.Null place) l f = (tt, tt)
  stmt_once c next (T.Assign target source place) l f =
      (simple_once (assign_statement c.scope target source place).value (assign_simple c.scope target source place), tt)
  stmt_once c next (T.If e unit place) l f =
      let a = stmt_once c next unit l f in
      (a.0, with_none (statement c next unit).procedures a.1)
  stmt_once c next (T.IfElse e unit otherwise place) l f =
      let bs = blocks_in_stmt c.around next unit in
      let cs = blocks_in_stmt c.around (next + length bs) otherwise in
      let a = stmt_once c next unit l.0 (every_first IsFine bs cs f) in
      let b = stmt_once c (next + length bs) otherwise l.1 (every_second IsFine bs cs f) in (
        (a.0, b.0),
        both_none (statement c next unit).procedures (statement c (next + length bs) otherwise).procedures
            a.1 b.1,
      )
  stmt_once c next (T.Do body place) l f =
      let a = stmts_once (in_list c (labels_in body)) next body l f in
      (a.0, with_none (statements (in_list c (labels_in body)) next body).procedures a.1)
  stmt_once c next (T.DoWhile e body place) l f =
      let a = stmts_once (in_list c (labels_in body)) next body l f in
      (a.0, with_none (statements (in_list c (labels_in body)) next body).procedures a.1)
  stmt_once c next (T.DoCount counting body place) l f =
      let r = statements (in_list c (labels_in body)) next body in
      let a = stmts_once (in_list c (labels_in body)) next body l f in
      (do_once (turns c.scope counting).value r.value place.line a.0, with_none r.procedures a.1)
  stmt_once c next (T.Begin body place) l f =
      let d = in_block c next (labels_in body) in
      let a = stmts_once d (next + 1) body l f.1 in
      ((body_once d (next + 1) body l f.0, a.0), with_none (statements d (next + 1) body).procedures a.1)
  stmt_once c next (T.OnSystem on place) l f = (tt, tt)
  stmt_once c next (T.OnUnit on unit place) l f =
      let r = statement (in_unit c) next unit in
      let a = stmt_once (in_unit c) next unit l.1 f in
      (unit_once c on place.line r.value (has_own (in_unit c) next unit) a.0, with_none r.procedures a.1)
  stmt_once c next (T.Call name a place) l f =
      (simple_once (call_statement c.scope name a place).value (call_simple c.scope name a place), tt)
  stmt_once c next (T.Return value place) l f =
      (simple_once (return_statement c value place).value (return_simple c value place), tt)
  stmt_once c next (T.Goto label place) l f =
      (simple_once (goto_statement c label place).value (goto_simple c label place), tt)
  stmt_once c next (T.Stop place) l f = (tt, tt)
  stmt_once c next (T.Signal on place) l f = (tt, tt)
  stmt_once c next (T.Revert on place) l f = (tt, tt)
  stmt_once c next (T.Allocate allocations place) l f = (tt, tt)
  stmt_once c next (T.Free freeings place) l f = (tt, tt)
  stmt_once c next (T.Get skip pairs place) l f = (tt, tt)
  stmt_once c next (T.Put skip pairs place) l f = (tt, tt)

  stmts_once : (c : Context) (next : ℕ) (is : T.Items) → AllEndLast is → AreFine (blocks_in c.around next is)
      → StmtsOnce c next is
  stmts_once c next T.NoItem l f = (tt, tt)
  stmts_once c next (T.ItemThen (T.Procedure head body) is) l f =
      let bs = blocks_in_item c.around next (T.Procedure head body) in
      let cs = blocks_in c.around (next + length bs) is in
      let own = every_first IsFine bs cs f in
      let d = in_block c next (labels_in body) in
      let r = statements d (next + 1) body in
      let q = statements c (next + length bs) is in
      let a = stmts_once d (next + 1) body l.0 own.1 in
      let b = stmts_once c (next + length bs) is l.1 (every_second IsFine bs cs f) in
      (b.0, ((body_once d (next + 1) body l.0 own.0, a.0), every_both HasOnce r.procedures q.procedures a.1 b.1))
  stmts_once c next (T.ItemThen (T.Declare items place) is) l f =
      let z : next + 0 ≡ next = omega arith in
      stmts_once c next is l (subst (λ m. AreFine (blocks_in c.around m is)) z f)
  stmts_once c next (T.ItemThen (T.Statement labels s) is) l f =
      let bs = blocks_in_stmt c.around next s in
      let cs = blocks_in c.around (next + length bs) is in
      let a = stmt_once c next s l.0 (every_first IsFine bs cs f) in
      let b = stmts_once c (next + length bs) is l.1 (every_second IsFine bs cs f) in
      ((a.0, b.0), both_none (statement c next s).procedures (statements c (next + length bs) is).procedures a.1 b.1)
  stmts_once c next (T.ItemThen (T.EndLabels labels place) is) l f = (tt, tt)

-- ---- programs

fine_block : (b : Block) → block_faults b ≡ [] → IsFine b
fine_block b e =
    let head = block_head_faults b b.head in
    let twice = twice_faults [] b.declarations in
    second_empty head twice (first_empty (head ++ twice) (declarations_faults (names_of b.head) [] b.declarations) e)

pub blocks_fine : (tree : T.Tree) → declaring_faults tree ≡ [] → Every (λ b. block_faults b ≡ []) (blocks_of tree)
blocks_fine tree e =
    let main = main_faults (outer_procedures tree.procedures) in
    let all = flat_map block_faults (blocks_of tree) in
    let static = static_faults (flat_map (λ b. statics_in b.declarations) (blocks_of tree)) in
    all_empty block_faults (blocks_of tree) (second_empty main all (first_empty (main ++ all) static e))

inner_fine : (tree : T.Tree) → AreFine (blocks_of tree) → AreFine (blocks_in (0 ∷ []) 1 tree.procedures)
unfolding blocks_of
inner_fine tree f = f.1

pub labels_kept : LabelsKept
unfolding resolved
labels_kept tree h e =
    let all = blocks_of tree in
    let c = outermost_context all in
    let f = inner_fine tree (every_map (λ b. block_faults b ≡ []) IsFine fine_block all (blocks_fine tree e)) in
    let a = stmts_once c 1 tree.procedures h.ends f in
    every_both HasOnce (statements c 1 tree.procedures).procedures (block_variables all 0 all).procedures a.1
    (subst HaveOnce (sym (no_procedure all 0 all)) tt)
