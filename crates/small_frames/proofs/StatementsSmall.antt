-- The statements of each block take no more words than the heaviest expression, a statement and the groups around it.
use Rattle.std.proofs.Common.{◌≡◌, ℕ, suc, ◌+◌, ◌*◌, ◌≤◌, Bool, true, false, List, [], ◌∷◌, ◌++◌, length}
use Rattle.std.proofs.Common.{refl, sym, subst, arith, map}
use Rattle.pli_language.specs.declared.condition.Condition.{Condition}
use Rattle.pli_language.specs.Tree as T
use Rattle.pli_language.specs.Declarations as D
use Rattle.pli_language.specs.Declarations.{Block}
use Rattle.pli_typing.specs.TypedTree as Y
use Rattle.pli_typing.specs.Calls.{parameter_indices}
use Rattle.pli_typing.specs.Variables.{level_of_block}
use Rattle.pli_typing.specs.SingleStatements.{Context, Turns, OneTurn, CountedTurns, in_list, in_block, in_unit}
use Rattle.pli_typing.specs.SingleStatements.{labels_in, condition, turns, do_statement}
use Rattle.pli_typing.specs.SingleStatements.{goto_statement, call_statement, return_statement, assign_statement}
use Rattle.pli_typing.specs.SingleStatements.{allocate_statement, free_statement, get_statement, put_statement}
use Rattle.pli_typing.specs.Resolving.{statement, statements, unit_of, procedure_of, behind_stmt, behind_item}
use Rattle.pli_typing.specs.Resolving.{typed_tree, resolved, outermost_context, block_variables}
use Rattle.pli_frames.specs.Blocks.{BlockWords, blocks_in, blocks_among, blocks_of_block, blocks_of}
use Rattle.well_formed_trees.specs.Every.{Every}
use Rattle.well_formed_trees.specs.Spelled.{StmtHas, ItemsHave}
use Rattle.well_formed_trees.proofs.Lists.{every_both, every_map}
use Rattle.well_formed_trees.proofs.ProgramNumbers.{no_procedure}
use Rattle.small_frames.specs.Light.{LightAllocation, LightFreeing}
use Rattle.small_frames.specs.Light.{HasLight}
use Rattle.small_frames.proofs.LevelsShallow.{LevelsFew, levels_few}
use Rattle.small_frames.proofs.SingleWithin.{SingleWithin, TurnsWithin, assign_within, call_light, return_light}
use Rattle.small_frames.proofs.SingleWithin.{goto_within, condition_light, turns_light}
use Rattle.small_frames.proofs.StorageWithin.{allocate_light, free_light, get_light, put_light}
use Rattle.pli_coding.specs.Environments.{none_taken}
use Rattle.temporary_bounds.specs.WordBounds.{stmt_words, stmts_words, bit_words}
use Rattle.temporary_bounds.proofs.StatementBounds.{statement_bound, statements_bound}

-- ---- what is small

-- the words of a block: the heaviest expression's, eight for a statement, and two for each of 64 groups
abbrev pub IsShort : BlockWords → Type 0
IsShort b = (b.words ≤ 1165) × (b.head.level ≤ 16)

abbrev pub AreShort : List BlockWords → Type 0
AreShort bs = Every IsShort bs

-- a statement or a list inside so many groups
abbrev IsSmall : (units : ℕ) → Y.Stmt → Type 0
IsSmall u s = (stmt_words s + 2 * u ≤ 1165) × AreShort (blocks_in s)

abbrev AreSmall : (units : ℕ) → Y.Stmts → Type 0
AreSmall u ss = (stmts_words ss + 2 * u ≤ 1165) × AreShort (blocks_among ss)

abbrev pub SmallProcedure : Y.Procedure → Type 0
SmallProcedure p = AreShort (blocks_of_block p.block) × (length p.parameters ≤ 16)

abbrev pub SmallProcedures : List Y.Procedure → Type 0
SmallProcedures ps = Every SmallProcedure ps

-- ---- statements

single_small : (u : ℕ) → u ≤ 64 → (s : Y.Stmt) → SingleWithin 1029 s → IsSmall u s
single_small u l s h =
    let words = h.0 in
    (omega (arith, l, words), subst AreShort (sym h.1) tt)

if_small : (u : ℕ) → u ≤ 64 → (b : Y.Bit) (s : Y.Stmt) (line : ℕ) → bit_words b ≤ 1029 → IsSmall (suc u) s
    → IsSmall u (Y.If b s line)
if_small u l b s line h k = let words = k.0 in (omega (arith, l, h, words), k.1)

if_else_small : (u : ℕ) → u ≤ 64 → (b : Y.Bit) (s t : Y.Stmt) (line : ℕ) → bit_words b ≤ 1029 → IsSmall (suc u) s
    → IsSmall (suc u) t → IsSmall u (Y.IfElse b s t line)
if_else_small u l b s t line h k m =
    let one = k.0 in
    let other = m.0 in
    (omega (arith, l, h, one, other), every_both IsShort (blocks_in s) (blocks_in t) k.1 m.1)

do_group_small : (u : ℕ) (ss : Y.Stmts) (line : ℕ) → AreSmall (suc u) ss → IsSmall u (Y.Do ss line)
do_group_small u ss line k = let words = k.0 in (omega (arith, words), k.1)

while_small : (u : ℕ) → u ≤ 64 → (b : Y.Bit) (ss : Y.Stmts) (line : ℕ) → bit_words b ≤ 1029 → AreSmall (suc u) ss
    → IsSmall u (Y.DoWhile b ss line)
while_small u l b ss line h k = let words = k.0 in (omega (arith, l, h, words), k.1)

do_small : (u : ℕ) → u ≤ 64 → (t : Turns) (ss : Y.Stmts) (line : ℕ) → TurnsWithin 1029 t → AreSmall (suc u) ss
    → IsSmall u (do_statement t ss line)
do_small u l (OneTurn r s b) ss line h k =
    let start = h.0 in
    let met = h.1 in
    let words = k.0 in
    (omega (arith, l, start, met, words), k.1)
do_small u l (CountedTurns counter start limit step b) ss line h k =
    let begun = h.0 in
    let counts = h.1.0 in
    let met = h.1.1 in
    let words = k.0 in
    (omega (arith, l, begun, counts, met, words), k.1)

begin_small : (u : ℕ) → u ≤ 64 → (head : Y.BlockHead) → head.level ≤ 15 → (ss : Y.Stmts) → AreSmall u ss
    → IsSmall u (Y.Begin (Y.BlockOf head ss))
begin_small u l head v ss k =
    let words = k.0 in
    let most = statements_bound none_taken ss in
    (omega (arith, l), ((omega (arith, words, most), omega (arith, v)), k.1))

-- a statement by itself is a block's
unit_short : (c : Context) → LevelsFew c.scope.blocks → (line u : ℕ) (on : Condition) (s : Y.Stmt) → IsSmall u s
    → AreShort (blocks_in (Y.OnUnit on (unit_of c line s) line))
unit_short c v line u on (Y.Begin (Y.BlockOf head body)) h = (h.1.0, h.1.1)
unit_short c v line u on s h =
    let words = h.0 in
    let most = statement_bound none_taken s in
    let level = v c.scope.block in
    ((omega (arith, words, most), omega (arith, level)), every_both IsShort (blocks_in s) [] h.1 tt)

unit_small : (c : Context) → LevelsFew c.scope.blocks → (line u : ℕ) → u ≤ 64 → (on : Condition) (s : Y.Stmt)
    → IsSmall (suc u) s → IsSmall u (Y.OnUnit on (unit_of c line s) line)
unit_small c v line u l on s h = (omega (arith, l), unit_short c v line (suc u) on s h)

-- ---- procedures

mapped : {X Z : Type 0} (f : X → Z) (xs : List X) → length (map f xs) ≡ length xs
mapped f [] = refl
mapped f (x ∷ xs) = let more = mapped f xs in omega (arith, more)

parameters_few : (blocks : List Block) (b : ℕ) (names : List T.Name) → length names ≤ 16
    → length (parameter_indices blocks b names) ≤ 16
parameters_few blocks b names h = subst (λ n. n ≤ 16) (sym (mapped _ names)) h

procedure_small : (c : Context) → LevelsFew c.scope.blocks → (number : ℕ) (head : T.ProcedureHead) (ss : Y.Stmts)
    (u : ℕ) → AreSmall u ss → length head.parameters ≤ 16 → SmallProcedure (procedure_of c number head ss)
procedure_small c v number head ss u k h =
    let words = k.0 in
    let most = statements_bound none_taken ss in
    let level = v number in
    (((omega (arith, words, most), omega (arith, level)), k.1), parameters_few c.scope.blocks number head.parameters h)

both_small : (ps qs : List Y.Procedure) → SmallProcedures ps → SmallProcedures qs → SmallProcedures (ps ++ qs)
both_small ps qs h k = every_both SmallProcedure ps qs h k

-- ---- statements with all that they hold

abbrev IsSmallHere : (units : ℕ) → (s : Y.Stmt) → List Y.Procedure → Type 0
IsSmallHere u s ps = IsSmall u s × SmallProcedures ps

abbrev AreSmallHere : (units : ℕ) → Y.Stmts → List Y.Procedure → Type 0
AreSmallHere u ss ps = AreSmall u ss × SmallProcedures ps

mutual
  unfolding statement statements

  stmt_small : (c : Context) → LevelsFew c.scope.blocks → (next b u : ℕ) (r : Bool) → u ≤ 64 → (s : T.Stmt)
      → StmtHas HasLight b u r s
      → IsSmallHere u (statement c next s).value (statement c next s).procedures
  stmt_small c v next b u r l (T.Null place) h = ((omega (arith, l), tt), tt)
  stmt_small c v next b u r l (T.Assign target source place) h = (
    single_small u l (assign_statement c.scope target source place).value
        (assign_within 1029 c.scope target source place h.0 h.1),
    tt,
  )
  stmt_small c v next b u r l (T.If e unit place) h =
      let s = statement c next unit in
      let k = stmt_small c v next b (suc u) r h.0.1 unit h.1 in (
        if_small u l (condition c.scope e).value s.value place.line (condition_light 1029 c.scope e h.0.0) k.0,
        both_small s.procedures [] k.1 tt,
      )
  stmt_small c v next b u r l (T.IfElse e unit otherwise place) h =
      let s = statement c next unit in
      let t = statement c (behind_stmt c next unit) otherwise in
      let k = stmt_small c v next b (suc u) r h.0.1 unit h.1.0 in
      let m = stmt_small c v (behind_stmt c next unit) b (suc u) r h.0.1 otherwise h.1.1 in (
        if_else_small u l (condition c.scope e).value s.value t.value place.line
            (condition_light 1029 c.scope e h.0.0) k.0 m.0,
        both_small s.procedures (t.procedures ++ []) k.1 (both_small t.procedures [] m.1 tt),
      )
  stmt_small c v next b u r l (T.Do body place) h =
      let ss = statements (in_list c (labels_in body)) next body in
      let k = list_small (in_list c (labels_in body)) v next b (suc u) r h.0 body h.1 in
      (do_group_small u ss.value place.line k.0, both_small ss.procedures [] k.1 tt)
  stmt_small c v next b u r l (T.DoWhile e body place) h =
      let ss = statements (in_list c (labels_in body)) next body in
      let k = list_small (in_list c (labels_in body)) v next b (suc u) r h.0.1 body h.1 in (
        while_small u l (condition c.scope e).value ss.value place.line (condition_light 1029 c.scope e h.0.0) k.0,
        both_small ss.procedures [] k.1 tt,
      )
  stmt_small c v next b u r l (T.DoCount counting body place) h =
      let ss = statements (in_list c (labels_in body)) next body in
      let k = list_small (in_list c (labels_in body)) v next b (suc u) r h.0.1 body h.1 in
      let t = h.0.0 in (
        do_small u l (turns c.scope counting).value ss.value place.line
            (turns_light 1029 c.scope counting t.0.0 t.0.1 t.1.0.0 t.1.0.1 t.1.1) k.0,
        both_small ss.procedures [] k.1 tt,
      )
  stmt_small c v next b u r l (T.Begin body place) h =
      let d = in_block c next (labels_in body) in
      let ss = statements d (next + 1) body in
      let k = list_small d v (next + 1) (suc b) u r l body h.1 in
      let head : Y.BlockHead = record {
        kind = Y.BeginBlock;
        number = next;
        level = level_of_block c.scope.blocks next;
        line = place.line;
      } in
      (begin_small u l head (v next) ss.value k.0, both_small ss.procedures [] k.1 tt)
  stmt_small c v next b u r l (T.OnSystem on place) h = ((omega (arith, l), tt), tt)
  stmt_small c v next b u r l (T.OnUnit on unit place) h =
      let s = statement (in_unit c) next unit in
      let k = stmt_small (in_unit c) v next b (suc u) false h.0 unit h.1 in
      (unit_small c v place.line u l on s.value k.0, both_small s.procedures [] k.1 tt)
  stmt_small c v next b u r l (T.Call name a place) h =
      (single_small u l (call_statement c.scope name a place).value (call_light 1029 c.scope name a place h), tt)
  stmt_small c v next b u r l (T.Return value place) h =
      (single_small u l (return_statement c value place).value (return_light 1029 c value place h), tt)
  stmt_small c v next b u r l (T.Goto label place) h =
      (single_small u l (goto_statement c label place).value (goto_within 1029 c label place), tt)
  stmt_small c v next b u r l (T.Stop place) h = ((omega (arith, l), tt), tt)
  stmt_small c v next b u r l (T.Signal on place) h = ((omega (arith, l), tt), tt)
  stmt_small c v next b u r l (T.Revert on place) h = ((omega (arith, l), tt), tt)
  stmt_small c v next b u r l (T.Allocate as' place) h = (
    single_small u l (allocate_statement c.scope as' place).value
        (allocate_light 1029 (omega arith) c.scope as' place
        (every_map LightAllocation _ (λ a k. k.1) as' h)),
    tt,
  )
  stmt_small c v next b u r l (T.Free fs place) h = (
    single_small u l (free_statement c.scope fs place).value
        (free_light 1029 c.scope fs place (every_map LightFreeing _ (λ f k. k.0) fs h)),
    tt,
  )
  stmt_small c v next b u r l (T.Get skip pairs place) h =
      (single_small u l (get_statement c.scope skip pairs place).value (get_light 1029 c.scope skip pairs place h), tt)
  stmt_small c v next b u r l (T.Put skip pairs place) h =
      (single_small u l (put_statement c.scope skip pairs place).value (put_light 1029 c.scope skip pairs place h), tt)

  pub list_small : (c : Context) → LevelsFew c.scope.blocks → (next b u : ℕ) (r : Bool) → u ≤ 64 → (is : T.Items)
      → ItemsHave HasLight b u r is
      → AreSmallHere u (statements c next is).value (statements c next is).procedures
  list_small c v next b u r l T.NoItem h = ((omega (arith, l), tt), tt)
  list_small c v next b u r l (T.ItemThen (T.Procedure head body) is) h =
      let d = in_block c next (labels_in body) in
      let ss = statements d (next + 1) body in
      let k = list_small d v (next + 1) (suc b) u true l body h.0.1 in
      let n = behind_item c next (T.Procedure head body) in
      let m = list_small c v n b u r l is h.1 in
      let others = (statements c n is).procedures in (
        m.0,
        (procedure_small c v next head ss.value u k.0 h.0.0.0.0, both_small ss.procedures others k.1 m.1),
      )
  list_small c v next b u r l (T.ItemThen (T.Declare items place) is) h = list_small c v next b u r l is h.1
  list_small c v next b u r l (T.ItemThen (T.Statement labels s) is) h =
      let n = behind_stmt c next s in
      let t = statement c next s in
      let ss = statements c n is in
      let k = stmt_small c v next b u r l s h.0 in
      let m = list_small c v n b u r l is h.1 in
      let one = k.0.0 in
      let more = m.0.0 in (
        (omega (arith, one, more), every_both IsShort (blocks_in t.value) (blocks_among ss.value) k.0.1 m.0.1),
        both_small t.procedures (ss.procedures ++ []) k.1 (both_small ss.procedures [] m.1 tt),
      )
  list_small c v next b u r l (T.ItemThen (T.EndLabels labels place) is) h = ((omega (arith, l), tt), tt)

-- ---- programs

abbrev pub AllShort : List Y.Procedure → Type 0
AllShort ps = AreShort (blocks_of ps)

procedures_short : (ps : List Y.Procedure) → SmallProcedures ps → AllShort ps
procedures_short [] h = tt
procedures_short (p ∷ ps) h =
    every_both IsShort (blocks_of_block p.block) (blocks_of ps) h.0.0 (procedures_short ps h.1)

pub program_small : (tree : T.Tree) → ItemsHave HasLight 0 0 false tree.procedures
    → SmallProcedures (typed_tree tree).procedures
unfolding resolved
program_small tree h =
    let all = D.blocks_of tree in
    let r = statements (outermost_context all) 1 tree.procedures in
    let m = list_small (outermost_context all) (levels_few tree h) 1 0 0 false (omega arith) tree.procedures h in
    both_small r.procedures (block_variables all 0 all).procedures m.1
    (subst SmallProcedures (sym (no_procedure all 0 all)) tt)

pub program_short : (tree : T.Tree) → ItemsHave HasLight 0 0 false tree.procedures
    → AllShort (typed_tree tree).procedures
program_short tree h = procedures_short (typed_tree tree).procedures (program_small tree h)
