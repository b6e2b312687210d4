-- Begin blocks save no registers: their procedure saves what their temporaries take.
use Rattle.std.proofs.Common.{◌≡◌, ℕ, ◌≤◌, List, [], ◌++◌, true, false, refl, sym, ◌∙◌, arith}
use Rattle.std.specs.Prelude.{◌&&◌, ◌||◌, Bool}
use Rattle.std.proofs.lemmas.Bool.{and_parts}
use Rattle.pli_typing.specs.TypedTree as Y
use Rattle.pli_meaning.specs.Control.{Label}
use Rattle.pli_meaning.specs.Executing.{labels_in}
use Rattle.pli_coding.specs.Environments.{Environment}
use Rattle.pli_coding.specs.Registers.{held_registers}
use Rattle.pli_coding.specs.Statements.{block_held, stmt_held, stmts_held}
use Rattle.number_runs.specs.Counting.{is_condition, is_count}
use Rattle.number_runs.specs.Numbers.{Scope, inside, is_reference, is_test, without_located}
use Rattle.number_runs.specs.Statements.{are_statements, begin_needs, begins_need, is_line, is_narrowed, is_statement}
use Rattle.number_runs.specs.Statements.{is_stored}
use Rattle.number_runs.proofs.Takes.{statements_taken}

mutual
  pub begin_saved :
      (program : Y.Program) (s : Scope) (valued : Bool) (labels : List Label) (x : Y.Stmt) →
      is_statement s valued labels x ≡ true → begin_needs x ≤ held_registers → begin_needs x ≤ stmt_held program x
  begin_saved program s valued labels (Y.If condition unit line) h few =
      let inner = is_statement s valued labels unit in
      let a = and_parts (is_line line) (is_test s condition && inner) h in
      begin_saved program s valued labels unit (and_parts (is_test s condition) inner a.1).1 few
  begin_saved program s valued labels (Y.IfElse condition unit otherwise line) h few =
      let first = is_statement s valued labels unit in
      let second = is_statement s valued labels otherwise in
      let a = and_parts (is_line line) (is_test s condition && (first && second)) h in
      let b = and_parts (is_test s condition) (first && second) a.1 in
      let c = and_parts first second b.1 in
      let m = begin_saved program s valued labels unit c.0 (omega (arith, few)) in
      let n = begin_saved program s valued labels otherwise c.1 (omega (arith, few)) in
      omega (arith, m, n)
  begin_saved program s valued labels (Y.Do body line) h few =
      let a = and_parts (is_line line) (are_statements s valued (labels_in body ++ labels) body) h in
      begins_saved program s valued (labels_in body ++ labels) body a.1 few
  begin_saved program s valued labels (Y.DoWhile condition body line) h few =
      let inner = are_statements s valued (labels_in body ++ labels) body in
      let a = and_parts (is_line line) (is_test s condition && inner) h in
      begins_saved program s valued (labels_in body ++ labels) body (and_parts (is_test s condition) inner a.1).1 few
  begin_saved program s valued labels (Y.DoCount counter start limit step condition body line) h few =
      let u = without_located s in
      let inner = are_statements u valued (labels_in body ++ labels) body in
      let counts' = is_count u counter start limit step condition in
      let a = and_parts (is_line line) (s.counts && (counts' && inner)) h in
      let b = and_parts s.counts (counts' && inner) a.1 in
      begins_saved program u valued (labels_in body ++ labels) body (and_parts counts' inner b.1).1 few
  begin_saved program s valued labels (Y.Begin (Y.BlockOf head body)) h few =
      let inner = are_statements (inside s head body) valued (labels_in body ++ []) body in
      let a = and_parts (is_line head.line) (s.is_begin head body && inner) h in
      let b = and_parts (s.is_begin head body) inner a.1 in
      let m = (statements_taken 0 (inside s head body) valued (labels_in body ++ []) body b.1
      (omega (arith, few))).registers in
      let n = begins_saved program (inside s head body) valued (labels_in body ++ []) body b.1 (omega (arith, few)) in
      omega (arith, m, n)
  begin_saved program s valued labels (Y.Null line) h few = omega arith
  begin_saved program s valued labels (Y.Assign target source line) h few = omega arith
  begin_saved program s valued labels (Y.CallProcedure call line) h few = omega arith
  begin_saved program s valued labels (Y.Return line) h few = omega arith
  begin_saved program s valued labels (Y.ReturnValue type source line) h few = omega arith
  begin_saved program s valued labels (Y.Goto level label line) h few = omega arith
  begin_saved program s valued labels (Y.Stop line) h few = omega arith
  begin_saved program s valued labels (Y.AssignElements target source line) h few = omega arith
  begin_saved program s valued labels (Y.AssignAggregate target source line) h few = omega arith
  begin_saved program s valued labels (Y.AssignArea target source line) h few = omega arith
  begin_saved program s valued labels (Y.EmptyArea target line) h few = omega arith
  begin_saved program s valued labels (Y.DoOnce variable start condition body line) h few =
      let one = is_reference s variable && is_stored s start in
      let other = is_narrowed s variable start in
      let inner = are_statements s valued (labels_in body ++ labels) body in
      let a = and_parts (is_line line) ((one || other) && (is_condition s condition && inner)) h in
      let b = and_parts (one || other) (is_condition s condition && inner) a.1 in
      let c = and_parts (is_condition s condition) inner b.1 in
      begins_saved program s valued (labels_in body ++ labels) body c.1 few
  begin_saved program s valued labels (Y.OnSystem condition line) h few = omega arith
  begin_saved program s valued labels (Y.OnUnit condition unit line) h few = omega arith
  begin_saved program s valued labels (Y.Signal condition line) h few = omega arith
  begin_saved program s valued labels (Y.Revert condition line) h few = omega arith
  begin_saved program s valued labels (Y.Allocate all line) h few = omega arith
  begin_saved program s valued labels (Y.Free all line) h few = omega arith
  begin_saved program s valued labels (Y.Get skip pairs line) h few = omega arith
  begin_saved program s valued labels (Y.Put skip pairs line) h few = omega arith

  pub begins_saved :
      (program : Y.Program) (s : Scope) (valued : Bool) (labels : List Label) (xs : Y.Stmts) →
      are_statements s valued labels xs ≡ true → begins_need xs ≤ held_registers →
      begins_need xs ≤ stmts_held program xs
  begins_saved program s valued labels (Y.EndOfList own) h few = omega arith
  begins_saved program s valued labels (Y.StmtThen own first rest) h few =
      let a = and_parts (is_statement s valued labels first) (are_statements s valued labels rest) h in
      let m = begin_saved program s valued labels first a.0 (omega (arith, few)) in
      let n = begins_saved program s valued labels rest a.1 (omega (arith, few)) in
      omega (arith, m, n)

pub begins_held :
    (s : Scope) (valued : Bool) (e : Environment) (block : ℕ) (body : Y.Stmts) →
    are_statements s valued (labels_in body ++ []) body ≡ true → begins_need body ≤ held_registers →
    begins_need body ≤ block_held e block body
begins_held s valued e block body h few =
    let low = begins_saved e.program s valued (labels_in body ++ []) body h few in
    omega (arith, low, few)

-- ---- where none may stand

mutual
  pub begin_unneeded :
      (s : Scope) (valued : Bool) (labels : List Label) (x : Y.Stmt) →
      ((head : Y.BlockHead) (body : Y.Stmts) → s.is_begin head body ≡ false) → is_statement s valued labels x ≡ true →
      begin_needs x ≡ 0
  begin_unneeded s valued labels (Y.If condition unit line) none h =
      let inner = is_statement s valued labels unit in
      let a = and_parts (is_line line) (is_test s condition && inner) h in
      begin_unneeded s valued labels unit none (and_parts (is_test s condition) inner a.1).1
  begin_unneeded s valued labels (Y.IfElse condition unit otherwise line) none h =
      let first = is_statement s valued labels unit in
      let second = is_statement s valued labels otherwise in
      let a = and_parts (is_line line) (is_test s condition && (first && second)) h in
      let b = and_parts (is_test s condition) (first && second) a.1 in
      let c = and_parts first second b.1 in
      let m = begin_unneeded s valued labels unit none c.0 in
      let n = begin_unneeded s valued labels otherwise none c.1 in
      omega (arith, m, n)
  begin_unneeded s valued labels (Y.Do body line) none h =
      let a = and_parts (is_line line) (are_statements s valued (labels_in body ++ labels) body) h in
      begins_unneeded s valued (labels_in body ++ labels) body none a.1
  begin_unneeded s valued labels (Y.DoWhile condition body line) none h =
      let inner = are_statements s valued (labels_in body ++ labels) body in
      let a = and_parts (is_line line) (is_test s condition && inner) h in
      begins_unneeded s valued (labels_in body ++ labels) body none (and_parts (is_test s condition) inner a.1).1
  begin_unneeded s valued labels (Y.DoCount counter start limit step condition body line) none h =
      let u = without_located s in
      let inner = are_statements u valued (labels_in body ++ labels) body in
      let counts' = is_count u counter start limit step condition in
      let a = and_parts (is_line line) (s.counts && (counts' && inner)) h in
      let b = and_parts s.counts (counts' && inner) a.1 in
      begins_unneeded u valued (labels_in body ++ labels) body none (and_parts counts' inner b.1).1
  begin_unneeded s valued labels (Y.Begin (Y.BlockOf head body)) none h =
      let inner = are_statements (inside s head body) valued (labels_in body ++ []) body in
      let a = and_parts (is_line head.line) (s.is_begin head body && inner) h in
      let b = and_parts (s.is_begin head body) inner a.1 in
      absurd (cc (sym (none head body) ∙ b.0))
  begin_unneeded s valued labels (Y.Null line) none h = refl
  begin_unneeded s valued labels (Y.Assign target source line) none h = refl
  begin_unneeded s valued labels (Y.CallProcedure call line) none h = refl
  begin_unneeded s valued labels (Y.Return line) none h = refl
  begin_unneeded s valued labels (Y.ReturnValue type source line) none h = refl
  begin_unneeded s valued labels (Y.Goto level label line) none h = refl
  begin_unneeded s valued labels (Y.Stop line) none h = refl
  begin_unneeded s valued labels (Y.AssignElements target source line) none h = refl
  begin_unneeded s valued labels (Y.AssignAggregate target source line) none h = refl
  begin_unneeded s valued labels (Y.AssignArea target source line) none h = refl
  begin_unneeded s valued labels (Y.EmptyArea target line) none h = refl
  begin_unneeded s valued labels (Y.DoOnce variable start condition body line) none h =
      let one = is_reference s variable && is_stored s start in
      let other = is_narrowed s variable start in
      let inner = are_statements s valued (labels_in body ++ labels) body in
      let a = and_parts (is_line line) ((one || other) && (is_condition s condition && inner)) h in
      let b = and_parts (one || other) (is_condition s condition && inner) a.1 in
      let c = and_parts (is_condition s condition) inner b.1 in
      begins_unneeded s valued (labels_in body ++ labels) body none c.1
  begin_unneeded s valued labels (Y.OnSystem condition line) none h = refl
  begin_unneeded s valued labels (Y.OnUnit condition unit line) none h = refl
  begin_unneeded s valued labels (Y.Signal condition line) none h = refl
  begin_unneeded s valued labels (Y.Revert condition line) none h = refl
  begin_unneeded s valued labels (Y.Allocate all line) none h = refl
  begin_unneeded s valued labels (Y.Free all line) none h = refl
  begin_unneeded s valued labels (Y.Get skip pairs line) none h = refl
  begin_unneeded s valued labels (Y.Put skip pairs line) none h = refl

  pub begins_unneeded :
      (s : Scope) (valued : Bool) (labels : List Label) (xs : Y.Stmts) →
      ((head : Y.BlockHead) (body : Y.Stmts) → s.is_begin head body ≡ false) →
      are_statements s valued labels xs ≡ true → begins_need xs ≡ 0
  begins_unneeded s valued labels (Y.EndOfList own) none h = refl
  begins_unneeded s valued labels (Y.StmtThen own first rest) none h =
      let a = and_parts (is_statement s valued labels first) (are_statements s valued labels rest) h in
      let m = begin_unneeded s valued labels first none a.0 in
      let n = begins_unneeded s valued labels rest none a.1 in
      omega (arith, m, n)
