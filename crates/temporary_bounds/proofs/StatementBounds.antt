-- Statements take no more words than their bounds, behind those that are taken already; so do blocks.
use Rattle.std.proofs.Common.{◌≡◌, ℕ, suc, ◌+◌, ◌≤◌, max, Bool, true, false, cond, List, [], ◌∷◌, Option, Some, None}
use Rattle.std.proofs.Common.{arith}
use Rattle.pli_typing.specs.TypedTree as Y
use Rattle.pli_meaning.specs.DeclaredShapes.{variables_of_block}
use Rattle.pli_coding.specs.Frames.{has_constant_size, is_automatic}
use Rattle.pli_coding.specs.Environments.{Taken, none_taken, with_words, with_number}
use Rattle.pli_coding.specs.Locating.{locator_words, is_found_first, behind_locator}
use Rattle.pli_coding.specs.Storing.{behind_value, behind_record, record_words, assigned_takes, aggregate_takes}
use Rattle.pli_coding.specs.Storing.{elements_takes}
use Rattle.pli_coding.specs.Extents.{extent_words, evaluations_take, extents_take}
use Rattle.pli_coding.specs.Allocating.{behind_amounts, target_takes, allocation_takes, allocations_take, freeing_takes}
use Rattle.pli_coding.specs.Allocating.{freeings_take}
use Rattle.pli_coding.specs.Streams.{free_in, elements_of, value_takes, elements_take, put_item_takes, put_items_take}
use Rattle.pli_coding.specs.Streams.{put_takes, get_item_takes, get_items_take, get_takes}
use Rattle.pli_coding.specs.Entries.{variable_takes, variables_take}
use Rattle.pli_coding.specs.Statements.{before_turns, in_turns, number_if_takes, bit_if_takes, counter_takes}
use Rattle.pli_coding.specs.Statements.{begun_takes}
use Rattle.pli_coding.specs.Statements.{turn_takes, stmt_takes, stmts_take, block_takes}
use Rattle.temporary_bounds.specs.WordBounds as W
use Rattle.temporary_bounds.proofs.Takes.{number_most}
use Rattle.temporary_bounds.proofs.TakesBounds.{number_bound, text_bound, bit_bound, pointer_bound, reference_bound}
use Rattle.temporary_bounds.proofs.TakesBounds.{call_bound}
use Rattle.temporary_bounds.proofs.TakesBounds.{stored_bound, locator_words_are}

-- ---- assignments

value_behind : (t : Taken) (x : Y.Stored) → (behind_value x t).words ≤ t.words + 4
value_behind t (Y.StoredNumber precision x) = let m = number_most t in omega (arith, m)
value_behind t (Y.StoredText x) = omega arith
value_behind t (Y.StoredBit x) = let m = number_most t in omega (arith, m)
value_behind t (Y.StoredPointer x) = omega arith
value_behind t (Y.StoredOffset x) = let m = number_most t in omega (arith, m)

pub assigned_bound : (t : Taken) (r : Y.Reference) (x : Y.Stored)
    → (assigned_takes t r x).words ≤ t.words + W.assigned_words r x
assigned_bound t r x =
    let v = value_behind t x in
    let a = stored_bound t x in
    let b = reference_bound (behind_value x t) r in
    omega (arith, v, a, b)

pub aggregate_bound : (t : Taken) (r : Y.Reference) → (aggregate_takes t r).words ≤ t.words + W.aggregate_words r
aggregate_bound t r = let a = reference_bound (with_words record_words t) r in omega (arith, a)

pub elements_bound : (t : Taken) (r : Y.Reference) (x : Y.Stored)
    → (elements_takes t r x).words ≤ t.words + W.elements_words r x
elements_bound t r x =
    let v = value_behind t x in
    let a = stored_bound t x in
    let b = aggregate_bound (behind_value x t) r in
    omega (arith, v, a, b)

-- ---- ALLOCATE and FREE

target_bound : (t : Taken) (x : Y.LocatorTarget) → (target_takes t x).words ≤ t.words + W.target_words x
target_bound t (Y.SetPointer r) = reference_bound t r
target_bound t (Y.SetOffset r area) =
    let m = number_most t in let a = reference_bound (with_number t) r in omega (arith, m, a)

allocation_bound : (t : Taken) (x : Y.Allocation) → (allocation_takes t x).words ≤ t.words + W.allocation_words x
allocation_bound t (Y.AllocateBased v area target) =
    let a = target_bound (with_words 4 (behind_amounts t)) target in omega (arith, a)
allocation_bound t (Y.AllocateControlled v) = omega arith

allocations_bound : (t : Taken) (xs : List Y.Allocation)
    → (allocations_take t xs).words ≤ t.words + W.allocations_words xs
allocations_bound t [] = omega arith
allocations_bound t (x ∷ xs) = let a = allocation_bound t x in let b = allocations_bound t xs in omega (arith, a, b)

freeing_bound : (t : Taken) (x : Y.Freeing) → (freeing_takes t x).words ≤ t.words + W.freeing_words x
freeing_bound t (Y.FreeBased v locator area) = pointer_bound t locator
freeing_bound t (Y.FreeControlled v) = omega arith

freeings_bound : (t : Taken) (xs : List Y.Freeing) → (freeings_take t xs).words ≤ t.words + W.freeings_words xs
freeings_bound t [] = omega arith
freeings_bound t (x ∷ xs) = let a = freeing_bound t x in let b = freeings_bound t xs in omega (arith, a, b)

-- ---- extents

evaluations_bound : (t : Taken) (xs : List Y.Evaluation)
    → (evaluations_take t xs).words ≤ t.words + W.evaluations_words xs
evaluations_bound t [] = omega arith
evaluations_bound t (x ∷ xs) =
    let a = number_bound t x.value in let b = evaluations_bound t xs in omega (arith, a, b)

pub extents_bound : (t : Taken) (d : Y.DeclaredVariable) → (extents_take t d).words ≤ t.words + W.extents_words d
extents_bound t d = let a = evaluations_bound (with_words extent_words t) d.evaluations in omega (arith, a)

variable_by : (p q : Bool) (d : Y.DeclaredVariable)
    → (cond p (cond q none_taken (extents_take none_taken d)) none_taken).words ≤ cond p
    (cond q 0 (W.extents_words d)) 0
variable_by true true d = omega arith
variable_by true false d = let a = extents_bound none_taken d in omega (arith, a)
variable_by false q d = omega arith

pub variables_bound : (ds : List Y.DeclaredVariable) → (variables_take ds).words ≤ W.variables_words ds
variables_bound [] = omega arith
variables_bound (d ∷ ds) =
    let a = variable_by (is_automatic d.class) (has_constant_size d) d in
    let b = variables_bound ds in
    omega (arith, a, b)

-- ---- GET and PUT

value_bound : (t : Taken) (x : Y.Value) → (value_takes t x).words ≤ t.words + W.value_words x
value_bound t (Y.NumberValue precision x) = let m = number_most t in let a = number_bound t x in omega (arith, m, a)
value_bound t (Y.TextValue x) = text_bound t x
value_bound t (Y.BitValue x) = let m = number_most t in let a = bit_bound t x in omega (arith, m, a)
value_bound t (Y.PointerValue x) = omega arith
value_bound t (Y.OffsetValue area x) = omega arith
value_bound t Y.NullValue = omega arith

behind_bound : (t : Taken) (r : Y.Reference) → (behind_record r t).words ≤ t.words + W.words_behind_record r
behind_bound t (Y.Referring v locator part subscripts) =
    let a = locator_words_are v (with_words record_words t) in omega (arith, a)

streamed_bound : (t : Taken) (r : Y.Reference) → (elements_take t r).words ≤ t.words + W.streamed_words r
streamed_bound t r =
    let a = aggregate_bound t r in
    let b = behind_bound t r in
    let m = number_most (free_in (elements_of t r)) in
    let n = number_most (with_number (free_in (elements_of t r))) in
    omega (arith, a, b, m, n)

put_item_bound : (t : Taken) (x : Y.PutItem) → (put_item_takes t x).words ≤ t.words + W.put_item_words x
put_item_bound t (Y.PutValue v) = value_bound t v
put_item_bound t (Y.PutAggregate r) = streamed_bound t r

put_items_bound : (t : Taken) (xs : List Y.PutItem) → (put_items_take t xs).words ≤ t.words + W.put_items_words xs
put_items_bound t [] = omega arith
put_items_bound t (x ∷ xs) = let a = put_item_bound t x in let b = put_items_bound t xs in omega (arith, a, b)

put_bound : (t : Taken) (xs : List Y.PutPair) → (put_takes t xs).words ≤ t.words + W.put_words xs
put_bound t [] = omega arith
put_bound t (x ∷ xs) = let a = put_items_bound t x.items in let b = put_bound t xs in omega (arith, a, b)

get_item_bound : (t : Taken) (x : Y.GetItem) → (get_item_takes t x).words ≤ t.words + W.get_item_words x
get_item_bound t (Y.GetScalar r) =
    let m = number_most t in let a = reference_bound (with_number t) r in omega (arith, m, a)
get_item_bound t (Y.GetAggregate r) = streamed_bound t r

get_items_bound : (t : Taken) (xs : List Y.GetItem) → (get_items_take t xs).words ≤ t.words + W.get_items_words xs
get_items_bound t [] = omega arith
get_items_bound t (x ∷ xs) = let a = get_item_bound t x in let b = get_items_bound t xs in omega (arith, a, b)

get_bound : (t : Taken) (xs : List Y.GetPair) → (get_takes t xs).words ≤ t.words + W.get_words xs
get_bound t [] = omega arith
get_bound t (x ∷ xs) = let a = get_items_bound t x.items in let b = get_bound t xs in omega (arith, a, b)

-- ---- statements

number_if_bound : (t : Taken) (x : Option Y.Number) → (number_if_takes t x).words ≤ t.words + W.number_if x
number_if_bound t None = omega arith
number_if_bound t (Some x) = number_bound t x

bit_if_bound : (t : Taken) (x : Option Y.Bit) → (bit_if_takes t x).words ≤ t.words + W.bit_if x
bit_if_bound t None = omega arith
bit_if_bound t (Some x) = bit_bound t x

counter_bound : (t : Taken) (x : Y.Counter) → (counter_takes t x).words ≤ t.words + W.counter_words x
counter_bound t (Y.NumberCounter precision r) =
    let m = number_most t in let a = reference_bound (with_number t) r in omega (arith, m, a)
counter_bound t (Y.TextCounter r) =
    let m = number_most t in let a = reference_bound (with_number t) r in omega (arith, m, a)

begun_bound : (t : Taken) (start : Y.Value) (limit : Option Y.Number) (step : Y.Number)
    → (begun_takes t start limit step).words
    ≤ t.words + max (W.value_words start) (max (W.number_if limit) (W.number_words step))
begun_bound t start limit step =
    let a = value_bound t start in
    let b = number_if_bound t limit in
    let c = number_bound t step in
    omega (arith, a, b, c)

turn_bound : (t : Taken) (counter : Y.Counter) (condition : Option Y.Bit) (body : Taken) (words : ℕ)
    → body.words ≤ t.words + words
    → (turn_takes t counter condition body).words
    ≤ t.words + max (W.counter_words counter) (max (W.bit_if condition) words)
turn_bound t counter condition body words few =
    let a = counter_bound t counter in let b = bit_if_bound t condition in omega (arith, few, a, b)

mutual
  pub statement_bound : (t : Taken) (x : Y.Stmt) → (stmt_takes t x).words ≤ t.words + W.stmt_words x
  statement_bound t (Y.Assign target source line) = assigned_bound t target source
  statement_bound t (Y.AssignElements target source line) = elements_bound t target source
  statement_bound t (Y.AssignAggregate target source line) =
      let a = aggregate_bound t target in let b = aggregate_bound t source in omega (arith, a, b)
  statement_bound t (Y.If condition unit line) =
      let a = bit_bound t condition in let b = statement_bound t unit in omega (arith, a, b)
  statement_bound t (Y.IfElse condition unit otherwise line) =
      let a = bit_bound t condition in
      let b = statement_bound t unit in
      let c = statement_bound t otherwise in
      omega (arith, a, b, c)
  statement_bound t (Y.Do body line) = statements_bound t body
  statement_bound t (Y.DoWhile condition body line) =
      let a = bit_bound t condition in let b = statements_bound t body in omega (arith, a, b)
  statement_bound t (Y.DoOnce variable start condition body line) =
      let a = assigned_bound t variable start in
      let b = bit_if_bound t condition in
      let c = statements_bound t body in
      omega (arith, a, b, c)
  statement_bound t (Y.DoCount counter start limit step condition body line) =
      let a = begun_bound (before_turns t) start limit step in
      let b = turn_bound (in_turns t) counter condition (stmts_take (in_turns t) body) (W.stmts_words body)
      (statements_bound (in_turns t) body) in
      omega (arith, a, b)
  statement_bound t (Y.CallProcedure call line) = call_bound t call
  statement_bound t (Y.ReturnValue type source line) = stored_bound t source
  statement_bound t (Y.Allocate all line) = allocations_bound t all
  statement_bound t (Y.Free all line) = freeings_bound t all
  statement_bound t (Y.Get skip pairs line) = get_bound t pairs
  statement_bound t (Y.Put skip pairs line) = put_bound t pairs
  statement_bound t _ = omega arith

  pub statements_bound : (t : Taken) (x : Y.Stmts) → (stmts_take t x).words ≤ t.words + W.stmts_words x
  statements_bound t (Y.EndOfList labels) = omega arith
  statements_bound t (Y.StmtThen labels first rest) =
      let a = statement_bound t first in let b = statements_bound t rest in omega (arith, a, b)

pub block_bound : (program : Y.Program) (block : ℕ) (body : Y.Stmts)
    → (block_takes program block body).words
    ≤ max (W.variables_words (variables_of_block program block)) (W.stmts_words body)
block_bound program block body =
    let a = variables_bound (variables_of_block program block) in
    let b = statements_bound none_taken body in
    omega (arith, a, b)
