-- How often a label of a block is marked: as often as it stands in that block, and in each block inside with that
-- number.
use Rattle.std.proofs.Common.{◌≡◌, ℕ, suc, ◌+◌, ◌≤◌, ◌==◌, List, [], ◌∷◌, ◌++◌, Bool, true, false, refl, sym, ap, ◌∙◌}
use Rattle.std.proofs.Common.{subst, arith, if◌then◌else◌}
use Rattle.std.specs.Prelude.{◌&&◌, ◌||◌}
use Rattle.pli_language.specs.Keywords.{same_bytes}
use Rattle.pli_typing.specs.TypedTree as Y
use Rattle.pli_coding.specs.Assembly.{Symbol, LabelPlace, ReturnPlace, same_symbol}
use Rattle.well_formed_trees.specs.Surroundings.{Label, is_among}
use Rattle.well_formed_trees.specs.Blocks.{own_number, numbers_in, numbers_among, times, if_simple, own_labels}
use Rattle.well_formed_trees.specs.Blocks.{block_labels, IsOnce, OnceIfOwn, LabelsOnce, AllLabelsOnce}
use Rattle.code_marks.specs.CodeMarks.{label_symbols, unit_end, stmt_symbols, stmts_symbols, symbol_times}
use Rattle.code_marks.proofs.Numbered.{IsUnitIn, Numbered, AllNumbered}
use Rattle.well_formed_trees.proofs.Letters.{same_equal}

-- ---- counting

abbrev pub counted : Bool → ℕ → ℕ
counted true n = n
counted false n = 0

pub counted_sum : (q : Bool) (m n : ℕ) → counted q (m + n) ≡ counted q m + counted q n
counted_sum true m n = refl
counted_sum false m n = refl

pub counted_zero : (q : Bool) → counted q 0 ≡ 0
counted_zero true = refl
counted_zero false = refl

pub symbols_append : (s : Symbol) (as' bs : List Symbol)
    → symbol_times s (as' ++ bs) ≡ symbol_times s as' + symbol_times s bs
symbols_append s [] bs = omega arith
symbols_append s (a ∷ as') bs = by (same_symbol s a) (symbols_append s as' bs) where
  by : (q : Bool) → symbol_times s (as' ++ bs) ≡ symbol_times s as' + symbol_times s bs
      → (if q then suc (symbol_times s (as' ++ bs)) else symbol_times s (as' ++ bs))
      ≡ (if q then suc (symbol_times s as') else symbol_times s as') + symbol_times s bs
  by true h = omega (arith, h)
  by false h = h

abbrev pub label_times : Label → List Label → ℕ
label_times l [] = 0
label_times l (m ∷ ms) = if same_bytes l m then suc (label_times l ms) else label_times l ms

labels_append : (l : Label) (as' bs : List Label) → label_times l (as' ++ bs) ≡ label_times l as' + label_times l bs
labels_append l [] bs = omega arith
labels_append l (a ∷ as') bs = by (same_bytes l a) (labels_append l as' bs) where
  by : (q : Bool) → label_times l (as' ++ bs) ≡ label_times l as' + label_times l bs
      → (if q then suc (label_times l (as' ++ bs)) else label_times l (as' ++ bs))
      ≡ (if q then suc (label_times l as') else label_times l as') + label_times l bs
  by true h = omega (arith, h)
  by false h = h

pub numbers_append : (n : ℕ) (as' bs : List ℕ) → times n (as' ++ bs) ≡ times n as' + times n bs
numbers_append n [] bs = omega arith
numbers_append n (a ∷ as') bs = by (n == a) (numbers_append n as' bs) where
  by : (q : Bool) → times n (as' ++ bs) ≡ times n as' + times n bs
      → (if q then suc (times n (as' ++ bs)) else times n (as' ++ bs))
      ≡ (if q then suc (times n as') else times n as') + times n bs
  by true h = omega (arith, h)
  by false h = h

-- ---- the labels of one list

listed_times : (n b : ℕ) (l : Label) (labels : List Label)
    → symbol_times (LabelPlace n l) (label_symbols b labels) ≡ counted (n == b) (label_times l labels)
listed_times n b l [] = sym (counted_zero (n == b))
listed_times n b l (m ∷ ms) = by (n == b) (same_bytes l m) (listed_times n b l ms) where
  by : (q r : Bool) → symbol_times (LabelPlace n l) (label_symbols b ms) ≡ counted q (label_times l ms)
      → (if q && r then suc (symbol_times (LabelPlace n l) (label_symbols b ms))
      else symbol_times (LabelPlace n l) (label_symbols b ms))
      ≡ counted q (if r then suc (label_times l ms) else label_times l ms)
  by true true h = ap suc h
  by true false h = h
  by false r h = h

-- ---- in blocks inside

abbrev pub here : (n : ℕ) → Label → (number : ℕ) → Y.Stmts → ℕ
here n l number body = counted (n == number) (label_times l (block_labels body))

abbrev pub unit_here : (n : ℕ) → Label → Y.BlockHead → Y.BlockKind → Y.Stmts → ℕ
unit_here n l head Y.SimpleUnit body = 0
unit_here n l head _ body = here n l head.number body

abbrev mutual
  pub inner_in : (n : ℕ) → Label → Y.Stmt → ℕ
  inner_in n l (Y.If condition unit line) = inner_in n l unit
  inner_in n l (Y.IfElse condition unit otherwise line) = inner_in n l unit + inner_in n l otherwise
  inner_in n l (Y.Do body line) = inner_among n l body
  inner_in n l (Y.DoWhile condition body line) = inner_among n l body
  inner_in n l (Y.DoOnce target start condition body line) = inner_among n l body
  inner_in n l (Y.DoCount counter start limit step condition body line) = inner_among n l body
  inner_in n l (Y.Begin (Y.BlockOf head body)) = here n l head.number body + inner_among n l body
  inner_in n l (Y.OnUnit c (Y.BlockOf head body) line) = unit_here n l head head.kind body + inner_among n l body
  inner_in n l _ = 0

  pub inner_among : (n : ℕ) → Label → Y.Stmts → ℕ
  inner_among n l (Y.EndOfList labels) = 0
  inner_among n l (Y.StmtThen labels first rest) = inner_in n l first + inner_among n l rest

unit_end_times : (n : ℕ) (l : Label) (head : Y.BlockHead) (kind : Y.BlockKind)
    → symbol_times (LabelPlace n l) (unit_end head kind) ≡ 0
unit_end_times n l head Y.ProcedureBlock = refl
unit_end_times n l head Y.BeginBlock = refl
unit_end_times n l head Y.UnitBlock = refl
unit_end_times n l head Y.SimpleUnit = refl

-- what a unit's block adds: to the block around where it is a single statement
unit_times : (n b : ℕ) (l : Label) (head : Y.BlockHead) (kind : Y.BlockKind) (body : Y.Stmts) → IsUnitIn b head kind
    → here n l head.number body
    ≡ counted (n == b) (label_times l (if_simple kind (block_labels body))) + unit_here n l head kind body
unit_times n b l head Y.UnitBlock body h =
    let z = counted_zero (n == b) in
    omega (arith, z)
unit_times n b l head Y.SimpleUnit body h =
    let e = ap (λ m. counted (n == m) (label_times l (block_labels body))) h in
    omega (arith, e)
unit_times n b l head Y.ProcedureBlock body h = absurd h
unit_times n b l head Y.BeginBlock body h = absurd h

nothing : (n b : ℕ) → counted (n == b) 0 + 0 ≡ 0
nothing n b = let z = counted_zero (n == b) in omega (arith, z)

mutual
  label_count : (n b : ℕ) (l : Label) (s : Y.Stmt) → Numbered b s
      → symbol_times (LabelPlace n l) (stmt_symbols b s)
      ≡ counted (n == b) (label_times l (own_labels s)) + inner_in n l s
  label_count n b l (Y.If condition unit line) h = label_count n b l unit h
  label_count n b l (Y.IfElse condition unit otherwise line) h =
      let x = label_count n b l unit h.0 in
      let y = label_count n b l otherwise h.1 in
      let a = symbols_append (LabelPlace n l) (stmt_symbols b unit) (stmt_symbols b otherwise) in
      let c = labels_append l (own_labels unit) (own_labels otherwise) in
      let d = ap (counted (n == b)) c in
      let e = counted_sum (n == b) (label_times l (own_labels unit)) (label_times l (own_labels otherwise)) in
      omega (arith, x, y, a, d, e)
  label_count n b l (Y.Do body line) h = labels_count n b l body h
  label_count n b l (Y.DoWhile condition body line) h = labels_count n b l body h
  label_count n b l (Y.DoOnce target start condition body line) h = labels_count n b l body h
  label_count n b l (Y.DoCount counter start limit step condition body line) h = labels_count n b l body h
  label_count n b l (Y.Begin (Y.BlockOf head body)) h =
      let x = labels_count n head.number l body h.1 in
      let z = counted_zero (n == b) in
      omega (arith, x, z)
  label_count n b l (Y.OnUnit c (Y.BlockOf head body) line) h =
      let x = labels_count n head.number l body h.1 in
      let a = symbols_append (LabelPlace n l) (stmts_symbols head.number body) (unit_end head head.kind) in
      let e = unit_end_times n l head head.kind in
      let u = unit_times n b l head head.kind body h.0 in
      omega (arith, x, a, e, u)
  label_count n b l (Y.Null line) h = sym (nothing n b)
  label_count n b l (Y.Assign target source line) h = sym (nothing n b)
  label_count n b l (Y.AssignElements target source line) h = sym (nothing n b)
  label_count n b l (Y.AssignAggregate target source line) h = sym (nothing n b)
  label_count n b l (Y.AssignArea target source line) h = sym (nothing n b)
  label_count n b l (Y.EmptyArea target line) h = sym (nothing n b)
  label_count n b l (Y.OnSystem condition line) h = sym (nothing n b)
  label_count n b l (Y.CallProcedure c line) h = sym (nothing n b)
  label_count n b l (Y.Return line) h = sym (nothing n b)
  label_count n b l (Y.ReturnValue type s line) h = sym (nothing n b)
  label_count n b l (Y.Goto level label line) h = sym (nothing n b)
  label_count n b l (Y.Stop line) h = sym (nothing n b)
  label_count n b l (Y.Signal condition line) h = sym (nothing n b)
  label_count n b l (Y.Revert condition line) h = sym (nothing n b)
  label_count n b l (Y.Allocate allocations line) h = sym (nothing n b)
  label_count n b l (Y.Free freeings line) h = sym (nothing n b)
  label_count n b l (Y.Get skip pairs line) h = sym (nothing n b)
  label_count n b l (Y.Put skip pairs line) h = sym (nothing n b)

  pub labels_count : (n b : ℕ) (l : Label) (ss : Y.Stmts) → AllNumbered b ss
      → symbol_times (LabelPlace n l) (stmts_symbols b ss)
      ≡ counted (n == b) (label_times l (block_labels ss)) + inner_among n l ss
  labels_count n b l (Y.EndOfList labels) h = let x = listed_times n b l labels in omega (arith, x)
  labels_count n b l (Y.StmtThen labels first rest) h =
      let x = listed_times n b l labels in
      let y = label_count n b l first h.0 in
      let z = labels_count n b l rest h.1 in
      let more = stmt_symbols b first ++ stmts_symbols b rest in
      let a = symbols_append (LabelPlace n l) (label_symbols b labels) more in
      let c = symbols_append (LabelPlace n l) (stmt_symbols b first) (stmts_symbols b rest) in
      let d = ap (counted (n == b)) (labels_append l labels (own_labels first ++ block_labels rest)) in
      let e = counted_sum (n == b) (label_times l labels) (label_times l (own_labels first ++ block_labels rest)) in
      let f = ap (counted (n == b)) (labels_append l (own_labels first) (block_labels rest)) in
      let g = counted_sum (n == b) (label_times l (own_labels first)) (label_times l (block_labels rest)) in
      omega (arith, x, y, z, a, c, d, e, f, g)

-- ---- each once

no_times : (l : Label) (ms : List Label) → is_among l ms ≡ false → label_times l ms ≡ 0
no_times l [] h = refl
no_times l (m ∷ ms) h = by (same_bytes l m) h (no_times l ms)
  where
    by : (q : Bool) → (q || is_among l ms) ≡ false → (is_among l ms ≡ false → label_times l ms ≡ 0)
        → (if q then suc (label_times l ms) else label_times l ms) ≡ 0
    by true h k = absurd (cc h)
    by false h k = k h

none_times : (l m : Label) (ms : List Label) → same_bytes l m ≡ true → is_among m ms ≡ false → label_times l ms ≡ 0
none_times l m ms same h = no_times l ms (subst (λ x. is_among x ms ≡ false) (sym (same_equal l m same)) h)

pub once_times : (l : Label) (labels : List Label) → IsOnce labels → label_times l labels ≤ 1
once_times l [] h = omega arith
once_times l (m ∷ ms) h = by (same_bytes l m) refl (once_times l ms h.1)
  where
    by : (q : Bool) → same_bytes l m ≡ q → label_times l ms ≤ 1
        → (if q then suc (label_times l ms) else label_times l ms) ≤ 1
    by true e k = let z = none_times l m ms e h.0 in omega (arith, z)
    by false e k = k

here_most : (n : ℕ) (l : Label) (number : ℕ) (body : Y.Stmts) → IsOnce (block_labels body)
    → here n l number body ≤ times n (number ∷ [])
here_most n l number body h = by (n == number) where
  by : (q : Bool) → counted q (label_times l (block_labels body)) ≤ (if q then 1 else 0)
  by true = once_times l (block_labels body) h
  by false = omega arith

pub own_most : (n : ℕ) (l : Label) (head : Y.BlockHead) (kind : Y.BlockKind) (body : Y.Stmts) → OnceIfOwn kind body
    → unit_here n l head kind body ≤ times n (own_number head kind)
own_most n l head Y.SimpleUnit body h = omega arith
own_most n l head Y.ProcedureBlock body h = here_most n l head.number body h
own_most n l head Y.BeginBlock body h = here_most n l head.number body h
own_most n l head Y.UnitBlock body h = here_most n l head.number body h

mutual
  inner_most : (n b : ℕ) (l : Label) (s : Y.Stmt) → Numbered b s → LabelsOnce s → inner_in n l s ≤ times n
      (numbers_in s)
  inner_most n b l (Y.If condition unit line) k h = inner_most n b l unit k h
  inner_most n b l (Y.IfElse condition unit otherwise line) k h =
      let x = inner_most n b l unit k.0 h.0 in
      let y = inner_most n b l otherwise k.1 h.1 in
      let a = numbers_append n (numbers_in unit) (numbers_in otherwise) in
      omega (arith, x, y, a)
  inner_most n b l (Y.Do body line) k h = all_inner_most n b l body k h
  inner_most n b l (Y.DoWhile condition body line) k h = all_inner_most n b l body k h
  inner_most n b l (Y.DoOnce target start condition body line) k h = all_inner_most n b l body k h
  inner_most n b l (Y.DoCount counter start limit step condition body line) k h = all_inner_most n b l body k h
  inner_most n b l (Y.Begin (Y.BlockOf head body)) k h =
      let x = all_inner_most n head.number l body k.1 h.1 in
      let a = numbers_append n (own_number head head.kind) (numbers_among body) in
      let o = own_most n l head head.kind body h.0 in
      let e = ap (λ kind. unit_here n l head kind body) k.0 in
      omega (arith, x, a, o, e)
  inner_most n b l (Y.OnUnit c (Y.BlockOf head body) line) k h =
      let x = all_inner_most n head.number l body k.1 h.1 in
      let a = numbers_append n (own_number head head.kind) (numbers_among body) in
      let o = own_most n l head head.kind body h.0 in
      omega (arith, x, a, o)
  inner_most n b l (Y.Null line) k h = omega arith
  inner_most n b l (Y.Assign target source line) k h = omega arith
  inner_most n b l (Y.AssignElements target source line) k h = omega arith
  inner_most n b l (Y.AssignAggregate target source line) k h = omega arith
  inner_most n b l (Y.AssignArea target source line) k h = omega arith
  inner_most n b l (Y.EmptyArea target line) k h = omega arith
  inner_most n b l (Y.OnSystem condition line) k h = omega arith
  inner_most n b l (Y.CallProcedure c line) k h = omega arith
  inner_most n b l (Y.Return line) k h = omega arith
  inner_most n b l (Y.ReturnValue type s line) k h = omega arith
  inner_most n b l (Y.Goto level label line) k h = omega arith
  inner_most n b l (Y.Stop line) k h = omega arith
  inner_most n b l (Y.Signal condition line) k h = omega arith
  inner_most n b l (Y.Revert condition line) k h = omega arith
  inner_most n b l (Y.Allocate allocations line) k h = omega arith
  inner_most n b l (Y.Free freeings line) k h = omega arith
  inner_most n b l (Y.Get skip pairs line) k h = omega arith
  inner_most n b l (Y.Put skip pairs line) k h = omega arith

  pub all_inner_most : (n b : ℕ) (l : Label) (ss : Y.Stmts) → AllNumbered b ss → AllLabelsOnce ss
      → inner_among n l ss ≤ times n (numbers_among ss)
  all_inner_most n b l (Y.EndOfList labels) k h = omega arith
  all_inner_most n b l (Y.StmtThen labels first rest) k h =
      let x = inner_most n b l first k.0 h.0 in
      let y = all_inner_most n b l rest k.1 h.1 in
      let a = numbers_append n (numbers_in first) (numbers_among rest) in
      omega (arith, x, y, a)
