-- Each symbol is marked once at most.
use Rattle.std.proofs.Common.{◌≡◌, ℕ, zero, suc, ◌+◌, ◌≤◌, ◌<◌, ◌==◌, List, [], ◌∷◌, ◌++◌, map, Bool, true, false, refl}
use Rattle.std.proofs.Common.{sym, ap, ◌∙◌, subst, arith, if◌then◌else◌}
use Rattle.std.specs.Prelude.{◌&&◌, nat_lt}
use Rattle.pli_typing.specs.TypedTree as Y
use Rattle.pli_meaning.specs.DeclaredShapes.{variables_of_block}
use Rattle.pli_coding.specs.Assembly.{Symbol, Datum, ProcedureEntry, ReturnPlace, LabelPlace, RaiseCondition}
use Rattle.pli_coding.specs.Assembly.{RaiseError}
use Rattle.pli_coding.specs.Assembly.{ErrorEnd, ExtentRoutine, DataPlace, same_symbol}
use Rattle.pli_coding.specs.Environments.{BlockPlace}
use Rattle.pli_coding.specs.Procedures.{has_routine}
use Rattle.pli_coding.specs.Images.{place_of_head, place_of_unit, blocks_in, blocks_among, blocks_of_procedure}
use Rattle.pli_coding.specs.Images.{with_block, with_blocks, blocks_of}
use Rattle.well_formed_trees.specs.Surroundings.{Label, Table}
use Rattle.well_formed_trees.specs.Every.{Every}
use Rattle.well_formed_trees.specs.Blocks.{own_number, numbers_in, numbers_among, numbers_of, procedure_numbers, times}
use Rattle.well_formed_trees.specs.Blocks.{block_labels, OnceIfOwn, AllLabelsOnce, BlockLabelsOnce}
use Rattle.well_formed_trees.specs.WellFormed.{SoundProcedure, AreNumbered, IsWellFormed}
use Rattle.code_marks.specs.CodeMarks.{label_symbols, unit_end, stmt_symbols, stmts_symbols, block_symbols}
use Rattle.code_marks.specs.CodeMarks.{procedure_symbols, routine_symbols, routines_in_block, routines_among}
use Rattle.code_marks.specs.CodeMarks.{program_symbols, symbol_times, symbols_marked, MarkedOnce}
use Rattle.code_marks.proofs.Numbered.{IsUnitIn, Numbered, AllNumbered, all_numbered}
use Rattle.code_marks.proofs.LabelTimes.{counted, counted_zero, symbols_append, numbers_append, label_times}
use Rattle.code_marks.proofs.LabelTimes.{inner_among}
use Rattle.code_marks.proofs.LabelTimes.{labels_count, own_most, all_inner_most}
use Rattle.code_marks.proofs.Programs.{programs_mark}
use Rattle.std.proofs.lemmas.Bool.{eqb-true}
use Rattle.std.proofs.lemmas.Bool.Decides.{nat_tests}

-- ---- symbols that statements don't mark

pub record NoPlace (s : Symbol) : Type 0 where
  pub label : (b : ℕ) (l : List ℕ) → same_symbol s (LabelPlace b l) ≡ false
  pub end : (b : ℕ) → same_symbol s (ReturnPlace b) ≡ false

without : (s t : Symbol) (ts : List Symbol) → same_symbol s t ≡ false → symbol_times s (t ∷ ts) ≡ symbol_times s ts
without s t ts h = ap (λ q. if q then suc (symbol_times s ts) else symbol_times s ts) h

no_label : (s : Symbol) → NoPlace s → (b : ℕ) (labels : List Label) → symbol_times s (label_symbols b labels) ≡ 0
no_label s h b [] = refl
no_label s h b (l ∷ ls) = without s (LabelPlace b l) (label_symbols b ls) (h.label b l) ∙ no_label s h b ls

no_end : (s : Symbol) → NoPlace s → (head : Y.BlockHead) (kind : Y.BlockKind) → symbol_times s (unit_end head kind) ≡ 0
no_end s h head Y.SimpleUnit = refl
no_end s h head Y.ProcedureBlock = without s (ReturnPlace head.number) [] (h.end head.number)
no_end s h head Y.BeginBlock = without s (ReturnPlace head.number) [] (h.end head.number)
no_end s h head Y.UnitBlock = without s (ReturnPlace head.number) [] (h.end head.number)

two_none : (s : Symbol) (as' bs : List Symbol) → symbol_times s as' ≡ 0 → symbol_times s bs ≡ 0
    → symbol_times s (as' ++ bs) ≡ 0
two_none s as' bs h k = let a = symbols_append s as' bs in omega (arith, a, h, k)

mutual
  absent : (s : Symbol) → NoPlace s → (b : ℕ) (x : Y.Stmt) → symbol_times s (stmt_symbols b x) ≡ 0
  absent s h b (Y.If condition unit line) = absent s h b unit
  absent s h b (Y.IfElse condition unit otherwise line) = two_none s _ _ (absent s h b unit) (absent s h b otherwise)
  absent s h b (Y.Do body line) = all_absent s h b body
  absent s h b (Y.DoWhile condition body line) = all_absent s h b body
  absent s h b (Y.DoOnce target start condition body line) = all_absent s h b body
  absent s h b (Y.DoCount counter start limit step condition body line) = all_absent s h b body
  absent s h b (Y.Begin (Y.BlockOf head body)) = all_absent s h head.number body
  absent s h b (Y.OnUnit c (Y.BlockOf head body) line) =
      two_none s _ _ (all_absent s h head.number body) (no_end s h head head.kind)
  absent s h b (Y.Null line) = refl
  absent s h b (Y.Assign target source line) = refl
  absent s h b (Y.AssignElements target source line) = refl
  absent s h b (Y.AssignAggregate target source line) = refl
  absent s h b (Y.AssignArea target source line) = refl
  absent s h b (Y.EmptyArea target line) = refl
  absent s h b (Y.OnSystem condition line) = refl
  absent s h b (Y.CallProcedure c line) = refl
  absent s h b (Y.Return line) = refl
  absent s h b (Y.ReturnValue type source line) = refl
  absent s h b (Y.Goto level label line) = refl
  absent s h b (Y.Stop line) = refl
  absent s h b (Y.Signal condition line) = refl
  absent s h b (Y.Revert condition line) = refl
  absent s h b (Y.Allocate allocations line) = refl
  absent s h b (Y.Free freeings line) = refl
  absent s h b (Y.Get skip pairs line) = refl
  absent s h b (Y.Put skip pairs line) = refl

  all_absent : (s : Symbol) → NoPlace s → (b : ℕ) (xs : Y.Stmts) → symbol_times s (stmts_symbols b xs) ≡ 0
  all_absent s h b (Y.EndOfList labels) = no_label s h b labels
  all_absent s h b (Y.StmtThen labels first rest) =
      two_none s _ _ (no_label s h b labels) (two_none s _ _ (absent s h b first) (all_absent s h b rest))

-- ---- ends

end_label : (n b : ℕ) (labels : List Label) → symbol_times (ReturnPlace n) (label_symbols b labels) ≡ 0
end_label n b [] = refl
end_label n b (l ∷ ls) = end_label n b ls

end_own : (n : ℕ) (head : Y.BlockHead) (kind : Y.BlockKind)
    → symbol_times (ReturnPlace n) (unit_end head kind) ≤ times n (own_number head kind)
end_own n head Y.SimpleUnit = omega arith
end_own n head Y.ProcedureBlock = omega arith
end_own n head Y.BeginBlock = omega arith
end_own n head Y.UnitBlock = omega arith

mutual
  end_most : (n b : ℕ) (s : Y.Stmt) → symbol_times (ReturnPlace n) (stmt_symbols b s) ≤ times n (numbers_in s)
  end_most n b (Y.If condition unit line) = end_most n b unit
  end_most n b (Y.IfElse condition unit otherwise line) =
      let x = end_most n b unit in
      let y = end_most n b otherwise in
      let a = symbols_append (ReturnPlace n) (stmt_symbols b unit) (stmt_symbols b otherwise) in
      let c = numbers_append n (numbers_in unit) (numbers_in otherwise) in
      omega (arith, x, y, a, c)
  end_most n b (Y.Do body line) = ends_most n b body
  end_most n b (Y.DoWhile condition body line) = ends_most n b body
  end_most n b (Y.DoOnce target start condition body line) = ends_most n b body
  end_most n b (Y.DoCount counter start limit step condition body line) = ends_most n b body
  end_most n b (Y.Begin (Y.BlockOf head body)) =
      let x = ends_most n head.number body in
      let c = numbers_append n (own_number head head.kind) (numbers_among body) in
      omega (arith, x, c)
  end_most n b (Y.OnUnit condition (Y.BlockOf head body) line) =
      let x = ends_most n head.number body in
      let a = symbols_append (ReturnPlace n) (stmts_symbols head.number body) (unit_end head head.kind) in
      let c = numbers_append n (own_number head head.kind) (numbers_among body) in
      let o = end_own n head head.kind in
      omega (arith, x, a, c, o)
  end_most n b (Y.Null line) = omega arith
  end_most n b (Y.Assign target source line) = omega arith
  end_most n b (Y.AssignElements target source line) = omega arith
  end_most n b (Y.AssignAggregate target source line) = omega arith
  end_most n b (Y.AssignArea target source line) = omega arith
  end_most n b (Y.EmptyArea target line) = omega arith
  end_most n b (Y.OnSystem condition line) = omega arith
  end_most n b (Y.CallProcedure c line) = omega arith
  end_most n b (Y.Return line) = omega arith
  end_most n b (Y.ReturnValue type source line) = omega arith
  end_most n b (Y.Goto level label line) = omega arith
  end_most n b (Y.Stop line) = omega arith
  end_most n b (Y.Signal condition line) = omega arith
  end_most n b (Y.Revert condition line) = omega arith
  end_most n b (Y.Allocate allocations line) = omega arith
  end_most n b (Y.Free freeings line) = omega arith
  end_most n b (Y.Get skip pairs line) = omega arith
  end_most n b (Y.Put skip pairs line) = omega arith

  ends_most : (n b : ℕ) (ss : Y.Stmts) → symbol_times (ReturnPlace n) (stmts_symbols b ss) ≤ times n (numbers_among ss)
  ends_most n b (Y.EndOfList labels) = let x = end_label n b labels in omega (arith, x)
  ends_most n b (Y.StmtThen labels first rest) =
      let x = end_label n b labels in
      let y = end_most n b first in
      let z = ends_most n b rest in
      let more = stmt_symbols b first ++ stmts_symbols b rest in
      let a = symbols_append (ReturnPlace n) (label_symbols b labels) more in
      let c = symbols_append (ReturnPlace n) (stmt_symbols b first) (stmts_symbols b rest) in
      let d = numbers_append n (numbers_in first) (numbers_among rest) in
      omega (arith, x, y, z, a, c, d)

-- ---- procedures

-- what a well-formed procedure has
pub record Sound (b : Y.Block) : Type 0 where
  pub head : Y.BlockHead
  pub body : Y.Stmts
  pub is : b ≡ Y.BlockOf head body
  pub kind : head.kind ≡ Y.ProcedureBlock
  pub numbered : AllNumbered head.number body
  pub own : OnceIfOwn head.kind body
  pub inside : AllLabelsOnce body

pub sound_of : (table : Table) (program : Y.Program) (p : Y.Procedure) → SoundProcedure table program p → Sound p.block
sound_of table program p h =
    let once : BlockLabelsOnce (Y.BlockOf h.head h.body) = subst BlockLabelsOnce h.is h.labels in
    record {
      head = h.head;
      body = h.body;
      is = h.is;
      kind = h.kind;
      numbered = all_numbered _ h.body h.statements;
      own = once.0;
      inside = once.1;
    }

-- what holds of the symbols of each sound block
abbrev EachMost : (s : Symbol) (n : ℕ) → Type 0
EachMost s n =
    (head : Y.BlockHead) (body : Y.Stmts) → head.kind ≡ Y.ProcedureBlock → AllNumbered head.number body
    → OnceIfOwn head.kind body → AllLabelsOnce body
    → symbol_times s (block_symbols (Y.BlockOf head body)) ≤ times n (head.number ∷ numbers_among body)

own_is : (head : Y.BlockHead) → head.kind ≡ Y.ProcedureBlock → own_number head head.kind ≡ head.number ∷ []
own_is head h = ap (own_number head) h

procedures_most : (table : Table) (program : Y.Program) (s : Symbol) (n : ℕ) → EachMost s n → (ps : List Y.Procedure)
    → Every (SoundProcedure table program) ps → symbol_times s (procedure_symbols ps) ≤ times n (procedure_numbers ps)
procedures_most table program s n each [] h = omega arith
procedures_most table program s n each (p ∷ ps) h =
    let x = block_most p.block (sound_of table program p h.0) in
    let y = procedures_most table program s n each ps h.1 in
    let a = symbols_append s (block_symbols p.block) (procedure_symbols ps) in
    let c = numbers_append n (numbers_of p.block) (procedure_numbers ps) in
    omega (arith, x, y, a, c)
  where
    block_most : (b : Y.Block) → Sound b → symbol_times s (block_symbols b) ≤ times n (numbers_of b)
    block_most b t =
        let x = each t.head t.body t.kind t.numbered t.own t.inside in
        subst (λ u. symbol_times s (block_symbols u) ≤ times n (numbers_of u)) (sym t.is)
        (subst (λ o. symbol_times s (block_symbols (Y.BlockOf t.head t.body)) ≤ times n (o ++ numbers_among t.body))
        (sym (own_is t.head t.kind)) x)

-- ---- by what the symbol is

entry_each : (n : ℕ) → EachMost (ProcedureEntry n) n
entry_each n head body kind numbered own inside =
    let none = all_absent (ProcedureEntry n) (record { label = λ b l. refl; end = λ b. refl }) head.number body in
    let a = symbols_append (ProcedureEntry n) (stmts_symbols head.number body) (ReturnPlace head.number ∷ []) in
    by (n == head.number) none a
  where
    by : (q : Bool) → symbol_times (ProcedureEntry n) (stmts_symbols head.number body) ≡ 0
        → symbol_times (ProcedureEntry n) (stmts_symbols head.number body ++ ReturnPlace head.number ∷ [])
        ≡ symbol_times (ProcedureEntry n) (stmts_symbols head.number body) + 0
        → (if q then suc (symbol_times (ProcedureEntry n)
        (stmts_symbols head.number body ++ ReturnPlace head.number ∷ []))
        else symbol_times (ProcedureEntry n) (stmts_symbols head.number body ++ ReturnPlace head.number ∷ []))
        ≤ (if q then suc (times n (numbers_among body)) else times n (numbers_among body))
    by true h k = omega (arith, h, k)
    by false h k = omega (arith, h, k)

end_each : (n : ℕ) → EachMost (ReturnPlace n) n
end_each n head body kind numbered own inside =
    let x = ends_most n head.number body in
    let a = symbols_append (ReturnPlace n) (stmts_symbols head.number body) (ReturnPlace head.number ∷ []) in
    by (n == head.number) x a
  where
    by : (q : Bool) → symbol_times (ReturnPlace n) (stmts_symbols head.number body) ≤ times n (numbers_among body)
        → symbol_times (ReturnPlace n) (stmts_symbols head.number body ++ ReturnPlace head.number ∷ [])
        ≡ symbol_times (ReturnPlace n) (stmts_symbols head.number body) + (if q then 1 else 0)
        → symbol_times (ReturnPlace n) (stmts_symbols head.number body ++ ReturnPlace head.number ∷ [])
        ≤ (if q then suc (times n (numbers_among body)) else times n (numbers_among body))
    by true h k = omega (arith, h, k)
    by false h k = omega (arith, h, k)

label_each : (n : ℕ) (l : Label) → EachMost (LabelPlace n l) n
label_each n l head body kind numbered own inside =
    let x = labels_count n head.number l body numbered in
    let a = symbols_append (LabelPlace n l) (stmts_symbols head.number body) (ReturnPlace head.number ∷ []) in
    let y = all_inner_most n head.number l body numbered inside in
    let o = own_most n l head Y.ProcedureBlock body (subst (λ k. OnceIfOwn k body) kind own) in
    let c = numbers_append n (head.number ∷ []) (numbers_among body) in
    omega (arith, x, a, y, o, c)

-- ---- other symbols

none_each : (s : Symbol) → NoPlace s → ((b : ℕ) → same_symbol s (ProcedureEntry b) ≡ false) → (ps : List Y.Procedure)
    → symbol_times s (procedure_symbols ps) ≡ 0
none_each s h k [] = refl
none_each s h k (p ∷ ps) = two_none s _ _ (block_none p.block) (none_each s h k ps)
  where
    block_none : (b : Y.Block) → symbol_times s (block_symbols b) ≡ 0
    block_none (Y.BlockOf head body) =
        without s (ProcedureEntry head.number) _ (k head.number)
        ∙ two_none s _ _ (all_absent s h head.number body) (without s (ReturnPlace head.number) [] (h.end head.number))

-- ---- routines of extents

later_differs : (i index : ℕ) → i < index → (i == index) ≡ true → ⊥
later_differs i index h e = let k = eqb-true i index e in omega (arith, h, k)

next_is : (i index : ℕ) → (i == index) ≡ true → i < suc index
next_is i index e = let k = eqb-true i index e in omega (arith, k)

no_routine : (s : Symbol) → ((b i : ℕ) → same_symbol s (ExtentRoutine b i) ≡ false) → (program : Y.Program)
    (bs : List BlockPlace) → symbol_times s (routines_among program bs) ≡ 0
no_routine s h program [] = refl
no_routine s h program (b ∷ bs) =
    two_none s _ _ (in_block 0 (variables_of_block program b.number)) (no_routine s h program bs)
  where
    one : (index : ℕ) (d : Y.DeclaredVariable) (xs : List Y.Evaluation)
        → symbol_times s (routine_symbols b.number index d xs) ≡ 0
    one index d [] = refl
    one index d (x ∷ xs) = by (has_routine d.class) where
      by : (q : Bool) → symbol_times s (if q then ExtentRoutine b.number index ∷ [] else []) ≡ 0
      by true = without s (ExtentRoutine b.number index) [] (h b.number index)
      by false = refl

    in_block : (index : ℕ) (ds : List Y.DeclaredVariable) → symbol_times s (routines_in_block b.number index ds) ≡ 0
    in_block index [] = refl
    in_block index (d ∷ ds) = two_none s _ _ (one index d d.evaluations) (in_block (suc index) ds)

routine_one : (n i b index : ℕ) (d : Y.DeclaredVariable) (xs : List Y.Evaluation)
    → symbol_times (ExtentRoutine n i) (routine_symbols b index d xs) ≤ counted ((n == b) && (i == index)) 1
routine_one n i b index d [] = omega arith
routine_one n i b index d (x ∷ xs) = by (has_routine d.class) ((n == b) && (i == index)) where
  by : (q r : Bool)
      → symbol_times (ExtentRoutine n i) (if q then ExtentRoutine b index ∷ [] else []) ≤ counted ((n == b) &&
      (i == index)) 1
  by true r = at ((n == b) && (i == index)) where
    at : (t : Bool) → (if t then 1 else 0) ≤ counted t 1
    at true = omega arith
    at false = omega arith
  by false r = omega arith

-- those of a block whose index is this one or a later one
routine_later : (n i b index : ℕ) (ds : List Y.DeclaredVariable) → i < index
    → symbol_times (ExtentRoutine n i) (routines_in_block b index ds) ≡ 0
routine_later n i b index [] h = refl
routine_later n i b index (d ∷ ds) h =
    let x = routine_one n i b index d d.evaluations in
    let y = routine_later n i b (suc index) ds (omega (arith, h)) in
    let a = symbols_append (ExtentRoutine n i) (routine_symbols b index d d.evaluations) (routines_in_block b
    (suc index) ds) in
    let z = unequal (n == b) (i == index) refl in
    omega (arith, x, y, a, z)
  where
    unequal : (q r : Bool) → (i == index) ≡ r → counted (q && r) 1 ≡ 0
    unequal true true e = absurd (later_differs i index h e)
    unequal true false e = refl
    unequal false r e = refl

routine_in : (n i b index : ℕ) (ds : List Y.DeclaredVariable)
    → symbol_times (ExtentRoutine n i) (routines_in_block b index ds) ≤ counted (n == b) 1
routine_in n i b index [] = omega arith
routine_in n i b index (d ∷ ds) =
    let x = routine_one n i b index d d.evaluations in
    let y = routine_in n i b (suc index) ds in
    let a = symbols_append (ExtentRoutine n i) (routine_symbols b index d d.evaluations) (routines_in_block b
    (suc index) ds) in
    by (n == b) (i == index) refl x y a
  where
    first : ℕ
    first = symbol_times (ExtentRoutine n i) (routine_symbols b index d d.evaluations)

    later : ℕ
    later = symbol_times (ExtentRoutine n i) (routines_in_block b (suc index) ds)

    both : ℕ
    both = symbol_times (ExtentRoutine n i) (routine_symbols b index d d.evaluations ++ routines_in_block b
        (suc index) ds)

    by : (q r : Bool) → (i == index) ≡ r → first ≤ counted (q && r) 1 → later ≤ counted q 1 → both ≡ first + later
        → both ≤ counted q 1
    by false r e x y a = omega (arith, x, y, a)
    by true false e x y a = omega (arith, x, y, a)
    by true true e x y a =
        let z = routine_later n i b (suc index) ds (next_is i index e) in
        omega (arith, x, z, a)

abbrev pub places_numbers : List BlockPlace → List ℕ
places_numbers bs = map (λ b. b.number) bs

routines_most : (n i : ℕ) (program : Y.Program) (bs : List BlockPlace)
    → symbol_times (ExtentRoutine n i) (routines_among program bs) ≤ times n (places_numbers bs)
routines_most n i program [] = omega arith
routines_most n i program (b ∷ bs) =
    let x = routine_in n i b.number 0 (variables_of_block program b.number) in
    let y = routines_most n i program bs in
    let a = symbols_append (ExtentRoutine n i) (routines_in_block b.number 0 (variables_of_block program b.number))
    (routines_among program bs) in
    by (n == b.number) x y a
  where
    first : ℕ
    first = symbol_times (ExtentRoutine n i) (routines_in_block b.number 0 (variables_of_block program b.number))

    later : ℕ
    later = symbol_times (ExtentRoutine n i) (routines_among program bs)

    both : ℕ
    both = symbol_times (ExtentRoutine n i) (routines_in_block b.number 0
        (variables_of_block program b.number) ++ routines_among program bs)

    by : (q : Bool) → first ≤ counted q 1 → later ≤ times n (places_numbers bs) → both ≡ first + later
        → both ≤ (if q then suc (times n (places_numbers bs)) else times n (places_numbers bs))
    by true x y a = omega (arith, x, y, a)
    by false x y a = omega (arith, x, y, a)

-- ---- the blocks of a program, by their numbers

alone : (n m : ℕ) (ms : List ℕ) → times n (m ∷ ms) ≡ times n (m ∷ []) + times n ms
alone n m ms = numbers_append n (m ∷ []) ms

block_with : (n : ℕ) (b : BlockPlace) (bs : List BlockPlace)
    → times n (places_numbers (with_block b bs)) ≡ times n (b.number ∷ places_numbers bs)
block_with n b [] = refl
block_with n b (c ∷ cs) = by (nat_lt b.number c.number) (block_with n b cs) where
  by : (q : Bool) → times n (places_numbers (with_block b cs)) ≡ times n (b.number ∷ places_numbers cs)
      → times n (places_numbers (if q then b ∷ c ∷ cs else c ∷ with_block b cs))
      ≡ times n (b.number ∷ c.number ∷ places_numbers cs)
  by true x = refl
  by false x =
      let y = alone n c.number (places_numbers (with_block b cs)) in
      let z = alone n b.number (c.number ∷ places_numbers cs) in
      let u = alone n b.number (places_numbers cs) in
      let v = alone n c.number (places_numbers cs) in
      omega (arith, x, y, z, u, v)

blocks_with : (n : ℕ) (bs all : List BlockPlace)
    → times n (places_numbers (with_blocks bs all)) ≡ times n (places_numbers bs) + times n (places_numbers all)
blocks_with n [] all = omega arith
blocks_with n (b ∷ bs) all =
    let x = blocks_with n bs (with_block b all) in
    let y = block_with n b all in
    let z = alone n b.number (places_numbers all) in
    let u = alone n b.number (places_numbers bs) in
    omega (arith, x, y, z, u)

places_append : (as' bs : List BlockPlace) → places_numbers (as' ++ bs) ≡ places_numbers as' ++ places_numbers bs
places_append [] bs = refl
places_append (a ∷ as') bs = ap (λ ns. a.number ∷ ns) (places_append as' bs)

both_places : (as' bs : List BlockPlace) (ms ns : List ℕ) → places_numbers as' ≡ ms → places_numbers bs ≡ ns
    → places_numbers (as' ++ bs) ≡ ms ++ ns
both_places as' bs ms ns h k = places_append as' bs ∙ (ap (λ x. x ++ places_numbers bs) h ∙ ap (λ x. ms ++ x) k)

unit_place : (head : Y.BlockHead) (kind : Y.BlockKind) → places_numbers (place_of_unit head kind) ≡ own_number head kind
unit_place head Y.SimpleUnit = refl
unit_place head Y.ProcedureBlock = refl
unit_place head Y.BeginBlock = refl
unit_place head Y.UnitBlock = refl

mutual
  places_in : (b : ℕ) (s : Y.Stmt) → Numbered b s → places_numbers (blocks_in s) ≡ numbers_in s
  places_in b (Y.If condition unit line) h = places_in b unit h
  places_in b (Y.IfElse condition unit otherwise line) h =
      both_places _ _ _ _ (places_in b unit h.0) (places_in b otherwise h.1)
  places_in b (Y.Do body line) h = places_among b body h
  places_in b (Y.DoWhile condition body line) h = places_among b body h
  places_in b (Y.DoOnce target start condition body line) h = places_among b body h
  places_in b (Y.DoCount counter start limit step condition body line) h = places_among b body h
  places_in b (Y.Begin (Y.BlockOf head body)) h =
      ap (λ ns. head.number ∷ ns) (places_among head.number body h.1)
      ∙ ap (λ kind. own_number head kind ++ numbers_among body) (sym h.0)
  places_in b (Y.OnUnit c (Y.BlockOf head body) line) h =
      both_places _ _ _ _ (unit_place head head.kind) (places_among head.number body h.1)
  places_in b (Y.Null line) h = refl
  places_in b (Y.Assign target source line) h = refl
  places_in b (Y.AssignElements target source line) h = refl
  places_in b (Y.AssignAggregate target source line) h = refl
  places_in b (Y.AssignArea target source line) h = refl
  places_in b (Y.EmptyArea target line) h = refl
  places_in b (Y.OnSystem condition line) h = refl
  places_in b (Y.CallProcedure c line) h = refl
  places_in b (Y.Return line) h = refl
  places_in b (Y.ReturnValue type source line) h = refl
  places_in b (Y.Goto level label line) h = refl
  places_in b (Y.Stop line) h = refl
  places_in b (Y.Signal condition line) h = refl
  places_in b (Y.Revert condition line) h = refl
  places_in b (Y.Allocate allocations line) h = refl
  places_in b (Y.Free freeings line) h = refl
  places_in b (Y.Get skip pairs line) h = refl
  places_in b (Y.Put skip pairs line) h = refl

  places_among : (b : ℕ) (ss : Y.Stmts) → AllNumbered b ss → places_numbers (blocks_among ss) ≡ numbers_among ss
  places_among b (Y.EndOfList labels) h = refl
  places_among b (Y.StmtThen labels first rest) h =
      both_places _ _ _ _ (places_in b first h.0) (places_among b rest h.1)

procedure_places : (b : Y.Block) → Sound b → places_numbers (blocks_of_procedure b) ≡ numbers_of b
procedure_places b h =
    subst (λ u. places_numbers (blocks_of_procedure u) ≡ numbers_of u) (sym h.is)
    (ap (λ ns. h.head.number ∷ ns) (places_among h.head.number h.body h.numbered)
    ∙ ap (λ ns. ns ++ numbers_among h.body) (sym (own_is h.head h.kind)))

all_places : (table : Table) (program : Y.Program) (n : ℕ) (ps : List Y.Procedure)
    → Every (SoundProcedure table program) ps → times n (places_numbers (blocks_of ps)) ≡ times n (procedure_numbers ps)
all_places table program n [] h = refl
all_places table program n (p ∷ ps) h =
    let x = blocks_with n (blocks_of_procedure p.block) (blocks_of ps) in
    let y = ap (times n) (procedure_places p.block (sound_of table program p h.0)) in
    let z = all_places table program n ps h.1 in
    let u = numbers_append n (numbers_of p.block) (procedure_numbers ps) in
    omega (arith, x, y, z, u)

-- ---- numbers stand once

is_below : (n count : ℕ) → nat_lt n count ≡ true → n < count
is_below n count e = grind (arith, nat_tests)

is_past : (n count : ℕ) → nat_lt n count ≡ false → count ≤ n
is_past n count e = grind (arith, nat_tests)

at_most : (count : ℕ) (numbers : List ℕ) → AreNumbered count numbers → (n : ℕ) → times n numbers ≤ 1
at_most count numbers h zero = let z = h.not_outermost in omega (arith, z)
at_most count numbers h (suc n) = by (nat_lt (suc n) count) refl where
  by : (q : Bool) → nat_lt (suc n) count ≡ q → times (suc n) numbers ≤ 1
  by true e = let z = h.once (suc n) (omega arith) (is_below (suc n) count e) in omega (arith, z)
  by false e = let z = h.none (suc n) (is_past (suc n) count e) in omega (arith, z)

-- ---- the law

others_none : (program : Y.Program) (s : Symbol) → NoPlace s → ((b : ℕ) → same_symbol s (ProcedureEntry b) ≡ false)
    → ((b i : ℕ) → same_symbol s (ExtentRoutine b i) ≡ false)
    → symbol_times s (routines_among program (blocks_of program.procedures) ++ procedure_symbols program.procedures) ≡ 0
others_none program s h k r =
    two_none s _ _ (no_routine s r program (blocks_of program.procedures)) (none_each s h k program.procedures)

program_once : (program : Y.Program) → IsWellFormed program → (s : Symbol) → symbol_times s
    (program_symbols program) ≤ 1
program_once program h (ProcedureEntry n) =
    let bs = blocks_of program.procedures in
    let x = procedures_most h.table program (ProcedureEntry n) n (entry_each n) program.procedures h.procedures in
    let y = no_routine (ProcedureEntry n) (λ b i. refl) program bs in
    let a = symbols_append (ProcedureEntry n) (routines_among program bs) (procedure_symbols program.procedures) in
    let m = at_most _ _ h.numbers n in
    omega (arith, x, y, a, m)
program_once program h (ReturnPlace n) =
    let bs = blocks_of program.procedures in
    let x = procedures_most h.table program (ReturnPlace n) n (end_each n) program.procedures h.procedures in
    let y = no_routine (ReturnPlace n) (λ b i. refl) program bs in
    let a = symbols_append (ReturnPlace n) (routines_among program bs) (procedure_symbols program.procedures) in
    let m = at_most _ _ h.numbers n in
    omega (arith, x, y, a, m)
program_once program h (LabelPlace n l) =
    let bs = blocks_of program.procedures in
    let x = procedures_most h.table program (LabelPlace n l) n (label_each n l) program.procedures h.procedures in
    let y = no_routine (LabelPlace n l) (λ b i. refl) program bs in
    let a = symbols_append (LabelPlace n l) (routines_among program bs) (procedure_symbols program.procedures) in
    let m = at_most _ _ h.numbers n in
    omega (arith, x, y, a, m)
program_once program h (ExtentRoutine n i) =
    let bs = blocks_of program.procedures in
    let s = ExtentRoutine n i in
    let x = none_each s (record { label = λ b l. refl; end = λ b. refl }) (λ b. refl) program.procedures in
    let y = routines_most n i program bs in
    let z = all_places h.table program n program.procedures h.procedures in
    let a = symbols_append s (routines_among program bs) (procedure_symbols program.procedures) in
    let m = at_most _ _ h.numbers n in
    omega (arith, x, y, z, a, m)
program_once program h RaiseCondition =
    let z = others_none program RaiseCondition (record { label = λ b l. refl; end = λ b. refl }) (λ b. refl)
    (λ b i. refl) in
    omega (arith, z)
program_once program h RaiseError =
    let z = others_none program RaiseError (record { label = λ b l. refl; end = λ b. refl }) (λ b. refl)
    (λ b i. refl) in
    omega (arith, z)
program_once program h ErrorEnd =
    let z = others_none program ErrorEnd (record { label = λ b l. refl; end = λ b. refl }) (λ b. refl) (λ b i. refl) in
    omega (arith, z)
program_once program h (DataPlace d) =
    let z = others_none program (DataPlace d) (record { label = λ b l. refl; end = λ b. refl }) (λ b. refl)
    (λ b i. refl) in
    omega (arith, z)

pub marked_once : MarkedOnce
marked_once parts program h s =
    subst (λ ss. symbol_times s ss ≤ 1) (sym (programs_mark parts program)) (program_once program h s)
