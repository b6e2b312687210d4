-- Statements, blocks and whole runs are the same with more turns and levels, where these are enough for the acts that
-- are allowed.
use Rattle.std.proofs.Common.{◌≡◌, ℕ, zero, suc, ◌+◌, ◌<◌, ◌≤◌, ℤ, List, [], ◌∷◌, Option, Some, None, Bool, true, false}
use Rattle.std.proofs.Common.{refl, arith}
use Rattle.pli_language.specs.declared.condition.Condition.{Condition}
use Rattle.pli_language.specs.declared.condition.Condition.TheVariants as C
use Rattle.pli_meaning.specs.declared.outcome.End.TheVariants as E
use Rattle.pli_meaning.specs.declared.outcome.Limit.TheVariants as L
use Rattle.pli_meaning.specs.World.{counted, raising}
use Rattle.pli_typing.specs.TypedTree as Y
use Rattle.pli_meaning.specs.BasicValues.{BasicValue}
use Rattle.pli_meaning.specs.StorageState.{Activation, force}
use Rattle.pli_meaning.specs.Codes.{no_value_code}
use Rattle.pli_meaning.specs.Control.{Label, Meaning}
use Rattle.pli_meaning.specs.Raising as G
use Rattle.pli_meaning.specs.Raising.{Around, Enter, at_line, Entry, Passed, PassedName, PassedValue}
use Rattle.pli_meaning.specs.Evaluating as V
use Rattle.pli_meaning.specs.Making as K
use Rattle.pli_meaning.specs.Executing as M
use Rattle.pli_meaning.specs.StorageState.{first_state}
use Rattle.storage_runs.specs.Fuel.{FuelEnough}
use Rattle.storage_runs.proofs.FuelSteps.{Same, loose, slow, give_same, stuck_same, bind_same, then_same, looked_same}
use Rattle.storage_runs.proofs.FuelSteps.{stored_same, act_same, act_made, act_then, finish_same, returns_same}
use Rattle.storage_runs.proofs.FuelSteps.{jumps_same, choose_same, given_same, leaving_same, while_same, list_same}
use Rattle.storage_runs.proofs.FuelParts.{Ways, fewer, more, on_line, smaller, SameAround}
use Rattle.storage_runs.proofs.FuelParts.{aggregate_assigned_same, parameters_bound_sames}
use Rattle.storage_runs.proofs.FuelParts.{elements_stored_same, error_unit_run_same, element_stored_same}
use Rattle.storage_runs.proofs.FuelParts.{variable_made_same, computational_same, area_assigned_same}
use Rattle.storage_runs.proofs.FuelParts.{stored_value_same, area_emptied_same, evaluations_sames}
use Rattle.storage_runs.proofs.FuelParts.{allocations_sames, designated_same, freeings_sames, value_of_same}
use Rattle.storage_runs.proofs.FuelParts.{or_error_same, called_same, number_same, raised_same, error_same}
use Rattle.storage_runs.proofs.FuelParts.{bit_same, put_same, get_same}

-- ---- statements

assigned_same : (r : Y.Reference) (v : BasicValue) → SameAround (λ a. M.assigned a r v)
unfolding M.assigned
assigned_same r v h = bind_same (designated_same r h) (λ d. element_stored_same d v)

elements_assigned_same : (r : Y.Reference) (v : BasicValue) → SameAround (λ a. M.elements_assigned a r v)
unfolding M.elements_assigned
elements_assigned_same r v h = bind_same (designated_same r h) (λ d. elements_stored_same d _)

counter_number_same : (c : Y.Counter) → SameAround (λ a. M.counter_number a c)
unfolding M.counter_number
counter_number_same (Y.NumberCounter precision r) h = bind_same (designated_same r h) (λ d. give_same _)
counter_number_same (Y.TextCounter r) h = bind_same (designated_same r h) (λ d. or_error_same _ _ h)

counter_value_same : (c : Y.Counter) (z : ℤ) → SameAround (λ a. M.counter_value a c z)
unfolding M.counter_value
counter_value_same (Y.NumberCounter precision r) z h = bind_same (value_of_same _ h) (λ y. give_same _)
counter_value_same (Y.TextCounter r) z h = give_same _

counter_started_same : (c : Y.Counter) (v : V.Computational) → SameAround (λ a. M.counter_started a c v)
unfolding M.counter_started
counter_started_same (Y.NumberCounter precision r) v h =
    bind_same (or_error_same _ _ h) (λ z. counter_value_same (Y.NumberCounter precision r) z h)
counter_started_same (Y.TextCounter r) v h = give_same _

stepped_same : (c : Y.Counter) (step : ℤ) → SameAround (λ a. M.stepped a c step)
unfolding M.stepped
stepped_same c step h =
    bind_same (counter_number_same c h) (λ z. bind_same (value_of_same _ h) (λ next. bind_same
    (counter_value_same c next h) (λ v. assigned_same _ v h)))

limit_of_same : (limit : Option Y.Number) → SameAround (λ a. M.limit_of a limit)
unfolding M.limit_of
limit_of_same None h = give_same None
limit_of_same (Some e) h = bind_same (number_same e h) (λ z. give_same _)

within_limit_same : (c : Y.Counter) (limit : Option ℤ) (step : ℤ) → SameAround (λ a. M.within_limit a c limit step)
unfolding M.within_limit
within_limit_same c None step h = give_same true
within_limit_same c (Some limit) step h = bind_same (counter_number_same c h) (λ z. give_same _)

condition_met_same : (condition : Option Y.Bit) → SameAround (λ a. M.condition_met a condition)
unfolding M.condition_met
condition_met_same None h = give_same true
condition_met_same (Some e) h = bit_same e h

turn_due_same : (c : Y.Counter) (limit : Option ℤ) (step : ℤ) (condition : Option Y.Bit) (w : Ways)
    → Same 1 1 w.left (M.turn_due (fewer w) c limit step condition) (M.turn_due (more w) c limit step condition)
unfolding M.turn_due
turn_due_same c limit step condition h =
    act_then counted (λ w. refl) (λ n e. loose (let k = smaller h n (omega (arith, e)) in
    bind_same (within_limit_same c limit step k) (λ within. choose_same within
    (condition_met_same condition k) (give_same false))))

met_after_act_same : (e : Y.Bit) (w : Ways)
    → Same 1 1 w.left (M.met_after_act (fewer w) e) (M.met_after_act (more w) e)
unfolding M.met_after_act
met_after_act_same x h = act_then counted (λ w. refl) (λ n e. loose (bit_same x (smaller h n (omega (arith, e)))))

once_same : (condition : Option Y.Bit) {body body' : Meaning (Unit {0})} (w : Ways)
    → Same 0 1 w.left body body'
    → Same 0 1 w.left (M.once (fewer w) condition body) (M.once (more w) condition body')
unfolding M.once
once_same None h a = a
once_same (Some e) h a = then_same (act_same counted (λ w. refl)) (bind_same (bit_same e h)
    (λ met. choose_same met a (give_same tt)))

established_by_same : {few : ℕ} (c : Condition) (change : List Activation → List Activation)
    → Same 1 1 few (M.established_by c change) (M.established_by c change)
unfolding M.established_by
established_by_same c change = act_then counted (λ w. refl) (λ n e. stored_same _)

signalled_same : (c : Condition) → SameAround (λ a. M.signalled a c)
unfolding M.signalled
signalled_same C.Area h = raised_same C.Area _ h
signalled_same C.FixedOverflow h = raised_same C.FixedOverflow _ h
signalled_same C.ZeroDivide h = raised_same C.ZeroDivide _ h
signalled_same C.Endfile h = raised_same C.Endfile _ h
signalled_same C.Error h = error_same _ h

-- ---- a block's own statements, which enter other blocks only behind an act

-- what stands around them: blocks are the same where fewer acts are left
record Level : Type 0 where
  program : Y.Program
  line : ℕ
  enter : Enter
  enter' : Enter
  turns : ℕ
  turns' : ℕ
  left : ℕ
  later : (c : ℕ) → c < left → (entry : Entry) → Same 0 1 c (enter entry) (enter' entry)
  few : left < turns
  enough : left < turns'

abbrev fewer_at : Level → Around
fewer_at l = record { program = l.program; enter = l.enter; turns = l.turns; line = l.line }

abbrev more_at : Level → Around
more_at l = record { program = l.program; enter = l.enter'; turns = l.turns'; line = l.line }

abbrev lower : (l : Level) (c : ℕ) → c ≤ l.left → Level
lower l c r =
    record {
      program = l.program;
      line = l.line;
      enter = l.enter;
      enter' = l.enter';
      turns = l.turns;
      turns' = l.turns';
      left = c;
      later = λ d q. l.later d (omega (arith, q, r));
      few = omega (arith, r, l.few);
      enough = omega (arith, r, l.enough);
    }

-- behind an act
abbrev within : (l : Level) (c : ℕ) → suc c ≡ l.left → Ways
within l c e =
    record {
      program = l.program;
      line = l.line;
      enter = l.enter;
      enter' = l.enter';
      turns = l.turns;
      turns' = l.turns';
      left = c;
      keeps = l.later c (omega (arith, e));
      few = omega (arith, e, l.few);
      enough = omega (arith, e, l.enough);
    }

abbrev below : (l : Level) (c : ℕ) → suc c ≡ l.left → Level
below l c e = lower l c (omega (arith, e))

abbrev at : ℕ → Level → Level
at line l =
    record {
      program = l.program;
      line = line;
      enter = l.enter;
      enter' = l.enter';
      turns = l.turns;
      turns' = l.turns';
      left = l.left;
      later = l.later;
      few = l.few;
      enough = l.enough;
    }

list_with_same : (labels : List Label) {part part' : Option Label → Meaning (Unit {0})} (l : Level)
    → ((x : Option Label) (c : ℕ) → c ≤ l.left → Same 0 1 c (part x) (part' x))
    → Same 0 1 l.left (M.list_with (fewer_at l) labels part) (M.list_with (more_at l) labels part')
unfolding M.list_with
list_with_same labels l a = bind_same looked_same
    (λ s. list_same l.turns l.turns' l.left _ labels None l.few l.enough a)

mutual
  unfolding M.statement M.statements

  statement_same : (x : Y.Stmt) (l : Level)
      → Same 1 1 l.left (M.statement (fewer_at l) x) (M.statement (more_at l) x)
  statement_same (Y.Null line) h = act_made counted (λ w. refl)
  statement_same (Y.Assign target source line) h =
      act_then counted (λ w. refl) (λ c e. loose (bind_same (stored_value_same source (on_line line
      (within h c e))) (λ v. assigned_same target v (on_line line (within h c e)))))
  statement_same (Y.AssignElements target source line) h =
      act_then counted (λ w. refl) (λ c e. loose (bind_same (stored_value_same source (on_line line
      (within h c e))) (λ v. elements_assigned_same target v (on_line line (within h c e)))))
  statement_same (Y.AssignAggregate target source line) h = act_then counted (λ w. refl)
      (λ c e. loose (aggregate_assigned_same target source (on_line line (within h c e))))
  statement_same (Y.AssignArea target source line) h = act_then counted (λ w. refl)
      (λ c e. loose (area_assigned_same target source (on_line line (within h c e))))
  statement_same (Y.EmptyArea target line) h = act_then counted (λ w. refl) (λ c e. loose
      (area_emptied_same target (on_line line (within h c e))))
  statement_same (Y.If condition unit line) h =
      act_then counted (λ w. refl) (λ c e. loose (bind_same (bit_same condition (on_line line (within h c e)))
      (λ met. choose_same met (slow (statement_same unit (below h c e))) (give_same tt))))
  statement_same (Y.IfElse condition unit otherwise line) h =
      act_then counted (λ w. refl) (λ c e. loose (bind_same (bit_same condition (on_line line (within h c e)))
      (λ met. choose_same met (slow (statement_same unit (below h c e))) (slow (statement_same otherwise
      (below h c e))))))
  statement_same (Y.Do body line) h =
      act_then counted (λ w. refl) (λ c e. loose (let k = below h c e in
      list_with_same _ k (λ x d r. statements_sames body x (lower k d r))))
  statement_same (Y.DoWhile condition body line) h =
      act_then counted (λ w. refl) (λ c e. loose (let k = below h c e in
      while_same k.turns k.turns' c k.few k.enough
      (λ d r. met_after_act_same condition (on_line line (smaller (within h c e) d r)))
      (λ d r. list_with_same _ (lower k d r) (λ x f q. statements_sames body x (lower (lower k d r) f q)))))
  statement_same (Y.DoOnce variable start condition body line) h =
      act_then counted (λ w. refl) (λ c e. loose (let k = below h c e in let w = on_line line (within h c e) in
      bind_same (stored_value_same start w) (λ v. then_same (assigned_same variable v w)
      (once_same condition w (list_with_same _ k (λ x d r. statements_sames body x (lower k d r)))))))
  statement_same (Y.DoCount counter start limit step condition body line) h =
      act_then counted (λ w. refl) (λ c e. loose (let k = below h c e in let w = on_line line (within h c e) in
      bind_same (computational_same start w) (λ v.
      bind_same (limit_of_same limit w) (λ most. bind_same (number_same step w) (λ by.
      bind_same (counter_started_same counter v w) (λ first.
      then_same (assigned_same _ first w) (while_same k.turns k.turns' c k.few k.enough
      (λ d r. turn_due_same counter most by condition (smaller w d r))
      (λ d r. then_same (list_with_same _ (lower k d r) (λ x f q. statements_sames body x (lower
      (lower k d r) f q)))
      (stepped_same counter by (smaller w d r))))))))))
  statement_same (Y.Begin (Y.BlockOf head body)) h =
      act_then counted (λ w. refl) (λ c e. loose
      (bind_same looked_same (λ s. then_same ((within h c e).keeps _) (give_same tt))))
  statement_same (Y.OnSystem c line) h = established_by_same c _
  statement_same (Y.OnUnit c unit line) h = established_by_same c _
  statement_same (Y.CallProcedure call line) h = act_then counted (λ w. refl) (λ c e. loose (then_same
      (called_same call (on_line line (within h c e))) (give_same tt)))
  statement_same (Y.Return line) h = act_then counted (λ w. refl) (λ c e. returns_same None)
  statement_same (Y.ReturnValue type source line) h =
      act_then counted (λ w. refl) (λ c e. loose (bind_same (stored_value_same source (on_line line
      (within h c e))) (λ v. returns_same _)))
  statement_same (Y.Goto level label line) h =
      act_then counted (λ w. refl) (λ c e. bind_same looked_same (λ s. jumps_same _ label))
  statement_same (Y.Stop line) h = act_then counted (λ w. refl) (λ c e. finish_same E.Stopped)
  statement_same (Y.Signal condition line) h =
      act_then counted (λ w. refl) (λ c e. loose (signalled_same condition (on_line line (within h c e))))
  statement_same (Y.Revert c line) h = established_by_same c _
  statement_same (Y.Allocate all line) h = act_then counted (λ w. refl) (λ c e. loose
      (allocations_sames all (on_line line (within h c e))))
  statement_same (Y.Free all line) h = act_then counted (λ w. refl) (λ c e. loose (freeings_sames all
      (on_line line (within h c e))))
  statement_same (Y.Get skip pairs line) h = act_then counted (λ w. refl) (λ c e. loose
      (get_same skip pairs (on_line line (within h c e))))
  statement_same (Y.Put skip pairs line) h = act_then counted (λ w. refl) (λ c e. loose
      (put_same skip pairs (on_line line (within h c e))))

  statements_sames : (xs : Y.Stmts) (from : Option Label) (l : Level)
      → Same 0 1 l.left (M.statements (fewer_at l) xs from) (M.statements (more_at l) xs from)
  statements_sames (Y.EndOfList labels) from h = give_same tt
  statements_sames (Y.StmtThen labels first rest) from h =
      choose_same _ (then_same (slow (statement_same first h)) (statements_sames rest None h))
      (statements_sames rest from h)

statement_list_same : (xs : Y.Stmts) (l : Level) → Same 0 1 l.left (M.list (fewer_at l) xs) (M.list (more_at l) xs)
unfolding M.list
statement_list_same xs l = list_with_same _ l (λ x c r. statements_sames xs x (lower l c r))

-- ---- blocks

extents_begun : (xs : List Y.Evaluation) (l : Level)
    → Same 0 1 l.left (K.extents (fewer_at l) xs) (K.extents (more_at l) xs)
unfolding K.extents
extents_begun [] l = give_same []
extents_begun (x ∷ xs) l = slow (act_then counted (λ w. refl) (λ c e. loose (evaluations_sames [] (x ∷ xs)
    (within l c e))))

automatic_begun : (variable : ℕ) (d : Y.DeclaredVariable) (class : Y.StorageClass) (l : Level)
    → Same 0 1 l.left (K.automatic_made (fewer_at l) variable d class) (K.automatic_made
    (more_at l) variable d class)
unfolding K.automatic_made
automatic_begun variable d Y.AutomaticClass l = bind_same (extents_begun d.evaluations l)
    (λ values. variable_made_same variable _)
automatic_begun variable d Y.ParameterClass l = give_same tt
automatic_begun variable d Y.StaticClass l = give_same tt
automatic_begun variable d Y.BasedClass l = give_same tt
automatic_begun variable d Y.ControlledClass l = give_same tt

variables_begun : (variable : ℕ) (ds : List Y.DeclaredVariable) (l : Level)
    → Same 0 1 l.left (K.variables_made (fewer_at l) variable ds) (K.variables_made (more_at l) variable ds)
unfolding K.variables_made
variables_begun variable [] l = give_same tt
variables_begun variable (d ∷ ds) l = then_same (automatic_begun variable d d.class l) (variables_begun
    (variable + 1) ds l)

block_variables_begun : (head : Y.BlockHead) (kind : Y.BlockKind) (l : Level)
    → Same 0 1 l.left (M.block_variables_made (fewer_at l) head kind) (M.block_variables_made (more_at l) head kind)
unfolding M.block_variables_made
block_variables_begun head Y.ProcedureBlock l = variables_begun 0 _ l
block_variables_begun head Y.BeginBlock l = variables_begun 0 _ l
block_variables_begun head Y.UnitBlock l = variables_begun 0 _ l
block_variables_begun head Y.SimpleUnit l = give_same tt

entry_act_same : {few : ℕ} (kind : Y.BlockKind) → Same 0 1 few (M.entry_act kind) (M.entry_act kind)
unfolding M.entry_act
entry_act_same Y.ProcedureBlock = act_same counted (λ w. refl)
entry_act_same Y.BeginBlock = give_same tt
entry_act_same Y.UnitBlock = act_same counted (λ w. refl)
entry_act_same Y.SimpleUnit = act_same counted (λ w. refl)

-- ERROR is an act, before its unit is entered
end_error_same : (l : Level)
    → Same 0 1 l.left (G.error {R = Unit {0}} (fewer_at l) no_value_code) (G.error {R = Unit {0}} (more_at l)
    no_value_code)
unfolding G.error
end_error_same l =
    slow (act_then (raising C.Error _) (λ w. refl) (λ c e. loose
    (bind_same looked_same (λ s. error_unit_run_same _ (force s.activations C.Error) (within l c e)))))

block_list_same : (xs : Y.Stmts) (is_function : Bool) (l : Level)
    → Same 0 1 l.left (M.block_list (fewer_at l) xs is_function) (M.block_list (more_at l) xs is_function)
unfolding M.block_list
block_list_same xs false l = statement_list_same xs l
block_list_same xs true l =
    list_with_same _ l (λ x c r. then_same (statements_sames xs x (lower l c r)) (end_error_same (lower l c r)))

block_body_same : (head : Y.BlockHead) (body : Y.Stmts) (entry : Entry) (l : Level)
    → Same 0 1 l.left (M.block_body (fewer_at l) head body entry) (M.block_body (more_at l) head body entry)
unfolding M.block_body
block_body_same head body entry l =
    then_same (parameters_bound_sames entry.parameters entry.arguments) (then_same
    (block_variables_begun head head.kind l)
    (then_same (entry_act_same head.kind) (block_list_same body entry.is_function l)))

block_run_same : (b : Y.Block) (entry : Entry) (l : Level)
    → Same 0 1 l.left (M.block_run (fewer_at l) b entry) (M.block_run (more_at l) b entry)
unfolding M.block_run
block_run_same (Y.BlockOf head body) entry l =
    bind_same looked_same (λ s. choose_same _
    (then_same (stored_same _) (leaving_same _ (block_body_same head body entry (at head.line l))))
    (finish_same (E.Limit L.Depth)))

-- ---- the whole

-- more levels than acts are enough
entered_same : (p : Y.Program) (n n' left : ℕ) → left < n → left < n' → (entry : Entry)
    → Same 0 1 left (M.entered p n entry) (M.entered p n' entry)
unfolding M.entered
entered_same p zero n' left few enough entry = absurd (omega (arith, few))
entered_same p (suc n) zero left few enough entry = absurd (omega (arith, enough))
entered_same p (suc n) (suc n') left few enough entry =
    block_run_same entry.block entry
    (record {
      program = p;
      line = 0;
      enter = M.entered p n;
      enter' = M.entered p n';
      turns = suc n;
      turns' = suc n';
      left = left;
      later = λ c r. entered_same p n n' c (omega (arith, r, few)) (omega (arith, r, enough));
      few = few;
      enough = enough;
    })

pub run_same : (p : Y.Program) (n n' left : ℕ) → left < n → left < n' → Same 0 1 left (M.run p n) (M.run p n')
unfolding M.run
run_same p n n' left few enough =
    given_same _
    (λ main. then_same (stored_same _) (then_same (entered_same p n n' left few enough
    (M.begun main.block 0)) (finish_same E.Finished)))
    stuck_same

pub fuel_enough : FuelEnough
fuel_enough program input k n r =
    (run_same program n (suc k) k (omega (arith, r)) (omega arith)).same k (first_state input) (omega arith)
    (omega arith)
