-- Streams, statements, blocks and whole runs keep an invariant of states, walked over the language.
use Rattle.std.proofs.Common.{ℕ, zero, suc, ℤ, List, [], ◌∷◌, Option, Some, None, Bool, true}
use Rattle.std.proofs.Common.{false}
use Rattle.pli_language.specs.declared.condition.Condition.{Condition}
use Rattle.pli_language.specs.declared.condition.Condition.TheVariants as C
use Rattle.pli_meaning.specs.declared.outcome.End.TheVariants as E
use Rattle.pli_meaning.specs.declared.outcome.Limit.TheVariants as L
use Rattle.pli_meaning.specs.World.{counted}
use Rattle.pli_typing.specs.Signatures as D
use Rattle.pli_typing.specs.Signatures.{LeafKind}
use Rattle.pli_typing.specs.TypedTree as Y
use Rattle.pli_meaning.specs.BasicValues.{BasicValue}
use Rattle.pli_meaning.specs.StorageState.{State, SystemUnit, BlockUnit, Activation}
use Rattle.pli_meaning.specs.StorageState.{with_activations}
use Rattle.pli_meaning.specs.Control.{Label, Meaning}
use Rattle.pli_meaning.specs.Raising.{Entry}
use Rattle.pli_meaning.specs.Evaluating as V
use Rattle.pli_meaning.specs.StreamOrder.{Element}
use Rattle.pli_meaning.specs.Streaming as S
use Rattle.pli_meaning.specs.Executing as M
use Rattle.storage_runs.specs.Invariants.{Invariant}
use Rattle.storage_runs.proofs.Steps.{Keeps, give_keeps}
use Rattle.storage_runs.proofs.Steps.{stuck_keeps}
use Rattle.storage_runs.proofs.Steps.{bind_keeps, then_keeps, looked_keeps}
use Rattle.storage_runs.proofs.Steps.{stored_keeps}
use Rattle.storage_runs.proofs.Steps.{act_keeps, finish_keeps, returns_keeps, jumps_keeps}
use Rattle.storage_runs.proofs.Steps.{choose_keeps, given_keeps, leaving_keeps}
use Rattle.storage_runs.proofs.Steps.{while_keeps, list_keeps}
use Rattle.storage_runs.proofs.StoredParts.{Ways, on_line, KeepsAround, aggregate_assigned_keeps}
use Rattle.storage_runs.proofs.StoredParts.{elements_stored_keeps, parameters_bound_keep, element_stored_keeps}
use Rattle.storage_runs.proofs.StoredParts.{area_assigned_keeps, variables_made_keep, stored_value_keeps}
use Rattle.storage_runs.proofs.StoredParts.{area_emptied_keeps, designated_keeps, allocations_keep}
use Rattle.storage_runs.proofs.StoredParts.{value_of_keeps, or_error_keeps, demanded_keeps, freeings_keep}
use Rattle.storage_runs.proofs.StoredParts.{raised_keeps, number_keeps, called_keeps, error_keeps, text_keeps}
use Rattle.storage_runs.proofs.StoredParts.{bit_keeps}

module _ {P : State → Type 0} (i : Invariant P) where
  -- ---- streams

  control_put_keeps : (c : S.ControlItem) → Keeps P (S.control_put c)
  unfolding S.control_put
  control_put_keeps c = act_keeps i _

  control_got_keeps : (c : S.ControlItem) → Keeps P (S.control_got c)
  unfolding S.control_got
  control_got_keeps c = then_keeps i (act_keeps i counted) (stored_keeps i _ (i.read _))

  controls_keep : (carried_out : S.ControlItem → Meaning (Unit {0})) (xs : List S.FormatItem)
      → ((c : S.ControlItem) → Keeps P (carried_out c)) → Keeps P (S.controls carried_out xs)
  unfolding S.controls
  controls_keep carried_out [] a = give_keeps i None
  controls_keep carried_out (S.DataFormat f ∷ xs) a = give_keeps i _
  controls_keep carried_out (S.ControlFormat c ∷ xs) a = then_keeps i (a c) (controls_keep carried_out xs a)

  next_item_keeps : (carried_out : S.ControlItem → Meaning (Unit {0})) (whole rest : List S.FormatItem)
      → ((c : S.ControlItem) → Keeps P (carried_out c)) → Keeps P (S.next_item carried_out whole rest)
  unfolding S.next_item
  next_item_keeps carried_out whole rest a =
      bind_keeps i (controls_keep carried_out rest a) (λ found. given_keeps i found (λ x. give_keeps i x)
      (bind_keeps i (controls_keep carried_out whole a) (λ again. given_keeps i again
      (λ x. give_keeps i x) (stuck_keeps i))))

  shown_by_keeps : (v : V.Computational) (f : S.DataItem) → KeepsAround P (λ a. S.shown_by a v f)
  unfolding S.shown_by
  shown_by_keeps v (S.FixedItem width) h =
      bind_keeps i (or_error_keeps i _ _ h) (λ z. bind_keeps i (or_error_keeps i _ _ h) (λ field. act_keeps i _))
  shown_by_keeps v (S.TextItem None) h = act_keeps i _
  shown_by_keeps v (S.TextItem (Some width)) h = act_keeps i _

  computational_keeps : (x : Y.Value) → KeepsAround P (λ a. V.computational a x)
  unfolding V.computational
  computational_keeps (Y.NumberValue precision e) h = bind_keeps i (number_keeps i e h) (λ z. give_keeps i _)
  computational_keeps (Y.TextValue e) h = bind_keeps i (text_keeps i e h) (λ t. give_keeps i _)
  computational_keeps (Y.BitValue e) h = bind_keeps i (bit_keeps i e h) (λ b. give_keeps i _)
  computational_keeps (Y.PointerValue e) h = stuck_keeps i
  computational_keeps (Y.OffsetValue area e) h = stuck_keeps i
  computational_keeps Y.NullValue h = stuck_keeps i

  element_designated_keeps : (d : V.Designated) (x : Element) → KeepsAround P (λ a. S.element_designated a d x)
  unfolding S.element_designated
  element_designated_keeps d x h =
      bind_keeps i (looked_keeps i) (λ s. bind_keeps i (or_error_keeps i _ _ h) (λ g. then_keeps i
      (demanded_keeps i _ _ h) (give_keeps i _)))

  element_put_keeps : (whole rest : List S.FormatItem) (d : V.Designated)
      → KeepsAround P (λ a. S.element_put a whole rest d)
  unfolding S.element_put
  element_put_keeps whole rest d h =
      given_keeps i _ (λ v. bind_keeps i (next_item_keeps S.control_put whole rest control_put_keeps)
      (λ next. then_keeps i (shown_by_keeps v next.0 h) (give_keeps i next.1))) (stuck_keeps i)

  elements_put_keep : (whole rest : List S.FormatItem) (d : V.Designated) (xs : List Element)
      → KeepsAround P (λ a. S.elements_put a whole rest d xs)
  unfolding S.elements_put
  elements_put_keep whole rest d [] h = give_keeps i rest
  elements_put_keep whole rest d (x ∷ xs) h =
      bind_keeps i (element_designated_keeps d x h) (λ now. bind_keeps i (element_put_keeps whole rest now h)
      (λ rest'. elements_put_keep whole rest' d xs h))

  item_put_keeps : (whole rest : List S.FormatItem) (x : Y.PutItem) → KeepsAround P (λ a. S.item_put a whole rest x)
  unfolding S.item_put
  item_put_keeps whole rest (Y.PutValue e) h =
      bind_keeps i (computational_keeps e h) (λ v. bind_keeps i
      (next_item_keeps S.control_put whole rest control_put_keeps) (λ next. then_keeps i
      (shown_by_keeps v next.0 h) (give_keeps i next.1)))
  item_put_keeps whole rest (Y.PutAggregate (Y.Referring v locator part subscripts)) h =
      bind_keeps i (designated_keeps i (Y.Referring v locator part subscripts) h)
      (λ d. elements_put_keep whole rest d _ h)

  items_put_keep : (whole rest : List S.FormatItem) (xs : List Y.PutItem)
      → KeepsAround P (λ a. S.items_put a whole rest xs)
  unfolding S.items_put
  items_put_keep whole rest [] h = give_keeps i tt
  items_put_keep whole rest (x ∷ xs) h = bind_keeps i (item_put_keeps whole rest x h)
      (λ rest'. items_put_keep whole rest' xs h)

  pairs_put_keep : (xs : List Y.PutPair) → KeepsAround P (λ a. S.pairs_put a xs)
  unfolding S.pairs_put
  pairs_put_keep [] h = give_keeps i tt
  pairs_put_keep (x ∷ xs) h = then_keeps i (items_put_keep (S.format_items x.formats)
      (S.format_items x.formats) x.items h) (pairs_put_keep xs h)

  put_keeps : (skip : Option ℕ) (xs : List Y.PutPair) → KeepsAround P (λ a. S.put a skip xs)
  unfolding S.put
  put_keeps None xs h = pairs_put_keep xs h
  put_keeps (Some n) xs h = then_keeps i (control_put_keeps (S.SkipItem n)) (pairs_put_keep xs h)

  field_taken_keeps : (width : ℕ) → KeepsAround P (λ a. S.field_taken a width)
  unfolding S.field_taken
  field_taken_keeps width h =
      bind_keeps i (looked_keeps i) (λ s. choose_keeps i _ (then_keeps i (act_keeps i counted)
      (then_keeps i (stored_keeps i _ (i.read _)) (give_keeps i _))) (then_keeps i
      (raised_keeps i C.Endfile _ h) (give_keeps i None)))

  number_got_keeps : (t : Option (List ℕ)) → KeepsAround P (λ a. S.number_got a t)
  unfolding S.number_got
  number_got_keeps None h = give_keeps i None
  number_got_keeps (Some t) h = bind_keeps i (or_error_keeps i _ _ h) (λ z. give_keeps i _)

  field_got_keeps : (f : S.DataItem) → KeepsAround P (λ a. S.field_got a f)
  unfolding S.field_got
  field_got_keeps (S.FixedItem width) h = bind_keeps i (field_taken_keeps width h) (λ t. number_got_keeps t h)
  field_got_keeps (S.TextItem (Some width)) h = bind_keeps i (field_taken_keeps width h) (λ t. give_keeps i _)
  field_got_keeps (S.TextItem None) h = stuck_keeps i

  number_kept_keeps : (precision : ℕ) (z : ℤ) → KeepsAround P (λ a. S.number_kept a precision z)
  unfolding S.number_kept
  number_kept_keeps precision z h = bind_keeps i (value_of_keeps i _ h) (λ y. give_keeps i _)

  field_converted_keeps : (kind : LeafKind) (f : S.Field) → KeepsAround P (λ a. S.field_converted a kind f)
  unfolding S.field_converted
  field_converted_keeps (D.Fixed p) (S.NumberField z) h = number_kept_keeps p z h
  field_converted_keeps (D.Fixed p) (S.TextField t) h = bind_keeps i (or_error_keeps i _ _ h)
      (λ z. number_kept_keeps p z h)
  field_converted_keeps (D.Character n) (S.NumberField z) h = give_keeps i _
  field_converted_keeps (D.Character n) (S.TextField t) h = give_keeps i _
  field_converted_keeps (D.Varying n) (S.NumberField z) h = give_keeps i _
  field_converted_keeps (D.Varying n) (S.TextField t) h = give_keeps i _
  field_converted_keeps D.Bit (S.NumberField z) h = stuck_keeps i
  field_converted_keeps D.Bit (S.TextField t) h = bind_keeps i (or_error_keeps i _ _ h) (λ b. give_keeps i _)
  field_converted_keeps D.Pointer f h = stuck_keeps i
  field_converted_keeps D.Offset f h = stuck_keeps i
  field_converted_keeps (D.Area n) f h = stuck_keeps i

  scalar_got_keeps : (r : Y.Reference) (f : S.Field) → KeepsAround P (λ a. S.scalar_got a r f)
  unfolding S.scalar_got
  scalar_got_keeps (Y.Referring v locator part subscripts) f h =
      given_keeps i _ (λ t. bind_keeps i (field_converted_keeps _ f h) (λ y. bind_keeps i
      (designated_keeps i (Y.Referring v locator part subscripts) h) (λ d. element_stored_keeps i d y)))
      (stuck_keeps i)

  scalar_if_got_keeps : (r : Y.Reference) (rest : List S.FormatItem) (f : Option S.Field)
      → KeepsAround P (λ a. S.scalar_if_got a r rest f)
  unfolding S.scalar_if_got
  scalar_if_got_keeps r rest None h = give_keeps i None
  scalar_if_got_keeps r rest (Some f) h = then_keeps i (scalar_got_keeps r f h) (give_keeps i _)

  element_if_got_keeps : (d : V.Designated) (x : Element) (rest : List S.FormatItem)
      (f : Option S.Field) → KeepsAround P (λ a. S.element_if_got a d x rest f)
  unfolding S.element_if_got
  element_if_got_keeps d x rest None h = give_keeps i None
  element_if_got_keeps d x rest (Some f) h =
      bind_keeps i (field_converted_keeps _ f h) (λ v. bind_keeps i (element_designated_keeps d x h)
      (λ now. then_keeps i (element_stored_keeps i now v) (give_keeps i _)))

  elements_got_keep : (whole rest : List S.FormatItem) (d : V.Designated) (xs : List Element)
      → KeepsAround P (λ a. S.elements_got a whole rest d xs)
  unfolding S.elements_got
  elements_got_keep whole rest d [] h = give_keeps i _
  elements_got_keep whole rest d (x ∷ xs) h =
      bind_keeps i (next_item_keeps S.control_got whole rest control_got_keeps) (λ next. bind_keeps i
      (field_got_keeps next.0 h) (λ f.
      bind_keeps i (element_if_got_keeps d x next.1 f h) (λ rest'. given_keeps i rest'
      (λ r. elements_got_keep whole r d xs h) (give_keeps i None))))

  item_got_keeps : (whole rest : List S.FormatItem) (x : Y.GetItem) → KeepsAround P (λ a. S.item_got a whole rest x)
  unfolding S.item_got
  item_got_keeps whole rest (Y.GetScalar r) h =
      bind_keeps i (next_item_keeps S.control_got whole rest control_got_keeps) (λ next. bind_keeps i
      (field_got_keeps next.0 h) (λ f. scalar_if_got_keeps r next.1 f h))
  item_got_keeps whole rest (Y.GetAggregate (Y.Referring v locator part subscripts)) h =
      bind_keeps i (designated_keeps i (Y.Referring v locator part subscripts) h)
      (λ d. elements_got_keep whole rest d _ h)

  items_got_keep : (whole rest : List S.FormatItem) (xs : List Y.GetItem)
      → KeepsAround P (λ a. S.items_got a whole rest xs)
  unfolding S.items_got
  items_got_keep whole rest [] h = give_keeps i true
  items_got_keep whole rest (x ∷ xs) h =
      bind_keeps i (item_got_keeps whole rest x h) (λ rest'. given_keeps i rest'
      (λ r. items_got_keep whole r xs h) (give_keeps i false))

  pairs_got_keep : (xs : List Y.GetPair) → KeepsAround P (λ a. S.pairs_got a xs)
  unfolding S.pairs_got
  pairs_got_keep [] h = give_keeps i tt
  pairs_got_keep (x ∷ xs) h =
      bind_keeps i (items_got_keep (S.format_items x.formats) (S.format_items x.formats) x.items h)
      (λ lasted. choose_keeps i lasted (pairs_got_keep xs h) (give_keeps i tt))

  get_keeps : (skip : Option ℕ) (xs : List Y.GetPair) → KeepsAround P (λ a. S.get a skip xs)
  unfolding S.get
  get_keeps None xs h = pairs_got_keep xs h
  get_keeps (Some n) xs h = then_keeps i (control_got_keeps (S.SkipItem n)) (pairs_got_keep xs h)

  -- ---- statements

  assigned_keeps : (r : Y.Reference) (v : BasicValue) → KeepsAround P (λ a. M.assigned a r v)
  unfolding M.assigned
  assigned_keeps r v h = bind_keeps i (designated_keeps i r h) (λ d. element_stored_keeps i d v)

  elements_assigned_keeps : (r : Y.Reference) (v : BasicValue) → KeepsAround P (λ a. M.elements_assigned a r v)
  unfolding M.elements_assigned
  elements_assigned_keeps r v h = bind_keeps i (designated_keeps i r h) (λ d. elements_stored_keeps i d _)

  counter_number_keeps : (c : Y.Counter) → KeepsAround P (λ a. M.counter_number a c)
  unfolding M.counter_number
  counter_number_keeps (Y.NumberCounter precision r) h = bind_keeps i (designated_keeps i r h) (λ d. give_keeps i _)
  counter_number_keeps (Y.TextCounter r) h = bind_keeps i (designated_keeps i r h) (λ d. or_error_keeps i _ _ h)

  counter_value_keeps : (c : Y.Counter) (z : ℤ) → KeepsAround P (λ a. M.counter_value a c z)
  unfolding M.counter_value
  counter_value_keeps (Y.NumberCounter precision r) z h = bind_keeps i (value_of_keeps i _ h) (λ y. give_keeps i _)
  counter_value_keeps (Y.TextCounter r) z h = give_keeps i _

  counter_started_keeps : (c : Y.Counter) (v : V.Computational) → KeepsAround P (λ a. M.counter_started a c v)
  unfolding M.counter_started
  counter_started_keeps (Y.NumberCounter precision r) v h =
      bind_keeps i (or_error_keeps i _ _ h) (λ z. counter_value_keeps (Y.NumberCounter precision r) z h)
  counter_started_keeps (Y.TextCounter r) v h = give_keeps i _

  stepped_keeps : (c : Y.Counter) (step : ℤ) → KeepsAround P (λ a. M.stepped a c step)
  unfolding M.stepped
  stepped_keeps c step h =
      bind_keeps i (counter_number_keeps c h) (λ z. bind_keeps i (value_of_keeps i _ h)
      (λ next. bind_keeps i (counter_value_keeps c next h) (λ v. assigned_keeps _ v h)))

  limit_of_keeps : (limit : Option Y.Number) → KeepsAround P (λ a. M.limit_of a limit)
  unfolding M.limit_of
  limit_of_keeps None h = give_keeps i None
  limit_of_keeps (Some e) h = bind_keeps i (number_keeps i e h) (λ z. give_keeps i _)

  within_limit_keeps : (c : Y.Counter) (limit : Option ℤ) (step : ℤ)
      → KeepsAround P (λ a. M.within_limit a c limit step)
  unfolding M.within_limit
  within_limit_keeps c None step h = give_keeps i true
  within_limit_keeps c (Some limit) step h = bind_keeps i (counter_number_keeps c h) (λ z. give_keeps i _)

  condition_met_keeps : (condition : Option Y.Bit) → KeepsAround P (λ a. M.condition_met a condition)
  unfolding M.condition_met
  condition_met_keeps None h = give_keeps i true
  condition_met_keeps (Some e) h = bit_keeps i e h

  turn_due_keeps : (c : Y.Counter) (limit : Option ℤ) (step : ℤ) (condition : Option Y.Bit)
      → KeepsAround P (λ a. M.turn_due a c limit step condition)
  unfolding M.turn_due
  turn_due_keeps c limit step condition h =
      then_keeps i (act_keeps i counted) (bind_keeps i (within_limit_keeps c limit step h)
      (λ within. choose_keeps i within (condition_met_keeps condition h) (give_keeps i false)))

  once_keeps : (condition : Option Y.Bit) {body : Meaning (Unit {0})} (h : Ways P) → Keeps P body
      → Keeps P (M.once h.around condition body)
  unfolding M.once
  once_keeps None h a = a
  once_keeps (Some e) h a = then_keeps i (act_keeps i counted) (bind_keeps i (bit_keeps i e h)
      (λ met. choose_keeps i met a (give_keeps i tt)))

  met_after_act_keeps : (e : Y.Bit) → KeepsAround P (λ a. M.met_after_act a e)
  unfolding M.met_after_act
  met_after_act_keeps e h = then_keeps i (act_keeps i counted) (bit_keeps i e h)

  list_with_keeps : (labels : List Label) {part : Option Label → Meaning (Unit {0})} (h : Ways P)
      → ((x : Option Label) → Keeps P (part x)) → Keeps P (M.list_with h.around labels part)
  unfolding M.list_with
  list_with_keeps labels h a = bind_keeps i (looked_keeps i) (λ s. list_keeps i h.around.turns _ labels None a)

  established_by_keeps : (c : Condition) (change : List Activation → List Activation) → ((s : State) → P s
      → P (with_activations (change s.activations) s)) → Keeps P (M.established_by c change)
  unfolding M.established_by
  established_by_keeps c change k = then_keeps i (act_keeps i counted) (stored_keeps i _ k)

  signalled_keeps : (c : Condition) → KeepsAround P (λ a. M.signalled a c)
  unfolding M.signalled
  signalled_keeps C.Area h = raised_keeps i C.Area _ h
  signalled_keeps C.FixedOverflow h = raised_keeps i C.FixedOverflow _ h
  signalled_keeps C.ZeroDivide h = raised_keeps i C.ZeroDivide _ h
  signalled_keeps C.Endfile h = raised_keeps i C.Endfile _ h
  signalled_keeps C.Error h = error_keeps i _ h

  mutual
    unfolding M.statement M.statements

    statement_keeps : (x : Y.Stmt) → KeepsAround P (λ a. M.statement a x)
    statement_keeps (Y.Null line) h = act_keeps i counted
    statement_keeps (Y.Assign target source line) h =
        then_keeps i (act_keeps i counted) (bind_keeps i (stored_value_keeps i source (on_line line h))
        (λ v. assigned_keeps target v (on_line line h)))
    statement_keeps (Y.AssignElements target source line) h =
        then_keeps i (act_keeps i counted) (bind_keeps i (stored_value_keeps i source (on_line line h))
        (λ v. elements_assigned_keeps target v (on_line line h)))
    statement_keeps (Y.AssignAggregate target source line) h = then_keeps i
        (act_keeps i counted) (aggregate_assigned_keeps i target source (on_line line h))
    statement_keeps (Y.AssignArea target source line) h = then_keeps i (act_keeps i counted)
        (area_assigned_keeps i target source (on_line line h))
    statement_keeps (Y.EmptyArea target line) h = then_keeps i (act_keeps i counted)
        (area_emptied_keeps i target (on_line line h))
    statement_keeps (Y.If condition unit line) h =
        then_keeps i (act_keeps i counted) (bind_keeps i (bit_keeps i condition (on_line line h))
        (λ met. choose_keeps i met (statement_keeps unit h) (give_keeps i tt)))
    statement_keeps (Y.IfElse condition unit otherwise line) h =
        then_keeps i (act_keeps i counted) (bind_keeps i (bit_keeps i condition (on_line line h))
        (λ met. choose_keeps i met (statement_keeps unit h) (statement_keeps otherwise h)))
    statement_keeps (Y.Do body line) h =
        then_keeps i (act_keeps i counted) (list_with_keeps _ h (λ x. statements_keep body x h))
    statement_keeps (Y.DoWhile condition body line) h =
        then_keeps i (act_keeps i counted) (while_keeps i h.around.turns (met_after_act_keeps condition
        (on_line line h)) (list_with_keeps _ h (λ x. statements_keep body x h)))
    statement_keeps (Y.DoOnce variable start condition body line) h =
        then_keeps i (act_keeps i counted) (bind_keeps i (stored_value_keeps i start (on_line line h))
        (λ v. then_keeps i (assigned_keeps variable v (on_line line h))
        (once_keeps condition (on_line line h) (list_with_keeps _ h (λ x. statements_keep body x h)))))
    statement_keeps (Y.DoCount counter start limit step condition body line) h =
        then_keeps i (act_keeps i counted) (bind_keeps i (computational_keeps start (on_line line h)) (λ v.
        bind_keeps i (limit_of_keeps limit (on_line line h)) (λ most. bind_keeps i (number_keeps i step
        (on_line line h)) (λ by.
        bind_keeps i (counter_started_keeps counter v (on_line line h)) (λ first.
        then_keeps i (assigned_keeps _ first (on_line line h)) (while_keeps i h.around.turns
        (turn_due_keeps counter most by condition (on_line line h))
        (then_keeps i (list_with_keeps _ h (λ x. statements_keep body x h)) (stepped_keeps counter by
        (on_line line h)))))))))
    statement_keeps (Y.Begin (Y.BlockOf head body)) h =
        then_keeps i (act_keeps i counted) (bind_keeps i (looked_keeps i) (λ s. then_keeps i (h.keeps _)
        (give_keeps i tt)))
    statement_keeps (Y.OnSystem c line) h = established_by_keeps c _ (i.established c SystemUnit)
    statement_keeps (Y.OnUnit c unit line) h = established_by_keeps c _ (i.established c (BlockUnit unit))
    statement_keeps (Y.CallProcedure call line) h = then_keeps i (act_keeps i counted) (then_keeps i
        (called_keeps i call (on_line line h)) (give_keeps i tt))
    statement_keeps (Y.Return line) h = then_keeps i (act_keeps i counted) (returns_keeps i None)
    statement_keeps (Y.ReturnValue type source line) h =
        then_keeps i (act_keeps i counted) (bind_keeps i (stored_value_keeps i source (on_line line h))
        (λ v. returns_keeps i _))
    statement_keeps (Y.Goto level label line) h = then_keeps i (act_keeps i counted) (bind_keeps i (looked_keeps i)
        (λ s. jumps_keeps i _ label))
    statement_keeps (Y.Stop line) h = then_keeps i (act_keeps i counted) (finish_keeps i E.Stopped)
    statement_keeps (Y.Signal c line) h = then_keeps i (act_keeps i counted) (signalled_keeps c (on_line line h))
    statement_keeps (Y.Revert c line) h = established_by_keeps c _ (i.reverted c)
    statement_keeps (Y.Allocate all line) h = then_keeps i (act_keeps i counted) (allocations_keep i all
        (on_line line h))
    statement_keeps (Y.Free all line) h = then_keeps i (act_keeps i counted) (freeings_keep i all (on_line line h))
    statement_keeps (Y.Get skip pairs line) h = then_keeps i (act_keeps i counted) (get_keeps skip pairs
        (on_line line h))
    statement_keeps (Y.Put skip pairs line) h = then_keeps i (act_keeps i counted) (put_keeps skip pairs
        (on_line line h))

    statements_keep : (xs : Y.Stmts) (from : Option Label) → KeepsAround P (λ a. M.statements a xs from)
    statements_keep (Y.EndOfList labels) from h = give_keeps i tt
    statements_keep (Y.StmtThen labels first rest) from h =
        choose_keeps i _ (then_keeps i (statement_keeps first h) (statements_keep rest None h))
        (statements_keep rest from h)

  statement_list_keeps : (xs : Y.Stmts) → KeepsAround P (λ a. M.list a xs)
  unfolding M.list
  statement_list_keeps xs h = list_with_keeps _ h (λ x. statements_keep xs x h)

  -- ---- blocks

  block_variables_made_keep : (head : Y.BlockHead) (kind : Y.BlockKind)
      → KeepsAround P (λ a. M.block_variables_made a head kind)
  unfolding M.block_variables_made
  block_variables_made_keep head Y.ProcedureBlock h = variables_made_keep i 0 _ h
  block_variables_made_keep head Y.BeginBlock h = variables_made_keep i 0 _ h
  block_variables_made_keep head Y.UnitBlock h = variables_made_keep i 0 _ h
  block_variables_made_keep head Y.SimpleUnit h = give_keeps i tt

  entry_act_keeps : (kind : Y.BlockKind) → Keeps P (M.entry_act kind)
  unfolding M.entry_act
  entry_act_keeps Y.ProcedureBlock = act_keeps i counted
  entry_act_keeps Y.BeginBlock = give_keeps i tt
  entry_act_keeps Y.UnitBlock = act_keeps i counted
  entry_act_keeps Y.SimpleUnit = act_keeps i counted

  block_list_keeps : (xs : Y.Stmts) (is_function : Bool) → KeepsAround P (λ a. M.block_list a xs is_function)
  unfolding M.block_list
  block_list_keeps xs false h = statement_list_keeps xs h
  block_list_keeps xs true h =
      list_with_keeps _ h (λ x. then_keeps i (statements_keep xs x h) (error_keeps i _ h))

  block_body_keeps : (head : Y.BlockHead) (body : Y.Stmts) (entry : Entry)
      → KeepsAround P (λ a. M.block_body a head body entry)
  unfolding M.block_body
  block_body_keeps head body entry h =
      then_keeps i (parameters_bound_keep i entry.parameters entry.arguments) (then_keeps i
      (block_variables_made_keep head head.kind h)
      (then_keeps i (entry_act_keeps head.kind) (block_list_keeps body entry.is_function h)))

  block_run_keeps : (b : Y.Block) (entry : Entry) → KeepsAround P (λ a. M.block_run a b entry)
  unfolding M.block_run
  block_run_keeps (Y.BlockOf head body) entry h =
      bind_keeps i (looked_keeps i) (λ s. choose_keeps i _
      (then_keeps i (stored_keeps i _ (i.entered head entry)) (leaving_keeps i _
      (block_body_keeps head body entry (on_line head.line h))))
      (finish_keeps i (E.Limit L.Depth)))

  -- ---- the whole

  entered_keeps : (p : Y.Program) (n : ℕ) (entry : Entry) → Keeps P (M.entered p n entry)
  unfolding M.entered
  entered_keeps p zero entry = stuck_keeps i
  entered_keeps p (suc n) entry =
      block_run_keeps entry.block entry
      (record {
        around = record { program = p; enter = M.entered p n; turns = suc n; line = 0 };
        keeps = entered_keeps p n;
      })

  pub run_keeps : (p : Y.Program) (n : ℕ) → Keeps P (M.run p n)
  unfolding M.run
  run_keeps p n =
      given_keeps i _
      (λ main. then_keeps i (stored_keeps i _ (i.fixed p.variables)) (then_keeps i (entered_keeps p n
      (M.begun main.block 0)) (finish_keeps i E.Finished)))
      (stuck_keeps i)
