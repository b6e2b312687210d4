-- The storage machine at two numbers of acts allowed, walked over the language: what is shown grows, an ended run stays as it
-- is, and a run does at most the acts allowed.
use Rattle.std.proofs.Common.{ℕ, zero, suc, ◌+◌, ◌≤◌, ℤ, List, [], ◌∷◌, ◌++◌, Option, Some, None, Bool, true, false, arith}
use Rattle.std.specs.Prelude.{nat_le, cond, replicate}
use Rattle.pli_language.specs.declared.condition.Condition.{Condition}
use Rattle.pli_language.specs.declared.condition.Condition.TheVariants as C
use Rattle.pli_meaning.specs.declared.outcome.End.TheVariants as E
use Rattle.pli_meaning.specs.declared.outcome.Limit.TheVariants as L
use Rattle.pli_meaning.specs.Laws.{IsPrefix}
use Rattle.pli_meaning.specs.Numbers.{Checked, Gives, Raises}
use Rattle.pli_typing.specs.Signatures as D
use Rattle.pli_typing.specs.Signatures.{LeafKind}
use Rattle.pli_meaning.specs.Stream.{column_of, line_feed, blanks}
use Rattle.pli_typing.specs.TypedTree as Y
use Rattle.pli_meaning.specs.BasicValues.{Name, NullName, VariableName, BasedName, BasicValue}
use Rattle.pli_meaning.specs.Contents.{Shape, Generation}
use Rattle.pli_meaning.specs.StorageState.{OnUnit, SystemUnit, BlockUnit, Activation, force, AreaContents}
use Rattle.pli_meaning.specs.Control.{Label, Meaning, finish}
use Rattle.pli_meaning.specs.Raising as G
use Rattle.pli_meaning.specs.Raising.{Around, Enter, Entry, Passed, PassedName, PassedValue}
use Rattle.pli_meaning.specs.Evaluating as V
use Rattle.pli_meaning.specs.Making as K
use Rattle.pli_meaning.specs.Placing as A
use Rattle.pli_meaning.specs.StreamOrder.{Element}
use Rattle.pli_meaning.specs.Streaming as S
use Rattle.pli_meaning.specs.Executing as M
use Rattle.pli_meaning.proofs.StorageSteps.{prefix_append, counted_shows, raising_shows, field_shows, written_shows, Agree, give_agrees, stuck_agrees, stuck_self, bind_agrees, then_agrees, looked_agrees, stored_agrees, act_agrees, finish_agrees, returns_agrees, jumps_agrees, choose_agrees, given_agrees, leaving_agrees, while_agrees, list_agrees}

-- ---- what stands around

-- what stands around a part, with fewer turns allowed and with more; the ways to enter blocks agree
record Ways : Type 0 where
  program : Y.Program
  line : ℕ
  enter : Enter
  enter' : Enter
  turns : ℕ
  turns' : ℕ
  agree : (entry : Entry) → Agree (enter entry) (enter' entry)
  selves : (entry : Entry) → Agree (enter' entry) (enter' entry)
  no_fewer : turns ≤ turns'

abbrev fewer : Ways → Around
fewer w = record { program = w.program; enter = w.enter; turns = w.turns; line = w.line }

abbrev more : Ways → Around
more w = record { program = w.program; enter = w.enter'; turns = w.turns'; line = w.line }

-- the second with itself
abbrev twice : Ways → Ways
twice w =
    record {
      program = w.program;
      line = w.line;
      enter = w.enter';
      enter' = w.enter';
      turns = w.turns';
      turns' = w.turns';
      agree = w.selves;
      selves = w.selves;
      no_fewer = omega arith;
    }

abbrev on_line : ℕ → Ways → Ways
on_line line w =
    record {
      program = w.program;
      line = line;
      enter = w.enter;
      enter' = w.enter';
      turns = w.turns;
      turns' = w.turns';
      agree = w.agree;
      selves = w.selves;
      no_fewer = w.no_fewer;
    }

-- a part agrees with itself, whatever stands around it
abbrev Agrees : {R : Type 0} → (Around → Meaning R) → Type 0
Agrees f = (w : Ways) → Agree (f (fewer w)) (f (more w))

-- ---- conditions

error_ends : {R : Type 0} (code line : ℕ) → Agree {R = R} (finish (E.Error code line)) (finish (E.Error code line))
error_ends code line = finish_agrees (E.Error code line) (λ e. cc e)

error_unit_run_agrees : {R : Type 0} (code : ℕ) (found : Option (Activation × OnUnit)) → Agrees {R = R} (λ a. G.error_unit_run a code found)
unfolding G.error_unit_run
error_unit_run_agrees code None h = error_ends code h.line
error_unit_run_agrees code (Some (x, SystemUnit)) h = error_ends code h.line
error_unit_run_agrees code (Some (x, BlockUnit block)) h = then_agrees (h.agree (G.unit_entered block x code)) (error_ends code h.line)

error_agrees : {R : Type 0} (code : ℕ) → Agrees {R = R} (λ a. G.error a code)
unfolding G.error
error_agrees code h =
    then_agrees (act_agrees (raising_shows C.Error code)) (bind_agrees looked_agrees (λ s. error_unit_run_agrees code (force s.activations C.Error) h))

unit_run_agrees : (code : ℕ) (found : Option (Activation × OnUnit)) → Agrees (λ a. G.unit_run a code found)
unfolding G.unit_run
unit_run_agrees code None h = error_agrees code h
unit_run_agrees code (Some (x, SystemUnit)) h = error_agrees code h
unit_run_agrees code (Some (x, BlockUnit block)) h = then_agrees (h.agree (G.unit_entered block x code)) (give_agrees tt)

raised_agrees : (c : Condition) (code : ℕ) → Agrees (λ a. G.raised a c code)
unfolding G.raised
raised_agrees c code h =
    then_agrees (act_agrees (raising_shows c code)) (bind_agrees looked_agrees (λ s. unit_run_agrees code (force s.activations c) h))

value_of_agrees : (v : Checked) → Agrees (λ a. G.value_of a v)
unfolding G.value_of
value_of_agrees (Gives z) h = give_agrees z
value_of_agrees (Raises c code after) h = then_agrees (raised_agrees c code h) (give_agrees after)

or_error_agrees : {X : Type 0} (code : ℕ) (o : Option X) → Agrees (λ a. G.or_error a code o)
unfolding G.or_error
or_error_agrees code None h = error_agrees code h
or_error_agrees code (Some x) h = give_agrees x

demanded_agrees : (code : ℕ) (met : Bool) → Agrees (λ a. G.demanded a code met)
unfolding G.demanded
demanded_agrees code met h = choose_agrees met (give_agrees tt) (error_agrees code h)

-- ---- references and arguments

part_designated_agrees : (n : Name) (shape : Shape) (part : Y.Part) (is : List ℤ) → Agrees (λ a. V.part_designated a n shape part is)
unfolding V.part_designated
part_designated_agrees n shape part is h =
    bind_agrees looked_agrees (λ s. bind_agrees (or_error_agrees _ _ h) (λ g. bind_agrees (or_error_agrees _ _ h) (λ z. then_agrees (demanded_agrees _ _ h) (give_agrees _))))

variable_designated_agrees : (v : Y.Variable) (name : Option Name) (part : Y.Part) (is : List ℤ) → Agrees (λ a. V.variable_designated a v name part is)
unfolding V.variable_designated
variable_designated_agrees v None part is h =
    bind_agrees looked_agrees (λ s. bind_agrees (or_error_agrees _ _ h) (λ b. part_designated_agrees b.name b.shape part is h))
variable_designated_agrees v (Some n) part is h =
    given_agrees _ (λ d. part_designated_agrees n _ part is h) stuck_self

area_meant_agrees : (v : Y.Variable) → Agrees (λ a. V.area_meant a v)
unfolding V.area_meant
area_meant_agrees v h = bind_agrees looked_agrees (λ s. or_error_agrees _ _ h)

passed_last_agrees : (all : List V.Evaluated) (x : V.Evaluated) → Agrees (λ a. V.passed_last a all x)
unfolding V.passed_last
passed_last_agrees all (V.EvaluatedArgument x) h = give_agrees x
passed_last_agrees all (V.NameInParameter n parameter) h = bind_agrees (or_error_agrees _ _ h) (λ o. give_agrees _)
passed_last_agrees all (V.NameInAutomatic n) h = bind_agrees (or_error_agrees _ _ h) (λ o. give_agrees _)

all_passed_last_agrees : (all rest : List V.Evaluated) → Agrees (λ a. V.all_passed_last a all rest)
unfolding V.all_passed_last
all_passed_last_agrees all [] h = give_agrees []
all_passed_last_agrees all (x ∷ xs) h =
    bind_agrees (passed_last_agrees all x h) (λ y. bind_agrees (all_passed_last_agrees all xs h) (λ ys. give_agrees _))

procedure_entered_agrees : (q : Option Y.Procedure) (level : ℕ) (passed : List Passed) → Agrees (λ a. V.procedure_entered a q level passed)
unfolding V.procedure_entered
procedure_entered_agrees None level passed h = stuck_self
procedure_entered_agrees (Some q) level passed h = bind_agrees looked_agrees (λ s. h.agree _)

returned_agrees : (v : Option BasicValue) → Agree (V.returned v) (V.returned v)
unfolding V.returned
returned_agrees None = stuck_self
returned_agrees (Some v) = give_agrees v

-- ---- expressions

mutual
  unfolding V.number V.numbers V.text V.bit V.pointer V.offset V.designated V.located V.called V.arguments V.argument V.stored_value

  number_agrees : (x : Y.Number) → Agrees (λ a. V.number a x)
  number_agrees (Y.NumberConstant c) h = give_agrees _
  number_agrees (Y.NumberIn r) h = bind_agrees (designated_agrees r h) (λ d. give_agrees _)
  number_agrees (Y.NumberFrom c) h = bind_agrees (called_agrees c h) (λ v. bind_agrees (returned_agrees v) (λ y. give_agrees _))
  number_agrees (Y.NumberOfText t) h = bind_agrees (text_agrees t h) (λ y. or_error_agrees _ _ h)
  number_agrees (Y.NumberOfBit b) h = bind_agrees (bit_agrees b h) (λ y. give_agrees _)
  number_agrees (Y.Signed sign x) h = bind_agrees (number_agrees x h) (λ z. value_of_agrees _ h)
  number_agrees (Y.Calculated o x y) h = bind_agrees (number_agrees x h) (λ u. bind_agrees (number_agrees y h) (λ v. value_of_agrees _ h))
  number_agrees (Y.Absolute x) h = bind_agrees (number_agrees x h) (λ z. value_of_agrees _ h)
  number_agrees (Y.SignOf x) h = bind_agrees (number_agrees x h) (λ z. give_agrees _)
  number_agrees (Y.Extreme o x more) h = bind_agrees (number_agrees x h) (λ z. bind_agrees (numbers_agree more h) (λ zs. give_agrees _))
  number_agrees (Y.Modulo x y) h = bind_agrees (number_agrees x h) (λ u. bind_agrees (number_agrees y h) (λ v. value_of_agrees _ h))
  number_agrees (Y.Divided precision x y) h = bind_agrees (number_agrees x h) (λ u. bind_agrees (number_agrees y h) (λ v. value_of_agrees _ h))
  number_agrees (Y.LengthOf t) h = bind_agrees (text_agrees t h) (λ y. give_agrees _)
  number_agrees (Y.IndexOf s t) h = bind_agrees (text_agrees s h) (λ u. bind_agrees (text_agrees t h) (λ v. give_agrees _))
  number_agrees (Y.VerifyOf s t) h = bind_agrees (text_agrees s h) (λ u. bind_agrees (text_agrees t h) (λ v. give_agrees _))
  number_agrees (Y.LowerBound r dimension) h = bind_agrees (designated_agrees r h) (λ d. given_agrees _ (λ b. give_agrees _) stuck_self)
  number_agrees (Y.UpperBound r dimension) h = bind_agrees (designated_agrees r h) (λ d. given_agrees _ (λ b. give_agrees _) stuck_self)
  number_agrees (Y.ElementsOf r dimension) h = bind_agrees (designated_agrees r h) (λ d. given_agrees _ (λ b. value_of_agrees _ h) stuck_self)
  number_agrees (Y.AllocationsOf v) h = bind_agrees looked_agrees (λ s. give_agrees _)
  number_agrees Y.OnCode h = bind_agrees looked_agrees (λ s. give_agrees _)

  numbers_agree : (xs : Y.Numbers) → Agrees (λ a. V.numbers a xs)
  numbers_agree Y.NoNumber h = give_agrees []
  numbers_agree (Y.NumberThen x xs) h = bind_agrees (number_agrees x h) (λ z. bind_agrees (numbers_agree xs h) (λ zs. give_agrees _))

  text_agrees : (x : Y.Text) → Agrees (λ a. V.text a x)
  text_agrees (Y.TextConstant bytes) h = give_agrees bytes
  text_agrees (Y.TextIn r) h = bind_agrees (designated_agrees r h) (λ d. give_agrees _)
  text_agrees (Y.TextFrom c) h = bind_agrees (called_agrees c h) (λ v. bind_agrees (returned_agrees v) (λ y. give_agrees _))
  text_agrees (Y.TextOfNumber precision x) h = bind_agrees (number_agrees x h) (λ z. give_agrees _)
  text_agrees (Y.TextOfBit b) h = bind_agrees (bit_agrees b h) (λ y. give_agrees _)
  text_agrees (Y.Joined s t) h = bind_agrees (text_agrees s h) (λ u. bind_agrees (text_agrees t h) (λ v. or_error_agrees _ _ h))
  text_agrees (Y.SubstringFrom t i) h = bind_agrees (text_agrees t h) (λ u. bind_agrees (number_agrees i h) (λ v. or_error_agrees _ _ h))
  text_agrees (Y.Substring t i j) h =
      bind_agrees (text_agrees t h) (λ u. bind_agrees (number_agrees i h) (λ v. bind_agrees (number_agrees j h) (λ w. or_error_agrees _ _ h)))

  bit_agrees : (x : Y.Bit) → Agrees (λ a. V.bit a x)
  bit_agrees (Y.BitConstant b) h = give_agrees b
  bit_agrees (Y.BitIn r) h = bind_agrees (designated_agrees r h) (λ d. give_agrees _)
  bit_agrees (Y.BitFrom c) h = bind_agrees (called_agrees c h) (λ v. bind_agrees (returned_agrees v) (λ y. give_agrees _))
  bit_agrees (Y.BitOfText t) h = bind_agrees (text_agrees t h) (λ y. or_error_agrees _ _ h)
  bit_agrees (Y.Negated x) h = bind_agrees (bit_agrees x h) (λ y. give_agrees _)
  bit_agrees (Y.Combined Y.Conjunction x y) h = bind_agrees (bit_agrees x h) (λ u. bind_agrees (bit_agrees y h) (λ v. give_agrees _))
  bit_agrees (Y.Combined Y.Disjunction x y) h = bind_agrees (bit_agrees x h) (λ u. bind_agrees (bit_agrees y h) (λ v. give_agrees _))
  bit_agrees (Y.NumbersCompared o x y) h = bind_agrees (number_agrees x h) (λ u. bind_agrees (number_agrees y h) (λ v. give_agrees _))
  bit_agrees (Y.TextsCompared o x y) h = bind_agrees (text_agrees x h) (λ u. bind_agrees (text_agrees y h) (λ v. give_agrees _))
  bit_agrees (Y.BitsCompared o x y) h = bind_agrees (bit_agrees x h) (λ u. bind_agrees (bit_agrees y h) (λ v. give_agrees _))
  bit_agrees (Y.PointersCompared equal x y) h = bind_agrees (pointer_agrees x h) (λ u. bind_agrees (pointer_agrees y h) (λ v. give_agrees _))
  bit_agrees (Y.OffsetsCompared equal x y) h = bind_agrees (offset_agrees x h) (λ u. bind_agrees (offset_agrees y h) (λ v. give_agrees _))

  pointer_agrees : (x : Y.Pointer) → Agrees (λ a. V.pointer a x)
  pointer_agrees Y.NullPointer h = give_agrees _
  pointer_agrees (Y.PointerIn r) h = bind_agrees (designated_agrees r h) (λ d. give_agrees _)
  pointer_agrees (Y.PointerFrom c) h = bind_agrees (called_agrees c h) (λ v. bind_agrees (returned_agrees v) (λ y. give_agrees _))
  pointer_agrees (Y.AddressOf r) h = bind_agrees (designated_agrees r h) (λ d. give_agrees _)
  pointer_agrees (Y.PointerInto x area) h = bind_agrees (offset_agrees x h) (λ o. bind_agrees (area_meant_agrees area h) (λ b. give_agrees _))

  offset_agrees : (x : Y.Offset) → Agrees (λ a. V.offset a x)
  offset_agrees Y.NullOffset h = give_agrees _
  offset_agrees (Y.OffsetIn r) h = bind_agrees (designated_agrees r h) (λ d. give_agrees _)
  offset_agrees (Y.OffsetFrom c) h = bind_agrees (called_agrees c h) (λ v. bind_agrees (returned_agrees v) (λ y. give_agrees _))
  offset_agrees (Y.OffsetInto x area) h = bind_agrees (pointer_agrees x h) (λ o. bind_agrees (area_meant_agrees area h) (λ b. or_error_agrees _ _ h))

  designated_agrees : (x : Y.Reference) → Agrees (λ a. V.designated a x)
  designated_agrees (Y.Referring v locator part subscripts) h =
      bind_agrees (located_agrees locator h) (λ n. bind_agrees (numbers_agree subscripts h) (λ is. variable_designated_agrees v n part is h))

  located_agrees : (x : Y.Locator) → Agrees (λ a. V.located a x)
  located_agrees Y.NotLocated h = give_agrees _
  located_agrees (Y.LocatedBy x) h = bind_agrees (pointer_agrees x h) (λ n. give_agrees _)

  called_agrees : (x : Y.Call) → Agrees (λ a. V.called a x)
  called_agrees (Y.Calling procedure level xs) h =
      bind_agrees (arguments_agree xs h) (λ es. bind_agrees (all_passed_last_agrees es es h) (λ ps. procedure_entered_agrees _ level ps h))

  arguments_agree : (xs : Y.Arguments) → Agrees (λ a. V.arguments a xs)
  arguments_agree Y.NoArgument h = give_agrees []
  arguments_agree (Y.ArgumentThen x xs) h = bind_agrees (argument_agrees x h) (λ y. bind_agrees (arguments_agree xs h) (λ ys. give_agrees _))

  argument_agrees : (x : Y.Argument) → Agrees (λ a. V.argument a x)
  argument_agrees (Y.ByReference r) h = bind_agrees (designated_agrees r h) (λ d. give_agrees _)
  argument_agrees (Y.ByCopy t x) h = bind_agrees (stored_value_agrees x h) (λ v. give_agrees _)
  argument_agrees (Y.ByOffsetInParameter x parameter) h = bind_agrees (pointer_agrees x h) (λ n. give_agrees _)
  argument_agrees (Y.ByOffsetInAutomatic x) h = bind_agrees (pointer_agrees x h) (λ n. give_agrees _)

  stored_value_agrees : (x : Y.Stored) → Agrees (λ a. V.stored_value a x)
  stored_value_agrees (Y.StoredNumber precision x) h = bind_agrees (number_agrees x h) (λ z. bind_agrees (value_of_agrees _ h) (λ y. give_agrees _))
  stored_value_agrees (Y.StoredText x) h = bind_agrees (text_agrees x h) (λ t. give_agrees _)
  stored_value_agrees (Y.StoredBit x) h = bind_agrees (bit_agrees x h) (λ b. give_agrees _)
  stored_value_agrees (Y.StoredPointer x) h = bind_agrees (pointer_agrees x h) (λ n. give_agrees _)
  stored_value_agrees (Y.StoredOffset x) h = bind_agrees (offset_agrees x h) (λ o. give_agrees _)

-- ---- generations that come about

evaluations_agree : (values : List ℤ) (xs : List Y.Evaluation) → Agrees (λ a. K.evaluations a values xs)
unfolding K.evaluations
evaluations_agree values [] h = give_agrees values
evaluations_agree values (x ∷ xs) h =
    bind_agrees (number_agrees x.value h) (λ z. then_agrees (demanded_agrees _ _ h) (evaluations_agree (values ++ z ∷ []) xs h))

extents_agree : (xs : List Y.Evaluation) → Agrees (λ a. K.extents a xs)
unfolding K.extents
extents_agree [] h = give_agrees []
extents_agree (x ∷ xs) h = then_agrees (act_agrees counted_shows) (evaluations_agree [] (x ∷ xs) h)

variable_made_agrees : (variable : ℕ) (g : Generation) → Agree (K.variable_made variable g) (K.variable_made variable g)
unfolding K.variable_made
variable_made_agrees variable g =
    bind_agrees looked_agrees (λ s. choose_agrees _ (stored_agrees _) (finish_agrees (E.Limit L.Automatic) (λ e. cc e)))

automatic_made_agrees : (variable : ℕ) (d : Y.DeclaredVariable) (class : Y.StorageClass) → Agrees (λ a. K.automatic_made a variable d class)
unfolding K.automatic_made
automatic_made_agrees variable d Y.AutomaticClass h = bind_agrees (extents_agree d.evaluations h) (λ values. variable_made_agrees variable _)
automatic_made_agrees variable d Y.ParameterClass h = give_agrees tt
automatic_made_agrees variable d Y.StaticClass h = give_agrees tt
automatic_made_agrees variable d Y.BasedClass h = give_agrees tt
automatic_made_agrees variable d Y.ControlledClass h = give_agrees tt

variables_made_agree : (variable : ℕ) (ds : List Y.DeclaredVariable) → Agrees (λ a. K.variables_made a variable ds)
unfolding K.variables_made
variables_made_agree variable [] h = give_agrees tt
variables_made_agree variable (d ∷ ds) h =
    then_agrees (automatic_made_agrees variable d d.class h) (variables_made_agree (variable + 1) ds h)

parameter_bound_agrees : (variable : ℕ) (x : Passed) → Agree (K.parameter_bound variable x) (K.parameter_bound variable x)
unfolding K.parameter_bound
parameter_bound_agrees variable (PassedName n shape) = stored_agrees _
parameter_bound_agrees variable (PassedValue kind v) = variable_made_agrees variable _

parameters_bound_agree : (vs : List ℕ) (xs : List Passed) → Agree (K.parameters_bound vs xs) (K.parameters_bound vs xs)
unfolding K.parameters_bound
parameters_bound_agree [] [] = give_agrees tt
parameters_bound_agree (v ∷ vs) (x ∷ xs) = then_agrees (parameter_bound_agrees v x) (parameters_bound_agree vs xs)
parameters_bound_agree [] (x ∷ xs) = stuck_self
parameters_bound_agree (v ∷ vs) [] = stuck_self

-- ---- storage that changes

element_stored_agrees : (d : V.Designated) (v : BasicValue) → Agree (A.element_stored d v) (A.element_stored d v)
unfolding A.element_stored
element_stored_agrees d v = stored_agrees _

elements_stored_agrees : (d : V.Designated) (values : ℕ → List ℤ → BasicValue) → Agree (A.elements_stored d values) (A.elements_stored d values)
unfolding A.elements_stored
elements_stored_agrees d values = stored_agrees _

aggregate_assigned_agrees : (target source : Y.Reference) → Agrees (λ a. A.aggregate_assigned a target source)
unfolding A.aggregate_assigned
aggregate_assigned_agrees target source h =
    bind_agrees (designated_agrees source h) (λ e. bind_agrees (designated_agrees target h) (λ d. then_agrees (demanded_agrees _ _ h) (elements_stored_agrees d _)))

area_copied_agrees : (target : ℕ) (into from : AreaContents) → Agrees (λ a. A.area_copied a target into from)
unfolding A.area_copied
area_copied_agrees target into from h = choose_agrees _ (stored_agrees _) (raised_agrees C.Area _ h)

area_assigned_agrees : (target source : Y.Variable) → Agrees (λ a. A.area_assigned a target source)
unfolding A.area_assigned
area_assigned_agrees target source h =
    bind_agrees (area_meant_agrees source h) (λ x. bind_agrees (area_meant_agrees target h) (λ y. bind_agrees looked_agrees (λ s.
    bind_agrees (or_error_agrees _ _ h) (λ from. bind_agrees (or_error_agrees _ _ h) (λ into. choose_agrees _ (give_agrees tt) (area_copied_agrees y into from h))))))

area_emptied_agrees : (target : Y.Variable) → Agrees (λ a. A.area_emptied a target)
unfolding A.area_emptied
area_emptied_agrees target h = bind_agrees (area_meant_agrees target h) (λ x. stored_agrees _)

placing_agrees : (n n' : ℕ) (area : ℕ) (g : Generation) → n ≤ n' → (w : Ways) → Agree (A.placing n (fewer w) area g) (A.placing n' (more w) area g)
unfolding A.placing
placing_agrees zero zero area g i h = stuck_self
placing_agrees zero (suc n') area g i h =
    stuck_agrees _ ((bind_agrees looked_agrees (λ s. bind_agrees (or_error_agrees _ _ (twice h)) (λ x. given_agrees _
    (λ o. then_agrees (stored_agrees _) (give_agrees o))
    (choose_agrees _ (error_agrees _ (twice h)) (then_agrees (raised_agrees C.Area _ (twice h)) (then_agrees (act_agrees counted_shows) (placing_agrees n' n' area g (omega arith) (twice h)))))))).later)
placing_agrees (suc n) zero area g i h = absurd (omega arith)
placing_agrees (suc n) (suc n') area g i h =
    bind_agrees looked_agrees (λ s. bind_agrees (or_error_agrees _ _ h) (λ x. given_agrees _
    (λ o. then_agrees (stored_agrees _) (give_agrees o))
    (choose_agrees _ (error_agrees _ h) (then_agrees (raised_agrees C.Area _ h) (then_agrees (act_agrees counted_shows) (placing_agrees n n' area g (omega arith) h))))))

area_or_heap_agrees : (area : Option Y.Variable) → Agrees (λ a. A.area_or_heap a area)
unfolding A.area_or_heap
area_or_heap_agrees None h = give_agrees _
area_or_heap_agrees (Some v) h = area_meant_agrees v h

locator_set_agrees : (target : Y.LocatorTarget) (n : Name) → Agrees (λ a. A.locator_set a target n)
unfolding A.locator_set
locator_set_agrees (Y.SetPointer r) n h = bind_agrees (designated_agrees r h) (λ d. element_stored_agrees d _)
locator_set_agrees (Y.SetOffset r area) n h =
    bind_agrees (area_meant_agrees area h) (λ x. bind_agrees (or_error_agrees _ _ h) (λ o. bind_agrees (designated_agrees r h) (λ d. element_stored_agrees d _)))

based_allocated_agrees : (d : Y.DeclaredVariable) (area : Option Y.Variable) (target : Y.LocatorTarget) → Agrees (λ a. A.based_allocated a d area target)
unfolding A.based_allocated
based_allocated_agrees d area target h =
    bind_agrees (extents_agree d.evaluations h) (λ values. then_agrees (demanded_agrees _ _ h) (bind_agrees (area_or_heap_agrees area h) (λ x.
    bind_agrees (placing_agrees h.turns h.turns' x _ h.no_fewer h) (λ o. locator_set_agrees target _ h))))

controlled_allocated_agrees : (v : Y.Variable) (d : Y.DeclaredVariable) → Agrees (λ a. A.controlled_allocated a v d)
unfolding A.controlled_allocated
controlled_allocated_agrees v d h =
    bind_agrees (extents_agree d.evaluations h) (λ values. bind_agrees (placing_agrees h.turns h.turns' _ _ h.no_fewer h) (λ o. stored_agrees _))

allocation_agrees : (x : Y.Allocation) → Agrees (λ a. A.allocation a x)
unfolding A.allocation
allocation_agrees (Y.AllocateBased v area target) h = given_agrees _ (λ d. based_allocated_agrees d area target h) stuck_self
allocation_agrees (Y.AllocateControlled v) h = given_agrees _ (λ d. controlled_allocated_agrees v d h) stuck_self

allocations_agree : (xs : List Y.Allocation) → Agrees (λ a. A.allocations a xs)
unfolding A.allocations
allocations_agree [] h = give_agrees tt
allocations_agree (x ∷ xs) h = then_agrees (allocation_agrees x h) (allocations_agree xs h)

name_freed_agrees : (n : Name) (area : Option ℕ) → Agrees (λ a. A.name_freed a n area)
unfolding A.name_freed
name_freed_agrees NullName area h = error_agrees _ h
name_freed_agrees (VariableName serial) area h = error_agrees _ h
name_freed_agrees (BasedName x o) None h = stored_agrees _
name_freed_agrees (BasedName x o) (Some y) h = choose_agrees _ (stored_agrees _) (error_agrees _ h)

area_if_agrees : (area : Option Y.Variable) → Agrees (λ a. A.area_if a area)
unfolding A.area_if
area_if_agrees None h = give_agrees None
area_if_agrees (Some v) h = bind_agrees (area_meant_agrees v h) (λ x. give_agrees _)

based_freed_agrees : (d : Y.DeclaredVariable) (locator : Y.Pointer) (area : Option Y.Variable) → Agrees (λ a. A.based_freed a d locator area)
unfolding A.based_freed
based_freed_agrees d locator area h =
    bind_agrees (pointer_agrees locator h) (λ n. bind_agrees looked_agrees (λ s. then_agrees (or_error_agrees _ _ h) (bind_agrees (area_if_agrees area h) (λ x. name_freed_agrees n x h))))

freeing_agrees : (x : Y.Freeing) → Agrees (λ a. A.freeing a x)
unfolding A.freeing
freeing_agrees (Y.FreeBased v locator area) h = given_agrees _ (λ d. based_freed_agrees d locator area h) stuck_self
freeing_agrees (Y.FreeControlled v) h = stored_agrees _

freeings_agree : (xs : List Y.Freeing) → Agrees (λ a. A.freeings a xs)
unfolding A.freeings
freeings_agree [] h = give_agrees tt
freeings_agree (x ∷ xs) h = then_agrees (freeing_agrees x h) (freeings_agree xs h)

-- ---- streams

longer_by : (t : Bool) (output xs ys : List ℕ) → IsPrefix output (cond t (output ++ xs) (output ++ ys))
longer_by true output xs ys = prefix_append output xs
longer_by false output xs ys = prefix_append output ys

control_longer : (c : S.ControlItem) (output : List ℕ) → IsPrefix output (S.control_written c output)
control_longer (S.SpaceItem n) output = prefix_append output (blanks n)
control_longer (S.SkipItem n) output = prefix_append output (replicate n line_feed)
control_longer (S.ColumnItem n) output = longer_by (nat_le (column_of output) n) output _ _

control_put_agrees : (c : S.ControlItem) → Agree (S.control_put c) (S.control_put c)
unfolding S.control_put
control_put_agrees c = act_agrees (written_shows (S.control_written c) (control_longer c))

control_got_agrees : (c : S.ControlItem) → Agree (S.control_got c) (S.control_got c)
unfolding S.control_got
control_got_agrees c = then_agrees (act_agrees counted_shows) (stored_agrees _)

controls_agree : (carried_out : S.ControlItem → Meaning (Unit {0})) (xs : List S.FormatItem) → ((c : S.ControlItem) → Agree (carried_out c) (carried_out c)) → Agree (S.controls carried_out xs) (S.controls carried_out xs)
unfolding S.controls
controls_agree carried_out [] a = give_agrees None
controls_agree carried_out (S.DataFormat f ∷ xs) a = give_agrees _
controls_agree carried_out (S.ControlFormat c ∷ xs) a = then_agrees (a c) (controls_agree carried_out xs a)

next_item_agrees : (carried_out : S.ControlItem → Meaning (Unit {0})) (whole rest : List S.FormatItem) → ((c : S.ControlItem) → Agree (carried_out c) (carried_out c)) → Agree (S.next_item carried_out whole rest) (S.next_item carried_out whole rest)
unfolding S.next_item
next_item_agrees carried_out whole rest a =
    bind_agrees (controls_agree carried_out rest a) (λ found. given_agrees found (λ x. give_agrees x) (bind_agrees (controls_agree carried_out whole a) (λ again. given_agrees again (λ x. give_agrees x) stuck_self)))

shown_by_agrees : (v : V.Computational) (f : S.DataItem) → Agrees (λ a. S.shown_by a v f)
unfolding S.shown_by
shown_by_agrees v (S.FixedItem width) h =
    bind_agrees (or_error_agrees _ _ h) (λ z. bind_agrees (or_error_agrees _ _ h) (λ field. act_agrees (field_shows field)))
shown_by_agrees v (S.TextItem None) h = act_agrees (field_shows _)
shown_by_agrees v (S.TextItem (Some width)) h = act_agrees (field_shows _)

computational_agrees : (x : Y.Value) → Agrees (λ a. V.computational a x)
unfolding V.computational
computational_agrees (Y.NumberValue precision e) h = bind_agrees (number_agrees e h) (λ z. give_agrees _)
computational_agrees (Y.TextValue e) h = bind_agrees (text_agrees e h) (λ t. give_agrees _)
computational_agrees (Y.BitValue e) h = bind_agrees (bit_agrees e h) (λ b. give_agrees _)
computational_agrees (Y.PointerValue e) h = stuck_self
computational_agrees (Y.OffsetValue area e) h = stuck_self
computational_agrees Y.NullValue h = stuck_self

element_designated_agrees : (d : V.Designated) (x : Element) → Agrees (λ a. S.element_designated a d x)
unfolding S.element_designated
element_designated_agrees d x h =
    bind_agrees looked_agrees (λ s. bind_agrees (or_error_agrees _ _ h) (λ g. then_agrees (demanded_agrees _ _ h) (give_agrees _)))

element_put_agrees : (whole rest : List S.FormatItem) (d : V.Designated) → Agrees (λ a. S.element_put a whole rest d)
unfolding S.element_put
element_put_agrees whole rest d h =
    given_agrees _ (λ v. bind_agrees (next_item_agrees S.control_put whole rest control_put_agrees) (λ next. then_agrees (shown_by_agrees v next.0 h) (give_agrees next.1))) stuck_self

elements_put_agree : (whole rest : List S.FormatItem) (d : V.Designated) (xs : List Element) → Agrees (λ a. S.elements_put a whole rest d xs)
unfolding S.elements_put
elements_put_agree whole rest d [] h = give_agrees rest
elements_put_agree whole rest d (x ∷ xs) h =
    bind_agrees (element_designated_agrees d x h) (λ now. bind_agrees (element_put_agrees whole rest now h) (λ rest'. elements_put_agree whole rest' d xs h))

item_put_agrees : (whole rest : List S.FormatItem) (x : Y.PutItem) → Agrees (λ a. S.item_put a whole rest x)
unfolding S.item_put
item_put_agrees whole rest (Y.PutValue e) h =
    bind_agrees (computational_agrees e h) (λ v. bind_agrees (next_item_agrees S.control_put whole rest control_put_agrees) (λ next. then_agrees (shown_by_agrees v next.0 h) (give_agrees next.1)))
item_put_agrees whole rest (Y.PutAggregate (Y.Referring v locator part subscripts)) h =
    bind_agrees (designated_agrees (Y.Referring v locator part subscripts) h) (λ d. elements_put_agree whole rest d _ h)

items_put_agree : (whole rest : List S.FormatItem) (xs : List Y.PutItem) → Agrees (λ a. S.items_put a whole rest xs)
unfolding S.items_put
items_put_agree whole rest [] h = give_agrees tt
items_put_agree whole rest (x ∷ xs) h = bind_agrees (item_put_agrees whole rest x h) (λ rest'. items_put_agree whole rest' xs h)

pairs_put_agree : (xs : List Y.PutPair) → Agrees (λ a. S.pairs_put a xs)
unfolding S.pairs_put
pairs_put_agree [] h = give_agrees tt
pairs_put_agree (x ∷ xs) h = then_agrees (items_put_agree (S.format_items x.formats) (S.format_items x.formats) x.items h) (pairs_put_agree xs h)

put_agrees : (skip : Option ℕ) (xs : List Y.PutPair) → Agrees (λ a. S.put a skip xs)
unfolding S.put
put_agrees None xs h = pairs_put_agree xs h
put_agrees (Some n) xs h = then_agrees (control_put_agrees (S.SkipItem n)) (pairs_put_agree xs h)

field_taken_agrees : (width : ℕ) → Agrees (λ a. S.field_taken a width)
unfolding S.field_taken
field_taken_agrees width h =
    bind_agrees looked_agrees (λ s. choose_agrees _ (then_agrees (act_agrees counted_shows) (then_agrees (stored_agrees _) (give_agrees _))) (then_agrees (raised_agrees C.Endfile _ h) (give_agrees None)))

number_got_agrees : (t : Option (List ℕ)) → Agrees (λ a. S.number_got a t)
unfolding S.number_got
number_got_agrees None h = give_agrees None
number_got_agrees (Some t) h = bind_agrees (or_error_agrees _ _ h) (λ z. give_agrees _)

field_got_agrees : (f : S.DataItem) → Agrees (λ a. S.field_got a f)
unfolding S.field_got
field_got_agrees (S.FixedItem width) h = bind_agrees (field_taken_agrees width h) (λ t. number_got_agrees t h)
field_got_agrees (S.TextItem (Some width)) h = bind_agrees (field_taken_agrees width h) (λ t. give_agrees _)
field_got_agrees (S.TextItem None) h = stuck_self

number_kept_agrees : (precision : ℕ) (z : ℤ) → Agrees (λ a. S.number_kept a precision z)
unfolding S.number_kept
number_kept_agrees precision z h = bind_agrees (value_of_agrees _ h) (λ y. give_agrees _)

field_converted_agrees : (kind : LeafKind) (f : S.Field) → Agrees (λ a. S.field_converted a kind f)
unfolding S.field_converted
field_converted_agrees (D.Fixed p) (S.NumberField z) h = number_kept_agrees p z h
field_converted_agrees (D.Fixed p) (S.TextField t) h = bind_agrees (or_error_agrees _ _ h) (λ z. number_kept_agrees p z h)
field_converted_agrees (D.Character n) (S.NumberField z) h = give_agrees _
field_converted_agrees (D.Character n) (S.TextField t) h = give_agrees _
field_converted_agrees (D.Varying n) (S.NumberField z) h = give_agrees _
field_converted_agrees (D.Varying n) (S.TextField t) h = give_agrees _
field_converted_agrees D.Bit (S.NumberField z) h = stuck_self
field_converted_agrees D.Bit (S.TextField t) h = bind_agrees (or_error_agrees _ _ h) (λ b. give_agrees _)
field_converted_agrees D.Pointer f h = stuck_self
field_converted_agrees D.Offset f h = stuck_self
field_converted_agrees (D.Area n) f h = stuck_self

scalar_got_agrees : (r : Y.Reference) (f : S.Field) → Agrees (λ a. S.scalar_got a r f)
unfolding S.scalar_got
scalar_got_agrees (Y.Referring v locator part subscripts) f h =
    given_agrees _ (λ t. bind_agrees (field_converted_agrees _ f h) (λ y. bind_agrees (designated_agrees (Y.Referring v locator part subscripts) h) (λ d. element_stored_agrees d y))) stuck_self

scalar_if_got_agrees : (r : Y.Reference) (rest : List S.FormatItem) (f : Option S.Field) → Agrees (λ a. S.scalar_if_got a r rest f)
unfolding S.scalar_if_got
scalar_if_got_agrees r rest None h = give_agrees None
scalar_if_got_agrees r rest (Some f) h = then_agrees (scalar_got_agrees r f h) (give_agrees _)

element_if_got_agrees : (d : V.Designated) (x : Element) (rest : List S.FormatItem) (f : Option S.Field) → Agrees (λ a. S.element_if_got a d x rest f)
unfolding S.element_if_got
element_if_got_agrees d x rest None h = give_agrees None
element_if_got_agrees d x rest (Some f) h =
    bind_agrees (field_converted_agrees _ f h) (λ v. bind_agrees (element_designated_agrees d x h) (λ now. then_agrees (element_stored_agrees now v) (give_agrees _)))

elements_got_agree : (whole rest : List S.FormatItem) (d : V.Designated) (xs : List Element) → Agrees (λ a. S.elements_got a whole rest d xs)
unfolding S.elements_got
elements_got_agree whole rest d [] h = give_agrees _
elements_got_agree whole rest d (x ∷ xs) h =
    bind_agrees (next_item_agrees S.control_got whole rest control_got_agrees) (λ next. bind_agrees (field_got_agrees next.0 h) (λ f.
    bind_agrees (element_if_got_agrees d x next.1 f h) (λ rest'. given_agrees rest' (λ r. elements_got_agree whole r d xs h) (give_agrees None))))

item_got_agrees : (whole rest : List S.FormatItem) (x : Y.GetItem) → Agrees (λ a. S.item_got a whole rest x)
unfolding S.item_got
item_got_agrees whole rest (Y.GetScalar r) h =
    bind_agrees (next_item_agrees S.control_got whole rest control_got_agrees) (λ next. bind_agrees (field_got_agrees next.0 h) (λ f. scalar_if_got_agrees r next.1 f h))
item_got_agrees whole rest (Y.GetAggregate (Y.Referring v locator part subscripts)) h =
    bind_agrees (designated_agrees (Y.Referring v locator part subscripts) h) (λ d. elements_got_agree whole rest d _ h)

items_got_agree : (whole rest : List S.FormatItem) (xs : List Y.GetItem) → Agrees (λ a. S.items_got a whole rest xs)
unfolding S.items_got
items_got_agree whole rest [] h = give_agrees true
items_got_agree whole rest (x ∷ xs) h =
    bind_agrees (item_got_agrees whole rest x h) (λ rest'. given_agrees rest' (λ r. items_got_agree whole r xs h) (give_agrees false))

pairs_got_agree : (xs : List Y.GetPair) → Agrees (λ a. S.pairs_got a xs)
unfolding S.pairs_got
pairs_got_agree [] h = give_agrees tt
pairs_got_agree (x ∷ xs) h =
    bind_agrees (items_got_agree (S.format_items x.formats) (S.format_items x.formats) x.items h) (λ lasted. choose_agrees lasted (pairs_got_agree xs h) (give_agrees tt))

get_agrees : (skip : Option ℕ) (xs : List Y.GetPair) → Agrees (λ a. S.get a skip xs)
unfolding S.get
get_agrees None xs h = pairs_got_agree xs h
get_agrees (Some n) xs h = then_agrees (control_got_agrees (S.SkipItem n)) (pairs_got_agree xs h)

-- ---- statements

assigned_agrees : (r : Y.Reference) (v : BasicValue) → Agrees (λ a. M.assigned a r v)
unfolding M.assigned
assigned_agrees r v h = bind_agrees (designated_agrees r h) (λ d. element_stored_agrees d v)

elements_assigned_agrees : (r : Y.Reference) (v : BasicValue) → Agrees (λ a. M.elements_assigned a r v)
unfolding M.elements_assigned
elements_assigned_agrees r v h = bind_agrees (designated_agrees r h) (λ d. elements_stored_agrees d _)

counter_number_agrees : (c : Y.Counter) → Agrees (λ a. M.counter_number a c)
unfolding M.counter_number
counter_number_agrees (Y.NumberCounter precision r) h = bind_agrees (designated_agrees r h) (λ d. give_agrees _)
counter_number_agrees (Y.TextCounter r) h = bind_agrees (designated_agrees r h) (λ d. or_error_agrees _ _ h)

counter_value_agrees : (c : Y.Counter) (z : ℤ) → Agrees (λ a. M.counter_value a c z)
unfolding M.counter_value
counter_value_agrees (Y.NumberCounter precision r) z h = bind_agrees (value_of_agrees _ h) (λ y. give_agrees _)
counter_value_agrees (Y.TextCounter r) z h = give_agrees _

counter_started_agrees : (c : Y.Counter) (v : V.Computational) → Agrees (λ a. M.counter_started a c v)
unfolding M.counter_started
counter_started_agrees (Y.NumberCounter precision r) v h =
    bind_agrees (or_error_agrees _ _ h) (λ z. counter_value_agrees (Y.NumberCounter precision r) z h)
counter_started_agrees (Y.TextCounter r) v h = give_agrees _

stepped_agrees : (c : Y.Counter) (step : ℤ) → Agrees (λ a. M.stepped a c step)
unfolding M.stepped
stepped_agrees c step h =
    bind_agrees (counter_number_agrees c h) (λ z. bind_agrees (value_of_agrees _ h) (λ next. bind_agrees (counter_value_agrees c next h) (λ v. assigned_agrees _ v h)))

limit_of_agrees : (limit : Option Y.Number) → Agrees (λ a. M.limit_of a limit)
unfolding M.limit_of
limit_of_agrees None h = give_agrees None
limit_of_agrees (Some e) h = bind_agrees (number_agrees e h) (λ z. give_agrees _)

within_limit_agrees : (c : Y.Counter) (limit : Option ℤ) (step : ℤ) → Agrees (λ a. M.within_limit a c limit step)
unfolding M.within_limit
within_limit_agrees c None step h = give_agrees true
within_limit_agrees c (Some limit) step h = bind_agrees (counter_number_agrees c h) (λ z. give_agrees _)

condition_met_agrees : (condition : Option Y.Bit) → Agrees (λ a. M.condition_met a condition)
unfolding M.condition_met
condition_met_agrees None h = give_agrees true
condition_met_agrees (Some e) h = bit_agrees e h

turn_due_agrees : (c : Y.Counter) (limit : Option ℤ) (step : ℤ) (condition : Option Y.Bit) → Agrees (λ a. M.turn_due a c limit step condition)
unfolding M.turn_due
turn_due_agrees c limit step condition h =
    then_agrees (act_agrees counted_shows) (bind_agrees (within_limit_agrees c limit step h) (λ within. choose_agrees within (condition_met_agrees condition h) (give_agrees false)))

once_agrees : (condition : Option Y.Bit) {body body' : Meaning (Unit {0})} (h : Ways) → Agree body body' → Agree (M.once (fewer h) condition body) (M.once (more h) condition body')
unfolding M.once
once_agrees None h a = a
once_agrees (Some e) h a = then_agrees (act_agrees counted_shows) (bind_agrees (bit_agrees e h) (λ met. choose_agrees met a (give_agrees tt)))

met_after_act_agrees : (e : Y.Bit) → Agrees (λ a. M.met_after_act a e)
unfolding M.met_after_act
met_after_act_agrees e h = then_agrees (act_agrees counted_shows) (bit_agrees e h)

list_with_agrees : (labels : List Label) {part part' : Option Label → Meaning (Unit {0})} (h : Ways) → ((x : Option Label) → Agree (part x) (part' x)) → ((x : Option Label) → Agree (part' x) (part' x)) → Agree (M.list_with (fewer h) labels part) (M.list_with (more h) labels part')
unfolding M.list_with
list_with_agrees labels h a a' = bind_agrees looked_agrees (λ s. list_agrees h.turns h.turns' _ labels None h.no_fewer a a')

established_by_agrees : (c : Condition) (change : List Activation → List Activation) → Agree (M.established_by c change) (M.established_by c change)
unfolding M.established_by
established_by_agrees c change = then_agrees (act_agrees counted_shows) (stored_agrees _)

signalled_agrees : (c : Condition) → Agrees (λ a. M.signalled a c)
unfolding M.signalled
signalled_agrees C.Area h = raised_agrees C.Area _ h
signalled_agrees C.FixedOverflow h = raised_agrees C.FixedOverflow _ h
signalled_agrees C.ZeroDivide h = raised_agrees C.ZeroDivide _ h
signalled_agrees C.Endfile h = raised_agrees C.Endfile _ h
signalled_agrees C.Error h = error_agrees _ h

mutual
  unfolding M.statement M.statements

  statement_agrees : (x : Y.Stmt) → Agrees (λ a. M.statement a x)
  statement_agrees (Y.Null line) h = act_agrees counted_shows
  statement_agrees (Y.Assign target source line) h =
      then_agrees (act_agrees counted_shows) (bind_agrees (stored_value_agrees source (on_line line h)) (λ v. assigned_agrees target v (on_line line h)))
  statement_agrees (Y.AssignElements target source line) h =
      then_agrees (act_agrees counted_shows) (bind_agrees (stored_value_agrees source (on_line line h)) (λ v. elements_assigned_agrees target v (on_line line h)))
  statement_agrees (Y.AssignAggregate target source line) h = then_agrees (act_agrees counted_shows) (aggregate_assigned_agrees target source (on_line line h))
  statement_agrees (Y.AssignArea target source line) h = then_agrees (act_agrees counted_shows) (area_assigned_agrees target source (on_line line h))
  statement_agrees (Y.EmptyArea target line) h = then_agrees (act_agrees counted_shows) (area_emptied_agrees target (on_line line h))
  statement_agrees (Y.If condition unit line) h =
      then_agrees (act_agrees counted_shows) (bind_agrees (bit_agrees condition (on_line line h)) (λ met. choose_agrees met (statement_agrees unit h) (give_agrees tt)))
  statement_agrees (Y.IfElse condition unit otherwise line) h =
      then_agrees (act_agrees counted_shows) (bind_agrees (bit_agrees condition (on_line line h)) (λ met. choose_agrees met (statement_agrees unit h) (statement_agrees otherwise h)))
  statement_agrees (Y.Do body line) h =
      then_agrees (act_agrees counted_shows) (list_with_agrees _ h (λ x. statements_agree body x h) (λ x. statements_agree body x (twice h)))
  statement_agrees (Y.DoWhile condition body line) h =
      then_agrees (act_agrees counted_shows) (while_agrees h.turns h.turns' h.no_fewer
      (met_after_act_agrees condition (on_line line h))
      (list_with_agrees _ h (λ x. statements_agree body x h) (λ x. statements_agree body x (twice h)))
      (met_after_act_agrees condition (on_line line (twice h)))
      (list_with_agrees _ (twice h) (λ x. statements_agree body x (twice h)) (λ x. statements_agree body x (twice h))))
  statement_agrees (Y.DoOnce variable start condition body line) h =
      then_agrees (act_agrees counted_shows) (bind_agrees (stored_value_agrees start (on_line line h)) (λ v. then_agrees (assigned_agrees variable v (on_line line h))
      (once_agrees condition (on_line line h) (list_with_agrees _ h (λ x. statements_agree body x h) (λ x. statements_agree body x (twice h))))))
  statement_agrees (Y.DoCount counter start limit step condition body line) h =
      then_agrees (act_agrees counted_shows) (bind_agrees (computational_agrees start (on_line line h)) (λ v.
      bind_agrees (limit_of_agrees limit (on_line line h)) (λ most. bind_agrees (number_agrees step (on_line line h)) (λ by.
      bind_agrees (counter_started_agrees counter v (on_line line h)) (λ first.
      then_agrees (assigned_agrees _ first (on_line line h)) (while_agrees h.turns h.turns' h.no_fewer
      (turn_due_agrees counter most by condition (on_line line h))
      (then_agrees (list_with_agrees _ h (λ x. statements_agree body x h) (λ x. statements_agree body x (twice h))) (stepped_agrees counter by (on_line line h)))
      (turn_due_agrees counter most by condition (on_line line (twice h)))
      (then_agrees (list_with_agrees _ (twice h) (λ x. statements_agree body x (twice h)) (λ x. statements_agree body x (twice h))) (stepped_agrees counter by (on_line line (twice h))))))))))
  statement_agrees (Y.Begin (Y.BlockOf head body)) h =
      then_agrees (act_agrees counted_shows) (bind_agrees looked_agrees (λ s. then_agrees (h.agree _) (give_agrees tt)))
  statement_agrees (Y.OnSystem c line) h = established_by_agrees c _
  statement_agrees (Y.OnUnit c unit line) h = established_by_agrees c _
  statement_agrees (Y.CallProcedure call line) h = then_agrees (act_agrees counted_shows) (then_agrees (called_agrees call (on_line line h)) (give_agrees tt))
  statement_agrees (Y.Return line) h = then_agrees (act_agrees counted_shows) (returns_agrees None)
  statement_agrees (Y.ReturnValue type source line) h =
      then_agrees (act_agrees counted_shows) (bind_agrees (stored_value_agrees source (on_line line h)) (λ v. returns_agrees _))
  statement_agrees (Y.Goto level label line) h = then_agrees (act_agrees counted_shows) (bind_agrees looked_agrees (λ s. jumps_agrees _ label))
  statement_agrees (Y.Stop line) h = then_agrees (act_agrees counted_shows) (finish_agrees E.Stopped (λ e. cc e))
  statement_agrees (Y.Signal c line) h = then_agrees (act_agrees counted_shows) (signalled_agrees c (on_line line h))
  statement_agrees (Y.Revert c line) h = established_by_agrees c _
  statement_agrees (Y.Allocate all line) h = then_agrees (act_agrees counted_shows) (allocations_agree all (on_line line h))
  statement_agrees (Y.Free all line) h = then_agrees (act_agrees counted_shows) (freeings_agree all (on_line line h))
  statement_agrees (Y.Get skip pairs line) h = then_agrees (act_agrees counted_shows) (get_agrees skip pairs (on_line line h))
  statement_agrees (Y.Put skip pairs line) h = then_agrees (act_agrees counted_shows) (put_agrees skip pairs (on_line line h))

  statements_agree : (xs : Y.Stmts) (from : Option Label) → Agrees (λ a. M.statements a xs from)
  statements_agree (Y.EndOfList labels) from h = give_agrees tt
  statements_agree (Y.StmtThen labels first rest) from h =
      choose_agrees _ (then_agrees (statement_agrees first h) (statements_agree rest None h)) (statements_agree rest from h)

list_agrees_with : (xs : Y.Stmts) → Agrees (λ a. M.list a xs)
unfolding M.list
list_agrees_with xs h = list_with_agrees _ h (λ x. statements_agree xs x h) (λ x. statements_agree xs x (twice h))

-- ---- blocks

block_variables_made_agree : (head : Y.BlockHead) (kind : Y.BlockKind) → Agrees (λ a. M.block_variables_made a head kind)
unfolding M.block_variables_made
block_variables_made_agree head Y.ProcedureBlock h = variables_made_agree 0 _ h
block_variables_made_agree head Y.BeginBlock h = variables_made_agree 0 _ h
block_variables_made_agree head Y.UnitBlock h = variables_made_agree 0 _ h
block_variables_made_agree head Y.SimpleUnit h = give_agrees tt

entry_act_agrees : (kind : Y.BlockKind) → Agree (M.entry_act kind) (M.entry_act kind)
unfolding M.entry_act
entry_act_agrees Y.ProcedureBlock = act_agrees counted_shows
entry_act_agrees Y.BeginBlock = give_agrees tt
entry_act_agrees Y.UnitBlock = act_agrees counted_shows
entry_act_agrees Y.SimpleUnit = act_agrees counted_shows

block_list_agrees : (xs : Y.Stmts) (is_function : Bool) → Agrees (λ a. M.block_list a xs is_function)
unfolding M.block_list
block_list_agrees xs false h = list_agrees_with xs h
block_list_agrees xs true h =
    list_with_agrees _ h (λ x. then_agrees (statements_agree xs x h) (error_agrees _ h))
    (λ x. then_agrees (statements_agree xs x (twice h)) (error_agrees _ (twice h)))

block_body_agrees : (head : Y.BlockHead) (body : Y.Stmts) (entry : Entry) → Agrees (λ a. M.block_body a head body entry)
unfolding M.block_body
block_body_agrees head body entry h =
    then_agrees (parameters_bound_agree entry.parameters entry.arguments) (then_agrees (block_variables_made_agree head head.kind h)
    (then_agrees (entry_act_agrees head.kind) (block_list_agrees body entry.is_function h)))

block_run_agrees : (b : Y.Block) (entry : Entry) → Agrees (λ a. M.block_run a b entry)
unfolding M.block_run
block_run_agrees (Y.BlockOf head body) entry h =
    bind_agrees looked_agrees (λ s. choose_agrees _
    (then_agrees (stored_agrees _) (leaving_agrees _ _ (block_body_agrees head body entry (on_line head.line h))))
    (finish_agrees (E.Limit L.Depth) (λ e. cc e)))

abbrev ways_of : (p : Y.Program) (n n' : ℕ) → n ≤ n' → ((entry : Entry) → Agree (M.entered p n entry) (M.entered p n' entry)) → ((entry : Entry) → Agree (M.entered p n' entry) (M.entered p n' entry)) → Ways
ways_of p n n' i a a' =
    record {
      program = p;
      line = 0;
      enter = M.entered p n;
      enter' = M.entered p n';
      turns = suc n;
      turns' = suc n';
      agree = a;
      selves = a';
      no_fewer = omega (arith, i);
    }

entered_self : (p : Y.Program) (n : ℕ) (entry : Entry) → Agree (M.entered p n entry) (M.entered p n entry)
unfolding M.entered
entered_self p zero entry = stuck_self
entered_self p (suc n) entry = block_run_agrees entry.block entry (ways_of p n n (omega arith) (entered_self p n) (entered_self p n))

entered_agree : (p : Y.Program) (n n' : ℕ) → n ≤ n' → (entry : Entry) → Agree (M.entered p n entry) (M.entered p n' entry)
unfolding M.entered
entered_agree p zero n' i entry = stuck_agrees (M.entered p n' entry) ((entered_self p n' entry).later)
entered_agree p (suc n) zero i entry = absurd (omega arith)
entered_agree p (suc n) (suc n') i entry =
    block_run_agrees entry.block entry (ways_of p n n' (omega arith) (entered_agree p n n' (omega arith)) (entered_self p n'))

pub run_agrees : (p : Y.Program) (n n' : ℕ) → n ≤ n' → Agree (M.run p n) (M.run p n')
unfolding M.run
run_agrees p n n' i =
    given_agrees _ (λ main. then_agrees (stored_agrees _) (then_agrees (entered_agree p n n' i (M.begun main.block 0)) (finish_agrees E.Finished (λ e. cc e)))) stuck_self
