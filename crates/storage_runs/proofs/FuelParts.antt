-- Expressions, what changes storage, and streams are the same with more turns and levels, where these are enough for
-- the acts that are allowed: walked over the language.
use Rattle.std.proofs.Common.{ℕ, zero, suc, ◌+◌, ◌<◌, ◌≤◌, ℤ, List, [], ◌∷◌, ◌++◌, Option, Some, None, Bool, true}
use Rattle.std.proofs.Common.{false}
use Rattle.std.proofs.Common.{refl, arith}
use Rattle.pli_language.specs.declared.condition.Condition.{Condition}
use Rattle.pli_language.specs.declared.condition.Condition.TheVariants as C
use Rattle.pli_meaning.specs.declared.outcome.End.TheVariants as E
use Rattle.pli_meaning.specs.declared.outcome.Limit.TheVariants as L
use Rattle.pli_meaning.specs.World.{counted, raising}
use Rattle.pli_meaning.specs.Numbers.{Checked, Gives, Raises}
use Rattle.pli_typing.specs.Signatures as D
use Rattle.pli_typing.specs.Signatures.{LeafKind}
use Rattle.pli_typing.specs.TypedTree as Y
use Rattle.pli_meaning.specs.BasicValues.{Name, NullName, VariableName, BasedName, BasicValue}
use Rattle.pli_meaning.specs.Contents.{Shape, Generation}
use Rattle.pli_meaning.specs.StorageState.{OnUnit, SystemUnit, BlockUnit, Activation, force, AreaContents}
use Rattle.pli_meaning.specs.Control.{Meaning}
use Rattle.pli_meaning.specs.Raising as G
use Rattle.pli_meaning.specs.Raising.{Around, Enter, at_line, Entry, Passed, PassedName, PassedValue}
use Rattle.pli_meaning.specs.Evaluating as V
use Rattle.pli_meaning.specs.Making as K
use Rattle.pli_meaning.specs.Placing as A
use Rattle.pli_meaning.specs.StreamOrder.{Element}
use Rattle.pli_meaning.specs.Streaming as S
use Rattle.storage_runs.proofs.FuelSteps.{Same, loose, slow, give_same, stuck_same, bind_same, then_same, looked_same}
use Rattle.storage_runs.proofs.FuelSteps.{stored_same, act_same, act_then, finish_same}
use Rattle.storage_runs.proofs.FuelSteps.{choose_same, given_same}
use Rattle.storage_runs.proofs.FuelSteps.{fewer_left}

-- what stands around a part: blocks are the same with both ways to enter them, and the turns are enough
pub record Ways : Type 0 where
  pub program : Y.Program
  pub line : ℕ
  pub enter : Enter
  pub enter' : Enter
  pub turns : ℕ
  pub turns' : ℕ
  pub left : ℕ
  pub keeps : (entry : Entry) → Same 0 1 left (enter entry) (enter' entry)
  pub few : left < turns
  pub enough : left < turns'

abbrev pub fewer : Ways → Around
fewer w = record { program = w.program; enter = w.enter; turns = w.turns; line = w.line }

abbrev pub more : Ways → Around
more w = record { program = w.program; enter = w.enter'; turns = w.turns'; line = w.line }

abbrev pub on_line : ℕ → Ways → Ways
on_line line w =
    record {
      program = w.program;
      line = line;
      enter = w.enter;
      enter' = w.enter';
      turns = w.turns;
      turns' = w.turns';
      left = w.left;
      keeps = w.keeps;
      few = w.few;
      enough = w.enough;
    }

-- where fewer acts are left
abbrev pub smaller : (w : Ways) (c : ℕ) → c ≤ w.left → Ways
smaller w c r =
    record {
      program = w.program;
      line = w.line;
      enter = w.enter;
      enter' = w.enter';
      turns = w.turns;
      turns' = w.turns';
      left = c;
      keeps = λ entry. fewer_left c w.left r (w.keeps entry);
      few = omega (arith, r, w.few);
      enough = omega (arith, r, w.enough);
    }

-- a part is the same, whatever stands around it
abbrev pub SameAround : {R : Type 0} → (Around → Meaning R) → Type 0
SameAround f = (w : Ways) → Same 0 1 w.left (f (fewer w)) (f (more w))

-- ---- conditions

pub error_unit_run_same : {R : Type 0} (code : ℕ) (found : Option (Activation × OnUnit))
    → SameAround {R = R} (λ a. G.error_unit_run a code found)
unfolding G.error_unit_run
error_unit_run_same code None h = finish_same _
error_unit_run_same code (Some (x, SystemUnit)) h = finish_same _
error_unit_run_same code (Some (x, BlockUnit block)) h = then_same (h.keeps
    (G.unit_entered block x code)) (finish_same _)

pub error_same : {R : Type 0} (code : ℕ) → SameAround {R = R} (λ a. G.error a code)
unfolding G.error
error_same code h = then_same (act_same (raising C.Error code) (λ w. refl)) (bind_same looked_same
    (λ s. error_unit_run_same code (force s.activations C.Error) h))

unit_run_same : (code : ℕ) (found : Option (Activation × OnUnit)) → SameAround (λ a. G.unit_run a code found)
unfolding G.unit_run
unit_run_same code None h = error_same code h
unit_run_same code (Some (x, SystemUnit)) h = error_same code h
unit_run_same code (Some (x, BlockUnit block)) h = then_same (h.keeps (G.unit_entered block x code)) (give_same tt)

pub raised_same : (c : Condition) (code : ℕ) → SameAround (λ a. G.raised a c code)
unfolding G.raised
raised_same c code h =
    then_same (act_same (raising c code) (λ w. refl)) (bind_same looked_same (λ s. unit_run_same code
    (force s.activations c) h))

pub value_of_same : (v : Checked) → SameAround (λ a. G.value_of a v)
unfolding G.value_of
value_of_same (Gives z) h = give_same z
value_of_same (Raises c code after) h = then_same (raised_same c code h) (give_same after)

pub or_error_same : {X : Type 0} (code : ℕ) (o : Option X) → SameAround (λ a. G.or_error a code o)
unfolding G.or_error
or_error_same code None h = error_same code h
or_error_same code (Some x) h = give_same x

demanded_same : (code : ℕ) (met : Bool) → SameAround (λ a. G.demanded a code met)
unfolding G.demanded
demanded_same code met h = choose_same met (give_same tt) (error_same code h)

-- ---- references and arguments

part_designated_same : (n : Name) (shape : Shape) (part : Y.Part) (is : List ℤ)
    → SameAround (λ a. V.part_designated a n shape part is)
unfolding V.part_designated
part_designated_same n shape part is h =
    bind_same looked_same (λ s. bind_same (or_error_same _ _ h) (λ g. bind_same (or_error_same _ _ h)
    (λ z. then_same (demanded_same _ _ h) (give_same _))))

variable_designated_same : (v : Y.Variable) (name : Option Name) (part : Y.Part) (is : List ℤ)
    → SameAround (λ a. V.variable_designated a v name part is)
unfolding V.variable_designated
variable_designated_same v None part is h =
    bind_same looked_same (λ s. bind_same (or_error_same _ _ h)
    (λ b. part_designated_same b.name b.shape part is h))
variable_designated_same v (Some n) part is h =
    given_same _ (λ d. part_designated_same n _ part is h) stuck_same

area_meant_same : (v : Y.Variable) → SameAround (λ a. V.area_meant a v)
unfolding V.area_meant
area_meant_same v h = bind_same looked_same (λ s. or_error_same _ _ h)

passed_last_same : (all : List V.Evaluated) (x : V.Evaluated) → SameAround (λ a. V.passed_last a all x)
unfolding V.passed_last
passed_last_same all (V.EvaluatedArgument x) h = give_same x
passed_last_same all (V.NameInParameter n parameter) h = bind_same (or_error_same _ _ h) (λ o. give_same _)
passed_last_same all (V.NameInAutomatic n) h = bind_same (or_error_same _ _ h) (λ o. give_same _)

all_passed_last_same : (all rest : List V.Evaluated) → SameAround (λ a. V.all_passed_last a all rest)
unfolding V.all_passed_last
all_passed_last_same all [] h = give_same []
all_passed_last_same all (x ∷ xs) h =
    bind_same (passed_last_same all x h) (λ y. bind_same (all_passed_last_same all xs h) (λ ys. give_same _))

procedure_entered_same : (q : Option Y.Procedure) (level : ℕ) (passed : List Passed)
    → SameAround (λ a. V.procedure_entered a q level passed)
unfolding V.procedure_entered
procedure_entered_same None level passed h = stuck_same
procedure_entered_same (Some q) level passed h = bind_same looked_same (λ s. h.keeps _)

returned_same : {few : ℕ} (v : Option BasicValue) → Same 0 1 few (V.returned v) (V.returned v)
unfolding V.returned
returned_same None = stuck_same
returned_same (Some v) = give_same v

-- ---- expressions

mutual
  unfolding V.number V.numbers V.text V.bit V.pointer V.offset V.designated V.located V.called V.arguments
      V.argument V.stored_value

  pub number_same : (x : Y.Number) → SameAround (λ a. V.number a x)
  number_same (Y.NumberConstant c) h = give_same _
  number_same (Y.NumberIn r) h = bind_same (designated_same r h) (λ d. give_same _)
  number_same (Y.NumberFrom c) h = bind_same (called_same c h) (λ v. bind_same (returned_same v) (λ y. give_same _))
  number_same (Y.NumberOfText t) h = bind_same (text_same t h) (λ y. or_error_same _ _ h)
  number_same (Y.NumberOfBit b) h = bind_same (bit_same b h) (λ y. give_same _)
  number_same (Y.Signed sign x) h = bind_same (number_same x h) (λ z. value_of_same _ h)
  number_same (Y.Calculated o x y) h = bind_same (number_same x h) (λ u. bind_same (number_same y h)
      (λ v. value_of_same _ h))
  number_same (Y.Absolute x) h = bind_same (number_same x h) (λ z. value_of_same _ h)
  number_same (Y.SignOf x) h = bind_same (number_same x h) (λ z. give_same _)
  number_same (Y.Extreme o x more) h = bind_same (number_same x h) (λ z. bind_same (numbers_sames more h)
      (λ zs. give_same _))
  number_same (Y.Modulo x y) h = bind_same (number_same x h) (λ u. bind_same (number_same y h)
      (λ v. value_of_same _ h))
  number_same (Y.Divided precision x y) h = bind_same (number_same x h) (λ u. bind_same (number_same y h)
      (λ v. value_of_same _ h))
  number_same (Y.LengthOf t) h = bind_same (text_same t h) (λ y. give_same _)
  number_same (Y.IndexOf s t) h = bind_same (text_same s h) (λ u. bind_same (text_same t h) (λ v. give_same _))
  number_same (Y.VerifyOf s t) h = bind_same (text_same s h) (λ u. bind_same (text_same t h) (λ v. give_same _))
  number_same (Y.LowerBound r dimension) h = bind_same (designated_same r h) (λ d. given_same _
      (λ b. give_same _) stuck_same)
  number_same (Y.UpperBound r dimension) h = bind_same (designated_same r h) (λ d. given_same _
      (λ b. give_same _) stuck_same)
  number_same (Y.ElementsOf r dimension) h = bind_same (designated_same r h) (λ d. given_same _
      (λ b. value_of_same _ h) stuck_same)
  number_same (Y.AllocationsOf v) h = bind_same looked_same (λ s. give_same _)
  number_same Y.OnCode h = bind_same looked_same (λ s. give_same _)

  numbers_sames : (xs : Y.Numbers) → SameAround (λ a. V.numbers a xs)
  numbers_sames Y.NoNumber h = give_same []
  numbers_sames (Y.NumberThen x xs) h = bind_same (number_same x h) (λ z. bind_same (numbers_sames xs h)
      (λ zs. give_same _))

  text_same : (x : Y.Text) → SameAround (λ a. V.text a x)
  text_same (Y.TextConstant bytes) h = give_same bytes
  text_same (Y.TextIn r) h = bind_same (designated_same r h) (λ d. give_same _)
  text_same (Y.TextFrom c) h = bind_same (called_same c h) (λ v. bind_same (returned_same v) (λ y. give_same _))
  text_same (Y.TextOfNumber precision x) h = bind_same (number_same x h) (λ z. give_same _)
  text_same (Y.TextOfBit b) h = bind_same (bit_same b h) (λ y. give_same _)
  text_same (Y.Joined s t) h = bind_same (text_same s h) (λ u. bind_same (text_same t h) (λ v. or_error_same _ _ h))
  text_same (Y.SubstringFrom t from) h = bind_same (text_same t h) (λ u. bind_same (number_same from h)
      (λ v. or_error_same _ _ h))
  text_same (Y.Substring t from size) h =
      bind_same (text_same t h) (λ u. bind_same (number_same from h) (λ v. bind_same (number_same size h)
      (λ w. or_error_same _ _ h)))

  pub bit_same : (x : Y.Bit) → SameAround (λ a. V.bit a x)
  bit_same (Y.BitConstant b) h = give_same b
  bit_same (Y.BitIn r) h = bind_same (designated_same r h) (λ d. give_same _)
  bit_same (Y.BitFrom c) h = bind_same (called_same c h) (λ v. bind_same (returned_same v) (λ y. give_same _))
  bit_same (Y.BitOfText t) h = bind_same (text_same t h) (λ y. or_error_same _ _ h)
  bit_same (Y.Negated x) h = bind_same (bit_same x h) (λ y. give_same _)
  bit_same (Y.Combined Y.Conjunction x y) h = bind_same (bit_same x h) (λ u. bind_same (bit_same y h)
      (λ v. give_same _))
  bit_same (Y.Combined Y.Disjunction x y) h = bind_same (bit_same x h) (λ u. bind_same (bit_same y h)
      (λ v. give_same _))
  bit_same (Y.NumbersCompared o x y) h = bind_same (number_same x h) (λ u. bind_same (number_same y h)
      (λ v. give_same _))
  bit_same (Y.TextsCompared o x y) h = bind_same (text_same x h) (λ u. bind_same (text_same y h) (λ v. give_same _))
  bit_same (Y.BitsCompared o x y) h = bind_same (bit_same x h) (λ u. bind_same (bit_same y h) (λ v. give_same _))
  bit_same (Y.PointersCompared equal x y) h = bind_same (pointer_same x h) (λ u. bind_same (pointer_same y h)
      (λ v. give_same _))
  bit_same (Y.OffsetsCompared equal x y) h = bind_same (offset_same x h) (λ u. bind_same (offset_same y h)
      (λ v. give_same _))

  pointer_same : (x : Y.Pointer) → SameAround (λ a. V.pointer a x)
  pointer_same Y.NullPointer h = give_same _
  pointer_same (Y.PointerIn r) h = bind_same (designated_same r h) (λ d. give_same _)
  pointer_same (Y.PointerFrom c) h = bind_same (called_same c h) (λ v. bind_same (returned_same v)
      (λ y. give_same _))
  pointer_same (Y.AddressOf r) h = bind_same (designated_same r h) (λ d. give_same _)
  pointer_same (Y.PointerInto x area) h = bind_same (offset_same x h) (λ o. bind_same (area_meant_same area h)
      (λ b. give_same _))

  offset_same : (x : Y.Offset) → SameAround (λ a. V.offset a x)
  offset_same Y.NullOffset h = give_same _
  offset_same (Y.OffsetIn r) h = bind_same (designated_same r h) (λ d. give_same _)
  offset_same (Y.OffsetFrom c) h = bind_same (called_same c h) (λ v. bind_same (returned_same v) (λ y. give_same _))
  offset_same (Y.OffsetInto x area) h = bind_same (pointer_same x h) (λ o. bind_same (area_meant_same area h)
      (λ b. or_error_same _ _ h))

  pub designated_same : (x : Y.Reference) → SameAround (λ a. V.designated a x)
  designated_same (Y.Referring v locator part subscripts) h =
      bind_same (located_same locator h) (λ n. bind_same (numbers_sames subscripts h)
      (λ is. variable_designated_same v n part is h))

  located_same : (x : Y.Locator) → SameAround (λ a. V.located a x)
  located_same Y.NotLocated h = give_same _
  located_same (Y.LocatedBy x) h = bind_same (pointer_same x h) (λ n. give_same _)

  pub called_same : (x : Y.Call) → SameAround (λ a. V.called a x)
  called_same (Y.Calling procedure level xs) h =
      bind_same (arguments_sames xs h) (λ es. bind_same (all_passed_last_same es es h)
      (λ ps. procedure_entered_same _ level ps h))

  arguments_sames : (xs : Y.Arguments) → SameAround (λ a. V.arguments a xs)
  arguments_sames Y.NoArgument h = give_same []
  arguments_sames (Y.ArgumentThen x xs) h = bind_same (argument_same x h) (λ y. bind_same (arguments_sames xs h)
      (λ ys. give_same _))

  argument_same : (x : Y.Argument) → SameAround (λ a. V.argument a x)
  argument_same (Y.ByReference r) h = bind_same (designated_same r h) (λ d. give_same _)
  argument_same (Y.ByCopy t x) h = bind_same (stored_value_same x h) (λ v. give_same _)
  argument_same (Y.ByOffsetInParameter x parameter) h = bind_same (pointer_same x h) (λ n. give_same _)
  argument_same (Y.ByOffsetInAutomatic x) h = bind_same (pointer_same x h) (λ n. give_same _)

  pub stored_value_same : (x : Y.Stored) → SameAround (λ a. V.stored_value a x)
  stored_value_same (Y.StoredNumber precision x) h = bind_same (number_same x h) (λ z. bind_same
      (value_of_same _ h) (λ y. give_same _))
  stored_value_same (Y.StoredText x) h = bind_same (text_same x h) (λ t. give_same _)
  stored_value_same (Y.StoredBit x) h = bind_same (bit_same x h) (λ b. give_same _)
  stored_value_same (Y.StoredPointer x) h = bind_same (pointer_same x h) (λ n. give_same _)
  stored_value_same (Y.StoredOffset x) h = bind_same (offset_same x h) (λ o. give_same _)

-- ---- generations that come about

pub evaluations_sames : (values : List ℤ) (xs : List Y.Evaluation) → SameAround (λ a. K.evaluations a values xs)
unfolding K.evaluations
evaluations_sames values [] h = give_same values
evaluations_sames values (x ∷ xs) h =
    bind_same (number_same x.value h) (λ z. then_same (demanded_same _ _ h) (evaluations_sames
    (values ++ z ∷ []) xs h))

extents_sames : (xs : List Y.Evaluation) → SameAround (λ a. K.extents a xs)
unfolding K.extents
extents_sames [] h = give_same []
extents_sames (x ∷ xs) h = then_same (act_same counted (λ w. refl)) (evaluations_sames [] (x ∷ xs) h)

pub variable_made_same : {few : ℕ} (variable : ℕ) (g : Generation)
    → Same 0 1 few (K.variable_made variable g) (K.variable_made variable g)
unfolding K.variable_made
variable_made_same variable g =
    bind_same looked_same (λ s. choose_same _ (stored_same _) (finish_same (E.Limit L.Automatic)))

automatic_made_same : (variable : ℕ) (d : Y.DeclaredVariable) (class : Y.StorageClass)
    → SameAround (λ a. K.automatic_made a variable d class)
unfolding K.automatic_made
automatic_made_same variable d Y.AutomaticClass h = bind_same (extents_sames d.evaluations h)
    (λ values. variable_made_same variable _)
automatic_made_same variable d Y.ParameterClass h = give_same tt
automatic_made_same variable d Y.StaticClass h = give_same tt
automatic_made_same variable d Y.BasedClass h = give_same tt
automatic_made_same variable d Y.ControlledClass h = give_same tt

variables_made_sames : (variable : ℕ) (ds : List Y.DeclaredVariable)
    → SameAround (λ a. K.variables_made a variable ds)
unfolding K.variables_made
variables_made_sames variable [] h = give_same tt
variables_made_sames variable (d ∷ ds) h =
    then_same (automatic_made_same variable d d.class h) (variables_made_sames (variable + 1) ds h)

parameter_bound_same : {few : ℕ} (variable : ℕ) (x : Passed)
    → Same 0 1 few (K.parameter_bound variable x) (K.parameter_bound variable x)
unfolding K.parameter_bound
parameter_bound_same variable (PassedName n shape) = stored_same _
parameter_bound_same variable (PassedValue kind v) = variable_made_same variable _

pub parameters_bound_sames : {few : ℕ} (vs : List ℕ) (xs : List Passed)
    → Same 0 1 few (K.parameters_bound vs xs) (K.parameters_bound vs xs)
unfolding K.parameters_bound
parameters_bound_sames [] [] = give_same tt
parameters_bound_sames (v ∷ vs) (x ∷ xs) = then_same (parameter_bound_same v x) (parameters_bound_sames vs xs)
parameters_bound_sames [] (x ∷ xs) = stuck_same
parameters_bound_sames (v ∷ vs) [] = stuck_same

-- ---- storage that changes

pub element_stored_same : {few : ℕ} (d : V.Designated) (v : BasicValue)
    → Same 0 1 few (A.element_stored d v) (A.element_stored d v)
unfolding A.element_stored
element_stored_same d v = stored_same _

pub elements_stored_same : {few : ℕ} (d : V.Designated) (values : ℕ → List ℤ → BasicValue)
    → Same 0 1 few (A.elements_stored d values) (A.elements_stored d values)
unfolding A.elements_stored
elements_stored_same d values = stored_same _

pub aggregate_assigned_same : (target source : Y.Reference) → SameAround (λ a. A.aggregate_assigned a target source)
unfolding A.aggregate_assigned
aggregate_assigned_same target source h =
    bind_same (designated_same source h) (λ e. bind_same (designated_same target h) (λ d. then_same
    (demanded_same _ _ h) (elements_stored_same d _)))

area_copied_same : (target : ℕ) (into from : AreaContents) → SameAround (λ a. A.area_copied a target into from)
unfolding A.area_copied
area_copied_same target into from h = choose_same _ (stored_same _) (raised_same C.Area _ h)

pub area_assigned_same : (target source : Y.Variable) → SameAround (λ a. A.area_assigned a target source)
unfolding A.area_assigned
area_assigned_same target source h =
    bind_same (area_meant_same source h) (λ x. bind_same (area_meant_same target h) (λ y. bind_same looked_same
    (λ s.
    bind_same (or_error_same _ _ h) (λ from. bind_same (or_error_same _ _ h) (λ into. choose_same _
    (give_same tt) (area_copied_same y into from h))))))

pub area_emptied_same : (target : Y.Variable) → SameAround (λ a. A.area_emptied a target)
unfolding A.area_emptied
area_emptied_same target h = bind_same (area_meant_same target h) (λ x. stored_same _)

-- each time that AREA is raised makes acts
placing_same : (n n' area : ℕ) (g : Generation) (w : Ways) → w.left < n → w.left < n'
    → Same 0 1 w.left (A.placing n (fewer w) area g) (A.placing n' (more w) area g)
unfolding A.placing
placing_same zero n' area g h few enough = absurd (omega (arith, few))
placing_same (suc n) zero area g h few enough = absurd (omega (arith, enough))
placing_same (suc n) (suc n') area g h few enough =
    bind_same looked_same (λ s. bind_same (or_error_same _ _ h) (λ x. given_same _
    (λ o. then_same (stored_same _) (give_same o))
    (choose_same _ (error_same _ h) (then_same (raised_same C.Area _ h) (slow (act_then counted (λ w. refl)
    (λ c e. loose
    (placing_same n n' area g (smaller h c (omega (arith, e))) (omega (arith, e, few)) (omega
    (arith, e, enough))))))))))

area_or_heap_same : (area : Option Y.Variable) → SameAround (λ a. A.area_or_heap a area)
unfolding A.area_or_heap
area_or_heap_same None h = give_same _
area_or_heap_same (Some v) h = area_meant_same v h

locator_set_same : (target : Y.LocatorTarget) (n : Name) → SameAround (λ a. A.locator_set a target n)
unfolding A.locator_set
locator_set_same (Y.SetPointer r) n h = bind_same (designated_same r h) (λ d. element_stored_same d _)
locator_set_same (Y.SetOffset r area) n h =
    bind_same (area_meant_same area h) (λ x. bind_same (or_error_same _ _ h) (λ o. bind_same
    (designated_same r h) (λ d. element_stored_same d _)))

based_allocated_same : (d : Y.DeclaredVariable) (area : Option Y.Variable) (target : Y.LocatorTarget)
    → SameAround (λ a. A.based_allocated a d area target)
unfolding A.based_allocated
based_allocated_same d area target h =
    bind_same (extents_sames d.evaluations h) (λ values. then_same (demanded_same _ _ h)
    (bind_same (area_or_heap_same area h) (λ x.
    bind_same (placing_same h.turns h.turns' x _ h h.few h.enough) (λ o. locator_set_same target _ h))))

controlled_allocated_same : (v : Y.Variable) (d : Y.DeclaredVariable)
    → SameAround (λ a. A.controlled_allocated a v d)
unfolding A.controlled_allocated
controlled_allocated_same v d h =
    bind_same (extents_sames d.evaluations h) (λ values. bind_same
    (placing_same h.turns h.turns' _ _ h h.few h.enough) (λ o. stored_same _))

allocation_same : (x : Y.Allocation) → SameAround (λ a. A.allocation a x)
unfolding A.allocation
allocation_same (Y.AllocateBased v area target) h = given_same _
    (λ d. based_allocated_same d area target h) stuck_same
allocation_same (Y.AllocateControlled v) h = given_same _ (λ d. controlled_allocated_same v d h) stuck_same

pub allocations_sames : (xs : List Y.Allocation) → SameAround (λ a. A.allocations a xs)
unfolding A.allocations
allocations_sames [] h = give_same tt
allocations_sames (x ∷ xs) h = then_same (allocation_same x h) (allocations_sames xs h)

name_freed_same : (n : Name) (area : Option ℕ) → SameAround (λ a. A.name_freed a n area)
unfolding A.name_freed
name_freed_same NullName area h = error_same _ h
name_freed_same (VariableName serial) area h = error_same _ h
name_freed_same (BasedName x o) None h = stored_same _
name_freed_same (BasedName x o) (Some y) h = choose_same _ (stored_same _) (error_same _ h)

area_if_same : (area : Option Y.Variable) → SameAround (λ a. A.area_if a area)
unfolding A.area_if
area_if_same None h = give_same None
area_if_same (Some v) h = bind_same (area_meant_same v h) (λ x. give_same _)

based_freed_same : (d : Y.DeclaredVariable) (locator : Y.Pointer) (area : Option Y.Variable)
    → SameAround (λ a. A.based_freed a d locator area)
unfolding A.based_freed
based_freed_same d locator area h =
    bind_same (pointer_same locator h) (λ n. bind_same looked_same (λ s. then_same (or_error_same _ _ h)
    (bind_same (area_if_same area h) (λ x. name_freed_same n x h))))

freeing_same : (x : Y.Freeing) → SameAround (λ a. A.freeing a x)
unfolding A.freeing
freeing_same (Y.FreeBased v locator area) h = given_same _ (λ d. based_freed_same d locator area h) stuck_same
freeing_same (Y.FreeControlled v) h = stored_same _

pub freeings_sames : (xs : List Y.Freeing) → SameAround (λ a. A.freeings a xs)
unfolding A.freeings
freeings_sames [] h = give_same tt
freeings_sames (x ∷ xs) h = then_same (freeing_same x h) (freeings_sames xs h)

-- ---- streams

control_put_same : {few : ℕ} (c : S.ControlItem) → Same 0 1 few (S.control_put c) (S.control_put c)
unfolding S.control_put
control_put_same c = act_same _ (λ w. refl)

control_got_same : {few : ℕ} (c : S.ControlItem) → Same 0 1 few (S.control_got c) (S.control_got c)
unfolding S.control_got
control_got_same c = then_same (act_same counted (λ w. refl)) (stored_same _)

controls_sames : {few : ℕ} (carried_out : S.ControlItem → Meaning (Unit {0})) (xs : List S.FormatItem)
    → ((c : S.ControlItem) → Same 0 1 few (carried_out c) (carried_out c))
    → Same 0 1 few (S.controls carried_out xs) (S.controls carried_out xs)
unfolding S.controls
controls_sames carried_out [] a = give_same None
controls_sames carried_out (S.DataFormat f ∷ xs) a = give_same _
controls_sames carried_out (S.ControlFormat c ∷ xs) a = then_same (a c) (controls_sames carried_out xs a)

next_item_same : {few : ℕ} (carried_out : S.ControlItem → Meaning (Unit {0})) (whole rest : List S.FormatItem)
    → ((c : S.ControlItem) → Same 0 1 few (carried_out c) (carried_out c))
    → Same 0 1 few (S.next_item carried_out whole rest) (S.next_item carried_out whole rest)
unfolding S.next_item
next_item_same carried_out whole rest a =
    bind_same (controls_sames carried_out rest a) (λ found. given_same found (λ x. give_same x)
    (bind_same (controls_sames carried_out whole a) (λ again. given_same again (λ x. give_same x) stuck_same)))

shown_by_same : (v : V.Computational) (f : S.DataItem) → SameAround (λ a. S.shown_by a v f)
unfolding S.shown_by
shown_by_same v (S.FixedItem width) h =
    bind_same (or_error_same _ _ h) (λ z. bind_same (or_error_same _ _ h) (λ field. act_same _ (λ w. refl)))
shown_by_same v (S.TextItem None) h = act_same _ (λ w. refl)
shown_by_same v (S.TextItem (Some width)) h = act_same _ (λ w. refl)

pub computational_same : (x : Y.Value) → SameAround (λ a. V.computational a x)
unfolding V.computational
computational_same (Y.NumberValue precision e) h = bind_same (number_same e h) (λ z. give_same _)
computational_same (Y.TextValue e) h = bind_same (text_same e h) (λ t. give_same _)
computational_same (Y.BitValue e) h = bind_same (bit_same e h) (λ b. give_same _)
computational_same (Y.PointerValue e) h = stuck_same
computational_same (Y.OffsetValue area e) h = stuck_same
computational_same Y.NullValue h = stuck_same

element_designated_same : (d : V.Designated) (x : Element) → SameAround (λ a. S.element_designated a d x)
unfolding S.element_designated
element_designated_same d x h =
    bind_same looked_same (λ s. bind_same (or_error_same _ _ h) (λ g. then_same (demanded_same _ _ h)
    (give_same _)))

element_put_same : (whole rest : List S.FormatItem) (d : V.Designated)
    → SameAround (λ a. S.element_put a whole rest d)
unfolding S.element_put
element_put_same whole rest d h =
    given_same _ (λ v. bind_same (next_item_same S.control_put whole rest control_put_same)
    (λ next. then_same (shown_by_same v next.0 h) (give_same next.1))) stuck_same

elements_put_sames : (whole rest : List S.FormatItem) (d : V.Designated) (xs : List Element)
    → SameAround (λ a. S.elements_put a whole rest d xs)
unfolding S.elements_put
elements_put_sames whole rest d [] h = give_same rest
elements_put_sames whole rest d (x ∷ xs) h =
    bind_same (element_designated_same d x h) (λ now. bind_same (element_put_same whole rest now h)
    (λ rest'. elements_put_sames whole rest' d xs h))

item_put_same : (whole rest : List S.FormatItem) (x : Y.PutItem) → SameAround (λ a. S.item_put a whole rest x)
unfolding S.item_put
item_put_same whole rest (Y.PutValue e) h =
    bind_same (computational_same e h) (λ v. bind_same (next_item_same S.control_put whole rest control_put_same)
    (λ next. then_same (shown_by_same v next.0 h) (give_same next.1)))
item_put_same whole rest (Y.PutAggregate (Y.Referring v locator part subscripts)) h =
    bind_same (designated_same (Y.Referring v locator part subscripts) h) (λ d. elements_put_sames whole rest d _ h)

items_put_sames : (whole rest : List S.FormatItem) (xs : List Y.PutItem)
    → SameAround (λ a. S.items_put a whole rest xs)
unfolding S.items_put
items_put_sames whole rest [] h = give_same tt
items_put_sames whole rest (x ∷ xs) h = bind_same (item_put_same whole rest x h)
    (λ rest'. items_put_sames whole rest' xs h)

pairs_put_sames : (xs : List Y.PutPair) → SameAround (λ a. S.pairs_put a xs)
unfolding S.pairs_put
pairs_put_sames [] h = give_same tt
pairs_put_sames (x ∷ xs) h = then_same (items_put_sames (S.format_items x.formats)
    (S.format_items x.formats) x.items h) (pairs_put_sames xs h)

pub put_same : (skip : Option ℕ) (xs : List Y.PutPair) → SameAround (λ a. S.put a skip xs)
unfolding S.put
put_same None xs h = pairs_put_sames xs h
put_same (Some n) xs h = then_same (control_put_same (S.SkipItem n)) (pairs_put_sames xs h)

field_taken_same : (width : ℕ) → SameAround (λ a. S.field_taken a width)
unfolding S.field_taken
field_taken_same width h =
    bind_same looked_same (λ s. choose_same _ (then_same (act_same counted (λ w. refl)) (then_same
    (stored_same _) (give_same _))) (then_same (raised_same C.Endfile _ h) (give_same None)))

number_got_same : (t : Option (List ℕ)) → SameAround (λ a. S.number_got a t)
unfolding S.number_got
number_got_same None h = give_same None
number_got_same (Some t) h = bind_same (or_error_same _ _ h) (λ z. give_same _)

field_got_same : (f : S.DataItem) → SameAround (λ a. S.field_got a f)
unfolding S.field_got
field_got_same (S.FixedItem width) h = bind_same (field_taken_same width h) (λ t. number_got_same t h)
field_got_same (S.TextItem (Some width)) h = bind_same (field_taken_same width h) (λ t. give_same _)
field_got_same (S.TextItem None) h = stuck_same

number_kept_same : (precision : ℕ) (z : ℤ) → SameAround (λ a. S.number_kept a precision z)
unfolding S.number_kept
number_kept_same precision z h = bind_same (value_of_same _ h) (λ y. give_same _)

field_converted_same : (kind : LeafKind) (f : S.Field) → SameAround (λ a. S.field_converted a kind f)
unfolding S.field_converted
field_converted_same (D.Fixed p) (S.NumberField z) h = number_kept_same p z h
field_converted_same (D.Fixed p) (S.TextField t) h = bind_same (or_error_same _ _ h) (λ z. number_kept_same p z h)
field_converted_same (D.Character n) (S.NumberField z) h = give_same _
field_converted_same (D.Character n) (S.TextField t) h = give_same _
field_converted_same (D.Varying n) (S.NumberField z) h = give_same _
field_converted_same (D.Varying n) (S.TextField t) h = give_same _
field_converted_same D.Bit (S.NumberField z) h = stuck_same
field_converted_same D.Bit (S.TextField t) h = bind_same (or_error_same _ _ h) (λ b. give_same _)
field_converted_same D.Pointer f h = stuck_same
field_converted_same D.Offset f h = stuck_same
field_converted_same (D.Area n) f h = stuck_same

scalar_got_same : (r : Y.Reference) (f : S.Field) → SameAround (λ a. S.scalar_got a r f)
unfolding S.scalar_got
scalar_got_same (Y.Referring v locator part subscripts) f h =
    given_same _ (λ t. bind_same (field_converted_same _ f h) (λ y. bind_same (designated_same
    (Y.Referring v locator part subscripts) h) (λ d. element_stored_same d y))) stuck_same

scalar_if_got_same : (r : Y.Reference) (rest : List S.FormatItem) (f : Option S.Field)
    → SameAround (λ a. S.scalar_if_got a r rest f)
unfolding S.scalar_if_got
scalar_if_got_same r rest None h = give_same None
scalar_if_got_same r rest (Some f) h = then_same (scalar_got_same r f h) (give_same _)

element_if_got_same : (d : V.Designated) (x : Element) (rest : List S.FormatItem) (f : Option S.Field)
    → SameAround (λ a. S.element_if_got a d x rest f)
unfolding S.element_if_got
element_if_got_same d x rest None h = give_same None
element_if_got_same d x rest (Some f) h =
    bind_same (field_converted_same _ f h) (λ v. bind_same (element_designated_same d x h)
    (λ now. then_same (element_stored_same now v) (give_same _)))

elements_got_sames : (whole rest : List S.FormatItem) (d : V.Designated) (xs : List Element)
    → SameAround (λ a. S.elements_got a whole rest d xs)
unfolding S.elements_got
elements_got_sames whole rest d [] h = give_same _
elements_got_sames whole rest d (x ∷ xs) h =
    bind_same (next_item_same S.control_got whole rest control_got_same) (λ next. bind_same
    (field_got_same next.0 h) (λ f.
    bind_same (element_if_got_same d x next.1 f h) (λ rest'. given_same rest'
    (λ r. elements_got_sames whole r d xs h) (give_same None))))

item_got_same : (whole rest : List S.FormatItem) (x : Y.GetItem) → SameAround (λ a. S.item_got a whole rest x)
unfolding S.item_got
item_got_same whole rest (Y.GetScalar r) h =
    bind_same (next_item_same S.control_got whole rest control_got_same) (λ next. bind_same
    (field_got_same next.0 h) (λ f. scalar_if_got_same r next.1 f h))
item_got_same whole rest (Y.GetAggregate (Y.Referring v locator part subscripts)) h =
    bind_same (designated_same (Y.Referring v locator part subscripts) h) (λ d. elements_got_sames whole rest d _ h)

items_got_sames : (whole rest : List S.FormatItem) (xs : List Y.GetItem)
    → SameAround (λ a. S.items_got a whole rest xs)
unfolding S.items_got
items_got_sames whole rest [] h = give_same true
items_got_sames whole rest (x ∷ xs) h =
    bind_same (item_got_same whole rest x h) (λ rest'. given_same rest'
    (λ r. items_got_sames whole r xs h) (give_same false))

pairs_got_sames : (xs : List Y.GetPair) → SameAround (λ a. S.pairs_got a xs)
unfolding S.pairs_got
pairs_got_sames [] h = give_same tt
pairs_got_sames (x ∷ xs) h =
    bind_same (items_got_sames (S.format_items x.formats) (S.format_items x.formats) x.items h)
    (λ lasted. choose_same lasted (pairs_got_sames xs h) (give_same tt))

pub get_same : (skip : Option ℕ) (xs : List Y.GetPair) → SameAround (λ a. S.get a skip xs)
unfolding S.get
get_same None xs h = pairs_got_sames xs h
get_same (Some n) xs h = then_same (control_got_same (S.SkipItem n)) (pairs_got_sames xs h)
