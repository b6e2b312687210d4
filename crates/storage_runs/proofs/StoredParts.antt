-- Expressions, and what changes storage, keep an invariant of states, walked over the language.
use Rattle.std.proofs.Common.{◌≡◌, ℕ, zero, suc, ◌+◌, ◌≤◌, ℤ, List, [], ◌∷◌, ◌++◌, Option, Some, None, Bool, true}
use Rattle.std.proofs.Common.{refl, arith}
use Rattle.std.specs.Prelude.{◌==◌, nat_le}
use Rattle.std.proofs.lemmas.Bool.Decides.{nat_tests}
use Rattle.pli_language.specs.declared.condition.Condition.{Condition}
use Rattle.pli_language.specs.declared.condition.Condition.TheVariants as C
use Rattle.pli_meaning.specs.declared.outcome.End.TheVariants as E
use Rattle.pli_meaning.specs.declared.outcome.Limit.TheVariants as L
use Rattle.pli_meaning.specs.Codes.{no_generation_code, area_code, heap_full_code}
use Rattle.pli_meaning.specs.World.{counted, raising}
use Rattle.pli_meaning.specs.Numbers.{Checked, Gives, Raises}
use Rattle.pli_typing.specs.TypedTree as Y
use Rattle.pli_meaning.specs.BasicValues.{Name, NullName, VariableName, BasedName, BasicValue}
use Rattle.pli_meaning.specs.Contents.{Shape, Generation, footprint_of, gap}
use Rattle.pli_meaning.specs.StorageState.{State, OnUnit, SystemUnit, BlockUnit, Activation, force, AreaContents}
use Rattle.pli_meaning.specs.StorageState.{area_at}
use Rattle.pli_meaning.specs.Control.{Meaning, ◌>>=◌, ◌>>◌, flow_on, looked, stored, give, choose}
use Rattle.pli_meaning.specs.Raising as G
use Rattle.pli_meaning.specs.Raising.{Around, at_line, Entry, Passed, PassedName, PassedValue}
use Rattle.pli_meaning.specs.Evaluating as V
use Rattle.pli_meaning.specs.Making as K
use Rattle.pli_meaning.specs.Placing as A
use Rattle.storage_runs.specs.Invariants.{Invariant}
use Rattle.storage_runs.proofs.Steps.{Comes, Anything, Keeps, Leaves, leaves_on, left_keeps, give_keeps}
use Rattle.storage_runs.proofs.Steps.{stuck_keeps}
use Rattle.storage_runs.proofs.Steps.{bind_keeps, then_keeps, then_leaves, looked_keeps, looked_leaves}
use Rattle.storage_runs.proofs.Steps.{stored_keeps}
use Rattle.storage_runs.proofs.Steps.{act_keeps, finish_leaves, finish_keeps}
use Rattle.storage_runs.proofs.Steps.{choose_keeps, choose_known, given_keeps, given_known}

-- what stands around a part: blocks that are entered keep the invariant
pub record Ways (P : State → Type 0) : Type 0 where
  pub around : Around
  pub keeps : (entry : Entry) → Keeps P (around.enter entry)

abbrev pub on_line : {P : State → Type 0} → ℕ → Ways P → Ways P
on_line line w = record { around = at_line w.around line; keeps = w.keeps }

at_most : (a b : ℕ) → nat_le a b ≡ true → a ≤ b
at_most a b e = grind (arith, nat_tests)

-- a part keeps the invariant, whatever stands around it
abbrev pub KeepsAround : (P : State → Type 0) → {R : Type 0} → (Around → Meaning R) → Type 0
KeepsAround P f = (w : Ways P) → Keeps P (f w.around)

abbrev LeavesAround : (P : State → Type 0) → {R : Type 0} → (Around → Meaning R) → Type 0
LeavesAround P f = (w : Ways P) → Leaves P (f w.around)

module _ {P : State → Type 0} (i : Invariant P) where
  -- ---- conditions

  error_unit_run_leaves : {R : Type 0} (code : ℕ) (found : Option (Activation × OnUnit))
      → LeavesAround P {R = R} (λ a. G.error_unit_run a code found)
  unfolding G.error_unit_run
  error_unit_run_leaves code None h = finish_leaves i _
  error_unit_run_leaves code (Some (x, SystemUnit)) h = finish_leaves i _
  error_unit_run_leaves code (Some (x, BlockUnit block)) h = then_leaves i (h.keeps
      (G.unit_entered block x code)) (finish_leaves i _)

  -- behind an error the run ends
  error_leaves : {R : Type 0} (code : ℕ) → LeavesAround P {R = R} (λ a. G.error a code)
  unfolding G.error
  error_leaves code h = then_leaves i (act_keeps i (raising C.Error code)) (looked_leaves i
      (λ s. error_unit_run_leaves code (force s.activations C.Error) h))

  pub error_keeps : {R : Type 0} (code : ℕ) → KeepsAround P {R = R} (λ a. G.error a code)
  error_keeps code h = left_keeps (error_leaves code h)

  unit_run_keeps : (code : ℕ) (found : Option (Activation × OnUnit)) → KeepsAround P (λ a. G.unit_run a code found)
  unfolding G.unit_run
  unit_run_keeps code None h = error_keeps code h
  unit_run_keeps code (Some (x, SystemUnit)) h = error_keeps code h
  unit_run_keeps code (Some (x, BlockUnit block)) h = then_keeps i (h.keeps (G.unit_entered block x code))
      (give_keeps i tt)

  pub raised_keeps : (c : Condition) (code : ℕ) → KeepsAround P (λ a. G.raised a c code)
  unfolding G.raised
  raised_keeps c code h =
      then_keeps i (act_keeps i (raising c code)) (bind_keeps i (looked_keeps i) (λ s. unit_run_keeps code
      (force s.activations c) h))

  pub value_of_keeps : (v : Checked) → KeepsAround P (λ a. G.value_of a v)
  unfolding G.value_of
  value_of_keeps (Gives z) h = give_keeps i z
  value_of_keeps (Raises c code after) h = then_keeps i (raised_keeps c code h) (give_keeps i after)

  pub or_error_keeps : {X : Type 0} (code : ℕ) (o : Option X) → KeepsAround P (λ a. G.or_error a code o)
  unfolding G.or_error
  or_error_keeps code None h = error_keeps code h
  or_error_keeps code (Some x) h = give_keeps i x

  -- what is there is known in what follows
  or_error_known : {X R : Type 0} (code : ℕ) (o : Option X) (h : Ways P) (next : X
      → Meaning R) (k : ℕ) (s : State) → P s → ((x : X) → o ≡ Some x → Comes P Anything (next x k s))
      → Comes P Anything (flow_on k (G.or_error h.around code o k s) next)
  unfolding G.or_error give
  or_error_known code None h next k s p n = leaves_on P Anything k (G.error h.around code k s) next
      ((error_leaves code h).comes k s p)
  or_error_known code (Some x) h next k s p n = n x refl

  pub demanded_keeps : (code : ℕ) (met : Bool) → KeepsAround P (λ a. G.demanded a code met)
  unfolding G.demanded
  demanded_keeps code met h = choose_keeps i met (give_keeps i tt) (error_keeps code h)

  -- ---- references and arguments

  part_designated_keeps : (n : Name) (shape : Shape) (part : Y.Part) (is : List ℤ)
      → KeepsAround P (λ a. V.part_designated a n shape part is)
  unfolding V.part_designated
  part_designated_keeps n shape part is h =
      bind_keeps i (looked_keeps i) (λ s. bind_keeps i (or_error_keeps _ _ h) (λ g. bind_keeps i
      (or_error_keeps _ _ h) (λ z. then_keeps i (demanded_keeps _ _ h) (give_keeps i _))))

  variable_designated_keeps : (v : Y.Variable) (name : Option Name) (part : Y.Part) (is : List ℤ)
      → KeepsAround P (λ a. V.variable_designated a v name part is)
  unfolding V.variable_designated
  variable_designated_keeps v None part is h =
      bind_keeps i (looked_keeps i) (λ s. bind_keeps i (or_error_keeps _ _ h)
      (λ b. part_designated_keeps b.name b.shape part is h))
  variable_designated_keeps v (Some n) part is h =
      given_keeps i _ (λ d. part_designated_keeps n _ part is h) (stuck_keeps i)

  area_meant_keeps : (v : Y.Variable) → KeepsAround P (λ a. V.area_meant a v)
  unfolding V.area_meant
  area_meant_keeps v h = bind_keeps i (looked_keeps i) (λ s. or_error_keeps _ _ h)

  passed_last_keeps : (all : List V.Evaluated) (x : V.Evaluated) → KeepsAround P (λ a. V.passed_last a all x)
  unfolding V.passed_last
  passed_last_keeps all (V.EvaluatedArgument x) h = give_keeps i x
  passed_last_keeps all (V.NameInParameter n parameter) h = bind_keeps i (or_error_keeps _ _ h) (λ o. give_keeps i _)
  passed_last_keeps all (V.NameInAutomatic n) h = bind_keeps i (or_error_keeps _ _ h) (λ o. give_keeps i _)

  all_passed_last_keeps : (all rest : List V.Evaluated) → KeepsAround P (λ a. V.all_passed_last a all rest)
  unfolding V.all_passed_last
  all_passed_last_keeps all [] h = give_keeps i []
  all_passed_last_keeps all (x ∷ xs) h =
      bind_keeps i (passed_last_keeps all x h) (λ y. bind_keeps i (all_passed_last_keeps all xs h)
      (λ ys. give_keeps i _))

  procedure_entered_keeps : (q : Option Y.Procedure) (level : ℕ) (passed : List Passed)
      → KeepsAround P (λ a. V.procedure_entered a q level passed)
  unfolding V.procedure_entered
  procedure_entered_keeps None level passed h = stuck_keeps i
  procedure_entered_keeps (Some q) level passed h = bind_keeps i (looked_keeps i) (λ s. h.keeps _)

  returned_keeps : (v : Option BasicValue) → Keeps P (V.returned v)
  unfolding V.returned
  returned_keeps None = stuck_keeps i
  returned_keeps (Some v) = give_keeps i v

  -- ---- expressions

  mutual
    unfolding V.number V.numbers V.text V.bit V.pointer V.offset V.designated V.located V.called V.arguments
        V.argument V.stored_value

    pub number_keeps : (x : Y.Number) → KeepsAround P (λ a. V.number a x)
    number_keeps (Y.NumberConstant c) h = give_keeps i _
    number_keeps (Y.NumberIn r) h = bind_keeps i (designated_keeps r h) (λ d. give_keeps i _)
    number_keeps (Y.NumberFrom c) h = bind_keeps i (called_keeps c h) (λ v. bind_keeps i (returned_keeps v)
        (λ y. give_keeps i _))
    number_keeps (Y.NumberOfText t) h = bind_keeps i (text_keeps t h) (λ y. or_error_keeps _ _ h)
    number_keeps (Y.NumberOfBit b) h = bind_keeps i (bit_keeps b h) (λ y. give_keeps i _)
    number_keeps (Y.Signed sign x) h = bind_keeps i (number_keeps x h) (λ z. value_of_keeps _ h)
    number_keeps (Y.Calculated o x y) h = bind_keeps i (number_keeps x h) (λ u. bind_keeps i (number_keeps y h)
        (λ v. value_of_keeps _ h))
    number_keeps (Y.Absolute x) h = bind_keeps i (number_keeps x h) (λ z. value_of_keeps _ h)
    number_keeps (Y.SignOf x) h = bind_keeps i (number_keeps x h) (λ z. give_keeps i _)
    number_keeps (Y.Extreme o x more) h = bind_keeps i (number_keeps x h) (λ z. bind_keeps i (numbers_keep more h)
        (λ zs. give_keeps i _))
    number_keeps (Y.Modulo x y) h = bind_keeps i (number_keeps x h) (λ u. bind_keeps i (number_keeps y h)
        (λ v. value_of_keeps _ h))
    number_keeps (Y.Divided precision x y) h = bind_keeps i (number_keeps x h) (λ u. bind_keeps i
        (number_keeps y h) (λ v. value_of_keeps _ h))
    number_keeps (Y.LengthOf t) h = bind_keeps i (text_keeps t h) (λ y. give_keeps i _)
    number_keeps (Y.IndexOf s t) h = bind_keeps i (text_keeps s h) (λ u. bind_keeps i (text_keeps t h)
        (λ v. give_keeps i _))
    number_keeps (Y.VerifyOf s t) h = bind_keeps i (text_keeps s h) (λ u. bind_keeps i (text_keeps t h)
        (λ v. give_keeps i _))
    number_keeps (Y.LowerBound r dimension) h = bind_keeps i (designated_keeps r h) (λ d. given_keeps i _
        (λ b. give_keeps i _) (stuck_keeps i))
    number_keeps (Y.UpperBound r dimension) h = bind_keeps i (designated_keeps r h) (λ d. given_keeps i _
        (λ b. give_keeps i _) (stuck_keeps i))
    number_keeps (Y.ElementsOf r dimension) h = bind_keeps i (designated_keeps r h) (λ d. given_keeps i _
        (λ b. value_of_keeps _ h) (stuck_keeps i))
    number_keeps (Y.AllocationsOf v) h = bind_keeps i (looked_keeps i) (λ s. give_keeps i _)
    number_keeps Y.OnCode h = bind_keeps i (looked_keeps i) (λ s. give_keeps i _)

    numbers_keep : (xs : Y.Numbers) → KeepsAround P (λ a. V.numbers a xs)
    numbers_keep Y.NoNumber h = give_keeps i []
    numbers_keep (Y.NumberThen x xs) h = bind_keeps i (number_keeps x h) (λ z. bind_keeps i (numbers_keep xs h)
        (λ zs. give_keeps i _))

    pub text_keeps : (x : Y.Text) → KeepsAround P (λ a. V.text a x)
    text_keeps (Y.TextConstant bytes) h = give_keeps i bytes
    text_keeps (Y.TextIn r) h = bind_keeps i (designated_keeps r h) (λ d. give_keeps i _)
    text_keeps (Y.TextFrom c) h = bind_keeps i (called_keeps c h) (λ v. bind_keeps i (returned_keeps v)
        (λ y. give_keeps i _))
    text_keeps (Y.TextOfNumber precision x) h = bind_keeps i (number_keeps x h) (λ z. give_keeps i _)
    text_keeps (Y.TextOfBit b) h = bind_keeps i (bit_keeps b h) (λ y. give_keeps i _)
    text_keeps (Y.Joined s t) h = bind_keeps i (text_keeps s h) (λ u. bind_keeps i (text_keeps t h)
        (λ v. or_error_keeps _ _ h))
    text_keeps (Y.SubstringFrom t from) h = bind_keeps i (text_keeps t h) (λ u. bind_keeps i (number_keeps from h)
        (λ v. or_error_keeps _ _ h))
    text_keeps (Y.Substring t from size) h =
        bind_keeps i (text_keeps t h) (λ u. bind_keeps i (number_keeps from h) (λ v. bind_keeps i
        (number_keeps size h) (λ w. or_error_keeps _ _ h)))

    pub bit_keeps : (x : Y.Bit) → KeepsAround P (λ a. V.bit a x)
    bit_keeps (Y.BitConstant b) h = give_keeps i b
    bit_keeps (Y.BitIn r) h = bind_keeps i (designated_keeps r h) (λ d. give_keeps i _)
    bit_keeps (Y.BitFrom c) h = bind_keeps i (called_keeps c h) (λ v. bind_keeps i (returned_keeps v)
        (λ y. give_keeps i _))
    bit_keeps (Y.BitOfText t) h = bind_keeps i (text_keeps t h) (λ y. or_error_keeps _ _ h)
    bit_keeps (Y.Negated x) h = bind_keeps i (bit_keeps x h) (λ y. give_keeps i _)
    bit_keeps (Y.Combined Y.Conjunction x y) h = bind_keeps i (bit_keeps x h) (λ u. bind_keeps i (bit_keeps y h)
        (λ v. give_keeps i _))
    bit_keeps (Y.Combined Y.Disjunction x y) h = bind_keeps i (bit_keeps x h) (λ u. bind_keeps i (bit_keeps y h)
        (λ v. give_keeps i _))
    bit_keeps (Y.NumbersCompared o x y) h = bind_keeps i (number_keeps x h) (λ u. bind_keeps i (number_keeps y h)
        (λ v. give_keeps i _))
    bit_keeps (Y.TextsCompared o x y) h = bind_keeps i (text_keeps x h) (λ u. bind_keeps i (text_keeps y h)
        (λ v. give_keeps i _))
    bit_keeps (Y.BitsCompared o x y) h = bind_keeps i (bit_keeps x h) (λ u. bind_keeps i (bit_keeps y h)
        (λ v. give_keeps i _))
    bit_keeps (Y.PointersCompared equal x y) h = bind_keeps i (pointer_keeps x h) (λ u. bind_keeps i
        (pointer_keeps y h) (λ v. give_keeps i _))
    bit_keeps (Y.OffsetsCompared equal x y) h = bind_keeps i (offset_keeps x h) (λ u. bind_keeps i
        (offset_keeps y h) (λ v. give_keeps i _))

    pointer_keeps : (x : Y.Pointer) → KeepsAround P (λ a. V.pointer a x)
    pointer_keeps Y.NullPointer h = give_keeps i _
    pointer_keeps (Y.PointerIn r) h = bind_keeps i (designated_keeps r h) (λ d. give_keeps i _)
    pointer_keeps (Y.PointerFrom c) h = bind_keeps i (called_keeps c h) (λ v. bind_keeps i (returned_keeps v)
        (λ y. give_keeps i _))
    pointer_keeps (Y.AddressOf r) h = bind_keeps i (designated_keeps r h) (λ d. give_keeps i _)
    pointer_keeps (Y.PointerInto x area) h = bind_keeps i (offset_keeps x h) (λ o. bind_keeps i
        (area_meant_keeps area h) (λ b. give_keeps i _))

    offset_keeps : (x : Y.Offset) → KeepsAround P (λ a. V.offset a x)
    offset_keeps Y.NullOffset h = give_keeps i _
    offset_keeps (Y.OffsetIn r) h = bind_keeps i (designated_keeps r h) (λ d. give_keeps i _)
    offset_keeps (Y.OffsetFrom c) h = bind_keeps i (called_keeps c h) (λ v. bind_keeps i (returned_keeps v)
        (λ y. give_keeps i _))
    offset_keeps (Y.OffsetInto x area) h = bind_keeps i (pointer_keeps x h) (λ o. bind_keeps i
        (area_meant_keeps area h) (λ b. or_error_keeps _ _ h))

    pub designated_keeps : (x : Y.Reference) → KeepsAround P (λ a. V.designated a x)
    designated_keeps (Y.Referring v locator part subscripts) h =
        bind_keeps i (located_keeps locator h) (λ n. bind_keeps i (numbers_keep subscripts h)
        (λ is. variable_designated_keeps v n part is h))

    located_keeps : (x : Y.Locator) → KeepsAround P (λ a. V.located a x)
    located_keeps Y.NotLocated h = give_keeps i _
    located_keeps (Y.LocatedBy x) h = bind_keeps i (pointer_keeps x h) (λ n. give_keeps i _)

    pub called_keeps : (x : Y.Call) → KeepsAround P (λ a. V.called a x)
    called_keeps (Y.Calling procedure level xs) h =
        bind_keeps i (arguments_keep xs h) (λ es. bind_keeps i (all_passed_last_keeps es es h)
        (λ ps. procedure_entered_keeps _ level ps h))

    arguments_keep : (xs : Y.Arguments) → KeepsAround P (λ a. V.arguments a xs)
    arguments_keep Y.NoArgument h = give_keeps i []
    arguments_keep (Y.ArgumentThen x xs) h = bind_keeps i (argument_keeps x h) (λ y. bind_keeps i
        (arguments_keep xs h) (λ ys. give_keeps i _))

    argument_keeps : (x : Y.Argument) → KeepsAround P (λ a. V.argument a x)
    argument_keeps (Y.ByReference r) h = bind_keeps i (designated_keeps r h) (λ d. give_keeps i _)
    argument_keeps (Y.ByCopy t x) h = bind_keeps i (stored_value_keeps x h) (λ v. give_keeps i _)
    argument_keeps (Y.ByOffsetInParameter x parameter) h = bind_keeps i (pointer_keeps x h) (λ n. give_keeps i _)
    argument_keeps (Y.ByOffsetInAutomatic x) h = bind_keeps i (pointer_keeps x h) (λ n. give_keeps i _)

    pub stored_value_keeps : (x : Y.Stored) → KeepsAround P (λ a. V.stored_value a x)
    stored_value_keeps (Y.StoredNumber precision x) h = bind_keeps i (number_keeps x h)
        (λ z. bind_keeps i (value_of_keeps _ h) (λ y. give_keeps i _))
    stored_value_keeps (Y.StoredText x) h = bind_keeps i (text_keeps x h) (λ t. give_keeps i _)
    stored_value_keeps (Y.StoredBit x) h = bind_keeps i (bit_keeps x h) (λ b. give_keeps i _)
    stored_value_keeps (Y.StoredPointer x) h = bind_keeps i (pointer_keeps x h) (λ n. give_keeps i _)
    stored_value_keeps (Y.StoredOffset x) h = bind_keeps i (offset_keeps x h) (λ o. give_keeps i _)

  -- ---- generations that come about

  evaluations_keep : (values : List ℤ) (xs : List Y.Evaluation) → KeepsAround P (λ a. K.evaluations a values xs)
  unfolding K.evaluations
  evaluations_keep values [] h = give_keeps i values
  evaluations_keep values (x ∷ xs) h =
      bind_keeps i (number_keeps x.value h) (λ z. then_keeps i (demanded_keeps _ _ h) (evaluations_keep
      (values ++ z ∷ []) xs h))

  extents_keep : (xs : List Y.Evaluation) → KeepsAround P (λ a. K.extents a xs)
  unfolding K.extents
  extents_keep [] h = give_keeps i []
  extents_keep (x ∷ xs) h = then_keeps i (act_keeps i counted) (evaluations_keep [] (x ∷ xs) h)

  variable_made_keeps : (variable : ℕ) (g : Generation) → Keeps P (K.variable_made variable g)
  unfolding K.variable_made
  variable_made_keeps variable g =
      bind_keeps i (looked_keeps i) (λ s. choose_keeps i _ (stored_keeps i _ (i.made variable g))
      (finish_keeps i (E.Limit L.Automatic)))

  automatic_made_keeps : (variable : ℕ) (d : Y.DeclaredVariable) (class : Y.StorageClass)
      → KeepsAround P (λ a. K.automatic_made a variable d class)
  unfolding K.automatic_made
  automatic_made_keeps variable d Y.AutomaticClass h = bind_keeps i (extents_keep d.evaluations h)
      (λ values. variable_made_keeps variable _)
  automatic_made_keeps variable d Y.ParameterClass h = give_keeps i tt
  automatic_made_keeps variable d Y.StaticClass h = give_keeps i tt
  automatic_made_keeps variable d Y.BasedClass h = give_keeps i tt
  automatic_made_keeps variable d Y.ControlledClass h = give_keeps i tt

  pub variables_made_keep : (variable : ℕ) (ds : List Y.DeclaredVariable)
      → KeepsAround P (λ a. K.variables_made a variable ds)
  unfolding K.variables_made
  variables_made_keep variable [] h = give_keeps i tt
  variables_made_keep variable (d ∷ ds) h =
      then_keeps i (automatic_made_keeps variable d d.class h) (variables_made_keep (variable + 1) ds h)

  parameter_bound_keeps : (variable : ℕ) (x : Passed) → Keeps P (K.parameter_bound variable x)
  unfolding K.parameter_bound
  parameter_bound_keeps variable (PassedName n shape) = stored_keeps i _ (i.bound variable n shape)
  parameter_bound_keeps variable (PassedValue kind v) = variable_made_keeps variable _

  pub parameters_bound_keep : (vs : List ℕ) (xs : List Passed) → Keeps P (K.parameters_bound vs xs)
  unfolding K.parameters_bound
  parameters_bound_keep [] [] = give_keeps i tt
  parameters_bound_keep (v ∷ vs) (x ∷ xs) = then_keeps i (parameter_bound_keeps v x) (parameters_bound_keep vs xs)
  parameters_bound_keep [] (x ∷ xs) = stuck_keeps i
  parameters_bound_keep (v ∷ vs) [] = stuck_keeps i

  -- ---- storage that changes

  pub element_stored_keeps : (d : V.Designated) (v : BasicValue) → Keeps P (A.element_stored d v)
  unfolding A.element_stored
  element_stored_keeps d v = stored_keeps i _ (λ s. i.valued d.name (A.with_element d v) s (λ g. (refl, refl)))

  pub elements_stored_keeps : (d : V.Designated) (values : ℕ → List ℤ → BasicValue)
      → Keeps P (A.elements_stored d values)
  unfolding A.elements_stored
  elements_stored_keeps d values = stored_keeps i _ (λ s. i.valued d.name (A.with_elements d values) s (λ g.
      (refl, refl)))

  pub aggregate_assigned_keeps : (target source : Y.Reference)
      → KeepsAround P (λ a. A.aggregate_assigned a target source)
  unfolding A.aggregate_assigned
  aggregate_assigned_keeps target source h =
      bind_keeps i (designated_keeps source h) (λ e. bind_keeps i (designated_keeps target h)
      (λ d. then_keeps i (demanded_keeps _ _ h) (elements_stored_keeps d _)))

  -- where there is room for all of them
  area_copied_comes : (source target : ℕ) (into from : AreaContents) (h : Ways P) (k : ℕ) (s : State) → P s
      → area_at s source ≡ Some from → area_at s target ≡ Some into
      → Comes P Anything (A.area_copied h.around target into from k s)
  unfolding A.area_copied stored
  area_copied_comes source target into from h k s p e f =
      choose_known i _ _ _ k s (λ r. (
        i.shown s.world _ (i.assigned source target from into s p e f
            (at_most _ _ r)),
        tt,
      )) ((raised_keeps C.Area area_code h).comes k s p)

  areas_copied_keep : (source target : ℕ) (h : Ways P)
      → Keeps P (looked >>= (λ s. G.or_error h.around no_generation_code (area_at s source) >>=
      (λ from. G.or_error h.around no_generation_code (area_at s target) >>= (λ into. choose (source == target)
      (give tt) (A.area_copied h.around target into from)))))
  unfolding looked ◌>>=◌ give
  areas_copied_keep source target h =
      record {
        comes = λ k s p.
            or_error_known no_generation_code (area_at s source) h _ k s p (λ from e.
            or_error_known no_generation_code (area_at s target) h _ k s p (λ into f.
            choose_known i (source == target) _ _ k s (λ same. (p, tt))
            (area_copied_comes source target into from h k s p e f)));
      }

  pub area_assigned_keeps : (target source : Y.Variable) → KeepsAround P (λ a. A.area_assigned a target source)
  unfolding A.area_assigned
  area_assigned_keeps target source h =
      bind_keeps i (area_meant_keeps source h) (λ x. bind_keeps i (area_meant_keeps target h)
      (λ y. areas_copied_keep x y h))

  pub area_emptied_keeps : (target : Y.Variable) → KeepsAround P (λ a. A.area_emptied a target)
  unfolding A.area_emptied
  area_emptied_keeps target h = bind_keeps i (area_meant_keeps target h) (λ x. stored_keeps i _ (i.emptied x))

  placing_keeps : (turns area : ℕ) (g : Generation) → KeepsAround P (λ a. A.placing turns a area g)
  unfolding A.placing looked ◌>>=◌ ◌>>◌ stored give
  placing_keeps zero area g h = stuck_keeps i
  placing_keeps (suc turns) area g h =
      record {
        comes = λ k s p.
            or_error_known no_generation_code (area_at s area) h _ k s p (λ a e.
            given_known i (gap a.capacity (footprint_of g) a.placed) _ _ k s
            (λ o f. (i.shown s.world _ (i.placed area o g a s p e f), tt))
            ((choose_keeps i _ (error_keeps heap_full_code h) (then_keeps i
            (raised_keeps C.Area area_code h) (then_keeps i (act_keeps i counted)
            (placing_keeps turns area g h)))).comes k s p));
      }

  area_or_heap_keeps : (area : Option Y.Variable) → KeepsAround P (λ a. A.area_or_heap a area)
  unfolding A.area_or_heap
  area_or_heap_keeps None h = give_keeps i _
  area_or_heap_keeps (Some v) h = area_meant_keeps v h

  locator_set_keeps : (target : Y.LocatorTarget) (n : Name) → KeepsAround P (λ a. A.locator_set a target n)
  unfolding A.locator_set
  locator_set_keeps (Y.SetPointer r) n h = bind_keeps i (designated_keeps r h) (λ d. element_stored_keeps d _)
  locator_set_keeps (Y.SetOffset r area) n h =
      bind_keeps i (area_meant_keeps area h) (λ x. bind_keeps i (or_error_keeps _ _ h)
      (λ o. bind_keeps i (designated_keeps r h) (λ d. element_stored_keeps d _)))

  based_allocated_keeps : (d : Y.DeclaredVariable) (area : Option Y.Variable) (target : Y.LocatorTarget)
      → KeepsAround P (λ a. A.based_allocated a d area target)
  unfolding A.based_allocated
  based_allocated_keeps d area target h =
      bind_keeps i (extents_keep d.evaluations h) (λ values. then_keeps i (demanded_keeps _ _ h)
      (bind_keeps i (area_or_heap_keeps area h) (λ x.
      bind_keeps i (placing_keeps h.around.turns x _ h) (λ o. locator_set_keeps target _ h))))

  controlled_allocated_keeps : (v : Y.Variable) (d : Y.DeclaredVariable)
      → KeepsAround P (λ a. A.controlled_allocated a v d)
  unfolding A.controlled_allocated
  controlled_allocated_keeps v d h =
      bind_keeps i (extents_keep d.evaluations h) (λ values. bind_keeps i (placing_keeps h.around.turns _ _ h)
      (λ o. stored_keeps i _ (i.pushed v o)))

  allocation_keeps : (x : Y.Allocation) → KeepsAround P (λ a. A.allocation a x)
  unfolding A.allocation
  allocation_keeps (Y.AllocateBased v area target) h = given_keeps i _
      (λ d. based_allocated_keeps d area target h) (stuck_keeps i)
  allocation_keeps (Y.AllocateControlled v) h = given_keeps i _ (λ d. controlled_allocated_keeps v d h)
      (stuck_keeps i)

  pub allocations_keep : (xs : List Y.Allocation) → KeepsAround P (λ a. A.allocations a xs)
  unfolding A.allocations
  allocations_keep [] h = give_keeps i tt
  allocations_keep (x ∷ xs) h = then_keeps i (allocation_keeps x h) (allocations_keep xs h)

  name_freed_keeps : (n : Name) (area : Option ℕ) → KeepsAround P (λ a. A.name_freed a n area)
  unfolding A.name_freed
  name_freed_keeps NullName area h = error_keeps _ h
  name_freed_keeps (VariableName serial) area h = error_keeps _ h
  name_freed_keeps (BasedName x o) None h = stored_keeps i _ (i.freed x o)
  name_freed_keeps (BasedName x o) (Some y) h = choose_keeps i _ (stored_keeps i _ (i.freed x o)) (error_keeps _ h)

  area_if_keeps : (area : Option Y.Variable) → KeepsAround P (λ a. A.area_if a area)
  unfolding A.area_if
  area_if_keeps None h = give_keeps i None
  area_if_keeps (Some v) h = bind_keeps i (area_meant_keeps v h) (λ x. give_keeps i _)

  based_freed_keeps : (d : Y.DeclaredVariable) (locator : Y.Pointer) (area : Option Y.Variable)
      → KeepsAround P (λ a. A.based_freed a d locator area)
  unfolding A.based_freed
  based_freed_keeps d locator area h =
      bind_keeps i (pointer_keeps locator h) (λ n. bind_keeps i (looked_keeps i) (λ s. then_keeps i
      (or_error_keeps _ _ h) (bind_keeps i (area_if_keeps area h) (λ x. name_freed_keeps n x h))))

  freeing_keeps : (x : Y.Freeing) → KeepsAround P (λ a. A.freeing a x)
  unfolding A.freeing
  freeing_keeps (Y.FreeBased v locator area) h = given_keeps i _
      (λ d. based_freed_keeps d locator area h) (stuck_keeps i)
  freeing_keeps (Y.FreeControlled v) h = stored_keeps i _ (i.popped v)

  pub freeings_keep : (xs : List Y.Freeing) → KeepsAround P (λ a. A.freeings a xs)
  unfolding A.freeings
  freeings_keep [] h = give_keeps i tt
  freeings_keep (x ∷ xs) h = then_keeps i (freeing_keeps x h) (freeings_keep xs h)
