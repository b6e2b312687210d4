-- The storage machine: what statements, blocks and whole programs mean. Acts are the beginning of a statement, the entry of a
-- procedure or an on-unit, the extents of a variable, each test of a DO, each format item carried out, a raise, a retry, and
-- the end of the run. (X3.53-1976, chapters 5 and 6.)
use Rattle.std.specs.Prelude.{ℕ, zero, suc, ◌+◌, ℤ, pos, ◌+ℤ◌, int_lt, int_le, Bool, true, false, List, [], ◌∷◌, ◌++◌, length, Option, Some, None, nat_lt, if◌then◌else◌}
use Rattle.pli_language.specs.declared.condition.Condition.{Condition}
use Rattle.pli_language.specs.declared.condition.Condition.TheVariants as C
use Rattle.pli_meaning.specs.declared.outcome.End.TheVariants as E
use Rattle.pli_meaning.specs.declared.outcome.Limit.TheVariants as L
use Rattle.pli_meaning.specs.World.{World, counted}
use Rattle.pli_meaning.specs.Numbers.{checked, operator_precision}
use Rattle.pli_typing.specs.TypedTree as Y
use Rattle.pli_meaning.specs.Texts.{number_text, number_in_text}
use Rattle.pli_meaning.specs.BasicValues.{BasicValue, BasicNumber, BasicText}
use Rattle.pli_meaning.specs.Contents.{number_in, text_in, kept}
use Rattle.pli_meaning.specs.StorageState.{State, first_state, SystemUnit, BlockUnit, Activation, with_activations, established, reverted, height_of, ancestor_at, newest_height, newest_ended, most_activations}
use Rattle.pli_meaning.specs.Control.{Label, Flow, Normal, Jump, Return, Ended, Paused, Stuck, Meaning, give, stuck, ◌>>=◌, ◌>>◌, looked, stored, act, finish, returns, jumps, choose, given, is_among, list_from, repeated_while, leaving}
use Rattle.pli_meaning.specs.Codes.{conversion_code, no_value_code, code_signalled}
use Rattle.pli_meaning.specs.Raising.{Around, Entry, Enter, at_line, error, raised, value_of, or_error}
use Rattle.pli_meaning.specs.DeclaredShapes.{kind_of, variables_of_block}
use Rattle.pli_meaning.specs.Evaluating.{value_in, designated, number, bit, called, stored_value, Computational, as_text, as_number, computational}
use Rattle.pli_meaning.specs.Making.{variables_made, parameters_bound, statics_from}
use Rattle.pli_meaning.specs.Placing.{element_stored, elements_stored, aggregate_assigned, area_assigned, area_emptied, allocations, freeings}
use Rattle.pli_meaning.specs.Streaming.{get, put}

-- ---- assignment

unfoldable pub assigned : Around → Y.Reference → BasicValue → Meaning (Unit {0})
assigned around target v = do
  d ← designated around target
  element_stored d v

unfoldable pub elements_assigned : Around → Y.Reference → BasicValue → Meaning (Unit {0})
elements_assigned around target v = do
  d ← designated around target
  elements_stored d (λ leaf subscripts. v)

-- ---- DO with a variable

abbrev pub reference_of : Y.Counter → Y.Reference
reference_of (Y.NumberCounter precision r) = r
reference_of (Y.TextCounter r) = r

unfoldable pub counter_number : Around → Y.Counter → Meaning ℤ
counter_number around (Y.NumberCounter precision r) = do
  d ← designated around r
  give (number_in (value_in d))
counter_number around (Y.TextCounter r) = do
  d ← designated around r
  or_error around conversion_code (number_in_text (text_in (value_in d)))

unfoldable pub counter_value : Around → Y.Counter → ℤ → Meaning BasicValue
counter_value around (Y.NumberCounter precision r) z = do
  z' ← value_of around (checked precision z)
  give (BasicNumber z')
counter_value around (Y.TextCounter r) z = give (BasicText (number_text operator_precision z))

-- what the variable starts with, converted as it is assigned
unfoldable pub counter_started : Around → Y.Counter → Computational → Meaning BasicValue
counter_started around (Y.NumberCounter precision r) v = do
  z ← or_error around conversion_code (as_number v)
  counter_value around (Y.NumberCounter precision r) z
counter_started around (Y.TextCounter r) v = give (BasicText (as_text v))

-- the variable goes on by the step
unfoldable pub stepped : Around → Y.Counter → ℤ → Meaning (Unit {0})
stepped around counter step = do
  z ← counter_number around counter
  next ← value_of around (checked operator_precision (z +ℤ step))
  v ← counter_value around counter next
  assigned around (reference_of counter) v

unfoldable pub limit_of : Around → Option Y.Number → Meaning (Option ℤ)
limit_of around None = give None
limit_of around (Some e) = do
  z ← number around e
  give (Some z)

-- whether a value has not passed the limit: up with a step of 0 or more, down with a negative one
abbrev pub has_not_passed : (limit step : ℤ) → ℤ → Bool
has_not_passed limit step z = if int_lt step (pos 0) then int_le limit z else int_le z limit

unfoldable pub within_limit : Around → Y.Counter → Option ℤ → (step : ℤ) → Meaning Bool
within_limit around counter None step = give true
within_limit around counter (Some limit) step = do
  z ← counter_number around counter
  give (has_not_passed limit step z)

unfoldable pub condition_met : Around → Option Y.Bit → Meaning Bool
condition_met around None = give true
condition_met around (Some e) = bit around e

-- one test, an act: the limit, and where it isn't passed WHILE
unfoldable pub turn_due : Around → Y.Counter → Option ℤ → (step : ℤ) → Option Y.Bit → Meaning Bool
turn_due around counter limit step condition = do
  act counted
  within ← within_limit around counter limit step
  choose within (condition_met around condition) (give false)

-- with neither TO nor BY there is one turn at most, and a test only with WHILE
unfoldable pub once : Around → Option Y.Bit → Meaning (Unit {0}) → Meaning (Unit {0})
once around None body = body
once around (Some e) body = do
  act counted
  met ← bit around e
  choose met body (give tt)

unfoldable pub met_after_act : Around → Y.Bit → Meaning Bool
met_after_act around e = do
  act counted
  bit around e

-- ---- labels of a list

abbrev pub labels_in : Y.Stmts → List Label
labels_in (Y.EndOfList labels) = labels
labels_in (Y.StmtThen labels first rest) = labels ++ labels_in rest

abbrev pub is_sought : Option Label → List Label → Bool
is_sought None labels = true
is_sought (Some label) labels = is_among label labels

-- a list, in which a jump to one of its labels goes on
unfoldable pub list_with : Around → List Label → (Option Label → Meaning (Unit {0})) → Meaning (Unit {0})
list_with around labels part = do
  s ← looked
  list_from around.turns (newest_height s.activations) labels part None

-- ---- on-units

unfoldable pub established_by : Condition → (List Activation → List Activation) → Meaning (Unit {0})
established_by c change = do
  act counted
  stored (λ s. with_activations (change s.activations) s)

-- SIGNAL
unfoldable pub signalled : Around → Condition → Meaning (Unit {0})
signalled around C.Error = error around (code_signalled C.Error)
signalled around c = raised around c (code_signalled c)

-- ---- blocks that are entered where they stand

abbrev pub begun : Y.Block → (parent : ℕ) → Entry
begun block parent =
    record { block = block; parent = parent; oncode = 0; parameters = []; arguments = []; is_function = false }

-- ---- statements: the act of a statement comes before anything of it is evaluated

unfoldable mutual
  pub statement : Around → Y.Stmt → Meaning (Unit {0})
  statement around (Y.Null line) = act counted
  statement around (Y.Assign target source line) = do
    act counted
    v ← stored_value (at_line around line) source
    assigned (at_line around line) target v
  statement around (Y.AssignElements target source line) = do
    act counted
    v ← stored_value (at_line around line) source
    elements_assigned (at_line around line) target v
  statement around (Y.AssignAggregate target source line) = do
    act counted
    aggregate_assigned (at_line around line) target source
  statement around (Y.AssignArea target source line) = do
    act counted
    area_assigned (at_line around line) target source
  statement around (Y.EmptyArea target line) = do
    act counted
    area_emptied (at_line around line) target
  statement around (Y.If condition unit line) = do
    act counted
    met ← bit (at_line around line) condition
    choose met (statement around unit) (give tt)
  statement around (Y.IfElse condition unit otherwise line) = do
    act counted
    met ← bit (at_line around line) condition
    choose met (statement around unit) (statement around otherwise)
  statement around (Y.Do body line) = do
    act counted
    list_with around (labels_in body) (statements around body)
  statement around (Y.DoWhile condition body line) = do
    act counted
    repeated_while around.turns (met_after_act (at_line around line) condition) (list_with around (labels_in body) (statements around body))
  statement around (Y.DoOnce variable start condition body line) = do
    act counted
    v ← stored_value (at_line around line) start
    assigned (at_line around line) variable v
    once (at_line around line) condition (list_with around (labels_in body) (statements around body))
  statement around (Y.DoCount counter start limit step condition body line) = do
    act counted
    v ← computational (at_line around line) start
    most ← limit_of (at_line around line) limit
    by ← number (at_line around line) step
    first ← counter_started (at_line around line) counter v
    assigned (at_line around line) (reference_of counter) first
    repeated_while around.turns
        (turn_due (at_line around line) counter most by condition)
        (do
          list_with around (labels_in body) (statements around body)
          stepped (at_line around line) counter by)
  statement around (Y.Begin (Y.BlockOf head body)) = do
    act counted
    s ← looked
    around.enter (begun (Y.BlockOf head body) (newest_height s.activations))
    give tt
  statement around (Y.OnSystem c line) = established_by c (established c SystemUnit)
  statement around (Y.OnUnit c unit line) = established_by c (established c (BlockUnit unit))
  statement around (Y.CallProcedure call line) = do
    act counted
    called (at_line around line) call
    give tt
  statement around (Y.Return line) = do
    act counted
    returns None
  statement around (Y.ReturnValue type source line) = do
    act counted
    v ← stored_value (at_line around line) source
    returns (Some (kept (kind_of [] type) (BasicText []) v))
  statement around (Y.Goto level label line) = do
    act counted
    s ← looked
    jumps (height_of (ancestor_at s level)) label
  statement around (Y.Stop line) = do
    act counted
    finish E.Stopped
  statement around (Y.Signal c line) = do
    act counted
    signalled (at_line around line) c
  statement around (Y.Revert c line) = established_by c (reverted c)
  statement around (Y.Allocate all line) = do
    act counted
    allocations (at_line around line) all
  statement around (Y.Free all line) = do
    act counted
    freeings (at_line around line) all
  statement around (Y.Get skip pairs line) = do
    act counted
    get (at_line around line) skip pairs
  statement around (Y.Put skip pairs line) = do
    act counted
    put (at_line around line) skip pairs

  -- from the start, or from a label that is sought
  pub statements : Around → Y.Stmts → Option Label → Meaning (Unit {0})
  statements around (Y.EndOfList labels) from = give tt
  statements around (Y.StmtThen labels first rest) from =
      choose (is_sought from labels)
      (do
        statement around first
        statements around rest None)
      (statements around rest from)

unfoldable pub list : Around → Y.Stmts → Meaning (Unit {0})
list around body = list_with around (labels_in body) (statements around body)

-- ---- blocks

abbrev pub activation_of : Y.BlockHead → Entry → ℕ → Activation
activation_of head entry height =
    record {
      height = height;
      level = head.level;
      parent = entry.parent;
      oncode = entry.oncode;
      bindings = [];
      units = [];
    }

abbrev pub with_activation : Y.BlockHead → Entry → State → State
with_activation head entry s = with_activations (activation_of head entry (length s.activations + 1) ∷ s.activations) s

-- a simple unit declares nothing
unfoldable pub block_variables_made : Around → Y.BlockHead → Y.BlockKind → Meaning (Unit {0})
block_variables_made around head Y.SimpleUnit = give tt
block_variables_made around head _ = variables_made around 0 (variables_of_block around.program head.number)

-- the entry of a procedure or an on-unit is an act, once its last variable is made; a begin block's is none
unfoldable pub entry_act : Y.BlockKind → Meaning (Unit {0})
entry_act Y.BeginBlock = give tt
entry_act _ = act counted

-- the list of a block. A function has an error at its end, and a unit for it may go back to a label of the list
unfoldable pub block_list : Around → Y.Stmts → (is_function : Bool) → Meaning (Unit {0})
block_list around body false = list around body
block_list around body true =
    list_with around (labels_in body)
    (λ from. do
      statements around body from
      error around no_value_code)

unfoldable pub block_body : Around → Y.BlockHead → Y.Stmts → Entry → Meaning (Unit {0})
block_body around head body entry = do
  parameters_bound entry.parameters entry.arguments
  block_variables_made around head head.kind
  entry_act head.kind
  block_list around body entry.is_function

abbrev pub is_own_return : Y.BlockKind → Bool
is_own_return Y.BeginBlock = false
is_own_return _ = true

unfoldable pub block_run : Around → Y.Block → Entry → Meaning (Option BasicValue)
block_run around (Y.BlockOf head body) entry = do
  s ← looked
  choose (nat_lt (length s.activations) most_activations)
      (do
        stored (with_activation head entry)
        leaving (is_own_return head.kind) newest_ended (block_body (at_line around head.line) head body entry))
      (finish (E.Limit L.Depth))

-- blocks entered at most n deep, in each of which a loop makes at most as many turns
unfoldable pub entered : Y.Program → ℕ → Enter
entered program zero entry = stuck
entered program (suc n) entry = block_run (record { program = program; enter = entered program n; turns = suc n; line = 0 }) entry.block entry

-- ---- the whole

abbrev pub main_of : List Y.Procedure → Option Y.Procedure
main_of [] = None
main_of (p ∷ ps) = Some p

unfoldable pub run : Y.Program → (fuel : ℕ) → Meaning (Unit {0})
run program fuel =
    given (main_of program.procedures)
    (λ main. do
      stored (statics_from 0 program.variables)
      entered program fuel (begun main.block 0)
      finish E.Finished)
    stuck

-- what an ended or pausing run shows
abbrev pub shown : {R : Type 0} → Flow R → Option World
shown (Normal r s) = None
shown (Jump height label s) = None
shown (Return v s) = None
shown (Ended s) = Some s.world
shown (Paused s) = Some s.world
shown Stuck = None

-- the world that a program comes to on an input with k acts allowed: its acts, output, raised conditions and end. Each
-- block entered inside another makes an act, so k + 1 levels are enough.
unfoldable pub meaning : Y.Program → (input : List ℕ) → ℕ → Option World
meaning program input k = shown (run program (suc k) k (first_state input))
