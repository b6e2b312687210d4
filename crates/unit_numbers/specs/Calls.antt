-- What the blocks of such a program may name and call, and the units of a list.
use Rattle.std.specs.Prelude.{ℕ, ◌&&◌, ◌||◌, ◌==◌, Bool, true, false, List, [], ◌∷◌, ◌++◌, not}
use Rattle.std.specs.List.{list_any}
use Rattle.pli_language.specs.declared.condition.Condition.{Condition}
use Rattle.pli_language.specs.declared.condition.Condition.TheVariants as C
use Rattle.pli_typing.specs.TypedTree as Y
use Rattle.pli_meaning.specs.Control.{is_among}
use Rattle.pli_meaning.specs.Executing.{labels_in}
use Rattle.pli_meaning.specs.StorageState.{same_condition}
use Rattle.program_places.specs.Programs.{environment_for}
use Rattle.unit_runs.specs.Establishing.{OnUnit}
use Rattle.number_runs.specs.Numbers.{Scope, no_names}
use Rattle.number_headlines.specs.Programs.{is_body, is_callable, places_to}

-- ---- the units of a list: of each ON in it, and in the groups, choices and loops of it

abbrev mutual
  pub units_in : Y.Stmt → List OnUnit
  units_in (Y.OnUnit condition (Y.BlockOf head body) line) =
      record { condition = condition; head = head; body = body; line = line } ∷ []
  units_in (Y.If condition unit line) = units_in unit
  units_in (Y.IfElse condition unit otherwise line) = units_in unit ++ units_in otherwise
  units_in (Y.Do body line) = all_units_in body
  units_in (Y.DoWhile condition body line) = all_units_in body
  units_in _ = []

  pub all_units_in : Y.Stmts → List OnUnit
  all_units_in (Y.EndOfList own) = []
  all_units_in (Y.StmtThen own first rest) = units_in first ++ all_units_in rest

-- it has one for a condition
abbrev pub has_unit : Condition → Y.Stmts → Bool
has_unit c body = list_any (λ x. same_condition x.condition c) (all_units_in body)

-- ---- whether one of them jumps

abbrev mutual
  pub jumps_in : Y.Stmt → Bool
  jumps_in (Y.Goto level label line) = true
  jumps_in (Y.If condition unit line) = jumps_in unit
  jumps_in (Y.IfElse condition unit otherwise line) = jumps_in unit || jumps_in otherwise
  jumps_in (Y.Do body line) = jump_in body
  jumps_in (Y.DoWhile condition body line) = jump_in body
  jumps_in (Y.DoOnce variable start condition body line) = jump_in body
  jumps_in (Y.DoCount counter start limit step condition body line) = jump_in body
  jumps_in _ = false

  pub jump_in : Y.Stmts → Bool
  jump_in (Y.EndOfList own) = false
  jump_in (Y.StmtThen own first rest) = jumps_in first || jump_in rest

abbrev pub has_jumps : Y.Stmts → Bool
has_jumps all = list_any (λ x. jump_in x.body) (all_units_in all)

-- ---- blocks

-- a list to whose labels units of it jump: a place in a format list of its block would be dropped
abbrev pub is_jumped_to : (unit : Bool) → (all : Y.Stmts) → Bool
is_jumped_to unit all = not unit && has_jumps all

-- so nothing is written there, but in the main procedure's own list, if it has no unit for ERROR
abbrev pub is_silent : (caller : Y.BlockHead) → (unit : Bool) → (all : Y.Stmts) → Bool
is_silent caller unit all = is_jumped_to unit all && (not (caller.level == 0) || has_unit C.Error all)

-- a block whose statements may name the variables that a block may name, and call what that may: itself, or the
-- procedure or function of which it is a unit, which has this list. It may write numbers, or it writes none. The main
-- procedure's own list, if units jump to its labels, writes nothing that raises a condition for which it has a unit, so
-- that no place in a format list is in use there: nothing at all with a unit for ERROR, which writing raises; and so
-- does no other list to whose labels units jump. A unit doesn't return, and may jump to the labels of that list.
abbrev pub scope_in :
    Y.Program → List ℕ → (all : Y.Stmts) → (caller : Y.BlockHead) → (unit writes : Bool) → Scope
scope_in program ns all caller unit writes =
    record {
      program = program;
      level = caller.level;
      blocks = places_to (environment_for program caller) caller.level;
      receivers = [];
      is_function = is_callable program ns caller 0 true;
      is_procedure = is_callable program ns caller 0 false;
      gives = false;
      locates = false;
      pointers = [];
      is_given_function = λ count level n. false;
      is_given_procedure = λ count level n. false;
      counts = true;
      puts = writes && not (is_silent caller unit all);
      reads = false;
      overflows = not (writes && (is_jumped_to unit all && has_unit C.FixedOverflow all));
      divides = not (writes && (is_jumped_to unit all && has_unit C.ZeroDivide all));
      narrows = true;
      texts = false;
      waits = false;
      elements = true;
      own = not unit;
      is_outer = λ level label.
          unit && (has_jumps all && ((level == caller.level) && is_among label (labels_in all)));
      signals = λ c. true;
      codes = true;
      returns = not unit;
      is_begin = λ head inner. false;
      inner = λ head inner. no_names;
    }

-- it does one or the other
abbrev pub is_body_in :
    Y.Program → List ℕ → (all : Y.Stmts) → (caller : Y.BlockHead) → (unit valued : Bool) → Y.Stmts → Bool
is_body_in program ns all caller unit valued body =
    is_body (scope_in program ns all caller unit false) valued body
    || is_body (scope_in program ns all caller unit true) valued body
