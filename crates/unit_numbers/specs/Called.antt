-- What such a program may call: procedures and functions without parameters that call one another. They may establish
-- units of their own, and in all of them those of blocks below may be raised.
use Rattle.std.specs.Prelude.{ℕ, zero, suc, ◌&&◌, ◌==◌, Bool, true, false, List, [], ◌∷◌, ◌++◌, length, nat_le, None}
use Rattle.std.specs.Prelude.{Option, Some, if◌then◌else◌, not}
use Rattle.pli_typing.specs.TypedTree as Y
use Rattle.pli_meaning.specs.DeclaredShapes.{head_of, procedure_numbered}
use Rattle.pli_meaning.specs.Executing.{labels_in}
use Rattle.pli_coding.specs.Registers.{held_registers}
use Rattle.unit_runs.specs.Establishing.{OnUnit}
use Rattle.number_runs.specs.Numbers.{has_none}
use Rattle.number_runs.specs.Statements.{statements_need, statements_set}
use Rattle.number_headlines.specs.Programs.{body_of, is_valued, most_waiting, numbers_of}
use Rattle.unit_numbers.specs.Calls.{all_units_in}
use Rattle.unit_numbers.specs.Steps.{are_steps}

-- its list may establish units; its temporaries fit registers, and its loops the words of its frame
abbrev pub is_list_of : Y.Program → List ℕ → (head : Y.BlockHead) → (valued : Bool) → Y.Stmts → Bool
is_list_of program ns head valued body =
    are_steps program ns head body valued (labels_in body ++ []) body
    && (nat_le (statements_need body) held_registers && nat_le (statements_set body) most_waiting)

-- the main procedure is called by none
abbrev pub is_called : Y.Program → List ℕ → Y.Procedure → Bool
is_called program ns p =
    has_none p.parameters
    && (not ((head_of p.block).level == 0)
    && is_list_of program ns (head_of p.block) (is_valued p.result) (body_of p.block))

abbrev pub is_called_if : Y.Program → List ℕ → Option Y.Procedure → Bool
is_called_if program ns None = false
is_called_if program ns (Some p) = is_called program ns p

-- each of these numbers finds one that calls those
abbrev pub are_called : Y.Program → (called : List ℕ) → List ℕ → Bool
are_called program called [] = true
are_called program called (n ∷ ns) =
    is_called_if program called (procedure_numbered n program.procedures) && are_called program called ns

-- those that call only these
abbrev pub kept_of : Y.Program → List ℕ → List Y.Procedure → List ℕ
kept_of program ns [] = []
kept_of program ns (p ∷ ps) =
    if is_called program ns p then (head_of p.block).number ∷ kept_of program ns ps
    else kept_of program ns ps

-- after as many rounds as there are procedures, those that call only one another
abbrev pub closed_of : Y.Program → (rounds : ℕ) → List ℕ → List ℕ
closed_of program zero ns = ns
closed_of program (suc rounds) ns = closed_of program rounds (kept_of program ns program.procedures)

abbrev pub called_ones : Y.Program → List ℕ
called_ones program = closed_of program (length program.procedures) (numbers_of program.procedures)

-- ---- their units

abbrev pub units_if : Option Y.Procedure → List OnUnit
units_if None = []
units_if (Some p) = all_units_in (body_of p.block)

abbrev pub called_units : Y.Program → List ℕ → List OnUnit
called_units program [] = []
called_units program (n ∷ ns) = units_if (procedure_numbered n program.procedures) ++ called_units program ns
