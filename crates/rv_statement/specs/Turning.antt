-- Turns that have begun, with the places of the jumps past them.
use Rattle.std.specs.Prelude.{◌≡◌, ℕ, ℤ, ◌++◌, Option}
use Rattle.pli_typing.specs.TypedTree as Y
use Rattle.pli_coding.specs.Assembly.{Code, size_of}
use Rattle.pli_coding.specs.Environments.{Environment, Taken}
use Rattle.pli_coding.specs.Allocating.{act_code}
use Rattle.pli_coding.specs.Statements.{limit_kept, while_kept}
use Rattle.rv_statement.specs.declared.turn.Turn.{Turn}
use Rattle.rv_statement.specs.declared.turn.Repeat.{Repeat}
use Rattle.rv_statement.specs.Ahead.{ComesTo, ComesToIf}
use Rattle.rv_statement.specs.Pieces.{test_begun, turn_opened}

-- the first part of a turn, up to its limit
abbrev pub turn_opening : Environment → Taken → Y.Counter → Option Y.Number → (step : Option ℤ) → (line : ℕ)
    → (behind : ℕ) → Code
turn_opening e t counter limit step line behind =
    turn_opened e t counter line ++ limit_kept e t counter limit step behind

pub record TurnBegun (old now : Code) (u : Turn) (e : Environment) (t : Taken) (counter : Y.Counter) (limit :
    Option Y.Number) (step : Option ℤ) (condition : Option Y.Bit) (line : ℕ) : Type 0 where
  pub before : u.start ≡ size_of old
  pub written : now ≡ (old ++ turn_opening e t counter limit step line 0) ++ while_kept e t condition 0
  pub past_limit : ComesToIf (old ++ turn_opening e t counter limit step line 0) u.limit
      (λ n. old ++ turn_opening e t counter limit step line n)
  pub past_condition :
      ComesToIf now u.condition (λ n. (old ++ turn_opening e t counter limit step line 0) ++ while_kept e t condition n)

pub record WhileBegun (old now : Code) (r : Repeat) (e : Environment) (t : Taken) (x : Y.Bit) (line : ℕ) : Type 0 where
  pub before : r.start ≡ size_of (old ++ act_code line)
  pub written : now ≡ (old ++ act_code line) ++ test_begun e t x line 0
  pub past : ComesTo now r.place (λ n. (old ++ act_code line) ++ test_begun e t x line n)
