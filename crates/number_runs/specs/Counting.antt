-- DO with a FIXED BINARY(31) variable that counts up to a limit, by a step that is a constant, with WHILE or without:
-- its parts, as a class that is computed from typed trees.
use Rattle.std.specs.Prelude.{ℕ, ◌^◌, ◌==◌, ◌&&◌, Bool, false, true, max, nat_lt, Option, None, Some}
use Rattle.pli_typing.specs.TypedTree as Y
use Rattle.number_runs.specs.Numbers.{Scope, is_number, is_test, is_variable, number_needs, number_sets, test_needs}
use Rattle.number_runs.specs.Numbers.{test_sets}

abbrev pub is_counter : Scope → Y.Counter → Bool
is_counter s (Y.NumberCounter precision r) = (precision == 31) && is_variable s r
is_counter s (Y.TextCounter r) = false

abbrev pub is_start : Scope → Y.Value → Bool
is_start s (Y.NumberValue precision x) = is_number s x
is_start s _ = false

-- there is one
abbrev pub is_limit : Scope → Option Y.Number → Bool
is_limit s None = false
is_limit s (Some x) = is_number s x

-- a constant of the code, of either sign
abbrev pub is_step : Y.Number → Bool
is_step (Y.NumberConstant n) = nat_lt n (2 ^ 31)
is_step (Y.Signed Y.Negative (Y.NumberConstant n)) = nat_lt n (2 ^ 31)
is_step _ = false

-- WHILE may be there
abbrev pub is_condition : Scope → Option Y.Bit → Bool
is_condition s None = true
is_condition s (Some x) = is_test s x

-- a step may pass the precision of the variable
abbrev pub is_count : Scope → Y.Counter → Y.Value → Option Y.Number → Y.Number → Option Y.Bit → Bool
is_count s counter start limit step condition =
    s.overflows
    && (is_counter s counter
    && (is_start s start && (is_limit s limit && (is_step step && is_condition s condition))))

-- ---- how many registers its temporaries need

abbrev pub start_needs : Y.Value → ℕ
start_needs (Y.NumberValue precision x) = number_needs x
start_needs _ = 0

abbrev pub limit_needs : Option Y.Number → ℕ
limit_needs None = 0
limit_needs (Some x) = number_needs x

abbrev pub condition_needs : Option Y.Bit → ℕ
condition_needs None = 0
condition_needs (Some x) = test_needs x

-- one more where the step overflows
abbrev pub count_needs : Y.Value → Option Y.Number → ℕ
count_needs start limit = max 1 (max (start_needs start) (limit_needs limit))

-- ---- and how many words of the frame their lists of arguments take

abbrev pub start_sets : Y.Value → ℕ
start_sets (Y.NumberValue precision x) = number_sets x
start_sets _ = 0

abbrev pub limit_sets : Option Y.Number → ℕ
limit_sets None = 0
limit_sets (Some x) = number_sets x

abbrev pub condition_sets : Option Y.Bit → ℕ
condition_sets None = 0
condition_sets (Some x) = test_sets x

abbrev pub count_sets : Y.Value → Option Y.Number → ℕ
count_sets start limit = max (start_sets start) (limit_sets limit)
