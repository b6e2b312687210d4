-- DO with variables that count: what the images show is what the storage machine shows.
use Rattle.std.proofs.Common.{◌≡◌, ℕ, List, [], ◌∷◌, Option, Some, None, refl}
use lib.Chars.{codes}
use Rattle.pli_language.specs.declared.condition.Condition.TheVariants as C
use Rattle.pli_typing.specs.TypedTree as Y
use Rattle.coding_runs.proofs.RowPieces.{automatic, whole, scalar, leaf, member, declared, head, procedure, program}
use Rattle.coding_runs.proofs.FormPieces.{n, minus, text, num, txt, const, up_to, at, line, list, set, put_numbers}
use Rattle.coding_runs.proofs.FormPieces.{put_texts, simple_unit}
use Rattle.coding_runs.proofs.Running.{fitted, run_of}
use Rattle.coding_runs.proofs.StorageMachine.{machine_shows, computing}

-- I and J FIXED(31), S FIXED(15), A(3) FIXED(31), C CHAR(14)
abbrev counting : List Y.Stmt → Y.Program
counting statements =
    program ([] ∷
    (scalar Y.AutomaticClass (Y.FixedLeaf 31)
    ∷ scalar Y.AutomaticClass (Y.FixedLeaf 31)
    ∷ scalar Y.AutomaticClass (Y.FixedLeaf 15)
    ∷ declared Y.AutomaticClass (member 0 1 ∷ []) (leaf (Y.FixedLeaf 31) (up_to 3 ∷ []) [] ∷ []) None []
    ∷ scalar Y.AutomaticClass (Y.CharacterLeaf (const 14)) ∷ []) ∷ [])
    (procedure (Y.BlockOf (head Y.ProcedureBlock 1 0 1) (list statements)) [] None ∷ [])

abbrev i : Y.Variable
i = automatic 1 0 0

abbrev j : Y.Variable
j = automatic 1 0 1

abbrev s : Y.Variable
s = automatic 1 0 2

abbrev second : Y.Reference
second = at (automatic 1 0 3) 0 (n 2 ∷ [])

abbrev c : Y.Variable
c = automatic 1 0 4

abbrev highest : Y.Number
highest = n 2147483647

abbrev lowest : Y.Number
lowest = Y.Calculated Y.Difference (minus highest) (n 1)

abbrev plus_one : Y.Variable → Y.Stmt
plus_one v = set (whole v) 31 (Y.Calculated Y.Sum (num v) (n 1))

abbrev below : Y.Variable → ℕ → Option Y.Bit
below v k = Some (Y.NumbersCompared Y.IsLess (num v) (n k))

-- DO of a variable, with what its statements are
abbrev counts : Y.Variable → (precision : ℕ) → (start : Y.Number) → Option Y.Number → (step : Y.Number) → Option Y.Bit
    → List Y.Stmt → Y.Stmt
counts v precision start limit step condition body =
    Y.DoCount (Y.NumberCounter precision (whole v)) (Y.NumberValue 31 start) limit step condition (list body) line

abbrev shows : (start limit step : Y.Number) → Y.Stmt
shows start limit step = counts i 31 start (Some limit) step None (put_numbers (num i ∷ []) ∷ [])

-- FIXEDOVERFLOW shows that it was raised, and the program goes on
abbrev goes_on : Y.Stmt
goes_on = Y.OnUnit C.FixedOverflow (simple_unit 1 1 (put_texts (text (codes "O") ∷ []))) line

-- ---- up and down, by one and by more, also where no turn is made

abbrev up_and_down : Y.Program
up_and_down =
    counting
    (shows (n 1) (n 3) (n 1)
    ∷ shows (n 1) (n 4) (n 2)
    ∷ shows (n 2) (n 1) (n 1)
    ∷ shows (n 2) (minus (n 1)) (minus (n 3))
    ∷ shows (n 1) (n 2) (minus (n 1))
    ∷ shows (minus (n 1)) (n 9999) (n 5000)
    ∷ shows (n 1) (minus (n 9999)) (minus (n 5000))
    ∷ shows (n 1) (n 3) (Y.Signed Y.Positive (n 2))
    ∷ put_numbers (num i ∷ [])
    ∷ [])

up_and_down_agree : run_of (fitted up_and_down 1024 64) 20000 up_and_down [] ≡ machine_shows up_and_down []
unfolding computing
up_and_down_agree = refl

-- ---- a step of 0: up, until WHILE isn't met

abbrev by_nothing : Y.Program
by_nothing =
    counting
    (counts i 31 (n 3) (Some (n 3)) (n 0) (below j 2) (plus_one j ∷ put_numbers (num i ∷ []) ∷ [])
    ∷ shows (n 4) (n 3) (n 0)
    ∷ counts i 31 (n 2) (Some (n 3)) (minus (n 0)) (below j 4) (plus_one j ∷ put_numbers (num i ∷ []) ∷ [])
    ∷ shows (n 4) (n 3) (minus (n 0))
    ∷ put_numbers (num i ∷ num j ∷ [])
    ∷ [])

by_nothing_agrees : run_of (fitted by_nothing 1024 64) 20000 by_nothing [] ≡ machine_shows by_nothing []
unfolding computing
by_nothing_agrees = refl

-- ---- the step overflows: a unit returns, and the next value is what is left of the sum

abbrev around_the_ends : Y.Program
around_the_ends =
    counting
    (goes_on
    ∷ counts i 31 (n 2147483646) (Some highest) (n 1) (below j 4) (plus_one j ∷ put_numbers (num i ∷ []) ∷ [])
    ∷ counts i 31 (Y.Calculated Y.Sum lowest (n 1)) (Some lowest) (minus (n 1)) (below j 7)
    (plus_one j ∷ put_numbers (num i ∷ []) ∷ [])
    ∷ counts i 31 (n 2147480000) None (n 5000) (below j 9) (plus_one j ∷ put_numbers (num i ∷ []) ∷ [])
    ∷ counts i 31 (n 1) (Some (n 0)) (minus highest) (below j 12) (plus_one j ∷ put_numbers (num i ∷ []) ∷ [])
    ∷ put_numbers (num i ∷ [])
    ∷ [])

around_the_ends_agree : run_of (fitted around_the_ends 1024 64) 20000 around_the_ends []
    ≡ machine_shows around_the_ends []
unfolding computing
around_the_ends_agree = refl

-- without a unit the run ends
abbrev past_the_highest : Y.Program
past_the_highest = counting (shows (n 2147483646) highest (n 1) ∷ [])

past_the_highest_agrees : run_of (fitted past_the_highest 1024 64) 20000 past_the_highest []
    ≡ machine_shows past_the_highest []
unfolding computing
past_the_highest_agrees = refl

abbrev past_the_lowest : Y.Program
past_the_lowest = counting (shows (Y.Calculated Y.Sum lowest (n 1)) lowest (minus (n 1)) ∷ [])

past_the_lowest_agrees : run_of (fitted past_the_lowest 1024 64) 20000 past_the_lowest []
    ≡ machine_shows past_the_lowest []
unfolding computing
past_the_lowest_agrees = refl

-- ---- BY without TO, steps that are no constants, and statements that change what the DO goes by

abbrev by_more : Y.Program
by_more =
    counting
    (counts i 31 (n 5) None (n 10) (below i 30) (put_numbers (num i ∷ []) ∷ [])
    ∷ set (whole j) 31 (n 2)
    ∷ shows (n 1) (n 6) (num j)
    ∷ shows (n 6) (n 1) (minus (num j))
    ∷ shows (n 1) (n 3) (minus (minus (n 1)))
    ∷ counts i 31 (n 1) (Some (num j)) (n 1) None (plus_one i ∷ plus_one j ∷ put_numbers (num i ∷ num j ∷ []) ∷ [])
    ∷ put_numbers (num i ∷ [])
    ∷ [])

by_more_agrees : run_of (fitted by_more 1024 64) 20000 by_more [] ≡ machine_shows by_more []
unfolding computing
by_more_agrees = refl

-- ---- FIXED(15), an element and a text that count

abbrev other_counters : Y.Program
other_counters =
    counting
    (goes_on
    ∷ counts s 15 (n 32766) (Some (n 32767)) (n 1) (below j 3) (plus_one j ∷ put_numbers (num s ∷ []) ∷ [])
    ∷ counts s 15 (minus (n 32767)) (Some (minus (n 32768))) (minus (n 1)) (below j 5)
    (plus_one j ∷ put_numbers (num s ∷ []) ∷ [])
    ∷ Y.DoCount (Y.NumberCounter 31 second) (Y.NumberValue 31 (n 1)) (Some (n 2)) (n 1) None
    (list (put_numbers (Y.NumberIn second ∷ []) ∷ [])) line
    ∷ Y.DoCount (Y.TextCounter (whole c)) (Y.TextValue (text (codes "7"))) (Some (n 9)) (n 2) None
    (list (put_texts (txt c ∷ []) ∷ [])) line
    ∷ Y.DoCount (Y.TextCounter (whole c)) (Y.TextValue (text (codes "2"))) (Some (n 1)) (minus (n 1)) None
    (list (put_texts (txt c ∷ []) ∷ [])) line
    ∷ [])

other_counters_agree : run_of (fitted other_counters 1024 64) 20000 other_counters [] ≡ machine_shows other_counters []
unfolding computing
other_counters_agree = refl
