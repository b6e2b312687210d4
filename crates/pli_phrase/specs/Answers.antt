-- What a reader of the code answers, against what reading gives.
use Rattle.std.specs.Prelude.{◌≡◌, Result, Ok, Err}
use Rattle.pli_phrase.specs.Cursor.{Missed, Stuck, Ended, LeavesOut}
use Rattle.pli_phrase.specs.View.{cursor_of}
use Rattle.pli_phrase.specs.declared.stop.Stop.{Stop}
use Rattle.pli_phrase.specs.declared.stop.Stop.TheVariants as X

abbrev pub Fails : {Y : Type 0} → Stop → Result Y Missed → Type 0
Fails X.Memory read = Unit {0}
Fails X.Stuck read = read ≡ Err Stuck
Fails X.Ended read = read ≡ Err Ended
Fails (X.LeftOut c) read = read ≡ Err (LeavesOut (cursor_of c))

-- what a function returned, seen by view, is what reading gives, unless memory ran out
abbrev pub Gives : {A Y : Type 0} → (A → Y) → Result A Stop → Result Y Missed → Type 0
Gives view (Ok x) read = read ≡ Ok (view x)
Gives view (Err e) read = Fails e read
