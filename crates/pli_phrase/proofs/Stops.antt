-- How a failure of a part becomes one of the whole.
use Rattle.std.proofs.Common.{◌≡◌, Result, Err}
use Rattle.pli_phrase.specs.Cursor.{Missed, Stuck, Ended, LeavesOut}
use Rattle.pli_phrase.specs.View.{cursor_of}
use Rattle.pli_phrase.specs.declared.stop.Stop.{Stop}
use Rattle.pli_phrase.specs.declared.stop.Stop.TheVariants as X
use Rattle.pli_phrase.specs.Answers.{Fails}

pub fails_on : {A B : Type 0} (e : Stop) (r : Result A Missed) (r' : Result B Missed) → Fails e r → ((at : Missed) → r ≡ Err at → r' ≡ Err at) → Fails e r'
fails_on X.Memory r r' h on = tt
fails_on X.Stuck r r' h on = on Stuck h
fails_on X.Ended r r' h on = on Ended h
fails_on (X.LeftOut c) r r' h on = on (LeavesOut (cursor_of c)) h
