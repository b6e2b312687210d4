-- Words for what waits behind one more number, and behind a record.
use Rattle.std.proofs.Common.{ℕ, suc, ◌+◌, ◌-◌, ◌≤◌, max, List, arith}
use Rattle.pli_typing.specs.TypedTree as Y
use Rattle.pli_coding.specs.Environments.{Taken, with_words, with_number}
use Rattle.pli_coding.specs.Temporaries.{reference_takes}
use Rattle.pli_coding.specs.Storing.{record_words, aggregate_takes}
use Rattle.pli_coding.specs.Streams.{put_takes, get_takes}
use Rattle.temporary_bounds.specs.WordBounds.{reference_words, put_words, get_words}
use Rattle.temporary_bounds.specs.Spare.{spare}
use Rattle.temporary_bounds.proofs.Takes.{number_counts}
use Rattle.temporary_bounds.proofs.TakesMore.{reference_grows}
use Rattle.temporary_bounds.proofs.TakesNeeds.{reference_needs}
use Rattle.temporary_bounds.proofs.StatementNeeds.{put_needs, get_needs}

pub behind_number : (t : Taken) (r : Y.Reference)
    → t.words + suc (reference_words r) ≤ (reference_takes (with_number t) r).words + spare t
behind_number t r = let n = number_counts t in let a = reference_needs (with_number t) r in omega (arith, n, a)

-- a record takes four words
pub record_grows : (t : Taken) (r : Y.Reference) → t.words + 4 ≤ (aggregate_takes t r).words
record_grows t r = let a = reference_grows (with_words record_words t) r in omega (arith, a)

pub put_room : (t : Taken) (pairs : List Y.PutPair) (words : ℕ) → (put_takes t pairs).words ≤ words
    → t.words + put_words pairs ≤ words + spare t
put_room t pairs words room = let a = put_needs t pairs in omega (arith, a, room)

pub get_room : (t : Taken) (pairs : List Y.GetPair) (words : ℕ) → (get_takes t pairs).words ≤ words
    → t.words + get_words pairs ≤ words + spare t
get_room t pairs words room = let a = get_needs t pairs in omega (arith, a, room)
