-- Service 40, from the place on where the leaves of the part are known.
use Rattle.std.specs.Prelude.{ℕ, zero, suc, List, drop, map, Result, Ok, Err, if◌then◌else◌}
use Rattle.pli_meaning.specs.Codes.{shape_code}
use Rattle.pli_meaning.specs.Placing.{all_same_bounds}
use Rattle.pli_serving.specs.Answers.{Answer, Done}
use Rattle.pli_serving.specs.Finding.{Call}
use Rattle.pli_serving.specs.Outcomes.{answering, bad_unless, becoming, pushed, with_entries}
use Rattle.pli_serving.specs.ServiceState as S
use Rattle.pli_serving.specs.ServiceState.{Entry, AggregateEntry}
use Rattle.pli_answering.specs.declared.reply.Reply.{Reply}
use Rattle.pli_answering.specs.declared.reply.Reply.TheVariants as R
use Rattle.pli_answering.specs.declared.reply.Refusal.{Refusal}
use Rattle.pli_parts.specs.Putting.{bounds_of, bounds_taken, go_into, leaves_put}
use Rattle.pli_entries.specs.Kept.{leaf_of}
use Rattle.pli_parts.specs.Taking.{have_values, leaf_taken}
use Rattle.pli_parts.specs.declared.leaf.PartLeaf.{PartLeaf}
use Rattle.pli_entries.specs.declared.taken.TakenLeaf.{TakenLeaf}

-- leaves come onto the stack as one entry
abbrev pub taken_pushed : (x : ℕ) → List S.TakenLeaf → Call → Answer
taken_pushed x leaves c = becoming c (pushed (AggregateEntry leaves) c.services) x 0

abbrev pub leaves_taken : (x : ℕ) → List PartLeaf → Call → Answer
leaves_taken x leaves c = bad_unless (have_values leaves) (taken_pushed x (map (leaf_taken c.memory) leaves) c)

-- an entry of these leaves
abbrev pub entry_of : List TakenLeaf → Entry
entry_of taken = AggregateEntry (map leaf_of taken)

-- leaves that were taken are put into others, and the entry above those that stay is dropped
abbrev pub taken_put : (x : ℕ) → List PartLeaf → List TakenLeaf → (below : List Entry) → Call → Answer
taken_put x leaves taken below c =
    if all_same_bounds (map bounds_of leaves) (map bounds_taken taken)
    then bad_unless (go_into leaves taken) (Done (with_entries below c.services) (leaves_put leaves taken c.memory) x 0)
    else answering c x shape_code

-- the entries after a reply: the newest is dropped where it was stored
abbrev pub entries_left : Result Reply Refusal → List Entry → List Entry
entries_left (Ok (R.Done x zero)) entries = drop 1 entries
entries_left (Ok (R.Done x (suc code))) entries = entries
entries_left (Ok R.Ended) entries = entries
entries_left (Err refusal) entries = entries
