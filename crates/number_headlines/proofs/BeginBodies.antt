-- Each begin block of the class does what it means, if the statements of blocks that may be entered one level less deep
-- do: it ends the run where one more block may not be active, or where its variables pass the limit.
use Rattle.std.proofs.Common.{◌≡◌, ℕ, zero, suc, ◌+◌, ◌^◌, ◌<◌, List, length, Bool, true, false, arith}
use Rattle.std.specs.Prelude.{nat_le, nat_lt}
use Rattle.std.proofs.lemmas.Bool.{leb-true}
use Rattle.std.proofs.lemmas.Bool.Decides.{nat_tests}
use Rattle.pli_typing.specs.TypedTree as Y
use Rattle.pli_meaning.specs.Control.{Label}
use Rattle.pli_meaning.specs.DeclaredShapes.{variables_of_block}
use Rattle.pli_meaning.specs.Executing.{labels_in}
use Rattle.pli_meaning.specs.StorageState.{automatic_in_use, most_activations, most_automatic}
use Rattle.pli_coding.specs.Environments.{none_taken}
use Rattle.program_places.proofs.Inner.{begin_placed}
use Rattle.program_runs.specs.Calls.{left_over}
use Rattle.program_runs.specs.Statements.{Does}
use Rattle.begin_runs.specs.BeginBlocks.{begin_of, environment_of, list_index}
use Rattle.begin_runs.proofs.Begins.{begin_does}
use Rattle.nested_begins.proofs.BegunVariables.{all_begun_in}
use Rattle.nested_begins.proofs.DeepBegins.{deep_begin_ends}
use Rattle.nested_begins.proofs.FullBegins.{full_begin_ends}
use Rattle.number_runs.specs.Knowledge.{Includes, KnowsBegins}
use Rattle.number_runs.specs.Variables.{bytes_of}
use Rattle.number_runs.proofs.Statements.{body_marked}
use Rattle.number_headlines.specs.Jumps.{is_jumped_to}
use Rattle.number_headlines.specs.Programs.{scope_of}
use Rattle.number_headlines.proofs.BeginEntered.{At, begun_entered}
use Rattle.number_headlines.proofs.BeginLandings.{begun_landings}
use Rattle.number_headlines.proofs.BeginSites.{Stands, around_it, begin_in, is_begin, is_deep_begin, run_begun}
use Rattle.number_headlines.proofs.BeginSites.{within_is}
use Rattle.number_headlines.proofs.BeginWords.{full_in, all_in}
use Rattle.number_headlines.proofs.Deciding.{by_decision}
use Rattle.number_headlines.proofs.Landings.{EachBody, HasLandings}
use Rattle.number_headlines.proofs.Mains.{Main}
use Rattle.number_headlines.proofs.Running.{IsRunning, Running, block_of_run}

past : (used : ℕ) → nat_le used most_automatic ≡ false → most_automatic < used
past used e = grind (arith, e, nat_tests)

-- where it stands
begin_by :
    {program : Y.Program} {m : Main program} {input : List ℕ} {acts : ℕ} {valued : Bool} {more b : ℕ} {a : Running}
    (z : Stands m input acts valued more b a) → HasLandings m a →
    (is_jumped_to program m.called a.head.level a.head.number ≡ true → Includes (labels_in a.body) z.labels) →
    EachBody m input acts more → Does (around_it z) z.labels (begin_of (begin_in z)) z.index left_over
begin_by {program} {m} {input} {acts} {valued = valued} {more = more} {b = b} z lands named each =
    let k = around_it z in
    let x = begin_in z in
    let used = automatic_in_use k.first.state.living + bytes_of (variables_of_block program z.head.number) in
    by_decision (nat_lt (length k.first.state.activations) most_activations)
    (λ shallow.
    let is = is_begin z shallow in
    by_decision (nat_le used most_automatic)
    (λ e.
    let pass = leb-true used most_automatic e in
    begin_does k z.labels x z.index left_over more is
    (λ p numbers o since. (
      all_begun_in k x z.index p numbers _ (all_in z p numbers o pass),
      body_marked (record k { environment = environment_of k x }) z.body (list_index k p numbers x z.index)
          (begin_placed k.call.surroundings.links k.call.code z.index k.environment none_taken z.head z.body z.placed),
    ))
    (λ p numbers o since b'.
    let at : At z p numbers = record { among = o; pass = pass; shallow = shallow; begun = b' } in
    each valued (run_begun z p numbers) b (begun_entered z at since) (begun_landings z at lands named)))
    (λ e.
    full_begin_ends k z.labels x z.index left_over more is
    (λ p numbers o. full_in z p numbers o (past used e))))
    (λ deep. deep_begin_ends k z.labels x z.index left_over more (is_deep_begin z deep))

pub knows_begins :
    {program : Y.Program} (m : Main program) (input : List ℕ) (acts : ℕ) (valued : Bool) (more blocks : ℕ)
    (a : Running) → acts + 1 < 2 ^ 64 → IsRunning m input acts valued (suc more) a blocks →
    HasLandings m a → EachBody m input acts more → (own : List Label) →
    (is_jumped_to program m.called a.head.level a.head.number ≡ true → Includes (labels_in a.body) own) →
    KnowsBegins (scope_of program m.called a.head a.body) valued (block_of_run program input acts valued (suc more) a)
    own left_over
knows_begins m input acts valued more zero a few h lands each own named labels head body index includes is statements
    line fits begins at =
    let some = h.depth.some in absurd (omega (arith, some))
knows_begins {program} m input acts valued more (suc b) a few h lands each own named labels head body index includes is
    statements line fits begins at =
    let z : Stands m input acts valued more b a = record {
      running = h;
      labels = labels;
      head = head;
      body = body;
      index = index;
      within = within_is m valued a head body is statements (line, fits, begins);
      placed = at;
      few = few;
    } in
    begin_by z lands (λ jumped label among. includes label (named jumped label among)) each
