-- What is called where its variables pass the limit on what is AUTOMATIC: making them ends the run.
use Rattle.std.proofs.Common.{◌≡◌, ℕ, suc, ◌+◌, ◌^◌, ◌<◌, List, [], length, Bool, refl, ap, ◌∙◌, subst, arith}
use Rattle.pli_typing.specs.TypedTree as Y
use Rattle.pli_meaning.specs.DeclaredShapes.{variables_of_block}
use Rattle.pli_meaning.specs.Executing as M
use Rattle.pli_meaning.specs.Raising.{at_line}
use Rattle.pli_meaning.specs.StorageState.{automatic_in_use, most_automatic}
use Rattle.pli_coding.specs.Assembly.{size_of}
use Rattle.pli_coding.specs.Frames.{fixed_size, parameters_in, parameters_of_block, variable_place}
use Rattle.pli_coding.specs.Images.{linked_code}
use Rattle.activation_relation.specs.Frames.{lower_end, upper_top}
use Rattle.activation_relation.specs.Layers.{Point}
use Rattle.activation_relation.proofs.Returning.{in_use_later}
use Rattle.run_steps.specs.Items.{Linked}
use Rattle.block_runs.proofs.Places.{bounds}
use Rattle.program_places.specs.Programs.{code_for, environment_for}
use Rattle.program_places.proofs.Found.{known}
use Rattle.program_runs.specs.Calls.{begun_at, variables_index}
use Rattle.program_runs.specs.Procedures.{layer_for}
use Rattle.program_runs.specs.Starts.{image_parts}
use Rattle.nested_calls.specs.FullVariables.{AreFull}
use Rattle.number_runs.specs.Variables.{bytes_of}
use Rattle.number_runs.proofs.Words.{places_are, words_code}
use Rattle.number_headlines.proofs.CalledBlocks.{Moment, callee_in, inner_set}
use Rattle.number_headlines.proofs.Begins.{begins_at, block_begins}
use Rattle.number_headlines.proofs.FullWords.{words_over}
use Rattle.number_headlines.proofs.Inner.{Inner}
use Rattle.number_headlines.proofs.Mains.{Main, surroundings_for}
use Rattle.number_headlines.proofs.Running.{Running, block_of_run, free_among, table_later}
use Rattle.number_headlines.proofs.Tables.{plain_block}

pub are_full :
    {program : Y.Program} (m : Main program) {input : List ℕ} {acts : ℕ} {valued : Bool} {more b : ℕ}
    {a : Running} {p : Point} {numbers : ℕ → ℕ} (o : Moment m input acts valued (suc more) a (suc b) p numbers)
    {v : Bool} {level number : ℕ} (i : Inner m a.head [] v level number) (call : ℕ) → acts + 1 < 2 ^ 64 →
    most_automatic < automatic_in_use (block_of_run program input acts valued (suc more) a).first.state.living
    + bytes_of (variables_of_block program i.head.number) →
    AreFull (surroundings_for program input acts) (linked_code (code_for program))
    (callee_in i more (block_of_run program input acts valued (suc more) a) call) p
    numbers
unfolding M.block_variables_made
are_full {program} m {input} {acts} {valued} {more} {b} {a} {p} {numbers} o {v} i call few past =
    let w = surroundings_for program input acts in
    let code = linked_code (code_for program) in
    let k = block_of_run program input acts valued (suc more) a in
    let c = callee_in i more k call in
    let e = environment_for program i.head in
    let head = i.head in
    let φ = layer_for w p numbers c.procedure c.calling in
    let start = begun_at w c p numbers in
    let ds = variables_of_block program i.head.number in
    let first = fixed_size i.head.level 0 in
    let around = at_line c.around head.line in
    let plain = plain_block program.variables i.head.number m.known i.own in
    let count = plain.room in
    let is = known program i.head i.body i.result m.loadable.well_formed i.is in
    let kind = is.kind in
    let level = is.level in
    let words = inner_set m i in
    let waiting = i.waiting in
    let f = free_among (suc b) o.running.begun o.among o.running.free in
    let same = in_use_later w k.first p o.running.begun.resumes.stands o.among.stands o.among.later in
    let laid = bounds image_parts p.control.layers o.among.stands.laid in
    let free' = laid.free in
    let high = laid.high in
    let used = f.used in
    let fits = f.fits in
    let even = f.even in
    let top = ap (λ ls. upper_top image_parts ls) f.newest in
    let low = ap (λ ls. lower_end image_parts ls) f.newest in
    let at = places_are e.parts first ds plain.plain (omega (arith, level, count)) in
    let bare = ap parameters_in i.is in
    let place : fixed_size e.level (length (parameters_of_block e.program e.block)) ≡ first =
    ap (λ (ns : List ℕ). fixed_size e.level (length ns)) bare in
    let coded = words_code e head.line first 0 ds plain.plain
    (λ j less.
    ap (λ n. variable_place e.parts n ds (0 + j)) place
    ∙ ap (λ n. variable_place e.parts first ds n) (omega arith)
    ∙ at j less) in
    let size = ap (λ u. size_of u) coded in
    let over = words_over w code e around start numbers φ p.control.layers first 0 ds
    (record { parts = refl; acts = few }) plain.plain
    (table_later program o.among.later.remains o.running.tabled i.head)
    (begins_at program ds p.places.constants (o.among.later.remains.constants ∙ o.running.told.constants)
    (block_begins program head i.body [] i.result m.memory m.known i.is))
    (record { activation = _; below = _; active = refl; some = omega arith })
    (record {
      newest = refl;
      here = refl;
      even = omega (arith, words, waiting, level, even, top);
      counted = omega (arith, level, count);
      inside = omega (arith, words, waiting, level, count, free', high);
      low = f.low;
      fits = omega (arith, words, waiting, level, fits, top, low);
      used = used;
    }) (omega (arith, past, same)) in
    record {
      state = over.state;
      means = ap (λ q. M.block_variables_made around head q acts start.state) kind ∙ over.means;
      ends = λ credits g stands paid l there.
          over.over credits (variables_index c) g stands (omega (arith, paid, size))
          (subst (Linked w.links code (variables_index c)) coded l) there;
    }
