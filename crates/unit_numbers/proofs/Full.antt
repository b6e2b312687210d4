-- What is called where its variables pass the limit on what is AUTOMATIC: making them ends the run.
use Rattle.std.proofs.Common.{◌≡◌, ℕ, suc, ◌+◌, ◌^◌, ◌<◌, List, [], length, Bool, refl, ap, ◌∙◌, subst, arith}
use Rattle.pli_typing.specs.TypedTree as Y
use Rattle.pli_meaning.specs.DeclaredShapes.{variables_of_block}
use Rattle.pli_meaning.specs.Executing as M
use Rattle.pli_meaning.specs.Raising.{at_line}
use Rattle.pli_meaning.specs.StorageState.{automatic_in_use, most_automatic}
use Rattle.pli_coding.specs.Assembly.{size_of}
use Rattle.pli_coding.specs.Frames.{fixed_size, parameters_in, parameters_of_block, variable_place}
use Rattle.pli_coding.specs.Images.{linked_code}
use Rattle.activation_relation.specs.Frames.{lower_end, upper_top}
use Rattle.activation_relation.specs.Layers.{Point}
use Rattle.activation_relation.proofs.Returning.{in_use_later}
use Rattle.run_steps.specs.Items.{Linked}
use Rattle.block_runs.proofs.Places.{bounds}
use Rattle.program_places.specs.Programs.{code_for, environment_for}
use Rattle.program_places.proofs.Found.{known}
use Rattle.program_runs.specs.Calls.{begun_at, variables_index}
use Rattle.program_runs.specs.Procedures.{layer_for}
use Rattle.program_runs.specs.Starts.{image_parts}
use Rattle.program_runs.specs.Statements.{Outer}
use Rattle.nested_calls.specs.FullVariables.{AreFull}
use Rattle.number_runs.specs.Variables.{bytes_of}
use Rattle.number_runs.proofs.Words.{places_are, words_code}
use Rattle.number_headlines.proofs.Begins.{begins_at, block_begins}
use Rattle.number_headlines.proofs.FullWords.{words_over}
use Rattle.number_headlines.proofs.Running.{free_among, table_later}
use Rattle.number_headlines.proofs.Tables.{all_known, block_plain}
use Rattle.unit_numbers.proofs.Callees.{callee_of}
use Rattle.unit_numbers.proofs.Named.{Moment, entered_at}
use Rattle.unit_numbers.proofs.Homes.{Home, world_of}
use Rattle.unit_numbers.proofs.Inner.{Inner, inner_set}
use Rattle.unit_numbers.proofs.Mains.{Main}
use Rattle.unit_numbers.proofs.Hosts.{Part}
use Rattle.unit_numbers.proofs.Scenes.{block_of}

pub are_full :
    {program : Y.Program} (m : Main program) {h : Home} {more b : ℕ} {part : Part} {out : Outer} {os : List Outer}
    {p : Point} {numbers : ℕ → ℕ} (o : Moment m h (suc more) (suc b) part out os p numbers)
    {v : Bool} {level number : ℕ} (i : Inner m part.caller v level number) (call : ℕ) → h.acts + 1 < 2 ^ 64 →
    most_automatic < automatic_in_use (block_of m h out os).first.state.living
    + bytes_of (variables_of_block program i.head.number) →
    AreFull (world_of m h) (linked_code (code_for program))
    (callee_of program v more (entered_at i (block_of m h out os) call p numbers)) p
    numbers
unfolding M.block_variables_made
are_full {program} m {h} {more} {b} {part} {out} {os} {p} {numbers} o {v} i call few past =
    let w = world_of m h in
    let code = linked_code (code_for program) in
    let k = block_of m h out os in
    let c = callee_of program v more (entered_at i k call p numbers) in
    let e = environment_for program i.head in
    let head = i.head in
    let φ = layer_for w p numbers c.procedure c.calling in
    let start = begun_at w c p numbers in
    let ds = variables_of_block program i.head.number in
    let first = fixed_size i.head.level 0 in
    let around = at_line c.around head.line in
    let plain = block_plain program.variables i.head.number m.plain in
    let count = plain.room in
    let is = known program i.head i.body i.result m.loadable.well_formed i.is in
    let kind = is.kind in
    let level = is.level in
    let words = inner_set m i in
    let waiting = i.fit.waiting in
    let f = free_among (suc b) o.at.begun o.among o.at.free in
    let same = in_use_later w k.first p o.at.begun.resumes.stands o.among.stands o.among.later in
    let laid = bounds image_parts p.control.layers o.among.stands.laid in
    let free' = laid.free in
    let high = laid.high in
    let used = f.used in
    let fits = f.fits in
    let even = f.even in
    let top = ap (λ ls. upper_top image_parts ls) f.newest in
    let low = ap (λ ls. lower_end image_parts ls) f.newest in
    let at = places_are e.parts first ds plain.plain (omega (arith, level, count)) in
    let bare = ap parameters_in i.is in
    let place : fixed_size e.level (length (parameters_of_block e.program e.block)) ≡ first =
    ap (λ (ns : List ℕ). fixed_size e.level (length ns)) bare in
    let coded = words_code e head.line first 0 ds plain.plain
    (λ j less.
    ap (λ n. variable_place e.parts n ds (0 + j)) place
    ∙ ap (λ n. variable_place e.parts first ds n) (omega arith)
    ∙ at j less) in
    let size = ap (λ u. size_of u) coded in
    let over = words_over w code e around start numbers φ p.control.layers first 0 ds
    (record { parts = refl; acts = few }) plain.plain
    (table_later program o.among.later.remains o.at.tabled i.head)
    (begins_at program ds p.places.constants (o.among.later.remains.constants ∙ o.at.told.constants)
    (block_begins program head i.body [] i.result m.memory (all_known program.variables m.plain) i.is))
    (record { activation = _; below = _; active = refl; some = omega arith })
    (record {
      newest = refl;
      here = refl;
      even = omega (arith, words, waiting, level, even, top);
      counted = omega (arith, level, count);
      inside = omega (arith, words, waiting, level, count, free', high);
      low = f.low;
      fits = omega (arith, words, waiting, level, fits, top, low);
      used = used;
    }) (omega (arith, past, same)) in
    record {
      state = over.state;
      means = ap (λ q. M.block_variables_made around head q h.acts start.state) kind ∙ over.means;
      ends = λ credits g stands paid l there.
          over.over credits (variables_index c) g stands (omega (arith, paid, size))
          (subst (Linked w.links code (variables_index c)) coded l) there;
    }
