use Rattle.std.proofs.Common.{◌≡◌, option_map, sym, ap₂, ◌∙◌}
use Rattle.pli_edit.specs.FormatPlaces.{items_of}
use Rattle.pli_serving.specs.Edits.{edit_begin_served, edit_begun}
use Rattle.pli_serving.specs.FormatLists.{formats_at}
use Rattle.pli_serving.specs.Outcomes.{or_bad}
use Rattle.pli_values.specs.Calls.{call_on}
use Rattle.pli_transmission.specs.Edits.{direction_shown}
use Rattle.pli_transmission.specs.Transmitting.{with_streams}
use Rattle.pli_transmission.proofs.Beginning.{begun_so}
use Rattle.pli_transmission.proofs.Replying.{answers_as}
use Rattle.pli_transmission.proofs.streams.Streams.begin.Goals as goal

pub returns-in-Ok-clause-answers : goal.returns-in-Ok-clause-answers
returns-in-Ok-clause-answers g c = λ c' world input l m.
    let old = with_streams world input c.args.self.now.edits.items c' in
    let new = with_streams world input c.begin_in.new.self.edits.items c' in
    let at = c.args.at in
    let mode = c.args.mode in
    let d = direction_shown c.in-Some.direction in
    let here : formats_at old at ≡ formats_at (call_on c'.layout c'.memory) at = c.format_lists_of_memory.ensures old at in
    let there : formats_at (call_on c'.layout c'.memory) at ≡ option_map (λ nodes. items_of nodes.items) c.in-Ok.read =
    ap₂ (λ layout memory. formats_at (call_on layout memory) at) l m ∙ sym c.in-Ok.ensures.items in
    answers_as (λ t. edit_begin_served t at mode) (λ t. or_bad (formats_at t at) (edit_begun t at mode d)) old new
    c.begin_in.result (begun_so old at mode d c.in-Some.ensures)
    (c.begin_in.ensures.answers c' world input (sym (here ∙ there)))
