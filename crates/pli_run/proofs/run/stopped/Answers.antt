use Rattle.std.proofs.Common.{◌*◌, ℕ, List, length, ap, ◌∙◌}
use Rattle.rv_machine.specs.Loading.{state_of}
use Rattle.pli_environment.specs.Places.{image_layout}
use Rattle.pli_run.proofs.run.stopped.Goals as goal

pub returns-in-Ok-clause-stopped : goal.returns-in-Ok-clause-stopped
returns-in-Ok-clause-stopped g c = record {
  machine = c.in-Ok.machine;
  started = c.in-Ok.ensures;
  first = c.in_ok-services.services;
  input_is = c.in_ok-services.ensures.streams.0;
  output_is = c.in_ok-services.ensures.streams.1;
  services_are = λ gs are e. c.in_ok-services.ensures.services gs are (c.table.ensures.value ∙ e);
  layout = c.in_ok-services.ensures.layout ∙ ap (λ (l : List ℕ). image_layout (4 * length l)) c.code.ensures.value;
  ran = c.run_for-last.result.ran;
  state = state_of c.run_for-last.new.self;
  run = c.run_for-last.ensures.run;
}
