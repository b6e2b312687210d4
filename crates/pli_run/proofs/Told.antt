-- What is told of a run that has stopped.
use Rattle.std.proofs.Common.{◌≡◌, ◌≢◌, ℕ, ◌*◌, Bool, true, false, List, [], length, Option, Some, None, Result, Ok}
use Rattle.std.proofs.Common.{Err}
use Rattle.std.proofs.Common.{refl, ap, subst, sym, ◌∙◌}
use Rattle.std.specs.Prelude.{◌==◌, IfOk, if◌then◌else◌}
use Rattle.rv_meaning.specs.Images.{Image}
use Rattle.rv_meaning.specs.Tables.{TableSignature}
use Rattle.rv_machine.specs.Loading.{loaded_of, moment}
use Rattle.rv_machine.specs.declared.machine.Step.{Step}
use Rattle.rv_machine.specs.declared.machine.Step.TheVariants.{Ran, Ended, Fault as Faulted, Refused}
use Rattle.pli_meaning.specs.InputLines.{first_input}
use Rattle.pli_meaning.specs.World.{World}
use Rattle.pli_meaning.specs.Pictures.{loaded_at, Picture}
use Rattle.rv_meaning.specs.Machine.{Loaded}
use Rattle.pli_run.specs.Asking.{IsSilent, IsUnasked}
use Rattle.pli_meaning.specs.declared.outcome.Outcome.{Outcome}
use Rattle.pli_serving.specs.ServiceState.{Activation, Services}
use Rattle.pli_runtime.specs.Seen.{fault_of}
use Rattle.pli_runtime.specs.declared.runtime.Runtime.{Runtime}
use Rattle.pli_environment.specs.Calling.{fault_in, services_of, Streams}
use Rattle.pli_environment.specs.Places.{image_layout}
use Rattle.image_runs.specs.Runs.{run_of, Run}
use Rattle.pli_language.specs.declared.fault.SourceFault.{SourceFault}
use Rattle.pli_run.specs.Answering.{IsUncompiledFor}
use Rattle.pli_run.specs.Running.{own_output, stream_fault_of, world_with, IsPicture, IsTabled, IsUnstarted, Shows}
use Rattle.pli_run.specs.Running.{ShowsImage, Tells}
use Rattle.pli_run.specs.Stopping.{by_step, came_to, IsStopped}
use Rattle.pli_run.specs.Tracing.{outcome_of, Traces, TracesImage}
use Rattle.pli_run.specs.declared.run.RunFault.{RunFault}
use Rattle.pli_run.specs.declared.run.RunFault.TheVariants as F
use Rattle.pli_run.specs.declared.run.Traced.{Traced}
use Rattle.pli_run.proofs.Pictures.{image_run, started_code, started_place}
use Rattle.pli_run.proofs.Stepping.{IsUnfailed, OfCode, StreamLaws}
use Rattle.pli_run.proofs.Stopped.{answers, comes, run_follows, run_from, ComesTo}
use Rattle.pli_run.proofs.Asked.{run_unread}

-- ---- a run that has stopped

unfailed_first : {I O : Type 0} (s : Streams I O) (r : Runtime I O) (input : I) (output : O) → r.streams.input ≡ input →
    r.flow.shown.output ≡ output → s.read_failed input ≡ false → s.write_failed output ≡ false → fault_in s r ≡ None
unfailed_first s r input output here there reads writes =
    rw (ap s.read_failed here ∙ reads, ap s.write_failed there ∙ writes) refl

-- it comes, for each whole input that agrees with what was read, to what a run of the image comes to
pub stop_comes : {I O : Type 0} (s : Streams I O) → StreamLaws s → (image : Image) (base : ℕ) (input : I) (output : O)
    (bound : ℕ) (last : Step) (r : Runtime I O) → IsStopped s image base input output bound last r →
    s.read_failed input ≡ false → s.write_failed output ≡ false → (p : Picture) (gs : List TableSignature)
    (bytes all : List ℕ) →
    IsPicture p image → IsTabled gs image → s.input input all ≡ first_input bytes → s.agrees r.streams.input all →
    ComesTo (run_of p gs base bytes) bound (s.taken r.flow.shown.output) (fault_in s r) last (services_of s r all)
stop_comes s laws image base input output bound last r stop reads writes p gs bytes all h tabled begins agreed =
    let code : OfCode (loaded_of stop.machine) (moment stop.first stop.machine) =
    stop.layout ∙ ap image_layout (started_code image base stop.machine stop.started) in
    let unfailed = unfailed_first s stop.first input output stop.input_is stop.output_is reads writes in
    subst
    (λ (run : ℕ → Run). ComesTo run bound (s.taken r.flow.shown.output) (fault_in s r) last (services_of s r all))
    (sym (image_run s image base input output bound last r stop p gs bytes all h tabled begins))
    (comes s laws (loaded_of stop.machine) bound stop.ran (moment stop.first stop.machine) last
    (record { services = r; state = stop.state }) all code unfailed agreed stop.run)

pub stop_follows : {I O : Type 0} (s : Streams I O) → StreamLaws s → (image : Image) (base : ℕ) (input : I) (output : O)
    (bound : ℕ) (last : Step) (r : Runtime I O) → IsStopped s image base input output bound last r →
    s.follows input r.streams.input
stop_follows {I = I} s laws image base input output bound last r stop =
    subst (λ (i : I). s.follows i r.streams.input) stop.input_is
    (run_follows s laws (loaded_of stop.machine) bound stop.ran (moment stop.first stop.machine) last
    (record { services = r; state = stop.state }) stop.run)

-- where the run asks for no input nothing is read
pub stop_unread : {I O : Type 0} (s : Streams I O) → StreamLaws s → (image : Image) (base : ℕ) (input : I) (output : O)
    (bound : ℕ) (last : Step) (r : Runtime I O) → IsStopped s image base input output bound last r →
    s.read_failed input ≡ false → s.write_failed output ≡ false → (bytes all : List ℕ) →
    s.input input all ≡ first_input bytes →
    s.agrees input all → IsSilent image base bytes bound → r.streams.input ≡ input
stop_unread {I = I} s laws image base input output bound last r stop reads writes bytes all begins agreed silent =
    let code : OfCode (loaded_of stop.machine) (moment stop.first stop.machine) =
    stop.layout ∙ ap image_layout (started_code image base stop.machine stop.started) in
    let unfailed = unfailed_first s stop.first input output stop.input_is stop.output_is reads writes in
    let there : s.agrees stop.first.streams.input all = subst (λ (i : I). s.agrees i all) (sym stop.input_is) agreed in
    let unasked : IsUnasked (loaded_of stop.machine)
    (run_from s (loaded_of stop.machine) (moment stop.first stop.machine) all) bound =
    subst (λ (p : Loaded). IsUnasked p (run_from s (loaded_of stop.machine) (moment stop.first stop.machine) all)
    bound)
    (started_place silent.picture image base stop.machine silent.pictured stop.started)
    (subst (λ (run : ℕ → Run). IsUnasked (loaded_at silent.picture base) run bound)
    (image_run s image base input output bound last r stop silent.picture silent.signatures bytes all
    silent.pictured silent.tabled begins)
    silent.unasked) in
    run_unread s laws (loaded_of stop.machine) bound stop.ran (moment stop.first stop.machine) last
    (record { services = r; state = stop.state }) all code unfailed there unasked stop.run ∙ stop.input_is

-- ---- which stream failed

by_step_whole : (o : Outcome) (last : Step) → stream_fault_of (by_step o last) ≡ None
by_step_whole o Ran = refl
by_step_whole o Ended = refl
by_step_whole o (Faulted f) = refl
by_step_whole o Refused = refl

pub fault_told : (o : Outcome) (reads writes : Bool) (last : Step) →
    stream_fault_of (came_to o (fault_of reads writes) last) ≡ fault_of reads writes
fault_told o false false last = by_step_whole o last
fault_told o true false last = refl
fault_told o false true last = refl
fault_told o true true last = refl

by_step_based : (o : Outcome) (last : Step) → by_step o last ≢ Err F.BadBase
by_step_based o Ran e = absurd cc
by_step_based o Ended e = absurd cc
by_step_based o (Faulted f) e = absurd cc
by_step_based o Refused e = absurd cc

pub came_based : (o : Outcome) (reads writes : Bool) (last : Step) → came_to o (fault_of reads writes) last ≢ Err
    F.BadBase
came_based o false false last e = by_step_based o last e
came_based o true false last e = absurd cc
came_based o false true last e = absurd cc
came_based o true true last e = absurd cc

-- ---- traces

broken_unless : (b : Bool) (o : Outcome) (t : Traced) →
    Ok t.outcome ≢ (if b then Err (F.Write o.acts o.output) else Err (F.Read o.acts o.output))
broken_unless true o t e = absurd cc
broken_unless false o t e = absurd cc

broken_never : (o : Outcome) (fault : ℕ) (last : Step) (t : Traced) → Ok t.outcome ≢ came_to o (Some fault) last
broken_never o fault last t e = broken_unless (fault == 5) o t e

-- an outcome comes of a run without a fault of a stream that ran or ended
pub outcome_traces : (run : ℕ → Run) (bound : ℕ) (taken : List ℕ) (o : Outcome) (fault : Option ℕ) (last : Step)
    (v : Services) (ran : Result Traced RunFault) → ComesTo run bound taken fault last v →
    outcome_of ran ≡ came_to o fault last →
    IfOk ran (λ t. t.entered ≡ v.activations) → Traces run bound ran
outcome_traces run bound taken o fault last v (Err f) h same entered = tt
outcome_traces run bound taken o None Ran v (Ok t) h same entered = entered ∙ h.1
outcome_traces run bound taken o None Ended v (Ok t) h same entered = entered ∙ h.1
outcome_traces run bound taken o None (Faulted f) v (Ok t) h same entered = absurd (cc same)
outcome_traces run bound taken o None Refused v (Ok t) h same entered = absurd (cc same)
outcome_traces run bound taken o (Some fault) last v (Ok t) h same entered = absurd (broken_never o fault last t same)

-- ---- both

pub told_of : {I O : Type 0} (s : Streams I O) → StreamLaws s → (image : Image) (base : ℕ) (input : I) (output : O)
    (bound : ℕ) (last : Step) (r : Runtime I O) → IsStopped s image base input output bound last r →
    s.read_failed input ≡ false → s.write_failed output ≡ false → (o : Outcome) (written : List ℕ)
    (bytes all : List ℕ) →
    world_with o written ≡ (services_of s r all).world → s.input input all ≡ first_input bytes →
    s.agrees r.streams.input all →
    ShowsImage image base bytes bound written (s.taken r.flow.shown.output) (came_to o (fault_in s r) last)
told_of s laws image base input output bound last r stop reads writes o written bytes all e begins agreed =
    λ p gs h tabled.
    answers (run_of p gs base bytes) bound o written (s.taken r.flow.shown.output) (fault_in s r) last
    (services_of s r all) e
    (stop_comes s laws image base input output bound last r stop reads writes p gs bytes all h tabled begins agreed)

pub traced_of : {I O : Type 0} (s : Streams I O) → StreamLaws s → (image : Image) (base : ℕ) (input : I) (output : O)
    (bound : ℕ) (last : Step) (r : Runtime I O) → IsStopped s image base input output bound last r →
    s.read_failed input ≡ false → s.write_failed output ≡ false → (o : Outcome) (bytes all : List ℕ)
    (ran : Result Traced RunFault) →
    s.input input all ≡ first_input bytes → s.agrees r.streams.input all → outcome_of ran ≡ came_to o (fault_in s r)
    last →
    IfOk ran (λ t. t.entered ≡ r.flow.activations) → TracesImage image base bytes bound ran
traced_of s laws image base input output bound last r stop reads writes o bytes all ran begins agreed same entered =
    λ p gs h tabled.
    outcome_traces (run_of p gs base bytes) bound (s.taken r.flow.shown.output) o (fault_in s r) last
    (services_of s r all) ran
    (stop_comes s laws image base input output bound last r stop reads writes p gs bytes all h tabled begins agreed)
    same entered

-- the run between two streams, with what it gives back
pub between_told : {I O : Type 0} (s : Streams I O) → StreamLaws s → (image : Image) (base : ℕ) (input : I) (output : O)
    (bound : ℕ) (last : Step) (r : Runtime I O) → IsStopped s image base input output bound last r →
    s.read_failed input ≡ false → s.write_failed output ≡ false → (o : Outcome) (input' : I) (output' : O)
    (bytes all : List ℕ)
    (ran : Result Traced RunFault) (entered : List Activation) →
    world_with o o.output.items ≡ record {
      acts = r.flow.shown.acts;
      output = [];
      raised = r.flow.shown.raised.items;
      end = r.flow.shown.end;
    } → input' ≡ r.streams.input → output' ≡ r.flow.shown.output → outcome_of ran ≡ came_to o (fault_in s r) last →
    entered ≡ r.flow.activations → IfOk ran (λ t. t.entered ≡ entered) → s.input input all ≡ first_input bytes →
    s.agrees input' all →
    ShowsImage image base bytes bound (s.output output') (s.taken output') (outcome_of ran)
    × TracesImage image base bytes bound ran
between_told {I = I} {O = O} s laws image base input output bound last r stop reads writes o input' output' bytes all
    ran entered
    shown input_is output_is same entered_is traced begins agrees =
    let agreed : s.agrees r.streams.input all = subst (λ (i : I). s.agrees i all) input_is agrees in
    let world : world_with o (s.output r.flow.shown.output) ≡ (services_of s r all).world =
    ap (λ (w : World). record w { output = s.output r.flow.shown.output }) shown in
    let told = told_of s laws image base input output bound last r stop reads writes o (s.output r.flow.shown.output)
    bytes all
    world begins agreed in (
      subst (λ (a : Result Outcome RunFault). ShowsImage image base bytes bound (s.output output') (s.taken output') a)
          (sym same)
          (subst
          (λ (it : O). ShowsImage image base bytes bound (s.output it) (s.taken it) (came_to o (fault_in s r) last))
          (sym output_is) told),
      traced_of s laws image base input output bound last r stop reads writes o bytes all ran begins agreed same
          (subst (λ (it : List Activation). IfOk ran (λ t. t.entered ≡ it)) entered_is traced),
    )

-- what is told of an outcome that has its output itself
pub by_step_tells : (run : ℕ → Run) (bound : ℕ) (o : Outcome) (taken : List ℕ) (last : Step) →
    Shows run bound o.output.items taken (by_step o last) → Tells run bound (by_step o last)
by_step_tells run bound o taken Ran h = h
by_step_tells run bound o taken Ended h = h
by_step_tells run bound o taken (Faulted f) h = h
by_step_tells run bound o taken Refused h = h

-- ---- its own output

-- whatever it came to, its output is the outcome's
pub own_of : (o : Outcome) (fault : Option ℕ) (last : Step) → own_output (came_to o fault last) ≡ o.output.items
own_of o None Ran = refl
own_of o None Ended = refl
own_of o None (Faulted f) = refl
own_of o None Refused = refl
own_of o (Some number) last = by (number == 5) where
  by : (b : Bool) →
      own_output (if b then Err (F.Write o.acts o.output) else Err (F.Read o.acts o.output)) ≡ o.output.items
  by true = refl
  by false = refl

pub unstarted_empty : (f : RunFault) → IsUnstarted f → own_output (Err f) ≡ []
unstarted_empty (F.Memory acts output) h = h.1
unstarted_empty F.BadBase h = refl
unstarted_empty (F.Source fault) h = refl
unstarted_empty (F.Read acts output) h = absurd h
unstarted_empty (F.Write acts output) h = absurd h
unstarted_empty (F.Machine fault acts output) h = absurd h

pub uncompiled_empty : (fault : SourceFault) (f : RunFault) → IsUncompiledFor fault f → own_output (Err f) ≡ []
uncompiled_empty fault (F.Memory acts output) h = h.1.1
uncompiled_empty fault F.BadBase h = refl
uncompiled_empty fault (F.Source told) h = refl
uncompiled_empty fault (F.Read acts output) h = absurd h
uncompiled_empty fault (F.Write acts output) h = absurd h
uncompiled_empty fault (F.Machine other acts output) h = absurd h
