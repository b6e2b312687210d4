-- What a run that has stopped came to.
use Rattle.std.proofs.Common.{◌≡◌, ℕ, zero, suc, ◌+◌, ◌-◌, ◌<◌, ◌≤◌, ◌==◌, Bool, true, false, List, ◌∷◌, length}
use Rattle.std.proofs.Common.{Option, Some, None, length-append}
use Rattle.std.proofs.lemmas.Bool.{eqb-true}
use Rattle.std.proofs.Common.{Result, Ok, Err, refl, ap, subst, sym, ◌∙◌, arith, zero-add, add-zero, ◌⊎◌, inl, inr}
use Rattle.std.specs.Prelude.{if◌then◌else◌}
use Rattle.rv_meaning.specs.declared.instr.Fault.{Fault}
use Rattle.rv_meaning.specs.Machine.{Loaded, State, effect}
use Rattle.rv_machine.specs.declared.machine.Step.{Step}
use Rattle.rv_machine.specs.declared.machine.Step.TheVariants.{Ran, Ended, Fault as Faulted, Refused}
use Rattle.rv_machine.specs.Steps.{Moment, RunsFor}
use Rattle.pli_edit.specs.OutputStreams.{IsCut}
use Rattle.pli_meaning.specs.World.{World}
use Rattle.pli_meaning.specs.declared.outcome.Outcome.{Outcome}
use Rattle.pli_serving.specs.ServiceState.{Services}
use Rattle.pli_runtime.specs.declared.runtime.Runtime.{Runtime}
use Rattle.pli_environment.specs.Calling.{Streams, Serves, fault_in, services_of}
use Rattle.image_runs.specs.Runs.{Whole, Run, Runs, Ended as HasEnded, Stopped, of_effect, run_on, shown_by}
use Rattle.cut_runs.specs.Fronts.{ShowsOn}
use Rattle.cut_runs.proofs.Runs.{on_continues}
use Rattle.pli_run.specs.Running.{world_with, BreaksOff, Meets, Shows, ShowsAfter, ShowsWithin}
use Rattle.pli_run.specs.Stopping.{by_step, came_to}
use Rattle.pli_run.specs.Tracing.{entered_in}
use Rattle.pli_run.specs.declared.run.RunFault.{RunFault}
use Rattle.pli_run.specs.declared.run.RunFault.TheVariants as F
use Rattle.pli_run.proofs.Stepping.{agreed_before, cut_on, ended_stays, follows_on, makes_ended, makes_faulted}
use Rattle.pli_run.proofs.Stepping.{makes_refused, none_on, one_on, ran_follows, ran_on, stopped_stays, whole}
use Rattle.pli_run.proofs.Stepping.{Agrees, ComesToEnd, IsUnfailed, OfCode, RanOn, StreamLaws}

-- a run shows what services do, with the blocks that they have entered
abbrev pub IsShown : Run → Services → Type 0
IsShown r v = (shown_by r ≡ Some v.world) × (v.activations ≡ entered_in r)

-- a run that a stream ended
abbrev pub BreaksBy : (is_write : Bool) → (ℕ → Run) → (bound acts : ℕ) → (output taken : List ℕ) → Type 0
BreaksBy true run bound acts output taken = BreaksOff run bound acts output taken
BreaksBy false run bound acts output taken = ShowsWithin run bound acts output

-- what a run comes to behind its last step, with the fault of a stream, what of the output was taken, and the services
-- as they are then
abbrev pub ComesTo : (ℕ → Run) → (bound : ℕ) → (taken : List ℕ) → (fault : Option ℕ) → Step → Services → Type 0
ComesTo run bound taken None Ran v = IsShown (run bound) v
ComesTo run bound taken None Ended v = IsShown (run bound) v
ComesTo run bound taken None (Faulted f) v = Meets run bound f v.world.acts v.world.output
ComesTo run bound taken None Refused v = ShowsWithin run bound v.world.acts v.world.output
ComesTo run bound taken (Some fault) last v = BreaksBy (fault == 5) run bound v.world.acts v.world.output taken

-- the run of a moment
abbrev pub run_from : {I O : Type 0} → Streams I O → Loaded → Moment (Runtime I O) → (all : List ℕ) → ℕ → Run
run_from s p from all n = run_on n p (Runs (whole s from all))

-- what a run shows it goes on from
shown_after : (run : ℕ → Run) (done : ℕ) (w : World) → ShowsOn run → shown_by (run done) ≡ Some w →
    ShowsAfter run done w.acts w.output
shown_after run done w on e = record {
  world = w;
  shown = e;
  acts_are = refl;
  output_is = refl;
  goes_on = λ more later h is. on done more w later h e is;
}

-- so does a run of code
shows_on : {I O : Type 0} (s : Streams I O) (p : Loaded) (from : Moment (Runtime I O)) (all : List ℕ) →
    ShowsOn (run_from s p from all)
shows_on s p from all = on_continues p (Runs (whole s from all))

-- what the steps that ran show
ran_shows : {I O : Type 0} (s : Streams I O) (p : Loaded) (ran : ℕ) (from at : Moment (Runtime I O)) (all : List ℕ)
    (w : World) →
    RanOn s p ran 0 from at all → w ≡ (services_of s at.services all).world →
    ShowsAfter (run_from s p from all) ran w.acts w.output
ran_shows s p ran from at all w on e =
    let P : ℕ → Type 0 = λ j. run_on j p (Runs (whole s from all)) ≡ run_on 0 p (Runs (whole s at all)) in
    shown_after (run_from s p from all) ran w (shows_on s p from all)
    (ap shown_by (subst P (add-zero ran) on.on ∙ none_on p _) ∙ ap (λ (it : World). Some it) (sym e))

-- and one step more
one_more : {I O : Type 0} (s : Streams I O) (p : Loaded) (ran : ℕ) (from at : Moment (Runtime I O)) (all : List ℕ)
    (r : Run) →
    RanOn s p ran 1 from at all → of_effect p (whole s at all) (effect p at.state) ≡ r →
    run_from s p from all (ran + 1) ≡ r
one_more s p ran from at all r on e = on.on ∙ one_on p 0 (whole s at all) r e ∙ none_on p r

and_more : {I O : Type 0} (s : Streams I O) (p : Loaded) (bound ran : ℕ) (from at : Moment (Runtime I O))
    (all : List ℕ) (r : Run) →
    ran < bound → ((k : ℕ) → RanOn s p ran k from at all) → of_effect p (whole s at all) (effect p at.state) ≡ r →
    run_from s p from all bound ≡ run_on (bound - (ran + 1)) p r
and_more s p bound ran from at all r h on e =
    let k = bound - (ran + 1) in
    let whole_bound : ran + suc k ≡ bound = omega (arith, h) in
    let P : ℕ → Type 0 = λ j. run_on j p (Runs (whole s from all)) ≡ run_on (suc k) p (Runs (whole s at all)) in
    subst P whole_bound (on (suc k)).on ∙ one_on p k (whole s at all) r e

-- what is cut off isn't what it was before
cut_is_more : (old new taken : List ℕ) → IsCut old new taken → new ≡ old → ⊥
cut_is_more old new taken (front, behind) same =
    let more = ap length front.1 ∙ length-append old front.0 in
    let all = ap length behind.2 ∙ length-append taken (behind.0 ∷ behind.1) in
    let size = ap length same in
    absurd (omega (arith, more, all, size))

-- a stream failed in the last step; where that was a write, the step is shown, and all before it was taken
broken_by : (b : Bool) (run : ℕ → Run) (bound ran : ℕ) (taken : List ℕ) (before after : World) → ShowsOn run →
    ran < bound →
    (b ≡ true → IsCut before.output after.output taken) → ShowsAfter run ran before.acts before.output →
    (after ≡ before) ⊎ (shown_by (run (ran + 1)) ≡ Some after) →
    BreaksBy b run bound after.acts after.output taken
broken_by true run bound ran taken before after on h cut here (inl same) =
    absurd (cut_is_more before.output after.output taken (cut refl) (ap (λ (w : World). w.output) same))
broken_by true run bound ran taken before after on h cut here (inr behind) =
    let told = cut refl in
    record {
      done = ran;
      within = h;
      shows = shown_after run (ran + 1) after on behind;
      acts_before = before.acts;
      output_before = before.output;
      shows_before = here;
      more = told.0.0;
      whole = told.0.1;
    }
broken_by false run bound ran taken before after on h cut here (inl same) = record {
  done = ran;
  within = omega (arith, h);
  shows = subst (λ (w : World). ShowsAfter run ran w.acts w.output) (sym same) here;
}
broken_by false run bound ran taken before after on h cut here (inr behind) = record {
  done = ran + 1;
  within = omega (arith, h);
  shows = shown_after run (ran + 1) after on behind;
}

broken_comes : {I O : Type 0} (s : Streams I O) (p : Loaded) (bound ran : ℕ) (from at : Moment (Runtime I O))
    (all taken : List ℕ) (number : ℕ) (after : World) → ran < bound → ((k : ℕ) → RanOn s p ran k from at all) →
    (number ≡ 5 → IsCut (services_of s at.services all).world.output after.output taken) →
    (after ≡ (services_of s at.services all).world)
    ⊎ (shown_by (run_from s p from all (ran + 1)) ≡ Some after) →
    BreaksBy (number == 5) (run_from s p from all) bound after.acts after.output taken
broken_comes s p bound ran from at all taken number after h on cut e =
    broken_by (number == 5) (run_from s p from all) bound ran taken (services_of s at.services all).world after
    (shows_on s p from all) h (λ is. cut (eqb-true number 5 is))
    (ran_shows s p ran from at all (services_of s at.services all).world (on 0) refl) e

ended_comes : {I O : Type 0} (s : Streams I O) (p : Loaded) (bound ran : ℕ) (from at : Moment (Runtime I O))
    (all taken : List ℕ)
    (fault : Option ℕ) (v' : Services) → ran < bound → ((k : ℕ) → RanOn s p ran k from at all) →
    (fault ≡ Some 5 → IsCut (services_of s at.services all).world.output v'.world.output taken) →
    ComesToEnd fault (of_effect p (whole s at all) (effect p at.state)) at.state (services_of s at.services all) v' →
    ComesTo (run_from s p from all) bound taken fault Ended v'
ended_comes s p bound ran from at all taken None v' h on cut e =
    let is = and_more s p bound ran from at all (HasEnded (record { machine = at.state; services = v' })) h on e
    ∙ ended_stays p (bound - (ran + 1)) (record { machine = at.state; services = v' }) in
    (ap shown_by is, sym (ap entered_in is))
ended_comes s p bound ran from at all taken (Some number) v' h on cut (inl same) =
    broken_comes s p bound ran from at all taken number v'.world h on (λ is. cut (ap (λ (n : ℕ). Some n) is)) (inl same)
ended_comes s p bound ran from at all taken (Some number) v' h on cut (inr behind) =
    broken_comes s p bound ran from at all taken number v'.world h on (λ is. cut (ap (λ (n : ℕ). Some n) is))
    (inr (ap shown_by (one_more s p ran from at all _ (on 1) refl) ∙ behind))

pub comes : {I O : Type 0} (s : Streams I O) → StreamLaws s → (p : Loaded) (bound ran : ℕ)
    (from : Moment (Runtime I O)) (last : Step)
    (to : Moment (Runtime I O)) (all : List ℕ) → OfCode p from → IsUnfailed s from → Agrees s to all →
    RunsFor (Serves s) p bound ran from last to →
    ComesTo (run_from s p from all) bound (s.taken to.services.flow.shown.output) (fault_in s to.services) last
    (services_of s to.services all)
comes {I = I} {O = O} s laws p bound ran from Ran to all o u h run =
    let at_end : Agrees s run.at all = subst (λ (m : Moment (Runtime I O)). Agrees s m all) run.finishes.1 h in
    let on = ran_on s laws p ran 0 from run.at all o u at_end run.all_ran in
    let whole_bound : ran + 0 ≡ bound = let e = run.finishes.0 in omega arith in
    let P : ℕ → Type 0 = λ j. run_on j p (Runs (whole s from all)) ≡ run_on 0 p (Runs (whole s run.at all)) in
    let is : run_from s p from all bound ≡ Runs (whole s run.at all) = subst P whole_bound on.on ∙ none_on p _ in
    let taken = s.taken to.services.flow.shown.output in
    let at_run : ComesTo (run_from s p from all) bound taken (fault_in s run.at.services) Ran
    (services_of s run.at.services all) =
    subst (λ (f : Option ℕ). ComesTo (run_from s p from all) bound taken f Ran (services_of s run.at.services all))
    (sym on.unfailed) (ap shown_by is, sym (ap entered_in is)) in
    subst
    (λ (m : Moment (Runtime I O)). ComesTo (run_from s p from all) bound taken (fault_in s m.services) Ran
    (services_of s m.services all))
    (sym run.finishes.1) at_run
comes s laws p bound ran from Ended to all o u h run =
    let step = run.finishes.1 in
    let earlier = agreed_before s laws run.at to Ended (effect p run.at.state) all step h in
    let on = λ (k : ℕ). ran_on s laws p ran k from run.at all o u earlier run.all_ran in
    ended_comes s p bound ran from run.at all (s.taken to.services.flow.shown.output) (fault_in s to.services)
    (services_of s to.services all) run.finishes.0 on
    (λ broken. cut_on s laws run.at to Ended (effect p run.at.state) (on 0).unfailed broken step)
    (makes_ended s p run.at to (effect p run.at.state) all (on 0).code (on 0).unfailed h step)
comes s laws p bound ran from (Faulted f) to all o u h run =
    let step = run.finishes.1 in
    let earlier = agreed_before s laws run.at to (Faulted f) (effect p run.at.state) all step h in
    let on = λ (k : ℕ). ran_on s laws p ran k from run.at all o u earlier run.all_ran in
    let made = makes_faulted s p run.at to f (effect p run.at.state) all (on 0).code (on 0).unfailed h step in
    subst (λ (fault : Option ℕ). ComesTo (run_from s p from all) bound (s.taken to.services.flow.shown.output) fault
    (Faulted f) (services_of s to.services all))
    (sym made.1)
    (record {
      done = ran;
      within = run.finishes.0;
      shows = ran_shows s p ran from run.at all (services_of s to.services all).world (on 0) made.2;
      stops = one_more s p ran from run.at all (Stopped f) (on 1) made.0;
      stopped = and_more s p bound ran from run.at all (Stopped f) run.finishes.0 on made.0
          ∙ stopped_stays p (bound - (ran + 1)) f;
    })
comes s laws p bound ran from Refused to all o u h run =
    let step = run.finishes.1 in
    let earlier = agreed_before s laws run.at to Refused (effect p run.at.state) all step h in
    let on = λ (k : ℕ). ran_on s laws p ran k from run.at all o u earlier run.all_ran in
    let made = makes_refused s run.at to (effect p run.at.state) all (on 0).unfailed h step in
    subst (λ (fault : Option ℕ). ComesTo (run_from s p from all) bound (s.taken to.services.flow.shown.output) fault
    Refused (services_of s to.services all))
    (sym made.0)
    (record {
      done = ran;
      within = let e = run.finishes.0 in omega arith;
      shows = ran_shows s p ran from run.at all (services_of s to.services all).world (on 0) made.1;
    })

pub run_follows : {I O : Type 0} (s : Streams I O) → StreamLaws s → (p : Loaded) (bound ran : ℕ)
    (from : Moment (Runtime I O))
    (last : Step) (to : Moment (Runtime I O)) → RunsFor (Serves s) p bound ran from last to →
    s.follows from.services.streams.input to.services.streams.input
run_follows {I = I} {O = O} s laws p bound ran from Ran to run =
    subst (λ (m : Moment (Runtime I O)). s.follows from.services.streams.input m.services.streams.input)
    (sym run.finishes.1) (ran_follows s laws p ran from run.at run.all_ran)
run_follows s laws p bound ran from Ended to run =
    laws.goes_on _ _ _ (ran_follows s laws p ran from run.at run.all_ran)
    (follows_on s laws run.at to Ended (effect p run.at.state) run.finishes.1)
run_follows s laws p bound ran from (Faulted f) to run =
    laws.goes_on _ _ _ (ran_follows s laws p ran from run.at run.all_ran)
    (follows_on s laws run.at to (Faulted f) (effect p run.at.state) run.finishes.1)
run_follows s laws p bound ran from Refused to run =
    laws.goes_on _ _ _ (ran_follows s laws p ran from run.at run.all_ran)
    (follows_on s laws run.at to Refused (effect p run.at.state) run.finishes.1)

-- ---- what is answered

within_of : (run : ℕ → Run) (bound : ℕ) (o : Outcome) (output : List ℕ) (w : World) → world_with o output ≡ w →
    ShowsWithin run bound w.acts w.output → ShowsWithin run bound o.acts output
within_of run bound o output w e h = subst (λ (it : World). ShowsWithin run bound it.acts it.output) (sym e) h

broken_off : (b : Bool) (run : ℕ → Run) (bound : ℕ) (o : Outcome) (output taken : List ℕ) →
    BreaksBy b run bound o.acts output taken →
    Shows run bound output taken (if b then Err (F.Write o.acts o.output) else Err (F.Read o.acts o.output))
broken_off true run bound o output taken h = h
broken_off false run bound o output taken h = h

pub answers : (run : ℕ → Run) (bound : ℕ) (o : Outcome) (output taken : List ℕ) (fault : Option ℕ) (last : Step)
    (v : Services) →
    world_with o output ≡ v.world → ComesTo run bound taken fault last v →
    Shows run bound output taken (came_to o fault last)
answers run bound o output taken None Ran v e h = h.0 ∙ ap (λ (it : World). Some it) (sym e)
answers run bound o output taken None Ended v e h = h.0 ∙ ap (λ (it : World). Some it) (sym e)
answers run bound o output taken None (Faulted f) v e h =
    subst (λ (it : World). Meets run bound f it.acts it.output) (sym e) h
answers run bound o output taken None Refused v e h = within_of run bound o output v.world e h
answers run bound o output taken (Some fault) last v e h =
    broken_off (fault == 5) run bound o output taken
    (subst (λ (it : World). BreaksBy (fault == 5) run bound it.acts it.output taken) (sym e) h)
