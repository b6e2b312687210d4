-- Runs that ask for no input read nothing.
use Rattle.std.proofs.Common.{◌≡◌, ℕ, zero, suc, ◌+◌, ◌<◌, ◌≤◌, List, refl, ap, subst, sym, ◌∙◌, arith, add-zero}
use Rattle.rv_meaning.specs.Machine.{Loaded, effect}
use Rattle.rv_machine.specs.declared.machine.Step.{Step}
use Rattle.rv_machine.specs.declared.machine.Step.TheVariants.{Ran, Ended, Fault as Faulted, Refused}
use Rattle.rv_machine.specs.Steps.{start, then, Makes, Moment, RanFor, RunsFor}
use Rattle.pli_runtime.specs.declared.runtime.Runtime.{Runtime}
use Rattle.pli_environment.specs.Calling.{Serves, Streams}
use Rattle.image_runs.specs.Runs.{Runs, run_on}
use Rattle.pli_run.specs.Asking.{IsUnasked}
use Rattle.pli_run.proofs.Stepping.{none_on, ran_on, unread_on, whole, Agrees, IsUnfailed, OfCode, RanOn, StreamLaws}
use Rattle.pli_run.proofs.Stopped.{run_from}

ran_from : {I O : Type 0} (s : Streams I O) (p : Loaded) (n : ℕ) (from at : Moment (Runtime I O)) (all : List ℕ) →
    RanOn s p n 0 from at all → run_from s p from all n ≡ Runs (whole s at all)
ran_from s p n from at all on =
    let P : ℕ → Type 0 = λ j. run_on j p (Runs (whole s from all)) ≡ run_on 0 p (Runs (whole s at all)) in
    subst P (add-zero n) on.on ∙ none_on p _

-- a step at which the run doesn't ask
step_unread : {I O : Type 0} (s : Streams I O) → StreamLaws s → (p : Loaded) (bound n : ℕ)
    (from at next : Moment (Runtime I O)) (step : Step) (all : List ℕ) → n < bound → OfCode p from → IsUnfailed s from →
    Agrees s from all → IsUnasked p (run_from s p from all) bound → RanFor (Serves s) p n from at →
    at.services.streams.input ≡ from.services.streams.input → Makes (Serves s) (effect p at.state) at step next →
    next.services.streams.input ≡ from.services.streams.input
step_unread {I = I} s laws p bound n from at next step all within o u agreed unasked ran same made =
    let there : Agrees s at all = subst (λ (i : I). s.agrees i all) (sym same) agreed in
    let is = ran_from s p n from at all (ran_on s laws p n 0 from at all o u there ran) in
    unread_on s at next step (effect p at.state) (λ e. unasked n within (whole s at all) is e) made ∙ same

ran_unread : {I O : Type 0} (s : Streams I O) → StreamLaws s → (p : Loaded) (bound n : ℕ)
    (from at : Moment (Runtime I O)) (all : List ℕ) → n ≤ bound → OfCode p from → IsUnfailed s from →
    Agrees s from all → IsUnasked p (run_from s p from all) bound → RanFor (Serves s) p n from at →
    at.services.streams.input ≡ from.services.streams.input
ran_unread s laws p bound zero from at all within o u agreed unasked start = refl
ran_unread s laws p bound (suc n) from at all within o u agreed unasked (then {u = between} before step) =
    step_unread s laws p bound n from between at Ran all (omega (arith, within)) o u agreed unasked before
    (ran_unread s laws p bound n from between all (omega (arith, within)) o u agreed unasked before) step

pub run_unread : {I O : Type 0} (s : Streams I O) → StreamLaws s → (p : Loaded) (bound ran : ℕ)
    (from : Moment (Runtime I O)) (last : Step) (to : Moment (Runtime I O)) (all : List ℕ) → OfCode p from →
    IsUnfailed s from → Agrees s from all → IsUnasked p (run_from s p from all) bound →
    RunsFor (Serves s) p bound ran from last to → to.services.streams.input ≡ from.services.streams.input
run_unread {I = I} {O = O} s laws p bound ran from Ran to all o u agreed unasked run =
    ap (λ (m : Moment (Runtime I O)). m.services.streams.input) run.finishes.1
    ∙ ran_unread s laws p bound ran from run.at all (let e = run.finishes.0 in omega arith) o u agreed unasked
    run.all_ran
run_unread s laws p bound ran from Ended to all o u agreed unasked run =
    step_unread s laws p bound ran from run.at to Ended all run.finishes.0 o u agreed unasked run.all_ran
    (ran_unread s laws p bound ran from run.at all (let e = run.finishes.0 in omega arith) o u agreed unasked
    run.all_ran)
    run.finishes.1
run_unread s laws p bound ran from (Faulted f) to all o u agreed unasked run =
    step_unread s laws p bound ran from run.at to (Faulted f) all run.finishes.0 o u agreed unasked run.all_ran
    (ran_unread s laws p bound ran from run.at all (let e = run.finishes.0 in omega arith) o u agreed unasked
    run.all_ran)
    run.finishes.1
run_unread s laws p bound ran from Refused to all o u agreed unasked run =
    step_unread s laws p bound ran from run.at to Refused all run.finishes.0 o u agreed unasked run.all_ran
    (ran_unread s laws p bound ran from run.at all (let e = run.finishes.0 in omega arith) o u agreed unasked
    run.all_ran)
    run.finishes.1
