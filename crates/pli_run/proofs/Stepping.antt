-- The steps of a machine with these services are those of the definitions, for each whole input that agrees with what
-- was
-- read by their end, up to a stream that fails.
use Rattle.std.proofs.Common.{◌≡◌, ◌≢◌, ℕ, zero, suc, ◌+◌, ◌-◌, ◌*◌, ◌<◌, ◌≤◌, Bool, true, false, List, length, Option}
use Rattle.std.proofs.Common.{Some, None, refl, ap, subst, sym, ◌∙◌, arith, zero-add, add-zero, ◌⊎◌, inl, inr}
use Rattle.rv_meaning.specs.declared.instr.Fault.{Fault}
use Rattle.rv_meaning.specs.Machine.{Loaded, State, Effect, Goes, Faults, Calls, effect}
use Rattle.rv_machine.specs.declared.services.Served.{Served}
use Rattle.rv_machine.specs.declared.machine.Step.{Step}
use Rattle.rv_machine.specs.declared.machine.Step.TheVariants.{Ran, Ended, Fault as Faulted, Refused}
use Rattle.rv_machine.specs.Steps.{Moment, Makes, RanFor, RunsFor, Answers, start, then}
use Rattle.run_keeper.specs.RunKeeper.{run_keeper}
use Rattle.pli_edit.specs.OutputStreams.{IsCut}
use Rattle.pli_meaning.specs.World.{World}
use Rattle.pli_serving.specs.Answers.{Answer, Done, Ends, Bad}
use Rattle.pli_serving.specs.ServiceState.{Services}
use Rattle.pli_serving.specs.Serving.{serves}
use Rattle.pli_values.specs.declared.layout.Layout.{Layout}
use Rattle.pli_values.specs.View as View
use Rattle.pli_runtime.specs.Seen.{asks_input, call_of, fault_of}
use Rattle.pli_transmission.specs.Transmitting.{places_of}
use Rattle.pli_runtime.specs.declared.runtime.Runtime.{Runtime}
use Rattle.pli_environment.specs.Calling.{Streams, Serves, IsAnswered, IsAnsweredUnless, fault_in, seen_for}
use Rattle.pli_environment.specs.Calling.{services_of}
use Rattle.pli_environment.specs.Calling.{world_behind}
use Rattle.pli_environment.specs.Places.{image_layout}
use Rattle.image_runs.specs.Runs.{Whole, Run, Runs, Ended as HasEnded, Stopped, answered, called, of_effect, next}
use Rattle.image_runs.specs.Runs.{run_on}
use Rattle.image_runs.specs.Runs.{shown_by}
use Rattle.pli_run.specs.Running.{ShowsAfter, ShowsWithin, Meets}

-- what streams promise: inputs that agree with what was read agree with less of it; and where a write fails, all that
-- stood in the output before is taken
pub record StreamLaws {I O : Type 0} (s : Streams I O) : Type 0 where
  pub agreed : (a b : I) (all : List ℕ) → s.follows a b → s.agrees b all → s.agrees a all
  pub stays : (a : I) → s.follows a a
  pub goes_on : (a b c : I) → s.follows a b → s.follows b c → s.follows a c
  pub cut : (a b : O) → s.grows a b → s.write_failed a ≡ false → s.write_failed b ≡ true →
      IsCut (s.output a) (s.output b) (s.taken b)

-- a machine and its services, as the definitions see them for a whole input
abbrev pub whole : {I O : Type 0} → Streams I O → Moment (Runtime I O) → (all : List ℕ) → Whole
whole s m all = record { machine = m.state; services = services_of s m.services all }

abbrev pub Agrees : {I O : Type 0} → Streams I O → Moment (Runtime I O) → (all : List ℕ) → Type 0
Agrees s m all = s.agrees m.services.streams.input all

-- no stream failed
abbrev pub IsUnfailed : {I O : Type 0} → Streams I O → Moment (Runtime I O) → Type 0
IsUnfailed s m = fault_in s m.services ≡ None

unread_failed : (reads writes : Bool) → fault_of reads writes ≡ None → reads ≡ false
unread_failed false writes e = refl
unread_failed true false e = absurd cc
unread_failed true true e = absurd cc

unwritten_failed : (reads writes : Bool) → fault_of reads writes ≡ None → writes ≡ false
unwritten_failed reads false e = refl
unwritten_failed reads true e = absurd cc

write_failed : (reads writes : Bool) → fault_of reads writes ≡ Some 5 → writes ≡ true
write_failed reads true e = refl
write_failed true false e = absurd cc
write_failed false false e = absurd cc

-- services of the program's code
abbrev pub OfCode : {I O : Type 0} → Loaded → Moment (Runtime I O) → Type 0
OfCode p m = m.services.held.layout ≡ image_layout (4 * length p.code)

serves_here : {I O : Type 0} (s : Streams I O) (p : Loaded) (from : Moment (Runtime I O)) (all : List ℕ) →
    OfCode p from →
    called p (whole s from all) ≡ serves (call_of run_keeper (seen_for s from.services all) from.state.memory)
    from.state.registers
serves_here s p from all h =
    ap
    (λ (l : Layout). serves (record {
      keeper = run_keeper;
      layout = View.layout_of l;
      services = services_of s from.services all;
      memory = from.state.memory;
    }) from.state.registers)
    (sym h)

-- ---- how a call comes out

-- a state by its parts
of_parts : (t : State) (x : ℕ → ℕ) (pc : ℕ) → t.registers ≡ x → t.pc ≡ pc →
    t ≡ record { registers = x; memory = t.memory; pc = pc }
of_parts t x pc a e = λ i. record { registers = a i; memory = t.memory; pc = e i }

-- a call is answered between two states and services so
abbrev pub AnsweredSo : Answer → State → Services → Served → State → Services → Type 0
AnsweredSo a from v answer to v' = IsAnswered a v from.registers from.memory answer v' to.registers to.memory

called_ran : (from to : State) (v v' : Services) (answer : Served) (a : Answer) → AnsweredSo a from v answer to v' →
    Answers answer from Ran to → answered from a ≡ Runs (record { machine = to; services = v' })
called_ran from to v v' Served.Done a (x, y, e, r) (ran, pc) =
    rw e (ap (λ (s : State). Runs (record { machine = s; services = v' })) (sym (of_parts to _ _ r pc)))
called_ran from to v v' Served.Ended a h (ran, pc) = absurd (cc)
called_ran from to v v' Served.Bad a h (ran, pc) = absurd (cc)
called_ran from to v v' Served.Memory a h (ran, pc) = absurd (cc)

called_ended : (from to : State) (v v' : Services) (answer : Served) (a : Answer) → AnsweredSo a from v answer to v' →
    Answers answer from Ended to → answered from a ≡ HasEnded (record { machine = from; services = v' })
called_ended from to v v' Served.Done a h (ran, pc) = absurd (cc)
called_ended from to v v' Served.Ended a (e, r, m) (ran, pc) = rw e refl
called_ended from to v v' Served.Bad a h (ran, pc) = absurd (cc)
called_ended from to v v' Served.Memory a h (ran, pc) = absurd (cc)

called_faulted : (from to : State) (v v' : Services) (f : Fault) (answer : Served) (a : Answer) →
    AnsweredSo a from v answer to v' → Answers answer from (Faulted f) to →
    (answered from a ≡ Stopped f) × (v'.world ≡ v.world)
called_faulted from to v v' f Served.Done a h (ran, pc) = absurd (cc)
called_faulted from to v v' f Served.Ended a h (ran, pc) = absurd (cc)
called_faulted from to v v' f Served.Bad a (e, same, r, m) (faulted, pc) =
    (rw e (cc), ap (λ (it : Services). it.world) same)
called_faulted from to v v' f Served.Memory a h (ran, pc) = absurd (cc)

called_refused : (from to : State) (v v' : Services) (answer : Served) (a : Answer) → AnsweredSo a from v answer to v' →
    Answers answer from Refused to → v'.world ≡ v.world
called_refused from to v v' Served.Done a h (ran, pc) = absurd (cc)
called_refused from to v v' Served.Ended a h (ran, pc) = absurd (cc)
called_refused from to v v' Served.Bad a h (ran, pc) = absurd (cc)
called_refused from to v v' Served.Memory a (same, r, m) (ran, pc) = ap (λ (it : Services). it.world) same

-- what is shown by what an answer makes of a run
shown_behind : (from : State) (a : Answer) → shown_by (answered from a) ≡ world_behind a
shown_behind from (Done v m x y) = refl
shown_behind from (Ends v) = refl
shown_behind from Bad = refl

ended_by : (answer : Served) (from to : State) (step : Step) → Answers answer from step to → answer ≡ Served.Ended →
    step ≡ Ended
ended_by Served.Done from to step (e, pc) same = absurd (cc)
ended_by Served.Ended from to step (e, pc) same = e
ended_by Served.Bad from to step (e, pc) same = absurd (cc)
ended_by Served.Memory from to step (e, pc) same = absurd (cc)

-- a step that isn't the end of a run tells that no stream failed
whole_unless : (fault : Option ℕ) (a : Answer) (from to : State) (v v' : Services) (answer : Served) (step : Step) →
    IsAnsweredUnless fault a v from.registers from.memory answer v' to.registers to.memory →
    Answers answer from step to → (step ≡ Ended → ⊥) → (fault ≡ None) × AnsweredSo a from v answer to v'
whole_unless None a from to v v' answer step h answers going = (refl, h)
whole_unless (Some fault) a from to v v' answer step h answers going =
    absurd (going (ended_by answer from to step answers h.0))

-- what the end of a run comes to: it ended; or, where a stream failed, it shows what it showed before or behind the
-- step
abbrev pub ComesToEnd : (fault : Option ℕ) → Run → State → Services → Services → Type 0
ComesToEnd None r from v v' = r ≡ HasEnded (record { machine = from; services = v' })
ComesToEnd (Some fault) r from v v' = (v'.world ≡ v.world) ⊎ (shown_by r ≡ Some v'.world)

ended_unless : (fault : Option ℕ) (a : Answer) (from to : State) (v v' : Services) (answer : Served) →
    IsAnsweredUnless fault a v from.registers from.memory answer v' to.registers to.memory →
    Answers answer from Ended to → ComesToEnd fault (answered from a) from v v'
ended_unless None a from to v v' answer h answers = called_ended from to v v' answer a h answers
ended_unless (Some fault) a from to v v' answer (ended, inl same) answers = inl same
ended_unless (Some fault) a from to v v' answer (ended, inr behind) answers = inr (shown_behind from a ∙ behind)

-- ---- one step

pub agreed_before : {I O : Type 0} (s : Streams I O) → StreamLaws s → (from to : Moment (Runtime I O)) (step : Step)
    (e : Effect)
    (all : List ℕ) → Makes (Serves s) e from step to → Agrees s to all → Agrees s from all
agreed_before {I = I} {O = O} s laws from to step (Goes t) all (ran, state, services) h =
    subst (λ (r : Runtime I O). s.agrees r.streams.input all) services h
agreed_before {I = I} {O = O} s laws from to step (Faults f) all (faulted, state, services) h =
    subst (λ (r : Runtime I O). s.agrees r.streams.input all) services h
agreed_before s laws from to step Calls all (answer, serve, zero_kept, sized, answers) h =
    laws.agreed _ _ all serve.follows h

pub follows_on : {I O : Type 0} (s : Streams I O) → StreamLaws s → (from to : Moment (Runtime I O)) (step : Step)
    (e : Effect) →
    Makes (Serves s) e from step to → s.follows from.services.streams.input to.services.streams.input
follows_on {I = I} {O = O} s laws from to step (Goes t) (ran, state, services) =
    subst (λ (r : Runtime I O). s.follows from.services.streams.input r.streams.input) (sym services) (laws.stays _)
follows_on {I = I} {O = O} s laws from to step (Faults f) (faulted, state, services) =
    subst (λ (r : Runtime I O). s.follows from.services.streams.input r.streams.input) (sym services) (laws.stays _)
follows_on s laws from to step Calls (answer, serve, zero_kept, sized, answers) = serve.follows

-- where a write failed in a step, all that was written before it is taken
pub cut_on : {I O : Type 0} (s : Streams I O) → StreamLaws s → (from to : Moment (Runtime I O)) (step : Step)
    (e : Effect) → IsUnfailed s from → fault_in s to.services ≡ Some 5 → Makes (Serves s) e from step to →
    IsCut (s.output from.services.flow.shown.output) (s.output to.services.flow.shown.output)
    (s.taken to.services.flow.shown.output)
cut_on {I = I} {O = O} s laws from to step (Goes t) u broken (ran, state, services) =
    let same : fault_in s to.services ≡ None = ap (λ (r : Runtime I O). fault_in s r) services ∙ u in
    absurd (cc (same, broken))
cut_on {I = I} {O = O} s laws from to step (Faults f) u broken (faulted, state, services) =
    let same : fault_in s to.services ≡ None = ap (λ (r : Runtime I O). fault_in s r) services ∙ u in
    absurd (cc (same, broken))
cut_on s laws from to step Calls u broken (answer, serve, zero_kept, sized, answers) =
    laws.cut _ _ serve.grows (unwritten_failed _ _ u) (write_failed _ _ broken)

pub unread_on : {I O : Type 0} (s : Streams I O) (from to : Moment (Runtime I O)) (step : Step) (e : Effect) →
    (e ≡ Calls → asks_input (places_of from.services.streams.edits.items) (from.state.registers 17)
    (from.state.registers 11) ≡ false) → Makes (Serves s) e from step to →
    to.services.streams.input ≡ from.services.streams.input
unread_on {I = I} {O = O} s from to step (Goes t) silent (ran, state, services) =
    ap (λ (r : Runtime I O). r.streams.input) services
unread_on {I = I} {O = O} s from to step (Faults f) silent (faulted, state, services) =
    ap (λ (r : Runtime I O). r.streams.input) services
unread_on s from to step Calls silent (answer, serve, zero_kept, sized, answers) = serve.unread (silent refl)

pub makes_ran : {I O : Type 0} (s : Streams I O) (p : Loaded) (from to : Moment (Runtime I O)) (e : Effect)
    (all : List ℕ) →
    OfCode p from → IsUnfailed s from → Agrees s to all → Makes (Serves s) e from Ran to →
    (of_effect p (whole s from all) e ≡ Runs (whole s to all)) × OfCode p to × IsUnfailed s to
makes_ran s p from to (Goes t) all o u h (ran, state, services) =
    (rw (state, services) refl, rw services o, rw services u)
makes_ran s p from to (Faults f) all o u h (ran, state, services) = absurd (cc)
makes_ran s p from to Calls all o u h (answer, serve, zero_kept, sized, answers) =
    let went = whole_unless (fault_in s to.services) _ from.state to.state (services_of s from.services all)
    (services_of s to.services all) answer Ran (serve.answered (unread_failed _ _ u) all h) answers
    (λ e. absurd (cc e)) in (
      ap (answered from.state) (serves_here s p from all o)
          ∙ called_ran from.state to.state _ (services_of s to.services all) answer _ went.1 answers,
      serve.layout_kept ∙ o,
      went.0,
    )

pub makes_ended : {I O : Type 0} (s : Streams I O) (p : Loaded) (from to : Moment (Runtime I O)) (e : Effect)
    (all : List ℕ) →
    OfCode p from → IsUnfailed s from → Agrees s to all → Makes (Serves s) e from Ended to →
    ComesToEnd (fault_in s to.services) (of_effect p (whole s from all) e) from.state (services_of s from.services all)
    (services_of s to.services all)
makes_ended s p from to (Goes t) all o u h (ran, state, services) = absurd (cc)
makes_ended s p from to (Faults f) all o u h (ran, state, services) = absurd (cc)
makes_ended s p from to Calls all o u h (answer, serve, zero_kept, sized, answers) =
    subst
    (λ (r : Run). ComesToEnd (fault_in s to.services) r from.state (services_of s from.services all)
    (services_of s to.services all))
    (sym (ap (answered from.state) (serves_here s p from all o)))
    (ended_unless (fault_in s to.services) _ from.state to.state (services_of s from.services all)
    (services_of s to.services all) answer (serve.answered (unread_failed _ _ u) all h) answers)

pub makes_faulted : {I O : Type 0} (s : Streams I O) (p : Loaded) (from to : Moment (Runtime I O)) (f : Fault)
    (e : Effect)
    (all : List ℕ) → OfCode p from → IsUnfailed s from → Agrees s to all → Makes (Serves s) e from (Faulted f) to →
    (of_effect p (whole s from all) e ≡ Stopped f) × IsUnfailed s to
    × ((services_of s to.services all).world ≡ (services_of s from.services all).world)
makes_faulted s p from to f (Goes t) all o u h (ran, state, services) = absurd (cc)
makes_faulted {I = I} {O = O} s p from to f (Faults g) all o u h (faulted, state, services) =
    (cc, rw services u, ap (λ (r : Runtime I O). (services_of s r all).world) services)
makes_faulted s p from to f Calls all o u h (answer, serve, zero_kept, sized, answers) =
    let went = whole_unless (fault_in s to.services) _ from.state to.state (services_of s from.services all)
    (services_of s to.services all) answer (Faulted f) (serve.answered (unread_failed _ _ u) all h) answers
    (λ e. absurd (cc e)) in
    let called = called_faulted from.state to.state (services_of s from.services all) (services_of s to.services all) f
    answer _ went.1 answers in
    (ap (answered from.state) (serves_here s p from all o) ∙ called.0, went.0, called.1)

pub makes_refused : {I O : Type 0} (s : Streams I O) (from to : Moment (Runtime I O)) (e : Effect) (all : List ℕ) →
    IsUnfailed s from → Agrees s to all → Makes (Serves s) e from Refused to →
    IsUnfailed s to × ((services_of s to.services all).world ≡ (services_of s from.services all).world)
makes_refused s from to (Goes t) all u h (ran, state, services) = absurd (cc)
makes_refused s from to (Faults f) all u h (ran, state, services) = absurd (cc)
makes_refused s from to Calls all u h (answer, serve, zero_kept, sized, answers) =
    let went = whole_unless (fault_in s to.services) _ from.state to.state (services_of s from.services all)
    (services_of s to.services all) answer Refused (serve.answered (unread_failed _ _ u) all h) answers
    (λ e. absurd (cc e)) in (
      went.0,
      called_refused from.state to.state (services_of s from.services all) (services_of s to.services all)
          answer _ went.1 answers,
    )

-- ---- runs

-- steps that ran are taken off a run, and keep the services those of the code, with no stream failed
pub record RanOn {I O : Type 0} (s : Streams I O) (p : Loaded) (n k : ℕ) (from at : Moment (Runtime I O))
    (all : List ℕ) : Type 0 where
  pub on : run_on (n + k) p (Runs (whole s from all)) ≡ run_on k p (Runs (whole s at all))
  pub code : OfCode p at
  pub unfailed : IsUnfailed s at

pub ran_on : {I O : Type 0} (s : Streams I O) → StreamLaws s → (p : Loaded) (n k : ℕ) (from at : Moment (Runtime I O))
    (all : List ℕ) →
    OfCode p from → IsUnfailed s from → Agrees s at all → RanFor (Serves s) p n from at → RanOn s p n k from at all
unfolding run_on
ran_on s laws p zero k from at all o u h start = record { on = rw zero-add refl; code = o; unfailed = u }
ran_on s laws p (suc n) k from at all o u h (then {u = between} before step) =
    let earlier = agreed_before s laws between at Ran (effect p between.state) all step h in
    let ran = ran_on s laws p n (suc k) from between all o u earlier before in
    let made = makes_ran s p between at (effect p between.state) all ran.code ran.unfailed h step in
    let shift : suc n + k ≡ n + suc k = omega arith in
    let P : ℕ → Type 0 = λ j. run_on j p (Runs (whole s from all)) ≡ run_on k p (Runs (whole s at all)) in
    record {
      on = subst P (sym shift) (ran.on ∙ ap (run_on k p) made.0);
      code = made.1;
      unfailed = made.2;
    }

pub ran_follows : {I O : Type 0} (s : Streams I O) → StreamLaws s →
    (p : Loaded) (n : ℕ) (from at : Moment (Runtime I O)) →
    RanFor (Serves s) p n from at → s.follows from.services.streams.input at.services.streams.input
ran_follows s laws p zero from at start = laws.stays _
ran_follows s laws p (suc n) from at (then {u = between} before step) =
    laws.goes_on _ _ _ (ran_follows s laws p n from between before)
    (follows_on s laws between at Ran (effect p between.state) step)

pub ended_stays : (p : Loaded) (n : ℕ) (w : Whole) → run_on n p (HasEnded w) ≡ HasEnded w
unfolding run_on
ended_stays p zero w = refl
ended_stays p (suc n) w = refl

pub stopped_stays : (p : Loaded) (n : ℕ) (f : Fault) → run_on n p (Stopped f) ≡ Stopped f
unfolding run_on
stopped_stays p zero f = refl
stopped_stays p (suc n) f = refl

pub one_on : (p : Loaded) (n : ℕ) (w : Whole) (r : Run) → next p w ≡ r → run_on (suc n) p (Runs w) ≡ run_on n p r
unfolding run_on
one_on p n w r e = ap (run_on n p) e

pub none_on : (p : Loaded) (r : Run) → run_on 0 p r ≡ r
unfolding run_on
none_on p r = refl
