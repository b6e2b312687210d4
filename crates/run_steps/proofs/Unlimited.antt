-- Runs in which serial numbers have no limit: a run of fewer than 2 ^ 64 instructions comes to the same, since an
-- instruction makes one at most.
use Rattle.std.proofs.Common.{◌≡◌, ℕ, zero, suc, ◌+◌, ◌^◌, ◌<◌, ◌≤◌, length, Option, Some, None, Bool, true, false}
use Rattle.std.proofs.Common.{refl, sym, ap, ◌∙◌, arith}
use Rattle.std.specs.Prelude.{pos, cond, ◌&&◌, ◌==◌, nat_lt, ◌*◌, if◌then◌else◌}
use Rattle.std.proofs.lemmas.Bool.{eqb-true, lt-ltb}
use Rattle.rv_meaning.specs.declared.instr.Fault.{Fault}
use Rattle.rv_meaning.specs.Machine.{Loaded, Effect, Goes, Faults, Calls, effect}
use Rattle.pli_meaning.specs.BasicValues.{VariableName}
use Rattle.pli_meaning.specs.Contents.{Generation, fresh}
use Rattle.pli_meaning.specs.declared.outcome.End.TheVariants as E
use Rattle.pli_meaning.specs.declared.outcome.Limit.TheVariants as L
use Rattle.run_keeper.specs.RunKeeper.{run_keeper}
use Rattle.pli_serving.specs.Bytes.{is_data, with_bytes, name_size, name_bytes}
use Rattle.pli_serving.specs.ServiceState.{height}
use Rattle.pli_serving.specs.Answers.{Answer, Done, Ends, Bad}
use Rattle.pli_serving.specs.Finding.{Call}
use Rattle.pli_serving.specs.Arguments.{capacity_of, data_bytes, shape_of_number}
use Rattle.pli_serving.specs.Outcomes.{or_bad, bad_unless}
use Rattle.pli_serving.specs.InitialValues.{initial_values}
use Rattle.pli_serving.specs.ActsAndEnds.{run_ended}
use Rattle.pli_serving.specs.Making as G
use Rattle.pli_serving.specs.Serving as V
use Rattle.image_runs.specs.Runs as R
use Rattle.image_runs.specs.Runs.{Whole, Run, Runs, Ended, Stopped, answered, layout_of}
use Rattle.run_steps.specs.Showing.{Shows}
use Rattle.run_steps.proofs.Showing.{quiet, if_shows, bad_shows, unless_shows, ended_shows, serves_shows}
use Rattle.run_steps.specs.Unlimited.{limited, make_served, served, serves, of_effect, next, run_on}

-- ---- what they show

pub unlimited_shows : (c : Call) (x : ℕ → ℕ) → Shows c.services (serves c x)
unlimited_shows c x =
    if_shows (x 17 == 7)
    (bad_shows (G.owner_of (x 14) (height c.services))
    (λ owner. bad_shows (shape_of_number c (x 11))
    (λ s. bad_shows _ (λ values. if_shows (G.passes_limit c.services owner (fresh s (pos 0) values))
    (ended_shows _ c.services) (unless_shows _ (quiet refl (omega arith)))))))
    (serves_shows c x)

-- ---- with few serial numbers they are those of images

limited_same : (c : Call) (name signature place owner : ℕ) (g : Generation) → c.services.serials + 1 < 2 ^ 64 →
    limited c name signature place owner g ≡ G.limited c name signature place owner g
limited_same c name signature place owner g few =
    let serial = c.services.serials + 1 in
    let t : nat_lt serial (2 ^ 64) ≡ true = lt-ltb _ _ few in
    let inside = is_data c.layout place (data_bytes c.keeper g.shape) && is_data c.layout name name_size in
    let made : Bool → Answer = λ q. if G.passes_limit c.services owner g then run_ended (E.Limit L.Automatic) c.services
    else bad_unless (q && inside)
    (Done
    (G.with_living (record { serial = serial; owner = owner; signature = signature; at = place }) c.services)
    (with_bytes (name_bytes (VariableName serial)) name
    (with_bytes (G.bytes_made c place g (capacity_of g.shape)) place c.memory))
    name
    signature) in
    ap made (sym t)

or_same : {X : Type 0} {f g : X → Answer} (o : Option X) → ((x : X) → f x ≡ g x) → or_bad o f ≡ or_bad o g
or_same None h = refl
or_same (Some x) h = h x

make_same : (c : Call) (name signature initial place class : ℕ) → c.services.serials + 1 < 2 ^ 64 →
    make_served c name signature initial place class ≡ G.make_served c name signature initial place class
make_same c name signature initial place class few =
    or_same (G.owner_of class (height c.services))
    (λ owner. or_same (shape_of_number c signature)
    (λ s. or_same (initial_values c s.signature.leaves initial)
    (λ values. limited_same c name signature place owner (fresh s (pos 0) values) few)))

served_by : (q : Bool) (n : ℕ) (c : Call) (x : ℕ → ℕ) → (n == 7) ≡ q → c.services.serials + 1 < 2 ^ 64 →
    cond q (make_served c (x 10) (x 11) (x 12) (x 13) (x 14)) (V.served n c x) ≡ V.served n c x
served_by true n c x e few =
    make_same c (x 10) (x 11) (x 12) (x 13) (x 14) few ∙ ap (λ u. V.served u c x) (sym (eqb-true n 7 e))
served_by false n c x e few = refl

of_effect_same : (p : Loaded) (w : Whole) (e : Effect) → w.services.serials + 1 < 2 ^ 64 →
    of_effect p w e ≡ R.of_effect p w e
of_effect_same p w (Goes s) few = refl
of_effect_same p w (Faults fault) few = refl
of_effect_same p w Calls few =
    let c : Call = record {
      keeper = run_keeper;
      layout = layout_of (4 * length p.code);
      services = w.services;
      memory = w.machine.memory;
    } in
    ap (answered w.machine) (served_by (w.machine.registers 17 == 7)
    (w.machine.registers 17) c w.machine.registers refl few)

-- what an instruction leaves of serial numbers
abbrev Serials : ℕ → Run → Type 0
Serials n (Runs w) = w.services.serials ≤ n
Serials n (Ended w) = Unit {0}
Serials n (Stopped fault) = Unit {0}

answered_serials : (w : Whole) (a : Answer) → Shows w.services a →
    Serials (suc w.services.serials) (answered w.machine a)
answered_serials w (Done v m x y) h = h.is.1
answered_serials w (Ends v) h = tt
answered_serials w Bad h = tt

of_effect_serials : (p : Loaded) (w : Whole) (e : Effect) → Serials (suc w.services.serials) (of_effect p w e)
of_effect_serials p w (Goes s) = omega arith
of_effect_serials p w (Faults fault) = tt
of_effect_serials p w Calls =
    let c : Call = record {
      keeper = run_keeper;
      layout = layout_of (4 * length p.code);
      services = w.services;
      memory = w.machine.memory;
    } in
    answered_serials w (serves c w.machine.registers) (unlimited_shows c w.machine.registers)

-- so runs are
pub same_runs : (n : ℕ) (p : Loaded) (w : Whole) → w.services.serials + n < 2 ^ 64 →
    run_on n p (Runs w) ≡ R.run_on n p (Runs w)
unfolding run_on R.run_on
same_runs zero p w few = refl
same_runs (suc n) p w few =
    by_next (next p w) (of_effect_serials p w (effect p w.machine)) (λ u h. same_runs n p u (omega (arith, few, h)))
    ∙ ap (R.run_on n p) (of_effect_same p w (effect p w.machine) (omega (arith, few)))
  where
    ended : (m : ℕ) (u : Whole) → run_on m p (Ended u) ≡ R.run_on m p (Ended u)
    ended zero u = refl
    ended (suc m) u = refl

    stopped : (m : ℕ) (fault : Fault) → run_on m p (Stopped fault) ≡ R.run_on m p (Stopped fault)
    stopped zero fault = refl
    stopped (suc m) fault = refl

    by_next : (r : Run) → Serials (suc w.services.serials) r →
        ((u : Whole) → u.services.serials ≤ suc w.services.serials → run_on n p (Runs u) ≡ R.run_on n p (Runs u)) →
        run_on n p r ≡ R.run_on n p r
    by_next (Runs u) h ih = ih u h
    by_next (Ended u) h ih = ended n u
    by_next (Stopped fault) h ih = stopped n fault
