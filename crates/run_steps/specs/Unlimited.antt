-- Runs in which serial numbers have no limit: a run of fewer than 2 ^ 64 instructions comes to the same, since an
-- instruction makes one at most.
use Rattle.std.specs.Prelude.{ℕ, zero, suc, ◌+◌, length, pos, ◌&&◌, ◌==◌, ◌*◌, if◌then◌else◌}
use Rattle.rv_meaning.specs.Machine.{Loaded, Effect, Goes, Faults, Calls, effect}
use Rattle.pli_meaning.specs.BasicValues.{VariableName}
use Rattle.pli_meaning.specs.Contents.{Generation, fresh}
use Rattle.pli_meaning.specs.declared.outcome.End.TheVariants as E
use Rattle.pli_meaning.specs.declared.outcome.Limit.TheVariants as L
use Rattle.run_keeper.specs.RunKeeper.{run_keeper}
use Rattle.pli_serving.specs.Bytes.{is_data, with_bytes, name_size, name_bytes}
use Rattle.pli_serving.specs.ServiceState.{height}
use Rattle.pli_serving.specs.Answers.{Answer, Done}
use Rattle.pli_serving.specs.Finding.{Call}
use Rattle.pli_serving.specs.Arguments.{capacity_of, data_bytes, shape_of_number}
use Rattle.pli_serving.specs.Outcomes.{or_bad, bad_unless}
use Rattle.pli_serving.specs.InitialValues.{initial_values}
use Rattle.pli_serving.specs.ActsAndEnds.{run_ended}
use Rattle.pli_serving.specs.Making as G
use Rattle.pli_serving.specs.Serving as V
use Rattle.image_runs.specs.Runs.{Whole, Run, Runs, Ended, Stopped, answered, layout_of}

-- ---- service 7

abbrev pub variable_made : Call → (name signature place owner serial : ℕ) → Generation → Answer
variable_made c name signature place owner serial g =
    bad_unless
    (is_data c.layout place (data_bytes c.keeper g.shape) && is_data c.layout name name_size)
    (Done
    (G.with_living (record { serial = serial; owner = owner; signature = signature; at = place }) c.services)
    (with_bytes (name_bytes (VariableName serial)) name
    (with_bytes (G.bytes_made c place g (capacity_of g.shape)) place c.memory))
    name
    signature)

abbrev pub limited : Call → (name signature place owner : ℕ) → Generation → Answer
limited c name signature place owner g =
    if G.passes_limit c.services owner g then run_ended (E.Limit L.Automatic) c.services
    else variable_made c name signature place owner (c.services.serials + 1) g

abbrev pub make_served : Call → (name signature initial place class : ℕ) → Answer
make_served c name signature initial place class =
    or_bad (G.owner_of class (height c.services)) (λ owner.
    or_bad (shape_of_number c signature) (λ s.
    or_bad (initial_values c s.signature.leaves initial) (λ values.
    limited c name signature place owner (fresh s (pos 0) values))))

-- ---- all services

abbrev pub served : ℕ → Call → (ℕ → ℕ) → Answer
served n c x = if n == 7 then make_served c (x 10) (x 11) (x 12) (x 13) (x 14) else V.served n c x

abbrev pub serves : Call → (registers : ℕ → ℕ) → Answer
serves c x = served (x 17) c x

abbrev pub of_effect : Loaded → Whole → Effect → Run
of_effect p w (Goes s) = Runs (record { machine = s; services = w.services })
of_effect p w (Faults fault) = Stopped fault
of_effect p w Calls =
    answered w.machine
    (serves
    (record {
      keeper = run_keeper;
      layout = layout_of (4 * length p.code);
      services = w.services;
      memory = w.machine.memory;
    })
    w.machine.registers)

abbrev pub next : Loaded → Whole → Run
next p w = of_effect p w (effect p w.machine)

unfoldable pub run_on : ℕ → Loaded → Run → Run
run_on zero p r = r
run_on (suc n) p (Runs w) = run_on n p (next p w)
run_on (suc n) p (Ended w) = Ended w
run_on (suc n) p (Stopped fault) = Stopped fault
