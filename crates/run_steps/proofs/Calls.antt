-- Acts of the meaning and calls of services: what they come to, and that the run may pause before them.
use Rattle.std.proofs.Common.{◌≡◌, ◌≢◌, ℕ, suc, ◌+◌, ◌*◌, ◌^◌, ◌<◌, ◌≤◌, List, Some, Bool, true, false, refl, ap}
use Rattle.std.proofs.Common.{◌∙◌, arith}
use Rattle.std.specs.Prelude.{nat_lt, cond}
use Rattle.std.proofs.Math.Nat.{mul-le-mul_left}
use Rattle.std.proofs.lemmas.Bool.{ltb-true, lt-ltb}
use Rattle.rv_meaning.specs.declared.instr.Instr.{Instr}
use Rattle.pli_meaning.specs.declared.outcome.End.{End}
use Rattle.pli_meaning.specs.declared.outcome.End.TheVariants as E
use Rattle.rv_meaning.specs.Machine as M
use Rattle.pli_meaning.specs.World.{World, ending}
use Rattle.pli_meaning.specs.StorageState.{State, with_world}
use Rattle.pli_meaning.specs.Control as F
use Rattle.pli_meaning.specs.Control.{Normal, Paused, act, finish}
use Rattle.pli_serving.specs.ServiceState.{Services}
use Rattle.pli_serving.specs.Answers.{Answer, Done, Ends, Bad, acting}
use Rattle.pli_serving.specs.Finding.{Call}
use Rattle.run_steps.specs.Unlimited as V
use Rattle.pli_coding.specs.Linking.{Links}
use Rattle.image_runs.specs.Runs.{Whole, Runs, answered}
use Rattle.run_steps.specs.Unlimited.{run_on}
use Rattle.run_steps.specs.Engine.{Base, address, most_code, call_at, served}
use Rattle.run_steps.proofs.Engine.{call_next, next_address}
use Rattle.run_steps.specs.Items.{At}
use Rattle.run_steps.specs.Reach.{Family, cost, acts_of, ActNext, Pausing, Ending, Reach, Aims, Comes}
use Rattle.run_steps.proofs.Reach.{stay}
use Rattle.run_steps.specs.Calls.{behind, Calling}

-- ---- the acts of the meaning

act_by : {code : List Instr} {c : ℕ} {f : Family} {v : Services} {aims : Aims (Unit {0})} (change : World → World)
    (s : State) (t : Bool) → v.world ≡ s.world → Pausing code c f v v →
    (t ≡ true → aims.done c f v tt (with_world (change s.world) s)) →
    Comes code c f v aims (cond t (Normal tt (with_world (change s.world) s)) (Paused s))
act_by {v = v} change s true e p go = record { to = λ early. go refl }
act_by {v = v} change s false e p go = record { to = λ early. (v, e, p) }

-- an act is carried out, or the run pauses before it
pub comes_act : {code : List Instr} {c : ℕ} {f : Family} {v : Services} {aims : Aims (Unit {0})}
    (change : World → World) (k : ℕ) (s : State) → v.world ≡ s.world → Pausing code c f v v →
    (s.world.acts < k → aims.done c f v tt (with_world (change s.world) s)) → Comes code c f v aims (act change k s)
unfolding act
comes_act change k s e p go = act_by change s (nat_lt s.world.acts k) e p (λ t. go (ltb-true s.world.acts k t))

finish_by : {R : Type 0} {code : List Instr} {c : ℕ} {f : Family} {v : Services} (v' : Services) {aims : Aims R}
    (end : End) (s : State) (t : Bool) → v.world ≡ s.world → v'.world ≡ ending end s.world → Pausing code c f v v →
    Ending code c f v v' → Comes code c f v aims (cond t (F.Ended (with_world (ending end s.world) s)) (Paused s))
finish_by {v = v} v' end s true e e' p g = record { to = λ early. (v', e', g) }
finish_by {v = v} v' end s false e e' p g = record { to = λ early. (v, e, p) }

-- the run ends, or pauses before its end
pub comes_finish : {R : Type 0} {code : List Instr} {c : ℕ} {f : Family} {v : Services}
    (v' : Services) {aims : Aims R} (end : End) (k : ℕ) (s : State) → v.world ≡ s.world →
    v'.world ≡ ending end s.world → Pausing code c f v v → Ending code c f v v' →
    Comes code c f v aims (finish {R = R} end k s)
unfolding finish
comes_finish v' end k s e e' p g = finish_by v' end s (nat_lt s.world.acts k) e e' p g

-- ---- calls

-- what a machine's call comes to depends on its services, its memory and its arguments
pub called : (code : List Instr) (w : Whole) (v : Services) (n x0 x1 x2 x3 x4 : ℕ)
    (G : Call → ℕ → ℕ → ℕ → ℕ → ℕ → Answer) → w.services ≡ v → w.machine.registers 17 ≡ n →
    w.machine.registers 10 ≡ x0 → w.machine.registers 11 ≡ x1 → w.machine.registers 12 ≡ x2 →
    w.machine.registers 13 ≡ x3 → w.machine.registers 14 ≡ x4 →
    ((c : Call) (x : ℕ → ℕ) → V.served n c x ≡ G c (x 10) (x 11) (x 12) (x 13) (x 14)) →
    served code w ≡ G (call_at code v w.machine.memory) x0 x1 x2 x3 x4
unfolding served
called code w v n x0 x1 x2 x3 x4 G ev en e0 e1 e2 e3 e4 h =
    let x = w.machine.registers in
    let m = w.machine.memory in
    let c = call_at code w.services m in
    ap (λ u. V.served u c x) en
    ∙ h c x
    ∙ ap (λ u. G (call_at code u m) (x 10) (x 11) (x 12) (x 13) (x 14)) ev
    ∙ ap (λ u. G (call_at code v m) u (x 11) (x 12) (x 13) (x 14)) e0
    ∙ ap (λ u. G (call_at code v m) x0 u (x 12) (x 13) (x 14)) e1
    ∙ ap (λ u. G (call_at code v m) x0 x1 u (x 13) (x 14)) e2
    ∙ ap (λ u. G (call_at code v m) x0 x1 x2 u (x 14)) e3
    ∙ ap (λ u. G (call_at code v m) x0 x1 x2 x3 u) e4

one_more : (i : ℕ) → suc i ≡ i + 1
one_more i = omega arith

answered_at : (code : List Instr) (b : Base) (i : ℕ) (w : Whole) (v' : Services) (m : List ℕ) (x y : ℕ) →
    i < most_code → w.machine.pc ≡ address b i → answered w.machine (Done v' m x y) ≡ Runs (behind b (i + 1) w v' m x y)
answered_at code b i w v' m x y h e =
    ap (λ n. Runs (record {
      machine
          = record { registers = M.written (M.written w.machine.registers 10 x) 11 y; memory = m; pc = n };
      services = v';
    })) (next_address b i w.machine.pc h e ∙ ap (address b) (one_more i))

-- the call that is done
pub call_done : {links : Links} {code : List Instr} {i : ℕ} (c : ℕ) (f : Family) (v v' : Services) (m : Base → List ℕ)
    (x y : Base → ℕ) (Q : Base → Whole → Type 0) → v.world.acts ≤ v'.world.acts →
    Calling links code i f (λ b. Done v' (m b) (x b) (y b)) →
    ((b : Base) → Q b (behind b (i + 1) (f b) v' (m b) (x b) (y b))) →
    Reach code c f v (c + 1) v' (λ b w. At b (i + 1) (Q b) w)
unfolding run_on
call_done {code = code} {i = i} c f v v' m x y Q more call holds =
    record {
      count = 1;
      paid = let n : cost code * v.world.acts ≤ cost code * v'.world.acts = mul-le-mul_left (cost code) more in omega
          (arith, n);
      grows = more;
      goes = λ b. record {
        after = behind b (i + 1) (f b) v' (m b) (x b) (y b);
        ran = call_next code b i (f b) (call.pc b) call.linked.has.0.0 ∙ ap (answered (f b).machine)
            (call.answers b) ∙ answered_at code b i (f b) v' (m b) (x b) (y b)
            (let n = call.linked.inside in let s = call.linked.small' in omega (arith, n, s)) (call.pc b);
        holds = record { pc = refl; holds = holds b };
      };
    }

-- the same with credits anew, as many as one act pays for
pub call_acts : {links : Links} {code : List Instr} {i : ℕ} (c c' : ℕ) (f : Family) (v v' : Services)
    (m : Base → List ℕ) (x y : Base → ℕ) (Q : Base → Whole → Type 0) → c < cost code →
    v'.world.acts ≡ suc v.world.acts → Calling links code i f (λ b. Done v' (m b) (x b) (y b)) →
    ((b : Base) → Q b (behind b (i + 1) (f b) v' (m b) (x b) (y b))) →
    Reach code c f v c' v' (λ b w. At b (i + 1) (Q b) w)
unfolding run_on
call_acts {code = code} {i = i} c c' f v v' m x y Q few more call holds =
    record {
      count = 1;
      paid =
          let n : cost code * suc v.world.acts ≡ cost code * v.world.acts + cost code = omega arith in
          let e = ap (λ u. cost code * u) more in
          omega (arith, n, e, few);
      grows = omega (arith, more);
      goes = λ b. record {
        after = behind b (i + 1) (f b) v' (m b) (x b) (y b);
        ran = call_next code b i (f b) (call.pc b) call.linked.has.0.0 ∙ ap (answered (f b).machine)
            (call.answers b) ∙ answered_at code b i (f b) v' (m b) (x b) (y b)
            (let n = call.linked.inside in let s = call.linked.small' in omega (arith, n, s)) (call.pc b);
        holds = record { pc = refl; holds = holds b };
      };
    }

-- before a call that makes an act the run can pause
pub call_pauses : {links : Links} {code : List Instr} {i : ℕ} (c : ℕ) (f : Family) (v v' : Services)
    (m : Base → List ℕ) (x y : Base → ℕ) → c < cost code → v.world.end ≡ E.Running →
    ((b : Base) → (f b).services ≡ v) → v'.world.acts ≡ suc v.world.acts →
    Calling links code i f (λ b. Done v' (m b) (x b) (y b)) → Pausing code c f v v
call_pauses {code = code} {i = i} c f v v' m x y few running served' e call =
    record {
      at = c;
      inside = few;
      running = running;
      to = stay code c f v (λ b w. ActNext code b v w) (λ b. record {
        services = served' b;
        act = ap acts_of (call_next code b i (f b) (call.pc b) call.linked.has.0.0 ∙ ap (answered (f b).machine)
            (call.answers b)) ∙ ap Some e;
      });
    }

pub end_pauses : {links : Links} {code : List Instr} {i : ℕ} (c : ℕ) (f : Family) (v v' : Services) → c < cost code →
    v.world.end ≡ E.Running → ((b : Base) → (f b).services ≡ v) → v'.world.acts ≡ suc v.world.acts →
    Calling links code i f (λ b. Ends v') → Pausing code c f v v
end_pauses {code = code} {i = i} c f v v' few running served' e call =
    record {
      at = c;
      inside = few;
      running = running;
      to = stay code c f v (λ b w. ActNext code b v w) (λ b. record {
        services = served' b;
        act = ap acts_of (call_next code b i (f b) (call.pc b) call.linked.has.0.0 ∙ ap (answered (f b).machine)
            (call.answers b)) ∙ ap Some e;
      });
    }

-- the call that ends the run
pub call_ends : {links : Links} {code : List Instr} {i : ℕ} (c : ℕ) (f : Family) (v v' : Services) →
    v'.world.end ≢ E.Running → Calling links code i f (λ b. Ends v') → Ending code c f v v'
unfolding run_on
call_ends {code = code} {i = i} c f v v' over call =
    record {
      count = 1;
      over = over;
      goes = λ b. record {
        after = record { machine = (f b).machine; services = v' };
        ran = call_next code b i (f b) (call.pc b) call.linked.has.0.0 ∙ ap (answered (f b).machine) (call.answers b);
        services = refl;
      };
    }

-- an act whose number fits 64 bits
pub acts : (v : Services) (k : ℕ) (answer : Answer) → v.world.acts ≤ k → k + 1 < 2 ^ 64 → acting v answer ≡ answer
acts v k answer h i =
    let t : nat_lt (v.world.acts + 1) (2 ^ 64) ≡ true = lt-ltb (v.world.acts + 1) (2 ^ 64) (omega arith) in
    ap (λ u. cond u answer Bad) t
