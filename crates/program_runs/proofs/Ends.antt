-- The end of the run at a point, by the end of the main procedure or by STOP.
use Rattle.std.proofs.Common.{◌≡◌, ◌≢◌, ℕ, ◌+◌, ◌^◌, ◌<◌, List, [], ◌∷◌, Some, refl, ap, ◌∙◌, arith, add-one}
use Rattle.std.specs.Prelude.{pos}
use Rattle.rv_meaning.specs.declared.instr.Instr.{Instr}
use Rattle.rv_meaning.specs.declared.instr.Instr.TheVariants as I
use Rattle.rv_meaning.specs.Words.{word, sum}
use Rattle.pli_meaning.specs.declared.outcome.End.{End}
use Rattle.pli_meaning.specs.declared.outcome.End.TheVariants as E
use Rattle.pli_meaning.specs.Control.{finish}
use Rattle.pli_meaning.specs.World.{ending}
use Rattle.pli_serving.specs.ActsAndEnds as W
use Rattle.pli_serving.specs.Answers as N
use Rattle.pli_serving.specs.Answers.{Ends}
use Rattle.pli_serving.specs.Outcomes.{or_bad}
use Rattle.pli_coding.specs.Assembly.{Code, Plain}
use Rattle.pli_coding.specs.Instructions.{small}
use Rattle.pli_coding.specs.Registers.{a0, a1, a7}
use Rattle.activation_relation.specs.Layers.{Point, services_of}
use Rattle.activation_relation.specs.Points.{Surroundings, Stands}
use Rattle.run_steps.specs.Bodies.{Known}
use Rattle.run_steps.proofs.Bodies.{zero_is}
use Rattle.run_steps.specs.Calls.{Calling}
use Rattle.run_steps.proofs.Calls.{comes_finish, called, end_pauses, call_ends, acts}
use Rattle.run_steps.specs.Items.{Linked}
use Rattle.run_steps.proofs.Items.{straight}
use Rattle.run_steps.proofs.Jumps.{front_of, back_of}
use Rattle.run_steps.specs.Reach.{Family, Aims, Comes, Closed, cost}
use Rattle.run_steps.proofs.Reach.{onward}
use Rattle.run_steps.specs.Temporaries.{nothing}
use Rattle.block_runs.specs.Machines.{IsImage, AreIn}
use Rattle.block_runs.proofs.BlockEntries.{small_is}
use Rattle.block_runs.proofs.PointGrounds.{known_in, point_frame, point_ground}

-- service 2 with a kind of end
abbrev pub ended_code : (kind : ℕ) → Code
ended_code kind = small a0 kind ∷ small a1 0 ∷ small a7 2 ∷ Plain I.Ecall ∷ []

-- a kind that a register holds, and the end that it is
pub record IsKind (kind : ℕ) (end : End) : Type 0 where
  pub loaded : (z : ℕ) → z ≡ 0 → sum z (word (pos kind)) ≡ kind
  pub is : (line : ℕ) → W.end_of kind 0 line ≡ Some end
  pub over : end ≢ E.Running

pub finished_kind : IsKind 0 E.Finished
finished_kind = record { loaded = λ z e. small_is z 0 e (omega arith); is = λ line. refl; over = λ e. cc e }

pub stopped_kind : IsKind 1 E.Stopped
stopped_kind = record { loaded = λ z e. small_is z 1 e (omega arith); is = λ line. refl; over = λ e. cc e }

pub end_comes :
    {X : Type 0} {w : Surroundings} {code : List Instr} {p : Point} {numbers : ℕ → ℕ} {i : ℕ} {aims : Aims X}
    (closed : Closed code aims) (kind : ℕ) (end : End) (c : ℕ) (f : Family) → Stands w p × IsImage w code p →
    IsKind kind end → (c + 3 < cost code) × (w.acts + 1 < 2 ^ 64) → Linked w.links code i (ended_code kind) →
    AreIn w p numbers i f → Comes code c f (services_of p) aims (finish {R = X} end w.acts p.state)
end_comes {w = w} {code = code} {p = p} {numbers = numbers} {i = i} closed kind end c f known is fits l there =
    let h = point_frame known.0 known.1 in
    let v = services_of p in
    let front = small a0 kind ∷ small a1 0 ∷ small a7 2 ∷ [] in
    let last = Plain I.Ecall ∷ [] in
    let r = straight c f v v
    (λ b y. Known (point_ground w p h) v numbers (λ n. 0) (λ b'. (10, kind) ∷ (11, 0) ∷ (17, 2) ∷ []) b y)
    (front_of front last l) (omega arith) (λ b. (there b).at.pc)
    (λ b.
    let o = (known_in {t = λ n. 0} {rs = nothing} h (there b) tt).holds.body in
    let z = zero_is o in
    record {
      body = record { services = o.services; registers = o.registers; bytes = o.bytes; memory = o.memory };
      regs = (is.loaded _ z, (small_is _ 0 z (omega arith), (small_is _ 2 z (omega arith), tt)));
    }) in
    onward closed r
    (λ g at.
    let v' = N.with_world (ending end v.world) v in
    let calling : Calling w.links code (i + 3) g (λ b. Ends v') = record {
      linked = back_of front last l;
      pc = λ b. (at b).pc;
      answers = λ b.
          let o = (at b).holds in
          let x = (g b).machine.registers in
          called code (g b) v 2 kind 0 (x 12) (x 13) (x 14) (λ call x0 x1 x2 x3 x4. W.end_served call x0 x1)
          o.body.services o.regs.1.1.0 o.regs.0 o.regs.1.0 refl refl refl (λ call y. refl)
          ∙ ap (λ o'. or_bad o' (λ e. W.run_ended e v)) (is.is v.line)
          ∙ acts v w.acts (Ends v') known.0.allowed fits.1;
    } in
    comes_finish v' end w.acts p.state refl refl
    (end_pauses (c + 3) g v v' fits.0 known.0.running (λ b. (at b).holds.body.services) (add-one v.world.acts) calling)
    (call_ends (c + 3) g v v' is.over calling))
