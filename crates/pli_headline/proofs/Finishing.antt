-- The end of the run.
use Rattle.std.proofs.Common.{◌≡◌, ℕ, ◌+◌, ◌^◌, ◌<◌, ◌≤◌, List, [], ◌∷◌, refl, ap, ◌∙◌, arith, lit<, add-one}
use Rattle.rv_meaning.specs.declared.instr.Instr.{Instr}
use Rattle.rv_meaning.specs.declared.instr.Instr.TheVariants as I
use Rattle.pli_meaning.specs.declared.outcome.End.TheVariants as E
use Rattle.pli_meaning.specs.World.{ending}
use Rattle.pli_meaning.specs.StorageState.{State}
use Rattle.pli_meaning.specs.Control.{finish}
use Rattle.pli_serving.specs.ServiceState.{Services}
use Rattle.pli_serving.specs.Answers as N
use Rattle.pli_serving.specs.Answers.{Ends}
use Rattle.pli_serving.specs.ActsAndEnds as W
use Rattle.pli_coding.specs.Registers.{a0, a1, a7}
use Rattle.pli_coding.specs.Assembly.{Plain}
use Rattle.pli_coding.specs.Instructions.{small}
use Rattle.pli_coding.specs.Procedures.{finish_code}
use Rattle.pli_coding.specs.Linking.{Links}
use Rattle.image_runs.specs.Runs.{Whole}
use Rattle.run_steps.specs.Engine.{Base}
use Rattle.run_steps.specs.Items.{Linked, At}
use Rattle.run_steps.proofs.Items.{straight}
use Rattle.run_steps.specs.Bodies.{Regs}
use Rattle.run_steps.proofs.Jumps.{front_of, back_of}
use Rattle.run_steps.specs.Calls.{Calling}
use Rattle.run_steps.proofs.Calls.{comes_finish, called, end_pauses, call_ends, acts}
use Rattle.pli_headline.proofs.Raising.{small_is}
use Rattle.run_steps.specs.Reach.{Family, Aims, Comes, Closed, cost}
use Rattle.run_steps.proofs.Reach.{onward}

-- a machine of which its services and some registers alone are known
pub record Bare (v : Services) (rs : List (ℕ × ℕ)) (w : Whole) : Type 0 where
  pub services : w.services ≡ v
  pub regs : Regs rs w.machine.registers

-- the run is finished, whatever credits are left of an act
pub finish_piece : {X : Type 0} {links : Links} {code : List Instr} {i : ℕ} {v : Services} {aims : Aims X} (closed : Closed code aims) (credits : ℕ) (f : Family) (s : State) (k : ℕ) → credits + 3 < cost code → Linked links code i finish_code → v.world ≡ s.world → v.world.end ≡ E.Running → v.world.acts ≤ k → k + 1 < 2 ^ 64 → ((b : Base) → At b i (Bare v ((0, 0) ∷ [])) (f b)) → Comes code credits f v aims (finish {R = X} E.Finished k s)
finish_piece {code = code} {i = i} {v = v} closed credits f s k few l world running allowed fits at =
    let front = small a0 0 ∷ small a1 0 ∷ small a7 2 ∷ [] in
    let last = Plain I.Ecall ∷ [] in
    let r = straight credits f v v (λ b w. Bare v ((10, 0) ∷ (11, 0) ∷ (17, 2) ∷ []) w) (front_of front last l) (omega arith) (λ b. (at b).pc)
    (λ b. let o = (at b).holds in let z = o.regs.0 in record {
      services = o.services;
      regs = (small_is _ 0 z (lit< tt), (small_is _ 0 z (lit< tt), (small_is _ 2 z (lit< tt), tt)));
    }) in
    onward closed r (λ f' at'.
    let v' = N.with_world (ending E.Finished v.world) v in
    let calling : Calling _ code (i + 3) f' (λ b. Ends v') = record {
      linked = back_of front last l;
      pc = λ b. (at' b).pc;
      answers = λ b.
          let o = (at' b).holds in
          called code (f' b) v 2 0 0 _ _ _ (λ call x0 x1 x2 x3 x4. W.end_served call x0 x1) o.services o.regs.1.1.0 o.regs.0 o.regs.1.0 refl refl refl (λ call x. refl)
          ∙ acts v k (Ends v') allowed fits;
    } in
    comes_finish v' E.Finished k s world (ap (ending E.Finished) world)
    (end_pauses (credits + 3) f' v v' few running (λ b. (at' b).holds.services) (add-one v.world.acts) calling)
    (call_ends (credits + 3) f' v v' (λ e. cc e) calling))
