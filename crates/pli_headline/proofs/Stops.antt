-- STOP ends the run.
use Rattle.std.proofs.Common.{ℕ, ◌+◌, ◌^◌, ◌<◌, List, [], ◌∷◌, refl, ap, ◌∙◌, arith, lit<, add-one}
use Rattle.rv_meaning.specs.declared.instr.Instr.{Instr}
use Rattle.rv_meaning.specs.declared.instr.Instr.TheVariants as I
use Rattle.pli_typing.specs.TypedTree as Y
use Rattle.pli_meaning.specs.declared.outcome.End.TheVariants as E
use Rattle.pli_meaning.specs.World.{counted, ending}
use Rattle.pli_meaning.specs.StorageState.{State}
use Rattle.pli_meaning.specs.Control.{Meaning, act, finish, ◌>>◌}
use Rattle.pli_meaning.specs.Raising.{Around}
use Rattle.pli_meaning.specs.Executing as M
use Rattle.pli_serving.specs.ServiceState.{Services}
use Rattle.pli_serving.specs.Answers as N
use Rattle.pli_serving.specs.Answers.{Ends}
use Rattle.pli_serving.specs.ActsAndEnds as W
use Rattle.pli_coding.specs.Registers.{a0, a1, a7}
use Rattle.pli_coding.specs.Assembly.{Plain, size_of}
use Rattle.pli_coding.specs.Instructions.{small}
use Rattle.pli_coding.specs.Allocating.{act_code}
use Rattle.pli_coding.specs.Environments.{Environment}
use Rattle.pli_coding.specs.Statements.{stmt_code}
use Rattle.pli_coding.specs.Linking.{Links}
use Rattle.pli_headline.specs.ProvedSoFar.{Names, Types}
use Rattle.run_steps.specs.Engine.{Base}
use Rattle.run_steps.proofs.Linking.{size_append}
use Rattle.run_steps.specs.Items.{Linked, At}
use Rattle.run_steps.proofs.Items.{straight}
use Rattle.run_steps.specs.Bodies.{Ground, Known}
use Rattle.run_steps.proofs.Bodies.{zero_is}
use Rattle.run_steps.proofs.Jumps.{front_of, back_of}
use Rattle.run_steps.specs.Temporaries.{nothing}
use Rattle.run_steps.specs.Calls.{Calling}
use Rattle.run_steps.proofs.Calls.{comes_finish, called, end_pauses, call_ends, acts}
use Rattle.pli_headline.proofs.Serving.{Serving}
use Rattle.pli_headline.proofs.Raising.{small_is}
use Rattle.pli_headline.proofs.Acts.{act_piece}
use Rattle.pli_headline.proofs.Statements.{Block, Does}
use Rattle.run_steps.specs.Reach.{Family, Aims, Comes, Closed, cost}
use Rattle.run_steps.proofs.Reach.{before_closed, comes_on, onward}

-- the run ends at once, whatever credits are left of an act
stop_piece : {X : Type 0} {links : Links} {code : List Instr} {i : ℕ} {g : Ground} {v : Services} {h t : ℕ → ℕ} {s : State} {aims : Aims X} (closed : Closed code aims) (credits : ℕ) (f : Family) (k line : ℕ) → credits + 3 < cost code → Linked links code i (small a0 1 ∷ small a1 0 ∷ small a7 2 ∷ Plain I.Ecall ∷ []) → Serving k s v line → ((b : Base) → At b i (Known g v h t nothing b) (f b)) → Comes code credits f v aims (finish {R = X} E.Stopped k s)
stop_piece {code = code} {i = i} {g = g} {v = v} {h = h} {t = t} {s = s} closed credits f k line few l serving at =
    let front = small a0 1 ∷ small a1 0 ∷ small a7 2 ∷ [] in
    let last = Plain I.Ecall ∷ [] in
    let r = straight credits f v v (λ b. Known g v h t (λ b'. (10, 1) ∷ (11, 0) ∷ (17, 2) ∷ []) b) (front_of front last l) (omega arith) (λ b. (at b).pc)
    (λ b. let o = (at b).holds in let z = zero_is o.body in record {
      body = record { services = o.body.services; registers = o.body.registers; bytes = o.body.bytes; memory = o.body.memory };
      regs = (small_is _ 1 z (lit< tt), (small_is _ 0 z (lit< tt), (small_is _ 2 z (lit< tt), tt)));
    }) in
    onward closed r (λ f' at'.
    let v' = N.with_world (ending E.Stopped v.world) v in
    let calling : Calling _ code (i + 3) f' (λ b. Ends v') = record {
      linked = back_of front last l;
      pc = λ b. (at' b).pc;
      answers = λ b.
          let o = (at' b).holds in
          called code (f' b) v 2 1 0 _ _ _ (λ call x0 x1 x2 x3 x4. W.end_served call x0 x1) o.body.services o.regs.1.1.0 o.regs.0 o.regs.1.0 refl refl refl (λ call x. refl)
          ∙ acts v k (Ends v') serving.allowed serving.fits;
    } in
    comes_finish v' E.Stopped k s serving.world (ap (ending E.Stopped) serving.world)
    (end_pauses (credits + 3) f' v v' few serving.running (λ b. (at' b).holds.body.services) (add-one v.world.acts) calling)
    (call_ends (credits + 3) f' v v' (λ e. cc e) calling))

pub stop_does : {e : Environment} {block : Names} {types : Types} (bl : Block e block types) (links : Links) (code : List Instr) (around : Around) (line : ℕ) → line < 2 ^ 31 → Does bl links code around.turns (stmt_code e bl.taken (Y.Stop line)) (M.statement around (Y.Stop line))
unfolding M.statement ◌>>◌
stop_does bl links code around line fits =
    record {
      does = λ {i} {s} {v} {h} {t} {aims} closed old n f k l serving all at goal more.
          let a = act_code line in
          let c = small a0 1 ∷ small a1 0 ∷ small a7 2 ∷ Plain I.Ecall ∷ [] in
          let size = size_append a c in
          let inside = l.inside in
          let next' : Unit {0} → Meaning (Unit {0}) = λ u. finish E.Stopped in
          comes_on k (act counted k s) next'
          (act_piece (before_closed k next' closed) f line old k fits (front_of a c l) serving at
          (λ f1 serving1 at1.
          stop_piece closed (i + size_of a) f1 k line (omega (arith, inside, size)) (back_of a c l) serving1 at1));
    }
