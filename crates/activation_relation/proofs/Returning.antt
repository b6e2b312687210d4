-- A block that ends has left all but storage as it was: later points, and the machine of the block below.
use Rattle.std.proofs.Common.{◌≡◌, ℕ, ◌+◌, ◌*◌, ◌<◌, ◌≤◌, List, [], ◌∷◌, ◌++◌, length, refl, sym}
use Rattle.std.proofs.Common.{None, ap, ◌∙◌, subst, arith}
use Rattle.std.specs.Prelude.{cond, nat_lt, drop}
use Rattle.rv_meaning.specs.Machine as V
use Rattle.rv_meaning.specs.Memory.{load}
use Rattle.pli_meaning.specs.World.{World}
use Rattle.pli_meaning.specs.StorageState.{Activation, automatic_in_use}
use Rattle.pli_serving.specs.ServiceState as S
use Rattle.pli_coding.specs.Frames.{return_address, saved_register}
use Rattle.pli_coding.specs.Registers.{held, held_registers}
use Rattle.storage_relation.specs.Served.{Holds}
use Rattle.activation_relation.specs.Layers.{Layer, Point, now}
use Rattle.activation_relation.specs.Changes.{popped, popped_from}
use Rattle.activation_relation.specs.Entering.{Later, GoesBelow, HoldsBefore, BlockEnd}
use Rattle.activation_relation.specs.FrameLaws.{restored}
use Rattle.activation_relation.specs.Frames.{FramesStand, AreLaid, place_from}
use Rattle.activation_relation.specs.Chains.{AreActive}
use Rattle.activation_relation.specs.Landing.{Resumes, resumed, with_units}
use Rattle.activation_relation.specs.Remaining.{Remains}
use Rattle.activation_relation.specs.Points.{Surroundings, Stands, IsAt}
use Rattle.activation_relation.proofs.Blocks.{newest_of}
use Rattle.activation_relation.proofs.PointSteps.{left_memory}
use Rattle.activation_relation.proofs.Remaining.{in_use_remains, remains_left, remains_same, remains_then}
use Rattle.activation_relation.proofs.Unwinding.{activations_ended, kept_behind}
use Rattle.activation_relation.proofs.WaitingWords.{back_found, top_found, registers_back}

pub later_same : (p : Point) → Later p p
later_same p =
    record {
      activations = refl;
      layers = refl;
      edits = refl;
      waiting = refl;
      acts = omega arith;
      remains = remains_same p;
    }

pub later_then : (p q r : Point) → Later p q → Later q r → Later p r
later_then p q r a b =
    let m = a.acts in
    let n = b.acts in
    record {
      activations = b.activations ∙ a.activations;
      layers = b.layers ∙ a.layers;
      edits = b.edits ∙ a.edits;
      waiting = b.waiting ∙ a.waiting;
      acts = omega (arith, m, n);
      remains = remains_then p q r a.remains b.remains;
    }

-- the newest block has the height above those below it
newest_height_is :
    (w : Surroundings) (q : Point) (acts : ℕ) (a : Activation) (as' : List Activation) (φ : Layer) (φs : List Layer) →
    (r : Resumes w acts a as' φ φs q) → (with_units r.own a).height ≡ length as' + 1
newest_height_is w q acts a as' φ φs r =
    let active = subst (λ xs. AreActive w.units xs (resumed r.changed φ ∷ φs)) r.activations
    (subst (λ ls. AreActive w.units q.state.activations ls) r.layers r.stands.active) in
    let height = active.0.height in
    omega (arith, height)

pub left_later :
    (w : Surroundings) (p q : Point) (acts : ℕ) (a : Activation) (φ : Layer) (kept : List S.Entry) → Stands w p →
    p.state.world.acts ≤ acts → φ.edits ≡ p.control.edits → p.control.waiting ≡ None → Remains p q →
    Resumes w acts a p.state.activations φ p.control.layers q → Later p (popped kept q)
left_later w p q acts a φ kept stands few edits idle remains r =
    let left' = remains_left p q (with_units r.own a) p.state.activations kept remains r.activations stands.low
    (newest_height_is w q acts a p.state.activations φ p.control.layers r) (omega arith) in
    subst (λ ls. Remains p (popped_from kept ls q) → Later p (popped_from kept ls q)) (sym r.layers)
    (λ remains'. let k = ap (λ (x : World). x.acts) (kept_behind 1 q.state).world in
    let m = r.more in
    record {
      activations = activations_ended 1 q.state ∙ ap (drop 1) r.activations;
      layers = refl;
      edits = edits;
      waiting = r.idle ∙ sym idle;
      acts = omega (arith, few, k, m);
      remains = remains';
    })
    left'

-- as much is in use as before
pub in_use_later :
    (w : Surroundings) (p q : Point) → Stands w p → Stands w q → Later p q →
    automatic_in_use q.state.living ≡ automatic_in_use p.state.living
in_use_later w p q before after later =
    in_use_remains p q later.remains (ap (λ (as' : List Activation). length as') later.activations) before.low after.low

pub left_entries :
    (w : Surroundings) (q : Point) (acts : ℕ) (a : Activation) (as' : List Activation) (φ : Layer)
    (φs : List Layer) (kept : List S.Entry) → Resumes w acts a as' φ φs q →
    (popped kept q).control.entries ≡ kept ++ φ.entries
left_entries w q acts a as' φ φs kept r = ap (λ ls. (popped_from kept ls q).control.entries) r.layers

-- ---- the machine

-- the frames with the newest one named
newest_frames :
    (w : Surroundings) (q : Point) (base : ℕ) (m : List ℕ) (φ : Layer) (φs : List Layer) → Stands w q →
    (e : q.control.layers ≡ φ ∷ φs) → FramesStand w.parts base m q.state.activations q.control.layers →
    (a : Activation) × (as' : List Activation) × FramesStand w.parts base m (a ∷ as') (φ ∷ φs)
newest_frames w q base m φ φs h e frames =
    let n = newest_of w.units q φ φs h.active e in (
      n.activation,
      n.others,
      subst (λ xs. FramesStand w.parts base m xs (φ ∷ φs)) n.first
          (subst (λ ls. FramesStand w.parts base m q.state.activations ls) e frames),
    )

pub machine_below :
    (w : Surroundings) (q : Point) (e : BlockEnd) (base : ℕ) (s t : V.State) → Stands w q →
    q.control.layers ≡ e.layer ∷ e.others → IsAt w q e.after e.index base s → HoldsBefore e.layer e.before e.after →
    GoesBelow e.layer base s t → t.pc ≡ base + 4 * e.back → IsAt w (popped e.kept q) e.before e.back base t
machine_below w q e base s t h newest at is goes pc =
    subst (λ ls. IsAt w (popped_from e.kept ls q) e.before e.back base t) (sym newest)
    (record {
      pc = pc;
      frame = goes.frame ∙ f.2.0.below;
      top = goes.top ∙ ap (λ n. base + n) (top_found w.parts φ φs laid);
      registers = λ n less. goes.registers n less ∙ same n less
          ∙ registers_back w.parts base s.memory f.0 f.1 φ φs e.before e.after f.2 (is.saved, is.others) n;
      room = subst (λ m. w.parts.stack_end ≤ length m) (sym goes.memory) at.room;
      frames =
          subst (λ m. FramesStand w.parts base m p.state.activations φs) (sym goes.memory) left.1;
      storage = subst (λ m. Holds (now p m)) (sym goes.memory) left.0;
    })
  where
    φ : Layer
    φ = e.layer

    φs : List Layer
    φs = e.others

    p : Point
    p = popped_from e.kept (φ ∷ φs) q

    f : (a : Activation) × (as' : List Activation) × FramesStand w.parts base s.memory (a ∷ as') (φ ∷ φs)
    f = newest_frames w q base s.memory φ φs h newest at.frames

    laid : AreLaid w.parts (φ ∷ φs)
    laid = subst (AreLaid w.parts) newest h.laid

    left : Holds (now p s.memory) × FramesStand w.parts base s.memory p.state.activations p.control.layers
    left =
        subst (λ ls. Holds (now (popped_from e.kept ls q) s.memory)
        × FramesStand w.parts base s.memory (popped_from e.kept ls q).state.activations
        (popped_from e.kept ls q).control.layers) newest
        (left_memory w q base s.memory φ φs e.kept (h, at.storage, at.frames) newest)

    same :
        (n : ℕ) → n < held_registers →
        cond (nat_lt n φ.saved) (load 4 s.memory (place_from φ.at (saved_register n))) (V.value s (held n))
        ≡ restored φ s.memory e.after n
    same n less =
        ap (λ x. cond (nat_lt n φ.saved) (load 4 s.memory (place_from φ.at (saved_register n))) x)
        (at.registers n less)

pub procedure_back :
    (w : Surroundings) (q : Point) (φ : Layer) (φs : List Layer) (after : ℕ → ℕ) (index base : ℕ) (s : V.State) →
    q.control.layers ≡ φ ∷ φs → φ.kind ≡ S.ProcedureBlock → IsAt w q after index base s →
    load 4 s.memory (place_from φ.at return_address) ≡ base + 4 * φ.back
procedure_back w q φ φs after index base s newest kind at =
    by q.state.activations (subst (λ ls. FramesStand w.parts base s.memory q.state.activations ls) newest at.frames)
  where
    by :
        (as' : List Activation) → FramesStand w.parts base s.memory as' (φ ∷ φs) →
        load 4 s.memory (place_from φ.at return_address) ≡ base + 4 * φ.back
    by [] frames = absurd frames
    by (a ∷ as') frames = back_found w.parts base s.memory a as' φ φs frames kind
