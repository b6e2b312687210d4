-- GOTO to a label of a block further out: the blocks inside it end, and it goes on there.
use Rattle.std.proofs.Common.{◌≡◌, ℕ, zero, suc, ◌+◌, ◌*◌, ◌^◌, ◌<◌, ◌≤◌, List, [], ◌∷◌, ◌++◌, inl, inr, length}
use Rattle.std.proofs.Common.{Bool, true, false, refl, sym, ap, ◌∙◌, subst, arith}
use Rattle.std.proofs.lemmas.Bool.{lt-ltb, ltb-true}
use Rattle.std.proofs.lemmas.List.{append_assoc}
use Rattle.std.specs.Prelude.{pos, cond, drop, nat_lt}
use Rattle.rv_meaning.specs.declared.instr.Instr.{Instr}
use Rattle.rv_meaning.specs.declared.instr.Instr.TheVariants as I
use Rattle.rv_meaning.specs.declared.instr.ImmediateOp.TheVariants as Imm
use Rattle.rv_meaning.specs.Words.{word, sum}
use Rattle.pli_typing.specs.TypedTree as Y
use Rattle.pli_meaning.specs.Control.{Label, Meaning, act, jumps, looked, ◌>>=◌, ◌>>◌}
use Rattle.pli_meaning.specs.Executing as M
use Rattle.pli_meaning.specs.StorageState.{State, ancestor, ancestor_at, height_of, newest_height}
use Rattle.pli_meaning.specs.World.{World, counted}
use Rattle.pli_serving.specs.ServiceState.{Services}
use Rattle.pli_coding.specs.Allocating.{act_code}
use Rattle.pli_coding.specs.Assembly.{Code, JumpTo, LabelPlace, size_of}
use Rattle.pli_coding.specs.Environments.{block_around, none_taken}
use Rattle.pli_coding.specs.Frames.{frame_end}
use Rattle.pli_coding.specs.Instructions.{is_immediate, plus}
use Rattle.pli_coding.specs.Registers.{frame_register, held_registers, stack_register}
use Rattle.pli_coding.specs.Statements.{goto_code, goto_outer, stmt_code, unwound_to}
use Rattle.storage_relation.proofs.Holders.{eqb-other}
use Rattle.activation_relation.specs.Frames.{frame_under, upper_top}
use Rattle.activation_relation.specs.CodeStores.{most_levels}
use Rattle.activation_relation.specs.Landing.{closed, resumed}
use Rattle.activation_relation.specs.Layers.{Layer, Point, services_of}
use Rattle.activation_relation.specs.Points.{Stands, Surroundings}
use Rattle.activation_relation.specs.Remaining.{Remains}
use Rattle.activation_relation.proofs.Blocks.{same_length}
use Rattle.activation_relation.proofs.PointSteps.{unwound_stands}
use Rattle.activation_relation.proofs.Remaining.{remains_then}
use Rattle.activation_relation.proofs.Serials.{few_unwound}
use Rattle.activation_relation.proofs.Unwinding.{activations_ended, kept_behind}
use Rattle.run_steps.specs.Bodies.{Ground, Known}
use Rattle.run_steps.proofs.Bodies.{displaced_by, frame_is, lose_known, zero_is}
use Rattle.run_steps.specs.Engine.{Base}
use Rattle.run_steps.specs.Items.{At, Linked}
use Rattle.run_steps.proofs.Jumps.{back_of, front_of, jump_piece}
use Rattle.run_steps.proofs.Linking.{size_append}
use Rattle.run_steps.proofs.Numbers.{above_small, above_sum}
use Rattle.run_steps.proofs.Owing.{comes_owing, owing_closed, repaid}
use Rattle.run_steps.specs.Reach.{Family, Reach, reached}
use Rattle.run_steps.proofs.Reach.{before_closed, comes_on, reach_map, reach_then, reached_holds}
use Rattle.run_steps.specs.Temporaries.{nothing}
use Rattle.run_steps.proofs.Temporaries.{held_is}
use Rattle.image_runs.specs.Runs.{Whole}
use Rattle.block_runs.specs.Machines.{AreIn, IsIn, acted}
use Rattle.block_runs.proofs.FrameBeginnings.{stack_is, stack_put}
use Rattle.block_runs.proofs.Places.{bounds, ground_at}
use Rattle.block_runs.proofs.PointActs.{act_comes}
use Rattle.block_runs.proofs.PointGrounds.{StandsIn}
use Rattle.program_runs.specs.Statements.{Block, Does, HasAct, IsAmong, IsBegun, JumpsOut, LandsAt}
use Rattle.program_runs.specs.Statements.{Outer, outer_block, size_in, statement_aims}
use Rattle.program_runs.proofs.NewestBlocks.{newest_at}
use Rattle.program_runs.proofs.Statements.{acted_among}
use Rattle.begin_runs.specs.FarGotos.{Far, IsFar}
use Rattle.begin_runs.specs.Unwinding.{IsTarget, Target, unwound_point}
use Rattle.begin_runs.proofs.OuterPoints.{Dropped, closed_ended, closed_times, outer_dropped, remains_behind}
use Rattle.begin_runs.proofs.OuterPoints.{unwound_image}
use Rattle.begin_runs.proofs.Unwinding.{Going, drop_long, target_frame, target_ground, unwound_reach}

-- ---- the block further out, from a point of the running one

-- the point, and the numbers in registers
pub record Leaving : Type 0 where
  pub block : Block
  pub behind : ℕ
  pub outer : Outer
  pub rest : List Outer
  pub level : ℕ
  pub point : Point
  pub numbers : ℕ → ℕ

pub record IsLeaving (z : Leaving) : Type 0 where
  pub begun : IsBegun z.block
  pub among : IsAmong z.block z.numbers z.point
  pub there : drop z.behind z.block.outers ≡ z.outer ∷ z.rest
  pub inner : z.level < z.block.call.beginning.layer.level
  pub few : z.block.call.beginning.layer.level < most_levels
  pub found : height_of (ancestor_at z.block.first.state z.level) ≡ length z.outer.point.state.activations + 1

abbrev pub outer_of : Leaving → Block
outer_of z = outer_block z.block.call.surroundings z.block.call.code z.outer z.rest

pub dropped :
    (z : Leaving) → IsLeaving z →
    Dropped z.block.call.surroundings z.block.call.code z.block.call.point z.behind z.outer
dropped z h =
    outer_dropped z.block.call.surroundings z.block.call.code z.block.outers z.block.call.point z.behind z.outer z.rest
    h.begun.outer h.there

abbrev pub layer_of : (z : Leaving) → IsLeaving z → Layer
layer_of z h = resumed (dropped z h).is.1.resumes.changed z.outer.beginning.layer

pub layers_there :
    (z : Leaving) (h : IsLeaving z) →
    drop (suc z.behind) z.point.control.layers ≡ layer_of z h ∷ z.outer.point.control.layers
layers_there z h =
    let d = dropped z h in
    ap (drop (suc z.behind)) (newest_at h.begun h.among).layers ∙ d.layers ∙ d.is.1.resumes.layers

pub activations_there :
    (z : Leaving) (h : IsLeaving z) → drop (suc z.behind) z.point.state.activations ≡ z.outer.first.state.activations
activations_there z h =
    ap (drop (suc z.behind)) (newest_at h.begun h.among).active ∙ (dropped z h).activations

abbrev pub target_of : (z : Leaving) → IsLeaving z → Target
target_of z h =
    record {
      count = suc z.behind;
      level = z.level;
      layer = layer_of z h;
      others = z.outer.point.control.layers;
    }

pub is_target :
    (z : Leaving) (h : IsLeaving z) →
    IsTarget z.block.call.surroundings z.block.call.code z.point (target_of z h)
is_target z h =
    let n = newest_at h.begun h.among in
    let inner = h.inner in
    let few = h.few in
    let own = n.own in
    let r = (dropped z h).is.1.resumes in
    let same = same_length z.block.call.surroundings.units z.outer.first.state.activations
    z.outer.first.control.layers r.stands.active in
    let n0 = ap (λ ls. length ls) r.layers in
    let n1 = ap (λ as'. length as') r.activations in
    record {
      stands = h.among.stands;
      image = h.among.image;
      there = layers_there z h;
      newest = n.layer;
      below = z.block.call.point.control.layers;
      layers = n.layers;
      inner = omega (arith, inner, own);
      few = omega (arith, few, own);
      found = ap (λ xs. height_of (ancestor xs (newest_height xs) z.level)) h.among.later.activations
          ∙ h.found ∙ omega (arith, same, n0, n1);
    }

abbrev pub going_of : (z : Leaving) → IsLeaving z → Going
going_of z h =
    record {
      surroundings = z.block.call.surroundings;
      code = z.block.call.code;
      point = z.point;
      numbers = z.numbers;
      target = target_of z h;
    }

abbrev pub left_point : (z : Leaving) → IsLeaving z → Point
left_point z h = unwound_point (target_of z h) z.point

-- ---- what holds there

pub left_acts : (z : Leaving) (h : IsLeaving z) → (left_point z h).state.world.acts ≡ z.point.state.world.acts
left_acts z h = ap (λ (u : World). u.acts) (kept_behind (suc z.behind) z.point.state).world

pub left_remains : (z : Leaving) (h : IsLeaving z) → Remains z.outer.first (left_point z h)
left_remains z h =
    let d = dropped z h in
    let p = z.point in
    let r = d.is.1.resumes in
    let b = h.begun in
    let long = drop_long (suc z.behind) p.state.activations _ _ (activations_there z h ∙ r.activations) in
    let n = ap (λ as'. length as') r.activations in
    let left = remains_behind z.block.call.surroundings.units (suc z.behind) z.outer.first p p.state.activations
    p.control.layers
    (remains_then z.outer.first z.block.call.point p d.remains
    (remains_then z.block.call.point z.block.first p b.remains h.among.later.remains))
    refl h.among.stands.active (length z.outer.first.state.activations) (omega (arith, long, n)) r.stands.low
    (omega arith) in
    record {
      living = left.living;
      serials = left.serials;
      at = left.at;
      number = left.number;
      signatures = left.signatures;
      statics = left.statics;
      low = left.low;
      constants = left.constants;
      active = left.active;
      in_use = left.in_use;
    }

pub left_stands : (z : Leaving) (h : IsLeaving z) → Stands z.block.call.surroundings (left_point z h)
left_stands z h =
    unwound_stands z.block.call.surroundings z.point (suc z.behind) (layer_of z h) z.outer.point.control.layers []
    h.among.stands (layers_there z h)

-- registers that code may write are all there are
abbrev pub numbers_there : (z : Leaving) → IsLeaving z → ℕ → ℕ
numbers_there z h n = cond (nat_lt n held_registers) (z.numbers n) ((dropped z h).is.1.numbers n)

numbers_same : (z : Leaving) (h : IsLeaving z) (n : ℕ) → n < held_registers → z.numbers n ≡ numbers_there z h n
numbers_same z h n less =
    sym (ap (λ q. cond q (z.numbers n) ((dropped z h).is.1.numbers n)) (lt-ltb n held_registers less))

numbers_small : (z : Leaving) (h : IsLeaving z) (n : ℕ) → numbers_there z h n < 2 ^ 32
numbers_small z h n = by (nat_lt n held_registers)
  where
    by : (q : Bool) → cond q (z.numbers n) ((dropped z h).is.1.numbers n) < 2 ^ 32
    by true = h.among.words n
    by false = (dropped z h).is.1.among.words n

numbers_kept :
    (z : Leaving) (h : IsLeaving z) → held_registers ≤ z.outer.registers → (n : ℕ) → z.outer.registers ≤ n →
    numbers_there z h n ≡ z.outer.numbers n
numbers_kept z h all n more =
    by (nat_lt n held_registers) refl ∙ (dropped z h).is.1.among.others n more
  where
    by :
        (q : Bool) → nat_lt n held_registers ≡ q →
        cond q (z.numbers n) ((dropped z h).is.1.numbers n) ≡ (dropped z h).is.1.numbers n
    by true e =
        let less = ltb-true n held_registers e in
        absurd (omega (arith, all, more, less))
    by false e = refl

pub left_among :
    (z : Leaving) (h : IsLeaving z) → held_registers ≤ z.outer.registers →
    z.outer.first.control.entries ≡ z.outer.beginning.layer.entries →
    z.outer.first.control.edits ≡ z.outer.beginning.layer.edits →
    IsAmong (outer_of z) (numbers_there z h) (left_point z h)
left_among z h all entries edits =
    let d = dropped z h in
    let r = d.is.1.resumes in
    let b = h.begun in
    let first = d.acts in
    let call = b.resumes.more in
    let later = h.among.later.acts in
    let same = left_acts z h in
    record {
      stands = left_stands z h;
      image = unwound_image (target_of z h) h.among.image;
      later = record {
        activations = activations_ended (suc z.behind) z.point.state ∙ activations_there z h;
        layers = layers_there z h ∙ sym r.layers;
        edits = sym edits;
        waiting = h.among.later.waiting ∙ b.resumes.idle ∙ sym r.idle;
        acts = omega (arith, first, call, later, same);
        remains = left_remains z h;
      };
      few = few_unwound z.block.call.surroundings z.point (suc z.behind) (layer_of z h) [] h.among.few;
      entries = sym entries;
      others = numbers_kept z h all;
      words = numbers_small z h;
    }

-- ---- the code

far_coded :
    (k : Block) (x : Far) → IsFar k x →
    goto_code k.environment x.level x.label
    ≡ unwound_to x.level 0
    ++ (plus stack_register frame_register
    (pos (frame_end k.environment.parts k.environment.program (block_around k.environment x.level) x.level))
    ++ (JumpTo (LabelPlace x.outer.environment.block x.label) ∷ []))
far_coded k x h =
    let e = k.environment in
    let own = h.own in
    let inner = h.inner in
    let back = plus stack_register frame_register
    (pos (frame_end e.parts e.program (block_around e x.level) x.level)) in
    let jump : ℕ → Code = λ n. JumpTo (LabelPlace n x.label) ∷ [] in
    ap (λ q. cond q [] (goto_outer e x.level) ++ jump (block_around e x.level))
    (eqb-other x.level e.level (omega (arith, own, inner)))
    ∙ ap (λ n. goto_outer e x.level ++ jump n) h.block
    ∙ append_assoc (unwound_to x.level 0) back (jump x.outer.environment.block)

-- the stack goes back to the end of the frame
abbrev end_ground : (k : Going) → (h : IsTarget k.surroundings k.code k.point k.target) → (n : ℕ) → Ground
end_ground k h n =
    ground_at k.target.layer.at (k.target.layer.at + n) (target_frame k h)
    (λ b m. StandsIn k.surroundings (unwound_point k.target k.point) b m)

stack_goes :
    (k : Going) (h : IsTarget k.surroundings k.code k.point k.target) (n : ℕ) {i : ℕ} (c : ℕ) (f : Family) →
    k.target.layer.at + n ≤ 15 * 2 ^ 20 →
    Linked k.surroundings.links k.code i (plus stack_register frame_register (pos n)) →
    ((b : Base) → At b i (Known (target_ground k h) (services_of (unwound_point k.target k.point)) k.numbers (λ j. 0)
    nothing b) (f b)) →
    Reach k.code c f (services_of (unwound_point k.target k.point))
    (c + size_of (plus stack_register frame_register (pos n))) (services_of (unwound_point k.target k.point))
    (λ b y. At b (i + size_of (plus stack_register frame_register (pos n))) (Known (end_ground k h n)
    (services_of (unwound_point k.target k.point)) k.numbers (λ j. 0) nothing b) y)
stack_goes k h n c f few l there =
    let v = services_of (unwound_point k.target k.point) in
    let at = k.target.layer.at in
    let frame = target_frame k h in
    let room = frame.room in
    let g = target_ground k h in
    let g' = end_ground k h n in
    displaced_by (is_immediate (pos n)) c f (λ s d. I.Immediate Imm.Add stack_register s d) frame_register (pos n)
    (λ b. b.at + at) (Known g v k.numbers (λ j. 0) nothing) (Known g' v k.numbers (λ j. 0) nothing)
    (above_small n (omega (arith, few)))
    (λ b. let v' = b.valid.1 in omega (arith, v', room))
    (λ y u. refl) (λ b. frame_is (there b).holds.body) (omega arith)
    (record {
      does = λ b j y s d o e. record {
        body = record {
          services = o.body.services;
          registers = stack_put g g' b k.numbers y.machine.registers (sum (y.machine.registers s.index) (word d))
              o.body.registers refl (e ∙ above_sum b.at at n b.valid.1 (omega (arith, few)));
          bytes = o.body.bytes;
          memory = o.body.memory;
        };
        regs = tt;
      };
      lost = λ b y u j o. lose_known y 31 u j
          (record { reserved_stay = λ y' u'. refl; known_stay = λ b' y' u' o'. o'; set = λ y' u'. refl }) o;
    })
    l there

-- ---- it comes to the label

-- where the stack is the one that its layer has
in_left :
    (z : Leaving) (h : IsLeaving z) (n index : ℕ) (b : Base) (y : Whole) → (layer_of z h).at + n ≡ (layer_of z h).top →
    At b index (Known (end_ground (going_of z h) (is_target z h) n) (services_of (left_point z h)) z.numbers (λ j. 0)
    nothing b) y →
    IsIn z.block.call.surroundings (left_point z h) (numbers_there z h) index b y
in_left z h n index b y top o =
    let w = z.block.call.surroundings in
    let body = o.holds.body in
    let g = end_ground (going_of z h) (is_target z h) n in
    let last = h.among.image.parts.inside in
    let bytes = body.bytes in
    record {
      services = body.services;
      at = record {
        pc = o.pc;
        frame = frame_is body ∙ ap (λ ls. b.at + frame_under w.parts ls) (sym (layers_there z h));
        top = stack_is g b z.numbers y.machine.registers body.registers
            ∙ ap (λ j. b.at + j) top
            ∙ ap (λ ls. b.at + upper_top w.parts ls) (sym (layers_there z h));
        registers = λ j less. held_is j g b z.numbers y.machine.registers less body.registers ∙ numbers_same z h j less;
        room = omega (arith, bytes, last);
        frames = body.memory.frames;
        storage = body.memory.storage;
      };
      zero = zero_is body;
      bytes = body.bytes;
    }

abbrev leaving_of : Block → Far → Point → (numbers : ℕ → ℕ) → Leaving
leaving_of k x p numbers =
    record {
      block = k;
      behind = x.behind;
      outer = x.outer;
      rest = x.rest;
      level = x.level;
      point = p;
      numbers = numbers;
    }

is_leaving :
    (k : Block) (x : Far) (p : Point) (numbers : ℕ → ℕ) → IsFar k x → IsAmong k numbers p →
    IsLeaving (leaving_of k x p numbers)
is_leaving k x p numbers h o =
    record { begun = h.begun; among = o; there = h.there; inner = h.inner; few = h.few; found = h.found }

abbrev end_offset : Block → Far → ℕ
end_offset k x = frame_end k.environment.parts k.environment.program (block_around k.environment x.level) x.level

top_there :
    (k : Block) (x : Far) (p : Point) (numbers : ℕ → ℕ) (h : IsFar k x) (o : IsAmong k numbers p) →
    (layer_of (leaving_of k x p numbers) (is_leaving k x p numbers h o)).at + end_offset k x
    ≡ (layer_of (leaving_of k x p numbers) (is_leaving k x p numbers h o)).top
top_there k x p numbers h o =
    let r = (dropped (leaving_of k x p numbers) (is_leaving k x p numbers h o)).is.1.resumes in
    let parts = k.call.surroundings.parts in
    sym (subst (λ ls. upper_top parts ls ≡ frame_under parts ls + end_offset k x) r.layers h.top)

far_reach :
    (k : Block) (x : Far) (index c : ℕ) (f : Family) {numbers : ℕ → ℕ} {p : Point} (h : IsFar k x)
    (o : IsAmong k numbers p) →
    Linked k.call.surroundings.links k.call.code index
    (unwound_to x.level 0 ++ (plus stack_register frame_register (pos (end_offset k x))
    ++ (JumpTo (LabelPlace x.outer.environment.block x.label) ∷ []))) →
    AreIn k.call.surroundings p numbers index f →
    Reach k.call.code c f (services_of p)
    (c + size_of (unwound_to x.level 0) + size_of (plus stack_register frame_register (pos (end_offset k x))) + 2)
    (services_of (left_point (leaving_of k x p numbers) (is_leaving k x p numbers h o)))
    (λ b y. IsIn k.call.surroundings (left_point (leaving_of k x p numbers) (is_leaving k x p numbers h o))
    (numbers_there (leaving_of k x p numbers) (is_leaving k x p numbers h o)) x.at b y)
far_reach k x index c f {numbers} {p} h o l there =
    let w = k.call.surroundings in
    let z = leaving_of k x p numbers in
    let is = is_leaving k x p numbers h o in
    let g = going_of z is in
    let t = is_target z is in
    let n = end_offset k x in
    let first = unwound_to x.level 0 in
    let back = plus stack_register frame_register (pos n) in
    let jump = JumpTo (LabelPlace x.outer.environment.block x.label) ∷ [] in
    let l1 = back_of first (back ++ jump) l in
    let top = top_there k x p numbers h o in
    let laid = (left_stands z is).laid in
    let parts = h.begun.resumes.stands in
    let high = (bounds w.parts (left_point z is).control.layers laid).high in
    let free = (bounds w.parts (left_point z is).control.layers laid).free in
    let inside = o.image.parts.inside in
    let up = ap (λ ls. upper_top w.parts ls) (layers_there z is) in
    let r1 = unwound_reach g t c f (front_of first (back ++ jump) l) there in
    let r2 = stack_goes g t n (c + size_of first) (reached r1) (omega (arith, top, up, high, free, inside))
    (front_of back jump l1) (reached_holds r1) in
    let r3 = jump_piece (c + size_of first + size_of back) (c + size_of first + size_of back + 2) (reached r2)
    (LabelPlace x.outer.environment.block x.label) x.at (omega arith) h.place h.near
    (record { reserved_stay = λ y u. refl; known_stay = λ b y u q. q; set = λ y u. refl }) (back_of back jump l1)
    (reached_holds r2) in
    reach_map _ (reach_then r1 (reach_then r2 r3)) (λ b y q. in_left z is n x.at b y top q)

-- ---- the statement

outs_at :
    (w : Surroundings) (code : List Instr) (os : List Outer) (n : ℕ) (o : Outer) (rest : List Outer) {acts c : ℕ}
    {f : Family} {v : Services} {height : ℕ} {label : Label} (s : State) → drop n os ≡ o ∷ rest →
    LandsAt (outer_block w code o rest) o.labels acts c f v height label (closed_times n s) →
    JumpsOut w code os acts c f v height label s
outs_at w code [] zero o rest s e lands = absurd (cc e)
outs_at w code [] (suc n) o rest s e lands = absurd (cc e)
outs_at w code (x ∷ os) zero o rest {acts} {c} {f} {v} {height} {label} s e lands =
    subst (λ xs. JumpsOut w code xs acts c f v height label s) (sym e) (inl lands)
outs_at w code (x ∷ os) (suc n) o rest s e lands = inr (outs_at w code os n o rest (closed s) e lands)

pub far_does :
    (k : Block) (labels : List Label) (x : Far) (line index left' : ℕ) → HasAct k line → IsFar k x →
    Linked k.call.surroundings.links k.call.code index
    (stmt_code k.environment none_taken (Y.Goto x.level x.label line)) →
    Does k labels (Y.Goto x.level x.label line) index left'
unfolding M.statement ◌>>=◌ ◌>>◌ looked jumps
far_does k labels x line index left' a h l p numbers c wanted f o paid there =
    let w = k.call.surroundings in
    let stmt = Y.Goto x.level x.label line in
    let one = act_code line in
    let first = unwound_to x.level 0 in
    let back = plus stack_register frame_register (pos (end_offset k x)) in
    let jump = JumpTo (LabelPlace x.outer.environment.block x.label) ∷ [] in
    let e = ap (λ u. one ++ u) (far_coded k x h) in
    let l' = subst (Linked w.links k.call.code index) e l in
    let n0 = ap (λ u. size_of u) e in
    let n1 = size_append one (first ++ (back ++ jump)) in
    let n2 = size_append first (back ++ jump) in
    let n3 = size_append back jump in
    let debt = size_of first + size_of back + 2 in
    let aims = statement_aims k labels p.state.world.acts (index + size_in k stmt) wanted left' in
    let next' : Unit {0} → Meaning (Unit {0}) =
    λ u. looked >>= (λ s. jumps (height_of (ancestor_at s x.level)) x.label) in
    comes_owing debt (M.statement k.around stmt w.acts p.state)
    (comes_on w.acts (act counted w.acts p.state) next'
    (act_comes (before_closed w.acts next' (owing_closed k.call.code debt aims)) line (c + debt) 0 f
    (o.stands, o.image) (a.line_fits, a.acts, omega (arith, paid, n0, n1, n2, n3))
    (front_of one (first ++ (back ++ jump)) l') there
    (λ g less at.
    let o' = acted_among line o less in
    let p' = acted line p in
    let z = leaving_of k x p' numbers in
    let is = is_leaving k x p' numbers h o' in
    let r = far_reach k x (index + size_of one) 0 g h o' (back_of one (first ++ (back ++ jump)) l') at in
    let more = left_acts z is in
    record {
      to = λ early i0 f0 v0 from. record {
        to = inr (outs_at w k.call.code k.outers x.behind x.outer x.rest (closed p'.state) h.there
            (record {
              own = ap (λ xs. height_of (ancestor xs (newest_height xs) x.level)) o'.later.activations ∙ h.found;
              carried = h.carried;
              point = left_point z is;
              numbers = numbers_there z is;
              among = left_among z is h.registers h.entries h.edits;
              more = omega (arith, more);
              state = closed_ended (suc x.behind) p'.state;
              index = x.at;
              place = h.place;
              reach = repaid debt 0 (omega arith) r from;
            }));
      };
    })))
