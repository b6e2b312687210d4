-- The end of a unit goes on where its raise said, with the machine of the block below.
use Rattle.std.proofs.Common.{◌≡◌, ℕ, ◌+◌, ◌*◌, ◌≤◌, List, [], ◌∷◌, ◌++◌, refl, sym, ap, ◌∙◌, subst, arith}
use Rattle.std.specs.Prelude.{pos, neg_ℤ}
use Rattle.rv_meaning.specs.declared.instr.Instr.{Instr}
use Rattle.rv_meaning.specs.declared.instr.Instr.TheVariants as I
use Rattle.rv_meaning.specs.Words.{word, sum}
use Rattle.pli_serving.specs.Answers.{Done}
use Rattle.pli_serving.specs.Blocks as B
use Rattle.pli_coding.specs.Assembly.{BaseIn, Code, Plain, size_of}
use Rattle.pli_coding.specs.Entries.{frame_ended, registers_restored}
use Rattle.pli_coding.specs.Frames.{frame_below, temporary_bytes}
use Rattle.pli_coding.specs.Instructions.{add, load_word, plus, small}
use Rattle.pli_coding.specs.Registers.{a0, a7, frame_register, stack_register, u0, zero_register}
use Rattle.activation_relation.specs.Changes.{Keeps, popped}
use Rattle.activation_relation.specs.Entering.{BlockEnd}
use Rattle.activation_relation.specs.Frames.{frame_under, upper_top}
use Rattle.activation_relation.specs.Layers.{Point, services_of}
use Rattle.activation_relation.specs.Points.{Stands, Surroundings}
use Rattle.activation_relation.proofs.Blocks.{return_answered}
use Rattle.activation_relation.proofs.PointSteps.{stacks_over}
use Rattle.activation_relation.proofs.Returning.{machine_below}
use Rattle.run_steps.specs.Bodies.{Known}
use Rattle.run_steps.proofs.Bodies.{zero_is}
use Rattle.run_steps.specs.Calls.{Calling}
use Rattle.run_steps.proofs.Calls.{call_done, called}
use Rattle.run_steps.specs.Engine.{Base, address, most_code}
use Rattle.run_steps.specs.Items.{At, Linked}
use Rattle.run_steps.proofs.Items.{straight}
use Rattle.run_steps.proofs.Jumps.{back_of, front_of, hop, jump_register, linked_at}
use Rattle.run_steps.proofs.Linking.{size_append}
use Rattle.run_steps.specs.Reach.{Family, Reach, reached}
use Rattle.run_steps.proofs.Reach.{reach_map, reach_then, reach_with, reached_holds}
use Rattle.block_runs.specs.Machines.{AreIn, IsImage, IsIn}
use Rattle.block_runs.proofs.BlockEntries.{small_is}
use Rattle.block_runs.proofs.Endings.{Leaves, Leaving, back_at, below_ground, frame_back, goes_below, left_below}
use Rattle.block_runs.proofs.Endings.{numbers_back, own_ground, popped_services, registers_loaded, same_acts}
use Rattle.block_runs.proofs.Endings.{stack_back}
use Rattle.block_runs.proofs.PointGrounds.{call_is, registers_in}
use Rattle.unit_runs.specs.UnitBeginnings.{IsUnitEnding, unit_ending_code}

-- ---- a unit that ends, and the machines where the code of its end begins

pub record IsEnding (k : Leaving) : Type 0 where
  pub stands : Stands k.surroundings k.point
  pub image : IsImage k.surroundings k.code k.point
  pub is : IsUnitEnding k.point k.end
  pub there : (b : Base) → IsIn k.surroundings k.point k.end.after k.end.index b (k.first b)

leaves : {k : Leaving} → IsEnding k → Leaves k
leaves {k} h =
    record {
      stands = h.stands;
      image = h.image;
      newest = h.is.newest;
      holds = h.is.holds;
      texts = subst (Keeps 0 k.end.layer.entries k.point.control.entries) (sym h.is.kept) h.is.texts;
      there = h.there;
    }

-- ---- the services end the block, and say where it goes on

abbrev resume_regs : Leaving → Base → List (ℕ × ℕ)
resume_regs k b = (10, 4 * k.end.back) ∷ []

return_asked :
    (k : Leaving) (h : IsEnding k) (c : ℕ) →
    Linked k.surroundings.links k.code k.end.index (small a7 31 ∷ []) →
    Reach k.code c k.first (services_of k.point) (c + 1) (services_of k.point)
    (λ b y. At b (k.end.index + 1) (Known (own_ground k (leaves h)) (services_of k.point) k.end.after (λ n. 0)
    (λ b'. (17, 31) ∷ []) b) y)
return_asked k h c l =
    let v = services_of k.point in
    let g = own_ground k (leaves h) in
    let newest = h.is.newest in
    straight c k.first v v (λ b y. Known g v k.end.after (λ n. 0) (λ b'. (17, 31) ∷ []) b y) l (omega arith)
    (λ b. (h.there b).at.pc)
    (λ b.
    let o = h.there b in
    record {
      body = record {
        services = o.services;
        registers = registers_in g (sym (ap (frame_under k.surroundings.parts) newest))
            (sym (ap (upper_top k.surroundings.parts) newest)) o;
        bytes = o.bytes;
        memory = refl;
      };
      regs = (small_is _ 31 o.zero (omega arith), tt);
    })

return_called :
    (k : Leaving) (h : IsEnding k) {i : ℕ} (c : ℕ) (f : Family) →
    Linked k.surroundings.links k.code i (Plain I.Ecall ∷ []) →
    ((b : Base) → At b i (Known (own_ground k (leaves h)) (services_of k.point) k.end.after (λ n. 0)
    (λ b'. (17, 31) ∷ []) b) (f b)) →
    Reach k.code c f (services_of k.point) (c + 1) (popped_services k)
    (λ b y. At b (i + 1) (Known (own_ground k (leaves h)) (popped_services k) k.end.after (λ n. 0) (resume_regs k) b)
    y)
return_called k h {i} c f l there =
    let v = services_of k.point in
    let v' = popped_services k in
    let w = k.surroundings in
    let φ = k.end.layer in
    let g = own_ground k (leaves h) in
    let calling : Calling w.links k.code i f
    (λ b. Done v' (f b).machine.memory (4 * k.end.back) h.is.code) = record {
      linked = l;
      pc = λ b. (there b).pc;
      answers = λ b.
          let o = (there b).holds in
          let m = (f b).machine.memory in
          let x = (f b).machine.registers in
          called k.code (f b) v 31 (x 10) (x 11) (x 12) (x 13) (x 14) (λ call x0 x1 x2 x3 x4. B.return_served call)
          o.body.services o.regs.0 refl refl refl refl refl (λ call y. refl)
          ∙ ap (λ call. B.return_served call) (call_is w k.code k.point m h.image)
          ∙ return_answered w.units k.point m φ k.end.others h.is.code (4 * k.end.back)
          (record { active = h.stands.active; newest = h.is.newest; low = h.stands.low }) h.is.kind h.is.texts
          (stacks_over w k.point 0 φ k.end.others h.stands h.is.newest).1
          ∙ ap (λ kept. Done (services_of (popped kept k.point)) m (4 * k.end.back) h.is.code) (sym h.is.kept);
    } in
    call_done c f v v' (λ b. (f b).machine.memory) (λ b. 4 * k.end.back) (λ b. h.is.code)
    (λ b. Known g v' k.end.after (λ n. 0) (resume_regs k) b) (same_acts k (leaves h)) calling
    (λ b. let o = (there b).holds.body in
    record {
      body = record { services = refl; registers = o.registers; bytes = o.bytes; memory = o.memory };
      regs = (refl, tt);
    })

-- ---- and there it goes on

abbrev pub jump_on : Code
jump_on = BaseIn u0 ∷ add u0 u0 a0 ∷ Plain (I.JumpRegister zero_register u0 (pos 0)) ∷ []

resumed_sum : (b : Base) (x y resume : ℕ) → resume ≤ most_code → x ≡ b.at → y ≡ 4 * resume → sum x y ≡ address b resume
resumed_sum b x y resume near e f = let v = b.valid.1 in omega (arith, e, f, near, v)

address_sum : (b : Base) (x j : ℕ) → j ≤ most_code → x ≡ address b j → sum x (word (pos 0)) ≡ address b j
address_sum b x j near e = let v = b.valid.1 in omega (arith, e, near, v)

resumed_back :
    (k : Leaving) (h : IsEnding k) (to : Base → ℕ) {i : ℕ} (c : ℕ) (f : Family) →
    Linked k.surroundings.links k.code i jump_on →
    ((b : Base) → At b i (Known (below_ground k (leaves h)) (popped_services k) (numbers_back k) (λ j. 0)
    (back_at to (λ b'. 4 * k.end.back)) b) (f b)) →
    Reach k.code c f (popped_services k) (c + 4) (popped_services k)
    (λ b y. At b k.end.back (Known (below_ground k (leaves h)) (popped_services k) (numbers_back k) (λ j. 0)
    (back_at to (λ b'. 4 * k.end.back)) b) y)
resumed_back k h to {i} c f l there =
    let g = below_ground k (leaves h) in
    let v = popped_services k in
    let rs = back_at to (λ b'. 4 * k.end.back) in
    let adds = BaseIn u0 ∷ add u0 u0 a0 ∷ [] in
    let jump = Plain (I.JumpRegister zero_register u0 (pos 0)) ∷ [] in
    let lj = back_of adds jump l in
    let near = h.is.back in
    let r1 = straight c f v v
    (λ b y. Known g v (numbers_back k) (λ j. 0) (λ b'. (5, address b' k.end.back) ∷ rs b') b y)
    (front_of adds jump l) (omega arith) (λ b. (there b).pc)
    (λ b. let o = (there b).holds in (
      refl,
      record {
        body = record {
          services = o.body.services;
          registers = o.body.registers;
          bytes = o.body.bytes;
          memory = o.body.memory;
        };
        regs = (resumed_sum b _ _ k.end.back near refl o.regs.1.0, o.regs);
      },
    )) in
    let r2 = hop k.code (c + 3) (c + 4) (reached r1) v
    (λ b y. At b k.end.back (Known g v (numbers_back k) (λ j. 0) rs b) y) (omega arith)
    (λ b.
    let o = (reached_holds r1 b).holds in
    let small' = lj.small' in
    let inside = lj.inside in (
      _,
      jump_register k.code b (i + 3) k.end.back zero_register u0 (pos 0) (reached r1 b) (omega (arith, small', inside))
          (reached_holds r1 b).pc lj.has.0.0 (address_sum b _ k.end.back near o.regs.0),
      record {
        pc = refl;
        holds = record {
          body = record {
            services = o.body.services;
            registers = o.body.registers;
            bytes = o.body.bytes;
            memory = o.body.memory;
          };
          regs = o.regs.1;
        };
      },
    )) in
    reach_then r1 r2

-- ---- the whole end

pub unit_ends :
    (k : Leaving) (h : IsEnding k) (c : ℕ) →
    Linked k.surroundings.links k.code k.end.index (unit_ending_code k.end.layer) →
    Reach k.code c k.first (services_of k.point) (c + size_of (unit_ending_code k.end.layer)) (popped_services k)
    (λ b y. IsIn k.surroundings (popped k.end.kept k.point) k.end.before k.end.back b y)
unit_ends k h c l =
    let z = leaves h in
    let ask = small a7 31 ∷ [] in
    let call = Plain I.Ecall ∷ [] in
    let restores = registers_restored 0 k.end.layer.saved in
    let up = plus stack_register frame_register (neg_ℤ (pos (temporary_bytes k.end.layer.words))) in
    let below = load_word frame_register frame_register frame_below in
    let last = frame_ended k.end.layer.words ++ jump_on in
    let l1 = back_of ask (call ++ (restores ++ last)) l in
    let l2 = back_of call (restores ++ last) l1 in
    let l3 = back_of restores last l2 in
    let l4 = front_of (up ++ below) jump_on l3 in
    let n0 = size_append restores last in
    let n1 = size_append (up ++ below) jump_on in
    let n2 = size_append up below in
    let r1 = return_asked k h c (front_of ask (call ++ (restores ++ last)) l) in
    let r2 = return_called k h (c + 1) (reached r1) (front_of call (restores ++ last) l1) (reached_holds r1) in
    let g = reached r2 in
    let to : Base → ℕ = λ b. (g b).machine.registers 1 in
    let resume : Base → ℕ = λ b. 4 * k.end.back in
    let r3 = registers_loaded k z to resume k.end.layer.saved 0 k.end.after (c + 1 + 1) g (omega arith)
    (front_of restores last l2)
    (λ b. let o = reached_holds r2 b in record {
      pc = o.pc;
      holds = record { body = o.holds.body; regs = (refl, (o.holds.regs.0, tt)) };
    }) in
    let r4 = stack_back k z (numbers_back k) to resume (c + 1 + 1 + size_of restores) (reached r3)
    (front_of up below l4) (reached_holds r3) in
    let r5 = frame_back k z (numbers_back k) to resume (c + 1 + 1 + size_of restores + size_of up) (reached r4)
    (back_of up below l4) (reached_holds r4) in
    let r6 = resumed_back k h to (c + 1 + 1 + size_of restores + size_of up + 1) (reached r5)
    (linked_at _ jump_on (omega (arith, n2)) (back_of (up ++ below) jump_on l3)) (reached_holds r5) in
    reach_with (c + size_of (unit_ending_code k.end.layer)) (omega (arith, n0, n1, n2))
    (reach_map _ (reach_then r1 (reach_then r2 (reach_then r3 (reach_then r4 (reach_then r5 r6)))))
    (λ b y o. record {
      services = o.holds.body.services;
      at = machine_below k.surroundings k.point k.end b.at (k.first b).machine y.machine h.stands h.is.newest
          (h.there b).at h.is.holds (goes_below k z to resume b y o.holds) o.pc;
      zero = zero_is o.holds.body;
      bytes = o.holds.body.bytes;
    }))

pub unit_left_stands :
    (w : Surroundings) (code : List Instr) (q : Point) (e : BlockEnd) →
    Stands w q × IsImage w code q × IsUnitEnding q e → Stands w (popped e.kept q) × IsImage w code (popped e.kept q)
unit_left_stands w code q e known = left_below w code q e known.0 known.1 known.2.newest

pub units_end :
    (w : Surroundings) (code : List Instr) (q : Point) (e : BlockEnd) (credits : ℕ) (f : Family) →
    Stands w q × IsImage w code q × IsUnitEnding q e → AreIn w q e.after e.index f →
    Linked w.links code e.index (unit_ending_code e.layer) →
    Reach code credits f (services_of q) (credits + size_of (unit_ending_code e.layer))
    (services_of (popped e.kept q)) (λ b y. IsIn w (popped e.kept q) e.before e.back b y)
units_end w code q e credits f known there l =
    unit_ends (record { surroundings = w; code = code; point = q; end = e; first = f })
    (record { stands = known.0; image = known.1; is = known.2; there = there }) credits l
