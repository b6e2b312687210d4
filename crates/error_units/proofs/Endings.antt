-- The end of ERROR's unit goes on where its raise said, with the code of the raise beside it.
use Rattle.std.proofs.Common.{◌≡◌, ◌⊎◌, inl, inr, ℕ, zero, suc, ◌+◌, ◌*◌, ◌<◌, ◌≤◌, List, [], ◌∷◌, ◌++◌, Bool, true}
use Rattle.std.proofs.Common.{false, refl, sym, ap, ◌∙◌, subst, arith}
use Rattle.std.proofs.lemmas.Bool.{cases_lt, ltb-true}
use Rattle.std.proofs.lemmas.Bool.Decides.{nat_tests}
use Rattle.std.specs.Prelude.{◌==◌, cond, nat_lt, neg_ℤ, pos}
use Rattle.rv_meaning.specs.declared.instr.ImmediateOp.TheVariants as Imm
use Rattle.rv_meaning.specs.declared.instr.Instr.{Instr}
use Rattle.rv_meaning.specs.declared.instr.Instr.TheVariants as I
use Rattle.rv_meaning.specs.declared.instr.LoadKind.TheVariants as Load
use Rattle.rv_meaning.specs.Machine as V
use Rattle.rv_meaning.specs.Machine.{written}
use Rattle.rv_meaning.specs.Memory.{load}
use Rattle.rv_meaning.specs.Words.{sum, word}
use Rattle.image_runs.specs.Runs.{Whole}
use Rattle.pli_serving.specs.Answers.{Done}
use Rattle.pli_serving.specs.Blocks as B
use Rattle.pli_coding.specs.Assembly.{Plain, size_of}
use Rattle.pli_coding.specs.Entries.{frame_ended, registers_restored}
use Rattle.pli_coding.specs.Frames.{frame_below, saved_register, temporary_bytes}
use Rattle.pli_coding.specs.Instructions.{add, is_immediate, load_word, plus, small}
use Rattle.pli_coding.specs.Registers.{a0, a7, frame_register, held, stack_register, u0, zero_register}
use Rattle.pli_coding.specs.Assembly.{BaseIn, Code}
use Rattle.activation_relation.specs.Changes.{Keeps, popped}
use Rattle.activation_relation.specs.Entering.{GoesBelow}
use Rattle.activation_relation.specs.Frames.{frame_start, frame_under, upper_top}
use Rattle.activation_relation.specs.Layers.{services_of}
use Rattle.activation_relation.proofs.Blocks.{return_answered}
use Rattle.activation_relation.proofs.PointSteps.{stacks_over}
use Rattle.activation_relation.proofs.Returning.{machine_below}
use Rattle.run_steps.specs.Bodies.{Known, reserved}
use Rattle.run_steps.proofs.Bodies.{at_place, displaced_by, frame_is, lose_known, zero_is}
use Rattle.run_steps.specs.Calls.{Calling}
use Rattle.run_steps.proofs.Calls.{call_done, called}
use Rattle.run_steps.specs.Engine.{Base, address, most_code}
use Rattle.run_steps.specs.Items.{At, Linked}
use Rattle.run_steps.proofs.Items.{straight}
use Rattle.run_steps.proofs.Jumps.{back_of, front_of, hop, jump_register, linked_at}
use Rattle.run_steps.proofs.Linking.{size_append}
use Rattle.run_steps.proofs.Numbers.{below_small, below_sum}
use Rattle.run_steps.specs.Reach.{Family, Reach, reached}
use Rattle.run_steps.proofs.Reach.{reach_map, reach_then, reach_with, reached_holds, stay}
use Rattle.run_steps.proofs.Reaching.{reach_moved}
use Rattle.run_steps.specs.Temporaries.{put}
use Rattle.run_steps.proofs.Temporaries.{held_is, held_put, put_other, put_same}
use Rattle.block_runs.specs.Machines.{IsIn}
use Rattle.block_runs.proofs.BlockEntries.{small_is}
use Rattle.block_runs.proofs.Endings.{Leaves, Leaving, below_ground, frame_of_below, laid_there, leaving_ground}
use Rattle.block_runs.proofs.Endings.{memory_of, own_frame, own_ground, own_words, popped_services, same_acts}
use Rattle.block_runs.proofs.FrameBeginnings.{frame_put, stack_is, stack_put}
use Rattle.block_runs.proofs.Places.{word_in}
use Rattle.block_runs.proofs.PointGrounds.{call_is, registers_in}
use Rattle.unit_runs.specs.UnitBeginnings.{unit_ending_code}
use Rattle.unit_runs.proofs.UnitEndings.{IsEnding, jump_on}

-- ---- where it goes on, and the code

abbrev coded_at : (given code : ℕ) → Base → List (ℕ × ℕ)
coded_at given code b = (10, given) ∷ (11, code) ∷ []

abbrev coded_regs : {k : Leaving} → IsEnding k → Base → List (ℕ × ℕ)
coded_regs {k} h b = coded_at (4 * k.end.back) h.is.code b

leaves : {k : Leaving} → IsEnding k → Leaves k
leaves {k} h =
    record {
      stands = h.stands;
      image = h.image;
      newest = h.is.newest;
      holds = h.is.holds;
      texts = subst (Keeps 0 k.end.layer.entries k.point.control.entries) (sym h.is.kept) h.is.texts;
      there = h.there;
    }

return_asked :
    (k : Leaving) (h : IsEnding k) (c : ℕ) →
    Linked k.surroundings.links k.code k.end.index (small a7 31 ∷ []) →
    Reach k.code c k.first (services_of k.point) (c + 1) (services_of k.point)
    (λ b y. At b (k.end.index + 1) (Known (own_ground k (leaves h)) (services_of k.point) k.end.after (λ n. 0)
    (λ b'. (17, 31) ∷ []) b) y)
return_asked k h c l =
    let v = services_of k.point in
    let g = own_ground k (leaves h) in
    let newest = h.is.newest in
    straight c k.first v v (λ b y. Known g v k.end.after (λ n. 0) (λ b'. (17, 31) ∷ []) b y) l (omega arith)
    (λ b. (h.there b).at.pc)
    (λ b.
    let o = h.there b in
    record {
      body = record {
        services = o.services;
        registers = registers_in g (sym (ap (frame_under k.surroundings.parts) newest))
            (sym (ap (upper_top k.surroundings.parts) newest)) o;
        bytes = o.bytes;
        memory = refl;
      };
      regs = (small_is _ 31 o.zero (omega arith), tt);
    })

return_called :
    (k : Leaving) (h : IsEnding k) {i : ℕ} (c : ℕ) (f : Family) →
    Linked k.surroundings.links k.code i (Plain I.Ecall ∷ []) →
    ((b : Base) → At b i (Known (own_ground k (leaves h)) (services_of k.point) k.end.after (λ n. 0)
    (λ b'. (17, 31) ∷ []) b) (f b)) →
    Reach k.code c f (services_of k.point) (c + 1) (popped_services k)
    (λ b y. At b (i + 1) (Known (own_ground k (leaves h)) (popped_services k) k.end.after (λ n. 0) (coded_regs h) b)
    y)
return_called k h {i} c f l there =
    let v = services_of k.point in
    let v' = popped_services k in
    let w = k.surroundings in
    let φ = k.end.layer in
    let g = own_ground k (leaves h) in
    let calling : Calling w.links k.code i f
    (λ b. Done v' (f b).machine.memory (4 * k.end.back) h.is.code) = record {
      linked = l;
      pc = λ b. (there b).pc;
      answers = λ b.
          let o = (there b).holds in
          let m = (f b).machine.memory in
          let x = (f b).machine.registers in
          called k.code (f b) v 31 (x 10) (x 11) (x 12) (x 13) (x 14) (λ call x0 x1 x2 x3 x4. B.return_served call)
          o.body.services o.regs.0 refl refl refl refl refl (λ call y. refl)
          ∙ ap (λ call. B.return_served call) (call_is w k.code k.point m h.image)
          ∙ return_answered w.units k.point m φ k.end.others h.is.code (4 * k.end.back)
          (record { active = h.stands.active; newest = h.is.newest; low = h.stands.low }) h.is.kind h.is.texts
          (stacks_over w k.point 0 φ k.end.others h.stands h.is.newest).1
          ∙ ap (λ kept. Done (services_of (popped kept k.point)) m (4 * k.end.back) h.is.code) (sym h.is.kept);
    } in
    call_done c f v v' (λ b. (f b).machine.memory) (λ b. 4 * k.end.back) (λ b. h.is.code)
    (λ b. Known g v' k.end.after (λ n. 0) (coded_regs h) b) (same_acts k (leaves h)) calling
    (λ b. let o = (there b).holds.body in
    record {
      body = record { services = refl; registers = o.registers; bytes = o.bytes; memory = o.memory };
      regs = (refl, (refl, tt));
    })

-- ---- registers come back

abbrev again : (saved : ℕ → ℕ) → (n left : ℕ) → (ℕ → ℕ) → ℕ → ℕ
again saved n zero h = h
again saved n (suc left) h = again saved (suc n) left (put h n (saved n))

put_ne : (h : ℕ → ℕ) (n v j : ℕ) → n < j → put h n v j ≡ h j
put_ne h n v j less = let e : (j == n) ≡ false = grind (arith, nat_tests) in ap (λ q. cond q v (h j)) e

again_other : (saved : ℕ → ℕ) (left n : ℕ) (h : ℕ → ℕ) (j : ℕ) → (j < n) ⊎ (n + left ≤ j) → again saved n left h j ≡ h j
again_other saved zero n h j o = refl
again_other saved (suc left) n h j (inl less) =
    again_other saved left (suc n) (put h n (saved n)) j (inl (omega (arith, less)))
    ∙ put_other h n (saved n) j less
again_other saved (suc left) n h j (inr more) =
    again_other saved left (suc n) (put h n (saved n)) j (inr (omega (arith, more)))
    ∙ put_ne h n (saved n) j (omega (arith, more))

again_saved :
    (saved : ℕ → ℕ) (left n : ℕ) (h : ℕ → ℕ) (j : ℕ) → n ≤ j → j < n + left → again saved n left h j ≡ saved j
again_saved saved zero n h j low high = absurd (omega (arith, low, high))
again_saved saved (suc left) n h j low high =
    by (cases_lt n j) (λ less. again_saved saved left (suc n) (put h n (saved n)) j less (omega (arith, high)))
  where
    by :
        (n < j) ⊎ (j ≤ n) → (suc n ≤ j → again saved (suc n) left (put h n (saved n)) j ≡ saved j) →
        again saved (suc n) left (put h n (saved n)) j ≡ saved j
    by (inl less) later = later less
    by (inr last) later =
        let same : j ≡ n = omega (arith, last, low) in
        again_other saved left (suc n) (put h n (saved n)) j (inl (omega (arith, last)))
        ∙ ap (put h n (saved n)) same ∙ put_same h n (saved n) ∙ ap saved (sym same)

held_apart : (n : ℕ) → n < 7 → (y : ℕ → ℕ) (u : ℕ) →
    (written y (held n).index u 10 ≡ y 10) × (written y (held n).index u 11 ≡ y 11)
held_apart (zero) l y u = (refl, refl)
held_apart (suc zero) l y u = (refl, refl)
held_apart (suc (suc zero)) l y u = (refl, refl)
held_apart (suc (suc (suc zero))) l y u = (refl, refl)
held_apart (suc (suc (suc (suc zero)))) l y u = (refl, refl)
held_apart (suc (suc (suc (suc (suc zero))))) l y u = (refl, refl)
held_apart (suc (suc (suc (suc (suc (suc zero)))))) l y u = (refl, refl)
held_apart (suc (suc (suc (suc (suc (suc (suc n))))))) l y u = absurd (omega (arith, l))

registers_loaded :
    (k : Leaving) (h : Leaves k) (given code left n : ℕ) (numbers : ℕ → ℕ) {i : ℕ} (c : ℕ) (f : Family) →
    n + left ≤ k.end.layer.saved → Linked k.surroundings.links k.code i (registers_restored n left) →
    ((b : Base) → At b i (Known (own_ground k h) (popped_services k) numbers (λ j. 0) (coded_at given code) b) (f b)) →
    Reach k.code c f (popped_services k) (c + size_of (registers_restored n left)) (popped_services k)
    (λ b y. At b (i + size_of (registers_restored n left))
    (Known (own_ground k h) (popped_services k) (again k.end.layer.held n left numbers) (λ j. 0)
    (coded_at given code) b) y)
registers_loaded k h given code zero n numbers {i} c f all l there =
    reach_moved (omega arith) (omega arith)
    (stay k.code c f (popped_services k)
    (λ b y. At b i (Known (own_ground k h) (popped_services k) numbers (λ j. 0) (coded_at given code) b) y) there)
registers_loaded k h given code (suc left) n numbers {i} c f all l there =
    let g = own_ground k h in
    let v = popped_services k in
    let rs = coded_at given code in
    let first = load_word (held n) frame_register (saved_register n) in
    let rest = registers_restored (suc n) left in
    let size = size_append first rest in
    let most : k.end.layer.saved ≤ 7 = (laid_there k h).0.saved in
    let few : n < 7 = omega (arith, all, most) in
    let frame = own_frame k h in
    let room = frame.room in
    let place = word_in k.end.layer.at (8 + 4 * n) frame (omega arith) (omega (arith, few)) in
    let x = k.end.layer.held n in
    let r1 = displaced_by (is_immediate (saved_register n)) c f (λ q d. I.Load Load.Word (held n) q d) frame_register
    (saved_register n) (λ b. b.at + k.end.layer.at) (Known g v numbers (λ j. 0) rs)
    (Known g v (put numbers n x) (λ j. 0) rs) place.small'
    (λ b. let v' = b.valid.1 in omega (arith, v', room))
    (λ y u. refl) (λ b. frame_is (there b).holds.body) (omega arith)
    (record {
      does = λ b j y q d o e. (
        at_place b place _ e,
        record {
          body = record {
            services = o.body.services;
            registers =
                ap (λ u. reserved (written y.machine.registers (held n).index u))
                (ap (λ u. load 4 u (k.end.layer.at + (8 + 4 * n))) o.body.memory
                ∙ (own_words k h b).words.saved n (omega (arith, all)))
                ∙ held_put n g b numbers y.machine.registers x few o.body.registers;
            bytes = o.body.bytes;
            memory = o.body.memory;
          };
          regs = (
            (held_apart n few y.machine.registers _).0 ∙ o.regs.0,
            ((held_apart n few y.machine.registers _).1 ∙ o.regs.1.0, tt),
          );
        },
      );
      lost = λ b y u j o. lose_known y 31 u j
          (record { reserved_stay = λ y' u'. refl; known_stay = λ b' y' u' o'. o'; set = λ y' u'. refl }) o;
    })
    (front_of first rest l) there in
    let r2 = registers_loaded k h given code left (suc n) (put numbers n x) (c + size_of first) (reached r1)
    (omega (arith, all)) (back_of first rest l) (reached_holds r1) in
    reach_moved (omega (arith, size)) (omega (arith, size)) (reach_then r1 r2)

abbrev numbers_back : Leaving → ℕ → ℕ
numbers_back k = again k.end.layer.held 0 k.end.layer.saved k.end.after

-- ---- the stack and the frame below, and the jump

abbrev start_of : Leaving → ℕ
start_of k = frame_start k.end.layer

stack_back :
    (k : Leaving) (h : Leaves k) (numbers : ℕ → ℕ) (given code : ℕ) {i : ℕ} (c : ℕ) (f : Family) →
    Linked k.surroundings.links k.code i
    (plus stack_register frame_register (neg_ℤ (pos (temporary_bytes k.end.layer.words)))) →
    ((b : Base) → At b i (Known (own_ground k h) (popped_services k) numbers (λ j. 0) (coded_at given code) b)
    (f b)) →
    Reach k.code c f (popped_services k)
    (c + size_of (plus stack_register frame_register (neg_ℤ (pos (temporary_bytes k.end.layer.words)))))
    (popped_services k)
    (λ b y. At b (i + size_of (plus stack_register frame_register (neg_ℤ (pos (temporary_bytes k.end.layer.words)))))
    (Known (leaving_ground k k.end.layer.at (start_of k) (own_frame k h)) (popped_services k) numbers (λ j. 0)
    (coded_at given code) b) y)
stack_back k h numbers given code c f l there =
    let n = temporary_bytes k.end.layer.words in
    let z = neg_ℤ (pos n) in
    let at = k.end.layer.at in
    let frame = own_frame k h in
    let room = frame.room in
    let above = (laid_there k h).0.above in
    let v = popped_services k in
    let g = own_ground k h in
    let g' = leaving_ground k at (start_of k) frame in
    displaced_by (is_immediate z) c f (λ s d. I.Immediate Imm.Add stack_register s d) frame_register z (λ b. b.at + at)
    (Known g v numbers (λ j. 0) (coded_at given code)) (Known g' v numbers (λ j. 0) (coded_at given code))
    (below_small n (omega (arith, above, room)))
    (λ b. let v' = b.valid.1 in omega (arith, v', room))
    (λ y u. refl) (λ b. frame_is (there b).holds.body) (omega arith)
    (record {
      does = λ b j y s d o e. record {
        body = record {
          services = o.body.services;
          registers = stack_put g g' b numbers y.machine.registers (sum (y.machine.registers s.index) (word d))
              o.body.registers refl
              (e ∙ below_sum b.at at n b.valid.1 (omega (arith, room)) (omega (arith, above)));
          bytes = o.body.bytes;
          memory = o.body.memory;
        };
        regs = o.regs;
      };
      lost = λ b y u j o. lose_known y 31 u j
          (record { reserved_stay = λ y' u'. refl; known_stay = λ b' y' u' o'. o'; set = λ y' u'. refl }) o;
    })
    l there

frame_back :
    (k : Leaving) (h : Leaves k) (numbers : ℕ → ℕ) (given code : ℕ) {i : ℕ} (c : ℕ) (f : Family) →
    Linked k.surroundings.links k.code i (load_word frame_register frame_register frame_below) →
    ((b : Base) → At b i (Known (leaving_ground k k.end.layer.at (start_of k) (own_frame k h)) (popped_services k)
    numbers (λ j. 0) (coded_at given code) b) (f b)) →
    Reach k.code c f (popped_services k) (c + 1) (popped_services k)
    (λ b y. At b (i + 1) (Known (below_ground k h) (popped_services k) numbers (λ j. 0)
    (coded_at given code) b) y)
frame_back k h numbers given code c f l there =
    let at = k.end.layer.at in
    let frame = own_frame k h in
    let v = popped_services k in
    straight c f v v
    (λ b y. Known (below_ground k h) v numbers (λ j. 0) (coded_at given code) b y) l (omega arith)
    (λ b. (there b).pc)
    (λ b.
    let o = (there b).holds in
    let x = (f b).machine.registers in (
      at_place b (word_in at 4 frame refl (omega arith)) (sum (x 8) (word (pos 4)))
          (ap (λ u. sum u (word (pos 4))) (frame_is o.body)),
      record {
        body = record {
          services = o.body.services;
          registers = frame_put (leaving_ground k at (start_of k) frame) (below_ground k h) b numbers x _
              o.body.registers refl
              (ap (λ u. load 4 u (at + 4)) o.body.memory ∙ (own_words k h b).words.below);
          bytes = o.body.bytes;
          memory = o.body.memory;
        };
        regs = o.regs;
      },
    ))

-- ---- the machine of the block below

goes_below :
    (k : Leaving) (h : Leaves k) (given code : ℕ) (b : Base) (y : Whole) →
    Known (below_ground k h) (popped_services k) (numbers_back k) (λ j. 0) (coded_at given code) b y →
    GoesBelow k.end.layer b.at (k.first b).machine y.machine
goes_below k h given code b y o =
    let words = (own_words k h b).words in
    let φ = k.end.layer in
    record {
      frame = frame_is o.body ∙ sym words.below;
      top = stack_is (below_ground k h) b (numbers_back k) y.machine.registers o.body.registers;
      registers = λ n less.
          held_is n (below_ground k h) b (numbers_back k) y.machine.registers less o.body.registers
          ∙ by n less (nat_lt n φ.saved) refl;
      memory = o.body.memory;
    }
  where
    by :
        (n : ℕ) → n < 7 → (q : Bool) → nat_lt n k.end.layer.saved ≡ q →
        numbers_back k n
        ≡ cond q (load 4 (memory_of k b) (k.end.layer.at + (8 + 4 * n))) (V.value (k.first b).machine (held n))
    by n less true e =
        let saved : n < k.end.layer.saved = ltb-true n k.end.layer.saved e in
        again_saved k.end.layer.held k.end.layer.saved 0 k.end.after n (omega arith) (omega (arith, saved))
        ∙ sym ((own_words k h b).words.saved n saved)
    by n less false e =
        let more : k.end.layer.saved ≤ n = grind (arith, nat_tests) in
        again_other k.end.layer.held k.end.layer.saved 0 k.end.after n (inr (omega (arith, more)))
        ∙ sym ((h.there b).at.registers n less)

-- ---- and there it goes on

resumed_sum : (b : Base) (x y resume : ℕ) → resume ≤ most_code → x ≡ b.at → y ≡ 4 * resume → sum x y ≡ address b resume
resumed_sum b x y resume near e f = let v = b.valid.1 in omega (arith, e, f, near, v)

address_sum : (b : Base) (x j : ℕ) → j ≤ most_code → x ≡ address b j → sum x (word (pos 0)) ≡ address b j
address_sum b x j near e = let v = b.valid.1 in omega (arith, e, near, v)

resumed_back :
    (k : Leaving) (h : IsEnding k) {i : ℕ} (c : ℕ) (f : Family) →
    Linked k.surroundings.links k.code i jump_on →
    ((b : Base) → At b i (Known (below_ground k (leaves h)) (popped_services k) (numbers_back k) (λ j. 0)
    (coded_regs h) b) (f b)) →
    Reach k.code c f (popped_services k) (c + 4) (popped_services k)
    (λ b y. At b k.end.back (Known (below_ground k (leaves h)) (popped_services k) (numbers_back k) (λ j. 0)
    (coded_regs h) b) y)
resumed_back k h {i} c f l there =
    let g = below_ground k (leaves h) in
    let v = popped_services k in
    let rs = coded_regs h in
    let adds = BaseIn u0 ∷ add u0 u0 a0 ∷ [] in
    let jump = Plain (I.JumpRegister zero_register u0 (pos 0)) ∷ [] in
    let lj = back_of adds jump l in
    let near = h.is.back in
    let r1 = straight c f v v
    (λ b y. Known g v (numbers_back k) (λ j. 0) (λ b'. (5, address b' k.end.back) ∷ rs b') b y)
    (front_of adds jump l) (omega arith) (λ b. (there b).pc)
    (λ b. let o = (there b).holds in (
      refl,
      record {
        body = record {
          services = o.body.services;
          registers = o.body.registers;
          bytes = o.body.bytes;
          memory = o.body.memory;
        };
        regs = (resumed_sum b _ _ k.end.back near refl o.regs.0, o.regs);
      },
    )) in
    let r2 = hop k.code (c + 3) (c + 4) (reached r1) v
    (λ b y. At b k.end.back (Known g v (numbers_back k) (λ j. 0) rs b) y) (omega arith)
    (λ b.
    let o = (reached_holds r1 b).holds in
    let small' = lj.small' in
    let inside = lj.inside in (
      _,
      jump_register k.code b (i + 3) k.end.back zero_register u0 (pos 0) (reached r1 b) (omega (arith, small', inside))
          (reached_holds r1 b).pc lj.has.0.0 (address_sum b _ k.end.back near o.regs.0),
      record {
        pc = refl;
        holds = record {
          body = record {
            services = o.body.services;
            registers = o.body.registers;
            bytes = o.body.bytes;
            memory = o.body.memory;
          };
          regs = o.regs.1;
        };
      },
    )) in
    reach_then r1 r2

-- ---- the whole end

pub coded_ends :
    (k : Leaving) (h : IsEnding k) (c : ℕ) →
    Linked k.surroundings.links k.code k.end.index (unit_ending_code k.end.layer) →
    Reach k.code c k.first (services_of k.point) (c + size_of (unit_ending_code k.end.layer)) (popped_services k)
    (λ b y. IsIn k.surroundings (popped k.end.kept k.point) k.end.before k.end.back b y
    × (y.machine.registers 11 ≡ h.is.code))
coded_ends k h c l =
    let z = leaves h in
    let ask = small a7 31 ∷ [] in
    let call = Plain I.Ecall ∷ [] in
    let restores = registers_restored 0 k.end.layer.saved in
    let up = plus stack_register frame_register (neg_ℤ (pos (temporary_bytes k.end.layer.words))) in
    let below = load_word frame_register frame_register frame_below in
    let last = frame_ended k.end.layer.words ++ jump_on in
    let l1 = back_of ask (call ++ (restores ++ last)) l in
    let l2 = back_of call (restores ++ last) l1 in
    let l3 = back_of restores last l2 in
    let l4 = front_of (up ++ below) jump_on l3 in
    let n0 = size_append restores last in
    let n1 = size_append (up ++ below) jump_on in
    let n2 = size_append up below in
    let given = 4 * k.end.back in
    let code = h.is.code in
    let r1 = return_asked k h c (front_of ask (call ++ (restores ++ last)) l) in
    let r2 = return_called k h (c + 1) (reached r1) (front_of call (restores ++ last) l1) (reached_holds r1) in
    let r3 = registers_loaded k z given code k.end.layer.saved 0 k.end.after (c + 1 + 1) (reached r2) (omega arith)
    (front_of restores last l2) (reached_holds r2) in
    let r4 = stack_back k z (numbers_back k) given code (c + 1 + 1 + size_of restores) (reached r3)
    (front_of up below l4) (reached_holds r3) in
    let r5 = frame_back k z (numbers_back k) given code (c + 1 + 1 + size_of restores + size_of up) (reached r4)
    (back_of up below l4) (reached_holds r4) in
    let r6 = resumed_back k h (c + 1 + 1 + size_of restores + size_of up + 1) (reached r5)
    (linked_at _ jump_on (omega (arith, n2)) (back_of (up ++ below) jump_on l3)) (reached_holds r5) in
    reach_with (c + size_of (unit_ending_code k.end.layer)) (omega (arith, n0, n1, n2))
    (reach_map _ (reach_then r1 (reach_then r2 (reach_then r3 (reach_then r4 (reach_then r5 r6)))))
    (λ b y o. (
      record {
        services = o.holds.body.services;
        at = machine_below k.surroundings k.point k.end b.at (k.first b).machine y.machine h.stands h.is.newest
            (h.there b).at h.is.holds (goes_below k z given code b y o.holds) o.pc;
        zero = zero_is o.holds.body;
        bytes = o.holds.body.bytes;
      },
      o.holds.regs.1.0,
    )))
