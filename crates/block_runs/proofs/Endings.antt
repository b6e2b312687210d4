-- The end of a procedure goes back behind its call, to the machine of the block below.
use Rattle.std.proofs.Common.{◌≡◌, ◌⊎◌, inl, inr, ℕ, zero, suc, ◌+◌, ◌*◌, ◌^◌, ◌<◌, ◌≤◌, List, [], ◌∷◌}
use Rattle.std.proofs.Common.{◌++◌, Bool, true, false, Option, Some, None, refl, sym, ap, ◌∙◌, subst, arith}
use Rattle.std.proofs.lemmas.Bool.{cases_lt, ltb-true}
use Rattle.std.proofs.lemmas.Bool.Decides.{nat_tests}
use Rattle.std.specs.Prelude.{pos, neg_ℤ, nat_lt, cond, ◌==◌}
use Rattle.rv_meaning.specs.declared.instr.Instr.{Instr}
use Rattle.rv_meaning.specs.declared.instr.Instr.TheVariants as I
use Rattle.rv_meaning.specs.declared.instr.ImmediateOp.TheVariants as Imm
use Rattle.rv_meaning.specs.declared.instr.LoadKind.TheVariants as Load
use Rattle.rv_meaning.specs.Machine as V
use Rattle.rv_meaning.specs.Machine.{written}
use Rattle.rv_meaning.specs.Memory.{load}
use Rattle.rv_meaning.specs.Words.{word, sum}
use Rattle.pli_meaning.specs.StorageState.{Activation, State, without_newest}
use Rattle.pli_meaning.specs.World.{World}
use Rattle.pli_serving.specs.Answers.{Done}
use Rattle.pli_serving.specs.Blocks as B
use Rattle.pli_serving.specs.ServiceState as S
use Rattle.pli_serving.specs.ServiceState.{Services}
use Rattle.pli_coding.specs.Assembly.{Plain, Code, size_of}
use Rattle.pli_coding.specs.Entries.{registers_restored, all_restored, frame_ended}
use Rattle.pli_coding.specs.Frames.{return_address, frame_below, saved_register, temporary_bytes}
use Rattle.pli_coding.specs.Instructions.{is_immediate, load_word, plus, small}
use Rattle.pli_coding.specs.Registers.{frame_register, stack_register, return_register, zero_register, held, a0, a7}
use Rattle.image_runs.specs.Runs.{Whole}
use Rattle.activation_relation.specs.Changes.{Keeps, popped, popped_from}
use Rattle.activation_relation.specs.Entering.{BlockEnd, GoesBelow, HoldsBefore}
use Rattle.activation_relation.specs.Frames.{AreLaid, FrameStands, FramesStand, GoesBack, frame_under, frame_start}
use Rattle.activation_relation.specs.Frames.{upper_top}
use Rattle.activation_relation.specs.Layers.{Point, services_of}
use Rattle.activation_relation.specs.Points.{Surroundings, Stands}
use Rattle.activation_relation.proofs.Blocks.{leave_answered, newest_of}
use Rattle.activation_relation.proofs.PointSteps.{left_stands, stacks_over}
use Rattle.activation_relation.proofs.Returning.{machine_below}
use Rattle.run_steps.specs.Bodies.{Ground, Known, reserved}
use Rattle.run_steps.proofs.Bodies.{at_place, frame_is, zero_is, displaced_by, lose_known, load_piece}
use Rattle.run_steps.specs.Calls.{Calling}
use Rattle.run_steps.proofs.Calls.{called, call_done}
use Rattle.run_steps.specs.Engine.{Base, address, most_code}
use Rattle.run_steps.specs.Items.{Linked, At}
use Rattle.run_steps.proofs.Items.{straight}
use Rattle.run_steps.proofs.Jumps.{front_of, back_of, linked_at, hop, jump_register}
use Rattle.run_steps.proofs.Linking.{size_append}
use Rattle.run_steps.proofs.Numbers.{below_sum, below_small}
use Rattle.run_steps.specs.Reach.{Family, Reach, reached}
use Rattle.run_steps.proofs.Reach.{reach_then, reached_holds, reach_map, reach_with, stay}
use Rattle.run_steps.proofs.Reaching.{reach_moved}
use Rattle.run_steps.specs.Temporaries.{put}
use Rattle.run_steps.proofs.Temporaries.{held_put, held_is, put_other, put_same}
use Rattle.block_runs.specs.Machines.{IsIn, IsImage, AreEven}
use Rattle.block_runs.specs.InnerBeginnings.{inner_ending_code}
use Rattle.block_runs.specs.Endings.{IsEnding, IsWord, HasGiven, ending_code, result_code}
use Rattle.block_runs.proofs.Places.{IsFrame, ground_at, word_in, newest_frame}
use Rattle.block_runs.proofs.PointGrounds.{registers_in, call_is}
use Rattle.block_runs.proofs.FrameBeginnings.{frame_put, stack_put, stack_is}

-- ---- a block that ends, and the machines where the code of its end begins

pub record Leaving : Type 0 where
  pub surroundings : Surroundings
  pub code : List Instr
  pub point : Point
  pub end : BlockEnd
  pub first : Family

pub record IsLeaving (k : Leaving) : Type 0 where
  pub stands : Stands k.surroundings k.point
  pub image : IsImage k.surroundings k.code k.point
  pub is : IsEnding k.point k.end
  pub back : k.end.back ≤ most_code
  pub there : (b : Base) → IsIn k.surroundings k.point k.end.after k.end.index b (k.first b)

-- what is known of it, whichever kind of block it is
pub record Leaves (k : Leaving) : Type 0 where
  pub stands : Stands k.surroundings k.point
  pub image : IsImage k.surroundings k.code k.point
  pub newest : k.point.control.layers ≡ k.end.layer ∷ k.end.others
  pub holds : HoldsBefore k.end.layer k.end.before k.end.after
  pub texts : Keeps 0 k.end.layer.entries k.point.control.entries k.end.kept
  pub there : (b : Base) → IsIn k.surroundings k.point k.end.after k.end.index b (k.first b)

leaves : {k : Leaving} → IsLeaving k → Leaves k
leaves h =
    record {
      stands = h.stands;
      image = h.image;
      newest = h.is.newest;
      holds = h.is.holds;
      texts = h.is.texts;
      there = h.there;
    }

abbrev pub memory_of : Leaving → Base → List ℕ
memory_of k b = (k.first b).machine.memory

pub laid_there : (k : Leaving) → Leaves k → AreLaid k.surroundings.parts (k.end.layer ∷ k.end.others)
laid_there k h = subst (AreLaid k.surroundings.parts) h.newest h.stands.laid

pub own_frame : (k : Leaving) → Leaves k → IsFrame k.end.layer.at
own_frame k h =
    newest_frame k.surroundings.parts (k.end.layer ∷ k.end.others) h.image.parts (laid_there k h)
    (subst (AreEven k.surroundings.parts) h.newest h.image.even)

pub frame_of_below : (k : Leaving) → Leaves k → IsFrame (frame_under k.surroundings.parts k.end.others)
frame_of_below k h =
    newest_frame k.surroundings.parts k.end.others h.image.parts (laid_there k h).1
    (subst (AreEven k.surroundings.parts) h.newest h.image.even).1

-- the words of its own frame
pub record OwnFrame (k : Leaving) (b : Base) : Type 0 where
  pub activation : Activation
  pub others : List Activation
  pub words : FrameStands k.surroundings.parts b.at (memory_of k b) activation others k.end.layer k.end.others

pub own_words : (k : Leaving) → Leaves k → (b : Base) → OwnFrame k b
own_words k h b =
    let n = newest_of k.surroundings.units k.point k.end.layer k.end.others h.stands.active h.newest in
    let parts = k.surroundings.parts in
    let m = memory_of k b in
    let stand = subst (λ xs. FramesStand parts b.at m xs (k.end.layer ∷ k.end.others)) n.first
    (subst (λ ls. FramesStand parts b.at m k.point.state.activations ls) h.newest (h.there b).at.frames) in
    record { activation = n.activation; others = n.others; words = stand.0 }

-- with a frame and a free byte in registers, and memory as it was
abbrev pub leaving_ground : Leaving → (at free : ℕ) → IsFrame at → Ground
leaving_ground k at free h = ground_at at free h (λ b m. m ≡ memory_of k b)

abbrev pub own_ground : (k : Leaving) → Leaves k → Ground
own_ground k h = leaving_ground k k.end.layer.at k.end.layer.top (own_frame k h)

-- ---- the services end the block

abbrev pub popped_services : Leaving → Services
popped_services k = services_of (popped k.end.kept k.point)

same_world : (as' : List Activation) (s : State) → (without_newest as' s).world ≡ s.world
same_world [] s = refl
same_world (a ∷ as') s = refl

pub same_acts : (k : Leaving) → Leaves k → (services_of k.point).world.acts ≤ (popped_services k).world.acts
same_acts k h =
    let e : (popped k.end.kept k.point).state.world.acts ≡ k.point.state.world.acts =
    ap (λ ls. (popped_from k.end.kept ls k.point).state.world.acts) h.newest
    ∙ ap (λ (u : World). u.acts) (same_world k.point.state.activations k.point.state) in
    omega (arith, e)

leave_asked :
    (k : Leaving) (h : Leaves k) {i : ℕ} (c : ℕ) →
    Linked k.surroundings.links k.code i (small a0 0 ∷ small a7 5 ∷ []) →
    i ≡ k.end.index →
    Reach k.code c k.first (services_of k.point) (c + 2) (services_of k.point)
    (λ b y. At b (i + 2) (Known (own_ground k h) (services_of k.point) k.end.after (λ n. 0)
    (λ b'. (17, 5) ∷ (10, 0) ∷ []) b) y)
leave_asked k h c l e =
    let v = services_of k.point in
    let newest = h.newest in
    straight c k.first v v
    (λ b y. Known (own_ground k h) v k.end.after (λ n. 0) (λ b'. (17, 5) ∷ (10, 0) ∷ []) b y) l (omega arith)
    (λ b. (h.there b).at.pc ∙ ap (address b) (sym e))
    (λ b.
    let o = h.there b in
    record {
      body = record {
        services = o.services;
        registers = registers_in (own_ground k h) (sym (ap (frame_under k.surroundings.parts) newest))
            (sym (ap (upper_top k.surroundings.parts) newest)) o;
        bytes = o.bytes;
        memory = refl;
      };
      regs = (zero_sum _ 5 o.zero (omega arith), (zero_sum _ 0 o.zero (omega arith), tt));
    })
  where
    zero_sum : (z n : ℕ) → z ≡ 0 → n < 2 ^ 32 → sum z n ≡ n
    zero_sum z n e less = omega (arith, e, less)

leave_called :
    (k : Leaving) (h : Leaves k) {i : ℕ} (c : ℕ) (f : Family) →
    Linked k.surroundings.links k.code i (Plain I.Ecall ∷ []) →
    ((b : Base) → At b i (Known (own_ground k h) (services_of k.point) k.end.after (λ n. 0)
    (λ b'. (17, 5) ∷ (10, 0) ∷ []) b) (f b)) →
    Reach k.code c f (services_of k.point) (c + 1) (popped_services k)
    (λ b y. At b (i + 1) (Known (own_ground k h) (popped_services k) k.end.after (λ n. 0) (λ b'. (10, 0) ∷ []) b) y)
leave_called k h {i} c f l there =
    let v = services_of k.point in
    let v' = popped_services k in
    let w = k.surroundings in
    let φ = k.end.layer in
    let calling : Calling w.links k.code i f
    (λ b. Done v' (f b).machine.memory 0 ((f b).machine.registers 11)) = record {
      linked = l;
      pc = λ b. (there b).pc;
      answers = λ b.
          let o = (there b).holds in
          let m = (f b).machine.memory in
          let x = (f b).machine.registers in
          called k.code (f b) v 5 0 (x 11) (x 12) (x 13) (x 14) (λ call x0 x1 x2 x3 x4. B.leave_served call x0 x1)
          o.body.services o.regs.0 o.regs.1.0 refl refl refl refl (λ call y. refl)
          ∙ ap (λ call. B.leave_served call 0 (x 11)) (call_is w k.code k.point m h.image)
          ∙ leave_answered w.units k.point m φ k.end.others 0 (x 11) k.end.kept
          (record { active = h.stands.active; newest = h.newest; low = h.stands.low }) h.texts
          (stacks_over w k.point 0 φ k.end.others h.stands h.newest).1;
    } in
    call_done c f v v' (λ b. (f b).machine.memory) (λ b. 0) (λ b. (f b).machine.registers 11)
    (λ b. Known (own_ground k h) v' k.end.after (λ n. 0) (λ b'. (10, 0) ∷ []) b) (same_acts k h) calling
    (λ b. let o = (there b).holds.body in
    record {
      body = record { services = refl; registers = o.registers; bytes = o.bytes; memory = o.memory };
      regs = (refl, tt);
    })

-- ---- a function's result

abbrev leaving_regs : (given : Base → ℕ) → Base → List (ℕ × ℕ)
leaving_regs given b = (10, given b) ∷ []

result_loaded :
    (function : Option ℕ) (k : Leaving) (h : Leaves k) (given : Base → ℕ) {i : ℕ} (c : ℕ) (f : Family) →
    IsWord function → ((b : Base) → HasGiven k.end.layer function (given b) (k.first b)) →
    Linked k.surroundings.links k.code i (result_code function) →
    ((b : Base) → At b i (Known (own_ground k h) (popped_services k) k.end.after (λ n. 0) (λ b'. (10, 0) ∷ []) b)
    (f b)) →
    Reach k.code c f (popped_services k) (c + size_of (result_code function)) (popped_services k)
    (λ b y. At b (i + size_of (result_code function)) (Known (own_ground k h) (popped_services k) k.end.after (λ n. 0)
    (leaving_regs given) b) y)
result_loaded None k h given {i} c f word' has l there =
    reach_moved (omega arith) (omega arith)
    (stay k.code c f (popped_services k)
    (λ b y. At b i (Known (own_ground k h) (popped_services k) k.end.after (λ n. 0) (leaving_regs given) b) y)
    (λ b.
    let o = there b in
    record { pc = o.pc; holds = record { body = o.holds.body; regs = (o.holds.regs.0 ∙ sym (has b), tt) } }))
result_loaded (Some offset) k h given {i} c f word' has l there =
    let r = load_piece {rs = λ b. []} c f a0 (pos offset) (k.end.layer.at + offset) given
    (word_in k.end.layer.at offset (own_frame k h) word'.0 word'.1)
    (λ b m e. ap (λ u. load 4 u (k.end.layer.at + offset)) e ∙ has b)
    (record { reserved_stay = λ y u. refl; known_stay = λ b y u o. o; set = λ y u. refl })
    (record { reserved_stay = λ y u. refl; known_stay = λ b y u o. o; set = λ y u. refl })
    l (λ b. let o = there b in
    record { pc = o.pc; holds = record { body = o.holds.body; regs = tt } }) in
    reach_map _ r (λ b y o. record { pc = o.pc; holds = record { body = o.holds.body; regs = o.holds.regs } })

-- ---- registers come back

abbrev again : (saved : ℕ → ℕ) → (n left : ℕ) → (ℕ → ℕ) → ℕ → ℕ
again saved n zero h = h
again saved n (suc left) h = again saved (suc n) left (put h n (saved n))

put_ne : (h : ℕ → ℕ) (n v j : ℕ) → n < j → put h n v j ≡ h j
put_ne h n v j less = let e : (j == n) ≡ false = grind (arith, nat_tests) in ap (λ q. cond q v (h j)) e

again_other : (saved : ℕ → ℕ) (left n : ℕ) (h : ℕ → ℕ) (j : ℕ) → (j < n) ⊎ (n + left ≤ j) → again saved n left h j ≡ h j
again_other saved zero n h j o = refl
again_other saved (suc left) n h j (inl less) =
    again_other saved left (suc n) (put h n (saved n)) j (inl (omega (arith, less)))
    ∙ put_other h n (saved n) j less
again_other saved (suc left) n h j (inr more) =
    again_other saved left (suc n) (put h n (saved n)) j (inr (omega (arith, more)))
    ∙ put_ne h n (saved n) j (omega (arith, more))

again_saved :
    (saved : ℕ → ℕ) (left n : ℕ) (h : ℕ → ℕ) (j : ℕ) → n ≤ j → j < n + left → again saved n left h j ≡ saved j
again_saved saved zero n h j low high = absurd (omega (arith, low, high))
again_saved saved (suc left) n h j low high =
    by (cases_lt n j) (λ less. again_saved saved left (suc n) (put h n (saved n)) j less (omega (arith, high)))
  where
    by :
        (n < j) ⊎ (j ≤ n) → (suc n ≤ j → again saved (suc n) left (put h n (saved n)) j ≡ saved j) →
        again saved (suc n) left (put h n (saved n)) j ≡ saved j
    by (inl less) later = later less
    by (inr last) later =
        let same : j ≡ n = omega (arith, last, low) in
        again_other saved left (suc n) (put h n (saved n)) j (inl (omega (arith, last)))
        ∙ ap (put h n (saved n)) same ∙ put_same h n (saved n) ∙ ap saved (sym same)

held_apart : (n : ℕ) → n < 7 → (y : ℕ → ℕ) (u : ℕ) →
    (written y (held n).index u 1 ≡ y 1) × (written y (held n).index u 10 ≡ y 10)
held_apart (zero) l y u = (refl, refl)
held_apart (suc zero) l y u = (refl, refl)
held_apart (suc (suc zero)) l y u = (refl, refl)
held_apart (suc (suc (suc zero))) l y u = (refl, refl)
held_apart (suc (suc (suc (suc zero)))) l y u = (refl, refl)
held_apart (suc (suc (suc (suc (suc zero))))) l y u = (refl, refl)
held_apart (suc (suc (suc (suc (suc (suc zero)))))) l y u = (refl, refl)
held_apart (suc (suc (suc (suc (suc (suc (suc n))))))) l y u = absurd (omega (arith, l))

abbrev pub back_at : (to given : Base → ℕ) → Base → List (ℕ × ℕ)
back_at to given b = (1, to b) ∷ (10, given b) ∷ []

abbrev back_regs : Leaving → (given : Base → ℕ) → Base → List (ℕ × ℕ)
back_regs k given = back_at (λ b. address b k.end.back) given

pub registers_loaded :
    (k : Leaving) (h : Leaves k) (to given : Base → ℕ) (left n : ℕ) (numbers : ℕ → ℕ) {i : ℕ} (c : ℕ) (f : Family) →
    n + left ≤ k.end.layer.saved → Linked k.surroundings.links k.code i (registers_restored n left) →
    ((b : Base) → At b i (Known (own_ground k h) (popped_services k) numbers (λ j. 0) (back_at to given) b) (f b)) →
    Reach k.code c f (popped_services k) (c + size_of (registers_restored n left)) (popped_services k)
    (λ b y. At b (i + size_of (registers_restored n left))
    (Known (own_ground k h) (popped_services k) (again k.end.layer.held n left numbers) (λ j. 0)
    (back_at to given) b) y)
registers_loaded k h to given zero n numbers {i} c f all l there =
    reach_moved (omega arith) (omega arith)
    (stay k.code c f (popped_services k)
    (λ b y. At b i (Known (own_ground k h) (popped_services k) numbers (λ j. 0) (back_at to given) b) y) there)
registers_loaded k h to given (suc left) n numbers c f all l there =
    let g = own_ground k h in
    let v = popped_services k in
    let first = load_word (held n) frame_register (saved_register n) in
    let rest = registers_restored (suc n) left in
    let size = size_append first rest in
    let most : k.end.layer.saved ≤ 7 = (laid_there k h).0.saved in
    let few : n < 7 = omega (arith, all, most) in
    let frame = own_frame k h in
    let room = frame.room in
    let place = word_in k.end.layer.at (8 + 4 * n) frame (omega arith) (omega (arith, few)) in
    let x = k.end.layer.held n in
    let r1 = displaced_by (is_immediate (saved_register n)) c f (λ q d. I.Load Load.Word (held n) q d) frame_register
    (saved_register n) (λ b. b.at + k.end.layer.at) (Known g v numbers (λ j. 0) (back_at to given))
    (Known g v (put numbers n x) (λ j. 0) (back_at to given)) place.small'
    (λ b. let v' = b.valid.1 in omega (arith, v', room))
    (λ y u. refl) (λ b. frame_is (there b).holds.body) (omega arith)
    (record {
      does = λ b j y q d o e. (
        at_place b place _ e,
        record {
          body = record {
            services = o.body.services;
            registers =
                ap (λ u. reserved (written y.machine.registers (held n).index u))
                (ap (λ u. load 4 u (k.end.layer.at + (8 + 4 * n))) o.body.memory
                ∙ (own_words k h b).words.saved n (omega (arith, all)))
                ∙ held_put n g b numbers y.machine.registers x few o.body.registers;
            bytes = o.body.bytes;
            memory = o.body.memory;
          };
          regs = (
            (held_apart n few y.machine.registers _).0 ∙ o.regs.0,
            ((held_apart n few y.machine.registers _).1 ∙ o.regs.1.0, tt),
          );
        },
      );
      lost = λ b y u j o. lose_known y 31 u j
          (record { reserved_stay = λ y' u'. refl; known_stay = λ b' y' u' o'. o'; set = λ y' u'. refl }) o;
    })
    (front_of first rest l) there in
    let r2 = registers_loaded k h to given left (suc n) (put numbers n x) (c + size_of first) (reached r1)
    (omega (arith, all)) (back_of first rest l) (reached_holds r1) in
    reach_moved (omega (arith, size)) (omega (arith, size)) (reach_then r1 r2)

abbrev pub numbers_back : Leaving → ℕ → ℕ
numbers_back k = again k.end.layer.held 0 k.end.layer.saved k.end.after

back_word :
    (kind : S.BlockKind) (base back at : ℕ) (m : List ℕ) → kind ≡ S.ProcedureBlock → GoesBack kind base back at m →
    load 4 m at ≡ base + 4 * back
back_word kind base back at m e o = subst (λ x. GoesBack x base back at m) e o

all_loaded :
    (k : Leaving) (h : Leaves k) (z : IsLeaving k) (given : Base → ℕ) {i : ℕ} (c : ℕ) (f : Family) →
    Linked k.surroundings.links k.code i (all_restored k.end.layer.saved) →
    ((b : Base) → At b i (Known (own_ground k h) (popped_services k) k.end.after (λ j. 0) (leaving_regs given) b)
    (f b)) →
    Reach k.code c f (popped_services k) (c + size_of (all_restored k.end.layer.saved)) (popped_services k)
    (λ b y. At b (i + size_of (all_restored k.end.layer.saved))
    (Known (own_ground k h) (popped_services k) (numbers_back k) (λ j. 0) (back_regs k given) b) y)
all_loaded k h z given c f l there =
    let first = load_word return_register frame_register return_address in
    let rest = registers_restored 0 k.end.layer.saved in
    let size = size_append first rest in
    let at = k.end.layer.at in
    let r1 = load_piece c f return_register return_address (at + 0) (λ b. address b k.end.back)
    (word_in at 0 (own_frame k h) refl (omega arith))
    (λ b m e. ap (λ u. load 4 u (at + 0)) e
    ∙ back_word k.end.layer.kind b.at k.end.layer.back (at + 0) (memory_of k b) z.is.kind (own_words k h b).words.back
    ∙ ap (address b) (sym z.is.back))
    (record { reserved_stay = λ y u. refl; known_stay = λ b y u o. o; set = λ y u. refl })
    (record { reserved_stay = λ y u. refl; known_stay = λ b y u o. o; set = λ y u. refl })
    (front_of first rest l) there in
    let r2 = registers_loaded k h (λ b. address b k.end.back) given k.end.layer.saved 0 k.end.after
    (c + size_of first) (reached r1) (omega arith) (back_of first rest l) (reached_holds r1) in
    reach_moved (omega (arith, size)) (omega (arith, size)) (reach_then r1 r2)

-- ---- the stack and the frame below, and the jump

abbrev start_of : Leaving → ℕ
start_of k = frame_start k.end.layer

pub stack_back :
    (k : Leaving) (h : Leaves k) (numbers : ℕ → ℕ) (to given : Base → ℕ) {i : ℕ} (c : ℕ) (f : Family) →
    Linked k.surroundings.links k.code i
    (plus stack_register frame_register (neg_ℤ (pos (temporary_bytes k.end.layer.words)))) →
    ((b : Base) → At b i (Known (own_ground k h) (popped_services k) numbers (λ j. 0) (back_at to given) b)
    (f b)) →
    Reach k.code c f (popped_services k)
    (c + size_of (plus stack_register frame_register (neg_ℤ (pos (temporary_bytes k.end.layer.words)))))
    (popped_services k)
    (λ b y. At b (i + size_of (plus stack_register frame_register (neg_ℤ (pos (temporary_bytes k.end.layer.words)))))
    (Known (leaving_ground k k.end.layer.at (start_of k) (own_frame k h)) (popped_services k) numbers (λ j. 0)
    (back_at to given) b) y)
stack_back k h numbers to given c f l there =
    let n = temporary_bytes k.end.layer.words in
    let z = neg_ℤ (pos n) in
    let at = k.end.layer.at in
    let frame = own_frame k h in
    let room = frame.room in
    let above = (laid_there k h).0.above in
    let v = popped_services k in
    let g = own_ground k h in
    let g' = leaving_ground k at (start_of k) frame in
    displaced_by (is_immediate z) c f (λ s d. I.Immediate Imm.Add stack_register s d) frame_register z (λ b. b.at + at)
    (Known g v numbers (λ j. 0) (back_at to given)) (Known g' v numbers (λ j. 0) (back_at to given))
    (below_small n (omega (arith, above, room)))
    (λ b. let v' = b.valid.1 in omega (arith, v', room))
    (λ y u. refl) (λ b. frame_is (there b).holds.body) (omega arith)
    (record {
      does = λ b j y s d o e. record {
        body = record {
          services = o.body.services;
          registers = stack_put g g' b numbers y.machine.registers (sum (y.machine.registers s.index) (word d))
              o.body.registers refl
              (e ∙ below_sum b.at at n b.valid.1 (omega (arith, room)) (omega (arith, above)));
          bytes = o.body.bytes;
          memory = o.body.memory;
        };
        regs = o.regs;
      };
      lost = λ b y u j o. lose_known y 31 u j
          (record { reserved_stay = λ y' u'. refl; known_stay = λ b' y' u' o'. o'; set = λ y' u'. refl }) o;
    })
    l there

abbrev pub below_ground : (k : Leaving) → Leaves k → Ground
below_ground k h =
    leaving_ground k (frame_under k.surroundings.parts k.end.others) (start_of k) (frame_of_below k h)

pub frame_back :
    (k : Leaving) (h : Leaves k) (numbers : ℕ → ℕ) (to given : Base → ℕ) {i : ℕ} (c : ℕ) (f : Family) →
    Linked k.surroundings.links k.code i (load_word frame_register frame_register frame_below) →
    ((b : Base) → At b i (Known (leaving_ground k k.end.layer.at (start_of k) (own_frame k h)) (popped_services k)
    numbers (λ j. 0) (back_at to given) b) (f b)) →
    Reach k.code c f (popped_services k) (c + 1) (popped_services k)
    (λ b y. At b (i + 1) (Known (below_ground k h) (popped_services k) numbers (λ j. 0)
    (back_at to given) b) y)
frame_back k h numbers to given c f l there =
    let at = k.end.layer.at in
    let frame = own_frame k h in
    let v = popped_services k in
    straight c f v v
    (λ b y. Known (below_ground k h) v numbers (λ j. 0) (back_at to given) b y) l (omega arith)
    (λ b. (there b).pc)
    (λ b.
    let o = (there b).holds in
    let x = (f b).machine.registers in (
      at_place b (word_in at 4 frame refl (omega arith)) (sum (x 8) (word (pos 4)))
          (ap (λ u. sum u (word (pos 4))) (frame_is o.body)),
      record {
        body = record {
          services = o.body.services;
          registers = frame_put (leaving_ground k at (start_of k) frame) (below_ground k h) b numbers x _
              o.body.registers refl
              (ap (λ u. load 4 u (at + 4)) o.body.memory ∙ (own_words k h b).words.below);
          bytes = o.body.bytes;
          memory = o.body.memory;
        };
        regs = o.regs;
      },
    ))

jumped_back :
    (k : Leaving) (h : Leaves k) (z : IsLeaving k) (given : Base → ℕ) {i : ℕ} (c : ℕ) (f : Family) →
    Linked k.surroundings.links k.code i (Plain (I.JumpRegister zero_register return_register (pos 0)) ∷ []) →
    ((b : Base) → At b i (Known (below_ground k h) (popped_services k) (numbers_back k) (λ j. 0)
    (back_regs k given) b) (f b)) →
    Reach k.code c f (popped_services k) (c + 1) (popped_services k)
    (λ b y. At b k.end.back
    (Known (below_ground k h) (popped_services k) (numbers_back k) (λ j. 0) (back_regs k given) b) y)
jumped_back k h z given {i} c f l there =
    hop k.code c (c + 1) f (popped_services k)
    (λ b y. At b k.end.back (Known (below_ground k h) (popped_services k) (numbers_back k) (λ j. 0)
    (back_regs k given) b) y)
    (omega arith)
    (λ b.
    let o = (there b).holds in
    let inside = l.inside in
    let small' = l.small' in
    let back = z.back in
    let v = b.valid.1 in
    let e = o.regs.0 in (
      _,
      jump_register k.code b i k.end.back zero_register return_register (pos 0) (f b) (omega (arith, inside, small'))
          (there b).pc l.has.0.0 (same_sum _ _ e (omega (arith, v, back))),
      record {
        pc = refl;
        holds = record {
          body = record {
            services = o.body.services;
            registers = o.body.registers;
            bytes = o.body.bytes;
            memory = o.body.memory;
          };
          regs = o.regs;
        };
      },
    ))
  where
    same_sum : (x n : ℕ) → x ≡ n → n < 2 ^ 32 → sum x (word (pos 0)) ≡ n
    same_sum x n e few = omega (arith, e, few)

-- ---- the machine of the block below

pub goes_below :
    (k : Leaving) (h : Leaves k) (to given : Base → ℕ) (b : Base) (y : Whole) →
    Known (below_ground k h) (popped_services k) (numbers_back k) (λ j. 0) (back_at to given) b y →
    GoesBelow k.end.layer b.at (k.first b).machine y.machine
goes_below k h to given b y o =
    let words = (own_words k h b).words in
    let φ = k.end.layer in
    record {
      frame = frame_is o.body ∙ sym words.below;
      top = stack_is (below_ground k h) b (numbers_back k) y.machine.registers o.body.registers;
      registers = λ n less.
          held_is n (below_ground k h) b (numbers_back k) y.machine.registers less o.body.registers
          ∙ by n less (nat_lt n φ.saved) refl;
      memory = o.body.memory;
    }
  where
    by :
        (n : ℕ) → n < 7 → (q : Bool) → nat_lt n k.end.layer.saved ≡ q →
        numbers_back k n
        ≡ cond q (load 4 (memory_of k b) (k.end.layer.at + (8 + 4 * n))) (V.value (k.first b).machine (held n))
    by n less true e =
        let saved : n < k.end.layer.saved = ltb-true n k.end.layer.saved e in
        again_saved k.end.layer.held k.end.layer.saved 0 k.end.after n (omega arith) (omega (arith, saved))
        ∙ sym ((own_words k h b).words.saved n saved)
    by n less false e =
        let more : k.end.layer.saved ≤ n = grind (arith, nat_tests) in
        again_other k.end.layer.held k.end.layer.saved 0 k.end.after n (inr (omega (arith, more)))
        ∙ sym ((h.there b).at.registers n less)

pub record IsBack (k : Leaving) (given : Base → ℕ) (b : Base) (y : Whole) : Type 0 where
  pub is : IsIn k.surroundings (popped k.end.kept k.point) k.end.before k.end.back b y
  pub given_is : y.machine.registers 10 ≡ given b

is_back :
    (k : Leaving) (h : Leaves k) (given : Base → ℕ) (b : Base) (y : Whole) →
    At b k.end.back (Known (below_ground k h) (popped_services k) (numbers_back k) (λ j. 0) (back_regs k given) b) y →
    IsBack k given b y
is_back k h given b y o =
    record {
      is = record {
        services = o.holds.body.services;
        at = machine_below k.surroundings k.point k.end b.at (k.first b).machine y.machine h.stands h.newest
            (h.there b).at h.holds (goes_below k h (λ b'. address b' k.end.back) given b y o.holds) o.pc;
        zero = zero_is o.holds.body;
        bytes = o.holds.body.bytes;
      };
      given_is = o.holds.regs.1.0;
    }

-- ---- the whole end

abbrev last_code : Leaving → Code
last_code k = frame_ended k.end.layer.words ++ Plain (I.JumpRegister zero_register return_register (pos 0)) ∷ []

last_comes :
    (k : Leaving) (h : Leaves k) (z : IsLeaving k) (given : Base → ℕ) {i : ℕ} (c : ℕ) (f : Family) →
    Linked k.surroundings.links k.code i (last_code k) →
    ((b : Base) → At b i (Known (own_ground k h) (popped_services k) (numbers_back k) (λ j. 0) (back_regs k given) b)
    (f b)) →
    Reach k.code c f (popped_services k) (c + size_of (last_code k)) (popped_services k) (λ b y. IsBack k given b y)
last_comes k h z given c f l there =
    let to : Base → ℕ = λ b. address b k.end.back in
    let up = plus stack_register frame_register (neg_ℤ (pos (temporary_bytes k.end.layer.words))) in
    let below = load_word frame_register frame_register frame_below in
    let jump = Plain (I.JumpRegister zero_register return_register (pos 0)) ∷ [] in
    let l0 = front_of (up ++ below) jump l in
    let n0 = size_append (up ++ below) jump in
    let n1 = size_append up below in
    let r1 = stack_back k h (numbers_back k) to given c f (front_of up below l0) there in
    let r2 = frame_back k h (numbers_back k) to given (c + size_of up) (reached r1) (back_of up below l0)
    (reached_holds r1) in
    let r3 = jumped_back k h z given (c + size_of up + 1) (reached r2)
    (linked_at _ jump (omega (arith, n1)) (back_of (up ++ below) jump l)) (reached_holds r2) in
    reach_with (c + size_of (last_code k)) (omega (arith, n0, n1))
    (reach_map _ (reach_then r1 (reach_then r2 r3)) (λ b y o. is_back k h given b y o))

pub ends :
    (function : Option ℕ) (k : Leaving) (z : IsLeaving k) (given : Base → ℕ) (c : ℕ) → IsWord function →
    ((b : Base) → HasGiven k.end.layer function (given b) (k.first b)) →
    Linked k.surroundings.links k.code k.end.index (ending_code k.end.layer function) →
    Reach k.code c k.first (services_of k.point) (c + size_of (ending_code k.end.layer function)) (popped_services k)
    (λ b y. IsBack k given b y)
ends function k z given c word' has l =
    let h = leaves z in
    let ask = small a0 0 ∷ small a7 5 ∷ [] in
    let call = Plain I.Ecall ∷ [] in
    let gives = result_code function in
    let restores = all_restored k.end.layer.saved in
    let last = last_code k in
    let l1 = back_of ask (call ++ (gives ++ (restores ++ last))) l in
    let l2 = back_of call (gives ++ (restores ++ last)) l1 in
    let l3 = back_of gives (restores ++ last) l2 in
    let n0 = size_append gives (restores ++ last) in
    let n1 = size_append restores last in
    let r1 = leave_asked k h c (front_of ask (call ++ (gives ++ (restores ++ last))) l) refl in
    let r2 = leave_called k h (c + 2) (reached r1) (front_of call (gives ++ (restores ++ last)) l1)
    (reached_holds r1) in
    let r3 = result_loaded function k h given (c + 2 + 1) (reached r2) word' has (front_of gives (restores ++ last) l2)
    (reached_holds r2) in
    let r4 = all_loaded k h z given (c + 2 + 1 + size_of gives) (reached r3) (front_of restores last l3)
    (reached_holds r3) in
    let r5 = last_comes k h z given (c + 2 + 1 + size_of gives + size_of restores) (reached r4)
    (back_of restores last l3) (reached_holds r4) in
    reach_with (c + size_of (ending_code k.end.layer function)) (omega (arith, n0, n1))
    (reach_then r1 (reach_then r2 (reach_then r3 (reach_then r4 r5))))

-- ---- a begin block, whose end goes on behind it

inner_below :
    (k : Leaving) (h : Leaves k) (to given : Base → ℕ) (b : Base) (y : Whole) → k.end.layer.saved ≡ 0 →
    Known (below_ground k h) (popped_services k) k.end.after (λ j. 0) (back_at to given) b y →
    GoesBelow k.end.layer b.at (k.first b).machine y.machine
inner_below k h to given b y none o =
    record {
      frame = frame_is o.body ∙ sym (own_words k h b).words.below;
      top = stack_is (below_ground k h) b k.end.after y.machine.registers o.body.registers;
      registers = λ n less.
          held_is n (below_ground k h) b k.end.after y.machine.registers less o.body.registers
          ∙ sym ((h.there b).at.registers n less) ∙ by n (nat_lt n k.end.layer.saved) refl;
      memory = o.body.memory;
    }
  where
    by :
        (n : ℕ) (q : Bool) → nat_lt n k.end.layer.saved ≡ q →
        V.value (k.first b).machine (held n)
        ≡ cond q (load 4 (memory_of k b) (k.end.layer.at + (8 + 4 * n))) (V.value (k.first b).machine (held n))
    by n true e =
        let saved : n < k.end.layer.saved = ltb-true n k.end.layer.saved e in
        absurd (omega (arith, saved, none))
    by n false e = refl

pub inner_ends :
    (k : Leaving) (h : Leaves k) (c : ℕ) → k.end.layer.saved ≡ 0 →
    k.end.back ≡ k.end.index + size_of (inner_ending_code k.end.layer) →
    Linked k.surroundings.links k.code k.end.index (inner_ending_code k.end.layer) →
    Reach k.code c k.first (services_of k.point) (c + size_of (inner_ending_code k.end.layer)) (popped_services k)
    (λ b y. IsIn k.surroundings (popped k.end.kept k.point) k.end.before k.end.back b y)
inner_ends k h c none behind l =
    let ask = small a0 0 ∷ small a7 5 ∷ [] in
    let call = Plain I.Ecall ∷ [] in
    let up = plus stack_register frame_register (neg_ℤ (pos (temporary_bytes k.end.layer.words))) in
    let below = load_word frame_register frame_register frame_below in
    let l1 = back_of ask (call ++ (up ++ below)) l in
    let l2 = back_of call (up ++ below) l1 in
    let n = size_append up below in
    let r1 = leave_asked k h c (front_of ask (call ++ (up ++ below)) l) refl in
    let r2 = leave_called k h (c + 2) (reached r1) (front_of call (up ++ below) l1) (reached_holds r1) in
    let g = reached r2 in
    let to : Base → ℕ = λ b. (g b).machine.registers 1 in
    let zero' : Base → ℕ = λ b. 0 in
    let r3 = stack_back k h k.end.after to zero' (c + 2 + 1) g (front_of up below l2)
    (λ b. let o = reached_holds r2 b in record {
      pc = o.pc;
      holds = record { body = o.holds.body; regs = (refl, (o.holds.regs.0, tt)) };
    }) in
    let r4 = frame_back k h k.end.after to zero' (c + 2 + 1 + size_of up) (reached r3) (back_of up below l2)
    (reached_holds r3) in
    reach_with (c + size_of (inner_ending_code k.end.layer)) (omega (arith, n))
    (reach_map _ (reach_then r1 (reach_then r2 (reach_then r3 r4)))
    (λ b y o. record {
      services = o.holds.body.services;
      at = machine_below k.surroundings k.point k.end b.at (k.first b).machine y.machine h.stands h.newest
          (h.there b).at h.holds (inner_below k h to zero' b y none o.holds)
          (o.pc ∙ ap (address b) (omega (arith, behind, n)));
      zero = zero_is o.holds.body;
      bytes = o.holds.body.bytes;
    }))

pub left_below :
    (w : Surroundings) (code : List Instr) (q : Point) (e : BlockEnd) → Stands w q → IsImage w code q →
    q.control.layers ≡ e.layer ∷ e.others → Stands w (popped e.kept q) × IsImage w code (popped e.kept q)
left_below w code q e stands image newest = (
  left_stands w q e.layer e.others e.kept stands newest,
  subst (λ ls. IsImage w code (popped_from e.kept ls q)) (sym newest)
      (record {
        keeper = image.keeper;
        layout = image.layout;
        parts = image.parts;
        even = (subst (AreEven w.parts) newest image.even).1;
      }),
)

pub ended_stands :
    (w : Surroundings) (code : List Instr) (q : Point) (e : BlockEnd) → Stands w q → IsImage w code q → IsEnding q e →
    Stands w (popped e.kept q) × IsImage w code (popped e.kept q)
ended_stands w code q e stands image is = left_below w code q e stands image is.newest
