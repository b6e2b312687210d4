-- A procedure is called where as many blocks are active as may be: its frame is made, and service 4 ends the run.
use Rattle.std.proofs.Common.{◌≡◌, ℕ, suc, ◌+◌, ◌*◌, ◌^◌, ◌<◌, ◌≤◌, List, [], ◌∷◌, ◌++◌, None, false, refl}
use Rattle.std.proofs.Common.{sym, ap, ◌∙◌, subst, arith, length}
use Rattle.std.specs.Prelude.{nat_lt, pos}
use Rattle.rv_meaning.specs.declared.instr.Instr.{Instr}
use Rattle.rv_meaning.specs.declared.instr.Instr.TheVariants as I
use Rattle.rv_meaning.specs.Words.{word, sum}
use Rattle.pli_meaning.specs.Control.{finish}
use Rattle.pli_meaning.specs.StorageState.{most_activations}
use Rattle.pli_meaning.specs.World.{ending}
use Rattle.pli_meaning.specs.declared.outcome.End.TheVariants as E
use Rattle.pli_meaning.specs.declared.outcome.Limit.TheVariants as L
use Rattle.pli_serving.specs.Answers.{Ends, with_world}
use Rattle.pli_serving.specs.Blocks as B
use Rattle.pli_serving.specs.ServiceState as S
use Rattle.pli_coding.specs.Assembly.{Code, Plain, ProcedureEntry, size_of}
use Rattle.pli_coding.specs.Frames.{fixed_size, own_offset}
use Rattle.pli_coding.specs.Instructions.{load_word, move, number, small}
use Rattle.pli_coding.specs.Registers.{a0, a1, a2, a3, a7, frame_register, u5}
use Rattle.activation_relation.specs.Chains.{HasParent}
use Rattle.activation_relation.specs.CodeStores.{most_levels}
use Rattle.activation_relation.specs.FrameLaws.{AreWords}
use Rattle.activation_relation.specs.Frames.{frame_stores, frame_under, lower_end, stored, words_from}
use Rattle.activation_relation.specs.Layers.{Point, services_of}
use Rattle.activation_relation.specs.PointLaws.{IsNext}
use Rattle.activation_relation.specs.Points.{Stands, Surroundings}
use Rattle.activation_relation.specs.ServiceLaws.{IsEntering}
use Rattle.activation_relation.proofs.Blocks.{depth_answered}
use Rattle.activation_relation.proofs.PointSteps.{entered_memory}
use Rattle.activation_relation.proofs.StoredWords.{within_run}
use Rattle.run_steps.specs.Bodies.{Known, reserved, reserved_are}
use Rattle.run_steps.proofs.Bodies.{at_place, constant_piece, frame_is, zero_is}
use Rattle.run_steps.specs.Calls.{Calling}
use Rattle.run_steps.proofs.Calls.{acts, call_ends, called, comes_finish, end_pauses}
use Rattle.run_steps.specs.Engine.{Base, address, most_code}
use Rattle.run_steps.specs.Items.{At, Linked}
use Rattle.run_steps.proofs.Items.{straight}
use Rattle.run_steps.proofs.Jumps.{back_of, call_piece, front_of}
use Rattle.run_steps.proofs.Linking.{size_append}
use Rattle.run_steps.specs.Reach.{Aims, Closed, Comes, Family, Reach, cost, reached}
use Rattle.run_steps.proofs.Reach.{onward, reach_map, reach_then, reached_holds}
use Rattle.block_runs.specs.Beginnings.{Beginning, CallStands, IsCalled, IsCalling, beginning_code, begun_point}
use Rattle.block_runs.specs.Machines.{AreIn, IsImage, IsIn}
use Rattle.block_runs.proofs.BlockEntries.{small_is, word_fits, word_is}
use Rattle.block_runs.proofs.FrameBeginnings.{Begun, IsBegun, all_stored, all_words, frame_code, frame_made, new_frame}
use Rattle.block_runs.proofs.FrameBeginnings.{outside, regs_of}
use Rattle.block_runs.proofs.Places.{IsFrame, bounds, word_in}
use Rattle.block_runs.proofs.PointGrounds.{StandsIn, call_is, in_known, known_in, point_frame, point_ground}
use Rattle.block_runs.proofs.PointGrounds.{registers_in}
use Rattle.block_runs.proofs.StoredGrounds.{StoredOver, making_ground}

-- ---- what is premised: all that a beginning asks of a point but that one more block may be active

pub record IsDeep (w : Surroundings) (code : List Instr) (p : Point) (numbers : ℕ → ℕ) (x : Beginning) : Type 0 where
  pub stands : Stands w p
  pub image : IsImage w code p
  pub next : IsNext w p x.head x.entry x.layer
  pub entering : IsEntering p x.layer 0 x.texts
  pub full : nat_lt (length p.state.activations) most_activations ≡ false
  pub kind : x.layer.kind ≡ S.ProcedureBlock
  pub level : x.layer.level < most_levels
  pub line : x.head.line < 2 ^ 31
  pub few : x.texts < 2 ^ 32
  pub back : x.layer.back ≤ most_code
  pub held : x.layer.held ≡ numbers
  pub words : (n : ℕ) → n < x.layer.saved → numbers n < 2 ^ 32
  pub waits : (n : ℕ) → x.layer.waits n ≡ None
  pub told : (n : ℕ) → x.layer.told n ≡ None
  pub list : x.layer.list ≡ None
  pub top : x.layer.top ≡ x.layer.at + fixed_size x.layer.level x.layer.parameters
  pub lower : x.layer.lower ≡ lower_end w.parts p.control.layers

-- ---- its frame is made

abbrev pub begun_at : (w : Surroundings) (p : Point) (x : Beginning) → Family → Begun
begun_at w p x f =
    record {
      surroundings = w;
      point = p;
      layer = x.layer;
      parent = x.entry.parent;
      texts = λ b. x.texts;
      list = λ b. (f b).machine.registers 11;
      given = λ b. (f b).machine.registers 10;
      return = λ b. address b x.layer.back;
      first = λ b. (x.layer.at + 0, address b x.layer.back) ∷ words_from (x.layer.at + 8) x.layer.held 0 x.layer.saved;
    }

is_begun :
    {w : Surroundings} {code : List Instr} {p : Point} {numbers : ℕ → ℕ} {x : Beginning} (f : Family) →
    IsDeep w code p numbers x → ((b : Base) → IsCalled p x b (f b)) → IsBegun (begun_at w p x f)
is_begun {p = p} {x = x} f q at =
    record {
      active = q.stands.active;
      laid = (q.next.laid, q.stands.laid);
      parts = q.image.parts;
      even = q.image.even;
      level = q.level;
      has = subst (λ n. HasParent n x.entry.parent p.state.activations) (sym q.next.layer.level) q.next.layer.parent;
      parent = λ b. (at b).calling.parent;
      lower = q.lower;
      top = q.top;
      within = λ b.
          let most : x.layer.saved ≤ 7 = q.next.laid.saved in (
            (omega arith, omega arith),
            within_run x.layer.at (144 + 4 * x.layer.level) (x.layer.at + 8) x.layer.held 0 x.layer.saved (omega arith)
                (omega (arith, most)),
          );
    }

are_words :
    {w : Surroundings} {code : List Instr} {p : Point} {numbers : ℕ → ℕ} {x : Beginning} →
    IsDeep w code p numbers x → (b : Base) → AreWords b.at x.layer
are_words {w} {p = p} {x = x} q b =
    let o = bounds w.parts p.control.layers q.stands.laid in
    let v = b.valid.1 in
    let back = q.back in
    let high = o.high in
    let last = q.image.parts.inside in
    let lower = q.lower in
    record {
      back = omega (arith, v, back);
      held = λ n less. subst (λ h. h n < 2 ^ 32) (sym q.held) (q.words n less);
      base_fits = omega (arith, v, high, last, lower);
    }

pub new_point_frame :
    {w : Surroundings} {code : List Instr} {p : Point} {numbers : ℕ → ℕ} {x : Beginning} (f : Family) →
    IsDeep w code p numbers x → ((b : Base) → IsCalled p x b (f b)) →
    IsFrame (frame_under w.parts (begun_point x p).control.layers)
new_point_frame {w} {p = p} {x = x} f q at = new_frame (begun_at w p x f) (is_begun f q at)

memory_new :
    {w : Surroundings} {code : List Instr} {p : Point} {numbers : ℕ → ℕ} {x : Beginning} (f : Family) →
    IsDeep w code p numbers x → (b : Base) (m : List ℕ) → StoredOver w p (all_words (begun_at w p x f) b) b m →
    StandsIn w (begun_point x p) b m
memory_new {w} {p = p} {x = x} f q b m o =
    let k = begun_at w p x f in
    let e : m ≡ stored (frame_stores w.parts b.at x.entry.parent p.state.activations x.layer p.control.layers) o.first =
    o.is ∙ ap (λ xs. stored xs o.first) (all_stored k b q.kind refl) in
    let high = (bounds w.parts p.control.layers q.stands.laid).high in
    let last = q.image.parts.inside in
    let lower = q.lower in
    let bytes = o.bytes in
    let r = entered_memory w p b.at o.first x.head x.entry x.layer x.head.line (q.stands, o.storage, o.frames)
    (q.next.laid, are_words q b, omega (arith, high, last, lower, bytes), q.waits, q.list, q.told) in
    subst (StandsIn w (begun_point x p) b) (sym e) (record { storage = r.0; frames = r.1 })

pub frame_comes :
    {w : Surroundings} {code : List Instr} {p : Point} {numbers : ℕ → ℕ} {x : Beginning} (c index : ℕ) (f : Family)
    (q : IsDeep w code p numbers x) (at : (b : Base) → IsCalled p x b (f b)) →
    Linked w.links code index (frame_code (begun_at w p x f)) → ((b : Base) → IsIn w p numbers index b (f b)) →
    Reach code c f (services_of p) (c + size_of (frame_code (begun_at w p x f))) (services_of p)
    (λ b y. At b (index + size_of (frame_code (begun_at w p x f)))
    (Known (point_ground w (begun_point x p) (new_point_frame f q at)) (services_of p) numbers (λ n. 0)
    (regs_of (begun_at w p x f)) b) y)
frame_comes {w} {p = p} {numbers = numbers} {x = x} c index f q at l there =
    let k = begun_at w p x f in
    let h = is_begun f q at in
    let r = frame_made k h {t = λ n. 0} c f (λ b. refl) l
    (λ b. record {
      pc = (there b).at.pc;
      holds = record {
        body = record {
          services = (there b).services;
          registers = registers_in (making_ground (outside k h) (λ b'. [])) refl refl
              (subst (λ n. IsIn w p n index b (f b)) (sym q.held) (there b));
          bytes = (there b).bytes;
          memory = record {
            first = (f b).machine.memory;
            bytes = (there b).bytes;
            storage = (there b).at.storage;
            frames = (there b).at.frames;
            is = refl;
          };
        };
        regs = (refl, (refl, ((at b).calling.texts, ((at b).return, tt))));
      };
    }) in
    reach_map _ r
    (λ b y o. record {
      pc = o.pc;
      holds = record {
        body = record {
          services = o.holds.body.services;
          registers = subst (λ n. reserved y.machine.registers ≡ reserved_are b
              (point_ground w (begun_point x p) (new_point_frame f q at)) n) q.held o.holds.body.registers;
          bytes = o.holds.body.bytes;
          memory = memory_new f q b y.machine.memory o.holds.body.memory;
        };
        regs = o.holds.regs.1;
      };
    })

-- ---- service 4 is asked

abbrev enter_front : Code
enter_front = move u5 a1 ∷ move a3 a2 ∷ (load_word a1 frame_register own_offset ++ small a0 0 ∷ [])

abbrev enter_regs : (at texts : ℕ) → Base → List (ℕ × ℕ)
enter_regs at texts b = (10, 0) ∷ (11, at) ∷ (13, texts) ∷ []

pub moved_word : (x n : ℕ) → x ≡ n → n < 2 ^ 32 → sum x (word (pos 0)) ≡ n
moved_word x n e few = omega (arith, e, few)

front_comes :
    {w : Surroundings} {code : List Instr} {p : Point} {numbers : ℕ → ℕ} {x : Beginning} {i : ℕ} (c : ℕ)
    (f g : Family) (q : IsDeep w code p numbers x) (at : (b : Base) → IsCalled p x b (f b)) →
    Linked w.links code i enter_front →
    ((b : Base) → At b i (Known (point_ground w (begun_point x p) (new_point_frame f q at)) (services_of p) numbers
    (λ n. 0) (regs_of (begun_at w p x f)) b) (g b)) →
    Reach code c g (services_of p) (c + 4) (services_of p)
    (λ b y. At b (i + 4) (Known (point_ground w (begun_point x p) (new_point_frame f q at)) (services_of p) numbers
    (λ n. 0) (enter_regs x.layer.at x.texts) b) y)
front_comes {w} {p = p} {numbers = numbers} {x = x} c f g q at l there =
    let frame = new_point_frame f q at in
    let v = services_of p in
    straight c g v v
    (λ b y. Known (point_ground w (begun_point x p) frame) v numbers (λ n. 0) (enter_regs x.layer.at x.texts) b y)
    l (omega arith) (λ b. (there b).pc)
    (λ b.
    let o = (there b).holds in
    let r = (g b).machine.registers in (
      at_place b (word_in x.layer.at 36 frame refl (omega arith)) (sum (r 8) (word (pos 36)))
          (ap (λ u. sum u (word (pos 36))) (frame_is o.body)),
      record {
        body = record {
          services = o.body.services;
          registers = o.body.registers;
          bytes = o.body.bytes;
          memory = o.body.memory;
        };
        regs = (
          small_is (r 0) 0 (zero_is o.body) (omega arith),
          (o.body.memory.frames.0.own, (moved_word (r 12) x.texts o.regs.1.1.1.0 q.few, tt)),
        );
      },
    ))

asked_comes :
    {w : Surroundings} {code : List Instr} {p : Point} {numbers : ℕ → ℕ} {x : Beginning} {i : ℕ} (c : ℕ)
    (f g : Family) (q : IsDeep w code p numbers x) (at : (b : Base) → IsCalled p x b (f b)) →
    Linked w.links code i (number a2 x.head.line) →
    Linked w.links code (i + size_of (number a2 x.head.line)) (small a7 4 ∷ []) →
    ((b : Base) → At b i (Known (point_ground w (begun_point x p) (new_point_frame f q at)) (services_of p) numbers
    (λ n. 0) (enter_regs x.layer.at x.texts) b) (g b)) →
    Reach code c g (services_of p) (c + size_of (number a2 x.head.line) + 1) (services_of p)
    (λ b y. At b (i + size_of (number a2 x.head.line) + 1) (Known (point_ground w (begun_point x p)
    (new_point_frame f q at)) (services_of p) numbers (λ n. 0)
    (λ b'. (17, 4) ∷ (12, x.head.line) ∷ enter_regs x.layer.at x.texts b') b) y)
asked_comes {w} {p = p} {numbers = numbers} {x = x} c f g q at l l' there =
    let frame = new_point_frame f q at in
    let v = services_of p in
    let line = x.head.line in
    let m = number a2 line in
    let r1 = constant_piece c g a2 (pos line) (word_fits line q.line)
    (record { reserved_stay = λ y u. refl; known_stay = λ b y u o. o; set = λ y u. refl }) l there in
    let r2 = straight (c + size_of m) (reached r1) v v
    (λ b y. Known (point_ground w (begun_point x p) frame) v numbers (λ n. 0)
    (λ b'. (17, 4) ∷ (12, line) ∷ enter_regs x.layer.at x.texts b') b y)
    l' (omega arith) (λ b. (reached_holds r1 b).pc)
    (λ b. let o = (reached_holds r1 b).holds in record {
      body = record {
        services = o.body.services;
        registers = o.body.registers;
        bytes = o.body.bytes;
        memory = o.body.memory;
      };
      regs = (small_is _ 4 (zero_is o.body) (omega arith), (o.regs.0 ∙ word_is line q.line, o.regs.1));
    }) in
    reach_then r1 r2

-- ---- and ends the run, or the run pauses before

pub one_more : (n : ℕ) → n + 1 ≡ suc n
one_more n = omega arith

answer_ends :
    {R : Type 0} {w : Surroundings} {code : List Instr} {p : Point} {numbers : ℕ → ℕ} {x : Beginning} {i : ℕ}
    {aims : Aims R} (c : ℕ) (f g : Family) (q : IsDeep w code p numbers x)
    (at : (b : Base) → IsCalled p x b (f b)) → (c < cost code) × (w.acts + 1 < 2 ^ 64) →
    Linked w.links code i (Plain I.Ecall ∷ []) →
    ((b : Base) → At b i (Known (point_ground w (begun_point x p) (new_point_frame f q at)) (services_of p) numbers
    (λ n. 0) (λ b'. (17, 4) ∷ (12, x.head.line) ∷ enter_regs x.layer.at x.texts b') b) (g b)) →
    Comes code c g (services_of p) aims (finish {R = R} (E.Limit L.Depth) w.acts p.state)
answer_ends {w = w} {code = code} {p = p} {x = x} {i = i} c f g q at fits l there =
    let v = services_of p in
    let v' = with_world (ending (E.Limit L.Depth) v.world) v in
    let calling : Calling w.links code i g (λ b. Ends v') = record {
      linked = l;
      pc = λ b. (there b).pc;
      answers = λ b.
          let o = (there b).holds in
          let m = (g b).machine.memory in
          called code (g b) v 4 0 x.layer.at x.head.line x.texts _
          (λ call x0 x1 x2 x3 x4. B.enter_served call x0 x1 x2 x3)
          o.body.services o.regs.0 o.regs.1.1.0 o.regs.1.1.1.0 o.regs.1.0 o.regs.1.1.1.1.0 refl (λ call y. refl)
          ∙ ap (λ call. B.enter_served call 0 x.layer.at x.head.line x.texts) (call_is w code p m q.image)
          ∙ depth_answered w.units p m x.layer 0 x.texts x.head.line q.stands.active q.entering q.full
          ∙ acts v w.acts (Ends v') q.stands.allowed fits.1;
    } in
    comes_finish v' (E.Limit L.Depth) w.acts p.state refl refl
    (end_pauses c g v v' fits.0 q.stands.running (λ b. (there b).holds.body.services) (one_more v.world.acts) calling)
    (call_ends c g v v' (λ e. cc e) calling)

-- ---- the call

call_jumps :
    {w : Surroundings} {code : List Instr} {p : Point} {numbers : ℕ → ℕ} {x : Beginning} (c call entry : ℕ) (f : Family)
    (q : IsDeep w code p numbers x) → CallStands w code x call entry → AreIn w p numbers call f →
    ((b : Base) → IsCalling p x b (f b)) →
    Reach code c f (services_of p) (c + 2) (services_of p) (λ b y. IsIn w p numbers entry b y × IsCalled p x b y)
call_jumps {w} {p = p} {x = x} c call entry f q s there gives =
    let inside = s.begins.inside in
    let small' = s.begins.small' in
    let h = point_frame q.stands q.image in
    let r = call_piece {t = λ n. 0} {rs = λ b. (10, (f b).machine.registers 10) ∷ (12, x.texts) ∷ []} c (c + 2) f
    (ProcedureEntry x.head.number) entry (omega arith)
    s.place (omega (arith, inside, small'))
    (record { reserved_stay = λ y u. refl; known_stay = λ b y u o. o; set = λ y u. refl }) s.calls
    (λ b. known_in h (there b) (refl, ((gives b).texts, tt))) in
    reach_map _ r
    (λ b y o. (
      in_known h q.image.parts o,
      record {
        calling = record {
          parent = λ some. o.holds.regs.1.0 ∙ (gives b).parent some;
          texts = o.holds.regs.1.1.0;
        };
        return = o.holds.regs.0 ∙ ap (address b) (sym s.back);
      },
    ))

pub deep_comes :
    {R : Type 0} {w : Surroundings} {code : List Instr} {p : Point} {numbers : ℕ → ℕ} {x : Beginning}
    {aims : Aims R} → Closed code aims → (c call entry : ℕ) (f : Family) → IsDeep w code p numbers x →
    CallStands w code x call entry → (c + 2 + size_of (beginning_code x) ≤ cost code) × (w.acts + 1 < 2 ^ 64) →
    AreIn w p numbers call f → ((b : Base) → IsCalling p x b (f b)) →
    Comes code c f (services_of p) aims (finish {R = R} (E.Limit L.Depth) w.acts p.state)
deep_comes {w = w} {code = code} {p = p} {x = x} closed c call entry f q s fits there gives =
    let r0 = call_jumps c call entry f q s there gives in
    onward closed r0
    (λ f' at'.
    let at : (b : Base) → IsCalled p x b (f' b) = λ b. (at' b).1 in
    let first = frame_code (begun_at w p x f') in
    let line = number a2 x.head.line in
    let one = small a7 4 ∷ [] in
    let last = Plain I.Ecall ∷ [] in
    let l = s.begins in
    let l1 = back_of first (enter_front ++ (line ++ (one ++ last))) l in
    let l2 = back_of enter_front (line ++ (one ++ last)) l1 in
    let l3 = back_of line (one ++ last) l2 in
    let n0 = size_append first (enter_front ++ (line ++ (one ++ last))) in
    let n1 = size_append line (one ++ last) in
    let paid = fits.0 in
    let r1 = frame_comes (c + 2) entry f' q at (front_of first (enter_front ++ (line ++ (one ++ last))) l)
    (λ b. (at' b).0) in
    let r2 = front_comes (c + 2 + size_of first) f' (reached r1) q at
    (front_of enter_front (line ++ (one ++ last)) l1) (reached_holds r1) in
    let r3 = asked_comes (c + 2 + size_of first + 4) f' (reached r2) q at (front_of line (one ++ last) l2)
    (front_of one last l3) (reached_holds r2) in
    onward closed (reach_then r1 (reach_then r2 r3))
    (λ g there'.
    answer_ends (c + 2 + size_of first + 4 + size_of line + 1) f' g q at (omega (arith, n0, n1, paid), fits.1)
    (back_of one last l3) there'))
