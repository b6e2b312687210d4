-- The code that makes a variable on the lower stack, behind its extents.
use Rattle.std.proofs.Common.{◌≡◌, inl, ℕ, ◌+◌, ◌-◌, ◌*◌, ◌^◌, ◌<◌, ◌≤◌, List, [], ◌∷◌, ◌++◌, length, None, Some}
use Rattle.std.proofs.Common.{refl, sym, ap, ◌∙◌, subst, arith}
use Rattle.std.proofs.lemmas.Int.{ints}
use Rattle.std.specs.Prelude.{negsuc, pos}
use Rattle.rv_meaning.specs.declared.instr.Instr.{Instr}
use Rattle.rv_meaning.specs.declared.instr.Instr.TheVariants as I
use Rattle.rv_meaning.specs.declared.instr.ImmediateOp.TheVariants as Imm
use Rattle.rv_meaning.specs.declared.instr.RegisterOp.TheVariants as Op
use Rattle.rv_meaning.specs.Machine.{memory_size}
use Rattle.rv_meaning.specs.Memory.{load, store}
use Rattle.rv_meaning.specs.Words.{operated, sum, word}
use Rattle.rv_meaning.proofs.MemoryLaws.{length-store, load-store_other}
use Rattle.pli_meaning.specs.StorageState.{Activation}
use Rattle.pli_serving.specs.Answers.{Done}
use Rattle.pli_coding.specs.Assembly.{Code, Plain, size_of}
use Rattle.pli_coding.specs.Entries.{lower_taken}
use Rattle.pli_coding.specs.Environments.{none_taken}
use Rattle.pli_coding.specs.Extents.{bytes_word, initial_code, initial_given, number_word}
use Rattle.pli_coding.specs.Frames.{name_bytes, own_offset}
use Rattle.pli_coding.specs.Instructions.{is_immediate, load_word, move, plus, small, service}
use Rattle.pli_coding.specs.Registers.{a0, a1, a2, a3, a4, a7, frame_register, stack_register, u1, u2}
use Rattle.pli_coding.specs.StaticForms.{initial_datum}
use Rattle.storage_relation.specs.Changes.{with_memory}
use Rattle.storage_relation.specs.Served.{Holds}
use Rattle.activation_relation.specs.Frames.{AreLaid, FramesStand, frame_bytes, frame_start, frame_under, upper_top}
use Rattle.activation_relation.specs.Layers.{Layer, Point, now, services_of}
use Rattle.activation_relation.specs.Owned.{AreOwned}
use Rattle.activation_relation.specs.Points.{Stands, Surroundings}
use Rattle.activation_relation.specs.Variables.{newest_grown}
use Rattle.activation_relation.proofs.FrameWords.{levels_covered}
use Rattle.activation_relation.proofs.OwnPlaces.{clear_within, frame_clear, stores_hold}
use Rattle.run_steps.specs.Bodies.{Ground, Known, with'}
use Rattle.run_steps.proofs.Bodies.{at_place, displaced_by, frame_is, load_piece, lose_known, set_known, zero_is}
use Rattle.run_steps.specs.Calls.{Calling}
use Rattle.run_steps.proofs.Calls.{call_done, called}
use Rattle.run_steps.specs.Engine.{Base}
use Rattle.run_steps.specs.Items.{At, Linked}
use Rattle.run_steps.proofs.Items.{straight}
use Rattle.run_steps.proofs.Jumps.{back_of, front_of}
use Rattle.run_steps.proofs.Linking.{size_append}
use Rattle.run_steps.proofs.Numbers.{above_small, above_sum}
use Rattle.run_steps.specs.Reach.{Family, Reach, reached}
use Rattle.run_steps.proofs.Reach.{reach_map, reach_then, reached_holds}
use Rattle.run_steps.proofs.Reaching.{reach_moved}
use Rattle.run_steps.specs.Temporaries.{nothing}
use Rattle.run_steps.specs.Unlimited as U
use Rattle.block_runs.specs.Machines.{AreIn, IsImage, IsIn}
use Rattle.block_runs.proofs.BlockEntries.{small_is}
use Rattle.block_runs.proofs.FrameBeginnings.{stack_put}
use Rattle.block_runs.proofs.Places.{IsFrame, bounds, ground_at, word_in}
use Rattle.block_runs.proofs.PointGrounds.{StandsIn, in_known, known_in, point_frame, point_ground}
use Rattle.program_runs.proofs.Variables.{own_code, own_coded}
use Rattle.extent_runs.specs.Placing.{Adjustable, IsPlacement, Placement, PlacingCoded, adjusted}
use Rattle.extent_runs.specs.Placing.{adjusted_memory, made_below, placing_code}
use Rattle.extent_runs.proofs.Placing.{adjusted_frames, adjusted_holds, adjusted_served, adjusted_stands, made_length}
use Rattle.extent_runs.proofs.Words.{first_place, second_place}

pub placing_coded : PlacingCoded
placing_coded z line = refl

-- ---- grounds

-- where the code begins: the name's place is the end of the frame, number and bytes wait in words of it, and the lower
-- stack's new top is a word, whether it has that much room or not
pub record IsSited (w : Surroundings) (p : Point) (z : Placement) (low : ℕ) : Type 0 where
  pub newest : p.control.layers ≡ z.layer ∷ z.others
  pub here : z.layer.at + z.variable.place ≡ z.layer.top
  pub initial : initial_datum z.declared ≡ None
  pub words : 2 ≤ z.layer.words
  pub number : z.layer.waits 0 ≡ Some z.variable.number
  pub bytes : z.layer.waits 1 ≡ Some z.variable.bytes
  pub lowers : operated Op.Subtract z.layer.lower z.variable.bytes ≡ low
  pub small' : low < 2 ^ 32

-- the top of the lower stack has been kept in the frame
pub record IsLowered (w : Surroundings) (p : Point) (φ : Layer) (low : ℕ) (b : Base) (m : List ℕ) : Type 0 where
  pub first : List ℕ
  pub bytes : length first ≡ memory_size
  pub stands : StandsIn w p b first
  pub is : m ≡ store 4 first (φ.at + 40) low

-- the upper stack has grown by the name
abbrev pub grown_ground : (w : Surroundings) (p : Point) (φ : Layer) → Adjustable → IsFrame φ.at → Ground
grown_ground w p φ x h = ground_at φ.at (φ.at + (x.place + name_bytes)) h (λ b m. StandsIn w p b m)

abbrev pub lowered_ground : (w : Surroundings) (p : Point) (φ : Layer) → Adjustable → (low : ℕ) → IsFrame φ.at → Ground
lowered_ground w p φ x low h = ground_at φ.at (φ.at + (x.place + name_bytes)) h (λ b m. IsLowered w p φ low b m)

-- words of the newest frame
pub record FrameTold (φ : Layer) (x : Adjustable) (m : List ℕ) : Type 0 where
  pub own : load 4 m (φ.at + 36) ≡ φ.at
  pub lower : load 4 m (φ.at + 40) ≡ φ.lower
  pub number : load 4 m (φ.at - 4) ≡ x.number
  pub bytes : load 4 m (φ.at - 8) ≡ x.bytes

frame_told :
    {w : Surroundings} {p : Point} {low : ℕ} (z : Placement) (base : ℕ) (m : List ℕ) → IsSited w p z low →
    FramesStand w.parts base m p.state.activations p.control.layers → FrameTold z.layer z.variable m
frame_told {w} {p} z base m k frames =
    by p.state.activations (subst (FramesStand w.parts base m p.state.activations) k.newest frames)
  where
    by : (as' : List Activation) → FramesStand w.parts base m as' (z.layer ∷ z.others) →
        FrameTold z.layer z.variable m
    by [] h = absurd h
    by (a ∷ as') h =
        let words = k.words in
        record {
          own = h.0.own;
          lower = h.0.lower;
          number = h.0.waits 0 z.variable.number (omega (arith, words)) k.number;
          bytes = h.0.waits 1 z.variable.bytes (omega (arith, words)) k.bytes;
        }

-- the same once the lower stack's top has been kept
lowered_told :
    {w : Surroundings} {p : Point} {low : ℕ} {b : Base} {m : List ℕ} (z : Placement) → IsSited w p z low →
    8 ≤ z.layer.at → IsLowered w p z.layer low b m →
    (load 4 m (z.layer.at + 36) ≡ z.layer.at) × (load 4 m (z.layer.at - 4) ≡ z.variable.number)
lowered_told {low = low} {b = b} {m = m} z k some o =
    let φ = z.layer in
    let x = z.variable in
    let t = frame_told z b.at o.first k o.stands.frames in
    let v = low in (
      ap (λ m'. load 4 m' (φ.at + 36)) o.is
          ∙ load-store_other 4 4 o.first (φ.at + 40) v (φ.at + 36) (inl (omega arith))
          ∙ t.own,
      ap (λ m'. load 4 m' (φ.at - 4)) o.is
          ∙ load-store_other 4 4 o.first (φ.at + 40) v (φ.at - 4) (inl (omega (arith, some)))
          ∙ t.number,
    )

-- ---- the upper stack grows by the name

-- where all of it lies
pub record Bounded (w : Surroundings) (p : Point) (z : Placement) : Type 0 where
  pub frame : frame_under w.parts p.control.layers ≡ z.layer.at
  pub is : IsFrame z.layer.at
  pub room : z.layer.lower + 2 ^ 12 ≤ 15 * 2 ^ 20
  pub few : z.layer.at + (z.variable.place + name_bytes) < 2 ^ 24
  pub start : z.layer.at + 48 ≤ z.layer.top

pub bounded :
    {w : Surroundings} {code : List Instr} {p : Point} {low : ℕ} (z : Placement) → Stands w p × IsImage w code p →
    IsSited w p z low → Bounded w p z
bounded {w} {p = p} z known k =
    let same = ap (λ ls. frame_under w.parts ls) k.newest in
    let laid = subst (AreLaid w.parts) k.newest known.0.laid in
    let o = bounds w.parts (z.layer ∷ z.others) laid in
    let high = o.high in
    let above = o.above in
    let last = known.1.parts.inside in
    let here = k.here in
    let free = laid.0.free in
    record {
      frame = same;
      is = subst IsFrame same (point_frame known.0 known.1);
      room = omega (arith, high, last);
      few = omega (arith, here, free, high, last);
      start = above;
    }

pub stack_grows :
    {w : Surroundings} {code : List Instr} {p : Point} {numbers : ℕ → ℕ} {i : ℕ} (z : Placement) (c : ℕ) (f : Family) →
    Stands w p × IsImage w code p → (o : Bounded w p z) →
    Linked w.links code i (plus stack_register frame_register (pos (z.variable.place + name_bytes))) →
    ((b : Base) → IsIn w p numbers i b (f b)) →
    Reach code c f (services_of p)
    (c + size_of (plus stack_register frame_register (pos (z.variable.place + name_bytes)))) (services_of p)
    (λ b y. At b (i + size_of (plus stack_register frame_register (pos (z.variable.place + name_bytes))))
    (Known (grown_ground w p z.layer z.variable o.is) (services_of p) numbers (λ n. 0) nothing b) y)
stack_grows {w} {p = p} {numbers = numbers} z c f known o l there =
    let n = z.variable.place + name_bytes in
    let at = frame_under w.parts p.control.layers in
    let h = point_frame known.0 known.1 in
    let g = point_ground w p h in
    let g' = grown_ground w p z.layer z.variable o.is in
    let v = services_of p in
    let few = o.few in
    let same = o.frame in
    displaced_by (is_immediate (pos n)) c f (λ s d. I.Immediate Imm.Add stack_register s d) frame_register (pos n)
    (λ b. b.at + at) (Known g v numbers (λ m. 0) nothing) (Known g' v numbers (λ m. 0) nothing)
    (above_small n (omega (arith, few))) (λ b. let base = b.valid.1 in omega (arith, few, same, base)) (λ y u. refl)
    (λ b. frame_is (known_in {t = λ m. 0} {rs = nothing} h (there b) tt).holds.body) (omega arith)
    (record {
      does = λ b j y s d q e. record {
        body = record {
          services = q.body.services;
          registers = stack_put g g' b numbers y.machine.registers (sum (y.machine.registers s.index) (word d))
              q.body.registers same
              (e ∙ above_sum b.at at n b.valid.1 (omega (arith, few, same)) ∙ ap (λ u. b.at + (u + n)) same);
          bytes = q.body.bytes;
          memory = q.body.memory;
        };
        regs = tt;
      };
      lost = λ b y u j q. lose_known y 31 u j
          (record { reserved_stay = λ y' u'. refl; known_stay = λ b' y' u' o'. o'; set = λ y' u'. refl }) q;
    })
    l (λ b. known_in {t = λ m. 0} {rs = nothing} h (there b) tt)

-- ---- the lower one by the bytes to reserve

abbrev pub lowering_code : Code
lowering_code = load_word u2 frame_register (bytes_word none_taken) ++ lower_taken

less_bytes : (n k : ℕ) → k ≤ n → n < 2 ^ 32 → operated Op.Subtract n k ≡ n - k
less_bytes n k some few = omega (arith, some, few)

abbrev pub lower_regs : (low : ℕ) → Base → List (ℕ × ℕ)
lower_regs low b = (6, low) ∷ []

pub lower_grows :
    {w : Surroundings} {code : List Instr} {p : Point} {numbers : ℕ → ℕ} {i : ℕ} {low : ℕ} (z : Placement) (c : ℕ)
    (f : Family) → IsSited w p z low → (o : Bounded w p z) → Linked w.links code i lowering_code →
    ((b : Base) → At b i (Known (grown_ground w p z.layer z.variable o.is) (services_of p) numbers (λ n. 0) nothing b)
    (f b)) →
    Reach code c f (services_of p) (c + 4) (services_of p)
    (λ b y. At b (i + 4) (Known (lowered_ground w p z.layer z.variable low o.is) (services_of p) numbers (λ n. 0)
    (lower_regs low) b) y)
lower_grows {w} {p = p} {numbers = numbers} {low = low} z c f k o l there =
    let v = services_of p in
    let φ = z.layer in
    let x = z.variable in
    let h = o.is in
    let high = h.high in
    let small' = l.small' in
    straight c f v v
    (λ b y. Known (lowered_ground w p φ x low h) v numbers (λ n. 0) (lower_regs low) b y) l (omega arith)
    (λ b. (there b).pc)
    (λ b.
    let q = (there b).holds in
    let y = (f b).machine.registers in
    let m = (f b).machine.memory in
    let frame = frame_is q.body in
    let t = frame_told z b.at m k q.body.memory.frames in
    let less = ap (λ u. operated Op.Subtract u (load 4 m (φ.at - 8))) t.lower
    ∙ ap (λ u. operated Op.Subtract φ.lower u) t.bytes ∙ k.lowers in (
      at_place b (second_place φ.at h) (sum (y 8) (word (negsuc 7))) (ap (λ u. sum u (word (negsuc 7))) frame),
      (
        at_place b (word_in φ.at 40 h refl (omega arith)) (sum (y 8) (word (pos 40)))
            (ap (λ u. sum u (word (pos 40))) frame),
        (
          at_place b (word_in φ.at 40 h refl (omega arith)) (sum (y 8) (word (pos 40)))
              (ap (λ u. sum u (word (pos 40))) frame),
          omega (arith, small', high),
          record {
            body = record {
              services = q.body.services;
              registers = q.body.registers;
              bytes = length-store 4 m (φ.at + 40) (operated Op.Subtract (load 4 m (φ.at + 40)) (load 4 m (φ.at - 8)))
                  ∙ q.body.bytes;
              memory = record {
                first = m;
                bytes = q.body.bytes;
                stands = q.body.memory;
                is = ap (store 4 m (φ.at + 40)) less;
              };
            };
            regs = (less, tt);
          },
        ),
      ),
    ))

-- ---- the name's place

offset_sum : (at n : ℕ) → at + n < 2 ^ 24 → sum at (word (pos n)) ≡ at + n
offset_sum at n few = omega (arith, ints, few)

abbrev pub name_regs : Layer → Adjustable → (low : ℕ) → Base → List (ℕ × ℕ)
name_regs φ x low b = (10, φ.at + x.place) ∷ lower_regs low b

pub name_placed :
    {w : Surroundings} {code : List Instr} {p : Point} {numbers : ℕ → ℕ} {i : ℕ} {low : ℕ} (z : Placement) (c : ℕ)
    (f : Family) → IsSited w p z low → (o : Bounded w p z) → Linked w.links code i (own_code a0 z.variable.place) →
    ((b : Base) → At b i (Known (lowered_ground w p z.layer z.variable low o.is) (services_of p) numbers (λ n. 0)
    (lower_regs low) b) (f b)) →
    Reach code c f (services_of p) (c + size_of (own_code a0 z.variable.place)) (services_of p)
    (λ b y. At b (i + size_of (own_code a0 z.variable.place)) (Known (lowered_ground w p z.layer z.variable low o.is)
    (services_of p) numbers (λ n. 0) (name_regs z.layer z.variable low) b) y)
name_placed {w} {p = p} {numbers = numbers} {low = low} z c f k o l there =
    let φ = z.layer in
    let x = z.variable in
    let place = x.place in
    let g = lowered_ground w p φ x low o.is in
    let v = services_of p in
    let few = o.few in
    let high = o.is.high in
    let rs = lower_regs low in
    let first = load_word a0 frame_register own_offset in
    let second = plus a0 a0 (pos place) in
    let n = size_append first second in
    let r1 = load_piece {rs = rs} c f a0 own_offset (φ.at + 36) (λ b. φ.at) (word_in φ.at 36 o.is refl (omega arith))
    (λ b m q. (lowered_told z k (omega (arith, high)) q).0)
    (record { reserved_stay = λ y u. refl; known_stay = λ b y u q. q; set = λ y u. refl })
    (record { reserved_stay = λ y u. refl; known_stay = λ b y u q. q; set = λ y u. refl })
    (front_of first second l) there in
    let r2 = displaced_by (is_immediate (pos place)) (c + size_of first) (reached r1)
    (λ q d. I.Immediate Imm.Add a0 q d) a0 (pos place) (λ b. φ.at)
    (Known g v numbers (λ n'. 0) (with' 10 (λ b. φ.at) rs)) (Known g v numbers (λ n'. 0) (name_regs φ x low))
    (above_small place (omega (arith, few))) (λ b. omega (arith, few)) (λ y u. refl)
    (λ b. (reached_holds r1 b).holds.regs.0) (omega arith)
    (record {
      does = λ b j y q d t e.
          set_known {rs = rs} y 10 (sum (y.machine.registers q.index) (word d)) _ (λ b'. φ.at + place)
          (record { reserved_stay = λ y' u. refl; known_stay = λ b' y' u t'. t'; set = λ y' u. refl })
          (e ∙ offset_sum φ.at place (omega (arith, few))) (record { body = t.body; regs = t.regs.1 });
      lost = λ b y u j t.
          lose_known y 31 u j
          (record { reserved_stay = λ y' u'. refl; known_stay = λ b' y' u' t'. t'; set = λ y' u'. refl }) t;
    })
    (back_of first second l) (reached_holds r1) in
    reach_moved (omega (arith, n)) (omega (arith, n)) (reach_then r1 r2)

-- ---- what service 7 is given, and its call

abbrev pub given_code : Code
given_code =
    load_word a1 frame_register (number_word none_taken)
    ++ (small a2 0 ∷ move a3 u1 ∷ small a4 0 ∷ small a7 7 ∷ [])

abbrev pub asked_regs : Layer → Adjustable → (low : ℕ) → Base → List (ℕ × ℕ)
asked_regs φ x low b =
    (17, 7) ∷ (14, 0) ∷ (13, low) ∷ (12, 0) ∷ (11, x.number) ∷ (10, φ.at + x.place) ∷ []

moved_is : (x n : ℕ) → x ≡ n → n < 2 ^ 32 → sum x (word (pos 0)) ≡ n
moved_is x n e few = omega (arith, e, few)

pub given_comes :
    {w : Surroundings} {code : List Instr} {p : Point} {numbers : ℕ → ℕ} {i : ℕ} {low : ℕ} (z : Placement) (c : ℕ)
    (f : Family) → IsSited w p z low → (o : Bounded w p z) → Linked w.links code i given_code →
    ((b : Base) → At b i (Known (lowered_ground w p z.layer z.variable low o.is) (services_of p) numbers (λ n. 0)
    (name_regs z.layer z.variable low) b) (f b)) →
    Reach code c f (services_of p) (c + 5) (services_of p)
    (λ b y. At b (i + 5) (Known (lowered_ground w p z.layer z.variable low o.is) (services_of p) numbers (λ n. 0)
    (asked_regs z.layer z.variable low) b) y)
given_comes {w} {p = p} {numbers = numbers} {low = low} z c f k o l there =
    let v = services_of p in
    let φ = z.layer in
    let x = z.variable in
    let h = o.is in
    let high = h.high in
    straight c f v v
    (λ b y. Known (lowered_ground w p φ x low h) v numbers (λ n. 0) (asked_regs φ x low) b y) l (omega arith)
    (λ b. (there b).pc)
    (λ b.
    let q = (there b).holds in
    let y = (f b).machine.registers in
    let frame = frame_is q.body in
    let t = lowered_told z k (omega (arith, high)) q.body.memory in (
      at_place b (first_place φ.at h) (sum (y 8) (word (negsuc 3))) (ap (λ u. sum u (word (negsuc 3))) frame),
      record {
        body = record {
          services = q.body.services;
          registers = q.body.registers;
          bytes = q.body.bytes;
          memory = q.body.memory;
        };
        regs = (
          small_is (y 0) 7 (zero_is q.body) (omega arith),
          (
            small_is (y 0) 0 (zero_is q.body) (omega arith),
            (
              moved_is (y 6) low q.regs.1.0 k.small',
              (small_is (y 0) 0 (zero_is q.body) (omega arith), (t.1, (q.regs.0, tt))),
            ),
          ),
        );
      },
    ))

-- what is stored is as it was while the top of the lower stack is kept
pub lowered_holds :
    {w : Surroundings} {code : List Instr} {p : Point} {low : ℕ} {b : Base} {m : List ℕ} (z : Placement) →
    Stands w p × IsImage w code p → IsSited w p z low → Bounded w p z → IsLowered w p z.layer low b m →
    Holds (now p m)
lowered_holds {w} {p = p} {low = low} {m = m} z known k o is =
    let φ = z.layer in
    let laid = subst (AreLaid w.parts) k.newest known.0.laid in
    let owned = subst (AreOwned p.keeper p.places p.state w.parts) k.newest known.0.owned in
    let room = o.is.room in
    let bytes = is.bytes in
    let above = laid.0.above in
    let covered = levels_covered φ.level φ.parameters in
    let h = stores_hold (now p is.first) (φ.at + 40) 4 ((φ.at + 40, low) ∷ []) is.stands.storage
    (clear_within p.keeper p.places p.state (frame_start φ) (frame_bytes φ) (φ.at + 40) 4
    (frame_clear p.keeper p.places p.state w.parts φ z.others owned laid) (omega (arith, above))
    (omega (arith, covered, above)))
    (omega (arith, room, bytes)) ((omega arith, omega arith), tt) in
    subst (λ m'. Holds (now p m')) (sym is.is) (same_now h)
  where
    same_now : {m' : List ℕ} → Holds (with_memory m' (now p is.first)) → Holds (now p m')
    same_now h =
        record {
          keeps = h.keeps;
          heap = record { at = h.heap.at; capacity = h.heap.capacity };
          lives = h.lives;
          stored = h.stored;
          distinct = h.distinct;
        }

-- where it fits
sited :
    {w : Surroundings} {code : List Instr} {p : Point} (z : Placement) → Stands w p × IsImage w code p →
    IsPlacement w p z → IsSited w p z (z.layer.lower - z.variable.bytes)
sited {w} z known k =
    let laid = subst (AreLaid w.parts) k.is.newest known.0.laid in
    let high = (bounds w.parts (z.layer ∷ z.others) laid).high in
    let last = known.1.parts.inside in
    let fits = k.is.fits in
    record {
      newest = k.is.newest;
      here = k.is.here;
      initial = k.initial;
      words = k.words;
      number = k.number;
      bytes = k.bytes;
      lowers = less_bytes z.layer.lower z.variable.bytes (omega (arith, fits)) (omega (arith, high, last));
      small' = omega (arith, high, last);
    }

calling_placed :
    {w : Surroundings} {code : List Instr} {p : Point} {numbers : ℕ → ℕ} {i : ℕ} (z : Placement) (f : Family)
    (known : Stands w p × IsImage w code p) (k : IsPlacement w p z) (o : Bounded w p z) →
    Linked w.links code i (Plain I.Ecall ∷ []) →
    ((b : Base) → At b i (Known (lowered_ground w p z.layer z.variable (z.layer.lower - z.variable.bytes) o.is) (services_of p) numbers (λ n. 0)
    (asked_regs z.layer z.variable (z.layer.lower - z.variable.bytes)) b) (f b)) →
    Calling w.links code i f
    (λ b. Done (services_of (adjusted z.layer z.variable p))
    (adjusted_memory p z.layer z.variable (f b).machine.memory) (z.layer.at + z.variable.place) z.variable.number)
calling_placed {w} {code} {p} z f known k o l there =
    let φ = z.layer in
    let x = z.variable in
    let small' = l.small' in
    record {
      linked = l;
      pc = λ b. (there b).pc;
      answers = λ b.
          let q = (there b).holds in
          let m = (f b).machine.memory in
          called code (f b) (services_of p) 7 (φ.at + x.place) x.number 0 (φ.lower - x.bytes) 0
          (λ call x0 x1 x2 x3 x4. U.make_served call x0 x1 x2 x3 x4) q.body.services q.regs.0 q.regs.1.1.1.1.1.0
          q.regs.1.1.1.1.0 q.regs.1.1.1.0 q.regs.1.1.0 q.regs.1.0 (λ call y. refl)
          ∙ adjusted_served w code p x φ z.others m known k.is (q.body.bytes, omega (arith, small'))
          (lowered_holds z known (sited z known k) o q.body.memory);
    }

-- ---- the whole

abbrev pub behind_lower : Placement → Code
behind_lower z = own_code a0 z.variable.place ++ (given_code ++ (Plain I.Ecall ∷ []))

abbrev pub pieces : Placement → Code
pieces z =
    plus stack_register frame_register (pos (z.variable.place + name_bytes)) ++ (lowering_code ++ behind_lower z)

pub pieces_coded : (z : Placement) → initial_datum z.declared ≡ None → placing_code z ≡ pieces z
pieces_coded z none =
    let stack = plus stack_register frame_register (pos (z.variable.place + name_bytes)) in
    let front : Code → Code =
    λ u. stack ++ (load_word u2 frame_register (bytes_word none_taken) ++ (lower_taken ++ u)) in
    ap (λ u. front (u ++ (load_word a1 frame_register (number_word none_taken)
    ++ (initial_code a2 z.declared ++ (move a3 u1 ∷ small a4 0 ∷ service 7)))))
    (own_coded z.environment a0 z.variable.place)
    ∙ ap (λ d. front (own_code a0 z.variable.place ++ (load_word a1 frame_register (number_word none_taken)
    ++ (initial_given a2 d ++ (move a3 u1 ∷ small a4 0 ∷ service 7))))) none

placed_stand :
    {w : Surroundings} {code : List Instr} {p : Point} {b : Base} {m : List ℕ} (z : Placement) →
    Stands w p × IsImage w code p → IsPlacement w p z → Bounded w p z → length m ≡ memory_size →
    IsLowered w p z.layer (z.layer.lower - z.variable.bytes) b m →
    StandsIn w (adjusted z.layer z.variable p) b (adjusted_memory p z.layer z.variable m)
placed_stand {w} {code} {p} {b} {m} z known k o bytes is =
    let φ = z.layer in
    let x = z.variable in
    record {
      storage = adjusted_holds w code p x φ z.others m known k.is bytes
          (lowered_holds z known (sited z known k) o is);
      frames = subst (λ m'. FramesStand w.parts b.at (adjusted_memory p φ x m') (adjusted φ x p).state.activations
          (adjusted φ x p).control.layers) (sym is.is)
          (adjusted_frames w code p x φ z.others b.at is.first known k.is is.bytes is.stands.frames);
    }

pub placing_comes :
    (w : Surroundings) (code : List Instr) (p : Point) (numbers : ℕ → ℕ) (z : Placement) (c index : ℕ)
    (f : Family) → Stands w p × IsImage w code p → IsPlacement w p z →
    Linked w.links code index (placing_code z) → AreIn w p numbers index f →
    Reach code c f (services_of p) (c + size_of (placing_code z)) (services_of (adjusted z.layer z.variable p))
    (λ b y. IsIn w (adjusted z.layer z.variable p) numbers (index + size_of (placing_code z)) b y)
placing_comes w code p numbers z c index f known k l there =
    let φ = z.layer in
    let x = z.variable in
    let q = adjusted φ x p in
    let site = sited z known k in
    let o = bounded z known site in
    let coded = pieces_coded z k.initial in
    let size = ap (λ u. size_of u) coded in
    let new = adjusted_stands w code p x φ z.others known k.is in
    let hq = point_frame new.0 new.1 in
    let frame' : φ.at ≡ frame_under w.parts q.control.layers =
    sym (ap (λ ls. frame_under w.parts (newest_grown (made_below φ x) ls)) k.is.newest) in
    let top' : φ.at + (x.place + name_bytes) ≡ upper_top w.parts q.control.layers =
    sym (ap (λ ls. upper_top w.parts (newest_grown (made_below φ x) ls)) k.is.newest) in
    let v = services_of p in
    let v' = services_of q in
    let stack = plus stack_register frame_register (pos (x.place + name_bytes)) in
    let own = own_code a0 x.place in
    let last = Plain I.Ecall ∷ [] in
    let l0 = subst (Linked w.links code index) coded l in
    let l1 = back_of stack (lowering_code ++ behind_lower z) l0 in
    let l2 = back_of lowering_code (behind_lower z) l1 in
    let l3 = back_of own (given_code ++ last) l2 in
    let n0 = size_append stack (lowering_code ++ behind_lower z) in
    let n1 = size_append own (given_code ++ last) in
    let r1 = stack_grows z c f known o (front_of stack (lowering_code ++ behind_lower z) l0) there in
    let r2 = lower_grows z (c + size_of stack) (reached r1) site o (front_of lowering_code (behind_lower z) l1)
    (reached_holds r1) in
    let r3 = name_placed z (c + size_of stack + 4) (reached r2) site o (front_of own (given_code ++ last) l2)
    (reached_holds r2) in
    let r4 = given_comes z (c + size_of stack + 4 + size_of own) (reached r3) site o (front_of given_code last l3)
    (reached_holds r3) in
    let g = reached r4 in
    let r5 = call_done (c + size_of stack + 4 + size_of own + 5) g v v'
    (λ b. adjusted_memory p φ x (g b).machine.memory) (λ b. φ.at + x.place) (λ b. x.number)
    (λ b y. Known (point_ground w q hq) v' numbers (λ n. 0) nothing b y) (omega arith)
    (calling_placed z g known k o (back_of given_code last l3) (reached_holds r4))
    (λ b. let a = (reached_holds r4 b).holds in record {
      body = record {
        services = refl;
        registers = a.body.registers ∙ ap (λ n. 0 ∷ (b.at + (φ.at + (x.place + name_bytes))) ∷ (b.at + n)
            ∷ numbers 0 ∷ numbers 1 ∷ numbers 2 ∷ numbers 3 ∷ numbers 4 ∷ numbers 5 ∷ numbers 6 ∷ []) frame'
            ∙ ap (λ n. 0 ∷ (b.at + n) ∷ (b.at + frame_under w.parts q.control.layers)
            ∷ numbers 0 ∷ numbers 1 ∷ numbers 2 ∷ numbers 3 ∷ numbers 4 ∷ numbers 5 ∷ numbers 6 ∷ []) top';
        bytes = made_length (g b).machine.memory
            (record { stands = known.0; image = known.1; is = k.is }) a.body.bytes;
        memory = placed_stand z known k o a.body.bytes a.body.memory;
      };
      regs = tt;
    }) in
    reach_map _
    (reach_moved (omega (arith, size, n0, n1)) (omega (arith, size, n0, n1))
    (reach_then r1 (reach_then r2 (reach_then r3 (reach_then r4 r5)))))
    (λ b y a. in_known hq new.1.parts a)
