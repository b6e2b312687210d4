-- The copy of an argument at any place of a list is made.
use Rattle.std.proofs.Common.{◌≡◌, ◌⊎◌, inl, inr, ℕ, suc, ◌+◌, ◌-◌, ◌*◌, ◌%◌, ◌^◌, ◌<◌, ◌≤◌, List, [], ◌∷◌, ◌++◌, length}
use Rattle.std.proofs.Common.{Option, Some, true, refl, sym, ap, ◌∙◌, subst, arith}
use Rattle.std.proofs.lemmas.Int.{ints}
use Rattle.std.specs.Prelude.{pos, ◌==◌, nat_le}
use Rattle.rv_meaning.specs.declared.instr.BranchTest.TheVariants as Test
use Rattle.rv_meaning.specs.declared.instr.Instr.{Instr}
use Rattle.rv_meaning.specs.declared.instr.Instr.TheVariants as I
use Rattle.rv_meaning.specs.declared.instr.RegisterOp.TheVariants as Op
use Rattle.rv_meaning.specs.Machine.{memory_size}
use Rattle.rv_meaning.specs.Memory.{load, store}
use Rattle.rv_meaning.specs.Words.{operated, sum, word}
use Rattle.rv_meaning.proofs.MemoryLaws.{length-store, load-store_other}
use Rattle.area_keeper.specs.KeptAreas.{with_part}
use Rattle.area_keeper.proofs.Agreement.{length_with_part}
use Rattle.pli_meaning.specs.BasicValues.{VariableName}
use Rattle.pli_meaning.specs.Contents.{footprint_of}
use Rattle.pli_meaning.specs.Making.{with_binding}
use Rattle.pli_meaning.specs.StorageState.{Activation, Binding, automatic_in_use, most_automatic}
use Rattle.pli_serving.specs.Answers.{Done}
use Rattle.pli_serving.specs.Bytes.{name_bytes, number_bytes}
use Rattle.pli_serving.specs.Values.{generation_bytes}
use Rattle.pli_coding.specs.Assembly.{Plain, size_of}
use Rattle.pli_coding.specs.Instructions.{number, skip_where}
use Rattle.pli_coding.specs.Registers.{a1, u4, zero_register}
use Rattle.storage_relation.specs.Changes.{with_memory}
use Rattle.storage_relation.specs.Served.{Holds}
use Rattle.storage_relation.specs.Stored.{IsBeside}
use Rattle.storage_relation.proofs.Confined.{beside_written}
use Rattle.storage_relation.proofs.Values.{store_is}
use Rattle.activation_relation.specs.FrameLaws.{lowered, with_waits}
use Rattle.activation_relation.specs.Frames.{AreLaid, FramesStand, frame_bytes, frame_start, frame_under, upper_top}
use Rattle.activation_relation.specs.Frames.{word_place}
use Rattle.activation_relation.specs.Layers.{Layer, Point, now, services_of}
use Rattle.activation_relation.specs.Points.{Surroundings}
use Rattle.activation_relation.specs.Variables.{grown}
use Rattle.activation_relation.proofs.FrameWords.{beside_above, frames_kept, levels_covered, words_covered}
use Rattle.activation_relation.proofs.ListWords.{words_rewritten_below}
use Rattle.activation_relation.proofs.OwnPlaces.{clear_within, frame_below_clear, frame_clear, stores_hold}
use Rattle.activation_relation.proofs.StoredWords.{same_word, stored_beside}
use Rattle.activation_relation.proofs.WaitingWords.{lower_stored}
use Rattle.run_steps.specs.Bodies.{Ground, Known}
use Rattle.run_steps.proofs.Bodies.{at_place, constant_piece, frame_is, zero_is}
use Rattle.run_steps.specs.Calls.{Calling}
use Rattle.run_steps.proofs.Calls.{call_done, called}
use Rattle.run_steps.specs.Engine.{Base, WordAt, call_at}
use Rattle.run_steps.specs.Items.{At, Linked}
use Rattle.run_steps.proofs.Items.{straight}
use Rattle.run_steps.proofs.Jumps.{back_of, first_of, front_of, rest_of, skip_passed}
use Rattle.run_steps.proofs.Linking.{size_append}
use Rattle.run_steps.specs.Reach.{Family, Reach, reached}
use Rattle.run_steps.proofs.Reach.{reach_map, reach_then, reached_holds}
use Rattle.run_steps.proofs.Reaching.{reach_moved}
use Rattle.run_steps.specs.Unlimited as U
use Rattle.block_runs.specs.Machines.{IsIn}
use Rattle.block_runs.proofs.BlockEntries.{small_is, word_fits, word_is}
use Rattle.block_runs.proofs.Places.{IsFrame, ground_at, word_in}
use Rattle.block_runs.proofs.PointGrounds.{StandsIn, in_known, known_in, point_frame, point_ground}
use Rattle.argument_runs.specs.Copies.{Copy, copy_generation, copy_made_of}
use Rattle.argument_runs.specs.ListBeginnings.{KeepsList}
use Rattle.argument_runs.specs.Lists.{layered}
use Rattle.argument_runs.proofs.CopyCode.{filling_code}
use Rattle.argument_runs.proofs.CopyMemory.{named_words, part_again, parts_apart}
use Rattle.argument_runs.proofs.CopyPoints.{zero_bytes}
use Rattle.word_runs.proofs.Words.{word_found}
use Rattle.list_calls.specs.Lists.{copied_at, name_told}
use Rattle.list_calls.proofs.PartCode.{asking_code, copy_code, flag_code, making_code}
use Rattle.list_calls.proofs.PartMemory.{asked_told, named_found}
use Rattle.list_calls.proofs.PartPoints.{Around, IsCopy, Part, bounded, copied_answer, copied_holding, copied_stands}
use Rattle.list_calls.proofs.PartPoints.{copy_memory, laid_here, owned_here, part_at}

-- ---- before the call: the signature's number stands in the list, and the lower stack has grown

abbrev pub asked_layers : Part → Layer → Layer → List Layer → Copy → List Layer
asked_layers t ψ φ φs x =
    lowered (ψ.lower - 16) ψ ∷ with_waits (asked_told t.last x.number φ.waits) φ ∷ φs

abbrev pub asked : Part → Layer → Layer → List Layer → Copy → Point → Point
asked t ψ φ φs x p = layered (asked_layers t ψ φ φs x) p

abbrev asked_memory : Part → Layer → Copy → List ℕ → List ℕ
asked_memory t ψ x m = store 4 (store 4 m (part_at t + 16) x.number) (ψ.at + 40) (ψ.lower - 16)

-- words of the list before that
pub list_word :
    {w : Surroundings} {code : List Instr} {p : Point} {ψ φ : Layer} {φs : List Layer} {t : Part} (base n v : ℕ)
    (m : List ℕ) → Around w code p ψ φ φs t → FramesStand w.parts base m p.state.activations p.control.layers →
    n < φ.words → φ.waits n ≡ Some v → load 4 m (word_place φ n) ≡ v
list_word {w} {p = p} {ψ = ψ} {φ = φ} {φs = φs} base n v m k frames less e =
    by p.state.activations (subst (FramesStand w.parts base m p.state.activations) k.newest frames)
  where
    by : (as' : List Activation) → FramesStand w.parts base m as' (ψ ∷ φ ∷ φs) → load 4 m (word_place φ n) ≡ v
    by [] h = absurd h
    by (b ∷ []) h = absurd h.1
    by (b ∷ a ∷ as') h = h.1.0.waits n v less e

asked_stands :
    {w : Surroundings} {code : List Instr} {p : Point} {ψ φ : Layer} {φs : List Layer} {t : Part} {x : Copy} (b : Base)
    (m : List ℕ) → Around w code p ψ φ φs t → IsCopy p ψ φ w t x → length m ≡ memory_size → StandsIn w p b m →
    StandsIn w (asked t ψ φ φs x p) b (asked_memory t ψ x m)
asked_stands {w} {p = p} {ψ = ψ} {φ = φ} {φs = φs} {t = t} {x = x} b m k is bytes stands =
    let o = bounded k in
    let laid = laid_here k in
    let low = o.part.high in
    let room = o.part.room in
    let words = o.words in
    let under = k.under in
    let frame = o.frame.room in
    let small' = is.number in
    let first = store 4 m (part_at t + 16) x.number in
    let long = length-store 4 m (part_at t + 16) x.number in
    let fixed = laid.0.fixed in
    let above = laid.0.above in
    let covered = levels_covered ψ.level ψ.parameters in
    let h1 = stores_hold (now p m) (part_at t + 16) 4 ((part_at t + 16, x.number) ∷ []) stands.storage
    (clear_within p.keeper p.places p.state (frame_start φ) (frame_bytes φ) (part_at t + 16) 4
    (frame_below_clear p.keeper p.places p.state w.parts ψ φ φs (owned_here k) laid)
    (omega (arith, words)) (omega (arith, words, low, under)))
    (omega (arith, room, bytes)) ((omega arith, omega arith), tt) in
    let h2 = stores_hold (with_memory first (now p m)) (ψ.at + 40) 4 ((ψ.at + 40, ψ.lower - 16) ∷ []) h1
    (clear_within p.keeper p.places p.state (frame_start ψ) (frame_bytes ψ) (ψ.at + 40) 4
    (frame_clear p.keeper p.places p.state w.parts ψ (φ ∷ φs) (owned_here k) laid)
    (omega (arith, above)) (omega (arith, covered, above)))
    (omega (arith, frame, bytes, long)) ((omega arith, omega arith), tt) in
    record {
      storage = same_now h2;
      frames = frames_by p.state.activations
          (subst (FramesStand w.parts b.at m p.state.activations) k.newest stands.frames);
    }
  where
    same_now : {m' : List ℕ} → Holds (with_memory m' (now p m)) → Holds (now (asked t ψ φ φs x p) m')
    same_now h =
        record {
          keeps = h.keeps;
          heap = record { at = h.heap.at; capacity = h.heap.capacity };
          lives = record { falling = h.lives.falling; numbered = h.lives.numbered; extents = h.lives.extents };
          stored = h.stored;
          distinct = h.distinct;
        }

    frames_by :
        (as' : List Activation) → FramesStand w.parts b.at m as' (ψ ∷ φ ∷ φs) →
        FramesStand w.parts b.at (asked_memory t ψ x m) as' (asked_layers t ψ φ φs x)
    frames_by [] h = absurd h
    frames_by (c ∷ []) h = absurd h.1
    frames_by (c ∷ a ∷ as') h =
        let o = bounded k in
        let laid = laid_here k in
        let low = o.part.high in
        let room = o.part.room in
        let lower = o.room in
        let words = o.words in
        let under = k.under in
        let many = k.words in
        let small' = is.number in
        let covered = words_covered φ.words in
        let above = laid.1.0.above in
        let inside = o.above in
        let top = o.top in
        let at = part_at t + 16 in
        let first = store 4 m at x.number in
        let long = length-store 4 m at x.number in
        let waits = asked_told t.last x.number φ.waits in
        let place : word_place φ (t.last + 1) ≡ at = omega (arith, under) in
        let changed = words_rewritten_below w.parts b.at at 4 m first c a as' ψ φ φs waits h (
          laid,
          omega (arith, words),
          omega (arith, under),
          stored_beside at 4 ((at, x.number) ∷ []) m ((omega arith, omega arith), tt),
        )
        (λ n v less e.
        subst (λ i. load 4 (store 4 m i x.number) (word_place φ n) ≡ v) place
        (word_found φ (t.last + 1) x.number n v m (omega (arith, many), omega (arith, small'))
        (omega (arith, covered, above)) (omega (arith, inside, top, lower, bytes)) h.1.0.waits less e)) in
        let fits = is.fits in
        lower_stored w.parts b.at (ψ.lower - 16) first c (a ∷ as') ψ (with_waits waits φ ∷ φs) changed (
          (
            record {
              above = laid.0.above;
              fixed = laid.0.fixed;
              falls = laid.0.falls;
              free = laid.0.free;
              saved = laid.0.saved;
              told = laid.0.told;
            },
            (
              record {
                above = laid.1.0.above;
                fixed = laid.1.0.fixed;
                falls = laid.1.0.falls;
                free = laid.1.0.free;
                saved = laid.1.0.saved;
                told = laid.1.0.told;
              },
              laid.1.1,
            ),
          ),
          omega (arith, lower, bytes, long),
          omega (arith, lower),
        )

-- ---- behind the call and the store of the value

laid_asked :
    {w : Surroundings} {code : List Instr} {p : Point} {ψ φ : Layer} {φs : List Layer} {t : Part} {x : Copy} →
    Around w code p ψ φ φs t → IsCopy p ψ φ w t x → AreLaid w.parts (asked_layers t ψ φ φs x)
laid_asked k is =
    let laid = laid_here k in
    let fits = is.fits in
    let falls = laid.0.falls in (
      record {
        above = laid.0.above;
        fixed = laid.0.fixed;
        falls = omega (arith, falls);
        free = omega (arith, fits);
        saved = laid.0.saved;
        told = laid.0.told;
      },
      (
        record {
          above = laid.1.0.above;
          fixed = laid.1.0.fixed;
          falls = laid.1.0.falls;
          free = laid.1.0.free;
          saved = laid.1.0.saved;
          told = laid.1.0.told;
        },
        laid.1.1,
      ),
    )

copied_frames :
    {w : Surroundings} {code : List Instr} {p : Point} {ψ φ : Layer} {φs : List Layer} {t : Part} {x : Copy} (base : ℕ)
    (m : List ℕ) → Around w code p ψ φ φs t → IsCopy p ψ φ w t x → length m ≡ memory_size →
    FramesStand w.parts base m p.state.activations (asked_layers t ψ φ φs x) →
    FramesStand w.parts base (copy_memory p ψ t (generation_bytes (copy_generation x)) m)
    (copied_at t.last ψ φ φs x p).state.activations (copied_at t.last ψ φ φs x p).control.layers
copied_frames {w} {p = p} {ψ = ψ} {φ = φ} {φs = φs} {t = t} {x = x} base m k is bytes frames =
    by p.state.activations frames
  where
    place : ℕ
    place = ψ.lower - 16

    serial : ℕ
    serial = p.state.serials + 1

    data' : List ℕ
    data' = generation_bytes (copy_generation x)

    first : List ℕ
    first = with_part data' place m

    new : List ℕ
    new = with_part (name_bytes (VariableName serial)) (part_at t) first

    waits : ℕ → Option ℕ
    waits = name_told t.last serial x.number 1 φ.waits

    binding : Binding
    binding =
        record { variable = x.index; name = VariableName serial; shape = (copy_generation x).shape }

    by :
        (as' : List Activation) → FramesStand w.parts base m as' (asked_layers t ψ φ φs x) →
        FramesStand w.parts base new (with_binding binding as')
        (grown (copy_made_of ψ x) ψ ∷ with_waits waits φ ∷ φs)
    by [] h = absurd h
    by (c ∷ []) h = absurd h.1
    by (c ∷ a ∷ as') h =
        let o = bounded k in
        let laid = laid_asked k is in
        let fits = is.fits in
        let room = o.room in
        let low = o.part.high in
        let part = o.part.room in
        let words = o.words in
        let under = k.under in
        let many = k.words in
        let covered = words_covered φ.words in
        let above = laid.1.0.above in
        let z : place + 0 ≡ place = omega arith in
        let z' : part_at t + 0 ≡ part_at t = omega arith in
        let beside1 = subst (λ i. IsBeside place 4 m (with_part data' i m)) z
        (beside_written data' place 4 0 m (omega arith) (omega (arith, room, bytes, fits))) in
        let long = beside1.as_many in
        let kept = frames_kept w.parts base place 4 m first (c ∷ a ∷ as') (asked_layers t ψ φ φs x) h laid
        (beside_above w.parts place 4 (asked_layers t ψ φ φs x) laid (omega (arith, fits))) beside1 in
        let beside2 = subst (λ i. IsBeside (part_at t) 16 first
        (with_part (name_bytes (VariableName serial)) i first)) z'
        (beside_written (name_bytes (VariableName serial)) (part_at t) 16 0 first (omega arith)
        (omega (arith, part, bytes, long))) in
        let others : (i : ℕ) → i < φ.words → (i < t.last + 2) ⊎ (t.last + 6 ≤ i) →
        load 4 new (word_place φ i) ≡ load 4 first (word_place φ i) =
        λ i less out. same_word (part_at t) 16 (word_place φ i) first new beside2
        (word_outside (part_at t) t.last φ.at φ.words i (omega (arith, under)) (omega (arith, covered, above)) less out) in
        let changed = words_rewritten_below w.parts base (part_at t) 16 first new c a as'
        (lowered (ψ.lower - 16) ψ) (with_waits (asked_told t.last x.number φ.waits) φ) φs waits kept (
          laid,
          omega (arith, words),
          omega (arith, under),
          beside2,
        )
        (λ n v less e. named_found φ t serial x.number n v φ.waits first new
        (record {
          under = omega (arith, under);
          words = omega (arith, many);
          high = omega (arith, covered, above);
          mark = is.mark;
          name = named_words serial (part_at t) first is.serial (omega (arith, part, bytes, long));
          before = kept.1.0.waits;
          others = others;
        }) less e) in (
          record {
            back = changed.0.back;
            below = changed.0.below;
            saved = changed.0.saved;
            own = changed.0.own;
            lower = changed.0.lower;
            display_words = changed.0.display_words;
            waits = changed.0.waits;
            told = changed.0.told;
            list = changed.0.list;
          },
          changed.1,
        )
      where
        word_outside :
            (part last frame many i : ℕ) → part + 4 * (last + 6) ≡ frame → 4 * many ≤ frame → i < many →
            (i < last + 2) ⊎ (last + 6 ≤ i) →
            (part + 16 ≤ frame - 4 * suc i) ⊎ (frame - 4 * suc i + 4 ≤ part)
        word_outside part last frame many i under high less (inl below) = inl (omega (arith, under, high, less, below))
        word_outside part last frame many i under high less (inr above) = inr (omega (arith, under, high, less, above))

copied_stand :
    {w : Surroundings} {code : List Instr} {p : Point} {ψ φ : Layer} {φs : List Layer} {t : Part} {x : Copy} (b : Base)
    (m : List ℕ) → Around w code p ψ φ φs t → IsCopy p ψ φ w t x → length m ≡ memory_size →
    StandsIn w (asked t ψ φ φs x p) b m →
    StandsIn w (copied_at t.last ψ φ φs x p) b (copy_memory p ψ t (generation_bytes (copy_generation x)) m)
copied_stand {w} {p = p} {ψ = ψ} {φ = φ} {φs = φs} {t = t} {x = x} b m k is bytes stands =
    record {
      storage = copied_holding m k is bytes (old_now stands.storage);
      frames = copied_frames b.at m k is bytes stands.frames;
    }
  where
    old_now : Holds (now (asked t ψ φ φs x p) m) → Holds (now p m)
    old_now h =
        record {
          keeps = h.keeps;
          heap = record { at = h.heap.at; capacity = h.heap.capacity };
          lives = record { falling = h.lives.falling; numbered = h.lives.numbered; extents = h.lives.extents };
          stored = h.stored;
          distinct = h.distinct;
        }

-- the value over the zero with which the data began
filled :
    (p : Point) (ψ : Layer) (t : Part) (x : Copy) (m : List ℕ) → part_at t + 24 ≤ ψ.lower - 16 →
    ψ.lower - 16 + 4 ≤ length m →
    store 4 (copy_memory p ψ t zero_bytes m) (ψ.lower - 16) (word x.value)
    ≡ copy_memory p ψ t (generation_bytes (copy_generation x)) m
filled p ψ t x m before room =
    let name = name_bytes (VariableName (p.state.serials + 1)) in
    let place = ψ.lower - 16 in
    let number' = number_bytes 4 (word x.value) in
    let zeroed = with_part zero_bytes place m in
    let long = length_with_part zero_bytes place m room in
    let long' = length_with_part name (part_at t) zeroed (omega (arith, before, room, long)) in
    sym (store_is 4 (word x.value) place (with_part name (part_at t) zeroed) (omega (arith, room, long, long')))
    ∙ parts_apart name number' (part_at t) place zeroed (omega (arith, before)) (omega (arith, room, long))
    ∙ ap (with_part name (part_at t)) (part_again zero_bytes number' place m refl room)

-- ---- the code

abbrev pub flag_regs : (flag list : ℕ) → Base → List (ℕ × ℕ)
flag_regs flag list b = (29, flag) ∷ (30, b.at + list) ∷ []

abbrev pub given_regs : (list : ℕ) → Copy → Base → List (ℕ × ℕ)
given_regs list x b = (11, x.number) ∷ flag_regs 1 list b

abbrev pub asking_regs : Part → Layer → Copy → Base → List (ℕ × ℕ)
asking_regs t ψ x b =
    (17, 7) ∷ (14, 2) ∷ (13, ψ.lower - 16) ∷ (12, 0) ∷ (11, x.number) ∷ (10, part_at t) ∷ (29, word x.value)
    ∷ (6, ψ.lower - 16) ∷ (30, b.at + t.list) ∷ []

abbrev filling_regs : (list : ℕ) → Layer → Copy → Base → List (ℕ × ℕ)
filling_regs list ψ x b = (29, word x.value) ∷ (6, ψ.lower - 16) ∷ (30, b.at + list) ∷ []

abbrev pub list_regs : (list : ℕ) → Base → List (ℕ × ℕ)
list_regs list b = (30, b.at + list) ∷ []

-- between the call of service 7 and the store
pub record HasZero (w : Surroundings) (p : Point) (ψ φ : Layer) (φs : List Layer) (t : Part) (x : Copy) (b : Base)
    (m : List ℕ) : Type 0 where
  pub first : List ℕ
  pub bytes : length first ≡ memory_size
  pub stands : StandsIn w (asked t ψ φ φs x p) b first
  pub is : m ≡ copy_memory p ψ t zero_bytes first

abbrev zero_ground :
    (w : Surroundings) (p : Point) (ψ φ : Layer) (φs : List Layer) (t : Part) (x : Copy) → IsFrame ψ.at → Ground
zero_ground w p ψ φ φs t x h = ground_at ψ.at ψ.top h (λ b m. HasZero w p ψ φ φs t x b m)

newest_word :
    {w : Surroundings} {code : List Instr} {p : Point} {ψ φ : Layer} {φs : List Layer} {t : Part} (base : ℕ)
    (m : List ℕ) → Around w code p ψ φ φs t → FramesStand w.parts base m p.state.activations p.control.layers →
    (load 4 m (ψ.at + 40) ≡ ψ.lower) × (load 4 m (ψ.at + 44) ≡ t.list)
newest_word {w} {p = p} {ψ = ψ} {φ = φ} {φs = φs} {t = t} base m k frames =
    by p.state.activations (subst (FramesStand w.parts base m p.state.activations) k.newest frames)
  where
    by : (as' : List Activation) → FramesStand w.parts base m as' (ψ ∷ φ ∷ φs) →
        (load 4 m (ψ.at + 40) ≡ ψ.lower) × (load 4 m (ψ.at + 44) ≡ t.list)
    by [] h = absurd h
    by (a ∷ as') h = (h.0.lower, (h.0.list t.list k.list).1)

base_moved : (x n : ℕ) → x ≡ n → n < 2 ^ 32 → sum x (word (pos 0)) ≡ n
base_moved x n e few = omega (arith, e, few)

more_moved : (x n d : ℕ) → x ≡ n → n + d < 2 ^ 24 → sum x (word (pos d)) ≡ n + d
more_moved x n d e few = omega (arith, ints, e, few)

less_sixteen : (x y n : ℕ) → x ≡ n → y ≡ 16 → 16 ≤ n → n < 2 ^ 32 → operated Op.Subtract x y ≡ n - 16
less_sixteen x y n e f some few = omega (arith, e, f, some, few)

address_is : (b : Base) (x n : ℕ) → x ≡ n → n < 2 ^ 24 → sum b.at x ≡ b.at + n
address_is b x n e few = let v = b.valid.1 in omega (arith, e, few, v)

-- whether it is a copy
pub flag_comes :
    {w : Surroundings} {code : List Instr} {p : Point} {ψ φ : Layer} {φs : List Layer} {t : Part} {numbers : ℕ → ℕ}
    {i : ℕ} (k : Around w code p ψ φ φs t) (h : IsFrame (frame_under w.parts p.control.layers)) (flag c : ℕ)
    (f : Family) → φ.waits t.last ≡ Some flag → Linked w.links code i (flag_code t.place) →
    ((b : Base) → IsIn w p numbers i b (f b) × KeepsList t.list b (f b)) →
    Reach code c f (services_of p) (c + 1) (services_of p)
    (λ b y. At b (i + 1) (Known (point_ground w p h) (services_of p) numbers (λ n. 0) (flag_regs flag t.list) b) y)
flag_comes {w} {code} {p} {ψ} {φ} {φs} {t} {numbers} k h flag c f is l there =
    let v = services_of p in
    let o = bounded k in
    let low = o.part.high in
    let under = k.under in
    let near = k.near in
    let many = k.words in
    let n = 24 * t.place + 4 * 5 in
    let place0 : word_place φ t.last ≡ t.list + n = omega (arith, low, under) in
    straight c f v v (λ b y. Known (point_ground w p h) v numbers (λ n. 0) (flag_regs flag t.list) b y) l
    (omega arith) (λ b. (there b).0.at.pc)
    (λ b.
    let o' = (known_in {t = λ n. 0} {rs = λ b'. (30, b'.at + t.list) ∷ []} h (there b).0
    ((there b).1, tt)).holds in
    let y = (f b).machine.registers in (
      at_place b (word_in t.list n o.list (omega arith) (omega (arith, near))) (sum (y 30) (word (pos n)))
          (ap (λ u. sum u (word (pos n))) o'.regs.0),
      record {
        body = record {
          services = o'.body.services;
          registers = o'.body.registers;
          bytes = o'.body.bytes;
          memory = o'.body.memory;
        };
        regs = (
          ap (load 4 (f b).machine.memory) (sym place0)
              ∙ list_word b.at t.last flag (f b).machine.memory k o'.body.memory.frames (omega (arith, many)) is,
          o'.regs,
        );
      },
    ))

pub asking_comes :
    {w : Surroundings} {code : List Instr} {p : Point} {ψ φ : Layer} {φs : List Layer} {t : Part} {x : Copy}
    {numbers : ℕ → ℕ} {i : ℕ} (k : Around w code p ψ φ φs t) (is : IsCopy p ψ φ w t x)
    (h : IsFrame (frame_under w.parts p.control.layers)) (h' : IsFrame ψ.at) (c : ℕ) (f : Family) →
    Linked w.links code i (asking_code t.place) →
    ((b : Base) → At b i (Known (point_ground w p h) (services_of p) numbers (λ n. 0) (given_regs t.list x) b) (f b)) →
    Reach code c f (services_of p) (c + size_of (asking_code t.place)) (services_of (asked t ψ φ φs x p))
    (λ b y. At b (i + size_of (asking_code t.place)) (Known (point_ground w (asked t ψ φ φs x p) h')
    (services_of (asked t ψ φ φs x p)) numbers (λ n. 0) (asking_regs t ψ x) b) y)
asking_comes {w} {code} {p} {ψ} {φ} {φs} {t} {x} {numbers} k is h h' c f l there =
    let v = services_of p in
    let q = asked t ψ φ φs x p in
    let v' = services_of q in
    let o = bounded k in
    let low = o.part.high in
    let room = o.part.room in
    let lower = o.room in
    let fits = is.fits in
    let small' = l.small' in
    let frame = h'.high in
    let below = o.below in
    let under = k.under in
    let near = k.near in
    let many = k.words in
    let number' = is.number in
    let same : frame_under w.parts p.control.layers ≡ ψ.at = ap (λ ls. frame_under w.parts ls) k.newest in
    let top : upper_top w.parts p.control.layers ≡ ψ.top = ap (λ ls. upper_top w.parts ls) k.newest in
    let L = t.list in
    let P = part_at t in
    let n4 = 24 * t.place + 4 * 4 in
    let n0 = 24 * t.place + 4 * 0 in
    let place4 : L + n4 ≡ P + 16 = omega arith in
    let place0 : L + n0 ≡ P = omega arith in
    let place5 : word_place φ (t.last + 5) ≡ P = omega (arith, low, under) in
    straight c f v v' (λ b y. Known (point_ground w q h') v' numbers (λ n. 0) (asking_regs t ψ x) b y) l (omega arith)
    (λ b. (there b).pc)
    (λ b.
    let o' = (there b).holds in
    let y = (f b).machine.registers in
    let m = (f b).machine.memory in
    let bytes = o'.body.bytes in
    let m1 = store 4 m (L + n4) (y 11) in
    let m1' = store 4 m (P + 16) x.number in
    let first : m1 ≡ m1' = ap (λ j. store 4 m j (y 11)) place4 ∙ ap (store 4 m (P + 16)) o'.regs.0 in
    let frames = o'.body.memory.frames in
    let own = newest_word b.at m k frames in
    let base = frame_is o'.body ∙ ap (λ n. b.at + n) same in
    let sixteen = small_is (y 0) 16 (zero_is o'.body) (omega arith) in
    let low40 : load 4 m1 (ψ.at + 40) ≡ ψ.lower =
    load-store_other 4 4 m (L + n4) (y 11) (ψ.at + 40) (inr (omega (arith, below, low, under))) ∙ own.0 in
    let less = less_sixteen (load 4 m1 (ψ.at + 40)) (sum (y 0) 16) ψ.lower low40 sixteen (omega (arith, fits))
    (omega (arith, lower)) in
    let m2 = store 4 m1 (ψ.at + 40) (operated Op.Subtract (load 4 m1 (ψ.at + 40)) (sum (y 0) 16)) in
    let m2' = asked_memory t ψ x m in
    let second : m2 ≡ m2' =
    ap (store 4 m1 (ψ.at + 40)) less ∙ ap (λ u. store 4 u (ψ.at + 40) (ψ.lower - 16)) first in
    let long1 = length-store 4 m (L + n4) (y 11) in
    let value5 : load 4 m2 (L + n0) ≡ word x.value =
    ap (load 4 m2) place0
    ∙ load-store_other 4 4 m1 (ψ.at + 40) _ P (inl (omega (arith, below, low, under)))
    ∙ load-store_other 4 4 m (L + n4) (y 11) P (inl (omega arith))
    ∙ ap (load 4 m) (sym place5)
    ∙ list_word b.at (t.last + 5) (word x.value) m k frames (omega (arith, many)) is.value in
    let list44 : load 4 m2 (ψ.at + 44) ≡ L =
    load-store_other 4 4 m1 (ψ.at + 40) _ (ψ.at + 44) (inr (omega arith))
    ∙ load-store_other 4 4 m (L + n4) (y 11) (ψ.at + 44) (inr (omega (arith, below, low, under))) ∙ own.1 in (
      at_place b (word_in L n4 o.list (omega arith) (omega (arith, near))) (sum (y 30) (word (pos n4)))
          (ap (λ u. sum u (word (pos n4))) o'.regs.1.1.0),
      omega (arith, small', low),
      (
        at_place b (word_in ψ.at 40 h' refl (omega arith)) (sum (y 8) (word (pos 40)))
            (ap (λ u. sum u (word (pos 40))) base),
        (
          at_place b (word_in ψ.at 40 h' refl (omega arith)) (sum (y 8) (word (pos 40)))
              (ap (λ u. sum u (word (pos 40))) base),
          omega (arith, small', frame),
          (
            at_place b (word_in L n0 o.list (omega arith) (omega (arith, near))) (sum (y 30) (word (pos n0)))
                (ap (λ u. sum u (word (pos n0))) o'.regs.1.1.0),
            (
              at_place b (word_in ψ.at 44 h' refl (omega arith)) (sum (y 8) (word (pos 44)))
                  (ap (λ u. sum u (word (pos 44))) base),
              record {
                body = record {
                  services = o'.body.services ∙ ap (λ ls. services_of (layered ls p)) k.newest;
                  registers = o'.body.registers
                      ∙ ap (λ n. 0 ∷ (b.at + n) ∷ (b.at + frame_under w.parts p.control.layers) ∷ numbers 0 ∷ numbers 1
                      ∷ numbers 2 ∷ numbers 3 ∷ numbers 4 ∷ numbers 5 ∷ numbers 6 ∷ []) top
                      ∙ ap (λ n. 0 ∷ (b.at + ψ.top) ∷ (b.at + n) ∷ numbers 0 ∷ numbers 1
                      ∷ numbers 2 ∷ numbers 3 ∷ numbers 4 ∷ numbers 5 ∷ numbers 6 ∷ []) same;
                  bytes = length-store 4 m1 (ψ.at + 40) _ ∙ long1 ∙ bytes;
                  memory = subst (StandsIn w q b) (sym second) (asked_stands b m k is bytes o'.body.memory);
                };
                regs = (
                  small_is (y 0) 7 (zero_is o'.body) (omega arith),
                  (
                    small_is (y 0) 2 (zero_is o'.body) (omega arith),
                    (
                      base_moved _ (ψ.lower - 16) less (omega (arith, lower)),
                      (
                        small_is (y 0) 0 (zero_is o'.body) (omega arith),
                        (
                          o'.regs.0,
                          (
                            more_moved _ L n0 list44 (omega (arith, room)) ∙ place0,
                            (value5, (less, (o'.regs.1.1.0, tt))),
                          ),
                        ),
                      ),
                    ),
                  ),
                );
              },
            ),
          ),
        ),
      ),
    ))

call_comes :
    {w : Surroundings} {code : List Instr} {p : Point} {ψ φ : Layer} {φs : List Layer} {t : Part} {x : Copy}
    {numbers : ℕ → ℕ} {i : ℕ} (k : Around w code p ψ φ φs t) (is : IsCopy p ψ φ w t x) (h' : IsFrame ψ.at) →
    nat_le (automatic_in_use p.state.living + footprint_of (copy_generation x)) most_automatic ≡ true → (c : ℕ)
    (f : Family) → Linked w.links code i (Plain I.Ecall ∷ []) →
    ((b : Base) → At b i (Known (point_ground w (asked t ψ φ φs x p) h') (services_of (asked t ψ φ φs x p)) numbers
    (λ n. 0) (asking_regs t ψ x) b) (f b)) →
    Reach code c f (services_of (asked t ψ φ φs x p)) (c + 1) (services_of (copied_at t.last ψ φ φs x p))
    (λ b y. At b (i + 1) (Known (zero_ground w p ψ φ φs t x h') (services_of (copied_at t.last ψ φ φs x p)) numbers
    (λ n. 0) (filling_regs t.list ψ x) b) y)
call_comes {w} {code} {p} {ψ} {φ} {φs} {t} {x} {numbers} {i} k is h' few c f l there =
    let q = asked t ψ φ φs x p in
    let v = services_of q in
    let v' = services_of (copied_at t.last ψ φ φs x p) in
    let P = part_at t in
    let small' = l.small' in
    let same : v ≡ services_of p = sym (ap (λ ls. services_of (layered ls p)) k.newest) in
    let calling : Calling w.links code i f
    (λ b. Done v' (copy_memory p ψ t zero_bytes (f b).machine.memory) P x.number) =
    record {
      linked = l;
      pc = λ b. (there b).pc;
      answers = λ b.
          let o = (there b).holds in
          let m = (f b).machine.memory in
          called code (f b) v 7 P x.number 0 (ψ.lower - 16) 2
          (λ call x0 x1 x2 x3 x4. U.make_served call x0 x1 x2 x3 x4) o.body.services o.regs.0 o.regs.1.1.1.1.1.0
          o.regs.1.1.1.1.0 o.regs.1.1.1.0 o.regs.1.1.0 o.regs.1.0 (λ call y. refl)
          ∙ ap (λ u. U.make_served (call_at code u m) P x.number 0 (ψ.lower - 16) 2) same
          ∙ copied_answer m m k is few o.body.bytes (old_now m o.body.memory.storage) (omega (arith, small'));
    } in
    call_done c f v v' (λ b. copy_memory p ψ t zero_bytes (f b).machine.memory) (λ b. P) (λ b. x.number)
    (λ b y. Known (zero_ground w p ψ φ φs t x h') v' numbers (λ n. 0) (filling_regs t.list ψ x) b y) (omega arith)
    calling
    (λ b.
    let o = (there b).holds in
    let m = (f b).machine.memory in
    let bytes = o.body.bytes in
    let k' = bounded k in
    let room = k'.room in
    let part = k'.part.room in
    let fits = is.fits in
    let long = length_with_part zero_bytes (ψ.lower - 16) m (omega (arith, room, bytes, fits)) in
    let long' = length_with_part (name_bytes (VariableName (p.state.serials + 1))) P
    (with_part zero_bytes (ψ.lower - 16) m) (omega (arith, part, bytes, long)) in
    record {
      body = record {
        services = refl;
        registers = o.body.registers;
        bytes = long' ∙ long ∙ bytes;
        memory = record { first = m; bytes = bytes; stands = o.body.memory; is = refl };
      };
      regs = (o.regs.1.1.1.1.1.1.0, (o.regs.1.1.1.1.1.1.1.0, (o.regs.1.1.1.1.1.1.1.1.0, tt)));
    })
  where
    old_now : (m : List ℕ) → Holds (now (asked t ψ φ φs x p) m) → Holds (now p m)
    old_now m h =
        record {
          keeps = h.keeps;
          heap = record { at = h.heap.at; capacity = h.heap.capacity };
          lives = record { falling = h.lives.falling; numbered = h.lives.numbered; extents = h.lives.extents };
          stored = h.stored;
          distinct = h.distinct;
        }

filling_comes :
    {w : Surroundings} {code : List Instr} {p : Point} {ψ φ : Layer} {φs : List Layer} {t : Part} {x : Copy}
    {numbers : ℕ → ℕ} {i : ℕ} (k : Around w code p ψ φ φs t) (is : IsCopy p ψ φ w t x) (h' : IsFrame ψ.at) (c : ℕ)
    (f : Family) → Linked w.links code i filling_code →
    ((b : Base) → At b i (Known (zero_ground w p ψ φ φs t x h') (services_of (copied_at t.last ψ φ φs x p)) numbers
    (λ n. 0) (filling_regs t.list ψ x) b) (f b)) →
    Reach code c f (services_of (copied_at t.last ψ φ φs x p)) (c + size_of filling_code)
    (services_of (copied_at t.last ψ φ φs x p))
    (λ b y. At b (i + size_of filling_code) (Known (point_ground w (copied_at t.last ψ φ φs x p) h')
    (services_of (copied_at t.last ψ φ φs x p)) numbers (λ n. 0) (list_regs t.list) b) y)
filling_comes {w} {code} {p} {ψ} {φ} {φs} {t} {x} {numbers} k is h' c f l there =
    let q = copied_at t.last ψ φ φs x p in
    let v = services_of q in
    let o = bounded k in
    let room = o.room in
    let fits = is.fits in
    let low = o.part.high in
    let above = o.above in
    let under = k.under in
    let even = is.even in
    let small' = l.small' in
    let place = ψ.lower - 16 in
    straight c f v v (λ b y. Known (point_ground w q h') v numbers (λ n. 0) (list_regs t.list) b y) l (omega arith)
    (λ b. (there b).pc)
    (λ b.
    let o' = (there b).holds in
    let y = (f b).machine.registers in
    let m = (f b).machine.memory in
    let z = o'.body.memory in
    let bytes = z.bytes in
    let at : sum b.at (y 6) ≡ b.at + place = address_is b (y 6) place o'.regs.1.0 (omega (arith, room)) in
    let new : store 4 m place (y 29) ≡ copy_memory p ψ t (generation_bytes (copy_generation x)) z.first =
    ap (store 4 m place) o'.regs.0
    ∙ ap (λ u. store 4 u place (word x.value)) z.is
    ∙ filled p ψ t x z.first (omega (arith, above, fits, under)) (omega (arith, room, bytes)) in (
      refl,
      (
        word_there b (sum (sum b.at (y 6)) (word (pos 0))) place
            (zero_more (sum b.at (y 6)) (b.at + place) at (let u = b.valid.1 in omega (arith, u, room)))
            (omega (arith, even, fits)) (omega (arith, room)),
        omega (arith, small', low, above, fits, under),
        record {
          body = record {
            services = o'.body.services;
            registers = o'.body.registers;
            bytes = length-store 4 m place (y 29) ∙ o'.body.bytes;
            memory = subst (StandsIn w q b) (sym new) (copied_stand b z.first k is bytes z.stands);
          };
          regs = (o'.regs.1.1.0, tt);
        },
      ),
    ))
  where
    word_there : (b : Base) (n o : ℕ) → n ≡ b.at + o → o % 4 ≡ 0 → o + 4 ≤ memory_size → WordAt b n
    word_there b n o e even inside = record { offset = o; is = e; aligned = even; inside = inside }

    zero_more : (x n : ℕ) → x ≡ n → n < 2 ^ 32 → sum x (word (pos 0)) ≡ n
    zero_more x n e few = omega (arith, e, few)

-- ---- the whole

pub copy_comes :
    {w : Surroundings} {code : List Instr} {p : Point} {numbers : ℕ → ℕ} {ψ φ : Layer} {φs : List Layer} {t : Part}
    {x : Copy} (c index : ℕ) (f : Family) (k : Around w code p ψ φ φs t) (is : IsCopy p ψ φ w t x) →
    nat_le (automatic_in_use p.state.living + footprint_of (copy_generation x)) most_automatic ≡ true →
    Linked w.links code index (copy_code t.place x.number) →
    ((b : Base) → IsIn w p numbers index b (f b) × KeepsList t.list b (f b)) →
    Reach code c f (services_of p) (c + size_of (copy_code t.place x.number))
    (services_of (copied_at t.last ψ φ φs x p))
    (λ b y. IsIn w (copied_at t.last ψ φ φs x p) numbers (index + size_of (copy_code t.place x.number)) b y
    × KeepsList t.list b y)
copy_comes {w} {code} {p} {numbers} {ψ} {φ} {φs} {t} {x} c index f k is limit l there =
    let h = point_frame k.stands k.image in
    let h' = (bounded k).frame in
    let new = copied_stands k is in
    let flag = flag_code t.place in
    let asking = asking_code t.place in
    let making = making_code t.place x.number in
    let num = number a1 x.number in
    let tail = Plain I.Ecall ∷ filling_code in
    let l1 = back_of flag (skip_where Test.Equal u4 zero_register making) l in
    let l2 = rest_of _ making l1 in
    let l3 = back_of num (asking ++ tail) l2 in
    let l4 = back_of asking tail l3 in
    let n0 = size_append num (asking ++ tail) in
    let n1 = size_append asking tail in
    let r1 = flag_comes k h 1 c f is.mark (front_of flag (skip_where Test.Equal u4 zero_register making) l) there in
    let r2 = skip_passed (c + 1) (reached r1) Test.Equal u4 zero_register making l1 (reached_holds r1)
    (λ b. let o = (reached_holds r1 b).holds in
    ap (λ u. u == (reached r1 b).machine.registers 0) o.regs.0 ∙ ap (λ u. 1 == u) (zero_is o.body)) in
    let r3 = constant_piece (c + 1 + 1) (reached r2) a1 (pos x.number) (word_fits x.number is.number)
    (record { reserved_stay = λ y u. refl; known_stay = λ b y u o. o; set = λ y u. refl })
    (front_of num (asking ++ tail) l2)
    (λ b. let o = reached_holds r2 b in record { pc = o.pc; holds = o.holds }) in
    let r4 = asking_comes k is h h' (c + 1 + 1 + size_of num) (reached r3) (front_of asking tail l3)
    (λ b. let o = reached_holds r3 b in
    record {
      pc = o.pc;
      holds = record {
        body = o.holds.body;
        regs = (o.holds.regs.0 ∙ word_is x.number is.number, o.holds.regs.1);
      };
    }) in
    let r5 = call_comes k is h' limit (c + 1 + 1 + size_of num + size_of asking) (reached r4)
    (first_of (Plain I.Ecall) filling_code l4) (reached_holds r4) in
    let r6 = filling_comes k is h' (c + 1 + 1 + size_of num + size_of asking + 1) (reached r5)
    (rest_of (Plain I.Ecall) filling_code l4) (reached_holds r5) in
    let all = reach_moved (omega (arith, n0, n1)) (omega (arith, n0, n1))
    (reach_then r1 (reach_then r2 (reach_then r3 (reach_then r4 (reach_then r5 r6))))) in
    reach_map _ all (λ b y o. (in_known h' new.1.parts o, o.holds.regs.0))
