-- The copy of an argument is made: from the point where its procedure has been entered to the point that has it.
use Rattle.std.proofs.Common.{◌≡◌, inl, inr, ℕ, ◌+◌, ◌-◌, ◌%◌, ◌^◌, ◌<◌, ◌≤◌, List, [], ◌∷◌, ◌++◌, length, Option}
use Rattle.std.proofs.Common.{Some, None, Bool, true, false, refl, sym, ap, ◌∙◌, subst, arith}
use Rattle.std.proofs.lemmas.Bool.Decides.{nat_tests}
use Rattle.std.specs.Prelude.{cond, if◌then◌else◌, pos, ◌==◌, nat_le}
use Rattle.rv_meaning.specs.declared.instr.BranchTest.TheVariants as Test
use Rattle.rv_meaning.specs.declared.instr.Instr.{Instr}
use Rattle.rv_meaning.specs.declared.instr.Instr.TheVariants as I
use Rattle.rv_meaning.specs.declared.instr.RegisterOp.TheVariants as Op
use Rattle.rv_meaning.specs.Machine.{memory_size}
use Rattle.rv_meaning.specs.Memory.{load, store}
use Rattle.rv_meaning.specs.Words.{operated, sum, word}
use Rattle.rv_meaning.proofs.MemoryLaws.{length-store, load-store_same, load-store_other}
use Rattle.area_keeper.specs.KeptAreas.{with_part}
use Rattle.area_keeper.proofs.Agreement.{length_with_part}
use Rattle.pli_typing.specs.TypedTree as Y
use Rattle.pli_meaning.specs.BasicValues.{VariableName}
use Rattle.pli_meaning.specs.Making.{with_binding}
use Rattle.pli_meaning.specs.Contents.{footprint_of}
use Rattle.pli_meaning.specs.StorageState.{Activation, Binding, automatic_in_use, most_automatic}
use Rattle.pli_serving.specs.Answers.{Done}
use Rattle.pli_serving.specs.Bytes.{name_bytes, number_bytes}
use Rattle.pli_serving.specs.Values.{generation_bytes}
use Rattle.pli_coding.specs.Assembly.{Plain, size_of}
use Rattle.pli_coding.specs.Entries.{arguments_copied}
use Rattle.pli_coding.specs.Environments.{Environment}
use Rattle.pli_coding.specs.Instructions.{number, skip_where}
use Rattle.pli_coding.specs.Registers.{a1, u4, zero_register}
use Rattle.storage_relation.specs.Changes.{with_memory}
use Rattle.storage_relation.specs.Served.{Holds}
use Rattle.storage_relation.specs.Stored.{IsBeside}
use Rattle.storage_relation.proofs.Confined.{beside_written}
use Rattle.storage_relation.proofs.Values.{store_is}
use Rattle.activation_relation.specs.FrameLaws.{lowered, with_waits}
use Rattle.activation_relation.specs.Frames.{AreLaid, FramesStand, frame_bytes, frame_start, frame_under, upper_top}
use Rattle.activation_relation.specs.Frames.{word_place}
use Rattle.activation_relation.specs.Layers.{Layer, Point, now, services_of}
use Rattle.activation_relation.specs.Points.{Stands, Surroundings}
use Rattle.activation_relation.specs.Variables.{grown}
use Rattle.activation_relation.proofs.FrameWords.{beside_above, frames_kept, levels_covered}
use Rattle.activation_relation.proofs.ListWords.{words_rewritten_below}
use Rattle.activation_relation.proofs.OwnPlaces.{clear_within, frame_below_clear, frame_clear, stores_hold}
use Rattle.activation_relation.proofs.StoredWords.{same_word, stored_beside}
use Rattle.activation_relation.proofs.WaitingWords.{lower_stored}
use Rattle.run_steps.specs.Bodies.{Ground, Known}
use Rattle.run_steps.proofs.Bodies.{at_place, constant_piece, frame_is, zero_is}
use Rattle.run_steps.specs.Calls.{Calling}
use Rattle.run_steps.proofs.Calls.{call_done, called}
use Rattle.run_steps.specs.Engine.{Base, WordAt, call_at}
use Rattle.run_steps.specs.Items.{At, Linked}
use Rattle.run_steps.proofs.Items.{straight}
use Rattle.run_steps.proofs.Jumps.{back_of, first_of, front_of, rest_of, skip_passed}
use Rattle.run_steps.proofs.Linking.{size_append}
use Rattle.run_steps.specs.Reach.{Family, Reach, reached}
use Rattle.run_steps.proofs.Reach.{reach_map, reach_then, reached_holds}
use Rattle.run_steps.proofs.Reaching.{reach_moved}
use Rattle.run_steps.specs.Temporaries.{nothing}
use Rattle.run_steps.specs.Unlimited as U
use Rattle.block_runs.specs.Machines.{IsImage, IsIn}
use Rattle.block_runs.proofs.BlockEntries.{small_is, word_fits, word_is}
use Rattle.block_runs.proofs.Places.{IsFrame, ground_at, word_in}
use Rattle.block_runs.proofs.PointGrounds.{StandsIn, in_known, known_in, point_frame, point_ground}
use Rattle.argument_runs.specs.Copies.{Copy, IsCopied, IsCopy, copied, copy_generation, copy_made_of}
use Rattle.argument_runs.specs.ListBeginnings.{KeepsList}
use Rattle.argument_runs.specs.Lists.{given_waits, layered, list_under, named_waits}
use Rattle.argument_runs.proofs.CopyCode.{asking_code, coded, filling_code, flag_code, making_code}
use Rattle.argument_runs.proofs.CopyMemory.{named_found, named_words, part_again, parts_apart}
use Rattle.argument_runs.proofs.CopyPoints.{Around, asked_is, bounded, copied_answer, copied_holding, copied_stands}
use Rattle.argument_runs.proofs.CopyPoints.{copy_memory, given_layer, laid_here, layers_of, owned_here, zero_bytes}

-- ---- before the call: the value, the signature's number and the mark stand in the list, and the lower stack has grown

abbrev pub asked_waits : (given signature : ℕ) → ℕ → Option ℕ
asked_waits given signature n =
    if n == 5 then Some given else (if n == 1 then Some signature else (if n == 0 then Some 1 else None))

abbrev pub asked_layers : Layer → Layer → List Layer → Copy → List Layer
asked_layers ψ φ φs x =
    lowered (ψ.lower - 16) ψ ∷ with_waits (asked_waits (word x.value) x.number) φ ∷ φs

abbrev pub asked : Layer → Layer → List Layer → Copy → Point → Point
asked ψ φ φs x p = layered (asked_layers ψ φ φs x) p

abbrev asked_memory : Layer → Layer → Copy → List ℕ → List ℕ
asked_memory ψ φ x m =
    store 4 (store 4 m (list_under φ.at + 16) x.number) (ψ.at + 40) (ψ.lower - 16)

-- words of the list before that
list_word :
    {w : Surroundings} {code : List Instr} {p : Point} {ψ φ : Layer} {φs : List Layer} {x : Copy} (base n v : ℕ)
    (m : List ℕ) → Around w code p ψ φ φs x → FramesStand w.parts base m p.state.activations p.control.layers →
    n < 6 → given_waits (word x.value) n ≡ Some v → load 4 m (word_place φ n) ≡ v
list_word {w} {p = p} {ψ = ψ} {φ = φ} {φs = φs} {x = x} base n v m k frames less e =
    by p.state.activations (subst (FramesStand w.parts base m p.state.activations) k.is.newest frames)
  where
    by : (as' : List Activation) → FramesStand w.parts base m as' (layers_of ψ φ φs x) → load 4 m (word_place φ n) ≡ v
    by [] h = absurd h
    by (b ∷ []) h = absurd h.1
    by (b ∷ a ∷ as') h = let words = k.is.words in h.1.0.waits n v (omega (arith, less, words)) e

asked_found :
    (φ : Layer) (given signature n v : ℕ) (m : List ℕ) → 24 ≤ φ.at →
    ((i u : ℕ) → i < 6 → given_waits given i ≡ Some u → load 4 m (word_place φ i) ≡ u) →
    signature < 2 ^ 32 → list_under φ.at + 20 ≤ length m → asked_waits given signature n ≡ Some v →
    load 4 (store 4 m (list_under φ.at + 16) signature) (word_place φ n) ≡ v
asked_found φ given signature n v m low words small' room e = t5 (n == 5) refl e
  where
    some : {a b : ℕ} → Some a ≡ Some b → a ≡ b
    some h = cc h

    m' : List ℕ
    m' = store 4 m (list_under φ.at + 16) signature

    t0 : (q : Bool) → (n == 0) ≡ q → cond q (Some 1) None ≡ Some v → load 4 m' (word_place φ n) ≡ v
    t0 true f h =
        let z : n ≡ 0 = grind (arith, nat_tests) in
        load-store_other 4 4 m (list_under φ.at + 16) signature (word_place φ n) (inr (omega (arith, low, z)))
        ∙ words n 1 (omega (arith, z)) (ap (given_waits given) z) ∙ some h
    t0 false f h = absurd (cc h)

    t1 : (q : Bool) → (n == 1) ≡ q → cond q (Some signature) (cond (n == 0) (Some 1) None) ≡ Some v →
        load 4 m' (word_place φ n) ≡ v
    t1 true f h =
        let z : n ≡ 1 = grind (arith, nat_tests) in
        let place : word_place φ n ≡ list_under φ.at + 16 = omega (arith, low, z) in
        ap (load 4 m') place ∙ load-store_same 4 m (list_under φ.at + 16) signature small' (omega (arith, room))
        ∙ some h
    t1 false f h = t0 (n == 0) refl h

    t5 : (q : Bool) → (n == 5) ≡ q →
        cond q (Some given) (cond (n == 1) (Some signature) (cond (n == 0) (Some 1) None)) ≡ Some v →
        load 4 m' (word_place φ n) ≡ v
    t5 true f h =
        let z : n ≡ 5 = grind (arith, nat_tests) in
        load-store_other 4 4 m (list_under φ.at + 16) signature (word_place φ n) (inl (omega (arith, low, z)))
        ∙ words n given (omega (arith, z)) (ap (given_waits given) z) ∙ some h
    t5 false f h = t1 (n == 1) refl h

asked_stands :
    {w : Surroundings} {code : List Instr} {p : Point} {ψ φ : Layer} {φs : List Layer} {x : Copy} (b : Base)
    (m : List ℕ) → Around w code p ψ φ φs x → length m ≡ memory_size → StandsIn w p b m →
    StandsIn w (asked ψ φ φs x p) b (asked_memory ψ φ x m)
asked_stands {w} {p = p} {ψ = ψ} {φ = φ} {φs = φs} {x = x} b m k bytes stands =
    let o = bounded k in
    let laid = laid_here k in
    let low = o.list.high in
    let room = o.list.room in
    let words = o.words in
    let frame = o.frame.room in
    let small' = k.is.number in
    let first = store 4 m (list_under φ.at + 16) x.number in
    let long = length-store 4 m (list_under φ.at + 16) x.number in
    let fixed = laid.0.fixed in
    let above = laid.0.above in
    let covered = levels_covered ψ.level ψ.parameters in
    let h1 = stores_hold (now p m) (list_under φ.at + 16) 4 ((list_under φ.at + 16, x.number) ∷ []) stands.storage
    (clear_within p.keeper p.places p.state (frame_start φ) (frame_bytes φ) (list_under φ.at + 16) 4
    (frame_below_clear p.keeper p.places p.state w.parts ψ (given_layer φ x) φs (owned_here k) laid)
    (omega (arith, words)) (omega (arith, words, low)))
    (omega (arith, room, bytes)) ((omega arith, omega arith), tt) in
    let h2 = stores_hold (with_memory first (now p m)) (ψ.at + 40) 4 ((ψ.at + 40, ψ.lower - 16) ∷ []) h1
    (clear_within p.keeper p.places p.state (frame_start ψ) (frame_bytes ψ) (ψ.at + 40) 4
    (frame_clear p.keeper p.places p.state w.parts ψ (given_layer φ x ∷ φs) (owned_here k) laid)
    (omega (arith, above)) (omega (arith, covered, above)))
    (omega (arith, frame, bytes, long)) ((omega arith, omega arith), tt) in
    record {
      storage = same_now h2;
      frames = frames_by p.state.activations
          (subst (FramesStand w.parts b.at m p.state.activations) k.is.newest stands.frames);
    }
  where
    same_now : {m' : List ℕ} → Holds (with_memory m' (now p m)) → Holds (now (asked ψ φ φs x p) m')
    same_now h =
        record {
          keeps = h.keeps;
          heap = record { at = h.heap.at; capacity = h.heap.capacity };
          lives = record { falling = h.lives.falling; numbered = h.lives.numbered; extents = h.lives.extents };
          stored = h.stored;
          distinct = h.distinct;
        }

    frames_by :
        (as' : List Activation) → FramesStand w.parts b.at m as' (layers_of ψ φ φs x) →
        FramesStand w.parts b.at (asked_memory ψ φ x m) as' (asked_layers ψ φ φs x)
    frames_by [] h = absurd h
    frames_by (c ∷ []) h = absurd h.1
    frames_by (c ∷ a ∷ as') h =
        let o = bounded k in
        let laid = laid_here k in
        let low = o.list.high in
        let room = o.list.room in
        let lower = o.room in
        let words = o.words in
        let few = k.is.words in
        let small' = k.is.number in
        let at = list_under φ.at + 16 in
        let first = store 4 m at x.number in
        let long = length-store 4 m at x.number in
        let waits = asked_waits (word x.value) x.number in
        let changed = words_rewritten_below w.parts b.at at 4 m first c a as' ψ (given_layer φ x) φs waits h (
          laid,
          omega (arith, words),
          omega (arith, low),
          stored_beside at 4 ((at, x.number) ∷ []) m ((omega arith, omega arith), tt),
        )
        (λ n v less e. asked_found φ (word x.value) x.number n v m (omega (arith, low))
        (λ i u less' e'. h.1.0.waits i u (omega (arith, less', few)) e') (omega (arith, small'))
        (omega (arith, room, bytes)) e) in
        let fits = k.is.fits in
        lower_stored w.parts b.at (ψ.lower - 16) first c (a ∷ as') ψ (with_waits waits φ ∷ φs) changed (
          (
            record {
              above = laid.0.above;
              fixed = laid.0.fixed;
              falls = laid.0.falls;
              free = laid.0.free;
              saved = laid.0.saved;
              told = laid.0.told;
            },
            (
              record {
                above = laid.1.0.above;
                fixed = laid.1.0.fixed;
                falls = laid.1.0.falls;
                free = laid.1.0.free;
                saved = laid.1.0.saved;
                told = laid.1.0.told;
              },
              laid.1.1,
            ),
          ),
          omega (arith, lower, bytes, long),
          omega (arith, lower),
        )

-- ---- behind the call and the store of the value

laid_asked :
    {w : Surroundings} {code : List Instr} {p : Point} {ψ φ : Layer} {φs : List Layer} {x : Copy} →
    Around w code p ψ φ φs x → AreLaid w.parts (asked_layers ψ φ φs x)
laid_asked {w} k =
    let laid = laid_here k in
    let fits = k.is.fits in
    let falls = laid.0.falls in (
      record {
        above = laid.0.above;
        fixed = laid.0.fixed;
        falls = omega (arith, falls);
        free = omega (arith, fits);
        saved = laid.0.saved;
        told = laid.0.told;
      },
      (
        record {
          above = laid.1.0.above;
          fixed = laid.1.0.fixed;
          falls = laid.1.0.falls;
          free = laid.1.0.free;
          saved = laid.1.0.saved;
          told = laid.1.0.told;
        },
        laid.1.1,
      ),
    )

copied_frames :
    {w : Surroundings} {code : List Instr} {p : Point} {ψ φ : Layer} {φs : List Layer} {x : Copy} (base : ℕ)
    (m : List ℕ) → Around w code p ψ φ φs x → length m ≡ memory_size →
    FramesStand w.parts base m p.state.activations (asked_layers ψ φ φs x) →
    FramesStand w.parts base (copy_memory p ψ φ (generation_bytes (copy_generation x)) m)
    (copied ψ φ φs x p).state.activations (copied ψ φ φs x p).control.layers
copied_frames {w} {p = p} {ψ = ψ} {φ = φ} {φs = φs} {x = x} base m k bytes frames = by p.state.activations frames
  where
    place : ℕ
    place = ψ.lower - 16

    serial : ℕ
    serial = p.state.serials + 1

    data' : List ℕ
    data' = generation_bytes (copy_generation x)

    first : List ℕ
    first = with_part data' place m

    new : List ℕ
    new = with_part (name_bytes (VariableName serial)) (list_under φ.at) first

    waits : ℕ → Option ℕ
    waits = named_waits serial x.number

    binding : Binding
    binding =
        record { variable = x.index; name = VariableName serial; shape = (copy_generation x).shape }

    by :
        (as' : List Activation) → FramesStand w.parts base m as' (asked_layers ψ φ φs x) →
        FramesStand w.parts base new (with_binding binding as')
        (grown (copy_made_of ψ x) ψ ∷ with_waits waits φ ∷ φs)
    by [] h = absurd h
    by (c ∷ []) h = absurd h.1
    by (c ∷ a ∷ as') h =
        let o = bounded k in
        let laid = laid_asked k in
        let fits = k.is.fits in
        let room = o.room in
        let low = o.list.high in
        let list = o.list.room in
        let words = o.words in
        let few = k.is.words in
        let z : place + 0 ≡ place = omega arith in
        let z' : list_under φ.at + 0 ≡ list_under φ.at = omega arith in
        let beside1 = subst (λ i. IsBeside place 4 m (with_part data' i m)) z
        (beside_written data' place 4 0 m (omega arith) (omega (arith, room, bytes, fits))) in
        let long = beside1.as_many in
        let kept = frames_kept w.parts base place 4 m first (c ∷ a ∷ as') (asked_layers ψ φ φs x) h laid
        (beside_above w.parts place 4 (asked_layers ψ φ φs x) laid (omega (arith, fits))) beside1 in
        let beside2 = subst (λ i. IsBeside (list_under φ.at) 16 first
        (with_part (name_bytes (VariableName serial)) i first)) z'
        (beside_written (name_bytes (VariableName serial)) (list_under φ.at) 16 0 first (omega arith)
        (omega (arith, list, bytes, long))) in
        let word' : (n v : ℕ) → n < 2 → asked_waits (word x.value) x.number n ≡ Some v →
        load 4 new (word_place φ n) ≡ v =
        λ n v less e.
        same_word (list_under φ.at) 16 (word_place φ n) first new beside2 (inl (omega (arith, less, low)))
        ∙ kept.1.0.waits n v (omega (arith, less, few)) e in
        let place1 : word_place φ 1 ≡ list_under φ.at + 16 = omega (arith, low) in
        let place0 : word_place φ 0 ≡ list_under φ.at + 20 = omega (arith, low) in
        let changed = words_rewritten_below w.parts base (list_under φ.at) 16 first new c a as'
        (lowered (ψ.lower - 16) ψ) (with_waits (asked_waits (word x.value) x.number) φ) φs waits kept (
          laid,
          words,
          omega (arith, low),
          beside2,
        )
        (λ n v less e. named_found φ serial x.number n v new (omega (arith, low))
        (named_words serial (list_under φ.at) first k.is.serial (omega (arith, list, bytes, long))) (
          ap (load 4 new) (sym place1) ∙ word' 1 x.number (omega arith) refl,
          ap (load 4 new) (sym place0) ∙ word' 0 1 (omega arith) refl,
        ) e) in (
          record {
            back = changed.0.back;
            below = changed.0.below;
            saved = changed.0.saved;
            own = changed.0.own;
            lower = changed.0.lower;
            display_words = changed.0.display_words;
            waits = changed.0.waits;
            told = changed.0.told;
            list = changed.0.list;
          },
          changed.1,
        )

copied_stand :
    {w : Surroundings} {code : List Instr} {p : Point} {ψ φ : Layer} {φs : List Layer} {x : Copy} (b : Base)
    (m : List ℕ) → Around w code p ψ φ φs x → length m ≡ memory_size → StandsIn w (asked ψ φ φs x p) b m →
    StandsIn w (copied ψ φ φs x p) b (copy_memory p ψ φ (generation_bytes (copy_generation x)) m)
copied_stand {w} {p = p} {ψ = ψ} {φ = φ} {φs = φs} {x = x} b m k bytes stands =
    record {
      storage = copied_holding m k bytes (old_now stands.storage);
      frames = copied_frames b.at m k bytes stands.frames;
    }
  where
    old_now : Holds (now (asked ψ φ φs x p) m) → Holds (now p m)
    old_now h =
        record {
          keeps = h.keeps;
          heap = record { at = h.heap.at; capacity = h.heap.capacity };
          lives = record { falling = h.lives.falling; numbered = h.lives.numbered; extents = h.lives.extents };
          stored = h.stored;
          distinct = h.distinct;
        }

-- the value over the zero with which the data began
filled :
    (p : Point) (ψ φ : Layer) (x : Copy) (m : List ℕ) → φ.at ≤ ψ.lower - 16 → 24 ≤ φ.at →
    ψ.lower - 16 + 4 ≤ length m →
    store 4 (copy_memory p ψ φ zero_bytes m) (ψ.lower - 16) (word x.value)
    ≡ copy_memory p ψ φ (generation_bytes (copy_generation x)) m
filled p ψ φ x m before low room =
    let name = name_bytes (VariableName (p.state.serials + 1)) in
    let place = ψ.lower - 16 in
    let number' = number_bytes 4 (word x.value) in
    let zeroed = with_part zero_bytes place m in
    let long = length_with_part zero_bytes place m room in
    let long' = length_with_part name (list_under φ.at) zeroed (omega (arith, before, low, room, long)) in
    sym (store_is 4 (word x.value) place (with_part name (list_under φ.at) zeroed) (omega (arith, room, long, long')))
    ∙ parts_apart name number' (list_under φ.at) place zeroed (omega (arith, before, low)) (omega (arith, room, long))
    ∙ ap (with_part name (list_under φ.at)) (part_again zero_bytes number' place m refl room)

-- ---- the code

abbrev pub flag_regs : (list : ℕ) → Base → List (ℕ × ℕ)
flag_regs list b = (29, 1) ∷ (30, b.at + list) ∷ []

abbrev pub given_regs : (list : ℕ) → Copy → Base → List (ℕ × ℕ)
given_regs list x b = (11, x.number) ∷ flag_regs list b

abbrev pub asking_regs : (list : ℕ) → Layer → Copy → Base → List (ℕ × ℕ)
asking_regs list ψ x b =
    (17, 7) ∷ (14, 2) ∷ (13, ψ.lower - 16) ∷ (12, 0) ∷ (11, x.number) ∷ (10, list) ∷ (29, word x.value)
    ∷ (6, ψ.lower - 16) ∷ []

abbrev filling_regs : Layer → Copy → Base → List (ℕ × ℕ)
filling_regs ψ x b = (29, word x.value) ∷ (6, ψ.lower - 16) ∷ []

-- between the call of service 7 and the store
pub record HasZero (w : Surroundings) (p : Point) (ψ φ : Layer) (φs : List Layer) (x : Copy) (b : Base)
    (m : List ℕ) : Type 0 where
  pub first : List ℕ
  pub bytes : length first ≡ memory_size
  pub stands : StandsIn w (asked ψ φ φs x p) b first
  pub is : m ≡ copy_memory p ψ φ zero_bytes first

abbrev zero_ground : (w : Surroundings) (p : Point) (ψ φ : Layer) (φs : List Layer) (x : Copy) → IsFrame ψ.at → Ground
zero_ground w p ψ φ φs x h = ground_at ψ.at ψ.top h (λ b m. HasZero w p ψ φ φs x b m)

newest_word :
    {w : Surroundings} {code : List Instr} {p : Point} {ψ φ : Layer} {φs : List Layer} {x : Copy} (base : ℕ)
    (m : List ℕ) → Around w code p ψ φ φs x → FramesStand w.parts base m p.state.activations p.control.layers →
    (load 4 m (ψ.at + 40) ≡ ψ.lower) × (load 4 m (ψ.at + 44) ≡ list_under φ.at)
newest_word {w} {p = p} {ψ = ψ} {φ = φ} {φs = φs} {x = x} base m k frames =
    by p.state.activations (subst (FramesStand w.parts base m p.state.activations) k.is.newest frames)
  where
    by : (as' : List Activation) → FramesStand w.parts base m as' (layers_of ψ φ φs x) →
        (load 4 m (ψ.at + 40) ≡ ψ.lower) × (load 4 m (ψ.at + 44) ≡ list_under φ.at)
    by [] h = absurd h
    by (a ∷ as') h = (h.0.lower, (h.0.list (list_under φ.at) k.is.list).1)

base_moved : (x n : ℕ) → x ≡ n → n < 2 ^ 32 → sum x (word (pos 0)) ≡ n
base_moved x n e few = omega (arith, e, few)

less_sixteen : (x y n : ℕ) → x ≡ n → y ≡ 16 → 16 ≤ n → n < 2 ^ 32 → operated Op.Subtract x y ≡ n - 16
less_sixteen x y n e f some few = omega (arith, e, f, some, few)

address_is : (b : Base) (x n : ℕ) → x ≡ n → n < 2 ^ 24 → sum b.at x ≡ b.at + n
address_is b x n e few = let v = b.valid.1 in omega (arith, e, few, v)

pub flag_comes :
    {w : Surroundings} {code : List Instr} {p : Point} {ψ φ : Layer} {φs : List Layer} {x : Copy} {numbers : ℕ → ℕ}
    {i : ℕ} (k : Around w code p ψ φ φs x) (h : IsFrame (frame_under w.parts p.control.layers)) (c : ℕ) (f : Family) →
    Linked w.links code i flag_code →
    ((b : Base) → IsIn w p numbers i b (f b) × KeepsList (list_under φ.at) b (f b)) →
    Reach code c f (services_of p) (c + 1) (services_of p)
    (λ b y. At b (i + 1) (Known (point_ground w p h) (services_of p) numbers (λ n. 0) (flag_regs (list_under φ.at)) b)
    y)
flag_comes {w} {code} {p} {ψ} {φ} {φs} {x} {numbers} k h c f l there =
    let v = services_of p in
    let o = bounded k in
    let low = o.list.high in
    let place0 : word_place φ 0 ≡ list_under φ.at + 20 = omega (arith, low) in
    straight c f v v (λ b y. Known (point_ground w p h) v numbers (λ n. 0) (flag_regs (list_under φ.at)) b y) l
    (omega arith) (λ b. (there b).0.at.pc)
    (λ b.
    let o' = (known_in {t = λ n. 0} {rs = λ b'. (30, b'.at + list_under φ.at) ∷ []} h (there b).0
    ((there b).1, tt)).holds in
    let y = (f b).machine.registers in (
      at_place b (word_in (list_under φ.at) 20 o.list refl (omega arith)) (sum (y 30) (word (pos 20)))
          (ap (λ u. sum u (word (pos 20))) o'.regs.0),
      record {
        body = record {
          services = o'.body.services;
          registers = o'.body.registers;
          bytes = o'.body.bytes;
          memory = o'.body.memory;
        };
        regs = (
          ap (load 4 (f b).machine.memory) (sym place0)
              ∙ list_word b.at 0 1 (f b).machine.memory k o'.body.memory.frames (omega arith) refl,
          o'.regs,
        );
      },
    ))

pub asking_comes :
    {w : Surroundings} {code : List Instr} {p : Point} {ψ φ : Layer} {φs : List Layer} {x : Copy} {numbers : ℕ → ℕ}
    {i : ℕ} (k : Around w code p ψ φ φs x) (h : IsFrame (frame_under w.parts p.control.layers)) (h' : IsFrame ψ.at)
    (c : ℕ) (f : Family) → Linked w.links code i asking_code →
    ((b : Base) → At b i (Known (point_ground w p h) (services_of p) numbers (λ n. 0) (given_regs (list_under φ.at) x)
    b) (f b)) →
    Reach code c f (services_of p) (c + size_of asking_code) (services_of (asked ψ φ φs x p))
    (λ b y. At b (i + size_of asking_code) (Known (point_ground w (asked ψ φ φs x p) h')
    (services_of (asked ψ φ φs x p)) numbers (λ n. 0) (asking_regs (list_under φ.at) ψ x) b) y)
asking_comes {w} {code} {p} {ψ} {φ} {φs} {x} {numbers} k h h' c f l there =
    let v = services_of p in
    let q = asked ψ φ φs x p in
    let v' = services_of q in
    let o = bounded k in
    let low = o.list.high in
    let room = o.list.room in
    let lower = o.room in
    let fits = k.is.fits in
    let small' = l.small' in
    let frame = h'.high in
    let below = o.below in
    let number' = k.is.number in
    let same : frame_under w.parts p.control.layers ≡ ψ.at = ap (λ ls. frame_under w.parts ls) k.is.newest in
    let top : upper_top w.parts p.control.layers ≡ ψ.top = ap (λ ls. upper_top w.parts ls) k.is.newest in
    let L = list_under φ.at in
    let place5 : word_place φ 5 ≡ L = omega (arith, low) in
    straight c f v v' (λ b y. Known (point_ground w q h') v' numbers (λ n. 0) (asking_regs L ψ x) b y) l (omega arith)
    (λ b. (there b).pc)
    (λ b.
    let o' = (there b).holds in
    let y = (f b).machine.registers in
    let m = (f b).machine.memory in
    let bytes = o'.body.bytes in
    let m1 = store 4 m (L + 16) (y 11) in
    let m1' = store 4 m (L + 16) x.number in
    let first : m1 ≡ m1' = ap (store 4 m (L + 16)) o'.regs.0 in
    let frames = o'.body.memory.frames in
    let own = newest_word b.at m k frames in
    let base = frame_is o'.body ∙ ap (λ n. b.at + n) same in
    let sixteen = small_is (y 0) 16 (zero_is o'.body) (omega arith) in
    let low40 : load 4 m1 (ψ.at + 40) ≡ ψ.lower =
    load-store_other 4 4 m (L + 16) (y 11) (ψ.at + 40) (inr (omega (arith, below, low))) ∙ own.0 in
    let less = less_sixteen (load 4 m1 (ψ.at + 40)) (sum (y 0) 16) ψ.lower low40 sixteen (omega (arith, fits))
    (omega (arith, lower)) in
    let m2 = store 4 m1 (ψ.at + 40) (operated Op.Subtract (load 4 m1 (ψ.at + 40)) (sum (y 0) 16)) in
    let m2' = asked_memory ψ φ x m in
    let second : m2 ≡ m2' =
    ap (store 4 m1 (ψ.at + 40)) less ∙ ap (λ u. store 4 u (ψ.at + 40) (ψ.lower - 16)) first in
    let long1 = length-store 4 m (L + 16) (y 11) in
    let zero' : L + 0 ≡ L = omega arith in
    let value5 : load 4 m2 (L + 0) ≡ word x.value =
    ap (load 4 m2) zero'
    ∙ load-store_other 4 4 m1 (ψ.at + 40) _ L (inl (omega (arith, below, low)))
    ∙ load-store_other 4 4 m (L + 16) (y 11) L (inl (omega arith))
    ∙ ap (load 4 m) (sym place5)
    ∙ list_word b.at 5 (word x.value) m k frames (omega arith) refl in
    let list44 : load 4 m2 (ψ.at + 44) ≡ L =
    load-store_other 4 4 m1 (ψ.at + 40) _ (ψ.at + 44) (inr (omega arith))
    ∙ load-store_other 4 4 m (L + 16) (y 11) (ψ.at + 44) (inr (omega (arith, below, low))) ∙ own.1 in (
      at_place b (word_in L 16 o.list refl (omega arith)) (sum (y 30) (word (pos 16)))
          (ap (λ u. sum u (word (pos 16))) o'.regs.1.1.0),
      omega (arith, small', low),
      (
        at_place b (word_in ψ.at 40 h' refl (omega arith)) (sum (y 8) (word (pos 40)))
            (ap (λ u. sum u (word (pos 40))) base),
        (
          at_place b (word_in ψ.at 40 h' refl (omega arith)) (sum (y 8) (word (pos 40)))
              (ap (λ u. sum u (word (pos 40))) base),
          omega (arith, small', frame),
          (
            at_place b (word_in L 0 o.list refl (omega arith)) (sum (y 30) (word (pos 0)))
                (ap (λ u. sum u (word (pos 0))) o'.regs.1.1.0),
            (
              at_place b (word_in ψ.at 44 h' refl (omega arith)) (sum (y 8) (word (pos 44)))
                  (ap (λ u. sum u (word (pos 44))) base),
              record {
                body = record {
                  services = o'.body.services ∙ ap (λ ls. services_of (layered ls p)) k.is.newest;
                  registers = o'.body.registers
                      ∙ ap (λ n. 0 ∷ (b.at + n) ∷ (b.at + frame_under w.parts p.control.layers) ∷ numbers 0 ∷ numbers 1
                      ∷ numbers 2 ∷ numbers 3 ∷ numbers 4 ∷ numbers 5 ∷ numbers 6 ∷ []) top
                      ∙ ap (λ n. 0 ∷ (b.at + ψ.top) ∷ (b.at + n) ∷ numbers 0 ∷ numbers 1
                      ∷ numbers 2 ∷ numbers 3 ∷ numbers 4 ∷ numbers 5 ∷ numbers 6 ∷ []) same;
                  bytes = length-store 4 m1 (ψ.at + 40) _ ∙ long1 ∙ bytes;
                  memory = subst (StandsIn w q b) (sym second) (asked_stands b m k bytes o'.body.memory);
                };
                regs = (
                  small_is (y 0) 7 (zero_is o'.body) (omega arith),
                  (
                    small_is (y 0) 2 (zero_is o'.body) (omega arith),
                    (
                      base_moved _ (ψ.lower - 16) less (omega (arith, lower)),
                      (
                        small_is (y 0) 0 (zero_is o'.body) (omega arith),
                        (
                          o'.regs.0,
                          (base_moved _ L list44 (omega (arith, room)), (value5, (less, tt))),
                        ),
                      ),
                    ),
                  ),
                );
              },
            ),
          ),
        ),
      ),
    ))

call_comes :
    {w : Surroundings} {code : List Instr} {p : Point} {ψ φ : Layer} {φs : List Layer} {x : Copy} {numbers : ℕ → ℕ}
    {i : ℕ} (k : Around w code p ψ φ φs x) (h' : IsFrame ψ.at) →
    nat_le (automatic_in_use p.state.living + footprint_of (copy_generation x)) most_automatic ≡ true → (c : ℕ)
    (f : Family) → Linked w.links code i (Plain I.Ecall ∷ []) →
    ((b : Base) → At b i (Known (point_ground w (asked ψ φ φs x p) h') (services_of (asked ψ φ φs x p)) numbers (λ n. 0)
    (asking_regs (list_under φ.at) ψ x) b) (f b)) →
    Reach code c f (services_of (asked ψ φ φs x p)) (c + 1) (services_of (copied ψ φ φs x p))
    (λ b y. At b (i + 1) (Known (zero_ground w p ψ φ φs x h') (services_of (copied ψ φ φs x p)) numbers (λ n. 0)
    (filling_regs ψ x) b) y)
call_comes {w} {code} {p} {ψ} {φ} {φs} {x} {numbers} {i} k h' few c f l there =
    let q = asked ψ φ φs x p in
    let v = services_of q in
    let v' = services_of (copied ψ φ φs x p) in
    let L = list_under φ.at in
    let small' = l.small' in
    let same : v ≡ services_of p = sym (ap (λ ls. services_of (layered ls p)) k.is.newest) in
    let calling : Calling w.links code i f
    (λ b. Done v' (copy_memory p ψ φ zero_bytes (f b).machine.memory) L x.number) =
    record {
      linked = l;
      pc = λ b. (there b).pc;
      answers = λ b.
          let o = (there b).holds in
          let m = (f b).machine.memory in
          called code (f b) v 7 L x.number 0 (ψ.lower - 16) 2
          (λ call x0 x1 x2 x3 x4. U.make_served call x0 x1 x2 x3 x4) o.body.services o.regs.0 o.regs.1.1.1.1.1.0
          o.regs.1.1.1.1.0 o.regs.1.1.1.0 o.regs.1.1.0 o.regs.1.0 (λ call y. refl)
          ∙ ap (λ u. U.make_served (call_at code u m) L x.number 0 (ψ.lower - 16) 2) same
          ∙ copied_answer m m k few o.body.bytes (old_now m o.body.memory.storage) (omega (arith, small'));
    } in
    call_done c f v v' (λ b. copy_memory p ψ φ zero_bytes (f b).machine.memory) (λ b. L) (λ b. x.number)
    (λ b y. Known (zero_ground w p ψ φ φs x h') v' numbers (λ n. 0) (filling_regs ψ x) b y) (omega arith) calling
    (λ b.
    let o = (there b).holds in
    let m = (f b).machine.memory in
    let bytes = o.body.bytes in
    let k' = bounded k in
    let room = k'.room in
    let list = k'.list.room in
    let fits = k.is.fits in
    let long = length_with_part zero_bytes (ψ.lower - 16) m (omega (arith, room, bytes, fits)) in
    let long' = length_with_part (name_bytes (VariableName (p.state.serials + 1))) L
    (with_part zero_bytes (ψ.lower - 16) m) (omega (arith, list, bytes, long)) in
    record {
      body = record {
        services = refl;
        registers = o.body.registers;
        bytes = long' ∙ long ∙ bytes;
        memory = record { first = m; bytes = bytes; stands = o.body.memory; is = refl };
      };
      regs = (o.regs.1.1.1.1.1.1.0, (o.regs.1.1.1.1.1.1.1.0, tt));
    })
  where
    old_now : (m : List ℕ) → Holds (now (asked ψ φ φs x p) m) → Holds (now p m)
    old_now m h =
        record {
          keeps = h.keeps;
          heap = record { at = h.heap.at; capacity = h.heap.capacity };
          lives = record { falling = h.lives.falling; numbered = h.lives.numbered; extents = h.lives.extents };
          stored = h.stored;
          distinct = h.distinct;
        }

filling_comes :
    {w : Surroundings} {code : List Instr} {p : Point} {ψ φ : Layer} {φs : List Layer} {x : Copy} {numbers : ℕ → ℕ}
    {i : ℕ} (k : Around w code p ψ φ φs x) (h' : IsFrame ψ.at) (c : ℕ) (f : Family) →
    Linked w.links code i filling_code →
    ((b : Base) → At b i (Known (zero_ground w p ψ φ φs x h') (services_of (copied ψ φ φs x p)) numbers (λ n. 0)
    (filling_regs ψ x) b) (f b)) →
    Reach code c f (services_of (copied ψ φ φs x p)) (c + size_of filling_code) (services_of (copied ψ φ φs x p))
    (λ b y. At b (i + size_of filling_code) (Known (point_ground w (copied ψ φ φs x p) h')
    (services_of (copied ψ φ φs x p)) numbers (λ n. 0) nothing b) y)
filling_comes {w} {code} {p} {ψ} {φ} {φs} {x} {numbers} k h' c f l there =
    let q = copied ψ φ φs x p in
    let v = services_of q in
    let o = bounded k in
    let room = o.room in
    let fits = k.is.fits in
    let low = o.list.high in
    let above = o.above in
    let even = k.is.even in
    let small' = l.small' in
    let place = ψ.lower - 16 in
    straight c f v v (λ b y. Known (point_ground w q h') v numbers (λ n. 0) nothing b y) l (omega arith)
    (λ b. (there b).pc)
    (λ b.
    let o' = (there b).holds in
    let y = (f b).machine.registers in
    let m = (f b).machine.memory in
    let z = o'.body.memory in
    let bytes = z.bytes in
    let at : sum b.at (y 6) ≡ b.at + place = address_is b (y 6) place o'.regs.1.0 (omega (arith, room)) in
    let new : store 4 m place (y 29) ≡ copy_memory p ψ φ (generation_bytes (copy_generation x)) z.first =
    ap (store 4 m place) o'.regs.0
    ∙ ap (λ u. store 4 u place (word x.value)) z.is
    ∙ filled p ψ φ x z.first (omega (arith, above, fits)) (omega (arith, low)) (omega (arith, room, bytes)) in (
      refl,
      (
        word_there b (sum (sum b.at (y 6)) (word (pos 0))) place
            (zero_more (sum b.at (y 6)) (b.at + place) at (let u = b.valid.1 in omega (arith, u, room)))
            (omega (arith, even, fits)) (omega (arith, room)),
        omega (arith, small', low, above, fits),
        record {
          body = record {
            services = o'.body.services;
            registers = o'.body.registers;
            bytes = length-store 4 m place (y 29) ∙ o'.body.bytes;
            memory = subst (StandsIn w q b) (sym new) (copied_stand b z.first k bytes z.stands);
          };
          regs = tt;
        },
      ),
    ))
  where
    word_there : (b : Base) (n o : ℕ) → n ≡ b.at + o → o % 4 ≡ 0 → o + 4 ≤ memory_size → WordAt b n
    word_there b n o e even inside = record { offset = o; is = e; aligned = even; inside = inside }

    zero_more : (x n : ℕ) → x ≡ n → n < 2 ^ 32 → sum x (word (pos 0)) ≡ n
    zero_more x n e few = omega (arith, e, few)

-- ---- the whole

pub copies_come :
    {w : Surroundings} {code : List Instr} {p : Point} {numbers : ℕ → ℕ} {ψ φ : Layer} {φs : List Layer} {x : Copy}
    {e : Environment} {parameters : List ℕ} {d : Y.DeclaredVariable} (credits index : ℕ) (f : Family) →
    Stands w p × IsImage w code p → IsCopy w p ψ φ φs x → IsCopied e parameters d x →
    Linked w.links code index (arguments_copied e parameters) →
    ((b : Base) → IsIn w p numbers index b (f b) × KeepsList (list_under φ.at) b (f b)) →
    Reach code credits f (services_of p) (credits + size_of (arguments_copied e parameters))
    (services_of (copied ψ φ φs x p))
    (λ b y. IsIn w (copied ψ φ φs x p) numbers (index + size_of (arguments_copied e parameters)) b y)
copies_come {w} {code} {p} {numbers} {ψ} {φ} {φs} {x} {e} {parameters} {d} c index f known is by l there =
    let k : Around w code p ψ φ φs x = record { stands = known.0; image = known.1; is = asked_is is } in
    let c' = coded e parameters d x by in
    let size = ap (λ u. size_of u) c' in
    let h = point_frame known.0 known.1 in
    let h' = (bounded k).frame in
    let new = copied_stands w code p ψ φ φs x known is in
    let making = making_code x.number in
    let num = number a1 x.number in
    let tail = Plain I.Ecall ∷ filling_code in
    let l0 = subst (Linked w.links code index) c' l in
    let l1 = back_of flag_code (skip_where Test.Equal u4 zero_register making) l0 in
    let l2 = rest_of _ making l1 in
    let l3 = back_of num (asking_code ++ tail) l2 in
    let l4 = back_of asking_code tail l3 in
    let n0 = size_append num (asking_code ++ tail) in
    let r1 = flag_comes k h c f (front_of flag_code (skip_where Test.Equal u4 zero_register making) l0) there in
    let r2 = skip_passed (c + 1) (reached r1) Test.Equal u4 zero_register making l1 (reached_holds r1)
    (λ b. let o = (reached_holds r1 b).holds in
    ap (λ u. u == (reached r1 b).machine.registers 0) o.regs.0 ∙ ap (λ u. 1 == u) (zero_is o.body)) in
    let r3 = constant_piece (c + 1 + 1) (reached r2) a1 (pos x.number) (word_fits x.number is.number)
    (record { reserved_stay = λ y u. refl; known_stay = λ b y u o. o; set = λ y u. refl })
    (front_of num (asking_code ++ tail) l2)
    (λ b. let o = reached_holds r2 b in record { pc = o.pc; holds = o.holds }) in
    let r4 = asking_comes k h h' (c + 1 + 1 + size_of num) (reached r3) (front_of asking_code tail l3)
    (λ b. let o = reached_holds r3 b in
    record {
      pc = o.pc;
      holds = record {
        body = o.holds.body;
        regs = (o.holds.regs.0 ∙ word_is x.number is.number, o.holds.regs.1);
      };
    }) in
    let r5 = call_comes k h' is.limit (c + 1 + 1 + size_of num + size_of asking_code) (reached r4)
    (first_of (Plain I.Ecall) filling_code l4) (reached_holds r4) in
    let r6 = filling_comes k h' (c + 1 + 1 + size_of num + size_of asking_code + 1) (reached r5)
    (rest_of (Plain I.Ecall) filling_code l4) (reached_holds r5) in
    let all = reach_moved (omega (arith, size, n0)) (omega (arith, size, n0))
    (reach_then r1 (reach_then r2 (reach_then r3 (reach_then r4 (reach_then r5 r6))))) in
    reach_map _ all (λ b y o. in_known h' new.1.parts o)
