-- A name goes into a part of the list of arguments: service 9 copies it from where it stands.
use Rattle.std.proofs.Common.{◌≡◌, ◌⊎◌, inl, inr, ℕ, suc, ◌+◌, ◌-◌, ◌*◌, ◌/◌, ◌%◌, ◌^◌, ◌<◌, ◌≤◌, List, [], ◌∷◌, ◌++◌}
use Rattle.std.proofs.Common.{length, None, Some, Bool, true, false, refl, sym, ap, ◌∙◌, subst, arith}
use Rattle.std.proofs.lemmas.Bool.{cases_lt, le-leb}
use Rattle.std.proofs.lemmas.Bool.Decides.{nat_tests}
use Rattle.std.proofs.lemmas.Int.{ints}
use Rattle.std.proofs.lemmas.List.{append_assoc}
use Rattle.std.specs.Prelude.{cond, pos, ◌&&◌, ◌==◌, nat_le}
use Rattle.rv_meaning.specs.declared.instr.BranchTest.TheVariants as Test
use Rattle.rv_meaning.specs.declared.instr.ImmediateOp.TheVariants as Imm
use Rattle.rv_meaning.specs.declared.instr.Instr.{Instr}
use Rattle.rv_meaning.specs.declared.instr.Instr.TheVariants as I
use Rattle.rv_meaning.specs.Machine.{memory_size}
use Rattle.rv_meaning.specs.Memory.{load}
use Rattle.rv_meaning.specs.Words.{sum, word}
use Rattle.image_runs.specs.Runs.{Whole}
use Rattle.area_keeper.specs.KeptAreas.{part, with_part}
use Rattle.area_keeper.proofs.Agreement.{length_part}
use Rattle.pli_meaning.specs.BasicValues.{VariableName}
use Rattle.pli_meaning.specs.Codes.{no_generation_code}
use Rattle.pli_meaning.specs.Contents.{Generation}
use Rattle.pli_meaning.specs.StorageState.{Activation, Living, generation_of, if_same_shape, living_of}
use Rattle.pli_meaning.specs.StorageState as Q
use Rattle.pli_serving.specs.Answers.{Answer, Done}
use Rattle.pli_serving.specs.Arguments.{name_in, where_found}
use Rattle.pli_serving.specs.Bytes.{bytes_at, name_at, with_bytes}
use Rattle.pli_serving.specs.Finding.{Found}
use Rattle.pli_serving.specs.Names.{address_served}
use Rattle.pli_serving.specs.Outcomes.{bad_unless}
use Rattle.pli_serving.specs.ServiceState.{Services}
use Rattle.pli_serving.specs.Templates.{shape_at}
use Rattle.pli_coding.specs.Assembly.{Code, JumpTo, Plain, RaiseError, size_of}
use Rattle.pli_coding.specs.Expressions.{argument_place}
use Rattle.pli_coding.specs.Frames.{own_offset, words_place}
use Rattle.pli_coding.specs.Instructions.{is_immediate, load_word, number, plus, small, status_tested, store_word}
use Rattle.pli_coding.specs.Registers.{a1, a2, a7, frame_register, u1, zero_register}
use Rattle.storage_relation.specs.Served as H
use Rattle.storage_relation.specs.Served.{call}
use Rattle.storage_relation.specs.Stored.{IsBeside, IsClear}
use Rattle.storage_relation.proofs.CallArguments.{asked_named}
use Rattle.storage_relation.proofs.Changes.{apart_holds}
use Rattle.storage_relation.proofs.Confined.{beside_written}
use Rattle.storage_relation.specs.Changes.{with_memory}
use Rattle.activation_relation.specs.FrameLaws.{with_waits}
use Rattle.activation_relation.specs.Frames.{FramesStand, frame_bytes, frame_start, frame_under, word_place}
use Rattle.activation_relation.specs.Layers.{Layer, Point, now, services_of}
use Rattle.activation_relation.specs.Points.{Stands, Surroundings}
use Rattle.activation_relation.proofs.FrameWords.{words_covered}
use Rattle.activation_relation.proofs.ListWords.{words_rewritten}
use Rattle.activation_relation.proofs.OwnPlaces.{clear_within, frame_clear}
use Rattle.activation_relation.proofs.StoredWords.{same_word}
use Rattle.run_steps.specs.Bodies.{Known, with'}
use Rattle.run_steps.proofs.Bodies.{constant_piece, displaced_by, load_piece, lose_known, set_known, zero_is}
use Rattle.run_steps.specs.Calls.{Calling}
use Rattle.run_steps.proofs.Calls.{call_done}
use Rattle.run_steps.specs.Engine.{Base, call_at, served}
use Rattle.run_steps.specs.Items.{At, Linked}
use Rattle.run_steps.proofs.Items.{straight}
use Rattle.run_steps.proofs.Jumps.{back_of, first_of, front_of, rest_of, skip_taken}
use Rattle.run_steps.proofs.Linking.{size_append}
use Rattle.run_steps.specs.Reach.{Family, Reach, reached}
use Rattle.run_steps.proofs.Reach.{reach_map, reach_then, reached_holds}
use Rattle.run_steps.proofs.Reaching.{reach_moved}
use Rattle.run_steps.specs.Unlimited as U
use Rattle.block_runs.specs.Machines.{AreIn, IsImage, IsIn}
use Rattle.block_runs.proofs.BlockEntries.{small_is, word_fits, word_is}
use Rattle.block_runs.proofs.Places.{IsFrame, bounds, word_in}
use Rattle.block_runs.proofs.PointGrounds.{StandsIn, call_is, in_known, point_frame, point_ground}
use Rattle.argument_runs.specs.Lists.{with_list}
use Rattle.argument_runs.specs.Parameters.{parameter_shape}
use Rattle.argument_runs.proofs.GivenLists.{with_list_stands}
use Rattle.argument_runs.proofs.Parameters.{generation_is, name_there}
use Rattle.reference_runs.proofs.ReferenceMemory.{copied_length, copied_name, copied_word}
use Rattle.word_runs.specs.Words.{with_word}
use Rattle.word_runs.proofs.Words.{WordAt, register_kept}
use Rattle.list_calls.specs.Arguments.{IsPart}
use Rattle.list_calls.specs.Lists.{Told, name_told}
use Rattle.list_calls.proofs.ListGiving.{part_place, word_in_frame}

-- ---- where a name stands

pub record HasNameAt (from serial : ℕ) (m : List ℕ) : Type 0 where
  pub kind : load 4 m from ≡ 1
  pub second : load 4 m (from + 4) ≡ 0
  pub low : load 4 m (from + 8) ≡ serial % 2 ^ 32
  pub high : load 4 m (from + 12) ≡ serial / 2 ^ 32

-- at a point, and what it stands for lives; code brings its offset into a0
pub record Finds (w : Surroundings) (code : List Instr) (p : Point) (first : Code) (serial signature : ℕ) : Type 0 where
  pub from : ℕ
  pub low : 2 ^ 22 ≤ from
  pub inside : from + 16 ≤ 15 * 2 ^ 20
  pub there : (b : Base) (m : List ℕ) → length m ≡ memory_size → StandsIn w p b m → HasNameAt from serial m
  pub comes :
      {numbers : ℕ → ℕ} {i : ℕ} (h : IsFrame (frame_under w.parts p.control.layers)) (c : ℕ) (f : Family) →
      Linked w.links code i first → AreIn w p numbers i f →
      Reach code c f (services_of p) (c + size_of first) (services_of p)
      (λ b y. At b (i + size_of first) (Known (point_ground w p h) (services_of p) numbers (λ n. 0)
      (λ b'. (10, from) ∷ []) b) y)
  pub living : Living
  pub lives : living_of p.state.living serial ≡ Some living
  pub shape : living.generation.shape ≡ parameter_shape
  pub numbered : shape_at p.places.signatures signature ≡ Some parameter_shape
  pub number : signature < 2 ^ 31
  pub small' : serial < 2 ^ 64

-- ---- memory where it has been copied

abbrev pub name_words : (last serial : ℕ) → Told → Told
name_words last serial told =
    with_word (last + 2) (serial / 2 ^ 32)
    (with_word (last + 3) (serial % 2 ^ 32) (with_word (last + 4) 0 (with_word (last + 5) 1 told)))

record HasCopied (φ : Layer) (last at from serial : ℕ) (told : Told) (m : List ℕ) : Type 0 where
  under : at + 4 * (last + 6) ≡ φ.at
  words : last + 6 ≤ φ.words
  high : 4 * φ.words ≤ φ.at
  room : φ.at ≤ length m
  inside : from + 16 ≤ length m
  name : HasNameAt from serial m
  before : (i v : ℕ) → i < φ.words → told i ≡ Some v → load 4 m (word_place φ i) ≡ v

copied_found :
    (φ : Layer) (last at from serial i v : ℕ) (told : Told) (m : List ℕ) → HasCopied φ last at from serial told m →
    i < φ.words → name_words last serial told i ≡ Some v → load 4 (copied_name from at m) (word_place φ i) ≡ v
copied_found φ last at from serial i v told m h less e =
    t2 (before_or last i) (i == last + 2) refl e
  where
    new : List ℕ
    new = copied_name from at m

    some : {a b : ℕ} → Some a ≡ Some b → a ≡ b
    some h = cc h

    before_or : (last i : ℕ) → (i < last + 2) ⊎ (last + 2 ≤ i)
    before_or last i = cases_lt i (last + 2)

    at_word : (k j u : ℕ) → i ≡ last + k → k < 6 → k + j ≡ 5 → load 4 m (from + 4 * j) ≡ u → Some u ≡ Some v → j ≤ 3 →
        load 4 new (word_place φ i) ≡ v
    at_word k j u same few sum' there e' small' =
        let under = h.under in
        let room = h.room in
        let place : φ.at - 4 * suc (last + k) ≡ at + 4 * j = omega (arith, under, sum') in
        ap (λ n. load 4 new (φ.at - 4 * suc n)) same
        ∙ ap (load 4 new) place
        ∙ copied_word from at (4 * j) m h.inside (omega (arith, under, room)) (omega (arith, small'))
        ∙ there
        ∙ some e'

    beside : IsBeside at 16 m new
    beside =
        let inside = h.inside in
        let under = h.under in
        let room = h.room in
        let n = length_part from 16 m inside in
        let z : at + 0 ≡ at = omega arith in
        subst (λ j. IsBeside at 16 m (with_part (part from 16 m) j m)) z
        (beside_written (part from 16 m) at 16 0 m (omega (arith, n)) (omega (arith, under, room)))

    outside : (i < last + 2) ⊎ (last + 6 ≤ i) → (at + 16 ≤ word_place φ i) ⊎ (word_place φ i + 4 ≤ at)
    outside (inl below) = let under = h.under in let high = h.high in inl (omega (arith, under, high, less, below))
    outside (inr above) = let under = h.under in let high = h.high in inr (omega (arith, under, high, less, above))

    rest : (i < last + 2) ⊎ (last + 6 ≤ i) → told i ≡ Some v → load 4 new (word_place φ i) ≡ v
    rest out e' = same_word at 16 (word_place φ i) m new beside (outside out) ∙ h.before i v less e'

    t6 : (i < last + 2) ⊎ (last + 6 ≤ i) → told i ≡ Some v → load 4 new (word_place φ i) ≡ v
    t6 out e' = rest out e'

    zero_more : (n : ℕ) → load 4 m (n + 4 * 0) ≡ load 4 m n
    zero_more n = ap (load 4 m) (omega arith)

    t5 : (i < last + 2) ⊎ (last + 5 ≤ i) → (q : Bool) → (i == last + 5) ≡ q → cond q (Some 1) (told i) ≡ Some v →
        load 4 new (word_place φ i) ≡ v
    t5 out true f e' =
        at_word 5 0 1 (grind (arith, nat_tests)) (omega arith) refl (zero_more from ∙ h.name.kind) e' (omega arith)
    t5 (inl below) false f e' = t6 (inl below) e'
    t5 (inr above) false f e' = t6 (inr (grind (arith, above, f, nat_tests))) e'

    t4 : (i < last + 2) ⊎ (last + 4 ≤ i) → (q : Bool) → (i == last + 4) ≡ q →
        cond q (Some 0) (cond (i == last + 5) (Some 1) (told i)) ≡ Some v → load 4 new (word_place φ i) ≡ v
    t4 out true f e' =
        at_word 4 1 0 (grind (arith, nat_tests)) (omega arith) refl h.name.second e' (omega arith)
    t4 (inl below) false f e' = t5 (inl below) (i == last + 5) refl e'
    t4 (inr above) false f e' = t5 (inr (grind (arith, above, f, nat_tests))) (i == last + 5) refl e'

    t3 : (i < last + 2) ⊎ (last + 3 ≤ i) → (q : Bool) → (i == last + 3) ≡ q →
        cond q (Some (serial % 2 ^ 32)) (cond (i == last + 4) (Some 0) (cond (i == last + 5) (Some 1) (told i)))
        ≡ Some v → load 4 new (word_place φ i) ≡ v
    t3 out true f e' =
        at_word 3 2 (serial % 2 ^ 32) (grind (arith, nat_tests)) (omega arith) refl h.name.low e' (omega arith)
    t3 (inl below) false f e' = t4 (inl below) (i == last + 4) refl e'
    t3 (inr above) false f e' = t4 (inr (grind (arith, above, f, nat_tests))) (i == last + 4) refl e'

    t2 : (i < last + 2) ⊎ (last + 2 ≤ i) → (q : Bool) → (i == last + 2) ≡ q →
        cond q (Some (serial / 2 ^ 32)) (cond (i == last + 3) (Some (serial % 2 ^ 32)) (cond (i == last + 4)
        (Some 0) (cond (i == last + 5) (Some 1) (told i)))) ≡ Some v → load 4 new (word_place φ i) ≡ v
    t2 out true f e' =
        at_word 2 3 (serial / 2 ^ 32) (grind (arith, nat_tests)) (omega arith) refl h.name.high e' (omega arith)
    t2 (inl below) false f e' = t3 (inl below) (i == last + 3) refl e'
    t2 (inr above) false f e' = t3 (inr (grind (arith, above, f, nat_tests))) (i == last + 3) refl e'

-- ---- around it

record Placed (w : Surroundings) (φ : Layer) (place count n last at : ℕ) : Type 0 where
  part : IsPart place count n last φ
  under : at + 4 * (last + 6) ≡ φ.at
  list : IsFrame at
  start : frame_start φ ≤ at
  covered : 4 * φ.words ≤ φ.at

placed :
    {w : Surroundings} {code : List Instr} (p : Point) (φ : Layer) (φs : List Layer) (told : Told)
    (place count n last : ℕ) → Stands w (with_list told φ φs p) × IsImage w code (with_list told φ φs p) →
    IsPart place count n last φ → Placed w φ place count n last (φ.at - 4 * (last + 6))
placed {w} p φ φs told place count n last known part =
    let laid = known.0.laid in
    let h = point_frame known.0 known.1 in
    let o' = bounds w.parts φs laid.1 in
    let covered = words_covered φ.words in
    let above = laid.0.above in
    let ends = part.ends in
    let inside = part.inside in
    let low = o'.low in
    let between = o'.above in
    let first = known.1.parts.high in
    let whole = h.whole in
    let room = h.room in
    record {
      part = part;
      under = omega (arith, covered, above, ends, inside);
      list = record {
        whole = omega (arith, whole, covered, above, ends, inside);
        high = omega (arith, covered, above, ends, inside, low, between, first);
        room = omega (arith, room);
      };
      start = omega (arith, covered, above, ends, inside);
      covered = omega (arith, covered, above);
    }

copied_stand :
    {w : Surroundings} {code : List Instr} {first : Code} {serial signature : ℕ} (p : Point) (φ : Layer)
    (φs : List Layer) (told : Told) (place count n last : ℕ) (b : Base) (m : List ℕ) →
    (known : Stands w (with_list told φ φs p) × IsImage w code (with_list told φ φs p)) →
    (s : Finds w code (with_list told φ φs p) first serial signature) → IsPart place count n last φ →
    length m ≡ memory_size → StandsIn w (with_list told φ φs p) b m →
    StandsIn w (with_list (name_words last serial told) φ φs p) b (copied_name s.from (φ.at - 4 * (last + 6)) m)
copied_stand {w} {code} {first} {serial} {signature} p φ φs told place count n last b m known s part' bytes stands =
    let o = placed p φ φs told place count n last known part' in
    let at = φ.at - 4 * (last + 6) in
    let laid = known.0.laid in
    let h = point_frame known.0 known.1 in
    let under = o.under in
    let list = o.list.room in
    let room = h.room in
    let inside = s.inside in
    let start = o.start in
    let q0 = with_list told φ φs p in
    let name = part s.from 16 m in
    let long = length_part s.from 16 m (omega (arith, inside, bytes)) in
    let covered = words_covered φ.words in
    let above = laid.0.above in
    let clear : IsClear p.keeper p.places p.state at 16 =
    clear_within p.keeper p.places p.state (frame_start φ) (frame_bytes φ) at 16
    (frame_clear p.keeper p.places p.state w.parts (with_waits told φ) φs known.0.owned laid) (omega (arith, start))
    (omega (arith, start, under, covered, above)) in
    let h1 = apart_holds (now q0 m) stands.storage at name
    (clear_within p.keeper p.places p.state at 16 at (length name) clear (omega arith) (omega (arith, long)))
    (omega (arith, long, list, bytes)) in
    record {
      storage = same_now h1;
      frames = by p.state.activations stands.frames;
    }
  where
    same_now : {m' : List ℕ} → H.Holds (with_memory m' (now (with_list told φ φs p) m)) →
        H.Holds (now (with_list (name_words last serial told) φ φs p) m')
    same_now o =
        record {
          keeps = o.keeps;
          heap = record { at = o.heap.at; capacity = o.heap.capacity };
          lives = record { falling = o.lives.falling; numbered = o.lives.numbered; extents = o.lives.extents };
          stored = o.stored;
          distinct = o.distinct;
        }

    by :
        (as' : List Activation) → FramesStand w.parts b.at m as' (with_waits told φ ∷ φs) →
        FramesStand w.parts b.at (copied_name s.from (φ.at - 4 * (last + 6)) m) as'
        (with_waits (name_words last serial told) φ ∷ φs)
    by [] o = absurd o
    by (a ∷ as') h =
        let o = placed p φ φs told place count n last known part' in
        let at = φ.at - 4 * (last + 6) in
        let new = copied_name s.from at m in
        let inside = s.inside in
        let list = o.list.room in
        let under = o.under in
        let ends = part'.ends in
        let within = part'.inside in
        let frame = (point_frame known.0 known.1).room in
        let long = length_part s.from 16 m (omega (arith, inside, bytes)) in
        let z : at + 0 ≡ at = omega arith in
        let beside = subst (λ j. IsBeside at 16 m (with_part (part s.from 16 m) j m)) z
        (beside_written (part s.from 16 m) at 16 0 m (omega (arith, long)) (omega (arith, list, bytes))) in
        words_rewritten w.parts b.at at 16 m new a as' (with_waits told φ) φs (name_words last serial told) h (
          known.0.laid,
          o.start,
          omega (arith, under),
          beside,
        )
        (λ i v less e. copied_found φ last at s.from serial i v told m
        (record {
          under = under;
          words = omega (arith, ends, within);
          high = o.covered;
          room = omega (arith, frame, bytes);
          inside = omega (arith, inside, bytes);
          name = s.there b m bytes stands;
          before = h.0.waits;
        }) less e)

-- ---- what service 9 answers

named_there :
    {w : Surroundings} {code : List Instr} {p : Point} {first : Code} {serial signature : ℕ} → Stands w p →
    Finds w code p first serial signature →
    (g : Generation) × (Q.named p.state (VariableName serial) parameter_shape ≡ Some g)
named_there {p = p} {serial = serial} stands s =
    let g = s.living.generation in
    let same = generation_is g s.shape (stands.lives.extents serial s.living s.lives) in (
      record { shape = parameter_shape; extent = pos 0; values = g.values },
      ap (λ o. if_same_shape parameter_shape (generation_of o)) s.lives
          ∙ ap (λ x. if_same_shape parameter_shape (Some x)) same,
    )

address_answer :
    {w : Surroundings} {code : List Instr} {p : Point} {first : Code} {serial signature : ℕ} (to : ℕ) (b : Base)
    (m : List ℕ) → Stands w p → (s : Finds w code p first serial signature) → IsFrame to → length m ≡ memory_size →
    StandsIn w p b m → (p.layout.code_bytes ≤ 2 ^ 22) × (p.layout.end ≡ memory_size) →
    address_served (call (now p m)) s.from signature to
    ≡ Done (services_of p) (copied_name s.from to m) s.from 0
address_answer {p = p} {serial = serial} {signature = signature} to b m stands s list bytes stored layout =
    let v = call (now p m) in
    let from = s.from in
    let low = s.low in
    let inside = s.inside in
    let high = list.high in
    let room = list.room in
    let start = layout.0 in
    let end = layout.1 in
    let there = s.there b m bytes stored in
    let t1 : nat_le p.layout.code_bytes from ≡ true = le-leb _ _ (omega (arith, start, low)) in
    let t2 : nat_le (from + 16) p.layout.end ≡ true = le-leb _ _ (omega (arith, end, inside)) in
    let t3 : nat_le p.layout.code_bytes to ≡ true = le-leb _ _ (omega (arith, start, high)) in
    let t4 : nat_le (to + 16) p.layout.end ≡ true = le-leb _ _ (omega (arith, end, room)) in
    let named' : name_in v from ≡ Some (VariableName serial) =
    ap (λ q. cond (q && nat_le (from + 16) p.layout.end) (name_at from m) None) t1
    ∙ ap (λ q. cond q (name_at from m) None) t2
    ∙ name_there serial from m there.kind there.low there.high in
    let g = named_there stands s in
    let i = asked_named (now p m) stored.storage from signature (VariableName serial) parameter_shape g.0
    (record { shape_same = s.numbered; own = own }) named' g.1 in
    let done = Done (services_of p) (with_bytes (bytes_at 16 from m) to m) from 0 in
    let answer : Found → Answer = λ f. done in
    ap (λ q. bad_unless (q && nat_le (to + 16) p.layout.end) (asks v from)) t3
    ∙ ap (λ q. bad_unless q (asks v from)) t4
    ∙ ap (λ q. where_found q (Done (services_of p) m from no_generation_code) answer) i.1
  where
    asks : Rattle.pli_serving.specs.Finding.Call → ℕ → Answer
    asks v from =
        where_found (Rattle.pli_serving.specs.Arguments.asked_at v from signature)
        (Done (services_of p) m from no_generation_code)
        (λ f. Done (services_of p) (with_bytes (bytes_at 16 from m) to m) from 0)

    own : (signature == 2 ^ 32 - 1) ≡ false
    own = let few = s.number in grind (arith, few, nat_tests)

-- whatever the other registers
address_called :
    (code : List Instr) (y : Whole) (v : Services) (x0 x1 x2 : ℕ) → y.services ≡ v →
    (y.machine.registers 17 ≡ 9) × (y.machine.registers 10 ≡ x0) × (y.machine.registers 11 ≡ x1)
    × (y.machine.registers 12 ≡ x2) →
    served code y ≡ address_served (call_at code v y.machine.memory) x0 x1 x2
unfolding served
address_called code y v x0 x1 x2 e r =
    let x = y.machine.registers in
    let m = y.machine.memory in
    let c = call_at code y.services m in
    ap (λ n. U.served n c x) r.0
    ∙ ap (λ u. address_served (call_at code u m) (x 10) (x 11) (x 12)) e
    ∙ ap (λ u. address_served (call_at code v m) u (x 11) (x 12)) r.1
    ∙ ap (λ u. address_served (call_at code v m) x0 u (x 12)) r.2
    ∙ ap (λ u. address_served (call_at code v m) x0 x1 u) r.3

-- ---- the code

abbrev pub place_code : (place count n : ℕ) → Code
place_code place count n =
    load_word a2 frame_register own_offset
    ++ plus a2 a2 (argument_place (record { place = place; words = count }) n 0)

-- what brings the number of the signature into u1 stands before it
abbrev pub storing_code : Code → (place count n : ℕ) → Code
storing_code third place count n =
    third
    ++ (store_word frame_register u1 (argument_place (record { place = place; words = count }) n 4)
    ++ store_word frame_register zero_register (argument_place (record { place = place; words = count }) n 5))

-- what finds the name stands before it, and what brings the number of the signature into a1
abbrev pub passing_code : (first second third : Code) → (place count n : ℕ) → Code
passing_code first second third place count n =
    first
    ++ (second
    ++ (place_code place count n
    ++ (small a7 9 ∷ (Plain I.Ecall ∷ (status_tested ++ storing_code third place count n)))))

-- ---- its pieces

abbrev pub number_regs : (from signature : ℕ) → Base → List (ℕ × ℕ)
number_regs from signature b = (11, signature) ∷ (10, from) ∷ []

abbrev placed_regs : (to from signature : ℕ) → Base → List (ℕ × ℕ)
placed_regs to from signature b = (12, to) ∷ number_regs from signature b

abbrev pub answered_regs : Base → List (ℕ × ℕ)
answered_regs b = (11, 0) ∷ []

-- code brings the number into a1 beside the name's offset, and into u1 behind the service, whatever words tell
pub record Signs (w : Surroundings) (code : List Instr) (p : Point) (φ : Layer) (φs : List Layer) (second third : Code)
    (from signature : ℕ) : Type 0 where
  pub comes :
      (told : Told) {numbers : ℕ → ℕ} {i : ℕ} (h : IsFrame (frame_under w.parts (with_list told φ φs p).control.layers))
      (c : ℕ) (f : Family) → Linked w.links code i second →
      ((b : Base) → At b i (Known (point_ground w (with_list told φ φs p) h) (services_of (with_list told φ φs p))
      numbers (λ j. 0) (λ b'. (10, from) ∷ []) b) (f b)) →
      Reach code c f (services_of (with_list told φ φs p)) (c + size_of second) (services_of (with_list told φ φs p))
      (λ b y. At b (i + size_of second) (Known (point_ground w (with_list told φ φs p) h)
      (services_of (with_list told φ φs p)) numbers (λ j. 0) (number_regs from signature) b) y)
  pub again :
      (told : Told) {numbers : ℕ → ℕ} {i : ℕ} (h : IsFrame (frame_under w.parts (with_list told φ φs p).control.layers))
      (c : ℕ) (f : Family) → Linked w.links code i third →
      ((b : Base) → At b i (Known (point_ground w (with_list told φ φs p) h) (services_of (with_list told φ φs p))
      numbers (λ j. 0) answered_regs b) (f b)) →
      Reach code c f (services_of (with_list told φ φs p)) (c + size_of third) (services_of (with_list told φ φs p))
      (λ b y. At b (i + size_of third) (Known (point_ground w (with_list told φ φs p) h)
      (services_of (with_list told φ φs p)) numbers (λ j. 0) (λ b'. (6, signature) ∷ answered_regs b') b) y)

-- a constant
pub signs_known :
    (w : Surroundings) (code : List Instr) (p : Point) (φ : Layer) (φs : List Layer) (from signature : ℕ) →
    signature < 2 ^ 31 → Signs w code p φ φs (number a1 signature) (number u1 signature) from signature
signs_known w code p φ φs from signature small' =
    record {
      comes = λ told h c f l there.
          reach_map _ (constant_piece c f a1 (pos signature) (word_fits signature small')
          (record { reserved_stay = λ y u. refl; known_stay = λ b y u o. o; set = λ y u. refl }) l there)
          (λ b y o. record {
            pc = o.pc;
            holds = record { body = o.holds.body; regs = (o.holds.regs.0 ∙ word_is signature small', o.holds.regs.1) };
          });
      again = λ told h c f l there.
          reach_map _ (constant_piece c f u1 (pos signature) (word_fits signature small')
          (record { reserved_stay = λ y u. refl; known_stay = λ b y u o. o; set = λ y u. refl }) l there)
          (λ b y o. record {
            pc = o.pc;
            holds = record { body = o.holds.body; regs = (o.holds.regs.0 ∙ word_is signature small', o.holds.regs.1) };
          });
    }

place_comes :
    {w : Surroundings} {code : List Instr} {p : Point} {numbers : ℕ → ℕ} {i : ℕ} (place count n last to from
    signature c : ℕ) {φ : Layer} {φs : List Layer} (f : Family)
    (h : IsFrame (frame_under w.parts p.control.layers)) → p.control.layers ≡ φ ∷ φs →
    IsPart place count n last φ → to + 4 * (last + 6) ≡ φ.at → 4 * φ.words ≤ φ.at →
    Linked w.links code i (place_code place count n) →
    ((b : Base) → At b i (Known (point_ground w p h) (services_of p) numbers (λ n. 0) (number_regs from signature) b)
    (f b)) →
    Reach code c f (services_of p) (c + size_of (place_code place count n)) (services_of p)
    (λ b y. At b (i + size_of (place_code place count n)) (Known (point_ground w p h) (services_of p) numbers (λ n. 0)
    (placed_regs to from signature) b) y)
place_comes {w} {code} {p} {numbers} {i} place count n last to from signature c {φ} {φs} f h newest part' under covered l
    there =
    let at = frame_under w.parts p.control.layers in
    let same : at ≡ φ.at = ap (λ ls. frame_under w.parts ls) newest in
    let g = point_ground w p h in
    let v = services_of p in
    let z = argument_place (record { place = place; words = count }) n 0 in
    let z' : z ≡ words_place (last + 5) 1 = part_place place count n last 0 {φ = φ} part' (omega arith) in
    let first = load_word a2 frame_register own_offset in
    let second = plus a2 a2 z in
    let size = size_append first second in
    let room = h.room in
    let ends = part'.ends in
    let within = part'.inside in
    let small' : word z < 2 ^ 32 =
    subst (λ u. word u < 2 ^ 32) (sym z') (omega (arith, ints, under, same, room)) in
    let sums : sum at (word z) ≡ to =
    subst (λ u. sum at (word u) ≡ to) (sym z') (omega (arith, ints, under, same, room)) in
    let rs = number_regs from signature in
    let r1 = load_piece c f a2 own_offset (at + 36) (λ b. at) (word_in at 36 h refl (omega arith))
    (λ b m o. frame_own w.parts b.at m p.state.activations p.control.layers o.frames)
    (record { reserved_stay = λ y u. refl; known_stay = λ b y u o. o; set = λ y u. refl })
    (record { reserved_stay = λ y u. refl; known_stay = λ b y u o. o; set = λ y u. refl })
    (front_of first second l) there in
    let r2 = displaced_by (is_immediate z) (c + size_of first) (reached r1)
    (λ q d. I.Immediate Imm.Add a2 q d) a2 z (λ b. at)
    (Known g v numbers (λ n'. 0) (with' 12 (λ b. at) rs))
    (Known g v numbers (λ n'. 0) (with' 12 (λ b. to) rs))
    small' (λ b. omega (arith, room)) (λ y u. refl)
    (λ b. (reached_holds r1 b).holds.regs.0) (omega arith)
    (record {
      does = λ b j y q d o e.
          set_known y 12 (sum (y.machine.registers q.index) (word d)) _ (λ b'. to)
          (record { reserved_stay = λ y u. refl; known_stay = λ b y u o. o; set = λ y u. refl })
          (e ∙ sums) (record { body = o.body; regs = o.regs.1 });
      lost = λ b y u j o. lose_known y 31 u j
          (record { reserved_stay = λ y u. refl; known_stay = λ b y u o. o; set = λ y u. refl }) o;
    })
    (back_of first second l) (reached_holds r1) in
    reach_moved (omega (arith, size)) (omega (arith, size)) (reach_then r1 r2)
  where
    frame_own :
        (parts : _) (base : ℕ) (m : List ℕ) (as' : List Activation) (φs : List Layer) →
        FramesStand parts base m as' φs → load 4 m (frame_under parts φs + 36) ≡ frame_under parts φs
    frame_own parts base m [] [] h = h.own
    frame_own parts base m [] (φ ∷ φs) h = absurd h
    frame_own parts base m (a ∷ as') [] h = absurd h
    frame_own parts base m (a ∷ as') (φ ∷ φs) h = h.0.own

-- ---- the call of the service

service_comes :
    {w : Surroundings} {code : List Instr} {first : Code} {serial signature : ℕ} (p : Point) (φ : Layer)
    (φs : List Layer) (told : Told) (place count n last c : ℕ) {numbers : ℕ → ℕ} {i : ℕ} (f : Family)
    (known : Stands w (with_list told φ φs p) × IsImage w code (with_list told φ φs p))
    (s : Finds w code (with_list told φ φs p) first serial signature) → IsPart place count n last φ →
    (h : IsFrame (frame_under w.parts (with_list told φ φs p).control.layers)) →
    Linked w.links code i (Plain I.Ecall ∷ []) →
    ((b : Base) → At b i (Known (point_ground w (with_list told φ φs p) h) (services_of (with_list told φ φs p))
    numbers (λ j. 0) (λ b'. (17, 9) ∷ placed_regs (φ.at - 4 * (last + 6)) s.from signature b') b) (f b)) →
    Reach code c f (services_of (with_list told φ φs p)) (c + 1)
    (services_of (with_list (name_words last serial told) φ φs p))
    (λ b y. At b (i + 1) (Known (point_ground w (with_list (name_words last serial told) φ φs p) h)
    (services_of (with_list (name_words last serial told) φ φs p)) numbers (λ j. 0) answered_regs b) y)
service_comes {w} {code} {first} {serial} {signature} p φ φs told place count n last c {numbers} {i} f known s part' h l
    there =
    let o = placed p φ φs told place count n last known part' in
    let to = φ.at - 4 * (last + 6) in
    let from = s.from in
    let q0 = with_list told φ φs p in
    let q1 = with_list (name_words last serial told) φ φs p in
    let v = services_of q0 in
    let small' = l.small' in
    let e1 = ap (λ u. u.code_bytes) known.1.layout in
    let layout : (p.layout.code_bytes ≤ 2 ^ 22) × (p.layout.end ≡ memory_size) =
    (omega (arith, e1, small'), ap (λ u. u.end) known.1.layout) in
    let calling : Calling w.links code i f (λ b. Done v (copied_name from to (f b).machine.memory) from 0) =
    record {
      linked = l;
      pc = λ b. (there b).pc;
      answers = λ b.
          let o' = (there b).holds in
          let m = (f b).machine.memory in
          address_called code (f b) v from signature to o'.body.services
          (o'.regs.0, o'.regs.1.1.1.0, o'.regs.1.1.0, o'.regs.1.0)
          ∙ ap (λ call'. address_served call' from signature to) (call_is w code q0 m known.1)
          ∙ address_answer to b m known.0 s o.list o'.body.bytes o'.body.memory layout;
    } in
    let inside = s.inside in
    let room = o.list.room in
    call_done c f v (services_of q1) (λ b. copied_name from to (f b).machine.memory) (λ b. from) (λ b. 0)
    (λ b y. Known (point_ground w q1 h) (services_of q1) numbers (λ j. 0) answered_regs b y) (omega arith) calling
    (λ b.
    let o' = (there b).holds in
    let m = (f b).machine.memory in
    let bytes = o'.body.bytes in
    record {
      body = record {
        services = refl;
        registers = o'.body.registers;
        bytes = copied_length from to m (omega (arith, inside, bytes)) (omega (arith, room, bytes)) ∙ bytes;
        memory = copied_stand p φ φs told place count n last b m known s part' bytes o'.body.memory;
      };
      regs = (refl, tt);
    })

abbrev ask_code : (place count n : ℕ) → Code
ask_code place count n = place_code place count n ++ (small a7 9 ∷ (Plain I.Ecall ∷ status_tested))

ask_comes :
    {w : Surroundings} {code : List Instr} {first : Code} {serial signature : ℕ} (p : Point) (φ : Layer)
    (φs : List Layer) (told : Told) (place count n last c : ℕ) {numbers : ℕ → ℕ} {i : ℕ} (f : Family)
    (known : Stands w (with_list told φ φs p) × IsImage w code (with_list told φ φs p))
    (s : Finds w code (with_list told φ φs p) first serial signature) → IsPart place count n last φ →
    (h : IsFrame (frame_under w.parts (with_list told φ φs p).control.layers)) →
    Linked w.links code i (ask_code place count n) →
    ((b : Base) → At b i (Known (point_ground w (with_list told φ φs p) h) (services_of (with_list told φ φs p))
    numbers (λ j. 0) (number_regs s.from signature) b) (f b)) →
    Reach code c f (services_of (with_list told φ φs p)) (c + size_of (ask_code place count n))
    (services_of (with_list (name_words last serial told) φ φs p))
    (λ b y. At b (i + size_of (ask_code place count n))
    (Known (point_ground w (with_list (name_words last serial told) φ φs p) h)
    (services_of (with_list (name_words last serial told) φ φs p)) numbers (λ j. 0) answered_regs b) y)
ask_comes {w} {code} {first} {serial} {signature} p φ φs told place count n last c {numbers} {i} f known s part' h l
    there =
    let o = placed p φ φs told place count n last known part' in
    let to = φ.at - 4 * (last + 6) in
    let from = s.from in
    let q0 = with_list told φ φs p in
    let v = services_of q0 in
    let put = place_code place count n in
    let tail : Code = Plain I.Ecall ∷ status_tested in
    let l1 = back_of put (small a7 9 ∷ tail) l in
    let l2 = rest_of (small a7 9) tail l1 in
    let l3 = rest_of (Plain I.Ecall) status_tested l2 in
    let size = size_append put (small a7 9 ∷ tail) in
    let c1 = c + size_of put in
    let r1 = place_comes place count n last to from signature c {φ = with_waits told φ} {φs = φs} f h refl
    (record { ends = part'.ends; inside = part'.inside }) o.under o.covered (front_of put (small a7 9 ∷ tail) l) there in
    let r2 = straight c1 (reached r1) v v
    (λ b y. Known (point_ground w q0 h) v numbers (λ j. 0) (λ b'. (17, 9) ∷ placed_regs to from signature b') b y)
    (first_of (small a7 9) tail l1) (omega arith) (λ b. (reached_holds r1 b).pc)
    (λ b.
    let o' = (reached_holds r1 b).holds in
    record {
      body = record {
        services = o'.body.services;
        registers = o'.body.registers;
        bytes = o'.body.bytes;
        memory = o'.body.memory;
      };
      regs = (small_is ((reached r1 b).machine.registers 0) 9 (zero_is o'.body) (omega arith), o'.regs);
    }) in
    let r3 = service_comes p φ φs told place count n last (c1 + 1) (reached r2) known s part' h
    (first_of (Plain I.Ecall) status_tested l2) (reached_holds r2) in
    let r4 = skip_taken (c1 + 1 + 1) (reached r3) Test.Equal a1 zero_register (JumpTo RaiseError ∷ []) l3
    (reached_holds r3)
    (λ b. let o' = (reached_holds r3 b).holds in
    ap (λ u. u == (reached r3 b).machine.registers 0) o'.regs.0 ∙ ap (λ u. 0 == u) (zero_is o'.body)) in
    reach_moved (omega (arith, size)) (omega (arith, size)) (reach_then r1 (reach_then r2 (reach_then r3 r4)))

-- ---- the number of the signature, and that it is no copy

none : (last : ℕ) → last + (5 - 5) ≡ last
none last = omega arith

storing_comes :
    {w : Surroundings} {code : List Instr} {second third : Code} {from signature : ℕ} (p : Point) (φ : Layer)
    (φs : List Layer) (told : Told) (place count n last c : ℕ) {numbers : ℕ → ℕ} {i : ℕ} (f : Family) →
    Stands w (with_list told φ φs p) × IsImage w code (with_list told φ φs p) → signature < 2 ^ 31 →
    Signs w code p φ φs second third from signature →
    IsPart place count n last φ → (h : IsFrame (frame_under w.parts (with_list told φ φs p).control.layers)) →
    Linked w.links code i (storing_code third place count n) →
    ((b : Base) → At b i (Known (point_ground w (with_list told φ φs p) h) (services_of (with_list told φ φs p))
    numbers (λ j. 0) answered_regs b) (f b)) →
    Reach code c f (services_of (with_list told φ φs p)) (c + size_of (storing_code third place count n))
    (services_of (with_list (with_word last 0 (with_word (last + 1) signature told)) φ φs p))
    (λ b y. At b (i + size_of (storing_code third place count n))
    (Known (point_ground w (with_list (with_word last 0 (with_word (last + 1) signature told)) φ φs p) h)
    (services_of (with_list (with_word last 0 (with_word (last + 1) signature told)) φ φs p)) numbers (λ j. 0)
    (λ b'. (6, signature) ∷ answered_regs b') b) y)
storing_comes {w} {code} {third = third} {signature = signature} p φ φs told place count n last c f known number' signs
    part' h l there =
    let two : Told = with_word (last + 1) signature told in
    let q1 = with_list told φ φs p in
    let q2 = with_list two φ φs p in
    let ends = part'.ends in
    let within = part'.inside in
    let known2 = with_list_stands w code q1 (with_waits told φ) φs two known refl in
    let num = third in
    let l4 = argument_place (record { place = place; words = count }) n 4 in
    let l5 = argument_place (record { place = place; words = count }) n 5 in
    let store4 = store_word frame_register u1 l4 in
    let store5 = store_word frame_register zero_register l5 in
    let l1 = back_of num (store4 ++ store5) l in
    let n4 = size_append num (store4 ++ store5) in
    let n5 = size_append store4 store5 in
    let z4 : l4 ≡ words_place (last + 1) 1 = part_place place count n last 4 {φ = φ} part' (omega arith) in
    let z5 : l5 ≡ words_place last 1 =
    part_place place count n last 5 {φ = φ} part' (omega arith) ∙ ap (λ j. words_place j 1) (none last) in
    let at4 = subst (λ z. WordAt z (last + 1) (with_waits told φ)) (sym z4)
    (word_in_frame q1 (with_waits told φ) φs (last + 1) known refl (omega (arith, ends, within))) in
    let at5 = subst (λ z. WordAt z last (with_waits two φ)) (sym z5)
    (word_in_frame q2 (with_waits two φ) φs last known2 refl (omega (arith, ends, within))) in
    let r7 = signs.again told h c f (front_of num (store4 ++ store5) l) there in
    let r8 = register_kept q1 (with_waits told φ) φs {rs = λ b'. (6, signature) ∷ answered_regs b'}
    (c + size_of num) (reached r7) u1 l4 (last + 1) signature known.0 h
    (omega (arith, ends, within), omega (arith, number')) at4 (λ y u. refl) (λ b y o'. o'.regs.0)
    (record { reserved_stay = λ y u. refl; known_stay = λ b y u o. o; set = λ y u. refl })
    (front_of store4 store5 l1) (reached_holds r7) in
    let r9 = register_kept q2 (with_waits two φ) φs {rs = λ b'. (6, signature) ∷ answered_regs b'}
    (c + size_of num + size_of store4) (reached r8) zero_register l5 last 0 known2.0 h
    (omega (arith, ends, within), omega arith) at5 (λ y u. refl) (λ b y o'. zero_is o'.body)
    (record { reserved_stay = λ y u. refl; known_stay = λ b y u o. o; set = λ y u. refl })
    (back_of store4 store5 l1) (reached_holds r8) in
    reach_moved (omega (arith, n4, n5)) (omega (arith, n4, n5)) (reach_then r7 (reach_then r8 r9))

-- ---- the whole

pieces : (first second third : Code) (place count n : ℕ) → passing_code first second third place count n
    ≡ first ++ (second ++ (ask_code place count n ++ storing_code third place count n))
pieces first second third place count n =
    ap (λ u. first ++ (second ++ u))
    (sym (append_assoc (place_code place count n) (small a7 9 ∷ (Plain I.Ecall ∷ status_tested))
    (storing_code third place count n)))

pub name_passed :
    {w : Surroundings} {code : List Instr} {first second third : Code} {serial signature : ℕ} (p : Point) (φ : Layer)
    (φs : List Layer) (told : Told) (place count n last credits index : ℕ) {numbers : ℕ → ℕ} (f : Family) →
    Stands w (with_list told φ φs p) × IsImage w code (with_list told φ φs p) →
    (s : Finds w code (with_list told φ φs p) first serial signature) →
    Signs w code p φ φs second third s.from signature → IsPart place count n last φ →
    Linked w.links code index (passing_code first second third place count n) →
    AreIn w (with_list told φ φs p) numbers index f →
    Reach code credits f (services_of (with_list told φ φs p))
    (credits + size_of (passing_code first second third place count n))
    (services_of (with_list (name_told last serial signature 0 told) φ φs p))
    (λ b y. IsIn w (with_list (name_told last serial signature 0 told) φ φs p) numbers
    (index + size_of (passing_code first second third place count n)) b y)
name_passed {w} {code} {first} {second} {third} {serial} {signature} p φ φs told place count n last c index {numbers} f
    known s signs part' l' there =
    let eq = pieces first second third place count n in
    let size = ap (λ t. size_of t) eq in
    let l = subst (Linked w.links code index) eq l' in
    let q0 = with_list told φ φs p in
    let one = name_words last serial told in
    let h = point_frame known.0 known.1 in
    let number' = s.number in
    let known1 = with_list_stands w code q0 (with_waits told φ) φs one known refl in
    let num = second in
    let ask = ask_code place count n in
    let last' = storing_code third place count n in
    let l1 = back_of first (num ++ (ask ++ last')) l in
    let l2 = back_of num (ask ++ last') l1 in
    let n0 = size_append first (num ++ (ask ++ last')) in
    let n1 = size_append num (ask ++ last') in
    let n2 = size_append ask last' in
    let c1 = c + size_of first in
    let c2 = c1 + size_of num in
    let r1 = s.comes h c f (front_of first (num ++ (ask ++ last')) l) there in
    let r2 = signs.comes told h c1 (reached r1) (front_of num (ask ++ last') l1) (reached_holds r1) in
    let r3 = ask_comes p φ φs told place count n last c2 (reached r2) known s part' h (front_of ask last' l2)
    (reached_holds r2) in
    let r4 = storing_comes p φ φs one place count n last (c2 + size_of ask) (reached r3) known1 number' signs part' h
    (back_of ask last' l2) (reached_holds r3) in
    reach_map _ (reach_moved (omega (arith, size, n0, n1, n2)) (omega (arith, size, n0, n1, n2))
    (reach_then r1 (reach_then r2 (reach_then r3 r4))))
    (λ b y o'. in_known {t = λ j. 0} {rs = λ b'. (6, signature) ∷ answered_regs b'} h known.1.parts o')
