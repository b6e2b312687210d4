-- A variable's name goes into the list of arguments: service 9 copies it out of the frame.
use Rattle.std.proofs.Common.{◌≡◌, ℕ, suc, ◌+◌, ◌-◌, ◌*◌, ◌%◌, ◌^◌, ◌<◌, ◌≤◌, List, [], ◌∷◌, ◌++◌, length}
use Rattle.std.proofs.Common.{Some, None, true, false, refl, sym, ap, ◌∙◌, subst, arith}
use Rattle.std.proofs.lemmas.Bool.{le-leb}
use Rattle.std.proofs.lemmas.Bool.Decides.{nat_tests}
use Rattle.std.proofs.lemmas.Int.{ints}
use Rattle.std.proofs.lemmas.List.{append_assoc}
use Rattle.std.specs.Prelude.{cond, negsuc, pos, ◌&&◌, ◌==◌, nat_le}
use Rattle.rv_meaning.specs.declared.instr.BranchTest.TheVariants as Test
use Rattle.rv_meaning.specs.declared.instr.Instr.{Instr}
use Rattle.rv_meaning.specs.declared.instr.Instr.TheVariants as I
use Rattle.rv_meaning.specs.Machine.{memory_size}
use Rattle.rv_meaning.specs.Memory.{load, store}
use Rattle.rv_meaning.specs.Words.{sum, word}
use Rattle.rv_meaning.proofs.MemoryLaws.{length-store}
use Rattle.area_keeper.specs.KeptAreas.{part}
use Rattle.area_keeper.proofs.Agreement.{length_part}
use Rattle.pli_meaning.specs.BasicValues.{VariableName}
use Rattle.pli_meaning.specs.Codes.{no_generation_code}
use Rattle.pli_meaning.specs.Contents.{Generation}
use Rattle.pli_meaning.specs.StorageState.{Activation, generation_of, if_same_shape}
use Rattle.pli_meaning.specs.StorageState as Q
use Rattle.pli_serving.specs.Answers.{Answer, Done}
use Rattle.pli_serving.specs.Arguments.{name_in, where_found}
use Rattle.pli_serving.specs.Bytes.{bytes_at, name_at, with_bytes}
use Rattle.pli_serving.specs.Finding.{Found}
use Rattle.pli_serving.specs.Names.{address_served}
use Rattle.pli_serving.specs.Outcomes.{bad_unless}
use Rattle.pli_serving.specs.ServiceState.{Services}
use Rattle.pli_coding.specs.Assembly.{Code, JumpTo, Plain, RaiseError, size_of}
use Rattle.pli_coding.specs.Frames.{own_offset}
use Rattle.pli_coding.specs.Instructions.{load_word, number, plus, small, status_tested, store_word}
use Rattle.pli_coding.specs.Registers.{a0, a1, a2, a7, frame_register, u1, zero_register}
use Rattle.storage_relation.specs.Changes.{with_memory}
use Rattle.storage_relation.specs.Served as H
use Rattle.storage_relation.specs.Served.{call}
use Rattle.storage_relation.specs.Stored.{IsBeside, IsClear}
use Rattle.storage_relation.proofs.CallArguments.{asked_named}
use Rattle.storage_relation.proofs.Changes.{apart_holds}
use Rattle.storage_relation.proofs.Confined.{beside_both, beside_written}
use Rattle.activation_relation.specs.FrameLaws.{with_waits}
use Rattle.activation_relation.specs.Frames.{AreLaid, FramesStand, frame_bytes, frame_start, frame_under, upper_top}
use Rattle.activation_relation.specs.Layers.{Layer, Point, now, services_of}
use Rattle.activation_relation.specs.Owned.{AreOwned}
use Rattle.activation_relation.specs.Points.{Stands, Surroundings}
use Rattle.activation_relation.proofs.FrameWords.{words_covered}
use Rattle.activation_relation.proofs.ListWords.{words_rewritten}
use Rattle.activation_relation.proofs.OwnPlaces.{clear_within, frame_clear, stores_hold}
use Rattle.activation_relation.proofs.StoredWords.{stored_beside}
use Rattle.run_steps.specs.Bodies.{Ground, Known, PlaceFrom}
use Rattle.run_steps.proofs.Bodies.{at_place, constant_piece, frame_is, zero_is}
use Rattle.run_steps.specs.Calls.{Calling}
use Rattle.run_steps.proofs.Calls.{call_done}
use Rattle.run_steps.specs.Engine.{Base, call_at, served}
use Rattle.run_steps.specs.Items.{At, Linked}
use Rattle.run_steps.proofs.Items.{straight}
use Rattle.run_steps.proofs.Jumps.{back_of, first_of, front_of, rest_of, skip_taken}
use Rattle.run_steps.proofs.Linking.{size_append}
use Rattle.run_steps.specs.Reach.{Family, Reach, reached}
use Rattle.run_steps.proofs.Reach.{reach_map, reach_then, reached_holds}
use Rattle.run_steps.proofs.Reaching.{reach_moved}
use Rattle.run_steps.specs.Temporaries.{nothing}
use Rattle.run_steps.specs.Unlimited as U
use Rattle.image_runs.specs.Runs.{Whole}
use Rattle.block_runs.specs.Machines.{AreIn, IsImage, IsIn}
use Rattle.block_runs.proofs.BlockEntries.{small_is, word_fits, word_is}
use Rattle.block_runs.proofs.Places.{IsFrame, bounds, ground_at, word_in}
use Rattle.block_runs.proofs.PointGrounds.{StandsIn, call_is, in_known, known_in, point_frame, point_ground}
use Rattle.program_runs.proofs.Variables.{own_code, own_comes}
use Rattle.argument_runs.specs.Laws.{HasList}
use Rattle.argument_runs.specs.Lists.{layered, list_given, list_under, with_list}
use Rattle.argument_runs.specs.Parameters.{parameter_shape}
use Rattle.argument_runs.proofs.Parameters.{generation_is, name_there}
use Rattle.reference_runs.specs.References.{IsReferred, Reference, reference_given, referred_waits}
use Rattle.reference_runs.proofs.ReferenceMemory.{HasName, copied_length, copied_name, referred_found}
use Rattle.reference_runs.proofs.ReferenceMemory.{referred_memory}

-- ---- around it

pub record Around (w : Surroundings) (code : List Instr) (p : Point) (φ : Layer) (φs : List Layer) (r : Reference) :
    Type 0 where
  pub stands : Stands w p
  pub image : IsImage w code p
  pub is : IsReferred p φ φs r

laid_here :
    {w : Surroundings} {code : List Instr} {p : Point} {φ : Layer} {φs : List Layer} {r : Reference} →
    Around w code p φ φs r → AreLaid w.parts (φ ∷ φs)
laid_here {w} k = subst (AreLaid w.parts) k.is.newest k.stands.laid

-- the name stands in the frame's own part of the upper stack
record Bounded (w : Surroundings) (φ : Layer) (r : Reference) : Type 0 where
  frame : IsFrame φ.at
  list : IsFrame (list_under φ.at)
  inside : φ.at + r.place + 16 + 2 ^ 12 ≤ 15 * 2 ^ 20

bounded :
    {w : Surroundings} {code : List Instr} {p : Point} {φ : Layer} {φs : List Layer} {r : Reference} →
    Around w code p φ φs r → IsFrame φ.at → Bounded w φ r
bounded {w} {φ = φ} {φs = φs} {r = r} k h =
    let laid = laid_here k in
    let o = bounds w.parts (φ ∷ φs) laid in
    let o' = bounds w.parts φs laid.1 in
    let told = (laid.0.told (r.place + 12) _ k.is.told.high).1 in
    let free = o.free in
    let high = o.high in
    let last = k.image.parts.inside in
    let first = k.image.parts.high in
    let whole = h.whole in
    let low = h.high in
    let room = h.room in
    let words = k.is.words in
    let covered = words_covered φ.words in
    let above = laid.0.above in
    let start = o'.low in
    let between = o'.above in
    record {
      frame = h;
      list = record {
        whole = omega (arith, whole, low);
        high = omega (arith, words, covered, above, start, between, first);
        room = omega (arith, room);
      };
      inside = omega (arith, told, free, high, last);
    }

name_here :
    {w : Surroundings} {code : List Instr} {p : Point} {φ : Layer} {φs : List Layer} {r : Reference} (base : ℕ)
    (m : List ℕ) → Around w code p φ φs r → IsFrame φ.at → length m ≡ memory_size →
    FramesStand w.parts base m p.state.activations p.control.layers → HasName φ.at r m
name_here {w} {p = p} {φ = φ} {φs = φs} {r = r} base m k h bytes frames =
    by p.state.activations (subst (FramesStand w.parts base m p.state.activations) k.is.newest frames)
  where
    next : (n i : ℕ) → n + (r.place + i) ≡ n + r.place + i
    next n i = omega arith

    by : (as' : List Activation) → FramesStand w.parts base m as' (φ ∷ φs) → HasName φ.at r m
    by [] o = absurd o
    by (a ∷ as') o =
        let low = h.high in
        let inside = (bounded k h).inside in
        let told = o.0.told in
        record {
          low = omega (arith, low);
          room = omega (arith, inside, bytes);
          kind = told r.place 1 k.is.told.kind;
          second = ap (load 4 m) (sym (next φ.at 4)) ∙ told (r.place + 4) 0 k.is.told.second;
          first = ap (load 4 m) (sym (next φ.at 8)) ∙ told (r.place + 8) _ k.is.told.low;
          last = ap (load 4 m) (sym (next φ.at 12)) ∙ told (r.place + 12) _ k.is.told.high;
        }

-- ---- memory where the list has been given

referred_stand :
    {w : Surroundings} {code : List Instr} {p : Point} {φ : Layer} {φs : List Layer} {r : Reference} (b : Base)
    (m : List ℕ) → Around w code p φ φs r → IsFrame φ.at → length m ≡ memory_size → StandsIn w p b m →
    StandsIn w (with_list (referred_waits r) φ φs p) b (referred_memory φ.at r m)
referred_stand {w} {p = p} {φ = φ} {φs = φs} {r = r} b m k h bytes stands =
    let laid = laid_here k in
    let owned = subst (AreOwned p.keeper p.places p.state w.parts) k.is.newest k.stands.owned in
    let frames = subst (FramesStand w.parts b.at m p.state.activations) k.is.newest stands.frames in
    let covered = words_covered φ.words in
    let above = laid.0.above in
    let words = k.is.words in
    let low = h.high in
    let room = h.room in
    let L = list_under φ.at in
    let from = φ.at + r.place in
    let inside = (bounded k h).inside in
    let first = copied_name from L m in
    let name = part from 16 m in
    let n = length_part from 16 m (omega (arith, inside, bytes)) in
    let long = copied_length from L m (omega (arith, inside, bytes)) (omega (arith, room, bytes)) in
    let clear : IsClear p.keeper p.places p.state L 24 =
    clear_within p.keeper p.places p.state (frame_start φ) (frame_bytes φ) L 24
    (frame_clear p.keeper p.places p.state w.parts φ φs owned laid) (omega (arith, covered, above, words))
    (omega (arith, covered, above, words)) in
    let h1 = apart_holds (now p m) stands.storage L name
    (clear_within p.keeper p.places p.state L 24 L (length name) clear (omega arith) (omega (arith, n)))
    (omega (arith, n, room, bytes)) in
    let h2 = stores_hold (with_memory first (now p m)) L 24 ((φ.at - 8, r.signature) ∷ (φ.at - 4, 0) ∷ []) h1 clear
    (omega (arith, low, room, bytes, long))
    ((omega (arith, low), omega (arith, low)), ((omega (arith, low), omega (arith, low)), tt)) in
    let there = name_here b.at m k h bytes stands.frames in
    let z : L + 0 ≡ L = omega arith in
    let beside1 = subst (λ i. IsBeside L 24 m (copied i)) z
    (beside_written name L 24 0 m (omega (arith, n)) (omega (arith, room, bytes))) in
    let beside2 = stored_beside L 24 ((φ.at - 8, r.signature) ∷ (φ.at - 4, 0) ∷ []) first
    ((omega (arith, low), omega (arith, low)), ((omega (arith, low), omega (arith, low)), tt)) in
    record {
      storage = same_now h2;
      frames = by p.state.activations frames laid (omega (arith, covered, above, words))
          (beside_both L 24 m first (referred_memory φ.at r m) beside1 beside2) there;
    }
  where
    copied : ℕ → List ℕ
    copied i = Rattle.area_keeper.specs.KeptAreas.with_part (part (φ.at + r.place) 16 m) i m

    same_now : {m' : List ℕ} → H.Holds (with_memory m' (now p m)) →
        H.Holds (now (with_list (referred_waits r) φ φs p) m')
    same_now o =
        record {
          keeps = o.keeps;
          heap = record { at = o.heap.at; capacity = o.heap.capacity };
          lives = record { falling = o.lives.falling; numbered = o.lives.numbered; extents = o.lives.extents };
          stored = o.stored;
          distinct = o.distinct;
        }

    by :
        (as' : List Activation) → FramesStand w.parts b.at m as' (φ ∷ φs) → AreLaid w.parts (φ ∷ φs) →
        frame_start φ ≤ list_under φ.at → IsBeside (list_under φ.at) 24 m (referred_memory φ.at r m) →
        HasName φ.at r m →
        FramesStand w.parts b.at (referred_memory φ.at r m) as' (with_waits (referred_waits r) φ ∷ φs)
    by [] o laid start beside there = absurd o
    by (a ∷ as') o laid start beside there =
        let low = there.low in
        let small' = k.is.small in
        words_rewritten w.parts b.at (list_under φ.at) 24 m (referred_memory φ.at r m) a as' φ φs (referred_waits r) o
        (laid, start, omega (arith, low), beside)
        (λ n v less e. referred_found φ r n v m there (omega (arith, small')) e)

-- ---- what service 9 answers

named_there :
    {w : Surroundings} {code : List Instr} {p : Point} {φ : Layer} {φs : List Layer} {r : Reference} →
    Around w code p φ φs r →
    (g : Generation) × (Q.named p.state (VariableName r.serial) parameter_shape ≡ Some g)
named_there {p = p} {r = r} k =
    let g = k.is.living.generation in
    let same = generation_is g k.is.shape (k.stands.lives.extents r.serial k.is.living k.is.lives) in (
      record { shape = parameter_shape; extent = pos 0; values = g.values },
      ap (λ o. if_same_shape parameter_shape (generation_of o)) k.is.lives
          ∙ ap (λ x. if_same_shape parameter_shape (Some x)) same,
    )

address_answer :
    {w : Surroundings} {code : List Instr} {p : Point} {φ : Layer} {φs : List Layer} {r : Reference} (base : ℕ)
    (m : List ℕ) → Around w code p φ φs r → IsFrame φ.at → length m ≡ memory_size → H.Holds (now p m) →
    FramesStand w.parts base m p.state.activations p.control.layers →
    (p.layout.code_bytes ≤ 2 ^ 22) × (p.layout.end ≡ memory_size) →
    address_served (call (now p m)) (φ.at + r.place) r.signature (list_under φ.at)
    ≡ Done (services_of p) (copied_name (φ.at + r.place) (list_under φ.at) m) (φ.at + r.place) 0
address_answer {p = p} {φ = φ} {r = r} base m k h bytes stored frames layout =
    let v = call (now p m) in
    let at = φ.at + r.place in
    let L = list_under φ.at in
    let low = h.high in
    let room = h.room in
    let inside = (bounded k h).inside in
    let start = layout.0 in
    let end = layout.1 in
    let there = name_here base m k h bytes frames in
    let t1 : nat_le p.layout.code_bytes at ≡ true = le-leb _ _ (omega (arith, start, low)) in
    let t2 : nat_le (at + 16) p.layout.end ≡ true = le-leb _ _ (omega (arith, end, inside)) in
    let t3 : nat_le p.layout.code_bytes L ≡ true = le-leb _ _ (omega (arith, start, low)) in
    let t4 : nat_le (L + 16) p.layout.end ≡ true = le-leb _ _ (omega (arith, end, room)) in
    let named' : name_in v at ≡ Some (VariableName r.serial) =
    ap (λ q. cond (q && nat_le (at + 16) p.layout.end) (name_at at m) None) t1
    ∙ ap (λ q. cond q (name_at at m) None) t2
    ∙ name_there r.serial at m there.kind there.first there.last in
    let g = named_there k in
    let i = asked_named (now p m) stored at r.signature (VariableName r.serial) parameter_shape g.0
    (record { shape_same = k.is.numbered; own = own }) named' g.1 in
    let done = Done (services_of p) (with_bytes (bytes_at 16 at m) L m) at 0 in
    let answer : Found → Answer = λ f. done in
    ap (λ q. bad_unless (q && nat_le (L + 16) p.layout.end) (asks v at)) t3
    ∙ ap (λ q. bad_unless q (asks v at)) t4
    ∙ ap (λ q. where_found q (Done (services_of p) m at no_generation_code) answer) i.1
  where
    asks : Rattle.pli_serving.specs.Finding.Call → ℕ → Answer
    asks v at =
        where_found (Rattle.pli_serving.specs.Arguments.asked_at v at r.signature)
        (Done (services_of p) m at no_generation_code)
        (λ f. Done (services_of p) (with_bytes (bytes_at 16 at m) (list_under φ.at) m) at 0)

    own : (r.signature == 2 ^ 32 - 1) ≡ false
    own = let few = k.is.small in grind (arith, few, nat_tests)

-- whatever the other registers
address_called :
    (code : List Instr) (y : Whole) (v : Services) (x0 x1 x2 : ℕ) → y.services ≡ v →
    (y.machine.registers 17 ≡ 9) × (y.machine.registers 10 ≡ x0) × (y.machine.registers 11 ≡ x1)
    × (y.machine.registers 12 ≡ x2) →
    served code y ≡ address_served (call_at code v y.machine.memory) x0 x1 x2
unfolding served
address_called code y v x0 x1 x2 e r =
    let x = y.machine.registers in
    let m = y.machine.memory in
    let c = call_at code y.services m in
    ap (λ n. U.served n c x) r.0
    ∙ ap (λ u. address_served (call_at code u m) (x 10) (x 11) (x 12)) e
    ∙ ap (λ u. address_served (call_at code v m) u (x 11) (x 12)) r.1
    ∙ ap (λ u. address_served (call_at code v m) x0 u (x 12)) r.2
    ∙ ap (λ u. address_served (call_at code v m) x0 x1 u) r.3

-- ---- the code, in pieces

-- where the name goes, and the service
abbrev asking_code : Code
asking_code = load_word a2 frame_register own_offset ++ (plus a2 a2 (negsuc 23) ++ (small a7 9 ∷ []))

abbrev storing_code : Code
storing_code =
    store_word frame_register u1 (negsuc 7)
    ++ (store_word frame_register zero_register (negsuc 3) ++ list_given)

abbrev pieces : (place signature : ℕ) → Code
pieces place signature =
    own_code a0 place
    ++ (number a1 signature
    ++ (asking_code ++ (Plain I.Ecall ∷ (status_tested ++ (number u1 signature ++ storing_code)))))

coded : (place signature : ℕ) → reference_given place signature ++ list_given ≡ pieces place signature
coded place signature =
    append_assoc (own_code a0 place) (number a1 signature ++ rest) list_given
    ∙ ap (λ u. own_code a0 place ++ u) (append_assoc (number a1 signature) rest list_given)
    ∙ ap (λ u. own_code a0 place ++ (number a1 signature ++ (asking_code ++ (Plain I.Ecall ∷ (status_tested ++ u)))))
    (append_assoc (number u1 signature)
    (store_word frame_register u1 (negsuc 7) ++ store_word frame_register zero_register (negsuc 3)) list_given)
  where
    rest : Code
    rest = asking_code
        ++ (Plain I.Ecall ∷ (status_tested
        ++ (number u1 signature
        ++ (store_word frame_register u1 (negsuc 7) ++ store_word frame_register zero_register (negsuc 3)))))

whole_size :
    (place signature c : ℕ) →
    c + size_of (own_code a0 place) + size_of (number a1 signature) + size_of asking_code + 1 + 3
    + size_of (number u1 signature) + size_of storing_code
    ≡ c + size_of (reference_given place signature ++ list_given)
whole_size place signature c =
    let size = ap (λ u. size_of u) (coded place signature) in
    let tail2 = number u1 signature ++ storing_code in
    let tail1 = asking_code ++ (Plain I.Ecall ∷ (status_tested ++ tail2)) in
    let n0 = size_append (own_code a0 place) (number a1 signature ++ tail1) in
    let n1 = size_append (number a1 signature) tail1 in
    let n2 = size_append (number u1 signature) storing_code in
    omega (arith, size, n0, n1, n2)

-- ---- registers

abbrev name_regs : (frame : ℕ) → Reference → Base → List (ℕ × ℕ)
name_regs frame r b = (10, frame + r.place) ∷ []

abbrev number_regs : (frame : ℕ) → Reference → Base → List (ℕ × ℕ)
number_regs frame r b = (11, r.signature) ∷ name_regs frame r b

abbrev asking_regs : (frame : ℕ) → Reference → Base → List (ℕ × ℕ)
asking_regs frame r b = (17, 9) ∷ (12, list_under frame) ∷ number_regs frame r b

abbrev answered_regs : Base → List (ℕ × ℕ)
answered_regs b = (11, 0) ∷ []

abbrev signed_regs : Reference → Base → List (ℕ × ℕ)
signed_regs r b = (6, r.signature) ∷ answered_regs b

abbrev given_regs : (frame : ℕ) → Base → List (ℕ × ℕ)
given_regs frame b = (10, b.at + frame) ∷ (12, 0) ∷ (11, b.at + list_under frame) ∷ []

-- between the call of the service and the stores
pub record HasCopied (w : Surroundings) (p : Point) (φ : Layer) (r : Reference) (b : Base) (m : List ℕ) : Type 0 where
  pub first : List ℕ
  pub bytes : length first ≡ memory_size
  pub stands : StandsIn w p b first
  pub is : m ≡ copied_name (φ.at + r.place) (list_under φ.at) first

abbrev copied_ground :
    (w : Surroundings) (p : Point) (φ : Layer) (r : Reference) → IsFrame (frame_under w.parts p.control.layers) → Ground
copied_ground w p φ r h =
    ground_at (frame_under w.parts p.control.layers) (upper_top w.parts p.control.layers) h
    (λ b m. HasCopied w p φ r b m)

frame_own :
    {w : Surroundings} {code : List Instr} {p : Point} {φ : Layer} {φs : List Layer} {r : Reference} (base : ℕ)
    (m : List ℕ) → Around w code p φ φs r → FramesStand w.parts base m p.state.activations p.control.layers →
    load 4 m (φ.at + 36) ≡ φ.at
frame_own {w} {p = p} {φ = φ} {φs = φs} base m k frames =
    by p.state.activations (subst (FramesStand w.parts base m p.state.activations) k.is.newest frames)
  where
    by : (as' : List Activation) → FramesStand w.parts base m as' (φ ∷ φs) → load 4 m (φ.at + 36) ≡ φ.at
    by [] o = absurd o
    by (a ∷ as') o = o.0.own

less_list : (x at : ℕ) → x ≡ at → 24 ≤ at → at < 2 ^ 24 → sum x (word (negsuc 23)) ≡ list_under at
less_list x at e some few = omega (arith, ints, e, some, few)

moved_is : (b : Base) (at x : ℕ) → IsFrame at → x ≡ b.at + at → sum x (word (pos 0)) ≡ b.at + at
moved_is b at x h e = let room = h.room in let v = b.valid.1 in omega (arith, e, room, v)

listed_is : (b : Base) (at x : ℕ) → IsFrame at → x ≡ b.at + at → sum x (word (negsuc 23)) ≡ b.at + list_under at
listed_is b at x h e =
    let room = h.room in
    let high = h.high in
    let v = b.valid.1 in
    omega (arith, ints, e, room, high, v)

-- a word of the list, from the frame's address
list_word : (at n : ℕ) (h : IsFrame at) → n < 24 → (suc n) % 4 ≡ 0 → PlaceFrom at (negsuc n) (at - suc n)
list_word at n h few even =
    let whole = h.whole in
    let high = h.high in
    let room = h.room in
    record {
      small' = omega (arith, ints, few);
      sums = λ b. let v = b.valid.1 in omega (arith, ints, high, room, v, few);
      aligned = omega (arith, whole, high, even, few);
      inside = omega (arith, room);
      above_code = omega (arith, high, few);
    }

-- ---- its pieces

asking_comes :
    {w : Surroundings} {code : List Instr} {p : Point} {φ : Layer} {φs : List Layer} {r : Reference} {numbers : ℕ → ℕ}
    {i : ℕ} (k : Around w code p φ φs r) (h : IsFrame (frame_under w.parts p.control.layers)) (h' : IsFrame φ.at)
    (c : ℕ) (f : Family) → Linked w.links code i asking_code →
    ((b : Base) → At b i (Known (point_ground w p h) (services_of p) numbers (λ n. 0) (number_regs φ.at r) b) (f b)) →
    Reach code c f (services_of p) (c + size_of asking_code) (services_of p)
    (λ b y. At b (i + size_of asking_code) (Known (point_ground w p h) (services_of p) numbers (λ n. 0)
    (asking_regs φ.at r) b) y)
asking_comes {w} {p = p} {φ = φ} {r = r} {numbers = numbers} k h h' c f l there =
    let v = services_of p in
    let high = h'.high in
    let room = h'.room in
    let same : frame_under w.parts p.control.layers ≡ φ.at = ap (λ ls. frame_under w.parts ls) k.is.newest in
    straight c f v v (λ b y. Known (point_ground w p h) v numbers (λ n. 0) (asking_regs φ.at r) b y) l (omega arith)
    (λ b. (there b).pc)
    (λ b.
    let o = (there b).holds in
    let y = (f b).machine.registers in
    let base = frame_is o.body ∙ ap (λ n. b.at + n) same in (
      at_place b (word_in φ.at 36 h' refl (omega arith)) (sum (y 8) (word (pos 36)))
          (ap (λ u. sum u (word (pos 36))) base),
      record {
        body = record {
          services = o.body.services;
          registers = o.body.registers;
          bytes = o.body.bytes;
          memory = o.body.memory;
        };
        regs = (
          small_is (y 0) 9 (zero_is o.body) (omega arith),
          (
            less_list (load 4 (f b).machine.memory (φ.at + 36)) φ.at
                (frame_own b.at (f b).machine.memory k o.body.memory.frames) (omega (arith, high))
                (omega (arith, room)),
            o.regs,
          ),
        );
      },
    ))

address_comes :
    {w : Surroundings} {code : List Instr} {p : Point} {φ : Layer} {φs : List Layer} {r : Reference} {numbers : ℕ → ℕ}
    {i : ℕ} (k : Around w code p φ φs r) (h : IsFrame (frame_under w.parts p.control.layers)) (h' : IsFrame φ.at)
    (c : ℕ) (f : Family) → Linked w.links code i (Plain I.Ecall ∷ []) →
    ((b : Base) → At b i (Known (point_ground w p h) (services_of p) numbers (λ n. 0) (asking_regs φ.at r) b) (f b)) →
    Reach code c f (services_of p) (c + 1) (services_of p)
    (λ b y. At b (i + 1) (Known (copied_ground w p φ r h) (services_of p) numbers (λ n. 0) answered_regs b) y)
address_comes {w} {code} {p} {φ} {φs} {r} {numbers} {i} k h h' c f l there =
    let v = services_of p in
    let small' = l.small' in
    let from = φ.at + r.place in
    let L = list_under φ.at in
    let e1 = ap (λ u. u.code_bytes) k.image.layout in
    let layout : (p.layout.code_bytes ≤ 2 ^ 22) × (p.layout.end ≡ memory_size) =
    (omega (arith, e1, small'), ap (λ u. u.end) k.image.layout) in
    let calling : Calling w.links code i f (λ b. Done v (copied_name from L (f b).machine.memory) from 0) =
    record {
      linked = l;
      pc = λ b. (there b).pc;
      answers = λ b.
          let o = (there b).holds in
          let m = (f b).machine.memory in
          address_called code (f b) v from r.signature L o.body.services
          (o.regs.0, o.regs.1.1.1.0, o.regs.1.1.0, o.regs.1.0)
          ∙ ap (λ call'. address_served call' from r.signature L) (call_is w code p m k.image)
          ∙ address_answer b.at m k h' o.body.bytes o.body.memory.storage o.body.memory.frames layout;
    } in
    call_done c f v v (λ b. copied_name from L (f b).machine.memory) (λ b. from) (λ b. 0)
    (λ b y. Known (copied_ground w p φ r h) v numbers (λ n. 0) answered_regs b y) (omega arith) calling
    (λ b.
    let o = (there b).holds in
    let m = (f b).machine.memory in
    let bytes = o.body.bytes in
    let inside = (bounded k h').inside in
    let room = h'.room in
    record {
      body = record {
        services = refl;
        registers = o.body.registers;
        bytes = copied_length from L m (omega (arith, inside, bytes)) (omega (arith, room, bytes)) ∙ bytes;
        memory = record { first = m; bytes = bytes; stands = o.body.memory; is = refl };
      };
      regs = (refl, tt);
    })

storing_comes :
    {w : Surroundings} {code : List Instr} {p : Point} {φ : Layer} {φs : List Layer} {r : Reference} {numbers : ℕ → ℕ}
    {i : ℕ} (k : Around w code p φ φs r) (h : IsFrame (frame_under w.parts p.control.layers)) (h' : IsFrame φ.at)
    (c : ℕ) (f : Family) → Linked w.links code i storing_code →
    ((b : Base) → At b i (Known (copied_ground w p φ r h) (services_of p) numbers (λ n. 0) (signed_regs r) b) (f b)) →
    Reach code c f (services_of p) (c + size_of storing_code) (services_of (with_list (referred_waits r) φ φs p))
    (λ b y. At b (i + size_of storing_code) (Known (point_ground w (with_list (referred_waits r) φ φs p) h')
    (services_of (with_list (referred_waits r) φ φs p)) numbers (λ n. 0) (given_regs φ.at) b) y)
storing_comes {w} {code} {p} {φ} {φs} {r} {numbers} k h h' c f l there =
    let q = with_list (referred_waits r) φ φs p in
    let v = services_of p in
    let v' = services_of q in
    let small' = l.small' in
    let high = h'.high in
    let same : frame_under w.parts p.control.layers ≡ φ.at = ap (λ ls. frame_under w.parts ls) k.is.newest in
    straight c f v v' (λ b y. Known (point_ground w q h') v' numbers (λ n. 0) (given_regs φ.at) b y) l (omega arith)
    (λ b. (there b).pc)
    (λ b.
    let o = (there b).holds in
    let y = (f b).machine.registers in
    let m = (f b).machine.memory in
    let z = o.body.memory in
    let frame = frame_is o.body ∙ ap (λ n. b.at + n) same in
    let zero' = zero_is o.body in
    let m1 = store 4 m (φ.at - 8) (y 6) in
    let new : store 4 m1 (φ.at - 4) (y 0) ≡ referred_memory φ.at r z.first =
    ap (store 4 m1 (φ.at - 4)) zero'
    ∙ ap (λ u. store 4 (store 4 m (φ.at - 8) u) (φ.at - 4) 0) o.regs.0
    ∙ ap (λ u. store 4 (store 4 u (φ.at - 8) r.signature) (φ.at - 4) 0) z.is in (
      at_place b (list_word φ.at 7 h' (omega arith) refl) (sum (y 8) (word (negsuc 7)))
          (ap (λ u. sum u (word (negsuc 7))) frame),
      omega (arith, small', high),
      (
        at_place b (list_word φ.at 3 h' (omega arith) refl) (sum (y 8) (word (negsuc 3)))
            (ap (λ u. sum u (word (negsuc 3))) frame),
        omega (arith, small', high),
        record {
          body = record {
            services = o.body.services ∙ ap (λ ls. services_of (layered ls p)) k.is.newest;
            registers = o.body.registers ∙ ap (λ n. 0 ∷ (b.at + upper_top w.parts p.control.layers) ∷ (b.at + n)
                ∷ numbers 0 ∷ numbers 1 ∷ numbers 2 ∷ numbers 3 ∷ numbers 4 ∷ numbers 5 ∷ numbers 6 ∷ []) same
                ∙ ap (λ ls. 0 ∷ (b.at + upper_top w.parts ls) ∷ (b.at + φ.at)
                ∷ numbers 0 ∷ numbers 1 ∷ numbers 2 ∷ numbers 3 ∷ numbers 4 ∷ numbers 5 ∷ numbers 6 ∷ []) k.is.newest;
            bytes = length-store 4 m1 (φ.at - 4) (y 0) ∙ length-store 4 m (φ.at - 8) (y 6) ∙ o.body.bytes;
            memory = subst (StandsIn w q b) (sym new) (referred_stand b z.first k h' z.bytes z.stands);
          };
          regs = (
            moved_is b φ.at (y 8) h' frame,
            (small_is (y 0) 0 zero' (omega arith), (listed_is b φ.at (y 8) h' frame, tt)),
          );
        },
      ),
    ))

-- ---- the whole

pub references_come :
    (w : Surroundings) (code : List Instr) (p : Point) (φ : Layer) (φs : List Layer) (r : Reference) (numbers : ℕ → ℕ)
    (credits index : ℕ) (f : Family) → Stands w p × IsImage w code p → IsReferred p φ φs r →
    Linked w.links code index (reference_given r.place r.signature ++ list_given) → AreIn w p numbers index f →
    Reach code credits f (services_of p) (credits + size_of (reference_given r.place r.signature ++ list_given))
    (services_of (with_list (referred_waits r) φ φs p))
    (λ b y. IsIn w (with_list (referred_waits r) φ φs p) numbers
    (index + size_of (reference_given r.place r.signature ++ list_given)) b y × HasList φ b y.machine)
references_come w code p φ φs r numbers c index f known is l there =
    let k : Around w code p φ φs r = record { stands = known.0; image = known.1; is = is } in
    let q = with_list (referred_waits r) φ φs p in
    let c' = coded r.place r.signature in
    let h = point_frame known.0 known.1 in
    let same : frame_under w.parts p.control.layers ≡ φ.at = ap (λ ls. frame_under w.parts ls) is.newest in
    let h' = subst IsFrame same h in
    let inside = (bounded k h').inside in
    let own = own_code a0 r.place in
    let num = number a1 r.signature in
    let num' = number u1 r.signature in
    let tail3 = num' ++ storing_code in
    let tail2 = Plain I.Ecall ∷ (status_tested ++ tail3) in
    let tail1 = asking_code ++ tail2 in
    let l0 = subst (Linked w.links code index) c' l in
    let l1 = back_of own (num ++ tail1) l0 in
    let l2 = back_of num tail1 l1 in
    let l3 = back_of asking_code tail2 l2 in
    let l4 = rest_of (Plain I.Ecall) (status_tested ++ tail3) l3 in
    let l5 = back_of status_tested tail3 l4 in
    let c1 = c + size_of own in
    let c2 = c1 + size_of num in
    let c3 = c2 + size_of asking_code in
    let r1 = own_comes {rs = nothing} h c f a0 r.place (omega (arith, same, inside)) (λ y u. refl)
    (record { reserved_stay = λ y u. refl; known_stay = λ b y u o. o; set = λ y u. refl })
    (record { reserved_stay = λ y u. refl; known_stay = λ b y u o. o; set = λ y u. refl })
    (record { reserved_stay = λ y u. refl; known_stay = λ b y u o. o; set = λ y u. refl })
    (front_of own (num ++ tail1) l0) (λ b. known_in h (there b) tt) in
    let r2 = constant_piece c1 (reached r1) a1 (pos r.signature) (word_fits r.signature is.small)
    (record { reserved_stay = λ y u. refl; known_stay = λ b y u o. o; set = λ y u. refl })
    (front_of num tail1 l1) (reached_holds r1) in
    let r3 = asking_comes k h h' c2 (reached r2) (front_of asking_code tail2 l2)
    (λ b. let o = reached_holds r2 b in
    record {
      pc = o.pc;
      holds = record {
        body = o.holds.body;
        regs = (
          o.holds.regs.0 ∙ word_is r.signature is.small,
          (o.holds.regs.1.0 ∙ ap (λ n. n + r.place) same, tt),
        );
      };
    }) in
    let r4 = address_comes k h h' c3 (reached r3) (first_of (Plain I.Ecall) (status_tested ++ tail3) l3)
    (reached_holds r3) in
    let r5 = skip_taken (c3 + 1) (reached r4) Test.Equal a1 zero_register (JumpTo RaiseError ∷ [])
    (front_of status_tested tail3 l4) (reached_holds r4)
    (λ b. let o = (reached_holds r4 b).holds in
    ap (λ u. u == (reached r4 b).machine.registers 0) o.regs.0 ∙ ap (λ u. 0 == u) (zero_is o.body)) in
    let r6 = constant_piece (c3 + 1 + 3) (reached r5) u1 (pos r.signature) (word_fits r.signature is.small)
    (record { reserved_stay = λ y u. refl; known_stay = λ b y u o. o; set = λ y u. refl })
    (front_of num' storing_code l5) (reached_holds r5) in
    let r7 = storing_comes k h h' (c3 + 1 + 3 + size_of num') (reached r6) (back_of num' storing_code l5)
    (λ b. let o = reached_holds r6 b in
    record {
      pc = o.pc;
      holds = record {
        body = o.holds.body;
        regs = (o.holds.regs.0 ∙ word_is r.signature is.small, o.holds.regs.1);
      };
    }) in
    let all = reach_moved (whole_size r.place r.signature c) (whole_size r.place r.signature index)
    (reach_then r1 (reach_then r2 (reach_then r3 (reach_then r4 (reach_then r5 (reach_then r6 r7)))))) in
    reach_map _ all (λ b y o. (
      in_known h' known.1.parts o,
      record { frame = o.holds.regs.0; list = o.holds.regs.1.1.0; texts = o.holds.regs.1.0 },
    ))
