-- The code of a block's beginning makes its frame: what is saved, the frame below, the lower stack's top, the
-- display, and the frame's own place.
use Rattle.std.proofs.Common.{◌≡◌, ℕ, zero, suc, ◌+◌, ◌*◌, ◌^◌, ◌<◌, ◌≤◌, List, [], ◌∷◌, ◌++◌, Some, None}
use Rattle.std.proofs.Common.{refl, sym}
use Rattle.std.proofs.Common.{ap, ◌∙◌, subst, arith}
use Rattle.std.proofs.lemmas.List.{append-nil, append_assoc}
use Rattle.std.specs.Prelude.{pos}
use Rattle.rv_meaning.specs.declared.instr.Instr.{Instr}
use Rattle.rv_meaning.specs.declared.instr.Instr.TheVariants as I
use Rattle.rv_meaning.specs.declared.instr.ImmediateOp.TheVariants as Imm
use Rattle.rv_meaning.specs.declared.instr.RegisterOp.TheVariants as Op
use Rattle.rv_meaning.specs.Machine.{written}
use Rattle.rv_meaning.specs.Memory.{load}
use Rattle.rv_meaning.specs.Words.{word, sum, operated}
use Rattle.pli_serving.specs.ServiceState as S
use Rattle.pli_serving.specs.ServiceState.{Services}
use Rattle.pli_coding.specs.Assembly.{BaseIn, Code, size_of}
use Rattle.pli_coding.specs.Entries.{all_saved, registers_saved, display_made, frame_begun}
use Rattle.pli_coding.specs.Frames.{MemoryParts, frame_below, own_offset, lower_top, return_address, fixed_size}
use Rattle.pli_coding.specs.Frames.{temporary_bytes}
use Rattle.pli_coding.specs.Instructions.{is_immediate, subtract, move, plus, load_word, store_word}
use Rattle.pli_coding.specs.Linking.{Links}
use Rattle.pli_coding.specs.Registers.{stack_register, frame_register, return_register, u0, u1}
use Rattle.image_runs.specs.Runs.{Whole}
use Rattle.activation_relation.specs.Frames.{FramesStand, Stores, words_from, lower_end, frame_stores, return_stores}
use Rattle.activation_relation.specs.Owned.{AreWithin}
use Rattle.activation_relation.proofs.Blocks.{same_length}
use Rattle.activation_relation.proofs.Displays.{ancestor_low}
use Rattle.activation_relation.proofs.StoredWords.{within_append}
use Rattle.pli_meaning.specs.StorageState.{Activation}
use Rattle.run_steps.specs.Bodies.{Ground, Known, reserved, reserved_are, nth, with'}
use Rattle.run_steps.proofs.Bodies.{frame_is, plus_piece, load_piece, displaced_by, lose_known}
use Rattle.run_steps.specs.Engine.{Base, address}
use Rattle.run_steps.specs.Items.{Linked, At}
use Rattle.run_steps.proofs.Items.{straight}
use Rattle.run_steps.proofs.Jumps.{front_of, back_of}
use Rattle.run_steps.proofs.Linking.{size_append}
use Rattle.run_steps.proofs.Numbers.{above_sum, above_small}
use Rattle.run_steps.specs.Reach.{Family, Reach, reached}
use Rattle.run_steps.proofs.Reach.{reach_then, reached_holds, reach_map, stay}
use Rattle.run_steps.proofs.Reaching.{reach_moved}
use Rattle.activation_relation.specs.Chains.{AreActive, HasParent, frame_at}
use Rattle.activation_relation.specs.CodeStores.{most_levels}
use Rattle.activation_relation.specs.Frames.{AreLaid, frame_under, upper_top, ancestor_frame}
use Rattle.activation_relation.specs.Layers.{Layer, Point}
use Rattle.activation_relation.specs.Points.{Surroundings}
use Rattle.block_runs.specs.Machines.{HasParts, AreEven}
use Rattle.block_runs.proofs.Places.{IsFrame, word_in, bounds, even_top, newest_frame, frame_found}
use Rattle.block_runs.proofs.StoredGrounds.{Making, making_ground, Storing, IsStoring, register_stored}
use Rattle.block_runs.proofs.StoredGrounds.{over_same}
use Rattle.block_runs.proofs.StoredGrounds.{frames_over}
use Rattle.block_runs.proofs.FrameStores.{Given, begun_regs, registers_stored, display_stored, Copying}
use Rattle.block_runs.proofs.FrameStores.{stored_frame}

-- ---- registers that aren't scratch

abbrev put_in : ℕ → ℕ → List ℕ → List ℕ
put_in n v [] = []
put_in zero v (x ∷ xs) = v ∷ xs
put_in (suc n) v (x ∷ xs) = x ∷ put_in n v xs

pub frame_put :
    (g g' : Ground) (b : Base) (h x : ℕ → ℕ) (v : ℕ) → reserved x ≡ reserved_are b g h → g.free ≡ g'.free →
    v ≡ b.at + g'.frame → reserved (written x 8 v) ≡ reserved_are b g' h
frame_put g g' b h x v e free is =
    ap (put_in 2 v) e
    ∙ ap (λ u. 0 ∷ (b.at + g.free) ∷ u ∷ h 0 ∷ h 1 ∷ h 2 ∷ h 3 ∷ h 4 ∷ h 5 ∷ h 6 ∷ []) is
    ∙ ap (λ u. 0 ∷ (b.at + u) ∷ (b.at + g'.frame) ∷ h 0 ∷ h 1 ∷ h 2 ∷ h 3 ∷ h 4 ∷ h 5 ∷ h 6 ∷ []) free

pub stack_put :
    (g g' : Ground) (b : Base) (h x : ℕ → ℕ) (v : ℕ) → reserved x ≡ reserved_are b g h → g.frame ≡ g'.frame →
    v ≡ b.at + g'.free → reserved (written x 2 v) ≡ reserved_are b g' h
stack_put g g' b h x v e frame is =
    ap (put_in 1 v) e
    ∙ ap (λ u. 0 ∷ u ∷ (b.at + g.frame) ∷ h 0 ∷ h 1 ∷ h 2 ∷ h 3 ∷ h 4 ∷ h 5 ∷ h 6 ∷ []) is
    ∙ ap (λ u. 0 ∷ (b.at + g'.free) ∷ (b.at + u) ∷ h 0 ∷ h 1 ∷ h 2 ∷ h 3 ∷ h 4 ∷ h 5 ∷ h 6 ∷ []) frame

pub stack_is :
    (g : Ground) (b : Base) (h x : ℕ → ℕ) → reserved x ≡ reserved_are b g h → x 2 ≡ b.at + g.free
stack_is g b h x e = ap (nth 1) e

-- ---- a frame that is begun

-- around it, before the frame's address goes into its register and behind that; what registers are given; and the
-- words that it has first, before that of the frame below
pub record Begun : Type 0 where
  pub surroundings : Surroundings
  pub point : Point
  pub layer : Layer
  pub parent : ℕ
  pub texts : Base → ℕ
  pub list : Base → ℕ
  pub given : Base → ℕ
  pub return : Base → ℕ
  pub first : Base → Stores

abbrev pub layers_of : Begun → List Layer
layers_of k = k.point.control.layers

pub record IsBegun (k : Begun) : Type 0 where
  pub active : AreActive k.surroundings.units k.point.state.activations (layers_of k)
  pub laid : AreLaid k.surroundings.parts (k.layer ∷ layers_of k)
  pub parts : HasParts k.surroundings.parts
  pub even : AreEven k.surroundings.parts (layers_of k)
  pub level : k.layer.level < most_levels
  pub has : HasParent k.layer.level k.parent k.point.state.activations
  pub parent : (b : Base) → 0 < k.layer.level → k.given b ≡ b.at + frame_at (layers_of k) k.parent
  pub lower : k.layer.lower ≡ lower_end k.surroundings.parts (layers_of k)
  pub top : k.layer.top ≡ k.layer.at + fixed_size k.layer.level k.layer.parameters
  pub within : (b : Base) → AreWithin k.layer.at (144 + 4 * k.layer.level) (k.first b)

pub new_frame : (k : Begun) → IsBegun k → IsFrame k.layer.at
new_frame k h =
    let parts = k.surroundings.parts in
    let φ = k.layer in
    let o = bounds parts (layers_of k) h.laid.1 in
    let low = o.low in
    let between = o.above in
    let end = o.high in
    let first = h.parts.high in
    let last = h.parts.inside in
    let at = h.laid.0.above in
    let fixed = h.laid.0.fixed in
    let free = h.laid.0.free in
    let falls = h.laid.0.falls in
    let whole = even_top parts (layers_of k) h.even in
    record {
      whole = omega (arith, whole, at);
      high = omega (arith, low, between, first, at);
      room = omega (arith, fixed, free, falls, end, last);
    }

-- while the frame below is still running
abbrev pub outside : (k : Begun) → IsBegun k → Making
outside k h =
    record {
      surroundings = k.surroundings;
      point = k.point;
      frame = frame_under k.surroundings.parts (layers_of k);
      free = upper_top k.surroundings.parts (layers_of k);
      is_frame = newest_frame k.surroundings.parts (layers_of k) h.parts h.laid.1 h.even;
      at = k.layer.at;
      is_at = new_frame k h;
    }

-- and once it runs itself
abbrev pub inside : (k : Begun) → IsBegun k → Making
inside k h =
    record {
      surroundings = k.surroundings;
      point = k.point;
      frame = k.layer.at;
      free = upper_top k.surroundings.parts (layers_of k);
      is_frame = new_frame k h;
      at = k.layer.at;
      is_at = new_frame k h;
    }

-- with all of the frame taken from the upper stack
abbrev pub whole : (k : Begun) → IsBegun k → Making
whole k h = record (inside k h) { free = k.layer.top }

abbrev pub back_of_call : Begun → Base → ℕ
back_of_call k b = k.return b

abbrev pub given_to : Begun → Given
given_to k = record { texts = k.texts; parent = k.given; list = k.list; back = back_of_call k }

abbrev pub regs_of : Begun → Base → List (ℕ × ℕ)
regs_of k = begun_regs k.layer.at (given_to k)

-- with the frame's own place, which is told last
abbrev pub own_regs : Begun → Base → List (ℕ × ℕ)
own_regs k = with' 6 (λ b. k.layer.at) (regs_of k)

-- ---- what is stored, step by step

abbrev pub return_word : Begun → Base → Stores
return_word k b = (k.layer.at + 0, back_of_call k b) ∷ []

abbrev pub saved_words : Begun → Base → Stores
saved_words k b = return_word k b ++ words_from (k.layer.at + 8) k.layer.held 0 k.layer.saved

abbrev pub with_below : Begun → Base → Stores
with_below k b =
    k.first b ++ ((k.layer.at + 4, b.at + frame_under k.surroundings.parts (layers_of k)) ∷ [])

abbrev pub with_lower : Begun → Base → Stores
with_lower k b = with_below k b ++ ((k.layer.at + 40, k.layer.lower) ∷ [])

abbrev pub new_display : Begun → Base → Stores
new_display k b =
    words_from (k.layer.at + 144)
    (λ n. b.at + ancestor_frame k.point.state.activations (layers_of k) k.parent n) 0 k.layer.level

abbrev pub with_display : Begun → Base → Stores
with_display k b = with_lower k b ++ new_display k b

abbrev pub all_words : Begun → Base → Stores
all_words k b = with_display k b ++ ((k.layer.at + 36, k.layer.at) ∷ [])

abbrev pub makes : (k : Making) → (Base → Stores) → Services → (h t : ℕ → ℕ) → (Base → List (ℕ × ℕ)) → ℕ → Base →
    Whole → Type 0
makes k xs v h t rs i b y = At b i (Known (making_ground k xs) v h t rs b) y

-- ---- the pieces

abbrev pub given_regs : Begun → Base → List (ℕ × ℕ)
given_regs k b = (10, k.given b) ∷ (11, k.list b) ∷ (12, k.texts b) ∷ (1, back_of_call k b) ∷ []

abbrev none_yet : Base → Stores
none_yet b = []

small_offset : (at n : ℕ) → IsFrame at → n ≤ at → n < 2 ^ 24
small_offset at n h less = let room = h.room in omega (arith, room, less)

fits : (b : Base) (n : ℕ) → n < 2 ^ 24 → b.at + n < 2 ^ 32
fits b n less = let v = b.valid.1 in omega (arith, v, less)

-- where the frame will stand
address_made :
    (k : Begun) (h : IsBegun k) {links : Links} {code : List Instr} {i : ℕ} {v : Services} {t : ℕ → ℕ} (c : ℕ)
    (f : Family) → Linked links code i (plus u0 stack_register (pos (temporary_bytes k.layer.words))) →
    ((b : Base) → makes (outside k h) none_yet v k.layer.held t (given_regs k) i b (f b)) →
    Reach code c f v (c + size_of (plus u0 stack_register (pos (temporary_bytes k.layer.words)))) v
    (λ b y. makes (outside k h) none_yet v k.layer.held t (regs_of k)
    (i + size_of (plus u0 stack_register (pos (temporary_bytes k.layer.words)))) b y)
address_made k h {t = t} c f l there =
    let free = upper_top k.surroundings.parts (layers_of k) in
    let n = temporary_bytes k.layer.words in
    let at = h.laid.0.above in
    let q = new_frame k h in
    let room = q.room in
    plus_piece c f u0 stack_register (pos n) (λ b. b.at + free) (λ b. b.at + k.layer.at)
    (above_small n (omega (arith, at, room))) (λ b. fits b free (omega (arith, at, room))) (λ y u. refl)
    (λ b y o. stack_is (making_ground (outside k h) none_yet) b k.layer.held y.machine.registers o.body.registers)
    (λ b. above_sum b.at free n b.valid.1 (omega (arith, at, room)) ∙ ap (λ u. b.at + u) at)
    (record { reserved_stay = λ y u. refl; known_stay = λ b y u o. o; set = λ y u. refl })
    (record { reserved_stay = λ y u. refl; known_stay = λ b y u o. o; set = λ y u. refl })
    l there

-- the place to return to, and registers
saves_made :
    (k : Begun) (h : IsBegun k) {links : Links} {code : List Instr} {i : ℕ} {v : Services} {t : ℕ → ℕ} (c : ℕ)
    (f : Family) → ((b : Base) → saved_words k b ≡ k.first b) → Linked links code i (all_saved u0 k.layer.saved) →
    ((b : Base) → makes (outside k h) none_yet v k.layer.held t (regs_of k) i b (f b)) →
    Reach code c f v (c + size_of (all_saved u0 k.layer.saved)) v
    (λ b y. makes (outside k h) k.first v k.layer.held t (regs_of k)
    (i + size_of (all_saved u0 k.layer.saved)) b y)
saves_made k h c f same l there =
    let m = outside k h in
    let first = store_word u0 return_register return_address in
    let rest = registers_saved u0 0 k.layer.saved in
    let size = size_append first rest in
    let x : Storing = record { place = 0; by = u0; from = return_register; value = back_of_call k } in
    let is : IsStoring m (regs_of k) k.layer.held _ none_yet x = record {
      even = refl;
      few = omega arith;
      near_by = λ y u. refl;
      near_from = λ y u. refl;
      frame = λ b t' y o. o.regs.0;
      value = λ b t' y o. o.regs.1.1.1.1.0;
      far = record { reserved_stay = λ y u. refl; known_stay = λ b y u o. o; set = λ y u. refl };
    } in
    let r1 = register_stored m x none_yet c f is (front_of first rest l) there in
    let r2 = registers_stored m (given_to k) k.layer.saved 0 (return_word k) k.first
    (c + size_of first) (reached r1) (let few = h.laid.0.saved in omega (arith, few)) same
    (back_of first rest l) (reached_holds r1) in
    reach_moved (omega (arith, size)) (omega (arith, size)) (reach_then r1 r2)

-- the frame below
below_made :
    (k : Begun) (h : IsBegun k) {links : Links} {code : List Instr} {i : ℕ} {v : Services} {t : ℕ → ℕ} (c : ℕ)
    (f : Family) → Linked links code i (store_word u0 frame_register frame_below) →
    ((b : Base) → makes (outside k h) k.first v k.layer.held t (regs_of k) i b (f b)) →
    Reach code c f v (c + size_of (store_word u0 frame_register frame_below)) v
    (λ b y. makes (outside k h) (with_below k) v k.layer.held t (regs_of k)
    (i + size_of (store_word u0 frame_register frame_below)) b y)
below_made k h c f l there =
    let x : Storing = record {
      place = 4;
      by = u0;
      from = frame_register;
      value = λ b. b.at + frame_under k.surroundings.parts (layers_of k);
    } in
    register_stored (outside k h) x k.first c f
    (record {
      even = refl;
      few = omega arith;
      near_by = λ y u. refl;
      near_from = λ y u. refl;
      frame = λ b t' y o. o.regs.0;
      value = λ b t' y o. frame_is o.body;
      far = record { reserved_stay = λ y u. refl; known_stay = λ b y u o. o; set = λ y u. refl };
    })
    l there

-- ---- all of it stands in the frame

within_below : (k : Begun) (h : IsBegun k) (b : Base) → AreWithin k.layer.at (144 + 4 * k.layer.level) (with_below k b)
within_below k h b =
    within_append k.layer.at (144 + 4 * k.layer.level) (k.first b)
    ((k.layer.at + 4, b.at + frame_under k.surroundings.parts (layers_of k)) ∷ []) (h.within b)
    ((omega arith, omega arith), tt)

pub within_lower :
    (k : Begun) (h : IsBegun k) (b : Base) → AreWithin k.layer.at (144 + 4 * k.layer.level) (with_lower k b)
within_lower k h b =
    within_append k.layer.at (144 + 4 * k.layer.level) (with_below k b) ((k.layer.at + 40, k.layer.lower) ∷ [])
    (within_below k h b) ((omega arith, omega arith), tt)

-- the lower stack's top is told by the frame below
lower_found :
    (parts : MemoryParts) (base : ℕ) (m : List ℕ) (as' : List Activation) (φs : List Layer) →
    FramesStand parts base m as' φs → load 4 m (frame_under parts φs + 40) ≡ lower_end parts φs
lower_found parts base m [] [] o = o.lower
lower_found parts base m (a ∷ as') (φ ∷ φs) o = o.0.lower
lower_found parts base m [] (φ ∷ φs) o = absurd o
lower_found parts base m (a ∷ as') [] o = absurd o

lower_loaded :
    (k : Begun) (h : IsBegun k) {links : Links} {code : List Instr} {i : ℕ} {v : Services} {t : ℕ → ℕ} (c : ℕ)
    (f : Family) → Linked links code i (load_word u1 frame_register lower_top) →
    ((b : Base) → makes (outside k h) (with_below k) v k.layer.held t (regs_of k) i b (f b)) →
    Reach code c f v (c + size_of (load_word u1 frame_register lower_top)) v
    (λ b y. makes (outside k h) (with_below k) v k.layer.held t (with' 6 (λ b'. k.layer.lower) (regs_of k))
    (i + size_of (load_word u1 frame_register lower_top)) b y)
lower_loaded k h c f l there =
    let parts = k.surroundings.parts in
    let φs = layers_of k in
    let at = h.laid.0.above in
    let under = frame_under parts φs in
    load_piece c f u1 lower_top (under + 40) (λ b. k.layer.lower)
    (word_in under 40 (newest_frame parts φs h.parts h.laid.1 h.even) refl (omega arith))
    (λ b m o. lower_found parts b.at m k.point.state.activations φs
    (frames_over k.surroundings k.point (with_below k b) b m k.layer.at (144 + 4 * k.layer.level) h.laid.1
    (omega (arith, at)) (within_below k h b) o) ∙ sym h.lower)
    (record { reserved_stay = λ y u. refl; known_stay = λ b y u o. o; set = λ y u. refl })
    (record { reserved_stay = λ y u. refl; known_stay = λ b y u o. o; set = λ y u. refl })
    l there

unmoved : (b : Base) (at x : ℕ) → IsFrame at → x ≡ b.at + at → sum x (word (pos 0)) ≡ b.at + at
unmoved b at x h e = let room = h.room in let v = b.valid.1 in omega (arith, e, room, v)

-- the new frame is the running one
frame_moved :
    (k : Begun) (h : IsBegun k) {links : Links} {code : List Instr} {i : ℕ} {v : Services} {t : ℕ → ℕ} (c : ℕ)
    (f : Family) → Linked links code i (move frame_register u0 ∷ []) →
    ((b : Base) → makes (outside k h) (with_below k) v k.layer.held t (with' 6 (λ b'. k.layer.lower) (regs_of k)) i b
    (f b)) →
    Reach code c f v (c + 1) v
    (λ b y. makes (inside k h) (with_below k) v k.layer.held t (with' 6 (λ b'. k.layer.lower) (regs_of k)) (i + 1) b y)
frame_moved k h {v = v} {t = t} c f l there =
    straight c f v v
    (λ b y. Known (making_ground (inside k h) (with_below k)) v k.layer.held t
    (with' 6 (λ b'. k.layer.lower) (regs_of k)) b y)
    l (omega arith) (λ b. (there b).pc)
    (λ b.
    let o = (there b).holds in
    let x = (f b).machine.registers in
    record {
      body = record {
        services = o.body.services;
        registers = frame_put (making_ground (outside k h) (with_below k)) (making_ground (inside k h) (with_below k)) b
            k.layer.held x (sum (x 5) (word (pos 0))) o.body.registers refl
            (unmoved b k.layer.at (x 5) (new_frame k h) o.regs.1.0);
        bytes = o.body.bytes;
        memory = o.body.memory;
      };
      regs = o.regs;
    })

lower_made :
    (k : Begun) (h : IsBegun k) {links : Links} {code : List Instr} {i : ℕ} {v : Services} {t : ℕ → ℕ} (c : ℕ)
    (f : Family) → Linked links code i (store_word frame_register u1 lower_top) →
    ((b : Base) → makes (inside k h) (with_below k) v k.layer.held t (with' 6 (λ b'. k.layer.lower) (regs_of k)) i b
    (f b)) →
    Reach code c f v (c + size_of (store_word frame_register u1 lower_top)) v
    (λ b y. makes (inside k h) (with_lower k) v k.layer.held t (regs_of k)
    (i + size_of (store_word frame_register u1 lower_top)) b y)
lower_made k h c f l there =
    let m = inside k h in
    let x : Storing = record { place = 40; by = frame_register; from = u1; value = λ b. k.layer.lower } in
    let r = register_stored m x (with_below k) c f
    (record {
      even = refl;
      few = omega arith;
      near_by = λ y u. refl;
      near_from = λ y u. refl;
      frame = λ b t' y o. stored_frame m (with_below k) b y refl o;
      value = λ b t' y o. o.regs.0;
      far = record { reserved_stay = λ y u. refl; known_stay = λ b y u o. o; set = λ y u. refl };
    })
    l there in
    reach_map _ r (λ b y o. record { pc = o.pc; holds = record { body = o.holds.body; regs = o.holds.regs.1 } })

-- ---- the display

copying : (k : Begun) (h : IsBegun k) (outer : ℕ) → k.layer.level ≡ suc outer → Copying (inside k h) k.parent outer
copying k h outer e =
    let as' = k.point.state.activations in
    let φs = layers_of k in
    let has = subst (λ n. HasParent n k.parent as') e h.has in
    let some = has.0 in
    let is = has.1 in
    let low = ancestor_low k.surroundings.units as' φs k.parent outer h.active in
    let same = same_length k.surroundings.units as' φs h.active in
    let level = h.level in
    let at = h.laid.0.above in
    record {
      active = h.active;
      laid = h.laid.1;
      has = has;
      is_parent = frame_found k.surroundings.parts φs k.parent h.parts h.laid.1 h.even some
          (omega (arith, is, low, same));
      few = omega (arith, e, level);
      running = refl;
      over = omega (arith, at);
    }

display_by :
    (level : ℕ) (k : Begun) (h : IsBegun k) {links : Links} {code : List Instr} {i : ℕ} {v : Services} {t : ℕ → ℕ}
    (ys : Base → Stores) (c : ℕ) (f : Family) → k.layer.level ≡ level →
    ((b : Base) → with_lower k b ++ words_from (k.layer.at + 144)
    (λ n. b.at + ancestor_frame k.point.state.activations (layers_of k) k.parent n) 0 level ≡ ys b) →
    Linked links code i (display_made level) →
    ((b : Base) → makes (inside k h) (with_lower k) v k.layer.held t (regs_of k) i b (f b)) →
    Reach code c f v (c + size_of (display_made level)) v
    (λ b y. makes (inside k h) ys v k.layer.held t (regs_of k) (i + size_of (display_made level)) b y)
display_by zero k h {code = code} {i = i} {v = v} {t = t} ys c f e all l there =
    reach_moved (omega arith) (omega arith)
    (stay code c f v (λ b y. makes (inside k h) ys v k.layer.held t (regs_of k) i b y)
    (λ b. record {
      pc = (there b).pc;
      holds = over_same (inside k h) (with_lower k) ys (f b) (sym (append-nil (with_lower k b)) ∙ all b)
          (there b).holds;
    }))
display_by (suc outer) k h {t = t} ys c f e all l there =
    let m = inside k h in
    let r = display_stored m (given_to k) k.parent outer outer 0 (with_lower k) ys c f
    (copying k h outer e) (omega arith)
    (λ b. subst (λ n. AreWithin k.layer.at (144 + 4 * n) (with_lower k b)) e (within_lower k h b)) all l
    (λ b.
    let o = (there b).holds in
    record {
      pc = (there b).pc;
      holds = record { body = o.body; regs = (o.regs.0, (o.regs.1.0 ∙ h.parent b (omega (arith, e)), o.regs.1.1)) };
    }) in
    reach_map _ r
    (λ b y o.
    let q = o.holds in
    record {
      pc = o.pc;
      holds = record {
        body = q.body;
        regs = (q.regs.0, (q.regs.1.0 ∙ sym (h.parent b (omega (arith, e))), q.regs.1.1));
      };
    })

-- ---- the frame's own place, and its part of the stack

own_is : (b : Base) (at x : ℕ) → IsFrame at → x ≡ b.at + at → operated Op.Subtract x b.at ≡ at
own_is b at x h e = let room = h.room in let v = b.valid.1 in omega (arith, e, room, v)

own_made :
    (k : Begun) (h : IsBegun k) {links : Links} {code : List Instr} {i : ℕ} {v : Services} {t : ℕ → ℕ} (c : ℕ)
    (f : Family) → Linked links code i (BaseIn u1 ∷ subtract u1 frame_register u1 ∷ []) →
    ((b : Base) → makes (inside k h) (with_display k) v k.layer.held t (regs_of k) i b (f b)) →
    Reach code c f v (c + 3) v
    (λ b y. makes (inside k h) (with_display k) v k.layer.held t (with' 6 (λ b'. k.layer.at) (regs_of k)) (i + 3) b y)
own_made k h {v = v} {t = t} c f l there =
    straight c f v v
    (λ b y. Known (making_ground (inside k h) (with_display k)) v k.layer.held t
    (with' 6 (λ b'. k.layer.at) (regs_of k)) b y)
    l (omega arith) (λ b. (there b).pc)
    (λ b.
    let o = (there b).holds in (
      refl,
      record {
        body = record {
          services = o.body.services;
          registers = o.body.registers;
          bytes = o.body.bytes;
          memory = o.body.memory;
        };
        regs = (own_is b k.layer.at ((f b).machine.registers 8) (new_frame k h) (frame_is o.body), o.regs);
      },
    ))

own_stored :
    (k : Begun) (h : IsBegun k) {links : Links} {code : List Instr} {i : ℕ} {v : Services} {t : ℕ → ℕ} (c : ℕ)
    (f : Family) → Linked links code i (store_word frame_register u1 own_offset) →
    ((b : Base) → makes (inside k h) (with_display k) v k.layer.held t (with' 6 (λ b'. k.layer.at) (regs_of k)) i b
    (f b)) →
    Reach code c f v (c + size_of (store_word frame_register u1 own_offset)) v
    (λ b y. makes (inside k h) (all_words k) v k.layer.held t (own_regs k)
    (i + size_of (store_word frame_register u1 own_offset)) b y)
own_stored k h c f l there =
    let m = inside k h in
    let x : Storing = record { place = 36; by = frame_register; from = u1; value = λ b. k.layer.at } in
    register_stored m x (with_display k) c f
    (record {
      even = refl;
      few = omega arith;
      near_by = λ y u. refl;
      near_from = λ y u. refl;
      frame = λ b t' y o. stored_frame m (with_display k) b y refl o;
      value = λ b t' y o. o.regs.0;
      far = record { reserved_stay = λ y u. refl; known_stay = λ b y u o. o; set = λ y u. refl };
    })
    l there

stack_taken :
    (k : Begun) (h : IsBegun k) {links : Links} {code : List Instr} {i : ℕ} {v : Services} {t : ℕ → ℕ} (c : ℕ)
    (f : Family) →
    Linked links code i (plus stack_register frame_register (pos (fixed_size k.layer.level k.layer.parameters))) →
    ((b : Base) → makes (inside k h) (all_words k) v k.layer.held t (own_regs k) i b (f b)) →
    Reach code c f v
    (c + size_of (plus stack_register frame_register (pos (fixed_size k.layer.level k.layer.parameters)))) v
    (λ b y. makes (whole k h) (all_words k) v k.layer.held t (own_regs k)
    (i + size_of (plus stack_register frame_register (pos (fixed_size k.layer.level k.layer.parameters)))) b y)
stack_taken k h {v = v} {t = t} c f l there =
    let n = fixed_size k.layer.level k.layer.parameters in
    let z = pos n in
    let at = k.layer.at in
    let q = new_frame k h in
    let top = h.top in
    let g = making_ground (inside k h) (all_words k) in
    let g' = making_ground (whole k h) (all_words k) in
    let few = small_top k h in
    displaced_by (is_immediate z) c f (λ s d. I.Immediate Imm.Add stack_register s d) frame_register z (λ b. b.at + at)
    (Known g v k.layer.held t (own_regs k)) (Known g' v k.layer.held t (own_regs k))
    (above_small n (omega (arith, few, top)))
    (λ b. fits b at (omega (arith, few, top))) (λ y u. refl) (λ b. frame_is (there b).holds.body) (omega arith)
    (record {
      does = λ b j y s d o e. record {
        body = record {
          services = o.body.services;
          registers = stack_put g g' b k.layer.held y.machine.registers (sum (y.machine.registers s.index) (word d))
              o.body.registers refl
              (e ∙ above_sum b.at at n b.valid.1 (omega (arith, few, top)) ∙ ap (λ u. b.at + u) (sym top));
          bytes = o.body.bytes;
          memory = o.body.memory;
        };
        regs = o.regs;
      };
      lost = λ b y u j o. lose_known y 31 u j
          (record { reserved_stay = λ y' u'. refl; known_stay = λ b' y' u' o'. o'; set = λ y' u'. refl }) o;
    })
    l there
  where
    small_top : (k : Begun) → IsBegun k → k.layer.top < 2 ^ 24
    small_top k h =
        let o = bounds k.surroundings.parts (layers_of k) h.laid.1 in
        let high = o.high in
        let last = h.parts.inside in
        let free = h.laid.0.free in
        let falls = h.laid.0.falls in
        omega (arith, high, last, free, falls)

-- ---- all of it, from its last pieces on

abbrev own_code : Begun → Code
own_code k =
    BaseIn u1
    ∷ subtract u1 frame_register u1
    ∷ (store_word frame_register u1 own_offset
    ++ plus stack_register frame_register (pos (fixed_size k.layer.level k.layer.parameters)))

from_own :
    (k : Begun) (h : IsBegun k) {links : Links} {code : List Instr} {i : ℕ} {v : Services} {t : ℕ → ℕ} (c : ℕ)
    (f : Family) → Linked links code i (own_code k) →
    ((b : Base) → makes (inside k h) (with_display k) v k.layer.held t (regs_of k) i b (f b)) →
    Reach code c f v (c + size_of (own_code k)) v
    (λ b y. makes (whole k h) (all_words k) v k.layer.held t (own_regs k) (i + size_of (own_code k)) b y)
from_own k h c f l there =
    let two = BaseIn u1 ∷ subtract u1 frame_register u1 ∷ [] in
    let store' = store_word frame_register u1 own_offset in
    let up = plus stack_register frame_register (pos (fixed_size k.layer.level k.layer.parameters)) in
    let size = size_append store' up in
    let l1 = back_of two (store' ++ up) l in
    let r1 = own_made k h c f (front_of two (store' ++ up) l) there in
    let r2 = own_stored k h (c + 3) (reached r1) (front_of store' up l1) (reached_holds r1) in
    let r3 = stack_taken k h (c + 3 + size_of store') (reached r2) (back_of store' up l1) (reached_holds r2) in
    reach_moved (omega (arith, size)) (omega (arith, size)) (reach_then r1 (reach_then r2 r3))

abbrev lower_code : Begun → Code
lower_code k =
    load_word u1 frame_register lower_top
    ++ (move frame_register u0
    ∷ (store_word frame_register u1 lower_top ++ (display_made k.layer.level ++ own_code k)))

from_lower :
    (k : Begun) (h : IsBegun k) {links : Links} {code : List Instr} {i : ℕ} {v : Services} {t : ℕ → ℕ} (c : ℕ)
    (f : Family) → Linked links code i (lower_code k) →
    ((b : Base) → makes (outside k h) (with_below k) v k.layer.held t (regs_of k) i b (f b)) →
    Reach code c f v (c + size_of (lower_code k)) v
    (λ b y. makes (whole k h) (all_words k) v k.layer.held t (own_regs k) (i + size_of (lower_code k)) b y)
from_lower k h c f l there =
    let load' = load_word u1 frame_register lower_top in
    let one = move frame_register u0 ∷ [] in
    let store' = store_word frame_register u1 lower_top in
    let show = display_made k.layer.level in
    let last = own_code k in
    let l1 = back_of load' (one ++ (store' ++ (show ++ last))) l in
    let l2 = back_of one (store' ++ (show ++ last)) l1 in
    let l3 = back_of store' (show ++ last) l2 in
    let n0 = size_append load' (one ++ (store' ++ (show ++ last))) in
    let n1 = size_append store' (show ++ last) in
    let n2 = size_append show last in
    let r1 = lower_loaded k h c f (front_of load' (one ++ (store' ++ (show ++ last))) l) there in
    let r2 = frame_moved k h (c + size_of load') (reached r1) (front_of one (store' ++ (show ++ last)) l1)
    (reached_holds r1) in
    let r3 = lower_made k h (c + size_of load' + 1) (reached r2) (front_of store' (show ++ last) l2)
    (reached_holds r2) in
    let r4 = display_by k.layer.level k h (with_display k) (c + size_of load' + 1 + size_of store') (reached r3) refl
    (λ b. refl) (front_of show last l3) (reached_holds r3) in
    let r5 = from_own k h (c + size_of load' + 1 + size_of store' + size_of show) (reached r4) (back_of show last l3)
    (reached_holds r4) in
    reach_moved (omega (arith, n0, n1, n2)) (omega (arith, n0, n1, n2))
    (reach_then r1 (reach_then r2 (reach_then r3 (reach_then r4 r5))))

abbrev below_code : Begun → Code
below_code k = store_word u0 frame_register frame_below ++ lower_code k

from_below :
    (k : Begun) (h : IsBegun k) {links : Links} {code : List Instr} {i : ℕ} {v : Services} {t : ℕ → ℕ} (c : ℕ)
    (f : Family) → Linked links code i (below_code k) →
    ((b : Base) → makes (outside k h) k.first v k.layer.held t (regs_of k) i b (f b)) →
    Reach code c f v (c + size_of (below_code k)) v
    (λ b y. makes (whole k h) (all_words k) v k.layer.held t (own_regs k) (i + size_of (below_code k)) b y)
from_below k h c f l there =
    let below = store_word u0 frame_register frame_below in
    let last = lower_code k in
    let n = size_append below last in
    let r1 = below_made k h c f (front_of below last l) there in
    let r2 = from_lower k h (c + size_of below) (reached r1) (back_of below last l) (reached_holds r1) in
    reach_moved (omega (arith, n)) (omega (arith, n)) (reach_then r1 r2)

-- of a procedure, which saves registers
abbrev pub frame_code : Begun → Code
frame_code k = frame_begun k.layer.words k.layer.level k.layer.parameters (Some k.layer.saved)

pub frame_made :
    (k : Begun) (h : IsBegun k) {links : Links} {code : List Instr} {i : ℕ} {v : Services} {t : ℕ → ℕ} (c : ℕ)
    (f : Family) → ((b : Base) → saved_words k b ≡ k.first b) → Linked links code i (frame_code k) →
    ((b : Base) → makes (outside k h) (λ b'. []) v k.layer.held t (given_regs k) i b (f b)) →
    Reach code c f v (c + size_of (frame_code k)) v
    (λ b y. makes (whole k h) (all_words k) v k.layer.held t (own_regs k) (i + size_of (frame_code k)) b y)
frame_made k h c f same l there =
    let up = plus u0 stack_register (pos (temporary_bytes k.layer.words)) in
    let saves = all_saved u0 k.layer.saved in
    let last = below_code k in
    let l1 = back_of up (saves ++ last) l in
    let n0 = size_append up (saves ++ last) in
    let n1 = size_append saves last in
    let r1 = address_made k h c f (front_of up (saves ++ last) l) there in
    let r2 = saves_made k h (c + size_of up) (reached r1) same (front_of saves last l1) (reached_holds r1) in
    let r3 = from_below k h (c + size_of up + size_of saves) (reached r2) (back_of saves last l1) (reached_holds r2) in
    reach_moved (omega (arith, n0, n1)) (omega (arith, n0, n1)) (reach_then r1 (reach_then r2 r3))

-- and of a begin block, which saves none
abbrev pub inner_frame_code : Begun → Code
inner_frame_code k = frame_begun k.layer.words k.layer.level k.layer.parameters None

pub inner_frame_made :
    (k : Begun) (h : IsBegun k) {links : Links} {code : List Instr} {i : ℕ} {v : Services} {t : ℕ → ℕ} (c : ℕ)
    (f : Family) → ((b : Base) → [] ≡ k.first b) → Linked links code i (inner_frame_code k) →
    ((b : Base) → makes (outside k h) (λ b'. []) v k.layer.held t (given_regs k) i b (f b)) →
    Reach code c f v (c + size_of (inner_frame_code k)) v
    (λ b y. makes (whole k h) (all_words k) v k.layer.held t (own_regs k) (i + size_of (inner_frame_code k)) b y)
inner_frame_made k h c f none l there =
    let up = plus u0 stack_register (pos (temporary_bytes k.layer.words)) in
    let last = below_code k in
    let n = size_append up last in
    let r1 = address_made k h c f (front_of up last l) there in
    let r2 = from_below k h (c + size_of up) (reached r1) (back_of up last l)
    (λ b. let o = reached_holds r1 b in
    record { pc = o.pc; holds = over_same (outside k h) none_yet k.first (reached r1 b) (none b) o.holds }) in
    reach_moved (omega (arith, n)) (omega (arith, n)) (reach_then r1 r2)

-- ---- what was stored is what the relation's beginning stores

stores_joined :
    (r w d : Stores) (b l o : ℕ × ℕ) →
    ((((r ++ w) ++ (b ∷ [])) ++ (l ∷ [])) ++ d) ++ (o ∷ []) ≡ r ++ (w ++ (b ∷ l ∷ (d ++ (o ∷ []))))
stores_joined r w d b l o =
    append_assoc (((r ++ w) ++ (b ∷ [])) ++ (l ∷ [])) d (o ∷ [])
    ∙ append_assoc ((r ++ w) ++ (b ∷ [])) (l ∷ []) (d ++ (o ∷ []))
    ∙ append_assoc (r ++ w) (b ∷ []) (l ∷ (d ++ (o ∷ [])))
    ∙ append_assoc r w (b ∷ l ∷ (d ++ (o ∷ [])))

pub all_stored :
    (k : Begun) (b : Base) → k.layer.kind ≡ S.ProcedureBlock →
    k.first b
    ≡ ((k.layer.at + 0, address b k.layer.back) ∷ []) ++ words_from (k.layer.at + 8) k.layer.held 0 k.layer.saved →
    all_words k b ≡ frame_stores k.surroundings.parts b.at k.parent k.point.state.activations k.layer (layers_of k)
all_stored k b kind first =
    let w = words_from (k.layer.at + 8) k.layer.held 0 k.layer.saved in
    let d = new_display k b in
    let below : ℕ × ℕ = (k.layer.at + 4, b.at + frame_under k.surroundings.parts (layers_of k)) in
    let lower : ℕ × ℕ = (k.layer.at + 40, k.layer.lower) in
    let own : ℕ × ℕ = (k.layer.at + 36, k.layer.at) in
    let back = address b k.layer.back in
    ap (λ (xs : Stores). (((xs ++ (below ∷ [])) ++ (lower ∷ [])) ++ d) ++ (own ∷ [])) first
    ∙ stores_joined ((k.layer.at + 0, back) ∷ []) w d below lower own
    ∙ ap (λ x. return_stores x (k.layer.at + 0) back ++ (w ++ (below ∷ lower ∷ (d ++ (own ∷ []))))) (sym kind)

pub inner_stored :
    (k : Begun) (b : Base) → k.layer.kind ≡ S.BeginBlock → k.layer.saved ≡ 0 → k.first b ≡ [] →
    all_words k b ≡ frame_stores k.surroundings.parts b.at k.parent k.point.state.activations k.layer (layers_of k)
inner_stored k b kind saved first =
    let d = new_display k b in
    let below : ℕ × ℕ = (k.layer.at + 4, b.at + frame_under k.surroundings.parts (layers_of k)) in
    let lower : ℕ × ℕ = (k.layer.at + 40, k.layer.lower) in
    let own : ℕ × ℕ = (k.layer.at + 36, k.layer.at) in
    let rest : Stores = below ∷ lower ∷ (d ++ (own ∷ [])) in
    ap (λ (xs : Stores). (((xs ++ (below ∷ [])) ++ (lower ∷ [])) ++ d) ++ (own ∷ [])) first
    ∙ ap (λ n. words_from (k.layer.at + 8) k.layer.held 0 n ++ rest) (sym saved)
    ∙ ap (λ x. return_stores x (k.layer.at + 0) (address b k.layer.back)
    ++ (words_from (k.layer.at + 8) k.layer.held 0 k.layer.saved ++ rest)) (sym kind)
