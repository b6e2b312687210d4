-- Code that saves registers in a new frame, and copies a display into it.
use Rattle.std.proofs.Common.{◌≡◌, ℕ, zero, suc, ◌+◌, ◌*◌, ◌<◌, ◌≤◌, List, [], ◌∷◌, ◌++◌, refl}
use Rattle.std.proofs.Common.{sym, ap}
use Rattle.std.proofs.Common.{◌∙◌, arith}
use Rattle.std.proofs.lemmas.List.{append-nil, append_assoc}
use Rattle.rv_meaning.specs.declared.instr.Instr.{Instr}
use Rattle.pli_serving.specs.ServiceState.{Services}
use Rattle.pli_coding.specs.Assembly.{size_of}
use Rattle.pli_coding.specs.Entries.{registers_saved, display_copied}
use Rattle.pli_coding.specs.Frames.{display, saved_register}
use Rattle.pli_coding.specs.Instructions.{store_word, load_word}
use Rattle.pli_coding.specs.Linking.{Links}
use Rattle.pli_coding.specs.Registers.{held, u0, u1, a0, frame_register}
use Rattle.image_runs.specs.Runs.{Whole}
use Rattle.activation_relation.specs.Chains.{HasParent, frame_at, AreActive}
use Rattle.activation_relation.specs.Frames.{AreLaid, Stores, words_from, ancestor_frame, upper_top}
use Rattle.activation_relation.specs.Owned.{AreWithin}
use Rattle.activation_relation.proofs.StoredWords.{within_append}
use Rattle.activation_relation.proofs.Displays as D
use Rattle.run_steps.specs.Bodies.{Known, IsNear, with'}
use Rattle.run_steps.proofs.Bodies.{frame_is, load_from}
use Rattle.run_steps.specs.Engine.{Base}
use Rattle.run_steps.specs.Items.{Linked, At}
use Rattle.run_steps.proofs.Jumps.{front_of, back_of}
use Rattle.run_steps.proofs.Linking.{size_append}
use Rattle.run_steps.specs.Reach.{Family, Reach, reached}
use Rattle.run_steps.proofs.Reach.{reach_then, reached_holds, reach_map, stay}
use Rattle.run_steps.proofs.Reaching.{reach_moved}
use Rattle.run_steps.proofs.Temporaries.{held_is}
use Rattle.block_runs.proofs.Places.{IsFrame, word_in, inside_memory}
use Rattle.block_runs.proofs.StoredGrounds.{Making, making_ground, Storing, IsStoring, grown, register_stored}
use Rattle.block_runs.proofs.StoredGrounds.{over_same}
use Rattle.block_runs.proofs.StoredGrounds.{frames_over}

-- ---- what is known of registers meanwhile

-- how many texts there are, what a0 and a1 are given, and where it goes back
pub record Given : Type 0 where
  pub texts : Base → ℕ
  pub parent : Base → ℕ
  pub list : Base → ℕ
  pub back : Base → ℕ

-- with where the new frame will stand
abbrev pub begun_regs : (at : ℕ) → Given → Base → List (ℕ × ℕ)
begun_regs at g b = (5, b.at + at) ∷ (10, g.parent b) ∷ (11, g.list b) ∷ (12, g.texts b) ∷ (1, g.back b) ∷ []

-- ---- registers

held_near : (n : ℕ) → n < 7 → IsNear (held n).index
held_near (zero) l y u = refl
held_near (suc zero) l y u = refl
held_near (suc (suc zero)) l y u = refl
held_near (suc (suc (suc zero))) l y u = refl
held_near (suc (suc (suc (suc zero)))) l y u = refl
held_near (suc (suc (suc (suc (suc zero))))) l y u = refl
held_near (suc (suc (suc (suc (suc (suc zero)))))) l y u = refl
held_near (suc (suc (suc (suc (suc (suc (suc n))))))) l y u = absurd (omega (arith, l))

abbrev saving : (h : ℕ → ℕ) (n : ℕ) → Storing
saving h n = record { place = 8 + 4 * n; by = u0; from = held n; value = λ b. h n }

pub registers_stored :
    (k : Making) (g : Given) {links : Links} {code : List Instr} {v : Services}
    {h t : ℕ → ℕ} (left n : ℕ) {i : ℕ} (xs ys : Base → Stores) (c : ℕ) (f : Family) → n + left ≤ 7 →
    ((b : Base) → xs b ++ words_from (k.at + 8) h n left ≡ ys b) → Linked links code i (registers_saved u0 n left) →
    ((b : Base) → At b i (Known (making_ground k xs) v h t (begun_regs k.at g) b) (f b)) →
    Reach code c f v (c + size_of (registers_saved u0 n left)) v
    (λ b y. At b (i + size_of (registers_saved u0 n left))
    (Known (making_ground k ys) v h t (begun_regs k.at g) b) y)
registers_stored k g {code = code} {v = v} {h = h} {t = t} zero n {i} xs ys c f few all l there =
    reach_moved (omega arith) (omega arith)
    (stay code c f v
    (λ b y. At b i (Known (making_ground k ys) v h t (begun_regs k.at g) b) y)
    (λ b. record {
      pc = (there b).pc;
      holds = over_same k xs ys (f b) (sym (append-nil (xs b)) ∙ all b) (there b).holds;
    }))
registers_stored k g {h = h} (suc left) n xs ys c f few all l there =
    let x = saving h n in
    let first = store_word u0 (held n) (saved_register n) in
    let rest = registers_saved u0 (suc n) left in
    let size = size_append first rest in
    let less : n < 7 = omega (arith, few) in
    let is : IsStoring k (begun_regs k.at g) h _ xs x = record {
      even = omega arith;
      few = omega (arith, less);
      near_by = λ y u. refl;
      near_from = held_near n less;
      frame = λ b t' y o. o.regs.0;
      value = λ b t' y o. held_is n (making_ground k xs) b h y.machine.registers less o.body.registers;
      far = record { reserved_stay = λ y u. refl; known_stay = λ b y u o. o; set = λ y u. refl };
    } in
    let r1 = register_stored k x xs c f is (front_of first rest l) there in
    let place : (k.at + 8) + 4 * n ≡ k.at + (8 + 4 * n) = omega arith in
    let r2 = registers_stored k g left (suc n) (grown k xs x) ys (c + size_of first) (reached r1)
    (omega (arith, few))
    (λ b. append_assoc (xs b) ((k.at + (8 + 4 * n), h n) ∷ []) (words_from (k.at + 8) h (suc n) left)
    ∙ ap (λ u. xs b ++ ((u, h n) ∷ words_from (k.at + 8) h (suc n) left)) (sym place)
    ∙ all b)
    (back_of first rest l) (reached_holds r1) in
    reach_moved (omega (arith, size)) (omega (arith, size)) (reach_then r1 r2)

-- ---- displays

-- the frame of the static parent, what its display has, and what the new display is to have
pub record Copying (k : Making) (parent outer : ℕ) : Type 0 where
  pub active : AreActive k.surroundings.units k.point.state.activations k.point.control.layers
  pub laid : AreLaid k.surroundings.parts k.point.control.layers
  pub has : HasParent (suc outer) parent k.point.state.activations
  pub is_parent : IsFrame (frame_at k.point.control.layers parent)
  pub few : outer < 400
  -- the new frame is the running one already, and stands above all others
  pub running : k.frame ≡ k.at
  pub over : upper_top k.surroundings.parts k.point.control.layers ≤ k.at

abbrev pub display_value : Making → (parent n : ℕ) → Base → ℕ
display_value k parent n b =
    b.at + ancestor_frame k.point.state.activations k.point.control.layers parent n

abbrev pub display_words : Making → (parent n left : ℕ) → Base → Stores
display_words k parent n left b = words_from (k.at + 144) (λ j. display_value k parent j b) n left

abbrev parent_place : Making → (parent : ℕ) → Base → ℕ
parent_place k parent b = b.at + frame_at k.point.control.layers parent

-- a0 has the parent's frame
abbrev pub at_parent : Making → (parent : ℕ) → Given → Given
at_parent k parent g = record g { parent = parent_place k parent }

abbrev copied_word : Making → (parent n : ℕ) → Storing
copied_word k parent n =
    record { place = 144 + 4 * n; by = frame_register; from = u1; value = display_value k parent n }

abbrev last_word : Making → (parent outer : ℕ) → Storing
last_word k parent outer =
    record { place = 144 + 4 * outer; by = frame_register; from = a0; value = display_value k parent outer }

word_last :
    (k : Making) (parent n : ℕ) (xs : Base → Stores) (b : Base) →
    xs b ++ ((k.at + (144 + 4 * n), display_value k parent n b) ∷ []) ≡ xs b ++ display_words k parent n 1 b
word_last k parent n xs b =
    let place : k.at + (144 + 4 * n) ≡ (k.at + 144) + 4 * n = omega arith in
    ap (λ u. xs b ++ ((u, display_value k parent n b) ∷ [])) place

word_first :
    (k : Making) (parent n left : ℕ) (xs : Base → Stores) (b : Base) →
    grown k xs (copied_word k parent n) b ++ display_words k parent (suc n) left b
    ≡ xs b ++ display_words k parent n (suc left) b
word_first k parent n left xs b =
    let place : k.at + (144 + 4 * n) ≡ (k.at + 144) + 4 * n = omega arith in
    append_assoc (xs b) ((k.at + (144 + 4 * n), display_value k parent n b) ∷ [])
    (display_words k parent (suc n) left b)
    ∙ ap (λ u. xs b ++ ((u, display_value k parent n b) ∷ display_words k parent (suc n) left b)) place

-- one word of the parent's display comes into u1
display_loaded :
    (k : Making) (g : Given) (parent outer n : ℕ) {links : Links} {code : List Instr} {i : ℕ}
    {v : Services} {h t : ℕ → ℕ} (xs : Base → Stores) (c : ℕ) (f : Family) → Copying k parent outer → n < outer →
    ((b : Base) → AreWithin k.at (144 + 4 * suc outer) (xs b)) → Linked links code i (load_word u1 a0 (display n)) →
    ((b : Base) → At b i
    (Known (making_ground k xs) v h t (begun_regs k.at (at_parent k parent g)) b) (f b)) →
    Reach code c f v (c + size_of (load_word u1 a0 (display n))) v
    (λ b y. At b (i + size_of (load_word u1 a0 (display n))) (Known (making_ground k xs) v h t
    (with' 6 (display_value k parent n) (begun_regs k.at (at_parent k parent g))) b) y)
display_loaded k g parent outer n xs c f q less within l there =
    let at = frame_at k.point.control.layers parent in
    let few = q.few in
    load_from c f u1 a0 (display n) at (at + (144 + 4 * n)) (display_value k parent n)
    (word_in at (144 + 4 * n) q.is_parent (omega arith) (omega (arith, few, less))) (inside_memory at q.is_parent)
    (λ y u. refl) (λ b y o. o.regs.1.0)
    (λ b m o. D.display_copied k.surroundings.units k.surroundings.parts b.at m k.point.state.activations
    k.point.control.layers outer parent n q.active
    (frames_over k.surroundings k.point (xs b) b m k.at (144 + 4 * suc outer) q.laid q.over (within b) o) q.has less)
    (record { reserved_stay = λ y u. refl; known_stay = λ b y u o. o; set = λ y u. refl })
    (record { reserved_stay = λ y u. refl; known_stay = λ b y u o. o; set = λ y u. refl })
    l there

pub stored_frame :
    (k : Making) {v : Services} {h t : ℕ → ℕ} {rs : Base → List (ℕ × ℕ)} (xs : Base → Stores) (b : Base) (y : Whole) →
    k.frame ≡ k.at → Known (making_ground k xs) v h t rs b y → y.machine.registers 8 ≡ b.at + k.at
stored_frame k xs b y running o = frame_is o.body ∙ ap (λ n. b.at + n) running

pub display_stored :
    (k : Making) (g : Given) (parent outer : ℕ) {links : Links} {code : List Instr} {v : Services}
    {h t : ℕ → ℕ} (left n : ℕ) {i : ℕ} (xs ys : Base → Stores) (c : ℕ) (f : Family) → Copying k parent outer →
    n + left ≡ outer → ((b : Base) → AreWithin k.at (144 + 4 * suc outer) (xs b)) →
    ((b : Base) → xs b ++ display_words k parent n (suc left) b ≡ ys b) →
    Linked links code i (display_copied n left) →
    ((b : Base) → At b i
    (Known (making_ground k xs) v h t (begun_regs k.at (at_parent k parent g)) b) (f b)) →
    Reach code c f v (c + size_of (display_copied n left)) v
    (λ b y. At b (i + size_of (display_copied n left))
    (Known (making_ground k ys) v h t (begun_regs k.at (at_parent k parent g)) b) y)
display_stored k g parent outer {h = h} {t = t} zero n {i} xs ys c f q end within all l there =
    let few = q.few in
    let last : n ≡ outer = omega (arith, end) in
    let x : Storing = record { place = 144 + 4 * n; by = frame_register; from = a0; value = display_value k parent n }
    in
    let same : ancestor_frame k.point.state.activations k.point.control.layers parent n
    ≡ frame_at k.point.control.layers parent =
    ap (ancestor_frame k.point.state.activations k.point.control.layers parent) last
    ∙ D.parent_frame k.point.state.activations k.point.control.layers outer parent q.has in
    let is : IsStoring k (begun_regs k.at (at_parent k parent g)) h _ xs x = record {
      even = omega arith;
      few = omega (arith, few, last);
      near_by = λ y u. refl;
      near_from = λ y u. refl;
      frame = λ b t' y o. stored_frame k xs b y q.running o;
      value = λ b t' y o. o.regs.1.0 ∙ ap (λ u. b.at + u) (sym same);
      far = record { reserved_stay = λ y u. refl; known_stay = λ b y u o. o; set = λ y u. refl };
    } in
    reach_map _ (register_stored k x xs c f is l there)
    (λ b y o. record {
      pc = o.pc;
      holds = over_same k (grown k xs x) ys y (word_last k parent n xs b ∙ all b) o.holds;
    })
display_stored k g parent outer {h = h} {t = t} (suc left) n xs ys c f q end within all l there =
    let few = q.few in
    let less : n < outer = omega (arith, end) in
    let x = copied_word k parent n in
    let load' = load_word u1 a0 (display n) in
    let store' = store_word frame_register u1 (display n) in
    let rest = display_copied (suc n) left in
    let l1 = back_of load' (store' ++ rest) l in
    let size = size_append load' (store' ++ rest) in
    let size' = size_append store' rest in
    let r1 = display_loaded k g parent outer n xs c f q less within
    (front_of load' (store' ++ rest) l) there in
    let is : IsStoring k (with' 6 (display_value k parent n)
    (begun_regs k.at (at_parent k parent g))) h _ xs x = record {
      even = omega arith;
      few = omega (arith, few, less);
      near_by = λ y u. refl;
      near_from = λ y u. refl;
      frame = λ b t' y o. stored_frame k xs b y q.running o;
      value = λ b t' y o. o.regs.0;
      far = record { reserved_stay = λ y u. refl; known_stay = λ b y u o. o; set = λ y u. refl };
    } in
    let r2 = register_stored k x xs (c + size_of load') (reached r1) is (front_of store' rest l1) (reached_holds r1) in
    let r3 = display_stored k g parent outer left (suc n) (grown k xs x) ys
    (c + size_of load' + size_of store')
    (reached r2) q (omega (arith, end))
    (λ b. within_append k.at (144 + 4 * suc outer) (xs b) ((k.at + (144 + 4 * n), display_value k parent n b) ∷ [])
    (within b)
    ((omega arith, omega (arith, less)), tt))
    (λ b. word_first k parent n (suc left) xs b ∙ all b) (back_of store' rest l1)
    (λ b. let o = reached_holds r2 b
    in record { pc = o.pc; holds = record { body = o.holds.body; regs = o.holds.regs.1 } }) in
    reach_moved (omega (arith, size, size')) (omega (arith, size, size')) (reach_then r1 (reach_then r2 r3))
