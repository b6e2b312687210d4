-- What stands in memory while a frame is made: all that stood at a point, and over it the words that were stored since.
use Rattle.std.proofs.Common.{◌≡◌, ℕ, ◌+◌, ◌%◌, ◌^◌, ◌≤◌, List, [], ◌∷◌, ◌++◌, length, refl, sym, ap}
use Rattle.std.proofs.Common.{◌∙◌}
use Rattle.std.proofs.Common.{subst}
use Rattle.std.specs.Prelude.{pos}
use Rattle.rv_meaning.specs.declared.instr.Instr.{Instr}
use Rattle.rv_meaning.specs.declared.instr.Register.{Register}
use Rattle.rv_meaning.specs.Memory.{store}
use Rattle.rv_meaning.specs.Machine.{memory_size}
use Rattle.pli_serving.specs.ServiceState.{Services}
use Rattle.pli_coding.specs.Assembly.{size_of}
use Rattle.pli_coding.specs.Instructions.{store_word}
use Rattle.pli_coding.specs.Linking.{Links}
use Rattle.image_runs.specs.Runs.{Whole}
use Rattle.storage_relation.specs.Served.{Holds}
use Rattle.activation_relation.specs.Frames.{FramesStand, AreLaid, Stores, stored, upper_top}
use Rattle.activation_relation.specs.Layers.{Point, now}
use Rattle.activation_relation.specs.Owned.{AreWithin}
use Rattle.activation_relation.specs.Points.{Surroundings}
use Rattle.activation_relation.proofs.FrameWords.{frames_kept, beside_above}
use Rattle.activation_relation.proofs.StoredWords.{stored_beside}
use Rattle.run_steps.specs.Bodies.{Ground, Known, Free, IsNear}
use Rattle.run_steps.proofs.Bodies.{store_into}
use Rattle.run_steps.specs.Engine.{Base}
use Rattle.run_steps.specs.Items.{Linked, At}
use Rattle.run_steps.specs.Reach.{Family, Reach}
use Rattle.block_runs.proofs.Places.{IsFrame, ground_at, word_in, inside_memory}

pub record StoredOver (w : Surroundings) (p : Point) (xs : Stores) (b : Base) (m : List ℕ) : Type 0 where
  pub first : List ℕ
  pub bytes : length first ≡ memory_size
  pub storage : Holds (now p first)
  pub frames : FramesStand w.parts b.at first p.state.activations p.control.layers
  pub is : m ≡ stored xs first

pub stored_append : (xs ys : Stores) (m : List ℕ) → stored (xs ++ ys) m ≡ stored ys (stored xs m)
stored_append [] ys m = refl
stored_append (x ∷ xs) ys m = stored_append xs ys (store 4 m x.0 x.1)

-- one word more
pub over_stored :
    (w : Surroundings) (p : Point) (xs : Stores) (o v : ℕ) (b : Base) (m : List ℕ) → StoredOver w p xs b m →
    StoredOver w p (xs ++ ((o, v) ∷ [])) b (store 4 m o v)
over_stored w p xs o v b m h =
    record {
      first = h.first;
      bytes = h.bytes;
      storage = h.storage;
      frames = h.frames;
      is = ap (λ u. store 4 u o v) h.is ∙ sym (stored_append xs ((o, v) ∷ []) h.first);
    }

-- all frames stand below those words
pub frames_over :
    (w : Surroundings) (p : Point) (xs : Stores) (b : Base) (m : List ℕ) (at count : ℕ) →
    AreLaid w.parts p.control.layers → upper_top w.parts p.control.layers ≤ at → AreWithin at count xs →
    StoredOver w p xs b m → FramesStand w.parts b.at m p.state.activations p.control.layers
frames_over w p xs b m at count laid over within h =
    subst (λ u. FramesStand w.parts b.at u p.state.activations p.control.layers) (sym h.is)
    (frames_kept w.parts b.at at count h.first (stored xs h.first) p.state.activations p.control.layers h.frames laid
    (beside_above w.parts at count p.control.layers laid over) (stored_beside at count xs h.first within))

-- ---- code that stores a register at a place in the new frame

-- around it: the running frame and the free byte of the upper stack, the new frame, and services
pub record Making : Type 0 where
  pub surroundings : Surroundings
  pub point : Point
  pub frame : ℕ
  pub free : ℕ
  pub is_frame : IsFrame frame
  pub at : ℕ
  pub is_at : IsFrame at

abbrev pub making_ground : Making → (Base → Stores) → Ground
making_ground k xs = ground_at k.frame k.free k.is_frame (λ b m. StoredOver k.surroundings k.point (xs b) b m)

-- a place in the new frame, the register that has the frame's address, the one that is stored, and its value
pub record Storing : Type 0 where
  pub place : ℕ
  pub by : Register
  pub from : Register
  pub value : Base → ℕ

pub record IsStoring (k : Making) (rs : Base → List (ℕ × ℕ)) (h : ℕ → ℕ) (v : Services) (xs : Base → Stores)
    (x : Storing) : Type 0 where
  pub even : x.place % 4 ≡ 0
  pub few : x.place + 4 ≤ 2 ^ 12
  pub near_by : IsNear x.by.index
  pub near_from : IsNear x.from.index
  pub frame :
      (b : Base) (t : ℕ → ℕ) (y : Whole) → Known (making_ground k xs) v h t rs b y →
      y.machine.registers x.by.index ≡ b.at + k.at
  pub value :
      (b : Base) (t : ℕ → ℕ) (y : Whole) → Known (making_ground k xs) v h t rs b y →
      y.machine.registers x.from.index ≡ x.value b
  pub far : Free rs 31

abbrev pub grown : Making → (Base → Stores) → Storing → Base → Stores
grown k xs x b = xs b ++ ((k.at + x.place, x.value b) ∷ [])

pub register_stored :
    (k : Making) (x : Storing) {links : Links} {code : List Instr} {i : ℕ} {v : Services} {h t : ℕ → ℕ}
    {rs : Base → List (ℕ × ℕ)} (xs : Base → Stores) (c : ℕ) (f : Family) → IsStoring k rs h v xs x →
    Linked links code i (store_word x.by x.from (pos x.place)) →
    ((b : Base) → At b i (Known (making_ground k xs) v h t rs b) (f b)) →
    Reach code c f v (c + size_of (store_word x.by x.from (pos x.place))) v
    (λ b y. At b (i + size_of (store_word x.by x.from (pos x.place)))
    (Known (making_ground k (grown k xs x)) v h t rs b) y)
register_stored k x {h = h} {t = t} xs c f s l there =
    store_into (making_ground k (grown k xs x)) t c f x.from x.by (pos x.place) k.at (k.at + x.place) x.value
    (word_in k.at x.place k.is_at s.even s.few) (inside_memory k.at k.is_at) s.near_by (λ b y o. s.frame b t y o)
    s.near_from (λ b y o. s.value b t y o) (λ b. refl)
    (λ b m len o. over_stored k.surroundings k.point (xs b) (k.at + x.place) (x.value b) b m o) s.far l there

-- ---- less said of what was stored

pub over_same :
    (k : Making) {v : Services} {h t : ℕ → ℕ} {rs : Base → List (ℕ × ℕ)} {b : Base} (xs ys : Base → Stores)
    (y : Whole) →
    xs b ≡ ys b → Known (making_ground k xs) v h t rs b y → Known (making_ground k ys) v h t rs b y
over_same k {b = b} xs ys y e o =
    record {
      body = record {
        services = o.body.services;
        registers = o.body.registers;
        bytes = o.body.bytes;
        memory = subst (λ zs. StoredOver k.surroundings k.point zs b y.machine.memory) e o.body.memory;
      };
      regs = o.regs;
    }
