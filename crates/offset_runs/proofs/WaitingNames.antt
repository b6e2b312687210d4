-- A name that a service writes into the four words below the running frame, in which nothing waits.
use Rattle.std.proofs.Common.{◌≡◌, ℕ, ◌+◌, ◌-◌, ◌*◌, ◌≤◌, ◌^◌, ◌<◌, List, [], ◌∷◌, length, sym, ◌∙◌, subst}
use Rattle.std.proofs.Common.{arith}
use Rattle.std.proofs.lemmas.Int.{ints}
use Rattle.std.specs.Prelude.{negsuc}
use Rattle.rv_meaning.specs.declared.instr.ImmediateOp.TheVariants as Imm
use Rattle.rv_meaning.specs.declared.instr.Instr.{Instr}
use Rattle.rv_meaning.specs.declared.instr.Instr.TheVariants as I
use Rattle.rv_meaning.specs.declared.instr.Register.{Register}
use Rattle.rv_meaning.specs.Machine.{memory_size}
use Rattle.rv_meaning.specs.Memory.{load}
use Rattle.rv_meaning.specs.Words.{sum, word}
use Rattle.pli_typing.specs.Signatures.{Pointer}
use Rattle.pli_meaning.specs.BasicValues.{BasicPointer, Name}
use Rattle.pli_meaning.specs.StorageState.{Activation}
use Rattle.area_keeper.specs.KeptAreas.{with_part}
use Rattle.pli_serving.specs.Bytes.{name_bytes}
use Rattle.pli_serving.specs.ServiceState.{Services}
use Rattle.pli_coding.specs.Assembly.{size_of}
use Rattle.pli_coding.specs.Frames.{own_offset}
use Rattle.pli_coding.specs.Instructions.{is_immediate, load_word, plus}
use Rattle.pli_coding.specs.Linking.{Links}
use Rattle.pli_coding.specs.Registers.{frame_register}
use Rattle.storage_relation.specs.Stored.{IsBeside, IsClear}
use Rattle.storage_relation.specs.Telling.{IsName, Tells}
use Rattle.storage_relation.proofs.Slices.{part_written}
use Rattle.activation_relation.specs.Frames.{AreLaid, FramesStand, Stores, frame_start, stored}
use Rattle.activation_relation.specs.Layers.{Layer, Point, now}
use Rattle.activation_relation.specs.Owned.{AreWithin}
use Rattle.activation_relation.specs.Points.{Stands, Surroundings}
use Rattle.activation_relation.proofs.FrameWords.{words_covered}
use Rattle.activation_relation.proofs.ListWords.{words_rewritten}
use Rattle.activation_relation.proofs.OwnPlaces.{stores_hold}
use Rattle.activation_relation.proofs.StoredWords.{stored_beside}
use Rattle.run_steps.specs.Bodies.{Free, IsNear, Known, PlaceOf, Ground, with'}
use Rattle.run_steps.proofs.Bodies.{displaced_by, load_piece, lose_known, set_known}
use Rattle.run_steps.specs.Engine.{Base}
use Rattle.run_steps.specs.Items.{At, Linked}
use Rattle.run_steps.proofs.Jumps.{back_of, front_of}
use Rattle.run_steps.proofs.Linking.{size_append}
use Rattle.run_steps.specs.Reach.{Family, Reach, reached}
use Rattle.run_steps.proofs.Reach.{reach_then, reached_holds}
use Rattle.run_steps.proofs.Reaching.{reach_moved}
use Rattle.block_runs.proofs.Places.{IsFrame}
use Rattle.block_runs.proofs.PointGrounds.{StandsIn}
use Rattle.locator_runs.proofs.NameWrites.{name_written, word_of}
use Rattle.locator_runs.proofs.PointerPoints.{name_length}
use Rattle.member_runs.proofs.Waiting.{IsFree, words_clear}
use Rattle.offset_runs.proofs.AddressCode.{words_code}

-- ---- memory with it

abbrev name_stores : Name → (at : ℕ) → Stores
name_stores a at =
    (at + 4 * 0, word_of a 0) ∷ (at + 4 * 1, word_of a 1) ∷ (at + 4 * 2, word_of a 2) ∷ (at + 4 * 3, word_of a 3) ∷ []

-- all that stands stays
pub name_stands :
    (w : Surroundings) (p : Point) (φ : Layer) (φs : List Layer) (a : Name) (b : Base) (m : List ℕ) →
    Stands w p → IsFrame φ.at → IsFree p φ φs → length m ≡ memory_size → StandsIn w p b m →
    StandsIn w p b (with_part (name_bytes a) (φ.at - 16) m)
name_stands w p φ φs a b m known frame free bytes stands =
    subst (StandsIn w p b) (sym (name_written a at m (omega (arith, high, low, bytes))))
    (record {
      storage = stores_hold (now p m) at 16 xs stands.storage clear (omega (arith, low, high, bytes)) within;
      frames =
          let covered = words_covered φ.words in
          let above = laid.0.above in
          let words = free.words in
          subst (FramesStand w.parts b.at new p.state.activations) (sym free.newest)
          (by p.state.activations frames (stored_beside at 16 xs m within) laid (omega (
            arith,
            covered,
            above,
            words,
            low,
          ))
          (omega (arith, low)));
    })
  where
    at : ℕ
    at = φ.at - 16

    xs : Stores
    xs = name_stores a at

    new : List ℕ
    new = stored xs m

    low : 2 ^ 22 ≤ φ.at
    low = let high = frame.high in omega (arith, high)

    high : φ.at ≤ 15 * 2 ^ 20
    high = let room = frame.room in omega (arith, room)

    laid : AreLaid w.parts (φ ∷ φs)
    laid = subst (AreLaid w.parts) free.newest known.laid

    frames : FramesStand w.parts b.at m p.state.activations (φ ∷ φs)
    frames = subst (FramesStand w.parts b.at m p.state.activations) free.newest stands.frames

    clear : IsClear p.keeper p.places p.state at 16
    clear = words_clear w p φ φs known free low

    within : AreWithin at 16 xs
    within = (
      (omega arith, omega (arith, low)),
      ((omega arith, omega (arith, low)), ((omega arith, omega (arith, low)), ((omega arith, omega (arith, low)), tt))),
    )

    by :
        (as' : List Activation) → FramesStand w.parts b.at m as' (φ ∷ φs) → IsBeside at 16 m new →
        AreLaid w.parts (φ ∷ φs) → frame_start φ ≤ at → at + 16 ≤ φ.at → FramesStand w.parts b.at new as' (φ ∷ φs)
    by [] frames beside laid from to = absurd frames
    by (x ∷ as') frames beside laid from to =
        words_rewritten w.parts b.at at 16 m new x as' φ φs φ.waits frames (laid, from, to, beside)
        (λ n v less e. absurd (cc (sym (free.waits n) ∙ e)))

-- and it is told there
pub name_told :
    (a : Name) (at : ℕ) (m : List ℕ) → IsName a → at + 16 ≤ length m →
    Tells Pointer (BasicPointer a) at (with_part (name_bytes a) at m)
name_told a at m fits room =
    let long = name_length a in
    record { fits = fits; tells = part_written (name_bytes a) at m (omega (arith, room, long)) }

-- ---- their place

below : (at : ℕ) → 16 ≤ at → at < 2 ^ 24 → sum at (word (negsuc 15)) ≡ at - 16
below at low few = omega (arith, ints, low, few)

-- whatever stands in memory besides
pub words_come :
    {links : Links} {code : List Instr} {i : ℕ} {g : Ground} {v : Services} {numbers : ℕ → ℕ}
    {rs : Base → List (ℕ × ℕ)} (c : ℕ) (f : Family) (r : Register) → PlaceOf g own_offset (g.frame + 36) →
    ((b : Base) (m : List ℕ) → g.memory (λ n. 0) b m → load 4 m (g.frame + 36) ≡ g.frame) →
    (16 ≤ g.frame) × (g.frame < 2 ^ 24) → IsNear r.index → Free rs r.index → Free rs 31 →
    Free (with' r.index (λ b. g.frame) rs) 31 → Linked links code i (words_code r) →
    ((b : Base) → At b i (Known g v numbers (λ n. 0) rs b) (f b)) →
    Reach code c f v (c + size_of (words_code r)) v
    (λ b y. At b (i + size_of (words_code r)) (Known g v numbers (λ n. 0)
    (with' r.index (λ b'. g.frame - 16) rs) b) y)
words_come {g = g} {v} {numbers} {rs} c f r own reads few near free far far' l there =
    let at = g.frame in
    let low = few.0 in
    let high = few.1 in
    let first = load_word r frame_register own_offset in
    let second = plus r r (negsuc 15) in
    let n = size_append first second in
    let r1 = load_piece c f r own_offset (at + 36) (λ b. at) own reads free far (front_of first second l) there in
    let r2 = displaced_by (is_immediate (negsuc 15)) (c + size_of first) (reached r1)
    (λ q d. I.Immediate Imm.Add r q d) r (negsuc 15) (λ b. at)
    (Known g v numbers (λ n'. 0) (with' r.index (λ b. at) rs))
    (Known g v numbers (λ n'. 0) (with' r.index (λ b. at - 16) rs))
    (omega (arith, ints)) (λ b. omega (arith, high)) near
    (λ b. (reached_holds r1 b).holds.regs.0) (omega arith)
    (record {
      does = λ b j y q d o e.
          set_known y r.index (sum (y.machine.registers q.index) (word d)) _ (λ b'. at - 16) free
          (e ∙ below at low high) (record { body = o.body; regs = o.regs.1 });
      lost = λ b y u j o. lose_known y 31 u j far' o;
    })
    (back_of first second l) (reached_holds r1) in
    reach_moved (omega (arith, n)) (omega (arith, n)) (reach_then r1 r2)
