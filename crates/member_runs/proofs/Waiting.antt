-- A name waits in the four words below the running frame, in which nothing else does.
use Rattle.std.proofs.Common.{◌≡◌, inl, ℕ, zero, suc, ◌+◌, ◌-◌, ◌*◌, ◌^◌, ◌<◌, ◌≤◌, List, [], ◌∷◌, length}
use Rattle.std.proofs.Common.{None, refl, sym, ap, ◌∙◌, subst, arith, ⊎_elim}
use Rattle.std.proofs.lemmas.Bool.{cases_lt}
use Rattle.std.proofs.lemmas.Int.{ints}
use Rattle.std.specs.Prelude.{negsuc, pos}
use Rattle.rv_meaning.specs.Machine.{memory_size}
use Rattle.rv_meaning.specs.Memory.{load, store}
use Rattle.rv_meaning.proofs.MemoryLaws.{load-store_other, load-store_same}
use Rattle.pli_meaning.specs.BasicValues.{Name}
use Rattle.pli_meaning.specs.StorageState.{Activation}
use Rattle.pli_coding.specs.Assembly.{Code, size_of}
use Rattle.pli_coding.specs.Instructions.{load_word, store_word}
use Rattle.pli_coding.specs.Locating.{Address, in_own_frame, name_copied, place_behind, word_copied}
use Rattle.pli_coding.specs.Registers.{frame_register, u1}
use Rattle.storage_relation.specs.Stored.{IsBeside, IsClear}
use Rattle.storage_relation.specs.Telling.{IsName}
use Rattle.storage_relation.proofs.NameWords.{name_words}
use Rattle.activation_relation.specs.Frames.{AreLaid, FramesStand, Stores, frame_bytes, frame_start, frame_under}
use Rattle.activation_relation.specs.Frames.{stored}
use Rattle.activation_relation.specs.Layers.{Layer, Point, now, services_of}
use Rattle.activation_relation.specs.Owned.{AreOwned, AreWithin}
use Rattle.activation_relation.specs.Points.{Stands, Surroundings}
use Rattle.activation_relation.proofs.FrameWords.{words_covered}
use Rattle.activation_relation.proofs.ListWords.{words_rewritten}
use Rattle.activation_relation.proofs.OwnPlaces.{clear_within, frame_clear, stores_hold}
use Rattle.activation_relation.proofs.StoredWords.{stored_beside}
use Rattle.run_steps.specs.Bodies.{Known, PlaceFrom}
use Rattle.run_steps.proofs.Bodies.{load_piece, store_piece}
use Rattle.run_steps.specs.Engine.{Base}
use Rattle.run_steps.specs.Items.{At, Linked}
use Rattle.run_steps.proofs.Jumps.{back_of, front_of}
use Rattle.run_steps.proofs.Linking.{size_append}
use Rattle.run_steps.specs.Reach.{Family, Reach, reached}
use Rattle.run_steps.proofs.Reach.{reach_map, reach_then, reached_holds}
use Rattle.run_steps.proofs.Reaching.{reach_moved}
use Rattle.run_steps.specs.Temporaries.{nothing}
use Rattle.block_runs.specs.Machines.{AreIn}
use Rattle.block_runs.proofs.Places.{IsFrame}
use Rattle.block_runs.proofs.PointGrounds.{StandsIn, known_in, point_frame}
use Rattle.program_runs.specs.Statements.{Block, IsAmong}
use Rattle.expression_runs.specs.Variables.{Spot}
use Rattle.expression_runs.proofs.Words.{frame_of}
use Rattle.area_runs.proofs.BasedCode.{name_at_place}
use Rattle.locator_runs.specs.Pointers.{IsPointer}
use Rattle.locator_runs.proofs.FourParts.{PartGoes, four_go}
use Rattle.locator_runs.proofs.NameTests.{word_small}
use Rattle.locator_runs.proofs.NameWrites.{word_of, word_told}
use Rattle.locator_runs.proofs.PointerPoints.{PointerAt, pointer_place}
use Rattle.locator_runs.proofs.PointerWrites.{place_in}
use Rattle.member_runs.proofs.MemberReads.{more_ground}

-- ---- the words

abbrev pub waiting_address : Address
waiting_address = in_own_frame (negsuc 15)

pub word_place : (at : ℕ) → IsFrame at → (n : ℕ) → n < 4 →
    PlaceFrom at (place_behind (4 * n) (negsuc 15)) (at - 16 + 4 * n)
word_place at h zero less =
    let whole = h.whole in
    let high = h.high in
    let room = h.room in
    record {
      small' = omega (arith, ints);
      sums = λ b. let v = b.valid.1 in omega (arith, ints, high, room, v);
      aligned = omega (arith, whole, high);
      inside = omega (arith, room);
      above_code = omega (arith, high);
    }
word_place at h (suc zero) less =
    let whole = h.whole in
    let high = h.high in
    let room = h.room in
    record {
      small' = omega (arith, ints);
      sums = λ b. let v = b.valid.1 in omega (arith, ints, high, room, v);
      aligned = omega (arith, whole, high);
      inside = omega (arith, room);
      above_code = omega (arith, high);
    }
word_place at h (suc (suc zero)) less =
    let whole = h.whole in
    let high = h.high in
    let room = h.room in
    record {
      small' = omega (arith, ints);
      sums = λ b. let v = b.valid.1 in omega (arith, ints, high, room, v);
      aligned = omega (arith, whole, high);
      inside = omega (arith, room);
      above_code = omega (arith, high);
    }
word_place at h (suc (suc (suc zero))) less =
    let whole = h.whole in
    let high = h.high in
    let room = h.room in
    record {
      small' = omega (arith, ints);
      sums = λ b. let v = b.valid.1 in omega (arith, ints, high, room, v);
      aligned = omega (arith, whole, high);
      inside = omega (arith, room);
      above_code = omega (arith, high);
    }
word_place at h (suc (suc (suc (suc n)))) less = absurd (omega (arith, less))

-- nothing waits in the newest frame's words
pub record IsFree (p : Point) (φ : Layer) (φs : List Layer) : Type 0 where
  pub newest : p.control.layers ≡ φ ∷ φs
  pub words : 4 ≤ φ.words
  pub waits : (i : ℕ) → φ.waits i ≡ None

-- no storage lies there
pub words_clear :
    (w : Surroundings) (p : Point) (φ : Layer) (φs : List Layer) → Stands w p → IsFree p φ φs → 2 ^ 22 ≤ φ.at →
    IsClear p.keeper p.places p.state (φ.at - 16) 16
words_clear w p φ φs known free low =
    let laid = subst (AreLaid w.parts) free.newest known.laid in
    let owned = subst (AreOwned p.keeper p.places p.state w.parts) free.newest known.owned in
    let covered = words_covered φ.words in
    let above = laid.0.above in
    let words = free.words in
    clear_within p.keeper p.places p.state (frame_start φ) (frame_bytes φ) (φ.at - 16) 16
    (frame_clear p.keeper p.places p.state w.parts φ φs owned laid) (omega (arith, covered, above, words, low))
    (omega (arith, covered, above, words, low))

-- a word that is written there leaves all that stands
pub word_stands :
    (w : Surroundings) (p : Point) (φ : Layer) (φs : List Layer) (q x : ℕ) (b : Base) (m : List ℕ) →
    Stands w p → IsFrame φ.at → IsFree p φ φs → φ.at - 16 ≤ q → q + 4 ≤ φ.at → length m ≡ memory_size →
    StandsIn w p b m → StandsIn w p b (store 4 m q x)
word_stands w p φ φs q x b m known frame free from' to' bytes stands =
    let laid = subst (AreLaid w.parts) free.newest known.laid in
    let frames = subst (FramesStand w.parts b.at m p.state.activations) free.newest stands.frames in
    let xs : Stores = (q, x) ∷ [] in
    let new = stored xs m in
    let covered = words_covered φ.words in
    let above = laid.0.above in
    let words = free.words in
    let low = frame.high in
    let high = frame.room in
    let within : AreWithin (φ.at - 16) 16 xs = ((from', omega (arith, to', low)), tt) in
    let clear = words_clear w p φ φs known free (omega (arith, low)) in
    record {
      storage = stores_hold (now p m) (φ.at - 16) 16 xs stands.storage clear (omega (arith, low, high, bytes)) within;
      frames = subst (FramesStand w.parts b.at new p.state.activations) (sym free.newest)
          (by p.state.activations frames (stored_beside (φ.at - 16) 16 xs m within) laid
          (omega (arith, covered, above, words, low)) (omega (arith, low)));
    }
  where
    by :
        (as' : List Activation) → FramesStand w.parts b.at m as' (φ ∷ φs) →
        IsBeside (φ.at - 16) 16 m (store 4 m q x) → AreLaid w.parts (φ ∷ φs) →
        frame_start φ ≤ φ.at - 16 → φ.at - 16 + 16 ≤ φ.at →
        FramesStand w.parts b.at (store 4 m q x) as' (φ ∷ φs)
    by [] frames beside laid from to = absurd frames
    by (a ∷ as') frames beside laid from to =
        words_rewritten w.parts b.at (φ.at - 16) 16 m (store 4 m q x) a as' φ φs φ.waits frames
        (laid, from, to, beside) (λ n v less e. absurd (cc (sym (free.waits n) ∙ e)))

-- ---- a name in them

-- so many of its words
abbrev pub WordsTold : (n : ℕ) (a : Name) (at : ℕ) → List ℕ → Type 0
WordsTold n a at m = (j : ℕ) → j < n → load 4 m (at + 4 * j) ≡ word_of a j

pub one_more :
    (n : ℕ) (a : Name) (at : ℕ) (m : List ℕ) → word_of a n < 2 ^ 32 → at + 16 ≤ length m → n < 4 →
    WordsTold n a at m → WordsTold (suc n) a at (store 4 m (at + 4 * n) (word_of a n))
one_more n a at m few room less told j low =
    ⊎_elim
    (λ before. load-store_other 4 4 m (at + 4 * n) (word_of a n) (at + 4 * j) (inl (omega (arith, before)))
    ∙ told j before)
    (λ here.
    let same : j ≡ n = omega (arith, here, low) in
    subst (λ i. load 4 (store 4 m (at + 4 * n) (word_of a n)) (at + 4 * i) ≡ word_of a i) (sym same)
    (load-store_same 4 m (at + 4 * n) (word_of a n) few (omega (arith, room, less))))
    (cases_lt j n)

-- what a variable holds goes there
abbrev pub waits_code : (place : ℕ) → Code
waits_code place = name_copied (in_own_frame (pos place)) waiting_address

-- around it
pub record Waits (k : Block) (y : Spot) (p : Point) (numbers : ℕ → ℕ) : Type 0 where
  pub is : IsPointer k y
  pub among : IsAmong k numbers p
  pub at : PointerAt k y is p
  pub layer : Layer
  pub others : List Layer
  pub free : IsFree p layer others

abbrev pub frame_at : {k : Block} {y : Spot} {p : Point} {numbers : ℕ → ℕ} → Waits k y p numbers → frame_of k p
frame_at z = point_frame z.among.stands z.among.image

-- around any name there
pub record HasName (k : Block) (p : Point) (numbers : ℕ → ℕ) : Type 0 where
  pub among : IsAmong k numbers p
  pub name : Name
  pub fits : IsName name
  pub layer : Layer
  pub others : List Layer
  pub free : IsFree p layer others

abbrev pub named_by : {k : Block} {y : Spot} {p : Point} {numbers : ℕ → ℕ} → Waits k y p numbers → HasName k p numbers
named_by z =
    record {
      among = z.among;
      name = z.at.points.name;
      fits = z.at.fits;
      layer = z.layer;
      others = z.others;
      free = z.free;
    }

abbrev pub frame_in : {k : Block} {p : Point} {numbers : ℕ → ℕ} → HasName k p numbers → frame_of k p
frame_in z = point_frame z.among.stands z.among.image

abbrev pub words_at : Block → Point → ℕ
words_at k p = frame_under k.call.surroundings.parts p.control.layers - 16

waiting_word :
    {k : Block} {y : Spot} {p : Point} {numbers : ℕ → ℕ} (z : Waits k y p numbers) →
    PartGoes k.call.surroundings.links k.call.code (services_of p)
    (λ n b u. Known (more_ground k.call.surroundings p (WordsTold n z.at.points.name (words_at k p)) (frame_at z))
    (services_of p) numbers (λ j. 0) nothing b u)
    (word_copied (in_own_frame (pos (name_at_place k.environment y))) waiting_address)
waiting_word {k} {y} {p} {numbers} z n c i f less l there =
    let w = k.call.surroundings in
    let h = frame_at z in
    let a = z.at.points.name in
    let at = words_at k p in
    let frame = frame_under w.parts p.control.layers in
    let same : frame ≡ z.layer.at = ap (λ ls. frame_under w.parts ls) z.free.newest in
    let first = load_word u1 frame_register (pos (name_at_place k.environment y + 4 * n)) in
    let last = store_word frame_register u1 (place_behind (4 * n) (negsuc 15)) in
    let n1 = size_append first last in
    let high = h.high in
    let room = h.room in
    let r1 = load_piece {g = more_ground w p (WordsTold n a at) h} {rs = nothing} c f u1
    (pos (name_at_place k.environment y + 4 * n)) (pointer_place z.is + 4 * n) (λ b. word_of a n)
    (place_in z.is z.among z.at.even n less)
    (λ b m u. word_told a (pointer_place z.is) m (name_words a (pointer_place z.is) m (z.at.tells m u.0.storage)) n
    less)
    (record { reserved_stay = λ x v. refl; known_stay = λ b x v u. u; set = λ x v. refl })
    (record { reserved_stay = λ x v. refl; known_stay = λ b x v u. u; set = λ x v. refl })
    (front_of first last l) there in
    let r2 = store_piece (more_ground w p (WordsTold (suc n) a at) h) (λ j. 0) (c + size_of first) (reached r1) u1
    (place_behind (4 * n) (negsuc 15)) (at + 4 * n) (λ b. word_of a n) (word_place frame h n less) (λ x v. refl)
    (λ b x u. u.regs.0) (λ b. refl)
    (λ b m bytes u. (
      word_stands w p z.layer z.others (at + 4 * n) (word_of a n) b m z.among.stands (subst IsFrame same h) z.free
          (omega (arith, same)) (omega (arith, same, less, high)) bytes u.0,
      one_more n a at m (word_small a z.at.fits n) (omega (arith, room, bytes, high)) less u.1,
    ))
    (record { reserved_stay = λ x v. refl; known_stay = λ b x v u. u; set = λ x v. refl })
    (back_of first last l) (reached_holds r1) in
    reach_map _ (reach_moved (omega (arith, n1)) (omega (arith, n1)) (reach_then r1 r2)) (λ b x u. record {
      pc = u.pc;
      holds = record { body = u.holds.body; regs = tt };
    })

pub waits_reach :
    {k : Block} {y : Spot} {p : Point} {numbers : ℕ → ℕ} {i : ℕ} (z : Waits k y p numbers) (c : ℕ) (f : Family) →
    Linked k.call.surroundings.links k.call.code i (waits_code (name_at_place k.environment y)) →
    AreIn k.call.surroundings p numbers i f →
    Reach k.call.code c f (services_of p) (c + size_of (waits_code (name_at_place k.environment y))) (services_of p)
    (λ b u. At b (i + size_of (waits_code (name_at_place k.environment y)))
    (Known (more_ground k.call.surroundings p (WordsTold 4 z.at.points.name (words_at k p)) (frame_at z))
    (services_of p) numbers (λ j. 0) nothing b) u)
waits_reach {k} {y} {p} {numbers} {i} z c f l there =
    let h = frame_at z in
    four_go k.call.surroundings.links k.call.code (services_of p)
    (λ n b u. Known (more_ground k.call.surroundings p (WordsTold n z.at.points.name (words_at k p)) h)
    (services_of p) numbers (λ j. 0) nothing b u)
    (word_copied (in_own_frame (pos (name_at_place k.environment y))) waiting_address) c i f (waiting_word z) l
    (λ b. let s = known_in {t = λ j. 0} {rs = nothing} h (there b) tt in record {
      pc = s.pc;
      holds = record {
        body = record {
          services = s.holds.body.services;
          registers = s.holds.body.registers;
          bytes = s.holds.body.bytes;
          memory = (s.holds.body.memory, λ j less. absurd (omega (arith, less)));
        };
        regs = tt;
      };
    })
