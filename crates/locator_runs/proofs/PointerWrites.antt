-- The code that writes a name into a POINTER variable of the running frame, word by word.
use Rattle.std.proofs.Common.{◌≡◌, ℕ, zero, suc, ◌+◌, ◌*◌, ◌%◌, ◌<◌, List, [], ◌∷◌, length, refl}
use Rattle.std.proofs.Common.{sym, ap, ◌∙◌, subst, arith}
use Rattle.std.specs.Prelude.{pos}
use Rattle.rv_meaning.specs.declared.instr.Register.{Register}
use Rattle.rv_meaning.specs.Machine.{memory_size}
use Rattle.rv_meaning.specs.Memory.{load, store}
use Rattle.pli_meaning.specs.BasicValues.{Name, NullName}
use Rattle.pli_coding.specs.Assembly.{size_of}
use Rattle.pli_coding.specs.Expressions.{null_name, null_word}
use Rattle.pli_coding.specs.Instructions.{load_word, store_word}
use Rattle.pli_coding.specs.Locating.{in_own_frame, word_copied}
use Rattle.pli_coding.specs.Registers.{frame_register, u1, zero_register}
use Rattle.storage_relation.specs.Telling.{IsName}
use Rattle.storage_relation.proofs.NameWords.{name_words}
use Rattle.activation_relation.specs.Frames.{frame_under, upper_top}
use Rattle.activation_relation.specs.Layers.{Point, services_of}
use Rattle.activation_relation.specs.Points.{Surroundings}
use Rattle.run_steps.specs.Bodies.{Free, Ground, IsNear, Known, PlaceFrom}
use Rattle.run_steps.proofs.Bodies.{load_piece, store_piece, zero_is}
use Rattle.run_steps.specs.Engine.{Base}
use Rattle.run_steps.specs.Items.{At, Linked}
use Rattle.run_steps.proofs.Jumps.{back_of, front_of}
use Rattle.run_steps.proofs.Linking.{size_append}
use Rattle.run_steps.proofs.Numbers.{above_small, above_sum}
use Rattle.run_steps.specs.Reach.{Family, Reach, reached}
use Rattle.run_steps.proofs.Reach.{reach_map, reach_then, reached_holds}
use Rattle.run_steps.proofs.Reaching.{reach_moved}
use Rattle.run_steps.specs.Temporaries.{nothing}
use Rattle.image_runs.specs.Runs.{Whole}
use Rattle.block_runs.specs.Machines.{AreIn, IsIn}
use Rattle.block_runs.proofs.Places.{IsFrame, ground_at}
use Rattle.block_runs.proofs.PointGrounds.{StandsIn, in_known, known_in, point_frame}
use Rattle.program_runs.specs.Statements.{Block, IsAmong}
use Rattle.expression_runs.specs.Variables.{Spot}
use Rattle.expression_runs.proofs.Words.{frame_of}
use Rattle.area_runs.proofs.BasedCode.{name_at_place}
use Rattle.locator_runs.specs.Pointers.{IsPointer}
use Rattle.locator_runs.proofs.FourParts.{PartGoes, four_go}
use Rattle.locator_runs.proofs.NameWrites.{name_written, word_of, word_stays, word_told, written}
use Rattle.locator_runs.proofs.PointerCode.{copied_code}
use Rattle.locator_runs.proofs.PointerPoints.{PointerAt, own_base, pointed, pointed_services, pointed_stands}
use Rattle.locator_runs.proofs.PointerPoints.{pointer_inside, pointer_place, pointers_apart}

-- ---- places of its words

pub place_in :
    {k : Block} {x : Spot} {numbers : ℕ → ℕ} {p : Point} (is : IsPointer k x) (o : IsAmong k numbers p) →
    pointer_place is % 4 ≡ 0 → (n : ℕ) → n < 4 →
    PlaceFrom (frame_under k.call.surroundings.parts p.control.layers)
    (pos (name_at_place k.environment x + 4 * n)) (pointer_place is + 4 * n)
place_in {k} {x} {p = p} is o even n less =
    let base = own_base is o in
    let low = is.known.low in
    let inside = is.known.inside in
    let at = name_at_place k.environment x + 4 * n in
    let frame = frame_under k.call.surroundings.parts p.control.layers in
    let same : frame + at ≡ pointer_place is + 4 * n = omega (arith, base) in
    record {
      small' = above_small at (omega (arith, inside, less));
      sums = λ b. above_sum b.at frame at b.valid.1 (omega (arith, inside, less, base)) ∙ ap (λ u. b.at + u) same;
      aligned = omega (arith, even);
      inside = omega (arith, inside, less);
      above_code = omega (arith, low);
    }

-- ---- memory meanwhile

-- so many words are written over what stood there at the point
pub record Written (w : Surroundings) (p : Point) (a : Name) (at n : ℕ) (b : Base) (m : List ℕ) : Type 0 where
  pub before : List ℕ
  pub bytes : length before ≡ memory_size
  pub stands : StandsIn w p b before
  pub is : m ≡ written n a at before

abbrev pub words_ground :
    (w : Surroundings) (p : Point) → IsFrame (frame_under w.parts p.control.layers) → Name → (at n : ℕ) → Ground
words_ground w p h a at n =
    ground_at (frame_under w.parts p.control.layers) (upper_top w.parts p.control.layers) h
    (λ b m. Written w p a at n b m)

-- with so many words
abbrev pub HasWritten :
    (k : Block) (p : Point) → frame_of k p → Name → (at n : ℕ) → (numbers : ℕ → ℕ) → Base → Whole → Type 0
HasWritten k p h a at n numbers b y =
    Known (words_ground k.call.surroundings p h a at n) (services_of p) numbers (λ j. 0) nothing b y

-- none is written yet
pub none_written :
    (k : Block) {numbers : ℕ → ℕ} {p : Point} {i : ℕ} (h : frame_of k p) (a : Name) (at : ℕ) (f : Family) →
    AreIn k.call.surroundings p numbers i f → (b : Base) → At b i (HasWritten k p h a at 0 numbers b) (f b)
none_written k h a at f there b =
    let s = known_in {t = λ j. 0} {rs = nothing} h (there b) tt in
    record {
      pc = s.pc;
      holds = record {
        body = record {
          services = s.holds.body.services;
          registers = s.holds.body.registers;
          bytes = s.holds.body.bytes;
          memory = record { before = _; bytes = s.holds.body.bytes; stands = s.holds.body.memory; is = refl };
        };
        regs = tt;
      };
    }

-- all are
pub all_written :
    {k : Block} {x : Spot} {is : IsPointer k x} {numbers : ℕ → ℕ} {p : Point} {i c c' : ℕ} {f : Family}
    (o : IsAmong k numbers p) (t : PointerAt k x is p) (a : Name) → IsName a →
    Reach k.call.code c f (services_of p) c' (services_of p)
    (λ b y. At b i (HasWritten k p (point_frame o.stands o.image) a (pointer_place is) 4 numbers b) y) →
    Reach k.call.code c f (services_of p) c' (services_of (pointed p t.points a))
    (λ b y. IsIn k.call.surroundings (pointed p t.points a) numbers i b y)
all_written {k} {is = is} {numbers} {p} {i} {c = c} {c'} {f} o t a fits r =
    let w = k.call.surroundings in
    let h = point_frame o.stands o.image in
    let q = pointed p t.points a in
    let same = pointed_services p t.points a in
    subst (λ v. Reach k.call.code c f (services_of p) c' v (λ b y. IsIn w q numbers i b y)) (sym same)
    (reach_map _ r (λ b y s.
    let m = s.holds.body.memory in
    let inside = pointer_inside t m.before m.stands.storage in
    in_known {t = λ j. 0} {rs = nothing} h o.image.parts
    (record {
      pc = s.pc;
      holds = record {
        body = record {
          services = s.holds.body.services ∙ sym same;
          registers = s.holds.body.registers;
          bytes = s.holds.body.bytes;
          memory = subst (StandsIn w q b) (name_written a (pointer_place is) m.before inside ∙ sym m.is)
              (pointed_stands w t a b m.before fits o.stands m.stands);
        };
        regs = tt;
      };
    })))

-- ---- one word

-- a register's value goes to its place
word_goes :
    {k : Block} {x : Spot} {numbers : ℕ → ℕ} {p : Point} {i : ℕ} (is : IsPointer k x) (o : IsAmong k numbers p)
    (h : frame_of k p) (a : Name) (n : ℕ) (rs : Base → List (ℕ × ℕ)) (r : Register) (c : ℕ) (f : Family) →
    pointer_place is % 4 ≡ 0 → n < 4 → IsNear r.index →
    ((b : Base) (y : Whole) →
    Known (words_ground k.call.surroundings p h a (pointer_place is) n) (services_of p) numbers
    (λ j. 0) rs b y → y.machine.registers r.index ≡ word_of a n) → Free rs 31 →
    Linked k.call.surroundings.links k.call.code i
    (store_word frame_register r (pos (name_at_place k.environment x + 4 * n))) →
    ((b : Base) → At b i (Known (words_ground k.call.surroundings p h a (pointer_place is) n) (services_of p) numbers
    (λ j. 0) rs b) (f b)) →
    Reach k.call.code c f (services_of p)
    (c + size_of (store_word frame_register r (pos (name_at_place k.environment x + 4 * n)))) (services_of p)
    (λ b y. At b (i + size_of (store_word frame_register r (pos (name_at_place k.environment x + 4 * n))))
    (HasWritten k p h a (pointer_place is) (suc n) numbers b) y)
word_goes {k} {x} {numbers} {p} {i} is o h a n rs r c f even less near value far l there =
    let w = k.call.surroundings in
    let at = pointer_place is in
    reach_map _
    (store_piece (words_ground w p h a at (suc n)) (λ j. 0) c f r (pos (name_at_place k.environment x + 4 * n))
    (at + 4 * n) (λ b. word_of a n) (place_in is o even n less) near value (λ b. refl)
    (λ b m bytes s. record {
      before = s.before;
      bytes = s.bytes;
      stands = s.stands;
      is = ap (λ u. store 4 u (at + 4 * n) (word_of a n)) s.is;
    }) far l there)
    (λ b y s. record {
      pc = s.pc;
      holds = record { body = s.holds.body; regs = tt };
    })

-- ---- all four

-- NULL
null_word_is : (n : ℕ) → word_of NullName n ≡ 0
null_word_is zero = refl
null_word_is (suc zero) = refl
null_word_is (suc (suc zero)) = refl
null_word_is (suc (suc (suc n))) = refl

pub null_reaches :
    {k : Block} {x : Spot} {numbers : ℕ → ℕ} {p : Point} {i : ℕ} (is : IsPointer k x) (o : IsAmong k numbers p)
    (t : PointerAt k x is p) (c : ℕ) (f : Family) →
    Linked k.call.surroundings.links k.call.code i (null_name (pos (name_at_place k.environment x))) →
    AreIn k.call.surroundings p numbers i f →
    Reach k.call.code c f (services_of p) (c + size_of (null_name (pos (name_at_place k.environment x))))
    (services_of (pointed p t.points NullName))
    (λ b y. IsIn k.call.surroundings (pointed p t.points NullName) numbers
    (i + size_of (null_name (pos (name_at_place k.environment x)))) b y)
null_reaches {k} {x} {numbers} {p} {i} is o t c f l there =
    let h = point_frame o.stands o.image in
    all_written o t NullName tt
    (four_go k.call.surroundings.links k.call.code (services_of p)
    (λ n b y. HasWritten k p h NullName (pointer_place is) n numbers b y)
    (null_word (pos (name_at_place k.environment x))) c i f
    (λ n c' i' f' less l' there'.
    word_goes is o h NullName n nothing zero_register c' f' t.even less (λ y u. refl)
    (λ b y s. zero_is s.body ∙ sym (null_word_is n))
    (record { reserved_stay = λ y u. refl; known_stay = λ b y u s. s; set = λ y u. refl }) l' there')
    l (none_written k h NullName (pointer_place is) f there))

-- what another variable holds
copied_word :
    {k : Block} {x y : Spot} {numbers : ℕ → ℕ} {p : Point} (is : IsPointer k x) (js : IsPointer k y)
    (o : IsAmong k numbers p) (t : PointerAt k x is p) (u : PointerAt k y js p) →
    PartGoes k.call.surroundings.links k.call.code (services_of p)
    (λ n b z. HasWritten k p (point_frame o.stands o.image) u.points.name (pointer_place is) n numbers b z)
    (word_copied (in_own_frame (pos (name_at_place k.environment y)))
    (in_own_frame (pos (name_at_place k.environment x))))
copied_word {k} {x} {y} {numbers} {p} is js o t u n c i f less l there =
    let h = point_frame o.stands o.image in
    let a = u.points.name in
    let first = load_word u1 frame_register (pos (name_at_place k.environment y + 4 * n)) in
    let last = store_word frame_register u1 (pos (name_at_place k.environment x + 4 * n)) in
    let n1 = size_append first last in
    let r1 = load_piece c f u1 (pos (name_at_place k.environment y + 4 * n)) (pointer_place js + 4 * n)
    (λ b. word_of a n) (place_in js o u.even n less)
    (λ b m s.
    ap (λ v. load 4 v (pointer_place js + 4 * n)) s.is
    ∙ word_stays n n a (pointer_place is) (pointer_place js) s.before (omega arith) less
    (pointers_apart t u s.before s.stands.storage)
    ∙ word_told a (pointer_place js) s.before (name_words a (pointer_place js) s.before (u.tells s.before
    s.stands.storage)) n less)
    (record { reserved_stay = λ z v. refl; known_stay = λ b z v s. s; set = λ z v. refl })
    (record { reserved_stay = λ z v. refl; known_stay = λ b z v s. s; set = λ z v. refl })
    (front_of first last l) there in
    let r2 = word_goes is o h a n (λ b. (6, word_of a n) ∷ []) u1 (c + size_of first) (reached r1) t.even less
    (λ z v. refl) (λ b z s. s.regs.0)
    (record { reserved_stay = λ z v. refl; known_stay = λ b z v s. s; set = λ z v. refl })
    (back_of first last l) (reached_holds r1) in
    reach_moved (omega (arith, n1)) (omega (arith, n1)) (reach_then r1 r2)

pub copy_reaches :
    {k : Block} {x y : Spot} {numbers : ℕ → ℕ} {p : Point} {i : ℕ} (is : IsPointer k x) (js : IsPointer k y)
    (o : IsAmong k numbers p) (t : PointerAt k x is p) (u : PointerAt k y js p) (c : ℕ) (f : Family) →
    Linked k.call.surroundings.links k.call.code i
    (copied_code (name_at_place k.environment y) (name_at_place k.environment x)) →
    AreIn k.call.surroundings p numbers i f →
    Reach k.call.code c f (services_of p)
    (c + size_of (copied_code (name_at_place k.environment y) (name_at_place k.environment x)))
    (services_of (pointed p t.points u.points.name))
    (λ b z. IsIn k.call.surroundings (pointed p t.points u.points.name) numbers
    (i + size_of (copied_code (name_at_place k.environment y) (name_at_place k.environment x))) b z)
copy_reaches {k} {x} {y} {numbers} {p} {i} is js o t u c f l there =
    let h = point_frame o.stands o.image in
    let a = u.points.name in
    all_written o t a u.fits
    (four_go k.call.surroundings.links k.call.code (services_of p)
    (λ n b y. HasWritten k p h a (pointer_place is) n numbers b y)
    (word_copied (in_own_frame (pos (name_at_place k.environment y)))
    (in_own_frame (pos (name_at_place k.environment x)))) c i f (copied_word is js o t u) l
    (none_written k h a (pointer_place is) f there))
