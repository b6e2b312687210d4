-- Service 3 at a point.
use Rattle.std.proofs.Common.{◌≡◌, ◌≢◌, ◌⊎◌, inl, inr, ℕ, zero, suc, ◌+◌, ◌^◌, ◌<◌, List, [], ◌∷◌, ◌++◌, length}
use Rattle.std.proofs.Common.{Option, Some, Bool, true, false, refl, sym, ap, ◌∙◌, subst, arith}
use Rattle.std.proofs.lemmas.Bool.{cases_eq}
use Rattle.std.specs.Prelude.{cond, ◌==◌, slice_get}
use Rattle.rv_meaning.specs.declared.instr.Instr.{Instr}
use Rattle.rv_meaning.specs.declared.instr.Instr.TheVariants as I
use Rattle.pli_meaning.specs.Contents.{Shape, same_shape}
use Rattle.pli_types.specs.Templates.{Template}
use Rattle.pli_serving.specs.Answers.{Done}
use Rattle.pli_serving.specs.Outcomes.{bad_unless, or_bad}
use Rattle.pli_serving.specs.SignatureService.{bounds_given, filled, number_from, number_of, numbered, reserved_for}
use Rattle.pli_serving.specs.SignatureService.{same_template, signature_served, with_template}
use Rattle.pli_serving.specs.Templates.{shape_at, shape_of}
use Rattle.pli_coding.specs.Assembly.{DataPlace, Datum, OffsetOf, Plain, size_of}
use Rattle.pli_coding.specs.Instructions.{small}
use Rattle.pli_coding.specs.Linking.{place_of}
use Rattle.pli_coding.specs.Registers.{a1, a7}
use Rattle.storage_relation.specs.Served.{AreDistinct, Holds}
use Rattle.storage_relation.proofs.Changes.{table_holds}
use Rattle.storage_relation.proofs.Holders.{eqb-other, eqb-refl}
use Rattle.storage_relation.proofs.Fills.{grows_one}
use Rattle.storage_relation.proofs.Numbering.{template_is, template_itself}
use Rattle.storage_relation.proofs.Signatures.{extends_kept, kept_template, template_same}
use Rattle.storage_relation.specs.Stored.{Extends}
use Rattle.activation_relation.specs.Frames.{frame_under, upper_top}
use Rattle.activation_relation.specs.Layers.{Point, now, services_of}
use Rattle.activation_relation.specs.Points.{Stands, Surroundings}
use Rattle.activation_relation.specs.Remaining.{LivesOn, Remains}
use Rattle.activation_relation.specs.ServiceLaws.{at_point}
use Rattle.activation_relation.proofs.Returning.{later_then}
use Rattle.pli_meaning.specs.StorageState.{Living, living_of}
use Rattle.run_steps.specs.Bodies.{Ground, Known}
use Rattle.run_steps.proofs.Bodies.{zero_is}
use Rattle.run_steps.specs.Calls.{Calling}
use Rattle.run_steps.proofs.Calls.{call_done, called}
use Rattle.run_steps.specs.Engine.{Base}
use Rattle.run_steps.specs.Items.{At, Linked}
use Rattle.run_steps.proofs.Items.{straight}
use Rattle.run_steps.proofs.Jumps.{back_of, front_of}
use Rattle.run_steps.specs.Reach.{Family, Reach, reached}
use Rattle.run_steps.proofs.Reach.{reach_map, reach_then, reached_holds}
use Rattle.run_steps.proofs.Reaching.{reach_moved}
use Rattle.block_runs.specs.Machines.{IsImage, IsIn}
use Rattle.block_runs.proofs.BlockEntries.{small_is}
use Rattle.block_runs.proofs.Places.{IsFrame, ground_at}
use Rattle.block_runs.proofs.PointGrounds.{StandsIn, call_is, in_known, known_in, point_frame, point_ground}
use Rattle.program_runs.specs.Statements.{Block, IsAmong}
use Rattle.extent_runs.specs.Signatures.{Filling, HasList, IsAsked, IsFilled, IsFilling, MayFill, filled_point}
use Rattle.extent_runs.specs.Signatures.{filling_code}

-- ---- numbers are still those of one shape each

shape_cases :
    (t : List Template) (u : Template) (n : ℕ) (s : Shape) → shape_at (t ++ u ∷ []) n ≡ Some s →
    ((shape_at t n ≡ Some s) × (n < length t)) ⊎ ((n ≡ length t) × (shape_of u ≡ Some s))
shape_cases [] u zero s e = inr (refl, e)
shape_cases [] u (suc n) s e = absurd (cc e)
shape_cases (y ∷ t) u zero s e = inl (e, omega arith)
shape_cases (y ∷ t) u (suc n) s e = by (shape_cases t u n s e)
  where
    by :
        ((shape_at t n ≡ Some s) × (n < length t)) ⊎ ((n ≡ length t) × (shape_of u ≡ Some s)) →
        ((shape_at t n ≡ Some s) × (suc n < suc (length t))) ⊎ ((suc n ≡ suc (length t)) × (shape_of u ≡ Some s))
    by (inl h) = let l = h.1 in inl (h.0, omega (arith, l))
    by (inr h) = inr (ap (λ k. suc k) h.0, h.1)

turned : (a b : Template) → same_template a b ≡ false → same_template b a ≡ false
turned a b e = by (same_template b a) refl
  where
    by : (q : Bool) → same_template b a ≡ q → q ≡ false
    by false f = refl
    by true f = let g = template_is b a f in absurd (cc (sym e ∙ (ap (λ x. same_template a x) g ∙ template_itself a)))

-- a template that isn't there yet has no shape of those that are
none_like :
    (place : ℕ) (u : Template) (t : List Template) (n : ℕ) (s v : Shape) →
    number_from place u t ≡ place + length t → shape_at t n ≡ Some s → shape_of u ≡ Some v →
    (same_shape s v ≡ false) × (same_shape v s ≡ false)
none_like place u [] n s v e f g = absurd (cc f)
none_like place u (y ∷ t) n s v e f g =
    by (same_template y u) refl e n f (λ h m i. none_like (suc place) u t m s v h i g)
  where
    by :
        (q : Bool) → same_template y u ≡ q → cond q place (number_from (suc place) u t) ≡ place + suc (length t) →
        (n : ℕ) → shape_at (y ∷ t) n ≡ Some s →
        (number_from (suc place) u t ≡ suc place + length t → (m : ℕ) → shape_at t m ≡ Some s →
        (same_shape s v ≡ false) × (same_shape v s ≡ false)) →
        (same_shape s v ≡ false) × (same_shape v s ≡ false)
    by true q e n f rest = absurd (omega (arith, e))
    by false q e zero f rest = (template_same y u s v f g ∙ q, template_same u y v s g f ∙ turned y u q)
    by false q e (suc n) f rest = rest (omega (arith, e)) n f

distinct_more : (u : Template) (t : List Template) → AreDistinct t → AreDistinct (with_template u t)
distinct_more u t distinct = by (cases_eq (number_of u t) (length t))
  where
    fresh : number_of u t ≡ length t → AreDistinct (t ++ u ∷ [])
    fresh e i j a b f g = cases (shape_cases t u i a f) (shape_cases t u j b g)
      where
        new : number_from 0 u t ≡ 0 + length t
        new = let z : 0 + length t ≡ length t = omega arith in e ∙ sym z

        cases :
            ((shape_at t i ≡ Some a) × (i < length t)) ⊎ ((i ≡ length t) × (shape_of u ≡ Some a)) →
            ((shape_at t j ≡ Some b) × (j < length t)) ⊎ ((j ≡ length t) × (shape_of u ≡ Some b)) →
            same_shape a b ≡ (i == j)
        cases (inl h) (inl k) = distinct i j a b h.0 k.0
        cases (inl h) (inr k) =
            let l = h.1 in
            let m = k.0 in
            (none_like 0 u t i a b new h.0 k.1).0 ∙ sym (eqb-other i j (omega (arith, l, m)))
        cases (inr h) (inl k) =
            let l = k.1 in
            let m = h.0 in
            (none_like 0 u t j b a new k.0 h.1).1 ∙ sym (eqb-other i j (omega (arith, l, m)))
        cases (inr h) (inr k) =
            let q : (i == j) ≡ true = subst (λ n. (i == n) ≡ true) (h.0 ∙ sym k.0) (eqb-refl i) in
            template_same u u a b h.1 k.1 ∙ template_itself u ∙ sym q

    by : (number_of u t ≡ length t) ⊎ (number_of u t ≢ length t) → AreDistinct (with_template u t)
    by (inl e) =
        let q : (number_of u t == length t) ≡ true = subst (λ n. (number_of u t == n) ≡ true) e
        (eqb-refl (number_of u t)) in
        subst (λ r. AreDistinct (cond r (t ++ u ∷ []) t)) (sym q) (fresh e)
    by (inr ne) =
        subst (λ r. AreDistinct (cond r (t ++ u ∷ []) t)) (sym (eqb-other (number_of u t) (length t) ne)) distinct

-- ---- the point

more_extends : (u : Template) (t : List Template) → Extends t (with_template u t)
more_extends u t = extends_kept t (with_template u t) (kept_template u t)

pub filled_stands :
    (w : Surroundings) (code : List Instr) (p : Point) (u : Template) → Stands w p × IsImage w code p →
    Stands w (filled_point u p) × IsImage w code (filled_point u p)
filled_stands w code p u known =
    let s = known.0 in
    let image = known.1 in (
      record {
        active = s.active;
        laid = s.laid;
        low = s.low;
        lives = record {
          falling = s.lives.falling;
          numbered = λ n l e.
              more_extends u p.places.signatures (p.places.number n) l.generation.shape (s.lives.numbered n l e);
          extents = s.lives.extents;
        };
        owned = record { living = s.owned.living; heap = s.owned.heap; constants = s.owned.constants };
        over = s.over;
        running = s.running;
        allowed = s.allowed;
      },
      record { keeper = image.keeper; layout = image.layout; parts = image.parts; even = image.even },
    )

filled_holds : (p : Point) (u : Template) (m : List ℕ) → Holds (now p m) → Holds (now (filled_point u p) m)
filled_holds p u m h =
    let t = p.places.signatures in
    let new = table_holds (now p m) h (with_template u t) (more_extends u t) (distinct_more u t h.distinct) in
    record {
      keeps = new.keeps;
      heap = record { at = new.heap.at; capacity = new.heap.capacity };
      lives = new.lives;
      stored = new.stored;
      distinct = new.distinct;
    }

pub filled_remains : (p : Point) (u : Template) → MayFill p u → Remains p (filled_point u p)
filled_remains p u may =
    record {
      living = λ n l e. lives_same l (living_of p.state.living n) e;
      serials = omega arith;
      at = λ n few. refl;
      number = λ n few. refl;
      signatures = grows_one p.places.fills u p.places.signatures may;
      statics = refl;
      low = refl;
      constants = refl;
      active = omega arith;
      in_use = λ height low. refl;
    }
  where
    lives_same : (l : Living) (o : Option Living) → o ≡ Some l → LivesOn l o
    lives_same l o e = record { there = l; lives = e; owner = refl; shape = refl }

pub filled_among :
    (k : Block) (numbers : ℕ → ℕ) (p : Point) (u : Template) → IsAmong k numbers p → MayFill p u →
    IsAmong k numbers (filled_point u p)
filled_among k numbers p u o may =
    let known = filled_stands k.call.surroundings k.call.code p u (o.stands, o.image) in
    record {
      stands = known.0;
      image = known.1;
      later = later_then k.first p (filled_point u p) o.later
          (record {
            activations = refl;
            layers = refl;
            edits = refl;
            waiting = refl;
            acts = omega arith;
            remains = filled_remains p u may;
          });
      few = o.few;
      entries = o.entries;
      others = o.others;
      words = o.words;
    }

-- ---- the answer

answered :
    (p : Point) (x : Filling) (m : List ℕ) → IsFilling p x → HasList p x m →
    signature_served (at_point p m) x.number x.at x.lower x.upper
    ≡ Done (services_of (filled_point x.template p)) m (number_of x.template p.places.signatures)
    (reserved_for p.keeper (shape_of x.template))
answered p x m is list =
    let c = at_point p m in
    let t = p.places.signatures in
    ap (λ o. or_bad o (λ ps. or_bad (filled (bounds_given x.lower x.upper) ps (slice_get t x.number))
    (λ u. numbered c u))) list
    ∙ ap (λ o. or_bad o (λ u. numbered c u)) is.filled
    ∙ ap (λ q. bad_unless q (Done (services_of (filled_point x.template p)) m
    (number_of x.template t) (reserved_for p.keeper (shape_of x.template)))) is.few

-- ---- the code

-- the list stands in memory while the service is asked
abbrev pub list_ground :
    (w : Surroundings) (p : Point) → Filling → IsFrame (frame_under w.parts p.control.layers) → Ground
list_ground w p x h =
    ground_at (frame_under w.parts p.control.layers) (upper_top w.parts p.control.layers) h
    (λ b m. StandsIn w p b m × HasList p x m)

abbrev given_regs : Filling → Base → List (ℕ × ℕ)
given_regs x b = (10, x.number) ∷ (12, x.lower) ∷ (13, x.upper) ∷ []

abbrev asked_regs : Filling → Base → List (ℕ × ℕ)
asked_regs x b = (17, 3) ∷ (11, x.at) ∷ given_regs x b

abbrev answer_regs : Point → Filling → Base → List (ℕ × ℕ)
answer_regs p x b =
    (10, number_of x.template p.places.signatures) ∷ (11, reserved_for p.keeper (shape_of x.template)) ∷ []

asking :
    {w : Surroundings} {code : List Instr} {p : Point} {numbers : ℕ → ℕ} {index : ℕ} (x : Filling) (places : Datum)
    (c : ℕ) (f : Family) (h : IsFrame (frame_under w.parts p.control.layers)) →
    (place_of w.links (DataPlace places) ≡ x.at) × (x.at < 2 ^ 32) →
    Linked w.links code index (OffsetOf a1 (DataPlace places) ∷ small a7 3 ∷ []) →
    ((b : Base) → IsIn w p numbers index b (f b) × IsAsked p x (f b)) →
    Reach code c f (services_of p) (c + 3) (services_of p)
    (λ b y. At b (index + 3) (Known (list_ground w p x h) (services_of p) numbers (λ n. 0) (asked_regs x) b) y)
asking {w} {p = p} {numbers = numbers} x places c f h place l there =
    let v = services_of p in
    let less = place.1 in
    let same = place.0 in
    let at = x.at in
    straight c f v v (λ b y. Known (list_ground w p x h) v numbers (λ n. 0) (asked_regs x) b y) l (omega arith)
    (λ b. (there b).0.at.pc)
    (λ b.
    let a = (there b).1 in
    let o = (known_in {t = λ n. 0} {rs = given_regs x} h (there b).0 (a.number, (a.lower, (a.upper, tt)))).holds in (
      omega (arith, same, less),
      refl,
      record {
        body = record {
          services = o.body.services;
          registers = o.body.registers;
          bytes = o.body.bytes;
          memory = (o.body.memory, a.list);
        };
        regs = (small_is _ 3 (zero_is o.body) (omega arith), (same, o.regs));
      },
    ))

calling :
    {w : Surroundings} {code : List Instr} {p : Point} {numbers : ℕ → ℕ} {i : ℕ} (x : Filling) (f : Family)
    (h : IsFrame (frame_under w.parts p.control.layers)) → IsImage w code p → IsFilling p x →
    Linked w.links code i (Plain I.Ecall ∷ []) →
    ((b : Base) →
    At b i (Known (list_ground w p x h) (services_of p) numbers (λ n. 0) (asked_regs x) b) (f b)) →
    Calling w.links code i f
    (λ b. Done (services_of (filled_point x.template p)) (f b).machine.memory
    (number_of x.template p.places.signatures) (reserved_for p.keeper (shape_of x.template)))
calling {w} {code} {p} x f h image is l there =
    let v = services_of p in
    record {
      linked = l;
      pc = λ b. (there b).pc;
      answers = λ b.
          let o = (there b).holds in
          let m = (f b).machine.memory in
          let y = (f b).machine.registers in
          called code (f b) v 3 x.number x.at x.lower x.upper (y 14)
          (λ call x0 x1 x2 x3 x4. signature_served call x0 x1 x2 x3) o.body.services o.regs.0 o.regs.1.1.0 o.regs.1.0
          o.regs.1.1.1.0 o.regs.1.1.1.1.0 refl (λ call z. refl)
          ∙ ap (λ call. signature_served call x.number x.at x.lower x.upper) (call_is w code p m image)
          ∙ answered p x m is o.body.memory.1;
    }

pub filled_comes :
    (w : Surroundings) (code : List Instr) (p : Point) (numbers : ℕ → ℕ) (x : Filling) (places : Datum)
    (c index : ℕ) (f : Family) → Stands w p × IsImage w code p → IsFilling p x →
    (place_of w.links (DataPlace places) ≡ x.at) × (x.at < 2 ^ 32) →
    Linked w.links code index (filling_code places) →
    ((b : Base) → IsIn w p numbers index b (f b) × IsAsked p x (f b)) →
    Reach code c f (services_of p) (c + size_of (filling_code places)) (services_of (filled_point x.template p))
    (λ b y. IsIn w (filled_point x.template p) numbers (index + size_of (filling_code places)) b y × IsFilled p x y)
filled_comes w code p numbers x places c index f known is place l there =
    let h = point_frame known.0 known.1 in
    let q = filled_point x.template p in
    let v = services_of p in
    let v' = services_of q in
    let front = OffsetOf a1 (DataPlace places) ∷ small a7 3 ∷ [] in
    let r1 = asking x places c f h place (front_of front (Plain I.Ecall ∷ []) l) there in
    let g = reached r1 in
    let number = number_of x.template p.places.signatures in
    let bytes = reserved_for p.keeper (shape_of x.template) in
    let r2 = call_done (c + 3) g v v' (λ b. (g b).machine.memory) (λ b. number) (λ b. bytes)
    (λ b y. Known (point_ground w q h) v' numbers (λ n. 0) (answer_regs p x) b y) (omega arith)
    (calling x g h known.1 is (back_of front (Plain I.Ecall ∷ []) l) (reached_holds r1))
    (λ b. let o = (reached_holds r1 b).holds in record {
      body = record {
        services = refl;
        registers = o.body.registers;
        bytes = o.body.bytes;
        memory = record {
          storage = filled_holds p x.template (g b).machine.memory o.body.memory.0.storage;
          frames = o.body.memory.0.frames;
        };
      };
      regs = (refl, (refl, tt));
    }) in
    reach_map _ (reach_moved (omega arith) (omega arith) (reach_then r1 r2))
    (λ b y o. (in_known h known.1.parts o, record { number = o.holds.regs.0; bytes = o.holds.regs.1.0 }))
