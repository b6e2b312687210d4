-- An upper bound is evaluated and tested.
use Rattle.std.proofs.Common.{◌≡◌, ℕ, ◌+◌, ◌^◌, ◌<◌, ◌≤◌, List, [], ◌∷◌, ◌++◌, Bool, true, false, refl, sym, ap, ◌∙◌}
use Rattle.std.proofs.Common.{subst, arith, lit<}
use Rattle.std.proofs.lemmas.Bool.Decides.{nat_tests}
use Rattle.std.proofs.lemmas.Int.{ints}
use Rattle.std.specs.Prelude.{ℤ, pos, int_le, int_lt, if◌then◌else◌}
use Rattle.rv_meaning.specs.declared.instr.BranchTest.TheVariants as Test
use Rattle.rv_meaning.specs.Machine.{value}
use Rattle.rv_meaning.specs.Words.{signed, sum, word}
use Rattle.pli_language.specs.declared.condition.Condition.TheVariants as C
use Rattle.pli_meaning.specs.Codes.{extent_code}
use Rattle.pli_meaning.specs.Control.{Label, Meaning, choose, give, ◌>>=◌, ◌>>◌}
use Rattle.pli_meaning.specs.Evaluating.{number}
use Rattle.pli_meaning.specs.Making as K
use Rattle.pli_meaning.specs.Raising as R
use Rattle.pli_meaning.specs.StorageState.{force}
use Rattle.pli_serving.specs.ServiceState.{Services}
use Rattle.pli_coding.specs.Assembly.{Code, JumpTo, RaiseError, size_of}
use Rattle.pli_coding.specs.Environments.{none_taken, with_words}
use Rattle.pli_coding.specs.Expressions.{number_code}
use Rattle.pli_coding.specs.Extents.{extent_words}
use Rattle.pli_coding.specs.Instructions.{constant, error_raised, move, skip_where, small}
use Rattle.pli_coding.specs.Registers.{a0, a1, a2, a3}
use Rattle.storage_relation.proofs.Values.{signed_word}
use Rattle.activation_relation.specs.Frames.{frame_under}
use Rattle.activation_relation.specs.Layers.{Point, services_of}
use Rattle.activation_relation.specs.Points.{Surroundings}
use Rattle.activation_relation.specs.ServiceLaws.{IsSystem}
use Rattle.run_steps.specs.Bodies.{Known}
use Rattle.run_steps.proofs.Bodies.{constant_piece, zero_is}
use Rattle.run_steps.specs.Engine.{Base, address}
use Rattle.run_steps.specs.Items.{At, Linked}
use Rattle.run_steps.proofs.Items.{straight}
use Rattle.run_steps.proofs.Jumps.{back_of, front_of, jump_piece, rest_of, skip_passed, skip_taken}
use Rattle.run_steps.proofs.Linking.{size_append}
use Rattle.run_steps.specs.Numbers.{IsWide}
use Rattle.run_steps.proofs.Numbers.{word_small}
use Rattle.run_steps.specs.Reach.{Aims, Closed, Comes, Family, before, cost}
use Rattle.run_steps.proofs.Reach.{before_closed, comes_on, onward, reach_then, reach_with, stay}
use Rattle.run_steps.specs.Temporaries.{nothing}
use Rattle.block_runs.specs.Machines.{AreIn, IsIn}
use Rattle.block_runs.proofs.CallStatements.{comes_map}
use Rattle.block_runs.proofs.Places.{IsFrame}
use Rattle.block_runs.proofs.PointGrounds.{in_known, known_in, point_frame, point_ground}
use Rattle.program_runs.specs.Statements.{Block, IsAmong}
use Rattle.program_runs.proofs.JumpsOut.{jumps_later, jumps_since}
use Rattle.expression_runs.specs.Laws as L
use Rattle.expression_runs.specs.Values.{HasRegisters, Setting, Stretch, behind, number_aims}
use Rattle.expression_runs.proofs.Raises.{coded, error_comes}
use Rattle.expression_runs.proofs.Words.{valued}
use Rattle.element_runs.specs.Subscripts.{IsUncaught, error_aims}
use Rattle.element_runs.proofs.Outside.{error_closed}
use Rattle.element_runs.proofs.SubscriptTests.{Jumps}
use Rattle.extent_runs.specs.Extents.{Extent, ExtentComes, bounded_code, evaluation_of, extent_aims, tested_code}

-- ---- the test

turned_test : (l z : ℤ) → (if int_lt z l then false else true) ≡ int_le l z
turned_test l z = grind (arith, nat_tests, ints)

test_is :
    (l z : ℤ) → IsWide l → IsWide z →
    (if int_lt (signed (word z)) (signed (word l)) then false else true) ≡ int_le l z
test_is l z wl wz =
    ap (λ u. if int_lt u (signed (word l)) then false else true) (signed_word z wz)
    ∙ ap (λ u. if int_lt z u then false else true) (signed_word l wl)
    ∙ turned_test l z

sum_zero : (y x : ℕ) → y ≡ x → x < 2 ^ 32 → sum y (word (pos 0)) ≡ x
sum_zero y x e h = omega (arith, e, h)

-- both bounds, the upper one first
abbrev both_regs : (lower upper : ℤ) → Base → List (ℕ × ℕ)
both_regs lower upper b = (13, word upper) ∷ (12, word lower) ∷ []

abbrev lower_regs : (lower upper : ℤ) → Base → List (ℕ × ℕ)
lower_regs lower upper b = (12, word lower) ∷ (10, word upper) ∷ []

-- a value in a0 is tested against the lower bound, or ERROR comes
tested_does :
    (k : Setting) (x : Extent) (q : Point) (numbers : ℕ → ℕ) (i : ℕ) (aims : Aims (Unit {0})) → ExtentComes k →
    Closed k.block.call.code aims → Jumps k q.state.world.acts aims → IsAmong k.block numbers q →
    q.control.line ≡ k.around.line → IsWide x.lower → (c : ℕ) (f : Family) (z : ℤ) → IsWide z →
    Linked k.block.call.surroundings.links k.block.call.code i (tested_code x) →
    c + size_of (tested_code x) + k.most ≤ cost k.block.call.code →
    ((b : Base) → IsIn k.block.call.surroundings q numbers i b (f b) × (value (f b).machine a0 ≡ word z)) →
    (int_le x.lower z ≡ true → (g : Family) →
    ((b : Base) → IsIn k.block.call.surroundings q numbers (i + size_of (tested_code x)) b (g b)
    × (value (g b).machine a2 ≡ word x.lower) × (value (g b).machine a3 ≡ word z)) →
    aims.done (c + size_of (tested_code x)) g (services_of q) tt q.state) →
    Comes k.block.call.code c f (services_of q) aims
    (R.demanded k.around extent_code (int_le x.lower z) k.block.call.surroundings.acts q.state)
unfolding R.demanded choose give
tested_does k x q numbers i aims outside closed jumps o line wl c f z wz l paid there next' =
    let h = point_frame o.stands o.image in
    let n0 = size_append first (one ++ last) in
    let n1 = size_append one last in
    let l1 = back_of first (one ++ last) l in
    onward closed
    (constant_piece {rs = valued (word z)} c f a2 x.lower (word_small x.lower wl)
    (record { reserved_stay = λ y u. refl; known_stay = λ b y u p. p; set = λ y u. refl })
    (front_of first (one ++ last) l)
    (λ b. known_in {t = λ n. 0} {rs = valued (word z)} h (there b).0 ((there b).1, tt)))
    (λ f1 at1.
    onward closed
    (straight (c + size_of first) f1 v v
    (λ b y. Known (point_ground w q h) v numbers (λ n. 0) (both_regs x.lower z) b y) (front_of one last l1)
    (omega arith) (λ b. (at1 b).pc)
    (λ b. let o' = (at1 b).holds in record {
      body = record {
        services = o'.body.services;
        registers = o'.body.registers;
        bytes = o'.body.bytes;
        memory = o'.body.memory;
      };
      regs = (sum_zero _ (word z) o'.regs.1.0 (word_small z wz), (o'.regs.0, tt));
    }))
    (λ f2 at2.
    by (int_le x.lower z) refl h f2 (back_of one last l1) (omega (arith, n0, n1)) (omega (arith, paid, n0, n1))
    (omega (arith, n0, n1)) at2))
  where
    w : Surroundings
    w = k.block.call.surroundings

    v : Services
    v = services_of q

    first : Code
    first = constant a2 x.lower

    one : Code
    one = move a3 a0 ∷ []

    last : Code
    last = skip_where Test.GreaterOrEqual a3 a2 (error_raised extent_code)

    j : ℕ
    j = i + size_of first + 1

    d : ℕ
    d = c + size_of first + 1

    tests :
        (r : Bool) → int_le x.lower z ≡ r → (h : IsFrame (frame_under w.parts q.control.layers)) (f2 : Family) →
        ((b : Base) → At b j (Known (point_ground w q h) v numbers (λ n. 0) (both_regs x.lower z) b) (f2 b)) →
        (b : Base) →
        (if int_lt (signed ((f2 b).machine.registers 13)) (signed ((f2 b).machine.registers 12)) then false else true)
        ≡ r
    tests r e h f2 at2 b =
        let o' = (at2 b).holds.regs in
        ap (λ u. if int_lt (signed u) (signed ((f2 b).machine.registers 12)) then false else true) o'.0
        ∙ ap (λ u. if int_lt (signed (word z)) (signed u) then false else true) o'.1.0
        ∙ test_is x.lower z wl wz ∙ e

    by :
        (r : Bool) → int_le x.lower z ≡ r → (h : IsFrame (frame_under w.parts q.control.layers)) (f2 : Family) →
        Linked w.links k.block.call.code j last → i + size_of (tested_code x) ≡ j + 4 →
        d + 4 + k.most ≤ cost k.block.call.code → c + size_of (tested_code x) ≡ d + 4 →
        ((b : Base) → At b j (Known (point_ground w q h) v numbers (λ n. 0) (both_regs x.lower z) b) (f2 b)) →
        Comes k.block.call.code d f2 v aims (R.demanded k.around extent_code r w.acts q.state)
    by true e h f2 l' place paid' size at2 =
        onward closed (skip_taken d f2 Test.GreaterOrEqual a3 a2 (error_raised extent_code) l' at2
        (tests true e h f2 at2)) (λ f3 at3. record {
          to = λ early.
              subst (λ n. aims.done n f3 v tt q.state) size
              (next' e f3 (λ b.
              let is : At b (i + size_of (tested_code x)) (Known (point_ground w q h) v numbers (λ n. 0)
              (both_regs x.lower z) b) (f3 b) =
              record { pc = (at3 b).pc ∙ ap (address b) (sym place); holds = (at3 b).holds } in
              (in_known h o.image.parts is, is.holds.regs.1.0, is.holds.regs.0)));
        })
    by false e h f2 l' place paid' size at2 =
        onward closed (skip_passed d f2 Test.GreaterOrEqual a3 a2 (error_raised extent_code) l' at2
        (tests false e h f2 at2)) (λ f3 at3.
        comes_map (error_aims k.block k.labels q.state.world.acts) aims jumps.0
        (R.error {R = Unit {0}} k.around extent_code w.acts q.state)
        (λ c' f' v' u s g. absurd g) jumps.1 (λ c' f' v' u s g. absurd g)
        (outside q numbers (d + 1) (j + 1) f3 o line (rest_of _ (error_raised extent_code) l')
        (omega (arith, paid')) (λ b. in_known h o.image.parts (at3 b))))

-- ---- where nothing catches it

small_is : (z n : ℕ) → z ≡ 0 → n < 2 ^ 32 → sum z n ≡ n
small_is z n e h = omega (arith, e, h)

pub extents_end : (k : Setting) → IsUncaught k → ExtentComes k
extents_end k is p numbers c index f o line l paid there =
    let w = k.block.call.surroundings in
    let v = services_of p in
    let h = point_frame o.stands o.image in
    let g = point_ground w p h in
    let front = small a1 107 ∷ [] in
    let last = JumpTo RaiseError ∷ [] in
    let l1 = back_of front last l in
    let routines = is.routines in
    let far = routines.linked.inside in
    let near = routines.linked.small' in
    let most = is.most in
    let closed = error_closed k.block k.labels p.state.world.acts in
    let at : (b : Base) → At b index (Known g v numbers (λ j. 0) nothing b) (f b) = λ b. known_in h (there b) tt in
    let r = straight c f v v (λ b. Known g v numbers (λ j. 0) (coded 107) b) (front_of front last l) (omega arith)
    (λ b. (at b).pc)
    (λ b. let o' = (at b).holds in record {
      body = record {
        services = o'.body.services;
        registers = o'.body.registers;
        bytes = o'.body.bytes;
        memory = o'.body.memory;
      };
      regs = (small_is _ 107 (zero_is o'.body) (lit< tt), tt);
    }) in
    onward closed r (λ f1 at1.
    let q = jump_piece (c + 1) (c + 1 + 2) f1 RaiseError (routines.at + 8) (omega arith) is.place
    (omega (arith, far, near))
    (record { reserved_stay = λ y u. refl; known_stay = λ b y u n. n; set = λ y u. refl }) l1 at1 in
    onward closed q (λ f2 at2.
    error_comes closed routines (c + 1 + 2) f2 k.around 107 h (o.stands, o.image) (lit< tt)
    (omega (arith, paid, most), is.acts) line
    (subst (λ xs. IsSystem (force xs C.Error)) (sym o.later.activations) is.error) at2))

-- ---- the extent

pub extent_closed :
    (k : Block) (labels : List Label) (x : Stretch) (lower : ℤ) → Closed k.call.code (extent_aims k labels x lower)
extent_closed k labels x lower =
    record {
      done = λ r values s o.
          let a = o.4 in (
            o.0,
            o.1,
            o.2,
            o.3,
            record {
              point = a.point;
              numbers = a.numbers;
              among = a.among;
              since = a.since;
              line = a.line;
              state = a.state;
              reach = reach_then r a.reach;
            },
          );
      jumped = λ r height label s o. jumps_later r o;
      returned = λ r values s o. absurd o;
    }

-- the values so far, once one is there
abbrev behind_value : Setting → Extent → ℤ → Meaning (List ℤ)
behind_value k x z =
    R.demanded k.around extent_code (int_le x.lower z) >> K.evaluations k.around (z ∷ []) []

value_goes :
    (k : Setting) (x : Extent) (p q : Point) (numbers held : ℕ → ℕ) (credits index : ℕ) (f : Family) (z : ℤ) →
    ExtentComes k → IsWide x.lower → IsWide z → IsAmong k.block held q →
    (p.state.world.acts ≤ q.state.world.acts) × (p.control.line ≡ k.around.line)
    × (q.control.line ≡ p.control.line) →
    Linked k.block.call.surroundings.links k.block.call.code
    (index + size_of (number_code k.block.environment (with_words extent_words none_taken) x.value)) (tested_code x) →
    credits + size_of (bounded_code k x) + k.most ≤ cost k.block.call.code →
    ((b : Base) → IsIn k.block.call.surroundings q held
    (index + size_of (number_code k.block.environment (with_words extent_words none_taken) x.value)) b (f b)
    × (value (f b).machine a0 ≡ word z)) →
    Comes k.block.call.code
    (credits + size_of (number_code k.block.environment (with_words extent_words none_taken) x.value)) f
    (services_of q)
    (extent_aims k.block k.labels (behind p numbers 0 credits index (bounded_code k x)) x.lower)
    (behind_value k x z k.block.call.surroundings.acts q.state)
unfolding ◌>>◌ K.evaluations give
value_goes k x p q numbers held credits index f z outside wl wz o since l paid there =
    let code = k.block.call.code in
    let acts = k.block.call.surroundings.acts in
    let part = number_code k.block.environment (with_words extent_words none_taken) x.value in
    let n = size_append part (tested_code x) in
    let later = since.0 in
    let stretch = behind p numbers 0 credits index (bounded_code k x) in
    let aims = extent_aims k.block k.labels stretch x.lower in
    let closed = extent_closed k.block k.labels stretch x.lower in
    let next' : Unit {0} → Meaning (List ℤ) = λ u. K.evaluations k.around (z ∷ []) [] in
    comes_on acts (R.demanded k.around extent_code (int_le x.lower z) acts q.state) next'
    (tested_does k x q held (index + size_of part) (before code aims acts next') outside
    (before_closed acts next' closed)
    (refl, λ c' f' v' height label s g. jumps_since {k = k.block} later g) o (since.2 ∙ since.1) wl
    (credits + size_of part) f z wz l (omega (arith, paid, n)) there
    (λ e g at. record {
      to = λ early. (
        z,
        refl,
        wz,
        e,
        record {
          point = q;
          numbers = held;
          among = o;
          since = later;
          line = since.2;
          state = refl;
          reach = reach_with (credits + size_of (bounded_code k x)) (omega (arith, n))
              (stay code (credits + size_of part + size_of (tested_code x)) g (services_of q)
              (λ b y. IsIn k.block.call.surroundings q held (index + size_of (bounded_code k x)) b y
              × (value y.machine a2 ≡ word x.lower) × (value y.machine a3 ≡ word z))
              (λ b. (
                subst (λ i. IsIn k.block.call.surroundings q held i b (g b)) (omega (arith, n)) (at b).0,
                (at b).1,
                (at b).2,
              )));
        },
      );
    }))

pub extents_do :
    (k : Setting) (x : Extent) → k.words ≡ extent_words → IsWide x.lower → ExtentComes k → L.Does k x.need x.value →
    (p : Point) (numbers : ℕ → ℕ) (credits index : ℕ) (f : Family) → IsAmong k.block numbers p →
    p.control.line ≡ k.around.line → HasRegisters k 0 x.need →
    Linked k.block.call.surroundings.links k.block.call.code index (bounded_code k x) →
    credits + size_of (bounded_code k x) + k.most ≤ cost k.block.call.code →
    AreIn k.block.call.surroundings p numbers index f →
    Comes k.block.call.code credits f (services_of p)
    (extent_aims k.block k.labels (behind p numbers 0 credits index (bounded_code k x)) x.lower)
    (K.evaluations k.around [] (evaluation_of x ∷ []) k.block.call.surroundings.acts p.state)
unfolding ◌>>=◌ ◌>>◌ K.evaluations
extents_do k x words wl outside does p numbers credits index f o line few l paid there =
    let code = k.block.call.code in
    let acts = k.block.call.surroundings.acts in
    let part = number_code k.block.environment (with_words extent_words none_taken) x.value in
    let n = size_append part (tested_code x) in
    let stretch = behind p numbers 0 credits index (bounded_code k x) in
    let aims = extent_aims k.block k.labels stretch x.lower in
    let closed = extent_closed k.block k.labels stretch x.lower in
    let next' : ℤ → Meaning (List ℤ) = λ z. behind_value k x z in
    let flow = number k.around x.value acts p.state in
    let value' = subst (λ m. (credits + size_of (part_of m) + k.most ≤ cost code) →
    Linked k.block.call.surroundings.links code index (part_of m) →
    Comes code credits f (services_of p) (number_aims k.block k.labels (behind p numbers 0 credits index (part_of m)))
    flow) words (λ paid' l'. does p numbers 0 credits index f o line few l' paid' there) in
    comes_on acts flow next'
    (comes_map (number_aims k.block k.labels (behind p numbers 0 credits index part)) (before code aims acts next')
    refl flow
    (λ c' f' v' z s g.
    let a = g.1 in
    onward closed a.reach (λ f2 at2.
    subst (λ s'. Comes code (credits + size_of part) f2 (services_of a.point) aims (behind_value k x z acts s'))
    (sym a.state)
    (value_goes k x p a.point numbers a.numbers credits index f2 z outside wl g.0 a.among (a.since, line, a.line)
    (back_of part (tested_code x) l) paid at2)))
    (λ c' f' v' height label s g. g)
    (λ c' f' v' r s g. absurd g)
    (value' (omega (arith, paid, n)) (front_of part (tested_code x) l)))
  where
    part_of : ℕ → Code
    part_of m = number_code k.block.environment (record { registers = 0; words = m }) x.value
