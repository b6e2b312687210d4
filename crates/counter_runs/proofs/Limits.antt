-- The test of a limit that waits in a word of the frame: the value in a0 has passed it, or not.
use Rattle.std.proofs.Common.{◌≡◌, ℕ, ◌+◌, ◌^◌, ◌<◌, ◌≤◌, List, [], ◌∷◌, length, Some, Bool, true, false}
use Rattle.std.proofs.Common.{refl, sym, ap, ◌∙◌, subst, arith}
use Rattle.std.proofs.lemmas.Bool.Decides.{nat_tests}
use Rattle.std.proofs.lemmas.Int.{ints}
use Rattle.std.specs.Prelude.{ℤ, pos, negsuc, not, nat_lt, nat_le, int_lt, int_le, if◌then◌else◌}
use Rattle.rv_meaning.specs.declared.instr.BranchTest.TheVariants as Test
use Rattle.rv_meaning.specs.declared.instr.Instr.{Instr}
use Rattle.rv_meaning.specs.declared.instr.Register.{Register}
use Rattle.rv_meaning.specs.Words.{word, signed}
use Rattle.pli_meaning.specs.Control.{Meaning, choose}
use Rattle.pli_meaning.specs.Executing.{has_not_passed}
use Rattle.pli_meaning.specs.StorageState.{State}
use Rattle.pli_coding.specs.Assembly.{JumpAhead, size_of}
use Rattle.pli_coding.specs.Frames.{words_place}
use Rattle.pli_coding.specs.Instructions.{load_word, skip_where, store_word}
use Rattle.pli_coding.specs.Linking.{Links}
use Rattle.pli_coding.specs.Registers.{a0, frame_register, u1}
use Rattle.pli_coding.specs.Statements.{limit_place, limit_tested, passed, start_place}
use Rattle.pli_serving.specs.ServiceState.{Services}
use Rattle.activation_relation.specs.Layers.{Layer, Point, services_of}
use Rattle.activation_relation.specs.Points.{Surroundings}
use Rattle.run_steps.specs.Bodies.{Ground, Known}
use Rattle.run_steps.specs.Engine.{Base, address}
use Rattle.run_steps.specs.Items.{At, Linked}
use Rattle.run_steps.proofs.Jumps.{ahead_piece, back_of, front_of, rest_of, skip_passed, skip_taken}
use Rattle.run_steps.specs.Numbers.{IsWide}
use Rattle.run_steps.specs.Reach.{Aims, Closed, Comes, Family}
use Rattle.run_steps.proofs.Reach.{onward}
use Rattle.run_steps.specs.Temporaries.{nothing}
use Rattle.pli_headline.proofs.WordProducts.{signed_word}
use Rattle.block_runs.proofs.Places.{IsFrame}
use Rattle.block_runs.proofs.PointGrounds.{point_ground}
use Rattle.run_steps.proofs.Linking.{size_append}
use Rattle.program_runs.specs.Statements.{set_aside}
use Rattle.expression_runs.proofs.Words.{valued}
use Rattle.argument_runs.specs.Lists.{layered}
use Rattle.counter_runs.proofs.Words.{WordAt, word_back}

-- ---- where limit and start stand

pub word_at : (φ : Layer) (n : ℕ) → IsFrame φ.at → n < 2 ^ 16 → WordAt (words_place n 1) n φ
word_at φ n h low =
    let whole = h.whole in
    let high = h.high in
    let room = h.room in
    record {
      small' = omega (arith, ints, low);
      sums = λ b. let v = b.valid.1 in omega (arith, ints, high, room, v, low);
      aligned = omega (arith, whole, high, low);
      inside = omega (arith, room);
      above_code = omega (arith, high, low);
    }

-- how long the code is that stores and loads them
abbrev pub limit_stores : (words : ℕ) → ℕ
limit_stores words = size_of (store_word frame_register a0 (limit_place (set_aside words)))

abbrev pub limit_loads : (words : ℕ) → ℕ
limit_loads words = size_of (load_word u1 frame_register (limit_place (set_aside words)))

abbrev pub start_stores : (words : ℕ) → ℕ
start_stores words = size_of (store_word frame_register a0 (start_place (set_aside words)))

abbrev pub start_loads : (words : ℕ) → ℕ
start_loads words = size_of (load_word a0 frame_register (start_place (set_aside words)))

abbrev pub test_length : (words : ℕ) → ℕ
test_length words = limit_loads words + 3

-- ---- orders

le_not : (a b : ℤ) → int_le a b ≡ not (int_lt b a)
le_not (pos a) (pos b) = by_test a b (nat_le a b) refl
  where
    by_test : (a b : ℕ) (q : Bool) → nat_le a b ≡ q → nat_le a b ≡ not (nat_lt b a)
    by_test a b true e = grind (arith, nat_tests)
    by_test a b false e = grind (arith, nat_tests)
le_not (pos a) (negsuc b) = refl
le_not (negsuc a) (pos b) = refl
le_not (negsuc a) (negsuc b) = by_test b a (nat_le b a) refl
  where
    by_test : (a b : ℕ) (q : Bool) → nat_le a b ≡ q → nat_le a b ≡ not (nat_lt b a)
    by_test a b true e = grind (arith, nat_tests)
    by_test a b false e = grind (arith, nat_tests)

-- whether a value has passed the limit, by the sign of the step
abbrev has_passed : (falls : Bool) → (limit z : ℤ) → Bool
has_passed falls limit z = if falls then int_lt z limit else int_lt limit z

not_passed :
    (falls : Bool) (limit step z : ℤ) → int_lt step (pos 0) ≡ falls →
    has_not_passed limit step z ≡ not (has_passed falls limit z)
not_passed true limit step z e = ap (λ u. if u then int_le limit z else int_le z limit) e ∙ le_not limit z
not_passed false limit step z e = ap (λ u. if u then int_le limit z else int_le z limit) e ∙ le_not z limit

as_not : (p : Bool) → (if p then false else true) ≡ not p
as_not true = refl
as_not false = refl

not_less :
    (x y : ℕ) (a c : ℤ) → x ≡ word a → y ≡ word c → IsWide a → IsWide c →
    (if int_lt (signed x) (signed y) then false else true) ≡ not (int_lt a c)
not_less x y a c e f wa wc =
    ap (λ u. if int_lt (signed u) (signed y) then false else true) e
    ∙ ap (λ u. if int_lt (signed (word a)) (signed u) then false else true) f
    ∙ ap (λ u. if int_lt u (signed (word c)) then false else true) (signed_word a wa)
    ∙ ap (λ u. if int_lt a u then false else true) (signed_word c wc)
    ∙ as_not (int_lt a c)

-- ---- the jump

-- limit and value beside each other
abbrev beside : (limit z : ℤ) → Base → List (ℕ × ℕ)
beside limit z b = (6, word limit) ∷ (10, word z) ∷ []

-- past so many words unless one register is at least another
by_order :
    {R : Type 0} {links : Links} {code : List Instr} {i : ℕ} {g : Ground} {v : Services} {h t : ℕ → ℕ} {rs : Base →
    List (ℕ × ℕ)}
    {aims : Aims R} (s : State) (k : ℕ) (one other : Meaning R) (p : Bool)
    (closed : Closed code aims) (c : ℕ) (f : Family) (r q : Register) (behind : ℕ) → i + 3 + behind ≤ length code →
    Linked links code i (skip_where Test.GreaterOrEqual r q (JumpAhead behind ∷ [])) →
    ((b : Base) → At b i (Known g v h t rs b) (f b)) →
    ((b : Base) →
    (if int_lt (signed ((f b).machine.registers r.index)) (signed ((f b).machine.registers q.index)) then false
    else true) ≡ not p) →
    ((f' : Family) → ((b : Base) → At b (i + 3) (Known g v h t nothing b) (f' b)) →
    Comes code (c + 3) f' v aims (one k s)) →
    ((f' : Family) → ((b : Base) → At b (i + 3 + behind) (Known g v h t nothing b) (f' b)) →
    Comes code (c + 3 + behind) f' v aims (other k s)) → Comes code c f v aims (choose (not p) one other k s)
unfolding choose
by_order s k one other false closed c f r q behind inside l at holds within past' =
    onward closed (skip_taken c f Test.GreaterOrEqual r q (JumpAhead behind ∷ []) l at holds)
    (λ f' at'. within f' (λ b. record { pc = (at' b).pc; holds = record { body = (at' b).holds.body; regs = tt } }))
by_order {code = code} {i = i} {v = v} {aims = aims} s k one other true closed c f r q behind inside l at holds within
    past' =
    let there : i + 1 + (2 + behind) ≡ i + 3 + behind = omega arith in
    let paid : c + 1 + (2 + behind) ≡ c + 3 + behind = omega arith in
    onward closed (skip_passed c f Test.GreaterOrEqual r q (JumpAhead behind ∷ []) l at holds)
    (λ f1 at1.
    onward closed (ahead_piece (c + 1) f1 behind (omega (arith, inside))
    (record { reserved_stay = λ y u. refl; known_stay = λ b y u o. tt; set = λ y u. refl })
    (rest_of _ (JumpAhead behind ∷ []) l)
    (λ b. record { pc = (at1 b).pc; holds = record { body = (at1 b).holds.body; regs = tt } }))
    (λ f2 at2. subst (λ n. Comes code n f2 v aims (other k s)) (sym paid)
    (past' f2 (λ b. record { pc = (at2 b).pc ∙ ap (address b) there; holds = (at2 b).holds }))))

by_direction :
    {R : Type 0} {links : Links} {code : List Instr} {i : ℕ} {g : Ground} {v : Services} {h t : ℕ → ℕ}
    {aims : Aims R} (s : State) (k : ℕ) (one other : Meaning R) (falls : Bool) (closed : Closed code aims) (c : ℕ)
    (f : Family) (limit z : ℤ) (behind : ℕ) → IsWide limit → IsWide z → i + 3 + behind ≤ length code →
    Linked links code i (passed falls behind) → ((b : Base) → At b i (Known g v h t (beside limit z) b) (f b)) →
    ((f' : Family) → ((b : Base) → At b (i + 3) (Known g v h t nothing b) (f' b)) →
    Comes code (c + 3) f' v aims (one k s)) →
    ((f' : Family) → ((b : Base) → At b (i + 3 + behind) (Known g v h t nothing b) (f' b)) →
    Comes code (c + 3 + behind) f' v aims (other k s)) →
    Comes code c f v aims (choose (not (has_passed falls limit z)) one other k s)
by_direction s k one other true closed c f limit z behind wl wz inside l at within past' =
    by_order s k one other (int_lt z limit) closed c f a0 u1 behind inside l at
    (λ b. let o = (at b).holds.regs in not_less _ _ z limit o.1.0 o.0 wz wl) within past'
by_direction s k one other false closed c f limit z behind wl wz inside l at within past' =
    by_order s k one other (int_lt limit z) closed c f u1 a0 behind inside l at
    (λ b. let o = (at b).holds.regs in not_less _ _ limit z o.0 o.1.0 wl wz) within past'

pub passed_size : (falls : Bool) (behind : ℕ) → size_of (passed falls behind) ≡ 3
passed_size true behind = refl
passed_size false behind = refl

-- ---- the value in a0 against the limit in its word

pub limit_size :
    (words : ℕ) (by : ℤ) (behind : ℕ) →
    size_of (limit_tested (set_aside words) (Some by) behind) ≡ test_length words
limit_size words by behind =
    let a = load_word u1 frame_register (limit_place (set_aside words)) in
    size_append a (passed (int_lt by (pos 0)) behind)
    ∙ ap (λ n. size_of a + n) (passed_size (int_lt by (pos 0)) behind)

pub limit_does :
    {R : Type 0} (words : ℕ) → words < 2 ^ 16 → (w : Surroundings) (code : List Instr) (p : Point) (φ : Layer)
    (φs : List Layer) {numbers : ℕ → ℕ} {index : ℕ}
    {aims : Aims R} (closed : Closed code aims) (c : ℕ) (f : Family) (h : IsFrame φ.at)
    (limit by z : ℤ) (behind : ℕ) (s : State) (k : ℕ) (one other : Meaning R) →
    IsWide limit × IsWide z → (words < φ.words) × (φ.waits words ≡ Some (word limit)) →
    Linked w.links code index (limit_tested (set_aside words) (Some by) behind) → index + test_length words + behind
    ≤ length code →
    ((b : Base) → At b index (Known (point_ground w (layered (φ ∷ φs) p) h) (services_of (layered (φ ∷ φs) p)) numbers
    (λ j. 0) (valued (word z)) b) (f b)) →
    ((g : Family) → ((b : Base) → At b (index + test_length words) (Known (point_ground w (layered (φ ∷ φs) p) h)
    (services_of (layered (φ ∷ φs) p)) numbers (λ j. 0) nothing b) (g b)) →
    Comes code (c + test_length words) g (services_of (layered (φ ∷ φs) p)) aims (one k s)) →
    ((g : Family) → ((b : Base) → At b (index + test_length words + behind) (Known (point_ground w
    (layered (φ ∷ φs) p) h) (services_of (layered (φ ∷ φs) p)) numbers (λ j. 0) nothing b) (g b)) →
    Comes code (c + test_length words + behind) g (services_of (layered (φ ∷ φs) p)) aims (other k s)) →
    Comes code c f (services_of (layered (φ ∷ φs) p)) aims (choose (has_not_passed limit by z) one other k s)
limit_does words low w code p φ φs {numbers} {index} {aims} closed c f h limit by z behind s k one other wide told l
    inside at within past' =
    let v = services_of (layered (φ ∷ φs) p) in
    let falls = int_lt by (pos 0) in
    let a = load_word u1 frame_register (limit_place (set_aside words)) in
    let last = passed falls behind in
    onward closed
    (word_back w code p φ φs (limit_place (set_aside words)) words (word limit) c f u1 h told (word_at φ words h low)
    (record { reserved_stay = λ y u. refl; known_stay = λ b y u o. o; set = λ y u. refl })
    (record { reserved_stay = λ y u. refl; known_stay = λ b y u o. o; set = λ y u. refl }) (front_of a last l) at)
    (λ f1 at1.
    subst (λ q. Comes code (c + limit_loads words) f1 v aims (choose q one other k s))
    (sym (not_passed falls limit by z refl))
    (by_direction s k one other falls closed (c + limit_loads words) f1 limit z behind wide.0 wide.1
    (omega (arith, inside)) (back_of a last l) at1
    (λ f2 at2. subst (λ n. Comes code n f2 v aims (one k s)) (omega arith)
    (within f2 (λ b. record { pc = (at2 b).pc ∙ ap (address b) (omega arith); holds = (at2 b).holds })))
    (λ f2 at2. subst (λ n. Comes code n f2 v aims (other k s)) (omega arith)
    (past' f2 (λ b. record { pc = (at2 b).pc ∙ ap (address b) (omega arith); holds = (at2 b).holds })))))
