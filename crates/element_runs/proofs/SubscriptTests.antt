-- The code that tests a subscript against constant bounds: its distance from the lower one is left, or ERROR comes.
use Rattle.std.proofs.Common.{◌≡◌, ℕ, ◌+◌, ◌^◌, ◌<◌, ◌≤◌, List, [], ◌++◌, Bool, true, false, refl, sym, ap, ◌∙◌}
use Rattle.std.proofs.Common.{subst, arith}
use Rattle.std.specs.Prelude.{ℤ, pos, neg_ℤ, ◌-ℤ◌, cond, not, nat_lt, if◌then◌else◌}
use Rattle.rv_meaning.specs.declared.instr.BranchTest.TheVariants as Test
use Rattle.rv_meaning.specs.Machine.{written}
use Rattle.rv_meaning.specs.Words.{sum, word}
use Rattle.pli_typing.specs.Signatures.{Bounds}
use Rattle.pli_typing.specs.TypedTree as Y
use Rattle.pli_meaning.specs.Codes.{subscript_code}
use Rattle.pli_meaning.specs.Contents.{same_int}
use Rattle.pli_meaning.specs.Control.{Label, choose, give}
use Rattle.pli_meaning.specs.Raising as R
use Rattle.pli_meaning.specs.StorageState.{State}
use Rattle.pli_serving.specs.ServiceState.{Services}
use Rattle.pli_coding.specs.Assembly.{Code, size_of}
use Rattle.pli_coding.specs.Frames.{buffer_lower}
use Rattle.pli_coding.specs.Instructions.{constant, error_raised, plus, skip_where}
use Rattle.pli_coding.specs.Locating.{less_lower, subscript_counted}
use Rattle.pli_coding.specs.Registers.{u1, u2}
use Rattle.activation_relation.specs.Layers.{Point, services_of}
use Rattle.run_steps.specs.Bodies.{Free, Ground, Known, with'}
use Rattle.run_steps.proofs.Bodies.{constant_piece}
use Rattle.run_steps.specs.Engine.{Base, address}
use Rattle.run_steps.proofs.Increments.{plus_own}
use Rattle.run_steps.specs.Items.{At, Linked}
use Rattle.run_steps.proofs.Items.{straight}
use Rattle.run_steps.proofs.Jumps.{back_of, front_of, rest_of, skip_passed, skip_taken}
use Rattle.run_steps.proofs.Linking.{size_append}
use Rattle.run_steps.specs.Numbers.{IsWide}
use Rattle.run_steps.proofs.Numbers.{word_small}
use Rattle.run_steps.specs.Reach.{Aims, Closed, Comes, Family, Reach, cost}
use Rattle.run_steps.proofs.Reach.{onward}
use Rattle.run_steps.specs.Temporaries.{nothing}
use Rattle.block_runs.proofs.CallStatements.{comes_map}
use Rattle.block_runs.proofs.PointGrounds.{in_known, point_ground}
use Rattle.program_runs.specs.Statements.{IsAmong, JumpsTo}
use Rattle.expression_runs.specs.Values.{Setting}
use Rattle.expression_runs.proofs.Words.{frame_of, valued}
use Rattle.element_runs.specs.Arrays.{IsBounds, constant_bounds}
use Rattle.element_runs.specs.Subscripts.{SubscriptComes, error_aims}
use Rattle.element_runs.proofs.Bounds.{between_tested, distance_is, distance_word, is_between, opposite_small, place_at}
use Rattle.element_runs.proofs.Bounds.{range_small, same_number}
use Rattle.block_runs.specs.Machines.{limits_of}

-- ---- what is known beside

-- it stays while these registers are written
pub record Beside (ys : Base → List (ℕ × ℕ)) : Type 0 where
  pub free1 : Free ys 6
  pub free2 : Free ys 7
  pub free3 : Free ys 28
  pub free4 : Free ys 29
  pub far : Free ys 31

pub nothing_beside : Beside nothing
nothing_beside =
    record {
      free1 = record { reserved_stay = λ y u. refl; known_stay = λ b y u k. k; set = λ y u. refl };
      free2 = record { reserved_stay = λ y u. refl; known_stay = λ b y u k. k; set = λ y u. refl };
      free3 = record { reserved_stay = λ y u. refl; known_stay = λ b y u k. k; set = λ y u. refl };
      free4 = record { reserved_stay = λ y u. refl; known_stay = λ b y u k. k; set = λ y u. refl };
      far = record { reserved_stay = λ y u. refl; known_stay = λ b y u k. k; set = λ y u. refl };
    }

pub valued_beside : (x : ℕ) → Beside (valued x)
valued_beside x =
    record {
      free1 = record { reserved_stay = λ y u. refl; known_stay = λ b y u k. k; set = λ y u. refl };
      free2 = record { reserved_stay = λ y u. refl; known_stay = λ b y u k. k; set = λ y u. refl };
      free3 = record { reserved_stay = λ y u. refl; known_stay = λ b y u k. k; set = λ y u. refl };
      free4 = record { reserved_stay = λ y u. refl; known_stay = λ b y u k. k; set = λ y u. refl };
      far = record { reserved_stay = λ y u. refl; known_stay = λ b y u k. k; set = λ y u. refl };
    }

-- and that of a register that isn't written
pub free_with :
    {ys : Base → List (ℕ × ℕ)} {r : ℕ} (n : ℕ) (u : Base → ℕ) →
    ((x : ℕ → ℕ) (y : ℕ) → written x r y n ≡ x n) → Free ys r → Free (with' n u ys) r
free_with n u apart free =
    record {
      reserved_stay = free.reserved_stay;
      known_stay = λ b x y k. (apart x y ∙ k.0, free.known_stay b x y k.1);
      set = free.set;
    }

-- ---- the distance

sum_zero : (y x : ℕ) → y ≡ x → x < 2 ^ 32 → sum y (word (pos 0)) ≡ x
sum_zero y x e h = omega (arith, e, h)

-- from a lower bound of 0 it is the subscript
no_distance :
    (lower z : ℤ) → same_int lower (pos 0) ≡ true → word z < 2 ^ 32 → word z ≡ sum (word z) (word (neg_ℤ lower))
no_distance lower z e small' =
    let n : sum (word z) (word (neg_ℤ (pos 0))) ≡ word z = sum_zero (word z) (word z) refl small' in
    sym (ap (λ l. sum (word z) (word (neg_ℤ l))) (same_number lower (pos 0) e) ∙ n)

less_by :
    (q : Bool) (k : Setting) {p : Point} {numbers : ℕ → ℕ} {i : ℕ} {ys : Base → List (ℕ × ℕ)} (h : frame_of k.block p)
    (c : ℕ) (f : Family) (b : Bounds) (z : ℤ) → same_int b.lower (pos 0) ≡ q → IsBounds b → IsWide z → Beside ys →
    Linked k.block.call.surroundings.links k.block.call.code i (cond q [] (plus u1 u1 (neg_ℤ b.lower))) →
    ((b' : Base) → At b' i (Known (point_ground k.block.call.surroundings p h) (services_of p) numbers (λ j. 0)
    (with' 6 (λ b0. word z) ys) b') (f b')) →
    Reach k.block.call.code c f (services_of p) (c + size_of (cond q [] (plus u1 u1 (neg_ℤ b.lower)))) (services_of p)
    (λ b' w. At b' (i + size_of (cond q [] (plus u1 u1 (neg_ℤ b.lower))))
    (Known (point_ground k.block.call.surroundings p h) (services_of p) numbers (λ j. 0)
    (with' 6 (λ b0. distance_word b z) ys) b') w)
less_by true k {p} {numbers} {ys = ys} h c f b z e is wide beside l at =
    let g = point_ground k.block.call.surroundings p h in
    straight c f (services_of p) (services_of p)
    (λ b'. Known g (services_of p) numbers (λ j. 0) (with' 6 (λ b0. distance_word b z) ys) b') l (omega arith)
    (λ b'. (at b').pc)
    (λ b'. let o = (at b').holds in record {
      body = o.body;
      regs = (o.regs.0 ∙ no_distance b.lower z e (word_small z wide), o.regs.1);
    })
less_by false k h c f b z e is wide beside l at =
    plus_own c f u1 (neg_ℤ b.lower) (λ b0. word z) (λ b0. distance_word b z) (opposite_small b is)
    (λ b0. word_small z wide) (λ y u. refl) (λ b0. refl) beside.free1
    (free_with 6 (λ b0. word z) (λ y u. refl) beside.far) l at

abbrev tested_skip : Code
tested_skip = skip_where Test.GreaterOrEqualUnsigned u2 u1 (error_raised subscript_code)

-- where a flow is left by a jump
abbrev pub Jumps : {X : Type 0} → Setting → (acts : ℕ) → Aims X → Type 0
Jumps k acts aims =
    (aims.limits ≡ limits_of k.block.call.surroundings)
    × ((c : ℕ) (f : Family) (v : Services) (height : ℕ) (label : Label) (s : State) →
    JumpsTo k.block k.labels acts c f v height label s → aims.jumped c f v height label s)

abbrev pub tested_code : Bounds → Code
tested_code b = subscript_counted 0 (constant_bounds b)

-- a subscript in u1 becomes the place of its element, or ERROR comes
pub tested_does :
    (k : Setting) {p : Point} {numbers : ℕ → ℕ} {i : ℕ} {ys : Base → List (ℕ × ℕ)} {aims : Aims (Unit {0})} →
    SubscriptComes k → Closed k.block.call.code aims → Jumps k p.state.world.acts aims → (h : frame_of k.block p) →
    IsAmong k.block numbers p → p.control.line ≡ k.around.line → Beside ys → (c : ℕ) (f : Family) (b : Bounds)
    (z : ℤ) → IsBounds b → IsWide z →
    Linked k.block.call.surroundings.links k.block.call.code i (tested_code b) →
    c + size_of (tested_code b) + k.most ≤ cost k.block.call.code →
    ((b' : Base) → At b' i (Known (point_ground k.block.call.surroundings p h) (services_of p) numbers (λ j. 0)
    (with' 6 (λ b0. word z) ys) b') (f b')) →
    (is_between b z ≡ true → (f' : Family) →
    ((b' : Base) → At b' (i + size_of (tested_code b)) (Known (point_ground k.block.call.surroundings p h)
    (services_of p) numbers (λ j. 0) (with' 6 (λ b0. place_at b z) ys) b') (f' b')) →
    aims.done (c + size_of (tested_code b)) f' (services_of p) tt p.state) →
    Comes k.block.call.code c f (services_of p) aims
    (R.demanded k.around 102 (is_between b z) k.block.call.surroundings.acts p.state)
unfolding R.demanded choose give
tested_does k {p} {numbers} {i} {ys} {aims} outside closed jumps h o line beside c f b z is wide l paid at next' =
    let e1 = size_append p1 (p2 ++ p3) in
    let e2 = size_append p2 p3 in
    let e3 = size_append tested_skip [] in
    let l2 = back_of p1 (p2 ++ p3) l in
    let r1 = less_by (same_int b.lower (pos 0)) k h c f b z refl is wide beside (front_of p1 (p2 ++ p3) l) at in
    onward closed r1 (λ f1 at1.
    let r2 = constant_piece (c + size_of p1) f1 u2 (b.upper -ℤ b.lower) (range_small b is)
    (free_with 6 (λ b0. x) (λ y u. refl) beside.free2) (front_of p2 p3 l2) at1 in
    onward closed r2 (λ f2 at2.
    by (is_between b z) refl f2 (front_of tested_skip [] (back_of p2 p3 l2)) (omega (arith, e1, e2, e3))
    (omega (arith, paid, e1, e2, e3)) (omega (arith, e1, e2, e3)) at2))
  where
    p1 : Code
    p1 = less_lower (Y.ConstantExtent b.lower) (buffer_lower 0)

    p2 : Code
    p2 = constant u2 (b.upper -ℤ b.lower)

    p3 : Code
    p3 = tested_skip ++ []

    x : ℕ
    x = distance_word b z

    range : ℕ
    range = word (b.upper -ℤ b.lower)

    g : Ground
    g = point_ground k.block.call.surroundings p h

    j : ℕ
    j = i + size_of p1 + size_of p2

    d : ℕ
    d = c + size_of p1 + size_of p2

    tests :
        (q : Bool) → is_between b z ≡ q → (f2 : Family) →
        ((b' : Base) → At b' j (Known g (services_of p) numbers (λ n. 0)
        (with' 7 (λ b0. range) (with' 6 (λ b0. x) ys)) b') (f2 b')) → (b' : Base) →
        (if nat_lt ((f2 b').machine.registers 7) ((f2 b').machine.registers 6) then false else true) ≡ q
    tests q e f2 at2 b' =
        let o' = (at2 b').holds.regs in
        ap (λ u. if nat_lt u ((f2 b').machine.registers 6) then false else true) o'.0
        ∙ ap (λ u. if nat_lt range u then false else true) o'.1.0
        ∙ ap (λ u. if u then false else true) (between_tested b z is wide)
        ∙ ap (λ u. if not u then false else true) e
        ∙ twice q
      where
        twice : (q : Bool) → (if not q then false else true) ≡ q
        twice true = refl
        twice false = refl

    by :
        (q : Bool) → is_between b z ≡ q → (f2 : Family) →
        Linked k.block.call.surroundings.links k.block.call.code j tested_skip →
        i + size_of (tested_code b) ≡ j + 4 → d + 4 + k.most ≤ cost k.block.call.code →
        c + size_of (tested_code b) ≡ d + 4 →
        ((b' : Base) → At b' j (Known g (services_of p) numbers (λ n. 0)
        (with' 7 (λ b0. range) (with' 6 (λ b0. x) ys)) b') (f2 b')) →
        Comes k.block.call.code d f2 (services_of p) aims
        (R.demanded k.around 102 q k.block.call.surroundings.acts p.state)
    by true e f2 l' place paid' size at2 =
        onward closed (skip_taken d f2 Test.GreaterOrEqualUnsigned u2 u1 (error_raised subscript_code) l' at2
        (tests true e f2 at2)) (λ f3 at3. record {
          to = λ early.
              subst (λ n. aims.done n f3 (services_of p) tt p.state) size
              (next' e f3 (λ b'. record {
                pc = (at3 b').pc ∙ ap (address b') (sym place);
                holds = record {
                  body = (at3 b').holds.body;
                  regs = ((at3 b').holds.regs.1.0 ∙ distance_is b z is wide e, (at3 b').holds.regs.1.1);
                };
              }));
        })
    by false e f2 l' place paid' size at2 =
        onward closed (skip_passed d f2 Test.GreaterOrEqualUnsigned u2 u1 (error_raised subscript_code) l' at2
        (tests false e f2 at2)) (λ f3 at3.
        comes_map (error_aims k.block k.labels p.state.world.acts) aims jumps.0
        (R.error {R = Unit {0}} k.around 102 k.block.call.surroundings.acts p.state)
        (λ c' f' v' u s q. absurd q) jumps.1 (λ c' f' v' u s q. absurd q)
        (outside p numbers (d + 1) (j + 1) f3 o line (rest_of _ (error_raised subscript_code) l')
        (omega (arith, paid')) (λ b'. in_known h o.image.parts (at3 b'))))
