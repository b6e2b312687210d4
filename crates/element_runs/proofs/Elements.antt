-- An element of an array: its subscript, the test of that, and its address; and what is loaded from there.
use Rattle.std.proofs.Common.{◌≡◌, ℕ, ◌+◌, ◌*◌, ◌<◌, ◌≤◌, ◌⊎◌, inl, inr, List, [], ◌∷◌, ◌++◌, true, false}
use Rattle.std.proofs.Common.{refl, sym, ap, ◌∙◌, subst, arith}
use Rattle.std.specs.Prelude.{ℤ, max, pos, None, ◌==◌}
use Rattle.std.proofs.Math.Nat.{le-max_left, le-max_right}
use Rattle.rv_meaning.specs.declared.instr.LoadKind.TheVariants as Load
use Rattle.rv_meaning.specs.Words.{word}
use Rattle.pli_typing.specs.Signatures.{Bounds}
use Rattle.pli_typing.specs.TypedTree as Y
use Rattle.pli_meaning.specs.Control.{Meaning, give}
use Rattle.pli_meaning.specs.Evaluating as V
use Rattle.pli_meaning.specs.Raising as R
use Rattle.pli_meaning.specs.StorageState.{State}
use Rattle.pli_coding.specs.Assembly.{size_of}
use Rattle.pli_coding.specs.Environments.{fetch, save}
use Rattle.pli_coding.specs.Expressions.{number_code, reference_code}
use Rattle.pli_coding.specs.Locating.{simple_loaded}
use Rattle.pli_coding.specs.Registers.{a0, u1, u3}
use Rattle.activation_relation.specs.Layers.{Point, services_of}
use Rattle.run_steps.specs.Bodies.{Known, with'}
use Rattle.run_steps.proofs.Bodies.{narrow_load_from}
use Rattle.run_steps.specs.Engine.{Base, address}
use Rattle.run_steps.specs.Items.{At, Linked}
use Rattle.run_steps.proofs.Jumps.{back_of, front_of, linked_at}
use Rattle.run_steps.proofs.Linking.{size_append}
use Rattle.run_steps.specs.Numbers.{IsWide}
use Rattle.run_steps.proofs.Numbers.{word_small}
use Rattle.run_steps.specs.Reach.{Aims, Closed, Comes, Family, before, cost}
use Rattle.run_steps.proofs.Reach.{before_closed, comes_on, onward, reach_map, reach_with}
use Rattle.run_steps.specs.Temporaries.{nothing}
use Rattle.block_runs.specs.Machines.{AreIn, IsIn}
use Rattle.block_runs.proofs.CallStatements.{comes_map}
use Rattle.block_runs.proofs.PointGrounds.{in_known, known_in, point_frame, point_ground}
use Rattle.program_runs.specs.Statements.{IsAmong, IsBegun}
use Rattle.program_runs.proofs.JumpsOut.{jumps_since}
use Rattle.expression_runs.specs.Laws as L
use Rattle.expression_runs.specs.Values.{HasRegisters, Setting, behind, in_registers}
use Rattle.expression_runs.specs.Values.{number_aims}
use Rattle.expression_runs.specs.Variables.{Spot, number_place, variable_of, whole_part}
use Rattle.expression_runs.proofs.Saving.{fetched_reach, held_after, held_among, held_is_given, held_stays, saved_reach}
use Rattle.expression_runs.proofs.VariablePoints.{first_base, reaches_by}
use Rattle.expression_runs.proofs.Words.{frame_of, known_word, number_closed}
use Rattle.element_runs.specs.Arrays.{IsArray, element}
use Rattle.element_runs.specs.Subscripts.{IsConstant, IsSubscript, IsVariable, IsWaiting, SubscriptComes}
use Rattle.element_runs.proofs.Addresses.{found_code, found_reach}
use Rattle.element_runs.proofs.Bounds.{is_between, place_at}
use Rattle.element_runs.proofs.ElementCode.{behind_given, element_code, element_is, loaded_is, loads}
use Rattle.element_runs.proofs.ElementMeaning as N
use Rattle.element_runs.proofs.ElementMeaning.{designated_element, designated_is, element_meant, number_is}
use Rattle.element_runs.proofs.ElementMeaning.{number_meant, number_of, numbers_meant, only, only_is}
use Rattle.element_runs.proofs.ElementPoints.{ElementAt, array_at, element_at, frame_small, held_at, place_is}
use Rattle.element_runs.proofs.Simple.{Brought, brought_simple}
use Rattle.element_runs.proofs.SubscriptTests.{Beside, Jumps, nothing_beside, tested_code, tested_does}

-- ---- behind the subscript

-- the element that is found, and its distance from the frame in u3
abbrev pub found : {x : Spot} (b : Bounds) (u : State) (holds : N.Holds u x b) (i : ℤ) → V.Designated
found b u holds i = designated_element b holds.serial holds.values i

abbrev pub Finds : (k : Setting) (x : Spot) (b : Bounds) (is : IsArray k.block x b) (ys : Base → List (ℕ × ℕ))
    (p : Point) (numbers : ℕ → ℕ) (h : frame_of k.block p) (end : ℕ) (i : ℤ) → Family → Type 0
Finds k x b is ys p numbers h end i f =
    (b' : Base) →
    At b' end (Known (point_ground k.block.call.surroundings p h) (services_of p) numbers (λ j. 0)
    (with' 28 (λ b0. b0.at + (is.known.base + 4 * place_at b i)) ys) b') (f b')

-- a subscript in u1: the element's address comes into u3, or ERROR comes
pub behind_does :
    (k : Setting) {p : Point} {numbers : ℕ → ℕ} {index : ℕ} {ys : Base → List (ℕ × ℕ)} {aims : Aims V.Designated}
    (x : Spot) (b : Bounds) (is : IsArray k.block x b) → SubscriptComes k → IsBegun k.block →
    Closed k.block.call.code aims → Jumps k p.state.world.acts aims → (h : frame_of k.block p) →
    IsAmong k.block numbers p → p.control.line ≡ k.around.line → Beside ys → (c : ℕ) (f : Family) (i : ℤ) →
    IsWide i →
    Linked k.block.call.surroundings.links k.block.call.code index (tested_code b ++ []) →
    Linked k.block.call.surroundings.links k.block.call.code (index + size_of (tested_code b ++ []))
    (found_code (x.level == k.block.environment.level) x.level) →
    c + size_of (behind_given k.block.environment x b) + k.most ≤ cost k.block.call.code →
    ((b' : Base) → At b' index (Known (point_ground k.block.call.surroundings p h) (services_of p) numbers (λ j. 0)
    (with' 6 (λ b0. word i) ys) b') (f b')) →
    (is_between b i ≡ true → (holds : N.Holds p.state x b) (e : ElementAt k.block x b is p holds i) (f' : Family) →
    Finds k x b is ys p numbers h (index + size_of (behind_given k.block.environment x b)) i f' →
    aims.done (c + size_of (behind_given k.block.environment x b)) f' (services_of p) (found b p.state holds i)
    p.state) →
    Comes k.block.call.code c f (services_of p) aims
    (V.variable_designated k.around (variable_of x) None whole_part (i ∷ []) k.block.call.surroundings.acts p.state)
unfolding give
behind_does k {p} {numbers} {index} {ys} {aims} x b is outside begun closed jumps h o line beside c f i wide lt' lf
    paid at next' =
    let w = k.block.call.surroundings in
    let code = k.block.call.code in
    let v = services_of p in
    let q = x.level == k.block.environment.level in
    let a = array_at x b is o in
    let there' = found_code q x.level in
    let n1 = size_append (tested_code b) [] in
    let n2 = size_append (tested_code b ++ []) there' in
    let next'' : Unit {0} → Meaning V.Designated = λ u. give (designated_element b a.0.serial a.0.values i) in
    subst (Comes code c f v aims) (sym (designated_is k.around w.acts i a.0))
    (comes_on w.acts (R.demanded k.around 102 (is_between b i) w.acts p.state) next''
    (tested_does k outside (before_closed w.acts next'' closed) jumps h o line beside c f b i is.bounds wide
    (front_of (tested_code b) [] lt') (omega (arith, paid, n1, n2)) at
    (λ between f1 at1.
    let e = held_at x b is i between begun o f1 (λ b'. in_known h o.image.parts (at1 b')) a.0 a.1 in
    let small' = frame_small k.block x b is i between in
    let r = found_reach q x.level (c + size_of (tested_code b)) f1 is.known.base (place_at b i) beside
    (reaches_by x.level is.known.base h begun o is.known.frame) (omega (arith, small'))
    (linked_at (index + size_of (tested_code b)) there' (omega (arith, n1)) lf) at1 in
    onward closed r (λ f2 at2.
    record {
      to = λ early.
          subst (λ n. aims.done n f2 v (designated_element b a.0.serial a.0.values i) p.state) (omega (arith, n1, n2))
          (next' between a.0 e f2 (λ b'. record {
            pc = (at2 b').pc ∙ ap (address b') (omega (arith, n1, n2));
            holds = (at2 b').holds;
          }));
    }))))

-- ---- subscripts that wait

enough_need : (k : Setting) (taken need : ℕ) → HasRegisters k taken (max need 1) → HasRegisters k taken need
enough_need k taken need h =
    let room = h.0 in
    let most = le-max_left need 1 in
    (omega (arith, room, most), h.1)

enough_one : (k : Setting) (taken need : ℕ) → HasRegisters k taken (max need 1) → HasRegisters k taken 1
enough_one k taken need h =
    let room = h.0 in
    let most = le-max_right need 1 in
    (omega (arith, room, most), h.1)

-- what goes on where the element is found, at a point behind its subscript
abbrev pub Next : (k : Setting) (x : Spot) (b : Bounds) (is : IsArray k.block x b) (aims : Aims V.Designated)
    (p : Point) (numbers : ℕ → ℕ) (taken end credits : ℕ) → Type 0
Next k x b is aims p numbers taken end credits =
    (q : Point) (after : ℕ → ℕ) (h : frame_of k.block q) (i : ℤ) → is_between b i ≡ true → IsAmong k.block after q →
    p.state.world.acts ≤ q.state.world.acts → q.control.line ≡ p.control.line →
    ((n : ℕ) → n < taken → after n ≡ numbers n) → (holds : N.Holds q.state x b) →
    ElementAt k.block x b is q holds i → (f : Family) →
    Finds k x b is nothing q after h end i f →
    aims.done credits f (services_of q) (found b q.state holds i) q.state

abbrev checks : Setting → Spot → List ℤ → Meaning V.Designated
checks k x is = V.variable_designated k.around (variable_of x) None whole_part is

waiting_does :
    (k : Setting) {aims : Aims V.Designated} (x : Spot) (b : Bounds) (is : IsArray k.block x b) (s : Y.Number)
    (need : ℕ) → SubscriptComes k → IsBegun k.block → L.Does k need s → Closed k.block.call.code aims → (p : Point)
    (numbers : ℕ → ℕ) (taken c index : ℕ) (f : Family) → Jumps k p.state.world.acts aims →
    IsAmong k.block numbers p → p.control.line ≡ k.around.line → HasRegisters k taken (max need 1) →
    Linked k.block.call.surroundings.links k.block.call.code index
    (element_code false k.block.environment (in_registers k.words taken) x b s) →
    c + size_of (element_code false k.block.environment (in_registers k.words taken) x b s) + k.most
    ≤ cost k.block.call.code → AreIn k.block.call.surroundings p numbers index f →
    Next k x b is aims p numbers taken
    (index + size_of (element_code false k.block.environment (in_registers k.words taken) x b s))
    (c + size_of (element_code false k.block.environment (in_registers k.words taken) x b s)) →
    Comes k.block.call.code c f (services_of p) aims
    (V.designated k.around (element x s) k.block.call.surroundings.acts p.state)
waiting_does k {aims} x b is s need outside begun ev closed p numbers taken c index f jumps o line registers l paid
    there next' =
    let w = k.block.call.surroundings in
    let code = k.block.call.code in
    let e = k.block.environment in
    let t = in_registers k.words taken in
    let one = enough_one k taken need registers in
    let part = number_code e t s in
    let put' = save a0 t in
    let back = fetch u1 t in
    let test = tested_code b ++ [] in
    let last = found_code (x.level == e.level) x.level in
    let front = part ++ (put' ++ []) in
    let rest = (back ++ test) ++ last in
    let n1 = size_append part (put' ++ []) in
    let n2 = size_append put' [] in
    let n3 = size_append back test in
    let n4 = size_append (back ++ test) last in
    let n5 = size_append front rest in
    let n6 = size_append test last in
    let l0 = front_of front rest l in
    let l1 = back_of front rest l in
    let l2 = front_of (back ++ test) last l1 in
    let i2 = index + size_of part + size_of put' in
    let c2 = c + size_of part + size_of put' in
    let i3 = i2 + size_of back in
    let c3 = c2 + size_of back in
    let goal = before code aims w.acts (λ js. checks k x js) in
    subst (Comes code c f (services_of p) aims) (sym (element_meant k.around x s w.acts p.state))
    (comes_on w.acts (V.numbers k.around (Y.NumberThen s Y.NoNumber) w.acts p.state) (λ js. checks k x js)
    (subst (Comes code c f (services_of p) goal) (sym (numbers_meant k.around s w.acts p.state))
    (comes_on w.acts (V.number k.around s w.acts p.state) (λ z. only k.around z)
    (comes_map (number_aims k.block k.labels (behind p numbers taken c index part))
    (before code goal w.acts (λ z. only k.around z)) jumps.0 (V.number k.around s w.acts p.state)
    (λ c1 f1 v1 z s1 q1.
    let o1 = q1.1 in
    let p1 = o1.point in
    let since = o1.since in
    let h1 = point_frame o1.among.stands o1.among.image in
    let small' = word_small z q1.0 in
    let held = held_after o1.numbers taken (word z) in
    let among = held_among k taken 1 (word z) one (omega arith) small' o1.among in
    subst (Comes code c1 f1 v1 goal) (sym (only_is k.around z w.acts s1))
    (record {
      to = λ early.
          subst (λ u. Comes code c1 f1 v1 aims (checks k x (z ∷ []) w.acts u)) (sym o1.state)
          (onward closed o1.reach
          (λ g1 at1.
          onward closed
          (saved_reach k taken 0 h1 one (c + size_of part) g1 (word z) small'
          (front_of put' [] (back_of part (put' ++ []) l0)) (λ b'. known_word k.block h1 (at1 b')))
          (λ g2 at2.
          onward closed
          (fetched_reach k taken 0 h1 one c2 g2 u1 (word z) small' (held_is_given o1.numbers taken (word z))
          (record { reserved_stay = λ y u. refl; known_stay = λ b' y u q. q; set = λ y u. refl })
          (record { reserved_stay = λ y u. refl; known_stay = λ b' y u q. q; set = λ y u. refl })
          (linked_at i2 back (omega (arith, n1, n2)) (front_of back test l2)) at2)
          (λ g3 at3.
          behind_does k x b is outside begun closed
          (jumps.0, λ c' f' v' height label s' q. jumps.1 c' f' v' height label s' (jumps_since since q)) h1 among
          (o1.line ∙ line) nothing_beside c3 g3 z q1.0
          (linked_at i3 test (omega (arith, n1, n2)) (back_of back test l2))
          (linked_at (i3 + size_of test) last (omega (arith, n1, n2, n3)) (back_of (back ++ test) last l1))
          (omega (arith, paid, n1, n2, n3, n4, n5, n6)) at3
          (λ between holds el f' finds.
          subst (λ n. aims.done n f' (services_of p1) (found b p1.state holds z) p1.state)
          (omega (arith, n1, n2, n3, n4, n5, n6))
          (next' p1 held h1 z between among since o1.line
          (λ n less. held_stays o1.numbers taken (word z) n less ∙ o1.stays n less) holds el f'
          (λ b'. record {
            pc = (finds b').pc ∙ ap (address b') (omega (arith, n1, n2, n3, n4, n5, n6));
            holds = (finds b').holds;
          })))))));
    }))
    (λ c1 f1 v1 height label s1 q1. jumps.1 c1 f1 v1 height label s1 q1)
    (λ c1 f1 v1 r s1 q1. absurd q1)
    (ev p numbers taken c index f o line (enough_need k taken need registers) (front_of part (put' ++ []) l0)
    (omega (arith, paid, n1, n5)) there)))))

-- ---- simple subscripts

-- one changes no other register
pub simple_does :
    (k : Setting) {aims : Aims V.Designated} {ys : Base → List (ℕ × ℕ)} (x : Spot) (b : Bounds)
    (is : IsArray k.block x b) (s : Y.Number) → SubscriptComes k → IsBegun k.block →
    Closed k.block.call.code aims → Beside ys → (p : Point) (numbers : ℕ → ℕ) (taken c index : ℕ) (f : Family) →
    Jumps k p.state.world.acts aims → (h : frame_of k.block p) → IsAmong k.block numbers p →
    p.control.line ≡ k.around.line → (n : Brought k s p numbers h) →
    Linked k.block.call.surroundings.links k.block.call.code index
    (element_code true k.block.environment (in_registers k.words taken) x b s) →
    c + size_of (element_code true k.block.environment (in_registers k.words taken) x b s) + k.most
    ≤ cost k.block.call.code →
    ((b' : Base) → At b' index (Known (point_ground k.block.call.surroundings p h) (services_of p) numbers (λ j. 0) ys
    b') (f b')) →
    (is_between b n.z ≡ true → (holds : N.Holds p.state x b) → ElementAt k.block x b is p holds n.z →
    (f' : Family) →
    Finds k x b is ys p numbers h
    (index + size_of (element_code true k.block.environment (in_registers k.words taken) x b s)) n.z f' →
    aims.done (c + size_of (element_code true k.block.environment (in_registers k.words taken) x b s)) f'
    (services_of p) (found b p.state holds n.z) p.state) →
    Comes k.block.call.code c f (services_of p) aims
    (V.designated k.around (element x s) k.block.call.surroundings.acts p.state)
simple_does k {aims} {ys} x b is s outside begun closed beside p numbers taken c index f jumps h o line n l paid at
    next' =
    let w = k.block.call.surroundings in
    let code = k.block.call.code in
    let e = k.block.environment in
    let part = simple_loaded e u1 s in
    let test = tested_code b ++ [] in
    let last = found_code (x.level == e.level) x.level in
    let n3 = size_append part test in
    let n4 = size_append (part ++ test) last in
    let n6 = size_append test last in
    let l2 = front_of (part ++ test) last l in
    let i3 = index + size_of part in
    let c3 = c + size_of part in
    let goal = before code aims w.acts (λ js. checks k x js) in
    subst (Comes code c f (services_of p) aims) (sym (element_meant k.around x s w.acts p.state))
    (comes_on w.acts (V.numbers k.around (Y.NumberThen s Y.NoNumber) w.acts p.state) (λ js. checks k x js)
    (subst (Comes code c f (services_of p) goal) (sym (numbers_meant k.around s w.acts p.state))
    (comes_on w.acts (V.number k.around s w.acts p.state) (λ z. only k.around z)
    (subst (Comes code c f (services_of p) (before code goal w.acts (λ z. only k.around z))) (sym n.meant)
    (record {
      to = λ early.
          subst (Comes code c f (services_of p) goal) (sym (only_is k.around n.z w.acts p.state))
          (record {
            to = λ early.
                onward closed (n.brings ys c index f beside (front_of part test l2) at)
                (λ g3 at3.
                behind_does k x b is outside begun closed jumps h o line beside c3 g3 n.z n.wide
                (back_of part test l2)
                (linked_at (i3 + size_of test) last (omega (arith, n3)) (back_of (part ++ test) last l))
                (omega (arith, paid, n3, n4, n6)) at3
                (λ between holds el f' finds.
                subst (λ m. aims.done m f' (services_of p) (found b p.state holds n.z) p.state)
                (omega (arith, n3, n4, n6))
                (next' between holds el f'
                (λ b'. record {
                  pc = (finds b').pc ∙ ap (address b') (omega (arith, n3, n4, n6));
                  holds = (finds b').holds;
                }))));
          });
    })))))

-- ---- both

-- from any point of the block, with so many registers
abbrev pub Located : (k : Setting) (x : Spot) (b : Bounds) (is : IsArray k.block x b) (aims : Aims V.Designated)
    (need : ℕ) → Y.Number → Type 1
Located k x b is aims need s =
    Closed k.block.call.code aims → (p : Point) (numbers : ℕ → ℕ) (taken c index : ℕ)
    (f : Family) → Jumps k p.state.world.acts aims → IsAmong k.block numbers p → p.control.line ≡ k.around.line →
    HasRegisters k taken need →
    Linked k.block.call.surroundings.links k.block.call.code index
    (reference_code k.block.environment (in_registers k.words taken) (element x s)) →
    c + size_of (reference_code k.block.environment (in_registers k.words taken) (element x s)) + k.most
    ≤ cost k.block.call.code → AreIn k.block.call.surroundings p numbers index f →
    Next k x b is aims p numbers taken
    (index + size_of (reference_code k.block.environment (in_registers k.words taken) (element x s)))
    (c + size_of (reference_code k.block.environment (in_registers k.words taken) (element x s))) →
    Comes k.block.call.code c f (services_of p) aims
    (V.designated k.around (element x s) k.block.call.surroundings.acts p.state)

enough_first :
    (k : Setting) (taken need first : ℕ) → 0 + max first 1 ≤ need → HasRegisters k taken need →
    HasRegisters k taken (max first 1)
enough_first k taken need first some h = let room = h.0 in (omega (arith, room, some), h.1)

located_waiting :
    (k : Setting) (aims : Aims V.Designated) (x : Spot) (b : Bounds) (is : IsArray k.block x b) (s : Y.Number)
    (need : ℕ) → SubscriptComes k → IsBegun k.block → IsWaiting k 0 need s → Located k x b is aims need s
located_waiting k aims x b is s need outside begun waiting closed p numbers taken c index f jumps o line registers l
    paid there next' =
    let w = k.block.call.surroundings in
    let e = k.block.environment in
    let t = in_registers k.words taken in
    let same = element_is e t x b s is.initial is.known.declared
    ∙ ap (λ q. element_code q e t x b s) waiting.waits in
    let size = ap (λ u. size_of u) same in
    waiting_does k x b is s waiting.first outside begun waiting.does closed p numbers taken c index f jumps o line
    (enough_first k taken need waiting.first waiting.enough registers)
    (subst (Linked w.links k.block.call.code index) same l) (omega (arith, paid, size)) there
    (λ q after h i between among since line' stays holds el f' finds.
    subst (λ n. aims.done n f' (services_of q) (found b q.state holds i) q.state) (omega (arith, size))
    (next' q after h i between among since line' stays holds el f'
    (λ b'. record { pc = (finds b').pc ∙ ap (address b') (omega (arith, size)); holds = (finds b').holds })))

located_simple :
    (k : Setting) (aims : Aims V.Designated) (x : Spot) (b : Bounds) (is : IsArray k.block x b) (s : Y.Number)
    (need : ℕ) → IsConstant s ⊎ IsVariable k.block s → SubscriptComes k → IsBegun k.block →
    Located k x b is aims need s
located_simple k aims x b is s need simple outside begun closed p numbers taken c index f jumps o line registers l paid
    there next' =
    let w = k.block.call.surroundings in
    let e = k.block.environment in
    let t = in_registers k.words taken in
    let h = point_frame o.stands o.image in
    let n = brought_simple k s simple begun p numbers h o index f there in
    let same = element_is e t x b s is.initial is.known.declared ∙ ap (λ q. element_code q e t x b s) n.simple in
    let size = ap (λ u. size_of u) same in
    simple_does k x b is s outside begun closed nothing_beside p numbers taken c index f jumps h o line n
    (subst (Linked w.links k.block.call.code index) same l) (omega (arith, paid, size)) (λ b'. known_in h (there b') tt)
    (λ between holds el f' finds.
    subst (λ m. aims.done m f' (services_of p) (found b p.state holds n.z) p.state) (omega (arith, size))
    (next' p numbers h n.z between o (omega arith) refl (λ m less. refl) holds el f'
    (λ b'. record { pc = (finds b').pc ∙ ap (address b') (omega (arith, size)); holds = (finds b').holds })))

pub located_does :
    (k : Setting) (aims : Aims V.Designated) (x : Spot) (b : Bounds) (is : IsArray k.block x b) (s : Y.Number)
    (need : ℕ) → SubscriptComes k → IsBegun k.block → IsSubscript k 0 need s → Located k x b is aims need s
located_does k aims x b is s need outside begun (inl waiting) =
    located_waiting k aims x b is s need outside begun waiting
located_does k aims x b is s need outside begun (inr simple) =
    located_simple k aims x b is s need simple outside begun

-- ---- what is loaded

pub element_does :
    (k : Setting) (x : Spot) (b : Bounds) (s : Y.Number) (need : ℕ) → IsBegun k.block → IsArray k.block x b →
    SubscriptComes k → IsSubscript k 0 need s → L.Does k need (Y.NumberIn (element x s))
element_does k x b s need begun is outside subscript p numbers taken c index f o line registers l paid there =
    let w = k.block.call.surroundings in
    let code = k.block.call.code in
    let e = k.block.environment in
    let t = in_registers k.words taken in
    let r = reference_code e t (element x s) in
    let whole' = number_code e t (Y.NumberIn (element x s)) in
    let same = loaded_is e t x b s is.initial is.known.declared in
    let size = ap (λ u. size_of u) same in
    let n1 = size_append r (loads e x) in
    let l' = subst (Linked w.links code index) same l in
    let place = number_place e x in
    let goal = number_aims k.block k.labels (behind p numbers taken c index whole') in
    let closed = number_closed k.block k.labels (behind p numbers taken c index whole') in
    subst (Comes code c f (services_of p) goal) (sym (number_meant k.around x s w.acts p.state))
    (comes_on w.acts (V.designated k.around (element x s) w.acts p.state) (λ d. number_of d)
    (located_does k (before code goal w.acts (λ d. number_of d)) x b is s need outside begun subscript
    (before_closed w.acts (λ d. number_of d) closed) p numbers taken c index f
    (refl, λ c' f' v' height label s' q. q) o line registers (front_of r (loads e x) l')
    (omega (arith, paid, size, n1)) there
    (λ q after h i between among since line' stays holds el f' finds.
    let base = first_base in
    let at' = element_at k.block x b is i in
    let small' = frame_small k.block x b is i between in
    let even = (el.tells (f' base).machine.memory (finds base).holds.body.memory.storage).1 in
    let load' = narrow_load_from (c + size_of r) f' a0 u3 Load.Word (pos place)
    (is.known.base + 4 * place_at b i) at' (λ b'. word el.y) (place_is k.block x b is i between even)
    (omega (arith, small')) (λ y u. refl) (λ b' w' o'. o'.regs.0) (λ b' m stands. (el.tells m stands.storage).0)
    (record { reserved_stay = λ y u. refl; known_stay = λ b' y u o'. (o'.0, tt); set = λ y u. refl })
    (record { reserved_stay = λ y u. refl; known_stay = λ b' y u o'. (o'.0, tt); set = λ y u. refl })
    (back_of r (loads e x) l') finds in
    subst (Comes code (c + size_of r) f' (services_of q) goal)
    (sym (number_is b holds.serial holds.values i el.y w.acts q.state el.value))
    (record {
      to = λ early. (
        el.wide,
        record {
          point = q;
          numbers = after;
          among = among;
          since = since;
          line = line';
          stays = stays;
          state = refl;
          reach = reach_with (c + size_of whole') (omega (arith, size, n1))
              (reach_map _ load' (λ b' y u. (
                subst (λ j. IsIn w q after j b' y) (omega (arith, size, n1)) (in_known h among.image.parts u),
                u.holds.regs.0,
              )));
        },
      );
    }))))
