-- The code that counts the place of an element by its subscripts, row by row: each is tested on its way.
use Rattle.std.proofs.Common.{◌≡◌, ℕ, ◌+◌, ◌*◌, ◌%◌, ◌^◌, ◌<◌, ◌≤◌, List, [], ◌∷◌, ◌++◌, Bool, true, false, refl}
use Rattle.std.proofs.Common.{ap, ◌∙◌, subst, arith}
use Rattle.std.specs.Prelude.{ℤ, pos, ◌-ℤ◌, ◌+ℤ◌, ◌&&◌, int_le, length, map, suc, zero, if◌then◌else◌}
use Rattle.std.proofs.Math.Nat.{mul-le-mul_left, mul-le-mul_right, mul_assoc}
use Rattle.std.proofs.lemmas.Int.{ints}
use Rattle.std.proofs.lemmas.Bool.Decides.{nat_tests}
use Rattle.rv_meaning.specs.declared.instr.Instr.{Instr}
use Rattle.rv_meaning.specs.Machine.{written}
use Rattle.rv_meaning.specs.Words.{sum, word}
use Rattle.pli_typing.specs.Signatures.{Bounds, element_count, natural, span}
use Rattle.pli_typing.specs.TypedTree as Y
use Rattle.pli_meaning.specs.Contents.{element_place, is_within}
use Rattle.pli_meaning.specs.Control.{choose, give}
use Rattle.pli_meaning.specs.Raising as R
use Rattle.pli_serving.specs.ServiceState.{Services}
use Rattle.pli_coding.specs.Assembly.{Code, size_of}
use Rattle.pli_coding.specs.Environments.{fetch, with_number}
use Rattle.pli_coding.specs.Linking.{Links}
use Rattle.pli_coding.specs.Locating.{are_simple, counted_in, is_simple, place_kept, simple_loaded}
use Rattle.pli_coding.specs.Locating.{subscript_counted, subscript_given, subscripts_counted}
use Rattle.pli_coding.specs.Registers.{u1}
use Rattle.activation_relation.specs.Layers.{Point, services_of}
use Rattle.image_runs.specs.Runs.{Whole}
use Rattle.run_steps.specs.Bodies.{Ground, Known, with'}
use Rattle.run_steps.proofs.Bodies.{set_known}
use Rattle.run_steps.specs.Engine.{Base, address}
use Rattle.run_steps.specs.Items.{At, Linked}
use Rattle.run_steps.proofs.Items.{straight}
use Rattle.run_steps.proofs.Jumps.{back_of, front_of, linked_at}
use Rattle.run_steps.proofs.Linking.{size_append}
use Rattle.run_steps.specs.Numbers.{IsWide}
use Rattle.run_steps.proofs.Numbers.{word_small}
use Rattle.run_steps.specs.Reach.{Aims, Closed, Comes, Family, Reach, cost}
use Rattle.run_steps.proofs.Reach.{onward}
use Rattle.block_runs.proofs.PointGrounds.{point_ground}
use Rattle.program_runs.specs.Statements.{IsAmong}
use Rattle.expression_runs.specs.Values.{HasRegisters, Setting, in_registers}
use Rattle.expression_runs.proofs.Saving.{fetched_reach, next_taken, register_left}
use Rattle.expression_runs.proofs.Words.{frame_of}
use Rattle.element_runs.specs.Arrays.{IsBounds, constant_bounds}
use Rattle.element_runs.specs.Subscripts.{SubscriptComes}
use Rattle.element_runs.proofs.Bounds.{inside_span, place_at}
use Rattle.element_runs.proofs.SubscriptTests.{Beside, Jumps, free_with}
use Rattle.array_runs.specs.Arrays.{AreBounds}
use Rattle.array_runs.proofs.Simple.{Apart, Brought}
use Rattle.array_runs.proofs.Testing.{last_of, range_word, tested_does, tested_size, then_size}

-- ---- what waits

-- a subscript waits in a register
pub record Held (k : Setting) (numbers : ℕ → ℕ) (taken : ℕ) (z : ℤ) : Type 0 where
  pub wide : IsWide z
  pub waits : numbers taken ≡ word z

-- it comes into u1 by itself, or from there
abbrev pub IsFound : Bool → (k : Setting) (p : Point) (numbers : ℕ → ℕ) (h : frame_of k.block p) (taken : ℕ) →
    Y.Number → ℤ → Type 0
IsFound true k p numbers h taken s z = Brought k s p numbers h z
IsFound false k p numbers h taken s z = Held k numbers taken z

-- each of them, in their order
abbrev pub AreFound : (k : Setting) (p : Point) (numbers : ℕ → ℕ) (h : frame_of k.block p) (taken : ℕ) →
    List Bounds → Y.Numbers → List ℤ → Type 0
AreFound k p numbers h taken [] Y.NoNumber [] = Unit {0}
AreFound k p numbers h taken (b ∷ bs) (Y.NumberThen s rest) (z ∷ zs) =
    IsFound (is_simple k.block.environment s && are_simple k.block.environment rest) k p numbers h taken s z
    × HasRegisters k taken 1 × AreFound k p numbers h (taken + 1) bs rest zs
AreFound k p numbers h taken _ _ _ = ⊥

wide_found :
    (q : Bool) (k : Setting) (p : Point) (numbers : ℕ → ℕ) (h : frame_of k.block p) (taken : ℕ) (s : Y.Number)
    (z : ℤ) → IsFound q k p numbers h taken s z → IsWide z
wide_found true k p numbers h taken s z is = is.wide
wide_found false k p numbers h taken s z is = is.wide

given_reach :
    (q : Bool) (k : Setting) (p : Point) (numbers : ℕ → ℕ) (h : frame_of k.block p) (taken : ℕ) (s : Y.Number)
    (z : ℤ) {i : ℕ} {ys : Base → List (ℕ × ℕ)} → IsFound q k p numbers h taken s z → HasRegisters k taken 1 →
    Apart ys → (c : ℕ) (f : Family) →
    Linked k.block.call.surroundings.links k.block.call.code i
    (if q then simple_loaded k.block.environment u1 s else fetch u1 (in_registers k.words taken)) →
    ((b : Base) → At b i (Known (point_ground k.block.call.surroundings p h) (services_of p) numbers (λ j. 0) ys b)
    (f b)) →
    Reach k.block.call.code c f (services_of p)
    (c + size_of (if q then simple_loaded k.block.environment u1 s else fetch u1 (in_registers k.words taken)))
    (services_of p)
    (λ b y.
    At b (i + size_of (if q then simple_loaded k.block.environment u1 s else fetch u1 (in_registers k.words taken)))
    (Known (point_ground k.block.call.surroundings p h) (services_of p) numbers (λ j. 0) (with' 6 (λ b'. word z) ys) b)
    y)
given_reach true k p numbers h taken s z {i} {ys} is one apart c f l at = is.brings ys c i f apart l at
given_reach false k p numbers h taken s z is one apart c f l at =
    fetched_reach k taken 0 h one c f u1 (word z) (word_small z is.wide) is.waits apart.free1 apart.far l at

-- ---- the place

-- behind so many of the dimensions before
abbrev pub counted : (m : ℕ) → List Bounds → List ℤ → ℕ
counted m [] zs = m
counted m (b ∷ bs) [] = m
counted m (b ∷ bs) (z ∷ zs) = counted (m * span b + place_at b z) bs zs

regrouped : (m s p e r : ℕ) → (m * s + p) * e + r ≡ m * (s * e) + (p * e + r)
regrouped m s p e r = let a = mul_assoc m s e in grind (arith, a)

-- it is that of the storage machine
pub counted_is :
    (m : ℕ) (bs : List Bounds) (zs : List ℤ) → is_within bs zs ≡ true →
    counted m bs zs ≡ m * element_count bs + element_place bs zs
counted_is m [] [] is = omega arith
counted_is m [] (z ∷ zs) is = absurd (cc is)
counted_is m (b ∷ bs) [] is = absurd (cc is)
counted_is m (b ∷ bs) (z ∷ zs) is =
    counted_is (m * span b + place_at b z) bs zs
    (rest_within (int_le b.lower z) (int_le z b.upper) (is_within bs zs) is)
    ∙ regrouped m (span b) (place_at b z) (element_count bs) (element_place bs zs)
  where
    rest_within : (p q r : Bool) → p && (q && r) ≡ true → r ≡ true
    rest_within true true r e = e
    rest_within true false r e = absurd (cc e)
    rest_within false q r e = absurd (cc e)

-- so few elements are there in all
abbrev pub most_elements : ℕ
most_elements = 2 ^ 24

pub count_some : (bs : List Bounds) → AreBounds bs → 1 ≤ element_count bs
count_some [] are = omega arith
count_some (b ∷ bs) are =
    let more = count_some bs are.1 in
    let one = span_some b are.0 in
    let product = mul-le-mul_right (element_count bs) one in
    omega (arith, more, product)
  where
    span_by : (l u : ℤ) → int_le l u ≡ true → 1 ≤ natural (u -ℤ l +ℤ pos 1)
    span_by l u e = grind (arith, ints, nat_tests)

    span_some : (b : Bounds) → IsBounds b → 1 ≤ span b
    span_some b is = span_by b.lower b.upper is.order

few_after :
    (m n s e : ℕ) → suc m * (s * e) ≤ most_elements → n < s → 1 ≤ e →
    (suc (m * s + n) * e ≤ most_elements) × (m * s + n < most_elements)
few_after m n s e few less some =
    let a = mul_assoc (suc m) s e in
    let b : suc (m * s + n) ≤ suc m * s = grind (arith, less) in
    let c = mul-le-mul_right e b in
    let d = mul-le-mul_right (suc (m * s + n)) some in
    (grind (arith, a, c, few), grind (arith, a, c, d, few))

-- ---- single pieces

moved_sum : (x m : ℕ) → x ≡ m → m < 2 ^ 32 → sum x (word (pos 0)) ≡ m
moved_sum x m e h = omega (arith, e, h)

-- the place so far waits in u4
moved_piece :
    {links : Links} {code : List Instr} {i : ℕ} {g : Ground} {v : Services} {h t : ℕ → ℕ} {ys : Base → List (ℕ × ℕ)}
    (c : ℕ) (f : Family) (m n : ℕ) → Beside ys → m < 2 ^ 32 → Linked links code i (place_kept (suc n)) →
    ((b : Base) → At b i (Known g v h t (with' 6 (λ b'. m) ys) b) (f b)) →
    Reach code c f v (c + size_of (place_kept (suc n))) v
    (λ b w. At b (i + size_of (place_kept (suc n))) (Known g v h t (with' 29 (λ b'. m) ys) b) w)
moved_piece {g = g} {v = v} {h = h} {t = t} {ys = ys} c f m n beside small' l at =
    straight c f v v (λ b. Known g v h t (with' 29 (λ b'. m) ys) b) l (omega arith) (λ b. (at b).pc)
    (λ b.
    let o = (at b).holds in
    set_known (f b) 29 _ _ (λ b'. m) beside.free4 (moved_sum _ m o.regs.0 small')
    (record { body = o.body; regs = o.regs.1 }))

range_by :
    (l u : ℤ) → int_le l u ≡ true → natural (u -ℤ l +ℤ pos 1) < 2 ^ 32 →
    sum (word (u -ℤ l)) (word (pos 1)) ≡ natural (u -ℤ l +ℤ pos 1)
range_by l u e few = grind (arith, ints, nat_tests)

product_is : (x y m s : ℕ) → x ≡ m → y ≡ s → m * s < 2 ^ 32 → x * y % 2 ^ 32 ≡ m * s
product_is x y m s e e' few =
    ap (λ u. u * y % 2 ^ 32) e ∙ ap (λ u. m * u % 2 ^ 32) e' ∙ small_is (m * s) few
  where
    small_is : (n : ℕ) → n < 2 ^ 32 → n % 2 ^ 32 ≡ n
    small_is n h = omega (arith, h)

-- the distance in u1 becomes the place among the elements of one more dimension
counted_piece :
    {links : Links} {code : List Instr} {i : ℕ} {g : Ground} {v : Services} {h t : ℕ → ℕ} {ys : Base → List (ℕ × ℕ)}
    (c : ℕ) (f : Family) (b : Bounds) (m n d : ℕ) → Beside ys → IsBounds b → span b < 2 ^ 32 → m * span b + n < 2 ^ 32 →
    Linked links code i (counted_in (suc d)) →
    ((b' : Base) → At b' i (Known g v h t
    (with' 7 (λ b0. range_word b) (with' 6 (λ b0. n) (with' 29 (λ b0. m) ys))) b') (f b')) →
    Reach code c f v (c + size_of (counted_in (suc d))) v
    (λ b' w. At b' (i + size_of (counted_in (suc d))) (Known g v h t (with' 6 (λ b0. m * span b + n) ys) b') w)
counted_piece {g = g} {v = v} {h = h} {t = t} {ys = ys} c f b m n d beside is few small' l at =
    straight c f v v (λ b'. Known g v h t (with' 6 (λ b0. m * span b + n) ys) b') l (omega arith) (λ b'. (at b').pc)
    (λ b'.
    let o = (at b').holds in
    let w0 = f b' in
    let x7 = sum (w0.machine.registers 7) (word (pos 1)) in
    let w1 : Whole = record {
      machine = record {
        registers = written w0.machine.registers 7 x7;
        memory = w0.machine.memory;
        pc = w0.machine.pc;
      };
      services = w0.services;
    } in
    let k1 : Known g v h t (with' 7 (λ b0. span b) (with' 6 (λ b0. n) (with' 29 (λ b0. m) ys))) b' w1 =
    set_known w0 7 x7 w0.machine.pc (λ b0. span b)
    (free_with 6 (λ b0. n) (λ x y. refl) (free_with 29 (λ b0. m) (λ x y. refl) beside.free2))
    (ap (λ u. sum u (word (pos 1))) o.regs.0 ∙ range_by b.lower b.upper is.order few)
    (record { body = o.body; regs = o.regs.1 }) in
    let x29 = w1.machine.registers 29 * w1.machine.registers 7 % 2 ^ 32 in
    let w2 : Whole = record {
      machine = record {
        registers = written w1.machine.registers 29 x29;
        memory = w0.machine.memory;
        pc = w0.machine.pc;
      };
      services = w0.services;
    } in
    let k2 : Known g v h t (with' 29 (λ b0. m * span b) (with' 6 (λ b0. n) ys)) b' w2 =
    set_known w1 29 x29 w0.machine.pc (λ b0. m * span b) (free_with 6 (λ b0. n) (λ x y. refl) beside.free4)
    (product_is _ _ m (span b) k1.regs.1.1.0 k1.regs.0 (omega (arith, small')))
    (record { body = k1.body; regs = (k1.regs.1.0, k1.regs.1.1.1) }) in
    set_known w2 6 _ _ (λ b0. m * span b + n) beside.free1
    (sums_to _ _ (m * span b) n k2.regs.0 k2.regs.1.0 small') (record { body = k2.body; regs = k2.regs.1.1 }))
  where
    sums_to : (x y a n' : ℕ) → x ≡ a → y ≡ n' → a + n' < 2 ^ 32 → sum x y ≡ a + n'
    sums_to x y a n' e e' few' = omega (arith, e, e', few')

-- ---- all of them

-- what is known where the code of a dimension begins: behind others the place so far is in u1
abbrev pub places : (dimension m : ℕ) → (Base → List (ℕ × ℕ)) → Base → List (ℕ × ℕ)
places zero m ys = ys
places (suc n) m ys = with' 6 (λ b. m) ys

-- a flow of tests whose code begins behind others
pub record Tested (k : Setting) (p : Point) (numbers : ℕ → ℕ) (aims : Aims (Unit {0})) : Type 1 where
  pub outside : SubscriptComes k
  pub closed : Closed k.block.call.code aims
  pub jumps : Jumps k p.state.world.acts aims
  pub frame : frame_of k.block p
  pub among : IsAmong k.block numbers p
  pub line : p.control.line ≡ k.around.line

-- what goes on where all are within their bounds, with the place in u1
abbrev pub Onward : (k : Setting) (p : Point) (numbers : ℕ → ℕ) (aims : Aims (Unit {0})) → Tested k p numbers aims →
    (ys : Base → List (ℕ × ℕ)) → (end credits place : ℕ) → Type 0
Onward k p numbers aims t ys end credits place =
    (f : Family) →
    ((b : Base) → At b end (Known (point_ground k.block.call.surroundings p t.frame) (services_of p) numbers (λ j. 0)
    (with' 6 (λ b'. place) ys) b) (f b)) →
    aims.done credits f (services_of p) tt p.state

within_all : (p q r : Bool) → p && q ≡ true → r ≡ true → p && (q && r) ≡ true
within_all true true r e f = f
within_all true false r e f = absurd (cc e)
within_all false q r e f = absurd (cc e)

abbrev pub count_code : (k : Setting) (taken dimension : ℕ) → Y.Numbers → List Bounds → Code
count_code k taken dimension xs bs =
    subscripts_counted k.block.environment (in_registers k.words taken) dimension xs (map constant_bounds bs)

pub count_more :
    (k : Setting) {p : Point} {numbers : ℕ → ℕ} {aims : Aims (Unit {0})} (t : Tested k p numbers aims)
    {ys : Base → List (ℕ × ℕ)} → Beside ys → (xs : Y.Numbers) (bs : List Bounds) (zs : List ℤ) (n m taken : ℕ) →
    AreBounds bs → AreFound k p numbers t.frame taken bs xs zs → suc m * element_count bs ≤ most_elements →
    (c i : ℕ) (f : Family) →
    Linked k.block.call.surroundings.links k.block.call.code i (count_code k taken (suc n) xs bs) →
    c + size_of (count_code k taken (suc n) xs bs) + k.most ≤ cost k.block.call.code →
    ((b : Base) → At b i (Known (point_ground k.block.call.surroundings p t.frame) (services_of p) numbers (λ j. 0)
    (with' 6 (λ b'. m) ys) b) (f b)) →
    (is_within bs zs ≡ true →
    Onward k p numbers aims t ys (i + size_of (count_code k taken (suc n) xs bs))
    (c + size_of (count_code k taken (suc n) xs bs)) (counted m bs zs)) →
    Comes k.block.call.code c f (services_of p) aims
    (R.demanded k.around 102 (is_within bs zs) k.block.call.surroundings.acts p.state)
unfolding R.demanded choose give
count_more k {p} {aims = aims} t beside Y.NoNumber [] [] n m taken are found few c i f l paid at next' =
    record {
      to = λ early.
          subst (λ c'. aims.done c' f (services_of p) tt p.state) (omega arith)
          (next' refl f (λ b. record { pc = (at b).pc ∙ ap (address b) (omega arith); holds = (at b).holds }));
    }
count_more k t beside Y.NoNumber [] (z ∷ zs) n m taken are found few c i f l paid at next' = absurd found
count_more k t beside Y.NoNumber (b ∷ bs) zs n m taken are found few c i f l paid at next' = absurd found
count_more k t beside (Y.NumberThen s rest) [] zs n m taken are found few c i f l paid at next' = absurd found
count_more k t beside (Y.NumberThen s rest) (b ∷ bs) [] n m taken are found few c i f l paid at next' = absurd found
count_more k {p} {numbers} {aims} t {ys} beside (Y.NumberThen s rest) (b ∷ bs) (z ∷ zs) n m taken are found few c i f l
    paid at next' =
    let e = k.block.environment in
    let w = k.block.call.surroundings in
    let links = w.links in
    let code = k.block.call.code in
    let v = services_of p in
    let t0 = in_registers k.words taken in
    let q = is_simple e s && are_simple e rest in
    let ys' : Base → List (ℕ × ℕ) = with' 29 (λ b0. m) ys in
    let apart : Apart ys' = record {
      free1 = free_with 29 (λ b0. m) (λ x y. refl) beside.free1;
      free2 = free_with 29 (λ b0. m) (λ x y. refl) beside.free2;
      far = free_with 29 (λ b0. m) (λ x y. refl) beside.far;
    } in
    let one = found.1 in
    let wide = wide_found q k p numbers t.frame taken s z found.0 in
    let some = count_some bs are.1 in
    let a1 : Code = place_kept (suc n) in
    let a2 : Code = subscript_given e t0 s rest in
    let a3 : Code = subscript_counted (suc n) (constant_bounds b) in
    let a4 : Code = counted_in (suc n) in
    let a5 : Code = subscripts_counted e (with_number t0) (suc (suc n)) rest (map constant_bounds bs) in
    let a5' : Code = count_code k (taken + 1) (suc (suc n)) rest bs in
    let same : a5 ≡ a5' = ap (λ u. subscripts_counted e u (suc (suc n)) rest (map constant_bounds bs))
    (next_taken k.words taken (register_left k taken 1 one (omega arith))) in
    let size5 = ap (λ u. size_of u) same in
    let n1 = size_append a1 (a2 ++ (a3 ++ a5)) in
    let n2 = size_append a2 (a3 ++ a5) in
    let n3 = size_append a3 a5 in
    let n4 = then_size b a4 in
    let l2 = back_of a1 (a2 ++ (a3 ++ a5)) l in
    let l3 = back_of a2 (a3 ++ a5) l2 in
    let l4 = front_of a3 a5 l3 in
    let l5 = subst (Linked links code (i + size_of a1 + size_of a2 + size_of a3)) same (back_of a3 a5 l3) in
    let i3 = i + size_of a1 + size_of a2 in
    let c3 = c + size_of a1 + size_of a2 in
    let small' : m < 2 ^ 32 = few_now m (element_count (b ∷ bs)) few (count_some (b ∷ bs) are) in
    onward t.closed (moved_piece c f m n beside small' (front_of a1 (a2 ++ (a3 ++ a5)) l) at) (λ f1 at1.
    onward t.closed (given_reach q k p numbers t.frame taken s z found.0 one apart (c + size_of a1) f1
    (front_of a2 (a3 ++ a5) l2) at1) (λ f2 at2.
    tested_does k t.outside t.closed t.jumps t.frame t.among t.line apart c3 f2 b z (is_within bs zs) a4 are.0 wide l4
    (omega (arith, paid, n1, n2, n3, n4)) at2
    (λ between f3 at3.
    let less = inside_span b z between in
    let after = few_after m (place_at b z) (span b) (element_count bs) few less some in
    let wide' = few_span m (span b) (element_count bs) few some in
    onward t.closed (counted_piece (c3 + tested_size b) f3 b m (place_at b z) n beside are.0 wide'
    (let small2 = after.1 in omega (arith, small2))
    (linked_at (i3 + tested_size b) a4 (omega arith) (last_of b a4 l4)) at3)
    (λ f4 at4.
    count_more k t beside rest bs zs (suc n) (m * span b + place_at b z) (taken + 1) are.1 found.2 after.0
    (c3 + tested_size b + size_of a4) (i3 + tested_size b + size_of a4) f4
    (linked_at (i3 + tested_size b + size_of a4) a5' (omega (arith, n4)) l5)
    (omega (arith, paid, n1, n2, n3, n4, size5)) at4
    (λ rest_within f5 at5.
    subst (λ c'. aims.done c' f5 v tt p.state) (omega (arith, n1, n2, n3, n4, size5))
    (next' (within_all (int_le b.lower z) (int_le z b.upper) (is_within bs zs) between rest_within) f5
    (λ b'. record {
      pc = (at5 b').pc ∙ ap (address b') (omega (arith, n1, n2, n3, n4, size5));
      holds = (at5 b').holds;
    })))))))
  where
    few_now : (m' e' : ℕ) → suc m' * e' ≤ most_elements → 1 ≤ e' → m' < 2 ^ 32
    few_now m' e' few' some' =
        let a = mul-le-mul_left (suc m') some' in omega (arith, a, few')

    few_span : (m' s' e' : ℕ) → suc m' * (s' * e') ≤ most_elements → 1 ≤ e' → s' < 2 ^ 32
    few_span m' s' e' few' some' = grind (arith, few', some')

-- ---- from the first dimension on

apart_beside : {ys : Base → List (ℕ × ℕ)} → Beside ys → Apart ys
apart_beside b = record { free1 = b.free1; free2 = b.free2; far = b.far }

first_few : (n s e : ℕ) → s * e ≤ most_elements → n < s → 1 ≤ e → suc n * e ≤ most_elements
first_few n s e few less some =
    let after = few_after 0 n s e (grind (arith, few)) less some in
    grind (arith, after)

count_all :
    (k : Setting) {p : Point} {numbers : ℕ → ℕ} {aims : Aims (Unit {0})} (t : Tested k p numbers aims)
    {ys : Base → List (ℕ × ℕ)} → Beside ys → (s : Y.Number) (rest : Y.Numbers) (b : Bounds) (bs : List Bounds)
    (z : ℤ) (zs : List ℤ) (taken : ℕ) → AreBounds (b ∷ bs) →
    AreFound k p numbers t.frame taken (b ∷ bs) (Y.NumberThen s rest) (z ∷ zs) →
    element_count (b ∷ bs) ≤ most_elements → (c i : ℕ) (f : Family) →
    Linked k.block.call.surroundings.links k.block.call.code i
    (count_code k taken 0 (Y.NumberThen s rest) (b ∷ bs)) →
    c + size_of (count_code k taken 0 (Y.NumberThen s rest) (b ∷ bs)) + k.most ≤ cost k.block.call.code →
    ((b : Base) → At b i (Known (point_ground k.block.call.surroundings p t.frame) (services_of p) numbers (λ j. 0)
    ys b) (f b)) →
    (is_within (b ∷ bs) (z ∷ zs) ≡ true →
    Onward k p numbers aims t ys (i + size_of (count_code k taken 0 (Y.NumberThen s rest) (b ∷ bs)))
    (c + size_of (count_code k taken 0 (Y.NumberThen s rest) (b ∷ bs))) (element_place (b ∷ bs) (z ∷ zs))) →
    Comes k.block.call.code c f (services_of p) aims
    (R.demanded k.around 102 (is_within (b ∷ bs) (z ∷ zs)) k.block.call.surroundings.acts p.state)
count_all k {p} {numbers} {aims} t {ys} beside s rest b bs z zs taken are found few c i f l paid at next' =
    let e = k.block.environment in
    let w = k.block.call.surroundings in
    let links = w.links in
    let code = k.block.call.code in
    let v = services_of p in
    let t0 = in_registers k.words taken in
    let apart = apart_beside beside in
    let one = found.1 in
    let wide = wide_found _ k p numbers t.frame taken s z found.0 in
    let some = count_some bs are.1 in
    let a2 : Code = subscript_given e t0 s rest in
    let a3 : Code = subscript_counted 0 (constant_bounds b) in
    let a5 : Code = subscripts_counted e (with_number t0) 1 rest (map constant_bounds bs) in
    let a5' : Code = count_code k (taken + 1) 1 rest bs in
    let same : a5 ≡ a5' = ap (λ u. subscripts_counted e u 1 rest (map constant_bounds bs))
    (next_taken k.words taken (register_left k taken 1 one (omega arith))) in
    let size5 = ap (λ u. size_of u) same in
    let n2 = size_append a2 (a3 ++ a5) in
    let n3 = size_append a3 a5 in
    let n4 = then_size b [] in
    let l3 = back_of a2 (a3 ++ a5) l in
    let l4 = front_of a3 a5 l3 in
    let l5 = subst (Linked links code (i + size_of a2 + size_of a3)) same (back_of a3 a5 l3) in
    let i3 = i + size_of a2 in
    let c3 = c + size_of a2 in
    onward t.closed (given_reach _ k p numbers t.frame taken s z found.0 one apart c f (front_of a2 (a3 ++ a5) l) at)
    (λ f2 at2.
    tested_does k t.outside t.closed t.jumps t.frame t.among t.line apart c3 f2 b z (is_within bs zs) [] are.0 wide l4
    (omega (arith, paid, n2, n3, n4)) at2
    (λ between f3 at3.
    let less = inside_span b z between in
    count_more k t beside rest bs zs 0 (place_at b z) (taken + 1) are.1 found.2
    (first_few (place_at b z) _ (element_count bs) few less some) (c3 + tested_size b) (i3 + tested_size b) f3
    (linked_at (i3 + tested_size b) a5' (omega (arith, n4)) l5) (omega (arith, paid, n2, n3, n4, size5))
    (λ b'. record { pc = (at3 b').pc; holds = record { body = (at3 b').holds.body; regs = (at3 b').holds.regs.1 } })
    (λ rest_within f5 at5.
    subst (λ c'. aims.done c' f5 v tt p.state) (omega (arith, n2, n3, n4, size5))
    (next' (within_all _ _ (is_within bs zs) between rest_within) f5
    (λ b'. record {
      pc = (at5 b').pc ∙ ap (address b') (omega (arith, n2, n3, n4, size5));
      holds = record {
        body = (at5 b').holds.body;
        regs = (
          (at5 b').holds.regs.0 ∙ counted_is (place_at b z) bs zs rest_within,
          (at5 b').holds.regs.1,
        );
      };
    })))))

pub count_any :
    (k : Setting) {p : Point} {numbers : ℕ → ℕ} {aims : Aims (Unit {0})} (t : Tested k p numbers aims)
    {ys : Base → List (ℕ × ℕ)} → Beside ys → (xs : Y.Numbers) (bs : List Bounds) (zs : List ℤ) (taken : ℕ) →
    0 < length bs → AreBounds bs → AreFound k p numbers t.frame taken bs xs zs → element_count bs ≤ most_elements →
    (c i : ℕ) (f : Family) →
    Linked k.block.call.surroundings.links k.block.call.code i (count_code k taken 0 xs bs) →
    c + size_of (count_code k taken 0 xs bs) + k.most ≤ cost k.block.call.code →
    ((b : Base) → At b i (Known (point_ground k.block.call.surroundings p t.frame) (services_of p) numbers (λ j. 0)
    ys b) (f b)) →
    (is_within bs zs ≡ true →
    Onward k p numbers aims t ys (i + size_of (count_code k taken 0 xs bs)) (c + size_of (count_code k taken 0 xs bs))
    (element_place bs zs)) →
    Comes k.block.call.code c f (services_of p) aims
    (R.demanded k.around 102 (is_within bs zs) k.block.call.surroundings.acts p.state)
count_any k t beside xs [] zs taken some are found few c i f l paid at next' = absurd (omega (arith, some))
count_any k t beside Y.NoNumber (b ∷ bs) zs taken some are found few c i f l paid at next' = absurd found
count_any k t beside (Y.NumberThen s rest) (b ∷ bs) [] taken some are found few c i f l paid at next' = absurd found
count_any k t beside (Y.NumberThen s rest) (b ∷ bs) (z ∷ zs) taken some are found few c i f l paid at next' =
    count_all k t beside s rest b bs z zs taken are found few c i f l paid at next'
