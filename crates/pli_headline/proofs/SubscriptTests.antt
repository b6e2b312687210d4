-- The code that tests subscripts against constant bounds, one after the other, and counts the place of an element row by row; a
-- subscript that lies outside ends the run with ERROR 102.
use Rattle.std.proofs.Common.{◌≡◌, ℕ, zero, suc, ◌+◌, ◌*◌, ◌%◌, ◌^◌, ◌<◌, ◌≤◌, List, [], ◌∷◌, ◌++◌, length, map, Bool}
use Rattle.std.proofs.Common.{true, false, refl, sym, ap, ◌∙◌, subst, append_assoc, arith, lit<}
use Rattle.std.specs.Prelude.{ℤ, pos, neg_ℤ, ◌-ℤ◌, cond, not, nat_lt, ◌&&◌, if◌then◌else◌}
use Rattle.std.proofs.lemmas.Int.{ints}
use Rattle.std.proofs.Math.Nat.{mul-le-mul_left, mul-le-mul_right, mul_assoc, add-mul}
use Rattle.rv_meaning.specs.declared.instr.Instr.{Instr}
use Rattle.rv_meaning.specs.declared.instr.BranchTest.TheVariants as Test
use Rattle.rv_meaning.specs.Words.{word, sum}
use Rattle.rv_meaning.specs.Machine.{written}
use Rattle.pli_typing.specs.TypedTree as Y
use Rattle.pli_typing.specs.Signatures.{Bounds, natural, span, element_count}
use Rattle.pli_meaning.specs.Codes.{subscript_code}
use Rattle.pli_meaning.specs.Contents.{same_int, is_within, element_place}
use Rattle.pli_meaning.specs.StorageState.{State}
use Rattle.pli_meaning.specs.Control.{choose, give}
use Rattle.pli_meaning.specs.Raising as R
use Rattle.pli_meaning.specs.Raising.{Around}
use Rattle.pli_serving.specs.ServiceState.{Services}
use Rattle.pli_coding.specs.Registers.{u1, u2, a1}
use Rattle.pli_coding.specs.Assembly.{JumpTo, RaiseError, Code, size_of}
use Rattle.pli_coding.specs.Instructions.{small, plus, constant, skip_where, error_raised}
use Rattle.pli_coding.specs.Frames.{buffer_lower}
use Rattle.pli_coding.specs.Environments.{Environment, Taken, with_number}
use Rattle.pli_coding.specs.Locating.{less_lower, place_kept, counted_in, subscript_counted, subscript_given}
use Rattle.pli_coding.specs.Locating.{subscripts_counted}
use Rattle.pli_coding.specs.Expressions.{given_in}
use Rattle.pli_coding.specs.Linking.{Links}
use Rattle.pli_headline.specs.ProvedSoFar.{constant_bounds, IsBounds, AreBounds}
use Rattle.run_steps.specs.Engine.{Base, address}
use Rattle.run_steps.proofs.Linking.{size_append}
use Rattle.run_steps.specs.Items.{Linked, At}
use Rattle.run_steps.proofs.Items.{straight}
use Rattle.run_steps.specs.Numbers.{IsWide}
use Rattle.run_steps.proofs.Numbers.{word_small}
use Rattle.run_steps.specs.Bodies.{Ground, Known, Free, with'}
use Rattle.run_steps.proofs.Bodies.{set_known, zero_is, constant_piece}
use Rattle.run_steps.proofs.Increments.{plus_own}
use Rattle.run_steps.proofs.Jumps.{front_of, back_of, rest_of, skip_taken, skip_passed, jump_piece}
use Rattle.run_steps.specs.Temporaries.{nothing}
use Rattle.pli_headline.proofs.Serving.{Serving}
use Rattle.pli_headline.proofs.Raising.{Routines, small_is, error_piece}
use Rattle.pli_headline.proofs.Operators.{sum_zero}
use Rattle.pli_headline.proofs.ArrayPlaces.{AllWide, is_between, distance_word, opposite_small, range_small}
use Rattle.pli_headline.proofs.ArrayPlaces.{between_tested, distance_is, span_is, inside_span, count_some}
use Rattle.pli_headline.proofs.ArrayPlaces.{within_next, and_true, suc-times, same_number, span_some}
use Rattle.pli_headline.proofs.Subscripts.{Gives, AllGive}
use Rattle.run_steps.specs.Reach.{Family, Aims, Comes, Closed, Reach}
use Rattle.run_steps.proofs.Reach.{onward}

-- ---- what is known before and behind a dimension

-- what is known beside stays while these registers are written
pub record Beside (ys : Base → List (ℕ × ℕ)) : Type 0 where
  pub free1 : Free ys 6
  pub free2 : Free ys 7
  pub free3 : Free ys 28
  pub free4 : Free ys 29
  pub far : Free ys 31

pub nothing_beside : Beside nothing
nothing_beside =
    record {
      free1 = record { reserved_stay = λ y u. refl; known_stay = λ b y u k. k; set = λ y u. refl };
      free2 = record { reserved_stay = λ y u. refl; known_stay = λ b y u k. k; set = λ y u. refl };
      free3 = record { reserved_stay = λ y u. refl; known_stay = λ b y u k. k; set = λ y u. refl };
      free4 = record { reserved_stay = λ y u. refl; known_stay = λ b y u k. k; set = λ y u. refl };
      far = record { reserved_stay = λ y u. refl; known_stay = λ b y u k. k; set = λ y u. refl };
    }

-- and that of a register that isn't written
pub free_with : {ys : Base → List (ℕ × ℕ)} {r : ℕ} (n : ℕ) (u : Base → ℕ)
    → ((x : ℕ → ℕ) (y : ℕ) → written x r y n ≡ x n) → Free ys r → Free (with' n u ys) r
free_with n u apart free =
    record {
      reserved_stay = free.reserved_stay;
      known_stay = λ b x y k. (apart x y ∙ k.0, free.known_stay b x y k.1);
      set = free.set;
    }

-- the place among the elements of the dimensions so far, in u1
abbrev pub counted_regs : (dimension place : ℕ) → (Base → List (ℕ × ℕ)) → Base → List (ℕ × ℕ)
counted_regs zero place ys = ys
counted_regs (suc n) place ys = with' 6 (λ b. place) ys

-- and in u4, while the next subscript comes into u1
abbrev kept_regs : (dimension place : ℕ) → (Base → List (ℕ × ℕ)) → Base → List (ℕ × ℕ)
kept_regs zero place ys = ys
kept_regs (suc n) place ys = with' 29 (λ b. place) ys

-- nothing is counted before the first one
abbrev pub IsCounted : (dimension place : ℕ) → Type 0
IsCounted zero place = place ≡ 0
IsCounted (suc n) place = Unit {0}

abbrev pub place_behind : ℕ → Bounds → ℤ → ℕ
place_behind place b z = place * span b + natural (z -ℤ b.lower)

-- a subscript in u1
abbrev given_regs : (dimension place x : ℕ) → (Base → List (ℕ × ℕ)) → Base → List (ℕ × ℕ)
given_regs d place x ys = with' 6 (λ b. x) (kept_regs d place ys)

-- its distance from the lower bound in u1, that of the bounds in u2
abbrev tested_regs : (dimension place x range : ℕ) → (Base → List (ℕ × ℕ)) → Base → List (ℕ × ℕ)
tested_regs d place x range ys = with' 7 (λ b. range) (given_regs d place x ys)

kept_free1 : {ys : Base → List (ℕ × ℕ)} (d place : ℕ) → Beside ys → Free (kept_regs d place ys) 6
kept_free1 zero place o = o.free1
kept_free1 (suc d) place o = free_with 29 (λ b. place) (λ x y. refl) o.free1

kept_free2 : {ys : Base → List (ℕ × ℕ)} (d place : ℕ) → Beside ys → Free (kept_regs d place ys) 7
kept_free2 zero place o = o.free2
kept_free2 (suc d) place o = free_with 29 (λ b. place) (λ x y. refl) o.free2

kept_far : {ys : Base → List (ℕ × ℕ)} (d place : ℕ) → Beside ys → Free (kept_regs d place ys) 31
kept_far zero place o = o.far
kept_far (suc d) place o = free_with 29 (λ b. place) (λ x y. refl) o.far

given_far : {ys : Base → List (ℕ × ℕ)} (d place x : ℕ) → Beside ys → Free (given_regs d place x ys) 31
given_far d place x o = free_with 6 (λ b. x) (λ y u. refl) (kept_far d place o)

given_u2 : {ys : Base → List (ℕ × ℕ)} (d place x : ℕ) → Beside ys → Free (given_regs d place x ys) 7
given_u2 d place x o = free_with 6 (λ b. x) (λ y u. refl) (kept_free2 d place o)

-- ---- one dimension

-- the place makes room for the next subscript
place_piece : (d : ℕ) {links : Links} {code : List Instr} {i : ℕ} {g : Ground} {v : Services} {h t : ℕ → ℕ} {ys :
    Base → List (ℕ × ℕ)} (c : ℕ) (f : Family) (place : ℕ) → Beside ys → place < 2 ^ 32
    → Linked links code i (place_kept d) → ((b : Base) → At b i (Known g v h t (counted_regs d place ys) b) (f b))
    → Reach code c f v (c + size_of (place_kept d)) v
    (λ b w. At b (i + size_of (place_kept d)) (Known g v h t (kept_regs d place ys) b) w)
place_piece zero {g = g} {v = v} {h = h} {t = t} {ys = ys} c f place beside few l at =
    straight c f v v (λ b. Known g v h t ys b) l (omega arith) (λ b. (at b).pc) (λ b. (at b).holds)
place_piece (suc d) {g = g} {v = v} {h = h} {t = t} {ys = ys} c f place beside few l at =
    straight c f v v (λ b. Known g v h t (with' 29 (λ b'. place) ys) b) l (omega arith) (λ b. (at b).pc)
    (λ b.
    let o = (at b).holds in
    set_known (f b) 29 (sum ((f b).machine.registers 6) (word (pos 0))) _ (λ b'. place) beside.free4
    (sum_zero _ place o.regs.0 few) (record { body = o.body; regs = o.regs.1 }))

-- the distance from a lower bound of 0 is the subscript
no_distance : (lower z : ℤ) → same_int lower (pos 0) ≡ true → word z < 2 ^ 32
    → word z ≡ sum (word z) (word (neg_ℤ lower))
no_distance lower z e small' =
    let n : sum (word z) (word (neg_ℤ (pos 0))) ≡ word z = sum_zero (word z) (word z) refl small' in
    sym (ap (λ l. sum (word z) (word (neg_ℤ l))) (same_number lower (pos 0) e) ∙ n)

less_piece : (q : Bool) {links : Links} {code : List Instr} {i : ℕ} {g : Ground} {v : Services} {h t : ℕ → ℕ} {rs :
    Base → List (ℕ × ℕ)} (c : ℕ) (f : Family) (lower z : ℤ) → same_int lower (pos 0) ≡ q → IsWide lower → IsWide z
    → Free rs 6 → Free (with' 6 (λ b. word z) rs) 31 → Linked links code i (cond q [] (plus u1 u1 (neg_ℤ lower)))
    → ((b : Base) → At b i (Known g v h t (with' 6 (λ b'. word z) rs) b) (f b))
    → Reach code c f v (c + size_of (cond q [] (plus u1 u1 (neg_ℤ lower)))) v
    (λ b w. At b (i + size_of (cond q [] (plus u1 u1 (neg_ℤ lower))))
    (Known g v h t (with' 6 (λ b'. sum (word z) (word (neg_ℤ lower))) rs) b) w)
less_piece true {g = g} {v = v} {h = h} {t = t} {rs = rs} c f lower z e narrow wide free far l at =
    straight c f v v (λ b. Known g v h t (with' 6 (λ b'. sum (word z) (word (neg_ℤ lower))) rs) b) l (omega arith)
    (λ b. (at b).pc)
    (λ b. let o = (at b).holds in record {
      body = o.body;
      regs =
          (o.regs.0 ∙ no_distance lower z e (word_small z wide), o.regs.1);
    })
less_piece false c f lower z e narrow wide free far l at =
    plus_own c f u1 (neg_ℤ lower) (λ b. word z) (λ b. sum (word z) (word (neg_ℤ lower))) (opposite_small lower narrow)
    (λ b. word_small z wide) (λ y u. refl) (λ b. refl) free far l at

next_range : (range n : ℕ) → n ≡ range + 1 → range < 2 ^ 31 → sum range (word (pos 1)) ≡ n
next_range range n e few = omega (arith, ints, e, few)

row_times : (x y place n : ℕ) → x ≡ place → y ≡ n → place * n < 2 ^ 32 → x * y % 2 ^ 32 ≡ place * n
row_times x y place n e f small' = ap (λ u. u * y % 2 ^ 32) e ∙ ap (λ u. place * u % 2 ^ 32) f ∙ omega (arith, small')

row_sum : (x y p n : ℕ) → x ≡ p → y ≡ n → p + n < 2 ^ 32 → sum x y ≡ p + n
row_sum x y p n e f small' = ap (λ u. sum u y) e ∙ ap (λ u. sum p u) f ∙ omega (arith, small')

-- what the code of a dimension counts
counted_piece : (d : ℕ) {links : Links} {code : List Instr} {i : ℕ} {g : Ground} {v : Services} {h t : ℕ → ℕ} {ys :
    Base → List (ℕ × ℕ)} (c : ℕ) (f : Family) (place x range n : ℕ) → Beside ys → IsCounted d place → n ≡ range + 1
    → place * n + x < 2 ^ 31 → range < 2 ^ 31 → Linked links code i (counted_in d)
    → ((b : Base) → At b i (Known g v h t (tested_regs d place x range ys) b) (f b))
    → Reach code c f v (c + size_of (counted_in d)) v
    (λ b w. At b (i + size_of (counted_in d)) (Known g v h t (counted_regs (suc d) (place * n + x) ys) b) w)
counted_piece zero {g = g} {v = v} {h = h} {t = t} {ys = ys} c f place x range n beside none e small' few l at =
    let first : place * n ≡ 0 * n = ap (λ u. u * n) none in
    straight c f v v (λ b. Known g v h t (with' 6 (λ b'. place * n + x) ys) b) l (omega arith) (λ b. (at b).pc)
    (λ b. let o = (at b).holds in record { body = o.body; regs = (o.regs.1.0 ∙ omega (arith, first), o.regs.1.1) })
counted_piece (suc d) {g = g} {v = v} {h = h} {t = t} {ys = ys} c f place x range n beside none e small' few l at =
    straight c f v v (λ b. Known g v h t (with' 6 (λ b'. place * n + x) ys) b) l (omega arith) (λ b. (at b).pc)
    (λ b.
    let o = (at b).holds in
    let r = (f b).machine.registers in
    let free2 : Free (with' 6 (λ b'. x) (with' 29 (λ b'. place) ys)) 7 =
    free_with 6 (λ b'. x) (λ y u. refl) (free_with 29 (λ b'. place) (λ y u. refl) beside.free2) in
    let free4 : Free (with' 7 (λ b'. n) (with' 6 (λ b'. x) ys)) 29 =
    free_with 7 (λ b'. n) (λ y u. refl) (free_with 6 (λ b'. x) (λ y u. refl) beside.free4) in
    let here = (f b).machine.pc in
    let k1 =
    set_known (f b) 7 (sum (r 7) (word (pos 1))) here (λ b'. n) free2 (ap (λ u. sum u (word (pos 1))) o.regs.0
    ∙ next_range range n e few) (record { body = o.body; regs = o.regs.1 }) in
    let k2 =
    set_known _ 29 _ here (λ b'. place * n) free4
    (row_times _ _ place n k1.regs.1.1.0 k1.regs.0 (omega (arith, small'))) (record {
      body = k1.body;
      regs =
          (k1.regs.0, (k1.regs.1.0, k1.regs.1.1.1));
    }) in
    set_known _ 6 _ _ (λ b'. place * n + x) beside.free1
    (row_sum _ _ (place * n) x k2.regs.0 k2.regs.1.1.0 (omega (arith, small'))) (record {
      body = k2.body;
      regs =
          k2.regs.1.1.1;
    }))

-- a place among so many elements has no more than these
place_few : (place n x : ℕ) → x < n → suc place * n ≤ 2 ^ 20 → place * n + x < 2 ^ 20
place_few place n x h few = let one = suc-times place n in omega (arith, few, one, h)

-- a subscript that isn't within its bounds
outside_piece : {links : Links} {code : List Instr} {i : ℕ} {g : Ground} {v : Services} {h t : ℕ → ℕ} {rs : Base → List (ℕ × ℕ)} {s : State} {aims : Aims (Unit {0})} (closed : Closed code aims) (routines : Routines links code) (f : Family) (around : Around) (k : ℕ) → Linked links code i (error_raised subscript_code) → Serving k s v around.line → ((b : Base) → At b i (Known g v h t rs b) (f b)) → Comes code i f v aims (R.error {R = Unit {0}} around 102 k s)
outside_piece {links = links} {code = code} {i = i} {g = g} {v = v} {h = h} {t = t} closed routines f around k l serving at =
    let front = small a1 102 ∷ [] in
    let last = JumpTo RaiseError ∷ [] in
    let l1 = back_of front last l in
    let inside = l.inside in
    let far = routines.linked.inside in
    let r = straight i f v v (λ b. Known g v h t (λ b'. (11, 102) ∷ []) b) (front_of front last l) (omega arith) (λ b. (at b).pc)
    (λ b. let o = (at b).holds in record {
      body = record { services = o.body.services; registers = o.body.registers; bytes = o.body.bytes; memory = o.body.memory };
      regs = (small_is _ 102 (zero_is o.body) (lit< tt), tt);
    }) in
    onward closed r (λ f1 at1.
    let q = jump_piece (i + 1) (i + 1 + 2) f1 RaiseError (routines.at + 8) (omega arith) routines.error (let m = routines.linked.small' in omega (arith, far, m)) (record { reserved_stay = λ y u. refl; known_stay = λ b y u p. p; set = λ y u. refl }) l1 at1 in
    onward closed q (λ f2 at2. error_piece closed routines (i + 1 + 2) f2 around 102 k (lit< tt) (omega (arith, inside, far)) serving at2))

abbrev tested_skip : Code
tested_skip = skip_where Test.GreaterOrEqualUnsigned u2 u1 (error_raised subscript_code)

-- the test of a distance, and what is counted where the subscript lies within its bounds
test_piece : (q : Bool) {links : Links} {code : List Instr} {i : ℕ} {g : Ground} {v : Services} {h t : ℕ → ℕ} {ys :
    Base → List (ℕ × ℕ)} {s : State} {aims : Aims (Unit {0})} (closed : Closed code aims) (routines :
    Routines links code) (f : Family) (around : Around) (d place k : ℕ) (bounds : Bounds) (z : ℤ) (rest : Bool)
    → Beside ys → is_between bounds z ≡ q → IsBounds bounds → IsWide z → IsCounted d place
    → suc place * span bounds ≤ 2 ^ 20 → Linked links code i (tested_skip ++ counted_in d) → Serving k s v around.line
    → ((b : Base)
    → At b i (Known g v h t (tested_regs d place (distance_word bounds z) (word (bounds.upper -ℤ bounds.lower)) ys) b)
    (f b)) → (is_between bounds z ≡ true → (f' : Family)
    → ((b : Base)
    → At b (i + size_of (tested_skip ++ counted_in d))
    (Known g v h t (counted_regs (suc d) (place_behind place bounds z) ys) b) (f' b))
    → Comes code (i + size_of (tested_skip ++ counted_in d)) f' v aims (R.demanded around 102 rest k s))
    → Comes code i f v aims (R.demanded around 102 (q && rest) k s)
unfolding R.demanded choose
test_piece true {code = code} {i = i} {g = g} {v = v} {h = h} {t = t} {ys = ys} {s = s} {aims =
    aims} closed routines f around d place k bounds z rest beside e is wide counted few l serving at next' =
    let last = counted_in d in
    let x = distance_word bounds z in
    let n = natural (z -ℤ bounds.lower) in
    let range = word (bounds.upper -ℤ bounds.lower) in
    let size = size_append tested_skip last in
    let there : i + 4 + size_of last ≡ i + size_of (tested_skip ++ last) = omega (arith, size) in
    let same = distance_is bounds z is wide e in
    let inside = inside_span bounds z e in
    let most = place_few place (span bounds) n inside few in
    let one = suc-times place (span bounds) in
    let spans = span_is bounds is in
    let value : place * span bounds + x ≡ place_behind place bounds z = ap (λ u. place * span bounds + u) same in
    onward closed (skip_taken i f Test.GreaterOrEqualUnsigned u2 u1 (error_raised subscript_code) (front_of tested_skip last l) at
    (λ b. let o = (at b).holds.regs in
    ap (λ u. if nat_lt u ((f b).machine.registers 6) then false else true) o.0
    ∙ ap (λ u. if nat_lt range u then false else true) o.1.0
    ∙ ap (λ u. if u then false else true) (between_tested bounds z is wide)
    ∙ ap (λ u. if not u then false else true) e))
    (λ f1 at1.
    onward closed (counted_piece d (i + 4) f1 place x range (span bounds) beside counted spans
    (omega (arith, most, value)) (omega (arith, few, one, spans)) (back_of tested_skip last l) at1)
    (λ f2 at2.
    subst (λ u. Comes code u f2 v aims (R.demanded around 102 rest k s)) (sym there)
    (next' e f2 (λ b. record {
      pc = (at2 b).pc ∙ ap (address b) there;
      holds =
          subst (λ u. Known g v h t (counted_regs (suc d) u ys) b (f2 b)) value (at2 b).holds;
    }))))
test_piece false {g = g} {v = v} {h = h} {t = t} {ys = ys} closed routines f around d place k bounds z rest beside e
    is wide counted few l serving at next' =
    let last = counted_in d in
    let range = word (bounds.upper -ℤ bounds.lower) in
    let l1 = front_of tested_skip last l in
    onward closed (skip_passed _ f Test.GreaterOrEqualUnsigned u2 u1 (error_raised subscript_code) l1 at
    (λ b. let o = (at b).holds.regs in
    ap (λ u. if nat_lt u ((f b).machine.registers 6) then false else true) o.0
    ∙ ap (λ u. if nat_lt range u then false else true) o.1.0
    ∙ ap (λ u. if u then false else true) (between_tested bounds z is wide)
    ∙ ap (λ u. if not u then false else true) e))
    (λ f1 at1. outside_piece closed routines f1 around k (rest_of _ (error_raised subscript_code) l1) serving at1)

one_dimension : {links : Links} {code : List Instr} {i : ℕ} {g : Ground} {v : Services} {h t : ℕ → ℕ} {ys :
    Base → List (ℕ × ℕ)} {s : State} {aims : Aims (Unit {0})} (closed : Closed code aims) (routines :
    Routines links code) (f : Family) (around : Around) (d place k : ℕ) (bounds : Bounds) (z : ℤ) (rest : Bool)
    → Beside ys → IsBounds bounds → IsWide z → IsCounted d place → suc place * span bounds ≤ 2 ^ 20
    → Linked links code i (subscript_counted d (constant_bounds bounds)) → Serving k s v around.line
    → ((b : Base) → At b i (Known g v h t (given_regs d place (word z) ys) b) (f b))
    → (is_between bounds z ≡ true → (f' : Family)
    → ((b : Base)
    → At b (i + size_of (subscript_counted d (constant_bounds bounds)))
    (Known g v h t (counted_regs (suc d) (place_behind place bounds z) ys) b) (f' b))
    → Comes code (i + size_of (subscript_counted d (constant_bounds bounds))) f' v aims
    (R.demanded around 102 rest k s)) → Comes code i f v aims (R.demanded around 102 (is_between bounds z && rest) k s)
one_dimension {code = code} {i = i} {v = v} {ys = ys} {s = s} {aims = aims} closed routines f around d place k bounds
    z rest beside is wide counted few l serving at next' =
    let p1 = less_lower (Y.ConstantExtent bounds.lower) (buffer_lower d) in
    let p2 = constant u2 (bounds.upper -ℤ bounds.lower) in
    let p3 = tested_skip ++ counted_in d in
    let x = distance_word bounds z in
    let l2 = back_of p1 (p2 ++ p3) l in
    let e1 = size_append p1 (p2 ++ p3) in
    let e2 = size_append p2 p3 in
    let there : i + size_of p1 + size_of p2 + size_of p3 ≡ i + size_of (subscript_counted d (constant_bounds bounds)) = omega (arith, e1, e2) in
    let r1 = less_piece (same_int bounds.lower (pos 0)) i f bounds.lower z refl is.0 wide (kept_free1 d place beside)
    (given_far d place (word z) beside) (front_of p1 (p2 ++ p3) l) at in
    onward closed r1 (λ f1 at1.
    let r2 = constant_piece (i + size_of p1) f1 u2 (bounds.upper -ℤ bounds.lower) (range_small bounds is)
    (given_u2 d place x beside) (front_of p2 p3 l2) at1 in
    onward closed r2 (λ f2 at2.
    test_piece (is_between bounds z) closed routines f2 around d place k bounds z rest beside refl is wide counted few
    (back_of p2 p3 l2) serving at2
    (λ between f3 at3.
    subst (λ u. Comes code u f3 v aims (R.demanded around 102 rest k s)) (sym there)
    (next' between f3 (λ b. record { pc = (at3 b).pc ∙ ap (address b) there; holds = (at3 b).holds })))))

-- ---- one behind the other

-- where the elements of all dimensions are few, so are those of the ones so far
rows_few : (place n m : ℕ) → 0 < m → suc place * (n * m) ≤ 2 ^ 20 → suc place * n ≤ 2 ^ 20
rows_few place n m some few =
    let a = mul_assoc (suc place) n m in
    let least : suc place * n * 1 ≤ suc place * n * m = mul-le-mul_left (suc place * n) some in
    omega (arith, few, a, least)

next_few : (place n m x : ℕ) → x < n → suc place * (n * m) ≤ 2 ^ 20 → suc (place * n + x) * m ≤ 2 ^ 20
next_few place n m x h few =
    let a = mul_assoc (suc place) n m in
    let one = suc-times place n in
    let most : suc (place * n + x) * m ≤ suc place * n * m = mul-le-mul_right m (omega (arith, one, h)) in
    omega (arith, few, a, most)

regrouped : (a b c d : Code) → a ++ (b ++ (c ++ d)) ≡ (a ++ (b ++ c)) ++ d
regrouped a b c d = ap (λ u. a ++ u) (sym (append_assoc b c d)) ∙ sym (append_assoc a (b ++ c) d)

-- what all dimensions count
pub place_then : (place n x m y : ℕ) → (place * n + x) * m + y ≡ place * (n * m) + (x * m + y)
place_then place n x m y =
    let a = mul_assoc place n m in
    let b = add-mul (place * n) x m in
    omega (arith, a, b)

-- a place is small
place_small : (place n : ℕ) → 0 < n → suc place * n ≤ 2 ^ 20 → place < 2 ^ 32
place_small place n some few =
    let least : suc place * 1 ≤ suc place * n = mul-le-mul_left (suc place) some in
    omega (arith, few, least)

-- what is left of a dimension and those behind it
abbrev dimension_code : Environment → Taken → (dimension : ℕ) → Y.Number → Y.Numbers → Bounds → Code
dimension_code e taken d first rest bounds =
    place_kept d ++ (subscript_given e taken first rest ++ subscript_counted d (constant_bounds bounds))

-- one dimension, from what is counted before it
dimension_piece : {links : Links} {code : List Instr} {i : ℕ} {g : Ground} {v : Services} {h t : ℕ → ℕ} {ys :
    Base → List (ℕ × ℕ)} {s : State} {aims : Aims (Unit {0})} (e : Environment) (closed :
    Closed code aims) (routines : Routines links code) (f : Family) (around : Around) (taken : Taken) (d place k :
    ℕ) (bounds : Bounds) (bs : List Bounds) (first : Y.Number) (rest : Y.Numbers) (z : ℤ) (others : Bool) → Beside ys
    → IsBounds bounds → AreBounds bs → IsWide z → IsCounted d place
    → suc place * (span bounds * element_count bs) ≤ 2 ^ 20
    → Gives links code g v h t (subscript_given e taken first rest) z
    → Linked links code i (dimension_code e taken d first rest bounds) → Serving k s v around.line
    → ((b : Base) → At b i (Known g v h t (counted_regs d place ys) b) (f b))
    → (is_between bounds z ≡ true → (f' : Family)
    → ((b : Base)
    → At b (i + size_of (dimension_code e taken d first rest bounds))
    (Known g v h t (with' 6 (λ b'. place_behind place bounds z) ys) b) (f' b))
    → Comes code (i + size_of (dimension_code e taken d first rest bounds)) f' v aims
    (R.demanded around 102 others k s))
    → Comes code i f v aims (R.demanded around 102 (is_between bounds z && others) k s)
dimension_piece {code = code} {i = i} {v = v} {s = s} {aims = aims} e closed routines f around taken d place k bounds
    bs first rest z others beside is are wide counted few given l serving at next' =
    let p0 = place_kept d in
    let p1 = subscript_given e taken first rest in
    let p2 = subscript_counted d (constant_bounds bounds) in
    let l1 = back_of p0 (p1 ++ p2) l in
    let e0 = size_append p0 (p1 ++ p2) in
    let e1 = size_append p1 p2 in
    let there : i + size_of p0 + size_of p1 + size_of p2 ≡ i + size_of (p0 ++ (p1 ++ p2)) = omega (arith, e0, e1) in
    let rows = rows_few place (span bounds) (element_count bs) (count_some bs are) few in
    let r0 = place_piece d i f place beside (place_small place (span bounds) (span_some bounds is) rows)
    (front_of p0 (p1 ++ p2) l) at in
    onward closed r0 (λ f0 at0.
    let r1 = given.comes (i + size_of p0) f0 (kept_free1 d place beside) (kept_far d place beside) (front_of p1 p2 l1)
    at0 in
    onward closed r1 (λ f1 at1.
    one_dimension closed routines f1 around d place k bounds z others beside is wide counted rows (back_of p1 p2 l1)
    serving at1
    (λ between f2 at2.
    subst (λ u. Comes code u f2 v aims (R.demanded around 102 others k s)) (sym there)
    (next' between f2 (λ b. record { pc = (at2 b).pc ∙ ap (address b) there; holds = (at2 b).holds })))))

-- the dimensions behind the first one
behind_piece : (bs : List Bounds) (zs : List ℤ) (xs : Y.Numbers) {links : Links} {code : List Instr} {i : ℕ} {g :
    Ground} {v : Services} {h t : ℕ → ℕ} {ys : Base → List (ℕ × ℕ)} {s : State} {aims : Aims (Unit {0})} (e :
    Environment) (closed : Closed code aims) (routines : Routines links code) (f : Family) (around : Around) (taken :
    Taken) (d place k : ℕ) → Beside ys → length zs ≡ given_in xs → length zs ≡ length bs → AreBounds bs → AllWide zs
    → suc place * element_count bs ≤ 2 ^ 20 → AllGive links code g v e taken h t xs zs
    → Linked links code i (subscripts_counted e taken (suc d) xs (map constant_bounds bs)) → Serving k s v around.line
    → ((b : Base) → At b i (Known g v h t (with' 6 (λ b'. place) ys) b) (f b))
    → (is_within bs zs ≡ true → (f' : Family)
    → ((b : Base) → At b (i + size_of (subscripts_counted e taken (suc d) xs (map constant_bounds bs)))
    (Known g v h t (with' 6 (λ b'. place * element_count bs + element_place bs zs) ys) b) (f' b))
    → aims.done (i + size_of (subscripts_counted e taken (suc d) xs (map constant_bounds bs))) f' v tt s)
    → Comes code i f v aims (R.demanded around 102 (is_within bs zs) k s)
unfolding R.demanded choose give
behind_piece [] [] Y.NoNumber {i = i} {g = g} {v = v} {h = h} {t = t} {ys = ys} {s = s} {aims =
    aims} e closed routines f around taken d place k beside many same bounds wide few gives l serving at goal =
    let e : i ≡ i + 0 = omega arith in
    let all : place ≡ place * 1 + 0 = omega arith in
    record {
      to = λ early.
          subst (λ u. aims.done u f v tt s) (sym e)
          (goal refl f (λ b. record {
            pc = (at b).pc ∙ ap (address b) e;
            holds =
                subst (λ u. Known g v h t (with' 6 (λ b'. u) ys) b (f b)) all (at b).holds;
          }));
    }
behind_piece [] [] (Y.NumberThen first rest) e closed routines f around taken d place k beside many same bounds wide
    few gives l serving at goal =
    absurd (omega (arith, many))
behind_piece [] (z ∷ zs) xs e closed routines f around taken d place k beside many same bounds wide few gives l
    serving at goal =
    absurd (omega (arith, same))
behind_piece (b ∷ bs) [] xs e closed routines f around taken d place k beside many same bounds wide few gives l
    serving at goal =
    absurd (omega (arith, same))
behind_piece (b ∷ bs) (z ∷ zs) Y.NoNumber e closed routines f around taken d place k beside many same bounds wide few
    gives l serving at goal =
    absurd (omega (arith, many))
behind_piece (bounds ∷ bs) (z ∷ zs) (Y.NumberThen first rest) {links = links} {code = code} {i = i} {g = g} {v =
    v} {h = h} {t = t} {ys = ys} {s = s} {aims = aims} e closed routines f around taken d place k beside many same are
    wide few gives l serving at goal =
    let p1 = dimension_code e taken (suc d) first rest bounds in
    let p2 = subscripts_counted e (with_number taken) (suc (suc d)) rest (map constant_bounds bs) in
    let n = span bounds in
    let m = element_count bs in
    let x = natural (z -ℤ bounds.lower) in
    let eq = regrouped (place_kept (suc d)) (subscript_given e taken first rest)
    (subscript_counted (suc d) (constant_bounds bounds)) p2 in
    let l1 = subst (Linked links code i) eq l in
    let e1 = size_append p1 p2 in
    let e2 = ap size_of eq in
    let there : i + size_of p1 + size_of p2
    ≡ i + size_of
    (subscripts_counted e taken (suc d) (Y.NumberThen first rest) (map constant_bounds (bounds ∷ bs))) =
    omega (arith, e1, e2) in
    subst (λ q. Comes code i f v aims (R.demanded around 102 q k s)) (sym (within_next bounds bs z zs))
    (dimension_piece e closed routines f around taken (suc d) place k bounds bs first rest z (is_within bs zs) beside
    are.0 are.1 wide.0 tt few gives.0 (front_of p1 p2 l1) serving at
    (λ between f2 at2.
    behind_piece bs zs rest e closed routines f2 around (with_number taken) (suc d) (place_behind place bounds z) k
    beside (omega (arith, many)) (omega (arith, same)) are.1 wide.1
    (next_few place n m x (inside_span bounds z between) few) gives.1 (back_of p1 p2 l1) serving at2
    (λ others f3 at3.
    subst (λ u. aims.done u f3 v tt s) (sym there)
    (goal (within_next bounds bs z zs ∙ and_true (is_between bounds z) (is_within bs zs) between others) f3
    (λ b. record {
      pc = (at3 b).pc ∙ ap (address b) there;
      holds =
          subst (λ u. Known g v h t (with' 6 (λ b'. u) ys) b (f3 b)) (place_then place n x m (element_place bs zs))
          (at3 b).holds;
    })))))

-- subscripts, one for each dimension: the place of the element comes into u1, or the run ends
pub counted_all : (bs : List Bounds) (zs : List ℤ) (first : Y.Number) (rest : Y.Numbers) {links : Links} {code :
    List Instr} {i : ℕ} {g : Ground} {v : Services} {h t : ℕ → ℕ} {ys : Base → List (ℕ × ℕ)} {s : State} {aims :
    Aims (Unit {0})} (e : Environment) (closed : Closed code aims) (routines : Routines links code) (f :
    Family) (around : Around) (taken : Taken) (k : ℕ) → Beside ys → length zs ≡ suc (given_in rest)
    → length zs ≡ length bs → AreBounds bs → AllWide zs → element_count bs ≤ 2 ^ 20
    → AllGive links code g v e taken h t (Y.NumberThen first rest) zs
    → Linked links code i (subscripts_counted e taken 0 (Y.NumberThen first rest) (map constant_bounds bs))
    → Serving k s v around.line → ((b : Base) → At b i (Known g v h t ys b) (f b))
    → (is_within bs zs ≡ true → (f' : Family)
    → ((b : Base)
    → At b (i + size_of (subscripts_counted e taken 0 (Y.NumberThen first rest) (map constant_bounds bs)))
    (Known g v h t (with' 6 (λ b'. element_place bs zs) ys) b) (f' b))
    → aims.done (i + size_of (subscripts_counted e taken 0 (Y.NumberThen first rest) (map constant_bounds bs))) f' v
    tt s) → Comes code i f v aims (R.demanded around 102 (is_within bs zs) k s)
counted_all bs [] first rest e closed routines f around taken k beside many same are wide few gives l serving at goal =
    absurd (omega (arith, many))
counted_all [] (z ∷ zs) first rest e closed routines f around taken k beside many same are wide few gives l serving at
    goal =
    absurd (omega (arith, same))
counted_all (bounds ∷ bs) (z ∷ zs) first rest {links = links} {code = code} {i = i} {g = g} {v = v} {h = h} {t =
    t} {ys = ys} {s = s} {aims = aims} e closed routines f around taken k beside many same are wide few gives l
    serving at goal =
    let p1 = dimension_code e taken 0 first rest bounds in
    let p2 = subscripts_counted e (with_number taken) 1 rest (map constant_bounds bs) in
    let n = span bounds in
    let m = element_count bs in
    let x = natural (z -ℤ bounds.lower) in
    let eq = regrouped [] (subscript_given e taken first rest) (subscript_counted 0 (constant_bounds bounds)) p2 in
    let l1 = subst (Linked links code i) eq l in
    let e1 = size_append p1 p2 in
    let e2 = ap size_of eq in
    let there : i + size_of p1 + size_of p2
    ≡ i + size_of (subscripts_counted e taken 0 (Y.NumberThen first rest) (map constant_bounds (bounds ∷ bs))) =
    omega (arith, e1, e2) in
    let few' : suc 0 * (n * m) ≤ 2 ^ 20 = omega (arith, few) in
    let all : place_behind 0 bounds z * m + element_place bs zs ≡ element_place (bounds ∷ bs) (z ∷ zs) = place_then 0 n x m (element_place bs zs) ∙ omega arith in
    subst (λ q. Comes code i f v aims (R.demanded around 102 q k s)) (sym (within_next bounds bs z zs))
    (dimension_piece e closed routines f around taken 0 0 k bounds bs first rest z (is_within bs zs) beside are.0
    are.1 wide.0 refl few' gives.0 (front_of p1 p2 l1) serving at
    (λ between f2 at2.
    behind_piece bs zs rest e closed routines f2 around (with_number taken) 0 (place_behind 0 bounds z) k beside
    (omega (arith, many)) (omega (arith, same)) are.1 wide.1
    (next_few 0 n m x (inside_span bounds z between) few') gives.1 (back_of p1 p2 l1) serving at2
    (λ others f3 at3.
    subst (λ u. aims.done u f3 v tt s) (sym there)
    (goal (within_next bounds bs z zs ∙ and_true (is_between bounds z) (is_within bs zs) between others) f3
    (λ b. record {
      pc = (at3 b).pc ∙ ap (address b) there;
      holds =
          subst (λ u. Known g v h t (with' 6 (λ b'. u) ys) b (f3 b)) all (at3 b).holds;
    })))))
