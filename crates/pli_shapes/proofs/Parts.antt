-- Parts as they are read, one by one, and the definition's members.
use Rattle.std.specs.Prelude.{nat_le}
use Rattle.std.proofs.lemmas.Bool.{lt-leb}
use Rattle.std.proofs.Common.{◌≡◌, ℕ, zero, suc, ◌+◌, ◌-◌, ◌*◌, ◌≤◌, ◌<◌, Bool, true, false, ◌&&◌, List, [], ◌∷◌, ◌++◌, length, take, drop, Option, Some, None, option_map, if◌then◌else◌, refl, sym, ap, subst, ◌∙◌, append_assoc, arith}
use Rattle.std.proofs.lemmas.List.{append-nil, length-append, take_at}
use Rattle.pli_typing.specs.TypedTree.{Member}
use Rattle.pli_serving.specs.Bytes.{is_data, word_at}
use Rattle.pli_serving.specs.ElementService.{ItemShape, ReadMembers, item_shape_at, item_shape_of, member_before, member_if, member_then, members_at}
use Rattle.pli_serving.specs.Finding.{Call}
use Rattle.pli_serving.specs.Templates.{put_before}
use Rattle.pli_shapes.specs.declared.part.Part.{Part}
use Rattle.pli_shapes.specs.Members.{members_from, members_of}
use Rattle.pli_shapes.specs.Reading.{joined, part_at, part_then, parts_at}
use Rattle.pli_shapes.specs.Sizes.{with_sizes}
use Rattle.pli_shapes.proofs.Within.{even}
use Rattle.pli_shapes.proofs.Forests.{Forest, no_parts, part_before}

-- ---- behind parts that were read

joined_none : (o : Option (List Part)) → joined [] o ≡ o
joined_none None = refl
joined_none (Some ps) = refl

joined_more : (ps : List Part) (p : Part) (o : Option (List Part)) → joined (ps ++ p ∷ []) o ≡ joined ps (put_before (Some p) o)
joined_more ps p None = refl
joined_more ps p (Some more) = ap (λ l. Some l) (append_assoc ps (p ∷ []) more)

-- ---- no more than memory holds

part_past : (c : Call) (at : ℕ) → c.layout.end < at + 12 → part_at c at ≡ None
part_past c at h =
    ap (λ b. if b then Some (record { dimensions = word_at at c.memory; inside = word_at (at + 4) c.memory }) else None)
    (no (nat_le c.layout.code_bytes at) (nat_le (at + 12) c.layout.end) (lt-leb (at + 12) c.layout.end h))
  where
    no : (a b : Bool) → b ≡ false → (a && b) ≡ false
    no false b e = refl
    no true b e = e

-- any number will do that is no less than what lies behind the address
pub enough : (m n : ℕ) (c : Call) (k at : ℕ) → c.layout.end ≤ at + m → c.layout.end ≤ at + n → parts_at m c k at ≡ parts_at n c k at
enough m n c zero at h g = refl
enough zero zero c (suc k) at h g = refl
enough zero (suc n) c (suc k) at h g = sym (ap (λ o. part_then o k (at + 12) (λ count behind. parts_at n c count behind)) (part_past c at (omega (arith, h))))
enough (suc m) zero c (suc k) at h g = ap (λ o. part_then o k (at + 12) (λ count behind. parts_at m c count behind)) (part_past c at (omega (arith, g)))
enough (suc m) (suc n) c (suc k) at h g = go (part_at c at) (λ j. enough m n c j (at + 12) (omega (arith, h)) (omega (arith, g)))
  where
    go : (o : Option Part) → ((j : ℕ) → parts_at m c j (at + 12) ≡ parts_at n c j (at + 12)) → part_then o k (at + 12) (λ count behind. parts_at m c count behind) ≡ part_then o k (at + 12) (λ count behind. parts_at n c count behind)
    go None same = refl
    go (Some p) same = ap (put_before (Some p)) (same (p.inside + k))

-- ---- one part more

next_part : (c : Call) (left at : ℕ) (p : Part) → part_at c at ≡ Some p → 0 < left → at + 12 ≤ c.layout.end → parts_at c.layout.end c left at ≡ put_before (Some p) (parts_at c.layout.end c (left - 1 + p.inside) (at + 12))
next_part c zero at p e some h = absurd (omega arith)
next_part c (suc left) at p e some h = step c.layout.end refl
  where
    step : (m : ℕ) → m ≡ c.layout.end → parts_at m c (suc left) at ≡ put_before (Some p) (parts_at c.layout.end c (suc left - 1 + p.inside) (at + 12))
    step zero f = absurd (omega (arith, f, h))
    step (suc m) f =
        let order : p.inside + left ≡ suc left - 1 + p.inside = omega arith in
        ap (λ o. part_then o left (at + 12) (λ count behind. parts_at m c count behind)) e
        ∙ (ap (λ k. put_before (Some p) (parts_at m c k (at + 12))) order
        ∙ ap (put_before (Some p)) (enough m c.layout.end c (suc left - 1 + p.inside) (at + 12) (omega (arith, f, h)) (omega arith)))

pub part_read : (c : Call) (ps more : List Part) (p : Part) (left next at : ℕ) (all : Option (List Part)) → part_at c at ≡ Some p → 0 < left → at + 12 ≤ c.layout.end → next ≡ left - 1 + p.inside → more ≡ ps ++ p ∷ [] → joined ps (parts_at c.layout.end c left at) ≡ all → joined more (parts_at c.layout.end c next (at + 12)) ≡ all
part_read c ps more p left next at all e some h f g all_so_far =
    ap (λ l. joined l (parts_at c.layout.end c next (at + 12))) g
    ∙ (joined_more ps p (parts_at c.layout.end c next (at + 12))
    ∙ (ap (λ k. joined ps (put_before (Some p) (parts_at c.layout.end c k (at + 12)))) f
    ∙ (sym (ap (joined ps) (next_part c left at p e some h)) ∙ all_so_far)))

-- ---- some parts behind others

-- parts that were read, and so many more behind them
abbrev then_read : (m : ℕ) → Call → (k at : ℕ) → Option (List Part) → Option (List Part)
then_read m c k at None = None
then_read m c k at (Some ps) = joined ps (parts_at m c k (at + 12 * length ps))

one_behind : (p : Part) (m : ℕ) (c : Call) (k at : ℕ) (o : Option (List Part)) → put_before (Some p) (then_read m c k (at + 12) o) ≡ then_read m c k at (put_before (Some p) o)
one_behind p m c k at None = refl
one_behind p m c k at (Some ps) = go (parts_at m c k (at + 12 + 12 * length ps)) ∙ ap (λ b. joined (p ∷ ps) (parts_at m c k b)) behind
  where
    go : (o : Option (List Part)) → put_before (Some p) (joined ps o) ≡ joined (p ∷ ps) o
    go None = refl
    go (Some more) = refl

    behind : at + 12 + 12 * length ps ≡ at + 12 * suc (length ps)
    behind = omega arith

less_behind : (p : Part) (m : ℕ) (c : Call) (k at : ℕ) (o : Option (List Part)) → c.layout.end ≤ at + suc m → then_read m c k at (put_before (Some p) o) ≡ then_read (suc m) c k at (put_before (Some p) o)
less_behind p m c k at None h = refl
less_behind p m c k at (Some ps) h = ap (joined (p ∷ ps)) (enough m (suc m) c k (at + 12 * suc (length ps)) (omega (arith, h)) (omega (arith, h)))

in_turn : (m : ℕ) (c : Call) (j k at : ℕ) → c.layout.end ≤ at + m → parts_at m c (j + k) at ≡ then_read m c k at (parts_at m c j at)
in_turn m c zero k at h =
    let none : 0 + k ≡ k = omega arith in
    let here : at ≡ at + 12 * 0 = omega arith in
    ap (λ i. parts_at m c i at) none ∙ (ap (parts_at m c k) here ∙ sym (joined_none (parts_at m c k (at + 12 * 0))))
in_turn zero c (suc j) k at h = let more : suc j + k ≡ suc (j + k) = omega arith in ap (λ i. parts_at 0 c i at) more
in_turn (suc m) c (suc j) k at h =
    let more : suc j + k ≡ suc (j + k) = omega arith in
    ap (λ i. parts_at (suc m) c i at) more ∙ go (part_at c at) (λ i. in_turn m c i k (at + 12) (omega (arith, h)))
  where
    go : (o : Option Part) → ((i : ℕ) → parts_at m c (i + k) (at + 12) ≡ then_read m c k (at + 12) (parts_at m c i (at + 12)))
        → part_then o (j + k) (at + 12) (λ count behind. parts_at m c count behind) ≡ then_read (suc m) c k at (part_then o j (at + 12) (λ count behind. parts_at m c count behind))
    go None first = refl
    go (Some p) first =
        let group : p.inside + (j + k) ≡ p.inside + j + k = omega arith in
        ap (λ i. put_before (Some p) (parts_at m c i (at + 12))) group
        ∙ (ap (put_before (Some p)) (first (p.inside + j))
        ∙ (one_behind p m c k at (parts_at m c (p.inside + j) (at + 12))
        ∙ less_behind p m c k at (parts_at m c (p.inside + j) (at + 12)) h))

-- ---- the members that parts stand for, at each depth

record Reads (k at : ℕ) (ps : List Part) (r : ℕ → Option ReadMembers) : Type 0 where
  pub members : ℕ → List Member
  pub is : (depth : ℕ) → r depth ≡ Some (record { members = members depth; behind = at + 12 * length ps })
  pub forest : Forest k ps members

abbrev IsReading : (k at : ℕ) → Option (List Part) → (ℕ → Option ReadMembers) → Type 0
IsReading k at None r = (depth : ℕ) → r depth ≡ None
IsReading k at (Some ps) r = Reads k at ps r

reading_as : (k at : ℕ) (o : Option (List Part)) (r s : ℕ → Option ReadMembers) → ((depth : ℕ) → r depth ≡ s depth) → IsReading k at o s → IsReading k at o r
reading_as k at None r s e h = λ depth. e depth ∙ h depth
reading_as k at (Some ps) r s e h = record { members = h.members; is = λ depth. e depth ∙ h.is depth; forest = h.forest }

rest_read : (q k at d : ℕ) (a : List Part) (is : ℕ → List Member) (o : Option (List Part)) (r : ℕ → Option ReadMembers) → Forest q a is → IsReading k (at + 12 + 12 * length a) o r
    → IsReading (suc k) at (put_before (Some (record { dimensions = d; inside = q })) (joined a o)) (λ depth. member_before depth d (is (suc depth)) (r depth))
rest_read q k at d a is None r first h = λ depth. ap (member_before depth d (is (suc depth))) (h depth)
rest_read q k at d a is (Some b) r first h =
    let l = length-append a b in
    let behind : at + 12 + 12 * length a + 12 * length b ≡ at + 12 * suc (length (a ++ b)) = omega (arith, l) in
    record {
      members = λ depth. record { depth = depth; dimensions = d } ∷ (is (suc depth) ++ h.members depth);
      is = λ depth.
          ap (member_before depth d (is (suc depth))) (h.is depth)
          ∙ ap (λ n. Some (record { members = record { depth = depth; dimensions = d } ∷ (is (suc depth) ++ h.members depth); behind = n })) behind;
      forest = part_before q k d a b is h.members first h.forest;
    }

list_read : (m : ℕ) (c : Call) (q k at d : ℕ) (o : Option (List Part)) (r : ℕ → Option ReadMembers) → IsReading q (at + 12) o r → ((b : ℕ) → at + 12 ≤ b → IsReading k b (parts_at m c k b) (λ depth. members_at m c k depth b))
    → IsReading (suc k) at (put_before (Some (record { dimensions = d; inside = q })) (then_read m c k (at + 12) o)) (λ depth. member_then depth d k (r (suc depth)) (λ count depth behind. members_at m c count depth behind))
list_read m c q k at d None r h rest = λ depth. ap (λ l. member_then depth d k l (λ count depth behind. members_at m c count depth behind)) (h (suc depth))
list_read m c q k at d (Some a) r h rest =
    reading_as (suc k) at (put_before (Some (record { dimensions = d; inside = q })) (joined a (parts_at m c k (at + 12 + 12 * length a))))
    (λ depth. member_then depth d k (r (suc depth)) (λ count depth behind. members_at m c count depth behind))
    (λ depth. member_before depth d (h.members (suc depth)) (members_at m c k depth (at + 12 + 12 * length a)))
    (λ depth. ap (λ l. member_then depth d k l (λ count depth behind. members_at m c count depth behind)) (h.is (suc depth)))
    (rest_read q k at d a h.members (parts_at m c k (at + 12 + 12 * length a)) (λ depth. members_at m c k depth (at + 12 + 12 * length a)) h.forest (rest (at + 12 + 12 * length a) (omega arith)))

reading : (m : ℕ) (c : Call) (k at : ℕ) → c.layout.end ≤ at + m → IsReading k at (parts_at m c k at) (λ depth. members_at m c k depth at)
reading m c zero at h =
    let here : at ≡ at + 12 * 0 = omega arith in
    record { members = λ depth. []; is = λ depth. ap (λ b. Some (record { members = []; behind = b })) here; forest = no_parts }
reading zero c (suc k) at h = λ depth. refl
reading (suc m) c (suc k) at h = go (is_data c.layout at 12) (λ j b more. reading m c j b (omega (arith, h, more))) (λ q. in_turn m c q k (at + 12) (omega (arith, h)))
  where
    go : (b : Bool) → ((j b : ℕ) → at + 12 ≤ b → IsReading j b (parts_at m c j b) (λ depth. members_at m c j depth b))
        → ((q : ℕ) → parts_at m c (q + k) (at + 12) ≡ then_read m c k (at + 12) (parts_at m c q (at + 12)))
        → IsReading (suc k) at
        (part_then (if b then Some (record { dimensions = word_at at c.memory; inside = word_at (at + 4) c.memory }) else None) k (at + 12) (λ count behind. parts_at m c count behind))
        (λ depth. member_if b depth (word_at at c.memory) (word_at (at + 4) c.memory) (at + 12) k (λ count depth behind. members_at m c count depth behind))
    go false first turn = λ depth. refl
    go true first turn =
        let d = word_at at c.memory in
        let q = word_at (at + 4) c.memory in
        subst
        (λ o. IsReading (suc k) at (put_before (Some (record { dimensions = d; inside = q })) o) (λ depth. member_then depth d k (members_at m c q (suc depth) (at + 12)) (λ count depth behind. members_at m c count depth behind)))
        (sym (turn q))
        (list_read m c q k at d (parts_at m c q (at + 12)) (λ depth. members_at m c q depth (at + 12)) (first q (at + 12) (omega arith)) (λ b more. first k b more))

-- ---- whole shapes

members_shown : (k : ℕ) (ps : List Part) (members : ℕ → List Member) → Forest k ps members → members_of (with_sizes ps) ≡ members 0
members_shown k ps members f =
    let sizes : with_sizes ps ≡ f.final = ap with_sizes (sym (append-nil ps)) ∙ (f.sizes [] ∙ append-nil f.final) in
    let none : length f.final ≡ length f.final + 0 = omega arith in
    ap members_of sizes
    ∙ (ap (λ l. members_from 0 l 0 (length f.final)) (sym (append-nil f.final))
    ∙ (ap (members_from 0 (f.final ++ []) 0) none ∙ (f.shown 0 [] 0 ∙ append-nil (members 0))))

abbrev shape_with : Call → (at : ℕ) → List Part → ItemShape
shape_with c at ps = record { given = word_at at c.memory; first = word_at (at + 12) c.memory; members = members_of (with_sizes ps) }

pub shape_at : (c : Call) (at : ℕ) (o : Option (List Part)) → is_data c.layout at 16 ≡ true → o ≡ parts_at c.layout.end c 1 (at + 4)
    → option_map (λ ps. shape_with c at ps) o ≡ item_shape_at c at
shape_at c at o d e =
    ap (option_map (λ ps. shape_with c at ps)) e
    ∙ (go (parts_at c.layout.end c 1 (at + 4)) (λ depth. members_at c.layout.end c 1 depth (at + 4)) (reading c.layout.end c 1 (at + 4) (omega arith))
    ∙ sym (ap (λ b. if b then item_shape_of c at (members_at c.layout.end c 1 0 (at + 4)) else None) d))
  where
    go : (o : Option (List Part)) (r : ℕ → Option ReadMembers) → IsReading 1 (at + 4) o r → option_map (λ ps. shape_with c at ps) o ≡ item_shape_of c at (r 0)
    go None r h = sym (ap (item_shape_of c at) (h 0))
    go (Some ps) r h =
        ap (λ ms. Some (record { given = word_at at c.memory; first = word_at (at + 12) c.memory; members = ms })) (members_shown 1 ps h.members h.forest)
        ∙ sym (ap (item_shape_of c at) (h.is 0))

pub put_back : (sizes old parts : List Part) (n : ℕ) → sizes ≡ with_sizes old → old ≡ parts → n ≡ length parts → take n (sizes ++ drop (length sizes) parts) ≡ with_sizes parts
put_back sizes old parts n e f g =
    let same : sizes ≡ with_sizes parts = e ∙ ap with_sizes f in
    let long : length sizes ≡ n = ap length same ∙ (even parts ∙ sym g) in
    take_at sizes (drop (length sizes) parts) n long ∙ same

pub shape_read : (c : Call) (at given first : ℕ) (sizes parts : List Part) → is_data c.layout at 16 ≡ true → given ≡ word_at at c.memory → first ≡ word_at (at + 12) c.memory → sizes ≡ with_sizes parts → Some parts ≡ parts_at c.layout.end c 1 (at + 4)
    → ◌≡◌ {A = Option ItemShape} (Some (record { given = given; first = first; members = members_of sizes })) (item_shape_at c at)
shape_read c at given first sizes parts d f g e r =
    ap {B = Option ItemShape} (λ n. Some (record { given = n; first = first; members = members_of sizes })) f
    ∙ (ap {B = Option ItemShape} (λ n. Some (record { given = word_at at c.memory; first = n; members = members_of sizes })) g
    ∙ (ap {B = Option ItemShape} (λ ps. Some (record { given = word_at at c.memory; first = word_at (at + 12) c.memory; members = members_of ps })) e
    ∙ shape_at c at (Some parts) d r))

-- ---- one part alone

pub one_read : (c : Call) (at given first : ℕ) (p : Part) → is_data c.layout at 16 ≡ true → Some p ≡ part_at c (at + 4) → at + 4 + 12 ≤ c.layout.end → p.inside ≡ 0 → given ≡ word_at at c.memory → first ≡ word_at (at + 12) c.memory
    → ◌≡◌ {A = Option ItemShape} (Some (record { given = given; first = first; members = record { depth = 0; dimensions = p.dimensions } ∷ [] })) (item_shape_at c at)
one_read c at given first p d e h none f g =
    let q : Part = record { dimensions = p.dimensions; inside = 0 } in
    let same : p ≡ q = ap (part_of p.dimensions) none in
    let read : parts_at c.layout.end c 1 (at + 4) ≡ Some (q ∷ []) = next_part c 1 (at + 4) q (sym e ∙ ap (λ r. Some r) same) (omega arith) h in
    shape_read c at given first (q ∷ []) (q ∷ []) d f g refl (sym read)
  where
    part_of : ℕ → ℕ → Part
    part_of d n = record { dimensions = d; inside = n }
