-- Steps of the walk to the element of a number.
use Rattle.std.proofs.Common.{zero, suc, ◌≡◌, ◌≤◌, ◌<◌, ℕ, ℤ, ◌+◌, ◌-◌, ◌*◌, ◌/◌, ◌%◌, ◌^◌, get_or, slice_get, length, drop, take, Option, Some, None, List, [], ◌∷◌, refl, sym, ap, subst, ◌∙◌, arith}
use Rattle.std.specs.Prelude.{IfOk, Result, Ok, Err}
use Rattle.std.proofs.lemmas.List.{drop-drop, drop_all, drop_more, length-drop, take_all}
use Rattle.std.proofs.Math.Nat.{mod-le}
use Rattle.pli_typing.specs.Signatures.{Leaf, capped}
use Rattle.pli_meaning.specs.StreamOrder.{Nest, NoNest, NestOf, Element, bounds_of_leaf, elements_inside, with_more}
use Rattle.pli_order.specs.Counts.{count_each, count_in, leaves_each, row_count}
use Rattle.pli_order.specs.Counted.{counted, each_by, rows_of}
use Rattle.pli_order.specs.Notes.{AreNoted, noted}
use Rattle.pli_order.specs.Walks.{IsAt, IsEntered, IsStep, IsTurn, IsWalkAt, row_in}
use Rattle.pli_order.specs.declared.note.Note.{Note}
use Rattle.pli_order.specs.declared.turn.Turn.TheVariants as T
use Rattle.pli_order.specs.declared.walk.Step.{Step}
use Rattle.pli_order.specs.declared.walk.Step.TheVariants as S
use Rattle.pli_order.specs.declared.walk.Walk.{Walk}
use Rattle.pli_order.proofs.Counting.{both_capped, counted_drop, each_right, same_rest, same_row, small_capped, small_past, small_rest}
use Rattle.pli_order.proofs.Elements.{element_here, element_past, element_within, own_count}
use Rattle.pli_order.proofs.Noting.{are_skip, none_noted, noted_skip}
use Rattle.pli_order.proofs.RowLists.{even_get, even_more, got}

-- ---- the arithmetic of a turn

pub some_each : (rows each number : ℕ) → number < capped (rows * each) → each ≡ 0 → ⊥
some_each rows each number h e =
    let none : rows * each ≡ 0 = ap (λ k. rows * k) e ∙ times_none rows in
    absurd (omega (arith, h, none))
  where
    times_none : (n : ℕ) → n * 0 ≡ 0
    times_none n = omega arith

-- ---- nothing is left

pub no_part : (ns : List Note) (leaves : List Leaf) (is : List ℤ) (place left number : ℕ) (target : Option Element) → drop place ns ≡ [] → IsAt ns leaves is place left number target → target ≡ None
no_part ns leaves is place left number target e a =
    sym a.same ∙ ap (λ ms. slice_get (elements_inside (noted ms 0 left) a.leaf leaves is) number) e

pub none_left : (ns : List Note) (leaves : List Leaf) (is : List ℤ) (place number : ℕ) (target : Option Element) → IsAt ns leaves is place 0 number target → target ≡ None
none_left ns leaves is place number target a =
    sym a.same ∙ ap (λ nest. slice_get (elements_inside nest a.leaf leaves is) number) (none_noted (drop place ns))

-- as many parts as are inside and more are left, or none
pub too_few : (ns rest : List Note) (leaves : List Leaf) (is : List ℤ) (place left number : ℕ) (n : Note) (target : Option Element) → drop place ns ≡ n ∷ rest → left ≤ n.part.inside → IsAt ns leaves is place left number target → target ≡ None
too_few ns rest leaves is place zero number n target e h a = none_left ns leaves is place number target a
too_few ns rest leaves is place (suc s) number n target e h a =
    let are : AreNoted (n ∷ rest) 0 (suc s) (length is) a.leaf = subst (λ ms. AreNoted ms 0 (suc s) (length is) a.leaf) e a.are in
    let low = are.3 in
    absurd (omega (arith, h, low))

-- ---- what is known before a part

pub record Before (ns rest : List Note) (leaves : List Leaf) (is : List ℤ) (n : Note) (s number rows each : ℕ) (target : Option Element) : Type 0 where
  pub leaf : ℕ
  pub small : number < 2 ^ 64 - 1
  pub are : AreNoted (n ∷ rest) 0 (suc s) (length is) leaf
  pub same : slice_get (elements_inside (noted (n ∷ rest) 0 (suc s)) leaf leaves is) number ≡ target
  pub counts : capped (rows * each) ≡ capped (own_count n.part.dimensions (noted rest 0 n.part.inside) leaf leaves (length is))
  pub each_is : each ≡ capped (count_each (noted rest 0 n.part.inside) leaf leaves (n.part.dimensions + length is))

known_before : (ns rest : List Note) (leaves : List Leaf) (is : List ℤ) (place s number rows each : ℕ) (n : Note) (target : Option Element) → drop place ns ≡ n ∷ rest → rows ≡ capped (rows_of n leaves) → each ≡ each_by n.part.inside (counted rest leaves)
    → IsAt ns leaves is place (suc s) number target → Before ns rest leaves is n s number rows each target
known_before ns rest leaves is place s number rows each n target e r f a =
    let are : AreNoted (n ∷ rest) 0 (suc s) (length is) a.leaf = subst (λ ms. AreNoted ms 0 (suc s) (length is) a.leaf) e a.are in
    let i = n.part.inside in
    let each_is : each ≡ capped (count_each (noted rest 0 i) a.leaf leaves (n.part.dimensions + length is)) = f ∙ each_right rest i (n.part.dimensions + length is) a.leaf leaves are.4 in
    let rows_is : rows ≡ capped (row_count n.part.dimensions (bounds_of_leaf leaves a.leaf) (length is)) =
    r ∙ ap (λ k. capped (row_count n.part.dimensions (bounds_of_leaf leaves n.leaf) k)) are.1 ∙ ap (λ l. capped (row_count n.part.dimensions (bounds_of_leaf leaves l) (length is))) are.2 in
    record {
      leaf = a.leaf;
      small = a.small;
      are = are;
      same = ap (λ ms. slice_get (elements_inside (noted ms 0 (suc s)) a.leaf leaves is) number) (sym e) ∙ a.same;
      counts =
          ap (λ k. capped (k * each)) rows_is
          ∙ ap (λ k. capped (capped (row_count n.part.dimensions (bounds_of_leaf leaves a.leaf) (length is)) * k)) each_is
          ∙ both_capped (row_count n.part.dimensions (bounds_of_leaf leaves a.leaf) (length is)) (count_each (noted rest 0 i) a.leaf leaves (n.part.dimensions + length is));
      each_is = each_is;
    }

-- ---- past a part

drop_one : (ns rest : List Note) (n : Note) (place : ℕ) → drop place ns ≡ n ∷ rest → drop (place + 1) ns ≡ rest
drop_one ns rest n place e = sym (drop-drop 1 place ns) ∙ ap (drop 1) e

drop_part : (ns rest : List Note) (n : Note) (place inside : ℕ) → drop place ns ≡ n ∷ rest → drop (place + (1 + inside)) ns ≡ drop inside rest
drop_part ns rest n place inside e =
    let far : place + (1 + inside) ≡ place + 1 + inside = omega arith in
    ap (λ k. drop k ns) far ∙ sym (drop-drop inside (place + 1) ns) ∙ ap (drop inside) (drop_one ns rest n place e)

pub past : (ns rest : List Note) (leaves : List Leaf) (is : List ℤ) (place s number rows each behind : ℕ) (n : Note) (target : Option Element) → drop place ns ≡ n ∷ rest → Before ns rest leaves is n s number rows each target
    → capped (rows * each) ≤ number → capped (rows * each) + behind ≡ number → IsAt ns leaves is (place + (1 + n.part.inside)) (suc s - (1 + n.part.inside)) behind target
past ns rest leaves is place s number rows each behind n target e b h r =
    let i = n.part.inside in
    let inside = noted rest 0 i in
    let own = own_count n.part.dimensions inside b.leaf leaves (length is) in
    let counts : capped (rows * each) ≡ capped own = b.counts in
    let low : capped own ≤ number = omega (arith, h, counts) in
    let sum : capped own + behind ≡ number = omega (arith, r, counts) in
    let left : s - i ≡ suc s - (1 + i) = omega arith in
    let here = drop_part ns rest n place i e in
    let leaf = leaves_each inside + b.leaf in
    let gone = small_rest own number behind b.small low sum in
    let found : slice_get (elements_inside (noted rest i (s - i)) leaf leaves is) behind ≡ target =
    ap (slice_get (elements_inside (noted rest i (s - i)) leaf leaves is)) gone
    ∙ sym (element_past 0 n.part.dimensions inside (noted rest i (s - i)) b.leaf leaves is number (small_past own number behind b.small low sum))
    ∙ b.same in
    record {
      leaf = leaf;
      small = let little = b.small in omega (arith, little, r);
      are = subst (λ ms. AreNoted ms 0 (suc s - (1 + i)) (length is) leaf) (sym here) (subst (λ k. AreNoted (drop i rest) 0 k (length is) leaf) left (are_skip rest i (s - i) (length is) leaf b.are.5));
      same =
          ap (λ ms. slice_get (elements_inside (noted ms 0 (suc s - (1 + i))) leaf leaves is) behind) here
          ∙ ap (λ k. slice_get (elements_inside (noted (drop i rest) 0 k) leaf leaves is) behind) (sym left)
          ∙ ap (λ nest. slice_get (elements_inside nest leaf leaves is) behind) (sym (noted_skip rest i (s - i)))
          ∙ found;
    }

-- ---- into a row of a part

-- the row, by its leaf
row_of_leaf : (n : Note) (leaves : List Leaf) (is : List ℤ) (row leaf : ℕ) → n.leaf ≡ leaf → row_in leaves n is row ≡ slice_get (with_more n.part.dimensions (bounds_of_leaf leaves leaf) is) row
row_of_leaf n leaves is row leaf e = ap (λ l. slice_get (with_more n.part.dimensions (bounds_of_leaf leaves l) is) row) e

-- a row of a leaf
leaf_row : (nest : Nest) (d s : ℕ) (behind : Nest) (leaf : ℕ) (leaves : List Leaf) (is : List ℤ) (number each : ℕ) → nest ≡ NoNest → each ≡ capped (count_each nest leaf leaves (d + length is)) → number < own_count d nest leaf leaves (length is)
    → slice_get (elements_inside (NestOf 0 d nest behind) leaf leaves is) number ≡ got (slice_get (with_more d (bounds_of_leaf leaves leaf) is) (number / each)) (λ js. Some (leaf, js))
leaf_row nest d s behind leaf leaves is number each e c h =
    let one : each ≡ 1 = c ∙ ap (λ m. capped (count_each m leaf leaves (d + length is))) e ∙ only in
    let whole : number ≡ number / each = by_one number ∙ ap (λ k. number / k) (sym one) in
    ap (λ m. slice_get (elements_inside (NestOf 0 d m behind) leaf leaves is) number) e
    ∙ element_here 0 d behind leaf leaves is number (subst (λ m. number < own_count d m leaf leaves (length is)) e h)
    ∙ ap (λ k. got (slice_get (with_more d (bounds_of_leaf leaves leaf) is) k) (λ js. Some (leaf, js))) whole
  where
    only : capped 1 ≡ 1
    only = omega arith

    by_one : (n : ℕ) → n ≡ n / 1
    by_one n = omega arith

-- a row of a part with others inside
part_row : (nest : Nest) (d : ℕ) (behind : Nest) (leaf : ℕ) (leaves : List Leaf) (is : List ℤ) (number each : ℕ) → (nest ≡ NoNest → ⊥) → number < 2 ^ 64 - 1 → each ≡ capped (count_each nest leaf leaves (d + length is)) → number < own_count d nest leaf leaves (length is)
    → slice_get (elements_inside (NestOf 0 d nest behind) leaf leaves is) number ≡ got (slice_get (with_more d (bounds_of_leaf leaves leaf) is) (number / each)) (λ js. slice_get (elements_inside nest leaf leaves js) (number % each))
part_row NoNest d behind leaf leaves is number each some small c h = absurd (some refl)
part_row (NestOf f m i b) d behind leaf leaves is number each some small c h =
    let count = count_in (NestOf f m i b) leaf leaves (d + length is) in
    let row : number / count ≡ number / each = sym (same_row number count small) ∙ ap (λ k. number / k) (sym c) in
    let rest : number % count ≡ number % each = sym (same_rest number count small) ∙ ap (λ k. number % k) (sym c) in
    element_within 0 d f m i b behind leaf leaves is number count refl h
    ∙ ap (λ k. got (slice_get (with_more d (bounds_of_leaf leaves leaf) is) k) (λ js. slice_get (elements_inside (NestOf f m i b) leaf leaves js) (number % count))) row
    ∙ ap (λ k. got (slice_get (with_more d (bounds_of_leaf leaves leaf) is) (number / each)) (λ js. slice_get (elements_inside (NestOf f m i b) leaf leaves js) k)) rest

some_noted : (i : ℕ) (ns : List Note) (before leaf : ℕ) → 0 < i → AreNoted ns 0 i before leaf → noted ns 0 i ≡ NoNest → ⊥
some_noted zero ns before leaf some h e = absurd (omega (arith, some))
some_noted (suc i) [] before leaf some h e = h
some_noted (suc i) (n ∷ ns) before leaf some h e = absurd (cc)

leaf_noted : (i : ℕ) (ns : List Note) → i ≡ 0 → noted ns 0 i ≡ NoNest
leaf_noted i ns e = ap (noted ns 0) e ∙ none_noted ns

below_own : (ns rest : List Note) (leaves : List Leaf) (is : List ℤ) (s number rows each : ℕ) (n : Note) (target : Option Element) (b : Before ns rest leaves is n s number rows each target) → number < capped (rows * each)
    → number < own_count n.part.dimensions (noted rest 0 n.part.inside) b.leaf leaves (length is)
below_own ns rest leaves is s number rows each n target b h =
    let counts = b.counts in
    small_capped (own_count n.part.dimensions (noted rest 0 n.part.inside) b.leaf leaves (length is)) number b.small (omega (arith, h, counts))

pub found_so : (ns rest : List Note) (leaves : List Leaf) (is js : List ℤ) (s number rows each row : ℕ) (n : Note) (target : Option Element) → Before ns rest leaves is n s number rows each target → number < capped (rows * each) → row ≡ number / each
    → row_in leaves n is row ≡ Some js → n.part.inside ≡ 0 → target ≡ Some (n.leaf, js)
found_so ns rest leaves is js s number rows each row n target b h r e none =
    let i = n.part.inside in
    let leaf_is : n.leaf ≡ b.leaf = b.are.2 in
    let at : slice_get (with_more n.part.dimensions (bounds_of_leaf leaves b.leaf) is) (number / each) ≡ Some js =
    ap (slice_get (with_more n.part.dimensions (bounds_of_leaf leaves b.leaf) is)) (sym r) ∙ sym (row_of_leaf n leaves is row b.leaf leaf_is) ∙ e in
    sym b.same
    ∙ leaf_row (noted rest 0 i) n.part.dimensions s (noted rest i (s - i)) b.leaf leaves is number each (leaf_noted i rest none) b.each_is (below_own ns rest leaves is s number rows each n target b h)
    ∙ ap (λ o. got {B = Element} o (λ js. Some (b.leaf, js))) at
    ∙ ap {B = Option Element} (λ l. Some (l, js)) (sym leaf_is)

pub inner_so : (ns rest : List Note) (leaves : List Leaf) (is js : List ℤ) (place s number rows each row behind : ℕ) (n : Note) (target : Option Element) → drop place ns ≡ n ∷ rest → Before ns rest leaves is n s number rows each target → number < capped (rows * each) → row ≡ number / each → behind ≡ number % each
    → row_in leaves n is row ≡ Some js → 0 < n.part.inside → length js ≡ n.part.dimensions + length is → IsAt ns leaves js (place + 1) n.part.inside behind target
inner_so ns rest leaves is js place s number rows each row behind n target e b h r m f some long =
    let i = n.part.inside in
    let leaf_is : n.leaf ≡ b.leaf = b.are.2 in
    let at : slice_get (with_more n.part.dimensions (bounds_of_leaf leaves b.leaf) is) (number / each) ≡ Some js =
    ap (slice_get (with_more n.part.dimensions (bounds_of_leaf leaves b.leaf) is)) (sym r) ∙ sym (row_of_leaf n leaves is row b.leaf leaf_is) ∙ f in
    let here = drop_one ns rest n place e in
    let inner : AreNoted rest 0 i (length js) b.leaf = subst (λ k. AreNoted rest 0 i k b.leaf) (sym long) b.are.4 in
    let less : behind ≤ number = below number each behind m in
    let small = b.small in
    let found : target ≡ slice_get (elements_inside (noted rest 0 i) b.leaf leaves js) (number % each) =
    sym b.same
    ∙ part_row (noted rest 0 i) n.part.dimensions (noted rest i (s - i)) b.leaf leaves is number each (some_noted i rest (n.part.dimensions + length is) b.leaf some b.are.4) small b.each_is (below_own ns rest leaves is s number rows each n target b h)
    ∙ ap (λ o. got {B = Element} o (λ js. slice_get (elements_inside (noted rest 0 i) b.leaf leaves js) (number % each))) at in
    record {
      leaf = b.leaf;
      small = omega (arith, less, small);
      are = subst (λ ms. AreNoted ms 0 i (length js) b.leaf) (sym here) inner;
      same =
          ap (λ ms. slice_get (elements_inside (noted ms 0 i) b.leaf leaves js) behind) here
          ∙ ap (slice_get (elements_inside (noted rest 0 i) b.leaf leaves js)) m
          ∙ sym found;
    }
  where
    below : (n e r : ℕ) → r ≡ n % e → r ≤ n
    below n e r h = let low = mod-le n e in omega (arith, h, low)

pub nothing_so : (ns rest : List Note) (leaves : List Leaf) (is : List ℤ) (s number rows each row : ℕ) (n : Note) (target : Option Element) → Before ns rest leaves is n s number rows each target → number < capped (rows * each) → row ≡ number / each
    → row_in leaves n is row ≡ None → target ≡ None
nothing_so ns rest leaves is s number rows each row n target b h r e =
    let i = n.part.inside in
    let leaf_is : n.leaf ≡ b.leaf = b.are.2 in
    let at : slice_get (with_more n.part.dimensions (bounds_of_leaf leaves b.leaf) is) (number / each) ≡ None =
    ap (slice_get (with_more n.part.dimensions (bounds_of_leaf leaves b.leaf) is)) (sym r) ∙ sym (row_of_leaf n leaves is row b.leaf leaf_is) ∙ e in
    let below = below_own ns rest leaves is s number rows each n target b h in
    go i refl at below
  where
    go : (i : ℕ) → n.part.inside ≡ i → slice_get (with_more n.part.dimensions (bounds_of_leaf leaves b.leaf) is) (number / each) ≡ None
        → number < own_count n.part.dimensions (noted rest 0 n.part.inside) b.leaf leaves (length is) → target ≡ None
    go zero none at below =
        sym b.same
        ∙ leaf_row (noted rest 0 n.part.inside) n.part.dimensions s (noted rest n.part.inside (s - n.part.inside)) b.leaf leaves is number each (leaf_noted n.part.inside rest none) b.each_is below
        ∙ ap (λ o. got {B = Element} o (λ js. Some (b.leaf, js))) at
    go (suc i) some at below =
        sym b.same
        ∙ part_row (noted rest 0 n.part.inside) n.part.dimensions (noted rest n.part.inside (s - n.part.inside)) b.leaf leaves is number each (some_noted n.part.inside rest (n.part.dimensions + length is) b.leaf (omega (arith, some)) b.are.4) b.small b.each_is below
        ∙ ap (λ o. got {B = Element} o (λ js. slice_get (elements_inside (noted rest 0 n.part.inside) b.leaf leaves js) (number % each))) at

-- ---- steps

moved : (ns : List Note) (leaves : List Leaf) (is js : List ℤ) (p q l m a b : ℕ) (target : Option Element) → js ≡ is → q ≡ p → m ≡ l → b ≡ a → IsAt ns leaves is p l a target → IsAt ns leaves js q m b target
moved ns leaves is js p q l m a b target e f g h at =
    subst (λ k. IsAt ns leaves js q m k target) (sym h)
    (subst (λ k. IsAt ns leaves js q k a target) (sym g)
    (subst (λ k. IsAt ns leaves js k l a target) (sym f)
    (subst (λ ks. IsAt ns leaves ks p l a target) (sym e) at)))

-- what is left of a list from a place on
all_left : (xs : List ℕ) (k : ℕ) → take (length xs - k) (drop k xs) ≡ drop k xs
all_left xs k = let l = length-drop k xs in take_all (length xs - k) (drop k xs) (omega (arith, l))

each_behind : (ns : List Note) (leaves : List Leaf) (counts : List ℕ) (place inside each : ℕ) → counts ≡ counted ns leaves → each ≡ each_by inside (take (length counts - (place + 1)) (drop (place + 1) counts)) → each ≡ each_by inside (counted (drop (place + 1) ns) leaves)
each_behind ns leaves counts place inside each e f =
    f
    ∙ ap (each_by inside) (all_left counts (place + 1))
    ∙ ap (λ cs. each_by inside (drop (place + 1) cs)) e
    ∙ ap (each_by inside) (counted_drop ns leaves (place + 1))

-- what is known of a part that a walk is at
pub record IsHere (ns : List Note) (leaves : List Leaf) (w : Walk) (n : Note) (rows each : ℕ) : Type 0 where
  pub below : w.place < length ns
  pub within : w.place + w.left ≤ length ns
  pub low : n.part.inside < w.left
  pub dropped : drop w.place ns ≡ n ∷ drop (w.place + 1) ns
  pub rows_are : rows ≡ capped (rows_of n leaves)
  pub each_is : each ≡ each_by n.part.inside (counted (drop (w.place + 1) ns) leaves)

pub is_here : (ns : List Note) (leaves : List Leaf) (counts : List ℕ) (w : Walk) (blank : Note) (rows each : ℕ) → w.place < length ns → w.place + w.left ≤ length ns → (get_or ns w.place blank).part.inside < w.left → counts ≡ counted ns leaves
    → rows ≡ capped (rows_of (get_or ns w.place blank) leaves) → each ≡ each_by (get_or ns w.place blank).part.inside (take (length counts - (w.place + 1)) (drop (w.place + 1) counts)) → IsHere ns leaves w (get_or ns w.place blank) rows each
is_here ns leaves counts w blank rows each below within low e r f =
    record {
      below = below;
      within = within;
      low = low;
      dropped = drop_more ns w.place blank below;
      rows_are = r;
      each_is = each_behind ns leaves counts w.place (get_or ns w.place blank).part.inside each e f;
    }

before_walk : (ns : List Note) (leaves : List Leaf) (w : Walk) (n : Note) (rows each : ℕ) (target : Option Element) → IsHere ns leaves w n rows each → IsWalkAt ns leaves w target → Before ns (drop (w.place + 1) ns) leaves w.subscripts.items n (w.left - 1) w.number rows each target
before_walk ns leaves w n rows each target i at =
    let low = i.low in
    let some : w.left ≡ suc (w.left - 1) = omega (arith, low) in
    known_before ns (drop (w.place + 1) ns) leaves w.subscripts.items w.place (w.left - 1) w.number rows each n target i.dropped i.rows_are i.each_is
    (subst (λ k. IsAt ns leaves w.subscripts.items w.place k w.number target) some at)

pub step_past : (ns : List Note) (leaves : List Leaf) (w v : Walk) (n : Note) (rows each behind : ℕ) → IsHere ns leaves w n rows each → IsTurn rows each w.number (T.Past behind) → v.place ≡ w.place + (1 + n.part.inside) → v.left ≡ w.left - (1 + n.part.inside) → v.number ≡ behind → v.subscripts.items ≡ w.subscripts.items
    → IsStep ns leaves w v S.On
step_past ns leaves w v n rows each behind i t p l m s =
    let low = i.low in
    let within = i.within in (
      omega (arith, p, l, low, within),
      omega (arith, l, low),
      λ target at.
          moved ns leaves w.subscripts.items v.subscripts.items (w.place + (1 + n.part.inside)) v.place (suc (w.left - 1) - (1 + n.part.inside)) v.left behind v.number target s p (left l low) m
          (past ns (drop (w.place + 1) ns) leaves w.subscripts.items w.place (w.left - 1) w.number rows each behind n target i.dropped (before_walk ns leaves w n rows each target i at) t.0 t.1),
    )
  where
    left : v.left ≡ w.left - (1 + n.part.inside) → n.part.inside < w.left → v.left ≡ suc (w.left - 1) - (1 + n.part.inside)
    left l low = omega (arith, l, low)

pub step_into : (ns : List Note) (leaves : List Leaf) (w v : Walk) (n : Note) (rows each row rest : ℕ) (step : Step) → IsHere ns leaves w n rows each → IsTurn rows each w.number (T.Into row rest) → IsEntered leaves n row rest w v step → IsStep ns leaves w v step
step_into ns leaves w v n rows each row rest S.On i t e =
    let low = i.low in
    let within = i.within in
    let place = e.2 in
    let left = e.3 in
    let long = even_get (n.part.dimensions + length w.subscripts.items) (with_more n.part.dimensions (bounds_of_leaf leaves n.leaf) w.subscripts.items) row v.subscripts.items (even_more n.part.dimensions (bounds_of_leaf leaves n.leaf) w.subscripts.items) e.0 in (
      omega (arith, place, left, low, within),
      omega (arith, left, low),
      λ target at.
          moved ns leaves v.subscripts.items v.subscripts.items (w.place + 1) v.place n.part.inside v.left rest v.number target refl e.2 e.3 e.4
          (inner_so ns (drop (w.place + 1) ns) leaves w.subscripts.items v.subscripts.items w.place (w.left - 1) w.number rows each row rest n target i.dropped (before_walk ns leaves w n rows each target i at) t.0 t.1 t.2 e.0 e.1 long),
    )
step_into ns leaves w v n rows each row rest (S.Found x) i t e =
    λ target at.
    found_so ns (drop (w.place + 1) ns) leaves w.subscripts.items x.subscripts.items (w.left - 1) w.number rows each row n target (before_walk ns leaves w n rows each target i at) t.0 t.1 e.0 e.1
    ∙ ap {B = Option Element} (λ l. Some (l, x.subscripts.items)) (sym e.2)
step_into ns leaves w v n rows each row rest S.Nothing i t e =
    λ target at. nothing_so ns (drop (w.place + 1) ns) leaves w.subscripts.items (w.left - 1) w.number rows each row n target (before_walk ns leaves w n rows each target i at) t.0 t.1 e

pub step_if : {E : Type 0} (ns : List Note) (leaves : List Leaf) (w v : Walk) (n : Note) (rows each row rest : ℕ) (r : Result Step E) → IsHere ns leaves w n rows each → IsTurn rows each w.number (T.Into row rest) → IfOk r (λ step. IsEntered leaves n row rest w v step) → IfOk r (λ step. IsStep ns leaves w v step)
step_if ns leaves w v n rows each row rest (Ok step) i t e = step_into ns leaves w v n rows each row rest step i t e
step_if ns leaves w v n rows each row rest (Err x) i t e = tt

pub step_out : (ns : List Note) (leaves : List Leaf) (w v : Walk) → length ns ≤ w.place → IsStep ns leaves w v S.Nothing
step_out ns leaves w v h = λ target at. no_part ns leaves w.subscripts.items w.place w.left w.number target (drop_all w.place ns h) at

pub step_short : (ns : List Note) (leaves : List Leaf) (w v : Walk) (blank : Note) → w.place < length ns → w.left ≤ (get_or ns w.place blank).part.inside → IsStep ns leaves w v S.Nothing
step_short ns leaves w v blank below h =
    λ target at. too_few ns (drop (w.place + 1) ns) leaves w.subscripts.items w.place w.left w.number (get_or ns w.place blank) target (drop_more ns w.place blank below) h at
