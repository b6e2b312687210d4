-- Elements as a run of addresses.
use Rattle.std.proofs.Common.{◌≡◌, ℕ, zero, suc, ◌+◌, ◌-◌, ◌*◌, ◌^◌, ◌<◌, ◌≤◌, ℤ, Bool, true, false, List, [], ◌∷◌}
use Rattle.std.proofs.Common.{◌++◌, length, map, take, drop, get_or, min, Option, Some, None, Result, Ok, Err, refl}
use Rattle.std.proofs.Common.{sym, ap, ap₂, subst, ◌∙◌, arith, mul-le-mul_left}
use Rattle.std.specs.Prelude.{◌&&◌, if◌then◌else◌}
use Rattle.std.specs.List.{list_all, range_with_len}
use Rattle.std.proofs.lemmas.List.{drop_all, drop_min, drop_more, drop-map, length-map, length-take-le, map-append}
use Rattle.std.proofs.lemmas.List.{take-append-drop}
use Rattle.std.proofs.lemmas.List.FromFn.{length-map-range_with_len}
use Rattle.pli_typing.specs.Signatures.{Bounds, Leaf, LeafKind, Fixed, Character, Varying, Bit, Pointer, Offset, Area, capped, element_count, leaf_bytes}
use Rattle.pli_types.specs.View.{pair_of}
use Rattle.pli_types.specs.declared.signature.Bounds.{Bounds as Held}
use Rattle.pli_meaning.specs.BasicValues.{BasicValue}
use Rattle.pli_meaning.specs.Contents.{element_place, is_within}
use Rattle.pli_meaning.specs.Streaming.{kind_holds}
use Rattle.pli_serving.specs.Bytes.{with_bytes}
use Rattle.pli_serving.specs.Stored.{kept_bytes}
use Rattle.pli_serving.specs.Values.{all_subscripts, element_size}
use Rattle.pli_signatures.proofs.Capping.{capped_times}
use Rattle.pli_signatures.specs.Elements.{place_within}
use Rattle.pli_signatures.specs.View.{leaf_in_force}
use Rattle.pli_aggregates.specs.declared.elements.LeafPlace.{LeafPlace}
use Rattle.pli_aggregates.specs.declared.runs.Run.{Run}
use Rattle.pli_aggregates.specs.declared.part.PlacedLeaf.{PlacedLeaf}
use Rattle.pli_aggregates.specs.Elements.{AreWithin, are_there, stands_in}
use Rattle.pli_aggregates.specs.Parts.{has_all, subscripts_left}
use Rattle.pli_aggregates.specs.Standing.{AreElements, AreStanding, HasElements, IsRunFrom, StandAt}
use Rattle.pli_answering.specs.declared.reply.Refusal.{Refusal}
use Rattle.pli_answering.specs.declared.reply.Refusal.TheVariants as F
use Rattle.pli_aggregates.specs.Runs.{Alike, IsShorter, Reaches, standing}
use Rattle.pli_aggregates.specs.Storing.{written_at}
use Rattle.pli_aggregates.proofs.Boxes.{alike_place, all_where, first_fails, none_fails, not_reached, place_apart, reached, run_standing, within_apart}
use Rattle.pli_aggregates.proofs.Lists.{all_alike, both, not_first}
use Rattle.pli_aggregates.proofs.Places.{as_many_subscripts}
use Rattle.pli_values.proofs.Parts.{with_none}

-- ---- addresses of a run

pub length_standing : (at step n : ℕ) → length (standing at step n) ≡ n
length_standing at step n = length-map-range_with_len (λ k. at + step * k) 0 n

got_from : (at step first n i : ℕ) → i < n → get_or (map (λ k. at + step * k) (range_with_len first n)) i 0 ≡ at + step * (first + i)
got_from at step first zero i h = absurd (omega (arith, h))
got_from at step first (suc n) zero h = let e : first ≡ first + 0 = omega arith in ap (λ k. at + step * k) e
got_from at step first (suc n) (suc i) h =
    let e : first + 1 + i ≡ first + suc i = omega arith in
    got_from at step (first + 1) n i (omega (arith, h)) ∙ ap (λ k. at + step * k) e

pub got_standing : (at step n i : ℕ) → i < n → get_or (standing at step n) i 0 ≡ at + step * i
got_standing at step n i h = let none : 0 + i ≡ i = omega arith in got_from at step 0 n i h ∙ ap (λ k. at + step * k) none

within_from : (bytes end at step first n : ℕ) → (0 < n → at + step * (first + n - 1) + bytes ≤ end) → AreWithin bytes end (map (λ k. at + step * k) (range_with_len first n))
within_from bytes end at step first zero h = tt
within_from bytes end at step first (suc n) h =
    let last = h (omega arith) in
    let e : first + suc n - 1 ≡ first + n = omega arith in
    let low : step * first ≤ step * (first + n) = mul-le-mul_left step (omega arith) in
    let here : at + step * (first + n) + bytes ≤ end = subst (λ k. at + step * k + bytes ≤ end) e last in
    (omega (arith, low, here), within_from bytes end at step (first + 1) n (λ some. subst (λ k. at + step * k + bytes ≤ end) (next first n some) here))
  where
    next : (a b : ℕ) → 0 < b → a + b ≡ a + 1 + b - 1
    next a b s = omega (arith, s)

pub standing_within : (bytes end at step n : ℕ) → (0 < n → at + step * (n - 1) + bytes ≤ end) → AreWithin bytes end (standing at step n)
standing_within bytes end at step n h = within_from bytes end at step 0 n (λ s. subst (λ k. at + step * k + bytes ≤ end) (none n) (h s))
  where
    none : (k : ℕ) → k - 1 ≡ 0 + k - 1
    none k = omega arith

within_at : (bytes end : ℕ) (as' : List ℕ) (i : ℕ) → AreWithin bytes end as' → i < length as'
    → get_or as' i 0 + bytes ≤ end
within_at bytes end [] i w h = absurd (omega (arith, h))
within_at bytes end (a ∷ as') zero w h = w.0
within_at bytes end (a ∷ as') (suc i) w h = within_at bytes end as' i w.1 (omega (arith, h))

pub inside_at : (bytes end at step n i : ℕ) → AreWithin bytes end (standing at step n) → i < n → at + step * i + bytes ≤ end
inside_at bytes end at step n i w h =
    let l = length_standing at step n in
    let inside = within_at bytes end (standing at step n) i w (omega (arith, l, h)) in
    let got = got_standing at step n i h in
    omega (arith, inside, got)

-- ---- capped numbers

pub exact_count : (count n step bytes at end : ℕ) → count ≡ capped n → 0 < count → end < 2 ^ 32 → bytes ≤ step → at + step * (count - 1) + bytes ≤ end
    → (at + step * (n - 1) + bytes ≤ end) × (0 < bytes → count ≡ n)
exact_count count n zero bytes at end c some small low h =
    let a : zero * (count - 1) ≡ 0 = omega arith in
    let b : zero * (n - 1) ≡ 0 = omega arith in
    (omega (arith, h, a, b), λ s. absurd (omega (arith, low, s)))
exact_count count n (suc step) bytes at end c some small low h =
    let more : count - 1 ≤ suc step * (count - 1) = le_times (count - 1) step in
    let same : count ≡ n = omega (arith, c, more, h, small) in
    (subst (λ k. at + suc step * (k - 1) + bytes ≤ end) same h, λ s. same)
  where
    le_times : (a k : ℕ) → a ≤ suc k * a
    le_times a k = let e : suc k * a ≡ a + k * a = omega arith in omega (arith, e)

pub capped_both : (a b : ℕ) → capped (capped a * capped b) ≡ capped (a * b)
capped_both a b =
    plain (capped a) (capped b)
    ∙ capped_times a (capped b) 0
    ∙ ap capped (turned a (capped b))
    ∙ capped_times b a 0
    ∙ ap capped (turned b a)
    ∙ sym (plain a b)
  where
    plain : (a b : ℕ) → capped (a * b) ≡ capped (a * b + 0)
    plain a b = omega arith

    turned : (a b : ℕ) → a * b + 0 ≡ b * a + 0
    turned a b = omega arith

-- ---- elements behind subscripts that are given, in the bounds that were allocated

apart : (pre own : List Bounds) (given js : List ℤ) (all : List Bounds) → all ≡ pre ++ own → length given ≡ length pre → is_within all (given ++ js) ≡ (is_within pre given && is_within own js)
apart pre own given js all e l = ap (λ bs. is_within bs (given ++ js)) e ∙ within_apart pre own given js l

pub past_given : (l : Leaf) (pre own left : List Bounds) (given : List ℤ) → l.bounds ≡ pre ++ own → length given ≡ length pre → is_within pre given ≡ false → 0 < element_count left → are_there l given (all_subscripts left) ≡ false
past_given l pre own left given e n h some =
    first_fails left (λ js. is_within l.bounds (given ++ js)) some (λ js. apart pre own given js l.bounds e n ∙ not_first (is_within pre given) (is_within own js) h)

pub past_rows : (l : Leaf) (pre own left : List Bounds) (given : List ℤ) → l.bounds ≡ pre ++ own → length given ≡ length pre → is_within pre given ≡ true → Alike own left → IsShorter own left → 0 < element_count left
    → are_there l given (all_subscripts left) ≡ false
past_rows l pre [] [] given e n h a s some = absurd s
past_rows l pre [] (b ∷ bs) given e n h a s some = absurd a
past_rows l pre (o ∷ os) [] given e n h a s some = absurd a
past_rows l pre (o ∷ os) (b ∷ bs) given e n h a s some =
    all_alike (λ js. is_within l.bounds (given ++ js)) (is_within (o ∷ bs)) (all_subscripts (b ∷ bs))
    (λ js. apart pre (o ∷ os) given js l.bounds e n ∙ ap (λ t. t && is_within (o ∷ os) js) h ∙ ap (λ (xs : List Bounds). is_within (o ∷ xs) js) a.1)
    ∙ not_reached o b bs s some

pub all_there : (l : Leaf) (pre own left : List Bounds) (given : List ℤ) → l.bounds ≡ pre ++ own → length given ≡ length pre → is_within pre given ≡ true → Alike own left → Reaches own left → are_there l given (all_subscripts left) ≡ true
all_there l pre own left given e n h a r =
    all_where left (λ js. is_within l.bounds (given ++ js))
    (λ js w. apart pre own given js l.bounds e n ∙ both (is_within pre given) (is_within own js) h (reached own left js a r w))

pub all_stand : (l : Leaf) (pre own left : List Bounds) (given : List ℤ) (base : ℕ) → l.bounds ≡ pre ++ own → length given ≡ length pre → Alike own left
    → map (λ js. stands_in base l (given ++ js)) (all_subscripts left) ≡ standing (base + element_size l.kind * (element_place pre given * element_count own)) (element_size l.kind) (element_count left)
all_stand l pre own left given base e n a =
    run_standing left (λ js. element_place l.bounds (given ++ js)) base (element_size l.kind) (element_place pre given * element_count own)
    (λ js. ap (λ bs. element_place bs (given ++ js)) e ∙ place_apart pre own given js n ∙ ap (λ k. element_place pre given * element_count own + k) (alike_place own left js a))

pub standing_so : (l : LeafPlace) (pre own left : List Bounds) (given : List ℤ) (r : Run) → (leaf_in_force l.allocated).bounds ≡ pre ++ own → length given ≡ length pre → is_within pre given ≡ true → Alike own left → Reaches own left
    → IsRunFrom l (element_place pre given * element_count own) (element_count left) r → AreStanding l given left r
standing_so l pre own left given r e n h a reach run =
    let k = leaf_in_force l.allocated in
    record {
      there = all_there k pre own left given e n h a reach;
      stand =
          ap₂ (λ x y. standing x y (element_count left)) run.at run.step
          ∙ sym (all_stand k pre own left given l.base e n a);
      within = standing_within l.bytes l.end r.at r.step (element_count left) (λ some. run.inside.within);
      exact = run.inside.exact;
    }

-- the bounds of a leaf in two parts
pub split_bounds : (items bounds front back : List Held) (n : ℕ) → bounds ≡ items → front ≡ take n bounds → back ≡ drop n bounds → map pair_of items ≡ map pair_of front ++ map pair_of back
split_bounds items bounds front back n e f b =
    ap (map pair_of) (sym e ∙ sym (take-append-drop n bounds))
    ∙ map-append pair_of (take n bounds) (drop n bounds)
    ∙ ap₂ (λ x y. map pair_of x ++ map pair_of y) (sym f) (sym b)

pub split_length : (bounds front : List Held) (n : ℕ) → front ≡ take n bounds → n ≤ length bounds → n ≡ length (map pair_of front)
split_length bounds front n f h =
    let l = length-take-le n bounds h in
    let m = length-map front pair_of in
    let k : length front ≡ length (take n bounds) = ap length f in
    omega (arith, l, m, k)

-- ---- the place of the subscripts given

pub given_there : (bs : List Bounds) (is : List ℤ) (p : ℕ) → Some p ≡ place_within bs is → (is_within bs is ≡ true) × (p ≡ capped (element_place bs is))
given_there bs is p e = go (is_within bs is) e
  where
    go : (b : Bool) → Some p ≡ (if b then Some (capped (element_place bs is)) else None) → (b ≡ true) × (p ≡ capped (element_place bs is))
    go true h = (refl, cc)
    go false h = absurd (cc)

pub given_past : (bs : List Bounds) (is : List ℤ) → None ≡ place_within bs is → is_within bs is ≡ false
given_past bs is e = go (is_within bs is) e
  where
    go : (b : Bool) → None ≡ (if b then Some (capped (element_place bs is)) else None) → b ≡ false
    go true h = absurd (cc)
    go false h = refl

-- ---- kinds

module _ {X : Type 0} where
  kind_holds_all : (b : Bool) (p : X → Bool) (xs : List X) → b ≡ true → list_all (λ x. b && p x) xs ≡ list_all p xs
  kind_holds_all true p xs e = refl
  kind_holds_all false p xs e = cc

-- the bounds behind those of the subscripts given
pub left_of : (p : PlacedLeaf) (given : List ℤ) (left bounds : List Held) → left ≡ drop (length given) bounds → bounds ≡ p.in_force.bounds.items → map pair_of left ≡ drop (length given) (leaf_in_force p.in_force).bounds
left_of p given left bounds e h =
    ap (map pair_of) (e ∙ ap (drop (length given)) h)
    ∙ sym (drop-map pair_of (length given) p.in_force.bounds.items)

abbrev pub holds : PlacedLeaf → Bool
holds p = kind_holds (leaf_in_force p.place.allocated).kind (leaf_in_force p.in_force).kind

-- where there is no element, all are there
pub none_left : (p : PlacedLeaf) (given : List ℤ) (r : Run) → element_count (drop (length given) (leaf_in_force p.in_force).bounds) ≡ 0 → r.count ≡ 0 → StandAt p given r
none_left p given r none z =
    let left = drop (length given) (leaf_in_force p.in_force).bounds in
    let had = leaf_in_force p.place.allocated in
    let empty = no_items (all_subscripts left) (as_many_subscripts left ∙ none) in
    record {
      there = none_fails left (λ is. holds p && is_within had.bounds (given ++ is)) none;
      stand = ap (standing r.at r.step) none ∙ sym (ap (map (λ is. stands_in p.place.base had (given ++ is))) empty);
      within = subst (λ n. AreWithin p.place.bytes p.place.end (standing r.at r.step n)) (sym none) tt;
      exact = λ some. z ∙ sym none;
    }
  where
    no_items : {X : Type 0} (xs : List X) → length xs ≡ 0 → xs ≡ []
    no_items [] e = refl
    no_items (x ∷ xs) e = absurd (omega (arith, e))

pub kind_fails : (p : PlacedLeaf) (given : List ℤ) → 0 < element_count (drop (length given) (leaf_in_force p.in_force).bounds) → holds p ≡ false
    → has_all (leaf_in_force p.place.allocated) (leaf_in_force p.in_force) given (subscripts_left (leaf_in_force p.in_force) given) ≡ false
kind_fails p given some e =
    let had = leaf_in_force p.place.allocated in
    first_fails (drop (length given) (leaf_in_force p.in_force).bounds) (λ is. holds p && is_within had.bounds (given ++ is)) some (λ is. not_first (holds p) (is_within had.bounds (given ++ is)) e)

pub not_full : (p : PlacedLeaf) (given : List ℤ) (left : List Bounds) → left ≡ drop (length given) (leaf_in_force p.in_force).bounds → holds p ≡ true → are_there (leaf_in_force p.place.allocated) given (all_subscripts left) ≡ false
    → has_all (leaf_in_force p.place.allocated) (leaf_in_force p.in_force) given (subscripts_left (leaf_in_force p.in_force) given) ≡ false
not_full p given left e h f =
    let had = leaf_in_force p.place.allocated in
    kind_holds_all (holds p) (λ is. is_within had.bounds (given ++ is)) (subscripts_left (leaf_in_force p.in_force) given) h
    ∙ ap (λ bs. are_there had given (all_subscripts bs)) (sym e) ∙ f

pub stand_full : (p : PlacedLeaf) (given : List ℤ) (left : List Bounds) (r : Run) → left ≡ drop (length given) (leaf_in_force p.in_force).bounds → holds p ≡ true → AreStanding p.place given left r → StandAt p given r
stand_full p given left r e h s =
    let had = leaf_in_force p.place.allocated in
    let t = subst (λ bs. AreStanding p.place given bs r) e s in
    record {
      there = kind_holds_all (holds p) (λ is. is_within had.bounds (given ++ is)) (subscripts_left (leaf_in_force p.in_force) given) h ∙ t.there;
      stand = t.stand;
      within = t.within;
      exact = t.exact;
    }

pub run_so : (p : PlacedLeaf) (given : List ℤ) (left : List Bounds) (r : Result (Option Run) Refusal) → left ≡ drop (length given) (leaf_in_force p.in_force).bounds → holds p ≡ true → AreElements p.place given left r → HasElements p given r
run_so p given left (Ok None) e h a = not_full p given left e h a
run_so p given left (Ok (Some run)) e h a = stand_full p given left run e h a
run_so p given left (Err F.Memory) e h a = tt
run_so p given left (Err F.Bad) e h a = a

-- ---- values that are written one after the other

pub next_written : (bytes : List ℕ) (at step count n : ℕ) (m : List ℕ) → n < count → written_at bytes (drop n (standing at step count)) m ≡ written_at bytes (drop (n + 1) (standing at step count)) (with_bytes bytes (at + step * n) m)
next_written bytes at step count n m h =
    let l = length_standing at step count in
    ap (λ as'. written_at bytes as' m) (drop_more (standing at step count) n 0 (omega (arith, l, h)) ∙ ap (λ a. a ∷ drop (n + 1) (standing at step count)) (got_standing at step count n h))

pub all_written : (bytes : List ℕ) (at step count n : ℕ) (m : List ℕ) → count ≤ n → written_at bytes (drop n (standing at step count)) m ≡ m
all_written bytes at step count n m h =
    let l = length_standing at step count in
    ap (λ as'. written_at bytes as' m) (drop_all n (standing at step count) (omega (arith, l, h)))

-- ---- elements without bytes

pub no_bytes : (kind : LeafKind) (v : BasicValue) → leaf_bytes kind ≡ 0 → kept_bytes kind v ≡ []
no_bytes (Fixed p) v e = absurd (grind (arith, e))
no_bytes (Character n) v e = none v (e)
  where
    none : (v : BasicValue) → n ≡ 0 → kept_bytes (Character n) v ≡ []
    none v h = ap (λ k. kept_bytes (Character k) v) h
no_bytes (Varying n) v e = absurd (omega (arith, e))
no_bytes Bit v e = absurd (omega (arith, e))
no_bytes Pointer v e = absurd (omega (arith, e))
no_bytes Offset v e = absurd (omega (arith, e))
no_bytes (Area n) v e = refl

none_at : (as' m : List ℕ) → written_at [] as' m ≡ m
none_at [] m = refl
none_at (a ∷ as') m = ap (written_at [] as') (with_none a m) ∙ none_at as' m

pub none_stored : (kind : LeafKind) (v : BasicValue) (as' m : List ℕ) → leaf_bytes kind ≡ 0 → m ≡ written_at (kept_bytes kind v) as' m
none_stored kind v as' m e = sym (ap (λ bs. written_at bs as' m) (no_bytes kind v e) ∙ none_at as' m)

-- ---- bounds that are left

pub shorter : (n : ℕ) (bounds : List Held) → drop (min n (length bounds)) bounds ≡ drop n bounds
shorter n bounds = drop_min n bounds
