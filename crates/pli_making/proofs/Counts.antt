-- What is counted of the variables that live.
use Rattle.std.proofs.Common.{◌≡◌, ◌≢◌, ℕ, zero, suc, ◌+◌, ◌-◌, ◌<◌, ◌≤◌, List, [], ◌∷◌, ◌++◌, length, get_or, take, replicate, Some, None, Bool, true, false, refl, sym, ap, ◌∙◌, arith, length-append, length-take}
use Rattle.std.specs.Prelude.{◌==◌, filter, max, min, nat_le, nat_lt, set, slice_get, slice_index, if◌then◌else◌}
use Rattle.std.specs.List.{AllByRecursion}
use Rattle.std.proofs.lemmas.Bool.Decides.{nat_tests}
use Rattle.std.proofs.lemmas.List.{append-nil, get_or_append_left, get_or-append-add, get_or-append_right, get_or-replicate, get_or-set_other, get_or-set_same, get_or-take, get_or_read, length-replicate, length-set, take_all}
use Rattle.pli_types.specs.Templates.{Template}
use Rattle.pli_serving.specs.Making.{automatic_in_use, footprint_of_shape}
use Rattle.pli_serving.specs.ServiceState.{Living}
use Rattle.pli_serving.specs.Templates.{shape_at, shape_in}
use Rattle.pli_making.specs.InUse.{IsCounted, in_use_up_to, newest_total, weight}

-- ---- tests

within : (a b : ℕ) → a ≤ b → nat_le a b ≡ true
within a b h = grind (arith, nat_tests)

above : (a b : ℕ) → b < a → nat_le a b ≡ false
above a b h = grind (arith, nat_tests)

is_none : (a : ℕ) → a ≡ 0 → (a == 0) ≡ true
is_none a h = grind (arith, nat_tests)

is_some_one : (a : ℕ) → a ≢ 0 → (a == 0) ≡ false
is_some_one a h = grind (arith, nat_tests)

nothing_more : (n : ℕ) → 0 + n ≡ n
nothing_more n = omega arith

-- ---- all that lives

owners_within : (a b : ℕ) (ls : List Living) → a ≤ b → AllByRecursion (λ l. l.owner ≤ a) ls → AllByRecursion (λ l. l.owner ≤ b) ls
owners_within a b [] h all = tt
owners_within a b (l ∷ ls) h all = let first = all.0 in (omega (arith, first, h), owners_within a b ls h all.1)

known_within : (a b : ℕ) (ls : List Living) → a ≤ b → AllByRecursion (λ l. l.signature < a) ls → AllByRecursion (λ l. l.signature < b) ls
known_within a b [] h all = tt
known_within a b (l ∷ ls) h all = let first = all.0 in (omega (arith, first, h), known_within a b ls h all.1)

one_more : (templates : List Template) (l : Living) (others : ℕ) → weight templates l + others ≡ (if l.owner == 0 then others else footprint_of_shape (shape_at templates l.signature) + others)
one_more templates l others = by_test (l.owner == 0)
  where
    by_test : (t : Bool) → (if t then 0 else footprint_of_shape (shape_at templates l.signature)) + others ≡ (if t then others else footprint_of_shape (shape_at templates l.signature) + others)
    by_test true = nothing_more others
    by_test false = refl

pub all_in_use : (templates : List Template) (height : ℕ) (ls : List Living) → AllByRecursion (λ l. l.owner ≤ height) ls → in_use_up_to templates height ls ≡ automatic_in_use templates ls
all_in_use templates height [] all = refl
all_in_use templates height (l ∷ ls) all =
    ap (λ t. (if t then weight templates l else 0) + in_use_up_to templates height ls) (within l.owner height all.0)
    ∙ ap (λ n. weight templates l + n) (all_in_use templates height ls all.1)
    ∙ one_more templates l (automatic_in_use templates ls)

none_in_use : (templates : List Template) (ls : List Living) → AllByRecursion (λ l. l.owner ≤ 0) ls → automatic_in_use templates ls ≡ 0
none_in_use templates [] all = refl
none_in_use templates (l ∷ ls) all =
    let first = all.0 in
    let none : l.owner ≡ 0 = omega (arith, first) in
    ap (λ t. if t then automatic_in_use templates ls else footprint_of_shape (shape_at templates l.signature) + automatic_in_use templates ls) (is_none l.owner none)
    ∙ none_in_use templates ls all.1

-- ---- the last total is that of all

pub newest_is_all : (templates : List Template) (ls : List Living) (totals : List ℕ) → IsCounted templates ls totals → newest_total totals ≡ automatic_in_use templates ls
newest_is_all templates ls [] counted = sym (none_in_use templates ls counted.below)
newest_is_all templates ls (x ∷ xs) counted =
    let last : length (x ∷ xs) - 1 ≡ length xs = omega arith in
    let inside : length xs < length (x ∷ xs) = omega arith in
    ap (slice_index (x ∷ xs)) last
    ∙ sym (counted.each (length xs) inside)
    ∙ all_in_use templates (length xs + 1) ls (owners_within (length (x ∷ xs)) (length xs + 1) ls (omega arith) counted.below)

-- ---- totals of more heights

pub filled_up : (templates : List Template) (ls : List Living) (totals : List ℕ) (more : ℕ) → IsCounted templates ls totals → IsCounted templates ls (totals ++ replicate more (newest_total totals))
filled_up templates ls totals more counted =
    record {
      below = owners_within (length totals) (length (totals ++ replicate more x)) ls (omega (arith, longer)) counted.below;
      known = counted.known;
      each = λ height h. by_test height h (nat_lt height (length totals)) refl;
    }
  where
    x : ℕ
    x = newest_total totals

    longer : length (totals ++ replicate more x) ≡ length totals + more
    longer = length-append totals (replicate more x) ∙ ap (λ n. length totals + n) (length-replicate more x)

    by_test : (height : ℕ) → height < length (totals ++ replicate more x) → (t : Bool) → nat_lt height (length totals) ≡ t → in_use_up_to templates (height + 1) ls ≡ slice_index (totals ++ replicate more x) height
    by_test height h true t =
        let inside : height < length totals = grind (arith, nat_tests) in
        counted.each height inside ∙ sym (get_or_append_left totals (replicate more x) 0 height inside)
    by_test height h false t =
        let outside : length totals ≤ height = grind (arith, nat_tests) in
        let few : height - length totals < more = omega (arith, h, longer, outside) in
        all_in_use templates (height + 1) ls (owners_within (length totals) (height + 1) ls (omega (arith, outside)) counted.below)
        ∙ sym (newest_is_all templates ls totals counted)
        ∙ sym (get_or-append_right totals (replicate more x) (length totals) height 0 refl outside ∙ get_or-replicate more (height - length totals) x 0 few)

pub newest_filled : (totals : List ℕ) (more : ℕ) → newest_total (totals ++ replicate more (newest_total totals)) ≡ newest_total totals
newest_filled totals zero = ap newest_total (append-nil totals)
newest_filled totals (suc n) =
    let x = newest_total totals in
    let longer : length (totals ++ replicate (suc n) x) ≡ length totals + suc n = length-append totals (replicate (suc n) x) ∙ ap (λ k. length totals + k) (length-replicate (suc n) x) in
    let last : length (totals ++ replicate (suc n) x) - 1 ≡ length totals + n = omega (arith, longer) in
    ap (slice_index (totals ++ replicate (suc n) x)) last
    ∙ get_or-append-add totals (replicate (suc n) x) n 0
    ∙ get_or-replicate (suc n) n x 0 (omega arith)

-- ---- one more variable

added_up_to : (templates : List Template) (ls : List Living) (totals : List ℕ) (l : Living) (bytes height : ℕ) → IsCounted templates ls totals → l.owner ≡ length totals → footprint_of_shape (shape_at templates l.signature) ≡ bytes → height < length totals → in_use_up_to templates (height + 1) (l ∷ ls) ≡ slice_index (set totals (length totals - 1) (newest_total totals + bytes)) height
added_up_to templates ls totals l bytes height counted owner same inside = by_test (nat_le l.owner (height + 1)) refl
  where
    written : List ℕ
    written = set totals (length totals - 1) (newest_total totals + bytes)

    weighs : weight templates l ≡ bytes
    weighs =
        ap (λ t. if t then 0 else footprint_of_shape (shape_at templates l.signature)) (is_some_one l.owner (λ e. absurd (omega (arith, e, owner, inside))))
        ∙ same

    by_test : (t : Bool) → nat_le l.owner (height + 1) ≡ t → (if t then weight templates l else 0) + in_use_up_to templates (height + 1) ls ≡ slice_index written height
    by_test true t =
        let last : height ≡ length totals - 1 = grind (arith, nat_tests) in
        let least : length totals - 1 < length totals = omega (arith, inside) in
        let told = counted.each height inside in
        let total : slice_index written (length totals - 1) ≡ newest_total totals + bytes = get_or-set_same totals (length totals - 1) (newest_total totals + bytes) 0 least in
        let newest : slice_index totals height ≡ newest_total totals = ap (slice_index totals) last in
        let there : slice_index written height ≡ slice_index written (length totals - 1) = ap (slice_index written) last in
        let rest : bytes + in_use_up_to templates (height + 1) ls ≡ slice_index written height = omega (arith, told, total, newest, there) in
        ap (λ n. n + in_use_up_to templates (height + 1) ls) weighs ∙ rest
    by_test false t =
        let before : height < length totals - 1 = grind (arith, nat_tests) in
        nothing_more (in_use_up_to templates (height + 1) ls)
        ∙ counted.each height inside
        ∙ sym (get_or-set_other totals (length totals - 1) height (newest_total totals + bytes) 0 (λ e. absurd (omega (arith, e, before))))

pub added : (templates : List Template) (ls : List Living) (totals : List ℕ) (l : Living) (bytes : ℕ) → IsCounted templates ls totals → l.owner ≡ length totals → l.signature < length templates → footprint_of_shape (shape_at templates l.signature) ≡ bytes → IsCounted templates (l ∷ ls) (set totals (length totals - 1) (newest_total totals + bytes))
added templates ls totals l bytes counted owner known same =
    let as_many = length-set totals (length totals - 1) (newest_total totals + bytes) in
    record {
      below = (omega (arith, owner, as_many), owners_within (length totals) (length (set totals (length totals - 1) (newest_total totals + bytes))) ls (omega (arith, as_many)) counted.below);
      known = (known, counted.known);
      each = λ height h. added_up_to templates ls totals l bytes height counted owner same (omega (arith, as_many, h));
    }

-- one that ends with no activation
pub unowned : (templates : List Template) (ls : List Living) (totals : List ℕ) (l : Living) → IsCounted templates ls totals → l.owner ≡ 0 → l.signature < length templates → IsCounted templates (l ∷ ls) totals
unowned templates ls totals l counted owner known =
    record {
      below = (omega (arith, owner), counted.below);
      known = (known, counted.known);
      each = λ height h. nothing height (nat_le l.owner (height + 1)) ∙ counted.each height h;
    }
  where
    weighs : weight templates l ≡ 0
    weighs = ap (λ t. if t then 0 else footprint_of_shape (shape_at templates l.signature)) (is_none l.owner owner)

    nothing : (height : ℕ) (t : Bool) → (if t then weight templates l else 0) + in_use_up_to templates (height + 1) ls ≡ in_use_up_to templates (height + 1) ls
    nothing height true = ap (λ n. n + in_use_up_to templates (height + 1) ls) weighs ∙ nothing_more (in_use_up_to templates (height + 1) ls)
    nothing height false = nothing_more (in_use_up_to templates (height + 1) ls)

-- ---- where blocks end

left_below : (least most : ℕ) (ls : List Living) → AllByRecursion (λ l. l.owner ≤ most) ls → AllByRecursion (λ l. l.owner ≤ min least most) (filter (λ l. nat_le l.owner least) ls)
left_below least most [] all = tt
left_below least most (l ∷ ls) all = by_test (nat_le l.owner least) refl (left_below least most ls all.1)
  where
    by_test : (t : Bool) → nat_le l.owner least ≡ t → AllByRecursion (λ l. l.owner ≤ min least most) (filter (λ l. nat_le l.owner least) ls) → AllByRecursion (λ l. l.owner ≤ min least most) (if t then l ∷ filter (λ l. nat_le l.owner least) ls else filter (λ l. nat_le l.owner least) ls)
    by_test true t further =
        let first = all.0 in
        let low : l.owner ≤ least = grind (arith, nat_tests) in
        (omega (arith, first, low), further)
    by_test false t further = further

left_known : (owner count : ℕ) (ls : List Living) → AllByRecursion (λ l. l.signature < count) ls → AllByRecursion (λ l. l.signature < count) (filter (λ l. nat_le l.owner owner) ls)
left_known owner count [] all = tt
left_known owner count (l ∷ ls) all = by_test (nat_le l.owner owner) (left_known owner count ls all.1)
  where
    by_test : (t : Bool) → AllByRecursion (λ l. l.signature < count) (filter (λ l. nat_le l.owner owner) ls) → AllByRecursion (λ l. l.signature < count) (if t then l ∷ filter (λ l. nat_le l.owner owner) ls else filter (λ l. nat_le l.owner owner) ls)
    by_test true further = (all.0, further)
    by_test false further = further

left_in_use : (templates : List Template) (height owner : ℕ) (ls : List Living) → height ≤ owner → in_use_up_to templates height (filter (λ l. nat_le l.owner owner) ls) ≡ in_use_up_to templates height ls
left_in_use templates height owner [] h = refl
left_in_use templates height owner (l ∷ ls) h = by_test (nat_le l.owner owner) refl (left_in_use templates height owner ls h)
  where
    by_test : (t : Bool) → nat_le l.owner owner ≡ t → in_use_up_to templates height (filter (λ l. nat_le l.owner owner) ls) ≡ in_use_up_to templates height ls → in_use_up_to templates height (if t then l ∷ filter (λ l. nat_le l.owner owner) ls else filter (λ l. nat_le l.owner owner) ls) ≡ (if nat_le l.owner height then weight templates l else 0) + in_use_up_to templates height ls
    by_test true t further = ap (λ n. (if nat_le l.owner height then weight templates l else 0) + n) further
    by_test false t further =
        let high : height < l.owner = grind (arith, nat_tests) in
        further
        ∙ sym (nothing_more (in_use_up_to templates height ls))
        ∙ sym (ap (λ t. (if t then weight templates l else 0) + in_use_up_to templates height ls) (above l.owner height high))

pub left_counted : (templates : List Template) (ls : List Living) (totals : List ℕ) (owner : ℕ) → IsCounted templates ls totals → IsCounted templates (filter (λ l. nat_le l.owner owner) ls) (take owner totals)
left_counted templates ls totals owner counted =
    let as_many = length-take owner totals in
    record {
      below = owners_within (min owner (length totals)) (length (take owner totals)) (filter (λ l. nat_le l.owner owner) ls) (omega (arith, as_many)) (left_below owner (length totals) ls counted.below);
      known = left_known owner (length templates) ls counted.known;
      each = λ height h.
          left_in_use templates (height + 1) owner ls (omega (arith, as_many, h))
          ∙ counted.each height (omega (arith, as_many, h))
          ∙ sym (get_or-take owner totals height 0 (omega (arith, as_many, h)));
    }

-- ---- more signatures

same_signature : (templates more : List Template) (n : ℕ) → n < length templates → slice_get (templates ++ more) n ≡ slice_get templates n
same_signature [] more n h = absurd (omega (arith, h))
same_signature (t ∷ ts) more zero h = refl
same_signature (t ∷ ts) more (suc n) h = same_signature ts more n (omega (arith, h))

same_weight : (templates more : List Template) (l : Living) → l.signature < length templates → weight (templates ++ more) l ≡ weight templates l
same_weight templates more l h = ap (λ o. if l.owner == 0 then 0 else footprint_of_shape (shape_in o)) (same_signature templates more l.signature h)

same_in_use : (templates more : List Template) (height : ℕ) (ls : List Living) → AllByRecursion (λ l. l.signature < length templates) ls → in_use_up_to (templates ++ more) height ls ≡ in_use_up_to templates height ls
same_in_use templates more height [] all = refl
same_in_use templates more height (l ∷ ls) all =
    ap (λ n. (if nat_le l.owner height then n else 0) + in_use_up_to (templates ++ more) height ls) (same_weight templates more l all.0)
    ∙ ap (λ n. (if nat_le l.owner height then weight templates l else 0) + n) (same_in_use templates more height ls all.1)

pub with_more : (templates more : List Template) (ls : List Living) (totals : List ℕ) → IsCounted templates ls totals → IsCounted (templates ++ more) ls totals
with_more templates more ls totals counted =
    let longer = length-append templates more in
    record {
      below = counted.below;
      known = known_within (length templates) (length (templates ++ more)) ls (omega (arith, longer)) counted.known;
      each = λ height h. same_in_use templates more (height + 1) ls counted.known ∙ counted.each height h;
    }

pub none_counted : (templates : List Template) → IsCounted templates [] []
none_counted templates = record { below = tt; known = tt; each = λ height h. refl }

-- ---- as a vector holds the totals

pub item_read : (xs : List ℕ) (i x : ℕ) → Some x ≡ slice_get xs i → x ≡ slice_index xs i
item_read [] i x e = cc
item_read (y ∷ ys) zero x e = cc
item_read (y ∷ ys) (suc i) x e = item_read ys i x e

pub none_read : (xs : List ℕ) (i : ℕ) → None ≡ slice_get xs i → 0 ≡ slice_index xs i
none_read [] i e = refl
none_read (y ∷ ys) zero e = cc
none_read (y ∷ ys) (suc i) e = none_read ys i e

pub written_last : (items totals : List ℕ) (last old bytes : ℕ) → items ≡ totals → last ≡ length items - 1 → last < length items → old ≡ get_or items last old → set items last (old + bytes) ≡ set totals (length totals - 1) (newest_total totals + bytes)
written_last items totals last old bytes same is inside read =
    ap (λ n. set items last (n + bytes)) (get_or_read items last old inside read 0)
    ∙ ap (λ i. set items i (get_or items i 0 + bytes)) is
    ∙ ap (λ (xs : List ℕ). set xs (length xs - 1) (get_or xs (length xs - 1) 0 + bytes)) same

pub resized : (items totals new : List ℕ) (most count all : ℕ) → items ≡ totals → count ≡ length items → count ≤ most → all ≡ newest_total totals → new ≡ take most items ++ replicate (most - count) all → new ≡ totals ++ replicate (most - count) (newest_total totals)
resized items totals new most count all same is within last e =
    e
    ∙ ap (λ xs. xs ++ replicate (most - count) all) (take_all most items (omega (arith, is, within)) ∙ same)
    ∙ ap (λ n. totals ++ replicate (most - count) n) last

pub resized_length : (totals new : List ℕ) (most count : ℕ) → count ≡ length totals → count ≤ most → new ≡ totals ++ replicate (most - count) (newest_total totals) → length new ≡ max most (length totals)
resized_length totals new most count is within e =
    let longer : length new ≡ length totals + (most - count) = ap length e ∙ length-append totals (replicate (most - count) (newest_total totals)) ∙ ap (λ n. length totals + n) (length-replicate (most - count) (newest_total totals)) in
    omega (arith, longer, is, within)
