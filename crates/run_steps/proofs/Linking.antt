-- Linked code stands in an image item by item, and a mark at the place of its symbol where nothing else marks that.
use Rattle.std.proofs.Common.{◌≡◌, ℕ, suc, ◌+◌, ◌*◌, ◌≤◌, List, [], ◌∷◌, ◌++◌, length, Bool, true, false, refl, sym, ap}
use Rattle.std.proofs.Common.{◌∙◌, subst, arith, length-append, append_assoc}
use Rattle.std.specs.Prelude.{cond}
use Rattle.rv_meaning.specs.declared.instr.Instr.{Instr}
use Rattle.pli_coding.specs.Assembly.{Symbol, same_symbol, Item, Plain, BaseIn, OffsetOf, OffsetAhead, JumpTo}
use Rattle.pli_coding.specs.Assembly.{CallTo, JumpAhead, JumpBack, Mark, Code, item_size, size_of}
use Rattle.pli_coding.specs.Linking.{Links, MarkedPlace, marks_from, marked_place, item_code, linked}
use Rattle.run_steps.specs.Engine.{HasAt}
use Rattle.run_steps.proofs.Engine.{has_front, has_back, has_all}
use Rattle.run_steps.specs.Linking.{times_marked, HasItem, HasItems}

abbrev mark_at : Symbol → ℕ → MarkedPlace
mark_at s at = record { symbol = s; place = at }

some_by : (q : Bool) (n : ℕ) → 1 ≤ n → 1 ≤ cond q (suc n) n
some_by true n h = omega arith
some_by false n h = h

some_marked : (s : Symbol) (at : ℕ) (before behind : List MarkedPlace) → same_symbol s s ≡ true →
    1 ≤ times_marked s (before ++ (mark_at s at ∷ behind))
some_marked s at [] behind same =
    subst (λ q. 1 ≤ cond q (suc (times_marked s behind)) (times_marked s behind)) (sym same) (omega arith)
some_marked s at (m ∷ before) behind same =
    some_by (same_symbol s m.symbol) (times_marked s (before ++ (mark_at s at ∷ behind)))
    (some_marked s at before behind same)

once_by : (q : Bool) (n at here there : ℕ) → 1 ≤ n → cond q (suc n) n ≡ 1 → (n ≡ 1 → there ≡ at) →
    cond q here there ≡ at
once_by true n at here there some once rest = absurd (omega (arith, some, once))
once_by false n at here there some once rest = rest once

-- whatever is marked before and behind it
marked_here : (s : Symbol) (at : ℕ) (before behind : List MarkedPlace) → same_symbol s s ≡ true →
    times_marked s (before ++ (mark_at s at ∷ behind)) ≡ 1 → marked_place s (before ++ (mark_at s at ∷ behind)) ≡ at
marked_here s at [] behind same once = ap (λ q. cond q at (marked_place s behind)) same
marked_here s at (m ∷ before) behind same once =
    once_by (same_symbol s m.symbol) (times_marked s (before ++ (mark_at s at ∷ behind))) at m.place
    (marked_place s (before ++ (mark_at s at ∷ behind))) (some_marked s at before behind same) once
    (λ e. marked_here s at before behind same e)

abbrev own_marks : ℕ → Item → List MarkedPlace
own_marks at (Mark s) = mark_at s at ∷ []
own_marks at _ = []

marks_behind : (at : ℕ) (x : Item) (xs : Code) →
    marks_from at (x ∷ xs) ≡ own_marks at x ++ marks_from (at + 4 * item_size x) xs
marks_behind at (Plain i) xs = refl
marks_behind at (BaseIn r) xs = refl
marks_behind at (OffsetOf r s) xs = refl
marks_behind at (OffsetAhead r words) xs = refl
marks_behind at (JumpTo s) xs = refl
marks_behind at (CallTo s) xs = refl
marks_behind at (JumpAhead words) xs = refl
marks_behind at (JumpBack words) xs = refl
marks_behind at (Mark s) xs = let e : at ≡ at + 4 * 0 = omega arith in ap (λ n. mark_at s at ∷ marks_from n xs) e

-- its instructions do
pub item_has : (links : Links) (code : List Instr) (i : ℕ) (x : Item) → HasItem links code i x →
    HasAt code i (item_code links (4 * i) x)
item_has links code i (Plain y) h = h
item_has links code i (BaseIn r) h = h
item_has links code i (OffsetOf r s) h = h
item_has links code i (OffsetAhead r words) h = h
item_has links code i (JumpTo s) h = h
item_has links code i (CallTo s) h = h
item_has links code i (JumpAhead words) h = h
item_has links code i (JumpBack words) h = h
item_has links code i (Mark s) h = tt

has_item : (links : Links) (code : List Instr) (i : ℕ) (x : Item) (xs : Code) (before : List MarkedPlace) →
    links.marks ≡ before ++ marks_from (4 * i) (x ∷ xs) → HasAt code i (item_code links (4 * i) x) →
    HasItem links code i x
has_item links code i (Plain y) xs before e h = h
has_item links code i (BaseIn r) xs before e h = h
has_item links code i (OffsetOf r s) xs before e h = h
has_item links code i (OffsetAhead r words) xs before e h = h
has_item links code i (JumpTo s) xs before e h = h
has_item links code i (CallTo s) xs before e h = h
has_item links code i (JumpAhead words) xs before e h = h
has_item links code i (JumpBack words) xs before e h = h
has_item links code i (Mark s) xs before e h = λ same once.
    ap (marked_place s) e ∙ marked_here s (4 * i) before (marks_from (4 * i) xs) same
    (subst (λ ms. times_marked s ms ≡ 1) e once)

pub item_length : (links : Links) (at : ℕ) (x : Item) → length (item_code links at x) ≡ item_size x
item_length links at (Plain i) = refl
item_length links at (BaseIn r) = refl
item_length links at (OffsetOf r s) = refl
item_length links at (OffsetAhead r words) = refl
item_length links at (JumpTo s) = refl
item_length links at (CallTo s) = refl
item_length links at (JumpAhead words) = refl
item_length links at (JumpBack words) = refl
item_length links at (Mark s) = refl

pub linked_length : (links : Links) (at : ℕ) (xs : Code) → length (linked links at xs) ≡ size_of xs
linked_length links at [] = refl
linked_length links at (x ∷ xs) =
    let e = length-append (item_code links at x) (linked links (at + 4 * item_size x) xs) in
    let f = item_length links at x in
    let g = linked_length links (at + 4 * item_size x) xs in
    omega (arith, e, f, g)

pub size_append : (xs ys : Code) → size_of (xs ++ ys) ≡ size_of xs + size_of ys
size_append [] ys = omega arith
size_append (x ∷ xs) ys = let e = size_append xs ys in omega (arith, e)

has_linked : (links : Links) (code : List Instr) (i : ℕ) (xs : Code) (before : List MarkedPlace) →
    links.marks ≡ before ++ marks_from (4 * i) xs → HasAt code i (linked links (4 * i) xs) → HasItems links code i xs
has_linked links code i [] before m h = tt
has_linked links code i (x ∷ xs) before m h =
    let rest = linked links (4 * i + 4 * item_size x) xs in
    let back = has_back code i (item_code links (4 * i) x) rest h in
    let e : i + length (item_code links (4 * i) x) ≡ i + item_size x = ap (λ n. i + n) (item_length links (4 * i) x) in
    let f : 4 * i + 4 * item_size x ≡ 4 * (i + item_size x) = omega arith in
    let back' = subst (λ n. HasAt code n rest) e back in
    let back'' = subst (λ n. HasAt code (i + item_size x) (linked links n xs)) f back' in
    let own = own_marks (4 * i) x in
    let m' : links.marks ≡ (before ++ own) ++ marks_from (4 * (i + item_size x)) xs =
    m
    ∙ ap (λ u. before ++ u) (marks_behind (4 * i) x xs)
    ∙ sym (append_assoc before own (marks_from (4 * i + 4 * item_size x) xs))
    ∙ ap (λ n. (before ++ own) ++ marks_from n xs) f in (
      has_item links code i x xs before m (has_front code i (item_code links (4 * i) x) rest h),
      has_linked links code (i + item_size x) xs (before ++ own) m' back'',
    )

-- linked code has its own items
pub has_items : (links : Links) (xs : Code) → links.marks ≡ marks_from 0 xs → HasItems links (linked links 0 xs) 0 xs
has_items links xs m = has_linked links (linked links 0 xs) 0 xs [] m (has_all (linked links 0 xs))

pub items_front : (links : Links) (code : List Instr) (i : ℕ) (xs ys : Code) → HasItems links code i (xs ++ ys) →
    HasItems links code i xs
items_front links code i [] ys h = tt
items_front links code i (x ∷ xs) ys h = (h.0, items_front links code (i + item_size x) xs ys h.1)

pub items_back : (links : Links) (code : List Instr) (i : ℕ) (xs ys : Code) → HasItems links code i (xs ++ ys) →
    HasItems links code (i + size_of xs) ys
items_back links code i [] ys h = let e : i ≡ i + 0 = omega arith in subst (λ n. HasItems links code n ys) e h
items_back links code i (x ∷ xs) ys h =
    let e : i + item_size x + size_of xs ≡ i + (item_size x + size_of xs) = omega arith in
    subst (λ n. HasItems links code n ys) e (items_back links code (i + item_size x) xs ys h.1)
