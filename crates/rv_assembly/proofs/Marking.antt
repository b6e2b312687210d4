-- The loops over the items of code.
use Rattle.std.proofs.Common.{◌≡◌, ℕ, suc, ◌+◌, ◌*◌, ◌<◌, ◌^◌, List, ◌∷◌, ◌++◌, map, length, drop, get_or, refl, sym, ap, ◌∙◌, append_assoc, add-one, drop-cons, arith}
use Rattle.pli_coding.specs.Assembly.{Item, Plain, BaseIn, OffsetOf, OffsetAhead, JumpTo, CallTo, JumpAhead, JumpBack, Mark, Code, item_size, size_of}
use Rattle.pli_coding.specs.Linking.{MarkedPlace, marks_from}
use Rattle.rv_assembly.specs.declared.item.Item.{Item as Held}
use Rattle.rv_assembly.specs.View.{item_of}
use Rattle.rv_assembly.specs.Marks.{mark_at}

-- the items from a place on, with the one there
pub items_from : (xs : List Held) (i : ℕ) (x : Held) → i < length xs → x ≡ get_or xs i x → map item_of (drop i xs) ≡ item_of x ∷ map item_of (drop (i + 1) xs)
items_from xs i x h e =
    ap (map item_of) (drop-cons xs i x h ∙ ap (λ y. y ∷ drop (suc i) xs) (sym e) ∙ ap (λ k. x ∷ drop k xs) (sym (add-one i)))

stays : (n : ℕ) → n ≡ n + 4 * 0
stays n = omega arith

marks_step : (at : ℕ) (i : Item) (is : Code) → marks_from at (i ∷ is) ≡ mark_at at i ++ marks_from (at + 4 * item_size i) is
marks_step at (Mark s) is = ap (λ n. record { symbol = s; place = at } ∷ marks_from n is) (stays at)
marks_step at (Plain i) is = refl
marks_step at (BaseIn r) is = refl
marks_step at (OffsetOf r s) is = refl
marks_step at (OffsetAhead r words) is = refl
marks_step at (JumpTo s) is = refl
marks_step at (CallTo s) is = refl
marks_step at (JumpAhead words) is = refl
marks_step at (JumpBack words) is = refl

pub next_mark : (done target : List MarkedPlace) (xs : List Held) (i at : ℕ) (x : Held) → i < length xs → x ≡ get_or xs i x → done ++ marks_from at (map item_of (drop i xs)) ≡ target → (done ++ mark_at at (item_of x)) ++ marks_from (at + 4 * item_size (item_of x)) (map item_of (drop (i + 1) xs)) ≡ target
next_mark done target xs i at x h e is =
    append_assoc done (mark_at at (item_of x)) (marks_from (at + 4 * item_size (item_of x)) (map item_of (drop (i + 1) xs)))
    ∙ ap (λ u. done ++ u) (sym (ap (marks_from at) (items_from xs i x h e) ∙ marks_step at (item_of x) (map item_of (drop (i + 1) xs))))
    ∙ is

pub next_size : (xs : List Held) (i : ℕ) (x : Held) → i < length xs → x ≡ get_or xs i x → size_of (map item_of (drop i xs)) ≡ item_size (item_of x) + size_of (map item_of (drop (i + 1) xs))
next_size xs i x h e = ap size_of (items_from xs i x h e)

pub next_place : (xs : List Held) (i at total : ℕ) (x : Held) → i < length xs → x ≡ get_or xs i x → at + 4 * size_of (map item_of (drop i xs)) ≡ total → at + 4 * item_size (item_of x) + 4 * size_of (map item_of (drop (i + 1) xs)) ≡ total
next_place xs i at total x h e is =
    let s : size_of (map item_of (drop i xs)) ≡ item_size (item_of x) + size_of (map item_of (drop (i + 1) xs)) = next_size xs i x h e in
    omega arith

pub place_fits : (xs : List Held) (i at : ℕ) (x : Held) → i < length xs → x ≡ get_or xs i x → at + 4 * size_of (map item_of (drop i xs)) ≡ 4 * size_of (map item_of xs) → size_of (map item_of xs) < 2 ^ 28 → at + 4 * item_size (item_of x) < 2 ^ 32
place_fits xs i at x h e is small =
    let s : size_of (map item_of (drop i xs)) ≡ item_size (item_of x) + size_of (map item_of (drop (i + 1) xs)) = next_size xs i x h e in
    omega arith
