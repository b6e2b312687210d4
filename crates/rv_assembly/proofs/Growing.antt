-- Sizes and fitting of code that grows or is patched.
use Rattle.std.proofs.Common.{◌≡◌, ℕ, zero, suc, ◌+◌, ◌<◌, List, [], ◌∷◌, ◌++◌, length, map, refl, sym, ap, ◌∙◌, subst, arith}
use Rattle.std.proofs.lemmas.List.{length-map}
use Rattle.std.specs.Prelude.{slice_set, slice_index_or}
use Rattle.std.proofs.lemmas.List.{map_push}
use Rattle.pli_coding.specs.Assembly.{Item, Code, item_size, size_of}
use Rattle.rv_assembly.specs.declared.item.Item.{Item as Held}
use Rattle.rv_assembly.specs.View.{item_of}
use Rattle.rv_assembly.specs.declared.place.Place.{Place}
use Rattle.rv_assembly.specs.Fitting.{FitsIn, AllFit}
use Rattle.rv_assembly.specs.Places.{branch_kept, IsPlace, patched}

pub size_append : (a b : Code) → size_of (a ++ b) ≡ size_of a + size_of b
size_append [] b = omega arith
size_append (x ∷ a) b =
    let h : size_of (a ++ b) ≡ size_of a + size_of b = size_append a b in
    omega arith

pub fit_append : (a b : Code) → AllFit a → AllFit b → AllFit (a ++ b)
fit_append [] b h k = k
fit_append (x ∷ a) b h k = (h.0, fit_append a b h.1 k)

pub size_pushed : (xs ys : List Held) (x : Held) (s k : ℕ) → ys ≡ xs ++ x ∷ [] → s ≡ size_of (map item_of xs) → k ≡ item_size (item_of x) → s + k ≡ size_of (map item_of ys)
size_pushed xs ys x s k e h i =
    let whole : size_of (map item_of ys) ≡ size_of (map item_of xs) + (item_size (item_of x) + 0) = ap (λ u. size_of (map item_of u)) e ∙ ap size_of (map_push item_of xs x) ∙ size_append (map item_of xs) (item_of x ∷ []) in
    omega arith

pub fit_pushed : (xs ys : List Held) (x : Held) → ys ≡ xs ++ x ∷ [] → AllFit (map item_of xs) → FitsIn (item_of x) → AllFit (map item_of ys)
fit_pushed xs ys x e h f =
    subst AllFit (sym (ap (map item_of) e ∙ map_push item_of xs x)) (fit_append (map item_of xs) (item_of x ∷ []) h (f, tt))

-- ---- an item put in another's place

pub map_set : (xs : List Held) (i : ℕ) (x : Held) → map item_of (slice_set xs i x) ≡ slice_set (map item_of xs) i (item_of x)
map_set [] i x = refl
map_set (y ∷ xs) zero x = refl
map_set (y ∷ xs) (suc i) x = ap (λ u. item_of y ∷ u) (map_set xs i x)

pub size_set : (code : Code) (i : ℕ) (x blank : Item) → i < length code → item_size (slice_index_or code i blank) ≡ item_size x → size_of (slice_set code i x) ≡ size_of code
size_set [] i x blank h e = absurd (omega arith)
size_set (y ∷ code) zero x blank h e = ap (λ n. n + size_of code) (sym e)
size_set (y ∷ code) (suc i) x blank h e = ap (λ n. item_size y + n) (size_set code i x blank (omega arith) e)

pub fit_set : (code : Code) (i : ℕ) (x : Item) → AllFit code → FitsIn x → AllFit (slice_set code i x)
fit_set [] i x h f = h
fit_set (y ∷ code) zero x h f = (f, h.1)
fit_set (y ∷ code) (suc i) x h f = (h.0, fit_set code i x h.1 f)

pub length_set : (code : Code) (i : ℕ) (x : Item) → length (slice_set code i x) ≡ length code
length_set [] i x = refl
length_set (y ∷ code) zero x = refl
length_set (y ∷ code) (suc i) x = ap suc (length_set code i x)

-- an item of the same size leaves the sizes
pub sizes_set : (code : Code) (i j : ℕ) (x blank : Item) → item_size (slice_index_or code i blank) ≡ item_size x → item_size (slice_index_or (slice_set code i x) j blank) ≡ item_size (slice_index_or code j blank)
sizes_set [] i j x blank e = refl
sizes_set (y ∷ code) zero zero x blank e = sym e
sizes_set (y ∷ code) zero (suc j) x blank e = refl
sizes_set (y ∷ code) (suc i) zero x blank e = refl
sizes_set (y ∷ code) (suc i) (suc j) x blank e = sizes_set code i j x blank e

-- ---- the same of items as they are held

pub place_within : (xs : List Held) (code : Code) (n : ℕ) (p : Place) → map item_of xs ≡ code → IsPlace n code p → p.index < length xs
unfolding IsPlace
place_within xs code n p e h =
    let same : length code ≡ length xs = ap length (sym e) ∙ length-map xs item_of in
    let k : p.index < length code = h.0 in
    omega arith

pub size_put : (xs : List Held) (code : Code) (p : Place) (x : Held) → map item_of xs ≡ code → IsPlace (item_size (item_of x)) code p → size_of (map item_of (slice_set xs p.index x)) ≡ size_of (map item_of xs)
unfolding IsPlace
size_put xs code p x e h =
    ap size_of (map_set xs p.index x ∙ ap (λ u. slice_set u p.index (item_of x)) e) ∙ size_set code p.index (item_of x) branch_kept h.0 h.1 ∙ ap size_of (sym e)

pub fit_put : (xs : List Held) (i : ℕ) (x : Held) → AllFit (map item_of xs) → FitsIn (item_of x) → AllFit (map item_of (slice_set xs i x))
fit_put xs i x h f = subst AllFit (sym (map_set xs i x)) (fit_set (map item_of xs) i (item_of x) h f)

pub view_put : (xs : List Held) (code : Code) (p : Place) (x : Held) → map item_of xs ≡ code → map item_of (slice_set xs p.index x) ≡ patched code p (item_of x)
unfolding patched
view_put xs code p x e = map_set xs p.index x ∙ ap (λ u. slice_set u p.index (item_of x)) e
