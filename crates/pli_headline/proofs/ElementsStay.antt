-- The elements of an array in memory, a cell for each, one behind the other: what stores and written bytes leave of them.
use Rattle.std.proofs.Common.{◌≡◌, ℕ, ◌+◌, ◌*◌, ◌<◌, ◌≤◌, ◌⊎◌, inl, inr, List, length, Bool, true, false, refl, sym, ◌∙◌, subst, arith}
use Rattle.std.specs.Prelude.{ℤ, cond, ◌==◌}
use Rattle.std.proofs.lemmas.Bool.{eqb-true, cases_lt}
use Rattle.std.proofs.lemmas.Bool.Decides.{nat_tests}
use Rattle.rv_meaning.specs.declared.instr.StoreKind.{StoreKind}
use Rattle.rv_meaning.specs.declared.instr.StoreKind.TheVariants as Store
use Rattle.rv_meaning.specs.Words.{word}
use Rattle.rv_meaning.specs.Memory.{load, store}
use Rattle.rv_meaning.specs.Machine.{load_width, extended, store_width}
use Rattle.pli_typing.specs.TypedTree as Y
use Rattle.pli_serving.specs.Bytes.{with_bytes}
use Rattle.run_steps.proofs.Numbers.{word_small}
use Rattle.pli_headline.proofs.Scalars.{Fits, fits_wide, load_kind, store_kind}
use Rattle.pli_headline.proofs.Cells.{Cell, kept_by, content, content_word, cell_other, cell_stored, cell_found}
use Rattle.pli_headline.proofs.WrittenBytes.{load-with_other}

-- so many elements from a place on, by their places
abbrev pub ElementsThere : List ℕ → (at count : ℕ) → (ℕ → ℤ) → Type 0
ElementsThere m at count z = (p : ℕ) → p < count → Cell m (at + 4 * p) (word (z p))

-- what stands for the numbers of a type
abbrev pub contents_of : Y.LeafType → (ℕ → ℤ) → ℕ → ℤ
contents_of type n p = content type (n p)

-- the numbers after one is assigned
abbrev pub with_element_at : (ℕ → ℤ) → ℕ → ℤ → ℕ → ℤ
with_element_at n q x p = cond (p == q) x (n p)

-- ---- elsewhere

apart_from : (from count p at n : ℕ) → p < count → (from + 4 * count ≤ at) ⊎ (at + n ≤ from) → (from + 4 * p + 4 ≤ at) ⊎ (at + n ≤ from + 4 * p)
apart_from from count p at n below (inl h) = inl (omega (arith, below, h))
apart_from from count p at n below (inr h) = inr (omega (arith, h))

-- a store elsewhere
pub elements_other : (n : ℕ) (m : List ℕ) (at v from count : ℕ) (z : ℕ → ℤ) → (from + 4 * count ≤ at) ⊎ (at + n ≤ from) → ElementsThere m from count z → ElementsThere (store n m at v) from count z
elements_other n m at v from count z apart o p below =
    cell_other n m at v (from + 4 * p) (word (z p)) (apart_from from count p at n below apart) (o p below)

cell_beside : (bytes m : List ℕ) (at from w : ℕ) → at + length bytes ≤ length m → (from + 4 ≤ at) ⊎ (at + length bytes ≤ from) → Cell m from w → Cell (with_bytes bytes at m) from w
cell_beside bytes m at from w room (inl h) c =
    record {
      whole = load-with_other 4 bytes m at from room (inl h) ∙ c.whole;
      half = load-with_other 2 bytes m at from room (inl (omega (arith, h))) ∙ c.half;
      byte = load-with_other 1 bytes m at from room (inl (omega (arith, h))) ∙ c.byte;
    }
cell_beside bytes m at from w room (inr h) c =
    record {
      whole = load-with_other 4 bytes m at from room (inr h) ∙ c.whole;
      half = load-with_other 2 bytes m at from room (inr h) ∙ c.half;
      byte = load-with_other 1 bytes m at from room (inr h) ∙ c.byte;
    }

-- bytes that are written elsewhere
pub elements_beside : (bytes m : List ℕ) (at from count : ℕ) (z : ℕ → ℤ) → at + length bytes ≤ length m → (from + 4 * count ≤ at) ⊎ (at + length bytes ≤ from) → ElementsThere m from count z → ElementsThere (with_bytes bytes at m) from count z
elements_beside bytes m at from count z room apart o p below =
    cell_beside bytes m at (from + 4 * p) (word (z p)) room (apart_from from count p at (length bytes) below apart) (o p below)

-- ---- an element is stored

width_most : (kind : StoreKind) → store_width kind ≤ 4
width_most Store.Byte = omega arith
width_most Store.Half = omega arith
width_most Store.Word = omega arith

apart_by : (at i q n : ℕ) → n ≤ 4 → (i == q) ≡ false → (i < q) ⊎ (q ≤ i) → (at + 4 * i + 4 ≤ at + 4 * q) ⊎ (at + 4 * q + n ≤ at + 4 * i)
apart_by at i q n few e (inl less) = inl (omega (arith, less))
apart_by at i q n few e (inr most) = let more : q < i = grind (arith, nat_tests) in inr (omega (arith, more, few))

put_by : (same : Bool) (type : Y.LeafType) (m : List ℕ) (at i q : ℕ) (x : ℤ) (z : ℕ → ℤ) → (i == q) ≡ same → at + 4 * q + 4 ≤ length m → Fits type (z q) → Fits type x → Cell m (at + 4 * i) (word (content type (z i))) → Cell (store (store_width (store_kind type)) m (at + 4 * q) (word x)) (at + 4 * i) (word (content type (cond same x (z i))))
put_by true type m at i q x z e room old fits c =
    let same : i ≡ q = eqb-true i q e in
    let kind = store_kind type in
    let m' = store (store_width kind) m (at + 4 * q) (word x) in
    let wide = fits_wide type x fits in
    let mine : Cell m (at + 4 * q) (kept_by kind (word (z q))) =
    subst (Cell m (at + 4 * q)) (content_word type (z q) (fits_wide type (z q) old)) (subst (λ u. Cell m (at + 4 * u) (word (content type (z u)))) same c) in
    subst (λ u. Cell m' (at + 4 * u) (word (content type x))) (sym same)
    (subst (Cell m' (at + 4 * q)) (sym (content_word type x wide)) (cell_stored kind m (at + 4 * q) (word (z q)) (word x) (word_small x wide) room mine))
put_by false type m at i q x z e room old fits c =
    let kind = store_kind type in
    cell_other (store_width kind) m (at + 4 * q) (word x) (at + 4 * i) (word (content type (z i))) (apart_by at i q (store_width kind) (width_most kind) e (cases_lt i q)) c

pub elements_put : (type : Y.LeafType) (m : List ℕ) (at count q : ℕ) (x : ℤ) (z : ℕ → ℤ) → q < count → at + 4 * count ≤ length m → Fits type (z q) → Fits type x → ElementsThere m at count (contents_of type z) → ElementsThere (store (store_width (store_kind type)) m (at + 4 * q) (word x)) at count (contents_of type (with_element_at z q x))
elements_put type m at count q x z below room old fits o p below' =
    put_by (p == q) type m at p q x z refl (omega (arith, below, room)) old fits (o p below')

-- an element is found
pub element_loads : (type : Y.LeafType) (m : List ℕ) (at count p : ℕ) (z : ℕ → ℤ) → p < count → Fits type (z p) → ElementsThere m at count (contents_of type z) → extended (load_kind type) (load (load_width (load_kind type)) m (at + 4 * p)) ≡ word (z p)
element_loads type m at count p z below fits o =
    cell_found type (z p) m (at + 4 * p) fits (subst (Cell m (at + 4 * p)) (content_word type (z p) (fits_wide type (z p) fits)) (o p below))
