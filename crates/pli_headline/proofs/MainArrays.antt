-- An element of an array is stored in the main procedure's frame: what stands in memory then.
use Rattle.std.proofs.Common.{◌≡◌, ℕ, suc, ◌+◌, ◌-◌, ◌*◌, ◌<◌, ◌≤◌, ◌⊎◌, inl, inr, List, length, Bool, true, false, refl, sym, ◌∙◌, subst, arith}
use Rattle.std.specs.Prelude.{ℤ, cond, ◌==◌}
use Rattle.std.proofs.lemmas.Bool.{eqb-true, cases_lt}
use Rattle.std.proofs.lemmas.Bool.Decides.{nat_tests}
use Rattle.rv_meaning.specs.Words.{word}
use Rattle.rv_meaning.specs.Memory.{load, store}
use Rattle.rv_meaning.specs.Machine.{memory_size, load_width, extended, store_width}
use Rattle.rv_meaning.proofs.MemoryLaws.{byte-store_below, load-store_other}
use Rattle.pli_typing.specs.TypedTree as Y
use Rattle.run_steps.specs.Engine.{Base}
use Rattle.pli_headline.proofs.Scalars.{Fits, load_kind, store_kind}
use Rattle.pli_headline.proofs.VariablePlaces.{Sizes, number_place, room_next}
use Rattle.pli_headline.proofs.ElementsStay.{with_element_at, contents_of, elements_put, element_loads}
use Rattle.pli_headline.proofs.Holdings.{Content, Many, There, size_in, there_other}
use Rattle.pli_headline.proofs.NamesStand.{name_kept}
use Rattle.pli_headline.proofs.MainGround.{Frame, Stands, width_few}

-- what the variables hold then
abbrev pub with_array_at : (ℕ → Content) → (j count : ℕ) → (ℕ → ℤ) → ℕ → Content
with_array_at held j count z i = cond (i == j) (Many count z) (held i)

-- an element of one variable meets no other variable
apart_by : (s : Sizes) (size count q n at i j : ℕ) → n ≤ 4 → q < count → 16 + size ≤ s.of i → 16 + 4 * count ≤ s.of j → (i == j) ≡ false → (i < j) ⊎ (j ≤ i) → (at + number_place s i + size ≤ at + number_place s j + 4 * q) ⊎ (at + number_place s j + 4 * q + n ≤ at + number_place s i)
apart_by s size count q n at i j few inside small' mine e (inl less) = let r = room_next s i j less in inl (omega (arith, r, small'))
apart_by s size count q n at i j few inside small' mine e (inr most) =
    let more : j < i = grind (arith, nat_tests) in
    let r = room_next s j i more in
    inr (omega (arith, r, mine, few, inside))

element_put : (s : Sizes) (same : Bool) (held : ℕ → Content) (type : Y.LeafType) (m : List ℕ) (at i j count q : ℕ) (x : ℤ) (n : ℕ → ℤ) → (i == j) ≡ same → held j ≡ Many count (contents_of type n) → q < count → Fits type (n q) → Fits type x → 16 + size_in (held i) ≤ s.of i → 16 + 4 * count ≤ s.of j → at + number_place s j + 4 * count ≤ length m → There m (at + number_place s i) (held i) → There (store (store_width (store_kind type)) m (at + number_place s j + 4 * q) (word x)) (at + number_place s i) (cond same (Many count (contents_of type (with_element_at n q x))) (held i))
element_put s true held type m at i j count q x n e is below old fits small' mine room o =
    let same : i ≡ j = eqb-true i j e in
    let m' = store (store_width (store_kind type)) m (at + number_place s j + 4 * q) (word x) in
    let here : There m (at + number_place s j) (Many count (contents_of type n)) = subst (There m (at + number_place s j)) is (subst (λ u. There m (at + number_place s u) (held u)) same o) in
    subst (λ u. There m' (at + number_place s u) (Many count (contents_of type (with_element_at n q x)))) (sym same)
    (elements_put type m (at + number_place s j) count q x n below room old fits here)
element_put s false held type m at i j count q x n e is below old fits small' mine room o =
    there_other (store_width (store_kind type)) m (at + number_place s j + 4 * q) (word x) (at + number_place s i) (held i) (apart_by s (size_in (held i)) count q (store_width (store_kind type)) at i j (width_few (store_kind type)) below small' mine e (cases_lt i j)) o

fits_put : (s : Sizes) (same : Bool) (held : ℕ → Content) (i j count : ℕ) (z : ℕ → ℤ) → (i == j) ≡ same → 16 + size_in (held i) ≤ s.of i → 16 + 4 * count ≤ s.of j → 16 + size_in (cond same (Many count z) (held i)) ≤ s.of i
fits_put s true held i j count z e small' mine = subst (λ u. 16 + 4 * count ≤ s.of u) (sym (eqb-true i j e)) mine
fits_put s false held i j count z e small' mine = small'

pub main_element_stored : (f : Frame) (first : List ℕ) (held : ℕ → Content) (j : ℕ) (type : Y.LeafType) (count q : ℕ) (x : ℤ) (n : ℕ → ℤ) → j < f.count → held j ≡ Many count (contents_of type n) → q < count → Fits type (n q) → Fits type x → (t : ℕ → ℕ) (b : Base) (m : List ℕ) → length m ≡ memory_size → Stands f first held t b m → Stands f first (with_array_at held j count (contents_of type (with_element_at n q x))) t b (store (store_width (store_kind type)) m (f.at + number_place f.sizes j + 4 * q) (word x))
main_element_stored f first held j type count q x n below is inside' old fits t b m len o =
    let above = f.above_statics in
    let inside = f.inside in
    let p = f.at + number_place f.sizes j + 4 * q in
    let w = store_width (store_kind type) in
    let mine : 16 + 4 * count ≤ f.sizes.of j = subst (λ u. 16 + size_in u ≤ f.sizes.of j) is (o.fits j below) in
    let next' = room_next f.sizes j f.count below in
    let room : f.at + number_place f.sizes j + 4 * count ≤ length m = omega (arith, inside, next', mine, len) in
    record {
      statics = λ k h. byte-store_below w m p (word x) k (omega (arith, above, h)) ∙ o.statics k h;
      resumes = load-store_other w 4 m p (word x) f.at (inl (omega arith)) ∙ o.resumes;
      below = load-store_other w 4 m p (word x) (f.at + 4) (inl (omega arith)) ∙ o.below;
      own = load-store_other w 4 m p (word x) (f.at + 36) (inl (omega arith)) ∙ o.own;
      variables = λ i h. element_put f.sizes (i == j) held type m f.at i j count q x n refl is inside' old fits (o.fits i h) mine room (o.variables i h);
      fits = λ i h. fits_put f.sizes (i == j) held i j count (contents_of type (with_element_at n q x)) refl (o.fits i h) mine;
      temporaries = λ i h. load-store_other w 4 m p (word x) (f.at - 4 * suc i) (inl (omega (arith, above, h))) ∙ o.temporaries i h;
      names = λ i h. name_kept w m f.sizes f.at (word x) i j (4 * q) p (omega arith) (width_few (store_kind type)) (omega (arith, mine, inside')) (o.names i h);
    }

-- and an element is found there
pub main_element_found : (f : Frame) (first : List ℕ) (held : ℕ → Content) (j : ℕ) (type : Y.LeafType) (count q : ℕ) (n : ℕ → ℤ) → j < f.count → held j ≡ Many count (contents_of type n) → q < count → Fits type (n q) → (t : ℕ → ℕ) (b : Base) (m : List ℕ) → Stands f first held t b m → extended (load_kind type) (load (load_width (load_kind type)) m (f.at + number_place f.sizes j + 4 * q)) ≡ word (n q)
main_element_found f first held j type count q n below is inside' fits t b m o =
    element_loads type m (f.at + number_place f.sizes j) count q n inside' fits (subst (There m (f.at + number_place f.sizes j)) is (o.variables j below))
