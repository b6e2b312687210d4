-- Arrays in the main procedure's frame: their elements are read and written there, whatever the other variables hold.
use Rattle.std.proofs.Common.{◌≡◌, ℕ, ◌+◌, ◌*◌, ◌^◌, ◌<◌, ◌≤◌, List, ◌∷◌, Bool, true, false, refl, sym, ap, subst, arith, ◌∙◌}
use Rattle.std.specs.Prelude.{ℤ, cond, ◌==◌}
use Rattle.std.proofs.lemmas.Bool.{eqb-true, eq-eqb}
use Rattle.rv_meaning.specs.Words.{word}
use Rattle.rv_meaning.specs.Memory.{load, store}
use Rattle.rv_meaning.specs.Machine.{load_width, extended, store_width}
use Rattle.pli_typing.specs.Signatures.{Bounds, element_count}
use Rattle.pli_typing.specs.TypedTree as Y
use Rattle.pli_coding.specs.Environments.{Environment}
use Rattle.pli_headline.specs.ProvedSoFar.{Names, AreBounds, Kind}
use Rattle.run_steps.specs.Engine.{Base}
use Rattle.run_steps.proofs.Numbers.{above_sum, above_small}
use Rattle.pli_headline.proofs.Scalars.{Values, load_kind, store_kind, IsNumeric}
use Rattle.pli_headline.proofs.VariablePlaces.{Sizes, room_of, number_place, room_next, room_even}
use Rattle.pli_headline.proofs.Variables.{data_place}
use Rattle.pli_headline.proofs.ElementsStay.{ElementsThere, with_element_at, contents_of}
use Rattle.pli_headline.proofs.Cells.{Cell, content}
use Rattle.pli_headline.proofs.Holdings.{Content, Many, There, size_in, content_for, many_numeric}
use Rattle.pli_headline.proofs.ArrayElements.{IsDeclaredArray}
use Rattle.pli_headline.proofs.ArrayScopes.{with_element_of, ArrayOn}
use Rattle.pli_headline.proofs.MainGround.{Frame, Stands, ground_of, contents}
use Rattle.pli_headline.proofs.MainArrays.{with_array_at, main_element_stored, main_element_found}

-- ---- what the frame's variables hold, said otherwise

elements_as : (m : List ℕ) (at count : ℕ) (z z' : ℕ → ℤ) → ((p : ℕ) → z p ≡ z' p) → ElementsThere m at count z → ElementsThere m at count z'
elements_as m at count z z' same o p below = subst (λ u. Cell m (at + 4 * p) (word u)) (same p) (o p below)

held_by : (q : Bool) (held held' : ℕ → Content) (m : List ℕ) (at i j count : ℕ) (z z' : ℕ → ℤ) → (i == j) ≡ q → held' j ≡ Many count z' → ((p : ℕ) → z p ≡ z' p) → ((i == j) ≡ false → held' i ≡ held i) → There m at (cond q (Many count z) (held i)) → There m at (held' i)
held_by true held held' m at i j count z z' e is same other o =
    subst (λ u. There m at (held' u)) (sym (eqb-true i j e)) (subst (There m at) (sym is) (elements_as m at count z z' same o))
held_by false held held' m at i j count z z' e is same other o = subst (There m at) (sym (other e)) o

fits_by : (q : Bool) (s : Sizes) (held held' : ℕ → Content) (i j count : ℕ) (z z' : ℕ → ℤ) → (i == j) ≡ q → held' j ≡ Many count z' → ((i == j) ≡ false → held' i ≡ held i) → 16 + size_in (cond q (Many count z) (held i)) ≤ s.of i → 16 + size_in (held' i) ≤ s.of i
fits_by true s held held' i j count z z' e is other small' =
    subst (λ u. 16 + size_in (held' u) ≤ s.of i) (sym (eqb-true i j e)) (subst (λ u. 16 + size_in u ≤ s.of i) (sym is) small')
fits_by false s held held' i j count z z' e is other small' =
    subst (λ u. 16 + size_in u ≤ s.of i) (sym (other e)) small'

-- the same frame, where what variables hold is said otherwise
stands_as : (f : Frame) (first : List ℕ) (held held' : ℕ → Content) (j count : ℕ) (z z' : ℕ → ℤ) (t : ℕ → ℕ) (b : Base) (m : List ℕ) → held' j ≡ Many count z' → ((p : ℕ) → z p ≡ z' p) → ((i : ℕ) → i < f.count → (i == j) ≡ false → held' i ≡ held i) → Stands f first (with_array_at held j count z) t b m → Stands f first held' t b m
stands_as f first held held' j count z z' t b m is same other o =
    record {
      statics = o.statics;
      resumes = o.resumes;
      below = o.below;
      own = o.own;
      variables = λ i h. held_by (i == j) held held' m (f.at + number_place f.sizes i) i j count z z' refl is same (other i h) (o.variables i h);
      fits = λ i h. fits_by (i == j) f.sizes held held' i j count z z' refl is (other i h) (o.fits i h);
      temporaries = o.temporaries;
      names = o.names;
    }

-- where an array stands in a frame
pub record ArrayIn (f : Frame) (j : ℕ) (type : Y.LeafType) (bs : List Bounds) (held : Values → ℕ → Content) : Type 0 where
  pub below : j < f.count
  pub size : 16 + 4 * element_count bs ≤ f.sizes.of j
  pub few : element_count bs ≤ 2 ^ 20
  pub is : (n : Values) → held n j ≡ Many (element_count bs) (contents_of type (n.arrays j))
  pub others : (n : Values) (p : ℕ) (z : ℤ) (i : ℕ) → i < f.count → (i == j) ≡ false → held (with_element_of n j p z) i ≡ held n i

-- of those that stand by their kinds
content_beside : (q : Bool) (kind : ℕ → Kind) (n : Values) (i p : ℕ) (z : ℤ) → q ≡ false → content_for (kind i) (n.numbers i) (n.texts i) (cond q (with_element_at (n.arrays i) p z) (n.arrays i)) (n.text_arrays i) ≡ contents kind n i
content_beside true kind n i p z e = absurd (cc e)
content_beside false kind n i p z e = refl

pub array_in : (f : Frame) (kind : ℕ → Kind) (j : ℕ) (type : Y.LeafType) (b : Bounds) (bs : List Bounds) → j < f.count → IsNumeric type → kind j ≡ record { type = type; bounds = b ∷ bs } → 16 + 4 * element_count (b ∷ bs) ≤ f.sizes.of j → element_count (b ∷ bs) ≤ 2 ^ 20 → ArrayIn f j type (b ∷ bs) (contents kind)
array_in f kind j type b bs below numeric is size few =
    record {
      below = below;
      size = size;
      few = few;
      is = λ n.
          ap (λ k. content_for k (n.numbers j) (n.texts j) (n.arrays j) (n.text_arrays j)) is ∙ many_numeric type (element_count (b ∷ bs)) (n.arrays j) (n.text_arrays j) numeric;
      others = λ n p z i among apart. content_beside (i == j) kind n i p z apart;
    }

pub main_array : (f : Frame) (first : List ℕ) (e : Environment) (block : Names) (j : ℕ) (type : Y.LeafType) (bs : List Bounds) (held : Values → ℕ → Content) (at : ArrayIn f j type bs held) → IsDeclaredArray e block j type bs → AreBounds bs → data_place e block j ≡ number_place f.sizes j → ArrayOn e block f.at (f.at + 144 + room_of f.sizes f.count) (λ n. ground_of f first (held n)) j type bs
main_array f first e block j type bs held at declared bounds placed =
    let inside = f.inside in
    let above = f.above_statics in
    let whole = f.whole in
    let next' = room_next f.sizes j f.count at.below in
    let size = at.size in
    let even = room_even f.sizes j in
    let ec = element_count bs in
    record {
      declared = declared;
      bounds = bounds;
      few = at.few;
      within = omega (arith, inside, next', size);
      under = omega (arith, placed, next', size);
      places = λ p below. record {
        small' = above_small (data_place e block j) (omega (arith, placed, inside, next'));
        sums = λ b. above_sum b.at (f.at + 4 * p) (data_place e block j) b.valid.1 (omega (arith, placed, inside, next', size, below));
        aligned = omega (arith, placed, whole, even);
        inside = omega (arith, placed, inside, next', size, below);
        above_code = omega (arith, above);
      };
      reads = λ n p below fits t b m o.
          let here : f.at + number_place f.sizes j + 4 * p ≡ f.at + 4 * p + data_place e block j = omega (arith, placed) in
          subst (λ u. extended (load_kind type) (load (load_width (load_kind type)) m u) ≡ word (n.arrays j p)) here
          (main_element_found f first (held n) j type ec p (n.arrays j) at.below (at.is n) below fits t b m o);
      writes = λ n p z below old fits t b m len o.
          let here : f.at + number_place f.sizes j + 4 * p ≡ f.at + 4 * p + data_place e block j = omega (arith, placed) in
          let n' = with_element_of n j p z in
          subst (λ u. Stands f first (held n') t b (store (store_width (store_kind type)) m u (word z))) here
          (stands_as f first (held n) (held n') j ec (contents_of type (with_element_at (n.arrays j) p z)) (contents_of type (n'.arrays j)) t b
          (store (store_width (store_kind type)) m (f.at + number_place f.sizes j + 4 * p) (word z))
          (at.is n') (λ q. ap (λ t. content type ((cond t (with_element_at (n.arrays j) p z) (n.arrays j)) q)) (sym (eq-eqb j j refl))) (λ i h apart. at.others n p z i h apart)
          (main_element_stored f first (held n) j type ec p z (n.arrays j) at.below (at.is n) below old fits t b m len o));
    }
