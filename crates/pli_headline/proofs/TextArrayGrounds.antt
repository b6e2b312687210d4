-- Arrays of texts in the main procedure's frame: their elements are read and written there, whatever the other variables hold.
use Rattle.std.proofs.Common.{◌≡◌, ℕ, suc, ◌+◌, ◌-◌, ◌*◌, ◌^◌, ◌<◌, ◌≤◌, ◌⊎◌, inl, inr, List, ◌∷◌, length, Bool, true, false, refl, sym, ap, ◌∙◌, subst, arith}
use Rattle.std.specs.Prelude.{cond, ◌==◌}
use Rattle.std.proofs.lemmas.Bool.{eqb-true, cases_lt}
use Rattle.std.proofs.lemmas.Bool.Decides.{nat_tests}
use Rattle.rv_meaning.specs.Machine.{memory_size}
use Rattle.pli_typing.specs.Signatures.{Bounds, element_count}
use Rattle.pli_meaning.specs.BasicValues.{BasicText}
use Rattle.pli_serving.specs.Bytes.{with_bytes}
use Rattle.pli_serving.specs.Stored.{kept_bytes}
use Rattle.pli_coding.specs.Environments.{Environment}
use Rattle.pli_headline.specs.ProvedSoFar.{Names, AreBounds, Kind, text_leaf}
use Rattle.run_steps.specs.Engine.{Base}
use Rattle.pli_headline.proofs.Scalars.{Values}
use Rattle.pli_headline.proofs.WrittenBytes.{byte-with_below, load-with_other}
use Rattle.pli_headline.proofs.VariablePlaces.{Sizes, room_of, number_place, room_next}
use Rattle.pli_headline.proofs.Variables.{data_place}
use Rattle.pli_headline.proofs.TextPlaces.{text_kind_of, TextThere}
use Rattle.pli_headline.proofs.TextsKept.{text_kept_as, kept_length}
use Rattle.pli_headline.proofs.TextArraysStay.{text_stride, with_text_in, text_within, texts_put}
use Rattle.pli_headline.proofs.Holdings.{ManyTexts, There, size_in, content_for, many_texts, sizes_same}
use Rattle.pli_headline.proofs.ArrayElements.{IsDeclaredArray}
use Rattle.pli_headline.proofs.NamesStand.{name_untouched}
use Rattle.pli_headline.proofs.MainGround.{Frame, Stands, ground_of, contents}
use Rattle.pli_headline.proofs.MainTexts.{there_beside}
use Rattle.pli_headline.proofs.TextArrayScopes.{with_text_of, TextArrayOn}

abbrev text_kind : (varying : Bool) → (most : ℕ) → Bounds → List Bounds → Kind
text_kind varying most b bs = record { type = text_leaf varying most; bounds = b ∷ bs }

-- what stands in memory for it
held_as : (kind : ℕ → Kind) (n : Values) (j : ℕ) (varying : Bool) (most : ℕ) (b : Bounds) (bs : List Bounds) (texts : ℕ → List ℕ) → kind j ≡ text_kind varying most b bs → content_for (kind j) (n.numbers j) (n.texts j) (n.arrays j) texts ≡ ManyTexts varying most (element_count (b ∷ bs)) texts
held_as kind n j varying most b bs texts is =
    ap (λ k. content_for k (n.numbers j) (n.texts j) (n.arrays j) texts) is ∙ many_texts varying most (element_count (b ∷ bs)) (n.arrays j) texts

-- an element of one variable meets no other variable
apart_by : (s : Sizes) (size whole bytes d at i j : ℕ) → d + bytes ≤ whole → 16 + size ≤ s.of i → 16 + whole ≤ s.of j → (i == j) ≡ false → (i < j) ⊎ (j ≤ i) → (at + number_place s j + d + bytes ≤ at + number_place s i) ⊎ (at + number_place s i + size ≤ at + number_place s j + d)
apart_by s size whole bytes d at i j inside small' mine e (inl less) = let r = room_next s i j less in inr (omega (arith, r, small'))
apart_by s size whole bytes d at i j inside small' mine e (inr most) =
    let more : j < i = grind (arith, nat_tests) in
    let r = room_next s j i more in
    inl (omega (arith, r, mine, inside))

element_put : (q : Bool) (s : Sizes) (kind : ℕ → Kind) (n : Values) (m : List ℕ) (at i j p : ℕ) (varying : Bool) (most : ℕ) (b : Bounds) (bs : List Bounds) (text : List ℕ) → (i == j) ≡ q → kind j ≡ text_kind varying most b bs → most ≤ 1024 → p < element_count (b ∷ bs) → 16 + size_in (contents kind n i) ≤ s.of i → 16 + element_count (b ∷ bs) * text_stride varying most ≤ s.of j → at + number_place s j + element_count (b ∷ bs) * text_stride varying most ≤ length m → There m (at + number_place s i) (contents kind n i) → There (with_bytes (kept_bytes (text_kind_of varying most) (BasicText text)) (at + number_place s j + p * text_stride varying most) m) (at + number_place s i) (content_for (kind i) (n.numbers i) (n.texts i) (n.arrays i) (cond q (with_text_in (n.text_arrays i) p (text_kept_as varying most text)) (n.text_arrays i)))
element_put true s kind n m at i j p varying most b bs text e is few below small' mine room o =
    let same : i ≡ j = eqb-true i j e in
    let kept = text_kept_as varying most text in
    let m' = with_bytes (kept_bytes (text_kind_of varying most) (BasicText text)) (at + number_place s j + p * text_stride varying most) m in
    let count = element_count (b ∷ bs) in
    let texts = with_text_in (n.text_arrays j) p kept in
    let here : There m (at + number_place s j) (ManyTexts varying most count (n.text_arrays j)) =
    subst (There m (at + number_place s j)) (held_as kind n j varying most b bs (n.text_arrays j) is) (subst (λ u. There m (at + number_place s u) (contents kind n u)) same o) in
    let done : There m' (at + number_place s j) (ManyTexts varying most count texts) = texts_put varying most m (at + number_place s j) count p text (n.text_arrays j) few below room here in
    subst (λ u. There m' (at + number_place s u) (content_for (kind u) (n.numbers u) (n.texts u) (n.arrays u) (with_text_in (n.text_arrays u) p kept))) (sym same)
    (subst (There m' (at + number_place s j)) (sym (held_as kind n j varying most b bs texts is)) done)
element_put false s kind n m at i j p varying most b bs text e is few below small' mine room o =
    let bytes = kept_bytes (text_kind_of varying most) (BasicText text) in
    let long = kept_length varying most text in
    let count = element_count (b ∷ bs) in
    let d = p * text_stride varying most in
    let inside = text_within varying most p count below in
    there_beside bytes m (at + number_place s j + d) (at + number_place s i) (contents kind n i) (omega (arith, room, inside, long))
    (apart_by s (size_in (contents kind n i)) (count * text_stride varying most) (length bytes) d at i j (omega (arith, inside, long)) small' mine e (cases_lt i j)) o

pub main_text_element_stored : (f : Frame) (first : List ℕ) (kind : ℕ → Kind) (n : Values) (j p : ℕ) (varying : Bool) (most : ℕ) (b : Bounds) (bs : List Bounds) (text : List ℕ) → j < f.count → kind j ≡ text_kind varying most b bs → most ≤ 1024 → 16 + element_count (b ∷ bs) * text_stride varying most ≤ f.sizes.of j → p < element_count (b ∷ bs) → (t : ℕ → ℕ) (c : Base) (m : List ℕ) → length m ≡ memory_size → Stands f first (contents kind n) t c m → Stands f first (contents kind (with_text_of n j p (text_kept_as varying most text))) t c (with_bytes (kept_bytes (text_kind_of varying most) (BasicText text)) (f.at + number_place f.sizes j + p * text_stride varying most) m)
main_text_element_stored f first kind n j p varying most b bs text among is few size below t c m len o =
    let above = f.above_statics in
    let inside = f.inside in
    let bytes = kept_bytes (text_kind_of varying most) (BasicText text) in
    let long = kept_length varying most text in
    let q = f.at + number_place f.sizes j + p * text_stride varying most in
    let n' = with_text_of n j p (text_kept_as varying most text) in
    let row = text_within varying most p (element_count (b ∷ bs)) below in
    let next' = room_next f.sizes j f.count among in
    let whole : f.at + number_place f.sizes j + element_count (b ∷ bs) * text_stride varying most ≤ length m = omega (arith, inside, next', size, len) in
    let room : q + length bytes ≤ length m = omega (arith, whole, row, long) in
    record {
      statics = λ k h. byte-with_below bytes m q k room (omega (arith, above, h)) ∙ o.statics k h;
      resumes = load-with_other 4 bytes m q f.at room (inl (omega arith)) ∙ o.resumes;
      below = load-with_other 4 bytes m q (f.at + 4) room (inl (omega arith)) ∙ o.below;
      own = load-with_other 4 bytes m q (f.at + 36) room (inl (omega arith)) ∙ o.own;
      variables = λ i h. element_put (i == j) f.sizes kind n m f.at i j p varying most b bs text refl is few below (o.fits i h) size whole (o.variables i h);
      fits = λ i h. subst (λ u. 16 + u ≤ f.sizes.of i) (sizes_same (kind i) (n.numbers i) (n.numbers i) (n.texts i) (n.texts i) (n.arrays i) (n.arrays i) (n.text_arrays i) (n'.text_arrays i)) (o.fits i h);
      temporaries = λ i h. load-with_other 4 bytes m q (f.at - 4 * suc i) room (inl (omega (arith, above, h))) ∙ o.temporaries i h;
      names = λ i h. name_untouched bytes m f.sizes f.at i j (p * text_stride varying most) q refl room (omega (arith, size, row, long)) (o.names i h);
    }

-- the room of an array of texts in a frame
pub record TextArrayFits (f : Frame) (j : ℕ) (varying : Bool) (most : ℕ) (bs : List Bounds) : Type 0 where
  pub bounds : AreBounds bs
  pub size : 16 + element_count bs * text_stride varying most ≤ f.sizes.of j
  pub few : element_count bs ≤ 2 ^ 20
  pub some : 1 ≤ most
  pub short : most ≤ 1024

pub main_text_array : (f : Frame) (first : List ℕ) (e : Environment) (block : Names) (kind : ℕ → Kind) (j : ℕ) (varying : Bool) (most : ℕ) (b : Bounds) (bs : List Bounds) → j < f.count → kind j ≡ text_kind varying most b bs → TextArrayFits f j varying most (b ∷ bs) → IsDeclaredArray e block j (text_leaf varying most) (b ∷ bs) → data_place e block j ≡ number_place f.sizes j → TextArrayOn e block f.at (f.at + 144 + room_of f.sizes f.count) (λ n. ground_of f first (contents kind n)) j varying most (b ∷ bs)
main_text_array f first e block kind j varying most b bs among is fit declared placed =
    let inside = f.inside in
    let above = f.above_statics in
    let next' = room_next f.sizes j f.count among in
    let size = fit.size in
    let same : (p : ℕ) → f.at + number_place f.sizes j + p * text_stride varying most ≡ f.at + p * text_stride varying most + data_place e block j = λ p. omega (arith, placed) in
    record {
      declared = declared;
      bounds = fit.bounds;
      few = fit.few;
      some = fit.some;
      short = fit.short;
      high = omega (arith, above);
      within = omega (arith, placed, inside, next', size);
      under = omega (arith, placed, next', size);
      reads = λ n p below t c m o.
          let here : There m (f.at + number_place f.sizes j) (ManyTexts varying most (element_count (b ∷ bs)) (n.text_arrays j)) = subst (There m (f.at + number_place f.sizes j)) (held_as kind n j varying most b bs (n.text_arrays j) is) (o.variables j among) in
          subst (λ u. TextThere varying most u m (n.text_arrays j p)) (same p) (here p below);
      writes = λ n p text below t c m len o.
          subst (λ u. Stands f first (contents kind (with_text_of n j p (text_kept_as varying most text))) t c (with_bytes (kept_bytes (text_kind_of varying most) (BasicText text)) u m)) (same p)
          (main_text_element_stored f first kind n j p varying most b bs text among is fit.short size below t c m len o);
    }
