-- What stands in memory while the main procedure runs: its frame, its variables, its temporaries and the static data.
use Rattle.std.proofs.Common.{◌≡◌, ℕ, suc, ◌+◌, ◌-◌, ◌*◌, ◌%◌, ◌^◌, ◌<◌, ◌≤◌, ◌⊎◌, inl, inr, List, length, Bool, true, false, refl, sym, ap, ◌∙◌, subst, arith}
use Rattle.std.specs.Prelude.{ℤ, pos, cond, ◌==◌, slice_index}
use Rattle.std.proofs.lemmas.Bool.{eqb-true}
use Rattle.std.proofs.lemmas.Bool.Decides.{nat_tests}
use Rattle.rv_meaning.specs.declared.instr.StoreKind.{StoreKind}
use Rattle.rv_meaning.specs.declared.instr.StoreKind.TheVariants as Store
use Rattle.rv_meaning.specs.Words.{word}
use Rattle.rv_meaning.specs.Memory.{load, store}
use Rattle.rv_meaning.specs.Machine.{memory_size, load_width, extended, store_width}
use Rattle.rv_meaning.proofs.MemoryLaws.{byte-store_below, load-store_same, load-store_other}
use Rattle.pli_typing.specs.TypedTree as Y
use Rattle.pli_serving.specs.Bytes.{with_bytes}
use Rattle.pli_headline.proofs.WrittenBytes.{load-with_other, byte-with_below}
use Rattle.pli_headline.specs.ProvedSoFar.{Kind, alone}
use Rattle.run_steps.specs.Engine.{Base, address}
use Rattle.run_steps.proofs.Numbers.{above_sum, above_small, word_small}
use Rattle.pli_headline.proofs.Scalars.{Fits, fits_wide, load_kind, store_kind, Values}
use Rattle.pli_headline.proofs.VariablePlaces.{Sizes, room_of, number_place, room_before, room_next, room_even, apart_places}
use Rattle.pli_headline.proofs.NamesStand.{NameThere, name_other, name_beside, name_place, name_kept}
use Rattle.pli_headline.proofs.Cells.{Cell, kept_by, content, content_word, cell_stored, cell_found}
use Rattle.pli_headline.proofs.Holdings.{Content, Counted, There, size_in, there_other, content_numeric, content_for, sizes_same, there_below}
use Rattle.run_steps.specs.Bodies.{Ground, PlaceFrom}
use Rattle.run_steps.specs.Temporaries.{Temporaries}
use Rattle.pli_headline.proofs.States.{with_number_at}

-- where the frame lies, its words for temporaries, how many variables stand in it and what they take, and the index at which its caller goes on
pub record Frame : Type 0 where
  pub at : ℕ
  pub words : ℕ
  pub count : ℕ
  pub sizes : Sizes
  pub resume : ℕ
  pub whole : at % 4 ≡ 0
  pub above_statics : 7 * 2 ^ 20 + 48 + 4 * words ≤ at
  pub inside : at + 160 + room_of sizes count ≤ 14 * 2 ^ 20

abbrev pub statics_end : ℕ
statics_end = 7 * 2 ^ 20

pub record Stands (f : Frame) (first : List ℕ) (held : ℕ → Content) (t : ℕ → ℕ) (b : Base) (m : List ℕ) : Type 0 where
  pub statics : (k : ℕ) → k < statics_end → slice_index m k ≡ slice_index first k
  pub resumes : load 4 m f.at ≡ address b f.resume
  pub below : load 4 m (f.at + 4) ≡ b.at + statics_end
  pub own : load 4 m (f.at + 36) ≡ f.at
  pub variables : (j : ℕ) → j < f.count → There m (f.at + number_place f.sizes j) (held j)
  pub fits : (j : ℕ) → j < f.count → 16 + size_in (held j) ≤ f.sizes.of j
  pub temporaries : (j : ℕ) → j < f.words → load 4 m (f.at - 4 * suc j) ≡ t j
  pub names : (j : ℕ) → j < f.count → NameThere m (f.at + name_place f.sizes j) (suc j)

abbrev pub ground_of : Frame → List ℕ → (ℕ → Content) → Ground
ground_of f first held =
    record {
      frame = f.at;
      free = f.at + 144 + room_of f.sizes f.count;
      words = f.words;
      memory = Stands f first held;
      whole = f.whole;
      above_code = let h = f.above_statics in omega (arith, h);
      inside = let h = f.inside in omega (arith, h);
    }

-- where its caller goes on, and the frame's own offset
abbrev pub lowest_holds : Frame → Base → List ℕ → Type 0
lowest_holds f b m = (load 4 m f.at ≡ address b f.resume) × (load 4 m (f.at + 36) ≡ f.at)

-- ---- temporaries

pub apart_words : (at i j words : ℕ) → (i == j) ≡ false → i < words → j < words → 4 * words ≤ at → (at - 4 * suc i + 4 ≤ at - 4 * suc j) ⊎ (at - 4 * suc j + 4 ≤ at - 4 * suc i)
apart_words at i j words e h k r = grind (arith, nat_tests)

word_put : (q : Bool) (m : List ℕ) (t : ℕ → ℕ) (at i j x words : ℕ) → (i == j) ≡ q → length m ≡ memory_size → x < 2 ^ 32 → i < words → j < words → 4 * words ≤ at → at ≤ memory_size → load 4 m (at - 4 * suc i) ≡ t i → load 4 (store 4 m (at - 4 * suc j) x) (at - 4 * suc i) ≡ cond q x (t i)
word_put true m t at i j x words e len fits h k r s o =
    let same : i ≡ j = eqb-true i j e in
    ap (λ u. load 4 (store 4 m (at - 4 * suc j) x) (at - 4 * suc u)) same ∙ load-store_same 4 m (at - 4 * suc j) x fits (omega (arith, len, k, r, s))
word_put false m t at i j x words e len fits h k r s o =
    load-store_other 4 4 m (at - 4 * suc j) x (at - 4 * suc i) (apart_words at i j words e h k r) ∙ o

pub main_temporaries : (f : Frame) (first : List ℕ) (held : ℕ → Content) → Temporaries (ground_of f first held)
main_temporaries f first held =
    let above = f.above_statics in
    let inside = f.inside in
    record {
      kept = λ t b m j x below len fits o.
          let p = f.at - 4 * suc j in
          record {
            statics = λ k h. byte-store_below 4 m p x k (omega (arith, above, below, h)) ∙ o.statics k h;
            resumes = load-store_other 4 4 m p x f.at (inr (omega (arith, above, below))) ∙ o.resumes;
            below = load-store_other 4 4 m p x (f.at + 4) (inr (omega (arith, above, below))) ∙ o.below;
            own = load-store_other 4 4 m p x (f.at + 36) (inr (omega (arith, above, below))) ∙ o.own;
            variables = λ i h. there_other 4 m p x (f.at + number_place f.sizes i) (held i) (inr (omega (arith, above, below))) (o.variables i h);
            fits = o.fits;
            temporaries = λ i h. word_put (i == j) m t f.at i j x f.words refl len fits h below (omega (arith, above)) (omega (arith, inside)) (o.temporaries i h);
            names = λ i h. name_other 4 m p x (f.at + name_place f.sizes i) (suc i) (inr (omega (arith, above, below))) (o.names i h);
          };
      found = λ t b m j below known o. o.temporaries j below;
    }

-- ---- variables

pub width_few : (kind : StoreKind) → store_width kind ≤ 4
width_few Store.Byte = omega arith
width_few Store.Half = omega arith
width_few Store.Word = omega arith

-- what stands where the variables hold these numbers and texts
abbrev pub contents : (ℕ → Kind) → Values → ℕ → Content
contents kind held j =
    content_for (kind j) (held.numbers j) (held.texts j) (held.arrays j) (held.text_arrays j)

number_put : (s : Sizes) (q : Bool) (kind : ℕ → Kind) (type : Y.LeafType) (m : List ℕ) (held : Values) (at i j : ℕ) (z : ℤ) → (i == j) ≡ q → kind j ≡ alone type → length m ≡ memory_size → Fits type (held.numbers j) → Fits type z → at + number_place s j + 4 ≤ memory_size → 16 + size_in (contents kind held i) ≤ s.of i → There m (at + number_place s i) (contents kind held i) → There (store (store_width (store_kind type)) m (at + number_place s j) (word z)) (at + number_place s i) (content_for (kind i) (cond q z (held.numbers i)) (held.texts i) (held.arrays i) (held.text_arrays i))
number_put s true kind type m held at i j z e is len old fits h size o =
    let same : i ≡ j = eqb-true i j e in
    let p = at + number_place s j in
    let wide = fits_wide type z fits in
    let whole : There m p (content_for (kind j) (held.numbers j) (held.texts j) (held.arrays j) (held.text_arrays j)) = subst (λ u. There m (at + number_place s u) (contents kind held u)) same o in
    let mine : There m p (Counted (content type (held.numbers j))) =
    subst (There m p) (content_numeric type (held.numbers j) (held.texts j) old) (subst (λ k. There m p (content_for k (held.numbers j) (held.texts j) (held.arrays j) (held.text_arrays j))) is whole) in
    let here : Cell m p (kept_by (store_kind type) (word (held.numbers j))) = subst (Cell m p) (content_word type (held.numbers j) (fits_wide type (held.numbers j) old)) mine in
    let m' = store (store_width (store_kind type)) m p (word z) in
    let there : Cell m' p (word (content type z)) =
    subst (Cell m' p) (sym (content_word type z wide)) (cell_stored (store_kind type) m p (word (held.numbers j)) (word z) (word_small z wide) (omega (arith, len, h)) here) in
    subst (λ u. There m' (at + number_place s u) (content_for (kind u) z (held.texts u) (held.arrays u) (held.text_arrays u))) (sym same)
    (subst (λ k. There m' p (content_for k z (held.texts j) (held.arrays j) (held.text_arrays j))) (sym is)
    (subst (There m' p) (sym (content_numeric type z (held.texts j) fits)) there))
number_put s false kind type m held at i j z e is len old fits h size o =
    there_other (store_width (store_kind type)) m (at + number_place s j) (word z) (at + number_place s i) (contents kind held i) (apart_places s (store_width (store_kind type)) (size_in (contents kind held i)) at i j (width_few (store_kind type)) size e) o

pub main_writes : (f : Frame) (first : List ℕ) (kind : ℕ → Kind) (held : Values) (j : ℕ) (type : Y.LeafType) (z : ℤ) → j < f.count → kind j ≡ alone type → Fits type (held.numbers j) → Fits type z → (t : ℕ → ℕ) (b : Base) (m : List ℕ) → length m ≡ memory_size → Stands f first (contents kind held) t b m → Stands f first (contents kind (with_number_at held j z)) t b (store (store_width (store_kind type)) m (f.at + number_place f.sizes j) (word z))
main_writes f first kind held j type z below is old fits t b m len o =
    let above = f.above_statics in
    let inside = f.inside in
    let p = f.at + number_place f.sizes j in
    let n = store_width (store_kind type) in
    record {
      statics = λ k h. byte-store_below n m p (word z) k (omega (arith, above, h)) ∙ o.statics k h;
      resumes = load-store_other n 4 m p (word z) f.at (inl (omega arith)) ∙ o.resumes;
      below = load-store_other n 4 m p (word z) (f.at + 4) (inl (omega arith)) ∙ o.below;
      own = load-store_other n 4 m p (word z) (f.at + 36) (inl (omega arith)) ∙ o.own;
      variables = λ i h. number_put f.sizes (i == j) kind type m held f.at i j z refl is len old fits (let r = room_before f.sizes j f.count below in omega (arith, inside, r)) (o.fits i h) (o.variables i h);
      fits = λ i h. subst (λ u. 16 + u ≤ f.sizes.of i) (sizes_same (kind i) (held.numbers i) ((with_number_at held j z).numbers i) (held.texts i) (held.texts i) (held.arrays i) (held.arrays i) (held.text_arrays i) (held.text_arrays i)) (o.fits i h);
      temporaries = λ i h. load-store_other n 4 m p (word z) (f.at - 4 * suc i) (inl (omega (arith, above, h))) ∙ o.temporaries i h;
      names = λ i h. let wide = f.sizes.wide j in name_kept n m f.sizes f.at (word z) i j 0 p (omega arith) (width_few (store_kind type)) (omega (arith, wide)) (o.names i h);
    }

-- what variables hold may be said otherwise
pub stands_same : (f : Frame) (first : List ℕ) (held held' : ℕ → Content) (t : ℕ → ℕ) (b : Base) (m : List ℕ) → ((j : ℕ) → j < f.count → held j ≡ held' j) → Stands f first held t b m → Stands f first held' t b m
stands_same f first held held' t b m same o =
    record {
      statics = o.statics;
      resumes = o.resumes;
      below = o.below;
      own = o.own;
      variables = λ j h. subst (There m (f.at + number_place f.sizes j)) (same j h) (o.variables j h);
      fits = λ j h. subst (λ c. 16 + size_in c ≤ f.sizes.of j) (same j h) (o.fits j h);
      temporaries = o.temporaries;
      names = o.names;
    }

-- without variables there is nothing to hold
pub no_contents : (f : Frame) (first : List ℕ) (held others : ℕ → Content) (t : ℕ → ℕ) (b : Base) (m : List ℕ) → f.count ≡ 0 → Stands f first held t b m → Stands f first others t b m
no_contents f first held others t b m none o =
    record {
      statics = o.statics;
      resumes = o.resumes;
      below = o.below;
      own = o.own;
      variables = λ j h. absurd (omega (arith, none, h));
      fits = λ j h. absurd (omega (arith, none, h));
      temporaries = o.temporaries;
      names = λ j h. absurd (omega (arith, none, h));
    }

pub place_at : (f : Frame) (j n : ℕ) → j < f.count → n ≡ number_place f.sizes j → PlaceFrom f.at (pos n) (f.at + n)
place_at f j n below e =
    let above = f.above_statics in
    let inside = f.inside in
    let whole = f.whole in
    let even = room_even f.sizes j in
    let under = room_before f.sizes j f.count below in
    record {
      small' = above_small n (omega (arith, e, inside, under));
      sums = λ b. above_sum b.at f.at n b.valid.1 (omega (arith, e, inside, under));
      aligned = omega (arith, e, whole, even);
      inside = omega (arith, e, inside, under);
      above_code = omega (arith, above);
    }

pub reads_by : (f : Frame) (first : List ℕ) (kind : ℕ → Kind) (held : Values) (j : ℕ) (type : Y.LeafType) → j < f.count → kind j ≡ alone type → Fits type (held.numbers j) → (t : ℕ → ℕ) (b : Base) (m : List ℕ) → Stands f first (contents kind held) t b m → extended (load_kind type) (load (load_width (load_kind type)) m (f.at + number_place f.sizes j)) ≡ word (held.numbers j)
reads_by f first kind held j type below e fits t b m o =
    let p = f.at + number_place f.sizes j in
    let found : There m p (Counted (content type (held.numbers j))) =
    subst (There m p) (content_numeric type (held.numbers j) (held.texts j) fits) (subst (λ u. There m p (content_for u (held.numbers j) (held.texts j) (held.arrays j) (held.text_arrays j))) e (o.variables j below)) in
    cell_found type (held.numbers j) m (f.at + number_place f.sizes j) fits (subst (Cell m (f.at + number_place f.sizes j)) (content_word type (held.numbers j) (fits_wide type (held.numbers j) fits)) found)

-- what lies above the frame may change
pub main_keeps : (f : Frame) (first : List ℕ) (held : ℕ → Content) (t : ℕ → ℕ) (b : Base) (m : List ℕ) (w p x : ℕ) → f.at + 144 + room_of f.sizes f.count ≤ p → Stands f first held t b m → Stands f first held t b (store w m p x)
main_keeps f first held t b m w p x over o =
    let above = f.above_statics in
    record {
      statics = λ k h. byte-store_below w m p x k (omega (arith, above, over, h)) ∙ o.statics k h;
      resumes = load-store_other w 4 m p x f.at (inl (omega (arith, over))) ∙ o.resumes;
      below = load-store_other w 4 m p x (f.at + 4) (inl (omega (arith, over))) ∙ o.below;
      own = load-store_other w 4 m p x (f.at + 36) (inl (omega (arith, over))) ∙ o.own;
      variables = λ j h. there_other w m p x (f.at + number_place f.sizes j) (held j) (inl (let r = room_next f.sizes j f.count h in let size = o.fits j h in omega (arith, over, r, size))) (o.variables j h);
      fits = o.fits;
      temporaries = λ j h. load-store_other w 4 m p x (f.at - 4 * suc j) (inl (omega (arith, over))) ∙ o.temporaries j h;
      names = λ j h. name_other w m p x (f.at + name_place f.sizes j) (suc j) (inl (let r = room_before f.sizes j f.count h in omega (arith, over, r))) (o.names j h);
    }

pub main_keeps_bytes : (f : Frame) (first : List ℕ) (held : ℕ → Content) (t : ℕ → ℕ) (b : Base) (m bytes : List ℕ) (p : ℕ) → f.at + 144 + room_of f.sizes f.count ≤ p → p + length bytes ≤ length m → Stands f first held t b m → Stands f first held t b (with_bytes bytes p m)
main_keeps_bytes f first held t b m bytes p over room o =
    let above = f.above_statics in
    record {
      statics = λ k h. byte-with_below bytes m p k room (omega (arith, above, over, h)) ∙ o.statics k h;
      resumes = load-with_other 4 bytes m p f.at room (inl (omega (arith, over))) ∙ o.resumes;
      below = load-with_other 4 bytes m p (f.at + 4) room (inl (omega (arith, over))) ∙ o.below;
      own = load-with_other 4 bytes m p (f.at + 36) room (inl (omega (arith, over))) ∙ o.own;
      variables = λ j h. there_below bytes m p (f.at + number_place f.sizes j) (held j) room (let r = room_next f.sizes j f.count h in let size = o.fits j h in omega (arith, over, r, size)) (o.variables j h);
      fits = o.fits;
      temporaries = λ j h. load-with_other 4 bytes m p (f.at - 4 * suc j) room (inl (omega (arith, over))) ∙ o.temporaries j h;
      names = λ j h. name_beside bytes m p (f.at + name_place f.sizes j) (suc j) room (inl (let r = room_before f.sizes j f.count h in omega (arith, over, r))) (o.names j h);
    }
