-- A text is stored in the main procedure's frame: what stands in memory then.
use Rattle.std.proofs.Common.{◌≡◌, ℕ, suc, ◌+◌, ◌-◌, ◌*◌, ◌<◌, ◌≤◌, ◌⊎◌, inl, inr, List, length, Bool, true, false, refl, sym, ap, ◌∙◌, subst, arith}
use Rattle.std.specs.Prelude.{cond, ◌==◌}
use Rattle.std.proofs.lemmas.Bool.{eqb-true, cases_lt}
use Rattle.std.proofs.lemmas.Bool.Decides.{nat_tests}
use Rattle.rv_meaning.specs.Machine.{memory_size}
use Rattle.pli_meaning.specs.BasicValues.{BasicText}
use Rattle.pli_serving.specs.Bytes.{with_bytes}
use Rattle.pli_serving.specs.Stored.{kept_bytes}
use Rattle.pli_headline.specs.ProvedSoFar.{text_leaf, Kind, alone}
use Rattle.run_steps.specs.Engine.{Base}
use Rattle.pli_headline.proofs.VariablePlaces.{Sizes, number_place, room_next}
use Rattle.pli_headline.proofs.WrittenBytes.{byte-with_below, load-with_other}
use Rattle.pli_headline.proofs.TextPlaces.{text_kind_of, text_bytes}
use Rattle.pli_headline.proofs.TextsKept.{text_kept_as, kept_length, kept_there}
use Rattle.pli_headline.proofs.TextsStay.{text_beside}
use Rattle.pli_headline.proofs.Holdings.{Content, Counted, Written, Many, There, size_in, content_text, content_for, ManyTexts}
use Rattle.pli_headline.proofs.ElementsStay.{elements_beside}
use Rattle.pli_headline.proofs.NamesStand.{name_untouched}
use Rattle.pli_headline.proofs.MainGround.{Frame, Stands, contents}
use Rattle.pli_headline.proofs.Scalars.{Values}
use Rattle.pli_headline.proofs.States.{with_text_at}
use Rattle.pli_headline.proofs.TextArraysStay.{texts_beside}

-- bytes that are written elsewhere
pub there_beside : (bytes m : List ℕ) (p at : ℕ) (c : Content) → p + length bytes ≤ length m → (p + length bytes ≤ at) ⊎ (at + size_in c ≤ p) → There m at c → There (with_bytes bytes p m) at c
there_beside bytes m p at (Counted z) room (inl h) c =
    record {
      whole = load-with_other 4 bytes m p at room (inr h) ∙ c.whole;
      half = load-with_other 2 bytes m p at room (inr h) ∙ c.half;
      byte = load-with_other 1 bytes m p at room (inr h) ∙ c.byte;
    }
there_beside bytes m p at (Counted z) room (inr h) c =
    record {
      whole = load-with_other 4 bytes m p at room (inl h) ∙ c.whole;
      half = load-with_other 2 bytes m p at room (inl (omega (arith, h))) ∙ c.half;
      byte = load-with_other 1 bytes m p at room (inl (omega (arith, h))) ∙ c.byte;
    }
there_beside bytes m p at (Written varying most text) room apart c =
    text_beside varying most at m text bytes p room apart c
there_beside bytes m p at (Many count z) room (inl h) c = elements_beside bytes m p at count z room (inr h) c
there_beside bytes m p at (Many count z) room (inr h) c = elements_beside bytes m p at count z room (inl h) c
there_beside bytes m p at (ManyTexts varying most count texts) room (inl h) c =
    texts_beside bytes m p at count varying most texts room (inr h) c
there_beside bytes m p at (ManyTexts varying most count texts) room (inr h) c =
    texts_beside bytes m p at count varying most texts room (inl h) c

apart_by : (s : Sizes) (size n at i j : ℕ) → 16 + size ≤ s.of i → 16 + n ≤ s.of j → (i == j) ≡ false → (i < j) ⊎ (j ≤ i) → (at + number_place s j + n ≤ at + number_place s i) ⊎ (at + number_place s i + size ≤ at + number_place s j)
apart_by s size n at i j small' few e (inl less) = let r = room_next s i j less in inr (omega (arith, r, small'))
apart_by s size n at i j small' few e (inr most) =
    let more : j < i = grind (arith, nat_tests) in
    let r = room_next s j i more in
    inl (omega (arith, r, few))

-- what the variables hold then
abbrev pub with_content_at : (ℕ → Content) → (j : ℕ) → (varying : Bool) → (most : ℕ) → List ℕ → ℕ → Content
with_content_at held j varying most text i = cond (i == j) (Written varying most (text_kept_as varying most text)) (held i)

text_put : (s : Sizes) (q : Bool) (held : ℕ → Content) (m : List ℕ) (at i j : ℕ) (varying : Bool) (most : ℕ) (text : List ℕ) → (i == j) ≡ q → most ≤ 1024 → 16 + size_in (held i) ≤ s.of i → 16 + text_bytes varying most ≤ s.of j → at + number_place s j + text_bytes varying most ≤ length m → There m (at + number_place s i) (held i) → There (with_bytes (kept_bytes (text_kind_of varying most) (BasicText text)) (at + number_place s j) m) (at + number_place s i) (cond q (Written varying most (text_kept_as varying most text)) (held i))
text_put s true held m at i j varying most text e few small' mine room o =
    let m' = with_bytes (kept_bytes (text_kind_of varying most) (BasicText text)) (at + number_place s j) m in
    subst (λ u. There m' (at + number_place s u) (Written varying most (text_kept_as varying most text))) (sym (eqb-true i j e)) (kept_there varying most (at + number_place s j) m text few room)
text_put s false held m at i j varying most text e few small' mine room o =
    let bytes = kept_bytes (text_kind_of varying most) (BasicText text) in
    let long = kept_length varying most text in
    there_beside bytes m (at + number_place s j) (at + number_place s i) (held i) (omega (arith, room, long))
    (apart_by s (size_in (held i)) (length bytes) at i j small' (omega (arith, mine, long)) e (cases_lt i j)) o

fits_put : (s : Sizes) (q : Bool) (held : ℕ → Content) (i j : ℕ) (varying : Bool) (most : ℕ) (text : List ℕ) → (i == j) ≡ q → 16 + size_in (held i) ≤ s.of i → 16 + text_bytes varying most ≤ s.of j → 16 + size_in (cond q (Written varying most (text_kept_as varying most text)) (held i)) ≤ s.of i
fits_put s true held i j varying most text e small' mine = subst (λ u. 16 + text_bytes varying most ≤ s.of u) (sym (eqb-true i j e)) mine
fits_put s false held i j varying most text e small' mine = small'

pub main_written : (f : Frame) (first : List ℕ) (held : ℕ → Content) (j : ℕ) (varying : Bool) (most : ℕ) (old text : List ℕ) → j < f.count → held j ≡ Written varying most old → most ≤ 1024 → (t : ℕ → ℕ) (b : Base) (m : List ℕ) → length m ≡ memory_size → Stands f first held t b m → Stands f first (with_content_at held j varying most text) t b (with_bytes (kept_bytes (text_kind_of varying most) (BasicText text)) (f.at + number_place f.sizes j) m)
main_written f first held j varying most old text below is few t b m len o =
    let above = f.above_statics in
    let inside = f.inside in
    let p = f.at + number_place f.sizes j in
    let bytes = kept_bytes (text_kind_of varying most) (BasicText text) in
    let long = kept_length varying most text in
    let mine : 16 + text_bytes varying most ≤ f.sizes.of j = subst (λ u. 16 + size_in u ≤ f.sizes.of j) is (o.fits j below) in
    let next' = room_next f.sizes j f.count below in
    let held_in : p + text_bytes varying most ≤ length m = omega (arith, inside, next', mine, len) in
    let room : p + length bytes ≤ length m = omega (arith, held_in, long) in
    record {
      statics = λ k h. byte-with_below bytes m p k room (omega (arith, above, h)) ∙ o.statics k h;
      resumes = load-with_other 4 bytes m p f.at room (inl (omega arith)) ∙ o.resumes;
      below = load-with_other 4 bytes m p (f.at + 4) room (inl (omega arith)) ∙ o.below;
      own = load-with_other 4 bytes m p (f.at + 36) room (inl (omega arith)) ∙ o.own;
      variables = λ i h. text_put f.sizes (i == j) held m f.at i j varying most text refl few (o.fits i h) mine held_in (o.variables i h);
      fits = λ i h. fits_put f.sizes (i == j) held i j varying most text refl (o.fits i h) mine;
      temporaries = λ i h. load-with_other 4 bytes m p (f.at - 4 * suc i) room (inl (omega (arith, above, h))) ∙ o.temporaries i h;
      names = λ i h. name_untouched bytes m f.sizes f.at i j 0 p (omega arith) room (omega (arith, mine, long)) (o.names i h);
    }

-- ---- by the types of the variables

stands_alike : (f : Frame) (first : List ℕ) (held others : ℕ → Content) (t : ℕ → ℕ) (b : Base) (m : List ℕ) → ((j : ℕ) → held j ≡ others j) → Stands f first held t b m → Stands f first others t b m
stands_alike f first held others t b m alike o =
    record {
      statics = o.statics;
      resumes = o.resumes;
      below = o.below;
      own = o.own;
      variables = λ j h. subst (There m (f.at + number_place f.sizes j)) (alike j) (o.variables j h);
      fits = λ j h. subst (λ c. 16 + size_in c ≤ f.sizes.of j) (alike j) (o.fits j h);
      temporaries = o.temporaries;
      names = o.names;
    }

content_put : (q : Bool) (kind : ℕ → Kind) (n : Values) (i j : ℕ) (varying : Bool) (most : ℕ) (text : List ℕ) → (i == j) ≡ q → kind j ≡ alone (text_leaf varying most) → cond q (Written varying most text) (contents kind n i) ≡ content_for (kind i) (n.numbers i) (cond q text (n.texts i)) (n.arrays i) (n.text_arrays i)
content_put true kind n i j varying most text e is =
    sym (ap (λ u. content_for u (n.numbers i) text (n.arrays i) (n.text_arrays i)) (ap kind (eqb-true i j e) ∙ is) ∙ content_text varying most (n.numbers i) text)
content_put false kind n i j varying most text e is = refl

-- what the variables hold when one of them is assigned a text
pub text_writes : (f : Frame) (first : List ℕ) (kind : ℕ → Kind) (n : Values) (j : ℕ) (varying : Bool) (most : ℕ) (text : List ℕ) → j < f.count → kind j ≡ alone (text_leaf varying most) → most ≤ 1024 → (t : ℕ → ℕ) (b : Base) (m : List ℕ) → length m ≡ memory_size → Stands f first (contents kind n) t b m → Stands f first (contents kind (with_text_at n j (text_kept_as varying most text))) t b (with_bytes (kept_bytes (text_kind_of varying most) (BasicText text)) (f.at + number_place f.sizes j) m)
text_writes f first kind n j varying most text below is few t b m len o =
    let kept = text_kept_as varying most text in
    let held = contents kind n in
    let holds : held j ≡ Written varying most (n.texts j) = ap (λ u. content_for u (n.numbers j) (n.texts j) (n.arrays j) (n.text_arrays j)) is ∙ content_text varying most (n.numbers j) (n.texts j) in
    stands_alike f first (with_content_at held j varying most text) (contents kind (with_text_at n j kept)) t b (with_bytes (kept_bytes (text_kind_of varying most) (BasicText text)) (f.at + number_place f.sizes j) m)
    (λ i. content_put (i == j) kind n i j varying most kept refl is)
    (main_written f first held j varying most (n.texts j) text below holds few t b m len o)
