-- A block with one more variable, which stands behind its frame and all its other variables, is a block.
use Rattle.std.proofs.Common.{◌≡◌, ℕ, suc, ◌+◌, ◌-◌, ◌*◌, ◌<◌, ◌≤◌, inl, inr, List, [], ◌∷◌, ◌++◌, length, Some, Bool, refl, sym, ap, ◌∙◌, subst, arith}
use Rattle.std.specs.Prelude.{ℤ, pos, cond, slice_get, ◌==◌}
use Rattle.std.proofs.lemmas.Bool.{eqb-true, eq-eqb}
use Rattle.rv_meaning.specs.Words.{word}
use Rattle.rv_meaning.specs.Memory.{load, store}
use Rattle.rv_meaning.specs.Machine.{memory_size, load_width, extended, store_width}
use Rattle.pli_typing.specs.TypedTree as Y
use Rattle.pli_meaning.specs.BasicValues.{BasicText}
use Rattle.pli_serving.specs.Bytes.{with_bytes}
use Rattle.pli_serving.specs.Stored.{kept_bytes}
use Rattle.pli_coding.specs.Environments.{Environment}
use Rattle.pli_headline.specs.ProvedSoFar.{OuterBlock, Names, Kind, Types, alone, text_leaf, IsHeld}
use Rattle.run_steps.specs.Engine.{Base, most_code}
use Rattle.run_steps.proofs.Numbers.{word_small}
use Rattle.pli_headline.proofs.Scalars.{Values, Fits, fits_wide, load_kind, store_kind, place_below, text_limit, own_scalar}
use Rattle.pli_headline.proofs.Cells.{Cell, kept_by, content, content_word, cell_stored, cell_found}
use Rattle.pli_headline.proofs.VariablePlaces.{frame_size, frame_wide, frame_even}
use Rattle.pli_headline.proofs.Holdings.{Counted, There, size_in, content_of, content_numeric, content_text, scalar_fits, there_other, there_below, content_for}
use Rattle.pli_headline.proofs.MainTexts.{there_beside}
use Rattle.pli_headline.proofs.TextGrounds.{TextsStand}
use Rattle.run_steps.specs.Temporaries.{Temporaries}
use Rattle.pli_headline.proofs.Variables.{data_place, level_of}
use Rattle.pli_headline.proofs.DeclaredNames.{kind_around, by_last, last_kind, chosen_before, chosen_here}
use Rattle.pli_headline.proofs.States.{with_number_at, with_text_at}
use Rattle.pli_headline.proofs.TextPlaces.{text_bytes, TextThere, text_kind_of}
use Rattle.pli_headline.proofs.TextsKept.{text_kept_as, kept_length, kept_there}
use Rattle.pli_headline.proofs.TextScopes.{IsTextAt}
use Rattle.pli_headline.proofs.MainGround.{width_few}
use Rattle.pli_headline.proofs.Statements.{AllSeen, Enclosing, Enclosures, Block, SameValues}
use Rattle.pli_headline.proofs.MoreNames.{more_names, more_serials}
use Rattle.pli_headline.proofs.MoreStates.{more_restricts}
use Rattle.pli_headline.proofs.MorePlaces.{More, above_code, around_address, around_base, around_level, here_kept, last_not, more_bases, more_declared, more_ground, more_places, more_reached, not_last, other_kept, own_address, own_base, own_content, own_level, own_size, still_reached}
use Rattle.pli_headline.proofs.MoreArrays.{array_place, named_place, text_array_place}

-- ---- what it holds

-- a number in its cell
own_number : {k : Kind} {type : Y.LeafType} {m : List ℕ} {p : ℕ} (n : Values) (count : ℕ) → k ≡ alone type → Fits type (n.numbers count) → There m p (own_content k n count) → Cell m p (kept_by (store_kind type) (word (n.numbers count)))
own_number {k} {type} {m} {p} n count e fits o =
    let z = n.numbers count in
    let mine : There m p (Counted (content type z)) = subst (There m p) (content_numeric type z (n.texts count) fits) (subst (λ q. There m p (own_content q n count)) e o) in
    subst (Cell m p) (content_word type z (fits_wide type z fits)) mine

there_number : {k : Kind} {type : Y.LeafType} {m : List ℕ} {p : ℕ} (z : ℤ) (n : Values) (count : ℕ) → k ≡ alone type → Fits type z → Cell m p (kept_by (store_kind type) (word z)) → There m p (content_for k z (n.texts count) (n.arrays count) (n.text_arrays count))
there_number {k} {type} {m} {p} z n count e fits o =
    let mine : There m p (Counted (content type z)) = subst (Cell m p) (sym (content_word type z (fits_wide type z fits))) o in
    subst (λ q. There m p (content_for q z (n.texts count) (n.arrays count) (n.text_arrays count))) (sym e) (subst (There m p) (sym (content_numeric type z (n.texts count) fits)) mine)

-- a text
own_text : {k : Kind} (varying : Bool) (most : ℕ) (m : List ℕ) (p : ℕ) (n : Values) (count : ℕ) → k ≡ alone (text_leaf varying most) → There m p (own_content k n count) → TextThere varying most p m (n.texts count)
own_text {k} varying most m p n count e o =
    subst (There m p) (content_text varying most (n.numbers count) (n.texts count)) (subst (λ q. There m p (own_content q n count)) e o)

there_text : {k : Kind} (varying : Bool) (most : ℕ) (m : List ℕ) (p : ℕ) (n : Values) (count : ℕ) (text : List ℕ) → k ≡ alone (text_leaf varying most) → TextThere varying most p m text → There m p (content_for k (n.numbers count) text (n.arrays count) (n.text_arrays count))
there_text {k} varying most m p n count text e o =
    subst (λ q. There m p (content_for q (n.numbers count) text (n.arrays count) (n.text_arrays count))) (sym e) (subst (There m p) (sym (content_text varying most (n.numbers count) text)) o)

text_room : {k : Kind} (varying : Bool) (most : ℕ) → IsHeld k.type k.bounds → k ≡ alone (text_leaf varying most) → 16 + text_bytes varying most ≤ frame_size k
text_room {k} varying most held e =
    subst (λ c. 16 + size_in c ≤ frame_size k) (content_text varying most (pos 0) [])
    (subst (λ u. 16 + size_in (content_of (text_leaf varying most) (pos 0) []) ≤ u) (sym (ap frame_size e)) (scalar_fits (text_leaf varying most) (pos 0) [] (own_scalar e held)))

pub more_reads : {e : Environment} {block : Names} {types : Types} (ib : Block e block types) {index : ℕ} {k : Kind} (o : More ib index k) (n : Values) (j : ℕ) (type : Y.LeafType) → slice_get (types ++ (k ∷ [])) j ≡ Some (alone type) → Fits type (n.numbers j) → (t : ℕ → ℕ) (b : Base) (m : List ℕ) → (more_ground ib k n).memory t b m → extended (load_kind type) (load (load_width (load_kind type)) m (more_bases ib j + data_place e (more_names e block types index) j)) ≡ word (n.numbers j)
more_reads {e} {block} {types} ib {index} {k} o n j type at fits t b m held =
    let names = more_names e block types index in
    by_last types k (λ i kind. (u : Y.LeafType) → kind ≡ alone u → Fits u (n.numbers i) → extended (load_kind u) (load (load_width (load_kind u)) m (more_bases ib i + data_place e names i)) ≡ word (n.numbers i))
    (λ i kind below at' u e' f.
    ap (λ p. extended (load_kind u) (load (load_width (load_kind u)) m p)) (around_address ib index i below) ∙ ib.reads n i (at' ∙ ap (λ q. Some q) e') f t b m held.0)
    (λ u e' f.
    ap (λ p. extended (load_kind u) (load (load_width (load_kind u)) m p)) (own_address ib o)
    ∙ cell_found u (n.numbers (length types)) m (ib.stack.free + 16) f (own_number n (length types) e' f held.1))
    j (alone type) at type refl fits

around_writes : {e : Environment} {block : Names} {types : Types} (ib : Block e block types) (k : Kind) (n : Values) (j : ℕ) (z : ℤ) {type : Y.LeafType} → j < length types → slice_get types j ≡ Some (alone type) → Fits type (n.numbers j) → Fits type z → (t : ℕ → ℕ) (b : Base) (m : List ℕ) → length m ≡ memory_size → (more_ground ib k n).memory t b m → (more_ground ib k (with_number_at n j z)).memory t b (store (store_width (store_kind type)) m (ib.bases j + data_place e block j) (word z))
around_writes {e} {block} {types} ib k n j z {type} below at old fits t b m len held =
    let p = ib.bases j + data_place e block j in
    let w = store_width (store_kind type) in
    let few = width_few (store_kind type) in
    let under = ib.stack.under j at in (
      ib.writes n j z at old fits t b m len held.0,
      subst (λ x. There (store w m p (word z)) (ib.stack.free + 16) (content_for k x (n.texts (length types)) (n.arrays (length types)) (n.text_arrays (length types)))) (other_kept (length types == j) z (n.numbers (length types)) (last_not (length types) j below))
          (there_other w m p (word z) (ib.stack.free + 16) (own_content k n (length types)) (inr (omega (arith, few, under))) held.1),
    )

own_writes : {e : Environment} {block : Names} {types : Types} (ib : Block e block types) {index : ℕ} {k : Kind} (o : More ib index k) (n : Values) (z : ℤ) (type : Y.LeafType) → k ≡ alone type → Fits type (n.numbers (length types)) → Fits type z → (t : ℕ → ℕ) (b : Base) (m : List ℕ) → length m ≡ memory_size → (more_ground ib k n).memory t b m → (more_ground ib k (with_number_at n (length types) z)).memory t b (store (store_width (store_kind type)) m (ib.stack.free + 16) (word z))
own_writes {e} {block} {types} ib {index} {k} o n z type is old fits t b m len held =
    let count = length types in
    let w = store_width (store_kind type) in
    let p = ib.stack.free + 16 in
    let wide = fits_wide type z fits in
    let room = o.room in
    let size = frame_wide k in
    let same : SameValues types n (with_number_at n count z) = λ j kind at. (other_kept (j == count) z (n.numbers j) (not_last count j (place_below types j kind at)), (refl, (refl, refl))) in (
      ib.alike n (with_number_at n count z) same t b (store w m p (word z)) (ib.stack.keeps n t b m w p (word z) (omega arith) held.0),
      subst (λ x. There (store w m p (word z)) p (content_for k x (n.texts count) (n.arrays count) (n.text_arrays count))) (here_kept (count == count) z (n.numbers count) (eq-eqb count count refl))
          (there_number z n count is fits (cell_stored (store_kind type) m p (word (n.numbers count)) (word z) (word_small z wide) (omega (arith, room, size, len)) (own_number n count is old held.1))),
    )

pub more_writes : {e : Environment} {block : Names} {types : Types} (ib : Block e block types) {index : ℕ} {k : Kind} (o : More ib index k) (n : Values) (j : ℕ) (z : ℤ) (type : Y.LeafType) → slice_get (types ++ (k ∷ [])) j ≡ Some (alone type) → Fits type (n.numbers j) → Fits type z → (t : ℕ → ℕ) (b : Base) (m : List ℕ) → length m ≡ memory_size → (more_ground ib k n).memory t b m → (more_ground ib k (with_number_at n j z)).memory t b (store (store_width (store_kind type)) m (more_bases ib j + data_place e (more_names e block types index) j) (word z))
more_writes {e} {block} {types} ib {index} {k} o n j z type at old fits t b m len held =
    let names = more_names e block types index in
    by_last types k (λ i kind. (u : Y.LeafType) → kind ≡ alone u → Fits u (n.numbers i) → Fits u z → (more_ground ib k (with_number_at n i z)).memory t b (store (store_width (store_kind u)) m (more_bases ib i + data_place e names i) (word z)))
    (λ i kind below at' u e' old' f.
    subst (λ p. (more_ground ib k (with_number_at n i z)).memory t b (store (store_width (store_kind u)) m p (word z))) (sym (around_address ib index i below))
    (around_writes ib k n i z below (at' ∙ ap (λ q. Some q) e') old' f t b m len held))
    (λ u e' old' f.
    subst (λ p. (more_ground ib k (with_number_at n (length types) z)).memory t b (store (store_width (store_kind u)) m p (word z))) (sym (own_address ib o))
    (own_writes ib o n z u e' old' f t b m len held))
    j (alone type) at type refl old fits

pub more_under : {e : Environment} {block : Names} {types : Types} (ib : Block e block types) {index : ℕ} {k : Kind} (o : More ib index k) (j : ℕ) (type : Y.LeafType) → slice_get (types ++ (k ∷ [])) j ≡ Some (alone type) → more_bases ib j + data_place e (more_names e block types index) j + 4 ≤ ib.stack.free + frame_size k
more_under {e} {block} {types} ib {index} {k} o j type at =
    let names = more_names e block types index in
    by_last types k (λ i kind. (u : Y.LeafType) → kind ≡ alone u → more_bases ib i + data_place e names i + 4 ≤ ib.stack.free + frame_size k)
    (λ i kind below at' u e'. let a = around_address ib index i below in let under = ib.stack.under i (at' ∙ ap (λ q. Some q) e') in omega (arith, a, under))
    (λ u e'. let a = own_address ib o in let wide = frame_wide k in omega (arith, a, wide))
    j (alone type) at type refl

-- ---- texts

pub text_place : {e : Environment} {block : Names} {types : Types} (ib : Block e block types) {index : ℕ} {k : Kind} (o : More ib index k) (P : ℕ → Type 0) (j : ℕ) (varying : Bool) (most : ℕ) → ((i : ℕ) → i < length types → IsTextAt types i varying most → P i) → (k ≡ alone (text_leaf varying most) → P (length types)) → IsTextAt (types ++ (k ∷ [])) j varying most → P j
text_place {types = types} ib {k = k} o P j varying most around own at =
    by_last types k (λ i kind. kind ≡ alone (text_leaf varying most) → P i) (λ i kind below at' e'. around i below (at' ∙ ap (λ q. Some q) e'))
    own j (alone (text_leaf varying most)) at refl

around_text : {e : Environment} {block : Names} {types : Types} (ib : Block e block types) (index : ℕ) (k : Kind) (n : Values) (j : ℕ) (varying : Bool) (most : ℕ) (text : List ℕ) → j < length types → IsTextAt types j varying most → (t : ℕ → ℕ) (b : Base) (m : List ℕ) → length m ≡ memory_size → (more_ground ib k n).memory t b m → (more_ground ib k (with_text_at n j (text_kept_as varying most text))).memory t b (with_bytes (kept_bytes (text_kind_of varying most) (BasicText text)) (more_bases ib j + data_place e (more_names e block types index) j) m)
around_text {e} {block} {types} ib index k n j varying most text below at t b m len held =
    let count = length types in
    let bytes = kept_bytes (text_kind_of varying most) (BasicText text) in
    let kept = text_kept_as varying most text in
    let p = ib.bases j + data_place e block j in
    let long = kept_length varying most text in
    let under = ib.texts.under j varying most at in
    let inside = ib.texts.room.inside j varying most at in
    let room : p + length bytes ≤ length m = omega (arith, inside, long, len) in
    subst (λ q. (more_ground ib k (with_text_at n j kept)).memory t b (with_bytes bytes q m)) (sym (around_address ib index j below)) (
      ib.texts.writes n j varying most text at t b m len held.0,
      subst (λ x. There (with_bytes bytes p m) (ib.stack.free + 16) (content_for k (n.numbers count) x (n.arrays count) (n.text_arrays count))) (other_kept (count == j) kept (n.texts count) (last_not count j below))
          (there_beside bytes m p (ib.stack.free + 16) (own_content k n count) room (inl (omega (arith, under, long))) held.1),
    )

own_text_writes : {e : Environment} {block : Names} {types : Types} (ib : Block e block types) {index : ℕ} {k : Kind} (o : More ib index k) (n : Values) (varying : Bool) (most : ℕ) (text : List ℕ) → k ≡ alone (text_leaf varying most) → (t : ℕ → ℕ) (b : Base) (m : List ℕ) → length m ≡ memory_size → (more_ground ib k n).memory t b m → (more_ground ib k (with_text_at n (length types) (text_kept_as varying most text))).memory t b (with_bytes (kept_bytes (text_kind_of varying most) (BasicText text)) (more_bases ib (length types) + data_place e (more_names e block types index) (length types)) m)
own_text_writes {e} {block} {types} ib {index} {k} o n varying most text is t b m len held =
    let count = length types in
    let bytes = kept_bytes (text_kind_of varying most) (BasicText text) in
    let kept = text_kept_as varying most text in
    let p = ib.stack.free + 16 in
    let long = kept_length varying most text in
    let size = text_room varying most o.held is in
    let behind = o.room in
    let few = text_limit varying most (own_scalar is o.held) in
    let inside : p + text_bytes varying most ≤ length m = omega (arith, behind, size, len) in
    let room : p + length bytes ≤ length m = omega (arith, inside, long) in
    let same : SameValues types n (with_text_at n count kept) = λ j kind at. (refl, (other_kept (j == count) kept (n.texts j) (not_last count j (place_below types j kind at)), (refl, refl))) in
    subst (λ q. (more_ground ib k (with_text_at n count kept)).memory t b (with_bytes bytes q m)) (sym (own_address ib o)) (
      ib.alike n (with_text_at n count kept) same t b (with_bytes bytes p m) (ib.stack.keeps_bytes n t b m bytes p (omega arith) room held.0),
      subst (λ x. There (with_bytes bytes p m) p (content_for k (n.numbers count) x (n.arrays count) (n.text_arrays count))) (here_kept (count == count) kept (n.texts count) (eq-eqb count count refl))
          (there_text varying most (with_bytes bytes p m) p n count kept is (kept_there varying most p m text few inside)),
    )

pub more_text_stand : {e : Environment} {block : Names} {types : Types} (ib : Block e block types) {index : ℕ} {k : Kind} (o : More ib index k) → TextsStand e (more_names e block types index) (types ++ (k ∷ [])) (more_bases ib) (ib.stack.free + frame_size k) (more_ground ib k)
more_text_stand {e} {block} {types} ib {index} {k} o =
    let names = more_names e block types index in
    let count = length types in
    let own = own_address ib o in
    let behind = o.room in
    record {
      room = record {
        high = λ j varying most at. text_place ib o (λ i. 4 * most_code ≤ more_bases ib i) j varying most
            (λ i below at'. let a = around_base ib i below in let h = ib.texts.room.high i varying most at' in omega (arith, a, h))
            (λ e'. let a = own_base ib in let h = above_code ib in omega (arith, a, h)) at;
        short = λ j varying most at. text_place ib o (λ i. most ≤ 1024) j varying most (λ i below at'. ib.texts.room.short i varying most at')
            (λ e'. text_limit varying most (own_scalar e' o.held)) at;
        inside = λ j varying most at. text_place ib o (λ i. more_bases ib i + data_place e names i + text_bytes varying most ≤ memory_size) j varying most
            (λ i below at'. let a = around_address ib index i below in let h = ib.texts.room.inside i varying most at' in omega (arith, a, h))
            (λ e'. let size = text_room varying most o.held e' in omega (arith, own, size, behind)) at;
      };
      under = λ j varying most at. text_place ib o (λ i. more_bases ib i + data_place e names i + text_bytes varying most ≤ ib.stack.free + frame_size k) j varying most
          (λ i below at'. let a = around_address ib index i below in let h = ib.texts.under i varying most at' in omega (arith, a, h))
          (λ e'. let size = text_room varying most o.held e' in omega (arith, own, size)) at;
      reads = λ n j varying most at t b m held. text_place ib o (λ i. TextThere varying most (more_bases ib i + data_place e names i) m (n.texts i)) j varying most
          (λ i below at'. subst (λ p. TextThere varying most p m (n.texts i)) (sym (around_address ib index i below)) (ib.texts.reads n i varying most at' t b m held.0))
          (λ e'. subst (λ p. TextThere varying most p m (n.texts count)) (sym own) (own_text varying most m (ib.stack.free + 16) n count e' held.1)) at;
      writes = λ n j varying most text at t b m len held. text_place ib o (λ i. (more_ground ib k (with_text_at n i (text_kept_as varying most text))).memory t b (with_bytes (kept_bytes (text_kind_of varying most) (BasicText text)) (more_bases ib i + data_place e names i) m)) j varying most
          (λ i below at'. around_text ib index k n i varying most text below at' t b m len held)
          (λ e'. own_text_writes ib o n varying most text e' t b m len held) at;
    }

-- ---- the block

pub there_alike : (k : Kind) (n n' : Values) (count : ℕ) (m : List ℕ) (p : ℕ) → (n.numbers count ≡ n'.numbers count) × ((n.texts count ≡ n'.texts count) × ((n.arrays count ≡ n'.arrays count) × (n.text_arrays count ≡ n'.text_arrays count))) → There m p (own_content k n count) → There m p (own_content k n' count)
there_alike k n n' count m p same o =
    subst (λ x. There m p (content_for k (n'.numbers count) (n'.texts count) (n'.arrays count) x)) same.1.1.1
    (subst (λ x. There m p (content_for k (n'.numbers count) (n'.texts count) x (n.text_arrays count))) same.1.1.0
    (subst (λ x. There m p (content_for k (n'.numbers count) x (n.arrays count) (n.text_arrays count))) same.1.0
    (subst (λ x. There m p (content_for k x (n.texts count) (n.arrays count) (n.text_arrays count))) same.0 o)))

pub more_temporaries : {e : Environment} {block : Names} {types : Types} (ib : Block e block types) (k : Kind) (n : Values) → Temporaries (more_ground ib k n)
more_temporaries {types = types} ib k n =
    let e' = ib.stack.frame_is n in
    let above = ib.stack.above in
    record {
      kept = λ t b m j x below len fits o. (
        (ib.temps n).kept t b m j x below len fits o.0,
        there_other 4 m ((ib.ground n).frame - 4 * suc j) x (ib.stack.free + 16) (own_content k n (length types)) (inr (omega (arith, e', above))) o.1,
      );
      found = λ t b m j below known o. (ib.temps n).found t b m j below known o.0;
    }

-- the blocks around stay around it
abbrev pub more_enclosing : {e : Environment} {block : Names} {types : Types} (ib : Block e block types) (k : Kind) (o : OuterBlock) → Enclosing e o ib.ground ib.levels ib.frames.list (e.level ∷ ib.depths) → Enclosing e o (more_ground ib k) ib.levels ib.frames.list (e.level ∷ ib.depths)
more_enclosing ib k o c =
    record {
      its = c.its;
      waits = c.waits;
      frame = c.frame;
      free = c.free;
      frame_is = c.frame_is;
      free_is = c.free_is;
      above = c.above;
      ends = c.ends;
      sized = c.sized;
      kept = λ n t b m held. c.kept n t b m held.0;
      own = c.own;
      deeper = c.deeper;
      shown = c.shown;
      count = c.count;
      behind = c.behind;
      depths = c.depths;
      lowest = c.lowest;
      rises = c.rises;
      serials = c.serials;
      names = c.names;
      types = c.types;
      beneath = c.beneath;
    }

abbrev pub more_enclosures : {e : Environment} {block : Names} {types : Types} (ib : Block e block types) (k : Kind) (os : List OuterBlock) → Enclosures e ib.ground ib.levels ib.frames.list (e.level ∷ ib.depths) os → Enclosures e (more_ground ib k) ib.levels ib.frames.list (e.level ∷ ib.depths) os
more_enclosures ib k [] cs = tt
more_enclosures ib k (o ∷ os) cs = (more_enclosing ib k o cs.0, more_enclosures ib k os cs.1)

abbrev pub more_seen : {e : Environment} {block : Names} {types : Types} (ib : Block e block types) (k : Kind) (index serial : ℕ) (os : List OuterBlock) (cs : Enclosures e ib.ground ib.levels ib.frames.list (e.level ∷ ib.depths) os) → AllSeen e ib.ground ib.levels ib.frames.list (e.level ∷ ib.depths) os cs ib.serials block types → AllSeen e (more_ground ib k) ib.levels ib.frames.list (e.level ∷ ib.depths) os (more_enclosures ib k os cs) (more_serials ib.serials (length types) serial (suc (length ib.depths))) (more_names e block types index) (types ++ (k ∷ []))
more_seen ib k index serial [] cs seen = tt
more_seen {e} ib k index serial (o ∷ os) cs seen = (
  more_restricts e index k serial (suc (length ib.depths)) seen.0,
  more_seen ib k index serial os cs.1 seen.1,
)

abbrev pub more_block : {e : Environment} {block : Names} {types : Types} (ib : Block e block types) {index : ℕ} {k : Kind} (o : More ib index k) (serial : ℕ) → Block e (more_names e block types index) (types ++ (k ∷ []))
more_block {e} {block} {types} ib {index} {k} o serial =
    let names = more_names e block types index in
    let count = length types in
    let deep = o.deep in
    let room = o.room in
    let above = ib.stack.above in
    let high = ib.stack.high in
    let over = ib.stack.over in
    let whole = ib.stack.aligned in
    let even = frame_even k in
    record {
      ground = more_ground ib k;
      words = ib.words;
      taken = ib.taken;
      labels = ib.labels;
      base = ib.base;
      within = ib.within;
      words_are = ib.words_are;
      same = λ n n' b h. ap (λ u. 0 ∷ (b.at + (ib.stack.free + frame_size k)) ∷ (b.at + u) ∷ h 0 ∷ h 1 ∷ h 2 ∷ h 3 ∷ h 4 ∷ h 5 ∷ h 6 ∷ []) (ib.stack.frame_is n ∙ sym (ib.stack.frame_is n'));
      temps = more_temporaries ib k;
      alike = λ n n' same t b m held. (
        ib.alike n n' (λ j kind at. same j kind (kind_around types (k ∷ []) j at)) t b m held.0,
        there_alike k n n' count m (ib.stack.free + 16) (same count k (last_kind types k)) held.1,
      );
      declared = λ j at. more_declared ib o j _ at;
      reach = λ n. still_reached ib k n (0 == e.level) 0 ib.base (ib.reach n);
      named = ib.named;
      lower = λ j at.
          by_last types k (λ i kind. level_of names i ≤ e.level)
          (λ i kind below at'. let l = around_level e block types index i below in let low = ib.lower i at' in omega (arith, l, low))
          (let l = own_level e block types index in omega (arith, l)) j _ at;
      bases = more_bases ib;
      reaches = λ n j at. more_reached ib index k n j _ at;
      inside = λ j at.
          by_last types k (λ i kind. more_bases ib i < memory_size)
          (λ i kind below at'. let a = around_base ib i below in let inside = ib.inside i at' in omega (arith, a, inside))
          (let a = own_base ib in omega (arith, a, above, room)) j _ at;
      places = λ j at. more_places ib o j _ at;
      reads = λ n j at fits t b m held. more_reads ib o n j _ at fits t b m held;
      writes = λ n j z at old fits t b m len held. more_writes ib o n j z _ at old fits t b m len held;
      held = ib.held;
      frames = ib.frames;
      serials = more_serials ib.serials count serial (suc (length ib.depths));
      bottom = record {
        holds = ib.bottom.holds;
        aligned = ib.bottom.aligned;
        room = ib.bottom.room;
        own = ib.bottom.own;
        kept = λ n t b m held. ib.bottom.kept n t b m held.0;
        rest = ib.bottom.rest;
      };
      depths = ib.depths;
      shallow = ib.shallow;
      alone = λ same. let no = eqb-true 0 e.level same in absurd (omega (arith, no, deep));
      lead = ib.lead;
      leads = ib.leads;
      ends = omega (arith, room);
      sized = λ low. absurd (omega (arith, low, deep));
      own = λ n t b m held. ib.own n t b m held.0;
      owners = λ j at.
          by_last types k (λ i kind. (more_serials ib.serials count serial (suc (length ib.depths))).owner i ≤ suc (length ib.depths))
          (λ i kind below at'. let a = chosen_before count i (ib.serials.owner i) (suc (length ib.depths)) below in let low = ib.owners i at' in omega (arith, a, low))
          (let a = chosen_here count (ib.serials.owner count) (suc (length ib.depths)) in omega (arith, a)) j _ at;
      first_owner = λ j at low.
          by_last types k (λ i kind. level_of names i ≡ 0 → (more_serials ib.serials count serial (suc (length ib.depths))).owner i ≤ 1)
          (λ i kind below at' low'. let a = chosen_before count i (ib.serials.owner i) (suc (length ib.depths)) below in let l = around_level e block types index i below in let first = ib.first_owner i at' (omega (arith, l, low')) in omega (arith, a, first))
          (λ low'. let l = own_level e block types index in absurd (omega (arith, l, low', deep))) j _ at low;
      stack = record {
        frame = ib.stack.frame;
        free = ib.stack.free + frame_size k;
        frame_is = ib.stack.frame_is;
        free_is = λ n. refl;
        aligned = omega (arith, whole, even);
        high = omega (arith, high);
        above = omega (arith, above);
        over = omega (arith, over);
        keeps = λ n t b m w p x over' held. (
          ib.stack.keeps n t b m w p x (omega (arith, over')) held.0,
          there_other w m p x (ib.stack.free + 16) (own_content k n count) (inl (let size = own_size k n count o.held in omega (arith, over', size))) held.1,
        );
        keeps_bytes = λ n t b m bytes p over' room' held. (
          ib.stack.keeps_bytes n t b m bytes p (omega (arith, over')) room' held.0,
          there_below bytes m p (ib.stack.free + 16) (own_content k n count) room' (let size = own_size k n count o.held in omega (arith, over', size)) held.1,
        );
        under = λ j at. more_under ib o j _ at;
      };
      levels = ib.levels;
      level_room = ib.level_room;
      outermost_level = ib.outermost_level;
      displays = λ n t b m j below held. ib.displays n t b m j below held.0;
      leveled = λ j at.
          by_last types k (λ i kind. cond (level_of names i == e.level) ib.stack.frame (ib.levels (level_of names i)) ≡ more_bases ib i)
          (λ i kind below at'. ap (λ u. cond (u == e.level) ib.stack.frame (ib.levels u)) (around_level e block types index i below) ∙ ib.leveled i at' ∙ sym (around_base ib i below))
          (ap (λ u. cond (u == e.level) ib.stack.frame (ib.levels u)) (own_level e block types index) ∙ ap (λ q. cond q ib.stack.frame (ib.levels e.level)) (eq-eqb e.level e.level refl) ∙ sym (own_base ib)) j _ at;
      texts = more_text_stand ib o;
      arrays = λ j type b bs at. array_place ib o j type b bs at;
      text_arrays = λ j varying most b bs at. text_array_place ib o j varying most b bs at;
      array_names = λ j type b bs at outermost. named_place ib o serial j type b bs at outermost;
      outer = ib.outer;
      enclosing = more_enclosures ib k ib.outer ib.enclosing;
      seen = more_seen ib k index serial ib.outer ib.enclosing ib.seen;
    }
