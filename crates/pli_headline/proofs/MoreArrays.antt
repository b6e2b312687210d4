-- The arrays of a block with one more variable: those around, and the variable itself where it is an array.
use Rattle.std.proofs.Common.{◌≡◌, ℕ, suc, ◌+◌, ◌*◌, ◌<◌, ◌≤◌, inl, inr, List, [], ◌∷◌, ◌++◌, length, Some, Bool, true, false, refl, sym, ap, ◌∙◌, subst, arith}
use Rattle.std.specs.Prelude.{ℤ, pos, slice_get, ◌==◌}
use Rattle.std.proofs.lemmas.Bool.{eq-eqb}
use Rattle.rv_meaning.specs.Words.{word}
use Rattle.rv_meaning.specs.Memory.{load, store}
use Rattle.rv_meaning.specs.Machine.{load_width, extended, store_width}
use Rattle.pli_typing.specs.Signatures.{Bounds, element_count}
use Rattle.pli_typing.specs.TypedTree as Y
use Rattle.pli_meaning.specs.BasicValues.{BasicText}
use Rattle.pli_meaning.specs.DeclaredShapes.{variables_of_block}
use Rattle.pli_serving.specs.Bytes.{with_bytes}
use Rattle.pli_serving.specs.Stored.{kept_bytes}
use Rattle.pli_coding.specs.Environments.{Environment}
use Rattle.pli_headline.specs.ProvedSoFar.{Names, Spot, Kind, Types, text_leaf, IsHeld, array_variable}
use Rattle.run_steps.proofs.Numbers.{above_sum, above_small}
use Rattle.pli_headline.proofs.Scalars.{load_kind, store_kind, place_below, text_limit, IsNumeric, own_array}
use Rattle.pli_headline.proofs.VariablePlaces.{frame_size, data_fits, many_fits, many_size, scalar_data_size, word_each, data_size}
use Rattle.pli_headline.proofs.Holdings.{There, there_other, content_for, many_numeric, many_texts, Many, ManyTexts}
use Rattle.pli_headline.proofs.MainTexts.{there_beside}
use Rattle.run_steps.specs.Bodies.{PlaceFrom}
use Rattle.pli_headline.proofs.Variables.{data_place, level_of}
use Rattle.pli_headline.proofs.DeclaredNames.{by_last, chosen_before}
use Rattle.pli_headline.proofs.TextPlaces.{TextThere, text_kind_of}
use Rattle.pli_headline.proofs.TextsKept.{text_kept_as, kept_length}
use Rattle.pli_headline.proofs.NamesStand.{NameThere}
use Rattle.pli_headline.proofs.ArrayNames.{ArrayNamed, place_of_name}
use Rattle.pli_headline.proofs.ArrayScopes.{IsArrayAt, ArrayOn, with_element_of}
use Rattle.pli_headline.proofs.MainGround.{width_few}
use Rattle.pli_headline.proofs.Statements.{Block, SameValues}
use Rattle.pli_headline.proofs.MoreNames.{more_names, more_serials}
use Rattle.pli_headline.proofs.TextArrayScopes.{IsTextArrayAt, TextArrayOn, with_text_of}
use Rattle.pli_headline.proofs.TextArraysStay.{text_stride, text_within, texts_put, with_text_in}
use Rattle.pli_headline.proofs.MorePlaces.{More, above_code, around_base, around_data, around_level, around_spot, here_kept, last_not, more_bases, more_ground, not_last, other_kept, own_address, own_base, own_content, own_declared, own_level}
use Rattle.pli_headline.proofs.ElementsStay.{contents_of, element_loads, elements_put, with_element_at}
use Rattle.pli_headline.proofs.MainBlock.{text_data, text_some}
use Rattle.std.proofs.Math.Nat.{mul-le-mul_left, mul_comm}

-- ---- of numbers and bits

more_array : {e : Environment} {block : Names} {types : Types} (ib : Block e block types) (index : ℕ) (k : Kind) (j : ℕ) (type : Y.LeafType) (bs : List Bounds) → j < length types → ArrayOn e block (ib.bases j) ib.stack.free ib.ground j type bs → ArrayOn e (more_names e block types index) (more_bases ib j) (ib.stack.free + frame_size k) (more_ground ib k) j type bs
more_array {e} {block} {types} ib index k j type bs below on =
    let names = more_names e block types index in
    let a = around_base ib j below in
    let d = around_data e block types index j below in
    let within = on.within in
    let under = on.under in
    record {
      declared = (on.declared.0, ap (λ (s : Spot). slice_get (variables_of_block e.program s.number) s.index) (around_spot e block types index j below) ∙ on.declared.1);
      bounds = on.bounds;
      few = on.few;
      within = omega (arith, within, a);
      under = omega (arith, under, a, d);
      places = λ p inside.
          subst (λ w. PlaceFrom (w + 4 * p) (pos (data_place e names j)) (w + 4 * p + data_place e names j)) (sym a)
          (subst (λ x. PlaceFrom (ib.bases j + 4 * p) (pos x) (ib.bases j + 4 * p + x)) (sym d) (on.places p inside));
      reads = λ n p inside fits t b m held.
          let q : more_bases ib j + 4 * p + data_place e names j ≡ ib.bases j + 4 * p + data_place e block j = omega (arith, a, d) in
          ap (λ u. extended (load_kind type) (load (load_width (load_kind type)) m u)) q ∙ on.reads n p inside fits t b m held.0;
      writes = λ n p z inside old fits t b m len held.
          let q : more_bases ib j + 4 * p + data_place e names j ≡ ib.bases j + 4 * p + data_place e block j = omega (arith, a, d) in
          let few = width_few (store_kind type) in
          let count = length types in
          let m' = store (store_width (store_kind type)) m (ib.bases j + 4 * p + data_place e block j) (word z) in
          subst (λ u. (more_ground ib k (with_element_of n j p z)).memory t b (store (store_width (store_kind type)) m u (word z))) (sym q) (
            on.writes n p z inside old fits t b m len held.0,
            subst (λ x. There m' (ib.stack.free + 16) (content_for k (n.numbers count) (n.texts count) x (n.text_arrays count))) (other_kept (count == j) (with_element_at (n.arrays count) p z) (n.arrays count) (last_not count j below))
                (there_other (store_width (store_kind type)) m (ib.bases j + 4 * p + data_place e block j) (word z) (ib.stack.free + 16) (own_content k n count) (inr (omega (arith, few, under, inside))) held.1),
          );
    }

-- the variable itself
own_elements : {k : Kind} (type : Y.LeafType) (b : Bounds) (bs : List Bounds) (z : ℤ) (text : List ℕ) (z' : ℕ → ℤ) (texts : ℕ → List ℕ) → k ≡ record { type = type; bounds = b ∷ bs } → IsNumeric type → content_for k z text z' texts ≡ Many (element_count (b ∷ bs)) (contents_of type z')
own_elements type b bs z text z' texts is numeric =
    ap (λ q. content_for q z text z' texts) is ∙ many_numeric type (element_count (b ∷ bs)) z' texts numeric

own_array_on : {e : Environment} {block : Names} {types : Types} (ib : Block e block types) {index : ℕ} {k : Kind} (o : More ib index k) (type : Y.LeafType) (b : Bounds) (bs : List Bounds) → k ≡ record { type = type; bounds = b ∷ bs } → IsNumeric type → ArrayOn e (more_names e block types index) (more_bases ib (length types)) (ib.stack.free + frame_size k) (more_ground ib k) (length types) type (b ∷ bs)
own_array_on {e} {block} {types} ib {index} {k} o type b bs is numeric =
    let names = more_names e block types index in
    let count = length types in
    let c = element_count (b ∷ bs) in
    let held = own_array is o.held in
    let own = own_address ib o in
    let a = own_base ib in
    let room = o.room in
    let near = o.near in
    let size : frame_size k ≡ many_size (scalar_data_size type * c) = ap frame_size is in
    let each = word_each type numeric in
    let rows : scalar_data_size type * c ≡ 4 * c = ap (λ u. u * c) each in
    let all = many_fits (scalar_data_size type * c) in
    let whole = ib.stack.aligned in
    let high = ib.stack.high in
    let above = above_code ib in
    record {
      declared = (o.initial, own_declared ib o ∙ ap (λ (q : Kind). Some (array_variable q.type q.bounds o.initial)) is);
      bounds = held.1.0;
      few = omega (arith, near, size, rows, all);
      within = omega (arith, own, room, size, rows, all);
      under = omega (arith, own, size, rows, all);
      places = λ p inside. record {
        small' = above_small (data_place e names count) (omega (arith, own, room));
        sums = λ b'. above_sum b'.at (more_bases ib count + 4 * p) (data_place e names count) b'.valid.1 (omega (arith, own, room, size, rows, all, inside));
        aligned = omega (arith, own, whole);
        inside = omega (arith, own, room, size, rows, all, inside);
        above_code = omega (arith, above, a);
      };
      reads = λ n p inside fits t b' m held'.
          let there : There m (ib.stack.free + 16) (Many c (contents_of type (n.arrays count))) = subst (There m (ib.stack.free + 16)) (own_elements type b bs (n.numbers count) (n.texts count) (n.arrays count) (n.text_arrays count) is numeric) held'.1 in
          let q : more_bases ib count + 4 * p + data_place e names count ≡ ib.stack.free + 16 + 4 * p = omega (arith, own) in
          ap (λ u. extended (load_kind type) (load (load_width (load_kind type)) m u)) q ∙ element_loads type m (ib.stack.free + 16) c p (n.arrays count) inside fits there;
      writes = λ n p z inside old fits t b' m len held'.
          let there : There m (ib.stack.free + 16) (Many c (contents_of type (n.arrays count))) = subst (There m (ib.stack.free + 16)) (own_elements type b bs (n.numbers count) (n.texts count) (n.arrays count) (n.text_arrays count) is numeric) held'.1 in
          let w = store_width (store_kind type) in
          let n' = with_element_of n count p z in
          let q : more_bases ib count + 4 * p + data_place e names count ≡ ib.stack.free + 16 + 4 * p = omega (arith, own) in
          let m' = store w m (ib.stack.free + 16 + 4 * p) (word z) in
          let same : SameValues types n n' = λ j kind at. (refl, (refl, (other_kept (j == count) (with_element_at (n.arrays j) p z) (n.arrays j) (not_last count j (place_below types j kind at)), refl))) in
          subst (λ u. (more_ground ib k n').memory t b' (store w m u (word z))) (sym q) (
            ib.alike n n' same t b' m' (ib.stack.keeps n t b' m w (ib.stack.free + 16 + 4 * p) (word z) (omega arith) held'.0),
            subst (λ x. There m' (ib.stack.free + 16) (content_for k (n.numbers count) (n.texts count) x (n.text_arrays count))) (here_kept (count == count) (with_element_at (n.arrays count) p z) (n.arrays count) (eq-eqb count count refl))
                (subst (There m' (ib.stack.free + 16)) (sym (own_elements type b bs (n.numbers count) (n.texts count) (with_element_at (n.arrays count) p z) (n.text_arrays count) is numeric))
                (elements_put type m (ib.stack.free + 16) c p z (n.arrays count) inside (omega (arith, room, size, rows, all, len)) old fits there)),
          );
    }

pub array_place : {e : Environment} {block : Names} {types : Types} (ib : Block e block types) {index : ℕ} {k : Kind} (o : More ib index k) (j : ℕ) (type : Y.LeafType) (b : Bounds) (bs : List Bounds) → IsArrayAt (types ++ (k ∷ [])) j type b bs → ArrayOn e (more_names e block types index) (more_bases ib j) (ib.stack.free + frame_size k) (more_ground ib k) j type (b ∷ bs)
array_place {e} {block} {types} ib {index} {k} o j type b bs at =
    by_last types k (λ i kind. kind ≡ record { type = type; bounds = b ∷ bs } → ArrayOn e (more_names e block types index) (more_bases ib i) (ib.stack.free + frame_size k) (more_ground ib k) i type (b ∷ bs))
    (λ i kind below at' e'. more_array ib index k i type (b ∷ bs) below (ib.arrays i type b bs (at' ∙ ap (λ q. Some q) e', at.1)))
    (λ e'. own_array_on ib o type b bs e' at.1) j (record { type = type; bounds = b ∷ bs }) at.0 refl

-- ---- of texts

more_texts : {e : Environment} {block : Names} {types : Types} (ib : Block e block types) (index : ℕ) (k : Kind) (j : ℕ) (varying : Bool) (most : ℕ) (bs : List Bounds) → j < length types → TextArrayOn e block (ib.bases j) ib.stack.free ib.ground j varying most bs → TextArrayOn e (more_names e block types index) (more_bases ib j) (ib.stack.free + frame_size k) (more_ground ib k) j varying most bs
more_texts {e} {block} {types} ib index k j varying most bs below on =
    let names = more_names e block types index in
    let a = around_base ib j below in
    let d = around_data e block types index j below in
    let within = on.within in
    let under = on.under in
    let high = on.high in
    let q : (p : ℕ) → more_bases ib j + p * text_stride varying most + data_place e names j ≡ ib.bases j + p * text_stride varying most + data_place e block j = λ p. omega (arith, a, d) in
    record {
      declared = (on.declared.0, ap (λ (s : Spot). slice_get (variables_of_block e.program s.number) s.index) (around_spot e block types index j below) ∙ on.declared.1);
      bounds = on.bounds;
      few = on.few;
      some = on.some;
      short = on.short;
      high = omega (arith, high, a);
      within = omega (arith, within, a, d);
      under = omega (arith, under, a, d);
      reads = λ n p inside t b m held.
          subst (λ u. TextThere varying most u m (n.text_arrays j p)) (sym (q p)) (on.reads n p inside t b m held.0);
      writes = λ n p text inside t b m len held.
          let bytes = kept_bytes (text_kind_of varying most) (BasicText text) in
          let long = kept_length varying most text in
          let row = text_within varying most p (element_count bs) inside in
          let here = ib.bases j + p * text_stride varying most + data_place e block j in
          let room : here + length bytes ≤ length m = omega (arith, within, row, long, len) in
          let count = length types in
          let kept = text_kept_as varying most text in
          subst (λ u. (more_ground ib k (with_text_of n j p kept)).memory t b (with_bytes bytes u m)) (sym (q p)) (
            on.writes n p text inside t b m len held.0,
            subst (λ x. There (with_bytes bytes here m) (ib.stack.free + 16) (content_for k (n.numbers count) (n.texts count) (n.arrays count) x)) (other_kept (count == j) (with_text_in (n.text_arrays count) p kept) (n.text_arrays count) (last_not count j below))
                (there_beside bytes m here (ib.stack.free + 16) (own_content k n count) room (inl (omega (arith, under, row, long))) held.1),
          );
    }

own_texts_are : {k : Kind} (varying : Bool) (most : ℕ) (b : Bounds) (bs : List Bounds) (z : ℤ) (text : List ℕ) (z' : ℕ → ℤ) (texts : ℕ → List ℕ) → k ≡ record { type = text_leaf varying most; bounds = b ∷ bs } → content_for k z text z' texts ≡ ManyTexts varying most (element_count (b ∷ bs)) texts
own_texts_are varying most b bs z text z' texts is =
    ap (λ q. content_for q z text z' texts) is ∙ many_texts varying most (element_count (b ∷ bs)) z' texts

texts_fit : {k : Kind} (varying : Bool) (most : ℕ) (b : Bounds) (bs : List Bounds) → k ≡ record { type = text_leaf varying most; bounds = b ∷ bs } → IsHeld k.type k.bounds → 16 + element_count (b ∷ bs) * text_stride varying most ≤ frame_size k
texts_fit {k} varying most b bs is held =
    let count = element_count (b ∷ bs) in
    let fits = data_fits k held in
    let size = ap data_size is in
    let laid : scalar_data_size (text_leaf varying most) * count ≡ count * text_stride varying most = ap (λ u. u * count) (text_data varying most) ∙ mul_comm (text_stride varying most) count in
    omega (arith, fits, size, laid)

stride_some : (varying : Bool) (most : ℕ) → 1 ≤ most → 4 ≤ text_stride varying most
stride_some false most some = omega (arith, some)
stride_some true most some = omega (arith, some)

own_texts_on : {e : Environment} {block : Names} {types : Types} (ib : Block e block types) {index : ℕ} {k : Kind} (o : More ib index k) (varying : Bool) (most : ℕ) (b : Bounds) (bs : List Bounds) → k ≡ record { type = text_leaf varying most; bounds = b ∷ bs } → TextArrayOn e (more_names e block types index) (more_bases ib (length types)) (ib.stack.free + frame_size k) (more_ground ib k) (length types) varying most (b ∷ bs)
own_texts_on {e} {block} {types} ib {index} {k} o varying most b bs is =
    let names = more_names e block types index in
    let count = length types in
    let c = element_count (b ∷ bs) in
    let held = own_array is o.held in
    let own = own_address ib o in
    let a = own_base ib in
    let room = o.room in
    let near = o.near in
    let some = text_some varying most held.0 in
    let short = text_limit varying most held.0 in
    let size : 16 + c * text_stride varying most ≤ frame_size k = texts_fit varying most b bs is o.held in
    let rows : c * 4 ≤ c * text_stride varying most = mul-le-mul_left c (stride_some varying most some) in
    let above = above_code ib in
    let same : (p : ℕ) → more_bases ib count + p * text_stride varying most + data_place e names count ≡ ib.stack.free + 16 + p * text_stride varying most = λ p. omega (arith, own) in
    record {
      declared = (o.initial, own_declared ib o ∙ ap (λ (q : Kind). Some (array_variable q.type q.bounds o.initial)) is);
      bounds = held.1.0;
      few = omega (arith, near, size, rows);
      some = some;
      short = short;
      high = omega (arith, above, a);
      within = omega (arith, own, room, size);
      under = omega (arith, own, size);
      reads = λ n p inside t b' m held'.
          let there : There m (ib.stack.free + 16) (ManyTexts varying most c (n.text_arrays count)) = subst (There m (ib.stack.free + 16)) (own_texts_are varying most b bs (n.numbers count) (n.texts count) (n.arrays count) (n.text_arrays count) is) held'.1 in
          subst (λ u. TextThere varying most u m (n.text_arrays count p)) (sym (same p)) (there p inside);
      writes = λ n p text inside t b' m len held'.
          let there : There m (ib.stack.free + 16) (ManyTexts varying most c (n.text_arrays count)) = subst (There m (ib.stack.free + 16)) (own_texts_are varying most b bs (n.numbers count) (n.texts count) (n.arrays count) (n.text_arrays count) is) held'.1 in
          let bytes = kept_bytes (text_kind_of varying most) (BasicText text) in
          let kept = text_kept_as varying most text in
          let n' = with_text_of n count p kept in
          let at = ib.stack.free + 16 + p * text_stride varying most in
          let long = kept_length varying most text in
          let row = text_within varying most p c inside in
          let fits : at + length bytes ≤ length m = omega (arith, room, size, row, long, len) in
          let beside : SameValues types n n' = λ j kind at'. (refl, (refl, (refl, other_kept (j == count) (with_text_in (n.text_arrays j) p kept) (n.text_arrays j) (not_last count j (place_below types j kind at'))))) in
          subst (λ u. (more_ground ib k n').memory t b' (with_bytes bytes u m)) (sym (same p)) (
            ib.alike n n' beside t b' (with_bytes bytes at m) (ib.stack.keeps_bytes n t b' m bytes at (omega arith) fits held'.0),
            subst (λ x. There (with_bytes bytes at m) (ib.stack.free + 16) (content_for k (n.numbers count) (n.texts count) (n.arrays count) x)) (here_kept (count == count) (with_text_in (n.text_arrays count) p kept) (n.text_arrays count) (eq-eqb count count refl))
                (subst (There (with_bytes bytes at m) (ib.stack.free + 16)) (sym (own_texts_are varying most b bs (n.numbers count) (n.texts count) (n.arrays count) (with_text_in (n.text_arrays count) p kept) is))
                (texts_put varying most m (ib.stack.free + 16) c p text (n.text_arrays count) short inside (omega (arith, room, size, len)) there)),
          );
    }

pub text_array_place : {e : Environment} {block : Names} {types : Types} (ib : Block e block types) {index : ℕ} {k : Kind} (o : More ib index k) (j : ℕ) (varying : Bool) (most : ℕ) (b : Bounds) (bs : List Bounds) → IsTextArrayAt (types ++ (k ∷ [])) j varying most b bs → TextArrayOn e (more_names e block types index) (more_bases ib j) (ib.stack.free + frame_size k) (more_ground ib k) j varying most (b ∷ bs)
text_array_place {e} {block} {types} ib {index} {k} o j varying most b bs at =
    by_last types k (λ i kind. kind ≡ record { type = text_leaf varying most; bounds = b ∷ bs } → TextArrayOn e (more_names e block types index) (more_bases ib i) (ib.stack.free + frame_size k) (more_ground ib k) i varying most (b ∷ bs))
    (λ i kind below at' e'. more_texts ib index k i varying most (b ∷ bs) below (ib.text_arrays i varying most b bs (at' ∙ ap (λ q. Some q) e')))
    (λ e'. own_texts_on ib o varying most b bs e') j (record { type = text_leaf varying most; bounds = b ∷ bs }) at refl

-- the names of arrays
more_named : {e : Environment} {block : Names} {types : Types} (ib : Block e block types) (index : ℕ) (k : Kind) (serial j : ℕ) (kind : Kind) → j < length types → ArrayNamed e block (ib.bases j) ib.ground ib.serials j kind → ArrayNamed e (more_names e block types index) (more_bases ib j) (more_ground ib k) (more_serials ib.serials (length types) serial (suc (length ib.depths))) j kind
more_named {e} {block} {types} ib index k serial j kind below on =
    let names = more_names e block types index in
    let a = around_base ib j below in
    let d = around_data e block types index j below in
    let here = on.at in
    let mine = chosen_before (length types) j (ib.serials.of j) serial below in
    let same : ib.bases j + place_of_name e block j ≡ more_bases ib j + place_of_name e names j = omega (arith, a, d) in
    record {
      living = on.living;
      lives = ap ib.serials.first mine ∙ on.lives;
      signature = on.signature;
      at = omega (arith, here, a, d);
      aligned = let h = on.aligned in omega (arith, h, a);
      high = let h = on.high in omega (arith, h, a);
      room = let h = on.room in omega (arith, h, a);
      own = λ n t b m held. subst (λ u. load 4 m (u + 36) ≡ u) (sym a) (on.own n t b m held.0);
      names = λ n t b m held. subst (NameThere m (more_bases ib j + place_of_name e names j)) (sym mine) (subst (λ p. NameThere m p (ib.serials.of j)) same (on.names n t b m held.0));
    }

pub named_place : {e : Environment} {block : Names} {types : Types} (ib : Block e block types) {index : ℕ} {k : Kind} (o : More ib index k) (serial j : ℕ) (type : Y.LeafType) (b : Bounds) (bs : List Bounds) → slice_get (types ++ (k ∷ [])) j ≡ Some (record { type = type; bounds = b ∷ bs }) → level_of (more_names e block types index) j ≡ 0 → ArrayNamed e (more_names e block types index) (more_bases ib j) (more_ground ib k) (more_serials ib.serials (length types) serial (suc (length ib.depths))) j (record { type = type; bounds = b ∷ bs })
named_place {e} {block} {types} ib {index} {k} o serial j type b bs at outermost =
    by_last types k (λ i kind. kind ≡ record { type = type; bounds = b ∷ bs } → level_of (more_names e block types index) i ≡ 0 → ArrayNamed e (more_names e block types index) (more_bases ib i) (more_ground ib k) (more_serials ib.serials (length types) serial (suc (length ib.depths))) i (record { type = type; bounds = b ∷ bs }))
    (λ i kind below at' e' low. more_named ib index k serial i (record { type = type; bounds = b ∷ bs }) below (ib.array_names i type b bs (at' ∙ ap (λ q. Some q) e') (sym (around_level e block types index i below) ∙ low)))
    (λ e' low. let l = own_level e block types index in let deep = o.deep in absurd (omega (arith, l, low, deep))) j (record { type = type; bounds = b ∷ bs }) at refl outermost
