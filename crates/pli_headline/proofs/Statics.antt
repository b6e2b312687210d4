-- The data that code names stands in the first memory of its image, each with its bytes at its place.
use Rattle.std.proofs.Common.{◌≡◌, ℕ, ◌+◌, ◌-◌, ◌*◌, ◌^◌, ◌<◌, ◌≤◌, List, [], ◌∷◌, ◌++◌, length, Bool, true, false, refl, sym, ap, ◌∙◌, subst, arith, length-append}
use Rattle.std.specs.Prelude.{cond, ◌||◌, map, replicate, slice_index}
use Rattle.std.specs.List.{flat_map, filter, list_any}
use Rattle.std.proofs.lemmas.List.{append_assoc, length-map, length-replicate, get_or_append_left, get_or-append-add}
use Rattle.rv_meaning.specs.Words.{sum}
use Rattle.rv_meaning.specs.Memory.{bytes_of_words}
use Rattle.rv_meaning.specs.Encoding.{word_of}
use Rattle.rv_meaning.specs.Machine.{memory_size}
use Rattle.rv_meaning.proofs.ImageBytes.{length-bytes_of_words}
use Rattle.pli_typing.specs.Signatures.{rounded_up}
use Rattle.pli_meaning.specs.Pictures.{first_bytes}
use Rattle.pli_coding.specs.Assembly.{InitialLeaf, Datum, ConstantBytes, InitialValues, NumberWord, StaticStorage, same_datum, DataPlace, Code, size_of}
use Rattle.pli_coding.specs.StaticData.{once, is_initial, is_constant, is_word, is_storage, values_of, datum_size, begins_at, PlacedDatum, placed_from, datum_place, leaf_bytes, datum_bytes, bytes_from, static_data}
use Rattle.pli_coding.specs.Linking.{place_of, data_start, links_of, data_bytes}
use Rattle.pli_coding.specs.Images.{linked_code, picture_of_code}
use Rattle.pli_headline.specs.Headline.{FitsMemory}
use Rattle.run_steps.specs.Engine.{Base}
use Rattle.run_steps.proofs.Linking.{linked_length}
use Rattle.run_steps.specs.DataNamed.{IsNamed, IsPlaced, BytesStand}
use Rattle.code_marks.specs.CodeData.{Has}
use Rattle.code_marks.proofs.DataOnce.{same_datum-equal, AreInitial, filtered_initial, named_once, placed_same}
use Rattle.pli_headline.proofs.DataOnce.{initial_has, static_has}

-- ---- bytes within others, from an index on

pub record Within (all : List ℕ) (at : ℕ) (bytes : List ℕ) : Type 0 where
  pub before : List ℕ
  pub behind : List ℕ
  pub is : all ≡ before ++ (bytes ++ behind)
  pub place : length before ≡ at

within_here : (bytes behind : List ℕ) → Within (bytes ++ behind) 0 bytes
within_here bytes behind = record { before = []; behind = behind; is = refl; place = refl }

within_later : (front all : List ℕ) (at n : ℕ) (bytes : List ℕ) → length front ≡ n → Within all at bytes → Within (front ++ all) (n + at) bytes
within_later front all at n bytes e w =
    let l = length-append front w.before in
    let p = w.place in
    record {
      before = front ++ w.before;
      behind = w.behind;
      is = ap (λ u. front ++ u) w.is ∙ sym (append_assoc front w.before (bytes ++ w.behind));
      place = omega (arith, l, p, e);
    }

within_longer : (all rest : List ℕ) (at : ℕ) (bytes : List ℕ) → Within all at bytes → Within (all ++ rest) at bytes
within_longer all rest at bytes w =
    record {
      before = w.before;
      behind = w.behind ++ rest;
      is = ap (λ u. u ++ rest) w.is ∙ append_assoc w.before (bytes ++ w.behind) rest ∙ ap (λ u. w.before ++ u) (append_assoc bytes w.behind rest);
      place = w.place;
    }

within_front : (all : List ℕ) (at : ℕ) (bytes more : List ℕ) → Within all at (bytes ++ more) → Within all at bytes
within_front all at bytes more w =
    record {
      before = w.before;
      behind = more ++ w.behind;
      is = w.is ∙ ap (λ u. w.before ++ u) (append_assoc bytes more w.behind);
      place = w.place;
    }

within_end : (all : List ℕ) (at : ℕ) (bytes : List ℕ) → Within all at bytes → at + length bytes ≤ length all
within_end all at bytes w =
    let e = ap length w.is in
    let f = length-append w.before (bytes ++ w.behind) in
    let g = length-append bytes w.behind in
    let p = w.place in
    omega (arith, e, f, g, p)

within_byte : (all : List ℕ) (at : ℕ) (bytes : List ℕ) (k : ℕ) → k < length bytes → Within all at bytes → slice_index all (at + k) ≡ slice_index bytes k
within_byte all at bytes k h w =
    ap (λ u. slice_index u (at + k)) w.is
    ∙ ap (λ n. slice_index (w.before ++ (bytes ++ w.behind)) (n + k)) (sym w.place)
    ∙ get_or-append-add w.before (bytes ++ w.behind) k 0
    ∙ get_or_append_left bytes w.behind 0 k h

-- ---- sizes

rounded_more : (n : ℕ) → n + (rounded_up 4 n - n) ≡ rounded_up 4 n
rounded_more n = omega arith

leaves_length : (all : List PlacedDatum) (start : ℕ) (leaves : List InitialLeaf) → length (flat_map (leaf_bytes all start) leaves) ≡ 8 * length leaves
leaves_length all start [] = refl
leaves_length all start (l ∷ ls) = let e = leaves_length all start ls in omega (arith, e)

datum_length : (all : List PlacedDatum) (start : ℕ) (d : Datum) → length (datum_bytes all start d) ≡ datum_size d
datum_length all start (ConstantBytes bytes) =
    let n = length bytes in
    length-append bytes (replicate (rounded_up 4 n - n) 0)
    ∙ ap (λ u. n + u) (length-replicate (rounded_up 4 n - n) 0)
    ∙ rounded_more n
datum_length all start (InitialValues leaves) = let e = leaves_length all start leaves in omega (arith, e)
datum_length all start (NumberWord block index) = refl
datum_length all start (StaticStorage block index bytes) = length-replicate (16 + bytes) 0

begins_by : (q : Bool) (at : ℕ) → at ≤ cond q (rounded_up 16 at) at
begins_by true at = omega arith
begins_by false at = omega arith

-- ---- places

-- a datum stands at a place among those from another place on
record StandsFrom (all ps : List PlacedDatum) (at place : ℕ) (d : Datum) : Type 0 where
  later : at ≤ place
  within : Within (bytes_from all at ps) (place - at) (datum_bytes all place d)

stands_first : (all ps : List PlacedDatum) (at : ℕ) (x : Datum) → StandsFrom all (record { datum = x; place = begins_at x at } ∷ ps) at (begins_at x at) x
stands_first all ps at x =
    let p = begins_at x at in
    let gap : List ℕ = replicate (p - at) 0 in
    let bytes = datum_bytes all p x in
    let rest = bytes_from all (p + datum_size x) ps in
    let zero' : p - at + 0 ≡ p - at = omega arith in
    record {
      later = begins_by (is_storage x) at;
      within = subst (λ n. Within (gap ++ (bytes ++ rest)) n bytes) zero' (within_later gap (bytes ++ rest) 0 (p - at) bytes (length-replicate (p - at) 0) (within_here bytes rest));
    }

stands_behind : (all ps : List PlacedDatum) (at place : ℕ) (x d : Datum) → StandsFrom all ps (begins_at x at + datum_size x) place d → StandsFrom all (record { datum = x; place = begins_at x at } ∷ ps) at place d
stands_behind all ps at place x d s =
    let p = begins_at x at in
    let gap : List ℕ = replicate (p - at) 0 in
    let own = datum_bytes all p x in
    let rest = bytes_from all (p + datum_size x) ps in
    let bytes = datum_bytes all place d in
    let more = begins_by (is_storage x) at in
    let l = s.later in
    let e : p - at + (datum_size x + (place - (p + datum_size x))) ≡ place - at = omega (arith, more, l) in
    let w = within_later own rest (place - (p + datum_size x)) (datum_size x) bytes (datum_length all p x) s.within in
    record {
      later = omega (arith, more, l);
      within = subst (λ n. Within (gap ++ (own ++ rest)) n bytes) e (within_later gap (own ++ rest) (datum_size x + (place - (p + datum_size x))) (p - at) bytes (length-replicate (p - at) 0) w);
    }

stands_by : (q : Bool) (all : List PlacedDatum) (ds : List Datum) (at next place : ℕ) (x d : Datum) → next ≡ begins_at x at + datum_size x → same_datum d x ≡ q → (q ≡ false → StandsFrom all (placed_from next ds) next place d) → StandsFrom all (record { datum = x; place = begins_at x at } ∷ placed_from next ds) at (cond q (begins_at x at) place) d
stands_by true all ds at next place x d n e rest =
    subst (λ u. StandsFrom all (record { datum = x; place = begins_at x at } ∷ placed_from next ds) at (begins_at x at) u) (sym (same_datum-equal d x e)) (stands_first all (placed_from next ds) at x)
stands_by false all ds at next place x d n e rest =
    stands_behind all (placed_from next ds) at place x d (subst (λ u. StandsFrom all (placed_from next ds) u place d) n (rest refl))

in_rest : (p q : Bool) → p ≡ false → (p || q) ≡ true → q ≡ true
in_rest true q e h = absurd (cc e)
in_rest false q e h = h

stands_from : (all : List PlacedDatum) (ds : List Datum) (at : ℕ) (d : Datum) → Has ds d → StandsFrom all (placed_from at ds) at (datum_place d (placed_from at ds)) d
stands_from all [] at d h = absurd (cc h)
stands_from all (x ∷ ds) at d h =
    let next = begins_at x at + datum_size x in
    stands_by (same_datum d x) all ds at next (datum_place d (placed_from next ds)) x d refl refl
    (λ no'. stands_from all ds next d (in_rest (same_datum d x) (list_any (same_datum d) ds) no' h))

-- lists of INITIAL values stand before what they lead to
place_by : (q : Bool) (xs ys : List Datum) (at : ℕ) (x l v : Datum) → same_datum l x ≡ q → same_datum v x ≡ false → Has (xs ++ ys) v → (q ≡ false → datum_place l (placed_from (begins_at x at + datum_size x) (xs ++ ys)) ≤ datum_place v (placed_from (begins_at x at + datum_size x) (xs ++ ys))) → cond q (begins_at x at) (datum_place l (placed_from (begins_at x at + datum_size x) (xs ++ ys))) ≤ datum_place v (placed_from (begins_at x at + datum_size x) (xs ++ ys))
place_by true xs ys at x l v e other has later =
    let s = (stands_from [] (xs ++ ys) (begins_at x at + datum_size x) v has).later in
    omega (arith, s)
place_by false xs ys at x l v e other has later = later refl

other_datum : (q : Bool) (x v : Datum) → same_datum v x ≡ q → is_initial x ≡ true → is_initial v ≡ false → same_datum v x ≡ false
other_datum true x v e h k = let same = ap is_initial (same_datum-equal v x e) in absurd (cc (same, h, k))
other_datum false x v e h k = e

place_before : (xs ys : List Datum) (at : ℕ) (l v : Datum) → AreInitial xs → Has xs l → is_initial v ≡ false → Has (xs ++ ys) v → datum_place l (placed_from at (xs ++ ys)) ≤ datum_place v (placed_from at (xs ++ ys))
place_before [] ys at l v are h k has = absurd (cc h)
place_before (x ∷ xs) ys at l v are h k has =
    let next = begins_at x at + datum_size x in
    let other = other_datum (same_datum v x) x v refl are.0 k in
    let rest = in_rest (same_datum v x) (list_any (same_datum v) (xs ++ ys)) other has in
    let place = place_by (same_datum l x) xs ys at x l v refl other rest (λ no'. place_before xs ys next l v are.1 (in_rest (same_datum l x) (list_any (same_datum l) xs) no' h) k rest) in
    subst (λ t. cond (same_datum l x) (begins_at x at) (datum_place l (placed_from next (xs ++ ys))) ≤ cond t (begins_at x at) (datum_place v (placed_from next (xs ++ ys)))) (sym other) place

-- ---- in the first memory

-- what stands within static bytes stands in memory, from the next multiple of 16 behind the code on
statics_within : (code statics rest : List ℕ) (at : ℕ) (bytes : List ℕ) → Within statics at bytes → Within (code ++ (replicate (rounded_up 16 (length code) - length code) 0 ++ (statics ++ rest))) (rounded_up 16 (length code) + at) bytes
statics_within code statics rest at bytes w =
    let n = length code in
    let gap : List ℕ = replicate (rounded_up 16 n - n) 0 in
    let e : n + (rounded_up 16 n - n + at) ≡ rounded_up 16 n + at = omega arith in
    subst (λ u. Within (code ++ (gap ++ (statics ++ rest))) u bytes) e
    (within_later code (gap ++ (statics ++ rest)) (rounded_up 16 n - n + at) n bytes refl
    (within_later gap (statics ++ rest) at (rounded_up 16 n - n) bytes (length-replicate (rounded_up 16 n - n) 0)
    (within_longer statics rest at bytes w)))

code_length : (code : Code) → length (bytes_of_words (map word_of (linked_code code))) ≡ 4 * size_of code
code_length code =
    let e = length-bytes_of_words (map word_of (linked_code code)) in
    let f = length-map (linked_code code) word_of in
    let g = linked_length (links_of code) 0 code in
    omega (arith, e, f, g)

-- the place of a datum, and its bytes
abbrev pub place_in : Code → Datum → ℕ
place_in code d = datum_place d (links_of code).data'

abbrev pub bytes_in : Code → Datum → List ℕ
bytes_in code d = datum_bytes (links_of code).data' (place_in code d) d

datum_within : (code : Code) (d : Datum) → Has (static_data code) d → (data_start code ≤ place_in code d) × Within (data_bytes code) (place_in code d - data_start code) (bytes_in code d)
datum_within code d h =
    let s = stands_from (links_of code).data' (static_data code) (data_start code) d h in
    (s.later, s.within)

in_memory : (code : Code) (d : Datum) → Has (static_data code) d → Within (first_bytes (picture_of_code code)) (place_in code d) (bytes_in code d)
in_memory code d h =
    let s = datum_within code d h in
    let words = bytes_of_words (map word_of (linked_code code)) in
    let rest : List ℕ = replicate (memory_size - (rounded_up 16 (length words) + length (data_bytes code))) 0 in
    let later = s.0 in
    let n = code_length code in
    let start : rounded_up 16 (length words) ≡ data_start code = ap (rounded_up 16) n in
    let e : rounded_up 16 (length words) + (place_in code d - data_start code) ≡ place_in code d = omega (arith, later, start) in
    subst (λ u. Within (first_bytes (picture_of_code code)) u (bytes_in code d)) e
    (statics_within words (data_bytes code) rest (place_in code d - data_start code) (bytes_in code d) s.1)

start_near : (n : ℕ) → n ≤ 2 ^ 20 → (4 * n ≤ rounded_up 16 (4 * n)) × (rounded_up 16 (4 * n) ≤ 4 * 2 ^ 20)
start_near n h = (omega arith, omega (arith, h))

-- every datum stands with its bytes
pub datum_there : (code : Code) → FitsMemory (picture_of_code code) → (d : Datum) → Has (static_data code) d → BytesStand (linked_code code) (first_bytes (picture_of_code code)) (place_in code d) (bytes_in code d)
datum_there code fits d h =
    let s = datum_within code d h in
    let small' = fits.code_fits in
    let few = fits.statics_fit in
    let n = linked_length (links_of code) 0 code in
    let later = s.0 in
    let near = start_near (size_of code) (omega (arith, small', n)) in
    let end = within_end (data_bytes code) (place_in code d - data_start code) (bytes_in code d) s.1 in
    record {
      behind_code = omega (arith, n, near.0, later);
      inside = omega (arith, near.1, later, end, few);
      bytes_are = λ k below. within_byte (first_bytes (picture_of_code code)) (place_in code d) (bytes_in code d) k below (in_memory code d h);
    }

-- so does one that is named
pub datum_stands : (code : Code) → FitsMemory (picture_of_code code) → (d : Datum) → IsNamed d code → BytesStand (linked_code code) (first_bytes (picture_of_code code)) (place_in code d) (bytes_in code d)
datum_stands code fits d h = datum_there code fits d (static_has code d h)

-- constant bytes stand where they are said to
pub constant_there : (code : Code) → FitsMemory (picture_of_code code) → (bytes : List ℕ) → Has (static_data code) (ConstantBytes bytes) → BytesStand (linked_code code) (first_bytes (picture_of_code code)) (place_in code (ConstantBytes bytes)) bytes
constant_there code fits bytes h =
    let d = ConstantBytes bytes in
    let s = datum_there code fits d h in
    let padding : List ℕ = replicate (rounded_up 4 (length bytes) - length bytes) 0 in
    let e = length-append bytes padding in
    let end = s.inside in
    record {
      behind_code = s.behind_code;
      inside = omega (arith, end, e);
      bytes_are = λ k below. within_byte (first_bytes (picture_of_code code)) (place_in code d) bytes k below (within_front (first_bytes (picture_of_code code)) (place_in code d) bytes padding (in_memory code d h));
    }

-- so do those that have a place
pub constant_stands : (code : Code) → FitsMemory (picture_of_code code) → (bytes : List ℕ) → IsPlaced (ConstantBytes bytes) (links_of code).data' → BytesStand (linked_code code) (first_bytes (picture_of_code code)) (place_in code (ConstantBytes bytes)) bytes
constant_stands code fits bytes placed =
    constant_there code fits bytes (sym (placed_same (ConstantBytes bytes) (data_start code) (static_data code)) ∙ placed)

-- INITIAL values stand behind the list that leads to them
pub values_behind : (code : Code) (l : InitialLeaf) → IsNamed (InitialValues (l ∷ [])) code → Has (static_data code) (ConstantBytes l.values) → place_in code (InitialValues (l ∷ [])) ≤ place_in code (ConstantBytes l.values)
values_behind code l h has =
    let named = named_once code in
    place_before (filter is_initial named) (once [] (filter is_constant named ++ flat_map values_of named) ++ (filter is_word named ++ filter is_storage named)) (data_start code) (InitialValues (l ∷ [])) (ConstantBytes l.values) (filtered_initial named) (initial_has code (l ∷ []) h) refl has

-- so does the sum of the base and its offset point there
pub datum_pointed : (code : Code) → FitsMemory (picture_of_code code) → (d : Datum) → IsNamed d code → (b : Base) → sum b.at (place_of (links_of code) (DataPlace d)) ≡ b.at + place_in code d
datum_pointed code fits d h b =
    let s = (datum_stands code fits d h).inside in
    let v = b.valid.1 in
    omega (arith, s, v)
