-- Service 40 for two arrays of numbers or bits with equal bounds: the values of one are taken onto the stack, and stored in the elements of
-- the other.
use Rattle.std.proofs.Common.{◌≡◌, ℕ, zero, suc, ◌+◌, ◌*◌, ◌%◌, ◌^◌, ◌<◌, ◌≤◌, List, [], ◌∷◌, ◌++◌, length, map, Some, Bool, true, false, refl, sym, ap, ◌∙◌, subst, arith}
use Rattle.std.specs.Prelude.{ℤ, cond, nat_le, ◌==◌, ◌&&◌, if◌then◌else◌}
use Rattle.std.specs.List.{list_all, zip}
use Rattle.std.specs.Int.{w16, cast_signed}
use Rattle.std.proofs.lemmas.Int.{ints}
use Rattle.std.proofs.lemmas.Bool.{eq-eqb}
use Rattle.std.proofs.lemmas.Bool.Decides.{nat_tests}
use Rattle.rv_meaning.specs.declared.instr.Instr.{Instr}
use Rattle.rv_meaning.specs.declared.instr.LoadKind.TheVariants as Load
use Rattle.rv_meaning.specs.declared.instr.StoreKind.TheVariants as Store
use Rattle.rv_meaning.specs.Words.{word, signed, flag}
use Rattle.rv_meaning.specs.Memory.{load, store}
use Rattle.rv_meaning.specs.Machine.{memory_size, load_width, extended, store_width}
use Rattle.rv_meaning.proofs.MemoryLaws.{length-store}
use Rattle.pli_typing.specs.Signatures.{Bounds, element_count}
use Rattle.pli_typing.specs.TypedTree as Y
use Rattle.pli_meaning.specs.BasicValues.{BasicValue, BasicNumber, BasicBit}
use Rattle.pli_meaning.specs.Contents.{is_within, element_place}
use Rattle.pli_meaning.specs.DeclaredShapes.{kind_of}
use Rattle.pli_meaning.specs.Evaluating.{Designated}
use Rattle.pli_meaning.specs.Placing as P
use Rattle.pli_serving.specs.Bytes.{with_bytes, number_bytes}
use Rattle.pli_serving.specs.Values.{all_subscripts, value_at, value_bytes}
use Rattle.pli_serving.specs.Stored.{kept_bytes}
use Rattle.pli_serving.specs.ServiceState as S
use Rattle.pli_serving.specs.ServiceState.{Services, Entry, AggregateEntry, TakenLeaf}
use Rattle.pli_serving.specs.Templates.{shape_at}
use Rattle.pli_serving.specs.Answers.{Done}
use Rattle.pli_serving.specs.Outcomes.{or_bad, bad_unless, pushed}
use Rattle.pli_serving.specs.Aggregates as A
use Rattle.pli_serving.specs.AggregateServices as W
use Rattle.pli_headline.specs.ProvedSoFar.{AreBounds}
use Rattle.run_steps.specs.Engine.{call_at}
use Rattle.run_steps.specs.Numbers.{IsWide}
use Rattle.run_steps.proofs.Numbers.{word_small}
use Rattle.pli_headline.proofs.WordProducts.{signed_word}
use Rattle.pli_headline.proofs.Cells.{Cell, kept_by, cell_found}
use Rattle.pli_headline.proofs.Scalars.{IsNumeric, by_type, value_as, Fits, fits_wide, bit_of, bit_word, load_kind, store_kind}
use Rattle.pli_headline.proofs.NamesStand.{NameThere}
use Rattle.pli_headline.proofs.ArrayPlaces.{place_inside}
use Rattle.pli_headline.proofs.ArrayMeant.{array_shape, bounds_itself}
use Rattle.pli_headline.proofs.ArrayOrder.{places_from, elements_ordered}
use Rattle.pli_headline.proofs.ElementsServed.{subscripts_within, found_at, part_at, element_is, holds_by, kept_stored, RecordThere, aggregate_found, part_found_by}
use Rattle.pli_headline.proofs.TextsServed.{stores_by}
use Rattle.pli_headline.proofs.CopiesFilled.{numbers_from}

-- ---- values from memory

half_wide : (n : ℕ) → IsWide (cast_signed w16 n)
half_wide n = grind (arith, ints, nat_tests)

flag_is : (b : Bool) → (flag b == 1) ≡ b
flag_is true = refl
flag_is false = refl

-- what a load finds is what a service finds
pub read_as : (type : Y.LeafType) (z : ℤ) (m : List ℕ) (at : ℕ) → Fits type z → extended (load_kind type) (load (load_width (load_kind type)) m at) ≡ word z → value_at (kind_of [] type) at m ≡ value_as type z
read_as (Y.FixedLeaf p) z m at fits e = ap BasicNumber (read_by (nat_le p 15) e)
  where
    read_by : (q : Bool) → extended (if q then Load.Half else Load.Word) (load (load_width (if q then Load.Half else Load.Word)) m at) ≡ word z → (if q then cast_signed w16 (load 2 m at) else signed (load 4 m at)) ≡ z
    read_by true h =
        sym (signed_word (cast_signed w16 (load 2 m at)) (half_wide (load 2 m at))) ∙ ap signed h ∙ signed_word z (fits_wide (Y.FixedLeaf p) z fits)
    read_by false h = ap signed h ∙ signed_word z (fits_wide (Y.FixedLeaf p) z fits)
read_as Y.BitLeaf z m at fits e =
    ap (λ w. BasicBit (w == 1)) (e ∙ ap word fits ∙ sym (bit_word (bit_of z))) ∙ ap BasicBit (flag_is (bit_of z))
read_as _ z m at fits e = absurd fits

-- ---- values on the stack

half_bytes : (w : ℕ) → Cell (number_bytes 2 w) 0 (w % 2 ^ 16)
half_bytes w = record { whole = omega arith; half = omega arith; byte = omega arith }

word_bytes : (w : ℕ) → w < 2 ^ 32 → Cell (number_bytes 4 w) 0 w
word_bytes w few = record { whole = omega (arith, few); half = omega arith; byte = omega arith }

byte_bytes : (w : ℕ) → Cell (number_bytes 1 w) 0 (w % 2 ^ 8)
byte_bytes w = record { whole = omega arith; half = omega arith; byte = omega arith }

bytes_cell : (type : Y.LeafType) (z : ℤ) → Fits type z → Cell (value_bytes (kind_of [] type) (value_as type z)) 0 (kept_by (store_kind type) (word z))
bytes_cell (Y.FixedLeaf p) z fits = cell_by (nat_le p 15)
  where
    cell_by : (q : Bool) → Cell (number_bytes (cond q 2 4) (word z)) 0 (kept_by (if q then Store.Half else Store.Word) (word z))
    cell_by true = half_bytes (word z)
    cell_by false = word_bytes (word z) (word_small z (fits_wide (Y.FixedLeaf p) z fits))
bytes_cell Y.BitLeaf z fits =
    subst (λ w. Cell (number_bytes 1 w) 0 (word z % 2 ^ 8)) (ap word fits ∙ sym (bit_word (bit_of z))) (byte_bytes (word z))
bytes_cell _ z fits = absurd fits

-- a value comes back from its bytes
pub back_from_bytes : (type : Y.LeafType) (z : ℤ) → Fits type z → value_at (kind_of [] type) 0 (value_bytes (kind_of [] type) (value_as type z)) ≡ value_as type z
back_from_bytes type z fits =
    let bytes = value_bytes (kind_of [] type) (value_as type z) in
    read_as type z bytes 0 fits (cell_found type z bytes 0 fits (bytes_cell type z fits))

-- the values of an array, one for each place
abbrev pub leaf_taken : Y.LeafType → List Bounds → (ℕ → ℤ) → TakenLeaf
leaf_taken type bs x =
    record {
      kind = kind_of [] type;
      bounds = bs;
      elements = map (λ is. value_bytes (kind_of [] type) (value_as type (x (element_place bs is)))) (all_subscripts bs);
    }

abbrev pub array_taken : Y.LeafType → List Bounds → (ℕ → ℤ) → Entry
array_taken type bs x = AggregateEntry (leaf_taken type bs x ∷ [])

-- ---- lists

pub both_true : (p q : Bool) → p && q ≡ true → (p ≡ true) × (q ≡ true)
both_true true q h = (refl, h)
both_true false q h = absurd (cc h)

pub mapped_within : {A : Type 0} (P : List ℤ → Bool) (f g : List ℤ → A) (xs : List (List ℤ)) → list_all P xs ≡ true → ((x : List ℤ) → P x ≡ true → f x ≡ g x) → map f xs ≡ map g xs
mapped_within P f g [] all same = refl
mapped_within P f g (x ∷ xs) all same =
    let b = both_true (P x) (list_all P xs) all in
    ap (λ u. u ∷ map f xs) (same x b.0) ∙ ap (λ u. g x ∷ u) (mapped_within P f g xs b.1 same)

pub stores_are : (f : List ℕ → BasicValue) (g : List ℤ → List ℕ) (xs : List (List ℤ)) → zip (map (λ is. (0, is)) xs) (map f (map g xs)) ++ [] ≡ stores_by (λ is. f (g is)) xs
stores_are f g [] = refl
stores_are f g (x ∷ xs) = ap (λ u. ((0, x), f (g x)) ∷ u) (stores_are f g xs)

-- ---- mode 0

taken_value_is : (type : Y.LeafType) → IsNumeric type → (bs : List Bounds) (serial at signature : ℕ) (m : List ℕ) (is : List ℤ) → P.elements_of (part_at type bs serial at signature m).part 0 is ≡ value_at (kind_of [] type) (A.element_at (array_shape type bs) (found_at at signature) (0, is)) m
taken_value_is type numeric bs serial at signature m is =
    by_type (λ t. P.elements_of (part_at t bs serial at signature m).part 0 is ≡ value_at (kind_of [] t) (A.element_at (array_shape t bs) (found_at at signature) (0, is)) m) (λ p. refl) refl type numeric

taken_bytes_are : (type : Y.LeafType) → IsNumeric type → (z : ℤ) → W.taken_bytes (kind_of [] type) (value_as type z) ≡ value_bytes (kind_of [] type) (value_as type z)
taken_bytes_are type numeric z =
    by_type (λ t. W.taken_bytes (kind_of [] t) (value_as t z) ≡ value_bytes (kind_of [] t) (value_as t z)) (λ p. refl) refl type numeric

-- the array stands there with these numbers
abbrev pub ReadsThere : Y.LeafType → List Bounds → (at : ℕ) → List ℕ → (ℕ → ℤ) → Type 0
ReadsThere type bs at m x =
    (p : ℕ) → p < element_count bs → extended (load_kind type) (load (load_width (load_kind type)) m (at + 4 * p)) ≡ word (x p)

taken_is : (type : Y.LeafType) → IsNumeric type → (bs : List Bounds) → AreBounds bs → (serial at signature : ℕ) (m : List ℕ) (x : ℕ → ℤ) → ((p : ℕ) → p < element_count bs → Fits type (x p)) → ReadsThere type bs at m x → W.taken_leaf (part_at type bs serial at signature m).part 0 ≡ leaf_taken type bs x
taken_is type numeric bs are serial at signature m x fits there =
    let d : Designated = (part_at type bs serial at signature m).part in
    let kind = kind_of [] type in
    let e = mapped_within (is_within bs) (λ is. W.taken_bytes kind (P.elements_of d 0 is)) (λ is. value_bytes kind (value_as type (x (element_place bs is)))) (all_subscripts bs) (subscripts_within bs are)
    (λ is inside.
    let p = element_place bs is in
    let below = place_inside bs is inside in
    ap (W.taken_bytes kind)
    (taken_value_is type numeric bs serial at signature m is
    ∙ ap (λ u. value_at kind u m) (element_is type numeric bs at signature is)
    ∙ read_as type (x p) m (at + 4 * p) (fits p below) (there p below))
    ∙ taken_bytes_are type numeric (x p)) in
    ap (λ u. record { kind = kind; bounds = bs; elements = u }) e

goes_itself : (type : Y.LeafType) → IsNumeric type → W.goes_into (kind_of [] type) (kind_of [] type) ≡ true
goes_itself type numeric = by_type (λ t. W.goes_into (kind_of [] t) (kind_of [] t) ≡ true) (λ p. eq-eqb p p refl) refl type numeric

pub take_answer : (code : List Instr) (v : Services) (m : List ℕ) (at name serial signature : ℕ) (type : Y.LeafType) (bs : List Bounds) (l : S.Living) (x : ℕ → ℤ) → IsNumeric type → 4 * length code ≤ at → at + 16 ≤ memory_size → 4 * length code ≤ name → name + 16 ≤ memory_size → signature < 2 ^ 24 → RecordThere m at name signature → NameThere m name serial → shape_at v.signatures signature ≡ Some (array_shape type bs) → AreBounds bs → S.living_of v.living serial ≡ Some l → l.signature ≡ signature → ((p : ℕ) → p < element_count bs → Fits type (x p)) → ReadsThere type bs l.at m x → W.aggregate_served (call_at code v m) at 0 1 0 0 ≡ Done (pushed (array_taken type bs x) v) m at 0
take_answer code v m at name serial signature type bs l x numeric low high low' high' few r o shape are lives same fits there =
    let c = call_at code v m in
    let p = part_at type bs serial l.at l.signature m in
    ap (λ u. or_bad u (λ a. or_bad (A.part_of_leaves c a 0 1 0) (W.assigned_by c at 0))) (aggregate_found code v m at name serial signature type bs low high low' high' few r o shape)
    ∙ ap (λ u. or_bad u (W.assigned_by c at 0)) (part_found_by code v m serial signature (load 4 m (at + 8)) type bs l (holds_by type numeric bs serial l.at l.signature m) are lives same)
    ∙ ap (λ q. bad_unless (q && true) (Done (pushed (AggregateEntry (W.taken_leaf p.part 0 ∷ [])) v) m at 0)) (goes_itself type numeric)
    ∙ ap (λ u. Done (pushed (AggregateEntry (u ∷ [])) v) m at 0) (taken_is type numeric bs are serial l.at l.signature m x fits there)

-- ---- mode 1

next_stored : (type : Y.LeafType) → IsNumeric type → (bs : List Bounds) (serial at signature : ℕ) (m0 : List ℕ) (v : BasicValue) (is : List ℤ) (rest : List W.Store) (m : List ℕ) → W.stored_in (part_at type bs serial at signature m0) (((0, is), v) ∷ rest) m ≡ W.stored_in (part_at type bs serial at signature m0) rest (with_bytes (kept_bytes (kind_of [] type) v) (A.element_at (array_shape type bs) (found_at at signature) (0, is)) m)
next_stored type numeric bs serial at signature m0 v is rest m =
    by_type (λ t. W.stored_in (part_at t bs serial at signature m0) (((0, is), v) ∷ rest) m ≡ W.stored_in (part_at t bs serial at signature m0) rest (with_bytes (kept_bytes (kind_of [] t) v) (A.element_at (array_shape t bs) (found_at at signature) (0, is)) m)) (λ p. refl) refl type numeric

all_stored : (type : Y.LeafType) → IsNumeric type → (bs : List Bounds) (serial at signature : ℕ) (m0 : List ℕ) (given : List ℤ → BasicValue) (x : ℕ → ℤ) → ((p : ℕ) → p < element_count bs → Fits type (x p)) → ((is : List ℤ) → is_within bs is ≡ true → given is ≡ value_as type (x (element_place bs is))) → (xs : List (List ℤ)) (first count : ℕ) (m : List ℕ) → list_all (is_within bs) xs ≡ true → map (element_place bs) xs ≡ places_from first count → at + 4 * (first + count) ≤ length m → W.stored_in (part_at type bs serial at signature m0) (stores_by given xs) m ≡ numbers_from (store_width (store_kind type)) at x first count m
all_stored type numeric bs serial at signature m0 given x fits each [] first zero m all e room = refl
all_stored type numeric bs serial at signature m0 given x fits each [] first (suc c) m all e room = absurd (cc e)
all_stored type numeric bs serial at signature m0 given x fits each (y ∷ ys) first zero m all e room = absurd (cc e)
all_stored type numeric bs serial at signature m0 given x fits each (y ∷ ys) first (suc c) m all e room =
    let p = part_at type bs serial at signature m0 in
    let width = store_width (store_kind type) in
    let kind = kind_of [] type in
    let rest = stores_by given ys in
    let here : element_place bs y ≡ first = cc e in
    let behind : map (element_place bs) ys ≡ places_from (suc first) c = cc e in
    let inside = both_true (is_within bs y) (list_all (is_within bs) ys) all in
    let there : A.element_at (array_shape type bs) (found_at at signature) (0, y) ≡ at + 4 * first = element_is type numeric bs at signature y ∙ ap (λ n. at + 4 * n) here in
    let value : given y ≡ value_as type (x first) = each y inside.0 ∙ ap (λ n. value_as type (x n)) here in
    let fit : Fits type (x first) = subst (λ n. Fits type (x n)) here (fits (element_place bs y) (place_inside bs y inside.0)) in
    let m' = store width m (at + 4 * first) (word (x first)) in
    next_stored type numeric bs serial at signature m0 (given y) y rest m
    ∙ ap (λ n. W.stored_in p rest (with_bytes (kept_bytes kind (given y)) n m)) there
    ∙ ap (λ v. W.stored_in p rest (with_bytes (kept_bytes kind v) (at + 4 * first) m)) value
    ∙ ap (W.stored_in p rest) (kept_stored type (x first) (at + 4 * first) m fit (omega (arith, room)))
    ∙ all_stored type numeric bs serial at signature m0 given x fits each ys (suc first) c m' inside.1 behind (let long = length-store width m (at + 4 * first) (word (x first)) in omega (arith, room, long))

taken_back : (type : Y.LeafType) → IsNumeric type → (z : ℤ) → Fits type z → W.taken_value (kind_of [] type) (value_bytes (kind_of [] type) (value_as type z)) ≡ value_as type z
taken_back type numeric z fits = value_by type numeric ∙ back_from_bytes type z fits
  where
    value_by : (t : Y.LeafType) → IsNumeric t → W.taken_value (kind_of [] t) (value_bytes (kind_of [] t) (value_as t z)) ≡ value_at (kind_of [] t) 0 (value_bytes (kind_of [] t) (value_as t z))
    value_by t is = by_type (λ u. W.taken_value (kind_of [] u) (value_bytes (kind_of [] u) (value_as u z)) ≡ value_at (kind_of [] u) 0 (value_bytes (kind_of [] u) (value_as u z))) (λ p. refl) refl t is

put_by : (type : Y.LeafType) → IsNumeric type → (bs : List Bounds) (code : List Instr) (v : Services) (m : List ℕ) (at serial there signature : ℕ) (x : ℕ → ℤ) → W.assigned_by (call_at code (pushed (array_taken type bs x) v) m) at 1 (part_at type bs serial there signature m) ≡ cond (P.all_same_bounds (bs ∷ []) (bs ∷ [])) (bad_unless (W.goes_into (kind_of [] type) (kind_of [] type) && true) (Done v (W.stored_in (part_at type bs serial there signature m) (zip (map (λ is. (0, is)) (all_subscripts bs)) (map (W.taken_value (kind_of [] type)) (leaf_taken type bs x).elements) ++ []) m) at 0)) (Done (pushed (array_taken type bs x) v) m at 109)
put_by type numeric bs code v m at serial there signature x =
    by_type (λ t. W.assigned_by (call_at code (pushed (array_taken t bs x) v) m) at 1 (part_at t bs serial there signature m) ≡ cond (P.all_same_bounds (bs ∷ []) (bs ∷ [])) (bad_unless (W.goes_into (kind_of [] t) (kind_of [] t) && true) (Done v (W.stored_in (part_at t bs serial there signature m) (zip (map (λ is. (0, is)) (all_subscripts bs)) (map (W.taken_value (kind_of [] t)) (leaf_taken t bs x).elements) ++ []) m) at 0)) (Done (pushed (array_taken t bs x) v) m at 109))
    (λ p. refl) refl type numeric

pub put_answer : (code : List Instr) (v : Services) (m : List ℕ) (at name serial signature : ℕ) (type : Y.LeafType) (bs : List Bounds) (l : S.Living) (x : ℕ → ℤ) → IsNumeric type → 4 * length code ≤ at → at + 16 ≤ memory_size → 4 * length code ≤ name → name + 16 ≤ memory_size → signature < 2 ^ 24 → RecordThere m at name signature → NameThere m name serial → shape_at v.signatures signature ≡ Some (array_shape type bs) → AreBounds bs → S.living_of v.living serial ≡ Some l → l.signature ≡ signature → ((p : ℕ) → p < element_count bs → Fits type (x p)) → l.at + 4 * element_count bs ≤ length m → W.aggregate_served (call_at code (pushed (array_taken type bs x) v) m) at 0 1 0 1 ≡ Done v (numbers_from (store_width (store_kind type)) l.at x 0 (element_count bs) m) at 0
put_answer code v m at name serial signature type bs l x numeric low high low' high' few r o shape are lives same fits room =
    let v' = pushed (array_taken type bs x) v in
    let c = call_at code v' m in
    let kind = kind_of [] type in
    let p = part_at type bs serial l.at l.signature m in
    let g : List ℤ → List ℕ = λ is. value_bytes kind (value_as type (x (element_place bs is))) in
    let stores = zip (map (λ is. (0, is)) (all_subscripts bs)) (map (W.taken_value kind) (map g (all_subscripts bs))) ++ [] in
    ap (λ u. or_bad u (λ a. or_bad (A.part_of_leaves c a 0 1 0) (W.assigned_by c at 1))) (aggregate_found code v' m at name serial signature type bs low high low' high' few r o shape)
    ∙ ap (λ u. or_bad u (W.assigned_by c at 1)) (part_found_by code v' m serial signature (load 4 m (at + 8)) type bs l (holds_by type numeric bs serial l.at l.signature m) are lives same)
    ∙ put_by type numeric bs code v m at serial l.at l.signature x
    ∙ ap (λ q. cond (q && true) (bad_unless (W.goes_into kind kind && true) (Done v (W.stored_in p stores m) at 0)) (Done v' m at 109)) (bounds_itself bs)
    ∙ ap (λ q. bad_unless (q && true) (Done v (W.stored_in p stores m) at 0)) (goes_itself type numeric)
    ∙ ap (λ ss. Done v (W.stored_in p ss m) at 0) (stores_are (W.taken_value kind) g (all_subscripts bs))
    ∙ ap (λ m'. Done v m' at 0) (all_stored type numeric bs serial l.at l.signature m (λ is. W.taken_value kind (g is)) x fits (λ is inside. taken_back type numeric (x (element_place bs is)) (fits (element_place bs is) (place_inside bs is inside))) (all_subscripts bs) 0 (element_count bs) m (subscripts_within bs are) (elements_ordered bs) (omega (arith, room)))
