-- Service 41 for an array of numbers or bits, known by its name and signature: one value is stored in each element.
use Rattle.std.proofs.Common.{◌≡◌, ℕ, zero, suc, ◌+◌, ◌*◌, ◌/◌, ◌%◌, ◌^◌, ◌<◌, ◌≤◌, List, [], ◌∷◌, ◌++◌, length, map, Option, Some, None, Bool, true, false, refl, sym, ap, ◌∙◌, arith}
use Rattle.std.specs.Prelude.{ℤ, pos, negsuc, cond, int_le, ◌+ℤ◌, ◌-ℤ◌, ◌==◌, ◌&&◌, nat_le, take, drop, slice_set, if◌then◌else◌}
use Rattle.std.specs.List.{flat_map, list_all}
use Rattle.std.specs.Option.{option_map}
use Rattle.std.proofs.lemmas.Int.{ints}
use Rattle.std.proofs.lemmas.Bool.{eq-eqb, le-leb}
use Rattle.std.proofs.lemmas.Bool.Decides.{nat_tests}
use Rattle.rv_meaning.specs.declared.instr.Instr.{Instr}
use Rattle.rv_meaning.specs.declared.instr.StoreKind.TheVariants as Store
use Rattle.rv_meaning.specs.Words.{word, signed, flag}
use Rattle.rv_meaning.specs.Memory.{load, store}
use Rattle.rv_meaning.specs.Machine.{memory_size, store_width}
use Rattle.rv_meaning.proofs.MemoryLaws.{length-store}
use Rattle.pli_typing.specs.Signatures.{Bounds, span, element_count, rounded_up}
use Rattle.pli_typing.specs.TypedTree as Y
use Rattle.pli_meaning.specs.BasicValues.{Name, VariableName, BasicNumber, BasicBit}
use Rattle.pli_meaning.specs.Contents.{is_within, element_place}
use Rattle.pli_meaning.specs.DeclaredShapes.{kind_of}
use Rattle.pli_meaning.specs.StreamOrder.{numbers_from, subscripts_of, with_more, Element}
use Rattle.pli_meaning.specs.Evaluating.{first_leaf}
use Rattle.pli_serving.specs.Bytes.{with_bytes, number_bytes, name_of}
use Rattle.pli_serving.specs.Values.{all_subscripts, generation_at}
use Rattle.pli_serving.specs.Stored.{kept_bytes}
use Rattle.pli_serving.specs.ServiceState as S
use Rattle.pli_serving.specs.ServiceState.{Services}
use Rattle.pli_serving.specs.Templates.{shape_at}
use Rattle.pli_serving.specs.Answers.{Done}
use Rattle.pli_serving.specs.Finding.{Call, Found, FoundAt, NotLiving, found_living, if_of_signature}
use Rattle.pli_serving.specs.Arguments.{name_in, own_signature, shape_of_number}
use Rattle.pli_serving.specs.Outcomes.{or_bad, then_found}
use Rattle.pli_serving.specs.Aggregates as A
use Rattle.pli_serving.specs.AggregateServices as W
use Rattle.pli_headline.specs.ProvedSoFar.{IsBounds, AreBounds}
use Rattle.run_steps.specs.Engine.{call_at}
use Rattle.run_steps.specs.Numbers.{IsWide}
use Rattle.pli_headline.proofs.Scalars.{IsNumeric, by_type, value_as, Fits, fits_wide, fits_numeric, bit_of, bit_word, store_kind}
use Rattle.pli_headline.proofs.FormatsRead.{is_data_there}
use Rattle.pli_headline.proofs.EditItems.{signed-word}
use Rattle.pli_headline.proofs.NamesStand.{NameThere}
use Rattle.pli_headline.proofs.ArrayPlaces.{is_between, span_is, within_next, and_true}
use Rattle.pli_headline.proofs.ArrayMeant.{array_shape}
use Rattle.pli_headline.proofs.ArraysMade.{bounds_behind}
use Rattle.pli_headline.proofs.ArrayOrder.{places_from, elements_ordered}
use Rattle.pli_headline.proofs.ElementsFilled.{stored_from}

-- ---- all subscripts are within the bounds

between_by : (l u : ℤ) (m : ℕ) → IsWide l → IsWide u → int_le l u ≡ true → m < word (u -ℤ l) + 1 → int_le l (l +ℤ pos m) && int_le (l +ℤ pos m) u ≡ true
between_by (pos l) (pos u) m wl wu e below = grind (arith, ints, nat_tests)
between_by (pos l) (negsuc u) m wl wu e below = absurd (cc e)
between_by (negsuc l) (pos u) m wl wu e below = grind (arith, ints, nat_tests)
between_by (negsuc l) (negsuc u) m wl wu e below = grind (arith, ints, nat_tests)

between_ahead : (b : Bounds) (m : ℕ) → IsBounds b → m < span b → is_between b (b.lower +ℤ pos m) ≡ true
between_ahead b m is below =
    let s = span_is b is in
    between_by b.lower b.upper m is.0 is.1.0 is.1.1 (omega (arith, below, s))

all_both : {A : Type 0} (P : A → Bool) (xs ys : List A) → list_all P xs ≡ true → list_all P ys ≡ true → list_all P (xs ++ ys) ≡ true
all_both P [] ys h k = k
all_both P (x ∷ xs) ys h k = all_next (P x) (list_all P xs) (list_all P (xs ++ ys)) h (λ h'. all_both P xs ys h' k)
  where
    all_next : (p q r : Bool) → p && q ≡ true → (q ≡ true → r ≡ true) → p && r ≡ true
    all_next true q r h k = k h
    all_next false q r h k = h

one_ahead : (l : ℤ) (m : ℕ) → (l +ℤ pos m) +ℤ pos 1 ≡ l +ℤ pos (suc m)
one_ahead (pos l) m = omega (arith, ints)
one_ahead (negsuc l) m = omega (arith, ints)

none_ahead : (l : ℤ) → l +ℤ pos 0 ≡ l
none_ahead (pos l) = omega (arith, ints)
none_ahead (negsuc l) = omega (arith, ints)

rows_within : (P : List ℤ → Bool) (f : ℤ → List (List ℤ)) (b : Bounds) (m k : ℕ) → m + k ≤ span b → IsBounds b → ((i : ℤ) → is_between b i ≡ true → list_all P (f i) ≡ true) → list_all P (flat_map f (numbers_from (b.lower +ℤ pos m) k)) ≡ true
rows_within P f b m zero inside is each = refl
rows_within P f b m (suc k) inside is each =
    let i = b.lower +ℤ pos m in
    all_both P (f i) (flat_map f (numbers_from (i +ℤ pos 1) k)) (each i (between_ahead b m is (omega (arith, inside))))
    (ap (λ u. list_all P (flat_map f (numbers_from u k))) (one_ahead b.lower m) ∙ rows_within P f b (suc m) k (omega (arith, inside)) is each)

append_none : {A : Type 0} (xs : List A) → xs ++ [] ≡ xs
append_none [] = refl
append_none (x ∷ xs) = ap (λ u. x ∷ u) (append_none xs)

append_assoc' : {A : Type 0} (xs ys zs : List A) → (xs ++ ys) ++ zs ≡ xs ++ (ys ++ zs)
append_assoc' [] ys zs = refl
append_assoc' (x ∷ xs) ys zs = ap (λ u. x ∷ u) (append_assoc' xs ys zs)

length_one_more : {A : Type 0} (xs : List A) (x : A) → length (xs ++ x ∷ []) ≡ suc (length xs)
length_one_more [] x = refl
length_one_more (y ∷ xs) x = ap (λ n. suc n) (length_one_more xs x)

more_within : (P : List ℤ → Bool) (bs front : List Bounds) (is : List ℤ) → AreBounds bs → length is ≡ length front → ((js : List ℤ) → is_within bs js ≡ true → P (is ++ js) ≡ true) → list_all P (with_more (length bs) (front ++ bs) is) ≡ true
more_within P [] front is are e all =
    and_true (P is) true (ap P (sym (append_none is)) ∙ all [] refl) refl
more_within P (b ∷ bs) front is are e all =
    let f : ℤ → List (List ℤ) = λ i. with_more (length bs) (front ++ b ∷ bs) (is ++ i ∷ []) in
    let each : (i : ℤ) → is_between b i ≡ true → list_all P (f i) ≡ true = λ i between.
    let a = length_one_more is i in
    let c = length_one_more front b in
    ap (λ u. list_all P (with_more (length bs) u (is ++ i ∷ []))) (sym (append_assoc' front (b ∷ []) bs))
    ∙ more_within P bs (front ++ b ∷ []) (is ++ i ∷ []) are.1 (omega (arith, a, c, e))
    (λ js within. ap P (append_assoc' is (i ∷ []) js) ∙ all (i ∷ js) (within_next b bs i js ∙ and_true (is_between b i) (is_within bs js) between within)) in
    ap (λ o. list_all P (flat_map f (subscripts_of o))) (bounds_behind front b bs (length is) e)
    ∙ ap (λ z. list_all P (flat_map f (numbers_from z (span b)))) (sym (none_ahead b.lower))
    ∙ rows_within P f b 0 (span b) (omega arith) are.0 each

pub subscripts_within : (bs : List Bounds) → AreBounds bs → list_all (is_within bs) (all_subscripts bs) ≡ true
subscripts_within bs are = more_within (is_within bs) bs [] [] are refl (λ js within. within)

-- ---- bytes of a number are a store

bytes_set : (x : ℕ) (bs m : List ℕ) (at : ℕ) → at < length m → with_bytes (x ∷ bs) at m ≡ with_bytes bs (suc at) (slice_set m at x)
bytes_set x bs [] at h = absurd (omega (arith, h))
bytes_set x bs (y ∷ ys) zero h =
    let e : 0 + suc (length bs) ≡ suc (length bs) = omega arith in
    let f : suc (length bs) ≡ suc 0 + length bs = omega arith in
    ap (λ n. x ∷ (bs ++ drop n (y ∷ ys))) e ∙ ap (λ n. x ∷ (bs ++ drop n (x ∷ ys))) f
bytes_set x bs (y ∷ ys) (suc at) h =
    let e : suc at + suc (length bs) ≡ suc (at + suc (length bs)) = omega arith in
    let f : suc (suc at + length bs) ≡ suc (suc at) + length bs = omega arith in
    ap (λ n. take (suc at) (y ∷ ys) ++ ((x ∷ bs) ++ drop n (y ∷ ys))) e
    ∙ ap (λ u. y ∷ u) (bytes_set x bs ys at (omega (arith, h)))
    ∙ ap (λ n. y ∷ (take (suc at) (slice_set ys at x) ++ (bs ++ drop n (y ∷ slice_set ys at x)))) f

none_written : (m : List ℕ) (at : ℕ) → with_bytes [] at m ≡ m
none_written [] zero = refl
none_written [] (suc at) =
    let e : suc at + 0 ≡ suc (at + 0) = omega arith in
    ap (λ n. take (suc at) [] ++ ([] ++ drop {A = ℕ} n [])) e
none_written (y ∷ ys) zero = refl
none_written (y ∷ ys) (suc at) =
    let e : suc at + 0 ≡ suc (at + 0) = omega arith in
    ap (λ n. take (suc at) (y ∷ ys) ++ ([] ++ drop n (y ∷ ys))) e ∙ ap (λ u. y ∷ u) (none_written ys at)

length_set : (m : List ℕ) (at x : ℕ) → length (slice_set m at x) ≡ length m
length_set [] at x = refl
length_set (y ∷ ys) zero x = refl
length_set (y ∷ ys) (suc at) x = ap (λ n. suc n) (length_set ys at x)

pub bytes_stored : (n v at : ℕ) (m : List ℕ) → at + n ≤ length m → with_bytes (number_bytes n v) at m ≡ store n m at v
bytes_stored zero v at m h = none_written m at
bytes_stored (suc n) v at m h =
    let long = length_set m at (v % 256) in
    bytes_set (v % 256) (number_bytes n (v / 256)) m at (omega (arith, h))
    ∙ bytes_stored n (v / 256) (suc at) (slice_set m at (v % 256)) (omega (arith, h, long))

-- ---- what is stored

-- what an element keeps of a value, in memory
pub kept_stored : (type : Y.LeafType) (z : ℤ) (at : ℕ) (m : List ℕ) → Fits type z → at + 4 ≤ length m → with_bytes (kept_bytes (kind_of [] type) (value_as type z)) at m ≡ store (store_width (store_kind type)) m at (word z)
kept_stored (Y.FixedLeaf p) z at m fits room = stored_by (nat_le p 15)
  where
    stored_by : (q : Bool) → with_bytes (number_bytes (cond q 2 4) (word z)) at m ≡ store (store_width (if q then Store.Half else Store.Word)) m at (word z)
    stored_by true = bytes_stored 2 (word z) at m (omega (arith, room))
    stored_by false = bytes_stored 4 (word z) at m room
kept_stored Y.BitLeaf z at m fits room =
    ap (λ w. with_bytes (number_bytes 1 w) at m) (bit_word (bit_of z) ∙ ap word (sym fits)) ∙ bytes_stored 1 (word z) at m (omega (arith, room))
kept_stored _ z at m fits room = absurd fits

-- an array that is found where it stands
abbrev pub found_at : (at signature : ℕ) → Found
found_at at signature = record { at = at; signature = signature; extent = pos 0 }

abbrev pub part_at : (type : Y.LeafType) (bs : List Bounds) (serial at signature : ℕ) → List ℕ → A.PartFound
part_at type bs serial at signature m =
    record {
      found = found_at at signature;
      part = record {
        name = VariableName serial;
        generation = generation_at (array_shape type bs) (pos 0) at m;
        extent = pos 0;
        part = record { first = 0; count = 1 };
        subscripts = [];
      };
    }

size_by : (q : Bool) → rounded_up 4 (cond q 2 4) ≡ 4
size_by true = refl
size_by false = refl

-- where an element stands
pub element_is : (type : Y.LeafType) → IsNumeric type → (bs : List Bounds) (at signature : ℕ) (is : List ℤ) → A.element_at (array_shape type bs) (found_at at signature) (0, is) ≡ at + 4 * element_place bs is
element_is type numeric bs at signature is =
    by_type (λ t. A.element_at (array_shape t bs) (found_at at signature) (0, is) ≡ at + 4 * element_place bs is)
    (λ p. ap (λ n. at + 0 + n * element_place bs is) (size_by (nat_le p 15)) ∙ omega arith) (omega arith) type numeric

all_stored : (type : Y.LeafType) (bs : List Bounds) (serial at signature : ℕ) (m0 : List ℕ) (z : ℤ) → Fits type z → (xs : List (List ℤ)) (first count : ℕ) (m : List ℕ) → map (element_place bs) xs ≡ places_from first count → at + 4 * (first + count) ≤ length m → W.stored_in (part_at type bs serial at signature m0) (map (λ e. (e, value_as type z)) (map (λ is. (0, is)) xs)) m ≡ stored_from (store_width (store_kind type)) at (word z) first count m
all_stored type bs serial at signature m0 z fits [] first zero m e room = refl
all_stored type bs serial at signature m0 z fits [] first (suc c) m e room = absurd (cc e)
all_stored type bs serial at signature m0 z fits (x ∷ xs) first zero m e room = absurd (cc e)
all_stored type bs serial at signature m0 z fits (x ∷ xs) first (suc c) m e room =
    let p = part_at type bs serial at signature m0 in
    let width = store_width (store_kind type) in
    let rest = map (λ e'. (e', value_as type z)) (map (λ is. (0, is)) xs) in
    let here : element_place bs x ≡ first = cc e in
    let behind : map (element_place bs) xs ≡ places_from (suc first) c = cc e in
    let place = element_is type (fits_numeric type z fits) bs at signature x in
    let there : A.element_at (array_shape type bs) (found_at at signature) (0, x) ≡ at + 4 * first = place ∙ ap (λ n. at + 4 * n) here in
    ap (λ n. W.stored_in p rest (with_bytes (kept_bytes (kind_of [] type) (value_as type z)) n m)) there
    ∙ ap (W.stored_in p rest) (kept_stored type z (at + 4 * first) m fits (omega (arith, room)))
    ∙ all_stored type bs serial at signature m0 z fits xs (suc first) c (store width m (at + 4 * first) (word z)) behind (let long = length-store width m (at + 4 * first) (word z) in omega (arith, room, long))

-- ---- the record and the generation

-- a record of an array stands at a place: where its name stands, the number of its signature, and no subscripts
pub record RecordThere (m : List ℕ) (at name signature : ℕ) : Type 0 where
  pub name_is : load 4 m at ≡ name
  pub signature_is : load 4 m (at + 4) ≡ signature
  pub extent_is : load 4 m (at + 12) ≡ 0

abbrev pub aggregate_is : (type : Y.LeafType) (bs : List Bounds) (serial signature place : ℕ) → A.Aggregate
aggregate_is type bs serial signature place =
    record { name = VariableName serial; signature = signature; shape = array_shape type bs; subscripts_place = place; extent = pos 0 }

signature_plain : (n : ℕ) → n < 2 ^ 24 → (n == own_signature) ≡ false
signature_plain n few = grind (arith, nat_tests)

pub aggregate_found : (code : List Instr) (v : Services) (m : List ℕ) (at name serial signature : ℕ) (type : Y.LeafType) (bs : List Bounds) → 4 * length code ≤ at → at + 16 ≤ memory_size → 4 * length code ≤ name → name + 16 ≤ memory_size → signature < 2 ^ 24 → RecordThere m at name signature → NameThere m name serial → shape_at v.signatures signature ≡ Some (array_shape type bs) → A.aggregate_at (call_at code v m) at ≡ Some (aggregate_is type bs serial signature (load 4 m (at + 8)))
aggregate_found code v m at name serial signature type bs low high low' high' few r o shape =
    let c = call_at code v m in
    let n = VariableName serial in
    let named : name_in c name ≡ Some n = ap (λ q. cond q (name_of (load 4 m name) (load 4 m (name + 4)) (load 8 m (name + 8))) None) (is_data_there c.layout name 16 low' high') ∙ ap (λ u. name_of u (load 4 m (name + 4)) (load 8 m (name + 8))) o.kind ∙ ap (λ u. Some (VariableName u)) o.serial_is in
    let rest : Name → Option A.Aggregate = λ n'. then_found (A.signature_meant v n' (load 4 m (at + 4))) (λ s. option_map (A.aggregate_of c at n' s) (shape_of_number c s)) in
    ap (λ q. cond q (A.aggregate_named c at) None) (is_data_there c.layout at 16 low high)
    ∙ ap (λ u. then_found (name_in c u) rest) r.name_is
    ∙ ap (λ u. then_found u rest) named
    ∙ ap (λ u. then_found (A.signature_meant v n u) (λ s. option_map (A.aggregate_of c at n s) (shape_of_number c s))) r.signature_is
    ∙ ap (λ q. then_found (cond q (A.signature_had (S.living_of v.living serial)) (Some signature)) (λ s. option_map (A.aggregate_of c at n s) (shape_of_number c s))) (signature_plain signature few)
    ∙ ap (λ u. option_map (A.aggregate_of c at n signature) u) shape
    ∙ ap (λ u. Some (record { name = n; signature = signature; shape = array_shape type bs; subscripts_place = load 4 m (at + 8); extent = signed u })) r.extent_is

all_there : (P : Element → Bool) (xs : List (List ℤ)) (Q : List ℤ → Bool) → ((is : List ℤ) → P (0, is) ≡ Q is) → list_all Q xs ≡ true → list_all P (map (λ is. (0, is)) xs ++ []) ≡ true
all_there P [] Q same h = refl
all_there P (x ∷ xs) Q same h = ap (λ q. q && list_all P (map (λ is. (0, is)) xs ++ [])) (same x) ∙ next_by (Q x) (list_all Q xs) h (λ k. all_there P xs Q same k)
  where
    next_by : (p q : Bool) {r : Bool} → p && q ≡ true → (q ≡ true → r ≡ true) → p && r ≡ true
    next_by true q h k = k h
    next_by false q h k = h

pub holds_by : (type : Y.LeafType) → IsNumeric type → (bs : List Bounds) (serial at signature : ℕ) (m : List ℕ) (is : List ℤ) → A.is_there (part_at type bs serial at signature m).part (0, is) ≡ is_within bs is
holds_by type numeric bs serial at signature m is =
    by_type (λ t. A.is_there (part_at t bs serial at signature m).part (0, is) ≡ is_within bs is) (λ p. refl) refl type numeric

pub part_found_by : (code : List Instr) (v : Services) (m : List ℕ) (serial signature place : ℕ) (type : Y.LeafType) (bs : List Bounds) (l : S.Living) → ((is : List ℤ) → A.is_there (part_at type bs serial l.at l.signature m).part (0, is) ≡ is_within bs is) → AreBounds bs → S.living_of v.living serial ≡ Some l → l.signature ≡ signature → A.part_of_leaves (call_at code v m) (aggregate_is type bs serial signature place) 0 1 0 ≡ Some (part_at type bs serial l.at l.signature m)
part_found_by code v m serial signature place type bs l holds are lives same =
    let c = call_at code v m in
    let a = aggregate_is type bs serial signature place in
    let part : Y.Part = record { first = 0; count = 1 } in
    let p = part_at type bs serial l.at l.signature m in
    ap (λ q. then_found (cond q (Some []) None) (λ is. A.part_found c a part is (if_of_signature signature (found_living (S.living_of v.living serial))))) (le-leb 0 (length bs) (omega arith))
    ∙ ap (λ o. A.part_found c a part [] (if_of_signature signature (found_living o))) lives
    ∙ ap (λ q. A.part_found c a part [] (cond q (FoundAt (found_at l.at l.signature)) NotLiving)) (eq-eqb l.signature signature same)
    ∙ ap (λ q. cond q (Some p) None) (all_there (A.is_there p.part) (all_subscripts bs) (is_within bs) holds (subscripts_within bs are))

-- ---- what the service answers

value_set : (c : Call) (x : ℕ) (type : Y.LeafType) (z : ℤ) (p : A.PartFound) → Fits type z → W.scalar_set c x 0 (word z) p (kind_of [] type) ≡ W.elements_set c x 0 p c.services.entries (value_as type z)
value_set c x (Y.FixedLeaf q) z p fits =
    ap (λ u. W.elements_set c x 0 p c.services.entries (BasicNumber u)) (signed-word z (fits_wide (Y.FixedLeaf q) z fits))
value_set c x Y.BitLeaf z p fits =
    ap (λ w. W.elements_set c x 0 p c.services.entries (BasicBit (w == 1))) (ap word fits ∙ sym (bit_word (bit_of z))) ∙ set_by (bit_of z)
  where
    set_by : (b : Bool) → W.elements_set c x 0 p c.services.entries (BasicBit (flag b == 1)) ≡ W.elements_set c x 0 p c.services.entries (BasicBit b)
    set_by true = refl
    set_by false = refl
value_set c x _ z p fits = absurd fits

pub elements_answer : (code : List Instr) (v : Services) (m : List ℕ) (at name serial signature : ℕ) (type : Y.LeafType) (bs : List Bounds) (l : S.Living) (z : ℤ) → 4 * length code ≤ at → at + 16 ≤ memory_size → 4 * length code ≤ name → name + 16 ≤ memory_size → signature < 2 ^ 24 → RecordThere m at name signature → NameThere m name serial → shape_at v.signatures signature ≡ Some (array_shape type bs) → AreBounds bs → S.living_of v.living serial ≡ Some l → l.signature ≡ signature → Fits type z → l.at + 4 * element_count bs ≤ length m → W.scalar_served (call_at code v m) at 0 (word z) ≡ Done v (stored_from (store_width (store_kind type)) l.at (word z) 0 (element_count bs) m) at 0
elements_answer code v m at name serial signature type bs l z low high low' high' few r o shape are lives same fits room =
    let c = call_at code v m in
    let numeric = fits_numeric type z fits in
    let p = part_at type bs serial l.at l.signature m in
    ap (λ u. or_bad u (λ a. or_bad (A.part_of_leaves c a 0 1 0) (λ q. W.scalar_set c at 0 (word z) q (first_leaf q.part).kind))) (aggregate_found code v m at name serial signature type bs low high low' high' few r o shape)
    ∙ ap (λ u. or_bad u (λ q. W.scalar_set c at 0 (word z) q (first_leaf q.part).kind)) (part_found_by code v m serial signature (load 4 m (at + 8)) type bs l (holds_by type numeric bs serial l.at l.signature m) are lives same)
    ∙ value_set c at type z p fits
    ∙ ap (λ m'. Done v m' at 0) (all_stored type bs serial l.at l.signature m z fits (all_subscripts bs) 0 (element_count bs) m (elements_ordered bs) (omega (arith, room)))
