-- Service 41 for an array of texts, known by its name and signature: the text that waits on the stack of texts is stored in each element.
use Rattle.std.proofs.Common.{◌≡◌, ℕ, zero, suc, ◌+◌, ◌*◌, ◌^◌, ◌<◌, ◌≤◌, List, [], ◌∷◌, length, map, Some, Bool, true, false, refl, ap, ◌∙◌, arith}
use Rattle.std.specs.Prelude.{ℤ, ◌&&◌}
use Rattle.std.specs.List.{list_all}
use Rattle.std.proofs.lemmas.Bool.{le-leb}
use Rattle.std.proofs.Math.Nat.{mul_comm}
use Rattle.rv_meaning.specs.declared.instr.Instr.{Instr}
use Rattle.rv_meaning.specs.Memory.{load}
use Rattle.rv_meaning.specs.Machine.{memory_size}
use Rattle.pli_typing.specs.Signatures.{Bounds, element_count}
use Rattle.pli_meaning.specs.BasicValues.{BasicValue, BasicText}
use Rattle.pli_meaning.specs.Contents.{is_within, element_place}
use Rattle.pli_meaning.specs.Evaluating.{first_leaf}
use Rattle.pli_serving.specs.Bytes.{with_bytes}
use Rattle.pli_serving.specs.Values.{all_subscripts}
use Rattle.pli_serving.specs.Stored.{kept_bytes}
use Rattle.pli_serving.specs.ServiceState as S
use Rattle.pli_serving.specs.ServiceState.{Services, TextEntry}
use Rattle.pli_serving.specs.Templates.{shape_at}
use Rattle.pli_serving.specs.Answers.{Done}
use Rattle.pli_serving.specs.Outcomes.{or_bad, pushed}
use Rattle.pli_serving.specs.Aggregates as A
use Rattle.pli_serving.specs.AggregateServices as W
use Rattle.pli_headline.specs.ProvedSoFar.{AreBounds, text_leaf}
use Rattle.run_steps.specs.Engine.{call_at}
use Rattle.pli_headline.proofs.NamesStand.{NameThere}
use Rattle.pli_headline.proofs.ArrayMeant.{array_shape}
use Rattle.pli_headline.proofs.ArrayOrder.{places_from, elements_ordered}
use Rattle.pli_headline.proofs.TextPlaces.{text_kind_of}
use Rattle.pli_headline.proofs.TextArraysStay.{text_stride}
use Rattle.pli_headline.proofs.ElementsServed.{subscripts_within, found_at, part_at, RecordThere, aggregate_found, part_found_by}
use Rattle.pli_headline.proofs.TextsFilled.{texts_from}

-- where an element stands
pub text_element_is : (varying : Bool) (most : ℕ) (bs : List Bounds) (at signature : ℕ) (is : List ℤ) → A.element_at (array_shape (text_leaf varying most) bs) (found_at at signature) (0, is) ≡ at + element_place bs is * text_stride varying most
text_element_is false most bs at signature is =
    let n = text_stride false most in
    let e : at + 0 + n * element_place bs is ≡ at + n * element_place bs is = omega arith in
    e ∙ ap (λ u. at + u) (mul_comm n (element_place bs is))
text_element_is true most bs at signature is =
    let n = text_stride true most in
    let e : at + 0 + n * element_place bs is ≡ at + n * element_place bs is = omega arith in
    e ∙ ap (λ u. at + u) (mul_comm n (element_place bs is))

pub text_holds : (varying : Bool) (most : ℕ) (bs : List Bounds) (serial at signature : ℕ) (m : List ℕ) (is : List ℤ) → A.is_there (part_at (text_leaf varying most) bs serial at signature m).part (0, is) ≡ is_within bs is
text_holds false most bs serial at signature m is = ap (λ q. q && is_within bs is) (le-leb most most (omega arith))
text_holds true most bs serial at signature m is = refl

-- ---- what is stored

-- a store for each element
abbrev pub stores_by : (List ℤ → BasicValue) → List (List ℤ) → List W.Store
stores_by given xs = map (λ is. ((0, is), given is)) xs

next_true : (p q : Bool) → p && q ≡ true → (p ≡ true) × (q ≡ true)
next_true true q h = (refl, h)
next_true false q h = absurd (cc h)

stored_next : (varying : Bool) (most : ℕ) (bs : List Bounds) (serial at signature : ℕ) (m0 : List ℕ) (v : BasicValue) (x : List ℤ) (rest : List W.Store) (m : List ℕ) → W.stored_in (part_at (text_leaf varying most) bs serial at signature m0) (((0, x), v) ∷ rest) m ≡ W.stored_in (part_at (text_leaf varying most) bs serial at signature m0) rest (with_bytes (kept_bytes (text_kind_of varying most) v) (A.element_at (array_shape (text_leaf varying most) bs) (found_at at signature) (0, x)) m)
stored_next false most bs serial at signature m0 v x rest m = refl
stored_next true most bs serial at signature m0 v x rest m = refl

pub all_texts_stored : (varying : Bool) (most : ℕ) (bs : List Bounds) (serial at signature : ℕ) (m0 : List ℕ) (given : List ℤ → BasicValue) (t : ℕ → List ℕ) → ((is : List ℤ) → is_within bs is ≡ true → given is ≡ BasicText (t (element_place bs is))) → (xs : List (List ℤ)) (first count : ℕ) (m : List ℕ) → list_all (is_within bs) xs ≡ true → map (element_place bs) xs ≡ places_from first count → W.stored_in (part_at (text_leaf varying most) bs serial at signature m0) (stores_by given xs) m ≡ texts_from varying most t at first count m
all_texts_stored varying most bs serial at signature m0 given t each [] first zero m all e = refl
all_texts_stored varying most bs serial at signature m0 given t each [] first (suc c) m all e = absurd (cc e)
all_texts_stored varying most bs serial at signature m0 given t each (x ∷ xs) first zero m all e = absurd (cc e)
all_texts_stored varying most bs serial at signature m0 given t each (x ∷ xs) first (suc c) m all e =
    let p = part_at (text_leaf varying most) bs serial at signature m0 in
    let kind = text_kind_of varying most in
    let rest = stores_by given xs in
    let here : element_place bs x ≡ first = cc e in
    let behind : map (element_place bs) xs ≡ places_from (suc first) c = cc e in
    let inside = next_true (is_within bs x) (list_all (is_within bs) xs) all in
    let there : A.element_at (array_shape (text_leaf varying most) bs) (found_at at signature) (0, x) ≡ at + first * text_stride varying most = text_element_is varying most bs at signature x ∙ ap (λ n. at + n * text_stride varying most) here in
    let value : given x ≡ BasicText (t first) = each x inside.0 ∙ ap (λ n. BasicText (t n)) here in
    stored_next varying most bs serial at signature m0 (given x) x rest m
    ∙ ap (λ n. W.stored_in p rest (with_bytes (kept_bytes kind (given x)) n m)) there
    ∙ ap (λ v. W.stored_in p rest (with_bytes (kept_bytes kind v) (at + first * text_stride varying most) m)) value
    ∙ all_texts_stored varying most bs serial at signature m0 given t each xs (suc first) c (with_bytes (kept_bytes kind (BasicText (t first))) (at + first * text_stride varying most) m) inside.1 behind

-- ---- what the service answers

one_for_all : (v : BasicValue) (xs : List (List ℤ)) → map (λ e. (e, v)) (map (λ is. (0, is)) xs) ≡ stores_by (λ is. v) xs
one_for_all v [] = refl
one_for_all v (x ∷ xs) = ap (λ u. ((0, x), v) ∷ u) (one_for_all v xs)

text_set : (varying : Bool) (most : ℕ) (bs : List Bounds) (code : List Instr) (v : Services) (m m0 : List ℕ) (text : List ℕ) (at serial there signature value : ℕ) → W.scalar_set (call_at code (pushed (TextEntry text) v) m) at 0 value (part_at (text_leaf varying most) bs serial there signature m0) (first_leaf (part_at (text_leaf varying most) bs serial there signature m0).part).kind ≡ Done v (W.stored_in (part_at (text_leaf varying most) bs serial there signature m0) (map (λ e. (e, BasicText text)) (map (λ is. (0, is)) (all_subscripts bs))) m) at 0
text_set false most bs code v m m0 text at serial there signature value = refl
text_set true most bs code v m m0 text at serial there signature value = refl

pub texts_answer : (code : List Instr) (v : Services) (m : List ℕ) (at name serial signature : ℕ) (varying : Bool) (most : ℕ) (bs : List Bounds) (l : S.Living) (text : List ℕ) (value : ℕ) → 4 * length code ≤ at → at + 16 ≤ memory_size → 4 * length code ≤ name → name + 16 ≤ memory_size → signature < 2 ^ 24 → RecordThere m at name signature → NameThere m name serial → shape_at v.signatures signature ≡ Some (array_shape (text_leaf varying most) bs) → AreBounds bs → S.living_of v.living serial ≡ Some l → l.signature ≡ signature → W.scalar_served (call_at code (pushed (TextEntry text) v) m) at 0 value ≡ Done v (texts_from varying most (λ p. text) l.at 0 (element_count bs) m) at 0
texts_answer code v m at name serial signature varying most bs l text value low high low' high' few r o shape are lives same =
    let v' = pushed (TextEntry text) v in
    let c = call_at code v' m in
    let type = text_leaf varying most in
    let p = part_at type bs serial l.at l.signature m in
    ap (λ u. or_bad u (λ a. or_bad (A.part_of_leaves c a 0 1 0) (λ q. W.scalar_set c at 0 value q (first_leaf q.part).kind))) (aggregate_found code v' m at name serial signature type bs low high low' high' few r o shape)
    ∙ ap (λ u. or_bad u (λ q. W.scalar_set c at 0 value q (first_leaf q.part).kind)) (part_found_by code v' m serial signature (load 4 m (at + 8)) type bs l (text_holds varying most bs serial l.at l.signature m) are lives same)
    ∙ text_set varying most bs code v m m text at serial l.at l.signature value
    ∙ ap (λ ss. Done v (W.stored_in p ss m) at 0) (one_for_all (BasicText text) (all_subscripts bs))
    ∙ ap (λ m'. Done v m' at 0) (all_texts_stored varying most bs serial l.at l.signature m (λ is. BasicText text) (λ p'. text) (λ is inside. refl) (all_subscripts bs) 0 (element_count bs) m (subscripts_within bs are) (elements_ordered bs))
