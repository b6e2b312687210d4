-- Service 40 for two arrays of texts with equal bounds, both of CHARACTER or both of CHARACTER VARYING, whatever their lengths: the texts
-- of one are taken onto the stack, and stored in the other as its elements keep them.
use Rattle.std.proofs.Common.{◌≡◌, ℕ, zero, suc, ◌+◌, ◌*◌, ◌^◌, ◌<◌, ◌≤◌, List, [], ◌∷◌, ◌++◌, length, map, Some, Bool, true, false, refl, ap, ◌∙◌}
use Rattle.std.specs.Prelude.{ℤ, cond, ◌&&◌, take, drop}
use Rattle.std.specs.List.{zip}
use Rattle.rv_meaning.specs.declared.instr.Instr.{Instr}
use Rattle.rv_meaning.specs.Memory.{load}
use Rattle.rv_meaning.specs.Machine.{memory_size}
use Rattle.pli_typing.specs.Signatures.{Bounds, element_count}
use Rattle.pli_meaning.specs.BasicValues.{BasicText}
use Rattle.pli_meaning.specs.Contents.{is_within, element_place, seen}
use Rattle.pli_meaning.specs.Evaluating.{Designated}
use Rattle.pli_meaning.specs.Placing as P
use Rattle.pli_serving.specs.Values.{all_subscripts, value_at}
use Rattle.pli_serving.specs.ServiceState as S
use Rattle.pli_serving.specs.ServiceState.{Services, Entry, AggregateEntry, TakenLeaf}
use Rattle.pli_serving.specs.Templates.{shape_at}
use Rattle.pli_serving.specs.Answers.{Done}
use Rattle.pli_serving.specs.Outcomes.{or_bad, pushed}
use Rattle.pli_serving.specs.Aggregates as A
use Rattle.pli_serving.specs.AggregateServices as W
use Rattle.pli_headline.specs.ProvedSoFar.{AreBounds, text_leaf}
use Rattle.run_steps.specs.Engine.{call_at}
use Rattle.pli_headline.proofs.NamesStand.{NameThere}
use Rattle.pli_headline.proofs.ArrayPlaces.{place_inside}
use Rattle.pli_headline.proofs.ArrayMeant.{array_shape, bounds_itself}
use Rattle.pli_headline.proofs.ArrayOrder.{elements_ordered}
use Rattle.pli_headline.proofs.TextPlaces.{text_kind_of, TextThere}
use Rattle.pli_headline.proofs.TextArraysStay.{TextsThere, text_stride}
use Rattle.pli_headline.proofs.ElementsServed.{subscripts_within, found_at, part_at, RecordThere, aggregate_found, part_found_by}
use Rattle.pli_headline.proofs.TextsFilled.{texts_from}
use Rattle.pli_headline.proofs.TextsServed.{text_element_is, text_holds, all_texts_stored}
use Rattle.pli_headline.proofs.CopiesServed.{mapped_within, stores_are}

-- the texts of an array, one for each place
abbrev pub texts_leaf_taken : (varying : Bool) → (most : ℕ) → List Bounds → (ℕ → List ℕ) → TakenLeaf
texts_leaf_taken varying most bs x =
    record { kind = text_kind_of varying most; bounds = bs; elements = map (λ is. x (element_place bs is)) (all_subscripts bs) }

abbrev pub texts_taken : (varying : Bool) → (most : ℕ) → List Bounds → (ℕ → List ℕ) → Entry
texts_taken varying most bs x = AggregateEntry (texts_leaf_taken varying most bs x ∷ [])

-- ---- mode 0

take_twice : (n : ℕ) (xs : List ℕ) → take n (take n xs) ≡ take n xs
take_twice zero [] = refl
take_twice zero (x ∷ xs) = refl
take_twice (suc n) [] = refl
take_twice (suc n) (x ∷ xs) = ap (λ u. x ∷ u) (take_twice n xs)

text_found : (varying : Bool) (most at : ℕ) (m text : List ℕ) → TextThere varying most at m text → seen (text_kind_of varying most) (value_at (text_kind_of varying most) at m) ≡ BasicText text
text_found false most at m text there = ap BasicText (take_twice most (drop at m) ∙ there)
text_found true most at m text there = ap BasicText there.1

found_there : (varying : Bool) (most : ℕ) (bs : List Bounds) (serial at signature : ℕ) (m : List ℕ) (is : List ℤ) → P.elements_of (part_at (text_leaf varying most) bs serial at signature m).part 0 is ≡ seen (text_kind_of varying most) (value_at (text_kind_of varying most) (A.element_at (array_shape (text_leaf varying most) bs) (found_at at signature) (0, is)) m)
found_there false most bs serial at signature m is = refl
found_there true most bs serial at signature m is = refl

leaf_by : (varying : Bool) (most : ℕ) (bs : List Bounds) (serial at signature : ℕ) (m : List ℕ) → W.taken_leaf (part_at (text_leaf varying most) bs serial at signature m).part 0 ≡ record { kind = text_kind_of varying most; bounds = bs; elements = map (λ is. W.taken_bytes (text_kind_of varying most) (P.elements_of (part_at (text_leaf varying most) bs serial at signature m).part 0 is)) (all_subscripts bs) }
leaf_by false most bs serial at signature m = refl
leaf_by true most bs serial at signature m = refl

taken_is : (varying : Bool) (most : ℕ) (bs : List Bounds) → AreBounds bs → (serial at signature : ℕ) (m : List ℕ) (x : ℕ → List ℕ) → TextsThere m at (element_count bs) varying most x → W.taken_leaf (part_at (text_leaf varying most) bs serial at signature m).part 0 ≡ texts_leaf_taken varying most bs x
taken_is varying most bs are serial at signature m x there =
    let d : Designated = (part_at (text_leaf varying most) bs serial at signature m).part in
    let kind = text_kind_of varying most in
    leaf_by varying most bs serial at signature m
    ∙ ap (λ u. record { kind = kind; bounds = bs; elements = u })
    (mapped_within (is_within bs) (λ is. W.taken_bytes kind (P.elements_of d 0 is)) (λ is. x (element_place bs is)) (all_subscripts bs) (subscripts_within bs are)
    (λ is inside.
    let p = element_place bs is in
    ap (W.taken_bytes kind)
    (found_there varying most bs serial at signature m is
    ∙ ap (λ u. seen kind (value_at kind u m)) (text_element_is varying most bs at signature is)
    ∙ text_found varying most (at + p * text_stride varying most) m (x p) (there p (place_inside bs is inside)))))

take_by : (varying : Bool) (most : ℕ) (bs : List Bounds) (code : List Instr) (v : Services) (m : List ℕ) (at serial there signature : ℕ) → W.assigned_by (call_at code v m) at 0 (part_at (text_leaf varying most) bs serial there signature m) ≡ Done (pushed (AggregateEntry (W.taken_leaf (part_at (text_leaf varying most) bs serial there signature m).part 0 ∷ [])) v) m at 0
take_by false most bs code v m at serial there signature = refl
take_by true most bs code v m at serial there signature = refl

pub take_texts : (code : List Instr) (v : Services) (m : List ℕ) (at name serial signature : ℕ) (varying : Bool) (most : ℕ) (bs : List Bounds) (l : S.Living) (x : ℕ → List ℕ) → 4 * length code ≤ at → at + 16 ≤ memory_size → 4 * length code ≤ name → name + 16 ≤ memory_size → signature < 2 ^ 24 → RecordThere m at name signature → NameThere m name serial → shape_at v.signatures signature ≡ Some (array_shape (text_leaf varying most) bs) → AreBounds bs → S.living_of v.living serial ≡ Some l → l.signature ≡ signature → TextsThere m l.at (element_count bs) varying most x → W.aggregate_served (call_at code v m) at 0 1 0 0 ≡ Done (pushed (texts_taken varying most bs x) v) m at 0
take_texts code v m at name serial signature varying most bs l x low high low' high' few r o shape are lives same there =
    let c = call_at code v m in
    let type = text_leaf varying most in
    ap (λ u. or_bad u (λ a. or_bad (A.part_of_leaves c a 0 1 0) (W.assigned_by c at 0))) (aggregate_found code v m at name serial signature type bs low high low' high' few r o shape)
    ∙ ap (λ u. or_bad u (W.assigned_by c at 0)) (part_found_by code v m serial signature (load 4 m (at + 8)) type bs l (text_holds varying most bs serial l.at l.signature m) are lives same)
    ∙ take_by varying most bs code v m at serial l.at l.signature
    ∙ ap (λ u. Done (pushed (AggregateEntry (u ∷ [])) v) m at 0) (taken_is varying most bs are serial l.at l.signature m x there)

-- ---- mode 1

value_back : (varying : Bool) (most : ℕ) (text : List ℕ) → W.taken_value (text_kind_of varying most) text ≡ BasicText text
value_back false most text = refl
value_back true most text = refl

put_by : (varying : Bool) (most other : ℕ) (bs : List Bounds) (code : List Instr) (v : Services) (m : List ℕ) (at serial there signature : ℕ) (x : ℕ → List ℕ) → W.assigned_by (call_at code (pushed (texts_taken varying other bs x) v) m) at 1 (part_at (text_leaf varying most) bs serial there signature m) ≡ cond (P.all_same_bounds (bs ∷ []) (bs ∷ [])) (Done v (W.stored_in (part_at (text_leaf varying most) bs serial there signature m) (zip (map (λ is. (0, is)) (all_subscripts bs)) (map (W.taken_value (text_kind_of varying other)) (texts_leaf_taken varying other bs x).elements) ++ []) m) at 0) (Done (pushed (texts_taken varying other bs x) v) m at 109)
put_by false most other bs code v m at serial there signature x = refl
put_by true most other bs code v m at serial there signature x = refl

pub put_texts : (code : List Instr) (v : Services) (m : List ℕ) (at name serial signature : ℕ) (varying : Bool) (most other : ℕ) (bs : List Bounds) (l : S.Living) (x : ℕ → List ℕ) → 4 * length code ≤ at → at + 16 ≤ memory_size → 4 * length code ≤ name → name + 16 ≤ memory_size → signature < 2 ^ 24 → RecordThere m at name signature → NameThere m name serial → shape_at v.signatures signature ≡ Some (array_shape (text_leaf varying most) bs) → AreBounds bs → S.living_of v.living serial ≡ Some l → l.signature ≡ signature → W.aggregate_served (call_at code (pushed (texts_taken varying other bs x) v) m) at 0 1 0 1 ≡ Done v (texts_from varying most x l.at 0 (element_count bs) m) at 0
put_texts code v m at name serial signature varying most other bs l x low high low' high' few r o shape are lives same =
    let v' = pushed (texts_taken varying other bs x) v in
    let c = call_at code v' m in
    let type = text_leaf varying most in
    let kind = text_kind_of varying other in
    let p = part_at type bs serial l.at l.signature m in
    let g : List ℤ → List ℕ = λ is. x (element_place bs is) in
    let stores = zip (map (λ is. (0, is)) (all_subscripts bs)) (map (W.taken_value kind) (map g (all_subscripts bs))) ++ [] in
    ap (λ u. or_bad u (λ a. or_bad (A.part_of_leaves c a 0 1 0) (W.assigned_by c at 1))) (aggregate_found code v' m at name serial signature type bs low high low' high' few r o shape)
    ∙ ap (λ u. or_bad u (W.assigned_by c at 1)) (part_found_by code v' m serial signature (load 4 m (at + 8)) type bs l (text_holds varying most bs serial l.at l.signature m) are lives same)
    ∙ put_by varying most other bs code v m at serial l.at l.signature x
    ∙ ap (λ q. cond (q && true) (Done v (W.stored_in p stores m) at 0) (Done v' m at 109)) (bounds_itself bs)
    ∙ ap (λ ss. Done v (W.stored_in p ss m) at 0) (stores_are (W.taken_value kind) g (all_subscripts bs))
    ∙ ap (λ m'. Done v m' at 0) (all_texts_stored varying most bs serial l.at l.signature m (λ is. W.taken_value kind (g is)) x (λ is inside. value_back varying other (g is)) (all_subscripts bs) 0 (element_count bs) m (subscripts_within bs are) (elements_ordered bs))
