-- Memory where the copy of an argument is made: its name in the caller's list, and its data on the lower stack.
use Rattle.std.proofs.Common.{◌≡◌, ◌⊎◌, inl, inr, ℕ, suc, ◌+◌, ◌-◌, ◌*◌, ◌/◌, ◌%◌, ◌^◌, ◌<◌, ◌≤◌, List, length}
use Rattle.std.proofs.Common.{Some, None, Bool, true, false, refl, sym, ap, ◌∙◌, arith}
use Rattle.std.proofs.lemmas.Bool.{cases_lt}
use Rattle.std.proofs.lemmas.Bool.Decides.{nat_tests}
use Rattle.std.proofs.lemmas.List.{ext_get_or}
use Rattle.std.specs.Prelude.{cond, ◌==◌, slice_index}
use Rattle.rv_meaning.specs.Memory.{load}
use Rattle.area_keeper.specs.KeptAreas.{with_part}
use Rattle.area_keeper.proofs.Agreement.{byte_below, byte_inside, byte_past, length_with_part}
use Rattle.pli_meaning.specs.BasicValues.{VariableName}
use Rattle.pli_serving.specs.Bytes.{name_bytes}
use Rattle.storage_relation.specs.Telling.{HasWords}
use Rattle.storage_relation.proofs.NameWords.{name_words}
use Rattle.storage_relation.proofs.Slices.{part_written}
use Rattle.activation_relation.specs.Frames.{word_place}
use Rattle.activation_relation.specs.Layers.{Layer}
use Rattle.argument_runs.specs.Lists.{list_under, named_waits}

-- ---- writes

pub parts_apart :
    (a b : List ℕ) (p q : ℕ) (m : List ℕ) → p + length a ≤ q → q + length b ≤ length m →
    with_part b q (with_part a p m) ≡ with_part a p (with_part b q m)
parts_apart a b p q m before room =
    ext_get_or 0 (with_part b q (with_part a p m)) (with_part a p (with_part b q m))
    (omega (arith, first, second, third, fourth))
    (λ j less. by j (cases_lt j p) (cases_lt j (p + length a)) (cases_lt j q) (cases_lt j (q + length b)))
  where
    first : length (with_part a p m) ≡ length m
    first = length_with_part a p m (omega (arith, before, room))

    second : length (with_part b q m) ≡ length m
    second = length_with_part b q m room

    third : length (with_part b q (with_part a p m)) ≡ length (with_part a p m)
    third = length_with_part b q (with_part a p m) (omega (arith, room, first))

    fourth : length (with_part a p (with_part b q m)) ≡ length (with_part b q m)
    fourth = length_with_part a p (with_part b q m) (omega (arith, before, room, second))

    by :
        (j : ℕ) → (j < p) ⊎ (p ≤ j) → (j < p + length a) ⊎ (p + length a ≤ j) → (j < q) ⊎ (q ≤ j) →
        (j < q + length b) ⊎ (q + length b ≤ j) →
        slice_index (with_part b q (with_part a p m)) j ≡ slice_index (with_part a p (with_part b q m)) j
    by j (inl low) x y z =
        byte_below b q (with_part a p m) j (omega (arith, room, first)) (omega (arith, low, before))
        ∙ byte_below a p m j (omega (arith, before, room)) low
        ∙ sym (byte_below a p (with_part b q m) j (omega (arith, before, room, second)) low
        ∙ byte_below b q m j (omega (arith, room)) (omega (arith, low, before)))
    by j (inr high) (inl low) y z =
        let e : p + (j - p) ≡ j = omega (arith, high) in
        byte_below b q (with_part a p m) j (omega (arith, room, first)) (omega (arith, low, before))
        ∙ ap (slice_index (with_part a p m)) (sym e)
        ∙ byte_inside a p m (j - p) (omega (arith, before, room)) (omega (arith, low, high))
        ∙ sym (ap (slice_index (with_part a p (with_part b q m))) (sym e)
        ∙ byte_inside a p (with_part b q m) (j - p) (omega (arith, before, room, second)) (omega (arith, low, high)))
    by j (inr high) (inr past) (inl low) z =
        byte_below b q (with_part a p m) j (omega (arith, room, first)) low
        ∙ byte_past a p m j (omega (arith, before, room)) past
        ∙ sym (byte_past a p (with_part b q m) j (omega (arith, before, room, second)) past
        ∙ byte_below b q m j (omega (arith, room)) low)
    by j (inr high) (inr past) (inr over) (inl low) =
        let e : q + (j - q) ≡ j = omega (arith, over) in
        ap (slice_index (with_part b q (with_part a p m))) (sym e)
        ∙ byte_inside b q (with_part a p m) (j - q) (omega (arith, room, first)) (omega (arith, low, over))
        ∙ sym (byte_past a p (with_part b q m) j (omega (arith, before, room, second)) past
        ∙ ap (slice_index (with_part b q m)) (sym e)
        ∙ byte_inside b q m (j - q) (omega (arith, room)) (omega (arith, low, over)))
    by j (inr high) (inr past) (inr over) (inr behind) =
        byte_past b q (with_part a p m) j (omega (arith, room, first)) behind
        ∙ byte_past a p m j (omega (arith, before, room)) past
        ∙ sym (byte_past a p (with_part b q m) j (omega (arith, before, room, second)) past
        ∙ byte_past b q m j (omega (arith, room)) behind)

-- what is written last stands there
pub part_again :
    (a b : List ℕ) (p : ℕ) (m : List ℕ) → length b ≡ length a → p + length a ≤ length m →
    with_part b p (with_part a p m) ≡ with_part b p m
part_again a b p m same room =
    ext_get_or 0 (with_part b p (with_part a p m)) (with_part b p m) (omega (arith, first, second, third))
    (λ j less. by j (cases_lt j p) (cases_lt j (p + length b)))
  where
    first : length (with_part a p m) ≡ length m
    first = length_with_part a p m room

    second : length (with_part b p m) ≡ length m
    second = length_with_part b p m (omega (arith, same, room))

    third : length (with_part b p (with_part a p m)) ≡ length (with_part a p m)
    third = length_with_part b p (with_part a p m) (omega (arith, room, first, same))

    by :
        (j : ℕ) → (j < p) ⊎ (p ≤ j) → (j < p + length b) ⊎ (p + length b ≤ j) →
        slice_index (with_part b p (with_part a p m)) j ≡ slice_index (with_part b p m) j
    by j (inl low) x =
        byte_below b p (with_part a p m) j (omega (arith, room, first)) low
        ∙ byte_below a p m j (omega (arith, room)) low
        ∙ sym (byte_below b p m j (omega (arith, room)) low)
    by j (inr high) (inl low) =
        let e : p + (j - p) ≡ j = omega (arith, high) in
        ap (slice_index (with_part b p (with_part a p m))) (sym e)
        ∙ byte_inside b p (with_part a p m) (j - p) (omega (arith, room, first)) (omega (arith, low, high))
        ∙ sym (ap (slice_index (with_part b p m)) (sym e)
        ∙ byte_inside b p m (j - p) (omega (arith, room)) (omega (arith, low, high)))
    by j (inr high) (inr past) =
        byte_past b p (with_part a p m) j (omega (arith, room, first)) past
        ∙ byte_past a p m j (omega (arith, room)) (omega (arith, past, same))
        ∙ sym (byte_past b p m j (omega (arith, room)) past)

-- ---- the words of the list

pub named_words :
    (serial at : ℕ) (m : List ℕ) → serial < 2 ^ 64 → at + 16 ≤ length m →
    HasWords (VariableName serial) at (with_part (name_bytes (VariableName serial)) at m)
named_words serial at m small room =
    name_words (VariableName serial) at (with_part (name_bytes (VariableName serial)) at m)
    (record { fits = small; tells = part_written (name_bytes (VariableName serial)) at m room })

-- what is told of them is what stands there, where the number of the signature and the mark of a copy stand
pub named_found :
    (φ : Layer) (serial signature n v : ℕ) (m : List ℕ) → 24 ≤ φ.at →
    HasWords (VariableName serial) (list_under φ.at) m →
    (load 4 m (list_under φ.at + 16) ≡ signature) × (load 4 m (list_under φ.at + 20) ≡ 1) →
    named_waits serial signature n ≡ Some v → load 4 m (word_place φ n) ≡ v
named_found φ serial signature n v m low words rest e = t5 (n == 5) refl e
  where
    some : {a b : ℕ} → Some a ≡ Some b → a ≡ b
    some h = cc h

    at : (k j : ℕ) → n ≡ k → φ.at - 4 * suc k ≡ j → load 4 m (word_place φ n) ≡ load 4 m j
    at k j same place = ap (λ i. load 4 m (φ.at - 4 * suc i)) same ∙ ap (load 4 m) place

    t0 : (q : Bool) → (n == 0) ≡ q → cond q (Some 1) None ≡ Some v → load 4 m (word_place φ n) ≡ v
    t0 true f h =
        at 0 (list_under φ.at + 20) (grind (arith, nat_tests)) (omega (arith, low)) ∙ rest.1 ∙ some h
    t0 false f h = absurd (cc h)

    t1 : (q : Bool) → (n == 1) ≡ q → cond q (Some signature) (cond (n == 0) (Some 1) None) ≡ Some v →
        load 4 m (word_place φ n) ≡ v
    t1 true f h =
        at 1 (list_under φ.at + 16) (grind (arith, nat_tests)) (omega (arith, low)) ∙ rest.0 ∙ some h
    t1 false f h = t0 (n == 0) refl h

    t2 : (q : Bool) → (n == 2) ≡ q →
        cond q (Some (serial / 2 ^ 32)) (cond (n == 1) (Some signature) (cond (n == 0) (Some 1) None)) ≡ Some v →
        load 4 m (word_place φ n) ≡ v
    t2 true f h =
        at 2 (list_under φ.at + 12) (grind (arith, nat_tests)) (omega (arith, low)) ∙ words.high ∙ some h
    t2 false f h = t1 (n == 1) refl h

    t3 : (q : Bool) → (n == 3) ≡ q →
        cond q (Some (serial % 2 ^ 32)) (cond (n == 2) (Some (serial / 2 ^ 32)) (cond (n == 1) (Some signature)
        (cond (n == 0) (Some 1) None))) ≡ Some v → load 4 m (word_place φ n) ≡ v
    t3 true f h =
        at 3 (list_under φ.at + 8) (grind (arith, nat_tests)) (omega (arith, low)) ∙ words.low ∙ some h
    t3 false f h = t2 (n == 2) refl h

    t4 : (q : Bool) → (n == 4) ≡ q →
        cond q (Some 0) (cond (n == 3) (Some (serial % 2 ^ 32)) (cond (n == 2) (Some (serial / 2 ^ 32))
        (cond (n == 1) (Some signature) (cond (n == 0) (Some 1) None)))) ≡ Some v → load 4 m (word_place φ n) ≡ v
    t4 true f h =
        at 4 (list_under φ.at + 4) (grind (arith, nat_tests)) (omega (arith, low)) ∙ words.offset ∙ some h
    t4 false f h = t3 (n == 3) refl h

    t5 : (q : Bool) → (n == 5) ≡ q →
        cond q (Some 1) (cond (n == 4) (Some 0) (cond (n == 3) (Some (serial % 2 ^ 32))
        (cond (n == 2) (Some (serial / 2 ^ 32)) (cond (n == 1) (Some signature) (cond (n == 0) (Some 1) None)))))
        ≡ Some v → load 4 m (word_place φ n) ≡ v
    t5 true f h =
        at 5 (list_under φ.at) (grind (arith, nat_tests)) (omega (arith, low)) ∙ words.kind ∙ some h
    t5 false f h = t4 (n == 4) refl h
