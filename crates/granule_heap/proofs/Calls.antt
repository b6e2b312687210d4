-- What a keeper's calls do with bytes.
use Rattle.std.proofs.Common.{◌≡◌, ℕ, ℤ, suc, ◌+◌, ◌-◌, ◌*◌, ◌/◌, ◌<◌, ◌≤◌, List, [], ◌∷◌, ◌++◌, length, take, drop, replicate, drop-drop, length-append, length-drop, length-take-le, Option, Some, None, Ok, Bool, true, false, refl, sym, ap, ◌∙◌, subst, arith}
use Rattle.std.specs.Prelude.{cond, ◌==◌, IsSome}
use Rattle.std.proofs.lemmas.List.{length-replicate}
use borrow.Rule.Slice.PartMut.{put_mid}
use Rattle.rv_meaning.specs.Words.{word}
use Rattle.area_keeper.specs.Keeper.{Kept}
use Rattle.area_keeper.specs.KeptAreas.{kept_as, kept_at, part, with_part}
use Rattle.area_keeper.specs.KeeperLaws.{greatest_capacity}
use Rattle.area_keeper.specs.Chain.{with_word, capacity_in}
use Rattle.area_keeper.proofs.Agreement.{length_part}
use Rattle.area_heap.specs.Answers.{of_signature, kept_of, offset_or_fault, placed_or, bytes_or}
use Rattle.granule_keeper.proofs.Placing.{granules_fitted}
use Rattle.granule_keeper.proofs.Runs.{free_within}
use Rattle.granule_keeper.proofs.Standing.{placed_in}
use Rattle.granule_keeper.specs.Marks.{insides, free_run, room_in, with_run, without_run, used}
use Rattle.granule_keeper.specs.Granules.{front_for, marks_in, with_marks, kept_in, granules_of, with_generation, without_generation, placed_at, granules_allocated, freed_if, freed_in, with_copy, granules_copied, granules_area}
use Rattle.granule_heap.specs.Places.{IsFound}
use Rattle.granule_heap.proofs.MarkSteps.{le_true, le_false}
use Rattle.granule_heap.proofs.Finding.{opened}

-- ---- marks in bytes

pub marks_put :
    (bytes xs : List ℕ) (end : ℕ) → length xs ≡ end - 8 → put_mid 8 (end - 8) bytes xs ≡ with_marks xs bytes
marks_put bytes xs end e =
    ap (λ ys. take 8 bytes ++ (xs ++ ys)) (drop-drop (end - 8) 8 bytes ∙ ap (λ k. drop (8 + k) bytes) (sym e))

pub marks_copied :
    (bytes from source new : List ℕ) (number end : ℕ) → end ≡ 8 + capacity_in bytes / 16 → end ≤ length bytes →
    number ≤ length (marks_in from) → number ≤ length (marks_in bytes) → source ≡ marks_in from →
    new ≡ take number source ++ replicate (length (take (end - 8) (drop 8 bytes)) - number) 0 →
    put_mid 8 (end - 8) bytes new ≡ with_marks (take number (marks_in from) ++ replicate (capacity_in bytes / 16 - number) 0) bytes
marks_copied bytes from source new number end e i f g s n =
    let k : end - 8 ≡ capacity_in bytes / 16 = omega (arith, e) in
    let l : length (take (end - 8) (drop 8 bytes)) ≡ capacity_in bytes / 16 =
    length-take-le (end - 8) (drop 8 bytes) (omega (arith, i, length-drop 8 bytes)) ∙ k
    in
    let marks = take number (marks_in from) ++ replicate (capacity_in bytes / 16 - number) 0 in
    let r : new ≡ marks =
    n
    ∙ (ap (λ xs. take number xs ++ replicate (length (take (end - 8) (drop 8 bytes)) - number) 0) s
    ∙ ap (λ x. take number (marks_in from) ++ replicate (x - number) 0) l)
    in
    let z : length {A = ℕ} (replicate (capacity_in bytes / 16 - number) 0) ≡ capacity_in bytes / 16 - number = length-replicate (capacity_in bytes / 16 - number) 0 in
    let m : length (marks_in bytes) ≡ capacity_in bytes / 16 = length_part 8 (capacity_in bytes / 16) bytes (omega (arith, e, i)) in
    let w : length marks ≡ end - 8 =
    omega (arith, length-append (take number (marks_in from)) (replicate (capacity_in bytes / 16 - number) 0), length-take-le number (marks_in from) f, z, g, m, k)
    in
    ap (λ xs. put_mid 8 (end - 8) bytes xs) r ∙ marks_put bytes marks end w

-- ---- placing

room_too_much : (o n : ℕ) (ms : List ℕ) → length ms < n → room_in o n ms ≡ None
room_too_much o n [] h = refl
room_too_much o n (m ∷ ms) h =
    let f = free_within (m ∷ ms) in
    ap (λ b. cond b (Some o) (room_in (16 + o) n ms)) (le_false n (free_run (m ∷ ms)) (omega (arith, f, h)))
    ∙ room_too_much (16 + o) n ms (omega (arith, h))

pub too_much :
    (bytes : List ℕ) (size signature capacity : ℕ) (extent : ℤ) → IsSome (granules_area bytes) → capacity ≡ capacity_in bytes →
    capacity < size → granules_allocated size signature extent bytes ≡ None
too_much bytes size signature capacity extent s c h =
    let x = opened bytes s in
    let n : length (marks_in bytes) < granules_of size = omega (arith, h, c, x.marks) in
    ap (placed_at size signature extent bytes) (room_too_much 0 (granules_of size) (marks_in bytes) n)

pub not_placed :
    (bytes : List ℕ) (size signature number : ℕ) (extent : ℤ) (marks : List ℕ) → marks ≡ marks_in bytes → number ≡ granules_of size →
    None ≡ room_in 0 number marks → granules_allocated size signature extent bytes ≡ None
not_placed bytes size signature number extent marks m n e =
    ap (placed_at size signature extent bytes) (ap (λ k. room_in 0 k (marks_in bytes)) (sym n) ∙ (ap (room_in 0 number) (sym m) ∙ sym e))

pub is_placed :
    (bytes : List ℕ) (size signature number place : ℕ) (extent : ℤ) (marks : List ℕ) → marks ≡ marks_in bytes →
    number ≡ granules_of size → Some (16 * place) ≡ room_in 0 number marks →
    granules_allocated size signature extent bytes
    ≡ Some (16 * place, with_generation (kept_as (16 * place) size signature extent) bytes)
is_placed bytes size signature number place extent marks m n e =
    ap (placed_at size signature extent bytes) (ap (λ k. room_in 0 k (marks_in bytes)) (sym n) ∙ (ap (room_in 0 number) (sym m) ∙ sym e))

pub placed_offset :
    (bytes : List ℕ) (size signature number place : ℕ) (extent : ℤ) (marks : List ℕ) → marks ≡ marks_in bytes →
    number ≡ granules_of size → Some (16 * place) ≡ room_in 0 number marks →
    Ok (place * 16) ≡ offset_or_fault (granules_allocated size signature extent bytes)
placed_offset bytes size signature number place extent marks m n e =
    let p : place * 16 ≡ 16 * place = omega arith in
    ap (λ x. Ok x) p ∙ sym (ap offset_or_fault (is_placed bytes size signature number place extent marks m n e))

pub placed_bytes :
    (bytes marked new marks : List ℕ) (size signature number place capacity front extent_word : ℕ) (extent : ℤ) →
    marks ≡ marks_in bytes → number ≡ granules_of size → Some (16 * place) ≡ room_in 0 number marks →
    capacity ≡ capacity_in bytes → front ≡ front_for capacity → extent_word ≡ word extent →
    marked ≡ with_marks (with_run place number (marks_in bytes)) bytes →
    new
    ≡ with_word (8 + (front + place * 16)) extent_word (with_word (4 + (front + place * 16)) signature (with_word (front + place * 16) size marked)) →
    new ≡ placed_or bytes (granules_allocated size signature extent bytes)
placed_bytes bytes marked new marks size signature number place capacity front extent_word extent m n e c f x w r =
    let at : front + place * 16 ≡ front_for (capacity_in bytes) + 16 * place = omega (arith, f ∙ ap front_for c) in
    let i : place ≡ 16 * place / 16 = omega arith in
    let g = kept_as (16 * place) size signature extent in
    let v : marked ≡ with_marks (with_run (16 * place / 16) (granules_of size) (marks_in bytes)) bytes =
    w ∙ (ap (λ k. with_marks (with_run place k (marks_in bytes)) bytes) n ∙ ap (λ k. with_marks (with_run k (granules_of size) (marks_in bytes)) bytes) i)
    in
    let header : ℕ → ℕ → List ℕ → List ℕ = λ a z xs. with_word (8 + a) z (with_word (4 + a) signature (with_word a size xs)) in
    r
    ∙ (ap (λ z. header (front + place * 16) z marked) x
    ∙ (ap (λ xs. header (front + place * 16) (word extent) xs) v
    ∙ (ap (λ a. header a (word extent) (with_marks (with_run (16 * place / 16) (granules_of size) (marks_in bytes)) bytes)) at
    ∙ sym (ap (placed_or bytes) (is_placed bytes size signature number place extent marks m n e)))))

-- ---- freeing

kept_part :
    (signature : ℕ) (k : Option Kept) (g : Kept) → of_signature signature k ≡ Some g →
    (k ≡ Some g) × ((g.signature == signature) ≡ true)
kept_part signature None g e = absurd (cc e)
kept_part signature (Some h) g e = by_test (h.signature == signature) refl e
  where
    by_test :
        (t : Bool) → (h.signature == signature) ≡ t → cond t (Some h) None ≡ Some g →
        (Some h ≡ Some g) × ((g.signature == signature) ≡ true)
    by_test true t e = let f : h ≡ g = cc e in (e, subst (λ x. (x.signature == signature) ≡ true) f t)
    by_test false t e = absurd (cc e)

kept_none : (signature : ℕ) (bytes : List ℕ) (k : Option Kept) → of_signature signature k ≡ None → freed_if signature bytes k ≡ None
kept_none signature bytes None e = refl
kept_none signature bytes (Some h) e = by_test (h.signature == signature) e
  where
    by_test : (t : Bool) → cond t (Some h) None ≡ None → cond t (Some (without_generation h bytes)) None ≡ None
    by_test true e = absurd (cc e)
    by_test false e = refl

pub is_freed :
    (bytes : List ℕ) (o signature header : ℕ) → IsSome (granules_area bytes) → IsFound bytes o signature header →
    freed_in o signature bytes (granules_area bytes)
    ≡ Some (with_marks (without_run (o / 16) (suc (insides (drop (suc (o / 16)) (marks_in bytes)))) (marks_in bytes)) bytes)
is_freed bytes o signature header s f =
    let n = suc (insides (drop (suc (o / 16)) (marks_in bytes))) in
    let g = kept_in header o n bytes in
    let gs = placed_in (capacity_in bytes) bytes in
    let x = (opened bytes s).is in
    let k = kept_part signature (kept_at gs o) g (sym (ap (λ a. kept_of o signature a) x) ∙ f.is) in
    ap (λ a. freed_in o signature bytes a) x
    ∙ (ap (freed_if signature bytes) k.0
    ∙ (ap (λ b. cond b (Some (without_generation g bytes)) None) k.1
    ∙ ap (λ j. Some (with_marks (without_run (o / 16) j (marks_in bytes)) bytes)) (granules_fitted _ (insides (drop (suc (o / 16)) (marks_in bytes))))))

pub not_freed :
    (bytes : List ℕ) (o signature : ℕ) → IsSome (granules_area bytes) → kept_of o signature (granules_area bytes) ≡ None →
    freed_in o signature bytes (granules_area bytes) ≡ None
not_freed bytes o signature s e =
    let x = (opened bytes s).is in
    ap (λ a. freed_in o signature bytes a) x
    ∙ kept_none signature bytes (kept_at (placed_in (capacity_in bytes) bytes) o) (sym (ap (λ a. kept_of o signature a) x) ∙ e)

-- ---- copying

pub not_copied :
    (from bytes marks : List ℕ) (number capacity : ℕ) → marks ≡ marks_in from → number ≡ used marks → capacity ≡ capacity_in bytes →
    capacity < number * 16 → granules_copied from bytes ≡ None
not_copied from bytes marks number capacity m n c h =
    let u : number ≡ used (marks_in from) = n ∙ ap used m in
    ap (λ b. cond b (Some (with_copy (used (marks_in from)) from bytes)) None) (le_false (16 * used (marks_in from)) (capacity_in bytes) (omega (arith, h, c, u)))

pub is_copied :
    (from bytes marks : List ℕ) (number capacity : ℕ) → marks ≡ marks_in from → number ≡ used marks → capacity ≡ capacity_in bytes →
    number * 16 ≤ capacity → granules_copied from bytes ≡ Some (with_copy number from bytes)
is_copied from bytes marks number capacity m n c h =
    let u : number ≡ used (marks_in from) = n ∙ ap used m in
    ap (λ b. cond b (Some (with_copy (used (marks_in from)) from bytes)) None) (le_true (16 * used (marks_in from)) (capacity_in bytes) (omega (arith, h, c, u)))
    ∙ ap (λ k. Some (with_copy k from bytes)) (sym u)

pub copied_bytes :
    (from bytes marks marked new : List ℕ) (number capacity source front from_front : ℕ) → marks ≡ marks_in from → number ≡ used marks →
    capacity ≡ capacity_in bytes → source ≡ capacity_in from → number * 16 ≤ capacity → front ≡ front_for capacity →
    from_front ≡ front_for source →
    marked ≡ with_marks (take number (marks_in from) ++ replicate (capacity_in bytes / 16 - number) 0) bytes →
    new ≡ with_part (part from_front (number * 16) from) front marked → new ≡ bytes_or bytes (granules_copied from bytes)
copied_bytes from bytes marks marked new number capacity source front from_front m n c d h f g w r =
    let k : number * 16 ≡ 16 * number = omega arith in
    r
    ∙ (ap (λ x. with_part (part x (number * 16) from) front marked) (g ∙ ap front_for d)
    ∙ (ap (λ x. with_part (part (front_for (capacity_in from)) x from) front marked) k
    ∙ (ap (λ x. with_part (part (front_for (capacity_in from)) (16 * number) from) x marked) (f ∙ ap front_for c)
    ∙ (ap (λ x. with_part (part (front_for (capacity_in from)) (16 * number) from) (front_for (capacity_in bytes)) x) w
    ∙ sym (ap (bytes_or bytes) (is_copied from bytes marks number capacity m n c h))))))

-- ---- capacities

pub capacity_inside :
    (bytes : List ℕ) (capacity : ℕ) → IsSome (granules_area bytes) → capacity ≡ capacity_in bytes →
    front_for capacity + capacity ≤ length bytes
capacity_inside bytes capacity s e =
    let x = opened bytes s in
    subst (λ c. front_for c + c ≤ length bytes) (sym e) (omega (arith, x.as_many))

pub capacity_marks :
    (bytes : List ℕ) (capacity : ℕ) → IsSome (granules_area bytes) → capacity ≡ capacity_in bytes →
    16 * length (marks_in bytes) ≡ capacity
capacity_marks bytes capacity s e =
    let x = opened bytes s in
    omega (arith, x.marks, x.rounded, e)

pub capacity_bounded :
    (bytes : List ℕ) (capacity : ℕ) → IsSome (granules_area bytes) → capacity ≡ capacity_in bytes → capacity ≤ greatest_capacity
capacity_bounded bytes capacity s e =
    let x = opened bytes s in
    omega (arith, x.bounded, e)
