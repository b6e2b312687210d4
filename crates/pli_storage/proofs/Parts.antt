-- Parts of lists, as far as these reach.
use Rattle.std.proofs.Common.{◌≡◌, ℕ, ◌+◌, ◌-◌, ◌≤◌, List, [], ◌++◌, length, take, drop, Option, Some, None, Bool, true, false, refl, sym, ap, ◌∙◌, arith, length-drop}
use Rattle.std.specs.Prelude.{min, nat_le}
use Rattle.std.proofs.lemmas.Bool.Decides.{nat_tests}
use Rattle.std.proofs.lemmas.List.{append-nil, drop-drop, nil_from_length, take-append-drop, take_all, take_min}
use Rattle.std.proofs.Math.Seq.{take-length}
use Rattle.std.proofs.Math.ListN.{drop_of_length-le}
use Rattle.area_heap.specs.Answers.{bytes_or}
use Rattle.pli_storage.specs.Areas.{written_or}
use Rattle.std.proofs.lemmas.Grind.{common_steps}
use Rattle.pli_serving.specs.Bytes.{bytes_at, with_bytes}

drop_short : (xs : List ℕ) (at : ℕ) → drop (min at (length xs)) xs ≡ drop at xs
drop_short xs at = grind (arith, common_steps)

take_short : (xs : List ℕ) (count : ℕ) → take (min count (length xs)) xs ≡ take count xs
take_short xs count = grind (arith, common_steps)

pub cut_short : (xs : List ℕ) (at count : ℕ) → take (min count (length (drop (min at (length xs)) xs))) (drop (min at (length xs)) xs) ≡ bytes_at count at xs
cut_short xs at count = rw drop_short (take_short (drop at xs) count)

-- ---- an area's bytes as far as memory reaches

pub reached : (m : List ℕ) (at count : ℕ) → bytes_at (min count (length m - min at (length m))) (min at (length m)) m ≡ bytes_at count at m
reached m at count =
    let rest : length (drop (min at (length m)) m) ≡ length m - min at (length m) = length-drop (min at (length m)) m in
    rw (sym rest) (take_min count (drop (min at (length m)) m) ∙ ap (take count) (drop_short m at))

pub put_reached : (m : List ℕ) (at : ℕ) (new : List ℕ) → min at (length m) + length new ≤ length m → with_bytes new (min at (length m)) m ≡ with_bytes new at m
put_reached m at new h = by_test (nat_le at (length m)) refl
  where
    by_test : (t : Bool) → nat_le at (length m) ≡ t → with_bytes new (min at (length m)) m ≡ with_bytes new at m
    by_test true t =
        let within : at ≤ length m = grind (arith, nat_tests) in
        let e : min at (length m) ≡ at = omega arith in
        rw e refl
    by_test false t =
        let behind : length m ≤ at = grind (arith, nat_tests) in
        let e : min at (length m) ≡ length m = omega arith in
        let none : new ≡ [] = nil_from_length new (omega (arith, h, e)) in
        let left : take (length m) m ++ ([] ++ drop (length m + 0) m) ≡ m = rw (take-length, drop_of_length-le m {i = length m + 0} (omega arith)) (append-nil m) in
        let right : take at m ++ ([] ++ drop (at + 0) m) ≡ m = rw (take_all at m behind, drop_of_length-le m {i = at + 0} (omega (arith, behind))) (append-nil m) in
        rw (e, none) (left ∙ sym right)

-- ---- what is written back

put_back : (m : List ℕ) (at count : ℕ) → at + count ≤ length m → take at m ++ (bytes_at count at m ++ drop (at + count) m) ≡ m
put_back m at count h =
    rw (sym (drop-drop count at m)) (ap (λ rest. take at m ++ rest) (take-append-drop count (drop at m)) ∙ take-append-drop at m)

pub put_or : (m : List ℕ) (at count : ℕ) (new : List ℕ) (o : Option (List ℕ)) → at + count ≤ length m → length new ≡ count → new ≡ bytes_or (bytes_at count at m) o → take at m ++ (new ++ drop (at + count) m) ≡ written_or at m o
put_or m at count new None h l e = ap (λ b. take at m ++ (b ++ drop (at + count) m)) e ∙ put_back m at count h
put_or m at count new (Some b) h l e = rw (sym l, sym e) refl
