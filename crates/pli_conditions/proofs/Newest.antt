-- Blocks kept oldest first, and seen newest first.
use Rattle.std.proofs.Common.{◌≡◌, ℕ, ◌+◌, ◌-◌, ◌<◌, ◌≤◌, List, [], ◌∷◌, ◌++◌, length, take, drop, get_or, set, refl, sym, ap, ◌∙◌, arith, length-drop}
use Rattle.std.proofs.lemmas.List.{map-append, reverse-append, take-append-drop, drop_at, length-reverse, length-map, length-set, take_more, take_more_set, take_all}
use Rattle.std.specs.Prelude.{Vec}
use Rattle.pli_language.specs.declared.condition.Condition.{Condition}
use Rattle.pli_meaning.specs.StorageState.{without_unit}
use Rattle.pli_conditions.specs.Blocks.{established, reverted, newest_first}

module _ {U A : Type 0} where
  pub newest_first-append : (xs ys : List (Vec (Condition × U) A)) → newest_first (xs ++ ys) ≡ newest_first ys ++ newest_first xs
  newest_first-append xs ys = rw (map-append, reverse-append) refl

  pub length-newest_first : (xs : List (Vec (Condition × U) A)) → length (newest_first xs) ≡ length xs
  length-newest_first xs = rw (length-reverse, length-map) refl

  -- only the oldest blocks stay
  pub newest_first-take : (n : ℕ) (xs : List (Vec (Condition × U) A)) → n ≤ length xs → newest_first (take n xs) ≡ drop (length (newest_first xs) - n) (newest_first xs)
  newest_first-take n xs h =
      let split : newest_first xs ≡ newest_first (drop n xs) ++ newest_first (take n xs) = ap newest_first (sym (take-append-drop n xs)) ∙ newest_first-append (take n xs) (drop n xs) in
      let count : length (newest_first (drop n xs)) ≡ length (newest_first xs) - n = length-newest_first (drop n xs) ∙ (length-drop n xs ∙ ap (λ k. k - n) (sym (length-newest_first xs))) in
      sym (ap (drop (length (newest_first xs) - n)) split ∙ drop_at (newest_first (drop n xs)) (newest_first (take n xs)) (length (newest_first xs) - n) count)

  -- the newest of the first blocks is the one in front
  pub newest_first-more : (xs : List (Vec (Condition × U) A)) (n : ℕ) (d : Vec (Condition × U) A) → n < length xs → newest_first (take (n + 1) xs) ≡ (get_or xs n d).items ∷ newest_first (take n xs)
  newest_first-more xs n d h = ap newest_first (take_more xs n d h) ∙ newest_first-append (take n xs) (get_or xs n d ∷ [])

  -- all blocks but the newest, and the newest
  pub newest_first-split : (xs : List (Vec (Condition × U) A)) (n : ℕ) (d : Vec (Condition × U) A) → n + 1 ≡ length xs → newest_first xs ≡ (get_or xs n d).items ∷ newest_first (take n xs)
  newest_first-split xs n d h = ap newest_first (sym (take_all (n + 1) xs (omega arith))) ∙ newest_first-more xs n d (omega arith)

  -- the newest block is changed
  pub newest_first-set : (xs : List (Vec (Condition × U) A)) (n : ℕ) (b : Vec (Condition × U) A) → n + 1 ≡ length xs → newest_first (set xs n b) ≡ b.items ∷ newest_first (take n xs)
  newest_first-set xs n b h =
      let whole : take (n + 1) (set xs n b) ≡ set xs n b = take_all (n + 1) (set xs n b) (omega (arith, length-set xs n b)) in
      ap newest_first (sym whole ∙ take_more_set xs n b (omega arith)) ∙ newest_first-append (take n xs) (b ∷ [])

  -- where the newest block is d, and the list is seen as `seen`
  set-seen : (xs : List (Vec (Condition × U) A)) (n : ℕ) (d b : Vec (Condition × U) A) (seen : List (List (Condition × U))) (entries : List (Condition × U)) (change : List (List (Condition × U)) → List (List (Condition × U)))
      → n + 1 ≡ length xs → d ≡ get_or xs n d → newest_first xs ≡ seen → b.items ≡ entries → change (d.items ∷ newest_first (take n xs)) ≡ entries ∷ newest_first (take n xs) → newest_first (set xs n b) ≡ change seen
  set-seen xs n d b seen entries change h r v e k =
      newest_first-set xs n b h
      ∙ (ap (λ l. l ∷ newest_first (take n xs)) e
      ∙ (sym k
      ∙ (ap (λ l. change (l.items ∷ newest_first (take n xs))) r
      ∙ ap change (sym (newest_first-split xs n d h) ∙ v))))

  pub established-newest : (xs : List (Vec (Condition × U) A)) (n : ℕ) (d b : Vec (Condition × U) A) (c : Condition) (u : U) (seen : List (List (Condition × U))) → n + 1 ≡ length xs → d ≡ get_or xs n d → newest_first xs ≡ seen → b.items ≡ (c, u) ∷ without_unit c d.items
      → newest_first (set xs n b) ≡ established c u seen
  established-newest xs n d b c u seen h r v e = set-seen xs n d b seen _ (established c u) h r v e refl

  pub reverted-newest : (xs : List (Vec (Condition × U) A)) (n : ℕ) (d b : Vec (Condition × U) A) (c : Condition) (seen : List (List (Condition × U))) → n + 1 ≡ length xs → d ≡ get_or xs n d → newest_first xs ≡ seen → b.items ≡ without_unit c d.items
      → newest_first (set xs n b) ≡ reverted c seen
  reverted-newest xs n d b c seen h r v e = set-seen xs n d b seen _ (reverted c) h r v e refl

  pub same-newest : (xs : List (Vec (Condition × U) A)) (n : ℕ) (d b : Vec (Condition × U) A) (seen : List (List (Condition × U))) → n + 1 ≡ length xs → d ≡ get_or xs n d → newest_first xs ≡ seen → b.items ≡ d.items → newest_first (set xs n b) ≡ seen
  same-newest xs n d b seen h r v e = set-seen xs n d b seen _ (λ l. l) h r v e refl
