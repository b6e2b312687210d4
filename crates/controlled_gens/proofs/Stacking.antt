-- One variable's generations among those of all, before and after they change.
use Rattle.std.proofs.Common.{◌≡◌, ℕ, zero, suc, ◌+◌, ◌-◌, ◌<◌, ◌≤◌, List, [], ◌∷◌, ◌++◌, length, map, get_or, set, replicate, Option, Result, refl, sym, ap, ◌∙◌, subst, append_assoc, arith, length-append}
use Rattle.std.proofs.lemmas.List.{map-set, get_or-map, get_or-set_same, get_or_append_left, get_or-append_right, set-append_left, set-get_or, length-map, length-set, length-replicate, replicate-append-replicate, append-nil}
use Rattle.controlled_gens.specs.declared.fault.GenFault.{GenFault}
use Rattle.controlled_gens.specs.declared.controlled.Generation.{Generation}
use Rattle.controlled_gens.specs.Stacks.{filled_up, generations_of, with_generations, IsFilled, IsPushed, IsPopped}

-- ---- more variables without generations

pub filled_longer : (n : ℕ) (stacks more : List (List Generation)) → IsFilled stacks more → length more ≤ n → filled_up n more ≡ filled_up n stacks
filled_longer n stacks more h within =
    let a = length more - length stacks in
    let b = n - length more in
    let all : a + b ≡ n - length stacks = omega (arith, h.0, within) in
    ap (λ s. s ++ replicate b []) h.1
    ∙ (append_assoc stacks (replicate a []) (replicate b [])
    ∙ ap (λ s. stacks ++ s) (replicate-append-replicate a b [] ∙ ap (λ k. replicate k []) all))

pub filled_none : (stacks : List (List Generation)) → IsFilled stacks stacks
filled_none stacks =
    let none : length stacks - length stacks ≡ 0 = omega arith in
    (omega arith, sym (ap (λ k. stacks ++ replicate k []) none ∙ append-nil stacks))

filled_once : (stacks more next : List (List Generation)) → IsFilled stacks more → next ≡ more ++ [] ∷ [] → IsFilled stacks next
filled_once stacks more next h e =
    let one : length next ≡ length more + 1 = ap length e ∙ length-append more ([] ∷ []) in
    let a = length more - length stacks in
    let all : a + 1 ≡ length next - length stacks = omega (arith, h.0, one) in (
      omega (arith, h.0, one),
      e ∙ (ap (λ s. s ++ [] ∷ []) h.1
          ∙ (append_assoc stacks (replicate a []) ([] ∷ [])
          ∙ ap (λ s. stacks ++ s) (replicate-append-replicate a 1 [] ∙ ap (λ k. replicate k []) all))),
    )

map_more : {V : Type 0} (f : V → List Generation) (items : List V) (v : V) → map f (items ++ v ∷ []) ≡ map f items ++ f v ∷ []
map_more f [] v = refl
map_more f (w ∷ ws) v = ap (λ gs. f w ∷ gs) (map_more f ws v)

-- one stack more, without generations
pub filled_by_one :
    {V : Type 0} (f : V → List Generation) (start items next : List V) (v : V) → IsFilled (map f start) (map f items) →
    next ≡ items ++ v ∷ [] → f v ≡ [] → IsFilled (map f start) (map f next)
filled_by_one f start items next v h e n =
    filled_once (map f start) (map f items) (map f next) h (ap (map f) e ∙ (map_more f items v ∙ ap (λ g. map f items ++ g ∷ []) n))

pub one_more : {V : Type 0} (items next : List V) (v : V) → next ≡ items ++ v ∷ [] → length next ≡ length items + 1
one_more items next v e = ap length e ∙ length-append items (v ∷ [])

filled_past : (n i : ℕ) (stacks : List (List Generation)) → length stacks ≤ i → generations_of (filled_up n stacks) i ≡ []
filled_past n i stacks h =
    get_or-append_right stacks (replicate (n - length stacks) []) (length stacks) i [] refl h ∙ none_in (n - length stacks) (i - length stacks)
  where
    none_in : (k m : ℕ) → get_or {A = List Generation} (replicate k []) m [] ≡ []
    none_in zero zero = refl
    none_in zero (suc m) = refl
    none_in (suc k) zero = refl
    none_in (suc k) (suc m) = none_in k m

pub length_filled : (n : ℕ) (stacks : List (List Generation)) → length stacks ≤ n → length (filled_up n stacks) ≡ n
length_filled n stacks h =
    let l = length-append stacks (replicate (n - length stacks) []) in
    let k = length-replicate {A = List Generation} (n - length stacks) [] in
    omega (arith, l, k, h)

-- a variable behind those that have stacks has no generation
pub none_there : (n i : ℕ) (stacks old : List (List Generation)) → filled_up n stacks ≡ old → length stacks ≤ i → generations_of old i ≡ []
none_there n i stacks old e h = ap (λ o. generations_of o i) (sym e) ∙ filled_past n i stacks h

pub as_it_was : (i : ℕ) (old : List (List Generation)) → old ≡ with_generations i (generations_of old i) old
as_it_was i old = sym (set-get_or old i [])

-- ---- a variable that has a stack

module _ {V : Type 0} (f : V → List Generation) (items : List V) (n i : ℕ) (old : List (List Generation)) where
  inside : i < length items → i < length (map f items)
  inside h = let l = length-map items f in omega (arith, l, h)

  pub stack_old : (now : V) → now ≡ get_or items i now → filled_up n (map f items) ≡ old → i < length items → f now ≡ generations_of old i
  stack_old now is e h =
      ap f is
      ∙ (sym (get_or-map f items i now [] h)
      ∙ (sym (get_or_append_left (map f items) (replicate (n - length (map f items)) []) [] i (inside h))
      ∙ ap (λ o. generations_of o i) e))

  -- as many are filled up
  set_filled : (new : V) → i < length items → filled_up n (map f (set items i new)) ≡ set (filled_up n (map f items)) i (f new)
  set_filled new h =
      let count : length (map f (set items i new)) ≡ length (map f items) =
      length-map (set items i new) f ∙ (length-set items i new ∙ sym (length-map items f)) in
      ap (λ k. map f (set items i new) ++ replicate (n - k) []) count
      ∙ (ap (λ s. s ++ replicate (n - length (map f items)) []) (map-set f items i new)
      ∙ sym (set-append_left (map f items) (replicate (n - length (map f items)) []) i (f new) (inside h)))

  filled_inside : i < length items → i < length (filled_up n (map f items))
  filled_inside h =
      let l = length-append (map f items) (replicate (n - length (map f items)) []) in
      let k = inside h in
      omega (arith, l, k)

  pub stack_new : (new : V) → i < length items → f new ≡ generations_of (filled_up n (map f (set items i new))) i
  stack_new new h =
      sym (ap (λ o. generations_of o i) (set_filled new h) ∙ get_or-set_same (filled_up n (map f items)) i (f new) [] (filled_inside h))

  pub stack_others :
      (new : V) → filled_up n (map f items) ≡ old → i < length items →
      filled_up n (map f (set items i new)) ≡ with_generations i (generations_of (filled_up n (map f (set items i new))) i) old
  stack_others new e h =
      set_filled new h
      ∙ (ap (λ x. set (filled_up n (map f items)) i x) (stack_new new h)
      ∙ ap (λ o. set o i (generations_of (filled_up n (map f (set items i new))) i)) e)

  pub stack_count : (new : V) → filled_up n (map f items) ≡ old → i < length items → length (filled_up n (map f (set items i new))) ≡ length old
  stack_count new e h =
      ap length (set_filled new h) ∙ (length-set (filled_up n (map f items)) i (f new) ∙ ap length e)

pub pushed_at :
    (placed : Option (ℕ × List ℕ)) (signature : ℕ) (a b x y : List Generation) (heap heap_after : List ℕ) (r : Result ℕ GenFault) →
    a ≡ x → b ≡ y → IsPushed placed signature a b heap heap_after r → IsPushed placed signature x y heap heap_after r
pushed_at placed signature a b x y heap heap_after r e f p =
    subst (λ k. IsPushed placed signature k y heap heap_after r) e (subst (λ k. IsPushed placed signature a k heap heap_after r) f p)

-- what is freed is asked of the same generations
pub popped_at :
    (freed : List Generation → Option (List ℕ)) (a b x y : List Generation) (heap heap_after : List ℕ) (r : Result (Unit {0}) GenFault) →
    a ≡ x → b ≡ y → IsPopped (freed a) a b heap heap_after r → IsPopped (freed x) x y heap heap_after r
popped_at freed a b x y heap heap_after r e f p =
    subst (λ k. IsPopped (freed k) k y heap heap_after r) e (subst (λ k. IsPopped (freed a) a k heap heap_after r) f p)
