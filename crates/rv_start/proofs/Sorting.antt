-- Blocks in the order of their numbers: a list in order is known by what it has of each number, in its own order.
use Rattle.std.proofs.Common.{◌≡◌, ◌≤◌, ℕ, suc, ◌<◌, Bool, true, false, cond, List, [], ◌∷◌, ◌++◌, length, map, get_or, refl, sym, ap, ◌∙◌, arith, append_assoc, append-nil, inl, inr}
use Rattle.std.specs.Prelude.{⊤, nat_lt, ◌==◌, not, ◌&&◌, if◌then◌else◌}
use Rattle.std.specs.List.{filter}
use Rattle.std.specs.List.Sorted.{IsSortedByKey, IsStableByKey, ties, IsNonDecreasingBy}
use Rattle.std.specs.Ordering.{is_lt, nat_cmp}
use Rattle.std.specs.declared.cmp.Ordering.TheVariants.{Less, Equal, Greater}
use Rattle.std.proofs.lemmas.Bool.{ltb-true, ltb-false, lt-ltb, le-ltb, eq-eqb, ne_eqb, cases_order, cases_eq}
use Rattle.std.proofs.lemmas.List.Sorted.{IsNonDecreasingBy-from_sort}
use Rattle.pli_typing.specs.TypedTree as Y
use Rattle.pli_coding.specs.Environments.{BlockPlace}
use Rattle.pli_coding.specs.Images.{blocks_of, blocks_of_procedure, with_block, with_blocks}
use Rattle.rv_address.specs.declared.environment.BlockPlace.{BlockPlace as BlockPlaceHeld}
use Rattle.rv_address.specs.Around.{block_place_of}
use Rattle.rv_start.specs.Gathered.{gathered}

-- ---- order

abbrev AllFrom : ℕ → List BlockPlace → Type 0
AllFrom n [] = ⊤
AllFrom n (b ∷ bs) = (n ≤ b.number) × AllFrom n bs

abbrev IsUp : List BlockPlace → Type 0
IsUp [] = ⊤
IsUp (b ∷ bs) = AllFrom b.number bs × IsUp bs

all_below : (m n : ℕ) (bs : List BlockPlace) → m ≤ n → AllFrom n bs → AllFrom m bs
all_below m n [] le all = tt
all_below m n (b ∷ bs) le all = (omega (arith, all.0), all_below m n bs le all.1)

inserted_from-by : (t : Bool) (n : ℕ) (b c : BlockPlace) (cs more : List BlockPlace) → n ≤ b.number → AllFrom n (c ∷ cs) → AllFrom n more → AllFrom n (if t then b ∷ c ∷ cs else c ∷ more)
inserted_from-by true n b c cs more le all goes = (le, all)
inserted_from-by false n b c cs more le all goes = (all.0, goes)

inserted_from : (n : ℕ) (b : BlockPlace) (cs : List BlockPlace) → n ≤ b.number → AllFrom n cs → AllFrom n (with_block b cs)
inserted_from n b [] le all = (le, tt)
inserted_from n b (c ∷ cs) le all = inserted_from-by (nat_lt b.number c.number) n b c cs (with_block b cs) le all (inserted_from n b cs le all.1)

inserted_up-by : (t : Bool) (b c : BlockPlace) (cs : List BlockPlace) → nat_lt b.number c.number ≡ t → IsUp (c ∷ cs) → IsUp (with_block b cs) → IsUp (if t then b ∷ c ∷ cs else c ∷ with_block b cs)
inserted_up-by true b c cs e up goes =
    let lt = ltb-true b.number c.number e in
    ((omega (arith, lt), all_below b.number c.number cs (omega (arith, lt)) up.0), up)
inserted_up-by false b c cs e up goes = (inserted_from c.number b cs (ltb-false b.number c.number e) up.0, goes)

inserted_up : (b : BlockPlace) (cs : List BlockPlace) → IsUp cs → IsUp (with_block b cs)
inserted_up b [] up = (tt, tt)
inserted_up b (c ∷ cs) up = inserted_up-by (nat_lt b.number c.number) b c cs refl up (inserted_up b cs up.1)

all_inserted_up : (bs all : List BlockPlace) → IsUp all → IsUp (with_blocks bs all)
all_inserted_up [] all up = up
all_inserted_up (b ∷ bs) all up = all_inserted_up bs (with_block b all) (inserted_up b all up)

pub blocks_up : (ps : List Y.Procedure) → IsUp (blocks_of ps)
blocks_up [] = tt
blocks_up (p ∷ ps) = all_inserted_up (blocks_of_procedure p.block) (blocks_of ps) (blocks_up ps)

-- ---- those of a number

abbrev of_number : ℕ → List BlockPlace → List BlockPlace
of_number k [] = []
of_number k (b ∷ bs) = if b.number == k then b ∷ of_number k bs else of_number k bs

of_more : (k : ℕ) (b : BlockPlace) (bs : List BlockPlace) → b.number ≡ k → of_number k (b ∷ bs) ≡ b ∷ of_number k bs
of_more k b bs e = rw (eq-eqb b.number k e) refl

of_other : (k : ℕ) (b : BlockPlace) (bs : List BlockPlace) → (b.number ≡ k → ⊥) → of_number k (b ∷ bs) ≡ of_number k bs
of_other k b bs e = rw (ne_eqb b.number k e) refl

append-by : (t : Bool) (x : BlockPlace) (all as' bs : List BlockPlace) → all ≡ as' ++ bs → (if t then x ∷ all else all) ≡ (if t then x ∷ as' else as') ++ bs
append-by true x all as' bs e = ap (λ u. x ∷ u) e
append-by false x all as' bs e = e

of_append : (k : ℕ) (xs ys : List BlockPlace) → of_number k (xs ++ ys) ≡ of_number k xs ++ of_number k ys
of_append k [] ys = refl
of_append k (x ∷ xs) ys = append-by (x.number == k) x (of_number k (xs ++ ys)) (of_number k xs) (of_number k ys) (of_append k xs ys)

none_of : (k n : ℕ) (bs : List BlockPlace) → k < n → AllFrom n bs → of_number k bs ≡ []
none_of k n [] lt all = refl
none_of k n (b ∷ bs) lt all = of_other k b bs (λ e. absurd (omega (arith, lt, all.0, e))) ∙ none_of k n bs lt all.1

-- a block that is put in its place stands behind those of its number
front-by : (k : ℕ) (b : BlockPlace) (cs : List BlockPlace) → (b.number ≡ k → of_number k cs ≡ []) → of_number k (b ∷ cs) ≡ of_number k cs ++ of_number k (b ∷ [])
front-by k b cs none =
    elim (cases_eq b.number k) [
      | inl e ↦ of_more k b cs e ∙ ap (λ u. b ∷ u) (none e) ∙ sym (ap (λ u. u ++ of_number k (b ∷ [])) (none e) ∙ of_more k b [] e)
      | inr e ↦ of_other k b cs e ∙ sym (append-nil (of_number k cs)) ∙ ap (λ u. of_number k cs ++ u) (sym (of_other k b [] e))
    ]

inserted_of-by : (t : Bool) (k : ℕ) (b c : BlockPlace) (cs : List BlockPlace) → nat_lt b.number c.number ≡ t → IsUp (c ∷ cs) → of_number k (with_block b cs) ≡ of_number k cs ++ of_number k (b ∷ []) → of_number k (if t then b ∷ c ∷ cs else c ∷ with_block b cs) ≡ of_number k (c ∷ cs) ++ of_number k (b ∷ [])
inserted_of-by true k b c cs e up goes =
    let lt = ltb-true b.number c.number e in
    front-by k b (c ∷ cs) (λ is. none_of k c.number (c ∷ cs) (omega (arith, lt, is)) (omega arith, up.0))
inserted_of-by false k b c cs e up goes = append-by (c.number == k) c (of_number k (with_block b cs)) (of_number k cs) (of_number k (b ∷ [])) goes

inserted_of : (k : ℕ) (b : BlockPlace) (cs : List BlockPlace) → IsUp cs → of_number k (with_block b cs) ≡ of_number k cs ++ of_number k (b ∷ [])
inserted_of k b [] up = refl
inserted_of k b (c ∷ cs) up = inserted_of-by (nat_lt b.number c.number) k b c cs refl up (inserted_of k b cs up.1)

all_inserted_of : (k : ℕ) (bs all : List BlockPlace) → IsUp all → of_number k (with_blocks bs all) ≡ of_number k all ++ of_number k bs
all_inserted_of k [] all up = sym (append-nil (of_number k all))
all_inserted_of k (b ∷ bs) all up =
    all_inserted_of k bs (with_block b all) (inserted_up b all up)
    ∙ ap (λ u. u ++ of_number k bs) (inserted_of k b all up)
    ∙ append_assoc (of_number k all) (of_number k (b ∷ [])) (of_number k bs)
    ∙ ap (λ u. of_number k all ++ u) (sym (of_append k (b ∷ []) bs))

blocks_of_number : (k : ℕ) (ps : List Y.Procedure) → of_number k (blocks_of ps) ≡ of_number k (gathered ps)
blocks_of_number k [] = refl
blocks_of_number k (p ∷ ps) =
    all_inserted_of k (blocks_of_procedure p.block) (blocks_of ps) (blocks_up ps)
    ∙ ap (λ u. u ++ of_number k (blocks_of_procedure p.block)) (blocks_of_number k ps)
    ∙ sym (of_append k (gathered ps) (blocks_of_procedure p.block))

-- ---- two lists in order that have the same of each number

first_same : (x y : BlockPlace) (xs ys : List BlockPlace) → x ∷ xs ≡ y ∷ ys → (x ≡ y) × (xs ≡ ys)
first_same x y xs ys e = (cc, cc)

none_same : (x : BlockPlace) (xs : List BlockPlace) → x ∷ xs ≡ [] → ⊥
none_same x xs e = absurd cc

rest-by : (t : Bool) (x y : BlockPlace) (xs ys : List BlockPlace) → (if t then x ∷ xs else xs) ≡ (if t then y ∷ ys else ys) → xs ≡ ys
rest-by true x y xs ys e = (first_same x y xs ys e).1
rest-by false x y xs ys e = e

rest_same : (k : ℕ) (x y : BlockPlace) (xs ys : List BlockPlace) → x.number ≡ y.number → of_number k (x ∷ xs) ≡ of_number k (y ∷ ys) → of_number k xs ≡ of_number k ys
rest_same k x y xs ys n e = rest-by (x.number == k) x y (of_number k xs) (of_number k ys) (e ∙ ap (λ (m : ℕ). if m == k then y ∷ of_number k ys else of_number k ys) (sym n))

lower_first : (x y : BlockPlace) (xs ys : List BlockPlace) → x.number < y.number → AllFrom y.number ys → of_number x.number (x ∷ xs) ≡ of_number x.number (y ∷ ys) → ⊥
lower_first x y xs ys lt all e =
    none_same x (of_number x.number xs) (sym (of_more x.number x xs refl) ∙ e ∙ none_of x.number y.number (y ∷ ys) lt (omega arith, all))

same : (xs ys : List BlockPlace) → IsUp xs → IsUp ys → ((k : ℕ) → of_number k xs ≡ of_number k ys) → xs ≡ ys
same [] [] u v all = refl
same [] (y ∷ ys) u v all = absurd (none_same y (of_number y.number ys) (sym (of_more y.number y ys refl) ∙ sym (all y.number)))
same (x ∷ xs) [] u v all = absurd (none_same x (of_number x.number xs) (sym (of_more x.number x xs refl) ∙ all x.number))
same (x ∷ xs) (y ∷ ys) u v all =
    elim (cases_order x.number y.number) [
      | inl n ↦
          let here = first_same x y (of_number x.number xs) (of_number x.number ys) (sym (of_more x.number x xs refl) ∙ all x.number ∙ of_more x.number y ys (sym n)) in
          ap (λ b. b ∷ xs) here.0 ∙ ap (λ bs. y ∷ bs) (same xs ys u.1 v.1 (λ k. rest_same k x y xs ys n (all k)))
      | inr other ↦
          elim other [
            | inl lt ↦ absurd (lower_first x y xs ys lt v.0 (all x.number))
            | inr lt ↦ absurd (lower_first y x ys xs lt u.0 (sym (all y.number)))
          ]
    ]

-- ---- what a stable sort by the number gives

abbrev number : BlockPlaceHeld → ℕ
number b = b.number

all_from_held : (n : ℕ) (xs : List BlockPlaceHeld) → ((j : ℕ) (d : BlockPlaceHeld) → j < length xs → n ≤ number (get_or xs j d)) → AllFrom n (map block_place_of xs)
all_from_held n [] h = tt
all_from_held n (x ∷ xs) h = (h 0 x (omega arith), all_from_held n xs (λ j d lt. h (suc j) d (omega (arith, lt))))

up_held : (xs : List BlockPlaceHeld) → IsNonDecreasingBy number xs → IsUp (map block_place_of xs)
up_held [] h = tt
up_held (x ∷ xs) h =
    (all_from_held x.number xs (λ j d lt. h 0 (suc j) d (omega arith) (omega (arith, lt))), up_held xs (λ i j d le lt. h (suc i) (suc j) d (omega (arith, le)) (omega (arith, lt))))

less-by : (t s : Bool) → is_lt (cond t Less (cond s Equal Greater)) ≡ t
less-by true s = refl
less-by false true = refl
less-by false false = refl

less_is : (m n : ℕ) → is_lt (nat_cmp m n) ≡ nat_lt m n
less_is m n = less-by (nat_lt m n) (m == n)

ties_are : (m n : ℕ) → (not (nat_lt m n) && not (nat_lt n m)) ≡ (n == m)
ties_are m n =
    elim (cases_order m n) [
      | inl e ↦ rw (le-ltb m n (omega (arith, e)), le-ltb n m (omega (arith, e)), eq-eqb n m (sym e)) refl
      | inr other ↦
          elim other [
            | inl lt ↦ rw (lt-ltb m n lt, ne_eqb n m (λ e. absurd (omega (arith, lt, e)))) refl
            | inr lt ↦ rw (le-ltb m n (omega (arith, lt)), lt-ltb n m lt, ne_eqb n m (λ e. absurd (omega (arith, lt, e)))) refl
          ]
    ]

held-by : (t : Bool) (x : BlockPlaceHeld) (some all : List BlockPlaceHeld) (shown : List BlockPlace) → map block_place_of some ≡ shown → map block_place_of (cond t (x ∷ some) some) ≡ (if t then block_place_of x ∷ shown else shown)
held-by true x some all shown e = ap (λ u. block_place_of x ∷ u) e
held-by false x some all shown e = e

ties_test : (x y : BlockPlaceHeld) → ties (λ a b. is_lt (nat_cmp (number a) (number b))) x y ≡ (y.number == x.number)
ties_test x y = rw (less_is x.number y.number, less_is y.number x.number) (ties_are x.number y.number)

held_of : (x : BlockPlaceHeld) (ys : List BlockPlaceHeld) → map block_place_of (filter (ties (λ a b. is_lt (nat_cmp (number a) (number b))) x) ys) ≡ of_number x.number (map block_place_of ys)
held_of x [] = refl
held_of x (y ∷ ys) =
    let tied : List BlockPlaceHeld = filter (ties (λ a b. is_lt (nat_cmp (number a) (number b))) x) ys in
    ap (λ (t : Bool). map block_place_of (cond t (y ∷ tied) tied)) (ties_test x y) ∙ held-by (y.number == x.number) y tied ys (of_number x.number (map block_place_of ys)) (held_of x ys)

pub blocks_sorted : (ps : List Y.Procedure) (xs ys : List BlockPlaceHeld) → map block_place_of xs ≡ gathered ps → IsSortedByKey number nat_cmp ys → IsStableByKey number nat_cmp xs ys → map block_place_of ys ≡ blocks_of ps
blocks_sorted ps xs ys e up stable =
    let of_each : (k : ℕ) → of_number k (map block_place_of ys) ≡ of_number k (blocks_of ps) = λ k.
    let x : BlockPlaceHeld = record { number = k; level = 0 } in
    sym (held_of x ys) ∙ ap (map block_place_of) (stable x) ∙ held_of x xs ∙ ap (of_number k) e ∙ sym (blocks_of_number k ps) in
    same (map block_place_of ys) (blocks_of ps) (up_held ys (IsNonDecreasingBy-from_sort number ys up)) (blocks_up ps) of_each
