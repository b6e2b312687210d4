-- Qualifiers and names, from the last to the first.
use Rattle.std.proofs.Common.{◌≡◌, ◌<◌, ◌≤◌, ◌+◌, ◌-◌, Bool, true, false, List, [], ◌∷◌, ◌++◌, ℕ, zero, suc, refl, sym, ap, ◌∙◌, arith, length, take, get_or, map, Bor, eqb}
use Rattle.std.proofs.lemmas.List.{map-append, take_all}
use Rattle.std.proofs.lemmas.Bool.Decides.{nat_tests}
use Rattle.pli_declare.specs.Among.{letters_of}
use Rattle.pli_declare.proofs.Chains.{take_here}
use Rattle.std.specs.Prelude.{if◌then◌else◌, ◌&&◌}
use Rattle.pli_language.specs.Keywords.{same_bytes}
use Rattle.pli_language.specs.Means.{is_part, same_names}

abbrev if_found : Bool → Bool → Bool → Bool
if_found t a b = if t then a else b

-- some qualifier is no part of nothing
pub part_left : (qs : List (List ℕ)) (q : List ℕ) → is_part (qs ++ q ∷ []) [] ≡ false
part_left [] q = refl
part_left (p ∷ ps) q = refl

same_answer : (t : Bool) (x : Bool) → if_found t x x ≡ x
same_answer true x = refl
same_answer false x = refl

swap_tests : (s t a b c d : Bool) → if_found s (if_found t a b) (if_found t c d) ≡ if_found t (if_found s a c) (if_found s b d)
swap_tests true true a b c d = refl
swap_tests true false a b c d = refl
swap_tests false true a b c d = refl
swap_tests false false a b c d = refl

-- the last qualifier is the last name, or stands before it
pub part_last : (qs : List (List ℕ)) (q : List ℕ) (ns : List (List ℕ)) (n : List ℕ) → is_part (qs ++ q ∷ []) (ns ++ n ∷ []) ≡ if_found (same_bytes q n) (is_part qs ns) (is_part (qs ++ q ∷ []) ns)
part_last [] q [] n = refl
part_last (p ∷ ps) q [] n =
    ap (λ t. if_found (same_bytes p n) t false) (part_left ps q) ∙ same_answer (same_bytes p n) false ∙ sym (same_answer (same_bytes q n) false)
part_last [] q (m ∷ ms) n =
    ap (λ t. if_found (same_bytes q m) true t) (part_last [] q ms n) ∙ go (same_bytes q m) (same_bytes q n)
  where
    go : (s t : Bool) → if_found s true (if_found t true (is_part (q ∷ []) ms)) ≡ if_found t true (if_found s true (is_part (q ∷ []) ms))
    go true true = refl
    go true false = refl
    go false true = refl
    go false false = refl
part_last (p ∷ ps) q (m ∷ ms) n =
    ap (λ t. if_found (same_bytes p m) t (is_part (p ∷ ps ++ q ∷ []) (ms ++ n ∷ []))) (part_last ps q ms n)
    ∙ ap (if_found (same_bytes p m) (if_found (same_bytes q n) (is_part ps ms) (is_part (ps ++ q ∷ []) ms))) (part_last (p ∷ ps) q ms n)
    ∙ swap_tests (same_bytes p m) (same_bytes q n) (is_part ps ms) (is_part (ps ++ q ∷ []) ms) (is_part (p ∷ ps) ms) (is_part (p ∷ ps ++ q ∷ []) ms)

pub part_yes : (qs : List (List ℕ)) (q : List ℕ) (ns : List (List ℕ)) (n : List ℕ) → same_bytes q n ≡ true → is_part (qs ++ q ∷ []) (ns ++ n ∷ []) ≡ is_part qs ns
part_yes qs q ns n h = part_last qs q ns n ∙ ap (λ t. if_found t (is_part qs ns) (is_part (qs ++ q ∷ []) ns)) h

pub part_no : (qs : List (List ℕ)) (q : List ℕ) (ns : List (List ℕ)) (n : List ℕ) → same_bytes q n ≡ false → is_part (qs ++ q ∷ []) (ns ++ n ∷ []) ≡ is_part (qs ++ q ∷ []) ns
part_no qs q ns n h = part_last qs q ns n ∙ ap (λ t. if_found t (is_part qs ns) (is_part (qs ++ q ∷ []) ns)) h

-- ---- all names

no_names : (qs : List (List ℕ)) (q : List ℕ) → same_names (qs ++ q ∷ []) [] ≡ false
no_names [] q = refl
no_names (p ∷ ps) q = refl

pub no_qualifiers : (ns : List (List ℕ)) (n : List ℕ) → same_names [] (ns ++ n ∷ []) ≡ false
no_qualifiers [] n = refl
no_qualifiers (m ∷ ms) n = refl

and_false : (t : Bool) → (t && false) ≡ false
and_false true = refl
and_false false = refl

and_true : (t : Bool) → t ≡ (t && true)
and_true true = refl
and_true false = refl

and_swap : (s t u : Bool) → (s && (t && u)) ≡ (t && (s && u))
and_swap true true u = refl
and_swap true false u = refl
and_swap false true u = refl
and_swap false false u = refl

pub same_last : (qs : List (List ℕ)) (q : List ℕ) (ns : List (List ℕ)) (n : List ℕ) → same_names (qs ++ q ∷ []) (ns ++ n ∷ []) ≡ (same_bytes q n && same_names qs ns)
same_last [] q [] n = refl
same_last (p ∷ ps) q [] n = ap (λ t. same_bytes p n && t) (no_names ps q) ∙ and_false (same_bytes p n) ∙ sym (and_false (same_bytes q n))
same_last [] q (m ∷ ms) n = ap (λ t. same_bytes q m && t) (no_qualifiers ms n) ∙ and_false (same_bytes q m) ∙ sym (and_false (same_bytes q n))
same_last (p ∷ ps) q (m ∷ ms) n =
    ap (λ t. same_bytes p m && t) (same_last ps q ms n) ∙ and_swap (same_bytes p m) (same_bytes q n) (same_names ps ms)

pub same_on : (qs : List (List ℕ)) (q : List ℕ) (ns : List (List ℕ)) (n : List ℕ) → same_bytes q n ≡ true → same_names (qs ++ q ∷ []) (ns ++ n ∷ []) ≡ same_names qs ns
same_on qs q ns n h = same_last qs q ns n ∙ ap (λ t. t && same_names qs ns) h

pub same_off : (qs : List (List ℕ)) (q : List ℕ) (ns : List (List ℕ)) (n : List ℕ) → same_bytes q n ≡ false → same_names (qs ++ q ∷ []) (ns ++ n ∷ []) ≡ false
same_off qs q ns n h = same_last qs q ns n ∙ ap (λ t. t && same_names qs ns) h

-- ---- qualifiers by their number

nobody : Bor (List ℕ)
nobody = record { ref_ptr = (0, 0); now = [] }

got : (qs : List (Bor (List ℕ))) (i : ℕ) (d : Bor (List ℕ)) → i < length qs → get_or qs i d ≡ get_or qs i (get_or qs i d)
got [] i d h = absurd (omega (arith, h))
got (q ∷ qs) zero d h = refl
got (q ∷ qs) (suc i) d h = let k : i < length qs = omega (arith, h) in got qs i d k

-- the qualifiers up to one of them
last_of : (qs : List (Bor (List ℕ))) (left : ℕ) (d : Bor (List ℕ)) → 0 < left → left ≤ length qs → letters_of (take left qs) ≡ letters_of (take (left - 1) qs) ++ (get_or qs (left - 1) d).now ∷ []
last_of qs left d some within =
    let before : left - 1 < length qs = omega (arith, some, within) in
    let again : left ≡ left - 1 + 1 = omega (arith, some) in
    ap (λ n. letters_of (take n qs)) again ∙ take_here (λ (q : Bor (List ℕ)). q.now) qs (left - 1) (get_or qs (left - 1) d) before (got qs (left - 1) d before)

pub found_on : (qs : List (Bor (List ℕ))) (left : ℕ) (d : Bor (List ℕ)) (n : List ℕ) (ns : List (List ℕ)) → 0 < left → left ≤ length qs → same_bytes (get_or qs (left - 1) d).now n ≡ true → is_part (letters_of (take (left - 1) qs)) ns ≡ is_part (letters_of (take left qs)) (ns ++ n ∷ [])
found_on qs left d n ns some within h =
    sym (ap (λ u. is_part u (ns ++ n ∷ [])) (last_of qs left d some within) ∙ part_yes (letters_of (take (left - 1) qs)) (get_or qs (left - 1) d).now ns n h)

pub found_off : (qs : List (Bor (List ℕ))) (left : ℕ) (d : Bor (List ℕ)) (n : List ℕ) (ns : List (List ℕ)) → 0 < left → left ≤ length qs → same_bytes (get_or qs (left - 1) d).now n ≡ false → is_part (letters_of (take left qs)) ns ≡ is_part (letters_of (take left qs)) (ns ++ n ∷ [])
found_off qs left d n ns some within h =
    ap (λ u. is_part u ns) (last_of qs left d some within)
    ∙ sym (ap (λ u. is_part u (ns ++ n ∷ [])) (last_of qs left d some within) ∙ part_no (letters_of (take (left - 1) qs)) (get_or qs (left - 1) d).now ns n h)

pub full_on : (qs : List (Bor (List ℕ))) (left : ℕ) (d : Bor (List ℕ)) (n : List ℕ) (ns : List (List ℕ)) → 0 < left → left ≤ length qs → same_bytes (get_or qs (left - 1) d).now n ≡ true → same_names (letters_of (take (left - 1) qs)) ns ≡ same_names (letters_of (take left qs)) (ns ++ n ∷ [])
full_on qs left d n ns some within h =
    sym (ap (λ u. same_names u (ns ++ n ∷ [])) (last_of qs left d some within) ∙ same_on (letters_of (take (left - 1) qs)) (get_or qs (left - 1) d).now ns n h)

pub full_off : (qs : List (Bor (List ℕ))) (left : ℕ) (d : Bor (List ℕ)) (n : List ℕ) (ns : List (List ℕ)) → 0 < left → left ≤ length qs → same_bytes (get_or qs (left - 1) d).now n ≡ false → same_names (letters_of (take left qs)) (ns ++ n ∷ []) ≡ false
full_off qs left d n ns some within h =
    ap (λ u. same_names u (ns ++ n ∷ [])) (last_of qs left d some within) ∙ same_off (letters_of (take (left - 1) qs)) (get_or qs (left - 1) d).now ns n h

pub part_end : (qs : List (Bor (List ℕ))) (left : ℕ) → left ≤ length qs → eqb left 0 ≡ is_part (letters_of (take left qs)) []
part_end qs left within = go (eqb left 0) refl
  where
    go : (t : Bool) → eqb left 0 ≡ t → t ≡ is_part (letters_of (take left qs)) []
    go true e = let none : left ≡ 0 = grind (arith, nat_tests, e) in ap (λ n. is_part (letters_of (take n qs)) []) (sym none)
    go false e =
        let some : 0 < left = grind (arith, nat_tests, e) in
        sym (ap (λ u. is_part u []) (last_of qs left nobody some within) ∙ part_left (letters_of (take (left - 1) qs)) (get_or qs (left - 1) nobody).now)

pub full_end : (qs : List (Bor (List ℕ))) (left : ℕ) → left ≤ length qs → eqb left 0 ≡ same_names (letters_of (take left qs)) []
full_end qs left within = go (eqb left 0) refl
  where
    go : (t : Bool) → eqb left 0 ≡ t → t ≡ same_names (letters_of (take left qs)) []
    go true e = let none : left ≡ 0 = grind (arith, nat_tests, e) in ap (λ n. same_names (letters_of (take n qs)) []) (sym none)
    go false e =
        let some : 0 < left = grind (arith, nat_tests, e) in
        sym (ap (λ u. same_names u []) (last_of qs left nobody some within) ∙ no_names (letters_of (take (left - 1) qs)) (get_or qs (left - 1) nobody).now)

pub part_none : (qs : List (Bor (List ℕ))) (left : ℕ) (ns : List (List ℕ)) → left ≡ 0 → is_part (letters_of (take left qs)) ns ≡ true
part_none qs left ns e = ap (λ n. is_part (letters_of (take n qs)) ns) e

pub full_none : (qs : List (Bor (List ℕ))) (left : ℕ) (n : List ℕ) (ns : List (List ℕ)) → left ≡ 0 → same_names (letters_of (take left qs)) (ns ++ n ∷ []) ≡ false
full_none qs left n ns e = ap (λ k. same_names (letters_of (take k qs)) (ns ++ n ∷ [])) e ∙ no_qualifiers ns n

-- no names
pub part_nothing : (qs : List (Bor (List ℕ))) → eqb (length qs) 0 ≡ is_part (letters_of qs) []
part_nothing qs =
    let all : length qs ≤ length qs = omega arith in
    part_end qs (length qs) all ∙ ap (λ u. is_part (letters_of u) []) (take_all (length qs) qs all)

pub full_nothing : (qs : List (Bor (List ℕ))) → eqb (length qs) 0 ≡ same_names (letters_of qs) []
full_nothing qs =
    let all : length qs ≤ length qs = omega arith in
    full_end qs (length qs) all ∙ ap (λ u. same_names (letters_of u) []) (take_all (length qs) qs all)

-- the last name
pub part_first : (qs : List (Bor (List ℕ))) (left result : ℕ) (n : List ℕ) (target : Bool) → result ≤ length qs → ((ns : List (List ℕ)) → is_part (letters_of (take result qs)) ns ≡ is_part (letters_of (take left qs)) (ns ++ n ∷ [])) → is_part (letters_of (take left qs)) (n ∷ []) ≡ target → eqb result 0 ≡ target
part_first qs left result n target within step h = part_end qs result within ∙ step [] ∙ h

-- one name
pub full_one : (qs : List (Bor (List ℕ))) (left : ℕ) (d : Bor (List ℕ)) (n : List ℕ) → left ≤ length qs → (eqb left 1 && same_bytes (get_or qs 0 d).now n) ≡ same_names (letters_of (take left qs)) (n ∷ [])
full_one qs left d n within = go (eqb left 0) refl (eqb left 1) refl
  where
    go : (s : Bool) → eqb left 0 ≡ s → (t : Bool) → eqb left 1 ≡ t → (eqb left 1 && same_bytes (get_or qs 0 d).now n) ≡ same_names (letters_of (take left qs)) (n ∷ [])
    go true e t f =
        let none : left ≡ 0 = grind (arith, nat_tests, e) in
        let other : eqb left 1 ≡ false = grind (arith, nat_tests, none) in
        ap (λ t. t && same_bytes (get_or qs 0 d).now n) other ∙ sym (ap (λ k. same_names (letters_of (take k qs)) (n ∷ [])) none)
    go false e true f =
        let some : 0 < left = grind (arith, nat_tests, e) in
        let first : left - 1 ≡ 0 = grind (arith, nat_tests, f) in
        ap (λ t. t && same_bytes (get_or qs 0 d).now n) f
        ∙ and_true (same_bytes (get_or qs 0 d).now n)
        ∙ sym (ap (λ u. same_names u (n ∷ [])) (last_of qs left d some within)
        ∙ same_last (letters_of (take (left - 1) qs)) (get_or qs (left - 1) d).now [] n
        ∙ ap (λ k. same_bytes (get_or qs k d).now n && same_names (letters_of (take k qs)) []) first)
    go false e false f =
        let some : 0 < left = grind (arith, nat_tests, e) in
        let more : 0 < left - 1 = grind (arith, nat_tests, e, f) in
        let inside : left - 1 ≤ length qs = omega (arith, within) in
        let none : same_names (letters_of (take (left - 1) qs)) [] ≡ false =
        ap (λ u. same_names u []) (last_of qs (left - 1) d more inside) ∙ no_names (letters_of (take (left - 1 - 1) qs)) (get_or qs (left - 1 - 1) d).now in
        ap (λ t. t && same_bytes (get_or qs 0 d).now n) f
        ∙ sym (ap (λ u. same_names u (n ∷ [])) (last_of qs left d some within)
        ∙ same_last (letters_of (take (left - 1) qs)) (get_or qs (left - 1) d).now [] n
        ∙ ap (λ t. same_bytes (get_or qs (left - 1) d).now n && t) none
        ∙ and_false (same_bytes (get_or qs (left - 1) d).now n))

pub ruleset parts = (part_first, part_nothing, full_nothing, full_one, part_none, full_none, take_all, full_on, full_off, part_end, full_end, no_qualifiers, map-append)
