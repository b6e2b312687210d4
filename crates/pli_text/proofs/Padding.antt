-- Texts that are compared: one pads the shorter one.
use Rattle.std.proofs.Common.{◌≡◌, ℕ, ◌≤◌, List, [], ◌∷◌, length, drop, refl, sym, ap, ◌∙◌, arith}
use Rattle.std.specs.declared.cmp.Ordering.{Ordering}
use Rattle.std.specs.declared.cmp.Ordering.TheVariants.{Less, Equal, Greater}
use Rattle.std.specs.Ordering.{nat_cmp, ordering_then, ordering_reverse}
use Rattle.std.proofs.lemmas.Bool.Decides.{nat_tests}
use Rattle.std.proofs.lemmas.List.{drop_all}
use Rattle.pli_meaning.specs.Texts.{text_order}

-- a shorter left text, by the order of the right one against blanks
reverse-then : (o p : Ordering) → ordering_reverse (ordering_then o p) ≡ ordering_then (ordering_reverse o) (ordering_reverse p)
reverse-then Less p = refl
reverse-then Equal p = refl
reverse-then Greater p = refl

nat_cmp-reverse : (a b : ℕ) → ordering_reverse (nat_cmp a b) ≡ nat_cmp b a
nat_cmp-reverse a b = grind (arith, nat_tests)

pub order-reverse : (t : List ℕ) → ordering_reverse (text_order t []) ≡ text_order [] t
order-reverse [] = refl
order-reverse (b ∷ bs) =
    reverse-then (nat_cmp b 32) (text_order bs [])
    ∙ (ap (λ o. ordering_then o (ordering_reverse (text_order bs []))) (nat_cmp-reverse b 32)
    ∙ ap (ordering_then (nat_cmp 32 b)) (order-reverse bs))

pub order-shorter : (s t : List ℕ) (i : ℕ) → length s ≤ i → ordering_reverse (text_order (drop i t) []) ≡ text_order (drop i s) (drop i t)
order-shorter s t i h = order-reverse (drop i t) ∙ ap (λ l. text_order l (drop i t)) (sym (drop_all i s h))
