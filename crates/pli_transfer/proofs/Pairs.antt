-- Lists whose elements are tested in pairs.
use Rattle.std.proofs.Common.{◌≡◌, ◌≢◌, ◌∙◌, Bool, true, false, List, [], ◌∷◌, map, length, refl, sym, ap, arith}
use Rattle.std.specs.Prelude.{not, ◌&&◌, ◌||◌}
use Rattle.std.specs.List.{list_any, zip}

not_either : (t b : Bool) → (t && not b) ≡ not (not t || b)
not_either true b = refl
not_either false b = refl

never : (t : Bool) → (t && false) ≡ false
never true = refl
never false = refl

-- lists of one length
pub each_pair : {X Y Z : Type 0} (whole : List Z → List Z → Bool) (test : Z → Z → Bool) → whole [] [] ≡ true → ((a b : Z) (as' bs : List Z) → whole (a ∷ as') (b ∷ bs) ≡ (test a b && whole as' bs)) → (f : X → Z) (g : Y → Z) (xs : List X) (ys : List Y) → length xs ≡ length ys → not (list_any (λ p. not (test (f p.0) (g p.1))) (zip xs ys)) ≡ whole (map f xs) (map g ys)
each_pair whole test none step f g [] [] e = sym none
each_pair whole test none step f g [] (y ∷ ys) e = absurd (omega (arith, e))
each_pair whole test none step f g (x ∷ xs) [] e = absurd (omega (arith, e))
each_pair whole test none step f g (x ∷ xs) (y ∷ ys) e = sym (step (f x) (g y) (map f xs) (map g ys) ∙ ap (λ b. test (f x) (g y) && b) (sym (each_pair whole test none step f g xs ys (omega (arith, e)))) ∙ not_either (test (f x) (g y)) (list_any (λ p. not (test (f p.0) (g p.1))) (zip xs ys)))

-- lists of two lengths
pub unequal : {X Y Z : Type 0} (whole : List Z → List Z → Bool) (test : Z → Z → Bool) → ((b : Z) (bs : List Z) → whole [] (b ∷ bs) ≡ false) → ((a : Z) (as' : List Z) → whole (a ∷ as') [] ≡ false) → ((a b : Z) (as' bs : List Z) → whole (a ∷ as') (b ∷ bs) ≡ (test a b && whole as' bs)) → (f : X → Z) (g : Y → Z) (xs : List X) (ys : List Y) → length xs ≢ length ys → false ≡ whole (map f xs) (map g ys)
unequal whole test short long step f g [] [] e = absurd (e refl)
unequal whole test short long step f g [] (y ∷ ys) e = sym (short (g y) (map g ys))
unequal whole test short long step f g (x ∷ xs) [] e = sym (long (f x) (map f xs))
unequal whole test short long step f g (x ∷ xs) (y ∷ ys) e = sym (step (f x) (g y) (map f xs) (map g ys) ∙ ap (λ b. test (f x) (g y) && b) (sym (unequal whole test short long step f g xs ys (λ h. e (omega (arith, h))))) ∙ never (test (f x) (g y)))
