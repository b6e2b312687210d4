-- Blanks at the ends of texts.
use Rattle.std.proofs.Common.{◌≡◌, ◌≢◌, ℕ, ◌+◌, ◌-◌, ◌<◌, ◌≤◌, false, ◌∷◌, [], ◌++◌, List, length, take, drop, get_or, refl, sym, ap, ◌∙◌, arith}
use Rattle.std.specs.List.{list_all}
use Rattle.std.proofs.lemmas.List.{drop_more, drop_all, take_more}
use Rattle.std.proofs.lemmas.Bool.Decides.{nat_tests}
use Rattle.pli_meaning.specs.Texts.{is_blank, without_leading_blanks, without_trailing_blanks}

pub leading-more : (t : List ℕ) (i : ℕ) → i < length t → get_or t i 0 ≡ 32 → without_leading_blanks (drop i t) ≡ without_leading_blanks (drop (i + 1) t)
leading-more t i h e = rw (drop_more t i 0 h) (rw e refl)

pub leading-end : (t : List ℕ) (i : ℕ) → i < length t → get_or t i 0 ≢ 32 → without_leading_blanks (drop i t) ≡ drop i t
leading-end t i h e = rw (drop_more t i 0 h) (grind (arith, nat_tests))

pub leading-none : (t : List ℕ) (i : ℕ) → length t ≤ i → without_leading_blanks (drop i t) ≡ drop i t
leading-none t i h = rw (drop_all i t h) refl

all_blank-push : (t : List ℕ) → list_all is_blank (t ++ 32 ∷ []) ≡ list_all is_blank t
all_blank-push [] = refl
all_blank-push (b ∷ bs) = let r = all_blank-push bs in grind arith

trailing-push : (t : List ℕ) → without_trailing_blanks (t ++ 32 ∷ []) ≡ without_trailing_blanks t
trailing-push [] = refl
trailing-push (b ∷ bs) = let r = trailing-push bs in let s = all_blank-push (b ∷ bs) in grind arith

strange-push : (t : List ℕ) (b : ℕ) → b ≢ 32 → list_all is_blank (t ++ b ∷ []) ≡ false
strange-push [] b h = grind (arith, nat_tests)
strange-push (c ∷ t) b h = let r = strange-push t b h in grind arith

trailing-strange : (t : List ℕ) (b : ℕ) → b ≢ 32 → without_trailing_blanks (t ++ b ∷ []) ≡ t ++ b ∷ []
trailing-strange [] b h = grind (arith, nat_tests)
trailing-strange (c ∷ t) b h = let r = trailing-strange t b h in let s = strange-push (c ∷ t) b h in grind arith

-- from the last of the first e bytes
last : (t : List ℕ) (e : ℕ) → 0 < e → e ≤ length t → take e t ≡ take (e - 1) t ++ get_or t (e - 1) 0 ∷ []
last t e h k = let front : e ≡ (e - 1) + 1 = omega arith in ap (λ n. take n t) front ∙ take_more t (e - 1) 0 (omega arith)

pub trailing-more : (t : List ℕ) (e : ℕ) → 0 < e → e ≤ length t → get_or t (e - 1) 0 ≡ 32 → without_trailing_blanks (take e t) ≡ without_trailing_blanks (take (e - 1) t)
trailing-more t e h k b = ap without_trailing_blanks (last t e h k ∙ ap (λ x. take (e - 1) t ++ x ∷ []) b) ∙ trailing-push (take (e - 1) t)

pub trailing-end : (t : List ℕ) (e : ℕ) → 0 < e → e ≤ length t → get_or t (e - 1) 0 ≢ 32 → without_trailing_blanks (take e t) ≡ take e t
trailing-end t e h k b =
    ap without_trailing_blanks (last t e h k) ∙ (trailing-strange (take (e - 1) t) (get_or t (e - 1) 0) b ∙ sym (last t e h k))

pub trailing-none : (t : List ℕ) (e : ℕ) → e ≡ 0 → without_trailing_blanks (take e t) ≡ take e t
trailing-none t e h = rw h refl
