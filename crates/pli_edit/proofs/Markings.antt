-- The first mark of bytes.
use Rattle.std.proofs.Common.{◌≡◌, ◌≢◌, ℕ, suc, ◌<◌, Bool, true, false, ◌&&◌, ◌==◌, List, [], ◌∷◌, length, get_or, Some, None, refl, arith}
use Rattle.std.proofs.lemmas.Bool.{false_from_ne_true, eqb-true}
use Rattle.pli_meaning.specs.InputLines.{begins_with_line_feed}
use Rattle.pli_edit.specs.declared.mark.Mark.TheVariants as M
use Rattle.pli_edit.specs.Marks.{IsFirstMark}

pub first_ended : (b : Bool) (s : List ℕ) → length s ≡ 0 → b ≡ true → IsFirstMark b s (Some (M.LineEnd, 0))
first_ended false s h e = cc
first_ended true [] h e = (omega arith, refl)
first_ended true (x ∷ xs) h e = absurd (omega arith)

pub first_none : (b : Bool) (s : List ℕ) → length s ≡ 0 → b ≡ false → IsFirstMark b s None
first_none true s h e = cc
first_none false [] h e = refl
first_none false (x ∷ xs) h e = absurd (omega arith)

pub first_feed : (b : Bool) (s : List ℕ) → 0 < length s → get_or s 0 0 ≡ 10 → IsFirstMark b s (Some (M.LineEnd, 1))
first_feed b [] h e = absurd (omega arith)
first_feed false (x ∷ xs) h e = (omega arith, rw e refl)
first_feed true (x ∷ xs) h e = (omega arith, rw e refl)

pub first_return : (b : Bool) (s : List ℕ) → 1 < length s → get_or s 0 0 ≡ 13 → get_or s 1 0 ≡ 10 → IsFirstMark b s (Some (M.LineEnd, 2))
first_return b [] h e f = absurd (omega arith)
first_return b (x ∷ []) h e f = absurd (omega arith)
first_return false (x ∷ y ∷ ys) h e f = (omega arith, rw (e, f) refl)
first_return true (x ∷ y ∷ ys) h e f = (omega arith, rw (e, f) refl)

begins-after : (xs : List ℕ) → begins_with_line_feed xs ≡ true → (1 < suc (length xs)) × (get_or xs 0 0 ≡ 10)
begins-after [] e = cc
begins-after (y ∷ ys) e = (omega arith, eqb-true y 10 e)

both : (p q : Bool) → (p && q) ≡ true → (p ≡ true) × (q ≡ true)
both true q e = (refl, e)
both false q e = cc

no_return : (x : ℕ) (xs : List ℕ) → (x ≡ 13 → 1 < suc (length xs) → get_or xs 0 0 ≡ 10 → ⊥) → (x == 13 && begins_with_line_feed xs) ≡ false
no_return x xs never =
    false_from_ne_true (x == 13 && begins_with_line_feed xs)
    (λ e. let p = both (x == 13) (begins_with_line_feed xs) e in let f = begins-after xs p.1 in never (eqb-true x 13 p.0) f.0 f.1)

no_feed : (x : ℕ) → x ≢ 10 → (x == 10) ≡ false
no_feed x h = false_from_ne_true (x == 10) (λ e. h (eqb-true x 10 e))

pub first_character : (b : Bool) (s : List ℕ) → 0 < length s → get_or s 0 0 ≢ 10 → (get_or s 0 0 ≡ 13 → 1 < length s → get_or s 1 0 ≡ 10 → ⊥) → IsFirstMark b s (Some (M.Character (get_or s 0 0), 1))
first_character b [] h e never = absurd (omega arith)
first_character false (x ∷ xs) h e never = (omega arith, rw (no_feed x e, no_return x xs never) refl)
first_character true (x ∷ xs) h e never = (omega arith, rw (no_feed x e, no_return x xs never) refl)
