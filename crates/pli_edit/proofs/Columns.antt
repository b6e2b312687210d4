-- The column behind an output, by the length of its last line.
use Rattle.std.proofs.Common.{◌≡◌, ℕ, zero, suc, ◌+◌, ◌<◌, ◌≤◌, Bool, not, ◌==◌, List, [], ◌∷◌, ◌++◌, length, reverse, replicate, refl, sym, ap, ◌∙◌, append_assoc, add-zero, arith, if◌then◌else◌}
use Rattle.std.specs.Prelude.{take_while}
use Rattle.std.specs.List.{prefix_len}
use Rattle.std.proofs.Math.Nat.{min-le_right}
use Rattle.std.proofs.lemmas.Bool.Decides.{nat_tests}
use Rattle.std.proofs.lemmas.List.{reverse-append, length-reverse, length-take, append-nil}
use Rattle.pli_meaning.specs.Stream.{column_of, blanks}
use Rattle.pli_edit.specs.LastLine.{line_over}

-- one byte more
column-push : (s : List ℕ) (b l : ℕ) → column_of s ≡ l + 1 → column_of (s ++ b ∷ []) ≡ (if b == 10 then 0 else l + 1) + 1
column-push s b l h = rw reverse-append (grind (arith, nat_tests))

pub column-append : (s t : List ℕ) (l : ℕ) → column_of s ≡ l + 1 → column_of (s ++ t) ≡ line_over l t + 1
column-append s [] l h = ap column_of (append-nil s) ∙ h
column-append s (b ∷ bs) l h = ap column_of (sym (append_assoc s (b ∷ []) bs)) ∙ column-append (s ++ b ∷ []) bs (if b == 10 then 0 else l + 1) (column-push s b l h)

pub line_over-blanks : (n l : ℕ) → line_over l (blanks n) ≡ l + n
line_over-blanks zero l = sym (add-zero l)
line_over-blanks (suc n) l = line_over-blanks n (l + 1) ∙ omega arith

length-take_while : (p : ℕ → Bool) (s : List ℕ) → length (take_while p s) ≤ length s
length-take_while p s = rw (length-take (prefix_len p s) s) (min-le_right (prefix_len p s) (length s))

pub column-within : (s : List ℕ) (l : ℕ) → column_of s ≡ l + 1 → l ≤ length s
column-within s l h = let r = length-take_while (λ b. not (b == 10)) (reverse s) in omega (arith, h, length-reverse s)

line_over-append : (l : ℕ) (s t : List ℕ) → line_over l (s ++ t) ≡ line_over (line_over l s) t
line_over-append l [] t = refl
line_over-append l (b ∷ bs) t = line_over-append (if b == 10 then 0 else l + 1) bs t

line_over-feeds : (n l : ℕ) → line_over l (replicate (suc n) 10) ≡ 0
line_over-feeds zero l = refl
line_over-feeds (suc n) l = line_over-feeds n 0

pub column-written : (s t : List ℕ) (l before behind : ℕ) → column_of s ≡ l + 1 → column_of (s ++ (blanks before ++ (t ++ blanks behind))) ≡ (line_over (l + before) t + behind) + 1
column-written s t l before behind h =
    column-append s (blanks before ++ (t ++ blanks behind)) l h
    ∙ ap (λ n. n + 1)
    (line_over-append l (blanks before) (t ++ blanks behind)
    ∙ (ap (λ n. line_over n (t ++ blanks behind)) (line_over-blanks before l)
    ∙ (line_over-append (l + before) t (blanks behind) ∙ line_over-blanks behind (line_over (l + before) t))))

pub column-skipped : (s : List ℕ) (l n : ℕ) → column_of s ≡ l + 1 → 0 < n → column_of (s ++ replicate n 10) ≡ 0 + 1
column-skipped s l zero h some = absurd (omega arith)
column-skipped s l (suc n) h some = column-append s (replicate (suc n) 10) l h ∙ ap (λ k. k + 1) (line_over-feeds n l)
