-- Bytes that are made blank one by one.
use Rattle.std.proofs.Common.{◌≡◌, ℕ, ◌+◌, ◌<◌, List, [], ◌∷◌, ◌++◌, length, take, drop, get_or, set}
use Rattle.std.proofs.Common.{sym, ap, ◌∙◌, arith, append_assoc}
use Rattle.std.proofs.lemmas.List.{take_more_set, drop-set-lt, drop_more}
use Rattle.pli.specs.Margins.{between, blanked, column_behind}

-- with the byte at i blanked, the rest from the next column on makes the same whole
pub blanked_more : (first last column : ℕ) (s whole : List ℕ) (i read d : ℕ) → i < length s → get_or s i d ≡ read
    → take i s ++ between first last column (drop i s) ≡ whole
    → take (i + 1) (set s i (blanked first last column read))
    ++ between first last (column_behind column read) (drop (i + 1) (set s i (blanked first last column read))) ≡ whole
blanked_more first last column s whole i read d short is all =
    let y : ℕ = blanked first last column read in
    let rest : List ℕ = between first last (column_behind column read) (drop (i + 1) s) in
    let front : take (i + 1) (set s i y) ≡ take i s ++ y ∷ [] = take_more_set s i y short in
    let back : drop (i + 1) (set s i y) ≡ drop (i + 1) s = drop-set-lt (i + 1) s i y (omega arith) in
    let here : drop i s ≡ read ∷ drop (i + 1) s = drop_more s i d short ∙ ap (λ b. b ∷ drop (i + 1) s) is in
    ap (λ l. l ++ between first last (column_behind column read) (drop (i + 1) (set s i y))) front
    ∙ (ap (λ l. (take i s ++ y ∷ []) ++ between first last (column_behind column read) l) back
    ∙ (append_assoc (take i s) (y ∷ []) rest
    ∙ (ap (λ l. take i s ++ between first last column l) (sym here) ∙ all)))
