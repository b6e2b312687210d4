-- Lines that are counted so far only, and what is written behind them.
use Rattle.std.proofs.Common.{◌≡◌, inl, inr, ℕ, ◌+◌, ◌-◌, ◌<◌, ◌≤◌, min, Bool, true, false, ◌==◌, List, [], ◌∷◌}
use Rattle.std.proofs.Common.{◌++◌, length, take, replicate, refl, sym, ap, ◌∙◌, append-nil, arith}
use Rattle.std.proofs.Common.{if◌then◌else◌}
use Rattle.std.proofs.lemmas.Bool.Decides.{leb_tells, eqb_tells}
use Rattle.std.proofs.lemmas.List.{take_min, length-append}
use Rattle.std.proofs.Math.Seq.{take-append_seam}
use Rattle.pli_meaning.specs.Stream.{column_of, blanks, moved_to_column, finished, line_feed}
use Rattle.pli_meaning.specs.Texts.{fitted}
use Rattle.pli_edit.specs.Histories.{History}
use Rattle.pli_edit.specs.Handing.{fruitless}
use Rattle.pli_edit.specs.Drained.{taken_since, output_of, one_if, IsDrained, last_line}
use Rattle.pli_edit.specs.LastLine.{line_over}
use Rattle.pli_edit.proofs.Columns.{column-written, column-skipped}
use Rattle.pli_edit.proofs.Taking.{field-padded}

either : (p : Bool) (k l m : ℕ) → min k m ≡ min l m → min (if p then 0 else k + 1) m ≡ min (if p then 0 else l + 1) m
either true k l m h = refl
either false k l m h = omega (arith, h)

over-same : (t : List ℕ) (k l m : ℕ) → min k m ≡ min l m → min (line_over k t) m ≡ min (line_over l t) m
over-same [] k l m h = h
over-same (b ∷ bs) k l m h =
    over-same bs (if b == 10 then 0 else k + 1) (if b == 10 then 0 else l + 1) m (either (b == 10) k l m h)

-- a text between blanks
pub line_sent :
    (s t : List ℕ) (line before behind m : ℕ) → line ≡ min (last_line s) m →
    min (line_over (line + before) t + behind) m ≡ min (last_line (s ++ (blanks before ++ (t ++ blanks behind)))) m
line_sent s t line before behind m h =
    let l = last_line s in
    let column : column_of s ≡ l + 1 = omega arith in
    let all = column-written s t l before behind column in
    let same = over-same t (line + before) (l + before) m (omega (arith, h)) in
    omega (arith, same, all)

-- line feeds
pub line_fed : (s : List ℕ) (count m : ℕ) → 0 < count → 0 ≡ min (last_line (s ++ (replicate count 10 ++ ([] ++ [])))) m
line_fed s count m some =
    let column : column_of s ≡ last_line s + 1 = omega arith in
    let all : column_of (s ++ (replicate count 10 ++ ([] ++ []))) ≡ 0 + 1 =
    ap (λ l. column_of (s ++ l)) (append-nil (replicate count 10)) ∙ column-skipped s (last_line s) count column some
    in
    omega (arith, all)

-- a column that isn't passed
pub column_sent :
    (o : List ℕ) (column line m : ℕ) → line ≡ min (last_line o) m → column ≤ m → line < column →
    o ++ (blanks ((column - 1) - line) ++ ([] ++ [])) ≡ moved_to_column column o
column_sent o column line m h small less =
    let count : (column - 1) - line ≡ column - column_of o = omega (arith, h) in
    let passed = o ++ line_feed ∷ blanks (column - 1) in
    ap (λ l. o ++ l) (append-nil (blanks ((column - 1) - line)) ∙ ap blanks count)
    ∙ elim (leb_tells (column_of o) column) [
      | inl t ↦ ap (λ b. if b then o ++ blanks (column - column_of o) else passed) (sym t.0)
      | inr f ↦ absurd (omega (arith, h, f.1))
    ]

pub column_passed :
    (o : List ℕ) (column line m : ℕ) → line ≡ min (last_line o) m → column ≤ line →
    o ++ ([] ++ (10 ∷ [] ++ blanks (column - 1))) ≡ moved_to_column column o
column_passed o column line m h more =
    let passed = o ++ line_feed ∷ blanks (column - 1) in
    elim (leb_tells (column_of o) column) [
      | inl t ↦ absurd (omega (arith, h, t.1))
      | inr f ↦ ap (λ b. if b then o ++ blanks (column - column_of o) else passed) (sym f.0)
    ]

-- a last line that is finished already, and one that isn't
pub line_done :
    (o : List ℕ) (line m : ℕ) → line ≡ min (last_line o) m → 0 < m → line ≡ 0 → o ++ ([] ++ ([] ++ [])) ≡ finished o
line_done o line m h some none =
    append-nil o
    ∙ elim (eqb_tells (column_of o) 1) [
      | inl t ↦ ap (λ b. if b then o else o ++ line_feed ∷ []) (sym t.0)
      | inr f ↦ absurd (f.1 (omega (arith, h)))
    ]

pub line_open :
    (o : List ℕ) (line m : ℕ) → line ≡ min (last_line o) m → 0 < line → o ++ ([] ++ (10 ∷ [] ++ [])) ≡ finished o
line_open o line m h some =
    elim (eqb_tells (column_of o) 1) [
      | inl t ↦ absurd (let e = t.1 in omega (arith, h, e))
      | inr f ↦ ap (λ b. if b then o else o ++ line_feed ∷ []) (sym f.0)
    ]

-- the field of A
pub text_sent :
    (t : List ℕ) (kept width : ℕ) → kept ≡ min (length t) width →
    [] ++ (take kept t ++ blanks (width - kept)) ≡ fitted width t
text_sent t kept width e =
    let short : take kept t ≡ take width t = ap (λ n. take n t) (e ∙ swapped (length t) width) ∙ take_min width t in
    let same : width - kept ≡ width - length t = omega (arith, e) in
    ap (λ l. l ++ blanks (width - kept)) short
    ∙ (ap (λ n. take width t ++ blanks n) same ∙ field-padded width (length t) t refl)
  where
    swapped : (a b : ℕ) → min a b ≡ min b a
    swapped a b = omega arith

-- what a drain took in the end
pub drained :
    (before now : History) (left : List ℕ) (has_failed : Bool) → before.bytes ++ taken_since before now ≡ now.bytes →
    fruitless now ≡ fruitless before + one_if has_failed → (has_failed ≡ false → left ≡ []) →
    (has_failed ≡ true → 0 < length left) →
    IsDrained before (output_of before now left) has_failed now
drained before now left false grown told none some =
    let taken = taken_since before now in
    let all : taken ≡ taken ++ left = sym (append-nil taken) ∙ ap (λ l. taken ++ l) (sym (none refl)) in
    (sym grown ∙ ap (λ l. before.bytes ++ l) all, omega (arith, told))
drained before now left true grown told none some =
    let taken = taken_since before now in
    let more = some refl in (
      length taken,
      (
        omega (arith, more, length-append taken left),
        sym grown ∙ ap (λ l. before.bytes ++ l) (sym (take-append_seam taken left)),
        told,
      ),
    )
