-- The place of a variable by the bytes that stand before it.
use Rattle.std.proofs.Common.{◌≡◌, ◌≢◌, ℕ, zero, suc, ◌+◌, ◌<◌, ◌≤◌, List, [], ◌∷◌, ◌++◌, map, length, drop, get_or, Option, Some, refl, sym, ap, ◌∙◌, append_assoc, arith}
use Rattle.std.specs.Prelude.{min, Vec, slice_get, unwrap_or}
use Rattle.std.specs.declared.alloc.Global.{Global}
use Rattle.std.proofs.lemmas.List.{map_push}
use Rattle.pli_typing.specs.declared.typed.DeclaredVariable.{DeclaredVariable}
use Rattle.pli_typing.specs.TypedTree as Y
use Rattle.pli_typing.specs.TypedStatementView.{declared_variable_of}
use Rattle.pli_coding.specs.Frames.{frame_bytes, last_place, variable_place}
use Rattle.pli_frames.specs.Parts.{parts, stopped}
use Rattle.rv_address.specs.Rows.{items_of, rows_of, sum_rows, sums_from}
use Rattle.rv_address.proofs.Declared.{at_map, shown_from}

-- ---- the sums

stopped_sum : (sum bytes : ℕ) → min last_place (sum + stopped bytes) ≡ min last_place (sum + bytes)
stopped_sum sum bytes = omega arith

pub next_sum : (xs : List DeclaredVariable) (i : ℕ) (x : DeclaredVariable) (done more target : List ℕ) (sum next bytes : ℕ) → i < length xs → x ≡ get_or xs i x → more ≡ done ++ sum ∷ [] → bytes ≡ stopped (frame_bytes parts (declared_variable_of x)) → next ≡ min last_place (sum + bytes)
    → done ++ sums_from sum (map declared_variable_of (drop i xs)) ≡ target → more ++ sums_from next (map declared_variable_of (drop (i + 1) xs)) ≡ target
next_sum xs i x done more target sum next bytes h e m b n is =
    let rest : List Y.DeclaredVariable = map declared_variable_of (drop (i + 1) xs) in
    ap (λ u. u ++ sums_from next rest) m
    ∙ append_assoc done (sum ∷ []) (sums_from next rest)
    ∙ ap (λ k. done ++ (sum ∷ sums_from k rest)) (n ∙ ap (λ k. min last_place (sum + k)) b ∙ stopped_sum sum (frame_bytes parts (declared_variable_of x)))
    ∙ ap (λ ds. done ++ sums_from sum ds) (sym (shown_from declared_variable_of xs i x h e))
    ∙ is

pub next_sums : (xs : List (Vec DeclaredVariable Global)) (i : ℕ) (x : Vec DeclaredVariable Global) (row : Vec ℕ Global) (done more : List (Vec ℕ Global)) (target : List (List ℕ)) → i < length xs → x ≡ get_or xs i x → row.items ≡ sums_from 0 (map declared_variable_of x.items) → more ≡ done ++ row ∷ []
    → map items_of done ++ sum_rows (rows_of (drop i xs)) ≡ target → map items_of more ++ sum_rows (rows_of (drop (i + 1) xs)) ≡ target
next_sums xs i x row done more target h e r m is =
    let rest : List (List ℕ) = sum_rows (rows_of (drop (i + 1) xs)) in
    ap (λ u. map items_of u ++ rest) m
    ∙ ap (λ u. u ++ rest) (map_push items_of done row)
    ∙ append_assoc (map items_of done) (row.items ∷ []) rest
    ∙ ap (λ u. map items_of done ++ (u ∷ rest)) r
    ∙ ap (λ ds. map items_of done ++ sum_rows ds) (sym (shown_from (λ (b : Vec DeclaredVariable Global). map declared_variable_of b.items) xs i x h e))
    ∙ is

-- ---- places

-- behind so many bytes, as far as a frame counts them
placed : (start sum : ℕ) (ds : List Y.DeclaredVariable) (index at k : ℕ) → at ≡ min index (length ds) → variable_place parts (min last_place (start + sum)) ds index ≡ min last_place (start + get_or (sums_from sum ds) at k)
placed start sum [] index zero k h = refl
placed start sum [] index (suc at) k h = absurd (omega (arith, h))
placed start sum (d ∷ ds) zero zero k h = refl
placed start sum (d ∷ ds) zero (suc at) k h = absurd (omega (arith, h))
placed start sum (d ∷ ds) (suc index) zero k h = absurd (omega (arith, h))
placed start sum (d ∷ ds) (suc index) (suc at) k h =
    let bytes : ℕ = frame_bytes parts d in
    let further : min last_place (min last_place (start + sum) + bytes) ≡ min last_place (start + min last_place (sum + bytes)) = omega arith in
    ap (λ p. variable_place parts p ds index) further ∙ placed start (min last_place (sum + bytes)) ds index at k (omega (arith, h))

pub at_first : (start : ℕ) (ds : List Y.DeclaredVariable) → start ≡ variable_place parts start ds 0
at_first start [] = refl
at_first start (d ∷ ds) = refl

sums_many : (sum : ℕ) (ds : List Y.DeclaredVariable) → length (sums_from sum ds) ≡ suc (length ds)
sums_many sum [] = refl
sums_many sum (d ∷ ds) = ap suc (sums_many (min last_place (sum + frame_bytes parts d)) ds)

pub of_none : (start : ℕ) (ds : List Y.DeclaredVariable) (index : ℕ) (row : List ℕ) → row ≡ sums_from 0 ds → length row < 2 → start ≡ variable_place parts start ds index
of_none start [] index row r h = refl
of_none start (d ∷ ds) index row r h =
    let many : length row ≡ suc (length (d ∷ ds)) = ap length r ∙ sums_many 0 (d ∷ ds) in
    absurd (omega (arith, h, many))

pub behind : (start : ℕ) (ds : List Y.DeclaredVariable) (index at before place : ℕ) (row : List ℕ) → row ≡ sums_from 0 ds → index ≢ 0 → 2 ≤ length row → at + 1 ≡ min (index + 1) (length row) → before ≡ get_or row at before → place ≡ min last_place (start + before)
    → place ≡ variable_place parts start ds index
behind start [] index at before place row r h two a b p =
    let many : length row ≡ 1 = ap length r in
    absurd (omega (arith, many, two))
behind start (d ∷ ds) zero at before place row r h two a b p = absurd (h refl)
behind start (d ∷ ds) (suc index) zero before place row r h two a b p = absurd (omega (arith, a, two))
behind start (d ∷ ds) (suc index) (suc at) before place row r h two a b p =
    let bytes : ℕ = frame_bytes parts d in
    let many : length row ≡ suc (suc (length ds)) = ap length r ∙ sums_many 0 (d ∷ ds) in
    let first : min last_place (start + bytes) ≡ min last_place (start + min last_place (0 + bytes)) = omega arith in
    p
    ∙ ap (λ n. min last_place (start + n)) (b ∙ ap (λ (ns : List ℕ). get_or ns (suc at) before) r)
    ∙ sym (placed start (min last_place (0 + bytes)) ds index at before (omega (arith, a, many)))
    ∙ ap (λ q. variable_place parts q ds index) (sym first)

-- ---- what is kept

unwrapped : (o : Option (List ℕ)) (x : List ℕ) → o ≡ Some x → x ≡ unwrap_or o []
unwrapped o x e = sym (ap (λ p. unwrap_or p []) e)

row_of : (rows : List (List Y.DeclaredVariable)) (block : ℕ) (row : List ℕ) → slice_get (sum_rows rows) block ≡ Some row → row ≡ sums_from 0 (unwrap_or (slice_get rows block) [])
row_of [] block row e = cc
row_of (ds ∷ rows) zero row e = unwrapped (slice_get (sum_rows (ds ∷ rows)) 0) row e
row_of (ds ∷ rows) (suc block) row e = row_of rows block row e

pub row_here : (program : Y.Program) (rows : List (Vec ℕ Global)) (block : ℕ) (row : Vec ℕ Global) → map items_of rows ≡ sum_rows program.variables → block < length rows → row ≡ get_or rows block row
    → row.items ≡ sums_from 0 (unwrap_or (slice_get program.variables block) [])
row_here program rows block row all h e =
    row_of program.variables block row.items (ap (λ (us : List (List ℕ)). slice_get us block) (sym all) ∙ at_map items_of rows block row h e)
