-- How often a number stands in lists, and in a row of numbers.
use Rattle.std.proofs.Common.{◌≡◌, ℕ, zero, suc, ◌+◌, ◌≤◌, ◌<◌, ◌==◌, Bool, true, false, List, [], ◌∷◌, ◌++◌}
use Rattle.std.proofs.Common.{if◌then◌else◌, refl, sym, ap, ◌∙◌, arith}
use Rattle.std.proofs.lemmas.Bool.Decides.{nat_tests}
use Rattle.pli_typing.specs.TypedTree as Y
use Rattle.well_formed_trees.specs.Blocks.{times, procedure_numbers, numbers_of}

-- once, where it is the number
abbrev pub one : ℕ → ℕ → ℕ
one n m = if n == m then 1 else 0

-- how often it is in a row of so many numbers
abbrev pub in_row : (n from many : ℕ) → ℕ
in_row n from zero = 0
in_row n from (suc k) = one n from + in_row n (suc from) k

suc_if : (b : Bool) (k : ℕ) → (if b then suc k else k) ≡ (if b then 1 else 0) + k
suc_if true k = omega arith
suc_if false k = omega arith

pub times_then : (n m : ℕ) (ms : List ℕ) → times n (m ∷ ms) ≡ one n m + times n ms
times_then n m ms = suc_if (n == m) (times n ms)

pub times_append : (n : ℕ) (ms ks : List ℕ) → times n (ms ++ ks) ≡ times n ms + times n ks
times_append n [] ks = omega arith
times_append n (m ∷ ms) ks =
    let a = times_then n m (ms ++ ks) in
    let b = times_append n ms ks in
    let c = times_then n m ms in
    omega (arith, a, b, c)

pub times_procedures : (n : ℕ) (ps qs : List Y.Procedure)
    → times n (procedure_numbers (ps ++ qs)) ≡ times n (procedure_numbers ps) + times n (procedure_numbers qs)
times_procedures n [] qs = omega arith
times_procedures n (p ∷ ps) qs =
    let a = times_append n (numbers_of p.block) (procedure_numbers (ps ++ qs)) in
    let b = times_procedures n ps qs in
    let c = times_append n (numbers_of p.block) (procedure_numbers ps) in
    omega (arith, a, b, c)

-- ---- rows

abbrev pub RowSplits : (n from j k : ℕ) → Type 0
RowSplits n from j k = (m at : ℕ) → m ≡ j + k → at ≡ from + j → in_row n from m ≡ in_row n from j + in_row n at k

same_row : (n : ℕ) {a b j k : ℕ} → a ≡ b → j ≡ k → in_row n a j ≡ in_row n b k
same_row n {a} {b} {j} {k} e f = ap (λ x. in_row n x j) e ∙ ap (λ y. in_row n b y) f

pub row_append : (n from j k : ℕ) → RowSplits n from j k
row_append n from zero k m at e f =
    let g : from ≡ at = omega (arith, f) in
    let h : m ≡ k = omega (arith, e) in
    let a : in_row n from m ≡ in_row n at k = same_row n g h in
    omega (arith, a)
row_append n from (suc j) k m at e f =
    let g : m ≡ suc (j + k) = omega (arith, e) in
    let a : in_row n from m ≡ in_row n from (suc (j + k)) = same_row n refl g in
    let b = row_append n (suc from) j k (j + k) at refl (omega (arith, f)) in
    omega (arith, a, b)

-- a row with one before it
pub row_then : (n from k at m : ℕ) → at ≡ from + 1 → m ≡ suc k → in_row n from m ≡ one n from + in_row n at k
row_then n from k at m e f =
    let a : in_row n from m ≡ in_row n from (suc k) = same_row n refl f in
    let g : suc from ≡ at = omega (arith, e) in
    let b : in_row n (suc from) k ≡ in_row n at k = same_row n g refl in
    omega (arith, a, b)

-- what is before a row or behind it isn't in it, and what is in it is so once
not_same : (n m : ℕ) → n < m → (n == m) ≡ false
not_same n m h = grind (arith, nat_tests)

same_self : (n : ℕ) → (n == n) ≡ true
same_self n = grind (arith, nat_tests)

pub one_not : (n m : ℕ) → n < m → one n m ≡ 0
one_not n m h = ap (λ b. if b then 1 else 0) (not_same n m h)

pub row_before : (n from k : ℕ) → n < from → in_row n from k ≡ 0
row_before n from zero h = refl
row_before n from (suc k) h =
    let a = one_not n from h in
    let b = row_before n (suc from) k (omega (arith, h)) in
    omega (arith, a, b)

above : (n m : ℕ) → m < n → (n == m) ≡ false
above n m h = grind (arith, nat_tests)

one_above : (n m : ℕ) → m < n → one n m ≡ 0
one_above n m h = ap (λ b. if b then 1 else 0) (above n m h)

one_self : (n : ℕ) → one n n ≡ 1
one_self n = ap (λ b. if b then 1 else 0) (same_self n)

pub row_behind : (n from k : ℕ) → from + k ≤ n → in_row n from k ≡ 0
row_behind n from zero h = refl
row_behind n from (suc k) h =
    let a = one_above n from (omega (arith, h)) in
    let b = row_behind n (suc from) k (omega (arith, h)) in
    omega (arith, a, b)

-- so many before it, and it is there
pub row_at : (n from j k : ℕ) → n ≡ from + j → j < k → in_row n from k ≡ 1
row_at n from zero zero e h = omega (arith, h)
row_at n from zero (suc k) e h =
    let f : n ≡ from = omega (arith, e) in
    let a : one n from ≡ 1 = ap (λ m. one n m) (sym f) ∙ one_self n in
    let b = row_before n (suc from) k (omega (arith, f)) in
    omega (arith, a, b)
row_at n from (suc j) zero e h = omega (arith, h)
row_at n from (suc j) (suc k) e h =
    let a = one_above n from (omega (arith, e)) in
    let b = row_at n (suc from) j k (omega (arith, e)) (omega (arith, h)) in
    omega (arith, a, b)
