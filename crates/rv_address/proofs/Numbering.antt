-- CONTROLLED variables as they are counted.
use Rattle.std.proofs.Common.{◌≡◌, ℕ, zero, suc, ◌+◌, ◌<◌, List, [], ◌∷◌, map, length, drop, take, get_or, sym, ap, ◌∙◌, arith}
use Rattle.std.specs.Prelude.{min, Vec}
use Rattle.std.specs.declared.alloc.Global.{Global}
use Rattle.std.proofs.lemmas.List.{take_min}
use Rattle.pli_typing.specs.declared.typed.DeclaredVariable.{DeclaredVariable}
use Rattle.pli_typing.specs.TypedStatementView.{declared_variable_of}
use Rattle.pli_coding.specs.Locating.{controlled_among, controlled_from}
use Rattle.rv_address.specs.Rows.{all_controlled, one_controlled, rows_of}
use Rattle.rv_address.proofs.Declared.{shown_from, take_map}

sum_on : (n here rest next target : ℕ) → next ≡ n + here → n + (here + rest) ≡ target → next + rest ≡ target
sum_on n here rest next target e is = omega arith

pub next_variable : (xs : List DeclaredVariable) (i : ℕ) (x : DeclaredVariable) (n here next target : ℕ) → i < length xs → x ≡ get_or xs i x → here ≡ one_controlled (declared_variable_of x) → next ≡ n + here
    → n + controlled_among (map declared_variable_of (drop i xs)) ≡ target → next + controlled_among (map declared_variable_of (drop (i + 1) xs)) ≡ target
next_variable xs i x n here next target h e one s is =
    sum_on n here (controlled_among (map declared_variable_of (drop (i + 1) xs))) next target s
    (ap (λ k. n + (k + controlled_among (map declared_variable_of (drop (i + 1) xs)))) one ∙ ap (λ ds. n + controlled_among ds) (sym (shown_from declared_variable_of xs i x h e)) ∙ is)

pub next_block : (xs : List (Vec DeclaredVariable Global)) (i : ℕ) (x : Vec DeclaredVariable Global) (n here next target : ℕ) → i < length xs → x ≡ get_or xs i x → here ≡ controlled_among (map declared_variable_of x.items) → next ≡ n + here
    → n + all_controlled (rows_of (drop i xs)) ≡ target → next + all_controlled (rows_of (drop (i + 1) xs)) ≡ target
next_block xs i x n here next target h e one s is =
    sum_on n here (all_controlled (rows_of (drop (i + 1) xs))) next target s
    (ap (λ k. n + (k + all_controlled (rows_of (drop (i + 1) xs)))) one ∙ ap (λ ds. n + all_controlled ds) (sym (shown_from (λ (b : Vec DeclaredVariable Global). map declared_variable_of b.items) xs i x h e)) ∙ is)

from_rows : (xs : List (Vec DeclaredVariable Global)) (b index : ℕ) (row : Vec DeclaredVariable Global) → b < length xs → row ≡ get_or xs b row
    → all_controlled (rows_of (take b xs)) + controlled_among (take index (map declared_variable_of row.items)) ≡ controlled_from (rows_of xs) b index
from_rows [] b index row h e = absurd (omega arith)
from_rows (x ∷ xs) zero index row h e =
    let same : controlled_among (take index (map declared_variable_of row.items)) ≡ controlled_among (take index (map declared_variable_of x.items)) = ap (λ (r : Vec DeclaredVariable Global). controlled_among (take index (map declared_variable_of r.items))) e in
    omega arith
from_rows (x ∷ xs) (suc b) index row h e =
    let on : all_controlled (rows_of (take b xs)) + controlled_among (take index (map declared_variable_of row.items)) ≡ controlled_from (rows_of xs) b index = from_rows xs b index row (omega arith) e in
    omega arith

pub in_row : (xs : List DeclaredVariable) (index n : ℕ) → n ≡ controlled_among (map declared_variable_of (take (min index (length xs)) xs)) → n ≡ controlled_among (take index (map declared_variable_of xs))
in_row xs index n e = e ∙ ap (λ ds. controlled_among (map declared_variable_of ds)) (take_min index xs) ∙ ap controlled_among (take_map declared_variable_of xs index)

pub number_is : (xs : List (Vec DeclaredVariable Global)) (b index before here : ℕ) (row : Vec DeclaredVariable Global) → b < length xs → row ≡ get_or xs b row → before ≡ all_controlled (rows_of (take b xs)) → here ≡ controlled_among (take index (map declared_variable_of row.items)) → before + here ≡ controlled_from (rows_of xs) b index
number_is xs b index before here row h e t k =
    ap (λ m. m + here) t ∙ ap (λ m. all_controlled (rows_of (take b xs)) + m) k ∙ from_rows xs b index row h e
