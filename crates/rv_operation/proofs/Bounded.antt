-- The bounds of a dimension, counted from 1.
use Rattle.std.proofs.Common.{◌≡◌, ◌≤◌, ℕ, zero, suc, ◌+◌, ◌<◌, List, [], ◌∷◌, map, length, get_or, None, refl, sym, ap, ◌∙◌, arith}
use Rattle.std.specs.Prelude.{slice_get, unwrap_or}
use Rattle.pli_typing.specs.declared.typed.Bounds.{Bounds}
use Rattle.pli_typing.specs.TypedTree as Y
use Rattle.pli_typing.specs.TypedView.{bounds_of}
use Rattle.pli_coding.specs.Environments.{Environment}
use Rattle.pli_coding.specs.Locating.{leaf_number}
use Rattle.pli_coding.specs.Expressions.{bounds_at, no_bounds}
use Rattle.rv_address.proofs.Declared.{at_map}

none_map : {X Z : Type 0} (f : X → Z) (xs : List X) (n : ℕ) → length xs ≤ n → slice_get (map f xs) n ≡ None
none_map f [] n h = refl
none_map f (y ∷ xs) zero h = absurd (omega arith)
none_map f (y ∷ xs) (suc n) h = none_map f xs n (omega arith)

next : (e : Environment) (v : Y.Variable) (part : Y.Part) (n dimension : ℕ) → n + 1 ≡ dimension → unwrap_or (slice_get (leaf_number e v part.first).bounds n) no_bounds ≡ bounds_at e v part dimension
next e v part n dimension h =
    let s : suc n ≡ dimension = omega arith in
    ap (bounds_at e v part) s

pub bounds_here : (e : Environment) (v : Y.Variable) (part : Y.Part) (xs : List Bounds) (x : Bounds) (n dimension : ℕ) → n + 1 ≡ dimension → map bounds_of xs ≡ (leaf_number e v part.first).bounds → n < length xs → x ≡ get_or xs n x → bounds_of x ≡ bounds_at e v part dimension
bounds_here e v part xs x n dimension s b h k =
    sym (ap (λ bs. unwrap_or (slice_get bs n) no_bounds) (sym b) ∙ ap (λ o. unwrap_or o no_bounds) (at_map bounds_of xs n x h k)) ∙ next e v part n dimension s

pub bounds_nowhere : (e : Environment) (v : Y.Variable) (part : Y.Part) (xs : List Bounds) (n dimension : ℕ) → n + 1 ≡ dimension → map bounds_of xs ≡ (leaf_number e v part.first).bounds → length xs ≤ n → no_bounds ≡ bounds_at e v part dimension
bounds_nowhere e v part xs n dimension s b h =
    sym (ap (λ bs. unwrap_or (slice_get bs n) no_bounds) (sym b) ∙ ap (λ o. unwrap_or o no_bounds) (none_map bounds_of xs n h)) ∙ next e v part n dimension s
