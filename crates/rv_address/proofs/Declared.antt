-- What is declared, found at its place.
use Rattle.std.proofs.Common.{◌≡◌, ℕ, zero, suc, ◌+◌, ◌<◌, Bool, true, false, true≢false, List, [], ◌∷◌, ◌++◌, ℤ, pos, negsuc, map, length, drop, take, get_or, Some, refl, sym, ap, ◌∙◌, arith}
use Rattle.std.specs.Prelude.{◌&&◌}
use Rattle.std.specs.List.{list_all}
use Rattle.std.proofs.lemmas.List.{drop_more}
use Rattle.std.specs.Prelude.{slice_get, unwrap_or, Vec}
use Rattle.std.specs.declared.alloc.Global.{Global}
use Rattle.pli_typing.specs.declared.typed.DeclaredVariable.{DeclaredVariable}
use Rattle.pli_typing.specs.declared.typed.Leaf.{Leaf}
use Rattle.pli_typing.specs.declared.statement.Typed.{Typed}
use Rattle.pli_typing.specs.TypedTree as Y
use Rattle.pli_typing.specs.declared.typed.Bounds.{Bounds}
use Rattle.pli_typing.specs.TypedView.{bounds_of, leaf_of}
use Rattle.pli_typing.specs.TypedStatementView.{declared_variable_of, program_of}
use Rattle.pli_meaning.specs.DeclaredShapes.{variables_of_block}
use Rattle.rv_meaning.specs.declared.instr.Register.{Register}
use Rattle.pli_coding.specs.Assembly.{Code}
use Rattle.pli_coding.specs.Instructions.{plus}
use Rattle.pli_coding.specs.Frames.{are_constant}
use Rattle.pli_coding.specs.Locating.{referred_bounds, begin_at_one, is_one, last_takes_any, takes_any}

-- the element at a place and those behind it
pub shown_from : {X Y : Type 0} (f : X → Y) (xs : List X) (i : ℕ) (x : X) → i < length xs → x ≡ get_or xs i x → map f (drop i xs) ≡ f x ∷ map f (drop (i + 1) xs)
shown_from f xs i x h e = ap (map f) (drop_more xs i x h ∙ ap (λ y. y ∷ drop (i + 1) xs) (sym e))

pub at_map : {X Y : Type 0} (f : X → Y) (xs : List X) (n : ℕ) (x : X) → n < length xs → x ≡ get_or xs n x → slice_get (map f xs) n ≡ Some (f x)
at_map f [] n x h e = absurd (omega arith)
at_map f (y ∷ xs) zero x h e = ap (λ z. Some (f z)) (sym e)
at_map f (y ∷ xs) (suc n) x h e = at_map f xs n x (omega arith) e

pub variables_here : (t : Typed) (n : ℕ) (x : Vec DeclaredVariable Global) → n < length t.variables.items → x ≡ get_or t.variables.items n x → map declared_variable_of x.items ≡ variables_of_block (program_of t) n
variables_here t n x h e =
    sym (ap (λ o. unwrap_or o []) (at_map (λ (b : Vec DeclaredVariable Global). map declared_variable_of b.items) t.variables.items n x h e))

pub variable_here : (xs : List DeclaredVariable) (n : ℕ) (x : DeclaredVariable) (all : List Y.DeclaredVariable) (blank : Y.DeclaredVariable) → map declared_variable_of xs ≡ all → n < length xs → x ≡ get_or xs n x → declared_variable_of x ≡ unwrap_or (slice_get all n) blank
variable_here xs n x all blank s h e =
    sym (ap (λ ds. unwrap_or (slice_get ds n) blank) (sym s) ∙ ap (λ o. unwrap_or o blank) (at_map declared_variable_of xs n x h e))

pub leaf_here : (xs : List Leaf) (n : ℕ) (x : Leaf) (all : List Y.Leaf) (blank : Y.Leaf) → map leaf_of xs ≡ all → n < length xs → x ≡ get_or xs n x → leaf_of x ≡ unwrap_or (slice_get all n) blank
leaf_here xs n x all blank s h e =
    sym (ap (λ ds. unwrap_or (slice_get ds n) blank) (sym s) ∙ ap (λ o. unwrap_or o blank) (at_map leaf_of xs n x h e))

pub take_map : {X Y : Type 0} (f : X → Y) (xs : List X) (n : ℕ) → map f (take n xs) ≡ take n (map f xs)
take_map f xs zero = refl
take_map f [] (suc n) = refl
take_map f (x ∷ xs) (suc n) = ap (λ ys. f x ∷ ys) (take_map f xs n)

-- ---- displacements

pub least_stands : (code after : Code) (rd rs : Register) (z : ℤ) → z ≡ pos 2147483648 → after ≡ code ++ plus rd rs (negsuc 2147483647) → after ≡ code ++ plus rd rs z
least_stands code after rd rs z h e = e ∙ ap (λ k. code ++ plus rd rs k) (sym h)

-- ---- tests of lists

next_true : (b : Bool) (rest target : Bool) → b ≡ true → (b && rest) ≡ target → rest ≡ target
next_true true rest target e is = is
next_true false rest target e is = absurd (true≢false (sym e))

pub next_bounds : (xs : List Bounds) (i : ℕ) (x : Bounds) (target : Bool) → i < length xs → x ≡ get_or xs i x → are_constant (bounds_of x) ≡ true → list_all are_constant (map bounds_of (drop i xs)) ≡ target → list_all are_constant (map bounds_of (drop (i + 1) xs)) ≡ target
next_bounds xs i x target h e t is =
    next_true (are_constant (bounds_of x)) _ target t (ap (list_all are_constant) (sym (shown_from bounds_of xs i x h e)) ∙ is)

pub not_bounds : (xs : List Bounds) (i : ℕ) (x : Bounds) (target : Bool) → i < length xs → x ≡ get_or xs i x → are_constant (bounds_of x) ≡ false → list_all are_constant (map bounds_of (drop i xs)) ≡ target → false ≡ target
not_bounds xs i x target h e t is =
    ap (λ b. b && list_all are_constant (map bounds_of (drop (i + 1) xs))) (sym t) ∙ ap (list_all are_constant) (sym (shown_from bounds_of xs i x h e)) ∙ is

-- ---- the last leaf

referred_last : (xs : List Leaf) (x : Leaf) (n : ℕ) → n + 1 ≡ length xs → x ≡ get_or xs n x → referred_bounds (map leaf_of xs) ≡ map bounds_of x.bounds.items
referred_last [] x n h e = absurd (omega arith)
referred_last (y ∷ []) x zero h e = ap (λ (z : Leaf). map bounds_of z.bounds.items) (sym e)
referred_last (y ∷ []) x (suc n) h e = absurd (omega arith)
referred_last (y ∷ z ∷ xs) x zero h e = absurd (omega arith)
referred_last (y ∷ z ∷ xs) x (suc n) h e = referred_last (z ∷ xs) x n (omega arith) e

pub last_takes : (xs : List Leaf) (x : Leaf) (n : ℕ) → n + 1 ≡ length xs → x ≡ get_or xs n x → last_takes_any (map leaf_of xs) ≡ takes_any (leaf_of x).bounds (leaf_of x).type
last_takes [] x n h e = absurd (omega arith)
last_takes (y ∷ []) x zero h e = ap (λ (z : Leaf). takes_any (leaf_of z).bounds (leaf_of z).type) (sym e)
last_takes (y ∷ []) x (suc n) h e = absurd (omega arith)
last_takes (y ∷ z ∷ xs) x zero h e = absurd (omega arith)
last_takes (y ∷ z ∷ xs) x (suc n) h e = last_takes (z ∷ xs) x n (omega arith) e

first_begins : (bs : List Bounds) (b : Bounds) → 0 < length bs → b ≡ get_or bs 0 b → is_one (bounds_of b).lower ≡ begin_at_one (map bounds_of bs)
first_begins [] b h e = absurd (omega arith)
first_begins (c ∷ bs) b h e = ap (λ (z : Bounds). is_one (bounds_of z).lower) e

none_begin : (bs : List Bounds) → length bs ≡ 0 → true ≡ begin_at_one (map bounds_of bs)
none_begin [] h = refl
none_begin (b ∷ bs) h = absurd (omega arith)

pub last_begins : (xs : List Leaf) (x : Leaf) (n : ℕ) (r : Bool) → n + 1 ≡ length xs → x ≡ get_or xs n x → r ≡ begin_at_one (map bounds_of x.bounds.items) → r ≡ begin_at_one (referred_bounds (map leaf_of xs))
last_begins xs x n r h e t = t ∙ ap begin_at_one (sym (referred_last xs x n h e))

pub bounds_begin : (bs : List Bounds) (b : Bounds) (r : Bool) → 0 < length bs → b ≡ get_or bs 0 b → r ≡ is_one (bounds_of b).lower → r ≡ begin_at_one (map bounds_of bs)
bounds_begin bs b r h e t = t ∙ first_begins bs b h e

pub no_bounds_begin : (bs : List Bounds) → length bs ≡ 0 → true ≡ begin_at_one (map bounds_of bs)
no_bounds_begin bs h = none_begin bs h

pub none_begins : (xs : List Leaf) → length xs ≡ 0 → true ≡ begin_at_one (referred_bounds (map leaf_of xs))
none_begins [] h = refl
none_begins (x ∷ xs) h = absurd (omega arith)

pub none_takes : (xs : List Leaf) → length xs ≡ 0 → false ≡ last_takes_any (map leaf_of xs)
none_takes [] h = refl
none_takes (x ∷ xs) h = absurd (omega arith)
