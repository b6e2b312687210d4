-- Code that goes on piece by piece.
use Rattle.std.proofs.Common.{◌≡◌, ◌<◌, ◌≤◌, ℕ, suc, ◌+◌, ◌-◌, List, [], ◌∷◌, ◌++◌, length, drop, get_or, Some, refl, sym, ap, ◌∙◌, append_assoc, arith}
use Rattle.std.specs.Prelude.{map, Option, slice_get, unwrap_or}
use Rattle.std.proofs.lemmas.List.{drop_more}
use Rattle.pli_typing.specs.declared.typed.DeclaredVariable.{DeclaredVariable}
use Rattle.pli_typing.specs.TypedTree as Y
use Rattle.pli_typing.specs.TypedView.{leaf_of}
use Rattle.pli_typing.specs.TypedStatementView.{declared_variable_of}
use Rattle.pli_meaning.specs.DeclaredShapes.{variables_of_block}
use Rattle.pli_coding.specs.Assembly.{Code}
use Rattle.pli_coding.specs.Environments.{Environment, no_declaration}
use Rattle.pli_coding.specs.Entries.{copied_declared, copied_leaf, copied_leaves}
use Rattle.rv_address.proofs.Declared.{at_map}
use Rattle.rv_entry.specs.Pieces.{copied_single, own_declaration, plain_type, single_type}

pub one_less : (n all : ℕ) → n < all → all - n ≡ suc (all - (n + 1))
one_less n all h = omega arith

pub nothing : (n all : ℕ) → all ≤ n → all - n ≡ 0
nothing n all h = omega arith

pub step : (code after piece rest whole target : Code) → after ≡ code ++ piece → whole ≡ piece ++ rest → code ++ whole ≡ target → after ++ rest ≡ target
step code after piece rest whole target a w is = ap (λ u. u ++ rest) a ∙ append_assoc code piece rest ∙ ap (λ u. code ++ u) (sym w) ∙ is

-- what an element and those behind it are
pub item_first : {X : Type 0} (xs : List X) (i : ℕ) (x d : X) → i < length xs → x ≡ get_or xs i d → drop i xs ≡ x ∷ drop (i + 1) xs
item_first xs i x d h e = drop_more xs i d h ∙ ap (λ y. y ∷ drop (i + 1) xs) (sym e)

-- a variable of the running block
pub declared_here : (e : Environment) (xs : List DeclaredVariable) (place : ℕ) (x : DeclaredVariable) → map declared_variable_of xs ≡ variables_of_block e.program e.block → place < length xs → x ≡ get_or xs place x
    → slice_get (variables_of_block e.program e.block) place ≡ Some (declared_variable_of x)
declared_here e xs place x s h k = ap (λ ds. slice_get ds place) (sym s) ∙ at_map declared_variable_of xs place x h k

pub own_is : (e : Environment) (place : ℕ) (d : Y.DeclaredVariable) → slice_get (variables_of_block e.program e.block) place ≡ Some d → own_declaration e place ≡ d
own_is e place d h = ap (λ o. unwrap_or o no_declaration) h

plain_is : (n : ℕ) (d : Y.DeclaredVariable) (bs : List Y.Bounds) (type : Y.LeafType) → copied_single n d (plain_type bs type) ≡ copied_leaf n d bs type
plain_is n d [] type = refl
plain_is n d (b ∷ bs) type = refl

single_is : (n : ℕ) (d : Y.DeclaredVariable) (ls : List Y.Leaf) → copied_single n d (single_type ls) ≡ copied_leaves n d ls
single_is n d [] = refl
single_is n d (l ∷ []) = plain_is n d l.bounds l.type
single_is n d (l ∷ m ∷ ls) = refl

-- what stands for a copy among them
pub copied_here : (e : Environment) (n place : ℕ) (xs : List DeclaredVariable) (x : DeclaredVariable) (o : Option Y.LeafType) → map declared_variable_of xs ≡ variables_of_block e.program e.block → place < length xs → x ≡ get_or xs place x → o ≡ single_type (map leaf_of x.leaves.items)
    → copied_single n (own_declaration e place) o ≡ copied_declared n (slice_get (variables_of_block e.program e.block) place)
copied_here e n place xs x o s h k single =
    let here : slice_get (variables_of_block e.program e.block) place ≡ Some (declared_variable_of x) = declared_here e xs place x s h k in
    ap (λ d. copied_single n d o) (own_is e place (declared_variable_of x) here)
    ∙ ap (copied_single n (declared_variable_of x)) single
    ∙ single_is n (declared_variable_of x) (map leaf_of x.leaves.items)
    ∙ ap (copied_declared n) (sym here)
