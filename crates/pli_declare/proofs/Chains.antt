-- Chains of variables, and the steps of the loops that walk declarations.
use Rattle.std.proofs.Common.{◌≡◌, ℕ, suc, ◌+◌, ◌<◌, List, [], ◌∷◌, ◌++◌, map, length, take, drop, get_or, refl, sym, ap, ◌∙◌, append_assoc, add-one, drop-cons}
use Rattle.std.specs.List.{flat_map}
use Rattle.std.proofs.lemmas.List.{take_more, map_push}
use Rattle.pli_language.specs.declared.declaration.DeclareItem.{DeclareItem as DeclareItemHeld}
use Rattle.pli_language.specs.declared.declaration.DeclaredName.{DeclaredName as DeclaredNameHeld}
use Rattle.pli_language.specs.View.{declared_name_of, declare_item_of}
use Rattle.pli_language.specs.Tree.{DeclareItem}
use Rattle.pli_language.specs.Declarations.{Variable, Held, Declaration, holders, variables_of, held, chain_after, variable_declared}

-- the element at a place, and those from it on
pub drop_here : {X : Type 0} (xs : List X) (i : ℕ) (x : X) → i < length xs → x ≡ get_or xs i x → drop i xs ≡ x ∷ drop (i + 1) xs
drop_here xs i x h e = drop-cons xs i x h ∙ ap (λ y. y ∷ drop (suc i) xs) (sym e) ∙ ap (λ k. x ∷ drop k xs) (sym (add-one i))

-- an item's names, each with the item
abbrev pub variables_at : DeclareItemHeld → List DeclaredNameHeld → List Variable
variables_at item names = map (λ d. record { declared = d; item = declare_item_of item }) (map declared_name_of names)

-- the next variable, put with what holds it
pub put_variable : (o p target : List Declaration) (chain next : List Variable) (v : Variable) (vs ws : List Variable) → vs ≡ v ∷ ws → o ++ map variable_declared (held chain vs) ≡ target → next ≡ holders chain v ++ v ∷ [] → p ≡ o ++ variable_declared (record { variable = v; above = holders chain v }) ∷ [] → p ++ map variable_declared (held next ws) ≡ target
unfolding held
put_variable o p target chain next v vs ws e h n q =
    let d : Declaration = variable_declared (record { variable = v; above = holders chain v }) in
    let rest : List Declaration = map variable_declared (held next ws) in
    let step : map variable_declared (held chain vs) ≡ d ∷ rest = ap (λ u. map variable_declared (held chain u)) e ∙ ap (λ c. d ∷ map variable_declared (held c ws)) (sym n) in
    ap (λ u. u ++ rest) q ∙ append_assoc o (d ∷ []) rest ∙ ap (λ u. o ++ u) (sym step) ∙ h

pub chain_on : (target chain next : List Variable) (v : Variable) (vs ws : List Variable) → vs ≡ v ∷ ws → chain_after chain vs ≡ target → next ≡ holders chain v ++ v ∷ [] → chain_after next ws ≡ target
unfolding chain_after
chain_on target chain next v vs ws e h n = ap (λ c. chain_after c ws) n ∙ sym (ap (chain_after chain) e) ∙ h

-- ---- the items of a DECLARE

held_in_two : (chain xs ys : List Variable) → held chain (xs ++ ys) ≡ held chain xs ++ held (chain_after chain xs) ys
unfolding held chain_after
held_in_two chain [] ys = refl
held_in_two chain (v ∷ xs) ys = ap (λ u. record { variable = v; above = holders chain v } ∷ u) (held_in_two (holders chain v ++ v ∷ []) xs ys)

mapped_in_two : (xs ys : List Held) → map variable_declared (xs ++ ys) ≡ map variable_declared xs ++ map variable_declared ys
mapped_in_two [] ys = refl
mapped_in_two (x ∷ xs) ys = ap (λ u. variable_declared x ∷ u) (mapped_in_two xs ys)

-- an item put, with what is left
pub put_item_names : (o p target : List Declaration) (chain next : List Variable) (item : DeclareItem) (items rest : List DeclareItem) → items ≡ item ∷ rest → o ++ map variable_declared (held chain (flat_map variables_of items)) ≡ target → p ≡ o ++ map variable_declared (held chain (variables_of item)) → next ≡ chain_after chain (variables_of item) → p ++ map variable_declared (held next (flat_map variables_of rest)) ≡ target
put_item_names o p target chain next item items rest e h q n =
    let xs : List Variable = variables_of item in
    let ys : List Variable = flat_map variables_of rest in
    let first : List Declaration = map variable_declared (held chain xs) in
    let split : map variable_declared (held chain (flat_map variables_of items)) ≡ first ++ map variable_declared (held next ys) = ap (λ u. map variable_declared (held chain (flat_map variables_of u))) e ∙ ap (map variable_declared) (held_in_two chain xs ys) ∙ mapped_in_two (held chain xs) (held (chain_after chain xs) ys) ∙ ap (λ u. first ++ map variable_declared (held u ys)) (sym n) in
    ap (λ u. u ++ map variable_declared (held next ys)) q ∙ append_assoc o first (map variable_declared (held next ys)) ∙ ap (λ u. o ++ u) (sym split) ∙ h

-- the elements up to a place and the one there
pub take_here : {X Y : Type 0} (f : X → Y) (xs : List X) (i : ℕ) (x : X) → i < length xs → x ≡ get_or xs i x → map f (take (i + 1) xs) ≡ map f (take i xs) ++ f x ∷ []
take_here f xs i x h e = ap (map f) (take_more xs i x h ∙ ap (λ y. take i xs ++ y ∷ []) (sym e)) ∙ map_push f (take i xs) x
