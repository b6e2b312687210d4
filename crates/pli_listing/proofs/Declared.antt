-- The names of a DECLARE, item by item.
use Rattle.std.proofs.Common.{◌≡◌, ◌++◌, ◌∷◌, ℕ, List, ap, sym, ◌∙◌, append_assoc}
use Rattle.pli_language.specs.Tree.{DeclareItem}
use Rattle.pli_listing.specs.Mentions.{Mention, in_declare, in_item_declared, outermost_up_to}

-- an item's names put, with what is left
pub declared_more : (o p target : List Mention) (block : ℕ) (structure next : List ℕ) (item : DeclareItem)
    (items rest : List DeclareItem) → items ≡ item ∷ rest → o ++ in_declare block structure items ≡ target
    → next ≡ outermost_up_to structure item → p ≡ o ++ in_item_declared block next item
    → p ++ in_declare block next rest ≡ target
declared_more o p target block structure next item items rest e h n q =
    let x : List Mention = in_item_declared block next item in
    let y : List Mention = in_declare block next rest in
    let split : in_declare block structure items ≡ x ++ y =
    ap (in_declare block structure) e ∙ ap (λ s. in_item_declared block s item ++ in_declare block s rest) (sym n) in
    ap (λ u. u ++ y) q ∙ append_assoc o x y ∙ ap (λ u. o ++ u) (sym split) ∙ h
