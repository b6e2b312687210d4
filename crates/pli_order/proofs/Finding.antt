-- The elements of a shape, by the notes of its parts.
use Rattle.std.proofs.Common.{zero, suc, ◌≡◌, ◌<◌, ℕ, ℤ, ◌+◌, ◌-◌, ◌^◌, slice_get, length, map, Option, List, [], ◌∷◌, ◌++◌, refl, sym, ap, subst, ◌∙◌}
use Rattle.std.specs.List.{flat_map}
use Rattle.std.proofs.lemmas.List.{length-map}
use Rattle.pli_typing.specs.Signatures.{Leaf}
use Rattle.pli_meaning.specs.StreamOrder.{Nest, NoNest, NestOf, Element, bounds_of_leaf, elements_inside, leaves_inside, with_more}
use Rattle.pli_shapes.specs.declared.part.Part.{Part}
use Rattle.pli_shapes.specs.Nests.{nest_from, nest_in}
use Rattle.pli_order.specs.Notes.{noted, parts_of}
use Rattle.pli_order.specs.Orders.{IsOrder}
use Rattle.pli_order.specs.Walks.{IsAt, IsWalkAt}
use Rattle.pli_order.specs.declared.note.Note.{Note}
use Rattle.pli_order.specs.declared.notes.Order.{Order}
use Rattle.pli_order.specs.declared.walk.Walk.{Walk}
use Rattle.pli_order.proofs.RowLists.{flat_same}

-- ---- depths don't matter

abbrev level : Nest → Nest
level NoNest = NoNest
level (NestOf d n inside behind) = NestOf 0 n (level inside) (level behind)

level_leaves : (nest : Nest) → leaves_inside (level nest) ≡ leaves_inside nest
level_leaves NoNest = refl
level_leaves (NestOf d n NoNest behind) = ap (λ k. 1 + k) (level_leaves behind)
level_leaves (NestOf d n (NestOf e m i b) behind) =
    ap (λ k. k + leaves_inside (level behind)) (level_leaves (NestOf e m i b)) ∙ ap (λ k. leaves_inside (NestOf e m i b) + k) (level_leaves behind)

level_elements : (nest : Nest) (leaf : ℕ) (leaves : List Leaf) (is : List ℤ) → elements_inside (level nest) leaf leaves is ≡ elements_inside nest leaf leaves is
level_elements NoNest leaf leaves is = refl
level_elements (NestOf d n NoNest behind) leaf leaves is =
    ap {A = List Element} (λ l. map (λ js. (leaf, js)) (with_more n (bounds_of_leaf leaves leaf) is) ++ l) (level_elements behind (1 + leaf) leaves is)
level_elements (NestOf d n (NestOf e m i b) behind) leaf leaves is =
    let nest = NestOf e m i b in
    let rows = with_more n (bounds_of_leaf leaves leaf) is in
    ap (λ l. l ++ elements_inside (level behind) (leaves_inside (level nest) + leaf) leaves is)
    (flat_same (λ js. elements_inside (level nest) leaf leaves js) (λ js. elements_inside nest leaf leaves js) rows (λ js. level_elements (NestOf e m i b) leaf leaves js))
    ∙ ap (λ k. flat_map (λ js. elements_inside nest leaf leaves js) rows ++ elements_inside (level behind) (k + leaf) leaves is) (level_leaves (NestOf e m i b))
    ∙ ap (λ l. flat_map (λ js. elements_inside nest leaf leaves js) rows ++ l) (level_elements behind (leaves_inside nest + leaf) leaves is)

level_noted : (ns : List Note) (depth skip size : ℕ) → level (nest_from depth (parts_of ns) skip size) ≡ noted ns skip size
level_noted [] depth skip size = refl
level_noted (n ∷ ns) depth (suc skip) size = level_noted ns depth skip size
level_noted (n ∷ ns) depth zero zero = refl
level_noted (n ∷ ns) depth zero (suc size) =
    ap (λ nest. NestOf 0 n.part.dimensions nest (level (nest_from depth (parts_of ns) n.part.inside (size - n.part.inside)))) (level_noted ns (suc depth) zero n.part.inside)
    ∙ ap (NestOf 0 n.part.dimensions (noted ns zero n.part.inside)) (level_noted ns depth n.part.inside (size - n.part.inside))

-- ---- the elements of an order

elements_of_parts : (parts : List Part) (given : ℕ) (o : Order) (leaves : List Leaf) (is : List ℤ) → IsOrder parts given o → elements_inside (nest_in parts) 0 leaves is ≡ elements_inside (noted o.notes.items 0 (length parts)) 0 leaves is
elements_of_parts parts given o leaves is h =
    sym (level_elements (nest_in parts) 0 leaves is)
    ∙ ap (λ ps. elements_inside (level (nest_from 0 ps 0 (length parts))) 0 leaves is) (sym h.same)
    ∙ ap (λ nest. elements_inside nest 0 leaves is) (level_noted o.notes.items 0 0 (length parts))

many : (parts : List Part) (given : ℕ) (o : Order) → IsOrder parts given o → length o.notes.items ≡ length parts
many parts given o h = sym (length-map o.notes.items (λ (n : Note). n.part)) ∙ ap length h.same

pub leaves_of_parts : (parts : List Part) (given : ℕ) (o : Order) → IsOrder parts given o → o.leaves ≡ leaves_inside (nest_in parts)
leaves_of_parts parts given o h =
    sym h.leaves
    ∙ ap leaves_inside (sym (level_noted o.notes.items 0 0 (length parts)))
    ∙ ap (λ ps. leaves_inside (level (nest_from 0 ps 0 (length parts)))) h.same
    ∙ level_leaves (nest_in parts)

-- ---- the walk from the first part on

-- a walk is at what it began at
abbrev pub Leads : List Note → List Leaf → (given : List ℤ) → (number : ℕ) → Walk → Type 0
Leads ns leaves given number w = (target : Option Element) → IsAt ns leaves given 0 (length ns) number target → IsWalkAt ns leaves w target

pub leads_first : (ns : List Note) (leaves : List Leaf) (given : List ℤ) (number left : ℕ) (w : Walk) → w.place ≡ 0 → w.left ≡ left → left ≡ length ns → w.number ≡ number → w.subscripts.items ≡ given → Leads ns leaves given number w
leads_first ns leaves given number left w p l m n s = λ target at.
    subst (λ k. IsAt ns leaves w.subscripts.items w.place w.left k target) (sym n)
    (subst (λ k. IsAt ns leaves w.subscripts.items w.place k number target) (sym (l ∙ m))
    (subst (λ k. IsAt ns leaves w.subscripts.items k (length ns) number target) (sym p)
    (subst (λ ks. IsAt ns leaves ks 0 (length ns) number target) (sym s) at)))

pub found_so : (parts : List Part) (o : Order) (ns : List Note) (leaves : List Leaf) (given : List ℤ) (number : ℕ) (found : Option Element) → number < 2 ^ 64 - 1 → ns ≡ o.notes.items → ((target : Option Element) → IsAt ns leaves given 0 (length ns) number target → target ≡ found) → IsOrder parts (length given) o
    → found ≡ slice_get (elements_inside (nest_in parts) 0 leaves given) number
found_so parts o ns leaves given number found small e h order =
    let size = many parts (length given) o order in
    let target = slice_get (elements_inside (noted o.notes.items 0 (length parts)) 0 leaves given) number in
    let at : IsAt o.notes.items leaves given 0 (length o.notes.items) number target =
    subst (λ k. IsAt o.notes.items leaves given 0 k number target) (sym size) (record { leaf = 0; small = small; are = order.are; same = refl }) in
    sym (h target (subst (λ ms. IsAt ms leaves given 0 (length ms) number target) (sym e) at))
    ∙ ap (λ es. slice_get es number) (sym (elements_of_parts parts (length given) o leaves given order))
