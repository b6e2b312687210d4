-- The parts of variables that shapes say are those of the definitions.
use Rattle.std.proofs.Common.{◌≡◌, ◌∙◌, ℕ, Bool, true, false, List, [], ◌∷◌, length, map, refl, sym, ap, ap₂}
use Rattle.std.proofs.Common.{append_assoc, append-nil}
use Rattle.std.specs.Prelude.{◌&&◌, drop}
use Rattle.pli_language.specs.Declarations.{Held, Block}
use Rattle.pli_typing.specs.Variables.{all_dimensions}
use Rattle.pli_typing.specs.Calls.{without_first, leaf_of_element, part_designated}
use Rattle.pli_typing.specs.TypedTree as Y
use Rattle.pli_typing.specs.TypedView.{leaf_of}
use Rattle.pli_typing.specs.declared.typed.Leaf.{Leaf}
use Rattle.pli_operand.specs.Shown.{leaf_behind}
use Rattle.pli_typing.specs.Converting.{Designated}
use Rattle.pli_variables.specs.declared.shape.Shape.{Shape as ShapeHeld}
use Rattle.pli_variables.specs.Shapes.{shape}
use Rattle.pli_variables.specs.ShownShapes.{shape_of}
use Rattle.pli_reference.specs.Parts.{designated_by, part_by, whole_by}

pub leaves_behind : (n : ℕ) (leaves : List Leaf) → map (λ l. leaf_behind n (leaf_of l)) leaves ≡ map (leaf_behind n) (map leaf_of leaves)
leaves_behind n [] = refl
leaves_behind n (l ∷ ls) = ap (λ rest. leaf_behind n (leaf_of l) ∷ rest) (leaves_behind n ls)

without_is_drop : {X : Type 0} (bounds : List Y.Bounds) (xs : List X) → without_first bounds xs ≡ drop (length xs) bounds
without_is_drop bounds [] = refl
without_is_drop [] (x ∷ xs) = refl
without_is_drop (b ∷ bounds) (x ∷ xs) = without_is_drop bounds xs

all_kept : (leaves : List Y.Leaf) → map (leaf_behind 0) leaves ≡ leaves
all_kept [] = refl
all_kept (l ∷ ls) = ap (λ rest. l ∷ rest) (all_kept ls)

of_elements : (h : Held) (leaves : List Y.Leaf) → map (leaf_behind (length (all_dimensions h))) leaves ≡ map (leaf_of_element h) leaves
of_elements h [] = refl
of_elements h (l ∷ ls) = ap₂ (λ bs rest. record { type = l.type; bounds = bs; initial = l.initial } ∷ rest) (sym (without_is_drop l.bounds (all_dimensions h))) (of_elements h ls)

pub part_is : (blocks : List Block) (b : ℕ) (h : Held) (locator : Y.Locator) (is_element : Bool) (subscripts : Y.Numbers) → part_by (shape blocks b h) locator is_element subscripts ≡ part_designated blocks b h locator is_element subscripts
part_is blocks b h locator true subscripts = ap (λ ls. record { reference = (part_designated blocks b h locator true subscripts).reference; leaves = ls; dimensions = 0; has_members = (shape blocks b h).has_members; is_whole = (part_designated blocks b h locator true subscripts).is_whole }) (of_elements h (shape blocks b h).leaves)
part_is blocks b h locator false subscripts = ap (λ ls. record { reference = (part_designated blocks b h locator false subscripts).reference; leaves = ls; dimensions = (shape blocks b h).dimensions; has_members = (shape blocks b h).has_members; is_whole = (part_designated blocks b h locator false subscripts).is_whole }) (all_kept (shape blocks b h).leaves)

pub whole_is : (blocks : List Block) (b : ℕ) (h : Held) → whole_by (shape blocks b h) ≡ part_designated blocks b h Y.NotLocated false Y.NoNumber
whole_is blocks b h = part_is blocks b h Y.NotLocated false Y.NoNumber

pub and_true : (b : Bool) → (b && true) ≡ b
and_true true = refl
and_true false = refl

pub and_false : (b : Bool) → (b && false) ≡ false
and_false true = refl
and_false false = refl

abbrev shown : Y.Reference → ℕ → Bool → Bool → List Y.Leaf → Designated
shown r n members is_whole leaves = record { reference = r; leaves = leaves; dimensions = n; has_members = members; is_whole = is_whole }

abbrev leaves_from : ℕ → List Leaf → List Y.Leaf
leaves_from n leaves = map (λ l. leaf_behind n (leaf_of l)) leaves

pub element_shown : (s : ShapeHeld) (r : Y.Reference) (leaves : List Leaf) → map leaf_of leaves ≡ (shape_of s).leaves → shown r 0 s.has_members false (leaves_from s.dimensions leaves) ≡ designated_by (shape_of s) r true
element_shown s r leaves e = ap₂ (shown r 0 s.has_members) (sym (and_false s.is_alone)) (leaves_behind s.dimensions leaves ∙ ap (map (leaf_behind s.dimensions)) e)

pub whole_shown : (s : ShapeHeld) (r : Y.Reference) (leaves : List Leaf) → map leaf_of leaves ≡ (shape_of s).leaves → shown r s.dimensions s.has_members s.is_alone (leaves_from 0 leaves) ≡ designated_by (shape_of s) r false
whole_shown s r leaves e = ap₂ (shown r s.dimensions s.has_members) (sym (and_true s.is_alone)) (leaves_behind 0 leaves ∙ ap (map (leaf_behind 0)) e)

-- lists that are put together
pub ruleset lists = (append_assoc, append-nil)
