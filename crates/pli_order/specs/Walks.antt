-- The walk to the element of a number.
use Rattle.std.specs.Prelude.{◌≡◌, ℕ, ◌+◌, ◌-◌, ◌*◌, ◌/◌, ◌%◌, ◌^◌, ◌≤◌, ◌<◌, ℤ, List, length, drop, Option, Some, None, slice_get}
use Rattle.pli_typing.specs.Signatures.{Leaf, capped}
use Rattle.pli_meaning.specs.StreamOrder.{Element, bounds_of_leaf, elements_inside, with_more}
use Rattle.pli_order.specs.Notes.{AreNoted, noted}
use Rattle.pli_order.specs.Orders.{element_shown}
use Rattle.pli_order.specs.declared.note.Note.{Note}
use Rattle.pli_order.specs.declared.turn.Turn.{Turn}
use Rattle.pli_order.specs.declared.turn.Turn.TheVariants as T
use Rattle.pli_order.specs.declared.walk.Step.{Step}
use Rattle.pli_order.specs.declared.walk.Step.TheVariants as S
use Rattle.pli_order.specs.declared.walk.Walk.{Walk}

-- past all elements of a part, or in one of its rows
abbrev pub IsTurn : (rows each number : ℕ) → Turn → Type 0
IsTurn rows each number (T.Past rest) = (capped (rows * each) ≤ number) × (capped (rows * each) + rest ≡ number)
IsTurn rows each number (T.Into row rest) = (number < capped (rows * each)) × (row ≡ number / each) × (rest ≡ number % each)

-- what is looked for is the element of a number among so many parts from a place on, behind these subscripts
pub record IsAt (ns : List Note) (leaves : List Leaf) (is : List ℤ) (place left number : ℕ) (target : Option Element) : Type 0 where
  pub leaf : ℕ
  pub small : number < 2 ^ 64 - 1
  pub are : AreNoted (drop place ns) 0 left (length is) leaf
  pub same : slice_get (elements_inside (noted (drop place ns) 0 left) leaf leaves is) number ≡ target

abbrev pub IsWalkAt : List Note → List Leaf → Walk → Option Element → Type 0
IsWalkAt ns leaves w target = IsAt ns leaves w.subscripts.items w.place w.left w.number target

-- the subscripts of a row of a part, behind others
abbrev pub row_in : List Leaf → Note → (given : List ℤ) → (row : ℕ) → Option (List ℤ)
row_in leaves n is row = slice_get (with_more n.part.dimensions (bounds_of_leaf leaves n.leaf) is) row

-- in a row of a part: with its subscripts at the parts inside, or at an element
abbrev pub IsEntered : List Leaf → Note → (row rest : ℕ) → (old new : Walk) → Step → Type 0
IsEntered leaves n row rest w v S.On =
    (row_in leaves n w.subscripts.items row ≡ Some v.subscripts.items) × (0 < n.part.inside)
    × (v.place ≡ w.place + 1) × (v.left ≡ n.part.inside) × (v.number ≡ rest)
IsEntered leaves n row rest w v (S.Found e) =
    (row_in leaves n w.subscripts.items row ≡ Some e.subscripts.items) × (n.part.inside ≡ 0) × (e.leaf ≡ n.leaf)
IsEntered leaves n row rest w v S.Nothing = row_in leaves n w.subscripts.items row ≡ None

abbrev pub IsStep : List Note → List Leaf → (old new : Walk) → Step → Type 0
IsStep ns leaves w v S.On =
    (v.place + v.left ≤ length ns) × (v.left < w.left)
    × ((target : Option Element) → IsWalkAt ns leaves w target → IsWalkAt ns leaves v target)
IsStep ns leaves w v (S.Found e) = (target : Option Element) → IsWalkAt ns leaves w target → target ≡ Some (element_shown e)
IsStep ns leaves w v S.Nothing = (target : Option Element) → IsWalkAt ns leaves w target → target ≡ None
