-- An AREA variable of constant size, made in the newest block: it begins empty.
use Rattle.std.specs.Prelude.{ℕ, ◌+◌, ◌%◌, ◌^◌, ◌<◌, ◌≤◌, ◌≡◌, List, [], ◌∷◌, true, None, Some, nat_le}
use Rattle.pli_typing.specs.Signatures.{data_size}
use Rattle.pli_meaning.specs.Contents.{footprint_of}
use Rattle.pli_meaning.specs.DeclaredShapes.{initial_of, shape_of}
use Rattle.pli_meaning.specs.StorageState.{area_of_leaves, automatic_in_use, most_automatic}
use Rattle.area_keeper.specs.KeeperLaws.{greatest_capacity}
use Rattle.run_keeper.specs.RunKeeper.{run_keeper}
use Rattle.pli_serving.specs.Arguments.{capacity_of}
use Rattle.pli_serving.specs.InitialValues.{none_initial}
use Rattle.pli_serving.specs.Templates.{shape_at}
use Rattle.pli_coding.specs.Frames.{name_bytes}
use Rattle.pli_coding.specs.StaticForms.{initial_datum}
use Rattle.activation_relation.specs.Layers.{Layer, Point}
use Rattle.activation_relation.specs.Points.{Surroundings}
use Rattle.program_runs.specs.Variables.{Declared, generation_for, place_behind}

-- its name stands at the end of the frame, its data behind that, and the frame still fits between the stacks
pub record IsArea (w : Surroundings) (p : Point) (x : Declared) (φ : Layer) (φs : List Layer) : Type 0 where
  pub newest : p.control.layers ≡ φ ∷ φs
  pub here : φ.at + x.place ≡ φ.top
  -- what it holds; its data take what its keeper adds, too
  pub capacity : ℕ
  pub holds : x.place + name_bytes + run_keeper.bytes_for capacity ≤ place_behind w.parts x
  pub size : x.place + name_bytes + data_size (shape_of [] x.declared).signature ≤ place_behind w.parts x
  pub fits : φ.at + place_behind w.parts x ≤ φ.lower
  pub even : (φ.at + place_behind w.parts x) % 16 ≡ 0
  pub low : p.places.low ≤ w.parts.stack_start
  -- the table has its signature, and nothing is given to it
  pub shape : shape_at p.places.signatures x.number ≡ Some (shape_of [] x.declared)
  pub number : x.number < 2 ^ 31
  pub initial : initial_datum x.declared ≡ None
  pub none : none_initial (shape_of [] x.declared).signature.leaves ≡ initial_of x.declared
  -- it is an area
  pub area :
      area_of_leaves (shape_of [] x.declared).signature.leaves []
      ≡ Some (record { capacity = capacity; placed = [] })
  pub fixed : capacity_of (shape_of [] x.declared) ≡ Some capacity
  pub rounded : capacity % 16 ≡ 0
  pub bounded : capacity ≤ greatest_capacity
  -- its serial number has two words
  pub serial : p.state.serials + 1 < 2 ^ 64
  -- and it doesn't pass the limit on what is AUTOMATIC
  pub limit : nat_le (automatic_in_use p.state.living + footprint_of (generation_for x)) most_automatic ≡ true
