-- The services' state as a function of state and ghost, what holds at a call, and what its arguments name.
use Rattle.std.specs.Prelude.{ℕ, List, map, ◌≡◌, ◌==◌, Some, slice_get, ◌≢◌, false, length, []}
use Rattle.pli_typing.specs.TypedTree as Y
use Rattle.pli_meaning.specs.BasicValues.{Name, VariableName}
use Rattle.pli_meaning.specs.Contents.{Shape, same_shape, Generation}
use Rattle.pli_meaning.specs.StorageState as M
use Rattle.pli_meaning.specs.StorageState.{Living, State, AreaContents, heap_serial, heap_capacity}
use Rattle.pli_types.specs.Templates.{Template}
use Rattle.area_keeper.specs.Keeper.{Keeper}
use Rattle.area_keeper.specs.KeeperLaws.{Keeps}
use Rattle.pli_serving.specs.Arguments.{name_in, own_signature}
use Rattle.pli_serving.specs.Bytes.{Layout}
use Rattle.pli_serving.specs.Finding as F
use Rattle.pli_serving.specs.Finding.{Call, AreaBytes, Found, FoundAt}
use Rattle.pli_serving.specs.ServiceState as S
use Rattle.pli_serving.specs.SignatureService.{same_template}
use Rattle.pli_serving.specs.Templates.{shape_at}
use Rattle.storage_relation.specs.Standing.{AreaOf, IsElement}
use Rattle.storage_relation.specs.Stored.{Places, taken_as, slice, place_of, StoredAs, Lives}

-- ---- the services

abbrev pub served_living : Places → Living → S.Living
served_living π l = record { serial = l.serial; owner = l.owner; signature = π.number l.serial; at = π.at l.serial }

-- a call of a service, whatever else the services keep
abbrev pub asking : Keeper → Layout → Places → State → S.Services → List ℕ → Call
asking k y π s v m =
    record {
      keeper = k;
      layout = y;
      services = record v {
        serials = s.serials;
        living = map (served_living π) s.living;
        signatures = π.signatures;
        heap_made = π.heap_made;
      };
      memory = m;
    }

-- numbers of signatures are those of one shape each
abbrev pub AreDistinct : List Template → Type 0
AreDistinct t = (i j : ℕ) (a b : Shape) → shape_at t i ≡ Some a → shape_at t j ≡ Some b → same_shape a b ≡ (i == j)

-- an area as services have it
abbrev pub area_bytes_of : Keeper → Places → List ℕ → (n : ℕ) → AreaContents → AreaBytes
area_bytes_of k π m n a = record { at = π.at n; bytes = taken_as k π n (slice k π n (AreaOf a) m) }

-- ---- what services find

-- where the layout has the heap
pub record HasHeap (y : Layout) (π : Places) : Type 0 where
  pub at : y.heap_at ≡ π.at heap_serial
  pub capacity : y.heap_capacity ≡ heap_capacity

-- where services find what a name names
pub record IsFound (k : Keeper) (y : Layout) (π : Places) (s : State) (v : S.Services) (m : List ℕ) (n : Name)
    (g : Generation) : Type 0 where
  pub found : Found
  pub is : F.found (asking k y π s v m) n ≡ FoundAt found
  pub at : found.at ≡ place_of k π s m n
  pub shape : shape_at π.signatures found.signature ≡ Some g.shape
  pub extent : found.extent ≡ g.extent

-- no template has two numbers
abbrev pub AllDiffer : List Template → Type 0
AllDiffer t =
    (i j : ℕ) (a b : Template) → slice_get t i ≡ Some a → slice_get t j ≡ Some b → same_template a b ≡ (i == j)

-- ---- at a call

-- what stands when a service is called: what the services know of storage is read off the state and the ghost
pub record Now : Type 0 where
  pub keeper : Keeper
  pub layout : Layout
  pub places : Places
  pub state : State
  pub services : S.Services
  pub memory : List ℕ

abbrev pub call : Now → Call
call w = asking w.keeper w.layout w.places w.state w.services w.memory

-- memory has what the storage machine has
pub record Holds (w : Now) : Type 0 where
  pub keeps : Keeps w.keeper
  pub heap : HasHeap w.layout w.places
  pub lives : Lives w.places w.state
  pub stored : StoredAs w.keeper w.places w.state w.memory
  pub distinct : AreDistinct w.places.signatures

abbrev pub FoundFor : (w : Now) → Name → Generation → Type 0
FoundFor w n g = IsFound w.keeper w.layout w.places w.state w.services w.memory n g

abbrev pub place_now : Now → Name → ℕ
place_now w n = place_of w.keeper w.places w.state w.memory n

-- ---- arguments

-- the name of an area that lives stands at an address
pub record NamesArea (w : Now) (at n : ℕ) : Type 0 where
  pub some : n ≢ heap_serial
  pub name : name_in (call w) at ≡ Some (VariableName n)
  pub area : AreaContents
  pub lives : M.area_at w.state n ≡ Some area

-- a signature's number, and not the one that means a variable's own
pub record IsNumberOf (w : Now) (number : ℕ) (shape : Shape) : Type 0 where
  pub shape_same : shape_at w.places.signatures number ≡ Some shape
  pub own : (number == own_signature) ≡ false

abbrev pub whole_of : Shape → Y.Part
whole_of s = record { first = 0; count = length s.signature.leaves }

-- where REFER's member is a member, it is an element
abbrev pub HasMember : Generation → Type 0
HasMember g = (member : ℕ) → g.shape.refer ≡ Some member → IsElement g member []
