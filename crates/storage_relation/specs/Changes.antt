-- What comes of a moment by an assignment, by ALLOCATE and FREE, and when variables begin and end.
use Rattle.std.specs.Prelude.{ℕ, ◌+◌, ◌%◌, ◌^◌, ◌<◌, ◌≤◌, ◌≡◌, ◌≢◌, ◌==◌, pos, List, ◌∷◌, length, Some, true, false}
use Rattle.std.specs.Prelude.{FitsSigned, if◌then◌else◌}
use Rattle.std.specs.Int.{w32}
use Rattle.pli_meaning.specs.BasicValues.{Name, VariableName, BasicValue}
use Rattle.pli_meaning.specs.Contents.{Generation, Placed, footprint_of, gap, with_placed}
use Rattle.pli_meaning.specs.Evaluating.{Designated, first_leaf}
use Rattle.pli_meaning.specs.Placing.{with_element}
use Rattle.pli_meaning.specs.StorageState.{State, AreaContents, generation_at, with_generation, area_at, with_area}
use Rattle.pli_meaning.specs.StorageState.{Living, heap_serial, without_owner}
use Rattle.area_keeper.specs.KeptAreas.{with_part}
use Rattle.pli_types.specs.Templates.{Template}
use Rattle.pli_serving.specs.Bytes.{is_data, name_size, name_bytes}
use Rattle.pli_serving.specs.Arguments.{capacity_of}
use Rattle.pli_serving.specs.Making as G
use Rattle.pli_meaning.specs.Making.{living_at}
use Rattle.pli_serving.specs.Templates.{shape_at}
use Rattle.pli_serving.specs.Stored.{kept_bytes}
use Rattle.pli_serving.specs.AreaServices as A
use Rattle.storage_relation.specs.Telling.{AllHaveValues}
use Rattle.storage_relation.specs.Standing.{bytes_of, holder_of, Stands}
use Rattle.storage_relation.specs.Standing.{leaf_in, leaves_of, address_now, IsElementNow, IsPlain, IsValued}
use Rattle.storage_relation.specs.Stored.{Places, IsClear, Beside, with_heap_made, with_place, with_signatures}
use Rattle.storage_relation.specs.Served.{Now, call, place_now, NamesArea}
use Rattle.storage_relation.specs.Keeping.{IsStorable}

abbrev pub with_storage : State → List ℕ → Now → Now
with_storage s m w = record w { state = s; memory = m }

abbrev pub with_memory : List ℕ → Now → Now
with_memory m w = record w { memory = m }

-- bytes that no storage takes
abbrev pub IsClearNow : Now → (at count : ℕ) → Type 0
IsClearNow w at count = IsClear w.keeper w.places w.state at count

-- what any name names stands where it stood, and what any but one names
abbrev pub KeepsPlaces : (w after : Now) → Type 0
KeepsPlaces w after = (n : Name) (g : Generation) → generation_at w.state n ≡ Some g → place_now after n ≡ place_now w n

abbrev pub KeepsPlacesBut : Name → (w after : Now) → Type 0
KeepsPlacesBut gone w after =
    (n : Name) (g : Generation) → generation_at w.state n ≡ Some g → n ≢ gone → place_now after n ≡ place_now w n

-- ---- an element is assigned

-- the designated element of a generation that lives, and a value that it can keep
pub record IsAssignable (w : Now) (d : Designated) (v : BasicValue) : Type 0 where
  pub lives : generation_at w.state d.name ≡ Some d.generation
  pub plain : IsPlain d.generation
  pub element : IsElementNow d.generation d.extent d.part.first d.subscripts
  pub storable : IsStorable (first_leaf d).kind (leaf_in d.generation d.part.first).kind v

-- where it stands
abbrev pub address_of : Now → Designated → ℕ
address_of w d = address_now d.generation d.extent d.part.first d.subscripts (place_now w d.name)

-- the meaning's element has the value, and memory the bytes that are kept of it
abbrev pub assigned : Designated → BasicValue → Now → Now
assigned d v w =
    with_storage (with_generation d.name (with_element d v) w.state)
    (with_part (kept_bytes (first_leaf d).kind v) (address_of w d) w.memory) w

-- ---- areas

-- what stands for an area in a call: 0 for the heap, else where the name of an area stands
pub data GivesArea (w : Now) : (at serial : ℕ) → Type 0 where
  GivesHeap : GivesArea w 0 heap_serial
  GivesNamed : (at n : ℕ) → (at == 0) ≡ false → NamesArea w at n → GivesArea w at n

-- an area's generations become others
abbrev pub area_then : (serial : ℕ) → (List Placed → List Placed) → List ℕ → Now → Now
area_then n change new w = with_storage (with_area n change w.state) new w

-- ---- ALLOCATE

-- a generation, and a gap for it in an area or in the heap
pub record HasGap (w : Now) (n : ℕ) (g : Generation) (signature o : ℕ) : Type 0 where
  pub area : AreaContents
  pub lives : area_at w.state n ≡ Some area
  pub free : gap area.capacity (footprint_of g) area.placed ≡ Some o
  pub small : signature < 2 ^ 32
  pub fits : FitsSigned w32 g.extent
  pub shape : shape_at w.places.signatures signature ≡ Some g.shape
  pub values : AllHaveValues (leaves_of g)
  pub valued : IsValued g

-- the registers of service 10
pub record Asking : Type 0 where
  pub area : ℕ
  pub signature : ℕ
  pub extent : ℕ
  pub initial : ℕ
  pub destination : ℕ

pub record IsAsking (w : Now) (q : Asking) (n : ℕ) (g : Generation) : Type 0 where
  pub area : GivesArea w q.area n
  pub begun : A.begun (call w) q.signature q.extent q.initial ≡ Some g
  pub there : is_data w.layout q.destination name_size ≡ true

-- what is placed in the heap has made it
abbrev pub made_by : (serial : ℕ) → Places → Places
made_by n π = if n == heap_serial then with_heap_made π else π

-- the generation is placed at an offset, and memory becomes another
abbrev pub allocated : (serial offset : ℕ) → Generation → List ℕ → Now → Now
allocated n o g new w =
    record w {
      places = made_by n w.places;
      state = with_area n (with_placed (record { offset = o; generation = g })) w.state;
      memory = new;
    }

-- ---- a variable begins, and those of an activation end

-- what begins, at a fresh place, with a name that is written at another
pub record Making : Type 0 where
  pub living : Living
  pub place : ℕ
  pub number : ℕ
  pub data_bytes : List ℕ
  pub name : ℕ
  pub named : List ℕ

-- the next serial, and places at which nothing stands
pub record IsMaking (w : Now) (q : Making) : Type 0 where
  pub serial : q.living.serial ≡ w.state.serials + 1
  pub extent : q.living.generation.extent ≡ pos 0
  pub shape : shape_at w.places.signatures q.number ≡ Some q.living.generation.shape
  pub long : length q.data_bytes ≡ bytes_of w.keeper (holder_of q.living)
  pub stands : Stands w.keeper w.places.signatures (holder_of q.living) q.data_bytes
  pub behind : w.places.low ≤ q.place
  pub aligned : q.place % 4 ≡ 0
  pub room : q.place + length q.data_bytes ≤ length w.memory
  pub clear : IsClearNow w q.place (length q.data_bytes)
  pub name_room : q.name + length q.named ≤ length w.memory
  pub name_clear : IsClearNow w q.name (length q.named)
  pub beside : Beside q.place (length q.data_bytes) q.name (length q.named)

abbrev pub made : Making → Now → Now
made q w =
    record w {
      places = with_place q.living.serial q.place q.number w.places;
      state = record w.state { serials = w.state.serials + 1; living = q.living ∷ w.state.living };
      memory = with_part q.named q.name (with_part q.data_bytes q.place w.memory);
    }

-- what service 7 makes: where its name and its data go, the signature's number, the owner, and how it begins
abbrev pub variable_of : Now → (name signature place owner : ℕ) → Generation → Making
variable_of w name signature place owner g =
    record {
      living = living_at (w.state.serials + 1) owner g;
      place = place;
      number = signature;
      data_bytes = G.bytes_made (call w) place g (capacity_of g.shape);
      name = name;
      named = name_bytes (VariableName (w.state.serials + 1));
    }

abbrev pub ended : (height : ℕ) → Now → Now
ended height w = record w { state = record w.state { living = without_owner height w.state.living } }

-- ---- more signatures

abbrev pub with_table : List Template → Now → Now
with_table t w = record w { places = with_signatures t w.places }
