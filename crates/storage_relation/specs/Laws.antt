-- The laws of what is stored: values in bytes, elements, names, areas, and what begins and ends.
use Rattle.pli_meaning.specs.Codes.{no_generation_code, not_in_area_code}
use Rattle.std.specs.Prelude.{nat_lt, ◌⊎◌, ℕ, suc, ◌+◌, ◌%◌, ◌/◌, ◌^◌, ◌<◌, ◌≤◌, ◌≡◌, ◌≢◌, ◌==◌, ◌&&◌, ℤ, Bool, true}
use Rattle.std.specs.Prelude.{false, nat_le, List, [], ◌∷◌, length, Option, Some, None, if◌then◌else◌}
use Rattle.std.specs.Int.{w16, cast_signed}
use Rattle.std.specs.List.{filter}
use Rattle.rv_meaning.specs.Memory.{load, store}
use Rattle.rv_meaning.specs.Words.{word, flag}
use Rattle.pli_typing.specs.Signatures.{LeafKind, Fixed, Varying, Bit, Pointer, Offset}
use Rattle.pli_meaning.specs.BasicValues.{Name, BasedName, BasicValue, BasicNumber, BasicText}
use Rattle.pli_meaning.specs.BasicValues.{BasicBit, BasicPointer, BasicOffset}
use Rattle.pli_meaning.specs.Codes.{area_code, heap_full_code}
use Rattle.pli_meaning.specs.Contents.{Shape, Generation, same_name, footprint_of, gap, greatest_end}
use Rattle.pli_meaning.specs.Contents.{without_offset, Placed}
use Rattle.pli_meaning.specs.Evaluating.{Designated}
use Rattle.pli_meaning.specs.Placing.{with_element}
use Rattle.pli_meaning.specs.StorageState as M
use Rattle.pli_meaning.specs.StorageState.{State, Living, AreaContents, generation_at, with_generation, area_at}
use Rattle.pli_meaning.specs.StorageState.{area_of_leaves, heap_serial, living_of, without_owner}
use Rattle.pli_meaning.specs.Making.{living_at}
use Rattle.pli_types.specs.Templates.{Template}
use Rattle.area_keeper.specs.Keeper.{Keeper}
use Rattle.area_keeper.specs.KeptAreas.{with_part}
use Rattle.area_keeper.specs.KeeperLaws.{Keeps, greatest_capacity}
use Rattle.pli_serving.specs.Answers.{Done}
use Rattle.pli_serving.specs.AreaServices as A
use Rattle.pli_serving.specs.Arguments.{name_in, area_if}
use Rattle.pli_serving.specs.Bytes.{bytes_at, name_bytes, offset_word}
use Rattle.pli_serving.specs.Finding as F
use Rattle.pli_serving.specs.ServiceState as S
use Rattle.pli_serving.specs.Stored.{kept_bytes}
use Rattle.pli_serving.specs.Templates.{shape_at}
use Rattle.pli_serving.specs.Values.{value_at, generation_bytes}
use Rattle.storage_relation.specs.Telling.{Tells, HasWords, AllHaveValues, kind_word, offset_word_of, serial_word}
use Rattle.storage_relation.specs.Standing.{leaves_of, leaf_in, address_now, IsElementNow, IsPlain, IsValued, bytes_of}
use Rattle.storage_relation.specs.Standing.{holder_of, heap_holder, Stands}
use Rattle.storage_relation.specs.Stored.{AreLow, Beside, Region, InRegions, IsUntold}
use Rattle.storage_relation.specs.Served.{Now, Holds, call, FoundFor, place_now, NamesArea, IsNumberOf}
use Rattle.storage_relation.specs.Changes.{with_memory, IsAssignable, assigned, area_then, Asking, IsAsking}
use Rattle.storage_relation.specs.Changes.{IsClearNow, KeepsPlaces, KeepsPlacesBut, HasGap, allocated, Making, IsMaking}
use Rattle.storage_relation.specs.Changes.{made}
use Rattle.storage_relation.specs.Changes.{ended}
use Rattle.storage_relation.specs.Changes.{variable_of}
use Rattle.pli_serving.specs.Making as G
use Rattle.pli_serving.specs.Bytes.{is_data, name_size}
use Rattle.pli_serving.specs.Arguments.{data_bytes}
use Rattle.pli_meaning.specs.StorageState.{most_automatic, automatic_in_use}

-- ---- values

-- what services read where bytes tell a value, and what the machine loads there
pub record ValuesTold : Type 0 where
  pub values : (kind : LeafKind) (v : BasicValue) (at : ℕ) (m : List ℕ) → Tells kind v at m → value_at kind at m ≡ v
  pub halves :
      (p at : ℕ) (z : ℤ) (m : List ℕ) → nat_le p 15 ≡ true → Tells (Fixed p) (BasicNumber z) at m →
      cast_signed w16 (load 2 m at) ≡ z
  pub words :
      (p at : ℕ) (z : ℤ) (m : List ℕ) → nat_le p 15 ≡ false → Tells (Fixed p) (BasicNumber z) at m →
      load 4 m at ≡ word z
  pub bits : (at : ℕ) (b : Bool) (m : List ℕ) → Tells Bit (BasicBit b) at m → load 1 m at ≡ flag b
  pub offsets :
      (at : ℕ) (o : Option ℕ) (m : List ℕ) → Tells Offset (BasicOffset o) at m → load 4 m at ≡ offset_word o
  pub texts :
      (n at : ℕ) (t : List ℕ) (m : List ℕ) → Tells (Varying n) (BasicText t) at m →
      (load 2 m at ≡ length t) × (bytes_at (load 2 m at) (at + 2) m ≡ t)
  -- a name is its four words
  pub names : (n : Name) (at : ℕ) (m : List ℕ) → Tells Pointer (BasicPointer n) at m → HasWords n at m
  pub same_names :
      (a b : Name) →
      same_name a b
      ≡ (kind_word a == kind_word b)
      && ((offset_word_of a == offset_word_of b)
      && ((serial_word a % 2 ^ 32 == serial_word b % 2 ^ 32) && (serial_word a / 2 ^ 32 == serial_word b / 2 ^ 32)))

-- what is kept of a number or a bit is what the machine's stores write
pub record ValuesStored : Type 0 where
  pub halves :
      (p : ℕ) (z : ℤ) (at : ℕ) (m : List ℕ) → nat_le p 15 ≡ true → at + 2 ≤ length m →
      with_part (kept_bytes (Fixed p) (BasicNumber z)) at m ≡ store 2 m at (word z)
  pub words :
      (p : ℕ) (z : ℤ) (at : ℕ) (m : List ℕ) → nat_le p 15 ≡ false → at + 4 ≤ length m →
      with_part (kept_bytes (Fixed p) (BasicNumber z)) at m ≡ store 4 m at (word z)
  pub bits :
      (b : Bool) (at : ℕ) (m : List ℕ) → at + 1 ≤ length m →
      with_part (kept_bytes Bit (BasicBit b)) at m ≡ store 1 m at (flag b)

-- ---- elements

-- elements of generations that live, wherever these live
pub record ElementsHeld : Type 0 where
  -- memory tells the value that the storage machine has, at an address where words can be loaded
  pub read :
      (w : Now) → Holds w → (n : Name) (g : Generation) (z : ℤ) (leaf : ℕ) (is : List ℤ) →
      generation_at w.state n ≡ Some g → IsPlain g → IsElementNow g z leaf is →
      Tells (leaf_in g leaf).kind (g.values leaf is) (address_now g z leaf is (place_now w n)) w.memory
      × (address_now g z leaf is (place_now w n) % 4 ≡ 0)
  -- an assignment keeps all that is stored, and changes nothing of the services' state
  pub kept : (w : Now) → Holds w → (d : Designated) (v : BasicValue) → IsAssignable w d v → Holds (assigned d v w)
  pub served : (w : Now) (d : Designated) (v : BasicValue) → (call (assigned d v w)).services ≡ (call w).services
  -- then the name names the changed generation, and what any name names stands where it stood
  pub found :
      (s : State) (d : Designated) (v : BasicValue) → generation_at s d.name ≡ Some d.generation →
      generation_at (with_generation d.name (with_element d v) s) d.name ≡ Some (with_element d v d.generation)
  pub stays :
      (w : Now) → Holds w → (d : Designated) (v : BasicValue) → IsAssignable w d v → KeepsPlaces w (assigned d v w)

-- ---- names

-- services find by a name what the storage machine has by it
pub record NamesFound : Type 0 where
  pub found : (w : Now) → Holds w → (n : Name) (g : Generation) → generation_at w.state n ≡ Some g → FoundFor w n g
  pub unfound :
      (w : Now) → Holds w → (n : Name) → generation_at w.state n ≡ None → F.found (call w) n ≡ F.NotLiving
  -- also with a signature
  pub named :
      (w : Now) → Holds w → (n : Name) (number : ℕ) (shape : Shape) (g : Generation) →
      shape_at w.places.signatures number ≡ Some shape → M.named w.state n shape ≡ Some g →
      (i : FoundFor w n g) × (F.named (call w) n number ≡ F.FoundAt i.found)
  pub unnamed :
      (w : Now) → Holds w → (n : Name) (number : ℕ) (shape : Shape) →
      shape_at w.places.signatures number ≡ Some shape → M.named w.state n shape ≡ None →
      F.named (call w) n number ≡ F.NotLiving

-- ---- bytes that no storage takes

-- a write in bytes that are clear of storage leaves all that is stored, and all stands where it stood
pub record WritesApart : Type 0 where
  pub holds :
      (w : Now) → Holds w → (at : ℕ) (new : List ℕ) → IsClearNow w at (length new) →
      at + length new ≤ length w.memory → Holds (with_memory (with_part new at w.memory) w)
  pub stays :
      (w : Now) → Holds w → (at : ℕ) (new : List ℕ) → IsClearNow w at (length new) →
      at + length new ≤ length w.memory → (n : Name) →
      place_now (with_memory (with_part new at w.memory) w) n ≡ place_now w n

-- such bytes stay clear, whatever changes, but for those that a new variable takes
pub record ClearStays : Type 0 where
  pub stored :
      (w : Now) → Holds w → (d : Designated) (v : BasicValue) → IsAssignable w d v → (at count : ℕ) →
      IsClearNow w at count → IsClearNow (assigned d v w) at count
  pub areas :
      (w : Now) (n : ℕ) (a : AreaContents) (change : List Placed → List Placed) (new : List ℕ) →
      area_at w.state n ≡ Some a → (at count : ℕ) → IsClearNow w at count →
      IsClearNow (area_then n change new w) at count
  pub placed :
      (w : Now) (n o : ℕ) (a : AreaContents) (g : Generation) (new : List ℕ) → area_at w.state n ≡ Some a →
      (at count : ℕ) → IsClearNow w at count → IsClearNow (allocated n o g new w) at count
  pub begun :
      (w : Now) (q : Making) → IsMaking w q → (at count : ℕ) → Beside q.place (length q.data_bytes) at count →
      IsClearNow w at count → IsClearNow (made q w) at count
  pub gone :
      (w : Now) → Holds w → (height at count : ℕ) → IsClearNow w at count → IsClearNow (ended height w) at count
  -- more is clear once something has ended: all that lies beside the heap, the regions of those that own something and
  -- what is told
  pub regions :
      (w : Now) (region : ℕ → Region) (at count : ℕ) → InRegions w.keeper w.places w.state region →
      Beside (w.places.at heap_serial) (bytes_of w.keeper (heap_holder w.state.heap)) at count →
      ((n : ℕ) (l : Living) → living_of w.state.living n ≡ Some l →
      ((region l.owner).to ≤ at) ⊎ (at + count ≤ (region l.owner).from)) →
      IsUntold w.places at count → IsClearNow w at count
  pub owned :
      (w : Now) → Holds w → (region : ℕ → Region) (height : ℕ) → InRegions w.keeper w.places w.state region →
      InRegions w.keeper w.places (ended height w).state region

-- ---- areas

-- services 10 to 13 answer with what the storage machine comes to
pub record AreasServed : Type 0 where
  pub placed :
      (w : Now) → Holds w → (q : Asking) (n o : ℕ) (g : Generation) → IsAsking w q n g → HasGap w n g q.signature o →
      (new : List ℕ) × Holds (allocated n o g new w) × KeepsPlaces w (allocated n o g new w)
      × (A.allocate_served (call w) q.area q.signature q.extent q.initial q.destination
      ≡ Done (call (allocated n o g new w)).services (with_part (name_bytes (BasedName n o)) q.destination new) q.area
      0)
  -- the new name names what was placed
  pub named :
      (w : Now) (n o : ℕ) (g : Generation) (new : List ℕ) (a : AreaContents) → Holds (allocated n o g new w) →
      area_at w.state n ≡ Some a → generation_at (allocated n o g new w).state (BasedName n o) ≡ Some g
  -- an area that changes changes nothing of the services' state
  pub served :
      (w : Now) (n : ℕ) (change : List Placed → List Placed) (new : List ℕ) →
      (call (area_then n change new w)).services ≡ (call w).services
  -- where there is no gap nothing changes
  pub full :
      (w : Now) → Holds w → (q : Asking) (n : ℕ) (g : Generation) (a : AreaContents) → IsAsking w q n g →
      area_at w.state n ≡ Some a → gap a.capacity (footprint_of g) a.placed ≡ None →
      A.allocate_served (call w) q.area q.signature q.extent q.initial q.destination
      ≡ Done (call w).services w.memory q.area (if n == heap_serial then heap_full_code else area_code)
  pub freed :
      (w : Now) → Holds w → (name number area n o : ℕ) (within : Option ℕ) (shape : Shape) (g : Generation) →
      IsNumberOf w number shape → name_in (call w) name ≡ Some (BasedName n o) → area_if (call w) area ≡ Some within →
      A.is_given n within ≡ true → M.named w.state (BasedName n o) shape ≡ Some g →
      (new : List ℕ) × Holds (area_then n (without_offset o) new w)
      × KeepsPlacesBut (BasedName n o) w (area_then n (without_offset o) new w)
      × (A.free_served (call w) name number area ≡ Done (call w).services new name 0)
  -- a generation that doesn't live, or that isn't in the area that is given, isn't freed
  pub absent :
      (w : Now) → Holds w → (name number area : ℕ) (n : Name) (within : Option ℕ) (shape : Shape) →
      IsNumberOf w number shape → name_in (call w) name ≡ Some n → area_if (call w) area ≡ Some within →
      M.named w.state n shape ≡ None →
      A.free_served (call w) name number area ≡ Done (call w).services w.memory name no_generation_code
  pub elsewhere :
      (w : Now) → Holds w → (name number area n o : ℕ) (within : Option ℕ) (shape : Shape) (g : Generation) →
      IsNumberOf w number shape → name_in (call w) name ≡ Some (BasedName n o) → area_if (call w) area ≡ Some within →
      A.is_given n within ≡ false → M.named w.state (BasedName n o) shape ≡ Some g →
      A.free_served (call w) name number area ≡ Done (call w).services w.memory name not_in_area_code
  pub copied :
      (w : Now) → Holds w → (target source i j : ℕ) (to : NamesArea w target i) (from : NamesArea w source j) →
      i ≢ j → greatest_end from.area.placed ≤ to.area.capacity →
      (new : List ℕ) × Holds (area_then i (λ placed. from.area.placed) new w)
      × (A.area_assignment_served (call w) target source ≡ Done (call w).services new target 0)
  -- an area that is too small stays as it was
  pub refused :
      (w : Now) → Holds w → (target source i j : ℕ) (to : NamesArea w target i) (from : NamesArea w source j) →
      i ≢ j → to.area.capacity < greatest_end from.area.placed →
      A.area_assignment_served (call w) target source ≡ Done (call w).services w.memory target area_code
  pub emptied :
      (w : Now) → Holds w → (at x n : ℕ) → NamesArea w at n →
      (new : List ℕ) × Holds (area_then n (λ placed. []) new w)
      × (A.empty_served (call w) at x ≡ Done (call w).services new at x)

-- ---- variables

-- what begins keeps all that is stored, and so does the end of an activation's variables
pub record VariablesLive : Type 0 where
  pub begun : (w : Now) → Holds w → (q : Making) → IsMaking w q → Holds (made q w)
  pub gone : (w : Now) → Holds w → (height : ℕ) → Holds (ended height w)
  -- a generation begins in the bytes that services spell, and an area in those that its keeper makes
  pub spelled :
      (k : Keeper) (t : List Template) (serial owner : ℕ) (g : Generation) → IsPlain g →
      AllHaveValues (leaves_of g) → IsValued g →
      (length (generation_bytes g) ≡ bytes_of k (holder_of (living_at serial owner g)))
      × Stands k t (holder_of (living_at serial owner g)) (generation_bytes g)
  pub areas :
      (k : Keeper) → Keeps k → (t : List Template) (serial owner capacity : ℕ) (g : Generation) (old : List ℕ) →
      area_of_leaves g.shape.signature.leaves [] ≡ Some (record { capacity = capacity; placed = [] }) →
      capacity % 16 ≡ 0 → capacity ≤ greatest_capacity → length old ≡ k.bytes_for capacity →
      (length (k.made capacity old) ≡ bytes_of k (holder_of (living_at serial owner g)))
      × Stands k t (holder_of (living_at serial owner g)) (k.made capacity old)
  -- service 7, behind its arguments: it answers with the variable that lives then, where the limit isn't passed
  pub answered :
      (w : Now) → Holds w → (name signature place owner : ℕ) (g : Generation) →
      IsMaking w (variable_of w name signature place owner g) → G.passes_limit (call w).services owner g ≡ false →
      nat_lt (w.state.serials + 1) (2 ^ 64) ≡ true →
      (is_data w.layout place (data_bytes w.keeper g.shape) ≡ true) × (is_data w.layout name name_size ≡ true) →
      Holds (made (variable_of w name signature place owner g) w)
      × (G.limited (call w) name signature place owner g
      ≡ Done (call (made (variable_of w name signature place owner g) w)).services
      (made (variable_of w name signature place owner g) w).memory name signature)
  -- which is the storage machine's
  pub limit :
      (w : Now) → Holds w → (owner : ℕ) (g : Generation) →
      G.passes_limit (call w).services owner g
      ≡ (if owner == 0 then false else nat_lt most_automatic (automatic_in_use w.state.living + footprint_of g))
  -- the services' list of what lives, then
  pub served :
      (w : Now) → Holds w → (q : Making) → IsMaking w q →
      (call (made q w)).services.living
      ≡ record { serial = q.living.serial; owner = q.living.owner; signature = q.number; at = q.place }
      ∷ (call w).services.living
  pub left :
      (w : Now) (height : ℕ) → AreLow (suc height) w.state.living →
      (call (ended (suc height) w)).services.living
      ≡ filter (λ (l : S.Living). nat_le l.owner height) (call w).services.living
