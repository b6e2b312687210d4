-- Generations of CONTROLLED variables: the services' lists of them and the storage machine's.
use Rattle.std.specs.Int.{w32}
use Rattle.std.specs.Prelude.{ℕ, List, [], ◌∷◌, ◌≡◌, Some, ⊤, Option, None, ◌^◌, ◌<◌, true, FitsSigned, ◌≢◌, Bool, ◌==◌}
use Rattle.std.specs.Prelude.{◌&&◌, false}
use Rattle.pli_typing.specs.Signatures.{ControlledClass}
use Rattle.pli_meaning.specs.Codes.{no_generation_code}
use Rattle.pli_meaning.specs.Contents.{Generation, placed_at, with_placed, IsOrdered, without_offset}
use Rattle.pli_meaning.specs.StorageState as M
use Rattle.pli_meaning.specs.StorageState.{State, offsets_of, Binding, heap_capacity, with_area, heap_serial}
use Rattle.pli_meaning.specs.StorageState.{with_offsets}
use Rattle.pli_serving.specs.Answers.{Done}
use Rattle.pli_serving.specs.AreaServices as A
use Rattle.pli_serving.specs.Bytes.{with_bytes, name_bytes}
use Rattle.pli_serving.specs.ControlledServices as K
use Rattle.pli_serving.specs.ServiceState.{Controlled}
use Rattle.pli_serving.specs.Templates.{shape_at}
use Rattle.storage_relation.specs.Served.{Now, call}
use Rattle.storage_relation.specs.Standing.{leaves_of, IsValued}
use Rattle.storage_relation.specs.Stored.{Places, with_heap_made}
use Rattle.storage_relation.specs.Telling.{AllHaveValues}

-- ---- the lists

abbrev pub offsets_in : List Controlled → List ℕ
offsets_in [] = []
offsets_in (k ∷ ks) = k.offset ∷ offsets_in ks

-- a generation of the list stands in the heap, has the signature of its number, and is CONTROLLED
pub record IsLive (π : Places) (s : State) (k : Controlled) : Type 0 where
  pub generation : Generation
  pub placed : placed_at s.heap k.offset ≡ Some generation
  pub number : shape_at π.signatures k.signature ≡ Some generation.shape
  pub class : generation.shape.signature.class ≡ ControlledClass

abbrev pub AllLive : Places → State → List Controlled → Type 0
AllLive π s [] = ⊤
AllLive π s (k ∷ ks) = IsLive π s k × AllLive π s ks

-- a variable, by its block and place, and its number
pub record Variable : Type 0 where
  pub block : ℕ
  pub index : ℕ

abbrev pub offsets_at : State → Variable → List ℕ
offsets_at s x = offsets_of s.controlled x.block x.index

pub record ControlledAs (w : Now) (x : Variable) (number : ℕ) : Type 0 where
  pub offsets : offsets_in (w.services.controlled number) ≡ offsets_at w.state x
  pub live : AllLive w.places w.state (w.services.controlled number)

-- ---- the newest

-- 101 where the variable stands for nothing, else the name that it stands for, and the number of its signature
pub data IsNewest (w : Now) (destination : ℕ) (ks : List Controlled) : Option Binding → Type 0 where
  NoNewest :
      K.newest_answered (call w) destination ks ≡ Done (call w).services w.memory no_generation_code destination →
      IsNewest w destination ks None
  Newest :
      (b : Binding) (signature : ℕ) → shape_at w.places.signatures signature ≡ Some b.shape →
      K.newest_answered (call w) destination ks
      ≡ Done (call w).services (with_bytes (name_bytes b.name) destination w.memory) 0 signature →
      IsNewest w destination ks (Some b)

-- ---- push

abbrev pub heap_of : State → M.AreaContents
heap_of s = record { capacity = heap_capacity; placed = s.heap }

-- a generation that begins, and the number of its signature
pub record Begins (w : Now) (number signature initial : ℕ) (g : Generation) : Type 0 where
  pub begun : A.begun (call w) signature 0 initial ≡ Some g
  pub is : K.is_controlled number ≡ true
  pub small : signature < 2 ^ 32
  pub fits : FitsSigned w32 g.extent
  pub shape_same : shape_at w.places.signatures signature ≡ Some g.shape
  pub values : AllHaveValues (leaves_of g)
  pub valued : IsValued g
  pub class : g.shape.signature.class ≡ ControlledClass

abbrev pub placed_heap : ℕ → Generation → State → State
placed_heap o g s = with_area heap_serial (with_placed (record { offset = o; generation = g })) s

-- ---- what is kept

abbrev pub HeapOrdered : State → Type 0
HeapOrdered s = IsOrdered 0 heap_capacity s.heap

-- none of these offsets
abbrev pub AreOther : (o : ℕ) → List ℕ → Type 0
AreOther o [] = ⊤
AreOther o (j ∷ js) = (j ≢ o) × AreOther o js

-- ---- afterwards

abbrev pub with_stack : Variable → List ℕ → State → State
with_stack x os s = record s { controlled = with_offsets x.block x.index os s.controlled }

abbrev pub same_variable : Variable → Variable → Bool
same_variable x y = (x.block == y.block) && (x.index == y.index)

-- after a push, as service 16 and ALLOCATE leave it
abbrev pub after_push : Now → Variable → (number : ℕ) → Controlled → Generation → List ℕ → Now
after_push w x number k g new =
    record {
      keeper = w.keeper;
      layout = w.layout;
      places = with_heap_made w.places;
      state = with_stack x (k.offset ∷ offsets_at w.state x) (placed_heap k.offset g w.state);
      services = K.with_newest number k w.services;
      memory = new;
    }

-- after a pop, as service 17 and FREE leave it
abbrev pub after_pop : Now → Variable → (number o : ℕ) → (left : List Controlled) → List ℕ → Now
after_pop w x number o left new =
    record {
      keeper = w.keeper;
      layout = w.layout;
      places = w.places;
      state = with_stack x (offsets_in left) (with_area heap_serial (without_offset o) w.state);
      services = K.with_controlled number left w.services;
      memory = new;
    }

-- ---- all CONTROLLED variables

abbrev pub AreOnce : List ℕ → Type 0
AreOnce [] = ⊤
AreOnce (o ∷ os) = AreOther o os × AreOnce os

-- none of the first list is of the second
abbrev pub AreApart : List ℕ → List ℕ → Type 0
AreApart [] js = ⊤
AreApart (o ∷ os) js = AreOther o js × AreApart os js

abbrev pub offsets_now : Now → (number : ℕ) → List ℕ
offsets_now w number = offsets_in (w.services.controlled number)

-- the lists of all numbers, by the variable of each, are the storage machine's, and no offset stands in them twice
pub record StacksStand (w : Now) (of : ℕ → Option Variable) : Type 0 where
  pub each : (i : ℕ) (x : Variable) → of i ≡ Some x → ControlledAs w x i
  pub other :
      (i j : ℕ) (x y : Variable) → of i ≡ Some x → of j ≡ Some y → i ≢ j → same_variable x y ≡ false
  pub once : (i : ℕ) (x : Variable) → of i ≡ Some x → AreOnce (offsets_now w i)
  pub apart :
      (i j : ℕ) (x y : Variable) → of i ≡ Some x → of j ≡ Some y → i ≢ j → AreApart (offsets_now w i) (offsets_now w j)
