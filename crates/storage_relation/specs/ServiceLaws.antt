-- The laws of services over what is stored: locators, elements by number, CONTROLLED, and how generations begin.
use Rattle.std.specs.Prelude.{◌≡◌, ℕ, ◌+◌, ◌≤◌, List, length, true, ◌^◌, ◌<◌, [], ◌∷◌, ℤ, map, Option, Some, None}
use Rattle.std.specs.Prelude.{false, ◌≢◌, cond, slice_get, ◌*◌}
use Rattle.rv_meaning.specs.Memory.{bytes_of_words}
use Rattle.rv_meaning.specs.Tables.{TableSignature}
use Rattle.pli_language.specs.Tree.{InitialItem}
use Rattle.pli_typing.specs.Signatures.{PlainClass}
use Rattle.pli_typing.specs.TypedTree as Y
use Rattle.pli_meaning.specs.BasicValues.{Name, BasicValue, BasedName}
use Rattle.pli_meaning.specs.Codes.{no_generation_code, heap_full_code, shape_code}
use Rattle.pli_meaning.specs.Contents.{Generation, fresh, Placed, footprint_of, gap, without_offset, Shape, leaves_with}
use Rattle.pli_meaning.specs.DeclaredShapes.{shape_of, initial_of}
use Rattle.pli_meaning.specs.Evaluating.{Designated, leaf_at, extent_in_force, pointer_into, offset_in_passed}
use Rattle.pli_meaning.specs.Placing.{refer_extent, elements_of, part_bounds, with_elements, refer_fits}
use Rattle.pli_meaning.specs.Placing.{first_generation, all_same_bounds}
use Rattle.pli_meaning.specs.StorageState as M
use Rattle.pli_meaning.specs.StorageState.{generation_at, with_generation, heap_serial, heap_capacity, first_state}
use Rattle.pli_meaning.specs.StorageState.{newest_in}
use Rattle.pli_meaning.specs.StreamOrder.{Nest, Element, nest_of, leaves_inside, elements_inside}
use Rattle.pli_meaning.specs.Streaming.{element_holds}
use Rattle.pli_types.specs.Templates.{Template}
use Rattle.area_keeper.specs.Keeper.{Keeper}
use Rattle.area_keeper.specs.KeeperLaws.{Keeps}
use Rattle.pli_serving.specs.AggregateServices.{leaves_go_into, taken_leaf, leaves_put, elements_set}
use Rattle.pli_serving.specs.Aggregates.{Aggregate, subscripts_given, part_of_leaves, leaf_numbers}
use Rattle.pli_serving.specs.Answers.{Done}
use Rattle.pli_serving.specs.AreaServices as A
use Rattle.pli_serving.specs.Arguments.{name_in, area_if}
use Rattle.pli_serving.specs.Bytes.{is_data, name_size, with_bytes, name_bytes, offset_word}
use Rattle.pli_serving.specs.ControlledServices as K
use Rattle.pli_serving.specs.ElementService.{item_shape_at, elements_by, element_answered, element_served, no_element}
use Rattle.pli_serving.specs.Finding as F
use Rattle.pli_serving.specs.Finding.{Call}
use Rattle.pli_serving.specs.InitialValues.{initial_values}
use Rattle.pli_serving.specs.Names.{offset_answered, locator_served, refer_answered, refer_served}
use Rattle.pli_serving.specs.Outcomes.{answering, with_entries}
use Rattle.pli_serving.specs.ServiceState as S
use Rattle.pli_serving.specs.ServiceState.{Controlled, TakenLeaf, Entry}
use Rattle.pli_serving.specs.SignatureService.{number_of, with_template}
use Rattle.pli_serving.specs.Templates as T
use Rattle.pli_serving.specs.Templates as T
use Rattle.pli_serving.specs.Templates.{shape_at, template_of}
use Rattle.pli_serving.specs.Values.{element_size}
use Rattle.pli_coding.specs.SignatureTable.{table_of}
use Rattle.pli_coding.specs.StaticData.{PlacedDatum}
use Rattle.pli_coding.specs.StaticForms.{initial_datum, part_words, part_in, shape_datum, words_datum}
use Rattle.storage_relation.specs.Beginning.{read_items, AllNoEmpty, IsAsked, generation_read, HasBytes, place_if}
use Rattle.storage_relation.specs.Beginning.{IsLaid}
use Rattle.storage_relation.specs.Changes.{with_memory, assigned, area_then, allocated, Making, made, ended, with_table}
use Rattle.storage_relation.specs.Changes.{with_storage}
use Rattle.storage_relation.specs.Controlled.{Begins, offsets_in, Variable, offsets_at, ControlledAs, IsNewest}
use Rattle.storage_relation.specs.Controlled.{same_variable, after_push, after_pop, StacksStand}
use Rattle.storage_relation.specs.Fills.{Fills, Grows, IsFill, most_filled}
use Rattle.storage_relation.specs.ItemShapes.{AreWords, part_nest, part_shape, shape_words}
use Rattle.storage_relation.specs.Keeping.{AreSound, AreInitial}
use Rattle.storage_relation.specs.Numbered.{IsMeant, element_of, IsListed, described, Numbered, IsNumbered}
use Rattle.storage_relation.specs.Parts.{part_of, IsPlaced, GoesInto, meant_of, one_leaf, HasPart, IsTakenFrom}
use Rattle.storage_relation.specs.Served.{Now, call, place_now, NamesArea, Holds, FoundFor, IsNumberOf, AreDistinct}
use Rattle.storage_relation.specs.Served.{HasHeap, AllDiffer, whole_of, HasMember}
use Rattle.storage_relation.specs.Standing.{bytes_of, leaf_in, leaves_of, address_now, IsElementNow, IsPlain, IsValued}
use Rattle.storage_relation.specs.Standing.{IsElement, Holder, held, size_of}
use Rattle.storage_relation.specs.Stored.{Places, StoredAs, Extends, KeepNumbers, AreTold}
use Rattle.storage_relation.specs.Tables.{AreRuled, AllOnce}
use Rattle.storage_relation.specs.Telling.{IsOffset}
use Rattle.storage_relation.specs.Versions.{Version, IsSoundVersion, IsLaidOut, first_now, first_version}

-- services 14 and 15: pointers from offsets and offsets from pointers, and the REFER extent in force
pub record LocatorsServed : Type 0 where
  -- a pointer into an area, by an offset
  pub pointer :
      (w : Now) → Holds w → (area destination n : ℕ) (o : Option ℕ) → IsOffset o → NamesArea w area n →
      is_data w.layout destination name_size ≡ true →
      locator_served (call w) (offset_word o) area destination 0
      ≡ Done (call w).services (with_bytes (name_bytes (pointer_into n o)) destination w.memory) (offset_word o) area
  -- an offset, or the status where the pointer is none into the area
  pub offset :
      (w : Now) (name area destination : ℕ) (n : Name) (within : Option ℕ) → name_in (call w) name ≡ Some n →
      area_if (call w) area ≡ Some within →
      locator_served (call w) name area destination 1 ≡ offset_answered (call w) name (offset_in_passed within n)
  -- the extent in force of the generation that a name names
  pub refer :
      (w : Now) → Holds w → (name number buffer : ℕ) (n : Name) (g : Generation) → IsNumberOf w number g.shape →
      name_in (call w) name ≡ Some n → (M.named w.state n g.shape ≡ Some g) × IsPlain g × HasMember g →
      refer_served (call w) name number buffer
      ≡ refer_answered (call w) g.shape name buffer (extent_in_force g (whole_of g.shape))

-- service 8 with mode 1: an element of an aggregate by its number
pub record ElementsNumbered : Type 0 where
  -- its kind in the buffer, and its address, or what the storage machine finds lacking
  pub numbered :
      (w : Now) → Holds w → (x shape : ℕ) (q : Numbered) (a : Aggregate) (d : Designated) (e : Element) →
      IsNumbered w x shape q a e → IsMeant w a d →
      (element_served (call w) x shape q.number q.buffer
      ≡ element_answered (call w) x a e (described w a e q.buffer) (F.named (call w) a.name a.signature))
      × ((M.named w.state d.name d.generation.shape ≡ None →
      element_served (call w) x shape q.number q.buffer
      ≡ Done (call w).services (described w a e q.buffer) x no_generation_code)
      × ((g : Generation) → M.named w.state d.name d.generation.shape ≡ Some g →
      element_served (call w) x shape q.number q.buffer ≡ element_of w x d e (described w a e q.buffer) g))
  -- no element has so great a number
  pub past :
      (w : Now) (x shape number buffer : ℕ) (a : Aggregate) (elements : List Element) → IsListed w x shape a elements →
      slice_get elements number ≡ None → element_served (call w) x shape number buffer ≡ answering (call w) no_element 0
  -- where the meaning has the element in full, it is one of the generation
  pub element :
      (g : Generation) (d : Designated) (e : Element) → e.0 < length g.shape.signature.leaves → element_holds g d e
      ≡ true → IsElement g e.0 e.1

-- service 8: the shape of an item of GET or PUT, in static data
pub record ShapesRead : Type 0 where
  pub datum :
      (members : List Y.Member) (part : Y.Part) (given dimensions leaf : ℕ) (inside : Nest) →
      part_in part given 0 0 (nest_of members) ≡ Some (part_words dimensions leaf inside) →
      shape_datum members part given ≡ words_datum (shape_words given dimensions leaf inside)
  -- what stands there is read as it was written
  pub shape :
      (c : Call) (at given dimensions leaf : ℕ) (inside : Nest) → AreWords (shape_words given dimensions leaf inside) →
      HasBytes c at (bytes_of_words (shape_words given dimensions leaf inside)) →
      item_shape_at c at ≡ Some (part_shape given dimensions leaf inside)
  -- and the elements by it are those of the part by itself, with the subscripts that are given
  pub elements :
      (c : Call) (a : Aggregate) (given dimensions leaf : ℕ) (inside : Nest) (is : List ℤ) →
      leaf + leaves_inside (part_nest dimensions inside) ≤ length a.shape.signature.leaves →
      subscripts_given a leaf given ≡ Some is →
      elements_by c a (part_shape given dimensions leaf inside)
      ≡ Some (elements_inside (part_nest dimensions inside) leaf (leaves_with a.extent a.shape) is)

-- services 40 and 41: one aggregate assigned to another, and one value to all elements of an array
pub record PartsServed : Type 0 where
  -- the part that services find by the record of an aggregate is the one that is designated
  pub found :
      (w : Now) → Holds w → (a : Aggregate) (g : Generation) (part : Y.Part) (is : List ℤ) → HasPart w a g part is →
      IsPlaced a part.first is → shape_at w.places.signatures a.signature ≡ Some a.shape →
      (i : FoundFor w a.name g)
      × (part_of_leaves (call w) a part.first part.count (length is) ≡ Some (part_of w a i.found part is))
  -- what is taken of it is what the meaning takes
  pub taken :
      (w : Now) → Holds w → (a : Aggregate) (g : Generation) (part : Y.Part) (is : List ℤ) → HasPart w a g part is →
      (i : FoundFor w a.name g) →
      IsTakenFrom (meant_of a g part is)
      (map (taken_leaf (part_of w a i.found part is).part) (leaf_numbers (part_of w a i.found part is).part))
  -- where the bounds are the same, and kinds go into kinds, it is stored, also much later and in another generation
  pub put :
      (w : Now) → Holds w → (a : Aggregate) (g : Generation) (part : Y.Part) (is : List ℤ) → HasPart w a g part is →
      AreSound (leaves_of g) → (i : FoundFor w a.name g) → (x : ℕ) (e : Designated) (ts : List TakenLeaf)
      (below : List Entry) → IsTakenFrom e ts →
      all_same_bounds (part_bounds (meant_of a g part is)) (part_bounds e) ≡ true →
      leaves_go_into (part_of w a i.found part is).part 0 ts ≡ true →
      (new : List ℕ)
      × Holds (with_storage (with_generation a.name (with_elements (meant_of a g part is) (elements_of e)) w.state) new
      w)
      × (leaves_put (call w) x (part_of w a i.found part is) ts below
      ≡ Done (with_entries below (call w).services) new x 0)
  -- elsewhere nothing changes
  pub unlike :
      (w : Now) → Holds w → (a : Aggregate) (g : Generation) (part : Y.Part) (is : List ℤ) → HasPart w a g part is →
      (i : FoundFor w a.name g) → (x : ℕ) (e : Designated) (ts : List TakenLeaf) (below : List Entry) →
      IsTakenFrom e ts → all_same_bounds (part_bounds (meant_of a g part is)) (part_bounds e) ≡ false →
      leaves_put (call w) x (part_of w a i.found part is) ts below ≡ answering (call w) x shape_code
  -- one value in all elements of a leaf
  pub set :
      (w : Now) → Holds w → (a : Aggregate) (g : Generation) (leaf : ℕ) (v : BasicValue) →
      HasPart w a g (one_leaf leaf) [] → AreSound (leaves_of g) → (i : FoundFor w a.name g) → (x y : ℕ)
      (entries : List Entry) → GoesInto (leaf_at g.shape a.extent leaf).kind v →
      (new : List ℕ)
      × Holds (with_storage (with_generation a.name (with_elements (meant_of a g (one_leaf leaf) []) (λ n js. v))
      w.state)
      new w)
      × (elements_set (call w) x y (part_of w a i.found (one_leaf leaf) []) entries v
      ≡ Done (with_entries entries (call w).services) new x y)

-- services 16 to 19: the generations of CONTROLLED variables, newest first
pub record ControlledServed : Type 0 where
  -- ALLOCATE: where the heap has a gap, a generation is placed there and is the variable's newest
  pub pushed :
      (w : Now) → Holds w → (of : ℕ → Option Variable) → StacksStand w of → (x : Variable)
      (number signature initial o : ℕ) (g : Generation) → of number ≡ Some x → Begins w number signature initial g →
      gap heap_capacity (footprint_of g) w.state.heap ≡ Some o →
      (new : List ℕ) × Holds (after_push w x number (record { offset = o; signature = signature }) g new)
      × StacksStand (after_push w x number (record { offset = o; signature = signature }) g new) of
      × (K.push_served (call w) number signature initial
      ≡ Done (call (after_push w x number (record { offset = o; signature = signature }) g new)).services new number 0)
  -- without a gap in the heap nothing changes
  pub refused :
      (w : Now) → Holds w → (number signature initial : ℕ) (g : Generation) → Begins w number signature initial g →
      gap heap_capacity (footprint_of g) w.state.heap ≡ None →
      K.push_served (call w) number signature initial ≡ Done (call w).services w.memory number heap_full_code
  -- FREE: the newest goes, and what is left is what the storage machine has left
  pub popped :
      (w : Now) → Holds w → (of : ℕ → Option Variable) → StacksStand w of → (x : Variable) (number y o : ℕ)
      (os : List ℕ) → of number ≡ Some x → K.is_controlled number ≡ true → offsets_at w.state x ≡ o ∷ os →
      (new : List ℕ) × (left : List Controlled) × (offsets_in left ≡ os) × Holds (after_pop w x number o left new)
      × StacksStand (after_pop w x number o left new) of
      × (K.pop_served (call w) number y ≡ Done (call (after_pop w x number o left new)).services new number y)
  -- with no generation nothing changes
  pub none :
      (w : Now) (x : Variable) (number y : ℕ) → ControlledAs w x number → K.is_controlled number ≡ true →
      offsets_at w.state x ≡ [] → K.pop_served (call w) number y ≡ Done (call w).services w.memory number y
  -- what the variable stands for
  pub newest :
      (w : Now) (x : Variable) (number destination : ℕ) → ControlledAs w x number → K.is_controlled number ≡ true →
      is_data w.layout destination name_size ≡ true →
      (K.newest_served (call w) number destination
      ≡ K.newest_answered (call w) destination (w.services.controlled number))
      × IsNewest w destination (w.services.controlled number) (newest_in w.state.heap x.index (offsets_at w.state x))
  -- how many it has
  pub counted :
      (w : Now) (x : Variable) (number y : ℕ) → ControlledAs w x number → K.is_controlled number ≡ true →
      K.count_served (call w) number y ≡ Done (call w).services w.memory (length (offsets_at w.state x)) y

-- the lists of all CONTROLLED variables stay those of the storage machine, and no offset stands in them twice
pub record ControlledKept : Type 0 where
  pub stored :
      (w : Now) (of : ℕ → Option Variable) → StacksStand w of → (d : Designated) (v : BasicValue) →
      StacksStand (assigned d v w) of
  pub apart :
      (w : Now) (of : ℕ → Option Variable) → StacksStand w of → (new : List ℕ) → StacksStand (with_memory new w) of
  -- ALLOCATE and FREE of BASED generations, in areas and in the heap
  pub placed :
      (w : Now) (of : ℕ → Option Variable) → StacksStand w of → (n o : ℕ) (g : Generation) (new : List ℕ) →
      Holds (allocated n o g new w) → StacksStand (allocated n o g new w) of
  pub freed :
      (w : Now) (of : ℕ → Option Variable) → StacksStand w of → (n o : ℕ) (g : Generation) (new : List ℕ) →
      generation_at w.state (BasedName n o) ≡ Some g → g.shape.signature.class ≡ PlainClass →
      StacksStand (area_then n (without_offset o) new w) of
  -- areas that are assigned or emptied
  pub areas :
      (w : Now) (of : ℕ → Option Variable) → StacksStand w of → (n : ℕ) (change : List Placed → List Placed)
      (new : List ℕ) → n ≢ heap_serial → StacksStand (area_then n change new w) of
  pub begun :
      (w : Now) (of : ℕ → Option Variable) → StacksStand w of → (q : Making) → StacksStand (made q w) of
  pub gone :
      (w : Now) (of : ℕ → Option Variable) → StacksStand w of → (height : ℕ) → StacksStand (ended height w) of

-- services 7 and 10: how generations begin
pub record GenerationsBegin : Type 0 where
  -- the INITIAL values that stand in static data are the declaration's
  pub initial :
      (c : Call) (all : List PlacedDatum) (values : List ℤ) (d : Y.DeclaredVariable) → IsLaid c all values d →
      initial_values c (shape_of values d).signature.leaves (place_if all (initial_datum d))
      ≡ Some (map read_items (initial_of d))
  -- service 10 begins the meaning's first generation, or none where the extent is none for its member
  pub begun :
      (c : Call) (values : List ℤ) (d : Y.DeclaredVariable) (signature extent initial : ℕ) →
      IsAsked c values d signature extent initial →
      A.begun c signature extent initial
      ≡ cond (refer_fits d (refer_extent values d.refer) d.refer)
      (Some (generation_read values d (refer_extent values d.refer))) None
  -- its values are those
  pub values :
      (values : List ℤ) (d : Y.DeclaredVariable) (z : ℤ) (leaf : ℕ) (is : List ℤ) →
      (generation_read values d z).values leaf is ≡ (first_generation values d z).values leaf is
  -- and it is that generation, where nothing is EMPTY
  pub first :
      (c : Call) (values : List ℤ) (d : Y.DeclaredVariable) (signature extent initial : ℕ) →
      IsAsked c values d signature extent initial → AllNoEmpty (initial_of d) →
      refer_fits d (refer_extent values d.refer) d.refer ≡ true →
      A.begun c signature extent initial ≡ Some (first_generation values d (refer_extent values d.refer))
  -- every element has a value that it can keep
  pub valued :
      (s : Shape) (z : ℤ) (initial : List (List InitialItem)) → AreSound (leaves_with z s) →
      AreInitial (leaves_with z s) initial → IsValued (fresh s z initial)

-- service 3: one more signature
pub record SignaturesGrow : Type 0 where
  -- where templates differ pairwise, a number is that of one shape
  pub distinct : (t : List Template) → AllDiffer t → AreDistinct t
  -- one more has its number, all others keep theirs, and all still differ
  pub numbered : (u : Template) (t : List Template) → shape_at (with_template u t) (number_of u t) ≡ T.shape_of u
  pub kept : (u : Template) (t : List Template) → KeepNumbers t (with_template u t)
  pub extended : (old new : List Template) → KeepNumbers old new → Extends old new
  -- a table that only gets what a run may fill in keeps all numbers, and gets no more than that
  pub grows :
      (fills : List Fills) (u : Template) (t : List Template) → (number_of u t ≡ length t → IsFill fills u) →
      Grows fills fills t (with_template u t)
  pub still : (fills : List Fills) (t : List Template) → Grows fills fills t t
  pub then' :
      (fills still then' : List Fills) (s t u : List Template) → Grows fills still s t → Grows still then' t u →
      Grows fills then' s u
  pub keeps : (fills still : List Fills) (s t : List Template) → Grows fills still s t → KeepNumbers s t
  pub few :
      (fills still : List Fills) (s t : List Template) → Grows fills still s t →
      length t ≤ length s + most_filled fills
  pub differ : (u : Template) (t : List Template) → AllDiffer t → AllDiffer (with_template u t)
  -- what is stored stays, whatever signatures there are besides
  pub holds :
      (w : Now) → Holds w → (t : List Template) → Extends w.places.signatures t → AreDistinct t → Holds (with_table t w)

-- the signatures of an image's table
pub record TableDiffers : Type 0 where
  -- each stands once in the table of a program
  pub once : (program : Y.Program) → AllOnce (table_of program)
  -- so by the rules of tables their templates differ, and with these the run begins
  pub differ : (t : List TableSignature) → AllOnce t → AreRuled t → AllDiffer (map template_of t)

-- over any version's layout: all that is held stands in data
pub record HeldInData : Type 0 where
  pub heap :
      (f : Version) (w : Now) → IsLaidOut f w → HasHeap w.layout w.places
  pub holders :
      (f : Version) (w : Now) → IsLaidOut f w → Holds w → (n : ℕ) (h : Holder) → held w.state n ≡ Some h →
      is_data w.layout (w.places.at n) (bytes_of w.keeper h) ≡ true
  pub generations :
      (f : Version) (w : Now) → IsLaidOut f w → Holds w → (n : Name) (g : Generation) →
      generation_at w.state n ≡ Some g →
      IsPlain g →
      is_data w.layout (place_now w n) (size_of g) ≡ true
  -- each element, by the address that the extent in force gives
  pub elements :
      (f : Version) (w : Now) → IsLaidOut f w → Holds w → (n : Name) (g : Generation) (z : ℤ) (leaf : ℕ) (is : List ℤ) →
      (generation_at w.state n ≡ Some g) × IsPlain g × IsElementNow g z leaf is →
      is_data w.layout (address_now g z leaf is (place_now w n)) (element_size (leaf_in g leaf).kind) ≡ true
  -- where nothing lives yet, memory of any bytes has it, but for those that are told of static data before the heap, so
  -- there is a state in which all of this holds
  pub first :
      (f : Version) (k : Keeper) → Keeps k → IsSoundVersion f → (π : Places) (input m : List ℕ) → π.heap_made ≡ false →
      (π.at heap_serial ≡ f.heap_at) × (π.low ≤ f.heap_at) → length m ≡ f.end →
      AreTold π.constants π.low f.heap_at m → StoredAs k π (first_state input) m

-- all of this holds at the first moment of a run, whatever the bytes of memory that aren't told, so no law speaks of
-- nothing
pub record RunBegins : Type 0 where
  pub holds :
      (f : Version) (k : Keeper) → Keeps k → IsSoundVersion f → (t : List Template) → AllDiffer t →
      (constants : ℕ → Option ℕ) (fills : List Fills) (v : S.Services) (input m : List ℕ) → length m ≡ f.end →
      AreTold constants f.code_bytes f.heap_at m →
      Holds (first_now f k t constants fills v input m) × IsLaidOut f (first_now f k t constants fills v input m)
  pub stacks :
      (f : Version) (k : Keeper) (t : List Template) (constants : ℕ → Option ℕ) (fills : List Fills)
      (v : S.Services) (input m : List ℕ) (of : ℕ → Option Variable) → ((i : ℕ) → v.controlled i ≡ []) →
      ((i j : ℕ) (x y : Variable) → of i ≡ Some x → of j ≡ Some y → i ≢ j → same_variable x y ≡ false) →
      StacksStand (first_now f k t constants fills v input m) of
  -- version 1 is sound
  pub sound : (code_bytes : ℕ) → code_bytes ≤ 14 * 2 ^ 20 → IsSoundVersion (first_version code_bytes)
