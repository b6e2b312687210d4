-- Worked rows of the definitions, and laws that are put together from the others.
use Rattle.std.specs.Prelude.{◌≡◌, ℕ, ◌≤◌, List, true, [], ◌∷◌, ℤ, Some, None, Bool, false, pos, if◌then◌else◌, nat_le}
use Rattle.std.specs.Prelude.{negsuc}
use Rattle.rv_meaning.specs.Memory.{load}
use Rattle.rv_meaning.specs.Words.{word}
use Rattle.pli_typing.specs.Signatures.{Fixed, Varying, Bit, Pointer, PlainClass, scalar}
use Rattle.pli_meaning.specs.BasicValues.{BasicNumber, BasicText, BasicBit, BasicPointer, BasedName, VariableName}
use Rattle.pli_meaning.specs.Contents.{Generation, fresh, same_subscripts}
use Rattle.pli_meaning.specs.Evaluating.{Designated}
use Rattle.pli_meaning.specs.Numbers.{is_of_precision}
use Rattle.pli_meaning.specs.StorageState.{Living, heap_serial, heap_capacity, living_of}
use Rattle.area_keeper.specs.Keeper.{Keeper}
use Rattle.pli_serving.specs.Bytes.{name_at}
use Rattle.pli_serving.specs.Values.{value_at, generation_bytes}
use Rattle.storage_relation.specs.Changes.{assigned, HasGap, allocated}
use Rattle.storage_relation.specs.Served.{Now, place_now, Holds}
use Rattle.storage_relation.specs.Standing.{address_now, Reads}
use Rattle.storage_relation.specs.Stored.{Places, taken_as, AreFalling}
use Rattle.storage_relation.specs.Telling.{Tells}

-- ---- bytes

-- FIXED BINARY(15) of the bounds 1 to 2, with the values 3 and -1
abbrev pub pair_of_numbers : Generation
pair_of_numbers =
    record {
      shape = record {
        signature = record {
          class = PlainClass;
          leaves = record { kind = Fixed 15; bounds = record { lower = pos 1; upper = pos 2 } ∷ [] } ∷ [];
        };
        refer = None;
      };
      extent = pos 0;
      values = λ leaf is. BasicNumber (if same_subscripts is (pos 1 ∷ []) then pos 3 else negsuc 0);
    }

-- the name of the variable of serial 5, but for a byte that isn't 0
abbrev pub bad_name : List ℕ
bad_name = 1 ∷ 0 ∷ 0 ∷ 0 ∷ 9 ∷ 0 ∷ 0 ∷ 0 ∷ 5 ∷ 0 ∷ 0 ∷ 0 ∷ 0 ∷ 0 ∷ 0 ∷ 0 ∷ []

pub record BytesTell : Type 0 where
  -- a byte that is neither 0 nor 1 tells no bit, though services would read one
  pub bit_read : value_at Bit 0 (2 ∷ []) ≡ BasicBit false
  pub bit : (b : Bool) → Tells Bit (BasicBit b) 0 (2 ∷ []) → ⊥
  -- all bytes of a name tell it
  pub name_read : name_at 0 bad_name ≡ Some (VariableName 5)
  pub name : Tells Pointer (BasicPointer (VariableName 5)) 0 bad_name → ⊥
  -- what stands behind a text that varies tells nothing
  pub text : (x y : ℕ) → Tells (Varying 4) (BasicText (65 ∷ 66 ∷ [])) 0 (2 ∷ 0 ∷ 65 ∷ 66 ∷ x ∷ y ∷ [])
  -- two numbers, each in the first half of a word
  pub spelled : generation_bytes pair_of_numbers ≡ 3 ∷ 0 ∷ 0 ∷ 0 ∷ 255 ∷ 255 ∷ 0 ∷ 0 ∷ []
  pub numbers : Reads pair_of_numbers (3 ∷ 0 ∷ 0 ∷ 0 ∷ 255 ∷ 255 ∷ 0 ∷ 0 ∷ [])

-- ---- serials

-- what lives has a serial of its own, which isn't the heap's
pub record SerialsApart : Type 0 where
  pub once :
      (above : ℕ) (l m : Living) (ls : List Living) → l.serial ≡ m.serial → AreFalling above (l ∷ m ∷ ls) → ⊥
  pub some : (w : Now) → Holds w → (l : Living) → living_of w.state.living heap_serial ≡ Some l → ⊥
  pub later : (w : Now) → Holds w → (n : ℕ) (l : Living) → living_of w.state.living n ≡ Some l → n ≤ w.state.serials

-- ---- the heap

-- until the first ALLOCATE nothing stands in the heap, whatever its bytes; making it changes nothing of what is stored
pub record HeapBegins : Type 0 where
  pub empty : (w : Now) → Holds w → w.places.heap_made ≡ false → w.state.heap ≡ []
  pub taken :
      (k : Keeper) (π : Places) (bytes : List ℕ) → π.heap_made ≡ false →
      taken_as k π heap_serial bytes ≡ k.made heap_capacity bytes

-- ---- ALLOCATE X SET(P) IN(A); P->X = z;

-- a FIXED BINARY of a precision
abbrev pub new_number : ℕ → Generation
new_number p = fresh (record { signature = scalar (Fixed p); refer = None }) (pos 0) ([] ∷ [])

abbrev pub number_at : (n o p : ℕ) → Designated
number_at n o p =
    record {
      name = BasedName n o;
      generation = new_number p;
      extent = pos 0;
      part = record { first = 0; count = 1 };
      subscripts = [];
    }

-- the state then
abbrev pub number_assigned : (n o p : ℕ) → ℤ → List ℕ → Now → Now
number_assigned n o p z new w = assigned (number_at n o p) (BasicNumber z) (allocated n o (new_number p) new w)

-- a number is placed in an area or in the heap and assigned by its name, and the machine loads it there
pub record NumbersAllocated : Type 0 where
  pub loaded :
      (w : Now) → Holds w → (n o signature p : ℕ) (z : ℤ) → HasGap w n (new_number p) signature o →
      (p ≤ 31) × (nat_le p 15 ≡ false) × (is_of_precision p z ≡ true) →
      (new : List ℕ) × Holds (number_assigned n o p z new w)
      × (load 4 (number_assigned n o p z new w).memory
      (address_now (new_number p) (pos 0) 0 [] (place_now (number_assigned n o p z new w) (BasedName n o))) ≡ word z)
