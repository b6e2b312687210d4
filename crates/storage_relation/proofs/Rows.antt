-- Rows of the definitions, and a generation that is placed, assigned and loaded.
use Rattle.std.proofs.Common.{◌≡◌, ℕ, ◌+◌, ◌≤◌, List, true, ◌<◌, [], ◌∷◌, Some, Bool, false, suc, zero, refl, ap, arith}
use Rattle.std.proofs.lemmas.Bool.{eqb-true}
use Rattle.std.specs.Prelude.{ℤ, ◌==◌, pos, nat_le, cond, negsuc}
use Rattle.rv_meaning.specs.Memory.{load}
use Rattle.rv_meaning.specs.Words.{word}
use Rattle.pli_typing.specs.Signatures.{Varying, Bit, Pointer}
use Rattle.pli_meaning.specs.BasicValues.{BasicNumber, BasicText, BasicBit, BasicPointer, BasedName, VariableName}
use Rattle.pli_meaning.specs.Contents.{same_subscripts}
use Rattle.pli_meaning.specs.Numbers.{is_of_precision}
use Rattle.pli_meaning.specs.Placing.{with_element}
use Rattle.pli_meaning.specs.StorageState.{Living, heap_serial, heap_capacity, living_of}
use Rattle.area_keeper.specs.Keeper.{Keeper}
use Rattle.storage_relation.specs.Changes.{IsAssignable, HasGap, allocated}
use Rattle.storage_relation.specs.Keeping.{StoresNumber}
use Rattle.storage_relation.specs.Rows.{pair_of_numbers, bad_name, new_number, number_at, number_assigned}
use Rattle.storage_relation.specs.Served.{Now, place_now, Holds}
use Rattle.storage_relation.specs.Standing.{leaf_in, address_now, Reads}
use Rattle.storage_relation.specs.Stored.{Places, taken_as, AreFalling, made_if}
use Rattle.storage_relation.specs.Telling.{Tells, IsOf}
use Rattle.storage_relation.proofs.Placing.{none_above}
use Rattle.storage_relation.proofs.Spelling.{reads_spelled}
use Rattle.storage_relation.proofs.Calls.{placed_now, allocated_holds, allocated_named}
use Rattle.storage_relation.proofs.Changes.{assigned_holds, element_held}
use Rattle.storage_relation.proofs.NamesAfter.{stored_found}
use Rattle.storage_relation.proofs.Values.{word_loaded}

-- ---- bytes

pub no_bit : (b : Bool) → Tells Bit (BasicBit b) 0 (2 ∷ []) → ⊥
no_bit true t = absurd (cc t.tells)
no_bit false t = absurd (cc t.tells)

pub no_name : Tells Pointer (BasicPointer (VariableName 5)) 0 bad_name → ⊥
no_name t = cc t.tells

pub varying_text : (x y : ℕ) → Tells (Varying 4) (BasicText (65 ∷ 66 ∷ [])) 0 (2 ∷ 0 ∷ 65 ∷ 66 ∷ x ∷ y ∷ [])
varying_text x y = record { fits = (omega arith, omega arith); tells = refl }

pub pair_read : Reads pair_of_numbers (3 ∷ 0 ∷ 0 ∷ 0 ∷ 255 ∷ 255 ∷ 0 ∷ 0 ∷ [])
pair_read = reads_spelled pair_of_numbers (tt, tt) (λ leaf is less within. by_leaf leaf is less)
  where
    number : (b : Bool) → is_of_precision 15 (cond b (pos 3) (negsuc 0)) ≡ true
    number true = refl
    number false = refl

    by_leaf :
        (leaf : ℕ) (is : List ℤ) → leaf < 1 → IsOf (leaf_in pair_of_numbers leaf).kind (pair_of_numbers.values leaf is)
    by_leaf zero is less = (omega arith, number (same_subscripts is (pos 1 ∷ [])))
    by_leaf (suc leaf) is less = absurd (omega (arith, less))

-- ---- serials

pub once :
    (above : ℕ) (l m : Living) (ls : List Living) → l.serial ≡ m.serial → AreFalling above (l ∷ m ∷ ls) → ⊥
once above l m ls e f = let g = f.2.0 in omega (arith, e, g)

pub none_of_heap :
    (above : ℕ) (ls : List Living) (l : Living) → AreFalling above ls → living_of ls heap_serial ≡ Some l → ⊥
none_of_heap above [] l f e = cc e
none_of_heap above (x ∷ ls) l f e = by (x.serial == heap_serial) refl e (λ g. none_of_heap x.serial ls l f.2 g)
  where
    by :
        (q : Bool) → (x.serial == heap_serial) ≡ q → cond q (Some x) (living_of ls heap_serial) ≡ Some l →
        (living_of ls heap_serial ≡ Some l → ⊥) → ⊥
    by true q e rest = let z = eqb-true x.serial heap_serial q in let p = f.1 in omega (arith, z, p)
    by false q e rest = rest e

pub serials_later :
    (w : Now) → Holds w → (n : ℕ) (l : Living) → living_of w.state.living n ≡ Some l → n ≤ w.state.serials
serials_later w h n l e =
    let less = none_above (w.state.serials + 1) w.state.living n l h.lives.falling e in omega (arith, less)

-- ---- the heap

pub heap_taken :
    (k : Keeper) (π : Places) (bytes : List ℕ) → π.heap_made ≡ false →
    taken_as k π heap_serial bytes ≡ k.made heap_capacity bytes
heap_taken k π bytes e = ap (λ b. made_if k b bytes) e

-- ---- one generation that is placed and assigned

pub number_loaded :
    (w : Now) → Holds w → (n o signature p : ℕ) (z : ℤ) → HasGap w n (new_number p) signature o →
    (p ≤ 31) × (nat_le p 15 ≡ false) × (is_of_precision p z ≡ true) →
    (new : List ℕ) × Holds (number_assigned n o p z new w)
    × (load 4 (number_assigned n o p z new w).memory
    (address_now (new_number p) (pos 0) 0 [] (place_now (number_assigned n o p z new w) (BasedName n o))) ≡ word z)
number_loaded w h n o signature p z is fits =
    let g = new_number p in
    let d = number_at n o p in
    let r = placed_now w h n signature o g is in
    let w1 = allocated n o g r.0 w in
    let h1 : Holds w1 = allocated_holds w h n o g r.0 r.1.1 in
    let there = allocated_named w n o g r.0 is.area h1 is.lives in
    let own : IsAssignable w1 d (BasicNumber z) = record {
      lives = there;
      plain = refl;
      element = record { less = refl; leaf_there = omega arith; within = refl };
      storable = StoresNumber p z fits.0 fits.2;
    } in
    let h2 = assigned_holds w1 h1 d (BasicNumber z) own in
    let found = stored_found w1.state (BasedName n o) (with_element d (BasicNumber z)) g there in
    let w2 = number_assigned n o p z r.0 w in
    let told =
    element_held w2 h2 (BasedName n o) (with_element d (BasicNumber z) g) (pos 0) 0 [] found refl
    (record { less = refl; leaf_there = omega arith; within = refl })
    in (
      r.0,
      h2,
      word_loaded p (address_now g (pos 0) 0 [] (place_now w2 (BasedName n o))) z w2.memory fits.1 told.0,
    )
