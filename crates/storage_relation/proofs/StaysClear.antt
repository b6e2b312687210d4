-- Bytes that no storage takes stay clear, whatever changes at a call.
use Rattle.std.proofs.Common.{◌≡◌, ℕ, ◌+◌, List, length, true, Some, Bool, false, refl, subst, arith}
use Rattle.std.specs.Prelude.{◌==◌, cond}
use Rattle.pli_meaning.specs.BasicValues.{Name, BasicValue, BasedName, VariableName, NullName}
use Rattle.pli_meaning.specs.Contents.{Generation, Placed, with_placed, changed_at}
use Rattle.pli_meaning.specs.Evaluating.{Designated}
use Rattle.pli_meaning.specs.Placing.{with_element}
use Rattle.pli_meaning.specs.StorageState.{AreaContents, generation_at, with_generation, area_at, with_area}
use Rattle.pli_meaning.specs.StorageState.{heap_serial, without_owner}
use Rattle.storage_relation.specs.Changes.{IsAssignable, assigned, area_then, IsClearNow, allocated, Making, IsMaking}
use Rattle.storage_relation.specs.Changes.{made, ended}
use Rattle.storage_relation.specs.Served.{Now, Holds}
use Rattle.storage_relation.specs.Standing.{IsPlain, AreaOf, size_of, Alone}
use Rattle.storage_relation.specs.Stored.{IsClear, Beside, with_heap_made, with_placed_in}
use Rattle.storage_relation.proofs.Holders.{area_held, others_held, with_alone, others_alone, alone_held}
use Rattle.storage_relation.proofs.Named.{area_holder, based_in, alone_holder}
use Rattle.storage_relation.proofs.ClearBytes.{clear_turned, clear_added, clear_fewer}
use Rattle.storage_relation.proofs.Placing.{held_before}

pub clear_area :
    (w : Now) (n : ℕ) (a : AreaContents) (change : List Placed → List Placed) (new : List ℕ) →
    area_at w.state n ≡ Some a → (at count : ℕ) → IsClearNow w at count → IsClearNow (area_then n change new w) at count
clear_area w n a change new e at count clear =
    let own = area_holder w.state n a e in
    clear_turned w.keeper w.places w.state (with_area n change w.state) n (AreaOf a)
    (AreaOf (with_placed_in a (change a.placed))) at count
    (record {
      was = own;
      is = area_held w.state n change a own;
      others = λ j ne. others_held w.state n j change ne;
      size = refl;
    }) clear

same_size : (g h : Generation) → h.shape ≡ g.shape → h.extent ≡ g.extent → size_of h ≡ size_of g
same_size g h shape extent = cc (shape, extent)

element_turns :
    (w : Now) → Holds w → (n : Name) (g : Generation) (d : Designated) (v : BasicValue) →
    generation_at w.state n ≡ Some g → IsPlain g → (at count : ℕ) → IsClearNow w at count →
    IsClear w.keeper w.places (with_generation n (with_element d v) w.state) at count
element_turns w h NullName g d v e plain at count clear = absurd (cc e)
element_turns w h (VariableName n) g d v e plain at count clear =
    let own = alone_holder w.state (w.state.serials + 1) n g h.lives.falling e plain in
    clear_turned w.keeper w.places w.state (with_alone n (with_element d v) w.state) n (Alone g)
    (Alone (with_element d v g)) at count
    (record {
      was = own;
      is = alone_held w.state n (with_element d v) g (λ y. refl) own;
      others = λ j ne. others_alone w.state n j (with_element d v) ne;
      size = same_size g (with_element d v g) refl refl;
    }) clear
element_turns w h (BasedName n o) g d v e plain at count clear =
    let b = based_in (area_at w.state n) o g e in
    clear_area w n b.0 (changed_at o (with_element d v)) w.memory b.1 at count clear

pub clear_assigned :
    (w : Now) → Holds w → (d : Designated) (v : BasicValue) → IsAssignable w d v → (at count : ℕ) →
    IsClearNow w at count → IsClearNow (assigned d v w) at count
clear_assigned w h d v is at count clear =
    element_turns w h d.name d.generation d v is.lives is.plain at count clear

pub clear_allocated :
    (w : Now) (n o : ℕ) (a : AreaContents) (g : Generation) (new : List ℕ) → area_at w.state n ≡ Some a →
    (at count : ℕ) → IsClearNow w at count → IsClearNow (allocated n o g new w) at count
clear_allocated w n o a g new e at count clear =
    by (n == heap_serial) (clear_area w n a (with_placed (record { offset = o; generation = g })) new e at count clear)
  where
    by :
        (q : Bool) →
        IsClear w.keeper w.places (with_area n (with_placed (record { offset = o; generation = g })) w.state) at count →
        IsClear w.keeper (cond q (with_heap_made w.places) w.places)
        (with_area n (with_placed (record { offset = o; generation = g })) w.state) at count
    by true clear = clear
    by false clear = clear

pub clear_made :
    (w : Now) (q : Making) → IsMaking w q → (at count : ℕ) → Beside q.place (length q.data_bytes) at count →
    IsClearNow w at count → IsClearNow (made q w) at count
clear_made w q is at count beside clear =
    let s = is.serial in
    clear_added w.keeper w.places w.state q.living q.place q.number at count (λ z. omega (arith, s, z))
    (subst (λ n. Beside q.place n at count) is.long beside) clear

pub clear_ended :
    (w : Now) → Holds w → (height at count : ℕ) → IsClearNow w at count → IsClearNow (ended height w) at count
clear_ended w h height at count clear =
    clear_fewer w.keeper w.places w.state (record w.state { living = without_owner height w.state.living }) at count
    (held_before w.state (w.state.serials + 1) height h.lives.falling) clear
