-- Frames beside storage: what lives lies in its owner's bytes, so frames and the free bytes are no storage's, and what
-- is told of static data lies before them.
use Rattle.std.proofs.Common.{◌≡◌, ◌≢◌, ◌⊎◌, inl, inr, ℕ, zero, suc, ◌+◌, ◌/◌, ◌-◌, ◌≤◌, List, [], ◌∷◌, length}
use Rattle.std.proofs.Common.{Option, Some, None}
use Rattle.std.proofs.Common.{Bool, true, false, refl, sym, ap, ◌∙◌, subst, arith}
use Rattle.std.proofs.lemmas.Bool.{cases_eq}
use Rattle.std.specs.Prelude.{◌==◌, ◌<◌}
use Rattle.rv_meaning.specs.Memory.{store}
use Rattle.rv_meaning.proofs.MemoryLaws.{length-store}
use Rattle.pli_meaning.specs.StorageState.{State, Living, living_of, heap_serial}
use Rattle.area_keeper.specs.Keeper.{Keeper}
use Rattle.area_keeper.specs.KeptAreas.{with_part}
use Rattle.pli_serving.specs.Bytes.{number_bytes}
use Rattle.pli_coding.specs.Frames.{MemoryParts, fixed_size, temporary_bytes}
use Rattle.pli_coding.specs.Images.{first_frame_bytes}
use Rattle.storage_relation.specs.Changes.{with_memory}
use Rattle.storage_relation.specs.Served.{Now, Holds}
use Rattle.storage_relation.specs.Standing.{Holder, held, holder_in, holder_of, bytes_of}
use Rattle.storage_relation.specs.Stored.{Places, IsClear, IsUntold, Beside}
use Rattle.storage_relation.proofs.Changes.{apart_holds}
use Rattle.storage_relation.proofs.Holders.{eqb-other, held-living}
use Rattle.storage_relation.proofs.Values.{store_is}
use Rattle.activation_relation.specs.Layers.{Layer}
use Rattle.activation_relation.specs.Frames.{AreLaid, AreBeside, upper_top, lower_end, Stores, stored, frame_start}
use Rattle.activation_relation.specs.Frames.{BesideTold, frame_bytes}
use Rattle.activation_relation.specs.Owned.{IsOwnPlace, owns_by, IsPlaceOf, AreOwned, AreOwnersLow, AreWithin}
use Rattle.activation_relation.proofs.FrameWords.{told_over, told_under}

-- ---- places

-- below the upper stack's top or on the lower stack
pub place_outside :
    (parts : MemoryParts) (φs : List Layer) (owner at count : ℕ) → IsPlaceOf parts φs owner at count →
    AreLaid parts φs → (at + count ≤ upper_top parts φs) ⊎ (lower_end parts φs ≤ at)
place_outside parts [] owner at count place laid = inl (omega (arith, place))
place_outside parts (φ ∷ φs) owner at count place laid =
    by (owner == suc (length φs)) place (λ p. place_outside parts φs owner at count p laid.1)
  where
    fixed : φ.at + fixed_size φ.level φ.parameters ≤ φ.top
    fixed = laid.0.fixed

    above : upper_top parts φs + temporary_bytes φ.words ≡ φ.at
    above = laid.0.above

    falls : φ.lower ≤ lower_end parts φs
    falls = laid.0.falls

    lower : (at + count ≤ upper_top parts φs) ⊎ (lower_end parts φs ≤ at) → (at + count ≤ φ.top) ⊎ (φ.lower ≤ at)
    lower (inl h) = inl (omega (arith, h, fixed, above))
    lower (inr h) = inr (omega (arith, h, falls))

    own : IsOwnPlace parts φ φs at count → (at + count ≤ φ.top) ⊎ (φ.lower ≤ at)
    own (inl h) = inl h.1
    own (inr h) = inr h.0

    by :
        (q : Bool) → owns_by q (IsOwnPlace parts φ φs at count) (IsPlaceOf parts φs owner at count) →
        (IsPlaceOf parts φs owner at count → (at + count ≤ upper_top parts φs) ⊎ (lower_end parts φs ≤ at)) →
        (at + count ≤ φ.top) ⊎ (φ.lower ≤ at)
    by true p rest = own p
    by false p rest = lower (rest p)

-- the lower stack lies above the upper one, and ends where the part of memory does
lower_high :
    (parts : MemoryParts) (φs : List Layer) → AreLaid parts φs →
    (upper_top parts φs ≤ lower_end parts φs) × (lower_end parts φs ≤ parts.stack_end)
lower_high parts [] laid = (laid, omega arith)
lower_high parts (φ ∷ φs) laid =
    let rest = lower_high parts φs laid.1 in
    let end = rest.1 in
    let falls = laid.0.falls in (
      laid.0.free,
      omega (arith, falls, end),
    )

-- what lies on the lower stack, or behind it, is beside all frames
beside_behind :
    (parts : MemoryParts) (φs : List Layer) (at count : ℕ) → AreLaid parts φs → lower_end parts φs ≤ at →
    AreBeside parts at count φs
beside_behind parts [] at count laid h = inr (omega (arith, laid, h))
beside_behind parts (φ ∷ φs) at count laid h =
    let above = laid.0.above in
    let fixed = laid.0.fixed in
    let free = laid.0.free in
    let high = lower_high parts φs laid.1 in
    let first = high.0 in (
      (inr (omega (arith, above, fixed, free, h)), told_over at count laid.0 (omega (arith, free, h))),
      beside_over φs laid.1 (omega (arith, above, fixed, free, h)),
    )
  where
    -- the same above the upper stack's top
    beside_over : (ψs : List Layer) → AreLaid parts ψs → upper_top parts ψs ≤ at → AreBeside parts at count ψs
    beside_over [] l o = inr o
    beside_over (ψ ∷ ψs) l o =
        let above = l.0.above in
        let fixed = l.0.fixed in (
          (inr (omega (arith, above, fixed, o)), told_over at count l.0 o),
          beside_over ψs l.1 (omega (arith, above, fixed, o)),
        )

pub beside_place :
    (parts : MemoryParts) (φs : List Layer) (owner at count : ℕ) → IsPlaceOf parts φs owner at count →
    AreLaid parts φs → AreBeside parts at count φs
beside_place parts [] owner at count place laid = inl place
beside_place parts (φ ∷ φs) owner at count place laid =
    by (owner == suc (length φs)) place (λ p. beside_place parts φs owner at count p laid.1)
  where
    above : upper_top parts φs + temporary_bytes φ.words ≡ φ.at
    above = laid.0.above

    fixed : φ.at + fixed_size φ.level φ.parameters ≤ φ.top
    fixed = laid.0.fixed

    free : φ.top ≤ φ.lower
    free = laid.0.free

    falls : φ.lower ≤ lower_end parts φs
    falls = laid.0.falls

    over : φ.at + fixed_size φ.level φ.parameters ≤ at → Beside at count (frame_start φ) (frame_bytes φ)
    over h = inr (omega (arith, above, h))

    over_all : (ψs : List Layer) → AreLaid parts ψs → upper_top parts ψs ≤ at → AreBeside parts at count ψs
    over_all [] l o = inr o
    over_all (ψ ∷ ψs) l o =
        let a = l.0.above in
        let f = l.0.fixed in (
          (inr (omega (arith, a, f, o)), told_over at count l.0 o),
          over_all ψs l.1 (omega (arith, a, f, o)),
        )

    own : IsOwnPlace parts φ φs at count → AreBeside parts at count (φ ∷ φs)
    own (inl h) =
        let low = h.0 in (
          (over low, h.2),
          over_all φs laid.1 (omega (arith, low, above)),
        )
    own (inr h) =
        let low = h.0 in (
          (over (omega (arith, low, free, fixed)), told_over at count laid.0 (omega (arith, low, free))),
          over_all φs laid.1 (omega (arith, low, free, fixed, above)),
        )

    newest : (at + count ≤ upper_top parts φs) ⊎ (lower_end parts φs ≤ at) →
        Beside at count (frame_start φ) (frame_bytes φ) × BesideTold at count φ
    newest (inl h) = (inl (omega (arith, h, above)), told_under φ at count (omega (arith, h, above)))
    newest (inr h) = (
      over (omega (arith, h, falls, free, fixed)),
      told_over at count laid.0 (omega (arith, h, falls, free)),
    )

    by :
        (q : Bool) → owns_by q (IsOwnPlace parts φ φs at count) (IsPlaceOf parts φs owner at count) →
        (IsPlaceOf parts φs owner at count → AreBeside parts at count φs) → AreBeside parts at count (φ ∷ φs)
    by true p rest = own p
    by false p rest = (newest (place_outside parts φs owner at count p laid.1), rest p)

-- ---- what is held

-- what holds of a living one's bytes, and of the heap's
by_holder :
    (k : Keeper) (π : Places) (s : State) (parts : MemoryParts) (φs : List Layer) (Q : (at count : ℕ) → Type 0) →
    AreOwned k π s parts φs → ((owner at count : ℕ) → IsPlaceOf parts φs owner at count → Q at count) →
    ((at count : ℕ) → parts.stack_end ≤ at → Q at count) → (n : ℕ) (h : Holder) → held s n ≡ Some h →
    Q (π.at n) (bytes_of k h)
by_holder k π s parts φs Q owned lives heap n h e = by_serial (cases_eq n heap_serial)
  where
    living : (o : Option Living) → living_of s.living n ≡ o → holder_in o ≡ Some h → Q (π.at n) (bytes_of k h)
    living None there is = absurd (cc is)
    living (Some l) there is =
        let same : holder_of l ≡ h = cc is in
        subst (λ x. Q (π.at n) (bytes_of k x)) same
        (lives l.owner (π.at n) (bytes_of k (holder_of l)) (owned.living n l there))

    by_serial : (n ≡ heap_serial) ⊎ (n ≢ heap_serial) → Q (π.at n) (bytes_of k h)
    by_serial (inl same) =
        heap (π.at n) (bytes_of k h) (subst (λ i. parts.stack_end ≤ π.at i) (sym same) owned.heap)
    by_serial (inr other) = living (living_of s.living n) refl (sym (held-living s n other) ∙ e)

pub storage_beside :
    (k : Keeper) (π : Places) (s : State) (parts : MemoryParts) (φs : List Layer) (n : ℕ) (h : Holder) →
    AreOwned k π s parts φs → AreLaid parts φs → held s n ≡ Some h → AreBeside parts (π.at n) (bytes_of k h) φs
storage_beside k π s parts φs n h owned laid e =
    let end = (lower_high parts φs laid).1 in
    by_holder k π s parts φs (λ at count. AreBeside parts at count φs) owned
    (λ owner at count place. beside_place parts φs owner at count place laid)
    (λ at count behind. beside_behind parts φs at count laid (omega (arith, end, behind))) n h e

-- the upper stack begins where its part of memory does
upper_high : (parts : MemoryParts) (φs : List Layer) → AreLaid parts φs → parts.stack_start ≤ upper_top parts φs
upper_high parts [] laid = omega arith
upper_high parts (φ ∷ φs) laid =
    let rest = upper_high parts φs laid.1 in
    let above = laid.0.above in
    let fixed = laid.0.fixed in
    omega (arith, rest, above, fixed)

-- what is told lies before the stacks
pub stack_untold :
    (k : Keeper) (π : Places) (s : State) (parts : MemoryParts) (φs : List Layer) (at count : ℕ) →
    AreOwned k π s parts φs → parts.stack_start ≤ at → IsUntold π at count
stack_untold k π s parts φs at count owned high n v e =
    let low = owned.constants n v e in inl (omega (arith, low, high))

pub frame_clear :
    (k : Keeper) (π : Places) (s : State) (parts : MemoryParts) (φ : Layer) (φs : List Layer) →
    AreOwned k π s parts (φ ∷ φs) → AreLaid parts (φ ∷ φs) → IsClear k π s (frame_start φ) (frame_bytes φ)
frame_clear k π s parts φ φs owned laid =
    let high = upper_high parts φs laid.1 in
    let above = laid.0.above in (
      (λ n h e. (storage_beside k π s parts (φ ∷ φs) n h owned laid e).0.0),
      stack_untold k π s parts (φ ∷ φs) (frame_start φ) (frame_bytes φ) owned (omega (arith, high, above)),
    )

-- and those of the frame below it
pub frame_below_clear :
    (k : Keeper) (π : Places) (s : State) (parts : MemoryParts) (ψ φ : Layer) (φs : List Layer) →
    AreOwned k π s parts (ψ ∷ φ ∷ φs) → AreLaid parts (ψ ∷ φ ∷ φs) → IsClear k π s (frame_start φ) (frame_bytes φ)
frame_below_clear k π s parts ψ φ φs owned laid =
    let high = upper_high parts φs laid.1.1 in
    let above = laid.1.0.above in (
      (λ n h e. (storage_beside k π s parts (ψ ∷ φ ∷ φs) n h owned laid e).1.0.0),
      stack_untold k π s parts (ψ ∷ φ ∷ φs) (frame_start φ) (frame_bytes φ) owned (omega (arith, high, above)),
    )

-- and those of the start's frame, where no block is active
pub start_clear :
    (k : Keeper) (π : Places) (s : State) (parts : MemoryParts) → AreOwned k π s parts [] → AreLaid parts [] →
    IsClear k π s parts.stack_start first_frame_bytes
start_clear k π s parts owned laid = (
  (λ n h e. storage_beside k π s parts [] n h owned laid e),
  stack_untold k π s parts [] parts.stack_start first_frame_bytes owned (omega arith),
)

pub free_clear :
    (k : Keeper) (π : Places) (s : State) (parts : MemoryParts) (φs : List Layer) → AreOwned k π s parts φs →
    AreLaid parts φs → IsClear k π s (upper_top parts φs) (lower_end parts φs - upper_top parts φs)
free_clear k π s parts φs owned laid = (
  by_holder k π s parts φs (λ at count. Beside at count upper (lower - upper)) owned
      (λ owner at count place. by at count (place_outside parts φs owner at count place laid))
      (λ at count behind. by at count (inr (omega (arith, end, behind)))),
  stack_untold k π s parts φs upper (lower - upper) owned (upper_high parts φs laid),
)
  where
    upper : ℕ
    upper = upper_top parts φs

    lower : ℕ
    lower = lower_end parts φs

    order : upper ≤ lower
    order = (lower_high parts φs laid).0

    end : lower ≤ parts.stack_end
    end = (lower_high parts φs laid).1

    by : (at count : ℕ) → (at + count ≤ upper) ⊎ (lower ≤ at) → Beside at count upper (lower - upper)
    by at count (inl h) = inl h
    by at count (inr h) = inr (omega (arith, order, h))

-- ---- words stored there

pub clear_part :
    (at count from other p n : ℕ) → Beside from other at count → at ≤ p → p + n ≤ at + count → Beside from other p n
clear_part at count from other p n (inl h) low high = inl (omega (arith, h, low))
clear_part at count from other p n (inr h) low high = inr (omega (arith, h, high))

-- bytes of clear ones are clear
pub clear_within :
    (k : Keeper) (π : Places) (s : State) (at count p n : ℕ) → IsClear k π s at count → at ≤ p → p + n ≤ at + count →
    IsClear k π s p n
clear_within k π s at count p n clear low high = (
  (λ i h e. clear_part at count (π.at i) (bytes_of k h) p n (clear.0 i h e) low high),
  (λ i v e. by i (clear.1 i v e)),
)
  where
    by : (i : ℕ) → (i < at) ⊎ (at + count ≤ i) → (i < p) ⊎ (p + n ≤ i)
    by i (inl below) = inl (omega (arith, below, low))
    by i (inr past) = inr (omega (arith, past, high))

number_length : (n v : ℕ) → length (number_bytes n v) ≡ n
number_length zero v = refl
number_length (suc n) v = ap (λ i. suc i) (number_length n (v / 256))

pub stores_hold :
    (w : Now) (at count : ℕ) (xs : Stores) → Holds w → IsClear w.keeper w.places w.state at count →
    at + count ≤ length w.memory → AreWithin at count xs → Holds (with_memory (stored xs w.memory) w)
stores_hold w at count [] h clear room within = h
stores_hold w at count (x ∷ xs) h clear room within =
    let m = store 4 w.memory x.0 x.1 in
    let low = within.0.0 in
    let high = within.0.1 in
    let bytes = number_bytes 4 x.1 in
    let four : length bytes ≡ 4 = number_length 4 x.1 in
    let inside : x.0 + 4 ≤ length w.memory = omega (arith, high, room) in
    let same : with_part bytes x.0 w.memory ≡ m = store_is 4 x.1 x.0 w.memory inside in
    let one : Holds (with_memory m w) =
    subst (λ n. Holds (with_memory n w)) same
    (apart_holds w h x.0 bytes
    (clear_within w.keeper w.places w.state at count x.0 (length bytes) clear low (omega (arith, four, high)))
    (omega (arith, four, inside)))
    in
    let long = length-store 4 w.memory x.0 x.1 in
    stores_hold (with_memory m w) at count xs one clear (omega (arith, room, long)) within.1

-- ---- blocks come and go

pub owned_entered :
    (k : Keeper) (π : Places) (s : State) (parts : MemoryParts) (φ : Layer) (φs : List Layer) →
    AreOwned k π s parts φs → AreOwnersLow (length φs) s → AreOwned k π s parts (φ ∷ φs)
owned_entered k π s parts φ φs owned low =
    record {
      living = λ n l e.
          subst (λ q. owns_by q (IsOwnPlace parts φ φs (π.at n) (bytes_of k (holder_of l)))
          (IsPlaceOf parts φs l.owner (π.at n) (bytes_of k (holder_of l))))
          (sym (eqb-other l.owner (suc (length φs)) (let few = low n l e in omega (arith, few)))) (owned.living n l e);
      heap = owned.heap;
      constants = owned.constants;
    }

pub owned_left :
    (k : Keeper) (π : Places) (s : State) (parts : MemoryParts) (φ : Layer) (φs : List Layer) →
    AreOwned k π s parts (φ ∷ φs) → AreOwnersLow (length φs) s → AreOwned k π s parts φs
owned_left k π s parts φ φs owned low =
    record {
      living = λ n l e.
          subst (λ q. owns_by q (IsOwnPlace parts φ φs (π.at n) (bytes_of k (holder_of l)))
          (IsPlaceOf parts φs l.owner (π.at n) (bytes_of k (holder_of l))))
          (eqb-other l.owner (suc (length φs)) (let few = low n l e in omega (arith, few))) (owned.living n l e);
      heap = owned.heap;
      constants = owned.constants;
    }
