-- The newest generation of a CONTROLLED variable as it ends, by what the heap's keeper makes of it.
use Rattle.std.proofs.Common.{◌≡◌, ℕ, suc, ◌+◌, ◌-◌, ◌^◌, ◌<◌, List, [], ◌∷◌, ◌++◌, length, take, map, refl, sym, ap, ◌∙◌, Option, Some, None, Result, Ok, Err, Bool, true, false, arith, get_or-set_other, get_or-set_same}
use Rattle.std.specs.Prelude.{reverse, slice_get, ◌==◌, is_some, if◌then◌else◌}
use Rattle.std.proofs.Math.Path.{fun_ext}
use Rattle.std.proofs.lemmas.Bool.Decides.{nat_tests}
use Rattle.std.proofs.lemmas.List.{reverse-append, set-get_or}
use Rattle.area_heap.specs.Answers.{bytes_or}
use Rattle.area_keeper.specs.Keeper.{Kept, KeptArea, Keeper}
use Rattle.area_keeper.specs.KeeperLaws.{Keeps}
use Rattle.area_keeper.specs.KeptAreas.{kept_at}
use Rattle.controlled_gens.specs.declared.controlled.Generation.{Generation}
use Rattle.controlled_gens.specs.declared.fault.GenFault.{GenFault}
use Rattle.controlled_gens.specs.Stacks.{IsPopped, controlled, controlled_of, freed_newest, generations_of, newest, with_generations}
use Rattle.pli_serving.specs.Answers.{Answer, Done, Bad}
use Rattle.pli_serving.specs.Arguments.{is_area}
use Rattle.pli_serving.specs.Bytes.{bytes_at, with_bytes}
use Rattle.pli_serving.specs.ControlledServices.{heap_of, is_controlled, pop_served, popped, with_controlled}
use Rattle.pli_serving.specs.Finding.{AreaBytes, Call, heap_bytes}
use Rattle.pli_serving.specs.Outcomes.{bad_unless, or_bad}
use Rattle.pli_serving.specs.ServiceState.{Controlled}
use Rattle.pli_storage.specs.Areas.{written_or}
use Rattle.pli_storage.specs.Held.{IsLaid, holding, with_held}
use Rattle.pli_storage.specs.declared.held.Held.{Held}
use Rattle.pli_storage.proofs.Lookups.{heap_is, unmade_empty}
use Rattle.pli_allocation.specs.Popping.{below_newest, popped_or, stacks_popped}

-- the newest is the last one, and the first one from the other end
abbrev ends : (g : Generation) (gs : List Generation) → (last : Generation) × (below : List Generation) × (slice_get (g ∷ gs) (length gs) ≡ Some last) × (reverse (g ∷ gs) ≡ last ∷ below)
ends g [] = (g, [], refl, refl)
ends g (h ∷ gs) =
    let further = ends h gs in
    (further.0, further.1 ++ g ∷ [], further.2, reverse-append (g ∷ []) (h ∷ gs) ∙ ap (λ (l : List Generation). l ++ g ∷ []) further.3)

top_is : (g : Generation) (gs : List Generation) → newest (g ∷ gs) ≡ Some (ends g gs).0
top_is g gs =
    let at : length (g ∷ gs) - 1 ≡ length gs = omega arith in
    ap (λ i. slice_get (g ∷ gs) i) at ∙ (ends g gs).2

below_is : (g : Generation) (gs : List Generation) → (ends g gs).1 ≡ reverse (take (length gs) (g ∷ gs))
below_is g [] = refl
below_is g (h ∷ gs) = ap (λ (l : List Generation). l ++ g ∷ []) (below_is h gs) ∙ sym (reverse-append (g ∷ []) (take (length gs) (h ∷ gs)))

-- ---- the stacks of all variables

same : (a b : ℕ) → (a == b) ≡ true → a ≡ b
same a b e = grind (arith, nat_tests)

other : (a b : ℕ) → (a == b) ≡ false → a ≡ b → ⊥
other a b e f = grind (arith, nat_tests)

pub controlled_changed : (stacks : List (List Generation)) (variable : ℕ) (gens : List Generation) → variable < length stacks → controlled_of (with_generations variable gens stacks) ≡ (λ n. if n == variable then map controlled (reverse gens) else controlled_of stacks n)
controlled_changed stacks variable gens h = fun_ext (λ n. by_test n (n == variable) refl)
  where
    by_test : (n : ℕ) (t : Bool) → (n == variable) ≡ t → controlled_of (with_generations variable gens stacks) n ≡ (if t then map controlled (reverse gens) else controlled_of stacks n)
    by_test n true t =
        ap (λ n. controlled_of (with_generations variable gens stacks) n) (same n variable t)
        ∙ ap (λ (l : List Generation). map controlled (reverse l)) (get_or-set_same stacks variable gens [] h)
    by_test n false t = ap (λ (l : List Generation). map controlled (reverse l)) (get_or-set_other stacks variable n gens [] (other n variable t))

-- ---- what is popped

popped_is : (c : Call) (variable a1 : ℕ) (heap : AreaBytes) (gens : List Generation) → 0 < length gens → popped c variable a1 heap (map controlled (reverse gens)) ≡ bad_unless (is_area c (heap_of c)) (or_bad (freed_newest c.keeper heap.bytes (newest gens)) (λ bytes. Done (with_controlled variable (map controlled (reverse (take (length gens - 1) gens))) c.services) (with_bytes bytes heap.at c.memory) variable a1))
popped_is c variable a1 heap [] h = absurd (omega (arith, h))
popped_is c variable a1 heap (g ∷ gs) h =
    let last = (ends g gs).0 in
    let count : length gs ≡ length (g ∷ gs) - 1 = omega arith in
    ap (λ (l : List Generation). popped c variable a1 heap (map controlled l)) (ends g gs).3
    ∙ ap (λ (b : List Generation). bad_unless (is_area c (heap_of c)) (or_bad (c.keeper.freed last.offset last.signature heap.bytes) (λ bytes. Done (with_controlled variable (map controlled b) c.services) (with_bytes bytes heap.at c.memory) variable a1))) (below_is g gs ∙ ap (λ n. reverse (take n (g ∷ gs))) count)
    ∙ ap (λ (o : Option Generation). bad_unless (is_area c (heap_of c)) (or_bad (freed_newest c.keeper heap.bytes o) (λ bytes. Done (with_controlled variable (map controlled (reverse (take (length (g ∷ gs) - 1) (g ∷ gs)))) c.services) (with_bytes bytes heap.at c.memory) variable a1))) (sym (top_is g gs))

-- a variable with generations, and a heap at a place
pub pop_is : (c : Call) (variable a1 : ℕ) (heap : AreaBytes) (gens : List Generation) → variable < 2 ^ 16 → 0 < length gens → c.services.controlled variable ≡ map controlled (reverse gens) → heap_bytes c ≡ heap → pop_served c variable a1 ≡ bad_unless (is_some (c.keeper.area_of heap.bytes)) (or_bad (freed_newest c.keeper heap.bytes (newest gens)) (λ bytes. Done (with_controlled variable (map controlled (reverse (take (length gens - 1) gens))) c.services) (with_bytes bytes heap.at c.memory) variable a1))
pop_is c variable a1 heap gens below some stack there =
    let is : is_controlled variable ≡ true = grind (arith, nat_tests) in
    ap (λ t. bad_unless t (popped c variable a1 (heap_bytes c) (c.services.controlled variable))) is
    ∙ ap (λ (l : List Controlled). popped c variable a1 (heap_bytes c) l) stack
    ∙ popped_is c variable a1 (heap_bytes c) gens some
    ∙ ap (λ (a : AreaBytes). bad_unless (is_some (c.keeper.area_of a.bytes)) (or_bad (freed_newest c.keeper a.bytes (newest gens)) (λ bytes. Done (with_controlled variable (map controlled (reverse (take (length gens - 1) gens))) c.services) (with_bytes bytes a.at c.memory) variable a1))) there

pub popped_none : (c : Call) (variable a1 : ℕ) (gens : List Generation) → variable < 2 ^ 16 → length gens ≡ 0 → c.services.controlled variable ≡ map controlled (reverse gens) → pop_served c variable a1 ≡ Done c.services c.memory variable a1
popped_none c variable a1 (g ∷ gs) below none stack = absurd (omega (arith, none))
popped_none c variable a1 [] below none stack =
    let is : is_controlled variable ≡ true = grind (arith, nat_tests) in
    ap (λ t. bad_unless t (popped c variable a1 (heap_bytes c) (c.services.controlled variable))) is
    ∙ ap (λ (l : List Controlled). popped c variable a1 (heap_bytes c) l) stack

-- what is popped of a heap at a place, by what is freed
abbrev pub freed_answer : Call → (variable a1 : ℕ) → (heap : AreaBytes) → List Generation → Option (List ℕ) → Answer
freed_answer c variable a1 heap gens o = or_bad o (λ bytes. Done (with_controlled variable (map controlled (reverse (below_newest gens))) c.services) (with_bytes bytes heap.at c.memory) variable a1)

-- ---- with what is held

abbrev pub heap_there : Keeper → Held → List ℕ → AreaBytes
heap_there k h m = record { at = h.layout.heap_at; bytes = bytes_at (k.bytes_for h.layout.heap_capacity) h.layout.heap_at m }

pop_held : (k : Keeper) (h : Held) (m : List ℕ) (c : Call) (variable a1 : ℕ) (t : Bool) (o : Option (List ℕ)) → h.heap_made ≡ true → variable < 2 ^ 16 → 0 < length (generations_of h.controlled variable) → t ≡ is_some (k.area_of (heap_there k h m).bytes) → o ≡ freed_newest k (heap_there k h m).bytes (newest (generations_of h.controlled variable)) → pop_served (with_held k h m c) variable a1 ≡ bad_unless t (freed_answer (with_held k h m c) variable a1 (heap_there k h m) (generations_of h.controlled variable) o)
pop_held k h m c variable a1 t o made below some e f =
    pop_is (with_held k h m c) variable a1 (heap_there k h m) (generations_of h.controlled variable) below some refl (heap_is k h m c made)
    ∙ ap (λ t. bad_unless t (freed_answer (with_held k h m c) variable a1 (heap_there k h m) (generations_of h.controlled variable) (freed_newest k (heap_there k h m).bytes (newest (generations_of h.controlled variable))))) (sym e)
    ∙ ap (λ o. bad_unless t (freed_answer (with_held k h m c) variable a1 (heap_there k h m) (generations_of h.controlled variable) o)) (sym f)

pub pop_no_heap : (k : Keeper) (h : Held) (m : List ℕ) (c : Call) (variable a1 : ℕ) → h.heap_made ≡ true → variable < 2 ^ 16 → 0 < length (generations_of h.controlled variable) → false ≡ is_some (k.area_of (heap_there k h m).bytes) → pop_served (with_held k h m c) variable a1 ≡ Bad
pop_no_heap k h m c variable a1 made below some t = pop_held k h m c variable a1 false _ made below some t refl

bad_anyway : (t : Bool) → bad_unless t Bad ≡ Bad
bad_anyway true = refl
bad_anyway false = refl

freed_none : (k : Keeper) (bytes : List ℕ) (a : KeptArea) (o : Option Generation) → Keeps k → k.area_of bytes ≡ Some a → a.placed ≡ [] → freed_newest k bytes o ≡ None
freed_none k bytes a None keeps e p = refl
freed_none k bytes a (Some g) keeps e p = keeps.freeing.absent g.offset g.signature bytes a e (ap (λ (ks : List Kept). kept_at ks g.offset) p)

pub pop_unmade : (k : Keeper) (h : Held) (m : List ℕ) (c : Call) (variable a1 : ℕ) → Keeps k → IsLaid k h.layout m → h.heap_made ≡ false → variable < 2 ^ 16 → 0 < length (generations_of h.controlled variable) → pop_served (with_held k h m c) variable a1 ≡ Bad
pop_unmade k h m c variable a1 keeps laid made below some =
    let C = with_held k h m c in
    let gens = generations_of h.controlled variable in
    let none : freed_newest k (heap_bytes C).bytes (newest gens) ≡ None = freed_none k (heap_bytes C).bytes (record { capacity = h.layout.heap_capacity; placed = [] }) (newest gens) keeps (unmade_empty C keeps made laid.rounded laid.bounded laid.heap_within) refl in
    pop_is C variable a1 (heap_bytes C) gens below some refl refl
    ∙ ap (λ (o : Option (List ℕ)). bad_unless (is_some (k.area_of (heap_bytes C).bytes)) (freed_answer C variable a1 (heap_bytes C) gens o)) none
    ∙ bad_anyway (is_some (k.area_of (heap_bytes C).bytes))

-- the newest was freed
pub pop_done : (k : Keeper) (h : Held) (m m' : List ℕ) (c : Call) (variable a1 : ℕ) (stacks : List (List Generation)) (o : Option (List ℕ)) → h.heap_made ≡ true → variable < 2 ^ 16 → length h.controlled ≡ 2 ^ 16 → 0 < length (generations_of h.controlled variable) → true ≡ is_some (k.area_of (heap_there k h m).bytes) → o ≡ freed_newest k (heap_there k h m).bytes (newest (generations_of h.controlled variable)) → Ok tt ≡ popped_or o → stacks ≡ stacks_popped variable h.controlled o → m' ≡ written_or h.layout.heap_at m o → pop_served (with_held k h m c) variable a1 ≡ Done (holding (record h { controlled = stacks }) c.services) m' variable a1
pop_done k h m m' c variable a1 stacks None made below many some t f r e w = cc
pop_done k h m m' c variable a1 stacks (Some freed) made below many some t f r e w =
    let inside : variable < length h.controlled = omega (arith, below, many) in
    let v = holding h c.services in
    pop_held k h m c variable a1 true (Some freed) made below some t f
    ∙ ap (λ (m : List ℕ). Done (with_controlled variable (map controlled (reverse (below_newest (generations_of h.controlled variable)))) v) m variable a1) (sym w)
    ∙ ap (λ (g : ℕ → List Controlled). Done (record v { controlled = g }) m' variable a1) (sym (controlled_changed h.controlled variable (below_newest (generations_of h.controlled variable)) inside) ∙ ap controlled_of (sym e))

-- it wasn't, and nothing changed
pub pop_not : (k : Keeper) (h : Held) (m m' : List ℕ) (c : Call) (variable a1 : ℕ) (stacks : List (List Generation)) (o : Option (List ℕ)) (fault : GenFault) → h.heap_made ≡ true → variable < 2 ^ 16 → 0 < length (generations_of h.controlled variable) → true ≡ is_some (k.area_of (heap_there k h m).bytes) → o ≡ freed_newest k (heap_there k h m).bytes (newest (generations_of h.controlled variable)) → Err fault ≡ popped_or o → stacks ≡ stacks_popped variable h.controlled o → m' ≡ written_or h.layout.heap_at m o → (pop_served (with_held k h m c) variable a1 ≡ Bad) × (holding (record h { controlled = stacks }) c.services ≡ holding h c.services) × (m' ≡ m)
pop_not k h m m' c variable a1 stacks None fault made below some t f r e w =
    (pop_held k h m c variable a1 true None made below some t f, ap (λ (s : List (List Generation)). holding (record h { controlled = s }) c.services) e, w)
pop_not k h m m' c variable a1 stacks (Some freed) fault made below some t f r e w = cc

-- ---- by what a pop of the heap gives

pub popped_answer : (o : Option (List ℕ)) (old new : List Generation) (heap after : List ℕ) (result : Result (Unit {0}) GenFault) → IsPopped o old new heap after result → result ≡ popped_or o
popped_answer None old new heap after result p = p.0
popped_answer (Some freed) old new heap after result p = p.0

pub popped_bytes : (o : Option (List ℕ)) (old new : List Generation) (heap after : List ℕ) (result : Result (Unit {0}) GenFault) → IsPopped o old new heap after result → after ≡ bytes_or heap o
popped_bytes None old new heap after result p = p.2
popped_bytes (Some freed) old new heap after result p = p.2

pub popped_stacks : (o : Option (List ℕ)) (variable : ℕ) (old new : List (List Generation)) (heap after : List ℕ) (result : Result (Unit {0}) GenFault) → IsPopped o (generations_of old variable) (generations_of new variable) heap after result → new ≡ with_generations variable (generations_of new variable) old → new ≡ stacks_popped variable old o
popped_stacks None variable old new heap after result p e = e ∙ ap (λ (gens : List Generation). with_generations variable gens old) p.1 ∙ set-get_or old variable []
popped_stacks (Some freed) variable old new heap after result p e = e ∙ ap (λ (gens : List Generation). with_generations variable gens old) p.1
