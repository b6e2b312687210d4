-- A generation that becomes the newest of a CONTROLLED variable, by what the heap's keeper makes of it.
use Rattle.std.proofs.Common.{◌≡◌, ℕ, ◌+◌, ◌<◌, ◌≤◌, ◌^◌, ℤ, pos, List, [], ◌∷◌, ◌++◌, length, map, take, drop, Option, Some, None, Result, Ok, Err, Bool, true, false, refl, sym, ap, ◌∙◌, arith}
use Rattle.std.specs.Prelude.{◌==◌, ◌&&◌, IsSome, is_none, is_ok, is_some, IfOk, FitsSigned, if◌then◌else◌}
use Rattle.std.specs.Int.{w32}
use Rattle.std.proofs.lemmas.Bool.Decides.{nat_tests}
use Rattle.std.proofs.lemmas.List.{reverse-append, set-get_or}
use Rattle.area_keeper.specs.Keeper.{Keeper}
use Rattle.area_keeper.specs.KeeperLaws.{Keeps, PlacesAtLeast}
use Rattle.area_heap.specs.Answers.{bytes_or, offset_or_fault, placed_or}
use Rattle.area_heap.specs.declared.fault.AreaFault.TheVariants.{NoGap}
use Rattle.controlled_gens.specs.declared.controlled.Generation as C
use Rattle.controlled_gens.specs.Stacks.{controlled, controlled_of, generation_at, generations_of, with_generations}
use Rattle.rv_meaning.specs.Words.{signed}
use Rattle.pli_meaning.specs.Contents.{Generation, Shape, fresh}
use Rattle.pli_answering.specs.Answering.{Replies}
use Rattle.pli_answering.specs.declared.reply.Reply.{Reply}
use Rattle.pli_answering.specs.declared.reply.Refusal.{Refusal}
use Rattle.pli_serving.specs.Answers.{Answer, Done}
use Rattle.pli_serving.specs.Arguments.{capacity_of, is_area, shape_of_number}
use Rattle.pli_serving.specs.AreaServices.{begun, begun_of, begun_with, extent_fits, extent_of, with_data, with_member}
use Rattle.pli_serving.specs.Bytes.{bytes_at, with_bytes}
use Rattle.pli_serving.specs.ControlledServices.{heap_of, is_controlled, push_answered, push_served}
use Rattle.pli_serving.specs.Finding.{AreaBytes, Call, heap_bytes}
use Rattle.pli_serving.specs.InitialValues.{Initial, initial_values}
use Rattle.pli_serving.specs.Outcomes.{bad_unless}
use Rattle.pli_serving.specs.ServiceState.{Controlled, Services}
use Rattle.pli_serving.specs.Values.{generation_bytes}
use Rattle.pli_storage.specs.declared.held.Held.{Held}
use Rattle.pli_storage.specs.Held.{IsLaid, holding, with_held}
use Rattle.pli_storage.proofs.Lookups.{unmade_empty}
use Rattle.pli_allocation.specs.Allocating.{begun_pushed, option_pushed}
use Rattle.pli_allocation.specs.Beginnings.{Begins}
use Rattle.pli_allocation.specs.Placing.{IsWithin, bytes_placed, heap_first, memory_placed, placing}
use Rattle.pli_allocation.specs.declared.beginning.Beginning.{Beginning}
use Rattle.pli_allocation.proofs.Placements.{IsPlacedSo, copied_back, placed_at, placed_not, placed_so}
use Rattle.pli_allocation.proofs.Pops.{controlled_changed}
use Rattle.pli_pushing.specs.Pushing.{IsPlain, offset_of, stacks_pushed}

-- ---- in the heap's bytes

pub placed_is : (k : Keeper) (signature : ℕ) (bytes : List ℕ) (b : Beginning) (g : Generation) (offset : ℕ) (new : List ℕ) → Keeps k → PlacesAtLeast → IsSome (k.area_of bytes) → signature < 2 ^ 32 → FitsSigned w32 b.extent → length b.bytes.items ≤ b.size → IsPlain b g → k.allocated b.size signature (pos 0) bytes ≡ Some (offset, new) → IsPlacedSo k signature b g bytes offset new
placed_is k signature bytes b g offset new keeps at_least some small fits few i r =
    let all : k.allocated b.size signature b.extent bytes ≡ Some (offset, new) = ap (λ z. k.allocated b.size signature z bytes) (i.0.extent ∙ i.1) ∙ r in
    placed_so k signature bytes b g offset new keeps at_least some small fits few i.0 (sym (ap offset_or_fault all)) (sym (ap (placed_or bytes) all))

pub full_is : (k : Keeper) (signature : ℕ) (bytes : List ℕ) (b : Beginning) (g : Generation) → Keeps k → PlacesAtLeast → IsSome (k.area_of bytes) → signature < 2 ^ 32 → FitsSigned w32 b.extent → IsPlain b g → k.allocated b.size signature (pos 0) bytes ≡ None → placing k signature g bytes ≡ None
full_is k signature bytes b g keeps at_least some small fits i r =
    let all : k.allocated b.size signature b.extent bytes ≡ None = ap (λ z. k.allocated b.size signature z bytes) (i.0.extent ∙ i.1) ∙ r in
    placed_not k signature bytes b g NoGap keeps at_least some small fits i.0 (sym (ap offset_or_fault all))

pub stacks_so : (variable signature offset : ℕ) (old new : List (List C.Generation)) (bytes : List ℕ) (o : Option (ℕ × List ℕ)) → o ≡ Some (offset, bytes) → generations_of new variable ≡ generations_of old variable ++ generation_at offset signature ∷ [] → new ≡ with_generations variable (generations_of new variable) old → new ≡ stacks_pushed variable signature old o
stacks_so variable signature offset old new bytes o e p others =
    others ∙ ap (λ (gens : List C.Generation). with_generations variable gens old) p ∙ sym (ap (stacks_pushed variable signature old) e)

pub stacks_same : (variable : ℕ) (old new : List (List C.Generation)) → generations_of new variable ≡ generations_of old variable → new ≡ with_generations variable (generations_of new variable) old → new ≡ old
stacks_same variable old new p others = others ∙ ap (λ (gens : List C.Generation). with_generations variable gens old) p ∙ set-get_or old variable []

-- ---- in the memory

pub ok_within : {E : Type 0} (r : Result (Option ℕ) E) (P : Type 0) → IfOk r (λ o. P) → is_ok r ≡ true → P
ok_within (Ok o) P h e = h
ok_within (Err x) P h e = absurd (cc)

pub at_place : (k : Keeper) (m slice whole content : List ℕ) (start count n : ℕ) (t : Bool) (o : Option (ℕ × List ℕ)) → start + count ≤ length m → n ≡ count → length slice ≡ length whole → bytes_at count start m ≡ whole → slice ≡ (if t then bytes_or whole (bytes_placed k content o) else whole) → (t ≡ true → IsWithin k content (length whole) o) → take start m ++ (slice ++ drop n (drop start m)) ≡ (if t then memory_placed k start content m o else m)
at_place k m slice whole content start count n true o inside same many part e w = placed_at k m slice whole content start count n start o inside same many part (λ h. refl) e (w refl)
at_place k m slice whole content start count n false o inside same many part e w = placed_at k m slice whole content start count n start None inside same many part (λ h. refl) e tt

pub copied_some : (k : Keeper) (m old new content : List ℕ) (at : ℕ) (r : Option ℕ) (o : Option (ℕ × List ℕ)) → r ≡ offset_of o → is_some r ≡ true → new ≡ bytes_or old (bytes_placed k content o) → IsWithin k content (length old) o → at ≤ length m → with_bytes new at m ≡ memory_placed k at content m o
copied_some k m old new content at r None e t f w inside = absurd (cc)
copied_some k m old new content at r (Some p) e t f w inside = copied_back k m old new content at p.0 (Some p) refl f w inside

-- ---- what the service answers where the heap's bytes are known

pub begun_is : (c : Call) (variable signature : ℕ) (g : Generation) (a : AreaBytes) (t : Bool) → variable < 2 ^ 16 → heap_bytes c ≡ a → t ≡ is_some (c.keeper.area_of a.bytes) → begun_pushed c variable signature g ≡ bad_unless t (push_answered c variable signature (with_data c a g (placing c.keeper signature g a.bytes)))
begun_is c variable signature g a t below e f =
    let is : is_controlled variable ≡ true = grind (arith, nat_tests) in
    let answered : AreaBytes → Answer = λ (a : AreaBytes). push_answered c variable signature (with_data c a g (placing c.keeper signature g a.bytes)) in
    ap (λ t. bad_unless (t && is_area c (heap_of c)) (answered (heap_bytes c))) is
    ∙ ap (λ (a : AreaBytes). bad_unless (is_some (c.keeper.area_of a.bytes)) (answered a)) e
    ∙ ap (λ t. bad_unless t (answered a)) (sym f)

-- a newest generation before those of its variable, as the services see them
newest_first : (stacks : List (List C.Generation)) (variable offset signature : ℕ) → variable < length stacks → controlled_of (with_generations variable (generations_of stacks variable ++ generation_at offset signature ∷ []) stacks) ≡ (λ n. if n == variable then record { offset = offset; signature = signature } ∷ controlled_of stacks variable else controlled_of stacks n)
newest_first stacks variable offset signature h =
    controlled_changed stacks variable (generations_of stacks variable ++ generation_at offset signature ∷ []) h
    ∙ ap (λ (gens : List C.Generation). λ n. if n == variable then map controlled gens else controlled_of stacks n) (reverse-append (generations_of stacks variable) (generation_at offset signature ∷ []))

pub pushed_so : (k : Keeper) (h : Held) (m m' : List ℕ) (c : Call) (variable signature : ℕ) (stacks : List (List C.Generation)) (a : AreaBytes) (g : Generation) (offset : ℕ) (o : Option (ℕ × List ℕ)) → variable < length h.controlled → Some offset ≡ offset_of o → m' ≡ memory_placed k a.at (generation_bytes g) m o → stacks ≡ stacks_pushed variable signature h.controlled o → push_answered (with_held k h m c) variable signature (with_data (with_held k h m c) a g o) ≡ Done (holding (record h { heap_made = true; controlled = stacks }) c.services) m' variable 0
pushed_so k h m m' c variable signature stacks a g offset None inside e placed pushed = absurd (cc)
pushed_so k h m m' c variable signature stacks a g offset (Some p) inside e placed pushed =
    let v = holding h c.services in
    let after = with_bytes (generation_bytes g) (a.at + k.data_at p.0 p.1) (with_bytes p.1 a.at m) in
    ap (λ (f : ℕ → List Controlled). Done (record v { heap_made = true; controlled = f }) after variable 0) (sym (newest_first h.controlled variable p.0 signature inside) ∙ ap controlled_of (sym pushed))
    ∙ ap (λ (m : List ℕ). Done (holding (record h { heap_made = true; controlled = stacks }) c.services) m variable 0) (sym placed)

-- ---- the heap before anything was placed in it

pub unmade_is : (k : Keeper) (h : Held) (m : List ℕ) (c : Call) → h.heap_made ≡ false → heap_bytes (with_held k h m c) ≡ record { at = h.layout.heap_at; bytes = heap_first k h.layout m }
unmade_is k h m c made = rw made refl

pub unmade_some : (k : Keeper) (h : Held) (m : List ℕ) (c : Call) → Keeps k → IsLaid k h.layout m → h.heap_made ≡ false → true ≡ is_some (k.area_of (heap_first k h.layout m))
unmade_some k h m c keeps laid made =
    let whole = unmade_empty (with_held k h m c) keeps made laid.rounded laid.bounded laid.heap_within in
    sym (ap is_some whole) ∙ ap (λ (a : AreaBytes). is_some (k.area_of a.bytes)) (unmade_is k h m c made)

-- ---- a generation that begins without a REFER extent has none

given_none : (s : Shape) → extent_of s 0 ≡ pos 0
given_none s = by_test (is_none s.refer)
  where
    by_test : (t : Bool) → (if t then pos 0 else signed 0) ≡ pos 0
    by_test true = refl
    by_test false = refl

member_extent : (z : ℤ) (refer : Option ℕ) (g : Generation) → (with_member z refer g).extent ≡ g.extent
member_extent z None g = refl
member_extent z (Some member) g = refl

with_extent : (s : Shape) (z : ℤ) (o : Option Initial) (g : Generation) → begun_with s z o ≡ Some g → g.extent ≡ z
with_extent s z None g e = absurd (cc)
with_extent s z (Some initial) g e = by_test (is_none (capacity_of s) && extent_fits z s.signature.leaves s.refer) e
  where
    by_test : (t : Bool) → (if t then Some (with_member z s.refer (fresh s z initial)) else None) ≡ Some g → g.extent ≡ z
    by_test true e =
        let same : with_member z s.refer (fresh s z initial) ≡ g = cc in
        ap (λ (g : Generation). g.extent) (sym same) ∙ member_extent z s.refer (fresh s z initial)
    by_test false e = absurd (cc)

no_extent : (c : Call) (o : Option Shape) (initial : ℕ) (g : Generation) → begun_of c o 0 initial ≡ Some g → g.extent ≡ pos 0
no_extent c None initial g e = absurd (cc)
no_extent c (Some s) initial g e = with_extent s (extent_of s 0) (initial_values c s.signature.leaves initial) g e ∙ given_none s

-- ---- the service by what code holds

pub pushed_of : (c : Call) (variable signature initial : ℕ) (b : Beginning) (v : Services) (m : List ℕ) (r : Result Reply Refusal) (v' : Services) (m' : List ℕ) → Begins (Some b) (begun c signature 0 initial) → ((g : Generation) → IsPlain b g → Replies (begun_pushed c variable signature g) v m r v' m') → Replies (push_served c variable signature initial) v m r v' m'
pushed_of c variable signature initial b v m r v' m' i answered = by_option (begun c signature 0 initial) refl i
  where
    by_option : (o : Option Generation) → begun c signature 0 initial ≡ o → Begins (Some b) o → Replies (option_pushed c variable signature o) v m r v' m'
    by_option None e i = absurd (i)
    by_option (Some g) e i = answered g (i, no_extent c (shape_of_number c signature) initial g e)
