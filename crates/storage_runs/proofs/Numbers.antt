-- The changes of a run keep what lives numbered: a new serial is greater than all others, and none changes.
use Rattle.std.proofs.Common.{◌≡◌, ℕ, ◌+◌, ◌<◌, ◌≤◌, List, [], ◌∷◌, Bool, true, false, refl, sym, subst, arith}
use Rattle.std.specs.Prelude.{◌==◌, cond}
use Rattle.pli_typing.specs.TypedTree as Y
use Rattle.pli_meaning.specs.BasicValues.{Name, NullName, VariableName, BasedName}
use Rattle.pli_meaning.specs.Contents.{Generation, Placed, without_offset, changed_at}
use Rattle.pli_meaning.specs.StorageState.{State, Living, Activation, heap_serial, living_changed, area_changed}
use Rattle.pli_meaning.specs.StorageState.{with_area}
use Rattle.pli_meaning.specs.StorageState.{generation_changed, with_generation, without_owner, without_newest}
use Rattle.pli_meaning.specs.StorageState.{offsets_of}
use Rattle.pli_meaning.specs.Making.{static_made, statics_of_block, statics_from}
use Rattle.pli_meaning.specs.Placing.{placed_with, without_newest_of}
use Rattle.storage_runs.specs.Invariants.{Invariant}
use Rattle.storage_runs.specs.Serials.{AreNumbered, HasSerialsOnce, SerialsStayOnce}
use Rattle.storage_runs.proofs.Steps.{state_kept}
use Rattle.storage_runs.proofs.Runs.{run_keeps}

-- a greater number bounds them too
wider : (below more : ℕ) (ls : List Living) → below ≤ more → AreNumbered below ls → AreNumbered more ls
wider below more [] r h = tt
wider below more (l ∷ ls) r h = (h.0, omega (arith, r, h.1), h.2)

-- what keeps the serial of one keeps those of all
changed_numbered : (below serial : ℕ) (change : Living → Living) (ls : List Living)
    → ((l : Living) → (change l).serial ≡ l.serial) → AreNumbered below ls
    → AreNumbered below (living_changed serial change ls)
changed_numbered below serial change [] c h = tt
changed_numbered below serial change (l ∷ ls) c h =
    by_test (l.serial == serial) (changed_numbered l.serial serial change ls c h.2)
  where
    by_test : (t : Bool) → AreNumbered l.serial (living_changed serial change ls)
        → AreNumbered below (cond t (change l ∷ ls) (l ∷ living_changed serial change ls))
    by_test true rest =
        subst (λ n. (0 < n) × (n < below) × AreNumbered n ls) (sym (c l)) h
    by_test false rest = (h.0, h.1, rest)

area_numbered : (serial : ℕ) (change : List Placed → List Placed) (s : State) → HasSerialsOnce s
    → HasSerialsOnce (with_area serial change s)
area_numbered serial change s h = by_test (serial == heap_serial)
  where
    by_test : (t : Bool)
        → HasSerialsOnce (cond t (record s { heap = change s.heap })
        (record s { living = living_changed serial (area_changed change) s.living }))
    by_test true = h
    by_test false = changed_numbered (s.serials + 1) serial (area_changed change) s.living (λ l. refl) h

valued_numbered : (n : Name) (change : Generation → Generation) (s : State) → HasSerialsOnce s
    → HasSerialsOnce (with_generation n change s)
valued_numbered NullName change s h = h
valued_numbered (VariableName serial) change s h =
    changed_numbered (s.serials + 1) serial (generation_changed change) s.living (λ l. refl) h
valued_numbered (BasedName area offset) change s h = area_numbered area (changed_at offset change) s h

-- what ends is left out
owned_gone : (below height : ℕ) (ls : List Living) → AreNumbered below ls → AreNumbered below (without_owner height ls)
owned_gone below height [] h = tt
owned_gone below height (l ∷ ls) h = by_test (l.owner == height) (owned_gone l.serial height ls h.2)
  where
    by_test : (t : Bool) → AreNumbered l.serial (without_owner height ls)
        → AreNumbered below (cond t (without_owner height ls) (l ∷ without_owner height ls))
    by_test true rest = wider l.serial below (without_owner height ls) (omega (arith, h.1)) rest
    by_test false rest = (h.0, h.1, rest)

ended_numbered : (as' : List Activation) (s : State) → HasSerialsOnce s → HasSerialsOnce (without_newest as' s)
ended_numbered [] s h = h
ended_numbered (a ∷ as') s h = owned_gone (s.serials + 1) a.height s.living h

static_numbered : (block variable : ℕ) (d : Y.DeclaredVariable) (class : Y.StorageClass) (s : State) → HasSerialsOnce s
    → HasSerialsOnce (static_made block variable d class s)
static_numbered block variable d Y.StaticClass s h = (omega arith, omega arith, h)
static_numbered block variable d Y.AutomaticClass s h = h
static_numbered block variable d Y.ParameterClass s h = h
static_numbered block variable d Y.BasedClass s h = h
static_numbered block variable d Y.ControlledClass s h = h

block_statics_numbered : (block variable : ℕ) (ds : List Y.DeclaredVariable) (s : State) → HasSerialsOnce s
    → HasSerialsOnce (statics_of_block block variable ds s)
block_statics_numbered block variable [] s h = h
block_statics_numbered block variable (d ∷ ds) s h =
    block_statics_numbered block (variable + 1) ds (static_made block variable d d.class s)
    (static_numbered block variable d d.class s h)

statics_numbered : (block : ℕ) (vs : List (List Y.DeclaredVariable)) (s : State) → HasSerialsOnce s
    → HasSerialsOnce (statics_from block vs s)
statics_numbered block [] s h = h
statics_numbered block (ds ∷ rest) s h =
    statics_numbered (block + 1) rest (statics_of_block block 0 ds s) (block_statics_numbered block 0 ds s h)

popped_numbered : (v : Y.Variable) (offsets : List ℕ) (s : State) → HasSerialsOnce s
    → HasSerialsOnce (without_newest_of v offsets s)
popped_numbered v [] s h = h
popped_numbered v (o ∷ os) s h = h

all_numbered : Invariant HasSerialsOnce
all_numbered =
    record {
      begun = λ input. tt;
      shown = λ w s h. h;
      read = λ change s h. h;
      entered = λ head entry s h. h;
      ended = λ s h. ended_numbered s.activations s h;
      bound = λ variable n shape s h. h;
      established = λ c u s h. h;
      reverted = λ c s h. h;
      made = λ variable g s h. (omega arith, omega arith, h);
      fixed = λ vs s h. statics_numbered 0 vs s h;
      valued = λ n change s k h. valued_numbered n change s h;
      placed = λ area o g a s h e f. area_numbered area (placed_with o g) s h;
      freed = λ area o s h. area_numbered area (without_offset o) s h;
      assigned = λ source target from into s h e f room. area_numbered target (λ placed. from.placed) s h;
      emptied = λ area s h. area_numbered area (λ placed. []) s h;
      pushed = λ v o s h. h;
      popped = λ v s h. popped_numbered v (offsets_of s.controlled v.block v.index) s h;
    }

pub serials_stay : SerialsStayOnce
serials_stay program input k s e =
    state_kept HasSerialsOnce _ s ((run_keeps all_numbered program _).comes k _ (all_numbered.begun input)) e
