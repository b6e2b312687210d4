-- How the parts of a run's services carry out calls: each answers the call in which its part stands, and leaves the others alone.
use Rattle.std.proofs.Common.{◌≡◌, ◌∙◌, ℕ, ◌≤◌, Bool, List, length, Result, Ok, Err, refl, sym, subst, ap, arith}
use Rattle.area_keeper.specs.Keeper.{Keeper}
use Rattle.controlled_gens.specs.Rooted.{livings}
use Rattle.controlled_gens.specs.declared.controlled.Generation.{Generation}
use Rattle.pli_meaning.specs.InputLines.{Input}
use Rattle.pli_meaning.specs.World.{World}
use Rattle.pli_serving.specs.Answers.{Answer, Bad}
use Rattle.pli_serving.specs.Finding.{Call}
use Rattle.pli_serving.specs.ServiceState.{Services, Entry}
use Rattle.pli_answering.specs.Answering.{Answers, Replies}
use Rattle.pli_answering.specs.declared.reply.Reply.{Reply}
use Rattle.pli_answering.specs.declared.reply.Reply.TheVariants as R
use Rattle.pli_answering.specs.declared.reply.Refusal.{Refusal}
use Rattle.pli_answering.specs.declared.reply.Refusal.TheVariants as F
use Rattle.pli_making.specs.InUse.{IsCounted}
use Rattle.pli_making.specs.Making.{with_both}
use Rattle.pli_services.specs.Flowing.{FlowSeen, with_flow}
use Rattle.pli_storage.specs.Held.{with_held, IsLaid}
use Rattle.pli_storage.specs.declared.held.Held.{Held}
use Rattle.pli_transmission.specs.Transmitting.{on_entries, with_streams}
use Rattle.pli_transmission.specs.Edits.{EditKept}
use Rattle.pli_values.specs.declared.layout.Layout.{Layout}
use Rattle.pli_runtime.specs.Seen.{RunSeen, call_of, running, IsCarriedOut, IsStanding}

-- the parts of memory lie in other bytes, as many
pub laid_in : (k : Keeper) (l : Layout) (m m' : List ℕ) → length m' ≡ length m → IsLaid k l m → IsLaid k l m'
laid_in k l m m' e h = record {
  end_within = omega (arith, h.end_within, e);
  heap_within = omega (arith, h.heap_within, e);
  rounded = h.rounded;
  bounded = h.bounded;
}

-- a service that comes to another's answer is carried out so
pub by_same :
    (k : Keeper) (r : RunSeen) (m : List ℕ) (s s' : Call → Answer) (result : Result Reply Refusal) (r' : RunSeen)
    (m' : List ℕ) →
    s' (call_of k r m) ≡ s (call_of k r m) → IsCarriedOut k s r m result r' m' → IsCarriedOut k s' r m result r' m'
by_same k r m s s' result r' m' e done = record {
  served = subst (λ (answer : Answer). Replies answer (running r) m result (running r') m') (sym e) done.served;
  standing = done.standing;
  layout = done.layout;
}

-- there is no such call
pub by_none :
    (k : Keeper) (r : RunSeen) (m : List ℕ) (service : Call → Answer) →
    IsStanding k r m → service (call_of k r m) ≡ Bad → IsCarriedOut k service r m (Err F.Bad) r m
by_none k r m service s e = record { served = (e, refl, refl); standing = s; layout = refl }

-- where more blocks are entered the totals still suffice
pub by_flow :
    (k : Keeper) (r : RunSeen) (m : List ℕ) (service : Call → Answer) (result : Result Reply Refusal) (f : FlowSeen) →
    IsStanding k r m → ((c : Call) → Answers service (with_flow r.flow c) result (with_flow f c)) →
    length r.flow.activations ≤ length f.activations →
    IsCarriedOut k service r m result (record r { flow = f }) m
by_flow k r m service result f s answers higher = record {
  served = answers (call_of k r m);
  standing = record { laid = s.laid; known = s.known; counted = s.counted; high = omega (arith, s.high, higher) };
  layout = refl;
}

pub by_flow_there :
    (k : Keeper) (r : RunSeen) (m : List ℕ) (service : Call → Answer) (result : Result Reply Refusal) (f : FlowSeen) →
    IsStanding k r m → Answers service (call_of k r m) result (with_flow f (call_of k r m)) →
    length r.flow.activations ≤ length f.activations →
    IsCarriedOut k service r m result (record r { flow = f }) m
by_flow_there k r m service result f s answers higher = record {
  served = answers;
  standing = record { laid = s.laid; known = s.known; counted = s.counted; high = omega (arith, s.high, higher) };
  layout = refl;
}

-- as many blocks are entered as were
pub by_level :
    (k : Keeper) (r : RunSeen) (m : List ℕ) (service : Call → Answer) (result : Result Reply Refusal) (f : FlowSeen) →
    IsStanding k r m → ((c : Call) → Answers service (with_flow r.flow c) result (with_flow f c)) →
    length f.activations ≡ length r.flow.activations →
    IsCarriedOut k service r m result (record r { flow = f }) m
by_level k r m service result f s answers level = by_flow k r m service result f s answers (omega (arith, level))

-- variables and memory change, but neither signatures nor what lives
pub by_held :
    (k : Keeper) (r : RunSeen) (m m' : List ℕ) (service : Call → Answer) (result : Result Reply Refusal) (h : Held) →
    IsStanding k r m → ((c : Call) → Answers service (with_held k r.held m c) result (with_held k h m' c)) →
    length m' ≡ length m →
    h ≡ record r.held { heap_made = h.heap_made; controlled = h.controlled } → length h.controlled ≡ length r.held.controlled →
    IsCarriedOut k service r m result (record r { held = h }) m'
by_held k r m m' service result h s answers as_many kept as_known = record {
  served = answers (call_of k r m);
  standing = record {
    laid = subst (λ (it : Held). IsLaid k it.layout m') (sym kept) (laid_in k r.held.layout m m' as_many s.laid);
    known = as_known ∙ s.known;
    counted = subst (λ (it : Held). IsCounted it.signatures (livings it.variables.roots) r.in_use) (sym kept) s.counted;
    high = s.high;
  };
  layout = ap (λ (it : Held). it.layout) kept;
}

-- whether the heap is an area's is all that changes
pub by_heap :
    (k : Keeper) (r : RunSeen) (m m' : List ℕ) (service : Call → Answer) (result : Result Reply Refusal) (h : Held) →
    IsStanding k r m → ((c : Call) → Answers service (with_held k r.held m c) result (with_held k h m' c)) →
    length m' ≡ length m → h ≡ record r.held { heap_made = h.heap_made } →
    IsCarriedOut k service r m result (record r { held = h }) m'
by_heap k r m m' service result h s answers as_many kept =
    by_held k r m m' service result h s answers as_many
    (kept ∙ ap (λ (g : List (List Generation)). record r.held { heap_made = h.heap_made; controlled = g }) (sym (ap (λ (it : Held). it.controlled) kept)))
    (ap (λ (it : Held). length it.controlled) kept)

-- the generations of CONTROLLED variables are all that changes
pub by_controlled :
    (k : Keeper) (r : RunSeen) (m m' : List ℕ) (service : Call → Answer) (result : Result Reply Refusal) (h : Held) →
    IsStanding k r m → ((c : Call) → Answers service (with_held k r.held m c) result (with_held k h m' c)) →
    length m' ≡ length m → h ≡ record r.held { controlled = h.controlled } → length h.controlled ≡ length r.held.controlled →
    IsCarriedOut k service r m result (record r { held = h }) m'
by_controlled k r m m' service result h s answers as_many kept as_known =
    by_held k r m m' service result h s answers as_many
    (kept ∙ ap (λ (made : Bool). record r.held { heap_made = made; controlled = h.controlled }) (sym (ap (λ (it : Held). it.heap_made) kept)))
    as_known

-- memory alone changes
pub by_memory :
    (k : Keeper) (r : RunSeen) (m m' : List ℕ) (service : Call → Answer) (result : Result Reply Refusal) →
    IsStanding k r m → ((c : Call) → Answers service (with_held k r.held m c) result (with_held k r.held m' c)) →
    length m' ≡ length m →
    IsCarriedOut k service r m result r m'
by_memory k r m m' service result s answers as_many = record {
  served = answers (call_of k r m);
  standing = record { laid = laid_in k r.held.layout m m' as_many s.laid; known = s.known; counted = s.counted; high = s.high };
  layout = refl;
}

-- variables are made
pub by_both :
    (k : Keeper) (r : RunSeen) (m m' : List ℕ) (service : Call → Answer) (result : Result Reply Refusal)
    (f : FlowSeen) (h : Held) (u : List ℕ) →
    IsStanding k r m → ((c : Call) → Answers service (with_both k r.flow r.held m c) result (with_both k f h m' c)) →
    length m' ≡ length m → h ≡ record r.held { variables = h.variables } →
    IsCounted h.signatures (livings h.variables.roots) u → length u ≤ length f.activations →
    IsCarriedOut k service r m result (record r { flow = f; held = h; in_use = u }) m'
by_both k r m m' service result f h u s answers as_many kept counted high = record {
  served = answers (call_of k r m);
  standing = record {
    laid = subst (λ (it : Held). IsLaid k it.layout m') (sym kept) (laid_in k r.held.layout m m' as_many s.laid);
    known = ap (λ (it : Held). length it.controlled) kept ∙ s.known;
    counted = counted;
    high = high;
  };
  layout = ap (λ (it : Held). it.layout) kept;
}

-- streams go on, and what is shown
pub by_streams_there :
    (k : Keeper) (r : RunSeen) (m : List ℕ) (service : Call → Answer) (result : Result Reply Refusal) (w : World)
    (i : Input)
    (places : List EditKept) →
    IsStanding k r m →
    Answers service (with_streams r.flow.world r.input r.edits (call_of k r m)) result
    (with_streams w i places (call_of k r m)) →
    IsCarriedOut k service r m result (record r { flow = record r.flow { world = w }; input = i; edits = places }) m
by_streams_there k r m service result w i places s answers = record {
  served = answers;
  standing = s;
  layout = refl;
}

pub by_streams :
    (k : Keeper) (r : RunSeen) (m : List ℕ) (service : Call → Answer) (result : Result Reply Refusal) (w : World)
    (i : Input)
    (places : List EditKept) →
    IsStanding k r m →
    ((c : Call) → Answers service (with_streams r.flow.world r.input r.edits c) result (with_streams w i places c)) →
    IsCarriedOut k service r m result (record r { flow = record r.flow { world = w }; input = i; edits = places }) m
by_streams k r m service result w i places s answers =
    by_streams_there k r m service result w i places s (answers (call_of k r m))

-- the same with the entries
pub by_taking :
    (k : Keeper) (r : RunSeen) (m : List ℕ) (service : Call → Answer) (result : Result Reply Refusal) (w : World)
    (i : Input)
    (places : List EditKept) (es : List Entry) →
    IsStanding k r m →
    ((c : Call) → Answers service (on_entries r.entries (with_streams r.flow.world r.input r.edits c)) result
    (on_entries es (with_streams w i places c))) →
    IsCarriedOut k service r m result
    (record r { flow = record r.flow { world = w }; input = i; edits = places; entries = es }) m
by_taking k r m service result w i places es s answers = record {
  served = answers (call_of k r m);
  standing = s;
  layout = refl;
}

-- ---- what is refused shows nothing

pub refused_shown :
    (k : Keeper) (service : Call → Answer) (r r' : RunSeen) (m m' : List ℕ) (refusal : Refusal) →
    IsCarriedOut k service r m (Err refusal) r' m' → (r'.flow.world ≡ r.flow.world) × (m' ≡ m)
refused_shown k service r r' m m' F.Bad done = (ap (λ (v : Services). v.world) done.served.1, done.served.2)
refused_shown k service r r' m m' F.Memory done = (ap (λ (v : Services). v.world) done.served.0, done.served.1)
