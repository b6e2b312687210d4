-- How services of entries carry out calls.
use Rattle.std.proofs.Common.{◌≡◌, ℕ, ◌-◌, ◌<◌, List, [], ◌∷◌, drop, length, map, Some, Result, Ok, refl, sym, subst}
use Rattle.std.proofs.Common.{ap, arith}
use Rattle.area_keeper.specs.Keeper.{Keeper}
use Rattle.pli_aggregates.specs.Scalars.{with_all}
use Rattle.pli_answering.specs.Answering.{Answers, Replies}
use Rattle.pli_answering.specs.declared.reply.Reply.{Reply}
use Rattle.pli_answering.specs.declared.reply.Reply.TheVariants as R
use Rattle.pli_answering.specs.declared.reply.Refusal.{Refusal}
use Rattle.pli_entries.specs.Kept.{leaf_of, leaves_on_top}
use Rattle.pli_entries.specs.Served.{IsRefusal}
use Rattle.pli_entries.specs.declared.taken.TakenLeaf.{TakenLeaf as LeafHeld}
use Rattle.pli_parts.specs.Served.{entries_left, entry_of}
use Rattle.pli_entries.specs.declared.fault.EntryFault.{EntryFault}
use Rattle.pli_serving.specs.Answers.{Answer, Done}
use Rattle.pli_serving.specs.Finding.{Call}
use Rattle.pli_serving.specs.Outcomes.{with_entries}
use Rattle.pli_serving.specs.ServiceState.{AggregateEntry, Entry, TakenLeaf, TextEntry}
use Rattle.pli_runtime.proofs.Carried.{laid_in}
use Rattle.pli_runtime.specs.Seen.{RunSeen, call_of, running, IsCarriedOut, IsStanding}

-- a service of texts is done
pub by_done :
    (k : Keeper) (r : RunSeen) (m m' : List ℕ) (service : Call → Answer) (x y : ℕ) (es : List Entry) →
    IsStanding k r m → length m' ≡ length m → service (call_of k r m) ≡ Done (with_entries es (running r)) m' x y →
    IsCarriedOut k service r m (Ok (R.Done x y)) (record r { entries = es }) m'
by_done k r m m' service x y es s as_many e = record {
  served = e;
  standing = record { laid = laid_in k r.held.layout m m' as_many s.laid; known = s.known; counted = s.counted; high = s.high };
  layout = refl;
}

-- it is refused, and then nothing has changed
pub by_refused :
    (k : Keeper) (r : RunSeen) (m m' : List ℕ) (service : Call → Answer) (x : ℕ) (fault : EntryFault)
    (result : Result Reply Refusal) (es : List Entry) →
    IsStanding k r m → m' ≡ m → IsRefusal (call_of k r m) x (service (call_of k r m)) fault → es ≡ r.entries →
    ((c : Call) → (answer : Answer) → IsRefusal c x answer fault → Replies answer c.services c.memory result c.services c.memory) →
    IsCarriedOut k service r m result (record r { entries = es }) m'
by_refused k r m m' service x fault result es s same refused kept told =
    subst (λ (m'' : List ℕ). IsCarriedOut k service r m result (record r { entries = es }) m'') (sym same)
    (subst (λ (es' : List Entry). IsCarriedOut k service r m result (record r { entries = es' }) m) (sym kept)
    (record { served = told (call_of k r m) (service (call_of k r m)) refused; standing = s; layout = refl }))

-- entries and memory change
pub by_entries :
    (k : Keeper) (r : RunSeen) (m m' : List ℕ) (service : Call → Answer) (result : Result Reply Refusal)
    (es : List Entry) →
    IsStanding k r m → ((c : Call) → Answers service (with_all k r.held m r.entries c) result (with_all k r.held m' es c)) →
    length m' ≡ length m →
    IsCarriedOut k service r m result (record r { entries = es }) m'
by_entries k r m m' service result es s answers as_many = record {
  served = answers (call_of k r m);
  standing = record { laid = laid_in k r.held.layout m m' as_many s.laid; known = s.known; counted = s.counted; high = s.high };
  layout = refl;
}

-- ---- the aggregate on top is put

on_top : (es : List Entry) (leaves : List TakenLeaf) → Some leaves ≡ leaves_on_top es → es ≡ AggregateEntry leaves ∷ drop 1 es
on_top [] leaves e = absurd cc
on_top (TextEntry t ∷ es) leaves e = absurd cc
on_top (AggregateEntry others ∷ es) leaves e = ap (λ (it : Entry). it ∷ es) (other_top others leaves e)
  where
    other_top : (others leaves : List TakenLeaf) → Some leaves ≡ Some others → AggregateEntry others ≡ AggregateEntry leaves
    other_top others leaves e = cc

pub by_put :
    (k : Keeper) (r : RunSeen) (m m' : List ℕ) (service : Call → Answer) (result : Result Reply Refusal)
    (taken : List LeafHeld) (es : List Entry) →
    IsStanding k r m → Some (map leaf_of taken) ≡ leaves_on_top r.entries →
    ((c : Call) (below : List Entry) →
    Answers service (with_all k r.held m (entry_of taken ∷ below) c) result (with_all k r.held m' (entries_left result (entry_of taken ∷ below)) c)) →
    length m' ≡ length m → es ≡ entries_left result r.entries →
    IsCarriedOut k service r m result (record r { entries = es }) m'
by_put k r m m' service result taken es s top answers as_many left =
    by_entries k r m m' service result es s
    (λ c.
    subst (λ (new : List Entry). Answers service (with_all k r.held m r.entries c) result (with_all k r.held m' new c)) (sym left)
    (subst (λ (old : List Entry). Answers service (with_all k r.held m old c) result (with_all k r.held m' (entries_left result old) c))
    (sym (on_top r.entries (map leaf_of taken) top)) (answers c (drop 1 r.entries))))
    as_many

-- the newest is dropped
pub one_dropped :
    (es : List Entry) (leaves : List TakenLeaf) (height below : ℕ) →
    Some leaves ≡ leaves_on_top es → height ≡ length es → below ≡ height - 1 → drop (length es - below) es ≡ drop 1 es
one_dropped es leaves height below top h b = ap (λ (n : ℕ). drop n es) (one (length es) height below (some es leaves top) h b)
  where
    some : (es : List Entry) (leaves : List TakenLeaf) → Some leaves ≡ leaves_on_top es → 0 < length es
    some [] leaves e = absurd cc
    some (it ∷ es) leaves e = omega arith

    one : (n height below : ℕ) → 0 < n → height ≡ n → below ≡ height - 1 → n - below ≡ 1
    one n height below p h b = omega arith
