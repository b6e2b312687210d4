-- Signatures that are filled in, and what holds before the first call.
use Rattle.std.proofs.Common.{◌≡◌, ◌∙◌, ℕ, zero, suc, reverse, ◌≤◌, Bool, true, false, List, [], length, map}
use Rattle.std.proofs.Common.{replicate, Option, Some, None, Result, Ok, Err, refl, sym, slice_get, subst, ap, arith}
use Rattle.std.proofs.Common.{nat_lt}
use Rattle.area_keeper.specs.Keeper.{Keeper}
use Rattle.std.proofs.lemmas.List.{length-replicate}
use Rattle.std.proofs.Math.Path.{fun_ext}
use Rattle.rv_meaning.specs.Tables.{TableSignature}
use Rattle.controlled_gens.specs.Rooted.{livings, none_rooted, Rooted}
use Rattle.controlled_gens.specs.Stacks.{controlled, controlled_of, generations_of}
use Rattle.controlled_gens.specs.declared.controlled.Generation.{Generation}
use Rattle.pli_meaning.specs.InputLines.{first_input, Input}
use Rattle.pli_meaning.specs.World.{first_world}
use Rattle.pli_services.specs.Flowing.{unstarted}
use Rattle.pli_transmission.specs.Transmitting.{places_of}
use Rattle.pli_values.specs.declared.layout.Layout.{Layout}
use Rattle.pli_serving.specs.Templates.{template_of}
use Rattle.pli_answering.specs.Answering.{Answers}
use Rattle.pli_answering.specs.declared.reply.Reply.{Reply}
use Rattle.pli_answering.specs.declared.reply.Reply.TheVariants as R
use Rattle.pli_answering.specs.declared.reply.Refusal.{Refusal}
use Rattle.pli_making.specs.InUse.{IsCounted}
use Rattle.pli_serving.specs.Answers.{Answer, Done, Ends}
use Rattle.pli_serving.specs.Arguments.{own_signature}
use Rattle.pli_serving.specs.Finding.{Call}
use Rattle.pli_serving.specs.Outcomes.{bad_unless, or_bad}
use Rattle.pli_serving.specs.ServiceState.{first_services, Controlled, EditPlace, Entry, Services}
use Rattle.pli_serving.specs.SignatureService.{bounds_given, filled, numbered, number_of, places_at, signature_served, ExtentPlace}
use Rattle.pli_storage.specs.Held.{with_held, IsLaid}
use Rattle.pli_storage.specs.declared.held.Held.{Held}
use Rattle.pli_types.specs.Templates.{Template}
use Rattle.pli_runtime.proofs.Ends.{refused_alike, NeverEnds}
use Rattle.pli_runtime.specs.Seen.{RunSeen, call_of, running, IsCarriedOut, IsStanding}

-- ---- service 3 never ends the run

unless_goes_on : (holds : Bool) (w : Services) (m : List ℕ) (x y : ℕ) (v : Services) → bad_unless holds (Done w m x y) ≡ Ends v → ⊥
unless_goes_on true w m x y v e = absurd cc
unless_goes_on false w m x y v e = absurd cc

filled_goes_on : (c : Call) (o : Option Template) (v : Services) → or_bad o (numbered c) ≡ Ends v → ⊥
filled_goes_on c None v e = absurd cc
filled_goes_on c (Some t) v e = unless_goes_on (nat_lt (number_of t c.services.signatures) own_signature) _ _ _ _ v e

places_goes_on :
    (c : Call) (number lower upper : ℕ) (o : Option (List ExtentPlace)) (v : Services) →
    or_bad o (λ ps. or_bad (filled (bounds_given lower upper) ps (slice_get c.services.signatures number)) (numbered c)) ≡ Ends v → ⊥
places_goes_on c number lower upper None v e = absurd cc
places_goes_on c number lower upper (Some ps) v e =
    filled_goes_on c (filled (bounds_given lower upper) ps (slice_get c.services.signatures number)) v e

pub signature_never_ends : (c : Call) (number places lower upper : ℕ) → NeverEnds (signature_served c number places lower upper)
signature_never_ends c number places lower upper v e =
    places_goes_on c number lower upper (places_at c.layout places c.memory) v e

pub by_signatures :
    (k : Keeper) (r : RunSeen) (m : List ℕ) (service : Call → Answer) (result : Result Reply Refusal) (h : Held) →
    NeverEnds (service (call_of k r m)) →
    ((v : Services) (x y : ℕ) → service (call_of k r m) ≡ Done v m x y → IsCounted v.signatures v.living r.in_use) →
    IsStanding k r m → h ≡ record r.held { signatures = h.signatures } →
    Answers service (call_of k r m) result (with_held k h m (call_of k r m)) →
    IsCarriedOut k service r m result (record r { held = h }) m
by_signatures k r m service result h never counted s kept answers = record {
  served = answers;
  standing = record {
    laid = subst (λ (it : Held). IsLaid k it.layout m) (sym kept) s.laid;
    known = ap (λ (it : Held). length it.controlled) kept ∙ s.known;
    counted = counted_by result answers;
    high = s.high;
  };
  layout = ap (λ (it : Held). it.layout) kept;
}
  where
    counted_by : (result : Result Reply Refusal) → Answers service (call_of k r m) result (with_held k h m (call_of k r m)) → IsCounted h.signatures (livings h.variables.roots) r.in_use
    counted_by (Ok (R.Done x y)) a = counted _ x y a
    counted_by (Ok R.Ended) a = absurd (never _ a.0)
    counted_by (Err refusal) a =
        let alike : running (record r { held = h }) ≡ running r = refused_alike _ _ _ m m refusal a in
        subst (λ (v : Services). IsCounted v.signatures v.living r.in_use) (sym alike) s.counted

-- ---- before the first call

no_generation : (n variable : ℕ) → generations_of (replicate n []) variable ≡ []
no_generation zero variable = refl
no_generation (suc n) zero = refl
no_generation (suc n) (suc variable) = no_generation n variable

none_controlled : (n : ℕ) → controlled_of (replicate n []) ≡ (λ (variable : ℕ). [])
none_controlled n =
    fun_ext (λ variable. ap (λ (gs : List Generation). map controlled (reverse gs)) (no_generation n variable))

begun_alike :
    (v : Services) (i i' : Input) (gs gs' : List Template) (u u' : Rooted) (made made' : Bool) (stacks stacks' : ℕ → List Controlled) (es es' : List Entry) (e e' : List EditPlace) →
    i' ≡ i → gs' ≡ gs → u' ≡ u → made' ≡ made → stacks' ≡ stacks → es' ≡ es → e' ≡ e →
    record v { input = i'; signatures = gs'; serials = u'.serials; living = livings u'.roots; heap_made = made'; controlled = stacks'; entries = es'; edits = e' }
    ≡ record v { input = i; signatures = gs; serials = u.serials; living = livings u.roots; heap_made = made; controlled = stacks; entries = es; edits = e }
begun_alike v i i' gs gs' u u' made made' stacks stacks' es es' e e' p1 p2 p3 p4 p5 p6 p7 = cc

pub first_of :
    (r : RunSeen) (there : Call) (table : List TableSignature) (input : List ℕ) →
    running r ≡ (unstarted there).services → there.services ≡ running r →
    r.input ≡ first_input input → r.held.signatures ≡ map template_of table → r.held.variables ≡ none_rooted →
    r.held.heap_made ≡ false → r.held.controlled ≡ replicate 65536 [] → r.entries ≡ [] → places_of r.edits ≡ [] →
    running r ≡ first_services table input
first_of r there table input begun same i gs u made stacks es e =
    begun ∙ ap (λ (v : Services). record v { world = first_world; line = 0; activations = []; waiting = None }) same
    ∙ begun_alike (record (running r) { world = first_world; line = 0; activations = []; waiting = None }) _ _ _ _ _ _ _ _ _ _ _ _ _ _ i gs u made
    (ap controlled_of stacks ∙ none_controlled 65536) es e

pub standing_first :
    (k : Keeper) (m : List ℕ) (r : RunSeen) (l : Layout) →
    IsLaid k l m → r.held.layout ≡ l → r.held.variables ≡ none_rooted → r.held.controlled ≡ replicate 65536 [] →
    r.in_use ≡ [] → IsCounted r.held.signatures [] r.in_use →
    IsStanding k r m
standing_first k m r l laid same u stacks none counted = record {
  laid = subst (λ (it : Layout). IsLaid k it m) (sym same) laid;
  known = ap length stacks ∙ length-replicate {A = List Generation} 65536 [];
  counted = subst (λ (it : Rooted). IsCounted r.held.signatures (livings it.roots) r.in_use) (sym u) counted;
  high = subst (λ (us : List ℕ). length us ≤ length r.flow.activations) (sym none) (omega arith);
}
