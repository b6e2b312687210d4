-- Blocks that end: what their services' answers tell of the entries, and how the services carry out their calls.
use Rattle.std.proofs.Common.{◌≡◌, ℕ, zero, suc, ◌<◌, ◌≤◌, ◌^◌, Bool, true, false, nat_le, List, [], ◌∷◌, take}
use Rattle.std.proofs.Common.{length, Option, Some, None, Ok, Err, refl, sym, subst, ap, ◌∙◌, arith, unwrap_or}
use Rattle.std.proofs.Common.{if◌then◌else◌}
use Rattle.std.proofs.lemmas.Bool.{ne_eqb}
use Rattle.std.proofs.lemmas.Grind.{common_steps}
use Rattle.std.proofs.lemmas.Bool.Decides.{nat_tests}
use Rattle.area_keeper.specs.Keeper.{Keeper}
use Rattle.controlled_gens.specs.Rooted.{livings}
use Rattle.pli_answering.specs.Answering.{Replies}
use Rattle.pli_answering.specs.declared.reply.Reply.{Reply}
use Rattle.pli_answering.specs.declared.reply.Reply.TheVariants as R
use Rattle.pli_answering.specs.declared.reply.Refusal.{Refusal}
use Rattle.pli_answering.specs.declared.reply.Refusal.TheVariants as F
use Rattle.pli_leaving.specs.Leaving.{back_to, with_both, Leaves}
use Rattle.pli_leaving.specs.declared.leaving.Left.{Left}
use Rattle.pli_making.specs.InUse.{IsCounted}
use Rattle.pli_meaning.specs.InputLines.{Input}
use Rattle.pli_serving.specs.Answers.{Answer, Done, Ends, Bad}
use Rattle.pli_serving.specs.Blocks.{ended_to, ended_with, entries_left, from_frame, leave_served, left_by, newest_ended, oldest, return_served, returned_by, top_kept, unit_left, unwind_served, unwound}
use Rattle.pli_serving.specs.Finding.{Call}
use Rattle.pli_serving.specs.Outcomes.{or_bad}
use Rattle.pli_serving.specs.ServiceState.{Activation, AggregateEntry, BlockKind, ProcedureBlock, BeginBlock, OnUnitBlock, EditPlace, Entry, Services, TextEntry}
use Rattle.pli_storage.specs.Held.{IsLaid}
use Rattle.pli_storage.specs.declared.held.Held.{Held}
use Rattle.pli_values.specs.declared.layout.Layout.{Layout}
use Rattle.pli_services.specs.Flowing.{FlowSeen}
use Rattle.pli_runtime.specs.Ending.{IsBack, IsKept}
use Rattle.pli_runtime.specs.Seen.{RunSeen, call_of, running, IsCarriedOut, IsStanding}

-- ---- none of these services ends the run

abbrev pub NeverEnds : Answer → Type 0
NeverEnds answer = (v : Services) → answer ≡ Ends v → ⊥

or_bad_goes_on : (o : Option Services) (m : List ℕ) (x y : ℕ) (v : Services) → or_bad o (λ v. Done v m x y) ≡ Ends v → ⊥
or_bad_goes_on None m x y v e = absurd cc
or_bad_goes_on (Some w) m x y v e = absurd cc

left_goes_on : (c : Call) (keep second : ℕ) (as' : List Activation) (v : Services) → left_by c keep second as' ≡ Ends v → ⊥
left_goes_on c keep second [] v e = absurd cc
left_goes_on c keep second (a ∷ as') v e = or_bad_goes_on (newest_ended c.services keep a as') c.memory keep second v e

unwound_goes_on : (c : Call) (frame keep : ℕ) (as' : List Activation) (v : Services) → unwound c frame keep as' ≡ Ends v → ⊥
unwound_goes_on c frame keep [] v e = absurd cc
unwound_goes_on c frame keep (a ∷ as') v e =
    or_bad_goes_on (ended_to c.services (a ∷ as') a.texts a.edits keep) c.memory frame keep v e

unit_goes_on : (c : Call) (kind : BlockKind) (o : Option Services) (v : Services) → unit_left c kind o ≡ Ends v → ⊥
unit_goes_on c ProcedureBlock o v e = absurd cc
unit_goes_on c BeginBlock o v e = absurd cc
unit_goes_on c (OnUnitBlock code resume) o v e = or_bad_goes_on o c.memory resume code v e

returned_goes_on : (c : Call) (as' : List Activation) (v : Services) → returned_by c as' ≡ Ends v → ⊥
returned_goes_on c [] v e = absurd cc
returned_goes_on c (a ∷ as') v e = unit_goes_on c a.kind (newest_ended c.services 0 a as') v e

-- ---- what an answer tells of the entries

done_services : (a b : Services) (m m' : List ℕ) (x y x' y' : ℕ) → Done a m x y ≡ Done b m' x' y' → a ≡ b
done_services a b m m' x y x' y' e = cc

text_above :
    (b b' : Bool) (e : Entry) (l l' o : List Entry) →
    (if b then Some (e ∷ l) else None) ≡ Some o → o ≡ unwrap_or (if b' then Some (e ∷ l') else None) [] → b' ≡ true
text_above true true e l l' o p q = refl
text_above true false e l l' o p q = absurd cc
text_above false b' e l l' o p q = absurd cc

is_within : (texts : ℕ) (es : List Entry) → nat_le texts (length es) ≡ true → texts < suc (length es)
is_within texts es h = grind (arith, nat_tests, h)

kept_from :
    (es : List Entry) (texts texts' : ℕ) (o : List Entry) →
    top_kept texts es ≡ Some o → o ≡ unwrap_or (top_kept texts' es) [] → IsKept texts' es
kept_from [] texts texts' o p q = absurd cc
kept_from (AggregateEntry leaves ∷ es) texts texts' o p q = absurd cc
kept_from (TextEntry t ∷ es) texts texts' o p q = record {
  is_text = refl;
  inside = is_within texts' es (text_above (nat_le texts (length es)) (nat_le texts' (length es)) (TextEntry t) (oldest texts es) (oldest texts' es) o p q);
}

-- entries that went back with a text kept
kept_of :
    (v w : Services) (left : List Activation) (edits texts texts' edits' : ℕ) (o : Option (List Entry)) (m m' : List ℕ) (x y x' y' : ℕ) →
    top_kept texts v.entries ≡ o → or_bad (ended_with v left edits o) (λ v. Done v m x y) ≡ Done (back_to texts' edits' 1 w) m' x' y' →
    w.entries ≡ v.entries → IsKept texts' v.entries
kept_of v w left edits texts texts' edits' None m m' x y x' y' p e same = absurd cc
kept_of v w left edits texts texts' edits' (Some o) m m' x y x' y' p e same =
    kept_from v.entries texts texts' o p
    (subst (λ (es : List Entry). o ≡ unwrap_or (top_kept texts' es) []) same
    (ap (λ (s : Services). s.entries) (done_services _ (back_to texts' edits' 1 w) m m' x y x' y' e)))

unkept : (texts keep : ℕ) (es : List Entry) → 1 < keep → entries_left texts keep es ≡ None
unkept texts keep es h =
    rw (ne_eqb keep 0 (λ e. absurd (omega (arith, e, h))), ne_eqb keep 1 (λ e. absurd (omega (arith, e, h))))

bad_undone : (v : Services) (m : List ℕ) (x y : ℕ) → Bad ≡ Done v m x y → ⊥
bad_undone v m x y e = cc

-- no other way to keep is one
few_of :
    (v : Services) (left : List Activation) (texts edits keep : ℕ) (m m' : List ℕ) (x y x' y' : ℕ) (v' : Services) →
    or_bad (ended_to v left texts edits keep) (λ v. Done v m x y) ≡ Done v' m' x' y' → keep ≤ 1
few_of v left texts edits zero m m' x y x' y' v' e = omega arith
few_of v left texts edits (suc zero) m m' x y x' y' v' e = omega arith
few_of v left texts edits (suc (suc n)) m m' x y x' y' v' e =
    absurd
    (bad_undone v' m' x' y'
    (subst (λ (o : Option (List Entry)). or_bad (ended_with v left edits o) (λ v. Done v m x y) ≡ Done v' m' x' y')
    (unkept texts (suc (suc n)) v.entries (omega arith)) e))

left_few : (c : Call) (keep second : ℕ) (as' : List Activation) (v' : Services) (m' : List ℕ) (x' y' : ℕ) → left_by c keep second as' ≡ Done v' m' x' y' → keep ≤ 1
left_few c keep second [] v' m' x' y' e = absurd cc
left_few c keep second (a ∷ as') v' m' x' y' e =
    few_of (record c.services { line = a.line }) as' a.texts a.edits keep c.memory m' keep second x' y' v' e

left_kept :
    (c : Call) (second : ℕ) (as' : List Activation) (w : Services) (texts edits : ℕ) (m' : List ℕ) (x' y' : ℕ) →
    left_by c 1 second as' ≡ Done (back_to texts edits 1 w) m' x' y' → w.entries ≡ c.services.entries → IsKept texts c.services.entries
left_kept c second [] w texts edits m' x' y' e same = absurd cc
left_kept c second (a ∷ as') w texts edits m' x' y' e same =
    kept_of (record c.services { line = a.line }) w as' a.edits a.texts texts edits (top_kept a.texts c.services.entries) c.memory m' 1 second x' y' refl e same

unwound_few : (c : Call) (frame keep : ℕ) (as' : List Activation) (v' : Services) (m' : List ℕ) (x' y' : ℕ) → unwound c frame keep as' ≡ Done v' m' x' y' → keep ≤ 1
unwound_few c frame keep [] v' m' x' y' e = absurd cc
unwound_few c frame keep (a ∷ as') v' m' x' y' e =
    few_of c.services (a ∷ as') a.texts a.edits keep c.memory m' frame keep x' y' v' e

unwound_kept :
    (c : Call) (frame : ℕ) (as' : List Activation) (w : Services) (texts edits : ℕ) (m' : List ℕ) (x' y' : ℕ) →
    unwound c frame 1 as' ≡ Done (back_to texts edits 1 w) m' x' y' → w.entries ≡ c.services.entries → IsKept texts c.services.entries
unwound_kept c frame [] w texts edits m' x' y' e same = absurd cc
unwound_kept c frame (a ∷ as') w texts edits m' x' y' e same =
    kept_of c.services w (a ∷ as') a.edits a.texts texts edits (top_kept a.texts c.services.entries) c.memory m' frame 1 x' y' refl e same

-- ---- a block was left

three_alike :
    (v : Services) (i i' : Input) (es es' : List Entry) (e e' : List EditPlace) → i' ≡ i → es' ≡ es → e' ≡ e →
    record v { input = i'; entries = es'; edits = e' } ≡ record v { input = i; entries = es; edits = e }
three_alike v i i' es es' e e' p q t = cc

counted_back :
    (k : Keeper) (r r' : RunSeen) (m : List ℕ) →
    IsStanding k r m → r'.held.layout ≡ r.held.layout → length r'.held.controlled ≡ 2 ^ 16 →
    r'.in_use ≡ take (length r'.flow.activations) r.in_use →
    IsCounted r'.held.signatures (livings r'.held.variables.roots) (take (length r'.flow.activations) r.in_use) →
    IsStanding k r' m
counted_back k r r' m s same known cut counted = record {
  laid = subst (λ (l : Layout). IsLaid k l m) (sym same) s.laid;
  known = known;
  counted = subst (λ (u : List ℕ). IsCounted r'.held.signatures (livings r'.held.variables.roots) u) (sym cut) counted;
  high = subst (λ (u : List ℕ). length u ≤ length r'.flow.activations) (sym cut) (take_short (length r'.flow.activations) r.in_use);
}
  where
    take_short : (n : ℕ) (xs : List ℕ) → length (take n xs) ≤ n
    take_short n xs = grind (arith, common_steps)

-- the reply is the answer once entries and places in format lists are back
back_answered :
    (k : Keeper) (r r' : RunSeen) (m : List ℕ) (service : Call → Answer) (keep : ℕ) (left : Left) (reply : Reply) →
    NeverEnds (service (call_of k r m)) →
    ((v : Services) (x y : ℕ) → service (call_of k r m) ≡ Done v m x y → IsCounted v.signatures v.living (take (length v.activations) r.in_use)) →
    IsStanding k r m → r'.held.layout ≡ r.held.layout → length r'.held.controlled ≡ 2 ^ 16 →
    r'.in_use ≡ take (length r'.flow.activations) r.in_use →
    running r' ≡ back_to left.texts left.edits keep (with_both k r'.flow r'.held m (call_of k r m)).services →
    Replies (service (call_of k r m)) (running r) m (Ok reply) (back_to left.texts left.edits keep (with_both k r'.flow r'.held m (call_of k r m)).services) m →
    IsCarriedOut k service r m (Ok reply) r' m
back_answered k r r' m service keep left R.Ended never counted s same known cut alike answers = absurd (never _ answers.0)
back_answered k r r' m service keep left (R.Done x y) never counted s same known cut alike answers = record {
  served = answers ∙ ap (λ (v : Services). Done v m x y) (sym alike);
  standing = counted_back k r r' m s same known cut (counted _ x y answers);
  layout = same;
}

pub by_left :
    (k : Keeper) (r r' : RunSeen) (m : List ℕ) (service : Call → Answer) (keep : ℕ) (f : FlowSeen) (h : Held)
    (left : Left) →
    NeverEnds (service (call_of k r m)) →
    ((v : Services) (x y : ℕ) → service (call_of k r m) ≡ Done v m x y → IsCounted v.signatures v.living (take (length v.activations) r.in_use)) →
    IsStanding k r m → h ≡ record r.held { variables = h.variables } → IsBack left keep (record r { flow = f; held = h }) r' →
    Leaves (service (call_of k r m)) keep (call_of k r m) (Ok left) (with_both k f h m (call_of k r m)) →
    IsCarriedOut k service r m (Ok left.reply) r' m
by_left k r r' m service keep f h left never counted s kept back answers =
    back_answered k r r' m service keep left left.reply never counted s
    (ap (λ (held : Held). held.layout) (back.held ∙ kept))
    (ap (λ (held : Held). length held.controlled) (back.held ∙ kept) ∙ s.known)
    (subst (λ (flow : FlowSeen). r'.in_use ≡ take (length flow.activations) r.in_use) (sym back.flow) back.in_use)
    (three_alike (running r') _ _ _ _ _ _ back.input back.entries back.edits)
    (subst (λ (flow : FlowSeen). Replies (service (call_of k r m)) (running r) m (Ok left.reply)
    (back_to left.texts left.edits keep (with_both k flow r'.held m (call_of k r m)).services) m) (sym back.flow)
    (subst (λ (held : Held). Replies (service (call_of k r m)) (running r) m (Ok left.reply) (back_to left.texts left.edits keep (with_both k f held m (call_of k r m)).services) m) (sym back.held) answers))

-- ---- no block was left

pub refused_alike : (answer : Answer) (v v' : Services) (m m' : List ℕ) (refusal : Refusal) → Replies answer v m (Err refusal) v' m' → v' ≡ v
refused_alike answer v v' m m' F.Bad h = h.1
refused_alike answer v v' m m' F.Memory h = h.0

pub by_kept :
    (k : Keeper) (r : RunSeen) (m : List ℕ) (service : Call → Answer) (keep : ℕ) (f : FlowSeen) (h : Held)
    (refusal : Refusal) →
    IsStanding k r m → h ≡ record r.held { variables = h.variables } →
    Leaves (service (call_of k r m)) keep (call_of k r m) (Err refusal) (with_both k f h m (call_of k r m)) →
    IsCarriedOut k service r m (Err refusal) (record r { flow = f; held = h }) m
by_kept k r m service keep f h refusal s kept answers =
    let alike : running (record r { flow = f; held = h }) ≡ running r = refused_alike _ _ _ m m refusal answers in
    record {
      served = answers;
      standing = record {
        laid = subst (λ (held : Held). IsLaid k held.layout m) (sym kept) s.laid;
        known = ap (λ (held : Held). length held.controlled) kept ∙ s.known;
        counted = subst (λ (v : Services). IsCounted v.signatures v.living r.in_use) (sym alike) s.counted;
        high = subst (λ (v : Services). length r.in_use ≤ length v.activations) (sym alike) s.high;
      };
      layout = ap (λ (held : Held). held.layout) kept;
    }

-- ---- the three services

pub leave_never_ends : (c : Call) (keep second : ℕ) → NeverEnds (leave_served c keep second)
leave_never_ends c keep second = left_goes_on c keep second c.services.activations

pub unwind_never_ends : (c : Call) (frame keep : ℕ) → NeverEnds (unwind_served c frame keep)
unwind_never_ends c frame keep = unwound_goes_on c frame keep (from_frame frame c.services.activations)

pub return_never_ends : (c : Call) → NeverEnds (return_served c)
return_never_ends c = returned_goes_on c c.services.activations

-- what must hold where entries go back is told by the answer
record Told (answer : Answer) (w : Services) (m : List ℕ) : Type 0 where
  x : ℕ
  y : ℕ
  is_done : answer ≡ Done w m x y

told :
    (answer : Answer) (v w : Services) (m m' : List ℕ) (reply : Reply) →
    NeverEnds answer → Replies answer v m (Ok reply) w m' → Told answer w m'
told answer v w m m' (R.Done x y) never h = record { x = x; y = y; is_done = h }
told answer v w m m' R.Ended never h = absurd (never _ h.0)

pub leave_few :
    (c c' : Call) (keep second : ℕ) (left : Left) → Leaves (leave_served c keep second) keep c (Ok left) c' → keep ≤ 1
leave_few c c' keep second left h =
    let t = told (leave_served c keep second) c.services (back_to left.texts left.edits keep c'.services) c.memory c'.memory left.reply (leave_never_ends c keep second) h in
    left_few c keep second c.services.activations _ _ t.x t.y t.is_done

pub leave_kept :
    (c c' : Call) (keep second : ℕ) (left : Left) →
    Leaves (leave_served c keep second) keep c (Ok left) c' → c'.services.entries ≡ c.services.entries → keep ≡ 1 →
    IsKept left.texts c.services.entries
leave_kept c c' keep second left h same one =
    let t = told (leave_served c keep second) c.services (back_to left.texts left.edits keep c'.services) c.memory c'.memory left.reply (leave_never_ends c keep second) h in
    left_kept c second c.services.activations c'.services left.texts left.edits c'.memory t.x t.y
    (subst (λ (n : ℕ). leave_served c n second ≡ Done (back_to left.texts left.edits n c'.services) c'.memory t.x t.y) one t.is_done)
    same

pub unwind_few :
    (c c' : Call) (frame keep : ℕ) (left : Left) → Leaves (unwind_served c frame keep) keep c (Ok left) c' → keep ≤ 1
unwind_few c c' frame keep left h =
    let t = told (unwind_served c frame keep) c.services (back_to left.texts left.edits keep c'.services) c.memory c'.memory left.reply (unwind_never_ends c frame keep) h in
    unwound_few c frame keep (from_frame frame c.services.activations) _ _ t.x t.y t.is_done

pub unwind_kept :
    (c c' : Call) (frame keep : ℕ) (left : Left) →
    Leaves (unwind_served c frame keep) keep c (Ok left) c' → c'.services.entries ≡ c.services.entries → keep ≡ 1 →
    IsKept left.texts c.services.entries
unwind_kept c c' frame keep left h same one =
    let t = told (unwind_served c frame keep) c.services (back_to left.texts left.edits keep c'.services) c.memory c'.memory left.reply (unwind_never_ends c frame keep) h in
    unwound_kept c frame (from_frame frame c.services.activations) c'.services left.texts left.edits c'.memory t.x t.y
    (subst (λ (n : ℕ). unwind_served c frame n ≡ Done (back_to left.texts left.edits n c'.services) c'.memory t.x t.y) one t.is_done)
    same
