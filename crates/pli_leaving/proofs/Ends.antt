-- What ends with a block.
use Rattle.std.proofs.Common.{◌≡◌, ◌≢◌, ℕ, suc, ◌-◌, ◌≤◌, List, [], ◌∷◌, ◌++◌, length, drop, map, Option, Some, None, Bool, true, false, refl, sym, ap, ap₂, ◌∙◌, arith, append-nil, inl, inr, length-drop}
use Rattle.std.specs.Prelude.{◌==◌, ◌⊎◌, filter, is_some, min, nat_le, nat_lt, option_map, reverse, slice_get, unwrap_or, if◌then◌else◌}
use Rattle.std.proofs.lemmas.Bool.Decides.{nat_tests}
use Rattle.std.proofs.lemmas.List.{map-append, reverse-append}
use Rattle.area_keeper.specs.Keeper.{Keeper}
use Rattle.controlled_gens.specs.declared.roots.Root.{Root}
use Rattle.controlled_gens.specs.Rooted.{Rooted, living, livings, up_to_owner}
use Rattle.pli_serving.specs.Answers.{Answer, Done, Bad}
use Rattle.pli_serving.specs.Blocks.{are_texts, ended_with, entries_left, from_frame, left_by, leave_served, oldest, return_served, returned_by, top_kept, unit_left, unwind_served, unwound}
use Rattle.pli_serving.specs.Finding.{Call}
use Rattle.pli_serving.specs.Outcomes.{or_bad}
use Rattle.pli_serving.specs.ServiceState.{Activation, BeginBlock, Entry, TextEntry, AggregateEntry, Living, OnUnitBlock, ProcedureBlock, Services}
use Rattle.pli_activations.specs.declared.block.Block.{Block}
use Rattle.pli_activations.specs.declared.block.BlockKind.TheVariants as K
use Rattle.pli_activations.specs.Entered.{block_shown, kind_shown, without_units}
use Rattle.pli_services.specs.Flowing.{FlowSeen, flowing}
use Rattle.pli_storage.specs.declared.held.Held.{Held}
use Rattle.pli_storage.specs.Held.{holding}
use Rattle.pli_leaving.specs.Leaving.{IsNewest, back_to, with_both}

-- ---- the entries that stay

eq_false : (a b : ℕ) → a ≢ b → (a == b) ≡ false
eq_false a b e = grind (arith, nat_tests)

some_if : (t : Bool) (es : List Entry) → is_some (if t then Some es else None) ≡ t
some_if true es = refl
some_if false es = refl

below : (texts count : ℕ) → nat_le texts count ≡ nat_lt texts (suc count)
below texts count = grind (arith, nat_tests)

pub text_on_top : (texts entries : ℕ) (es : List Entry) → entries ≡ length es → true ≡ are_texts 1 es → nat_lt texts entries ≡ is_some (top_kept texts es)
text_on_top texts entries [] e t = cc
text_on_top texts entries (AggregateEntry leaves ∷ es) e t = cc
text_on_top texts entries (TextEntry x ∷ es) e t =
    ap (nat_lt texts) e ∙ sym (below texts (length es)) ∙ sym (some_if (nat_le texts (length es)) (TextEntry x ∷ oldest texts es))

pub no_text_on_top : (texts : ℕ) (es : List Entry) → false ≡ are_texts 1 es → false ≡ is_some (top_kept texts es)
no_text_on_top texts [] t = refl
no_text_on_top texts (AggregateEntry leaves ∷ es) t = refl
no_text_on_top texts (TextEntry x ∷ es) t = cc

pub not_kept : (texts keep : ℕ) (es : List Entry) → keep ≢ 0 → keep ≢ 1 → false ≡ is_some (entries_left texts keep es)
not_kept texts keep es zero one =
    sym
    (ap (λ t. is_some (if t then Some (oldest texts es) else (if keep == 1 then top_kept texts es else None))) (eq_false keep 0 zero)
    ∙ ap (λ t. is_some (if t then top_kept texts es else None)) (eq_false keep 1 one))

-- ---- the variables that live on

filter_two : (p : Living → Bool) (ls : List Living) (l : Living) → filter p (ls ++ l ∷ []) ≡ filter p ls ++ filter p (l ∷ [])
filter_two p [] l = refl
filter_two p (k ∷ ks) l = by_test (p k) (filter_two p ks l)
  where
    by_test : (t : Bool) → filter p (ks ++ l ∷ []) ≡ filter p ks ++ filter p (l ∷ []) → (if t then k ∷ filter p (ks ++ l ∷ []) else filter p (ks ++ l ∷ [])) ≡ (if t then k ∷ filter p ks else filter p ks) ++ filter p (l ∷ [])
    by_test true e = ap (λ ls. k ∷ ls) e
    by_test false e = e

front : (e : ℕ × Root) (es : List (ℕ × Root)) → livings (e ∷ es) ≡ livings es ++ living e ∷ []
front e es = ap (map living) (reverse-append (e ∷ []) es) ∙ map-append living (reverse es) (e ∷ [])

pub living_left : (owner : ℕ) (es : List (ℕ × Root)) → livings (filter (λ e. nat_le e.1.owner owner) es) ≡ filter (λ l. nat_le l.owner owner) (livings es)
living_left owner [] = refl
living_left owner (e ∷ es) =
    by_test (nat_le e.1.owner owner) (living_left owner es)
    ∙ sym (filter_two (λ l. nat_le l.owner owner) (livings es) (living e))
    ∙ ap (filter (λ l. nat_le l.owner owner)) (sym (front e es))
  where
    kept : List (ℕ × Root)
    kept = filter (λ e. nat_le e.1.owner owner) es

    by_test : (t : Bool) → livings kept ≡ filter (λ l. nat_le l.owner owner) (livings es) → livings (if t then e ∷ kept else kept) ≡ filter (λ l. nat_le l.owner owner) (livings es) ++ (if t then living e ∷ [] else [])
    by_test true further = front e kept ∙ ap (λ ls. ls ++ living e ∷ []) further
    by_test false further = further ∙ sym (append-nil (filter (λ l. nat_le l.owner owner) (livings es)))

-- ---- the newest block ends

some_is : (o : Option (List Entry)) → true ≡ is_some o → o ≡ Some (unwrap_or o [])
some_is None e = cc
some_is (Some es) e = refl

-- the services without the newest block
abbrev pub without_newest : Services → Block → (keep height : ℕ) → List Activation → Services
without_newest v block keep height as' =
    record v {
      line = block.line;
      activations = drop (length as' - height) as';
      living = filter (λ l. nat_le l.owner height) v.living;
      entries = unwrap_or (entries_left block.texts keep v.entries) [];
      edits = oldest block.edits v.edits;
    }

ended_so : (v : Services) (block : Block) (keep height : ℕ) (a : Activation) (as' : List Activation) → block_shown block ≡ without_units a → true ≡ is_some (entries_left block.texts keep v.entries) → height ≡ length (a ∷ as') - 1 → ended_with (record v { line = a.line }) as' a.edits (entries_left a.texts keep v.entries) ≡ Some (without_newest v block keep height (a ∷ as'))
ended_so v block keep height a as' shown some h =
    let texts : block.texts ≡ a.texts = ap (λ (x : Activation). x.texts) shown in
    let edits : block.edits ≡ a.edits = ap (λ (x : Activation). x.edits) shown in
    let line : block.line ≡ a.line = ap (λ (x : Activation). x.line) shown in
    let many : length as' ≡ height = omega (arith, h) in
    let one : 1 ≡ length (a ∷ as') - height = omega (arith, h) in
    ap (λ n. ended_with (record v { line = a.line }) as' a.edits (entries_left n keep v.entries)) (sym texts)
    ∙ ap (ended_with (record v { line = a.line }) as' a.edits) (some_is (entries_left block.texts keep v.entries) some)
    ∙ ap₂ (λ (line edits : ℕ). Some (record v { line = line; activations = as'; living = filter (λ l. nat_le l.owner (length as')) v.living; entries = unwrap_or (entries_left block.texts keep v.entries) []; edits = oldest edits v.edits })) (sym line) (sym edits)
    ∙ ap₂ (λ (n : ℕ) (left : List Activation). Some (record v { line = block.line; activations = left; living = filter (λ l. nat_le l.owner n) v.living; entries = unwrap_or (entries_left block.texts keep v.entries) []; edits = oldest block.edits v.edits })) many (ap (λ n. drop n (a ∷ as')) one)

same_block : (block : Block) (a : Activation) (as' : List Activation) → IsNewest block (a ∷ as') → block_shown block ≡ without_units a
same_block block a as' e = cc

left_so : (c : Call) (block : Block) (keep a1 height : ℕ) (as' : List Activation) → IsNewest block as' → true ≡ is_some (entries_left block.texts keep c.services.entries) → height ≡ length as' - 1 → left_by c keep a1 as' ≡ Done (without_newest c.services block keep height as') c.memory keep a1
left_so c block keep a1 height [] newest some h = cc
left_so c block keep a1 height (a ∷ as') newest some h = ap (λ o. or_bad o (λ v. Done v c.memory keep a1)) (ended_so c.services block keep height a as' (same_block block a as' newest) some h)

left_not : (c : Call) (block : Block) (keep a1 : ℕ) (as' : List Activation) → IsNewest block as' → false ≡ is_some (entries_left block.texts keep c.services.entries) → left_by c keep a1 as' ≡ Bad
left_not c block keep a1 [] newest none = cc
left_not c block keep a1 (a ∷ as') newest none =
    let texts : block.texts ≡ a.texts = ap (λ (x : Activation). x.texts) (same_block block a as' newest) in
    ap (λ n. or_bad (ended_with (record c.services { line = a.line }) as' a.edits (entries_left n keep c.services.entries)) (λ v. Done v c.memory keep a1)) (sym texts)
    ∙ by_option (entries_left block.texts keep c.services.entries) none
  where
    by_option : (o : Option (List Entry)) → false ≡ is_some o → or_bad (ended_with (record c.services { line = a.line }) as' a.edits o) (λ v. Done v c.memory keep a1) ≡ Bad
    by_option None e = refl
    by_option (Some es) e = cc

returned_so : (c : Call) (block : Block) (code resume height : ℕ) (as' : List Activation) → IsNewest block as' → block.kind ≡ K.OnUnit code resume → height ≡ length as' - 1 → returned_by c as' ≡ Done (without_newest c.services block 0 height as') c.memory resume code
returned_so c block code resume height [] newest unit h = cc
returned_so c block code resume height (a ∷ as') newest unit h =
    let shown = same_block block a as' newest in
    let kind : a.kind ≡ OnUnitBlock code resume = sym (ap (λ (x : Activation). x.kind) shown) ∙ ap kind_shown unit in
    ap (λ k. unit_left c k (ended_with (record c.services { line = a.line }) as' a.edits (entries_left a.texts 0 c.services.entries))) kind
    ∙ ap (λ o. or_bad o (λ v. Done v c.memory resume code)) (ended_so c.services block 0 height a as' shown refl h)

-- ---- by what a run holds

both_after : (f : FlowSeen) (h : Held) (v : Services) (block : Block) (keep height : ℕ)
    (activations : List Activation) (variables : Rooted) → activations ≡ drop (length f.activations - height)
    f.activations → variables ≡ up_to_owner height h.variables → without_newest (flowing f (holding h v)) block keep
    height f.activations ≡ back_to block.texts block.edits keep (flowing (record f {
      line = block.line;
      activations =
          activations;
    }) (holding (record h { variables = variables }) v))
both_after f h v block keep height activations variables e g =
    ap (λ (ls : List Living). record (flowing f (holding h v)) { line = block.line; activations = drop (length f.activations - height) f.activations; living = ls; entries = unwrap_or (entries_left block.texts keep v.entries) []; edits = oldest block.edits v.edits }) (sym (living_left height h.variables.roots))
    ∙ ap₂ (λ (as' : List Activation) (r : Rooted). back_to block.texts block.edits keep (flowing (record f { line = block.line; activations = as' }) (holding (record h { variables = r }) v))) (sym e) (sym g)

pub newest_left : (k : Keeper) (f : FlowSeen) (h : Held) (m : List ℕ) (c : Call) (block : Block) (keep a1 height : ℕ)
    (activations : List Activation) (variables : Rooted) → IsNewest block f.activations →
    true ≡ is_some (entries_left block.texts keep c.services.entries) → height ≡ length f.activations - 1 →
    activations ≡ drop (length f.activations - height) f.activations → variables ≡ up_to_owner height h.variables
    → leave_served (with_both k f h m c) keep a1 ≡ Done (back_to block.texts block.edits keep (flowing (record f { line = block.line; activations = activations }) (holding (record h { variables = variables }) c.services))) m keep a1
newest_left k f h m c block keep a1 height activations variables newest some n e g =
    left_so (with_both k f h m c) block keep a1 height f.activations newest some n
    ∙ ap (λ (v : Services). Done v m keep a1) (both_after f h c.services block keep height activations variables e g)

pub newest_stays : (k : Keeper) (f : FlowSeen) (h : Held) (m : List ℕ) (c : Call) (block : Block) (keep a1 : ℕ) →
    IsNewest block f.activations → false ≡ is_some (entries_left block.texts keep c.services.entries) →
    leave_served (with_both k f h m c) keep a1 ≡ Bad
newest_stays k f h m c block keep a1 newest none = left_not (with_both k f h m c) block keep a1 f.activations newest none

pub unit_returned : (k : Keeper) (f : FlowSeen) (h : Held) (m : List ℕ) (c : Call) (block : Block)
    (code resume height : ℕ) (activations : List Activation) (variables : Rooted) → IsNewest block f.activations →
    block.kind ≡ K.OnUnit code resume → height ≡ length f.activations - 1 →
    activations ≡ drop (length f.activations - height) f.activations → variables ≡ up_to_owner height h.variables
    → return_served (with_both k f h m c) ≡ Done (back_to block.texts block.edits 0 (flowing (record f { line = block.line; activations = activations }) (holding (record h { variables = variables }) c.services))) m resume code
unit_returned k f h m c block code resume height activations variables newest unit n e g =
    returned_so (with_both k f h m c) block code resume height f.activations newest unit n
    ∙ ap (λ (v : Services). Done v m resume code) (both_after f h c.services block 0 height activations variables e g)

-- ---- where no block is entered, or the newest is no on-unit

none_in : (c : Call) (keep a1 : ℕ) (as' : List Activation) → None ≡ option_map without_units (slice_get as' 0) → left_by c keep a1 as' ≡ Bad
none_in c keep a1 [] e = refl
none_in c keep a1 (a ∷ as') e = cc

pub none_left : (k : Keeper) (f : FlowSeen) (h : Held) (m : List ℕ) (c : Call) (keep a1 : ℕ) →
    None ≡ option_map without_units (slice_get f.activations 0) → leave_served (with_both k f h m c) keep a1 ≡ Bad
none_left k f h m c keep a1 e = none_in (with_both k f h m c) keep a1 f.activations e

none_out : (c : Call) (as' : List Activation) → None ≡ option_map without_units (slice_get as' 0) → returned_by c as' ≡ Bad
none_out c [] e = refl
none_out c (a ∷ as') e = cc

pub none_returned : (k : Keeper) (f : FlowSeen) (h : Held) (m : List ℕ) (c : Call) → None ≡ option_map without_units
    (slice_get f.activations 0) → return_served (with_both k f h m c) ≡ Bad
none_returned k f h m c e = none_out (with_both k f h m c) f.activations e

other_out : (c : Call) (block : Block) (as' : List Activation) → IsNewest block as' → (kind_shown block.kind ≡ ProcedureBlock) ⊎ (kind_shown block.kind ≡ BeginBlock) → returned_by c as' ≡ Bad
other_out c block [] newest other = cc
other_out c block (a ∷ as') newest (inl e) = ap (λ k. unit_left c k (ended_with (record c.services { line = a.line }) as' a.edits (entries_left a.texts 0 c.services.entries))) (sym (ap (λ (x : Activation). x.kind) (same_block block a as' newest)) ∙ e)
other_out c block (a ∷ as') newest (inr e) = ap (λ k. unit_left c k (ended_with (record c.services { line = a.line }) as' a.edits (entries_left a.texts 0 c.services.entries))) (sym (ap (λ (x : Activation). x.kind) (same_block block a as' newest)) ∙ e)

pub procedure_stays : (k : Keeper) (f : FlowSeen) (h : Held) (m : List ℕ) (c : Call) (block : Block) →
    IsNewest block f.activations → block.kind ≡ K.Procedure → return_served (with_both k f h m c) ≡ Bad
procedure_stays k f h m c block newest e = other_out (with_both k f h m c) block f.activations newest (inl (ap kind_shown e))

pub begin_stays : (k : Keeper) (f : FlowSeen) (h : Held) (m : List ℕ) (c : Call) (block : Block) →
    IsNewest block f.activations → block.kind ≡ K.Begin → return_served (with_both k f h m c) ≡ Bad
begin_stays k f h m c block newest e = other_out (with_both k f h m c) block f.activations newest (inr (ap kind_shown e))

-- ---- all blocks above one end

-- the services with these blocks alone
abbrev pub with_left : Services → Block → (keep height : ℕ) → List Activation → Services
with_left v block keep height left =
    record v {
      activations = left;
      living = filter (λ l. nat_le l.owner height) v.living;
      entries = unwrap_or (entries_left block.texts keep v.entries) [];
      edits = oldest block.edits v.edits;
    }

unwound_so : (c : Call) (block : Block) (frame keep height : ℕ) (left : List Activation) → IsNewest block left → true ≡ is_some (entries_left block.texts keep c.services.entries) → length left ≡ height → unwound c frame keep left ≡ Done (with_left c.services block keep height left) c.memory frame keep
unwound_so c block frame keep height [] newest some h = cc
unwound_so c block frame keep height (a ∷ as') newest some h =
    let shown = same_block block a as' newest in
    let texts : block.texts ≡ a.texts = ap (λ (x : Activation). x.texts) shown in
    let edits : block.edits ≡ a.edits = ap (λ (x : Activation). x.edits) shown in
    ap (λ n. or_bad (ended_with c.services (a ∷ as') a.edits (entries_left n keep c.services.entries)) (λ v. Done v c.memory frame keep)) (sym texts)
    ∙ ap (λ o. or_bad (ended_with c.services (a ∷ as') a.edits o) (λ v. Done v c.memory frame keep)) (some_is (entries_left block.texts keep c.services.entries) some)
    ∙ ap₂ (λ (n edits : ℕ). Done (record c.services { activations = a ∷ as'; living = filter (λ l. nat_le l.owner n) c.services.living; entries = unwrap_or (entries_left block.texts keep c.services.entries) []; edits = oldest edits c.services.edits }) c.memory frame keep) h (sym edits)

unwound_not : (c : Call) (block : Block) (frame keep : ℕ) (left : List Activation) → IsNewest block left → false ≡ is_some (entries_left block.texts keep c.services.entries) → unwound c frame keep left ≡ Bad
unwound_not c block frame keep [] newest none = cc
unwound_not c block frame keep (a ∷ as') newest none =
    let texts : block.texts ≡ a.texts = ap (λ (x : Activation). x.texts) (same_block block a as' newest) in
    ap (λ n. or_bad (ended_with c.services (a ∷ as') a.edits (entries_left n keep c.services.entries)) (λ v. Done v c.memory frame keep)) (sym texts)
    ∙ by_option (entries_left block.texts keep c.services.entries) none
  where
    by_option : (o : Option (List Entry)) → false ≡ is_some o → or_bad (ended_with c.services (a ∷ as') a.edits o) (λ v. Done v c.memory frame keep) ≡ Bad
    by_option None e = refl
    by_option (Some es) e = cc

left_many : (height : ℕ) (as' : List Activation) → height ≤ length as' → length (drop (length as' - height) as') ≡ height
left_many height as' h = simp length-drop (omega (arith, h))

unwound_after : (f : FlowSeen) (h : Held) (v : Services) (block : Block) (keep height : ℕ)
    (activations : List Activation) (variables : Rooted) → variables ≡ up_to_owner height h.variables →
    with_left (flowing f (holding h v)) block keep height activations ≡ back_to block.texts block.edits keep
    (flowing (record f { activations = activations }) (holding (record h { variables = variables }) v))
unwound_after f h v block keep height activations variables g =
    ap (λ (ls : List Living). record (flowing f (holding h v)) { activations = activations; living = ls; entries = unwrap_or (entries_left block.texts keep v.entries) []; edits = oldest block.edits v.edits }) (sym (living_left height h.variables.roots))
    ∙ ap (λ (r : Rooted). back_to block.texts block.edits keep (flowing (record f { activations = activations }) (holding (record h { variables = r }) v))) (sym g)

pub above_left : (k : Keeper) (f : FlowSeen) (h : Held) (m : List ℕ) (c : Call) (block : Block)
    (frame keep height : ℕ) (activations : List Activation) (variables : Rooted) →
    IsNewest block (from_frame frame f.activations) → true ≡ is_some (entries_left block.texts keep
    c.services.entries) → height ≤ length f.activations → drop (length f.activations - height) f.activations ≡
    from_frame frame f.activations → activations ≡ drop (length f.activations - height) f.activations →
    variables ≡ up_to_owner height h.variables
    → unwind_served (with_both k f h m c) frame keep ≡ Done (back_to block.texts block.edits keep (flowing (record f { activations = activations }) (holding (record h { variables = variables }) c.services))) m frame keep
above_left k f h m c block frame keep height activations variables newest some inside there e g =
    let many : length (from_frame frame f.activations) ≡ height = ap length (sym there) ∙ left_many height f.activations inside in
    unwound_so (with_both k f h m c) block frame keep height (from_frame frame f.activations) newest some many
    ∙ ap (λ (left : List Activation). Done (with_left (flowing f (holding h c.services)) block keep height left) m frame keep) (sym there ∙ sym e)
    ∙ ap (λ (v : Services). Done v m frame keep) (unwound_after f h c.services block keep height activations variables g)

pub above_stays : (k : Keeper) (f : FlowSeen) (h : Held) (m : List ℕ) (c : Call) (block : Block) (frame keep : ℕ) →
    IsNewest block (from_frame frame f.activations) → false ≡ is_some (entries_left block.texts keep
    c.services.entries) → unwind_served (with_both k f h m c) frame keep ≡ Bad
above_stays k f h m c block frame keep newest none = unwound_not (with_both k f h m c) block frame keep (from_frame frame f.activations) newest none

none_framed : (c : Call) (frame keep : ℕ) (left : List Activation) → None ≡ option_map without_units (slice_get left 0) → unwound c frame keep left ≡ Bad
none_framed c frame keep [] e = refl
none_framed c frame keep (a ∷ as') e = cc

pub none_above : (k : Keeper) (f : FlowSeen) (h : Held) (m : List ℕ) (c : Call) (frame keep : ℕ) →
    None ≡ option_map without_units (slice_get (from_frame frame f.activations) 0) →
    unwind_served (with_both k f h m c) frame keep ≡ Bad
none_above k f h m c frame keep e = none_framed (with_both k f h m c) frame keep (from_frame frame f.activations) e

pub no_height : (k : Keeper) (f : FlowSeen) (h : Held) (m : List ℕ) (c : Call) (frame keep : ℕ) →
    [] ≡ from_frame frame f.activations → unwind_served (with_both k f h m c) frame keep ≡ Bad
no_height k f h m c frame keep e = ap (unwound (with_both k f h m c) frame keep) (sym e)

-- no height is above that of the newest block
pub least_height : (height : ℕ) (as' : List Activation) → drop (length as' - min height (length as')) as' ≡ drop (length as' - height) as'
least_height height as' = let same : length as' - min height (length as') ≡ length as' - height = omega arith in ap (λ n. drop n as') same
