-- No service takes back what was shown.
use Rattle.std.proofs.Common.{◌≡◌, ℕ, ◌+◌, ◌^◌, List, [], ◌∷◌, Option, Some}
use Rattle.std.proofs.Common.{None, Bool, true, false}
use Rattle.std.proofs.Common.{refl, sym, ap, subst}
use Rattle.std.specs.Prelude.{ℤ, pos, cond, nat_lt, nat_le, ◌==◌, slice_get, filter, length}
use Rattle.pli_meaning.specs.declared.outcome.End.{End}
use Rattle.pli_meaning.specs.Laws.{Extends}
use Rattle.pli_meaning.specs.Stream.{with_field}
use Rattle.pli_meaning.specs.World.{World, written}
use Rattle.cut_runs.proofs.Extending.{prefix_append, extends_refl, control_longer}
use Rattle.cut_runs.proofs.Extending.{counted_on, raising_on, written_on, ending_on}
use Rattle.pli_typing.specs.Signatures as G
use Rattle.pli_typing.specs.Signatures.{LeafKind}
use Rattle.pli_language.specs.declared.condition.Condition.{Condition}
use Rattle.pli_meaning.specs.BasicValues as B
use Rattle.pli_meaning.specs.Contents as C
use Rattle.pli_meaning.specs.StreamOrder.{Element}
use Rattle.pli_meaning.specs.Streaming as F
use Rattle.pli_serving.specs.ServiceState as S
use Rattle.pli_serving.specs.ServiceState.{Services}
use Rattle.pli_serving.specs.Answers.{Answer, Done, Bad, acting}
use Rattle.pli_serving.specs.Finding as N
use Rattle.pli_serving.specs.Finding.{Call, Found, Finding}
use Rattle.pli_serving.specs.Arguments as A
use Rattle.pli_serving.specs.Outcomes as O
use Rattle.pli_serving.specs.ActsAndEnds as W
use Rattle.pli_serving.specs.SignatureService as Sig
use Rattle.pli_serving.specs.Blocks as K
use Rattle.pli_serving.specs.Making as M
use Rattle.pli_serving.specs.Names as R
use Rattle.pli_serving.specs.AreaServices as Areas
use Rattle.pli_serving.specs.ControlledServices as Controlled
use Rattle.pli_serving.specs.TextServices as T
use Rattle.pli_serving.specs.OnUnits as U
use Rattle.pli_serving.specs.Edits as E
use Rattle.pli_serving.specs.ElementService as L
use Rattle.pli_serving.specs.Aggregates as P
use Rattle.pli_serving.specs.AggregateServices as Q
use Rattle.pli_serving.specs.Serving as V
use Rattle.pli_serving.specs.ElementService.{of_two_words}
use Rattle.cut_runs.specs.Continuing.{Continues}

quiet : {v v' : Services} {m : List ℕ} {x y : ℕ} → v'.world ≡ v.world → Continues v (Done v' m x y)
quiet {v = v} e = record { is = subst (λ u. Extends v.world u) (sym e) (extends_refl v.world) }

field_on : (field : List ℕ) (w : World) → Extends w (written (with_field field) w)
field_on field w = written_on (with_field field) w (prefix_append w.output field)

acts : {v v' : Services} {m : List ℕ} {x y : ℕ} → Extends v.world v'.world → Continues v (Done v' m x y)
acts e = record { is = e }

pub no_call : {v : Services} → Continues v Bad
no_call = record { is = tt }

pub if_shows : {v : Services} {a c : Answer} (t : Bool) → Continues v a → Continues v c → Continues v (cond t a c)
if_shows true h i = h
if_shows false h i = i

pub bad_shows : {X : Type 0} {v : Services} {next : X → Answer} (o : Option X) → ((x : X) → Continues v (next x)) →
    Continues v (O.or_bad o next)
bad_shows None h = no_call
bad_shows (Some x) h = h x

pub unless_shows : {v : Services} {a : Answer} (t : Bool) → Continues v a → Continues v (O.bad_unless t a)
unless_shows true h = h
unless_shows false h = no_call

acting_shows : {v : Services} {a : Answer} → Continues v a → Continues v (acting v a)
acting_shows {v = v} {a = a} h = if_shows (nat_lt (v.world.acts + 1) (2 ^ 64)) h no_call

status_shows : {X : Type 0} {next : X → Answer} (c : Call) (x code : ℕ) (o : Option X) →
    ((y : X) → Continues c.services (next y)) → Continues c.services (O.or_status c x code o next)
status_shows c x code None h = quiet refl
status_shows c x code (Some y) h = h y

found_shows : {v : Services} {otherwise : Answer} {next : Found → Answer} (o : Option Finding) → Continues v otherwise →
    ((f : Found) → Continues v (next f)) → Continues v (A.where_found o otherwise next)
found_shows None h i = no_call
found_shows (Some (N.FoundAt f)) h i = i f
found_shows (Some N.NotLiving) h i = h
found_shows (Some N.NoArea) h i = no_call

text_shows : {v : Services} {next : List ℕ → List S.Entry → Answer} (es : List S.Entry) →
    ((t : List ℕ) (below : List S.Entry) → Continues v (next t below)) → Continues v (O.on_text es next)
text_shows [] h = no_call
text_shows (S.TextEntry t ∷ below) h = h t below
text_shows (S.AggregateEntry t ∷ below) h = no_call

texts_show : {v : Services} {next : (left right : List ℕ) → List S.Entry → Answer} (es : List S.Entry) →
    ((left right : List ℕ) (below : List S.Entry) → Continues v (next left right below)) →
    Continues v (O.on_two_texts es next)
texts_show [] h = no_call
texts_show (S.AggregateEntry t ∷ below) h = no_call
texts_show (S.TextEntry right ∷ []) h = no_call
texts_show (S.TextEntry right ∷ S.AggregateEntry t ∷ below) h = no_call
texts_show (S.TextEntry right ∷ S.TextEntry left ∷ below) h = h left right below

next_shows : {v : Services} {next : E.NextItem → List S.EditPlace → Answer} (places : List S.EditPlace) →
    ((n : E.NextItem) (below : List S.EditPlace) → Continues v (next n below)) → Continues v (E.on_next places next)
next_shows [] h = no_call
next_shows (place ∷ below) h = bad_shows (E.next_item place) (λ n. h n below)

-- ---- 1, 2, 32, 33: acts and ends

act_shows : (c : Call) (line mode : ℕ) → Continues c.services (W.act_served c line mode)
act_shows c line mode = if_shows _ (acting_shows (acts (counted_on c.services.world))) (if_shows _ (quiet refl) no_call)

pub ended_shows : (end : End) (v : Services) → Continues v (W.run_ended end v)
ended_shows end v = acting_shows (record { is = ending_on end v.world })

end_shows : (c : Call) (kind code : ℕ) → Continues c.services (W.end_served c kind code)
end_shows c kind code = bad_shows _ (λ end. ended_shows end c.services)

retry_shows : (c : Call) (x y : ℕ) → Continues c.services (W.retry_served c x y)
retry_shows c x y = acting_shows (acts (counted_on c.services.world))

oncode_shows : (c : Call) (y : ℕ) → Continues c.services (W.oncode_served c y)
oncode_shows c y = quiet refl

-- ---- 3: signatures

signature_shows : (c : Call) (number places lower upper : ℕ) →
    Continues c.services (Sig.signature_served c number places lower upper)
signature_shows c number places lower upper = bad_shows (Sig.places_at c.layout places c.memory)
    (λ ps. bad_shows _ (λ t. unless_shows (nat_lt (Sig.number_of t c.services.signatures) A.own_signature)
    (quiet refl)))

-- ---- 4 to 7, 31: blocks

enter_shows : (c : Call) (kind frame line texts : ℕ) → Continues c.services (K.enter_served c kind frame line texts)
enter_shows c kind frame line texts = bad_shows (K.entered_of kind c.services.line c.services.waiting)
    (λ entered. unless_shows (K.are_texts texts c.services.entries)
    (if_shows _ (quiet refl) (ended_shows _ c.services)))

-- what is left of activations shows what all of them did
record SameWorld (v : Services) (o : Option Services) : Type 0 where
  is : (v' : Services) → o ≡ Some v' → v'.world ≡ v.world

ended_with_world : (v : Services) (left : List S.Activation) (edits : ℕ) (o : Option (List S.Entry)) →
    SameWorld v (K.ended_with v left edits o)
ended_with_world v left edits None = record { is = λ v' e. absurd (cc e) }
ended_with_world v left edits
    (Some es) = record {
      is = λ v' e. let f : record v {
        activations = left;
        living = filter (λ l. nat_le l.owner (length left)) v.living;
        entries = es;
        edits = K.oldest edits v.edits;
      } ≡ v' = cc e
          in ap (λ (u : Services). u.world) (sym f);
    }

ended_at_line : (v : Services) (line : ℕ) (left : List S.Activation) (edits : ℕ) (o : Option (List S.Entry)) →
    SameWorld v (K.ended_with (record v { line = line }) left edits o)
ended_at_line v line left edits None = record { is = λ v' e. absurd (cc e) }
ended_at_line v line left edits (Some es) =
    record {
      is = λ v' e.
          let f : record v {
            line = line;
            activations = left;
            living = filter (λ l. nat_le l.owner (length left)) v.living;
            entries = es;
            edits = K.oldest edits v.edits;
          } ≡ v' = cc e in
          ap (λ (u : Services). u.world) (sym f);
    }

same_shows : {v : Services} (m : List ℕ) (x y : ℕ) (o : Option Services) → SameWorld v o →
    Continues v (O.or_bad o (λ u. Done u m x y))
same_shows m x y None h = no_call
same_shows m x y (Some u) h = quiet (h.is u refl)

leave_by : (c : Call) (keep y : ℕ) (as' : List S.Activation) → Continues c.services (K.left_by c keep y as')
leave_by c keep y [] = no_call
leave_by c keep y (a ∷ as') = same_shows c.memory keep y _
    (ended_at_line c.services a.line as' a.edits (K.entries_left a.texts keep c.services.entries))

leave_shows : (c : Call) (keep y : ℕ) → Continues c.services (K.leave_served c keep y)
leave_shows c keep y = leave_by c keep y c.services.activations

unwound_shows : (c : Call) (frame keep : ℕ) (as' : List S.Activation) →
    Continues c.services (K.unwound c frame keep as')
unwound_shows c frame keep [] = no_call
unwound_shows c frame keep (a ∷ as') = same_shows c.memory frame keep _
    (ended_with_world _ (a ∷ as') a.edits (K.entries_left a.texts keep c.services.entries))

unit_left_shows : (c : Call) (kind : S.BlockKind) (o : Option Services) → SameWorld c.services o →
    Continues c.services (K.unit_left c kind o)
unit_left_shows c S.ProcedureBlock o h = no_call
unit_left_shows c S.BeginBlock o h = no_call
unit_left_shows c (S.OnUnitBlock code resume) o h = same_shows c.memory resume code o h

return_by : (c : Call) (as' : List S.Activation) → Continues c.services (K.returned_by c as')
return_by c [] = no_call
return_by c (a ∷ as') = unit_left_shows c a.kind _
    (ended_at_line c.services a.line as' a.edits (K.entries_left a.texts 0 c.services.entries))

make_shows : (c : Call) (name signature initial place class : ℕ) →
    Continues c.services (M.make_served c name signature initial place class)
make_shows c name signature initial place class =
    bad_shows (M.owner_of class (S.height c.services))
    (λ owner. bad_shows (A.shape_of_number c signature)
    (λ s. bad_shows _ (λ values. if_shows (M.passes_limit c.services owner (C.fresh s (pos 0) values))
    (ended_shows _ c.services) (unless_shows _ (quiet refl)))))

-- ---- 8, 9, 14, 15: names

resolve_shows : (c : Call) (name signature leaf buffer : ℕ) →
    Continues c.services (R.resolve_served c name signature leaf buffer)
resolve_shows c name signature leaf buffer =
    found_shows (A.asked_at c name signature) (quiet refl)
    (λ f. bad_shows (A.shape_of_number c f.signature)
    (λ s. bad_shows _ (λ l. bad_shows (R.described c.layout buffer (R.leaf_words l) c.memory)
    (λ m. quiet refl))))

address_shows : (c : Call) (name signature destination : ℕ) →
    Continues c.services (R.address_served c name signature destination)
address_shows c name signature destination = unless_shows _ (found_shows _ (quiet refl) (λ f. quiet refl))

offset_answered_shows : (c : Call) (name : ℕ) (o : Option (Option ℕ)) →
    Continues c.services (R.offset_answered c name o)
offset_answered_shows c name None = quiet refl
offset_answered_shows c name (Some o) = quiet refl

locator_shows : (c : Call) (x area destination mode : ℕ) →
    Continues c.services (R.locator_served c x area destination mode)
locator_shows c x area destination mode =
    if_shows (mode == 0) (bad_shows (A.area_named c area) (λ a. unless_shows _ (quiet refl)))
    (if_shows (mode == 1) (bad_shows (A.name_in c x)
    (λ n. bad_shows (A.area_if c area) (λ within. offset_answered_shows c x _))) no_call)

refer_answered_shows : (c : Call) (s : C.Shape) (name buffer : ℕ) (o : Option ℤ) →
    Continues c.services (R.refer_answered c s name buffer o)
refer_answered_shows c s name buffer None = quiet refl
refer_answered_shows c s name buffer (Some z) = bad_shows _ (λ m. quiet refl)

refer_shows : (c : Call) (name signature buffer : ℕ) → Continues c.services (R.refer_served c name signature buffer)
refer_shows c name signature buffer = found_shows (A.asked_at c name signature) no_call
    (λ f. bad_shows (A.shape_of_number c f.signature) (λ s. refer_answered_shows c s name buffer _))

-- ---- 8 with 1: elements of aggregates

element_answered_shows : (c : Call) (x : ℕ) (a : P.Aggregate) (e : Element) (m : List ℕ) (f : Finding) →
    Continues c.services (L.element_answered c x a e m f)
element_answered_shows c x a e m (N.FoundAt f) = if_shows _ (quiet refl) (quiet refl)
element_answered_shows c x a e m N.NotLiving = quiet refl
element_answered_shows c x a e m N.NoArea = no_call

element_if_shows : (c : Call) (x : ℕ) (a : P.Aggregate) (buffer : ℕ) (o : Option Element) →
    Continues c.services (L.element_if c x a buffer o)
element_if_shows c x a buffer None = quiet refl
element_if_shows c x a buffer (Some e) = unless_shows _ (element_answered_shows c x a e _ _)

element_shows : (c : Call) (aggregate shape number buffer : ℕ) →
    Continues c.services (L.element_served c aggregate shape number buffer)
element_shows c aggregate shape number buffer =
    bad_shows (P.aggregate_at c aggregate)
    (λ a. bad_shows (O.then_found (L.item_shape_at c shape) (L.elements_by c a))
    (λ elements. element_if_shows c aggregate a buffer (slice_get elements number)))

-- ---- 10 to 13: areas and the heap

with_heap_world : (t : Bool) (v : Services) → (cond t (record v { heap_made = true }) v).world ≡ v.world
with_heap_world true v = refl
with_heap_world false v = refl

allocation_shows : (c : Call) (area destination serial : ℕ) (o : Option Areas.PlacedData) →
    Continues c.services (Areas.allocation_answered c area destination serial o)
allocation_shows c area destination serial None = quiet refl
allocation_shows c area destination serial (Some p) = quiet (with_heap_world (Areas.is_heap serial) c.services)

allocate_shows : (c : Call) (area signature extent initial destination : ℕ) →
    Continues c.services (Areas.allocate_served c area signature extent initial destination)
allocate_shows c area signature extent initial destination =
    bad_shows (A.area_or_heap c area)
    (λ a. bad_shows (Areas.begun c signature extent initial)
    (λ g. unless_shows _ (allocation_shows c area destination a.serial _)))

name_freed_shows : (c : Call) (name : ℕ) (n : B.Name) (signature : ℕ) (o : Option ℕ) →
    Continues c.services (Areas.name_freed c name n signature o)
name_freed_shows c name B.NullName signature o = quiet refl
name_freed_shows c name (B.VariableName serial) signature o = quiet refl
name_freed_shows c name (B.BasedName area offset) signature o =
    if_shows (Areas.is_given area o)
    (bad_shows (N.area_at c area)
    (λ a. bad_shows (c.keeper.freed offset signature a.bytes) (λ bytes. quiet refl))) (quiet refl)

free_shows : (c : Call) (name signature area : ℕ) → Continues c.services (Areas.free_served c name signature area)
free_shows c name signature area =
    bad_shows (A.name_in c name)
    (λ n. bad_shows (A.area_if c area)
    (λ within. found_shows (A.asked c n signature) (quiet refl)
    (λ f. name_freed_shows c name n f.signature within)))

assignment_shows : (c : Call) (target at : ℕ) (o : Option (List ℕ)) →
    Continues c.services (Areas.assignment_answered c target at o)
assignment_shows c target at None = quiet refl
assignment_shows c target at (Some bytes) = quiet refl

area_assignment_shows : (c : Call) (target source : ℕ) →
    Continues c.services (Areas.area_assignment_served c target source)
area_assignment_shows c target source =
    bad_shows (A.area_named c target)
    (λ into. bad_shows (A.area_named c source)
    (λ from. unless_shows _ (if_shows (into.serial == from.serial) (quiet refl)
    (assignment_shows c target into.area.at (c.keeper.copied from.area.bytes into.area.bytes)))))

empty_shows : (c : Call) (area y : ℕ) → Continues c.services (Areas.empty_served c area y)
empty_shows c area y = bad_shows (A.area_named c area) (λ a. unless_shows (A.is_area c a) (quiet refl))

-- ---- 16 to 19: CONTROLLED variables

controlled_pushed : (c : Call) (variable signature : ℕ) (o : Option Areas.PlacedData) →
    Continues c.services (Controlled.push_answered c variable signature o)
controlled_pushed c variable signature None = quiet refl
controlled_pushed c variable signature (Some p) = quiet refl

controlled_push : (c : Call) (variable signature initial : ℕ) →
    Continues c.services (Controlled.push_served c variable signature initial)
controlled_push c variable signature initial = bad_shows (Areas.begun c signature 0 initial)
    (λ g. unless_shows _ (controlled_pushed c variable signature (Areas.placed_in c (N.heap_bytes c) signature g)))

popped_shows : (c : Call) (variable y : ℕ) (heap : N.AreaBytes) (ks : List S.Controlled) →
    Continues c.services (Controlled.popped c variable y heap ks)
popped_shows c variable y heap [] = quiet refl
popped_shows c variable y heap (k ∷ ks) = unless_shows _ (bad_shows _ (λ bytes. quiet refl))

controlled_pop : (c : Call) (variable y : ℕ) → Continues c.services (Controlled.pop_served c variable y)
controlled_pop c variable y = unless_shows _ (popped_shows c variable y _ _)

newest_answered_shows : (c : Call) (destination : ℕ) (ks : List S.Controlled) →
    Continues c.services (Controlled.newest_answered c destination ks)
newest_answered_shows c destination [] = quiet refl
newest_answered_shows c destination (k ∷ ks) = quiet refl

controlled_newest : (c : Call) (variable destination : ℕ) →
    Continues c.services (Controlled.newest_served c variable destination)
controlled_newest c variable destination = unless_shows _ (newest_answered_shows c destination _)

controlled_count : (c : Call) (variable y : ℕ) → Continues c.services (Controlled.count_served c variable y)
controlled_count c variable y = unless_shows _ (quiet refl)

-- ---- 20 to 27: texts

push_shows : (c : Call) (at most mode : ℕ) → Continues c.services (T.push_served c at most mode)
push_shows c at most mode = bad_shows (T.text_kind mode most) (λ kind. unless_shows _ (quiet refl))

push_number_shows : (c : Call) (number precision : ℕ) → Continues c.services (T.push_number_served c number precision)
push_number_shows c number precision = quiet refl

join_shows : (c : Call) (x : ℕ) → Continues c.services (T.join_served c x)
join_shows c x = texts_show c.services.entries (λ left right below. status_shows c x _ _ (λ whole. quiet refl))

cut_shows : (c : Call) (i j mode : ℕ) → Continues c.services (T.cut_served c i j mode)
cut_shows c i j mode =
    if_shows (nat_lt mode 2) (text_shows c.services.entries
    (λ t below. status_shows c i _ (T.part_of t i j mode) (λ part. quiet refl)))
    (bad_shows (T.text_kind (Prim.Native.Nat.◌-◌ mode 2) i)
    (λ kind. text_shows c.services.entries (λ t below. quiet refl)))

compare_shows : (c : Call) (y : ℕ) → Continues c.services (T.compare_served c y)
compare_shows c y = texts_show _ (λ left right below. quiet refl)

find_shows : (c : Call) (mode y : ℕ) → Continues c.services (T.find_served c mode y)
find_shows c mode y = unless_shows _ (texts_show _ (λ left right below. quiet refl))

to_number_shows : (c : Call) (mode : ℕ) → Continues c.services (T.to_number_served c mode)
to_number_shows c mode = unless_shows (nat_lt mode 2)
    (text_shows c.services.entries (λ t below. status_shows c mode _ (T.word_in_text mode t) (λ w. quiet refl)))

kept_or_dropped : (t : Bool) (v : Services) (below : List S.Entry) → (cond t v (O.with_entries below v)).world ≡ v.world
kept_or_dropped true v below = refl
kept_or_dropped false v below = refl

store_shows : (c : Call) (at most mode : ℕ) → Continues c.services (T.store_served c at most mode)
store_shows c at most mode =
    if_shows _ (text_shows c.services.entries
    (λ t below. quiet (kept_or_dropped (mode == 2) c.services below)))
    (bad_shows (T.text_kind mode most)
    (λ kind. text_shows c.services.entries (λ t below. unless_shows _ (quiet refl))))

-- ---- 28 to 30: conditions

units_shows : (c : Call) (change : Condition → List S.Activation → Option (List S.Activation)) (x y : ℕ) →
    Continues c.services (U.units_changed c change x y)
units_shows c change x y = bad_shows (U.condition_of x)
    (λ condition. bad_shows (change condition c.services.activations) (λ activations. quiet refl))

raise_answered_shows : (c : Call) (v : Services) (code resume : ℕ) (o : Option (S.Activation × S.OnUnit)) →
    Extends c.services.world v.world → Continues c.services (U.raise_answered c v code resume o)
raise_answered_shows c v code resume None e = acts e
raise_answered_shows c v code resume (Some (a, S.SystemUnit)) e = acts e
raise_answered_shows c v code resume (Some (a, S.CodeUnit at)) e = acts e

raise_shows : (c : Call) (condition code resume : ℕ) → Continues c.services (U.raise_served c condition code resume)
raise_shows c condition code resume =
    bad_shows (U.condition_of condition)
    (λ k. unless_shows (W.is_code code)
    (acting_shows (raise_answered_shows c _ code resume (U.force c.services.activations k)
    (raising_on k code c.services.world))))

-- ---- 34 to 39: edit-directed streams

edit_begin_shows : (c : Call) (at mode : ℕ) → Continues c.services (E.edit_begin_served c at mode)
edit_begin_shows c at mode = bad_shows (E.direction_of mode) (λ direction. bad_shows _ (λ formats. quiet refl))

next_answered_shows : (c : Call) (v v' : Services) (y : ℕ) → Extends v.world v'.world →
    Continues v (E.next_answered c v' y)
next_answered_shows c v v' y e = next_shows _ (λ n below. acts e)

control_extends : (direction : S.Direction) (item : F.ControlItem) (v : Services) →
    Extends v.world (E.control_done direction item v).world
control_extends S.Getting item v = counted_on v.world
control_extends S.Putting item v = written_on (F.control_written item) v.world (control_longer item v.world.output)

carried_out_shows : (c : Call) (y : ℕ) (item : F.FormatItem) (behind : S.EditPlace) (below : List S.EditPlace) →
    Continues c.services (E.control_carried_out c y item behind below)
carried_out_shows c y (F.DataFormat item) behind below =
    next_answered_shows c c.services c.services y (extends_refl c.services.world)
carried_out_shows c y (F.ControlFormat item) behind below =
    acting_shows (next_answered_shows c c.services
    (E.with_edits (behind ∷ below) (E.control_done behind.direction item c.services)) y
    (control_extends behind.direction item c.services))

control_shows : (c : Call) (y : ℕ) → Continues c.services (E.control_served c y)
control_shows c y = next_shows _ (λ n below. carried_out_shows c y n.item n.behind below)

asked_shows : (c : Call) (number : ℕ) (field : Option (List ℕ)) → Continues c.services (E.field_asked c number field)
asked_shows c number None = quiet refl
asked_shows c number (Some field) = quiet refl

number_put_shows : (c : Call) (number mode : ℕ) (field : Option (List ℕ)) (places : List S.EditPlace) →
    Continues c.services (E.number_put c number mode field places)
number_put_shows c number mode field places =
    if_shows (mode == 0) (asked_shows c number field)
    (unless_shows (mode == 1) (bad_shows field
    (λ f. acting_shows (acts (field_on f c.services.world)))))

answered_shows : (c : Call) (v : Services) (x : ℕ) (o : Option ℤ) → Extends c.services.world v.world →
    Continues c.services (E.number_answered c v x o)
answered_shows c v x None e = acts e
answered_shows c v x (Some z) e = acts e

number_got_shows : (c : Call) (width x : ℕ) (places : List S.EditPlace) →
    Continues c.services (E.number_got c width x places)
number_got_shows c width x places = unless_shows _ (acting_shows (answered_shows c _ x _ (counted_on c.services.world)))

fixed_by_shows : (c : Call) (x y : ℕ) (direction : S.Direction) (item : F.FormatItem) (places : List S.EditPlace) →
    Continues c.services (E.fixed_by c x y direction item places)
fixed_by_shows c x y S.Putting (F.DataFormat (F.FixedItem width)) places = number_put_shows c x y _ places
fixed_by_shows c x y S.Putting (F.DataFormat (F.TextItem width)) places = no_call
fixed_by_shows c x y S.Putting (F.ControlFormat item) places = no_call
fixed_by_shows c x y S.Getting (F.DataFormat (F.FixedItem width)) places = number_got_shows c width x places
fixed_by_shows c x y S.Getting (F.DataFormat (F.TextItem width)) places = no_call
fixed_by_shows c x y S.Getting (F.ControlFormat item) places = no_call

fixed_shows : (c : Call) (x y : ℕ) → Continues c.services (E.fixed_served c x y)
fixed_shows c x y = next_shows _ (λ n below. fixed_by_shows c x y n.behind.direction n.item (n.behind ∷ below))

text_got_shows : (c : Call) (x y : ℕ) (width : Option ℕ) (places : List S.EditPlace) →
    Continues c.services (E.text_got c x y width places)
text_got_shows c x y None places = no_call
text_got_shows c x y (Some width) places =
    unless_shows _ (acting_shows (acts (counted_on c.services.world)))

text_by_shows : (c : Call) (x y : ℕ) (direction : S.Direction) (item : F.FormatItem) (places : List S.EditPlace) →
    Continues c.services (E.text_by c x y direction item places)
text_by_shows c x y S.Putting (F.DataFormat (F.FixedItem width)) places = no_call
text_by_shows c x y S.Putting (F.DataFormat (F.TextItem width)) places = text_shows _
    (λ t below. acting_shows (acts (field_on (E.text_field width t) c.services.world)))
text_by_shows c x y S.Putting (F.ControlFormat item) places = no_call
text_by_shows c x y S.Getting (F.DataFormat (F.FixedItem width)) places = no_call
text_by_shows c x y S.Getting (F.DataFormat (F.TextItem width)) places = text_got_shows c x y width places
text_by_shows c x y S.Getting (F.ControlFormat item) places = no_call

text_served_shows : (c : Call) (x y : ℕ) → Continues c.services (E.text_served c x y)
text_served_shows c x y = next_shows _ (λ n below. text_by_shows c x y n.behind.direction n.item (n.behind ∷ below))

edit_end_shows : (c : Call) (x y : ℕ) (places : List S.EditPlace) → Continues c.services (E.edit_ended c x y places)
edit_end_shows c x y [] = no_call
edit_end_shows c x y (place ∷ below) = quiet refl

skip_shows : (c : Call) (lines mode : ℕ) → Continues c.services (E.skip_served c lines mode)
skip_shows c lines mode = bad_shows (E.direction_of mode)
    (λ direction. unless_shows _
    (acting_shows (acts (control_extends direction (F.SkipItem lines) c.services))))

-- ---- 40, 41: aggregates

put_shows : (c : Call) (x : ℕ) (p : P.PartFound) (es : List S.Entry) → Continues c.services (Q.part_put c x p es)
put_shows c x p [] = no_call
put_shows c x p (S.TextEntry t ∷ below) = no_call
put_shows c x p (S.AggregateEntry taken ∷ below) = if_shows _ (unless_shows _ (quiet refl)) (quiet refl)

aggregate_shows : (c : Call) (aggregate first count given' mode : ℕ) →
    Continues c.services (Q.aggregate_served c aggregate first count given' mode)
aggregate_shows c aggregate first count given' mode =
    bad_shows (P.aggregate_at c aggregate)
    (λ a. bad_shows (P.part_of_leaves c a first count given')
    (λ p. if_shows (mode == 0) (unless_shows _ (quiet refl))
    (unless_shows (mode == 1) (put_shows c aggregate p c.services.entries))))

scalar_set_shows : (c : Call) (x y value : ℕ) (p : P.PartFound) (kind : LeafKind) →
    Continues c.services (Q.scalar_set c x y value p kind)
scalar_set_shows c x y value p (G.Fixed precision) = quiet refl
scalar_set_shows c x y value p (G.Character n) = text_shows _ (λ t below. quiet refl)
scalar_set_shows c x y value p (G.Varying n) = text_shows _ (λ t below. quiet refl)
scalar_set_shows c x y value p G.Bit = quiet refl
scalar_set_shows c x y value p G.Pointer = bad_shows _ (λ n. quiet refl)
scalar_set_shows c x y value p G.Offset = quiet refl
scalar_set_shows c x y value p (G.Area n) = no_call

scalar_shows : (c : Call) (aggregate leaf value : ℕ) → Continues c.services (Q.scalar_served c aggregate leaf value)
scalar_shows c aggregate leaf value = bad_shows (P.aggregate_at c aggregate)
    (λ a. bad_shows (P.part_of_leaves c a leaf 1 0) (λ p. scalar_set_shows c aggregate leaf value p _))

-- ---- all of them

aggregates : (n : ℕ) (c : Call) (x : ℕ → ℕ) → Continues c.services (V.aggregates_served n c x)
aggregates n c x =
    if_shows (n == 40) (aggregate_shows c (x 10) (x 11) (x 12) (x 13) (x 14))
    (if_shows (n == 41) (scalar_shows c (x 10) (x 11) (x 12)) no_call)

edits : (n : ℕ) (c : Call) (x : ℕ → ℕ) → Continues c.services (V.edits_served n c x)
edits n c x =
    if_shows (n == 34) (edit_begin_shows c (x 10) (x 11))
    (if_shows (n == 35) (control_shows c (x 11))
    (if_shows (n == 36) (fixed_shows c (x 10) (x 11))
    (if_shows (n == 37) (text_served_shows c (x 10) (x 11))
    (if_shows (n == 38) (edit_end_shows c (x 10) (x 11) c.services.edits)
    (if_shows (n == 39) (skip_shows c (x 10) (x 11)) (aggregates n c x))))))

conditions : (n : ℕ) (c : Call) (x : ℕ → ℕ) → Continues c.services (V.conditions_served n c x)
conditions n c x =
    if_shows (n == 28) (units_shows c (λ k. U.established k (U.unit_of (x 11))) (x 10) (x 11))
    (if_shows (n == 29) (units_shows c U.reverted (x 10) (x 11))
    (if_shows (n == 30) (raise_shows c (x 10) (x 11) (x 12))
    (if_shows (n == 31) (return_by c c.services.activations)
    (if_shows (n == 32) (retry_shows c (x 10) (x 11))
    (if_shows (n == 33) (oncode_shows c (x 11)) (edits n c x))))))

texts : (n : ℕ) (c : Call) (x : ℕ → ℕ) → Continues c.services (V.texts_served n c x)
texts n c x =
    if_shows (n == 20) (push_shows c (x 10) (x 11) (x 12))
    (if_shows (n == 21) (push_number_shows c (x 10) (x 11))
    (if_shows (n == 22) (join_shows c (x 10))
    (if_shows (n == 23) (cut_shows c (x 10) (x 11) (x 12))
    (if_shows (n == 24) (compare_shows c (x 11))
    (if_shows (n == 25) (find_shows c (x 10) (x 11))
    (if_shows (n == 26) (to_number_shows c (x 10))
    (if_shows (n == 27) (store_shows c (x 10) (x 11) (x 12)) (conditions n c x))))))))

controlled : (n : ℕ) (c : Call) (x : ℕ → ℕ) → Continues c.services (V.controlled_served n c x)
controlled n c x =
    if_shows (n == 16) (controlled_push c (x 10) (x 11) (x 12))
    (if_shows (n == 17) (controlled_pop c (x 10) (x 11))
    (if_shows (n == 18) (controlled_newest c (x 10) (x 11))
    (if_shows (n == 19) (controlled_count c (x 10) (x 11)) (texts n c x))))

areas : (n : ℕ) (c : Call) (x : ℕ → ℕ) → Continues c.services (V.areas_served n c x)
areas n c x =
    if_shows (n == 10) (allocate_shows c (x 10) (x 11) (x 12) (x 13) (x 14))
    (if_shows (n == 11) (free_shows c (x 10) (x 11) (x 12))
    (if_shows (n == 12) (area_assignment_shows c (x 10) (x 11))
    (if_shows (n == 13) (empty_shows c (x 10) (x 11))
    (if_shows (n == 14) (locator_shows c (x 10) (x 11) (x 12) (x 13))
    (if_shows (n == 15) (refer_shows c (x 10) (x 11) (x 12)) (controlled n c x))))))

found : (c : Call) (x : ℕ → ℕ) (mode : ℕ) → Continues c.services (V.found_served c x mode)
found c x mode =
    if_shows (mode == 0) (resolve_shows c (x 10) (x 11) (x 12) (x 13))
    (if_shows (mode == 1) (element_shows c (x 10) (x 11) (of_two_words (x 12) (x 15)) (x 13)) no_call)

blocks : (n : ℕ) (c : Call) (x : ℕ → ℕ) → Continues c.services (V.blocks_served n c x)
blocks n c x =
    if_shows (n == 4) (enter_shows c (x 10) (x 11) (x 12) (x 13))
    (if_shows (n == 5) (leave_shows c (x 10) (x 11))
    (if_shows (n == 6) (unwound_shows c (x 10) (x 11) (K.from_frame (x 10) c.services.activations))
    (if_shows (n == 7) (make_shows c (x 10) (x 11) (x 12) (x 13) (x 14))
    (if_shows (n == 8) (found c x (x 14))
    (if_shows (n == 9) (address_shows c (x 10) (x 11) (x 12)) (areas n c x))))))

pub serves_continues : (c : Call) (x : ℕ → ℕ) → Continues c.services (V.serves c x)
serves_continues c x =
    if_shows (x 17 == 1) (act_shows c (x 10) (x 11))
    (if_shows (x 17 == 2) (end_shows c (x 10) (x 11))
    (if_shows (x 17 == 3) (signature_shows c (x 10) (x 11) (x 12) (x 13)) (blocks (x 17) c x)))
