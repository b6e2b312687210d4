-- GET EDIT: items one behind the other, pairs, the SKIP option, and the statement.
use Rattle.std.proofs.Common.{◌≡◌, ℕ, suc, ◌+◌, ◌^◌, ◌<◌, ◌≤◌, inl, List, [], ◌∷◌, ◌++◌, length, Option, Some, None, Bool, true, false, refl, sym, ap, ◌∙◌, subst, arith, lit<, add-one}
use Rattle.std.specs.Prelude.{pos}
use Rattle.std.proofs.Math.Nat.{le-max_left, le-max_right}
use Rattle.rv_meaning.specs.declared.instr.Instr.{Instr}
use Rattle.rv_meaning.specs.declared.instr.Instr.TheVariants as I
use Rattle.rv_meaning.specs.Memory.{bytes_of_words}
use Rattle.pli_language.specs.Tree as T
use Rattle.pli_language.specs.declared.condition.Condition.TheVariants as Conditions
use Rattle.pli_typing.specs.TypedTree as Y
use Rattle.pli_meaning.specs.Codes.{endfile_code}
use Rattle.pli_meaning.specs.World.{counted}
use Rattle.pli_meaning.specs.StorageState.{State, with_world}
use Rattle.pli_meaning.specs.Control.{Meaning, act, give, given, choose, ◌>>=◌, ◌>>◌}
use Rattle.pli_meaning.specs.Raising.{Around, at_line}
use Rattle.pli_meaning.specs.Streaming as P
use Rattle.pli_meaning.specs.Streaming.{FormatItem, SkipItem, control_read, format_items}
use Rattle.pli_meaning.specs.Executing as M
use Rattle.pli_serving.specs.ServiceState.{Services, Getting, EditPlace}
use Rattle.pli_serving.specs.Answers.{Done, acting}
use Rattle.pli_serving.specs.Outcomes.{bad_unless}
use Rattle.pli_serving.specs.Edits as E
use Rattle.pli_coding.specs.Registers.{a0, a1, a7}
use Rattle.pli_coding.specs.Assembly.{ConstantBytes, Plain, size_of}
use Rattle.pli_coding.specs.Instructions.{small, number}
use Rattle.pli_coding.specs.Allocating.{act_code}
use Rattle.pli_coding.specs.Environments.{Environment}
use Rattle.pli_coding.specs.StaticForms.{formats_length, formats_words}
use Rattle.pli_coding.specs.Streams as C
use Rattle.pli_coding.specs.Streams.{has_fixed, has_text, edit_begun, edit_ended, skip_option, get_pair, get_pairs}
use Rattle.pli_coding.specs.Statements.{stmt_code}
use Rattle.pli_coding.specs.Linking.{Links}
use Rattle.temporary_bounds.specs.WordBounds.{get_item_words, get_items_words, get_words}
use Rattle.temporary_bounds.specs.Spare.{spare}
use Rattle.pli_headline.specs.ProvedSoFar.{Names, Types, AreProvedFormats, HasData, HaveWidths, AreProvedGetItems, AreProvedGetPairs}
use Rattle.pli_headline.proofs.Since.{since_closed, comes_since}
use Rattle.pli_headline.proofs.UnitRuns.{Raises}
use Rattle.pli_headline.proofs.GetEnds.{AtExit}
use Rattle.pli_headline.proofs.HeldPlaces.{places_grown, places_same, PlacesHeld}
use Rattle.pli_headline.proofs.Storages.{storage}
use Rattle.run_steps.specs.Engine.{Base, address, call_at}
use Rattle.run_steps.proofs.Linking.{size_append}
use Rattle.run_steps.specs.Items.{Linked, At}
use Rattle.run_steps.proofs.Items.{straight}
use Rattle.run_steps.specs.Bodies.{Ground, Known}
use Rattle.run_steps.proofs.Bodies.{zero_is, constant_piece}
use Rattle.run_steps.proofs.Jumps.{front_of, back_of, ahead_piece}
use Rattle.run_steps.specs.Temporaries.{nothing, Stays}
use Rattle.run_steps.proofs.Temporaries.{stays_same, stays_then}
use Rattle.run_steps.specs.Calls.{Calling}
use Rattle.run_steps.proofs.Calls.{called, call_acts, call_pauses, acts}
use Rattle.pli_headline.proofs.Serving.{Serving}
use Rattle.pli_headline.proofs.Raising.{small_is}
use Rattle.pli_headline.proofs.Acts.{word_is, act_piece}
use Rattle.pli_headline.proofs.Ifs.{free_far}
use Rattle.pli_headline.proofs.Statements.{Standing, Block, AllHold, counted_all, Behind, Does, Enough, further}
use Rattle.pli_headline.proofs.StandingFormats.{formats_found}
use Rattle.pli_headline.proofs.EditItems.{at_places}
use Rattle.pli_headline.proofs.EditPieces.{end_piece, at_other_places}
use Rattle.pli_headline.proofs.Skips.{times_met, few_fit}
use Rattle.pli_headline.proofs.GetItems.{getting, read_state, read_serving, comes_read}
use Rattle.pli_headline.proofs.GetWidths.{Suits, formats_suited}
use Rattle.pli_headline.proofs.GetPieces.{begin_piece}
use Rattle.pli_headline.proofs.GetTargets.{item_piece, read_all}
use Rattle.run_steps.specs.Reach.{Family, Aims, Comes, Closed, cost, reached}
use Rattle.run_steps.proofs.Reach.{before_closed, comes_on, onward, reached_holds}
use Rattle.pli_headline.proofs.Scalars.{Values}

-- ---- items one behind the other

-- behind items, for which the input lasted
abbrev pub ItemsBehind : {e : Environment} {block : Names} {types : Types} → Block e block types → (k line : ℕ) → (h t : ℕ → ℕ) → (i : ℕ) → (whole : List FormatItem) → (below : List EditPlace) → Aims Bool → Type 0
ItemsBehind {e = e} {block = block} {types = types} bl k line h0 t0 i whole below aims =
    (s : State) (v : Services) (rest : List FormatItem) (n : Values) (h t : ℕ → ℕ) (f : Family) → Serving k s v line → AllHold bl.frames bl.serials (storage v) (e.level ∷ bl.depths) s block types n → v.edits ≡ getting whole rest ∷ below → Stays bl.taken h0 t0 h t → ((b : Base) → At b i (Known (bl.ground n) v h t nothing b) (f b)) → aims.done i f v true s

items_piece : {e : Environment} {block : Names} {types : Types} (bl : Block e block types) {links : Links}
    {code : List Instr} (items : List Y.GetItem) {i : ℕ} {v : Services} {h t : ℕ → ℕ} {s : State} {aims : Aims Bool}
    (closed : Closed code aims) (routines : Standing bl links code) (f : Family) (around : Around)
    (same : around.program ≡ e.program) (fs : T.Formats) (n : Values) (rest : List FormatItem) (below : List EditPlace)
    (behind k : ℕ) (can : Raises bl links code around Conditions.Endfile endfile_code) (exit start acts : ℕ)
    → i + size_of (C.items_got e bl.taken fs behind items) + behind ≡ exit → exit + 2 ≤ length code
    → Enough bl links k around.turns start h t acts aims.jumped aims.returned → acts < v.world.acts
    → AreProvedGetItems block types (has_fixed fs) items
    → bl.taken.words + get_items_words items ≤ bl.words + spare bl.taken → AreProvedFormats fs → HasData fs
    → HaveWidths fs → Suits (has_fixed fs) (has_text fs) rest → v.edits ≡ getting (format_items fs) rest ∷ below
    → Linked links code i (C.items_got e bl.taken fs behind items) → Serving k s v around.line
    → AllHold bl.frames bl.serials (storage v) (e.level ∷ bl.depths) s block types n
    → ((b : Base) → At b i (Known (bl.ground n) v h t nothing b) (f b))
    → ItemsBehind bl k around.line h t (i + size_of (C.items_got e bl.taken fs behind items))
    (format_items fs) below aims → AtExit bl k (length below) h t exit false aims
    → Comes code i f v aims (P.items_got around (format_items fs) rest items k s)
unfolding P.items_got ◌>>=◌ give given
items_piece bl [] {i = i} {v = v} {h = h} {t = t} {s = s} {aims = aims} closed routines f around same fs n rest below behind k can exit start acts place_is inside more later is room are has wide suits edits l serving all at goal ended =
    let e : i ≡ i + 0 = omega arith in
    record {
      to = λ early. subst (λ u. aims.done u f v true s) (sym e) (goal s v rest n h t f serving all edits
          (stays_same bl.taken h t) (λ b. record { pc = (at b).pc ∙ ap (address b) e; holds = (at b).holds }));
    }
items_piece {e} {block} {types} bl {links} {code} (item ∷ items) {i} {v} {h} {t} {s} {aims} closed routines f around same fs n rest below behind k can exit start acts place_is inside more later is room are has wide suits edits l serving all at goal ended =
    let c = C.items_got e bl.taken fs behind items in
    let a = C.item_got e bl.taken fs item (size_of c + behind) in
    let next' : Option (List FormatItem) → Meaning Bool = λ o. given o (λ left. P.items_got around (format_items fs) left items) (give false) in
    let m1 = le-max_left (get_item_words item) (get_items_words items) in
    let m2 = le-max_right (get_item_words item) (get_items_words items) in
    let size = size_append a c in
    let place : i + size_of a + size_of c ≡ i + size_of (a ++ c) = omega (arith, size) in
    comes_on k (P.item_got around (format_items fs) rest item k s) next'
    (comes_since (P.item_got around (format_items fs) rest item k s)
    (item_piece bl item (since_closed v.world.acts (before_closed k next' closed)) routines f around same fs n rest below (size_of c + behind) k can exit start acts (omega (arith, size, place_is)) inside more later is.0 (omega (arith, m1, room)) are has wide suits edits (front_of a c l) serving all at
    (λ s2 v2 rest2 n2 h2 t2 f2 serving2 all2 suits2 edits2 stays2 at2 grown.
    items_piece bl items closed routines f2 around same fs n2 rest2 below behind k can exit start acts (omega (arith, size, place_is)) inside (further more (omega arith) (omega arith) stays2) (omega (arith, later, grown)) is.1 (omega (arith, m2, room)) are has wide suits2 edits2 (back_of a c l) serving2 all2 at2
    (λ s3 v3 rest3 n3 h3 t3 f3 serving3 all3 edits3 stays3 at3.
    subst (λ u. aims.done u f3 v3 true s3) (sym place)
    (goal s3 v3 rest3 n3 h3 t3 f3 serving3 all3 edits3 (stays_then stays2 stays3) (λ b. record { pc = (at3 b).pc ∙ ap (address b) place; holds = (at3 b).holds })))
    (λ s3 v3 line3 n3 h3 t3 f3 serving3 all3 length3 stays3 at3. ended s3 v3 line3 n3 h3 t3 f3 serving3 all3 length3 (stays_then stays2 stays3) at3))
    (λ s2 v2 line2 n2 h2 t2 f2 serving2 all2 length2 stays2 at2 grown. record
    { to = λ early. ended s2 v2 line2 n2 h2 t2 f2 serving2 all2 length2 stays2 at2 })))

-- ---- pairs

by_places : {A : Type 0} (es : List EditPlace) (count : ℕ) → length es ≡ suc count → ((p : EditPlace) (ds : List EditPlace) → es ≡ p ∷ ds → length ds ≡ count → A) → A
by_places [] count long found = absurd (omega (arith, long))
by_places (p ∷ ds) count long found = found p ds refl (omega (arith, long))

-- at the exit the newest place is dropped
exit_piece : {e : Environment} {block : Names} {types : Types} (bl : Block e block types) {links : Links} {code : List Instr} {exit : ℕ} {v : Services} {h0 t0 h t : ℕ → ℕ} {s : State} {line : ℕ} {aims : Aims (Unit {0})} (closed : Closed code aims) (f : Family) (n : Values) (k count place : ℕ) → exit + 2 ≡ place → length v.edits ≡ suc count → PlacesHeld count v.activations → Linked links code exit edit_ended → Serving k s v line → AllHold bl.frames bl.serials (storage v) (e.level ∷ bl.depths) s block types n → Stays bl.taken h0 t0 h t → ((b : Base) → At b exit (Known (bl.ground n) v h t nothing b) (f b)) → Behind bl k h0 t0 place aims → Comes code exit f v aims (give tt k s)
unfolding give
exit_piece bl {v = v} {h = h} {t = t} {s = s} {line = line} {aims = aims} closed f n k count place there long held l serving all stays at goal =
    by_places v.edits count long (λ p ds are rest.
    end_piece closed f p ds are l at
    (λ f1 at1.
    record {
      to = λ early.
          subst (λ u. aims.done u f1 (at_places ds v) tt s) (sym there)
          (goal s (at_places ds v) line n h t f1 (at_other_places ds (subst (λ m. PlacesHeld m v.activations) (sym rest) held) serving) all stays (λ b. record { pc = (at1 b).pc ∙ ap (address b) there; holds = (at1 b).holds }));
    }))

-- pairs, and the way past the exit
pairs_piece : {e : Environment} {block : Names} {types : Types} (bl : Block e block types) {links : Links}
    {code : List Instr} (pairs : List Y.GetPair) {i : ℕ} {v : Services} {h t : ℕ → ℕ} {s : State}
    {aims : Aims (Unit {0})} (closed : Closed code aims) (routines : Standing bl links code) (f : Family)
    (around : Around) (same : around.program ≡ e.program) (n : Values) (k : ℕ)
    (can : Raises bl links code around Conditions.Endfile endfile_code) (exit start acts : ℕ)
    → i + size_of (get_pairs e bl.taken pairs) ≡ exit → Linked links code exit edit_ended
    → Enough bl links k around.turns start h t acts aims.jumped aims.returned → acts < v.world.acts
    → AreProvedGetPairs block types pairs → bl.taken.words + get_words pairs ≤ bl.words + spare bl.taken
    → Linked links code i (get_pairs e bl.taken pairs) → i + size_of (get_pairs e bl.taken pairs) + 2 ≤ length code
    → Serving k s v around.line → AllHold bl.frames bl.serials (storage v) (e.level ∷ bl.depths) s block types n
    → ((b : Base) → At b i (Known (bl.ground n) v h t nothing b) (f b))
    → Behind bl k h t (i + size_of (get_pairs e bl.taken pairs) + 2) aims
    → Comes code i f v aims (P.pairs_got around pairs k s)
unfolding P.pairs_got ◌>>=◌ choose give
pairs_piece bl [] {i = i} {v = v} {h = h} {t = t} {s = s} {aims = aims} closed routines f around same n k can exit start acts exit_is le more later is room l inside serving all at goal =
    let e : i + (2 + 2) ≡ i + 2 + 2 = omega arith in
    onward closed (ahead_piece i f 2 (omega (arith, inside)) free_far l at)
    (λ f1 at1.
    record {
      to = λ early. subst (λ u. aims.done u f1 v tt s) (sym e) (goal s v around.line n h t f1 serving all
          (stays_same bl.taken h t) (λ b. record { pc = (at1 b).pc ∙ ap (address b) e; holds = (at1 b).holds }));
    })
pairs_piece {e} {block} {types} bl {links} {code} (p ∷ pairs) {i} {v} {h} {t} {s} {aims} closed routines f around same n k can exit start acts exit_is le more later is room l inside serving all at goal =
    let fs = p.formats in
    let are = is.1.0.0 in
    let has = is.1.0.1.0 in
    let wide = is.1.0.1.1 in
    let whole = format_items fs in
    let c = get_pairs e bl.taken pairs in
    let behind = size_of c in
    let begun = edit_begun fs 0 in
    let items = C.items_got e bl.taken fs (2 + behind) p.items in
    let pair = get_pair e bl.taken p behind in
    let bytes = bytes_of_words (formats_length fs ∷ formats_words fs) in
    let lp = front_of pair c l in
    let placed = lp.named (ConstantBytes bytes) (inl refl) in
    let l2 = back_of begun (items ++ edit_ended) lp in
    let l3 = back_of items edit_ended l2 in
    let e1 = size_append pair c in
    let e2 = size_append begun (items ++ edit_ended) in
    let e3 = size_append items edit_ended in
    let here : i + 5 + size_of items + 2 ≡ i + size_of pair = omega (arith, e2, e3) in
    let place : i + size_of pair + size_of c + 2 ≡ i + size_of (pair ++ c) + 2 = omega (arith, e1) in
    let next' : Bool → Meaning (Unit {0}) = λ lasted. choose lasted (P.pairs_got around pairs) (give tt) in
    let m1 = le-max_left (get_items_words p.items) (get_words pairs) in
    let m2 = le-max_right (get_items_words p.items) (get_words pairs) in
    begin_piece {links = links} {code = code} {i = i} {g = bl.ground n} {v = v} {h = h} {t = t} {aims = aims} closed f fs whole (λ b m o. formats_found fs code v m _ are has ((routines.constants n).stand bytes placed t b m o)) (front_of begun (items ++ edit_ended) lp) at
    (λ f1 at1.
    comes_on k (P.items_got around whole whole p.items k s) next'
    (comes_since (P.items_got around whole whole p.items k s)
    (items_piece bl p.items (since_closed v.world.acts (before_closed k next' closed)) routines f1 around same fs n whole v.edits (2 + behind) k can exit start acts (omega (arith, e1, e2, e3, exit_is)) (let n1 = le.inside in omega (arith, n1)) more later is.0 (omega (arith, m1, room)) are has wide (formats_suited fs wide) refl (front_of items edit_ended l2) (at_other_places _ (places_grown (length v.edits) v.activations serving.places) serving) all at1
    (λ s2 v2 rest2 n2 h2 t2 f2 serving2 all2 edits2 stays2 at2 grown.
    end_piece closed f2 (getting whole rest2) v.edits edits2 l3 at2
    (λ f3 at3.
    let v3 = at_places v.edits v2 in
    subst (λ u. Comes code u f3 v3 aims (P.pairs_got around pairs k s2)) (sym here)
    (pairs_piece bl pairs closed routines f3 around same n2 k can exit start acts (omega (arith, e1, exit_is)) le (further more (omega arith) (omega arith) stays2) (omega (arith, later, grown)) is.1.1 (omega (arith, m2, room)) (back_of pair c l) (omega (arith, place, inside)) (at_other_places v.edits (places_same (length v.edits) (length v2.edits) v.activations v2.activations (all2.kinds ∙ sym all.kinds) serving.places serving2.places) serving2) all2
    (λ b. record { pc = (at3 b).pc ∙ ap (address b) here; holds = (at3 b).holds })
    (λ s4 v4 line4 n4 h4 t4 f4 serving4 all4 stays4 at4.
    subst (λ u. aims.done u f4 v4 tt s4) (sym place)
    (goal s4 v4 line4 n4 h4 t4 f4 serving4 all4 (stays_then stays2 stays4) (λ b. record { pc = (at4 b).pc ∙ ap (address b) place; holds = (at4 b).holds }))))))
    (λ s2 v2 line2 n2 h2 t2 f2 serving2 all2 length2 stays2 at2 grown.
    exit_piece bl closed f2 n2 k (length v.edits) (i + size_of (pair ++ c) + 2) (omega (arith, exit_is)) length2 (places_same (length v.edits) (length v2.edits) v.activations v2.activations (all2.kinds ∙ sym all.kinds) serving.places serving2.places) le serving2 all2 stays2 at2 goal))))

-- ---- SKIP

abbrev skipped : ℕ → Services → Services
skipped n v = E.control_done Getting (SkipItem n) v

skip_answer : (code : List Instr) (v : Services) (m : List ℕ) (n k : ℕ) → 1 ≤ n → n ≤ 1000 → v.world.acts ≤ k → k + 1 < 2 ^ 64 → E.skip_served (call_at code v m) n 0 ≡ Done (skipped n v) m n 0
skip_answer code v m n k h i below fits =
    ap (λ t. bad_unless t (acting v (Done (skipped n v) m n 0))) (times_met n h i) ∙ acts v k (Done (skipped n v) m n 0) below fits

-- the act that goes on to another line
skip_piece : {links : Links} {code : List Instr} {i : ℕ} {g : Ground} {v : Services} {h t : ℕ → ℕ} {s : State} {line : ℕ} {aims : Aims (Unit {0})} (closed : Closed code aims) (f : Family) (n k : ℕ) → 1 ≤ n → n ≤ 1000 → Linked links code i (skip_option 0 (Some n)) → Serving k s v line → ((b : Base) → At b i (Known g v h t nothing b) (f b)) → ((f' : Family) → Serving k (read_state (control_read (SkipItem n)) s) (skipped n v) line → ((b : Base) → At b (i + size_of (skip_option 0 (Some n))) (Known g (skipped n v) h t nothing b) (f' b)) → aims.done (i + size_of (skip_option 0 (Some n))) f' (skipped n v) tt (read_state (control_read (SkipItem n)) s)) → Comes code i f v aims (P.control_got (SkipItem n) k s)
unfolding P.control_got
skip_piece {code = code} {i = i} {g = g} {v = v} {h = h} {t = t} {s = s} closed f n k least most l serving at goal =
    let first = number a0 n in
    let second = small a1 0 ∷ small a7 39 ∷ [] in
    let last = Plain I.Ecall ∷ [] in
    let v' = skipped n v in
    let change = control_read (SkipItem n) in
    let l2 = back_of first (second ++ last) l in
    let r1 = constant_piece i f a0 (pos n) (few_fit n most) (record { reserved_stay = λ y u. refl; known_stay = λ b y u q. q; set = λ y u. refl }) (front_of first (second ++ last) l) at in
    onward closed r1 (λ f1 at1.
    let r2 = straight (i + size_of first) f1 v v (λ b. Known g v h t (λ b'. (10, n) ∷ (11, 0) ∷ (17, 39) ∷ []) b) (front_of second last l2) (omega arith) (λ b. (at1 b).pc)
    (λ b. let o = (at1 b).holds in let z = zero_is o.body in record {
      body = record { services = o.body.services; registers = o.body.registers; bytes = o.body.bytes; memory = o.body.memory };
      regs = (o.regs.0 ∙ word_is n (omega (arith, most)), (small_is _ 0 z (lit< tt), (small_is _ 39 z (lit< tt), tt)));
    }) in
    onward closed r2 (λ f2 at2.
    let l3 = back_of second last l2 in
    let e = size_append first (second ++ last) in
    let calling : Calling _ code (i + size_of first + 2) f2 (λ b. Done v' (f2 b).machine.memory n 0) = record {
      linked = l3;
      pc = λ b. (at2 b).pc;
      answers = λ b.
          let o = (at2 b).holds in
          called code (f2 b) v 39 n 0 _ _ _ (λ call x0 x1 x2 x3 x4. E.skip_served call x0 x1) o.body.services o.regs.1.1.0 o.regs.0 o.regs.1.0 refl refl refl (λ call x. refl)
          ∙ skip_answer code v (f2 b).machine.memory n k least most serving.allowed serving.fits;
    } in
    let few : i + size_of first + 2 < cost code = let u = l3.inside in omega (arith, u) in
    let more : v'.world.acts ≡ suc v.world.acts = add-one v.world.acts in
    let pauses = call_pauses (i + size_of first + 2) f2 v v' (λ b. (f2 b).machine.memory) (λ b. n) (λ b. 0) few serving.running (λ b. (at2 b).holds.body.services) more calling in
    let r3 = call_acts (i + size_of first + 2) (i + size_of (skip_option 0 (Some n))) f2 v v' (λ b. (f2 b).machine.memory) (λ b. n) (λ b. 0) (λ b. Known g v' h t nothing b) few more calling
    (λ b. let o = (at2 b).holds.body in record { body = record { services = refl; registers = o.registers; bytes = o.bytes; memory = o.memory }; regs = tt }) in
    let place : i + size_of first + 2 + 1 ≡ i + size_of (skip_option 0 (Some n)) = omega (arith, e) in
    comes_read change k s serving.world pauses
    (λ below.
    closed.done r3 tt _
    (goal (reached r3) (at_other_places v.edits serving.places (read_serving change v.edits serving.places serving below))
    (λ b. record { pc = (reached_holds r3 b).pc ∙ ap (address b) place; holds = (reached_holds r3 b).holds })))))

-- ---- the statement

pub get_does : {e : Environment} {block : Names} {types : Types} (bl : Block e block types) (links : Links)
    (code : List Instr) (routines : Standing bl links code) (around : Around) (same : around.program ≡ e.program)
    (pairs : List Y.GetPair) (line : ℕ) → Raises bl links code (at_line around line) Conditions.Endfile endfile_code
    → AreProvedGetPairs block types pairs → line < 2 ^ 31
    → bl.taken.words + get_words pairs ≤ bl.words + spare bl.taken
    → Does bl links code around.turns (stmt_code e bl.taken (Y.Get None pairs line))
    (M.statement around (Y.Get None pairs line))
unfolding M.statement P.get ◌>>◌
get_does {e} {block} {types} bl links code routines around same pairs line can is fits room =
    record {
      does = λ {i} {s} {v} {h} {t} {aims} closed old n f k l serving all at goal more.
          let front = act_code line in
          let c = get_pairs e bl.taken pairs in
          let rest = c ++ edit_ended in
          let here = at_line around line in
          let next' : Unit {0} → Meaning (Unit {0}) = λ u. P.pairs_got here pairs in
          let e1 = size_append front rest in
          let e2 = size_append c edit_ended in
          let place : i + size_of front + size_of c + 2 ≡ i + size_of (front ++ rest) = omega (arith, e1, e2) in
          let inside = l.inside in
          comes_on k (act counted k s) next'
          (act_piece (before_closed k next' closed) f line old k fits (front_of front rest l) serving at
          (λ f1 serving1 at1.
          pairs_piece bl pairs closed routines f1 here same n k can (i + size_of front + size_of c) i v.world.acts refl (back_of c edit_ended (back_of front rest l)) (record { enough = more.enough; later = more.later; jumps = more.jumps; outs = more.outs; returns = more.returns; own = more.own; homes = more.homes }) (omega arith) is room (front_of c edit_ended (back_of front rest l)) (omega (arith, place, inside)) serving1 (counted_all _ all) at1
          (λ s2 v2 line2 n2 h2 t2 f2 serving2 all2 stays2 at2.
          subst (λ u. aims.done u f2 v2 tt s2) (sym place)
          (goal s2 v2 line2 n2 h2 t2 f2 serving2 all2 stays2 (λ b. record { pc = (at2 b).pc ∙ ap (address b) place; holds = (at2 b).holds })))));
    }

pub get_skip_does : {e : Environment} {block : Names} {types : Types} (bl : Block e block types) (links : Links)
    (code : List Instr) (routines : Standing bl links code) (around : Around) (same : around.program ≡ e.program)
    (n : ℕ) (pairs : List Y.GetPair) (line : ℕ) → Raises bl links code
    (at_line around line) Conditions.Endfile endfile_code → 1 ≤ n → n ≤ 1000 → AreProvedGetPairs block types pairs
    → line < 2 ^ 31 → bl.taken.words + get_words pairs ≤ bl.words + spare bl.taken
    → Does bl links code around.turns (stmt_code e bl.taken (Y.Get (Some n) pairs line))
    (M.statement around (Y.Get (Some n) pairs line))
unfolding M.statement P.get ◌>>◌
get_skip_does {e} {block} {types} bl links code routines around same n pairs line can least most is fits room =
    record {
      does = λ {i} {s} {v} {h} {t} {aims} closed old numbers f k l serving all at goal more.
          let front = act_code line in
          let skip = skip_option 0 (Some n) in
          let c = get_pairs e bl.taken pairs in
          let rest = c ++ edit_ended in
          let here = at_line around line in
          let got : Unit {0} → Meaning (Unit {0}) = λ u. P.pairs_got here pairs in
          let next' : Unit {0} → Meaning (Unit {0}) = λ u. (P.control_got (SkipItem n)) >> (P.pairs_got here pairs) in
          let e1 = size_append front (skip ++ rest) in
          let e2 = size_append skip rest in
          let e3 = size_append c edit_ended in
          let place : i + size_of front + size_of skip + size_of c + 2 ≡ i + size_of (front ++ (skip ++ rest)) = omega (arith, e1, e2, e3) in
          let inside = l.inside in
          let l1 = back_of front (skip ++ rest) l in
          comes_on k (act counted k s) next'
          (act_piece (before_closed k next' closed) f line old k fits (front_of front (skip ++ rest) l) serving at
          (λ f1 serving1 at1.
          let s1 = with_world (counted s.world) s in
          comes_on k (P.control_got (SkipItem n) k s1) got
          (skip_piece (before_closed k got closed) f1 n k least most (front_of skip rest l1) serving1 at1
          (λ f2 serving2 at2.
          pairs_piece bl pairs closed routines f2 here same numbers k can (i + size_of front + size_of skip + size_of c) i v.world.acts refl (back_of c edit_ended (back_of skip rest l1)) (record { enough = more.enough; later = more.later; jumps = more.jumps; outs = more.outs; returns = more.returns; own = more.own; homes = more.homes }) (omega arith) is room (front_of c edit_ended (back_of skip rest l1)) (omega (arith, place, inside)) serving2 (read_all (control_read (SkipItem n)) (counted_all (counted s.world) all)) at2
          (λ s3 v3 line3 n3 h3 t3 f3 serving3 all3 stays3 at3.
          subst (λ u. aims.done u f3 v3 tt s3) (sym place)
          (goal s3 v3 line3 n3 h3 t3 f3 serving3 all3 stays3 (λ b. record { pc = (at3 b).pc ∙ ap (address b) place; holds = (at3 b).holds })))))));
    }
