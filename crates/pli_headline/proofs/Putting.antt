-- PUT EDIT: items one behind the other, pairs, and the statement.
use Rattle.std.proofs.Common.{length, ◌≡◌, ℕ, ◌+◌, ◌^◌, ◌<◌, ◌≤◌, inl, List, [], ◌∷◌, ◌++◌, None, true, refl, sym}
use Rattle.std.proofs.Common.{ap, ◌∙◌, subst, arith}
use Rattle.std.proofs.Math.Nat.{le-max_left, le-max_right}
use Rattle.rv_meaning.specs.declared.instr.Instr.{Instr}
use Rattle.pli_language.specs.Tree as T
use Rattle.pli_typing.specs.TypedTree as Y
use Rattle.pli_meaning.specs.World.{counted}
use Rattle.pli_meaning.specs.StorageState.{State}
use Rattle.pli_meaning.specs.Control.{Meaning, act, give, ◌>>=◌, ◌>>◌}
use Rattle.pli_meaning.specs.Raising.{Around, at_line}
use Rattle.pli_meaning.specs.Streaming as P
use Rattle.pli_meaning.specs.Streaming.{FormatItem, DataItem, format_items}
use Rattle.pli_meaning.specs.Executing as M
use Rattle.pli_serving.specs.ServiceState.{Services, EditPlace}
use Rattle.pli_coding.specs.Assembly.{ConstantBytes, size_of}
use Rattle.pli_coding.specs.Allocating.{act_code}
use Rattle.pli_coding.specs.Environments.{Environment}
use Rattle.pli_coding.specs.Streams as C
use Rattle.pli_coding.specs.Streams.{has_fixed, has_text, by_item, controls_carried_out, number_written}
use Rattle.pli_coding.specs.Streams.{text_written, as_text, edit_begun, edit_ended, put_pair, put_pairs}
use Rattle.pli_coding.specs.Statements.{stmt_code}
use Rattle.pli_coding.specs.Linking.{Links}
use Rattle.pli_headline.specs.ProvedSoFar.{Names, Types, HavePrecisions, AreProvedFormats, HasData, AreProvedItems}
use Rattle.pli_headline.specs.ProvedSoFar.{AreProvedPairs}
use Rattle.pli_headline.proofs.HeldPlaces.{places_grown, places_same}
use Rattle.pli_headline.proofs.Storages.{storage}
use Rattle.run_steps.specs.Engine.{Base, address}
use Rattle.run_steps.proofs.Linking.{size_append}
use Rattle.run_steps.specs.Items.{Linked, At}
use Rattle.run_steps.specs.Bodies.{Known}
use Rattle.run_steps.proofs.Jumps.{front_of, back_of}
use Rattle.run_steps.specs.Temporaries.{nothing, Stays}
use Rattle.run_steps.proofs.Temporaries.{stays_same, stays_then}
use Rattle.pli_headline.proofs.Serving.{Serving}
use Rattle.pli_headline.proofs.Acts.{act_piece}
use Rattle.pli_headline.proofs.Statements.{Standing, Block, AllHold, counted_all, Behind, Does}
use Rattle.pli_headline.proofs.FormatData.{Suit, formats_suit}
use Rattle.pli_headline.proofs.EditItems.{putting, at_places}
use Rattle.pli_headline.proofs.EditPieces.{begin_piece, end_piece, at_other_places}
use Rattle.run_steps.specs.Reach.{Family, Aims, Comes, Closed}
use Rattle.run_steps.proofs.Reach.{before_closed, comes_on}
use Rattle.rv_meaning.specs.Memory.{bytes_of_words}
use Rattle.pli_coding.specs.StaticForms.{formats_length, formats_words}
use Rattle.temporary_bounds.specs.WordBounds.{put_words, put_item_words, put_items_words}
use Rattle.temporary_bounds.specs.Spare.{spare}
use Rattle.pli_headline.proofs.StandingFormats.{formats_found}
use Rattle.pli_headline.proofs.PutItems.{item_piece}
use Rattle.pli_headline.proofs.Scalars.{Values}

-- ---- items one behind the other

-- behind items
abbrev pub ItemsBehind : {e : Environment} {block : Names} {types : Types} → Block e block types → (k line : ℕ) → (h t : ℕ → ℕ) → (i : ℕ) → Values → T.Formats → (below : List EditPlace) → Aims (Unit {0}) → Type 0
ItemsBehind {e = e} {block = block} {types = types} bl k line h0 t0 i n fs below aims =
    (s : State) (v : Services) (rest : List FormatItem) (h t : ℕ → ℕ) (f : Family) → Serving k s v line → AllHold bl.frames bl.serials (storage v) (e.level ∷ bl.depths) s block types n → Suit (has_fixed fs) (has_text fs) rest → v.edits ≡ putting (format_items fs) rest ∷ below → Stays bl.taken h0 t0 h t → ((b : Base) → At b i (Known (bl.ground n) v h t nothing b) (f b)) → aims.done i f v tt s

items_piece : {e : Environment} {block : Names} {types : Types} (bl : Block e block types) {links : Links}
    {code : List Instr} (items : List Y.PutItem) {i : ℕ} {v : Services} {h t : ℕ → ℕ} {s : State}
    {aims : Aims (Unit {0})} (closed : Closed code aims) (routines : Standing bl links code) (f : Family)
    (around : Around) (fs : T.Formats) (n : Values) (rest : List FormatItem) (below : List EditPlace) (k : ℕ)
    → AreProvedItems block types items → bl.taken.words + put_items_words items ≤ bl.words + spare bl.taken
    → AreProvedFormats fs → HasData fs → (has_text fs ≡ true → HavePrecisions items)
    → Suit (has_fixed fs) (has_text fs) rest → v.edits ≡ putting (format_items fs) rest ∷ below
    → Linked links code i (C.items_put e bl.taken fs items) → Serving k s v around.line
    → AllHold bl.frames bl.serials (storage v) (e.level ∷ bl.depths) s block types n
    → ((b : Base) → At b i (Known (bl.ground n) v h t nothing b) (f b))
    → ItemsBehind bl k around.line h t (i + size_of (C.items_put e bl.taken fs items)) n fs below aims
    → Comes code i f v aims (P.items_put around (format_items fs) rest items k s)
unfolding P.items_put ◌>>=◌ give
items_piece bl [] {i = i} {v = v} {h = h} {t = t} {s = s} {aims = aims} closed routines f around fs n rest below k is room are has precise suits edits l serving all at goal =
    let e : i ≡ i + 0 = omega arith in
    record {
      to = λ early. subst (λ u. aims.done u f v tt s) (sym e) (goal s v rest h t f serving all suits edits
          (stays_same bl.taken h t) (λ b. record { pc = (at b).pc ∙ ap (address b) e; holds = (at b).holds }));
    }
items_piece {e} bl {links} {code} (item ∷ items) {i} {v} {h} {t} {s} {aims} closed routines f around fs n rest below k is room are has precise suits edits l serving all at goal =
    let a = C.item_put e bl.taken fs item in
    let c = C.items_put e bl.taken fs items in
    let next' : List FormatItem → Meaning (Unit {0}) = λ left. P.items_put around (format_items fs) left items in
    let m1 = le-max_left (put_item_words item) (put_items_words items) in
    let m2 = le-max_right (put_item_words item) (put_items_words items) in
    let size = size_append a c in
    let place : i + size_of a + size_of c ≡ i + size_of (a ++ c) = omega (arith, size) in
    comes_on k (P.item_put around (format_items fs) rest item k s) next'
    (item_piece bl item (before_closed k next' closed) routines f around fs n rest below k is.0 (omega (arith, m1, room)) are has (λ text. (precise text).0) suits edits (front_of a c l) serving all at
    (λ s2 v2 rest2 h2 t2 f2 serving2 all2 suits2 edits2 stays2 at2.
    items_piece bl items closed routines f2 around fs n rest2 below k is.1 (omega (arith, m2, room)) are has (λ text. (precise text).1) suits2 edits2 (back_of a c l) serving2 all2 at2
    (λ s3 v3 rest3 h3 t3 f3 serving3 all3 suits3 edits3 stays3 at3.
    subst (λ u. aims.done u f3 v3 tt s3) (sym place)
    (goal s3 v3 rest3 h3 t3 f3 serving3 all3 suits3 edits3 (stays_then stays2 stays3) (λ b. record { pc = (at3 b).pc ∙ ap (address b) place; holds = (at3 b).holds })))))

-- ---- pairs

pub pairs_piece : {e : Environment} {block : Names} {types : Types} (bl : Block e block types) {links : Links}
    {code : List Instr} (pairs : List Y.PutPair) {i : ℕ} {v : Services} {h t : ℕ → ℕ} {s : State}
    {aims : Aims (Unit {0})} (closed : Closed code aims) (routines : Standing bl links code) (f : Family)
    (around : Around) (n : Values) (k : ℕ) → AreProvedPairs block types pairs
    → bl.taken.words + put_words pairs ≤ bl.words + spare bl.taken → Linked links code i (put_pairs e bl.taken pairs)
    → Serving k s v around.line → AllHold bl.frames bl.serials (storage v) (e.level ∷ bl.depths) s block types n
    → ((b : Base) → At b i (Known (bl.ground n) v h t nothing b) (f b))
    → Behind bl k h t (i + size_of (put_pairs e bl.taken pairs)) aims
    → Comes code i f v aims (P.pairs_put around pairs k s)
unfolding P.pairs_put ◌>>◌ give
pairs_piece bl [] {i = i} {v = v} {h = h} {t = t} {s = s} {aims = aims} closed routines f around n k is room l serving all at goal =
    let e : i ≡ i + 0 = omega arith in
    record {
      to = λ early. subst (λ u. aims.done u f v tt s) (sym e) (goal s v around.line n h t f serving all
          (stays_same bl.taken h t) (λ b. record { pc = (at b).pc ∙ ap (address b) e; holds = (at b).holds }));
    }
pairs_piece {e} bl {links} {code} (p ∷ pairs) {i} {v} {h} {t} {s} {aims} closed routines f around n k is room l serving all at goal =
    let fs = p.formats in
    let are = is.1.0.0 in
    let has = is.1.0.1.0 in
    let precise = is.1.0.1.1 in
    let whole = format_items fs in
    let begun = edit_begun fs 1 in
    let items = C.items_put e bl.taken fs p.items in
    let pair = put_pair e bl.taken p in
    let c = put_pairs e bl.taken pairs in
    let bytes = bytes_of_words (formats_length fs ∷ formats_words fs) in
    let lp = front_of pair c l in
    let placed = lp.named (ConstantBytes bytes) (inl refl) in
    let l2 = back_of begun (items ++ edit_ended) lp in
    let l3 = back_of items edit_ended l2 in
    let e1 = size_append pair c in
    let e2 = size_append begun (items ++ edit_ended) in
    let e3 = size_append items edit_ended in
    let here : i + 5 + size_of items + 2 ≡ i + size_of pair = omega (arith, e2, e3) in
    let place : i + size_of pair + size_of c ≡ i + size_of (pair ++ c) = omega (arith, e1) in
    let next' : Unit {0} → Meaning (Unit {0}) = λ q. P.pairs_put around pairs in
    let m1 = le-max_left (put_items_words p.items) (put_words pairs) in
    let m2 = le-max_right (put_items_words p.items) (put_words pairs) in
    begin_piece {links = links} {code = code} {i = i} {g = bl.ground n} {v = v} {h = h} {t = t} {aims = aims} closed f fs whole (λ b m o. formats_found fs code v m _ are has ((routines.constants n).stand bytes placed t b m o)) (front_of begun (items ++ edit_ended) lp) at
    (λ f1 at1.
    comes_on k (P.items_put around whole whole p.items k s) next'
    (items_piece bl p.items (before_closed k next' closed) routines f1 around fs n whole v.edits k is.0 (omega (arith, m1, room)) are has precise (formats_suit fs) refl (front_of items edit_ended l2) (at_other_places _ (places_grown (length v.edits) v.activations serving.places) serving) all at1
    (λ s2 v2 rest2 h2 t2 f2 serving2 all2 suits2 edits2 stays2 at2.
    end_piece closed f2 (putting whole rest2) v.edits edits2 l3 at2
    (λ f3 at3.
    let v3 = at_places v.edits v2 in
    subst (λ u. Comes code u f3 v3 aims (P.pairs_put around pairs k s2)) (sym here)
    (pairs_piece bl pairs closed routines f3 around n k is.1.1 (omega (arith, m2, room)) (back_of pair c l) (at_other_places v.edits (places_same (length v.edits) (length v2.edits) v.activations v2.activations (all2.kinds ∙ sym all.kinds) serving.places serving2.places) serving2) all2
    (λ b. record { pc = (at3 b).pc ∙ ap (address b) here; holds = (at3 b).holds })
    (λ s4 v4 line4 n4 h4 t4 f4 serving4 all4 stays4 at4.
    subst (λ u. aims.done u f4 v4 tt s4) (sym place)
    (goal s4 v4 line4 n4 h4 t4 f4 serving4 all4 (stays_then stays2 stays4) (λ b. record { pc = (at4 b).pc ∙ ap (address b) place; holds = (at4 b).holds }))))))))

-- ---- the statement

pub put_does : {e : Environment} {block : Names} {types : Types} (bl : Block e block types) (links : Links)
    (code : List Instr) (routines : Standing bl links code) (around : Around) (pairs : List Y.PutPair) (line : ℕ)
    → AreProvedPairs block types pairs → line < 2 ^ 31 → bl.taken.words + put_words pairs ≤ bl.words + spare bl.taken
    → Does bl links code around.turns (stmt_code e bl.taken (Y.Put None pairs line))
    (M.statement around (Y.Put None pairs line))
unfolding M.statement P.put ◌>>◌
put_does {e} {block} {types} bl links code routines around pairs line is fits room =
    record {
      does = λ {i} {s} {v} {h} {t} {aims} closed old n f k l serving all at goal more.
          let front = act_code line in
          let rest = put_pairs e bl.taken pairs in
          let here = at_line around line in
          let next' : Unit {0} → Meaning (Unit {0}) = λ u. P.pairs_put here pairs in
          let size = size_append front rest in
          let place : i + size_of front + size_of rest ≡ i + size_of (front ++ rest) = omega (arith, size) in
          comes_on k (act counted k s) next'
          (act_piece (before_closed k next' closed) f line old k fits (front_of front rest l) serving at
          (λ f1 serving1 at1.
          pairs_piece bl pairs closed routines f1 here n k is room (back_of front rest l) serving1 (counted_all _ all) at1
          (λ s2 v2 line2 n2 h2 t2 f2 serving2 all2 stays2 at2.
          subst (λ u. aims.done u f2 v2 tt s2) (sym place)
          (goal s2 v2 line2 n2 h2 t2 f2 serving2 all2 stays2 (λ b. record { pc = (at2 b).pc ∙ ap (address b) place; holds = (at2 b).holds })))));
    }
