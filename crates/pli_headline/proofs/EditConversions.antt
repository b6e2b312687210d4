-- A text that waits is shown: by F as the number that it is, where it is one, and by A as it is.
use Rattle.std.proofs.Common.{◌≡◌, ℕ, ◌+◌, List, [], ◌∷◌, ◌++◌, Option, refl, sym, ap, ◌∙◌, subst, arith, lit<}
use Rattle.std.specs.Prelude.{ℤ}
use Rattle.rv_meaning.specs.declared.instr.Instr.{Instr}
use Rattle.rv_meaning.specs.Words.{word}
use Rattle.pli_language.specs.Tree as T
use Rattle.pli_meaning.specs.Codes.{conversion_code}
use Rattle.pli_meaning.specs.Texts.{number_in_text}
use Rattle.pli_meaning.specs.StorageState.{State}
use Rattle.pli_meaning.specs.Control.{Meaning, give, flow_on, ◌>>=◌, ◌>>◌}
use Rattle.pli_meaning.specs.Raising as R
use Rattle.pli_meaning.specs.Raising.{Around}
use Rattle.pli_meaning.specs.Evaluating.{ComputationalNumber, ComputationalText}
use Rattle.pli_meaning.specs.Streaming as P
use Rattle.pli_meaning.specs.Streaming.{FormatItem, DataFormat, DataItem, FixedItem, TextItem}
use Rattle.pli_serving.specs.ServiceState.{Services, EditPlace, Entry, TextEntry}
use Rattle.pli_serving.specs.Outcomes.{with_entries}
use Rattle.pli_serving.specs.Edits as E
use Rattle.pli_serving.specs.TextServices as X
use Rattle.pli_coding.specs.Registers.{a0}
use Rattle.pli_coding.specs.Assembly.{Code, size_of}
use Rattle.pli_coding.specs.Instructions.{small, tested_service}
use Rattle.pli_coding.specs.Environments.{Environment}
use Rattle.pli_coding.specs.Streams.{has_fixed, has_text, by_item, number_written, text_written}
use Rattle.pli_coding.specs.Linking.{Links}
use Rattle.pli_headline.specs.ProvedSoFar.{Names, Types}
use Rattle.pli_headline.proofs.Storages.{storage}
use Rattle.run_steps.specs.Engine.{Base, address}
use Rattle.run_steps.specs.Items.{Linked, At}
use Rattle.run_steps.proofs.Items.{straight}
use Rattle.run_steps.specs.Bodies.{Ground, Known}
use Rattle.run_steps.proofs.Bodies.{zero_is}
use Rattle.run_steps.proofs.Jumps.{front_of, back_of}
use Rattle.run_steps.specs.Temporaries.{nothing}
use Rattle.pli_headline.proofs.Serving.{Serving}
use Rattle.pli_headline.proofs.Raising.{Routines, small_is}
use Rattle.pli_headline.proofs.Operators.{valued}
use Rattle.pli_headline.proofs.Statements.{Block, AllHold, counted_all}
use Rattle.pli_headline.proofs.FormatData.{IsOf}
use Rattle.pli_headline.proofs.EditItems.{putting, Finds, fielded}
use Rattle.pli_headline.proofs.EditPieces.{field_piece, Shown, shown_state}
use Rattle.pli_headline.proofs.EditTexts.{at_other_texts, text_piece}
use Rattle.pli_headline.proofs.TextCalls.{three, tested_call}
use Rattle.pli_headline.proofs.TextNumbers.{number_wide, number_answer}
use Rattle.pli_headline.proofs.EditChoices.{ValueBehind, item_chosen}
use Rattle.run_steps.specs.Reach.{Family, Aims, Comes, Closed}
use Rattle.run_steps.proofs.Reach.{before_closed, comes_on, onward}
use Rattle.pli_headline.proofs.Scalars.{Values}

-- ---- by F

abbrev pub text_by_fixed : Code
text_by_fixed = small a0 0 ∷ (tested_service 26 ++ number_written)

shown_converted : (around : Around) (t : List ℕ) (width : ℕ) (o : Option ℤ) (k : ℕ) (s : State) → number_in_text t ≡ o → P.shown_by around (ComputationalText t) (FixedItem width) k s ≡ ((R.or_error around conversion_code o) >>= (λ z. P.shown_by around (ComputationalNumber 31 z) (FixedItem width))) k s
unfolding P.shown_by R.or_error ◌>>=◌ give
shown_converted around t width o k s e =
    ap (λ u. flow_on k (R.or_error around conversion_code u k s) (λ z. P.shown_by around (ComputationalNumber 31 z) (FixedItem width))) e

converted_piece : {links : Links} {code : List Instr} {i : ℕ} {g : Ground} {v : Services} {h t : ℕ → ℕ} {s : State} {aims : Aims (Unit {0})} (closed : Closed code aims) (routines : Routines links code) (f : Family) (around : Around) (width : ℕ) (whole left : List FormatItem) (below : List EditPlace) (text : List ℕ) (texts : List Entry) (k : ℕ) → v.entries ≡ TextEntry text ∷ texts → Finds v.edits (DataFormat (FixedItem width)) whole left below → Linked links code i text_by_fixed → Serving k s v around.line → ((b : Base) → At b i (Known g v h t nothing b) (f b)) → Shown g h t k s (with_entries texts v) around.line (i + 15) (putting whole left ∷ below) aims → Comes code i f v aims (P.shown_by around (ComputationalText text) (FixedItem width) k s)
unfolding ◌>>=◌
converted_piece {code = code} {i = i} {g = g} {v = v} {h = h} {t = t} {s = s} {aims = aims} closed routines f around width whole left below text texts k top next l serving at goal =
    let o = number_in_text text in
    let v' = with_entries texts v in
    let next' : ℤ → Meaning (Unit {0}) = λ n. P.shown_by around (ComputationalNumber 31 n) (FixedItem width) in
    let y : Base → ℕ = λ b. (f b).machine.registers 11 in
    let z : Base → ℕ = λ b. (f b).machine.registers 12 in
    let front = small a0 0 ∷ [] in
    let call = tested_service 26 in
    let l1 = back_of front (call ++ number_written) l in
    let e : i + 1 + 5 + 9 ≡ i + 15 = omega arith in
    let r = straight i f v v (λ b. Known g v h t (three (λ b'. 0) y z) b) (front_of front (call ++ number_written) l) (omega arith) (λ b. (at b).pc)
    (λ b. let q = (at b).holds in record {
      body = record { services = q.body.services; registers = q.body.registers; bytes = q.body.bytes; memory = q.body.memory };
      regs = (small_is _ 0 (zero_is q.body) (lit< tt), (refl, (refl, tt)));
    }) in
    subst (Comes code i f v aims) (sym (shown_converted around text width o k s refl))
    (onward closed r (λ f1 at1.
    comes_on k (R.or_error around conversion_code o k s) next'
    (tested_call o (before_closed k next' closed) routines f1 around 26 conversion_code k (λ b. 0) y z (λ n. v') (λ n b. word n) (λ c x0 x1 x2 x3 x4. X.to_number_served c x0) (lit< tt) (lit< tt) refl (λ c u. refl) (λ n. omega arith)
    (λ b m x3 x4. number_answer code v m text texts top) (front_of call number_written l1) serving at1
    (λ n f2 found at2.
    field_piece closed routines f2 around width whole left below 31 n k (number_wide text n found) next (back_of call number_written l1) (at_other_texts texts serving) at2
    (λ field f3 serving3 at3.
    subst (λ u. aims.done u f3 (fielded field (putting whole left ∷ below) v') tt (shown_state field s)) (sym e)
    (goal field f3 serving3 (λ b. record { pc = (at3 b).pc ∙ ap (address b) e; holds = (at3 b).holds })))))))

-- ---- by either

converted_shown : {e : Environment} {block : Names} {types : Types} (bl : Block e block types) {links : Links} {code : List Instr} {i : ℕ} {v : Services} {h t : ℕ → ℕ} {s : State} {aims : Aims (List FormatItem)} (closed : Closed code aims) (routines : Routines links code) (f : Family) (around : Around) (width : ℕ) (n : Values) (whole left : List FormatItem) (below : List EditPlace) (text : List ℕ) (texts : List Entry) (k : ℕ) → v.entries ≡ TextEntry text ∷ texts → Finds v.edits (DataFormat (FixedItem width)) whole left below → Linked links code i text_by_fixed → Serving k s v around.line → AllHold bl.frames bl.serials (storage v) (e.level ∷ bl.depths) s block types n → ((b : Base) → At b i (Known (bl.ground n) v h t nothing b) (f b)) → ValueBehind bl k around.line h t (i + 15) n whole left below aims → Comes code i f v aims (((P.shown_by around (ComputationalText text) (FixedItem width)) >> (give left)) k s)
unfolding ◌>>◌ give
converted_shown bl {code = code} {i = i} {v = v} {s = s} {aims = aims} closed routines f around width n whole left below text texts k top found l serving all at goal =
    let last : Unit {0} → Meaning (List FormatItem) = λ q. give left in
    comes_on k (P.shown_by around (ComputationalText text) (FixedItem width) k s) last
    (converted_piece (before_closed k last closed) routines f around width whole left below text texts k top found l serving at
    (λ field f1 serving1 at1. record
    { to = λ early. goal (shown_state field s) _ f1 serving1 (counted_all _ all) refl at1 }))

as_it_is_shown : {e : Environment} {block : Names} {types : Types} (bl : Block e block types) {links : Links} {code : List Instr} {i : ℕ} {v : Services} {h t : ℕ → ℕ} {s : State} {aims : Aims (List FormatItem)} (closed : Closed code aims) (f : Family) (around : Around) (width : Option ℕ) (n : Values) (whole left : List FormatItem) (below : List EditPlace) (text : List ℕ) (texts : List Entry) (k : ℕ) → v.entries ≡ TextEntry text ∷ texts → Finds v.edits (DataFormat (TextItem width)) whole left below → Linked links code i text_written → Serving k s v around.line → AllHold bl.frames bl.serials (storage v) (e.level ∷ bl.depths) s block types n → ((b : Base) → At b i (Known (bl.ground n) v h t nothing b) (f b)) → ValueBehind bl k around.line h t (i + 2) n whole left below aims → Comes code i f v aims (((P.shown_by around (ComputationalText text) (TextItem width)) >> (give left)) k s)
unfolding ◌>>◌ give
as_it_is_shown bl {s = s} closed f around width n whole left below text texts k top found l serving all at goal =
    let last : Unit {0} → Meaning (List FormatItem) = λ q. give left in
    comes_on k (P.shown_by around (ComputationalText text) (TextItem width) k s) last
    (text_piece (before_closed k last closed) f around (ComputationalText text) width whole left below texts k found top l serving at
    (λ field f1 serving1 at1. record
    { to = λ early. goal (shown_state field s) _ f1 serving1 (counted_all _ all) refl at1 }))

pub text_shown : {e : Environment} {block : Names} {types : Types} (bl : Block e block types) {links : Links} {code : List Instr} {i : ℕ} {v : Services} {h t : ℕ → ℕ} {s : State} {aims : Aims (List FormatItem)} (closed : Closed code aims) (routines : Routines links code) (f : Family) (around : Around) (fs : T.Formats) (d : DataItem) (n : Values) (whole left : List FormatItem) (below : List EditPlace) (text : List ℕ) (texts : List Entry) (k : ℕ) → IsOf (has_fixed fs) (has_text fs) d → v.entries ≡ TextEntry text ∷ texts → Finds v.edits (DataFormat d) whole left below → Linked links code i (by_item fs text_by_fixed text_written) → Serving k s v around.line → AllHold bl.frames bl.serials (storage v) (e.level ∷ bl.depths) s block types n → ((b : Base) → At b i (Known (bl.ground n) v h t (valued (E.data_number d)) b) (f b)) → ValueBehind bl k around.line h t (i + size_of (by_item fs text_by_fixed text_written)) n whole left below aims → Comes code i f v aims (((P.shown_by around (ComputationalText text) d) >> (give left)) k s)
text_shown bl closed routines f around fs (FixedItem width) n whole left below text texts k is top found l serving all at goal =
    item_chosen bl (has_fixed fs) (has_text fs) closed f (FixedItem width) text_by_fixed text_written n whole left below k around.line is l at
    (λ j f1 l1 at1 goal1. converted_shown bl closed routines f1 around width n whole left below text texts k top found l1 serving all at1 goal1) goal
text_shown bl closed routines f around fs (TextItem width) n whole left below text texts k is top found l serving all at goal =
    item_chosen bl (has_fixed fs) (has_text fs) closed f (TextItem width) text_by_fixed text_written n whole left below k around.line is l at
    (λ j f1 l1 at1 goal1. as_it_is_shown bl closed f1 around width n whole left below text texts k top found l1 serving all at1 goal1) goal
