-- A number or a bit that waits is shown by the data item that is next.
use Rattle.std.proofs.Common.{◌≡◌, ℕ, ◌+◌, ◌<◌, ◌≤◌, List, ◌∷◌, ◌++◌, Option, Bool, true, false, refl, sym, ap, ◌∙◌, subst, arith}
use Rattle.std.specs.Prelude.{ℤ}
use Rattle.rv_meaning.specs.declared.instr.Instr.{Instr}
use Rattle.rv_meaning.specs.Words.{word}
use Rattle.pli_language.specs.Tree as T
use Rattle.pli_meaning.specs.StorageState.{State}
use Rattle.pli_meaning.specs.Control.{Meaning, give, ◌>>◌}
use Rattle.pli_meaning.specs.Texts.{bit_number}
use Rattle.pli_meaning.specs.Raising.{Around}
use Rattle.pli_meaning.specs.Evaluating as C
use Rattle.pli_meaning.specs.Evaluating.{Computational, ComputationalNumber, ComputationalBit}
use Rattle.pli_meaning.specs.Streaming as P
use Rattle.pli_meaning.specs.Streaming.{FormatItem, DataFormat, DataItem, FixedItem, TextItem}
use Rattle.pli_serving.specs.ServiceState.{Services, EditPlace, TextEntry}
use Rattle.pli_serving.specs.Edits as E
use Rattle.pli_serving.specs.TextServices as X
use Rattle.pli_coding.specs.Registers.{a0}
use Rattle.pli_coding.specs.Assembly.{Code, size_of}
use Rattle.pli_coding.specs.Environments.{Environment, Taken, fetch, is_register_left}
use Rattle.pli_coding.specs.Streams.{has_fixed, has_text, by_item, number_written, as_text, text_written}
use Rattle.pli_coding.specs.Linking.{Links}
use Rattle.pli_headline.specs.ProvedSoFar.{Names, Types, IsPrecision}
use Rattle.pli_headline.proofs.Storages.{storage}
use Rattle.run_steps.specs.Engine.{Base, address}
use Rattle.run_steps.proofs.Linking.{size_append}
use Rattle.run_steps.specs.Items.{Linked, At}
use Rattle.run_steps.specs.Numbers.{IsWide}
use Rattle.run_steps.proofs.Numbers.{word_small}
use Rattle.run_steps.specs.Bodies.{Known}
use Rattle.run_steps.proofs.Jumps.{front_of, back_of}
use Rattle.run_steps.specs.Temporaries.{nothing, waiting}
use Rattle.run_steps.proofs.Temporaries.{fetch_piece}
use Rattle.pli_headline.proofs.Serving.{Serving}
use Rattle.pli_headline.proofs.Raising.{Routines}
use Rattle.pli_headline.proofs.Operators.{valued}
use Rattle.pli_headline.proofs.Scalars.{bit_wide, Values}
use Rattle.pli_headline.proofs.Statements.{Block, AllHold, counted_all}
use Rattle.pli_headline.proofs.FormatData.{IsOf}
use Rattle.pli_headline.proofs.EditItems.{putting, Finds, fielded}
use Rattle.pli_headline.proofs.EditPieces.{field_piece, shown_state}
use Rattle.pli_headline.proofs.EditTexts.{at_other_texts, number_text_is, bit_text_is, word_as_text, texted, text_piece}
use Rattle.pli_headline.proofs.EditChoices.{ValueBehind, item_chosen}
use Rattle.run_steps.specs.Reach.{Family, Aims, Comes, Closed}
use Rattle.run_steps.proofs.Reach.{before_closed, comes_on, onward}

-- the code that shows it by F, and by A
abbrev pub by_fixed : Taken → Code
by_fixed taken = fetch a0 taken ++ number_written

abbrev pub by_text : Taken → (precision : ℕ) → Code
by_text taken precision = fetch a0 taken ++ (as_text precision ++ text_written)

-- what a word shows that waits: by F the number z, and by A the text that service 21 makes of it
pub record ShownAs (around : Around) (texts : Bool) (shown : Computational) (p : ℕ) (z : ℤ) : Type 0 where
  pub wide : IsWide z
  pub number : (width k : ℕ) (s : State) → P.shown_by around shown (FixedItem width) k s ≡ P.shown_by around (ComputationalNumber p z) (FixedItem width) k s
  pub text : texts ≡ true → (p ≤ 31) × (X.number_or_bit_text (word z) p ≡ C.as_text shown)

pub number_as : (around : Around) (texts : Bool) (p : ℕ) (z : ℤ) → IsWide z → (texts ≡ true → IsPrecision p) → ShownAs around texts (ComputationalNumber p z) p z
number_as around texts p z wide precise =
    record {
      wide = wide;
      number = λ width k s. refl;
      text = λ some. ((precise some).1, number_text_is p z (precise some).0 wide);
    }

pub bit_as : (around : Around) (texts : Bool) (b : Bool) → ShownAs around texts (ComputationalBit b) 0 (bit_number b)
unfolding P.shown_by
bit_as around texts b =
    record {
      wide = bit_wide b;
      number = λ width k s. refl;
      text = λ some. (omega arith, bit_text_is b);
    }

fixed_shown : {e : Environment} {block : Names} {types : Types} (bl : Block e block types) {links : Links} {code : List Instr} {i : ℕ} {v : Services} {h t : ℕ → ℕ} {s : State} {aims : Aims (List FormatItem)} (closed : Closed code aims) (routines : Routines links code) (f : Family) (around : Around) (width : ℕ) (texts : Bool) (shown : Computational) (p : ℕ) (z : ℤ) (n : Values) (whole left : List FormatItem) (below : List EditPlace) (k : ℕ) → ShownAs around texts shown p z → (is_register_left bl.taken ≡ false → bl.taken.words < (bl.ground n).words) → waiting bl.taken h t ≡ word z → Finds v.edits (DataFormat (FixedItem width)) whole left below → Linked links code i (by_fixed bl.taken) → Serving k s v around.line → AllHold bl.frames bl.serials (storage v) (e.level ∷ bl.depths) s block types n → ((b : Base) → At b i (Known (bl.ground n) v h t nothing b) (f b)) → ValueBehind bl k around.line h t (i + size_of (by_fixed bl.taken)) n whole left below aims → Comes code i f v aims (((P.shown_by around shown (FixedItem width)) >> (give left)) k s)
unfolding ◌>>◌ give
fixed_shown bl {i = i} {v = v} {s = s} {aims = aims} closed routines f around width texts shown p z n whole left below k as' room waits found l serving all at goal =
    let wide = as'.wide in
    let back = fetch a0 bl.taken in
    let last : Unit {0} → Meaning (List FormatItem) = λ q. give left in
    let e1 = size_append back number_written in
    let place : i + size_of back + 9 ≡ i + size_of (back ++ number_written) = omega (arith, e1) in
    onward closed (fetch_piece (bl.temps n) i f a0 bl.taken (word z) room (word_small z wide) waits (record { reserved_stay = λ y q. refl; known_stay = λ b y q o. o; set = λ y q. refl }) (record { reserved_stay = λ y q. refl; known_stay = λ b y q o. o; set = λ y q. refl }) (front_of back number_written l) at)
    (λ f1 at1.
    comes_on k (P.shown_by around shown (FixedItem width) k s) last
    (subst (Comes _ (i + size_of back) f1 v _) (sym (as'.number width k s))
    (field_piece (before_closed k last closed) routines f1 around width whole left below p z k wide found (back_of back number_written l) serving at1
    (λ field f2 serving2 at2. record {
      to = λ early.
          let v2 = fielded field (putting whole left ∷ below) v in
          subst (λ q. aims.done q f2 v2 left (shown_state field s)) (sym place)
          (goal (shown_state field s) v2 f2 serving2 (counted_all _ all) refl (λ b. record { pc = (at2 b).pc ∙ ap (address b) place; holds = (at2 b).holds }));
    }))))

text_shown : {e : Environment} {block : Names} {types : Types} (bl : Block e block types) {links : Links} {code : List Instr} {i : ℕ} {v : Services} {h t : ℕ → ℕ} {s : State} {aims : Aims (List FormatItem)} (closed : Closed code aims) (f : Family) (around : Around) (width : Option ℕ) (texts : Bool) (shown : Computational) (p : ℕ) (z : ℤ) (n : Values) (whole left : List FormatItem) (below : List EditPlace) (k : ℕ) → texts ≡ true → ShownAs around texts shown p z → (is_register_left bl.taken ≡ false → bl.taken.words < (bl.ground n).words) → waiting bl.taken h t ≡ word z → Finds v.edits (DataFormat (TextItem width)) whole left below → Linked links code i (by_text bl.taken p) → Serving k s v around.line → AllHold bl.frames bl.serials (storage v) (e.level ∷ bl.depths) s block types n → ((b : Base) → At b i (Known (bl.ground n) v h t nothing b) (f b)) → ValueBehind bl k around.line h t (i + size_of (by_text bl.taken p)) n whole left below aims → Comes code i f v aims (((P.shown_by around shown (TextItem width)) >> (give left)) k s)
unfolding ◌>>◌ give
text_shown bl {i = i} {v = v} {s = s} {aims = aims} closed f around width texts shown p z n whole left below k some as' room waits found l serving all at goal =
    let wide = as'.wide in
    let text = as'.text some in
    let back = fetch a0 bl.taken in
    let rest = as_text p ++ text_written in
    let last : Unit {0} → Meaning (List FormatItem) = λ q. give left in
    let e1 = size_append back rest in
    let place : i + size_of back + 3 + 2 ≡ i + size_of (back ++ rest) = omega (arith, e1) in
    let l1 = back_of back rest l in
    let v1 = record v { entries = TextEntry (C.as_text shown) ∷ v.entries } in
    onward closed (fetch_piece (bl.temps n) i f a0 bl.taken (word z) room (word_small z wide) waits (record { reserved_stay = λ y q. refl; known_stay = λ b y q o. o; set = λ y q. refl }) (record { reserved_stay = λ y q. refl; known_stay = λ b y q o. o; set = λ y q. refl }) (front_of back rest l) at)
    (λ f1 at1.
    word_as_text closed f1 (word z) p (C.as_text shown) text.0 text.1 (front_of (as_text p) text_written l1) at1
    (λ f2 at2.
    comes_on k (P.shown_by around shown (TextItem width) k s) last
    (text_piece (before_closed k last closed) f2 around shown width whole left below v.entries k found refl (back_of (as_text p) text_written l1) (at_other_texts _ serving) at2
    (λ field f3 serving3 at3. record {
      to = λ early.
          let v3 = texted field (putting whole left ∷ below) v.entries v1 in
          subst (λ q. aims.done q f3 v3 left (shown_state field s)) (sym place)
          (goal (shown_state field s) v3 f3 serving3 (counted_all _ all) refl (λ b. record { pc = (at3 b).pc ∙ ap (address b) place; holds = (at3 b).holds }));
    }))))

-- by either, as the list has it
pub word_shown : {e : Environment} {block : Names} {types : Types} (bl : Block e block types) {links : Links} {code : List Instr} {i : ℕ} {v : Services} {h t : ℕ → ℕ} {s : State} {aims : Aims (List FormatItem)} (closed : Closed code aims) (routines : Routines links code) (f : Family) (around : Around) (fs : T.Formats) (d : DataItem) (shown : Computational) (p : ℕ) (z : ℤ) (n : Values) (whole left : List FormatItem) (below : List EditPlace) (k : ℕ) → IsOf (has_fixed fs) (has_text fs) d → ShownAs around (has_text fs) shown p z → (is_register_left bl.taken ≡ false → bl.taken.words < (bl.ground n).words) → waiting bl.taken h t ≡ word z → Finds v.edits (DataFormat d) whole left below → Linked links code i (by_item fs (by_fixed bl.taken) (by_text bl.taken p)) → Serving k s v around.line → AllHold bl.frames bl.serials (storage v) (e.level ∷ bl.depths) s block types n → ((b : Base) → At b i (Known (bl.ground n) v h t (valued (E.data_number d)) b) (f b)) → ValueBehind bl k around.line h t (i + size_of (by_item fs (by_fixed bl.taken) (by_text bl.taken p))) n whole left below aims → Comes code i f v aims (((P.shown_by around shown d) >> (give left)) k s)
word_shown bl closed routines f around fs (FixedItem width) shown p z n whole left below k is as' room waits found l serving all at goal =
    item_chosen bl (has_fixed fs) (has_text fs) closed f (FixedItem width) (by_fixed bl.taken) (by_text bl.taken p) n whole left below k around.line is l at
    (λ j f1 l1 at1 goal1. fixed_shown bl closed routines f1 around width (has_text fs) shown p z n whole left below k as' room waits found l1 serving all at1 goal1) goal
word_shown bl closed routines f around fs (TextItem width) shown p z n whole left below k is as' room waits found l serving all at goal =
    item_chosen bl (has_fixed fs) (has_text fs) closed f (TextItem width) (by_fixed bl.taken) (by_text bl.taken p) n whole left below k around.line is l at
    (λ j f1 l1 at1 goal1. text_shown bl closed f1 around width (has_text fs) shown p z n whole left below k is as' room waits found l1 serving all at1 goal1) goal
