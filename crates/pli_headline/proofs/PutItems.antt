-- An item of PUT: it is evaluated, the control items before the next data item are carried out, and it is shown.
use Rattle.std.proofs.Common.{◌≡◌, ℕ, ◌+◌, ◌<◌, ◌≤◌, List, ◌∷◌, ◌++◌, Bool, true, false, refl, sym, ap, ◌∙◌, subst, arith}
use Rattle.std.specs.Prelude.{ℤ, max}
use Rattle.std.proofs.Math.Nat.{le-max_left, le-max_right}
use Rattle.rv_meaning.specs.declared.instr.Instr.{Instr}
use Rattle.rv_meaning.specs.Words.{word}
use Rattle.pli_language.specs.Tree as T
use Rattle.pli_typing.specs.TypedTree as Y
use Rattle.pli_meaning.specs.Texts.{bit_number}
use Rattle.pli_meaning.specs.StorageState.{State}
use Rattle.pli_meaning.specs.Control.{Meaning, give, ◌>>=◌, ◌>>◌}
use Rattle.pli_meaning.specs.Raising.{Around}
use Rattle.pli_meaning.specs.Evaluating as V
use Rattle.pli_meaning.specs.Evaluating.{Computational, ComputationalNumber, ComputationalText, ComputationalBit}
use Rattle.pli_meaning.specs.Streaming as P
use Rattle.pli_meaning.specs.Streaming.{FormatItem, DataItem, format_items}
use Rattle.pli_serving.specs.ServiceState.{Services, EditPlace, TextEntry}
use Rattle.pli_coding.specs.Registers.{a0}
use Rattle.pli_coding.specs.Assembly.{size_of}
use Rattle.pli_coding.specs.Environments.{Environment, save, is_register_left}
use Rattle.pli_coding.specs.Expressions.{number_code, bit_code, text_code}
use Rattle.pli_coding.specs.Streams as C
use Rattle.pli_coding.specs.Streams.{has_fixed, has_text, by_item, controls_carried_out, number_written, text_written}
use Rattle.pli_coding.specs.Linking.{Links}
use Rattle.temporary_bounds.specs.WordBounds.{number_words, bit_words, text_words, put_item_words}
use Rattle.temporary_bounds.specs.Spare.{spare}
use Rattle.temporary_bounds.proofs.Takes.{none_spare}
use Rattle.pli_headline.specs.ProvedSoFar.{Names, Types, IsProvedNumber, IsProvedBit, IsProvedText, IsPrecision, HasPrecision, AreProvedFormats, HasData, IsProvedItem}
use Rattle.pli_headline.proofs.Storages.{storage, Serials}
use Rattle.run_steps.specs.Engine.{Base, address}
use Rattle.run_steps.proofs.Linking.{size_append}
use Rattle.run_steps.specs.Items.{Linked, At}
use Rattle.run_steps.proofs.Numbers.{word_small}
use Rattle.pli_headline.proofs.Scalars.{bit_word, Values}
use Rattle.run_steps.specs.Bodies.{Known}
use Rattle.run_steps.proofs.Jumps.{front_of, back_of}
use Rattle.run_steps.specs.Temporaries.{nothing, held_with, words_with, Stays}
use Rattle.run_steps.proofs.Temporaries.{waiting_saved, save_piece, stays_then, stays_saved}
use Rattle.pli_headline.proofs.Serving.{Serving}
use Rattle.pli_headline.proofs.Raising.{Routines}
use Rattle.pli_headline.proofs.Expressions.{number_piece, bit_does, text_does}
use Rattle.pli_headline.proofs.Ifs.{setting}
use Rattle.pli_headline.proofs.Operators.{valued}
use Rattle.pli_headline.proofs.Entered.{Frames}
use Rattle.pli_headline.proofs.Statements.{Standing, Block, AllHold, counted_all, scope_of}
use Rattle.pli_headline.proofs.FormatData.{items_data, Suit, formats_suit}
use Rattle.pli_headline.proofs.EditItems.{putting}
use Rattle.pli_headline.proofs.EditControls.{Kept, next_piece}
use Rattle.pli_headline.proofs.EditValues.{by_fixed, by_text, ShownAs, number_as, bit_as, word_shown}
use Rattle.pli_headline.proofs.EditTexts.{at_other_texts}
use Rattle.pli_headline.proofs.EditConversions.{text_by_fixed, text_shown}
use Rattle.run_steps.specs.Reach.{Family, Aims, Comes, Closed}
use Rattle.run_steps.proofs.Reach.{before_closed, comes_on, onward}

abbrev pub number_item : (precision : ℕ) → Y.Number → Y.PutItem
number_item p x = Y.PutValue (Y.NumberValue p x)

abbrev pub bit_item : Y.Bit → Y.PutItem
bit_item x = Y.PutValue (Y.BitValue x)

abbrev pub text_item : Y.Text → Y.PutItem
text_item x = Y.PutValue (Y.TextValue x)

-- behind an item, with what is left of the format list
abbrev pub ItemBehind : {e : Environment} {block : Names} {types : Types} → Block e block types → (k line : ℕ) → (h t : ℕ → ℕ) → (i : ℕ) → Values → T.Formats → (below : List EditPlace) → Aims (List FormatItem) → Type 0
ItemBehind {e = e} {block = block} {types = types} bl k line h0 t0 i n fs below aims =
    (s : State) (v : Services) (rest : List FormatItem) (h t : ℕ → ℕ) (f : Family) → Serving k s v line → AllHold bl.frames bl.serials (storage v) (e.level ∷ bl.depths) s block types n → Suit (has_fixed fs) (has_text fs) rest → v.edits ≡ putting (format_items fs) rest ∷ below → Stays bl.taken h0 t0 h t → ((b : Base) → At b i (Known (bl.ground n) v h t nothing b) (f b)) → aims.done i f v rest s

-- acts leave what the variables hold
all_kept : (frames : Frames) (serials : Serials) (levels : List ℕ) (block : Names) (types : Types) (n : Values) → Kept (λ xs s. AllHold frames serials xs levels s block types n)
all_kept frames serials levels block types n = record { keeps = λ xs w s all. counted_all w all }

-- ---- a word in a0

word_piece : {e : Environment} {block : Names} {types : Types} (bl : Block e block types) {links : Links}
    {code : List Instr} {i : ℕ} {v : Services} {h t : ℕ → ℕ} {s : State} {aims : Aims (List FormatItem)}
    (closed : Closed code aims) (routines : Routines links code) (f : Family) (around : Around) (fs : T.Formats)
    (shown : Computational) (p : ℕ) (z : ℤ) (n : Values) (rest : List FormatItem) (below : List EditPlace) (k : ℕ)
    → ShownAs around (has_text fs) shown p z → bl.taken.words + 1 ≤ bl.words + spare bl.taken → AreProvedFormats fs
    → HasData fs → Suit (has_fixed fs) (has_text fs) rest → v.edits ≡ putting (format_items fs) rest ∷ below
    → Linked links code i (save a0 bl.taken ++ C.number_put bl.taken fs (C.as_text p)) → Serving k s v around.line
    → AllHold bl.frames bl.serials (storage v) (e.level ∷ bl.depths) s block types n
    → ((b : Base) → At b i (Known (bl.ground n) v h t (valued (word z)) b) (f b))
    → ItemBehind bl k around.line h t (i + size_of (save a0 bl.taken ++ C.number_put bl.taken fs (C.as_text p))) n fs
    below aims → Comes code i f v aims (((P.next_item P.control_put (format_items fs) rest) >>=
    (λ next. (P.shown_by around shown next.0) >> (give next.1))) k s)
unfolding ◌>>=◌ ◌>>◌ give
word_piece {e} {block} {types} bl {i = i} {h = h} {t = t} {s = s} {aims = aims} closed routines f around fs shown p z n rest below k as' room are has suits edits l serving all at goal =
    let left : is_register_left bl.taken ≡ false → bl.taken.words <
    (bl.ground n).words = λ none. let z = none_spare bl.taken none in let w = bl.words_are n in omega
    (arith, z, room, w) in
    let put' = save a0 bl.taken in
    let field = by_item fs (by_fixed bl.taken) (by_text bl.taken p) in
    let l1 = back_of put' (controls_carried_out ++ field) l in
    let e1 = size_append put' (controls_carried_out ++ field) in
    let place : i + size_of put' + 5 + size_of field ≡ i + size_of (put' ++ (controls_carried_out ++ field)) = omega (arith, e1) in
    let whole = format_items fs in
    let next' : DataItem × List FormatItem → Meaning (List FormatItem) = λ next. (P.shown_by around shown next.0) >> (give next.1) in
    let h1 = held_with bl.taken (word z) h in
    let t1 = words_with bl.taken (word z) t in
    onward closed (save_piece (bl.temps n) i f a0 bl.taken (word z) left (word_small z as'.wide) (λ y q. refl) (λ b w o. o.regs.0) (record { reserved_stay = λ y q. refl; known_stay = λ b y q o. o; set = λ y q. refl }) (front_of put' (controls_carried_out ++ field) l) at)
    (λ f1 at1.
    comes_on k (P.next_item P.control_put whole rest k s) next'
    (next_piece (all_kept bl.frames bl.serials (e.level ∷ bl.depths) block types n) (before_closed k next' closed) (has_fixed fs) (has_text fs) f1 whole rest below k (items_data fs are has) (formats_suit fs) suits edits (front_of controls_carried_out field l1) (record { serving = serving; holds = all; texts_are = refl }) at1
    (λ s2 v2 f2 d behind under2 found2 suits2 at2.
    word_shown bl closed routines f2 around fs d shown p z n whole behind below k suits2.0 as' left (waiting_saved bl.taken h t (word z)) found2 (back_of controls_carried_out field l1) under2.serving under2.holds at2
    (λ s3 v3 f3 serving3 all3 edits3 at3.
    subst (λ q. aims.done q f3 v3 behind s3) (sym place)
    (goal s3 v3 behind h1 t1 f3 serving3 all3 suits2.1 edits3 (stays_saved bl.taken h t (word z)) (λ b. record { pc = (at3 b).pc ∙ ap (address b) place; holds = (at3 b).holds }))))))

-- ---- a number, and a bit

number_item_piece : {e : Environment} {block : Names} {types : Types} (bl : Block e block types) {links : Links}
    {code : List Instr} {i : ℕ} {v : Services} {h t : ℕ → ℕ} {s : State} {aims : Aims (List FormatItem)}
    (closed : Closed code aims) (routines : Standing bl links code) (f : Family) (around : Around) (fs : T.Formats)
    (p : ℕ) (x : Y.Number) (n : Values) (rest : List FormatItem) (below : List EditPlace) (k : ℕ)
    → IsProvedNumber block types x → bl.taken.words + max 1 (number_words x) ≤ bl.words + spare bl.taken
    → AreProvedFormats fs → HasData fs → (has_text fs ≡ true → IsPrecision p) → Suit (has_fixed fs) (has_text fs) rest
    → v.edits ≡ putting (format_items fs) rest ∷ below
    → Linked links code i (C.item_put e bl.taken fs (number_item p x)) → Serving k s v around.line
    → AllHold bl.frames bl.serials (storage v) (e.level ∷ bl.depths) s block types n
    → ((b : Base) → At b i (Known (bl.ground n) v h t nothing b) (f b))
    → ItemBehind bl k around.line h t (i + size_of (C.item_put e bl.taken fs (number_item p x))) n fs below aims
    → Comes code i f v aims (P.item_put around (format_items fs) rest (number_item p x) k s)
unfolding P.item_put V.computational ◌>>=◌ ◌>>◌ give
number_item_piece {e} {block} {types} bl {i = i} {s = s} {aims = aims} closed routines f around fs p x n rest below k is room are has precise suits edits l serving all at goal =
    let least = le-max_left 1 (number_words x) in
    let most = le-max_right 1 (number_words x) in
    let w = bl.words_are n in
    let a = number_code e bl.taken x in
    let put' = save a0 bl.taken ++ C.number_put bl.taken fs (C.as_text p) in
    let e1 = size_append a put' in
    let place : i + size_of a + size_of put' ≡ i + size_of (a ++ put') = omega (arith, e1) in
    let next' : Computational → Meaning (List FormatItem) = λ u. (P.next_item P.control_put (format_items fs) rest) >>= (λ next. (P.shown_by around u next.0) >> (give next.1)) in
    let fit : ℤ → Meaning Computational = λ z. give (ComputationalNumber p z) in
    comes_on k (V.computational around (Y.NumberValue p x) k s) next'
    (comes_on k (V.number around x k s) fit
    (number_piece x (before_closed k fit (before_closed k next' closed)) routines.raises (routines.constants n) (bl.temps n) e block types n f around bl.taken k is (omega (arith, room, most, w)) (scope_of bl n all) (front_of a put' l) serving at
    (λ z f1 h1 t1 wide stays at1.
    record {
      to = λ early.
          word_piece bl closed routines.raises f1 around fs (ComputationalNumber p z) p z n rest below k (number_as around (has_text fs) p z wide precise) (omega (arith, room, least)) are has suits edits (back_of a put' l) serving all at1
          (λ s2 v2 rest2 h2 t2 f2 serving2 all2 suits2 edits2 stays2 at2.
          subst (λ q. aims.done q f2 v2 rest2 s2) (sym place)
          (goal s2 v2 rest2 h2 t2 f2 serving2 all2 suits2 edits2 (stays_then stays stays2) (λ b. record { pc = (at2 b).pc ∙ ap (address b) place; holds = (at2 b).holds })));
    })))

bit_item_piece : {e : Environment} {block : Names} {types : Types} (bl : Block e block types) {links : Links}
    {code : List Instr} {i : ℕ} {v : Services} {h t : ℕ → ℕ} {s : State} {aims : Aims (List FormatItem)}
    (closed : Closed code aims) (routines : Standing bl links code) (f : Family) (around : Around) (fs : T.Formats)
    (x : Y.Bit) (n : Values) (rest : List FormatItem) (below : List EditPlace) (k : ℕ) → IsProvedBit block types x
    → bl.taken.words + max 1 (bit_words x) ≤ bl.words + spare bl.taken → AreProvedFormats fs → HasData fs
    → Suit (has_fixed fs) (has_text fs) rest → v.edits ≡ putting (format_items fs) rest ∷ below
    → Linked links code i (C.item_put e bl.taken fs (bit_item x)) → Serving k s v around.line
    → AllHold bl.frames bl.serials (storage v) (e.level ∷ bl.depths) s block types n
    → ((b : Base) → At b i (Known (bl.ground n) v h t nothing b) (f b))
    → ItemBehind bl k around.line h t (i + size_of (C.item_put e bl.taken fs (bit_item x))) n fs below aims
    → Comes code i f v aims (P.item_put around (format_items fs) rest (bit_item x) k s)
unfolding P.item_put V.computational ◌>>=◌ ◌>>◌ give
bit_item_piece {e} {block} {types} bl {i = i} {v = v} {s = s} {aims = aims} closed routines f around fs x n rest below k is room are has suits edits l serving all at goal =
    let least = le-max_left 1 (bit_words x) in
    let most = le-max_right 1 (bit_words x) in
    let w = bl.words_are n in
    let a = bit_code e bl.taken x in
    let put' = save a0 bl.taken ++ C.number_put bl.taken fs (C.as_text 0) in
    let e1 = size_append a put' in
    let place : i + size_of a + size_of put' ≡ i + size_of (a ++ put') = omega (arith, e1) in
    let next' : Computational → Meaning (List FormatItem) = λ u. (P.next_item P.control_put (format_items fs) rest) >>= (λ next. (P.shown_by around u next.0) >> (give next.1)) in
    let fit : Bool → Meaning Computational = λ b. give (ComputationalBit b) in
    comes_on k (V.computational around (Y.BitValue x) k s) next'
    (comes_on k (V.bit around x k s) fit
    ((bit_does x {e = e} {around = around} (setting bl routines n all serving) is).does (before_closed k fit (before_closed k next' closed)) f bl.taken (omega (arith, room, most, w)) (front_of a put' l) at
    (λ met f1 h1 t1 one stays at1.
    record {
      to = λ early.
          word_piece bl closed routines.raises f1 around fs (ComputationalBit met) 0 (bit_number met) n rest below k (bit_as around (has_text fs) met) (omega (arith, room, least)) are has suits edits (back_of a put' l) serving all
          (λ b. record { pc = (at1 b).pc; holds = record { body = (at1 b).holds.body; regs = ((at1 b).holds.regs.0 ∙ bit_word met, tt) } })
          (λ s2 v2 rest2 h2 t2 f2 serving2 all2 suits2 edits2 stays2 at2.
          subst (λ q. aims.done q f2 v2 rest2 s2) (sym place)
          (goal s2 v2 rest2 h2 t2 f2 serving2 all2 suits2 edits2 (stays_then stays stays2) (λ b. record { pc = (at2 b).pc ∙ ap (address b) place; holds = (at2 b).holds })));
    })))

-- ---- a text

text_item_piece : {e : Environment} {block : Names} {types : Types} (bl : Block e block types) {links : Links}
    {code : List Instr} {i : ℕ} {v : Services} {h t : ℕ → ℕ} {s : State} {aims : Aims (List FormatItem)}
    (closed : Closed code aims) (routines : Standing bl links code) (f : Family) (around : Around) (fs : T.Formats)
    (x : Y.Text) (n : Values) (rest : List FormatItem) (below : List EditPlace) (k : ℕ) → IsProvedText block types x
    → bl.taken.words + text_words x ≤ bl.words + spare bl.taken → AreProvedFormats fs → HasData fs
    → Suit (has_fixed fs) (has_text fs) rest → v.edits ≡ putting (format_items fs) rest ∷ below
    → Linked links code i (C.item_put e bl.taken fs (text_item x)) → Serving k s v around.line
    → AllHold bl.frames bl.serials (storage v) (e.level ∷ bl.depths) s block types n
    → ((b : Base) → At b i (Known (bl.ground n) v h t nothing b) (f b))
    → ItemBehind bl k around.line h t (i + size_of (C.item_put e bl.taken fs (text_item x))) n fs below aims
    → Comes code i f v aims (P.item_put around (format_items fs) rest (text_item x) k s)
unfolding P.item_put V.computational ◌>>=◌ ◌>>◌ give
text_item_piece {e} {block} {types} bl {links} {code} {i} {v} {h} {t} {s} {aims} closed routines f around fs x n rest below k is room are has suits edits l serving all at goal =
    let w = bl.words_are n in
    let a = text_code e bl.taken x in
    let shown = by_item fs text_by_fixed text_written in
    let whole = format_items fs in
    let l1 = back_of a (controls_carried_out ++ shown) l in
    let e1 = size_append a (controls_carried_out ++ shown) in
    let place : i + size_of a + 5 + size_of shown ≡ i + size_of (C.item_put e bl.taken fs (text_item x)) = omega (arith, e1) in
    let show : Computational → DataItem × List FormatItem → Meaning (List FormatItem) = λ u next. (P.shown_by around u next.0) >> (give next.1) in
    let next' : Computational → Meaning (List FormatItem) = λ u. (P.next_item P.control_put whole rest) >>= (λ next. show u next) in
    let fit : List ℕ → Meaning Computational = λ text. give (ComputationalText text) in
    comes_on k (V.computational around (Y.TextValue x) k s) next'
    (comes_on k (V.text around x k s) fit
    ((text_does x {e = e} {around = around} (setting bl routines n all serving) is).does (before_closed k fit (before_closed k next' closed)) f bl.taken (omega (arith, room, w)) (front_of a (controls_carried_out ++ shown) l) at
    (λ text f1 h1 t1 short stays at1.
    let u = ComputationalText text in
    record {
      to = λ early.
          comes_on k (P.next_item P.control_put whole rest k s) (show u)
          (next_piece (all_kept bl.frames bl.serials (e.level ∷ bl.depths) block types n) (before_closed k (show u) closed) (has_fixed fs) (has_text fs) f1 whole rest below k (items_data fs are has) (formats_suit fs) suits edits (front_of controls_carried_out shown l1) (record { serving = at_other_texts (TextEntry text ∷ v.entries) serving; holds = all; texts_are = refl }) at1
          (λ s2 v2 f2 d behind under2 found2 suits2 at2.
          text_shown bl closed routines.raises f2 around fs d n whole behind below text v.entries k suits2.0 under2.texts_are found2 (back_of controls_carried_out shown l1) under2.serving under2.holds at2
          (λ s3 v3 f3 serving3 all3 edits3 at3.
          subst (λ q. aims.done q f3 v3 behind s3) (sym place)
          (goal s3 v3 behind h1 t1 f3 serving3 all3 suits2.1 edits3 stays (λ b. record { pc = (at3 b).pc ∙ ap (address b) place; holds = (at3 b).holds })))));
    })))

-- ---- any of these

pub item_piece : {e : Environment} {block : Names} {types : Types} (bl : Block e block types) {links : Links}
    {code : List Instr} (item : Y.PutItem) {i : ℕ} {v : Services} {h t : ℕ → ℕ} {s : State}
    {aims : Aims (List FormatItem)} (closed : Closed code aims) (routines : Standing bl links code) (f : Family)
    (around : Around) (fs : T.Formats) (n : Values) (rest : List FormatItem) (below : List EditPlace) (k : ℕ)
    → IsProvedItem block types item → bl.taken.words + put_item_words item ≤ bl.words + spare bl.taken
    → AreProvedFormats fs → HasData fs → (has_text fs ≡ true → HasPrecision item)
    → Suit (has_fixed fs) (has_text fs) rest → v.edits ≡ putting (format_items fs) rest ∷ below
    → Linked links code i (C.item_put e bl.taken fs item) → Serving k s v around.line
    → AllHold bl.frames bl.serials (storage v) (e.level ∷ bl.depths) s block types n
    → ((b : Base) → At b i (Known (bl.ground n) v h t nothing b) (f b))
    → ItemBehind bl k around.line h t (i + size_of (C.item_put e bl.taken fs item)) n fs below aims
    → Comes code i f v aims (P.item_put around (format_items fs) rest item k s)
item_piece bl (Y.PutValue (Y.NumberValue p x)) closed routines f around fs n rest below k is room are has precise suits edits l serving all at goal =
    number_item_piece bl closed routines f around fs p x n rest below k is room are has precise suits edits l serving all at goal
item_piece bl (Y.PutValue (Y.BitValue x)) closed routines f around fs n rest below k is room are has precise suits edits l serving all at goal =
    bit_item_piece bl closed routines f around fs x n rest below k is room are has suits edits l serving all at goal
item_piece bl (Y.PutValue (Y.TextValue x)) closed routines f around fs n rest below k is room are has precise suits edits l serving all at goal =
    text_item_piece bl closed routines f around fs x n rest below k is room are has suits edits l serving all at goal
item_piece bl _ closed routines f around fs n rest below k is room are has precise suits edits l serving all at goal = absurd is
