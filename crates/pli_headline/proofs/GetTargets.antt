-- An item of GET: the next data item is found, a field is taken for a number, a bit or a text, and it is stored in a variable of the block
-- or an element of an array.
use Rattle.std.proofs.Common.{◌≡◌, ℕ, suc, ◌+◌, ◌≤◌, List, [], ◌∷◌, ◌++◌, Option, Some, None, Bool, true, false}
use Rattle.std.proofs.Common.{refl, sym, ap, ◌∙◌, subst, arith, lit<, inl, inr, length, ◌<◌}
use Rattle.std.specs.Prelude.{ℤ, pos, slice_get}
use Rattle.rv_meaning.specs.declared.instr.Instr.{Instr}
use Rattle.rv_meaning.specs.Words.{word, flag}
use Rattle.pli_language.specs.Tree as T
use Rattle.pli_typing.specs.Signatures.{Bit, Bounds}
use Rattle.pli_language.specs.declared.condition.Condition.TheVariants as Conditions
use Rattle.pli_typing.specs.TypedTree as Y
use Rattle.pli_meaning.specs.BasicValues.{BasicValue, BasicNumber, BasicBit, BasicText}
use Rattle.pli_meaning.specs.Codes.{endfile_code, conversion_code}
use Rattle.pli_meaning.specs.Numbers.{checked}
use Rattle.pli_meaning.specs.Texts.{bit_number, bit_in_text}
use Rattle.pli_meaning.specs.InputLines.{Input, has_character, field_of}
use Rattle.pli_meaning.specs.DeclaredShapes.{variables_of_block}
use Rattle.pli_meaning.specs.StorageState.{State}
use Rattle.pli_meaning.specs.Control.{Meaning, give, ◌>>=◌}
use Rattle.pli_meaning.specs.Raising as R
use Rattle.pli_meaning.specs.Raising.{Around}
use Rattle.pli_meaning.specs.Streaming as P
use Rattle.pli_meaning.specs.Streaming.{FormatItem, DataFormat, DataItem, FixedItem, TextItem, Field, TextField}
use Rattle.pli_meaning.specs.Streaming.{format_items}
use Rattle.pli_serving.specs.ServiceState.{Services, EditPlace, TextEntry}
use Rattle.pli_serving.specs.Outcomes.{pushed, with_entries}
use Rattle.pli_serving.specs.Edits as E
use Rattle.pli_serving.specs.TextServices as X
use Rattle.pli_coding.specs.Registers.{a0}
use Rattle.pli_coding.specs.Assembly.{size_of}
use Rattle.pli_coding.specs.Instructions.{small, service, tested_service}
use Rattle.pli_coding.specs.Arithmetic.{fitted_code}
use Rattle.pli_coding.specs.Environments.{Environment}
use Rattle.pli_coding.specs.Expressions.{type_in, given_in}
use Rattle.pli_coding.specs.Storing.{word_stored, top_stored}
use Rattle.pli_coding.specs.Streams as C
use Rattle.pli_coding.specs.Streams.{has_fixed, has_text, controls_carried_out, awaited_before, field_awaited}
use Rattle.pli_coding.specs.Streams.{field_stored, bit_got, text_got}
use Rattle.pli_coding.specs.Linking.{Links}
use Rattle.temporary_bounds.specs.WordBounds.{get_item_words, reference_words, subscripts_words}
use Rattle.temporary_bounds.specs.Spare.{spare}
use Rattle.temporary_bounds.proofs.Takes.{none_spare}
use Rattle.pli_headline.specs.ProvedSoFar.{Names, Types, IsReadBy, IsProvedGetItem, AreProvedFormats, HasData}
use Rattle.pli_headline.specs.ProvedSoFar.{HaveWidths, text_leaf, alone, IsTarget, AreSubscripts, AreProvedNumbers}
use Rattle.pli_headline.specs.ProvedSoFar.{IsPart}
use Rattle.pli_headline.proofs.Since.{since_closed, comes_since}
use Rattle.pli_headline.proofs.HeldPlaces.{next_length}
use Rattle.pli_headline.proofs.UnitRuns.{Raises}
use Rattle.pli_headline.proofs.GetEnds.{AtExit, end_raised}
use Rattle.pli_headline.proofs.Storages.{storage, Storage, Serials}
use Rattle.run_steps.specs.Engine.{Base, address}
use Rattle.run_steps.proofs.Linking.{size_append}
use Rattle.run_steps.specs.Items.{Linked, At}
use Rattle.run_steps.proofs.Items.{straight}
use Rattle.run_steps.specs.Numbers as N
use Rattle.pli_headline.proofs.Scalars.{value_as, Fits, bit_back, bit_fits, bit_word, Values}
use Rattle.run_steps.specs.Bodies.{Known}
use Rattle.run_steps.proofs.Bodies.{zero_is}
use Rattle.run_steps.proofs.Jumps.{front_of, back_of}
use Rattle.run_steps.specs.Temporaries.{nothing, Stays}
use Rattle.pli_headline.proofs.Serving.{Serving}
use Rattle.pli_headline.proofs.Raising.{Routines, small_is}
use Rattle.pli_headline.proofs.Operators.{valued}
use Rattle.pli_headline.proofs.Precisions.{fitted_piece}
use Rattle.pli_headline.proofs.Variables.{IsDeclared, whole_part, whole, own}
use Rattle.pli_headline.proofs.States.{Holds}
use Rattle.pli_headline.proofs.TextStates.{KeepsText}
use Rattle.pli_headline.proofs.Entered.{Frames}
use Rattle.pli_headline.proofs.Statements.{Block, AllHold, Standing, Enough}
use Rattle.pli_headline.proofs.FormatData.{items_data, true_false}
use Rattle.pli_headline.proofs.EditTexts.{at_other_texts}
use Rattle.pli_headline.proofs.EditChoices.{by_kinds}
use Rattle.pli_headline.proofs.TextCalls.{three, tested_call}
use Rattle.pli_headline.proofs.TextNumbers.{bit_answer}
use Rattle.pli_headline.proofs.GetItems.{getting, Gets, read_state}
use Rattle.pli_headline.proofs.GetControls.{Kept, next_piece}
use Rattle.pli_headline.proofs.GetWidths.{Suits, formats_suited}
use Rattle.pli_headline.proofs.GetPieces.{endfile_tested, awaited_piece, ended_got}
use Rattle.pli_headline.proofs.GetNumbers.{stored_value, rest_given, converting, converting_closed, got_and_stored}
use Rattle.pli_headline.proofs.GetNumbers.{fixed_as_number, text_as_number, number_got, text_taken}
use Rattle.pli_headline.proofs.GetTexts.{number_as_text, field_as_text}
use Rattle.run_steps.specs.Reach.{Family, Aims, Comes, Closed, before}
use Rattle.run_steps.proofs.Reach.{before_closed, comes_on, onward}
use Rattle.pli_headline.proofs.ArrayMeant.{HoldsArray, element}
use Rattle.pli_headline.proofs.Targets.{Takes, scalar_takes, element_takes, own_type, element_type, element_target}
use Rattle.std.proofs.Math.Nat.{le-max_right}
use Rattle.pli_headline.proofs.TextArrayMeant.{HoldsTexts}
use Rattle.pli_headline.proofs.ArrayElements.{IsDeclaredArray}
use Rattle.pli_headline.proofs.TextTargets.{TakesText, variable_takes, text_element_takes}

-- ---- what is declared

-- the type of a variable in the meaning
target_is : (e : Environment) (around : Around) (block : Names) (j : ℕ) (type : Y.LeafType) → around.program ≡ e.program → IsDeclared e block j type → P.target_type around (whole (own block j)) ≡ Some type
target_is e around block j type same declared =
    ap (λ q. P.type_of_first whole_part (slice_get (variables_of_block q (block.at j).number) (block.at j).index)) same
    ∙ ap (P.type_of_first whole_part) declared.1

-- ---- what is behind an item

-- with what is left of the format list, and other numbers in the variables
abbrev pub ItemBehind : {e : Environment} {block : Names} {types : Types} → Block e block types → (k line : ℕ) → (h t : ℕ → ℕ) → (i : ℕ) → (fixed text : Bool) → (whole : List FormatItem) → (below : List EditPlace) → Aims (Option (List FormatItem)) → Type 0
ItemBehind {e = e} {block = block} {types = types} bl k line h0 t0 i fixed text whole below aims =
    (s : State) (v : Services) (rest : List FormatItem) (n : Values) (h t : ℕ → ℕ) (f : Family) → Serving k s v line → AllHold bl.frames bl.serials (storage v) (e.level ∷ bl.depths) s block types n → Suits fixed text rest → v.edits ≡ getting whole rest ∷ below → Stays bl.taken h0 t0 h t → ((b : Base) → At b i (Known (bl.ground n) v h t nothing b) (f b)) → aims.done i f v (Some rest) s

-- acts that read leave what the variables hold
read_holds : {s : State} {block : Names} {j serial : ℕ} {type : Y.LeafType} {z : ℤ} (change : Input → Input) → Holds s block j serial type z → Holds (read_state change s) block j serial type z
read_holds change h = record { values = h.values; stands = h.stands; lives = h.lives; value = h.value; fits = h.fits }

read_keeps : {s : State} {block : Names} {j serial : ℕ} {varying : Bool} {most : ℕ} {text : List ℕ} (change : Input → Input) → KeepsText s block j serial varying most text → KeepsText (read_state change s) block j serial varying most text
read_keeps change h = record { values = h.values; stands = h.stands; lives = h.lives; value = h.value; short = h.short }

read_array : {s : State} {block : Names} {j serial : ℕ} {type : Y.LeafType} {bs : List Bounds} {n : ℕ → ℤ} (change : Input → Input) → HoldsArray s block j serial type bs n → HoldsArray (read_state change s) block j serial type bs n
read_array change h = record { values = h.values; numeric = h.numeric; stands = h.stands; lives = h.lives; value = h.value; fits = h.fits }

read_texts : {s : State} {block : Names} {j serial : ℕ} {varying : Bool} {most : ℕ} {bs : List Bounds} {texts : ℕ → List ℕ} (change : Input → Input) → HoldsTexts s block j serial varying most bs texts → HoldsTexts (read_state change s) block j serial varying most bs texts
read_texts change h = record { values = h.values; stands = h.stands; lives = h.lives; value = h.value; short = h.short }

pub read_all : {frames : Frames} {serials : Serials} {xs : Storage} {levels : List ℕ} {s : State} {block : Names} {types : Types} {n : Values} (change : Input → Input) → AllHold frames serials xs levels s block types n → AllHold frames serials xs levels (read_state change s) block types n
read_all change all =
    record {
      numbers = λ j b numeric. read_holds change (all.numbers j b numeric);
      texts = λ j varying most at. read_keeps change (all.texts j varying most at);
      arrays = λ j type b bs at. read_array change (all.arrays j type b bs at);
      text_arrays = λ j varying most b bs at. read_texts change (all.text_arrays j varying most b bs at);
      entered = all.entered;
      framed = all.framed;
      kinds = all.kinds;
      units = all.units;
      aside = all.aside;
      stored = all.stored;
    }

all_kept : (frames : Frames) (serials : Serials) (levels : List ℕ) (block : Names) (types : Types) (n : Values) → Kept (λ xs s. AllHold frames serials xs levels s block types n)
all_kept frames serials levels block types n = record { keeps = λ xs change s all. read_all change all }

-- a value in a0 is stored
value_stored : {e : Environment} {block : Names} {types : Types} (bl : Block e block types) {links : Links} {code : List Instr} {i : ℕ} {v : Services} {h t : ℕ → ℕ} {s : State} {aims : Aims (Option (List FormatItem))} (closed : Closed code aims) (f : Family) (around : Around) (r : Y.Reference) {type : Y.LeafType} (takes : Takes bl links code r type) (z : ℤ) (n : Values) (fixed text : Bool) (all left : List FormatItem) (below : List EditPlace) (k : ℕ) → Fits type z → Suits fixed text left → v.edits ≡ getting all left ∷ below → Linked links code i (word_stored e bl.taken r) → Serving k s v around.line → AllHold bl.frames bl.serials (storage v) (e.level ∷ bl.depths) s block types n → ((b : Base) → At b i (Known (bl.ground n) v h t (valued (word z)) b) (f b)) → ItemBehind bl k around.line h t (i + size_of (word_stored e bl.taken r)) fixed text all below aims → Comes code i f v (before code aims k (rest_given left)) (stored_value around r (value_as type z) k s)
unfolding give
value_stored bl {v = v} closed f around r takes z n fixed text all left below k fits suits edits l serving hold at goal =
    takes.does (before_closed k (rest_given left) closed) f around z n k fits l serving hold at
    (λ s1 n1 h1 t1 f1 serving1 hold1 stays1 at1. record
    { to = λ early. goal s1 v left n1 h1 t1 f1 serving1 hold1 suits edits stays1 at1 })

-- ---- numbers

-- a number in a0 is stored where it fits
number_stored : {e : Environment} {block : Names} {types : Types} (bl : Block e block types) {links : Links}
    {code : List Instr} {i : ℕ} {v : Services} {h t : ℕ → ℕ} {s : State} {aims : Aims (Option (List FormatItem))}
    (closed : Closed code aims) (routines : Routines links code) (f : Family) (around : Around) (r : Y.Reference)
    (p : ℕ) (takes : Takes bl links code r (Y.FixedLeaf p)) (z : ℤ) (n : Values) (fixed text : Bool)
    (all left : List FormatItem) (below : List EditPlace) (k : ℕ) → N.IsWide z
    → bl.taken.words + 1 ≤ bl.words + spare bl.taken → Suits fixed text left → v.edits ≡ getting all left ∷ below
    → Linked links code i (fitted_code bl.taken p ++ word_stored e bl.taken r) → Serving k s v around.line
    → AllHold bl.frames bl.serials (storage v) (e.level ∷ bl.depths) s block types n
    → ((b : Base) → At b i (Known (bl.ground n) v h t (valued (word z)) b) (f b))
    → ItemBehind bl k around.line h t (i + size_of (fitted_code bl.taken p ++ word_stored e bl.taken r)) fixed text all
    below aims → Comes code i f v (converting code aims k around r left) (P.number_kept around p z k s)
unfolding P.number_kept ◌>>=◌ give
number_stored {e} {block} {types} bl {code = code} {i = i} {v = v} {s = s} {aims = aims} closed routines f around r p takes z n fixed text all left below k wide room suits edits l serving hold at goal =
    let fit = fitted_code bl.taken p in
    let last = word_stored e bl.taken r in
    let size = size_append fit last in
    let place : i + size_of fit + size_of last ≡ i + size_of (fit ++ last) = omega (arith, size) in
    let w = bl.words_are n in
    let few = (takes.old s (storage v) n hold).1.0 in
    let next' : ℤ → Meaning BasicValue = λ q. give (BasicNumber q) in
    comes_on k (R.value_of around (checked p z) k s) next'
    (fitted_piece (before_closed k next' (converting_closed k around r left closed)) routines
    (bl.temps n) f around bl.taken p z k few wide (λ none. let z = none_spare bl.taken none in omega
    (arith, z, room, w)) (front_of fit last l) serving at
    (λ f1 fits at1.
    record {
      to = λ early.
          value_stored bl closed f1 around r takes z n fixed text all left below k (few, fits) suits edits (back_of fit last l) serving hold at1
          (λ s2 v2 rest2 n2 h2 t2 f2 serving2 hold2 suits2 edits2 stays2 at2.
          subst (λ u. aims.done u f2 v2 (Some rest2) s2) (sym place)
          (goal s2 v2 rest2 n2 h2 t2 f2 serving2 hold2 suits2 edits2 stays2 (λ b. record { pc = (at2 b).pc ∙ ap (address b) place; holds = (at2 b).holds })));
    }))

-- ---- bits

-- a text that waits is stored as a bit
bit_stored : {e : Environment} {block : Names} {types : Types} (bl : Block e block types) {links : Links} {code : List Instr} {i : ℕ} {v : Services} {h t : ℕ → ℕ} {s : State} {aims : Aims (Option (List FormatItem))} (closed : Closed code aims) (routines : Routines links code) (f : Family) (around : Around) (r : Y.Reference) (takes : Takes bl links code r Y.BitLeaf) (field : List ℕ) (n : Values) (fixed text : Bool) (all left : List FormatItem) (below : List EditPlace) (k : ℕ) → Suits fixed text left → v.edits ≡ getting all left ∷ below → Linked links code i (small a0 1 ∷ (tested_service 26 ++ word_stored e bl.taken r)) → Serving k s v around.line → AllHold bl.frames bl.serials (storage v) (e.level ∷ bl.depths) s block types n → ((b : Base) → At b i (Known (bl.ground n) (pushed (TextEntry field) v) h t nothing b) (f b)) → ItemBehind bl k around.line h t (i + 6 + size_of (word_stored e bl.taken r)) fixed text all below aims → Comes code i f (pushed (TextEntry field) v) (converting code aims k around r left) (P.field_converted around Bit (TextField field) k s)
unfolding P.field_converted ◌>>=◌ give
bit_stored {e} {block} {types} bl {links} {code} {i} {v} {h} {t} {s} {aims} closed routines f around r takes field n fixed text all left below k suits edits l serving hold at goal =
    let next' : Bool → Meaning BasicValue = λ b. give (BasicBit b) in
    let o = bit_in_text field in
    let w = pushed (TextEntry field) v in
    let v' = with_entries v.entries w in
    let y : Base → ℕ = λ b. (f b).machine.registers 11 in
    let z : Base → ℕ = λ b. (f b).machine.registers 12 in
    let front = small a0 1 ∷ [] in
    let call = tested_service 26 in
    let last = word_stored e bl.taken r in
    let l1 = back_of front (call ++ last) l in
    let e1 : i + 1 + 5 + size_of last ≡ i + 6 + size_of last = omega arith in
    let set = straight i f w w (λ b. Known (bl.ground n) w h t (three (λ b'. 1) y z) b) (front_of front (call ++ last) l) (omega arith) (λ b. (at b).pc)
    (λ b. let q = (at b).holds in record {
      body = record { services = q.body.services; registers = q.body.registers; bytes = q.body.bytes; memory = q.body.memory };
      regs = (small_is _ 1 (zero_is q.body) (lit< tt), (refl, (refl, tt)));
    }) in
    let closed' = converting_closed k around r left closed in
    onward closed' set (λ f1 at1.
    comes_on k (R.or_error around conversion_code o k s) next'
    (tested_call o (before_closed k next' closed') routines f1 around 26 conversion_code k (λ b. 1) y z (λ q. v') (λ q b. flag q) (λ c x0 x1 x2 x3 x4. X.to_number_served c x0) (lit< tt) (lit< tt) refl (λ c u. refl) (λ q. omega arith)
    (λ b m x3 x4. bit_answer code w m field v.entries refl) (front_of call last l1) (at_other_texts (TextEntry field ∷ v.entries) serving) at1
    (λ q f2 is at2.
    record {
      to = λ early.
          subst (λ u. Comes code (i + 1 + 5) f2 v' (before code aims k (rest_given left)) (stored_value around r (BasicBit u) k s)) (bit_back q)
          (value_stored bl closed f2 around r takes (bit_number q) n fixed text all left below k (bit_fits q) suits edits (back_of call last l1) (at_other_texts v.entries serving) hold
          (λ b. record { pc = (at2 b).pc; holds = record { body = (at2 b).holds.body; regs = ((at2 b).holds.regs.0 ∙ bit_word q, tt) } })
          (λ s3 v3 rest3 n3 h3 t3 f3 serving3 hold3 suits3 edits3 stays3 at3.
          subst (λ u. aims.done u f3 v3 (Some rest3) s3) (sym e1)
          (goal s3 v3 rest3 n3 h3 t3 f3 serving3 hold3 suits3 edits3 stays3 (λ b. record { pc = (at3 b).pc ∙ ap (address b) e1; holds = (at3 b).holds }))));
    })))

-- ---- texts

-- a text that waits is stored
text_kept_piece : {e : Environment} {block : Names} {types : Types} (bl : Block e block types) {links : Links} {code : List Instr} {i : ℕ} {v : Services} {h t : ℕ → ℕ} {s : State} {aims : Aims (Option (List FormatItem))} (closed : Closed code aims) (f : Family) (around : Around) (r : Y.Reference) (takes : TakesText bl links code r) (field : List ℕ) (n : Values) (fixed text : Bool) (all left : List FormatItem) (below : List EditPlace) (k : ℕ) → Suits fixed text left → v.edits ≡ getting all left ∷ below → Linked links code i (top_stored e bl.taken r) → Serving k s v around.line → AllHold bl.frames bl.serials (storage v) (e.level ∷ bl.depths) s block types n → ((b : Base) → At b i (Known (bl.ground n) (pushed (TextEntry field) v) h t nothing b) (f b)) → ItemBehind bl k around.line h t (i + size_of (top_stored e bl.taken r)) fixed text all below aims → Comes code i f (pushed (TextEntry field) v) (converting code aims k around r left) (give (BasicText field) k s)
unfolding give
text_kept_piece bl {v = v} closed f around r takes field n fixed text all left below k suits edits l serving hold at goal =
    record {
      to = λ early.
          takes.does (before_closed k (rest_given left) closed) f around field n k l serving hold at
          (λ s1 n1 h1 t1 f1 serving1 hold1 stays1 at1. record
          { to = λ early. goal s1 v left n1 h1 t1 f1 serving1 hold1 suits edits stays1 at1 });
    }

-- a field is read into it
text_target : {e : Environment} {block : Names} {types : Types} (bl : Block e block types) {links : Links} {code : List Instr} {i : ℕ} {v : Services} {h t : ℕ → ℕ} {s : State} {aims : Aims (Option (List FormatItem))} (closed : Closed code aims) (routines : Routines links code) (f : Family) (around : Around) (r : Y.Reference) (takes : TakesText bl links code r) (varying : Bool) (most : ℕ) (fs : T.Formats) (d : DataItem) (n : Values) (all left : List FormatItem) (below : List EditPlace) (k : ℕ) → P.target_type around r ≡ Some (text_leaf varying most) → Suits (has_fixed fs) (has_text fs) (DataFormat d ∷ left) → Gets v.edits (DataFormat d) all left below → has_character v.input.marks ≡ true → Linked links code i (text_got fs ++ top_stored e bl.taken r) → Serving k s v around.line → AllHold bl.frames bl.serials (storage v) (e.level ∷ bl.depths) s block types n → ((b : Base) → At b i (Known (bl.ground n) v h t (valued (E.data_number d)) b) (f b)) → ItemBehind bl k around.line h t (i + size_of (text_got fs ++ top_stored e bl.taken r)) (has_fixed fs) (has_text fs) all below aims → Comes code i f v aims (got_and_stored around r left d k s)
text_target {e} {block} {types} bl {links} {code} {i} {v} {h} {t} {s} {aims} closed routines f around r takes varying most fs d n all left below k target suits found has l serving hold at goal =
    let got = by_kinds (has_fixed fs) (has_text fs) number_as_text (service 37) in
    let last = top_stored e bl.taken r in
    let size = size_append got last in
    let place : i + size_of got + size_of last ≡ i + size_of (got ++ last) = omega (arith, size) in
    field_as_text (all_kept bl.frames bl.serials (e.level ∷ bl.depths) block types n) closed routines f around r varying most (has_fixed fs) (has_text fs) d all left below k target suits.0.0 suits.1.0 found has (front_of got last l) (record { serving = serving; holds = hold }) at
    (λ text s1 v1 f1 o at1.
    let K : Services → Type 0 = λ w. ((b : Base) → At b (i + size_of got) (Known (bl.ground n) w h t nothing b) (f1 b)) → Comes code (i + size_of got) f1 w (converting code aims k around r left) (give (BasicText text) k s1) in
    let stores : K (pushed (TextEntry text) o.0) = λ at2.
    text_kept_piece bl closed f1 around r takes text n (has_fixed fs) (has_text fs) all left below k (suits.0.1, suits.1.1) o.1.1.1 (back_of got last l) o.1.1.0.serving o.1.1.0.holds at2
    (λ s2 v2 rest2 n2 h2 t2 f2 serving2 hold2 suits2 edits2 stays2 at3.
    subst (λ u. aims.done u f2 v2 (Some rest2) s2) (sym place)
    (goal s2 v2 rest2 n2 h2 t2 f2 serving2 hold2 suits2 edits2 stays2 (λ b. record { pc = (at3 b).pc ∙ ap (address b) place; holds = (at3 b).holds }))) in
    subst K (sym o.1.0) stores at1)

-- ---- behind the test of the end

-- a field is read into what a reference designates
pub record Reads {e : Environment} {block : Names} {types : Types} (bl : Block e block types) (links : Links) (code : List Instr) (around : Around) (r : Y.Reference) (type : Y.LeafType) (fs : T.Formats) : Type 1 where
  pub does : {i : ℕ} {v : Services} {h t : ℕ → ℕ} {s : State} {aims : Aims (Option (List FormatItem))} (closed : Closed code aims) (f : Family) (d : DataItem) (n : Values) (all left : List FormatItem) (below : List EditPlace) (k : ℕ) → Suits (has_fixed fs) (has_text fs) (DataFormat d ∷ left) → Gets v.edits (DataFormat d) all left below → has_character v.input.marks ≡ true → Linked links code i (field_stored e bl.taken fs r type) → Serving k s v around.line → AllHold bl.frames bl.serials (storage v) (e.level ∷ bl.depths) s block types n → ((b : Base) → At b i (Known (bl.ground n) v h t (valued (E.data_number d)) b) (f b)) → ItemBehind bl k around.line h t (i + size_of (field_stored e bl.taken fs r type)) (has_fixed fs) (has_text fs) all below aims → Comes code i f v aims (got_and_stored around r left d k s)

number_reads : {e : Environment} {block : Names} {types : Types} (bl : Block e block types) {links : Links}
    {code : List Instr} (routines : Routines links code) (around : Around) (r : Y.Reference) (p : ℕ) (fs : T.Formats)
    → Takes bl links code r (Y.FixedLeaf p) → P.target_type around r ≡ Some (Y.FixedLeaf p)
    → bl.taken.words + 1 ≤ bl.words + spare bl.taken → Reads bl links code around r (Y.FixedLeaf p) fs
number_reads {e} {block} {types} bl routines around r p fs takes target room =
    record {
      does = λ {i} {v} {h} {t} {s} {aims} closed f d n all left below k suits found has l serving hold at goal.
          let got = by_kinds (has_fixed fs) (has_text fs) fixed_as_number text_as_number in
          let store = fitted_code bl.taken p ++ word_stored e bl.taken r in
          let size = size_append got store in
          let place : i + size_of got + size_of store ≡ i + size_of (got ++ store) = omega (arith, size) in
          number_got (all_kept bl.frames bl.serials (e.level ∷ bl.depths) block types n) closed routines f around r (has_fixed fs) (has_text fs) p d all left below k target suits.0.0 suits.1.0 found has (front_of got store l) (record { serving = serving; holds = hold }) at
          (λ z s1 v1 f1 o at1.
          number_stored bl closed routines f1 around r p takes z n (has_fixed fs) (has_text fs) all left below k o.0 room (suits.0.1, suits.1.1) o.1.1 (back_of got store l) o.1.0.serving o.1.0.holds at1
          (λ s2 v2 rest2 n2 h2 t2 f2 serving2 hold2 suits2 edits2 stays2 at2.
          subst (λ u. aims.done u f2 v2 (Some rest2) s2) (sym place)
          (goal s2 v2 rest2 n2 h2 t2 f2 serving2 hold2 suits2 edits2 stays2 (λ b. record { pc = (at2 b).pc ∙ ap (address b) place; holds = (at2 b).holds }))));
    }

-- a bit, by an item that shows text
bit_target : {e : Environment} {block : Names} {types : Types} (bl : Block e block types) {links : Links} {code : List Instr} {i : ℕ} {v : Services} {h t : ℕ → ℕ} {s : State} {aims : Aims (Option (List FormatItem))} (closed : Closed code aims) (routines : Routines links code) (f : Family) (around : Around) (r : Y.Reference) (takes : Takes bl links code r Y.BitLeaf) (fs : T.Formats) (d : DataItem) (n : Values) (all left : List FormatItem) (below : List EditPlace) (k : ℕ) → P.target_type around r ≡ Some Y.BitLeaf → has_fixed fs ≡ false → Suits (has_fixed fs) (has_text fs) (DataFormat d ∷ left) → Gets v.edits (DataFormat d) all left below → has_character v.input.marks ≡ true → Linked links code i (field_stored e bl.taken fs r Y.BitLeaf) → Serving k s v around.line → AllHold bl.frames bl.serials (storage v) (e.level ∷ bl.depths) s block types n → ((b : Base) → At b i (Known (bl.ground n) v h t (valued (E.data_number d)) b) (f b)) → ItemBehind bl k around.line h t (i + size_of (field_stored e bl.taken fs r Y.BitLeaf)) (has_fixed fs) (has_text fs) all below aims → Comes code i f v aims (got_and_stored around r left d k s)
bit_target {e} {block} {types} bl {i = i} {v = v} {aims = aims} closed routines f around r takes fs (TextItem (Some width)) n all left below k target read suits found has l serving hold at goal =
    let last = word_stored e bl.taken r in
    let place : i + 2 + 6 + size_of last ≡ i + size_of (bit_got ++ last) = omega arith in
    text_taken (all_kept bl.frames bl.serials (e.level ∷ bl.depths) block types n) closed f around r Y.BitLeaf width all left below k target found has (front_of (service 37) (small a0 1 ∷ (tested_service 26 ++ last)) l) (record { serving = serving; holds = hold }) (λ b. record { pc = (at b).pc; holds = record { body = (at b).holds.body; regs = tt } })
    (λ f1 under1 at1.
    bit_stored bl closed routines f1 around r takes (field_of width v.input) n (has_fixed fs) (has_text fs) all left below k (suits.0.1, suits.1.1) refl (back_of (service 37) (small a0 1 ∷ (tested_service 26 ++ last)) l) under1.serving under1.holds at1
    (λ s2 v2 rest2 n2 h2 t2 f2 serving2 hold2 suits2 edits2 stays2 at2.
    subst (λ u. aims.done u f2 v2 (Some rest2) s2) (sym place)
    (goal s2 v2 rest2 n2 h2 t2 f2 serving2 hold2 suits2 edits2 stays2 (λ b. record { pc = (at2 b).pc ∙ ap (address b) place; holds = (at2 b).holds }))))
bit_target bl closed routines f around r takes fs (TextItem None) n all left below k target read suits found has l serving hold at goal = absurd suits.1.0
bit_target bl closed routines f around r takes fs (FixedItem width) n all left below k target read suits found has l serving hold at goal =
    true_false (has_fixed fs) suits.0.0 read

bit_reads : {e : Environment} {block : Names} {types : Types} (bl : Block e block types) {links : Links} {code : List Instr} (routines : Routines links code) (around : Around) (r : Y.Reference) (fs : T.Formats) → Takes bl links code r Y.BitLeaf → P.target_type around r ≡ Some Y.BitLeaf → has_fixed fs ≡ false → Reads bl links code around r Y.BitLeaf fs
bit_reads bl routines around r fs takes target read =
    record { does = λ closed f d n all left below k suits found has l serving hold at goal. bit_target bl closed routines f around r takes fs d n all left below k target read suits found has l serving hold at goal }

text_reads : {e : Environment} {block : Names} {types : Types} (bl : Block e block types) {links : Links} {code : List Instr} (routines : Routines links code) (around : Around) (r : Y.Reference) (takes : TakesText bl links code r) (varying : Bool) (most : ℕ) (fs : T.Formats) → P.target_type around r ≡ Some (text_leaf varying most) → Reads bl links code around r (text_leaf varying most) fs
text_reads bl routines around r takes false most fs target =
    record { does = λ closed f d n all left below k suits found has l serving hold at goal. text_target bl closed routines f around r takes false most fs d n all left below k target suits found has l serving hold at goal }
text_reads bl routines around r takes true most fs target =
    record { does = λ closed f d n all left below k suits found has l serving hold at goal. text_target bl closed routines f around r takes true most fs d n all left below k target suits found has l serving hold at goal }

-- a variable
own_reads : {e : Environment} {block : Names} {types : Types} (bl : Block e block types) {links : Links}
    {code : List Instr} (routines : Routines links code) (around : Around) (same : around.program ≡ e.program) (j : ℕ)
    (type : Y.LeafType) (fs : T.Formats) → slice_get types j ≡ Some (alone type) → IsReadBy (has_fixed fs) type
    → bl.taken.words + 1 ≤ bl.words + spare bl.taken → Reads bl links code around (whole (own block j)) type fs
own_reads {e} {block} bl {links} {code} routines around same j (Y.FixedLeaf p) fs below read room =
    number_reads bl routines around (whole (own block j)) p fs (scalar_takes bl links code j below tt room) (target_is e around block j (Y.FixedLeaf p) same (bl.declared j below)) room
own_reads {e} {block} bl {links} {code} routines around same j Y.BitLeaf fs below read room =
    bit_reads bl routines around (whole (own block j)) fs (scalar_takes bl links code j below tt room) (target_is e around block j Y.BitLeaf same (bl.declared j below)) read
own_reads {e} {block} bl {links} {code} routines around same j (Y.CharacterLeaf (Y.ConstantExtent (pos most))) fs below read room =
    text_reads bl routines around (whole (own block j)) (variable_takes bl links code j false most below) false most fs (target_is e around block j (text_leaf false most) same (bl.declared j below))
own_reads {e} {block} bl {links} {code} routines around same j (Y.VaryingLeaf (Y.ConstantExtent (pos most))) fs below read room =
    text_reads bl routines around (whole (own block j)) (variable_takes bl links code j true most below) true most fs (target_is e around block j (text_leaf true most) same (bl.declared j below))
own_reads bl routines around same j _ fs below read room = absurd read

-- an element
element_reads : {e : Environment} {block : Names} {types : Types} (bl : Block e block types) {links : Links}
    {code : List Instr} (routines : Standing bl links code) (around : Around) (same : around.program ≡ e.program)
    (j : ℕ) (type : Y.LeafType) (b : Bounds) (bs : List Bounds) (first : Y.Number) (rest : Y.Numbers) (fs : T.Formats)
    → slice_get types j ≡ Some (record { type = type; bounds = b ∷ bs }) → given_in rest ≡ length bs
    → AreProvedNumbers block types (Y.NumberThen first rest) → IsReadBy (has_fixed fs) type
    → bl.taken.words + suc (subscripts_words (Y.NumberThen first rest)) ≤ bl.words + spare bl.taken
    → Reads bl links code around (element block j first rest) type fs
element_reads {e} {block} bl {links} {code} routines around same j (Y.FixedLeaf p) b bs first rest fs below many are read room =
    number_reads bl routines.raises around (element block j first rest) p fs (element_takes bl links code routines j b bs first rest (below, tt) many are room) (element_target e around block j (Y.FixedLeaf p) (b ∷ bs) first rest same (bl.arrays j (Y.FixedLeaf p) b bs (below, tt)).declared) (omega (arith, room))
element_reads {e} {block} bl {links} {code} routines around same j Y.BitLeaf b bs first rest fs below many are read room =
    bit_reads bl routines.raises around (element block j first rest) fs (element_takes bl links code routines j b bs first rest (below, tt) many are room) (element_target e around block j Y.BitLeaf (b ∷ bs) first rest same (bl.arrays j Y.BitLeaf b bs (below, tt)).declared) read
element_reads {e} {block} bl {links} {code} routines around same j (Y.CharacterLeaf (Y.ConstantExtent (pos most))) b bs first rest fs below many are read room =
    text_reads bl routines.raises around (element block j first rest) (text_element_takes bl links code routines j false most b bs first rest below many are (omega (arith, room))) false most fs (element_target e around block j (text_leaf false most) (b ∷ bs) first rest same (bl.text_arrays j false most b bs below).declared)
element_reads {e} {block} bl {links} {code} routines around same j (Y.VaryingLeaf (Y.ConstantExtent (pos most))) b bs first rest fs below many are read room =
    text_reads bl routines.raises around (element block j first rest) (text_element_takes bl links code routines j true most b bs first rest below many are (omega (arith, room))) true most fs (element_target e around block j (text_leaf true most) (b ∷ bs) first rest same (bl.text_arrays j true most b bs below).declared)
element_reads bl routines around same j _ b bs first rest fs below many are read room = absurd read

-- what a reference takes is enough for its subscripts
subscripts_few : (block : Names) (j : ℕ) (first : Y.Number) (rest : Y.Numbers) (r : Y.Reference) (taken words : ℕ) → r ≡ element block j first rest → taken + suc (reference_words r) ≤ words → taken + suc (subscripts_words (Y.NumberThen first rest)) ≤ words
subscripts_few block j first rest r taken words e room =
    let most = le-max_right 0 (0 + subscripts_words (Y.NumberThen first rest)) in
    let same = ap reference_words e in
    omega (arith, room, most, same)

-- an array whose elements may be read
read_declared : {e : Environment} {block : Names} {types : Types} (bl : Block e block types) (fixed : Bool) (j : ℕ) (type : Y.LeafType) (b : Bounds) (bs : List Bounds) → IsReadBy fixed type → slice_get types j ≡ Some (record { type = type; bounds = b ∷ bs }) → IsDeclaredArray e block j type (b ∷ bs)
read_declared bl fixed j (Y.FixedLeaf p) b bs read below = (bl.arrays j (Y.FixedLeaf p) b bs (below, tt)).declared
read_declared bl fixed j Y.BitLeaf b bs read below = (bl.arrays j Y.BitLeaf b bs (below, tt)).declared
read_declared bl fixed j (Y.CharacterLeaf (Y.ConstantExtent (pos most))) b bs read below = (bl.text_arrays j false most b bs below).declared
read_declared bl fixed j (Y.VaryingLeaf (Y.ConstantExtent (pos most))) b bs read below = (bl.text_arrays j true most b bs below).declared
read_declared bl fixed j _ b bs read below = absurd read

-- its type in the code
block_type : {e : Environment} {block : Names} {types : Types} (bl : Block e block types) (fixed : Bool) (r : Y.Reference) (is : IsTarget block types fixed r) → type_in e r ≡ is.type
block_type {e} {block} {types} bl fixed r is = by_part is.part
  where
    by_part : IsPart block types is.type r → type_in e r ≡ is.type
    by_part (inl o) = ap (type_in e) o.is ∙ own_type e block o.index is.type (bl.declared o.index o.declared)
    by_part (inr o) =
        ap (type_in e) o.is ∙ element_type e block o.index is.type (o.bound ∷ o.bounds) o.first o.rest (read_declared bl fixed o.index is.type o.bound o.bounds is.read o.declared)

part_reads : {e : Environment} {block : Names} {types : Types} (bl : Block e block types) {links : Links}
    {code : List Instr} (routines : Standing bl links code) (around : Around) (same : around.program ≡ e.program)
    (r : Y.Reference) (fs : T.Formats) (is : IsTarget block types (has_fixed fs) r)
    → bl.taken.words + suc (reference_words r) ≤ bl.words + spare bl.taken → Reads bl links code around r is.type fs
part_reads {block = block} {types} bl {links} {code} routines around same r fs is room = by_part is.part
  where
    by_part : IsPart block types is.type r → Reads bl links code around r is.type fs
    by_part (inl o) =
        subst (λ q. Reads bl links code around q is.type fs) (sym o.is) (own_reads bl routines.raises around same o.index is.type fs o.declared is.read (omega (arith, room)))
    by_part (inr o) =
        let are = subst (AreSubscripts block types) o.is is.subscripts in
        subst (λ q. Reads bl links code around q is.type fs) (sym o.is)
        (element_reads bl routines around same o.index is.type o.bound o.bounds o.first o.rest fs o.declared o.many are
        is.read (subscripts_few block o.index o.first o.rest r bl.taken.words (bl.words + spare bl.taken) o.is room))

-- ---- the whole item

reference_piece : {e : Environment} {block : Names} {types : Types} (bl : Block e block types) {links : Links} {code : List Instr} {i : ℕ} {v : Services} {h t : ℕ → ℕ} {s : State} {aims : Aims (Option (List FormatItem))} (closed : Closed code aims) (routines : Routines links code) (f : Family) (around : Around) (r : Y.Reference) (type : Y.LeafType) (fs : T.Formats) (reads : Reads bl links code around r type fs) (n : Values) (rest : List FormatItem) (below : List EditPlace) (behind k : ℕ) (can : Raises bl links code around Conditions.Endfile endfile_code) (exit start acts : ℕ) → i + size_of (awaited_before (field_stored e bl.taken fs r type) behind) + behind ≡ exit → exit + 2 ≤ length code → Enough bl links k around.turns start h t acts aims.jumped aims.returned → acts < v.world.acts → AreProvedFormats fs → HasData fs → HaveWidths fs → Suits (has_fixed fs) (has_text fs) rest → v.edits ≡ getting (format_items fs) rest ∷ below → Linked links code i (awaited_before (field_stored e bl.taken fs r type) behind) → Serving k s v around.line → AllHold bl.frames bl.serials (storage v) (e.level ∷ bl.depths) s block types n → ((b : Base) → At b i (Known (bl.ground n) v h t nothing b) (f b)) → ItemBehind bl k around.line h t (i + size_of (awaited_before (field_stored e bl.taken fs r type) behind)) (has_fixed fs) (has_text fs) (format_items fs) below aims → AtExit bl k (length below) h t exit None aims → Comes code i f v aims (P.item_got around (format_items fs) rest (Y.GetScalar r) k s)
unfolding P.item_got P.scalar_if_got ◌>>=◌ give
reference_piece {e} {block} {types} bl {links} {code} {i} {v} {h} {t} {s} {aims} closed routines f around r type fs reads n rest below behind k can exit start acts place_is inside more later are has wide suits edits l serving hold at goal ended =
    let all = format_items fs in
    let c = field_stored e bl.taken fs r type in
    let b0 = size_of c + behind in
    let wait = field_awaited b0 in
    let size = size_append wait c in
    let place : i + 5 + 8 + size_of c ≡ i + size_of (wait ++ c) = omega (arith, size) in
    let here : i + 13 ≡ i + 5 + 8 = omega arith in
    let l1 = front_of wait c l in
    let l2 = subst (λ u. Linked links code u c) here (back_of wait c l) in
    let next1 : Option Field → List FormatItem → Meaning (Option (List FormatItem)) = λ u left. P.scalar_if_got around r left u in
    let nextn : DataItem × List FormatItem → Meaning (Option (List FormatItem)) = λ next. (P.field_got around next.0) >>= (λ u. next1 u next.1) in
    comes_on k (P.next_item P.control_got all rest k s) nextn
    (comes_since (P.next_item P.control_got all rest k s)
    (next_piece (all_kept bl.frames bl.serials (e.level ∷ bl.depths) block types n) (since_closed v.world.acts (before_closed k nextn closed)) (has_fixed fs) (has_text fs) f all rest below k (items_data fs are has) (formats_suited fs wide) suits edits (front_of controls_carried_out (endfile_tested b0) l1) (record { serving = serving; holds = hold }) at
    (λ s1 v1 f1 d left under1 found1 suits1 at1 grown.
    awaited_piece {flow = ((P.field_got around d) >>= (λ u. next1 u left)) k s1} closed f1 d b0 (back_of controls_carried_out (endfile_tested b0) l1) at1
    (λ some f2 at2.
    reads.does closed f2 d n all left below k suits1 found1 some l2 under1.serving under1.holds at2
    (λ s3 v3 rest3 n3 h3 t3 f3 serving3 hold3 suits3 edits3 stays3 at3.
    subst (λ u. aims.done u f3 v3 (Some rest3) s3) (sym place)
    (goal s3 v3 rest3 n3 h3 t3 f3 serving3 hold3 suits3 edits3 stays3 (λ b. record { pc = (at3 b).pc ∙ ap (address b) place; holds = (at3 b).holds }))))
    (λ none f2 l3 at2.
    let none' : has_character s1.input.marks ≡ false = ap (λ (u : Input). has_character u.marks) (sym under1.serving.input) ∙ none in
    subst (Comes code (i + 5 + 1 + 1) f2 v1 aims) (sym (ended_got (λ u. next1 u left) around d k s1 suits1.1.0 none'))
    (end_raised bl closed routines around can (give None) n f2 b0 exit k start acts (omega (arith, size, place_is)) inside l3 under1.serving under1.holds at2 more (omega (arith, later, grown))
    (λ s3 v3 line3 n3 h3 f3 serving3 hold3 as3 stays3 at3.
    record {
      to = λ early. ended s3 v3 line3 n3 h3 t f3 serving3 hold3
          (as3 ∙ next_length v1 _ v1.edits below found1) stays3 at3;
    }))))))

pub item_piece : {e : Environment} {block : Names} {types : Types} (bl : Block e block types) {links : Links}
    {code : List Instr} (item : Y.GetItem) {i : ℕ} {v : Services} {h t : ℕ → ℕ} {s : State}
    {aims : Aims (Option (List FormatItem))} (closed : Closed code aims) (routines : Standing bl links code)
    (f : Family) (around : Around) (same : around.program ≡ e.program) (fs : T.Formats) (n : Values)
    (rest : List FormatItem) (below : List EditPlace) (behind k : ℕ)
    (can : Raises bl links code around Conditions.Endfile endfile_code) (exit start acts : ℕ)
    → i + size_of (C.item_got e bl.taken fs item behind) + behind ≡ exit → exit + 2 ≤ length code
    → Enough bl links k around.turns start h t acts aims.jumped aims.returned → acts < v.world.acts
    → IsProvedGetItem block types (has_fixed fs) item
    → bl.taken.words + get_item_words item ≤ bl.words + spare bl.taken → AreProvedFormats fs → HasData fs
    → HaveWidths fs → Suits (has_fixed fs) (has_text fs) rest → v.edits ≡ getting (format_items fs) rest ∷ below
    → Linked links code i (C.item_got e bl.taken fs item behind) → Serving k s v around.line
    → AllHold bl.frames bl.serials (storage v) (e.level ∷ bl.depths) s block types n
    → ((b : Base) → At b i (Known (bl.ground n) v h t nothing b) (f b))
    → ItemBehind bl k around.line h t (i + size_of (C.item_got e bl.taken fs item behind)) (has_fixed fs) (has_text fs)
    (format_items fs) below aims → AtExit bl k (length below) h t exit None aims
    → Comes code i f v aims (P.item_got around (format_items fs) rest item k s)
item_piece {e} {block} {types} bl {links} {code} (Y.GetScalar r) {i} {v} {h} {t} {s} {aims} closed routines f around same fs n rest below behind k can exit start acts place_is inside more later is room are has wide suits edits l serving hold at goal ended =
    let code_is : C.item_got e bl.taken fs (Y.GetScalar r) behind ≡ awaited_before (field_stored e bl.taken fs r is.type) behind =
    ap (λ u. awaited_before (field_stored e bl.taken fs r u) behind) (block_type bl (has_fixed fs) r is) in
    reference_piece bl closed routines.raises f around r is.type fs (part_reads bl routines around same r fs is room) n rest below behind k can exit start acts (subst (λ c. i + size_of c + behind ≡ exit) code_is place_is) inside more later are has wide suits edits (subst (Linked links code i) code_is l) serving hold at
    (subst (λ c. ItemBehind bl k around.line h t (i + size_of c) (has_fixed fs) (has_text fs) (format_items fs) below aims) code_is goal)
    ended
item_piece bl (Y.GetAggregate r) closed routines f around same fs n rest below behind k can exit start acts place_is inside more later is room are has wide suits edits l serving hold at goal ended = absurd is
