-- A field of GET is taken for a text, by F or by A: what comes behind it is the text on the stack of texts, and its store.
use Rattle.std.proofs.Common.{◌≡◌, ℕ, ◌+◌, List, [], ◌∷◌, ◌++◌, Option, Some, None, Bool, true, false, refl, sym, ap, ◌∙◌, subst, arith}
use Rattle.std.specs.Prelude.{ℤ}
use Rattle.rv_meaning.specs.declared.instr.Instr.{Instr}
use Rattle.rv_meaning.specs.Words.{word}
use Rattle.pli_typing.specs.TypedTree as Y
use Rattle.pli_meaning.specs.BasicValues.{BasicValue, BasicText}
use Rattle.pli_meaning.specs.Numbers.{operator_precision}
use Rattle.pli_meaning.specs.Texts.{number_text}
use Rattle.pli_meaning.specs.InputLines.{has_character, field_of, behind_field}
use Rattle.pli_meaning.specs.DeclaredShapes.{kind_of}
use Rattle.pli_meaning.specs.StorageState.{State}
use Rattle.pli_meaning.specs.Control.{give}
use Rattle.pli_meaning.specs.Raising.{Around}
use Rattle.pli_meaning.specs.Streaming as P
use Rattle.pli_meaning.specs.Streaming.{FormatItem, DataFormat, DataItem, FixedItem, TextItem, NumberField, TextField}
use Rattle.pli_serving.specs.ServiceState.{Services, EditPlace, TextEntry}
use Rattle.pli_serving.specs.Outcomes.{pushed}
use Rattle.pli_serving.specs.Edits as E
use Rattle.pli_coding.specs.Assembly.{Code, size_of}
use Rattle.pli_coding.specs.Instructions.{service}
use Rattle.pli_coding.specs.Streams.{as_text}
use Rattle.pli_coding.specs.Linking.{Links}
use Rattle.pli_headline.specs.ProvedSoFar.{text_leaf}
use Rattle.pli_headline.proofs.Storages.{Storage}
use Rattle.run_steps.specs.Engine.{Base, address}
use Rattle.run_steps.specs.Items.{Linked, At}
use Rattle.run_steps.specs.Bodies.{Ground, Known}
use Rattle.run_steps.proofs.Jumps.{front_of, back_of}
use Rattle.run_steps.specs.Temporaries.{nothing}
use Rattle.pli_headline.proofs.Raising.{Routines}
use Rattle.pli_headline.proofs.Operators.{valued}
use Rattle.pli_headline.proofs.FormatData.{IsOf}
use Rattle.pli_headline.proofs.EditTexts.{number_text_is, word_as_text}
use Rattle.pli_headline.proofs.EditChoices.{by_kinds}
use Rattle.pli_headline.proofs.GetItems.{getting, Gets, read_state, taken_by}
use Rattle.pli_headline.proofs.GetControls.{Kept, Reading}
use Rattle.pli_headline.proofs.GetWidths.{IsWide}
use Rattle.pli_headline.proofs.GetNumbers.{converting, converting_closed, got_and_stored, GotBehind, chosen_piece, fixed_as_number, fixed_taken, text_taken}
use Rattle.run_steps.specs.Reach.{Family, Aims, Comes, Closed}

-- ---- what a field becomes

text_converted : (varying : Bool) (around : Around) (most : ℕ) (field : List ℕ) (k : ℕ) (s : State) → P.field_converted around (kind_of [] (text_leaf varying most)) (TextField field) k s ≡ give (BasicText field) k s
unfolding P.field_converted
text_converted false around most field k s = refl
text_converted true around most field k s = refl

number_converted : (varying : Bool) (around : Around) (most : ℕ) (z : ℤ) (k : ℕ) (s : State) → P.field_converted around (kind_of [] (text_leaf varying most)) (NumberField z) k s ≡ give (BasicText (number_text operator_precision z)) k s
unfolding P.field_converted
number_converted false around most z k s = refl
number_converted true around most z k s = refl

-- ---- a text

-- what holds of it: it waits above what waited behind the field
abbrev pub GotText : (Q : Storage → State → Type 0) → (k line : ℕ) → (whole left : List FormatItem) → (below : List EditPlace) → List ℕ → State → Services → Type 0
GotText Q k line whole left below text s v =
    (under : Services) × ((v ≡ pushed (TextEntry text) under) × (Reading Q k line s under × (under.edits ≡ getting whole left ∷ below)))

abbrev pub TextBehind : List Instr → Ground → (h t : ℕ → ℕ) → (Q : Storage → State → Type 0) → Around → (k i : ℕ) → (whole left : List FormatItem) → (below : List EditPlace) → Aims BasicValue → Type 0
TextBehind code g h t Q around k i whole left below aims =
    GotBehind code g h t (λ (u : List ℕ). nothing) (GotText Q k around.line whole left below) k i aims (λ u. give (BasicText u))

abbrev pub number_as_text : Code
number_as_text = fixed_as_number ++ as_text operator_precision

-- by F
fixed_got : {links : Links} {code : List Instr} {i : ℕ} {g : Ground} {v : Services} {h t : ℕ → ℕ} {s : State} {Q : Storage → State → Type 0} {aims : Aims (Option (List FormatItem))} (kept : Kept Q) (closed : Closed code aims) (routines : Routines links code) (f : Family) (around : Around) (r : Y.Reference) (varying : Bool) (most width : ℕ) (whole left : List FormatItem) (below : List EditPlace) (k : ℕ) → P.target_type around r ≡ Some (text_leaf varying most) → Gets v.edits (DataFormat (FixedItem width)) whole left below → has_character v.input.marks ≡ true → Linked links code i number_as_text → Reading Q k around.line s v → ((b : Base) → At b i (Known g v h t nothing b) (f b)) → TextBehind code g h t Q around k (i + 8) whole left below (converting code aims k around r left) → Comes code i f v aims (got_and_stored around r left (FixedItem width) k s)
fixed_got {code = code} {i = i} {v = v} {s = s} {aims = aims} kept closed routines f around r varying most width whole left below k type found has l under at goal =
    let e : i + 5 + 3 ≡ i + 8 = omega arith in
    let s' = read_state (behind_field width) s in
    let v' = taken_by width (getting whole left ∷ below) v in
    let last = as_text operator_precision in
    fixed_taken kept closed routines f around r (text_leaf varying most) width whole left below k type found has (front_of fixed_as_number last l) under at
    (λ z f1 wide under1 at1.
    let text = number_text operator_precision z in
    subst (Comes code (i + 5) f1 v' (converting code aims k around r left)) (sym (number_converted varying around most z k s'))
    (word_as_text (converting_closed k around r left closed) f1 (word z) operator_precision text (omega arith) (number_text_is operator_precision z (omega arith) wide) (back_of fixed_as_number last l) at1
    (λ f2 at2.
    subst (λ u. Comes code u f2 (pushed (TextEntry text) v') (converting code aims k around r left) (give (BasicText text) k s')) (sym e)
    (goal text s' (pushed (TextEntry text) v') f2 (v', (refl, (under1, refl))) (λ b. record { pc = (at2 b).pc ∙ ap (address b) e; holds = (at2 b).holds })))))

-- by A
text_got : {links : Links} {code : List Instr} {i : ℕ} {g : Ground} {v : Services} {h t : ℕ → ℕ} {s : State} {Q : Storage → State → Type 0} {aims : Aims (Option (List FormatItem))} (kept : Kept Q) (closed : Closed code aims) (f : Family) (around : Around) (r : Y.Reference) (varying : Bool) (most width : ℕ) (whole left : List FormatItem) (below : List EditPlace) (k : ℕ) → P.target_type around r ≡ Some (text_leaf varying most) → Gets v.edits (DataFormat (TextItem (Some width))) whole left below → has_character v.input.marks ≡ true → Linked links code i (service 37) → Reading Q k around.line s v → ((b : Base) → At b i (Known g v h t nothing b) (f b)) → TextBehind code g h t Q around k (i + 2) whole left below (converting code aims k around r left) → Comes code i f v aims (got_and_stored around r left (TextItem (Some width)) k s)
text_got {code = code} {i = i} {v = v} {s = s} {aims = aims} kept closed f around r varying most width whole left below k type found has l under at goal =
    let s' = read_state (behind_field width) s in
    let v' = taken_by width (getting whole left ∷ below) v in
    let field = field_of width v.input in
    text_taken kept closed f around r (text_leaf varying most) width whole left below k type found has l under at
    (λ f1 under1 at1.
    subst (Comes code (i + 2) f1 (pushed (TextEntry field) v') (converting code aims k around r left)) (sym (text_converted varying around most field k s'))
    (goal field s' (pushed (TextEntry field) v') f1 (v', (refl, (under1, refl))) at1))

-- by either
pub field_as_text : {links : Links} {code : List Instr} {i : ℕ} {g : Ground} {v : Services} {h t : ℕ → ℕ} {s : State} {Q : Storage → State → Type 0} {aims : Aims (Option (List FormatItem))} (kept : Kept Q) (closed : Closed code aims) (routines : Routines links code) (f : Family) (around : Around) (r : Y.Reference) (varying : Bool) (most : ℕ) (fixed text : Bool) (d : DataItem) (whole left : List FormatItem) (below : List EditPlace) (k : ℕ) → P.target_type around r ≡ Some (text_leaf varying most) → IsOf fixed text d → IsWide d → Gets v.edits (DataFormat d) whole left below → has_character v.input.marks ≡ true → Linked links code i (by_kinds fixed text number_as_text (service 37)) → Reading Q k around.line s v → ((b : Base) → At b i (Known g v h t (valued (E.data_number d)) b) (f b)) → TextBehind code g h t Q around k (i + size_of (by_kinds fixed text number_as_text (service 37))) whole left below (converting code aims k around r left) → Comes code i f v aims (got_and_stored around r left d k s)
field_as_text {Q = Q} kept closed routines f around r varying most fixed text (FixedItem width) whole left below k type is wide found has l under at goal =
    chosen_piece (λ (u : List ℕ). nothing) (λ u. record { reserved_stay = λ y w. refl; known_stay = λ b y w q. q; set = λ y w. refl }) (GotText Q k around.line whole left below) (λ u. give (BasicText u)) fixed text closed (converting_closed k around r left closed) f (FixedItem width) number_as_text (service 37) k is l at
    (λ j f1 l1 at1 goal1. fixed_got kept closed routines f1 around r varying most width whole left below k type found has l1 under at1 goal1) goal
field_as_text {Q = Q} kept closed routines f around r varying most fixed text (TextItem (Some width)) whole left below k type is wide found has l under at goal =
    chosen_piece (λ (u : List ℕ). nothing) (λ u. record { reserved_stay = λ y w. refl; known_stay = λ b y w q. q; set = λ y w. refl }) (GotText Q k around.line whole left below) (λ u. give (BasicText u)) fixed text closed (converting_closed k around r left closed) f (TextItem (Some width)) number_as_text (service 37) k is l at
    (λ j f1 l1 at1 goal1. text_got kept closed f1 around r varying most width whole left below k type found has l1 under at1 goal1) goal
field_as_text kept closed routines f around r varying most fixed text (TextItem None) whole left below k type is wide found has l under at goal = absurd wide
