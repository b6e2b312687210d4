-- A field of GET is taken for a number, by F or by A: what comes behind it is the number in a0, and its store.
use Rattle.std.proofs.Common.{◌≡◌, ℕ, ◌+◌, List, [], ◌∷◌, ◌++◌, Option, Some, None, Bool, true, false, refl, sym, ap, ◌∙◌, subst, arith, lit<, add-one}
use Rattle.std.specs.Prelude.{ℤ, ◌==◌}
use Rattle.rv_meaning.specs.declared.instr.Instr.{Instr}
use Rattle.rv_meaning.specs.declared.instr.BranchTest.TheVariants as Test
use Rattle.rv_meaning.specs.Words.{word}
use Rattle.pli_typing.specs.Signatures.{Fixed}
use Rattle.pli_typing.specs.TypedTree as Y
use Rattle.pli_meaning.specs.BasicValues.{BasicValue}
use Rattle.pli_meaning.specs.Codes.{conversion_code}
use Rattle.pli_meaning.specs.Texts.{number_in_text}
use Rattle.pli_meaning.specs.InputLines.{has_character, field_of, behind_field}
use Rattle.pli_meaning.specs.DeclaredShapes.{kind_of}
use Rattle.pli_meaning.specs.StorageState.{State}
use Rattle.pli_meaning.specs.Control.{Flow, Meaning, give, given, stuck, flow_on, ◌>>=◌, ◌>>◌}
use Rattle.pli_meaning.specs.Raising as R
use Rattle.pli_meaning.specs.Raising.{Around}
use Rattle.pli_meaning.specs.Evaluating as V
use Rattle.pli_meaning.specs.Placing as Q
use Rattle.pli_meaning.specs.Executing as M
use Rattle.pli_meaning.specs.Streaming as P
use Rattle.pli_meaning.specs.Streaming.{FormatItem, DataFormat, DataItem, FixedItem, TextItem, Field, NumberField, TextField}
use Rattle.pli_serving.specs.ServiceState.{Services, EditPlace, TextEntry}
use Rattle.pli_serving.specs.Outcomes.{pushed, with_entries}
use Rattle.pli_serving.specs.Edits as E
use Rattle.pli_serving.specs.TextServices as X
use Rattle.pli_coding.specs.Registers.{a0, u1}
use Rattle.pli_coding.specs.Assembly.{Code, JumpAhead, size_of}
use Rattle.pli_coding.specs.Instructions.{small, skip_where, service, status_tested, tested_service}
use Rattle.pli_coding.specs.Linking.{Links}
use Rattle.pli_headline.proofs.HeldPlaces.{places_next}
use Rattle.pli_headline.proofs.Storages.{Storage}
use Rattle.run_steps.specs.Engine.{Base, address}
use Rattle.run_steps.proofs.Linking.{size_append}
use Rattle.run_steps.specs.Items.{Linked, At}
use Rattle.run_steps.proofs.Items.{straight}
use Rattle.run_steps.specs.Numbers as N
use Rattle.run_steps.specs.Bodies.{Ground, Known, Free}
use Rattle.run_steps.proofs.Bodies.{zero_is}
use Rattle.run_steps.proofs.Jumps.{front_of, back_of, rest_of, skip_taken, skip_passed, ahead_piece}
use Rattle.run_steps.specs.Temporaries.{nothing}
use Rattle.pli_headline.proofs.Raising.{Routines, small_is}
use Rattle.pli_headline.proofs.Operators.{valued}
use Rattle.pli_headline.proofs.FormatData.{IsOf}
use Rattle.pli_headline.proofs.EditTexts.{at_other_texts}
use Rattle.pli_headline.proofs.EditChoices.{choice_code, by_kinds, chosen_code}
use Rattle.pli_headline.proofs.TextNumbers.{number_wide, number_answer}
use Rattle.pli_headline.proofs.TextCalls.{three, tested_call}
use Rattle.pli_headline.proofs.GetItems.{getting, Gets, read_state, read_serving, field_number, number_status, taken_by, taken_answer, text_answer}
use Rattle.pli_headline.proofs.GetControls.{Kept, Reading}
use Rattle.pli_headline.proofs.GetWidths.{IsWide}
use Rattle.pli_headline.proofs.GetPieces.{field_call, number_tested}
use Rattle.run_steps.specs.Reach.{Family, Aims, Comes, Closed, before}
use Rattle.run_steps.proofs.Reach.{before_closed, comes_on, onward}

-- ---- what comes behind a field

-- the value is stored, and the rest of the format list is the result
abbrev pub stored_value : Around → Y.Reference → BasicValue → Meaning (Unit {0})
stored_value around r v = M.assigned around r v

abbrev pub rest_given : List FormatItem → Unit {0} → Meaning (Option (List FormatItem))
rest_given left u = give (Some left)

-- the aims of a conversion
abbrev pub converting : List Instr → Aims (Option (List FormatItem)) → ℕ → Around → Y.Reference → List FormatItem → Aims BasicValue
converting code aims k around r left = before code (before code aims k (rest_given left)) k (stored_value around r)

pub converting_closed : {code : List Instr} {aims : Aims (Option (List FormatItem))} (k : ℕ) (around : Around) (r : Y.Reference) (left : List FormatItem) → Closed code aims → Closed code (converting code aims k around r left)
converting_closed k around r left closed = before_closed k (stored_value around r) (before_closed k (rest_given left) closed)

-- a field and what comes behind it
abbrev pub got_and_stored : Around → Y.Reference → List FormatItem → DataItem → Meaning (Option (List FormatItem))
got_and_stored around r left d = (P.field_got around d) >>= (λ u. P.scalar_if_got around r left u)

converted_is : (around : Around) (r : Y.Reference) (left : List FormatItem) (type : Y.LeafType) (field : Field) (k : ℕ) (s : State) → P.target_type around r ≡ Some type → P.scalar_if_got around r left (Some field) k s ≡ (((P.field_converted around (kind_of [] type) field) >>= (stored_value around r)) >> (give (Some left))) k s
unfolding P.scalar_if_got P.scalar_got M.assigned given ◌>>=◌ ◌>>◌
converted_is around r left type field k s e =
    ap (λ o. flow_on k (given o (λ t. (P.field_converted around (kind_of [] t) field) >>= (λ v. (V.designated around r) >>= (λ d. Q.element_stored d v))) stuck k s) (λ q. give (Some left))) e

-- a field is converted and stored
pub field_comes : {code : List Instr} {i : ℕ} {f : Family} {v : Services} {aims : Aims (Option (List FormatItem))} (around : Around) (r : Y.Reference) (left : List FormatItem) (type : Y.LeafType) (field : Field) (k : ℕ) (s : State) → P.target_type around r ≡ Some type → Comes code i f v (converting code aims k around r left) (P.field_converted around (kind_of [] type) field k s) → Comes code i f v aims (P.scalar_if_got around r left (Some field) k s)
unfolding ◌>>=◌ ◌>>◌
field_comes {code = code} {i = i} {f = f} {v = v} {aims = aims} around r left type field k s e c =
    let value = P.field_converted around (kind_of [] type) field in
    subst (Comes code i f v aims) (sym (converted_is around r left type field k s e))
    (comes_on k ((value >>= (stored_value around r)) k s) (rest_given left) (comes_on k (value k s) (stored_value around r) c))

-- ---- by F or by A

-- a result in registers, with what holds of it, on the way to what is due
abbrev pub GotBehind : {X Y : Type 0} → List Instr → Ground → (h t : ℕ → ℕ) → (X → Base → List (ℕ × ℕ)) → (X → State → Services → Type 0) → (k i : ℕ) → Aims Y → (X → Meaning Y) → Type 0
GotBehind {X} code g h t rs P k i aims meaning =
    (x : X) (s : State) (v : Services) (f : Family) → P x s v → ((b : Base) → At b i (Known g v h t (rs x) b) (f b)) → Comes code i f v aims (meaning x k s)

abbrev oned : (x : ℕ) → Base → List (ℕ × ℕ)
oned x b = (10, x) ∷ (6, 1) ∷ []

same_one : (x y : ℕ) → x ≡ 1 → y ≡ 1 → (x == y) ≡ true
same_one x y e f = ap (λ u. u == y) e ∙ ap (λ u. 1 == u) f

two_one : (x y : ℕ) → x ≡ 2 → y ≡ 1 → (x == y) ≡ false
two_one x y e f = ap (λ u. u == y) e ∙ ap (λ u. 2 == u) f

-- the code by the item that is next, where the list has both
pub chosen_piece : {X Y Z : Type 0} {links : Links} {code : List Instr} {i : ℕ} {g : Ground} {v : Services} {h t : ℕ → ℕ} {aims : Aims Z} {flow : Flow Z} {aims' : Aims Y} (rs : X → Base → List (ℕ × ℕ)) (free : (x : X) → Free (rs x) 31) (P : X → State → Services → Type 0) (meaning : X → Meaning Y) (p q : Bool) (closed : Closed code aims) (closed' : Closed code aims') (f : Family) (d : DataItem) (fixed text : Code) (k : ℕ) → IsOf p q d → Linked links code i (by_kinds p q fixed text) → ((b : Base) → At b i (Known g v h t (valued (E.data_number d)) b) (f b)) → ((j : ℕ) (f' : Family) → Linked links code j (chosen_code d fixed text) → ((b : Base) → At b j (Known g v h t nothing b) (f' b)) → GotBehind code g h t rs P k (j + size_of (chosen_code d fixed text)) aims' meaning → Comes code j f' v aims flow) → GotBehind code g h t rs P k (i + size_of (by_kinds p q fixed text)) aims' meaning → Comes code i f v aims flow
chosen_piece {i = i} rs free P meaning true false closed closed' f (FixedItem width) fixed text k is l at next' goal =
    next' i f l (λ b. record { pc = (at b).pc; holds = record { body = (at b).holds.body; regs = tt } }) goal
chosen_piece {i = i} rs free P meaning false true closed closed' f (TextItem width) fixed text k is l at next' goal =
    next' i f l (λ b. record { pc = (at b).pc; holds = record { body = (at b).holds.body; regs = tt } }) goal
chosen_piece {code = code} {i = i} {g = g} {v = v} {h = h} {t = t} {aims' = aims'} rs free P meaning true true closed closed' f (FixedItem width) fixed text k is l at next' goal =
    let other = text ++ JumpAhead (size_of fixed) ∷ [] in
    let skip = skip_where Test.Equal a0 u1 other in
    let front = small u1 1 ∷ [] in
    let e1 = size_append skip fixed in
    let l1 = back_of front (skip ++ fixed) l in
    let r = straight i f v v (λ b. Known g v h t (oned 1) b) (front_of front (skip ++ fixed) l) (omega arith) (λ b. (at b).pc)
    (λ b. let o = (at b).holds in record {
      body = record { services = o.body.services; registers = o.body.registers; bytes = o.body.bytes; memory = o.body.memory };
      regs = (o.regs.0, (small_is _ 1 (zero_is o.body) (lit< tt), tt));
    }) in
    onward closed r (λ f1 at1.
    let j = i + 1 + (1 + size_of other) in
    let place : j + size_of fixed ≡ i + size_of (choice_code fixed text) = omega (arith, e1) in
    onward closed (skip_taken (i + 1) f1 Test.Equal a0 u1 other (front_of skip fixed l1) at1 (λ b. same_one _ _ (at1 b).holds.regs.0 (at1 b).holds.regs.1.0))
    (λ f2 at2.
    next' j f2 (back_of skip fixed l1) (λ b. record { pc = (at2 b).pc; holds = record { body = (at2 b).holds.body; regs = tt } })
    (λ x s3 v3 f3 holds3 at3.
    subst (λ u. Comes code u f3 v3 aims' (meaning x k s3)) (sym place)
    (goal x s3 v3 f3 holds3 (λ b. record { pc = (at3 b).pc ∙ ap (address b) place; holds = (at3 b).holds })))))
chosen_piece {code = code} {i = i} {g = g} {v = v} {h = h} {t = t} {aims' = aims'} rs free P meaning true true closed closed' f (TextItem width) fixed text k is l at next' goal =
    let over = JumpAhead (size_of fixed) ∷ [] in
    let other = text ++ over in
    let skip = skip_where Test.Equal a0 u1 other in
    let front = small u1 1 ∷ [] in
    let e1 = size_append skip fixed in
    let e2 = size_append text over in
    let l1 = back_of front (skip ++ fixed) l in
    let l2 = rest_of _ other (front_of skip fixed l1) in
    let r = straight i f v v (λ b. Known g v h t (oned 2) b) (front_of front (skip ++ fixed) l) (omega arith) (λ b. (at b).pc)
    (λ b. let o = (at b).holds in record {
      body = record { services = o.body.services; registers = o.body.registers; bytes = o.body.bytes; memory = o.body.memory };
      regs = (o.regs.0, (small_is _ 1 (zero_is o.body) (lit< tt), tt));
    }) in
    onward closed r (λ f1 at1.
    let j = i + 1 + 1 in
    let place : j + size_of text + (2 + size_of fixed) ≡ i + size_of (choice_code fixed text) = omega (arith, e1, e2) in
    let inside = l.inside in
    onward closed (skip_passed (i + 1) f1 Test.Equal a0 u1 other (front_of skip fixed l1) at1 (λ b. two_one _ _ (at1 b).holds.regs.0 (at1 b).holds.regs.1.0))
    (λ f2 at2.
    next' j f2 (front_of text over l2) (λ b. record { pc = (at2 b).pc; holds = record { body = (at2 b).holds.body; regs = tt } })
    (λ x s3 v3 f3 holds3 at3.
    onward closed' (ahead_piece (j + size_of text) f3 (size_of fixed) (omega (arith, inside, place)) (free x) (back_of text over l2) at3)
    (λ f4 at4.
    subst (λ u. Comes code u f4 v3 aims' (meaning x k s3)) (sym place)
    (goal x s3 v3 f4 holds3 (λ b. record { pc = (at4 b).pc ∙ ap (address b) place; holds = (at4 b).holds }))))))
chosen_piece rs free P meaning false q closed closed' f (FixedItem width) fixed text k is l at next' goal = absurd (cc is)
chosen_piece rs free P meaning p false closed closed' f (TextItem width) fixed text k is l at next' goal = absurd (cc is)

-- ---- a number

abbrev pub number_in_a0 : ℤ → Base → List (ℕ × ℕ)
number_in_a0 z = valued (word z)

-- what holds of it
abbrev pub GotNumber : (Q : Storage → State → Type 0) → (k line : ℕ) → (whole left : List FormatItem) → (below : List EditPlace) → ℤ → State → Services → Type 0
GotNumber Q k line whole left below z s v = N.IsWide z × (Reading Q k line s v × (v.edits ≡ getting whole left ∷ below))

abbrev pub NumberBehind : List Instr → Ground → (h t : ℕ → ℕ) → (Q : Storage → State → Type 0) → Around → (k i p : ℕ) → (whole left : List FormatItem) → (below : List EditPlace) → Aims BasicValue → Type 0
NumberBehind code g h t Q around k i p whole left below aims =
    GotBehind code g h t number_in_a0 (GotNumber Q k around.line whole left below) k i aims (P.number_kept around p)

abbrev pub fixed_as_number : Code
fixed_as_number = tested_service 36

abbrev pub text_as_number : Code
text_as_number = service 37 ++ (small a0 0 ∷ tested_service 26)

-- by F, whatever the number becomes
pub fixed_taken : {links : Links} {code : List Instr} {i : ℕ} {g : Ground} {v : Services} {h t : ℕ → ℕ} {s : State} {Q : Storage → State → Type 0} {aims : Aims (Option (List FormatItem))} (kept : Kept Q) (closed : Closed code aims) (routines : Routines links code) (f : Family) (around : Around) (r : Y.Reference) (type : Y.LeafType) (width : ℕ) (whole left : List FormatItem) (below : List EditPlace) (k : ℕ) → P.target_type around r ≡ Some type → Gets v.edits (DataFormat (FixedItem width)) whole left below → has_character v.input.marks ≡ true → Linked links code i fixed_as_number → Reading Q k around.line s v → ((b : Base) → At b i (Known g v h t nothing b) (f b)) → ((z : ℤ) (f' : Family) → N.IsWide z → Reading Q k around.line (read_state (behind_field width) s) (taken_by width (getting whole left ∷ below) v) → ((b : Base) → At b (i + 5) (Known g (taken_by width (getting whole left ∷ below) v) h t (number_in_a0 z) b) (f' b)) → Comes code (i + 5) f' (taken_by width (getting whole left ∷ below) v) (converting code aims k around r left) (P.field_converted around (kind_of [] type) (NumberField z) k (read_state (behind_field width) s))) → Comes code i f v aims (got_and_stored around r left (FixedItem width) k s)
unfolding P.field_got P.number_got ◌>>=◌ give
fixed_taken {code = code} {i = i} {g = g} {v = v} {h = h} {t = t} {s = s} {aims = aims} kept closed routines f around r type width whole left below k is_type found has l under at behind =
    let next1 : Option Field → Meaning (Option (List FormatItem)) = λ u. P.scalar_if_got around r left u in
    let next2 : Option (List ℕ) → Meaning (Option Field) = λ u. P.number_got around u in
    let next3 : ℤ → Meaning (Option Field) = λ z. give (Some (NumberField z)) in
    let closed1 = before_closed k next1 closed in
    let x : Base → ℕ = λ b. (f b).machine.registers 10 in
    let y : Base → ℕ = λ b. (f b).machine.registers 11 in
    let text = field_of width v.input in
    let o = number_in_text text in
    let change = behind_field width in
    let places = getting whole left ∷ below in
    let v' = taken_by width places v in
    let s' = read_state change s in
    let e : i + 2 + 3 ≡ i + 5 = omega arith in
    comes_on k (P.field_got around (FixedItem width) k s) next1
    (comes_on k (P.field_taken around width k s) next2
    (field_call (before_closed k next2 closed1) f v' around width 36 k x y (λ b. field_number (x b) o) (λ b. number_status o) (λ c x0 x1 x2 x3 x4. E.fixed_served c x0 x1) (lit< tt) (λ c u. refl) (add-one v.world.acts) has
    (λ b m x2 x3 x4. taken_answer code v m width whole left below (x b) (y b) k found has under.serving.allowed under.serving.fits) (front_of (service 36) status_tested l) under.serving
    (λ b. record { pc = (at b).pc; holds = record { body = (at b).holds.body; regs = (refl, (refl, tt)) } })
    (λ f1 allowed at1.
    let serving1 = read_serving change places (places_next v _ below found under.serving.places) under.serving allowed in
    comes_on k (R.or_error around conversion_code o k s') next3
    (number_tested o (before_closed k next3 closed1) routines f1 around k x (back_of (service 36) status_tested l) serving1 at1
    (λ z f2 is at2.
    record {
      to = λ early.
          field_comes around r left type (NumberField z) k s' is_type
          (subst (λ u. Comes code u f2 v' (converting code aims k around r left) (P.field_converted around (kind_of [] type) (NumberField z) k s')) (sym e)
          (behind z f2 (number_wide text z is) (record { serving = serving1; holds = kept.keeps _ change s under.holds }) (λ b. record { pc = (at2 b).pc ∙ ap (address b) e; holds = (at2 b).holds })));
    })))))

-- by F
fixed_got : {links : Links} {code : List Instr} {i : ℕ} {g : Ground} {v : Services} {h t : ℕ → ℕ} {s : State} {Q : Storage → State → Type 0} {aims : Aims (Option (List FormatItem))} (kept : Kept Q) (closed : Closed code aims) (routines : Routines links code) (f : Family) (around : Around) (r : Y.Reference) (p width : ℕ) (whole left : List FormatItem) (below : List EditPlace) (k : ℕ) → P.target_type around r ≡ Some (Y.FixedLeaf p) → Gets v.edits (DataFormat (FixedItem width)) whole left below → has_character v.input.marks ≡ true → Linked links code i fixed_as_number → Reading Q k around.line s v → ((b : Base) → At b i (Known g v h t nothing b) (f b)) → NumberBehind code g h t Q around k (i + 5) p whole left below (converting code aims k around r left) → Comes code i f v aims (got_and_stored around r left (FixedItem width) k s)
unfolding P.field_converted
fixed_got {v = v} {s = s} kept closed routines f around r p width whole left below k type found has l under at goal =
    fixed_taken kept closed routines f around r (Y.FixedLeaf p) width whole left below k type found has l under at
    (λ z f2 wide under2 at2. goal z (read_state (behind_field width) s) (taken_by width (getting whole left ∷ below) v) f2 (wide, (under2, refl)) at2)

-- a text that waits becomes a number
converted_piece : {links : Links} {code : List Instr} {i : ℕ} {g : Ground} {v : Services} {h t : ℕ → ℕ} {rs : Base → List (ℕ × ℕ)} {s : State} {Q : Storage → State → Type 0} {aims : Aims BasicValue} (closed : Closed code aims) (routines : Routines links code) (f : Family) (around : Around) (p : ℕ) (text : List ℕ) (whole left : List FormatItem) (below : List EditPlace) (k : ℕ) → Linked links code i (small a0 0 ∷ tested_service 26) → Reading Q k around.line s v → v.edits ≡ getting whole left ∷ below → ((b : Base) → At b i (Known g (pushed (TextEntry text) v) h t rs b) (f b)) → NumberBehind code g h t Q around k (i + 6) p whole left below aims → Comes code i f (pushed (TextEntry text) v) aims (P.field_converted around (Fixed p) (TextField text) k s)
unfolding P.field_converted ◌>>=◌
converted_piece {code = code} {i = i} {g = g} {v = v} {h = h} {t = t} {s = s} {aims = aims} closed routines f around p text whole left below k l under edits at goal =
    let next' : ℤ → Meaning BasicValue = λ z. P.number_kept around p z in
    let o = number_in_text text in
    let w = pushed (TextEntry text) v in
    let v' = with_entries v.entries w in
    let y : Base → ℕ = λ b. (f b).machine.registers 11 in
    let z : Base → ℕ = λ b. (f b).machine.registers 12 in
    let front = small a0 0 ∷ [] in
    let e : i + 1 + 5 ≡ i + 6 = omega arith in
    let r = straight i f w w (λ b. Known g w h t (three (λ b'. 0) y z) b) (front_of front (tested_service 26) l) (omega arith) (λ b. (at b).pc)
    (λ b. let q = (at b).holds in record {
      body = record { services = q.body.services; registers = q.body.registers; bytes = q.body.bytes; memory = q.body.memory };
      regs = (small_is _ 0 (zero_is q.body) (lit< tt), (refl, (refl, tt)));
    }) in
    onward closed r (λ f1 at1.
    comes_on k (R.or_error around conversion_code o k s) next'
    (tested_call o (before_closed k next' closed) routines f1 around 26 conversion_code k (λ b. 0) y z (λ n. v') (λ n b. word n) (λ c x0 x1 x2 x3 x4. X.to_number_served c x0) (lit< tt) (lit< tt) refl (λ c u. refl) (λ n. omega arith)
    (λ b m x3 x4. number_answer code w m text v.entries refl) (back_of front (tested_service 26) l) (at_other_texts (TextEntry text ∷ v.entries) under.serving) at1
    (λ n f2 is at2.
    subst (λ u. Comes code u f2 v' aims (P.number_kept around p n k s)) (sym e)
    (goal n s v' f2 (number_wide text n is, (record { serving = at_other_texts v.entries under.serving; holds = under.holds }, edits)) (λ b. record { pc = (at2 b).pc ∙ ap (address b) e; holds = (at2 b).holds })))))

-- a field is taken as a text
pub text_taken : {links : Links} {code : List Instr} {i : ℕ} {g : Ground} {v : Services} {h t : ℕ → ℕ} {s : State} {Q : Storage → State → Type 0} {aims : Aims (Option (List FormatItem))} (kept : Kept Q) (closed : Closed code aims) (f : Family) (around : Around) (r : Y.Reference) (type : Y.LeafType) (width : ℕ) (whole left : List FormatItem) (below : List EditPlace) (k : ℕ) → P.target_type around r ≡ Some type → Gets v.edits (DataFormat (TextItem (Some width))) whole left below → has_character v.input.marks ≡ true → Linked links code i (service 37) → Reading Q k around.line s v → ((b : Base) → At b i (Known g v h t nothing b) (f b)) → ((f' : Family) → Reading Q k around.line (read_state (behind_field width) s) (taken_by width (getting whole left ∷ below) v) → ((b : Base) → At b (i + 2) (Known g (pushed (TextEntry (field_of width v.input)) (taken_by width (getting whole left ∷ below) v)) h t nothing b) (f' b)) → Comes code (i + 2) f' (pushed (TextEntry (field_of width v.input)) (taken_by width (getting whole left ∷ below) v)) (converting code aims k around r left) (P.field_converted around (kind_of [] type) (TextField (field_of width v.input)) k (read_state (behind_field width) s))) → Comes code i f v aims (got_and_stored around r left (TextItem (Some width)) k s)
unfolding P.field_got ◌>>=◌ give
text_taken {code = code} {i = i} {v = v} {s = s} {aims = aims} kept closed f around r type width whole left below k is found has l under at next' =
    let next1 : Option Field → Meaning (Option (List FormatItem)) = λ u. P.scalar_if_got around r left u in
    let next2 : Option (List ℕ) → Meaning (Option Field) = λ u. give (P.text_got u) in
    let x : Base → ℕ = λ b. (f b).machine.registers 10 in
    let y : Base → ℕ = λ b. (f b).machine.registers 11 in
    let text = field_of width v.input in
    let change = behind_field width in
    let places = getting whole left ∷ below in
    let v' = pushed (TextEntry text) (taken_by width places v) in
    comes_on k (P.field_got around (TextItem (Some width)) k s) next1
    (comes_on k (P.field_taken around width k s) next2
    (field_call (before_closed k next2 (before_closed k next1 closed)) f v' around width 37 k x y x y (λ c x0 x1 x2 x3 x4. E.text_served c x0 x1) (lit< tt) (λ c u. refl) (add-one v.world.acts) has
    (λ b m x2 x3 x4. text_answer code v m width whole left below (x b) (y b) k found has under.serving.allowed under.serving.fits) l under.serving
    (λ b. record { pc = (at b).pc; holds = record { body = (at b).holds.body; regs = (refl, (refl, tt)) } })
    (λ f1 allowed at1.
    record {
      to = λ early.
          field_comes around r left type (TextField text) k (read_state change s) is
          (next' f1 (record { serving = read_serving change places (places_next v _ below found under.serving.places) under.serving allowed; holds = kept.keeps _ change s under.holds }) (λ b. record { pc = (at1 b).pc; holds = record { body = (at1 b).holds.body; regs = tt } }));
    })))

-- by A
text_got : {links : Links} {code : List Instr} {i : ℕ} {g : Ground} {v : Services} {h t : ℕ → ℕ} {s : State} {Q : Storage → State → Type 0} {aims : Aims (Option (List FormatItem))} (kept : Kept Q) (closed : Closed code aims) (routines : Routines links code) (f : Family) (around : Around) (r : Y.Reference) (p width : ℕ) (whole left : List FormatItem) (below : List EditPlace) (k : ℕ) → P.target_type around r ≡ Some (Y.FixedLeaf p) → Gets v.edits (DataFormat (TextItem (Some width))) whole left below → has_character v.input.marks ≡ true → Linked links code i text_as_number → Reading Q k around.line s v → ((b : Base) → At b i (Known g v h t nothing b) (f b)) → NumberBehind code g h t Q around k (i + 8) p whole left below (converting code aims k around r left) → Comes code i f v aims (got_and_stored around r left (TextItem (Some width)) k s)
text_got {code = code} {i = i} {v = v} {s = s} {aims = aims} kept closed routines f around r p width whole left below k type found has l under at goal =
    let e : i + 2 + 6 ≡ i + 8 = omega arith in
    text_taken kept closed f around r (Y.FixedLeaf p) width whole left below k type found has (front_of (service 37) (small a0 0 ∷ tested_service 26) l) under at
    (λ f1 under1 at1.
    converted_piece (converting_closed k around r left closed) routines f1 around p (field_of width v.input) whole left below k (back_of (service 37) (small a0 0 ∷ tested_service 26) l) under1 refl at1
    (λ z s2 v2 f2 holds2 at2.
    subst (λ u. Comes code u f2 v2 (converting code aims k around r left) (P.number_kept around p z k s2)) (sym e)
    (goal z s2 v2 f2 holds2 (λ b. record { pc = (at2 b).pc ∙ ap (address b) e; holds = (at2 b).holds }))))

-- by either
pub number_got : {links : Links} {code : List Instr} {i : ℕ} {g : Ground} {v : Services} {h t : ℕ → ℕ} {s : State} {Q : Storage → State → Type 0} {aims : Aims (Option (List FormatItem))} (kept : Kept Q) (closed : Closed code aims) (routines : Routines links code) (f : Family) (around : Around) (r : Y.Reference) (fixed text : Bool) (p : ℕ) (d : DataItem) (whole left : List FormatItem) (below : List EditPlace) (k : ℕ) → P.target_type around r ≡ Some (Y.FixedLeaf p) → IsOf fixed text d → IsWide d → Gets v.edits (DataFormat d) whole left below → has_character v.input.marks ≡ true → Linked links code i (by_kinds fixed text fixed_as_number text_as_number) → Reading Q k around.line s v → ((b : Base) → At b i (Known g v h t (valued (E.data_number d)) b) (f b)) → NumberBehind code g h t Q around k (i + size_of (by_kinds fixed text fixed_as_number text_as_number)) p whole left below (converting code aims k around r left) → Comes code i f v aims (got_and_stored around r left d k s)
number_got {Q = Q} kept closed routines f around r fixed text p (FixedItem width) whole left below k type is wide found has l under at goal =
    chosen_piece number_in_a0 (λ z. record { reserved_stay = λ y u. refl; known_stay = λ b y u q. q; set = λ y u. refl }) (GotNumber Q k around.line whole left below) (P.number_kept around p) fixed text closed (converting_closed k around r left closed) f (FixedItem width) fixed_as_number text_as_number k is l at
    (λ j f1 l1 at1 goal1. fixed_got kept closed routines f1 around r p width whole left below k type found has l1 under at1 goal1) goal
number_got {Q = Q} kept closed routines f around r fixed text p (TextItem (Some width)) whole left below k type is wide found has l under at goal =
    chosen_piece number_in_a0 (λ z. record { reserved_stay = λ y u. refl; known_stay = λ b y u q. q; set = λ y u. refl }) (GotNumber Q k around.line whole left below) (P.number_kept around p) fixed text closed (converting_closed k around r left closed) f (TextItem (Some width)) fixed_as_number text_as_number k is l at
    (λ j f1 l1 at1 goal1. text_got kept closed routines f1 around r p width whole left below k type found has l1 under at1 goal1) goal
number_got kept closed routines f around r fixed text p (TextItem None) whole left below k type is wide found has l under at goal = absurd wide
