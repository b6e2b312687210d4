-- The code of GET before a target: a place in a format list is begun, ENDFILE is raised where no character is left, and a field is taken.
use Rattle.std.proofs.Common.{◌≡◌, ℕ, suc, ◌+◌, ◌^◌, ◌<◌, List, [], ◌∷◌, ◌++◌, Option, Some, None, Bool, true, false, refl, sym, ap, ◌∙◌, subst, arith, lit<}
use Rattle.std.specs.Prelude.{ℤ, ◌==◌, cond, if◌then◌else◌}
use Rattle.rv_meaning.specs.declared.instr.Instr.{Instr}
use Rattle.rv_meaning.specs.declared.instr.Instr.TheVariants as I
use Rattle.rv_meaning.specs.declared.instr.BranchTest.TheVariants as Test
use Rattle.rv_meaning.specs.Words.{word}
use Rattle.pli_language.specs.Tree as T
use Rattle.pli_language.specs.declared.condition.Condition.TheVariants as C
use Rattle.pli_meaning.specs.Codes.{conversion_code, endfile_code}
use Rattle.pli_meaning.specs.World.{counted}
use Rattle.pli_meaning.specs.InputLines.{Input, has_character, field_of, behind_field}
use Rattle.pli_meaning.specs.StorageState.{State, with_input}
use Rattle.pli_meaning.specs.Control.{Flow, Normal, Jump, Return, Ended, Paused, Stuck, flow_on, Meaning, act, stored, looked, choose, give, ◌>>=◌, ◌>>◌}
use Rattle.pli_meaning.specs.Raising as R
use Rattle.pli_meaning.specs.Raising.{Around}
use Rattle.pli_meaning.specs.Streaming as P
use Rattle.pli_meaning.specs.Streaming.{FormatItem, DataFormat, DataItem, FixedItem, TextItem, Field}
use Rattle.pli_serving.specs.ServiceState.{Services}
use Rattle.pli_serving.specs.Answers.{Answer, Done}
use Rattle.pli_serving.specs.Finding.{Call}
use Rattle.pli_serving.specs.FormatLists.{formats_at}
use Rattle.pli_serving.specs.Edits as E
use Rattle.run_steps.specs.Unlimited as V
use Rattle.pli_coding.specs.Registers.{zero_register, a0, a1, a7, u1}
use Rattle.pli_coding.specs.Assembly.{DataPlace, RaiseError, Plain, OffsetOf, JumpTo, JumpAhead, Code}
use Rattle.pli_coding.specs.Instructions.{small, service, skip_where, status_tested}
use Rattle.pli_coding.specs.Arithmetic.{raised}
use Rattle.pli_coding.specs.StaticForms.{formats_datum}
use Rattle.pli_coding.specs.Streams.{edit_begun}
use Rattle.pli_coding.specs.Linking.{Links, place_of}
use Rattle.run_steps.specs.Engine.{Base, address, call_at}
use Rattle.run_steps.specs.Items.{Linked, At}
use Rattle.run_steps.proofs.Items.{straight}
use Rattle.run_steps.specs.Bodies.{Ground, Known}
use Rattle.run_steps.proofs.Bodies.{zero_is}
use Rattle.run_steps.proofs.Jumps.{front_of, back_of, rest_of, skip_taken, skip_passed, jump_piece}
use Rattle.run_steps.specs.Temporaries.{nothing}
use Rattle.run_steps.specs.Calls.{Calling}
use Rattle.run_steps.proofs.Calls.{comes_act, called, call_acts, call_pauses}
use Rattle.pli_headline.proofs.Serving.{Serving}
use Rattle.pli_headline.proofs.Raising.{Routines, small_is, error_piece}
use Rattle.pli_headline.proofs.Operators.{valued}
use Rattle.pli_headline.proofs.EditItems.{at_places}
use Rattle.pli_headline.proofs.EditPieces.{argued, quiet_piece}
use Rattle.pli_headline.proofs.GetItems.{getting, number_in, read_state, begin_answer, field_number, number_status}
use Rattle.pli_headline.proofs.GetWidths.{IsWide}
use Rattle.run_steps.specs.Reach.{Family, Aims, Comes, Closed, cost, reached}
use Rattle.run_steps.proofs.Reach.{comes_on, onward, reached_holds}

-- ---- the place in the list

-- 34
pub begin_piece : {X : Type 0} {links : Links} {code : List Instr} {i : ℕ} {g : Ground} {v : Services} {h t : ℕ → ℕ} {aims : Aims X} {flow : Flow X} (closed : Closed code aims) (f : Family) (fs : T.Formats) (items : List FormatItem) → ((b : Base) (m : List ℕ) → g.memory t b m → (place_of links (DataPlace (formats_datum fs)) < 2 ^ 32) × (formats_at (call_at code v m) (place_of links (DataPlace (formats_datum fs))) ≡ Some items)) → Linked links code i (edit_begun fs 0) → ((b : Base) → At b i (Known g v h t nothing b) (f b)) → ((f' : Family) → ((b : Base) → At b (i + 5) (Known g (at_places (getting items items ∷ v.edits) v) h t nothing b) (f' b)) → Comes code (i + 5) f' (at_places (getting items items ∷ v.edits) v) aims flow) → Comes code i f v aims flow
begin_piece {links = links} {code = code} {i = i} {g = g} {v = v} {h = h} {t = t} {aims = aims} {flow = flow} closed f fs items found l at next' =
    let place = place_of links (DataPlace (formats_datum fs)) in
    let v' = at_places (getting items items ∷ v.edits) v in
    let front = OffsetOf a0 (DataPlace (formats_datum fs)) ∷ small a1 0 ∷ [] in
    let r = straight i f v v (λ b. Known g v h t (argued (λ b'. place) (λ b'. 0)) b) (front_of front (service 34) l) (omega arith) (λ b. (at b).pc)
    (λ b. let o = (at b).holds in let z = zero_is o.body in (
      (found b (f b).machine.memory o.body.memory).0,
      refl,
      record {
        body = record { services = o.body.services; registers = o.body.registers; bytes = o.body.bytes; memory = o.body.memory };
        regs = (refl, (small_is _ 0 z (lit< tt), tt));
      },
    )) in
    onward closed r (λ f1 at1.
    quiet_piece closed f1 v' 34 (λ b. place) (λ b. 0) (λ b. place) (λ b. 0) (λ c x0 x1 x2 x3 x4. E.edit_begin_served c x0 x1) (lit< tt) (λ c u. refl) (omega arith)
    (λ b m x2 x3 x4 o. begin_answer (call_at code v m) place items (found b m o).1) (back_of front (service 34) l) at1
    (λ f2 at2.
    let e : i + 3 + 2 ≡ i + 5 = omega arith in
    subst (λ u. Comes code u f2 v' aims flow) (sym e)
    (next' f2 (λ b. record { pc = (at2 b).pc ∙ ap (address b) e; holds = record { body = (at2 b).holds.body; regs = tt } }))))

-- ---- the end of the input

-- the raise, and the way to the statement's exit
abbrev pub endfile_code_raised : (behind : ℕ) → Code
endfile_code_raised behind = raised C.Endfile endfile_code ++ JumpAhead behind ∷ []

abbrev pub endfile_tested : (behind : ℕ) → Code
endfile_tested behind = small u1 3 ∷ skip_where Test.NotEqual a0 u1 (endfile_code_raised behind)

field_none : (around : Around) (width k : ℕ) (s : State) → has_character s.input.marks ≡ false → P.field_taken around width k s ≡ ((R.raised around C.Endfile endfile_code) >> (give None)) k s
unfolding P.field_taken ◌>>=◌ looked choose
field_none around width k s none =
    ap (λ q. cond q (((act counted) >> ((stored (with_input (behind_field width))) >> (give (Some (field_of width s.input))))) k s) (((R.raised around C.Endfile endfile_code) >> (give None)) k s)) none

field_some : (around : Around) (width k : ℕ) (s : State) → has_character s.input.marks ≡ true → P.field_taken around width k s ≡ ((act counted) >> ((stored (with_input (behind_field width))) >> (give (Some (field_of width s.input))))) k s
unfolding P.field_taken ◌>>=◌ looked choose
field_some around width k s some =
    ap (λ q. cond q (((act counted) >> ((stored (with_input (behind_field width))) >> (give (Some (field_of width s.input))))) k s) (((R.raised around C.Endfile endfile_code) >> (give None)) k s)) some

got_by : {R : Type 0} (next1 : Option Field → Meaning R) (around : Around) (k : ℕ) (flow : Flow (Unit {0})) → flow_on k (flow_on k (flow_on k flow (λ u. give {R = Option (List ℕ)} None)) (λ t. P.number_got around t)) next1 ≡ flow_on k flow (λ u. next1 None)
unfolding P.number_got give
got_by next1 around k (Normal u s) = refl
got_by next1 around k (Jump height label s) = refl
got_by next1 around k (Return v s) = refl
got_by next1 around k (Ended s) = refl
got_by next1 around k (Paused s) = refl
got_by next1 around k Stuck = refl

text_by : {R : Type 0} (next1 : Option Field → Meaning R) (k : ℕ) (flow : Flow (Unit {0})) → flow_on k (flow_on k (flow_on k flow (λ u. give {R = Option (List ℕ)} None)) (λ t. give (P.text_got t))) next1 ≡ flow_on k flow (λ u. next1 None)
unfolding give
text_by next1 k (Normal u s) = refl
text_by next1 k (Jump height label s) = refl
text_by next1 k (Return v s) = refl
text_by next1 k (Ended s) = refl
text_by next1 k (Paused s) = refl
text_by next1 k Stuck = refl

-- with no character left ENDFILE is raised, and behind it nothing was got
pub ended_got : {X : Type 0} (next1 : Option Field → Meaning X) (around : Around) (d : DataItem) (k : ℕ) (s : State) → IsWide d → has_character s.input.marks ≡ false → ((P.field_got around d) >>= next1) k s ≡ flow_on k (R.raised around C.Endfile endfile_code k s) (λ u. next1 None)
unfolding P.field_got ◌>>=◌ ◌>>◌
ended_got next1 around (FixedItem width) k s is none =
    ap (λ flow. flow_on k (flow_on k flow (λ t. P.number_got around t)) next1) (field_none around width k s none) ∙ got_by next1 around k (R.raised around C.Endfile endfile_code k s)
ended_got next1 around (TextItem (Some width)) k s is none =
    ap (λ flow. flow_on k (flow_on k flow (λ t. give (P.text_got t))) next1) (field_none around width k s none) ∙ text_by next1 k (R.raised around C.Endfile endfile_code k s)
ended_got next1 around (TextItem None) k s is none = absurd is

-- a number beside 3
abbrev threed : (x : ℕ) → Base → List (ℕ × ℕ)
threed x b = (10, x) ∷ (6, 3) ∷ []

data_not_three : (d : DataItem) (x y : ℕ) → x ≡ E.data_number d → y ≡ 3 → (if x == y then false else true) ≡ true
data_not_three (FixedItem width) x y e e' = ap (λ u. if u == y then false else true) e ∙ ap (λ u. if 1 == u then false else true) e'
data_not_three (TextItem width) x y e e' = ap (λ u. if u == y then false else true) e ∙ ap (λ u. if 2 == u then false else true) e'

three_three : (x y : ℕ) → x ≡ 3 → y ≡ 3 → (if x == y then false else true) ≡ false
three_three x y e e' = ap (λ u. if u == y then false else true) e ∙ ap (λ u. if 3 == u then false else true) e'

tested_piece : (q : Bool) {R : Type 0} {links : Links} {code : List Instr} {i : ℕ} {g : Ground} {v : Services} {h t : ℕ → ℕ} {aims : Aims R} {flow : Flow R} (closed : Closed code aims) (f : Family) (d : DataItem) (behind : ℕ) → has_character v.input.marks ≡ q → Linked links code i (skip_where Test.NotEqual a0 u1 (endfile_code_raised behind)) → ((b : Base) → At b i (Known g v h t (threed (cond q (E.data_number d) 3)) b) (f b)) → (q ≡ true → (f' : Family) → ((b : Base) → At b (i + 7) (Known g v h t (valued (E.data_number d)) b) (f' b)) → Comes code (i + 7) f' v aims flow) → (q ≡ false → (f' : Family) → Linked links code (i + 1) (endfile_code_raised behind) → ((b : Base) → At b (i + 1) (Known g v h t nothing b) (f' b)) → Comes code (i + 1) f' v aims flow) → Comes code i f v aims flow
tested_piece true closed f d behind has l at next' ended =
    onward closed (skip_taken _ f Test.NotEqual a0 u1 (endfile_code_raised behind) l at (λ b. data_not_three d _ _ (at b).holds.regs.0 (at b).holds.regs.1.0))
    (λ f1 at1. next' refl f1 (λ b. record { pc = (at1 b).pc; holds = record { body = (at1 b).holds.body; regs = ((at1 b).holds.regs.0, tt) } }))
tested_piece false {i = i} closed f d behind has l at next' ended =
    onward closed (skip_passed i f Test.NotEqual a0 u1 (endfile_code_raised behind) l at (λ b. three_three _ _ (at b).holds.regs.0 (at b).holds.regs.1.0))
    (λ f1 at1. ended refl f1 (rest_of _ (endfile_code_raised behind) l) (λ b. record { pc = (at1 b).pc; holds = record { body = (at1 b).holds.body; regs = tt } }))

-- a field is there, or ENDFILE is raised
pub awaited_piece : {R : Type 0} {links : Links} {code : List Instr} {i : ℕ} {g : Ground} {v : Services} {h t : ℕ → ℕ} {aims : Aims R} {flow : Flow R} (closed : Closed code aims) (f : Family) (d : DataItem) (behind : ℕ) → Linked links code i (endfile_tested behind) → ((b : Base) → At b i (Known g v h t (valued (number_in v.input (DataFormat d))) b) (f b)) → (has_character v.input.marks ≡ true → (f' : Family) → ((b : Base) → At b (i + 8) (Known g v h t (valued (E.data_number d)) b) (f' b)) → Comes code (i + 8) f' v aims flow) → (has_character v.input.marks ≡ false → (f' : Family) → Linked links code (i + 1 + 1) (endfile_code_raised behind) → ((b : Base) → At b (i + 1 + 1) (Known g v h t nothing b) (f' b)) → Comes code (i + 1 + 1) f' v aims flow) → Comes code i f v aims flow
awaited_piece {code = code} {i = i} {g = g} {v = v} {h = h} {t = t} {aims = aims} {flow = flow} closed f d behind l at next' ended =
    let front = small u1 3 ∷ [] in
    let last = skip_where Test.NotEqual a0 u1 (endfile_code_raised behind) in
    let q = has_character v.input.marks in
    let r = straight i f v v (λ b. Known g v h t (threed (number_in v.input (DataFormat d))) b) (front_of front last l) (omega arith) (λ b. (at b).pc)
    (λ b. let o = (at b).holds in record {
      body = record { services = o.body.services; registers = o.body.registers; bytes = o.body.bytes; memory = o.body.memory };
      regs = (o.regs.0, (small_is _ 3 (zero_is o.body) (lit< tt), tt));
    }) in
    onward closed r (λ f1 at1.
    tested_piece q closed f1 d behind refl (back_of front last l) at1
    (λ has f2 at2.
    let e : i + 1 + 7 ≡ i + 8 = omega arith in
    subst (λ u. Comes code u f2 v aims flow) (sym e)
    (next' has f2 (λ b. record { pc = (at2 b).pc ∙ ap (address b) e; holds = (at2 b).holds })))
    ended)

-- ---- the field

-- a call that takes it
pub field_call : {links : Links} {code : List Instr} {i : ℕ} {g : Ground} {v : Services} {h t : ℕ → ℕ} {s : State} {line : ℕ} {aims : Aims (Option (List ℕ))} (closed : Closed code aims) (f : Family) (v' : Services) (around : Around) (width n k : ℕ) (x y x' y' : Base → ℕ) (G : Call → ℕ → ℕ → ℕ → ℕ → ℕ → Answer) → n < 2 ^ 31 → ((c : Call) (r : ℕ → ℕ) → V.served n c r ≡ G c (r 10) (r 11) (r 12) (r 13) (r 14)) → v'.world.acts ≡ suc v.world.acts → has_character v.input.marks ≡ true → ((b : Base) (m : List ℕ) (x2 x3 x4 : ℕ) → G (call_at code v m) (x b) (y b) x2 x3 x4 ≡ Done v' m (x' b) (y' b)) → Linked links code i (service n) → Serving k s v line → ((b : Base) → At b i (Known g v h t (argued x y) b) (f b)) → ((f' : Family) → s.world.acts < k → ((b : Base) → At b (i + 2) (Known g v' h t (argued x' y') b) (f' b)) → aims.done (i + 2) f' v' (Some (field_of width v.input)) (read_state (behind_field width) s)) → Comes code i f v aims (P.field_taken around width k s)
unfolding ◌>>◌ stored give
field_call {code = code} {i = i} {g = g} {v = v} {h = h} {t = t} {s = s} {aims = aims} closed f v' around width n k x y x' y' G fits is counts has answers l serving at goal =
    let some : has_character s.input.marks ≡ true = ap (λ (u : Input). has_character u.marks) (sym serving.input) ∙ has in
    let front = small a7 n ∷ [] in
    let last = Plain I.Ecall ∷ [] in
    let next' : Unit {0} → Meaning (Option (List ℕ)) = λ u. (stored (with_input (behind_field width))) >> (give (Some (field_of width s.input))) in
    let r = straight i f v v (λ b. Known g v h t (λ b'. (10, x b') ∷ (11, y b') ∷ (17, n) ∷ []) b) (front_of front last l) (omega arith) (λ b. (at b).pc)
    (λ b. let o = (at b).holds in let z = zero_is o.body in record {
      body = record { services = o.body.services; registers = o.body.registers; bytes = o.body.bytes; memory = o.body.memory };
      regs = (o.regs.0, (o.regs.1.0, (small_is _ n z (omega (arith, fits)), tt)));
    }) in
    subst (Comes code i f v aims) (sym (field_some around width k s some))
    (onward closed r (λ f1 at1.
    let l2 = back_of front last l in
    let calling : Calling _ code (i + 1) f1 (λ b. Done v' (f1 b).machine.memory (x' b) (y' b)) = record {
      linked = l2;
      pc = λ b. (at1 b).pc;
      answers = λ b.
          let o = (at1 b).holds in
          called code (f1 b) v n (x b) (y b) _ _ _ G o.body.services o.regs.1.1.0 o.regs.0 o.regs.1.0 refl refl refl is
          ∙ answers b (f1 b).machine.memory _ _ _;
    } in
    let few : i + 1 < cost code = let u = l2.inside in omega (arith, u) in
    let pauses = call_pauses (i + 1) f1 v v' (λ b. (f1 b).machine.memory) x' y' few serving.running (λ b. (at1 b).holds.body.services) counts calling in
    let q = call_acts (i + 1) (i + 2) f1 v v' (λ b. (f1 b).machine.memory) x' y' (λ b. Known g v' h t (argued x' y') b) few counts calling
    (λ b. let o = (at1 b).holds.body in record { body = record { services = refl; registers = o.registers; bytes = o.bytes; memory = o.memory }; regs = (refl, (refl, tt)) }) in
    let e : i + 1 + 1 ≡ i + 2 = omega arith in
    comes_on k (act counted k s) next'
    (comes_act counted k s serving.world pauses
    (λ below. record {
      to = λ early.
          closed.done q (Some (field_of width s.input)) (read_state (behind_field width) s)
          (subst (λ u. aims.done (i + 2) (reached q) v' (Some (field_of width u)) (read_state (behind_field width) s)) serving.input
          (goal (reached q) below (λ b. record { pc = (reached_holds q b).pc ∙ ap (address b) e; holds = (reached_holds q b).holds })));
    }))))

-- what the call answers of a number
abbrev pub told_number : (x : Base → ℕ) → Option ℤ → Base → List (ℕ × ℕ)
told_number x o = argued (λ b. field_number (x b) o) (λ b. number_status o)

is_zero : (y z : ℕ) → y ≡ 0 → z ≡ 0 → (y == z) ≡ true
is_zero y z e e' = ap (λ u. u == z) e ∙ ap (λ u. 0 == u) e'

no_zero : (y z : ℕ) → y ≡ conversion_code → z ≡ 0 → (y == z) ≡ false
no_zero y z e e' = ap (λ u. u == z) e ∙ ap (λ u. conversion_code == u) e'

-- a field that is no number ends the run
pub number_tested : (o : Option ℤ) {links : Links} {code : List Instr} {i : ℕ} {g : Ground} {v : Services} {h t : ℕ → ℕ} {s : State} {aims : Aims ℤ} (closed : Closed code aims) (routines : Routines links code) (f : Family) (around : Around) (k : ℕ) (x : Base → ℕ) → Linked links code i status_tested → Serving k s v around.line → ((b : Base) → At b i (Known g v h t (told_number x o) b) (f b)) → ((z : ℤ) (f' : Family) → o ≡ Some z → ((b : Base) → At b (i + 3) (Known g v h t (valued (word z)) b) (f' b)) → aims.done (i + 3) f' v z s) → Comes code i f v aims (R.or_error around conversion_code o k s)
unfolding R.or_error give
number_tested None {code = code} {i = i} closed routines f around k x l serving at goal =
    let inside = l.inside in
    let far = routines.linked.inside in
    onward closed (skip_passed i f Test.Equal a1 zero_register (JumpTo RaiseError ∷ []) l at (λ b. no_zero _ _ (at b).holds.regs.1.0 (zero_is (at b).holds.body)))
    (λ f1 at1.
    let q = jump_piece (i + 1) (i + 1 + 2) f1 RaiseError (routines.at + 8) (omega arith) routines.error (let m = routines.linked.small' in omega (arith, far, m)) (record { reserved_stay = λ y u. refl; known_stay = λ b y u p. p; set = λ y u. refl }) (rest_of _ (JumpTo RaiseError ∷ []) l) at1 in
    onward closed q (λ f2 at2.
    error_piece closed routines (i + 1 + 2) f2 around conversion_code k (lit< tt) (omega (arith, inside, far)) serving
    (λ b. record { pc = (at2 b).pc; holds = record { body = (at2 b).holds.body; regs = ((at2 b).holds.regs.1.0, tt) } })))
number_tested (Some z) {i = i} closed routines f around k x l serving at goal =
    onward closed (skip_taken i f Test.Equal a1 zero_register (JumpTo RaiseError ∷ []) l at (λ b. is_zero _ _ (at b).holds.regs.1.0 (zero_is (at b).holds.body)))
    (λ f1 at1. record {
      to = λ early. goal z f1 refl
          (λ b. record {
            pc = (at1 b).pc;
            holds = record
                { body = (at1 b).holds.body; regs = ((at1 b).holds.regs.0, tt) };
          });
    })
