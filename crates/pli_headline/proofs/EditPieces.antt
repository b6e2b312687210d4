-- The code of PUT around a value: a place in a format list is begun and ended, and a number's field is tested and written.
use Rattle.std.proofs.Common.{length, ◌≡◌, ℕ, suc, ◌+◌, ◌^◌, ◌<◌, ◌≤◌, List, [], ◌∷◌, ◌++◌, Option, Some, None, true, false, refl, sym, ap, ◌∙◌, subst, arith, lit<, add-one}
use Rattle.std.specs.Prelude.{ℤ, ◌==◌}
use Rattle.rv_meaning.specs.declared.instr.Instr.{Instr}
use Rattle.rv_meaning.specs.declared.instr.Instr.TheVariants as I
use Rattle.rv_meaning.specs.declared.instr.BranchTest.TheVariants as Test
use Rattle.rv_meaning.specs.Words.{word, sum, signed}
use Rattle.pli_language.specs.Tree as T
use Rattle.pli_meaning.specs.Codes.{too_wide_code}
use Rattle.pli_meaning.specs.World.{written}
use Rattle.pli_meaning.specs.Stream.{fixed_field, with_field}
use Rattle.pli_meaning.specs.StorageState.{State, with_world}
use Rattle.pli_meaning.specs.Control.{Flow, Meaning, act, give, ◌>>=◌}
use Rattle.pli_meaning.specs.Raising as R
use Rattle.pli_meaning.specs.Raising.{Around}
use Rattle.pli_meaning.specs.Evaluating.{ComputationalNumber}
use Rattle.pli_meaning.specs.Streaming as P
use Rattle.pli_meaning.specs.Streaming.{FormatItem, DataFormat, FixedItem}
use Rattle.pli_serving.specs.ServiceState.{Services, EditPlace}
use Rattle.pli_serving.specs.Answers.{Answer, Done}
use Rattle.pli_serving.specs.Finding.{Call}
use Rattle.pli_serving.specs.FormatLists.{formats_at}
use Rattle.pli_serving.specs.Edits as E
use Rattle.pli_headline.proofs.HeldPlaces.{PlacesHeld, places_next}
use Rattle.run_steps.specs.Unlimited as V
use Rattle.pli_coding.specs.Registers.{zero_register, a0, a1, a7}
use Rattle.pli_coding.specs.Assembly.{DataPlace, RaiseError, Plain, OffsetOf, JumpTo}
use Rattle.pli_coding.specs.Instructions.{small, service, status_tested}
use Rattle.pli_coding.specs.StaticForms.{formats_datum}
use Rattle.pli_coding.specs.Streams.{number_written, edit_begun, edit_ended}
use Rattle.pli_coding.specs.Linking.{Links, place_of}
use Rattle.run_steps.specs.Engine.{Base, address, call_at}
use Rattle.run_steps.specs.Items.{Linked, At}
use Rattle.run_steps.proofs.Items.{straight}
use Rattle.run_steps.specs.Numbers.{IsWide}
use Rattle.run_steps.specs.Bodies.{Ground, Known}
use Rattle.run_steps.proofs.Bodies.{zero_is}
use Rattle.run_steps.proofs.Jumps.{front_of, back_of, rest_of, skip_taken, skip_passed, jump_piece}
use Rattle.run_steps.specs.Temporaries.{nothing}
use Rattle.run_steps.specs.Calls.{Calling}
use Rattle.run_steps.proofs.Calls.{comes_act, called, call_done, call_acts, call_pauses}
use Rattle.pli_headline.proofs.Serving.{Serving}
use Rattle.pli_headline.proofs.Raising.{Routines, small_is, with_act, error_piece}
use Rattle.pli_headline.proofs.Operators.{valued}
use Rattle.pli_headline.proofs.Acts.{word_is}
use Rattle.run_steps.specs.Reach.{Family, Aims, Comes, Closed, cost, reached}
use Rattle.run_steps.proofs.Reach.{before_closed, comes_on, onward, reached_holds}
use Rattle.pli_headline.proofs.EditItems.{putting, at_places, Finds, field_status, fielded, begin_answer, width_answer, field_answer, end_answer, signed-word}

-- ---- a service that makes no act

-- a0 and a1
abbrev pub argued : (x y : Base → ℕ) → Base → List (ℕ × ℕ)
argued x y b = (10, x b) ∷ (11, y b) ∷ []

pub quiet_piece : {X : Type 0} {links : Links} {code : List Instr} {i : ℕ} {g : Ground} {v : Services} {h t : ℕ → ℕ} {aims : Aims X} {flow : Flow X} (closed : Closed code aims) (f : Family) (v' : Services) (n : ℕ) (x y x' y' : Base → ℕ) (G : Call → ℕ → ℕ → ℕ → ℕ → ℕ → Answer) → n < 2 ^ 31 → ((c : Call) (r : ℕ → ℕ) → V.served n c r ≡ G c (r 10) (r 11) (r 12) (r 13) (r 14)) → v.world.acts ≤ v'.world.acts → ((b : Base) (m : List ℕ) (x2 x3 x4 : ℕ) → g.memory t b m → G (call_at code v m) (x b) (y b) x2 x3 x4 ≡ Done v' m (x' b) (y' b)) → Linked links code i (service n) → ((b : Base) → At b i (Known g v h t (argued x y) b) (f b)) → ((f' : Family) → ((b : Base) → At b (i + 2) (Known g v' h t (argued x' y') b) (f' b)) → Comes code (i + 2) f' v' aims flow) → Comes code i f v aims flow
quiet_piece {code = code} {i = i} {g = g} {v = v} {h = h} {t = t} {aims = aims} {flow = flow} closed f v' n x y x' y' G fits is more answers l at next' =
    let front = small a7 n ∷ [] in
    let last = Plain I.Ecall ∷ [] in
    let r = straight i f v v (λ b. Known g v h t (λ b'. (10, x b') ∷ (11, y b') ∷ (17, n) ∷ []) b) (front_of front last l) (omega arith) (λ b. (at b).pc)
    (λ b. let o = (at b).holds in let z = zero_is o.body in record {
      body = record { services = o.body.services; registers = o.body.registers; bytes = o.body.bytes; memory = o.body.memory };
      regs = (o.regs.0, (o.regs.1.0, (ap (sum ((f b).machine.registers 0)) (word_is n fits) ∙ small_is _ n z (omega (arith, fits)), tt)));
    }) in
    onward closed r (λ f1 at1.
    let calling : Calling _ code (i + 1) f1 (λ b. Done v' (f1 b).machine.memory (x' b) (y' b)) = record {
      linked = back_of front last l;
      pc = λ b. (at1 b).pc;
      answers = λ b.
          let o = (at1 b).holds in
          called code (f1 b) v n (x b) (y b) _ _ _ G o.body.services o.regs.1.1.0 o.regs.0 o.regs.1.0 refl refl refl is
          ∙ answers b (f1 b).machine.memory _ _ _ o.body.memory;
    } in
    let q = call_done (i + 1) f1 v v' (λ b. (f1 b).machine.memory) x' y' (λ b. Known g v' h t (argued x' y') b) more calling
    (λ b. let o = (at1 b).holds.body in record { body = record { services = refl; registers = o.registers; bytes = o.bytes; memory = o.memory }; regs = (refl, (refl, tt)) }) in
    onward closed q (λ f2 at2.
    let e : i + 1 + 1 ≡ i + 2 = omega arith in
    subst (λ u. Comes code u f2 v' aims flow) (sym e)
    (next' f2 (λ b. record { pc = (at2 b).pc ∙ ap (address b) e; holds = (at2 b).holds }))))

-- ---- the place in the list

-- 34
pub begin_piece : {X : Type 0} {links : Links} {code : List Instr} {i : ℕ} {g : Ground} {v : Services} {h t : ℕ → ℕ} {aims : Aims X} {flow : Flow X} (closed : Closed code aims) (f : Family) (fs : T.Formats) (items : List FormatItem) → ((b : Base) (m : List ℕ) → g.memory t b m → (place_of links (DataPlace (formats_datum fs)) < 2 ^ 32) × (formats_at (call_at code v m) (place_of links (DataPlace (formats_datum fs))) ≡ Some items)) → Linked links code i (edit_begun fs 1) → ((b : Base) → At b i (Known g v h t nothing b) (f b)) → ((f' : Family) → ((b : Base) → At b (i + 5) (Known g (at_places (putting items items ∷ v.edits) v) h t nothing b) (f' b)) → Comes code (i + 5) f' (at_places (putting items items ∷ v.edits) v) aims flow) → Comes code i f v aims flow
begin_piece {links = links} {code = code} {i = i} {g = g} {v = v} {h = h} {t = t} {aims = aims} {flow = flow} closed f fs items found l at next' =
    let place = place_of links (DataPlace (formats_datum fs)) in
    let v' = at_places (putting items items ∷ v.edits) v in
    let front = OffsetOf a0 (DataPlace (formats_datum fs)) ∷ small a1 1 ∷ [] in
    let r = straight i f v v (λ b. Known g v h t (argued (λ b'. place) (λ b'. 1)) b) (front_of front (service 34) l) (omega arith) (λ b. (at b).pc)
    (λ b. let o = (at b).holds in let z = zero_is o.body in (
      (found b (f b).machine.memory o.body.memory).0,
      refl,
      record {
        body = record { services = o.body.services; registers = o.body.registers; bytes = o.body.bytes; memory = o.body.memory };
        regs = (refl, (small_is _ 1 z (lit< tt), tt));
      },
    )) in
    onward closed r (λ f1 at1.
    quiet_piece closed f1 v' 34 (λ b. place) (λ b. 1) (λ b. place) (λ b. 1) (λ c x0 x1 x2 x3 x4. E.edit_begin_served c x0 x1) (lit< tt) (λ c u. refl) (omega arith)
    (λ b m x2 x3 x4 o. begin_answer (call_at code v m) place items (found b m o).1) (back_of front (service 34) l) at1
    (λ f2 at2.
    let e : i + 3 + 2 ≡ i + 5 = omega arith in
    subst (λ u. Comes code u f2 v' aims flow) (sym e)
    (next' f2 (λ b. record { pc = (at2 b).pc ∙ ap (address b) e; holds = record { body = (at2 b).holds.body; regs = tt } }))))

-- 38
pub end_piece : {X : Type 0} {links : Links} {code : List Instr} {i : ℕ} {g : Ground} {v : Services} {h t : ℕ → ℕ} {aims : Aims X} {flow : Flow X} (closed : Closed code aims) (f : Family) (place : EditPlace) (below : List EditPlace) → v.edits ≡ place ∷ below → Linked links code i edit_ended → ((b : Base) → At b i (Known g v h t nothing b) (f b)) → ((f' : Family) → ((b : Base) → At b (i + 2) (Known g (at_places below v) h t nothing b) (f' b)) → Comes code (i + 2) f' (at_places below v) aims flow) → Comes code i f v aims flow
end_piece {code = code} {v = v} closed f place below edits l at next' =
    let x : Base → ℕ = λ b. (f b).machine.registers 10 in
    let y : Base → ℕ = λ b. (f b).machine.registers 11 in
    quiet_piece closed f (at_places below v) 38 x y x y (λ c x0 x1 x2 x3 x4. E.edit_end_served c x0 x1) (lit< tt) (λ c u. refl) (omega arith)
    (λ b m x2 x3 x4 o. end_answer code v m place below (x b) (y b) edits) l (λ b. record { pc = (at b).pc; holds = record { body = (at b).holds.body; regs = (refl, (refl, tt)) } })
    (λ f1 at1. next' f1 (λ b. record { pc = (at1 b).pc; holds = record { body = (at1 b).holds.body; regs = tt } }))

-- ---- a field

pub at_other_places : {k : ℕ} {s : State} {v : Services} {line : ℕ} (places : List EditPlace) → PlacesHeld (length places) v.activations → Serving k s v line → Serving k s (at_places places v) line
at_other_places places held o =
    record {
      world = o.world;
      running = o.running;
      line_is = o.line_is;
      input = o.input;
      allowed = o.allowed;
      fits = o.fits;
      nested = o.nested;
      waiting = o.waiting;
      places = held;
    }

abbrev pub shown_state : List ℕ → State → State
shown_state field s = with_world (written (with_field field) s.world) s

-- what holds behind a field
abbrev pub Shown : Ground → (h t : ℕ → ℕ) → (k : ℕ) → State → Services → (line i : ℕ) → List EditPlace → Aims (Unit {0}) → Type 0
Shown g h t k s v line i places aims =
    (field : List ℕ) (f' : Family) → Serving k (shown_state field s) (fielded field places v) line → ((b : Base) → At b i (Known g (fielded field places v) h t nothing b) (f' b)) → aims.done i f' (fielded field places v) tt (shown_state field s)

-- 36 with 1
written_piece : {links : Links} {code : List Instr} {i : ℕ} {g : Ground} {v : Services} {h t : ℕ → ℕ} {s : State} {line : ℕ} {aims : Aims (Unit {0})} (closed : Closed code aims) (f : Family) (width : ℕ) (whole left : List FormatItem) (below : List EditPlace) (x k : ℕ) (field : List ℕ) → Finds v.edits (DataFormat (FixedItem width)) whole left below → fixed_field width (signed x) ≡ Some field → Linked links code i (small a1 1 ∷ service 36) → Serving k s v line → ((b : Base) → At b i (Known g v h t (valued x) b) (f b)) → Shown g h t k s v line (i + 3) (putting whole left ∷ below) aims → Comes code i f v aims (act (written (with_field field)) k s)
written_piece {code = code} {i = i} {g = g} {v = v} {h = h} {t = t} {s = s} {line = line} {aims = aims} closed f width whole left below x k field found wide l serving at goal =
    let front = small a1 1 ∷ small a7 36 ∷ [] in
    let last = Plain I.Ecall ∷ [] in
    let places = putting whole left ∷ below in
    let v' = fielded field places v in
    let r = straight i f v v (λ b. Known g v h t (λ b'. (10, x) ∷ (11, 1) ∷ (17, 36) ∷ []) b) (front_of front last l) (omega arith) (λ b. (at b).pc)
    (λ b. let o = (at b).holds in let z = zero_is o.body in record {
      body = record { services = o.body.services; registers = o.body.registers; bytes = o.body.bytes; memory = o.body.memory };
      regs = (o.regs.0, (small_is _ 1 z (lit< tt), (small_is _ 36 z (lit< tt), tt)));
    }) in
    onward closed r (λ f1 at1.
    let l2 = back_of front last l in
    let calling : Calling _ code (i + 2) f1 (λ b. Done v' (f1 b).machine.memory x 1) = record {
      linked = l2;
      pc = λ b. (at1 b).pc;
      answers = λ b.
          let o = (at1 b).holds in
          called code (f1 b) v 36 x 1 _ _ _ (λ c x0 x1 x2 x3 x4. E.fixed_served c x0 x1) o.body.services o.regs.1.1.0 o.regs.0 o.regs.1.0 refl refl refl (λ c u. refl)
          ∙ field_answer code v (f1 b).machine.memory width whole left below x k field found wide serving.allowed serving.fits;
    } in
    let few : i + 2 < cost code = let n = l2.inside in omega (arith, n) in
    let counts : v'.world.acts ≡ suc v.world.acts = add-one v.world.acts in
    let pauses = call_pauses (i + 2) f1 v v' (λ b. (f1 b).machine.memory) (λ b. x) (λ b. 1) few serving.running (λ b. (at1 b).holds.body.services) counts calling in
    let q = call_acts (i + 2) (i + 3) f1 v v' (λ b. (f1 b).machine.memory) (λ b. x) (λ b. 1) (λ b. Known g v' h t nothing b) few counts calling
    (λ b. let o = (at1 b).holds.body in record { body = record { services = refl; registers = o.registers; bytes = o.bytes; memory = o.memory }; regs = tt }) in
    let e : i + 2 + 1 ≡ i + 3 = omega arith in
    comes_act (written (with_field field)) k s serving.world pauses
    (λ allowed.
    closed.done q tt _
    (goal field (reached q) (with_act (written (with_field field)) (λ w. refl) (λ w. refl) (at_other_places places (places_next v _ below found serving.places) serving) allowed)
    (λ b. record { pc = (reached_holds q b).pc ∙ ap (address b) e; holds = (reached_holds q b).holds }))))

-- a status in a1 beside a number in a0
abbrev stated : (x y : ℕ) → Base → List (ℕ × ℕ)
stated x y = argued (λ b. x) (λ b. y)

same_zero : (y z : ℕ) → y ≡ 0 → z ≡ 0 → (y == z) ≡ true
same_zero y z e e' = ap (λ u. u == z) e ∙ ap (λ u. 0 == u) e'

other_zero : (y z : ℕ) → y ≡ too_wide_code → z ≡ 0 → (y == z) ≡ false
other_zero y z e e' = ap (λ u. u == z) e ∙ ap (λ u. too_wide_code == u) e'

-- behind the question: a field that is too narrow ends the run, another is written
tested_piece : (o : Option (List ℕ)) {links : Links} {code : List Instr} {i : ℕ} {g : Ground} {v : Services} {h t : ℕ → ℕ} {s : State} {aims : Aims (Unit {0})} (closed : Closed code aims) (routines : Routines links code) (f : Family) (around : Around) (width : ℕ) (whole left : List FormatItem) (below : List EditPlace) (x k : ℕ) → fixed_field width (signed x) ≡ o → Finds v.edits (DataFormat (FixedItem width)) whole left below → Linked links code i (status_tested ++ (small a1 1 ∷ service 36)) → Serving k s v around.line → ((b : Base) → At b i (Known g v h t (stated x (field_status o)) b) (f b)) → Shown g h t k s v around.line (i + 6) (putting whole left ∷ below) aims → Comes code i f v aims (((R.or_error around too_wide_code o) >>= (λ field. act (written (with_field field)))) k s)
unfolding R.or_error ◌>>=◌ give
tested_piece None {code = code} {i = i} {s = s} {aims = aims} closed routines f around width whole left below x k wide found l serving at goal =
    let next' : List ℕ → Meaning (Unit {0}) = λ field. act (written (with_field field)) in
    let last = small a1 1 ∷ service 36 in
    let l1 = front_of status_tested last l in
    let inside = l1.inside in
    let far = routines.linked.inside in
    let r = skip_passed i f Test.Equal a1 zero_register (JumpTo RaiseError ∷ []) l1 at (λ b. other_zero _ _ (at b).holds.regs.1.0 (zero_is (at b).holds.body)) in
    onward closed r (λ f1 at1.
    let q = jump_piece (i + 1) (i + 1 + 2) f1 RaiseError (routines.at + 8) (omega arith) routines.error (let m = routines.linked.small' in omega (arith, far, m)) (record { reserved_stay = λ y u. refl; known_stay = λ b y u p. p; set = λ y u. refl }) (rest_of _ (JumpTo RaiseError ∷ []) l1) at1 in
    onward closed q (λ f2 at2.
    comes_on k (R.error {R = List ℕ} around too_wide_code k s) next'
    (error_piece (before_closed k next' closed) routines (i + 1 + 2) f2 around too_wide_code k (lit< tt) (omega (arith, inside, far)) serving
    (λ b. record { pc = (at2 b).pc; holds = record { body = (at2 b).holds.body; regs = ((at2 b).holds.regs.1.0, tt) } }))))
tested_piece (Some field) {code = code} {i = i} {g = g} {v = v} {h = h} {t = t} {s = s} {aims = aims} closed routines f around width whole left below x k wide found l serving at goal =
    let last = small a1 1 ∷ service 36 in
    let places = putting whole left ∷ below in
    let r = skip_taken i f Test.Equal a1 zero_register (JumpTo RaiseError ∷ []) (front_of status_tested last l) at (λ b. same_zero _ _ (at b).holds.regs.1.0 (zero_is (at b).holds.body)) in
    onward closed r (λ f1 at1.
    let e : i + 3 + 3 ≡ i + 6 = omega arith in
    written_piece closed f1 width whole left below x k field found wide (back_of status_tested last l) serving (λ b. record { pc = (at1 b).pc; holds = record { body = (at1 b).holds.body; regs = ((at1 b).holds.regs.0, tt) } })
    (λ field' f2 serving2 at2.
    subst (λ u. aims.done u f2 (fielded field' places v) tt (shown_state field' s)) (sym e)
    (goal field' f2 serving2 (λ b. record { pc = (at2 b).pc ∙ ap (address b) e; holds = (at2 b).holds }))))

shown_number : (around : Around) (p width : ℕ) (z : ℤ) (k : ℕ) (s : State) → P.shown_by around (ComputationalNumber p z) (FixedItem width) k s ≡ ((R.or_error around too_wide_code (fixed_field width z)) >>= (λ field. act (written (with_field field)))) k s
unfolding P.shown_by R.or_error ◌>>=◌ give
shown_number around p width z k s = refl

-- a number in a0 is shown by the next item
pub field_piece : {links : Links} {code : List Instr} {i : ℕ} {g : Ground} {v : Services} {h t : ℕ → ℕ} {s : State} {aims : Aims (Unit {0})} (closed : Closed code aims) (routines : Routines links code) (f : Family) (around : Around) (width : ℕ) (whole left : List FormatItem) (below : List EditPlace) (p : ℕ) (z : ℤ) (k : ℕ) → IsWide z → Finds v.edits (DataFormat (FixedItem width)) whole left below → Linked links code i number_written → Serving k s v around.line → ((b : Base) → At b i (Known g v h t (valued (word z)) b) (f b)) → Shown g h t k s v around.line (i + 9) (putting whole left ∷ below) aims → Comes code i f v aims (P.shown_by around (ComputationalNumber p z) (FixedItem width) k s)
field_piece {links = links} {code = code} {i = i} {g = g} {v = v} {h = h} {t = t} {s = s} {aims = aims} closed routines f around width whole left below p z k wide found l serving at goal =
    let x = word z in
    let o = fixed_field width (signed x) in
    let places = putting whole left ∷ below in
    let front = small a1 0 ∷ [] in
    let last = status_tested ++ (small a1 1 ∷ service 36) in
    let l1 = back_of front (service 36 ++ last) l in
    let r = straight i f v v (λ b. Known g v h t (stated x 0) b) (front_of front (service 36 ++ last) l) (omega arith) (λ b. (at b).pc)
    (λ b. let c = (at b).holds in record {
      body = record { services = c.body.services; registers = c.body.registers; bytes = c.body.bytes; memory = c.body.memory };
      regs = (c.regs.0, (small_is _ 0 (zero_is c.body) (lit< tt), tt));
    }) in
    let meant = shown_number around p width z k s ∙ ap (λ u. ((R.or_error around too_wide_code (fixed_field width u)) >>= (λ field. act (written (with_field field)))) k s) (sym (signed-word z wide)) in
    subst (Comes code i f v aims) (sym meant)
    (onward closed r (λ f1 at1.
    quiet_piece closed f1 v 36 (λ b. x) (λ b. 0) (λ b. x) (λ b. field_status o) (λ c x0 x1 x2 x3 x4. E.fixed_served c x0 x1) (lit< tt) (λ c u. refl) (omega arith)
    (λ b m x2 x3 x4 q. width_answer code v m width whole left below x found) (front_of (service 36) last l1) at1
    (λ f2 at2.
    let e : i + 1 + 2 + 6 ≡ i + 9 = omega arith in
    tested_piece o closed routines f2 around width whole left below x k refl found (back_of (service 36) last l1) serving at2
    (λ field f3 serving3 at3.
    subst (λ u. aims.done u f3 (fielded field places v) tt (shown_state field s)) (sym e)
    (goal field f3 serving3 (λ b. record { pc = (at3 b).pc ∙ ap (address b) e; holds = (at3 b).holds })))))
    )
