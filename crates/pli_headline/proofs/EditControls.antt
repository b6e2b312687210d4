-- The loop of code that carries out control items, as the meaning does, up to the next data item. Each turn makes an act.
use Rattle.std.proofs.Common.{◌≡◌, ℕ, suc, ◌+◌, ◌<◌, ◌≤◌, List, [], ◌∷◌, Option, Some, None, Bool, true, false, refl, sym, ap, ◌∙◌, subst, arith, lit<, add-one}
use Rattle.std.specs.Prelude.{◌==◌, if◌then◌else◌}
use Rattle.rv_meaning.specs.declared.instr.Instr.{Instr}
use Rattle.rv_meaning.specs.declared.instr.Instr.TheVariants as I
use Rattle.rv_meaning.specs.declared.instr.BranchTest.TheVariants as Test
use Rattle.pli_meaning.specs.World.{World, written}
use Rattle.pli_meaning.specs.StorageState.{State, with_world}
use Rattle.pli_meaning.specs.Control.{Meaning, give, given, stuck, ◌>>=◌, ◌>>◌}
use Rattle.pli_meaning.specs.Streaming as P
use Rattle.pli_meaning.specs.Streaming.{FormatItem, DataFormat, ControlFormat, DataItem, FixedItem, TextItem, ControlItem, control_written}
use Rattle.pli_serving.specs.ServiceState.{Services, EditPlace, Entry}
use Rattle.pli_serving.specs.Answers.{Done}
use Rattle.pli_serving.specs.Edits as E
use Rattle.pli_coding.specs.Registers.{zero_register, a0, a7}
use Rattle.pli_coding.specs.Assembly.{Plain, JumpBack, Code}
use Rattle.pli_coding.specs.Instructions.{small, service, skip_where}
use Rattle.pli_coding.specs.Streams.{controls_carried_out}
use Rattle.pli_coding.specs.Linking.{Links}
use Rattle.pli_headline.proofs.HeldPlaces.{places_next}
use Rattle.pli_headline.proofs.Storages.{Storage, storage}
use Rattle.run_steps.specs.Engine.{Base, address}
use Rattle.run_steps.specs.Items.{Linked, At}
use Rattle.run_steps.proofs.Items.{straight}
use Rattle.run_steps.specs.Bodies.{Ground, Known, Free}
use Rattle.run_steps.proofs.Bodies.{zero_is}
use Rattle.run_steps.proofs.Jumps.{front_of, back_of, rest_of, skip_taken, skip_passed}
use Rattle.run_steps.specs.Temporaries.{nothing}
use Rattle.run_steps.specs.Calls.{Calling}
use Rattle.run_steps.proofs.Calls.{comes_act, called, call_acts, call_pauses}
use Rattle.pli_headline.proofs.Serving.{Serving}
use Rattle.pli_headline.proofs.Raising.{small_is, with_act}
use Rattle.pli_headline.proofs.Operators.{valued}
use Rattle.pli_headline.proofs.Loops.{back_piece}
use Rattle.pli_headline.proofs.FormatData.{Suit, has_data, true_false}
use Rattle.pli_headline.proofs.EditItems.{putting, Finds, FindsAt, finds_left, finds_again, finds_next, next_of, behind_next, number_of, carried, asked_answer, carried_answer}
use Rattle.pli_headline.proofs.EditPieces.{quiet_piece, at_other_places}
use Rattle.run_steps.specs.Reach.{Family, Aims, Comes, Closed, cost, reached}
use Rattle.run_steps.proofs.Reach.{before_closed, comes_on, onward, reached_holds}

-- ---- what stays while control items are carried out

-- what acts leave of a state as it is
pub record Kept (Q : Storage → State → Type 0) : Type 0 where
  pub keeps : (xs : Storage) (w : World) (s : State) → Q xs s → Q xs (with_world w s)

-- a state and services that stand together, with the texts that wait
pub record Underway (Q : Storage → State → Type 0) (texts : List Entry) (k line : ℕ) (s : State) (v : Services) : Type 0 where
  pub serving : Serving k s v line
  pub holds : Q (storage v) s
  pub texts_are : v.entries ≡ texts

-- ---- a turn

abbrev carried_state : ControlItem → State → State
carried_state item s = with_world (written (control_written item) s.world) s

-- a control item is next: it is carried out, and what is next behind it is in a0
turn_piece : {links : Links} {code : List Instr} {i : ℕ} {g : Ground} {v : Services} {h t : ℕ → ℕ} {rs : Base → List (ℕ × ℕ)} {s : State} {Q : Storage → State → Type 0} {texts : List Entry} {line : ℕ} {aims : Aims (Unit {0})} (kept : Kept Q) (closed : Closed code aims) (credits : ℕ) (f : Family) (item : ControlItem) (whole left : List FormatItem) (below : List EditPlace) (x : FormatItem) (behind : List FormatItem) (k : ℕ) → Finds v.edits (ControlFormat item) whole left below → Finds (putting whole left ∷ below) x whole behind below → credits + 2 ≤ cost code → Linked links code i (service 35) → Underway Q texts k line s v → ((b : Base) → At b i (Known g v h t rs b) (f b)) → ((f' : Family) → Underway Q texts k line (carried_state item s) (carried item (putting whole left ∷ below) v) → ((b : Base) → At b (i + 2) (Known g (carried item (putting whole left ∷ below) v) h t (valued (number_of x)) b) (f' b)) → aims.done (i + 2) f' (carried item (putting whole left ∷ below) v) tt (carried_state item s)) → Comes code credits f v aims (P.control_put item k s)
unfolding P.control_put
turn_piece {code = code} {i = i} {g = g} {v = v} {h = h} {t = t} {s = s} kept closed credits f item whole left below x behind k found again paid l under at goal =
    let front = small a7 35 ∷ [] in
    let last = Plain I.Ecall ∷ [] in
    let places = putting whole left ∷ below in
    let v' = carried item places v in
    let serving = under.serving in
    let y : Base → ℕ = λ b. (f b).machine.registers 11 in
    let r = straight credits f v v (λ b. Known g v h t (λ b'. (11, y b') ∷ (17, 35) ∷ []) b) (front_of front last l) (omega arith) (λ b. (at b).pc)
    (λ b. let o = (at b).holds in let z = zero_is o.body in record {
      body = record { services = o.body.services; registers = o.body.registers; bytes = o.body.bytes; memory = o.body.memory };
      regs = (refl, (small_is _ 35 z (lit< tt), tt));
    }) in
    onward closed r (λ f1 at1.
    let l2 = back_of front last l in
    let calling : Calling _ code (i + 1) f1 (λ b. Done v' (f1 b).machine.memory (number_of x) (y b)) = record {
      linked = l2;
      pc = λ b. (at1 b).pc;
      answers = λ b.
          let o = (at1 b).holds in
          called code (f1 b) v 35 _ (y b) _ _ _ (λ c x0 x1 x2 x3 x4. E.control_served c x1) o.body.services o.regs.1.0 refl o.regs.0 refl refl refl (λ c u. refl)
          ∙ carried_answer code v (f1 b).machine.memory item whole left below x behind (y b) k found again serving.allowed serving.fits;
    } in
    let few : credits + 1 < cost code = omega (arith, paid) in
    let counts : v'.world.acts ≡ suc v.world.acts = add-one v.world.acts in
    let pauses = call_pauses (credits + 1) f1 v v' (λ b. (f1 b).machine.memory) (λ b. number_of x) y few serving.running (λ b. (at1 b).holds.body.services) counts calling in
    let q = call_acts (credits + 1) (i + 2) f1 v v' (λ b. (f1 b).machine.memory) (λ b. number_of x) y (λ b. Known g v' h t (valued (number_of x)) b) few counts calling
    (λ b. let o = (at1 b).holds.body in record { body = record { services = refl; registers = o.registers; bytes = o.bytes; memory = o.memory }; regs = (refl, tt) }) in
    let e : i + 1 + 1 ≡ i + 2 = omega arith in
    comes_act (written (control_written item)) k s serving.world pauses
    (λ allowed.
    closed.done q tt _
    (goal (reached q)
    (record {
      serving = at_other_places places (places_next v _ below found serving.places) (with_act (written (control_written item)) (λ w. refl) (λ w. refl) serving allowed);
      holds = kept.keeps _ _ s under.holds;
      texts_are = under.texts_are;
    })
    (λ b. record { pc = (reached_holds q b).pc ∙ ap (address b) e; holds = (reached_holds q b).holds }))))

-- ---- the test behind a call

data_not_zero : (d : DataItem) (x z : ℕ) → x ≡ E.data_number d → z ≡ 0 → (if x == z then false else true) ≡ true
data_not_zero (FixedItem width) x z e e' = ap (λ u. if u == z then false else true) e ∙ ap (λ u. if 1 == u then false else true) e'
data_not_zero (TextItem width) x z e e' = ap (λ u. if u == z then false else true) e ∙ ap (λ u. if 2 == u then false else true) e'

none_zero : (x z : ℕ) → x ≡ 0 → z ≡ 0 → (if x == z then false else true) ≡ false
none_zero x z e e' = ap (λ u. if u == z then false else true) e ∙ ap (λ u. if 0 == u then false else true) e'

abbrev back_code : Code
back_code = JumpBack 3 ∷ []

abbrev test_code : Code
test_code = skip_where Test.NotEqual a0 zero_register back_code

free_by_value : (x : ℕ) → Free (valued x) 31
free_by_value x = record { reserved_stay = λ y u. refl; known_stay = λ b y u q. q; set = λ y u. refl }

-- a data item is next
abbrev pub DataBehind : Ground → (h t : ℕ → ℕ) → (Q : Storage → State → Type 0) → List Entry → (k line : ℕ) → (fixed text : Bool) → (i : ℕ) → (whole : List FormatItem) → (below : List EditPlace) → {R : Type 0} → (DataItem × List FormatItem → R) → Aims R → Type 0
DataBehind g h t Q texts k line fixed text i whole below result aims =
    (s : State) (v : Services) (f : Family) (d : DataItem) (left : List FormatItem) → Underway Q texts k line s v → Finds v.edits (DataFormat d) whole left below → Suit fixed text (DataFormat d ∷ left) → ((b : Base) → At b i (Known g v h t (valued (E.data_number d)) b) (f b)) → aims.done i f v (result (d, left)) s

-- the list has ended, and begins again with an item of which a0 tells
abbrev EndBehind : Ground → (h t : ℕ → ℕ) → (Q : Storage → State → Type 0) → List Entry → (k line : ℕ) → (i : ℕ) → (first : FormatItem) → (more : List FormatItem) → (below : List EditPlace) → (items : List FormatItem) → Aims (Option (DataItem × List FormatItem)) → Type 0
EndBehind g h t Q texts k line i first more below items aims =
    has_data items ≡ false → (s : State) (v : Services) (f : Family) → Underway Q texts k line s v → v.edits ≡ putting (first ∷ more) [] ∷ below → ((b : Base) → At b i (Known g v h t (valued (number_of first)) b) (f b)) → aims.done i f v None s

-- past the test, where a data item is next
data_piece : {links : Links} {code : List Instr} {i : ℕ} {g : Ground} {v : Services} {h t : ℕ → ℕ} {s : State} {Q : Storage → State → Type 0} {texts : List Entry} {line k : ℕ} {whole : List FormatItem} {below : List EditPlace} {aims : Aims (Option (DataItem × List FormatItem))} (closed : Closed code aims) (fixed text : Bool) (f : Family) (d : DataItem) (left : List FormatItem) → Finds v.edits (DataFormat d) whole left below → Suit fixed text (DataFormat d ∷ left) → Linked links code i controls_carried_out → Underway Q texts k line s v → ((b : Base) → At b (i + 2) (Known g v h t (valued (E.data_number d)) b) (f b)) → DataBehind g h t Q texts k line fixed text (i + 5) whole below Some aims → Comes code (i + 2) f v aims (P.controls P.control_put (DataFormat d ∷ left) k s)
unfolding P.controls give
data_piece {i = i} {v = v} {s = s} {aims = aims} closed fixed text f d left found suits l under at goal =
    let e : i + 2 + 3 ≡ i + 5 = omega arith in
    let r = skip_taken (i + 2) f Test.NotEqual a0 zero_register back_code (back_of (service 35) test_code l) at (λ b. data_not_zero d _ _ (at b).holds.regs.0 (zero_is (at b).holds.body)) in
    onward closed r (λ f1 at1.
    record {
      to = λ early.
          subst (λ u. aims.done u f1 v (Some (d, left)) s) (sym e)
          (goal s v f1 d left under found suits (λ b. record { pc = (at1 b).pc ∙ ap (address b) e; holds = (at1 b).holds }));
    })

-- from the call on, with credits for a turn
again_piece : {links : Links} {code : List Instr} {i : ℕ} {g : Ground} {v : Services} {h t : ℕ → ℕ} {rs : Base → List (ℕ × ℕ)} {s : State} {Q : Storage → State → Type 0} {texts : List Entry} {line k : ℕ} {first : FormatItem} {more : List FormatItem} {below : List EditPlace} {aims : Aims (Option (DataItem × List FormatItem))} (kept : Kept Q) (closed : Closed code aims) (credits : ℕ) (f : Family) (item : ControlItem) (left : List FormatItem) → Finds v.edits (ControlFormat item) (first ∷ more) left below → credits + 2 ≤ cost code → Linked links code i (service 35) → Underway Q texts k line s v → ((b : Base) → At b i (Known g v h t rs b) (f b)) → ((s' : State) (v' : Services) (f' : Family) → Underway Q texts k line s' v' → v'.edits ≡ putting (first ∷ more) left ∷ below → ((b : Base) → At b (i + 2) (Known g v' h t (valued (number_of (next_of first left))) b) (f' b)) → Comes code (i + 2) f' v' aims (P.controls P.control_put left k s')) → Comes code credits f v aims (P.controls P.control_put (ControlFormat item ∷ left) k s)
unfolding P.controls ◌>>◌
again_piece {v = v} {s = s} {k = k} {first = first} {more = more} {below = below} kept closed credits f item left found paid l under at next' =
    let rest' : Unit {0} → Meaning (Option (DataItem × List FormatItem)) = λ u. P.controls P.control_put left in
    comes_on k (P.control_put item k s) rest'
    (turn_piece kept (before_closed k rest' closed) credits f item (first ∷ more) left below (next_of first left) (behind_next more left) k found (finds_next first more left below) paid l under at
    (λ f1 under1 at1. next' _ _ f1 under1 refl at1))

-- behind a call, from what a0 tells on
passes_piece : {links : Links} {code : List Instr} {i : ℕ} {g : Ground} {h t : ℕ → ℕ} {Q : Storage → State → Type 0} {texts : List Entry} {line k : ℕ} {first : FormatItem} {more : List FormatItem} {below : List EditPlace} {aims : Aims (Option (DataItem × List FormatItem))} (kept : Kept Q) (closed : Closed code aims) (fixed text : Bool) (items : List FormatItem) (f : Family) (s : State) (v : Services) → FindsAt v.edits items (first ∷ more) below → Suit fixed text items → Linked links code i controls_carried_out → Underway Q texts k line s v → ((b : Base) → At b (i + 2) (Known g v h t (valued (number_of (next_of first items))) b) (f b)) → DataBehind g h t Q texts k line fixed text (i + 5) (first ∷ more) below Some aims → EndBehind g h t Q texts k line (i + 2) first more below items aims → Comes code (i + 2) f v aims (P.controls P.control_put items k s)
unfolding P.controls give
passes_piece kept closed fixed text [] f s v found suits l under at goal ended = record
    { to = λ early. ended refl s v f under found at }
passes_piece kept closed fixed text (DataFormat d ∷ left) f s v found suits l under at goal ended =
    data_piece closed fixed text f d left found suits l under at goal
passes_piece {code = code} {i = i} {first = first} {more = more} {below = below} kept closed fixed text (ControlFormat item ∷ left) f s v found suits l under at goal ended =
    let inside = l.inside in
    let l2 = back_of (service 35) test_code l in
    let r = skip_passed (i + 2) f Test.NotEqual a0 zero_register back_code l2 at (λ b. none_zero _ _ (at b).holds.regs.0 (zero_is (at b).holds.body)) in
    onward closed r (λ f1 at1.
    onward closed (back_piece (i + 2 + 1) f1 3 i (omega arith) (free_by_value 0) (rest_of _ back_code l2) at1)
    (λ f2 at2.
    again_piece kept closed (i + 2 + 1 + 2) f2 item left found (omega (arith, inside)) (front_of (service 35) test_code l) under at2
    (λ s3 v3 f3 under3 edits3 at3.
    passes_piece kept closed fixed text left f3 s3 v3 (finds_left v3.edits left (first ∷ more) below edits3) suits l under3 at3 goal ended)))

-- from the call on, with an item that is next
called_piece : {links : Links} {code : List Instr} {i : ℕ} {g : Ground} {h t : ℕ → ℕ} {s : State} {v : Services} {Q : Storage → State → Type 0} {texts : List Entry} {line k : ℕ} {first : FormatItem} {more : List FormatItem} {below : List EditPlace} {aims : Aims (Option (DataItem × List FormatItem))} (kept : Kept Q) (closed : Closed code aims) (fixed text : Bool) (f : Family) (x : FormatItem) (left : List FormatItem) → Finds v.edits x (first ∷ more) left below → Suit fixed text (x ∷ left) → Linked links code i controls_carried_out → Underway Q texts k line s v → ((b : Base) → At b i (Known g v h t nothing b) (f b)) → DataBehind g h t Q texts k line fixed text (i + 5) (first ∷ more) below Some aims → EndBehind g h t Q texts k line (i + 2) first more below (x ∷ left) aims → Comes code i f v aims (P.controls P.control_put (x ∷ left) k s)
called_piece {code = code} {i = i} {v = v} {first = first} {more = more} {below = below} kept closed fixed text f (DataFormat d) left found suits l under at goal ended =
    let x : Base → ℕ = λ b. (f b).machine.registers 10 in
    let y : Base → ℕ = λ b. (f b).machine.registers 11 in
    quiet_piece closed f v 35 x y (λ b. E.data_number d) y (λ c x0 x1 x2 x3 x4. E.control_served c x1) (lit< tt) (λ c u. refl) (omega arith)
    (λ b m x2 x3 x4 o. asked_answer code v m d (first ∷ more) left below (y b) found) (front_of (service 35) test_code l) (λ b. record { pc = (at b).pc; holds = record { body = (at b).holds.body; regs = (refl, (refl, tt)) } })
    (λ f1 at1.
    data_piece closed fixed text f1 d left found suits l under (λ b. record { pc = (at1 b).pc; holds = record { body = (at1 b).holds.body; regs = ((at1 b).holds.regs.0, tt) } }) goal)
called_piece {i = i} {first = first} {more = more} {below = below} kept closed fixed text f (ControlFormat item) left found suits l under at goal ended =
    let inside = l.inside in
    again_piece kept closed i f item left found (omega (arith, inside)) (front_of (service 35) test_code l) under at
    (λ s1 v1 f1 under1 edits1 at1.
    passes_piece kept closed fixed text left f1 s1 v1 (finds_left v1.edits left (first ∷ more) below edits1) suits l under1 at1 goal ended)

-- ---- the next data item

-- the second time through the list finds one
abbrev found_again : Option (DataItem × List FormatItem) → Meaning (DataItem × List FormatItem)
found_again o = given o give stuck

pub next_piece : {links : Links} {code : List Instr} {i : ℕ} {g : Ground} {h t : ℕ → ℕ} {s : State} {v : Services} {Q : Storage → State → Type 0} {texts : List Entry} {line : ℕ} {aims : Aims (DataItem × List FormatItem)} (kept : Kept Q) (closed : Closed code aims) (fixed text : Bool) (f : Family) (whole rest : List FormatItem) (below : List EditPlace) (k : ℕ) → has_data whole ≡ true → Suit fixed text whole → Suit fixed text rest → v.edits ≡ putting whole rest ∷ below → Linked links code i controls_carried_out → Underway Q texts k line s v → ((b : Base) → At b i (Known g v h t nothing b) (f b)) → DataBehind g h t Q texts k line fixed text (i + 5) whole below (λ r. r) aims → Comes code i f v aims (P.next_item P.control_put whole rest k s)
unfolding P.next_item P.controls ◌>>=◌ give given stuck
next_piece kept closed fixed text f [] rest below k has suits left_suits edits l under at goal = absurd (cc has)
next_piece {s = s} {v = v} kept closed fixed text f (first ∷ more) [] below k has suits left_suits edits l under at goal =
    comes_on k (P.controls P.control_put (first ∷ more) k s) found_again
    (called_piece kept (before_closed k found_again closed) fixed text f first more (finds_again v.edits first more below edits) suits l under at
    (λ s1 v1 f1 d left under1 found1 suits1 at1. record { to = λ early. goal s1 v1 f1 d left under1 found1 suits1 at1 })
    (λ none. true_false (has_data (first ∷ more)) has none))
next_piece {s = s} {v = v} kept closed fixed text f (first ∷ more) (x ∷ left) below k has suits left_suits edits l under at goal =
    let again : Meaning (DataItem × List FormatItem) = (P.controls P.control_put (first ∷ more)) >>= found_again in
    let next' : Option (DataItem × List FormatItem) → Meaning (DataItem × List FormatItem) = λ o. given o give again in
    comes_on k (P.controls P.control_put (x ∷ left) k s) next'
    (called_piece kept (before_closed k next' closed) fixed text f x left (λ next. ap (λ u. E.on_next u next) edits) left_suits l under at
    (λ s1 v1 f1 d behind under1 found1 suits1 at1. record
    { to = λ early. goal s1 v1 f1 d behind under1 found1 suits1 at1 })
    (λ none s1 v1 f1 under1 edits1 at1.
    comes_on k (P.controls P.control_put (first ∷ more) k s1) found_again
    (passes_piece kept (before_closed k found_again closed) fixed text (first ∷ more) f1 s1 v1 (finds_again v1.edits first more below edits1) suits l under1 at1
    (λ s2 v2 f2 d behind under2 found2 suits2 at2. record
    { to = λ early. goal s2 v2 f2 d behind under2 found2 suits2 at2 })
    (λ none2. true_false (has_data (first ∷ more)) has none2))))
