-- Control items of a list of GET: code carries them out, each by an act that reads, as the meaning does, up to the next
-- data item; a0 tells which it is, or that no character is left.
use Rattle.std.proofs.Common.{◌≡◌, ℕ, ◌+◌, ◌^◌, ◌<◌, ◌≤◌, List, [], ◌∷◌, Option, Some, None, Bool, true, false}
use Rattle.std.proofs.Common.{refl, ap, ◌∙◌, subst, arith, lit<}
use Rattle.std.specs.Prelude.{cond, ◌==◌}
use Rattle.rv_meaning.specs.declared.instr.Instr.TheVariants as I
use Rattle.rv_meaning.specs.declared.instr.BranchTest.TheVariants as Test
use Rattle.pli_meaning.specs.Control.{Meaning, act, give, given, stored, stuck, ◌>>=◌, ◌>>◌}
use Rattle.pli_meaning.specs.StorageState.{State, with_input}
use Rattle.pli_meaning.specs.World.{counted}
use Rattle.pli_meaning.specs.Streaming as P
use Rattle.pli_meaning.specs.Streaming.{ControlFormat, ControlItem, DataFormat, DataItem, FixedItem, FormatItem}
use Rattle.pli_meaning.specs.Streaming.{TextItem, control_read}
use Rattle.pli_meaning.specs.InputLines.{Input, has_character}
use Rattle.pli_serving.specs.Answers.{Answer, Done}
use Rattle.pli_serving.specs.Edits as E
use Rattle.pli_serving.specs.Edits.{NextItem}
use Rattle.pli_serving.specs.Outcomes.{or_bad}
use Rattle.pli_serving.specs.ServiceState.{EditPlace, Getting, Services}
use Rattle.pli_coding.specs.Assembly.{Code, JumpBack, Plain}
use Rattle.pli_coding.specs.Instructions.{service, skip_where, small}
use Rattle.pli_coding.specs.Registers.{a0, a7, zero_register}
use Rattle.pli_coding.specs.Streams.{controls_carried_out}
use Rattle.activation_relation.specs.Layers.{Point, services_of}
use Rattle.activation_relation.specs.Points.{AreOver}
use Rattle.run_steps.specs.Bodies.{Free, Known}
use Rattle.run_steps.proofs.Bodies.{zero_is}
use Rattle.run_steps.specs.Calls.{Calling}
use Rattle.run_steps.proofs.Calls.{acts, called}
use Rattle.run_steps.specs.Engine.{Base, address, call_at}
use Rattle.run_steps.specs.Items.{At, Linked}
use Rattle.run_steps.proofs.Items.{straight}
use Rattle.run_steps.proofs.Jumps.{back_of, front_of, rest_of, skip_passed, skip_taken}
use Rattle.run_steps.specs.Reach.{Aims, Closed, Comes, Family, Reach, cost}
use Rattle.run_steps.proofs.Reach.{before_closed, comes_on, onward, reach_then, stay}
use Rattle.run_steps.specs.Temporaries.{nothing}
use Rattle.pli_headline.proofs.Loops.{back_piece}
use Rattle.block_runs.proofs.BlockEntries.{small_is}
use Rattle.block_runs.proofs.PointGrounds.{point_ground}
use Rattle.program_runs.specs.Statements.{Block, IsAmong}
use Rattle.expression_runs.proofs.Words.{frame_of, valued}
use Rattle.text_runs.proofs.TextCalls.{Asking, asks}
use Rattle.edit_runs.specs.Edits.{AreItems, IsItem, Kinds, has_data, placing}
use Rattle.edit_runs.proofs.Controls.{current}
use Rattle.edit_runs.proofs.Places.{edits_among, over_place}
use Rattle.get_runs.specs.Gets.{getting}
use Rattle.get_runs.specs.Reading.{reading}
use Rattle.get_runs.proofs.Reading.{reading_among, reading_comes}
use Rattle.block_runs.specs.Machines.{limits_of}

-- ---- what is next at a place

-- an item is next at the newest place, with what is left of the list behind it
abbrev pub Finds : List EditPlace → FormatItem → (whole left : List FormatItem) → (below : List EditPlace) → Type 0
Finds edits item whole left below =
    (next : NextItem → List EditPlace → Answer) →
    E.on_next edits next ≡ next (record { item = item; behind = getting whole left }) below

current_first :
    (whole rest : List FormatItem) →
    E.next_in (getting whole rest) rest ≡ E.first_of (getting whole rest) (current whole rest)
current_first whole [] = refl
current_first whole (x ∷ xs) = refl

pub current_found :
    (whole rest left : List FormatItem) (x : FormatItem) (edits below : List EditPlace) →
    current whole rest ≡ x ∷ left → edits ≡ getting whole rest ∷ below → Finds edits x whole left below
current_found whole rest left x edits below is e =
    λ next. ap (λ es. E.on_next es next) e
    ∙ ap (λ o. or_bad o (λ n. next n below))
    (current_first whole rest ∙ ap (λ xs. E.first_of (getting whole rest) xs) is)

-- what comes first of these, or of the whole list behind them
abbrev next_of : (first : FormatItem) → List FormatItem → FormatItem
next_of first [] = first
next_of first (x ∷ xs) = x

abbrev behind_next : (more items : List FormatItem) → List FormatItem
behind_next more [] = more
behind_next more (x ∷ xs) = xs

current_next :
    (first : FormatItem) (more items : List FormatItem) →
    current (first ∷ more) items ≡ next_of first items ∷ behind_next more items
current_next first more [] = refl
current_next first more (x ∷ xs) = refl

-- 0 for a control item, 3 for a data item where no character is left
abbrev pub number_in : Point → FormatItem → ℕ
number_in p x = E.item_number Getting p.state.input x

-- ---- the loop

-- where it stands, in which block, with the list, whose data items are of these kinds, and what waits in registers; no
-- fewer acts are made there
pub record Loop : Type 0 where
  pub kinds : Kinds
  pub block : Block
  pub line : ℕ
  pub acts : ℕ
  pub first : FormatItem
  pub more : List FormatItem
  pub numbers : ℕ → ℕ
  pub index : ℕ
  pub credits : ℕ

abbrev pub list_of : Loop → List FormatItem
list_of z = z.first ∷ z.more

pub record IsLoop (z : Loop) : Type 0 where
  pub acts : z.block.call.surroundings.acts + 1 < 2 ^ 64
  pub over : AreOver z.block.first.control.entries z.block.first.control.edits z.block.first.control.layers
  pub linked : Linked z.block.call.surroundings.links z.block.call.code z.index controls_carried_out
  pub paid : z.credits + 7 ≤ cost z.block.call.code
  pub are : AreItems z.kinds (list_of z)
  pub some : has_data (list_of z) ≡ true

-- a point at which so much of the list is left
pub record Here (z : Loop) (rest : List FormatItem) (p : Point) : Type 0 where
  pub among : IsAmong (placing (getting (list_of z) rest) z.block) z.numbers p
  pub since : z.acts ≤ p.state.world.acts
  pub line : p.control.line ≡ z.line

abbrev pub Stands : (z : Loop) (p : Point) → frame_of z.block p → (index : ℕ) → (Base → List (ℕ × ℕ)) → Family → Type 0
Stands z p h index rs f =
    (b : Base) →
    At b index (Known (point_ground z.block.call.surroundings p h) (services_of p) z.numbers (λ j. 0) rs b) (f b)

-- whatever a0 tells
pub untold :
    (z : Loop) (p : Point) (h : frame_of z.block p) (index : ℕ) {rs : Base → List (ℕ × ℕ)} {f : Family} →
    Stands z p h index rs f → Stands z p h index nothing f
untold z p h index at b = record { pc = (at b).pc; holds = record { body = (at b).holds.body; regs = tt } }

-- such a point behind the loop, where a data item is next: a0 tells which
pub record Found (z : Loop) (c : ℕ) (f : Family) (v : Services) (next : DataItem × List FormatItem)
    (s : State) : Type 0
  where
    pub rest : List FormatItem
    pub left' : List FormatItem
    pub item : DataItem
    pub fits : IsItem z.kinds item
    pub next_is : next ≡ (item, left')
    pub current_is : current (list_of z) rest ≡ DataFormat item ∷ left'
    pub are : AreItems z.kinds left'
    pub point : Point
    pub frame : frame_of z.block point
    pub here : Here z rest point
    pub state : s ≡ point.state
    pub credits : ℕ
    pub few : credits ≤ z.credits + 5
    pub reach :
        Reach z.block.call.code c f v credits (services_of point)
        (λ b y. At b (z.index + 5) (Known (point_ground z.block.call.surroundings point frame) (services_of point)
        z.numbers (λ j. 0) (valued (number_in point (DataFormat item))) b) y)

abbrev pub found_aims : Loop → Aims (DataItem × List FormatItem)
found_aims z =
    record {
      limits = limits_of z.block.call.surroundings;
      done = λ c f v next s. Found z c f v next s;
      jumped = λ c f v height label s. ⊥;
      returned = λ c f v r s. ⊥;
    }

found_closed : (z : Loop) → Closed z.block.call.code (found_aims z)
found_closed z =
    record {
      done = λ r next s o. record {
        rest = o.rest;
        left' = o.left';
        item = o.item;
        fits = o.fits;
        next_is = o.next_is;
        current_is = o.current_is;
        are = o.are;
        point = o.point;
        frame = o.frame;
        here = o.here;
        state = o.state;
        credits = o.credits;
        few = o.few;
        reach = reach_then r o.reach;
      };
      jumped = λ r height label s o. absurd o;
      returned = λ r next s o. absurd o;
    }

-- ---- a turn

-- the point behind a control item, with so much of the list left
abbrev carried : (z : Loop) → ControlItem → (left' : List FormatItem) → Point → Point
carried z item left' p =
    reading (control_read item) (getting (list_of z) left' ∷ z.block.first.control.edits) p

carried_here :
    (z : Loop) → IsLoop z → (item : ControlItem) (rest left' : List FormatItem) {p : Point} → Here z rest p →
    p.state.world.acts < z.block.call.surroundings.acts → Here z left' (carried z item left' p)
carried_here z a item rest left' {p} here less =
    let first = z.block.first.control in
    let place = getting (list_of z) rest in
    let next = getting (list_of z) left' in
    let since = here.since in
    record {
      among = reading_among (control_read item)
          (edits_among z.block (place ∷ first.edits) (next ∷ first.edits) (next ∷ first.edits) here.among refl
          (over_place next first.entries first.edits first.layers a.over)) less;
      since = omega (arith, since);
      line = here.line;
    }

turn_comes :
    (z : Loop) → IsLoop z → {aims : Aims (Unit {0})} (closed : Closed z.block.call.code aims) (item : ControlItem)
    (rest left' : List FormatItem) {p : Point} (h : frame_of z.block p) → Here z rest p →
    current (list_of z) rest ≡ ControlFormat item ∷ left' → (c : ℕ) (f : Family) → c ≤ z.credits + 5 →
    {rs : Base → List (ℕ × ℕ)} → Stands z p h z.index rs f →
    ((f' : Family) → Here z left' (carried z item left' p) →
    Stands z (carried z item left' p) h (z.index + 2)
    (valued (number_in (carried z item left' p) (next_of z.first left'))) f' →
    aims.done 0 f' (services_of (carried z item left' p)) tt (carried z item left' p).state) →
    Comes z.block.call.code c f (services_of p) aims (P.control_got item z.block.call.surroundings.acts p.state)
unfolding P.control_got stored ◌>>◌
turn_comes z a closed item rest left' {p} h here is c f few at goal =
    let w = z.block.call.surroundings in
    let code = z.block.call.code in
    let v = services_of p in
    let q = carried z item left' p in
    let below = z.block.first.control.edits in
    let next = getting (list_of z) left' in
    let x = next_of z.first left' in
    let paid = a.paid in
    let front = small a7 35 ∷ [] in
    let last = Plain I.Ecall ∷ [] in
    let l = front_of (service 35) (skip_where Test.NotEqual a0 zero_register (JumpBack 3 ∷ [])) a.linked in
    let y : Base → ℕ = λ b. (f b).machine.registers 11 in
    let next' : Unit {0} → Meaning (Unit {0}) = λ u. stored (with_input (control_read item)) in
    let asked : Base → List (ℕ × ℕ) = λ b. (11, y b) ∷ (17, 35) ∷ [] in
    let r1 = straight c f v v (λ b. Known (point_ground w p h) v z.numbers (λ j. 0) asked b) (front_of front last l)
    (omega arith) (λ b. (at b).pc)
    (λ b. let o = (at b).holds in record {
      body = record {
        services = o.body.services;
        registers = o.body.registers;
        bytes = o.body.bytes;
        memory = o.body.memory;
      };
      regs = (refl, (small_is _ 35 (zero_is o.body) (omega arith), tt));
    }) in
    let found = current_found (list_of z) rest left' (ControlFormat item) p.control.edits below is
    here.among.later.edits in
    let again = current_found (list_of z) left' (behind_next z.more left') x (next ∷ below) below
    (current_next z.first z.more left') refl in
    onward closed r1
    (λ g at1.
    let calling : Calling w.links code (z.index + 1) g
    (λ b. Done (services_of q) (g b).machine.memory (number_in q x) (y b)) =
    record {
      linked = back_of front last l;
      pc = λ b. (at1 b).pc;
      answers = λ b.
          let o = (at1 b).holds in
          let r = (g b).machine.registers in
          let call = call_at code v (g b).machine.memory in
          let v' = E.with_edits (next ∷ below) (E.control_done Getting item v) in
          called code (g b) v 35 (r 10) (y b) (r 12) (r 13) (r 14) (λ c' x0 x1 x2 x3 x4. E.control_served c' x1)
          o.body.services o.regs.1.0 refl o.regs.0 refl refl refl (λ c' y'. refl)
          ∙ found (λ n below'. E.control_carried_out call (y b) n.item n.behind below')
          ∙ acts v w.acts _ here.among.stands.allowed a.acts
          ∙ again (λ n below'. Done v' (g b).machine.memory (E.item_number n.behind.direction v'.input n.item) (y b));
    } in
    comes_on w.acts (act counted w.acts p.state) next'
    (reading_comes (before_closed w.acts next' closed)
    (record {
      change = control_read item;
      edits = next ∷ below;
      first = λ b. number_in q x;
      second = y;
    })
    (c + 1) 0 g h here.among.stands (omega (arith, paid, few)) at1 calling
    (λ f' less at2.
    record {
      to = λ early.
          goal f' (carried_here z a item rest left' here less)
          (λ b. record {
            pc = (at2 b).pc ∙ ap (address b) (two_more z.index);
            holds = record { body = (at2 b).holds.body; regs = ((at2 b).holds.regs.0, tt) };
          });
    })))
  where
    two_more : (i : ℕ) → i + 1 + 1 ≡ i + 2
    two_more i = omega arith

-- ---- the test behind a call

data_not_zero :
    (item : DataItem) (there : Bool) (x y : ℕ) → x ≡ cond there (E.data_number item) 3 → y ≡ 0 →
    cond (x == y) false true ≡ true
data_not_zero item false x y e e' = ap (λ u. cond (u == y) false true) e ∙ ap (λ u. cond (3 == u) false true) e'
data_not_zero (FixedItem width) true x y e e' =
    ap (λ u. cond (u == y) false true) e ∙ ap (λ u. cond (1 == u) false true) e'
data_not_zero (TextItem width) true x y e e' =
    ap (λ u. cond (u == y) false true) e ∙ ap (λ u. cond (2 == u) false true) e'

none_zero : (x y : ℕ) → x ≡ 0 → y ≡ 0 → cond (x == y) false true ≡ false
none_zero x y e e' = ap (λ u. cond (u == y) false true) e ∙ ap (λ u. cond (0 == u) false true) e'

abbrev back_code : Code
back_code = JumpBack 3 ∷ []

abbrev asked_again : Code
asked_again = skip_where Test.NotEqual a0 zero_register back_code

free_by_value : (x : ℕ) → Free (valued x) 31
free_by_value x = record { reserved_stay = λ y u. refl; known_stay = λ b y u q. q; set = λ y u. refl }

-- a data item is next
abbrev DataBehind : Loop → Aims (Option (DataItem × List FormatItem)) → Type 0
DataBehind z aims =
    (rest left' : List FormatItem) (item : DataItem) → IsItem z.kinds item → (p : Point) (h : frame_of z.block p) →
    Here z rest p → current (list_of z) rest ≡ DataFormat item ∷ left' → AreItems z.kinds left' → (c : ℕ)
    (f : Family) → c ≤ z.credits + 5 → Stands z p h (z.index + 5) (valued (number_in p (DataFormat item))) f →
    aims.done c f (services_of p) (Some (item, left')) p.state

-- the list has ended, and begins again
abbrev EndBehind : Loop → (items : List FormatItem) → Aims (Option (DataItem × List FormatItem)) → Type 0
EndBehind z items aims =
    has_data items ≡ false → (p : Point) (h : frame_of z.block p) → Here z [] p → (c : ℕ) (f : Family) →
    c ≤ z.credits + 2 → Stands z p h (z.index + 2) (valued (number_in p z.first)) f →
    aims.done c f (services_of p) None p.state

-- these are left at a point
abbrev AreLeft : Loop → (rest items : List FormatItem) → Type 0
AreLeft z rest [] = rest ≡ []
AreLeft z rest (x ∷ xs) = current (list_of z) rest ≡ x ∷ xs

are_left : (z : Loop) (rest : List FormatItem) → AreLeft z rest rest
are_left z [] = refl
are_left z (x ∷ xs) = refl

-- behind a call, from what a0 tells on
passes_come :
    (z : Loop) → IsLoop z → {aims : Aims (Option (DataItem × List FormatItem))}
    (closed : Closed z.block.call.code aims) (items rest : List FormatItem) → AreItems z.kinds items → {p : Point}
    (h : frame_of z.block p) → Here z rest p → AreLeft z rest items → (c : ℕ) (f : Family) → c ≤ z.credits + 2 →
    Stands z p h (z.index + 2) (valued (number_in p (next_of z.first items))) f → DataBehind z aims →
    EndBehind z items aims →
    Comes z.block.call.code c f (services_of p) aims
    (P.controls P.control_got items z.block.call.surroundings.acts p.state)
unfolding P.controls ◌>>◌ give
passes_come z a closed [] rest are {p} h here is c f few at goal ended =
    record { to = λ early. ended refl p h (subst (λ r. Here z r p) is here) c f few at }
passes_come z a closed (DataFormat item ∷ left') rest are {p} h here is c f few at goal ended =
    let r = skip_taken c f Test.NotEqual a0 zero_register back_code (back_of (service 35) asked_again a.linked) at
    (λ b. data_not_zero item (has_character p.state.input.marks) _ _ (at b).holds.regs.0 (zero_is (at b).holds.body)) in
    onward closed r
    (λ g at1.
    record {
      to = λ early. goal rest left' item are.0 p h here is are.1 (c + 3) g (omega (arith, few))
          (λ b. record {
            pc = (at1 b).pc ∙ ap (address b) (three_more z.index);
            holds = (at1 b).holds;
          });
    })
  where
    three_more : (i : ℕ) → i + 2 + 3 ≡ i + 5
    three_more i = omega arith
passes_come z a closed (ControlFormat item ∷ left') rest are {p} h here is c f few at goal ended =
    let w = z.block.call.surroundings in
    let l = back_of (service 35) asked_again a.linked in
    let next' : Unit {0} → Meaning (Option (DataItem × List FormatItem)) =
    λ u. P.controls P.control_got left' in
    let r = skip_passed c f Test.NotEqual a0 zero_register back_code l at
    (λ b. none_zero _ _ (at b).holds.regs.0 (zero_is (at b).holds.body)) in
    onward closed r
    (λ g1 at1.
    onward closed
    (back_piece (c + 1) g1 3 z.index (omega arith) (free_by_value 0)
    (rest_of _ back_code l) at1)
    (λ g2 at2.
    comes_on w.acts (P.control_got item w.acts p.state) next'
    (turn_comes z a (before_closed w.acts next' closed) item rest left' h here is (c + 1 + 2) g2 (omega (arith, few))
    at2
    (λ g3 here3 at3.
    passes_come z a closed left' left' are h here3 (are_left z left') 0 g3 (omega arith) at3 goal ended))))

-- from the loop's beginning on, with an item that is next
called_comes :
    (z : Loop) → IsLoop z → {aims : Aims (Option (DataItem × List FormatItem))}
    (closed : Closed z.block.call.code aims) (x : FormatItem) (left' rest : List FormatItem) →
    AreItems z.kinds (x ∷ left') → {p : Point} (h : frame_of z.block p) → Here z rest p →
    current (list_of z) rest ≡ x ∷ left' → (f : Family) →
    Stands z p h z.index nothing f → DataBehind z aims → EndBehind z (x ∷ left') aims →
    Comes z.block.call.code z.credits f (services_of p) aims
    (P.controls P.control_got (x ∷ left') z.block.call.surroundings.acts p.state)
unfolding P.controls ◌>>◌ give
called_comes z a closed (DataFormat item) left' rest are {p} h here is f at goal ended =
    let w = z.block.call.surroundings in
    let v = services_of p in
    let x : Base → ℕ = λ b. (f b).machine.registers 10 in
    let y : Base → ℕ = λ b. (f b).machine.registers 11 in
    let z' : Base → ℕ = λ b. (f b).machine.registers 12 in
    let found = current_found (list_of z) rest left' (DataFormat item) p.control.edits
    z.block.first.control.edits is here.among.later.edits in
    let asking : Asking = record {
      number = 35;
      x = x;
      y = y;
      z = z';
      first = λ b. number_in p (DataFormat item);
      second = y;
      answer = λ call x0 x1 x2. E.control_served call x1;
    } in
    let r1 = asks {g' = point_ground w p h} {t = λ j. 0} asking z.credits f
    (record {
      small' = lit< tt;
      serves = λ call r. refl;
      answers = λ b m.
          let call = call_at z.block.call.code v m in
          found (λ n below'. E.control_carried_out call (y b) n.item n.behind below')
          ∙ found (λ n below'. Done v m (E.item_number n.behind.direction v.input n.item) (y b));
      more = omega arith;
    })
    (record { reserved = λ b. refl; memory = λ b m is'. is' }) (front_of (service 35) asked_again a.linked)
    (λ b. record { pc = (at b).pc; holds = record { body = (at b).holds.body; regs = (refl, (refl, (refl, tt))) } }) in
    onward closed r1
    (λ g at1.
    passes_come z a closed (DataFormat item ∷ left') rest are h here is (z.credits + 2) g (omega arith)
    (λ b. record { pc = (at1 b).pc; holds = record { body = (at1 b).holds.body; regs = ((at1 b).holds.regs.0, tt) } })
    goal ended)
called_comes z a closed (ControlFormat item) left' rest are {p} h here is f at goal ended =
    let w = z.block.call.surroundings in
    let next' : Unit {0} → Meaning (Option (DataItem × List FormatItem)) =
    λ u. P.controls P.control_got left' in
    comes_on w.acts (P.control_got item w.acts p.state) next'
    (turn_comes z a (before_closed w.acts next' closed) item rest left' h here is z.credits f (omega arith) at
    (λ g here1 at1.
    passes_come z a closed left' left' are h here1 (are_left z left') 0 g (omega arith) at1 goal ended))

-- ---- the next data item

true_not_false : (q : Bool) → q ≡ true → q ≡ false → ⊥
true_not_false true e e' = cc e'
true_not_false false e e' = cc e

-- the second time through the list finds one
abbrev found_again : Option (DataItem × List FormatItem) → Meaning (DataItem × List FormatItem)
found_again o = given o give stuck

is_found :
    (z : Loop) (rest left' : List FormatItem) (item : DataItem) → IsItem z.kinds item → {p : Point}
    (h : frame_of z.block p) → Here z rest p → current (list_of z) rest ≡ DataFormat item ∷ left' →
    AreItems z.kinds left' → (c : ℕ) (f : Family) → c ≤ z.credits + 5 →
    Stands z p h (z.index + 5) (valued (number_in p (DataFormat item))) f → Found z c f (services_of p) (item, left')
    p.state
is_found z rest left' item fits {p} h here is are c f few at =
    record {
      rest = rest;
      left' = left';
      item = item;
      fits = fits;
      next_is = refl;
      current_is = is;
      are = are;
      point = p;
      frame = h;
      here = here;
      state = refl;
      credits = c;
      few = few;
      reach = stay z.block.call.code c f (services_of p) _ at;
    }

pub next_comes :
    (z : Loop) → IsLoop z → (rest : List FormatItem) → AreItems z.kinds rest → {p : Point} (h : frame_of z.block p) →
    Here z rest p → (f : Family) → Stands z p h z.index nothing f →
    Comes z.block.call.code z.credits f (services_of p) (found_aims z)
    (P.next_item P.control_got (list_of z) rest z.block.call.surroundings.acts p.state)
unfolding P.next_item P.controls ◌>>=◌ give given stuck
next_comes z a [] are {p} h here f at =
    let w = z.block.call.surroundings in
    let closed = found_closed z in
    comes_on w.acts (P.controls P.control_got (list_of z) w.acts p.state) found_again
    (called_comes z a (before_closed w.acts found_again closed) z.first z.more [] a.are h here refl f at
    (λ rest left' item fits p' h' here' is are' c g few at'.
    record { to = λ early. is_found z rest left' item fits h' here' is are' c g few at' })
    (λ none. absurd (true_not_false (has_data (list_of z)) a.some none)))
next_comes z a (x ∷ left0) are {p} h here f at =
    let w = z.block.call.surroundings in
    let closed = found_closed z in
    let again : Meaning (DataItem × List FormatItem) = (P.controls P.control_got (list_of z)) >>= found_again in
    let next' : Option (DataItem × List FormatItem) → Meaning (DataItem × List FormatItem) =
    λ o. given o give again in
    comes_on w.acts (P.controls P.control_got (x ∷ left0) w.acts p.state) next'
    (called_comes z a (before_closed w.acts next' closed) x left0 (x ∷ left0) are h here refl f at
    (λ rest left' item fits p' h' here' is are' c g few at'.
    record { to = λ early. is_found z rest left' item fits h' here' is are' c g few at' })
    (λ none p' h' here' c g few at'.
    comes_on w.acts (P.controls P.control_got (list_of z) w.acts p'.state) found_again
    (passes_come z a (before_closed w.acts found_again closed) (list_of z) [] a.are h' here' refl c g few at'
    (λ rest left' item fits p2 h2 here2 is are2 c2 g2 few2 at2.
    record { to = λ early. is_found z rest left' item fits h2 here2 is are2 c2 g2 few2 at2 })
    (λ none2. absurd (true_not_false (has_data (list_of z)) a.some none2)))))
