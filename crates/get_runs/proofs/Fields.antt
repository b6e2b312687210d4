-- A field of GET: it is taken, an act, becomes a number or ERROR, and goes to its target.
use Rattle.std.proofs.Common.{◌≡◌, ℕ, ◌+◌, ◌^◌, ◌<◌, ◌≤◌, List, [], ◌∷◌, ◌++◌, Option, Some, None, Bool}
use Rattle.std.proofs.Common.{true, false, refl, sym, ap, ◌∙◌, subst, arith, lit<}
use Rattle.std.specs.Prelude.{ℤ, cond, ◌&&◌, ◌==◌}
use Rattle.rv_meaning.specs.declared.instr.BranchTest.TheVariants as Test
use Rattle.rv_meaning.specs.declared.instr.Instr.{Instr}
use Rattle.rv_meaning.specs.declared.instr.Instr.TheVariants as I
use Rattle.rv_meaning.specs.Words.{word}
use Rattle.pli_language.specs.Tree as T
use Rattle.pli_language.specs.declared.condition.Condition.TheVariants as C
use Rattle.pli_typing.specs.Signatures.{Fixed}
use Rattle.pli_typing.specs.TypedTree as Y
use Rattle.pli_meaning.specs.BasicValues.{BasicNumber, BasicValue}
use Rattle.pli_meaning.specs.Codes.{conversion_code, endfile_code}
use Rattle.pli_meaning.specs.Control.{Flow, Label, Meaning, act, choose, flow_on, give, given, looked, stored, stuck}
use Rattle.pli_meaning.specs.Control.{◌>>=◌}
use Rattle.pli_meaning.specs.Control.{◌>>◌}
use Rattle.pli_meaning.specs.DeclaredShapes.{kind_of}
use Rattle.pli_meaning.specs.Evaluating.{designated}
use Rattle.pli_meaning.specs.Executing as M
use Rattle.pli_meaning.specs.InputLines.{Input, behind_field, field_of, has_character}
use Rattle.pli_meaning.specs.Numbers.{is_of_precision}
use Rattle.pli_meaning.specs.Placing.{element_stored}
use Rattle.pli_meaning.specs.Raising as R
use Rattle.pli_meaning.specs.Raising.{Around}
use Rattle.pli_meaning.specs.StorageState.{State, with_input, with_world}
use Rattle.pli_meaning.specs.Streaming as P
use Rattle.pli_meaning.specs.Streaming.{DataFormat, Field, FixedItem, FormatItem, NumberField, TextItem}
use Rattle.pli_meaning.specs.Texts.{number_in_text}
use Rattle.pli_meaning.specs.World.{counted}
use Rattle.pli_serving.specs.Answers.{Done, acting}
use Rattle.pli_serving.specs.Edits as E
use Rattle.pli_serving.specs.Finding.{Call}
use Rattle.pli_serving.specs.Outcomes.{bad_unless}
use Rattle.pli_serving.specs.ServiceState.{EditPlace, Services}
use Rattle.pli_coding.specs.Assembly.{Code, JumpAhead, JumpTo, Plain, RaiseError, size_of}
use Rattle.pli_coding.specs.Environments.{Environment, Taken}
use Rattle.pli_coding.specs.Instructions.{choice, service, skip_where, small, status_tested, tested_service}
use Rattle.pli_coding.specs.Registers.{a0, a7, held_registers, u1}
use Rattle.pli_coding.specs.Storing.{word_stored}
use Rattle.pli_coding.specs.Streams as S
use Rattle.pli_coding.specs.Streams.{has_fixed, has_text}
use Rattle.activation_relation.specs.Layers.{Point, services_of}
use Rattle.run_steps.specs.Bodies.{Free, Known}
use Rattle.run_steps.proofs.Bodies.{zero_is}
use Rattle.run_steps.specs.Calls.{Calling}
use Rattle.run_steps.proofs.Calls.{acts, called}
use Rattle.run_steps.specs.Engine.{Base, address, call_at}
use Rattle.run_steps.specs.Items.{At, Linked}
use Rattle.run_steps.proofs.Items.{straight}
use Rattle.run_steps.proofs.Jumps.{ahead_piece, back_of, front_of, linked_at, rest_of, skip_passed, skip_taken}
use Rattle.run_steps.proofs.Linking.{size_append}
use Rattle.run_steps.specs.Numbers.{IsWide}
use Rattle.run_steps.specs.Reach.{Aims, Closed, Comes, Family, Reach, before, cost, reached}
use Rattle.run_steps.proofs.Reach.{before_closed, comes_on, onward, reach_map, reach_then, reached_holds, stay}
use Rattle.run_steps.specs.Temporaries.{nothing}
use Rattle.image_runs.specs.Runs.{Whole}
use Rattle.block_runs.specs.Machines.{AreIn, IsIn, limits_of}
use Rattle.block_runs.proofs.BlockEntries.{small_is}
use Rattle.block_runs.proofs.CallStatements.{comes_map}
use Rattle.block_runs.proofs.PointGrounds.{in_known, known_in, point_frame, point_ground}
use Rattle.program_runs.specs.Statements.{IsAmong, JumpsTo, set_aside}
use Rattle.program_runs.proofs.JumpsOut.{jumps_later, jumps_since}
use Rattle.expression_runs.specs.Values.{Setting}
use Rattle.expression_runs.proofs.Assignments.{fit_is}
use Rattle.expression_runs.proofs.Words.{frame_of, valued}
use Rattle.text_runs.specs.Texts.{error_aims}
use Rattle.text_runs.proofs.Lengths.{number_wide}
use Rattle.text_runs.proofs.TextCalls.{status_none, status_some, two}
use Rattle.edit_runs.specs.Edits.{AreItems, kinds_of, placing, within}
use Rattle.edit_runs.proofs.Controls.{current}
use Rattle.edit_runs.proofs.Places.{edits_among, jumps_down, over_place}
use Rattle.get_runs.specs.Gets.{IsTarget, behind_aims, endfile_raised, getting}
use Rattle.get_runs.specs.Reading.{reading}
use Rattle.get_runs.proofs.Controls.{Finds, current_found, number_in}
use Rattle.get_runs.proofs.Items.{AreRead, HasLeft, Reads, got_aims, got_closed, setting_in, whole_in}
use Rattle.get_runs.proofs.Reading.{reading_among, reading_comes}

-- with more credits than it wants
pub reach_more :
    {code : List Instr} {c : ℕ} {f : Family} {v : Services} {c' : ℕ} {v' : Services} {Q : Base → Whole → Type 0}
    (c'' : ℕ) → Reach code c f v c' v' Q → c' ≤ c'' → Reach code c f v c'' v' Q
reach_more c'' r less =
    let paid = r.paid in
    record { count = r.count; paid = omega (arith, paid, less); grows = r.grows; goes = r.goes }

-- ---- what is next, and where it goes

pub record Next : Type 0 where
  pub target : Y.Reference
  pub rest : List FormatItem
  pub width : ℕ
  pub left' : List FormatItem
  pub point : Point
  pub numbers : ℕ → ℕ
  pub acts : ℕ
  pub end : ℕ
  pub wanted : ℕ

abbrev pub place_of : Reads → (rest : List FormatItem) → EditPlace
place_of u rest = getting (whole_in u) rest

abbrev pub places : Reads → Next → List EditPlace
places u n = place_of u n.left' ∷ u.block.first.control.edits

-- the point behind the field
abbrev pub taken_point : Reads → Next → Point
taken_point u n = reading (behind_field n.width) (places u n) n.point

abbrev pub field_text : Next → List ℕ
field_text n = field_of n.width n.point.state.input

pub record IsNext (u : Reads) (n : Next) : Type 0 where
  pub among : IsAmong (placing (place_of u n.rest) u.block) n.numbers n.point
  pub line : n.point.control.line ≡ u.line
  pub next : current (whole_in u) n.rest ≡ DataFormat (FixedItem n.width) ∷ n.left'
  pub are : AreItems (kinds_of u.formats) n.left'
  pub since : n.acts ≤ n.point.state.world.acts
  pub target : (place : EditPlace) → IsTarget (within place (setting_in u)) u.need n.target

abbrev pub Stands : (u : Reads) (n : Next) (p : Point) → frame_of u.block p → (index : ℕ) →
    (Base → List (ℕ × ℕ)) → Family → Type 0
Stands u n p h index rs f =
    (b : Base) →
    At b index (Known (point_ground u.block.call.surroundings p h) (services_of p) n.numbers (λ j. 0) rs b) (f b)

abbrev pub stored_code : Reads → Next → Code
stored_code u n = word_stored u.block.environment (set_aside u.words) n.target

-- ---- its number is stored

scalar_by :
    (around : Around) (r : Y.Reference) (z : ℤ) (k : ℕ) (s : State) → is_of_precision 31 z ≡ true →
    (o : Option Y.LeafType) → o ≡ Some (Y.FixedLeaf 31) →
    (given o
    (λ t. (P.field_converted around (kind_of [] t) (NumberField z)) >>= (λ v.
    (designated around r) >>= (λ d. element_stored d v))) stuck) k s
    ≡ M.assigned around r (BasicNumber z) k s
unfolding P.field_converted P.number_kept M.assigned given ◌>>=◌
scalar_by around r z k s wide o e =
    ap (λ x. (given x
    (λ t. (P.field_converted around (kind_of [] t) (NumberField z)) >>= (λ v.
    (designated around r) >>= (λ d. element_stored d v))) stuck) k s) e
    ∙ ap (λ flow. flow_on k flow (λ v. (designated around r) >>= (λ d. element_stored d v)))
    (fit_is around z k s wide)

scalar_is :
    (around : Around) (r : Y.Reference) (z : ℤ) (k : ℕ) (s : State) → is_of_precision 31 z ≡ true →
    P.target_type around r ≡ Some (Y.FixedLeaf 31) →
    P.scalar_got around r (NumberField z) k s ≡ M.assigned around r (BasicNumber z) k s
unfolding P.scalar_got
scalar_is around r z k s wide e = scalar_by around r z k s wide (P.target_type around r) e

-- from the number's word in a0 on
scalar_comes :
    (u : Reads) → AreRead u → (n : Next) → IsNext u n → (p : Point) (h : frame_of u.block p) (c i : ℕ) (f : Family)
    (z : ℤ) → IsWide z → IsAmong (placing (place_of u n.left') u.block) n.numbers p → p.control.line ≡ u.line →
    n.acts ≤ p.state.world.acts →
    Linked u.block.call.surroundings.links u.block.call.code i (stored_code u n) →
    c + size_of (stored_code u n) + u.most ≤ cost u.block.call.code → c + size_of (stored_code u n) ≤ n.wanted →
    i + size_of (stored_code u n) ≡ n.end → Stands u n p h i (two (λ b. word z) (λ b. 0)) f →
    Comes u.block.call.code c f (services_of p) (got_aims u n.acts n.end n.wanted)
    (P.scalar_if_got (setting_in u).around n.target n.left' (Some (NumberField z)) u.block.call.surroundings.acts
    p.state)
unfolding P.scalar_if_got give ◌>>◌ ◌>>=◌
scalar_comes u a n is p h c i f z wide among line since l paid enough end at =
    let w = u.block.call.surroundings in
    let code = u.block.call.code in
    let around = (setting_in u).around in
    let place = place_of u n.left' in
    let s' = within place (setting_in u) in
    let t = is.target place in
    let goal = got_aims u n.acts n.end n.wanted in
    let next' : Unit {0} → Meaning (Option (List FormatItem)) = λ x. give (Some n.left') in
    let size = size_of (stored_code u n) in
    comes_on w.acts (P.scalar_got around n.target (NumberField z) w.acts p.state) next'
    (subst (Comes code c f (services_of p) (before code goal w.acts next'))
    (sym (scalar_is around n.target z w.acts p.state wide t.meant))
    (comes_map (behind_aims s' p.state.world.acts (i + size) (c + size)) (before code goal w.acts next') refl
    (M.assigned around n.target (BasicNumber z) w.acts p.state)
    (λ c1 f1 v1 x s o.
    record {
      to = λ early.
          let g = o.goes in
          let more = g.since in
          record {
            point = g.point;
            numbers = g.numbers;
            among = g.among;
            since = omega (arith, since, more);
            line = o.line;
            state = g.state;
            are = is.are;
            reach = reach_more n.wanted
                (reach_map (λ b y. IsIn w g.point g.numbers n.end b y) g.reach
                (λ b y q. subst (λ j. IsIn w g.point g.numbers j b y) end q)) enough;
          };
    })
    (λ c1 f1 v1 height label s q. jumps_since since (jumps_down place u.block u.labels q))
    (λ c1 f1 v1 r s q. absurd q)
    (t.stores p n.numbers c i f z wide among line (let need = a.registers in omega (arith, need), a.held) l paid
    (λ b. (in_known h among.image.parts (at b), (at b).holds.regs.0)))))

-- ---- its status

abbrev pub number_first : (x : ℕ) → Option ℤ → ℕ
number_first x None = x
number_first x (Some z) = word z

abbrev pub number_status : Option ℤ → ℕ
number_status None = conversion_code
number_status (Some z) = 0

answered_is :
    (c : Call) (v : Services) (x : ℕ) (o : Option ℤ) →
    E.number_answered c v x o ≡ Done v c.memory (number_first x o) (number_status o)
answered_is c v x None = refl
answered_is c v x (Some z) = refl

-- behind the service: the code goes on with the number, or ERROR comes
status_comes :
    (u : Reads) → AreRead u → (n : Next) {aims : Aims ℤ} (closed : Closed u.block.call.code aims) →
    aims.limits ≡ limits_of u.block.call.surroundings → (p : Point) (h : frame_of u.block p) (c i : ℕ) (f : Family) →
    IsAmong (placing (place_of u n.left') u.block) n.numbers p → p.control.line ≡ u.line →
    Linked u.block.call.surroundings.links u.block.call.code i status_tested →
    c + 3 + u.most ≤ cost u.block.call.code → (x : Base → ℕ) (o : Option ℤ) →
    Stands u n p h i (two (λ b. number_first (x b) o) (λ b. number_status o)) f →
    ((c : ℕ) (f : Family) (v : Services) (height : ℕ) (label : Label) (s : State) →
    JumpsTo (placing (place_of u n.left') u.block) [] p.state.world.acts c f v height label s →
    aims.jumped c f v height label s) →
    ((z : ℤ) (g : Family) → o ≡ Some z → Stands u n p h (i + 3) (two (λ b. word z) (λ b. 0)) g →
    aims.done (c + 3) g (services_of p) z p.state) →
    Comes u.block.call.code c f (services_of p) aims
    (R.or_error (setting_in u).around conversion_code o u.block.call.surroundings.acts p.state)
unfolding R.or_error give
status_comes u a n {aims} closed same p h c i f among line l paid x None at jumps goal =
    let w = u.block.call.surroundings in
    let around = (setting_in u).around in
    let place = place_of u n.left' in
    onward closed (status_some c conversion_code f refl l at) (λ g at1.
    comes_map (error_aims ℤ (within place (setting_in u)) p.state.world.acts) aims same
    (R.error {R = ℤ} around conversion_code w.acts p.state)
    (λ c1 f1 v1 r s q. absurd q)
    jumps
    (λ c1 f1 v1 r s q. absurd q)
    (a.error place [] p n.numbers (c + 1) (i + 1) conversion_code g among line (lit< tt, lit< tt)
    (rest_of _ (JumpTo RaiseError ∷ []) l) (omega (arith, paid))
    (λ b. (in_known h among.image.parts (at1 b), (at1 b).holds.regs.1.0))))
status_comes u a n {aims} closed same p h c i f among line l paid x (Some z) at jumps goal =
    onward closed (status_none c f l at) (λ g at1. record { to = λ early. goal z g refl at1 })

-- ---- a field is taken

abbrev pub field_code : Reads → Next → Code
field_code u n = tested_service 36 ++ stored_code u n

abbrev pub kept_aims : Reads → Next → Aims (Option Field)
kept_aims u n =
    before u.block.call.code (got_aims u n.acts n.end n.wanted) u.block.call.surroundings.acts
    (λ o. P.scalar_if_got (setting_in u).around n.target n.left' o)

abbrev pub taken_aims : Reads → Next → Aims (Option (List ℕ))
taken_aims u n =
    before u.block.call.code (kept_aims u n) u.block.call.surroundings.acts (P.number_got (setting_in u).around)

pub taken_closed : (u : Reads) (n : Next) → Closed u.block.call.code (taken_aims u n)
taken_closed u n =
    let w = u.block.call.surroundings in
    before_closed w.acts (P.number_got (setting_in u).around)
    (before_closed w.acts (λ o. P.scalar_if_got (setting_in u).around n.target n.left' o)
    (got_closed u n.acts n.end n.wanted))

taken_among :
    (u : Reads) → AreRead u → (n : Next) → IsNext u n → n.point.state.world.acts < u.block.call.surroundings.acts →
    IsAmong (placing (place_of u n.left') u.block) n.numbers (taken_point u n)
taken_among u a n is less =
    let first = u.block.first.control in
    reading_among (behind_field n.width)
    (edits_among u.block (place_of u n.rest ∷ first.edits) (places u n) (places u n) is.among refl
    (over_place (place_of u n.left') first.entries first.edits first.layers a.over)) less

-- the number, or ERROR, from behind the service on
number_comes :
    (u : Reads) → AreRead u → (n : Next) → IsNext u n → n.point.state.world.acts < u.block.call.surroundings.acts →
    (h : frame_of u.block n.point) (c i : ℕ) (f : Family) (x : Base → ℕ) →
    Linked u.block.call.surroundings.links u.block.call.code i (status_tested ++ stored_code u n) →
    c + size_of (status_tested ++ stored_code u n) + u.most ≤ cost u.block.call.code →
    c + size_of (status_tested ++ stored_code u n) ≤ n.wanted →
    i + size_of (status_tested ++ stored_code u n) ≡ n.end →
    Stands u n (taken_point u n) h i
    (two (λ b. number_first (x b) (number_in_text (field_text n))) (λ b. number_status (number_in_text (field_text
    n)))) f →
    Comes u.block.call.code c f (services_of (taken_point u n)) (kept_aims u n)
    (P.number_got (setting_in u).around (Some (field_text n)) u.block.call.surroundings.acts (taken_point u n).state)
unfolding P.number_got give ◌>>=◌
number_comes u a n is less h c i f x l paid enough end at =
    let w = u.block.call.surroundings in
    let code = u.block.call.code in
    let around = (setting_in u).around in
    let q = taken_point u n in
    let o = number_in_text (field_text n) in
    let among = taken_among u a n is less in
    let next' : ℤ → Meaning (Option Field) = λ z. give (Some (NumberField z)) in
    let last : Option Field → Meaning (Option (List FormatItem)) =
    λ o'. P.scalar_if_got around n.target n.left' o' in
    let closed = before_closed w.acts next' (before_closed w.acts last (got_closed u n.acts n.end n.wanted)) in
    let since = is.since in
    let n0 = size_append status_tested (stored_code u n) in
    comes_on w.acts (R.or_error around conversion_code o w.acts q.state) next'
    (status_comes u a n closed refl q h c i f among is.line (front_of status_tested (stored_code u n) l)
    (omega (arith, paid, n0)) x o at
    (λ c1 f1 v1 height label s j. jumps_since (omega (arith, since)) (jumps_down (place_of u n.left') u.block u.labels
    j))
    (λ z g e at1.
    record {
      to = λ early.
          scalar_comes u a n is q h (c + 3) (i + 3) g z (number_wide (field_text n) z e) among is.line
          (omega (arith, since)) (back_of status_tested (stored_code u n) l) (omega (arith, paid, n0))
          (omega (arith, enough, n0)) (omega (arith, end, n0)) at1;
    }))

-- it is taken, an act
pub taking_comes :
    (u : Reads) → AreRead u → (n : Next) → IsNext u n → (h : frame_of u.block n.point) (c i : ℕ) (f : Family) →
    has_character n.point.state.input.marks ≡ true →
    Linked u.block.call.surroundings.links u.block.call.code i (field_code u n) →
    c + size_of (field_code u n) + u.most ≤ cost u.block.call.code → size_of (field_code u n) ≤ n.wanted →
    i + size_of (field_code u n) ≡ n.end → Stands u n n.point h i nothing f →
    Comes u.block.call.code c f (services_of n.point) (taken_aims u n)
    (((act counted) >> ((stored (with_input (behind_field n.width))) >> (give (Some (field_text n)))))
    u.block.call.surroundings.acts n.point.state)
unfolding stored give ◌>>◌
taking_comes u a n is h c i f has l paid enough end at =
    let w = u.block.call.surroundings in
    let code = u.block.call.code in
    let p = n.point in
    let v = services_of p in
    let q = taken_point u n in
    let o = number_in_text (field_text n) in
    let front = small a7 36 ∷ [] in
    let last = Plain I.Ecall ∷ [] in
    let tested = status_tested ++ stored_code u n in
    let n1 = size_append (tested_service 36) (stored_code u n) in
    let n2 = size_append (service 36) status_tested in
    let n3 = size_append status_tested (stored_code u n) in
    let l1 = front_of (tested_service 36) (stored_code u n) l in
    let l2 = front_of (service 36) status_tested l1 in
    let closed = taken_closed u n in
    let x : Base → ℕ = λ b. (f b).machine.registers 10 in
    let y : Base → ℕ = λ b. (f b).machine.registers 11 in
    let first' : Base → ℕ = λ b. number_first (x b) o in
    let next' : Unit {0} → Meaning (Option (List ℕ)) =
    λ t. (stored (with_input (behind_field n.width))) >> (give (Some (field_text n))) in
    let asked : Base → List (ℕ × ℕ) = λ b. (10, x b) ∷ (11, y b) ∷ (17, 36) ∷ [] in
    let found = current_found (whole_in u) n.rest n.left' (DataFormat (FixedItem n.width)) p.control.edits
    u.block.first.control.edits is.next is.among.later.edits in
    let r1 = straight c f v v (λ b. Known (point_ground w p h) v n.numbers (λ j. 0) asked b) (front_of front last l2)
    (omega arith) (λ b. (at b).pc)
    (λ b. let k = (at b).holds in record {
      body = record {
        services = k.body.services;
        registers = k.body.registers;
        bytes = k.body.bytes;
        memory = k.body.memory;
      };
      regs = (refl, (refl, (small_is _ 36 (zero_is k.body) (omega arith), tt)));
    }) in
    onward closed r1
    (λ g at1.
    let calling : Calling w.links code (i + 1) g
    (λ b. Done (services_of q) (g b).machine.memory (first' b) (number_status o)) =
    record {
      linked = back_of front last l2;
      pc = λ b. (at1 b).pc;
      answers = λ b.
          let k = (at1 b).holds in
          let r = (g b).machine.registers in
          let call = call_at code v (g b).machine.memory in
          let v' = E.with_edits (places u n) (E.read_by (behind_field n.width) v) in
          called code (g b) v 36 (x b) (y b) (r 12) (r 13) (r 14) (λ c' x0 x1 x2 x3 x4. E.fixed_served c' x0 x1)
          k.body.services k.regs.1.1.0 k.regs.0 k.regs.1.0 refl refl refl (λ c' y'. refl)
          ∙ found (λ m below. E.fixed_by call (x b) (y b) m.behind.direction m.item (m.behind ∷ below))
          ∙ ap (λ t. bad_unless t (acting v (E.number_answered call v' (x b) o))) has
          ∙ acts v w.acts _ is.among.stands.allowed a.acts
          ∙ answered_is call v' (x b) o;
    } in
    comes_on w.acts (act counted w.acts p.state) next'
    (reading_comes (before_closed w.acts next' closed)
    (record {
      change = behind_field n.width;
      edits = places u n;
      first = first';
      second = λ b. number_status o;
    })
    (c + 1) 0 g h is.among.stands (omega (arith, paid, n1, n2)) at1 calling
    (λ f' less at2.
    record {
      to = λ early.
          number_comes u a n is less h 0 (i + 2) f' x
          (linked_at (i + 2) tested (omega arith) (back_of (service 36) tested (regrouped l)))
          (omega (arith, paid, n1, n2, n3)) (omega (arith, enough, n1, n2, n3)) (omega (arith, end, n1, n2, n3))
          (λ b. record {
            pc = (at2 b).pc ∙ ap (address b) (two_more i);
            holds = (at2 b).holds;
          });
    })))
  where
    two_more : (i : ℕ) → i + 1 + 1 ≡ i + 2
    two_more i = omega arith

    regrouped :
        {links : _} {code : List Instr} → Linked links code i (field_code u n) →
        Linked links code i (service 36 ++ (status_tested ++ stored_code u n))
    regrouped l = l
