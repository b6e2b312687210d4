-- An item of GET: control items are carried out, then a field is taken, or ENDFILE is raised where no character is
-- left, behind which the code goes to the statement's exit.
use Rattle.std.proofs.Common.{◌≡◌, ℕ, ◌+◌, ◌<◌, ◌≤◌, List, [], ◌∷◌, ◌++◌, Option, Some, None, Bool, length}
use Rattle.std.proofs.Common.{true, false, refl, sym, ap, ◌∙◌, subst, arith}
use Rattle.std.specs.Prelude.{cond, ◌&&◌, ◌==◌}
use Rattle.rv_meaning.specs.declared.instr.Instr.{Instr}
use Rattle.rv_meaning.specs.declared.instr.BranchTest.TheVariants as Test
use Rattle.pli_language.specs.declared.condition.Condition.TheVariants as C
use Rattle.pli_typing.specs.TypedTree as Y
use Rattle.pli_meaning.specs.Codes.{endfile_code}
use Rattle.pli_meaning.specs.Control.{Flow, Meaning, act, choose, give, looked, stored, ◌>>=◌, ◌>>◌}
use Rattle.pli_meaning.specs.InputLines.{behind_field, has_character}
use Rattle.pli_meaning.specs.Raising as R
use Rattle.pli_meaning.specs.StorageState.{State, with_input}
use Rattle.pli_meaning.specs.Streaming as P
use Rattle.pli_meaning.specs.Streaming.{DataFormat, DataItem, Field, FixedItem, FormatItem, TextItem}
use Rattle.pli_meaning.specs.World.{counted}
use Rattle.pli_coding.specs.Assembly.{Code, JumpAhead, size_of}
use Rattle.pli_coding.specs.Environments.{Environment, Taken}
use Rattle.pli_coding.specs.Expressions.{type_in}
use Rattle.pli_coding.specs.Instructions.{choice, service, skip_where, small, tested_service}
use Rattle.pli_coding.specs.Registers.{a0, u1}
use Rattle.pli_coding.specs.Storing.{word_stored}
use Rattle.pli_coding.specs.Streams as S
use Rattle.pli_coding.specs.Streams.{by_item, controls_carried_out, has_fixed, has_text}
use Rattle.pli_language.specs.Tree as T
use Rattle.pli_serving.specs.ServiceState.{EditPlace, Services}
use Rattle.pli_coding.specs.Linking.{Links}
use Rattle.activation_relation.specs.Points.{Surroundings}
use Rattle.edit_runs.proofs.Controls.{current}
use Rattle.activation_relation.specs.Layers.{Point, services_of}
use Rattle.run_steps.specs.Bodies.{Free, Known}
use Rattle.run_steps.proofs.Bodies.{zero_is}
use Rattle.run_steps.specs.Engine.{Base, address}
use Rattle.run_steps.specs.Items.{At, Linked}
use Rattle.run_steps.proofs.Items.{straight}
use Rattle.run_steps.proofs.Jumps.{ahead_piece, back_of, front_of, linked_at, rest_of, skip_passed, skip_taken}
use Rattle.run_steps.proofs.Linking.{size_append}
use Rattle.run_steps.specs.Reach.{Aims, Comes, Family, Reach, before, cost, reached}
use Rattle.run_steps.proofs.Reach.{comes_on, onward, reach_map, reach_then, reached_holds}
use Rattle.run_steps.specs.Temporaries.{nothing}
use Rattle.block_runs.specs.Machines.{IsIn}
use Rattle.block_runs.proofs.BlockEntries.{small_is}
use Rattle.block_runs.proofs.CallStatements.{comes_map}
use Rattle.block_runs.proofs.PointGrounds.{in_known, known_in, point_frame, point_ground}
use Rattle.program_runs.specs.Statements.{set_aside}
use Rattle.program_runs.proofs.JumpsOut.{jumps_since}
use Rattle.expression_runs.proofs.Words.{frame_of, valued}
use Rattle.edit_runs.specs.Edits.{AreItems, IsItem, kinds_of, placing, within}
use Rattle.edit_runs.proofs.Places.{jumps_down, over_place}
use Rattle.get_runs.specs.Gets.{IsTarget, behind_aims, endfile_raised, getting}
use Rattle.get_runs.proofs.Controls.{Found, Loop, found_aims, next_comes, number_in}
use Rattle.get_runs.proofs.Fields.{IsNext, Next, Stands, field_code, field_text, kept_aims, place_of, reach_more}
use Rattle.get_runs.proofs.Fields.{stored_code, taken_aims, taken_closed, taking_comes}
use Rattle.get_runs.proofs.Items.{AreRead, Due, IsDue, Reads, got_aims, got_closed, setting_in, whole_in}

-- ---- behind the control items

abbrev pub over_field : (behind : ℕ) → Code
over_field behind = endfile_raised ++ JumpAhead behind ∷ []

abbrev pub left_tested : (behind : ℕ) → Code
left_tested behind = skip_where Test.NotEqual a0 u1 (over_field behind)

abbrev pub choosing : (behind : ℕ) → Code
choosing behind = small u1 3 ∷ left_tested behind

-- where it stands, and how far the exit is behind the field's code
pub record Chosen : Type 0 where
  pub credits : ℕ
  pub index : ℕ
  pub behind : ℕ
  pub family : Family

pub record IsChosen (u : Reads) (n : Next) (h : frame_of u.block n.point) (k : Chosen) : Type 0 where
  pub linked : Linked u.block.call.surroundings.links u.block.call.code k.index (choosing k.behind ++ field_code u n)
  pub paid : k.credits + size_of (choosing k.behind ++ field_code u n) + u.most ≤ cost u.block.call.code
  pub owed : k.credits + u.exit ≤ u.debt + k.index
  pub enough : size_of (field_code u n) ≤ n.wanted
  pub end : k.index + size_of (choosing k.behind ++ field_code u n) ≡ n.end
  pub exit : k.index + size_of (choosing k.behind) + k.behind ≡ u.exit
  pub there : Stands u n n.point h k.index (valued (number_in n.point (DataFormat (FixedItem n.width)))) k.family

-- 3 is loaded, with which what a0 tells is compared
three_loaded :
    (u : Reads) (n : Next) (h : frame_of u.block n.point) (k : Chosen) (given : ℕ) → IsChosen u n h k →
    Stands u n n.point h k.index (valued given) k.family →
    Reach u.block.call.code k.credits k.family (services_of n.point) (k.credits + 1) (services_of n.point)
    (λ b y. At b (k.index + 1) (Known (point_ground u.block.call.surroundings n.point h) (services_of n.point) n.numbers
    (λ j. 0) (λ b'. (10, given) ∷ (6, 3) ∷ []) b) y)
three_loaded u n h k given is at =
    let first = small u1 3 ∷ [] in
    straight k.credits k.family (services_of n.point) (services_of n.point)
    (λ b. Known (point_ground u.block.call.surroundings n.point h) (services_of n.point) n.numbers (λ j. 0)
    (λ b'. (10, given) ∷ (6, 3) ∷ []) b)
    (front_of first (left_tested k.behind) (front_of (choosing k.behind) (field_code u n) is.linked)) (omega arith)
    (λ b. (at b).pc)
    (λ b. let o = (at b).holds in record {
      body = record {
        services = o.body.services;
        registers = o.body.registers;
        bytes = o.body.bytes;
        memory = o.body.memory;
      };
      regs = (o.regs.0, (small_is _ 3 (zero_is o.body) (omega arith), tt));
    })

one_not_three : (x y : ℕ) → x ≡ 1 → y ≡ 3 → cond (x == y) false true ≡ true
one_not_three x y e e' = ap (λ m. cond (m == y) false true) e ∙ ap (λ m. cond (1 == m) false true) e'

three_three : (x y : ℕ) → x ≡ 3 → y ≡ 3 → cond (x == y) false true ≡ false
three_three x y e e' = ap (λ m. cond (m == y) false true) e ∙ ap (λ m. cond (3 == m) false true) e'

-- a character is left
field_there :
    (u : Reads) → AreRead u → (n : Next) → IsNext u n → (h : frame_of u.block n.point) (k : Chosen) →
    IsChosen u n h k → has_character n.point.state.input.marks ≡ true →
    Comes u.block.call.code k.credits k.family (services_of n.point) (taken_aims u n)
    (((act counted) >> ((stored (with_input (behind_field n.width))) >> (give (Some (field_text n)))))
    u.block.call.surroundings.acts n.point.state)
field_there u a n is h k q has =
    let closed = taken_closed u n in
    let first = small u1 3 ∷ [] in
    let choose' = choosing k.behind in
    let field = field_code u n in
    let over = over_field k.behind in
    let tested = left_tested k.behind in
    let n1 = size_append choose' field in
    let n2 = size_append endfile_raised (JumpAhead k.behind ∷ []) in
    let l1 = front_of choose' field q.linked in
    let l2 = back_of choose' field q.linked in
    let paid = q.paid in
    let end = q.end in
    let i2 = k.index + 1 + (1 + size_of over) in
    let told : Stands u n n.point h k.index (valued 1) k.family =
    λ b. record {
      pc = (q.there b).pc;
      holds = record {
        body = (q.there b).holds.body;
        regs = ((q.there b).holds.regs.0 ∙ ap (λ t. cond t 1 3) has, tt);
      };
    } in
    onward closed (three_loaded u n h k 1 q told)
    (λ g at1.
    onward closed
    (skip_taken (k.credits + 1) g Test.NotEqual a0 u1 over (back_of first tested l1) at1
    (λ b. one_not_three _ _ (at1 b).holds.regs.0 (at1 b).holds.regs.1.0))
    (λ g2 at2.
    taking_comes u a n is h (k.credits + 1 + (1 + size_of over)) i2 g2 has
    (linked_at i2 field (omega (arith, n2)) l2) (omega (arith, paid, n1, n2)) q.enough
    (omega (arith, end, n1, n2))
    (λ b. record { pc = (at2 b).pc; holds = record { body = (at2 b).holds.body; regs = tt } })))

-- none is left
none_there :
    (u : Reads) → AreRead u → (n : Next) → IsNext u n → (h : frame_of u.block n.point) (k : Chosen) →
    IsChosen u n h k → has_character n.point.state.input.marks ≡ false →
    Comes u.block.call.code k.credits k.family (services_of n.point) (taken_aims u n)
    (((R.raised (setting_in u).around C.Endfile endfile_code) >> (give None)) u.block.call.surroundings.acts
    n.point.state)
unfolding give ◌>>◌ P.number_got P.scalar_if_got
none_there u a n is h k q has =
    let w = u.block.call.surroundings in
    let code = u.block.call.code in
    let around = (setting_in u).around in
    let p = n.point in
    let closed = taken_closed u n in
    let place = place_of u n.rest in
    let s' = within place (setting_in u) in
    let first = small u1 3 ∷ [] in
    let choose' = choosing k.behind in
    let field = field_code u n in
    let over = over_field k.behind in
    let jump = JumpAhead k.behind ∷ [] in
    let tested = left_tested k.behind in
    let n1 = size_append choose' field in
    let n2 = size_append endfile_raised jump in
    let l1 = front_of choose' field q.linked in
    let l2 = back_of first tested l1 in
    let i2 = k.index + 1 + 1 in
    let c2 = k.credits + 1 + 1 in
    let l3 = linked_at i2 over (omega arith) (rest_of _ over l2) in
    let paid = q.paid in
    let owed = q.owed in
    let exit = q.exit in
    let inside = a.inside in
    let since = is.since in
    let next' : Unit {0} → Meaning (Option (List ℕ)) = λ t. give None in
    let told : Stands u n n.point h k.index (valued 3) k.family =
    λ b. record {
      pc = (q.there b).pc;
      holds = record {
        body = (q.there b).holds.body;
        regs = ((q.there b).holds.regs.0 ∙ ap (λ t. cond t 1 3) has, tt);
      };
    } in
    onward closed (three_loaded u n h k 3 q told)
    (λ g at1.
    onward closed
    (skip_passed (k.credits + 1) g Test.NotEqual a0 u1 over l2 at1
    (λ b. three_three _ _ (at1 b).holds.regs.0 (at1 b).holds.regs.1.0))
    (λ g2 at2.
    comes_on w.acts (R.raised around C.Endfile endfile_code w.acts p.state) next'
    (comes_map (behind_aims s' p.state.world.acts (i2 + 4) (c2 + 4)) (before code (taken_aims u n) w.acts next')
    refl
    (R.raised around C.Endfile endfile_code w.acts p.state)
    (λ c1 f1 v1 x s o.
    let e = o.goes in
    let more = e.since in
    let h' = point_frame e.among.stands e.among.image in
    record {
      to = λ early. record {
        to = λ early'. record {
          to = λ early''. record {
            point = e.point;
            numbers = e.numbers;
            rest = n.rest;
            among = e.among;
            since = omega (arith, since, more);
            state = e.state;
            reach = reach_more u.debt
                (reach_map (λ b y. IsIn w e.point e.numbers u.exit b y)
                (reach_then e.reach
                (ahead_piece {t = λ j. 0} {rs = nothing} (c2 + 4) (reached e.reach) k.behind
                (omega (arith, inside, exit, n2))
                (record { reserved_stay = λ y t. refl; known_stay = λ b y t z. z; set = λ y t. refl })
                (linked_at (i2 + 4) jump (omega (arith, n2)) (back_of endfile_raised jump l3))
                (λ b. known_in h' (reached_holds e.reach b) tt)))
                (λ b y at.
                in_known h' e.among.image.parts
                (record { pc = at.pc ∙ ap (address b) (omega (arith, exit, n2)); holds = at.holds })))
                (omega (arith, owed, exit, n2));
          };
        };
      };
    })
    (λ c1 f1 v1 height label s j. jumps_since since (jumps_down place u.block u.labels j))
    (λ c1 f1 v1 r s j. absurd j)
    (a.endfile place p n.numbers c2 i2 g2 is.among is.line (front_of endfile_raised jump l3)
    (omega (arith, paid, n1, n2))
    (λ b. in_known {t = λ j. 0} {rs = nothing} h is.among.image.parts
    (record { pc = (at2 b).pc; holds = record { body = (at2 b).holds.body; regs = tt } }))))))

-- whichever it is
awaited_comes :
    (u : Reads) → AreRead u → (n : Next) → IsNext u n → (h : frame_of u.block n.point) (k : Chosen) →
    IsChosen u n h k →
    Comes u.block.call.code k.credits k.family (services_of n.point) (got_aims u n.acts n.end n.wanted)
    (((P.field_got (setting_in u).around (FixedItem n.width))
    >>= (λ o. P.scalar_if_got (setting_in u).around n.target n.left' o)) u.block.call.surroundings.acts n.point.state)
unfolding P.field_got P.field_taken choose looked ◌>>=◌ ◌>>◌
awaited_comes u a n is h k q =
    let w = u.block.call.surroundings in
    let around = (setting_in u).around in
    comes_on w.acts (P.field_got around (FixedItem n.width) w.acts n.point.state)
    (λ o. P.scalar_if_got around n.target n.left' o)
    (comes_on w.acts (P.field_taken around n.width w.acts n.point.state) (P.number_got around)
    (by (has_character n.point.state.input.marks) refl))
  where
    taken : Meaning (Option (List ℕ))
    taken = (act counted) >> ((stored (with_input (behind_field n.width))) >> (give (Some (field_text n))))

    none : Meaning (Option (List ℕ))
    none = (R.raised (setting_in u).around C.Endfile endfile_code) >> (give None)

    by :
        (b : Bool) → has_character n.point.state.input.marks ≡ b →
        Comes u.block.call.code k.credits k.family (services_of n.point) (taken_aims u n)
        (cond b (taken u.block.call.surroundings.acts n.point.state)
        (none u.block.call.surroundings.acts n.point.state))
    by true e = field_there u a n is h k q e
    by false e = none_there u a n is h k q e

-- ---- an item

abbrev pub item_code : Reads → (behind : ℕ) → Y.Reference → Code
item_code u behind r = S.item_got u.block.environment (set_aside u.words) u.formats (Y.GetScalar r) behind

abbrev got_by : Environment → Taken → T.Formats → Y.Reference → Y.LeafType → Code
got_by e t formats r type = S.field_stored e t formats r type

abbrev plain_field : Environment → Taken → Y.Reference → Code
plain_field e t r = tested_service 36 ++ word_stored e t r

-- a list of F items has no code by A
field_is :
    (e : Environment) (t : Taken) (formats : T.Formats) (r : Y.Reference) → has_fixed formats ≡ true →
    has_text formats ≡ false → type_in e r ≡ Y.FixedLeaf 31 →
    S.field_stored e t formats r (type_in e r) ≡ plain_field e t r
field_is e t formats r fixed text typed =
    ap (got_by e t formats r) typed
    ∙ ap (λ b. cond (b && has_text formats) by_both (cond b by_f by_a) ++ word_stored e t r) fixed
    ∙ ap (λ b. cond b by_both by_f ++ word_stored e t r) text
  where
    by_f : Code
    by_f = tested_service 36

    by_a : Code
    by_a = service 37 ++ (small a0 0 ∷ tested_service 26)

    by_both : Code
    by_both = small u1 1 ∷ choice Test.Equal a0 u1 by_f by_a

-- what is awaited before this field
abbrev awaited : (behind : ℕ) → (field : Code) → Code
awaited behind field = (controls_carried_out ++ choosing (size_of field + behind)) ++ field

item_is :
    (u : Reads) → AreRead u → (behind : ℕ) (r : Y.Reference) → type_in u.block.environment r ≡ Y.FixedLeaf 31 →
    item_code u behind r ≡ awaited behind (plain_field u.block.environment (set_aside u.words) r)
item_is u a behind r typed =
    ap (awaited behind) (field_is u.block.environment (set_aside u.words) u.formats r a.fixed a.text typed)

regrouped :
    {links : Links} {code : List Instr} {i : ℕ} (behind : ℕ) (field : Code) → Linked links code i (awaited behind
    field) →
    Linked links code i (controls_carried_out ++ (choosing (size_of field + behind) ++ field))
regrouped behind field l = l

true_not_false : (q : Bool) → q ≡ true → q ≡ false → ⊥
true_not_false true e e' = cc e'
true_not_false false e e' = cc e

-- where the loop of the control items ends
abbrev loop_of : (u : Reads) → Due → (acts' : ℕ) → Loop
loop_of u d acts' =
    record {
      kinds = kinds_of u.formats;
      block = u.block;
      line = u.line;
      acts = acts';
      first = u.first;
      more = u.more;
      numbers = d.numbers;
      index = d.index;
      credits = d.credits;
    }

-- what is known of the code there
record IsBehind (u : Reads) (d : Due) (behind wanted i : ℕ) (field : Code) : Type 0 where
  linked : Linked u.block.call.surroundings.links u.block.call.code (d.index + 5)
      (choosing (size_of field + behind) ++ field)
  paid : d.credits + 5 + size_of (choosing (size_of field + behind) ++ field) + u.most ≤ cost u.block.call.code
  owed : d.credits + u.exit ≤ u.debt + d.index
  enough : size_of field ≤ wanted
  end : d.index + 5 + size_of (choosing (size_of field + behind) ++ field) ≡ i
  exit : i + behind ≡ u.exit

found_comes :
    (u : Reads) → AreRead u → (r : Y.Reference) → ((place : EditPlace) → IsTarget (within place (setting_in u)) u.need
    r) →
    (d : Due) (acts' behind wanted i : ℕ) →
    IsBehind u d behind wanted i (plain_field u.block.environment (set_aside u.words) r) → (c : ℕ) (f : Family)
    (v : Services) (next : DataItem × List FormatItem) (s : State) → Found (loop_of u d acts') c f v next s →
    Comes u.block.call.code c f v (got_aims u acts' i wanted)
    (((P.field_got (setting_in u).around next.0)
    >>= (λ o. P.scalar_if_got (setting_in u).around r next.1 o)) u.block.call.surroundings.acts s)
found_comes u a r target d acts' behind wanted i is c f v next s o =
    subst (λ x. Comes code c f v goal (meant x w.acts s)) (sym o.next_is)
    (subst (λ t. Comes code c f v goal (meant (o.item, o.left') w.acts t)) (sym o.state)
    (onward (got_closed u acts' i wanted) o.reach (λ g at. by o.item o.fits o.current_is g at)))
  where
    w : Surroundings
    w = u.block.call.surroundings

    code : List Instr
    code = u.block.call.code

    goal : Aims (Option (List FormatItem))
    goal = got_aims u acts' i wanted

    field : Code
    field = plain_field u.block.environment (set_aside u.words) r

    meant : DataItem × List FormatItem → Meaning (Option (List FormatItem))
    meant x = (P.field_got (setting_in u).around x.0) >>= (λ z. P.scalar_if_got (setting_in u).around r x.1 z)

    by :
        (item : DataItem) → IsItem (kinds_of u.formats) item →
        current (whole_in u) o.rest ≡ DataFormat item ∷ o.left' → (g : Family) →
        ((b : Base) →
        At b (d.index + 5) (Known (point_ground w o.point o.frame) (services_of o.point) d.numbers (λ j. 0)
        (valued (number_in o.point (DataFormat item))) b) (g b)) →
        Comes code o.credits g (services_of o.point) goal (meant (item, o.left') w.acts o.point.state)
    by (TextItem width) fits next g at = absurd (true_not_false (has_text u.formats) fits a.text)
    by (FixedItem width) fits next g at =
        let n : Next = record {
          target = r;
          rest = o.rest;
          width = width;
          left' = o.left';
          point = o.point;
          numbers = d.numbers;
          acts = acts';
          end = i;
          wanted = wanted;
        } in
        let few = o.few in
        let paid = is.paid in
        let owed = is.owed in
        let end = is.end in
        let exit = is.exit in
        let n1 = size_append (choosing (size_of field + behind)) field in
        awaited_comes u a n
        (record {
          among = o.here.among;
          line = o.here.line;
          next = next;
          are = o.are;
          since = o.here.since;
          target = target;
        })
        o.frame
        (record { credits = o.credits; index = d.index + 5; behind = size_of field + behind; family = g })
        (record {
          linked = is.linked;
          paid = omega (arith, paid, few);
          owed = omega (arith, owed, few);
          enough = is.enough;
          end = end;
          exit = omega (arith, end, exit, n1);
          there = at;
        })

-- from a point where it is due on
pub item_comes :
    (u : Reads) → AreRead u → (r : Y.Reference) → ((place : EditPlace) → IsTarget (within place (setting_in u)) u.need
    r) →
    (d : Due) (acts' behind wanted i : ℕ) → IsDue u d acts' (size_of (item_code u behind r)) →
    Linked u.block.call.surroundings.links u.block.call.code d.index (item_code u behind r) →
    d.index + size_of (item_code u behind r) ≡ i → i + behind ≡ u.exit →
    size_of (item_code u behind r) ≤ wanted →
    Comes u.block.call.code d.credits d.family (services_of d.point) (got_aims u acts' i wanted)
    (P.item_got (setting_in u).around (whole_in u) d.rest (Y.GetScalar r) u.block.call.surroundings.acts d.point.state)
unfolding P.item_got ◌>>=◌
item_comes u a r target d acts' behind wanted i is l end exit enough =
    let w = u.block.call.surroundings in
    let code = u.block.call.code in
    let e = u.block.environment in
    let around = (setting_in u).around in
    let first' = place_of u d.rest in
    let same = item_is u a behind r (target first').coded in
    let n0 = ap (λ c. size_of c) same in
    let field = plain_field e (set_aside u.words) r in
    let choose' = choosing (size_of field + behind) in
    let front = controls_carried_out ++ choose' in
    let n1 = size_append front field in
    let n2 = size_append controls_carried_out choose' in
    let n3 = size_append choose' field in
    let l0 = subst (Linked w.links code d.index) same l in
    let l1 = front_of controls_carried_out choose' (front_of front field l0) in
    let l2 = back_of controls_carried_out (choose' ++ field) (regrouped behind field l0) in
    let paid = is.paid in
    let h = point_frame is.among.stands is.among.image in
    let z = loop_of u d acts' in
    let last : DataItem × List FormatItem → Meaning (Option (List FormatItem)) =
    λ next. (P.field_got around next.0) >>= (λ o. P.scalar_if_got around r next.1 o) in
    let flow = P.next_item P.control_got (whole_in u) d.rest w.acts d.point.state in
    let goal = got_aims u acts' i wanted in
    comes_on w.acts flow last
    (comes_map (found_aims z) (before code goal w.acts last) refl flow
    (λ c1 f1 v1 next s o.
    found_comes u a r target d acts' behind wanted i
    (record {
      linked = linked_at (d.index + 5) (choose' ++ field) (omega arith) l2;
      paid = omega (arith, paid, n0, n1, n2, n3);
      owed = is.owed;
      enough = omega (arith, enough, n0, n1, n2, n3);
      end = omega (arith, end, n0, n1, n2, n3);
      exit = exit;
    })
    c1 f1 v1 next s o)
    (λ c1 f1 v1 height label s q. absurd q)
    (λ c1 f1 v1 x s q. absurd q)
    (next_comes z
    (record {
      acts = a.acts;
      over = a.over;
      linked = l1;
      paid = omega (arith, paid, n0, n1, n2);
      are = a.are;
      some = a.some;
    })
    d.rest is.are h
    (record { among = is.among; since = is.since; line = is.line }) d.family
    (λ b. known_in h (is.there b) tt)))
