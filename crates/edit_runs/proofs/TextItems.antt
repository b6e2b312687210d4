-- PUT EDIT of a text, by A or by F: it waits on the stack of texts while control items are carried out, and is then
-- written and dropped, or becomes the number that it shows.
use Rattle.std.proofs.Common.{◌≡◌, ℕ, ◌+◌, ◌≤◌, List, [], ◌∷◌, ◌++◌, Option, Some, None, true}
use Rattle.std.proofs.Common.{refl, sym, ap, ◌∙◌, subst, arith, lit<}
use Rattle.pli_typing.specs.TypedTree as Y
use Rattle.pli_meaning.specs.Control.{Meaning, act, give, ◌>>=◌, ◌>>◌}
use Rattle.pli_meaning.specs.Evaluating as V
use Rattle.pli_meaning.specs.Evaluating.{Computational, ComputationalText}
use Rattle.pli_meaning.specs.Raising.{Around}
use Rattle.pli_meaning.specs.Stream.{with_field}
use Rattle.pli_meaning.specs.Streaming as P
use Rattle.pli_meaning.specs.Streaming.{DataFormat, DataItem, FixedItem, FormatItem, TextItem, format_items}
use Rattle.pli_meaning.specs.World.{written}
use Rattle.pli_serving.specs.Answers.{Done}
use Rattle.pli_serving.specs.Outcomes.{becoming, on_text, or_status, with_entries}
use Rattle.std.specs.Option.{option_map}
use Rattle.pli_serving.specs.ServiceState.{EditPlace, TextEntry}
use Rattle.pli_coding.specs.Assembly.{Code, size_of}
use Rattle.pli_coding.specs.Expressions.{text_code}
use Rattle.pli_coding.specs.Instructions.{small, tested_service}
use Rattle.pli_coding.specs.Registers.{a0}
use Rattle.pli_coding.specs.Streams as C
use Rattle.pli_coding.specs.Streams.{controls_carried_out, has_fixed, number_written, text_written}
use Rattle.activation_relation.specs.Layers.{Point, services_of}
use Rattle.run_steps.specs.Bodies.{Known}
use Rattle.run_steps.proofs.Bodies.{zero_is}
use Rattle.run_steps.specs.Engine.{Base, call_at}
use Rattle.run_steps.specs.Items.{At, Linked}
use Rattle.run_steps.proofs.Items.{straight}
use Rattle.run_steps.proofs.Jumps.{back_of, front_of}
use Rattle.run_steps.proofs.Linking.{size_append}
use Rattle.run_steps.specs.Reach.{Comes, Family, before, cost}
use Rattle.run_steps.proofs.Reach.{before_closed, comes_on, onward}
use Rattle.run_steps.specs.Temporaries.{nothing}
use Rattle.block_runs.proofs.BlockEntries.{small_is}
use Rattle.block_runs.proofs.CallStatements.{comes_map}
use Rattle.block_runs.proofs.PointGrounds.{known_in, point_frame, point_ground}
use Rattle.program_runs.specs.Statements.{IsAmong, set_aside, waiting, with_texts}
use Rattle.program_runs.proofs.JumpsOut.{jumps_since}
use Rattle.program_runs.proofs.Waiting.{over_more, texts_among}
use Rattle.expression_runs.specs.Values.{behind}
use Rattle.expression_runs.proofs.Words.{frame_of}
use Rattle.text_runs.specs.Laws.{TextDoes}
use Rattle.text_runs.specs.Texts.{text_aims}
use Rattle.std.specs.Prelude.{ℤ}
use Rattle.rv_meaning.specs.Words.{word}
use Rattle.pli_meaning.specs.Codes.{conversion_code, too_wide_code}
use Rattle.pli_meaning.specs.Raising as R
use Rattle.pli_meaning.specs.Stream.{fixed_field}
use Rattle.pli_meaning.specs.Texts.{number_in_text}
use Rattle.pli_serving.specs.TextServices as X
use Rattle.text_runs.specs.Texts.{ErrorComes}
use Rattle.text_runs.proofs.Lengths.{number_wide}
use Rattle.text_runs.proofs.Tested.{Place, Tested, tested_comes}
use Rattle.text_runs.proofs.TextCalls.{three, told}
use Rattle.rv_meaning.specs.declared.instr.Instr.{Instr}
use Rattle.pli_serving.specs.Finding.{Call}
use Rattle.pli_serving.specs.ServiceState.{Entry, Services}
use Rattle.edit_runs.specs.Edits.{AreItems, IsItem, kinds_of, placing, putting, within}
use Rattle.edit_runs.proofs.Choices.{Choice, branch_of, chosen_comes, chosen_size}
use Rattle.edit_runs.proofs.Controls.{Loop, current, found_aims, next_comes}
use Rattle.edit_runs.proofs.Items.{ArePut, Puts, Ready, left_aims, left_closed, number_comes, setting_in, whole_in}
use Rattle.edit_runs.proofs.Places.{jumps_down, over_place}
use Rattle.edit_runs.proofs.Puts.{ItemGoes}
use Rattle.edit_runs.proofs.TextFields.{field_comes, shown_is}

abbrev pub text_item : Y.Text → Y.PutItem
text_item x = Y.PutValue (Y.TextValue x)

abbrev by_fixed : Code
by_fixed = small a0 0 ∷ (tested_service 26 ++ number_written)

abbrev choice_code : Puts → Code
choice_code u = C.by_item u.formats by_fixed text_written

abbrev text_shown : Puts → Code
text_shown u = controls_carried_out ++ choice_code u

-- the loop that carries out control items, while the text waits
abbrev loop_of : Puts → (text : List ℕ) → (acts' credits index : ℕ) → (ℕ → ℕ) → Loop
loop_of u text acts' credits index numbers =
    record {
      kinds = kinds_of u.formats;
      block = waiting (TextEntry text ∷ []) u.block;
      line = u.line;
      acts = acts';
      first = u.first;
      more = u.more;
      numbers = numbers;
      index = index;
      credits = credits;
    }

-- ---- where a text waits, and an item is next

record Chosen : Type 0 where
  text : List ℕ
  rest : List FormatItem
  left' : List FormatItem
  point : Point
  numbers : ℕ → ℕ
  credits : ℕ
  index : ℕ
  family : Family

record IsChosen (u : Puts) (item : DataItem) (r : Chosen) (h : frame_of u.block r.point) (code : Code)
    (acts' : ℕ) : Type 0
  where
    among :
        IsAmong (placing (putting (whole_in u) r.rest) (waiting (TextEntry r.text ∷ []) u.block)) r.numbers r.point
    line : r.point.control.line ≡ u.line
    next : current (whole_in u) r.rest ≡ DataFormat item ∷ r.left'
    are : AreItems (kinds_of u.formats) r.left'
    since : acts' ≤ r.point.state.world.acts
    linked : Linked u.block.call.surroundings.links u.block.call.code r.index code
    paid : r.credits + size_of code + u.most ≤ cost u.block.call.code
    there :
        (b : Base) →
        At b r.index (Known (point_ground u.block.call.surroundings r.point h) (services_of r.point) r.numbers
        (λ j. 0) nothing b) (r.family b)

-- by A
text_branch :
    (u : Puts) → ArePut u → (width : Option ℕ) (r : Chosen) (h : frame_of u.block r.point) (acts' wanted i : ℕ) →
    IsChosen u (TextItem width) r h text_written acts' → r.index + size_of text_written ≡ i →
    Comes u.block.call.code r.credits r.family (services_of r.point) (left_aims u acts' i wanted)
    (((P.shown_by (setting_in u).around (ComputationalText r.text) (TextItem width)) >> give r.left')
    u.block.call.surroundings.acts r.point.state)
unfolding ◌>>◌ ◌>>=◌ give
text_branch u a width r h acts' wanted i is end =
    let w = u.block.call.surroundings in
    let code = u.block.call.code in
    let around = (setting_in u).around in
    let last : Unit {0} → Meaning (List FormatItem) = λ t. give r.left' in
    let paid = is.paid in
    comes_on w.acts (P.shown_by around (ComputationalText r.text) (TextItem width) w.acts r.point.state) last
    (subst (λ (m : Meaning (Unit {0})). Comes code r.credits r.family (services_of r.point)
    (before code (left_aims u acts' i wanted) w.acts last) (m w.acts r.point.state))
    (sym (shown_is around r.text width))
    (field_comes u a
    (record {
      text = r.text;
      rest = r.rest;
      left' = r.left';
      width = width;
      point = r.point;
      numbers = r.numbers;
      credits = r.credits;
      index = r.index;
      family = r.family;
    })
    h
    (record {
      among = is.among;
      line = is.line;
      next = is.next;
      are = is.are;
      linked = is.linked;
      paid = omega (arith, paid);
      there = is.there;
    })
    acts' wanted i is.since end))

-- ---- by F: the number that it shows

word_told :
    {Z : Type 0} (c : Call) (v : Services) (mode : ℕ) (word_of : Z → ℕ) (o : Option Z) →
    or_status c mode conversion_code (option_map word_of o) (λ w. Done v c.memory w 0)
    ≡ told c.services c.memory mode conversion_code (λ r. v) word_of o
word_told c v mode word_of None = refl
word_told c v mode word_of (Some r) = refl

number_answer :
    (code : List Instr) (p : Point) (m text : List ℕ) (below : List Entry) →
    p.control.entries ≡ TextEntry text ∷ below →
    X.to_number_served (call_at code (services_of p) m) 0
    ≡ told (services_of p) m 0 conversion_code (λ z. services_of (with_texts below p)) word (number_in_text text)
number_answer code p m text below top =
    let c = call_at code (services_of p) m in
    ap (λ u. on_text u (λ t more. or_status c 0 conversion_code (X.word_in_text 0 t)
    (λ w. becoming c (with_entries more (services_of p)) w 0))) top
    ∙ word_told c (services_of (with_texts below p)) 0 word (number_in_text text)

fixed_branch :
    (u : Puts) → ArePut u → ((place : EditPlace) → ErrorComes ℤ (within place (setting_in u))) → (width : ℕ)
    (r : Chosen) (h : frame_of u.block r.point) (acts' wanted i : ℕ) →
    IsChosen u (FixedItem width) r h by_fixed acts' → r.index + size_of by_fixed ≡ i →
    Comes u.block.call.code r.credits r.family (services_of r.point) (left_aims u acts' i wanted)
    (((P.shown_by (setting_in u).around (ComputationalText r.text) (FixedItem width)) >> give r.left')
    u.block.call.surroundings.acts r.point.state)
unfolding P.shown_by ◌>>◌ ◌>>=◌ give
fixed_branch u a error width r h acts' wanted i is end =
    let w = u.block.call.surroundings in
    let code = u.block.call.code in
    let around = (setting_in u).around in
    let p = r.point in
    let v = services_of p in
    let e = u.block.first.control.entries in
    let first' = u.block.first.control in
    let place = putting (whole_in u) r.rest in
    let q = with_texts e p in
    let since = is.since in
    let paid = is.paid in
    let last : Unit {0} → Meaning (List FormatItem) = λ t. give r.left' in
    let fields : ℤ → Meaning (Unit {0}) =
    λ z. (R.or_error around too_wide_code (fixed_field width z)) >>= (λ field. act (written (with_field field))) in
    let closed = before_closed w.acts fields (before_closed w.acts last (left_closed u acts' i wanted)) in
    let one = small a0 0 ∷ [] in
    let rest = tested_service 26 ++ number_written in
    let n1 = size_append (tested_service 26) number_written in
    let l1 = back_of one rest is.linked in
    let second : Base → ℕ = λ b. (r.family b).machine.registers 11 in
    let third : Base → ℕ = λ b. (r.family b).machine.registers 12 in
    let r1 = straight r.credits r.family v v
    (λ b. Known (point_ground w p h) v r.numbers (λ j. 0) (three (λ b'. 0) second third) b)
    (front_of one rest is.linked) (omega arith) (λ b. (is.there b).pc)
    (λ b. let o = (is.there b).holds in record {
      body = record {
        services = o.body.services;
        registers = o.body.registers;
        bytes = o.body.bytes;
        memory = o.body.memory;
      };
      regs = (small_is _ 0 (zero_is o.body) (omega arith), (refl, (refl, tt)));
    }) in
    comes_on w.acts (((R.or_error around conversion_code (number_in_text r.text)) >>= fields) w.acts p.state) last
    (comes_on w.acts (R.or_error around conversion_code (number_in_text r.text) w.acts p.state) fields
    (onward closed r1
    (λ g at.
    let there : Place = record {
      entries = TextEntry r.text ∷ [];
      setting = within place (setting_in u);
      point = p;
      numbers = r.numbers;
      credits = r.credits + 1;
      index = r.index + 1;
      family = g;
    } in
    let asked : Tested ℤ = record {
      number = 26;
      code = conversion_code;
      x = λ b. 0;
      y = second;
      z = third;
      answer = λ call x0 x1 x2. X.to_number_served call x0;
      outcome = number_in_text r.text;
      texts = λ z. e;
      result = λ z b. word z;
    } in
    tested_comes there asked closed refl h
    (record {
      among = is.among;
      line = is.line;
      linked = front_of (tested_service 26) number_written l1;
      paid = omega (arith, paid, n1);
      there = at;
    })
    (record {
      small' = lit< tt;
      coded = lit< tt;
      some = refl;
      serves = λ call r'. refl;
      answers = λ b m. number_answer code p m r.text e is.among.entries;
    })
    (error place)
    (λ c f v' height label s j. jumps_since since (jumps_down place u.block u.labels j))
    (λ z g' shown at'.
    let r' : Ready = record {
      rest = r.rest;
      width = width;
      left' = r.left';
      point = q;
      numbers = r.numbers;
      z = z;
      credits = r.credits + 1 + 5;
      index = r.index + 1 + 5;
      family = g';
    } in
    subst (λ n. Comes code r'.credits g' (services_of q)
    (before code (left_aims u acts' n wanted) w.acts last) (fields z w.acts q.state)) (omega (arith, n1, end))
    (number_comes u a r' h acts' wanted
    (record {
      among = texts_among (placing place u.block) (TextEntry r.text ∷ []) [] is.among
          (over_place place first'.entries first'.edits first'.layers a.over);
      line = is.line;
      next = is.next;
      are = is.are;
      wide = number_wide r.text z shown;
      linked = back_of (tested_service 26) number_written l1;
      paid = omega (arith, paid, n1);
      there = λ b. record {
        pc = (at' b).pc;
        holds = record { body = (at' b).holds.body; regs = ((at' b).holds.regs.0, tt) };
      };
    })
    since)))))

-- an ERROR of a text that shows none comes to what it means, if the list has F items
abbrev pub ErrsAsNumber : Puts → Type 0
ErrsAsNumber u = has_fixed u.formats ≡ true → (place : EditPlace) → ErrorComes ℤ (within place (setting_in u))

branch_comes :
    (u : Puts) → ArePut u → ErrsAsNumber u → (item : DataItem) → IsItem (kinds_of u.formats) item →
    (r : Chosen) (h : frame_of u.block r.point) (acts' wanted i : ℕ) →
    IsChosen u item r h (branch_of item by_fixed text_written) acts' →
    r.index + size_of (branch_of item by_fixed text_written) ≡ i →
    Comes u.block.call.code r.credits r.family (services_of r.point) (left_aims u acts' i wanted)
    (((P.shown_by (setting_in u).around (ComputationalText r.text) item) >> give r.left')
    u.block.call.surroundings.acts r.point.state)
branch_comes u a error (FixedItem width) fits r h acts' wanted i is end =
    fixed_branch u a (error fits) width r h acts' wanted i is end
branch_comes u a error (TextItem width) fits r h acts' wanted i is end =
    text_branch u a width r h acts' wanted i is end

-- ---- one text

pub text_goes :
    (u : Puts) → ArePut u → ErrsAsNumber u → (x : Y.Text) →
    ((place : EditPlace) → TextDoes [] (within place (setting_in u)) u.need x) → ItemGoes u (text_item x)
unfolding P.item_put V.computational ◌>>=◌ give
text_goes u a error x does d acts' wanted i is l end enough =
    let w = u.block.call.surroundings in
    let code = u.block.call.code in
    let p = d.point in
    let around = (setting_in u).around in
    let place = putting (whole_in u) d.rest in
    let part = text_code u.block.environment (set_aside u.words) x in
    let n0 = size_append part (text_shown u) in
    let n2 = size_append controls_carried_out (choice_code u) in
    let least = chosen_size u by_fixed text_written (omega arith) (omega arith) in
    let y = behind p d.numbers 0 d.credits d.index part in
    let goal = left_aims u acts' i wanted in
    let paid = is.paid in
    let since = is.since in
    let first = u.block.first.control in
    let flow = V.text around x w.acts p.state in
    let next0 : List ℕ → Meaning Computational = λ t. give (ComputationalText t) in
    let next1 : Computational → Meaning (List FormatItem) =
    λ v. (P.next_item P.control_put (whole_in u) d.rest) >>= (λ next. (P.shown_by around v next.0) >> give next.1) in
    let lc = back_of part (text_shown u) l in
    comes_on w.acts (V.computational around (Y.TextValue x) w.acts p.state) next1
    (comes_on w.acts flow next0
    (comes_map (text_aims [] (within place (setting_in u)) y)
    (before code (before code goal w.acts next1) w.acts next0) refl flow
    (λ c1 f1 v1 text s1 q.
    let more = q.since in
    let p1 = q.point in
    let h = point_frame q.among.stands q.among.image in
    let loop = loop_of u text acts' y.wanted y.index q.numbers in
    let next2 : DataItem × List FormatItem → Meaning (List FormatItem) =
    λ next. (P.shown_by around (ComputationalText text) next.0) >> give next.1 in
    let flow2 = P.next_item P.control_put (whole_in u) d.rest w.acts p1.state in
    record {
      to = λ early. subst (λ s. Comes code c1 f1 v1 goal (next1 (ComputationalText text) w.acts s)) (sym q.state)
          (onward (left_closed u acts' i wanted) q.reach
          (λ g at.
          comes_on w.acts flow2 next2
          (comes_map (found_aims loop) (before code goal w.acts next2) refl flow2
          (λ c2 f2 v2 next s2 o.
          let few = o.few in
          subst (λ n. Comes code c2 f2 v2 goal (next2 n w.acts s2)) (sym o.next_is)
          (subst (λ s3. Comes code c2 f2 v2 goal (next2 (o.item, o.left') w.acts s3)) (sym o.state)
          (onward (left_closed u acts' i wanted) o.reach
          (λ g2 at2.
          let c : Choice = record {
            fixed = by_fixed;
            text = text_written;
            item = o.item;
            point = o.point;
            numbers = q.numbers;
            credits = o.credits;
            index = y.index + 5;
            family = g2;
          } in
          chosen_comes u c o.frame acts' i wanted (next2 (o.item, o.left') w.acts o.point.state)
          (record {
            fits = o.fits;
            linked = back_of controls_carried_out (choice_code u) lc;
            there = at2;
          })
          (omega (arith, enough, n0, n2)) (omega (arith, end, n0, n2))
          (λ index credits end' wanted' g3 l3 e few' there.
          branch_comes u a error o.item o.fits
          (record {
            text = text;
            rest = o.rest;
            left' = o.left';
            point = o.point;
            numbers = q.numbers;
            credits = credits;
            index = index;
            family = g3;
          })
          o.frame acts' wanted' end'
          (record {
            among = o.here.among;
            line = o.here.line;
            next = o.current_is;
            are = o.are;
            since = o.here.since;
            linked = l3;
            paid = omega (arith, paid, few, few', n0, n2);
            there = there;
          })
          e)))))
          (λ c2 f2 v2 height label s2 z. absurd z)
          (λ c2 f2 v2 r s2 z. absurd z)
          (next_comes loop
          (record {
            acts = a.acts;
            over = over_more (TextEntry text ∷ []) first.entries first.edits first.layers a.over;
            linked = front_of controls_carried_out (choice_code u) lc;
            paid = omega (arith, paid, n0, n2, least);
            are = a.are;
            some = a.some;
          })
          d.rest is.are h
          (record { among = q.among; since = omega (arith, since, more); line = q.line ∙ is.line })
          g (λ b. known_in h (at b) tt)))));
    })
    (λ c1 f1 v1 height label s q. jumps_since since (jumps_down place u.block u.labels q))
    (λ c1 f1 v1 r s q. absurd q)
    (does place p d.numbers 0 d.credits d.index d.family is.among is.line
    (let room = a.registers in omega (arith, room), a.held) (front_of part (text_shown u) l)
    (omega (arith, paid, n0)) is.there)))
