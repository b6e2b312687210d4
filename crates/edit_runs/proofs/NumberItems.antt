-- PUT EDIT of a number, by F or by A: it waits in a register while control items are carried out, and then its field,
-- or its text, is written.
use Rattle.std.proofs.Common.{◌≡◌, ℕ, ◌+◌, ◌<◌, ◌≤◌, List, [], ◌∷◌, ◌++◌, Option, Some, None, true, refl, sym, ap}
use Rattle.std.proofs.Common.{◌∙◌, subst, arith, lit<}
use Rattle.std.specs.Prelude.{ℤ}
use Rattle.rv_meaning.specs.Words.{word}
use Rattle.pli_typing.specs.TypedTree as Y
use Rattle.pli_meaning.specs.Control.{Meaning, act, give, ◌>>=◌, ◌>>◌}
use Rattle.pli_meaning.specs.Evaluating as V
use Rattle.pli_meaning.specs.Evaluating.{Computational, ComputationalNumber}
use Rattle.pli_meaning.specs.Raising.{Around}
use Rattle.pli_meaning.specs.Stream.{with_field}
use Rattle.pli_meaning.specs.Streaming as P
use Rattle.pli_meaning.specs.Streaming.{DataFormat, DataItem, FormatItem, TextItem}
use Rattle.pli_meaning.specs.Texts.{number_text}
use Rattle.pli_meaning.specs.World.{written}
use Rattle.pli_serving.specs.Answers.{Done}
use Rattle.pli_serving.specs.Edits as E
use Rattle.pli_serving.specs.ServiceState.{EditPlace, TextEntry}
use Rattle.pli_serving.specs.TextServices as X
use Rattle.pli_coding.specs.Assembly.{Code, size_of}
use Rattle.pli_coding.specs.Environments.{fetch, none_taken, save}
use Rattle.pli_coding.specs.Expressions.{number_code}
use Rattle.pli_coding.specs.Instructions.{service, small}
use Rattle.pli_coding.specs.Registers.{a0, a1, held_registers}
use Rattle.pli_coding.specs.Streams as C
use Rattle.pli_coding.specs.Streams.{controls_carried_out, has_text, number_written, text_written}
use Rattle.activation_relation.specs.Layers.{Point, services_of}
use Rattle.run_steps.specs.Bodies.{Free, Known}
use Rattle.run_steps.proofs.Bodies.{zero_is}
use Rattle.run_steps.specs.Engine.{Base}
use Rattle.run_steps.specs.Items.{At, Linked}
use Rattle.run_steps.proofs.Items.{straight}
use Rattle.run_steps.proofs.Jumps.{back_of, front_of, linked_at}
use Rattle.run_steps.proofs.Linking.{size_append}
use Rattle.run_steps.proofs.Numbers.{word_small}
use Rattle.run_steps.specs.Numbers.{IsWide}
use Rattle.run_steps.specs.Reach.{Comes, Family, before, cost}
use Rattle.run_steps.proofs.Reach.{comes_on, onward}
use Rattle.run_steps.specs.Temporaries.{nothing}
use Rattle.block_runs.proofs.BlockEntries.{small_is}
use Rattle.block_runs.proofs.CallStatements.{comes_map}
use Rattle.block_runs.proofs.PointGrounds.{point_frame, point_ground}
use Rattle.program_runs.specs.Statements.{IsAmong, set_aside, with_texts}
use Rattle.program_runs.proofs.JumpsOut.{jumps_since}
use Rattle.program_runs.proofs.Waiting.{over_more, texts_among, texts_in}
use Rattle.expression_runs.specs.Laws as L
use Rattle.expression_runs.specs.Values.{behind, number_aims}
use Rattle.expression_runs.proofs.Saving.{fetched_reach, held_after, held_among, held_is_given, saved_reach}
use Rattle.expression_runs.proofs.Words.{frame_of, known_word, valued}
use Rattle.text_runs.proofs.Lengths.{number_text_is}
use Rattle.text_runs.proofs.TextCalls.{Asking, asks, three}
use Rattle.pli_language.specs.Tree as T
use Rattle.edit_runs.specs.Edits.{AreItems, IsItem, Item, kinds_of, placing, putting, within}
use Rattle.edit_runs.proofs.Choices.{Choice, branch_of, chosen_comes, chosen_size}
use Rattle.edit_runs.proofs.Controls.{Loop, found_aims, next_comes}
use Rattle.edit_runs.proofs.Items.{ArePut, Chosen, IsChosen, Puts, by_fixed, fixed_branch, left_aims, left_closed}
use Rattle.edit_runs.proofs.Items.{place_of, setting_in, whole_in}
use Rattle.edit_runs.proofs.Places.{jumps_down, over_place}
use Rattle.edit_runs.proofs.Puts.{ItemGoes}
use Rattle.edit_runs.proofs.TextFields.{Due, field_comes}
use Rattle.pli_meaning.specs.Streaming.{FixedItem}

-- ---- by A

abbrev texted : (precision : ℕ) → Code
texted precision = small a1 precision ∷ service 21

abbrev pub by_text : (precision : ℕ) → Code
by_text precision = fetch a0 none_taken ++ (texted precision ++ text_written)

shown_is :
    (around : Around) (precision : ℕ) (z : ℤ) (width : Option ℕ) →
    P.shown_by around (ComputationalNumber precision z) (TextItem width)
    ≡ act (written (with_field (E.text_field width (number_text precision z))))
unfolding P.shown_by
shown_is around precision z None = refl
shown_is around precision z (Some width) = refl

text_branch :
    (u : Puts) → ArePut u → 1 ≤ u.block.registers → (precision : ℕ) → (0 < precision) × (precision ≤ 31) →
    (width : Option ℕ) (r : Chosen) (h : frame_of u.block r.point) (acts' wanted i : ℕ) →
    IsChosen u (TextItem width) r h (by_text precision) acts' → r.index + size_of (by_text precision) ≡ i →
    Comes u.block.call.code r.credits r.family (services_of r.point) (left_aims u acts' i wanted)
    (((P.shown_by (setting_in u).around (ComputationalNumber precision r.z) (TextItem width)) >> give r.left')
    u.block.call.surroundings.acts r.point.state)
unfolding ◌>>=◌ ◌>>◌ give
text_branch u a one precision bits width r h acts' wanted i is end =
    let w = u.block.call.surroundings in
    let code = u.block.call.code in
    let around = (setting_in u).around in
    let first = u.block.first.control in
    let p1 = r.point in
    let v = services_of p1 in
    let z = r.z in
    let small' = word_small z is.wide in
    let some = bits.0 in
    let most = bits.1 in
    let paid = is.paid in
    let registers : (0 + 1 ≤ u.block.registers) × (u.block.registers ≤ held_registers) = (omega (arith, one), a.held) in
    let back = fetch a0 none_taken in
    let front = small a1 precision ∷ [] in
    let rest = texted precision ++ text_written in
    let n3 = size_append back rest in
    let n4 = size_append (texted precision) text_written in
    let l3 = back_of back rest is.linked in
    let free : Free nothing 10 = record { reserved_stay = λ y t. refl; known_stay = λ b y t q. q; set = λ y t. refl } in
    let far : Free nothing 31 = record { reserved_stay = λ y t. refl; known_stay = λ b y t q. q; set = λ y t. refl } in
    let closed = left_closed u acts' i wanted in
    let last : Unit {0} → Meaning (List FormatItem) = λ t. give r.left' in
    let text = number_text precision z in
    let place = place_of u r.rest in
    let p2 = with_texts (TextEntry text ∷ first.entries) p1 in
    let more : IsAmong (placing place (record u.block {
      first = with_texts (TextEntry text ∷ first.entries)
          u.block.first;
    })) r.numbers p2 =
    texts_among (placing place u.block) [] (TextEntry text ∷ []) is.among
    (over_more (TextEntry text ∷ []) first.entries (place ∷ first.edits) first.layers
    (over_place place first.entries first.edits first.layers a.over)) in
    onward closed
    (fetched_reach (within place (setting_in u)) 0 0 h registers r.credits r.family a0 (word z) small' is.waits free far
    (front_of back rest is.linked) is.there)
    (λ g3 at3.
    let third : Base → ℕ = λ b. (g3 b).machine.registers 12 in
    let r1 = straight (r.credits + size_of back) g3 v v
    (λ b. Known (point_ground w p1 h) v r.numbers (λ j. 0) (three (λ b'. word z) (λ b'. precision) third) b)
    (front_of front (service 21) (front_of (texted precision) text_written l3)) (omega arith) (λ b. (at3 b).pc)
    (λ b. let k = (at3 b).holds in record {
      body = record {
        services = k.body.services;
        registers = k.body.registers;
        bytes = k.body.bytes;
        memory = k.body.memory;
      };
      regs = (k.regs.0, (small_is _ precision (zero_is k.body) (omega (arith, most)), (refl, tt)));
    }) in
    onward closed r1
    (λ g4 at4.
    let asking : Asking = record {
      number = 21;
      x = λ b. word z;
      y = λ b. precision;
      z = third;
      first = λ b. word z;
      second = λ b. precision;
      answer = λ call x0 x1 x2. X.push_number_served call x0 x1;
    } in
    onward closed
    (asks {g' = point_ground w p2 h} asking (r.credits + size_of back + 1) g4
    (record {
      small' = lit< tt;
      serves = λ call r'. refl;
      answers = λ b m.
          ap (λ u'. Done (services_of (with_texts (TextEntry u' ∷ p1.control.entries) p1)) m (word z) precision)
          (number_text_is precision z some is.wide)
          ∙ ap (λ es. Done (services_of (with_texts (TextEntry text ∷ es) p1)) m (word z) precision)
          is.among.entries;
      more = omega arith;
    })
    (record { reserved = λ b. refl; memory = λ b m k. texts_in (TextEntry text ∷ first.entries) k })
    (back_of front (service 21) (front_of (texted precision) text_written l3)) at4)
    (λ g5 at5.
    let due : Due = record {
      text = text;
      rest = r.rest;
      left' = r.left';
      width = width;
      point = p2;
      numbers = r.numbers;
      credits = r.credits + size_of back + 1 + 2;
      index = r.index + size_of back + 1 + 2;
      family = g5;
    } in
    comes_on w.acts (P.shown_by around (ComputationalNumber precision z) (TextItem width) w.acts p1.state) last
    (subst (λ (m : Meaning (Unit {0})). Comes code due.credits g5 (services_of p2)
    (before code (left_aims u acts' i wanted) w.acts last) (m w.acts p1.state))
    (sym (shown_is around precision z width))
    (field_comes u a due h
    (record {
      among = more;
      line = is.line;
      next = is.next;
      are = is.are;
      linked = linked_at due.index text_written (omega arith) (back_of (texted precision) text_written l3);
      paid = omega (arith, paid, n3, n4);
      there = λ b. record { pc = (at5 b).pc; holds = record { body = (at5 b).holds.body; regs = tt } };
    })
    acts' wanted i is.since (omega (arith, n3, n4, end)))))))

-- ---- by what is next

abbrev choice_code : Puts → (precision : ℕ) → Code
choice_code u precision = C.by_item u.formats by_fixed (by_text precision)

-- from its register on
abbrev shown_code : Puts → (precision : ℕ) → Code
shown_code u precision = save a0 none_taken ++ (controls_carried_out ++ choice_code u precision)

-- its precision is one if the list has A items
abbrev pub HasPrecision : T.Formats → ℕ → Type 0
HasPrecision fs precision = has_text fs ≡ true → (0 < precision) × (precision ≤ 31)

branch_comes :
    (u : Puts) → ArePut u → 1 ≤ u.block.registers → (precision : ℕ) → HasPrecision u.formats precision →
    (item : DataItem) → IsItem (kinds_of u.formats) item → (r : Chosen) (h : frame_of u.block r.point)
    (acts' wanted i : ℕ) → IsChosen u item r h (branch_of item by_fixed (by_text precision)) acts' →
    r.index + size_of (branch_of item by_fixed (by_text precision)) ≡ i →
    Comes u.block.call.code r.credits r.family (services_of r.point) (left_aims u acts' i wanted)
    (((P.shown_by (setting_in u).around (ComputationalNumber precision r.z) item) >> give r.left')
    u.block.call.surroundings.acts r.point.state)
branch_comes u a one precision bits (FixedItem width) fits r h acts' wanted i is end =
    fixed_branch u a one precision width r h acts' wanted i is end
branch_comes u a one precision bits (TextItem width) fits r h acts' wanted i is end =
    text_branch u a one precision (bits fits) width r h acts' wanted i is end

-- it has been evaluated, and so much of the list is left
record Valued : Type 0 where
  rest : List FormatItem
  point : Point
  numbers : ℕ → ℕ
  z : ℤ
  credits : ℕ
  index : ℕ
  family : Family

-- its word is in a0
record IsValued (u : Puts) (precision : ℕ) (r : Valued) (h : frame_of u.block r.point) : Type 0 where
  among : IsAmong (placing (place_of u r.rest) u.block) r.numbers r.point
  line : r.point.control.line ≡ u.line
  are : AreItems (kinds_of u.formats) r.rest
  wide : IsWide r.z
  linked : Linked u.block.call.surroundings.links u.block.call.code r.index (shown_code u precision)
  paid : r.credits + size_of (shown_code u precision) + u.most ≤ cost u.block.call.code
  there :
      (b : Base) →
      At b r.index (Known (point_ground u.block.call.surroundings r.point h) (services_of r.point) r.numbers (λ j. 0)
      (valued (word r.z)) b) (r.family b)

valued_comes :
    (u : Puts) → ArePut u → 1 ≤ u.block.registers → (precision : ℕ) → HasPrecision u.formats precision → (r : Valued)
    (h : frame_of u.block r.point) (acts' wanted i : ℕ) → IsValued u precision r h →
    acts' ≤ r.point.state.world.acts → r.index + size_of (shown_code u precision) ≡ i →
    size_of (shown_code u precision) ≤ wanted →
    Comes u.block.call.code r.credits r.family (services_of r.point) (left_aims u acts' i wanted)
    (((P.next_item P.control_put (whole_in u) r.rest)
    >>= (λ next. (P.shown_by (setting_in u).around (ComputationalNumber precision r.z) next.0) >> give next.1))
    u.block.call.surroundings.acts r.point.state)
unfolding ◌>>=◌
valued_comes u a one precision bits r h acts' wanted i is since end enough =
    let w = u.block.call.surroundings in
    let code = u.block.call.code in
    let around = (setting_in u).around in
    let p = r.point in
    let s = within (place_of u r.rest) (setting_in u) in
    let z = r.z in
    let small' = word_small z is.wide in
    let paid = is.paid in
    let registers : (0 + 1 ≤ u.block.registers) × (u.block.registers ≤ held_registers) = (omega (arith, one), a.held) in
    let put' = save a0 none_taken in
    let chosen = choice_code u precision in
    let n1 = size_append put' (controls_carried_out ++ chosen) in
    let n2 = size_append controls_carried_out chosen in
    let n3 = size_append (fetch a0 none_taken) number_written in
    let n4 = size_append (fetch a0 none_taken) (texted precision ++ text_written) in
    let n5 = size_append (texted precision) text_written in
    let least = chosen_size u by_fixed (by_text precision) (omega (arith, n3)) (omega (arith, n4, n5)) in
    let l1 = back_of put' (controls_carried_out ++ chosen) is.linked in
    let numbers' = held_after r.numbers 0 (word z) in
    let goal = left_aims u acts' i wanted in
    let closed = left_closed u acts' i wanted in
    let loop : Loop = record {
      kinds = kinds_of u.formats;
      block = u.block;
      line = u.line;
      acts = acts';
      first = u.first;
      more = u.more;
      numbers = numbers';
      index = r.index + size_of put';
      credits = r.credits + size_of put';
    } in
    let next' : DataItem × List FormatItem → Meaning (List FormatItem) =
    λ next. (P.shown_by around (ComputationalNumber precision z) next.0) >> give next.1 in
    let flow = P.next_item P.control_put (whole_in u) r.rest w.acts p.state in
    onward closed
    (saved_reach s 0 0 h registers r.credits r.family (word z) small'
    (front_of put' (controls_carried_out ++ chosen) is.linked) is.there)
    (λ g at.
    comes_on w.acts flow next'
    (comes_map (found_aims loop) (before code goal w.acts next') refl flow
    (λ c1 f1 v1 next s1 o.
    let few = o.few in
    let among' = o.here.among in
    subst (λ n. Comes code c1 f1 v1 goal (next' n w.acts s1)) (sym o.next_is)
    (subst (λ s2. Comes code c1 f1 v1 goal (next' (o.item, o.left') w.acts s2)) (sym o.state)
    (onward closed o.reach
    (λ g2 at2.
    let x : Choice = record {
      fixed = by_fixed;
      text = by_text precision;
      item = o.item;
      point = o.point;
      numbers = numbers';
      credits = o.credits;
      index = loop.index + 5;
      family = g2;
    } in
    chosen_comes u x o.frame acts' i wanted (next' (o.item, o.left') w.acts o.point.state)
    (record {
      fits = o.fits;
      linked = back_of controls_carried_out chosen l1;
      there = at2;
    })
    (omega (arith, enough, n1, n2)) (omega (arith, end, n1, n2))
    (λ index credits end' wanted' g3 l e few' there.
    branch_comes u a one precision bits o.item o.fits
    (record {
      rest = o.rest;
      left' = o.left';
      point = o.point;
      numbers = numbers';
      z = z;
      credits = credits;
      index = index;
      family = g3;
    })
    o.frame acts' wanted' end'
    (record {
      among = among';
      line = o.here.line;
      next = o.current_is;
      are = o.are;
      wide = is.wide;
      waits = held_is_given r.numbers 0 (word z);
      since = o.here.since;
      linked = l;
      paid = omega (arith, paid, few, few', n1, n2);
      there = there;
    })
    e)))))
    (λ c1 f1 v1 height label s1 q. absurd q)
    (λ c1 f1 v1 r' s1 q. absurd q)
    (next_comes loop
    (record {
      acts = a.acts;
      over = a.over;
      linked = front_of controls_carried_out chosen l1;
      paid = omega (arith, paid, n1, n2, least);
      are = a.are;
      some = a.some;
    })
    r.rest is.are h
    (record {
      among = held_among s 0 1 (word z) registers (omega arith) small' is.among;
      since = since;
      line = is.line;
    })
    g at)))

-- ---- one number

abbrev pub put_item : Item → Y.PutItem
put_item x = Y.PutValue (Y.NumberValue x.precision x.source)

pub number_goes :
    (u : Puts) → ArePut u → 1 ≤ u.block.registers → (x : Item) → HasPrecision u.formats x.precision →
    ((place : EditPlace) → L.Does (within place (setting_in u)) u.need x.source) → ItemGoes u (put_item x)
unfolding P.item_put V.computational ◌>>=◌ give
number_goes u a one x bits does d acts' wanted i is l end enough =
    let w = u.block.call.surroundings in
    let code = u.block.call.code in
    let p = d.point in
    let around = (setting_in u).around in
    let place = putting (whole_in u) d.rest in
    let part = number_code u.block.environment (set_aside u.words) x.source in
    let shown = shown_code u x.precision in
    let n0 = size_append part shown in
    let y = behind p d.numbers 0 d.credits d.index part in
    let goal = left_aims u acts' i wanted in
    let paid = is.paid in
    let since = is.since in
    let flow = V.number around x.source w.acts p.state in
    let next0 : ℤ → Meaning Computational = λ z. give (ComputationalNumber x.precision z) in
    let next1 : Computational → Meaning (List FormatItem) =
    λ v. (P.next_item P.control_put (whole_in u) d.rest) >>= (λ next. (P.shown_by around v next.0) >> give next.1) in
    comes_on w.acts (V.computational around (Y.NumberValue x.precision x.source) w.acts p.state) next1
    (comes_on w.acts flow next0
    (comes_map (number_aims (placing place u.block) [] y) (before code (before code goal w.acts next1) w.acts next0)
    refl
    flow
    (λ c1 f1 v1 z s1 q.
    let o = q.1 in
    let more = o.since in
    let h = point_frame o.among.stands o.among.image in
    record {
      to = λ early.
          subst (λ s. Comes code c1 f1 v1 goal (next1 (ComputationalNumber x.precision z) w.acts s)) (sym o.state)
          (onward (left_closed u acts' i wanted) o.reach
          (λ g at.
          valued_comes u a one x.precision bits
          (record {
            rest = d.rest;
            point = o.point;
            numbers = o.numbers;
            z = z;
            credits = y.wanted;
            index = y.index;
            family = g;
          })
          h acts' wanted i
          (record {
            among = o.among;
            line = o.line ∙ is.line;
            are = is.are;
            wide = q.0;
            linked = back_of part shown l;
            paid = omega (arith, paid, n0);
            there = λ b. known_word u.block h (at b);
          })
          (omega (arith, since, more)) (omega (arith, n0, end)) (omega (arith, n0, enough))));
    })
    (λ c1 f1 v1 height label s q. jumps_since since (jumps_down place u.block u.labels q))
    (λ c1 f1 v1 r s q. absurd q)
    (does place p d.numbers 0 d.credits d.index d.family is.among is.line
    (let room = a.registers in omega (arith, room), a.held) (front_of part shown l)
    (omega (arith, paid, n0)) is.there)))
