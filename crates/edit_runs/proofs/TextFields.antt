-- The field of a text by A: the text on top of the stack is written and dropped.
use Rattle.std.proofs.Common.{◌≡◌, ℕ, ◌+◌, ◌<◌, ◌≤◌, List, [], ◌∷◌, Option, Some, None}
use Rattle.std.proofs.Common.{refl, ap, ◌∙◌, arith}
use Rattle.rv_meaning.specs.declared.instr.Instr.TheVariants as I
use Rattle.pli_meaning.specs.Control.{Meaning, act, give}
use Rattle.pli_meaning.specs.Evaluating.{ComputationalText}
use Rattle.pli_meaning.specs.Raising.{Around}
use Rattle.pli_meaning.specs.Stream.{with_field}
use Rattle.pli_meaning.specs.Streaming as P
use Rattle.pli_meaning.specs.Streaming.{DataFormat, DataItem, FixedItem, FormatItem, TextItem, format_items}
use Rattle.pli_meaning.specs.World.{written}
use Rattle.pli_serving.specs.Answers.{Done}
use Rattle.pli_serving.specs.Edits as E
use Rattle.pli_serving.specs.Outcomes.{on_text, with_entries}
use Rattle.pli_serving.specs.ServiceState.{TextEntry}
use Rattle.pli_coding.specs.Assembly.{Plain}
use Rattle.pli_coding.specs.Instructions.{small}
use Rattle.pli_coding.specs.Registers.{a7}
use Rattle.pli_coding.specs.Streams.{text_written}
use Rattle.activation_relation.specs.Layers.{Point, services_of}
use Rattle.run_steps.specs.Bodies.{Known}
use Rattle.run_steps.proofs.Bodies.{zero_is}
use Rattle.run_steps.specs.Calls.{Calling}
use Rattle.run_steps.proofs.Calls.{acts, called}
use Rattle.run_steps.specs.Engine.{Base, address, call_at}
use Rattle.run_steps.specs.Items.{At, Linked}
use Rattle.run_steps.proofs.Items.{straight}
use Rattle.run_steps.proofs.Jumps.{back_of, front_of}
use Rattle.run_steps.specs.Reach.{Comes, Family, before, cost}
use Rattle.run_steps.proofs.Reach.{before_closed, onward, stay}
use Rattle.run_steps.specs.Temporaries.{nothing}
use Rattle.block_runs.proofs.BlockEntries.{small_is}
use Rattle.block_runs.proofs.PointGrounds.{in_known, point_ground}
use Rattle.program_runs.specs.Statements.{IsAmong, waiting, with_texts}
use Rattle.program_runs.proofs.Waiting.{texts_among}
use Rattle.expression_runs.proofs.Words.{frame_of}
use Rattle.edit_runs.specs.Edits.{AreItems, kinds_of, placing, putting}
use Rattle.edit_runs.specs.Writing.{writing}
use Rattle.edit_runs.proofs.Controls.{current, current_found}
use Rattle.edit_runs.proofs.Items.{ArePut, Puts, left_aims, left_closed, whole_in}
use Rattle.edit_runs.proofs.Places.{edits_among, over_place}
use Rattle.edit_runs.proofs.Writing.{writing_among, writing_comes}

pub shown_is :
    (around : Around) (text : List ℕ) (width : Option ℕ) →
    P.shown_by around (ComputationalText text) (TextItem width) ≡ act (written (with_field (E.text_field width text)))
unfolding P.shown_by
shown_is around text None = refl
shown_is around text (Some width) = refl

-- ---- where an A item is next

-- the point behind the field, where the text is gone
abbrev pub point_behind : Puts → (left' : List FormatItem) → (field : List ℕ) → Point → Point
point_behind u left' field p =
    writing (with_field field) (putting (whole_in u) left' ∷ u.block.first.control.edits)
    (with_texts u.block.first.control.entries p)

behind_among :
    (u : Puts) → ArePut u → (text field : List ℕ) (rest left' : List FormatItem) {numbers : ℕ → ℕ} {p : Point} →
    IsAmong (placing (putting (whole_in u) rest) (waiting (TextEntry text ∷ []) u.block)) numbers p →
    p.state.world.acts < u.block.call.surroundings.acts →
    IsAmong (placing (putting (whole_in u) left') u.block) numbers (point_behind u left' field p)
behind_among u a text field rest left' o less =
    let first = u.block.first.control in
    let place = putting (whole_in u) rest in
    let next = putting (whole_in u) left' in
    let without = texts_among (placing place u.block) (TextEntry text ∷ []) [] o
    (over_place place first.entries first.edits first.layers a.over) in
    writing_among (with_field field)
    (edits_among u.block (place ∷ first.edits) (next ∷ first.edits) (next ∷ first.edits) without refl
    (over_place next first.entries first.edits first.layers a.over)) less

-- where a text waits and an A item is next
pub record Due : Type 0 where
  pub text : List ℕ
  pub rest : List FormatItem
  pub left' : List FormatItem
  pub width : Option ℕ
  pub point : Point
  pub numbers : ℕ → ℕ
  pub credits : ℕ
  pub index : ℕ
  pub family : Family

abbrev pub field_of : Due → List ℕ
field_of d = E.text_field d.width d.text

abbrev pub behind_due : Puts → Due → Point
behind_due u d = point_behind u d.left' (field_of d) d.point

pub record IsDue (u : Puts) (d : Due) (h : frame_of u.block d.point) : Type 0 where
  pub among :
      IsAmong (placing (putting (whole_in u) d.rest) (waiting (TextEntry d.text ∷ []) u.block)) d.numbers d.point
  pub line : d.point.control.line ≡ u.line
  pub next : current (whole_in u) d.rest ≡ DataFormat (TextItem d.width) ∷ d.left'
  pub are : AreItems (kinds_of u.formats) d.left'
  pub linked : Linked u.block.call.surroundings.links u.block.call.code d.index text_written
  pub paid : d.credits + 2 ≤ cost u.block.call.code
  pub there :
      (b : Base) →
      At b d.index (Known (point_ground u.block.call.surroundings d.point h) (services_of d.point) d.numbers (λ j. 0)
      nothing b) (d.family b)

-- it is written, an act
pub field_comes :
    (u : Puts) → ArePut u → (d : Due) (h : frame_of u.block d.point) → IsDue u d h → (acts' wanted i : ℕ) →
    acts' ≤ d.point.state.world.acts → d.index + 2 ≡ i →
    Comes u.block.call.code d.credits d.family (services_of d.point)
    (before u.block.call.code (left_aims u acts' i wanted) u.block.call.surroundings.acts (λ t. give d.left'))
    (act (written (with_field (field_of d))) u.block.call.surroundings.acts d.point.state)
unfolding give
field_comes u a d h is acts' wanted i since end =
    let w = u.block.call.surroundings in
    let code = u.block.call.code in
    let p = d.point in
    let v = services_of p in
    let q = behind_due u d in
    let first = u.block.first.control in
    let places = putting (whole_in u) d.left' ∷ first.edits in
    let next' : Unit {0} → Meaning (List FormatItem) = λ t. give d.left' in
    let closed = before_closed w.acts next' (left_closed u acts' i wanted) in
    let front = small a7 37 ∷ [] in
    let last = Plain I.Ecall ∷ [] in
    let paid = is.paid in
    let asked : Base → List (ℕ × ℕ) = λ b. (17, 37) ∷ [] in
    let r1 = straight d.credits d.family v v
    (λ b. Known (point_ground w p h) v d.numbers (λ j. 0) asked b) (front_of front last is.linked) (omega arith)
    (λ b. (is.there b).pc)
    (λ b. let o = (is.there b).holds in record {
      body = record {
        services = o.body.services;
        registers = o.body.registers;
        bytes = o.body.bytes;
        memory = o.body.memory;
      };
      regs = (small_is _ 37 (zero_is o.body) (omega arith), tt);
    }) in
    let found = current_found (whole_in u) d.rest d.left' (DataFormat (TextItem d.width)) p.control.edits first.edits
    is.next is.among.later.edits in
    onward closed r1
    (λ g at.
    let x : Base → ℕ = λ b. (g b).machine.registers 10 in
    let y : Base → ℕ = λ b. (g b).machine.registers 11 in
    let calling : Calling w.links code (d.index + 1) g
    (λ b. Done (services_of q) (g b).machine.memory (x b) (y b)) =
    record {
      linked = back_of front last is.linked;
      pc = λ b. (at b).pc;
      answers = λ b.
          let o = (at b).holds in
          let r = (g b).machine.registers in
          let call = call_at code v (g b).machine.memory in
          called code (g b) v 37 (x b) (y b) (r 12) (r 13) (r 14) (λ c x0 x1 x2 x3 x4. E.text_served c x0 x1)
          o.body.services o.regs.0 refl refl refl refl refl (λ c y'. refl)
          ∙ found (λ n below. E.text_by call (x b) (y b) n.behind.direction n.item (n.behind ∷ below))
          ∙ ap (λ es. on_text es
          (λ t below. E.field_written call (x b) (y b) (with_entries below (E.with_edits places v))
          (E.text_field d.width t))) is.among.entries
          ∙ acts v w.acts _ is.among.stands.allowed a.acts;
    } in
    writing_comes closed
    (record {
      item = with_field (field_of d);
      texts = first.entries;
      edits = places;
      first = x;
      second = y;
    })
    (d.credits + 1) wanted g h is.among.stands (omega (arith, paid)) at calling
    (λ f' less at'.
    record {
      to = λ early. record {
        point = q;
        numbers = d.numbers;
        among = behind_among u a d.text (field_of d) d.rest d.left' is.among less;
        since = omega (arith, since);
        line = is.line;
        state = refl;
        are = is.are;
        reach = stay code wanted f' (services_of q) _
            (λ b. in_known h is.among.image.parts
            (record { pc = (at' b).pc ∙ ap (address b) (two_more d.index i end); holds = (at' b).holds }));
      };
    }))
  where
    two_more : (index i : ℕ) → index + 2 ≡ i → index + 1 + 1 ≡ i
    two_more index i e = omega (arith, e)
