-- A number of PUT EDIT: it is evaluated, and its field is tested and written; and one behind the other.
use Rattle.std.proofs.Common.{◌≡◌, ℕ, ◌+◌, ◌^◌, ◌<◌, ◌≤◌, List, [], ◌∷◌, ◌++◌, Option, Some, None}
use Rattle.std.proofs.Common.{true, refl, ap, ◌∙◌, subst, arith, lit<}
use Rattle.std.proofs.lemmas.Bool.Decides.{nat_tests}
use Rattle.std.proofs.lemmas.Int.{ints}
use Rattle.std.specs.Prelude.{ℤ}
use Rattle.rv_meaning.specs.declared.instr.Instr.TheVariants as I
use Rattle.rv_meaning.specs.Words.{signed, word}
use Rattle.pli_language.specs.Tree as T
use Rattle.pli_meaning.specs.Codes.{too_wide_code}
use Rattle.pli_meaning.specs.Control.{Flow, Label, Meaning, act, give, ◌>>=◌, ◌>>◌}
use Rattle.pli_meaning.specs.Evaluating.{ComputationalNumber}
use Rattle.pli_meaning.specs.Raising as R
use Rattle.pli_meaning.specs.StorageState.{State}
use Rattle.pli_meaning.specs.Stream.{fixed_field, with_field}
use Rattle.pli_meaning.specs.Streaming as P
use Rattle.pli_meaning.specs.Streaming.{DataFormat, DataItem, FixedItem, FormatItem, TextItem}
use Rattle.pli_meaning.specs.World.{written}
use Rattle.pli_serving.specs.Answers.{Done}
use Rattle.pli_serving.specs.Edits as E
use Rattle.pli_serving.specs.Finding.{Call}
use Rattle.pli_serving.specs.ServiceState.{EditPlace, Services}
use Rattle.pli_coding.specs.Assembly.{Code, Plain, size_of}
use Rattle.pli_coding.specs.Environments.{fetch, none_taken}
use Rattle.pli_coding.specs.Instructions.{service, small, tested_service}
use Rattle.pli_coding.specs.Registers.{a0, a1, a7, held_registers}
use Rattle.pli_coding.specs.Streams.{number_written}
use Rattle.activation_relation.specs.Layers.{Point, services_of}
use Rattle.activation_relation.specs.Points.{AreOver}
use Rattle.run_steps.specs.Bodies.{Free, Known}
use Rattle.run_steps.proofs.Bodies.{zero_is}
use Rattle.run_steps.specs.Calls.{Calling}
use Rattle.run_steps.proofs.Calls.{acts, called}
use Rattle.run_steps.specs.Engine.{Base, address, call_at}
use Rattle.run_steps.specs.Items.{At, Linked}
use Rattle.run_steps.proofs.Items.{straight}
use Rattle.run_steps.proofs.Jumps.{back_of, front_of, linked_at}
use Rattle.run_steps.proofs.Linking.{size_append}
use Rattle.run_steps.specs.Numbers.{IsWide}
use Rattle.run_steps.proofs.Numbers.{word_small}
use Rattle.run_steps.specs.Reach.{Aims, Closed, Comes, Family, Reach, before, cost}
use Rattle.run_steps.proofs.Reach.{before_closed, comes_on, onward, reach_then, stay}
use Rattle.run_steps.specs.Temporaries.{nothing}
use Rattle.block_runs.specs.Machines.{IsIn, limits_of}
use Rattle.block_runs.proofs.BlockEntries.{small_is}
use Rattle.block_runs.proofs.PointGrounds.{in_known, point_ground}
use Rattle.program_runs.specs.Statements.{Block, IsAmong, JumpsTo}
use Rattle.program_runs.proofs.JumpsOut.{jumps_later, jumps_since}
use Rattle.expression_runs.specs.Assignments.{setting_around}
use Rattle.expression_runs.specs.Values.{Setting}
use Rattle.expression_runs.proofs.Saving.{fetched_reach}
use Rattle.expression_runs.proofs.Words.{frame_of, valued}
use Rattle.text_runs.specs.Texts.{ErrorComes}
use Rattle.text_runs.proofs.TextCalls.{three, told, two}
use Rattle.text_runs.proofs.Tested.{Place, Tested, tested_comes}
use Rattle.edit_runs.specs.Edits.{AreItems, has_data, kinds_of, placing, putting, within}
use Rattle.edit_runs.specs.Writing.{writing}
use Rattle.edit_runs.proofs.Controls.{Finds, current, current_found}
use Rattle.edit_runs.proofs.Places.{edits_among, jumps_down, over_place}
use Rattle.edit_runs.proofs.Writing.{writing_among, writing_comes}

signed-word : (z : ℤ) → IsWide z → signed (word z) ≡ z
signed-word z h = grind (arith, ints, nat_tests)

-- ---- the code of one number

-- what is put, where, how many words are set aside there, and how much a call in it may
-- take to its first act
pub record Puts : Type 0 where
  pub words : ℕ
  pub block : Block
  pub labels : List Label
  pub line : ℕ
  pub most : ℕ
  pub need : ℕ
  pub formats : T.Formats
  pub first : FormatItem
  pub more : List FormatItem

abbrev pub setting_in : Puts → Setting
setting_in u = setting_around u.words u.block u.labels u.line u.most

abbrev pub whole_in : Puts → List FormatItem
whole_in u = u.first ∷ u.more

pub record ArePut (u : Puts) : Type 0 where
  pub acts : u.block.call.surroundings.acts + 1 < 2 ^ 64
  pub over : AreOver u.block.first.control.entries u.block.first.control.edits u.block.first.control.layers
  pub are : AreItems (kinds_of u.formats) (whole_in u)
  pub some : has_data (whole_in u) ≡ true
  pub registers : u.need ≤ u.block.registers
  pub held : u.block.registers ≤ held_registers
  pub error : (place : EditPlace) → ErrorComes (List ℕ) (within place (setting_in u))

-- ---- its field

-- behind a number: so much of the list is left at the newest place
pub record HasLeft (u : Puts) (acts index wanted : ℕ) (left : List FormatItem) (c : ℕ) (f : Family) (v : Services)
    (s : State) : Type 0
  where
    pub point : Point
    pub numbers : ℕ → ℕ
    pub among : IsAmong (placing (putting (whole_in u) left) u.block) numbers point
    pub since : acts ≤ point.state.world.acts
    pub line : point.control.line ≡ u.line
    pub state : s ≡ point.state
    pub are : AreItems (kinds_of u.formats) left
    pub reach :
        Reach u.block.call.code c f v wanted (services_of point)
        (λ b y. IsIn u.block.call.surroundings point numbers index b y)

abbrev pub left_aims : Puts → (acts index wanted : ℕ) → Aims (List FormatItem)
left_aims u acts index wanted =
    record {
      limits = limits_of u.block.call.surroundings;
      done = λ c f v left s. HasLeft u acts index wanted left c f v s;
      jumped = λ c f v height label s. JumpsTo u.block u.labels acts c f v height label s;
      returned = λ c f v r s. ⊥;
    }

pub left_closed : (u : Puts) (acts index wanted : ℕ) → Closed u.block.call.code (left_aims u acts index wanted)
left_closed u acts index wanted =
    record {
      done = λ r left s o. record {
        point = o.point;
        numbers = o.numbers;
        among = o.among;
        since = o.since;
        line = o.line;
        state = o.state;
        are = o.are;
        reach = reach_then r o.reach;
      };
      jumped = λ r height label s o. jumps_later r o;
      returned = λ r left s o. absurd o;
    }

-- ---- the same end by another index

moved_flow :
    (u : Puts) (acts' wanted i j : ℕ) → i ≡ j → {c : ℕ} {f : Family} {v : Services} {flow : Flow (List FormatItem)} →
    Comes u.block.call.code c f v (left_aims u acts' i wanted) flow →
    Comes u.block.call.code c f v (left_aims u acts' j wanted) flow
moved_flow u acts' wanted i j e {c} {f} {v} {flow} o =
    subst (λ n. Comes u.block.call.code c f v (left_aims u acts' n wanted) flow) e o

moved_aims :
    (u : Puts) (acts' wanted i j : ℕ) → i ≡ j → (last : Unit {0} → Meaning (List FormatItem)) → {c : ℕ} {f : Family}
    {v : Services} {flow : Flow (Unit {0})} →
    Comes u.block.call.code c f v
    (before u.block.call.code (left_aims u acts' i wanted) u.block.call.surroundings.acts last) flow →
    Comes u.block.call.code c f v
    (before u.block.call.code (left_aims u acts' j wanted) u.block.call.surroundings.acts last) flow
moved_aims u acts' wanted i j e last {c} {f} {v} {flow} o =
    subst (λ n. Comes u.block.call.code c f v
    (before u.block.call.code (left_aims u acts' n wanted) u.block.call.surroundings.acts last) flow) e o

-- what service 36 says of a field
status_answer :
    (c : Call) (x : ℕ) (v : Services) (field : Option (List ℕ)) → c.services ≡ v →
    E.field_asked c x field ≡ told v c.memory x too_wide_code (λ t. v) (λ t. x) field
status_answer c x v None e = ap (λ u. Done u c.memory x too_wide_code) e
status_answer c x v (Some field) e = ap (λ u. Done u c.memory x 0) e

-- ---- where an F item is next

-- the place, the item's width and what is left behind it, the point, and the number's word, that waits
pub record Ready : Type 0 where
  pub rest : List FormatItem
  pub width : ℕ
  pub left' : List FormatItem
  pub point : Point
  pub numbers : ℕ → ℕ
  pub z : ℤ
  pub credits : ℕ
  pub index : ℕ
  pub family : Family

abbrev pub place_of : Puts → (rest : List FormatItem) → EditPlace
place_of u rest = putting (whole_in u) rest

abbrev pub next_place : Puts → Ready → EditPlace
next_place u r = putting (whole_in u) r.left'

abbrev pub places : Puts → Ready → List EditPlace
places u r = next_place u r ∷ u.block.first.control.edits

pub record IsReady (u : Puts) (r : Ready) (h : frame_of u.block r.point) (rs : Base → List (ℕ × ℕ))
    (code : Code) : Type 0
  where
    pub among : IsAmong (placing (place_of u r.rest) u.block) r.numbers r.point
    pub line : r.point.control.line ≡ u.line
    pub next : current (whole_in u) r.rest ≡ DataFormat (FixedItem r.width) ∷ r.left'
    pub are : AreItems (kinds_of u.formats) r.left'
    pub wide : IsWide r.z
    pub linked : Linked u.block.call.surroundings.links u.block.call.code r.index code
    pub paid : r.credits + size_of code + u.most ≤ cost u.block.call.code
    pub there :
        (b : Base) →
        At b r.index (Known (point_ground u.block.call.surroundings r.point h) (services_of r.point) r.numbers
        (λ j. 0) rs b) (r.family b)

-- the point behind the field
abbrev pub shown_point : Puts → Ready → (field : List ℕ) → Point
shown_point u r field = writing (with_field field) (places u r) r.point

found_in :
    (u : Puts) (r : Ready) {h : frame_of u.block r.point} {rs : Base → List (ℕ × ℕ)} {code : Code} →
    IsReady u r h rs code →
    Finds r.point.control.edits (DataFormat (FixedItem r.width)) (whole_in u) r.left'
    u.block.first.control.edits
found_in u r is =
    current_found (whole_in u) r.rest r.left' (DataFormat (FixedItem r.width)) r.point.control.edits
    u.block.first.control.edits is.next is.among.later.edits

field_among :
    (u : Puts) → ArePut u → (r : Ready) {h : frame_of u.block r.point} {rs : Base → List (ℕ × ℕ)} {code : Code} →
    IsReady u r h rs code → (field : List ℕ) → r.point.state.world.acts < u.block.call.surroundings.acts →
    IsAmong (placing (next_place u r) u.block) r.numbers (shown_point u r field)
field_among u a r is field less =
    let first = u.block.first.control in
    writing_among (with_field field)
    (edits_among u.block (place_of u r.rest ∷ first.edits) (places u r) (places u r) is.among refl
    (over_place (next_place u r) first.entries first.edits first.layers a.over)) less

-- it is written, an act
field_comes :
    (u : Puts) → ArePut u → (r : Ready) (h : frame_of u.block r.point) (acts' wanted : ℕ) →
    IsReady u r h (two (λ b. word r.z) (λ b. 0)) (small a1 1 ∷ service 36) → (field : List ℕ) →
    fixed_field r.width r.z ≡ Some field → acts' ≤ r.point.state.world.acts →
    Comes u.block.call.code r.credits r.family (services_of r.point)
    (before u.block.call.code (left_aims u acts' (r.index + 3) wanted) u.block.call.surroundings.acts
    (λ t. give r.left'))
    (act (written (with_field field)) u.block.call.surroundings.acts r.point.state)
unfolding give
field_comes u a r h acts' wanted is field wide since =
    let w = u.block.call.surroundings in
    let code = u.block.call.code in
    let p = r.point in
    let v = services_of p in
    let next' : Unit {0} → Meaning (List FormatItem) = λ t. give r.left' in
    let closed = before_closed w.acts next' (left_closed u acts' (r.index + 3) wanted) in
    let front = small a1 1 ∷ small a7 36 ∷ [] in
    let last = Plain I.Ecall ∷ [] in
    let x = word r.z in
    let paid = is.paid in
    let asked : Base → List (ℕ × ℕ) = λ b. (10, x) ∷ (11, 1) ∷ (17, 36) ∷ [] in
    let r1 = straight r.credits r.family v v
    (λ b. Known (point_ground w p h) v r.numbers (λ j. 0) asked b) (front_of front last is.linked) (omega arith)
    (λ b. (is.there b).pc)
    (λ b. let o = (is.there b).holds in record {
      body = record {
        services = o.body.services;
        registers = o.body.registers;
        bytes = o.body.bytes;
        memory = o.body.memory;
      };
      regs = (
        o.regs.0,
        (small_is _ 1 (zero_is o.body) (omega arith), (small_is _ 36 (zero_is o.body) (omega arith), tt)),
      );
    }) in
    onward closed r1
    (λ g at.
    let calling : Calling w.links code (r.index + 2) g
    (λ b. Done (services_of (shown_point u r field)) (g b).machine.memory x 1) =
    record {
      linked = back_of front last is.linked;
      pc = λ b. (at b).pc;
      answers = λ b.
          let o = (at b).holds in
          let y = (g b).machine.registers in
          let call = call_at code v (g b).machine.memory in
          called code (g b) v 36 x 1 (y 12) (y 13) (y 14) (λ c x0 x1 x2 x3 x4. E.fixed_served c x0 x1)
          o.body.services o.regs.1.1.0 o.regs.0 o.regs.1.0 refl refl refl (λ c y'. refl)
          ∙ found_in u r is (λ n below. E.fixed_by call x 1 n.behind.direction n.item (n.behind ∷ below))
          ∙ ap (λ o'. E.number_put call x 1 o' (places u r))
          (ap (fixed_field r.width) (signed-word r.z is.wide) ∙ wide)
          ∙ acts v w.acts _ is.among.stands.allowed a.acts;
    } in
    writing_comes closed (record {
      item = with_field field;
      texts = p.control.entries;
      edits = places u r;
      first = λ b. x;
      second = λ b. 1;
    })
    (r.credits + 2) wanted g h is.among.stands (omega (arith, paid)) at calling
    (λ f' less at'.
    record {
      to = λ early. record {
        point = shown_point u r field;
        numbers = r.numbers;
        among = field_among u a r is field less;
        since = omega (arith, since);
        line = is.line;
        state = refl;
        are = is.are;
        reach = stay code wanted f' (services_of (shown_point u r field)) _
            (λ b. in_known h is.among.image.parts
            (record { pc = (at' b).pc ∙ ap (address b) (three_more r.index); holds = (at' b).holds }));
      };
    }))
  where
    three_more : (i : ℕ) → i + 2 + 1 ≡ i + 3
    three_more i = omega arith

-- ---- the field's width is tested first

-- from the number's word in a0 on
pub number_comes :
    (u : Puts) → ArePut u → (r : Ready) (h : frame_of u.block r.point) (acts' wanted : ℕ) →
    IsReady u r h (valued (word r.z)) number_written → acts' ≤ r.point.state.world.acts →
    Comes u.block.call.code r.credits r.family (services_of r.point)
    (before u.block.call.code (left_aims u acts' (r.index + 9) wanted) u.block.call.surroundings.acts
    (λ t. give r.left'))
    (((R.or_error (setting_in u).around too_wide_code (fixed_field r.width r.z))
    >>= (λ field. act (written (with_field field)))) u.block.call.surroundings.acts r.point.state)
unfolding ◌>>=◌
number_comes u a r h acts' wanted is since =
    let w = u.block.call.surroundings in
    let code = u.block.call.code in
    let p = r.point in
    let v = services_of p in
    let x = word r.z in
    let paid = is.paid in
    let left' = left_closed u acts' (r.index + 9) wanted in
    let last : Unit {0} → Meaning (List FormatItem) = λ t. give r.left' in
    let shows : List ℕ → Meaning (Unit {0}) = λ field. act (written (with_field field)) in
    let closed = before_closed w.acts shows (before_closed w.acts last left') in
    let front = small a1 0 ∷ [] in
    let behind' = small a1 1 ∷ service 36 in
    let l1 = back_of front (tested_service 36 ++ behind') is.linked in
    let third : Base → ℕ = λ b. (r.family b).machine.registers 12 in
    let r1 = straight r.credits r.family v v
    (λ b. Known (point_ground w p h) v r.numbers (λ j. 0) (three (λ b'. x) (λ b'. 0) third) b)
    (front_of front (tested_service 36 ++ behind') is.linked) (omega arith) (λ b. (is.there b).pc)
    (λ b. let o = (is.there b).holds in record {
      body = record {
        services = o.body.services;
        registers = o.body.registers;
        bytes = o.body.bytes;
        memory = o.body.memory;
      };
      regs = (o.regs.0, (small_is _ 0 (zero_is o.body) (omega arith), (refl, tt)));
    }) in
    comes_on w.acts (R.or_error (setting_in u).around too_wide_code (fixed_field r.width r.z) w.acts p.state)
    shows
    (onward closed r1
    (λ g at.
    let place : Place = record {
      entries = [];
      setting = within (place_of u r.rest) (setting_in u);
      point = p;
      numbers = r.numbers;
      credits = r.credits + 1;
      index = r.index + 1;
      family = g;
    } in
    let asked : Tested (List ℕ) = record {
      number = 36;
      code = too_wide_code;
      x = λ b. x;
      y = λ b. 0;
      z = third;
      answer = λ call x0 x1 x2. E.fixed_served call x0 x1;
      outcome = fixed_field r.width r.z;
      texts = λ field. p.control.entries;
      result = λ field b. x;
    } in
    tested_comes place asked closed refl h
    (record {
      among = is.among;
      line = is.line;
      linked = front_of (tested_service 36) behind' l1;
      paid = omega (arith, paid);
      there = at;
    })
    (record {
      small' = lit< tt;
      coded = lit< tt;
      some = refl;
      serves = λ call r'. refl;
      answers = λ b m.
          let call = call_at code v m in
          found_in u r is (λ n below. E.fixed_by call x 0 n.behind.direction n.item (n.behind ∷ below))
          ∙ status_answer call x v (fixed_field r.width (signed x)) refl
          ∙ ap (λ n. told v m x too_wide_code (λ t. v) (λ t. x) (fixed_field r.width n))
          (signed-word r.z is.wide);
    })
    (a.error (place_of u r.rest))
    (λ c f v' height label s q. jumps_since since (jumps_down (place_of u r.rest) u.block u.labels q))
    (λ field g' e at'.
    let r' : Ready = record {
      rest = r.rest;
      width = r.width;
      left' = r.left';
      point = p;
      numbers = r.numbers;
      z = r.z;
      credits = r.credits + 1 + 5;
      index = r.index + 6;
      family = g';
    } in
    moved_aims u acts' wanted (r.index + 6 + 3) (r.index + 9) (omega arith) last
    (field_comes u a r' h acts' wanted
    (record {
      among = is.among;
      line = is.line;
      next = is.next;
      are = is.are;
      wide = is.wide;
      linked = linked_at (r.index + 6) behind' (omega arith) (back_of (tested_service 36) behind' l1);
      paid = omega (arith, paid);
      there = λ b. record { pc = (at' b).pc ∙ ap (address b) (six r.index); holds = (at' b).holds };
    })
    field e since))))
  where
    six : (i : ℕ) → i + 1 + 5 ≡ i + 6
    six i = omega arith

-- ---- where a number waits, and an item is next

-- so much of the list is left, and behind the item
pub record Chosen : Type 0 where
  pub rest : List FormatItem
  pub left' : List FormatItem
  pub point : Point
  pub numbers : ℕ → ℕ
  pub z : ℤ
  pub credits : ℕ
  pub index : ℕ
  pub family : Family

pub record IsChosen (u : Puts) (item : DataItem) (r : Chosen) (h : frame_of u.block r.point) (code : Code)
    (acts' : ℕ) : Type 0
  where
    pub among : IsAmong (placing (place_of u r.rest) u.block) r.numbers r.point
    pub line : r.point.control.line ≡ u.line
    pub next : current (whole_in u) r.rest ≡ DataFormat item ∷ r.left'
    pub are : AreItems (kinds_of u.formats) r.left'
    pub wide : IsWide r.z
    pub waits : r.numbers 0 ≡ word r.z
    pub since : acts' ≤ r.point.state.world.acts
    pub linked : Linked u.block.call.surroundings.links u.block.call.code r.index code
    pub paid : r.credits + size_of code + u.most ≤ cost u.block.call.code
    pub there :
        (b : Base) →
        At b r.index (Known (point_ground u.block.call.surroundings r.point h) (services_of r.point) r.numbers
        (λ j. 0) nothing b) (r.family b)

abbrev pub by_fixed : Code
by_fixed = fetch a0 none_taken ++ number_written

-- by F
pub fixed_branch :
    (u : Puts) → ArePut u → 1 ≤ u.block.registers → (precision width : ℕ) (r : Chosen) (h : frame_of u.block r.point)
    (acts' wanted i : ℕ) → IsChosen u (FixedItem width) r h by_fixed acts' → r.index + size_of by_fixed ≡ i →
    Comes u.block.call.code r.credits r.family (services_of r.point) (left_aims u acts' i wanted)
    (((P.shown_by (setting_in u).around (ComputationalNumber precision r.z) (FixedItem width)) >> give r.left')
    u.block.call.surroundings.acts r.point.state)
unfolding P.shown_by R.or_error ◌>>=◌ ◌>>◌ give
fixed_branch u a one precision width r h acts' wanted i is end =
    let w = u.block.call.surroundings in
    let code = u.block.call.code in
    let small' = word_small r.z is.wide in
    let paid = is.paid in
    let registers : (0 + 1 ≤ u.block.registers) × (u.block.registers ≤ held_registers) = (omega (arith, one), a.held) in
    let back = fetch a0 none_taken in
    let n3 = size_append back number_written in
    let free : Free nothing 10 = record { reserved_stay = λ y t. refl; known_stay = λ b y t q. q; set = λ y t. refl } in
    let far : Free nothing 31 = record { reserved_stay = λ y t. refl; known_stay = λ b y t q. q; set = λ y t. refl } in
    let last : Unit {0} → Meaning (List FormatItem) = λ t. give r.left' in
    onward (left_closed u acts' i wanted)
    (fetched_reach (within (place_of u r.rest) (setting_in u)) 0 0 h registers r.credits r.family a0 (word r.z) small'
    is.waits free far (front_of back number_written is.linked) is.there)
    (λ g at.
    let r' : Ready = record {
      rest = r.rest;
      width = width;
      left' = r.left';
      point = r.point;
      numbers = r.numbers;
      z = r.z;
      credits = r.credits + size_of back;
      index = r.index + size_of back;
      family = g;
    } in
    moved_flow u acts' wanted (r'.index + 9) i (omega (arith, n3, end))
    (comes_on w.acts _ last
    (number_comes u a r' h acts' wanted
    (record {
      among = is.among;
      line = is.line;
      next = is.next;
      are = is.are;
      wide = is.wide;
      linked = back_of back number_written is.linked;
      paid = omega (arith, paid, n3);
      there = at;
    })
    is.since)))
