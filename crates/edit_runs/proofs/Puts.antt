-- PUT EDIT: lines end, if any; for each list its place begins, its items are shown one behind the other, and it ends.
use Rattle.std.proofs.Common.{◌≡◌, ℕ, ◌+◌, ◌^◌, ◌<◌, ◌≤◌, List, [], ◌∷◌, ◌++◌, None, Some, refl, sym, ap, ◌∙◌}
use Rattle.std.proofs.Common.{subst, arith, lit<, true}
use Rattle.std.specs.Prelude.{Option, ⊤}
use Rattle.rv_meaning.specs.declared.instr.Instr.TheVariants as I
use Rattle.pli_language.specs.Tree as T
use Rattle.pli_typing.specs.TypedTree as Y
use Rattle.pli_meaning.specs.Control.{Label, Meaning, act, give, ◌>>=◌, ◌>>◌}
use Rattle.pli_meaning.specs.Executing as M
use Rattle.pli_meaning.specs.Raising.{at_line}
use Rattle.pli_meaning.specs.Streaming as P
use Rattle.pli_meaning.specs.Streaming.{ControlFormat, DataFormat, FixedItem, FormatItem, TextItem, format_items}
use Rattle.pli_meaning.specs.World.{counted, written}
use Rattle.pli_serving.specs.Answers.{Done}
use Rattle.pli_serving.specs.Edits as E
use Rattle.pli_serving.specs.Outcomes.{or_bad}
use Rattle.pli_serving.specs.ServiceState.{EditPlace, Putting}
use Rattle.pli_coding.specs.Allocating.{act_code}
use Rattle.pli_coding.specs.Assembly.{Code, DataPlace, OffsetOf, Plain, size_of}
use Rattle.pli_coding.specs.Instructions.{small}
use Rattle.pli_coding.specs.Linking.{place_of}
use Rattle.pli_coding.specs.Registers.{a0, a1, a7, held_registers}
use Rattle.pli_coding.specs.StaticForms.{formats_datum}
use Rattle.pli_coding.specs.Streams as C
use Rattle.pli_coding.specs.Statements.{stmt_code}
use Rattle.pli_coding.specs.Streams.{edit_begun, edit_ended, has_fixed, has_text}
use Rattle.activation_relation.specs.Layers.{Point, services_of}
use Rattle.activation_relation.specs.Points.{AreOver}
use Rattle.run_steps.specs.Bodies.{Known}
use Rattle.run_steps.proofs.Bodies.{zero_is}
use Rattle.run_steps.specs.Calls.{Calling}
use Rattle.run_steps.proofs.Calls.{call_done, called}
use Rattle.image_runs.specs.Runs.{Whole}
use Rattle.run_steps.specs.Engine.{Base, address, call_at}
use Rattle.run_steps.specs.Items.{At, Linked}
use Rattle.run_steps.proofs.Items.{straight}
use Rattle.run_steps.proofs.Jumps.{back_of, front_of}
use Rattle.run_steps.proofs.Linking.{size_append}
use Rattle.run_steps.specs.Owing.{owing}
use Rattle.run_steps.proofs.Owing.{comes_owing, done_owing, owing_closed}
use Rattle.run_steps.specs.Reach.{Aims, Closed, Comes, Family, Reach, before, cost, reached}
use Rattle.run_steps.proofs.Reach.{before_closed, comes_on, onward, reach_then, reached_holds, stay}
use Rattle.run_steps.proofs.Reaching.{reach_moved}
use Rattle.run_steps.specs.Temporaries.{nothing}
use Rattle.block_runs.specs.Machines.{AreIn, IsIn, limits_of}
use Rattle.block_runs.proofs.BlockEntries.{small_is}
use Rattle.block_runs.proofs.PointActs.{act_comes}
use Rattle.block_runs.proofs.CallStatements.{comes_map}
use Rattle.block_runs.proofs.PointGrounds.{in_known, known_in, point_frame, point_ground}
use Rattle.program_runs.specs.Statements.{Block, DoesWith, HasAct, IsAmong, JumpsTo, set_aside, size_with}
use Rattle.program_runs.specs.Statements.{statement_aims}
use Rattle.program_runs.proofs.JumpsOut.{jumps_later, jumps_repaid}
use Rattle.program_runs.proofs.Statements.{acted_among, goes_here, statement_closed}
use Rattle.program_runs.proofs.Waiting.{over_first}
use Rattle.expression_runs.specs.Assignments.{setting_around}
use Rattle.expression_runs.proofs.Words.{frame_of}
use Rattle.text_runs.specs.Texts.{ErrorComes}
use Rattle.text_runs.proofs.TextCalls.{Asking, asks}
use Rattle.edit_runs.specs.Edits.{AreItems, IsSkipped, Item, KnowsFormats, has_data, kinds_of, placing, putting, within}
use Rattle.edit_runs.specs.Writing.{with_edits}
use Rattle.edit_runs.proofs.Items.{ArePut, HasLeft, Puts, left_aims, left_closed, setting_in, whole_in}
use Rattle.edit_runs.proofs.Places.{edits_among, edits_in, over_place}
use Rattle.edit_runs.proofs.Skips.{item_of, skip_comes}
use Rattle.edit_runs.proofs.Writing.{writing_among}

-- ---- one number

abbrev pub put_item : Item → Y.PutItem
put_item x = Y.PutValue (Y.NumberValue x.precision x.source)

-- a point at which a number is due, and so much of the list
pub record Due : Type 0 where
  pub rest : List FormatItem
  pub point : Point
  pub numbers : ℕ → ℕ
  pub credits : ℕ
  pub index : ℕ
  pub family : Family

pub record IsDue (u : Puts) (d : Due) (acts' size : ℕ) : Type 0 where
  pub among : IsAmong (placing (putting (whole_in u) d.rest) u.block) d.numbers d.point
  pub line : d.point.control.line ≡ u.line
  pub are : AreItems (kinds_of u.formats) d.rest
  pub since : acts' ≤ d.point.state.world.acts
  pub paid : d.credits + size + u.most ≤ cost u.block.call.code
  pub there : AreIn u.block.call.surroundings d.point d.numbers d.index d.family

-- what its code does, wherever the list is; behind the code by A there may be a jump
abbrev pub ItemGoes : Puts → Y.PutItem → Type 0
ItemGoes u x =
    (d : Due) (acts' wanted i : ℕ) →
    IsDue u d acts' (size_of (C.item_put u.block.environment (set_aside u.words) u.formats x)) →
    Linked u.block.call.surroundings.links u.block.call.code d.index
    (C.item_put u.block.environment (set_aside u.words) u.formats x) →
    d.index + size_of (C.item_put u.block.environment (set_aside u.words) u.formats x) ≡ i →
    size_of (C.item_put u.block.environment (set_aside u.words) u.formats x) ≤ wanted →
    Comes u.block.call.code d.credits d.family (services_of d.point) (left_aims u acts' i wanted)
    (P.item_put (setting_in u).around (whole_in u) d.rest x u.block.call.surroundings.acts d.point.state)

-- ---- one behind the other

abbrev pub AllGo : Puts → List Y.PutItem → Type 0
AllGo u [] = ⊤
AllGo u (x ∷ xs) = ItemGoes u x × AllGo u xs

abbrev items_aims : Puts → (acts' index wanted : ℕ) → Aims (Unit {0})
items_aims u acts' index wanted =
    record {
      limits = limits_of u.block.call.surroundings;
      done = λ c f v t s. (left' : List FormatItem) × HasLeft u acts' index wanted left' c f v s;
      jumped = λ c f v height label s. JumpsTo u.block u.labels acts' c f v height label s;
      returned = λ c f v r s. ⊥;
    }

items_closed : (u : Puts) (acts' index wanted : ℕ) → Closed u.block.call.code (items_aims u acts' index wanted)
items_closed u acts' index wanted =
    record {
      done = λ r t s o. (o.0, (left_closed u acts' index wanted).done r o.0 s o.1);
      jumped = λ r height label s o. jumps_later r o;
      returned = λ r t s o. absurd o;
    }

abbrev one_code : Puts → Y.PutItem → Code
one_code u x = C.item_put u.block.environment (set_aside u.words) u.formats x

abbrev items_code : Puts → List Y.PutItem → Code
items_code u xs = C.items_put u.block.environment (set_aside u.words) u.formats xs

items_comes :
    (u : Puts) (x : Y.PutItem) (xs : List Y.PutItem) → AllGo u (x ∷ xs) → (d : Due) (acts' wanted i : ℕ) →
    IsDue u d acts' (size_of (items_code u (x ∷ xs))) →
    Linked u.block.call.surroundings.links u.block.call.code d.index (items_code u (x ∷ xs)) →
    d.index + size_of (items_code u (x ∷ xs)) ≡ i → size_of (items_code u (x ∷ xs)) ≤ wanted →
    Comes u.block.call.code d.credits d.family (services_of d.point) (items_aims u acts' i wanted)
    (P.items_put (setting_in u).around (whole_in u) d.rest (x ∷ xs) u.block.call.surroundings.acts d.point.state)
unfolding P.items_put ◌>>=◌ give
items_comes u x [] go d acts' wanted i is l end enough =
    let w = u.block.call.surroundings in
    let code = u.block.call.code in
    let around = (setting_in u).around in
    let one = one_code u x in
    let n0 = size_append one [] in
    let paid = is.paid in
    let flow = P.item_put around (whole_in u) d.rest x w.acts d.point.state in
    let next' : List FormatItem → Meaning (Unit {0}) = λ rest. P.items_put around (whole_in u) rest [] in
    comes_on w.acts flow next'
    (comes_map (left_aims u acts' i wanted) (before code (items_aims u acts' i wanted) w.acts next') refl flow
    (λ c1 f1 v1 left' s o. record { to = λ early. (left', o) })
    (λ c1 f1 v1 height label s q. q)
    (λ c1 f1 v1 r s q. absurd q)
    (go.0 d acts' wanted i
    (record {
      among = is.among;
      line = is.line;
      are = is.are;
      since = is.since;
      paid = omega (arith, paid, n0);
      there = is.there;
    })
    (front_of one [] l) (omega (arith, n0, end)) (omega (arith, n0, enough))))
items_comes u x (x' ∷ xs) go d acts' wanted i is l end enough =
    let w = u.block.call.surroundings in
    let code = u.block.call.code in
    let around = (setting_in u).around in
    let one = one_code u x in
    let others = items_code u (x' ∷ xs) in
    let n0 = size_append one others in
    let paid = is.paid in
    let mid = d.index + size_of one in
    let flow = P.item_put around (whole_in u) d.rest x w.acts d.point.state in
    let next' : List FormatItem → Meaning (Unit {0}) = λ rest. P.items_put around (whole_in u) rest (x' ∷ xs) in
    let goal = items_aims u acts' i wanted in
    comes_on w.acts flow next'
    (comes_map (left_aims u acts' mid (size_of one)) (before code goal w.acts next') refl flow
    (λ c1 f1 v1 left' s o.
    subst (λ s'. Comes code c1 f1 v1 goal (next' left' w.acts s')) (sym o.state)
    (onward (items_closed u acts' i wanted) o.reach
    (λ g at.
    items_comes u x' xs go.1
    (record { rest = left'; point = o.point; numbers = o.numbers; credits = size_of one; index = mid; family = g })
    acts' wanted i
    (record {
      among = o.among;
      line = o.line;
      are = o.are;
      since = o.since;
      paid = omega (arith, paid, n0);
      there = at;
    })
    (back_of one others l) (omega (arith, n0, end)) (omega (arith, n0, enough)))))
    (λ c1 f1 v1 height label s q. q)
    (λ c1 f1 v1 r s q. absurd q)
    (go.0 d acts' (size_of one) mid
    (record {
      among = is.among;
      line = is.line;
      are = is.are;
      since = is.since;
      paid = omega (arith, paid, n0);
      there = is.there;
    })
    (front_of one others l) refl (omega arith)))

-- ---- the place begins, and ends

abbrev begun_point : T.Formats → Point → Point
begun_point fs p = with_edits (putting (format_items fs) (format_items fs) ∷ p.control.edits) p

begin_reach :
    (k : Block) (fs : T.Formats) {p : Point} {numbers : ℕ → ℕ} {i : ℕ} (h : frame_of k p) (c : ℕ) (f : Family) →
    Linked k.call.surroundings.links k.call.code i (edit_begun fs 1) → KnowsFormats k fs → IsAmong k numbers p →
    AreIn k.call.surroundings p numbers i f →
    Reach k.call.code c f (services_of p) (c + 5) (services_of (begun_point fs p))
    (λ b y. At b (i + 5) (Known (point_ground k.call.surroundings (begun_point fs p) h) (services_of (begun_point fs p))
    numbers (λ j. 0) nothing b) y)
begin_reach k fs {p} {numbers} {i} h c f l knows among there =
    let w = k.call.surroundings in
    let code = k.call.code in
    let place = place_of w.links (DataPlace (formats_datum fs)) in
    let v = services_of p in
    let q = begun_point fs p in
    let v' = services_of q in
    let front = OffsetOf a0 (DataPlace (formats_datum fs)) ∷ small a1 1 ∷ small a7 34 ∷ [] in
    let last = Plain I.Ecall ∷ [] in
    let at : (b : Base) → At b i (Known (point_ground w p h) v numbers (λ j. 0) nothing b) (f b) =
    λ b. known_in h (there b) tt in
    let asked : Base → List (ℕ × ℕ) = λ b. (10, place) ∷ (11, 1) ∷ (17, 34) ∷ [] in
    let r1 = straight c f v v (λ b. Known (point_ground w p h) v numbers (λ j. 0) asked b) (front_of front last l)
    (omega arith) (λ b. (at b).pc)
    (λ b. let o = (at b).holds in let z = zero_is o.body in (
      (knows p numbers (f b).machine.memory among o.body.memory.storage).near,
      refl,
      record {
        body = record {
          services = o.body.services;
          registers = o.body.registers;
          bytes = o.body.bytes;
          memory = o.body.memory;
        };
        regs = (refl, (small_is _ 1 z (omega arith), (small_is _ 34 z (omega arith), tt)));
      },
    )) in
    let g = reached r1 in
    let at1 = reached_holds r1 in
    let calling : Calling w.links code (i + 4) g (λ b. Done v' (g b).machine.memory place 1) =
    record {
      linked = back_of front last l;
      pc = λ b. (at1 b).pc;
      answers = λ b.
          let o = (at1 b).holds in
          let x = (g b).machine.registers in
          let call = call_at code v (g b).machine.memory in
          called code (g b) v 34 place 1 (x 12) (x 13) (x 14) (λ c' x0 x1 x2 x3 x4. E.edit_begin_served c' x0 x1)
          o.body.services o.regs.1.1.0 o.regs.0 o.regs.1.0 refl refl refl (λ c' y. refl)
          ∙ ap (λ o'. or_bad o' (E.edit_begun call place 1 Putting))
          ((knows p numbers (g b).machine.memory among o.body.memory.storage).read v);
    } in
    reach_moved {i'' = i + 5} (omega arith) (omega arith)
    (reach_then r1
    (call_done (c + 4) g v v' (λ b. (g b).machine.memory) (λ b. place) (λ b. 1)
    (λ b y. Known (point_ground w q h) v' numbers (λ j. 0) nothing b y) (omega arith) calling
    (λ b. let o = (at1 b).holds.body in
    record {
      body = record {
        services = refl;
        registers = o.registers;
        bytes = o.bytes;
        memory = edits_in (putting (format_items fs) (format_items fs) ∷ p.control.edits) o.memory;
      };
      regs = tt;
    })))

end_reach :
    (k : Block) {p : Point} {numbers : ℕ → ℕ} {i : ℕ} (h : frame_of k p) (place : EditPlace) (below : List EditPlace) →
    p.control.edits ≡ place ∷ below → (c : ℕ) (f : Family) →
    Linked k.call.surroundings.links k.call.code i edit_ended → AreIn k.call.surroundings p numbers i f →
    Reach k.call.code c f (services_of p) (c + 2) (services_of (with_edits below p))
    (λ b y. At b (i + 2)
    (Known (point_ground k.call.surroundings (with_edits below p) h) (services_of (with_edits below p)) numbers (λ j. 0)
    (λ b'. (10, (f b').machine.registers 10) ∷ (11, (f b').machine.registers 11) ∷ []) b) y)
end_reach k {p} {numbers} h place below e c f l there =
    let v = services_of p in
    let q = with_edits below p in
    let x : Base → ℕ = λ b. (f b).machine.registers 10 in
    let y : Base → ℕ = λ b. (f b).machine.registers 11 in
    let asking : Asking = record {
      number = 38;
      x = x;
      y = y;
      z = λ b. (f b).machine.registers 12;
      first = x;
      second = y;
      answer = λ call x0 x1 x2. E.edit_end_served call x0 x1;
    } in
    asks {g' = point_ground k.call.surroundings q h} {t = λ j. 0} asking c f
    (record {
      small' = lit< tt;
      serves = λ call r. refl;
      answers = λ b m. ap (E.edit_ended (call_at k.call.code v m) (x b) (y b)) e;
      more = omega arith;
    })
    (record { reserved = λ b. refl; memory = λ b m is. edits_in below is }) l
    (λ b. known_in h (there b) (refl, (refl, (refl, tt))))

-- ---- the statement

moved_at : {P : Whole → Type 0} {n j : ℕ} (b : Base) (y : Whole) → n ≡ j → At b n P y → At b j P y
moved_at b y e o = record { pc = o.pc ∙ ap (address b) e; holds = o.holds }

-- a list that has an item
record Opened (xs : List FormatItem) : Type 0 where
  first : FormatItem
  more : List FormatItem
  is : xs ≡ first ∷ more

opened : (xs : List FormatItem) → has_data xs ≡ true → Opened xs
opened [] h = absurd (cc h)
opened (x ∷ xs) h = record { first = x; more = xs; is = refl }

abbrev pub puts_of :
    (words : ℕ) → Block → List Label → T.Formats → (line need most : ℕ) → (first : FormatItem) →
    (more : List FormatItem) → Puts
puts_of words k labels formats line need most first more =
    record {
      words = words;
      block = k;
      labels = labels;
      line = line;
      most = most;
      need = need;
      formats = formats;
      first = first;
      more = more;
    }

-- what is known around its lists
pub record IsAround (words : ℕ) (k : Block) (labels : List Label) (line need most : ℕ) : Type 0 where
  pub acts : k.call.surroundings.acts + 1 < 2 ^ 64
  pub over : AreOver k.first.control.entries k.first.control.edits k.first.control.layers
  pub registers : need ≤ k.registers
  pub held : k.registers ≤ held_registers
  pub error : (place : EditPlace) → ErrorComes (List ℕ) (within place (setting_around words k labels line most))

-- one of its lists: the block knows its format list, and each of its items is shown
pub record ListGoes (words : ℕ) (k : Block) (labels : List Label) (line need most : ℕ) (x : Y.PutPair) : Type 0 where
  pub are : AreItems (kinds_of x.formats) (format_items x.formats)
  pub some : has_data (format_items x.formats) ≡ true
  pub knows : KnowsFormats k x.formats
  pub item : Y.PutItem
  pub items : List Y.PutItem
  pub shown : x.items ≡ item ∷ items
  pub go :
      (first : FormatItem) (more : List FormatItem) →
      ArePut (puts_of words k labels x.formats line need most first more) →
      AllGo (puts_of words k labels x.formats line need most first more) (item ∷ items)

abbrev pub ListsGo : (words : ℕ) → Block → List Label → (line need most : ℕ) → List Y.PutPair → Type 0
ListsGo words k labels line need most [] = ⊤
ListsGo words k labels line need most (x ∷ xs) =
    ListGoes words k labels line need most x × ListsGo words k labels line need most xs

abbrev lists_code : (words : ℕ) → Block → List Y.PutPair → Code
lists_code words k xs = C.put_pairs k.environment (set_aside words) xs

-- from a point before a list on, one list behind the other: where it ends it owes the credits of the last list at most
lists_come :
    (words : ℕ) (k : Block) (labels : List Label) (line need most left' debt : ℕ) →
    IsAround words k labels line need most → (xs : List Y.PutPair) → ListsGo words k labels line need most xs →
    size_of (lists_code words k xs) ≤ debt → (acts' c wanted i j : ℕ) (f : Family) {p : Point} {numbers : ℕ → ℕ} →
    IsAmong k numbers p →
    p.control.line ≡ line → acts' ≤ p.state.world.acts →
    (c ≤ debt) × (c + size_of (lists_code words k xs) + most ≤ cost k.call.code) →
    Linked k.call.surroundings.links k.call.code i (lists_code words k xs) → i + size_of (lists_code words k xs) ≡ j →
    AreIn k.call.surroundings p numbers i f →
    Comes k.call.code c f (services_of p)
    (owing k.call.code debt (statement_aims k labels acts' j wanted left'))
    (P.pairs_put (at_line k.around line) xs k.call.surroundings.acts p.state)
unfolding P.pairs_put ◌>>◌ ◌>>=◌ give
lists_come words k labels line need most left' debt a [] go owes acts' c wanted i j f {p} {numbers} o at since few l end
    there =
    let code = k.call.code in
    let low = few.0 in
    record {
      to = λ early. done_owing (statement_closed k labels acts' j wanted left') debt wanted (omega (arith, low))
          (stay code c f (services_of p) (λ b y. IsIn k.call.surroundings p numbers i b y) there) tt p.state
          (λ g at'.
          goes_here acts' wanted g since o
          (λ b. subst (λ n. IsIn k.call.surroundings p numbers n b (g b)) (omega (arith, end)) (at' b)));
    }
lists_come words k labels line need most left' debt a (x ∷ xs) go owes acts' c wanted i j f {p} {numbers} o at since
    few l end there =
    let w = k.call.surroundings in
    let code = k.call.code in
    let fs = x.formats in
    let one = go.0 in
    let list = opened (format_items fs) one.some in
    let u = puts_of words k labels fs line need most list.first list.more in
    let here = at_line k.around line in
    let first = k.first.control in
    let begun = edit_begun fs 1 in
    let items = items_code u x.items in
    let shown = items_code u (one.item ∷ one.items) in
    let same = ap (λ ys. items_code u ys) one.shown in
    let n4 = ap (λ ys. size_of ys) same in
    let pair = begun ++ (items ++ edit_ended) in
    let rest = lists_code words k xs in
    let n1 = size_append pair rest in
    let n2 = size_append begun (items ++ edit_ended) in
    let n3 = size_append items edit_ended in
    let all = few.1 in
    let low = few.0 in
    let l1 = front_of pair rest l in
    let l2 = back_of begun (items ++ edit_ended) l1 in
    let owed = owing code debt (statement_aims k labels acts' j wanted left') in
    let closed = owing_closed code debt (statement_aims k labels acts' j wanted left') in
    let next2 : Unit {0} → Meaning (Unit {0}) = λ t. P.pairs_put here xs in
    let h = point_frame o.stands o.image in
    let whole = format_items fs in
    let place = putting whole whole in
    let b : ArePut u = record {
      acts = a.acts;
      over = a.over;
      are = subst (AreItems (kinds_of fs)) list.is one.are;
      some = subst (λ ws. has_data ws ≡ true) list.is one.some;
      registers = a.registers;
      held = a.held;
      error = a.error;
    } in
    let q1 = begun_point fs p in
    let i1 = i + 5 in
    let i2 = i1 + size_of items in
    let among1 : IsAmong (placing place k) numbers q1 =
    edits_among k first.edits (place ∷ first.edits) (place ∷ p.control.edits) o
    (ap (λ es. place ∷ es) o.later.edits) (over_place place first.entries first.edits first.layers a.over) in
    let flow = P.items_put here whole whole x.items w.acts q1.state in
    onward closed (begin_reach k fs h c f (front_of begun (items ++ edit_ended) l1) one.knows o there)
    (λ g1 at1.
    comes_on w.acts flow next2
    (comes_map (items_aims u acts' i2 (size_of items)) (before code owed w.acts next2) refl flow
    (λ c1 f1 v1 t s e.
    let o2 = e.1 in
    let place2 = putting (whole_in u) e.0 in
    let h2 = point_frame o2.among.stands o2.among.image in
    let q2 = with_edits first.edits o2.point in
    let r2 = end_reach k h2 place2 first.edits o2.among.later.edits (size_of items) (reached o2.reach)
    (back_of items edit_ended l2) (reached_holds o2.reach) in
    let among2 : IsAmong k o2.numbers q2 =
    edits_among k (place2 ∷ first.edits) first.edits first.edits o2.among refl a.over in
    subst (λ s'. Comes code c1 f1 v1 owed (next2 t w.acts s')) (sym o2.state)
    (onward closed (reach_then o2.reach r2)
    (λ g2 at2.
    lists_come words k labels line need most left' debt a xs go.1 (omega (arith, owes, n1)) acts'
    (size_of items + 2) wanted (i + size_of pair) j g2 among2 o2.line o2.since
    (omega (arith, owes, n1, n2, n3), omega (arith, all, n1, n2, n3)) (back_of pair rest l) (omega (arith, n1, end))
    (λ b'. in_known h2 o2.among.image.parts (moved_at b' (g2 b') (omega (arith, n2, n3)) (at2 b'))))))
    (λ c1 f1 v1 height label s e. λ i0 f0 v0 from. jumps_repaid debt from e)
    (λ c1 f1 v1 r' s e. absurd e)
    (subst (λ ys. Comes code (c + 5) g1 (services_of q1) (items_aims u acts' i2 (size_of items))
    (P.items_put here whole whole ys w.acts q1.state)) (sym one.shown)
    (subst (λ ws. Comes code (c + 5) g1 (services_of q1) (items_aims u acts' i2 (size_of items))
    (P.items_put here ws ws (one.item ∷ one.items) w.acts q1.state)) (sym list.is)
    (items_comes u one.item one.items (one.go list.first list.more b)
    (record { rest = whole_in u; point = q1; numbers = numbers; credits = c + 5; index = i1; family = g1 })
    acts' (size_of items) i2
    (record {
      among = subst (λ ws. IsAmong (placing (putting ws ws) k) numbers q1) list.is among1;
      line = at;
      are = subst (AreItems (kinds_of fs)) list.is one.are;
      since = since;
      paid = omega (arith, all, n1, n2, n3, n4);
      there = λ b'. in_known h o.image.parts (at1 b');
    })
    (subst (Linked w.links code i1) same (front_of items edit_ended l2)) (omega (arith, n4))
    (omega (arith, n4)))))))

-- lines end first, or none
skipped_come :
    (words : ℕ) (k : Block) (labels : List Label) (line need most left' debt : ℕ) →
    IsAround words k labels line need most → (skip : Option ℕ) → IsSkipped skip → (xs : List Y.PutPair) →
    ListsGo words k labels line need most xs →
    size_of (lists_code words k xs) ≤ debt → (acts' wanted i j : ℕ) (f : Family) {p : Point} {numbers : ℕ → ℕ} →
    IsAmong k numbers p → p.control.line ≡ line → acts' ≤ p.state.world.acts →
    size_of (C.skip_option 1 skip ++ lists_code words k xs) + most ≤ cost k.call.code →
    Linked k.call.surroundings.links k.call.code i (C.skip_option 1 skip ++ lists_code words k xs) →
    i + size_of (C.skip_option 1 skip ++ lists_code words k xs) ≡ j → AreIn k.call.surroundings p numbers i f →
    Comes k.call.code 0 f (services_of p) (owing k.call.code debt (statement_aims k labels acts' j wanted left'))
    (P.put (at_line k.around line) skip xs k.call.surroundings.acts p.state)
unfolding P.put P.control_put ◌>>◌ ◌>>=◌
skipped_come words k labels line need most left' debt a None some xs go owes acts' wanted i j f o at since paid l end
    there =
    lists_come words k labels line need most left' debt a xs go owes acts' 0 wanted i j f o at since
    (omega arith, omega (arith, paid)) l end there
skipped_come words k labels line need most left' debt a (Some lines) some xs go owes acts' wanted i j f {p} {numbers} o
    at since paid l end there =
    let w = k.call.surroundings in
    let option = C.skip_option 1 (Some lines) in
    let rest = lists_code words k xs in
    let n0 = size_append option rest in
    let closed = owing_closed k.call.code debt (statement_aims k labels acts' j wanted left') in
    let next' : Unit {0} → Meaning (Unit {0}) = λ t. P.pairs_put (at_line k.around line) xs in
    comes_on w.acts (act (written (item_of lines)) w.acts p.state) next'
    (skip_comes (before_closed w.acts next' closed) lines 0 0 f (o.stands, o.image) (some, a.acts)
    (omega (arith, paid, n0)) (front_of option rest l) there
    (λ g less at'.
    lists_come words k labels line need most left' debt a xs go owes acts' 0 wanted (i + size_of option) j g
    (writing_among (item_of lines) o less) at (omega (arith, since)) (omega arith, omega (arith, paid, n0))
    (back_of option rest l) (omega (arith, n0, end)) at'))

pub lists_do :
    (words : ℕ) (k : Block) (labels : List Label) (skip : Option ℕ) (first : Y.PutPair) (more : List Y.PutPair)
    (line index left' need most : ℕ) → HasAct k line → IsSkipped skip →
    ListsGo words k labels line need most (first ∷ more) →
    (need ≤ k.registers) × (k.registers ≤ held_registers) →
    ((place : EditPlace) → ErrorComes (List ℕ) (within place (setting_around words k labels line most))) →
    Linked k.call.surroundings.links k.call.code index
    (stmt_code k.environment (set_aside words) (Y.Put skip (first ∷ more) line)) →
    size_with words k (Y.Put skip (first ∷ more) line) + most ≤ cost k.call.code →
    DoesWith words k labels (Y.Put skip (first ∷ more) line) index left'
unfolding M.statement ◌>>◌ ◌>>=◌
lists_do words k labels skip x xs line index left' need most act' some go registers error l all p numbers c wanted f o
    paid there =
    let w = k.call.surroundings in
    let code = k.call.code in
    let here = at_line k.around line in
    let acts' = p.state.world.acts in
    let first = k.first.control in
    let one = act_code line in
    let behind' = C.skip_option 1 skip ++ lists_code words k (x ∷ xs) in
    let n0 = size_append one behind' in
    let stmt = Y.Put skip (x ∷ xs) line in
    let j = index + size_with words k stmt in
    let debt = size_of behind' in
    let owes = size_append (C.skip_option 1 skip) (lists_code words k (x ∷ xs)) in
    let owed = owing code debt (statement_aims k labels acts' j wanted left') in
    let closed = owing_closed code debt (statement_aims k labels acts' j wanted left') in
    let next1 : Unit {0} → Meaning (Unit {0}) = λ t. P.put here skip (x ∷ xs) in
    let over' : AreOver first.entries first.edits first.layers = over_first k [] o in
    comes_owing debt (M.statement k.around stmt w.acts p.state)
    (comes_on w.acts (act counted w.acts p.state) next1
    (act_comes (before_closed w.acts next1 closed) line (c + debt) 0 f (o.stands, o.image)
    (act'.line_fits, act'.acts, omega (arith, paid, n0)) (front_of one behind' l) there
    (λ g less at.
    skipped_come words k labels line need most left' debt
    (record {
      acts = act'.acts;
      over = over';
      registers = registers.0;
      held = registers.1;
      error = error;
    })
    skip some (x ∷ xs) go (omega (arith, owes)) acts' wanted (index + size_of one) j g (acted_among line o less)
    refl (omega arith)
    (omega (arith, all, n0)) (back_of one behind' l) (omega (arith, n0)) at)))
