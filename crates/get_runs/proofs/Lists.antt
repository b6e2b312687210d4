-- The items of GET one behind the other, and its lists: for each a place begins, its items are read, and it ends; where
-- the input has ended the code goes to the exit, where the place ends.
use Rattle.std.proofs.Common.{◌≡◌, ℕ, ◌+◌, ◌^◌, ◌<◌, ◌≤◌, List, [], ◌∷◌, ◌++◌, None, Some, refl, sym, ap, ◌∙◌}
use Rattle.std.proofs.Common.{subst, arith, lit<, true, false, Bool, length}
use Rattle.std.specs.Prelude.{Option, ℤ, ⊤}
use Rattle.rv_meaning.specs.declared.instr.Instr.{Instr}
use Rattle.rv_meaning.specs.declared.instr.Instr.TheVariants as I
use Rattle.pli_language.specs.Tree as T
use Rattle.pli_typing.specs.TypedTree as Y
use Rattle.pli_meaning.specs.Control.{Flow, Label, Meaning, choose, give, given, ◌>>=◌}
use Rattle.pli_meaning.specs.Raising as R
use Rattle.pli_meaning.specs.Raising.{at_line}
use Rattle.pli_meaning.specs.StorageState.{State}
use Rattle.pli_meaning.specs.Streaming as P
use Rattle.pli_meaning.specs.Streaming.{FormatItem, format_items}
use Rattle.pli_serving.specs.Answers.{Done}
use Rattle.pli_serving.specs.Edits as E
use Rattle.pli_serving.specs.Outcomes.{or_bad}
use Rattle.pli_serving.specs.ServiceState.{EditPlace, Getting, Services}
use Rattle.pli_coding.specs.Assembly.{Code, DataPlace, JumpAhead, OffsetOf, Plain, size_of}
use Rattle.pli_coding.specs.Instructions.{small}
use Rattle.pli_coding.specs.Linking.{place_of}
use Rattle.pli_coding.specs.Registers.{a0, a1, a7, held_registers}
use Rattle.pli_coding.specs.StaticForms.{formats_datum}
use Rattle.pli_coding.specs.Streams as C
use Rattle.pli_coding.specs.Streams.{edit_begun, edit_ended}
use Rattle.activation_relation.specs.Layers.{Control, Point, services_of}
use Rattle.activation_relation.specs.Points.{AreOver, Surroundings}
use Rattle.run_steps.specs.Bodies.{Known}
use Rattle.run_steps.proofs.Bodies.{zero_is}
use Rattle.run_steps.specs.Calls.{Calling}
use Rattle.run_steps.proofs.Calls.{call_done, called}
use Rattle.image_runs.specs.Runs.{Whole}
use Rattle.run_steps.specs.Engine.{Base, address, call_at}
use Rattle.run_steps.specs.Items.{At, Linked}
use Rattle.run_steps.proofs.Items.{straight}
use Rattle.run_steps.proofs.Jumps.{ahead_piece, back_of, front_of, linked_at}
use Rattle.run_steps.proofs.Linking.{size_append}
use Rattle.run_steps.specs.Owing.{owing}
use Rattle.run_steps.proofs.Owing.{done_owing, owing_closed}
use Rattle.run_steps.specs.Reach.{Aims, Closed, Comes, Family, Reach, before, cost, reached}
use Rattle.run_steps.proofs.Reach.{comes_on, onward, reach_then, reached_holds, stay}
use Rattle.run_steps.proofs.Reaching.{reach_moved}
use Rattle.run_steps.specs.Temporaries.{nothing}
use Rattle.block_runs.specs.Machines.{AreIn, IsIn, limits_of}
use Rattle.block_runs.proofs.BlockEntries.{small_is}
use Rattle.block_runs.proofs.CallStatements.{comes_map}
use Rattle.block_runs.proofs.PointGrounds.{in_known, known_in, point_frame, point_ground}
use Rattle.program_runs.specs.Statements.{Block, IsAmong, JumpsTo, set_aside, statement_aims}
use Rattle.program_runs.proofs.JumpsOut.{jumps_later, jumps_repaid}
use Rattle.program_runs.proofs.Statements.{goes_here, statement_closed}
use Rattle.expression_runs.specs.Assignments.{setting_around}
use Rattle.expression_runs.proofs.Words.{frame_of}
use Rattle.text_runs.specs.Texts.{ErrorComes}
use Rattle.text_runs.proofs.TextCalls.{Asking, asks}
use Rattle.edit_runs.specs.Edits.{AreItems, IsFixed, KnowsFormats, has_data, kinds_of, placing, within}
use Rattle.edit_runs.specs.Writing.{with_edits}
use Rattle.edit_runs.proofs.ListKinds.{formats_are}
use Rattle.edit_runs.proofs.Places.{edits_among, edits_in, over_place}
use Rattle.get_runs.specs.Gets.{AreListed, AreTargets, EndfileComes, GetList, ListsHaveTargets, get_items, get_pairs}
use Rattle.get_runs.specs.Gets.{getting}
use Rattle.get_runs.proofs.Awaiting.{item_code, item_comes}
use Rattle.get_runs.proofs.Items.{AreRead, Due, HasEnded, HasLeft, IsDue, Reads, ended_later, got_aims, setting_in}
use Rattle.get_runs.proofs.Items.{whole_in}

-- ---- items

abbrev Lasted : Reads → (acts index wanted : ℕ) → (c : ℕ) → Family → Services → Bool → State → Type 0
Lasted u acts index wanted c f v true s =
    (left : List FormatItem) × HasLeft u acts index wanted left c f v s
Lasted u acts index wanted c f v false s = HasEnded u acts c f v s

abbrev items_aims : Reads → (acts index wanted : ℕ) → Aims Bool
items_aims u acts index wanted =
    record {
      limits = limits_of u.block.call.surroundings;
      done = λ c f v q s. Lasted u acts index wanted c f v q s;
      jumped = λ c f v height label s. JumpsTo u.block u.labels acts c f v height label s;
      returned = λ c f v r s. ⊥;
    }

lasted_later :
    (u : Reads) (acts index wanted : ℕ) {i i' : ℕ} {f : Family} {v v' : Services} {Q : Base → Whole → Type 0}
    (r : Reach u.block.call.code i f v i' v' Q) (q : Bool) (s : State) →
    Lasted u acts index wanted i' (reached r) v' q s → Lasted u acts index wanted i f v q s
lasted_later u acts index wanted r true s o =
    let q = o.1 in (
      o.0,
      record {
        point = q.point;
        numbers = q.numbers;
        among = q.among;
        since = q.since;
        line = q.line;
        state = q.state;
        are = q.are;
        reach = reach_then r q.reach;
      },
    )
lasted_later u acts index wanted r false s o = ended_later u acts r s o

items_closed : (u : Reads) (acts index wanted : ℕ) → Closed u.block.call.code (items_aims u acts index wanted)
items_closed u acts index wanted =
    record {
      done = λ r q s o. lasted_later u acts index wanted r q s o;
      jumped = λ r height label s o. jumps_later r o;
      returned = λ r t s o. absurd o;
    }

abbrev items_code : Reads → (behind : ℕ) → List Y.Reference → Code
items_code u behind rs = C.items_got u.block.environment (set_aside u.words) u.formats behind (get_items rs)

items_come :
    (u : Reads) → AreRead u → (rs : List Y.Reference) → AreTargets (setting_in u) u.need rs → (d : Due)
    (acts' behind wanted i : ℕ) → IsDue u d acts' (size_of (items_code u behind rs)) →
    Linked u.block.call.surroundings.links u.block.call.code d.index (items_code u behind rs) →
    d.index + size_of (items_code u behind rs) ≡ i → i + behind ≡ u.exit →
    d.credits + size_of (items_code u behind rs) ≡ wanted →
    Comes u.block.call.code d.credits d.family (services_of d.point) (items_aims u acts' i wanted)
    (P.items_got (setting_in u).around (whole_in u) d.rest (get_items rs) u.block.call.surroundings.acts d.point.state)
unfolding P.items_got ◌>>=◌ give given
items_come u a [] targets d acts' behind wanted i is l end exit enough =
    let w = u.block.call.surroundings in
    record {
      to = λ early. (
        d.rest,
        record {
          point = d.point;
          numbers = d.numbers;
          among = is.among;
          since = is.since;
          line = is.line;
          state = refl;
          are = is.are;
          reach = subst (λ n. Reach u.block.call.code d.credits d.family (services_of d.point) n (services_of d.point)
              (λ b y. IsIn w d.point d.numbers i b y)) (omega (arith, enough))
              (stay u.block.call.code d.credits d.family (services_of d.point)
              (λ b y. IsIn w d.point d.numbers i b y)
              (λ b. subst (λ n. IsIn w d.point d.numbers n b (d.family b)) (omega (arith, end)) (is.there b)));
        },
      );
    }
items_come u a (r ∷ rs) targets d acts' behind wanted i is l end exit enough =
    comes_on w.acts flow next'
    (comes_map (got_aims u acts' mid middle) (before code goal w.acts next') refl flow
    (λ c1 f1 v1 o s q.
    goes_on (λ d' is' l' end' enough'. items_come u a rs targets.1 d' acts' behind wanted i is' l' end' exit enough')
    c1 f1 v1 o s q)
    (λ c1 f1 v1 height label s q. q)
    (λ c1 f1 v1 x s q. absurd q)
    (let paid = is.paid in
    item_comes u a r targets.0 d acts' (size_of others + behind) middle mid
    (record {
      among = is.among;
      line = is.line;
      are = is.are;
      since = is.since;
      paid = omega (arith, paid, n0);
      owed = is.owed;
      there = is.there;
    })
    (front_of one others l) refl (omega (arith, end, exit, n0)) (omega arith)))
  where
    w : Surroundings
    w = u.block.call.surroundings

    code : List Instr
    code = u.block.call.code

    goal : Aims Bool
    goal = items_aims u acts' i wanted

    others : Code
    others = items_code u behind rs

    one : Code
    one = item_code u (size_of others + behind) r

    n0 : size_of (one ++ others) ≡ size_of one + size_of others
    n0 = size_append one others

    mid : ℕ
    mid = d.index + size_of one

    middle : ℕ
    middle = d.credits + size_of one

    flow : Flow (Option (List FormatItem))
    flow = P.item_got (setting_in u).around (whole_in u) d.rest (Y.GetScalar r) w.acts d.point.state

    next' : Option (List FormatItem) → Meaning Bool
    next' o =
        given o (λ rest. P.items_got (setting_in u).around (whole_in u) rest (get_items rs)) (give false)

    Others : Type 0
    Others =
        (d' : Due) → IsDue u d' acts' (size_of others) → Linked w.links code d'.index others →
        d'.index + size_of others ≡ i → d'.credits + size_of others ≡ wanted →
        Comes code d'.credits d'.family (services_of d'.point) goal
        (P.items_got (setting_in u).around (whole_in u) d'.rest (get_items rs) w.acts d'.point.state)

    goes_on :
        Others → (c : ℕ) (f : Family) (v : Services) (o : Option (List FormatItem)) (s : State) →
        (got_aims u acts' mid middle).done c f v o s → Comes code c f v goal (next' o w.acts s)
    goes_on others_come c f v None s q = record { to = λ early. q }
    goes_on others_come c f v (Some left) s q =
        subst (λ t. Comes code c f v goal (next' (Some left) w.acts t)) (sym q.state)
        (onward (items_closed u acts' i wanted) q.reach
        (λ g at.
        let paid = is.paid in
        let owed = is.owed in
        others_come
        (record {
          rest = left;
          point = q.point;
          numbers = q.numbers;
          credits = middle;
          index = mid;
          family = g;
        })
        (record {
          among = q.among;
          line = q.line;
          are = q.are;
          since = q.since;
          paid = omega (arith, paid, n0);
          owed = omega (arith, owed);
          there = at;
        })
        (back_of one others l) (omega (arith, end, n0)) (omega (arith, enough, n0))))

-- ---- the place begins, and ends

abbrev begun_point : T.Formats → Point → Point
begun_point fs p = with_edits (getting (format_items fs) (format_items fs) ∷ p.control.edits) p

begin_reach :
    (k : Block) (fs : T.Formats) {p : Point} {numbers : ℕ → ℕ} {i : ℕ} (h : frame_of k p) (c : ℕ) (f : Family) →
    Linked k.call.surroundings.links k.call.code i (edit_begun fs 0) → KnowsFormats k fs → IsAmong k numbers p →
    AreIn k.call.surroundings p numbers i f →
    Reach k.call.code c f (services_of p) (c + 5) (services_of (begun_point fs p))
    (λ b y. At b (i + 5) (Known (point_ground k.call.surroundings (begun_point fs p) h) (services_of (begun_point fs p))
    numbers (λ j. 0) nothing b) y)
begin_reach k fs {p} {numbers} {i} h c f l knows among there =
    let w = k.call.surroundings in
    let code = k.call.code in
    let place = place_of w.links (DataPlace (formats_datum fs)) in
    let v = services_of p in
    let q = begun_point fs p in
    let v' = services_of q in
    let front = OffsetOf a0 (DataPlace (formats_datum fs)) ∷ small a1 0 ∷ small a7 34 ∷ [] in
    let last = Plain I.Ecall ∷ [] in
    let at : (b : Base) → At b i (Known (point_ground w p h) v numbers (λ j. 0) nothing b) (f b) =
    λ b. known_in h (there b) tt in
    let asked : Base → List (ℕ × ℕ) = λ b. (10, place) ∷ (11, 0) ∷ (17, 34) ∷ [] in
    let r1 = straight c f v v (λ b. Known (point_ground w p h) v numbers (λ j. 0) asked b) (front_of front last l)
    (omega arith) (λ b. (at b).pc)
    (λ b. let o = (at b).holds in let z = zero_is o.body in (
      (knows p numbers (f b).machine.memory among o.body.memory.storage).near,
      refl,
      record {
        body = record {
          services = o.body.services;
          registers = o.body.registers;
          bytes = o.body.bytes;
          memory = o.body.memory;
        };
        regs = (refl, (small_is _ 0 z (omega arith), (small_is _ 34 z (omega arith), tt)));
      },
    )) in
    let g = reached r1 in
    let at1 = reached_holds r1 in
    let calling : Calling w.links code (i + 4) g (λ b. Done v' (g b).machine.memory place 0) =
    record {
      linked = back_of front last l;
      pc = λ b. (at1 b).pc;
      answers = λ b.
          let o = (at1 b).holds in
          let x = (g b).machine.registers in
          let call = call_at code v (g b).machine.memory in
          called code (g b) v 34 place 0 (x 12) (x 13) (x 14) (λ c' x0 x1 x2 x3 x4. E.edit_begin_served c' x0 x1)
          o.body.services o.regs.1.1.0 o.regs.0 o.regs.1.0 refl refl refl (λ c' y. refl)
          ∙ ap (λ o'. or_bad o' (E.edit_begun call place 0 Getting))
          ((knows p numbers (g b).machine.memory among o.body.memory.storage).read v);
    } in
    reach_moved {i'' = i + 5} (omega arith) (omega arith)
    (reach_then r1
    (call_done (c + 4) g v v' (λ b. (g b).machine.memory) (λ b. place) (λ b. 0)
    (λ b y. Known (point_ground w q h) v' numbers (λ j. 0) nothing b y) (omega arith) calling
    (λ b. let o = (at1 b).holds.body in
    record {
      body = record {
        services = refl;
        registers = o.registers;
        bytes = o.bytes;
        memory = edits_in (getting (format_items fs) (format_items fs) ∷ p.control.edits) o.memory;
      };
      regs = tt;
    })))

end_reach :
    (k : Block) {p : Point} {numbers : ℕ → ℕ} {i : ℕ} (h : frame_of k p) (place : EditPlace) (below : List EditPlace) →
    p.control.edits ≡ place ∷ below → (c : ℕ) (f : Family) →
    Linked k.call.surroundings.links k.call.code i edit_ended → AreIn k.call.surroundings p numbers i f →
    Reach k.call.code c f (services_of p) (c + 2) (services_of (with_edits below p))
    (λ b y. At b (i + 2)
    (Known (point_ground k.call.surroundings (with_edits below p) h) (services_of (with_edits below p)) numbers (λ j. 0)
    (λ b'. (10, (f b').machine.registers 10) ∷ (11, (f b').machine.registers 11) ∷ []) b) y)
end_reach k {p} {numbers} h place below e c f l there =
    let v = services_of p in
    let q = with_edits below p in
    let x : Base → ℕ = λ b. (f b).machine.registers 10 in
    let y : Base → ℕ = λ b. (f b).machine.registers 11 in
    let asking : Asking = record {
      number = 38;
      x = x;
      y = y;
      z = λ b. (f b).machine.registers 12;
      first = x;
      second = y;
      answer = λ call x0 x1 x2. E.edit_end_served call x0 x1;
    } in
    asks {g' = point_ground k.call.surroundings q h} {t = λ j. 0} asking c f
    (record {
      small' = lit< tt;
      serves = λ call r. refl;
      answers = λ b m. ap (E.edit_ended (call_at k.call.code v m) (x b) (y b)) e;
      more = omega arith;
    })
    (record { reserved = λ b. refl; memory = λ b m is. edits_in below is }) l
    (λ b. known_in h (there b) (refl, (refl, (refl, tt))))

moved_at : {P : Whole → Type 0} {n j : ℕ} (b : Base) (y : Whole) → n ≡ j → At b n P y → At b j P y
moved_at b y e o = record { pc = o.pc ∙ ap (address b) e; holds = o.holds }

-- ---- lists

-- where they stand, and how much of what the act pays for is used up to the exit
pub record Around : Type 0 where
  pub words : ℕ
  pub block : Block
  pub labels : List Label
  pub line : ℕ
  pub need : ℕ
  pub most : ℕ
  pub left' : ℕ
  pub start : ℕ
  pub debt : ℕ

abbrev pub exit_of : Around → ℕ
exit_of x = x.debt + x.start

pub record IsAround (x : Around) : Type 0 where
  pub acts : x.block.call.surroundings.acts + 1 < 2 ^ 64
  pub over : AreOver x.block.first.control.entries x.block.first.control.edits x.block.first.control.layers
  pub registers : x.need ≤ x.block.registers
  pub held : x.block.registers ≤ held_registers
  pub endfile :
      (place : EditPlace) → EndfileComes (within place (setting_around x.words x.block x.labels x.line x.most))
  pub error :
      (place : EditPlace) → ErrorComes ℤ (within place (setting_around x.words x.block x.labels x.line x.most))
  pub paid : x.debt + 2 + x.most ≤ cost x.block.call.code
  pub exit : Linked x.block.call.surroundings.links x.block.call.code (exit_of x) edit_ended

abbrev pub pairs_code : Around → List GetList → Code
pairs_code x ys = C.get_pairs x.block.environment (set_aside x.words) (get_pairs ys)

abbrev pub owed_aims : Around → (acts' j wanted : ℕ) → Aims (Unit {0})
owed_aims x acts' j wanted =
    owing x.block.call.code (x.debt + 2) (statement_aims x.block x.labels acts' j wanted x.left')

-- a list that has an item
record Opened (xs : List FormatItem) : Type 0 where
  first : FormatItem
  more : List FormatItem
  is : xs ≡ first ∷ more

opened : (xs : List FormatItem) → has_data xs ≡ true → Opened xs
opened [] h = absurd (cc h)
opened (x ∷ xs) h = record { first = x; more = xs; is = refl }

abbrev reads_of : Around → T.Formats → (first : FormatItem) → (more : List FormatItem) → Reads
reads_of x formats first more =
    record {
      words = x.words;
      block = x.block;
      labels = x.labels;
      line = x.line;
      most = x.most;
      need = x.need;
      formats = formats;
      first = first;
      more = more;
      exit = exit_of x;
      debt = x.debt;
    }

-- at the exit the place ends, and the statement with it
exit_goes :
    (x : Around) → IsAround x → (u : Reads) → u.block ≡ x.block → (acts' j wanted : ℕ) → exit_of x + 2 ≡ j →
    (rest : List FormatItem) {p : Point} {numbers : ℕ → ℕ} (c : ℕ) (f : Family) →
    IsAmong (placing (getting (whole_in u) rest) x.block) numbers p → acts' ≤ p.state.world.acts → c ≤ x.debt →
    AreIn x.block.call.surroundings p numbers (exit_of x) f →
    (owed_aims x acts' j wanted).done c f (services_of p) tt p.state
exit_goes x a u same acts' j wanted end rest {p} {numbers} c f among since few there =
    let k = x.block in
    let first = k.first.control in
    let place = getting (whole_in u) rest in
    let h = point_frame among.stands among.image in
    let q = with_edits first.edits p in
    let r = end_reach k h place first.edits among.later.edits c f a.exit there in
    done_owing (statement_closed k x.labels acts' j wanted x.left') (x.debt + 2) wanted (omega (arith, few)) r tt
    p.state
    (λ g at.
    goes_here acts' wanted g since
    (edits_among k (place ∷ first.edits) first.edits first.edits among refl a.over)
    (λ b. in_known h among.image.parts (moved_at b (g b) end (at b))))

pub lists_come :
    (x : Around) → IsAround x → (ys : List GetList) → AreListed x.block ys →
    ListsHaveTargets (setting_around x.words x.block x.labels x.line x.most) x.need ys →
    (acts' c wanted i j : ℕ) (f : Family) {p : Point} {numbers : ℕ → ℕ} → IsAmong x.block numbers p →
    p.control.line ≡ x.line → acts' ≤ p.state.world.acts → c + x.start ≡ i →
    i + size_of (pairs_code x ys) ≡ exit_of x → exit_of x + 2 ≡ j →
    Linked x.block.call.surroundings.links x.block.call.code i (pairs_code x ys) →
    AreIn x.block.call.surroundings p numbers i f →
    Comes x.block.call.code c f (services_of p) (owed_aims x acts' j wanted)
    (P.pairs_got (at_line x.block.around x.line) (get_pairs ys) x.block.call.surroundings.acts p.state)
unfolding P.pairs_got ◌>>=◌ give choose
lists_come x a [] listed targets acts' c wanted i j f {p} {numbers} o at since begun end last l there =
    let k = x.block in
    let w = k.call.surroundings in
    let code = k.call.code in
    let inside = a.exit.inside in
    let h = point_frame o.stands o.image in
    record {
      to = λ early.
          done_owing (statement_closed k x.labels acts' j wanted x.left') (x.debt + 2) wanted (omega (
            arith,
            begun,
            end,
          ))
          (ahead_piece {t = λ n. 0} {rs = nothing} c f 2 (omega (arith, inside, end))
          (record { reserved_stay = λ y t. refl; known_stay = λ b y t z. z; set = λ y t. refl }) l
          (λ b. known_in h (there b) tt)) tt p.state
          (λ g at'.
          goes_here acts' wanted g since o
          (λ b. in_known h o.image.parts (moved_at b (g b) (omega (arith, end, last)) (at' b))));
    }
lists_come x a (y ∷ ys) listed targets acts' c wanted i j f {p} {numbers} o at since begun end last l there =
    onward closed (begin_reach k fs h c f (front_of begun' (items ++ edit_ended) l1) listed.0.1 o there)
    (λ g1 at1.
    comes_on w.acts flow next'
    (comes_map (items_aims u acts' i2 middle) (before code goal w.acts next') refl flow
    (λ c1 f1 v1 lasted s q.
    goes_on
    (λ c2 i2' f2 p2 numbers2 o2 at2 since2 begun2 end2 l2' there2.
    lists_come x a ys listed.1 targets.1 acts' c2 wanted i2' j f2 o2 at2 since2 begun2 end2 last l2' there2)
    c1 f1 v1 lasted s q)
    (λ c1 f1 v1 height label s q. λ i0 f0 v0 from. jumps_repaid (x.debt + 2) from q)
    (λ c1 f1 v1 r s q. absurd q)
    (subst (λ ws. Comes code (c + 5) g1 (services_of q1) (items_aims u acts' i2 middle)
    (P.items_got here ws ws (get_items y.targets) w.acts q1.state)) (sym list.is)
    (items_come u are y.targets targets.0
    (record { rest = whole_in u; point = q1; numbers = numbers; credits = c + 5; index = i1; family = g1 })
    acts' (2 + size_of rest) middle i2
    (record {
      among = subst (λ ws. IsAmong (placing (getting ws ws) k) numbers q1) list.is among1;
      line = at;
      are = are.are;
      since = since;
      paid = omega (arith, all, begun, end, n1, n2, n3);
      owed = omega (arith, begun);
      there = λ b'. in_known h o.image.parts (at1 b');
    })
    (front_of items edit_ended l2) refl (omega (arith, end, n1, n2, n3)) refl))))
  where
    k : Block
    k = x.block

    w : Surroundings
    w = k.call.surroundings

    code : List Instr
    code = k.call.code

    fs : T.Formats
    fs = y.formats

    list : Opened (format_items fs)
    list = opened (format_items fs) listed.0.0.some

    u : Reads
    u = reads_of x fs list.first list.more

    here : R.Around
    here = at_line k.around x.line

    first : Control
    first = k.first.control

    whole : List FormatItem
    whole = format_items fs

    place : EditPlace
    place = getting whole whole

    rest : Code
    rest = pairs_code x ys

    begun' : Code
    begun' = edit_begun fs 0

    items : Code
    items = items_code u (2 + size_of rest) y.targets

    pair : Code
    pair = begun' ++ (items ++ edit_ended)

    n1 : size_of (pair ++ rest) ≡ size_of pair + size_of rest
    n1 = size_append pair rest

    n2 : size_of pair ≡ size_of begun' + size_of (items ++ edit_ended)
    n2 = size_append begun' (items ++ edit_ended)

    n3 : size_of (items ++ edit_ended) ≡ size_of items + size_of edit_ended
    n3 = size_append items edit_ended

    l1 : Linked w.links code i pair
    l1 = front_of pair rest l

    l2 : Linked w.links code (i + 5) (items ++ edit_ended)
    l2 = back_of begun' (items ++ edit_ended) l1

    all : x.debt + 2 + x.most ≤ cost code
    all = a.paid

    i1 : ℕ
    i1 = i + 5

    i2 : ℕ
    i2 = i1 + size_of items

    middle : ℕ
    middle = c + 5 + size_of items

    goal : Aims (Unit {0})
    goal = owed_aims x acts' j wanted

    closed : Closed code goal
    closed = owing_closed code (x.debt + 2) (statement_aims k x.labels acts' j wanted x.left')

    h : frame_of k p
    h = point_frame o.stands o.image

    q1 : Point
    q1 = begun_point fs p

    among1 : IsAmong (placing place k) numbers q1
    among1 =
        edits_among k first.edits (place ∷ first.edits) (place ∷ p.control.edits) o
        (ap (λ es. place ∷ es) o.later.edits) (over_place place first.entries first.edits first.layers a.over)

    are : AreRead u
    are =
        let inside = a.exit.inside in
        record {
          acts = a.acts;
          over = a.over;
          fixed = listed.0.0.fixed;
          text = listed.0.0.text;
          are = subst (AreItems (kinds_of fs)) list.is (formats_are fs);
          some = subst (λ ws. has_data ws ≡ true) list.is listed.0.0.some;
          registers = a.registers;
          held = a.held;
          endfile = a.endfile;
          error = a.error;
          inside = omega (arith, inside);
        }

    flow : Flow Bool
    flow = P.items_got here whole whole (get_items y.targets) w.acts q1.state

    next' : Bool → Meaning (Unit {0})
    next' lasted = choose lasted (P.pairs_got here (get_pairs ys)) (give tt)

    Others : Type 0
    Others =
        (c2 i3 : ℕ) (f2 : Family) (p2 : Point) (numbers2 : ℕ → ℕ) → IsAmong k numbers2 p2 →
        p2.control.line ≡ x.line → acts' ≤ p2.state.world.acts → c2 + x.start ≡ i3 →
        i3 + size_of rest ≡ exit_of x → Linked w.links code i3 rest → AreIn w p2 numbers2 i3 f2 →
        Comes code c2 f2 (services_of p2) goal (P.pairs_got here (get_pairs ys) w.acts p2.state)

    goes_on :
        Others → (c1 : ℕ) (f1 : Family) (v1 : Services) (lasted : Bool) (s : State) →
        (items_aims u acts' i2 middle).done c1 f1 v1 lasted s → Comes code c1 f1 v1 goal (next' lasted w.acts s)
    goes_on others_come c1 f1 v1 false s q =
        subst (λ t. Comes code c1 f1 v1 goal (next' false w.acts t)) (sym q.state)
        (record {
          to = λ early.
              closed.done q.reach tt q.point.state
              (exit_goes x a u refl acts' j wanted last q.rest x.debt (reached q.reach) q.among q.since (omega arith)
              (reached_holds q.reach));
        })
    goes_on others_come c1 f1 v1 true s q =
        let o2 = q.1 in
        let place2 = getting (whole_in u) q.0 in
        let h2 = point_frame o2.among.stands o2.among.image in
        let q2 = with_edits first.edits o2.point in
        let r2 = end_reach k h2 place2 first.edits o2.among.later.edits middle (reached o2.reach)
        (back_of items edit_ended l2) (reached_holds o2.reach) in
        subst (λ t. Comes code c1 f1 v1 goal (next' true w.acts t)) (sym o2.state)
        (onward closed (reach_then o2.reach r2)
        (λ g2 at2.
        others_come (middle + 2) (i + size_of pair) g2 q2 o2.numbers
        (edits_among k (place2 ∷ first.edits) first.edits first.edits o2.among refl a.over)
        o2.line o2.since (omega (arith, begun, n2, n3)) (omega (arith, end, n1)) (back_of pair rest l)
        (λ b'. in_known h2 o2.among.image.parts (moved_at b' (g2 b') (omega (arith, n2, n3)) (at2 b')))))
