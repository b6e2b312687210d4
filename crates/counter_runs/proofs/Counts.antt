-- The statement: its start and its limit, which wait in words of the frame, and its turns.
use Rattle.std.proofs.Common.{◌≡◌, ℕ, ◌+◌, ◌^◌, ◌<◌, ◌≤◌, List, [], ◌∷◌, ◌++◌, None, Some, Option, Bool, true, false}
use Rattle.std.proofs.Common.{refl, sym, ap, ◌∙◌, subst, arith}
use Rattle.std.proofs.lemmas.Bool.{eq-eqb}
use Rattle.std.specs.Prelude.{ℤ, cond, ◌==◌}
use Rattle.storage_relation.proofs.Holders.{eqb-other}
use Rattle.rv_meaning.specs.Machine.{value}
use Rattle.rv_meaning.specs.Words.{word}
use Rattle.pli_meaning.specs.BasicValues.{BasicNumber, BasicValue}
use Rattle.pli_meaning.specs.Control.{Label, Meaning, act, give, repeated_while, ◌>>=◌, ◌>>◌}
use Rattle.pli_meaning.specs.Evaluating as V
use Rattle.pli_meaning.specs.Executing as M
use Rattle.pli_meaning.specs.Raising as R
use Rattle.pli_meaning.specs.Raising.{Around, at_line}
use Rattle.pli_meaning.specs.World.{counted}
use Rattle.pli_coding.specs.Allocating.{act_code}
use Rattle.pli_coding.specs.Assembly.{Code, size_of}
use Rattle.pli_coding.specs.Expressions.{number_code}
use Rattle.pli_coding.specs.Instructions.{load_word, store_word}
use Rattle.pli_coding.specs.Registers.{a0, frame_register}
use Rattle.pli_coding.specs.Statements.{limit_place, start_place, turns_code}
use Rattle.activation_relation.specs.FrameLaws.{with_waits}
use Rattle.activation_relation.specs.Frames.{frame_under}
use Rattle.activation_relation.specs.Layers.{Layer, Point, services_of}
use Rattle.run_steps.specs.Engine.{Base}
use Rattle.run_steps.specs.Items.{Linked}
use Rattle.run_steps.proofs.Jumps.{back_of, front_of, linked_at}
use Rattle.run_steps.proofs.Linking.{size_append}
use Rattle.run_steps.specs.Numbers.{IsWide}
use Rattle.run_steps.proofs.Numbers.{word_small}
use Rattle.run_steps.specs.Owing.{owing}
use Rattle.run_steps.proofs.Owing.{comes_owing, owing_closed}
use Rattle.run_steps.specs.Reach.{Aims, Comes, Family, Reach, before, cost}
use Rattle.run_steps.proofs.Reach.{before_closed, comes_on, onward, reach_map}
use Rattle.run_steps.specs.Temporaries.{nothing}
use Rattle.block_runs.specs.Machines.{AreIn, IsIn, acted}
use Rattle.block_runs.proofs.CallStatements.{comes_map}
use Rattle.block_runs.proofs.Places.{IsFrame}
use Rattle.block_runs.proofs.PointActs.{act_comes}
use Rattle.block_runs.proofs.PointGrounds.{in_known, known_in, point_frame}
use Rattle.program_runs.specs.Statements.{Block, DoesWith, IsAmong, set_aside, size_with, statement_aims}
use Rattle.program_runs.proofs.JumpsOut.{jumps_repaid, jumps_since}
use Rattle.program_runs.proofs.Statements.{acted_among}
use Rattle.expression_runs.specs.Laws as L
use Rattle.expression_runs.specs.Values.{OverflowComes, behind, in_registers, number_aims}
use Rattle.expression_runs.proofs.Assignments.{fit_is}
use Rattle.argument_runs.specs.Lists.{layered, with_list}
use Rattle.argument_runs.proofs.GivenLists.{with_list_stands}
use Rattle.counter_runs.specs.Counters.{IsCounter}
use Rattle.counter_runs.specs.Counts.{Counting, IsCount, IsTested, TurnDoes, body_index, count_of, counter_of}
use Rattle.counter_runs.specs.Counts.{setting_with, value_of_start, starting, turn_in, turning, turns_index}
use Rattle.counter_runs.specs.Words.{telling, with_word}
use Rattle.counter_runs.proofs.Limits.{limit_stores, start_loads, start_stores, word_at}
use Rattle.counter_runs.proofs.Turns.{AreLinked, Loop, coded, fewer_in, goal_of, linked_in, starts_code, turn_size}
use Rattle.counter_runs.proofs.Turns.{around_of, turns_of, within}
use Rattle.counter_runs.proofs.Turning.{turns_do}
use Rattle.counter_runs.proofs.Words.{Fewer, WordAt, in_fewer, jumps_back, told_among, word_back, word_kept}

-- ---- a word that is told from then on

pub kept_reaches :
    (k : Block) (φ : Layer) (φs : List Layer) → k.first.control.layers ≡ φ ∷ φs → {numbers : ℕ → ℕ} {p : Point}
    {index : ℕ} (z : ℤ) (n given c : ℕ) (f : Family) → IsAmong k numbers p → (n < φ.words) × (given < 2 ^ 32) →
    WordAt z n φ →
    Linked k.call.surroundings.links k.call.code index (store_word frame_register a0 z) →
    ((b : Base) → IsIn k.call.surroundings p numbers index b (f b) × (value (f b).machine a0 ≡ given)) →
    Reach k.call.code c f (services_of p) (c + size_of (store_word frame_register a0 z))
    (services_of (with_list (with_word n given φ.waits) φ φs p))
    (λ b y. IsIn k.call.surroundings (with_list (with_word n given φ.waits) φ φs p) numbers
    (index + size_of (store_word frame_register a0 z)) b y)
kept_reaches k φ φs newest {numbers} {p} {index} z n given c f o few place l there =
    let w = k.call.surroundings in
    let q = with_list (with_word n given φ.waits) φ φs p in
    let size = size_of (store_word frame_register a0 z) in
    let here = o.later.layers ∙ newest in
    subst (λ v. Reach k.call.code c f v (c + size) (services_of q) (λ b y. IsIn w q numbers (index + size) b y))
    (sym (ap (λ ls. services_of (layered ls p)) here))
    (word_kept w k.call.code p φ φs z n given c f
    (with_list_stands w k.call.code p φ φs φ.waits (o.stands, o.image) here) few place l
    (λ b. (in_fewer φ φs φ.waits φ.waits (λ i v e. e) here (there b).0, (there b).1)))

-- ---- where the start is loaded again, and forgotten

abbrev both_waits : (words : ℕ) → Layer → (start limit : ℤ) → ℕ → Option ℕ
both_waits words φ z y = with_word words (word y) (with_word (words + 2) (word z) φ.waits)

both_fewer :
    (words : ℕ) (φ : Layer) (z y : ℤ) → φ.waits (words + 2) ≡ None →
    Fewer (with_word words (word y) φ.waits) (both_waits words φ z y)
both_fewer words φ z y free i v = by (i == words) refl
  where
    by :
        (q : Bool) → (i == words) ≡ q → cond (i == words) (Some (word y)) (φ.waits i) ≡ Some v →
        both_waits words φ z y i ≡ Some v
    by true f e =
        ap (λ q. cond q (Some (word y)) (with_word (words + 2) (word z) φ.waits i)) f
        ∙ sym (ap (λ q. cond q (Some (word y)) (φ.waits i)) f) ∙ e
    by false f e =
        ap (λ q. cond q (Some (word y)) (with_word (words + 2) (word z) φ.waits i)) f
        ∙ fewer_in φ.waits (words + 2) (word z) free i v (sym (ap (λ q. cond q (Some (word y)) (φ.waits i)) f) ∙ e)

again_reaches :
    (words : ℕ) (k : Block) (φ : Layer) (φs : List Layer) {numbers : ℕ → ℕ} {p : Point} {index : ℕ} (z y : ℤ) (c : ℕ)
    (f : Family) → IsWide z → φ.waits (words + 2) ≡ None → (words + 2 < φ.words) × (φ.words ≤ 2 ^ 16) →
    IsAmong (telling (both_waits words φ z y) φ φs k) numbers p →
    Linked k.call.surroundings.links k.call.code index (load_word a0 frame_register (start_place (set_aside words))) →
    AreIn k.call.surroundings p numbers index f →
    Reach k.call.code c f (services_of p) (c + start_loads words)
    (services_of (with_list (with_word words (word y) φ.waits) φ φs p))
    (λ b m. IsIn k.call.surroundings (with_list (with_word words (word y) φ.waits) φ φs p) numbers
    (index + start_loads words) b m × (value m.machine a0 ≡ word z))
again_reaches words k φ φs {numbers} {p} {index} z y c f wide free inside o l there =
    let room = inside.0 in
    let low = inside.1 in
    let here' : words + 2 == words + 2 ≡ true = eq-eqb (words + 2) (words + 2) refl in
    let other : words + 2 == words ≡ false = eqb-other (words + 2) words (omega arith) in
    let w = k.call.surroundings in
    let waits = both_waits words φ z y in
    let less = with_word words (word y) φ.waits in
    let ψ = with_waits waits φ in
    let p' = with_list waits φ φs p in
    let q = with_list less φ φs p in
    let here = o.later.layers in
    let known = with_list_stands w k.call.code p φ φs waits in
    let stands = with_list_stands w k.call.code p ψ φs waits (o.stands, o.image) here in
    let h = point_frame stands.0 stands.1 in
    let told : waits (words + 2) ≡ Some (word z) =
    ap (λ q. cond q (Some (word y)) (with_word (words + 2) (word z) φ.waits (words + 2))) other
    ∙ ap (λ q. cond q (Some (word z)) (φ.waits (words + 2))) here' in
    subst (λ v. Reach k.call.code c f v (c + start_loads words) (services_of q)
    (λ b m. IsIn w q numbers (index + start_loads words) b m × (value m.machine a0 ≡ word z)))
    (sym (ap (λ ls. services_of (layered ls p)) here))
    (reach_map _
    (word_back w k.call.code p ψ φs (start_place (set_aside words)) (words + 2) (word z) {rs = nothing} c f a0 h
    (room, told)
    (word_at ψ (words + 2) h (omega (arith, room, low)))
    (record { reserved_stay = λ u n. refl; known_stay = λ b u n e. e; set = λ u n. refl })
    (record { reserved_stay = λ u n. refl; known_stay = λ b u n e. e; set = λ u n. refl }) l
    (λ b. known_in h (in_fewer φ φs waits waits (λ i v e. e) here (there b)) tt))
    (λ b m is. (
      in_fewer φ φs less waits (both_fewer words φ z y free) refl (in_known h stands.1.parts is),
      is.holds.regs.0,
    )))

-- ---- the number that the variable starts with is in a0

abbrev first_next : Loop → BasicValue → Meaning (Unit {0})
first_next x v =
    (M.assigned (around_of x) x.count.counter v) >> (turns_of x.block.around.turns x)

abbrev started : Loop → ℤ → Meaning (Unit {0})
started x z =
    (M.counter_started (around_of x) (counter_of x.count) (V.ComputationalNumber x.count.precision z)) >>= first_next x

started_does :
    (x : Loop) → AreLinked x → (acts wanted debt c : ℕ) {numbers : ℕ → ℕ} {p : Point} (f : Family) (z : ℤ) →
    IsWide z → acts ≤ p.state.world.acts → 0 < p.state.world.acts →
    c + turn_size x + x.most ≤ cost x.block.call.code → turn_size x ≤ debt → IsAmong (within x) numbers p →
    p.control.line ≡ x.count.line →
    ((b : Base) → IsIn x.block.call.surroundings p numbers (turns_index x.words x.block x.count x.index) b (f b)
    × (value (f b).machine a0 ≡ word z)) →
    Comes x.block.call.code c f (services_of p) (goal_of x acts wanted debt)
    (started x z x.block.call.surroundings.acts p.state)
unfolding M.counter_started M.counter_value R.or_error give ◌>>=◌ ◌>>◌
started_does x ls acts wanted debt c {p = p} f z wide since some paid owed o line there =
    let w = x.block.call.surroundings in
    let code = x.block.call.code in
    let goal = goal_of x acts wanted debt in
    let next' : Unit {0} → Meaning (Unit {0}) = λ u. turns_of x.block.around.turns x in
    let enough = x.is.turns in
    let later = o.later.acts in
    comes_on w.acts
    (M.counter_started (around_of x) (counter_of x.count) (V.ComputationalNumber x.count.precision z) w.acts p.state)
    (first_next x)
    (subst (Comes code c f (services_of p) (before code goal w.acts (first_next x)))
    (sym (fit_is (around_of x) z w.acts p.state wide))
    (record {
      to = λ early. comes_on w.acts (M.assigned (around_of x) x.count.counter (BasicNumber z) w.acts p.state) next'
          (turns_do x.block.around.turns x ls acts wanted debt c f z wide since (omega (arith, enough, some, later))
          (omega (arith, paid)) (omega (arith, paid)) owed o line there);
    }))

-- ---- all that a statement is asked for

pub record Parts : Type 0 where
  pub words : ℕ
  pub block : Block
  pub count : Counting
  pub layer : Layer
  pub others : List Layer
  pub labels : List Label
  pub index : ℕ
  pub left' : ℕ
  pub need : ℕ
  pub most : ℕ
  pub is : IsCount words block count layer others index need most
  pub start : L.Does (setting_with block labels count.line most (words + 3)) need count.start
  pub limit :
      (z : ℤ) → IsWide z →
      L.Does (setting_with (starting words layer others block z) labels count.line most (words + 3)) need count.limit
  pub counter :
      (y : ℤ) → IsWide y →
      IsCounter (setting_with (turning words layer others block y) labels count.line most (words + 2)) need
      count.counter
  pub over :
      (y : ℤ) → IsWide y →
      OverflowComes (setting_with (turning words layer others block y) labels count.line most (words + 2))
  pub tested :
      (y : ℤ) → IsWide y →
      IsTested (setting_with (turning words layer others block y) labels count.line most (words + 2)) need
      count.condition
  pub turn :
      (y : ℤ) → IsWide y →
      TurnDoes words (turning words layer others block y) labels count.body (body_index words block count index) left'

abbrev loop_in : Parts → (y : ℤ) → IsWide y → Loop
loop_in x y wide =
    record {
      words = x.words;
      block = x.block;
      count = x.count;
      layer = x.layer;
      others = x.others;
      labels = x.labels;
      index = x.index;
      left' = x.left';
      need = x.need;
      most = x.most;
      is = x.is;
      limit = y;
      wide = wide;
      counter = x.counter y wide;
      over = x.over y wide;
      tested = x.tested y wide;
      turn = x.turn y wide;
    }

abbrev line_of : Parts → Around
line_of x = at_line x.block.around x.count.line

abbrev goal_in : Parts → (acts wanted debt : ℕ) → Aims (Unit {0})
goal_in x acts wanted debt =
    owing x.block.call.code debt
    (statement_aims x.block x.labels acts (x.index + size_with x.words x.block (count_of x.count)) wanted x.left')

abbrev turns_size : Parts → ℕ
turns_size x = size_of (turns_code (turn_in x.words x.block x.count))

-- ---- the limit is in a0

-- what comes behind it
abbrev limit_next : Parts → ℤ → Option ℤ → Meaning (Unit {0})
limit_next x z most =
    (V.number (line_of x) x.count.step)
    >>= (λ by.
    (M.counter_started (line_of x) (counter_of x.count) (V.ComputationalNumber x.count.precision z))
    >>= (λ first.
    (M.assigned (line_of x) x.count.counter first)
    >> (repeated_while x.block.around.turns (M.turn_due (line_of x) (counter_of x.count) most by x.count.condition)
    ((M.list x.block.around x.count.body) >> (M.stepped (line_of x) (counter_of x.count) by)))))

limited_does :
    (x : Parts) (acts wanted debt c i : ℕ) {numbers : ℕ → ℕ} {p : Point} (f : Family) (z y : ℤ) → IsWide z →
    IsWide y → acts ≤ p.state.world.acts → 0 < p.state.world.acts →
    c + limit_stores x.words + start_loads x.words + turns_size x + x.most ≤ cost x.block.call.code →
    turns_size x ≤ debt → i + limit_stores x.words + start_loads x.words ≡ turns_index x.words x.block x.count x.index →
    IsAmong (starting x.words x.layer x.others x.block z) numbers p → p.control.line ≡ x.count.line →
    Linked x.block.call.surroundings.links x.block.call.code i
    (store_word frame_register a0 (limit_place (set_aside x.words))) →
    Linked x.block.call.surroundings.links x.block.call.code (i + limit_stores x.words)
    (load_word a0 frame_register (start_place (set_aside x.words))) →
    Linked x.block.call.surroundings.links x.block.call.code (turns_index x.words x.block x.count x.index)
    (turns_code (turn_in x.words x.block x.count)) →
    ((b : Base) → IsIn x.block.call.surroundings p numbers i b (f b) × (value (f b).machine a0 ≡ word y)) →
    Comes x.block.call.code c f (services_of p) (goal_in x acts wanted debt)
    (limit_next x z (Some y) x.block.call.surroundings.acts p.state)
unfolding ◌>>=◌
limited_does x acts wanted debt c i {numbers} {p} f z y wz wy since some paid owed end o line l1 l2 l3 there =
    let k = x.block in
    let w = k.call.surroundings in
    let code = k.call.code in
    let φ = x.layer in
    let φs = x.others in
    let waits = with_word (x.words + 2) (word z) φ.waits in
    let less = with_word x.words (word y) φ.waits in
    let words = x.is.inside in
    let low = x.is.low in
    let loop = loop_in x y wy in
    let ls = linked_in loop l3 in
    let size = ls.size in
    let goal = goal_in x acts wanted debt in
    let closed = owing_closed code debt
    (statement_aims k x.labels acts (x.index + size_with x.words k (count_of x.count)) wanted x.left') in
    let ψ = with_waits waits φ in
    let next' : ℤ → Meaning (Unit {0}) = λ by.
    (M.counter_started (line_of x) (counter_of x.count) (V.ComputationalNumber x.count.precision z))
    >>= (λ first.
    (M.assigned (line_of x) x.count.counter first)
    >> (repeated_while x.block.around.turns (M.turn_due (line_of x) (counter_of x.count) (Some y) by x.count.condition)
    ((M.list x.block.around x.count.body) >> (M.stepped (line_of x) (counter_of x.count) by)))) in
    let q = with_list (both_waits x.words φ z y) φ φs p in
    let q2 = with_list less φ φs p in
    let among = told_among (starting x.words φ φs k z) ψ φs (both_waits x.words φ z y) refl o in
    let among2 = told_among (telling (both_waits x.words φ z y) φ φs k) (with_waits (both_waits x.words φ z y) φ) φs
    less refl among in
    let h = point_frame o.stands o.image in
    comes_on w.acts (V.number (line_of x) x.count.step w.acts p.state) next'
    (subst (Comes code c f (services_of p) (before code goal w.acts next'))
    (sym (x.is.step.means (line_of x) w.acts p.state))
    (record {
      to = λ early.
          onward closed
          (kept_reaches (starting x.words φ φs k z) ψ φs refl (limit_place (set_aside x.words)) x.words (word y) c f o
          (omega (arith, words), word_small y wy)
          (word_at ψ x.words (subst (λ ls'. IsFrame (frame_under w.parts ls')) o.later.layers h)
          (omega (arith, words, low))) l1 there)
          (λ g at.
          onward closed
          (again_reaches x.words k φ φs z y (c + limit_stores x.words) g wz x.is.free.1 (omega (arith, words), low)
          among l2 at)
          (λ g2 at2.
          started_does loop ls acts wanted debt (c + limit_stores x.words + start_loads x.words) g2 z wz since some
          (omega (arith, paid, size)) (omega (arith, owed, size)) among2 line
          (λ b. (subst (λ j. IsIn w q2 numbers j b (g2 b)) (omega (arith, end)) (at2 b).0, (at2 b).1))));
    }))

-- ---- the start is in a0

abbrev start_next : Parts → V.Computational → Meaning (Unit {0})
start_next x v =
    (M.limit_of (line_of x) (Some x.count.limit))
    >>= (λ most.
    (V.number (line_of x) x.count.step)
    >>= (λ by.
    (M.counter_started (line_of x) (counter_of x.count) v)
    >>= (λ first.
    (M.assigned (line_of x) x.count.counter first)
    >> (repeated_while x.block.around.turns (M.turn_due (line_of x) (counter_of x.count) most by x.count.condition)
    ((M.list x.block.around x.count.body) >> (M.stepped (line_of x) (counter_of x.count) by))))))

abbrev limit_part : Parts → Code
limit_part x = number_code x.block.environment (in_registers (x.words + 3) 0) x.count.limit

abbrev start_part : Parts → Code
start_part x = number_code x.block.environment (in_registers (x.words + 3) 0) x.count.start

-- the code behind the start
abbrev behind_start : Parts → Code
behind_start x =
    (limit_part x ++ store_word frame_register a0 (limit_place (set_aside x.words)))
    ++ (load_word a0 frame_register (start_place (set_aside x.words)) ++ [])

waited_does :
    (x : Parts) (acts wanted debt c i : ℕ) {numbers : ℕ → ℕ} {p : Point} (f : Family) (z : ℤ) → IsWide z →
    acts ≤ p.state.world.acts → 0 < p.state.world.acts →
    c + start_stores x.words + size_of (behind_start x) + turns_size x + x.most ≤ cost x.block.call.code → turns_size x
    ≤ debt →
    i + start_stores x.words + size_of (behind_start x) ≡ turns_index x.words x.block x.count x.index →
    IsAmong x.block numbers p → p.control.line ≡ x.count.line →
    Linked x.block.call.surroundings.links x.block.call.code i
    (store_word frame_register a0 (start_place (set_aside x.words))) →
    Linked x.block.call.surroundings.links x.block.call.code (i + start_stores x.words) (behind_start x) →
    Linked x.block.call.surroundings.links x.block.call.code (turns_index x.words x.block x.count x.index)
    (turns_code (turn_in x.words x.block x.count)) →
    ((b : Base) → IsIn x.block.call.surroundings p numbers i b (f b) × (value (f b).machine a0 ≡ word z)) →
    Comes x.block.call.code c f (services_of p) (goal_in x acts wanted debt)
    (start_next x (V.ComputationalNumber x.count.precision z) x.block.call.surroundings.acts p.state)
unfolding M.limit_of give ◌>>=◌
waited_does x acts wanted debt c i {numbers} {p} f z wz since some paid owed end o line l1 l2 l3 there =
    let k = x.block in
    let w = k.call.surroundings in
    let code = k.call.code in
    let φ = x.layer in
    let φs = x.others in
    let waits = with_word (x.words + 2) (word z) φ.waits in
    let words = x.is.inside in
    let low = x.is.low in
    let need = x.is.registers in
    let goal = goal_in x acts wanted debt in
    let closed = owing_closed code debt
    (statement_aims k x.labels acts (x.index + size_with x.words k (count_of x.count)) wanted x.left') in
    let part = limit_part x in
    let put' = store_word frame_register a0 (limit_place (set_aside x.words)) in
    let back = load_word a0 frame_register (start_place (set_aside x.words)) ++ [] in
    let n0 = size_append (part ++ put') back in
    let n1 = size_append part put' in
    let n2 = size_append (load_word a0 frame_register (start_place (set_aside x.words))) [] in
    let lf = front_of (part ++ put') back l2 in
    let k3 = starting x.words φ φs k z in
    let q = with_list waits φ φs p in
    let among = told_among k φ φs waits x.is.newest o in
    let y = behind q numbers 0 (c + start_stores x.words) (i + start_stores x.words) part in
    let h = point_frame o.stands o.image in
    let next' : Option ℤ → Meaning (Unit {0}) = λ most. limit_next x z most in
    let some' : ℤ → Meaning (Option ℤ) = λ n. give (Some n) in
    onward closed
    (kept_reaches k φ φs x.is.newest (start_place (set_aside x.words)) (x.words + 2) (word z) c f o
    (omega (arith, words), word_small z wz)
    (word_at φ (x.words + 2) (subst (λ ls. IsFrame (frame_under w.parts ls)) (o.later.layers ∙ x.is.newest) h)
    (omega (arith, words, low))) l1 there)
    (λ g at.
    comes_on w.acts (M.limit_of (line_of x) (Some x.count.limit) w.acts q.state) next'
    (comes_on w.acts (V.number (line_of x) x.count.limit w.acts q.state) some'
    (comes_map (number_aims k3 x.labels y) (before code (before code goal w.acts next') w.acts some') refl
    (V.number (line_of x) x.count.limit w.acts q.state)
    (λ c' f' v' n s r. record {
      to = λ early.
          let since' = r.1.since in
          subst (λ u. Comes code c' f' v' goal (limit_next x z (Some n) w.acts u)) (sym r.1.state)
          (onward closed r.1.reach
          (λ g2 at2.
          limited_does x acts wanted debt (c + start_stores x.words + size_of part) (i + start_stores x.words + size_of
          part) g2 z n wz r.0
          (omega (arith, since, since')) (omega (arith, some, since')) (omega (arith, paid, n0, n1, n2)) owed
          (omega (arith, end, n0, n1, n2)) r.1.among (r.1.line ∙ line)
          (back_of part put' lf)
          (linked_at (i + start_stores x.words + size_of part + limit_stores x.words) (load_word a0 frame_register
          (start_place (set_aside x.words))) (omega (arith, n1))
          (front_of (load_word a0 frame_register (start_place (set_aside x.words))) []
          (back_of (part ++ put') back l2))) l3 at2));
    })
    (λ c' f' v' height label s r. λ i0 f0 v0 from.
    jumps_repaid debt from
    (jumps_since since
    (jumps_back k φ φs waits x.is.newest (fewer_in φ.waits (x.words + 2) (word z) x.is.free.1) r)))
    (λ c' f' v' r s q. absurd q)
    (x.limit z wz q numbers 0 (c + start_stores x.words) (i + start_stores x.words) g among line
    (omega (arith, need), x.is.held) (front_of part put' lf) (omega (arith, paid, n0, n1)) at))))

-- ---- the statement

statement_does : (x : Parts) → DoesWith x.words x.block x.labels (count_of x.count) x.index x.left'
unfolding M.statement M.list V.computational give ◌>>=◌ ◌>>◌
statement_does x p numbers c wanted f o paid there =
    let k = x.block in
    let w = k.call.surroundings in
    let code = k.call.code in
    let line = x.count.line in
    let one = act_code line in
    let starts = starts_code x.words k x.count in
    let turns = turns_code (turn_in x.words k x.count) in
    let part = start_part x in
    let put' = store_word frame_register a0 (start_place (set_aside x.words)) in
    let rest = behind_start x in
    let coded' = coded x.words k x.count x.is.step in
    let n0 = ap (λ u. size_of u) coded' in
    let n1 = size_append one (starts ++ turns) in
    let n2 = size_append starts turns in
    let n3 = size_append (part ++ put') rest in
    let n4 = size_append part put' in
    let n5 = size_append one starts in
    let l = subst (Linked w.links code x.index) coded' x.is.statement in
    let l1 = back_of one (starts ++ turns) l in
    let l2 = front_of starts turns l1 in
    let acts = p.state.world.acts in
    let debt = size_of starts + size_of turns in
    let aims = statement_aims k x.labels acts (x.index + size_with x.words k (count_of x.count)) wanted x.left' in
    let goal = goal_in x acts wanted debt in
    let closed = owing_closed code debt aims in
    let all = x.is.paid in
    let need = x.is.registers in
    let start' = V.computational (line_of x) (value_of_start x.count) in
    let next' : Unit {0} → Meaning (Unit {0}) = λ u. start' >>= start_next x in
    let computed : ℤ → Meaning V.Computational = λ z. give (V.ComputationalNumber x.count.precision z) in
    comes_owing debt (M.statement k.around (count_of x.count) w.acts p.state)
    (comes_on w.acts (act counted w.acts p.state) next'
    (act_comes (before_closed w.acts next' closed) line (c + debt) 0 f (o.stands, o.image)
    (x.is.act.line_fits, x.is.act.acts, omega (arith, paid, n0, n1, n2)) (front_of one (starts ++ turns) l) there
    (λ g less at.
    let p' = acted line p in
    let y = behind p' numbers 0 0 (x.index + size_of one) part in
    comes_on w.acts (start' w.acts p'.state) (start_next x)
    (comes_on w.acts (V.number (line_of x) x.count.start w.acts p'.state) computed
    (comes_map (number_aims k x.labels y) (before code (before code goal w.acts (start_next x)) w.acts computed) refl
    (V.number (line_of x) x.count.start w.acts p'.state)
    (λ c' f' v' z s q. record {
      to = λ early.
          let since = q.1.since in
          subst (λ u. Comes code c' f' v' goal
          (start_next x (V.ComputationalNumber x.count.precision z) w.acts u)) (sym q.1.state)
          (onward closed q.1.reach
          (λ g2 at2.
          waited_does x acts wanted debt (0 + size_of part) (x.index + size_of one + size_of part) g2 z q.0
          (omega (arith, since)) (omega (arith, since)) (omega (arith, all, n0, n1, n2, n3, n4)) (omega arith)
          (omega (arith, n3, n4, n5)) q.1.among q.1.line
          (back_of part put' (front_of (part ++ put') rest l2))
          (linked_at (x.index + size_of one + size_of part + start_stores x.words) rest (omega (arith, n4))
          (back_of (part ++ put') rest l2))
          (linked_at (turns_index x.words k x.count x.index) turns (omega (arith, n5)) (back_of starts turns l1)) at2));
    })
    (λ c' f' v' height label s q. λ i0 f0 v0 from. jumps_repaid debt from (jumps_since (omega arith) q))
    (λ c' f' v' r s q. absurd q)
    (x.start p' numbers 0 0 (x.index + size_of one) g (acted_among line o less) refl (omega (arith, need), x.is.held)
    (front_of part put' (front_of (part ++ put') rest l2)) (omega (arith, all, n0, n1, n2, n3, n4)) at))))))

pub count_does :
    (words : ℕ) (k : Block) (c : Counting) (φ : Layer) (φs : List Layer) (labels : List Label)
    (index left' need most : ℕ) →
    IsCount words k c φ φs index need most → L.Does (setting_with k labels c.line most (words + 3)) need c.start →
    ((z : ℤ) → IsWide z → L.Does (setting_with (starting words φ φs k z) labels c.line most (words + 3)) need c.limit) →
    ((y : ℤ) → IsWide y → IsCounter (setting_with (turning words φ φs k y) labels c.line most (words + 2)) need
    c.counter) →
    ((y : ℤ) → IsWide y → OverflowComes (setting_with (turning words φ φs k y) labels c.line most (words + 2))) →
    ((y : ℤ) → IsWide y → IsTested (setting_with (turning words φ φs k y) labels c.line most (words + 2)) need
    c.condition) →
    ((y : ℤ) → IsWide y → TurnDoes words (turning words φ φs k y) labels c.body (body_index words k c index) left') →
    DoesWith words k labels (count_of c) index left'
count_does words k c φ φs labels index left' need most is start limit counter over tested turn =
    statement_does
    (record {
      words = words;
      block = k;
      count = c;
      layer = φ;
      others = φs;
      labels = labels;
      index = index;
      left' = left';
      need = need;
      most = most;
      is = is;
      start = start;
      limit = limit;
      counter = counter;
      over = over;
      tested = tested;
      turn = turn;
    })
