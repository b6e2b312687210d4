-- GET EDIT: its act, lines that are passed over, if any, and its lists; the first act pays for what comes behind the
-- last one.
use Rattle.std.proofs.Common.{◌≡◌, ℕ, ◌+◌, ◌^◌, ◌<◌, ◌≤◌, List, [], ◌∷◌, ◌++◌, None, Some, refl, ap, ◌∙◌, arith, subst}
use Rattle.std.proofs.lemmas.Bool.{le-leb}
use Rattle.std.specs.Prelude.{Option, nat_le, pos, ◌&&◌}
use Rattle.rv_meaning.specs.declared.instr.Instr.{Instr}
use Rattle.rv_meaning.specs.declared.instr.Instr.TheVariants as I
use Rattle.pli_typing.specs.TypedTree as Y
use Rattle.pli_meaning.specs.Control.{Label, Meaning, act, stored, ◌>>=◌, ◌>>◌}
use Rattle.pli_meaning.specs.Executing as M
use Rattle.pli_meaning.specs.InputLines.{Input}
use Rattle.pli_meaning.specs.Raising.{at_line}
use Rattle.pli_meaning.specs.StorageState.{with_input}
use Rattle.pli_meaning.specs.Streaming as P
use Rattle.pli_meaning.specs.Streaming.{SkipItem}
use Rattle.pli_meaning.specs.World.{counted}
use Rattle.pli_serving.specs.Answers.{Done, acting}
use Rattle.pli_serving.specs.Edits as E
use Rattle.pli_serving.specs.Outcomes.{bad_unless}
use Rattle.pli_coding.specs.Allocating.{act_code}
use Rattle.pli_coding.specs.Assembly.{Code, Plain, size_of}
use Rattle.pli_coding.specs.Instructions.{number, small}
use Rattle.pli_coding.specs.Registers.{a0, a1, a7}
use Rattle.pli_coding.specs.Streams as C
use Rattle.pli_coding.specs.Streams.{edit_ended, skip_option}
use Rattle.activation_relation.specs.Frames.{frame_under}
use Rattle.activation_relation.specs.Layers.{Point, services_of}
use Rattle.activation_relation.specs.Points.{AreOver, Stands, Surroundings}
use Rattle.run_steps.specs.Bodies.{Known}
use Rattle.run_steps.proofs.Bodies.{constant_piece, zero_is}
use Rattle.run_steps.specs.Calls.{Calling}
use Rattle.run_steps.proofs.Calls.{acts, called}
use Rattle.image_runs.specs.Runs.{Whole}
use Rattle.run_steps.specs.Engine.{Base, address, call_at}
use Rattle.run_steps.specs.Items.{At, Linked}
use Rattle.run_steps.proofs.Items.{straight}
use Rattle.run_steps.proofs.Jumps.{back_of, front_of, linked_at}
use Rattle.run_steps.proofs.Linking.{size_append}
use Rattle.run_steps.proofs.Owing.{comes_owing, owing_closed}
use Rattle.run_steps.specs.Reach.{Aims, Closed, Comes, Family, Reach, cost, reached}
use Rattle.run_steps.proofs.Reach.{before_closed, comes_on, onward, reach_then, reached_holds}
use Rattle.run_steps.specs.Temporaries.{nothing}
use Rattle.block_runs.specs.Machines.{AreIn, IsImage, IsIn}
use Rattle.block_runs.proofs.BlockEntries.{small_is, word_fits, word_is}
use Rattle.block_runs.proofs.Places.{IsFrame}
use Rattle.block_runs.proofs.PointActs.{act_comes}
use Rattle.block_runs.proofs.PointGrounds.{in_known, known_in, point_frame, point_ground}
use Rattle.program_runs.specs.Statements.{Block, DoesWith, IsAmong, set_aside, size_with, statement_aims}
use Rattle.program_runs.proofs.Statements.{acted_among}
use Rattle.program_runs.proofs.Waiting.{over_first}
use Rattle.expression_runs.specs.Assignments.{setting_around}
use Rattle.edit_runs.specs.Edits.{IsSkipped}
use Rattle.get_runs.specs.Gets.{AreListed, Get, GetList, GetsDo, IsGet, ListsHaveTargets, get_of, get_pairs}
use Rattle.get_runs.specs.Reading.{reading}
use Rattle.get_runs.proofs.Lists.{Around, IsAround, exit_of, lists_come, owed_aims, pairs_code}
use Rattle.get_runs.proofs.Reading.{reading_among, reading_comes}

-- ---- lines that are passed over

abbrev pub lines_passed : (lines : ℕ) → Input → Input
lines_passed lines = P.control_read (SkipItem lines)

abbrev pub behind_lines : (lines : ℕ) → Point → Point
behind_lines lines p = reading (lines_passed lines) p.control.edits p

skip_answered :
    (code : List Instr) (p : Point) (m : List ℕ) (lines k : ℕ) → (1 ≤ lines) × (lines ≤ 1000) →
    p.state.world.acts ≤ k → k + 1 < 2 ^ 64 →
    E.skip_served (call_at code (services_of p) m) lines 0 ≡ Done (services_of (behind_lines lines p)) m lines 0
skip_answered code p m lines k times allowed fits =
    let answer = Done (services_of (behind_lines lines p)) m lines 0 in
    ap (λ t. bad_unless (t && nat_le lines 1000) (acting (services_of p) answer)) (le-leb 1 lines times.0)
    ∙ ap (λ t. bad_unless t (acting (services_of p) answer)) (le-leb lines 1000 times.1)
    ∙ acts (services_of p) k answer allowed fits

abbrev asked_regs : (lines : ℕ) → Base → List (ℕ × ℕ)
asked_regs lines b = (10, lines) ∷ (11, 0) ∷ (17, 39) ∷ []

moved_at : {P : Whole → Type 0} {n j : ℕ} (b : Base) (y : Whole) → n ≡ j → At b n P y → At b j P y
moved_at b y e o = record { pc = o.pc ∙ ap (address b) e; holds = o.holds }

-- up to the call
skip_asked :
    {w : Surroundings} {code : List Instr} {p : Point} {numbers : ℕ → ℕ} {i : ℕ} (lines c : ℕ) (f : Family)
    (h : IsFrame (frame_under w.parts p.control.layers)) → lines ≤ 1000 → Linked w.links code i (number a0 lines) →
    Linked w.links code (i + size_of (number a0 lines)) (small a1 0 ∷ small a7 39 ∷ []) → AreIn w p numbers i f →
    Reach code c f (services_of p) (c + size_of (number a0 lines) + 2) (services_of p)
    (λ b y. At b (i + size_of (number a0 lines) + 2)
    (Known (point_ground w p h) (services_of p) numbers (λ n. 0) (asked_regs lines) b) y)
skip_asked {w} {p = p} {numbers = numbers} lines c f h most l l' there =
    let v = services_of p in
    let m = number a0 lines in
    let r1 = constant_piece {rs = nothing} c f a0 (pos lines) (word_fits lines (omega (arith, most)))
    (record { reserved_stay = λ y u. refl; known_stay = λ b y u o. o; set = λ y u. refl }) l
    (λ b. known_in {t = λ n. 0} {rs = nothing} h (there b) tt) in
    let r2 = straight (c + size_of m) (reached r1) v v
    (λ b y. Known (point_ground w p h) v numbers (λ n. 0) (asked_regs lines) b y) l' (omega arith)
    (λ b. (reached_holds r1 b).pc)
    (λ b. let o = (reached_holds r1 b).holds in record {
      body = record {
        services = o.body.services;
        registers = o.body.registers;
        bytes = o.body.bytes;
        memory = o.body.memory;
      };
      regs = (
        o.regs.0 ∙ word_is lines (omega (arith, most)),
        (small_is _ 0 (zero_is o.body) (omega arith), (small_is _ 39 (zero_is o.body) (omega arith), tt)),
      );
    }) in
    reach_then r1 r2

-- lines are passed over, or the run pauses before that
skip_comes :
    {w : Surroundings} {code : List Instr} {p : Point} {numbers : ℕ → ℕ} {i : ℕ} {aims : Aims (Unit {0})}
    (closed : Closed code aims) (lines c wanted : ℕ) (f : Family) → Stands w p × IsImage w code p →
    ((1 ≤ lines) × (lines ≤ 1000)) × (w.acts + 1 < 2 ^ 64) →
    c + size_of (skip_option 0 (Some lines)) ≤ cost code → Linked w.links code i (skip_option 0 (Some lines)) →
    AreIn w p numbers i f →
    ((f' : Family) → p.state.world.acts < w.acts →
    AreIn w (behind_lines lines p) numbers (i + size_of (skip_option 0 (Some lines))) f' →
    aims.done wanted f' (services_of (behind_lines lines p)) tt (behind_lines lines p).state) →
    Comes code c f (services_of p) aims (P.control_got (SkipItem lines) w.acts p.state)
unfolding P.control_got stored ◌>>◌
skip_comes {w} {code} {p} {numbers} {i} closed lines c wanted f known fits paid l there goal =
    let h = point_frame known.0 known.1 in
    let m = number a0 lines in
    let two = small a1 0 ∷ small a7 39 ∷ [] in
    let call = Plain I.Ecall ∷ [] in
    let l1 = back_of m (two ++ call) l in
    let n0 = size_append m (two ++ call) in
    let allowed = known.0.allowed in
    let next' : Unit {0} → Meaning (Unit {0}) = λ u. stored (with_input (lines_passed lines)) in
    onward closed (skip_asked lines c f h fits.0.1 (front_of m (two ++ call) l) (front_of two call l1) there)
    (λ g at.
    let calling : Calling w.links code (i + size_of m + 2) g
    (λ b. Done (services_of (behind_lines lines p)) (g b).machine.memory lines 0) =
    record {
      linked = back_of two call l1;
      pc = λ b. (at b).pc;
      answers = λ b.
          let o = (at b).holds in
          let y = (g b).machine.registers in
          called code (g b) (services_of p) 39 lines 0 (y 12) (y 13) (y 14)
          (λ call x0 x1 x2 x3 x4. E.skip_served call x0 x1)
          o.body.services o.regs.1.1.0 o.regs.0 o.regs.1.0 refl refl refl (λ call y. refl)
          ∙ skip_answered code p (g b).machine.memory lines w.acts fits.0 allowed fits.1;
    } in
    comes_on w.acts (act counted w.acts p.state) next'
    (reading_comes (before_closed w.acts next' closed)
    (record { change = lines_passed lines; edits = p.control.edits; first = λ b. lines; second = λ b. 0 })
    (c + size_of m + 2) wanted g h known.0 (omega (arith, n0, paid)) at calling
    (λ f' less at'.
    record {
      to = λ early.
          goal f' less (λ b. in_known h known.1.parts (moved_at b (f' b) (omega (arith, n0)) (at' b)));
    })))

-- ---- the statement

abbrev lists_code : (words : ℕ) → Block → List GetList → Code
lists_code words k ys = C.get_pairs k.environment (set_aside words) (get_pairs ys)

abbrev around_of : (words : ℕ) → Block → List Label → (line need most left' start debt : ℕ) → Around
around_of words k labels line need most left' start debt =
    record {
      words = words;
      block = k;
      labels = labels;
      line = line;
      need = need;
      most = most;
      left' = left';
      start = start;
      debt = debt;
    }

-- lines are passed over first, or none
skipped_come :
    (x : Around) → IsAround x → (skip : Option ℕ) → IsSkipped skip → (ys : List GetList) → AreListed x.block ys →
    ListsHaveTargets (setting_around x.words x.block x.labels x.line x.most) x.need ys → (acts' wanted i j : ℕ)
    (f : Family) {p : Point} {numbers : ℕ → ℕ} → IsAmong x.block numbers p → p.control.line ≡ x.line →
    acts' ≤ p.state.world.acts → i + size_of (skip_option 0 skip) ≡ x.start →
    size_of (skip_option 0 skip) ≤ cost x.block.call.code →
    x.start + size_of (pairs_code x ys) ≡ exit_of x → exit_of x + 2 ≡ j →
    Linked x.block.call.surroundings.links x.block.call.code i (skip_option 0 skip) →
    Linked x.block.call.surroundings.links x.block.call.code x.start (pairs_code x ys) →
    AreIn x.block.call.surroundings p numbers i f →
    Comes x.block.call.code 0 f (services_of p) (owed_aims x acts' j wanted)
    (P.get (at_line x.block.around x.line) skip (get_pairs ys) x.block.call.surroundings.acts p.state)
unfolding P.get ◌>>◌
skipped_come x a None some ys listed targets acts' wanted i j f o at since begun few end last l lists there =
    let same : x.start ≡ i = omega (arith, begun) in
    lists_come x a ys listed targets acts' 0 wanted i j f o at since (omega (arith, begun)) (omega (arith, begun, end))
    last (subst (λ n. Linked x.block.call.surroundings.links x.block.call.code n (pairs_code x ys)) same lists) there
skipped_come x a (Some lines) some ys listed targets acts' wanted i j f {p} {numbers} o at since begun few end last l
    lists there =
    let w = x.block.call.surroundings in
    let option = skip_option 0 (Some lines) in
    let closed = owing_closed x.block.call.code (x.debt + 2)
    (statement_aims x.block x.labels acts' j wanted x.left') in
    let next' : Unit {0} → Meaning (Unit {0}) = λ t. P.pairs_got (at_line x.block.around x.line) (get_pairs ys) in
    comes_on w.acts (P.control_got (SkipItem lines) w.acts p.state) next'
    (skip_comes (before_closed w.acts next' closed) lines 0 0 f (o.stands, o.image) (some, a.acts)
    (omega (arith, few)) l there
    (λ g less at'.
    lists_come x a ys listed targets acts' 0 wanted x.start j g
    (reading_among (lines_passed lines) o less) at (omega (arith, since)) (omega arith)
    (omega (arith, end)) last lists
    (λ b. subst (λ n. IsIn w (behind_lines lines p) numbers n b (g b)) begun (at' b))))

pub get_does : GetsDo
unfolding M.statement ◌>>◌
get_does words k labels x index left' need most h targets p numbers c wanted f o paid there =
    let w = k.call.surroundings in
    let code = k.call.code in
    let acts' = p.state.world.acts in
    let first = k.first.control in
    let one = act_code x.line in
    let option = skip_option 0 x.skip in
    let lists = lists_code words k x.lists in
    let behind' = option ++ (lists ++ edit_ended) in
    let n0 = size_append one behind' in
    let n1 = size_append option (lists ++ edit_ended) in
    let n2 = size_append lists edit_ended in
    let l1 = back_of one behind' h.statement in
    let l2 = back_of option (lists ++ edit_ended) l1 in
    let i1 = index + size_of one in
    let start = i1 + size_of option in
    let debt = size_of lists in
    let j = index + size_with words k (get_of x) in
    let all = h.paid in
    let y = around_of words k labels x.line need most left' start debt in
    let aims = statement_aims k labels acts' j wanted left' in
    let closed = owing_closed code (debt + 2) aims in
    let next' : Unit {0} → Meaning (Unit {0}) =
    λ t. P.get (at_line k.around x.line) x.skip (get_pairs x.lists) in
    comes_owing (debt + 2) (M.statement k.around (get_of x) w.acts p.state)
    (comes_on w.acts (act counted w.acts p.state) next'
    (act_comes (before_closed w.acts next' closed) x.line (c + (debt + 2)) 0 f (o.stands, o.image)
    (h.act.line_fits, h.act.acts, omega (arith, paid, n0, n1, n2)) (front_of one behind' h.statement) there
    (λ g less at.
    skipped_come y
    (record {
      acts = h.act.acts;
      over = over_first k [] o;
      registers = h.registers;
      held = h.held;
      endfile = h.endfile;
      error = h.error;
      paid = omega (arith, all, n0, n1, n2);
      exit = linked_at (debt + start) edit_ended (omega arith) (back_of lists edit_ended l2);
    })
    x.skip h.skip x.lists h.lists targets acts' wanted i1 j g (acted_among x.line o less) refl
    (omega arith) refl (omega (arith, all, n0, n1)) (omega arith) (omega (arith, n0, n1, n2))
    (front_of option (lists ++ edit_ended) l1) (front_of lists edit_ended l2) at)))
