-- PUT SKIP: its act, and the service that ends lines.
use Rattle.std.proofs.Common.{◌≡◌, ℕ, ◌+◌, ◌^◌, ◌<◌, ◌≤◌, List, [], ◌∷◌, ◌++◌, Some, refl, ap, ◌∙◌, subst}
use Rattle.std.proofs.Common.{arith}
use Rattle.std.proofs.lemmas.Bool.{le-leb}
use Rattle.std.specs.Prelude.{nat_le, pos, ◌&&◌}
use Rattle.rv_meaning.specs.declared.instr.Instr.{Instr}
use Rattle.rv_meaning.specs.declared.instr.Instr.TheVariants as I
use Rattle.pli_meaning.specs.Control.{Label, Meaning, act, give, ◌>>=◌, ◌>>◌}
use Rattle.pli_meaning.specs.Executing as M
use Rattle.pli_meaning.specs.Raising.{at_line}
use Rattle.pli_meaning.specs.Streaming as P
use Rattle.pli_meaning.specs.Streaming.{SkipItem}
use Rattle.pli_meaning.specs.World.{counted, written}
use Rattle.pli_serving.specs.Answers.{Done, acting}
use Rattle.pli_serving.specs.Edits as E
use Rattle.pli_serving.specs.Outcomes.{bad_unless}
use Rattle.pli_coding.specs.Allocating.{act_code}
use Rattle.pli_coding.specs.Assembly.{Plain, size_of}
use Rattle.pli_coding.specs.Instructions.{number, small}
use Rattle.pli_coding.specs.Registers.{a0, a1, a7}
use Rattle.pli_coding.specs.Streams.{skip_option}
use Rattle.activation_relation.specs.Layers.{Point, services_of}
use Rattle.activation_relation.specs.Points.{Stands, Surroundings}
use Rattle.run_steps.specs.Bodies.{Known}
use Rattle.run_steps.proofs.Bodies.{constant_piece, zero_is}
use Rattle.run_steps.specs.Calls.{Calling}
use Rattle.run_steps.proofs.Calls.{acts, called}
use Rattle.run_steps.specs.Engine.{Base, address, call_at}
use Rattle.run_steps.specs.Items.{At, Linked}
use Rattle.run_steps.proofs.Items.{straight}
use Rattle.run_steps.proofs.Jumps.{back_of, front_of}
use Rattle.run_steps.proofs.Linking.{size_append}
use Rattle.run_steps.specs.Reach.{Aims, Closed, Comes, Family, Reach, cost, reached}
use Rattle.run_steps.proofs.Reach.{before_closed, comes_on, onward, reach_then, reached_holds}
use Rattle.run_steps.specs.Temporaries.{nothing}
use Rattle.block_runs.specs.Machines.{AreIn, IsImage, IsIn, acted}
use Rattle.block_runs.proofs.BlockEntries.{small_is, word_fits, word_is}
use Rattle.block_runs.proofs.PointActs.{act_comes}
use Rattle.block_runs.proofs.PointGrounds.{in_known, known_in, point_frame, point_ground}
use Rattle.block_runs.proofs.Places.{IsFrame}
use Rattle.image_runs.specs.Runs.{Whole}
use Rattle.activation_relation.specs.Frames.{frame_under}
use Rattle.program_runs.specs.Statements.{Block, Does, size_in, statement_aims}
use Rattle.program_runs.proofs.Statements.{acted_among, goes_here, statement_closed}
use Rattle.edit_runs.specs.Skips.{IsSkip, skipping}
use Rattle.edit_runs.specs.Writing.{writing}
use Rattle.edit_runs.proofs.Writing.{writing_among, writing_comes}

-- ---- the service

abbrev pub item_of : (lines : ℕ) → List ℕ → List ℕ
item_of lines = P.control_written (SkipItem lines)

abbrev pub behind_skip : (lines : ℕ) → Point → Point
behind_skip lines p = writing (item_of lines) p.control.edits p

skip_answered :
    (code : List Instr) (p : Point) (m : List ℕ) (lines k : ℕ) → (1 ≤ lines) × (lines ≤ 1000) →
    p.state.world.acts ≤ k → k + 1 < 2 ^ 64 →
    E.skip_served (call_at code (services_of p) m) lines 1 ≡ Done (services_of (behind_skip lines p)) m lines 1
skip_answered code p m lines k times allowed fits =
    let answer = Done (services_of (behind_skip lines p)) m lines 1 in
    ap (λ t. bad_unless (t && nat_le lines 1000) (acting (services_of p) answer)) (le-leb 1 lines times.0)
    ∙ ap (λ t. bad_unless t (acting (services_of p) answer)) (le-leb lines 1000 times.1)
    ∙ acts (services_of p) k answer allowed fits

-- ---- its code

abbrev asked_regs : (lines : ℕ) → Base → List (ℕ × ℕ)
asked_regs lines b = (10, lines) ∷ (11, 1) ∷ (17, 39) ∷ []

moved_at : {P : Whole → Type 0} {n j : ℕ} (b : Base) (y : Whole) → n ≡ j → At b n P y → At b j P y
moved_at b y e o = record { pc = o.pc ∙ ap (address b) e; holds = o.holds }

-- up to the call
skip_asked :
    {w : Surroundings} {code : List Instr} {p : Point} {numbers : ℕ → ℕ} {i : ℕ} (lines c : ℕ) (f : Family)
    (h : IsFrame (frame_under w.parts p.control.layers)) → lines ≤ 1000 → Linked w.links code i (number a0 lines) →
    Linked w.links code (i + size_of (number a0 lines)) (small a1 1 ∷ small a7 39 ∷ []) → AreIn w p numbers i f →
    Reach code c f (services_of p) (c + size_of (number a0 lines) + 2) (services_of p)
    (λ b y. At b (i + size_of (number a0 lines) + 2)
    (Known (point_ground w p h) (services_of p) numbers (λ n. 0) (asked_regs lines) b) y)
skip_asked {w} {p = p} {numbers = numbers} lines c f h most l l' there =
    let v = services_of p in
    let m = number a0 lines in
    let r1 = constant_piece {rs = nothing} c f a0 (pos lines) (word_fits lines (omega (arith, most)))
    (record { reserved_stay = λ y u. refl; known_stay = λ b y u o. o; set = λ y u. refl }) l
    (λ b. known_in {t = λ n. 0} {rs = nothing} h (there b) tt) in
    let r2 = straight (c + size_of m) (reached r1) v v
    (λ b y. Known (point_ground w p h) v numbers (λ n. 0) (asked_regs lines) b y) l' (omega arith)
    (λ b. (reached_holds r1 b).pc)
    (λ b. let o = (reached_holds r1 b).holds in record {
      body = record {
        services = o.body.services;
        registers = o.body.registers;
        bytes = o.body.bytes;
        memory = o.body.memory;
      };
      regs = (
        o.regs.0 ∙ word_is lines (omega (arith, most)),
        (small_is _ 1 (zero_is o.body) (omega arith), (small_is _ 39 (zero_is o.body) (omega arith), tt)),
      );
    }) in
    reach_then r1 r2

-- lines end, or the run pauses before that
pub skip_comes :
    {w : Surroundings} {code : List Instr} {p : Point} {numbers : ℕ → ℕ} {i : ℕ} {aims : Aims (Unit {0})}
    (closed : Closed code aims) (lines c wanted : ℕ) (f : Family) → Stands w p × IsImage w code p →
    ((1 ≤ lines) × (lines ≤ 1000)) × (w.acts + 1 < 2 ^ 64) →
    c + size_of (skip_option 1 (Some lines)) ≤ cost code → Linked w.links code i (skip_option 1 (Some lines)) →
    AreIn w p numbers i f →
    ((f' : Family) → p.state.world.acts < w.acts →
    AreIn w (behind_skip lines p) numbers (i + size_of (skip_option 1 (Some lines))) f' →
    aims.done wanted f' (services_of (behind_skip lines p)) tt (behind_skip lines p).state) →
    Comes code c f (services_of p) aims (act (written (item_of lines)) w.acts p.state)
skip_comes {w} {code} {p} {numbers} {i} closed lines c wanted f known fits paid l there goal =
    let h = point_frame known.0 known.1 in
    let m = number a0 lines in
    let two = small a1 1 ∷ small a7 39 ∷ [] in
    let call = Plain I.Ecall ∷ [] in
    let l1 = back_of m (two ++ call) l in
    let n0 = size_append m (two ++ call) in
    let allowed = known.0.allowed in
    onward closed (skip_asked lines c f h fits.0.1 (front_of m (two ++ call) l) (front_of two call l1) there)
    (λ g at.
    let calling : Calling w.links code (i + size_of m + 2) g
    (λ b. Done (services_of (behind_skip lines p)) (g b).machine.memory lines 1) =
    record {
      linked = back_of two call l1;
      pc = λ b. (at b).pc;
      answers = λ b.
          let o = (at b).holds in
          let y = (g b).machine.registers in
          called code (g b) (services_of p) 39 lines 1 (y 12) (y 13) (y 14)
          (λ call x0 x1 x2 x3 x4. E.skip_served call x0 x1)
          o.body.services o.regs.1.1.0 o.regs.0 o.regs.1.0 refl refl refl (λ call y. refl)
          ∙ skip_answered code p (g b).machine.memory lines w.acts fits.0 allowed fits.1;
    } in
    writing_comes closed
    (record {
      item = item_of lines;
      texts = p.control.entries;
      edits = p.control.edits;
      first = λ b. lines;
      second = λ b. 1;
    })
    (c + size_of m + 2) wanted g h known.0 (omega (arith, n0, paid)) at calling
    (λ f' less at'. goal f' less (λ b. in_known h known.1.parts (moved_at b (f' b) (omega (arith, n0)) (at' b)))))

-- ---- the statement

pub skip_does :
    (k : Block) (labels : List Label) (lines line index left' : ℕ) → IsSkip k lines line index →
    Does k labels (skipping lines line) index left'
unfolding M.statement P.put P.control_put P.pairs_put ◌>>◌ ◌>>=◌ give
skip_does k labels lines line index left' is p numbers c wanted f o paid there =
    let w = k.call.surroundings in
    let one = act_code line in
    let option = skip_option 1 (Some lines) in
    let here = at_line k.around line in
    let acts' = p.state.world.acts in
    let aims = statement_aims k labels acts' (index + size_in k (skipping lines line)) wanted left' in
    let closed = statement_closed k labels acts' (index + size_in k (skipping lines line)) wanted left' in
    let next1 : Unit {0} → Meaning (Unit {0}) = λ u. P.put here (Some lines) [] in
    let next2 : Unit {0} → Meaning (Unit {0}) = λ u. P.pairs_put here [] in
    let n0 = size_append one (option ++ []) in
    let n1 = size_append option [] in
    let l1 = back_of one (option ++ []) is.statement in
    comes_on w.acts (act counted w.acts p.state) next1
    (act_comes (before_closed w.acts next1 closed) line c 0 f (o.stands, o.image)
    (is.act.line_fits, is.act.acts, omega (arith, paid, n0)) (front_of one (option ++ []) is.statement) there
    (λ g less at.
    let q = acted line p in
    let o' = acted_among line o less in
    comes_on w.acts (act (written (item_of lines)) w.acts q.state) next2
    (skip_comes (before_closed w.acts next2 closed) lines 0 wanted g (o'.stands, o'.image)
    ((is.some, is.most), is.act.acts) (omega (arith, paid, n0, n1)) (front_of option [] l1) at
    (λ g' less' at'.
    record {
      to = λ early. goes_here acts' wanted g' (omega arith) (writing_among (item_of lines) o' less')
          (λ b. subst (λ i. IsIn w (behind_skip lines q) numbers i b (g' b)) (omega (arith, n0, n1)) (at' b));
    }))))
