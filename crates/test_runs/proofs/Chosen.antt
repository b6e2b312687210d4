-- What a bit in a register chooses, and statements that run in other ones.
use Rattle.std.proofs.Common.{◌≡◌, ℕ, ◌+◌, ◌≤◌, List, [], ◌∷◌, Bool, true, false, refl, sym, ap, ◌∙◌, subst, arith}
use Rattle.std.specs.Prelude.{if◌then◌else◌, ◌==◌}
use Rattle.rv_meaning.specs.declared.instr.BranchTest.TheVariants as Test
use Rattle.rv_meaning.specs.Machine.{value}
use Rattle.rv_meaning.specs.Words.{flag}
use Rattle.pli_meaning.specs.Control.{Flow, Label, Meaning, choose, give}
use Rattle.pli_serving.specs.ServiceState.{Services}
use Rattle.pli_coding.specs.Assembly.{Code, JumpAhead, size_of}
use Rattle.pli_coding.specs.Instructions.{skip_where}
use Rattle.pli_coding.specs.Registers.{a0, zero_register}
use Rattle.pli_coding.specs.Statements.{if_met}
use Rattle.activation_relation.specs.Layers.{Point, services_of}
use Rattle.run_steps.proofs.Bodies.{zero_is}
use Rattle.run_steps.specs.Engine.{Base}
use Rattle.run_steps.specs.Items.{Linked}
use Rattle.run_steps.specs.Owing.{owing}
use Rattle.run_steps.proofs.Jumps.{ahead_piece, front_of, rest_of, skip_passed, skip_taken}
use Rattle.run_steps.proofs.Linking.{size_append}
use Rattle.run_steps.proofs.Owing.{done_owing}
use Rattle.run_steps.specs.Reach.{Aims, Closed, Comes, Family}
use Rattle.run_steps.proofs.Reach.{onward, stay}
use Rattle.block_runs.specs.Machines.{AreIn, IsIn}
use Rattle.block_runs.proofs.CallStatements.{comes_map}
use Rattle.block_runs.proofs.PointGrounds.{in_known, point_frame}
use Rattle.program_runs.specs.Statements.{Block, IsAmong, statement_aims}
use Rattle.program_runs.proofs.JumpsOut.{jumps_repaid, jumps_since, returns_repaid}
use Rattle.program_runs.proofs.Statements.{goes_here, statement_closed}
use Rattle.expression_runs.proofs.Words.{known_word}

-- ---- a statement in another one, whose act pays for what stands around it

pub owed_from :
    {k : Block} {labels : List Label} {acts more i i' wanted wanted' left' c : ℕ} {f : Family} {v : Services}
    {flow : Flow (Unit {0})} (debt : ℕ) → acts ≤ more → i' ≡ i → wanted' ≤ wanted + debt →
    Comes k.call.code c f v (statement_aims k labels more i' wanted' left') flow →
    Comes k.call.code c f v (owing k.call.code debt (statement_aims k labels acts i wanted left')) flow
owed_from {k} {labels} {acts} {more} {i} {i'} {wanted} {wanted'} {left'} {flow = flow} debt since same few o =
    let aims = statement_aims k labels acts i wanted left' in
    let code = k.call.code in
    comes_map (statement_aims k labels more i' wanted' left') (owing code debt aims) refl flow
    (λ c f v r s q.
    let later = q.since in
    subst (λ u. (owing code debt aims).done c f v r u) (sym q.state)
    (done_owing (statement_closed k labels acts i wanted left') debt wanted few q.reach r q.point.state
    (λ g at. goes_here acts wanted g (omega (arith, since, later)) q.among
    (λ b. subst (λ j. IsIn k.call.surroundings q.point q.numbers j b (g b)) same (at b)))))
    (λ c f v height label s q. λ i0 f0 v0 from. jumps_repaid debt from (jumps_since since q))
    (λ c f v r s q. λ i0 f0 v0 from. returns_repaid debt from q)
    o

-- nothing more is done
pub none_owed :
    (k : Block) (labels : List Label) (acts i wanted left' c debt : ℕ) (f : Family) (p : Point) (numbers : ℕ → ℕ) →
    acts ≤ p.state.world.acts → c ≤ wanted + debt → IsAmong k numbers p → AreIn k.call.surroundings p numbers i f →
    Comes k.call.code c f (services_of p) (owing k.call.code debt (statement_aims k labels acts i wanted left'))
    (give tt k.call.surroundings.acts p.state)
unfolding give
none_owed k labels acts i wanted left' c debt f p numbers since few o there =
    record {
      to = λ early. done_owing (statement_closed k labels acts i wanted left') debt wanted few
          (stay k.call.code c f (services_of p) (λ b y. IsIn k.call.surroundings p numbers i b y) there) tt p.state
          (λ g at. goes_here acts wanted g since o at);
    }

-- ---- a choice

is_met : (q : Bool) (x z : ℕ) → x ≡ flag q → z ≡ 0 → (if x == z then false else true) ≡ q
is_met true x z e f = ap (λ u. if u == z then false else true) e ∙ ap (λ u. if 1 == u then false else true) f
is_met false x z e f = ap (λ u. if u == z then false else true) e ∙ ap (λ u. if 0 == u then false else true) f

-- the code over the way past what is met
abbrev pub past : Code → Code
past part = skip_where Test.NotEqual a0 zero_register (JumpAhead (size_of part) ∷ [])

pub met_size : (part : Code) → size_of (if_met part) ≡ 3 + size_of part
met_size part = size_append (past part) part

-- where the bit in a0 is set the code is come to, else what stands behind it
pub chosen_does :
    (k : Block) {aims : Aims (Unit {0})} (closed : Closed k.call.code aims) (p : Point) (numbers : ℕ → ℕ) (c j : ℕ)
    (f : Family) (part : Code) (met : Bool) (one other : Meaning (Unit {0})) → IsAmong k numbers p →
    Linked k.call.surroundings.links k.call.code j (if_met part) →
    ((b : Base) → IsIn k.call.surroundings p numbers j b (f b) × (value (f b).machine a0 ≡ flag met)) →
    ((g : Family) → AreIn k.call.surroundings p numbers (j + 3) g →
    Comes k.call.code (c + 3) g (services_of p) aims (one k.call.surroundings.acts p.state)) →
    ((g : Family) → AreIn k.call.surroundings p numbers (j + (3 + size_of part)) g →
    Comes k.call.code (c + (3 + size_of part)) g (services_of p) aims (other k.call.surroundings.acts p.state)) →
    Comes k.call.code c f (services_of p) aims (choose met one other k.call.surroundings.acts p.state)
unfolding choose
chosen_does k closed p numbers c j f part true one other o l there met otherwise =
    let h = point_frame o.stands o.image in
    onward closed
    (skip_taken c f Test.NotEqual a0 zero_register (JumpAhead (size_of part) ∷ []) (front_of (past part) part l)
    (λ b. known_word k h (there b))
    (λ b. let at = known_word k h (there b) in is_met true _ _ at.holds.regs.0 (zero_is at.holds.body)))
    (λ g at. met g (λ b. in_known h o.image.parts (at b)))
chosen_does k {aims} closed p numbers c j f part false one other o l there met otherwise =
    let h = point_frame o.stands o.image in
    let lp = front_of (past part) part l in
    let size = met_size part in
    let inside = l.inside in
    let place : j + 1 + (2 + size_of part) ≡ j + (3 + size_of part) = omega arith in
    let paid : c + 1 + (2 + size_of part) ≡ c + (3 + size_of part) = omega arith in
    onward closed
    (skip_passed c f Test.NotEqual a0 zero_register (JumpAhead (size_of part) ∷ []) lp
    (λ b. known_word k h (there b))
    (λ b. let at = known_word k h (there b) in is_met false _ _ at.holds.regs.0 (zero_is at.holds.body)))
    (λ f1 at1.
    onward closed
    (ahead_piece (c + 1) f1 (size_of part) (omega (arith, inside, size))
    (record { reserved_stay = λ y u. refl; known_stay = λ b y u q. q; set = λ y u. refl })
    (rest_of _ (JumpAhead (size_of part) ∷ []) lp) at1)
    (λ f2 at2.
    subst (λ n. Comes k.call.code n f2 (services_of p) aims (other k.call.surroundings.acts p.state)) (sym paid)
    (otherwise f2
    (λ b. subst (λ i. IsIn k.call.surroundings p numbers i b (f2 b)) place (in_known h o.image.parts (at2 b))))))
