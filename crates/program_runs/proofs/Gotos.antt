-- GOTO to a label of a list that the block is carrying out.
use Rattle.std.proofs.Common.{◌≡◌, ℕ, ◌+◌, [], ◌∷◌, ◌++◌, List, inl, ap, ◌∙◌, subst, refl, arith}
use Rattle.std.proofs.lemmas.Bool.{eq-eqb}
use Rattle.std.specs.Prelude.{cond}
use Rattle.pli_typing.specs.TypedTree as Y
use Rattle.pli_meaning.specs.Control.{Label, Meaning, act, jumps, looked, ◌>>=◌, ◌>>◌}
use Rattle.pli_meaning.specs.Executing as M
use Rattle.pli_meaning.specs.StorageState.{State, ancestor_at, height_of}
use Rattle.pli_serving.specs.ServiceState.{Services}
use Rattle.pli_meaning.specs.World.{counted}
use Rattle.pli_coding.specs.Allocating.{act_code}
use Rattle.pli_coding.specs.Assembly.{JumpTo, LabelPlace, size_of}
use Rattle.pli_coding.specs.Environments.{block_around, none_taken}
use Rattle.pli_coding.specs.Statements.{goto_code, goto_outer, stmt_code}
use Rattle.activation_relation.specs.Layers.{services_of}
use Rattle.run_steps.specs.Items.{Linked}
use Rattle.run_steps.proofs.Jumps.{back_of, front_of, jump_piece}
use Rattle.run_steps.proofs.Linking.{size_append}
use Rattle.run_steps.specs.Owing.{owing}
use Rattle.run_steps.proofs.Owing.{comes_owing, owing_closed, repaid}
use Rattle.run_steps.specs.Reach.{Family}
use Rattle.run_steps.proofs.Reach.{before_closed, comes_on, reach_map}
use Rattle.run_steps.specs.Temporaries.{nothing}
use Rattle.block_runs.specs.Machines.{acted}
use Rattle.block_runs.proofs.PointActs.{act_comes}
use Rattle.block_runs.proofs.PointGrounds.{in_known, known_in, point_frame}
use Rattle.program_runs.specs.Statements.{Block, Does, HasAct, IsNear, JumpsTo, LandsAt, size_in, statement_aims}
use Rattle.program_runs.proofs.NewestBlocks.{newest_at, own_ancestor}
use Rattle.program_runs.proofs.Statements.{acted_among}

near_code :
    (k : Block) (labels : List Label) (label : Label) → IsNear k labels label →
    goto_code k.environment k.environment.level label ≡ JumpTo (LabelPlace k.environment.block label) ∷ []
near_code k labels label near =
    let e = k.environment in
    ap (λ q. cond q [] (goto_outer e e.level) ++ JumpTo (LabelPlace (block_around e e.level) label) ∷ [])
    (eq-eqb e.level e.level refl)
    ∙ ap (λ n. JumpTo (LabelPlace n label) ∷ []) near.block

at_label :
    {k : Block} {labels : List Label} {acts c : ℕ} {f : Family} {v : Services} {height : ℕ} {label : Label}
    {s : State} →
    LandsAt k labels acts c f v height label s → JumpsTo k labels acts c f v height label s
at_label o = record { to = inl o }

pub goto_does :
    (k : Block) (labels : List Label) (label : Label) (line index left' : ℕ) → HasAct k line →
    IsNear k labels label →
    Linked k.call.surroundings.links k.call.code index
    (stmt_code k.environment none_taken (Y.Goto k.environment.level label line)) →
    Does k labels (Y.Goto k.environment.level label line) index left'
unfolding M.statement ◌>>=◌ ◌>>◌ looked jumps
goto_does k labels label line index left' h near l p numbers c wanted f o paid there =
    let w = k.call.surroundings in
    let level = k.environment.level in
    let stmt = Y.Goto level label line in
    let one = act_code line in
    let jump = JumpTo (LabelPlace k.environment.block label) ∷ [] in
    let e = ap (λ u. one ++ u) (near_code k labels label near) in
    let l' = subst (Linked w.links k.call.code index) e l in
    let n0 = ap (λ u. size_of u) e in
    let n1 = size_append one jump in
    let aims = statement_aims k labels p.state.world.acts (index + size_in k stmt) wanted left' in
    let next' : Unit {0} → Meaning (Unit {0}) =
    λ u. looked >>= (λ s. jumps (height_of (ancestor_at s level)) label) in
    comes_owing 2 (M.statement k.around stmt w.acts p.state)
    (comes_on w.acts (act counted w.acts p.state) next'
    (act_comes (before_closed w.acts next' (owing_closed k.call.code 2 aims)) line (c + 2) 0 f (o.stands, o.image)
    (h.line_fits, h.acts, omega (arith, paid, n0, n1)) (front_of one jump l') there
    (λ g less at.
    let o' = acted_among line o less in
    let frame = point_frame o'.stands o'.image in
    let r = jump_piece {t = λ n. 0} {rs = nothing} 0 2 g (LabelPlace k.environment.block label) near.at (omega arith)
    near.place near.near
    (record { reserved_stay = λ y u. refl; known_stay = λ b y u q. q; set = λ y u. refl }) (back_of one jump l')
    (λ b. known_in frame (at b) tt) in
    record {
      to = λ early i0 f0 v0 from. at_label (record {
        own = own_ancestor near.level (newest_at near.begun o');
        carried = near.carried;
        point = acted line p;
        numbers = numbers;
        among = o';
        more = omega arith;
        state = refl;
        index = near.at;
        place = near.place;
        reach = repaid 2 0 (omega arith) (reach_map _ r (λ b y q. in_known frame o'.image.parts q)) from;
      });
    })))
