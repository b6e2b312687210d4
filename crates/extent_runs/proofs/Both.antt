-- Both stretches by which an adjustable variable is made.
use Rattle.std.proofs.Common.{◌≡◌, ℕ, ◌+◌, ◌^◌, ◌<◌, ◌≤◌, List, [], ◌∷◌, ◌++◌, sym, subst, arith}
use Rattle.std.specs.Prelude.{ℤ}
use Rattle.rv_meaning.specs.declared.instr.Instr.{Instr}
use Rattle.pli_meaning.specs.Control.{Meaning, act, ◌>>◌}
use Rattle.pli_meaning.specs.Making as K
use Rattle.pli_meaning.specs.World.{counted}
use Rattle.pli_serving.specs.SignatureService.{number_of, reserved_for}
use Rattle.pli_serving.specs.Templates.{shape_of}
use Rattle.pli_coding.specs.Allocating.{act_code}
use Rattle.pli_coding.specs.Assembly.{DataPlace, Datum, size_of}
use Rattle.pli_coding.specs.Environments.{none_taken}
use Rattle.pli_coding.specs.Extents.{filled_in}
use Rattle.pli_coding.specs.Linking.{place_of}
use Rattle.activation_relation.specs.Layers.{Layer, Point, services_of}
use Rattle.activation_relation.specs.Points.{Stands, Surroundings}
use Rattle.run_steps.specs.Engine.{Base}
use Rattle.run_steps.specs.Items.{Linked}
use Rattle.run_steps.proofs.Jumps.{back_of, front_of}
use Rattle.run_steps.proofs.Linking.{size_append}
use Rattle.run_steps.specs.Reach.{Aims, Closed, Comes, Family, Reach, cost, reached}
use Rattle.run_steps.proofs.Reach.{before_closed, comes_on, onward, reach_map, reach_then, reach_with, reached_holds}
use Rattle.block_runs.specs.Machines.{AreIn, IsImage, IsIn, acted}
use Rattle.block_runs.proofs.PointActs.{act_comes}
use Rattle.program_runs.specs.Statements.{Block, IsAmong}
use Rattle.expression_runs.specs.Values.{Setting, behind}
use Rattle.begin_runs.specs.BehindLists.{from_point}
use Rattle.argument_runs.proofs.GivenLists.{with_list_stands}
use Rattle.extent_runs.specs.Both.{Evaluated, IsEvaluated, evaluated_from, evaluating_code, placed_from}
use Rattle.extent_runs.specs.Extents.{bounded_code, evaluation_of, extent_aims}
use Rattle.extent_runs.specs.Placing.{IsPlacement, Placement, placing_code}
use Rattle.extent_runs.specs.Signatures.{Filling, IsFilling, filled_point}
use Rattle.extent_runs.specs.Words.{HasExtent, IsWaiting, answered_point, both_wait, number_kept, number_waits}
use Rattle.extent_runs.proofs.Extents.{extent_closed, extents_do}
use Rattle.extent_runs.proofs.PlacingCode.{placing_comes}
use Rattle.extent_runs.proofs.Signatures.{filled_stands}
use Rattle.extent_runs.proofs.Words.{filled_in_comes, number_comes, waits_begun}

-- ---- up to the bounds

abbrev aims_of : Setting → Evaluated → Point → (numbers : ℕ → ℕ) → (again index : ℕ) → Aims (List ℤ)
aims_of k x p numbers again index =
    extent_aims k.block k.labels
    (behind (evaluated_from x p) numbers 0 (again + size_of (number_kept x.signature))
    (index + size_of (act_code x.line) + size_of (number_kept x.signature)) (bounded_code k x.extent)) x.extent.lower

pub extents_evaluated :
    (i : Block) (k : Setting) (x : Evaluated) (p : Point) (numbers : ℕ → ℕ) (credits again index : ℕ) (f : Family) →
    Stands i.call.surroundings p × IsImage i.call.surroundings i.call.code p → IsEvaluated i k x p numbers →
    Linked i.call.surroundings.links i.call.code index (evaluating_code k x) →
    (credits + size_of (act_code x.line) ≤ cost i.call.code)
    × (again + size_of (number_kept x.signature) + size_of (bounded_code k x.extent) + k.most ≤ cost i.call.code) →
    AreIn i.call.surroundings p numbers index f →
    Comes i.call.code credits f (services_of p) (aims_of k x p numbers again index)
    (K.extents k.around (evaluation_of x.extent ∷ []) i.call.surroundings.acts p.state)
unfolding K.extents ◌>>◌
extents_evaluated i k x p numbers credits again index f known h l paid there =
    let w = i.call.surroundings in
    let code = i.call.code in
    let one = act_code x.line in
    let two = number_kept x.signature in
    let three = bounded_code k x.extent in
    let l1 = back_of one (two ++ three) l in
    let next' : Unit {0} → Meaning (List ℤ) = λ u. K.evaluations k.around [] (evaluation_of x.extent ∷ []) in
    let same = h.block in
    let aims = aims_of k x p numbers again index in
    let closed = subst (λ (m : Block). Closed m.call.code aims) same
    (extent_closed k.block k.labels
    (behind (evaluated_from x p) numbers 0 (again + size_of two) (index + size_of one + size_of two) three)
    x.extent.lower) in
    comes_on w.acts (act counted w.acts p.state) next'
    (act_comes (before_closed w.acts next' closed) x.line credits again f known (h.line_fits, h.acts, paid.0)
    (front_of one (two ++ three) l) there
    (λ g less at.
    let a = acted x.line p in
    let b = h.begun less in
    let o = waits_begun (from_point i a) a numbers x.layer x.others (number_waits x.signature) b.0 b.1 h.newest in
    onward closed
    (number_comes w code a x.layer x.others numbers x.signature again (index + size_of one) g (b.1.stands, b.1.image)
    h.newest (h.room, h.signature) (front_of two three l1) at)
    (λ g' at'.
    subst (λ (m : Block). Comes m.call.code (again + size_of two) g' (services_of (evaluated_from x p)) aims
    (K.evaluations k.around [] (evaluation_of x.extent ∷ []) m.call.surroundings.acts (evaluated_from x p).state)) same
    (extents_do k x.extent h.words h.lower h.errors h.does (evaluated_from x p) numbers (again + size_of two)
    (index + size_of one + size_of two) g'
    (subst (λ m. IsAmong m numbers (evaluated_from x p)) (sym same) o.1) (sym h.line) h.registers
    (subst (λ (m : Block). Linked m.call.surroundings.links m.call.code (index + size_of one + size_of two) three)
    (sym same) (back_of two three l1))
    (subst (λ (m : Block). again + size_of two + size_of three + k.most ≤ cost m.call.code) (sym same) paid.1)
    (subst (λ (m : Block). AreIn m.call.surroundings (evaluated_from x p) numbers
    (index + size_of one + size_of two) g') (sym same) at')))))

-- ---- from there on

pub extents_placed :
    (w : Surroundings) (code : List Instr) (p : Point) (x : Filling) (φ : Layer) (φs : List Layer) (z : Placement)
    (numbers : ℕ → ℕ) (places : Datum) (c index : ℕ) (f : Family) → Stands w p × IsImage w code p →
    IsFilling p x × IsWaiting p x φ φs → IsPlacement w (answered_point x φ φs p) z →
    (place_of w.links (DataPlace places) ≡ x.at) × (x.at < 2 ^ 32) →
    Linked w.links code index (filled_in none_taken places ++ placing_code z) →
    ((b : Base) → IsIn w p numbers index b (f b) × HasExtent p x (f b)) →
    Reach code c f (services_of p) (c + size_of (filled_in none_taken places ++ placing_code z))
    (services_of (placed_from x φ φs z p))
    (λ b y. IsIn w (placed_from x φ φs z p) numbers (index + size_of (filled_in none_taken places ++ placing_code z)) b
    y)
extents_placed w code p x φ φs z numbers places c index f known is h place l there =
    let first = filled_in none_taken places in
    let second = placing_code z in
    let n = size_append first second in
    let q = answered_point x φ φs p in
    let r1 = filled_in_comes w code p x φ φs numbers places c index f known is place (front_of first second l) there in
    let new = with_list_stands w code (filled_point x.template p) φ φs
    (both_wait (number_of x.template p.places.signatures) (reserved_for p.keeper (shape_of x.template)))
    (filled_stands w code p x.template known) is.1.newest in
    let r2 = placing_comes w code q numbers z (c + size_of first) (index + size_of first) (reached r1) new h
    (back_of first second l) (reached_holds r1) in
    reach_map _ (reach_with (c + size_of (first ++ second)) (omega (arith, n)) (reach_then r1 r2))
    (λ b y o. subst (λ j. IsIn w (placed_from x φ φs z p) numbers j b y) (omega (arith, n)) o)
