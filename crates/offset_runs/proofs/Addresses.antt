-- The offset in an area of what a pointer variable points to does what it means: it comes into a0, or ERROR ends the
-- run.
use Rattle.std.proofs.Common.{◌≡◌, ℕ, ◌+◌, ◌≤◌, List, [], ◌++◌, Option, None, Some, Bool, true, false}
use Rattle.std.proofs.Common.{refl, sym, ap, ◌∙◌, subst, arith}
use Rattle.std.proofs.lemmas.Bool.Decides.{nat_tests}
use Rattle.std.specs.Prelude.{cond, ◌==◌}
use Rattle.pli_typing.specs.TypedTree as Y
use Rattle.pli_meaning.specs.BasicValues.{BasedName, Name, NullName, VariableName}
use Rattle.pli_meaning.specs.Contents.{Generation}
use Rattle.pli_meaning.specs.Control.{Meaning, flow_on, give, ◌>>=◌}
use Rattle.pli_meaning.specs.DeclaredShapes.{declared_variable}
use Rattle.pli_meaning.specs.Evaluating as V
use Rattle.pli_meaning.specs.Evaluating.{offset_within}
use Rattle.pli_meaning.specs.Raising as R
use Rattle.pli_meaning.specs.StorageState as Q
use Rattle.pli_meaning.specs.StorageState.{generation_at}
use Rattle.pli_coding.specs.Assembly.{size_of}
use Rattle.pli_coding.specs.Expressions.{offset_code}
use Rattle.storage_relation.specs.Served.{Holds}
use Rattle.storage_relation.specs.Telling.{IsOffset}
use Rattle.activation_relation.specs.Layers.{Point, now, services_of}
use Rattle.activation_relation.proofs.Remaining.{shapes_remain}
use Rattle.run_steps.specs.Items.{Linked}
use Rattle.run_steps.proofs.Jumps.{back_of, front_of}
use Rattle.run_steps.proofs.Linking.{size_append}
use Rattle.run_steps.specs.Reach.{Comes, Family, before, cost, reached}
use Rattle.run_steps.proofs.Reach.{before_closed, comes_on, onward, reach_then, reached_holds}
use Rattle.run_steps.proofs.Reaching.{reach_moved}
use Rattle.block_runs.specs.Machines.{AreIn}
use Rattle.program_runs.specs.Statements.{IsAmong}
use Rattle.expression_runs.specs.Values.{Setting, behind, in_registers}
use Rattle.expression_runs.specs.Variables.{Spot}
use Rattle.expression_runs.proofs.VariablePoints.{first_base}
use Rattle.expression_runs.proofs.Words.{word_here}
use Rattle.area_runs.specs.Allocations.{HasArea}
use Rattle.area_runs.specs.Based.{based_of}
use Rattle.area_assignments.proofs.Emptying.{area_stands}
use Rattle.locator_runs.proofs.PointerPoints.{pointer_in}
use Rattle.member_runs.specs.Members.{structure_shape}
use Rattle.member_runs.proofs.MemberPoints.{StructureAt, structure_at}
use Rattle.offset_runs.specs.OffsetAddresses.{IsAddressed, offset_of, whole_structure}
use Rattle.offset_runs.specs.Offsets.{Gives, offset_aims}
use Rattle.offset_runs.proofs.AddressAnswers.{based_fits}
use Rattle.offset_runs.proofs.AddressCode.{address_coded}
use Rattle.offset_runs.proofs.AddressMeaning.{behind_found, inside_is, outside_is, part_found, part_missing}
use Rattle.offset_runs.proofs.AddressMeaning.{through_is, within_area, within_is}
use Rattle.offset_runs.proofs.AddressRuns.{Addressing, addressed_code, frame_at, inside_reaches, missing_ends}
use Rattle.offset_runs.proofs.AddressRuns.{outside_ends, waits_reach, within_code}
use Rattle.offset_runs.proofs.OffsetValues.{offset_closed}

-- what lives by a name has an offset in the area that an element can keep, if it has one there
within_fits :
    {k : _} {numbers : ℕ → ℕ} {p : Point} {x : Spot} (area : HasArea k x) → IsAmong k numbers p → (m : List ℕ) →
    Holds (now p m) → (name : Name) (g : Generation) (u : Option ℕ) → generation_at p.state name ≡ Some g →
    offset_within area.known.serial name ≡ Some u → IsOffset u
within_fits area o m h NullName g u lives e = absurd (cc lives)
within_fits area o m h (VariableName serial) g u lives e = absurd (cc e)
within_fits {p = p} area o m h (BasedName n i) g u lives e = by (n == area.known.serial) refl e
  where
    by : (q : Bool) → (n == area.known.serial) ≡ q → cond q (Some (Some i)) None ≡ Some u → IsOffset u
    by true same f =
        let one : n ≡ area.known.serial = grind (arith, nat_tests) in
        let is : Some i ≡ u = cc f in
        subst IsOffset is
        (based_fits area o m h i g (subst (λ j. generation_at p.state (BasedName j i) ≡ Some g) one lives))
    by false other f = absurd (cc f)

-- ---- once it is found to live

found_comes :
    (k : Setting) (x n : Spot) (members : List Y.Member) (leaves : List Y.Leaf) (a : Spot) (p : Point)
    (numbers : ℕ → ℕ) (taken c index : ℕ) (f : Family) (z : Addressing k x n members leaves a p numbers) →
    p.control.line ≡ k.around.line →
    Linked k.block.call.surroundings.links k.block.call.code index (addressed_code z ++ within_code k a) →
    c + size_of (addressed_code z ++ within_code k a) + k.most ≤ cost k.block.call.code →
    AreIn k.block.call.surroundings p numbers index f → StructureAt p z.at.points.name members leaves →
    (r : Option (Option ℕ)) → offset_within z.given.area.known.serial z.at.points.name ≡ r →
    Comes k.block.call.code c f (services_of p)
    (offset_aims k.block k.labels (behind p numbers taken c index (addressed_code z ++ within_code k a)))
    (within_area k.around a z.at.points.name k.block.call.surroundings.acts p.state)
found_comes k x n members leaves a p numbers taken c index f z line l paid there s None none =
    let w = k.block.call.surroundings in
    let code = k.block.call.code in
    let o = z.among in
    let area = z.given.area in
    let y = behind p numbers taken c index (addressed_code z ++ within_code k a) in
    let first = addressed_code z in
    let n0 = size_append first (within_code k a) in
    let closed = offset_closed k.block k.labels y in
    let most = z.given.ends.most in
    let r1 = waits_reach z s c f (front_of first (within_code k a) l) there in
    subst (λ flow. Comes code c f (services_of p) (offset_aims k.block k.labels y) flow)
    (sym (within_is k.around a area.declared area.known.serial w.acts p.state z.at.points.name (area_stands area o)
    ∙ outside_is k.around w.acts p.state (offset_within area.known.serial z.at.points.name) none))
    (onward closed r1 (λ g at.
    outside_ends closed z k.around z.at.points.name (c + size_of first) g none line (omega (arith, paid, n0, most))
    (back_of first (within_code k a) l) at))
found_comes k x n members leaves a p numbers taken c index f z line l paid there s (Some u) some =
    let w = k.block.call.surroundings in
    let code = k.block.call.code in
    let o = z.among in
    let area = z.given.area in
    let y = behind p numbers taken c index (addressed_code z ++ within_code k a) in
    let first = addressed_code z in
    let n0 = size_append first (within_code k a) in
    let h = frame_at z in
    let r1 = waits_reach z s c f (front_of first (within_code k a) l) there in
    let r2 = inside_reaches z z.at.points.name u (c + size_of first) (reached r1) some
    (back_of first (within_code k a) l) (reached_holds r1) in
    let fits = within_fits area o (f first_base).machine.memory (there first_base).at.storage z.at.points.name _ u
    s.lives some in
    subst (λ flow. Comes code c f (services_of p) (offset_aims k.block k.labels y) flow)
    (sym (within_is k.around a area.declared area.known.serial w.acts p.state z.at.points.name (area_stands area o)
    ∙ inside_is k.around w.acts p.state (offset_within area.known.serial z.at.points.name) u some))
    (record {
      to = λ early. (
        fits,
        word_here {x = y} h o (omega arith) refl (reach_moved (omega (arith, n0)) (omega (arith, n0)) (reach_then r1
            r2)),
      );
    })

-- ---- by what lives there

given_by :
    (k : Setting) (x n : Spot) (members : List Y.Member) (leaves : List Y.Leaf) (a : Spot) (p : Point)
    (numbers : ℕ → ℕ) (taken c index : ℕ) (f : Family) (z : Addressing k x n members leaves a p numbers) →
    p.control.line ≡ k.around.line →
    Linked k.block.call.surroundings.links k.block.call.code index (addressed_code z ++ within_code k a) →
    c + size_of (addressed_code z ++ within_code k a) + k.most ≤ cost k.block.call.code →
    AreIn k.block.call.surroundings p numbers index f → (q : Option Generation) →
    Q.named p.state z.at.points.name (structure_shape members leaves) ≡ q →
    Comes k.block.call.code c f (services_of p)
    (offset_aims k.block k.labels (behind p numbers taken c index (addressed_code z ++ within_code k a)))
    (flow_on k.block.call.surroundings.acts
    (flow_on k.block.call.surroundings.acts
    (V.part_designated k.around z.at.points.name (structure_shape members leaves) (whole_structure leaves) []
    k.block.call.surroundings.acts p.state)
    (λ d. give d.name))
    (within_area k.around a))
unfolding give
given_by k x n members leaves a p numbers taken c index f z line l paid there None none =
    let w = k.block.call.surroundings in
    let code = k.block.call.code in
    let y = behind p numbers taken c index (addressed_code z ++ within_code k a) in
    let first = addressed_code z in
    let n0 = size_append first (within_code k a) in
    let aims = offset_aims k.block k.labels y in
    let named' : V.Designated → Meaning Name = λ d. give d.name in
    let rest = behind_found k.around members leaves z.at.points.name in
    let closed = before_closed w.acts rest (before_closed w.acts named' (before_closed w.acts (within_area k.around a)
    (offset_closed k.block k.labels y))) in
    let part = V.part_designated k.around z.at.points.name (structure_shape members leaves) (whole_structure leaves) []
    w.acts p.state in
    let most = z.given.ends.most in
    comes_on w.acts (flow_on w.acts part named') (within_area k.around a)
    (comes_on w.acts part named'
    (subst (λ flow. Comes code c f (services_of p) (before code (before code aims w.acts (within_area k.around a))
    w.acts named') flow)
    (sym (part_missing k.around p.state z.at.points.name members leaves w.acts none))
    (comes_on w.acts (R.error {R = Generation} k.around 101 w.acts p.state) rest
    (missing_ends closed z k.around c f none line (omega (arith, paid, n0, most)) (front_of first (within_code k a) l)
    there))))
given_by k x n members leaves a p numbers taken c index f z line l paid there (Some g) some =
    let w = k.block.call.surroundings in
    let code = k.block.call.code in
    let o = z.among in
    let is = z.given.structure in
    let name = z.at.points.name in
    let y = behind p numbers taken c index (addressed_code z ++ within_code k a) in
    let named' : V.Designated → Meaning Name = λ d. give d.name in
    let s = structure_at p is.signature name members leaves g (f first_base).machine.memory
    (there first_base).at.storage is.plain
    (shapes_remain o.later.remains is.signature (structure_shape members leaves) is.numbered) some in
    subst (λ flow. Comes code c f (services_of p) (offset_aims k.block k.labels y)
    (flow_on w.acts (flow_on w.acts flow named') (within_area k.around a)))
    (sym (part_found k.around p.state name members leaves s.extent s.values w.acts s.named))
    (found_comes k x n members leaves a p numbers taken c index f z line l paid there s
    (offset_within z.given.area.known.serial name) refl)

pub address_gives :
    (k : Setting) (p n : Spot) (members : List Y.Member) (leaves : List Y.Leaf) (a : Spot) →
    IsAddressed k p n members leaves a → Gives k 0 (offset_of p n leaves a)
unfolding V.offset V.pointer ◌>>=◌
address_gives k x n members leaves a given p numbers taken c index f o line registers l paid there =
    let e = k.block.environment in
    let w = k.block.call.surroundings in
    let code = k.block.call.code in
    let is = given.structure in
    let source = offset_of x n leaves a in
    let coded' = ap (λ j. offset_code e (in_registers j taken) source) given.none
    ∙ address_coded e taken x n members leaves is.signature a is.pointer.known.declared is.declared is.table
    is.pointer.own given.area.own in
    let z : Addressing k x n members leaves a p numbers = record {
      given = given;
      among = o;
      at = pointer_in x is.pointer o f there;
    } in
    let declared = ap (λ u. declared_variable u (based_of n)) given.same ∙ is.meant in
    let named' : V.Designated → Meaning Name = λ d. give d.name in
    let size = ap (λ u. size_of u) coded' in
    subst (λ part. Comes code c f (services_of p)
    (offset_aims k.block k.labels (behind p numbers taken c index part))
    (V.offset k.around source w.acts p.state)) (sym coded')
    (subst (λ flow. Comes code c f (services_of p)
    (offset_aims k.block k.labels (behind p numbers taken c index (addressed_code z ++ within_code k a)))
    (flow_on w.acts (flow_on w.acts flow named') (within_area k.around a)))
    (sym (through_is k.around n members leaves w.acts z.at.points declared))
    (given_by k x n members leaves a p numbers taken c index f z line (subst (Linked w.links code index) coded' l)
    (omega (arith, paid, size)) there
    (Q.named p.state z.at.points.name (structure_shape members leaves)) refl))
