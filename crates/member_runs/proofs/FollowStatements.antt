-- The statement that assigns a POINTER variable what a member holds does what it means.
use Rattle.std.proofs.Common.{◌≡◌, ℕ, ◌+◌, ◌<◌, ◌≤◌, List, Option, None, Some, refl, sym, ap, subst, arith}
use Rattle.pli_typing.specs.TypedTree as Y
use Rattle.pli_meaning.specs.BasicValues.{BasicPointer, BasicValue, Name}
use Rattle.pli_meaning.specs.Contents.{Generation, name_in}
use Rattle.pli_meaning.specs.Control.{Label, Meaning, act, give, ◌>>=◌, ◌>>◌}
use Rattle.pli_meaning.specs.Evaluating as V
use Rattle.pli_meaning.specs.Executing as M
use Rattle.pli_meaning.specs.Raising as R
use Rattle.pli_meaning.specs.Raising.{at_line}
use Rattle.pli_meaning.specs.StorageState as Q
use Rattle.pli_meaning.specs.World.{counted}
use Rattle.pli_coding.specs.Allocating.{act_code}
use Rattle.pli_coding.specs.Assembly.{size_of}
use Rattle.activation_relation.specs.Layers.{Point, services_of}
use Rattle.activation_relation.proofs.Remaining.{shapes_remain}
use Rattle.run_steps.specs.Items.{Linked}
use Rattle.run_steps.proofs.Jumps.{back_of, front_of}
use Rattle.run_steps.proofs.Linking.{size_append}
use Rattle.run_steps.specs.Owing.{owing}
use Rattle.run_steps.proofs.Owing.{comes_owing, done_owing, owing_closed}
use Rattle.run_steps.specs.Reach.{Comes, Family, before, cost}
use Rattle.run_steps.proofs.Reach.{before_closed, comes_on}
use Rattle.block_runs.specs.Machines.{AreIn, IsIn, acted}
use Rattle.block_runs.proofs.PointActs.{act_comes}
use Rattle.block_runs.proofs.PointGrounds.{point_frame}
use Rattle.program_runs.specs.Statements.{Block, Does, IsAmong, size_in, statement_aims}
use Rattle.program_runs.proofs.Statements.{acted_among, goes_here, statement_closed}
use Rattle.expression_runs.specs.Variables.{Spot, whole}
use Rattle.expression_runs.proofs.VariablePoints.{first_base}
use Rattle.area_runs.proofs.BasedCode.{name_at_place}
use Rattle.locator_runs.proofs.PointerMeaning.{putting}
use Rattle.locator_runs.proofs.PointerPoints.{PointerAt, pointed, pointed_among, pointer_in}
use Rattle.member_runs.specs.MemberPointers.{IsFollowing, following}
use Rattle.member_runs.specs.Members.{member_of, structure_shape}
use Rattle.member_runs.proofs.Follows.{follow_code, follow_coded, follow_put, follow_reaches, taken_code}
use Rattle.member_runs.proofs.MemberCode.{found_code}
use Rattle.member_runs.proofs.MemberMeaning.{behind_found, part_missing, through_is}
use Rattle.member_runs.proofs.MemberPoints.{structure_at}
use Rattle.member_runs.proofs.MemberReads.{missing_ends}
use Rattle.member_runs.proofs.NameWords as N

-- by what lives there
goes_by :
    (k : Block) (labels : List Label) (x y n : Spot) (members : List Y.Member) (leaves : List Y.Leaf)
    (member line index left' most : ℕ) (h : IsFollowing k labels x y n members leaves member line index most)
    (acts wanted debt i : ℕ) (p : Point) (numbers : ℕ → ℕ) (o : IsAmong k numbers p) (j : ℕ) (f : Family) →
    acts ≤ p.state.world.acts → p.control.line ≡ line →
    size_of (follow_code (name_at_place k.environment y) h.structure.signature member (name_at_place k.environment x))
    ≤ wanted + debt →
    size_of (follow_code (name_at_place k.environment y) h.structure.signature member (name_at_place k.environment x))
    + 18 < cost k.call.code →
    j + size_of (follow_code (name_at_place k.environment y) h.structure.signature member
    (name_at_place k.environment x)) ≡ i →
    Linked k.call.surroundings.links k.call.code j
    (follow_code (name_at_place k.environment y) h.structure.signature member (name_at_place k.environment x)) →
    AreIn k.call.surroundings p numbers j f → (u : PointerAt k y h.structure.pointer p) (q : Option Generation) →
    Q.named p.state u.points.name (structure_shape members leaves) ≡ q →
    Comes k.call.code 0 f (services_of p) (owing k.call.code debt (statement_aims k labels acts i wanted left'))
    (putting (at_line k.around line) x (Y.PointerIn (member_of y n member)) k.call.surroundings.acts p.state)
unfolding V.stored_value V.pointer ◌>>=◌
goes_by k labels x y n members leaves member line index left' most h acts wanted debt i p numbers o j f since same paid
    afford end l there u None none =
    let w = k.call.surroundings in
    let code = k.call.code in
    let is = h.structure in
    let around' = at_line k.around line in
    let owed = owing code debt (statement_aims k labels acts i wanted left') in
    let reference = member_of y n member in
    let source = Y.PointerIn reference in
    let put : BasicValue → Meaning (Unit {0}) = λ v. M.assigned around' (whole x) v in
    let value : Name → Meaning BasicValue = λ a. give (BasicPointer a) in
    let name : V.Designated → Meaning Name = λ d. give (name_in (V.value_in d)) in
    let rest = behind_found around' members leaves member u.points.name in
    let closed = owing_closed code debt (statement_aims k labels acts i wanted left') in
    let closed' = before_closed w.acts name (before_closed w.acts value (before_closed w.acts put closed)) in
    let aims = before code (before code (before code owed w.acts put) w.acts value) w.acts name in
    let finds = found_code (name_at_place k.environment y) is.signature member in
    let takes = taken_code (name_at_place k.environment x) in
    let n1 = size_append finds takes in
    comes_on w.acts (V.stored_value around' (Y.StoredPointer source) w.acts p.state) put
    (comes_on w.acts (V.pointer around' source w.acts p.state) value
    (comes_on w.acts (V.designated around' reference w.acts p.state) name
    (subst (Comes code 0 f (services_of p) aims)
    (sym (through_is around' n members leaves member w.acts u.points is.meant))
    (subst (Comes code 0 f (services_of p) aims)
    (sym (part_missing around' p.state u.points.name members leaves member w.acts none))
    (comes_on w.acts (R.error {R = Generation} around' 101 w.acts p.state) rest
    (missing_ends (before_closed w.acts rest closed') is member h.own.few h.ends around' o u
    (point_frame o.stands o.image) 0 f none same (omega (arith, afford, n1)) (front_of finds takes l) there))))))
goes_by k labels x y n members leaves member line index left' most h acts wanted debt i p numbers o j f since same paid
    afford end l there u (Some g) some =
    let w = k.call.surroundings in
    let code = k.call.code in
    let is = h.structure in
    let around' = at_line k.around line in
    let aims = statement_aims k labels acts i wanted left' in
    let memory = (f first_base).machine.memory in
    let stored = (there first_base).at.storage in
    let s = structure_at p is.signature u.points.name members leaves g memory stored is.plain
    (shapes_remain o.later.remains is.signature (structure_shape members leaves) is.numbered) some in
    let a = N.name_in s h.own memory stored in
    let t = pointer_in x h.target o f there in
    let q = pointed p t.points a.held in
    let r = follow_reaches h.target is h.own o t u s a 0 f l there in
    subst (λ flow. Comes code 0 f (services_of p) (owing code debt aims) flow)
    (sym (follow_put around' w.acts n t.points u.points s h.own a is.meant))
    (record {
      to = λ early.
          done_owing (statement_closed k labels acts i wanted left') debt wanted (omega (arith, paid)) r tt q.state
          (λ g' at'. goes_here acts wanted g' since (pointed_among t.points a.held o)
          (λ b. subst (λ z. IsIn w q numbers z b (g' b)) end (at' b)));
    })

pub follow_does :
    (k : Block) (labels : List Label) (x y n : Spot) (members : List Y.Member) (leaves : List Y.Leaf)
    (member line index left' most : ℕ) → IsFollowing k labels x y n members leaves member line index most →
    Does k labels (following x y n member line) index left'
unfolding M.statement ◌>>◌
follow_does k labels x y n members leaves member line index left' most h p numbers c wanted f o paid there =
    let w = k.call.surroundings in
    let code = k.call.code in
    let e = k.environment in
    let is = h.structure in
    let stmt = following x y n member line in
    let around' = at_line k.around line in
    let one = act_code line in
    let follows = follow_code (name_at_place e y) is.signature member (name_at_place e x) in
    let coded = follow_coded e x y n members leaves member is.signature line h.own h.target.known.declared h.target.own
    is.pointer.known.declared is.pointer.own is.declared is.table in
    let n0 = size_append one follows in
    let n1 = ap (λ u. size_of u) coded in
    let l = subst (Linked w.links code index) coded h.statement in
    let debt = size_of follows in
    let acts = p.state.world.acts in
    let aims = statement_aims k labels acts (index + size_in k stmt) wanted left' in
    let next' : Unit {0} → Meaning (Unit {0}) = λ u. putting around' x (Y.PointerIn (member_of y n member)) in
    let all = h.paid in
    let most' = h.ends.most in
    comes_owing debt (M.statement k.around stmt w.acts p.state)
    (comes_on w.acts (act counted w.acts p.state) next'
    (act_comes (before_closed w.acts next' (owing_closed code debt aims)) line (c + debt) 0 f (o.stands, o.image)
    (h.act.line_fits, h.act.acts, omega (arith, paid, n0, n1)) (front_of one follows l) there
    (λ g less at.
    let p' = acted line p in
    let o' = acted_among line o less in
    let u = pointer_in y is.pointer o' g at in
    goes_by k labels x y n members leaves member line index left' most h acts wanted debt (index + size_in k stmt) p'
    numbers o' (index + size_of one) g (omega arith) refl (omega arith) (omega (arith, all, most', n0, n1))
    (omega (arith, n0, n1)) (back_of one follows l) at u
    (Q.named p'.state u.points.name (structure_shape members leaves)) refl)))
