-- FREE of a structure does what it means.
use Rattle.std.proofs.Common.{◌≡◌, ℕ, ◌+◌, ◌<◌, ◌≤◌, List, [], ◌∷◌, Option, None, Some, refl}
use Rattle.std.proofs.Common.{sym}
use Rattle.std.proofs.Common.{ap, ◌∙◌, subst, arith}
use Rattle.rv_meaning.specs.declared.instr.Instr.{Instr}
use Rattle.pli_meaning.specs.BasicValues.{BasedName, Name, NullName, VariableName}
use Rattle.pli_meaning.specs.Codes.{no_generation_code, not_in_area_code}
use Rattle.pli_meaning.specs.Contents.{Generation, without_offset}
use Rattle.pli_meaning.specs.Control.{Flow, Label, Meaning, act, flow_on, ◌>>◌}
use Rattle.pli_meaning.specs.Executing as M
use Rattle.pli_meaning.specs.Placing as P
use Rattle.pli_meaning.specs.Raising as R
use Rattle.pli_meaning.specs.Raising.{Around, at_line}
use Rattle.pli_meaning.specs.StorageState.{named, with_area}
use Rattle.pli_meaning.specs.World.{counted}
use Rattle.pli_coding.specs.Allocating.{act_code}
use Rattle.pli_coding.specs.Assembly.{size_of}
use Rattle.activation_relation.specs.Layers.{Point, services_of}
use Rattle.activation_relation.specs.Points.{Surroundings}
use Rattle.run_steps.specs.Items.{Linked}
use Rattle.run_steps.proofs.Jumps.{back_of, front_of}
use Rattle.run_steps.proofs.Linking.{size_append}
use Rattle.run_steps.specs.Owing.{owing}
use Rattle.run_steps.proofs.Owing.{comes_owing, done_owing, owing_closed}
use Rattle.run_steps.specs.Reach.{Aims, Comes, Family, cost}
use Rattle.run_steps.proofs.Reach.{before_closed, comes_on}
use Rattle.block_runs.specs.Machines.{AreIn, acted}
use Rattle.block_runs.proofs.PointActs.{act_comes}
use Rattle.program_runs.specs.Statements.{Block, Does, IsAmong, size_in, statement_aims}
use Rattle.program_runs.proofs.Statements.{acted_among, goes_here, statement_closed}
use Rattle.expression_runs.specs.Variables.{Spot}
use Rattle.area_runs.proofs.ChangedPoints.{area_world}
use Rattle.member_freeings.proofs.FreePoints.{freed_among, freed_point, freed_services}
use Rattle.pli_typing.specs.TypedTree as Y
use Rattle.locator_runs.proofs.PointerPoints.{PointerAt, pointer_in}
use Rattle.area_freeings.specs.Freeing.{freed_by, freeing}
use Rattle.member_freeings.proofs.FreeMeaning.{behind_found, freed_is, missing_is, no_more, variable_is}
use Rattle.member_runs.specs.Members.{structure_shape}
use Rattle.member_freeings.specs.Freeing.{IsFreeing}
use Rattle.member_freeings.proofs.FreeCode.{freeing_coded}
use Rattle.member_freeings.proofs.FreeMeaning.{free_means}
use Rattle.member_freeings.proofs.FreeRuns.{Given, done_comes, error_ends, freed_leaves, missing_leaves}
use Rattle.member_freeings.proofs.FreeRuns.{variable_leaves}
use Rattle.member_freeings.proofs.FreeRuns.{whole_code}

-- behind its act
freeing_comes :
    {k : Block} {labels : List Label} {p n : Spot} {members : List Y.Member} {leaves : List Y.Leaf}
    {line index most : ℕ} (left' : ℕ) (h : IsFreeing k labels p n members leaves line index most) {q : Point} {numbers
    : ℕ → ℕ} {i : ℕ} (o : IsAmong k numbers q)
    (a : PointerAt k p h.structure.pointer q) (acts wanted : ℕ) (f : Family) → acts ≤ q.state.world.acts →
    q.control.line ≡ line → size_of (whole_code h.structure) + 18 < cost k.call.code →
    Linked k.call.surroundings.links k.call.code i (whole_code h.structure) → AreIn k.call.surroundings q numbers i f →
    Comes k.call.code 0 f (services_of q)
    (owing k.call.code (size_of (whole_code h.structure))
    (statement_aims k labels acts (i + size_of (whole_code h.structure)) wanted left'))
    (P.freeings (at_line k.around line) (freed_by p n ∷ []) k.call.surroundings.acts q.state)
freeing_comes {k} {labels} {p} {n} {members} {leaves} {line} left' h {q} {numbers} {i} o a acts wanted f since same
    paid l there =
    subst (λ flow. Comes code 0 f (services_of q) (owing code debt aims) flow)
    (sym (free_means around' n members leaves w.acts a.points h.structure.meant))
    (by a.points.name refl (named q.state a.points.name (structure_shape members leaves)) refl)
  where
    w : Surroundings
    w = k.call.surroundings

    code : List Instr
    code = k.call.code

    around' : Around
    around' = at_line k.around line

    debt : ℕ
    debt = size_of (whole_code h.structure)

    aims : Aims (Unit {0})
    aims = statement_aims k labels acts (i + debt) wanted left'

    z : Given k p n members leaves q numbers
    z = let small' = l.small' in record { is = h.structure; among = o; points = a; small = omega (arith, small') }

    flow_by : Name → Option Generation → Flow (Unit {0})
    flow_by m g =
        flow_on w.acts (flow_on w.acts (R.or_error around' no_generation_code g w.acts q.state) (behind_found around'
        m))
        (no_more around')

    Goal : Flow (Unit {0}) → Type 0
    Goal flow = Comes code 0 f (services_of q) (owing code debt aims) flow

    missing : (m : Name) → named q.state a.points.name (structure_shape members leaves) ≡ None → Goal (flow_by m None)
    missing m none =
        subst Goal (sym (missing_is around' w.acts m q.state))
        (comes_on w.acts (flow_on w.acts (R.error {R = Generation} around' no_generation_code w.acts q.state)
        (behind_found around' m)) (no_more around')
        (comes_on w.acts (R.error {R = Generation} around' no_generation_code w.acts q.state) (behind_found around' m)
        (error_ends (before_closed w.acts (behind_found around' m) (before_closed w.acts (no_more around')
        (owing_closed code debt aims))) z h.ends around' no_generation_code 0 f (omega arith) refl (missing_leaves z
        none)
        same (omega (arith, paid)) l there)))

    by :
        (m : Name) → a.points.name ≡ m → (g : Option Generation) → named q.state a.points.name (structure_shape
        members leaves) ≡ g →
        Goal (flow_by m g)
    by m e None none = missing m none
    by NullName e (Some g) lives =
        absurd (nothing_null (sym (ap (λ u. named q.state u (structure_shape members leaves)) e) ∙ lives))
      where
        nothing_null : ◌≡◌ {A = Option Generation} None (Some g) → ⊥
        nothing_null e = cc e
    by (VariableName serial) e (Some g) lives =
        subst Goal (sym (variable_is around' w.acts serial g q.state))
        (comes_on w.acts (R.error {R = Unit {0}} around' not_in_area_code w.acts q.state) (no_more around')
        (error_ends (before_closed w.acts (no_more around') (owing_closed code debt aims)) z h.ends around'
        not_in_area_code 0 f (omega arith) refl
        (variable_leaves z serial g e (sym (ap (λ u. named q.state u (structure_shape members leaves)) e) ∙ lives))
        same (omega (
          arith,
          paid,
        )) l there))
    by (BasedName area offset) e (Some g) lives =
        let r = done_comes z (with_area area (without_offset offset) q.state) 0 f (freed_services area offset q)
        (freed_leaves z area offset g e (sym (ap (λ u. named q.state u (structure_shape members leaves)) e) ∙ lives))
        l there in
        subst Goal (sym (freed_is around' w.acts area offset g q.state))
        (record {
          to = λ early.
              done_owing (statement_closed k labels acts (i + debt) wanted left') debt wanted (omega arith) r tt
              (freed_point area offset q).state
              (λ g' at'. goes_here acts wanted g' (since_of area offset) (freed_among area offset o) at');
        })
      where
        since_of : (m x : ℕ) → acts ≤ (freed_point m x q).state.world.acts
        since_of m x = subst (λ u. acts ≤ u) (sym (ap (λ u. u.acts) (area_world m (without_offset x) q.state))) since

pub free_does :
    (k : Block) (labels : List Label) (p n : Spot) (members : List Y.Member) (leaves : List Y.Leaf)
    (line index left' most : ℕ) → IsFreeing k labels p n members leaves line index most → Does k labels (freeing p n
    line) index left'
unfolding M.statement ◌>>◌
free_does k labels p n members leaves line index left' most h q numbers c wanted f o paid there =
    let w = k.call.surroundings in
    let code = k.call.code in
    let stmt = freeing p n line in
    let around' = at_line k.around line in
    let one = act_code line in
    let rest = whole_code h.structure in
    let coded = freeing_coded k.environment p n members leaves line h.structure.signature
    h.structure.pointer.known.declared h.structure.declared h.structure.table h.structure.pointer.own in
    let n0 = size_append one rest in
    let n1 = ap (λ u. size_of u) coded in
    let l = subst (Linked w.links code index) coded h.statement in
    let debt = size_of rest in
    let acts = q.state.world.acts in
    let most' = h.ends.most in
    let i = index + size_in k stmt in
    let aims = statement_aims k labels acts i wanted left' in
    let next' : Unit {0} → Meaning (Unit {0}) = λ u. P.freeings around' (freed_by p n ∷ []) in
    let end : index + size_of one + size_of rest ≡ i = omega (arith, n0, n1) in
    comes_owing debt (M.statement k.around stmt w.acts q.state)
    (comes_on w.acts (act counted w.acts q.state) next'
    (act_comes (before_closed w.acts next' (owing_closed code debt aims)) line (c + debt) 0 f (o.stands, o.image)
    (h.act.line_fits, h.act.acts, omega (arith, paid, n0, n1)) (front_of one rest l) there
    (λ g less at'.
    let o' = acted_among line o less in
    subst (λ j. Comes code 0 g (services_of (acted line q)) (owing code debt (statement_aims k labels acts j wanted
    left'))
    (P.freeings around' (freed_by p n ∷ []) w.acts (acted line q).state)) end
    (freeing_comes left' h o' (pointer_in p h.structure.pointer o' g at') acts wanted g (omega arith) refl
    (omega (arith, most', n0, n1)) (back_of one rest l) at'))))
