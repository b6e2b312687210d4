-- ALLOCATE of a CONTROLLED number does what it means.
use Rattle.std.proofs.Common.{◌≡◌, ℕ, suc, ◌+◌, ◌*◌, ◌^◌, ◌<◌, ◌≤◌, List, [], ◌∷◌, ◌++◌, Option, None, Some, refl, sym}
use Rattle.std.proofs.Common.{ap, ◌∙◌, subst, arith, true}
use Rattle.rv_meaning.specs.declared.instr.Instr.{Instr}
use Rattle.pli_typing.specs.TypedTree as Y
use Rattle.pli_meaning.specs.Codes.{heap_full_code}
use Rattle.pli_meaning.specs.Contents.{footprint_of, gap}
use Rattle.pli_meaning.specs.Control.{Flow, Label, Meaning, Normal, act, flow_on, ◌>>◌}
use Rattle.pli_meaning.specs.Executing as M
use Rattle.pli_meaning.specs.Placing as P
use Rattle.pli_meaning.specs.Raising as R
use Rattle.pli_meaning.specs.Raising.{Around, at_line}
use Rattle.pli_meaning.specs.StorageState.{heap_capacity, heap_serial}
use Rattle.pli_meaning.specs.World.{counted}
use Rattle.pli_serving.specs.ControlledServices as K
use Rattle.pli_coding.specs.Allocating.{act_code}
use Rattle.pli_coding.specs.Assembly.{Code, size_of}
use Rattle.storage_relation.specs.Controlled.{Variable}
use Rattle.activation_relation.specs.Layers.{Point, services_of}
use Rattle.activation_relation.specs.Points.{Surroundings}
use Rattle.run_steps.specs.Engine.{Base}
use Rattle.run_steps.specs.Items.{Linked}
use Rattle.run_steps.proofs.Jumps.{back_of, front_of}
use Rattle.run_steps.proofs.Linking.{size_append}
use Rattle.run_steps.specs.Owing.{owing}
use Rattle.run_steps.proofs.Owing.{comes_owing, done_owing, owing_closed}
use Rattle.run_steps.specs.Reach.{Aims, Comes, Family, cost}
use Rattle.run_steps.proofs.Reach.{before_closed, comes_on}
use Rattle.block_runs.specs.Machines.{AreIn, acted}
use Rattle.block_runs.proofs.PointActs.{act_comes}
use Rattle.program_runs.specs.Statements.{Block, IsAmong, size_in}
use Rattle.program_runs.proofs.Statements.{acted_among}
use Rattle.expression_runs.specs.Variables.{Spot}
use Rattle.controlled_runs.specs.Allocations.{IsAllocation, allocation}
use Rattle.controlled_runs.specs.Lists.{DoesListed, ListsStand, controlled_of, listed_aims, number_of}
use Rattle.controlled_runs.proofs.AllocationCode.{allocated_code, allocation_coded}
use Rattle.controlled_runs.proofs.AllocationMeaning.{allocations_are, behind_placing, new_number, newest_set, no_more}
use Rattle.controlled_runs.proofs.AllocationMeaning.{heap_with, placing_found, placing_full}
use Rattle.controlled_runs.proofs.AllocationRuns.{Given, done_comes, error_ends, full_leaves, lists_pushed}
use Rattle.controlled_runs.proofs.AllocationRuns.{pushed_leaves, pushed_point}
use Rattle.controlled_runs.proofs.ListedPoints.{goes_listed, listed_closed, lists_acted, relisted_among}

first_base : Base
first_base = record { at = 0; valid = (refl, omega arith) }

-- behind its act
allocation_comes :
    {of : ℕ → Option Variable} {k : Block} {labels : List Label} {x : Spot} {line index most : ℕ} (left' : ℕ)
    (h : IsAllocation of k labels x line index most) {q : Point} {numbers : ℕ → ℕ} {i : ℕ} (o : IsAmong k numbers q)
    (lists : ListsStand of q) (acts wanted : ℕ) (f : Family) → acts ≤ q.state.world.acts →
    q.control.line ≡ line →
    size_of (allocated_code h.variable.signature (number_of k x)) + 18 < cost k.call.code →
    Linked k.call.surroundings.links k.call.code i (allocated_code h.variable.signature (number_of k x)) →
    AreIn k.call.surroundings q numbers i f →
    Comes k.call.code 0 f (services_of q)
    (owing k.call.code (size_of (allocated_code h.variable.signature (number_of k x)))
    (listed_aims of k labels acts (i + size_of (allocated_code h.variable.signature (number_of k x))) wanted left'))
    (P.allocations (at_line k.around line) (Y.AllocateControlled (controlled_of x) ∷ []) k.call.surroundings.acts
    q.state)
allocation_comes {of} {k} {labels} {x} {line} left' h {q} {numbers} {i} o lists acts wanted f since same paid l there =
    subst (λ flow. Comes code 0 f (services_of q) (owing code debt aims) flow)
    (sym (allocations_are around' x w.acts q.state h.variable.meant))
    (subst (λ turns. Goal (flow_on w.acts (flow_on w.acts (P.placing turns around' heap_serial new_number w.acts
    q.state)
    (newest_set x)) (no_more around'))) (sym h.some) (by (gap heap_capacity (footprint_of new_number) q.state.heap)
    refl))
  where
    w : Surroundings
    w = k.call.surroundings

    code : List Instr
    code = k.call.code

    around' : Around
    around' = at_line k.around line

    n : ℕ
    n = number_of k x

    signature : ℕ
    signature = h.variable.signature

    debt : ℕ
    debt = size_of (allocated_code signature n)

    aims : Aims (Unit {0})
    aims = listed_aims of k labels acts (i + debt) wanted left'

    Goal : Flow (Unit {0}) → Type 0
    Goal flow = Comes code 0 f (services_of q) (owing code debt aims) flow

    z : Given of k x q numbers
    z = record { is = h.variable; words = h.words; among = o; lists = lists }

    by :
        (g : Option ℕ) → gap heap_capacity (footprint_of new_number) q.state.heap ≡ g →
        Goal (flow_on w.acts (flow_on w.acts (P.placing (suc h.turns) around' heap_serial new_number w.acts q.state)
        (newest_set x)) (no_more around'))
    by None none =
        subst (λ flow. Goal (flow_on w.acts (flow_on w.acts flow (newest_set x)) (no_more around')))
        (sym (placing_full around' h.turns w.acts q.state none))
        (comes_on w.acts (flow_on w.acts (R.error {R = ℕ} around' heap_full_code w.acts q.state) (newest_set x))
        (no_more around')
        (comes_on w.acts (R.error {R = ℕ} around' heap_full_code w.acts q.state) (newest_set x)
        (error_ends (before_closed w.acts (newest_set x) (before_closed w.acts (no_more around')
        (owing_closed code debt aims))) z h.ends around' heap_full_code 0 f (omega arith) refl
        (λ b m stands. full_leaves z none b m stands) same (omega (arith, paid)) l there)))
    by (Some place) free =
        let u = pushed_point x n signature place q in
        let o' = relisted_among true u.state.heap u.state.controlled u.control.controlled o in
        let r = done_comes z u o' 0 f (omega arith) refl (λ b m stands. pushed_leaves z place free b m stands) l there
        in
        let lists' = lists_pushed z place free first_base (f first_base).machine.memory
        (record { storage = (there first_base).at.storage; frames = (there first_base).at.frames }) in
        subst (λ flow. Goal (flow_on w.acts (flow_on w.acts flow (newest_set x)) (no_more around')))
        (sym (placing_found around' h.turns w.acts place q.state free))
        (subst Goal (sym (behind_placing around' x w.acts place q.state))
        (record {
          to = λ early. done_owing (listed_closed of k labels acts (i + debt) wanted left') debt wanted (omega arith) r
              tt
              u.state
              (λ g' at'. goes_listed u acts wanted g' since o' lists' at');
        }))

pub allocate_does :
    (of : ℕ → Option Variable) (k : Block) (labels : List Label) (x : Spot) (line index left' most : ℕ) →
    IsAllocation of k labels x line index most → DoesListed of k labels (allocation x line) index left'
unfolding M.statement ◌>>◌
allocate_does of k labels x line index left' most h q numbers c wanted f o lists paid there =
    let w = k.call.surroundings in
    let code = k.call.code in
    let stmt = allocation x line in
    let around' = at_line k.around line in
    let one = act_code line in
    let rest = allocated_code h.variable.signature (number_of k x) in
    let coded = allocation_coded k.environment x line h.variable.signature h.variable.declared h.variable.table in
    let n0 = size_append one rest in
    let n1 = ap (λ u. size_of u) coded in
    let l = subst (Linked w.links code index) coded h.statement in
    let debt = size_of rest in
    let acts = q.state.world.acts in
    let inside = l.inside in
    let raises = h.ends.routines.linked.inside in
    let i = index + size_in k stmt in
    let aims = listed_aims of k labels acts i wanted left' in
    let next' : Unit {0} → Meaning (Unit {0}) =
    λ u. P.allocations around' (Y.AllocateControlled (controlled_of x) ∷ []) in
    let end : index + size_of one + size_of rest ≡ i = omega (arith, n0, n1) in
    comes_owing debt (M.statement k.around stmt w.acts q.state)
    (comes_on w.acts (act counted w.acts q.state) next'
    (act_comes (before_closed w.acts next' (owing_closed code debt aims)) line (c + debt) 0 f (o.stands, o.image)
    (h.act.line_fits, h.act.acts, omega (arith, paid, n0, n1)) (front_of one rest l) there
    (λ g less at'.
    let o' = acted_among line o less in
    subst (λ j. Comes code 0 g (services_of (acted line q)) (owing code debt (listed_aims of k labels acts j wanted
    left'))
    (P.allocations around' (Y.AllocateControlled (controlled_of x) ∷ []) w.acts (acted line q).state)) end
    (allocation_comes left' h o' (lists_acted q line lists) acts wanted g (omega arith) refl
    (omega (arith, inside, raises, n0, n1)) (back_of one rest l) at'))))
