-- The statement ALLOCATE of a structure does what it means.
use Rattle.std.proofs.Common.{◌≡◌, ℕ, suc, ◌+◌, ◌<◌, ◌≤◌, List, [], ◌∷◌, ◌++◌, Option, None, Some, refl, sym, ap}
use Rattle.std.proofs.Common.{◌∙◌, subst, arith}
use Rattle.pli_language.specs.declared.condition.Condition.TheVariants as C
use Rattle.pli_meaning.specs.Codes.{area_code}
use Rattle.pli_meaning.specs.Contents.{footprint_of, gap}
use Rattle.pli_meaning.specs.Control.{Label, Meaning, act, flow_on, ◌>>◌}
use Rattle.pli_meaning.specs.Executing as M
use Rattle.pli_meaning.specs.Placing as P
use Rattle.pli_meaning.specs.Raising as R
use Rattle.pli_meaning.specs.Raising.{at_line}
use Rattle.pli_meaning.specs.StorageState as Q
use Rattle.pli_meaning.specs.StorageState.{ancestor, binding_in, newest_height, standing_for}
use Rattle.pli_meaning.specs.World.{counted}
use Rattle.pli_coding.specs.Allocating.{act_code}
use Rattle.pli_coding.specs.Assembly.{size_of}
use Rattle.activation_relation.specs.Layers.{Point, services_of}
use Rattle.activation_relation.specs.ServiceLaws.{IsSystem}
use Rattle.run_steps.specs.Items.{Linked}
use Rattle.run_steps.proofs.Jumps.{back_of, front_of}
use Rattle.run_steps.proofs.Linking.{size_append}
use Rattle.run_steps.specs.Owing.{owing}
use Rattle.run_steps.proofs.Owing.{comes_owing, done_owing, owing_closed}
use Rattle.run_steps.specs.Reach.{Comes, Family, before, cost}
use Rattle.run_steps.proofs.Reach.{before_closed, comes_on}
use Rattle.block_runs.specs.Machines.{AreIn, IsIn, acted}
use Rattle.block_runs.proofs.PointActs.{act_comes}
use Rattle.program_runs.specs.Statements.{Block, Does, IsAmong, size_in, statement_aims}
use Rattle.program_runs.proofs.Statements.{acted_among, goes_here, statement_closed}
use Rattle.expression_runs.specs.Variables.{Spot, variable_of}
use Rattle.variable_runs.specs.Known.{binding_for}
use Rattle.pli_typing.specs.TypedTree as Y
use Rattle.area_runs.specs.Allocations.{HasArea, allocation}
use Rattle.area_runs.proofs.AllocationMeaning.{all_allocated, allocate_of, locator_is, no_more, set_locator}
use Rattle.area_runs.proofs.AreaPoints.{AreaAt, area_lives}
use Rattle.locator_runs.proofs.PointerPoints.{PointerAt, pointer_in}
use Rattle.member_runs.specs.Allocations.{IsAllocation}
use Rattle.member_runs.proofs.NewAreas.{new_structure}
use Rattle.member_runs.proofs.NewCode.{allocation_coded}
use Rattle.member_runs.proofs.NewMeaning.{allocations_are, place_again, placing_found, placing_full}
use Rattle.member_runs.proofs.NewPoints.{allocated_among, allocated_point, allocated_state, points_then}
use Rattle.member_runs.proofs.NewRuns.{Given, found_reaches, full_comes, split_whole, whole_code}

-- what the area stands for
area_stands :
    {k : Block} {numbers : ℕ → ℕ} {p : Point} {x : Spot} (is : HasArea k x) → IsAmong k numbers p →
    standing_for p.state (variable_of x) ≡ Some (binding_for x is.declared is.known.serial)
area_stands {x = x} is o =
    ap (λ xs. binding_in (ancestor xs (newest_height xs) x.level) x.index) o.later.activations ∙ is.known.binding

-- whether it has a gap or not
placing_by :
    (k : Block) (labels : List Label) (n p x : Spot) (members : List Y.Member) (leaves : List Y.Leaf)
    (line index left' most : ℕ) (h : IsAllocation k labels n p x members leaves line index most) (acts wanted debt i :
    ℕ) (q : Point) (numbers : ℕ → ℕ)
    (o : IsAmong k numbers q) (j : ℕ) (f : Family) → acts ≤ q.state.world.acts → q.control.line ≡ line →
    size_of (whole_code h.structure h.area) ≤ wanted + debt →
    size_of (whole_code h.structure h.area) + 18 < cost k.call.code → j + size_of (whole_code h.structure h.area) ≡ i →
    Linked k.call.surroundings.links k.call.code j (whole_code h.structure h.area) →
    AreIn k.call.surroundings q numbers j f → (a : PointerAt k p h.structure.pointer q) (at : AreaAt k x h.area q)
    (gap' : Option ℕ) → gap h.area.capacity (footprint_of (new_structure members leaves)) at.living.placed ≡ gap' →
    Comes k.call.code 0 f (services_of q)
    (before k.call.code
    (before k.call.code (owing k.call.code debt (statement_aims k labels acts i wanted left'))
    k.call.surroundings.acts (no_more (at_line k.around line)))
    k.call.surroundings.acts (set_locator (at_line k.around line) p h.area.known.serial))
    (P.placing (suc h.turns) (at_line k.around line) h.area.known.serial (new_structure members leaves)
    k.call.surroundings.acts q.state)
placing_by k labels n p x members leaves line index left' most h acts wanted debt i q numbers o j f since same paid
    afford end l
    there a at None none =
    let w = k.call.surroundings in
    let g = new_structure members leaves in
    let code = k.call.code in
    let around' = at_line k.around line in
    let serial = h.area.known.serial in
    let owed = owing code debt (statement_aims k labels acts i wanted left') in
    let again = place_again g around' h.turns serial in
    let closed = before_closed w.acts again (before_closed w.acts (set_locator around' p serial)
    (before_closed w.acts (no_more around')
    (owing_closed code debt (statement_aims k labels acts i wanted left')))) in
    let z : Given k p n x members leaves q numbers = record {
      is = h.structure;
      new = h.new;
      area = h.area;
      words = h.words;
      waits = h.waits;
      among = o;
    } in
    subst (λ flow. Comes code 0 f (services_of q)
    (before code (before code owed w.acts (no_more around')) w.acts (set_locator around' p serial)) flow)
    (sym (placing_full g around' h.turns serial w.acts (record {
      capacity = h.area.capacity;
      placed = at.living.placed;
    })
    q.state at.some at.area none))
    (comes_on w.acts (R.raised around' C.Area area_code w.acts q.state) again
    (full_comes closed z at around' h.ends.routines (
      subst (λ xs. IsSystem (Q.force xs C.Area)) (sym o.later.activations) h.full,
      subst (λ xs. IsSystem (Q.force xs C.Error)) (sym o.later.activations) h.ends.error,
    ) none 0 f (omega (arith, afford), h.ends.acts) same l there))
placing_by k labels n p x members leaves line index left' most h acts wanted debt i q numbers o j f since same paid
    afford end l
    there a at (Some offset) free =
    let w = k.call.surroundings in
    let g = new_structure members leaves in
    let code = k.call.code in
    let around' = at_line k.around line in
    let serial = h.area.known.serial in
    let aims = statement_aims k labels acts i wanted left' in
    let owed = owing code debt aims in
    let z : Given k p n x members leaves q numbers = record {
      is = h.structure;
      new = h.new;
      area = h.area;
      words = h.words;
      waits = h.waits;
      among = o;
    } in
    let u = allocated_point g serial offset q a.points in
    let r = found_reaches z a at offset free 0 f l there in
    subst (λ flow. Comes code 0 f (services_of q)
    (before code (before code owed w.acts (no_more around')) w.acts (set_locator around' p serial)) flow)
    (sym (placing_found g around' h.turns serial w.acts offset
    (record { capacity = h.area.capacity; placed = at.living.placed }) q.state at.some at.area free))
    (record {
      to = λ early. subst (λ flow. Comes code 0 f (services_of q) (before code owed w.acts (no_more around')) flow)
          (sym (locator_is around' serial offset w.acts (points_then g serial offset a.points)))
          (record {
            to = λ early. subst (λ flow. Comes code 0 f (services_of q) owed flow)
                (sym (all_allocated around' w.acts (allocated_state g serial offset q.state a.points)))
                (record {
                  to = λ early.
                      done_owing (statement_closed k labels acts i wanted left') debt wanted (omega (arith, paid)) r tt
                      u.state
                      (λ g' at'. goes_here acts wanted g' since (allocated_among g serial offset a.points o)
                      (λ b. subst (λ y. IsIn w u numbers y b (g' b)) end (at' b)));
                });
          });
    })

pub allocate_does :
    (k : Block) (labels : List Label) (n p x : Spot) (members : List Y.Member) (leaves : List Y.Leaf)
    (line index left' most : ℕ) → IsAllocation k labels n p x members leaves line index most → Does k labels
    (allocation n p x line) index left'
unfolding M.statement ◌>>◌
allocate_does k labels n p x members leaves line index left' most h q numbers c wanted f o paid there =
    let w = k.call.surroundings in
    let g = new_structure members leaves in
    let code = k.call.code in
    let e = k.environment in
    let stmt = allocation n p x line in
    let around' = at_line k.around line in
    let one = act_code line in
    let is = h.structure in
    let whole' = whole_code is h.area in
    let coded = allocation_coded e n p x members leaves line is.signature h.new is.pointer.known.declared is.declared
    is.table
    is.pointer.own h.area.own
    ∙ ap (λ u. one ++ u) (split_whole is h.area) in
    let n0 = size_append one whole' in
    let n1 = ap (λ u. size_of u) coded in
    let l = subst (Linked w.links code index) coded h.statement in
    let debt = size_of whole' in
    let acts = q.state.world.acts in
    let aims = statement_aims k labels acts (index + size_in k stmt) wanted left' in
    let owed = owing code debt aims in
    let closed = owing_closed code debt aims in
    let next' : Unit {0} → Meaning (Unit {0}) = λ u. P.allocations around' (allocate_of n p x ∷ []) in
    let most' = h.ends.most in
    comes_owing debt (M.statement k.around stmt w.acts q.state)
    (comes_on w.acts (act counted w.acts q.state) next'
    (act_comes (before_closed w.acts next' closed) line (c + debt) 0 f (o.stands, o.image)
    (h.act.line_fits, h.act.acts, omega (arith, paid, n0, n1)) (front_of one whole' l) there
    (λ g' less at'.
    let q' = acted line q in
    let o' = acted_among line o less in
    let a = pointer_in p is.pointer o' g' at' in
    let area = area_lives x h.area o' in
    let serial = h.area.known.serial in
    subst (λ flow. Comes code 0 g' (services_of q') owed flow)
    (sym (allocations_are around' n p x members leaves h.area.declared serial w.acts q'.state is.meant (area_stands
    h.area o')))
    (comes_on w.acts
    (flow_on w.acts (P.placing around'.turns around' serial g w.acts q'.state) (set_locator around' p serial))
    (no_more around')
    (comes_on w.acts (P.placing around'.turns around' serial g w.acts q'.state) (set_locator around' p serial)
    (subst (λ turns. Comes code 0 g' (services_of q')
    (before code (before code owed w.acts (no_more around')) w.acts (set_locator around' p serial))
    (P.placing turns around' serial g w.acts q'.state)) (sym h.some)
    (placing_by k labels n p x members leaves line index left' most h acts wanted debt (index + size_in k stmt) q'
    numbers o'
    (index + size_of one) g' (omega arith) refl (omega arith) (omega (arith, most', n0, n1)) (omega (arith, n0, n1))
    (back_of one whole' l) at' a area
    (gap h.area.capacity (footprint_of g) area.living.placed) refl)))))))
