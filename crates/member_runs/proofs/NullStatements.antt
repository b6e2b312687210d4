-- The statement that assigns a member NULL does what it means.
use Rattle.std.proofs.Common.{◌≡◌, ℕ, ◌+◌, ◌<◌, ◌≤◌, List, [], ◌++◌, Option, None, Some, refl, sym, ap, ◌∙◌, subst}
use Rattle.std.proofs.Common.{arith}
use Rattle.pli_typing.specs.TypedTree as Y
use Rattle.pli_meaning.specs.BasicValues.{BasicPointer, NullName}
use Rattle.pli_meaning.specs.Contents.{Generation}
use Rattle.pli_meaning.specs.Control.{Label, Meaning, act, flow_on, give, ◌>>=◌, ◌>>◌}
use Rattle.pli_meaning.specs.Evaluating as V
use Rattle.pli_meaning.specs.Executing as M
use Rattle.pli_meaning.specs.Placing as P
use Rattle.pli_meaning.specs.Raising as R
use Rattle.pli_meaning.specs.Raising.{Around, at_line}
use Rattle.pli_meaning.specs.StorageState as Q
use Rattle.pli_meaning.specs.StorageState.{State}
use Rattle.pli_meaning.specs.World.{World, counted}
use Rattle.pli_coding.specs.Allocating.{act_code}
use Rattle.pli_coding.specs.Assembly.{size_of}
use Rattle.activation_relation.specs.Layers.{Point, services_of}
use Rattle.activation_relation.proofs.Remaining.{shapes_remain}
use Rattle.run_steps.specs.Items.{Linked}
use Rattle.run_steps.proofs.Jumps.{back_of, front_of}
use Rattle.run_steps.proofs.Linking.{size_append}
use Rattle.run_steps.specs.Owing.{owing}
use Rattle.run_steps.proofs.Owing.{comes_owing, done_owing, owing_closed}
use Rattle.run_steps.specs.Reach.{Comes, Family, before, cost, reached}
use Rattle.run_steps.proofs.Reach.{before_closed, comes_on, onward, reach_then, reached_holds}
use Rattle.run_steps.specs.Temporaries.{nothing}
use Rattle.block_runs.specs.Machines.{AreIn, IsIn, acted}
use Rattle.block_runs.proofs.PointActs.{act_comes}
use Rattle.block_runs.proofs.PointGrounds.{in_known, point_frame}
use Rattle.program_runs.specs.Statements.{Block, Does, IsAmong, size_in, statement_aims}
use Rattle.program_runs.proofs.Statements.{acted_among, goes_here, statement_closed}
use Rattle.expression_runs.specs.Variables.{Spot}
use Rattle.expression_runs.proofs.VariablePoints.{first_base}
use Rattle.area_runs.proofs.BasedCode.{name_at_place}
use Rattle.area_runs.proofs.ChangedPoints.{generation_world}
use Rattle.locator_runs.proofs.PointerPoints.{PointerAt, pointer_in}
use Rattle.member_runs.specs.NullMembers.{IsNulling, nulling}
use Rattle.member_runs.specs.Members.{member_of, member_part, structure_shape}
use Rattle.member_runs.proofs.Links.{given_code, given_reaches}
use Rattle.member_runs.proofs.MemberAssignments.{assigned_found}
use Rattle.member_runs.proofs.MemberCode.{found_code}
use Rattle.member_runs.proofs.MemberMeaning.{behind_found, part_missing, through_is}
use Rattle.member_runs.proofs.MemberPoints.{structure_at}
use Rattle.member_runs.proofs.MemberPuts.{behind_put, designated_at, put_among}
use Rattle.member_runs.proofs.MemberReads.{missing_ends}
use Rattle.member_runs.proofs.NullLinks.{null_code, null_coded, nulls_code, nulls_reach}
use Rattle.member_runs.proofs.Waiting.{HasName}

-- ---- what it means

abbrev putting : Around → (p n : Spot) → (member : ℕ) → Meaning (Unit {0})
putting around p n member =
    (V.stored_value around (Y.StoredPointer Y.NullPointer)) >>= (λ v. M.assigned around (member_of p n member) v)

put_is :
    (around : Around) (s : State) (p n : Spot) (member k : ℕ) →
    putting around p n member k s
    ≡ flow_on k (V.designated around (member_of p n member) k s) (λ d. P.element_stored d (BasicPointer NullName))
unfolding V.stored_value V.pointer M.assigned ◌>>=◌ give
put_is around s p n member k = refl

-- ---- the statement

-- by what lives there
goes_by :
    (k : Block) (labels : List Label) (x n : Spot) (members : List Y.Member) (leaves : List Y.Leaf)
    (member line index left' most : ℕ) (h : IsNulling k labels x n members leaves member line index most)
    (acts wanted debt i : ℕ) (p : Point) (numbers : ℕ → ℕ) (o : IsAmong k numbers p) (j : ℕ) (f : Family) →
    acts ≤ p.state.world.acts → p.control.line ≡ line →
    size_of (null_code (name_at_place k.environment x) h.structure.signature member)
    ≤ wanted + debt →
    size_of (null_code (name_at_place k.environment x) h.structure.signature member)
    + 18 < cost k.call.code →
    j + size_of (null_code (name_at_place k.environment x) h.structure.signature member)
    ≡ i →
    Linked k.call.surroundings.links k.call.code j
    (null_code (name_at_place k.environment x) h.structure.signature member) →
    AreIn k.call.surroundings p numbers j f → (t : PointerAt k x h.structure.pointer p)
    (q : Option Generation) → Q.named p.state t.points.name (structure_shape members leaves) ≡ q →
    Comes k.call.code 0 f (services_of p) (owing k.call.code debt (statement_aims k labels acts i wanted left'))
    (flow_on k.call.surroundings.acts
    (V.part_designated (at_line k.around line) t.points.name (structure_shape members leaves) (member_part member) []
    k.call.surroundings.acts p.state) (λ d. P.element_stored d (BasicPointer NullName)))
goes_by k labels x n members leaves member line index left' most h acts wanted debt i p numbers o j f since same paid
    afford end l there t None none =
    let w = k.call.surroundings in
    let code = k.call.code in
    let is = h.structure in
    let around' = at_line k.around line in
    let owed = owing code debt (statement_aims k labels acts i wanted left') in
    let put : V.Designated → Meaning (Unit {0}) = λ d. P.element_stored d (BasicPointer NullName) in
    let rest = behind_found around' members leaves member t.points.name in
    let closed = owing_closed code debt (statement_aims k labels acts i wanted left') in
    let closed' = before_closed w.acts rest (before_closed w.acts put closed) in
    let waits = nulls_code in
    let finds = found_code (name_at_place k.environment x) is.signature member in
    let n0 = size_append waits (finds ++ given_code) in
    let n1 = size_append finds given_code in
    let z : HasName k p numbers = record {
      among = o;
      name = NullName;
      fits = tt;
      layer = h.layer;
      others = h.others;
      free = record { newest = o.later.layers ∙ h.layers; words = h.words; waits = h.waits };
    } in
    let frame = point_frame o.stands o.image in
    let r = nulls_reach z (record { is = refl }) 0 f (front_of waits (finds ++ given_code) l) there in
    comes_on w.acts (V.part_designated around' t.points.name (structure_shape members leaves) (member_part member) []
    w.acts p.state) put
    (subst (Comes code 0 f (services_of p) (before code owed w.acts put))
    (sym (part_missing around' p.state t.points.name members leaves member w.acts none))
    (comes_on w.acts (R.error {R = Generation} around' 101 w.acts p.state) rest
    (onward closed' r (λ g at.
    missing_ends closed' is member h.own.few h.ends around' o t frame (0 + size_of waits) g none same
    (omega (arith, afford, n0, n1)) (front_of finds given_code (back_of waits (finds ++ given_code) l))
    (λ b. let e = at b in in_known {t = λ j'. 0} {rs = nothing} frame o.image.parts (record {
      pc = e.pc;
      holds = record {
        body = record {
          services = e.holds.body.services;
          registers = e.holds.body.registers;
          bytes = e.holds.body.bytes;
          memory = e.holds.body.memory.0;
        };
        regs = tt;
      };
    }))))))
goes_by k labels x n members leaves member line index left' most h acts wanted debt i p numbers o j f since same paid
    afford end l there t (Some g) some =
    let w = k.call.surroundings in
    let code = k.call.code in
    let is = h.structure in
    let around' = at_line k.around line in
    let aims = statement_aims k labels acts i wanted left' in
    let memory = (f first_base).machine.memory in
    let stored = (there first_base).at.storage in
    let s = structure_at p is.signature t.points.name members leaves g memory stored is.plain
    (shapes_remain o.later.remains is.signature (structure_shape members leaves) is.numbered) some in
    let v = BasicPointer NullName in
    let q = behind_put s member v in
    let waits = nulls_code in
    let rest = found_code (name_at_place k.environment x) is.signature member ++ given_code in
    let n0 = size_append waits rest in
    let z : HasName k p numbers = record {
      among = o;
      name = NullName;
      fits = tt;
      layer = h.layer;
      others = h.others;
      free = record { newest = o.later.layers ∙ h.layers; words = h.words; waits = h.waits };
    } in
    let r1 = nulls_reach z (record { is = refl }) 0 f (front_of waits rest l) there in
    let r2 = given_reaches is h.own z t s (0 + size_of waits) (reached r1) (back_of waits rest l)
    (reached_holds r1) in
    let r = reach_then r1 r2 in
    let here : j + size_of waits + size_of rest ≡ i = omega (arith, end, n0) in
    let stays = generation_world t.points.name (P.with_element (designated_at s member) v) p.state in
    let more : acts ≤ q.state.world.acts = subst (λ (e : World). acts ≤ e.acts) (sym stays) since in
    subst (λ flow. Comes code 0 f (services_of p) (owing code debt aims) flow)
    (sym (assigned_found around' s w.acts v h.own))
    (record {
      to = λ early.
          done_owing (statement_closed k labels acts i wanted left') debt wanted (omega (arith, paid, n0)) r tt q.state
          (λ g' at'. goes_here acts wanted g' more (put_among s member v o)
          (λ b. subst (λ e. IsIn w q numbers e b (g' b)) here (at' b)));
    })

pub null_does :
    (k : Block) (labels : List Label) (x n : Spot) (members : List Y.Member) (leaves : List Y.Leaf)
    (member line index left' most : ℕ) → IsNulling k labels x n members leaves member line index most →
    Does k labels (nulling x n member line) index left'
unfolding M.statement ◌>>◌
null_does k labels x n members leaves member line index left' most h p numbers c wanted f o paid there =
    let w = k.call.surroundings in
    let code = k.call.code in
    let e = k.environment in
    let is = h.structure in
    let stmt = nulling x n member line in
    let around' = at_line k.around line in
    let one = act_code line in
    let links = null_code (name_at_place e x) is.signature member in
    let coded = null_coded e x n members leaves member is.signature line h.own is.pointer.known.declared is.pointer.own
    is.declared is.table in
    let n0 = size_append one links in
    let n1 = ap (λ u. size_of u) coded in
    let l = subst (Linked w.links code index) coded h.statement in
    let debt = size_of links in
    let acts = p.state.world.acts in
    let aims = statement_aims k labels acts (index + size_in k stmt) wanted left' in
    let next' : Unit {0} → Meaning (Unit {0}) = λ u. putting around' x n member in
    let all = h.paid in
    let most' = h.ends.most in
    comes_owing debt (M.statement k.around stmt w.acts p.state)
    (comes_on w.acts (act counted w.acts p.state) next'
    (act_comes (before_closed w.acts next' (owing_closed code debt aims)) line (c + debt) 0 f (o.stands, o.image)
    (h.act.line_fits, h.act.acts, omega (arith, paid, n0, n1)) (front_of one links l) there
    (λ g less at.
    let p' = acted line p in
    let o' = acted_among line o less in
    let t = pointer_in x is.pointer o' g at in
    let put : V.Designated → Meaning (Unit {0}) = λ d. P.element_stored d (BasicPointer NullName) in
    subst (λ flow. Comes code 0 g (services_of p') (owing code debt aims) flow)
    (sym (put_is around' p'.state x n member w.acts
    ∙ ap (λ flow. flow_on w.acts flow put) (through_is around' n members leaves member w.acts t.points is.meant)))
    (goes_by k labels x n members leaves member line index left' most h acts wanted debt (index + size_in k stmt) p'
    numbers o' (index + size_of one) g (omega arith) refl (omega arith) (omega (arith, all, most', n0, n1))
    (omega (arith, n0, n1)) (back_of one links l) at t
    (Q.named p'.state t.points.name (structure_shape members leaves)) refl))))
