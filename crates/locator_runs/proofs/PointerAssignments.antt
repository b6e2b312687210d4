-- Assignments to POINTER variables do what they mean: the act, and the name that is written.
use Rattle.std.proofs.Common.{◌≡◌, ℕ, ◌+◌, List, ◌++◌, sym, ap, subst, arith}
use Rattle.pli_typing.specs.TypedTree as Y
use Rattle.pli_meaning.specs.BasicValues.{Name, NullName}
use Rattle.pli_meaning.specs.Control.{Label, Meaning, Normal, act, ◌>>◌}
use Rattle.pli_meaning.specs.Executing as M
use Rattle.pli_meaning.specs.Raising.{at_line}
use Rattle.pli_meaning.specs.World.{counted}
use Rattle.pli_coding.specs.Allocating.{act_code}
use Rattle.pli_coding.specs.Assembly.{Code, size_of}
use Rattle.pli_coding.specs.Environments.{none_taken}
use Rattle.pli_coding.specs.Expressions.{null_name}
use Rattle.pli_coding.specs.Statements.{stmt_code}
use Rattle.std.specs.Prelude.{pos}
use Rattle.activation_relation.specs.Layers.{Point, services_of}
use Rattle.run_steps.specs.Items.{Linked}
use Rattle.run_steps.proofs.Jumps.{back_of, front_of}
use Rattle.run_steps.proofs.Linking.{size_append}
use Rattle.run_steps.specs.Owing.{owing}
use Rattle.run_steps.proofs.Owing.{comes_owing, done_owing, owing_closed}
use Rattle.run_steps.specs.Reach.{Comes, Family, Reach}
use Rattle.run_steps.proofs.Reach.{before_closed, comes_on}
use Rattle.block_runs.specs.Machines.{AreIn, IsIn, acted}
use Rattle.block_runs.proofs.PointActs.{act_comes}
use Rattle.program_runs.specs.Statements.{Block, Does, HasAct, IsAmong, size_in, statement_aims}
use Rattle.program_runs.proofs.Statements.{acted_among, goes_here, statement_closed}
use Rattle.expression_runs.specs.Variables.{Spot, whole}
use Rattle.area_runs.proofs.AllocationMeaning.{pointed_state}
use Rattle.area_runs.proofs.BasedCode.{name_at_place}
use Rattle.area_runs.proofs.BasedMeaning.{Points}
use Rattle.locator_runs.specs.Pointers.{IsAssignment, IsPointer, assignment}
use Rattle.locator_runs.proofs.PointerCode.{copied_code, copy_coded, null_coded}
use Rattle.locator_runs.proofs.PointerMeaning.{copy_put, null_put, putting}
use Rattle.locator_runs.proofs.PointerPoints.{pointed, pointed_among, pointer_in}
use Rattle.locator_runs.proofs.PointerWrites.{copy_reaches, null_reaches}

-- from a point where code begins, the variable holds a name behind it
pub record Puts (k : Block) (x : Spot) (source : Y.Pointer) (line : ℕ) (code : Code) (p : Point) (numbers : ℕ → ℕ)
    (c i : ℕ) (f : Family) : Type 0
  where
    pub points : Points p.state x
    pub name : Name
    pub means :
        putting (at_line k.around line) x source k.call.surroundings.acts p.state
        ≡ Normal tt (pointed_state p.state points name)
    pub reach :
        Reach k.call.code c f (services_of p) (c + size_of code) (services_of (pointed p points name))
        (λ b y. IsIn k.call.surroundings (pointed p points name) numbers (i + size_of code) b y)

put_does :
    (k : Block) (labels : List Label) (x : Spot) (source : Y.Pointer) (line index left' : ℕ) (code : Code) →
    HasAct k line → stmt_code k.environment none_taken (assignment x source line) ≡ act_code line ++ code →
    Linked k.call.surroundings.links k.call.code index
    (stmt_code k.environment none_taken (assignment x source line)) →
    ((p : Point) (numbers : ℕ → ℕ) (c i : ℕ) (f : Family) → IsAmong k numbers p →
    Linked k.call.surroundings.links k.call.code i code → AreIn k.call.surroundings p numbers i f →
    Puts k x source line code p numbers c i f) →
    Does k labels (assignment x source line) index left'
unfolding M.statement ◌>>◌
put_does k labels x source line index left' puts act' coded statement' goes p numbers c wanted f o paid there =
    let w = k.call.surroundings in
    let code = k.call.code in
    let stmt = assignment x source line in
    let one = act_code line in
    let n0 = size_append one puts in
    let n1 = ap (λ u. size_of u) coded in
    let l = subst (Linked w.links code index) coded statement' in
    let debt = size_of puts in
    let acts = p.state.world.acts in
    let i = index + size_in k stmt in
    let aims = statement_aims k labels acts i wanted left' in
    let next' : Unit {0} → Meaning (Unit {0}) = λ u. putting (at_line k.around line) x source in
    let end : index + size_of one + size_of puts ≡ i = omega (arith, n0, n1) in
    comes_owing debt (M.statement k.around stmt w.acts p.state)
    (comes_on w.acts (act counted w.acts p.state) next'
    (act_comes (before_closed w.acts next' (owing_closed code debt aims)) line (c + debt) 0 f (o.stands, o.image)
    (act'.line_fits, act'.acts, omega (arith, paid, n0, n1)) (front_of one puts l) there
    (λ g less at.
    let o' = acted_among line o less in
    let z = goes (acted line p) numbers 0 (index + size_of one) g o' (back_of one puts l) at in
    let q = pointed (acted line p) z.points z.name in
    subst (λ flow. Comes code 0 g (services_of (acted line p)) (owing code debt aims) flow) (sym z.means)
    (record {
      to = λ early.
          done_owing (statement_closed k labels acts i wanted left') debt wanted (omega arith) z.reach tt q.state
          (λ g' at'. goes_here acts wanted g' (omega arith) (pointed_among z.points z.name o')
          (λ b. subst (λ j. IsIn w q numbers j b (g' b)) end (at' b)));
    }))))

pub null_does :
    (k : Block) (labels : List Label) (x : Spot) (line index left' : ℕ) → IsAssignment k x Y.NullPointer line index →
    Does k labels (assignment x Y.NullPointer line) index left'
null_does k labels x line index left' h =
    let is = h.pointer in
    put_does k labels x Y.NullPointer line index left' (null_name (pos (name_at_place k.environment x))) h.act
    (null_coded k.environment x line is.known.declared is.own) h.statement
    (λ p numbers c i f o l there.
    let t = pointer_in x is o f there in
    record {
      points = t.points;
      name = NullName;
      means = null_put (at_line k.around line) k.call.surroundings.acts t.points;
      reach = null_reaches is o t c f l there;
    })

pub copy_does :
    (k : Block) (labels : List Label) (x y : Spot) (line index left' : ℕ) →
    IsAssignment k x (Y.PointerIn (whole y)) line index → IsPointer k y →
    Does k labels (assignment x (Y.PointerIn (whole y)) line) index left'
copy_does k labels x y line index left' h js =
    let is = h.pointer in
    put_does k labels x (Y.PointerIn (whole y)) line index left'
    (copied_code (name_at_place k.environment y) (name_at_place k.environment x)) h.act
    (copy_coded k.environment x y line is.known.declared is.own js.known.declared js.own) h.statement
    (λ p numbers c i f o l there.
    let t = pointer_in x is o f there in
    let u = pointer_in y js o f there in
    record {
      points = t.points;
      name = u.points.name;
      means = copy_put (at_line k.around line) k.call.surroundings.acts t.points u.points;
      reach = copy_reaches is js o t u c f l there;
    })
