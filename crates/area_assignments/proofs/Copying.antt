-- The assignment of one area variable to another does what it means.
use Rattle.std.proofs.Common.{◌≡◌, ◌≢◌, ◌⊎◌, inl, inr, ℕ, ◌+◌, ◌<◌, ◌≤◌, List, [], ◌∷◌, ◌++◌, Bool, true, false, Some}
use Rattle.std.proofs.Common.{refl, sym, ap, ◌∙◌, subst, arith}
use Rattle.std.proofs.lemmas.Bool.{cases_eq, leb-false, leb-true}
use Rattle.std.specs.Prelude.{nat_le, cond, ◌==◌}
use Rattle.rv_meaning.specs.declared.instr.Instr.{Instr}
use Rattle.pli_language.specs.declared.condition.Condition.TheVariants as C
use Rattle.pli_meaning.specs.Contents.{Placed, greatest_end}
use Rattle.pli_meaning.specs.Control.{Flow, Label, Meaning, Normal, act, ◌>>◌}
use Rattle.pli_meaning.specs.Executing as M
use Rattle.pli_meaning.specs.Placing as P
use Rattle.pli_meaning.specs.Raising.{Around, at_line}
use Rattle.pli_meaning.specs.StorageState.{AreaContents, State, force}
use Rattle.pli_meaning.specs.World.{counted}
use Rattle.pli_coding.specs.Allocating.{act_code}
use Rattle.pli_coding.specs.Assembly.{size_of}
use Rattle.storage_relation.proofs.Holders.{eqb-other, eqb-refl}
use Rattle.activation_relation.specs.Layers.{Point, services_of}
use Rattle.activation_relation.specs.Points.{Surroundings}
use Rattle.activation_relation.specs.ServiceLaws.{IsSystem}
use Rattle.run_steps.specs.Items.{Linked}
use Rattle.run_steps.proofs.Jumps.{back_of, front_of}
use Rattle.run_steps.proofs.Linking.{size_append}
use Rattle.run_steps.specs.Owing.{owing}
use Rattle.run_steps.proofs.Owing.{comes_owing, done_owing, owing_closed}
use Rattle.run_steps.specs.Reach.{Aims, Comes, Family, Reach, cost}
use Rattle.run_steps.proofs.Reach.{before_closed, comes_on}
use Rattle.block_runs.specs.Machines.{AreIn, IsIn, acted}
use Rattle.block_runs.proofs.PointActs.{act_comes}
use Rattle.program_runs.specs.Statements.{Block, Does, IsAmong, size_in, statement_aims}
use Rattle.program_runs.proofs.Statements.{acted_among, goes_here, statement_closed}
use Rattle.expression_runs.specs.Variables.{Spot, variable_of}
use Rattle.area_runs.proofs.AreaPoints.{area_lives}
use Rattle.area_runs.proofs.ChangedPoints.{with_state}
use Rattle.area_assignments.specs.Copying.{IsCopying, copying}
use Rattle.area_assignments.proofs.AreaCode.{copying_coded}
use Rattle.area_assignments.proofs.CopyRuns.{Leaves, Pair, copied, copied_state, done_comes, itself, placed_in}
use Rattle.area_assignments.proofs.CopyRuns.{refused_comes, too_small, whole_code}
use Rattle.area_assignments.proofs.Emptying.{area_stands}
use Rattle.area_assignments.proofs.Meaning.{assigned_is, copied_flow, copied_is, copy_refused}
use Rattle.area_assignments.proofs.Points.{turned_among, turned_services}

-- ---- what comes of it, behind the act

-- where both are one
itself_comes :
    {k : Block} {labels : List Label} {x y : Spot} {line index most : ℕ} (h : IsCopying k labels x y line index most)
    {q : Point} {numbers : ℕ → ℕ} {i : ℕ} (o : IsAmong k numbers q) (f : Family) →
    h.target.known.serial ≡ h.source.known.serial →
    Linked k.call.surroundings.links k.call.code i (whole_code k x y) → AreIn k.call.surroundings q numbers i f →
    Reach k.call.code 0 f (services_of q) (0 + size_of (whole_code k x y)) (services_of q)
    (λ b y'. IsIn k.call.surroundings q numbers (i + size_of (whole_code k x y)) b y')
itself_comes {x = x} {y} h {q} o f same l there =
    let small' = l.small' in
    let z : Pair _ x y q _ = record { target = h.target; source = h.source; among = o } in
    done_comes z q.state 0 f refl (itself z (omega (arith, small')) same) l there

copied_comes :
    {k : Block} {labels : List Label} {x y : Spot} {line index most : ℕ} (h : IsCopying k labels x y line index most)
    {q : Point} {numbers : ℕ → ℕ} {i : ℕ} (o : IsAmong k numbers q) (f : Family) →
    h.target.known.serial ≢ h.source.known.serial → greatest_end (placed_in h.source o) ≤ h.target.capacity →
    Linked k.call.surroundings.links k.call.code i (whole_code k x y) → AreIn k.call.surroundings q numbers i f →
    Reach k.call.code 0 f (services_of q) (0 + size_of (whole_code k x y))
    (services_of (with_state (copied_state (record { target = h.target; source = h.source; among = o })) q))
    (λ b y'. IsIn k.call.surroundings
    (with_state (copied_state (record { target = h.target; source = h.source; among = o })) q) numbers
    (i + size_of (whole_code k x y)) b y')
copied_comes {x = x} {y} h {q} o f other fits l there =
    let small' = l.small' in
    let z : Pair _ x y q _ = record { target = h.target; source = h.source; among = o } in
    done_comes z (copied_state z) 0 f
    (turned_services h.target.known.serial (λ placed. placed_in h.source o) q)
    (copied z (omega (arith, small')) other fits) l there

assigned_comes :
    {k : Block} {labels : List Label} {x y : Spot} {line index most : ℕ} (left' : ℕ)
    (h : IsCopying k labels x y line index most) {q : Point} {numbers : ℕ → ℕ} {i : ℕ} (o : IsAmong k numbers q)
    (acts wanted : ℕ) (f : Family) → acts ≤ q.state.world.acts → q.control.line ≡ line →
    size_of (whole_code k x y) + 18 < cost k.call.code →
    Linked k.call.surroundings.links k.call.code i (whole_code k x y) → AreIn k.call.surroundings q numbers i f →
    Comes k.call.code 0 f (services_of q)
    (owing k.call.code (size_of (whole_code k x y))
    (statement_aims k labels acts (i + size_of (whole_code k x y)) wanted left'))
    (P.area_assigned (at_line k.around line) (variable_of x) (variable_of y) k.call.surroundings.acts q.state)
assigned_comes {k} {labels} {x} {y} {line} left' h {q} {numbers} {i} o acts wanted f since same afford l there =
    subst (λ flow. Comes code 0 f (services_of q) (owing code debt aims) flow)
    (sym (assigned_is around' x y h.target.declared h.source.declared a b' w.acts from into q.state
    (area_stands h.target o) (area_stands h.source o) (area_lives y h.source o).area (area_lives x h.target o).area))
    (by (cases_eq a b'))
  where
    w : Surroundings
    w = k.call.surroundings

    code : List Instr
    code = k.call.code

    around' : Around
    around' = at_line k.around line

    a : ℕ
    a = h.source.known.serial

    b' : ℕ
    b' = h.target.known.serial

    debt : ℕ
    debt = size_of (whole_code k x y)

    aims : Aims (Unit {0})
    aims = statement_aims k labels acts (i + debt) wanted left'

    from : AreaContents
    from = record { capacity = h.source.capacity; placed = placed_in h.source o }

    into : AreaContents
    into = record { capacity = h.target.capacity; placed = placed_in h.target o }

    Goal : Flow (Unit {0}) → Type 0
    Goal flow = Comes code 0 f (services_of q) (owing code debt aims) flow

    done : (p : Point) → IsAmong k numbers p → acts ≤ p.state.world.acts →
        Reach code 0 f (services_of q) (0 + debt) (services_of p) (λ b y'. IsIn w p numbers (i + debt) b y') →
        Goal (Normal tt p.state)
    done p o' since' r =
        record {
          to = λ early.
              done_owing (statement_closed k labels acts (i + debt) wanted left') debt wanted (omega arith) r tt
              p.state
              (λ g' at'. goes_here acts wanted g' since' o' at');
        }

    by_size :
        (r : Bool) → nat_le (greatest_end from.placed) into.capacity ≡ r → a ≢ b' →
        Goal (P.area_copied around' b' into from w.acts q.state)
    by_size true e other =
        subst Goal (sym (copied_is around' b' w.acts into from q.state (area_lives x h.target o).some (leb-true _ _ e)))
        (done (with_state (copied_state (record { target = h.target; source = h.source; among = o })) q)
        (turned_among b' (λ placed. from.placed) o) since
        (copied_comes h o f (λ s. other (sym s)) (leb-true _ _ e) l there))
    by_size false e other =
        let small' = l.small' in
        let z : Pair k x y q numbers = record { target = h.target; source = h.source; among = o } in
        subst Goal (sym (copy_refused around' b' w.acts into from q.state e))
        (refused_comes (owing_closed code debt aims) z around' h.ends.routines (
          subst (λ xs. IsSystem (force xs C.Area)) (sym o.later.activations) h.full,
          subst (λ xs. IsSystem (force xs C.Error)) (sym o.later.activations) h.ends.error,
        ) 0 f (too_small z (omega (arith, small')) (λ s. other (sym s)) (leb-false _ _ e)) (
          omega (arith, afford),
          h.ends.acts,
        )
        same l there)

    by : (a ≡ b') ⊎ (a ≢ b') → Goal (copied_flow around' a b' from into w.acts q.state)
    by (inl one) =
        subst (λ r. Goal (cond r (Normal tt q.state) (P.area_copied around' b' into from w.acts q.state)))
        (sym (ap (λ j. j == b') one ∙ eqb-refl b')) (done q o since (itself_comes h o f (sym one) l there))
    by (inr other) =
        subst (λ r. Goal (cond r (Normal tt q.state) (P.area_copied around' b' into from w.acts q.state)))
        (sym (eqb-other a b' other)) (by_size (nat_le (greatest_end from.placed) into.capacity) refl other)

pub copy_does :
    (k : Block) (labels : List Label) (x y : Spot) (line index left' most : ℕ) →
    IsCopying k labels x y line index most → Does k labels (copying x y line) index left'
unfolding M.statement ◌>>◌
copy_does k labels x y line index left' most h q numbers c wanted f o paid there =
    let w = k.call.surroundings in
    let code = k.call.code in
    let stmt = copying x y line in
    let around' = at_line k.around line in
    let one = act_code line in
    let rest = whole_code k x y in
    let coded = copying_coded k.environment x y line h.target.own h.source.own in
    let n0 = size_append one rest in
    let n1 = ap (λ u. size_of u) coded in
    let l = subst (Linked w.links code index) coded h.statement in
    let debt = size_of rest in
    let acts = q.state.world.acts in
    let most' = h.ends.most in
    let i = index + size_in k stmt in
    let aims = statement_aims k labels acts i wanted left' in
    let next' : Unit {0} → Meaning (Unit {0}) = λ u. P.area_assigned around' (variable_of x) (variable_of y) in
    let end : index + size_of one + size_of rest ≡ i = omega (arith, n0, n1) in
    comes_owing debt (M.statement k.around stmt w.acts q.state)
    (comes_on w.acts (act counted w.acts q.state) next'
    (act_comes (before_closed w.acts next' (owing_closed code debt aims)) line (c + debt) 0 f (o.stands, o.image)
    (h.act.line_fits, h.act.acts, omega (arith, paid, n0, n1)) (front_of one rest l) there
    (λ g less at'.
    subst (λ j. Comes code 0 g (services_of (acted line q)) (owing code debt (statement_aims k labels acts j wanted
    left'))
    (P.area_assigned around' (variable_of x) (variable_of y) w.acts (acted line q).state)) end
    (assigned_comes left' h (acted_among line o less) acts wanted g (omega arith) refl (omega (arith, most', n0, n1))
    (back_of one rest l) at'))))
