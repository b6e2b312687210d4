-- A list, of the main procedure or of what is called, through the phases that its ONs give its block: each statement
-- does what it means, if those that leave the units alone do in each phase.
use Rattle.std.proofs.Common.{◌≡◌, inl, refl, ℕ, ◌+◌, ◌*◌, ◌^◌, ◌<◌, ◌≤◌, List, ◌++◌, length, Bool}
use Rattle.std.proofs.Common.{true, sym, ap, subst, arith}
use Rattle.std.specs.Prelude.{◌&&◌}
use Rattle.std.proofs.lemmas.Bool.{and_parts, ltb-true}
use Rattle.pli_typing.specs.TypedTree as Y
use Rattle.pli_meaning.specs.Control.{Label}
use Rattle.pli_meaning.specs.Executing.{labels_in}
use Rattle.pli_meaning.specs.World.{World}
use Rattle.pli_coding.specs.Assembly.{size_of}
use Rattle.pli_coding.specs.Environments.{none_taken}
use Rattle.pli_coding.specs.Registers.{held_registers}
use Rattle.pli_coding.specs.Statements.{marked, stmt_code}
use Rattle.program_places.proofs.Labels.{are_marked}
use Rattle.program_runs.specs.Calls.{left_over}
use Rattle.program_runs.specs.Statements.{Block, Does, HasAct, IsBegun}
use Rattle.expression_runs.specs.Assignments.{setting_around}
use Rattle.group_runs.specs.Groups.{list_index}
use Rattle.test_runs.specs.Choices.{HasTestWith, behind_act, behind_choice, behind_test, body_index}
use Rattle.test_runs.specs.Tests.{Tests}
use Rattle.number_runs.specs.Knowledge.{AreAround, AreStanding, Includes, Standing}
use Rattle.number_runs.specs.Numbers.{test_needs}
use Rattle.number_runs.specs.Statements.{is_line, statement_needs, statement_sets, statements_need, statements_set}
use Rattle.number_runs.proofs.Labels as Labels
use Rattle.unit_runs.specs.Establishing.{OnUnit, on_of, unit_index, unit_of}
use Rattle.phase_runs.specs.Forms as G
use Rattle.phase_runs.specs.Forms.{AllTest}
use Rattle.phase_runs.specs.Phases.{AreBegun, DoesThrough, EachThrough, in_phase}
use Rattle.phase_runs.specs.Units.{AreBy, ArePlaced, ByRevert, BySystem, ByUnit, IsListed, Past, past_point, phases_of}
use Rattle.phase_runs.proofs.Choices.{met_through, one_of_through}
use Rattle.phase_runs.proofs.Forms.{same_through}
use Rattle.phase_runs.proofs.Groups.{group_through}
use Rattle.phase_runs.proofs.Loops.{loop_through}
use Rattle.phase_runs.proofs.Units.{on_through, phases_change, revert_through, system_through}
use Rattle.activation_relation.specs.Chains.{StandsAt}
use Rattle.unit_numbers.specs.Steps.{are_steps, is_plain_step, is_step, is_step_test}
use Rattle.unit_numbers.specs.Units.{is_unit}
use Rattle.unit_numbers.proofs.Inside.{first_stands, group_stands, met_stands, one_stands, rest_stands, second_stands}
use Rattle.unit_numbers.proofs.Inside.{turns_stand}
use Rattle.unit_numbers.proofs.Mains.{Main}
use Rattle.unit_numbers.proofs.Places.{all_placed_in, listed_back, listed_front, placed_in}
use Rattle.unit_numbers.proofs.Units.{unit_is}
use Rattle.unit_numbers.proofs.Visited.{past_world}

-- what an act pays for
abbrev pub most_of : Block → ℕ
most_of k = length k.call.code + 2

-- the block of such a list, with its ONs and its labels, and what its temporaries and its loops take
pub record Listing {program : Y.Program} (m : Main program) (head : Y.BlockHead) (all : Y.Stmts) (valued : Bool)
    (k : Block)
    (ons : List (OnUnit × ℕ)) (own : List Label) (need sets : ℕ) : Type 0
  where
    pub small : k.call.surroundings.acts + 1 < 2 ^ 64
    pub begun : IsBegun k
    pub turns : k.call.surroundings.acts < k.around.turns + k.first.state.world.acts
    pub placed : ArePlaced k.call.surroundings.units ons
    pub stands :
        (e : OnUnit × ℕ) → IsListed e ons →
        StandsAt k.call.surroundings.units (unit_of e.0) (4 * unit_index e.0 e.1)
    pub held : need ≤ k.registers
    pub few : k.registers ≤ held_registers
    -- a statement that leaves the units alone
    pub plain :
        (past : Past) → AreBy ons past → (labels : List Label) (stmt : Y.Stmt) (index : ℕ) → AreAround k own labels →
        is_plain_step program m.called head all valued labels stmt ≡ true → statement_needs stmt ≤ need →
        statement_sets stmt ≤ sets → Standing k stmt index →
        Does (in_phase k (past_point past k.first)) labels stmt index left_over
    -- and a test
    pub tests :
        (past : Past) → AreBy ons past → (labels : List Label) (line : ℕ) → Includes own labels →
        (condition : Y.Bit) → is_step_test program m.called head all condition ≡ true →
        Tests (setting_around 0 (in_phase k (past_point past k.first)) labels line (most_of k)) (test_needs condition)
        condition

all_begun :
    {program : Y.Program} {m : Main program} {head : Y.BlockHead} {all : Y.Stmts} {valued : Bool} {k : Block}
    {ons : List (OnUnit × ℕ)}
    {own : List Label} {need sets : ℕ} → Listing m head all valued k ons own need sets → AreBegun k (phases_of k ons)
all_begun {k = k} {ons} l = (phases_change k ons).begun l.begun l.placed

plain_does :
    {program : Y.Program} {m : Main program} {head : Y.BlockHead} {all : Y.Stmts} {valued : Bool} {k : Block}
    {ons : List (OnUnit × ℕ)}
    {own : List Label} {need sets : ℕ} → Listing m head all valued k ons own need sets → (labels : List Label)
    (stmt : Y.Stmt) (index : ℕ) → AreAround k own labels →
    is_plain_step program m.called head all valued labels stmt ≡ true →
    statement_needs stmt ≤ need → statement_sets stmt ≤ sets → Standing k stmt index →
    DoesThrough 0 k (phases_of k ons) labels stmt index left_over
plain_does {k = k} {ons} l labels stmt index around is fits sets at =
    same_through 0 k (phases_of k ons) labels stmt index left_over
    (λ first phase.
    subst (λ q. Does (in_phase k q) labels stmt index left_over) (sym phase.2)
    (l.plain phase.0 phase.1 labels stmt index around is fits sets at))

tests_through :
    {program : Y.Program} {m : Main program} {head : Y.BlockHead} {all : Y.Stmts} {valued : Bool} {k : Block}
    {ons : List (OnUnit × ℕ)}
    {own : List Label} {need sets : ℕ} → Listing m head all valued k ons own need sets →
    (labels : List Label) (line : ℕ) →
    Includes own labels → (condition : Y.Bit) →
    is_step_test program m.called head all condition ≡ true →
    AllTest 0 k (phases_of k ons) labels line (most_of k) (test_needs condition) condition
tests_through {k = k} l labels line includes condition is first phase =
    subst (λ q. Tests (setting_around 0 (in_phase k q) labels line (most_of k)) (test_needs condition) condition)
    (sym phase.2) (l.tests phase.0 phase.1 labels line includes condition is)

-- ---- what stands around each of them

step_act :
    {program : Y.Program} {m : Main program} {head : Y.BlockHead} {all : Y.Stmts} {valued : Bool} {k : Block}
    {ons : List (OnUnit × ℕ)}
    {own : List Label} {need sets : ℕ} → Listing m head all valued k ons own need sets → (line : ℕ) →
    is_line line ≡ true → HasAct k line
step_act l line is = record { line_fits = ltb-true line (2 ^ 31) is; acts = l.small }

step_test :
    {program : Y.Program} {m : Main program} {head : Y.BlockHead} {all : Y.Stmts} {valued : Bool} {k : Block}
    {ons : List (OnUnit × ℕ)}
    {own : List Label} {need sets : ℕ} → Listing m head all valued k ons own need sets → (stmt : Y.Stmt)
    (condition : Y.Bit) (line index : ℕ) → is_line line ≡ true → test_needs condition ≤ need → Standing k stmt index →
    HasTestWith 0 k stmt line index (test_needs condition) (most_of k)
step_test l stmt condition line index is fits at =
    let inside = at.linked.inside in
    let held = l.held in
    record {
      act = step_act l line is;
      registers = omega (arith, fits, held);
      held = l.few;
      statement = at.linked;
      paid = omega (arith, inside);
    }

pub inside_of :
    {program : Y.Program} {m : Main program} {head : Y.BlockHead} {all : Y.Stmts} {valued : Bool} {k : Block}
    {ons : List (OnUnit × ℕ)}
    {own : List Label} {need sets : ℕ} → Listing m head all valued k ons own need sets → (body : Y.Stmts) (index : ℕ) →
    AreStanding k body index → G.IsInside 0 k (phases_of k ons) body index
inside_of {k = k} l body index at =
    record {
      begun = all_begun l;
      turns = λ first phase.
          let turns = l.turns in
          let same = ap (λ (u : World). u.acts) (past_world phase.0 k.first) in
          subst (λ q. k.call.surroundings.acts < k.around.turns + q.state.world.acts) (sym phase.2)
          (omega (arith, turns, same));
      marked = are_marked k.call.surroundings.links k.call.code index k.environment body at;
    }

-- ---- all of its statements

-- its ONs are among the list's
abbrev AreAmong : (xs ons : List (OnUnit × ℕ)) → Type 0
AreAmong xs ons = (e : OnUnit × ℕ) → IsListed e ons → IsListed e xs

on_step :
    {program : Y.Program} {m : Main program} {head : Y.BlockHead} {all : Y.Stmts} {valued : Bool} {k : Block}
    {ons : List (OnUnit × ℕ)}
    {own : List Label} {need sets : ℕ} → Listing m head all valued k ons own need sets → (labels : List Label)
    (x : OnUnit) (index : ℕ) → is_unit program m.called head all x ≡ true → IsListed (x, index) ons →
    Standing k (on_of x) index → DoesThrough 0 k (phases_of k ons) labels (on_of x) index left_over
on_step {program} {m} {head} {all} {k = k} {ons} l labels x index is listed at =
    on_through 0 k (phases_of k ons) labels x index left_over
    (record {
      act = record { line_fits = (unit_is program m.called head all x is).line; acts = l.small };
      statement = at.linked;
    })
    (all_begun l) (l.stands (x, index) listed)
    ((phases_change k ons).kept (ByUnit x index) listed)

mutual
  pub step_does :
      {program : Y.Program} {m : Main program} {head : Y.BlockHead} {all : Y.Stmts} {valued : Bool} {k : Block}
      {ons : List (OnUnit × ℕ)}
      {own : List Label} {need sets : ℕ} → Listing m head all valued k ons own need sets →
      (labels : List Label) (stmt : Y.Stmt) (index : ℕ) →
      AreAround k own labels →
      is_step program m.called head all valued labels stmt ≡ true →
      statement_needs stmt ≤ need → statement_sets stmt ≤ sets →
      Standing k stmt index →
      AreAmong ons (placed_in k.environment stmt index) →
      DoesThrough 0 k (phases_of k ons) labels stmt index left_over
  step_does l labels (Y.OnUnit condition (Y.BlockOf head body) line) index around is fits sets at
      among =
      let x : OnUnit = record { condition = condition; head = head; body = body; line = line } in
      on_step l labels x index is (among (x, index) (inl refl)) at
  step_does {k = k} {ons} l labels (Y.OnSystem condition line) index around is fits sets at among =
      system_through 0 k (phases_of k ons) labels condition line index left_over
      (record { act = step_act l line is; statement = at.linked }) (all_begun l)
      ((phases_change k ons).kept (BySystem condition) tt)
  step_does {k = k} {ons} l labels (Y.Revert condition line) index around is fits sets at among =
      revert_through 0 k (phases_of k ons) labels condition line index left_over
      (record { act = step_act l line is; statement = at.linked }) (all_begun l)
      ((phases_change k ons).kept (ByRevert condition) tt)
  step_does {program} {m} {head} {all} {valued} {k} {ons} {own} l labels (Y.If condition unit line) index around is
      fits sets at among =
      let test = is_step_test program m.called head all condition in
      let inner = is_step program m.called head all valued labels unit in
      let a = and_parts (is_line line) (test && inner) is in
      let b = and_parts test inner a.1 in
      met_through 0 k (phases_of k ons) labels condition unit line index left_over (test_needs condition)
      (most_of k)
      (step_test l (Y.If condition unit line) condition line index a.0 (omega (arith, fits)) at)
      (tests_through l labels line around.includes condition b.0)
      (step_does l labels unit (behind_test k condition (behind_act line index)) around b.1
      (omega (arith, fits)) (omega (arith, sets)) (met_stands k condition unit line index at) among)
  step_does {program} {m} {head} {all} {valued} {k} {ons} {own} l labels (Y.IfElse condition unit otherwise line) index
      around is fits sets at
      among =
      let e = k.environment in
      let test = is_step_test program m.called head all condition in
      let first = is_step program m.called head all valued labels unit in
      let second = is_step program m.called head all valued labels otherwise in
      let a = and_parts (is_line line) (test && (first && second)) is in
      let b = and_parts test (first && second) a.1 in
      let c = and_parts first second b.1 in
      let chosen = behind_test k condition (behind_act line index) in
      let behind = behind_choice k unit chosen in
      one_of_through 0 k (phases_of k ons) labels condition unit otherwise line index left_over
      (test_needs condition) (most_of k)
      (step_test l (Y.IfElse condition unit otherwise line) condition line index a.0 (omega (arith, fits))
      at)
      (tests_through l labels line around.includes condition b.0)
      (step_does l labels unit chosen around c.0 (omega (arith, fits)) (omega (arith, sets))
      (first_stands k condition unit otherwise line index at)
      (λ x h. among x (listed_front x (placed_in e unit chosen) (placed_in e otherwise behind) h)))
      (step_does l labels otherwise behind around c.1 (omega (arith, fits)) (omega (arith, sets))
      (second_stands k condition unit otherwise line index at)
      (λ x h. among x (listed_back x (placed_in e unit chosen) (placed_in e otherwise behind) h)))
  step_does {program} {m} {head} {all} {valued} {k} {ons} {own} l labels (Y.Do body line) index around is fits sets at
      among =
      let inner = are_steps program m.called head all valued (labels_in body ++ labels) body in
      let a = and_parts (is_line line) inner is in
      let at' = group_stands k body line index at in
      group_through 0 k (phases_of k ons) labels body line index left_over (step_act l line a.0)
      at.linked (inside_of l body (list_index line index) at')
      (steps_do l (labels_in body ++ labels) body (list_index line index)
      (Labels.placed_in 0 k own body (list_index line index) labels at' around) a.1 fits sets
      at' among)
  step_does {program} {m} {head} {all} {valued} {k} {ons} {own} l labels (Y.DoWhile condition body line) index around
      is fits sets at among =
      let test = is_step_test program m.called head all condition in
      let inner = are_steps program m.called head all valued (labels_in body ++ labels) body in
      let a = and_parts (is_line line) (test && inner) is in
      let b = and_parts test inner a.1 in
      let i = body_index k condition line index in
      let at' = turns_stand k condition body line index at in
      loop_through 0 k (phases_of k ons) labels condition body line index left_over (test_needs condition)
      (most_of k)
      (step_test l (Y.DoWhile condition body line) condition line index a.0 (omega (arith, fits)) at)
      (tests_through l labels line around.includes condition b.0)
      (inside_of l body i at')
      (steps_do l (labels_in body ++ labels) body i
      (Labels.placed_in 0 k own body i labels at' around) b.1 (omega (arith, fits))
      (omega (arith, sets)) at' among)
  step_does l labels (Y.Null line) index around is fits sets at among =
      plain_does l labels (Y.Null line) index around is fits sets at
  step_does l labels (Y.Assign target source line) index around is fits sets at among =
      plain_does l labels (Y.Assign target source line) index around is fits sets at
  step_does l labels (Y.CallProcedure call line) index around is fits sets at among =
      plain_does l labels (Y.CallProcedure call line) index around is fits sets at
  step_does l labels (Y.Return line) index around is fits sets at among =
      plain_does l labels (Y.Return line) index around is fits sets at
  step_does l labels (Y.ReturnValue type source line) index around is fits sets at among =
      plain_does l labels (Y.ReturnValue type source line) index around is fits sets at
  step_does l labels (Y.Goto level label line) index around is fits sets at among =
      plain_does l labels (Y.Goto level label line) index around is fits sets at
  step_does l labels (Y.Stop line) index around is fits sets at among =
      plain_does l labels (Y.Stop line) index around is fits sets at
  step_does l labels (Y.AssignElements target source line) index around is fits sets at among =
      plain_does l labels (Y.AssignElements target source line) index around is fits sets at
  step_does l labels (Y.AssignAggregate target source line) index around is fits sets at among =
      plain_does l labels (Y.AssignAggregate target source line) index around is fits sets at
  step_does l labels (Y.AssignArea target source line) index around is fits sets at among =
      plain_does l labels (Y.AssignArea target source line) index around is fits sets at
  step_does l labels (Y.EmptyArea target line) index around is fits sets at among =
      plain_does l labels (Y.EmptyArea target line) index around is fits sets at
  step_does l labels (Y.DoOnce variable start condition body line) index around is fits sets at
      among =
      plain_does l labels (Y.DoOnce variable start condition body line) index around is fits sets at
  step_does l labels (Y.DoCount counter start limit step condition body line) index around is fits
      sets at among =
      plain_does l labels (Y.DoCount counter start limit step condition body line) index around is
      fits sets at
  step_does l labels (Y.Begin block) index around is fits sets at among =
      plain_does l labels (Y.Begin block) index around is fits sets at
  step_does l labels (Y.Signal condition line) index around is fits sets at among =
      plain_does l labels (Y.Signal condition line) index around is fits sets at
  step_does l labels (Y.Allocate items line) index around is fits sets at among =
      plain_does l labels (Y.Allocate items line) index around is fits sets at
  step_does l labels (Y.Free items line) index around is fits sets at among =
      plain_does l labels (Y.Free items line) index around is fits sets at
  step_does l labels (Y.Get skip pairs line) index around is fits sets at among =
      plain_does l labels (Y.Get skip pairs line) index around is fits sets at
  step_does l labels (Y.Put skip pairs line) index around is fits sets at among =
      plain_does l labels (Y.Put skip pairs line) index around is fits sets at

  pub steps_do :
      {program : Y.Program} {m : Main program} {head : Y.BlockHead} {all : Y.Stmts} {valued : Bool} {k : Block}
      {ons : List (OnUnit × ℕ)}
      {own : List Label} {need sets : ℕ} → Listing m head all valued k ons own need sets →
      (labels : List Label) (body : Y.Stmts) (index : ℕ) →
      AreAround k own labels →
      are_steps program m.called head all valued labels body ≡ true →
      statements_need body ≤ need → statements_set body ≤ sets →
      AreStanding k body index →
      AreAmong ons (all_placed_in k.environment body index) →
      EachThrough 0 k (phases_of k ons) labels body index left_over
  steps_do l labels (Y.EndOfList own) index around is fits sets at among = tt
  steps_do {program} {m} {head} {all} {valued} {k} {ons} l labels (Y.StmtThen own first rest) index around is fits sets
      at among =
      let e = k.environment in
      let a = and_parts (is_step program m.called head all valued labels first)
      (are_steps program m.called head all valued labels rest) is in
      let here = index + size_of (marked e.block own) in
      let behind = here + size_of (stmt_code e none_taken first) in (
        step_does l labels first here around a.0 (omega (arith, fits)) (omega (arith, sets))
            (one_stands k own first rest index at)
            (λ x h. among x (listed_front x (placed_in e first here) (all_placed_in e rest behind) h)),
        steps_do l labels rest behind around a.1 (omega (arith, fits)) (omega (arith, sets))
            (rest_stands k own first rest index at)
            (λ x h. among x (listed_back x (placed_in e first here) (all_placed_in e rest behind) h)),
      )
