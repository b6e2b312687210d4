-- Simple subscripts: a constant, or a FIXED BINARY(31) variable of the block, comes into u1, and no other register
-- changes.
use Rattle.std.proofs.Common.{◌≡◌, ℕ, ◌+◌, ◌^◌, ◌<◌, ◌⊎◌, inl, inr, List, ◌++◌, Option, Some, true, refl, sym}
use Rattle.std.proofs.Common.{ap, subst, arith}
use Rattle.std.proofs.lemmas.Bool.Decides.{nat_tests}
use Rattle.std.specs.Prelude.{ℤ, pos, ◌==◌, slice_get, unwrap_or}
use Rattle.rv_meaning.specs.declared.instr.Instr.TheVariants as I
use Rattle.rv_meaning.specs.declared.instr.LoadKind.TheVariants as Load
use Rattle.rv_meaning.specs.Words.{word}
use Rattle.pli_typing.specs.TypedTree as Y
use Rattle.pli_meaning.specs.Control.{Normal, give}
use Rattle.pli_meaning.specs.DeclaredShapes.{declared_variable}
use Rattle.pli_meaning.specs.Evaluating as V
use Rattle.pli_meaning.specs.StorageState.{State}
use Rattle.pli_coding.specs.Assembly.{Code, size_of}
use Rattle.pli_coding.specs.Environments.{Environment, no_declaration}
use Rattle.pli_coding.specs.Frames.{automatic_place, has_constant_size}
use Rattle.pli_coding.specs.Instructions.{displaced}
use Rattle.pli_coding.specs.Locating.{frame_found, frame_in, is_simple, leaf_place, loaded, no_leaf, simple_loaded}
use Rattle.pli_coding.specs.Registers.{u1}
use Rattle.activation_relation.specs.Layers.{Point, services_of}
use Rattle.run_steps.specs.Bodies.{Known, with'}
use Rattle.run_steps.proofs.Bodies.{constant_piece}
use Rattle.run_steps.specs.Engine.{Base}
use Rattle.run_steps.specs.Items.{At, Linked}
use Rattle.run_steps.specs.Numbers.{IsWide}
use Rattle.run_steps.proofs.Numbers.{word_small}
use Rattle.run_steps.specs.Reach.{Family, Reach}
use Rattle.run_steps.proofs.Reaching.{brought_based}
use Rattle.block_runs.specs.Machines.{AreIn}
use Rattle.block_runs.proofs.PointGrounds.{point_ground}
use Rattle.program_runs.specs.Statements.{IsAmong, IsBegun}
use Rattle.expression_runs.specs.Values.{Setting}
use Rattle.expression_runs.specs.Variables.{IsNumber, Spot, number_declared, number_place, variable_of, whole}
use Rattle.expression_runs.proofs.VariableMeaning.{number_is}
use Rattle.expression_runs.proofs.VariablePoints.{first_base, number_at, place_at, reaches_by}
use Rattle.expression_runs.proofs.Words.{frame_of}
use Rattle.element_runs.specs.Subscripts.{IsConstant, IsVariable}
use Rattle.element_runs.proofs.SubscriptTests.{Beside}

-- it comes there from a point of the block, wherever its code stands
pub record Brought (k : Setting) (s : Y.Number) (p : Point) (numbers : ℕ → ℕ) (h : frame_of k.block p) : Type 1 where
  pub simple : is_simple k.block.environment s ≡ true
  pub z : ℤ
  pub wide : IsWide z
  pub meant : V.number k.around s k.block.call.surroundings.acts p.state ≡ Normal z p.state
  pub brings :
      (ys : Base → List (ℕ × ℕ)) (c index : ℕ) (f : Family) → Beside ys →
      Linked k.block.call.surroundings.links k.block.call.code index (simple_loaded k.block.environment u1 s) →
      ((b : Base) → At b index (Known (point_ground k.block.call.surroundings p h) (services_of p) numbers (λ j. 0) ys
      b) (f b)) →
      Reach k.block.call.code c f (services_of p) (c + size_of (simple_loaded k.block.environment u1 s))
      (services_of p)
      (λ b y. At b (index + size_of (simple_loaded k.block.environment u1 s))
      (Known (point_ground k.block.call.surroundings p h) (services_of p) numbers (λ j. 0) (with' 6 (λ b'. word z) ys)
      b) y)

-- ---- constants

constant_wide : (n : ℕ) → n < 2 ^ 31 → IsWide (pos n)
constant_wide n h = grind (arith, nat_tests)

constant_meant :
    (k : Setting) (n : ℕ) (s : State) →
    V.number k.around (Y.NumberConstant n) k.block.call.surroundings.acts s ≡ Normal (pos n) s
unfolding V.number give
constant_meant k n s = refl

brought_constant :
    (k : Setting) (n : ℕ) → n < 2 ^ 31 → (p : Point) (numbers : ℕ → ℕ) (h : frame_of k.block p) →
    Brought k (Y.NumberConstant n) p numbers h
brought_constant k n few p numbers h =
    let wide = constant_wide n few in
    record {
      simple = refl;
      z = pos n;
      wide = wide;
      meant = constant_meant k n p.state;
      brings = λ ys c index f beside l at. constant_piece c f u1 (pos n) (word_small (pos n) wide) beside.free1 l at;
    }

-- ---- variables

abbrev declared_in : Option Y.DeclaredVariable → Y.DeclaredVariable
declared_in o = unwrap_or o no_declaration

abbrev type_by : Option Y.DeclaredVariable → Y.LeafType
type_by o = (unwrap_or (slice_get (declared_in o).leaves 0) no_leaf).type

simple_is :
    (e : Environment) (x : Spot) (initial : _) →
    declared_variable e.program (variable_of x) ≡ Some (number_declared initial) →
    is_simple e (Y.NumberIn (whole x)) ≡ true
simple_is e x initial declared = ap (λ o. has_constant_size (declared_in o)) declared

abbrev brings_code : Environment → Spot → Code
brings_code e x =
    frame_found e x.level u1
    ++ displaced (λ r z. I.Load Load.Word u1 r z) (frame_in e x.level u1) (pos (number_place e x))

brought_is :
    (e : Environment) (x : Spot) (initial : _) →
    declared_variable e.program (variable_of x) ≡ Some (number_declared initial) →
    simple_loaded e u1 (Y.NumberIn (whole x)) ≡ brings_code e x
brought_is e x initial declared =
    ap (λ o. frame_found e x.level u1 ++ loaded (type_by o) u1 (record {
      register = frame_in e x.level u1;
      displacement =
          pos (automatic_place e.parts e.program x.block x.level x.index + 16 + leaf_place (declared_in o) 0);
    })) declared

brought_variable :
    (k : Setting) (x : Spot) → IsNumber k.block x → IsBegun k.block → (p : Point) (numbers : ℕ → ℕ)
    (h : frame_of k.block p) → IsAmong k.block numbers p → (index : ℕ) (f : Family) →
    AreIn k.block.call.surroundings p numbers index f → Brought k (Y.NumberIn (whole x)) p numbers h
brought_variable k x is begun p numbers h o index f there =
    let e = k.block.environment in
    let w = k.block.call.surroundings in
    let n = number_at x is begun o f there in
    let base = first_base in
    let inside = is.inside in
    let even = (n.tells (f base).machine.memory (there base).at.storage).1 in
    let code = brought_is e x is.initial is.declared in
    let size = ap (λ u. size_of u) code in
    record {
      simple = simple_is e x is.initial is.declared;
      z = n.z;
      wide = n.wide;
      meant = number_is k.around w.acts n.z n.holds n.value;
      brings = λ ys c i g beside l at.
          subst (λ m. Reach k.block.call.code c g (services_of p) (c + m) (services_of p)
          (λ b y. At b (i + m) (Known (point_ground w p h) (services_of p) numbers (λ j. 0)
          (with' 6 (λ b'. word n.z) ys) b) y)) (sym size)
          (brought_based (x.level == e.level) x.level c g is.base Load.Word (pos (number_place e x))
          (is.base + number_place e x) (λ b. word n.z) (reaches_by x.level is.base h begun o is.frame)
          (omega (arith, inside)) (place_at k.block x is even) (λ b m stands. (n.tells m stands.storage).0)
          beside.free1 beside.far (subst (Linked w.links k.block.call.code i) code l) at);
    }

-- ---- both

pub brought_simple :
    (k : Setting) (s : Y.Number) → IsConstant s ⊎ IsVariable k.block s → IsBegun k.block → (p : Point)
    (numbers : ℕ → ℕ) (h : frame_of k.block p) → IsAmong k.block numbers p → (index : ℕ) (f : Family) →
    AreIn k.block.call.surroundings p numbers index f → Brought k s p numbers h
brought_simple k s (inl is) begun p numbers h o index f there =
    subst (λ u. Brought k u p numbers h) (sym is.is) (brought_constant k is.value is.few p numbers h)
brought_simple k s (inr is) begun p numbers h o index f there =
    subst (λ u. Brought k u p numbers h) (sym is.is)
    (brought_variable k is.spot is.number begun p numbers h o index f there)
