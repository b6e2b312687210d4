-- Simple subscripts: a constant, or a FIXED BINARY variable of the block of any precision, comes into u1, and no other
-- register changes.
use Rattle.std.proofs.Common.{◌≡◌, ℕ, ◌+◌, ◌^◌, ◌<◌, ◌≤◌, inl, inr, List, [], ◌++◌, Option, Some, true, refl, sym}
use Rattle.std.proofs.Common.{ap, ◌∙◌, subst, arith}
use Rattle.std.proofs.lemmas.Bool.Decides.{nat_tests}
use Rattle.std.specs.Prelude.{ℤ, pos, ◌==◌, slice_get, unwrap_or}
use Rattle.rv_meaning.specs.declared.instr.Instr.TheVariants as I
use Rattle.rv_meaning.specs.declared.instr.LoadKind.{LoadKind}
use Rattle.rv_meaning.specs.declared.instr.LoadKind.TheVariants as Load
use Rattle.rv_meaning.specs.Words.{word}
use Rattle.pli_language.specs.Tree as T
use Rattle.pli_typing.specs.TypedTree as Y
use Rattle.pli_typing.specs.Signatures.{Fixed}
use Rattle.pli_meaning.specs.BasicValues.{BasicBit, BasicNumber, BasicOffset, BasicPointer, BasicText, BasicValue}
use Rattle.pli_meaning.specs.Control.{Normal, give}
use Rattle.pli_meaning.specs.DeclaredShapes.{declared_variable}
use Rattle.pli_meaning.specs.Evaluating as V
use Rattle.pli_meaning.specs.Numbers.{is_of_precision}
use Rattle.pli_meaning.specs.StorageState.{State}
use Rattle.pli_coding.specs.Assembly.{Code, size_of}
use Rattle.pli_coding.specs.Environments.{Environment, no_declaration}
use Rattle.pli_coding.specs.Frames.{automatic_place}
use Rattle.pli_coding.specs.Instructions.{displaced}
use Rattle.pli_coding.specs.Locating.{frame_found, frame_in, leaf_place, loaded, no_leaf, simple_loaded}
use Rattle.pli_coding.specs.Registers.{u1}
use Rattle.storage_relation.specs.Telling.{IsOf}
use Rattle.activation_relation.specs.Layers.{Point, services_of}
use Rattle.run_steps.specs.Bodies.{Free, Known, with'}
use Rattle.run_steps.proofs.Bodies.{constant_piece}
use Rattle.run_steps.specs.Engine.{Base}
use Rattle.run_steps.specs.Items.{At, Linked}
use Rattle.run_steps.specs.Numbers.{IsWide}
use Rattle.run_steps.proofs.Numbers.{word_small}
use Rattle.run_steps.specs.Reach.{Family, Reach}
use Rattle.run_steps.proofs.Reaching.{brought_based}
use Rattle.block_runs.specs.Machines.{AreIn}
use Rattle.block_runs.proofs.PointGrounds.{point_ground}
use Rattle.program_runs.specs.Statements.{IsAmong, IsBegun}
use Rattle.expression_runs.specs.Values.{Setting}
use Rattle.expression_runs.specs.Variables.{IsNumber, Spot, number_place, variable_of, whole}
use Rattle.expression_runs.proofs.VariableMeaning.{number_is}
use Rattle.expression_runs.proofs.VariablePoints as P
use Rattle.expression_runs.proofs.VariablePoints.{first_base, number_at, reaches_by}
use Rattle.expression_runs.proofs.Words.{frame_of}
use Rattle.pli_headline.proofs.Scalars.{fewer_bits, load_kind}
use Rattle.scalar_runs.specs.Scalars.{IsFixed, scalar_declared}
use Rattle.scalar_runs.proofs.ScalarMeaning as S
use Rattle.scalar_runs.proofs.ScalarPoints.{at_of, place_at, room_at, scalar_at}
use Rattle.scalar_runs.proofs.ScalarWords.{word_in}
use Rattle.array_runs.specs.Subscripts.{IsSimple}

-- what is known beside stays while the registers of subscripts are written
pub record Apart (ys : Base → List (ℕ × ℕ)) : Type 0 where
  pub free1 : Free ys 6
  pub free2 : Free ys 7
  pub far : Free ys 31

-- it comes there from a point of the block, wherever its code stands
pub record Brought (k : Setting) (s : Y.Number) (p : Point) (numbers : ℕ → ℕ) (h : frame_of k.block p)
    (z : ℤ) : Type 0
  where
    pub wide : IsWide z
    pub meant : V.number k.around s k.block.call.surroundings.acts p.state ≡ Normal z p.state
    pub brings :
        (ys : Base → List (ℕ × ℕ)) (c index : ℕ) (f : Family) → Apart ys →
        Linked k.block.call.surroundings.links k.block.call.code index (simple_loaded k.block.environment u1 s) →
        ((b : Base) → At b index (Known (point_ground k.block.call.surroundings p h) (services_of p) numbers (λ j. 0)
        ys b) (f b)) →
        Reach k.block.call.code c f (services_of p) (c + size_of (simple_loaded k.block.environment u1 s))
        (services_of p)
        (λ b y. At b (index + size_of (simple_loaded k.block.environment u1 s))
        (Known (point_ground k.block.call.surroundings p h) (services_of p) numbers (λ j. 0)
        (with' 6 (λ b'. word z) ys) b) y)

-- ---- constants

constant_wide : (n : ℕ) → n < 2 ^ 31 → IsWide (pos n)
constant_wide n h = grind (arith, nat_tests)

constant_meant :
    (k : Setting) (n : ℕ) (s : State) →
    V.number k.around (Y.NumberConstant n) k.block.call.surroundings.acts s ≡ Normal (pos n) s
unfolding V.number give
constant_meant k n s = refl

brought_constant :
    (k : Setting) (n : ℕ) → n < 2 ^ 31 → (p : Point) (numbers : ℕ → ℕ) (h : frame_of k.block p) →
    Brought k (Y.NumberConstant n) p numbers h (pos n)
brought_constant k n few p numbers h =
    let wide = constant_wide n few in
    record {
      wide = wide;
      meant = constant_meant k n p.state;
      brings = λ ys c index f apart l at. constant_piece c f u1 (pos n) (word_small (pos n) wide) apart.free1 l at;
    }

-- ---- variables

abbrev declared_in : Option Y.DeclaredVariable → Y.DeclaredVariable
declared_in o = unwrap_or o no_declaration

abbrev type_by : Option Y.DeclaredVariable → Y.LeafType
type_by o = (unwrap_or (slice_get (declared_in o).leaves 0) no_leaf).type

abbrev brings_code : LoadKind → Environment → Spot → Code
brings_code kind e x =
    frame_found e x.level u1
    ++ displaced (λ r z. I.Load kind u1 r z) (frame_in e x.level u1) (pos (number_place e x))

brought_is :
    (e : Environment) (x : Spot) (precision : ℕ) (initial : List T.InitialItem) →
    declared_variable e.program (variable_of x) ≡ Some (scalar_declared (Y.FixedLeaf precision) initial) →
    simple_loaded e u1 (Y.NumberIn (whole x)) ≡ brings_code (load_kind (Y.FixedLeaf precision)) e x
brought_is e x precision initial declared =
    ap (λ o. frame_found e x.level u1 ++ loaded (type_by o) u1 (record {
      register = frame_in e x.level u1;
      displacement =
          pos (automatic_place e.parts e.program x.block x.level x.index + 16 + leaf_place (declared_in o) 0);
    })) declared

-- a value of its kind
pub number_of :
    (p : ℕ) (v : BasicValue) → IsOf (Fixed p) v →
    (z : ℤ) × (v ≡ BasicNumber z) × (is_of_precision p z ≡ true) × (p ≤ 31)
number_of p (BasicNumber z) is = (z, refl, is.1, is.0)
number_of p (BasicText t) is = absurd is
number_of p (BasicBit b) is = absurd is
number_of p (BasicPointer n) is = absurd is
number_of p (BasicOffset o) is = absurd is

brought_variable :
    (k : Setting) (x : Spot) → IsNumber k.block x → IsBegun k.block → (p : Point) (numbers : ℕ → ℕ)
    (h : frame_of k.block p) → IsAmong k.block numbers p → (index : ℕ) (f : Family) →
    AreIn k.block.call.surroundings p numbers index f →
    (z : ℤ) × Brought k (Y.NumberIn (whole x)) p numbers h z
brought_variable k x is begun p numbers h o index f there =
    let e = k.block.environment in
    let w = k.block.call.surroundings in
    let n = number_at x is begun o f there in
    let base = first_base in
    let inside = is.inside in
    let even = (n.tells (f base).machine.memory (there base).at.storage).1 in
    let code = brought_is e x 31 is.initial is.declared in
    let size = ap (λ u. size_of u) code in (
      n.z,
      record {
        wide = n.wide;
        meant = number_is k.around w.acts n.z n.holds n.value;
        brings = λ ys c i g apart l at.
            subst (λ m. Reach k.block.call.code c g (services_of p) (c + m) (services_of p)
            (λ b y. At b (i + m) (Known (point_ground w p h) (services_of p) numbers (λ j. 0)
            (with' 6 (λ b'. word n.z) ys) b) y)) (sym size)
            (brought_based (x.level == e.level) x.level c g is.base Load.Word (pos (number_place e x))
            (is.base + number_place e x) (λ b. word n.z) (reaches_by x.level is.base h begun o is.frame)
            (omega (arith, inside)) (P.place_at k.block x is even) (λ b m stands. (n.tells m stands.storage).0)
            apart.free1 apart.far (subst (Linked w.links k.block.call.code i) code l) at);
      },
    )

brought_narrow :
    (k : Setting) (x : Spot) (precision : ℕ) → IsFixed k.block x precision → IsBegun k.block → (p : Point)
    (numbers : ℕ → ℕ) (h : frame_of k.block p) → IsAmong k.block numbers p → (index : ℕ) (f : Family) →
    AreIn k.block.call.surroundings p numbers index f →
    (z : ℤ) × Brought k (Y.NumberIn (whole x)) p numbers h z
brought_narrow k x precision is begun p numbers h o index f there =
    let e = k.block.environment in
    let w = k.block.call.surroundings in
    let kind = load_kind (Y.FixedLeaf precision) in
    let n = scalar_at is tt begun o f there in
    let first = number_of precision (n.holds.values 0 []) n.fits in
    let z = first.0 in
    let inside = room_at is in
    let even = (n.tells (f first_base).machine.memory (there first_base).at.storage).1 in
    let code = brought_is e x precision is.initial is.known.declared in
    let size = ap (λ u. size_of u) code in (
      z,
      record {
        wide = fewer_bits precision 31 z first.3 first.2;
        meant = S.number_is k.around precision w.acts z n.holds first.1;
        brings = λ ys c i g apart l at.
            subst (λ m. Reach k.block.call.code c g (services_of p) (c + m) (services_of p)
            (λ b y. At b (i + m) (Known (point_ground w p h) (services_of p) numbers (λ j. 0)
            (with' 6 (λ b'. word z) ys) b) y)) (sym size)
            (brought_based (x.level == e.level) x.level c g is.known.base kind (pos (number_place e x))
            (at_of is) (λ b. word z) (reaches_by x.level is.known.base h begun o is.known.frame)
            (omega (arith, inside)) (place_at is even)
            (λ b m stands. (n.tells m stands.storage).0 ∙ ap word_in first.1)
            apart.free1 apart.far (subst (Linked w.links k.block.call.code i) code l) at);
      },
    )

-- ---- all of them

pub brought_simple :
    (k : Setting) (s : Y.Number) → IsSimple k.block s → IsBegun k.block → (p : Point)
    (numbers : ℕ → ℕ) (h : frame_of k.block p) → IsAmong k.block numbers p → (index : ℕ) (f : Family) →
    AreIn k.block.call.surroundings p numbers index f → (z : ℤ) × Brought k s p numbers h z
brought_simple k s (inl is) begun p numbers h o index f there = (
  pos is.value,
  subst (λ u. Brought k u p numbers h (pos is.value)) (sym is.is)
      (brought_constant k is.value is.few p numbers h),
)
brought_simple k s (inr (inl is)) begun p numbers h o index f there =
    let b = brought_variable k is.spot is.number begun p numbers h o index f there in
    (b.0, subst (λ u. Brought k u p numbers h b.0) (sym is.is) b.1)
brought_simple k s (inr (inr is)) begun p numbers h o index f there =
    let b = brought_narrow k is.spot is.precision is.fixed begun p numbers h o index f there in
    (b.0, subst (λ u. Brought k u p numbers h b.0) (sym is.is) b.1)
