-- The code of an area assignment: what service 12 is given, what it answers, and the test of its status.
use Rattle.std.proofs.Common.{◌≡◌, ◌≢◌, ◌⊎◌, inl, inr, ℕ, ◌+◌, ◌*◌, ◌^◌, ◌<◌, ◌≤◌, length, List, [], ◌∷◌, ◌++◌, Some}
use Rattle.std.proofs.Common.{refl, sym, ap, ◌∙◌, subst, arith}
use Rattle.std.specs.Prelude.{◌==◌}
use Rattle.rv_meaning.specs.declared.instr.BranchTest.TheVariants as Test
use Rattle.rv_meaning.specs.declared.instr.Instr.TheVariants as I
use Rattle.pli_language.specs.declared.condition.Condition.TheVariants as C
use Rattle.pli_meaning.specs.Codes.{area_code}
use Rattle.pli_meaning.specs.Contents.{Placed, greatest_end}
use Rattle.pli_meaning.specs.Raising as R
use Rattle.pli_meaning.specs.Raising.{Around}
use Rattle.pli_meaning.specs.StorageState.{State, force}
use Rattle.pli_serving.specs.Answers.{Answer, Done}
use Rattle.pli_serving.specs.AreaServices as A
use Rattle.pli_coding.specs.Assembly.{CallTo, Code, Plain, RaiseCondition, size_of}
use Rattle.pli_coding.specs.Instructions.{skip_where, small}
use Rattle.pli_coding.specs.Registers.{a0, a1, a7, zero_register}
use Rattle.storage_relation.specs.Served.{NamesArea, call}
use Rattle.storage_relation.proofs.Answering.{assign_refused}
use Rattle.activation_relation.specs.Frames.{frame_under}
use Rattle.activation_relation.specs.Layers.{Point, now, services_of}
use Rattle.activation_relation.specs.Points.{Surroundings}
use Rattle.activation_relation.specs.ServiceLaws.{IsSystem}
use Rattle.run_steps.specs.Bodies.{Known}
use Rattle.run_steps.proofs.Bodies.{zero_is}
use Rattle.run_steps.specs.Calls.{Calling}
use Rattle.run_steps.proofs.Calls.{call_done, called}
use Rattle.run_steps.specs.Engine.{Base}
use Rattle.run_steps.specs.Items.{At, Linked}
use Rattle.run_steps.proofs.Items.{straight}
use Rattle.run_steps.proofs.Jumps.{back_of, call_piece, first_of, front_of, rest_of, skip_passed, skip_taken}
use Rattle.run_steps.proofs.Linking.{size_append}
use Rattle.run_steps.specs.Reach.{Aims, Closed, Comes, Family, Reach, cost, reached}
use Rattle.run_steps.proofs.Reach.{onward, reach_map, reach_then, reached_holds}
use Rattle.run_steps.proofs.Reaching.{reach_moved}
use Rattle.run_steps.specs.Temporaries.{nothing}
use Rattle.block_runs.specs.Machines.{AreIn, IsIn}
use Rattle.block_runs.proofs.BlockEntries.{small_is}
use Rattle.block_runs.proofs.PointGrounds.{StandsIn, call_is, in_known, known_in, point_frame, point_ground}
use Rattle.program_runs.specs.Statements.{Block, IsAmong}
use Rattle.program_runs.proofs.Variables.{own_code, own_comes}
use Rattle.expression_runs.specs.Raises.{Routines}
use Rattle.expression_runs.proofs.Raises.{conditioned}
use Rattle.expression_runs.proofs.Words.{frame_of}
use Rattle.expression_runs.specs.Variables.{Spot}
use Rattle.variable_runs.specs.Known.{place_of}
use Rattle.area_runs.specs.Allocations.{HasArea}
use Rattle.area_runs.proofs.AreaPoints.{AreaAt, area_base, area_lives, area_place}
use Rattle.area_runs.proofs.ChangedPoints.{with_state}
use Rattle.area_runs.proofs.Conditions.{condition_comes}
use Rattle.area_assignments.proofs.Answers.{Turned, assigned_itself, assigned_there}
use Rattle.area_assignments.proofs.AreaCode.{copied_by, refused}
use Rattle.area_assignments.proofs.Emptying.{names_area}
use Rattle.area_assignments.proofs.Points.{turned_point, turned_services, turned_stands, turned_state}

-- two areas of a block, at one of its points
pub record Pair (k : Block) (x y : Spot) (q : Point) (numbers : ℕ → ℕ) : Type 0 where
  pub target : HasArea k x
  pub source : HasArea k y
  pub among : IsAmong k numbers q

abbrev frame_at : {k : Block} {x y : Spot} {q : Point} {numbers : ℕ → ℕ} → Pair k x y q numbers → frame_of k q
frame_at z = point_frame z.among.stands z.among.image

-- ---- what is given

abbrev named_code : Block → (x y : Spot) → Code
named_code k x y =
    own_code a0 (place_of k.environment x) ++ (own_code a1 (place_of k.environment y) ++ (small a7 12 ∷ []))

abbrev tested_code : Code
tested_code = skip_where Test.Equal a1 zero_register refused

abbrev pub whole_code : Block → (x y : Spot) → Code
whole_code k x y = copied_by (place_of k.environment x) (place_of k.environment y)

abbrev given_regs : (target source : ℕ) → Base → List (ℕ × ℕ)
given_regs target source b = (17, 12) ∷ (11, source) ∷ (10, target) ∷ []

named_comes :
    {k : Block} {x y : Spot} {q : Point} {numbers : ℕ → ℕ} {i : ℕ} (z : Pair k x y q numbers) (c : ℕ) (f : Family) →
    Linked k.call.surroundings.links k.call.code i (whole_code k x y) → AreIn k.call.surroundings q numbers i f →
    Reach k.call.code c f (services_of q) (c + size_of (named_code k x y)) (services_of q)
    (λ b y'. At b (i + size_of (named_code k x y)) (Known (point_ground k.call.surroundings q (frame_at z))
    (services_of q) numbers (λ j. 0) (given_regs (area_place z.target) (area_place z.source)) b) y')
named_comes {k} {x} {y} {q} {numbers} {i} z c f l there =
    let w = k.call.surroundings in
    let o = z.among in
    let h = frame_at z in
    let g = point_ground w q h in
    let v = services_of q in
    let to = place_of k.environment x in
    let from = place_of k.environment y in
    let first = own_code a0 to in
    let second = own_code a1 from in
    let asks = small a7 12 ∷ [] in
    let rest = Plain I.Ecall ∷ tested_code in
    let n0 = size_append first (second ++ asks) in
    let n1 = size_append second asks in
    let base = area_base z.target o in
    let base' = area_base z.source o in
    let inside = z.target.known.inside in
    let inside' = z.source.known.inside in
    let l1 = back_of first (second ++ (small a7 12 ∷ rest)) l in
    let l2 = back_of second (small a7 12 ∷ rest) l1 in
    let r1 = own_comes {rs = nothing} h c f a0 to (omega (arith, base, inside)) (λ y' u. refl)
    (record { reserved_stay = λ y' u. refl; known_stay = λ b y' u s. s; set = λ y' u. refl })
    (record { reserved_stay = λ y' u. refl; known_stay = λ b y' u s. s; set = λ y' u. refl })
    (record { reserved_stay = λ y' u. refl; known_stay = λ b y' u s. s; set = λ y' u. refl })
    (front_of first (second ++ (small a7 12 ∷ rest)) l)
    (λ b. known_in {t = λ j. 0} {rs = nothing} h (there b) tt) in
    let r2 = own_comes {rs = λ b'. (10, frame_under w.parts q.control.layers + to) ∷ []} h (c + size_of first)
    (reached r1) a1 from (omega (arith, base', inside')) (λ y' u. refl)
    (record { reserved_stay = λ y' u. refl; known_stay = λ b y' u s. s; set = λ y' u. refl })
    (record { reserved_stay = λ y' u. refl; known_stay = λ b y' u s. s; set = λ y' u. refl })
    (record { reserved_stay = λ y' u. refl; known_stay = λ b y' u s. s; set = λ y' u. refl })
    (front_of second (small a7 12 ∷ rest) l1) (reached_holds r1) in
    let r3 = straight (c + size_of first + size_of second) (reached r2) v v
    (λ b y'. Known g v numbers (λ j. 0) (given_regs (area_place z.target) (area_place z.source)) b y')
    (front_of asks rest l2) (omega arith) (λ b. (reached_holds r2 b).pc)
    (λ b. let s = (reached_holds r2 b).holds in record {
      body = record {
        services = s.body.services;
        registers = s.body.registers;
        bytes = s.body.bytes;
        memory = s.body.memory;
      };
      regs = (
        small_is _ 12 (zero_is s.body) (omega arith),
        (s.regs.0 ∙ ap (λ j. j + from) base', (s.regs.1.0 ∙ ap (λ j. j + to) base, tt)),
      );
    }) in
    reach_moved (omega (arith, n0, n1)) (omega (arith, n0, n1)) (reach_then r1 (reach_then r2 r3))

-- ---- the call

-- what it leaves: another state of storage, and a status
pub record Leaves (w : Surroundings) (q : Point) (s : State) (b : Base) (m : List ℕ) (target source status : ℕ) :
    Type 0 where
  pub memory : List ℕ
  pub stands : StandsIn w (with_state s q) b memory
  pub many : length memory ≡ length m
  pub answered :
      A.area_assignment_served (call (now q m)) target source ≡ Done (services_of q) memory target status

called_comes :
    {k : Block} {x y : Spot} {q : Point} {numbers : ℕ → ℕ} {i : ℕ} (z : Pair k x y q numbers) (s : State) (status : ℕ)
    (c : ℕ) (f : Family) →
    ((b : Base) (m : List ℕ) → StandsIn k.call.surroundings q b m →
    Leaves k.call.surroundings q s b m (area_place z.target) (area_place z.source) status) →
    Linked k.call.surroundings.links k.call.code i (whole_code k x y) → AreIn k.call.surroundings q numbers i f →
    Reach k.call.code c f (services_of q) (c + size_of (named_code k x y) + 1) (services_of q)
    (λ b y'. At b (i + size_of (named_code k x y) + 1)
    (Known (point_ground k.call.surroundings (with_state s q) (frame_at z)) (services_of q) numbers (λ j. 0)
    (λ b'. (11, status) ∷ []) b) y')
called_comes {k} {x} {y} {q} {numbers} {i} z s status c f leaves l there =
    let w = k.call.surroundings in
    let code = k.call.code in
    let o = z.among in
    let h = frame_at z in
    let v = services_of q in
    let named = named_code k x y in
    let rest = Plain I.Ecall ∷ tested_code in
    let first = own_code a0 (place_of k.environment x) in
    let second = own_code a1 (place_of k.environment y) in
    let to = area_place z.target in
    let from = area_place z.source in
    let n0 = size_append first (second ++ (small a7 12 ∷ [])) in
    let n1 = size_append second (small a7 12 ∷ []) in
    let l1 = back_of first (second ++ (small a7 12 ∷ rest)) l in
    let l2 = back_of second (small a7 12 ∷ rest) l1 in
    let l3 = back_of (small a7 12 ∷ []) rest l2 in
    let at_call = first_of (Plain I.Ecall) tested_code l3 in
    let r1 = named_comes z c f l there in
    let g = reached r1 in
    let left' : (b : Base) → Leaves w q s b (g b).machine.memory to from status =
    λ b. leaves b (g b).machine.memory (reached_holds r1 b).holds.body.memory in
    let same : i + size_of first + size_of second + 1 ≡ i + size_of named = omega (arith, n0, n1) in
    let calling : Calling w.links code (i + size_of named) g (λ b. Done v (left' b).memory to status) = record {
      linked = subst (λ j. Linked w.links code j (Plain I.Ecall ∷ [])) same at_call;
      pc = λ b. (reached_holds r1 b).pc;
      answers = λ b.
          let t = (reached_holds r1 b).holds in
          let regs = (g b).machine.registers in
          called code (g b) v 12 to from (regs 12) (regs 13) (regs 14)
          (λ call' x0 x1 x2 x3 x4. A.area_assignment_served call' x0 x1) t.body.services t.regs.0 t.regs.1.1.0
          t.regs.1.0 refl refl refl (λ call' u. refl)
          ∙ ap (λ call'. A.area_assignment_served call' to from) (call_is w code q (g b).machine.memory o.image)
          ∙ (left' b).answered;
    } in
    let r2 = call_done (c + size_of named) g v v (λ b. (left' b).memory) (λ b. to) (λ b. status)
    (λ b y'. Known (point_ground w (with_state s q) h) v numbers (λ j. 0) (λ b'. (11, status) ∷ []) b y') (omega arith)
    calling
    (λ b. let t = (reached_holds r1 b).holds in record {
      body = record {
        services = refl;
        registers = t.body.registers;
        bytes = (left' b).many ∙ t.body.bytes;
        memory = (left' b).stands;
      };
      regs = (refl, tt);
    }) in
    reach_then r1 r2

abbrev rest_linked :
    (k : Block) {i : ℕ} (x y : Spot) → Linked k.call.surroundings.links k.call.code i (whole_code k x y) →
    Linked k.call.surroundings.links k.call.code (i + size_of (named_code k x y) + 1) tested_code
rest_linked k {i} x y l =
    let first = own_code a0 (place_of k.environment x) in
    let second = own_code a1 (place_of k.environment y) in
    let rest = Plain I.Ecall ∷ tested_code in
    let n0 = size_append first (second ++ (small a7 12 ∷ [])) in
    let n1 = size_append second (small a7 12 ∷ []) in
    subst (λ j. Linked k.call.surroundings.links k.call.code j tested_code) (omega (arith, n0, n1))
    (rest_of (Plain I.Ecall) tested_code
    (back_of (small a7 12 ∷ []) rest (back_of second (small a7 12 ∷ rest) (back_of first (second ++ (small a7 12 ∷
    rest)) l))))

-- it was done
pub done_comes :
    {k : Block} {x y : Spot} {q : Point} {numbers : ℕ → ℕ} {i : ℕ} (z : Pair k x y q numbers) (s : State) (c : ℕ)
    (f : Family) → services_of (with_state s q) ≡ services_of q →
    ((b : Base) (m : List ℕ) → StandsIn k.call.surroundings q b m →
    Leaves k.call.surroundings q s b m (area_place z.target) (area_place z.source) 0) →
    Linked k.call.surroundings.links k.call.code i (whole_code k x y) → AreIn k.call.surroundings q numbers i f →
    Reach k.call.code c f (services_of q) (c + size_of (whole_code k x y)) (services_of (with_state s q))
    (λ b y'. IsIn k.call.surroundings (with_state s q) numbers (i + size_of (whole_code k x y)) b y')
done_comes {k} {x} {y} {q} {numbers} {i} z s c f same leaves l there =
    let w = k.call.surroundings in
    let h = frame_at z in
    let whole' = whole_code k x y in
    let first = own_code a0 (place_of k.environment x) in
    let second = own_code a1 (place_of k.environment y) in
    let n0 = size_append first (second ++ (small a7 12 ∷ [])) in
    let n1 = size_append second (small a7 12 ∷ []) in
    let n2 = size_append first (second ++ (small a7 12 ∷ Plain I.Ecall ∷ tested_code)) in
    let n3 = size_append second (small a7 12 ∷ Plain I.Ecall ∷ tested_code) in
    let r1 = called_comes z s 0 c f leaves l there in
    let r2 = skip_taken (c + size_of (named_code k x y) + 1) (reached r1) Test.Equal a1 zero_register refused
    (rest_linked k x y l) (reached_holds r1)
    (λ b. let t = (reached_holds r1 b).holds in
    ap (λ u. u == (reached r1 b).machine.registers 0) t.regs.0 ∙ ap (λ u. 0 == u) (zero_is t.body)) in
    let all = reach_moved {c'' = c + size_of whole'} {i'' = i + size_of whole'} (omega (arith, n0, n1, n2, n3))
    (omega (arith, n0, n1, n2, n3)) (reach_then r1 r2) in
    subst (λ v. Reach k.call.code c f (services_of q) (c + size_of whole') v
    (λ b y'. IsIn w (with_state s q) numbers (i + size_of whole') b y')) (sym same)
    (reach_map _ all (λ b y' t.
    in_known {t = λ j. 0} {rs = nothing} h z.among.image.parts
    (record {
      pc = t.pc;
      holds = record {
        body = record {
          services = t.holds.body.services ∙ sym same;
          registers = t.holds.body.registers;
          bytes = t.holds.body.bytes;
          memory = t.holds.body.memory;
        };
        regs = tt;
      };
    })))

-- it was refused, and nothing changed
pub refused_comes :
    {k : Block} {x y : Spot} {q : Point} {numbers : ℕ → ℕ} {i : ℕ} {aims : Aims (Unit {0})}
    (closed : Closed k.call.code aims) (z : Pair k x y q numbers) (around : Around)
    (routines : Routines k.call.surroundings.links k.call.code) →
    IsSystem (force q.state.activations C.Area) × IsSystem (force q.state.activations C.Error) → (c : ℕ)
    (f : Family) →
    ((b : Base) (m : List ℕ) → StandsIn k.call.surroundings q b m →
    Leaves k.call.surroundings q q.state b m (area_place z.target) (area_place z.source) area_code) →
    (c + size_of (whole_code k x y) + 18 < cost k.call.code) × (k.call.surroundings.acts + 1 < 2 ^ 64) →
    q.control.line ≡ around.line → Linked k.call.surroundings.links k.call.code i (whole_code k x y) →
    AreIn k.call.surroundings q numbers i f →
    Comes k.call.code c f (services_of q) aims (R.raised around C.Area area_code k.call.surroundings.acts q.state)
refused_comes {k} {x} {y} {q} {numbers} {i} closed z around routines system c f leaves afford line l there =
    let w = k.call.surroundings in
    let h = frame_at z in
    let v = services_of q in
    let first = own_code a0 (place_of k.environment x) in
    let second = own_code a1 (place_of k.environment y) in
    let n0 = size_append first (second ++ (small a7 12 ∷ [])) in
    let n1 = size_append second (small a7 12 ∷ []) in
    let n2 = size_append first (second ++ (small a7 12 ∷ Plain I.Ecall ∷ tested_code)) in
    let n3 = size_append second (small a7 12 ∷ Plain I.Ecall ∷ tested_code) in
    let c1 = c + size_of (named_code k x y) + 1 in
    let r1 = called_comes z q.state area_code c f leaves l there in
    let lt = rest_linked k x y l in
    let r2 = skip_passed c1 (reached r1) Test.Equal a1 zero_register refused lt (reached_holds r1)
    (λ b. let t = (reached_holds r1 b).holds in
    ap (λ u. u == (reached r1 b).machine.registers 0) t.regs.0 ∙ ap (λ u. area_code == u) (zero_is t.body)) in
    let l1 = rest_of _ refused lt in
    let two = small a0 1 ∷ small a1 area_code ∷ [] in
    let calls = CallTo RaiseCondition ∷ [] in
    let r3 = straight (c1 + 1) (reached r2) v v
    (λ b y'. Known (point_ground w q h) v numbers (λ j. 0) (conditioned 1 area_code) b y') (front_of two calls l1)
    (omega arith) (λ b. (reached_holds r2 b).pc)
    (λ b. let t = (reached_holds r2 b).holds in record {
      body = record {
        services = t.body.services;
        registers = t.body.registers;
        bytes = t.body.bytes;
        memory = t.body.memory;
      };
      regs = (small_is _ 1 (zero_is t.body) (omega arith), (small_is _ area_code (zero_is t.body) (omega arith), tt));
    }) in
    let inside = routines.linked.inside in
    let near = routines.linked.small' in
    let enough = afford.0 in
    let r4 = call_piece (c1 + 1 + 2) (c1 + 1 + 2 + 2) (reached r3) RaiseCondition routines.at (omega arith)
    routines.condition (omega (arith, inside, near))
    (record { reserved_stay = λ y' u. refl; known_stay = λ b y' u t. t; set = λ y' u. refl }) (back_of two calls l1)
    (reached_holds r3) in
    onward closed (reach_then r1 (reach_then r2 (reach_then r3 r4))) (λ f' at'.
    condition_comes closed routines (c1 + 1 + 2 + 2) f' around C.Area 1 area_code h (z.among.stands, z.among.image) refl
    (omega arith) (omega (arith, enough, n0, n1, n2, n3), afford.1) line system
    (λ b. record {
      pc = (at' b).pc;
      holds = record { body = (at' b).holds.body; regs = (at' b).holds.regs.1 };
    }))

-- ---- what service 12 leaves

abbrev small_code : Block → Type 0
small_code k = 4 * length k.call.code ≤ 2 ^ 22

-- one area assigned to itself
pub itself :
    {k : Block} {x y : Spot} {q : Point} {numbers : ℕ → ℕ} (z : Pair k x y q numbers) → small_code k →
    z.target.known.serial ≡ z.source.known.serial → (b : Base) (m : List ℕ) → StandsIn k.call.surroundings q b m →
    Leaves k.call.surroundings q q.state b m (area_place z.target) (area_place z.source) 0
itself {k} {q = q} z small' same b m stands =
    let i = z.target.known.serial in
    record {
      memory = m;
      stands = stands;
      many = refl;
      answered =
          assigned_itself (now q m) stands.storage (area_place z.target) (area_place z.source) i
          (names_area z.target z.among small' b m stands)
          (subst (λ n. NamesArea (now q m) (area_place z.source) n) (sym same)
          (names_area z.source z.among small' b m stands));
    }

abbrev pub placed_in :
    {k : Block} {x : Spot} {q : Point} {numbers : ℕ → ℕ} (is : HasArea k x) → IsAmong k numbers q → List Placed
placed_in {x = x} is o = (area_lives x is o).living.placed

abbrev pub copied_state : {k : Block} {x y : Spot} {q : Point} {numbers : ℕ → ℕ} → Pair k x y q numbers → State
copied_state {q = q} z =
    turned_state z.target.known.serial (λ placed. placed_in z.source z.among) q.state

-- what lives in one lives in the other
pub copied :
    {k : Block} {x y : Spot} {q : Point} {numbers : ℕ → ℕ} (z : Pair k x y q numbers) → small_code k →
    z.target.known.serial ≢ z.source.known.serial →
    greatest_end (placed_in z.source z.among) ≤ z.target.capacity → (b : Base) (m : List ℕ) →
    StandsIn k.call.surroundings q b m →
    Leaves k.call.surroundings q (copied_state z) b m (area_place z.target) (area_place z.source) 0
copied {k} {x} {y} {q} z small' other fits b m stands =
    let into = area_lives x z.target z.among in
    let t = assigned_there (now q m) stands.storage (area_place z.target) (area_place z.source) z.target.known.serial
    z.source.known.serial (names_area z.target z.among small' b m stands)
    (names_area z.source z.among small' b m stands) other fits in
    record {
      memory = t.memory;
      stands =
          turned_stands k.call.surroundings (record { capacity = z.target.capacity; placed = into.living.placed }) b
          into.some into.area t z.among.stands stands;
      many = t.beside.as_many;
      answered = t.answered;
    }

pub too_small :
    {k : Block} {x y : Spot} {q : Point} {numbers : ℕ → ℕ} (z : Pair k x y q numbers) → small_code k →
    z.target.known.serial ≢ z.source.known.serial →
    z.target.capacity < greatest_end (placed_in z.source z.among) → (b : Base) (m : List ℕ) →
    StandsIn k.call.surroundings q b m →
    Leaves k.call.surroundings q q.state b m (area_place z.target) (area_place z.source) area_code
too_small {q = q} z small' other big b m stands =
    record {
      memory = m;
      stands = stands;
      many = refl;
      answered =
          assign_refused (now q m) stands.storage (area_place z.target) (area_place z.source) z.target.known.serial
          z.source.known.serial (names_area z.target z.among small' b m stands)
          (names_area z.source z.among small' b m stands) other big;
    }
