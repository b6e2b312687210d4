-- A parameter of a block, or of one around it, is found and read: service 8 finds its data by the name in the list.
use Rattle.std.proofs.Common.{◌≡◌, ℕ, ◌+◌, ◌-◌, ◌*◌, ◌%◌, ◌^◌, ◌<◌, ◌≤◌, List, [], ◌∷◌, ◌++◌}
use Rattle.std.proofs.Common.{Some, None, true, false, refl, sym, ap, ◌∙◌, subst, arith}
use Rattle.std.proofs.lemmas.Bool.{le-leb}
use Rattle.std.proofs.lemmas.Bool.Decides.{nat_tests}
use Rattle.std.specs.Prelude.{ℤ, cond, pos, ◌&&◌, ◌==◌, nat_le}
use Rattle.rv_meaning.specs.declared.instr.BranchTest.TheVariants as Test
use Rattle.rv_meaning.specs.declared.instr.Instr.{Instr}
use Rattle.rv_meaning.specs.declared.instr.Instr.TheVariants as I
use Rattle.rv_meaning.specs.Machine.{memory_size}
use Rattle.rv_meaning.specs.Memory.{load}
use Rattle.rv_meaning.specs.Words.{sum, word}
use Rattle.pli_typing.specs.Signatures.{Fixed}
use Rattle.pli_typing.specs.TypedTree as Y
use Rattle.pli_meaning.specs.BasicValues.{BasicBit, BasicNumber, BasicOffset, BasicPointer, BasicText, BasicValue}
use Rattle.pli_meaning.specs.BasicValues.{VariableName}
use Rattle.pli_meaning.specs.Codes.{no_generation_code}
use Rattle.pli_meaning.specs.Contents.{Generation, leaves_with}
use Rattle.pli_meaning.specs.Numbers.{is_of_precision}
use Rattle.pli_meaning.specs.StorageState.{Activation, ancestor, binding_in, generation_at, generation_of, living_of}
use Rattle.pli_meaning.specs.StorageState.{newest_height}
use Rattle.pli_meaning.specs.StorageState as Q
use Rattle.pli_serving.specs.Answers.{Answer, Done}
use Rattle.pli_serving.specs.Arguments.{name_in, shape_of_number, where_found}
use Rattle.pli_serving.specs.Bytes.{name_at}
use Rattle.pli_serving.specs.Finding.{Found}
use Rattle.pli_serving.specs.Names.{resolve_served, resolved}
use Rattle.pli_serving.specs.ServiceState.{Services}
use Rattle.pli_serving.specs.Serving.{found_served}
use Rattle.pli_serving.specs.Outcomes.{or_bad}
use Rattle.pli_serving.specs.Templates.{shape_at}
use Rattle.pli_coding.specs.Assembly.{JumpTo, Plain, RaiseError, size_of}
use Rattle.pli_coding.specs.Expressions.{number_code}
use Rattle.pli_coding.specs.Instructions.{status_tested}
use Rattle.pli_coding.specs.Registers.{a1, zero_register}
use Rattle.storage_relation.specs.Served as H
use Rattle.storage_relation.specs.Served.{call}
use Rattle.storage_relation.specs.Telling.{IsOf, Tells}
use Rattle.storage_relation.proofs.CallArguments.{asked_named}
use Rattle.storage_relation.proofs.Changes.{element_held}
use Rattle.storage_relation.proofs.Placing.{none_above}
use Rattle.storage_relation.proofs.Values.{word_loaded}
use Rattle.activation_relation.specs.Layers.{Point, now, services_of}
use Rattle.activation_relation.specs.Remaining.{LivesOn}
use Rattle.activation_relation.proofs.Remaining.{shapes_remain}
use Rattle.run_steps.specs.Bodies.{Known}
use Rattle.run_steps.proofs.Bodies.{zero_is}
use Rattle.run_steps.specs.Calls.{Calling}
use Rattle.run_steps.proofs.Calls.{call_done}
use Rattle.run_steps.specs.Engine.{Base, call_at, served}
use Rattle.run_steps.specs.Items.{At, Linked}
use Rattle.run_steps.proofs.Items.{straight}
use Rattle.run_steps.proofs.Jumps.{back_of, first_of, front_of, rest_of, skip_taken}
use Rattle.run_steps.proofs.Linking.{size_append}
use Rattle.run_steps.specs.Reach.{Comes, Family, Reach, reached}
use Rattle.run_steps.proofs.Reach.{reach_then, reached_holds}
use Rattle.run_steps.proofs.Reaching.{reach_moved}
use Rattle.run_steps.specs.Unlimited as U
use Rattle.image_runs.specs.Runs.{Whole}
use Rattle.block_runs.specs.Machines.{AreIn}
use Rattle.block_runs.proofs.BlockEntries.{small_is}
use Rattle.block_runs.proofs.PointGrounds.{call_is, known_in, point_frame, point_ground}
use Rattle.program_runs.specs.Statements.{Block, IsAmong}
use Rattle.expression_runs.specs.Laws as E
use Rattle.expression_runs.specs.Values.{Setting, behind, in_registers, number_aims}
use Rattle.expression_runs.specs.Variables.{Spot}
use Rattle.expression_runs.proofs.VariablePoints.{first_base}
use Rattle.expression_runs.proofs.Words.{frame_of, valued, word_here}
use Rattle.argument_runs.specs.Parameters.{parameter, parameter_shape}
use Rattle.argument_runs.proofs.ParameterCode as P
use Rattle.argument_runs.proofs.ParameterCode.{addressing_code, parameter_is, parameter_named, value_loaded}
use Rattle.argument_runs.proofs.Parameters.{generation_is, name_there, there_at, word_there}
use Rattle.expression_runs.proofs.VariablePoints.{reaches_by}
use Rattle.parameter_runs.specs.Around.{IsParameterAround}
use Rattle.parameter_runs.proofs.AroundCode.{asking_code, found_code, list_by, read_code, read_coded, sign_by}
use Rattle.parameter_runs.proofs.Finding.{IsFound, Takes, list_comes, sign_comes}
use Rattle.parameter_runs.proofs.Lists.{IsThere, lying, part_of, words_at}

-- ---- what it holds

number_of : (v : BasicValue) → IsOf (Fixed 31) v → (z : ℤ) × (v ≡ BasicNumber z) × (is_of_precision 31 z ≡ true)
number_of (BasicNumber z) is = (z, refl, is.1)
number_of (BasicText t) is = absurd is
number_of (BasicBit b) is = absurd is
number_of (BasicPointer n) is = absurd is
number_of (BasicOffset o) is = absurd is

-- a number of 31 bits, in the data where service 8 finds them
pub record CopyAt (k : Block) (x : Spot) (is : IsParameterAround k x) (p : Point) : Type 0 where
  pub holds : P.Holds p.state x
  pub same : holds.serial ≡ is.entry.serial
  pub here : p.places.at holds.serial ≡ k.first.places.at is.entry.serial
  pub z : ℤ
  pub value : holds.values 0 [] ≡ BasicNumber z
  pub wide : is_of_precision 31 z ≡ true
  pub tells :
      (m : List ℕ) → H.Holds (now p m) →
      (load 4 m (k.first.places.at is.entry.serial) ≡ word z) × (k.first.places.at is.entry.serial % 4 ≡ 0)

pub copy_at :
    {k : Block} {numbers : ℕ → ℕ} {p : Point} {index : ℕ} (x : Spot) (is : IsParameterAround k x) → IsAmong k numbers p
    →
    (f : Family) → AreIn k.call.surroundings p numbers index f → CopyAt k x is p
copy_at {k} {p = p} x is o f there =
    record {
      holds = holds;
      same = refl;
      here = here;
      z = first.0;
      value = first.1;
      wide = first.2;
      tells = λ m stored.
          let t = told m stored in
          let e : p.places.at is.entry.serial + 0 + 0 ≡ k.first.places.at is.entry.serial = omega (arith, here) in (
            ap (load 4 m) (sym e)
                ∙ word_loaded 31 (p.places.at is.entry.serial + 0 + 0) first.0 m refl
                (subst (λ v. Tells (Fixed 31) v (p.places.at is.entry.serial + 0 + 0) m) first.1 t.0),
            subst (λ n. n % 4 ≡ 0) e t.1,
          );
    }
  where
    on : LivesOn is.living (living_of p.state.living is.entry.serial)
    on = o.later.remains.living is.entry.serial is.living is.lives

    g : Generation
    g = on.there.generation

    same : g ≡ record { shape = parameter_shape; extent = pos 0; values = g.values }
    same = generation_is g (on.shape ∙ is.shape) (o.stands.lives.extents is.entry.serial on.there on.lives)

    holds : P.Holds p.state x
    holds =
        record {
          serial = is.entry.serial;
          stands =
              ap (λ xs. binding_in (ancestor xs (newest_height xs) x.level) x.index) o.later.activations ∙ is.binding;
          values = g.values;
          living = on.there;
          lives = on.lives;
          generation = same;
        }

    low : is.entry.serial < k.first.state.serials + 1
    low = none_above (k.first.state.serials + 1) k.first.state.living is.entry.serial is.living
        is.begun.resumes.stands.lives.falling is.lives

    here : p.places.at is.entry.serial ≡ k.first.places.at is.entry.serial
    here = o.later.remains.at is.entry.serial (omega (arith, low))

    there_is : generation_at p.state (VariableName is.entry.serial)
        ≡ Some (record { shape = parameter_shape; extent = pos 0; values = g.values })
    there_is = ap generation_of on.lives ∙ ap (λ y. Some y) same

    told : (m : List ℕ) → H.Holds (now p m) →
        Tells (Fixed 31) (g.values 0 []) (p.places.at is.entry.serial + 0 + 0) m × ((p.places.at is.entry.serial + 0 +
        0) % 4 ≡ 0)
    told m stored =
        element_held (now p m) stored (VariableName is.entry.serial)
        (record { shape = parameter_shape; extent = pos 0; values = g.values }) (pos 0) 0 [] there_is refl
        (record { less = refl; leaf_there = omega arith; within = refl })

    first : (z : ℤ) × (g.values 0 [] ≡ BasicNumber z) × (is_of_precision 31 z ≡ true)
    first = number_of (g.values 0 [])
        (told (f first_base).machine.memory (there first_base).at.storage).0.fits

-- ---- what service 8 answers

resolved_answer :
    {k : Block} {numbers : ℕ → ℕ} {p : Point} (x : Spot) (is : IsParameterAround k x) → IsAmong k numbers p →
    (c : CopyAt k x is p) (base : ℕ) (m : List ℕ) → H.Holds (now p m) → IsThere is.base x.level is.entry base m →
    (p.layout.code_bytes ≤ 2 ^ 22) × (p.layout.end ≡ memory_size) →
    resolve_served (call (now p m)) (part_of is.entry) is.entry.signature 0 0
    ≡ Done (services_of p) m (k.first.places.at is.entry.serial + 0) 0
resolved_answer {k} {p = p} x is o c base m stored list layout =
    let v = call (now p m) in
    let at = part_of is.entry in
    let y = lying is o in
    let high = y.list.high in
    let room = y.list.room in
    let near = is.near in
    let start = layout.0 in
    let end = layout.1 in
    let t1 : nat_le p.layout.code_bytes at ≡ true = le-leb _ _ (omega (arith, start, high)) in
    let t2 : nat_le (at + 16) p.layout.end ≡ true = le-leb _ _ (omega (arith, end, room, near)) in
    let named' : name_in v at ≡ Some (VariableName is.entry.serial) =
    ap (λ q. cond (q && nat_le (at + 16) p.layout.end) (name_at at m) None) t1
    ∙ ap (λ q. cond q (name_at at m) None) t2
    ∙ name_there is.entry.serial at m list.name.kind list.name.low list.name.high in
    let i = asked_named (now p m) stored at is.entry.signature (VariableName is.entry.serial) parameter_shape
    (record { shape = parameter_shape; extent = pos 0; values = c.holds.values })
    (record { shape_same = numbered; own = own }) named'
    (ap (λ n. Q.named p.state (VariableName n) parameter_shape) (sym c.same) ∙ parameter_named c.holds) in
    let found = i.0.found in
    let answer : Found → Answer = λ f. or_bad (shape_of_number v f.signature)
    (λ s. resolved v 0 0 f (leaves_with f.extent s)) in
    ap (λ q. where_found q (Done (services_of p) m at no_generation_code) answer) i.1
    ∙ ap (λ s. or_bad s (λ s'. resolved v 0 0 found (leaves_with found.extent s'))) i.0.shape
    ∙ ap (λ e. resolved v 0 0 found (leaves_with e parameter_shape)) i.0.extent
    ∙ ap (λ n. Done (services_of p) m (n + 0) 0) (i.0.at ∙ ap p.places.at (sym c.same) ∙ c.here)
  where
    own : (is.entry.signature == 2 ^ 32 - 1) ≡ false
    own = let few = is.number in grind (arith, few, nat_tests)

    numbered : shape_at p.places.signatures is.entry.signature ≡ Some parameter_shape
    numbered = shapes_remain o.later.remains is.entry.signature parameter_shape is.numbered

-- with mode 0, whatever the other registers
resolve_called :
    (code : List Instr) (y : Whole) (v : Services) (x0 x1 : ℕ) → y.services ≡ v →
    (y.machine.registers 17 ≡ 8) × (y.machine.registers 10 ≡ x0) × (y.machine.registers 11 ≡ x1)
    × (y.machine.registers 12 ≡ 0) × (y.machine.registers 13 ≡ 0) × (y.machine.registers 14 ≡ 0) →
    served code y ≡ resolve_served (call_at code v y.machine.memory) x0 x1 0 0
unfolding served
resolve_called code y v x0 x1 e r =
    let x = y.machine.registers in
    let m = y.machine.memory in
    let c = call_at code y.services m in
    ap (λ n. U.served n c x) r.0
    ∙ ap (found_served c x) r.5
    ∙ ap (λ u. resolve_served (call_at code u m) (x 10) (x 11) (x 12) (x 13)) e
    ∙ ap (λ u. resolve_served (call_at code v m) u (x 11) (x 12) (x 13)) r.1
    ∙ ap (λ u. resolve_served (call_at code v m) x0 u (x 12) (x 13)) r.2
    ∙ ap (λ u. resolve_served (call_at code v m) x0 x1 u (x 13)) r.3
    ∙ ap (λ u. resolve_served (call_at code v m) x0 x1 0 u) r.4

-- ---- the code

abbrev pub named_regs : {k : Block} {x : Spot} → IsParameterAround k x → Base → List (ℕ × ℕ)
named_regs is b = (10, part_of is.entry) ∷ []

abbrev asking_regs : {k : Block} {x : Spot} → IsParameterAround k x → Base → List (ℕ × ℕ)
asking_regs is b = (17, 8) ∷ (14, 0) ∷ (13, 0) ∷ (12, 0) ∷ (11, is.entry.signature) ∷ named_regs is b

abbrev answered_regs : {k : Block} {x : Spot} → IsParameterAround k x → Base → List (ℕ × ℕ)
answered_regs {k} is b = (11, 0) ∷ (10, k.first.places.at is.entry.serial + 0) ∷ []

abbrev pub found_regs : {k : Block} {x : Spot} → IsParameterAround k x → Base → List (ℕ × ℕ)
found_regs {k} is b = (28, b.at + k.first.places.at is.entry.serial) ∷ []

address_at : (b : Base) (x n : ℕ) → x ≡ n + 0 → n + 4 ≤ 15 * 2 ^ 20 → sum (sum x (word (pos 0))) b.at ≡ b.at + n
address_at b x n e inside = let v = b.valid.1 in omega (arith, e, inside, v)

-- where the list is found at a point of the block
pub found_at :
    {k : Block} {x : Spot} {numbers : ℕ → ℕ} {p : Point} (is : IsParameterAround k x) → IsAmong k numbers p →
    (h : frame_of k p) →
    IsFound k.call.surroundings p h (x.level == k.environment.level) x.level is.base is.entry
found_at {k} {x} is o h =
    record {
      reaches = reaches_by {k = k} x.level is.base h is.begun o is.frame;
      lies = lying is o;
      there = λ b m stands. words_at is o b.at m stands.frames;
      few = is.few;
      near = is.near;
    }

-- a1 and u1 may be written beside the place in the list
pub takes_one : {n : ℕ} → Takes a1 (λ b. (10, n) ∷ [])
takes_one =
    record {
      near = λ y u. refl;
      free = record { reserved_stay = λ y u. refl; known_stay = λ b y u o. o; set = λ y u. refl };
      far = record { reserved_stay = λ y u. refl; known_stay = λ b y u o. o; set = λ y u. refl };
      still = λ m. record { reserved_stay = λ y u. refl; known_stay = λ b y u o. o; set = λ y u. refl };
    }

asking_comes :
    {k : Block} {x : Spot} {numbers : ℕ → ℕ} {p : Point} {i : ℕ} (is : IsParameterAround k x) (h : frame_of k p)
    (c : ℕ) (f : Family) → Linked k.call.surroundings.links k.call.code i asking_code →
    ((b : Base) → At b i (Known (point_ground k.call.surroundings p h) (services_of p) numbers (λ j. 0)
    (λ b'. (11, is.entry.signature) ∷ named_regs is b') b) (f b)) →
    Reach k.call.code c f (services_of p) (c + size_of asking_code) (services_of p)
    (λ b y. At b (i + size_of asking_code) (Known (point_ground k.call.surroundings p h) (services_of p)
    numbers (λ j. 0) (asking_regs is) b) y)
asking_comes {k} {x} {numbers} {p} is h c f l there =
    let v = services_of p in
    straight c f v v (λ b z. Known (point_ground k.call.surroundings p h) v numbers (λ i'. 0) (asking_regs is) b z)
    l (omega arith) (λ b. (there b).pc)
    (λ b.
    let o' = (there b).holds in
    let z = (f b).machine.registers in (
    record {
      body = record {
        services = o'.body.services;
        registers = o'.body.registers;
        bytes = o'.body.bytes;
        memory = o'.body.memory;
      };
      regs = (
        small_is (z 0) 8 (zero_is o'.body) (omega arith),
        (
          small_is (z 0) 0 (zero_is o'.body) (omega arith),
          (
            small_is (z 0) 0 (zero_is o'.body) (omega arith),
            (small_is (z 0) 0 (zero_is o'.body) (omega arith), (o'.regs.0, o'.regs.1)),
          ),
        ),
      );
    }
    ))

resolved_comes :
    {k : Block} {x : Spot} {numbers : ℕ → ℕ} {p : Point} {i : ℕ} (is : IsParameterAround k x) (o : IsAmong k numbers p)
    (n : CopyAt k x is p) (h : frame_of k p) (c : ℕ) (f : Family) →
    Linked k.call.surroundings.links k.call.code i (Plain I.Ecall ∷ []) →
    ((b : Base) → At b i (Known (point_ground k.call.surroundings p h) (services_of p) numbers (λ j. 0)
    (asking_regs is) b) (f b)) →
    Reach k.call.code c f (services_of p) (c + 1) (services_of p)
    (λ b y. At b (i + 1) (Known (point_ground k.call.surroundings p h) (services_of p) numbers (λ j. 0)
    (answered_regs is) b) y)
resolved_comes {k} {x} {numbers} {p} {i} is o n h c f l there =
    let w = k.call.surroundings in
    let code = k.call.code in
    let v = services_of p in
    let small' = l.small' in
    let at = part_of is.entry in
    let place = k.first.places.at is.entry.serial in
    let e1 = ap (λ u. u.code_bytes) o.image.layout in
    let layout : (p.layout.code_bytes ≤ 2 ^ 22) × (p.layout.end ≡ memory_size) =
    (omega (arith, e1, small'), ap (λ u. u.end) o.image.layout) in
    let calling : Calling w.links code i f (λ b. Done v (f b).machine.memory (place + 0) 0) =
    record {
      linked = l;
      pc = λ b. (there b).pc;
      answers = λ b.
          let o' = (there b).holds in
          let m = (f b).machine.memory in
          resolve_called code (f b) v at is.entry.signature o'.body.services (
            o'.regs.0,
            o'.regs.1.1.1.1.1.0,
            o'.regs.1.1.1.1.0,
            o'.regs.1.1.1.0,
            o'.regs.1.1.0,
            o'.regs.1.0,
          )
          ∙ ap (λ call'. resolve_served call' at is.entry.signature 0 0) (call_is w code p m o.image)
          ∙ resolved_answer x is o n b.at m o'.body.memory.storage (words_at is o b.at m o'.body.memory.frames) layout;
    } in
    call_done c f v v (λ b. (f b).machine.memory) (λ b. place + 0) (λ b. 0)
    (λ b z. Known (point_ground w p h) v numbers (λ j. 0) (answered_regs is) b z) (omega arith) calling
    (λ b.
    let o' = (there b).holds in
    record {
      body = record {
        services = refl;
        registers = o'.body.registers;
        bytes = o'.body.bytes;
        memory = o'.body.memory;
      };
      regs = (refl, (refl, tt));
    })

tested_comes :
    {k : Block} {x : Spot} {numbers : ℕ → ℕ} {p : Point} {i : ℕ} (is : IsParameterAround k x) (h : frame_of k p) (c : ℕ)
    (f : Family) → Linked k.call.surroundings.links k.call.code i status_tested →
    ((b : Base) → At b i (Known (point_ground k.call.surroundings p h) (services_of p) numbers (λ j. 0)
    (answered_regs is) b) (f b)) →
    Reach k.call.code c f (services_of p) (c + 3) (services_of p)
    (λ b y. At b (i + 3) (Known (point_ground k.call.surroundings p h) (services_of p) numbers (λ j. 0)
    (answered_regs is) b) y)
tested_comes is h c f l there =
    skip_taken c f Test.Equal a1 zero_register (JumpTo RaiseError ∷ []) l there
    (λ b. let o' = (there b).holds in
    ap (λ u. u == (f b).machine.registers 0) o'.regs.0 ∙ ap (λ u. 0 == u) (zero_is o'.body))

addressed_comes :
    {k : Block} {x : Spot} {numbers : ℕ → ℕ} {p : Point} {i : ℕ} (is : IsParameterAround k x) (h : frame_of k p) (c : ℕ)
    (f : Family) → Linked k.call.surroundings.links k.call.code i addressing_code →
    ((b : Base) → At b i (Known (point_ground k.call.surroundings p h) (services_of p) numbers (λ j. 0)
    (answered_regs is) b) (f b)) →
    Reach k.call.code c f (services_of p) (c + size_of addressing_code) (services_of p)
    (λ b y. At b (i + size_of addressing_code) (Known (point_ground k.call.surroundings p h) (services_of p) numbers
    (λ j. 0) (found_regs is) b) y)
addressed_comes {k} {x} {numbers} {p} is h c f l there =
    let v = services_of p in
    let inside = is.inside in
    let place = k.first.places.at is.entry.serial in
    straight c f v v (λ b z. Known (point_ground k.call.surroundings p h) v numbers (λ j. 0) (found_regs is) b z)
    l (omega arith) (λ b. (there b).pc)
    (λ b.
    let o' = (there b).holds in (
      refl,
      record {
        body = record {
          services = o'.body.services;
          registers = o'.body.registers;
          bytes = o'.body.bytes;
          memory = o'.body.memory;
        };
        regs = (address_at b ((f b).machine.registers 10) place o'.regs.1.0 inside, tt);
      },
    ))

-- its data are found
pub found_comes :
    {k : Block} {x : Spot} {numbers : ℕ → ℕ} {p : Point} {i : ℕ} (is : IsParameterAround k x) (o : IsAmong k numbers p)
    (n : CopyAt k x is p) (h : frame_of k p) (c : ℕ) (f : Family) →
    Linked k.call.surroundings.links k.call.code i
    (found_code (x.level == k.environment.level) x.level is.entry.place) →
    AreIn k.call.surroundings p numbers i f →
    Reach k.call.code c f (services_of p)
    (c + size_of (found_code (x.level == k.environment.level) x.level is.entry.place)) (services_of p)
    (λ b y. At b (i + size_of (found_code (x.level == k.environment.level) x.level is.entry.place))
    (Known (point_ground k.call.surroundings p h) (services_of p) numbers (λ j. 0) (found_regs is) b) y)
found_comes {k} {x} {numbers} {p} {i} is o n h c f l there =
    let q = x.level == k.environment.level in
    let name = list_by q x.level is.entry.place in
    let signs = sign_by q a1 x.level is.entry.place in
    let last = status_tested ++ addressing_code in
    let tail = asking_code ++ (Plain I.Ecall ∷ last) in
    let l1 = back_of name (signs ++ tail) l in
    let l2 = back_of signs tail l1 in
    let l3 = back_of asking_code (Plain I.Ecall ∷ last) l2 in
    let l4 = rest_of (Plain I.Ecall) last l3 in
    let n0 = size_append name (signs ++ tail) in
    let n1 = size_append signs tail in
    let at = found_at is o h in
    let r1 = list_comes q h at c f (front_of name (signs ++ tail) l) (λ b. known_in h (there b) tt) in
    let r2 = sign_comes q a1 {rs = named_regs is} h at takes_one (c + size_of name) (reached r1)
    (front_of signs tail l1) (reached_holds r1) in
    let r3 = asking_comes is h (c + size_of name + size_of signs) (reached r2)
    (front_of asking_code (Plain I.Ecall ∷ last) l2) (reached_holds r2) in
    let r4 = resolved_comes is o n h (c + size_of name + size_of signs + size_of asking_code) (reached r3)
    (first_of (Plain I.Ecall) last l3) (reached_holds r3) in
    let r5 = tested_comes is h (c + size_of name + size_of signs + size_of asking_code + 1) (reached r4)
    (front_of status_tested addressing_code l4) (reached_holds r4) in
    let r6 = addressed_comes is h (c + size_of name + size_of signs + size_of asking_code + 1 + 3) (reached r5)
    (back_of status_tested addressing_code l4) (reached_holds r5) in
    reach_moved (omega (arith, n0, n1)) (omega (arith, n0, n1))
    (reach_then r1 (reach_then r2 (reach_then r3 (reach_then r4 (reach_then r5 r6)))))

-- and read
value_comes :
    {k : Block} {x : Spot} {numbers : ℕ → ℕ} {p : Point} {i : ℕ} (is : IsParameterAround k x) (n : CopyAt k x is p)
    (h : frame_of k p) (c : ℕ) (f : Family) → Linked k.call.surroundings.links k.call.code i value_loaded →
    ((b : Base) → At b i (Known (point_ground k.call.surroundings p h) (services_of p) numbers (λ j. 0)
    (found_regs is) b) (f b)) →
    Reach k.call.code c f (services_of p) (c + size_of value_loaded) (services_of p)
    (λ b y. At b (i + size_of value_loaded) (Known (point_ground k.call.surroundings p h) (services_of p) numbers
    (λ j. 0) (valued (word n.z)) b) y)
value_comes {k} {x} {numbers} {p} is n h c f l there =
    let v = services_of p in
    let inside = is.inside in
    let place = k.first.places.at is.entry.serial in
    straight c f v v (λ b z. Known (point_ground k.call.surroundings p h) v numbers (λ j. 0) (valued (word n.z)) b z)
    l (omega arith) (λ b. (there b).pc)
    (λ b.
    let o' = (there b).holds in
    let z = (f b).machine.registers in
    let t' = n.tells (f b).machine.memory o'.body.memory.storage in (
      word_there b (sum (z 28) (word (pos 0))) place (there_at b (z 28) place o'.regs.0 inside) t'.1
          (omega (arith, inside)),
      record {
        body = record {
          services = o'.body.services;
          registers = o'.body.registers;
          bytes = o'.body.bytes;
          memory = o'.body.memory;
        };
        regs = (t'.0, tt);
      },
    ))

read_comes :
    {k : Block} {x : Spot} {numbers : ℕ → ℕ} {p : Point} {i : ℕ} (is : IsParameterAround k x) (o : IsAmong k numbers p)
    (n : CopyAt k x is p) (h : frame_of k p) (c : ℕ) (f : Family) →
    Linked k.call.surroundings.links k.call.code i (read_code (x.level == k.environment.level) x.level is.entry.place) →
    AreIn k.call.surroundings p numbers i f →
    Reach k.call.code c f (services_of p) (c + size_of (read_code (x.level == k.environment.level) x.level
    is.entry.place)) (services_of p)
    (λ b y. At b (i + size_of (read_code (x.level == k.environment.level) x.level is.entry.place)) (Known (point_ground
    k.call.surroundings p h)
    (services_of p) numbers (λ j. 0) (valued (word n.z)) b) y)
read_comes {k} {x} is o n h c f l there =
    let finds = found_code (x.level == k.environment.level) x.level is.entry.place in
    let m = size_append finds value_loaded in
    let r1 = found_comes is o n h c f (front_of finds value_loaded l) there in
    let r2 = value_comes is n h (c + size_of finds) (reached r1) (back_of finds value_loaded l) (reached_holds r1) in
    reach_moved (omega (arith, m)) (omega (arith, m)) (reach_then r1 r2)

pub around_does : (k : Setting) (x : Spot) → IsParameterAround k.block x → E.Does k 0 (Y.NumberIn (parameter x))
around_does k x is p numbers taken c index f o line registers l paid there =
    let e = k.block.environment in
    let w = k.block.call.surroundings in
    let code = k.block.call.code in
    let t = in_registers k.words taken in
    let n = copy_at x is o f there in
    let h = point_frame o.stands o.image in
    let coded = read_coded e t x is.entry.place is.declared is.numbered_so in
    let size = ap (λ u. size_of u) coded in
    let l0 = subst (Linked w.links code index) coded l in
    let part = number_code e t (Y.NumberIn (parameter x)) in
    subst (λ flow. Comes code c f (services_of p)
    (number_aims k.block k.labels (behind p numbers taken c index part)) flow)
    (sym (parameter_is k.around w.acts n.z n.holds n.value))
    (record {
      to = λ early. (
        n.wide,
        word_here {x = behind p numbers taken c index part} h o (omega arith) refl
            (reach_moved (omega (arith, size)) (omega (arith, size)) (read_comes is o n h c f l0 there)),
      );
    })
