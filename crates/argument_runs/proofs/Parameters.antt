-- A parameter is found and read: service 8 finds its data by the name in the caller's list.
use Rattle.std.proofs.Common.{◌≡◌, ℕ, suc, ◌+◌, ◌-◌, ◌*◌, ◌/◌, ◌%◌, ◌^◌, ◌<◌, ◌≤◌, List, [], ◌∷◌, ◌++◌}
use Rattle.std.proofs.Common.{Some, None, true, false, refl, sym, ap, ◌∙◌, subst, arith}
use Rattle.std.proofs.lemmas.Bool.{le-leb}
use Rattle.std.proofs.lemmas.Bool.Decides.{nat_tests}
use Rattle.std.proofs.lemmas.Int.{ints}
use Rattle.std.specs.Prelude.{ℤ, cond, pos, ◌&&◌, ◌==◌, nat_le}
use Rattle.rv_meaning.specs.declared.instr.BranchTest.TheVariants as Test
use Rattle.rv_meaning.specs.declared.instr.Instr.{Instr}
use Rattle.rv_meaning.specs.declared.instr.Instr.TheVariants as I
use Rattle.rv_meaning.specs.Machine.{memory_size}
use Rattle.rv_meaning.specs.Memory.{load}
use Rattle.rv_meaning.specs.Words.{sum, word}
use Rattle.pli_typing.specs.Signatures.{Fixed}
use Rattle.pli_typing.specs.TypedTree as Y
use Rattle.pli_meaning.specs.BasicValues.{BasicBit, BasicNumber, BasicOffset, BasicPointer, BasicText, BasicValue}
use Rattle.pli_meaning.specs.BasicValues.{VariableName}
use Rattle.pli_meaning.specs.Codes.{no_generation_code}
use Rattle.pli_meaning.specs.Contents.{Generation, leaves_with}
use Rattle.pli_meaning.specs.Numbers.{is_of_precision}
use Rattle.pli_meaning.specs.StorageState.{Activation, ancestor, binding_in, generation_at, generation_of, living_of}
use Rattle.pli_meaning.specs.StorageState.{newest_height}
use Rattle.pli_meaning.specs.StorageState as Q
use Rattle.pli_serving.specs.Answers.{Answer, Done}
use Rattle.pli_serving.specs.Arguments.{name_in, shape_of_number, where_found}
use Rattle.pli_serving.specs.Bytes.{name_at, name_of}
use Rattle.pli_serving.specs.Finding.{Found}
use Rattle.pli_serving.specs.Names.{resolve_served, resolved}
use Rattle.pli_serving.specs.ServiceState.{Services}
use Rattle.pli_serving.specs.Serving.{found_served}
use Rattle.pli_serving.specs.Outcomes.{or_bad}
use Rattle.pli_serving.specs.Templates.{shape_at}
use Rattle.pli_coding.specs.Assembly.{JumpTo, Plain, RaiseError, size_of}
use Rattle.pli_coding.specs.Expressions.{number_code}
use Rattle.pli_coding.specs.Frames.{list_place}
use Rattle.pli_coding.specs.Instructions.{status_tested}
use Rattle.pli_coding.specs.Registers.{a1, zero_register}
use Rattle.storage_relation.specs.Served as H
use Rattle.storage_relation.specs.Served.{call}
use Rattle.storage_relation.specs.Telling.{IsOf, Tells}
use Rattle.storage_relation.proofs.CallArguments.{asked_named}
use Rattle.storage_relation.proofs.Changes.{element_held}
use Rattle.storage_relation.proofs.Placing.{none_above}
use Rattle.storage_relation.proofs.Values.{word_loaded}
use Rattle.activation_relation.specs.Frames.{AreLaid, FramesStand, frame_under, word_place}
use Rattle.activation_relation.specs.Layers.{Layer, Point, now, services_of}
use Rattle.activation_relation.specs.Remaining.{LivesOn}
use Rattle.activation_relation.proofs.FrameWords.{words_covered}
use Rattle.activation_relation.proofs.Remaining.{shapes_remain}
use Rattle.run_steps.specs.Bodies.{Known}
use Rattle.run_steps.proofs.Bodies.{at_place, frame_is, load_piece, zero_is}
use Rattle.run_steps.specs.Calls.{Calling}
use Rattle.run_steps.proofs.Calls.{call_done}
use Rattle.run_steps.specs.Engine.{Base, WordAt, call_at, served}
use Rattle.run_steps.specs.Items.{At, Linked}
use Rattle.run_steps.proofs.Items.{straight}
use Rattle.run_steps.proofs.Jumps.{back_of, first_of, front_of, rest_of, skip_taken}
use Rattle.run_steps.proofs.Linking.{size_append}
use Rattle.run_steps.specs.Reach.{Comes, Family, Reach, reached}
use Rattle.run_steps.proofs.Reach.{reach_then, reached_holds}
use Rattle.run_steps.proofs.Reaching.{reach_moved}
use Rattle.run_steps.specs.Temporaries.{nothing}
use Rattle.run_steps.specs.Unlimited as U
use Rattle.image_runs.specs.Runs.{Whole}
use Rattle.block_runs.specs.Machines.{AreIn, AreEven}
use Rattle.block_runs.proofs.BlockEntries.{small_is}
use Rattle.block_runs.proofs.Places.{IsFrame, bounds, even_frame, word_in}
use Rattle.block_runs.proofs.PointGrounds.{call_is, known_in, point_frame, point_ground}
use Rattle.program_runs.specs.Statements.{Block, IsAmong}
use Rattle.expression_runs.specs.Laws as E
use Rattle.expression_runs.specs.Values.{Setting, behind, in_registers, number_aims}
use Rattle.expression_runs.specs.Variables.{Spot}
use Rattle.expression_runs.proofs.VariablePoints.{first_base}
use Rattle.expression_runs.proofs.Words.{frame_of, valued, word_here}
use Rattle.argument_runs.specs.Parameters.{IsParameter, parameter, parameter_shape}
use Rattle.argument_runs.proofs.ParameterCode as P
use Rattle.argument_runs.proofs.ParameterCode.{addressing_code, found_code, list_loaded, name_loaded, parameter_is}
use Rattle.argument_runs.proofs.ParameterCode.{parameter_named, read_code, read_coded, resolving_code, value_loaded}

-- ---- the words that it is found by

abbrev layers_of : {k : Block} {x : Spot} → IsParameter k x → List Layer
layers_of is = is.layer ∷ is.caller ∷ is.others

-- its own part of the list
abbrev pub part_of : {k : Block} {x : Spot} → IsParameter k x → ℕ
part_of is = is.at + 24 * is.place

-- its name, its signature's number, and where its procedure keeps the list
pub record HasList {k : Block} {x : Spot} (is : IsParameter k x) (base : ℕ) (m : List ℕ) : Type 0 where
  pub offset : load 4 m (is.layer.at + 44) ≡ is.at
  pub address : load 4 m (is.layer.at + list_place is.layer.level) ≡ base + is.at
  pub kind : load 4 m (word_place is.caller (is.last + 5)) ≡ 1
  pub second : load 4 m (word_place is.caller (is.last + 4)) ≡ 0
  pub low : load 4 m (word_place is.caller (is.last + 3)) ≡ is.serial % 2 ^ 32
  pub high : load 4 m (word_place is.caller (is.last + 2)) ≡ is.serial / 2 ^ 32
  pub number : load 4 m (word_place is.caller (is.last + 1)) ≡ is.signature

list_found :
    {k : Block} {x : Spot} (is : IsParameter k x) (base : ℕ) (m : List ℕ) (as' : List Activation) →
    FramesStand k.call.surroundings.parts base m as' (layers_of is) → HasList is base m
list_found is base m [] h = absurd h
list_found is base m (b ∷ []) h = absurd h.1
list_found is base m (b ∷ a ∷ as') h =
    let l = h.0.list is.at is.list in
    let w = h.1.0.waits in
    let few = is.words in
    record {
      offset = l.1;
      address = l.2;
      kind = w (is.last + 5) 1 (omega (arith, few)) is.name.kind;
      second = w (is.last + 4) 0 (omega (arith, few)) is.name.second;
      low = w (is.last + 3) (is.serial % 2 ^ 32) (omega (arith, few)) is.name.low;
      high = w (is.last + 2) (is.serial / 2 ^ 32) (omega (arith, few)) is.name.high;
      number = w (is.last + 1) is.signature (omega (arith, few)) is.name.number;
    }

-- where the list lies
pub record Lying {k : Block} {x : Spot} (is : IsParameter k x) : Type 0 where
  pub list : IsFrame is.at
  pub frame : IsFrame is.layer.at

pub lying :
    {k : Block} {x : Spot} {numbers : ℕ → ℕ} {p : Point} (is : IsParameter k x) → IsAmong k numbers p → Lying is
lying {k} is o =
    let parts = k.call.surroundings.parts in
    let same = o.later.layers ∙ is.layers in
    let laid = subst (AreLaid parts) same o.stands.laid in
    let even = subst (AreEven parts) same o.image.even in
    let b = bounds parts (layers_of is) laid in
    let b' = bounds parts is.others laid.1.1 in
    let below = is.caller ∷ is.others in
    let whole = even_frame parts below laid.1 even.1 in
    let whole' = even_frame parts (layers_of is) laid even in
    let words = is.words in
    let under = is.under in
    let covered = words_covered is.caller.words in
    let above = laid.1.0.above in
    let above' = laid.0.above in
    let fixed' = laid.1.0.fixed in
    let first = o.image.parts.high in
    let last = o.image.parts.inside in
    let low = b.low in
    let between = b.above in
    let free = b.free in
    let high = b.high in
    let start = b'.low in
    let between' = b'.above in
    record {
      list = record {
        whole = omega (arith, whole, words, covered, above, start, under);
        high = omega (arith, words, covered, above, start, between', first, under);
        room = omega (arith, above', fixed', between, free, high, last, under);
      };
      frame = record {
        whole = omega (arith, whole');
        high = omega (arith, low, first);
        room = omega (arith, between, free, high, last);
      };
    }

-- ---- the name

eight_bytes : (m : List ℕ) (at : ℕ) → load 8 m at ≡ load 4 m at + 2 ^ 32 * load 4 m (at + 4)
eight_bytes m at =
    let e : at + 4 ≡ suc (suc (suc (suc at))) = omega arith in
    let f = ap (load 4 m) e in
    omega (arith, f)

pub name_there :
    (serial at : ℕ) (m : List ℕ) → load 4 m at ≡ 1 → load 4 m (at + 8) ≡ serial % 2 ^ 32 →
    load 4 m (at + 12) ≡ serial / 2 ^ 32 → name_at at m ≡ Some (VariableName serial)
name_there serial at m kind low high =
    let e = eight_bytes m (at + 8) in
    let place : at + 8 + 4 ≡ at + 12 = omega arith in
    let high' = ap (load 4 m) place ∙ high in
    let whole : load 8 m (at + 8) ≡ serial = omega (arith, e, low, high') in
    ap (λ n. name_of n (load 4 m (at + 4)) (load 8 m (at + 8))) kind ∙ ap (λ n. Some (VariableName n)) whole

-- ---- what it holds

number_of : (v : BasicValue) → IsOf (Fixed 31) v → (z : ℤ) × (v ≡ BasicNumber z) × (is_of_precision 31 z ≡ true)
number_of (BasicNumber z) is = (z, refl, is.1)
number_of (BasicText t) is = absurd is
number_of (BasicBit b) is = absurd is
number_of (BasicPointer n) is = absurd is
number_of (BasicOffset o) is = absurd is

pub generation_is : (g : Generation) → g.shape ≡ parameter_shape → g.extent ≡ pos 0 →
    g ≡ record { shape = parameter_shape; extent = pos 0; values = g.values }
generation_is g e f =
    ap (λ s. record { shape = s; extent = g.extent; values = g.values }) e
    ∙ ap (λ z. record { shape = parameter_shape; extent = z; values = g.values }) f

-- a number of 31 bits, in the data where service 8 finds them
pub record CopyAt (k : Block) (x : Spot) (is : IsParameter k x) (p : Point) : Type 0 where
  pub holds : P.Holds p.state x
  pub same : holds.serial ≡ is.serial
  pub here : p.places.at holds.serial ≡ k.first.places.at is.serial
  pub z : ℤ
  pub value : holds.values 0 [] ≡ BasicNumber z
  pub wide : is_of_precision 31 z ≡ true
  pub tells :
      (m : List ℕ) → H.Holds (now p m) →
      (load 4 m (k.first.places.at is.serial) ≡ word z) × (k.first.places.at is.serial % 4 ≡ 0)

pub copy_at :
    {k : Block} {numbers : ℕ → ℕ} {p : Point} {index : ℕ} (x : Spot) (is : IsParameter k x) → IsAmong k numbers p →
    (f : Family) → AreIn k.call.surroundings p numbers index f → CopyAt k x is p
copy_at {k} {p = p} x is o f there =
    record {
      holds = holds;
      same = refl;
      here = here;
      z = first.0;
      value = first.1;
      wide = first.2;
      tells = λ m stored.
          let t = told m stored in
          let e : p.places.at is.serial + 0 + 0 ≡ k.first.places.at is.serial = omega (arith, here) in (
            ap (load 4 m) (sym e)
                ∙ word_loaded 31 (p.places.at is.serial + 0 + 0) first.0 m refl
                (subst (λ v. Tells (Fixed 31) v (p.places.at is.serial + 0 + 0) m) first.1 t.0),
            subst (λ n. n % 4 ≡ 0) e t.1,
          );
    }
  where
    on : LivesOn is.living (living_of p.state.living is.serial)
    on = o.later.remains.living is.serial is.living is.lives

    g : Generation
    g = on.there.generation

    same : g ≡ record { shape = parameter_shape; extent = pos 0; values = g.values }
    same = generation_is g (on.shape ∙ is.shape) (o.stands.lives.extents is.serial on.there on.lives)

    holds : P.Holds p.state x
    holds =
        record {
          serial = is.serial;
          stands =
              ap (λ xs. binding_in (ancestor xs (newest_height xs) x.level) x.index) o.later.activations ∙ is.binding;
          values = g.values;
          living = on.there;
          lives = on.lives;
          generation = same;
        }

    low : is.serial < k.first.state.serials + 1
    low = none_above (k.first.state.serials + 1) k.first.state.living is.serial is.living
        is.begun.resumes.stands.lives.falling is.lives

    here : p.places.at is.serial ≡ k.first.places.at is.serial
    here = o.later.remains.at is.serial (omega (arith, low))

    there_is : generation_at p.state (VariableName is.serial)
        ≡ Some (record { shape = parameter_shape; extent = pos 0; values = g.values })
    there_is = ap generation_of on.lives ∙ ap (λ y. Some y) same

    told : (m : List ℕ) → H.Holds (now p m) →
        Tells (Fixed 31) (g.values 0 []) (p.places.at is.serial + 0 + 0) m × ((p.places.at is.serial + 0 + 0) % 4 ≡ 0)
    told m stored =
        element_held (now p m) stored (VariableName is.serial)
        (record { shape = parameter_shape; extent = pos 0; values = g.values }) (pos 0) 0 [] there_is refl
        (record { less = refl; leaf_there = omega arith; within = refl })

    first : (z : ℤ) × (g.values 0 [] ≡ BasicNumber z) × (is_of_precision 31 z ≡ true)
    first = number_of (g.values 0 [])
        (told (f first_base).machine.memory (there first_base).at.storage).0.fits

-- ---- what service 8 answers

resolved_answer :
    {k : Block} {numbers : ℕ → ℕ} {p : Point} (x : Spot) (is : IsParameter k x) → IsAmong k numbers p →
    (c : CopyAt k x is p) (base : ℕ) (m : List ℕ) → H.Holds (now p m) → HasList is base m →
    (p.layout.code_bytes ≤ 2 ^ 22) × (p.layout.end ≡ memory_size) →
    resolve_served (call (now p m)) (part_of is) is.signature 0 0
    ≡ Done (services_of p) m (k.first.places.at is.serial + 0) 0
resolved_answer {k} {p = p} x is o c base m stored list layout =
    let v = call (now p m) in
    let at = part_of is in
    let y = lying is o in
    let high = y.list.high in
    let room = y.list.room in
    let near = is.near in
    let under = is.under in
    let start = layout.0 in
    let end = layout.1 in
    let place5 : word_place is.caller (is.last + 5) ≡ at = omega (arith, high, under) in
    let place3 : word_place is.caller (is.last + 3) ≡ at + 8 = omega (arith, high, under) in
    let place2 : word_place is.caller (is.last + 2) ≡ at + 12 = omega (arith, high, under) in
    let t1 : nat_le p.layout.code_bytes at ≡ true = le-leb _ _ (omega (arith, start, high)) in
    let t2 : nat_le (at + 16) p.layout.end ≡ true = le-leb _ _ (omega (arith, end, room, near)) in
    let named' : name_in v at ≡ Some (VariableName is.serial) =
    ap (λ q. cond (q && nat_le (at + 16) p.layout.end) (name_at at m) None) t1
    ∙ ap (λ q. cond q (name_at at m) None) t2
    ∙ name_there is.serial at m (ap (load 4 m) (sym place5) ∙ list.kind) (ap (load 4 m) (sym place3) ∙ list.low)
    (ap (load 4 m) (sym place2) ∙ list.high) in
    let i = asked_named (now p m) stored at is.signature (VariableName is.serial) parameter_shape
    (record { shape = parameter_shape; extent = pos 0; values = c.holds.values })
    (record { shape_same = numbered; own = own }) named'
    (ap (λ n. Q.named p.state (VariableName n) parameter_shape) (sym c.same) ∙ parameter_named c.holds) in
    let found = i.0.found in
    let answer : Found → Answer = λ f. or_bad (shape_of_number v f.signature)
    (λ s. resolved v 0 0 f (leaves_with f.extent s)) in
    ap (λ q. where_found q (Done (services_of p) m at no_generation_code) answer) i.1
    ∙ ap (λ s. or_bad s (λ s'. resolved v 0 0 found (leaves_with found.extent s'))) i.0.shape
    ∙ ap (λ e. resolved v 0 0 found (leaves_with e parameter_shape)) i.0.extent
    ∙ ap (λ n. Done (services_of p) m (n + 0) 0) (i.0.at ∙ ap p.places.at (sym c.same) ∙ c.here)
  where
    own : (is.signature == 2 ^ 32 - 1) ≡ false
    own = let few = is.number in grind (arith, few, nat_tests)

    numbered : shape_at p.places.signatures is.signature ≡ Some parameter_shape
    numbered = shapes_remain o.later.remains is.signature parameter_shape is.numbered

-- with mode 0, whatever the other registers
resolve_called :
    (code : List Instr) (y : Whole) (v : Services) (x0 x1 : ℕ) → y.services ≡ v →
    (y.machine.registers 17 ≡ 8) × (y.machine.registers 10 ≡ x0) × (y.machine.registers 11 ≡ x1)
    × (y.machine.registers 12 ≡ 0) × (y.machine.registers 13 ≡ 0) × (y.machine.registers 14 ≡ 0) →
    served code y ≡ resolve_served (call_at code v y.machine.memory) x0 x1 0 0
unfolding served
resolve_called code y v x0 x1 e r =
    let x = y.machine.registers in
    let m = y.machine.memory in
    let c = call_at code y.services m in
    ap (λ n. U.served n c x) r.0
    ∙ ap (found_served c x) r.5
    ∙ ap (λ u. resolve_served (call_at code u m) (x 10) (x 11) (x 12) (x 13)) e
    ∙ ap (λ u. resolve_served (call_at code v m) u (x 11) (x 12) (x 13)) r.1
    ∙ ap (λ u. resolve_served (call_at code v m) x0 u (x 12) (x 13)) r.2
    ∙ ap (λ u. resolve_served (call_at code v m) x0 x1 u (x 13)) r.3
    ∙ ap (λ u. resolve_served (call_at code v m) x0 x1 0 u) r.4

-- ---- the code

abbrev pub named_regs : {k : Block} {x : Spot} → IsParameter k x → Base → List (ℕ × ℕ)
named_regs is b = (10, part_of is) ∷ []

abbrev listed_regs : {k : Block} {x : Spot} → IsParameter k x → Base → List (ℕ × ℕ)
listed_regs is b = (11, b.at + is.at) ∷ named_regs is b

abbrev asking_regs : {k : Block} {x : Spot} → IsParameter k x → Base → List (ℕ × ℕ)
asking_regs is b = (17, 8) ∷ (14, 0) ∷ (13, 0) ∷ (12, 0) ∷ (11, is.signature) ∷ named_regs is b

abbrev answered_regs : {k : Block} {x : Spot} → IsParameter k x → Base → List (ℕ × ℕ)
answered_regs {k} is b = (11, 0) ∷ (10, k.first.places.at is.serial + 0) ∷ []

abbrev pub found_regs : {k : Block} {x : Spot} → IsParameter k x → Base → List (ℕ × ℕ)
found_regs {k} is b = (28, b.at + k.first.places.at is.serial) ∷ []

more_word : (x n d : ℕ) → x ≡ n → n + d < 2 ^ 24 → sum x (word (pos d)) ≡ n + d
more_word x n d e few = omega (arith, ints, e, few)

abbrev pub word_there : (b : Base) (n o : ℕ) → n ≡ b.at + o → o % 4 ≡ 0 → o + 4 ≤ memory_size → WordAt b n
word_there b n o e even inside = record { offset = o; is = e; aligned = even; inside = inside }

found_at : (b : Base) (x n : ℕ) → x ≡ n + 0 → n + 4 ≤ 15 * 2 ^ 20 → sum (sum x (word (pos 0))) b.at ≡ b.at + n
found_at b x n e inside = let v = b.valid.1 in omega (arith, e, inside, v)

pub there_at : (b : Base) (x n : ℕ) → x ≡ b.at + n → n + 4 ≤ 15 * 2 ^ 20 → sum x (word (pos 0)) ≡ b.at + n
there_at b x n e inside = let v = b.valid.1 in omega (arith, e, inside, v)

pub words_at :
    {k : Block} {x : Spot} {numbers : ℕ → ℕ} {p : Point} (is : IsParameter k x) → IsAmong k numbers p → (b : Base)
    (m : List ℕ) → FramesStand k.call.surroundings.parts b.at m p.state.activations p.control.layers →
    HasList is b.at m
words_at {k} {p = p} is o b m frames =
    list_found is b.at m p.state.activations
    (subst (FramesStand k.call.surroundings.parts b.at m p.state.activations) (o.later.layers ∙ is.layers) frames)

pub frame_same :
    {k : Block} {x : Spot} {numbers : ℕ → ℕ} {p : Point} (is : IsParameter k x) → IsAmong k numbers p →
    frame_under k.call.surroundings.parts p.control.layers ≡ is.layer.at
frame_same {k} is o = ap (λ ls. frame_under k.call.surroundings.parts ls) (o.later.layers ∙ is.layers)

pub name_comes :
    {k : Block} {x : Spot} {numbers held : ℕ → ℕ} {p : Point} {i : ℕ} (is : IsParameter k x) (o : IsAmong k held p)
    (h : frame_of k p) (c : ℕ) (f : Family) → Linked k.call.surroundings.links k.call.code i (name_loaded is.place) →
    AreIn k.call.surroundings p numbers i f →
    Reach k.call.code c f (services_of p) (c + 2) (services_of p)
    (λ b y. At b (i + 2) (Known (point_ground k.call.surroundings p h) (services_of p) numbers (λ j. 0)
    (named_regs is) b) y)
name_comes {k} {x} {numbers} {p} is o h c f l there =
    let v = services_of p in
    let y = lying is o in
    let room = y.list.room in
    let near = is.near in
    straight c f v v (λ b z. Known (point_ground k.call.surroundings p h) v numbers (λ i'. 0) (named_regs is) b z)
    l (omega arith) (λ b. (there b).at.pc)
    (λ b.
    let o' = (known_in {t = λ i'. 0} {rs = nothing} h (there b) tt).holds in
    let z = (f b).machine.registers in
    let base = frame_is o'.body ∙ ap (λ i'. b.at + i') (frame_same is o) in (
      at_place b (word_in is.layer.at 44 y.frame refl (omega arith)) (sum (z 8) (word (pos 44)))
          (ap (λ u. sum u (word (pos 44))) base),
      record {
        body = record {
          services = o'.body.services;
          registers = o'.body.registers;
          bytes = o'.body.bytes;
          memory = o'.body.memory;
        };
        regs = (
          more_word _ is.at (24 * is.place + 4 * 0)
              (words_at is o b (f b).machine.memory o'.body.memory.frames).offset (omega (arith, room, near))
              ∙ part_same is.at is.place,
          tt,
        );
      },
    ))
  where
    part_same : (at place : ℕ) → at + (24 * place + 4 * 0) ≡ at + 24 * place
    part_same at place = omega arith

list_comes :
    {k : Block} {x : Spot} {numbers : ℕ → ℕ} {p : Point} {i : ℕ} (is : IsParameter k x) (o : IsAmong k numbers p)
    (h : frame_of k p) (c : ℕ) (f : Family) → Linked k.call.surroundings.links k.call.code i (list_loaded x.level) →
    ((b : Base) → At b i (Known (point_ground k.call.surroundings p h) (services_of p) numbers (λ j. 0)
    (named_regs is) b) (f b)) →
    Reach k.call.code c f (services_of p) (c + size_of (list_loaded x.level)) (services_of p)
    (λ b y. At b (i + size_of (list_loaded x.level)) (Known (point_ground k.call.surroundings p h) (services_of p)
    numbers (λ j. 0) (listed_regs is) b) y)
list_comes {k} {x} {numbers} {p} is o h c f l there =
    let w = k.call.surroundings in
    let few = is.few in
    load_piece {t = λ i'. 0} {rs = named_regs is} c f a1 (pos (list_place x.level))
    (frame_under w.parts p.control.layers + list_place x.level) (λ b. b.at + is.at)
    (word_in (frame_under w.parts p.control.layers) (list_place x.level) h (omega arith) (omega (arith, few)))
    (λ b m stands.
    ap (λ i'. load 4 m (i' + list_place x.level)) (frame_same is o)
    ∙ ap (λ i'. load 4 m (is.layer.at + list_place i')) (sym is.level)
    ∙ (words_at is o b m stands.frames).address)
    (record { reserved_stay = λ z u. refl; known_stay = λ b z u q. q; set = λ z u. refl })
    (record { reserved_stay = λ z u. refl; known_stay = λ b z u q. q; set = λ z u. refl })
    l there

asking_comes :
    {k : Block} {x : Spot} {numbers : ℕ → ℕ} {p : Point} {i : ℕ} (is : IsParameter k x) (o : IsAmong k numbers p)
    (h : frame_of k p) (c : ℕ) (f : Family) → Linked k.call.surroundings.links k.call.code i (resolving_code is.place) →
    ((b : Base) → At b i (Known (point_ground k.call.surroundings p h) (services_of p) numbers (λ j. 0)
    (listed_regs is) b) (f b)) →
    Reach k.call.code c f (services_of p) (c + size_of (resolving_code is.place)) (services_of p)
    (λ b y. At b (i + size_of (resolving_code is.place)) (Known (point_ground k.call.surroundings p h) (services_of p)
    numbers (λ j. 0) (asking_regs is) b) y)
asking_comes {k} {x} {numbers} {p} is o h c f l there =
    let v = services_of p in
    let y = lying is o in
    let high = y.list.high in
    let near = is.near in
    let under = is.under in
    let at = is.at in
    let n = 24 * is.place + 4 * 4 in
    let place1 : word_place is.caller (is.last + 1) ≡ at + n = omega (arith, high, under) in
    straight c f v v (λ b z. Known (point_ground k.call.surroundings p h) v numbers (λ i'. 0) (asking_regs is) b z)
    l (omega arith) (λ b. (there b).pc)
    (λ b.
    let o' = (there b).holds in
    let z = (f b).machine.registers in (
      at_place b (word_in at n y.list (omega arith) (omega (arith, near))) (sum (z 11) (word (pos n)))
          (ap (λ u. sum u (word (pos n))) o'.regs.0),
      record {
        body = record {
          services = o'.body.services;
          registers = o'.body.registers;
          bytes = o'.body.bytes;
          memory = o'.body.memory;
        };
        regs = (
          small_is (z 0) 8 (zero_is o'.body) (omega arith),
          (
            small_is (z 0) 0 (zero_is o'.body) (omega arith),
            (
              small_is (z 0) 0 (zero_is o'.body) (omega arith),
              (
                small_is (z 0) 0 (zero_is o'.body) (omega arith),
                (
                  ap (load 4 (f b).machine.memory) (sym place1)
                      ∙ (words_at is o b (f b).machine.memory o'.body.memory.frames).number,
                  o'.regs.1,
                ),
              ),
            ),
          ),
        );
      },
    ))

resolved_comes :
    {k : Block} {x : Spot} {numbers : ℕ → ℕ} {p : Point} {i : ℕ} (is : IsParameter k x) (o : IsAmong k numbers p)
    (n : CopyAt k x is p) (h : frame_of k p) (c : ℕ) (f : Family) →
    Linked k.call.surroundings.links k.call.code i (Plain I.Ecall ∷ []) →
    ((b : Base) → At b i (Known (point_ground k.call.surroundings p h) (services_of p) numbers (λ j. 0)
    (asking_regs is) b) (f b)) →
    Reach k.call.code c f (services_of p) (c + 1) (services_of p)
    (λ b y. At b (i + 1) (Known (point_ground k.call.surroundings p h) (services_of p) numbers (λ j. 0)
    (answered_regs is) b) y)
resolved_comes {k} {x} {numbers} {p} {i} is o n h c f l there =
    let w = k.call.surroundings in
    let code = k.call.code in
    let v = services_of p in
    let small' = l.small' in
    let at = part_of is in
    let place = k.first.places.at is.serial in
    let e1 = ap (λ u. u.code_bytes) o.image.layout in
    let layout : (p.layout.code_bytes ≤ 2 ^ 22) × (p.layout.end ≡ memory_size) =
    (omega (arith, e1, small'), ap (λ u. u.end) o.image.layout) in
    let calling : Calling w.links code i f (λ b. Done v (f b).machine.memory (place + 0) 0) =
    record {
      linked = l;
      pc = λ b. (there b).pc;
      answers = λ b.
          let o' = (there b).holds in
          let m = (f b).machine.memory in
          resolve_called code (f b) v at is.signature o'.body.services (
            o'.regs.0,
            o'.regs.1.1.1.1.1.0,
            o'.regs.1.1.1.1.0,
            o'.regs.1.1.1.0,
            o'.regs.1.1.0,
            o'.regs.1.0,
          )
          ∙ ap (λ call'. resolve_served call' at is.signature 0 0) (call_is w code p m o.image)
          ∙ resolved_answer x is o n b.at m o'.body.memory.storage (words_at is o b m o'.body.memory.frames) layout;
    } in
    call_done c f v v (λ b. (f b).machine.memory) (λ b. place + 0) (λ b. 0)
    (λ b z. Known (point_ground w p h) v numbers (λ j. 0) (answered_regs is) b z) (omega arith) calling
    (λ b.
    let o' = (there b).holds in
    record {
      body = record {
        services = refl;
        registers = o'.body.registers;
        bytes = o'.body.bytes;
        memory = o'.body.memory;
      };
      regs = (refl, (refl, tt));
    })

tested_comes :
    {k : Block} {x : Spot} {numbers : ℕ → ℕ} {p : Point} {i : ℕ} (is : IsParameter k x) (h : frame_of k p) (c : ℕ)
    (f : Family) → Linked k.call.surroundings.links k.call.code i status_tested →
    ((b : Base) → At b i (Known (point_ground k.call.surroundings p h) (services_of p) numbers (λ j. 0)
    (answered_regs is) b) (f b)) →
    Reach k.call.code c f (services_of p) (c + 3) (services_of p)
    (λ b y. At b (i + 3) (Known (point_ground k.call.surroundings p h) (services_of p) numbers (λ j. 0)
    (answered_regs is) b) y)
tested_comes is h c f l there =
    skip_taken c f Test.Equal a1 zero_register (JumpTo RaiseError ∷ []) l there
    (λ b. let o' = (there b).holds in
    ap (λ u. u == (f b).machine.registers 0) o'.regs.0 ∙ ap (λ u. 0 == u) (zero_is o'.body))

addressed_comes :
    {k : Block} {x : Spot} {numbers : ℕ → ℕ} {p : Point} {i : ℕ} (is : IsParameter k x) (h : frame_of k p) (c : ℕ)
    (f : Family) → Linked k.call.surroundings.links k.call.code i addressing_code →
    ((b : Base) → At b i (Known (point_ground k.call.surroundings p h) (services_of p) numbers (λ j. 0)
    (answered_regs is) b) (f b)) →
    Reach k.call.code c f (services_of p) (c + size_of addressing_code) (services_of p)
    (λ b y. At b (i + size_of addressing_code) (Known (point_ground k.call.surroundings p h) (services_of p) numbers
    (λ j. 0) (found_regs is) b) y)
addressed_comes {k} {x} {numbers} {p} is h c f l there =
    let v = services_of p in
    let inside = is.inside in
    let place = k.first.places.at is.serial in
    straight c f v v (λ b z. Known (point_ground k.call.surroundings p h) v numbers (λ j. 0) (found_regs is) b z)
    l (omega arith) (λ b. (there b).pc)
    (λ b.
    let o' = (there b).holds in (
      refl,
      record {
        body = record {
          services = o'.body.services;
          registers = o'.body.registers;
          bytes = o'.body.bytes;
          memory = o'.body.memory;
        };
        regs = (found_at b ((f b).machine.registers 10) place o'.regs.1.0 inside, tt);
      },
    ))

-- its data are found
pub found_comes :
    {k : Block} {x : Spot} {numbers : ℕ → ℕ} {p : Point} {i : ℕ} (is : IsParameter k x) (o : IsAmong k numbers p)
    (n : CopyAt k x is p) (h : frame_of k p) (c : ℕ) (f : Family) →
    Linked k.call.surroundings.links k.call.code i (found_code x.level is.place) →
    AreIn k.call.surroundings p numbers i f →
    Reach k.call.code c f (services_of p) (c + size_of (found_code x.level is.place)) (services_of p)
    (λ b y. At b (i + size_of (found_code x.level is.place)) (Known (point_ground k.call.surroundings p h)
    (services_of p) numbers (λ j. 0) (found_regs is) b) y)
found_comes {k} {x} {numbers} {p} {i} is o n h c f l there =
    let name = name_loaded is.place in
    let lists = list_loaded x.level in
    let asks = resolving_code is.place in
    let last = status_tested ++ addressing_code in
    let tail = asks ++ (Plain I.Ecall ∷ last) in
    let l1 = back_of name (lists ++ tail) l in
    let l2 = back_of lists tail l1 in
    let l3 = back_of asks (Plain I.Ecall ∷ last) l2 in
    let l4 = rest_of (Plain I.Ecall) last l3 in
    let n1 = size_append lists tail in
    let r1 = name_comes is o h c f (front_of name (lists ++ tail) l) there in
    let r2 = list_comes is o h (c + 2) (reached r1) (front_of lists tail l1) (reached_holds r1) in
    let r3 = asking_comes is o h (c + 2 + size_of lists) (reached r2)
    (front_of asks (Plain I.Ecall ∷ last) l2) (reached_holds r2) in
    let r4 = resolved_comes is o n h (c + 2 + size_of lists + size_of asks) (reached r3)
    (first_of (Plain I.Ecall) last l3) (reached_holds r3) in
    let r5 = tested_comes is h (c + 2 + size_of lists + size_of asks + 1) (reached r4)
    (front_of status_tested addressing_code l4) (reached_holds r4) in
    let r6 = addressed_comes is h (c + 2 + size_of lists + size_of asks + 1 + 3) (reached r5)
    (back_of status_tested addressing_code l4) (reached_holds r5) in
    reach_moved (omega (arith, n1)) (omega (arith, n1))
    (reach_then r1 (reach_then r2 (reach_then r3 (reach_then r4 (reach_then r5 r6)))))

-- and read
value_comes :
    {k : Block} {x : Spot} {numbers : ℕ → ℕ} {p : Point} {i : ℕ} (is : IsParameter k x) (n : CopyAt k x is p)
    (h : frame_of k p) (c : ℕ) (f : Family) → Linked k.call.surroundings.links k.call.code i value_loaded →
    ((b : Base) → At b i (Known (point_ground k.call.surroundings p h) (services_of p) numbers (λ j. 0)
    (found_regs is) b) (f b)) →
    Reach k.call.code c f (services_of p) (c + size_of value_loaded) (services_of p)
    (λ b y. At b (i + size_of value_loaded) (Known (point_ground k.call.surroundings p h) (services_of p) numbers
    (λ j. 0) (valued (word n.z)) b) y)
value_comes {k} {x} {numbers} {p} is n h c f l there =
    let v = services_of p in
    let inside = is.inside in
    let place = k.first.places.at is.serial in
    straight c f v v (λ b z. Known (point_ground k.call.surroundings p h) v numbers (λ j. 0) (valued (word n.z)) b z)
    l (omega arith) (λ b. (there b).pc)
    (λ b.
    let o' = (there b).holds in
    let z = (f b).machine.registers in
    let t' = n.tells (f b).machine.memory o'.body.memory.storage in (
      word_there b (sum (z 28) (word (pos 0))) place (there_at b (z 28) place o'.regs.0 inside) t'.1
          (omega (arith, inside)),
      record {
        body = record {
          services = o'.body.services;
          registers = o'.body.registers;
          bytes = o'.body.bytes;
          memory = o'.body.memory;
        };
        regs = (t'.0, tt);
      },
    ))

read_comes :
    {k : Block} {x : Spot} {numbers : ℕ → ℕ} {p : Point} {i : ℕ} (is : IsParameter k x) (o : IsAmong k numbers p)
    (n : CopyAt k x is p) (h : frame_of k p) (c : ℕ) (f : Family) →
    Linked k.call.surroundings.links k.call.code i (read_code x.level is.place) →
    AreIn k.call.surroundings p numbers i f →
    Reach k.call.code c f (services_of p) (c + size_of (read_code x.level is.place)) (services_of p)
    (λ b y. At b (i + size_of (read_code x.level is.place)) (Known (point_ground k.call.surroundings p h)
    (services_of p) numbers (λ j. 0) (valued (word n.z)) b) y)
read_comes {k} {x} is o n h c f l there =
    let finds = found_code x.level is.place in
    let m = size_append finds value_loaded in
    let r1 = found_comes is o n h c f (front_of finds value_loaded l) there in
    let r2 = value_comes is n h (c + size_of finds) (reached r1) (back_of finds value_loaded l) (reached_holds r1) in
    reach_moved (omega (arith, m)) (omega (arith, m)) (reach_then r1 r2)

pub parameter_does : (k : Setting) (x : Spot) → IsParameter k.block x → E.Does k 0 (Y.NumberIn (parameter x))
parameter_does k x is p numbers taken c index f o line registers l paid there =
    let e = k.block.environment in
    let w = k.block.call.surroundings in
    let code = k.block.call.code in
    let t = in_registers k.words taken in
    let n = copy_at x is o f there in
    let h = point_frame o.stands o.image in
    let coded = read_coded e t x is.place is.declared is.numbered_so is.near is.own in
    let size = ap (λ u. size_of u) coded in
    let l0 = subst (Linked w.links code index) coded l in
    let part = number_code e t (Y.NumberIn (parameter x)) in
    subst (λ flow. Comes code c f (services_of p)
    (number_aims k.block k.labels (behind p numbers taken c index part)) flow)
    (sym (parameter_is k.around w.acts n.z n.holds n.value))
    (record {
      to = λ early. (
        n.wide,
        word_here {x = behind p numbers taken c index part} h o (omega arith) refl
            (reach_moved (omega (arith, size)) (omega (arith, size)) (read_comes is o n h c f l0 there)),
      );
    })
