-- The start of an image comes to the call of the main procedure, at the first point.
use Rattle.std.proofs.Common.{◌≡◌, ℕ, ◌+◌, ◌*◌, ◌%◌, ◌^◌, ◌<◌, ◌≤◌, List, [], ◌∷◌, ◌++◌, length, refl, sym, ap, ◌∙◌}
use Rattle.std.proofs.Common.{subst, arith}
use Rattle.std.specs.Prelude.{pos}
use Rattle.std.proofs.lemmas.Int.{ints}
use Rattle.rv_meaning.specs.declared.instr.Instr.{Instr}
use Rattle.rv_meaning.specs.Words.{word, sum}
use Rattle.rv_meaning.specs.Machine.{memory_size, written, value}
use Rattle.area_keeper.specs.KeeperLaws.{Keeps}
use Rattle.run_keeper.specs.RunKeeper.{run_keeper}
use Rattle.pli_serving.specs.ServiceState.{Services}
use Rattle.pli_coding.specs.Assembly.{Code, BaseIn, CallTo, ProcedureEntry}
use Rattle.pli_coding.specs.Frames.{own_offset, lower_top}
use Rattle.pli_coding.specs.Images.{first_frame_bytes}
use Rattle.pli_coding.specs.Instructions.{add, move, small, number, plus, store_word}
use Rattle.pli_coding.specs.Linking.{Links, upper_part, lower_part, distance, item_code}
use Rattle.pli_coding.specs.Procedures.{finish_code}
use Rattle.pli_coding.specs.Registers.{stack_register, frame_register, a0, a1, a2, u0, u1}
use Rattle.image_runs.specs.Runs.{Whole, Runs}
use Rattle.storage_relation.specs.Served.{Holds}
use Rattle.storage_relation.specs.Versions.{first_version}
use Rattle.storage_relation.proofs.FirstMoment.{first_holds}
use Rattle.storage_relation.proofs.Layouts.{first_sound}
use Rattle.activation_relation.specs.Frames.{FramesStand, stored}
use Rattle.activation_relation.specs.Layers.{now, services_of}
use Rattle.activation_relation.specs.Points.{Stands}
use Rattle.activation_relation.specs.Rows.{first_stores}
use Rattle.activation_relation.proofs.OwnPlaces.{start_clear, stores_hold}
use Rattle.activation_relation.proofs.Rows.{first_stands, first_frame}
use Rattle.activation_relation.proofs.StoredWords.{length_stored}
use Rattle.run_steps.specs.Bodies.{Ground, Known}
use Rattle.run_steps.proofs.Bodies.{frame_is, zero_is}
use Rattle.run_steps.specs.Engine.{Base, at_base, address, most_code, WordAt}
use Rattle.run_steps.proofs.Engine.{passes}
use Rattle.run_steps.specs.Items.{Linked, At, Items}
use Rattle.run_steps.proofs.Items.{straight}
use Rattle.run_steps.proofs.Jumps.{front_of, rest_of}
use Rattle.run_steps.specs.Reach.{Family, Reach, reached}
use Rattle.run_steps.proofs.Reach.{reach_then, reached_holds, reach_map}
use Rattle.run_steps.proofs.Reaching.{reach_moved}
use Rattle.run_steps.proofs.Temporaries.{held_is}
use Rattle.run_steps.specs.Unlimited.{next, run_on}
use Rattle.block_runs.specs.Machines.{IsImage, IsIn}
use Rattle.block_runs.proofs.FrameBeginnings.{stack_is}
use Rattle.program_runs.specs.Starts.{Image, IsStart, image_parts, start_of, start_point, surroundings_of, first_family}
use Rattle.program_runs.specs.Starts.{call_index, no_numbers}

-- ---- the first point

code_low : (i : Image) (main : ℕ) (first : List ℕ) → IsStart i main first → 4 * length i.code ≤ 14 * 2 ^ 20
code_low i main first h = let s = h.linked.small' in omega (arith, s)

point_stands :
    (i : Image) (main : ℕ) (first : List ℕ) → IsStart i main first → Stands (surroundings_of i) (start_point i)
point_stands i main first h =
    let p = start_point i in
    first_stands (surroundings_of i) p.keeper p.layout p.places i.input (omega arith) (omega arith)
    (λ n v e. (h.told n v e).1)

pub start_stands :
    (i : Image) (main : ℕ) (first : List ℕ) → IsStart i main first →
    Stands (surroundings_of i) (start_point i) × IsImage (surroundings_of i) i.code (start_point i)
start_stands i main first h = (
  point_stands i main first h,
  record {
    keeper = refl;
    layout = refl;
    parts = record { high = omega arith; inside = omega arith };
    even = refl;
  },
)

-- ---- the start's frame

abbrev start_memory : List ℕ → List ℕ
start_memory first = stored (first_stores image_parts) first

abbrev frame_at : ℕ
frame_at = 7 * 2 ^ 20

abbrev start_ground : List ℕ → Ground
start_ground first =
    record {
      frame = frame_at;
      free = frame_at + 48;
      words = 0;
      memory = λ t b m. m ≡ start_memory first;
      whole = omega arith;
      above_code = omega arith;
      inside = omega arith;
    }

start_length : (first : List ℕ) → length (start_memory first) ≡ length first
start_length first = length_stored (first_stores image_parts) first

-- what is stored is as it was, nothing
start_holds :
    (i : Image) (main : ℕ) (first : List ℕ) → Keeps run_keeper → IsStart i main first →
    Holds (now (start_point i) (start_memory first))
start_holds i main first keeps h =
    let p = start_point i in
    let bytes = h.bytes in
    let f = first_version (4 * length i.code) in
    let before = first_holds f p.keeper keeps (first_sound (4 * length i.code) (code_low i main first h))
    i.signatures h.differ i.constants i.fills (services_of p) i.input first bytes
    (λ n v e. let t = h.told n v e in let low = t.1 in (t.0, omega (arith, low), t.2)) in
    stores_hold (now p first) frame_at 48 (first_stores image_parts) before.0
    (start_clear p.keeper p.places p.state image_parts (point_stands i main first h).owned
    (point_stands i main first h).laid)
    (omega (arith, bytes)) ((omega arith, omega arith), ((omega arith, omega arith), tt))

start_frames :
    (first : List ℕ) (base : ℕ) → length first ≡ memory_size → FramesStand image_parts base (start_memory first) [] []
start_frames first base bytes =
    first_frame image_parts base first (omega arith) (omega arith, omega (arith, bytes))

-- ---- its code

abbrev start_upper : Base → ℕ
start_upper b = sum (address b 0) (upper_part (distance 0 0) * 2 ^ 12)

-- with its base in a register
abbrev with_base : List ℕ → Services → Family
with_base first v b =
    record {
      machine = record {
        registers = written (written (λ r. 0) 5 (start_upper b)) 5 b.at;
        memory = first;
        pc = address b 2;
      };
      services = v;
    }

base_known : (b : Base) → sum (start_upper b) (word (lower_part (distance 0 0))) ≡ b.at
base_known b = let v = b.valid.1 in omega (arith, v)

base_found :
    {links : Links} {code : List Instr} (first : List ℕ) (v : Services) (rest : Code) →
    Linked links code 0 (BaseIn u0 ∷ rest) → (b : Base) →
    run_on 2 (at_base code b) (Runs (first_family first v b)) ≡ Runs (with_base first v b)
base_found {links} {code} first v rest l b =
    let p = passes code b 0 (item_code links 0 (BaseIn u0)) (first_family first v b) (λ j w. w ≡ with_base first v b)
    (omega arith) refl l.has.0
    (ap (λ u. record {
      machine = record {
        registers = written (written (λ r. 0) 5 (start_upper b)) 5 u;
        memory = first;
        pc = address b 2;
      };
      services = v;
    }) (base_known b)) in
    p.ran ∙ ap Runs p.holds

-- the first instruction makes no act
first_step :
    {links : Links} {code : List Instr} (first : List ℕ) (v : Services) (rest : Code) →
    Linked links code 0 (BaseIn u0 ∷ rest) → (b : Base) →
    (w : Whole) × (next (at_base code b) (first_family first v b) ≡ Runs w) × (w.services ≡ v)
unfolding run_on
first_step {links} {code} first v rest l b =
    let p = passes code b 0 (_ ∷ []) (first_family first v b) (λ j w. w.services ≡ v) (omega arith) refl (l.has.0.0, tt)
    refl in
    (p.after, p.ran, p.holds)

-- behind that the rest of the frame, and what is given
abbrev frame_rest : Code
frame_rest =
    number u1 image_parts.stack_start
    ++ (add frame_register u0 u1
    ∷ (store_word frame_register u1 own_offset
    ++ (number u1 image_parts.stack_end
    ++ (store_word frame_register u1 lower_top
    ++ (plus stack_register frame_register (pos first_frame_bytes)
    ++ (move a0 frame_register ∷ move a1 frame_register ∷ small a2 0 ∷ []))))))

start_sum : (b : Base) (n : ℕ) → n < 1024 → sum (sum b.at frame_at) (word (pos n)) ≡ b.at + (frame_at + n)
start_sum b n few = let v = b.valid.1 in omega (arith, ints, v, few)

frame_sum : (b : Base) → sum b.at frame_at ≡ b.at + frame_at
frame_sum b = let v = b.valid.1 in omega (arith, v)

abbrev start_word : (b : Base) (n : ℕ) → n % 4 ≡ 0 → n < 1024 → WordAt b (sum (sum b.at frame_at) (word (pos n)))
start_word b n whole few =
    record {
      offset = frame_at + n;
      is = start_sum b n few;
      aligned = omega (arith, whole);
      inside = omega (arith, few);
    }

start_reserved :
    (x x' y y' : ℕ) → x ≡ x' → y ≡ y' →
    (0 ∷ x ∷ y ∷ 0 ∷ 0 ∷ 0 ∷ 0 ∷ 0 ∷ 0 ∷ 0 ∷ []) ≡ (0 ∷ x' ∷ y' ∷ 0 ∷ 0 ∷ 0 ∷ 0 ∷ 0 ∷ 0 ∷ 0 ∷ [])
start_reserved x x' y y' e f =
    ap (λ u. 0 ∷ u ∷ y ∷ 0 ∷ 0 ∷ 0 ∷ 0 ∷ 0 ∷ 0 ∷ 0 ∷ []) e ∙ ap (λ u. 0 ∷ x' ∷ u ∷ 0 ∷ 0 ∷ 0 ∷ 0 ∷ 0 ∷ 0 ∷ 0 ∷ []) f

-- no argument has a text
abbrev no_texts : Base → List (ℕ × ℕ)
no_texts b = (12, 0) ∷ []

frame_path :
    (links : Links) (code : List Instr) (first : List ℕ) (v : Services) (b : Base) → length first ≡ memory_size →
    length code ≤ most_code →
    Items links code b 2 frame_rest (with_base first v b)
    (Known (start_ground first) v no_numbers no_numbers no_texts b)
frame_path links code first v b long small' = (
  start_word b 36 refl (omega arith),
  omega (arith, small'),
  (
    start_word b 40 refl (omega arith),
    omega (arith, small'),
    record {
      body = record {
        services = refl;
        registers = start_reserved _ _ _ _ (start_sum b 48 (omega arith)) (frame_sum b);
        bytes = start_length first ∙ long;
        memory = refl;
      };
      regs = (refl, tt);
    },
  ),
)

-- ---- the whole

start_reaches :
    {links : Links} {code : List Instr} (first : List ℕ) (v : Services) (main c : ℕ) → length first ≡ memory_size →
    Linked links code 0 (start_of main) →
    Reach code c (first_family first v) v (c + call_index) v
    (λ b w. At b call_index (Known (start_ground first) v no_numbers no_numbers no_texts b) w)
start_reaches {links} {code} first v main c long l =
    let rest = CallTo (ProcedureEntry main) ∷ finish_code in
    let r : Reach code c (first_family first v) v (c + 2) v (λ b w. w ≡ with_base first v b) = record {
      count = 2;
      paid = omega arith;
      grows = omega arith;
      goes = λ b. record {
        after = with_base first v b;
        ran = base_found first v (frame_rest ++ rest) l b;
        holds = refl;
      };
    } in
    let l2 = rest_of (BaseIn u0) (frame_rest ++ rest) l in
    reach_moved (omega arith) refl
    (reach_then r (straight (c + 2) (reached r) v v
    (λ b w. Known (start_ground first) v no_numbers no_numbers no_texts b w)
    (front_of frame_rest rest l2) (omega arith)
    (λ b. ap (λ (w : Whole). w.machine.pc) (reached_holds r b))
    (λ b. subst (λ w. Items links code b 2 frame_rest w (Known (start_ground first) v no_numbers no_numbers no_texts b))
    (sym (reached_holds r b)) (frame_path links code first v b long l.small'))))

pub image_starts :
    Keeps run_keeper → (i : Image) (main : ℕ) (first : List ℕ) (c : ℕ) → IsStart i main first →
    Reach i.code c (first_family first (services_of (start_point i))) (services_of (start_point i)) (c + call_index)
    (services_of (start_point i))
    (λ b y. IsIn (surroundings_of i) (start_point i) no_numbers call_index b y × (value y.machine a2 ≡ 0))
image_starts keeps i main first c h =
    let p = start_point i in
    let bytes = h.bytes in
    reach_map _ (start_reaches first (services_of p) main c bytes h.linked)
    (λ b y o.
    let body = o.holds.body in
    let g = start_ground first in
    let as_long = body.bytes in (
      record {
        services = body.services;
        at = record {
          pc = o.pc;
          frame = frame_is body;
          top = stack_is g b no_numbers y.machine.registers body.registers;
          registers = λ n less. held_is n g b no_numbers y.machine.registers less body.registers;
          room = omega (arith, as_long);
          frames = subst (λ m. FramesStand image_parts b.at m [] []) (sym body.memory) (start_frames first b.at bytes);
          storage = subst (λ m. Holds (now p m)) (sym body.memory) (start_holds i main first keeps h);
        };
        zero = zero_is body;
        bytes = as_long;
      },
      o.holds.regs.0,
    ))

pub first_step_of :
    {links : Links} {code : List Instr} (first : List ℕ) (v : Services) (main : ℕ) →
    Linked links code 0 (start_of main) → (b : Base) →
    (w : Whole) × (next (at_base code b) (first_family first v b) ≡ Runs w) × (w.services ≡ v)
first_step_of first v main l b =
    first_step first v (frame_rest ++ (CallTo (ProcedureEntry main) ∷ finish_code)) l b
