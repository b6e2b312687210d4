-- The start of the run: a frame below all others, and the call of the main procedure.
use Rattle.std.proofs.Common.{◌≡◌, ℕ, ◌+◌, ◌*◌, ◌%◌, ◌^◌, ◌<◌, ◌≤◌, List, [], ◌∷◌, ◌++◌, length, refl, sym, ap, ◌∙◌, subst, arith}
use Rattle.std.specs.Prelude.{pos}
use Rattle.std.proofs.lemmas.Int.{ints}
use Rattle.rv_meaning.specs.declared.instr.Instr.{Instr}
use Rattle.rv_meaning.specs.Words.{word, sum}
use Rattle.rv_meaning.specs.Memory.{store}
use Rattle.rv_meaning.specs.Machine.{memory_size, written}
use Rattle.rv_meaning.proofs.MemoryLaws.{length-store}
use Rattle.pli_typing.specs.TypedTree as Y
use Rattle.pli_serving.specs.ServiceState.{Services}
use Rattle.pli_coding.specs.Registers.{stack_register, frame_register, a0, a1, a2, u0, u1}
use Rattle.pli_coding.specs.Assembly.{ProcedureEntry, BaseIn, CallTo, Code}
use Rattle.pli_coding.specs.Instructions.{add, move, small, number, plus, store_word}
use Rattle.pli_coding.specs.Frames.{own_offset, lower_top}
use Rattle.pli_coding.specs.Linking.{Links, upper_part, lower_part, distance, place_of, item_code}
use Rattle.pli_coding.specs.Procedures.{finish_code}
use Rattle.pli_coding.specs.Images.{first_frame_bytes, first_frame, environment_of, main_called, start_code}
use Rattle.image_runs.specs.Runs.{Whole, Runs}
use Rattle.run_steps.specs.Unlimited.{next, run_on}
use Rattle.pli_headline.specs.Headline.{parts}
use Rattle.pli_headline.specs.ProvedSoFar.{AllPlain}
use Rattle.run_steps.specs.Engine.{Base, at_base, address, most_code, WordAt}
use Rattle.run_steps.proofs.Engine.{passes}
use Rattle.run_steps.specs.Items.{Linked, At, Items}
use Rattle.run_steps.proofs.Items.{straight}
use Rattle.run_steps.specs.Bodies.{Ground, Known, with'}
use Rattle.run_steps.proofs.Jumps.{front_of, back_of, rest_of, first_of, call_piece}
use Rattle.run_steps.specs.Reach.{Family, Reach, reached}
use Rattle.run_steps.proofs.Reach.{reach_then, reached_holds}
use Rattle.pli_headline.proofs.MainGround.{statics_end}
use Rattle.pli_headline.proofs.MainProcedure.{IsAlone, no_statics}

-- ---- the code of the start

-- the first frame and the arguments of the main procedure, behind the base
abbrev frame_rest : Code
frame_rest =
    number u1 parts.stack_start
    ++ (add frame_register u0 u1
    ∷ (store_word frame_register u1 own_offset
    ++ (number u1 parts.stack_end
    ++ (store_word frame_register u1 lower_top
    ++ (plus stack_register frame_register (pos first_frame_bytes) ++ (move a0 frame_register ∷ move a1 frame_register ∷ small a2 0 ∷ []))))))

abbrev pub start_of : (block : ℕ) → Code
start_of block = BaseIn u0 ∷ (frame_rest ++ (CallTo (ProcedureEntry block) ∷ finish_code))

pub start_is : (program : Y.Program) (block line : ℕ) (body : Y.Stmts) → AllPlain program.variables → IsAlone program block line body → start_code (environment_of parts program) ≡ start_of block
start_is program block line body all alone =
    ap (λ c. first_frame parts ++ (c ++ (main_called program.procedures ++ finish_code))) (no_statics (environment_of parts program) 0 program.variables all)
    ∙ ap (λ ps. first_frame parts ++ (main_called ps ++ finish_code)) alone.are

-- the place at which the start goes on
abbrev pub start_resume : ℕ
start_resume = 15

-- ---- the machine at its start

abbrev pub start_family : List ℕ → Services → Family
start_family first v b =
    record { machine = record { registers = λ r. 0; memory = first; pc = address b 0 }; services = v }

abbrev base_upper : Base → ℕ
base_upper b = sum (address b 0) (upper_part (distance 0 0) * 2 ^ 12)

-- with its base in a register
abbrev with_base : List ℕ → Services → Family
with_base first v b =
    record { machine = record { registers = written (written (λ r. 0) 5 (base_upper b)) 5 b.at; memory = first; pc = address b 2 }; services = v }

base_known : (b : Base) → sum (base_upper b) (word (lower_part (distance 0 0))) ≡ b.at
base_known b = let v = b.valid.1 in omega (arith, v)

base_found : {links : Links} {code : List Instr} (first : List ℕ) (v : Services) (rest : Code) → Linked links code 0 (BaseIn u0 ∷ rest) → (b : Base) → run_on 2 (at_base code b) (Runs (start_family first v b)) ≡ Runs (with_base first v b)
base_found {links} {code} first v rest l b =
    let p = passes code b 0 (item_code links 0 (BaseIn u0)) (start_family first v b) (λ j w. w ≡ with_base first v b) (omega arith) refl l.has.0
    (ap (λ u. record { machine = record { registers = written (written (λ r. 0) 5 (base_upper b)) 5 u; memory = first; pc = address b 2 }; services = v }) (base_known b)) in
    p.ran ∙ ap Runs p.holds

-- the first instruction makes no act
pub first_step : {links : Links} {code : List Instr} (first : List ℕ) (v : Services) (rest : Code) → Linked links code 0 (BaseIn u0 ∷ rest) → (b : Base) → (w : Whole) × (next (at_base code b) (start_family first v b) ≡ Runs w) × (w.services ≡ v)
unfolding run_on
first_step {links} {code} first v rest l b =
    let p = passes code b 0 (_ ∷ []) (start_family first v b) (λ j w. w.services ≡ v) (omega arith) refl (l.has.0.0, tt) refl in
    (p.after, p.ran, p.holds)

-- ---- its frame

abbrev pub start_memory : List ℕ → List ℕ
start_memory first =
    store 4 (store 4 first (statics_end + 36) statics_end) (statics_end + 40) (14 * 2 ^ 20)

abbrev pub start_ground : List ℕ → Ground
start_ground first =
    record {
      frame = statics_end;
      free = statics_end + 48;
      words = 0;
      memory = λ t b m. m ≡ start_memory first;
      whole = omega arith;
      above_code = omega arith;
      inside = omega arith;
    }

-- nothing waits in registers or words
abbrev pub zeros : ℕ → ℕ
zeros i = 0

pub start_length : (first : List ℕ) → length (start_memory first) ≡ length first
start_length first =
    length-store 4 (store 4 first (statics_end + 36) statics_end) (statics_end + 40) (14 * 2 ^ 20)
    ∙ length-store 4 first (statics_end + 36) statics_end

start_sum : (b : Base) (n : ℕ) → n < 1024 → sum (sum b.at statics_end) (word (pos n)) ≡ b.at + (statics_end + n)
start_sum b n few = let v = b.valid.1 in omega (arith, ints, v, few)

start_frame : (b : Base) → sum b.at statics_end ≡ b.at + statics_end
start_frame b = let v = b.valid.1 in omega (arith, v)

abbrev start_word : (b : Base) (n : ℕ) → n % 4 ≡ 0 → n < 1024 → WordAt b (sum (sum b.at statics_end) (word (pos n)))
start_word b n whole few =
    record { offset = statics_end + n; is = start_sum b n few; aligned = omega (arith, whole); inside = omega (arith, few) }

start_reserved : (x x' y y' : ℕ) → x ≡ x' → y ≡ y' → (0 ∷ x ∷ y ∷ 0 ∷ 0 ∷ 0 ∷ 0 ∷ 0 ∷ 0 ∷ 0 ∷ []) ≡ (0 ∷ x' ∷ y' ∷ 0 ∷ 0 ∷ 0 ∷ 0 ∷ 0 ∷ 0 ∷ 0 ∷ [])
start_reserved x x' y y' e f =
    ap (λ u. 0 ∷ u ∷ y ∷ 0 ∷ 0 ∷ 0 ∷ 0 ∷ 0 ∷ 0 ∷ 0 ∷ []) e ∙ ap (λ u. 0 ∷ x' ∷ u ∷ 0 ∷ 0 ∷ 0 ∷ 0 ∷ 0 ∷ 0 ∷ 0 ∷ []) f

-- the main procedure is called without texts
abbrev pub no_texts : Base → List (ℕ × ℕ)
no_texts b = (12, 0) ∷ []

frame_path : (links : Links) (code : List Instr) (first : List ℕ) (v : Services) (b : Base) → length first ≡ memory_size → length code ≤ most_code → Items links code b 2 frame_rest (with_base first v b) (Known (start_ground first) v zeros zeros no_texts b)
frame_path links code first v b len small' = (
  start_word b 36 refl (omega arith),
  omega (arith, small'),
  (
    start_word b 40 refl (omega arith),
    omega (arith, small'),
    record {
      body = record {
        services = refl;
        registers = start_reserved _ _ _ _ (start_sum b 48 (omega arith)) (start_frame b);
        bytes = start_length first ∙ len;
        memory = refl;
      };
      regs = (refl, tt);
    },
  ),
)

-- from the start to the entry of the main procedure
pub started : {links : Links} {code : List Instr} (first : List ℕ) (v : Services) (block entry : ℕ) → length first ≡ memory_size → Linked links code 0 (start_of block) → place_of links (ProcedureEntry block) ≡ 4 * entry → start_resume ≤ entry → entry ≤ most_code → Reach code 0 (start_family first v) v entry v (λ b w. At b entry (Known (start_ground first) v zeros zeros (with' 1 (λ b'. address b' start_resume) no_texts) b) w)
started {links} {code} first v block entry len l place behind near =
    let rest = CallTo (ProcedureEntry block) ∷ finish_code in
    let r : Reach code 0 (start_family first v) v 2 v (λ b w. w ≡ with_base first v b) = record {
      count = 2;
      paid = omega arith;
      grows = omega arith;
      goes = λ b. record { after = with_base first v b; ran = base_found first v (frame_rest ++ rest) l b; holds = refl };
    } in
    let l2 = rest_of (BaseIn u0) (frame_rest ++ rest) l in
    let q = straight 2 (reached r) v v (λ b w. Known (start_ground first) v zeros zeros no_texts b w) (front_of frame_rest rest l2) (omega arith)
    (λ b. ap (λ (w : Whole). w.machine.pc) (reached_holds r b))
    (λ b. subst (λ w. Items links code b 2 frame_rest w (Known (start_ground first) v zeros zeros no_texts b)) (sym (reached_holds r b)) (frame_path links code first v b len l.small')) in
    let l3 = back_of frame_rest rest l2 in
    let p = call_piece 13 entry (reached q) (ProcedureEntry block) entry (omega (arith, behind)) place near (record { reserved_stay = λ y u. refl; known_stay = λ b y u o. o; set = λ y u. refl }) (first_of (CallTo (ProcedureEntry block)) finish_code l3) (reached_holds q) in
    reach_then r (reach_then q p)

-- what stands behind the call
pub finish_linked : {links : Links} {code : List Instr} (block : ℕ) → Linked links code 0 (start_of block) → Linked links code start_resume finish_code
finish_linked block l =
    let rest = CallTo (ProcedureEntry block) ∷ finish_code in
    rest_of (CallTo (ProcedureEntry block)) finish_code (back_of frame_rest rest (rest_of (BaseIn u0) (frame_rest ++ rest) l))

pub first_step_of : {links : Links} {code : List Instr} (first : List ℕ) (v : Services) (block : ℕ) → Linked links code 0 (start_of block) → (b : Base) → (w : Whole) × (next (at_base code b) (start_family first v b) ≡ Runs w) × (w.services ≡ v)
first_step_of first v block l = first_step first v (frame_rest ++ (CallTo (ProcedureEntry block) ∷ finish_code)) l
