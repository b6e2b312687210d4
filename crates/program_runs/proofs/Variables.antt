-- The code that makes a variable in the newest block.
use Rattle.std.proofs.Common.{◌≡◌, ℕ, ◌+◌, ◌^◌, ◌<◌, List, [], ◌∷◌, ◌++◌, length, Option, None, Some, true, refl, sym}
use Rattle.std.proofs.Common.{ap}
use Rattle.std.proofs.Common.{◌∙◌, subst, arith}
use Rattle.std.proofs.lemmas.Bool.{eq-eqb}
use Rattle.std.proofs.lemmas.List.{append_assoc}
use Rattle.std.proofs.lemmas.Int.{ints}
use Rattle.std.specs.Prelude.{cond, nat_le, pos}
use Rattle.rv_meaning.specs.declared.instr.Instr.{Instr}
use Rattle.rv_meaning.specs.declared.instr.Instr.TheVariants as I
use Rattle.rv_meaning.specs.declared.instr.ImmediateOp.TheVariants as Imm
use Rattle.rv_meaning.specs.declared.instr.Register.{Register}
use Rattle.rv_meaning.specs.Machine.{memory_size}
use Rattle.rv_meaning.specs.Memory.{load}
use Rattle.rv_meaning.specs.Words.{word, sum}
use Rattle.pli_meaning.specs.declared.outcome.End.TheVariants as E
use Rattle.pli_meaning.specs.declared.outcome.Limit.TheVariants as L
use Rattle.pli_meaning.specs.Contents.{footprint_of}
use Rattle.pli_meaning.specs.Control.{Normal, choose, finish, looked, stored, ◌>>=◌}
use Rattle.pli_meaning.specs.Making as K
use Rattle.pli_meaning.specs.Making.{with_variable}
use Rattle.pli_meaning.specs.StorageState.{Activation, automatic_in_use, most_automatic}
use Rattle.pli_serving.specs.Answers.{Answer, Done}
use Rattle.pli_serving.specs.ServiceState.{Services}
use Rattle.pli_coding.specs.Assembly.{Code, DataPlace, Datum, OffsetOf, Plain, size_of}
use Rattle.pli_coding.specs.Entries.{constant_made}
use Rattle.pli_coding.specs.Environments.{Environment}
use Rattle.pli_coding.specs.Extents.{initial_code, initial_given}
use Rattle.pli_coding.specs.Frames.{MemoryParts, display, name_bytes, own_offset}
use Rattle.pli_coding.specs.Instructions.{is_immediate, load_word, number, plus, small}
use Rattle.pli_coding.specs.Linking.{Links}
use Rattle.pli_coding.specs.Locating.{own_place, table_number}
use Rattle.pli_coding.specs.StaticData.{datum_place}
use Rattle.pli_coding.specs.StaticForms.{initial_datum}
use Rattle.pli_coding.specs.Registers.{frame_register, stack_register, a0, a1, a2, a3, a4, a7}
use Rattle.storage_relation.specs.Beginning.{place_if}
use Rattle.activation_relation.specs.Frames.{FramesStand, frame_under, upper_top}
use Rattle.activation_relation.specs.Layers.{Layer, Point, services_of}
use Rattle.activation_relation.specs.Points.{Surroundings, Stands}
use Rattle.activation_relation.specs.Variables.{newest_grown, with_made}
use Rattle.run_steps.specs.Bodies.{Free, Ground, IsNear, Known, with'}
use Rattle.run_steps.proofs.Bodies.{constant_piece, displaced_by, frame_is, load_piece, lose_known, set_known, zero_is}
use Rattle.run_steps.specs.Calls.{Calling}
use Rattle.run_steps.proofs.Calls.{call_done, called}
use Rattle.run_steps.specs.Engine.{Base, call_at}
use Rattle.run_steps.specs.Items.{At, Linked}
use Rattle.run_steps.proofs.Items.{straight}
use Rattle.run_steps.proofs.Jumps.{back_of, first_of, front_of, rest_of}
use Rattle.run_steps.proofs.Linking.{size_append}
use Rattle.run_steps.proofs.Numbers.{above_small, above_sum}
use Rattle.run_steps.specs.Reach.{Family, Reach, reached}
use Rattle.run_steps.proofs.Reach.{reach_map, reach_then, reached_holds}
use Rattle.run_steps.proofs.Reaching.{reach_moved}
use Rattle.run_steps.specs.Temporaries.{nothing}
use Rattle.run_steps.specs.Unlimited as U
use Rattle.block_runs.specs.Machines.{AreIn, IsImage, IsIn}
use Rattle.block_runs.proofs.BlockEntries.{small_is, word_fits, word_is}
use Rattle.block_runs.proofs.FrameBeginnings.{stack_put}
use Rattle.block_runs.proofs.Places.{IsFrame, ground_at, word_in}
use Rattle.block_runs.proofs.PointGrounds.{StandsIn, in_known, known_in, point_frame, point_ground}
use Rattle.program_runs.specs.Initial.{MayBeMade}
use Rattle.program_runs.specs.Variables.{Declared, IsDeclared, generation_for, made_of, place_behind}
use Rattle.program_runs.proofs.Initial.{bare_begins, place_near}
use Rattle.program_runs.proofs.VariableMemory.{Around, made_answer, made_frames, made_holding, made_length, made_memory}
use Rattle.program_runs.proofs.VariableMemory.{made_stands, place_small, values_place}

-- ---- the frame's own place

-- every frame has it
frame_own :
    (parts : MemoryParts) (base : ℕ) (m : List ℕ) (as' : List Activation) (φs : List Layer) →
    FramesStand parts base m as' φs → load 4 m (frame_under parts φs + 36) ≡ frame_under parts φs
frame_own parts base m [] [] h = h.own
frame_own parts base m [] (φ ∷ φs) h = absurd h
frame_own parts base m (a ∷ as') [] h = absurd h
frame_own parts base m (a ∷ as') (φ ∷ φs) h = h.0.own

abbrev pub own_code : Register → (place : ℕ) → Code
own_code r place = load_word r frame_register own_offset ++ plus r r (pos place)

pub own_coded : (e : Environment) (r : Register) (place : ℕ) → own_place e r (pos place) ≡ own_code r place
own_coded e r place =
    ap (λ q. cond q [] (load_word r frame_register (display e.level))
    ++ (load_word r (cond q frame_register r) own_offset ++ plus r r (pos place))) (eq-eqb e.level e.level refl)

offset_sum : (at n : ℕ) → at + n < 2 ^ 24 → sum at (word (pos n)) ≡ at + n
offset_sum at n few = omega (arith, ints, few)

pub own_comes :
    {w : Surroundings} {p : Point} {links : Links} {code : List Instr} {i : ℕ} {numbers : ℕ → ℕ}
    {rs : Base → List (ℕ × ℕ)} (h : IsFrame (frame_under w.parts p.control.layers)) (c : ℕ) (f : Family) (r : Register)
    (place : ℕ) → frame_under w.parts p.control.layers + place < 2 ^ 24 → IsNear r.index → Free rs r.index →
    Free rs 31 → Free (with' r.index (λ b. frame_under w.parts p.control.layers) rs) 31 →
    Linked links code i (own_code r place) →
    ((b : Base) → At b i (Known (point_ground w p h) (services_of p) numbers (λ n. 0) rs b) (f b)) →
    Reach code c f (services_of p) (c + size_of (own_code r place)) (services_of p)
    (λ b y. At b (i + size_of (own_code r place)) (Known (point_ground w p h) (services_of p) numbers (λ n. 0)
    (with' r.index (λ b'. frame_under w.parts p.control.layers + place) rs) b) y)
own_comes {w} {p} {numbers = numbers} {rs = rs} h c f r place few near free far far' l there =
    let at = frame_under w.parts p.control.layers in
    let g = point_ground w p h in
    let v = services_of p in
    let first = load_word r frame_register own_offset in
    let second = plus r r (pos place) in
    let n = size_append first second in
    let r1 = load_piece c f r own_offset (at + 36) (λ b. at) (word_in at 36 h refl (omega arith))
    (λ b m o. frame_own w.parts b.at m p.state.activations p.control.layers o.frames) free far
    (front_of first second l) there in
    let r2 = displaced_by (is_immediate (pos place)) (c + size_of first) (reached r1)
    (λ q d. I.Immediate Imm.Add r q d) r (pos place) (λ b. at)
    (Known g v numbers (λ n'. 0) (with' r.index (λ b. at) rs))
    (Known g v numbers (λ n'. 0) (with' r.index (λ b. at + place) rs))
    (above_small place (omega (arith, few))) (λ b. omega (arith, few)) near
    (λ b. (reached_holds r1 b).holds.regs.0) (omega arith)
    (record {
      does = λ b j y q d o e.
          set_known y r.index (sum (y.machine.registers q.index) (word d)) _ (λ b'. at + place) free
          (e ∙ offset_sum at place few) (record { body = o.body; regs = o.regs.1 });
      lost = λ b y u j o. lose_known y 31 u j far' o;
    })
    (back_of first second l) (reached_holds r1) in
    reach_moved (omega (arith, n)) (omega (arith, n)) (reach_then r1 r2)

-- ---- what service 7 is given

abbrev pub name_code : Declared → Code
name_code x = own_code a0 x.place

abbrev pub data_code : Declared → Code
data_code x = own_code a3 (x.place + name_bytes)

abbrev pub stack_code : MemoryParts → Declared → Code
stack_code parts x = plus stack_register frame_register (pos (place_behind parts x))

abbrev pub asking_code : Declared → Code
asking_code x = small a4 0 ∷ small a7 7 ∷ []

abbrev pub behind_data : MemoryParts → Declared → Code
behind_data parts x = small a4 0 ∷ small a7 7 ∷ Plain I.Ecall ∷ stack_code parts x

-- where the values stand that it begins with, or 0
abbrev pub given_code : Declared → Code
given_code x = initial_code a2 x.declared

abbrev pub given_place : Links → Declared → ℕ
given_place links x = place_if links.data' (initial_datum x.declared)

abbrev pub made_code : MemoryParts → Declared → Code
made_code parts x =
    name_code x ++ (number a1 x.number ++ (given_code x ++ (data_code x ++ behind_data parts x)))

pub made_coded :
    (w : Surroundings) (e : Environment) (x : Declared) →
    (table_number e x.declared ≡ x.number) × (e.parts ≡ w.parts) →
    constant_made e x.place x.declared ≡ made_code w.parts x
made_coded w e x same =
    let rest : MemoryParts → Code = λ parts. small a4 0 ∷ small a7 7 ∷ Plain I.Ecall ∷ stack_code parts x in
    ap (λ u. u ++ (number a1 (table_number e x.declared) ++ (given_code x
    ++ (own_place e a3 (pos (x.place + name_bytes)) ++ rest e.parts)))) (own_coded e a0 x.place)
    ∙ ap (λ n. name_code x ++ (number a1 n ++ (given_code x
    ++ (own_place e a3 (pos (x.place + name_bytes)) ++ rest e.parts)))) same.0
    ∙ ap (λ u. name_code x ++ (number a1 x.number ++ (given_code x ++ (u ++ rest e.parts))))
    (own_coded e a3 (x.place + name_bytes))
    ∙ ap (λ parts. name_code x ++ (number a1 x.number ++ (given_code x ++ (data_code x ++ rest parts)))) same.1

-- the registers then
abbrev pub name_regs : Surroundings → Point → Declared → Base → List (ℕ × ℕ)
name_regs w p x b = (10, frame_under w.parts p.control.layers + x.place) ∷ []

abbrev pub number_regs : Surroundings → Point → Declared → Base → List (ℕ × ℕ)
number_regs w p x b = (11, x.number) ∷ name_regs w p x b

abbrev pub front_regs : Surroundings → Point → (given : ℕ) → Declared → Base → List (ℕ × ℕ)
front_regs w p given x b = (12, given) ∷ number_regs w p x b

abbrev pub asked_regs : Surroundings → Point → (given : ℕ) → Declared → Base → List (ℕ × ℕ)
asked_regs w p given x b =
    (17, 7) ∷ (14, 0) ∷ (13, frame_under w.parts p.control.layers + (x.place + name_bytes)) ∷ front_regs w p given x b

abbrev pub front_code : Declared → Code
front_code x = name_code x ++ (number a1 x.number ++ given_code x)

-- by the datum that is named
given_comes :
    {w : Surroundings} {p : Point} {links : Links} {code : List Instr} {i : ℕ} {numbers : ℕ → ℕ} (o : Option Datum)
    (x : Declared) (h : IsFrame (frame_under w.parts p.control.layers)) (c : ℕ) (f : Family) →
    place_if links.data' o < 2 ^ 32 → Linked links code i (initial_given a2 o) →
    ((b : Base) → At b i (Known (point_ground w p h) (services_of p) numbers (λ n. 0) (number_regs w p x) b) (f b)) →
    Reach code c f (services_of p) (c + size_of (initial_given a2 o)) (services_of p)
    (λ b y. At b (i + size_of (initial_given a2 o)) (Known (point_ground w p h) (services_of p) numbers (λ n. 0)
    (front_regs w p (place_if links.data' o) x) b) y)
given_comes {w} {p} {links} {numbers = numbers} None x h c f near l there =
    let v = services_of p in
    straight c f v v (λ b y. Known (point_ground w p h) v numbers (λ n. 0) (front_regs w p 0 x) b y) l (omega arith)
    (λ b. (there b).pc)
    (λ b. let o = (there b).holds in record {
      body = record {
        services = o.body.services;
        registers = o.body.registers;
        bytes = o.body.bytes;
        memory = o.body.memory;
      };
      regs = (small_is _ 0 (zero_is o.body) (omega arith), o.regs);
    })
given_comes {w} {p} {links} {numbers = numbers} (Some d) x h c f near l there =
    let v = services_of p in
    straight c f v v
    (λ b y. Known (point_ground w p h) v numbers (λ n. 0) (front_regs w p (datum_place d links.data') x) b y) l
    (omega arith)
    (λ b. (there b).pc)
    (λ b. let o = (there b).holds in (
      omega (arith, near),
      refl,
      record {
        body = record {
          services = o.body.services;
          registers = o.body.registers;
          bytes = o.body.bytes;
          memory = o.body.memory;
        };
        regs = (refl, o.regs);
      },
    ))

-- the name's place, the number and what it begins with
pub front_asked :
    {w : Surroundings} {p : Point} {links : Links} {code : List Instr} {i : ℕ} {numbers : ℕ → ℕ} (x : Declared)
    (h : IsFrame (frame_under w.parts p.control.layers)) (c : ℕ) (f : Family) →
    frame_under w.parts p.control.layers + x.place < 2 ^ 24 → x.number < 2 ^ 31 → given_place links x < 2 ^ 32 →
    Linked links code i (front_code x) → ((b : Base) → IsIn w p numbers i b (f b)) →
    Reach code c f (services_of p) (c + size_of (front_code x)) (services_of p)
    (λ b y. At b (i + size_of (front_code x)) (Known (point_ground w p h) (services_of p) numbers (λ n. 0)
    (front_regs w p (given_place links x) x) b) y)
front_asked {w} {p} {numbers = numbers} x h c f few small' near l there =
    let v = services_of p in
    let at = frame_under w.parts p.control.layers in
    let name = name_code x in
    let num = number a1 x.number in
    let last = given_code x in
    let n0 = size_append name (num ++ last) in
    let n1 = size_append num last in
    let l1 = back_of name (num ++ last) l in
    let r1 = own_comes {rs = nothing} h c f a0 x.place few (λ y u. refl)
    (record { reserved_stay = λ y u. refl; known_stay = λ b y u o. o; set = λ y u. refl })
    (record { reserved_stay = λ y u. refl; known_stay = λ b y u o. o; set = λ y u. refl })
    (record { reserved_stay = λ y u. refl; known_stay = λ b y u o. o; set = λ y u. refl })
    (front_of name (num ++ last) l) (λ b. known_in h (there b) tt) in
    let r2 = constant_piece (c + size_of name) (reached r1) a1 (pos x.number) (word_fits x.number small')
    (record { reserved_stay = λ y u. refl; known_stay = λ b y u o. o; set = λ y u. refl })
    (front_of num last l1) (reached_holds r1) in
    let r3 = given_comes (initial_datum x.declared) x h (c + size_of name + size_of num) (reached r2) near
    (back_of num last l1)
    (λ b. let o = reached_holds r2 b in record {
      pc = o.pc;
      holds = record { body = o.holds.body; regs = (o.holds.regs.0 ∙ word_is x.number small', o.holds.regs.1) };
    }) in
    reach_moved (omega (arith, n0, n1)) (omega (arith, n0, n1)) (reach_then r1 (reach_then r2 r3))

-- and where its data stand
pub all_asked :
    {w : Surroundings} {p : Point} {links : Links} {code : List Instr} {i : ℕ} {numbers : ℕ → ℕ} (given : ℕ)
    (x : Declared) (h : IsFrame (frame_under w.parts p.control.layers)) (c : ℕ) (f : Family) →
    frame_under w.parts p.control.layers + (x.place + name_bytes) < 2 ^ 24 →
    Linked links code i (data_code x ++ asking_code x) →
    ((b : Base) → At b i (Known (point_ground w p h) (services_of p) numbers (λ n. 0) (front_regs w p given x) b)
    (f b)) →
    Reach code c f (services_of p) (c + size_of (data_code x ++ asking_code x)) (services_of p)
    (λ b y. At b (i + size_of (data_code x ++ asking_code x)) (Known (point_ground w p h) (services_of p) numbers
    (λ n. 0) (asked_regs w p given x) b) y)
all_asked {w} {p} {numbers = numbers} given x h c f few l there =
    let v = services_of p in
    let data' = data_code x in
    let two = asking_code x in
    let n = size_append data' two in
    let r1 = own_comes {rs = front_regs w p given x} h c f a3 (x.place + name_bytes) few (λ y u. refl)
    (record { reserved_stay = λ y u. refl; known_stay = λ b y u o. o; set = λ y u. refl })
    (record { reserved_stay = λ y u. refl; known_stay = λ b y u o. o; set = λ y u. refl })
    (record { reserved_stay = λ y u. refl; known_stay = λ b y u o. o; set = λ y u. refl })
    (front_of data' two l) there in
    let r2 = straight (c + size_of data') (reached r1) v v
    (λ b y. Known (point_ground w p h) v numbers (λ n'. 0) (asked_regs w p given x) b y) (back_of data' two l)
    (omega arith)
    (λ b. (reached_holds r1 b).pc)
    (λ b. let o = (reached_holds r1 b).holds in record {
      body = record {
        services = o.body.services;
        registers = o.body.registers;
        bytes = o.body.bytes;
        memory = o.body.memory;
      };
      regs = (
        small_is _ 7 (zero_is o.body) (omega arith),
        (small_is _ 0 (zero_is o.body) (omega arith), o.regs),
      );
    }) in
    reach_moved (omega (arith, n)) (omega (arith, n)) (reach_then r1 r2)

-- ---- the call, and the stack

calling_made :
    {w : Surroundings} {code : List Instr} {p : Point} {x : Declared} {φ : Layer} {φs : List Layer} {i : ℕ}
    {numbers : ℕ → ℕ} (k : Around w code p x φ φs) (h : IsFrame (frame_under w.parts p.control.layers)) (f : Family) →
    frame_under w.parts p.control.layers ≡ φ.at → Linked w.links code i (Plain I.Ecall ∷ []) →
    ((b : Base) → At b i (Known (point_ground w p h) (services_of p) numbers (λ n. 0)
    (asked_regs w p (values_place k) x) b) (f b)) →
    Calling w.links code i f
    (λ b. Done (services_of (with_made (made_of w.parts φ x) p)) (made_memory p φ x (f b).machine.memory)
    (φ.at + x.place) x.number)
calling_made {w} {code} {p} {x} {φ} {φs} k h f same l there =
    let at = frame_under w.parts p.control.layers in
    let v = services_of p in
    let small' = l.small' in
    let inside = l.inside in
    record {
      linked = l;
      pc = λ b. (there b).pc;
      answers = λ b.
          let o = (there b).holds in
          let m = (f b).machine.memory in
          called code (f b) v 7 (at + x.place) x.number (values_place k) (at + (x.place + name_bytes)) 0
          (λ call x0 x1 x2 x3 x4. U.make_served call x0 x1 x2 x3 x4) o.body.services o.regs.0 o.regs.1.1.1.1.1.0
          o.regs.1.1.1.1.0 o.regs.1.1.1.0 o.regs.1.1.0 o.regs.1.0 (λ call y. refl)
          ∙ ap (λ n. U.make_served (call_at code v m) (n + x.place) x.number (values_place k)
          (n + (x.place + name_bytes)) 0) same
          ∙ made_answer m k o.body.bytes o.body.memory.storage (omega (arith, small')) (omega (arith, inside));
    }

-- a point that has the variable, whatever is told of its name
pub record Becomes (w : Surroundings) (code : List Instr) (p : Point) (x : Declared) (φ : Layer) (q : Point) :
    Type 0 where
  pub stands : Stands w q × IsImage w code q
  pub services : services_of (with_made (made_of w.parts φ x) p) ≡ services_of q
  pub frame : frame_under w.parts q.control.layers ≡ φ.at
  pub top : upper_top w.parts q.control.layers ≡ φ.at + place_behind w.parts x
  pub memory :
      (b : Base) (m : List ℕ) → length m ≡ memory_size → StandsIn w p b m → StandsIn w q b (made_memory p φ x m)

-- memory has the variable, and the stack is as it was
abbrev between_ground :
    (w : Surroundings) (p q : Point) → IsFrame (frame_under w.parts p.control.layers) → Ground
between_ground w p q h =
    ground_at (frame_under w.parts p.control.layers) (upper_top w.parts p.control.layers) h
    (λ b m. StandsIn w q b m)

stack_taken :
    {w : Surroundings} {code : List Instr} {p q : Point} {x : Declared} {φ : Layer} {φs : List Layer} {i : ℕ}
    {numbers : ℕ → ℕ} (k : Around w code p x φ φs) (becomes : Becomes w code p x φ q)
    (h : IsFrame (frame_under w.parts p.control.layers)) (h' : IsFrame (frame_under w.parts q.control.layers))
    (c : ℕ) (f : Family) → φ.at + place_behind w.parts x < 2 ^ 24 → Linked w.links code i (stack_code w.parts x) →
    ((b : Base) → At b i (Known (between_ground w p q h) (services_of q) numbers (λ n. 0) nothing b) (f b)) →
    Reach code c f (services_of q) (c + size_of (stack_code w.parts x)) (services_of q)
    (λ b y. At b (i + size_of (stack_code w.parts x)) (Known (point_ground w q h') (services_of q) numbers (λ n. 0)
    nothing b) y)
stack_taken {w} {p = p} {q = q} {x = x} {φ = φ} {numbers = numbers} k becomes h h' c f few l there =
    let at = frame_under w.parts p.control.layers in
    let n = place_behind w.parts x in
    let z = pos n in
    let v = services_of q in
    let g = between_ground w p q h in
    let g' = point_ground w q h' in
    let here = ap (λ ls. frame_under w.parts ls) k.is.newest in
    let there' = becomes.frame in
    let top = becomes.top in
    displaced_by (is_immediate z) c f (λ s d. I.Immediate Imm.Add stack_register s d) frame_register z (λ b. b.at + at)
    (Known g v numbers (λ m. 0) nothing) (Known g' v numbers (λ m. 0) nothing) (above_small n (omega (arith, few)))
    (λ b. let base = b.valid.1 in omega (arith, few, here, base)) (λ y u. refl)
    (λ b. frame_is (there b).holds.body) (omega arith)
    (record {
      does = λ b j y s d o e. record {
        body = record {
          services = o.body.services;
          registers = stack_put g g' b numbers y.machine.registers (sum (y.machine.registers s.index) (word d))
              o.body.registers (here ∙ sym there')
              (e ∙ above_sum b.at at n b.valid.1 (omega (arith, few, here))
              ∙ ap (λ u. b.at + u) (ap (λ u. u + n) here ∙ sym top));
          bytes = o.body.bytes;
          memory = o.body.memory;
        };
        regs = tt;
      };
      lost = λ b y u j o. lose_known y 31 u j
          (record { reserved_stay = λ y' u'. refl; known_stay = λ b' y' u' o'. o'; set = λ y' u'. refl }) o;
    })
    l there

-- ---- the whole

pub split_code :
    (name num given data' tail : Code) →
    name ++ (num ++ (given ++ (data' ++ tail))) ≡ (name ++ (num ++ given)) ++ (data' ++ tail)
split_code name num given data' tail =
    ap (λ u. name ++ u) (sym (append_assoc num given (data' ++ tail)))
    ∙ sym (append_assoc name (num ++ given) (data' ++ tail))

split_data : (data' two rest : Code) → data' ++ (two ++ rest) ≡ (data' ++ two) ++ rest
split_data data' two rest = sym (append_assoc data' two rest)

pub becomes_comes :
    (w : Surroundings) (code : List Instr) (e : Environment) (p q : Point) (numbers : ℕ → ℕ) (x : Declared) (φ : Layer)
    (φs : List Layer) (c index : ℕ) (f : Family) → Stands w p × IsImage w code p → MayBeMade w code p x φ φs →
    Becomes w code p x φ q → (table_number e x.declared ≡ x.number) × (e.parts ≡ w.parts) →
    Linked w.links code index (constant_made e x.place x.declared) → AreIn w p numbers index f →
    Reach code c f (services_of p) (c + size_of (constant_made e x.place x.declared)) (services_of q)
    (λ b y. IsIn w q numbers (index + size_of (constant_made e x.place x.declared)) b y)
becomes_comes w code e p q numbers x φ φs c index f known is becomes same l there =
    let k : Around w code p x φ φs = record { stands = known.0; image = known.1; is = is } in
    let new = becomes.stands in
    let h = point_frame known.0 known.1 in
    let h' = point_frame new.0 new.1 in
    let v = services_of p in
    let v' = services_of q in
    let here = ap (λ ls. frame_under w.parts ls) is.newest in
    let acts = ap (λ (u : Services). u.world.acts) becomes.services in
    let few = place_small k in
    let holds = is.holds in
    let coded = made_coded w e x same in
    let size = ap (λ u. size_of u) coded in
    let l' = subst (Linked w.links code index) coded l in
    let name = name_code x in
    let num = number a1 x.number in
    let given = given_code x in
    let data' = data_code x in
    let stack = stack_code w.parts x in
    let tail = behind_data w.parts x in
    let n0 = size_append name (num ++ (given ++ (data' ++ tail))) in
    let n1 = size_append num (given ++ (data' ++ tail)) in
    let n2 = size_append data' tail in
    let n3 = size_append name (num ++ given) in
    let n4 = size_append num given in
    let n6 = size_append given (data' ++ tail) in
    let n5 = size_append data' (asking_code x) in
    let l1 = subst (Linked w.links code index) (split_code name num given data' tail) l' in
    let front = front_code x in
    let two = asking_code x in
    let l2 = back_of front (data' ++ tail) l1 in
    let l3 = subst (Linked w.links code (index + size_of front)) (split_data data' two (Plain I.Ecall ∷ stack)) l2 in
    let l4 = back_of (data' ++ two) (Plain I.Ecall ∷ stack) l3 in
    let r1 = front_asked x h c f (omega (arith, few, here, holds)) is.number
    (place_near p.places.constants code w.links.data' x.declared (initial_datum x.declared) is.initial)
    (front_of front (data' ++ tail) l1) there in
    let r2 = all_asked (values_place k) x h (c + size_of front) (reached r1) (omega (arith, few, here, holds))
    (front_of (data' ++ two) (Plain I.Ecall ∷ stack) l3) (reached_holds r1) in
    let g = reached r2 in
    let answer : Services → Base → Answer =
    λ u b. Done u (made_memory p φ x (g b).machine.memory) (φ.at + x.place) x.number in
    let calling : Calling w.links code (index + size_of front + size_of (data' ++ two)) g (answer v') =
    subst (λ u. Calling w.links code (index + size_of front + size_of (data' ++ two)) g (answer u)) becomes.services
    (calling_made k h g here (first_of (Plain I.Ecall) stack l4) (reached_holds r2)) in
    let r3 = call_done (c + size_of front + size_of (data' ++ two)) g v v' (λ b. made_memory p φ x (g b).machine.memory)
    (λ b. φ.at + x.place) (λ b. x.number)
    (λ b y. Known (between_ground w p q h) v' numbers (λ n. 0) nothing b y) (omega (arith, acts)) calling
    (λ b. let o = (reached_holds r2 b).holds in record {
      body = record {
        services = refl;
        registers = o.body.registers;
        bytes = made_length (g b).machine.memory k o.body.bytes;
        memory = becomes.memory b (g b).machine.memory o.body.bytes o.body.memory;
      };
      regs = tt;
    }) in
    let r4 = stack_taken k becomes h h' (c + size_of front + size_of (data' ++ two) + 1) (reached r3)
    (omega (arith, few)) (rest_of (Plain I.Ecall) stack l4) (reached_holds r3) in
    let all = reach_moved (omega (arith, size, n0, n1, n2, n3, n4, n5, n6))
    (omega (arith, size, n0, n1, n2, n3, n4, n5, n6))
    (reach_then r1 (reach_then r2 (reach_then r3 r4))) in
    reach_map _ all (λ b y o. in_known h' new.1.parts o)

-- nothing is told of its name
pub made_becomes :
    {w : Surroundings} {code : List Instr} {p : Point} {x : Declared} {φ : Layer} {φs : List Layer} →
    Around w code p x φ φs → Becomes w code p x φ (with_made (made_of w.parts φ x) p)
made_becomes {w} {x = x} {φ = φ} k =
    record {
      stands = made_stands k;
      services = refl;
      frame = ap (λ ls. frame_under w.parts (newest_grown (made_of w.parts φ x) ls)) k.is.newest;
      top = ap (λ ls. upper_top w.parts (newest_grown (made_of w.parts φ x) ls)) k.is.newest;
      memory = λ b m bytes stands.
          record {
            storage = made_holding m k bytes stands.storage;
            frames = made_frames b.at m k bytes stands.frames;
          };
    }

pub started_comes :
    (w : Surroundings) (code : List Instr) (e : Environment) (p : Point) (numbers : ℕ → ℕ) (x : Declared) (φ : Layer)
    (φs : List Layer) (c index : ℕ) (f : Family) → Stands w p × IsImage w code p → MayBeMade w code p x φ φs →
    (table_number e x.declared ≡ x.number) × (e.parts ≡ w.parts) →
    Linked w.links code index (constant_made e x.place x.declared) → AreIn w p numbers index f →
    Reach code c f (services_of p) (c + size_of (constant_made e x.place x.declared))
    (services_of (with_made (made_of w.parts φ x) p))
    (λ b y. IsIn w (with_made (made_of w.parts φ x) p) numbers
    (index + size_of (constant_made e x.place x.declared)) b y)
started_comes w code e p numbers x φ φs c index f known is same l there =
    becomes_comes w code e p (with_made (made_of w.parts φ x) p) numbers x φ φs c index f known is
    (made_becomes (record { stands = known.0; image = known.1; is = is })) same l there

-- one to which nothing is given
pub without_initial :
    (w : Surroundings) (code : List Instr) (p : Point) (x : Declared) (φ : Layer) (φs : List Layer) →
    IsDeclared w p x φ φs → MayBeMade w code p x φ φs
without_initial w code p x φ φs h =
    record {
      newest = h.newest;
      here = h.here;
      holds = h.holds;
      size = h.size;
      fits = h.fits;
      even = h.even;
      low = h.low;
      shape = h.shape;
      number = h.number;
      initial = bare_begins p.places.constants code w.links.data' x.declared h.initial h.none;
      plain = h.plain;
      fixed = h.fixed;
      values = h.values;
      valued = h.valued;
      limit = h.limit;
    }

pub variable_comes :
    (w : Surroundings) (code : List Instr) (e : Environment) (p : Point) (numbers : ℕ → ℕ) (x : Declared) (φ : Layer)
    (φs : List Layer) (c index : ℕ) (f : Family) → Stands w p × IsImage w code p → IsDeclared w p x φ φs →
    (table_number e x.declared ≡ x.number) × (e.parts ≡ w.parts) →
    Linked w.links code index (constant_made e x.place x.declared) → AreIn w p numbers index f →
    Reach code c f (services_of p) (c + size_of (constant_made e x.place x.declared))
    (services_of (with_made (made_of w.parts φ x) p))
    (λ b y. IsIn w (with_made (made_of w.parts φ x) p) numbers
    (index + size_of (constant_made e x.place x.declared)) b y)
variable_comes w code e p numbers x φ φs c index f known is same l there =
    started_comes w code e p numbers x φ φs c index f known (without_initial w code p x φ φs is) same l there

-- ---- what it means

-- by the limit alone
limit_means :
    (w : Surroundings) (p : Point) (x : Declared) (φ : Layer) (acts : ℕ) →
    nat_le (automatic_in_use p.state.living + footprint_of (generation_for x)) most_automatic ≡ true →
    K.variable_made x.index (generation_for x) acts p.state ≡ Normal tt (with_made (made_of w.parts φ x) p).state
unfolding K.variable_made looked choose stored ◌>>=◌
limit_means w p x φ acts limit =
    ap (λ q. cond q (Normal tt (with_variable x.index (generation_for x) p.state))
    (finish (E.Limit L.Automatic) acts p.state)) limit

pub started_means :
    (w : Surroundings) (code : List Instr) (p : Point) (x : Declared) (φ : Layer) (φs : List Layer) (acts : ℕ) →
    MayBeMade w code p x φ φs →
    K.variable_made x.index (generation_for x) acts p.state ≡ Normal tt (with_made (made_of w.parts φ x) p).state
started_means w code p x φ φs acts is = limit_means w p x φ acts is.limit

pub variable_means :
    (w : Surroundings) (p : Point) (x : Declared) (φ : Layer) (φs : List Layer) (acts : ℕ) → IsDeclared w p x φ φs →
    K.variable_made x.index (generation_for x) acts p.state ≡ Normal tt (with_made (made_of w.parts φ x) p).state
variable_means w p x φ φs acts is = limit_means w p x φ acts is.limit
