-- The variables of the main procedure are made, one behind the other, up to the limit on automatic data.
use Rattle.std.proofs.Common.{◌≡◌, ℕ, suc, ◌+◌, ◌^◌, ◌<◌, ◌≤◌, ◌⊎◌, inl, inr, List, [], ◌∷◌, length, Bool, refl, sym, ap, ◌∙◌, subst, arith, add-one}
use Rattle.std.specs.Prelude.{min, pos, cond, nat_le}
use Rattle.std.proofs.lemmas.Bool.{le-leb, lt-leb, cases_lt}
use Rattle.rv_meaning.specs.declared.instr.Instr.{Instr}
use Rattle.rv_meaning.specs.declared.instr.Instr.TheVariants as I
use Rattle.rv_meaning.specs.declared.instr.ImmediateOp.TheVariants as Imm
use Rattle.rv_meaning.specs.Words.{word, sum}
use Rattle.rv_meaning.specs.Tables.{TableSignature}
use Rattle.pli_meaning.specs.declared.outcome.End.TheVariants as E
use Rattle.pli_meaning.specs.declared.outcome.Limit.TheVariants as L
use Rattle.pli_typing.specs.TypedTree as Y
use Rattle.pli_meaning.specs.World.{first_world}
use Rattle.pli_meaning.specs.InputLines.{first_input}
use Rattle.pli_meaning.specs.BasicValues.{VariableName}
use Rattle.pli_meaning.specs.StorageState.{State, most_automatic, automatic_in_use}
use Rattle.pli_meaning.specs.Control.{Flow, Normal, Meaning, flow_on, give, looked, choose, stored, finish, ◌>>=◌, ◌>>◌}
use Rattle.pli_meaning.specs.Raising.{Around}
use Rattle.pli_meaning.specs.Making as K
use Rattle.pli_serving.specs.ServiceState.{Services}
use Rattle.pli_serving.specs.Answers.{Done, Ends}
use Rattle.run_steps.specs.Unlimited as U
use Rattle.pli_coding.specs.Registers.{stack_register, frame_register}
use Rattle.pli_coding.specs.Assembly.{Plain, size_of}
use Rattle.pli_coding.specs.Instructions.{plus, is_immediate}
use Rattle.pli_coding.specs.Frames.{automatic_place, last_place}
use Rattle.pli_coding.specs.SignatureTable.{table_of}
use Rattle.pli_coding.specs.Entries.{variables_made}
use Rattle.pli_coding.specs.Linking.{Links}
use Rattle.image_runs.specs.Runs.{Whole}
use Rattle.pli_headline.specs.Headline.{parts}
use Rattle.pli_headline.specs.ProvedSoFar.{array_variable, IsHeld}
use Rattle.pli_headline.proofs.Scalars.{Declared}
use Rattle.pli_headline.proofs.InitialRead.{start_datum}
use Rattle.run_steps.specs.Engine.{Base, address, most_code, call_at}
use Rattle.run_steps.proofs.Linking.{size_append}
use Rattle.run_steps.specs.Items.{Linked, At}
use Rattle.run_steps.proofs.Numbers.{above_sum, above_small}
use Rattle.run_steps.specs.Bodies.{Ground, Known, reserved_are}
use Rattle.run_steps.proofs.Bodies.{frame_is, lose_known, displaced_by}
use Rattle.run_steps.proofs.Jumps.{front_of, back_of, first_of}
use Rattle.run_steps.specs.Temporaries.{nothing}
use Rattle.run_steps.specs.Calls.{Calling}
use Rattle.run_steps.proofs.Calls.{comes_finish, called, call_done, end_pauses, call_ends}
use Rattle.run_steps.specs.Reach.{Family, Reach, Aims, Comes, Closed, cost, reached}
use Rattle.run_steps.proofs.Reach.{before_closed, comes_on, onward, reach_then, reach_map, reached_holds}
use Rattle.pli_headline.proofs.VariablePlaces.{room_of, frame_size, data_fits, sizes_of}
use Rattle.pli_headline.proofs.Holdings.{Content}
use Rattle.pli_headline.proofs.MainGround.{Frame, ground_of}
use Rattle.pli_headline.proofs.MainFrame.{main_frame}
use Rattle.pli_headline.proofs.MainProcedure.{main_environment}
use Rattle.pli_headline.proofs.PlainNumbers.{number_for, AreOf}
use Rattle.pli_headline.proofs.MainStates.{fresh_scalar, scalar_print, begin_contents, scalars_bound, scalars_living, main_state, scalars_in_use, main_services, kind_shape}
use Rattle.pli_headline.proofs.NamesMade.{made_code, variables_are, asked_regs, asked_size, made_size, call_linked, rest_linked, variable_asked}
use Rattle.pli_headline.proofs.VariableServed.{Ready, start_at, data_of, data_length, past_limit, make_ends, with_number_made, make_made, made_length, more_stands}
use Rattle.pli_headline.proofs.ArrayMeant.{shape_is}
use Rattle.pli_meaning.specs.Contents.{Shape, fresh}

-- ---- in the meaning

abbrev next_state : (kind : ℕ → Declared) → (input : List ℕ) → (j n : ℕ) → State
next_state kind input j n =
    record {
      world = first_world;
      input = first_input input;
      serials = n;
      living = record { serial = n; owner = 1; generation = fresh_scalar (kind j); placed = [] } ∷ scalars_living kind j;
      heap = [];
      statics = [];
      controlled = [];
      activations =
          record { height = 1; level = 0; parent = 0; oncode = 0; bindings = record { variable = j; name = VariableName n; shape = kind_shape (kind j).kind } ∷ scalars_bound kind j; units = [] }
          ∷ [];
    }

-- one variable within the limit, or the end of the run
abbrev made_or_ended : (kind : ℕ → Declared) → (input : List ℕ) → (j k : ℕ) → Bool → Flow (Unit {0})
made_or_ended kind input j k within =
    cond within (Normal tt (main_state kind input (suc j))) (finish {R = Unit {0}} (E.Limit L.Automatic) k (main_state kind input j))

step_meant : (around : Around) (kind : ℕ → Declared) (input : List ℕ) (j k : ℕ) (d : Y.DeclaredVariable) (ds : List Y.DeclaredVariable) → d ≡ array_variable (kind j).kind.type (kind j).kind.bounds (kind j).initial → ((i : ℕ) → i < suc j → IsHeld (kind i).kind.type (kind i).kind.bounds) → K.variables_made around j (d ∷ ds) k (main_state kind input j) ≡ flow_on k (made_or_ended kind input j k (nat_le (room_of (sizes_of kind) (suc j)) most_automatic)) (λ u. K.variables_made around (suc j) ds)
unfolding K.variables_made K.automatic_made K.extents K.variable_made give looked choose stored ◌>>=◌ ◌>>◌
step_meant around kind input j k d ds is are =
    let s = main_state kind input j in
    let rest : ℕ → Unit {0} → Meaning (Unit {0}) = λ n u. K.variables_made around n ds in
    let end = finish {R = Unit {0}} (E.Limit L.Automatic) k s in
    let type = (kind j).kind.type in
    let bs = (kind j).kind.bounds in
    ap (λ u. (K.automatic_made around j u u.class >> K.variables_made around (j + 1) ds) k s) is
    ∙ ap (λ (g : Shape). flow_on k (K.variable_made j (fresh g (pos 0) ((kind j).initial ∷ [])) k s) (rest (j + 1))) (shape_is type bs (kind j).initial)
    ∙ ap (λ n. flow_on k (cond (nat_le (automatic_in_use (scalars_living kind j) + n) most_automatic) (Normal tt (next_state kind input j (j + 1))) end) (rest (j + 1))) (scalar_print (kind j) (are j (omega arith)))
    ∙ ap (λ n. flow_on k (cond (nat_le (n + frame_size (kind j).kind) most_automatic) (Normal tt (next_state kind input j (j + 1))) end) (rest (j + 1))) (scalars_in_use kind j (λ i h. are i (omega (arith, h))))
    ∙ ap (λ n. flow_on k (cond (nat_le (room_of (sizes_of kind) (suc j)) most_automatic) (Normal tt (next_state kind input j n)) end) (rest n)) (add-one j)

-- ---- the stack goes on behind a variable

abbrev second_replaced : ℕ → List ℕ → List ℕ
second_replaced v (x ∷ y ∷ ys) = x ∷ v ∷ ys
second_replaced v xs = xs

-- the same ground where the stack isn't moved yet
abbrev waiting_ground : Frame → List ℕ → (ℕ → Content) → (free : ℕ) → Ground
waiting_ground f first numbers free = record (ground_of f first numbers) { free = free }

stack_piece : {links : Links} {code : List Instr} {i : ℕ} {v : Services} {h t : ℕ → ℕ} (c : ℕ) (f : Frame) (first : List ℕ) (numbers : ℕ → Content) (free z : ℕ) (g : Family) → z ≡ 144 + room_of f.sizes f.count → Linked links code i (plus stack_register frame_register (pos z)) → ((b : Base) → At b i (Known (waiting_ground f first numbers free) v h t nothing b) (g b)) → Reach code c g v (c + size_of (plus stack_register frame_register (pos z))) v (λ b w. At b (i + size_of (plus stack_register frame_register (pos z))) (Known (ground_of f first numbers) v h t nothing b) w)
stack_piece {v = v} {h = h} {t = t} c f first numbers free z g e l at =
    let inside = f.inside in
    let goes : (b : Base) → sum (b.at + f.at) (word (pos z)) ≡ b.at + (f.at + 144 + room_of f.sizes f.count) = λ b. above_sum b.at f.at z b.valid.1 (omega (arith, inside, e)) ∙ ap (λ n. b.at + n) (omega (arith, e)) in
    displaced_by (is_immediate (pos z)) c g (λ q d. I.Immediate Imm.Add stack_register q d) frame_register (pos z) (λ b. b.at + f.at) (Known (waiting_ground f first numbers free) v h t nothing) (Known (ground_of f first numbers) v h t nothing) (above_small z (omega (arith, inside, e))) (λ b. let v' = b.valid.1 in omega (arith, v', inside)) (λ y u. refl) (λ b. frame_is (at b).holds.body) (omega arith)
    (record {
      does = λ b j w q d k s. record {
        body = record {
          services = k.body.services;
          registers =
              ap (second_replaced (sum (w.machine.registers q.index) (word d))) k.body.registers
              ∙ ap (λ u. second_replaced u (reserved_are b (ground_of f first numbers) h)) (s ∙ goes b);
          bytes = k.body.bytes;
          memory = k.body.memory;
        };
        regs = tt;
      };
      lost = λ b w u i k. lose_known w 31 u i (record { reserved_stay = λ y u. refl; known_stay = λ b y u o. o; set = λ y u. refl }) k;
    })
    l at

-- ---- one variable

asking : {links : Links} {code : List Instr} {i : ℕ} (kind : ℕ → Declared) (words j : ℕ) (small' : words ≤ most_code) (few : room_of (sizes_of kind) j ≤ 2 ^ 20) (first input : List ℕ) (table : List TableSignature) (line : ℕ) (h t : ℕ → ℕ) (g : Family) → Linked links code i (Plain I.Ecall ∷ []) → ((b : Base) → At b i (Known (ground_of (main_frame words (sizes_of kind) j small' few) first (begin_contents kind)) (main_services table kind input (main_frame words (sizes_of kind) j small' few).at line j) h t (asked_regs ((main_frame words (sizes_of kind) j small' few).at + (144 + room_of (sizes_of kind) j)) (number_for table (kind j).kind) (start_at links (kind j)) ((main_frame words (sizes_of kind) j small' few).at + (144 + room_of (sizes_of kind) j + 16))) b) (g b)) → Calling links code i g (λ b. U.make_served (call_at code (main_services table kind input (main_frame words (sizes_of kind) j small' few).at line j) (g b).machine.memory) ((main_frame words (sizes_of kind) j small' few).at + (144 + room_of (sizes_of kind) j)) (number_for table (kind j).kind) (start_at links (kind j)) ((main_frame words (sizes_of kind) j small' few).at + (144 + room_of (sizes_of kind) j + 16)) 0)
asking {links = links} {code = code} kind words j small' few first input table line h t g l at =
    let f = main_frame words (sizes_of kind) j small' few in
    let v = main_services table kind input f.at line j in
    record {
      linked = l;
      pc = λ b. (at b).pc;
      answers = λ b.
          let o = (at b).holds in
          called code (g b) v 7 (f.at + (144 + room_of (sizes_of kind) j)) (number_for table (kind j).kind) (start_at links (kind j)) (f.at + (144 + room_of (sizes_of kind) j + 16)) 0 (λ call x0 x1 x2 x3 x4. U.make_served call x0 x1 x2 x3 x4) o.body.services o.regs.0 o.regs.1.1.1.1.1.0 o.regs.1.1.1.1.0 o.regs.1.1.1.0 o.regs.1.1.0 o.regs.1.0 (λ call x. refl);
    }

-- a variable within the limit is made
variable_piece : {links : Links} {code : List Instr} {i : ℕ} (kind : ℕ → Declared) (c words j : ℕ) (small' : words ≤ most_code) (few : room_of (sizes_of kind) j ≤ 2 ^ 20) (few' : room_of (sizes_of kind) (suc j) ≤ 2 ^ 20) (first input : List ℕ) (table : List TableSignature) (line : ℕ) (h t : ℕ → ℕ) (g : Family) → ((i' : ℕ) → i' < suc j → Ready links code first table (kind i')) → Linked links code i (made_code (frame_size (kind j).kind) (144 + room_of (sizes_of kind) j) (number_for table (kind j).kind) (start_datum (kind j).initial)) → ((b : Base) → At b i (Known (ground_of (main_frame words (sizes_of kind) j small' few) first (begin_contents kind)) (main_services table kind input (main_frame words (sizes_of kind) j small' few).at line j) h t nothing b) (g b)) → Reach code c g (main_services table kind input (main_frame words (sizes_of kind) j small' few).at line j) (c + size_of (made_code (frame_size (kind j).kind) (144 + room_of (sizes_of kind) j) (number_for table (kind j).kind) (start_datum (kind j).initial))) (main_services table kind input (main_frame words (sizes_of kind) j small' few).at line (suc j)) (λ b w. At b (i + size_of (made_code (frame_size (kind j).kind) (144 + room_of (sizes_of kind) j) (number_for table (kind j).kind) (start_datum (kind j).initial))) (Known (ground_of (main_frame words (sizes_of kind) (suc j) small' few') first (begin_contents kind)) (main_services table kind input (main_frame words (sizes_of kind) j small' few).at line (suc j)) h t nothing b) w)
variable_piece {links} {code} {i} kind c words j small' few few' first input table line h t g signs l at =
    let f = main_frame words (sizes_of kind) j small' few in
    let f' = main_frame words (sizes_of kind) (suc j) small' few' in
    let size = frame_size (kind j).kind in
    let place = 144 + room_of (sizes_of kind) j in
    let n = number_for table (kind j).kind in
    let start = start_datum (kind j).initial in
    let ready = signs j (omega arith) in
    let v = main_services table kind input f.at line j in
    let v' = main_services table kind input f.at line (suc j) in
    let begun = begin_contents kind in
    let inside = f'.inside in
    let above = f.above_statics in
    let counted : min last_place (place + size) ≡ place + size = omega (arith, few') in
    let ps = plus stack_register frame_register (pos (min last_place (place + size))) in
    let alike = ap (λ p. size_of (plus stack_register frame_register (pos p))) counted in
    let total = made_size size place n start in
    let r1 = variable_asked c f first begun v h t g size place n start ready.reads.small' ready.numbered.few (let wide = (sizes_of kind).wide j in omega (arith, inside, wide)) l at in
    let lc = call_linked size place n start l in
    let calling = asking kind words j small' few first input table line h t (reached r1) (first_of (Plain I.Ecall) ps lc) (reached_holds r1) in
    let done : Calling links code (asked_size place n start i) (reached r1) (λ b. Done v' (with_number_made (reached r1 b).machine.memory f.at (room_of (sizes_of kind) j) j (data_of (kind j))) (f.at + place) n) = record {
      linked = calling.linked;
      pc = calling.pc;
      answers = λ b. calling.answers b ∙ make_made links code first table kind input f.at line j (reached r1 b).machine.memory signs (reached_holds r1 b).holds.body.bytes (reached_holds r1 b).holds.body.memory.statics (omega (arith, few')) (let s = l.small' in omega (arith, s, above)) (omega (arith, inside));
    } in
    let r2 = call_done (asked_size place n start c) (reached r1) v v' (λ b. with_number_made (reached r1 b).machine.memory f.at (room_of (sizes_of kind) j) j (data_of (kind j))) (λ b. f.at + place) (λ b. n) (λ b. Known (waiting_ground f' first begun (f.at + 144 + room_of (sizes_of kind) j)) v' h t nothing b) (omega arith) done
    (λ b. let o = (reached_holds r1 b).holds.body in record {
      body = record {
        services = refl;
        registers = o.registers;
        bytes = made_length (reached r1 b).machine.memory (data_of (kind j)) f.at (room_of (sizes_of kind) j) j (let n = o.bytes in let held = ready.numbered.held in let length' = data_length (kind j) held in let all = data_fits (kind j).kind held in omega (arith, inside, n, length', all)) ∙ o.bytes;
        memory = more_stands kind words j small' few few' first t b (reached r1 b).machine.memory (λ i' h'. (signs i' h').numbered.held) ready.begins o.bytes o.memory;
      };
      regs = tt;
    }) in
    let r3 = stack_piece (asked_size place n start c + 1) f' first begun (f.at + 144 + room_of (sizes_of kind) j) (place + size) (reached r2) (omega arith) (subst (λ p. Linked links code (asked_size place n start i + 1) (plus stack_register frame_register (pos p))) counted (rest_linked size place n start l)) (reached_holds r2) in
    let e : asked_size place n start c + 1 + size_of (plus stack_register frame_register (pos (place + size))) ≡ c + size_of (made_code size place n start) = omega (arith, total, alike) in
    let e' : asked_size place n start i + 1 + size_of (plus stack_register frame_register (pos (place + size))) ≡ i + size_of (made_code size place n start) = omega (arith, total, alike) in
    let whole' = reach_then r1 (reach_then r2 r3) in
    let P : Base → Whole → Type 0 = λ b w. At b (i + size_of (made_code size place n start)) (Known (ground_of f' first begun) v' h t nothing b) w in
    let moved = reach_map P whole' (λ b w o. record { pc = o.pc ∙ ap (address b) e'; holds = o.holds }) in
    subst (λ n. Reach code c g v n v' P) e moved

-- the variable that passes the limit ends the run
limit_piece : {links : Links} {code : List Instr} {i : ℕ} {aims : Aims (Unit {0})} (closed : Closed code aims) (kind : ℕ → Declared) (words j : ℕ) (small' : words ≤ most_code) (few : room_of (sizes_of kind) j ≤ 2 ^ 20) (first input : List ℕ) (table : List TableSignature) (line k : ℕ) (h t : ℕ → ℕ) (g : Family) → 2 ^ 20 < room_of (sizes_of kind) (suc j) → k + 1 < 2 ^ 64 → ((i' : ℕ) → i' < suc j → Ready links code first table (kind i')) → Linked links code i (made_code (frame_size (kind j).kind) (144 + room_of (sizes_of kind) j) (number_for table (kind j).kind) (start_datum (kind j).initial)) → ((b : Base) → At b i (Known (ground_of (main_frame words (sizes_of kind) j small' few) first (begin_contents kind)) (main_services table kind input (main_frame words (sizes_of kind) j small' few).at line j) h t nothing b) (g b)) → Comes code i g (main_services table kind input (main_frame words (sizes_of kind) j small' few).at line j) aims (finish {R = Unit {0}} (E.Limit L.Automatic) k (main_state kind input j))
limit_piece {links} {code} {i} {aims} closed kind words j small' few first input table line k h t g over fits signs l at =
    let f = main_frame words (sizes_of kind) j small' few in
    let size = frame_size (kind j).kind in
    let place = 144 + room_of (sizes_of kind) j in
    let n = number_for table (kind j).kind in
    let start = start_datum (kind j).initial in
    let ready = signs j (omega arith) in
    let v = main_services table kind input f.at line j in
    let ps = plus stack_register frame_register (pos (min last_place (place + size))) in
    let lc = call_linked size place n start l in
    onward closed (variable_asked i f first (begin_contents kind) v h t g size place n start ready.reads.small' ready.numbered.few (omega (arith, small', few)) l at) (λ g' at'.
    let calling = asking kind words j small' few first input table line h t g' (first_of (Plain I.Ecall) ps lc) at' in
    let ends : Calling links code (asked_size place n start i) g' (λ b. Ends (past_limit v)) = record {
      linked = calling.linked;
      pc = calling.pc;
      answers = λ b. calling.answers b ∙ make_ends links code first table kind input f.at line j (f.at + place) (f.at + (place + 16)) k (g' b).machine.memory signs (at' b).holds.body.bytes (at' b).holds.body.memory.statics over fits;
    } in
    let room : asked_size place n start i < cost code = let n = lc.inside in omega (arith, n) in
    comes_finish (past_limit v) (E.Limit L.Automatic) k (main_state kind input j) refl refl
    (end_pauses (asked_size place n start i) g' v (past_limit v) room refl (λ b. (at' b).holds.body.services) (add-one 0) ends)
    (call_ends (asked_size place n start i) g' v (past_limit v) (λ e. cc e) ends))

-- ---- all of them

-- behind the last one
abbrev pub Made : Aims (Unit {0}) → (words : ℕ) → words ≤ most_code → (first input : List ℕ) → List TableSignature → (kind : ℕ → Declared) → (line n i : ℕ) → (h t : ℕ → ℕ) → Type 0
Made aims words small' first input table kind line n i h t =
    (few : room_of (sizes_of kind) n ≤ 2 ^ 20) (g : Family) → ((b : Base) → At b i (Known (ground_of (main_frame words (sizes_of kind) n small' few) first (begin_contents kind)) (main_services table kind input (main_frame words (sizes_of kind) n small' few).at line n) h t nothing b) (g b)) → aims.done i g (main_services table kind input (main_frame words (sizes_of kind) n small' few).at line n) tt (main_state kind input n)

pub variables_piece : {links : Links} {code : List Instr} {aims : Aims (Unit {0})} (closed : Closed code aims) (around : Around) (program : Y.Program) (block line : ℕ) (words : ℕ) (small' : words ≤ most_code) (first input : List ℕ) (kind : ℕ → Declared) (k n : ℕ) (h t : ℕ → ℕ) → k + 1 < 2 ^ 64 → ((j : ℕ) → j ≤ n → room_of (sizes_of kind) j ≤ 2 ^ 20 → automatic_place parts program block 0 j ≡ 144 + room_of (sizes_of kind) j) → ((j : ℕ) → j < n → Ready links code first (table_of program) (kind j)) → (ds : List Y.DeclaredVariable) (j i : ℕ) → AreOf kind j ds → j + length ds ≡ n → (few : room_of (sizes_of kind) j ≤ 2 ^ 20) (g : Family) → Linked links code i (variables_made (main_environment program block) line j ds) → ((b : Base) → At b i (Known (ground_of (main_frame words (sizes_of kind) j small' few) first (begin_contents kind)) (main_services (table_of program) kind input (main_frame words (sizes_of kind) j small' few).at line j) h t nothing b) (g b)) → Made aims words small' first input (table_of program) kind line n (i + size_of (variables_made (main_environment program block) line j ds)) h t → Comes code i g (main_services (table_of program) kind input (main_frame words (sizes_of kind) j small' few).at line j) aims (K.variables_made around j ds k (main_state kind input j))
unfolding K.variables_made give
variables_piece {aims = aims} closed around program block line words small' first input kind k n h t fits places signs [] j i are count few g l at goal =
    let same : n ≡ j = omega (arith, count) in
    let here : i + 0 ≡ i = omega arith in
    let T : ℕ → ℕ → Type 0 = λ u m. (fw : room_of (sizes_of kind) u ≤ 2 ^ 20) → ((b : Base) → At b m (Known (ground_of (main_frame words (sizes_of kind) u small' fw) first (begin_contents kind)) (main_services (table_of program) kind input (main_frame words (sizes_of kind) u small' fw).at line u) h t nothing b) (g b)) → aims.done m g (main_services (table_of program) kind input (main_frame words (sizes_of kind) u small' fw).at line u) tt (main_state kind input u) in
    let there : T n (i + 0) = λ fw a. goal fw g a in
    record { to = λ early. subst (λ m. T j m) here (subst (λ u. T u (i + 0)) same there) few at }
variables_piece {links = links} {code = code} {aims = aims} closed around program block line words small' first input kind k n h t fits places signs (d ∷ ds) j i are count few g l at goal =
    let table = table_of program in
    let place = 144 + room_of (sizes_of kind) j in
    let rest = variables_made (main_environment program block) line (suc j) ds in
    let m = number_for table (kind j).kind in
    let start = start_datum (kind j).initial in
    let known : (i' : ℕ) → i' < suc j → Ready links code first table (kind i') = λ i' h'. signs i' (omega (arith, count, h')) in
    let numeric : (i' : ℕ) → i' < suc j → IsHeld (kind i').kind.type (kind i').kind.bounds = λ i' h'. (known i' h').numbered.held in
    let eq = variables_are program block line j place (kind j) d ds are.0 (numeric j (omega arith)) (places j (omega (arith, count)) few) in
    let whole' = subst (Linked links code i) eq l in
    let mine = front_of (made_code (frame_size (kind j).kind) place m start) rest whole' in
    let behind = back_of (made_code (frame_size (kind j).kind) place m start) rest whole' in
    let size = ap size_of eq in
    let size' = size_append (made_code (frame_size (kind j).kind) place m start) rest in
    let e : i + size_of (variables_made (main_environment program block) line j (d ∷ ds)) ≡ i + size_of (made_code (frame_size (kind j).kind) place m start) + size_of rest = omega (arith, size, size') in
    let next' : Unit {0} → Meaning (Unit {0}) = λ u. K.variables_made around (suc j) ds in
    let v = main_services table kind input (main_frame words (sizes_of kind) j small' few).at line j in
    let T : Bool → Type 0 = λ q. Comes code i g v aims (flow_on k (made_or_ended kind input j k q) next') in
    let by_limit : (2 ^ 20 < room_of (sizes_of kind) (suc j)) ⊎ (room_of (sizes_of kind) (suc j) ≤ 2 ^ 20) → T (nat_le (room_of (sizes_of kind) (suc j)) most_automatic) = elim [
      | inl over ↦
          subst T (sym (lt-leb (room_of (sizes_of kind) (suc j)) (2 ^ 20) over))
          (comes_on k (finish {R = Unit {0}} (E.Limit L.Automatic) k (main_state kind input j)) next'
          (limit_piece (before_closed k next' closed) kind words j small' few first input table line k h t g over fits known mine at))
      | inr within ↦
          subst T (sym (le-leb (room_of (sizes_of kind) (suc j)) (2 ^ 20) within))
          (onward closed (variable_piece kind i words j small' few (omega (arith, within)) first input table line h t g known mine at) (λ g' at'.
          variables_piece closed around program block line words small' first input kind k n h t fits places signs ds (suc j) (i + size_of (made_code (frame_size (kind j).kind) place m start)) are.1 (omega (arith, count)) (omega (arith, within)) g' behind at' (subst (λ q. Made aims words small' first input table kind line n q h t) e goal)))
    ] in
    subst (Comes code i g v aims) (sym (step_meant around kind input j k d ds are.0 numeric)) (by_limit (cases_lt (2 ^ 20) (room_of (sizes_of kind) (suc j))))
