-- A procedure with a list of arguments is called where as many blocks are active as may be: its frame is made, it keeps
-- where the list stands, and service 4 ends the run.
use Rattle.std.proofs.Common.{◌≡◌, ℕ, ◌+◌, ◌^◌, ◌<◌, ◌≤◌, List, [], ◌∷◌, ◌++◌, inl, refl, sym, ap, ◌∙◌, subst}
use Rattle.std.proofs.Common.{arith}
use Rattle.std.proofs.lemmas.List.{append_assoc}
use Rattle.std.specs.Prelude.{pos}
use Rattle.rv_meaning.specs.declared.instr.Instr.{Instr}
use Rattle.rv_meaning.specs.declared.instr.Instr.TheVariants as I
use Rattle.rv_meaning.specs.declared.instr.RegisterOp.TheVariants as Op
use Rattle.rv_meaning.specs.Memory.{load}
use Rattle.rv_meaning.specs.Words.{operated, sum, word}
use Rattle.rv_meaning.proofs.MemoryLaws.{load-store_other}
use Rattle.pli_meaning.specs.Control.{finish}
use Rattle.pli_meaning.specs.World.{ending}
use Rattle.pli_meaning.specs.declared.outcome.End.TheVariants as E
use Rattle.pli_meaning.specs.declared.outcome.Limit.TheVariants as L
use Rattle.pli_serving.specs.Answers.{Ends, with_world}
use Rattle.pli_serving.specs.Blocks as B
use Rattle.pli_coding.specs.Assembly.{Code, Plain, ProcedureEntry, size_of}
use Rattle.pli_coding.specs.Entries.{block_entered}
use Rattle.pli_coding.specs.Frames.{list_offset, list_place, own_offset}
use Rattle.pli_coding.specs.Instructions.{add, load_word, move, number, small, store_word, subtract}
use Rattle.pli_coding.specs.Registers.{a0, a1, a2, a3, a7, frame_register, u1, u5}
use Rattle.activation_relation.specs.CodeStores.{most_levels}
use Rattle.activation_relation.specs.Layers.{Point, services_of}
use Rattle.activation_relation.specs.Points.{Surroundings}
use Rattle.activation_relation.proofs.Blocks.{depth_answered}
use Rattle.run_steps.specs.Bodies.{Ground, Known}
use Rattle.run_steps.proofs.Bodies.{at_place, constant_piece, frame_is, store_piece, zero_is}
use Rattle.run_steps.specs.Calls.{Calling}
use Rattle.run_steps.proofs.Calls.{acts, call_ends, called, comes_finish, end_pauses}
use Rattle.run_steps.specs.Engine.{Base, address}
use Rattle.run_steps.specs.Items.{At, Linked}
use Rattle.run_steps.proofs.Items.{straight}
use Rattle.run_steps.proofs.Jumps.{back_of, call_piece, front_of}
use Rattle.run_steps.proofs.Linking.{size_append}
use Rattle.run_steps.specs.Reach.{Aims, Closed, Comes, Family, Reach, cost, reached}
use Rattle.run_steps.proofs.Reach.{onward, reach_map, reach_then, reached_holds}
use Rattle.run_steps.proofs.Reaching.{reach_moved}
use Rattle.block_runs.specs.Beginnings.{Beginning, IsCalled}
use Rattle.block_runs.specs.Machines.{AreIn, IsIn}
use Rattle.block_runs.proofs.BlockEntries.{small_is, word_fits, word_is}
use Rattle.block_runs.proofs.FrameBeginnings.{frame_code}
use Rattle.block_runs.proofs.Places.{IsFrame, ground_at, word_in}
use Rattle.block_runs.proofs.PointGrounds.{call_is, in_known, known_in, point_frame}
use Rattle.argument_runs.specs.ListBeginnings.{IsListCall, IsListing, listed_code}
use Rattle.nested_calls.proofs.DeepBeginnings.{IsDeep, begun_at, frame_comes, moved_word, new_point_frame, one_more}

-- ---- what is known while it keeps the list: that its frame has its own place

abbrev own_ground : (x : Beginning) → IsFrame x.layer.at → Ground
own_ground x h = ground_at x.layer.at x.layer.top h (λ b m. load 4 m (x.layer.at + 36) ≡ x.layer.at)

abbrev list_regs : (list : ℕ) → Beginning → Base → List (ℕ × ℕ)
list_regs list x b = (11, b.at + list) ∷ (12, x.texts) ∷ []

-- what a1 holds once it has the list's offset, whatever that is
abbrev offset_in : Family → Base → ℕ
offset_in f b =
    let y = (f b).machine.registers in sum (operated Op.Subtract (y 11) (y 8)) (y 6)

abbrev kept_code : (level : ℕ) → Code
kept_code level =
    store_word frame_register a1 (pos (list_place level))
    ++ (subtract a1 a1 frame_register ∷ add a1 a1 u1 ∷ store_word frame_register a1 list_offset)

keeps_comes :
    (w : Surroundings) (p : Point) {code : List Instr} {i : ℕ} {numbers : ℕ → ℕ} (x : Beginning) (list c : ℕ)
    (g : Family) (h : IsFrame x.layer.at) → x.layer.level < most_levels →
    Linked w.links code i (kept_code x.layer.level) →
    ((b : Base) → At b i (Known (own_ground x h) (services_of p) numbers (λ n. 0) (list_regs list x) b) (g b)) →
    Reach code c g (services_of p) (c + size_of (kept_code x.layer.level)) (services_of p)
    (λ b y. At b (i + size_of (kept_code x.layer.level))
    (Known (own_ground x h) (services_of p) numbers (λ n. 0) (λ b'. (12, x.texts) ∷ []) b) y)
keeps_comes w p {numbers = numbers} x list c g h few l there =
    let v = services_of p in
    let level = x.layer.level in
    let at = x.layer.at in
    let o = own_ground x h in
    let first = store_word frame_register a1 (pos (list_place level)) in
    let two = subtract a1 a1 frame_register ∷ add a1 a1 u1 ∷ [] in
    let last = store_word frame_register a1 list_offset in
    let l1 = back_of first (two ++ last) l in
    let n0 = size_append first (two ++ last) in
    let r1 = store_piece o {h = numbers} {t = λ n. 0} (λ n. 0) c g a1 (pos (list_place level)) (at + list_place level)
    (λ b. b.at + list) (word_in at (list_place level) h (omega arith) (omega (arith, few))) (λ y u. refl)
    (λ b y k. k.regs.0) (λ b. refl)
    (λ b m bytes own.
    load-store_other 4 4 m (at + list_place level) (b.at + list) (at + 36) (inl (omega arith)) ∙ own)
    (record { reserved_stay = λ y u. refl; known_stay = λ b y u k. k; set = λ y u. refl })
    (front_of first (two ++ last) l) there in
    let r2 = straight (c + size_of first) (reached r1) v v
    (λ b y. Known o v numbers (λ n. 0) (λ b'. (11, offset_in (reached r1) b') ∷ (12, x.texts) ∷ []) b y)
    (front_of two last l1) (omega arith) (λ b. (reached_holds r1 b).pc)
    (λ b. let k = (reached_holds r1 b).holds in record {
      body = record {
        services = k.body.services;
        registers = k.body.registers;
        bytes = k.body.bytes;
        memory = k.body.memory;
      };
      regs = (refl, k.regs.1);
    }) in
    let r3 = store_piece o {h = numbers} {t = λ n. 0} (λ n. 0) (c + size_of first + 2) (reached r2) a1 list_offset
    (at + 44) (offset_in (reached r1)) (word_in at 44 h refl (omega arith)) (λ y u. refl) (λ b y k. k.regs.0)
    (λ b. refl)
    (λ b m bytes own.
    load-store_other 4 4 m (at + 44) (offset_in (reached r1) b) (at + 36) (inl (omega arith)) ∙ own)
    (record { reserved_stay = λ y u. refl; known_stay = λ b y u k. k; set = λ y u. refl })
    (back_of two last l1) (reached_holds r2) in
    reach_map _ (reach_moved (omega (arith, n0)) (omega (arith, n0)) (reach_then r1 (reach_then r2 r3)))
    (λ b y k. record { pc = k.pc; holds = record { body = k.holds.body; regs = k.holds.regs.1 } })

-- ---- service 4 is asked

abbrev enter_front : Code
enter_front = move a3 a2 ∷ (load_word a1 frame_register own_offset ++ small a0 0 ∷ [])

abbrev enter_regs : (at texts : ℕ) → Base → List (ℕ × ℕ)
enter_regs at texts b = (10, 0) ∷ (11, at) ∷ (13, texts) ∷ []

abbrev asked_regs : Beginning → Base → List (ℕ × ℕ)
asked_regs x b = (17, 4) ∷ (12, x.head.line) ∷ enter_regs x.layer.at x.texts b

abbrev asking_code : (line : ℕ) → Code
asking_code line = enter_front ++ (number a2 line ++ (small a7 4 ∷ []))

asked_comes :
    (w : Surroundings) (p : Point) {code : List Instr} {i : ℕ} {numbers : ℕ → ℕ} (x : Beginning) (c : ℕ) (g : Family)
    (h : IsFrame x.layer.at) → (x.head.line < 2 ^ 31) × (x.texts < 2 ^ 32) →
    Linked w.links code i (asking_code x.head.line) →
    ((b : Base) → At b i (Known (own_ground x h) (services_of p) numbers (λ n. 0) (λ b'. (12, x.texts) ∷ []) b) (g b)) →
    Reach code c g (services_of p) (c + size_of (asking_code x.head.line)) (services_of p)
    (λ b y. At b (i + size_of (asking_code x.head.line))
    (Known (own_ground x h) (services_of p) numbers (λ n. 0) (asked_regs x) b) y)
asked_comes w p {numbers = numbers} x c g h few l there =
    let v = services_of p in
    let o = own_ground x h in
    let line = number a2 x.head.line in
    let one = small a7 4 ∷ [] in
    let l1 = back_of enter_front (line ++ one) l in
    let n1 = size_append line one in
    let r1 = straight c g v v (λ b y. Known o v numbers (λ n. 0) (enter_regs x.layer.at x.texts) b y)
    (front_of enter_front (line ++ one) l) (omega arith) (λ b. (there b).pc)
    (λ b.
    let k = (there b).holds in
    let r = (g b).machine.registers in (
      at_place b (word_in x.layer.at 36 h refl (omega arith)) (sum (r 8) (word (pos 36)))
          (ap (λ u. sum u (word (pos 36))) (frame_is k.body)),
      record {
        body = record {
          services = k.body.services;
          registers = k.body.registers;
          bytes = k.body.bytes;
          memory = k.body.memory;
        };
        regs = (
          small_is (r 0) 0 (zero_is k.body) (omega arith),
          (k.body.memory, (moved_word (r 12) x.texts k.regs.0 few.1, tt)),
        );
      },
    )) in
    let r2 = constant_piece (c + size_of enter_front) (reached r1) a2 (pos x.head.line) (word_fits x.head.line few.0)
    (record { reserved_stay = λ y u. refl; known_stay = λ b y u k. k; set = λ y u. refl })
    (front_of line one l1) (reached_holds r1) in
    let r3 = straight (c + size_of enter_front + size_of line) (reached r2) v v
    (λ b y. Known o v numbers (λ n. 0) (asked_regs x) b y) (back_of line one l1) (omega arith)
    (λ b. (reached_holds r2 b).pc)
    (λ b. let k = (reached_holds r2 b).holds in record {
      body = record {
        services = k.body.services;
        registers = k.body.registers;
        bytes = k.body.bytes;
        memory = k.body.memory;
      };
      regs = (small_is _ 4 (zero_is k.body) (omega arith), (k.regs.0 ∙ word_is x.head.line few.0, k.regs.1));
    }) in
    reach_moved (omega (arith, n1)) (omega (arith, n1)) (reach_then r1 (reach_then r2 r3))

-- ---- and ends the run, or the run pauses before

answer_ends :
    {R : Type 0} {w : Surroundings} {code : List Instr} {p : Point} {numbers : ℕ → ℕ} {x : Beginning} {i : ℕ}
    {aims : Aims R} (c : ℕ) (g : Family) (q : IsDeep w code p numbers x) (h : IsFrame x.layer.at) →
    (c < cost code) × (w.acts + 1 < 2 ^ 64) → Linked w.links code i (Plain I.Ecall ∷ []) →
    ((b : Base) → At b i (Known (own_ground x h) (services_of p) numbers (λ n. 0) (asked_regs x) b) (g b)) →
    Comes code c g (services_of p) aims (finish {R = R} (E.Limit L.Depth) w.acts p.state)
answer_ends {w = w} {code = code} {p = p} {x = x} {i = i} c g q h fits l there =
    let v = services_of p in
    let v' = with_world (ending (E.Limit L.Depth) v.world) v in
    let calling : Calling w.links code i g (λ b. Ends v') = record {
      linked = l;
      pc = λ b. (there b).pc;
      answers = λ b.
          let o = (there b).holds in
          let m = (g b).machine.memory in
          called code (g b) v 4 0 x.layer.at x.head.line x.texts _
          (λ call x0 x1 x2 x3 x4. B.enter_served call x0 x1 x2 x3)
          o.body.services o.regs.0 o.regs.1.1.0 o.regs.1.1.1.0 o.regs.1.0 o.regs.1.1.1.1.0 refl (λ call y. refl)
          ∙ ap (λ call. B.enter_served call 0 x.layer.at x.head.line x.texts) (call_is w code p m q.image)
          ∙ depth_answered w.units p m x.layer 0 x.texts x.head.line q.stands.active q.entering q.full
          ∙ acts v w.acts (Ends v') q.stands.allowed fits.1;
    } in
    comes_finish v' (E.Limit L.Depth) w.acts p.state refl refl
    (end_pauses c g v v' fits.0 q.stands.running (λ b. (there b).holds.body.services) (one_more v.world.acts) calling)
    (call_ends c g v v' (λ e. cc e) calling)

-- ---- from the call

abbrev calling_regs : Beginning → (list : ℕ) → Family → Base → List (ℕ × ℕ)
calling_regs x list f b = (10, (f b).machine.registers 10) ∷ (11, b.at + list) ∷ (12, x.texts) ∷ []

call_jumps :
    {w : Surroundings} {code : List Instr} {p : Point} {numbers : ℕ → ℕ} {x : Beginning} {list : ℕ} {n : ℕ}
    (c call entry : ℕ) (f : Family) (k : IsDeep w code p numbers x) → IsListCall w code x (n ∷ []) call entry →
    AreIn w p numbers call f → ((b : Base) → IsListing p x list b (f b)) →
    Reach code c f (services_of p) (c + 2) (services_of p)
    (λ b y. IsIn w p numbers entry b y × IsCalled p x b y × (y.machine.registers 11 ≡ b.at + list))
call_jumps {w} {p = p} {x = x} {list = list} c call entry f k s there gives =
    let inside = s.begins.inside in
    let small' = s.begins.small' in
    let h = point_frame k.stands k.image in
    let r = call_piece {t = λ n. 0} {rs = calling_regs x list f} c (c + 2) f (ProcedureEntry x.head.number) entry
    (omega arith) s.place (omega (arith, inside, small'))
    (record { reserved_stay = λ y u. refl; known_stay = λ b y u o. o; set = λ y u. refl }) s.calls
    (λ b. known_in h (there b) (refl, ((gives b).address, ((gives b).calling.texts, tt)))) in
    reach_map _ r
    (λ b y o. (
      in_known h k.image.parts o,
      record {
        calling = record {
          parent = λ some. o.holds.regs.1.0 ∙ (gives b).calling.parent some;
          texts = o.holds.regs.1.1.1.0;
        };
        return = o.holds.regs.0 ∙ ap (address b) (sym s.back);
      },
      o.holds.regs.1.1.0,
    ))

pub deep_list_comes :
    {R : Type 0} {w : Surroundings} {code : List Instr} {p : Point} {numbers : ℕ → ℕ} {x : Beginning} {list n : ℕ}
    {aims : Aims R} → Closed code aims → (c call entry : ℕ) (f : Family) → IsDeep w code p numbers x →
    IsListCall w code x (n ∷ []) call entry →
    (c + 2 + size_of (listed_code x (n ∷ [])) ≤ cost code) × (w.acts + 1 < 2 ^ 64) →
    AreIn w p numbers call f → ((b : Base) → IsListing p x list b (f b)) →
    Comes code c f (services_of p) aims (finish {R = R} (E.Limit L.Depth) w.acts p.state)
deep_list_comes {w = w} {code = code} {p = p} {numbers = numbers} {x = x} {list = list} closed c call entry f q s fits
    there gives =
    let r0 = call_jumps {list = list} c call entry f q s there gives in
    onward closed r0
    (λ f' at'.
    let at : (b : Base) → IsCalled p x b (f' b) = λ b. (at' b).1 in
    let v = services_of p in
    let h = new_point_frame f' q at in
    let first = frame_code (begun_at w p x f') in
    let one = move u5 a1 ∷ [] in
    let keeps = kept_code x.layer.level in
    let asks = asking_code x.head.line in
    let last = Plain I.Ecall ∷ [] in
    let tail = move a3 a2 ∷ block_entered 0 x.head.line in
    let l = s.begins in
    let l1 = back_of first (one ++ (keeps ++ tail)) l in
    let l2 = back_of one (keeps ++ tail) l1 in
    let l3 = back_of keeps tail l2 in
    let split = append_assoc enter_front (number a2 x.head.line ++ (small a7 4 ∷ [])) last
    ∙ ap (λ u. enter_front ++ u) (append_assoc (number a2 x.head.line) (small a7 4 ∷ []) last) in
    let l4 = subst (Linked w.links code _) (sym split) l3 in
    let n0 = size_append first (one ++ (keeps ++ tail)) in
    let n1 = size_append keeps tail in
    let n2 = size_append asks last in
    let size = ap (λ u. size_of u) split in
    let paid = fits.0 in
    let r1 = frame_comes (c + 2) entry f' q at (front_of first (one ++ (keeps ++ tail)) l) (λ b. (at' b).0) in
    let r2 = straight (c + 2 + size_of first) (reached r1) v v
    (λ b y. Known (own_ground x h) v numbers (λ n'. 0) (list_regs list x) b y)
    (front_of one (keeps ++ tail) l1) (omega arith) (λ b. (reached_holds r1 b).pc)
    (λ b. let o = (reached_holds r1 b).holds in record {
      body = record {
        services = o.body.services;
        registers = o.body.registers;
        bytes = o.body.bytes;
        memory = o.body.memory.frames.0.own;
      };
      regs = (o.regs.1.1.0 ∙ (at' b).2, (o.regs.1.1.1.0, tt));
    }) in
    let r3 = keeps_comes w p x list (c + 2 + size_of first + 1) (reached r2) h q.level (front_of keeps tail l2)
    (reached_holds r2) in
    let r4 = asked_comes w p x (c + 2 + size_of first + 1 + size_of keeps) (reached r3) h (q.line, q.few)
    (front_of asks last l4) (reached_holds r3) in
    onward closed (reach_then r1 (reach_then r2 (reach_then r3 r4)))
    (λ g there'.
    answer_ends (c + 2 + size_of first + 1 + size_of keeps + size_of asks) g q h
    (omega (arith, n0, n1, n2, size, paid), fits.1) (back_of asks last l4) there'))
