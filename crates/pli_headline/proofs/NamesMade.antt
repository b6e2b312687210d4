-- Code that asks for one variable to be made: its name, its signature's number and its place come into registers.
use Rattle.std.proofs.Common.{◌≡◌, ℕ, suc, ◌+◌, ◌*◌, ◌^◌, ◌<◌, ◌≤◌, List, [], ◌∷◌, ◌++◌, Option, Some, None, inl, refl, ap, ◌∙◌, arith, lit<, length}
use Rattle.std.specs.Prelude.{min, pos, if◌then◌else◌}
use Rattle.std.proofs.lemmas.Int.{ints}
use Rattle.rv_meaning.specs.declared.instr.Instr.{Instr}
use Rattle.rv_meaning.specs.declared.instr.Instr.TheVariants as I
use Rattle.rv_meaning.specs.declared.instr.Register.{Register}
use Rattle.rv_meaning.specs.Words.{word, sum}
use Rattle.rv_meaning.specs.Memory.{load}
use Rattle.pli_typing.specs.TypedTree as Y
use Rattle.pli_language.specs.Tree as T
use Rattle.pli_serving.specs.ServiceState.{Services}
use Rattle.pli_coding.specs.Registers.{stack_register, frame_register, a0, a1, a2, a3, a4, a7}
use Rattle.pli_coding.specs.Assembly.{Datum, DataPlace, Plain, Code, size_of}
use Rattle.pli_coding.specs.Instructions.{small, number, plus, load_word}
use Rattle.pli_coding.specs.Frames.{own_offset, is_automatic, last_place, automatic_place, name_bytes}
use Rattle.pli_coding.specs.SignatureTable.{table_of}
use Rattle.pli_coding.specs.Entries.{automatic_made, variables_made, constant_made, adjustable_made}
use Rattle.pli_coding.specs.Extents.{initial_given}
use Rattle.pli_coding.specs.Linking.{Links, place_of}
use Rattle.pli_headline.specs.Headline.{parts}
use Rattle.pli_headline.specs.ProvedSoFar.{plain_variable, IsScalar, array_variable, IsHeld, AreBounds, alone}
use Rattle.pli_headline.proofs.Scalars.{Declared, by_held, character, varying, by_shape}
use Rattle.run_steps.proofs.DataNamed.{is_named_back}
use Rattle.pli_headline.proofs.InitialRead.{start_datum, start_of, IsNamedIf}
use Rattle.run_steps.specs.Engine.{Base}
use Rattle.run_steps.proofs.Linking.{size_append}
use Rattle.run_steps.specs.Items.{Linked, At}
use Rattle.run_steps.proofs.Items.{straight}
use Rattle.run_steps.proofs.Numbers.{above_sum, above_small}
use Rattle.run_steps.specs.Bodies.{Ground, Known, PlaceOf, with'}
use Rattle.run_steps.proofs.Bodies.{at_place, zero_is, frame_is, constant_piece, load_piece}
use Rattle.run_steps.proofs.Increments.{plus_own}
use Rattle.run_steps.proofs.Jumps.{front_of, back_of}
use Rattle.run_steps.specs.Temporaries.{nothing}
use Rattle.pli_headline.proofs.Raising.{small_is}
use Rattle.run_steps.specs.Reach.{Family, Reach, reached}
use Rattle.run_steps.proofs.Reach.{reach_then, reached_holds}
use Rattle.pli_headline.proofs.VariablePlaces.{frame_size, text_print, scalar_size, size_for}
use Rattle.pli_headline.proofs.Holdings.{Content}
use Rattle.pli_headline.proofs.MainGround.{Frame, ground_of}
use Rattle.pli_headline.proofs.MainProcedure.{main_environment, frame_fixed, frame_many}
use Rattle.pli_headline.proofs.PlainNumbers.{number_for}
use Rattle.pli_typing.specs.Signatures.{Bounds}
use Rattle.pli_headline.proofs.ArrayFrames.{held_constant}

-- ---- the code of one variable

abbrev own_loaded : Register → Code
own_loaded r = load_word r frame_register own_offset

abbrev pub make_asked : Code
make_asked = small a4 0 ∷ small a7 7 ∷ Plain I.Ecall ∷ []

abbrev pub start_given : Option Datum → Code
start_given start = initial_given a2 start

-- with so many bytes of the frame, the number of a signature, and what INITIAL gives
abbrev pub made_code : (size place n : ℕ) → Option Datum → Code
made_code size place n start =
    own_loaded a0
    ++ (plus a0 a0 (pos place)
    ++ (number a1 n
    ++ (start_given start
    ++ (own_loaded a3
    ++ (plus a3 a3 (pos (place + name_bytes)) ++ (make_asked ++ plus stack_register frame_register (pos (min last_place (place + size)))))))))

alone_is : (program : Y.Program) (block line place : ℕ) (items : List T.InitialItem) (type : Y.LeafType) → IsScalar type → automatic_made (main_environment program block) line place (plain_variable type items) ≡ made_code (scalar_size type) place (number_for (table_of program) (alone type)) (start_datum items)
alone_is program block line place items type is =
    by_held (λ t. automatic_made (main_environment program block) line place (plain_variable t items) ≡ made_code (scalar_size t) place (number_for (table_of program) (alone t)) (start_datum items))
    (λ p. ap (λ n. made_code n place (number_for (table_of program) (alone (Y.FixedLeaf p))) (start_datum items)) (frame_fixed p items))
    refl
    (λ n few. ap (λ m. made_code m place (number_for (table_of program) (alone (character n))) (start_datum items)) (text_print (suc n)))
    (λ n few. ap (λ m. made_code m place (number_for (table_of program) (alone (varying n))) (start_datum items)) (text_print (2 + suc n)))
    type is

many_is : (program : Y.Program) (block line place : ℕ) (items : List T.InitialItem) (type : Y.LeafType) (b : Bounds) (bs : List Bounds) → IsScalar type → AreBounds (b ∷ bs) → length (b ∷ bs) ≤ 8 → automatic_made (main_environment program block) line place (array_variable type (b ∷ bs) items) ≡ made_code (size_for type (b ∷ bs)) place (number_for (table_of program) (record { type = type; bounds = b ∷ bs })) (start_datum items)
many_is program block line place items type b bs held are few =
    let e = main_environment program block in
    let d = array_variable type (b ∷ bs) items in
    ap (λ q. if q then constant_made e place d else adjustable_made e line place d) (held_constant type held (b ∷ bs) items)
    ∙ ap (λ n. made_code n place (number_for (table_of program) (record { type = type; bounds = b ∷ bs })) (start_datum items)) (frame_many type b bs items held are)

made_is : (program : Y.Program) (block line place : ℕ) (s : Declared) → IsHeld s.kind.type s.kind.bounds → automatic_made (main_environment program block) line place (array_variable s.kind.type s.kind.bounds s.initial) ≡ made_code (frame_size s.kind) place (number_for (table_of program) s.kind) (start_datum s.initial)
made_is program block line place s is =
    by_shape (λ t bs. automatic_made (main_environment program block) line place (array_variable t bs s.initial) ≡ made_code (size_for t bs) place (number_for (table_of program) (record { type = t; bounds = bs })) (start_datum s.initial))
    (alone_is program block line place s.initial) (many_is program block line place s.initial) s.kind.type s.kind.bounds is

-- what the variables' code begins with
pub variables_are : (program : Y.Program) (block line j place : ℕ) (s : Declared) (d : Y.DeclaredVariable) (ds : List Y.DeclaredVariable) → d ≡ array_variable s.kind.type s.kind.bounds s.initial → IsHeld s.kind.type s.kind.bounds → automatic_place parts program block 0 j ≡ place → variables_made (main_environment program block) line j (d ∷ ds) ≡ made_code (frame_size s.kind) place (number_for (table_of program) s.kind) (start_datum s.initial) ++ variables_made (main_environment program block) line (suc j) ds
variables_are program block line j place s d ds is numeric at =
    let e = main_environment program block in
    let rest = variables_made e line (suc j) ds in
    let p = automatic_place parts program block 0 j in
    ap (λ u. (if is_automatic u.class then automatic_made e line p u else []) ++ rest) is
    ∙ ap (λ c. c ++ rest) (made_is program block line p s numeric)
    ∙ ap (λ n. made_code (frame_size s.kind) n (number_for (table_of program) s.kind) (start_datum s.initial) ++ rest) at

-- ---- the frame's own offset

pub own_word : (f : Frame) (first : List ℕ) (numbers : ℕ → Content) → PlaceOf (ground_of f first numbers) (pos 36) (f.at + 36)
own_word f first numbers =
    let above = f.above_statics in
    let inside = f.inside in
    let whole = f.whole in
    record {
      small' = lit< tt;
      sums = λ b. above_sum b.at f.at 36 b.valid.1 (omega (arith, inside));
      aligned = omega (arith, whole);
      inside = omega (arith, inside);
      above_code = omega (arith, above);
    }

offset_sum : (at n : ℕ) → at + n < 2 ^ 24 → sum at (word (pos n)) ≡ at + n
offset_sum at n few = omega (arith, ints, few)

-- ---- the call is about to be made

-- a name, the number of its signature, where its INITIAL values stand, a place, and class 0
abbrev pub asked_regs : (name n start place : ℕ) → Base → List (ℕ × ℕ)
asked_regs name n start place b = (17, 7) ∷ (14, 0) ∷ (13, place) ∷ (12, start) ∷ (11, n) ∷ (10, name) ∷ []

abbrev given_regs : (n name start : ℕ) → Base → List (ℕ × ℕ)
given_regs n name start b = (12, start) ∷ (11, n) ∷ (10, name) ∷ []

abbrev pub asked_size : (place n : ℕ) → Option Datum → (i : ℕ) → ℕ
asked_size place n start i =
    i + 1 + size_of (plus a0 a0 (pos place)) + size_of (number a1 n) + size_of (start_given start) + 1 + size_of (plus a3 a3 (pos (place + name_bytes))) + 2

number_word : (n : ℕ) → n < 2 ^ 24 → word (pos n) ≡ n
number_word n few = omega (arith, ints, few)

start_piece : {links : Links} {code : List Instr} {i : ℕ} {g : Ground} {v : Services} {h t : ℕ → ℕ} (c : ℕ) (f : Family) (n name : ℕ) (start : Option Datum) → start_of links start < 2 ^ 32 → n < 2 ^ 24 → Linked links code i (start_given start) → ((b : Base) → At b i (Known g v h t (with' 11 (λ b'. word (pos n)) (λ b'. (10, name) ∷ [])) b) (f b)) → Reach code c f v (c + size_of (start_given start)) v (λ b w. At b (i + size_of (start_given start)) (Known g v h t (given_regs n name (start_of links start)) b) w)
start_piece {g = g} {v = v} {h = h} {t = t} c f n name None fits few l at =
    straight c f v v (λ b. Known g v h t (given_regs n name 0) b) l (omega arith) (λ b. (at b).pc)
    (λ b. let o = (at b).holds in record {
      body = record { services = o.body.services; registers = o.body.registers; bytes = o.body.bytes; memory = o.body.memory };
      regs = (small_is _ 0 (zero_is o.body) (lit< tt), (o.regs.0 ∙ number_word n few, (o.regs.1.0, tt)));
    })
start_piece {links = links} {g = g} {v = v} {h = h} {t = t} c f n name (Some d) fits few l at =
    straight c f v v (λ b. Known g v h t (given_regs n name (place_of links (DataPlace d))) b) l (omega arith) (λ b. (at b).pc)
    (λ b. let o = (at b).holds in (
      fits,
      refl,
      record {
        body = record { services = o.body.services; registers = o.body.registers; bytes = o.body.bytes; memory = o.body.memory };
        regs = (refl, (o.regs.0 ∙ number_word n few, (o.regs.1.0, tt)));
      },
    ))

pub ground_asked : {links : Links} {code : List Instr} {i : ℕ} (c : ℕ) (ground : Ground) (own : PlaceOf ground (pos 36) (ground.frame + 36)) → ((t : ℕ → ℕ) (b : Base) (m : List ℕ) → ground.memory t b m → load 4 m (ground.frame + 36) ≡ ground.frame) → (v : Services) (h t : ℕ → ℕ) (g : Family) (size place n : ℕ) (start : Option Datum) → start_of links start < 2 ^ 32 → n < 2 ^ 24 → ground.frame + place + 32 ≤ 14 * 2 ^ 20 → Linked links code i (made_code size place n start) → ((b : Base) → At b i (Known (ground) v h t nothing b) (g b)) → Reach code c g v (asked_size place n start c) v (λ b w. At b (asked_size place n start i) (Known (ground) v h t (asked_regs (ground.frame + place) n (start_of links start) (ground.frame + (place + 16))) b) w)
ground_asked {links} {code} {i} c ground own shown v h t g size place n start fits few room l at =
    let p0 = plus a0 a0 (pos place) in
    let p1 = number a1 n in
    let p2 = start_given start in
    let p3 = plus a3 a3 (pos (place + name_bytes)) in
    let last = make_asked ++ plus stack_register frame_register (pos (min last_place (place + size))) in
    let o3 = own_loaded a3 in
    let l1 = back_of (own_loaded a0) (p0 ++ (p1 ++ (p2 ++ (o3 ++ (p3 ++ last))))) l in
    let l2 = back_of p0 (p1 ++ (p2 ++ (o3 ++ (p3 ++ last)))) l1 in
    let l3 = back_of p1 (p2 ++ (o3 ++ (p3 ++ last))) l2 in
    let l4 = back_of p2 (o3 ++ (p3 ++ last)) l3 in
    let l5 = back_of o3 (p3 ++ last) l4 in
    let l6 = back_of p3 last l5 in
    let front = small a4 0 ∷ small a7 7 ∷ [] in
    let behind = Plain I.Ecall ∷ plus stack_register frame_register (pos (min last_place (place + size))) in
    let r1 = load_piece c g a0 own_offset (ground.frame + 36) (λ b. ground.frame) (own) (λ b m o. shown t b m o)
    (record { reserved_stay = λ y u. refl; known_stay = λ b y u o. o; set = λ y u. refl })
    (record { reserved_stay = λ y u. refl; known_stay = λ b y u o. o; set = λ y u. refl })
    (front_of (own_loaded a0) (p0 ++ (p1 ++ (p2 ++ (o3 ++ (p3 ++ last))))) l) at in
    let r2 = plus_own (c + 1) (reached r1) a0 (pos place) (λ b. ground.frame) (λ b. ground.frame + place)
    (above_small place (omega (arith, room)))
    (λ b. omega (arith, room))
    (λ y u. refl)
    (λ b. offset_sum ground.frame place (omega (arith, room)))
    (record { reserved_stay = λ y u. refl; known_stay = λ b y u o. o; set = λ y u. refl })
    (record { reserved_stay = λ y u. refl; known_stay = λ b y u o. o; set = λ y u. refl })
    (front_of p0 (p1 ++ (p2 ++ (o3 ++ (p3 ++ last)))) l1) (reached_holds r1) in
    let n2 = c + 1 + size_of p0 in
    let r3 = constant_piece n2 (reached r2) a1 (pos n) (above_small n (omega (arith, few)))
    (record { reserved_stay = λ y u. refl; known_stay = λ b y u o. o; set = λ y u. refl })
    (front_of p1 (p2 ++ (o3 ++ (p3 ++ last))) l2) (reached_holds r2) in
    let n3 = n2 + size_of p1 in
    let r4 = start_piece n3 (reached r3) n (ground.frame + place) start fits few (front_of p2 (o3 ++ (p3 ++ last)) l3) (reached_holds r3) in
    let n4 = n3 + size_of p2 in
    let r5 = straight n4 (reached r4) v v (λ b w. Known ground v h t (λ b'. (13, ground.frame) ∷ given_regs n (ground.frame + place) (start_of links start) b') b w) (front_of o3 (p3 ++ last) l4) (omega arith) (λ b. (reached_holds r4 b).pc)
    (λ b. let o = (reached_holds r4 b).holds in (
      at_place b (own) (sum ((reached r4 b).machine.registers 8) (word (pos 36))) (ap (λ u. sum u (word (pos 36))) (frame_is o.body)),
      record {
        body = record { services = o.body.services; registers = o.body.registers; bytes = o.body.bytes; memory = o.body.memory };
        regs = (shown t b _ o.body.memory, o.regs);
      },
    )) in
    let r6 = plus_own (n4 + 1) (reached r5) a3 (pos (place + name_bytes)) (λ b. ground.frame) (λ b. ground.frame + (place + 16))
    (above_small (place + name_bytes) (omega (arith, room)))
    (λ b. omega (arith, room))
    (λ y u. refl)
    (λ b. offset_sum ground.frame (place + 16) (omega (arith, room)))
    (record { reserved_stay = λ y u. refl; known_stay = λ b y u o. o; set = λ y u. refl })
    (record { reserved_stay = λ y u. refl; known_stay = λ b y u o. o; set = λ y u. refl })
    (front_of p3 last l5) (reached_holds r5) in
    let n6 = n4 + 1 + size_of p3 in
    let r7 = straight n6 (reached r6) v v (λ b w. Known ground v h t (asked_regs (ground.frame + place) n (start_of links start) (ground.frame + (place + 16))) b w) (front_of front behind l6) (omega arith) (λ b. (reached_holds r6 b).pc)
    (λ b. let o = (reached_holds r6 b).holds in let z = zero_is o.body in record {
      body = record { services = o.body.services; registers = o.body.registers; bytes = o.body.bytes; memory = o.body.memory };
      regs = (small_is _ 7 z (lit< tt), (small_is _ 0 z (lit< tt), o.regs));
    }) in
    reach_then r1 (reach_then r2 (reach_then r3 (reach_then r4 (reach_then r5 (reach_then r6 r7)))))

pub variable_asked : {links : Links} {code : List Instr} {i : ℕ} (c : ℕ) (f : Frame) (first : List ℕ) (numbers : ℕ → Content) (v : Services) (h t : ℕ → ℕ) (g : Family) (size place n : ℕ) (start : Option Datum) → start_of links start < 2 ^ 32 → n < 2 ^ 24 → f.at + place + 32 ≤ 14 * 2 ^ 20 → Linked links code i (made_code size place n start) → ((b : Base) → At b i (Known (ground_of f first numbers) v h t nothing b) (g b)) → Reach code c g v (asked_size place n start c) v (λ b w. At b (asked_size place n start i) (Known (ground_of f first numbers) v h t (asked_regs (f.at + place) n (start_of links start) (f.at + (place + 16))) b) w)
variable_asked c f first numbers v h t g size place n start fits few room l at =
    ground_asked c (ground_of f first numbers) (own_word f first numbers) (λ t' b m o. o.own) v h t g size place n start fits few room l at

-- ---- the call and what stands behind it

pub made_size : (size place n : ℕ) (start : Option Datum) → size_of (made_code size place n start) ≡ 1 + size_of (plus a0 a0 (pos place)) + size_of (number a1 n) + size_of (start_given start) + 1 + size_of (plus a3 a3 (pos (place + name_bytes))) + 3 + size_of (plus stack_register frame_register (pos (min last_place (place + size))))
made_size size place n start =
    let p0 = plus a0 a0 (pos place) in
    let p1 = number a1 n in
    let p2 = start_given start in
    let p3 = plus a3 a3 (pos (place + name_bytes)) in
    let ps = plus stack_register frame_register (pos (min last_place (place + size))) in
    let o3 = own_loaded a3 in
    let e0 = size_append p0 (p1 ++ (p2 ++ (o3 ++ (p3 ++ (make_asked ++ ps))))) in
    let e1 = size_append p1 (p2 ++ (o3 ++ (p3 ++ (make_asked ++ ps)))) in
    let e2 = size_append p2 (o3 ++ (p3 ++ (make_asked ++ ps))) in
    let e3 = size_append p3 (make_asked ++ ps) in
    omega (arith, e0, e1, e2, e3)

pub call_linked : {links : Links} {code : List Instr} {i : ℕ} (size place n : ℕ) (start : Option Datum) → Linked links code i (made_code size place n start) → Linked links code (asked_size place n start i) (Plain I.Ecall ∷ plus stack_register frame_register (pos (min last_place (place + size))))
call_linked size place n start l =
    let p0 = plus a0 a0 (pos place) in
    let p1 = number a1 n in
    let p2 = start_given start in
    let p3 = plus a3 a3 (pos (place + name_bytes)) in
    let ps = plus stack_register frame_register (pos (min last_place (place + size))) in
    let o3 = own_loaded a3 in
    let l1 = back_of (own_loaded a0) (p0 ++ (p1 ++ (p2 ++ (o3 ++ (p3 ++ (make_asked ++ ps)))))) l in
    let l2 = back_of p0 (p1 ++ (p2 ++ (o3 ++ (p3 ++ (make_asked ++ ps))))) l1 in
    let l3 = back_of p1 (p2 ++ (o3 ++ (p3 ++ (make_asked ++ ps)))) l2 in
    let l4 = back_of p2 (o3 ++ (p3 ++ (make_asked ++ ps))) l3 in
    let l5 = back_of o3 (p3 ++ (make_asked ++ ps)) l4 in
    let l6 = back_of p3 (make_asked ++ ps) l5 in
    back_of (small a4 0 ∷ small a7 7 ∷ []) (Plain I.Ecall ∷ ps) l6

pub rest_linked : {links : Links} {code : List Instr} {i : ℕ} (size place n : ℕ) (start : Option Datum) → Linked links code i (made_code size place n start) → Linked links code (asked_size place n start i + 1) (plus stack_register frame_register (pos (min last_place (place + size))))
rest_linked size place n start l =
    back_of (Plain I.Ecall ∷ []) (plus stack_register frame_register (pos (min last_place (place + size)))) (call_linked size place n start l)

-- ---- what it names

start_named : (start : Option Datum) (rest : Code) → IsNamedIf start (start_given start ++ rest)
start_named None rest = tt
start_named (Some d) rest = inl refl

named_behind : (start : Option Datum) (xs ys : Code) → IsNamedIf start ys → IsNamedIf start (xs ++ ys)
named_behind None xs ys h = tt
named_behind (Some d) xs ys h = is_named_back d xs ys h

pub made_named : (size place n : ℕ) (start : Option Datum) → IsNamedIf start (made_code size place n start)
made_named size place n start =
    let p0 = plus a0 a0 (pos place) in
    let p1 = number a1 n in
    let p3 = plus a3 a3 (pos (place + name_bytes)) in
    let last = own_loaded a3 ++ (p3 ++ (make_asked ++ plus stack_register frame_register (pos (min last_place (place + size))))) in
    let p2 = start_given start in
    named_behind start (own_loaded a0) (p0 ++ (p1 ++ (p2 ++ last)))
    (named_behind start p0 (p1 ++ (p2 ++ last)) (named_behind start p1 (p2 ++ last) (start_named start last)))
