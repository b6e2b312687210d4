-- The arguments of a call are evaluated, one after the other, and go into the list.
use Rattle.std.proofs.Common.{◌≡◌, ℕ, ℤ, suc, ◌+◌, ◌-◌, ◌*◌, ◌^◌, ◌<◌, ◌≤◌, List, [], ◌∷◌, ◌++◌, length}
use Rattle.std.proofs.Common.{Some, inl, true, refl, sym, ap, ◌∙◌, subst, arith}
use Rattle.std.proofs.lemmas.Int.{ints}
use Rattle.std.proofs.lemmas.List.{append-nil, append_assoc}
use Rattle.std.specs.Prelude.{neg_ℤ, pos}
use Rattle.rv_meaning.specs.declared.instr.Instr.{Instr}
use Rattle.rv_meaning.specs.Machine.{value}
use Rattle.rv_meaning.specs.Words.{word}
use Rattle.pli_typing.specs.TypedTree as Y
use Rattle.pli_meaning.specs.BasicValues.{BasicNumber, BasicValue}
use Rattle.pli_meaning.specs.Control.{Meaning, Normal, flow_on, give, ◌>>=◌}
use Rattle.pli_meaning.specs.Evaluating as V
use Rattle.pli_meaning.specs.Numbers.{checked, is_of_precision}
use Rattle.pli_meaning.specs.Raising as R
use Rattle.pli_meaning.specs.Raising.{Around, Passed}
use Rattle.pli_meaning.specs.StorageState.{State}
use Rattle.pli_serving.specs.ServiceState.{Services}
use Rattle.pli_coding.specs.Assembly.{Code, size_of}
use Rattle.pli_coding.specs.Expressions.{argument_place, arguments_code, number_code}
use Rattle.pli_coding.specs.Frames.{words_place}
use Rattle.pli_coding.specs.Instructions.{small, store_word}
use Rattle.pli_coding.specs.Registers.{a0, frame_register, u1}
use Rattle.activation_relation.specs.FrameLaws.{with_waits}
use Rattle.activation_relation.specs.Frames.{AreLaid}
use Rattle.activation_relation.specs.Layers.{Layer, Point, services_of}
use Rattle.activation_relation.specs.Points.{Stands, Surroundings}
use Rattle.activation_relation.proofs.FrameWords.{words_covered}
use Rattle.run_steps.specs.Bodies.{Known}
use Rattle.run_steps.proofs.Bodies.{zero_is}
use Rattle.run_steps.specs.Engine.{Base}
use Rattle.run_steps.specs.Items.{Linked}
use Rattle.run_steps.proofs.Items.{straight}
use Rattle.run_steps.proofs.Jumps.{back_of, front_of}
use Rattle.run_steps.proofs.Linking.{size_append}
use Rattle.run_steps.proofs.Numbers.{word_small}
use Rattle.run_steps.specs.Reach.{Aims, Closed, Comes, Family, Reach, before, cost, reached}
use Rattle.run_steps.proofs.Reach.{comes_on, onward, reach_map, reach_then, reached_holds, stay}
use Rattle.run_steps.proofs.Reaching.{reach_moved}
use Rattle.block_runs.specs.Machines.{AreEven, AreIn, IsImage, IsIn, limits_of}
use Rattle.block_runs.proofs.BlockEntries.{small_is}
use Rattle.block_runs.proofs.CallStatements.{comes_map}
use Rattle.block_runs.proofs.Places.{bounds, even_frame}
use Rattle.block_runs.proofs.PointGrounds.{in_known, known_in, point_frame, point_ground}
use Rattle.program_runs.specs.Statements.{IsAmong, JumpsTo}
use Rattle.program_runs.proofs.JumpsOut.{jumps_later, jumps_since}
use Rattle.expression_runs.specs.Values.{HasRegisters, HasWord, Setting, Stretch, behind, in_registers, number_aims}
use Rattle.expression_runs.proofs.Assignments.{fit_is}
use Rattle.expression_runs.proofs.Words.{valued}
use Rattle.argument_runs.specs.Lists.{layered, with_list}
use Rattle.argument_runs.proofs.GivenLists.{with_list_stands}
use Rattle.word_runs.specs.Words.{telling, with_word}
use Rattle.word_runs.proofs.Words.{Fewer, WordAt, jumps_back, register_kept, told_among}
use Rattle.word_runs.proofs.Words.{untold_among}
use Rattle.list_calls.specs.Arguments.{ByName, ByValue, ComeTo, EachGives, IsPart, Way, arguments_of}
use Rattle.list_calls.specs.Arguments.{Passes, name_code, setting_told}
use Rattle.list_calls.specs.Lists.{Passing, PassesCopy, PassesName, Told, all_passed, list_told, name_told, part_told, passed_as}
use Rattle.list_calls.specs.Lists.{value_told}
use Rattle.list_calls.proofs.PartWords.{part_other}

-- ---- a part of the list

-- where code finds a word of it
pub part_place :
    (place count n last j : ℕ) {φ : Layer} → IsPart place count n last φ → j < 6 →
    argument_place (record { place = place; words = count }) n j ≡ words_place (last + (5 - j)) 1
part_place place count n last j h few =
    let ends = h.ends in
    let same : place + count - (6 * n + j) ≡ last + (5 - j) + 1 = omega (arith, ends, few) in
    ap (λ m. neg_ℤ (pos (4 * m))) same

pub word_in_frame :
    {w : Surroundings} {code : List Instr} (p : Point) (φ : Layer) (φs : List Layer) (n : ℕ) →
    Stands w p × IsImage w code p → p.control.layers ≡ φ ∷ φs → n < φ.words → WordAt (words_place n 1) n φ
word_in_frame {w} p φ φs n known newest inside =
    let laid = subst (AreLaid w.parts) newest known.0.laid in
    let even = subst (AreEven w.parts) newest known.1.even in
    let o = bounds w.parts (φ ∷ φs) laid in
    let o' = bounds w.parts φs laid.1 in
    let whole = even_frame w.parts (φ ∷ φs) laid even in
    let covered = words_covered φ.words in
    let above = laid.0.above in
    let first = known.1.parts.high in
    let last = known.1.parts.inside in
    let low = o'.low in
    let between = o'.above in
    let above' = o.above in
    let free = o.free in
    let high = o.high in
    record {
      small' = omega (arith, ints, inside, covered, above, above', free, high, last);
      sums = λ b. let v = b.valid.1 in
          omega (arith, ints, inside, covered, above, above', free, high, last, v);
      aligned = omega (arith, whole, inside, covered, above);
      inside = omega (arith, inside, covered, above, above', free, high, last);
      above_code = omega (arith, inside, covered, above, low, between, first);
    }

-- a point is the one at which its own words are told
pub told_itself :
    {w : Surroundings} {p : Point} {numbers : ℕ → ℕ} {index : ℕ} {b : Base} {y : _} (ls : List Layer) →
    p.control.layers ≡ ls → IsIn w p numbers index b y → IsIn w (layered ls p) numbers index b y
told_itself {w} {p} {numbers} {index} {b} {y} ls newest is =
    subst (λ ms. IsIn w (layered ms p) numbers index b y) newest is

-- ---- a value

abbrev pub value_code : (place count n : ℕ) → Code
value_code place count n =
    store_word frame_register a0 (argument_place (record { place = place; words = count }) n 0)
    ++ (small u1 1 ∷ store_word frame_register u1 (argument_place (record { place = place; words = count }) n 5))

pub value_kept :
    {w : Surroundings} {code : List Instr} (p : Point) (φ : Layer) (φs : List Layer) (told : Told)
    (place count n last given : ℕ) {numbers : ℕ → ℕ} {index : ℕ} (c : ℕ) (f : Family) →
    Stands w (with_list told φ φs p) × IsImage w code (with_list told φ φs p) → IsPart place count n last φ →
    given < 2 ^ 32 → Linked w.links code index (value_code place count n) →
    ((b : Base) → IsIn w (with_list told φ φs p) numbers index b (f b) × (value (f b).machine a0 ≡ given)) →
    Reach code c f (services_of (with_list told φ φs p)) (c + size_of (value_code place count n))
    (services_of (with_list (value_told last given told) φ φs p))
    (λ b y. IsIn w (with_list (value_told last given told) φ φs p) numbers (index + size_of (value_code place count n)) b
    y)
value_kept {w} {code} p φ φs told place count n last given {numbers} {index} c f known part few l there =
    let l0 = argument_place (record { place = place; words = count }) n 0 in
    let l5 = argument_place (record { place = place; words = count }) n 5 in
    let first = store_word frame_register a0 l0 in
    let flag = small u1 1 ∷ [] in
    let second = store_word frame_register u1 l5 in
    let ends = part.ends in
    let inside = part.inside in
    let q0 = with_list told φ φs p in
    let ψ0 = with_waits told φ in
    let h = point_frame known.0 known.1 in
    let one : Told = with_word (last + 5) given told in
    let ψ1 = with_waits one φ in
    let q1 = with_list one φ φs p in
    let known1 = with_list_stands w code q0 ψ0 φs one known refl in
    let z0 : l0 ≡ words_place (last + 5) 1 = part_place place count n last 0 {φ = φ} part (omega arith) in
    let z5 : l5 ≡ words_place last 1 =
    part_place place count n last 5 {φ = φ} part (omega arith) ∙ ap (λ j. words_place j 1) (none last) in
    let at0 = subst (λ z. WordAt z (last + 5) ψ0) (sym z0)
    (word_in_frame q0 ψ0 φs (last + 5) known refl (omega (arith, ends, inside))) in
    let at5 = subst (λ z. WordAt z last ψ1) (sym z5)
    (word_in_frame q1 ψ1 φs last known1 refl (omega (arith, ends, inside))) in
    let n0 = size_append first (flag ++ second) in
    let l1 = back_of first (flag ++ second) l in
    let r1 = register_kept q0 ψ0 φs {rs = valued given} c f a0 l0 (last + 5) given known.0 h
    (omega (arith, ends, inside), few) at0 (λ y u. refl) (λ b y o. o.regs.0)
    (record { reserved_stay = λ y u. refl; known_stay = λ b y u o. o; set = λ y u. refl })
    (front_of first (flag ++ second) l)
    (λ b. known_in h (there b).0 ((there b).1, tt)) in
    let r2 = straight (c + size_of first) (reached r1) (services_of q1) (services_of q1)
    (λ b y. Known (point_ground w q1 h) (services_of q1) numbers (λ j. 0) (λ b'. (6, 1) ∷ []) b y)
    (front_of flag second l1) (omega arith) (λ b. (reached_holds r1 b).pc)
    (λ b.
    let o = (reached_holds r1 b).holds in
    record {
      body = record {
        services = o.body.services;
        registers = o.body.registers;
        bytes = o.body.bytes;
        memory = o.body.memory;
      };
      regs = (small_is ((reached r1 b).machine.registers 0) 1 (zero_is o.body) (omega arith), tt);
    }) in
    let r3 = register_kept q1 ψ1 φs {rs = λ b'. (6, 1) ∷ []} (c + size_of first + 1) (reached r2) u1 l5 last 1
    known1.0 h (omega (arith, ends, inside), omega arith) at5 (λ y u. refl) (λ b y o. o.regs.0)
    (record { reserved_stay = λ y u. refl; known_stay = λ b y u o. o; set = λ y u. refl })
    (back_of flag second l1) (reached_holds r2) in
    reach_map _ (reach_moved (omega (arith, n0)) (omega (arith, n0)) (reach_then r1 (reach_then r2 r3)))
    (λ b y o. in_known {t = λ j. 0} {rs = λ b'. (6, 1) ∷ []} h known.1.parts o)
  where
    none : (last : ℕ) → last + (5 - 5) ≡ last
    none last = omega arith

-- ---- what the arguments come to

abbrev pub evaluated : List Passing → List V.Evaluated
evaluated [] = []
evaluated (y ∷ ys) = V.EvaluatedArgument (passed_as y) ∷ evaluated ys

-- the list has been given, at a point of the block whose words tell it, with the temporaries as they were
pub record HasPassed (k : Setting) (φ : Layer) (φs : List Layer) (words : ℕ) (told : Told) (us : List Way) (x : Stretch)
    (es : List V.Evaluated) (credits : ℕ) (f : Family) (v : Services) (s : State) : Type 0 where
  pub passed : List Passing
  pub come : ComeTo us passed
  pub are : es ≡ evaluated passed
  pub point : Point
  pub numbers : ℕ → ℕ
  pub among : IsAmong (telling (list_told words passed told) φ φs k.block) numbers point
  pub since : x.acts ≤ point.state.world.acts
  pub line : point.control.line ≡ x.line
  pub stays : (n : ℕ) → n < x.taken → numbers n ≡ x.numbers n
  pub state : s ≡ point.state
  pub reach :
      Reach k.block.call.code credits f v x.wanted (services_of point)
      (λ b y. IsIn k.block.call.surroundings point numbers x.index b y)

abbrev pub list_aims :
    Setting → Layer → List Layer → (words : ℕ) → Told → List Way → Stretch → Aims (List V.Evaluated)
list_aims k φ φs words told us x =
    record {
      limits = limits_of k.block.call.surroundings;
      done = λ c f v es s. HasPassed k φ φs words told us x es c f v s;
      jumped = λ c f v height label s. JumpsTo k.block k.labels x.acts c f v height label s;
      returned = λ c f v r s. ⊥;
    }

pub list_closed :
    (k : Setting) (φ : Layer) (φs : List Layer) (words : ℕ) (told : Told) (us : List Way) (x : Stretch) →
    Closed k.block.call.code (list_aims k φ φs words told us x)
list_closed k φ φs words told us x =
    record {
      done = λ r es s o. record {
        passed = o.passed;
        come = o.come;
        are = o.are;
        point = o.point;
        numbers = o.numbers;
        among = o.among;
        since = o.since;
        line = o.line;
        stays = o.stays;
        state = o.state;
        reach = reach_then r o.reach;
      };
      jumped = λ r height label s o. jumps_later r o;
      returned = λ r es s o. absurd o;
    }

pub come_many : (us : List Way) (ys : List Passing) → ComeTo us ys → length ys ≡ length us
come_many [] [] come = refl
come_many [] (y ∷ ys) come = absurd come
come_many (u ∷ us) [] come = absurd come
come_many (u ∷ us) (y ∷ ys) come = ap (λ n. suc n) (come_many us ys come.1)

-- one more in front
one_more :
    {k : Setting} {φ : Layer} {φs : List Layer} {words : ℕ} {told : Told} {us : List Way} {es : List V.Evaluated}
    {c : ℕ} {f : Family} {v : Services} {s : State} (u : Way) (y : Passing) (x x' : Stretch) → ComeTo (u ∷ []) (y ∷ []) →
    (x.acts ≤ x'.acts) × (x'.line ≡ x.line) × (x'.taken ≡ x.taken) × (x'.index ≡ x.index) × (x'.wanted ≡ x.wanted) →
    ((n : ℕ) → n < x.taken → x'.numbers n ≡ x.numbers n) →
    HasPassed k φ φs words (part_told (words + 6 * length us) y told) us x' es c f v s →
    HasPassed k φ φs words told (u ∷ us) x (V.EvaluatedArgument (passed_as y) ∷ es) c f v s
one_more {k} {φ} {φs} {words} {told} {us} {c = c} {f = f} {v = v} u y x x' comes same stays o =
    let since = o.since in
    let more = same.0 in
    let taken = same.2 in
    let many = come_many us o.passed o.come in
    record {
      passed = y ∷ o.passed;
      come = (comes.0, o.come);
      are = ap (λ es. V.EvaluatedArgument (passed_as y) ∷ es) o.are;
      point = o.point;
      numbers = o.numbers;
      among = subst (λ n. IsAmong (telling (list_told words o.passed (part_told (words + 6 * n) y told)) φ φs k.block)
          o.numbers o.point) (sym many) o.among;
      since = omega (arith, since, more);
      line = o.line ∙ same.1;
      stays = λ n less. o.stays n (omega (arith, less, taken)) ∙ stays n less;
      state = o.state;
      reach = subst (λ n. Reach k.block.call.code c f v n (services_of o.point)
          (λ b z. IsIn k.block.call.surroundings o.point o.numbers x.index b z)) same.4
          (reach_map _ o.reach (λ b z is. subst (λ j. IsIn k.block.call.surroundings o.point o.numbers j b z) same.3
          is));
    }

-- ---- the code

abbrev pub list_code : Setting → (all taken place count n : ℕ) → List Way → Code
list_code k all taken place count n us =
    arguments_code k.block.environment (in_registers all taken) (record { place = place; words = count }) n
    (arguments_of us)

value_coded :
    (k : Setting) (all taken place count n : ℕ) (source : Y.Number) (us : List Way) →
    list_code k all taken place count n (ByValue source ∷ us)
    ≡ number_code k.block.environment (in_registers all taken) source
    ++ (value_code place count n ++ list_code k all taken place count (suc n) us)
value_coded k all taken place count n source us =
    let v = number_code k.block.environment (in_registers all taken) source in
    let keep = value_code place count n in
    let rest = list_code k all taken place count (suc n) us in
    ap (λ w. (w ++ keep) ++ rest) (append-nil v) ∙ append_assoc v keep rest

-- ---- all of them

-- what is around: the words that the list takes are those that are set aside
pub record IsAround (k : Setting) (φ : Layer) (φs : List Layer) (words all place count n : ℕ) (us : List Way)
    (told : Told) : Type 0 where
  pub newest : k.block.first.control.layers ≡ φ ∷ φs
  pub fewer : Fewer φ.waits told
  pub free : (i v : ℕ) → φ.waits i ≡ Some v → i < words
  pub starts : place ≡ words
  pub ends : words + 6 * length us + 6 * n ≡ place + count
  pub inside : place + count ≤ φ.words

around_next :
    {k : Setting} {φ : Layer} {φs : List Layer} {words all place count n : ℕ} {u : Way} {us : List Way}
    {told : Told} (y : Passing) → IsAround k φ φs words all place count n (u ∷ us) told →
    IsAround k φ φs words all place count (suc n) us (part_told (words + 6 * length us) y told)
around_next {words = words} {us = us} {told = told} y h =
    let ends = h.ends in
    record {
      newest = h.newest;
      fewer = λ i v e. part_other (words + 6 * length us) i y told
          (inl (let below = h.free i v e in omega (arith, below))) ∙ h.fewer i v e;
      free = h.free;
      starts = h.starts;
      ends = omega (arith, ends);
      inside = h.inside;
    }

part_here :
    {k : Setting} {φ : Layer} {φs : List Layer} {words all place count n : ℕ} {u : Way} {us : List Way}
    {told : Told} → IsAround k φ φs words all place count n (u ∷ us) told →
    IsPart place count n (words + 6 * length us) φ
part_here h = let ends = h.ends in record { ends = omega (arith, ends); inside = h.inside }

-- what comes of those that are left, from any point at which the words tell the ones before
abbrev pub Continues :
    Setting → Layer → List Layer → (words all place count n : ℕ) → Told → List Way → (taken : ℕ) → Type 0
Continues k φ φs words all place count n told us taken =
    (p : Point) (numbers : ℕ → ℕ) (credits index : ℕ) (f : Family) → IsAmong (telling told φ φs k.block) numbers p →
    p.control.line ≡ k.around.line →
    Linked k.block.call.surroundings.links k.block.call.code index (list_code k all taken place count n us) →
    credits + size_of (list_code k all taken place count n us) + k.most ≤ cost k.block.call.code →
    AreIn k.block.call.surroundings p numbers index f →
    Comes k.block.call.code credits f (services_of p)
    (list_aims k φ φs words told us (behind p numbers taken credits index (list_code k all taken place count n us)))
    (V.arguments k.around (arguments_of us) k.block.call.surroundings.acts p.state)

-- at a point whose words have been told the words before
pub told_again :
    (k : Setting) {φ : Layer} {φs : List Layer} {told : Told} {numbers : ℕ → ℕ} {p : Point} (told' : Told) →
    k.block.first.control.layers ≡ φ ∷ φs → IsAmong (telling told φ φs k.block) numbers p →
    IsAmong (telling told' φ φs k.block) numbers (with_list told' φ φs p)
told_again k {φ} {φs} {told} {numbers} {p} told' newest o =
    told_among k.block φ φs {numbers = numbers} {p = with_list φ.waits φ φs p} told' newest
    (untold_among k.block φ φs told newest o)

reach_told :
    {w : Surroundings} {code : List Instr} {p : Point} {numbers : ℕ → ℕ} {index c c' : ℕ} {f : Family}
    {v : Services} {given : ℕ} (told : Told) (φ : Layer) (φs : List Layer) →
    p.control.layers ≡ with_waits told φ ∷ φs →
    Reach code c f v c' (services_of p) (λ b y. IsIn w p numbers index b y × (value y.machine a0 ≡ given)) →
    Reach code c f v c' (services_of (with_list told φ φs p))
    (λ b y. IsIn w (with_list told φ φs p) numbers index b y × (value y.machine a0 ≡ given))
reach_told {w} {code} {p} {numbers} {index} {c} {c'} {f} {v} {given} told φ φs newest r =
    subst (λ v'. Reach code c f v c' v'
    (λ b y. IsIn w (with_list told φ φs p) numbers index b y × (value y.machine a0 ≡ given)))
    (ap (λ ls. services_of (layered ls p)) newest)
    (reach_map _ r (λ b y is. (told_itself (with_waits told φ ∷ φs) newest is.0, is.1)))

-- a value goes into the list, and the others follow
value_goes :
    (k : Setting) (φ : Layer) (φs : List Layer) (words all place count n : ℕ) (told : Told) (source : Y.Number)
    (us : List Way) (p : Point) (numbers : ℕ → ℕ) (taken credits index c' : ℕ) (f' : Family) (v' : Services) (z : ℤ)
    (s : State) → IsAround k φ φs words all place count n (ByValue source ∷ us) told →
    Continues k φ φs words all place count (suc n) (value_told (words + 6 * length us) (word z) told) us taken →
    p.control.line ≡ k.around.line →
    Linked k.block.call.surroundings.links k.block.call.code index
    (list_code k all taken place count n (ByValue source ∷ us)) →
    credits + size_of (list_code k all taken place count n (ByValue source ∷ us)) + k.most
    ≤ cost k.block.call.code → is_of_precision 31 z ≡ true →
    HasWord (telling told φ φs k.block)
    (behind p numbers taken credits index (number_code k.block.environment (in_registers all taken) source))
    (word z) c' f' v' s →
    Comes k.block.call.code c' f' v'
    (list_aims k φ φs words told (ByValue source ∷ us)
    (behind p numbers taken credits index (list_code k all taken place count n (ByValue source ∷ us))))
    (flow_on k.block.call.surroundings.acts
    (V.arguments k.around (arguments_of us) k.block.call.surroundings.acts s)
    (λ es. give (V.EvaluatedArgument (passed_as (PassesCopy z)) ∷ es)))
unfolding give
value_goes k φ φs words all place count n told source us p numbers taken credits index c' f' v' z s h goes line l paid
    wide q =
    let w = k.block.call.surroundings in
    let code = k.block.call.code in
    let last = words + 6 * length us in
    let told' = value_told last (word z) told in
    let v = number_code k.block.environment (in_registers all taken) source in
    let keep = value_code place count n in
    let rest = list_code k all taken place count (suc n) us in
    let part = list_code k all taken place count n (ByValue source ∷ us) in
    let eq = value_coded k all taken place count n source us in
    let l1 = back_of v (keep ++ rest) (subst (Linked w.links code index) eq l) in
    let size = ap (λ t. size_of t) eq in
    let n1 = size_append v (keep ++ rest) in
    let n2 = size_append keep rest in
    let x = behind p numbers taken credits index part in
    let p' = q.point in
    let newest' = q.among.later.layers in
    let there = told_again k told h.newest q.among in
    let next' = told_again k told' h.newest q.among in
    let p1 = with_list told' φ φs p' in
    let goal = list_aims k φ φs words told (ByValue source ∷ us) x in
    let closed = list_closed k φ φs words told (ByValue source ∷ us) x in
    let more : List V.Evaluated → Meaning (List V.Evaluated) =
    λ es. give (V.EvaluatedArgument (passed_as (PassesCopy z)) ∷ es) in
    let since = q.since in
    subst (λ t. Comes code c' f' v' goal (flow_on w.acts (V.arguments k.around (arguments_of us) w.acts t) more))
    (sym q.state)
    (onward closed (reach_told told φ φs newest' q.reach)
    (λ g at.
    onward closed
    (value_kept p' φ φs told place count n last (word z) (credits + size_of v) g (there.stands, there.image)
    (part_here h) (word_small z wide) (front_of keep rest l1) at)
    (λ g' at'.
    comes_on w.acts (V.arguments k.around (arguments_of us) w.acts p1.state) more
    (comes_map
    (list_aims k φ φs words told' us
    (behind p1 q.numbers taken (credits + size_of v + size_of keep) (index + size_of v + size_of keep) rest))
    (before code goal w.acts more) refl (V.arguments k.around (arguments_of us) w.acts p1.state)
    (λ c1 f1 v1 es s1 o1.
    record {
      to = λ early. one_more (ByValue source) (PassesCopy z) x
          (behind p1 q.numbers taken (credits + size_of v + size_of keep) (index + size_of v + size_of keep) rest)
          (wide, tt)
          (omega (arith, since), q.line, refl, omega (arith, size, n1, n2), omega (arith, size, n1, n2)) q.stays o1;
    })
    (λ c1 f1 v1 height label s1 o1. jumps_since (omega (arith, since)) o1)
    (λ c1 f1 v1 r s1 o1. absurd o1)
    (goes p1 q.numbers (credits + size_of v + size_of keep) (index + size_of v + size_of keep) g' next'
    (q.line ∙ line) (back_of keep rest l1) (omega (arith, paid, size, n1, n2)) at')))))

-- a name goes into the list, and the others follow
name_goes :
    (k : Setting) (φ : Layer) (φs : List Layer) (words all place count n : ℕ) (told : Told) (x : Y.Variable)
    (serial signature : ℕ) (us : List Way) (p : Point) (numbers : ℕ → ℕ) (taken credits index : ℕ) (f : Family) →
    IsAround k φ φs words all place count n (ByName x serial signature ∷ us) told → Passes k φ φs x serial signature →
    Continues k φ φs words all place count (suc n) (name_told (words + 6 * length us) serial signature 0 told) us
    taken → IsAmong (telling told φ φs k.block) numbers p → p.control.line ≡ k.around.line →
    Linked k.block.call.surroundings.links k.block.call.code index
    (list_code k all taken place count n (ByName x serial signature ∷ us)) →
    credits + size_of (list_code k all taken place count n (ByName x serial signature ∷ us)) + k.most
    ≤ cost k.block.call.code → AreIn k.block.call.surroundings p numbers index f →
    Comes k.block.call.code credits f (services_of p)
    (list_aims k φ φs words told (ByName x serial signature ∷ us)
    (behind p numbers taken credits index (list_code k all taken place count n (ByName x serial signature ∷ us))))
    (V.arguments k.around (arguments_of (ByName x serial signature ∷ us)) k.block.call.surroundings.acts p.state)
unfolding V.arguments give ◌>>=◌
name_goes k φ φs words all place count n told x serial signature us p numbers taken credits index f h passes goes o line
    l paid there =
    let w = k.block.call.surroundings in
    let code = k.block.call.code in
    let last = words + 6 * length us in
    let told' = name_told last serial signature 0 told in
    let name = name_code k.block.environment taken all place count n x in
    let rest = list_code k all taken place count (suc n) us in
    let size = size_append name rest in
    let y = behind p numbers taken credits index (list_code k all taken place count n (ByName x serial signature ∷ us))
    in
    let goal = list_aims k φ φs words told (ByName x serial signature ∷ us) y in
    let closed = list_closed k φ φs words told (ByName x serial signature ∷ us) y in
    let next' = told_again k told' h.newest o in
    let p1 = with_list told' φ φs p in
    let z = behind p1 numbers taken (credits + size_of name) (index + size_of name) rest in
    let more : List V.Evaluated → Meaning (List V.Evaluated) =
    λ es. give (V.EvaluatedArgument (passed_as (PassesName serial signature)) ∷ es) in
    subst (λ flow. Comes code credits f (services_of p) goal
    (flow_on w.acts flow (λ e. V.arguments k.around (arguments_of us) >>= (λ es. give (e ∷ es)))))
    (sym (passes.means told p numbers o))
    (onward closed
    (passes.comes told p numbers taken all place count n last credits index f o (part_here h) (front_of name rest l)
    there)
    (λ g at.
    comes_on w.acts (V.arguments k.around (arguments_of us) w.acts p1.state) more
    (comes_map (list_aims k φ φs words told' us z) (before code goal w.acts more) refl
    (V.arguments k.around (arguments_of us) w.acts p1.state)
    (λ c1 f1 v1 es s1 o1.
    record {
      to = λ early. one_more (ByName x serial signature) (PassesName serial signature) y z ((refl, refl), tt)
          (omega arith, refl, refl, omega (arith, size), omega (arith, size)) (λ i less. refl) o1;
    })
    (λ c1 f1 v1 height label s1 o1. jumps_since (omega arith) o1)
    (λ c1 f1 v1 r s1 o1. absurd o1)
    (goes p1 numbers (credits + size_of name) (index + size_of name) g next' line (back_of name rest l)
    (omega (arith, paid, size)) at))))

pub arguments_come :
    (k : Setting) (need : ℕ) (φ : Layer) (φs : List Layer) (words all place count n : ℕ) (told : Told) (us : List Way)
    (taken : ℕ) → EachGives k need φ φs words all told us → IsAround k φ φs words all place count n us told →
    HasRegisters k taken need → Continues k φ φs words all place count n told us taken
unfolding V.arguments V.argument V.stored_value give ◌>>=◌
arguments_come k need φ φs words all place count n told [] taken each h registers p numbers credits index f o line l
    paid there =
    record {
      to = λ early. record {
        passed = [];
        come = tt;
        are = refl;
        point = p;
        numbers = numbers;
        among = o;
        since = omega arith;
        line = refl;
        stays = λ i less. refl;
        state = refl;
        reach = reach_none (list_code k all taken place count n []) refl there;
      };
    }
  where
    reach_none :
        (part : Code) → part ≡ [] → AreIn k.block.call.surroundings p numbers index f →
        Reach k.block.call.code credits f (services_of p) (credits + size_of part) (services_of p)
        (λ b y. IsIn k.block.call.surroundings p numbers (index + size_of part) b y)
    reach_none part none there =
        let size = ap (λ t. size_of t) none in
        subst (λ m. Reach k.block.call.code credits f (services_of p) m (services_of p)
        (λ b y. IsIn k.block.call.surroundings p numbers (index + size_of part) b y)) (omega (arith, size))
        (stay k.block.call.code credits f (services_of p)
        (λ b y. IsIn k.block.call.surroundings p numbers (index + size_of part) b y)
        (λ b. subst (λ j. IsIn k.block.call.surroundings p numbers j b (f b)) (omega (arith, size)) (there b)))
arguments_come k need φ φs words all place count n told (ByValue source ∷ us) taken each h registers p numbers credits
    index f o line l paid there =
    let w = k.block.call.surroundings in
    let code = k.block.call.code in
    let last = words + 6 * length us in
    let k' = setting_told k all told φ φs in
    let v = number_code k.block.environment (in_registers all taken) source in
    let keep = value_code place count n in
    let rest = list_code k all taken place count (suc n) us in
    let part = list_code k all taken place count n (ByValue source ∷ us) in
    let eq = value_coded k all taken place count n source us in
    let l' = subst (Linked w.links code index) eq l in
    let size = ap (λ t. size_of t) eq in
    let n1 = size_append v (keep ++ rest) in
    let x = behind p numbers taken credits index part in
    let y = behind p numbers taken credits index v in
    let goal = list_aims k φ φs words told (ByValue source ∷ us) x in
    let stored' = Y.StoredNumber 31 source in
    let first = Y.ByCopy (Y.FixedLeaf 31) stored' in
    let rest' : V.Evaluated → Meaning (List V.Evaluated) =
    λ e. V.arguments k.around (arguments_of us) >>= (λ es. give (e ∷ es)) in
    let pass : BasicValue → Meaning V.Evaluated = λ t. give (V.EvaluatedArgument (V.copied (Y.FixedLeaf 31) t)) in
    let fit : ℤ → Meaning BasicValue =
    λ z. (R.value_of k.around (checked 31 z)) >>= (λ z'. give (BasicNumber z')) in
    let a1' = before code goal w.acts rest' in
    let a2' = before code a1' w.acts pass in
    let flow = V.number k.around source w.acts p.state in
    comes_on w.acts (V.argument k.around first w.acts p.state) rest'
    (comes_on w.acts (V.stored_value k.around stored' w.acts p.state) pass
    (comes_on w.acts flow fit
    (comes_map (number_aims k'.block k'.labels y) (before code a2' w.acts fit) refl flow
    (λ c' f' v' z s q.
    subst (Comes code c' f' v' a2') (sym (fit_is k.around z w.acts s q.0))
    (record {
      to = λ early. record {
        to = λ early.
            value_goes k φ φs words all place count n told source us p numbers taken credits index c' f' v' z s h
            (arguments_come k need φ φs words all place count (suc n) (value_told last (word z) told) us taken
            (each.1 z q.0) (around_next (PassesCopy z) h) registers) line l paid q.0 q.1;
      };
    }))
    (λ c' f' v' height label s q. jumps_back k.block φ φs told h.newest h.fewer q)
    (λ c' f' v' r s q. absurd q)
    (each.0 p numbers taken credits index f o line registers (front_of v (keep ++ rest) l')
    (omega (arith, paid, size, n1)) there))))
arguments_come k need φ φs words all place count n told (ByName x serial signature ∷ us) taken each h registers p
    numbers credits index f o line l paid there =
    name_goes k φ φs words all place count n told x serial signature us p numbers taken credits index f h each.0
    (arguments_come k need φ φs words all place count (suc n)
    (name_told (words + 6 * length us) serial signature 0 told) us taken each.1
    (around_next (PassesName serial signature) h) registers) o line l paid there

-- ---- what they mean once all have been evaluated

pub all_last :
    (around : Around) (all : List V.Evaluated) (ys : List Passing) (acts : ℕ) (s : State) →
    V.all_passed_last around all (evaluated ys) acts s ≡ Normal (all_passed ys) s
unfolding V.all_passed_last V.passed_last give ◌>>=◌
all_last around all [] acts s = refl
all_last around all (y ∷ ys) acts s =
    ap (λ flow. flow_on acts flow (λ ps. give (passed_as y ∷ ps))) (all_last around all ys acts s)
