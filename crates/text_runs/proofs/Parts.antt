-- A part of a text: the rest of it from a place on, or so many bytes from there.
use Rattle.std.proofs.Common.{◌≡◌, ℕ, suc, ◌+◌, ◌^◌, ◌<◌, ◌≤◌, List, [], ◌∷◌, ◌++◌, Option, Some, refl, sym, ap, ◌∙◌}
use Rattle.std.proofs.Common.{subst, arith, lit<}
use Rattle.std.specs.Prelude.{ℤ, max, pos}
use Rattle.rv_meaning.specs.declared.instr.Instr.{Instr}
use Rattle.rv_meaning.specs.Words.{signed, sum, word}
use Rattle.pli_typing.specs.TypedTree as Y
use Rattle.pli_meaning.specs.Codes.{substring_code}
use Rattle.pli_meaning.specs.Control.{Meaning, ◌>>=◌}
use Rattle.pli_meaning.specs.Evaluating as V
use Rattle.pli_meaning.specs.Raising as R
use Rattle.pli_meaning.specs.Texts.{substring, substring_from}
use Rattle.pli_serving.specs.Answers.{Done}
use Rattle.pli_serving.specs.Outcomes.{becoming, on_text, or_status, with_entries}
use Rattle.pli_serving.specs.ServiceState.{Entry, TextEntry}
use Rattle.pli_serving.specs.TextServices as X
use Rattle.pli_coding.specs.Assembly.{Code, size_of}
use Rattle.pli_coding.specs.Environments.{Taken, fetch, save, with_number}
use Rattle.pli_coding.specs.Expressions.{number_code, text_code}
use Rattle.pli_coding.specs.Instructions.{move, small, tested_service}
use Rattle.pli_coding.specs.Registers.{a0, a1, a2}
use Rattle.activation_relation.specs.Layers.{Point, services_of}
use Rattle.run_steps.specs.Bodies.{Known}
use Rattle.run_steps.proofs.Bodies.{zero_is}
use Rattle.run_steps.specs.Engine.{Base, call_at}
use Rattle.run_steps.specs.Items.{At, Linked}
use Rattle.run_steps.proofs.Items.{straight}
use Rattle.run_steps.proofs.Jumps.{back_of, front_of}
use Rattle.run_steps.proofs.Linking.{size_append}
use Rattle.run_steps.specs.Numbers.{IsWide}
use Rattle.run_steps.proofs.Numbers.{word_small}
use Rattle.run_steps.specs.Reach.{Comes, Family, before, cost}
use Rattle.run_steps.proofs.Reach.{comes_on, onward, stay}
use Rattle.block_runs.proofs.BlockEntries.{small_is}
use Rattle.block_runs.proofs.CallStatements.{comes_map}
use Rattle.block_runs.proofs.PointGrounds.{in_known, point_frame, point_ground}
use Rattle.program_runs.specs.Statements.{IsAmong, waiting, with_texts}
use Rattle.program_runs.proofs.Waiting.{over_more, texts_among}
use Rattle.expression_runs.specs.Values.{HasRegisters, Setting, behind, in_registers}
use Rattle.expression_runs.proofs.Saving.{fetched_reach, held_after, held_among, held_is_given, held_stays, next_taken}
use Rattle.expression_runs.proofs.Saving.{register_left, saved_reach}
use Rattle.expression_runs.proofs.Words.{frame_of, known_word}
use Rattle.text_runs.specs.Laws.{NumberDoes, TextDoes}
use Rattle.text_runs.specs.Texts.{ErrorComes, IsShort, text_aims, value_aims}
use Rattle.text_runs.specs.Waiting.{over}
use Rattle.text_runs.proofs.Lengths.{from_short, part_short, signed_word}
use Rattle.text_runs.proofs.Points.{push_further, text_closed}
use Rattle.text_runs.proofs.Sequences.{LastWith, StandOver, text_and_number, text_leads}
use Rattle.text_runs.proofs.TextCalls.{status_told, three, told}
use Rattle.text_runs.proofs.Tested.{Place, Tested, tested_comes}

-- ---- 23: a part of the top text

-- the places of the part, and it, where there is one
record Cut : Type 0 where
  text : List ℕ
  first : ℤ
  second : Base → ℕ
  mode : ℕ
  outcome : Option (List ℕ)

abbrev cut_answered : Setting → List Entry → Point → Cut → Type 0
cut_answered k below p x =
    (b : Base) (m : List ℕ) →
    X.cut_served (call_at k.block.call.code (services_of p) m) (word x.first) (x.second b) x.mode
    ≡ told (services_of p) m (word x.first) substring_code
    (λ part. services_of (with_texts (TextEntry part ∷ below) p)) (λ part. word x.first) x.outcome

cut_comes :
    (entries : List Entry) (k : Setting) (x : Cut) → ErrorComes (List ℕ) k → (p : Point) (numbers : ℕ → ℕ)
    (taken c index : ℕ) (f : Family) (h : frame_of k.block p) →
    ((part : List ℕ) → x.outcome ≡ Some part → IsShort part) →
    cut_answered k (entries ++ k.block.first.control.entries) p x →
    IsAmong (waiting (TextEntry x.text ∷ entries) k.block) numbers p → p.control.line ≡ k.around.line →
    StandOver entries k →
    Linked k.block.call.surroundings.links k.block.call.code index (tested_service 23) →
    c + 5 + k.most ≤ cost k.block.call.code →
    ((b : Base) →
    At b index (Known (point_ground k.block.call.surroundings p h) (services_of p) numbers (λ j. 0)
    (three (λ b'. word x.first) x.second (λ b'. x.mode)) b) (f b)) →
    Comes k.block.call.code c f (services_of p)
    (text_aims entries k (behind p numbers taken c index (tested_service 23)))
    (R.or_error k.around substring_code x.outcome k.block.call.surroundings.acts p.state)
cut_comes entries k x error p numbers taken c index f h short answers o line over' l paid at =
    let e = k.block.first.control.entries in
    let whole = behind p numbers taken c index (tested_service 23) in
    let place : Place = record {
      entries = TextEntry x.text ∷ entries;
      setting = k;
      point = p;
      numbers = numbers;
      credits = c;
      index = index;
      family = f;
    } in
    let asked : Tested (List ℕ) = record {
      number = 23;
      code = substring_code;
      x = λ b. word x.first;
      y = x.second;
      z = λ b. x.mode;
      answer = λ call x0 x1 x2. X.cut_served call x0 x1 x2;
      outcome = x.outcome;
      texts = λ part. TextEntry part ∷ (entries ++ e);
      result = λ part b. word x.first;
    } in
    tested_comes place asked (text_closed entries k whole) refl h
    (record { among = o; line = line; linked = l; paid = paid; there = at })
    (record { small' = lit< tt; coded = lit< tt; some = refl; serves = λ call r. refl; answers = answers })
    error (λ c' f' v' height label s' q. q)
    (λ part g is at'. record {
      short = short part is;
      point = with_texts (TextEntry part ∷ (entries ++ e)) p;
      numbers = numbers;
      among = texts_among k.block (TextEntry x.text ∷ entries) (TextEntry part ∷ entries) o
          (over_more (TextEntry part ∷ []) (entries ++ e) k.block.first.control.edits k.block.first.control.layers
          over');
      since = omega arith;
      line = refl;
      stays = λ n less. refl;
      state = refl;
      reach = stay k.block.call.code whole.wanted g (services_of (with_texts (TextEntry part ∷ (entries ++ e)) p)) _
          (λ b. in_known h o.image.parts (at' b));
    })

-- ---- from a place on

from_answer :
    (code : List Instr) (p : Point) (m text : List ℕ) (i : ℤ) (y : ℕ) (below : List Entry) → IsWide i →
    p.control.entries ≡ TextEntry text ∷ below →
    X.cut_served (call_at code (services_of p) m) (word i) y 0
    ≡ told (services_of p) m (word i) substring_code (λ part. services_of (with_texts (TextEntry part ∷ below) p))
    (λ part. word i) (substring_from text i)
from_answer code p m text i y below wide top =
    let v = services_of p in
    let c = call_at code v m in
    ap (λ u. on_text u (λ t more. or_status c (word i) substring_code (substring_from t (signed (word i)))
    (λ part. becoming c (with_entries (TextEntry part ∷ more) v) (word i) 0))) top
    ∙ ap (λ u. or_status c (word i) substring_code (substring_from text u)
    (λ part. Done (services_of (with_texts (TextEntry part ∷ below) p)) m (word i) 0)) (signed_word i wide)
    ∙ status_told c (word i) substring_code (λ part. services_of (with_texts (TextEntry part ∷ below) p))
    (λ part. word i) (substring_from text i)

from_last :
    (entries : List Entry) (k : Setting) → ErrorComes (List ℕ) k → (text : List ℕ) (i : ℤ) → IsShort text →
    IsWide i →
    LastWith entries text k (text_aims entries k) 0 i (λ taken. small a2 0 ∷ tested_service 23)
    (R.or_error k.around substring_code (substring_from text i))
from_last entries k error text i short wide p numbers taken c index f o line over' registers l paid there =
    let w = k.block.call.surroundings in
    let h = point_frame o.stands o.image in
    let v = services_of p in
    let e = k.block.first.control.entries in
    let one = small a2 0 ∷ [] in
    let y : Base → ℕ = λ b. (f b).machine.registers 11 in
    let whole = behind p numbers taken c index (one ++ tested_service 23) in
    let r1 = straight c f v v
    (λ b. Known (point_ground w p h) v numbers (λ j. 0) (three (λ b'. word i) y (λ b'. 0)) b)
    (front_of one (tested_service 23) l) (omega arith) (λ b. (there b).0.at.pc)
    (λ b.
    let o' = (known_word k.block h (there b)).holds in record {
      body = record {
        services = o'.body.services;
        registers = o'.body.registers;
        bytes = o'.body.bytes;
        memory = o'.body.memory;
      };
      regs = (o'.regs.0, (refl, (small_is _ 0 (zero_is o'.body) (lit< tt), tt)));
    }) in
    let x : Cut = record { text = text; first = i; second = y; mode = 0; outcome = substring_from text i } in
    onward (text_closed entries k whole) r1
    (λ g at.
    push_further entries k
    (record {
      acts = omega arith;
      line = refl;
      index = omega arith;
      wanted = omega arith;
      taken = omega arith;
      stays = λ j less. refl;
    })
    (cut_comes entries k x error p numbers taken (c + 1) (index + 1) g h
    (λ part is. from_short text i part short is)
    (λ b m. from_answer k.block.call.code p m text i (y b) (entries ++ e) wide o.entries) o line over'
    (back_of one (tested_service 23) l) (omega (arith, paid)) at))

no_more : (k : Setting) (taken m n : ℕ) → HasRegisters k taken (max m n) → HasRegisters k taken (max m (max n 0))
no_more k taken m n h =
    let same : n ≡ max n 0 = omega arith in
    subst (λ u. HasRegisters k taken (max m u)) same h

pub from_cuts :
    (entries : List Entry) (k : Setting) (x : Y.Text) (start : Y.Number) (m n : ℕ) → ErrorComes (List ℕ) k →
    TextDoes entries k m x → ((s : List ℕ) → NumberDoes (TextEntry s ∷ entries) k n start) →
    TextDoes entries k (max m n) (Y.SubstringFrom x start)
unfolding V.text
from_cuts entries k x start m n error el er p numbers taken c index f o line registers l paid there =
    text_and_number entries k (text_aims entries k) (text_leads entries k) m n 0
    (λ t. text_code k.block.environment t x) (λ t. number_code k.block.environment t start)
    (λ t. small a2 0 ∷ tested_service 23) (V.text k.around x) (V.number k.around start)
    (λ s i. R.or_error k.around substring_code (substring_from s i)) el er
    (λ s i short wide. from_last entries k error s i short wide) p numbers taken c index f o line
    (no_more k taken m n registers) l paid there

-- ---- so many bytes

part_answer :
    (code : List Instr) (p : Point) (m text : List ℕ) (i j : ℤ) (below : List Entry) → IsWide i → IsWide j →
    p.control.entries ≡ TextEntry text ∷ below →
    X.cut_served (call_at code (services_of p) m) (word i) (word j) 1
    ≡ told (services_of p) m (word i) substring_code (λ part. services_of (with_texts (TextEntry part ∷ below) p))
    (λ part. word i) (substring text i j)
part_answer code p m text i j below wide wide' top =
    let v = services_of p in
    let c = call_at code v m in
    ap (λ u. on_text u (λ t more. or_status c (word i) substring_code
    (substring t (signed (word i)) (signed (word j)))
    (λ part. becoming c (with_entries (TextEntry part ∷ more) v) (word i) 0))) top
    ∙ ap (λ u. or_status c (word i) substring_code (substring text u (signed (word j)))
    (λ part. Done (services_of (with_texts (TextEntry part ∷ below) p)) m (word i) 0)) (signed_word i wide)
    ∙ ap (λ u. or_status c (word i) substring_code (substring text i u)
    (λ part. Done (services_of (with_texts (TextEntry part ∷ below) p)) m (word i) 0)) (signed_word j wide')
    ∙ status_told c (word i) substring_code (λ part. services_of (with_texts (TextEntry part ∷ below) p))
    (λ part. word i) (substring text i j)

same_sum : (x n : ℕ) → x ≡ n → n < 2 ^ 32 → sum x (word (pos 0)) ≡ n
same_sum x n e h = omega (arith, e, h)

-- the count is in a0, and the place waits in a register
counted_last :
    (entries : List Entry) (k : Setting) → ErrorComes (List ℕ) k → (text : List ℕ) (i j : ℤ) → IsShort text →
    IsWide i → IsWide j → (p : Point) (numbers : ℕ → ℕ) (taken c index : ℕ) (f : Family) →
    IsAmong (waiting (TextEntry text ∷ entries) k.block) numbers p → p.control.line ≡ k.around.line →
    StandOver entries k → HasRegisters k taken 1 → numbers taken ≡ word i →
    (h : frame_of k.block p) →
    Linked k.block.call.surroundings.links k.block.call.code index
    (move a1 a0 ∷ (fetch a0 (in_registers k.words taken) ++ (small a2 1 ∷ tested_service 23))) →
    c + size_of (move a1 a0 ∷ (fetch a0 (in_registers k.words taken) ++ (small a2 1 ∷ tested_service 23))) + k.most
    ≤ cost k.block.call.code →
    ((b : Base) →
    At b index (Known (point_ground k.block.call.surroundings p h) (services_of p) numbers (λ n. 0)
    (λ b'. (10, word j) ∷ []) b) (f b)) →
    Comes k.block.call.code c f (services_of p)
    (text_aims entries k (behind p numbers taken c index
    (move a1 a0 ∷ (fetch a0 (in_registers k.words taken) ++ (small a2 1 ∷ tested_service 23)))))
    (R.or_error k.around substring_code (substring text i j) k.block.call.surroundings.acts p.state)
counted_last entries k error text i j short wide wide' p numbers taken c index f o line over' registers waits h l paid
    at =
    let w = k.block.call.surroundings in
    let v = services_of p in
    let e = k.block.first.control.entries in
    let t = in_registers k.words taken in
    let first = move a1 a0 ∷ [] in
    let back = fetch a0 t in
    let one = small a2 1 ∷ [] in
    let tail = one ++ tested_service 23 in
    let n1 = size_append back tail in
    let whole = behind p numbers taken c index (first ++ (back ++ tail)) in
    let closed = text_closed entries k whole in
    let l1 = back_of first (back ++ tail) l in
    let l2 = back_of back tail l1 in
    let x : Cut = record {
      text = text;
      first = i;
      second = λ b. word j;
      mode = 1;
      outcome = substring text i j;
    } in
    let r1 = straight c f v v
    (λ b. Known (point_ground w p h) v numbers (λ n. 0) (λ b'. (11, word j) ∷ []) b) (front_of first (back ++ tail) l)
    (omega arith) (λ b. (at b).pc)
    (λ b. let o' = (at b).holds in record {
      body = record {
        services = o'.body.services;
        registers = o'.body.registers;
        bytes = o'.body.bytes;
        memory = o'.body.memory;
      };
      regs = (same_sum _ (word j) o'.regs.0 (word_small j wide'), tt);
    }) in
    onward closed r1 (λ g1 at1.
    onward closed
    (fetched_reach k taken 0 h registers (c + 1) g1 a0 (word i) (word_small i wide) waits
    (record { reserved_stay = λ z u. refl; known_stay = λ b z u q. q; set = λ z u. refl })
    (record { reserved_stay = λ z u. refl; known_stay = λ b z u q. q; set = λ z u. refl }) (front_of back tail l1) at1)
    (λ g2 at2.
    onward closed
    (straight (c + 1 + size_of back) g2 v v
    (λ b. Known (point_ground w p h) v numbers (λ n. 0) (three (λ b'. word i) (λ b'. word j) (λ b'. 1)) b)
    (front_of one (tested_service 23) l2) (omega arith) (λ b. (at2 b).pc)
    (λ b. let o' = (at2 b).holds in record {
      body = record {
        services = o'.body.services;
        registers = o'.body.registers;
        bytes = o'.body.bytes;
        memory = o'.body.memory;
      };
      regs = (o'.regs.0, (o'.regs.1.0, (small_is _ 1 (zero_is o'.body) (lit< tt), tt)));
    }))
    (λ g3 at3.
    push_further entries k
    (record {
      acts = omega arith;
      line = refl;
      index = omega (arith, n1);
      wanted = omega (arith, n1);
      taken = omega arith;
      stays = λ n less. refl;
    })
    (cut_comes entries k x error p numbers taken (c + 1 + size_of back + 1) (index + 1 + size_of back + 1) g3 h
    (λ part is. part_short text i j part short is)
    (λ b m. part_answer k.block.call.code p m text i j (entries ++ e) wide wide' o.entries) o line over'
    (back_of one (tested_service 23) l2) (omega (arith, paid, n1)) at3))))

abbrev counting : (count : Taken → Code) → Taken → Code
counting count t =
    save a0 t
    ++ (count (with_number t) ++ (move a1 a0 ∷ (fetch a0 t ++ (small a2 1 ∷ tested_service 23))))

-- the place waits while the count is evaluated
part_last :
    (entries : List Entry) (k : Setting) → ErrorComes (List ℕ) k → (text : List ℕ) (i : ℤ) (count : Y.Number) (q : ℕ) →
    IsShort text → IsWide i → NumberDoes (TextEntry text ∷ entries) k q count →
    LastWith entries text k (text_aims entries k) (suc q) i (counting (λ t. number_code k.block.environment t count))
    (V.number k.around count >>= (λ j. R.or_error k.around substring_code (substring text i j)))
unfolding ◌>>=◌
part_last entries k error text i count q short wide eq p numbers taken c index f o line over' registers l paid there =
    let w = k.block.call.surroundings in
    let code = k.block.call.code in
    let t = in_registers k.words taken in
    let room = registers.0 in
    let most = registers.1 in
    let there' = TextEntry text ∷ entries in
    let one : HasRegisters k taken 1 = (omega (arith, room), most) in
    let next = next_taken k.words taken (register_left k taken 1 one (omega arith)) in
    let part : Taken → Code = λ u. number_code k.block.environment u count in
    let put' = save a0 t in
    let b' = part (with_number t) in
    let tail = move a1 a0 ∷ (fetch a0 t ++ (small a2 1 ∷ tested_service 23)) in
    let n1 = size_append put' (b' ++ tail) in
    let n2 = size_append b' tail in
    let same = ap (λ u. size_of (part u)) next in
    let l1 = back_of put' (b' ++ tail) l in
    let l2 = back_of b' tail l1 in
    let lb = subst (λ u. Linked w.links code (index + size_of put') (part u)) next (front_of b' tail l1) in
    let whole = behind p numbers taken c index (put' ++ (b' ++ tail)) in
    let goal = text_aims entries k whole in
    let closed = text_closed entries k whole in
    let last : ℤ → Meaning (List ℕ) = λ j. R.or_error k.around substring_code (substring text i j) in
    let h = point_frame o.stands o.image in
    let small' = word_small i wide in
    let held = held_after numbers taken (word i) in
    let c2 = c + size_of put' in
    let i2 = index + size_of put' in
    let part2 = part (in_registers k.words (taken + 1)) in
    onward closed
    (saved_reach k taken 0 h one c f (word i) small' (front_of put' (b' ++ tail) l)
    (λ b. known_word k.block h (there b)))
    (λ g1 at1.
    let among1 = held_among (over there' k) taken 1 (word i) one (omega arith) small' o in
    comes_on w.acts (V.number k.around count w.acts p.state) last
    (comes_map (value_aims there' k (behind p held (taken + 1) c2 i2 part2)) (before code goal w.acts last) refl
    (V.number k.around count w.acts p.state)
    (λ c3 f3 v3 j s3 q3.
    let o3 = q3.1 in
    let p3 = o3.point in
    let since3 = o3.since in
    let h3 = point_frame o3.among.stands o3.among.image in
    let waits = o3.stays taken (omega arith) ∙ held_is_given numbers taken (word i) in
    subst (λ s. Comes code c3 f3 v3 goal (last j w.acts s)) (sym o3.state)
    (onward closed o3.reach
    (λ g3 at3.
    push_further entries k
    (record {
      acts = omega (arith, since3);
      line = o3.line;
      index = omega (arith, n1, n2);
      wanted = omega (arith, n1, n2, same);
      taken = omega arith;
      stays = λ n less. o3.stays n (omega (arith, less)) ∙ held_stays numbers taken (word i) n less;
    })
    (counted_last entries k error text i j short wide q3.0 p3 o3.numbers taken (c2 + size_of part2)
    (i2 + size_of b') g3 o3.among (o3.line ∙ line) over' one waits h3 l2 (omega (arith, paid, n1, n2, same))
    (λ b. subst (λ n. At b n (Known (point_ground w p3 h3) (services_of p3) o3.numbers (λ j'. 0)
    (λ b0. (10, word j) ∷ []) b) (g3 b)) (omega (arith, same)) (known_word k.block h3 (at3 b)))))))
    (λ c3 f3 v3 height label s3 q3. q3)
    (λ c3 f3 v3 r s3 q3. absurd q3)
    (eq p held (taken + 1) c2 i2 g1 among1 line (omega (arith, room), most) lb (omega (arith, paid, n1, n2, same))
    (λ b. in_known h o.image.parts (at1 b)))))

pub part_cuts :
    (entries : List Entry) (k : Setting) (x : Y.Text) (start count : Y.Number) (m n q : ℕ) → ErrorComes (List ℕ) k →
    TextDoes entries k m x → ((s : List ℕ) → NumberDoes (TextEntry s ∷ entries) k n start) →
    ((s : List ℕ) → NumberDoes (TextEntry s ∷ entries) k q count) →
    TextDoes entries k (max m (max n (suc q))) (Y.Substring x start count)
unfolding V.text
part_cuts entries k x start count m n q error el er eq =
    text_and_number entries k (text_aims entries k) (text_leads entries k) m n (suc q)
    (λ t. text_code k.block.environment t x) (λ t. number_code k.block.environment t start)
    (counting (λ t. number_code k.block.environment t count)) (V.text k.around x) (V.number k.around start)
    (λ s i. V.number k.around count >>= (λ j. R.or_error k.around substring_code (substring s i j))) el er
    (λ s i short wide. part_last entries k error s i count q short wide (eq s))
