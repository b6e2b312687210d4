-- Texts and numbers of bits, and bits of texts.
use Rattle.std.proofs.Common.{◌≡◌, ℕ, ◌+◌, List, [], ◌∷◌, ◌++◌, Bool, true, false, refl, sym, ap, ◌∙◌, subst}
use Rattle.std.proofs.Common.{arith, lit<}
use Rattle.std.specs.Prelude.{ℤ, ◌==◌}
use Rattle.rv_meaning.specs.Words.{flag, word}
use Rattle.pli_typing.specs.TypedTree as Y
use Rattle.pli_meaning.specs.Codes.{conversion_code}
use Rattle.pli_meaning.specs.Control.{Meaning, give, ◌>>=◌}
use Rattle.pli_meaning.specs.Evaluating as V
use Rattle.pli_meaning.specs.Raising as R
use Rattle.pli_meaning.specs.Texts.{bit_in_text, bit_number, bit_text}
use Rattle.pli_serving.specs.Answers.{Done}
use Rattle.pli_serving.specs.ServiceState.{Entry, TextEntry}
use Rattle.pli_serving.specs.TextServices as X
use Rattle.pli_coding.specs.Assembly.{size_of}
use Rattle.pli_coding.specs.Expressions.{bit_code, text_code}
use Rattle.pli_coding.specs.Instructions.{service, small, tested_service}
use Rattle.pli_coding.specs.Registers.{a0, a1}
use Rattle.activation_relation.specs.Layers.{services_of}
use Rattle.run_steps.specs.Bodies.{Known}
use Rattle.run_steps.proofs.Bodies.{zero_is}
use Rattle.run_steps.specs.Engine.{Base}
use Rattle.run_steps.proofs.Items.{straight}
use Rattle.run_steps.proofs.Jumps.{back_of, front_of}
use Rattle.run_steps.proofs.Linking.{size_append}
use Rattle.run_steps.specs.Numbers.{IsWide}
use Rattle.run_steps.specs.Reach.{Comes, Family, before, reached}
use Rattle.run_steps.proofs.Reach.{comes_on, onward, reach_map, reach_then, reached_holds, stay}
use Rattle.run_steps.proofs.Reaching.{reach_moved}
use Rattle.run_steps.specs.Temporaries.{nothing}
use Rattle.block_runs.proofs.BlockEntries.{small_is}
use Rattle.block_runs.proofs.CallStatements.{comes_map}
use Rattle.block_runs.proofs.PointGrounds.{in_known, known_in, point_frame, point_ground}
use Rattle.pli_headline.proofs.TextNumbers.{bit_answer}
use Rattle.program_runs.specs.Statements.{waiting, with_texts}
use Rattle.program_runs.proofs.Waiting.{over_first, over_more, texts_among, texts_in}
use Rattle.expression_runs.specs.Values.{HasWord, Setting, behind, in_registers}
use Rattle.expression_runs.proofs.Words.{known_word}
use Rattle.text_runs.specs.Laws.{NumberDoes, TextDoes}
use Rattle.text_runs.specs.Texts.{ErrorComes, IsShort, text_aims, value_aims}
use Rattle.text_runs.proofs.Points.{text_closed}
use Rattle.text_runs.proofs.Sequences.{Last, anything, one_text}
use Rattle.text_runs.proofs.TextCalls.{Asking, asks, three}
use Rattle.text_runs.proofs.Tested.{Place, Tested, tested_comes}
use Rattle.text_values.specs.Bits.{BitDoes, bit_aims}
use Rattle.text_values.proofs.Comparisons.{bit_closed, bit_leads}

-- ---- 21: the text of a bit

flag_is_one : (b : Bool) → (flag b == 1) ≡ b
flag_is_one true = refl
flag_is_one false = refl

bit_short : (b : Bool) → IsShort (bit_text b)
bit_short true = omega arith
bit_short false = omega arith

pub bit_pushes :
    (entries : List Entry) (k : Setting) (x : Y.Bit) (need : ℕ) → BitDoes entries k need x →
    TextDoes entries k need (Y.TextOfBit x)
unfolding V.text ◌>>=◌ give
bit_pushes entries k x need el p numbers taken c index f o line registers l paid there =
    let w = k.block.call.surroundings in
    let code = k.block.call.code in
    let t = in_registers k.words taken in
    let a = bit_code k.block.environment t x in
    let one = small a1 0 ∷ [] in
    let n1 = size_append a (one ++ service 21) in
    let whole = behind p numbers taken c index (a ++ (one ++ service 21)) in
    let goal = text_aims entries k whole in
    let rest : Bool → Meaning (List ℕ) = λ b. give (bit_text b) in
    let l1 = back_of a (one ++ service 21) l in
    let e = k.block.first.control.entries in
    comes_on w.acts (V.bit k.around x w.acts p.state) rest
    (comes_map (bit_aims entries k (behind p numbers taken c index a)) (before code goal w.acts rest) refl
    (V.bit k.around x w.acts p.state)
    (λ c1 f1 v1 z s1 o1.
    let p1 = o1.point in
    let h1 = point_frame o1.among.stands o1.among.image in
    let v = services_of p1 in
    let text = bit_text z in
    let entries' = TextEntry text ∷ entries in
    let p2 = with_texts (entries' ++ e) p1 in
    let third : Family → Base → ℕ = λ g b. (g b).machine.registers 12 in
    subst (λ s. Comes code c1 f1 v1 goal (rest z w.acts s)) (sym o1.state)
    (onward (text_closed entries k whole) o1.reach
    (λ g1 at1.
    let r1 = straight (c + size_of a) g1 v v
    (λ b. Known (point_ground w p1 h1) v o1.numbers (λ j. 0)
    (three (λ b'. flag z) (λ b'. 0) (third g1)) b) (front_of one (service 21) l1) (omega arith)
    (λ b. (known_word k.block h1 (at1 b)).pc)
    (λ b. let q = (known_word k.block h1 (at1 b)).holds in record {
      body = record {
        services = q.body.services;
        registers = q.body.registers;
        bytes = q.body.bytes;
        memory = q.body.memory;
      };
      regs = (q.regs.0, (small_is _ 0 (zero_is q.body) (lit< tt), (refl, tt)));
    }) in
    let asking : Asking = record {
      number = 21;
      x = λ b. flag z;
      y = λ b. 0;
      z = third g1;
      first = λ b. flag z;
      second = λ b. 0;
      answer = λ call x0 x1 x2. X.push_number_served call x0 x1;
    } in
    let r2 = asks {g' = point_ground w p2 h1} asking (c + size_of a + 1) (reached r1)
    (record {
      small' = lit< tt;
      serves = λ call r. refl;
      answers = λ b m.
          ap (λ u. Done (services_of (with_texts (TextEntry (bit_text u) ∷ p1.control.entries) p1)) m (flag z) 0)
          (flag_is_one z)
          ∙ ap (λ es. Done (services_of (with_texts (TextEntry text ∷ es) p1)) m (flag z) 0) o1.among.entries;
      more = omega arith;
    })
    (record { reserved = λ b. refl; memory = λ b m is. texts_in (entries' ++ e) is }) (back_of one (service 21) l1)
    (reached_holds r1) in
    record {
      to = λ early. record {
        short = bit_short z;
        point = p2;
        numbers = o1.numbers;
        among = texts_among k.block entries entries' o1.among
            (over_more (TextEntry text ∷ []) (entries ++ e) k.block.first.control.edits k.block.first.control.layers
            (over_first k.block entries o1.among));
        since = o1.since;
        line = o1.line;
        stays = o1.stays;
        state = refl;
        reach = reach_map _
            (reach_moved {i'' = index + size_of (a ++ (one ++ service 21))} (omega (arith, n1)) (omega (arith, n1))
            (reach_then r1 r2))
            (λ b y is. in_known h1 o1.among.image.parts is);
      };
    })))
    (λ c1 f1 v1 height label s1 q1. q1)
    (λ c1 f1 v1 r s1 q1. absurd q1)
    (el p numbers taken c index f o line registers (front_of a (one ++ service 21) l) (omega (arith, paid, n1)) there))

-- ---- a bit as a number

bit_word : (b : Bool) → flag b ≡ word (bit_number b)
bit_word true = refl
bit_word false = refl

bit_wide : (b : Bool) → IsWide (bit_number b)
bit_wide true = refl
bit_wide false = refl

pub number_of_bit :
    (entries : List Entry) (k : Setting) (x : Y.Bit) (need : ℕ) → BitDoes entries k need x →
    NumberDoes entries k need (Y.NumberOfBit x)
unfolding V.number ◌>>=◌ give
number_of_bit entries k x need does p numbers taken c index f o line registers l paid there =
    let w = k.block.call.surroundings in
    let code = k.block.call.code in
    let y = behind p numbers taken c index (bit_code k.block.environment (in_registers k.words taken) x) in
    let rest : Bool → Meaning ℤ = λ b. give (bit_number b) in
    comes_on w.acts (V.bit k.around x w.acts p.state) rest
    (comes_map (bit_aims entries k y) (before code (value_aims entries k y) w.acts rest) refl
    (V.bit k.around x w.acts p.state)
    (λ c1 f1 v1 b s q. record {
      to = λ early. (bit_wide b, subst (λ u. HasWord (waiting entries k.block) y u c1 f1 v1 s) (bit_word b) q);
    })
    (λ c1 f1 v1 height label s q. q)
    (λ c1 f1 v1 r s q. absurd q)
    (does p numbers taken c index f o line registers l paid there))

-- ---- 26: the bit that a text shows

shown_last :
    (entries : List Entry) (k : Setting) → ErrorComes Bool k → (text : List ℕ) →
    Last entries (TextEntry text ∷ entries) k (bit_aims entries k) anything (small a0 1 ∷ tested_service 26)
    (R.or_error k.around conversion_code (bit_in_text text))
shown_last entries k error text p numbers taken c index f o line over' l paid there =
    let w = k.block.call.surroundings in
    let code = k.block.call.code in
    let h = point_frame o.stands o.image in
    let v = services_of p in
    let e = k.block.first.control.entries in
    let q = with_texts (entries ++ e) p in
    let one = small a0 1 ∷ [] in
    let second : Base → ℕ = λ b. (f b).machine.registers 11 in
    let third : Base → ℕ = λ b. (f b).machine.registers 12 in
    let whole = behind p numbers taken c index (one ++ tested_service 26) in
    let r1 = straight c f v v
    (λ b. Known (point_ground w p h) v numbers (λ j. 0) (three (λ b'. 1) second third) b)
    (front_of one (tested_service 26) l) (omega arith) (λ b. (there b).0.at.pc)
    (λ b.
    let o' = (known_in {t = λ j. 0} {rs = nothing} h (there b).0 tt).holds in record {
      body = record {
        services = o'.body.services;
        registers = o'.body.registers;
        bytes = o'.body.bytes;
        memory = o'.body.memory;
      };
      regs = (small_is _ 1 (zero_is o'.body) (lit< tt), (refl, (refl, tt)));
    }) in
    onward (bit_closed entries k whole) r1
    (λ g at.
    let place : Place = record {
      entries = TextEntry text ∷ entries;
      setting = k;
      point = p;
      numbers = numbers;
      credits = c + 1;
      index = index + 1;
      family = g;
    } in
    let asked : Tested Bool = record {
      number = 26;
      code = conversion_code;
      x = λ b. 1;
      y = second;
      z = third;
      answer = λ call x0 x1 x2. X.to_number_served call x0;
      outcome = bit_in_text text;
      texts = λ z. entries ++ e;
      result = λ z b. flag z;
    } in
    tested_comes place asked (bit_closed entries k whole) refl h
    (record {
      among = o;
      line = line;
      linked = back_of one (tested_service 26) l;
      paid = omega (arith, paid);
      there = at;
    })
    (record {
      small' = lit< tt;
      coded = lit< tt;
      some = refl;
      serves = λ call r. refl;
      answers = λ b m. bit_answer code v m text (entries ++ e) o.entries;
    })
    error (λ c' f' v' height label s' q'. q')
    (λ z g' is at'. record {
      point = q;
      numbers = numbers;
      among = texts_among k.block (TextEntry text ∷ entries) entries o over';
      since = omega arith;
      line = refl;
      stays = λ i less. refl;
      state = refl;
      reach = reach_map _
          (reach_moved {c'' = whole.wanted} {i'' = whole.index} (omega arith) (omega arith)
          (stay code (c + 1 + 5) g' (services_of q) _ at'))
          (λ b y is'. (in_known h o.image.parts is', is'.holds.regs.0));
    }))

pub text_tells :
    (entries : List Entry) (k : Setting) (x : Y.Text) (need : ℕ) → ErrorComes Bool k → TextDoes entries k need x →
    BitDoes entries k need (Y.BitOfText x)
unfolding V.bit
text_tells entries k x need error does =
    one_text entries k (bit_aims entries k) (bit_leads entries k) need
    (λ taken. text_code k.block.environment taken x) (small a0 1 ∷ tested_service 26) (V.text k.around x)
    (λ text. R.or_error k.around conversion_code (bit_in_text text)) does
    (λ text short. shown_last entries k error text)
