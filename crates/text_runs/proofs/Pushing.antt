-- Texts come onto the stack: that of a number, and two that become one.
use Rattle.std.proofs.Common.{ℕ, ◌+◌, ◌<◌, ◌≤◌, List, [], ◌∷◌, ◌++◌, refl, sym, ap}
use Rattle.std.proofs.Common.{◌∙◌, subst, arith, lit<}
use Rattle.std.specs.Prelude.{ℤ, max}
use Rattle.rv_meaning.specs.Words.{word}
use Rattle.pli_typing.specs.TypedTree as Y
use Rattle.pli_meaning.specs.Codes.{too_long_code}
use Rattle.pli_meaning.specs.Control.{Meaning, give, ◌>>=◌}
use Rattle.pli_meaning.specs.Evaluating as V
use Rattle.pli_meaning.specs.Raising as R
use Rattle.pli_meaning.specs.Texts.{joined, number_text}
use Rattle.pli_serving.specs.Answers.{Done}
use Rattle.pli_serving.specs.Outcomes.{becoming, on_two_texts, or_status, with_entries}
use Rattle.pli_serving.specs.ServiceState.{Entry, TextEntry}
use Rattle.pli_serving.specs.TextServices as X
use Rattle.pli_coding.specs.Assembly.{size_of}
use Rattle.pli_coding.specs.Expressions.{number_code, text_code}
use Rattle.pli_coding.specs.Instructions.{service, small, tested_service}
use Rattle.pli_coding.specs.Registers.{a1}
use Rattle.activation_relation.specs.Layers.{services_of}
use Rattle.run_steps.specs.Bodies.{Known}
use Rattle.run_steps.proofs.Bodies.{zero_is}
use Rattle.run_steps.specs.Engine.{Base, call_at}
use Rattle.run_steps.proofs.Items.{straight}
use Rattle.run_steps.proofs.Jumps.{back_of, front_of}
use Rattle.run_steps.proofs.Linking.{size_append}
use Rattle.run_steps.proofs.Reaching.{reach_moved}
use Rattle.run_steps.specs.Reach.{Comes, Family, before, reached}
use Rattle.run_steps.proofs.Reach.{comes_on, onward, reach_map, reach_then, reached_holds, stay}
use Rattle.block_runs.proofs.BlockEntries.{small_is}
use Rattle.block_runs.proofs.CallStatements.{comes_map}
use Rattle.block_runs.proofs.PointGrounds.{in_known, known_in, point_frame, point_ground}
use Rattle.program_runs.specs.Statements.{with_texts}
use Rattle.program_runs.proofs.Waiting.{over_first, over_more, texts_among, texts_in}
use Rattle.expression_runs.specs.Values.{Setting, behind, in_registers}
use Rattle.expression_runs.proofs.Words.{known_word}
use Rattle.text_runs.specs.Laws.{NumberDoes, TextDoes}
use Rattle.text_runs.specs.Texts.{ErrorComes, text_aims, value_aims}
use Rattle.text_runs.proofs.Lengths.{joined_short, number_short, number_text_is}
use Rattle.text_runs.proofs.Points.{text_closed}
use Rattle.text_runs.proofs.Sequences.{Last, anything, text_leads, two_texts}
use Rattle.text_runs.proofs.TextCalls.{Asking, asks, status_told, three}
use Rattle.text_runs.proofs.Tested.{Place, Tested, tested_comes}

-- ---- a number

pub number_pushes :
    (entries : List Entry) (k : Setting) (x : Y.Number) (precision need : ℕ) → 0 < precision → precision ≤ 31 →
    NumberDoes entries k need x → TextDoes entries k need (Y.TextOfNumber precision x)
unfolding V.text ◌>>=◌ give
number_pushes entries k x precision need some few el p numbers taken c index f o line registers l paid there =
    let w = k.block.call.surroundings in
    let code = k.block.call.code in
    let t = in_registers k.words taken in
    let a = number_code k.block.environment t x in
    let one = small a1 precision ∷ [] in
    let n1 = size_append a (one ++ service 21) in
    let whole = behind p numbers taken c index (a ++ (one ++ service 21)) in
    let goal = text_aims entries k whole in
    let rest : ℤ → Meaning (List ℕ) = λ z. give (number_text precision z) in
    let l1 = back_of a (one ++ service 21) l in
    let e = k.block.first.control.entries in
    comes_on w.acts (V.number k.around x w.acts p.state) rest
    (comes_map (value_aims entries k (behind p numbers taken c index a)) (before code goal w.acts rest) refl
    (V.number k.around x w.acts p.state)
    (λ c1 f1 v1 z s1 q1.
    let o1 = q1.1 in
    let p1 = o1.point in
    let h1 = point_frame o1.among.stands o1.among.image in
    let v = services_of p1 in
    let text = number_text precision z in
    let entries' = TextEntry text ∷ entries in
    let p2 = with_texts (entries' ++ e) p1 in
    let third : Family → Base → ℕ = λ g b. (g b).machine.registers 12 in
    subst (λ s. Comes code c1 f1 v1 goal (rest z w.acts s)) (sym o1.state)
    (onward (text_closed entries k whole) o1.reach
    (λ g1 at1.
    let r1 = straight (c + size_of a) g1 v v
    (λ b. Known (point_ground w p1 h1) v o1.numbers (λ j. 0)
    (three (λ b'. word z) (λ b'. precision) (third g1)) b) (front_of one (service 21) l1) (omega arith)
    (λ b. (known_word k.block h1 (at1 b)).pc)
    (λ b. let q = (known_word k.block h1 (at1 b)).holds in record {
      body = record {
        services = q.body.services;
        registers = q.body.registers;
        bytes = q.body.bytes;
        memory = q.body.memory;
      };
      regs = (q.regs.0, (small_is _ precision (zero_is q.body) (omega (arith, few)), (refl, tt)));
    }) in
    let asking : Asking = record {
      number = 21;
      x = λ b. word z;
      y = λ b. precision;
      z = third g1;
      first = λ b. word z;
      second = λ b. precision;
      answer = λ call x0 x1 x2. X.push_number_served call x0 x1;
    } in
    let r2 = asks {g' = point_ground w p2 h1} asking (c + size_of a + 1) (reached r1)
    (record {
      small' = lit< tt;
      serves = λ call r. refl;
      answers = λ b m.
          ap (λ u. Done (services_of (with_texts (TextEntry u ∷ p1.control.entries) p1)) m (word z) precision)
          (number_text_is precision z some q1.0)
          ∙ ap (λ es. Done (services_of (with_texts (TextEntry text ∷ es) p1)) m (word z) precision) o1.among.entries;
      more = omega arith;
    })
    (record { reserved = λ b. refl; memory = λ b m is. texts_in (entries' ++ e) is }) (back_of one (service 21) l1)
    (reached_holds r1) in
    record {
      to = λ early. record {
        short = number_short precision z;
        point = p2;
        numbers = o1.numbers;
        among = texts_among k.block entries entries' o1.among
            (over_more (TextEntry text ∷ []) (entries ++ e) k.block.first.control.edits k.block.first.control.layers
            (over_first k.block entries o1.among));
        since = o1.since;
        line = o1.line;
        stays = o1.stays;
        state = refl;
        reach = reach_map _
            (reach_moved {i'' = index + size_of (a ++ (one ++ service 21))} (omega (arith, n1)) (omega (arith, n1))
            (reach_then r1 r2))
            (λ b y is. in_known h1 o1.among.image.parts is);
      };
    })))
    (λ c1 f1 v1 height label s1 q1. q1)
    (λ c1 f1 v1 r s1 q1. absurd q1)
    (el p numbers taken c index f o line registers (front_of a (one ++ service 21) l) (omega (arith, paid, n1)) there))

-- ---- two texts

-- the right one on top of the left one, with what both come to
joined_last :
    (entries : List Entry) (k : Setting) → ErrorComes (List ℕ) k → (s t : List ℕ) →
    Last entries (TextEntry t ∷ TextEntry s ∷ entries) k (text_aims entries k) anything (tested_service 22)
    (R.or_error k.around too_long_code (joined s t))
joined_last entries k error s t p numbers taken c index f o line over' l paid there =
    let h = point_frame o.stands o.image in
    let v = services_of p in
    let e = k.block.first.control.entries in
    let x : Base → ℕ = λ b. (f b).machine.registers 10 in
    let whole = behind p numbers taken c index (tested_service 22) in
    let place : Place = record {
      entries = TextEntry t ∷ TextEntry s ∷ entries;
      setting = k;
      point = p;
      numbers = numbers;
      credits = c;
      index = index;
      family = f;
    } in
    let asked : Tested (List ℕ) = record {
      number = 22;
      code = too_long_code;
      x = x;
      y = λ b. (f b).machine.registers 11;
      z = λ b. (f b).machine.registers 12;
      answer = λ call x0 x1 x2. X.join_served call x0;
      outcome = joined s t;
      texts = λ both. TextEntry both ∷ (entries ++ e);
      result = λ both. x;
    } in
    tested_comes place asked (text_closed entries k whole) refl h
    (record {
      among = o;
      line = line;
      linked = l;
      paid = paid;
      there = λ b. known_in h (there b).0 (refl, (refl, (refl, tt)));
    })
    (record {
      small' = lit< tt;
      coded = lit< tt;
      some = refl;
      serves = λ call r. refl;
      answers = λ b m.
          let call = call_at k.block.call.code v m in
          ap (λ es. on_two_texts es (λ left right below. or_status call (x b) too_long_code (joined left right)
          (λ both. becoming call (with_entries (TextEntry both ∷ below) v) (x b) 0))) o.entries
          ∙ status_told call (x b) too_long_code
          (λ both. services_of (with_texts (TextEntry both ∷ (entries ++ e)) p)) (λ both. x b) (joined s t);
    })
    error (λ c' f' v' height label s' q. q)
    (λ both g is at. record {
      short = joined_short s t both is;
      point = with_texts (TextEntry both ∷ (entries ++ e)) p;
      numbers = numbers;
      among = texts_among k.block (TextEntry t ∷ TextEntry s ∷ entries) (TextEntry both ∷ entries) o
          (over_more (TextEntry both ∷ []) (entries ++ e) k.block.first.control.edits k.block.first.control.layers
          over');
      since = omega arith;
      line = refl;
      stays = λ n less. refl;
      state = refl;
      reach = stay k.block.call.code whole.wanted g
          (services_of (with_texts (TextEntry both ∷ (entries ++ e)) p)) _
          (λ b. in_known h o.image.parts (at b));
    })

pub joined_pushes :
    (entries : List Entry) (k : Setting) (left right : Y.Text) (m n : ℕ) → ErrorComes (List ℕ) k →
    TextDoes entries k m left → ((s : List ℕ) → TextDoes (TextEntry s ∷ entries) k n right) →
    TextDoes entries k (max m n) (Y.Joined left right)
unfolding V.text
joined_pushes entries k left right m n error el er =
    two_texts entries k (text_aims entries k) (text_leads entries k) m n
    (λ taken. text_code k.block.environment taken left) (λ taken. text_code k.block.environment taken right)
    (tested_service 22) (V.text k.around left) (V.text k.around right)
    (λ s t. R.or_error k.around too_long_code (joined s t)) el er
    (λ s t short short'. joined_last entries k error s t)
