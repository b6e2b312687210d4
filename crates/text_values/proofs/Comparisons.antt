-- Comparisons of texts: service 24 takes both from the stack and tells their order, which is compared to 0.
use Rattle.std.proofs.Common.{◌≡◌, ℕ, ◌+◌, ◌^◌, ◌<◌, List, [], ◌∷◌, ◌++◌, refl, ap, ◌∙◌, arith, lit<}
use Rattle.std.specs.Ordering.{int_cmp}
use Rattle.std.specs.Prelude.{max, pos}
use Rattle.std.specs.declared.cmp.Ordering.{Ordering}
use Rattle.std.specs.declared.cmp.Ordering.TheVariants.{Equal, Greater, Less}
use Rattle.rv_meaning.specs.Words.{flag, sum, word}
use Rattle.pli_typing.specs.TypedTree as Y
use Rattle.pli_meaning.specs.Control.{give}
use Rattle.pli_meaning.specs.Evaluating as V
use Rattle.pli_meaning.specs.Texts.{holds, text_order}
use Rattle.pli_serving.specs.Outcomes.{becoming, on_two_texts, with_entries}
use Rattle.pli_serving.specs.ServiceState.{Entry, TextEntry}
use Rattle.pli_serving.specs.TextServices as X
use Rattle.pli_coding.specs.Arithmetic.{compared_code}
use Rattle.pli_coding.specs.Expressions.{bit_code, text_code}
use Rattle.pli_coding.specs.Instructions.{move, service, small}
use Rattle.pli_coding.specs.Registers.{a0, u1}
use Rattle.activation_relation.specs.Layers.{services_of}
use Rattle.run_steps.specs.Bodies.{Known}
use Rattle.run_steps.proofs.Bodies.{zero_is}
use Rattle.run_steps.specs.Engine.{Base, call_at}
use Rattle.run_steps.proofs.Items.{straight}
use Rattle.run_steps.proofs.Jumps.{back_of, front_of}
use Rattle.run_steps.proofs.Linking.{size_append}
use Rattle.run_steps.specs.Numbers.{IsWide}
use Rattle.run_steps.proofs.Numbers.{word_small}
use Rattle.run_steps.specs.Reach.{Closed, reached}
use Rattle.run_steps.proofs.Reach.{reach_map, reach_then, reached_holds}
use Rattle.run_steps.proofs.Reaching.{reach_moved}
use Rattle.block_runs.proofs.BlockEntries.{small_is}
use Rattle.block_runs.proofs.CallStatements.{comes_map}
use Rattle.block_runs.proofs.PointGrounds.{in_known, known_in, point_frame, point_ground}
use Rattle.pli_headline.proofs.WordComparisons.{numbers_compared}
use Rattle.program_runs.specs.Statements.{waiting, with_texts}
use Rattle.program_runs.proofs.JumpsOut.{jumps_later, jumps_since}
use Rattle.program_runs.proofs.Waiting.{texts_among, texts_in}
use Rattle.expression_runs.specs.Values.{Setting, Stretch, behind}
use Rattle.expression_runs.proofs.Words.{paired, word_further, word_later}
use Rattle.text_runs.specs.Laws.{TextDoes}
use Rattle.text_runs.proofs.Points.{jumps_down}
use Rattle.text_runs.proofs.Sequences.{Last, Leads, anything, two_texts}
use Rattle.text_runs.proofs.TextCalls.{Asking, asks}
use Rattle.text_runs.specs.Waiting.{over}
use Rattle.test_runs.specs.Tests as T
use Rattle.test_runs.specs.Tests.{Tests}
use Rattle.test_runs.proofs.Bits.{compared_reach}
use Rattle.text_values.specs.Bits.{BitDoes, bit_aims}

-- ---- bits where texts wait

pub bit_closed : (entries : List Entry) (k : Setting) (x : Stretch) → Closed k.block.call.code (bit_aims entries k x)
bit_closed entries k x =
    record {
      done = λ r z s o. word_later r o;
      jumped = λ r height label s o. jumps_later r o;
      returned = λ r z s o. absurd o;
    }

pub bit_leads : (entries : List Entry) (k : Setting) → Leads k (bit_aims entries k)
bit_leads entries k =
    record {
      limits = λ y. refl;
      closed = bit_closed entries k;
      jumped = λ y c f v height label s q. q;
      further = λ x y c f v flow i o.
          comes_map (bit_aims entries k x) (bit_aims entries k y) refl flow
          (λ c f v z s q. word_further i q)
          (λ c f v height label s q. jumps_since i.acts q)
          (λ c f v r s q. absurd q)
          o;
    }

pub above_bit :
    (entries : List Entry) (k : Setting) (x : Y.Bit) (need : ℕ) → Tests (over entries k) need x →
    BitDoes entries k need x
above_bit entries k x need does p numbers taken c index f o line registers l paid there =
    let part = bit_code k.block.environment (record { registers = taken; words = k.words }) x in
    let y = behind p numbers taken c index part in
    comes_map (T.bit_aims (waiting entries k.block) [] y) (bit_aims entries k y) refl
    (V.bit k.around x k.block.call.surroundings.acts p.state)
    (λ c f v z s q. q)
    (λ c f v height label s q. jumps_down entries k q)
    (λ c f v r s q. absurd q)
    (does p numbers taken c index f o line registers l paid there)

pub alone_bit : (k : Setting) (x : Y.Bit) (need : ℕ) → BitDoes [] k need x → Tests k need x
alone_bit k x need does = does

-- ---- 24: the order of two texts

order_wide : (o : Ordering) → IsWide (X.order_number o)
order_wide Less = refl
order_wide Equal = refl
order_wide Greater = refl

order_is : (o : Ordering) → int_cmp (X.order_number o) (pos 0) ≡ o
order_is Less = refl
order_is Equal = refl
order_is Greater = refl

same_sum : (x n : ℕ) → x ≡ n → n < 2 ^ 32 → sum x (word (pos 0)) ≡ n
same_sum x n e h = omega (arith, e, h)

compared_last :
    (entries : List Entry) (k : Setting) (comparison : Y.Comparison) (s t : List ℕ) →
    Last entries (TextEntry t ∷ TextEntry s ∷ entries) k (bit_aims entries k) anything
    (service 24 ++ (move u1 a0 ∷ small a0 0 ∷ compared_code comparison)) (give (holds comparison (text_order s t)))
unfolding give
compared_last entries k comparison s t p numbers taken c index f o line over' l paid there =
    let w = k.block.call.surroundings in
    let code = k.block.call.code in
    let h = point_frame o.stands o.image in
    let v = services_of p in
    let e = k.block.first.control.entries in
    let q = with_texts (entries ++ e) p in
    let order = text_order s t in
    let z = X.order_number order in
    let met = holds comparison order in
    let moves = move u1 a0 ∷ small a0 0 ∷ [] in
    let rest = moves ++ compared_code comparison in
    let l1 = back_of (service 24) rest l in
    let e1 = size_append (service 24) rest in
    let e2 = size_append moves (compared_code comparison) in
    let first : Base → ℕ = λ b. (f b).machine.registers 10 in
    let second : Base → ℕ = λ b. (f b).machine.registers 11 in
    let asking : Asking = record {
      number = 24;
      x = first;
      y = second;
      z = λ b. (f b).machine.registers 12;
      first = λ b. word z;
      second = second;
      answer = λ call x0 x1 x2. X.compare_served call x1;
    } in
    let r1 = asks {g' = point_ground w q h} {t = λ j. 0} asking c f
    (record {
      small' = lit< tt;
      serves = λ call r. refl;
      answers = λ b m.
          let call = call_at code v m in
          ap (λ es. on_two_texts es
          (λ left right below. becoming call (with_entries below v) (word (X.order_number (text_order left right)))
          (second b))) o.entries;
      more = omega arith;
    })
    (record { reserved = λ b. refl; memory = λ b m is. texts_in (entries ++ e) is }) (front_of (service 24) rest l)
    (λ b. known_in h (there b).0 (refl, (refl, (refl, tt)))) in
    let r2 = straight (c + 2) (reached r1) (services_of q) (services_of q)
    (λ b. Known (point_ground w q h) (services_of q) numbers (λ j. 0) (paired (word z) 0) b)
    (front_of moves (compared_code comparison) l1) (omega arith) (λ b. (reached_holds r1 b).pc)
    (λ b. let k' = (reached_holds r1 b).holds in record {
      body = record {
        services = k'.body.services;
        registers = k'.body.registers;
        bytes = k'.body.bytes;
        memory = k'.body.memory;
      };
      regs = (
        same_sum _ (word z) k'.regs.0 (word_small z (order_wide order)),
        (small_is _ 0 (zero_is k'.body) (lit< tt), tt),
      );
    }) in
    let r3 = compared_reach k q numbers (c + 2 + 2) (index + 2 + 2) (reached r2) h comparison (word z) 0 met
    (numbers_compared comparison z (pos 0) (order_wide order) refl
    ∙ ap (λ u. flag (holds comparison u)) (order_is order))
    (back_of moves (compared_code comparison) l1) (reached_holds r2) in
    let whole = behind p numbers taken c index (service 24 ++ rest) in
    record {
      to = λ early. record {
        point = q;
        numbers = numbers;
        among = texts_among k.block (TextEntry t ∷ TextEntry s ∷ entries) entries o over';
        since = omega arith;
        line = refl;
        stays = λ i less. refl;
        state = refl;
        reach = reach_map _
            (reach_moved {c'' = whole.wanted} {i'' = whole.index} (omega (arith, e1, e2)) (omega (arith, e1, e2))
            (reach_then r1 (reach_then r2 r3)))
            (λ b y is. (in_known h o.image.parts is, is.holds.regs.0));
      };
    }

pub texts_compare :
    (entries : List Entry) (k : Setting) (comparison : Y.Comparison) (left right : Y.Text) (m n : ℕ) →
    TextDoes entries k m left → ((s : List ℕ) → TextDoes (TextEntry s ∷ entries) k n right) →
    BitDoes entries k (max m n) (Y.TextsCompared comparison left right)
unfolding V.bit
texts_compare entries k comparison left right m n el er =
    two_texts entries k (bit_aims entries k) (bit_leads entries k) m n
    (λ taken. text_code k.block.environment taken left) (λ taken. text_code k.block.environment taken right)
    (service 24 ++ (move u1 a0 ∷ small a0 0 ∷ compared_code comparison)) (V.text k.around left)
    (V.text k.around right) (λ s t. give (holds comparison (text_order s t))) el er
    (λ s t short short'. compared_last entries k comparison s t)
