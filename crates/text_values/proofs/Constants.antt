-- Text constants: their bytes stand where code looks for them, and service 20 pushes them.
use Rattle.std.proofs.Common.{◌≡◌, ℕ, ◌+◌, ◌^◌, ◌<◌, List, [], ◌∷◌, ◌++◌, length, Some, None, true, refl, ap}
use Rattle.std.proofs.Common.{◌∙◌, arith, lit<}
use Rattle.std.specs.Prelude.{cond, pos, ◌&&◌}
use Rattle.std.proofs.lemmas.Bool.{le-leb}
use Rattle.rv_meaning.specs.declared.instr.Instr.{Instr}
use Rattle.rv_meaning.specs.Machine.{memory_size}
use Rattle.pli_typing.specs.Signatures.{Character}
use Rattle.pli_typing.specs.TypedTree as Y
use Rattle.pli_meaning.specs.Control.{give}
use Rattle.pli_meaning.specs.Evaluating as M
use Rattle.pli_serving.specs.Answers.{Done}
use Rattle.pli_serving.specs.Bytes.{bytes_at}
use Rattle.pli_serving.specs.Outcomes.{bad_unless, or_bad, pushed}
use Rattle.pli_serving.specs.ServiceState.{Entry, Services, TextEntry}
use Rattle.pli_serving.specs.TextServices as X
use Rattle.pli_coding.specs.Assembly.{ConstantBytes, DataPlace, OffsetOf, size_of}
use Rattle.pli_coding.specs.Expressions.{constant_pushed}
use Rattle.pli_coding.specs.Instructions.{number, service, small}
use Rattle.pli_coding.specs.Linking.{place_of}
use Rattle.pli_coding.specs.Registers.{a0, a1, a2}
use Rattle.activation_relation.specs.Layers.{services_of}
use Rattle.run_steps.specs.Bodies.{Known}
use Rattle.run_steps.proofs.Bodies.{constant_piece, zero_is}
use Rattle.run_steps.specs.DataNamed.{BytesStand}
use Rattle.run_steps.specs.Engine.{call_at}
use Rattle.run_steps.proofs.Items.{straight}
use Rattle.run_steps.proofs.Jumps.{back_of, front_of}
use Rattle.run_steps.proofs.Linking.{size_append}
use Rattle.run_steps.specs.Reach.{reached}
use Rattle.run_steps.proofs.Reach.{reach_map, reach_then, reached_holds}
use Rattle.run_steps.proofs.Reaching.{reach_moved}
use Rattle.run_steps.specs.Temporaries.{nothing}
use Rattle.block_runs.proofs.BlockEntries.{small_is, word_fits, word_is}
use Rattle.block_runs.proofs.PointGrounds.{in_known, known_in, point_frame, point_ground}
use Rattle.pli_headline.proofs.EditConstants.{bytes_there}
use Rattle.pli_headline.proofs.FormatsRead.{is_data_there}
use Rattle.program_runs.proofs.Constants.{bytes_stand}
use Rattle.program_runs.specs.Statements.{waiting, with_texts}
use Rattle.program_runs.proofs.Waiting.{over_first, over_more, texts_among, texts_in}
use Rattle.expression_runs.specs.Values.{Setting}
use Rattle.expression_runs.proofs.Words.{valued}
use Rattle.text_runs.specs.Laws.{TextDoes}
use Rattle.text_runs.specs.Texts.{IsShort}
use Rattle.text_runs.proofs.TextCalls.{Asking, three}
use Rattle.text_values.specs.Variables.{KnowsText}
use Rattle.text_values.proofs.Asking.{asks_there}
use Rattle.text_values.proofs.Known.{constant_waits}

-- what service 20 answers about bytes that stand
push_answer :
    (code : List Instr) (v : Services) (m : List ℕ) (at : ℕ) (bytes : List ℕ) → IsShort bytes →
    length m ≡ memory_size → BytesStand code m at bytes →
    X.push_served (call_at code v m) at (length bytes) 0 ≡ Done (pushed (TextEntry bytes) v) m at (length bytes)
push_answer code v m at bytes short size stands =
    let c = call_at code v m in
    let n = length bytes in
    let inside = stands.inside in
    ap (λ u. or_bad (cond u (Some (Character n)) None) (X.text_pushed c at n)) (le-leb n 1024 short)
    ∙ ap (λ u. bad_unless (u && true) (Done (pushed (TextEntry (bytes_at n at m)) v) m at n))
    (is_data_there c.layout at n stands.behind_code (omega (arith, inside)))
    ∙ ap (λ u. Done (pushed (TextEntry u) v) m at n) (bytes_there code m at bytes size stands)

pub constant_pushes :
    (entries : List Entry) (k : Setting) (bytes : List ℕ) → IsShort bytes → KnowsText k.block bytes →
    TextDoes entries k 0 (Y.TextConstant bytes)
unfolding M.text give
constant_pushes entries k bytes short knows p numbers taken c index f o line registers l paid there =
    let w = k.block.call.surroundings in
    let code = k.block.call.code in
    let at = place_of w.links (DataPlace (ConstantBytes bytes)) in
    let n = length bytes in
    let few : n < 2 ^ 31 = omega (arith, short) in
    let v = services_of p in
    let h = point_frame o.stands o.image in
    let e = k.block.first.control.entries in
    let q = with_texts (TextEntry bytes ∷ (entries ++ e)) p in
    let first = OffsetOf a0 (DataPlace (ConstantBytes bytes)) ∷ [] in
    let second = number a1 n in
    let third = small a2 0 ∷ [] in
    let last = service 20 in
    let l1 = back_of first (second ++ (third ++ last)) l in
    let l2 = back_of second (third ++ last) l1 in
    let e1 = size_append second (third ++ last) in
    let inside = knows.inside in
    let here = constant_waits k.block entries bytes knows in
    let ground = point_ground w p h in
    let r1 = straight c f v v (λ b. Known ground v numbers (λ j. 0) (valued at) b)
    (front_of first (second ++ (third ++ last)) l) (omega arith)
    (λ b. (known_in {t = λ j. 0} {rs = nothing} h (there b) tt).pc)
    (λ b. let k' = (known_in {t = λ j. 0} {rs = nothing} h (there b) tt).holds in (
      omega (arith, inside),
      refl,
      record {
        body = record {
          services = k'.body.services;
          registers = k'.body.registers;
          bytes = k'.body.bytes;
          memory = k'.body.memory;
        };
        regs = (refl, tt);
      },
    )) in
    let r2 = constant_piece (c + 2) (reached r1) a1 (pos n) (word_fits n few)
    (record { reserved_stay = λ z u. refl; known_stay = λ b z u k'. k'; set = λ z u. refl })
    (front_of second (third ++ last) l1) (reached_holds r1) in
    let r3 = straight (c + 2 + size_of second) (reached r2) v v
    (λ b. Known ground v numbers (λ j. 0) (three (λ b'. at) (λ b'. n) (λ b'. 0)) b) (front_of third last l2)
    (omega arith) (λ b. (reached_holds r2 b).pc)
    (λ b. let k' = (reached_holds r2 b).holds in record {
      body = record {
        services = k'.body.services;
        registers = k'.body.registers;
        bytes = k'.body.bytes;
        memory = k'.body.memory;
      };
      regs = (k'.regs.1.0, (k'.regs.0 ∙ word_is n few, (small_is _ 0 (zero_is k'.body) (lit< tt), tt)));
    }) in
    let asking : Asking = record {
      number = 20;
      x = λ b. at;
      y = λ b. n;
      z = λ b. 0;
      first = λ b. at;
      second = λ b. n;
      answer = λ call x0 x1 x2. X.push_served call x0 x1 x2;
    } in
    let r4 = asks_there {g' = point_ground w q h} asking (λ m. m) (c + 2 + size_of second + 1) (reached r3)
    (record {
      small' = lit< tt;
      serves = λ call r. refl;
      answers = λ b m size stands.
          push_answer code v m at bytes short size
          (bytes_stand (waiting entries k.block) numbers p m at bytes o stands.storage here)
          ∙ ap (λ es. Done (services_of (with_texts (TextEntry bytes ∷ es) p)) m at n) o.entries;
      more = omega arith;
      reserved = λ b. refl;
      changed = λ b m size stands. (size, texts_in (TextEntry bytes ∷ (entries ++ e)) stands);
    })
    (back_of third last l2) (reached_holds r3) in
    record {
      to = λ early. record {
        short = short;
        point = q;
        numbers = numbers;
        among = texts_among k.block entries (TextEntry bytes ∷ entries) o
            (over_more (TextEntry bytes ∷ []) (entries ++ e) k.block.first.control.edits k.block.first.control.layers
            (over_first k.block entries o));
        since = omega arith;
        line = refl;
        stays = λ i less. refl;
        state = refl;
        reach = reach_map _
            (reach_moved {c'' = c + size_of (constant_pushed bytes)} {i'' = index + size_of (constant_pushed bytes)}
            (omega (arith, e1)) (omega (arith, e1)) (reach_then r1 (reach_then r2 (reach_then r3 r4))))
            (λ b y is. in_known h o.image.parts is);
      };
    }
