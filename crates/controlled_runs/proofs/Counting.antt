-- The run of ALLOCATION: service 19.
use Rattle.std.proofs.Common.{◌≡◌, ℕ, ◌+◌, ◌*◌, ◌^◌, ◌<◌, ◌≤◌, length, List, [], ◌∷◌, ◌++◌, Option, Some, true, refl}
use Rattle.std.proofs.Common.{sym, ap, ◌∙◌, subst, arith}
use Rattle.std.proofs.lemmas.Bool.{lt-ltb}
use Rattle.std.proofs.lemmas.Bool.Decides.{nat_tests}
use Rattle.std.specs.Prelude.{pos}
use Rattle.rv_meaning.specs.declared.instr.Instr.TheVariants as I
use Rattle.pli_meaning.specs.Control.{give, looked, ◌>>=◌}
use Rattle.pli_meaning.specs.Evaluating as V
use Rattle.pli_meaning.specs.StorageState.{heap_capacity}
use Rattle.pli_serving.specs.Answers.{Done}
use Rattle.pli_serving.specs.ControlledServices as K
use Rattle.pli_coding.specs.Assembly.{Plain, size_of}
use Rattle.pli_coding.specs.Expressions.{number_code}
use Rattle.pli_coding.specs.Instructions.{number, small}
use Rattle.pli_coding.specs.Registers.{a0, a7}
use Rattle.storage_relation.specs.Controlled.{Variable, offsets_at}
use Rattle.storage_relation.proofs.Controlled.{count_answer}
use Rattle.storage_relation.proofs.Stacks.{heap_ordered}
use Rattle.activation_relation.specs.Layers.{now, services_of}
use Rattle.run_steps.specs.Bodies.{Known}
use Rattle.run_steps.proofs.Bodies.{constant_piece, zero_is}
use Rattle.run_steps.specs.Calls.{Calling}
use Rattle.run_steps.proofs.Calls.{call_done, called}
use Rattle.run_steps.specs.Engine.{Base}
use Rattle.run_steps.specs.Numbers.{IsWide}
use Rattle.run_steps.proofs.Items.{straight}
use Rattle.run_steps.proofs.Jumps.{back_of, front_of}
use Rattle.run_steps.proofs.Linking.{size_append}
use Rattle.run_steps.proofs.Reach.{reach_map, reach_then, reached_holds}
use Rattle.run_steps.specs.Reach.{reached}
use Rattle.run_steps.proofs.Reaching.{reach_moved}
use Rattle.run_steps.specs.Temporaries.{nothing}
use Rattle.block_runs.proofs.BlockEntries.{small_is, word_fits, word_is}
use Rattle.block_runs.proofs.PointGrounds.{call_is, in_known, known_in, point_frame, point_ground}
use Rattle.expression_runs.specs.Values.{Setting}
use Rattle.expression_runs.specs.Variables.{Spot}
use Rattle.expression_runs.proofs.Words.{valued}
use Rattle.controlled_runs.specs.Counting.{EvaluatesListed, counted}
use Rattle.controlled_runs.specs.Lists.{IsListed, listed, number_of}
use Rattle.controlled_runs.proofs.Counts.{live_below, once_few}
use Rattle.controlled_runs.proofs.ListedPoints.{lists_in}

first_base : Base
first_base = record { at = 0; valid = (refl, omega arith) }

count_wide : (n : ℕ) → n < 2 ^ 31 → IsWide (pos n)
count_wide n h = grind (arith, nat_tests)

pub allocations_do :
    (of : ℕ → Option Variable) (k : Setting) (x : Spot) → IsListed of k.block x →
    EvaluatesListed of k 0 (λ taken. number_code k.block.environment taken (counted x)) (V.number k.around (counted x))
unfolding V.number looked give ◌>>=◌
allocations_do of k x is p numbers taken c i f o lists line registers l paid there =
    let w = k.block.call.surroundings in
    let code = k.block.call.code in
    let n = number_of k.block x in
    let few = is.few in
    let h = point_frame o.stands o.image in
    let v = services_of p in
    let num = number a0 n in
    let two = small a7 19 ∷ [] in
    let last = Plain I.Ecall ∷ [] in
    let n0 = size_append num (small a7 19 ∷ last) in
    let l1 = back_of num (small a7 19 ∷ last) l in
    let as' = lists.each n (listed x) is.named in
    let many = length (offsets_at p.state (listed x)) in
    let ordered = heap_ordered (now p (f first_base).machine.memory) (there first_base).at.storage in
    let most = once_few (heap_capacity + 1) _ (lists.once n (listed x) is.named)
    (live_below p.places p.state heap_capacity (p.control.controlled n) ordered as'.live) in
    let same = ap (λ (os : List ℕ). length os) as'.offsets in
    let small' : many < 2 ^ 31 = omega (arith, most, same) in
    let r1 = constant_piece {rs = nothing} c f a0 (pos n) (word_fits n (omega (arith, few)))
    (record { reserved_stay = λ y u. refl; known_stay = λ b y u s. s; set = λ y u. refl })
    (front_of num (small a7 19 ∷ last) l)
    (λ b. known_in {t = λ j. 0} {rs = nothing} h (there b) tt) in
    let r2 = straight (c + size_of num) (reached r1) v v
    (λ b y. Known (point_ground w p h) v numbers (λ j. 0) (λ b'. (17, 19) ∷ (10, n) ∷ []) b y) (front_of two last l1)
    (omega arith) (λ b. (reached_holds r1 b).pc)
    (λ b. let s = (reached_holds r1 b).holds in record {
      body = record {
        services = s.body.services;
        registers = s.body.registers;
        bytes = s.body.bytes;
        memory = s.body.memory;
      };
      regs = (small_is _ 19 (zero_is s.body) (omega arith), (s.regs.0 ∙ word_is n (omega (arith, few)), tt));
    }) in
    let g = reached r2 in
    let calling : Calling w.links code (i + size_of num + 1) g
    (λ b. Done v (g b).machine.memory many ((g b).machine.registers 11)) =
    record {
      linked = back_of two last l1;
      pc = λ b. (reached_holds r2 b).pc;
      answers = λ b.
          let t = (reached_holds r2 b).holds in
          let y = (g b).machine.registers in
          let m = (g b).machine.memory in
          called code (g b) v 19 n (y 11) (y 12) (y 13) (y 14) (λ call' x0 x1 x2 x3 x4. K.count_served call' x0 x1)
          t.body.services t.regs.0 t.regs.1.0 refl refl refl refl (λ call' u. refl)
          ∙ ap (λ call'. K.count_served call' n (y 11)) (call_is w code p m o.image)
          ∙ count_answer (now p m) (listed x) n (y 11) ((lists_in p m lists).each n (listed x) is.named)
          (lt-ltb n (2 ^ 16) few);
    } in
    let r3 = call_done (c + size_of num + 1) g v v (λ b. (g b).machine.memory) (λ b. many)
    (λ b. (g b).machine.registers 11)
    (λ b y. Known (point_ground w p h) v numbers (λ j. 0) (valued many) b y) (omega arith) calling
    (λ b. let t = (reached_holds r2 b).holds in record {
      body = record {
        services = refl;
        registers = t.body.registers;
        bytes = t.body.bytes;
        memory = t.body.memory;
      };
      regs = (refl, tt);
    }) in
    let all = reach_moved {c'' = c + size_of (number_code k.block.environment (record {
      registers = taken;
      words = k.words;
    }) (counted x))}
    {i'' = i + size_of (number_code k.block.environment (record { registers = taken; words = k.words }) (counted x))}
    (omega (arith, n0)) (omega (arith, n0)) (reach_then r1 (reach_then r2 r3)) in
    record {
      to = λ early. (
        count_wide many small',
        record {
          word = record {
            point = p;
            numbers = numbers;
            among = o;
            since = omega arith;
            line = refl;
            stays = λ j less. refl;
            state = refl;
            reach = reach_map _ all
                (λ b y q. (in_known h o.image.parts q, q.holds.regs.0 ∙ sym (word_is many small')));
          };
          lists = lists;
        },
      );
    }
