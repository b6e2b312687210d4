-- PUT with SKIP: lines end before the fields are written.
use Rattle.std.proofs.Common.{◌≡◌, ℕ, suc, ◌+◌, ◌^◌, ◌<◌, ◌≤◌, List, [], ◌∷◌, ◌++◌, Some, true, refl, ap, ◌∙◌, sym, subst, arith, lit<, add-one}
use Rattle.std.specs.Prelude.{pos, nat_le}
use Rattle.std.proofs.lemmas.Bool.Decides.{nat_tests}
use Rattle.std.proofs.lemmas.Int.{ints}
use Rattle.rv_meaning.specs.declared.instr.Instr.{Instr}
use Rattle.rv_meaning.specs.declared.instr.Instr.TheVariants as I
use Rattle.rv_meaning.specs.Words.{word}
use Rattle.pli_language.specs.Formats.{is_times}
use Rattle.pli_typing.specs.TypedTree as Y
use Rattle.pli_meaning.specs.World.{World, counted, written}
use Rattle.pli_meaning.specs.StorageState.{State, with_world}
use Rattle.pli_meaning.specs.Control.{Meaning, act, ◌>>◌}
use Rattle.pli_meaning.specs.Raising.{Around, at_line}
use Rattle.pli_meaning.specs.Streaming as P
use Rattle.pli_meaning.specs.Streaming.{SkipItem, control_written}
use Rattle.pli_meaning.specs.Executing as M
use Rattle.pli_serving.specs.ServiceState.{Services}
use Rattle.pli_serving.specs.Answers as N
use Rattle.pli_serving.specs.Answers.{Done, acting}
use Rattle.pli_serving.specs.Outcomes.{bad_unless}
use Rattle.pli_serving.specs.Edits as U
use Rattle.pli_coding.specs.Registers.{a0, a1, a7}
use Rattle.pli_coding.specs.Assembly.{Plain, size_of}
use Rattle.pli_coding.specs.Instructions.{small, number}
use Rattle.pli_coding.specs.Allocating.{act_code}
use Rattle.pli_coding.specs.Environments.{Environment}
use Rattle.pli_coding.specs.Streams.{skip_option, put_pairs}
use Rattle.pli_coding.specs.Statements.{stmt_code}
use Rattle.pli_coding.specs.Linking.{Links}
use Rattle.temporary_bounds.specs.WordBounds.{put_words}
use Rattle.temporary_bounds.specs.Spare.{spare}
use Rattle.pli_headline.specs.ProvedSoFar.{Names, Types, AreProvedPairs}
use Rattle.run_steps.specs.Engine.{Base, address, call_at}
use Rattle.run_steps.proofs.Linking.{size_append}
use Rattle.run_steps.specs.Items.{Linked, At}
use Rattle.run_steps.proofs.Items.{straight}
use Rattle.run_steps.specs.Bodies.{Ground, Known}
use Rattle.run_steps.proofs.Bodies.{zero_is, constant_piece}
use Rattle.run_steps.proofs.Jumps.{front_of, back_of}
use Rattle.run_steps.specs.Temporaries.{nothing}
use Rattle.run_steps.specs.Calls.{Calling}
use Rattle.run_steps.proofs.Calls.{comes_act, called, call_acts, call_pauses, acts}
use Rattle.pli_headline.proofs.Serving.{Serving}
use Rattle.pli_headline.proofs.Raising.{small_is, with_act}
use Rattle.pli_headline.proofs.Acts.{word_is, act_piece}
use Rattle.pli_headline.proofs.Statements.{Standing, Block, counted_all, Does}
use Rattle.pli_headline.proofs.Putting.{pairs_piece}
use Rattle.run_steps.specs.Reach.{Family, Aims, Comes, Closed, cost, reached}
use Rattle.run_steps.proofs.Reach.{before_closed, comes_on, onward, reached_holds}

abbrev pub skipped_world : ℕ → World → World
skipped_world n w = written (control_written (SkipItem n)) w

abbrev pub skipped_by : ℕ → Services → Services
skipped_by n v = N.with_world (skipped_world n v.world) v

pub times_met : (n : ℕ) → 1 ≤ n → n ≤ 1000 → is_times n ≡ true
times_met n h i =
    let e : nat_le 1 n ≡ true = grind (arith, nat_tests) in
    let f : nat_le n 1000 ≡ true = grind (arith, nat_tests) in
    rw (e, f) refl

skip_answer : (code : List Instr) (v : Services) (m : List ℕ) (n k : ℕ) → 1 ≤ n → n ≤ 1000 → v.world.acts ≤ k → k + 1 < 2 ^ 64 → U.skip_served (call_at code v m) n 1 ≡ Done (skipped_by n v) m n 1
skip_answer code v m n k h i below fits =
    ap (λ t. bad_unless t (acting v (Done (skipped_by n v) m n 1))) (times_met n h i) ∙ acts v k (Done (skipped_by n v) m n 1) below fits

pub few_fit : (n : ℕ) → n ≤ 1000 → word (pos n) < 2 ^ 32
few_fit n h = omega (arith, ints)

-- the act that ends lines
skip_piece : {links : Links} {code : List Instr} {i : ℕ} {g : Ground} {v : Services} {h t : ℕ → ℕ} {s : State} {line : ℕ} {aims : Aims (Unit {0})} (closed : Closed code aims) (f : Family) (n k : ℕ) → 1 ≤ n → n ≤ 1000 → Linked links code i (skip_option 1 (Some n)) → Serving k s v line → ((b : Base) → At b i (Known g v h t nothing b) (f b)) → ((f' : Family) → Serving k (with_world (skipped_world n s.world) s) (skipped_by n v) line → ((b : Base) → At b (i + size_of (skip_option 1 (Some n))) (Known g (skipped_by n v) h t nothing b) (f' b)) → aims.done (i + size_of (skip_option 1 (Some n))) f' (skipped_by n v) tt (with_world (skipped_world n s.world) s)) → Comes code i f v aims (P.control_put (SkipItem n) k s)
unfolding P.control_put
skip_piece {code = code} {i = i} {g = g} {v = v} {h = h} {t = t} {s = s} closed f n k least most l serving at goal =
    let first = number a0 n in
    let second = small a1 1 ∷ small a7 39 ∷ [] in
    let last = Plain I.Ecall ∷ [] in
    let v' = skipped_by n v in
    let l2 = back_of first (second ++ last) l in
    let r1 = constant_piece i f a0 (pos n) (few_fit n most) (record { reserved_stay = λ y u. refl; known_stay = λ b y u q. q; set = λ y u. refl }) (front_of first (second ++ last) l) at in
    onward closed r1 (λ f1 at1.
    let r2 = straight (i + size_of first) f1 v v (λ b. Known g v h t (λ b'. (10, n) ∷ (11, 1) ∷ (17, 39) ∷ []) b) (front_of second last l2) (omega arith) (λ b. (at1 b).pc)
    (λ b. let o = (at1 b).holds in let z = zero_is o.body in record {
      body = record { services = o.body.services; registers = o.body.registers; bytes = o.body.bytes; memory = o.body.memory };
      regs = (o.regs.0 ∙ word_is n (omega (arith, most)), (small_is _ 1 z (lit< tt), (small_is _ 39 z (lit< tt), tt)));
    }) in
    onward closed r2 (λ f2 at2.
    let l3 = back_of second last l2 in
    let e = size_append first (second ++ last) in
    let calling : Calling _ code (i + size_of first + 2) f2 (λ b. Done v' (f2 b).machine.memory n 1) = record {
      linked = l3;
      pc = λ b. (at2 b).pc;
      answers = λ b.
          let o = (at2 b).holds in
          called code (f2 b) v 39 n 1 _ _ _ (λ call x0 x1 x2 x3 x4. U.skip_served call x0 x1) o.body.services o.regs.1.1.0 o.regs.0 o.regs.1.0 refl refl refl (λ call x. refl)
          ∙ skip_answer code v (f2 b).machine.memory n k least most serving.allowed serving.fits;
    } in
    let few : i + size_of first + 2 < cost code = let u = l3.inside in omega (arith, u) in
    let more : v'.world.acts ≡ suc v.world.acts = add-one v.world.acts in
    let pauses = call_pauses (i + size_of first + 2) f2 v v' (λ b. (f2 b).machine.memory) (λ b. n) (λ b. 1) few serving.running (λ b. (at2 b).holds.body.services) more calling in
    let r3 = call_acts (i + size_of first + 2) (i + size_of (skip_option 1 (Some n))) f2 v v' (λ b. (f2 b).machine.memory) (λ b. n) (λ b. 1) (λ b. Known g v' h t nothing b) few more calling
    (λ b. let o = (at2 b).holds.body in record { body = record { services = refl; registers = o.registers; bytes = o.bytes; memory = o.memory }; regs = tt }) in
    let place : i + size_of first + 2 + 1 ≡ i + size_of (skip_option 1 (Some n)) = omega (arith, e) in
    comes_act (skipped_world n) k s serving.world pauses
    (λ below.
    closed.done r3 tt _
    (goal (reached r3) (with_act (skipped_world n) (λ w. refl) (λ w. refl) serving below)
    (λ b. record { pc = (reached_holds r3 b).pc ∙ ap (address b) place; holds = (reached_holds r3 b).holds })))))

pub put_skip_does : {e : Environment} {block : Names} {types : Types} (bl : Block e block types) (links : Links)
    (code : List Instr) (routines : Standing bl links code) (around : Around) (n : ℕ) (pairs : List Y.PutPair)
    (line : ℕ) → 1 ≤ n → n ≤ 1000 → AreProvedPairs block types pairs → line < 2 ^ 31
    → bl.taken.words + put_words pairs ≤ bl.words + spare bl.taken
    → Does bl links code around.turns (stmt_code e bl.taken (Y.Put (Some n) pairs line))
    (M.statement around (Y.Put (Some n) pairs line))
unfolding M.statement P.put ◌>>◌
put_skip_does {e} {block} {types} bl links code routines around n pairs line least most is fits room =
    record {
      does = λ {i} {s} {v} {h} {t} {aims} closed old numbers f k l serving all at goal more.
          let front = act_code line in
          let skip = skip_option 1 (Some n) in
          let rest = put_pairs e bl.taken pairs in
          let here = at_line around line in
          let shown : Unit {0} → Meaning (Unit {0}) = λ u. P.pairs_put here pairs in
          let next' : Unit {0} → Meaning (Unit {0}) = λ u. (P.control_put (SkipItem n)) >> (P.pairs_put here pairs) in
          let e1 = size_append front (skip ++ rest) in
          let e2 = size_append skip rest in
          let place : i + size_of front + size_of skip + size_of rest ≡ i + size_of (front ++ (skip ++ rest)) = omega (arith, e1, e2) in
          let l1 = back_of front (skip ++ rest) l in
          comes_on k (act counted k s) next'
          (act_piece (before_closed k next' closed) f line old k fits (front_of front (skip ++ rest) l) serving at
          (λ f1 serving1 at1.
          let s1 = with_world (counted s.world) s in
          comes_on k (P.control_put (SkipItem n) k s1) shown
          (skip_piece (before_closed k shown closed) f1 n k least most (front_of skip rest l1) serving1 at1
          (λ f2 serving2 at2.
          pairs_piece bl pairs closed routines f2 here numbers k is room (back_of skip rest l1) serving2 (counted_all _ (counted_all (counted s.world) all)) at2
          (λ s3 v3 line3 n3 h3 t3 f3 serving3 all3 stays3 at3.
          subst (λ u. aims.done u f3 v3 tt s3) (sym place)
          (goal s3 v3 line3 n3 h3 t3 f3 serving3 all3 stays3 (λ b. record { pc = (at3 b).pc ∙ ap (address b) place; holds = (at3 b).holds })))))));
    }
