-- DO WHILE. Each turn begins with an act, which gives credits anew; so the turns that the meaning allows are enough for the acts.
use Rattle.std.proofs.Common.{◌≡◌, ℕ, zero, suc, ◌+◌, ◌*◌, ◌^◌, ◌<◌, ◌≤◌, List, [], ◌∷◌, ◌++◌, Bool, refl, sym, ap, ◌∙◌, subst, arith}
use Rattle.std.specs.Prelude.{pos, ◌-ℤ◌}
use Rattle.std.proofs.lemmas.Int.{ints}
use Rattle.rv_meaning.specs.declared.instr.Instr.{Instr}
use Rattle.rv_meaning.specs.Words.{word}
use Rattle.pli_typing.specs.TypedTree as Y
use Rattle.pli_meaning.specs.World.{counted}
use Rattle.pli_meaning.specs.StorageState.{State, with_world}
use Rattle.pli_meaning.specs.Control.{Meaning, act, give, stuck, choose, repeated_while, ◌>>=◌, ◌>>◌}
use Rattle.pli_meaning.specs.Raising.{Around, at_line}
use Rattle.pli_meaning.specs.Evaluating as V
use Rattle.pli_meaning.specs.Executing as M
use Rattle.pli_serving.specs.ServiceState.{Services}
use Rattle.pli_coding.specs.Registers.{zero_register, far_register}
use Rattle.pli_coding.specs.Assembly.{JumpBack, Code, size_of}
use Rattle.pli_coding.specs.Allocating.{act_code}
use Rattle.pli_coding.specs.Environments.{Environment, Taken}
use Rattle.pli_coding.specs.Expressions.{bit_code}
use Rattle.pli_coding.specs.Statements.{if_met, while_met, stmt_code, stmts_code}
use Rattle.pli_coding.specs.Linking.{Links, distance, jump_code}
use Rattle.temporary_bounds.specs.WordBounds.{bit_words}
use Rattle.temporary_bounds.specs.Spare.{spare}
use Rattle.pli_headline.specs.ProvedSoFar.{Names, Types, IsProvedBit}
use Rattle.pli_headline.proofs.Storages.{storage}
use Rattle.run_steps.specs.Engine.{Base, HasAt, address}
use Rattle.run_steps.proofs.Linking.{size_append}
use Rattle.run_steps.specs.Items.{Linked, At}
use Rattle.run_steps.specs.Bodies.{Ground, Known, Free}
use Rattle.run_steps.proofs.Bodies.{lose_known}
use Rattle.run_steps.proofs.Jumps.{front_of, back_of, linked_at, jumped}
use Rattle.run_steps.specs.Temporaries.{nothing}
use Rattle.run_steps.proofs.Temporaries.{stays_same, stays_then}
use Rattle.pli_headline.proofs.Serving.{Serving}
use Rattle.pli_headline.proofs.Acts.{acted, act_piece, act_from}
use Rattle.pli_headline.proofs.Expressions.{bit_does}
use Rattle.pli_headline.proofs.Statements.{Standing, Block, AllHold, counted_all, Behind, Enough, further, Does}
use Rattle.pli_headline.proofs.Ifs.{met_size, free_far, chosen_piece, setting}
use Rattle.pli_headline.proofs.Since.{since_closed, comes_since}
use Rattle.run_steps.specs.Reach.{Family, Reach, cost, Aims, Comes, Closed}
use Rattle.run_steps.proofs.Reach.{before_closed, comes_on, onward}
use Rattle.pli_headline.proofs.Scalars.{Values}

-- ---- the way back

distance_back : (i j words : ℕ) → j + words ≡ i → distance (4 * words) 0 ≡ distance (4 * i) (4 * j)
distance_back i j words e =
    let z : pos 0 -ℤ pos (4 * words) ≡ pos (4 * j) -ℤ pos (4 * i) = omega (arith, ints, e) in
    ap word z

-- to so many words before it
pub back_piece : {links : Links} {code : List Instr} {i : ℕ} {g : Ground} {v : Services} {h t : ℕ → ℕ} {rs : Base → List (ℕ × ℕ)} (c : ℕ) (f : Family) (words j : ℕ) → j + words ≡ i → Free rs 31 → Linked links code i (JumpBack words ∷ []) → ((b : Base) → At b i (Known g v h t rs b) (f b)) → Reach code c f v (c + 2) v (λ b w. At b j (Known g v h t rs b) w)
back_piece {code = code} {i = i} c f words j e free l at =
    let has = subst (λ n. HasAt code i (jump_code zero_register far_register n)) (distance_back i j words e) l.has.0 in
    record {
      count = 2;
      paid = omega arith;
      grows = omega arith;
      goes = λ b. record {
        after = _;
        ran = jumped code b i j zero_register far_register (f b) (let n = l.inside in omega (arith, n)) l.small' (let n = l.inside in let s = l.small' in omega (arith, n, s, e)) (at b).pc has (λ x u. refl);
        holds = record { pc = refl; holds = lose_known (f b) 31 _ _ free (at b).holds };
      };
    }

-- ---- the turns

abbrev pub test_code : Environment → Taken → (line : ℕ) → Y.Bit → Code
test_code e taken line condition = act_code line ++ bit_code e taken condition

-- from the beginning of a turn, with credits enough for its act
turns_piece : {e : Environment} {block : Names} {types : Types} (bl : Block e block types) {links : Links}
    {code : List Instr} (routines : Standing bl links code) (around : Around) (condition : Y.Bit) (body : Code)
    (line : ℕ) (part : Meaning (Unit {0})) → IsProvedBit block types condition
    → bl.taken.words + bit_words condition ≤ bl.words + spare bl.taken → line < 2 ^ 31
    → Does bl links code around.turns body part → (turns : ℕ) {i : ℕ} {s : State} {v : Services} {h t : ℕ → ℕ}
    {aims : Aims (Unit {0})} (closed : Closed code aims) (credits old : ℕ) (n : Values) (f : Family) (k : ℕ)
    → k < turns + v.world.acts → credits + size_of (act_code line) ≤ cost code
    → Linked links code i (while_met (test_code e bl.taken line condition) body) → Serving k s v old
    → AllHold bl.frames bl.serials (storage v) (e.level ∷ bl.depths) s block types n
    → ((b : Base) → At b i (Known (bl.ground n) v h t nothing b) (f b))
    → Behind bl k h t (i + size_of (while_met (test_code e bl.taken line condition) body)) aims
    → Enough bl links k around.turns i h t v.world.acts aims.jumped aims.returned
    → Comes code credits f v aims (repeated_while turns (M.met_after_act (at_line around line) condition) part k s)
unfolding repeated_while M.met_after_act ◌>>=◌ ◌>>◌ give stuck
turns_piece bl routines around condition body line part is room fits inner zero closed credits old n f k enough paid l serving all at goal more =
    absurd (let a = serving.allowed in omega (arith, a, enough))
turns_piece {e} {block} {types} bl {links} {code} routines around condition body line part is room fits inner (suc turns) {i} {s} {v} {h} {t} {aims} closed credits old n f k enough paid l serving all at goal more =
    let a = act_code line in
    let bit' = bit_code e bl.taken condition in
    let test = a ++ bit' in
    let jump = JumpBack (size_of test + (3 + size_of body)) ∷ [] in
    let c = body ++ jump in
    let e1 = size_append test (if_met c) in
    let e2 = met_size c in
    let e3 = size_append body jump in
    let e4 = size_append a bit' in
    let lt = front_of test (if_met c) l in
    let lb = back_of a bit' lt in
    let j = i + size_of a + size_of bit' in
    let there : i + size_of test ≡ j = omega (arith, e4) in
    let lc = linked_at j (if_met c) there (back_of test (if_met c) l) in
    let end' = i + size_of (test ++ if_met c) in
    let place : j + (3 + size_of c) ≡ end' = omega (arith, e1, e2, e4) in
    let inside = l.inside in
    let here = at_line around line in
    let again : Meaning (Unit {0}) = repeated_while turns (M.met_after_act here condition) part in
    let branch : Bool → Meaning (Unit {0}) = λ met. choose met (part >> again) (give tt) in
    let tested : Unit {0} → Meaning Bool = λ u. V.bit here condition in
    let w = bl.words_are n in
    comes_on k (M.met_after_act here condition k s) branch
    (comes_on k (act counted k s) tested
    (act_from (before_closed k tested (before_closed k branch closed)) credits f line old k fits paid (front_of a bit' lt) serving at
    (λ f1 serving1 at1.
    let s1 = with_world (counted s.world) s in
    let all1 : AllHold bl.frames bl.serials (storage v) (e.level ∷ bl.depths) s1 block types n = counted_all _ all in
    (bit_does condition {e = e} {around = here} (setting bl routines n all1 serving1) is).does (before_closed k branch closed) f1 bl.taken (omega (arith, room, w)) lb at1
    (λ met f2 h2 t2 one stays at2.
    chosen_piece met closed f2 c (part >> again) (give tt) lc at2
    (λ f3 l3 at3.
    let goes : Unit {0} → Meaning (Unit {0}) = λ u. again in
    let acts1 = (acted line v).world.acts in
    comes_on k (part k s1) goes
    (comes_since (part k s1)
    (inner.does (since_closed acts1 (before_closed k goes closed)) line n f3 k (front_of body jump l3) serving1 all1 at3
    (λ s4 v4 line4 n4 h4 t4 f4 serving4 all4 stays4 at4 grown.
    let p = j + 3 + size_of body in
    onward closed (back_piece p f4 (size_of test + (3 + size_of body)) i (omega (arith, e4)) free_far (back_of body jump l3) at4)
    (λ f5 at5.
    turns_piece bl routines around condition body line part is room fits inner turns closed (p + 2) line4 n4 f5 k (omega (arith, enough, grown)) (omega (arith, inside, e1, e2, e3, e4)) l serving4 all4 at5 (λ s5 v5 line5 n5 h5 t5 f6 serving5 all5 stays5 at6. goal s5 v5 line5 n5 h5 t5 f6 serving5 all5 (stays_then stays (stays_then stays4 stays5)) at6)
    (further more (omega arith) (omega (arith, grown)) (stays_then stays stays4)))) (further more (omega arith) (omega arith) stays))))
    (λ f3 at3.
    record {
      to = λ early.
          subst (λ u. aims.done u f3 (acted line v) tt s1) (sym place)
          (goal s1 (acted line v) line n h2 t2 f3 serving1 all1 stays (λ b. record { pc = (at3 b).pc ∙ ap (address b) place; holds = (at3 b).holds }));
    })))))

pub while_does : {e : Environment} {block : Names} {types : Types} (bl : Block e block types) (links : Links)
    (code : List Instr) (routines : Standing bl links code) (around : Around) (condition : Y.Bit) (body : Y.Stmts)
    (line : ℕ) → IsProvedBit block types condition → bl.taken.words + bit_words condition ≤ bl.words + spare bl.taken
    → line < 2 ^ 31 → Does bl links code around.turns (stmts_code e bl.taken body) (M.list around body)
    → Does bl links code around.turns (stmt_code e bl.taken (Y.DoWhile condition body line))
    (M.statement around (Y.DoWhile condition body line))
unfolding M.statement M.list ◌>>◌
while_does {e} {block} {types} bl links code routines around condition body line is room fits inner =
    record {
      does = λ {i} {s} {v} {h} {t} {aims} closed old n f k l serving all at goal more.
          let a = act_code line in
          let c = stmts_code e bl.taken body in
          let loop = while_met (test_code e bl.taken line condition) c in
          let size = size_append a loop in
          let place : i + size_of a + size_of loop ≡ i + size_of (a ++ loop) = omega (arith, size) in
          let part = M.list_with around (M.labels_in body) (M.statements around body) in
          let next' : Unit {0} → Meaning (Unit {0}) = λ u. repeated_while around.turns (M.met_after_act (at_line around line) condition) part in
          let inside = l.inside in
          comes_on k (act counted k s) next'
          (act_piece (before_closed k next' closed) f line old k fits (front_of a loop l) serving at
          (λ f1 serving1 at1.
          turns_piece bl routines around condition c line part is room fits inner around.turns closed (i + size_of a) line n f1 k (let u = more.enough in omega (arith, u)) (omega (arith, inside, size)) (back_of a loop l) serving1 (counted_all _ all) at1
          (λ s4 v4 line4 n4 h4 t4 f4 serving4 all4 stays4 at4.
          subst (λ u. aims.done u f4 v4 tt s4) (sym place)
          (goal s4 v4 line4 n4 h4 t4 f4 serving4 all4 stays4 (λ b. record { pc = (at4 b).pc ∙ ap (address b) place; holds = (at4 b).holds }))) (further more (omega arith) (omega arith) (stays_same bl.taken h t))));
    }
