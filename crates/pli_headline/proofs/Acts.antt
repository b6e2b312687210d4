-- The act of a statement, which sets its line.
use Rattle.std.proofs.Common.{◌≡◌, ℕ, suc, ◌+◌, ◌^◌, ◌<◌, ◌≤◌, List, [], ◌∷◌, ◌++◌, refl, ap, ◌∙◌, arith, lit<, add-one}
use Rattle.std.specs.Prelude.{pos}
use Rattle.std.proofs.lemmas.Int.{ints}
use Rattle.rv_meaning.specs.declared.instr.Instr.{Instr}
use Rattle.rv_meaning.specs.declared.instr.Instr.TheVariants as I
use Rattle.rv_meaning.specs.Words.{word}
use Rattle.pli_meaning.specs.World.{World, counted}
use Rattle.pli_meaning.specs.StorageState.{State, with_world}
use Rattle.pli_meaning.specs.Control.{act}
use Rattle.pli_serving.specs.ServiceState.{Services}
use Rattle.pli_serving.specs.Answers.{Done}
use Rattle.pli_serving.specs.ActsAndEnds as W
use Rattle.pli_coding.specs.Registers.{a0, a1, a7}
use Rattle.pli_coding.specs.Assembly.{Plain, size_of}
use Rattle.pli_coding.specs.Instructions.{small, number}
use Rattle.pli_coding.specs.Allocating.{act_code}
use Rattle.pli_coding.specs.Linking.{Links}
use Rattle.run_steps.specs.Engine.{Base, address}
use Rattle.run_steps.proofs.Linking.{size_append}
use Rattle.run_steps.specs.Items.{Linked, At}
use Rattle.run_steps.proofs.Items.{straight}
use Rattle.run_steps.specs.Bodies.{Ground, Known}
use Rattle.run_steps.proofs.Bodies.{zero_is, constant_piece}
use Rattle.run_steps.proofs.Jumps.{front_of, back_of}
use Rattle.run_steps.specs.Temporaries.{nothing}
use Rattle.run_steps.specs.Calls.{Calling}
use Rattle.run_steps.proofs.Calls.{comes_act, called, call_acts, call_pauses, acts}
use Rattle.pli_headline.proofs.Serving.{Serving}
use Rattle.pli_headline.proofs.Raising.{small_is}
use Rattle.run_steps.specs.Reach.{Family, Aims, Comes, Closed, cost, reached}
use Rattle.run_steps.proofs.Reach.{onward, reached_holds}

-- the services behind the act of a statement
abbrev pub acted : ℕ → Services → Services
acted line v = record v { world = counted v.world; line = line }

pub word_is : (n : ℕ) → n < 2 ^ 31 → word (pos n) ≡ n
word_is n h = omega (arith, ints)

pub word_fits : (n : ℕ) → n < 2 ^ 31 → word (pos n) < 2 ^ 32
word_fits n h = omega (arith, ints)

-- an act is made, with its line from then on; it needs credits for its own code alone, and leaves any number of them
pub act_to : {links : Links} {code : List Instr} {i : ℕ} {g : Ground} {v : Services} {h t : ℕ → ℕ} {s : State} {aims : Aims (Unit {0})} (closed : Closed code aims) (credits after : ℕ) (f : Family) (line old k : ℕ) → line < 2 ^ 31 → credits + size_of (act_code line) ≤ cost code → Linked links code i (act_code line) → Serving k s v old → ((b : Base) → At b i (Known g v h t nothing b) (f b)) → ((f' : Family) → Serving k (with_world (counted s.world) s) (acted line v) line → ((b : Base) → At b (i + size_of (act_code line)) (Known g (acted line v) h t nothing b) (f' b)) → aims.done after f' (acted line v) tt (with_world (counted s.world) s)) → Comes code credits f v aims (act counted k s)
act_to {code = code} {i = i} {g = g} {v = v} {h = h} {t = t} {s = s} closed credits after f line old k fits paid l serving at goal =
    let first = number a0 line in
    let second = small a1 0 ∷ small a7 1 ∷ [] in
    let last = Plain I.Ecall ∷ [] in
    let v' = acted line v in
    let l2 = back_of first (second ++ last) l in
    let r1 = constant_piece credits f a0 (pos line) (word_fits line fits) (record { reserved_stay = λ y u. refl; known_stay = λ b y u q. q; set = λ y u. refl }) (front_of first (second ++ last) l) at in
    onward closed r1 (λ f1 at1.
    let r2 = straight (credits + size_of first) f1 v v (λ b. Known g v h t (λ b'. (10, line) ∷ (11, 0) ∷ (17, 1) ∷ []) b) (front_of second last l2) (omega arith) (λ b. (at1 b).pc)
    (λ b. let o = (at1 b).holds in let z = zero_is o.body in record {
      body = record { services = o.body.services; registers = o.body.registers; bytes = o.body.bytes; memory = o.body.memory };
      regs = (o.regs.0 ∙ word_is line fits, (small_is _ 0 z (lit< tt), (small_is _ 1 z (lit< tt), tt)));
    }) in
    onward closed r2 (λ f2 at2.
    let l3 = back_of second last l2 in
    let calling : Calling _ code (i + size_of first + 2) f2 (λ b. Done v' (f2 b).machine.memory line 0) = record {
      linked = l3;
      pc = λ b. (at2 b).pc;
      answers = λ b.
          let o = (at2 b).holds in
          called code (f2 b) v 1 line 0 _ _ _ (λ call x0 x1 x2 x3 x4. W.act_served call x0 x1) o.body.services o.regs.1.1.0 o.regs.0 o.regs.1.0 refl refl refl (λ call x. refl)
          ∙ acts v k _ serving.allowed serving.fits;
    } in
    let e = size_append first (second ++ last) in
    let few : credits + size_of first + 2 < cost code = omega (arith, paid, e) in
    let more : v'.world.acts ≡ suc v.world.acts = add-one v.world.acts in
    let pauses = call_pauses (credits + size_of first + 2) f2 v v' (λ b. (f2 b).machine.memory) (λ b. line) (λ b. 0) few serving.running (λ b. (at2 b).holds.body.services) more calling in
    let r3 = call_acts (credits + size_of first + 2) after f2 v v' (λ b. (f2 b).machine.memory) (λ b. line) (λ b. 0) (λ b. Known g v' h t nothing b) few more calling
    (λ b. let o = (at2 b).holds.body in record { body = record { services = refl; registers = o.registers; bytes = o.bytes; memory = o.memory }; regs = tt }) in
    let n : i + size_of first + 2 + 1 ≡ i + size_of (act_code line) = omega (arith, e) in
    comes_act counted k s serving.world pauses
    (λ below.
    let a = ap (λ (w : World). w.acts) serving.world in
    closed.done r3 tt _
    (goal (reached r3)
    (record {
      world = ap counted serving.world;
      running = serving.running;
      line_is = refl;
      input = serving.input;
      allowed = omega (arith, a, below);
      fits = serving.fits;
      nested = serving.nested;
      waiting = serving.waiting;
      places = serving.places;
    })
    (λ b. record { pc = (reached_holds r3 b).pc ∙ ap (address b) n; holds = (reached_holds r3 b).holds })))))

-- the same with the credits of the place behind it
pub act_from : {links : Links} {code : List Instr} {i : ℕ} {g : Ground} {v : Services} {h t : ℕ → ℕ} {s : State} {aims : Aims (Unit {0})} (closed : Closed code aims) (credits : ℕ) (f : Family) (line old k : ℕ) → line < 2 ^ 31 → credits + size_of (act_code line) ≤ cost code → Linked links code i (act_code line) → Serving k s v old → ((b : Base) → At b i (Known g v h t nothing b) (f b)) → ((f' : Family) → Serving k (with_world (counted s.world) s) (acted line v) line → ((b : Base) → At b (i + size_of (act_code line)) (Known g (acted line v) h t nothing b) (f' b)) → aims.done (i + size_of (act_code line)) f' (acted line v) tt (with_world (counted s.world) s)) → Comes code credits f v aims (act counted k s)
act_from {i = i} closed credits f line old k fits paid l serving at goal =
    act_to closed credits (i + size_of (act_code line)) f line old k fits paid l serving at goal

-- the same with the place's credits
pub act_piece : {links : Links} {code : List Instr} {i : ℕ} {g : Ground} {v : Services} {h t : ℕ → ℕ} {s : State} {aims : Aims (Unit {0})} (closed : Closed code aims) (f : Family) (line old k : ℕ) → line < 2 ^ 31 → Linked links code i (act_code line) → Serving k s v old → ((b : Base) → At b i (Known g v h t nothing b) (f b)) → ((f' : Family) → Serving k (with_world (counted s.world) s) (acted line v) line → ((b : Base) → At b (i + size_of (act_code line)) (Known g (acted line v) h t nothing b) (f' b)) → aims.done (i + size_of (act_code line)) f' (acted line v) tt (with_world (counted s.world) s)) → Comes code i f v aims (act counted k s)
act_piece {i = i} closed f line old k fits l serving at goal =
    act_from closed i f line old k fits (let n = l.inside in omega (arith, n)) l serving at goal
