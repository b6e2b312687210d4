-- The line of a statement is set without an act.
use Rattle.std.proofs.Common.{◌≡◌, ℕ, ◌+◌, ◌^◌, ◌<◌, List, [], ◌∷◌, ◌++◌, refl, sym, ap, ◌∙◌, subst, arith, lit<}
use Rattle.std.specs.Prelude.{pos}
use Rattle.std.proofs.lemmas.Int.{ints}
use Rattle.rv_meaning.specs.declared.instr.Instr.{Instr}
use Rattle.rv_meaning.specs.declared.instr.Instr.TheVariants as I
use Rattle.rv_meaning.specs.Words.{word}
use Rattle.pli_meaning.specs.StorageState.{State}
use Rattle.pli_meaning.specs.Control.{Flow}
use Rattle.pli_serving.specs.ServiceState.{Services}
use Rattle.pli_serving.specs.Answers.{Done}
use Rattle.pli_serving.specs.ActsAndEnds as W
use Rattle.pli_coding.specs.Registers.{a0, a1, a7}
use Rattle.pli_coding.specs.Assembly.{Plain, Code, size_of}
use Rattle.pli_coding.specs.Instructions.{small, number, service}
use Rattle.pli_coding.specs.Environments.{Environment}
use Rattle.pli_coding.specs.Linking.{Links}
use Rattle.pli_headline.specs.ProvedSoFar.{Names, Types}
use Rattle.run_steps.specs.Engine.{Base, address}
use Rattle.run_steps.proofs.Linking.{size_append}
use Rattle.run_steps.specs.Items.{Linked, At}
use Rattle.run_steps.proofs.Items.{straight}
use Rattle.pli_headline.proofs.Scalars.{Values}
use Rattle.run_steps.specs.Bodies.{Known}
use Rattle.run_steps.proofs.Bodies.{zero_is, constant_piece}
use Rattle.run_steps.proofs.Jumps.{front_of, back_of}
use Rattle.run_steps.specs.Temporaries.{nothing}
use Rattle.run_steps.specs.Calls.{Calling}
use Rattle.run_steps.proofs.Calls.{called, call_done}
use Rattle.pli_headline.proofs.Serving.{Serving}
use Rattle.pli_headline.proofs.Raising.{small_is}
use Rattle.pli_headline.proofs.Acts.{word_is}
use Rattle.pli_headline.proofs.Statements.{Block}
use Rattle.run_steps.specs.Reach.{Family, Aims, Comes, Closed}
use Rattle.run_steps.proofs.Reach.{onward}

-- the code that sets a line without an act
abbrev pub line_code : ℕ → Code
line_code line = number a0 line ++ (small a1 1 ∷ service 1)

abbrev pub on_line : ℕ → Services → Services
on_line line v = record v { line = line }

line_small : (line : ℕ) → line < 2 ^ 31 → word (pos line) < 2 ^ 32
line_small line h = omega (arith, ints)

pub line_piece : {links : Links} {code : List Instr} {i : ℕ} {v : Services} {h t : ℕ → ℕ} {s : State} {aims : Aims (Unit {0})} {e : Environment} {block : Names} {types : Types} (bl : Block e block types) (n : Values) (closed : Closed code aims) (f : Family) (flow : Flow (Unit {0})) (line old k : ℕ) → line < 2 ^ 31 → Linked links code i (line_code line) → Serving k s v old → ((b : Base) → At b i (Known (bl.ground n) v h t nothing b) (f b)) → ((f' : Family) → Serving k s (on_line line v) line → ((b : Base) → At b (i + size_of (line_code line)) (Known (bl.ground n) (on_line line v) h t nothing b) (f' b)) → Comes code (i + size_of (line_code line)) f' (on_line line v) aims flow) → Comes code i f v aims flow
line_piece {code = code} {i = i} {v = v} {h = h} {t = t} {aims = aims} bl n closed f flow line old k fits l serving at next' =
    let g = bl.ground n in
    let first = number a0 line in
    let second = small a1 1 ∷ small a7 1 ∷ [] in
    let last = Plain I.Ecall ∷ [] in
    let v' = on_line line v in
    let l2 = back_of first (second ++ last) l in
    let e = size_append first (second ++ last) in
    let there : i + size_of first + 2 + 1 ≡ i + size_of (line_code line) = omega (arith, e) in
    onward closed (constant_piece i f a0 (pos line) (line_small line fits) (record { reserved_stay = λ y u. refl; known_stay = λ b y u q. q; set = λ y u. refl }) (front_of first (second ++ last) l) at)
    (λ f1 at1.
    onward closed (straight (i + size_of first) f1 v v (λ b. Known g v h t (λ b'. (10, line) ∷ (11, 1) ∷ (17, 1) ∷ []) b) (front_of second last l2) (omega arith) (λ b. (at1 b).pc)
    (λ b. let o = (at1 b).holds in let z = zero_is o.body in record {
      body = record { services = o.body.services; registers = o.body.registers; bytes = o.body.bytes; memory = o.body.memory };
      regs = (o.regs.0 ∙ word_is line fits, (small_is _ 1 z (lit< tt), (small_is _ 1 z (lit< tt), tt)));
    }))
    (λ f2 at2.
    let calling : Calling _ code (i + size_of first + 2) f2 (λ b. Done v' (f2 b).machine.memory line 1) = record {
      linked = back_of second last l2;
      pc = λ b. (at2 b).pc;
      answers = λ b.
          let o = (at2 b).holds in
          called code (f2 b) v 1 line 1 _ _ _ (λ call x0 x1 x2 x3 x4. W.act_served call x0 x1) o.body.services o.regs.1.1.0 o.regs.0 o.regs.1.0 refl refl refl (λ call x. refl);
    } in
    onward closed (call_done (i + size_of first + 2) f2 v v' (λ b. (f2 b).machine.memory) (λ b. line) (λ b. 1) (λ b. Known g v' h t nothing b) (omega arith) calling
    (λ b. let o = (at2 b).holds.body in record { body = record { services = refl; registers = o.registers; bytes = o.bytes; memory = o.memory }; regs = tt }))
    (λ f3 at3.
    subst (λ u. Comes code u f3 v' aims flow) (sym there)
    (next' f3
    (record {
      world = serving.world;
      running = serving.running;
      line_is = refl;
      input = serving.input;
      allowed = serving.allowed;
      fits = serving.fits;
      nested = serving.nested;
      waiting = serving.waiting;
      places = serving.places;
    })
    (λ b. record { pc = (at3 b).pc ∙ ap (address b) there; holds = (at3 b).holds })))))
