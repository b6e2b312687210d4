-- SIGNAL of a condition for which no program has units: it is raised, which ends the run.
use Rattle.std.proofs.Common.{ℕ, ◌+◌, ◌^◌, ◌<◌, List, [], ◌∷◌, refl, arith, lit<}
use Rattle.pli_language.specs.declared.condition.Condition.{Condition}
use Rattle.pli_language.specs.declared.condition.Condition.TheVariants as C
use Rattle.rv_meaning.specs.declared.instr.Instr.{Instr}
use Rattle.pli_typing.specs.TypedTree as Y
use Rattle.pli_meaning.specs.Codes.{code_signalled}
use Rattle.pli_meaning.specs.World.{counted}
use Rattle.pli_meaning.specs.StorageState.{State}
use Rattle.pli_meaning.specs.Control.{Meaning, act, ◌>>◌}
use Rattle.pli_meaning.specs.Raising.{Around, at_line}
use Rattle.pli_meaning.specs.Executing as M
use Rattle.pli_serving.specs.ServiceState.{Services}
use Rattle.pli_coding.specs.Registers.{a1}
use Rattle.pli_coding.specs.Assembly.{RaiseError, JumpTo}
use Rattle.pli_coding.specs.Instructions.{small}
use Rattle.pli_coding.specs.Allocating.{act_code}
use Rattle.pli_coding.specs.Environments.{Environment}
use Rattle.pli_coding.specs.Statements.{signal_code, stmt_code}
use Rattle.pli_coding.specs.Linking.{Links}
use Rattle.pli_headline.specs.ProvedSoFar.{Names, Types}
use Rattle.run_steps.specs.Engine.{Base}
use Rattle.run_steps.specs.Items.{Linked, At}
use Rattle.run_steps.proofs.Items.{straight}
use Rattle.run_steps.specs.Bodies.{Ground, Known}
use Rattle.run_steps.proofs.Bodies.{zero_is}
use Rattle.run_steps.proofs.Jumps.{front_of, back_of, jump_piece}
use Rattle.run_steps.specs.Temporaries.{nothing}
use Rattle.pli_headline.proofs.Activations.{IsOther}
use Rattle.pli_headline.proofs.Serving.{Serving}
use Rattle.pli_headline.proofs.Raising.{Routines, coded, small_is, error_piece}
use Rattle.pli_headline.proofs.Acts.{act_piece}
use Rattle.pli_headline.proofs.Operators.{raised_piece}
use Rattle.pli_headline.proofs.Statements.{Block, Does}
use Rattle.run_steps.specs.Reach.{Family, Aims, Comes, Closed}
use Rattle.run_steps.proofs.Reach.{before_closed, comes_on, onward}

signal_piece : {links : Links} {code : List Instr} {i : ℕ} {g : Ground} {v : Services} {h t : ℕ → ℕ} {s : State} {aims : Aims (Unit {0})} (c : Condition) → IsOther c → (closed : Closed code aims) (routines : Routines links code) (f : Family) (around : Around) (k : ℕ) → Linked links code i (signal_code c) → Serving k s v around.line → ((b : Base) → At b i (Known g v h t nothing b) (f b)) → Comes code i f v aims (M.signalled around c k s)
unfolding M.signalled
signal_piece C.Area other closed routines f around k l serving at = absurd (cc other)
signal_piece C.FixedOverflow other closed routines f around k l serving at =
    raised_piece closed routines f around C.FixedOverflow 2 (code_signalled C.FixedOverflow) [] k refl refl (lit< tt) (lit< tt) l serving at
signal_piece C.ZeroDivide other closed routines f around k l serving at =
    raised_piece closed routines f around C.ZeroDivide 3 (code_signalled C.ZeroDivide) [] k refl refl (lit< tt) (lit< tt) l serving at
signal_piece C.Endfile other closed routines f around k l serving at = absurd (cc other)
signal_piece {i = i} {g = g} {v = v} {h = h} {t = t} C.Error other closed routines f around k l serving at =
    let n = code_signalled C.Error in
    let front = small a1 n ∷ [] in
    let last = JumpTo RaiseError ∷ [] in
    let inside = l.inside in
    let whole = routines.linked.inside in
    let near = routines.linked.small' in
    onward closed (straight i f v v (λ b. Known g v h t (coded n) b) (front_of front last l) (omega arith) (λ b. (at b).pc)
    (λ b. let o = (at b).holds in record {
      body = record { services = o.body.services; registers = o.body.registers; bytes = o.body.bytes; memory = o.body.memory };
      regs = (small_is _ n (zero_is o.body) (lit< tt), tt);
    }))
    (λ f1 at1.
    onward closed (jump_piece (i + 1) (i + 1 + 2) f1 RaiseError (routines.at + 8) (omega arith) routines.error (omega (arith, whole, near)) (record { reserved_stay = λ y u. refl; known_stay = λ b y u p. p; set = λ y u. refl }) (back_of front last l) at1)
    (λ f2 at2. error_piece closed routines (i + 1 + 2) f2 around n k (lit< tt) (omega (arith, inside, whole)) serving at2))

pub signal_does : {e : Environment} {block : Names} {types : Types} (bl : Block e block types) (links : Links) (code : List Instr) (routines : Routines links code) (around : Around) (c : Condition) (line : ℕ) → IsOther c → line < 2 ^ 31 → Does bl links code around.turns (stmt_code e bl.taken (Y.Signal c line)) (M.statement around (Y.Signal c line))
unfolding M.statement ◌>>◌
signal_does bl links code routines around c line other fits =
    record {
      does = λ {i} {s} {v} {h} {t} {aims} closed old n f k l serving all at goal more.
          let a = act_code line in
          let here = at_line around line in
          let next' : Unit {0} → Meaning (Unit {0}) = λ u. M.signalled here c in
          comes_on k (act counted k s) next'
          (act_piece (before_closed k next' closed) f line old k fits (front_of a (signal_code c) l) serving at
          (λ f1 serving1 at1. signal_piece c other closed routines f1 here k (back_of a (signal_code c) l) serving1 at1));
    }
