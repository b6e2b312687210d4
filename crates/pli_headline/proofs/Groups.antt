-- DO groups: lists of statements with labels of their own.
use Rattle.std.proofs.Common.{◌≡◌, ℕ, ◌+◌, ◌^◌, ◌<◌, List, ◌++◌, sym, ap, ◌∙◌, subst, arith}
use Rattle.rv_meaning.specs.declared.instr.Instr.{Instr}
use Rattle.pli_typing.specs.TypedTree as Y
use Rattle.pli_meaning.specs.World.{counted}
use Rattle.pli_meaning.specs.Control.{Meaning, act, ◌>>◌}
use Rattle.pli_meaning.specs.Raising.{Around}
use Rattle.pli_meaning.specs.Executing as M
use Rattle.pli_coding.specs.Assembly.{size_of}
use Rattle.pli_coding.specs.Allocating.{act_code}
use Rattle.pli_coding.specs.Environments.{Environment}
use Rattle.pli_coding.specs.Statements.{stmt_code, stmts_code}
use Rattle.pli_coding.specs.Linking.{Links}
use Rattle.pli_headline.specs.ProvedSoFar.{Names, Types}
use Rattle.run_steps.specs.Engine.{address}
use Rattle.run_steps.proofs.Linking.{size_append}
use Rattle.run_steps.proofs.Jumps.{front_of, back_of}
use Rattle.pli_headline.proofs.Acts.{act_piece}
use Rattle.run_steps.proofs.Temporaries.{stays_same}
use Rattle.pli_headline.proofs.Statements.{Block, counted_all, further, Does}
use Rattle.run_steps.proofs.Reach.{before_closed, comes_on}

pub do_does : {e : Environment} {block : Names} {types : Types} (bl : Block e block types) (links : Links) (code : List Instr) (around : Around) (body : Y.Stmts) (line : ℕ) → line < 2 ^ 31 → Does bl links code around.turns (stmts_code e bl.taken body) (M.list around body) → Does bl links code around.turns (stmt_code e bl.taken (Y.Do body line)) (M.statement around (Y.Do body line))
unfolding M.statement M.list ◌>>◌
do_does {e} {block} {types} bl links code around body line fits inner =
    record {
      does = λ {i} {s} {v} {h} {t} {aims} closed old n f k l serving all at goal more.
          let a = act_code line in
          let c = stmts_code e bl.taken body in
          let size = size_append a c in
          let place : i + size_of a + size_of c ≡ i + size_of (a ++ c) = omega (arith, size) in
          let list' = M.list_with around (M.labels_in body) (M.statements around body) in
          let next' : Unit {0} → Meaning (Unit {0}) = λ u. list' in
          comes_on k (act counted k s) next'
          (act_piece (before_closed k next' closed) f line old k fits (front_of a c l) serving at
          (λ f1 serving1 at1.
          inner.does closed line n f1 k (back_of a c l) serving1 (counted_all _ all) at1
          (λ s4 v4 line4 n4 h4 t4 f4 serving4 all4 stays4 at4.
          subst (λ u. aims.done u f4 v4 tt s4) (sym place)
          (goal s4 v4 line4 n4 h4 t4 f4 serving4 all4 stays4 (λ b. record { pc = (at4 b).pc ∙ ap (address b) place; holds = (at4 b).holds }))) (further more (omega arith) (omega arith) (stays_same bl.taken h t))));
    }
