use Rattle.std.proofs.Common.{◌≡◌, ℕ, List, ◌∷◌, ◌++◌, ◌∙◌, ◌<◌, map, length, sym, ap, subst, append_assoc, arith}
use Rattle.std.specs.Prelude.{slice_set, IfOk}
use Rattle.pli_typing.specs.TypedStatementView.{allocation_of, block_head_of, freeing_of, stmt_of, stmts_of}
use Rattle.pli_frames.specs.declared.body.BlockWords.{BlockWords as BlockWordsHeld}
use Rattle.pli_frames.specs.Blocks.{BlockWords, block_words_of, blocks_among, blocks_in}
use Rattle.pli_coding.specs.Environments.{Taken, most_taken}
use Rattle.pli_coding.specs.Allocating.{allocations_take, freeings_take}
use Rattle.pli_coding.specs.Statements.{stmt_takes, stmts_take}
use Rattle.pli_frames.specs.TakenView.{taken_of}
use Rattle.pli_frames.proofs.Bodies.{block_room, block_whole, list_blocks-More, list_takes-More, takes-Allocate}
use Rattle.pli_frames.proofs.Bodies.{takes-Call, takes-Do, takes-Free}
use Rattle.pli_frames.proofs.Most.{one_more}
use Rattle.pli_frames.proofs.Weights.{stmts_weight}
use Rattle.pli_frames.proofs.body.+walk.Goals as goal

pub block-index_mut-requires : goal.block-index_mut-requires
block-index_mut-requires t c =
    let now = c.statements.new.blocks in
    let room = block_room c.args.blocks.now.items c.push.new.self.items now.items _
    (blocks_among (stmts_of c.args.body.now)) c.in_ok-push.ensures.items c.in_ok-taken.ensures.blocks in
    subst (λ n. c.len-place.result < n) (sym now.ok.0) (subst (λ n. n < length now.items) (sym (c.len-place.ensures ∙ c.args.blocks.now.ok.0)) room)

pub block-returns : goal.block-returns
block-returns t c =
    let old = c.args.blocks.now.items in
    let now = c.statements.new.blocks.items in
    let inner = blocks_among (stmts_of c.args.body.now) in
    let behind : ℕ → List BlockWords = λ n. record { head = block_head_of c.args.head; words = n } ∷ inner in
    let filled : BlockWordsHeld = record { head = c.args.head; words = c.in_ok-taken.taken.words } in
    ap (λ n. map block_words_of (slice_set now n filled)) (c.len-place.ensures ∙ c.args.blocks.now.ok.0)
    ∙ block_whole old c.push.new.self.items now _ filled inner c.in_ok-push.ensures.items c.in_ok-taken.ensures.blocks
    ∙ ap (λ (k : Taken). map block_words_of old ++ behind k.words)
    (c.in_ok-taken.ensures.taken ∙ ap (λ k. stmts_take k (stmts_of c.args.body.now)) c.none_taken.ensures)

pub statements-loop-rest-preserved : goal.statements-loop-rest-preserved
statements-loop-rest-preserved t c =
    let l = c.loop-rest in
    let s = c.deref.result.now in
    let r = c.deref-rest.result.now in
    let done = map block_words_of l.blocks.items in
    let k = taken_of c.args.taken in
    let m = taken_of l.most in
    let takes = ap (λ x. stmts_take k (stmts_of x)) c.in-More.is
    ∙ list_takes-More k _ _ c.in-More.first.value _ c.in-More.behind.value
    ∙ ap (λ x. most_taken (stmt_takes k (stmt_of x)) (stmts_take k (stmts_of c.in-More.behind.value)))
    (sym c.deref.ensures)
    ∙ ap (λ x. most_taken (stmt_takes k (stmt_of s)) (stmts_take k (stmts_of x))) (sym c.deref-rest.ensures) in
    let blocks = ap (λ x. blocks_among (stmts_of x)) c.in-More.is ∙ list_blocks-More _ _ c.in-More.first.value _ c.in-More.behind.value ∙ ap (λ x. blocks_in (stmt_of x) ++ blocks_among (stmts_of c.in-More.behind.value)) (sym c.deref.ensures) ∙ ap (λ x. blocks_in (stmt_of s) ++ blocks_among (stmts_of x)) (sym c.deref-rest.ensures) in
    record {
      no_larger = omega (arith, l.invariant.no_larger, ap stmts_weight c.in-More.is, ap stmts_weight c.deref-rest.ensures);
      taken = ap (λ n. most_taken n (stmts_take k (stmts_of r)))
          (c.most-most.ensures ∙ ap (λ n. most_taken m n) c.in_ok-statement.ensures.taken)
          ∙ one_more m (stmt_takes k (stmt_of s)) (stmts_take k (stmts_of r))
          ∙ ap (λ n. most_taken m n) (sym takes)
          ∙ l.invariant.taken;
      blocks = ap (λ u. u ++ blocks_among (stmts_of r)) c.in_ok-statement.ensures.blocks ∙ append_assoc done (blocks_in (stmt_of s)) (blocks_among (stmts_of r)) ∙ ap (λ u. done ++ u) (sym blocks) ∙ l.invariant.blocks;
    }

pub statement-returns-in-Do-clause-taken : goal.statement-returns-in-Do-clause-taken
statement-returns-in-Do-clause-taken t c =
    let k = taken_of c.args.taken in
    subst (λ z. IfOk c.statements.result (λ r. taken_of r ≡ z))
    (sym (ap (λ x. stmt_takes k (stmt_of x)) c.in-Do.is ∙ takes-Do k c.in-Do.body c.in-Do.line))
    c.statements.ensures.taken

pub statement-returns-in-Call-clause-taken : goal.statement-returns-in-Call-clause-taken
statement-returns-in-Call-clause-taken t c =
    let k = taken_of c.args.taken in
    subst (λ z. IfOk c.call_takes.result (λ r. taken_of r ≡ z))
    (sym (ap (λ x. stmt_takes k (stmt_of x)) c.in-Call.is ∙ takes-Call k c.in-Call.call c.in-Call.line))
    c.call_takes.ensures

pub statement-returns-in-Allocate-clause-taken : goal.statement-returns-in-Allocate-clause-taken
statement-returns-in-Allocate-clause-taken t c =
    let k = taken_of c.args.taken in
    let all = c.in-Allocate.allocations in
    subst (λ z. IfOk c.allocations_take.result (λ r. taken_of r ≡ z))
    (ap (λ xs. allocations_take k (map allocation_of xs)) c.deref-in-Allocate.ensures.value
    ∙ sym (ap (λ x. stmt_takes k (stmt_of x)) c.in-Allocate.is ∙ takes-Allocate k all c.in-Allocate.line))
    c.allocations_take.ensures

pub statement-returns-in-Free-clause-taken : goal.statement-returns-in-Free-clause-taken
statement-returns-in-Free-clause-taken t c =
    let k = taken_of c.args.taken in
    subst (λ z. IfOk c.freeings_take.result (λ r. taken_of r ≡ z))
    (ap (λ xs. freeings_take k (map freeing_of xs)) c.deref-in-Free.ensures.value
    ∙ sym (ap (λ x. stmt_takes k (stmt_of x)) c.in-Free.is ∙ takes-Free k c.in-Free.freeings c.in-Free.line))
    c.freeings_take.ensures
