use Rattle.std.proofs.Common.{◌++◌, ◌∙◌, sym, ap, map, subst, arith, append_assoc}
use Rattle.pli_language.specs.View.{name_of, option_of}
use Rattle.pli_typing.specs.Resolving.{letters_of}
use Rattle.pli_typing.specs.TypedView.{bit_of, number_of, reference_of, stored_of, value_of}
use Rattle.pli_typing.specs.TypedStatementView.{block_head_of, counter_of, stmt_of, stmts_of}
use Rattle.pli_coding.specs.Assembly.{Code}
use Rattle.pli_coding.specs.Environments.{Environment, Owner, Taken, none_taken, owned_by}
use Rattle.pli_coding.specs.Statements.{block_words, marked, owner_of_unit, stmt_code, stmts_code}
use Rattle.pli_coding.specs.Statements.{held_with, unit_held, unit_words}
use Rattle.pli_frames.specs.TakenView.{taken_of}
use Rattle.rv_assembly.specs.Places.{IsPlace}
use Rattle.rv_address.specs.Around.{environment_of}
use Rattle.rv_statement.specs.Ahead.{jumped_if, turned_back}
use Rattle.rv_statement.specs.Pieces.{stepped}
use Rattle.rv_statement.specs.Turning.{TurnBegun}
use Rattle.rv_statement.proofs.Walks.{list-End, list-More}
use Rattle.rv_statement.proofs.Weights.{stmts_weight}
use Rattle.rv_statement.proofs.Wholes.{begin_whole, count_whole, else_comes, if_else_whole, if_whole, once_whole, unit_whole, while_whole}
use Rattle.rv_statement.proofs.statement.+walk.Goals as goal

pub if_code-returns : goal.if_code-returns
if_code-returns t c =
    let e = environment_of c.args.environment.now in
    let s = taken_of c.args.taken in
    if_whole c.args.code.now c.test_begun.new.code c.stmt_code.new.code c.jump_over.new.self (stmt_code e s (stmt_of c.args.unit.now)) c.in_ok-met.met e s (bit_of c.args.condition.now) c.args.line
    c.in_ok-met.ensures.place c.in_ok-stmt_code.ensures c.jump_over.ensures

pub if_else_code-jump_over-requires : goal.if_else_code-jump_over-requires
if_else_code-jump_over-requires t c =
    let e = environment_of c.args.environment.now in
    let s = taken_of c.args.taken in
    let other : Code = stmt_code e s (stmt_of c.args.other.now) in
    let end = else_comes c.stmt_code.new.code c.otherwise.new.code c.in_ok-met.met c.in_ok-end.end c.in_ok-end.ensures.kept c.in_ok-end.ensures.place in
    subst (λ u. IsPlace 2 u c.in_ok-end.end) (sym c.in_ok-stmt_code-2.ensures) (end.kept other)

pub if_else_code-returns : goal.if_else_code-returns
if_else_code-returns t c =
    let e = environment_of c.args.environment.now in
    let s = taken_of c.args.taken in
    if_else_whole c.args.code.now c.test_begun.new.code c.stmt_code.new.code c.otherwise.new.code c.stmt_code-2.new.code c.jump_over.new.self
    (stmt_code e s (stmt_of c.args.unit.now)) (stmt_code e s (stmt_of c.args.other.now)) c.in_ok-met.met c.in_ok-end.end e s (bit_of c.args.condition.now) c.args.line
    c.in_ok-met.ensures.place c.in_ok-stmt_code.ensures c.in_ok-end.ensures.kept c.in_ok-end.ensures.place c.in_ok-stmt_code-2.ensures c.jump_over.ensures

pub while_code-returns : goal.while_code-returns
while_code-returns t c =
    let e = environment_of c.args.environment.now in
    let s = taken_of c.args.taken in
    while_whole c.args.code.now c.while_begun.new.code c.stmts_code.new.code c.while_ended.new.code (stmts_code e s (stmts_of c.args.body.now)) c.in_ok-repeat.repeat e s (bit_of c.args.condition.now) c.args.line
    c.in_ok-repeat.ensures c.in_ok-stmts_code.ensures c.in_ok-while_ended.ensures

pub once_code-returns : goal.once_code-returns
once_code-returns t c =
    let e = environment_of c.args.environment.now in
    let s = taken_of c.args.taken in
    once_whole c.args.code.now c.once_begun.new.code c.stmts_code.new.code c.jump_over_if.new.code (stmts_code e s (stmts_of c.args.body.now)) c.in_ok-end.end e s
    (reference_of c.args.variable.now) (stored_of c.args.start.now) (option_of bit_of c.args.condition.now) c.args.line
    c.in_ok-end.ensures c.in_ok-stmts_code.ensures c.jump_over_if.ensures

pub count_code-returns : goal.count_code-returns
count_code-returns t c =
    let e = environment_of c.args.environment.now in
    let s = taken_of c.args.taken in
    count_whole c.args.code.now c.counting.new.code c.turn_begun.new.code c.stmts_code.new.code c.turn_ended.new.code _ c.in_ok-turn.turn e s
    (counter_of c.args.counter.now) (value_of c.args.start.now) (option_of number_of c.args.limit.now) (number_of c.args.step.now) (option_of bit_of c.args.condition.now) c.args.line
    c.in_ok-counting.ensures
    (subst (λ z. TurnBegun c.counting.new.code c.turn_begun.new.code c.in_ok-turn.turn e s
    (counter_of c.args.counter.now) (option_of number_of c.args.limit.now) z
    (option_of bit_of c.args.condition.now) c.args.line) c.constant_step-fixed.ensures c.in_ok-turn.ensures)
    (c.in_ok-stmts_code.ensures ∙ ap (λ k. c.turn_begun.new.code ++ stmts_code e k (stmts_of c.args.body.now)) c.in_ok-inside.ensures)
    (c.in_ok-turn_ended.ensures
    ∙ ap (λ z. jumped_if
    (jumped_if (turned_back (c.stmts_code.new.code ++ stepped e s (counter_of c.args.counter.now) z c.args.line)
    c.in_ok-turn.turn.start) c.in_ok-turn.turn.condition) c.in_ok-turn.turn.limit) c.constant_step-fixed.ensures)

pub begin_code-returns : goal.begin_code-returns
begin_code-returns t c =
    let e = environment_of c.args.environment.now in
    let head = block_head_of c.args.head in
    begin_whole c.args.code.now c.block_begun.new.code c.stmts_code.new.code c.block_ended.new.code
    (λ i s. stmts_code i s (stmts_of c.args.body.now)) e (environment_of c.in_frame-inside.result)
    (taken_of c.none_taken.result) none_taken head c.in_ok-own.own.words
    (block_words e c.args.head.number (stmts_of c.args.body.now))
    c.in_ok-block_begun.ensures c.in_ok-stmts_code.ensures c.in_ok-block_ended.ensures c.in_frame-inside.ensures
    c.none_taken.ensures (ap (λ (k : Taken). k.words) c.in_ok-own.ensures)

pub unit_code-returns : goal.unit_code-returns
unit_code-returns t c =
    let e = environment_of c.args.environment.now in
    let head = block_head_of c.args.head in
    let framed = environment_of c.in_frame.result in
    let around = c.owned_by-inside.ensures ∙ ap (λ (o : Owner). owned_by o framed) c.owner_of_unit.ensures ∙ ap (λ (i : Environment). owned_by (owner_of_unit head head.kind) i) c.in_frame.ensures in
    unit_whole c.args.code.now c.unit_announced.new.code c.unit_begun.new.code c.stmts_code.new.code
    c.unit_ended.new.code c.jump_over.new.self (λ i s. stmts_code i s (stmts_of c.args.body.now)) c.in_ok-end.end
    e (environment_of c.owned_by-inside.result) (taken_of c.none_taken.result) none_taken c.args.condition head
    c.in_ok-own.own.words (unit_words e head head.kind (stmts_of c.args.body.now)) c.in_ok-held.held
    (unit_held e head head.kind (stmts_of c.args.body.now)) c.args.line
    c.in_ok-end.ensures c.in_ok-unit_begun.ensures c.in_ok-stmts_code.ensures c.in_ok-unit_ended.ensures
    c.jump_over.ensures around c.none_taken.ensures (ap (λ (k : Taken). k.words) c.in_ok-own.ensures)
    (c.in_ok-held.ensures
    ∙ ap (λ (k : Taken). held_with e.program k.registers (stmts_of c.args.body.now)) c.in_ok-own.ensures)

pub stmts_code-returns-in-End : goal.stmts_code-returns-in-End
stmts_code-returns-in-End t c =
    let e = environment_of c.args.environment.now in
    let s = taken_of c.args.taken in
    let l = c.loop-rest in
    c.in_ok-marked-in-End.ensures
    ∙ ap (λ u. l.code ++ u) (sym (list-End e s c.in-End.labels) ∙ ap (λ x. stmts_code e s (stmts_of x)) (sym c.in-End.is))
    ∙ l.invariant.written

pub stmts_code-loop-rest-preserved : goal.stmts_code-loop-rest-preserved
stmts_code-loop-rest-preserved t c =
    let e = environment_of c.args.environment.now in
    let k = taken_of c.args.taken in
    let l = c.loop-rest in
    let s = c.deref.result.now in
    let r = c.deref-rest.result.now in
    let m : Code = marked e.block (letters_of (map name_of c.in-More.labels.now)) in
    let listed = ap (λ x. stmts_code e k (stmts_of x)) c.in-More.is ∙ list-More e k c.in-More.labels _ c.in-More.first.value _ c.in-More.behind.value ∙ ap (λ x. m ++ (stmt_code e k (stmt_of x) ++ stmts_code e k (stmts_of c.in-More.behind.value))) (sym c.deref.ensures) ∙ ap (λ x. m ++ (stmt_code e k (stmt_of s) ++ stmts_code e k (stmts_of x))) (sym c.deref-rest.ensures) in
    record {
      no_larger = omega (arith, l.invariant.no_larger, ap stmts_weight c.in-More.is, ap stmts_weight c.deref-rest.ensures);
      written = ap (λ u. u ++ stmts_code e k (stmts_of r)) (c.in_ok-stmt_code-in-More.ensures ∙ ap (λ u. u ++ stmt_code e k (stmt_of s)) c.in_ok-marked-in-More.ensures) ∙ append_assoc (l.code ++ m) (stmt_code e k (stmt_of s)) (stmts_code e k (stmts_of r)) ∙ append_assoc l.code m (stmt_code e k (stmt_of s) ++ stmts_code e k (stmts_of r)) ∙ ap (λ u. l.code ++ u) (sym listed) ∙ l.invariant.written;
    }
