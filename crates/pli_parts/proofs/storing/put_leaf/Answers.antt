use Rattle.std.proofs.Common.{◌<◌, ◌∙◌, ℕ, ap, arith, length, subst, sym}
use Rattle.pli_typing.specs.Signatures.{leaf_bytes}
use Rattle.pli_signatures.specs.View.{kind_of}
use Rattle.pli_aggregates.specs.Elements.{AreWithin}
use Rattle.pli_aggregates.specs.Runs.{standing}
use Rattle.pli_parts.specs.Putting.{elements_put}
use Rattle.pli_parts.proofs.Puts.{no_leaf_put, whole_bytes}
use Rattle.pli_parts.proofs.storing.put_leaf.Goals as goal

pub returns-then-value_bytes-eq0 : goal.returns-then-value_bytes-eq0
returns-then-value_bytes-eq0 c =
    no_leaf_put c.args.leaf.now c.args.taken.now c.args.memory.now (sym c.value_bytes.ensures
    ∙ c.if-value_bytes-eq0.true)

pub put_run-requires-clause-within : goal.put_run-requires-clause-within
put_run-requires-clause-within c =
    let l = c.args.leaf.now in
    let some : 0 < leaf_bytes (kind_of l.kind) = grind (arith, c.value_bytes.ensures, c.if-value_bytes-eq0.false) in
    subst (λ (n : ℕ). AreWithin (leaf_bytes (kind_of l.kind)) (length c.args.memory.now)
    (standing l.run.at l.run.step n)) (sym (c.requires.readable.counted some)) c.requires.readable.within

pub put_run-requires-clause-whole : goal.put_run-requires-clause-whole
put_run-requires-clause-whole c =
    let l = c.args.leaf.now in
    let some : 0 < leaf_bytes (kind_of l.kind) = grind (arith, c.value_bytes.ensures, c.if-value_bytes-eq0.false) in
    whole_bytes l c.args.taken.now some c.requires.whole

pub returns : goal.returns
returns c =
    let l = c.args.leaf.now in
    let t = c.args.taken.now in
    let some : 0 < leaf_bytes (kind_of l.kind) = grind (arith, c.value_bytes.ensures, c.if-value_bytes-eq0.false) in
    c.put_run.ensures
    ∙ ap (λ (n : ℕ). elements_put (kind_of l.kind) (kind_of t.kind) t.bytes.items 0 (standing l.run.at l.run.step n)
    c.args.memory.now) (c.requires.readable.counted some)
