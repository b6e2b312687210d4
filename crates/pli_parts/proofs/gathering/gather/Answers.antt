use Rattle.std.proofs.Common.{◌<◌, ◌∙◌, List, ℕ, arith, subst, sym}
use Rattle.pli_typing.specs.Signatures.{leaf_bytes}
use Rattle.pli_signatures.specs.View.{kind_of}
use Rattle.pli_parts.specs.Buffers.{IsGathered}
use Rattle.pli_parts.proofs.Elements.{nothing_gathered}
use Rattle.pli_parts.proofs.gathering.gather.Goals as goal

pub returns-then-value_bytes-eq0-clause-gathered : goal.returns-then-value_bytes-eq0-clause-gathered
returns-then-value_bytes-eq0-clause-gathered c = λ n counts.
    let kind = kind_of c.args.kind in
    subst (λ (xs : List ℕ). IsGathered kind c.args.memory.now c.args.run n xs) (sym c.new.ensures.items)
    (nothing_gathered kind c.args.memory.now c.args.run n (sym c.value_bytes.ensures ∙ c.if-value_bytes-eq0.true))

pub gather_run-requires : goal.gather_run-requires
gather_run-requires c =
    let some : 0 < leaf_bytes (kind_of c.args.kind) =
    grind (arith, c.value_bytes.ensures, c.if-value_bytes-eq0.false) in
    c.requires some

pub returns-clause-gathered : goal.returns-clause-gathered
returns-clause-gathered c = λ n counts.
    let some : 0 < leaf_bytes (kind_of c.args.kind) =
    grind (arith, c.value_bytes.ensures, c.if-value_bytes-eq0.false) in
    subst (λ (k : ℕ). IsGathered (kind_of c.args.kind) c.args.memory.now c.args.run k c.in_ok-buffer.buffer.items)
    (counts some) c.in_ok-buffer.ensures
