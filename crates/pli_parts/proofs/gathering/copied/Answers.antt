use Rattle.std.proofs.Common.{◌≡◌, ◌+◌, ◌-◌, ◌*◌, ◌++◌, ◌∙◌, List, ℕ, ap, arith, drop, length, replicate, take}
use Rattle.pli_typing.specs.Signatures.{leaf_bytes}
use Rattle.pli_signatures.specs.View.{kind_of}
use Rattle.pli_aggregates.proofs.Running.{inside_at}
use Rattle.pli_parts.proofs.Elements.{copied_so}
use Rattle.pli_parts.proofs.gathering.copied.Goals as goal

pub overflow_mul-last : goal.overflow_mul-last
overflow_mul-last c =
    let run = c.args.run in
    let inside = inside_at (leaf_bytes (kind_of c.args.kind)) (length c.args.memory.now) run.at run.step run.count
    (run.count - 1) c.requires.within (omega (arith, c.requires.some)) in
    omega (arith, inside)

pub overflow_add-last : goal.overflow_add-last
overflow_add-last c =
    let run = c.args.run in
    let inside = inside_at (leaf_bytes (kind_of c.args.kind)) (length c.args.memory.now) run.at run.step run.count
    (run.count - 1) c.requires.within (omega (arith, c.requires.some)) in
    omega (arith, inside)

pub overflow_add-end : goal.overflow_add-end
overflow_add-end c =
    let run = c.args.run in
    let inside = inside_at (leaf_bytes (kind_of c.args.kind)) (length c.args.memory.now) run.at run.step run.count
    (run.count - 1) c.requires.within (omega (arith, c.requires.some)) in
    omega (arith, inside, c.value_bytes.ensures)

pub overflow_add-end-2 : goal.overflow_add-end-2
overflow_add-end-2 c =
    let run = c.args.run in
    let inside = inside_at (leaf_bytes (kind_of c.args.kind)) (length c.args.memory.now) run.at run.step run.count
    (run.count - 1) c.requires.within (omega (arith, c.requires.some)) in
    omega (arith, inside, c.value_bytes.ensures, c.bytes_behind-zeros.ensures)

pub slice_bounds-extend_from_slice-end : goal.slice_bounds-extend_from_slice-end
slice_bounds-extend_from_slice-end c =
    let run = c.args.run in
    let inside = inside_at (leaf_bytes (kind_of c.args.kind)) (length c.args.memory.now) run.at run.step run.count
    (run.count - 1) c.requires.within (omega (arith, c.requires.some)) in
    omega (arith, inside, c.value_bytes.ensures)

pub returns : goal.returns
returns c =
    let run = c.args.run in
    let m = c.args.memory.now in
    let behind = run.step * (run.count - 1) in
    let end = run.at + behind + c.value_bytes.result in
    let inside = inside_at (leaf_bytes (kind_of c.args.kind)) (length m) run.at run.step run.count (run.count - 1)
    c.requires.within (omega (arith, c.requires.some)) in
    let long : end - run.at ≡ behind + leaf_bytes (kind_of c.args.kind) = omega (arith, c.value_bytes.ensures) in
    copied_so (kind_of c.args.kind) m run c.push_zeros.new.buffer.items (end - run.at) c.bytes_behind-zeros.result
    c.requires.some c.requires.even inside long c.bytes_behind-zeros.ensures
    (c.in_ok-push_zeros.ensures
    ∙ ap (λ (xs : List ℕ). xs ++ replicate c.bytes_behind-zeros.result 0) (c.in_ok-extend_from_slice.ensures.items
    ∙ ap (λ (xs : List ℕ). xs ++ take (end - run.at) (drop run.at m)) c.in_ok-buffer.ensures.items))
