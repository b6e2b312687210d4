-- The variables of a called procedure: where they are made in its frame, and that all of them stand there.
use Rattle.std.proofs.Common.{◌≡◌, ℕ, ◌+◌, ◌*◌, ◌^◌, ◌≤◌, inl, List, length, ap, arith}
use Rattle.std.specs.Prelude.{slice_get}
use Rattle.pli_coding.specs.Frames.{fixed_size}
use Rattle.pli_coding.specs.Environments.{Environment}
use Rattle.pli_coding.specs.Procedures.{procedure_environment}
use Rattle.pli_typing.specs.TypedTree as Y
use Rattle.pli_meaning.specs.Control.{Label}
use Rattle.pli_headline.specs.ProvedSoFar.{Names, Types, ArePlain, bytes_of}
use Rattle.run_steps.specs.Engine.{Base}
use Rattle.pli_headline.proofs.Statements.{Block, IsFilled, IsKnown}
use Rattle.pli_headline.proofs.MoreServed.{place_for}
use Rattle.pli_headline.proofs.Declares.{bytes_before, bytes_all, made_block}
use Rattle.pli_headline.proofs.DeclaredBegins.{vars_of, declared_place, is_made}
use Rattle.pli_headline.proofs.CalledFrames.{Callee}
use Rattle.pli_headline.proofs.MainOutlets.{HasMain}
use Rattle.pli_headline.proofs.CallRuns.{callee_block, CalleeMakes}

pub called_makes : {e : Environment} {block : Names} {types : Types} (bl : Block e block types) (callee : Callee bl) (head : Y.BlockHead) (next : head.level ≡ 1) (main : ℕ) (mains : List Label) (has : HasMain main mains e.level e.block bl.labels bl.outer) → IsKnown e → ArePlain (vars_of e head) → callee.at + fixed_size 1 0 + bytes_of (vars_of e head) + 4 ≤ 14 * 2 ^ 20 → bytes_of (vars_of e head) ≤ 2 ^ 20 → CalleeMakes bl callee head next main mains has
called_makes {e} bl callee head next main mains has known are room few back h0 t0 =
    let ds = vars_of e head in
    let e' = procedure_environment head e in
    let place : (i : ℕ) → i ≤ length ds → place_for e' i ≡ fixed_size head.level 0 + bytes_before ds i = λ i h. declared_place e head.number head.level i known are h (omega (arith, few, next)) in
    let first = place 0 (omega arith) in
    record {
      are = are;
      stand = λ i below. let z : 0 + i ≡ i = omega arith in ap (λ n. slice_get ds n) z;
      deep = omega (arith, next);
      new = λ j kind at. inl (let low = callee.outer j kind at in omega (arith, low, next));
      fresh = tt;
      own = λ n t b m o. o.own;
      places = λ i h.
          let z : 0 + i ≡ i = omega arith in
          let p = place i h in
          let q : place_for e' (0 + i) ≡ place_for e' i = ap (place_for e') z in
          omega (arith, p, q, next);
      room = room;
      near = omega (arith, first, few, next);
    }

pub called_filled : {e : Environment} {block : Names} {types : Types} (bl : Block e block types) (callee : Callee bl) (head : Y.BlockHead) (next : head.level ≡ 1) (main : ℕ) (mains : List Label) (has : HasMain main mains e.level e.block bl.labels bl.outer) → IsKnown e → ArePlain (vars_of e head) → bytes_of (vars_of e head) ≤ 2 ^ 20 → (makes : CalleeMakes bl callee head next main mains has) (back : Base → ℕ) (h0 t0 : ℕ → ℕ) (serial : ℕ) → IsFilled (made_block (callee_block bl callee head next main mains has back h0 t0) (vars_of e head) (makes back h0 t0) serial)
called_filled {e} bl callee head next main mains has known are few makes back h0 t0 serial owned =
    let ds = vars_of e head in
    let o = is_made ds (callee_block bl callee head next main mains has back h0 t0) (makes back h0 t0) serial in
    let frame = o.frame in
    let free = o.free in
    let p = declared_place e head.number head.level (length ds) known are (omega arith) (omega (arith, few, next)) in
    let all = bytes_all ds in
    omega (arith, frame, free, p, next, all)
