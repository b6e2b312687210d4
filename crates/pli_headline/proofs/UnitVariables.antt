-- The variables of an on-unit: where they are made in its frame, and that all of them stand there; a single statement has none.
use Rattle.std.proofs.Common.{◌≡◌, ℕ, zero, suc, ◌+◌, ◌*◌, ◌^◌, ◌<◌, ◌≤◌, inl, List, [], ◌∷◌, length, refl, ap, ◌∙◌, arith}
use Rattle.std.specs.Prelude.{slice_get}
use Rattle.pli_typing.specs.TypedTree as Y
use Rattle.pli_meaning.specs.Control.{Label}
use Rattle.pli_meaning.specs.DeclaredShapes.{variables_of_block}
use Rattle.pli_coding.specs.Frames.{fixed_size, frame_end, variable_place, parameters_of_block}
use Rattle.pli_coding.specs.Environments.{Environment, in_frame}
use Rattle.pli_coding.specs.Statements.{owner_of_unit, unit_environment}
use Rattle.pli_headline.specs.Headline.{parts}
use Rattle.pli_headline.specs.ProvedSoFar.{Names, Types, ArePlain, IsUnitBody, bytes_of, unit_declares}
use Rattle.pli_headline.proofs.Entered.{Way}
use Rattle.run_steps.specs.Engine.{Base}
use Rattle.pli_headline.proofs.Statements.{Block, IsOwned, IsFilled, IsKnown, owned_of}
use Rattle.pli_headline.proofs.MoreServed.{place_for}
use Rattle.pli_headline.proofs.Declares.{Makes, bytes_before, bytes_all, made_block}
use Rattle.pli_headline.proofs.DeclaredBegins.{declared_place, is_made}
use Rattle.pli_headline.proofs.CalledFrames.{Callee}
use Rattle.pli_headline.proofs.MainOutlets.{HasMain}
use Rattle.pli_headline.proofs.UnitRuns.{unit_block, UnitMakes}

-- ---- their places

at_first : (at : ℕ) (ds : List Y.DeclaredVariable) → variable_place parts at ds 0 ≡ at + bytes_before ds 0
at_first at [] = omega arith
at_first at (d ∷ ds) = omega arith

none_before : (ds : List Y.DeclaredVariable) → bytes_before ds 0 ≡ bytes_before [] 0
none_before [] = refl
none_before (d ∷ ds) = refl

first_place : (e : Environment) (number level : ℕ) → IsKnown e → place_for (in_frame number level e) 0 ≡ fixed_size level 0 + bytes_before [] 0
first_place e number level known =
    let ds = variables_of_block e.program number in
    ap (λ p. variable_place p (fixed_size level (length (parameters_of_block e.program number))) ds 0) known.parts_are
    ∙ ap (λ (ns : List ℕ). variable_place parts (fixed_size level (length ns)) ds 0) (known.none number)
    ∙ (at_first (fixed_size level 0) ds ∙ ap (λ n. fixed_size level 0 + n) (none_before ds))

unit_place : (e : Environment) (head : Y.BlockHead) (kind : Y.BlockKind) (i : ℕ) → IsKnown e → ArePlain (unit_declares e.program head kind) → i ≤ length (unit_declares e.program head kind) → head.level ≡ 1 → bytes_of (unit_declares e.program head kind) ≤ 2 ^ 20 → place_for (in_frame head.number head.level e) i ≡ fixed_size head.level 0 + bytes_before (unit_declares e.program head kind) i
unit_place e head Y.SimpleUnit zero known are h next few = first_place e head.number head.level known
unit_place e head Y.SimpleUnit (suc i) known are h next few = absurd (omega (arith, h))
unit_place e head Y.UnitBlock i known are h next few = declared_place e head.number head.level i known are h (omega (arith, few, next))
unit_place e head Y.ProcedureBlock i known are h next few = declared_place e head.number head.level i known are h (omega (arith, few, next))
unit_place e head Y.BeginBlock i known are h next few = declared_place e head.number head.level i known are h (omega (arith, few, next))

unit_stand : (program : Y.Program) (head : Y.BlockHead) (kind : Y.BlockKind) (i : ℕ) → i < length (unit_declares program head kind) → slice_get (variables_of_block program head.number) i ≡ slice_get (unit_declares program head kind) i
unit_stand program head Y.SimpleUnit i below = absurd (omega (arith, below))
unit_stand program head Y.UnitBlock i below = refl
unit_stand program head Y.ProcedureBlock i below = refl
unit_stand program head Y.BeginBlock i below = refl

-- ---- in its frame

pub unit_makes : {e : Environment} {block : Names} {types : Types} (bl : Block e block types) (callee : Callee bl) (head : Y.BlockHead) (next : head.level ≡ 1) (main : ℕ) (mains : List Label) (has : HasMain main mains e.level e.block bl.labels bl.outer) → IsKnown e → ArePlain (unit_declares e.program head head.kind) → callee.at + fixed_size 1 0 + bytes_of (unit_declares e.program head head.kind) + 4 ≤ 14 * 2 ^ 20 → bytes_of (unit_declares e.program head head.kind) ≤ 2 ^ 20 → UnitMakes bl callee head next main mains has (unit_declares e.program head head.kind)
unit_makes {e} bl callee head next main mains has known are room few kind back h0 t0 =
    let ds = unit_declares e.program head head.kind in
    let e' = unit_environment head e in
    let place : (i : ℕ) → i ≤ length ds → place_for e' i ≡ fixed_size head.level 0 + bytes_before ds i = λ i h. unit_place e head head.kind i known are h next few in
    let first = place 0 (omega arith) in
    record {
      are = are;
      stand = λ i below. let z : 0 + i ≡ i = omega arith in ap (λ n. slice_get (variables_of_block e.program head.number) n) z ∙ unit_stand e.program head head.kind i below;
      deep = omega (arith, next);
      new = λ j kind' at. inl (let low = callee.outer j kind' at in omega (arith, low, next));
      fresh = tt;
      own = λ n t b m o. o.own;
      places = λ i h.
          let z : 0 + i ≡ i = omega arith in
          let p = place i h in
          let q : place_for e' (0 + i) ≡ place_for e' i = ap (place_for e') z in
          omega (arith, p, q, next);
      room = room;
      near = omega (arith, first, few, next);
    }

-- the end of its frame is known where it is a block
pub unit_sized : (e : Environment) (head : Y.BlockHead) (kind : Y.BlockKind) (body : Y.Stmts) → IsUnitBody kind body → IsKnown e → ArePlain (unit_declares e.program head kind) → head.level ≡ 1 → bytes_of (unit_declares e.program head kind) ≤ 2 ^ 20 → IsOwned (owner_of_unit head kind) → frame_end e.parts e.program head.number head.level ≡ fixed_size head.level 0 + bytes_of (unit_declares e.program head kind)
unit_sized e head Y.SimpleUnit body what known are next few owned = absurd owned
unit_sized e head Y.UnitBlock body what known are next few owned =
    let ds = variables_of_block e.program head.number in
    unit_place e head Y.UnitBlock (length ds) known are (omega arith) next few ∙ ap (λ n. fixed_size head.level 0 + n) (bytes_all ds)
unit_sized e head _ body what known are next few owned = absurd what

pub unit_filled : {e : Environment} {block : Names} {types : Types} (bl : Block e block types) (callee : Callee bl) (kind : Way) (back : Base → ℕ) (h0 t0 : ℕ → ℕ) (head : Y.BlockHead) (next : head.level ≡ 1) (main : ℕ) (mains : List Label) (has : HasMain main mains e.level e.block bl.labels bl.outer) (ds : List Y.DeclaredVariable) → (IsOwned (owner_of_unit head head.kind) → frame_end e.parts e.program head.number head.level ≡ fixed_size head.level 0 + bytes_of ds) → (makes : Makes (unit_block bl callee kind back h0 t0 head next main mains has) 0 ds) (serial : ℕ) → IsFilled (made_block (unit_block bl callee kind back h0 t0 head next main mains has) ds makes serial)
unit_filled {e} bl callee kind back h0 t0 head next main mains has ds sized makes serial owned =
    let o = is_made ds (unit_block bl callee kind back h0 t0 head next main mains has) makes serial in
    let frame = o.frame in
    let free = o.free in
    let p = sized (owned_of (owner_of_unit head head.kind) head.level next owned) in
    omega (arith, frame, free, p, next)
